-- The line of a printed rule stands for the rule, whatever the numbers of the states.
use Rattle.tib_cost.specs.declared.Scale.{Scale}
use Rattle.std.proofs.Common.{◌≡◌, ℕ, ◌+◌, ◌<◌, false, Option, List, [], ◌∷◌, ◌++◌, length, get_or, refl, ap, sym, ◌∙◌, subst, arith, zero, suc}
use Rattle.std.specs.Prelude.{Some, None, slice_get, map}
use Rattle.std.proofs.lemmas.Option.{slice_get-get_or}
use Rattle.std.proofs.lemmas.List.{map-append}
use Rattle.tib_lex.specs.Lists.{Along, Each}
use Rattle.tib_lex.proofs.Lists.{append_nil}
use Rattle.tib_lex.proofs.Alongs.{along_append}
use Rattle.tib_tree.specs.Nodes.{rank_of}
use Rattle.tib_tree.specs.Trees.{Trees, none, tree, only, count, preorder, preorder_of, relabel}
use Rattle.tib_tree.specs.Written.{Item, item, items, count as count_written}
use Rattle.tib_grammar.specs.Sides.{Symbol, Side, label as symbol_label, hole, holes, symbol_map, side_map}
use Rattle.tib_grammar.specs.StateName.{IsStateName}
use Rattle.tib_grammar_file.proofs.PrintedRules.{Renames}
use Rattle.tib_grammar_file.proofs.PrintedTrees.{name_at_is}
use Rattle.tib_transducer.specs.Range.{AreNumbered}
use Rattle.tib_transducer.specs.declared.Variable.{Variable}
use Rattle.tib_transducer.specs.declared.Pair.{Pair}
use Rattle.tib_transducer.specs.declared.TransducerRule.{TransducerRule}
use Rattle.tib_transducer.specs.NamedPairs.{named_pair}
use Rattle.tib_transducer_file.specs.Forms.{variable_in, pair_in, written_label}
use Rattle.tib_transducer_file.specs.Rule.{rule_line_of, label_of, numbers_in}
use Rattle.tib_transducer_file.specs.Value.{IsAsked, IsLeftSymbol, IsLeftNode, IsRightSymbol, IsRightNode, IsRule, states_in}
use Rattle.tib_transducer_file.proofs.SidesRead.{states_append}
use Rattle.tib_transducer_file.specs.ByName.{IsPlainAsked, named_rule}
use Rattle.tib_transducer_file.specs.Printed.{label_text, asked_text, variable_text, pair_text}
use Rattle.tib_transducer_file.proofs.Numerals.{is_numeral}
use Rattle.tib_transducer_file.proofs.Tokens.{quotes, label_again, label_behind_stop, state_before as state_again, variable_again, asked_again, asked_of}
use Rattle.tib_transducer_file.proofs.Forests.{written}
use Rattle.tib_transducer_file.proofs.LeftTokens.{FitsLeft, left_written, kids_of}
use Rattle.tib_transducer_file.proofs.RightTokens.{FitsRight, right_written}
use Rattle.tib_transducer_file.proofs.RuleTokens.{no_variable, no_pair, no_variable_head, no_pair_head, numbers_printed, upto, numbered_upto, pair_is, parts_of, FitsRule}

-- as many trees are written as there are
pub count_same : {P : Type 0} (show : P → List ℕ) (labels : List (List ℕ)) (ts : Trees (Symbol ℕ P)) → count_written (written show labels ts) ≡ count ts
count_same show labels none = refl
count_same show labels (tree s none others) = ap suc (count_same show labels others)
count_same show labels (tree s (tree g inner next) others) = ap suc (count_same show labels others)

-- left sides

asked_is : (labels : List (List ℕ)) (asked : Option ℕ) → IsPlainAsked labels asked → IsAsked labels asked (asked_of labels asked)
asked_is labels None h = tt
asked_is labels (Some f) h = slice_get-get_or labels f [] h.0

label_left : (labels : List (List ℕ)) (l : ℕ) (i : Item) → l < length labels → variable_in i ≡ None → i.text ≡ get_or labels l [] → IsLeftSymbol labels (symbol_label l) (variable_in i) i.text
label_left labels l i h e t = subst (λ (o : Option (ℕ × Option (List ℕ))). IsLeftSymbol labels (symbol_label l) o i.text) (sym e) (slice_get-get_or labels l [] h ∙ ap (λ (x : List ℕ). Some x) (sym t))

pub left_nodes : (names labels : List (List ℕ)) (ts : Trees (Symbol ℕ Variable)) → FitsLeft labels ts → Along (IsLeftNode labels) (preorder ts) (items (left_written names labels ts))
left_nodes names labels none f = tt
left_nodes names labels (tree (symbol_label l) none others) f =
    let text : List ℕ = get_or labels l [] in
    ((label_left labels l (item (quotes text) text None) f.0.0 (no_variable text) refl, refl), left_nodes names labels others f.2)
left_nodes names labels (tree (symbol_label l) (tree g inner next) others) f =
    let text : List ℕ = get_or labels l [] in
    let kids : Trees (Symbol ℕ Variable) = tree g inner next in
    let n : ℕ = count_written (left_written names labels kids) in (
      (label_left labels l (item (quotes text) text (Some n)) f.0.0 (no_variable_head (quotes text) text n) refl, sym (count_same (variable_text names labels) labels kids)),
      along_append (IsLeftNode labels) (preorder kids) (preorder others) (items (left_written names labels kids)) (items (left_written names labels others)) (left_nodes names labels (tree g inner next) f.1) (left_nodes names labels others f.2),
    )
left_nodes names labels (tree (hole x) none others) f =
    let text : List ℕ = variable_text names labels x in
    let e : variable_in (item false text None) ≡ Some (x.number, asked_of labels x.label) =
    variable_again x.number (asked_text labels x.label) (is_numeral x.number f.0.0) ∙ ap (λ (o : Option (List ℕ)). Some (x.number, o)) (asked_again labels x.label) in (
      (subst (λ (o : Option (ℕ × Option (List ℕ))). IsLeftSymbol labels (hole x) o text) (sym e) (asked_is labels x.label f.0.1), refl),
      left_nodes names labels others f.2,
    )
left_nodes names labels (tree (hole x) (tree g inner next) others) f = absurd f.0

-- right sides

label_right : (names labels : List (List ℕ)) (numbers : List ℕ) (l : ℕ) (i : Item) → l < length labels → pair_in i ≡ None → i.text ≡ get_or labels l [] → IsRightSymbol names labels numbers (symbol_label l) (pair_in i) i.text
label_right names labels numbers l i h e t = subst (λ (o : Option (List ℕ × ℕ)). IsRightSymbol names labels numbers (symbol_label l) o i.text) (sym e) (slice_get-get_or labels l [] h ∙ ap (λ (x : List ℕ). Some x) (sym t))

upto_at : (k n i : ℕ) → i < n → slice_get (upto k n) i ≡ Some (k + i)
upto_at k zero i h = absurd (omega arith)
upto_at k (suc n) zero h = ap (λ (m : ℕ). Some m) (omega arith)
upto_at k (suc n) (suc i) h = upto_at (suc k) n i (omega arith) ∙ ap (λ (m : ℕ). Some m) (omega arith)

count_relabel : {A B : Type 0} (g : A → B) (ts : Trees A) → count (relabel g ts) ≡ count ts
count_relabel g none = refl
count_relabel g (tree s kids others) = ap suc (count_relabel g others)

module _ (names others labels : List (List ℕ)) (number : ℕ → ℕ) (m : ℕ) (numbers : List ℕ) (each : Each IsStateName names) (ren : Renames names others number) (are : numbers ≡ upto 0 m) where
  abbrev numbered_trees : Trees (Symbol ℕ (Pair ℕ)) → Trees (Symbol ℕ (Pair ℕ))
  numbered_trees ts = relabel (symbol_map (named_pair number)) ts

  pub right_nodes : (ts : Trees (Symbol ℕ (Pair ℕ))) → FitsRight (length names) m labels ts → Along (IsRightNode others labels numbers) (preorder (numbered_trees ts)) (items (right_written names labels ts))
  right_nodes none f = tt
  right_nodes (tree (symbol_label l) none rest) f =
      let text : List ℕ = get_or labels l [] in
      ((label_right others labels numbers l (item (quotes text) text None) f.0.0 (no_pair text) refl, refl), right_nodes rest f.2)
  right_nodes (tree (symbol_label l) (tree g inner next) rest) f =
      let text : List ℕ = get_or labels l [] in
      let kids : Trees (Symbol ℕ (Pair ℕ)) = tree g inner next in
      let n : ℕ = count_written (right_written names labels kids) in (
        (label_right others labels numbers l (item (quotes text) text (Some n)) f.0.0 (no_pair_head (quotes text) text n) refl, count_relabel (symbol_map (named_pair number)) kids ∙ sym (count_same (pair_text names labels) labels kids)),
        along_append (IsRightNode others labels numbers) (preorder (numbered_trees kids)) (preorder (numbered_trees rest)) (items (right_written names labels kids)) (items (right_written names labels rest)) (right_nodes (tree g inner next) f.1) (right_nodes rest f.2),
      )
  right_nodes (tree (hole x) none rest) f =
      let text : List ℕ = pair_text names labels x in
      let e : pair_in (item false text None) ≡ Some (get_or names x.state [], x.variable) = pair_is names labels m each x f.0.0 f.0.2 in
      let place : slice_get numbers x.variable ≡ Some x.variable =
      ap (λ (ns : List ℕ). slice_get ns x.variable) are ∙ upto_at 0 m x.variable f.0.1 ∙ ap (λ (v : ℕ). Some v) (omega arith) in (
        (subst (λ (o : Option (List ℕ × ℕ)). IsRightSymbol others labels numbers (hole (named_pair number x)) o text) (sym e) (ren.to x.state f.0.0, place), refl),
        right_nodes rest f.2,
      )
  right_nodes (tree (hole x) (tree g inner next) rest) f = absurd f.0

-- a rule whose left side begins with a label
abbrev pub rule_with : ℕ → ℕ → Trees (Symbol ℕ Variable) → Side ℕ (Pair ℕ) → ℕ → TransducerRule ℕ
rule_with state f kids right cost = record { state = state; left = record { label = symbol_label f; kids = kids }; right = right; cost = cost }

rank_written : (names labels : List (List ℕ)) (kids : Trees (Symbol ℕ Variable)) → count kids ≡ rank_of (kids_of kids (left_written names labels kids))
rank_written names labels none = refl
rank_written names labels (tree s inner next) = sym (count_same (variable_text names labels) labels (tree s inner next))

holes_alone : (f : ℕ) (kids : Trees (Symbol ℕ Variable)) → holes (tree (symbol_label f) kids none) ≡ holes kids
holes_alone f kids = append_nil (holes kids)

pub rule_meant : (scale : Scale) (names others labels : List (List ℕ)) (number : ℕ → ℕ) (state f : ℕ) (kids : Trees (Symbol ℕ Variable)) (right : Side ℕ (Pair ℕ)) (cost : ℕ) → Each IsStateName names → Renames names others number → FitsRule scale names labels state f kids right cost →
    IsRule others labels (named_rule number (rule_with state f kids right cost)) (rule_line_of (parts_of scale names labels state f kids right cost) cost)
rule_meant scale names others labels number state f kids right cost e n r =
    let q : List ℕ = get_or names state [] in
    let text : List ℕ = get_or labels f [] in
    let w : IsStateName q = name_at_is names state e r.state_is in
    let numbers : numbers_in (items (left_written names labels kids)) ≡ upto 0 (length (holes kids)) = numbers_printed names labels kids r.left ∙ numbered_upto 0 (holes kids) r.numbered in
    let label_is : label_of (parts_of scale names labels state f kids right cost) ≡ text = ap written_label (label_behind_stop q (label_text text) w.no_stop) ∙ label_again text in
    record {
      state = n.to state r.state_is ∙ ap (λ (t : List ℕ). Some t) (sym (state_again q (label_text text) w.no_stop));
      left = ((slice_get-get_or labels f [] r.label_is ∙ ap (λ (t : List ℕ). Some t) (sym label_is), rank_written names labels kids), left_nodes names labels kids r.left);
      numbered = subst (λ (xs : List Variable). AreNumbered 0 xs) (sym (holes_alone f kids)) r.numbered;
      right = subst (λ (ns : List (Symbol ℕ (Pair ℕ) × ℕ)). Along (IsRightNode others labels (numbers_in (items (left_written names labels kids)))) ns (items (right_written names labels (only right)))) (append_nil_pairs right)
          (right_nodes names others labels number (length (holes kids)) (numbers_in (items (left_written names labels kids))) e n numbers (only right) r.right_fits);
      cost = refl;
    }
  where
    append_nil_pairs : (s : Side ℕ (Pair ℕ)) → preorder (relabel (symbol_map (named_pair number)) (only s)) ≡ preorder_of (side_map (named_pair number) s)
    append_nil_pairs s = ap (λ (ns : List (Symbol ℕ (Pair ℕ) × ℕ)). (symbol_map (named_pair number) s.label, count (relabel (symbol_map (named_pair number)) s.kids)) ∷ ns) (append_nil (preorder (relabel (symbol_map (named_pair number)) s.kids)))

-- the states of a right side, by their names
pub states_printed : (names labels : List (List ℕ)) (m : ℕ) (ts : Trees (Symbol ℕ (Pair ℕ))) → Each IsStateName names → FitsRight (length names) m labels ts → states_in (items (right_written names labels ts)) ≡ map (λ x. get_or names x.state []) (holes ts)
states_printed names labels m none e f = refl
states_printed names labels m (tree (symbol_label l) none others) e f =
    let none_here = no_pair (get_or labels l []) in
    rw none_here (states_printed names labels m others e f.2)
states_printed names labels m (tree (symbol_label l) (tree g inner next) others) e f =
    let kids : Trees (Symbol ℕ (Pair ℕ)) = tree g inner next in
    let none_here = no_pair_head (quotes (get_or labels l [])) (get_or labels l []) (count_written (right_written names labels kids)) in
    rw none_here (states_append (items (right_written names labels kids)) (items (right_written names labels others))
    ∙ ap (λ (ss : List (List ℕ)). ss ++ states_in (items (right_written names labels others))) (states_printed names labels m (tree g inner next) e f.1)
    ∙ ap (λ (ss : List (List ℕ)). map (λ x. get_or names x.state []) (holes kids) ++ ss) (states_printed names labels m others e f.2)
    ∙ sym (map-append (λ (x : Pair ℕ). get_or names x.state []) (holes kids) (holes others)))
states_printed names labels m (tree (hole x) none others) e f =
    let pair = pair_is names labels m e x f.0.0 f.0.2 in
    rw pair (ap (λ (ss : List (List ℕ)). get_or names x.state [] ∷ ss) (states_printed names labels m others e f.2))
states_printed names labels m (tree (hole x) (tree g inner next) others) e f = absurd f.0
