-- The tokens of a printed rule line spell the rule.
use Rattle.tib_cost.specs.declared.Scale.{Scale}
use Rattle.std.proofs.Common.{◌≡◌, ℕ, ◌+◌, ◌<◌, ◌≤◌, Bool, true, false, Option, List, [], ◌∷◌, ◌++◌, length, get_or, refl, ap, sym, ◌∙◌, arith, zero, suc}
use Rattle.std.specs.Prelude.{Some, None, not, ◌&&◌, ◌||◌, nat_eq, map}
use Rattle.std.specs.List.{list_any}
use Rattle.std.proofs.lemmas.Bool.Decides.{nat_tests}
use Rattle.std.proofs.lemmas.List.Folds.{list_any-append}
use Rattle.tib_lex.specs.Grammar.{arrow}
use Rattle.tib_lex.specs.Lists.{Each}
use Rattle.tib_lex.proofs.Booleans.{and-false}
use Rattle.tib_tree.specs.Trees.{Trees, none, tree, only}
use Rattle.tib_tree.specs.Written.{spell, Item, item, items, count}
use Rattle.tib_grammar.specs.Sides.{Symbol, Side, label as symbol_label, hole, holes}
use Rattle.tib_grammar.specs.StateName.{IsStateName}
use Rattle.tib_grammar_file.specs.Printable.{IsPlainCost}
use Rattle.tib_grammar_file.specs.Printed.{cost_text}
use Rattle.tib_transducer.specs.Range.{AreNumbered}
use Rattle.tib_transducer.specs.declared.Variable.{Variable}
use Rattle.tib_transducer.specs.declared.Pair.{Pair}
use Rattle.tib_transducer_file.specs.Pieces.{HasPieces}
use Rattle.tib_transducer_file.specs.Forms.{leaf_text, variable_of, variable_if, variable_in, pair_of, pair_if, pair_in, is_some, is_stray}
use Rattle.tib_transducer_file.specs.Rule.{Parts, parts, numbers_in, repeats, is_unknown, is_leaf, rule_line_of}
use Rattle.tib_transducer_file.specs.TransducerText.{HasParts, SpellsLine}
use Rattle.tib_transducer_file.proofs.VariablesUsed.{numbers_append}
use Rattle.tib_grammar_file.proofs.PrintedTrees.{name_at_is}
use Rattle.tib_grammar_file.proofs.PrintedRules.{weight_of, weight_is}
use Rattle.tib_transducer_file.specs.Printed.{is_plain, label_text, asked_text, pair_text, side_text}
use Rattle.tib_transducer_file.proofs.Numerals.{is_numeral}
use Rattle.tib_transducer_file.proofs.Tokens.{IsPlain, plain_is, quotes, label_some, label_no_variable, label_behind_stop, variable_again, pair_again, plain_no_pair, root_again}
use Rattle.tib_transducer_file.proofs.Forests.{token, first_had, behind, behind_had, written}
use Rattle.tib_transducer_file.proofs.LeftTokens.{FitsLeft, left_written, left_side, front_of, front_had, front_tree, root_item, kids_of}
use Rattle.tib_transducer_file.proofs.RightTokens.{Had, FitsRight, right_written, back_had}

-- labels are neither variables nor pairs

unquoted : (b : Bool) → not b ≡ false → b ≡ true
unquoted true e = refl
unquoted false e = let bad : true ≡ false = e in absurd (cc)

label_leaf : (text : List ℕ) (b : Bool) → quotes text ≡ b → (variable_in (item b text None) ≡ None) × (pair_in (item b text None) ≡ None)
label_leaf text true e = (refl, refl)
label_leaf text false e = let p : IsPlain text = plain_is text (unquoted (is_plain text) e) in (p.none, plain_no_pair text p.no_stop)

pub no_variable : (text : List ℕ) → variable_in (item (quotes text) text None) ≡ None
no_variable text = (label_leaf text (quotes text) refl).0

pub no_pair : (text : List ℕ) → pair_in (item (quotes text) text None) ≡ None
no_pair text = (label_leaf text (quotes text) refl).1

head_leaf : (b : Bool) (text : List ℕ) (n : ℕ) → leaf_text b (Some n) text ≡ None
head_leaf true text n = refl
head_leaf false text n = refl

pub no_variable_head : (b : Bool) (text : List ℕ) (n : ℕ) → variable_in (item b text (Some n)) ≡ None
no_variable_head b text n = ap variable_if (head_leaf b text n)

pub no_pair_head : (b : Bool) (text : List ℕ) (n : ℕ) → pair_in (item b text (Some n)) ≡ None
no_pair_head b text n = ap pair_if (head_leaf b text n)

-- the numbers of the variables of a left side

abbrev pub numbers_of : Trees (Symbol ℕ Variable) → List ℕ
numbers_of ts = map (λ x. x.number) (holes ts)

pub numbers_printed : (names labels : List (List ℕ)) (ts : Trees (Symbol ℕ Variable)) → FitsLeft labels ts → numbers_in (items (left_written names labels ts)) ≡ numbers_of ts
numbers_printed names labels none f = refl
numbers_printed names labels (tree (symbol_label l) none others) f =
    let e = no_variable (get_or labels l []) in
    rw e (numbers_printed names labels others f.2)
numbers_printed names labels (tree (symbol_label l) (tree g inner next) others) f =
    let kids : Trees (Symbol ℕ Variable) = tree g inner next in
    let e = no_variable_head (quotes (get_or labels l [])) (get_or labels l []) (count (left_written names labels kids)) in
    rw e (numbers_append (items (left_written names labels kids)) (items (left_written names labels others))
    ∙ ap (λ (ns : List ℕ). ns ++ numbers_in (items (left_written names labels others))) (numbers_printed names labels (tree g inner next) f.1)
    ∙ ap (λ (ns : List ℕ). numbers_of kids ++ ns) (numbers_printed names labels others f.2)
    ∙ sym (mapped (holes kids) (holes others)))
  where
    mapped : (xs ys : List Variable) → map (λ x. x.number) (xs ++ ys) ≡ map (λ x. x.number) xs ++ map (λ x. x.number) ys
    mapped [] ys = refl
    mapped (x ∷ xs) ys = ap (λ (ns : List ℕ). x.number ∷ ns) (mapped xs ys)
numbers_printed names labels (tree (hole x) none others) f =
    let e = variable_again x.number (asked_text labels x.label) (is_numeral x.number f.0.0) in
    rw e (ap (λ (ns : List ℕ). x.number ∷ ns) (numbers_printed names labels others f.2))
numbers_printed names labels (tree (hole x) (tree g inner next) others) f = absurd f.0

-- they are k, k + 1 and so on
abbrev pub upto : ℕ → ℕ → List ℕ
upto k zero = []
upto k (suc n) = k ∷ upto (suc k) n

pub numbered_upto : (k : ℕ) (xs : List Variable) → AreNumbered k xs → map (λ x. x.number) xs ≡ upto k (length xs)
numbered_upto k [] h = refl
numbered_upto k (x ∷ xs) h = ap (λ (n : ℕ). n ∷ map (λ x. x.number) xs) h.0 ∙ ap (λ (ns : List ℕ). k ∷ ns) (numbered_upto (suc k) xs h.1)

not_equal : (m k : ℕ) → suc k ≤ m → nat_eq m k ≡ false
not_equal m k h = grind (arith, nat_tests)

once_from : (before : List ℕ) (k n : ℕ) → ((m : ℕ) → k ≤ m → list_any (nat_eq m) before ≡ false) → repeats before (upto k n) ≡ false
once_from before k zero h = refl
once_from before k (suc n) h =
    let e = h k (omega arith) in
    rw e (once_from (before ++ k ∷ []) (suc k) n (λ m low.
    list_any-append (nat_eq m) before (k ∷ []) ∙ (let a = h m (omega arith) in let b = not_equal m k low in rw (a, b) refl)))

pub upto_once : (n : ℕ) → repeats [] (upto 0 n) ≡ false
upto_once n = once_from [] 0 n (λ m h. refl)

equal_or_later : (v k : ℕ) (b : Bool) → nat_eq v k ≡ b → k ≤ v → b ≡ false → suc k ≤ v
equal_or_later v k b e h f = let g : nat_eq v k ≡ false = e ∙ f in grind (arith, nat_tests)

among : (v k n : ℕ) → k ≤ v → v < k + n → list_any (nat_eq v) (upto k n) ≡ true
among v k zero h l = absurd (omega arith)
among v k (suc n) h l = by (nat_eq v k) refl (λ low. among v (suc k) n low (omega arith))
  where
    by : (b : Bool) → nat_eq v k ≡ b → (suc k ≤ v → list_any (nat_eq v) (upto (suc k) n) ≡ true) → (b || list_any (nat_eq v) (upto (suc k) n)) ≡ true
    by true e more = refl
    by false e more = more (equal_or_later v k false e h refl)

pub upto_has : (v n : ℕ) → v < n → list_any (nat_eq v) (upto 0 n) ≡ true
upto_has v n h = among v 0 n (omega arith) (omega arith)

-- the leaves of a right side

none_of : (f : Item → Bool) (i : Item) (is js : List Item) → f i ≡ false → list_any f is ≡ false → list_any f js ≡ false → list_any f (i ∷ (is ++ js)) ≡ false
none_of f i is js a b c = rw a (list_any-append f is js ∙ rw (b, c) refl)

none_next : (f : Item → Bool) (i : Item) (is : List Item) → f i ≡ false → list_any f is ≡ false → list_any f (i ∷ is) ≡ false
none_next f i is a b = rw a b

-- what fails for an item that is neither a pair nor a variable, and for pairs, fails for all
module _ (names labels : List (List ℕ)) (m : ℕ) (each : Each IsStateName names) where
  abbrev right_items : Trees (Symbol ℕ (Pair ℕ)) → List Item
  right_items ts = items (right_written names labels ts)

  pub pair_is : (x : Pair ℕ) → x.state < length names → x.variable < 1000000000 → pair_of (pair_text names labels x) ≡ Some (get_or names x.state [], x.variable)
  pair_is x h k = pair_again (get_or names x.state []) x.variable (name_at_is names x.state each h) (is_numeral x.variable k)

  no_item : (f : Item → Bool) → ((i : Item) → pair_in i ≡ None → variable_in i ≡ None → f i ≡ false) → ((x : Pair ℕ) → x.state < length names → x.variable < m → x.variable < 1000000000 → f (item false (pair_text names labels x) None) ≡ false) → (ts : Trees (Symbol ℕ (Pair ℕ))) → FitsRight (length names) m labels ts → list_any f (right_items ts) ≡ false
  no_item f labelled paired none h = refl
  no_item f labelled paired (tree (symbol_label l) none others) h =
      let text : List ℕ = get_or labels l [] in
      none_next f (item (quotes text) text None) (right_items others) (labelled (item (quotes text) text None) (no_pair text) (no_variable text)) (no_item f labelled paired others h.2)
  no_item f labelled paired (tree (symbol_label l) (tree g inner next) others) h =
      let text : List ℕ = get_or labels l [] in
      let kids : Trees (Symbol ℕ (Pair ℕ)) = tree g inner next in
      let n : ℕ = count (right_written names labels kids) in
      none_of f (item (quotes text) text (Some n)) (right_items kids) (right_items others) (labelled (item (quotes text) text (Some n)) (no_pair_head (quotes text) text n) (no_variable_head (quotes text) text n)) (no_item f labelled paired (tree g inner next) h.1) (no_item f labelled paired others h.2)
  no_item f labelled paired (tree (hole x) none others) h =
      none_next f (item false (pair_text names labels x) None) (right_items others) (paired x h.0.0 h.0.1 h.0.2) (no_item f labelled paired others h.2)
  no_item f labelled paired (tree (hole x) (tree g inner next) others) h = absurd h.0

  pub no_stray : (ts : Trees (Symbol ℕ (Pair ℕ))) → FitsRight (length names) m labels ts → list_any is_stray (right_items ts) ≡ false
  no_stray ts h = no_item is_stray (λ i a b. rw (a, b) refl) (λ x s v few. let e = pair_is x s few in rw e refl) ts h

  pub no_unknown : (numbers : List ℕ) → numbers ≡ upto 0 m → (ts : Trees (Symbol ℕ (Pair ℕ))) → FitsRight (length names) m labels ts → list_any (λ i. is_unknown numbers (pair_in i)) (right_items ts) ≡ false
  no_unknown numbers are ts h =
      no_item (λ i. is_unknown numbers (pair_in i)) (λ i a b. rw a refl)
      (λ x s v few. let e = pair_is x s few in let known : list_any (nat_eq x.variable) numbers ≡ true = ap (list_any (nat_eq x.variable)) are ∙ upto_has x.variable m v in rw e (rw known refl)) ts h

-- the line of a rule with the root's label, without its line feed
abbrev pub line_of : Scale → List (List ℕ) → List (List ℕ) → ℕ → ℕ → Trees (Symbol ℕ Variable) → Side ℕ (Pair ℕ) → ℕ → List ℕ
line_of scale names labels state f kids right cost =
    get_or names state [] ++ (46 ∷ (left_side names labels (get_or labels f []) kids ++ (32 ∷ (45 ∷ (62 ∷ (32 ∷ (side_text (pair_text names labels) labels right ++ cost_text scale cost)))))))

abbrev pub parts_of : Scale → List (List ℕ) → List (List ℕ) → ℕ → ℕ → Trees (Symbol ℕ Variable) → Side ℕ (Pair ℕ) → ℕ → Parts
parts_of scale names labels state f kids right cost =
    parts (root_item names labels (get_or names state []) (get_or labels f []) kids) (items (left_written names labels kids)) (items (right_written names labels (only right))) (weight_of scale cost)

-- what a rule must be to be printed
pub record FitsRule (scale : Scale) (names labels : List (List ℕ)) (state f : ℕ) (kids : Trees (Symbol ℕ Variable)) (right : Side ℕ (Pair ℕ)) (cost : ℕ) : Type 0 where
  pub state_is : state < length names
  pub label_is : f < length labels
  pub left : FitsLeft labels kids
  pub numbered : AreNumbered 0 (holes kids)
  pub right_fits : FitsRight (length names) (length (holes kids)) labels (only right)
  pub cost_is : IsPlainCost scale cost

-- one tree that is written
written_one : {P : Type 0} (show : P → List ℕ) (labels : List (List ℕ)) (s : Symbol ℕ P) (kids : Trees (Symbol ℕ P)) → count (written show labels (tree s kids none)) ≡ 1
written_one show labels s none = refl
written_one show labels s (tree g inner next) = refl

pub line_parts : (scale : Scale) (names labels : List (List ℕ)) (state f : ℕ) (kids : Trees (Symbol ℕ Variable)) (right : Side ℕ (Pair ℕ)) (cost : ℕ) → Each IsStateName names → FitsRule scale names labels state f kids right cost →
    HasParts (line_of scale names labels state f kids right cost) (parts_of scale names labels state f kids right cost)
line_parts scale names labels state f kids right cost e r =
    let q : List ℕ = get_or names state [] in
    let text : List ℕ = get_or labels f [] in
    let w : IsStateName q = name_at_is names state e r.state_is in
    let bytes : List ℕ = side_text (pair_text names labels) labels right ++ cost_text scale cost in
    let back : Had _ (32 ∷ bytes) = back_had scale names labels (length (holes kids)) right cost e r.right_fits r.cost_is in
    let mark : HasPieces (behind 1 (token arrow) ∷ back.pieces) (32 ∷ (45 ∷ (62 ∷ (32 ∷ bytes)))) = behind_had 1 (token arrow) back.pieces (45 ∷ (62 ∷ (32 ∷ bytes))) (first_had arrow back.pieces (32 ∷ bytes) tt refl back.has) in
    record {
      pieces = front_of labels q text kids ++ behind 1 (token arrow) ∷ back.pieces;
      has = front_had names labels q text kids (behind 1 (token arrow) ∷ back.pieces) (32 ∷ (45 ∷ (62 ∷ (32 ∷ bytes)))) w r.left refl mark;
      spells = record {
        front = front_of labels q text kids;
        arrow = behind 1 (token arrow);
        back = back.pieces;
        right_words = spell (right_written names labels (only right));
        are = refl;
        is_arrow = refl;
        left = front_tree names labels q text kids w r.left;
        state = root_again q (label_text text) w (label_some text);
        behind = sym back.mean;
        right = record { tree = right_written names labels (only right); spelled = refl; one = written_one (pair_text names labels) labels right.label right.kids; nodes = refl };
        leaves = no_stray names labels (length (holes kids)) e (only right) r.right_fits;
      };
    }

pub line_spelled : (scale : Scale) (names labels : List (List ℕ)) (state f : ℕ) (kids : Trees (Symbol ℕ Variable)) (right : Side ℕ (Pair ℕ)) (cost : ℕ) → Each IsStateName names → FitsRule scale names labels state f kids right cost →
    SpellsLine scale (line_of scale names labels state f kids right cost) (rule_line_of (parts_of scale names labels state f kids right cost) cost)
line_spelled scale names labels state f kids right cost e r =
    let q : List ℕ = get_or names state [] in
    let text : List ℕ = get_or labels f [] in
    let w : IsStateName q = name_at_is names state e r.state_is in
    let root_kids : Option ℕ = kids_of kids (left_written names labels kids) in
    let alone : is_some (variable_of (label_text text)) ≡ false = ap is_some (label_no_variable text) in
    let numbers : numbers_in (items (left_written names labels kids)) ≡ upto 0 (length (holes kids)) = numbers_printed names labels kids r.left ∙ numbered_upto 0 (holes kids) r.numbered in
    record {
      parts = line_parts scale names labels state f kids right cost e r;
      some = ap (λ (l : List ℕ). is_leaf root_kids && is_some (variable_of l)) (label_behind_stop q (label_text text) w.no_stop) ∙ ap (λ (b : Bool). is_leaf root_kids && b) alone ∙ and-false (is_leaf root_kids);
      once = ap (repeats []) numbers ∙ upto_once (length (holes kids));
      known = no_unknown names labels (length (holes kids)) e (numbers_in (items (left_written names labels kids))) numbers (only right) r.right_fits;
      cost = weight_is scale cost r.cost_is;
    }
