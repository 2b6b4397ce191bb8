-- A transducer file that was read over one table of labels is read over each other one that has its
-- labels, by other numbers.
use Rattle.tib_cost.specs.declared.Scale.{Scale}
use Rattle.std.proofs.Common.{◌≡◌, ℕ, List, [], ◌∷◌, ◌++◌, length, map, refl, ap, sym, ◌∙◌, subst, arith, suc, Option}
use Rattle.std.specs.Prelude.{Some, None, slice_get, option_map}
use Rattle.std.proofs.lemmas.List.{length-map, map-append}
use Rattle.tib_lex.specs.Lists.{Along, Each}
use Rattle.tib_tree.specs.Grows.{Grows, AreDistinct}
use Rattle.tib_tree.specs.Trees.{Tree, Trees, none, tree, only, count, preorder, preorder_of, relabel, relabel_tree}
use Rattle.tib_tree.specs.Written.{Item}
use Rattle.tib_tree.proofs.Growing.{grows_not}
use Rattle.tib_tree.proofs.Counts.{count-relabel}
use Rattle.tib_grammar.specs.Sides.{Symbol, label, hole, holes}
use Rattle.tib_grammar.proofs.Renamed.{preorder-relabel}
use Rattle.tib_grammar_file.proofs.Alongs.{along_changes}
use Rattle.tib_transducer.specs.Range.{AreNumbered}
use Rattle.tib_transducer.specs.Rules.{variables_of}
use Rattle.tib_transducer.specs.TransducerOf.{TransducerOf}
use Rattle.tib_transducer.specs.declared.Variable.{Variable}
use Rattle.tib_transducer.specs.declared.Pair.{Pair}
use Rattle.tib_transducer.specs.declared.TransducerRule.{TransducerRule}
use Rattle.tib_transducer_file.specs.Forms.{variable_in, pair_in}
use Rattle.tib_transducer_file.specs.Rule.{Parts, RuleLine, label_of, numbers_in}
use Rattle.tib_transducer_file.specs.Value.{IsAsked, IsLeftSymbol, IsLeftNode, IsRootItem, IsLeftSide, IsRightSymbol, IsRightNode, IsRule}
use Rattle.tib_transducer_file.specs.TransducerText.{IsSmallRule, ReadsAs}
use Rattle.tib_transducer_file.proofs.FileRead.{rule_grows}
use Rattle.tib_canon.proofs.Relabelled.{variable_with, node_with, left_with}
use Rattle.tib_operations.proofs.Tables.{all_more, moved, moves}

-- a transducer with each label exchanged for another

abbrev pub right_with : (ℕ → ℕ) → Symbol ℕ (Pair ℕ) → Symbol ℕ (Pair ℕ)
right_with f s = node_with f (λ x. x) s

abbrev pub rule_with : (ℕ → ℕ) → TransducerRule ℕ → TransducerRule ℕ
rule_with f r = record { state = r.state; left = relabel_tree (left_with f) r.left; right = relabel_tree (right_with f) r.right; cost = r.cost }

abbrev transducer_with : (ℕ → ℕ) → TransducerOf → TransducerOf
transducer_with f t = record { names = t.names; rules = map (rule_with f) t.rules }

-- its preorders, and its variables

preorder_with : {A B : Type 0} (g : A → B) (t : Tree A) → preorder_of (relabel_tree g t) ≡ map (λ p. (g p.0, p.1)) (preorder_of t)
preorder_with g t =
    ap (λ n. (g t.label, n) ∷ preorder (relabel g t.kids)) (count-relabel g t.kids)
    ∙ ap (λ ps. (g t.label, count t.kids) ∷ ps) (preorder-relabel g t.kids)

as_long : {A B : Type 0} (g : A → B) (t : Tree A) → length (preorder_of (relabel_tree g t)) ≡ length (preorder_of t)
as_long g t = ap length (preorder_with g t) ∙ length-map (preorder_of t) (λ p. (g p.0, p.1))

pub holes_noted : {P : Type 0} (f : ℕ → ℕ) (r : P → P) (ts : Trees (Symbol ℕ P)) → holes (relabel (node_with f r) ts) ≡ map r (holes ts)
holes_noted f r none = refl
holes_noted {P} f r (tree (label g) kids rest) =
    ap (λ (xs : List P). xs ++ holes (relabel (node_with f r) rest)) (holes_noted f r kids)
    ∙ ap (λ (xs : List P). map r (holes kids) ++ xs) (holes_noted f r rest)
    ∙ sym (map-append r (holes kids) (holes rest))
holes_noted {P} f r (tree (hole x) kids rest) = ap (λ (xs : List P). r x ∷ xs) (holes_noted f r rest)

module _ (f : ℕ → ℕ) where
  pub variables_with : (ts : Trees (Symbol ℕ Variable)) → holes (relabel (left_with f) ts) ≡ map (variable_with f) (holes ts)
  variables_with ts = holes_noted f (variable_with f) ts

  numbered_with : (n : ℕ) (xs : List Variable) → AreNumbered n xs → AreNumbered n (map (variable_with f) xs)
  numbered_with n [] h = tt
  numbered_with n (x ∷ xs) h = (h.0, numbered_with (suc n) xs h.1)

  small_with : (rules : List (TransducerRule ℕ)) → Each IsSmallRule rules → Each IsSmallRule (map (rule_with f) rules)
  small_with [] s = tt
  small_with (r ∷ rules) s = ((omega (arith, s.0.0, as_long (left_with f) r.left), omega (arith, s.0.1, as_long (right_with f) r.right)), small_with rules s.1)

-- a text over the other numbers
module _ (labels others : List (List ℕ)) (f : ℕ → ℕ) (moves : (i : ℕ) (text : List ℕ) → slice_get labels i ≡ Some text → slice_get others (f i) ≡ Some text) where
  asked_with : (asked : Option ℕ) (o : Option (List ℕ)) → IsAsked labels asked o → IsAsked others (option_map f asked) o
  asked_with None None h = tt
  asked_with None (Some text) h = absurd h
  asked_with (Some g) None h = absurd h
  asked_with (Some g) (Some text) h = moves g text h

  left_symbol : (s : Symbol ℕ Variable) (o : Option (ℕ × Option (List ℕ))) (text : List ℕ) → IsLeftSymbol labels s o text → IsLeftSymbol others (left_with f s) o text
  left_symbol (label g) None text h = moves g text h
  left_symbol (label g) (Some v) text h = absurd h
  left_symbol (hole x) None text h = absurd h
  left_symbol (hole x) (Some v) text h = asked_with x.label v.1 h

  left_nodes : (ps : List (Symbol ℕ Variable × ℕ)) (is : List Item) → Along (IsLeftNode labels) ps is → Along (IsLeftNode others) (map (λ p. (left_with f p.0, p.1)) ps) is
  left_nodes [] [] a = tt
  left_nodes [] (i ∷ is) a = absurd a
  left_nodes (p ∷ ps) [] a = absurd a
  left_nodes (p ∷ ps) (i ∷ is) a = ((left_symbol p.0 (variable_in i) i.text a.0.0, a.0.1), left_nodes ps is a.1)

  root_with : (p : Symbol ℕ Variable × ℕ) (text : List ℕ) (kids : Option ℕ) → IsRootItem labels p text kids → IsRootItem others (left_with f p.0, p.1) text kids
  root_with (label g, rank) text kids h = (moves g text h.0, h.1)
  root_with (hole x, rank) text kids h = absurd h

  left_side : (ps : List (Symbol ℕ Variable × ℕ)) (p : Parts) → IsLeftSide labels ps p → IsLeftSide others (map (λ q. (left_with f q.0, q.1)) ps) p
  left_side [] p h = absurd h
  left_side (s ∷ ps) p h = (root_with s (label_of p) p.root.kids h.0, left_nodes ps p.below h.1)

  right_symbol :
      (names : List (List ℕ)) (numbers : List ℕ) (s : Symbol ℕ (Pair ℕ)) (o : Option (List ℕ × ℕ)) (text : List ℕ) → IsRightSymbol names labels numbers s o text →
      IsRightSymbol names others numbers (right_with f s) o text
  right_symbol names numbers (label g) None text h = moves g text h
  right_symbol names numbers (label g) (Some q) text h = absurd h
  right_symbol names numbers (hole x) None text h = absurd h
  right_symbol names numbers (hole x) (Some q) text h = h

  right_nodes :
      (names : List (List ℕ)) (numbers : List ℕ) (ps : List (Symbol ℕ (Pair ℕ) × ℕ)) (is : List Item) → Along (IsRightNode names labels numbers) ps is →
      Along (IsRightNode names others numbers) (map (λ p. (right_with f p.0, p.1)) ps) is
  right_nodes names numbers [] [] a = tt
  right_nodes names numbers [] (i ∷ is) a = absurd a
  right_nodes names numbers (p ∷ ps) [] a = absurd a
  right_nodes names numbers (p ∷ ps) (i ∷ is) a = ((right_symbol names numbers p.0 (pair_in i) i.text a.0.0, a.0.1), right_nodes names numbers ps is a.1)

  rule_over : (names : List (List ℕ)) (r : TransducerRule ℕ) (line : RuleLine) → IsRule names labels r line → IsRule names others (rule_with f r) line
  rule_over names r line h = record {
    state = h.state;
    left = subst (λ ps. IsLeftSide others ps line.parts) (sym (preorder_with (left_with f) r.left)) (left_side (preorder_of r.left) line.parts h.left);
    numbered = subst (AreNumbered 0) (sym (variables_with f (only r.left))) (numbered_with f 0 (variables_of r.left) h.numbered);
    right = subst (λ ps. Along (IsRightNode names others (numbers_in line.parts.below)) ps line.parts.right) (sym (preorder_with (right_with f) r.right))
        (right_nodes names (numbers_in line.parts.below) (preorder_of r.right) line.parts.right h.right);
    cost = h.cost;
  }

  rules_over : (names : List (List ℕ)) (rules : List (TransducerRule ℕ)) (lines : List RuleLine) → Along (IsRule names labels) rules lines → Along (IsRule names others) (map (rule_with f) rules) lines
  rules_over names [] [] a = tt
  rules_over names [] (line ∷ lines) a = absurd a
  rules_over names (r ∷ rules) [] a = absurd a
  rules_over names (r ∷ rules) (line ∷ lines) a = (rule_over names r line a.0, rules_over names rules lines a.1)

  reads_with : (scale : Scale) (bytes : List ℕ) (t : TransducerOf) → ReadsAs scale labels bytes t → ReadsAs scale others bytes (transducer_with f t)
  reads_with scale bytes t r = record {
    text = record {
      start = r.text.start;
      lines = r.text.lines;
      written = r.text.written;
      states = r.text.states;
      rules = rules_over t.names t.rules r.text.lines r.text.rules;
    };
    small = small_with f t.rules r.small;
  }

-- a transducer of the bytes over a table to which another has grown
pub record IsTransducerOver (scale : Scale) (early : List (List ℕ)) (bytes : List ℕ) : Type 0 where
  pub labels : List (List ℕ)
  pub t : TransducerOf
  pub grows : Grows early labels
  pub distinct : AreDistinct early → AreDistinct labels
  pub reads : ReadsAs scale labels bytes t

pub transducer_over : (scale : Scale) (early labels : List (List ℕ)) (bytes : List ℕ) (t : TransducerOf) → ReadsAs scale labels bytes t → IsTransducerOver scale early bytes
transducer_over scale early labels bytes t r =
    let o = all_more early labels in
    record {
      labels = o.0;
      t = transducer_with (moved labels o.0 o.1.has) t;
      grows = o.1.grows;
      distinct = o.1.distinct;
      reads = reads_with labels o.0 (moved labels o.0 o.1.has) (moves labels o.0 o.1.has) scale bytes t r;
    }

-- what was read over a table is read over each to which it has grown
pub transducer_grown :
    (scale : Scale) (early labels : List (List ℕ)) (bytes : List ℕ) (t : TransducerOf) → Grows early labels → ReadsAs scale early bytes t → ReadsAs scale labels bytes t
transducer_grown scale early labels bytes t grows r = record {
  text = record {
    start = r.text.start;
    lines = r.text.lines;
    written = r.text.written;
    states = r.text.states;
    rules = along_changes (IsRule t.names early) (IsRule t.names labels) t.rules r.text.lines (rule_grows t.names t.names early labels (grows_not t.names t.names refl) grows) r.text.rules;
  };
  small = r.small;
}
