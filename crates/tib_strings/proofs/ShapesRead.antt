-- Rules that stand for lines have their shape, and their states have names.
use Rattle.std.proofs.Common.{◌≡◌, ℕ, ◌<◌, List, [], ◌∷◌, length, refl, arith, Option, zero, suc}
use Rattle.std.proofs.lemmas.Option.{slice_get_within}
use Rattle.tib_lex.specs.Lists.{Along, Each}
use Rattle.tib_tree.specs.Trees.{none}
use Rattle.tib_tree.specs.Written.{Item}
use Rattle.tib_grammar.specs.Sides.{Symbol, label, hole, Side}
use Rattle.tib_grammar.specs.Range.{AllBelow}
use Rattle.tib_strings.specs.Rules.{states_in, variables_in}
use Rattle.tib_strings.specs.Range.{IsShaped, AreShaped, IsWithin, AreWithin}
use Rattle.tib_strings.specs.declared.StringRule.{StringRule}
use Rattle.tib_strings.specs.declared.Word.{Word as Token}
use Rattle.tib_strings.specs.declared.Word.TheVariants.{Word, Hole}
use Rattle.tib_transducer.specs.Range.{BeginsWithLabel, IsShaped as IsShapedTree, IsWithin as IsWithinTree}
use Rattle.tib_transducer.specs.Rules.{variables_of}
use Rattle.tib_transducer.specs.declared.Variable.{Variable}
use Rattle.tib_transducer.specs.declared.Pair.{Pair}
use Rattle.tib_transducer.specs.declared.TransducerRule.{TransducerRule}
use Rattle.tib_transducer_file.proofs.ShapesRead.{rule_shaped as tree_shaped}
pub use Rattle.tib_transducer_file.proofs.ShapesRead.{left_ends}
use Rattle.tib_transducer_file.specs.Rule.{parts, RuleLine, rule_line_of, label_of, numbers_in, state_of}
use Rattle.tib_strings.specs.RuleValue.{IsRootItem, IsRightNode, nodes_of, IsRule}

-- the root is a label
root_label : (labels : List (List ℕ)) (s : Side ℕ Variable) (l : Symbol ℕ Variable) (n : ℕ) (text : List ℕ) (kids : Option ℕ) → s.label ≡ l → IsRootItem labels (l, n) text kids → BeginsWithLabel s
root_label labels s (label f) n text kids e h = record { root = f; is_root = e }
root_label labels s (hole x) n text kids e h = absurd h

module _ (names labels : List (List ℕ)) (r : StringRule ℕ) (line : RuleLine) (h : IsRule names labels r line) where
  -- the rule of a tree transducer with one pair in place of the list
  abbrev with_pair : Pair ℕ → TransducerRule ℕ
  with_pair x = record { state = r.state; left = r.left; right = record { label = hole x; kids = none }; cost = r.cost }

  abbrev line_with : Item → RuleLine
  line_with i = rule_line_of (parts line.parts.root line.parts.below (i ∷ []) line.parts.weight) line.cost

  one_pair : (x : Pair ℕ) (i : Item) → IsRightNode names labels (numbers_in line.parts.below) (hole x, 0) i → IsShapedTree (with_pair x) × IsWithinTree (length names) (with_pair x)
  one_pair x i n = tree_shaped names labels (with_pair x) (line_with i) (record { state = h.state; left = h.left; numbered = h.numbered; right = (n, tt); cost = h.cost })

  all_pairs : (ws : List (Token ℕ)) (is : List Item) → Along (IsRightNode names labels (numbers_in line.parts.below)) (nodes_of ws) is → Each (λ i. i < length (variables_of r.left)) (variables_in ws) × AllBelow (length names) (states_in ws)
  all_pairs [] [] a = (tt, tt)
  all_pairs [] (i ∷ is) a = absurd a
  all_pairs (w ∷ ws) [] a = absurd a
  all_pairs (Word f ∷ ws) (i ∷ is) a = all_pairs ws is a.1
  all_pairs (Hole x ∷ ws) (i ∷ is) a =
      let o = one_pair x i a.0 in
      let more = all_pairs ws is a.1 in
      ((o.0.known.0, more.0), (o.1.1.0, more.1))

  pub rule_shaped : IsShaped r × IsWithin (length names) r
  rule_shaped =
      let all = all_pairs r.right line.parts.right h.right in (
        record { begins = root_label labels r.left r.left.label _ (label_of line.parts) line.parts.root.kids refl h.left.0; numbered = h.numbered; known = all.0 },
        (slice_get_within names r.state (state_of line.parts) h.state, all.1),
      )

pub rules_shaped : (names labels : List (List ℕ)) (rules : List (StringRule ℕ)) (lines : List RuleLine) → Along (IsRule names labels) rules lines → AreShaped rules
rules_shaped names labels [] lines a m h = absurd (omega arith)
rules_shaped names labels (r ∷ rules) [] a m h = absurd a
rules_shaped names labels (r ∷ rules) (l ∷ lines) a zero h = (rule_shaped names labels r l a.0).0
rules_shaped names labels (r ∷ rules) (l ∷ lines) a (suc m) h = rules_shaped names labels rules lines a.1 m (omega arith)

pub rules_within : (names labels : List (List ℕ)) (rules : List (StringRule ℕ)) (lines : List RuleLine) → Along (IsRule names labels) rules lines → AreWithin (length names) rules
rules_within names labels [] lines a m h = absurd (omega arith)
rules_within names labels (r ∷ rules) [] a m h = absurd a
rules_within names labels (r ∷ rules) (l ∷ lines) a zero h = (rule_shaped names labels r l a.0).1
rules_within names labels (r ∷ rules) (l ∷ lines) a (suc m) h = rules_within names labels rules lines a.1 m (omega arith)
