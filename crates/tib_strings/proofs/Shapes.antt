-- The shape of a rule by the items of its left side and the words of its right side.
use Rattle.std.proofs.Common.{◌≡◌, ℕ, ◌<◌, List, length, ap, sym, ◌∙◌, subst, true}
use Rattle.tib_lex.specs.Lists.{Each}
use Rattle.tib_tree.specs.Trees.{preorder_of}
use Rattle.tib_grammar.specs.Items.{pairs_of as preorder_pairs, holes_in}
use Rattle.tib_grammar.specs.Range.{AllBelow}
use Rattle.tib_grammar.specs.declared.Item.{Item}
use Rattle.tib_grammar.proofs.Holes.{holes_of_items}
use Rattle.tib_transducer.specs.Rules.{variables_of}
use Rattle.tib_transducer.specs.Range.{AreNumbered}
use Rattle.tib_transducer.specs.Pairs.{begins, ArePairsWithin}
use Rattle.tib_transducer.specs.declared.Variable.{Variable}
use Rattle.tib_transducer.proofs.Shapes.{begins_from, pairs_from, pairs_to}
pub use Rattle.tib_transducer.proofs.Shapes.{leaves_label, leaves_hole}
use Rattle.tib_strings.specs.Rules.{pairs_of, states_in, variables_in}
use Rattle.tib_strings.specs.Range.{IsShaped, IsWithin}
use Rattle.tib_strings.specs.declared.StringRule.{StringRule}

module _ (left : List (Item Variable)) (r : StringRule ℕ) (n m : ℕ) (ls : preorder_pairs left ≡ preorder_of r.left) where
  pub shape_from : begins left ≡ true → m ≡ length (holes_in left) → AreNumbered 0 (holes_in left) → ArePairsWithin n m (pairs_of r.right) → IsShaped r
  shape_from b e a h = record {
    begins = begins_from left r.left ls b;
    numbered = subst (AreNumbered 0) (sym (holes_of_items left r.left ls)) a;
    known = subst (λ k. Each (λ i. i < k) (variables_in r.right)) (e ∙ ap length (sym (holes_of_items left r.left ls))) (pairs_from n m (pairs_of r.right) h).1;
  }

  pub within_from : ArePairsWithin n m (pairs_of r.right) → AllBelow n (states_in r.right)
  within_from h = (pairs_from n m (pairs_of r.right) h).0

  pub no_pairs : m ≡ length (holes_in left) → (ArePairsWithin n m (pairs_of r.right) → ⊥) → IsShaped r → IsWithin n r → ⊥
  no_pairs e bad s w =
      let many : length (variables_of r.left) ≡ m = ap length (holes_of_items left r.left ls) ∙ sym e in
      bad (pairs_to n m (pairs_of r.right) w.1 (subst (λ k. Each (λ i. i < k) (variables_in r.right)) many s.known))

pub no_numbers : (left : List (Item Variable)) (r : StringRule ℕ) → preorder_pairs left ≡ preorder_of r.left → (AreNumbered 0 (holes_in left) → ⊥) → IsShaped r → ⊥
no_numbers left r ls bad s = bad (subst (AreNumbered 0) (holes_of_items left r.left ls) s.numbered)
