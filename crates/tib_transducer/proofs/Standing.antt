-- Linear and nondeleting rules by how often each variable occurs on the right.
use Rattle.std.proofs.Common.{◌≡◌, ℕ, ◌<◌, ◌≤◌, ◌⊎◌, List, length, map, ap, sym, ◌∙◌, subst, arith, inl, inr}
use Rattle.tib_lex.specs.Lists.{Has, Each, Distinct, occurrences}
use Rattle.tib_tree.specs.Trees.{preorder_of}
use Rattle.tib_grammar.specs.Items.{pairs_of, holes_in}
use Rattle.tib_grammar.specs.declared.Item.{Item}
use Rattle.tib_grammar.proofs.Holes.{holes_of_items}
use Rattle.tib_transducer.specs.Rules.{variables_of, variables_in}
use Rattle.tib_transducer.specs.Range.{IsShaped}
use Rattle.tib_transducer.specs.Classes.{IsLinear, IsNondeleting}
use Rattle.tib_transducer.specs.declared.Variable.{Variable}
use Rattle.tib_transducer.specs.declared.Pair.{Pair}
use Rattle.tib_transducer.specs.declared.TransducerRule.{TransducerRule}
use Rattle.tib_transducer.specs.Counting.{numbers_in}
use Rattle.tib_transducer.proofs.Counting.{has_occurs, occurs_has, distinct_from, distinct_once, none_above, each_numbered, numbered_each}

module _ (r : TransducerRule ℕ) (left : List (Item Variable)) (right : List (Item (Pair ℕ))) (ls : pairs_of left ≡ preorder_of r.left) (rs : pairs_of right ≡ preorder_of r.right) (m : ℕ) (many : m ≡ length (holes_in left)) (shaped : IsShaped r) where
  numbers : variables_in r.right ≡ numbers_in right
  numbers = ap (λ (xs : List (Pair ℕ)). map (λ x. x.variable) xs) (holes_of_items right r.right rs)

  long : length (variables_of r.left) ≡ m
  long = ap length (holes_of_items left r.left ls) ∙ sym many

  pub linear_from : ((n : ℕ) → n < m → occurrences n (numbers_in right) ≤ 1) → IsLinear r
  linear_from h = subst Distinct (sym numbers) (distinct_from (numbers_in right) (λ n. elim (either n m) [
    | inl low ↦ h n low
    | inr high ↦
        let known : Each (λ i. i < m) (numbers_in right) = subst (λ k. Each (λ i. i < k) (numbers_in right)) long (subst (Each (λ i. i < length (variables_of r.left))) numbers shaped.known) in
        omega (arith, none_above n m (numbers_in right) known high)
  ]))
    where
      either : (n m : ℕ) → (n < m) ⊎ (m ≤ n)
      either n m = grind arith

  pub linear_to : IsLinear r → (n : ℕ) → occurrences n (numbers_in right) ≤ 1
  linear_to h = distinct_once (numbers_in right) (subst Distinct numbers h)

  pub nondeleting_from : ((n : ℕ) → n < m → 1 ≤ occurrences n (numbers_in right)) → IsNondeleting r
  nondeleting_from h =
      each_numbered (variables_in r.right) 0 (variables_of r.left) shaped.numbered
      (λ i low high. subst (λ vs. Has vs i) (sym numbers) (occurs_has i (numbers_in right) (h i (omega (arith, high, long)))))

  pub nondeleting_to : IsNondeleting r → (n : ℕ) → n < m → 1 ≤ occurrences n (numbers_in right)
  nondeleting_to h n low =
      has_occurs n (numbers_in right)
      (subst (λ vs. Has vs n) numbers (numbered_each (variables_in r.right) 0 (variables_of r.left) shaped.numbered h n (omega arith) (omega (arith, low, long))))
