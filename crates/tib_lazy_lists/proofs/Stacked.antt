-- Stacks of states that are to be asked.
use Rattle.std.specs.Prelude.{◌≡◌, ◌⊎◌, ℕ, ◌+◌, ◌<◌, ◌≤◌, List, [], ◌∷◌, ◌++◌, length, Option, None, Some, refl}
use Rattle.std.proofs.Common.{arith, ap, sym, ◌∙◌, subst, inl, inr, get_or}
use Rattle.tib_lex.specs.Lists.{Has}
use Rattle.tib_lex.proofs.Members.{has_left, has_right, has_either}
use Rattle.tib_ranked_trees.specs.Levels.{states_at}
use Rattle.tib_ranked_trees.specs.ListsOf.{ListsOf}
use Rattle.tib_ranked_trees.specs.Held.{list_of, candidate_at, below_of, ranks_of, ranks_from}
use Rattle.tib_ranked_trees.specs.declared.lists.Candidate.{Candidate}
use Rattle.tib_lazy_lists.specs.declared.walking.Question.{Question}
use Rattle.tib_lazy_lists.specs.AskingOf.{AskingOf}
use Rattle.tib_lazy_lists.specs.Asks.{IsAnswered, IsAsking}
use Rattle.tib_lazy_lists.specs.Stacks.{standing, AreBelow, IsNextBelow, IsToAsk}
use Rattle.tib_lazy_lists.proofs.Falls.{falls}

pub popped : (n : ℕ) (old rest : List Question) (q : Question) → old ≡ rest ++ q ∷ [] → AreBelow n old → (q.state < n) × AreBelow n rest
popped n old rest q e b = (
  b q (subst (λ (qs : List Question). Has qs q) (sym e) (has_right rest (q ∷ []) q (inl refl))),
  λ p h. b p (subst (λ (qs : List Question). Has qs p) (sym e) (has_left rest (q ∷ []) p h)),
)

pub pushed : (n : ℕ) (old now : List Question) (q : Question) → now ≡ old ++ q ∷ [] → AreBelow n old → q.state < n → AreBelow n now
pushed n old now q e b l = λ p h.
    elim (has_either old (q ∷ []) p (subst (λ (qs : List Question). Has qs p) e h)) [
      | inl i ↦ b p i
      | inr i ↦ elim i [ inl f ↦ omega (arith, l, ap (λ (r : Question). r.state) f) | inr bad ↦ absurd bad ]
    ]

next_or : (j n : ℕ) → j < n + 1 → (j < n) ⊎ (j ≡ n)
next_or j n h = grind arith

-- one more state below is answered
pub next_passed :
    (product : ℕ → ℕ → ℕ) (x : ListsOf) (a : AskingOf) (above : Question) (i : ℕ) (next : Option Question) (d e : Candidate) → d ≡ candidate_at x above.last → e ≡ candidate_at x above.last →
    IsAnswered product a.k x (get_or (states_at x.rules d.rule) i 0) (get_or (ranks_from x d.rule e.start) i 0) → IsNextBelow product x a above i next → IsNextBelow product x a above (i + 1) next
next_passed product x a above i (Some q) d e f g w n = n
next_passed product x a above i None d e f g w n =
    let c : Candidate = candidate_at x above.last in
    let w1 : IsAnswered product a.k x (get_or (states_at x.rules d.rule) i 0) (get_or (ranks_from x d.rule c.start) i 0) =
    subst (λ (b : Candidate). IsAnswered product a.k x (get_or (states_at x.rules d.rule) i 0) (get_or (ranks_from x d.rule b.start) i 0)) g w
    in
    let w2 : IsAnswered product a.k x (get_or (below_of x c) i 0) (get_or (ranks_of x c) i 0) =
    subst (λ (b : Candidate). IsAnswered product a.k x (get_or (states_at x.rules b.rule) i 0) (get_or (ranks_from x b.rule c.start) i 0)) f w1
    in
    λ j l. elim (next_or j i l) [
      | inl k ↦ n j k
      | inr k ↦ subst (λ (m : ℕ). IsAnswered product a.k x (get_or (below_of x c) m 0) (get_or (ranks_of x c) m 0)) (sym k) w2
    ]

pub next_all : (product : ℕ → ℕ → ℕ) (x : ListsOf) (a : AskingOf) (above : Question) (n i : ℕ) (next : Option Question) → n ≤ i → IsNextBelow product x a above i next → IsNextBelow product x a above n next
next_all product x a above n i (Some q) l h = h
next_all product x a above n i None l h = λ j b. h j (omega (arith, l, b))

-- and one that is to be asked is lower
pub next_falls :
    (product : ℕ → ℕ → ℕ) (x : ListsOf) (a : AskingOf) → IsAsking product x a → (above q : Question) → IsToAsk x a above → (i : ℕ) → i < length (below_of x (candidate_at x above.last)) → (d e : Candidate) →
    d ≡ candidate_at x above.last → e ≡ candidate_at x above.last → q.state ≡ get_or (states_at x.rules d.rule) i 0 → length (list_of x q.state) ≤ get_or (ranks_from x d.rule e.start) i 0 + 1 → standing x q.state < standing x above.state
next_falls product x a k above q up i inside d e f g at end =
    let c : Candidate = candidate_at x above.last in
    let r : ranks_from x d.rule e.start ≡ ranks_of x c = ap (λ (b : Candidate). ranks_from x b.rule e.start) f ∙ ap (λ (b : Candidate). ranks_from x c.rule b.start) g in
    falls product x a k above q up i inside (at ∙ ap (λ (b : Candidate). get_or (states_at x.rules b.rule) i 0) f)
    (subst (λ (js : List ℕ). length (list_of x q.state) ≤ get_or js i 0 + 1) r end)
