-- What the trees of a list cost, one after the other.
use Rattle.std.specs.Prelude.{◌≡◌, ◌⊎◌, ℕ, ◌+◌, ◌<◌, Option, None, Some, List, [], ◌∷◌, ◌++◌, length, refl}
use Rattle.std.proofs.Common.{zero, suc, arith, ap, sym, ◌∙◌, subst, inl, inr, get_or}
use Rattle.tib_lex.proofs.Members.{each_has, has_at}
use Rattle.tib_cost.proofs.Least.{IsLeast-unique}
use Rattle.tib_tree.specs.Trees.{Tree}
use Rattle.tib_grammar.specs.Series.{IsSeries}
use Rattle.tib_grammar.specs.declared.Rule.{Rule}
use Rattle.tib_ranked_trees.specs.Best.{Costed, IsTreeAt}
use Rattle.tib_ranked_trees.specs.Pass.{no_entry}
use Rattle.tib_k_best.specs.Weights.{CostAsListed, CostFirst, HaveCosts}

last_or : (j m : ℕ) → j < m + 1 → (j < m) ⊎ (j ≡ m)
last_or j m h = grind arith

length_more : (ws : List ℕ) (w : ℕ) → length (ws ++ w ∷ []) ≡ length ws + 1
length_more [] w = refl
length_more (v ∷ ws) w = ap suc (length_more ws w) ∙ one (length ws)
  where
    one : (m : ℕ) → suc (m + 1) ≡ suc m + 1
    one m = omega arith

before : (ws : List ℕ) (w j : ℕ) → j < length ws → get_or (ws ++ w ∷ []) j 0 ≡ get_or ws j 0
before [] w j h = absurd (omega arith)
before (v ∷ ws) w zero h = refl
before (v ∷ ws) w (suc j) h = before ws w j (omega arith)

last : (ws : List ℕ) (w j : ℕ) → j ≡ length ws → get_or (ws ++ w ∷ []) j 0 ≡ w
last [] w zero e = refl
last [] w (suc j) e = absurd (omega (arith, e))
last (v ∷ ws) w zero e = absurd (omega (arith, e))
last (v ∷ ws) w (suc j) e = last ws w j (omega (arith, e))

-- a tree of the list has a cost
pub has_cost :
    (product : ℕ → ℕ → ℕ) (rules : List (Rule ℕ)) (xs : List Costed) (i : ℕ) → i < length xs → HaveCosts product rules xs → (t : Tree ℕ) → t ≡ (get_or xs i no_entry).0 → (v : Option ℕ) →
    IsSeries product rules t v → v ≡ None → ⊥
has_cost product rules xs i h have t same v series none =
    let c = each_has (λ x. (c : ℕ) × IsTreeAt product rules 0 (x.0, c)) xs (get_or xs i no_entry) have (has_at xs i no_entry h) in
    let there : IsSeries product rules t (Some c.0) = subst (λ s. IsSeries product rules s (Some c.0)) (sym same) c.1 in
    let e : Some c.0 ≡ None = IsLeast-unique there (subst (λ u. IsSeries product rules t u) none series) in
    cc

-- one more cost
pub costs_more :
    (product : ℕ → ℕ → ℕ) (rules : List (Rule ℕ)) (xs : List Costed) (i : ℕ) (ws : List ℕ) → (length ws ≡ i) × CostFirst product rules xs ws → (t : Tree ℕ) → t ≡ (get_or xs i no_entry).0 → (w : ℕ) →
    IsSeries product rules t (Some w) → (us : List ℕ) → us ≡ ws ++ w ∷ [] → (length us ≡ i + 1) × CostFirst product rules xs us
costs_more product rules xs i ws now t same w series us put =
    subst (λ vs. (length vs ≡ i + 1) × CostFirst product rules xs vs) (sym put) (
      length_more ws w ∙ ap (λ n. n + 1) now.0,
      λ j h. elim (last_or j (length ws) (omega (arith, h, length_more ws w))) [
        | inl l ↦ subst (λ v. IsTreeAt product rules 0 ((get_or xs j no_entry).0, v)) (sym (before ws w j l)) (now.1 j l)
        | inr e ↦
            let here : j ≡ i = e ∙ now.0 in
            let tree : IsTreeAt product rules 0 ((get_or xs i no_entry).0, w) = subst (λ s. IsTreeAt product rules 0 (s, w)) same series in
            subst (λ v. IsTreeAt product rules 0 ((get_or xs j no_entry).0, v)) (sym (last ws w j e)) (subst (λ n. IsTreeAt product rules 0 ((get_or xs n no_entry).0, w)) (sym here) tree)
      ],
    )

-- one more cost of those that are there
pub listed_more :
    (xs : List Costed) (i : ℕ) (ws : List ℕ) → (length ws ≡ i) × CostAsListed xs ws → (w : ℕ) → w ≡ (get_or xs i no_entry).1 → (us : List ℕ) → us ≡ ws ++ w ∷ [] →
    (length us ≡ i + 1) × CostAsListed xs us
listed_more xs i ws now w here us put =
    subst (λ vs. (length vs ≡ i + 1) × CostAsListed xs vs) (sym put) (
      length_more ws w ∙ ap (λ n. n + 1) now.0,
      λ j h. elim (last_or j (length ws) (omega (arith, h, length_more ws w))) [
        | inl l ↦ before ws w j l ∙ now.1 j l
        | inr e ↦ last ws w j e ∙ here ∙ ap (λ n. (get_or xs n no_entry).1) (sym (e ∙ now.0))
      ],
    )
