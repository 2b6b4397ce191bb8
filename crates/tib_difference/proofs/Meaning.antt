-- With its fresh start the reached set has the series of the difference.
use Rattle.std.specs.Prelude.{◌≡◌, ℕ, List, [], ◌∷◌, length, Bool, Option, None}
use Rattle.std.proofs.Common.{arith, ap, sym, ◌∙◌, subst, inl, inr}
use Rattle.tib_lex.specs.Lists.{Has}
use Rattle.tib_tree.specs.Trees.{Tree, only}
use Rattle.tib_grammar.specs.Run.{IsCost}
use Rattle.tib_grammar.specs.Forms.{AreNormal}
use Rattle.tib_grammar.specs.Range.{AllBelow}
use Rattle.tib_grammar.specs.Series.{IsSeries}
use Rattle.tib_grammar.specs.declared.Rule.{Rule}
use Rattle.tib_cost.specs.Semiring.{ProductLaws}
use Rattle.tib_cost.proofs.Least.{IsLeast-same, IsLeast-none, IsLeast-unique}
use Rattle.tib_difference.specs.Subsets.{SubsetOf}
use Rattle.tib_difference.specs.Difference.{KeyOf, states_of, subsets_of, key_at, keys_at}
use Rattle.tib_difference.specs.Series.{IsDifferenceSeries, finals, started, IsReachedGrammar, ReachedHasSeries}
use Rattle.tib_difference.proofs.TreeSets.{sets_of, set_of, run_has, has_run, run_or_not}
use Rattle.tib_difference.proofs.Running.{IsProjected, project, cover}
use Rattle.tib_difference.proofs.Fresh.{BeginsAtFinal, to_final, from_final}
use Rattle.tib_difference.proofs.FinalKeys.{IsFinal, IsFinalKey, finals_have, has_finals}

module _
    {levelled weighted : Bool} {product : ℕ → ℕ → ℕ} (laws : ProductLaws levelled weighted product)
    (one two : List (Rule ℕ)) (one_normal : AreNormal one) (two_normal : AreNormal two) (order : List KeyOf) (new : List (Rule ℕ))
    (found : IsReachedGrammar one two order new) (t : Tree ℕ) where
  abbrev StartedCost : ℕ → Type 0
  StartedCost c = IsCost product (started order new) (0 ∷ []) (only t) c

  abbrev FirstCost : ℕ → Type 0
  FirstCost c = IsCost product one (0 ∷ []) (only t) c

  head_same : (x y : SubsetOf) → ◌≡◌ {A = List SubsetOf} (x ∷ []) (y ∷ []) → x ≡ y
  head_same x y e = cc

  -- a run from the start is one of the first grammar, and the start is not in the tree's set
  of_first : (c : ℕ) → StartedCost c → FirstCost c × (Has (set_of two t) 0 → ⊥)
  of_first c h =
      let b : BeginsAtFinal laws (finals 0 order) new t c = to_final laws (finals 0 order) new t c h in
      let f : IsFinal 0 order b.final = finals_have 0 order b.final b.has in
      let at : b.final.0 ≡ f.position = omega (arith, f.is) in
      let key : IsFinalKey (key_at order b.final.0) = subst (λ i. IsFinalKey (key_at order i)) (sym at) f.key in
      let r : IsProjected laws one two one_normal order new found (b.final.0 ∷ []) (only t) b.rest = project laws one two one_normal order new found (only t) (b.final.0 ∷ []) b.rest b.run in
      let same : b.rest ≡ c = sym (laws.neutral b.rest) ∙ ap (λ w. product w b.rest) (sym f.costs) ∙ b.costs in
      let set : (key_at order b.final.0).1 ≡ set_of two t = head_same (key_at order b.final.0).1 (set_of two t) r.sets in (
        subst FirstCost same (subst (λ q. IsCost product one (q ∷ []) (only t) b.rest) key.start r.costs),
        λ has. key.without (subst (λ (v : SubsetOf). Has v 0) (sym set) has),
      )

  -- a run of the first grammar is one from the start, where the start is not in the tree's set
  to_started : (Has (set_of two t) 0 → ⊥) → (c : ℕ) → FirstCost c → StartedCost c
  to_started never c h = let r = cover laws one two one_normal order new found (only t) (0 ∷ []) c h in by r.positions r.below r.states r.sets r.costs
    where
      by :
          (ps : List ℕ) → AllBelow (length order) ps → states_of (keys_at order ps) ≡ 0 ∷ [] → subsets_of (keys_at order ps) ≡ sets_of two (only t) →
          IsCost product new ps (only t) c → StartedCost c
      by [] b states sets run = absurd (cc)
      by (k ∷ []) b states sets run =
          let state : (key_at order k).0 ≡ 0 = cc in
          let set : (key_at order k).1 ≡ set_of two t = head_same (key_at order k).1 (set_of two t) sets in
          let key : IsFinalKey (key_at order k) = record { start = state; without = λ has. never (subst (λ (v : SubsetOf). Has v 0) set has) } in
          subst StartedCost (laws.neutral c) (from_final laws (finals 0 order) new (k, 0) t c (has_finals 0 order k k b.0 (omega arith) key) run)
      by (k ∷ (l ∷ ps)) b states sets run = absurd (cc)

  -- the series of the rules behind the fresh start is that of the difference
  difference_of : (v : Option ℕ) → IsSeries product (started order new) t v → IsDifferenceSeries product one two t v
  difference_of v s = record {
    without = λ never. IsLeast-same (λ c h. (of_first c h).0) (to_started (λ has. never (has_run laws two two_normal t has))) s;
    with_run = λ run. IsLeast-unique s (IsLeast-none (λ c h. (of_first c h).1 (run_has laws two two_normal t run)));
  }

  series_of : (v : Option ℕ) → IsDifferenceSeries product one two t v → IsSeries product (started order new) t v
  series_of v d = elim (run_or_not laws two two_normal t) [
    | inl run ↦
        let nothing : IsSeries product (started order new) t None = IsLeast-none (λ c h. (of_first c h).1 (run_has laws two two_normal t run)) in
        subst (IsSeries product (started order new) t) (sym (d.with_run run)) nothing
    | inr never ↦ IsLeast-same (to_started (λ has. never (has_run laws two two_normal t has))) (λ c h. (of_first c h).0) (d.without never)
  ]

-- with its fresh start the reached set has the series of the difference
pub reached_has_series : {levelled weighted : Bool} (product : ℕ → ℕ → ℕ) → ProductLaws levelled weighted product → ReachedHasSeries product
reached_has_series product laws one two one_normal two_normal order new found t v = (
  difference_of laws one two one_normal two_normal order new found t v,
  series_of laws one two one_normal two_normal order new found t v,
)
