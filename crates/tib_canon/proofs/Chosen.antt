-- The positions of the cheapest values, value by value.
use Rattle.std.specs.Prelude.{◌≢◌}
use Rattle.std.proofs.Common.{◌≡◌, ℕ, ◌+◌, ◌<◌, ◌≤◌, List, [], ◌∷◌, ◌++◌, length, set, get_or, refl, arith, sym, ◌∙◌, subst, inl, inr, ◌⊎◌, length-set, le_refl}
use Rattle.std.proofs.lemmas.List.{get_or_append_left, get_or-set_same, get_or-set_other}
use Rattle.tib_lex.specs.Lists.{Has}
use Rattle.tib_lex.proofs.Numbers.{below_cases}
use Rattle.tib_lex.proofs.Members.{has_at}
use Rattle.tib_lex.proofs.Lists.{length-more}
use Rattle.tib_lex.proofs.Places.{last_is}
use Rattle.tib_canon.specs.Choosing.{AreChosen, IsChosenOf}

same_or_other : (i n : ℕ) → (i ≡ n) ⊎ (i ≢ n)
same_or_other i n = grind arith

module _
    {S : Type 0} (blank : S) (Are : S → ℕ → Type 0) (cost : ℕ → ℕ) (n : ℕ) (sides : List S) (best : List ℕ) (k : S) (c : AreChosen blank Are cost n sides best) (own : Are k n) where
  -- a kind that was not seen
  pub chosen_new : (Has sides k → ⊥) → AreChosen blank Are cost (n + 1) (sides ++ k ∷ []) (best ++ n ∷ [])
  chosen_new new = record {
    long = omega (arith, length-more sides k, length-more best n, c.long);
    few = omega (arith, length-more best n, c.few);
    distinct = λ i j h l e. apart i j (below_cases i (length sides) (omega (arith, length-more sides k))) (below_cases j (length sides) (omega (arith, length-more sides k))) e;
    below = λ i h. low i (below_cases i (length best) (omega (arith, length-more best n)));
    are = λ i h. are i (below_cases i (length best) (omega (arith, length-more best n)));
    whole = λ m h. whole m (below_cases m n h);
  }
    where
      old_side : (i : ℕ) → i < length sides → get_or (sides ++ k ∷ []) i blank ≡ get_or sides i blank
      old_side i h = get_or_append_left sides (k ∷ []) blank i h

      old_best : (i : ℕ) → i < length best → get_or (best ++ n ∷ []) i 0 ≡ get_or best i 0
      old_best i h = get_or_append_left best (n ∷ []) 0 i h

      strange : (i : ℕ) → i < length sides → get_or sides i blank ≡ k → ⊥
      strange i h e = new (subst (Has sides) e (has_at sides i blank h))

      apart : (i j : ℕ) → (i < length sides) ⊎ (i ≡ length sides) → (j < length sides) ⊎ (j ≡ length sides) → get_or (sides ++ k ∷ []) i blank ≡ get_or (sides ++ k ∷ []) j blank → i ≡ j
      apart i j (inl h) (inl l) e = c.distinct i j h l (sym (old_side i h) ∙ e ∙ old_side j l)
      apart i j (inl h) (inr l) e = absurd (strange i h (sym (old_side i h) ∙ e ∙ last_is sides k blank j l))
      apart i j (inr h) (inl l) e = absurd (strange j l (sym (old_side j l) ∙ sym e ∙ last_is sides k blank i h))
      apart i j (inr h) (inr l) e = h ∙ sym l

      low : (i : ℕ) → (i < length best) ⊎ (i ≡ length best) → get_or (best ++ n ∷ []) i 0 < n + 1
      low i (inl h) = omega (arith, old_best i h, c.below i h)
      low i (inr h) = omega (arith, last_is best n 0 i h)

      are : (i : ℕ) → (i < length best) ⊎ (i ≡ length best) → Are (get_or (sides ++ k ∷ []) i blank) (get_or (best ++ n ∷ []) i 0)
      are i (inl h) =
          let same : i < length sides = omega (arith, c.long) in
          subst (λ s. Are s (get_or (best ++ n ∷ []) i 0)) (sym (old_side i same)) (subst (λ p. Are (get_or sides i blank) p) (sym (old_best i h)) (c.are i h))
      are i (inr h) =
          let same : i ≡ length sides = omega (arith, c.long) in
          subst (λ s. Are s (get_or (best ++ n ∷ []) i 0)) (sym (last_is sides k blank i same)) (subst (λ p. Are k p) (sym (last_is best n 0 i h)) own)

      whole : (m : ℕ) → (m < n) ⊎ (m ≡ n) → (i : ℕ) × IsChosenOf blank Are cost (sides ++ k ∷ []) (best ++ n ∷ []) m i
      whole m (inl h) =
          let w = c.whole m h in
          let same : w.0 < length sides = omega (arith, c.long, w.1.below) in (
            w.0,
            record {
              below = omega (arith, w.1.below, length-more best n);
              sides_are = subst (λ s. Are s m) (sym (old_side w.0 same)) w.1.sides_are;
              costs = subst (λ p. cost p ≤ cost m) (sym (old_best w.0 w.1.below)) w.1.costs;
            },
          )
      whole m (inr h) =
          let at : get_or (best ++ n ∷ []) (length best) 0 ≡ n = last_is best n 0 (length best) refl in (
            length best,
            record {
              below = omega (arith, length-more best n);
              sides_are = subst (λ s. Are s m) (sym (last_is sides k blank (length best) (sym c.long))) (subst (λ p. Are k p) (sym h) own);
              costs = subst (λ p. cost p ≤ cost m) (sym (at ∙ sym h)) (le_refl (cost m));
            },
          )

  -- a kind that was seen: the cheaper value stays
  pub chosen_before : (place p : ℕ) → place < length sides → get_or sides place blank ≡ k → (p ≡ get_or best place 0) ⊎ (p ≡ n) → cost p ≤ cost (get_or best place 0) → cost p ≤ cost n → AreChosen blank Are cost (n + 1) sides (set best place p)
  chosen_before place p within is either first second = record {
    long = c.long ∙ sym (length-set best place p);
    few = omega (arith, length-set best place p, c.few);
    distinct = c.distinct;
    below = λ i h. low i (same_or_other i place) (omega (arith, length-set best place p));
    are = λ i h. are i (same_or_other i place) (omega (arith, length-set best place p));
    whole = λ m h. whole m (below_cases m n h);
  }
    where
      inside : place < length best
      inside = omega (arith, c.long)

      at_place : get_or (set best place p) place 0 ≡ p
      at_place = get_or-set_same best place p 0 inside

      at_other : (i : ℕ) → i ≢ place → get_or (set best place p) i 0 ≡ get_or best i 0
      at_other i h = get_or-set_other best place i p 0 h

      new_low : (p ≡ get_or best place 0) ⊎ (p ≡ n) → p < n + 1
      new_low (inl e) = omega (arith, e, c.below place inside)
      new_low (inr e) = omega (arith, e)

      low : (i : ℕ) → (i ≡ place) ⊎ (i ≢ place) → i < length best → get_or (set best place p) i 0 < n + 1
      low i (inl e) h = subst (λ j. get_or (set best place p) j 0 < n + 1) (sym e) (omega (arith, at_place, new_low either))
      low i (inr e) h = omega (arith, at_other i e, c.below i h)

      chosen : (p ≡ get_or best place 0) ⊎ (p ≡ n) → Are k p
      chosen (inl e) = subst (λ q. Are k q) (sym e) (subst (λ s. Are s (get_or best place 0)) is (c.are place inside))
      chosen (inr e) = subst (λ q. Are k q) (sym e) own

      are : (i : ℕ) → (i ≡ place) ⊎ (i ≢ place) → i < length best → Are (get_or sides i blank) (get_or (set best place p) i 0)
      are i (inl e) h =
          subst (λ j. Are (get_or sides j blank) (get_or (set best place p) j 0)) (sym e)
          (subst (λ q. Are (get_or sides place blank) q) (sym at_place) (subst (λ s. Are s p) (sym is) (chosen either)))
      are i (inr e) h = subst (λ q. Are (get_or sides i blank) q) (sym (at_other i e)) (c.are i h)

      costs : (i m : ℕ) → (i ≡ place) ⊎ (i ≢ place) → cost (get_or best i 0) ≤ cost m → cost (get_or (set best place p) i 0) ≤ cost m
      costs i m (inl e) h =
          let old : cost (get_or best place 0) ≤ cost m = subst (λ j. cost (get_or best j 0) ≤ cost m) e h in
          let less : cost p ≤ cost m = omega (arith, old, first) in
          subst (λ j. cost (get_or (set best place p) j 0) ≤ cost m) (sym e) (subst (λ q. cost q ≤ cost m) (sym at_place) less)
      costs i m (inr e) h = subst (λ q. cost q ≤ cost m) (sym (at_other i e)) h

      whole : (m : ℕ) → (m < n) ⊎ (m ≡ n) → (i : ℕ) × IsChosenOf blank Are cost sides (set best place p) m i
      whole m (inl h) =
          let w = c.whole m h in
          (w.0, record { below = omega (arith, w.1.below, length-set best place p); sides_are = w.1.sides_are; costs = costs w.0 m (same_or_other w.0 place) w.1.costs })
      whole m (inr h) = (
        place,
        record {
          below = omega (arith, length-set best place p);
          sides_are = subst (λ s. Are s m) (sym is) (subst (λ q. Are k q) (sym h) own);
          costs = subst (λ q. cost q ≤ cost m) (sym at_place) (subst (λ q. cost p ≤ cost q) (sym h) second);
        },
      )
