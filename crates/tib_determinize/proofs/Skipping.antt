-- Positions at which no rule stays alive are left out.
use Rattle.std.specs.Prelude.{◌≡◌, ◌⊎◌, ℕ, ◌+◌, ◌-◌, ◌<◌, ◌≤◌, Bool, List, [], ◌∷◌, ◌++◌, length, Option, None, Some, refl}
use Rattle.std.proofs.Common.{zero, suc, arith, ap, sym, ◌∙◌, subst, get_or, inl, inr, append_assoc}
use Rattle.tib_lex.specs.Lists.{Has, Each}
use Rattle.tib_lex.proofs.Members.{each_has}
use Rattle.tib_grammar.proofs.Members.{has_at}
use Rattle.tib_grammar.specs.Forms.{AreNormal}
use Rattle.tib_grammar.specs.declared.Rule.{Rule}
use Rattle.tib_cost.specs.Semiring.{ProductLaws}
use Rattle.tib_cost.specs.Least.{times}
use Rattle.tib_determinize.specs.declared.alive.Alive.{Alive}
use Rattle.tib_determinize.specs.declared.walk.Level.{Level}
use Rattle.tib_determinize.specs.Vectors.{VectorOf, Rises, vector_at}
use Rattle.tib_determinize.specs.Lookup.{residual_in}
use Rattle.tib_determinize.specs.Alive.{states_of, with_alive, narrowed, AreLeft}
use Rattle.tib_determinize.specs.Tries.{span, under, behind_label}
use Rattle.tib_determinize.specs.Levels.{IsLevel, moved, tries_of}
use Rattle.tib_determinize.specs.Stepped.{AreSteps}
use Rattle.tib_determinize.proofs.Remaining.{under_none}
use Rattle.tib_determinize.proofs.Underway.{steps_append}
use Rattle.tib_determinize.proofs.Walked.{narrowed_left, residual_has}

-- lists after a label, one after another
pub labelled_append : (f : ℕ) (xs ys : List (List ℕ)) → behind_label f (xs ++ ys) ≡ behind_label f xs ++ behind_label f ys
labelled_append f [] ys = refl
labelled_append f (x ∷ xs) ys = ap (λ (zs : List (ℕ × List ℕ)). (f, x) ∷ zs) (labelled_append f xs ys)

-- no rule is alive still, where none has its state in the vector
narrowed_nothing :
    (product : ℕ → ℕ → ℕ) (rules : List (Rule ℕ)) (i : ℕ) (v : VectorOf) (alive : List Alive) →
    ((a : Alive) (r : ℕ) → Has alive a → Has {A = ℕ × ℕ} v (get_or (states_of rules a.rule) i 0, r) → ⊥) → narrowed product rules i v alive ≡ []
narrowed_nothing product rules i v [] f = refl
narrowed_nothing product rules i v (a ∷ alive) f = by (residual_in (get_or (states_of rules a.rule) i 0) v) refl (narrowed_nothing product rules i v alive (λ b r h. f b r (inr h)))
  where
    by :
        (o : Option ℕ) → residual_in (get_or (states_of rules a.rule) i 0) v ≡ o → narrowed product rules i v alive ≡ [] →
        with_alive a.rule (times product o (Some a.weight)) (narrowed product rules i v alive) ≡ []
    by None e rest = rest
    by (Some r) e rest = absurd (f a r (inl refl) (residual_has v (get_or (states_of rules a.rule) i 0) r e))

-- a span in two parts
pub span_split : {A : Type 0} (g : ℕ → List A) (p c d : ℕ) → span g p (c + d) ≡ span g p c ++ span g (p + c) d
span_split g p zero d =
    let z : 0 + d ≡ d = omega arith in
    let q : p ≡ p + 0 = omega arith in
    ap (span g p) z ∙ ap (λ m. span g m d) q
span_split {A} g p (suc c) d =
    let s : suc c + d ≡ suc (c + d) = omega arith in
    let q : suc p + c ≡ p + suc c = omega arith in
    ap (span g p) s ∙ ap (λ (xs : List A). g p ++ xs) (span_split g (suc p) c d) ∙ sym (append_assoc (g p) (span g (suc p) c) (span g (suc p + c) d))
    ∙ ap (λ m. (g p ++ span g (suc p) c) ++ span g m d) q

module _
    (product : ℕ → ℕ → ℕ) {levelled weighted : Bool} (laws : ProductLaws levelled weighted product) (rules : List (Rule ℕ)) (normal : AreNormal rules) (order : List VectorOf) (f k n j : ℕ)
    (rise : Each (λ v. Rises v) order) (l : Level) (level : IsLevel product rules order f k n j l) where
  -- what a level tries at a position
  abbrev at_position : ℕ → List (List ℕ)
  at_position p = under n j l.place (p ∷ l.behind.items)

  nothing_at : (p : ℕ) → l.next ≤ p → p < l.end → (Has l.wanted.items p → ⊥) → AreSteps product rules order (behind_label f (at_position p)) []
  nothing_at p from to out =
      let place = level.place in
      let within = level.within in
      let up = level.up in
      let low : l.place < k = omega (arith, place) in
      let inside : p < length order = omega (arith, to, within) in
      let v = vector_at order p in
      let none : narrowed product rules l.place v l.alive.items ≡ [] = narrowed_nothing product rules l.place v l.alive.items (λ a r h s. out (level.wanted.each p r a from to h s)) in
      under_none product laws rules normal order f k n j l.place (p ∷ l.behind.items) (omega (arith, place))
      (subst (AreLeft product rules order f k n j l.place (p ∷ l.behind.items)) none
      (narrowed_left product laws rules normal order f k l.place p l.behind.items low (each_has (λ v. Rises v) order v rise (has_at order p [] inside)) n j (omega (arith, to, up)) the_only l.alive.items level.alive))
    where
      the_only : l.place ≡ j → p ≡ n
      the_only s = let r = level.last s in let low = r.0 in let high = r.1 in omega (arith, low, high, from, to)

  nothing_along : (c p : ℕ) → l.next ≤ p → p + c ≤ l.end → ((q : ℕ) → p ≤ q → q < p + c → Has l.wanted.items q → ⊥) → AreSteps product rules order (behind_label f (span at_position p c)) []
  nothing_along zero p from to out = refl
  nothing_along (suc c) p from to out =
      subst (λ os. AreSteps product rules order os []) (sym (labelled_append f (at_position p) (span at_position (suc p) c)))
      (steps_append product rules order (behind_label f (at_position p)) (behind_label f (span at_position (suc p) c)) [] []
      (nothing_at p from (omega (arith, to)) (out p (omega arith) (omega arith)))
      (nothing_along c (suc p) (omega (arith, from)) (omega (arith, to)) (λ q a b. out q (omega (arith, a)) (omega (arith, b)))))

  -- what is left out before a position that no position between is wanted
  pub record IsSkipped (m : ℕ) : Type 0 where
    pub front : List (List ℕ)
    pub split : tries_of n j l ≡ front ++ tries_of n j (moved l m)
    pub none : AreSteps product rules order (behind_label f front) []

  up_or_not : (a b : ℕ) → (a ≤ b) ⊎ (b < a)
  up_or_not a b = grind arith

  pub is_skipped : (m : ℕ) → l.next ≤ m → (l.next ≤ l.end → m ≤ l.end) → ((p : ℕ) → l.next ≤ p → p < m → Has l.wanted.items p → ⊥) → IsSkipped m
  is_skipped m from to between = elim (up_or_not l.next l.end) [
    | inl up ↦
        let high = to up in
        let many : l.end - l.next ≡ (m - l.next) + (l.end - m) = omega (arith, from, high) in
        let next : l.next + (m - l.next) ≡ m = omega (arith, from) in
        record {
          front = span at_position l.next (m - l.next);
          split = ap (span at_position l.next) many ∙ span_split at_position l.next (m - l.next) (l.end - m)
              ∙ ap (λ q. span at_position l.next (m - l.next) ++ span at_position q (l.end - m)) next;
          none = nothing_along (m - l.next) l.next (omega arith) (omega (arith, from, high)) (λ q a b. between q a (omega (arith, b, from)));
        }
    | inr over ↦
        let none : l.end - l.next ≡ 0 = omega (arith, over) in
        let none_too : l.end - m ≡ 0 = omega (arith, over, from) in
        record {
          front = [];
          split = ap (span at_position l.next) none ∙ sym (ap (span at_position m) none_too);
          none = refl;
        }
  ]
