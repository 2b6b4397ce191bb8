-- The walks for each place at which a position is last, and for each label and rank.
use Rattle.std.specs.Prelude.{◌≡◌, ℕ, ◌+◌, ◌-◌, ◌<◌, ◌≤◌, List, [], ◌∷◌, ◌++◌, length, drop, nat_eq, if◌then◌else◌, refl}
use Rattle.std.proofs.Common.{suc, arith, ap, sym, ◌∙◌, subst, get_or, inl, inr, append-nil}
use Rattle.tib_lex.specs.Lists.{Has, Each}
use Rattle.tib_lex.proofs.Places.{drop_whole}
use Rattle.tib_grammar.specs.Run.{rule_at}
use Rattle.tib_grammar.specs.Forms.{AreNormal}
use Rattle.tib_grammar.specs.declared.Rule.{Rule}
use Rattle.tib_grammar.proofs.Sides.{length-holes}
use Rattle.tib_normal.specs.Rules.{positions_with}
use Rattle.tib_normal.proofs.RulePlaces.{has_rule_place}
use Rattle.tib_determinize.specs.declared.alive.Alive.{Alive}
use Rattle.tib_determinize.specs.declared.listing.VectorListing.{VectorListing}
use Rattle.tib_determinize.specs.Vectors.{VectorOf, IsWeight}
use Rattle.tib_determinize.specs.Alive.{states_of, begun, IsAlive, AreAlive}
use Rattle.tib_determinize.specs.Stepped.{IsListing, AreSteps, AddsSteps, HasSteps, StepsOverrun, StepsExceed}
use Rattle.tib_determinize.specs.Tries.{under, by_last, behind_label, leaf_try, leaf_tries, tries}
use Rattle.tib_determinize.proofs.LeastCosts.{drop_at}
use Rattle.tib_determinize.proofs.Skipping.{labelled_append}

begun_has : (ms : List ℕ) (m : ℕ) → Has ms m → Has (begun ms) (record { rule = m; weight = 0 })
begun_has [] m h = absurd h
begun_has (x ∷ ms) m h = elim h [ inl e ↦ inl (ap (λ y. record { rule = y; weight = 0 }) e) | inr k ↦ inr (begun_has ms m k) ]

begun_each : (P : Alive → Type 0) (ms : List ℕ) → ((m : ℕ) → Has ms m → P (record { rule = m; weight = 0 })) → Each P (begun ms)
begun_each P [] f = tt
begun_each P (m ∷ ms) f = (f m (inl refl), begun_each P ms (λ x h. f x (inr h)))

-- after the last place all rules of the label and the rank are alive
pub begun_are :
    (product : ℕ → ℕ → ℕ) (rules : List (Rule ℕ)) (normal : AreNormal rules) (order : List VectorOf) (f k : ℕ) (alive : List Alive) (ms : List ℕ) → ms ≡ positions_with f k rules → alive ≡ begun ms →
    AreAlive product rules order f k k [] alive
begun_are product rules normal order f k alive ms are e =
    subst (AreAlive product rules order f k k []) (sym (e ∙ ap begun are)) (record {
      sound = begun_each (IsAlive product rules order f k k []) (positions_with f k rules) (λ m h.
          let at = has_rule_place rules f k m h in
          record {
            below = at.below;
            root = at.root;
            rank = long m h;
            weighs = subst (λ (qs : List ℕ). IsWeight product qs [] 0) (sym (none m h)) refl;
          });
      whole = λ m w h weight low.
          let zero_weight : w ≡ 0 = subst (λ (qs : List ℕ). IsWeight product qs [] w) (none m h) weight in
          subst (λ x. Has (begun (positions_with f k rules)) (record { rule = m; weight = x })) (sym zero_weight) (begun_has (positions_with f k rules) m h);
    })
  where
    long : (m : ℕ) → Has (positions_with f k rules) m → length (states_of rules m) ≡ k
    long m h = let at = has_rule_place rules f k m h in length-holes (rule_at rules m).right.kids (normal m at.below).are_holes ∙ at.many

    none : (m : ℕ) → Has (positions_with f k rules) m → drop k (states_of rules m) ≡ []
    none m h = let l = long m h in drop_whole (states_of rules m) k (omega (arith, l))

-- the walk for a last place, and those for the later ones
pub last_first : (f n k j : ℕ) → j < k → behind_label f (by_last n k j (k - j)) ≡ behind_label f (under n j k []) ++ behind_label f (by_last n k (j + 1) (k - (j + 1)))
last_first f n k j h =
    let one : k - j ≡ suc (k - (j + 1)) = omega (arith, h) in
    let next : suc j ≡ j + 1 = omega arith in
    ap (λ c. behind_label f (by_last n k j c)) one
    ∙ ap (λ i. behind_label f (under n j k [] ++ by_last n k i (k - (j + 1)))) next
    ∙ labelled_append f (under n j k []) (by_last n k (j + 1) (k - (j + 1)))

-- no last place is left
pub last_done : (f n k j : ℕ) → k ≤ j → behind_label f (by_last n k j (k - j)) ≡ []
last_done f n k j h = let none : k - j ≡ 0 = omega (arith, h) in ap (λ c. behind_label f (by_last n k j c)) none

-- the tries of a label and a rank, and those of the later ones
pub shape_first : (n : ℕ) (shapes : List (ℕ × ℕ)) (i : ℕ) (d s : ℕ × ℕ) → i < length shapes → s ≡ get_or shapes i d → tries n (drop i shapes) ≡ behind_label s.0 (by_last n s.1 0 s.1) ++ tries n (drop (i + 1) shapes)
shape_first n shapes i d s h e =
    let next : suc i ≡ i + 1 = omega arith in
    ap (tries n) (drop_at shapes i d h)
    ∙ ap (λ (x : ℕ × ℕ). behind_label x.0 (by_last n x.1 0 x.1) ++ tries n (drop (suc i) shapes)) (sym e)
    ∙ ap (λ m. behind_label s.0 (by_last n s.1 0 s.1) ++ tries n (drop m shapes)) next

-- none is left
pub shapes_done : (n : ℕ) (shapes : List (ℕ × ℕ)) (i : ℕ) → length shapes ≤ i → tries n (drop i shapes) ≡ []
shapes_done n shapes i h = ap (tries n) (drop_whole shapes i h)

-- a label of rank 0 is tried over no positions
pub leaf_is : (s : ℕ × ℕ) → s.1 ≡ 0 → ◌≡◌ {A = List (ℕ × List ℕ)} ((s.0, []) ∷ []) (leaf_try s)
leaf_is s e = sym (ap (λ k. if nat_eq k 0 then (s.0, []) ∷ [] else []) e)

-- the try of a label of rank 0, and those of the later ones
pub leaf_first : (shapes : List (ℕ × ℕ)) (i : ℕ) (d s : ℕ × ℕ) → i < length shapes → s ≡ get_or shapes i d → leaf_tries (drop i shapes) ≡ leaf_try s ++ leaf_tries (drop (i + 1) shapes)
leaf_first shapes i d s h e =
    let next : suc i ≡ i + 1 = omega arith in
    ap leaf_tries (drop_at shapes i d h)
    ∙ ap (λ (x : ℕ × ℕ). leaf_try x ++ leaf_tries (drop (suc i) shapes)) (sym e)
    ∙ ap (λ m. leaf_try s ++ leaf_tries (drop m shapes)) next

-- none is left
pub leaves_done : (shapes : List (ℕ × ℕ)) (i : ℕ) → length shapes ≤ i → leaf_tries (drop i shapes) ≡ []
leaves_done shapes i h = ap leaf_tries (drop_whole shapes i h)

module _ (product : ℕ → ℕ → ℕ) (rules : List (Rule ℕ)) (order : List VectorOf) (all : List (ℕ × List ℕ)) where
  -- from an empty list on
  pub has_steps : (old now : VectorListing) → IsListing old [] → AddsSteps product rules order all old now → HasSteps product rules order all now
  has_steps old now empty a =
      let r = a [] empty in
      (r.0, r.1, subst (AreSteps product rules order all) (append-nil r.0) (r.2 [] refl))

  pub steps_exceed : (old : VectorListing) (budget : ℕ) → IsListing old [] → old.budget ≡ budget → StepsOverrun product rules order all old → StepsExceed product rules order all budget
  steps_exceed old budget empty same o = let r = o [] empty in (r.0, r.1, (let m = r.2 in omega (arith, m, same)), r.3)
