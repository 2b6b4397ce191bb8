-- The laws of the product of costs, where none is no cost.
use Rattle.std.specs.Prelude.{◌≡◌, ℕ, min, max, ◌<◌, ◌≤◌, Bool, true, false, Option, None, Some, ◌⊎◌, refl, IfSome}
use Rattle.std.proofs.Common.{arith, inl, inr, ap, sym, ◌∙◌}
use Rattle.tib_cost.specs.Semiring.{most, cut, ProductLaws, IsResidual}
use Rattle.tib_cost.specs.Least.{lesser, times, IsNoGreater, IsBelow, IsCut}
use Rattle.tib_cost.proofs.Least.{cut-cases, at_least_right}

pub cut-within : (a : ℕ) → a ≤ most → cut a ≡ Some a
cut-within a h = elim (cut-cases a) [ inl c ↦ c.1 | inr c ↦ absurd (omega (arith, c.0)) ]

pub cut-above : (a : ℕ) → most < a → cut a ≡ None
cut-above a h = elim (cut-cases a) [ inl c ↦ absurd (omega (arith, c.0)) | inr c ↦ c.1 ]

-- what a cut returns is the number, and at most the greatest cost
pub cut-some : (a c : ℕ) → cut a ≡ Some c → (a ≡ c) × (a ≤ most)
cut-some a c e = elim (cut-cases a) [ inl k ↦ (cc, k.0) | inr k ↦ absurd (cc) ]

pub none_absorbs : (product : ℕ → ℕ → ℕ) (v : Option ℕ) → times product v None ≡ None
none_absorbs product None = refl
none_absorbs product (Some a) = refl

module _ {levelled weighted : Bool} {product : ℕ → ℕ → ℕ} (laws : ProductLaws levelled weighted product) where
  -- 0 is neutral as the right factor too
  pub product-zero : (a : ℕ) → product a 0 ≡ a
  product-zero a = laws.commutes a 0 ∙ laws.neutral a

  pub times_commutes : (v w : Option ℕ) → times product v w ≡ times product w v
  times_commutes None None = refl
  times_commutes None (Some b) = refl
  times_commutes (Some a) None = refl
  times_commutes (Some a) (Some b) = ap cut (laws.commutes a b)

  -- a cut before the last product leaves what it is
  cut_left : (x c : ℕ) → times product (cut x) (Some c) ≡ cut (product x c)
  cut_left x c = elim (cut-cases x) [
    | inl k ↦ rw k.1
    | inr k ↦ rw k.1 (sym (cut-above (product x c) (omega (arith, k.0, laws.at_least x c))))
  ]

  cut_right : (a y : ℕ) → times product (Some a) (cut y) ≡ cut (product a y)
  cut_right a y = elim (cut-cases y) [
    | inl k ↦ rw k.1
    | inr k ↦ rw k.1 (sym (cut-above (product a y) (omega (arith, k.0, at_least_right laws a y))))
  ]

  pub times_regroups : (u v w : Option ℕ) → times product (times product u v) w ≡ times product u (times product v w)
  times_regroups None v w = refl
  times_regroups (Some a) None w = refl
  times_regroups (Some a) (Some b) None = none_absorbs product (cut (product a b))
  times_regroups (Some a) (Some b) (Some c) =
      cut_left (product a b) c ∙ ap cut (laws.regroups a b c) ∙ sym (cut_right a (product b c))

  pub times_neutral : (v : Option ℕ) → IsCut v → times product (Some 0) v ≡ v
  times_neutral None h = refl
  times_neutral (Some a) h = ap cut (laws.neutral a) ∙ cut-within a h

  cut_grows : (x y : ℕ) → x ≤ y → IsNoGreater (cut x) (cut y)
  cut_grows x y h = elim (cut-cases y) [
    | inl k ↦ let e : cut x ≡ Some x = cut-within x (omega (arith, k.0)) in rw (k.1, e) h
    | inr k ↦ rw k.1 tt
  ]

  pub times_grows : (u v w : Option ℕ) → IsNoGreater v w → IsNoGreater (times product u v) (times product u w)
  times_grows None v None h = tt
  times_grows None None (Some c) h = absurd h
  times_grows None (Some b) (Some c) h = tt
  times_grows (Some a) v None h = tt
  times_grows (Some a) None (Some c) h = absurd h
  times_grows (Some a) (Some b) (Some c) h = cut_grows (product a b) (product a c) (laws.grows a b c h)

  pub times_at_least : (a b : ℕ) → IfSome (times product (Some a) (Some b)) (λ c. a ≤ c)
  times_at_least a b = elim (cut-cases (product a b)) [
    | inl k ↦ rw k.1 (laws.at_least a b)
    | inr k ↦ rw k.1 tt
  ]

  pub times_levelled : levelled ≡ true → (a b : ℕ) → a ≤ most → b ≤ most → times product (Some a) (Some b) ≡ Some (max a b)
  times_levelled l a b h k = ap cut (laws.greater l a b) ∙ cut-within (max a b) (omega arith)

  pub times_strict :
      levelled ≡ false → weighted ≡ true → (a b c : ℕ) → b < c → IfSome (times product (Some a) (Some c)) (λ d. IsBelow (times product (Some a) (Some b)) d)
  times_strict l w a b c h =
      let less : product a b < product a c = laws.strict l w a b c h in
      elim (cut-cases (product a c)) [
        | inl k ↦ let e : cut (product a b) ≡ Some (product a b) = cut-within (product a b) (omega (arith, k.0)) in rw (k.1, e) less
        | inr k ↦ rw k.1 tt
      ]

  pub times_distributes : (u v w : Option ℕ) → times product u (lesser v w) ≡ lesser (times product u v) (times product u w)
  times_distributes None v w = refl
  times_distributes (Some a) None w = refl
  times_distributes (Some a) (Some b) None = sym (lesser_none (cut (product a b)))
    where
      lesser_none : (v : Option ℕ) → lesser v None ≡ v
      lesser_none None = refl
      lesser_none (Some n) = refl
  times_distributes (Some a) (Some b) (Some c) = elim (order b c) [
    | inl h ↦ first (laws.grows a b c h) h
    | inr h ↦ second (laws.grows a c b h) h
  ]
    where
      order : (b c : ℕ) → (b ≤ c) ⊎ (c ≤ b)
      order b c = grind arith

      min_is : (x y : ℕ) → x ≤ y → min x y ≡ x
      min_is x y h = omega arith

      min_other : (x y : ℕ) → y ≤ x → min x y ≡ y
      min_other x y h = omega arith

      lesser_cut : (x y : ℕ) → x ≤ y → lesser (cut x) (cut y) ≡ cut x
      lesser_cut x y h = elim (cut-cases y) [
        | inl k ↦ let e : cut x ≡ Some x = cut-within x (omega (arith, k.0)) in rw (k.1, e, min_is x y h)
        | inr k ↦ elim (cut-cases x) [ inl l ↦ rw (k.1, l.1) | inr l ↦ rw (k.1, l.1) ]
      ]

      lesser_cut_other : (x y : ℕ) → y ≤ x → lesser (cut x) (cut y) ≡ cut y
      lesser_cut_other x y h = elim (cut-cases x) [
        | inl k ↦ let e : cut y ≡ Some y = cut-within y (omega (arith, k.0)) in rw (k.1, e, min_other x y h)
        | inr k ↦ rw k.1
      ]

      first : product a b ≤ product a c → b ≤ c → cut (product a (min b c)) ≡ lesser (cut (product a b)) (cut (product a c))
      first g h = ap (λ n. cut (product a n)) (min_is b c h) ∙ sym (lesser_cut (product a b) (product a c) g)

      second : product a c ≤ product a b → c ≤ b → cut (product a (min b c)) ≡ lesser (cut (product a b)) (cut (product a c))
      second g h = ap (λ n. cut (product a n)) (min_other b c h) ∙ sym (lesser_cut_other (product a b) (product a c) g)

  pub residual_times : (a m r : ℕ) → a ≤ most → IsResidual product a m r → times product (Some m) (Some r) ≡ Some a
  residual_times a m r h e = ap cut e.gives ∙ cut-within a h

  pub residual_least : (a m r s : ℕ) → IsResidual product a m r → times product (Some m) (Some s) ≡ Some a → r ≤ s
  residual_least a m r s e g = e.least s ((cut-some (product m s) a g).0)
