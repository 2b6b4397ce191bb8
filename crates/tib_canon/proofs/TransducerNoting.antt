-- States and sides in a table that tests them item by item.
use Rattle.std.proofs.Common.{◌≡◌, ℕ, List, [], ◌∷◌, Bool, true, false, refl, ap, sym, ◌∙◌, subst, true≢false, Option}
use Rattle.std.specs.Prelude.{nat_eq, ◌&&◌, Some, None}
use Rattle.std.specs.Cmp.Lexicographic.{pointwise}
use Rattle.tib_lex.proofs.Numbers.{nat_eq-true, nat_eq-itself}
use Rattle.tib_lex.proofs.Booleans.{and-true}
use Rattle.tib_grammar.specs.declared.Item.{Item}
use Rattle.tib_grammar.specs.declared.Item.TheVariants.{Label, Hole}
use Rattle.tib_transducer.specs.declared.Variable.{Variable}
use Rattle.tib_transducer.specs.declared.Pair.{Pair}
use Rattle.tib_canon.specs.TransducerMerging.{Sides}

-- a test that tells values apart
pub record Tells {A : Type 0} (t : A → A → Bool) : Type 0 where
  pub same : (x y : A) → t x y ≡ true → x ≡ y
  pub itself : (x : A) → t x x ≡ true

module _ {A : Type 0} (t : A → A → Bool) (tells : Tells t) where
  lists_same : (xs ys : List A) → pointwise t xs ys ≡ true → xs ≡ ys
  lists_same [] [] e = refl
  lists_same [] (y ∷ ys) e = absurd (cc)
  lists_same (x ∷ xs) [] e = absurd (cc)
  lists_same (x ∷ xs) (y ∷ ys) e =
      let parts = and-true (t x y) (pointwise t xs ys) e in
      ap (λ z. z ∷ xs) (tells.same x y parts.0) ∙ ap (λ zs. y ∷ zs) (lists_same xs ys parts.1)

  lists_themselves : (xs : List A) → pointwise t xs xs ≡ true
  lists_themselves [] = refl
  lists_themselves (x ∷ xs) = rw (tells.itself x, lists_themselves xs) refl

-- a test of items by their fields, where T tests what holes carry
pub record IsItemTest {P : Type 0} (E : Item P → Item P → Bool) (T : P → P → Bool) : Type 0 where
  pub labels : (f r g s : ℕ) → E (Label f r) (Label g s) ≡ (nat_eq f g && nat_eq r s)
  pub label_hole : (f r : ℕ) (q : P) → E (Label f r) (Hole q) ≡ false
  pub hole_label : (p : P) (g s : ℕ) → E (Hole p) (Label g s) ≡ false
  pub holes : (p q : P) → E (Hole p) (Hole q) ≡ T p q

pub items_tell : {P : Type 0} (E : Item P → Item P → Bool) (T : P → P → Bool) → IsItemTest E T → Tells T → Tells E
items_tell {P} E T test tells = record { same = same; itself = itself }
  where
    same : (x y : Item P) → E x y ≡ true → x ≡ y
    same (Label f r) (Label g s) e =
        let parts = and-true (nat_eq f g) (nat_eq r s) (sym (test.labels f r g s) ∙ e) in
        let labels : f ≡ g = nat_eq-true f g parts.0 in
        let ranks : r ≡ s = nat_eq-true r s parts.1 in
        cc
    same (Label f r) (Hole q) e = absurd (true≢false (sym e ∙ test.label_hole f r q))
    same (Hole p) (Label g s) e = absurd (true≢false (sym e ∙ test.hole_label p g s))
    same (Hole p) (Hole q) e = ap Hole (tells.same p q (sym (test.holes p q) ∙ e))

    itself : (x : Item P) → E x x ≡ true
    itself (Label f r) = test.labels f r f r ∙ rw (nat_eq-itself f, nat_eq-itself r) refl
    itself (Hole p) = test.holes p p ∙ tells.itself p

-- a test of labels that variables may ask for
pub record IsAskedTest (O : Option ℕ → Option ℕ → Bool) : Type 0 where
  pub neither : O None None ≡ true
  pub first : (f : ℕ) → O (Some f) None ≡ false
  pub second : (g : ℕ) → O None (Some g) ≡ false
  pub both : (f g : ℕ) → O (Some f) (Some g) ≡ nat_eq f g

asked_tell : (O : Option ℕ → Option ℕ → Bool) → IsAskedTest O → Tells O
asked_tell O test = record { same = same; itself = itself }
  where
    same : (x y : Option ℕ) → O x y ≡ true → x ≡ y
    same None None e = refl
    same None (Some g) e = absurd (true≢false (sym e ∙ test.second g))
    same (Some f) None e = absurd (true≢false (sym e ∙ test.first f))
    same (Some f) (Some g) e = ap (λ (n : ℕ). Some n) (nat_eq-true f g (sym (test.both f g) ∙ e))

    itself : (x : Option ℕ) → O x x ≡ true
    itself None = test.neither
    itself (Some f) = test.both f f ∙ nat_eq-itself f

pub variables_tell : (T : Variable → Variable → Bool) (O : Option ℕ → Option ℕ → Bool) → IsAskedTest O → ((x y : Variable) → T x y ≡ (nat_eq x.number y.number && O x.label y.label)) → Tells T
variables_tell T O test is = record { same = same; itself = itself }
  where
    same : (x y : Variable) → T x y ≡ true → x ≡ y
    same x y e =
        let parts = and-true (nat_eq x.number y.number) (O x.label y.label) (sym (is x y) ∙ e) in
        ap (λ (n : ℕ). record { number = n; label = x.label }) (nat_eq-true x.number y.number parts.0)
        ∙ ap (λ (a : Option ℕ). record { number = y.number; label = a }) ((asked_tell O test).same x.label y.label parts.1)

    itself : (x : Variable) → T x x ≡ true
    itself x = is x x ∙ rw (nat_eq-itself x.number, (asked_tell O test).itself x.label) refl

pub pairs_tell : (T : Pair ℕ → Pair ℕ → Bool) → ((x y : Pair ℕ) → T x y ≡ (nat_eq x.state y.state && nat_eq x.variable y.variable)) → Tells T
pairs_tell T is = record { same = same; itself = itself }
  where
    same : (x y : Pair ℕ) → T x y ≡ true → x ≡ y
    same x y e =
        let parts = and-true (nat_eq x.state y.state) (nat_eq x.variable y.variable) (sym (is x y) ∙ e) in
        ap (λ (n : ℕ). record { state = n; variable = x.variable }) (nat_eq-true x.state y.state parts.0)
        ∙ ap (λ (n : ℕ). record { state = y.state; variable = n }) (nat_eq-true x.variable y.variable parts.1)

    itself : (x : Pair ℕ) → T x x ≡ true
    itself x = is x x ∙ rw (nat_eq-itself x.state, nat_eq-itself x.variable) refl

module _ (E : Item Variable → Item Variable → Bool) (F : Item (Pair ℕ) → Item (Pair ℕ) → Bool) (one : Tells E) (two : Tells F) where
  -- the test of three parts tells sides apart
  pub sides_same : (j k : Sides) → ((nat_eq j.0 k.0 && pointwise E j.1 k.1) && pointwise F j.2 k.2) ≡ true → k ≡ j
  sides_same j k e =
      let outer = and-true (nat_eq j.0 k.0 && pointwise E j.1 k.1) (pointwise F j.2 k.2) e in
      let parts = and-true (nat_eq j.0 k.0) (pointwise E j.1 k.1) outer.0 in
      let state : j.0 ≡ k.0 = nat_eq-true j.0 k.0 parts.0 in
      let left : j.1 ≡ k.1 = lists_same E one j.1 k.1 parts.1 in
      let right : j.2 ≡ k.2 = lists_same F two j.2 k.2 outer.1 in
      sym (ap (λ x. (x, j.1, j.2)) state ∙ ap (λ x. (k.0, x, j.2)) left ∙ ap (λ x. (k.0, k.1, x)) right)

  pub sides_themselves : (j k : Sides) → k ≡ j → ((nat_eq j.0 k.0 && pointwise E j.1 k.1) && pointwise F j.2 k.2) ≡ true
  sides_themselves j k e =
      subst (λ (l : Sides). ((nat_eq j.0 l.0 && pointwise E j.1 l.1) && pointwise F j.2 l.2) ≡ true) (sym e)
      (rw (nat_eq-itself j.0, lists_themselves E one j.1, lists_themselves F two j.2) refl)
