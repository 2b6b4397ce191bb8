-- At most one grammar is in canonical order, and its series is kept.
use Rattle.tib_cost.specs.declared.Scale.{Scale}
use Rattle.std.proofs.Common.{◌≡◌, ℕ, ◌≤◌, Bool, List, [], ◌∷◌, length, refl, ap, sym, ◌∙◌, subst, arith, inl, inr}
use Rattle.std.specs.Prelude.{Result, Ok, Err, IfOk}
use Rattle.std.specs.Cmp.{IsTotalOrder}
use Rattle.std.specs.Ordering.{ordering_reverse}
use Rattle.std.specs.declared.cmp.Ordering.{Ordering}
use Rattle.std.specs.declared.cmp.Ordering.TheVariants.{Less, Greater}
use Rattle.std.proofs.lemmas.Cmp.{on_total, then_total, nat_cmp_total, nat_list_cmp_total}
use Rattle.tib_lex.specs.Lists.{Has, Each, Ascends}
use Rattle.tib_grammar.specs.GrammarOf.{GrammarOf}
use Rattle.tib_grammar.specs.Series.{Covers, HasSameSeries}
use Rattle.tib_grammar.specs.Sides.{Side}
use Rattle.tib_grammar.specs.declared.Rule.{Rule}
use Rattle.tib_grammar.proofs.Covering.{same_series, covers_members}
use Rattle.tib_cost.specs.Semiring.{ProductLaws}
use Rattle.tib_canon.specs.Canonical.{names_of, line_of, rule_cmp, AgreeInSides, IsInOrder}
use Rattle.tib_canon.proofs.Alike.{AreAlike, alike_self, alike_back}
use Rattle.tib_lex.proofs.Members.{each_has}

module _ {A : Type 0} (R : A → A → Type 0) (one_way : (x y : A) → R x y → R y x → ⊥) where
  front_same : (x y : A) (xs ys : List A) → Each (R x) xs → Each (R y) ys → Has (y ∷ ys) x → Has (x ∷ xs) y → x ≡ y
  front_same x y xs ys a b h k = elim h [
    | inl e ↦ sym e
    | inr m ↦ elim k [ inl e ↦ e | inr n ↦ absurd (one_way x y (each_has (R x) xs y a n) (each_has (R y) ys x b m)) ]
  ]

  behind : (x y z : A) (xs ys : List A) → x ≡ y → Each (R x) xs → Has xs z → Has (y ∷ ys) z → Has ys z
  behind x y z xs ys same a h k = elim k [
    | inl e ↦ let own : R x x = subst (R x) (sym (same ∙ e)) (each_has (R x) xs z a h) in absurd (one_way x x own own)
    | inr m ↦ m
  ]

  -- two ascending lists of the same members are the same
  pub ascending_same : (xs ys : List A) → Ascends R xs → Ascends R ys → ((x : A) → Has xs x → Has ys x) → ((x : A) → Has ys x → Has xs x) → xs ≡ ys
  ascending_same [] [] a b to from = refl
  ascending_same [] (y ∷ ys) a b to from = absurd (from y (inl refl))
  ascending_same (x ∷ xs) [] a b to from = absurd (to x (inl refl))
  ascending_same (x ∷ xs) (y ∷ ys) a b to from =
      let same : x ≡ y = front_same x y xs ys a.0 b.0 (to x (inl refl)) (from y (inl refl)) in
      let rest : xs ≡ ys = ascending_same xs ys a.1 b.1 (λ z h. behind x y z xs ys same a.0 h (to z (inr h))) (λ z h. behind y x z ys xs (sym same) b.0 h (from z (inr h))) in
      ap (λ z. z ∷ xs) same ∙ ap (λ zs. y ∷ zs) rest

rule_total : (scale : Scale) (names labels : List (List ℕ)) → IsTotalOrder (rule_cmp scale names labels)
rule_total scale names labels = then_total (on_total (λ (r : Rule ℕ). r.left) nat_cmp_total) (on_total (line_of scale names labels) nat_list_cmp_total)

pub one_less : (o : Ordering) → o ≡ Less → Less ≡ ordering_reverse o → ⊥
one_less o e f = let bad : Less ≡ Greater = f ∙ ap ordering_reverse e in absurd (cc)

pub rules_one_way : (scale : Scale) (names labels : List (List ℕ)) (r s : Rule ℕ) → rule_cmp scale names labels r s ≡ Less → rule_cmp scale names labels s r ≡ Less → ⊥
rules_one_way scale names labels r s e f = one_less (rule_cmp scale names labels s r) f (sym e ∙ (rule_total scale names labels).antisymm r s)

rule_same : (r s : Rule ℕ) → AgreeInSides r s → r.cost ≡ s.cost → r ≡ s
rule_same r s a e =
    ap (λ (x : ℕ). record { left = x; right = r.right; cost = r.cost }) a.left
    ∙ ap (λ (x : Side ℕ ℕ). record { left = s.left; right = x; cost = r.cost }) a.right
    ∙ ap (λ (x : ℕ). record { left = s.left; right = s.right; cost = x }) e

-- a rule of the one form is one of the other
same_members :
    (scale : Scale) (labels : List (List ℕ)) (g k h i : GrammarOf) → AreAlike g.rules k.rules → IsInOrder scale labels g h → IsInOrder scale labels k i →
    (r : Rule ℕ) → Has h.rules r → Has i.rules r
same_members scale labels g k h i alike a b r m =
    let w = b.whole r (alike.to r (a.kept r m)) in
    let low : w.rule.cost ≤ r.cost = b.least w.rule r w.stands (alike.to r (a.kept r m)) w.agrees in
    let high : r.cost ≤ w.rule.cost = a.least r w.rule m (alike.from w.rule (b.kept w.rule w.stands)) (record { left = sym w.agrees.left; right = sym w.agrees.right }) in
    subst (Has i.rules) (rule_same w.rule r w.agrees (omega (arith, low, high))) w.stands

-- grammars of as many states whose rules are the same have one form in canonical order
pub one_order_of :
    (scale : Scale) (labels : List (List ℕ)) (g k h i : GrammarOf) → length g.names ≡ length k.names → AreAlike g.rules k.rules →
    IsInOrder scale labels g h → IsInOrder scale labels k i → h ≡ i
one_order_of scale labels g k h i long alike a b =
    let names : h.names ≡ i.names = a.names ∙ ap names_of long ∙ sym b.names in
    let mine : Ascends (λ r s. rule_cmp scale i.names labels r s ≡ Less) h.rules = subst (λ (ns : List (List ℕ)). Ascends (λ r s. rule_cmp scale ns labels r s ≡ Less) h.rules) names a.ascends in
    let rules : h.rules ≡ i.rules =
    ascending_same (λ r s. rule_cmp scale i.names labels r s ≡ Less) (rules_one_way scale i.names labels) h.rules i.rules mine b.ascends
    (same_members scale labels g k h i alike a b) (same_members scale labels k g i h (alike_back g.rules k.rules alike) b a) in
    ap (λ (ns : List (List ℕ)). record { names = ns; rules = h.rules }) names ∙ ap (λ (rs : List (Rule ℕ)). record { names = i.names; rules = rs }) rules

pub one_order : (scale : Scale) (labels : List (List ℕ)) (g h i : GrammarOf) → IsInOrder scale labels g h → IsInOrder scale labels g i → h ≡ i
one_order scale labels g h i a b = one_order_of scale labels g g h i refl (alike_self g.rules) a b

covered : (scale : Scale) (labels : List (List ℕ)) (g h : GrammarOf) → IsInOrder scale labels g h → Covers h.rules g.rules
covered scale labels g h a r k =
    let w = a.whole r k in
    record { rule = w.rule; stands = w.stands; left = w.agrees.left; right = w.agrees.right; costs = a.least w.rule r w.stands k w.agrees }

pub series_kept : {levelled weighed : Bool} {product : ℕ → ℕ → ℕ} → ProductLaws levelled weighed product → (scale : Scale) (labels : List (List ℕ)) (g h : GrammarOf) → IsInOrder scale labels g h → HasSameSeries product g h
series_kept laws scale labels g h a t v =
    let to = covered scale labels g h a in
    let from = covers_members h.rules g.rules a.kept in
    (same_series laws g.rules h.rules to from 0 t v, same_series laws h.rules g.rules from to 0 t v)

pub series_on : (product : ℕ → ℕ → ℕ) (g h i : GrammarOf) → HasSameSeries product g h → HasSameSeries product h i → HasSameSeries product g i
series_on product g h i a b t v = (λ s. (b t v).0 ((a t v).0 s), λ s. (a t v).1 ((b t v).1 s))

pub if_ok : {T E : Type 0} (P Q : T → Type 0) (r : Result T E) → ((x : T) → P x → Q x) → IfOk r P → IfOk r Q
if_ok P Q (Ok x) f h = f x h
if_ok P Q (Err e) f h = tt

pub if_both : {T E : Type 0} (P Q R : T → Type 0) (r : Result T E) → ((x : T) → P x → Q x → R x) → IfOk r P → IfOk r Q → IfOk r R
if_both P Q R (Ok x) f h k = f x h k
if_both P Q R (Err e) f h k = tt
