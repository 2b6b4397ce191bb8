-- How the totals of states are products and sums of totals.
use Rattle.std.specs.Prelude.{◌≡◌, ℕ, ◌+◌, ◌*◌, ◌<◌, ◌≤◌, ◌⊎◌, List, [], ◌∷◌, ◌++◌, length, take, nat_eq, if◌then◌else◌, slice_set, refl}
use Rattle.std.proofs.Common.{zero, suc, arith, ap, sym, ◌∙◌, subst, inl, inr, get_or}
use Rattle.std.proofs.lemmas.List.{get_or-set_same, get_or-set_other, get_or-map, length-map, take_more, take_all}
use Rattle.tib_lex.specs.Lists.{Has}
use Rattle.tib_lex.proofs.Members.{has_either}
use Rattle.tib_lex.proofs.Numbers.{same_or_other, nat_eq_cases}
use Rattle.tib_grammar.specs.Items.{holes_in}
use Rattle.tib_grammar.specs.Range.{AllBelow, AreInRange, AreBelow}
use Rattle.tib_grammar.specs.Run.{rule_at, no_rule}
use Rattle.tib_grammar.specs.declared.Rule.{Rule}
use Rattle.tib_grammar.specs.declared.Item.{Item}
use Rattle.tib_grammar.specs.declared.Item.TheVariants.{Label, Hole}
use Rattle.tib_count.specs.Counts.{counted, HasMembers, IsCountOf}
use Rattle.tib_count.specs.Counted.{IsRun, IsRunFrom}
use Rattle.tib_count.specs.Products.{product_over, rule_number, sum_over}
use Rattle.tib_count.specs.Edges.{Leads}
use Rattle.tib_inside.specs.Links.{IsNext}
use Rattle.tib_count.specs.Order.{IsOrder}
use Rattle.tib_count.specs.Sums.{lefts, HasTotal, AreSummed}
use Rattle.tib_count.specs.declared.count.Count.{Count}
use Rattle.tib_count.specs.declared.count.Count.TheVariants.{Number, Endless}
use Rattle.tib_count.proofs.RunLists.{runs_of_sides}
use Rattle.tib_count.proofs.CountedNumbers.{count_is}
use Rattle.tib_inside.proofs.Following.{holes_append, lefts_at, lefts_long}

-- Products

product_append : (number : ℕ → ℕ) (xs ys : List ℕ) → product_over number xs * product_over number ys ≡ product_over number (xs ++ ys)
product_append number [] ys = omega arith
product_append number (x ∷ xs) ys = along (number x) (product_over number xs) (product_over number ys) ∙ ap (λ n. number x * n) (product_append number xs ys)
  where
    along : (a b c : ℕ) → (a * b) * c ≡ a * (b * c)
    along a b c = grind arith

pub product_item : (number : ℕ → ℕ) (items : List (Item ℕ)) (i : ℕ) (d : Item ℕ) → i < length items →
    product_over number (holes_in (take i items)) * product_over number (holes_in (get_or items i d ∷ [])) ≡ product_over number (holes_in (take (i + 1) items))
product_item number items i d h =
    product_append number (holes_in (take i items)) (holes_in (get_or items i d ∷ []))
    ∙ ap (product_over number) (sym (ap holes_in (take_more items i d h) ∙ holes_append (take i items) (get_or items i d ∷ [])))

pub item_below : (n : ℕ) (items : List (Item ℕ)) (i : ℕ) (d : Item ℕ) → i < length items → AllBelow n (holes_in items) → AllBelow n (holes_in (get_or items i d ∷ []))
item_below n [] i d h a = absurd (omega (arith, h))
item_below n (Label f rank ∷ items) zero d h a = tt
item_below n (Hole q ∷ items) zero d h a = (a.0, tt)
item_below n (Label f rank ∷ items) (suc i) d h a = item_below n items i d (omega (arith, h)) a
item_below n (Hole q ∷ items) (suc i) d h a = item_below n items i d (omega (arith, h)) a.1

pub item_has : (items : List (Item ℕ)) (i : ℕ) (d : Item ℕ) (q : ℕ) → i < length items → Has (holes_in (get_or items i d ∷ [])) q → Has (holes_in items) q
item_has [] i d q h k = absurd (omega (arith, h))
item_has (Label f rank ∷ items) zero d q h k = absurd k
item_has (Hole p ∷ items) zero d q h k = elim k [ inl e ↦ inl e | inr f ↦ absurd f ]
item_has (Label f rank ∷ items) (suc i) d q h k = item_has items i d q (omega (arith, h)) k
item_has (Hole p ∷ items) (suc i) d q h k = inr (item_has items i d q (omega (arith, h)) k)

-- the product with one item
pub with_hole : (product result : Count) (x : Item ℕ) (q m : ℕ) (number : ℕ → ℕ) → x ≡ Hole q → result ≡ counted (m * number q) → result ≡ counted (m * product_over number (holes_in (x ∷ [])))
with_hole product result x q m number e f =
    f ∙ ap (λ n. counted (m * n)) (once (number q)) ∙ ap (λ (y : Item ℕ). counted (m * product_over number (holes_in (y ∷ [])))) (sym e)
  where
    once : (n : ℕ) → n ≡ n * 1
    once n = omega arith

pub with_label : (product : Count) (x : Item ℕ) (f rank m : ℕ) (number : ℕ → ℕ) → x ≡ Label f rank → product ≡ counted m → product ≡ counted (m * product_over number (holes_in (x ∷ [])))
with_label product x f rank m number e p =
    p ∙ ap counted (once m) ∙ ap (λ (y : Item ℕ). counted (m * product_over number (holes_in (y ∷ [])))) (sym e)
  where
    once : (n : ℕ) → n ≡ n * 1
    once n = omega arith

pub hole_has : (x : Item ℕ) (q : ℕ) → x ≡ Hole q → Has (holes_in (x ∷ [])) q
hole_has x q e = subst (λ (y : Item ℕ). Has (holes_in (y ∷ [])) q) (sym e) (inl refl)

-- Sums

sum_own : (rules : List (Rule ℕ)) (f : ℕ → ℕ) (q k : ℕ) → (rule_at rules k).left ≡ q → sum_over rules f q (suc k) ≡ sum_over rules f q k + f k
sum_own rules f q k e = elim (nat_eq_cases (rule_at rules k).left q) [
  | inl h ↦ ap (λ b. sum_over rules f q k + (if b then f k else 0)) h.1
  | inr h ↦ absurd (h.0 e)
]

sum_other : (rules : List (Rule ℕ)) (f : ℕ → ℕ) (q k : ℕ) → ((rule_at rules k).left ≡ q → ⊥) → sum_over rules f q (suc k) ≡ sum_over rules f q k
sum_other rules f q k e = elim (nat_eq_cases (rule_at rules k).left q) [
  | inl h ↦ absurd (e h.0)
  | inr h ↦ ap (λ b. sum_over rules f q k + (if b then f k else 0)) h.1 ∙ nothing (sum_over rules f q k)
]
  where
    nothing : (n : ℕ) → n + 0 ≡ n
    nothing n = omega arith

sum_skip : (rules : List (Rule ℕ)) (f : ℕ → ℕ) (q i p : ℕ) → i ≤ p → ((n : ℕ) → i ≤ n → n < p → (rule_at rules n).left ≡ q → ⊥) → sum_over rules f q p ≡ sum_over rules f q i
sum_skip rules f q i zero h none_there = let e : 0 ≡ i = omega (arith, h) in ap (sum_over rules f q) e
sum_skip rules f q i (suc p) h none_there = elim (place i p h) [
  | inl l ↦
      sum_other rules f q p (none_there p l (omega arith))
      ∙ sum_skip rules f q i p l (λ n a b. none_there n a (omega (arith, b)))
  | inr e ↦ ap (sum_over rules f q) (sym e)
]
  where
    place : (i p : ℕ) → i ≤ suc p → (i ≤ p) ⊎ (i ≡ suc p)
    place i p h = grind arith

next_skip : (rules : List (Rule ℕ)) (f : ℕ → ℕ) (q i p : ℕ) → IsNext (lefts rules) q i p → sum_over rules f q p ≡ sum_over rules f q i
next_skip rules f q i p next =
    sum_skip rules f q i p next.from (λ n a b e.
    next.none_between n a b (lefts_at rules n (omega (arith, b, next.within, lefts_long rules)) ∙ e))

pub sum_first : (rules : List (Rule ℕ)) (f : ℕ → ℕ) (q p : ℕ) → IsNext (lefts rules) q 0 p → Number 0 ≡ counted (sum_over rules f q p)
sum_first rules f q p next = ap counted (sym (next_skip rules f q 0 p next))

pub sum_more : (rules : List (Rule ℕ)) (f : ℕ → ℕ) (q n p : ℕ) → (rule_at rules n).left ≡ q → IsNext (lefts rules) q (n + 1) p →
    sum_over rules f q n + f n ≡ sum_over rules f q p
sum_more rules f q n p e next =
    sym (sum_own rules f q n e) ∙ ap (sum_over rules f q) (one n) ∙ sym (next_skip rules f q (n + 1) p next)
  where
    one : (n : ℕ) → suc n ≡ n + 1
    one n = omega arith

-- Totals

none_summed : (rules : List (Rule ℕ)) (totals : List Count) → AreSummed rules [] totals
none_summed rules totals = record { number = λ q. 0; runs = λ q h. absurd h; total = λ q h. absurd h }

pub sums_begin : (rules : List (Rule ℕ)) (order : List ℕ) (totals : List Count) → AreSummed rules (take 0 order) totals
sums_begin rules order totals = none_summed rules totals

-- one state more
module _ (rules : List (Rule ℕ)) (count i q : ℕ) (order : List ℕ) (totals : List Count) (c : Count)
    (is : IsOrder (Leads rules) count order) (h : i < length order) (at : get_or order i 0 ≡ q) (s : AreSummed rules (take i order) totals) where
  abbrev pub many : ℕ
  many = sum_over rules (rule_number rules s.number) q (length rules)

  abbrev pub numbered : ℕ → ℕ
  numbered p = if nat_eq p q then many else s.number p

  leads_early : (p : ℕ) → Leads rules q p → Has (take i order) p
  leads_early p l = is.after i p h (subst (λ z. Leads rules z p) (sym at) l)

  pub known : (p : ℕ) → Leads rules q p → HasTotal totals s.number p
  known p l = s.total p (leads_early p l)

  new_or_old : (p : ℕ) → Has (take (i + 1) order) p → (p ≡ q → ⊥) → Has (take i order) p
  new_or_old p k n = elim (has_either (take i order) (get_or order i 0 ∷ []) p (subst (λ xs. Has xs p) (take_more order i 0 h) k)) [
    | inl l ↦ l
    | inr l ↦ elim l [ inl e ↦ absurd (n (sym e ∙ at)) | inr f ↦ absurd f ]
  ]

  number_own : (p : ℕ) → p ≡ q → numbered p ≡ many
  number_own p e = elim (nat_eq_cases p q) [ inl k ↦ ap (λ b. if b then many else s.number p) k.1 | inr k ↦ absurd (k.0 e) ]

  number_other : (p : ℕ) → (p ≡ q → ⊥) → numbered p ≡ s.number p
  number_other p e = elim (nat_eq_cases p q) [ inl k ↦ absurd (e k.0) | inr k ↦ ap (λ b. if b then many else s.number p) k.1 ]

  pub summed_more : q < length totals → c ≡ counted many → AreSummed rules (take (i + 1) order) (slice_set totals q c)
  summed_more b e = record {
    number = numbered;
    runs = λ p k. elim (same_or_other p q) [
      | inl same ↦
          subst (λ z. HasMembers (IsRunFrom rules z) (numbered z)) (sym same)
          (subst (HasMembers (IsRunFrom rules q)) (sym (number_own q refl))
          (runs_of_sides rules s.number q (λ n v l own w. s.runs v (leads_early v (record { rule = n; early = l; left = own; stands = w })))))
      | inr other ↦ subst (HasMembers (IsRunFrom rules p)) (sym (number_other p other)) (s.runs p (new_or_old p k other))
    ];
    total = λ p k. elim (same_or_other p q) [
      | inl same ↦
          subst (HasTotal (slice_set totals q c) numbered) (sym same)
          (get_or-set_same totals q c Endless b ∙ e ∙ ap counted (sym (number_own q refl)))
      | inr other ↦ get_or-set_other totals q p c Endless other ∙ s.total p (new_or_old p k other) ∙ ap counted (sym (number_other p other))
    ];
  }

pub start_counted : (rules : List (Rule ℕ)) (count : ℕ) (order : List ℕ) (totals : List Count) (n : ℕ) → length order ≤ n → IsOrder (Leads rules) count order → AreSummed rules (take n order) totals →
    IsCountOf (IsRun rules) (get_or totals 0 Endless)
start_counted rules count order totals n h is s =
    let has : Has (take n order) 0 = subst (λ xs. Has xs 0) (sym (take_all n order h)) is.start in
    count_is (IsRun rules) (s.number 0) (get_or totals 0 Endless) (s.total 0 has) (s.runs 0 has)
