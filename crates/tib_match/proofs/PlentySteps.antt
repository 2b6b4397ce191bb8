-- Columns of lower bounds that grow by one rule, one state or one hole.
use Rattle.std.specs.Prelude.{◌≡◌, ℕ, ◌+◌, ◌-◌, ◌*◌, ◌<◌, ◌≤◌, List, [], ◌∷◌, ◌++◌, length, map, take, drop, reverse, replicate, Option, None, Some, refl}
use Rattle.std.proofs.Common.{zero, suc, arith, get_or, set, ap, sym, ◌∙◌, subst, inl, inr}
use Rattle.std.proofs.lemmas.List.{get_or-set_same, get_or-set_other, map-append, reverse-append, take_more, take_all, drop_all, at_drop_more, get_or_push, get_or_append_left, get_or_past, length_push}
use Rattle.std.specs.Cmp.Lexicographic.{nat_list_cmp_total}
use Rattle.tib_lex.specs.Lists.{Has}
use Rattle.tib_lex.proofs.Lists.{head_is, tail_is, some_same, each_weaker}
use Rattle.tib_lex.proofs.Numbers.{same_or_other, nat_three}
use Rattle.tib_grammar.specs.Items.{state_in, pairs_of}
use Rattle.tib_grammar.specs.Sides.{holes}
use Rattle.tib_grammar.specs.Run.{rule_at}
use Rattle.tib_grammar.specs.declared.Item.{Item}
use Rattle.tib_grammar.specs.declared.Item.TheVariants.{Label, Hole}
use Rattle.tib_grammar.specs.declared.Rule.{Rule}
use Rattle.tib_match.specs.Boxes.{cost_at}
use Rattle.tib_match.specs.Counting.{ComesFirst, plenty_at, plenties_of, HasAlong, IsPart, IsEarlier, HasChain, IsChained, AreChained, BeginWithHoles, IsMerged, IsOneAt}
use Rattle.tib_match.specs.declared.hole_cost.HoleCost.{HoleCost}
use Rattle.tib_match.specs.declared.plenty.Plenty.{Plenty}
use Rattle.tib_match.specs.declared.plenty.Plenties.{Plenties}
use Rattle.tib_match.proofs.BoxSearch.{equal, less}

-- one more item is a hole
pub hole_leads : {P : Type 0} (k : ℕ) (items : List (Item P)) (d : Item P) (x : P) → BeginWithHoles k (pairs_of items) → k < length items → get_or items k d ≡ Hole x → BeginWithHoles (k + 1) (pairs_of items)
hole_leads {P} k items d x b l e =
    let next : suc k ≡ k + 1 = omega arith in
    subst (λ n. BeginWithHoles n (pairs_of items)) next (by k items b l e)
  where
    by : (k : ℕ) (items : List (Item P)) → BeginWithHoles k (pairs_of items) → k < length items → get_or items k d ≡ Hole x → BeginWithHoles (suc k) (pairs_of items)
    by k [] b l e = absurd (omega (arith, l))
    by zero (Hole y ∷ items) b l e = tt
    by zero (Label f rank ∷ items) b l e = absurd (cc)
    by (suc k) (Hole y ∷ items) b l e = by k items b (omega (arith, l)) e
    by (suc k) (Label f rank ∷ items) b l e = absurd b

-- of two lists the one with the lesser first state that differs comes first
pub first_differs : (i k : ℕ) (xs ys : List (Item ℕ)) (d e : Item ℕ) (here there : ℕ) → i < k → i < length xs → i < length ys → take i (map state_in xs) ≡ take i (map state_in ys) →
    here ≡ state_in (get_or xs i d) → there ≡ state_in (get_or ys i e) → here < there → ComesFirst (take k (map state_in xs)) (take k (map state_in ys))
first_differs i k xs ys d e here there low a b same is at h = by i k xs ys low a b same (omega (arith, is, at, h))
  where
    by : (i k : ℕ) (xs ys : List (Item ℕ)) → i < k → i < length xs → i < length ys → take i (map state_in xs) ≡ take i (map state_in ys) → state_in (get_or xs i d) < state_in (get_or ys i e) →
        ComesFirst (take k (map state_in xs)) (take k (map state_in ys))
    by i zero xs ys low a b same h = absurd (omega (arith, low))
    by i (suc k) [] ys low a b same h = absurd (omega (arith, a))
    by i (suc k) (x ∷ xs) [] low a b same h = absurd (omega (arith, b))
    by zero (suc k) (x ∷ xs) (y ∷ ys) low a b same h = rw (less (state_in x) (state_in y) h) refl
    by (suc i) (suc k) (x ∷ xs) (y ∷ ys) low a b same h =
        rw (equal (state_in x) (state_in y) (head_is same)) (by i k xs ys (omega (arith, low)) (omega (arith, a)) (omega (arith, b)) (tail_is same) h)

-- one more state is the same in both
pub front_more : (i : ℕ) (xs ys : List (Item ℕ)) (d e : Item ℕ) (here there : ℕ) → i < length xs → i < length ys → take i (map state_in xs) ≡ take i (map state_in ys) →
    here ≡ state_in (get_or xs i d) → there ≡ state_in (get_or ys i e) → here ≡ there → take (i + 1) (map state_in xs) ≡ take (i + 1) (map state_in ys)
front_more i xs ys d e here there a b same is at h =
    let next : suc i ≡ i + 1 = omega arith in
    subst (λ n. take n (map state_in xs) ≡ take n (map state_in ys)) next (by i xs ys a b same (sym is ∙ h ∙ at))
  where
    by : (i : ℕ) (xs ys : List (Item ℕ)) → i < length xs → i < length ys → take i (map state_in xs) ≡ take i (map state_in ys) → state_in (get_or xs i d) ≡ state_in (get_or ys i e) →
        take (suc i) (map state_in xs) ≡ take (suc i) (map state_in ys)
    by i [] ys a b same h = absurd (omega (arith, a))
    by i (x ∷ xs) [] a b same h = absurd (omega (arith, b))
    by zero (x ∷ xs) (y ∷ ys) a b same h = ap (λ z. z ∷ []) h
    by (suc i) (x ∷ xs) (y ∷ ys) a b same h =
        ap (λ z. z ∷ take (suc i) (map state_in xs)) (head_is same) ∙ ap (λ zs. state_in y ∷ zs) (by i xs ys (omega (arith, a)) (omega (arith, b)) (tail_is same) h)

-- one more column is in front
pub plenties_more : (columns : List Plenties) (x : Plenties) → plenties_of (columns ++ x ∷ []) ≡ plenty_at x ∷ plenties_of columns
plenties_more columns x = ap reverse (map-append plenty_at columns (x ∷ [])) ∙ reverse-append (map plenty_at columns) (plenty_at x ∷ [])

-- one more column and state
pub along_next :
    (product : ℕ → ℕ → ℕ) (columns : List Plenties) (states : List (Item ℕ)) (i : ℕ) (x : Plenties) (own total next : Plenty) (q : ℕ) (d : Item ℕ) → i < length columns → length columns ≡ length states →
    get_or columns i x ≡ x → plenty_at x q ≡ Some own → q ≡ state_in (get_or states (length states - 1 - i) d) →
    HasAlong product (plenties_of (take i columns)) (map state_in (drop (length states - i) states)) total.count total.worst →
    next.count ≤ own.count * total.count → product own.worst total.worst ≡ next.worst →
    HasAlong product (plenties_of (take (i + 1) columns)) (map state_in (drop (length states - (i + 1)) states)) next.count next.worst
along_next product columns states i x own total next q d low same at is here before count worst =
    let j : ℕ = length states - (i + 1) in
    let inside : j < length states = omega (arith, low, same) in
    let place : length states - 1 - i ≡ j = omega (arith, low, same) in
    let behind : j + 1 ≡ length states - i = omega (arith, low, same) in
    let first : plenties_of (take (i + 1) columns) ≡ plenty_at x ∷ plenties_of (take i columns) =
    ap plenties_of (take_more columns i x low ∙ ap (λ y. take i columns ++ y ∷ []) at) ∙ plenties_more (take i columns) x
    in
    let rest : map state_in (drop j states) ≡ q ∷ map state_in (drop (length states - i) states) =
    at_drop_more (map state_in) states j d inside
    ∙ ap (λ y. y ∷ map state_in (drop (j + 1) states)) (sym (here ∙ ap (λ k. state_in (get_or states k d)) place))
    ∙ ap (λ k. q ∷ map state_in (drop k states)) behind
    in
    subst (λ fs. HasAlong product fs (map state_in (drop j states)) next.count next.worst) (sym first)
    (subst (λ qs. HasAlong product (plenty_at x ∷ plenties_of (take i columns)) qs next.count next.worst) (sym rest)
    (own, is, total.count, total.worst, before, count, worst))

-- no column and no state
pub along_none : (product : ℕ → ℕ → ℕ) (columns : List Plenties) (states : List (Item ℕ)) (total : Plenty) → total.count ≡ 1 → total.worst ≡ 0 →
    HasAlong product (plenties_of (take 0 columns)) (map state_in (drop (length states - 0) states)) total.count total.worst
along_none product columns states total count worst =
    subst (λ xs. HasAlong product [] (map state_in xs) total.count total.worst) (sym (drop_all (length states - 0) states (omega arith))) (omega (arith, count), worst)

-- all columns and all states
pub along_all : (product : ℕ → ℕ → ℕ) (columns : List Plenties) (states : List (Item ℕ)) (i : ℕ) (total : Plenty) → length columns ≤ i → length columns ≡ length states →
    HasAlong product (plenties_of (take i columns)) (map state_in (drop (length states - i) states)) total.count total.worst →
    HasAlong product (plenties_of columns) (map state_in states) total.count total.worst
along_all product columns states i total h same before =
    let none : length states - i ≡ 0 = omega (arith, h, same) in
    subst (λ cs. HasAlong product (plenties_of cs) (map state_in states) total.count total.worst) (take_all i columns h)
    (subst (λ k. HasAlong product (plenties_of (take i columns)) (map state_in (drop k states)) total.count total.worst) none before)

abbrev pub entry : List (Option Plenty) → ℕ → Option Plenty
entry column q = get_or column q None

abbrev nothing_there : Option Plenty
nothing_there = None

none_at : (n q : ℕ) → get_or (replicate n nothing_there) q None ≡ nothing_there
none_at zero q = refl
none_at (suc n) zero = refl
none_at (suc n) (suc q) = none_at n q

module _ (product : ℕ → ℕ → ℕ) (rules : List (Rule ℕ)) (positions : List ℕ) (below : List (ℕ → Option Plenty)) (front : ℕ) where
  -- no rule was tried
  pub none_chained : (n : ℕ) (column : List (Option Plenty)) → column ≡ replicate n None → AreChained product rules positions below front (entry column)
  none_chained n column e q p k = absurd (let bad : None ≡ Some p = sym (ap (λ xs. get_or xs q None) e ∙ none_at n q) ∙ k in cc)

  -- the rule that was counted last is at one of the positions
  pub last_listed : (column : ℕ → Option Plenty) → AreChained product rules positions below front column → (q : ℕ) (p : Plenty) → column q ≡ Some p → Has positions p.last
  last_listed column are q p e = (are q p e).chain.2.listed

  -- another value for one state
  pub chained_set :
      (column : List (Option Plenty)) (left : ℕ) (p : Plenty) → left < length column → IsChained product rules positions below front left p → AreChained product rules positions below front (entry column) →
      AreChained product rules positions below front (entry (set column left (Some p)))
  chained_set column left p low is are q r e = elim (same_or_other q left) [
    | inl same ↦
        let own : Some p ≡ Some r = sym (ap (λ k. get_or (set column left (Some p)) k None) same ∙ get_or-set_same column left (Some p) None low) ∙ e in
        subst (λ k. IsChained product rules positions below front k r) (sym same) (subst (IsChained product rules positions below front left) (some_same p r own) is)
    | inr other ↦ are q r (sym (get_or-set_other column left q (Some p) None other) ∙ e)
  ]

  module _ (q : ℕ) where
    -- one rule
    pub one_chained : (p : Plenty) → IsPart product rules positions below front q p.last p.count p.worst → IsChained product rules positions below front q p
    one_chained p is = record { others = []; chain = (p.count, 0, is, refl, tt, omega arith) }

    part_raised : (n k w v : ℕ) → w ≤ v → IsPart product rules positions below front q n k w → IsPart product rules positions below front q n k v
    part_raised n k w v l p = record { listed = p.listed; left = p.left; inner = p.inner; along = p.along; low = omega (arith, p.low, l) }

    chain_raised : (ns : List ℕ) (n w v : ℕ) → w ≤ v → HasChain product rules positions below front q ns n w → HasChain product rules positions below front q ns n v
    chain_raised [] n w v l h = h
    chain_raised (r ∷ rs) n w v l h = (h.0, h.1, part_raised r h.0 w v l h.2, chain_raised rs h.1 w v l h.3, h.4, h.5)

    -- a rule with others before it
    pub merged_chained :
        (one two both : Plenty) → IsMerged (IsEarlier product rules positions below front q one.last two.last) one two both → IsChained product rules positions below front q one →
        IsPart product rules positions below front q two.last two.count two.worst → IsChained product rules positions below front q both
    merged_chained one two both (inl e) ch part = subst (IsChained product rules positions below front q) (sym e) ch
    merged_chained one two both (inr (inl e)) ch part = subst (IsChained product rules positions below front q) (sym e) (one_chained two part)
    merged_chained one two both (inr (inr m)) ch part =
        let first : List ℕ → List ℕ = λ (ss : List ℕ). take front ss in
        let below_of : ℕ → List ℕ = λ n. first (holes (rule_at rules n).right.kids) in
        record {
          others = one.last ∷ ch.others;
          chain = subst (λ n. HasChain product rules positions below front q (n ∷ one.last ∷ ch.others) both.count both.worst) (sym m.1) (
            two.count,
            one.count,
            part_raised two.last two.count two.worst both.worst m.4 part,
            chain_raised (one.last ∷ ch.others) one.count one.worst both.worst m.3 ch.chain,
            (
              m.0,
              each_weaker (λ j. IsEarlier product rules positions below front q j one.last) (λ j. IsEarlier product rules positions below front q j two.last) ch.others
                  (λ j h. nat_list_cmp_total.trans (below_of j) (below_of one.last) (below_of two.last) h m.0) ch.chain.4,
            ),
            omega (arith, m.2),
          );
        }

-- one more state at a hole
pub one_more :
    (h : HoleCost) (old : List (Option Plenty)) (n : ℕ) (x : Option Plenty) → length old ≡ n → ((p : Plenty) → x ≡ Some p → (p.count ≡ 1) × (cost_at h n ≡ Some p.worst)) →
    IsOneAt h (entry old) → IsOneAt h (entry (old ++ x ∷ []))
one_more h old n x long own are q p e = elim (nat_three q n) [
  | inl low ↦ are q p (sym (get_or_append_left old (x ∷ []) None q (omega (arith, long, low))) ∙ e)
  | inr k ↦ elim k [
    | inl same ↦
        let o = own p (sym (get_or_push old x None q (long ∙ sym same)) ∙ e) in
        (o.0, ap (cost_at h) same ∙ o.1)
    | inr high ↦ absurd (let bad : None ≡ Some p = sym (get_or_past (old ++ x ∷ []) q None (omega (arith, long, high, length_push old x))) ∙ e in cc)
  ]
]
