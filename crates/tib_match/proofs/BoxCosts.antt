-- Costs read along a preorder with costs at its holes, and the columns that have the least of them.
use Rattle.std.specs.Prelude.{◌≡◌, ◌⊎◌, ℕ, ◌+◌, ◌<◌, ◌≤◌, nat_le, Bool, true, false, List, [], ◌∷◌, ◌++◌, length, map, replicate, Option, None, Some, if◌then◌else◌, refl}
use Rattle.std.proofs.Common.{zero, suc, arith, ap, sym, ◌∙◌, subst, inl, inr}
use Rattle.std.proofs.lemmas.Bool.Decides.{nat_tests}
use Rattle.tib_lex.proofs.Lists.{some_same}
use Rattle.tib_cost.specs.Semiring.{ProductLaws, most, cut}
use Rattle.tib_cost.specs.Least.{IsLeast, IsMember, AtMost, times}
use Rattle.tib_cost.proofs.Least.{IsLeast-one, IsLeast-none, at_least_right, grows_both}
use Rattle.tib_grammar.specs.Sides.{Symbol, label, hole, holes}
use Rattle.tib_grammar.specs.Run.{rule_at}
use Rattle.tib_grammar.specs.Forms.{AreNormal}
use Rattle.tib_grammar.specs.declared.Rule.{Rule}
use Rattle.tib_normal.specs.Rules.{positions_with}
use Rattle.tib_match.specs.MatchLists.{IsReadCost}
use Rattle.tib_match.specs.Boxes.{cost_at, cost_along, spanned, all_spanned, Inside, IsReadBox, IsColumn}
use Rattle.tib_match.specs.declared.hole_cost.HoleCost.{HoleCost}
use Rattle.tib_match.specs.declared.hole_cost.HoleCost.TheVariants.{Free}
use Rattle.tib_match.specs.declared.spans.Span.{Span}
use Rattle.tib_match.proofs.Listed.{listed, is_listed}
use Rattle.tib_match.proofs.Steps.{swap_first}

cut_cases : (a : ℕ) → ((a ≤ most) × (cut a ≡ Some a)) ⊎ ((most < a) × (cut a ≡ None))
cut_cases a = grind (arith, nat_tests)

pub cut_low : (a d : ℕ) → cut a ≡ Some d → a ≤ most
cut_low a d e = elim (cut_cases a) [ inl h ↦ h.0 | inr h ↦ absurd (let bad : None ≡ Some d = sym h.1 ∙ e in cc) ]

-- the parts of a product that is a cost
pub times_some : (product : ℕ → ℕ → ℕ) (v w : Option ℕ) (c : ℕ) → times product v w ≡ Some c → (a : ℕ) × (b : ℕ) × (v ≡ Some a) × (w ≡ Some b) × (product a b ≡ c) × (c ≤ most)
times_some product None w c e = absurd (cc)
times_some product (Some a) None c e = absurd (cc)
times_some product (Some a) (Some b) c e = elim (cut_cases (product a b)) [
  | inl h ↦ let same : product a b ≡ c = some_same (product a b) c (sym h.1 ∙ e) in (a, b, refl, refl, same, omega (arith, h.0, same))
  | inr h ↦ absurd (let bad : None ≡ Some c = sym h.1 ∙ e in cc)
]

-- a product of two costs that is a cost
pub times_is : (product : ℕ → ℕ → ℕ) (v w : Option ℕ) (a b : ℕ) → v ≡ Some a → w ≡ Some b → product a b ≤ most → times product v w ≡ Some (product a b)
times_is product v w a b e k h =
    ap (λ x. times product x w) e
    ∙ ap (λ x. times product (Some a) x) k
    ∙ elim (cut_cases (product a b)) [ inl c ↦ c.1 | inr c ↦ absurd (omega (arith, c.0, h)) ]

-- a cost of at most a number
pub at_most_some : (v : Option ℕ) (n : ℕ) → AtMost v n → (m : ℕ) × (v ≡ Some m) × (m ≤ n)
at_most_some None n h = absurd h
at_most_some (Some m) n h = (m, refl, h)

pub along_long : (product : ℕ → ℕ → ℕ) (fs : List (ℕ → Option ℕ)) (qs : List ℕ) (c : ℕ) → cost_along product fs qs ≡ Some c → length fs ≡ length qs
along_long product [] [] c e = refl
along_long product [] (q ∷ qs) c e = absurd (cc)
along_long product (f ∷ fs) [] c e = absurd (cc)
along_long product (f ∷ fs) (q ∷ qs) c e =
    let t = times_some product (f q) (cost_along product fs qs) c e in
    ap suc (along_long product fs qs t.1 t.3)

-- where there are not as many states there is none
pub along_other : (product : ℕ → ℕ → ℕ) (fs : List (ℕ → Option ℕ)) (qs : List ℕ) → (length fs ≡ length qs → ⊥) → None ≡ cost_along product fs qs
along_other product fs qs other = by (cost_along product fs qs) refl
  where
    by : (v : Option ℕ) → cost_along product fs qs ≡ v → None ≡ cost_along product fs qs
    by None e = sym e
    by (Some c) e = absurd (other (along_long product fs qs c e))

-- a state outside its span has none
pub spanned_low : (r : Span) (f : ℕ → Option ℕ) (q : ℕ) → q < r.low → None ≡ spanned r f q
spanned_low r f q h = let a : nat_le r.low q ≡ false = grind (arith, nat_tests) in rw a refl

pub spanned_past : (r : Span) (f : ℕ → Option ℕ) (q : ℕ) → r.high ≤ q → None ≡ spanned r f q
spanned_past r f q h =
    let a : nat_le (q + 1) r.high ≡ false = grind (arith, nat_tests) in
    rw a (by (nat_le r.low q))
  where
    by : (b : Bool) → ◌≡◌ {A = Option ℕ} None (if b then None else None)
    by true = refl
    by false = refl

-- a state in its span costs what it costs
pub spanned_in : (r : Span) (f : ℕ → Option ℕ) (q : ℕ) → r.low ≤ q → q < r.high → spanned r f q ≡ f q
spanned_in r f q h k =
    let a : nat_le r.low q ≡ true = grind (arith, nat_tests) in
    let b : nat_le (q + 1) r.high ≡ true = grind (arith, nat_tests) in
    rw (a, b) refl

-- what has a cost there is in the span
pub spanned_some : (r : Span) (f : ℕ → Option ℕ) (q a : ℕ) → spanned r f q ≡ Some a → (r.low ≤ q) × (q < r.high) × (f q ≡ Some a)
spanned_some r f q a e = by (nat_le r.low q) (nat_le (q + 1) r.high) refl refl e
  where
    by : (b d : Bool) → nat_le r.low q ≡ b → nat_le (q + 1) r.high ≡ d → (if b then (if d then f q else None) else None) ≡ Some a → (r.low ≤ q) × (q < r.high) × (f q ≡ Some a)
    by true true x y e = (grind (arith, nat_tests), grind (arith, nat_tests), e)
    by true false x y e = absurd (cc)
    by false d x y e = absurd (cc)

-- states in their spans cost what they cost
pub inside_costs : (product : ℕ → ℕ → ℕ) (rs : List Span) (hs : List HoleCost) (ss : List ℕ) → length hs ≡ length rs → Inside rs ss →
    cost_along product (all_spanned rs hs) ss ≡ cost_along product (map cost_at hs) ss
inside_costs product [] [] [] l i = refl
inside_costs product [] [] (s ∷ ss) l i = absurd i
inside_costs product [] (h ∷ hs) ss l i = absurd (omega (arith, l))
inside_costs product (r ∷ rs) [] ss l i = absurd (omega (arith, l))
inside_costs product (r ∷ rs) (h ∷ hs) [] l i = absurd i
inside_costs product (r ∷ rs) (h ∷ hs) (s ∷ ss) l i =
    ap (λ x. times product x (cost_along product (all_spanned rs hs) ss)) (spanned_in r (cost_at h) s i.0 i.1)
    ∙ ap (times product (cost_at h s)) (inside_costs product rs hs ss (omega (arith, l)) i.2)

-- the spans of single states
abbrev pub AreSingles : List Span → List ℕ → Type 0
AreSingles [] [] = Unit {0}
AreSingles [] (s ∷ ss) = ⊥
AreSingles (r ∷ rs) [] = ⊥
AreSingles (r ∷ rs) (s ∷ ss) = (r.low ≡ s) × (r.high ≡ s + 1) × AreSingles rs ss

module _ {levelled weighted : Bool} {product : ℕ → ℕ → ℕ} (laws : ProductLaws levelled weighted product) where
  -- holes that are free cost nothing
  pub frees : (n : ℕ) (ss : List ℕ) → length ss ≡ n → cost_along product (map cost_at (replicate n Free)) ss ≡ Some 0
  frees zero [] e = refl
  frees zero (s ∷ ss) e = absurd (omega (arith, e))
  frees (suc n) [] e = absurd (omega (arith, e))
  frees (suc n) (s ∷ ss) e =
      let rest = frees n ss (omega (arith, e)) in
      let none : product 0 0 ≡ 0 = laws.neutral 0 in
      times_is product (Some 0) (cost_along product (map cost_at (replicate n Free)) ss) 0 0 refl rest (omega (arith, none)) ∙ ap Some none

  -- lists of costs side by side
  pub join :
      (fs gs : List (ℕ → Option ℕ)) (ps qs : List ℕ) (a b : ℕ) → cost_along product fs ps ≡ Some a → cost_along product gs qs ≡ Some b → product a b ≤ most →
      cost_along product (fs ++ gs) (ps ++ qs) ≡ Some (product a b)
  join [] gs [] qs a b e k h = k ∙ ap Some (sym (ap (λ x. product x b) (sym (some_same 0 a e)) ∙ laws.neutral b))
  join [] gs (p ∷ ps) qs a b e k h = absurd (cc)
  join (f ∷ fs) gs [] qs a b e k h = absurd (cc)
  join (f ∷ fs) gs (p ∷ ps) qs a b e k h =
      let t = times_some product (f p) (cost_along product fs ps) a e in
      let same : product t.0 (product t.1 b) ≡ product a b = sym (laws.regroups t.0 t.1 b) ∙ ap (λ z. product z b) t.4 in
      let low : product t.1 b ≤ product t.0 (product t.1 b) = at_least_right laws t.0 (product t.1 b) in
      let inner = join fs gs ps qs t.1 b t.3 k (omega (arith, low, same, h)) in
      times_is product (f p) (cost_along product (fs ++ gs) (ps ++ qs)) t.0 (product t.1 b) t.2 inner (omega (arith, same, h)) ∙ ap Some same

  -- and taken apart
  pub part :
      (fs gs : List (ℕ → Option ℕ)) (ps qs : List ℕ) (c : ℕ) → length fs ≡ length ps → cost_along product (fs ++ gs) (ps ++ qs) ≡ Some c → c ≤ most →
      (a : ℕ) × (b : ℕ) × (cost_along product fs ps ≡ Some a) × (cost_along product gs qs ≡ Some b) × (product a b ≡ c)
  part [] gs [] qs c l e m = (0, c, refl, e, laws.neutral c)
  part [] gs (p ∷ ps) qs c l e m = absurd (omega (arith, l))
  part (f ∷ fs) gs [] qs c l e m = absurd (omega (arith, l))
  part (f ∷ fs) gs (p ∷ ps) qs c l e m =
      let t = times_some product (f p) (cost_along product (fs ++ gs) (ps ++ qs)) c e in
      let right : t.1 ≤ product t.0 t.1 = at_least_right laws t.0 t.1 in
      let r = part fs gs ps qs t.1 (omega (arith, l)) t.3 (omega (arith, right, t.4, m)) in
      let same : product (product t.0 r.0) r.1 ≡ c = laws.regroups t.0 r.0 r.1 ∙ ap (product t.0) r.4 ∙ t.4 in
      let low : product t.0 r.0 ≤ product (product t.0 r.0) r.1 = laws.at_least (product t.0 r.0) r.1 in
      (product t.0 r.0, r.1, times_is product (f p) (cost_along product fs ps) t.0 r.0 t.2 r.2 (omega (arith, low, same, m)), r.3, same)

  module _ (rules : List (Rule ℕ)) where
    -- nothing is read
    pub empty_columns : (P : Type 0) (qs : List ℕ) → IsLeast (IsReadBox product rules {P = P} [] qs []) (cost_along product [] qs)
    empty_columns P [] = IsLeast-one 0
    empty_columns P (q ∷ qs) = IsLeast-none (λ c h. h)

    -- one more hole
    pub hole_step :
        {P : Type 0} (x : P) (rank : ℕ) (xs : List (Symbol ℕ P × ℕ)) (f g : ℕ → Option ℕ) (fs columns : List (ℕ → Option ℕ)) → ((q : ℕ) → g q ≡ f q) →
        ((qs : List ℕ) → IsLeast (IsReadBox product rules xs qs fs) (cost_along product columns qs)) →
        (qs : List ℕ) → IsLeast (IsReadBox product rules ((hole x, rank) ∷ xs) qs (f ∷ fs)) (cost_along product (g ∷ columns) qs)
    hole_step x rank xs f g fs columns same old [] = IsLeast-none (λ c h. h)
    hole_step {P} x rank xs f g fs columns same old (q ∷ qs) = record {
      attained = attained (times product (g q) (cost_along product columns qs)) refl;
      lower = λ n h b.
          let right : h.1 ≤ product h.0 h.1 = at_least_right laws h.0 h.1 in
          let s = at_most_some (cost_along product columns qs) h.1 ((old qs).lower h.1 h.3 (omega (arith, right, h.4, b))) in
          let up : product h.0 s.0 ≤ product h.0 h.1 = laws.grows h.0 s.0 h.1 s.2 in
          subst (λ v. AtMost v n) (sym (times_is product (g q) (cost_along product columns qs) h.0 s.0 (same q ∙ h.2) s.1 (omega (arith, up, h.4, b)))) (omega (arith, up, h.4));
    }
      where
        attained : (v : Option ℕ) → times product (g q) (cost_along product columns qs) ≡ v → IsMember (IsReadBox product rules ((hole x, rank) ∷ xs) (q ∷ qs) (f ∷ fs)) v
        attained None e = tt
        attained (Some z) e =
            let t = times_some product (g q) (cost_along product columns qs) z e in
            let here : IsLeast (IsReadBox product rules xs qs fs) (Some t.1) = subst (IsLeast (IsReadBox product rules xs qs fs)) t.3 (old qs) in
            ((t.0, t.1, sym (same q) ∙ t.2, here.attained.0, t.4), t.5)

    -- one more label, over the columns of its children
    pub label_step :
        AreNormal rules → {P : Type 0} (g rank : ℕ) (xs : List (Symbol ℕ P × ℕ)) (fs below more : List (ℕ → Option ℕ)) (column : ℕ → Option ℕ) → length below ≡ rank →
        IsColumn product rules (positions_with g rank rules) below column → ((qs : List ℕ) → IsLeast (IsReadBox product rules xs qs fs) (cost_along product (below ++ more) qs)) →
        (qs : List ℕ) → IsLeast (IsReadBox product rules ((label g, rank) ∷ xs) qs fs) (cost_along product (column ∷ more) qs)
    label_step normal g rank xs fs below more column long is old [] = IsLeast-none (λ c h. h)
    label_step normal {P} g rank xs fs below more column long is old (q ∷ qs) = record {
      attained = attained (times product (column q) (cost_along product more qs)) refl;
      lower = lower;
    }
      where
        attained : (v : Option ℕ) → times product (column q) (cost_along product more qs) ≡ v → IsMember (IsReadBox product rules ((label g, rank) ∷ xs) (q ∷ qs) fs) v
        attained None e = tt
        attained (Some z) e =
            let t = times_some product (column q) (cost_along product more qs) z e in
            let r = is.attained q t.0 t.2 in
            let w : ℕ = (rule_at rules r.0).cost in
            let hs : List ℕ = holes (rule_at rules r.0).right.kids in
            let u = times_some product (Some w) (cost_along product below hs) t.0 r.3 in
            let l = listed rules g rank normal r.0 r.1 in
            let whole : product w (product u.1 t.1) ≡ z =
            ap (λ k. product k (product u.1 t.1)) (some_same w u.0 u.2) ∙ sym (laws.regroups u.0 u.1 t.1) ∙ ap (λ k. product k t.1) u.4 ∙ t.4
            in
            let right : product u.1 t.1 ≤ product w (product u.1 t.1) = at_least_right laws w (product u.1 t.1) in
            let both = join below more hs qs u.1 t.1 u.3 t.3 (omega (arith, right, whole, t.5)) in
            let here : IsLeast (IsReadBox product rules xs (hs ++ qs) fs) (Some (product u.1 t.1)) = subst (IsLeast (IsReadBox product rules xs (hs ++ qs) fs)) both (old (hs ++ qs)) in
            (record { rule = r.0; below = l.below; left = r.2; root = l.root; ranked = l.ranked; inner = product u.1 t.1; rest = here.attained.0; costs = whole }, t.5)

        lower : (n : ℕ) → IsReadBox product rules ((label g, rank) ∷ xs) (q ∷ qs) fs n → n ≤ most → AtMost (times product (column q) (cost_along product more qs)) n
        lower n h b =
            let w : ℕ = (rule_at rules h.rule).cost in
            let hs : List ℕ = holes (rule_at rules h.rule).right.kids in
            let right : h.inner ≤ product w h.inner = at_least_right laws w h.inner in
            let s = at_most_some (cost_along product (below ++ more) (hs ++ qs)) h.inner ((old (hs ++ qs)).lower h.inner h.rest (omega (arith, right, h.costs, b))) in
            let p = part below more hs qs s.0 (long ∙ sym h.ranked) s.1 (omega (arith, s.2, right, h.costs, b)) in
            let up : product w s.0 ≤ product w h.inner = laws.grows w s.0 h.inner s.2 in
            let same : product (product w p.0) p.1 ≡ product w s.0 = laws.regroups w p.0 p.1 ∙ ap (product w) p.4 in
            let first : product w p.0 ≤ product (product w p.0) p.1 = laws.at_least (product w p.0) p.1 in
            let own = times_is product (Some w) (cost_along product below hs) w p.0 refl p.2 (omega (arith, first, same, up, h.costs, b)) in
            let has = is_listed rules g rank normal h.rule (record { below = h.below; root = h.root; ranked = h.ranked }) in
            let k = at_most_some (column q) (product w p.0) (subst (λ x. AtMost (column x) (product w p.0)) h.left (is.lower h.rule (product w p.0) has own)) in
            let less : product k.0 p.1 ≤ product (product w p.0) p.1 = grows_both laws k.0 p.1 (product w p.0) p.1 k.2 (omega arith) in
            subst (λ v. AtMost v n) (sym (times_is product (column q) (cost_along product more qs) k.0 p.1 k.1 p.3 (omega (arith, less, same, up, h.costs, b)))) (omega (arith, less, same, up, h.costs))

    -- what is read to some states has its cost with the costs of these
    pub read_box :
        {P : Type 0} (xs : List (Symbol ℕ P × ℕ)) (qs ss : List ℕ) (fs : List (ℕ → Option ℕ)) (m w : ℕ) → IsReadCost product rules xs qs ss m → cost_along product fs ss ≡ Some w →
        IsReadBox product rules xs qs fs (product m w)
    read_box [] [] [] [] m w r e = ap (λ x. product x w) r ∙ laws.neutral w ∙ sym (some_same 0 w e)
    read_box [] [] [] (f ∷ fs) m w r e = absurd (cc)
    read_box [] [] (s ∷ ss) fs m w r e = absurd r
    read_box [] (q ∷ qs) ss fs m w r e = absurd r
    read_box ((label g, rank) ∷ xs) [] ss fs m w r e = absurd r
    read_box ((label g, rank) ∷ xs) (q ∷ qs) ss fs m w r e = record {
      rule = r.rule;
      below = r.below;
      left = r.left;
      root = r.root;
      ranked = r.ranked;
      inner = product r.inner w;
      rest = read_box xs (holes (rule_at rules r.rule).right.kids ++ qs) ss fs r.inner w r.rest e;
      costs = sym (laws.regroups (rule_at rules r.rule).cost r.inner w) ∙ ap (λ x. product x w) r.costs;
    }
    read_box ((hole x, rank) ∷ xs) [] ss fs m w r e = absurd r
    read_box ((hole x, rank) ∷ xs) (q ∷ qs) [] fs m w r e = absurd r
    read_box ((hole x, rank) ∷ xs) (q ∷ qs) (s ∷ ss) [] m w r e = absurd (cc)
    read_box ((hole x, rank) ∷ xs) (q ∷ qs) (s ∷ ss) (f ∷ fs) m w r e =
        let t = times_some product (f s) (cost_along product fs ss) w e in
        (t.0, product m t.1, ap f r.0 ∙ t.2, read_box xs qs ss fs m t.1 r.1 t.3, swap_first laws t.0 m t.1 ∙ ap (product m) t.4)

    -- what is read in a box of one list is read to this list
    pub box_read :
        {P : Type 0} (xs : List (Symbol ℕ P × ℕ)) (qs : List ℕ) (rs : List Span) (hs : List HoleCost) (ss : List ℕ) (c : ℕ) → length hs ≡ length rs → AreSingles rs ss →
        IsReadBox product rules xs qs (all_spanned rs hs) c → c ≤ most →
        (m : ℕ) × (w : ℕ) × IsReadCost product rules xs qs ss m × (cost_along product (map cost_at hs) ss ≡ Some w) × (product m w ≡ c)
    box_read [] [] [] [] [] c l a h b = (0, 0, refl, refl, laws.neutral 0 ∙ sym h)
    box_read [] [] [] [] (s ∷ ss) c l a h b = absurd a
    box_read [] [] [] (k ∷ hs) ss c l a h b = absurd (omega (arith, l))
    box_read [] [] (r ∷ rs) [] ss c l a h b = absurd (omega (arith, l))
    box_read [] [] (r ∷ rs) (k ∷ hs) ss c l a h b = absurd h
    box_read [] (q ∷ qs) rs hs ss c l a h b = absurd h
    box_read ((label g, rank) ∷ xs) [] rs hs ss c l a h b = absurd h
    box_read ((label g, rank) ∷ xs) (q ∷ qs) rs hs ss c l a h b =
        let w : ℕ = (rule_at rules h.rule).cost in
        let right : h.inner ≤ product w h.inner = at_least_right laws w h.inner in
        let i = box_read xs (holes (rule_at rules h.rule).right.kids ++ qs) rs hs ss h.inner l a h.rest (omega (arith, right, h.costs, b)) in (
          product w i.0,
          i.1,
          record { rule = h.rule; below = h.below; left = h.left; root = h.root; ranked = h.ranked; inner = i.0; rest = i.2; costs = refl },
          i.3,
          laws.regroups w i.0 i.1 ∙ ap (product w) i.4 ∙ h.costs,
        )
    box_read ((hole x, rank) ∷ xs) [] rs hs ss c l a h b = absurd h
    box_read ((hole x, rank) ∷ xs) (q ∷ qs) [] hs ss c l a h b = absurd h
    box_read ((hole x, rank) ∷ xs) (q ∷ qs) (r ∷ rs) [] ss c l a h b = absurd (omega (arith, l))
    box_read ((hole x, rank) ∷ xs) (q ∷ qs) (r ∷ rs) (k ∷ hs) [] c l a h b = absurd a
    box_read ((hole x, rank) ∷ xs) (q ∷ qs) (r ∷ rs) (k ∷ hs) (s ∷ ss) c l a h b =
        let o = spanned_some r (cost_at k) q h.0 h.2 in
        let same : q ≡ s = omega (arith, a.0, a.1, o.0, o.1) in
        let right : h.1 ≤ product h.0 h.1 = at_least_right laws h.0 h.1 in
        let i = box_read xs qs rs hs ss h.1 (omega (arith, l)) a.2 h.3 (omega (arith, right, h.4, b)) in
        let costs : product i.0 (product h.0 i.1) ≡ c = swap_first laws i.0 h.0 i.1 ∙ ap (product h.0) i.4 ∙ h.4 in
        let low : product h.0 i.1 ≤ product i.0 (product h.0 i.1) = at_least_right laws i.0 (product h.0 i.1) in (
          i.0,
          product h.0 i.1,
          (same, i.2),
          times_is product (cost_at k s) (cost_along product (map cost_at hs) ss) h.0 i.1 (sym (ap (cost_at k) same) ∙ o.2) i.3 (omega (arith, low, costs, b)),
          costs,
        )
