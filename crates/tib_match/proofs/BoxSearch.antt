-- Each step of the search among boxes keeps what was found and what waits.
use Rattle.std.specs.Prelude.{◌≡◌, ◌⊎◌, ℕ, ◌+◌, ◌<◌, ◌≤◌, Bool, List, [], ◌∷◌, ◌++◌, length, map, reverse, replicate, Option, None, Some, refl}
use Rattle.std.specs.Prelude.{OnOk}
use Rattle.std.specs.declared.result.Result.{Result}
use Rattle.std.proofs.Common.{Ok, Err, zero, suc, arith, get_or, set, ap, sym, ◌∙◌, subst, inl, inr, append_assoc}
use Rattle.std.proofs.lemmas.List.{reverse-append, map-append, length-replicate, length-map, length-set}
use Rattle.std.proofs.lemmas.Cmp.{ranked}
use Rattle.std.specs.Ordering.{MatchOrdering, nat_cmp}
use Rattle.std.specs.Cmp.Lexicographic.{slice_cmp}
use Rattle.std.specs.declared.cmp.Ordering.{Ordering}
use Rattle.std.specs.declared.cmp.Ordering.TheVariants.{Less, Equal, Greater}
use Rattle.tib_lex.specs.Lists.{Has, Each, Ascends}
use Rattle.tib_lex.proofs.Lists.{some_same, each_append}
use Rattle.tib_lex.proofs.Members.{each_has, each_of, each_more, has_left, has_right, has_either}
use Rattle.tib_cost.specs.Semiring.{ProductLaws, most}
use Rattle.tib_cost.specs.Least.{IsLeast, times}
use Rattle.tib_cost.proofs.Least.{IsLeast-unique, at_least_right, grows_both}
use Rattle.tib_tree.specs.Trees.{only, preorder_of}
use Rattle.tib_grammar.specs.Sides.{Symbol, label, hole, holes, holes_of, HolesAreLeaves, Side as SideFor}
use Rattle.tib_grammar.specs.Run.{rule_at}
use Rattle.tib_grammar.specs.Forms.{AreNormal}
use Rattle.tib_grammar.specs.Range.{AreInRange, AllBelow}
use Rattle.tib_grammar.specs.declared.Rule.{Rule}
use Rattle.tib_grammar.proofs.Sides.{holes_of-label}
use Rattle.tib_match.specs.Matches.{IsMatch, IsMatchCost}
use Rattle.tib_match.specs.MatchLists.{IsReadCost}
use Rattle.tib_match.specs.Boxes.{cost_at, all_spanned, Inside, IsReadBox}
use Rattle.tib_match.specs.Searching.{IsWithin, ListsAscend, AreMatchesWhere, AreMoreWhere, no_span, IsOpen, IsNarrow, singles, lows, IsBefore, IsUnderway, IsFirstWide, AreNarrow, HasHalves, IsFoundAt, Takes}
use Rattle.tib_match.specs.declared.hole_cost.HoleCost.{HoleCost}
use Rattle.tib_match.specs.declared.hole_cost.HoleCost.TheVariants.{Free}
use Rattle.tib_match.specs.declared.spans.Span.{Span}
use Rattle.tib_match.proofs.Reading.{matches_are_read}
use Rattle.tib_match.proofs.Stepping.{map_has}
use Rattle.tib_match.proofs.Steps.{neutral_right}
use Rattle.tib_match.proofs.BoxCosts.{cut_low, times_is, at_most_some, along_long, inside_costs, AreSingles, frees, read_box, box_read}

-- what holds on success may be weakened
pub on_ok : {T E : Type 0} (r : Result T E) (P Q : Type 0) → (P → Q) → OnOk r P → OnOk r Q
on_ok (Ok x) P Q f h = f h
on_ok (Err e) P Q f h = tt

-- as many states as spans
inside_long : (rs : List Span) (ss : List ℕ) → Inside rs ss → length rs ≡ length ss
inside_long [] [] i = refl
inside_long [] (s ∷ ss) i = absurd i
inside_long (r ∷ rs) [] i = absurd i
inside_long (r ∷ rs) (s ∷ ss) i = ap suc (inside_long rs ss i.2)

-- a list is in its own box
own_box : (ss : List ℕ) → Inside (singles ss) ss
own_box [] = tt
own_box (s ∷ ss) = (omega arith, omega arith, own_box ss)

pub own_singles : (ss : List ℕ) → AreSingles (singles ss) ss
own_singles [] = tt
own_singles (s ∷ ss) = (refl, refl, own_singles ss)

pub less : (a b : ℕ) → a < b → nat_cmp a b ≡ Less
less a b h = by (nat_cmp a b) (ranked a b (nat_cmp a b) refl)
  where
    by : (o : Ordering) → MatchOrdering o (a < b) (a ≡ b) (b < a) → o ≡ Less
    by Less r = refl
    by Equal r = absurd (omega arith)
    by Greater r = absurd (omega arith)

pub equal : (a b : ℕ) → a ≡ b → nat_cmp a b ≡ Equal
equal a b h = by (nat_cmp a b) (ranked a b (nat_cmp a b) refl)
  where
    by : (o : Ordering) → MatchOrdering o (a < b) (a ≡ b) (b < a) → o ≡ Equal
    by Less r = absurd (omega arith)
    by Equal r = refl
    by Greater r = absurd (omega arith)

-- a box and its two halves
record IsSplit (box lower upper : List Span) : Type 0 where
  either : (ss : List ℕ) → Inside box ss → Inside lower ss ⊎ Inside upper ss
  first : (ss : List ℕ) → Inside lower ss → Inside box ss
  second : (ss : List ℕ) → Inside upper ss → Inside box ss
  apart : IsBefore lower upper
  opened : Each IsOpen box → Each IsOpen lower × Each IsOpen upper

below_or : (a b : ℕ) → (a < b) ⊎ (b ≤ a)
below_or a b = grind arith

-- the same after one more narrow span
extended : (r : Span) → IsNarrow r → {rs lower upper : List Span} → IsSplit rs lower upper → IsSplit (r ∷ rs) (r ∷ lower) (r ∷ upper)
extended r narrow {rs} {lower} {upper} rest = record {
  either = either;
  first = first;
  second = second;
  apart = apart;
  opened = λ o. let k = rest.opened o.1 in ((o.0, k.0), (o.0, k.1));
}
  where
    either : (ss : List ℕ) → Inside (r ∷ rs) ss → Inside (r ∷ lower) ss ⊎ Inside (r ∷ upper) ss
    either [] i = absurd i
    either (s ∷ ss) i = elim (rest.either ss i.2) [ inl k ↦ inl (i.0, i.1, k) | inr k ↦ inr (i.0, i.1, k) ]

    first : (ss : List ℕ) → Inside (r ∷ lower) ss → Inside (r ∷ rs) ss
    first [] i = absurd i
    first (s ∷ ss) i = (i.0, i.1, rest.first ss i.2)

    second : (ss : List ℕ) → Inside (r ∷ upper) ss → Inside (r ∷ rs) ss
    second [] i = absurd i
    second (s ∷ ss) i = (i.0, i.1, rest.second ss i.2)

    apart : IsBefore (r ∷ lower) (r ∷ upper)
    apart [] us i k = absurd i
    apart (s ∷ ss) [] i k = absurd k
    apart (s ∷ ss) (u ∷ us) i k = rw (equal s u (omega (arith, i.0, i.1, k.0, k.1, narrow))) (rest.apart ss us i.2 k.2)

halves :
    (box : List Span) (j m : ℕ) → j < length box → ((i : ℕ) → i < j → IsNarrow (get_or box i no_span)) → (get_or box j no_span).low < m → m < (get_or box j no_span).high →
    IsSplit box (set box j (record { low = (get_or box j no_span).low; high = m })) (set box j (record { low = m; high = (get_or box j no_span).high }))
halves [] j m w n l h = absurd (omega (arith, w))
halves (r ∷ rs) zero m w n l h = record {
  either = either;
  first = first;
  second = second;
  apart = apart;
  opened = λ o. ((l, o.1), (h, o.1));
}
  where
    either : (ss : List ℕ) → Inside (r ∷ rs) ss → Inside (record { low = r.low; high = m } ∷ rs) ss ⊎ Inside (record { low = m; high = r.high } ∷ rs) ss
    either [] i = absurd i
    either (s ∷ ss) i = elim (below_or s m) [ inl k ↦ inl (i.0, k, i.2) | inr k ↦ inr (k, i.1, i.2) ]

    first : (ss : List ℕ) → Inside (record { low = r.low; high = m } ∷ rs) ss → Inside (r ∷ rs) ss
    first [] i = absurd i
    first (s ∷ ss) i = (i.0, omega (arith, i.1, h), i.2)

    second : (ss : List ℕ) → Inside (record { low = m; high = r.high } ∷ rs) ss → Inside (r ∷ rs) ss
    second [] i = absurd i
    second (s ∷ ss) i = (omega (arith, i.0, l), i.1, i.2)

    apart : IsBefore (record { low = r.low; high = m } ∷ rs) (record { low = m; high = r.high } ∷ rs)
    apart [] us i k = absurd i
    apart (s ∷ ss) [] i k = absurd k
    apart (s ∷ ss) (u ∷ us) i k = rw (less s u (omega (arith, i.1, k.0))) refl
halves (r ∷ rs) (suc j) m w n l h = extended r (n zero (omega arith)) (halves rs j m (omega (arith, w)) (λ i b. n (suc i) (omega (arith, b))) l h)

-- boxes in place of one that holds all that they hold
replaced :
    (front more : List (List Span)) (b : List Span) (new : List (List Span)) → ((z : List Span) → Has new z → (ss : List ℕ) → Inside z ss → Inside b ss) → Ascends IsBefore new →
    Ascends IsBefore (front ++ b ∷ more) → Ascends IsBefore (front ++ (new ++ more))
replaced [] more b [] within up all = all.1
replaced [] more b (z ∷ new) within up all = (
  each_of (IsBefore z) (new ++ more) (λ x h. elim (has_either new more x h) [
    | inl k ↦ each_has (IsBefore z) new x up.0 k
    | inr k ↦ λ ss us i j. each_has (IsBefore b) more x all.0 k ss us (within z (inl refl) ss i) j
  ]),
  replaced [] more b new (λ x h. within x (inr h)) up.1 all,
)
replaced (f ∷ front) more b new within up all = (
  each_of (IsBefore f) (front ++ (new ++ more)) (λ x h. elim (has_either front (new ++ more) x h) [
    | inl k ↦ each_has (IsBefore f) (front ++ b ∷ more) x all.0 (has_left front (b ∷ more) x k)
    | inr k ↦ elim (has_either new more x k) [
      | inl j ↦ λ ss us i o. each_has (IsBefore f) (front ++ b ∷ more) b all.0 (has_right front (b ∷ more) b (inl refl)) ss us i (within x j us o)
      | inr j ↦ each_has (IsBefore f) (front ++ b ∷ more) x all.0 (has_right front (b ∷ more) x (inr j))
    ]
  ]),
  replaced front more b new within up all.1,
)

ascends_front : (xs ys : List (List Span)) → Ascends IsBefore (xs ++ ys) → Ascends IsBefore xs
ascends_front [] ys a = tt
ascends_front (x ∷ xs) ys a = (each_of (IsBefore x) xs (λ z h. each_has (IsBefore x) (xs ++ ys) z a.0 (has_left xs ys z h)), ascends_front xs ys a.1)

-- matches whose boxes ascend ascend
boxes_ascend : (ms : List (List ℕ × ℕ)) → Ascends IsBefore (map (λ (m : List ℕ × ℕ). singles m.0) ms) → ListsAscend ms
boxes_ascend [] a = tt
boxes_ascend (m ∷ ms) a = (
  each_of (λ (n : List ℕ × ℕ). slice_cmp nat_cmp m.0 n.0 ≡ Less) ms
      (λ n h. each_has (IsBefore (singles m.0)) (map (λ (x : List ℕ × ℕ). singles x.0) ms) (singles n.0) a.0 (map_has (λ (x : List ℕ × ℕ). singles x.0) ms n h) m.0 n.0 (own_box m.0) (own_box n.0)),
  boxes_ascend ms a.1,
)

-- an open box in which no span is wide is that of its first list
narrow_singles : (rs : List Span) → Each IsOpen rs → ((i : ℕ) → i < length rs → IsNarrow (get_or rs i no_span)) → singles (lows rs) ≡ rs
narrow_singles [] o n = refl
narrow_singles (r ∷ rs) o n =
    let high : r.low + 1 ≡ r.high = omega (arith, o.0, n zero (omega arith)) in
    ap (λ h. record { low = r.low; high = h } ∷ singles (lows rs)) high ∙ ap (λ xs. r ∷ xs) (narrow_singles rs o.1 (λ i b. n (suc i) (omega (arith, b))))

inside_singles : (ss us : List ℕ) → Inside (singles ss) us → us ≡ ss
inside_singles [] [] i = refl
inside_singles [] (u ∷ us) i = absurd i
inside_singles (s ∷ ss) [] i = absurd i
inside_singles (s ∷ ss) (u ∷ us) i =
    let same : u ≡ s = omega (arith, i.0, i.1) in
    ap (λ x. x ∷ us) same ∙ ap (λ xs. s ∷ xs) (inside_singles ss us i.2)

module _
    {levelled weighted : Bool} {product : ℕ → ℕ → ℕ} (laws : ProductLaws levelled weighted product) (rules : List (Rule ℕ)) (normal : AreNormal rules)
    {P : Type 0} (side : SideFor ℕ P) (leaves : HolesAreLeaves (only side)) (q above : ℕ) (costs : List HoleCost) where
  abbrev Matches : List ℕ → ℕ → Type 0
  Matches ss c = IsMatch product rules side q ss (Some c)

  reads_of : (ss : List ℕ) (c : ℕ) → IsMatchCost product rules (only side) (q ∷ []) ss c → IsReadCost product rules (preorder_of side) (q ∷ []) ss c
  reads_of ss c m = (matches_are_read laws rules normal side leaves q ss c).0 m

  -- a box whose least cost is too great holds no match within the greatest cost
  no_match :
      (b : List Span) (v : Option ℕ) → IsLeast (IsReadBox product rules (preorder_of side) (q ∷ []) (all_spanned b costs)) v → times product (Some above) v ≡ None →
      (ss : List ℕ) (c : ℕ) → Inside b ss → Matches ss c → IsWithin product above costs (ss, c) → ⊥
  no_match b v least e ss c i m w =
      let long : length costs ≡ length b = sym (length-map costs cost_at) ∙ along_long product (map cost_at costs) ss w.beside w.is_beside ∙ sym (inside_long b ss i) in
      let read = read_box laws rules (preorder_of side) (q ∷ []) ss (all_spanned b costs) c w.beside (reads_of ss c m.attained.0) (inside_costs product b costs ss long i ∙ w.is_beside) in
      let regroup : product (product above c) w.beside ≡ product above (product c w.beside) = laws.regroups above c w.beside in
      let right : product c w.beside ≤ product above (product c w.beside) = at_least_right laws above (product c w.beside) in
      let s = at_most_some v (product c w.beside) (least.lower (product c w.beside) read (omega (arith, right, regroup, w.within))) in
      let up : product above s.0 ≤ product above (product c w.beside) = laws.grows above s.0 (product c w.beside) s.2 in
      let bad : None ≡ Some (product above s.0) = sym e ∙ times_is product (Some above) v above s.0 refl s.1 (omega (arith, up, regroup, w.within)) in
      absurd (cc)

  pub dropped :
      (found : List (List ℕ × ℕ)) (boxes : List (List Span)) (b : List Span) → IsUnderway product rules side q above costs found (boxes ++ b ∷ []) →
      ((ss : List ℕ) (c : ℕ) → Inside b ss → IsMatch product rules side q ss (Some c) → IsWithin product above costs (ss, c) → ⊥) → IsUnderway product rules side q above costs found boxes
  dropped found boxes b u none = record {
    ascend = replaced (map (λ (m : List ℕ × ℕ). singles m.0) found) (reverse boxes) b [] (λ z h. absurd h) tt
        (subst (λ xs. Ascends IsBefore (map (λ (m : List ℕ × ℕ). singles m.0) found ++ xs)) (reverse-append boxes (b ∷ [])) u.ascend);
    opened = each_of (Each IsOpen) boxes (λ x h. each_has (Each IsOpen) (boxes ++ b ∷ []) x u.opened (has_left boxes (b ∷ []) x h));
    long = each_of (λ x. length x ≡ length costs) boxes (λ x h. each_has (λ y. length y ≡ length costs) (boxes ++ b ∷ []) x u.long (has_left boxes (b ∷ []) x h));
    least = u.least;
    within = u.within;
    whole = λ ss c m w. elim (u.whole ss c m w) [
      | inl h ↦ inl h
      | inr h ↦ elim (has_either boxes (b ∷ []) h.0 h.1) [
        | inl k ↦ inr (h.0, k, h.2)
        | inr k ↦ elim k [ inl e ↦ absurd (none ss c (subst (λ x. Inside x ss) (sym e) h.2) m w) | inr no_more ↦ absurd no_more ]
      ]
    ];
  }

  pub too_dear :
      (found : List (List ℕ × ℕ)) (boxes : List (List Span)) (b : List Span) (v : Option ℕ) → IsLeast (IsReadBox product rules (preorder_of side) (q ∷ []) (all_spanned b costs)) v →
      times product (Some above) v ≡ None → IsUnderway product rules side q above costs found (boxes ++ b ∷ []) → IsUnderway product rules side q above costs found boxes
  too_dear found boxes b v least e u = dropped found boxes b u (no_match b v least e)

  pub halved :
      (found : List (List ℕ × ℕ)) (boxes new : List (List Span)) (b : List Span) (j : ℕ) → IsFirstWide b j → HasHalves b j boxes new →
      IsUnderway product rules side q above costs found (boxes ++ b ∷ []) → IsUnderway product rules side q above costs found new
  halved found boxes new b j wide h u =
      let low : List Span = set b j (record { low = (get_or b j no_span).low; high = h.middle }) in
      let up : List Span = set b j (record { low = h.middle; high = (get_or b j no_span).high }) in
      let s = halves b j h.middle wide.inside wide.before h.above_low h.below_high in
      let long_b : length b ≡ length costs = each_has (λ y. length y ≡ length costs) (boxes ++ b ∷ []) b u.long (has_right boxes (b ∷ []) b (inl refl)) in
      let halves_open = s.opened (each_has (Each IsOpen) (boxes ++ b ∷ []) b u.opened (has_right boxes (b ∷ []) b (inl refl))) in
      subst (λ xs. IsUnderway product rules side q above costs found xs) (sym h.pushed)
      (record {
        ascend = subst (λ xs. Ascends IsBefore (map (λ (m : List ℕ × ℕ). singles m.0) found ++ xs)) (sym (reverse-append boxes (up ∷ low ∷ [])))
            (replaced (map (λ (m : List ℕ × ℕ). singles m.0) found) (reverse boxes) b (low ∷ up ∷ []) (inner b low up s) ((s.apart, tt), (tt, tt))
            (subst (λ xs. Ascends IsBefore (map (λ (m : List ℕ × ℕ). singles m.0) found ++ xs)) (reverse-append boxes (b ∷ [])) u.ascend));
        opened = each_of (Each IsOpen) (boxes ++ up ∷ low ∷ []) (λ x k. elim (has_either boxes (up ∷ low ∷ []) x k) [
          | inl o ↦ each_has (Each IsOpen) (boxes ++ b ∷ []) x u.opened (has_left boxes (b ∷ []) x o)
          | inr o ↦ each_has (Each IsOpen) (up ∷ low ∷ []) x (halves_open.1, (halves_open.0, tt)) o
        ]);
        long = each_of (λ x. length x ≡ length costs) (boxes ++ up ∷ low ∷ []) (λ x k. elim (has_either boxes (up ∷ low ∷ []) x k) [
          | inl o ↦ each_has (λ y. length y ≡ length costs) (boxes ++ b ∷ []) x u.long (has_left boxes (b ∷ []) x o)
          | inr o ↦ each_has (λ y. length y ≡ length costs) (up ∷ low ∷ []) x (length-set b j (record { low = h.middle; high = (get_or b j no_span).high }) ∙ long_b, (length-set b j (record { low = (get_or b j no_span).low; high = h.middle }) ∙ long_b, tt)) o
        ]);
        least = u.least;
        within = u.within;
        whole = λ ss c m w. elim (u.whole ss c m w) [
          | inl k ↦ inl k
          | inr k ↦ elim (has_either boxes (b ∷ []) k.0 k.1) [
            | inl o ↦ inr (k.0, has_left boxes (up ∷ low ∷ []) k.0 o, k.2)
            | inr o ↦ elim o [
              | inl e ↦ elim (s.either ss (subst (λ x. Inside x ss) (sym e) k.2)) [
                | inl i ↦ inr (low, has_right boxes (up ∷ low ∷ []) low (inr (inl refl)), i)
                | inr i ↦ inr (up, has_right boxes (up ∷ low ∷ []) up (inl refl), i)
              ]
              | inr no_more ↦ absurd no_more
            ]
          ]
        ];
      })
    where
      inner : (b low up : List Span) → IsSplit b low up → (z : List Span) → Has (low ∷ up ∷ []) z → (ss : List ℕ) → Inside z ss → Inside b ss
      inner b low up s z (inl e) ss i = s.first ss (subst (λ x. Inside x ss) (sym e) i)
      inner b low up s z (inr (inl e)) ss i = s.second ss (subst (λ x. Inside x ss) (sym e) i)
      inner b low up s z (inr (inr no_more)) ss i = absurd no_more

  -- what is read in the box of one list, with free holes, is what matches it
  single_match : (ss : List ℕ) (v : Option ℕ) → length ss ≡ length costs → IsLeast (IsReadBox product rules (preorder_of side) (q ∷ []) (all_spanned (singles ss) (replicate (length costs) Free))) v →
      IsLeast (IsMatchCost product rules (only side) (q ∷ []) ss) v
  single_match ss v long h = IsLeast-within (λ c b m. to c b m) (λ c m. from c m) h
    where
      frees_long : length (replicate (length costs) Free) ≡ length (singles ss)
      frees_long = length-replicate (length costs) Free ∙ sym long ∙ sym (length-map ss (λ s. record { low = s; high = s + 1 }))

      to : (c : ℕ) → c ≤ most → IsReadBox product rules (preorder_of side) (q ∷ []) (all_spanned (singles ss) (replicate (length costs) Free)) c → IsMatchCost product rules (only side) (q ∷ []) ss c
      to c b m =
          let r = box_read laws rules (preorder_of side) (q ∷ []) (singles ss) (replicate (length costs) Free) ss c frees_long (own_singles ss) m b in
          let none : r.1 ≡ 0 = some_same r.1 0 (sym r.3 ∙ frees laws (length costs) ss long) in
          let same : r.0 ≡ c = sym (neutral_right laws r.0) ∙ ap (product r.0) (sym none) ∙ r.4 in
          (matches_are_read laws rules normal side leaves q ss c).1 (subst (IsReadCost product rules (preorder_of side) (q ∷ []) ss) same r.2)

      from : (c : ℕ) → IsMatchCost product rules (only side) (q ∷ []) ss c → IsReadBox product rules (preorder_of side) (q ∷ []) (all_spanned (singles ss) (replicate (length costs) Free)) c
      from c m =
          subst (IsReadBox product rules (preorder_of side) (q ∷ []) (all_spanned (singles ss) (replicate (length costs) Free))) (neutral_right laws c)
          (read_box laws rules (preorder_of side) (q ∷ []) ss (all_spanned (singles ss) (replicate (length costs) Free)) c 0 (reads_of ss c m)
          (inside_costs product (singles ss) (replicate (length costs) Free) ss frees_long (own_box ss) ∙ frees laws (length costs) ss long))

      IsLeast-within : {S T : ℕ → Type 0} {v : Option ℕ} → ((n : ℕ) → n ≤ most → S n → T n) → ((n : ℕ) → T n → S n) → IsLeast S v → IsLeast T v
      IsLeast-within {v = None} to from h = record { attained = tt; lower = λ n t b. h.lower n (from n t) b }
      IsLeast-within {v = Some a} to from h = record { attained = (to a h.attained.1 h.attained.0, h.attained.1); lower = λ n t b. h.lower n (from n t) b }

  -- a match whose box has a cost that with the cost above is one is within the greatest cost
  single_within :
      (ss : List ℕ) (c : ℕ) (v : Option ℕ) (d : ℕ) → length ss ≡ length costs → Matches ss c → IsLeast (IsReadBox product rules (preorder_of side) (q ∷ []) (all_spanned (singles ss) costs)) v →
      times product (Some above) v ≡ Some d → IsWithin product above costs (ss, c)
  single_within ss c None d long m least e = absurd (cc)
  single_within ss c (Some x) d long m least e =
      let costs_long : length costs ≡ length (singles ss) = sym long ∙ sym (length-map ss (λ s. record { low = s; high = s + 1 })) in
      let r = box_read laws rules (preorder_of side) (q ∷ []) (singles ss) costs ss x costs_long (own_singles ss) least.attained.0 least.attained.1 in
      let t = times_parts e in
      let left : r.0 ≤ product r.0 r.1 = laws.at_least r.0 r.1 in
      let low : c ≤ r.0 = m.lower r.0 ((matches_are_read laws rules normal side leaves q ss r.0).1 r.2) (omega (arith, left, r.4, least.attained.1)) in
      let less : product c r.1 ≤ product r.0 r.1 = grows_both laws c r.1 r.0 r.1 low (omega arith) in
      let up : product above (product c r.1) ≤ product above x = laws.grows above (product c r.1) x (omega (arith, less, r.4)) in
      record { beside = r.1; is_beside = r.3; within = omega (arith, up, laws.regroups above c r.1, t) }
    where
      times_parts : times product (Some above) (Some x) ≡ Some d → product above x ≤ most
      times_parts e = cut_low (product above x) d e

  pub taken :
      (found more : List (List ℕ × ℕ)) (boxes : List (List Span)) (b : List Span) (v : Option ℕ) (d : ℕ) → AreNarrow b → IsLeast (IsReadBox product rules (preorder_of side) (q ∷ []) (all_spanned b costs)) v →
      times product (Some above) v ≡ Some d → Takes product rules (preorder_of side) q (length costs) b found more → IsUnderway product rules side q above costs found (boxes ++ b ∷ []) →
      IsUnderway product rules side q above costs more boxes
  taken found more boxes b v d narrow least e takes u = by takes.least takes.is_least takes.found
    where
      is_open : Each IsOpen b
      is_open = each_has (Each IsOpen) (boxes ++ b ∷ []) b u.opened (has_right boxes (b ∷ []) b (inl refl))

      same : singles (lows b) ≡ b
      same = narrow_singles b is_open narrow

      only_one : (ss : List ℕ) → Inside b ss → ss ≡ lows b
      only_one ss i = inside_singles (lows b) ss (subst (λ x. Inside x ss) (sym same) i)

      long : length (lows b) ≡ length costs
      long = length-map b (λ r. r.low) ∙ each_has (λ y. length y ≡ length costs) (boxes ++ b ∷ []) b u.long (has_right boxes (b ∷ []) b (inl refl))

      pair_is : (us : List ℕ) (n c : ℕ) → lows b ≡ us → IsMatch product rules side q (lows b) (Some c) → IsMatch product rules side q us (Some n) → ◌≡◌ {A = List ℕ × ℕ} (lows b, c) (us, n)
      pair_is us n c e m m2 =
          let costs_same : c ≡ n = some_same c n (IsLeast-unique (subst (λ xs. IsMatch product rules side q xs (Some c)) e m) m2) in
          λ i. (e i, costs_same i)

      free_at : (w : Option ℕ) → IsLeast (IsReadBox product rules (preorder_of side) (q ∷ []) (all_spanned b (replicate (length costs) Free))) w →
          IsLeast (IsReadBox product rules (preorder_of side) (q ∷ []) (all_spanned (singles (lows b)) (replicate (length costs) Free))) w
      free_at w h = subst (λ x. IsLeast (IsReadBox product rules (preorder_of side) (q ∷ []) (all_spanned x (replicate (length costs) Free))) w) (sym same) h

      by : (w : Option ℕ) → IsLeast (IsReadBox product rules (preorder_of side) (q ∷ []) (all_spanned b (replicate (length costs) Free))) w → IsFoundAt b w found more → IsUnderway product rules side q above costs more boxes
      by None h f = subst (λ xs. IsUnderway product rules side q above costs xs boxes) (sym f) (dropped found boxes b u (λ ss c i m w.
          let k = single_match (lows b) None long (free_at None h) in
          k.lower c (subst (λ x. IsMatchCost product rules (only side) (q ∷ []) x c) (only_one ss i) m.attained.0) m.attained.1))
      by (Some c) h f =
          let ss : List ℕ = lows b in
          let single : List ℕ × ℕ → List Span = λ m. singles m.0 in
          let m = single_match ss (Some c) long (free_at (Some c) h) in
          let w = single_within ss c v d long m (subst (λ x. IsLeast (IsReadBox product rules (preorder_of side) (q ∷ []) (all_spanned x costs)) v) (sym same) least) e in
          let path : map single (found ++ (ss, c) ∷ []) ++ reverse boxes ≡ map single found ++ (b ∷ reverse boxes) =
          ap (λ ys. ys ++ reverse boxes) (map-append single found ((ss, c) ∷ [])) ∙ append_assoc (map single found) (singles ss ∷ []) (reverse boxes)
          ∙ ap (λ z. map single found ++ z ∷ reverse boxes) same
          in
          subst (λ xs. IsUnderway product rules side q above costs xs boxes) (sym f)
          (record {
            ascend = subst (Ascends IsBefore) (sym path) (subst (λ xs. Ascends IsBefore (map single found ++ xs)) (reverse-append boxes (b ∷ [])) u.ascend);
            opened = each_of (Each IsOpen) boxes (λ x k. each_has (Each IsOpen) (boxes ++ b ∷ []) x u.opened (has_left boxes (b ∷ []) x k));
            long = each_of (λ x. length x ≡ length costs) boxes (λ x k. each_has (λ y. length y ≡ length costs) (boxes ++ b ∷ []) x u.long (has_left boxes (b ∷ []) x k));
            least = each_more (λ (x : List ℕ × ℕ). IsMatch product rules side q x.0 (Some x.1)) found (ss, c) u.least m;
            within = each_more (IsWithin product above costs) found (ss, c) u.within w;
            whole = λ us n m2 w2. elim (u.whole us n m2 w2) [
              | inl k ↦ inl (has_left found ((ss, c) ∷ []) (us, n) k)
              | inr k ↦ elim (has_either boxes (b ∷ []) k.0 k.1) [
                | inl o ↦ inr (k.0, o, k.2)
                | inr o ↦ elim o [
                  | inl same_box ↦ inl (has_right found ((ss, c) ∷ []) (us, n) (inl (pair_is us n c (sym (only_one us (subst (λ x. Inside x us) (sym same_box) k.2))) m m2)))
                  | inr no_more ↦ absurd no_more
                ]
              ]
            ];
          })

  -- at first the box of all states waits
  pub started :
      (n : ℕ) → q < n → AreInRange n rules → IsUnderway product rules side q above costs [] (replicate (length costs) (record { low = 0; high = n }) ∷ [])
  started n low range = record {
    ascend = (tt, tt);
    opened = (all_open (length costs), tt);
    long = (length-replicate (length costs) (record { low = 0; high = n }), tt);
    least = tt;
    within = tt;
    whole = λ ss c m w. inr (
      replicate (length costs) (record { low = 0; high = n }),
      inl refl,
      all_inside (length costs) ss (sym (along_long product (map cost_at costs) ss w.beside w.is_beside) ∙ length-map costs cost_at)
          (reads_below (preorder_of side) (q ∷ []) ss c (reads_of ss c m.attained.0) (low, tt)),
    );
  }
    where
      all_open : (k : ℕ) → Each IsOpen (replicate k (record { low = 0; high = n }))
      all_open zero = tt
      all_open (suc k) = (omega (arith, low), all_open k)

      all_inside : (k : ℕ) (ss : List ℕ) → length ss ≡ k → Each (λ s. s < n) ss → Inside (replicate k (record { low = 0; high = n })) ss
      all_inside zero [] e b = tt
      all_inside zero (s ∷ ss) e b = absurd (omega (arith, e))
      all_inside (suc k) [] e b = absurd (omega (arith, e))
      all_inside (suc k) (s ∷ ss) e b = (omega arith, b.0, all_inside k ss (omega (arith, e)) b.1)

      each_below : (qs : List ℕ) → AllBelow n qs → Each (λ s. s < n) qs
      each_below [] h = tt
      each_below (s ∷ qs) h = (h.0, each_below qs h.1)

      reads_below : (xs : List (Symbol ℕ P × ℕ)) (qs ss : List ℕ) (c : ℕ) → IsReadCost product rules xs qs ss c → Each (λ s. s < n) qs → Each (λ s. s < n) ss
      reads_below [] [] [] c r b = tt
      reads_below [] [] (s ∷ ss) c r b = absurd r
      reads_below [] (p ∷ qs) ss c r b = absurd r
      reads_below ((label g, rank) ∷ xs) [] ss c r b = absurd r
      reads_below ((label g, rank) ∷ xs) (p ∷ qs) ss c r b =
          reads_below xs (holes (rule_at rules r.rule).right.kids ++ qs) ss r.inner r.rest
          (each_append (λ s. s < n) (holes (rule_at rules r.rule).right.kids) qs
          (subst (Each (λ s. s < n)) (holes_of-label (rule_at rules r.rule).right.label (rule_at rules r.rule).right.kids g r.root) (each_below (holes_of (rule_at rules r.rule).right) (range r.rule r.below).1)) b.1)
      reads_below ((hole x, rank) ∷ xs) [] ss c r b = absurd r
      reads_below ((hole x, rank) ∷ xs) (p ∷ qs) [] c r b = absurd r
      reads_below ((hole x, rank) ∷ xs) (p ∷ qs) (s ∷ ss) c r b = (subst (λ z. z < n) r.0 b.0, reads_below xs qs ss c r.1 b.1)

  -- where no box is left, all was found
  pub finished : (found : List (List ℕ × ℕ)) → IsUnderway product rules side q above costs found [] → AreMatchesWhere product rules side q (IsWithin product above costs) found
  finished found u = record {
    ascend = boxes_ascend found (ascends_front (map (λ (m : List ℕ × ℕ). singles m.0) found) [] u.ascend);
    least = u.least;
    whole = λ ss c m w. elim (u.whole ss c m w) [ inl h ↦ h | inr k ↦ absurd k.1 ];
  }

  -- what was found shows that there are more
  pub overrun :
      (found : List (List ℕ × ℕ)) (boxes : List (List Span)) (count : ℕ) → IsUnderway product rules side q above costs found boxes → count < length found →
      AreMoreWhere product rules side q (IsWithin product above costs) count
  overrun found boxes count u more = record {
    matches = found;
    ascend = boxes_ascend found (ascends_front (map (λ (m : List ℕ × ℕ). singles m.0) found) (reverse boxes) u.ascend);
    least = u.least;
    count = u.within;
    more = more;
  }
