-- The product of the costs of some states.
use Rattle.std.specs.Prelude.{◌≡◌, ℕ, ◌+◌, ◌<◌, ◌≤◌, List, [], ◌∷◌, ◌++◌, length, drop, Bool, Option, None, Some, refl}
use Rattle.std.proofs.Common.{zero, suc, arith, ap, sym, ◌∙◌, subst, inl, inr, get_or}
use Rattle.std.proofs.lemmas.List.{drop_more, drop_all, get_or_default}
use Rattle.tib_lex.specs.Lists.{Has, occurrences}
use Rattle.tib_grammar.specs.Items.{holes_in}
use Rattle.tib_grammar.specs.Range.{AllBelow}
use Rattle.tib_grammar.specs.declared.Item.{Item}
use Rattle.tib_grammar.specs.declared.Item.TheVariants.{Label, Hole}
use Rattle.tib_cost.specs.Semiring.{ProductLaws, most}
use Rattle.tib_cost.specs.Least.{times, IsCut}
use Rattle.tib_cost.proofs.Least.{cut-cases}
use Rattle.tib_cost.proofs.Times.{times_regroups, times_neutral, times_commutes}
use Rattle.tib_inside.specs.Inside.{total}
use Rattle.tib_inside.specs.Settling.{missing_among, or_one, scaled}
use Rattle.tib_inside.proofs.Occurring.{one_alike, one_apart}
use Rattle.tib_lex.proofs.Numbers.{nat_eq_cases}
use Rattle.tib_normal.specs.Entries.{unset}

times_cut : (product : ℕ → ℕ → ℕ) (v w : Option ℕ) → IsCut (times product v w)
times_cut product None w = tt
times_cut product (Some a) None = tt
times_cut product (Some a) (Some b) = elim (cut-cases (product a b)) [ inl c ↦ rw c.1 c.0 | inr c ↦ rw c.1 tt ]

total_cut : (product : ℕ → ℕ → ℕ) (costs : ℕ → Option ℕ) (qs : List ℕ) → IsCut (total product costs qs)
total_cut product costs [] = omega arith
total_cut product costs (q ∷ qs) = times_cut product (costs q) (total product costs qs)

-- the holes of a first item and those after it
pub holes_first : (x : Item ℕ) (items : List (Item ℕ)) → holes_in (x ∷ items) ≡ holes_in (x ∷ []) ++ holes_in items
holes_first (Label f rank) items = refl
holes_first (Hole q) items = refl

-- the holes from an item on
pub holes_rest : (items : List (Item ℕ)) (i : ℕ) (x : Item ℕ) → i < length items → x ≡ get_or items i (Label 0 0) → holes_in (drop i items) ≡ holes_in (x ∷ []) ++ holes_in (drop (i + 1) items)
holes_rest items i x h e =
    ap holes_in (drop_more items i (Label 0 0) h) ∙ ap (λ y. holes_in (y ∷ drop (i + 1) items)) (sym e) ∙ holes_first x (drop (i + 1) items)

pub below_rest : (n : ℕ) (xs ys : List ℕ) → AllBelow n (xs ++ ys) → AllBelow n xs × AllBelow n ys
below_rest n [] ys h = (tt, h)
below_rest n (x ∷ xs) ys h = let r = below_rest n xs ys h.1 in ((h.0, r.0), r.1)

-- where a product of two is a cost, both are
pub both_some : (product : ℕ → ℕ → ℕ) (v w : Option ℕ) (c : ℕ) → times product v w ≡ Some c → ((a : ℕ) × (v ≡ Some a)) × ((b : ℕ) × (w ≡ Some b))
both_some product None w c e = absurd (cc)
both_some product (Some a) None c e = absurd (cc)
both_some product (Some a) (Some b) c e = ((a, refl), (b, refl))

pub second_some : (product : ℕ → ℕ → ℕ) (v w : Option ℕ) (c : ℕ) → times product v w ≡ Some c → (b : ℕ) × (w ≡ Some b)
second_some product v w c e = (both_some product v w c e).1

-- where a product is a cost, each state has one
pub total_each : (product : ℕ → ℕ → ℕ) (costs : ℕ → Option ℕ) (qs : List ℕ) (q c : ℕ) → total product costs qs ≡ Some c → Has qs q → costs q ≡ None → ⊥
total_each product costs [] q c e h k = h
total_each product costs (p ∷ qs) q c e h k =
    let parts = both_some product (costs p) (total product costs qs) c e in
    elim h [
      | inl s ↦ let bad : None ≡ Some parts.0.0 = sym k ∙ ap costs (sym s) ∙ parts.0.1 in absurd (cc bad)
      | inr s ↦ total_each product costs qs q parts.1.0 parts.1.1 s k
    ]

-- the product depends on the costs of these states alone
pub total_same : (product : ℕ → ℕ → ℕ) (one two : ℕ → Option ℕ) (qs : List ℕ) → ((q : ℕ) → Has qs q → one q ≡ two q) → total product one qs ≡ total product two qs
total_same product one two [] h = refl
total_same product one two (q ∷ qs) h =
    ap (λ v. times product v (total product one qs)) (h q (inl refl)) ∙ ap (times product (two q)) (total_same product one two qs (λ p k. h p (inr k)))

module _ {levelled weighted : Bool} {product : ℕ → ℕ → ℕ} (laws : ProductLaws levelled weighted product) (costs : ℕ → Option ℕ) where
  total_append : (xs ys : List ℕ) → total product costs (xs ++ ys) ≡ times product (total product costs xs) (total product costs ys)
  total_append [] ys = sym (times_neutral laws (total product costs ys) (total_cut product costs ys))
  total_append (x ∷ xs) ys =
      ap (times product (costs x)) (total_append xs ys) ∙ sym (times_regroups laws (costs x) (total product costs xs) (total product costs ys))

  times_zero : (a : ℕ) → a ≤ most → times product (Some a) (Some 0) ≡ Some a
  times_zero a h = times_commutes laws (Some a) (Some 0) ∙ times_neutral laws (Some a) h

  -- an item without a state, and one with a state
  pub item_label : (cost f rank : ℕ) (x : Item ℕ) → x ≡ Label f rank → cost ≤ most → Some cost ≡ times product (Some cost) (total product costs (holes_in (x ∷ [])))
  item_label cost f rank x e h = sym (ap (λ y. times product (Some cost) (total product costs (holes_in (y ∷ [])))) e ∙ times_zero cost h)

  pub item_hole : (cost q more : ℕ) (x : Item ℕ) → x ≡ Hole q → costs q ≡ Some more → times product (Some cost) (Some more) ≡ times product (Some cost) (total product costs (holes_in (x ∷ [])))
  item_hole cost q more x e k =
      sym (
      ap (λ y. times product (Some cost) (total product costs (holes_in (y ∷ [])))) e
      ∙ ap (λ v. times product (Some cost) (times product v (Some 0))) k
      ∙ sym (times_regroups laws (Some cost) (Some more) (Some 0))
      ∙ times_commutes laws (times product (Some cost) (Some more)) (Some 0)
      ∙ times_neutral laws (times product (Some cost) (Some more)) (times_cut product (Some cost) (Some more))
      )

  pub item_missing : (cost q : ℕ) (x : Item ℕ) → x ≡ Hole q → costs q ≡ None → None ≡ times product (Some cost) (total product costs (holes_in (x ∷ [])))
  item_missing cost q x e k =
      sym (ap (λ y. times product (Some cost) (total product costs (holes_in (y ∷ [])))) e ∙ ap (λ v. times product (Some cost) (times product v (Some 0))) k)

pub read_in :
    (costs : List (Option ℕ)) (q : ℕ) (x : Item ℕ) (v d : Option ℕ) → x ≡ Hole q → AllBelow (length costs) (holes_in (x ∷ [])) → get_or costs q d ≡ v → get_or costs q None ≡ v
read_in costs q x v d e b k =
    let below : AllBelow (length costs) (holes_in (Hole q ∷ [])) = subst (λ (y : Item ℕ). AllBelow (length costs) (holes_in (y ∷ []))) e b in
    get_or_default costs q None d below.0 ∙ k

module _ {levelled weighted : Bool} {product : ℕ → ℕ → ℕ} (laws : ProductLaws levelled weighted product) (costs : ℕ → Option ℕ) where
  -- what is left after one more item
  pub items_step :
      (items : List (Item ℕ)) (i : ℕ) (x : Item ℕ) (v w whole : Option ℕ) → i < length items → x ≡ get_or items i (Label 0 0) →
      w ≡ times product v (total product costs (holes_in (x ∷ []))) → times product v (total product costs (holes_in (drop i items))) ≡ whole →
      times product w (total product costs (holes_in (drop (i + 1) items))) ≡ whole
  items_step items i x v w whole h at e done =
      ap (λ u. times product u (total product costs (holes_in (drop (i + 1) items)))) e
      ∙ times_regroups laws v (total product costs (holes_in (x ∷ []))) (total product costs (holes_in (drop (i + 1) items)))
      ∙ ap (times product v) (sym (total_append laws costs (holes_in (x ∷ [])) (holes_in (drop (i + 1) items))) ∙ ap (total product costs) (sym (holes_rest items i x h at)))
      ∙ done

  pub items_begin : (qs : List ℕ) → times product (Some 0) (total product costs qs) ≡ total product costs qs
  items_begin qs = times_neutral laws (total product costs qs) (total_cut product costs qs)

  pub items_end : (cost : ℕ) (items : List (Item ℕ)) (i : ℕ) (whole : Option ℕ) → length items ≤ i → cost ≤ most → times product (Some cost) (total product costs (holes_in (drop i items))) ≡ whole → Some cost ≡ whole
  items_end cost items i whole h b e = sym (times_zero laws costs cost b) ∙ ap (λ ys. times product (Some cost) (total product costs (holes_in ys))) (sym (drop_all i items h)) ∙ e

  -- and where it has no cost
  pub items_none :
      (items : List (Item ℕ)) (i : ℕ) (x : Item ℕ) (v whole : Option ℕ) → i < length items → x ≡ get_or items i (Label 0 0) →
      None ≡ times product v (total product costs (holes_in (x ∷ []))) → times product v (total product costs (holes_in (drop i items))) ≡ whole → None ≡ whole
  items_none items i x v whole h at e done = items_step items i x v None whole h at e done

-- the states from an item on are below n where all are
pub items_below : (n : ℕ) (items : List (Item ℕ)) (i : ℕ) (x : Item ℕ) → i < length items → x ≡ get_or items i (Label 0 0) → AllBelow n (holes_in (drop i items)) → AllBelow n (holes_in (x ∷ []))
items_below n items i x h at a = (below_rest n (holes_in (x ∷ [])) (holes_in (drop (i + 1) items)) (subst (AllBelow n) (holes_rest items i x h at) a)).0

pub below_from : (n : ℕ) (items : List (Item ℕ)) (i : ℕ) → AllBelow n (holes_in items) → AllBelow n (holes_in (drop i items))
below_from n items zero a = a
below_from n [] (suc i) a = a
below_from n (x ∷ items) (suc i) a = below_from n items i (below_rest n (holes_in (x ∷ [])) (holes_in items) (subst (AllBelow n) (holes_first x items) a)).1

-- where a product with the costs of some states is a cost, none of them is missing
pub none_missing : (product : ℕ → ℕ → ℕ) (costs : ℕ → Option ℕ) (v : Option ℕ) (qs : List ℕ) (c : ℕ) → times product v (total product costs qs) ≡ Some c → missing_among costs qs ≡ 0
none_missing product costs v [] c e = refl
none_missing product costs v (q ∷ qs) c e =
    let all = second_some product v (times product (costs q) (total product costs qs)) c e in
    let first = (both_some product (costs q) (total product costs qs) all.0 all.1).0 in
    omega (arith, ap unset first.1, none_missing product costs (costs q) qs all.0 all.1)

-- and where none is missing, the known costs are all
pub total_known : (product : ℕ → ℕ → ℕ) (costs : ℕ → Option ℕ) (qs : List ℕ) → missing_among costs qs ≡ 0 → total product (λ q. or_one (costs q)) qs ≡ total product costs qs
total_known product costs [] e = refl
total_known product costs (q ∷ qs) e =
    ap (λ v. times product v (total product (λ p. or_one (costs p)) qs)) (set (costs q) (omega (arith, e))) ∙ ap (times product (costs q)) (total_known product costs qs (omega (arith, e)))
  where
    set : (v : Option ℕ) → unset v ≡ 0 → or_one v ≡ v
    set None e = absurd (omega (arith, e))
    set (Some d) e = refl

-- where no state has a cost, all are missing
pub total_missing : (costs : ℕ → Option ℕ) → ((q : ℕ) → costs q ≡ None) → (qs : List ℕ) → missing_among costs qs ≡ length qs
total_missing costs unknown [] = refl
total_missing costs unknown (q ∷ qs) = omega (arith, ap unset (unknown q), total_missing costs unknown qs)

-- a state that gets its cost is no longer missing
pub missing_less :
    (costs after : ℕ → Option ℕ) (q c : ℕ) → costs q ≡ None → after q ≡ Some c → ((p : ℕ) → (p ≡ q → ⊥) → after p ≡ costs p) →
    (qs : List ℕ) → missing_among costs qs ≡ missing_among after qs + occurrences q qs
missing_less costs after q c unknown here others [] = refl
missing_less costs after q c unknown here others (p ∷ qs) = elim (nat_eq_cases q p) [
  | inl k ↦
      let before : unset (costs p) ≡ 1 = ap (λ x. unset (costs x)) (sym k.0) ∙ ap unset unknown in
      let now : unset (after p) ≡ 0 = ap (λ x. unset (after x)) (sym k.0) ∙ ap unset here in
      omega (arith, before, now, one_alike q p k.1, missing_less costs after q c unknown here others qs)
  | inr k ↦ omega (arith, ap unset (others p (λ e. k.0 (sym e))), one_apart q p k.1, missing_less costs after q c unknown here others qs)
]

module _ {levelled weighted : Bool} {product : ℕ → ℕ → ℕ} (laws : ProductLaws levelled weighted product) where
  pub none_known : (costs : ℕ → Option ℕ) → ((q : ℕ) → costs q ≡ None) → (qs : List ℕ) → total product (λ q. or_one (costs q)) qs ≡ Some 0
  none_known costs unknown [] = refl
  none_known costs unknown (q ∷ qs) =
      ap (λ v. times product (or_one v) (total product (λ p. or_one (costs p)) qs)) (unknown q) ∙ ap (times product (Some 0)) (none_known costs unknown qs) ∙ times_neutral laws (Some 0) (omega arith)

  -- the last two factors may change places
  times_swaps : (u v w : Option ℕ) → times product (times product u v) w ≡ times product (times product u w) v
  times_swaps u v w = times_regroups laws u v w ∙ ap (times product u) (times_commutes laws v w) ∙ sym (times_regroups laws u w v)

  -- the cost of a state, as often as it occurs among some, takes the place of its missing ones
  pub scaled_total :
      (costs after : ℕ → Option ℕ) (q c : ℕ) → costs q ≡ None → after q ≡ Some c → ((p : ℕ) → (p ≡ q → ⊥) → after p ≡ costs p) → (v : Option ℕ) (qs : List ℕ) →
      scaled product c (times product v (total product (λ p. or_one (costs p)) qs)) (occurrences q qs) ≡ times product v (total product (λ p. or_one (after p)) qs)
  scaled_total costs after q c unknown here others v [] = refl
  scaled_total costs after q c unknown here others v (p ∷ qs) = elim (nat_eq_cases q p) [
    | inl k ↦
        let one : occurrences q (p ∷ qs) ≡ suc (occurrences q qs) = omega (arith, one_alike q p k.1) in
        let old : times product (or_one (costs p)) known ≡ known =
        ap (λ x. times product (or_one (costs x)) known) (sym k.0) ∙ ap (λ u. times product (or_one u) known) unknown ∙ times_neutral laws known (total_cut product (λ x. or_one (costs x)) qs)
        in
        let new : or_one (after p) ≡ Some c = ap (λ x. or_one (after x)) (sym k.0) ∙ ap or_one here in
        ap (scaled product c (times product v (times product (or_one (costs p)) known))) one
        ∙ ap (λ u. scaled product c (times product (times product v u) (Some c)) (occurrences q qs)) old
        ∙ ap (λ u. scaled product c u (occurrences q qs)) (times_swaps v known (Some c))
        ∙ scaled_total costs after q c unknown here others (times product v (Some c)) qs
        ∙ times_regroups laws v (Some c) later
        ∙ ap (λ u. times product v (times product u later)) (sym new)
    | inr k ↦
        let none_more : occurrences q (p ∷ qs) ≡ occurrences q qs = omega (arith, one_apart q p k.1) in
        let same : or_one (costs p) ≡ or_one (after p) = ap or_one (sym (others p (λ e. k.0 (sym e)))) in
        ap (scaled product c (times product v (times product (or_one (costs p)) known))) none_more
        ∙ ap (λ u. scaled product c u (occurrences q qs)) (sym (times_regroups laws v (or_one (costs p)) known))
        ∙ scaled_total costs after q c unknown here others (times product v (or_one (costs p))) qs
        ∙ times_regroups laws v (or_one (costs p)) later
        ∙ ap (λ u. times product v (times product u later)) same
  ]
    where
      known : Option ℕ
      known = total product (λ x. or_one (costs x)) qs

      later : Option ℕ
      later = total product (λ x. or_one (after x)) qs
