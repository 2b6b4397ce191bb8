-- How many rules are kept, by the through costs of all.
use Rattle.std.specs.Prelude.{◌≡◌, ◌⊎◌, ℕ, ◌+◌, ◌-◌, ◌<◌, ◌≤◌, min, List, [], ◌∷◌, ◌++◌, length, filter, filter_map, take, nat_le, Bool, true, false, cond, Option, None, Some, refl, IsPermutation, IsSorted}
use Rattle.std.specs.Ordering.{nat_cmp, is_lt}
use Rattle.std.proofs.Common.{zero, suc, arith, ap, sym, ◌∙◌, subst, inl, inr, get_or, le_trans}
use Rattle.std.proofs.lemmas.Bool.{le-leb}
use Rattle.std.proofs.lemmas.Cmp.{nat_cmp_total}
use Rattle.std.proofs.lemmas.List.{get_or_default, take_all, take_more}
use Rattle.std.proofs.lemmas.List.Elements.{filter_map-append}
use Rattle.std.proofs.lemmas.List.Sorted.{Contains-permutation, ranks_by, sorted_far, sum_by-IsPermutation}
use Rattle.std.proofs.lemmas.List.Sums.{length-filter}
use Rattle.tib_lex.specs.Lists.{Has, total}
use Rattle.tib_lex.proofs.Lists.{append_nil, mapped_has, some_is}
use Rattle.tib_lex.proofs.Members.{at_has, has_at}
use Rattle.tib_lex.proofs.Numbers.{nat_le_cases}
use Rattle.tib_tree.proofs.Orderings.{nat_less}
use Rattle.tib_grammar.specs.Run.{rule_at, no_rule, cost}
use Rattle.tib_grammar.specs.declared.Rule.{Rule}
use Rattle.tib_cost.specs.Semiring.{ProductLaws, most, cut}
use Rattle.tib_cost.proofs.Least.{cut-cases}
use Rattle.tib_normal.proofs.Forming.{total_fewer}
use Rattle.tib_inside.specs.Inside.{IsInside}
use Rattle.tib_inside.specs.Settling.{costs_in}
use Rattle.tib_prune.specs.Counted.{StandsInRun, KeepsCount, IsLeastBeam, AreThroughCosts, rules_within, IsEnough, IsBeamFor}
use Rattle.tib_prune.specs.Loop.{AreInsidesOfAll, AreOutsides}
use Rattle.tib_prune.specs.Outside.{through}
use Rattle.tib_prune.specs.Pruned.{is_at_most, IsKept, ArePruned, AreCosts}
use Rattle.tib_prune.proofs.Kept.{costs_of, filtered}
use Rattle.tib_prune.proofs.Pruned.{all_kept, as_many, through_run}
use Rattle.tib_prune.proofs.Through.{through_from}

-- the costs of rules that have one

known_or_not : (v : Option ℕ) → (v ≡ None) ⊎ ((c : ℕ) × (v ≡ Some c))
known_or_not None = inl refl
known_or_not (Some c) = inr (c, refl)

module _ (f : Rule ℕ → Option ℕ) where
  with_cost : (r : Rule ℕ) (rules : List (Rule ℕ)) (c : ℕ) → f r ≡ Some c → filter_map f (r ∷ rules) ≡ c ∷ filter_map f rules
  with_cost r rules c e = rw e refl

  without_cost : (r : Rule ℕ) (rules : List (Rule ℕ)) → f r ≡ None → filter_map f (r ∷ rules) ≡ filter_map f rules
  without_cost r rules e = rw e refl

  one_more : (rules : List (Rule ℕ)) (i : ℕ) (r : Rule ℕ) → i < length rules → r ≡ get_or rules i r → filter_map f (take (i + 1) rules) ≡ filter_map f (take i rules) ++ filter_map f (r ∷ [])
  one_more rules i r h at =
      ap (filter_map f) (take_more rules i r h) ∙ ap (λ (s : Rule ℕ). filter_map f (take i rules ++ s ∷ [])) (sym at) ∙ filter_map-append f (take i rules) (r ∷ [])

  -- the next rule has a cost, which is listed
  pub costs_more :
      (rules : List (Rule ℕ)) (i : ℕ) (r : Rule ℕ) (c : ℕ) (old new : List ℕ) → i < length rules → r ≡ get_or rules i r → f r ≡ Some c → old ≡ filter_map f (take i rules) → new ≡ old ++ c ∷ [] →
      new ≡ filter_map f (take (i + 1) rules)
  costs_more rules i r c old new h at k e n =
      n ∙ ap (λ (xs : List ℕ). xs ++ c ∷ []) e ∙ ap (λ (xs : List ℕ). filter_map f (take i rules) ++ xs) (sym (with_cost r [] c k)) ∙ sym (one_more rules i r h at)

  -- or it has none
  pub costs_skip : (rules : List (Rule ℕ)) (i : ℕ) (r : Rule ℕ) (old : List ℕ) → i < length rules → r ≡ get_or rules i r → f r ≡ None → old ≡ filter_map f (take i rules) → old ≡ filter_map f (take (i + 1) rules)
  costs_skip rules i r old h at k e =
      e ∙ sym (append_nil (filter_map f (take i rules))) ∙ ap (λ (xs : List ℕ). filter_map f (take i rules) ++ xs) (sym (without_cost r [] k)) ∙ sym (one_more rules i r h at)

  -- the cost of a rule is listed
  has_cost : (rules : List (Rule ℕ)) (r : Rule ℕ) (c : ℕ) → Has rules r → f r ≡ Some c → Has (filter_map f rules) c
  has_cost [] r c h e = absurd h
  has_cost (s ∷ rules) r c (inl same) e = subst (λ (xs : List ℕ). Has xs c) (sym (with_cost s rules c (ap f same ∙ e))) (inl refl)
  has_cost (s ∷ rules) r c (inr h) e = elim (known_or_not (f s)) [
    | inl k ↦ subst (λ (xs : List ℕ). Has xs c) (sym (without_cost s rules k)) (has_cost rules r c h e)
    | inr k ↦ subst (λ (xs : List ℕ). Has xs c) (sym (with_cost s rules k.0 k.1)) (inr (has_cost rules r c h e))
  ]

  longer : {A B : Type 0} (b : Bool) (x : A) (xs : List A) (y : B) (ys : List B) → length xs ≡ length ys → length (cond b (x ∷ xs) xs) ≡ length (cond b (y ∷ ys) ys)
  longer true x xs y ys e = ap suc e
  longer false x xs y ys e = e

  -- as many costs are at most a bound as rules have one that is
  counted_alike : (bound : ℕ) (rules : List (Rule ℕ)) → length (filter (λ r. is_at_most (f r) bound) rules) ≡ length (filter (λ c. nat_le c bound) (filter_map f rules))
  counted_alike bound [] = refl
  counted_alike bound (r ∷ rules) =
      let kept : List (Rule ℕ) = filter (λ s. is_at_most (f s) bound) rules in
      let small : List ℕ = filter (λ c. nat_le c bound) (filter_map f rules) in
      elim (known_or_not (f r)) [
        | inl k ↦
            ap (λ (v : Option ℕ). length (cond (is_at_most v bound) (r ∷ kept) kept)) k
            ∙ counted_alike bound rules
            ∙ sym (ap (λ (xs : List ℕ). length (filter (λ c. nat_le c bound) xs)) (without_cost r rules k))
        | inr k ↦
            ap (λ (v : Option ℕ). length (cond (is_at_most v bound) (r ∷ kept) kept)) k.1
            ∙ longer (nat_le k.0 bound) r kept k.0 small (counted_alike bound rules)
            ∙ sym (ap (λ (xs : List ℕ). length (filter (λ c. nat_le c bound) xs)) (with_cost r rules k.0 k.1))
      ]

-- numbers that ascend, and a test

-- as many pass as do at the front
front_passes : (p : ℕ → Bool) (xs : List ℕ) (k : ℕ) → k ≤ length xs → ((i : ℕ) → i < k → p (get_or xs i 0) ≡ true) → k ≤ length (filter p xs)
front_passes p [] k h all = omega (arith, h)
front_passes p (x ∷ xs) zero h all = omega arith
front_passes p (x ∷ xs) (suc k) h all =
    let rest : k ≤ length (filter p xs) = front_passes p xs k (omega (arith, h)) (λ i l. all (suc i) (omega (arith, l))) in
    subst (λ (b : Bool). suc k ≤ length (cond b (x ∷ filter p xs) (filter p xs))) (sym (all 0 (omega arith))) (omega (arith, rest))

one_at_most : (b : Bool) (x : ℕ) (xs : List ℕ) → length (cond b (x ∷ xs) xs) ≤ suc (length xs)
one_at_most true x xs = omega arith
one_at_most false x xs = omega arith

-- and no more than are before those that fail
back_fails : (p : ℕ → Bool) (xs : List ℕ) (k : ℕ) → ((i : ℕ) → k ≤ i → i < length xs → p (get_or xs i 0) ≡ false) → length (filter p xs) ≤ k
back_fails p [] k none = omega arith
back_fails p (x ∷ xs) zero none =
    subst (λ (b : Bool). length (cond b (x ∷ filter p xs) (filter p xs)) ≤ 0) (sym (none 0 (omega arith) (omega arith))) (back_fails p xs 0 (λ i l h. none (suc i) (omega arith) (omega (arith, h))))
back_fails p (x ∷ xs) (suc k) none =
    let rest : length (filter p xs) ≤ k = back_fails p xs k (λ i l h. none (suc i) (omega (arith, l)) (omega (arith, h))) in
    le_trans (one_at_most (p x) x (filter p xs)) (omega (arith, rest))

no_less : (a b : ℕ) → is_lt (nat_cmp a b) ≡ false → b ≤ a
no_less a b e = elim (below_or a b) [
  | inl l ↦ absurd (let f : is_lt (nat_cmp a b) ≡ true = ap is_lt (nat_less a b l) in cc)
  | inr h ↦ h
]
  where
    below_or : (a b : ℕ) → (a < b) ⊎ (b ≤ a)
    below_or a b = grind arith

above_not : (a b : ℕ) → b < a → nat_le a b ≡ false
above_not a b h = elim (nat_le_cases a b) [ inl k ↦ absurd (omega (arith, h, k.0)) | inr k ↦ k.1 ]

-- through costs that were listed and sorted
pub listed :
    (f : Rule ℕ → Option ℕ) (rules : List (Rule ℕ)) (i : ℕ) (costs now : List ℕ) → length rules ≤ i → costs ≡ filter_map f (take i rules) → IsPermutation costs now → IsSorted nat_cmp now →
    AreThroughCosts f rules now
listed f rules i costs now h e p s = record {
  same = subst (λ (xs : List ℕ). IsPermutation xs now) (e ∙ ap (filter_map f) (take_all i rules h)) p;
  ascend = λ i j l k. no_less (get_or now j 0) (get_or now i 0) (sorted_far (λ x y. is_lt (nat_cmp x y)) (ranks_by nat_cmp_total (λ x. x)) now s i j 0 l k);
}

module _ (f : Rule ℕ → Option ℕ) (rules : List (Rule ℕ)) (costs : List ℕ) (are : AreThroughCosts f rules costs) where
  -- as many costs are at most a bound as rules have one that is
  counted : (bound : ℕ) → length (rules_within f rules bound) ≡ length (filter (λ c. nat_le c bound) costs)
  counted bound =
      counted_alike f bound rules
      ∙ length-filter (λ c. nat_le c bound) (filter_map f rules)
      ∙ sym (sum_by-IsPermutation (λ c. cond (nat_le c bound) 1 0) (filter_map f rules) costs are.same)
      ∙ sym (length-filter (λ c. nat_le c bound) costs)

  -- so as many rules are within a bound as there are costs up to one that is
  reached : (last bound : ℕ) → last ≤ length costs → (0 < last → get_or costs (last - 1) 0 ≤ bound) → last ≤ length (rules_within f rules bound)
  reached last bound within low =
      let all : last ≤ length (filter (λ c. nat_le c bound) costs) =
      front_passes (λ c. nat_le c bound) costs last within
      (λ i l. le-leb (get_or costs i 0) bound (le_trans (are.ascend i (last - 1) (omega (arith, l)) (omega (arith, l, within))) (low (omega (arith, l)))))
      in
      omega (arith, all, counted bound)

  -- the bound at the last of as many costs as are asked for is enough
  enough : (count last bound : ℕ) → last ≡ min (length costs) count → (0 < last → get_or costs (last - 1) 0 ≤ bound) → IsEnough f rules count bound
  enough count last bound e low = elim (many_or_few count (length costs)) [
    | inl many ↦ inl (omega (arith, e, many, reached last bound (omega (arith, e)) low))
    | inr few ↦
        inr (λ r stands c known.
        let h = at_has (filter_map f rules) c c (has_cost f rules r c stands known) in
        let at = Contains-permutation (filter_map f rules) costs c are.same (h.0, h.1, h.2) in
        let here : get_or costs at.0 0 ≡ c = get_or_default costs at.0 0 c at.1 ∙ at.2 in
        let up : get_or costs at.0 0 ≤ get_or costs (last - 1) 0 = are.ascend at.0 (last - 1) (omega (arith, at.1, e, few)) (omega (arith, at.1, e, few)) in
        omega (arith, here, up, low (omega (arith, at.1, e, few))))
  ]
    where
      many_or_few : (n m : ℕ) → (n ≤ m) ⊎ (m < n)
      many_or_few n m = grind arith

  -- and below that cost are fewer
  fewer : (last bound : ℕ) → 0 < last → last ≤ length costs → bound < get_or costs (last - 1) 0 → length (rules_within f rules bound) < last
  fewer last bound some within low =
      let few : length (filter (λ c. nat_le c bound) costs) ≤ last - 1 =
      back_fails (λ c. nat_le c bound) costs (last - 1) (λ i l h. above_not (get_or costs i 0) bound (omega (arith, low, are.ascend (last - 1) i l h)))
      in
      omega (arith, some, few, counted bound)

  -- so the beam to that cost is the least one that is enough
  pub beam_to : (count last best beam : ℕ) (start : Option ℕ) → start ≡ Some best → last ≡ min (length costs) count → (last ≡ 0 → beam ≡ 0) → (0 < last → beam ≡ get_or costs (last - 1) 0 - best) → IsBeamFor f rules count start beam
  beam_to count last best beam start is_start e none some = record {
    enough = λ b is.
        let same : b ≡ best = some_is (sym is ∙ is_start) in
        enough count last (b + beam) e (λ h. omega (arith, same, some h));
    least = λ b low. elim (zero_or_more last) [
      | inl z ↦ absurd (omega (arith, low, none z))
      | inr h ↦
          let few = fewer last (best + b) h (omega (arith, e)) (omega (arith, low, some h)) in
          let these = reached last (best + beam) (omega (arith, e)) (λ k. omega (arith, some h)) in
          record { best = best; is_best = is_start; than_count = omega (arith, e, few); than_these = omega (arith, few, these) }
    ];
  }
    where
      zero_or_more : (n : ℕ) → (n ≡ 0) ⊎ (0 < n)
      zero_or_more n = grind arith

-- without an inside cost of the start it is 0
pub no_beam : (f : Rule ℕ → Option ℕ) (rules : List (Rule ℕ)) (count beam : ℕ) (start : Option ℕ) → start ≡ None → beam ≡ 0 → IsBeamFor f rules count start beam
no_beam f rules count beam start none e = record {
  enough = λ best is. let bad : None ≡ Some best = sym none ∙ is in absurd (cc bad);
  least = λ b low. absurd (omega (arith, low, e));
}

-- no number up to the greatest cost is none
pub is_cost : (n : ℕ) → n ≤ most → cut n ≡ None → ⊥
is_cost n h e = elim (cut-cases n) [
  | inl k ↦ let bad : Some n ≡ None = sym k.1 ∙ e in cc bad
  | inr k ↦ omega (arith, h, k.0)
]

ones : {A : Type 0} (xs : List A) → total (λ x. 1) xs ≡ length xs
ones [] = refl
ones (x ∷ xs) = omega (arith, ones xs)

not_below_itself : (n : ℕ) → n < n → ⊥
not_below_itself n h = omega (arith, h)

module _
    {levelled weighted : Bool} {product : ℕ → ℕ → ℕ} (laws : ProductLaws levelled weighted product) (rules : List (Rule ℕ)) (beam : ℕ) (new other : List (Rule ℕ)) (a : ArePruned product rules beam new)
    (b : ArePruned product rules beam other) where
  -- what is kept are as many in each list of it
  no_fewer : length new ≤ length other
  no_fewer =
      let h : total (λ n. 1) a.positions ≤ total (λ n. 1) b.positions =
      total_fewer (λ n. 1) ◌<◌ a.positions b.positions not_below_itself a.ascend (λ n k. (b.are_kept n).1 ((a.are_kept n).0 k))
      in
      omega (arith, h, ones a.positions, ones b.positions, as_many laws rules beam new a, as_many laws rules beam other b)

module _
    {levelled weighted : Bool} {product : ℕ → ℕ → ℕ} (laws : ProductLaws levelled weighted product) (rules : List (Rule ℕ)) (insides outsides : ℕ → Option ℕ)
    (costs : AreCosts product rules insides outsides) where
  best_or_none : (v : Option ℕ) → insides 0 ≡ v → IsInside product rules 0 v
  best_or_none v e = subst (IsInside product rules 0) e (costs.are_insides 0)

  -- the start of a run within the greatest cost has an inside cost
  has_best : (n : ℕ) → StandsInRun product rules n → (best : ℕ) × (insides 0 ≡ Some best)
  has_best n s = elim (known_or_not (insides 0)) [
    | inl k ↦ absurd ((best_or_none None k).lower (cost product rules s.runs) (record { runs = s.runs; are_runs = s.are_runs; costs = refl }) s.within)
    | inr k ↦ k
  ]

  -- a rule that occurs in a run within the greatest cost is kept by a beam of at most that
  pub kept_by_some : (n : ℕ) → StandsInRun product rules n → (beam : ℕ) × (beam ≤ most) × IsKept product rules beam n
  kept_by_some n s =
      let c : ℕ = cost product rules s.runs in
      let best = has_best n s in (
        c,
        s.within,
        all_kept laws rules c insides outsides costs s.runs n s.are_runs s.within (record { best = best.0; is_best = best_or_none (Some best.0) best.1; close = omega arith }) s.stands,
      )

  -- and a rule that is kept occurs in such a run
  pub stands_in_run : (beam n : ℕ) → IsKept product rules beam n → StandsInRun product rules n
  stands_in_run beam n k =
      let r = through_run laws rules beam insides outsides costs n k.cost k.through in
      record { runs = r.runs; are_runs = r.are_runs; stands = r.stands; within = omega (arith, r.costs_are, k.through.within) }

module _
    {levelled weighted : Bool} {product : ℕ → ℕ → ℕ} (laws : ProductLaws levelled weighted product) (rules : List (Rule ℕ)) (insides outsides : List (Option ℕ))
    (are_insides : AreInsidesOfAll product rules insides) (are_outsides : AreOutsides product rules outsides) (count beam : ℕ)
    (is_beam : IsBeamFor (through product (costs_in insides) (costs_in outsides)) rules count (costs_in insides 0) beam) where
  all_costs : AreCosts product rules (costs_in insides) (costs_in outsides)
  all_costs = costs_of product rules insides outsides are_insides are_outsides

  kept_within : (b best : ℕ) → costs_in insides 0 ≡ Some best → ArePruned product rules b (rules_within (through product (costs_in insides) (costs_in outsides)) rules (best + b))
  kept_within b best start = filtered laws rules insides outsides are_insides are_outsides b best (rules_within (through product (costs_in insides) (costs_in outsides)) rules (best + b)) start refl

  module _ (new : List (Rule ℕ)) (pruned : ArePruned product rules beam new) where
    -- where each through cost is within the bound, a rule that occurs in a run is kept
    still_there : (best n : ℕ) → costs_in insides 0 ≡ Some best → ((r : Rule ℕ) → Has rules r → (c : ℕ) → through product (costs_in insides) (costs_in outsides) r ≡ Some c → c ≤ best + beam) → StandsInRun product rules n → Has new (rule_at rules n)
    still_there best n start all s =
        let k = kept_by_some laws rules (costs_in insides) (costs_in outsides) all_costs n s in
        let close : k.2.cost ≤ best + beam =
        all (rule_at rules n) (has_at rules n no_rule k.2.through.position) k.2.cost (through_from laws rules (costs_in insides) (costs_in outsides) all_costs n k.2.cost k.2.through)
        in
        let kept : IsKept product rules beam n = record {
          cost = k.2.cost;
          through = k.2.through;
          within_beam = record { best = best; is_best = subst (IsInside product rules 0) start (are_insides 0); close = close };
        } in
        subst (λ (rs : List (Rule ℕ)). Has rs (rule_at rules n)) (sym pruned.are_rules) (mapped_has (rule_at rules) pruned.positions n ((pruned.are_kept n).1 kept))

    -- as many rules are kept as are asked for, or all that occur in runs
    pub keeps_count : KeepsCount product rules count new
    keeps_count = elim (known_or_not (costs_in insides 0)) [
      | inl none ↦ inr (λ n s. let b = has_best laws rules (costs_in insides) (costs_in outsides) all_costs n s in let bad : None ≡ Some b.0 = sym none ∙ b.1 in absurd (cc bad))
      | inr some ↦ elim (is_beam.enough some.0 some.1) [
        | inl many ↦
            let few = no_fewer laws rules beam (rules_within (through product (costs_in insides) (costs_in outsides)) rules (some.0 + beam)) new (kept_within beam some.0 some.1) pruned in
            inl (omega (arith, many, few))
        | inr all ↦ inr (λ n s. still_there some.0 n some.1 all s)
      ]
    ]

    -- and a lesser beam keeps fewer
    pub no_lesser : IsLeastBeam product rules count beam new
    no_lesser b low others p =
        let k = is_beam.least b low in
        let few = no_fewer laws rules b others (rules_within (through product (costs_in insides) (costs_in outsides)) rules (k.best + b)) p (kept_within b k.best k.is_best) in
        let these = no_fewer laws rules beam (rules_within (through product (costs_in insides) (costs_in outsides)) rules (k.best + beam)) new (kept_within beam k.best k.is_best) pruned in
        (omega (arith, k.than_count, few), omega (arith, k.than_these, few, these))
