-- Live rules by the inside costs, and useful states by what live rules lead to.
use Rattle.std.specs.Prelude.{◌≡◌, ℕ, ◌<◌, ◌≤◌, ◌⊎◌, List, [], ◌∷◌, length, Bool, true, false, Option, None, Some, refl}
use Rattle.std.specs.Option.{is_some}
use Rattle.std.proofs.Common.{arith, ap, sym, ◌∙◌, subst, inl, inr, get_or}
use Rattle.std.proofs.lemmas.List.{get_or-map, get_or_past}
use Rattle.tib_lex.specs.Lists.{Along}
use Rattle.tib_tree.specs.Trees.{Trees, none, tree}
use Rattle.tib_grammar.specs.Sides.{holes_of}
use Rattle.tib_grammar.specs.Run.{rule_at, no_rule, AreRuns, cost}
use Rattle.tib_grammar.specs.Range.{AreInRange}
use Rattle.tib_grammar.specs.declared.Rule.{Rule}
use Rattle.tib_cost.specs.Semiring.{ProductLaws, most}
use Rattle.tib_cost.specs.Least.{times}
use Rattle.tib_cost.proofs.Least.{IsLeast-unique, at_least_right, grows_both}
use Rattle.tib_cost.proofs.Times.{cut-some, cut-within}
use Rattle.tib_inside.specs.Inside.{IsRunCost, IsInside, AreInsides, total}
use Rattle.tib_inside.specs.Settling.{costs_in, rule_total}
use Rattle.tib_inside.specs.Useful.{product_of, IsLive, IsUseful}
use Rattle.tib_inside.specs.Useful as useful
use Rattle.tib_inside.specs.Reaching.{lives, IsMarked, IsReached}
use Rattle.tib_inside.specs.Reaching as reached
use Rattle.tib_inside.proofs.Totals.{second_some}
use Rattle.tib_inside.proofs.Knuth.{run_below, more_runs, rule_run}
use Rattle.tib_inside.proofs.Moving.{has_some}

place : (i k : ℕ) → (i < k) ⊎ (k ≤ i)
place i k = grind arith

-- past the last state there is no run
pub insides_all :
    (product : ℕ → ℕ → ℕ) (rules : List (Rule ℕ)) (costs : List (Option ℕ)) → AreInRange (length costs) rules → AreInsides product rules costs → (q : ℕ) → IsInside product rules q (costs_in costs q)
insides_all product rules costs range insides q = elim (place q (length costs)) [
  | inl k ↦ insides q k
  | inr k ↦ subst (IsInside product rules q) (sym (get_or_past costs q None k)) (record {
    attained = tt;
    lower = λ n r b. let l = run_below product rules (length costs) q n range r in absurd (omega arith);
  })
]

pub in_marks : (marks : List Bool) (q : ℕ) → IsMarked marks q → q < length marks
in_marks marks q h = elim (place q (length marks)) [ inl k ↦ k | inr k ↦ let bad : false ≡ true = sym (get_or_past marks q false k) ∙ h in absurd (cc bad) ]

module _
    {levelled weighted : Bool} {product : ℕ → ℕ → ℕ} (laws : ProductLaws levelled weighted product) (rules : List (Rule ℕ)) (costs : ℕ → Option ℕ)
    (insides : (q : ℕ) → IsInside product rules q (costs q)) where
  AreKnown : List ℕ → List ℕ → Type 0
  AreKnown qs ds = Along (λ q c. IsInside product rules q (Some c)) qs ds

  -- the product of known inside costs is what is computed
  -- the product of the inside costs, as it is computed
  pub total_known : (qs ds : List ℕ) → Along (λ q c. IsInside product rules q (Some c)) qs ds → product_of product ds ≤ most → total product costs qs ≡ Some (product_of product ds)
  total_known [] [] a b = refl
  total_known [] (d ∷ ds) a b = absurd a
  total_known (q ∷ qs) [] a b = absurd a
  total_known (q ∷ qs) (d ∷ ds) a b =
      let right : product_of product ds ≤ product d (product_of product ds) = at_least_right laws d (product_of product ds) in
      ap (λ v. times product v (total product costs qs)) (IsLeast-unique (insides q) a.0)
      ∙ ap (times product (Some d)) (total_known qs ds a.1 (omega arith))
      ∙ cut-within (product d (product_of product ds)) b

  -- inside costs of states whose product is d
  pub record Known (qs : List ℕ) (d : ℕ) : Type 0 where
    pub values : List ℕ
    pub are : Along (λ q c. IsInside product rules q (Some c)) qs values
    pub product_is : product_of product values ≡ d

  -- and what is computed is the product of inside costs
  pub known_total : (qs : List ℕ) (d : ℕ) → total product costs qs ≡ Some d → Known qs d
  known_total [] d e = record { values = []; are = tt; product_is = cc }
  known_total (q ∷ qs) d e = go (costs q) (total product costs qs) refl (λ y k. known_total qs y k) e
    where
      go : (v w : Option ℕ) → costs q ≡ v → ((y : ℕ) → w ≡ Some y → Known qs y) → times product v w ≡ Some d → Known (q ∷ qs) d
      go None w a b e = absurd (cc)
      go (Some x) None a b e = absurd (cc)
      go (Some x) (Some y) a b e =
          let rest = b y refl in
          record {
            values = x ∷ rest.values;
            are = (subst (IsInside product rules q) a (insides q), rest.are);
            product_is = ap (product x) rest.product_is ∙ (cut-some (product x y) d e).0;
          }

  pub live_from : (n : ℕ) → n < length rules → is_some (rule_total product costs (rule_at rules n)) ≡ true → IsLive product rules n
  live_from n h t =
      let whole = has_some (rule_total product costs (rule_at rules n)) t in
      let inner = second_some product (Some (rule_at rules n).cost) (total product costs (holes_of (rule_at rules n).right)) whole.0 whole.1 in
      let known = known_total (holes_of (rule_at rules n).right) inner.0 inner.1 in
      let within = cut-some (product (rule_at rules n).cost inner.0) whole.0 (ap (times product (Some (rule_at rules n).cost)) (sym inner.1) ∙ whole.1) in
      record {
        below = h;
        insides = known.values;
        are_insides = known.are;
        within = subst (λ z. product (rule_at rules n).cost z ≤ most) (sym known.product_is) within.1;
      }

  pub live_to : (n : ℕ) → IsLive product rules n → is_some (rule_total product costs (rule_at rules n)) ≡ true
  live_to n l =
      let right : product_of product l.insides ≤ product (rule_at rules n).cost (product_of product l.insides) = at_least_right laws (rule_at rules n).cost (product_of product l.insides) in
      let inner = total_known (holes_of (rule_at rules n).right) l.insides l.are_insides (omega (arith, l.within)) in
      let whole : rule_total product costs (rule_at rules n) ≡ Some (product (rule_at rules n).cost (product_of product l.insides)) =
      ap (times product (Some (rule_at rules n).cost)) inner ∙ cut-within (product (rule_at rules n).cost (product_of product l.insides)) l.within in
      ap is_some whole

  pub live_marked : (live : List Bool) → live ≡ lives product costs rules → (n : ℕ) → IsLive product rules n → IsMarked live n
  live_marked live e n l =
      ap (λ xs. get_or xs n false) e ∙ get_or-map (λ r. is_some (rule_total product costs r)) rules n no_rule false l.below ∙ live_to n l

  pub marked_live : (live : List Bool) → live ≡ lives product costs rules → (n : ℕ) → n < length rules → IsMarked live n → IsLive product rules n
  marked_live live e n h m =
      live_from n h (sym (get_or-map (λ r. is_some (rule_total product costs r)) rules n no_rule false h) ∙ sym (ap (λ xs. get_or xs n false) e) ∙ m)

  -- runs from the states of a live rule
  known_runs : (qs ds : List ℕ) → Along (λ q c. IsInside product rules q (Some c)) qs ds → IsRunCost product rules qs (product_of product ds)
  known_runs [] [] a = record { runs = none; are_runs = tt; costs = refl }
  known_runs [] (d ∷ ds) a = absurd a
  known_runs (q ∷ qs) [] a = absurd a
  known_runs (q ∷ qs) (d ∷ ds) a = more_runs laws rules q qs d (product_of product ds) a.0.attained.0 (known_runs qs ds a.1)

  -- a state from which a run costs little enough has an inside cost
  pub has_inside : (q n : ℕ) → IsRunCost product rules (q ∷ []) n → n ≤ most → (c : ℕ) × IsInside product rules q (Some c)
  has_inside q n r b = go (costs q) refl
    where
      go : (v : Option ℕ) → costs q ≡ v → (c : ℕ) × IsInside product rules q (Some c)
      go (Some c) e = (c, subst (IsInside product rules q) e (insides q))
      go None e = let none_at : IsInside product rules q None = subst (IsInside product rules q) e (insides q) in absurd (none_at.lower n r b)

  -- the left state of a live rule is useful where it is the start or useful
  pub useful_left : (n : ℕ) → IsLive product rules n → ((rule_at rules n).left ≡ 0) ⊎ IsUseful product rules (rule_at rules n).left → IsUseful product rules (rule_at rules n).left
  useful_left n l (inr u) = u
  useful_left n l (inl e) =
      let run = rule_run laws rules n (product_of product l.insides) l.below (known_runs (holes_of (rule_at rules n).right) l.insides l.are_insides) in
      let has = has_inside (rule_at rules n).left (product (rule_at rules n).cost (product_of product l.insides)) run l.within in
      subst (IsUseful product rules) (sym e) (useful.start has.0 (subst (λ q. IsInside product rules q (Some has.0)) e has.1))

  module _ (live : List Bool) (live_is : live ≡ lives product costs rules) where
    pub reached_useful : (q : ℕ) → IsReached rules live q → (q ≡ 0) ⊎ IsUseful product rules q
    reached_useful _ reached.start = inl refl
    reached_useful _ (reached.below n q b m h s) =
        let l = marked_live live live_is n b m in
        inr (useful.below n q (useful_left n l (reached_useful (rule_at rules n).left h)) l s)

    pub useful_reached : (q : ℕ) → IsUseful product rules q → IsReached rules live q
    useful_reached _ (useful.start c i) = reached.start
    useful_reached _ (useful.below n q u l s) = reached.below n q l.below (live_marked live live_is n l) (useful_reached (rule_at rules n).left u) s

  record KnownBelow (qs : List ℕ) (m : ℕ) : Type 0 where
    values : List ℕ
    are : Along (λ q c. IsInside product rules q (Some c)) qs values
    small : product_of product values ≤ m

  -- runs that cost little enough have states whose inside costs are no greater
  known_below : (runs : Trees ℕ) (qs : List ℕ) → AreRuns rules qs runs → cost product rules runs ≤ most → KnownBelow qs (cost product rules runs)
  known_below none [] a m = record { values = []; are = tt; small = omega arith }
  known_below none (q ∷ qs) a m = absurd a
  known_below (tree n inner rest) [] a m = absurd a
  known_below (tree n inner rest) (q ∷ qs) a m =
      let w : ℕ = (rule_at rules n).cost in
      let x : ℕ = cost product rules inner in
      let y : ℕ = cost product rules rest in
      let le2 : product w x ≤ product (product w x) y = laws.at_least (product w x) y in
      let le3 : y ≤ product (product w x) y = at_least_right laws (product w x) y in
      let run : IsRunCost product rules (q ∷ []) (product w x) = subst (λ p. IsRunCost product rules (p ∷ []) (product w x)) a.1 (rule_run laws rules n x a.0 (record { runs = inner; are_runs = a.2; costs = refl })) in
      let here = has_inside q (product w x) run (omega arith) in
      let low : here.0 ≤ product w x = here.1.lower (product w x) run (omega arith) in
      let others = known_below rest qs a.3 (omega arith) in
      record { values = here.0 ∷ others.values; are = (here.1, others.are); small = grows_both laws here.0 (product_of product others.values) (product w x) y low others.small }

  -- a rule with runs below it that cost little enough is live
  pub live_by_runs :
      (n : ℕ) (runs : Trees ℕ) → n < length rules → AreRuns rules (holes_of (rule_at rules n).right) runs → product (rule_at rules n).cost (cost product rules runs) ≤ most → IsLive product rules n
  live_by_runs n runs h a m =
      let right : cost product rules runs ≤ product (rule_at rules n).cost (cost product rules runs) = at_least_right laws (rule_at rules n).cost (cost product rules runs) in
      let known = known_below runs (holes_of (rule_at rules n).right) a (omega arith) in
      let low : product (rule_at rules n).cost (product_of product known.values) ≤ product (rule_at rules n).cost (cost product rules runs) =
      laws.grows (rule_at rules n).cost (product_of product known.values) (cost product rules runs) known.small in
      record { below = h; insides = known.values; are_insides = known.are; within = omega arith }
