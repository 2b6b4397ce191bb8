-- A grammar over keys has the series of the rules over their positions.
use Rattle.tib_cost.specs.declared.Scale.{Scale}
use Rattle.std.specs.Prelude.{◌≡◌, ℕ, ◌<◌, ◌↔◌, List, [], ◌∷◌, length, map, refl, Option}
use Rattle.std.specs.Option.{option_cmp}
use Rattle.std.specs.declared.cmp.Ordering.{Ordering}
use Rattle.std.proofs.Common.{zero, suc, arith, ap, sym, ◌∙◌, subst, get_or}
use Rattle.std.proofs.lemmas.List.{get_or-map, length-map}
use Rattle.tib_lex.specs.Lists.{Distinct}
use Rattle.tib_tree.specs.Trees.{Tree, Trees, none, tree, join, only}
use Rattle.tib_grammar.specs.Sides.{holes, holes_of, fill}
use Rattle.tib_grammar.specs.Run.{rule_at, no_rule, AreRuns, yields, cost, IsCost}
use Rattle.tib_grammar.specs.Series.{IsSeriesAt, IsSeries}
use Rattle.tib_grammar.specs.Range.{AllBelow, AreInRange}
use Rattle.tib_grammar.specs.GrammarOf.{GrammarOf, named_rule}
use Rattle.tib_grammar.specs.declared.Rule.{Rule}
use Rattle.tib_grammar.proofs.Sides.{holes-relabel, fill-relabel}
use Rattle.tib_cost.proofs.Least.{IsLeast-same}
use Rattle.tib_inside.proofs.Chosen.{distinct_at}
use Rattle.tib_canon.specs.Keys.{IsOverKeys, IsCanonicalOverKeys, behind_fresh, started_rules}
use Rattle.tib_canon.specs.declared.begin.Begin.TheVariants.{At, Fresh}

module _ (product : ℕ → ℕ → ℕ) (old new : List (Rule ℕ)) (states : List ℕ) (once : Distinct states) (range : AreInRange (length states) new) (named : map (named_rule (λ i. get_or states i 0)) new ≡ old) where
  as_many : length old ≡ length new
  as_many = ap length (sym named) ∙ length-map new (named_rule (λ i. get_or states i 0))

  named_at : (n : ℕ) → n < length new → rule_at old n ≡ named_rule (λ i. get_or states i 0) (rule_at new n)
  named_at n h =
      let spare : Rule ℕ = named_rule (λ i. get_or states i 0) no_rule in
      far old n no_rule spare (omega (arith, h, as_many)) ∙ ap (λ rs. get_or rs n spare) (sym named)
      ∙ get_or-map (named_rule (λ i. get_or states i 0)) new n no_rule spare h
    where
      far : {A : Type 0} (xs : List A) (n : ℕ) (d e : A) → n < length xs → get_or xs n d ≡ get_or xs n e
      far [] n d e h = absurd (omega arith)
      far (x ∷ xs) zero d e h = refl
      far (x ∷ xs) (suc n) d e h = far xs n d e (omega arith)

  record IsRenamed (n : ℕ) : Type 0 where
    left : get_or states (rule_at new n).left 0 ≡ (rule_at old n).left
    holes_are : map (λ i. get_or states i 0) (holes_of (rule_at new n).right) ≡ holes_of (rule_at old n).right
    fills : (us : Trees ℕ) → fill (only (rule_at new n).right) us ≡ fill (only (rule_at old n).right) us
    weight : (rule_at new n).cost ≡ (rule_at old n).cost

  renamed : (n : ℕ) → n < length new → IsRenamed n
  renamed n h =
      let e : named_rule (λ i. get_or states i 0) (rule_at new n) ≡ rule_at old n = sym (named_at n h) in
      record {
        left = ap (λ r. r.left) e;
        holes_are = sym (holes-relabel (λ i. get_or states i 0) (only (rule_at new n).right)) ∙ ap (λ r. holes (only r.right)) e;
        fills = λ us. sym (fill-relabel (λ i. get_or states i 0) (only (rule_at new n).right) us) ∙ ap (λ r. fill (only r.right) us) e;
        weight = ap (λ r. r.cost) e;
      }

  to_old : (runs : Trees ℕ) (ks : List ℕ) → AreRuns new ks runs → AreRuns old (map (λ i. get_or states i 0) ks) runs
  to_old none [] a = tt
  to_old none (k ∷ ks) a = absurd a
  to_old (tree n runs rest) [] a = absurd a
  to_old (tree n runs rest) (k ∷ ks) a =
      let r = renamed n a.0 in (
        omega (arith, a.0, as_many),
        sym r.left ∙ ap (λ i. get_or states i 0) a.1,
        subst (λ qs. AreRuns old qs runs) r.holes_are (to_old runs (holes_of (rule_at new n).right) a.2),
        to_old rest ks a.3,
      )

  to_new : (runs : Trees ℕ) (ks : List ℕ) → AllBelow (length states) ks → AreRuns old (map (λ i. get_or states i 0) ks) runs → AreRuns new ks runs
  to_new none [] b a = tt
  to_new none (k ∷ ks) b a = absurd a
  to_new (tree n runs rest) [] b a = absurd a
  to_new (tree n runs rest) (k ∷ ks) b a =
      let h : n < length new = omega (arith, a.0, as_many) in
      let r = renamed n h in (
        h,
        distinct_at states (rule_at new n).left k 0 once (range n h).0 b.0 (r.left ∙ a.1),
        to_new runs (holes_of (rule_at new n).right) (range n h).1 (subst (λ qs. AreRuns old qs runs) (sym r.holes_are) a.2),
        to_new rest ks b.1 a.3,
      )

  same_yields : (runs : Trees ℕ) (ks : List ℕ) → AreRuns new ks runs → yields old runs ≡ yields new runs
  same_yields none ks a = refl
  same_yields (tree n runs rest) [] a = absurd a
  same_yields (tree n runs rest) (k ∷ ks) a =
      ap (λ us. join (fill (only (rule_at old n).right) us) (yields old rest)) (same_yields runs (holes_of (rule_at new n).right) a.2)
      ∙ ap (λ us. join us (yields old rest)) (sym ((renamed n a.0).fills (yields new runs)))
      ∙ ap (join (fill (only (rule_at new n).right) (yields new runs))) (same_yields rest ks a.3)

  same_cost : (runs : Trees ℕ) (ks : List ℕ) → AreRuns new ks runs → cost product old runs ≡ cost product new runs
  same_cost none ks a = refl
  same_cost (tree n runs rest) [] a = absurd a
  same_cost (tree n runs rest) (k ∷ ks) a =
      ap (λ c. product (product c (cost product old runs)) (cost product old rest)) (sym (renamed n a.0).weight)
      ∙ ap (λ c. product (product (rule_at new n).cost c) (cost product old rest)) (same_cost runs (holes_of (rule_at new n).right) a.2)
      ∙ ap (product (product (rule_at new n).cost (cost product new runs))) (same_cost rest ks a.3)

  pub series_at : (k : ℕ) → k < length states → (t : Tree ℕ) (v : Option ℕ) → IsSeriesAt product old (get_or states k 0) t v ↔ IsSeriesAt product new k t v
  series_at k b t v = (λ h. IsLeast-same back forth h, λ h. IsLeast-same forth back h)
    where
      forth : (c : ℕ) → IsCost product new (k ∷ []) (only t) c → IsCost product old (get_or states k 0 ∷ []) (only t) c
      forth c h = record {
        runs = h.runs;
        are_runs = to_old h.runs (k ∷ []) h.are_runs;
        yielded = same_yields h.runs (k ∷ []) h.are_runs ∙ h.yielded;
        costs = same_cost h.runs (k ∷ []) h.are_runs ∙ h.costs;
      }

      back : (c : ℕ) → IsCost product old (get_or states k 0 ∷ []) (only t) c → IsCost product new (k ∷ []) (only t) c
      back c h =
          let a : AreRuns new (k ∷ []) h.runs = to_new h.runs (k ∷ []) (b, tt) h.are_runs in
          record { runs = h.runs; are_runs = a; yielded = sym (same_yields h.runs (k ∷ []) a) ∙ h.yielded; costs = sym (same_cost h.runs (k ∷ []) a) ∙ h.costs }

-- the series of the rules at the position of the start is that of the grammar
pub over_series :
    {K : Type 0} (cmp : K → K → Ordering) (product : ℕ → ℕ → ℕ) (order : List K) (rules : List (Rule ℕ)) (start : ℕ) (g : GrammarOf) → IsOverKeys cmp order rules start g →
    (t : Tree ℕ) (v : Option ℕ) → IsSeriesAt product rules start t v ↔ IsSeries product g.rules t v
over_series cmp product order rules start g o t v =
    let keys = o.by_keys in
    let range : AreInRange (length o.states) g.rules = subst (λ n. AreInRange n g.rules) (sym keys.many) o.in_range in
    let first : get_or o.states 0 0 ≡ start = ap (λ (xs : List ℕ). get_or xs 0 0) keys.first in
    let some : 0 < length o.states = subst (λ (xs : List ℕ). 0 < length xs) (sym keys.first) (omega arith) in
    let both = series_at product rules g.rules o.states keys.once range o.named 0 some t v in (
      λ h. both.0 (subst (λ q. IsSeriesAt product rules q t v) (sym first) h),
      λ h. subst (λ q. IsSeriesAt product rules q t v) first (both.1 h),
    )

pub canonical_series :
    {K : Type 0} (cmp : K → K → Ordering) (product : ℕ → ℕ → ℕ) (scale : Scale) (labels : List (List ℕ)) (order : List K) (rules : List (Rule ℕ)) (start : ℕ) (h : GrammarOf) →
    IsCanonicalOverKeys product scale labels cmp order rules (At start) h → (t : Tree ℕ) (v : Option ℕ) → IsSeriesAt product rules start t v ↔ IsSeries product h.rules t v
canonical_series cmp product scale labels order rules start h c t v =
    let a = over_series cmp product order rules start c.over c.begun t v in
    let b = c.series t v in (λ x. b.0 (a.0 x), λ x. a.1 (b.1 x))

-- the same after a fresh start
pub fresh_series :
    {K : Type 0} (cmp : K → K → Ordering) (product : ℕ → ℕ → ℕ) (scale : Scale) (labels : List (List ℕ)) (order : List K) (rules : List (Rule ℕ)) (finals : List (ℕ × ℕ)) (h : GrammarOf) →
    IsCanonicalOverKeys product scale labels cmp order rules (Fresh finals) h → (t : Tree ℕ) (v : Option ℕ) → IsSeries product (started_rules finals rules) t v ↔ IsSeries product h.rules t v
fresh_series cmp product scale labels order rules finals h c t v =
    let a = over_series (option_cmp cmp) product (behind_fresh order) (started_rules finals rules) 0 c.over c.begun t v in
    let b = c.series t v in (λ x. b.0 (a.0 x), λ x. a.1 (b.1 x))
