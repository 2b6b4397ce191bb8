-- The edges of forward application over tables, match by match and rule by rule.
use Rattle.std.specs.Prelude.{◌≡◌, ℕ, ◌+◌, ◌*◌, ◌/◌, ◌<◌, ◌≤◌, nat_eq, Bool, true, false, List, [], ◌∷◌, ◌++◌, length, map, take, refl, Option, None, Some, if◌then◌else◌}
use Rattle.std.specs.List.{list_any}
use Rattle.std.specs.Ordering.{nat_cmp}
use Rattle.std.specs.Cmp.Lexicographic.{slice_cmp}
use Rattle.std.specs.declared.cmp.Ordering.TheVariants.{Less}
use Rattle.std.proofs.Common.{zero, suc, arith, ap, sym, ◌∙◌, subst, get_or, inl, inr, append_assoc}
use Rattle.std.proofs.Math.Nat.{suc-mul, zero-mul}
use Rattle.std.proofs.lemmas.Cmp.{nat_list_cmp_total}
use Rattle.tib_lex.specs.Lists.{Has, Each, Distinct, Ascends, Along, total}
use Rattle.tib_lex.proofs.Lists.{has_mapped, append_nil, each_mapped, length_map, some_is}
use Rattle.tib_lex.proofs.Members.{each_has, has_at, has_left, has_right, has_either}
use Rattle.tib_tree.specs.Trees.{only, size}
use Rattle.tib_grammar.specs.Sides.{label, holes_of, HolesAreLeaves, side_map}
use Rattle.tib_grammar.specs.Forms.{AreNormal}
use Rattle.tib_grammar.specs.Run.{rule_at}
use Rattle.tib_grammar.specs.Range.{AllBelow, AreInRange}
use Rattle.tib_grammar.specs.GrammarOf.{GrammarOf}
use Rattle.tib_grammar.specs.declared.Rule.{Rule}
use Rattle.tib_cost.specs.Semiring.{ProductLaws, most}
use Rattle.tib_cost.specs.Least.{times}
use Rattle.tib_cost.proofs.Least.{IsLeast-unique, cut-cases}
use Rattle.tib_cost.proofs.Times.{cut-some, cut-within}
use Rattle.tib_lex.proofs.Places.{take_next, take_whole}
use Rattle.tib_expand.proofs.Reaching.{apart}
use Rattle.tib_transducer.specs.Rules.{transducer_rule, variables_of, variables_in}
use Rattle.tib_transducer.specs.Range.{IsShaped, AreNumbered}
use Rattle.tib_transducer.specs.declared.Variable.{Variable}
use Rattle.tib_transducer.specs.declared.Pair.{Pair}
use Rattle.tib_transducer.specs.declared.TransducerRule.{TransducerRule}
use Rattle.tib_transducer.specs.Moves.{moves_of}
use Rattle.tib_transducer.proofs.Moves.{move_is, is_move, moves_once}
use Rattle.tib_match.specs.Matches.{IsMatch}
use Rattle.tib_match.specs.Searching.{AreMatchesWhere, AreMoreWhere}
use Rattle.tib_match.proofs.Matching.{match_long}
use Rattle.tib_apply.specs.Restrictions.{restricted_labels, Admits}
use Rattle.tib_apply.specs.KeyGrammars.{key_at}
use Rattle.tib_apply.specs.Forward.{forward_key, deleted}
use Rattle.tib_apply.specs.ForwardPlans.{end_at, planned_end, left_out, asked_at, IsPlan, ArePlans, HasPlans}
use Rattle.tib_key_edges.specs.Listing.{IsListed, Overruns, AreListedFrom, IsAdded}
use Rattle.tib_key_edges.proofs.MappedSides.{size_mapped}
use Rattle.tib_key_edges.proofs.Listed.{listed_passed, listed_added, overruns_next, listed_first}
use Rattle.tib_apply.specs.Operations.{edge_parts}
use Rattle.tib_apply.specs.ForwardLists.{HoleStatesBelow, IsAtMatch, IsAffordable, ListsOrigin, OriginOverruns, ListsRule, RuleOverruns, HasRule}
use Rattle.tib_apply.specs.LeastRuns.{deleted_in}
use Rattle.tib_apply.specs.TableEdges.{IsTableEdge}
use Rattle.tib_apply.specs.declared.deleting.LeastRuns.{LeastRuns}
use Rattle.tib_apply.specs.declared.forward_plan.PlannedEnd.{PlannedEnd}
use Rattle.tib_apply.specs.declared.forward_plan.Plan.{Plan}
use Rattle.tib_apply.specs.ForwardRules.{ForwardListing}
use Rattle.tib_apply.proofs.ForwardPlanned.{numbered_below, each_map, plan_at, plans_many}
use Rattle.tib_apply.proofs.MoreParts.{origins_apart, more_parts}
pub use Rattle.tib_apply.proofs.MoreParts.{same_fault}
pub use Rattle.tib_match.proofs.BoxSearch.{on_ok}

-- what is left out

each_left_out : (P : Variable → Type 0) (named : List ℕ) (xs : List Variable) → Each P xs → Each P (left_out named xs)
each_left_out P named [] h = tt
each_left_out P named (x ∷ xs) h = by (list_any (nat_eq x.number) named) (each_left_out P named xs h.1)
  where
    by : (b : Bool) → Each P (left_out named xs) → Each P (if b then left_out named xs else x ∷ left_out named xs)
    by true k = k
    by false k = (h.0, k)

deleted_from :
    (named : List ℕ) (all : List ℕ) (n : ℕ) (xs : List Variable) (ss : List ℕ) → ((i : ℕ) → get_or all (n + i) 0 ≡ get_or ss i 0) → AreNumbered n xs → length ss ≡ length xs →
    deleted named xs ss ≡ map (asked_at all) (left_out named xs)
deleted_from named all n [] ss at numbered long = refl
deleted_from named all n (x ∷ xs) [] at numbered long = absurd (omega arith)
deleted_from named all n (x ∷ xs) (s ∷ ss) at numbered long =
    by (list_any (nat_eq x.number) named) (deleted_from named all (suc n) xs ss next numbered.1 (omega arith))
  where
    next : (i : ℕ) → get_or all (suc n + i) 0 ≡ get_or ss i 0
    next i = let e : suc n + i ≡ n + suc i = omega arith in ap (λ j. get_or all j 0) e ∙ at (suc i)

    here : get_or all x.number 0 ≡ s
    here = let e : x.number ≡ n + 0 = omega (arith, numbered.0) in ap (λ j. get_or all j 0) e ∙ at 0

    by :
        (b : Bool) → deleted named xs ss ≡ map (asked_at all) (left_out named xs) →
        (if b then deleted named xs ss else (x.label, s) ∷ deleted named xs ss) ≡ map (asked_at all) (if b then left_out named xs else x ∷ left_out named xs)
    by true e = e
    by false e = ap (λ q. (x.label, q) ∷ deleted named xs ss) (sym here) ∙ ap (λ ys. (x.label, get_or all x.number 0) ∷ ys) e

-- what is left out, with the states at its places
deleted_are : (named : List ℕ) (xs : List Variable) (ss : List ℕ) → AreNumbered 0 xs → length ss ≡ length xs → deleted named xs ss ≡ map (asked_at ss) (left_out named xs)
deleted_are named xs ss numbered long = deleted_from named ss 0 xs ss (λ i. let e : 0 + i ≡ i = omega arith in ap (λ j. get_or ss j 0) e) numbered long

keys_are : {K : Type 0} (f : PlannedEnd → K) (g : Pair ℕ → PlannedEnd) (xs : List (Pair ℕ)) → map f (map g xs) ≡ map (λ x. f (g x)) xs
keys_are f g [] = refl
keys_are f g (x ∷ xs) = ap (λ ks. f (g x) ∷ ks) (keys_are f g xs)

-- products of three costs

module _ (product : ℕ → ℕ → ℕ) where
  record IsProductOf (a b : ℕ) (v : Option ℕ) (n : ℕ) : Type 0 where
    last : ℕ
    last_is : v ≡ Some last
    is : n ≡ product (product a b) last
    within : n ≤ most

  three_some : (a b n : ℕ) (v : Option ℕ) → Some n ≡ times product (times product (Some a) (Some b)) v → IsProductOf a b v n
  three_some a b n v e = elim (cut-cases (product a b)) [
    | inl c ↦ by v (e ∙ ap (λ o. times product o v) c.1)
    | inr c ↦ absurd (nothing (e ∙ ap (λ o. times product o v) c.1))
  ]
    where
      nothing : ◌≡◌ {A = Option ℕ} (Some n) None → ⊥
      nothing k = cc

      by : (w : Option ℕ) → Some n ≡ times product (Some (product a b)) w → IsProductOf a b w n
      by None k = absurd (nothing k)
      by (Some d) k = let c = cut-some (product (product a b) d) n (sym k) in record { last = d; last_is = refl; is = sym c.0; within = omega (arith, c.0, c.1) }

  module _ {levelled weighted : Bool} (laws : ProductLaws levelled weighted product) where
    three_none : (a b d : ℕ) (v : Option ℕ) → None ≡ times product (times product (Some a) (Some b)) v → v ≡ Some d → product (product a b) d ≤ most → ⊥
    three_none a b d v e is within =
        let first : product a b ≤ most = omega (arith, laws.at_least (product a b) d) in
        let whole : None ≡ Some (product (product a b) d) =
        e ∙ ap (λ o. times product o v) (cut-within (product a b) first) ∙ ap (times product (Some (product a b))) is ∙ cut-within (product (product a b) d) within
        in
        absurd (cc)

-- a match of a rule, and what the rule does there
module _
    {levelled weighted : Bool} {product : ℕ → ℕ → ℕ} (laws : ProductLaws levelled weighted product)
    (grammar : List (Rule ℕ)) (moves : List (TransducerRule ℕ)) (runs : LeastRuns) (key : ℕ × ℕ × ℕ) (m : ℕ) (found : List ℕ × ℕ) where
  abbrev keys_for : TransducerRule ℕ → Pair ℕ → ℕ × ℕ × ℕ
  keys_for r = forward_key (restricted_labels moves) r.left found.0

  abbrev cost_of : TransducerRule ℕ → Plan → Option ℕ
  cost_of r plan = times product (times product (Some r.cost) (Some found.1)) (deleted_in product runs (map (asked_at found.0) plan.left_out.items))

  -- what holds of the rule there
  pub record MatchFacts (plan : Plan) (r : TransducerRule ℕ) : Type 0 where
    pub left_below : Each (λ x. x.number < length found.0) plan.left_out.items
    pub ends_below : Each (λ e. e.variable < length found.0) plan.ends.items
    pub ends_many : length plan.ends.items ≡ length (holes_of r.right)
    pub keys : map (end_at found.0) plan.ends.items ≡ map (keys_for r) (holes_of r.right)
    pub leaves : HolesAreLeaves (only r.right)
    pub given : (cost : ℕ) → Some cost ≡ cost_of r plan → IsTableEdge product grammar moves runs key (m, found.0) (record { left = key; right = side_map (keys_for r) r.right; cost = cost })
    pub no_edge : None ≡ cost_of r plan → (e : Rule (ℕ × ℕ × ℕ)) → IsTableEdge product grammar moves runs key (m, found.0) e → ⊥

  module _ (normal : AreNormal grammar) (at : IsAtMatch product grammar moves key m found) (plan : Plan) where
    facts : IsShaped (transducer_rule moves m) → HolesAreLeaves (only (transducer_rule moves m).right) → IsPlan (restricted_labels moves) (transducer_rule moves m) plan → MatchFacts plan (transducer_rule moves m)
    facts shaped leaves planned = record {
      left_below = subst (Each (λ x. x.number < length found.0)) (sym planned.left_out) (each_left_out (λ x. x.number < length found.0) (variables_in r.right) (variables_of r.left) numbers_below);
      ends_below = subst (Each (λ e. e.variable < length found.0)) (sym planned.ends) (each_map (λ (e : PlannedEnd). e.variable < length found.0) (planned_end labels r.left) (holes_of r.right) known);
      ends_many = ap length planned.ends ∙ length_map (planned_end labels r.left) (holes_of r.right);
      keys = ap (map (end_at found.0)) planned.ends ∙ keys_are (end_at found.0) (planned_end labels r.left) (holes_of r.right);
      leaves = leaves;
      given = λ cost e.
          let p = three_some product r.cost found.1 cost (deleted_in product runs (map (asked_at found.0) plan.left_out.items)) e in
          record {
            below = at.below;
            state = at.state;
            root = at.root;
            is_root = at.is_root;
            admitted = at.admitted;
            matched = found.1;
            is_match = at.is_match;
            deleted_cost = p.last;
            is_deleted_cost = ap (deleted_in product runs) same ∙ p.last_is;
            left = refl;
            right = refl;
            costs = p.is;
            within = p.within;
          };
      no_edge = λ none e h.
          let matched : h.matched ≡ found.1 = some_is (IsLeast-unique h.is_match at.is_match) in
          let costs : e.cost ≡ product (product r.cost found.1) h.deleted_cost = h.costs ∙ ap (λ x. product (product r.cost x) h.deleted_cost) matched in
          three_none product laws r.cost found.1 h.deleted_cost (deleted_in product runs (map (asked_at found.0) plan.left_out.items)) none (sym (ap (deleted_in product runs) same) ∙ h.is_deleted_cost)
          (omega (arith, costs, h.within));
    }
      where
        r : TransducerRule ℕ
        r = transducer_rule moves m

        labels : List ℕ
        labels = restricted_labels moves

        long : length found.0 ≡ length (variables_of (transducer_rule moves m).left)
        long = match_long laws grammar normal (only (transducer_rule moves m).left) (key.0 ∷ []) found.0 found.1 at.is_match.attained.0

        numbers_below : Each (λ x. x.number < length found.0) (variables_of (transducer_rule moves m).left)
        numbers_below = subst (λ n. Each (λ (x : Variable). x.number < n) (variables_of (transducer_rule moves m).left)) (sym long) (numbered_below (variables_of (transducer_rule moves m).left) shaped.numbered)

        known : Each (λ x. x.variable < length found.0) (holes_of (transducer_rule moves m).right)
        known =
            subst (λ n. Each (λ (x : Pair ℕ). x.variable < n) (holes_of (transducer_rule moves m).right)) (sym long)
            (each_mapped (λ i. i < length (variables_of (transducer_rule moves m).left)) (λ (x : Pair ℕ). x.variable) (holes_of (transducer_rule moves m).right) shaped.known)

        same : deleted (variables_in (transducer_rule moves m).right) (variables_of (transducer_rule moves m).left) found.0 ≡ map (asked_at found.0) plan.left_out.items
        same =
            deleted_are (variables_in (transducer_rule moves m).right) (variables_of (transducer_rule moves m).left) found.0 shaped.numbered long ∙ ap (map (asked_at found.0)) (sym planned.left_out)

    -- the same for a rule that was looked up
    pub match_facts :
        (r : TransducerRule ℕ) → r ≡ transducer_rule moves m → IsShaped (transducer_rule moves m) → HolesAreLeaves (only (transducer_rule moves m).right) → IsPlan (restricted_labels moves) (transducer_rule moves m) plan →
        MatchFacts plan r
    match_facts r is shaped leaves planned = subst (MatchFacts plan) (sym is) (facts shaped leaves planned)

    module _ (r : TransducerRule ℕ) (known : MatchFacts plan r) where
      -- no edge is listed
      pub origin_passed : (l : ForwardListing) → None ≡ cost_of r plan → ListsOrigin (IsTableEdge product grammar moves runs key) key (m, found.0) l l
      origin_passed l none order below is tried fresh listed = listed_passed (IsTableEdge product grammar moves runs key) order tried (m, found.0) l (known.no_edge none) listed

      -- its edge is listed
      pub origin_added :
          (cost : ℕ) → Some cost ≡ cost_of r plan → (l n : ForwardListing) → IsAdded r.right (map (end_at found.0) plan.ends.items) cost l n → ListsOrigin (IsTableEdge product grammar moves runs key) key (m, found.0) l n
      origin_added cost e l n added order below is tried fresh listed =
          listed_added (IsTableEdge product grammar moves runs key) order tried (m, found.0) fresh key (keys_for r) r.right cost (known.given cost e) (0, 0, 0) l.position below is known.leaves l n refl
          (subst (λ ks. IsAdded r.right ks cost l n) known.keys added) listed

      -- its edge is too much
      pub origin_overruns : (cost : ℕ) → Some cost ≡ cost_of r plan → (l : ForwardListing) → l.budget < l.parts + (1 + size r.right) → OriginOverruns (IsTableEdge product grammar moves runs key) key (m, found.0) l
      origin_overruns cost e l much order below is tried fresh listed =
          overruns_next (IsTableEdge product grammar moves runs key) order tried (m, found.0) fresh key (keys_for r) r.right cost (known.given cost e) l much listed

-- the matches of a rule, one after another

-- an element is not among those before it
not_before : {A : Type 0} (xs : List A) (i : ℕ) (d : A) → Distinct xs → i < length xs → Has (take i xs) (get_or xs i d) → ⊥
not_before [] i d s h k = omega arith
not_before (x ∷ xs) zero d s h k = k
not_before (x ∷ xs) (suc i) d s h k = elim k [
  | inl e ↦ s.0 (subst (Has xs) (sym e) (has_at xs i d (omega arith)))
  | inr n ↦ not_before xs i d s.1 (omega arith) n
]

module _ (m : ℕ) where
  abbrev origin_of : List ℕ × ℕ → ℕ × List ℕ
  origin_of f = (m, f.0)

  -- the origins of the first matches
  abbrev pub origins_of : ℕ → List (List ℕ × ℕ) → List (ℕ × List ℕ)
  origins_of i ms = map (λ (f : List ℕ × ℕ). (m, f.0)) (take i ms)

  is_own : (ms : List (List ℕ × ℕ)) (o : ℕ × List ℕ) → Has (map origin_of ms) o → o.0 ≡ m
  is_own ms o h = let x = has_mapped origin_of ms o h in ap (λ (p : ℕ × List ℕ). p.0) (sym x.2)

  has_origin : (ms : List (List ℕ × ℕ)) (f : List ℕ × ℕ) → Has ms f → Has (map origin_of ms) (m, f.0)
  has_origin [] f h = absurd h
  has_origin (g ∷ ms) f h = elim h [ inl e ↦ inl (ap origin_of e) | inr k ↦ inr (has_origin ms f k) ]

  itself : (z : List ℕ) → slice_cmp nat_cmp z z ≡ Less → ⊥
  itself z l = apart (slice_cmp nat_cmp) nat_list_cmp_total z z l l

  distinct_origins : (ms : List (List ℕ × ℕ)) → Ascends (λ (a : List ℕ × ℕ) (b : List ℕ × ℕ). slice_cmp nat_cmp a.0 b.0 ≡ Less) ms → Distinct (map origin_of ms)
  distinct_origins [] h = tt
  distinct_origins (f ∷ ms) h = (
    λ k.
        let x = has_mapped origin_of ms (m, f.0) k in
        let same : x.0.0 ≡ f.0 = ap (λ (p : ℕ × List ℕ). p.1) x.2 in
        itself f.0 (subst (λ z. slice_cmp nat_cmp f.0 z ≡ Less) same (each_has (λ (b : List ℕ × ℕ). slice_cmp nat_cmp f.0 b.0 ≡ Less) ms x.0 h.0 x.1)),
    distinct_origins ms h.1,
  )

  map_take : (i : ℕ) (ms : List (List ℕ × ℕ)) → map origin_of (take i ms) ≡ take i (map origin_of ms)
  map_take zero ms = refl
  map_take (suc i) [] = refl
  map_take (suc i) (f ∷ ms) = ap (λ os. (m, f.0) ∷ os) (map_take i ms)

  map_at : (ms : List (List ℕ × ℕ)) (i : ℕ) (d : List ℕ × ℕ) → get_or (map origin_of ms) i (m, d.0) ≡ (m, (get_or ms i d).0)
  map_at [] i d = refl
  map_at (f ∷ ms) zero d = refl
  map_at (f ∷ ms) (suc i) d = map_at ms i d

  map_append : (xs ys : List (List ℕ × ℕ)) → map origin_of (xs ++ ys) ≡ map origin_of xs ++ map origin_of ys
  map_append [] ys = refl
  map_append (x ∷ xs) ys = ap (λ os. (m, x.0) ∷ os) (map_append xs ys)

  module _
      (Gives : ℕ × List ℕ → Rule (ℕ × ℕ × ℕ) → Type 0) (key : ℕ × ℕ × ℕ) (ms : List (List ℕ × ℕ)) (i : ℕ) (f : List ℕ × ℕ) (below : i < length ms) (is : f ≡ get_or ms i f)
      (up : Ascends (λ (a : List ℕ × ℕ) (b : List ℕ × ℕ). slice_cmp nat_cmp a.0 b.0 ≡ Less) ms)
      (order : List (ℕ × ℕ × ℕ)) (tried : List (ℕ × List ℕ)) (fresh : (o : ℕ × List ℕ) → Has tried o → o.0 ≡ m → ⊥) where
    new_origin : Has (tried ++ origins_of i ms) (m, f.0) → ⊥
    new_origin h = elim (has_either tried (origins_of i ms) (m, f.0) h) [
      | inl k ↦ fresh (m, f.0) k refl
      | inr k ↦
          let there : Has (take i (map origin_of ms)) (get_or (map origin_of ms) i (m, f.0)) =
          subst (Has (take i (map origin_of ms))) (ap origin_of is ∙ sym (map_at ms i f)) (subst (λ os. Has os (m, f.0)) (map_take i ms) k)
          in
          not_before (map origin_of ms) i (m, f.0) (distinct_origins ms up) (omega (arith, below, length_map origin_of ms)) there
    ]

    origins_next : (tried ++ origins_of i ms) ++ (m, f.0) ∷ [] ≡ tried ++ origins_of (i + 1) ms
    origins_next =
        append_assoc tried (origins_of i ms) ((m, f.0) ∷ [])
        ∙ ap (λ os. tried ++ os)
        (ap (λ g. origins_of i ms ++ origin_of g ∷ []) is ∙ sym (map_append (take i ms) (get_or ms i f ∷ [])) ∙ ap (map origin_of) (sym (take_next ms i f below)))

    -- one more match
    pub rule_next :
        (l n : ForwardListing) → l.position < length order → key_at order l.position ≡ key → IsListed Gives order (tried ++ origins_of i ms) l → ListsOrigin Gives key (m, f.0) l n →
        IsListed Gives order (tried ++ origins_of (i + 1) ms) n
    rule_next l n within at listed one = subst (λ os. IsListed Gives order os n) origins_next (one order within at (tried ++ origins_of i ms) new_origin listed)

    -- a match whose edge is too much
    pub rule_overruns :
        (l : ForwardListing) → l.position < length order → key_at order l.position ≡ key → IsListed Gives order (tried ++ origins_of i ms) l → OriginOverruns Gives key (m, f.0) l → Overruns Gives l.budget
    rule_overruns l within at listed one = one order within at (tried ++ origins_of i ms) new_origin listed

module _
    (product : ℕ → ℕ → ℕ) (grammar : List (Rule ℕ)) (moves : List (TransducerRule ℕ)) (runs : LeastRuns) (key : ℕ × ℕ × ℕ) (m : ℕ)
    (order : List (ℕ × ℕ × ℕ)) (tried : List (ℕ × List ℕ)) where
  abbrev Table : ℕ × List ℕ → Rule (ℕ × ℕ × ℕ) → Type 0
  Table = IsTableEdge product grammar moves runs key

  -- all matches of the rule were tried
  pub rule_whole :
      (ms : List (List ℕ × ℕ)) (i : ℕ) (l : ForwardListing) → length ms ≤ i → AreMatchesWhere product grammar (transducer_rule moves m).left key.0 (IsAffordable product runs (transducer_rule moves m)) ms → IsListed Table order (tried ++ origins_of m i ms) l →
      HasRule Table key order m tried l
  rule_whole ms i l past are listed = record {
    more = map (λ f. (m, f.0)) ms;
    only = λ o h. is_own m ms o h;
    all = λ o e h at. whole o e h at;
    listed = subst (λ xs. IsListed Table order (tried ++ map (λ f. (m, f.0)) xs) l) (take_whole ms i past) listed;
  }
    where
      affordable : (o : ℕ × List ℕ) (e : Rule (ℕ × ℕ × ℕ)) (h : Table o e) → o.0 ≡ m → IsAffordable product runs (transducer_rule moves m) (o.1, h.matched)
      affordable o e h at = record {
        deleted_cost = h.deleted_cost;
        is_deleted_cost = subst (λ n. deleted_in product runs (deleted (variables_in (transducer_rule moves n).right) (variables_of (transducer_rule moves n).left) o.1) ≡ Some h.deleted_cost) at h.is_deleted_cost;
        within = subst (λ n. product (product (transducer_rule moves n).cost h.matched) h.deleted_cost ≤ most) at (subst (λ c. c ≤ most) h.costs h.within);
      }

      whole : (o : ℕ × List ℕ) (e : Rule (ℕ × ℕ × ℕ)) → Table o e → o.0 ≡ m → Has (map (λ (f : List ℕ × ℕ). (m, f.0)) ms) o
      whole o e h at =
          let matched : IsMatch product grammar (transducer_rule moves m).left key.0 o.1 (Some h.matched) = subst (λ n. IsMatch product grammar (transducer_rule moves n).left key.0 o.1 (Some h.matched)) at h.is_match in
          let there = has_origin m ms (o.1, h.matched) (are.whole o.1 h.matched matched (affordable o e h at)) in
          subst (λ n. Has {A = ℕ × List ℕ} (map (λ (f : List ℕ × ℕ). (m, f.0)) ms) (n, o.1)) (sym at) there

  -- the restriction does not admit the rule
  pub rule_refused :
      (l : ForwardListing) → ((root : ℕ) → (transducer_rule moves m).left.label ≡ label root → Admits (restricted_labels moves) key.2 root → ⊥) → IsListed Table order tried l → HasRule Table key order m tried l
  rule_refused l refused listed = record {
    more = [];
    only = λ o h. absurd h;
    all = λ o e h at. absurd (refused h.root (subst (λ n. (transducer_rule moves n).left.label ≡ label h.root) at h.is_root) h.admitted);
    listed = subst (λ os. IsListed Table order os l) (sym (append_nil tried)) listed;
  }

-- the rules of a key, one after another

module _ (Gives : ℕ × List ℕ → Rule (ℕ × ℕ × ℕ) → Type 0) (key : ℕ × ℕ × ℕ) (order : List (ℕ × ℕ × ℕ)) where
  -- the edges of the rules at some positions are listed
  pub record AreListedFor (ps : List ℕ) (l : ForwardListing) : Type 0 where
    pub tried : List (ℕ × List ℕ)
    pub listed : IsListed Gives order tried l
    pub only : (o : ℕ × List ℕ) → Has tried o → Has ps o.0
    pub all : (o : ℕ × List ℕ) (e : Rule (ℕ × ℕ × ℕ)) → Gives o e → Has ps o.0 → Has tried o

  -- of no rule at first
  pub none_listed : (l : ForwardListing) → length l.ends.items ≡ 0 → length l.rules.items ≡ 0 → l.parts ≡ 0 → AreListedFor [] l
  none_listed l ends rules parts = record {
    tried = [];
    listed = listed_first Gives order l ends rules parts;
    only = λ o h. h;
    all = λ o e g h. h;
  }

  module _ (ps : List ℕ) (i m : ℕ) (below : i < length ps) (is : m ≡ get_or ps i m) (once : Distinct ps) (l : ForwardListing) (before : AreListedFor (take i ps) l) where
    untried : (o : ℕ × List ℕ) → Has before.tried o → o.0 ≡ m → ⊥
    untried o h e = not_before ps i m once below (subst (Has (take i ps)) (e ∙ is) (before.only o h))

    -- one more rule
    pub key_next : (n : ForwardListing) → l.position < length order → key_at order l.position ≡ key → ListsRule Gives key m l n → AreListedFor (take (i + 1) ps) n
    key_next n within at rule =
        let r = rule order within at before.tried untried before.listed in
        let more : take (i + 1) ps ≡ take i ps ++ m ∷ [] = take_next ps i m below ∙ ap (λ p. take i ps ++ p ∷ []) (sym is) in
        subst (λ qs. AreListedFor qs n) (sym more) (
        record {
          tried = before.tried ++ r.more;
          listed = r.listed;
          only = λ o h. elim (has_either before.tried r.more o h) [
            | inl k ↦ has_left (take i ps) (m ∷ []) o.0 (before.only o k)
            | inr k ↦ has_right (take i ps) (m ∷ []) o.0 (inl (sym (r.only o k)))
          ];
          all = λ o e g h. elim (has_either (take i ps) (m ∷ []) o.0 h) [
            | inl k ↦ has_left before.tried r.more o (before.all o e g k)
            | inr k ↦ elim k [ inl same ↦ has_right before.tried r.more o (r.all o e g (sym same)) | inr nothing ↦ absurd nothing ]
          ];
        }
        )

    -- a rule whose edges are too much
    pub key_overruns : l.position < length order → key_at order l.position ≡ key → RuleOverruns Gives key m l → Overruns Gives l.budget
    key_overruns within at rule = rule order within at before.tried untried before.listed

-- the positions of the rules of the key's state are all
pub key_whole :
    (product : ℕ → ℕ → ℕ) (grammar : List (Rule ℕ)) (moves : List (TransducerRule ℕ)) (runs : LeastRuns) (key : ℕ × ℕ × ℕ) (order : List (ℕ × ℕ × ℕ)) (ps : List ℕ) (i : ℕ) (l : ForwardListing) →
    ps ≡ moves_of key.1 moves → length ps ≤ i → AreListedFor (IsTableEdge product grammar moves runs key) key order (take i ps) l → AreListedFrom (IsTableEdge product grammar moves runs key) order l
key_whole product grammar moves runs key order ps i l are past listed = record {
  tried = listed.tried;
  listed = listed.listed;
  all = λ o e g. listed.all o e g (subst (λ qs. Has qs o.0) (sym (take_whole ps i past)) (subst (λ qs. Has qs o.0) (sym are) (is_move key.1 moves o.0 g.below g.state)));
}

-- the state of a rule at one of these positions
pub move_here :
    (moves : List (TransducerRule ℕ)) (q : ℕ) (ps : List ℕ) (i m : ℕ) → ps ≡ moves_of q moves → i < length ps → m ≡ get_or ps i m → (m < length moves) × ((transducer_rule moves m).state ≡ q)
move_here moves q ps i m are below is = move_is q moves m (subst (Has (moves_of q moves)) (sym is) (subst (λ qs. Has qs (get_or ps i m)) are (has_at ps i m below)))

pub moves_apart : (moves : List (TransducerRule ℕ)) (q : ℕ) (ps : List ℕ) → ps ≡ moves_of q moves → Distinct ps
moves_apart moves q ps are = subst Distinct (sym are) (moves_once q moves)

-- what is looked up

pub rule_here :
    (rules moves : List (TransducerRule ℕ)) (m : ℕ) (r : TransducerRule ℕ) → rules ≡ moves → r ≡ transducer_rule rules m → r ≡ transducer_rule moves m
rule_here rules moves m r same is = is ∙ ap (λ rs. transducer_rule rs m) same

pub match_here :
    (product : ℕ → ℕ → ℕ) (grammar : List (Rule ℕ)) (moves : List (TransducerRule ℕ)) (runs : LeastRuns) (m q : ℕ) (ms : List (List ℕ × ℕ)) (i : ℕ) (f : List ℕ × ℕ) →
    AreMatchesWhere product grammar (transducer_rule moves m).left q (IsAffordable product runs (transducer_rule moves m)) ms → i < length ms →
    f ≡ get_or ms i f → IsMatch product grammar (transducer_rule moves m).left q f.0 (Some f.1)
match_here product grammar moves runs m q ms i f are below is =
    each_has (λ (x : List ℕ × ℕ). IsMatch product grammar (transducer_rule moves m).left q x.0 (Some x.1)) ms f are.least (subst (Has ms) (sym is) (has_at ms i f below))

-- the same list of matches
pub matches_here :
    (product : ℕ → ℕ → ℕ) (grammar : List (Rule ℕ)) (moves : List (TransducerRule ℕ)) (runs : LeastRuns) (m q : ℕ) (ms ns : List (List ℕ × ℕ)) → ms ≡ ns →
    AreMatchesWhere product grammar (transducer_rule moves m).left q (IsAffordable product runs (transducer_rule moves m)) ns →
    AreMatchesWhere product grammar (transducer_rule moves m).left q (IsAffordable product runs (transducer_rule moves m)) ms
matches_here product grammar moves runs m q ms ns same are =
    subst (λ xs. AreMatchesWhere product grammar (transducer_rule moves m).left q (IsAffordable product runs (transducer_rule moves m)) xs) (sym same) are

at_any : {A : Type 0} (xs : List A) (i : ℕ) (d b : A) → i < length xs → get_or xs i d ≡ get_or xs i b
at_any [] i d b h = absurd (omega arith)
at_any (x ∷ xs) zero d b h = refl
at_any (x ∷ xs) (suc i) d b h = at_any xs i d b (omega arith)

pub itself_at : (ps : List ℕ) (i : ℕ) → i < length ps → get_or ps i 0 ≡ get_or ps i (get_or ps i 0)
itself_at ps i h = at_any ps i 0 (get_or ps i 0) h

all_below : (n : ℕ) (qs : List ℕ) → AllBelow n qs → (q : ℕ) → Has qs q → q < n
all_below n [] a q h = absurd h
all_below n (p ∷ qs) a q h = elim h [ inl e ↦ subst (λ x. x < n) e a.0 | inr k ↦ all_below n qs a.1 q k ]

-- the states of a sound grammar are in range
pub states_below : (g h : GrammarOf) → g ≡ h → AreInRange (length g.names) g.rules → HoleStatesBelow (length h.names) h.rules
states_below g h e range =
    subst (λ (x : GrammarOf). HoleStatesBelow (length x.names) x.rules) e (λ m q below has. all_below (length g.names) (holes_of (rule_at g.rules m).right) (range m below).1 q has)

pub has_plans : (labels ls : List ℕ) (rules rs : List (TransducerRule ℕ)) (plans : List Plan) → labels ≡ ls → rules ≡ rs → ArePlans labels rules plans → HasPlans ls rs plans
has_plans labels ls rules rs plans e d a =
    subst (λ x. HasPlans x rs plans) e (subst (λ x. HasPlans labels x plans) d (record { many = plans_many labels rules plans a; plan_at = λ n p h. plan_at labels rules plans n p a h }))

-- More matches than the budget has room for their edges.
module _ (product : ℕ → ℕ → ℕ) (grammar : List (Rule ℕ)) (moves : List (TransducerRule ℕ)) (runs : LeastRuns) (key : ℕ × ℕ × ℕ) (m : ℕ)
    (below : m < length moves) (state : (transducer_rule moves m).state ≡ key.1)
    (root : ℕ) (is_root : (transducer_rule moves m).left.label ≡ label root) (admitted : Admits (restricted_labels moves) key.2 root) where
  -- the edges of some matches
  record HasEdges (ms : List (List ℕ × ℕ)) : Type 0 where
    edges : List (Rule (ℕ × ℕ × ℕ))
    given : Along (IsTableEdge product grammar moves runs key) (map (λ (f : List ℕ × ℕ). (m, f.0)) ms) edges
    counted : total edge_parts edges ≡ length ms * (1 + size (transducer_rule moves m).right)

  edges_of : (ms : List (List ℕ × ℕ)) → Each (λ (f : List ℕ × ℕ). IsMatch product grammar (transducer_rule moves m).left key.0 f.0 (Some f.1)) ms →
      Each (IsAffordable product runs (transducer_rule moves m)) ms → HasEdges ms
  edges_of [] a b = record { edges = []; given = tt; counted = sym (zero-mul (1 + size (transducer_rule moves m).right)) }
  edges_of (f ∷ ms) a b =
      let rest = edges_of ms a.1 b.1 in
      let to = forward_key (restricted_labels moves) (transducer_rule moves m).left f.0 in
      let e : Rule (ℕ × ℕ × ℕ) = record { left = key; right = side_map to (transducer_rule moves m).right; cost = product (product (transducer_rule moves m).cost f.1) b.0.deleted_cost } in
      record {
        edges = e ∷ rest.edges;
        given = (
          record {
            below = below;
            state = state;
            root = root;
            is_root = is_root;
            admitted = admitted;
            matched = f.1;
            is_match = a.0;
            deleted_cost = b.0.deleted_cost;
            is_deleted_cost = b.0.is_deleted_cost;
            left = refl;
            right = refl;
            costs = refl;
            within = b.0.within;
          },
          rest.given,
        );
        counted = omega (arith, size_mapped to (transducer_rule moves m).right, rest.counted, suc-mul (length ms) (1 + size (transducer_rule moves m).right));
      }

  pub rule_more : (budget : ℕ) → AreMoreWhere product grammar (transducer_rule moves m).left key.0 (IsAffordable product runs (transducer_rule moves m)) (budget / (1 + size (transducer_rule moves m).right)) →
      Overruns (IsTableEdge product grammar moves runs key) budget
  rule_more budget more =
      let all = edges_of more.matches more.least more.count in
      record {
        origins = map (λ (f : List ℕ × ℕ). (m, f.0)) more.matches;
        edges = all.edges;
        once = origins_apart m more.matches more.ascend;
        given = all.given;
        more = omega (arith, all.counted, more_parts budget (1 + size (transducer_rule moves m).right) (length more.matches) (omega arith) more.more);
      }
