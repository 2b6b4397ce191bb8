-- The grammar of the pairs has the product of the series.
use Rattle.std.specs.Prelude.{◌≡◌, ℕ, ◌<◌, ◌≤◌, ◌↔◌, List, [], ◌∷◌, length, Bool, map, zip, refl, Option}
use Rattle.std.proofs.Common.{arith, ap, sym, ◌∙◌, subst}
use Rattle.tib_lex.specs.Lists.{Has}
use Rattle.tib_tree.specs.Trees.{Trees, Tree, none, tree, relabel, only}
use Rattle.tib_grammar.specs.Sides.{Symbol, label, hole, holes, AreHoles, symbol_map, leaves, over}
use Rattle.tib_grammar.specs.Run.{rule_at, no_rule, IsCost}
use Rattle.tib_grammar.specs.Series.{IsSeries}
use Rattle.tib_grammar.specs.Forms.{AreNormal, IsLabel}
use Rattle.tib_grammar.specs.Range.{AllBelow}
use Rattle.tib_grammar.specs.GrammarOf.{named_rule}
use Rattle.tib_grammar.specs.declared.Rule.{Rule}
use Rattle.tib_grammar.proofs.Sides.{holes-relabel, holes-leaves, holes_of-label, one_label}
use Rattle.tib_grammar.proofs.NormalRuns.{none_to, IsLeast-no_states, no_states}
use Rattle.tib_grammar.proofs.Best.{no_trees}
use Rattle.tib_cost.specs.Semiring.{ProductLaws, most}
use Rattle.tib_cost.specs.Least.{IsLeast, Products, times}
use Rattle.tib_cost.proofs.Least.{IsLeast-dominated, IsLeast-products, IsLeast-unique, at_least_right}
use Rattle.tib_lex.proofs.Places.{distinct_at, get_map}
use Rattle.tib_lex.proofs.Alongs.{along_at, along_has}
use Rattle.tib_lex.proofs.Lists.{length_map}
use Rattle.tib_key_edges.specs.Ends.{key_at as pair_at}
use Rattle.tib_intersect.specs.PairEdges.{IsPairEdge}
use Rattle.tib_intersect.specs.PairGrammar.{IsPairGrammar, GivesEdge}
use Rattle.tib_intersect.specs.PairLaws.{same_edge}
use Rattle.tib_intersect.proofs.Steps.{mix, count-costs}
use Rattle.tib_grammar.proofs.Opening.{open_cost, close_cost}

-- what becomes holes by new names was holes
pub AreHoles-relabel : {P Q : Type 0} (g : P → Q) (s : Trees (Symbol ℕ P)) (qs : List Q) → relabel (symbol_map g) s ≡ leaves qs → AreHoles s
AreHoles-relabel g none qs e = tt
AreHoles-relabel g (tree (label f) kids rest) [] e = absurd (cc)
AreHoles-relabel g (tree (label f) kids rest) (q ∷ qs) e = absurd (cc)
AreHoles-relabel g (tree (hole p) kids rest) [] e = absurd (cc)
AreHoles-relabel g (tree (hole p) kids rest) (q ∷ qs) e = AreHoles-relabel g rest qs (cc)

-- what becomes a label was that label
pub label-relabel : {P Q : Type 0} (g : P → Q) (s : Symbol ℕ P) (f : ℕ) → symbol_map g s ≡ label f → s ≡ label f
label-relabel g (label h) f e = let k : h ≡ f = cc in ap label k
label-relabel g (hole p) f e = absurd (cc)

-- a symbol that is a label is one
pub IsLabel-is : (s : Symbol ℕ ℕ) (f : ℕ) → s ≡ label f → IsLabel s
IsLabel-is s f e = subst IsLabel (sym e) tt

-- the first components of pairs
pub firsts-zip : (qs rs : List ℕ) → length qs ≡ length rs → map (λ x. x.0) (zip qs rs) ≡ qs
firsts-zip [] [] e = refl
firsts-zip [] (r ∷ rs) e = absurd (omega arith)
firsts-zip (q ∷ qs) [] e = absurd (omega arith)
firsts-zip (q ∷ qs) (r ∷ rs) e = ap (λ zs. q ∷ zs) (firsts-zip qs rs (omega arith))

seconds-zip : (qs rs : List ℕ) → length qs ≡ length rs → map (λ x. x.1) (zip qs rs) ≡ rs
seconds-zip [] [] e = refl
seconds-zip [] (r ∷ rs) e = absurd (omega arith)
seconds-zip (q ∷ qs) [] e = absurd (omega arith)
seconds-zip (q ∷ qs) (r ∷ rs) e = ap (λ zs. r ∷ zs) (seconds-zip qs rs (omega arith))

-- the first states of the pairs at positions
abbrev pub firsts : List (ℕ × ℕ) → List ℕ → List ℕ
firsts order [] = []
firsts order (k ∷ ks) = (pair_at order k).0 ∷ firsts order ks

-- the second states of the pairs at positions
abbrev pub seconds : List (ℕ × ℕ) → List ℕ → List ℕ
seconds order [] = []
seconds order (k ∷ ks) = (pair_at order k).1 ∷ seconds order ks

-- the first states as a map
pub firsts-map : (order : List (ℕ × ℕ)) (ks : List ℕ) → firsts order ks ≡ map (λ x. x.0) (map (pair_at order) ks)
firsts-map order [] = refl
firsts-map order (k ∷ ks) = ap (λ zs. (pair_at order k).0 ∷ zs) (firsts-map order ks)

-- the second states as a map
pub seconds-map : (order : List (ℕ × ℕ)) (ks : List ℕ) → seconds order ks ≡ map (λ x. x.1) (map (pair_at order) ks)
seconds-map order [] = refl
seconds-map order (k ∷ ks) = ap (λ zs. (pair_at order k).1 ∷ zs) (seconds-map order ks)

-- each rule is an edge of its pair, and each edge a rule
pub record IsSound (product : ℕ → ℕ → ℕ) (one two : List (Rule ℕ)) (order : List (ℕ × ℕ)) (rules : List (Rule ℕ)) : Type 0 where
  pub start : (0 < length order) × (pair_at order 0 ≡ (0, 0))
  pub in_range : (j : ℕ) → j < length rules → AllBelow (length order) (holes (only (rule_at rules j).right))
  pub sound :
      (j : ℕ) → j < length rules →
      (o : ℕ × ℕ) × IsPairEdge product one two (pair_at order (rule_at rules j).left) o (named_rule (pair_at order) (rule_at rules j))
  pub complete :
      (k : ℕ) (o : ℕ × ℕ) (e : Rule (ℕ × ℕ)) → k < length order → IsPairEdge product one two (pair_at order k) o e →
      (j : ℕ) × (j < length rules) × ((rule_at rules j).left ≡ k) × (named_rule (pair_at order) (rule_at rules j) ≡ e)

module _
    {levelled weighted : Bool} {product : ℕ → ℕ → ℕ} (laws : ProductLaws levelled weighted product)
    (one two : List (Rule ℕ)) (one_normal : AreNormal one) (two_normal : AreNormal two)
    (order : List (ℕ × ℕ)) (rules : List (Rule ℕ)) (pairs : IsSound product one two order rules) where
  -- what an edge says of the rule that is named so
  record IsEdgeRule (j m n : ℕ) : Type 0 where
    first : m < length one
    second : n < length two
    key : pair_at order (rule_at rules j).left ≡ ((rule_at one m).left, (rule_at two n).left)
    root : ℕ
    root_is : (rule_at rules j).right.label ≡ label root
    first_root : (rule_at one m).right.label ≡ label root
    second_root : (rule_at two n).right.label ≡ label root
    are_holes : AreHoles (rule_at rules j).right.kids
    firsts_are : firsts order (holes (rule_at rules j).right.kids) ≡ holes (rule_at one m).right.kids
    seconds_are : seconds order (holes (rule_at rules j).right.kids) ≡ holes (rule_at two n).right.kids
    cost_is : (rule_at rules j).cost ≡ product (rule_at one m).cost (rule_at two n).cost

  edge_rule : (j : ℕ) (o : ℕ × ℕ) → IsPairEdge product one two (pair_at order (rule_at rules j).left) o (named_rule (pair_at order) (rule_at rules j)) → IsEdgeRule j o.0 o.1
  edge_rule j o e =
      let qs : List ℕ = holes (rule_at one o.0).right.kids in
      let rs : List ℕ = holes (rule_at two o.1).right.kids in
      let kids_are : relabel (symbol_map (pair_at order)) (rule_at rules j).right.kids ≡ leaves (zip qs rs) = ap (λ s. s.kids) e.right in
      let zipped : map (pair_at order) (holes (rule_at rules j).right.kids) ≡ zip qs rs =
      sym (holes-relabel (pair_at order) (rule_at rules j).right.kids) ∙ ap (λ s. holes s) kids_are ∙ holes-leaves ℕ (zip qs rs)
      in
      record {
        first = e.first;
        second = e.second;
        key = e.from;
        root = e.root;
        root_is = label-relabel (pair_at order) (rule_at rules j).right.label e.root (ap (λ s. s.label) e.right);
        first_root = e.first_root;
        second_root = e.second_root;
        are_holes = AreHoles-relabel (pair_at order) (rule_at rules j).right.kids (zip qs rs) kids_are;
        firsts_are = firsts-map order (holes (rule_at rules j).right.kids) ∙ ap (λ zs. map (λ x. x.0) zs) zipped ∙ firsts-zip qs rs e.rank;
        seconds_are = seconds-map order (holes (rule_at rules j).right.kids) ∙ ap (λ zs. map (λ x. x.1) zs) zipped ∙ seconds-zip qs rs e.rank;
        cost_is = e.costs;
      }

  -- the rules over pairs are in normal form
  pub rules_normal : AreNormal rules
  rules_normal j h =
      let s = pairs.sound j h in
      let e : IsEdgeRule j s.0.0 s.0.1 = edge_rule j s.0 s.1 in
      record { is_label = IsLabel-is (rule_at rules j).right.label e.root e.root_is; are_holes = e.are_holes }

  in_range : (j f : ℕ) → j < length rules → (rule_at rules j).right.label ≡ label f → AllBelow (length order) (holes (rule_at rules j).right.kids)
  in_range j f h e = subst (AllBelow (length order)) (holes_of-label (rule_at rules j).right.label (rule_at rules j).right.kids f e) (pairs.in_range j h)

  abbrev IsPairCost : List ℕ → Trees ℕ → ℕ → Type 0
  IsPairCost ks ts c = Products product (IsCost product one (firsts order ks) ts) (IsCost product two (seconds order ks) ts) c

  -- a run is a run in either grammar
  project : (ts : Trees ℕ) (ks : List ℕ) (c : ℕ) → IsCost product rules ks ts c → IsPairCost ks ts c
  project none [] c h =
      let e : c ≡ 0 = none_to laws rules c h in (0, 0, (IsLeast-no_states laws one).attained.0, (IsLeast-no_states laws two).attained.0, laws.neutral 0 ∙ sym e)
  project none (k ∷ ks) c h = absurd (no_trees laws rules rules_normal k ks c h)
  project (tree f kids rest) [] c h = absurd (no_states rules f kids rest c h)
  project (tree f kids rest) (k ∷ ks) c h =
      let p = open_cost laws rules rules_normal k ks f kids rest c h in
      let s = pairs.sound p.rule p.below in
      let e : IsEdgeRule p.rule s.0.0 s.0.1 = edge_rule p.rule s.0 s.1 in
      let key : pair_at order k ≡ ((rule_at one s.0.0).left, (rule_at two s.0.1).left) = ap (pair_at order) (sym p.left) ∙ e.key in
      let root : e.root ≡ f = one_label e.root f (rule_at rules p.rule).right.label e.root_is p.root in
      let below = project kids (holes (rule_at rules p.rule).right.kids) p.inner p.kids_cost in
      let after = project rest ks p.outer p.rest_cost in
      let w : ℕ = (rule_at one s.0.0).cost in
      let v : ℕ = (rule_at two s.0.1).cost in (
        product (product w below.0) after.0,
        product (product v below.1) after.1,
        close_cost laws one one_normal (pair_at order k).0 (firsts order ks) f kids rest (product (product w below.0) after.0) (record {
          rule = s.0.0;
          below = e.first;
          left = sym (ap (λ x. x.0) key);
          root = e.first_root ∙ ap label root;
          inner = below.0;
          outer = after.0;
          kids_cost = subst (λ qs. IsCost product one qs kids below.0) e.firsts_are below.2;
          rest_cost = after.2;
          costs = refl;
        }),
        close_cost laws two two_normal (pair_at order k).1 (seconds order ks) f kids rest (product (product v below.1) after.1) (record {
          rule = s.0.1;
          below = e.second;
          left = sym (ap (λ x. x.1) key);
          root = e.second_root ∙ ap label root;
          inner = below.1;
          outer = after.1;
          kids_cost = subst (λ qs. IsCost product two qs kids below.1) e.seconds_are below.3;
          rest_cost = after.3;
          costs = refl;
        }),
        mix laws (product w below.0) after.0 (product v below.1) after.1
            ∙ ap (λ x. product x (product after.0 after.1)) (mix laws w below.0 v below.1 ∙ ap (λ x. product x (product below.0 below.1)) (sym e.cost_is) ∙ ap (product (rule_at rules p.rule).cost) below.4)
            ∙ ap (product (product (rule_at rules p.rule).cost p.inner)) after.4
            ∙ p.costs,
      )

  -- two runs that yield the same and cost little enough together are a run
  pair_up :
      (ts : Trees ℕ) (ks : List ℕ) (a b : ℕ) → AllBelow (length order) ks → IsCost product one (firsts order ks) ts a →
      IsCost product two (seconds order ks) ts b → product a b ≤ most → IsCost product rules ks ts (product a b)
  pair_up none [] a b r h k m =
      let e : a ≡ 0 = none_to laws one a h in
      let d : b ≡ 0 = none_to laws two b k in
      subst (IsCost product rules [] none) (sym (ap (λ x. product x b) e ∙ laws.neutral b ∙ d)) (IsLeast-no_states laws rules).attained.0
  pair_up none (q ∷ ks) a b r h k m = absurd (no_trees laws one one_normal (pair_at order q).0 (firsts order ks) a h)
  pair_up (tree f kids rest) [] a b r h k m = absurd (no_states one f kids rest a h)
  pair_up (tree f kids rest) (q ∷ ks) a b r h k m =
      let p = open_cost laws one one_normal (pair_at order q).0 (firsts order ks) f kids rest a h in
      let t = open_cost laws two two_normal (pair_at order q).1 (seconds order ks) f kids rest b k in
      let qs : List ℕ = holes (rule_at one p.rule).right.kids in
      let rs : List ℕ = holes (rule_at two t.rule).right.kids in
      let w : ℕ = (rule_at one p.rule).cost in
      let v : ℕ = (rule_at two t.rule).cost in
      let same : product (product (product w v) (product p.inner t.inner)) (product p.outer t.outer) ≡ product a b =
      ap (λ x. product x (product p.outer t.outer)) (mix laws w v p.inner t.inner)
      ∙ mix laws (product w p.inner) (product v t.inner) p.outer t.outer
      ∙ ap (λ x. product x (product (product v t.inner) t.outer)) p.costs
      ∙ ap (product a) t.costs
      in
      let inner_le : product p.inner t.inner ≤ product (product w v) (product p.inner t.inner) = at_least_right laws (product w v) (product p.inner t.inner) in
      let first_le : product (product w v) (product p.inner t.inner) ≤ product (product (product w v) (product p.inner t.inner)) (product p.outer t.outer) =
      laws.at_least (product (product w v) (product p.inner t.inner)) (product p.outer t.outer)
      in
      let outer_le : product p.outer t.outer ≤ product (product (product w v) (product p.inner t.inner)) (product p.outer t.outer) =
      at_least_right laws (product (product w v) (product p.inner t.inner)) (product p.outer t.outer)
      in
      let rule_le : product w v ≤ product (product w v) (product p.inner t.inner) = laws.at_least (product w v) (product p.inner t.inner) in
      let edge : IsPairEdge product one two (pair_at order q) (p.rule, t.rule) (record { left = pair_at order q; right = over f (zip qs rs); cost = product w v }) =
      record {
        first = p.below;
        second = t.below;
        from = pair_is (pair_at order q) p.left t.left;
        root = f;
        first_root = p.root;
        second_root = t.root;
        rank = sym (count-costs laws one qs kids p.inner p.kids_cost) ∙ count-costs laws two rs kids t.inner t.kids_cost;
        left = refl;
        right = refl;
        costs = refl;
        within = omega arith;
      }
      in
      let c = pairs.complete q (p.rule, t.rule) (record { left = pair_at order q; right = over f (zip qs rs); cost = product w v }) r.0 edge in
      let named : IsPairEdge product one two (pair_at order (rule_at rules c.0).left) (p.rule, t.rule) (named_rule (pair_at order) (rule_at rules c.0)) =
      subst (λ l. IsPairEdge product one two (pair_at order l) (p.rule, t.rule) (named_rule (pair_at order) (rule_at rules c.0))) (sym c.2)
      (subst (IsPairEdge product one two (pair_at order q) (p.rule, t.rule)) (sym c.3) edge)
      in
      let e : IsEdgeRule c.0 p.rule t.rule = edge_rule c.0 (p.rule, t.rule) named in
      let root : e.root ≡ f = one_label e.root f (rule_at one p.rule).right.label e.first_root p.root in
      close_cost laws rules rules_normal q ks f kids rest (product a b) (record {
        rule = c.0;
        below = c.1;
        left = c.2;
        root = e.root_is ∙ ap label root;
        inner = product p.inner t.inner;
        outer = product p.outer t.outer;
        kids_cost = pair_up kids (holes (rule_at rules c.0).right.kids) p.inner t.inner
            (in_range c.0 e.root c.1 e.root_is)
            (subst (λ ss. IsCost product one ss kids p.inner) (sym e.firsts_are) p.kids_cost)
            (subst (λ ss. IsCost product two ss kids t.inner) (sym e.seconds_are) t.kids_cost)
            (omega arith);
        rest_cost = pair_up rest ks p.outer t.outer r.1 p.rest_cost t.rest_cost (omega arith);
        costs = ap (λ x. product (product x (product p.inner t.inner)) (product p.outer t.outer)) e.cost_is ∙ same;
      })
    where
      pair_is : (x : ℕ × ℕ) {l r : ℕ} → l ≡ x.0 → r ≡ x.1 → x ≡ (l, r)
      pair_is x {l} {r} e k = ap (λ a. (a, x.1)) (sym e) ∙ ap (λ b. (l, b)) (sym k)

  -- the series of the pairs' grammar is the product of the series
  pub intersected : (t : Tree ℕ) (v : Option ℕ) → IsSeries product rules t v ↔ IsLeast (Products product (IsCost product one (0 ∷ []) (only t)) (IsCost product two (0 ∷ []) (only t))) v
  intersected t v = (
    λ h. IsLeast-dominated (λ n c m. (n, to n c, omega arith)) (λ n c m. (n, back n c m, omega arith)) h,
    λ h. IsLeast-dominated (λ n c m. (n, back n c m, omega arith)) (λ n c m. (n, to n c, omega arith)) h,
  )
    where
      first_is : firsts order (0 ∷ []) ≡ 0 ∷ []
      first_is = ap (λ x. x.0 ∷ []) pairs.start.1

      second_is : seconds order (0 ∷ []) ≡ 0 ∷ []
      second_is = ap (λ x. x.1 ∷ []) pairs.start.1

      to : (n : ℕ) → IsCost product rules (0 ∷ []) (only t) n → Products product (IsCost product one (0 ∷ []) (only t)) (IsCost product two (0 ∷ []) (only t)) n
      to n c =
          let p = project (only t) (0 ∷ []) n c in (
            p.0,
            p.1,
            subst (λ qs. IsCost product one qs (only t) p.0) first_is p.2,
            subst (λ qs. IsCost product two qs (only t) p.1) second_is p.3,
            p.4,
          )

      back : (n : ℕ) → Products product (IsCost product one (0 ∷ []) (only t)) (IsCost product two (0 ∷ []) (only t)) n → n ≤ most → IsCost product rules (0 ∷ []) (only t) n
      back n p m =
          subst (IsCost product rules (0 ∷ []) (only t)) p.4
          (pair_up (only t) (0 ∷ []) p.0 p.1 (pairs.start.0, tt)
          (subst (λ qs. IsCost product one qs (only t) p.0) (sym first_is) p.2)
          (subst (λ qs. IsCost product two qs (only t) p.1) (sym second_is) p.3)
          (omega (arith, p.4)))

-- from lists of edges by their origins

sound_from : (product : ℕ → ℕ → ℕ) (one two : List (Rule ℕ)) (order : List (ℕ × ℕ)) (rules : List (Rule ℕ)) → IsPairGrammar product one two order rules → IsSound product one two order rules
sound_from product one two order rules found =
    let spare : Rule (ℕ × ℕ) = named_rule (pair_at order) no_rule in
    record {
      start = (found.long, found.start);
      in_range = λ j h. (found.in_range j h).1;
      sound = λ j h.
          let a = along_at (GivesEdge product one two order) found.edges.origins (map (named_rule (pair_at order)) rules) j spare found.edges.given (omega (arith, length_map (named_rule (pair_at order)) rules)) in
          let g : GivesEdge product one two order a.0 (named_rule (pair_at order) (rule_at rules j)) = subst (GivesEdge product one two order a.0) (get_map (named_rule (pair_at order)) rules j spare no_rule h) a.1 in
          (a.0.1, subst (λ k. IsPairEdge product one two k a.0.1 (named_rule (pair_at order) (rule_at rules j))) (sym g.1.left) g.1);
      complete = λ k o e h edge.
          let has : Has found.edges.origins (k, o) = found.edges.whole (k, o) e (h, edge) in
          let a = along_has (GivesEdge product one two order) found.edges.origins (map (named_rule (pair_at order)) rules) (k, o) spare found.edges.given has in
          let below : a.0 < length rules = omega (arith, a.1, length_map (named_rule (pair_at order)) rules) in
          let is : IsPairEdge product one two (pair_at order k) o (named_rule (pair_at order) (rule_at rules a.0)) =
          (subst (GivesEdge product one two order (k, o)) (get_map (named_rule (pair_at order)) rules a.0 spare no_rule below) a.2).1
          in (
            a.0,
            below,
            distinct_at order (rule_at rules a.0).left k (0, 0) found.once (found.in_range a.0 below).0 h is.left,
            same_edge product one two (pair_at order k) o (named_rule (pair_at order) (rule_at rules a.0)) e is edge,
          );
    }

-- the series of the grammar of the pairs is the product
pub pairs_mean :
    {levelled weighted : Bool} {product : ℕ → ℕ → ℕ} (laws : ProductLaws levelled weighted product) (one two : List (Rule ℕ)) → AreNormal one → AreNormal two →
    (order : List (ℕ × ℕ)) (rules : List (Rule ℕ)) → IsPairGrammar product one two order rules → (t : Tree ℕ) (a b v : Option ℕ) → IsSeries product one t a →
    IsSeries product two t b → IsSeries product rules t v ↔ v ≡ times product a b
pairs_mean {product = product} laws one two n m order rules found t a b v x y =
    let both = intersected laws one two n m order rules (sound_from product one two order rules found) t in
    let least : IsLeast (Products product (IsCost product one (0 ∷ []) (only t)) (IsCost product two (0 ∷ []) (only t))) (times product a b) = IsLeast-products laws x y in
    (λ h. IsLeast-unique ((both v).0 h) least, λ e. (both v).1 (subst (IsLeast (Products product (IsCost product one (0 ∷ []) (only t)) (IsCost product two (0 ∷ []) (only t)))) (sym e) least))
