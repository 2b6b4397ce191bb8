-- Runs of the composite transducer, and triples of a middle tree and two runs.
use Rattle.std.specs.Prelude.{◌≡◌, ℕ, ◌<◌, ◌≤◌, ◌↔◌, List, [], ◌∷◌, length, map, Bool, Option, None, Some, refl}
use Rattle.std.proofs.Common.{arith, ap, sym, ◌∙◌, subst}
use Rattle.tib_lex.specs.Lists.{Each}
use Rattle.tib_tree.specs.Trees.{Tree, Trees, none, tree, join, only, relabel}
use Rattle.tib_grammar.specs.Sides.{holes_of, fill, symbol_map}
use Rattle.tib_grammar.specs.Range.{AllBelow}
use Rattle.tib_cost.specs.Semiring.{ProductLaws, most}
use Rattle.tib_cost.specs.Least.{IsLeast, Products, AtMost, times}
use Rattle.tib_cost.proofs.Least.{IsLeast-dominated, IsLeast-products, at_least_right}
use Rattle.tib_cost.proofs.Times.{product-zero}
use Rattle.tib_key_edges.specs.Ends.{key_at}
use Rattle.tib_transducer.specs.Rules.{transducer_rule, states_in, variables_in}
use Rattle.tib_transducer.specs.Run.{tree_at, pick, AreTransducerRuns, AreBound, Reads, outputs, transducer_cost}
use Rattle.tib_transducer.specs.Series.{IsTransducerCost, IsTransducerSeries}
use Rattle.tib_key_edges.specs.Named.{named_transducer_rule}
use Rattle.tib_key_edges.specs.Composing.{Moves}
use Rattle.tib_key_edges.specs.Translations.{AreTranslations, translated, choice_cost}
use Rattle.tib_key_edges.specs.Composing.{IsComposeEdge, HasTriple, AreComposed}
use Rattle.tib_transducer.specs.declared.Pair.{Pair}
use Rattle.tib_transducer.specs.declared.TransducerRule.{TransducerRule}
use Rattle.tib_transducer.specs.NamedPairs.{named_pair}
use Rattle.tib_key_edges.proofs.Filling.{AllOf, Filled, one_of, collect, spread, count-filled, filled_named, filled_unnamed, filled_to}
use Rattle.tib_key_edges.proofs.Moving.{target, targets, targets_below, all_mapped, one_output, moves_over, moves_all}
use Rattle.tib_key_edges.proofs.Exact.{IsExact, exact}
use Rattle.tib_key_edges.proofs.Translating.{Between, count-translated, translations_read, translations_chosen}

-- c is the cost of a pair's run: the transducer outputs u at its variable's tree
abbrev pub PairMoves : (ℕ → ℕ → ℕ) → List (TransducerRule ℕ) → Trees ℕ → Pair ℕ → Tree ℕ → ℕ → Type 0
PairMoves product rules args x u c = IsTransducerCost product rules (x.state ∷ []) (tree_at args x.variable) (only u) c

-- a middle tree, and runs of the two transducers from the states of a key
abbrev pub HasMiddle : (ℕ → ℕ → ℕ) → List (TransducerRule ℕ) → List (TransducerRule ℕ) → ℕ × ℕ → Trees ℕ → Tree ℕ → ℕ → Type 0
HasMiddle product one two key t v c =
    (u : Tree ℕ) × Products product (IsTransducerCost product one (key.0 ∷ []) t (only u)) (IsTransducerCost product two (key.1 ∷ []) (only u) (only v)) c

-- the same from a position of the order
abbrev pub IsParted : (ℕ → ℕ → ℕ) → List (TransducerRule ℕ) → List (TransducerRule ℕ) → List (ℕ × ℕ) → ℕ × Trees ℕ → Tree ℕ → ℕ → Type 0
IsParted product one two order x v c = HasMiddle product one two (key_at order x.0) x.1 v c

-- whatever run of the second transducer reads u, with it at a cost of at most the greatest there is
-- a run of the composite transducer
abbrev pub IsPaired : (ℕ → ℕ → ℕ) → List (TransducerRule ℕ) → List (ℕ × ℕ) → List (TransducerRule ℕ) → ℕ × Trees ℕ → Tree ℕ → ℕ → Type 0
IsPaired product two order rules x u a =
    (q k : ℕ) (v : Tree ℕ) (b : ℕ) → k < length order → key_at order k ≡ (x.0, q) → IsTransducerCost product two (q ∷ []) (only u) (only v) b → product a b ≤ most →
    IsTransducerCost product rules (k ∷ []) x.1 (only v) (product a b)

each_below : (n : ℕ) (xs : List (Pair ℕ)) → AllBelow n (map (λ x. x.state) xs) → Each (λ x. x.state < n) xs
each_below n [] h = tt
each_below n (x ∷ xs) h = (h.0, each_below n xs h.1)

module _ {levelled weighted : Bool} {product : ℕ → ℕ → ℕ} (laws : ProductLaws levelled weighted product) (R : ℕ × Trees ℕ → Tree ℕ → ℕ → Type 0) where
  -- what holds for the runs below a rule, as what fills the rule's right-hand side
  of_side :
      (rules : List (TransducerRule ℕ)) (n : ℕ) (runs args : Trees ℕ) (u : Tree ℕ) → AreTransducerRuns rules (states_in (transducer_rule rules n).right) runs →
      Reads rules runs (pick args (variables_in (transducer_rule rules n).right)) → fill (only (transducer_rule rules n).right) (outputs rules runs) ≡ only u →
      AllOf product R (targets (states_in (transducer_rule rules n).right) (pick args (variables_in (transducer_rule rules n).right))) (outputs rules runs) (transducer_cost product rules runs) →
      Filled product (λ x. R (target args x)) (only (transducer_rule rules n).right) (only u) (transducer_cost product rules runs)
  of_side rules n runs args u r d e all =
      subst (λ z. Filled product (λ x. R (target args x)) (only (transducer_rule rules n).right) z (transducer_cost product rules runs)) e
      (spread laws (λ x. R (target args x)) (only (transducer_rule rules n).right) (outputs rules runs) (transducer_cost product rules runs)
      (all_mapped laws R (target args) (holes_of (transducer_rule rules n).right) (outputs rules runs) (transducer_cost product rules runs)
      (subst (λ xs. AllOf product R xs (outputs rules runs) (transducer_cost product rules runs)) (targets_below laws rules n runs args r d) all)))

  -- one run and those after it
  more_of :
      (x : ℕ × Trees ℕ) (xs : List (ℕ × Trees ℕ)) (u : Tree ℕ) (us vs : Trees ℕ) (a b : ℕ) → us ≡ only u → R x u a → AllOf product R xs vs b → AllOf product R (x ∷ xs) (join us vs) (product a b)
  more_of x xs u us vs a b e one all = subst (λ z. AllOf product R (x ∷ xs) (join z vs) (product a b)) (sym e) (a, b, one, all, refl)

  -- what holds for one run
  only_one : (x : ℕ × Trees ℕ) (u : Tree ℕ) (us : Trees ℕ) (a c : ℕ) → us ≡ only u → a ≡ c → AllOf product R (x ∷ []) us a → R x u c
  only_one x u us a c e d all =
      let h : AllOf product R (x ∷ []) (only u) c = subst (λ z. AllOf product R (x ∷ []) z c) e (subst (AllOf product R (x ∷ []) us) d all) in
      let same : h.0 ≡ c = sym (product-zero laws h.0) ∙ ap (product h.0) (sym h.3) ∙ h.4 in
      subst (R x u) same h.2

module _
    {levelled weighted : Bool} {product : ℕ → ℕ → ℕ} (laws : ProductLaws levelled weighted product)
    (one two : List (TransducerRule ℕ)) (order : List (ℕ × ℕ)) (rules : List (TransducerRule ℕ)) (composed : AreComposed product one two order rules) where
  are_edges : IsExact product one two order rules
  are_edges = exact product one two order rules composed.composite

  -- a rule of the composite transducer over runs that are split
  parted :
      (j k f : ℕ) (kids args : Trees ℕ) (v : Tree ℕ) (c : ℕ) → j < length rules → (transducer_rule rules j).state ≡ k → AreBound (holes_of (transducer_rule rules j).left) args → fill (only (transducer_rule rules j).left) args ≡ tree f kids none →
      Filled product (λ x. IsParted product one two order (target args x)) (only (transducer_rule rules j).right) (only v) c →
      IsParted product one two order (k, tree f kids none) v (product (transducer_rule rules j).cost c)
  parted j k f kids args v c h s bound_args fits filled =
      let edge = are_edges.sound j h in
      let named = filled_named laws (Between product two (PairMoves product one args)) (named_pair (key_at order)) (only (transducer_rule rules j).right) (only v) c filled in
      subst (λ q. IsParted product one two order (q, tree f kids none) v (product (transducer_rule rules j).cost c)) s
      (of_edge edge.0.0 edge.0.1 edge.1
      (subst (λ z. Filled product (Between product two (PairMoves product one args)) z (only v) c) edge.1.right named))
    where
      from : ℕ × ℕ
      from = key_at order (transducer_rule rules j).state

      of_edge :
          (n : ℕ) (choice : Trees (Option ℕ)) → IsComposeEdge product one two from (n, choice) (named_transducer_rule (key_at order) (transducer_rule rules j)) →
          Filled product (Between product two (PairMoves product one args)) (translated two (from.1 ∷ []) (only (transducer_rule one n).right) choice) (only v) c →
          HasMiddle product one two from (tree f kids none) v (product (transducer_rule rules j).cost c)
      of_edge n choice e over =
          let w : ℕ = (transducer_rule one n).cost in
          let read = translations_read laws two composed.two_shaped composed.two_plain (PairMoves product one args) choice (from.1 ∷ []) (only (transducer_rule one n).right) (only v) c e.choice over in
          let parts = collect laws (PairMoves product one args) (only (transducer_rule one n).right) read.trees read.first read.filled in
          let moved = moves_all laws one args (holes_of (transducer_rule one n).right) parts.args read.first parts.all in
          let u = one_of read.trees (count-filled laws (PairMoves product one args) (only (transducer_rule one n).right) read.trees read.first read.filled) in
          let is_u : fill (only (transducer_rule one n).right) parts.args ≡ only u.0 = parts.filled ∙ u.1 in
          let first : IsTransducerCost product one (from.0 ∷ []) (tree f kids none) (fill (only (transducer_rule one n).right) parts.args) (product w read.first) =
          moves_over laws one n from.0 f kids args parts.args read.first e.below e.from
          (subst (λ l. AreBound (holes_of l) args) e.left bound_args)
          (subst (λ l. fill (only l) args ≡ tree f kids none) e.left fits)
          moved
          in
          let costs : product (product w read.first) read.second ≡ product (transducer_rule rules j).cost c =
          laws.regroups w read.first read.second
          ∙ ap (product w) read.costs
          ∙ sym (laws.regroups w (choice_cost product two choice) c)
          ∙ ap (λ z. product z c) (sym e.costs)
          in (
            u.0,
            (
              product w read.first,
              read.second,
              subst (λ z. IsTransducerCost product one (from.0 ∷ []) (tree f kids none) z (product w read.first)) is_u first,
              subst (λ z. IsTransducerCost product two (from.1 ∷ []) z (only v) read.second) u.1 read.moved,
              costs,
            ),
          )

  project :
      (runs : Trees ℕ) (ks : List ℕ) (ts : Trees ℕ) → AreTransducerRuns rules ks runs → Reads rules runs ts →
      AllOf product (IsParted product one two order) (targets ks ts) (outputs rules runs) (transducer_cost product rules runs)
  project none [] ts r d = refl
  project none (k ∷ ks) ts r d = absurd r
  project (tree j runs rest) [] ts r d = absurd r
  project (tree j runs rest) (k ∷ ks) none r d = absurd d
  project (tree j runs rest) (k ∷ ks) (tree f kids more) r d =
      let args : Trees ℕ = d.0.args in
      let below = project runs (states_in (transducer_rule rules j).right) (pick args (variables_in (transducer_rule rules j).right)) r.2 d.0.below in
      let v = one_output laws rules j runs r.2 in
      let is = parted j k f kids args v.0 (transducer_cost product rules runs) r.0 r.1 d.0.bound d.0.filled
      (of_side laws (IsParted product one two order) rules j runs args v.0 r.2 d.0.below v.1 below)
      in
      more_of laws (IsParted product one two order) (k, tree f kids none) (targets ks more) v.0 (fill (only (transducer_rule rules j).right) (outputs rules runs)) (outputs rules rest) (product (transducer_rule rules j).cost (transducer_cost product rules runs)) (transducer_cost product rules rest) v.1 is
      (project rest ks more r.3 d.1)

  -- a rule of the first transducer over runs that are paired
  paired :
      (n p f : ℕ) (kids args : Trees ℕ) (u : Tree ℕ) (c : ℕ) → n < length one → (transducer_rule one n).state ≡ p → AreBound (holes_of (transducer_rule one n).left) args → fill (only (transducer_rule one n).left) args ≡ tree f kids none →
      Filled product (λ x. IsPaired product two order rules (target args x)) (only (transducer_rule one n).right) (only u) c →
      IsPaired product two order rules (p, tree f kids none) u (product (transducer_rule one n).cost c)
  paired n p f kids args u c h s bound_args fits filled q k v b hk key run bound =
      let chosen =
      translations_chosen laws two composed.two_shaped composed.two_plain (λ x. IsPaired product two order rules (target args x)) run.runs (q ∷ []) (only (transducer_rule one n).right) (only u) c run.are_runs run.reads
      filled
      in
      of_choice chosen.choice chosen.above chosen.are
      (subst (λ z. Filled product (Between product two (λ x. IsPaired product two order rules (target args x))) (translated two (q ∷ []) (only (transducer_rule one n).right) chosen.choice) z chosen.above) run.output chosen.filled)
      (chosen.costs ∙ ap (product c) run.costs)
    where
      w : ℕ
      w = (transducer_rule one n).cost

      -- a rule of the composite transducer over the runs of what fills it
      of_rule :
          (j d : ℕ) → j < length rules → (transducer_rule rules j).state ≡ k → (transducer_rule one n).left ≡ (transducer_rule rules j).left →
          Filled product (Between product two (λ x. IsPaired product two order rules (target args x))) (relabel (symbol_map (named_pair (key_at order))) (only (transducer_rule rules j).right)) (only v) d →
          product (transducer_rule rules j).cost d ≡ product (product w c) b →
          IsTransducerCost product rules (k ∷ []) (tree f kids none) (only v) (product (product w c) b)
      of_rule j d below state_is left_is named total =
          let few : d ≤ most = omega (arith, at_least_right laws (transducer_rule rules j).cost d, total, bound) in
          let parts =
          filled_unnamed laws (Between product two (λ x. IsPaired product two order rules (target args x))) (named_pair (key_at order)) (only (transducer_rule rules j).right) (only v) d named
          in
          let all =
          filled_to laws (λ x. Between product two (λ y. IsPaired product two order rules (target args y)) (named_pair (key_at order) x)) (PairMoves product rules args) (λ x. x.state < length order) most
          (λ x z a low m few. subst (PairMoves product rules args x z) m.1.4 (m.1.2 (key_at order x.state).1 x.state z m.1.1 low refl m.1.3 (omega (arith, m.1.4, few))))
          (only (transducer_rule rules j).right) (only v) d
          (each_below (length order) (holes_of (transducer_rule rules j).right) (composed.composite.in_range j below).1)
          parts few
          in
          let of_rules = collect laws (PairMoves product rules args) (only (transducer_rule rules j).right) (only v) d all in
          let moved : IsTransducerCost product rules (k ∷ []) (tree f kids none) (fill (only (transducer_rule rules j).right) of_rules.args) (product (transducer_rule rules j).cost d) =
          moves_over laws rules j k f kids args of_rules.args d below state_is
          (subst (λ l. AreBound (holes_of l) args) left_is bound_args)
          (subst (λ l. fill (only l) args ≡ tree f kids none) left_is fits)
          (moves_all laws rules args (holes_of (transducer_rule rules j).right) of_rules.args d of_rules.all)
          in
          subst (IsTransducerCost product rules (k ∷ []) (tree f kids none) (only v)) total
          (subst (λ z. IsTransducerCost product rules (k ∷ []) (tree f kids none) z (product (transducer_rule rules j).cost d)) of_rules.filled moved)

      -- the edge of a choice, which is such a rule
      of_choice :
          (choice : Trees (Option ℕ)) (d : ℕ) → AreTranslations two (q ∷ []) (only (transducer_rule one n).right) choice →
          Filled product (Between product two (λ x. IsPaired product two order rules (target args x))) (translated two (q ∷ []) (only (transducer_rule one n).right) choice) (only v) d →
          product (choice_cost product two choice) d ≡ product c b →
          IsTransducerCost product rules (k ∷ []) (tree f kids none) (only v) (product (product w c) b)
      of_choice choice d are over costs =
          let t = one_of (translated two (q ∷ []) (only (transducer_rule one n).right) choice) (count-translated two choice (q ∷ []) (only (transducer_rule one n).right) are) in
          let e : TransducerRule (ℕ × ℕ) = record { state = key_at order k; left = (transducer_rule one n).left; right = t.0; cost = product w (choice_cost product two choice) } in
          let total : product (product w (choice_cost product two choice)) d ≡ product (product w c) b =
          laws.regroups w (choice_cost product two choice) d ∙ ap (product w) costs ∙ sym (laws.regroups w c b)
          in
          let second_is : q ≡ (key_at order k).1 = sym (ap (λ x. x.1) key) in
          let edge : IsComposeEdge product one two (key_at order k) (n, choice) e = record {
            below = h;
            from = s ∙ sym (ap (λ x. x.0) key);
            choice = subst (λ z. AreTranslations two (z ∷ []) (only (transducer_rule one n).right) choice) second_is are;
            state = refl;
            left = refl;
            right = sym t.1 ∙ ap (λ z. translated two (z ∷ []) (only (transducer_rule one n).right) choice) second_is;
            costs = refl;
            within = omega (arith, laws.at_least (product w (choice_cost product two choice)) d, total, bound);
          }
          in
          let j = are_edges.complete k (n, choice) e hk edge in
          let right_is : translated two (q ∷ []) (only (transducer_rule one n).right) choice ≡ relabel (symbol_map (named_pair (key_at order))) (only (transducer_rule rules j.0).right) =
          t.1 ∙ sym (ap (λ r. only r.right) j.3)
          in
          of_rule j.0 d j.1 j.2 (sym (ap (λ r. r.left) j.3))
          (subst (λ z. Filled product (Between product two (λ x. IsPaired product two order rules (target args x))) z (only v) d) right_is over)
          (ap (λ r. product r.cost d) j.3 ∙ total)

  pair_up :
      (runs : Trees ℕ) (ps : List ℕ) (ts : Trees ℕ) → AreTransducerRuns one ps runs → Reads one runs ts →
      AllOf product (IsPaired product two order rules) (targets ps ts) (outputs one runs) (transducer_cost product one runs)
  pair_up none [] ts r d = refl
  pair_up none (p ∷ ps) ts r d = absurd r
  pair_up (tree n runs rest) [] ts r d = absurd r
  pair_up (tree n runs rest) (p ∷ ps) none r d = absurd d
  pair_up (tree n runs rest) (p ∷ ps) (tree f kids more) r d =
      let args : Trees ℕ = d.0.args in
      let below = pair_up runs (states_in (transducer_rule one n).right) (pick args (variables_in (transducer_rule one n).right)) r.2 d.0.below in
      let u = one_output laws one n runs r.2 in
      let is = paired n p f kids args u.0 (transducer_cost product one runs) r.0 r.1 d.0.bound d.0.filled
      (of_side laws (IsPaired product two order rules) one n runs args u.0 r.2 d.0.below u.1 below)
      in
      more_of laws (IsPaired product two order rules) (p, tree f kids none) (targets ps more) u.0 (fill (only (transducer_rule one n).right) (outputs one runs)) (outputs one rest) (product (transducer_rule one n).cost (transducer_cost product one runs)) (transducer_cost product one rest) u.1 is
      (pair_up rest ps more r.3 d.1)

  -- each run of the composite transducer has a triple
  pub runs_have_triples : (t v : Tree ℕ) (c : ℕ) → Moves product rules t v c → HasTriple product one two t v c
  runs_have_triples t v c m =
      subst (λ key. HasMiddle product one two key (only t) v c) composed.composite.start
      (only_one laws (IsParted product one two order) (0, only t) v (outputs rules m.runs) (transducer_cost product rules m.runs) c m.output m.costs
      (project m.runs (0 ∷ []) (only t) m.are_runs m.reads))

  -- each triple within the greatest cost has a run
  pub triples_have_runs : (t v : Tree ℕ) (c : ℕ) → HasTriple product one two t v c → c ≤ most → Moves product rules t v c
  triples_have_runs t v c h bound =
      let m : Moves product one t h.0 h.1.0 = h.1.2 in
      let pair : IsPaired product two order rules (0, only t) h.0 h.1.0 =
      only_one laws (IsPaired product two order rules) (0, only t) h.0 (outputs one m.runs) (transducer_cost product one m.runs) h.1.0 m.output m.costs
      (pair_up m.runs (0 ∷ []) (only t) m.are_runs m.reads)
      in
      let costs : product h.1.0 h.1.1 ≡ c = h.1.4 in
      subst (Moves product rules t v) costs (pair 0 0 v h.1.1 composed.composite.long composed.composite.start h.1.3 (omega (arith, costs, bound)))

  -- the series is the least cost of a triple
  pub is_composed : (t v : Tree ℕ) (w : Option ℕ) → IsTransducerSeries product rules t v w ↔ IsLeast (HasTriple product one two t v) w
  is_composed t v w = (
    λ h. IsLeast-dominated (λ n c m. (n, runs_have_triples t v n c, omega arith)) (λ n c m. (n, triples_have_runs t v n c m, omega arith)) h,
    λ h. IsLeast-dominated (λ n c m. (n, triples_have_runs t v n c m, omega arith)) (λ n c m. (n, runs_have_triples t v n c, omega arith)) h,
  )

  pub composes_series :
      (t v : Tree ℕ) (first second : Tree ℕ → Option ℕ) → ((u : Tree ℕ) → IsTransducerSeries product one t u (first u)) → ((u : Tree ℕ) → IsTransducerSeries product two u v (second u)) →
      (w : Option ℕ) → IsTransducerSeries product rules t v w ↔ IsLeast (λ n. (u : Tree ℕ) × (times product (first u) (second u) ≡ Some n)) w
  composes_series t v first second is_first is_second w = (
    λ h. IsLeast-dominated (λ n c m. least_at n (runs_have_triples t v n c) m) (λ n s m. (n, triples_have_runs t v n (at_least_one n s) m, omega arith)) h,
    λ h. IsLeast-dominated (λ n s m. (n, triples_have_runs t v n (at_least_one n s) m, omega arith)) (λ n c m. least_at n (runs_have_triples t v n c) m) h,
  )
    where
      both : (u : Tree ℕ) → IsLeast (Products product (Moves product one t u) (Moves product two u v)) (times product (first u) (second u))
      both u = IsLeast-products laws (is_first u) (is_second u)

      told : (x : Option ℕ) (n : ℕ) → AtMost x n → (m : ℕ) × (x ≡ Some m) × (m ≤ n)
      told None n a = absurd a
      told (Some m) n a = (m, refl, a)

      least_at : (n : ℕ) → HasTriple product one two t v n → n ≤ most → (m : ℕ) × ((u : Tree ℕ) × (times product (first u) (second u) ≡ Some m)) × (m ≤ n)
      least_at n c b =
          let x = told (times product (first c.0) (second c.0)) n ((both c.0).lower n c.1 b) in
          (x.0, (c.0, x.1), x.2)

      attained : {S : ℕ → Type 0} (x : Option ℕ) (n : ℕ) → IsLeast S x → x ≡ Some n → S n
      attained {S} None n l e = absurd (cc)
      attained {S} (Some m) n l e = let same : m ≡ n = cc in subst S same l.attained.0

      at_least_one : (n : ℕ) → (u : Tree ℕ) × (times product (first u) (second u) ≡ Some n) → HasTriple product one two t v n
      at_least_one n s = (s.0, attained (times product (first s.0) (second s.0)) n (both s.0) s.1)
