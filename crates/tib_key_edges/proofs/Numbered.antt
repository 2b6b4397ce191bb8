-- New numbers of states keep the series of a transducer.
use Rattle.std.specs.Prelude.{◌≡◌, ◌↔◌, ℕ, ◌<◌, List, [], ◌∷◌, length, map, Option, refl}
use Rattle.std.proofs.Common.{arith, ap, sym, ◌∙◌, subst, get_or}
use Rattle.tib_tree.specs.Trees.{Tree, Trees, none, tree, join, only}
use Rattle.tib_grammar.specs.Sides.{holes_of, fill, side_map}
use Rattle.tib_grammar.specs.Range.{AllBelow}
use Rattle.tib_grammar.proofs.Sides.{holes-relabel, fill-relabel}
use Rattle.tib_cost.proofs.Least.{IsLeast-same}
use Rattle.tib_transducer.specs.Rules.{transducer_rule, no_rule, states_in, variables_in}
use Rattle.tib_transducer.specs.Run.{pick, AreTransducerRuns, AreBound, Reads, outputs, transducer_cost}
use Rattle.tib_transducer.specs.Series.{IsTransducerCost}
use Rattle.tib_key_edges.specs.Named.{named_transducer_rule}
use Rattle.tib_transducer.specs.Series.{IsTransducerSeriesAt}
use Rattle.tib_key_edges.specs.Numbering.{AreRenumbered}
use Rattle.tib_transducer.specs.declared.Pair.{Pair}
use Rattle.tib_transducer.specs.declared.TransducerRule.{TransducerRule}
use Rattle.std.proofs.lemmas.List.{length-map, get_or-map}
use Rattle.tib_lex.proofs.Places.{distinct_at}
use Rattle.tib_transducer.specs.NamedPairs.{named_pair}

states_named : (g : ℕ → ℕ) (xs : List (Pair ℕ)) → map (λ x. x.state) (map (named_pair g) xs) ≡ map g (map (λ x. x.state) xs)
states_named g [] = refl
states_named g (x ∷ xs) = ap (λ z. g x.state ∷ z) (states_named g xs)

variables_named : (g : ℕ → ℕ) (xs : List (Pair ℕ)) → map (λ x. x.variable) (map (named_pair g) xs) ≡ map (λ x. x.variable) xs
variables_named g [] = refl
variables_named g (x ∷ xs) = ap (λ z. x.variable ∷ z) (variables_named g xs)

module _ (product : ℕ → ℕ → ℕ) (states : List ℕ) (numbered rules : List (TransducerRule ℕ)) (are : AreRenumbered states numbered rules) where
  -- a rule by number and by name
  record IsSameRule (n : ℕ) : Type 0 where
    state_is : (transducer_rule rules n).state ≡ get_or states (transducer_rule numbered n).state 0
    left_is : (transducer_rule numbered n).left ≡ (transducer_rule rules n).left
    cost_is : (transducer_rule rules n).cost ≡ (transducer_rule numbered n).cost
    states_are : states_in (transducer_rule rules n).right ≡ map (λ i. get_or states i 0) (states_in (transducer_rule numbered n).right)
    variables_are : variables_in (transducer_rule rules n).right ≡ variables_in (transducer_rule numbered n).right
    fills : (us : Trees ℕ) → fill (only (transducer_rule rules n).right) us ≡ fill (only (transducer_rule numbered n).right) us

  same_rule : (n : ℕ) → n < length numbered → IsSameRule n
  same_rule n h =
      let e : transducer_rule rules n ≡ named_transducer_rule (λ i. get_or states i 0) (transducer_rule numbered n) =
      ap (λ l. get_or l n no_rule) (sym are.named) ∙ get_or-map (named_transducer_rule (λ i. get_or states i 0)) numbered n no_rule no_rule h
      in
      let right_is : (transducer_rule rules n).right ≡ side_map (named_pair (λ i. get_or states i 0)) (transducer_rule numbered n).right = ap (λ r. r.right) e in
      let holes_are : holes_of (transducer_rule rules n).right ≡ map (named_pair (λ i. get_or states i 0)) (holes_of (transducer_rule numbered n).right) =
      ap (λ s. holes_of s) right_is ∙ holes-relabel (named_pair (λ i. get_or states i 0)) (only (transducer_rule numbered n).right)
      in
      record {
        state_is = ap (λ r. r.state) e;
        left_is = sym (ap (λ r. r.left) e);
        cost_is = ap (λ r. r.cost) e;
        states_are = ap (λ xs. map (λ x. x.state) xs) holes_are ∙ states_named (λ i. get_or states i 0) (holes_of (transducer_rule numbered n).right);
        variables_are = ap (λ xs. map (λ x. x.variable) xs) holes_are ∙ variables_named (λ i. get_or states i 0) (holes_of (transducer_rule numbered n).right);
        fills = λ us. ap (λ s. fill (only s) us) right_is ∙ fill-relabel (named_pair (λ i. get_or states i 0)) (only (transducer_rule numbered n).right) us;
      }

  long : length rules ≡ length numbered
  long = ap length (sym are.named) ∙ length-map numbered (named_transducer_rule (λ i. get_or states i 0))

  -- runs by number and by name have the same output and cost
  same : (runs : Trees ℕ) (ps : List ℕ) → AreTransducerRuns numbered ps runs → (outputs rules runs ≡ outputs numbered runs) × (transducer_cost product rules runs ≡ transducer_cost product numbered runs)
  same none ps r = (refl, refl)
  same (tree n runs rest) [] r = absurd r
  same (tree n runs rest) (p ∷ ps) r =
      let k = same_rule n r.0 in
      let below = same runs (states_in (transducer_rule numbered n).right) r.2 in
      let beside = same rest ps r.3 in (
        ap (λ z. join z (outputs rules rest)) (k.fills (outputs rules runs) ∙ ap (fill (only (transducer_rule numbered n).right)) below.0)
            ∙ ap (join (fill (only (transducer_rule numbered n).right) (outputs numbered runs))) beside.0,
        ap (λ z. product (product z (transducer_cost product rules runs)) (transducer_cost product rules rest)) k.cost_is
            ∙ ap (λ z. product (product (transducer_rule numbered n).cost z) (transducer_cost product rules rest)) below.1
            ∙ ap (product (product (transducer_rule numbered n).cost (transducer_cost product numbered runs))) beside.1,
      )

  to_named : (runs : Trees ℕ) (ps : List ℕ) → AreTransducerRuns numbered ps runs → AreTransducerRuns rules (map (λ i. get_or states i 0) ps) runs
  to_named none [] r = tt
  to_named none (p ∷ ps) r = absurd r
  to_named (tree n runs rest) [] r = absurd r
  to_named (tree n runs rest) (p ∷ ps) r =
      let k = same_rule n r.0 in (
        omega (arith, r.0, long),
        k.state_is ∙ ap (λ i. get_or states i 0) r.1,
        subst (λ qs. AreTransducerRuns rules qs runs) (sym k.states_are) (to_named runs (states_in (transducer_rule numbered n).right) r.2),
        to_named rest ps r.3,
      )

  to_numbered : (runs : Trees ℕ) (ps : List ℕ) → AllBelow (length states) ps → AreTransducerRuns rules (map (λ i. get_or states i 0) ps) runs → AreTransducerRuns numbered ps runs
  to_numbered none [] b r = tt
  to_numbered none (p ∷ ps) b r = absurd r
  to_numbered (tree n runs rest) [] b r = absurd r
  to_numbered (tree n runs rest) (p ∷ ps) b r =
      let low : n < length numbered = omega (arith, r.0, long) in
      let k = same_rule n low in (
        low,
        distinct_at states (transducer_rule numbered n).state p 0 are.once (are.in_range n low).0 b.0 (sym k.state_is ∙ r.1),
        to_numbered runs (states_in (transducer_rule numbered n).right) (are.in_range n low).1 (subst (λ qs. AreTransducerRuns rules qs runs) k.states_are r.2),
        to_numbered rest ps b.1 r.3,
      )

  read_named : (runs ts : Trees ℕ) (ps : List ℕ) → AreTransducerRuns numbered ps runs → Reads numbered runs ts → Reads rules runs ts
  read_named none none ps r d = tt
  read_named none (tree f kids more) ps r d = absurd d
  read_named (tree n runs rest) none ps r d = absurd d
  read_named (tree n runs rest) (tree f kids more) [] r d = absurd r
  read_named (tree n runs rest) (tree f kids more) (p ∷ ps) r d =
      let k = same_rule n r.0 in (
        record {
          args = d.0.args;
          bound = subst (λ l. AreBound (holes_of l) d.0.args) k.left_is d.0.bound;
          filled = subst (λ l. fill (only l) d.0.args ≡ tree f kids none) k.left_is d.0.filled;
          below = subst (λ is. Reads rules runs (pick d.0.args is)) (sym k.variables_are) (read_named runs (pick d.0.args (variables_in (transducer_rule numbered n).right)) (states_in (transducer_rule numbered n).right) r.2 d.0.below);
        },
        read_named rest more ps r.3 d.1,
      )

  read_numbered : (runs ts : Trees ℕ) (ps : List ℕ) → AreTransducerRuns numbered ps runs → Reads rules runs ts → Reads numbered runs ts
  read_numbered none none ps r d = tt
  read_numbered none (tree f kids more) ps r d = absurd d
  read_numbered (tree n runs rest) none ps r d = absurd d
  read_numbered (tree n runs rest) (tree f kids more) [] r d = absurd r
  read_numbered (tree n runs rest) (tree f kids more) (p ∷ ps) r d =
      let k = same_rule n r.0 in (
        record {
          args = d.0.args;
          bound = subst (λ l. AreBound (holes_of l) d.0.args) (sym k.left_is) d.0.bound;
          filled = subst (λ l. fill (only l) d.0.args ≡ tree f kids none) (sym k.left_is) d.0.filled;
          below = read_numbered runs (pick d.0.args (variables_in (transducer_rule numbered n).right)) (states_in (transducer_rule numbered n).right) r.2
              (subst (λ is. Reads rules runs (pick d.0.args is)) k.variables_are d.0.below);
        },
        read_numbered rest more ps r.3 d.1,
      )

  cost_named : (ps : List ℕ) (ts us : Trees ℕ) (c : ℕ) → IsTransducerCost product numbered ps ts us c → IsTransducerCost product rules (map (λ i. get_or states i 0) ps) ts us c
  cost_named ps ts us c h =
      let s = same h.runs ps h.are_runs in
      record { runs = h.runs; are_runs = to_named h.runs ps h.are_runs; reads = read_named h.runs ts ps h.are_runs h.reads; output = s.0 ∙ h.output; costs = s.1 ∙ h.costs }

  cost_numbered : (ps : List ℕ) (ts us : Trees ℕ) (c : ℕ) → AllBelow (length states) ps → IsTransducerCost product rules (map (λ i. get_or states i 0) ps) ts us c → IsTransducerCost product numbered ps ts us c
  cost_numbered ps ts us c b h =
      let r = to_numbered h.runs ps b h.are_runs in
      let s = same h.runs ps r in
      record { runs = h.runs; are_runs = r; reads = read_numbered h.runs ts ps r h.reads; output = sym s.0 ∙ h.output; costs = sym s.1 ∙ h.costs }

  -- new numbers keep the series of each state
  pub numbered_series : (q : ℕ) → q < length states → (t u : Tree ℕ) (v : Option ℕ) → IsTransducerSeriesAt product numbered q t u v ↔ IsTransducerSeriesAt product rules (get_or states q 0) t u v
  numbered_series q b t u v = (
    λ h. IsLeast-same (λ n c. cost_named (q ∷ []) (only t) (only u) n c) (λ n c. cost_numbered (q ∷ []) (only t) (only u) n (b, tt) c) h,
    λ h. IsLeast-same (λ n c. cost_numbered (q ∷ []) (only t) (only u) n (b, tt) c) (λ n c. cost_named (q ∷ []) (only t) (only u) n c) h,
  )
