-- A run of the transducer of derivations is a run of the grammar.
use Rattle.std.specs.Prelude.{◌≡◌, ℕ, ◌<◌, List, [], ◌∷◌, length, map, refl}
use Rattle.std.proofs.Common.{suc, arith, ap, sym, ◌∙◌, subst}
use Rattle.std.proofs.lemmas.Option.{get_or_from_slice_get}
use Rattle.tib_cost.proofs.Least.{IsLeast-same}
use Rattle.tib_tree.specs.Trees.{Tree, Trees, none, tree, count, only, join}
use Rattle.tib_tree.specs.Grows.{AreDistinct}
use Rattle.tib_tree.specs.Growth.{text_at, texts}
use Rattle.tib_tree.proofs.Counts.{count-relabel}
use Rattle.tib_grammar.specs.Sides.{holes_of, fill}
use Rattle.tib_grammar.specs.Run.{rule_at, AreRuns, yields, cost, IsCost}
use Rattle.tib_grammar.specs.declared.Rule.{Rule}
use Rattle.tib_transducer.specs.Rules.{transducer_rule, states_in, variables_in}
use Rattle.tib_transducer.specs.Run.{AreTransducerRuns, AreBound, Fits, Reads, pick, outputs, transducer_cost}
use Rattle.tib_transducer.specs.Series.{IsTransducerCost}
use Rattle.tib_transducer.specs.declared.Variable.{Variable}
use Rattle.tib_transducer.specs.declared.Pair.{Pair}
use Rattle.tib_transducer.specs.declared.TransducerRule.{TransducerRule}
use Rattle.tib_rulewise.specs.Placed.{placed_side, variables_from}
use Rattle.tib_rulewise.specs.Derivations.{rule_text, read_from, derivation_rule, AreDerivationRules}
use Rattle.tib_rulewise.specs.DerivationSeries.{spelled, IsDerivationCost, GivesDerivations, HaveOneCost, KeepsSeries}
use Rattle.tib_rulewise.proofs.Placed.{along, side-holes, side-fill, bind_any, length-variables, fill-over, upward, pick-all}
use Rattle.tib_rulewise.proofs.RuleTexts.{text_names, one_label}
use Rattle.tib_grammar.proofs.Sides.{holes_of-over}
use Rattle.tib_transducer.proofs.Counting.{count-bound}

states_along : (n : ℕ) (qs : List ℕ) → map (λ (x : Pair ℕ). x.state) (along read_from n qs) ≡ qs
states_along n [] = refl
states_along n (q ∷ qs) = ap (λ xs. q ∷ xs) (states_along (suc n) qs)

variables_along : (n : ℕ) (qs : List ℕ) → map (λ (x : Pair ℕ). x.variable) (along read_from n qs) ≡ upward n (length qs)
variables_along n [] = refl
variables_along n (q ∷ qs) = ap (λ xs. n ∷ xs) (variables_along (suc n) qs)

-- the states and variables of the right-hand side of a rule of derivations
pub states_are : (r : Rule ℕ) → states_in (placed_side read_from r.right) ≡ holes_of r.right
states_are r = ap (map (λ (x : Pair ℕ). x.state)) (side-holes read_from r.right) ∙ states_along 0 (holes_of r.right)

pub variables_are : (r : Rule ℕ) → variables_in (placed_side read_from r.right) ≡ upward 0 (length (holes_of r.right))
variables_are r = ap (map (λ (x : Pair ℕ). x.variable)) (side-holes read_from r.right) ∙ variables_along 0 (holes_of r.right)

-- there are as many runs as states
count-runs : (rules : List (Rule ℕ)) (qs : List ℕ) (runs : Trees ℕ) → AreRuns rules qs runs → count runs ≡ length qs
count-runs rules [] none a = refl
count-runs rules [] (tree n runs rest) a = absurd a
count-runs rules (q ∷ qs) none a = absurd a
count-runs rules (q ∷ qs) (tree n runs rest) a = ap suc (count-runs rules qs rest a.3)

-- what is read at the variables of all its places
read_all : (r : Rule ℕ) (ts : Trees ℕ) → count ts ≡ length (holes_of r.right) → pick ts (variables_in (placed_side read_from r.right)) ≡ ts
read_all r ts e = ap (pick ts) (variables_are r ∙ ap (upward 0) (sym e)) ∙ pick-all ts

-- the left-hand side of a rule of derivations fits one label over any trees, as many as it has
-- variables
module _ (root : ℕ) (r : Rule ℕ) (Below : Trees ℕ → Type 0) where
  record Opened (one : Trees ℕ) : Type 0 where
    args : Trees ℕ
    many : count args ≡ length (holes_of r.right)
    is : tree root args none ≡ one
    below : Below args

  opened : (one : Trees ℕ) → Fits (derivation_rule root r).left one Below → Opened one
  opened one h =
      let k : ℕ = length (holes_of r.right) in
      let bound = subst (λ (vs : List Variable). AreBound vs h.args) (holes_of-over root (variables_from 0 k)) h.bound in
      let many : count h.args ≡ k = count-bound (variables_from 0 k) h.args bound ∙ length-variables 0 k in
      record {
        args = h.args;
        many = many;
        is = sym (fill-over root (variables_from 0 k) h.args (many ∙ sym (length-variables 0 k))) ∙ h.filled;
        below = h.below;
      }

  closed : (args : Trees ℕ) → count args ≡ length (holes_of r.right) → Below args → Fits (derivation_rule root r).left (tree root args none) Below
  closed args e b =
      let k : ℕ = length (holes_of r.right) in
      record {
        args = args;
        bound = subst (λ (vs : List Variable). AreBound vs args) (sym (holes_of-over root (variables_from 0 k))) (bind_any 0 k args e);
        filled = fill-over root (variables_from 0 k) args (e ∙ sym (length-variables 0 k));
        below = b;
      }

module _ (labels : List (List ℕ)) (rules : List (Rule ℕ)) (derived : List (TransducerRule ℕ)) (made : AreDerivationRules labels rules derived) where
  -- runs of the transducer that read trees are runs of the grammar, which these trees spell
  record Same (qs : List ℕ) (runs ds : Trees ℕ) : Type 0 where
    are_runs : AreRuns rules qs runs
    spells : texts labels ds ≡ spelled runs

  to : (runs : Trees ℕ) (qs : List ℕ) (ds : Trees ℕ) → AreTransducerRuns derived qs runs → Reads derived runs ds → Same qs runs ds
  to none [] none a d = record { are_runs = tt; spells = refl }
  to none [] (tree f kids more) a d = absurd d
  to none (q ∷ qs) ds a d = absurd a
  to (tree n runs rest) [] ds a d = absurd a
  to (tree n runs rest) (q ∷ qs) none a d = absurd d
  to (tree n runs rest) (q ∷ qs) (tree f kids more) a d =
      let r : Rule ℕ = rule_at rules n in
      let below : n < length rules = omega (arith, a.0, made.many) in
      let m = made.each n below in
      let Below : TransducerRule ℕ → Trees ℕ → Type 0 = λ x args. Reads derived runs (pick args (variables_in x.right)) in
      let states : states_in (transducer_rule derived n).right ≡ holes_of r.right = ap (λ (x : TransducerRule ℕ). states_in x.right) m.is ∙ states_are r in
      let state : r.left ≡ q = sym (ap (λ (x : TransducerRule ℕ). x.state) m.is) ∙ a.1 in
      let o = opened m.root r (Below (derivation_rule m.root r)) (tree f kids none) (subst (λ (x : TransducerRule ℕ). Fits x.left (tree f kids none) (Below x)) m.is d.0) in
      let root : m.root ≡ f = cc (o.is) in
      let args : o.args ≡ kids = cc (o.is) in
      let reads : Reads derived runs kids = subst (Reads derived runs) (read_all r o.args o.many ∙ args) o.below in
      let inner = to runs (holes_of r.right) kids (subst (λ ps. AreTransducerRuns derived ps runs) states a.2) reads in
      let beside = to rest qs more a.3 d.1 in
      let text : text_at labels f ≡ rule_text (suc n) = ap (text_at labels) (sym root) ∙ get_or_from_slice_get labels m.root (rule_text (suc n)) [] m.named in
      record {
        are_runs = (below, state, inner.are_runs, beside.are_runs);
        spells = ap (λ x. tree x (texts labels kids) (texts labels more)) text
            ∙ ap (λ x. tree (rule_text (suc n)) x (texts labels more)) inner.spells
            ∙ ap (tree (rule_text (suc n)) (spelled runs)) beside.spells;
      }

  -- and the other way round
  record Back (qs : List ℕ) (runs ds : Trees ℕ) : Type 0 where
    are_runs : AreTransducerRuns derived qs runs
    reads : Reads derived runs ds

  from : AreDistinct labels → (runs : Trees ℕ) (qs : List ℕ) (ds : Trees ℕ) → AreRuns rules qs runs → texts labels ds ≡ spelled runs → Back qs runs ds
  from distinct none [] none a e = record { are_runs = tt; reads = tt }
  from distinct none [] (tree f kids more) a e = absurd (cc)
  from distinct none (q ∷ qs) ds a e = absurd a
  from distinct (tree n runs rest) [] ds a e = absurd a
  from distinct (tree n runs rest) (q ∷ qs) none a e = absurd (cc)
  from distinct (tree n runs rest) (q ∷ qs) (tree f kids more) a e =
      let r : Rule ℕ = rule_at rules n in
      let m = made.each n a.0 in
      let Below : TransducerRule ℕ → Trees ℕ → Type 0 = λ x args. Reads derived runs (pick args (variables_in x.right)) in
      let text : text_at labels f ≡ rule_text (suc n) = cc in
      let kids_text : texts labels kids ≡ spelled runs = cc in
      let more_text : texts labels more ≡ spelled rest = cc in
      let root : f ≡ m.root = one_label labels distinct f m.root (suc n) m.named text in
      let states : states_in (transducer_rule derived n).right ≡ holes_of r.right = ap (λ (x : TransducerRule ℕ). states_in x.right) m.is ∙ states_are r in
      let state : (transducer_rule derived n).state ≡ q = ap (λ (x : TransducerRule ℕ). x.state) m.is ∙ a.1 in
      let inner = from distinct runs (holes_of r.right) kids a.2 kids_text in
      let beside = from distinct rest qs more a.3 more_text in
      let many : count kids ≡ length (holes_of r.right) =
      sym (count-relabel (text_at labels) kids) ∙ ap count kids_text ∙ count-relabel (λ k. rule_text (suc k)) runs ∙ count-runs rules (holes_of r.right) runs a.2
      in
      let fits : Fits (derivation_rule m.root r).left (tree m.root kids none) (Below (derivation_rule m.root r)) =
      closed m.root r (Below (derivation_rule m.root r)) kids many (subst (Reads derived runs) (sym (read_all r kids many)) inner.reads)
      in
      record {
        are_runs = (omega (arith, a.0, made.many), state, subst (λ ps. AreTransducerRuns derived ps runs) (sym states) inner.are_runs, beside.are_runs);
        reads = (
          subst (λ (x : TransducerRule ℕ). Fits x.left (tree f kids none) (Below x)) (sym m.is)
              (subst (λ g. Fits (derivation_rule m.root r).left (tree g kids none) (Below (derivation_rule m.root r))) (sym root) fits),
          beside.reads,
        );
      }

  -- what the runs output, and what they cost
  outputs_are : (runs : Trees ℕ) (qs : List ℕ) → AreRuns rules qs runs → outputs derived runs ≡ yields rules runs
  outputs_are none qs a = refl
  outputs_are (tree n runs rest) [] a = absurd a
  outputs_are (tree n runs rest) (q ∷ qs) a =
      let r : Rule ℕ = rule_at rules n in
      let m = made.each n a.0 in
      ap (λ (x : TransducerRule ℕ). join (fill (only x.right) (outputs derived runs)) (outputs derived rest)) m.is
      ∙ ap (λ ts. join ts (outputs derived rest)) (side-fill read_from r.right (outputs derived runs))
      ∙ ap (λ us. join (fill (only r.right) us) (outputs derived rest)) (outputs_are runs (holes_of r.right) a.2)
      ∙ ap (join (fill (only r.right) (yields rules runs))) (outputs_are rest qs a.3)

  costs_are : (product : ℕ → ℕ → ℕ) (runs : Trees ℕ) (qs : List ℕ) → AreRuns rules qs runs → transducer_cost product derived runs ≡ cost product rules runs
  costs_are product none qs a = refl
  costs_are product (tree n runs rest) [] a = absurd a
  costs_are product (tree n runs rest) (q ∷ qs) a =
      let r : Rule ℕ = rule_at rules n in
      let m = made.each n a.0 in
      ap (λ (x : TransducerRule ℕ). product (product x.cost (transducer_cost product derived runs)) (transducer_cost product derived rest)) m.is
      ∙ ap (λ c. product (product r.cost c) (transducer_cost product derived rest)) (costs_are product runs (holes_of r.right) a.2)
      ∙ ap (product (product r.cost (cost product rules runs))) (costs_are product rest qs a.3)

  module _ (product : ℕ → ℕ → ℕ) where
    is_derivation : (q : ℕ) (d t : Tree ℕ) (c : ℕ) → IsTransducerCost product derived (q ∷ []) (only d) (only t) c → IsDerivationCost product labels rules q d t c
    is_derivation q d t c h =
        let s = to h.runs (q ∷ []) (only d) h.are_runs h.reads in
        record {
          run = h.runs;
          is_run = s.are_runs;
          spells = s.spells;
          yielded = sym (outputs_are h.runs (q ∷ []) s.are_runs) ∙ h.output;
          costs = sym (costs_are product h.runs (q ∷ []) s.are_runs) ∙ h.costs;
        }

    derivation_is : AreDistinct labels → (q : ℕ) (d t : Tree ℕ) (c : ℕ) → IsDerivationCost product labels rules q d t c → IsTransducerCost product derived (q ∷ []) (only d) (only t) c
    derivation_is distinct q d t c h =
        let b = from distinct h.run (q ∷ []) (only d) h.is_run h.spells in
        record {
          runs = h.run;
          are_runs = b.are_runs;
          reads = b.reads;
          output = outputs_are h.run (q ∷ []) h.is_run ∙ h.yielded;
          costs = costs_are product h.run (q ∷ []) h.is_run ∙ h.costs;
        }

    -- the transducer gives derivations their costs
    pub gives : AreDistinct labels → GivesDerivations product labels rules derived
    gives distinct q d t v = (
      λ h. IsLeast-same (λ c k. is_derivation q d t c k) (λ c k. derivation_is distinct q d t c k) h,
      λ h. IsLeast-same (λ c k. derivation_is distinct q d t c k) (λ c k. is_derivation q d t c k) h,
    )

    -- each run is spelled by some trees: the labels of its rules
    record Readable (runs : Trees ℕ) : Type 0 where
      trees : Trees ℕ
      spells : texts labels trees ≡ spelled runs

    readable : (runs : Trees ℕ) (qs : List ℕ) → AreRuns rules qs runs → Readable runs
    readable none qs a = record { trees = none; spells = refl }
    readable (tree n runs rest) [] a = absurd a
    readable (tree n runs rest) (q ∷ qs) a =
        let m = made.each n a.0 in
        let inner = readable runs (holes_of (rule_at rules n).right) a.2 in
        let beside = readable rest qs a.3 in
        let text : text_at labels m.root ≡ rule_text (suc n) = get_or_from_slice_get labels m.root (rule_text (suc n)) [] m.named in
        record {
          trees = tree m.root inner.trees beside.trees;
          spells = ap (λ x. tree x (texts labels inner.trees) (texts labels beside.trees)) text
              ∙ ap (λ x. tree (rule_text (suc n)) x (texts labels beside.trees)) inner.spells
              ∙ ap (tree (rule_text (suc n)) (spelled runs)) beside.spells;
        }

    one_readable : (run : Trees ℕ) (q : ℕ) → AreRuns rules (q ∷ []) run → (d : Tree ℕ) × (texts labels (only d) ≡ spelled run)
    one_readable none q a = absurd a
    one_readable (tree n runs (tree m others more)) q a = absurd a.3
    one_readable (tree n runs none) q a =
        let m = made.each n a.0 in
        let inner = readable runs (holes_of (rule_at rules n).right) a.2 in
        let text : text_at labels m.root ≡ rule_text (suc n) = get_or_from_slice_get labels m.root (rule_text (suc n)) [] m.named in (
          record { label = m.root; kids = inner.trees },
          ap (λ x. tree x (texts labels inner.trees) none) text ∙ ap (λ x. tree (rule_text (suc n)) x none) inner.spells,
        )

    -- the series of the grammar is kept
    pub keeps : AreDistinct labels → KeepsSeries product rules derived
    keeps distinct q t v = (
      λ h. IsLeast-same (λ c k. read c k) (λ c k. run c k) h,
      λ h. IsLeast-same (λ c k. run c k) (λ c k. read c k) h,
    )
      where
        read : (c : ℕ) → IsCost product rules (q ∷ []) (only t) c → (d : Tree ℕ) × IsTransducerCost product derived (q ∷ []) (only d) (only t) c
        read c k =
            let d = one_readable k.runs q k.are_runs in
            (d.0, derivation_is distinct q d.0 t c (record { run = k.runs; is_run = k.are_runs; spells = d.1; yielded = k.yielded; costs = k.costs }))

        run : (c : ℕ) → (d : Tree ℕ) × IsTransducerCost product derived (q ∷ []) (only d) (only t) c → IsCost product rules (q ∷ []) (only t) c
        run c k =
            let h = is_derivation q k.0 t c k.1 in
            record { runs = h.run; are_runs = h.is_run; yielded = h.yielded; costs = h.costs }

-- a derivation is one run
module _ (product : ℕ → ℕ → ℕ) (labels : List (List ℕ)) (rules : List (Rule ℕ)) (few : length rules < 4294967296) where
  same_runs : (one two : Trees ℕ) (ps qs : List ℕ) → AreRuns rules ps one → AreRuns rules qs two → spelled one ≡ spelled two → one ≡ two
  same_runs none none ps qs a b e = refl
  same_runs none (tree m runs rest) ps qs a b e = absurd (cc)
  same_runs (tree n runs rest) none ps qs a b e = absurd (cc)
  same_runs (tree n runs rest) (tree m others more) [] qs a b e = absurd a
  same_runs (tree n runs rest) (tree m others more) (p ∷ ps) [] a b e = absurd b
  same_runs (tree n runs rest) (tree m others more) (p ∷ ps) (q ∷ qs) a b e =
      let texts_are : rule_text (suc n) ≡ rule_text (suc m) = cc in
      let number : suc n ≡ suc m = text_names (suc n) (suc m) (omega (arith, a.0, few)) (omega (arith, b.0, few)) texts_are in
      let root : n ≡ m = omega (arith, number) in
      let inner_text : spelled runs ≡ spelled others = cc in
      let beside_text : spelled rest ≡ spelled more = cc in
      let inner : runs ≡ others = same_runs runs others (holes_of (rule_at rules n).right) (holes_of (rule_at rules m).right) a.2 b.2 inner_text in
      let beside : rest ≡ more = same_runs rest more ps qs a.3 b.3 beside_text in
      cc (root, inner, beside)

  pub one_cost : HaveOneCost product labels rules
  one_cost q d t b c h k =
      let same : h.run ≡ k.run = same_runs h.run k.run (q ∷ []) (q ∷ []) h.is_run k.is_run (sym h.spells ∙ k.spells) in
      sym h.costs ∙ ap (cost product rules) same ∙ k.costs
