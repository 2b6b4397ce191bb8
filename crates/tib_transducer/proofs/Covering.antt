-- A transducer whose rules cover those of another has no greater series.
use Rattle.std.specs.Prelude.{◌≡◌, ℕ, ◌≤◌, List, [], ◌∷◌, Bool, Option, refl}
use Rattle.std.proofs.Common.{arith, ap, sym, ◌∙◌, subst, le_refl, inl, inr}
use Rattle.tib_lex.specs.Lists.{Has}
use Rattle.tib_tree.specs.Trees.{Tree, Trees, none, tree, join, only}
use Rattle.tib_grammar.specs.Sides.{holes_of, fill}
use Rattle.tib_grammar.proofs.Members.{has_at, at_has}
use Rattle.tib_cost.specs.Semiring.{ProductLaws}
use Rattle.tib_cost.proofs.Least.{IsLeast-dominated, grows_both}
use Rattle.tib_transducer.specs.Rules.{transducer_rule, no_rule, states_in, variables_in}
use Rattle.tib_transducer.specs.Run.{pick, AreTransducerRuns, AreBound, Reads, outputs, transducer_cost}
use Rattle.tib_transducer.specs.Series.{IsTransducerCost, IsTransducerSeriesAt, HasCheaper, Covers, HaveSameSeries}
use Rattle.tib_transducer.specs.declared.TransducerRule.{TransducerRule}

module _ {levelled weighted : Bool} {product : ℕ → ℕ → ℕ} (laws : ProductLaws levelled weighted product) (one two : List (TransducerRule ℕ)) (covers : Covers two one) where
  -- runs of the other transducer that are as cheap
  record AreCheaper (runs : Trees ℕ) (ps : List ℕ) (ts : Trees ℕ) : Type 0 where
    others : Trees ℕ
    are_runs : AreTransducerRuns two ps others
    reads : Reads two others ts
    output : outputs two others ≡ outputs one runs
    costs : transducer_cost product two others ≤ transducer_cost product one runs

  cheaper : (runs : Trees ℕ) (ps : List ℕ) (ts : Trees ℕ) → AreTransducerRuns one ps runs → Reads one runs ts → AreCheaper runs ps ts
  cheaper none [] none r d = record { others = none; are_runs = tt; reads = tt; output = refl; costs = le_refl 0 }
  cheaper none [] (tree f kids more) r d = absurd d
  cheaper none (p ∷ ps) ts r d = absurd r
  cheaper (tree n runs rest) [] ts r d = absurd r
  cheaper (tree n runs rest) (p ∷ ps) none r d = absurd d
  cheaper (tree n runs rest) (p ∷ ps) (tree f kids more) r d =
      let k = covers (transducer_rule one n) (has_at one n no_rule r.0) in
      let at = at_has two k.rule no_rule k.stands in
      let args : Trees ℕ = d.0.args in
      let below = cheaper runs (states_in (transducer_rule one n).right) (pick args (variables_in (transducer_rule one n).right)) r.2 d.0.below in
      let beside = cheaper rest ps more r.3 d.1 in
      let state_is : (transducer_rule two at.0).state ≡ (transducer_rule one n).state = ap (λ x. x.state) at.2 ∙ k.state in
      let left_is : (transducer_rule one n).left ≡ (transducer_rule two at.0).left = sym (ap (λ x. x.left) at.2 ∙ k.left) in
      let right_is : (transducer_rule one n).right ≡ (transducer_rule two at.0).right = sym (ap (λ x. x.right) at.2 ∙ k.right) in
      let cost_is : (transducer_rule two at.0).cost ≡ k.rule.cost = ap (λ x. x.cost) at.2 in
      let no_more : (transducer_rule two at.0).cost ≤ (transducer_rule one n).cost = omega (arith, cost_is, k.costs) in
      record {
        others = tree at.0 below.others beside.others;
        are_runs = (at.1, state_is ∙ r.1, subst (λ s. AreTransducerRuns two (states_in s) below.others) right_is below.are_runs, beside.are_runs);
        reads = (
          record {
            args = args;
            bound = subst (λ l. AreBound (holes_of l) args) left_is d.0.bound;
            filled = subst (λ l. fill (only l) args ≡ tree f kids none) left_is d.0.filled;
            below = subst (λ s. Reads two below.others (pick args (variables_in s))) right_is below.reads;
          },
          beside.reads,
        );
        output = ap (λ s. join (fill (only s) (outputs two below.others)) (outputs two beside.others)) (sym right_is)
            ∙ ap (λ us. join (fill (only (transducer_rule one n).right) us) (outputs two beside.others)) below.output
            ∙ ap (join (fill (only (transducer_rule one n).right) (outputs one runs))) beside.output;
        costs = grows_both
            laws
            (product (transducer_rule two at.0).cost (transducer_cost product two below.others))
            (transducer_cost product two beside.others)
            (product (transducer_rule one n).cost (transducer_cost product one runs))
            (transducer_cost product one rest)
            (grows_both laws (transducer_rule two at.0).cost (transducer_cost product two below.others) (transducer_rule one n).cost (transducer_cost product one runs) no_more below.costs)
            beside.costs;
      }

  pub cheaper_cost : (ps : List ℕ) (ts us : Trees ℕ) (n : ℕ) → IsTransducerCost product one ps ts us n → (m : ℕ) × IsTransducerCost product two ps ts us m × (m ≤ n)
  cheaper_cost ps ts us n h =
      let k = cheaper h.runs ps ts h.are_runs h.reads in (
        transducer_cost product two k.others,
        record { runs = k.others; are_runs = k.are_runs; reads = k.reads; output = k.output ∙ h.output; costs = refl },
        omega (arith, k.costs, h.costs),
      )

module _ {levelled weighted : Bool} {product : ℕ → ℕ → ℕ} (laws : ProductLaws levelled weighted product) (one two : List (TransducerRule ℕ)) where
  no_greater : Covers two one → Covers one two → (p : ℕ) (t u : Tree ℕ) (v : Option ℕ) → IsTransducerSeriesAt product one p t u v → IsTransducerSeriesAt product two p t u v
  no_greater to from p t u v h =
      IsLeast-dominated
      (λ n c b. cheaper_cost laws one two to (p ∷ []) (only t) (only u) n c)
      (λ n c b. cheaper_cost laws two one from (p ∷ []) (only t) (only u) n c)
      h

-- two transducers that cover each other have the same series
pub same_series :
    {levelled weighted : Bool} {product : ℕ → ℕ → ℕ} (laws : ProductLaws levelled weighted product) (one two : List (TransducerRule ℕ)) → Covers two one → Covers one two → HaveSameSeries product one two
same_series laws one two to from p t u v = (no_greater laws one two to from p t u v, no_greater laws two one from to p t u v)

-- a list of rules is covered by its members
pub covers_members : (one two : List (TransducerRule ℕ)) → ((r : TransducerRule ℕ) → Has one r → Has two r) → Covers two one
covers_members one two to r h = record { rule = r; stands = to r h; state = refl; left = refl; right = refl; costs = le_refl r.cost }

-- and still with one more rule that a member is as cheap as
pub covers_more : (rules : List (TransducerRule ℕ)) (r : TransducerRule ℕ) → HasCheaper rules r → Covers rules (r ∷ rules)
covers_more rules r c s h = elim h [
  | inl e ↦ subst (HasCheaper rules) e c
  | inr k ↦ record { rule = s; stands = k; state = refl; left = refl; right = refl; costs = le_refl s.cost }
]
