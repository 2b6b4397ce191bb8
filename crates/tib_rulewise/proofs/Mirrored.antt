-- Transducers of which each rule has the sides of one of the other exchanged.
use Rattle.std.specs.Prelude.{◌≡◌, ℕ, ◌<◌, List, [], ◌∷◌, length, map, Bool, refl}
use Rattle.std.proofs.Common.{ap, sym, ◌∙◌, subst, get_or}
use Rattle.std.proofs.lemmas.List.{length-map}
use Rattle.tib_cost.specs.Semiring.{ProductLaws}
use Rattle.tib_cost.proofs.Least.{IsLeast-same}
use Rattle.tib_tree.specs.Trees.{Tree, Trees, none, tree, count, only, join}
use Rattle.tib_grammar.specs.Sides.{fill, holes_of}
use Rattle.tib_transducer.specs.Rules.{transducer_rule, variables_of, states_in, variables_in}
use Rattle.tib_transducer.specs.Run.{AreTransducerRuns, AreBound, Reads, outputs, transducer_cost, pick}
use Rattle.tib_transducer.specs.Series.{IsTransducerCost}
use Rattle.tib_transducer.specs.declared.Pair.{Pair}
use Rattle.tib_transducer.specs.declared.TransducerRule.{TransducerRule}
use Rattle.tib_transducer.proofs.Itemizing.{one_more, one_run, count-outputs}
use Rattle.tib_rulewise.specs.Inverse.{GivesInversely}
use Rattle.tib_rulewise.proofs.Reordered.{AreTurned, reorder, one_of, outputs_one}
use Rattle.tib_transducer.proofs.Counting.{count-bound}

-- b reads what a outputs, and outputs what a reads
pub record IsMirrored (a b : TransducerRule ℕ) : Type 0 where
  pub state : b.state ≡ a.state
  pub cost : b.cost ≡ a.cost
  pub reads : (us : Trees ℕ) → fill (only b.left) us ≡ fill (only a.right) us
  pub outputs : (us : Trees ℕ) → fill (only b.right) us ≡ fill (only a.left) us
  pub free : (us : Trees ℕ) → count us ≡ length (holes_of a.right) → AreBound (variables_of b.left) us
  pub many : length (variables_of a.left) ≡ length (variables_in b.right)
  pub states : map (λ j. get_or (states_in a.right) j 0) (variables_in b.right) ≡ states_in b.right
  pub turned : AreTurned (variables_in a.right) (variables_in b.right)

-- each rule of the one transducer is mirrored by the rule of the other at its position
abbrev pub AreMirrored : List (TransducerRule ℕ) → List (TransducerRule ℕ) → Type 0
AreMirrored one two = (n : ℕ) → n < length one → (n < length two) × IsMirrored (transducer_rule one n) (transducer_rule two n)

module _
    {levelled weighted : Bool} {product : ℕ → ℕ → ℕ} (laws : ProductLaws levelled weighted product)
    (one two : List (TransducerRule ℕ)) (mirrored : AreMirrored one two) where
  -- runs of the one transducer become runs of the other
  turn :
      (runs : Trees ℕ) (ps : List ℕ) (ts : Trees ℕ) → AreTransducerRuns one ps runs → Reads one runs ts →
      IsTransducerCost product two ps (outputs one runs) ts (transducer_cost product one runs)
  turn none [] none a d = record { runs = none; are_runs = tt; reads = tt; output = refl; costs = refl }
  turn none [] (tree f kids more) a d = absurd d
  turn none (p ∷ ps) ts a d = absurd a
  turn (tree n runs rest) [] ts a d = absurd a
  turn (tree n runs rest) (p ∷ ps) none a d = absurd d
  turn (tree n runs rest) (p ∷ ps) (tree f kids more) a d =
      let x : TransducerRule ℕ = transducer_rule one n in
      let y : TransducerRule ℕ = transducer_rule two n in
      let both = mirrored n a.0 in
      let m = both.1 in
      let c : ℕ = transducer_cost product one runs in
      let out : Trees ℕ = outputs one runs in
      let args : Trees ℕ = d.0.args in
      let states_long : length (states_in x.right) ≡ length (holes_of x.right) = length-map (holes_of x.right) (λ (z : Pair ℕ). z.state) in
      let variables_long : length (variables_in x.right) ≡ length (holes_of x.right) = length-map (holes_of x.right) (λ (z : Pair ℕ). z.variable) in
      let counted : count out ≡ length (holes_of x.right) = count-outputs one (states_in x.right) runs a.2 ∙ states_long in
      let inner : IsTransducerCost product two (states_in x.right) out (pick args (variables_in x.right)) c = turn runs (states_in x.right) (pick args (variables_in x.right)) a.2 d.0.below in
      let below : IsTransducerCost product two (states_in y.right) (pick out (variables_in y.right)) args c =
      subst (λ qs. IsTransducerCost product two qs (pick out (variables_in y.right)) args c) m.states
      (reorder laws two (variables_in x.right) (variables_in y.right) m.turned (states_in x.right) out args c (states_long ∙ sym variables_long) (count-bound (variables_of x.left) args d.0.bound ∙ m.many) inner)
      in
      let u = one_of (fill (only x.right) out) (outputs_one one n runs a.2) in
      let first : IsTransducerCost product two (p ∷ []) (only u.0) (fill (only y.right) args) (product y.cost c) =
      one_run laws two p n u.0 out args c both.0 (m.state ∙ a.1) (m.free out counted) (m.reads out ∙ u.1) below
      in
      let read : IsTransducerCost product two (p ∷ []) (only u.0) (tree f kids none) (product x.cost c) =
      subst (λ w. IsTransducerCost product two (p ∷ []) (only u.0) (tree f kids none) (product w c)) m.cost
      (subst (λ us. IsTransducerCost product two (p ∷ []) (only u.0) us (product y.cost c)) (m.outputs args ∙ d.0.filled) first)
      in
      let beside = turn rest ps more a.3 d.1 in
      subst (λ us. IsTransducerCost product two (p ∷ ps) us (tree f kids more) (product (product x.cost c) (transducer_cost product one rest))) (ap (λ us. join us (outputs one rest)) (sym u.1))
      (one_more laws two p ps u.0 (outputs one rest) (tree f kids none) more (product x.cost c) (transducer_cost product one rest) read beside)

  pub turned_cost : (p : ℕ) (t u : Tree ℕ) (c : ℕ) → IsTransducerCost product one (p ∷ []) (only t) (only u) c → IsTransducerCost product two (p ∷ []) (only u) (only t) c
  turned_cost p t u c h =
      subst (λ n. IsTransducerCost product two (p ∷ []) (only u) (only t) n) h.costs
      (subst (λ us. IsTransducerCost product two (p ∷ []) us (only t) (transducer_cost product one h.runs)) h.output (turn h.runs (p ∷ []) (only t) h.are_runs h.reads))

-- transducers that mirror each other give pairs of trees inversely
pub give_inversely :
    {levelled weighted : Bool} {product : ℕ → ℕ → ℕ} (laws : ProductLaws levelled weighted product) (one two : List (TransducerRule ℕ)) → AreMirrored one two → AreMirrored two one → GivesInversely product one two
give_inversely laws one two to from p t u v = (
  λ h. IsLeast-same (λ c k. turned_cost laws two one from p u t c k) (λ c k. turned_cost laws one two to p t u c k) h,
  λ h. IsLeast-same (λ c k. turned_cost laws one two to p t u c k) (λ c k. turned_cost laws two one from p u t c k) h,
)
