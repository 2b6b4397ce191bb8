-- Runs of a transducer over trees of its alphabet are runs of the domain.
use Rattle.std.specs.Prelude.{◌≡◌, ℕ, ◌<◌, List, [], ◌∷◌, ◌++◌, length, Bool, refl}
use Rattle.std.proofs.Common.{ap, sym, ◌∙◌, subst}
use Rattle.tib_lex.specs.Lists.{Each}
use Rattle.tib_lex.proofs.Members.{has_at}
use Rattle.tib_tree.specs.Trees.{Trees, none, tree, count, only, join}
use Rattle.tib_cost.specs.Semiring.{ProductLaws}
use Rattle.tib_transducer.specs.Rules.{transducer_rule, no_rule, variables_of, states_in, variables_in}
use Rattle.tib_transducer.specs.Range.{AreShaped, IsShaped}
use Rattle.tib_transducer.specs.Run.{AreTransducerRuns, Fits, Reads, pick, transducer_cost}
use Rattle.tib_transducer.specs.declared.TransducerRule.{TransducerRule}
use Rattle.tib_strings.specs.Rules.{string_rule, states_in as states_on, variables_in as variables_on}
use Rattle.tib_strings.specs.Run.{AreStringRuns, StringRunsRead, string_cost}
use Rattle.tib_strings.specs.declared.StringRule.{StringRule}
use Rattle.tib_domain.specs.Alphabet.{alphabet, AreOver}
use Rattle.tib_domain.specs.Reading.{reading_rule}
use Rattle.tib_domain.proofs.Symbols.{over_args}
use Rattle.tib_domain.proofs.Picking.{over_pick, pick_append, count_pick}
use Rattle.tib_domain.proofs.LeftOut.{anys, rest_of, rest_low, reading_states, reading_variables}
use Rattle.tib_domain.proofs.Anything.{moves, count_bound, reading_at, Opens, AreReadFrom, one_more, any_reads}

module _ (any : ℕ) (rules : List (TransducerRule ℕ)) where
  runs_join : (ps qs : List ℕ) (xs ys : Trees ℕ) → AreStringRuns (moves any rules) ps xs → AreStringRuns (moves any rules) qs ys → AreStringRuns (moves any rules) (ps ++ qs) (join xs ys)
  runs_join [] qs none ys a b = b
  runs_join [] qs (tree n runs rest) ys a b = absurd a
  runs_join (p ∷ ps) qs none ys a b = absurd a
  runs_join (p ∷ ps) qs (tree n runs rest) ys a b = (a.0, a.1, a.2, runs_join ps qs rest ys a.3 b)

  reads_join : (xs ys ts us : Trees ℕ) → StringRunsRead (moves any rules) xs ts → StringRunsRead (moves any rules) ys us → StringRunsRead (moves any rules) (join xs ys) (join ts us)
  reads_join none ys none us d e = e
  reads_join none ys (tree f kids more) us d e = absurd d
  reads_join (tree n runs rest) ys none us d e = absurd d
  reads_join (tree n runs rest) ys (tree f kids more) us d e = (d.0, reads_join rest ys more us d.1 e)

  module _ {levelled weighted : Bool} {product : ℕ → ℕ → ℕ} (laws : ProductLaws levelled weighted product) where
    cost_join : (xs ys : Trees ℕ) → string_cost product (moves any rules) ys ≡ 0 → string_cost product (moves any rules) (join xs ys) ≡ string_cost product (moves any rules) xs
    cost_join none ys e = e
    cost_join (tree n runs rest) ys e = ap (product (product (string_rule (moves any rules) n).cost (string_cost product (moves any rules) runs))) (cost_join rest ys e)

    module _ (shaped : AreShaped rules) where
      pub reads_on :
          (runs : Trees ℕ) (ps : List ℕ) (ts : Trees ℕ) → AreTransducerRuns rules ps runs → Reads rules runs ts → AreOver (alphabet rules) ts →
          AreReadFrom any rules product ps ts (transducer_cost product rules runs)
      reads_on none [] none a d o = record { runs = none; are_runs = tt; reads = tt; costs = refl }
      reads_on none [] (tree f kids more) a d o = absurd d
      reads_on none (p ∷ ps) ts a d o = absurd a
      reads_on (tree j runs rest) [] ts a d o = absurd a
      reads_on (tree j runs rest) (p ∷ ps) none a d o = absurd d
      reads_on (tree j runs rest) (p ∷ ps) (tree f kids more) a d o =
          let r : TransducerRule ℕ = transducer_rule rules j in
          let s : StringRule ℕ = reading_rule any r in
          let shape : IsShaped r = shaped j a.0 in
          let fits : Fits r.left (tree f kids none) (λ args. Reads rules runs (pick args (variables_in r.right))) = d.0 in
          let long : count fits.args ≡ length (variables_of r.left) = count_bound (variables_of r.left) fits.args fits.bound in
          let args_over : AreOver (alphabet rules) fits.args =
          over_args (alphabet rules) (only r.left) fits.args long (subst (AreOver (alphabet rules)) (sym fits.filled) (o.0, o.1, tt))
          in
          let low : Each (λ i. i < count fits.args) (rest_of r) = subst (λ (m : ℕ). Each (λ i. i < m) (rest_of r)) (sym long) (rest_low r shape.numbered) in
          let x = reads_on runs (states_in r.right) (pick fits.args (variables_in r.right)) a.2 fits.below (over_pick (alphabet rules) fits.args (variables_in r.right) args_over) in
          let w = any_reads any rules laws (pick fits.args (rest_of r)) (over_pick (alphabet rules) fits.args (rest_of r) args_over) in
          let states : states_in r.right ++ anys any (count (pick fits.args (rest_of r))) ≡ states_on s.right =
          ap (λ (n : ℕ). states_in r.right ++ anys any n) (count_pick fits.args (rest_of r) low) ∙ sym (reading_states any r)
          in
          let trees : join (pick fits.args (variables_in r.right)) (pick fits.args (rest_of r)) ≡ pick fits.args (variables_on s.right) =
          sym (pick_append fits.args (variables_in r.right) (rest_of r)) ∙ ap (pick fits.args) (sym (reading_variables any r))
          in
          let opens : Opens any rules s (join x.runs w.runs) (tree f kids none) = record {
            runs_below = subst (λ qs. AreStringRuns (moves any rules) qs (join x.runs w.runs)) states (runs_join (states_in r.right) (anys any (count (pick fits.args (rest_of r)))) x.runs w.runs x.are_runs w.are_runs);
            fits = record {
              args = fits.args;
              bound = fits.bound;
              filled = fits.filled;
              below = subst (StringRunsRead (moves any rules) (join x.runs w.runs)) trees
                  (reads_join x.runs w.runs (pick fits.args (variables_in r.right)) (pick fits.args (rest_of r)) x.reads w.reads);
            };
          }
          in
          let more_runs = reads_on rest ps more a.3 d.1 o.2 in
          let all = one_more any rules laws s (reading_at any rules r (has_at rules j no_rule a.0)) (join x.runs w.runs) f kids opens ps more (transducer_cost product rules rest) more_runs in
          record {
            runs = all.runs;
            are_runs = subst (λ (q : ℕ). AreStringRuns (moves any rules) (q ∷ ps) all.runs) a.1 all.are_runs;
            reads = all.reads;
            costs = all.costs ∙ ap (λ (c : ℕ). product (product r.cost c) (transducer_cost product rules rest)) (cost_join x.runs w.runs w.costs ∙ x.costs);
          }
