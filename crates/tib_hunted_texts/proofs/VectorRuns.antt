-- The runs and the trees of the vectors of a trimmed normal form, with a fresh start.
use Rattle.std.specs.Prelude.{◌≡◌, ℕ, ◌+◌, ◌<◌, max, List, [], ◌∷◌, length, map}
use Rattle.std.proofs.Common.{suc, arith, subst, get_or, inl, inr}
use Rattle.tib_cost.specs.Semiring.{boolean_laws}
use Rattle.tib_cost.specs.declared.Scale.TheVariants.{Unweighted}
use Rattle.tib_lex.specs.Lists.{Has, Distinct}
use Rattle.tib_lex.proofs.Lists.{has_mapped}
use Rattle.tib_lex.proofs.Places.{distinct_at}
use Rattle.tib_tree.specs.Trees.{Trees, only}
use Rattle.tib_grammar.specs.Forms.{AreNormal}
use Rattle.tib_grammar.specs.GrammarOf.{GrammarOf, named_rule}
use Rattle.tib_grammar.specs.Run.{rule_at, AreFree}
use Rattle.tib_grammar.specs.Sides.{holes_of}
use Rattle.tib_grammar.specs.declared.Rule.{Rule}
use Rattle.tib_grammar.proofs.Below.{below_has}
use Rattle.tib_grammar.proofs.Sides.{holes-relabel}
use Rattle.tib_grammar_file.specs.Printable.{ArePrintable}
use Rattle.tib_canon.specs.Constructions.{AreRulesOver}
use Rattle.tib_canon.proofs.Started.{started_printable}
use Rattle.tib_determinize.specs.ListLemmas.{side_of}
use Rattle.tib_determinize.specs.Started.{finals, started, IsSameSeries, IsWellStarted}
use Rattle.tib_determinize.specs.VectorGrammar.{IsVectorGrammar, IsDeterminized}
use Rattle.tib_determinize.specs.Vectors.{VectorOf}
use Rattle.tib_determinize.proofs.Finals.{all_long, chain_at, shifted_at}
use Rattle.tib_determinize.proofs.Found.{order_once, vector_grammar}
use Rattle.tib_determinize.proofs.Starting.{forth}
use Rattle.tib_compare.proofs.Reaching.{has_tree}
use Rattle.tib_count.specs.Counts.{IsCountOf}
use Rattle.tib_count.specs.Counted.{IsRun, IsRunFrom, IsTree, HaveRuns}
use Rattle.tib_count.specs.Laws.{AsManyTrees, TreesOfDeterministic}
use Rattle.tib_count.specs.declared.count.Count.{Count}
use Rattle.tib_operations.proofs.OfDeterminize.{vectors_over}
use Rattle.tib_operations.proofs.OfForms.{are_free}
use Rattle.tib_operations.proofs.PlainVectors.{vectors_plain}

-- each state in a right side is one more than a position
above : (order : List VectorOf) (new : List (Rule ℕ)) (n q : ℕ) → n < length (started order new) → Has (holes_of (rule_at (started order new) n).right) q → (k : ℕ) × (suc k ≡ q)
above order new n q low h = elim (side_of n (length (finals 0 order))) [
  | inl b ↦
      let s : Has (suc (get_or (finals 0 order) n (0, 0)).0 ∷ []) q = subst (λ (r : Rule ℕ). Has (holes_of r.right) q) (chain_at order new n b) h in
      elim s [ inl e ↦ ((get_or (finals 0 order) n (0, 0)).0, e) | inr z ↦ absurd z ]
  | inr b ↦
      let j_below : b.0 < length new = omega (arith, low, all_long order new, b.1) in
      let s : Has (holes_of (named_rule suc (rule_at new b.0)).right) q = subst (λ (r : Rule ℕ). Has (holes_of r.right) q) (shifted_at order new n b.0 b.1 j_below) h in
      let t : Has (map suc (holes_of (rule_at new b.0).right)) q = subst (λ (qs : List ℕ). Has qs q) (holes-relabel suc (only (rule_at new b.0).right)) s in
      let m = has_mapped suc (holes_of (rule_at new b.0).right) q t in
      (m.0, m.2)
]

module _ (form : GrammarOf) (normal : AreNormal form.rules) (order : List VectorOf) (new : List (Rule ℕ)) (found : IsDeterminized max form.rules order new) (well : IsWellStarted order new) where
  vectors : IsVectorGrammar max form.rules order new
  vectors = vector_grammar max form.rules order boolean_laws new found

  once : Distinct order
  once = order_once max form.rules found.reached.0.0 found.reached.0.1 order found.reached.0.2

  -- each vector that is reached has a run
  run_to : (k : ℕ) → k < length order → (run : Trees ℕ) × IsRunFrom new k run
  run_to k low =
      let h = has_tree form.rules order new vectors found.reached.0.0 found.reached.0.1 found.reached.0.2 k low in
      let same : h.position ≡ k = distinct_at order h.position k [] once h.below low h.is in
      (h.run.runs, subst (λ (m : ℕ). IsRunFrom new m h.run.runs) same h.run.are_runs)

  run_above : (k : ℕ) → k < length order → (run : Trees ℕ) × IsRunFrom (started order new) (suc k) run
  run_above k low =
      let r = run_to k low in
      let f = forth boolean_laws form.rules normal order new vectors r.0 (k ∷ []) r.1 in
      (f.runs, f.are_runs)

  -- so each state in a right side has a run
  pub started_have_runs : HaveRuns (started order new)
  started_have_runs n q low h =
      let a = above order new n q low h in
      let below : q < 1 + length order = below_has (1 + length order) (holes_of (rule_at (started order new) n).right) q (well.in_range n low).1 h in
      let r = run_above a.0 (omega (arith, below, a.1)) in
      (r.0, subst (λ (m : ℕ). IsRunFrom (started order new) m r.0) a.1 r.1)

  module _ (labels : List (List ℕ)) (printable : ArePrintable Unweighted labels form.rules) where
    pub vectors_are : AreRulesOver Unweighted labels (length order) new
    vectors_are = vectors_over boolean_laws Unweighted labels form printable order new found

    -- the rules with the fresh start cost nothing
    started_free : AreFree (started order new)
    started_free =
        are_free labels (started order new)
        (started_printable (finals 0 order) Unweighted labels new ((vectors_plain boolean_laws Unweighted labels form printable).costs order found.reached.0) vectors_are.printable)

    -- and have as many runs as the form has trees
    pub runs_are_trees : IsSameSeries max → TreesOfDeterministic → AsManyTrees → (c : Count) → IsCountOf (IsRun (started order new)) c → IsCountOf (IsTree form.rules) c
    runs_are_trees same one_each as_many c runs =
        as_many (started order new) form.rules started_free (are_free labels form.rules printable)
        (λ t v. let s = same form.rules normal order new found t v in (s.1, s.0)) c
        (one_each (started order new) well.leaves well.deterministic c runs)
