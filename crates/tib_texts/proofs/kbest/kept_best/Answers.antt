use Rattle.std.proofs.Common.{sym, subst}
use Rattle.std.specs.Prelude.{IfSome}
use Rattle.std.proofs.lemmas.Option.{IfSome_then}
use Rattle.std.proofs.lemmas.Result.{IfOk-weaker}
use Rattle.tib_grammar.specs.GrammarOf.{GrammarOf}
use Rattle.tib_grammar.specs.Series.{HasSameSeries}
use Rattle.tib_ranked_trees.specs.Best.{IsKBest}
use Rattle.tib_grammar_file.specs.Printable.{ArePrintable}
use Rattle.tib_texts.proofs.BestOf.{best_of_form, costs_free}
use Rattle.tib_texts.proofs.kbest.kept_best.Goals as goal

pub small_best-requires-clause-free : goal.small_best-requires-clause-free
small_best-requires-clause-free g c =
    let same = rw c.in-Some.is at c.in_ok-normal.ensures.same in
    costs_free g.S.Semiring.SCALE g.S.Semiring.WEIGHTED g.met.S.Semiring.weighs c.args.labels.now c.in_ok-trimmed.trimmed.rules
    (c.trimmed_is_printable.ensures g.S.Semiring.product g.S.Semiring.SCALE c.args.labels.now c.in-Some.normal c.in_ok-trimmed.trimmed c.in_ok-trimmed.ensures.trimmed
    (subst (λ (n : GrammarOf). ArePrintable g.S.Semiring.SCALE c.args.labels.now n.rules) (sym same) c.requires.printable))

pub small_best-requires-clause-labelled : goal.small_best-requires-clause-labelled
small_best-requires-clause-labelled g c =
    let same = rw c.in-Some.is at c.in_ok-normal.ensures.same in
    c.printable_is_labelled.ensures g.S.Semiring.SCALE c.args.labels.now c.in_ok-trimmed.trimmed.rules
    (c.trimmed_is_printable.ensures g.S.Semiring.product g.S.Semiring.SCALE c.args.labels.now c.in-Some.normal c.in_ok-trimmed.trimmed c.in_ok-trimmed.ensures.trimmed
    (subst (λ (n : GrammarOf). ArePrintable g.S.Semiring.SCALE c.args.labels.now n.rules) (sym same) c.requires.printable))

pub small_best-requires-clause-trimmed : goal.small_best-requires-clause-trimmed
small_best-requires-clause-trimmed g c =
    c.trimmed_has_trees.ensures c.in-Some.normal c.in_ok-trimmed.trimmed c.grammar.ensures.normal.normal c.grammar-2.ensures.normal.normal c.in_ok-trimmed.ensures.trimmed c.in_ok-trimmed.ensures.each

pub returns : goal.returns
returns g c =
    let same = rw c.in-Some.is at c.in_ok-normal.ensures.same in
    record {
      best = IfOk-weaker c.small_best.result (λ found. IfSome found (λ xs. IsKBest g.S.Semiring.product c.in_ok-trimmed.trimmed.rules c.args.labels.now c.args.k xs))
          (λ found. IfSome found (λ xs. IsKBest g.S.Semiring.product c.args.kept.rules c.args.labels.now c.args.k xs))
          (λ found s. IfSome_then found s (λ xs b. best_of_form g.S.Semiring.product c.args.kept.rules c.in_ok-trimmed.trimmed.rules
          (subst (λ (n : GrammarOf). HasSameSeries g.S.Semiring.product n c.in_ok-trimmed.trimmed) same c.in_ok-trimmed.ensures.series) c.args.labels.now c.args.k xs b)) c.small_best.ensures.best;
    }
