use Rattle.std.proofs.Common.{sym, subst}
use Rattle.std.proofs.lemmas.Result.{IfOk-weaker, IfErr-weaker}
use Rattle.tib_operations.specs.KBest.{IsKBestFault}
use Rattle.tib_texts.proofs.BestOf.{each_small}
use Rattle.tib_texts.proofs.kbest.kbest_text.Goals as goal

pub returns-clause-text : goal.returns-clause-text
returns-clause-text g c =
    IfOk-weaker c.text_of_list.result _ _ (λ text are. record {
      best = c.in-Ok.list;
      are_best = c.in-Ok.ensures.best;
      small = each_small c.in-Ok.list c.is_small.ensures;
      are = are;
    }) c.text_of_list.ensures.text

pub returns-clause-within : goal.returns-clause-within
returns-clause-within g c = IfOk-weaker c.text_of_list.result _ _ (λ text are. c.in-Ok.ensures.within) c.text_of_list.ensures.text

pub returns-clause-err : goal.returns-clause-err
returns-clause-err g c =
    IfErr-weaker c.text_of_list.result _ _ (λ status is. subst (IsKBestFault g.S.Semiring.LEVELLED g.S.Semiring.product c.args.limit c.args.k c.args.labels.now c.args.grammar.now) (sym is) tt) c.text_of_list.ensures.err
