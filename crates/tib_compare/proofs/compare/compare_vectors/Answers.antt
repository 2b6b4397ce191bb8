use Rattle.std.specs.Prelude.{◌≡◌, ◌<◌, ℕ, List, max, length}
use Rattle.std.proofs.Common.{ap, sym, ◌∙◌, subst, Some, None}
use Rattle.tib_grammar.specs.Forms.{AreNormal}
use Rattle.tib_grammar.specs.GrammarOf.{GrammarOf}
use Rattle.tib_grammar.specs.Range.{AreInRange}
use Rattle.tib_grammar.specs.declared.Rule.{Rule}
use Rattle.tib_cost.specs.Semiring.{boolean_laws}
use Rattle.tib_determinize.specs.VectorGrammar.{IsVectorGrammar}
use Rattle.tib_determinize.proofs.Found.{vector_grammar}
use Rattle.tib_compare.specs.Beside.{beside}
use Rattle.tib_compare.specs.Answered.{IsAnswerOf}
use Rattle.tib_compare.proofs.Labelling.{beside_labelled, vectors_labelled}
use Rattle.tib_compare.proofs.Answering.{some_answer, no_answer}
use Rattle.tib_compare.proofs.compare.compare_vectors.Goals as goal

pub answer-requires-clause-normal : goal.answer-requires-clause-normal
answer-requires-clause-normal c =
    (vector_grammar max (beside (length c.args.left.now.names) c.args.left.now.rules c.args.right.now.rules) c.args.found.now.order.items boolean_laws c.args.found.now.rules.items c.requires.determinized).normal

pub answer-requires-clause-labelled : goal.answer-requires-clause-labelled
answer-requires-clause-labelled c =
    vectors_labelled (length c.args.labels.now) (beside (length c.args.left.now.names) c.args.left.now.rules c.args.right.now.rules) c.args.found.now.order.items c.args.found.now.rules.items
    (vector_grammar max (beside (length c.args.left.now.names) c.args.left.now.rules c.args.right.now.rules) c.args.found.now.order.items boolean_laws c.args.found.now.rules.items c.requires.determinized)
    (beside_labelled (length c.args.labels.now) (length c.args.left.now.names) c.args.left.now.rules c.args.right.now.rules c.grammar.ensures.normal.normal c.grammar-2.ensures.normal.normal c.requires.left_labelled
    c.requires.right_labelled)

pub returns-in-Ok-Some-clause-compared : goal.returns-in-Ok-Some-clause-compared
returns-in-Ok-Some-clause-compared c =
    let start : 0 < length c.args.left.now.names = subst (λ (x : GrammarOf). 0 < length x.names) c.grammar.ensures.same c.is_sound.ensures.start in
    let range : AreInRange (length c.args.left.now.names) c.args.left.now.rules = subst (λ (x : GrammarOf). AreInRange (length x.names) x.rules) c.grammar.ensures.same c.is_sound.ensures.range in
    some_answer (length c.args.left.now.names) start c.args.left.now.rules c.args.right.now.rules c.grammar.ensures.normal.normal c.grammar-2.ensures.normal.normal c.requires.left_free c.requires.right_free range
    c.args.found.now.order.items c.args.found.now.rules.items c.requires.determinized c.args.labels.now c.in-Ok-Some.compared
    (subst (λ o. IsAnswerOf c.args.labels.now (length c.args.left.now.names) c.args.left.now.rules c.args.found.now.order.items c.args.found.now.rules.items o) c.in-Ok-Some.field-0-is c.in-Ok-Some.ensures)

pub returns-in-Ok-None-clause-cause : goal.returns-in-Ok-None-clause-cause
returns-in-Ok-None-clause-cause c =
    let start : 0 < length c.args.left.now.names = subst (λ (x : GrammarOf). 0 < length x.names) c.grammar.ensures.same c.is_sound.ensures.start in
    let range : AreInRange (length c.args.left.now.names) c.args.left.now.rules = subst (λ (x : GrammarOf). AreInRange (length x.names) x.rules) c.grammar.ensures.same c.is_sound.ensures.range in (
      c.requires.within,
      no_answer (length c.args.left.now.names) start c.args.left.now.rules c.args.right.now.rules c.grammar.ensures.normal.normal c.grammar-2.ensures.normal.normal c.requires.left_free c.requires.right_free range
          c.args.found.now.order.items c.args.found.now.rules.items c.requires.determinized c.args.labels.now
          (subst (λ o. IsAnswerOf c.args.labels.now (length c.args.left.now.names) c.args.left.now.rules c.args.found.now.order.items c.args.found.now.rules.items o) c.in-Ok-None.field-0-is c.in-Ok-None.ensures),
    )
