use Rattle.std.proofs.Common.{ap, ◌∙◌, Err, List, ℕ}
use Rattle.tib_lex.specs.Lists.{Each}
use Rattle.tib_determinize.specs.Vectors.{Rises, VectorOf}
use Rattle.tib_determinize.specs.Determinization.{IsVector}
use Rattle.tib_determinize.specs.ListLemmas.{each_map}
use Rattle.tib_determinize.proofs.Answering.{expand_listed, expand_ends, expand_exceeds}
use Rattle.tib_determinize.proofs.expand.ResidualsExpand.expand.Goals as goal

all_rise : (states : ℕ) (order : List VectorOf) → Each (IsVector states) order → Each (λ v. Rises v) order
all_rise states order h = each_map (IsVector states) (λ v. Rises v) (λ v is. is.rises) order h

pub returns-in-Ok-clause-listed : goal.returns-in-Ok-clause-listed
returns-in-Ok-clause-listed g c =
    expand_listed g.S.Semiring.product g.met.S.Semiring.laws c.args.self.now.normal.now.rules c.grammar.ensures.normal.normal c.args.order.now c.args.n c.requires.position c.in-Ok.listing c.into_edges.result.ends.items c.into_edges.result.rules.items c.into_edges.result.parts c.in-Ok.ensures.listed
    c.in-Ok.ensures.within c.into_edges.ensures.ends c.into_edges.ensures.rules c.into_edges.ensures.parts

pub returns-in-Ok-clause-ends : goal.returns-in-Ok-clause-ends
returns-in-Ok-clause-ends g c =
    expand_ends g.S.Semiring.product g.met.S.Semiring.laws c.args.self.now.normal.now.rules c.grammar.ensures.normal.normal c.args.order.now c.args.n c.requires.position c.in-Ok.listing c.into_edges.result.ends.items c.in-Ok.ensures.listed c.into_edges.ensures.ends

pub returns-in-Err-clause-more : goal.returns-in-Err-clause-more
returns-in-Err-clause-more g c = λ e.
    expand_exceeds g.S.Semiring.product g.met.S.Semiring.laws c.args.self.now.normal.now.rules c.grammar.ensures.normal.normal c.args.order.now c.args.n c.requires.position (all_rise _ c.args.order.now c.requires.admitted) c.args.budget
    (c.list_position.ensures.more (c.in-Err.is ∙ ap Err e))
