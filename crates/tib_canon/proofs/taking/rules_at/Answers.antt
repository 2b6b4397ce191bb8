use Rattle.std.proofs.Common.{arith, ap, sym, ◌∙◌, length}
use Rattle.std.specs.Prelude.{None}
use Rattle.std.proofs.lemmas.List.{length-set}
use Rattle.tib_canon.specs.declared.lines.Line.{Line}
use Rattle.tib_canon.proofs.Places.{others_there, taken_on, any_spare}
use Rattle.tib_canon.proofs.taking.rules_at.Goals as goal

pub loop-line-preserved : goal.loop-line-preserved
loop-line-preserved c = record {
  taken = taken_on c.args.rules.items c.args.lines.now c.requires.below c.requires.apart c.loop-line.places.items c.loop-line.line-index _ c.loop-line.taken.items c.push.new.self.items c.in-Some.rule c.loop-line.invariant.there (omega arith)
      (λ spare. ap (λ (l : Line). l.position) (any_spare c.args.lines.now c.loop-line.line-index _ spare (omega arith))) c.loop-line.invariant.taken (sym c.take_from.ensures.value ∙ c.in-Some.is) c.in_ok-push-in-Some.ensures.items;
  many = ap length c.take_from.ensures.after ∙ length-set c.loop-line.places.items _ None ∙ c.loop-line.invariant.many;
  there = others_there c.args.rules.items c.args.lines.now c.requires.below c.requires.apart c.loop-line.places.items c.take_from.new.places.items c.loop-line.line-index _ c.loop-line.invariant.there (omega arith)
      (λ spare. ap (λ (l : Line). l.position) (any_spare c.args.lines.now c.loop-line.line-index _ spare (omega arith))) c.take_from.ensures.after;
}
