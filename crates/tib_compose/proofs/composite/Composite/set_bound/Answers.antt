use Rattle.std.proofs.Common.{refl, sym, ◌∙◌}
use Rattle.tib_grammar.specs.declared.Item.TheVariants.{Label}
use Rattle.tib_compose.proofs.Bounded.{set_keeps}
use Rattle.tib_compose.proofs.composite.Composite.set_bound.Goals as goal

pub returns : goal.returns
returns g c =
    let look = c.in-Some-Label.ensures.lookup in
    record {
      items = refl;
      known = λ ready known.
          set_keeps g.met.S.Semiring.laws c.args.self.now.second.now.rules c.args.source.now _ c.in-Some-Label.label c.in-Some-Label.rank c.args.node c.args.state c.in_ok-bound.bound refl refl refl c.in_ok-set.ensures look.3.0
          (sym (sym c.in-Some-Label.field-0-is ∙ look.3.1 (Label 0 0))) c.in_ok-bound.ensures ready known;
    }
