use Rattle.std.proofs.Common.{◌≡◌, sym, subst, slice_get, Some, Contains}
use Rattle.tib_grammar.proofs.StateNames.{found_at, not_held}
use Rattle.tib_grammar.proofs.Names.find.Goals as goal

pub returns-in-Some-clause-found : goal.returns-in-Some-clause-found
returns-in-Some-clause-found c =
    subst (λ l. slice_get l c.in-Some.i ≡ Some c.args.text.now) c.self.view_is (found_at c.args.text.now c.self.inside.texts.keys c.in-Some.i c.in-Some.ensures.index)

pub returns-in-None-clause-none : goal.returns-in-None-clause-none
returns-in-None-clause-none c =
    λ _ held. not_held c.args.text.now c.self.inside.texts.keys c.in-None.ensures.found (subst (λ l. Contains l c.args.text.now) (sym c.self.view_is) held)
