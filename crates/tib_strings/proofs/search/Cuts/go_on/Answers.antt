use Rattle.std.proofs.Common.{sym, subst, false, true}
use Rattle.std.proofs.lemmas.Result.{IfOk-weaker}
use Rattle.tib_strings.specs.Bounds.{AreBounds}
use Rattle.tib_strings.proofs.Searching.{leaves_with}
use Rattle.tib_strings.proofs.Going.{goes_to}
use Rattle.tib_strings.proofs.search.Cuts.go_on.Goals as goal

pub returns-then-not-branch : goal.returns-then-not-branch
returns-then-not-branch c =
    let s = c.args.self.now in
    let b = subst (AreBounds s.string.now s.tokens.now s.to) (sym c.deref.ensures.value) c.requires.bounded in
    leaves_with s.string.now s.tokens.now s.from s.to s.begun s.places.items c.leave_cut.new.places.items c.in_ok-leave_cut.field-0 false c.if-not-branch.true (c.in_ok-leave_cut.ensures s.string.now s.from s.to b)

pub find_cut-requires-clause-begun : goal.find_cut-requires-clause-begun
find_cut-requires-clause-begun c =
    let s = c.args.self.now in
    let b = subst (AreBounds s.string.now s.tokens.now s.to) (sym c.deref.ensures.value) c.requires.bounded in
    (leaves_with s.string.now s.tokens.now s.from s.to s.begun s.places.items c.leave_cut.new.places.items c.in_ok-leave_cut.field-0 true c.if-not-branch.false (c.in_ok-leave_cut.ensures s.string.now s.from s.to b)).0

pub returns : goal.returns
returns c =
    let s = c.args.self.now in
    let b = subst (AreBounds s.string.now s.tokens.now s.to) (sym c.deref.ensures.value) c.requires.bounded in
    let l = leaves_with s.string.now s.tokens.now s.from s.to s.begun s.places.items c.leave_cut.new.places.items c.in_ok-leave_cut.field-0 true c.if-not-branch.false (c.in_ok-leave_cut.ensures s.string.now s.from s.to b) in
    IfOk-weaker c.find_cut.result _ _ (λ r f. goes_to s c.find_cut.new.places c.leave_cut.new.places.items c.requires l.1 r f) c.find_cut.ensures
