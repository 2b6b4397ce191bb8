use Rattle.std.proofs.Common.{arith, ◌≡◌, length}
use Rattle.std.proofs.lemmas.Bool.Decides.{nat_tests}
use Rattle.tib_tree.proofs.Shaping.{shaped_one, not_some, no_members}
use Rattle.tib_tree.proofs.shape.Reader.is_one.Goals as goal

pub returns-clause-one : goal.returns-clause-one
returns-clause-one c = λ one s.
    let e = c.if-not-is_empty.ensures in
    let none_left : length c.args.self.now.above.items ≡ 0 = grind (arith, nat_tests, c.args.self.now.above.ok.0) in
    let single : c.args.self.now.top ≡ 1 = grind (arith, nat_tests) in
    shaped_one c.args.self.now s (not_some c.is_some.result c.args.self.now.held c.is_some.ensures c.if-is_some.false) single (no_members c.args.self.now.above.items none_left)
