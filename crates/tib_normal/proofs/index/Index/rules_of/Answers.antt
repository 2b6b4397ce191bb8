use Rattle.std.proofs.Common.{arith, sym, subst, ◌≡◌, get_or, ◌+◌}
use Rattle.std.proofs.lemmas.List.{get_or_read}
use Rattle.tib_normal.specs.Index.{IsStart}
use Rattle.tib_normal.proofs.Pairwise.{slice-starts}
use Rattle.tib_normal.proofs.index.Index.rules_of.Goals as goal

pub returns : goal.returns
returns c =
    let long = c.requires.index.starts.long in
    let first : c.index.result.now ≡ get_or c.args.self.now.starts.items c.args.state 0 =
    get_or_read c.args.self.now.starts.items c.args.state c.index.result.now (omega arith) c.index.ensures 0 in
    let last : c.index-2.result.now ≡ get_or c.args.self.now.starts.items (c.args.state + 1) 0 =
    get_or_read c.args.self.now.starts.items (c.args.state + 1) c.index-2.result.now (omega arith) c.index-2.ensures 0 in
    let slice = slice-starts c.args.rules.now c.args.state c.index.result.now c.index-2.result.now
    (subst (IsStart c.args.rules.now c.args.state) (sym first) (c.requires.index.starts.each c.args.state (omega arith)))
    (subst (IsStart c.args.rules.now (c.args.state + 1)) (sym last) (c.requires.index.starts.each (c.args.state + 1) (omega arith))) in
    slice.2
