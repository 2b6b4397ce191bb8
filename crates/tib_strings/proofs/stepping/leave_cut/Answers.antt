use Rattle.std.proofs.lemmas.Result.{IfOk-weaker}
use Rattle.tib_strings.proofs.Searching.{leaves}
use Rattle.tib_strings.proofs.stepping.leave_cut.Goals as goal

pub returns-then-begun : goal.returns-then-begun
returns-then-begun c string i j b =
    IfOk-weaker c.go_further.result _ _ (λ r g. leaves string c.args.tokens.now i j c.args.places.now.items c.go_further.new.places.items c.args.begun r c.if-begun.true g)
    (c.go_further.ensures string i j b)
