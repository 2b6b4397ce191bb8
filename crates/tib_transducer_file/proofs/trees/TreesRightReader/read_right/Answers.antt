use Rattle.std.proofs.Common.{length}
use Rattle.std.proofs.lemmas.List.Elements.{All-weaker}
use Rattle.std.proofs.lemmas.Result.{IfOk-weaker}
use Rattle.tib_lex.specs.Line.{words_at}
use Rattle.tib_lex.proofs.Results.{ok_both}
use Rattle.tib_tree.specs.Shape.{PlaceLies}
use Rattle.tib_tree.proofs.Steps.{accepted}
use Rattle.tib_transducer_file.proofs.trees.TreesRightReader.read_right.Goals as goal

pub returns-clause-lie : goal.returns-clause-lie
returns-clause-lie c = IfOk-weaker c.read.result _ _ (λ ok places yes. places yes (length c.args._line.now) c.requires.lie) c.read.ensures.places

pub returns-clause-right : goal.returns-clause-right
returns-clause-right c =
    ok_both c.read.result _ _ _
    (λ ok places nodes yes. (
      (words_at c.args._line.now c.args.tokens.now, accepted ok _ _ yes (nodes c.args._line.now)),
      All-weaker (PlaceLies (length c.args._line.now)) (λ _. Unit {0}) (λ place lies. tt) c.read.new.self.places.items (places yes (length c.args._line.now) c.requires.lie),
    )) c.read.ensures.places c.read.ensures.nodes
