use Rattle.std.proofs.Common.{arith, ap, ◌∙◌}
use Rattle.std.proofs.lemmas.Result.{IfOk-weaker}
use Rattle.tib_grammar.specs.Items.{pairs_of}
use Rattle.tib_transducer.proofs.NamedItems.{one_tree}
use Rattle.tib_compose.proofs.Settled.{tree_same}
use Rattle.tib_compose.proofs.settling.copied_left.Goals as goal

pub side_of-requires : goal.side_of-requires
side_of-requires c = (omega arith, one_tree (pairs_of c.in_ok-items.items.items) c.args.left.now (ap pairs_of c.in_ok-items.ensures ∙ c.items.ensures.items))

pub returns : goal.returns
returns c =
    IfOk-weaker c.side_of.result _ _ (λ s e. tree_same s c.args.left.now (e ∙ ap pairs_of c.in_ok-items.ensures ∙ c.items.ensures.items)) c.side_of.ensures
