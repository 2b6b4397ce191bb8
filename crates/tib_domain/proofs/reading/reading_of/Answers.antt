use Rattle.std.proofs.Common.{ℕ, List, ◌++◌, ap, ◌∙◌}
use Rattle.tib_grammar.specs.Items.{holes_in}
use Rattle.tib_strings.specs.declared.Word.{Word as Token}
use Rattle.tib_domain.specs.Reading.{only_pairs}
use Rattle.tib_domain.proofs.Steps.{tokens_are}
use Rattle.tib_domain.proofs.reading.reading_of.Goals as goal

pub returns : goal.returns
returns c =
    let first = c.in_ok-put_pairs.ensures ∙ ap (λ (ws : List (Token ℕ)). ws ++ only_pairs (holes_in c.items-outputs.result.now)) c.new-tokens.ensures.items in
    ap (λ (ws : List (Token ℕ)). record { state = c.args.rule.state; left = c.args.rule.left; right = ws; cost = c.args.rule.cost })
    (c.from_list.ensures
    ∙ tokens_are c.args.any c.args.rule c.items.result.now c.items-outputs.result.now c.items.ensures.items c.items-outputs.ensures.items c.put_pairs.new.tokens.items c.put_left_out.new.tokens.items first c.in_ok-put_left_out.ensures)
