use Rattle.std.proofs.Common.{ℕ, List, sym, subst}
use Rattle.tib_lex.specs.Lists.{Has}
use Rattle.tib_grammar.proofs.Holes.{holes_of_items}
use Rattle.tib_grammar.proofs.determinism.has_state.Goals as goal

pub returns-clause-yes : goal.returns-clause-yes
returns-clause-yes c = λ t.
    subst (λ (qs : List ℕ). Has qs c.args.state) (sym (holes_of_items c.items-items.result.now c.args.rule.now.right c.items-items.ensures.items)) (c.have_state.ensures.yes t)

pub returns-clause-no : goal.returns-clause-no
returns-clause-no c = λ f has.
    c.have_state.ensures.no f (subst (λ (qs : List ℕ). Has qs c.args.state) (holes_of_items c.items-items.result.now c.args.rule.now.right c.items-items.ensures.items) has)
