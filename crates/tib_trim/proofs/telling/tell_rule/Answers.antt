use Rattle.std.proofs.Common.{ℕ, List, subst, sym, length}
use Rattle.std.specs.Prelude.{OnOk, Option}
use Rattle.tib_grammar.specs.Range.{AllBelow}
use Rattle.tib_grammar.specs.Sides.{holes_of}
use Rattle.tib_grammar.proofs.Holes.{holes_of_items}
use Rattle.tib_inside.specs.Settling.{costs_in}
use Rattle.tib_prune.specs.Telling.{IsToldFrom, Adds}
use Rattle.tib_trim.proofs.telling.tell_rule.Goals as goal

pub list_rests-requires : goal.list_rests-requires
list_rests-requires g c = subst (AllBelow (length c.args.insides.now)) (holes_of_items c.items-items.result.now c.args.rule.now.right c.items-items.ensures.items) c.requires.insides

pub tell_items-requires-clause-insides : goal.tell_items-requires-clause-insides
tell_items-requires-clause-insides g c = subst (AllBelow (length c.args.insides.now)) (holes_of_items c.items-items.result.now c.args.rule.now.right c.items-items.ensures.items) c.requires.insides

pub tell_items-requires-clause-outsides : goal.tell_items-requires-clause-outsides
tell_items-requires-clause-outsides g c = subst (AllBelow (length c.args.outsides.now)) (holes_of_items c.items-items.result.now c.args.rule.now.right c.items-items.ensures.items) c.requires.outsides

pub returns : goal.returns
returns g c =
    subst (λ (v : Option ℕ). OnOk c.tell_items.result
    (Adds (costs_in c.args.outsides.now) (IsToldFrom g.S.Semiring.product (costs_in c.args.insides.now) v (holes_of c.args.rule.now.right)) (length (holes_of c.args.rule.now.right)) c.args.agenda.now c.tell_items.new.agenda)) c.times.ensures
    (subst (λ (qs : List ℕ). OnOk c.tell_items.result (Adds (costs_in c.args.outsides.now) (IsToldFrom g.S.Semiring.product (costs_in c.args.insides.now) c.times.result qs) (length qs) c.args.agenda.now c.tell_items.new.agenda))
    (sym (holes_of_items c.items-items.result.now c.args.rule.now.right c.items-items.ensures.items)) c.tell_items.ensures)
