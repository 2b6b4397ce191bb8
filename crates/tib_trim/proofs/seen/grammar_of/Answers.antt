use Rattle.std.proofs.Common.{ℕ, ap, sym, subst, ◌∙◌, length}
use Rattle.tib_grammar.specs.Range.{AreBelow}
use Rattle.tib_trim.specs.FirstSeen.{IsEach, states_of}
use Rattle.tib_trim.proofs.FirstSeen.{states_below}
use Rattle.tib_trim.proofs.Numbered.{in_place}
use Rattle.tib_trim.proofs.seen.grammar_of.Goals as goal

pub returns-then-are_in_place : goal.returns-then-are_in_place
returns-then-are_in_place g c =
    in_place c.args.names c.args.rules.items c.deref-2.result.now c.grammar_from.result
    (subst (λ (n : ℕ). IsEach n c.deref-2.result.now) c.len-count.ensures (c.are_in_place.ensures c.if-are_in_place.true))
    (c.deref-2.ensures.value ∙ c.in_ok-seen.ensures.states ∙ ap states_of c.deref.ensures.value) c.requires.range c.requires.leaves c.grammar_from.ensures.names c.grammar_from.ensures.rules

pub renumbered-requires-clause-below : goal.renumbered-requires-clause-below
renumbered-requires-clause-below g c =
    subst (AreBelow (length c.args.names)) (sym (c.in_ok-seen.ensures.states ∙ ap states_of c.deref.ensures.value)) (states_below (length c.args.names) c.args.rules.items c.requires.some c.requires.range)
