use Rattle.std.proofs.Common.{arith, ap, sym, ◌∙◌, subst, length, map, get_or, List, [], ℕ}
use Rattle.std.proofs.lemmas.List.{length-map}
use Rattle.tib_lex.specs.Lists.{Distinct}
use Rattle.tib_grammar.specs.GrammarOf.{named_rule}
use Rattle.tib_grammar.specs.Range.{AreBelow, AreInRange}
use Rattle.tib_grammar.specs.Renaming.{number_in}
use Rattle.tib_inside.specs.Renaming.{AreNumbersOf}
use Rattle.tib_trim.specs.FirstSeen.{states_of}
use Rattle.tib_trim.proofs.FirstSeen.{states_distinct}
use Rattle.tib_trim.proofs.Numbered.{few_states, renamed_range, has_rules}
use Rattle.tib_trim.proofs.seen.renumbered.Goals as goal

pub kept_names-requires-clause-below : goal.kept_names-requires-clause-below
kept_names-requires-clause-below g c = subst (AreBelow (length c.args.names.now)) (sym c.deref.ensures.value) c.requires.below

pub kept_names-requires-clause-distinct : goal.kept_names-requires-clause-distinct
kept_names-requires-clause-distinct g c = subst Distinct (sym (c.deref.ensures.value ∙ c.requires.states)) (states_distinct c.args.rules.items)

pub kept_names-requires-clause-few : goal.kept_names-requires-clause-few
kept_names-requires-clause-few g c =
    let few =
    few_states c.deref.result.now (length c.args.names.now) (subst Distinct (sym (c.deref.ensures.value ∙ c.requires.states)) (states_distinct c.args.rules.items))
    (subst (AreBelow (length c.args.names.now)) (sym c.deref.ensures.value) c.requires.below)
    in
    omega (arith, few, c.is_sound.ensures.few)

pub renamed-requires : goal.renamed-requires
renamed-requires g c = subst (λ (xs : List ℕ). AreInRange (length xs) c.args.rules.items) (sym c.deref-2.ensures.value) c.requires.range

pub grammar_from-requires-clause-some : goal.grammar_from-requires-clause-some
grammar_from-requires-clause-some g c =
    omega (arith, ap length c.in_ok-kept.ensures, length-map c.deref.result.now (λ q. get_or c.args.names.now q []), ap length c.deref.ensures.value, ap length c.requires.states)

pub grammar_from-requires-clause-few : goal.grammar_from-requires-clause-few
grammar_from-requires-clause-few g c =
    omega (arith, ap length c.renamed.ensures, length-map c.args.rules.items (named_rule (number_in c.deref-2.result.now)), c.requires.few)

pub grammar_from-requires-clause-range : goal.grammar_from-requires-clause-range
grammar_from-requires-clause-range g c =
    let are : AreNumbersOf (states_of c.args.rules.items) c.deref-2.result.now = subst (λ (xs : List ℕ). AreNumbersOf xs c.deref-2.result.now) c.requires.states (subst (AreNumbersOf c.args.seen.now.states.items) (sym c.deref-2.ensures.value) c.requires.numbers) in
    let long = ap length c.in_ok-kept.ensures ∙ length-map c.deref.result.now (λ q. get_or c.args.names.now q []) ∙ ap length c.deref.ensures.value ∙ ap length c.requires.states in
    subst (λ n. AreInRange n c.renamed.result.items) (sym long) (renamed_range c.args.rules.items c.deref-2.result.now are c.requires.closed c.renamed.result.items c.renamed.ensures)

pub returns : goal.returns
returns g c =
    let are : AreNumbersOf (states_of c.args.rules.items) c.deref-2.result.now = subst (λ (xs : List ℕ). AreNumbersOf xs c.deref-2.result.now) c.requires.states (subst (AreNumbersOf c.args.seen.now.states.items) (sym c.deref-2.ensures.value) c.requires.numbers) in
    has_rules c.args.rules.items c.deref-2.result.now are c.requires.closed c.args.names.now c.grammar_from.result c.requires.leaves
    (c.grammar_from.ensures.names ∙ c.in_ok-kept.ensures ∙ ap (map (λ q. get_or c.args.names.now q [])) (c.deref.ensures.value ∙ c.requires.states)) (c.grammar_from.ensures.rules ∙ c.renamed.ensures)
