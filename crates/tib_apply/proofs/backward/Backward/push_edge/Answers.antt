use Rattle.std.proofs.Common.{◌∙◌, ap, length, get_or, List, ℕ, arith, refl}
use Rattle.tib_grammar.proofs.Holes.{holes_of_items}
use Rattle.tib_apply.specs.Restrictions.{restricted_labels}
use Rattle.tib_apply.specs.BackwardLists.{variable_key}
use Rattle.tib_apply.proofs.BackwardEdges.{numbers_fit, numbers_room, pairs_fit, edge_added, edge_within}
use Rattle.tib_apply.proofs.backward.Backward.push_edge.Goals as goal

pub states_by_variable-requires-clause-as_many : goal.states_by_variable-requires-clause-as_many
states_by_variable-requires-clause-as_many g c =
    ap length (c.deref.ensures ∙ ap (λ (m : List ℕ × ℕ). m.0) c.found.view_is) ∙ c.requires.as_many ∙ ap length (holes_of_items c.items.result.now c.args.rule.now.right c.items.ensures.items)

pub states_by_variable-requires-clause-known : goal.states_by_variable-requires-clause-known
states_by_variable-requires-clause-known g c =
    pairs_fit c.args.rule.now.left c.items-items.result.now c.items-items.ensures.items c.requires.shaped.numbered c.args.rule.now.right c.items.result.now c.items.ensures.items c.requires.shaped.known

pub push_keys-requires : goal.push_keys-requires
push_keys-requires g c =
    numbers_fit c.args.rule.now.left c.items-items.result.now c.items-items.ensures.items c.requires.shaped.numbered (length c.deref-2.result.now) (ap length c.deref-2.ensures.value ∙ c.in_ok-states.ensures.long)

pub number_variables-requires-clause-few : goal.number_variables-requires-clause-few
number_variables-requires-clause-few g c = omega (arith, c.requires.room, c.requires.within.budget)

pub number_variables-requires-clause-numbers : goal.number_variables-requires-clause-numbers
number_variables-requires-clause-numbers g c =
    numbers_room c.args.rule.now.left c.items-items.result.now c.items-items.ensures.items c.requires.shaped.numbered c.len-first.result c.args.list.now.parts c.args.list.now.budget
    (omega (arith, c.requires.within.few, c.len-first.ensures, c.args.list.now.ends.ok.0)) c.requires.room c.requires.within.budget

pub returns-clause-added : goal.returns-clause-added
returns-clause-added g c key =
    edge_added c.args.rule.now c.items-items.result.now c.items.result.now c.items-items.ensures.items c.items.ensures.items c.requires.shaped c.items-items.ensures.leaves (restricted_labels c.args.self.now.transducer.now.rules)
    c.args.self.now.restrictions c.args.found.now.0 c.deref.result.now c.deref-2.result.now c.args.self.now.numbered (c.deref.ensures ∙ ap (λ (m : List ℕ × ℕ). m.0) c.found.view_is)
    (λ i h. ap (λ (xs : List (ℕ × ℕ)). get_or xs i (0, 0)) c.deref-2.ensures.value ∙ c.in_ok-states.ensures.at i h) c.args.cost c.len-first.result c.requires.cost c.args.list.now _
    (omega (arith, c.len-first.ensures, c.args.list.now.ends.ok.0)) c.in_ok-push_keys.ensures c.in_ok-right.right c.in_ok-right.ensures c.in_ok-push.ensures.items refl key

pub returns-clause-within : goal.returns-clause-within
returns-clause-within g c =
    edge_within c.args.rule.now.left c.items-items.result.now (variable_key c.args.self.now.restrictions c.deref-2.result.now) c.args.list.now _ c.items-items.ensures.items c.requires.within c.requires.room
    c.in_ok-push_keys.ensures refl refl
