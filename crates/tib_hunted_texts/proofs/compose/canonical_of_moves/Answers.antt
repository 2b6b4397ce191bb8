use Rattle.std.proofs.Common.{arith}
use Rattle.std.proofs.lemmas.Result.{IfOk-at_ok}
use Rattle.tib_operations.proofs.Composed.{keys_once, some_keys, moves_found, composed_text}
use Rattle.tib_hunted_texts.proofs.compose.canonical_of_moves.Goals as goal

pub to_transducer-requires-clause-distinct : goal.to_transducer-requires-clause-distinct
to_transducer-requires-clause-distinct g c =
    keys_once g.met.S.Semiring.laws g.S.Semiring.SCALE c.args.labels.now c.args.first.now c.args.second.now c.requires.first c.requires.second c.in-Ok.found.order.items c.in-Ok.found.rules.items (IfOk-at_ok _ c.in-Ok.is c.requires.reached) (IfOk-at_ok _ c.in-Ok.is c.requires.range)

pub to_transducer-requires-clause-start : goal.to_transducer-requires-clause-start
to_transducer-requires-clause-start g c =
    some_keys g.met.S.Semiring.laws g.S.Semiring.SCALE c.args.labels.now c.args.first.now c.args.second.now c.requires.first c.requires.second c.in-Ok.found.order.items c.in-Ok.found.rules.items (IfOk-at_ok _ c.in-Ok.is c.requires.reached) (IfOk-at_ok _ c.in-Ok.is c.requires.range)

pub to_transducer-requires-clause-moves : goal.to_transducer-requires-clause-moves
to_transducer-requires-clause-moves g c =
    moves_found g.met.S.Semiring.laws g.S.Semiring.SCALE c.args.labels.now c.args.first.now c.args.second.now c.requires.first c.requires.second c.in-Ok.found.order.items c.in-Ok.found.rules.items (IfOk-at_ok _ c.in-Ok.is c.requires.reached) (IfOk-at_ok _ c.in-Ok.is c.requires.range)

pub returns-in-Ok-to_transducer-clause-transducer : goal.returns-in-Ok-to_transducer-clause-transducer
returns-in-Ok-to_transducer-clause-transducer g c =
    composed_text g.met.S.Semiring.laws g.S.Semiring.SCALE c.args.labels.now c.args.first.now c.args.second.now c.requires.first c.requires.second c.in-Ok.found.order.items c.in-Ok.found.rules.items (IfOk-at_ok _ c.in-Ok.is c.requires.reached) (IfOk-at_ok _ c.in-Ok.is c.requires.range)
    c.args.limit (omega (arith, c.requires.limit)) c.requires.class (omega (arith, (IfOk-at_ok _ c.in-Ok.is c.requires.parts), (IfOk-at_ok _ c.in-Ok.is c.requires.within))) (IfOk-at_ok _ c.in-Ok.is c.requires.few) c.in-Ok-to_transducer.canonical.transducer c.in-Ok-to_transducer.ensures.canonical
    c.in-Ok-to_transducer.canonical.text.bytes c.in-Ok-to_transducer.ensures.text

pub returns-in-Ok-to_transducer-clause-text : goal.returns-in-Ok-to_transducer-clause-text
returns-in-Ok-to_transducer-clause-text g c = (returns-in-Ok-to_transducer-clause-transducer g c).0

pub returns-in-Ok-to_transducer-clause-within : goal.returns-in-Ok-to_transducer-clause-within
returns-in-Ok-to_transducer-clause-within g c = record {
  order = c.in-Ok.found.order.items;
  edges = _;
  reached = IfOk-at_ok _ c.in-Ok.is c.requires.reached;
  within = omega (arith, (IfOk-at_ok _ c.in-Ok.is c.requires.parts), (IfOk-at_ok _ c.in-Ok.is c.requires.within));
}

pub to_transducer-requires-clause-few : goal.to_transducer-requires-clause-few
to_transducer-requires-clause-few g c = omega (arith, IfOk-at_ok _ c.in-Ok.is c.requires.few, c.requires.limit)

pub to_transducer-requires-clause-few_rules : goal.to_transducer-requires-clause-few_rules
to_transducer-requires-clause-few_rules g c = omega (arith, IfOk-at_ok _ c.in-Ok.is c.requires.few_rules, c.requires.limit)
