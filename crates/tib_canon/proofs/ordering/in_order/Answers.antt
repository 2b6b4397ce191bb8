use Rattle.std.proofs.Common.{refl}
use Rattle.tib_canon.proofs.Within.{rules_printed, positions_below, same_texts, are_ready, sorted_known, lines_below, lines_apart, few_sorted, kept_in_range, over_states, some_names, printed_text}
use Rattle.tib_canon.proofs.ordering.in_order.Goals as goal

pub texts_at-requires-clause-below : goal.texts_at-requires-clause-below
texts_at-requires-clause-below g c = positions_below c.args.rules.items c.deref.result.now c.deref-2.result.now c.in_ok-positions.positions.items c.deref-3.result.now c.deref.ensures.value c.deref-2.ensures.value c.in_ok-positions.ensures c.deref-3.ensures.value

pub texts_at-requires-clause-within : goal.texts_at-requires-clause-within
texts_at-requires-clause-within g c = rules_printed c.in_ok-names.names c.args.labels.now c.args.rules.items c.deref-2.result.now c.args.states c.deref-2.ensures.value c.in_ok-names.ensures c.requires.range c.requires.leaves c.requires.labelled

pub lines_at-requires-clause-below : goal.lines_at-requires-clause-below
lines_at-requires-clause-below g c = positions_below c.args.rules.items c.deref.result.now c.deref-4.result.now c.in_ok-positions.positions.items c.deref-5.result.now c.deref.ensures.value c.deref-4.ensures.value c.in_ok-positions.ensures c.deref-5.ensures.value

pub lines_at-requires-clause-texts : goal.lines_at-requires-clause-texts
lines_at-requires-clause-texts g c = (
  g.S.Semiring.SCALE,
  c.in_ok-names.names,
  c.args.labels.now,
  same_texts g.S.Semiring.SCALE c.in_ok-names.names c.args.labels.now c.args.rules.items c.deref-2.result.now c.deref-4.result.now c.in_ok-positions.positions.items c.deref-3.result.now c.deref-5.result.now
      c.in_ok-texts.texts.sink.bytes c.in_ok-texts.texts.ends.items c.deref-2.ensures.value c.deref-4.ensures.value c.deref-3.ensures.value c.deref-5.ensures.value c.in_ok-texts.ensures,
)

pub rules_at-requires-clause-below : goal.rules_at-requires-clause-below
rules_at-requires-clause-below g c =
    let ready = are_ready g.S.Semiring.SCALE c.args.labels.now c.args.states c.args.rules.items c.in_ok-names.names c.in_ok-positions.positions.items c.in_ok-lines.lines.items c.deref.result.now c.deref-2.result.now c.deref-4.result.now c.deref-3.result.now c.deref-5.result.now
    c.in_ok-texts.texts.sink.bytes c.in_ok-texts.texts.ends.items c.deref.ensures.value c.deref-2.ensures.value c.deref-4.ensures.value c.deref-3.ensures.value c.deref-5.ensures.value c.in_ok-names.ensures c.in_ok-positions.ensures c.in_ok-texts.ensures c.in_ok-lines.ensures.lines c.in_ok-lines.ensures.positions in
    let known = sorted_known g.S.Semiring.SCALE c.args.labels.now c.args.states c.args.rules.items c.in_ok-names.names c.in_ok-positions.positions.items c.in_ok-lines.lines.items c.sort.new.self.items ready
    c.in_ok-sort.ensures.permutation c.in_ok-sort.ensures.sorted c.is_sound.ensures.names c.len.ensures.distinct c.requires.range c.requires.leaves c.requires.labelled in
    lines_below g.S.Semiring.SCALE c.args.labels.now c.args.states c.args.rules.items c.sort.new.self.items c.deref-6.result.now known c.deref-6.ensures.value

pub rules_at-requires-clause-apart : goal.rules_at-requires-clause-apart
rules_at-requires-clause-apart g c =
    let ready = are_ready g.S.Semiring.SCALE c.args.labels.now c.args.states c.args.rules.items c.in_ok-names.names c.in_ok-positions.positions.items c.in_ok-lines.lines.items c.deref.result.now c.deref-2.result.now c.deref-4.result.now c.deref-3.result.now c.deref-5.result.now
    c.in_ok-texts.texts.sink.bytes c.in_ok-texts.texts.ends.items c.deref.ensures.value c.deref-2.ensures.value c.deref-4.ensures.value c.deref-3.ensures.value c.deref-5.ensures.value c.in_ok-names.ensures c.in_ok-positions.ensures c.in_ok-texts.ensures c.in_ok-lines.ensures.lines c.in_ok-lines.ensures.positions in
    let known = sorted_known g.S.Semiring.SCALE c.args.labels.now c.args.states c.args.rules.items c.in_ok-names.names c.in_ok-positions.positions.items c.in_ok-lines.lines.items c.sort.new.self.items ready
    c.in_ok-sort.ensures.permutation c.in_ok-sort.ensures.sorted c.is_sound.ensures.names c.len.ensures.distinct c.requires.range c.requires.leaves c.requires.labelled in
    lines_apart g.S.Semiring.SCALE c.args.labels.now c.args.states c.args.rules.items c.sort.new.self.items c.deref-6.result.now known c.deref-6.ensures.value

pub new-requires : goal.new-requires
new-requires g c =
    let ready = are_ready g.S.Semiring.SCALE c.args.labels.now c.args.states c.args.rules.items c.in_ok-names.names c.in_ok-positions.positions.items c.in_ok-lines.lines.items c.deref.result.now c.deref-2.result.now c.deref-4.result.now c.deref-3.result.now c.deref-5.result.now
    c.in_ok-texts.texts.sink.bytes c.in_ok-texts.texts.ends.items c.deref.ensures.value c.deref-2.ensures.value c.deref-4.ensures.value c.deref-3.ensures.value c.deref-5.ensures.value c.in_ok-names.ensures c.in_ok-positions.ensures c.in_ok-texts.ensures c.in_ok-lines.ensures.lines c.in_ok-lines.ensures.positions in
    let known = sorted_known g.S.Semiring.SCALE c.args.labels.now c.args.states c.args.rules.items c.in_ok-names.names c.in_ok-positions.positions.items c.in_ok-lines.lines.items c.sort.new.self.items ready
    c.in_ok-sort.ensures.permutation c.in_ok-sort.ensures.sorted c.is_sound.ensures.names c.len.ensures.distinct c.requires.range c.requires.leaves c.requires.labelled in
    few_sorted g.S.Semiring.SCALE c.args.labels.now c.args.states c.args.rules.items c.sort.new.self.items c.deref-6.result.now known c.deref-6.ensures.value c.in_ok-sorted.sorted.items c.in_ok-sorted.ensures c.requires.few

pub unreachable-requires : goal.unreachable-requires
unreachable-requires g c =
    let ready = are_ready g.S.Semiring.SCALE c.args.labels.now c.args.states c.args.rules.items c.in_ok-names.names c.in_ok-positions.positions.items c.in_ok-lines.lines.items c.deref.result.now c.deref-2.result.now c.deref-4.result.now c.deref-3.result.now c.deref-5.result.now
    c.in_ok-texts.texts.sink.bytes c.in_ok-texts.texts.ends.items c.deref.ensures.value c.deref-2.ensures.value c.deref-4.ensures.value c.deref-3.ensures.value c.deref-5.ensures.value c.in_ok-names.ensures c.in_ok-positions.ensures c.in_ok-texts.ensures c.in_ok-lines.ensures.lines c.in_ok-lines.ensures.positions in
    let known = sorted_known g.S.Semiring.SCALE c.args.labels.now c.args.states c.args.rules.items c.in_ok-names.names c.in_ok-positions.positions.items c.in_ok-lines.lines.items c.sort.new.self.items ready
    c.in_ok-sort.ensures.permutation c.in_ok-sort.ensures.sorted c.is_sound.ensures.names c.len.ensures.distinct c.requires.range c.requires.leaves c.requires.labelled in
    c.in-None.ensures.none refl (some_names c.in_ok-names.names c.args.states c.in_ok-names.ensures c.requires.some)
    (kept_in_range g.S.Semiring.SCALE c.args.labels.now c.args.states c.args.rules.items c.sort.new.self.items c.deref-6.result.now known c.deref-6.ensures.value c.in_ok-sorted.sorted.items c.in_ok-sorted.ensures c.in_ok-names.names c.in_ok-names.ensures c.requires.range)

pub returns-clause-in_order : goal.returns-clause-in_order
returns-clause-in_order g c =
    let ready = are_ready g.S.Semiring.SCALE c.args.labels.now c.args.states c.args.rules.items c.in_ok-names.names c.in_ok-positions.positions.items c.in_ok-lines.lines.items c.deref.result.now c.deref-2.result.now c.deref-4.result.now c.deref-3.result.now c.deref-5.result.now
    c.in_ok-texts.texts.sink.bytes c.in_ok-texts.texts.ends.items c.deref.ensures.value c.deref-2.ensures.value c.deref-4.ensures.value c.deref-3.ensures.value c.deref-5.ensures.value c.in_ok-names.ensures c.in_ok-positions.ensures c.in_ok-texts.ensures c.in_ok-lines.ensures.lines c.in_ok-lines.ensures.positions in
    let known = sorted_known g.S.Semiring.SCALE c.args.labels.now c.args.states c.args.rules.items c.in_ok-names.names c.in_ok-positions.positions.items c.in_ok-lines.lines.items c.sort.new.self.items ready
    c.in_ok-sort.ensures.permutation c.in_ok-sort.ensures.sorted c.is_sound.ensures.names c.len.ensures.distinct c.requires.range c.requires.leaves c.requires.labelled in
    over_states g.S.Semiring.SCALE c.args.labels.now c.args.states c.args.rules.items c.sort.new.self.items c.deref-6.result.now known c.deref-6.ensures.value c.in_ok-sorted.sorted.items c.in_ok-sorted.ensures c.in_ok-names.names c.in-Some.grammar c.in_ok-names.ensures c.in-Some.ensures.names c.in-Some.ensures.rules

pub returns-clause-text : goal.returns-clause-text
returns-clause-text g c =
    let ready = are_ready g.S.Semiring.SCALE c.args.labels.now c.args.states c.args.rules.items c.in_ok-names.names c.in_ok-positions.positions.items c.in_ok-lines.lines.items c.deref.result.now c.deref-2.result.now c.deref-4.result.now c.deref-3.result.now c.deref-5.result.now
    c.in_ok-texts.texts.sink.bytes c.in_ok-texts.texts.ends.items c.deref.ensures.value c.deref-2.ensures.value c.deref-4.ensures.value c.deref-3.ensures.value c.deref-5.ensures.value c.in_ok-names.ensures c.in_ok-positions.ensures c.in_ok-texts.ensures c.in_ok-lines.ensures.lines c.in_ok-lines.ensures.positions in
    let known = sorted_known g.S.Semiring.SCALE c.args.labels.now c.args.states c.args.rules.items c.in_ok-names.names c.in_ok-positions.positions.items c.in_ok-lines.lines.items c.sort.new.self.items ready
    c.in_ok-sort.ensures.permutation c.in_ok-sort.ensures.sorted c.is_sound.ensures.names c.len.ensures.distinct c.requires.range c.requires.leaves c.requires.labelled in
    printed_text g.S.Semiring.SCALE c.args.labels.now c.args.states c.args.rules.items c.sort.new.self.items c.deref-6.result.now known c.deref-6.ensures.value c.in_ok-sorted.sorted.items c.in_ok-sorted.ensures c.in_ok-names.names
    c.in-Some.grammar c.in_ok-names.ensures c.in-Some.ensures.names c.in-Some.ensures.rules c.text.result.now c.deref-7.result.now c.deref-7.ensures.value c.text.ensures c.in_ok-text.text.bytes c.in_ok-text.ensures

pub text-requires : goal.text-requires
text-requires g c = some_names c.in_ok-names.names c.args.states c.in_ok-names.ensures c.requires.some
