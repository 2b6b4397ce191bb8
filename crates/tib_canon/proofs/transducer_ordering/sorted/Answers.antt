use Rattle.std.proofs.Common.{◌<◌, ◌∙◌, [], ◌∷◌, length, map, refl, sym, ap, subst, get_or}
use Rattle.tib_transducer.specs.Range.{AreWithin}
use Rattle.tib_transducer_file.proofs.PrintedBytes.{lines_in}
use Rattle.tib_canon.proofs.Merged.{kept_within, kept_shaped}
use Rattle.tib_canon.proofs.Sorted.{sorted_ready, has_lines, many_lines, given_below, given_apart, few_rules, stand, form_is, text_is, all_labelled}
use Rattle.tib_canon.proofs.transducer_ordering.sorted.Goals as goal

pub printed-requires : goal.printed-requires
printed-requires g c = all_labelled g.S.Semiring.SCALE c.args.labels.now c.args.transducer.rules c.requires.printable

pub lines_in-requires : goal.lines_in-requires
lines_in-requires g c = (
  get_or c.args.transducer.names 0 [] ∷ lines_in g.S.Semiring.SCALE c.args.transducer.names c.args.labels.now c.args.transducer.rules,
  has_lines g.S.Semiring.SCALE c.args.labels.now c.args.transducer c.bytes.result.now c.in_ok-printed.printed.bytes c.bytes.ensures c.in_ok-printed.ensures c.is_sound.ensures.names c.requires.printable c.is_sound.ensures.shaped c.is_sound.ensures.range
      c.is_sound.ensures.leaves,
)

pub lines_of-requires-clause-many : goal.lines_of-requires-clause-many
lines_of-requires-clause-many g c =
    many_lines (λ l. l.now) g.S.Semiring.SCALE c.args.transducer.names c.args.labels.now c.args.transducer.rules c.rule_list.result.now c.in_ok-texts.texts.items c.deref.result.now
    (c.in_ok-texts.ensures (get_or c.args.transducer.names 0 [] ∷ lines_in g.S.Semiring.SCALE c.args.transducer.names c.args.labels.now c.args.transducer.rules)
    (has_lines g.S.Semiring.SCALE c.args.labels.now c.args.transducer c.bytes.result.now c.in_ok-printed.printed.bytes c.bytes.ensures c.in_ok-printed.ensures c.is_sound.ensures.names c.requires.printable c.is_sound.ensures.shaped
    c.is_sound.ensures.range c.is_sound.ensures.leaves))
    c.deref.ensures.value c.rule_list.ensures

pub rules_at-requires-clause-below : goal.rules_at-requires-clause-below
rules_at-requires-clause-below g c =
    let ready = sorted_ready g.S.Semiring.SCALE c.args.labels.now c.args.transducer c.bytes.result.now c.in_ok-printed.printed.bytes (map (λ l. l.now) c.deref.result.now) c.in_ok-lines.lines.items c.sort.new.self.items c.rule_list.result.now
    c.bytes.ensures c.in_ok-printed.ensures (λ ls are. ap (map (λ l. l.now)) c.deref.ensures.value ∙ c.in_ok-texts.ensures ls are) c.rule_list.ensures c.in_ok-lines.ensures.lines c.in_ok-lines.ensures.positions c.in_ok-sort.ensures.permutation
    c.in_ok-sort.ensures.sorted c.is_sound.ensures.names c.len.ensures.distinct c.requires.printable c.is_sound.ensures.shaped c.is_sound.ensures.range c.is_sound.ensures.leaves c.requires.apart in
    given_below g.S.Semiring.SCALE c.args.labels.now c.args.transducer c.sort.new.self.items ready c.deref-3.result.now c.in_ok-positions.positions.items c.deref-3.ensures.value c.in_ok-positions.ensures c.deref-4.result.now c.deref-4.ensures.value
    c.into_parts-names.result.1.items c.into_parts-names.ensures.rules

pub rules_at-requires-clause-apart : goal.rules_at-requires-clause-apart
rules_at-requires-clause-apart g c =
    let ready = sorted_ready g.S.Semiring.SCALE c.args.labels.now c.args.transducer c.bytes.result.now c.in_ok-printed.printed.bytes (map (λ l. l.now) c.deref.result.now) c.in_ok-lines.lines.items c.sort.new.self.items c.rule_list.result.now
    c.bytes.ensures c.in_ok-printed.ensures (λ ls are. ap (map (λ l. l.now)) c.deref.ensures.value ∙ c.in_ok-texts.ensures ls are) c.rule_list.ensures c.in_ok-lines.ensures.lines c.in_ok-lines.ensures.positions c.in_ok-sort.ensures.permutation
    c.in_ok-sort.ensures.sorted c.is_sound.ensures.names c.len.ensures.distinct c.requires.printable c.is_sound.ensures.shaped c.is_sound.ensures.range c.is_sound.ensures.leaves c.requires.apart in
    given_apart g.S.Semiring.SCALE c.args.labels.now c.args.transducer c.sort.new.self.items ready c.deref-3.result.now c.in_ok-positions.positions.items c.deref-3.ensures.value c.in_ok-positions.ensures c.deref-4.result.now c.deref-4.ensures.value
    c.into_parts-names.result.1.items c.into_parts-names.ensures.rules

pub new-requires : goal.new-requires
new-requires g c =
    let ready = sorted_ready g.S.Semiring.SCALE c.args.labels.now c.args.transducer c.bytes.result.now c.in_ok-printed.printed.bytes (map (λ l. l.now) c.deref.result.now) c.in_ok-lines.lines.items c.sort.new.self.items c.rule_list.result.now
    c.bytes.ensures c.in_ok-printed.ensures (λ ls are. ap (map (λ l. l.now)) c.deref.ensures.value ∙ c.in_ok-texts.ensures ls are) c.rule_list.ensures c.in_ok-lines.ensures.lines c.in_ok-lines.ensures.positions c.in_ok-sort.ensures.permutation
    c.in_ok-sort.ensures.sorted c.is_sound.ensures.names c.len.ensures.distinct c.requires.printable c.is_sound.ensures.shaped c.is_sound.ensures.range c.is_sound.ensures.leaves c.requires.apart in
    few_rules g.S.Semiring.SCALE c.args.labels.now c.args.transducer c.sort.new.self.items ready c.deref-3.result.now c.in_ok-positions.positions.items c.deref-3.ensures.value c.in_ok-positions.ensures c.deref-4.result.now c.deref-4.ensures.value
    c.into_parts-names.result.1.items c.into_parts-names.ensures.rules c.in_ok-sorted.sorted.items c.in_ok-sorted.ensures c.is_sound.ensures.few_rules

pub unreachable-requires : goal.unreachable-requires
unreachable-requires g c =
    let ready = sorted_ready g.S.Semiring.SCALE c.args.labels.now c.args.transducer c.bytes.result.now c.in_ok-printed.printed.bytes (map (λ l. l.now) c.deref.result.now) c.in_ok-lines.lines.items c.sort.new.self.items c.rule_list.result.now
    c.bytes.ensures c.in_ok-printed.ensures (λ ls are. ap (map (λ l. l.now)) c.deref.ensures.value ∙ c.in_ok-texts.ensures ls are) c.rule_list.ensures c.in_ok-lines.ensures.lines c.in_ok-lines.ensures.positions c.in_ok-sort.ensures.permutation
    c.in_ok-sort.ensures.sorted c.is_sound.ensures.names c.len.ensures.distinct c.requires.printable c.is_sound.ensures.shaped c.is_sound.ensures.range c.is_sound.ensures.leaves c.requires.apart in
    let all = stand g.S.Semiring.SCALE c.args.labels.now c.args.transducer c.sort.new.self.items ready c.deref-3.result.now c.in_ok-positions.positions.items c.deref-3.ensures.value c.in_ok-positions.ensures c.deref-4.result.now c.deref-4.ensures.value
    c.into_parts-names.result.1.items c.into_parts-names.ensures.rules c.in_ok-sorted.sorted.items c.in_ok-sorted.ensures in
    c.in-None.ensures.none refl (subst (λ ns. 0 < length ns) (sym c.into_parts-names.ensures.names) c.is_sound.ensures.start)
    (subst (λ ns. AreWithin (length ns) c.in_ok-sorted.sorted.items) (sym c.into_parts-names.ensures.names) (kept_within (length c.args.transducer.names) c.args.transducer.rules c.in_ok-sorted.sorted.items all c.is_sound.ensures.range))
    (kept_shaped c.args.transducer.rules c.in_ok-sorted.sorted.items all c.is_sound.ensures.shaped)

pub returns-clause-sorted : goal.returns-clause-sorted
returns-clause-sorted g c =
    let ready = sorted_ready g.S.Semiring.SCALE c.args.labels.now c.args.transducer c.bytes.result.now c.in_ok-printed.printed.bytes (map (λ l. l.now) c.deref.result.now) c.in_ok-lines.lines.items c.sort.new.self.items c.rule_list.result.now
    c.bytes.ensures c.in_ok-printed.ensures (λ ls are. ap (map (λ l. l.now)) c.deref.ensures.value ∙ c.in_ok-texts.ensures ls are) c.rule_list.ensures c.in_ok-lines.ensures.lines c.in_ok-lines.ensures.positions c.in_ok-sort.ensures.permutation
    c.in_ok-sort.ensures.sorted c.is_sound.ensures.names c.len.ensures.distinct c.requires.printable c.is_sound.ensures.shaped c.is_sound.ensures.range c.is_sound.ensures.leaves c.requires.apart in
    form_is g.S.Semiring.SCALE c.args.labels.now c.args.transducer c.sort.new.self.items ready c.deref-3.result.now c.in_ok-positions.positions.items c.deref-3.ensures.value c.in_ok-positions.ensures c.deref-4.result.now c.deref-4.ensures.value
    c.into_parts-names.result.1.items c.into_parts-names.ensures.rules c.in_ok-sorted.sorted.items c.in_ok-sorted.ensures c.in-Some.transducer c.into_parts-names.result.0 c.in-Some.ensures.names c.into_parts-names.ensures.names c.in-Some.ensures.rules

pub returns-clause-text : goal.returns-clause-text
returns-clause-text g c =
    let ready = sorted_ready g.S.Semiring.SCALE c.args.labels.now c.args.transducer c.bytes.result.now c.in_ok-printed.printed.bytes (map (λ l. l.now) c.deref.result.now) c.in_ok-lines.lines.items c.sort.new.self.items c.rule_list.result.now
    c.bytes.ensures c.in_ok-printed.ensures (λ ls are. ap (map (λ l. l.now)) c.deref.ensures.value ∙ c.in_ok-texts.ensures ls are) c.rule_list.ensures c.in_ok-lines.ensures.lines c.in_ok-lines.ensures.positions c.in_ok-sort.ensures.permutation
    c.in_ok-sort.ensures.sorted c.is_sound.ensures.names c.len.ensures.distinct c.requires.printable c.is_sound.ensures.shaped c.is_sound.ensures.range c.is_sound.ensures.leaves c.requires.apart in
    text_is g.S.Semiring.SCALE c.args.labels.now c.args.transducer c.sort.new.self.items ready c.deref-3.result.now c.in_ok-positions.positions.items c.deref-3.ensures.value c.in_ok-positions.ensures c.deref-4.result.now c.deref-4.ensures.value
    c.into_parts-names.result.1.items c.into_parts-names.ensures.rules c.in_ok-sorted.sorted.items c.in_ok-sorted.ensures c.in-Some.transducer c.into_parts-names.result.0 c.in-Some.ensures.names c.into_parts-names.ensures.names c.in-Some.ensures.rules c.name.result.now c.in_ok-text.text.bytes c.deref-2.result.now
    c.name.ensures c.deref-2.ensures.value c.in_ok-text.ensures
