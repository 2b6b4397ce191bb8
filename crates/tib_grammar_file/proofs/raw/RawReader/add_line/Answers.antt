use Rattle.std.proofs.Common.{arith, inl, inr, sym, ◌∙◌, refl, ◌≡◌, ◌<◌, length, subst, List}
use Rattle.std.proofs.lemmas.Bool.Decides.{nat_tests}
use Rattle.tib_lex.specs.Line.{word_at, text_of}
use Rattle.tib_tree.specs.declared.shape.Place.{Place}
use Rattle.tib_tree.specs.Shape.{items_back}
use Rattle.tib_tree.proofs.Steps.{accepted, refused}
use Rattle.tib_grammar_file.specs.Rule.{RuleLine, rule_line_of}
use Rattle.tib_grammar_file.specs.Raw.{AddsNodes}
use Rattle.tib_grammar_file.proofs.PartsRead.{some_found, bad_rule_line, blank_rule_line, no_rule_line, cost_failed, large_rule_line, good_rule_line, line_few}
use Rattle.tib_grammar_file.proofs.RawRead.{nodes_long}
use Rattle.tib_grammar_file.proofs.raw.RawReader.add_line.Goals as goal
use Rattle.tib_tree.proofs.LineRead.{back_long}

pub returns-then-not-branch-clause-line : goal.returns-then-not-branch-clause-line
returns-then-not-branch-clause-line c =
    bad_rule_line c.args.scale c.args.line.now (refused c.in_ok-read_tokens.field-0 _ _ c.if-not-branch.true c.in_ok-read_tokens.ensures.words)

pub returns-then-is_empty-clause-line : goal.returns-then-is_empty-clause-line
returns-then-is_empty-clause-line c =
    let ts = c.read_tokens.new.tokens in
    let e = c.if-is_empty.ensures in
    let n : length ts.items ≡ 0 = grind (arith, nat_tests, ts.ok.0) in
    inl (blank_rule_line c.args.scale c.args.line.now ts.items (accepted c.in_ok-read_tokens.field-0 _ _ c.if-not-branch.false c.in_ok-read_tokens.ensures.words) n, refl, refl)

pub returns-in-None-clause-line : goal.returns-in-None-clause-line
returns-in-None-clause-line c =
    let ts = c.read_tokens.new.tokens in
    let e = c.if-is_empty.ensures in
    let n : 0 < length ts.items = grind (arith, nat_tests, ts.ok.0) in
    let s = some_found c.args.line.now ts.items c.deref.result.now c.read_parts.new.reader.places.items c.in_ok-found.field-0 _ (accepted c.in_ok-read_tokens.field-0 _ _ c.if-not-branch.false c.in_ok-read_tokens.ensures.words) n c.deref.ensures.value c.in_ok-found.ensures.parts c.in-None.is in
    no_rule_line c.args.scale c.args.line.now ts.items c.deref.result.now s

pub returns-in-Err-clause-line : goal.returns-in-Err-clause-line
returns-in-Err-clause-line c =
    let ts = c.read_tokens.new.tokens in
    let e = c.if-is_empty.ensures in
    let n : 0 < length ts.items = grind (arith, nat_tests, ts.ok.0) in
    let s = some_found c.args.line.now ts.items c.deref.result.now c.read_parts.new.reader.places.items c.in_ok-found.field-0 _ (accepted c.in_ok-read_tokens.field-0 _ _ c.if-not-branch.false c.in_ok-read_tokens.ensures.words) n c.deref.ensures.value c.in_ok-found.ensures.parts c.in-Some.is in
    cost_failed c.args.scale c.args.names.now c.args.names.now c.args.texts.now c.args.raw.now c.args.raw.now c.args.line.now ts.items c.deref.result.now c.read_parts.new.reader.places.items c.in-Some.found c.in-Err.error s c.in-Err.ensures

pub returns-then-count-gt-MOST_NODES-clause-line : goal.returns-then-count-gt-MOST_NODES-clause-line
returns-then-count-gt-MOST_NODES-clause-line c =
    let ts = c.read_tokens.new.tokens in
    let e = c.if-is_empty.ensures in
    let n : 0 < length ts.items = grind (arith, nat_tests, ts.ok.0) in
    let s = some_found c.args.line.now ts.items c.deref.result.now c.read_parts.new.reader.places.items c.in_ok-found.field-0 _ (accepted c.in_ok-read_tokens.field-0 _ _ c.if-not-branch.false c.in_ok-read_tokens.ensures.words) n c.deref.ensures.value c.in_ok-found.ensures.parts c.in-Some.is in
    large_rule_line c.args.scale c.args.line.now ts.items c.deref.result.now _ c.read_parts.new.reader.places.items _ c.in-Ok.cost s c.in-Ok.ensures (omega (arith, c.read_parts.new.reader.places.ok.0, c.if-count-gt-MOST_NODES.true))

pub returns-in-Ok-push-clause-line : goal.returns-in-Ok-push-clause-line
returns-in-Ok-push-clause-line c =
    let ts = c.read_tokens.new.tokens in
    let e = c.if-is_empty.ensures in
    let n : 0 < length ts.items = grind (arith, nat_tests, ts.ok.0) in
    let s = some_found c.args.line.now ts.items c.deref.result.now c.read_parts.new.reader.places.items c.in_ok-found.field-0 _ (accepted c.in_ok-read_tokens.field-0 _ _ c.if-not-branch.false c.in_ok-read_tokens.ensures.words) n c.deref.ensures.value c.in_ok-found.ensures.parts c.in-Some.is in
    let line : RuleLine = rule_line_of (text_of (word_at c.args.line.now c.in-Some.found.left)) (items_back c.args.line.now c.read_parts.new.reader.places.items) c.in-Ok.cost in
    inr (
      line,
      good_rule_line c.args.scale c.args.line.now ts.items c.deref.result.now _ c.read_parts.new.reader.places.items _ c.in-Ok.cost s c.in-Ok.ensures (omega (arith, c.read_parts.new.reader.places.ok.0, c.if-count-gt-MOST_NODES.false)),
      record {
        raw = record { left = c.in_ok-left.left; nodes = c.len-count.result; cost = c.in-Ok.cost };
        is = record {
          left = c.in_ok-left.ensures.named;
          nodes = c.len-count.ensures ∙ c.read_parts.new.reader.places.ok.0 ∙ sym (back_long c.args.line.now c.read_parts.new.reader.places.items);
          cost = refl;
        };
        adds = c.in_ok-left.ensures.adds;
        head = c.in-Ok-push.ensures.items;
        body = subst (λ (ps : List Place). AddsNodes c.read_side.new.texts c.args.raw.now.nodes.items c.read_side.new.nodes.items (items_back c.args.line.now ps)) c.deref-2.ensures.value c.in_ok-read_side.ensures.nodes;
      },
    )

pub read_side-requires-clause-room : goal.read_side-requires-clause-room
read_side-requires-clause-room c =
    omega (arith, c.requires.texts, line_few c.args.line.now c.read_tokens.new.tokens.items c.deref.result.now c.read_parts.new.reader.places.items c.deref-2.result.now c.in_ok-found.field-0 c.in-Some.found c.deref.ensures.value c.in_ok-found.ensures.parts c.in-Some.is c.deref-2.ensures.value c.in_ok-read_tokens.ensures.few)

pub returns-in_err-read_side-clause-few_texts : goal.returns-in_err-read_side-clause-few_texts
returns-in_err-read_side-clause-few_texts c =
    omega (arith, c.read_side.ensures.few, line_few c.args.line.now c.read_tokens.new.tokens.items c.deref.result.now c.read_parts.new.reader.places.items c.deref-2.result.now c.in_ok-found.field-0 c.in-Some.found c.deref.ensures.value c.in_ok-found.ensures.parts c.in-Some.is c.deref-2.ensures.value c.in_ok-read_tokens.ensures.few)

pub returns-in-Ok-push-clause-few_texts : goal.returns-in-Ok-push-clause-few_texts
returns-in-Ok-push-clause-few_texts c =
    omega (arith, c.read_side.ensures.few, line_few c.args.line.now c.read_tokens.new.tokens.items c.deref.result.now c.read_parts.new.reader.places.items c.deref-2.result.now c.in_ok-found.field-0 c.in-Some.found c.deref.ensures.value c.in_ok-found.ensures.parts c.in-Some.is c.deref-2.ensures.value c.in_ok-read_tokens.ensures.few)

pub returns-in-Err-push-clause-few_texts : goal.returns-in-Err-push-clause-few_texts
returns-in-Err-push-clause-few_texts c =
    omega (arith, c.read_side.ensures.few, line_few c.args.line.now c.read_tokens.new.tokens.items c.deref.result.now c.read_parts.new.reader.places.items c.deref-2.result.now c.in_ok-found.field-0 c.in-Some.found c.deref.ensures.value c.in_ok-found.ensures.parts c.in-Some.is c.deref-2.ensures.value c.in_ok-read_tokens.ensures.few)

pub returns-in-Ok-push-clause-few_nodes : goal.returns-in-Ok-push-clause-few_nodes
returns-in-Ok-push-clause-few_nodes c =
    omega (
      arith,
      nodes_long c.read_side.new.texts c.args.raw.now.nodes.items c.read_side.new.nodes.items _ c.in_ok-read_side.ensures.nodes,
      back_long c.args.line.now c.deref-2.result.now,
      line_few c.args.line.now c.read_tokens.new.tokens.items c.deref.result.now c.read_parts.new.reader.places.items c.deref-2.result.now c.in_ok-found.field-0 c.in-Some.found c.deref.ensures.value c.in_ok-found.ensures.parts c.in-Some.is c.deref-2.ensures.value c.in_ok-read_tokens.ensures.few,
    )
