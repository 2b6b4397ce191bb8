use Rattle.std.proofs.Common.{arith, ◌≡◌, ◌<◌, ◌≤◌, ℕ, length, List, ap, ◌∙◌}
use Rattle.std.specs.Prelude.{Some}
use Rattle.tib_lex.specs.declared.token.Token.{Token}
use Rattle.tib_tree.specs.Machine.{nodes_of}
use Rattle.tib_tree.proofs.Adding.{few_places, none_added, line_added}
use Rattle.std.proofs.lemmas.Bool.Decides.{nat_tests}
use Rattle.tib_lex.specs.Line.{Lies}
use Rattle.tib_tree.specs.Shape.{PlaceLies, items_back}
use Rattle.tib_tree.specs.declared.shape.Place.{Place}
use Rattle.tib_lex.specs.Line.{words_at}
use Rattle.tib_tree.specs.Shaped.{blanks_back}
use Rattle.tib_tree.proofs.Shaping.{one_tree}
use Rattle.tib_tree.proofs.Steps.{accepted, refused}
use Rattle.tib_tree.proofs.LineRead.{bad_line, blank_line, no_tree_line, large_line, good_line, same_tokens, same_all, tree_nodes}
use Rattle.tib_tree.proofs.trees.LineReader.read.Goals as goal

pub returns-then-not-branch-clause-line : goal.returns-then-not-branch-clause-line
returns-then-not-branch-clause-line c =
    bad_line c.args.line.now (refused c.in_ok-read_tokens.field-0 _ _ c.if-not-branch.true c.in_ok-read_tokens.ensures.words)

pub returns-then-is_empty-clause-line : goal.returns-then-is_empty-clause-line
returns-then-is_empty-clause-line c =
    let ts = c.read_tokens.new.tokens in
    let e = c.if-is_empty.ensures in
    let n : length ts.items ≡ 0 = grind (arith, nat_tests, ts.ok.0) in
    blank_line c.args.line.now ts.items (accepted c.in_ok-read_tokens.field-0 _ _ c.if-not-branch.false c.in_ok-read_tokens.ensures.words) n

pub returns-then-not-branch-2-clause-line : goal.returns-then-not-branch-2-clause-line
returns-then-not-branch-2-clause-line c =
    let ts = c.read_tokens.new.tokens in
    let e = c.if-is_empty.ensures in
    let n : 0 < length ts.items = grind (arith, nat_tests, ts.ok.0) in
    no_tree_line c.args.line.now ts.items (accepted c.in_ok-read_tokens.field-0 _ _ c.if-not-branch.false c.in_ok-read_tokens.ensures.words) n
    (same_tokens _ _ _ _ c.deref.ensures.value (refused c.in_ok-read.field-0 _ _ c.if-not-branch-2.true (c.in_ok-read.ensures.nodes c.args.line.now)))

pub returns-then-len-gt-MOST_NODES-clause-line : goal.returns-then-len-gt-MOST_NODES-clause-line
returns-then-len-gt-MOST_NODES-clause-line c =
    let ts = c.read_tokens.new.tokens in
    let e = c.if-is_empty.ensures in
    let n : 0 < length ts.items = grind (arith, nat_tests, ts.ok.0) in
    large_line c.args.line.now ts.items c.read.new.self.places.items (accepted c.in_ok-read_tokens.field-0 _ _ c.if-not-branch.false c.in_ok-read_tokens.ensures.words) n
    (same_tokens _ _ _ _ c.deref.ensures.value (accepted c.in_ok-read.field-0 _ _ c.if-not-branch-2.false (c.in_ok-read.ensures.nodes c.args.line.now)))
    (omega (arith, c.read.new.self.places.ok.0, c.if-len-gt-MOST_NODES.true))

-- a line has as many bytes as its tree has nodes
few : (line : List ℕ) (ts : List Token) (places slice : List Place) → nodes_of (words_at line ts) ≡ Some (items_back line places) → length ts ≤ length line → slice ≡ places → length slice ≤ length line
few line ts places slice e h same = omega (arith, few_places line ts places e, ap length same)

pub returns-then-is_empty-clause-added : goal.returns-then-is_empty-clause-added
returns-then-is_empty-clause-added c =
    let ts = c.read_tokens.new.tokens in
    let e = c.if-is_empty.ensures in
    let n : length ts.items ≡ 0 = grind (arith, nat_tests, ts.ok.0) in
    none_added c.args.line.now c.args.labels.now (blank_line c.args.line.now ts.items (accepted c.in_ok-read_tokens.field-0 _ _ c.if-not-branch.false c.in_ok-read_tokens.ensures.words) n)

pub read_nodes-requires-clause-plain : goal.read_nodes-requires-clause-plain
read_nodes-requires-clause-plain c = c.requires.plain

pub read_nodes-requires-clause-room : goal.read_nodes-requires-clause-room
read_nodes-requires-clause-room c =
    let ts = c.read_tokens.new.tokens in
    let read = same_tokens c.args.line.now ts.items _ _ c.deref.ensures.value (accepted c.in_ok-read.field-0 _ _ c.if-not-branch-2.false (c.in_ok-read.ensures.nodes c.args.line.now)) in
    omega (arith, c.requires.room, few c.args.line.now ts.items _ _ read c.in_ok-read_tokens.ensures.few c.deref-2.ensures.value)

pub returns-in_err-nodes-clause-few : goal.returns-in_err-nodes-clause-few
returns-in_err-nodes-clause-few c =
    let ts = c.read_tokens.new.tokens in
    let read = same_tokens c.args.line.now ts.items _ _ c.deref.ensures.value (accepted c.in_ok-read.field-0 _ _ c.if-not-branch-2.false (c.in_ok-read.ensures.nodes c.args.line.now)) in
    omega (arith, c.read_nodes.ensures.few, few c.args.line.now ts.items _ _ read c.in_ok-read_tokens.ensures.few c.deref-2.ensures.value)

pub returns-clause-few : goal.returns-clause-few
returns-clause-few c =
    let ts = c.read_tokens.new.tokens in
    let read = same_tokens c.args.line.now ts.items _ _ c.deref.ensures.value (accepted c.in_ok-read.field-0 _ _ c.if-not-branch-2.false (c.in_ok-read.ensures.nodes c.args.line.now)) in
    omega (arith, c.read_nodes.ensures.few, few c.args.line.now ts.items _ _ read c.in_ok-read_tokens.ensures.few c.deref-2.ensures.value)

pub returns-clause-added : goal.returns-clause-added
returns-clause-added c =
    let ts = c.read_tokens.new.tokens in
    let e = c.if-is_empty.ensures in
    let n : 0 < length ts.items = grind (arith, nat_tests, ts.ok.0) in
    let good = good_line c.args.line.now ts.items c.read.new.self.places.items (accepted c.in_ok-read_tokens.field-0 _ _ c.if-not-branch.false c.in_ok-read_tokens.ensures.words) n
    (same_tokens _ _ _ _ c.deref.ensures.value (accepted c.in_ok-read.field-0 _ _ c.if-not-branch-2.false (c.in_ok-read.ensures.nodes c.args.line.now)))
    (omega (arith, c.read.new.self.places.ok.0, c.if-len-gt-MOST_NODES.false)) in
    line_added c.args.line.now c.read.new.self.places.items _ c.args.labels.now c.read_nodes.new.labels good c.deref-2.ensures.value c.in_ok-nodes.ensures.added

pub read_nodes-requires-clause-lie : goal.read_nodes-requires-clause-lie
read_nodes-requires-clause-lie c =
    let all = c.in_ok-read.ensures.places c.if-not-branch-2.false (length c.args.line.now) (same_all (Lies (length c.args.line.now)) _ _ c.deref.ensures.value c.in_ok-read_tokens.ensures.within) in
    same_all (PlaceLies (length c.args.line.now)) _ _ c.deref-2.ensures.value all

pub tree_of-requires : goal.tree_of-requires
tree_of-requires c =
    one_tree c.read.new.self.places.items c.in_ok-nodes.nodes.items (c.in_ok-read.ensures.one c.if-not-branch-2.false)
    (c.in_ok-nodes.ensures.shape ∙ ap blanks_back c.deref-2.ensures.value)

pub returns-clause-line : goal.returns-clause-line
returns-clause-line c =
    let ts = c.read_tokens.new.tokens in
    let e = c.if-is_empty.ensures in
    let n : 0 < length ts.items = grind (arith, nat_tests, ts.ok.0) in (
      items_back c.args.line.now c.read.new.self.places.items,
      good_line c.args.line.now ts.items c.read.new.self.places.items (accepted c.in_ok-read_tokens.field-0 _ _ c.if-not-branch.false c.in_ok-read_tokens.ensures.words) n
          (same_tokens _ _ _ _ c.deref.ensures.value (accepted c.in_ok-read.field-0 _ _ c.if-not-branch-2.false (c.in_ok-read.ensures.nodes c.args.line.now)))
          (omega (arith, c.read.new.self.places.ok.0, c.if-len-gt-MOST_NODES.false)),
      tree_nodes c.read_nodes.new.labels c.args.line.now c.tree_of.result _ _ _ c.tree_of.ensures c.deref-2.ensures.value c.in_ok-nodes.ensures.nodes,
    )
