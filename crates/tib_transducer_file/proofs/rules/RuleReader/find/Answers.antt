use Rattle.std.proofs.Common.{arith, length, ◌≡◌, ◌<◌, subst, Option}
use Rattle.std.proofs.lemmas.Bool.Decides.{nat_tests}
use Rattle.tib_tree.proofs.Steps.{accepted, refused}
use Rattle.tib_transducer_file.specs.Reader.{IsRightAt, HoldsFound}
use Rattle.tib_transducer_file.specs.declared.parts.RootAndWeight.{RootAndWeight}
use Rattle.tib_transducer_file.proofs.LinesRead.{bad_line, blank_line, no_rule_line, found_rule}
use Rattle.tib_transducer_file.proofs.rules.RuleReader.find.Goals as goal

pub returns-then-not-branch : goal.returns-then-not-branch
returns-then-not-branch g c = λ scale. bad_line g.met.R.RightReader.format scale c.args.line.now (refused c.in_ok-read_pieces.field-0 _ _ c.if-not-branch.true c.in_ok-read_pieces.ensures.pieces)

pub returns-then-is_empty : goal.returns-then-is_empty
returns-then-is_empty g c =
    let ts = c.read_pieces.new.tokens in
    let e = c.if-is_empty.ensures in
    let n : length ts.items ≡ 0 = grind (arith, nat_tests, ts.ok.0) in
    λ scale. blank_line g.met.R.RightReader.format scale c.args.line.now ts.items (accepted c.in_ok-read_pieces.field-0 _ _ c.if-not-branch.false c.in_ok-read_pieces.ensures.pieces) n

pub returns-in-Some : goal.returns-in-Some
returns-in-Some g c =
    let ts = c.read_pieces.new.tokens in
    let e = c.if-is_empty.ensures in
    let n : 0 < length ts.items = grind (arith, nat_tests, ts.ok.0) in
    found_rule g.met.R.RightReader.format (IsRightAt g.R.RightReader.is_whole g.R.RightReader.is_node) c.args.line.now ts.items c.deref.result.now c.find_parts.new.left.places.items (g.R.RightReader.places_of c.find_parts.new.right) c.in_ok-found.field-0 c.in-Some.found
    (accepted c.in_ok-read_pieces.field-0 _ _ c.if-not-branch.false c.in_ok-read_pieces.ensures.pieces) n c.deref.ensures.value c.in_ok-found.ensures.parts c.in_ok-found.ensures.lies c.in-Some.is
    (λ l spells. subst (λ (o : Option RootAndWeight). HoldsFound (IsRightAt g.R.RightReader.is_whole g.R.RightReader.is_node) c.args.line.now (g.R.RightReader.places_of c.find_parts.new.right) o) c.in-Some.is c.in_ok-found.ensures.right) c.in_ok-read_pieces.ensures.few

pub returns-in-None : goal.returns-in-None
returns-in-None g c =
    let ts = c.read_pieces.new.tokens in
    let e = c.if-is_empty.ensures in
    let n : 0 < length ts.items = grind (arith, nat_tests, ts.ok.0) in
    λ scale. no_rule_line g.met.R.RightReader.format scale c.args.line.now ts.items c.deref.result.now c.find_parts.new.left.places.items (g.R.RightReader.places_of c.find_parts.new.right) c.in_ok-found.field-0
    (accepted c.in_ok-read_pieces.field-0 _ _ c.if-not-branch.false c.in_ok-read_pieces.ensures.pieces) n c.deref.ensures.value c.in_ok-found.ensures.parts c.in-None.is
