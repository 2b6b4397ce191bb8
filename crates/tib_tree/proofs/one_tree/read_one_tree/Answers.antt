use Rattle.std.proofs.Common.{arith, sym, subst, List, refl, ℕ, ap, length}
use Rattle.std.specs.Prelude.{Err}
use Rattle.tib_lex.specs.Lines.{HasNoFeed}
use Rattle.tib_lex.proofs.NoFeeds.{line_plain}
use Rattle.tib_tree.specs.Lines.{tree_line, texts_in}
use Rattle.tib_tree.specs.Grows.{AddsAll}
use Rattle.tib_tree.proofs.FileRead.{line_long}
use Rattle.tib_tree.proofs.Growing.{grows_twice, grows_not}
use Rattle.tib_tree.specs.TreesRead.{Counts, CountsLine}
use Rattle.tib_tree.specs.declared.trees_read.TreesRead.{TreesRead}
use Rattle.tib_tree.proofs.Counting.{starts, step, ended, failed, one_added, IsAnswer, IsUnderway}
use Rattle.tib_tree.proofs.one_tree.read_one_tree.Goals as goal

pub loop-line-init : goal.loop-line-init
loop-line-init c = record {
  within = omega arith;
  number = omega arith;
  underway = starts c.args.labels.now c.args.bytes.now;
  few = omega arith;
  grows = grows_not _ _ refl;
}

pub read_line-requires-clause-plain : goal.read_line-requires-clause-plain
read_line-requires-clause-plain c = subst HasNoFeed (sym c.line_bytes.ensures) (line_plain c.args.bytes.now _ _ c.in-Some.line c.in-Some.ensures.line)

pub loop-line-preserved : goal.loop-line-preserved
loop-line-preserved c =
    let i = c.loop-line.invariant in
    let next = c.in-Some.ensures.line in
    record {
      within = next.ahead;
      number = omega (arith, i.number, next.goes_on);
      underway = step c.args.labels.now c.loop-line.labels c.read_line.new.labels c.loop-line.found c.read_line.new.found c.loop-line.number c.loop-line.at c.in-Some.line c.args.bytes.now next c.read_line.ensures.grows
          (subst (λ (bytes : List ℕ). Counts c.read_line.new.labels c.loop-line.number c.loop-line.found c.read_line.new.found (tree_line bytes)) c.line_bytes.ensures c.in-Ok.ensures.line)
          (subst (λ (bytes : List ℕ). AddsAll c.loop-line.labels (texts_in (tree_line bytes)) c.read_line.new.labels) c.line_bytes.ensures c.in-Ok.ensures.added) i.underway;
      few = omega (arith, i.few, c.read_line.ensures.few, line_long c.args.bytes.now _ _ c.in-Some.line next, ap length c.line_bytes.ensures);
      grows = grows_twice _ _ _ i.grows c.read_line.ensures.grows;
    }

pub returns-in-Err-clause-tree : goal.returns-in-Err-clause-tree
returns-in-Err-clause-tree c =
    failed c.args.labels.now c.loop-line.labels c.read_line.new.labels c.loop-line.found c.read_line.new.found c.loop-line.number c.loop-line.at c.in-Some.line c.args.bytes.now c.in-Err.error c.file_error.result
    c.in-Some.ensures.line c.file_error.ensures
    (subst (λ (bytes : List ℕ). CountsLine c.read_line.new.labels c.loop-line.number c.loop-line.found c.read_line.new.found (Err c.in-Err.error) (tree_line bytes)) c.line_bytes.ensures c.in-Err.ensures.line)
    c.loop-line.invariant.underway

pub returns-in-One-clause-tree : goal.returns-in-One-clause-tree
returns-in-One-clause-tree c =
    subst (λ (now : TreesRead). IsAnswer c.loop-line.labels c.args.bytes.now now) c.in-One.is
    (ended c.args.labels.now c.loop-line.labels c.loop-line.found c.loop-line.number c.loop-line.at c.args.bytes.now (c.in_default.ensures.none refl) c.loop-line.invariant.underway)

pub returns-in-One-clause-added : goal.returns-in-One-clause-added
returns-in-One-clause-added c =
    one_added c.args.labels.now c.loop-line.labels c.in-One.tree c.loop-line.number c.loop-line.at c.args.bytes.now
    (subst (λ (now : TreesRead). IsUnderway c.args.labels.now c.loop-line.labels now c.loop-line.number c.loop-line.at c.args.bytes.now) c.in-One.is c.loop-line.invariant.underway)

pub returns-in-Nothing-clause-tree : goal.returns-in-Nothing-clause-tree
returns-in-Nothing-clause-tree c =
    subst (λ (now : TreesRead). IsAnswer c.loop-line.labels c.args.bytes.now now) c.in-Nothing.is
    (ended c.args.labels.now c.loop-line.labels c.loop-line.found c.loop-line.number c.loop-line.at c.args.bytes.now (c.in_default.ensures.none refl) c.loop-line.invariant.underway)

pub returns-clause-tree : goal.returns-clause-tree
returns-clause-tree c =
    subst (λ (now : TreesRead). IsAnswer c.loop-line.labels c.args.bytes.now now) c.in-Second.is
    (ended c.args.labels.now c.loop-line.labels c.loop-line.found c.loop-line.number c.loop-line.at c.args.bytes.now (c.in_default.ensures.none refl) c.loop-line.invariant.underway)
