use Rattle.std.proofs.Common.{arith, sym, subst, List, refl, ℕ, ap, length}
use Rattle.tib_tree.specs.File.{Adds}
use Rattle.tib_tree.specs.Lines.{tree_line, texts_in}
use Rattle.tib_tree.specs.Grows.{AddsAll}
use Rattle.tib_tree.proofs.Growing.{grows_twice, grows_not}
use Rattle.tib_tree.proofs.FileRead.{SoFar, starts, adds, line_long}
use Rattle.tib_tree.specs.Trees.{Tree}
use Rattle.tib_lex.specs.Lines.{HasNoFeed}
use Rattle.tib_lex.proofs.NoFeeds.{line_plain}
use Rattle.tib_tree.proofs.file.read_lines.Goals as goal

pub loop-line-init : goal.loop-line-init
loop-line-init c = record {
  within = omega arith;
  number = omega arith;
  so_far = subst (λ (ts : List (Tree ℕ)). SoFar c.args.labels.now c.args.labels.now ts 1 c.args.bytes.now c.args.bytes.now) (sym c.new-trees.ensures.items) (starts c.args.labels.now c.args.bytes.now);
  few = omega arith;
  grows = grows_not _ _ refl;
}

pub add_line-requires-clause-plain : goal.add_line-requires-clause-plain
add_line-requires-clause-plain c = subst HasNoFeed (sym c.line_bytes.ensures) (line_plain c.args.bytes.now _ _ c.in-Some.line c.in-Some.ensures.line)

pub loop-line-preserved : goal.loop-line-preserved
loop-line-preserved c =
    let i = c.loop-line.invariant in
    let next = c.in-Some.ensures.line in
    record {
      within = next.ahead;
      number = omega (arith, i.number, next.goes_on);
      so_far = adds c.args.labels.now c.loop-line.labels _ c.loop-line.trees.items _ c.loop-line.number c.loop-line.at c.in-Some.line c.args.bytes.now next c.add_line.ensures.grows
          (subst (λ (bytes : List ℕ). Adds c.add_line.new.labels c.loop-line.trees.items c.add_line.new.trees.items (tree_line bytes)) c.line_bytes.ensures c.in-Ok.ensures.line)
          (subst (λ (bytes : List ℕ). AddsAll c.loop-line.labels (texts_in (tree_line bytes)) c.add_line.new.labels) c.line_bytes.ensures c.in-Ok.ensures.added) i.so_far;
      few = omega (arith, i.few, c.add_line.ensures.few, line_long c.args.bytes.now _ _ c.in-Some.line next, ap length c.line_bytes.ensures);
      grows = grows_twice _ _ _ i.grows c.add_line.ensures.grows;
    }
