use Rattle.tib_tree.proofs.FileRead.{line_added}
use Rattle.tib_tree.proofs.file.add_line.Goals as goal

pub returns-in-Ok-Some-clause-line : goal.returns-in-Ok-Some-clause-line
returns-in-Ok-Some-clause-line c =
    let h = c.in-Ok-Some.ensures.line in
    line_added _ _ _ c.in-Ok-Some.tree _ _ (rw c.in-Ok-Some.field-0-is at h) c.push_tree.ensures
