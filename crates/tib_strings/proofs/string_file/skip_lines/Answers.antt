use Rattle.tib_strings.proofs.Strings.{rest_fails}
use Rattle.tib_strings.proofs.string_file.skip_lines.Goals as goal

pub returns-in-Err : goal.returns-in-Err
returns-in-Err c =
    rest_fails c.args.bytes.now c.loop-line.number c.loop-line.at c.in-Some.line c.line_bytes.result.now c.in-Err.error c.file_error.result c.in-Some.ensures.line c.line_bytes.ensures c.file_error.ensures
    _ c.in-Err.ensures c.loop-line.invariant.left
