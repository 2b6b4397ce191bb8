use Rattle.tib_strings.proofs.Strings.{none_found}
use Rattle.tib_strings.proofs.string_file.find_string.Goals as goal

pub returns-in-Err : goal.returns-in-Err
returns-in-Err c =
    none_found c.args.bytes.now c.loop-line.number c.loop-line.at c.in-Some.line c.line_bytes.result.now c.in-Err.error c.file_error.result c.in-Some.ensures.line c.line_bytes.ensures c.file_error.ensures
    c.read_list.new.tokens.items c.in-Err.ensures c.loop-line.invariant.left
