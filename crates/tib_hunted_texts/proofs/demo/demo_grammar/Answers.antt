use Rattle.std.proofs.Common.{ℕ, ◌≤◌, List, length, ap, ◌∙◌, subst, arith}
use Rattle.tib_lex.specs.Limits.{most_bytes}
use Rattle.tib_canon.proofs.Within.{distinct_texts}
use Rattle.tib_grammar_file.specs.Read.{ReadsAs}
use Rattle.tib_operations.proofs.DemoText.{demo_short, demo_faultless}
use Rattle.tib_hunted_texts.proofs.demo.demo_grammar.Goals as goal

pub read_grammar-requires-clause-short : goal.read_grammar-requires-clause-short
read_grammar-requires-clause-short g c = demo_short c.args.n c.bytes.result.now c.requires.most (c.bytes.ensures ∙ c.in-Ok.ensures)

pub read_grammar-requires-clause-room : goal.read_grammar-requires-clause-room
read_grammar-requires-clause-room g c =
    let short : length c.bytes.result.now ≤ most_bytes = demo_short c.args.n c.bytes.result.now c.requires.most (c.bytes.ensures ∙ c.in-Ok.ensures) in
    omega (arith, short, ap length c.requires.new)

pub unreachable-requires : goal.unreachable-requires
unreachable-requires g c =
    demo_faultless g.S.Semiring.SCALE c.args.n c.bytes.result.now c.in-Err-Fault.field-0 c.in-Err-Fault.field-0-0 c.faults_have_no_text.ensures (c.bytes.ensures ∙ c.in-Ok.ensures) c.in-Err-Fault.field-0-is c.in-Err-Fault.ensures.fault

pub returns-clause-distinct : goal.returns-clause-distinct
returns-clause-distinct g c = distinct_texts c.read_grammar.new.labels c.len.ensures.distinct

pub returns-clause-read : goal.returns-clause-read
returns-clause-read g c =
    subst (λ (text : List ℕ). ReadsAs g.S.Semiring.SCALE c.read_grammar.new.labels text c.in-Ok-read_grammar.grammar) (c.bytes.ensures ∙ c.in-Ok.ensures) c.in-Ok-read_grammar.ensures.text

pub returns-clause-printable : goal.returns-clause-printable
returns-clause-printable g c =
    c.read_grammars_are_printable.ensures g.S.Semiring.SCALE c.read_grammar.new.labels c.bytes.result.now c.in-Ok-read_grammar.grammar c.in-Ok-read_grammar.ensures.text.text
