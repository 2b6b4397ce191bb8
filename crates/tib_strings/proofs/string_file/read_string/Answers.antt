use Rattle.std.proofs.Common.{sym, subst}
use Rattle.tib_lex.specs.Lines.{HasNoFeed}
use Rattle.tib_lex.proofs.NoFeeds.{line_plain}
use Rattle.tib_strings.proofs.Strings.{cause_found, cause_behind, text_found, words_added, labels_below}
use Rattle.tib_strings.proofs.string_file.read_string.Goals as goal

pub returns-in-Err-clause-fault : goal.returns-in-Err-clause-fault
returns-in-Err-clause-fault c = cause_found c.args.bytes.now c.find_string.new.tokens.items c.in-Err.error c.in-Err.ensures

pub returns-in-Err-skip_lines-clause-fault : goal.returns-in-Err-skip_lines-clause-fault
returns-in-Err-skip_lines-clause-fault c = cause_behind c.args.bytes.now c.find_string.new.tokens.items c.in-Ok.line c.in-Err-skip_lines.error c.in-Ok.ensures c.in-Err-skip_lines.ensures

pub intern_words-requires-clause-plain : goal.intern_words-requires-clause-plain
intern_words-requires-clause-plain c = subst HasNoFeed (sym c.line_bytes.ensures) (line_plain c.args.bytes.now _ _ c.in-Ok.line c.in-Ok.ensures.next)

pub returns-in-Ok-intern_words-clause-text : goal.returns-in-Ok-intern_words-clause-text
returns-in-Ok-intern_words-clause-text c =
    text_found c.intern_words.new.labels c.args.bytes.now c.find_string.new.tokens.items c.in-Ok.line c.line_bytes.result.now c.deref.result.now c.in-Ok-intern_words.words.items
    c.line_bytes.ensures c.deref.ensures.value c.in-Ok-intern_words.ensures.words c.in-Ok.ensures c.in-Ok-skip_lines.ensures

pub returns-in-Ok-intern_words-clause-labelled : goal.returns-in-Ok-intern_words-clause-labelled
returns-in-Ok-intern_words-clause-labelled c = labels_below c.intern_words.new.labels c.in-Ok-intern_words.words.items _ c.in-Ok-intern_words.ensures.words

pub returns-in-Ok-intern_words-clause-adds : goal.returns-in-Ok-intern_words-clause-adds
returns-in-Ok-intern_words-clause-adds c =
    words_added c.intern_words.new.labels c.args.bytes.now c.find_string.new.tokens.items c.in-Ok.line c.line_bytes.result.now c.deref.result.now c.in-Ok-intern_words.words.items
    c.line_bytes.ensures c.deref.ensures.value c.in-Ok-intern_words.ensures.words c.args.labels.now c.in-Ok-intern_words.ensures.adds
