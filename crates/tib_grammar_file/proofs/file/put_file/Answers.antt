use Rattle.std.proofs.Common.{refl, ◌∷◌, [], ◌++◌, get_or}
use Rattle.tib_io.specs.declared.files.Failed.{Failed}
use Rattle.tib_grammar_file.specs.FileText.{lines_text}
use Rattle.tib_grammar_file.proofs.Printing.{seq, cut}
use Rattle.tib_grammar_file.proofs.file.put_file.Goals as goal

pub returns-in-Ok : goal.returns-in-Ok
returns-in-Ok g c = seq (Unit {0}) (Unit {0}) Failed g.W.Sink.seen c.args.out.now c.put_start.new.out c.put_rules.new.out (get_or c.args.names.now 0 [] ++ 10 ∷ []) (lines_text (g.N.RuleNotation.rule_text c.args.scale c.args.names.now c.args.labels.now) c.args.rules.now) ((get_or c.args.names.now 0 [] ++ 10 ∷ []) ++ lines_text (g.N.RuleNotation.rule_text c.args.scale c.args.names.now c.args.labels.now) c.args.rules.now) tt _ refl c.in-Ok.ensures c.put_rules.ensures

pub returns-in-Err : goal.returns-in-Err
returns-in-Err g c = cut (Unit {0}) (Unit {0}) Failed g.W.Sink.seen c.args.out.now c.put_start.new.out (get_or c.args.names.now 0 [] ++ 10 ∷ []) (lines_text (g.N.RuleNotation.rule_text c.args.scale c.args.names.now c.args.labels.now) c.args.rules.now) ((get_or c.args.names.now 0 [] ++ 10 ∷ []) ++ lines_text (g.N.RuleNotation.rule_text c.args.scale c.args.names.now c.args.labels.now) c.args.rules.now) _ refl c.in-Err.ensures
