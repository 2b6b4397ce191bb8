use Rattle.std.proofs.Common.{ap, ℕ, List, ◌∷◌, [], ◌++◌, get_or}
use Rattle.tib_tree.specs.Trees.{only}
use Rattle.tib_io.specs.declared.files.Failed.{Failed}
use Rattle.tib_grammar_file.specs.Printed.{trees_text, cost_text}
use Rattle.tib_grammar_file.proofs.Printing.{seq, cut, text_at}
use Rattle.tib_grammar_file.proofs.print.put_rule.Goals as goal

pub returns-in-Ok : goal.returns-in-Ok
returns-in-Ok g c =
    let rest : List ℕ = 32 ∷ (45 ∷ (62 ∷ (32 ∷ []))) ++ (trees_text c.args.names.now c.args.labels.now (only c.args.rule.now.right) 0 ++ (cost_text c.args.scale c.args.rule.now.cost ++ 10 ∷ [])) in
    seq (Unit {0}) (Unit {0}) Failed g.W.Sink.seen c.args.out.now c.put.new.out c.put_arrow.new.out c.text.result.now rest (get_or c.args.names.now c.args.rule.now.left [] ++ rest) tt _ (ap (λ (t : List ℕ). t ++ rest) (text_at c.args.names.now c.args.rule.now.left c.text.result.now c.text.ensures)) c.in-Ok.ensures c.put_arrow.ensures

pub returns-in-Err : goal.returns-in-Err
returns-in-Err g c =
    let rest : List ℕ = 32 ∷ (45 ∷ (62 ∷ (32 ∷ []))) ++ (trees_text c.args.names.now c.args.labels.now (only c.args.rule.now.right) 0 ++ (cost_text c.args.scale c.args.rule.now.cost ++ 10 ∷ [])) in
    cut (Unit {0}) (Unit {0}) Failed g.W.Sink.seen c.args.out.now c.put.new.out c.text.result.now rest (get_or c.args.names.now c.args.rule.now.left [] ++ rest) _ (ap (λ (t : List ℕ). t ++ rest) (text_at c.args.names.now c.args.rule.now.left c.text.result.now c.text.ensures)) c.in-Err.ensures
