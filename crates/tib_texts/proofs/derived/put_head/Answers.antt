use Rattle.std.proofs.Common.{refl, ap, ℕ, List, ◌++◌}
use Rattle.tib_grammar.specs.Items.{pair_of}
use Rattle.tib_grammar_file.specs.TreeText.{space, opening}
use Rattle.tib_transducer_file.specs.Printed.{pair_text, symbol_text}
use Rattle.tib_rulewise.specs.Placed.{item_with}
use Rattle.tib_rulewise.specs.Derivations.{read_from}
use Rattle.tib_io.specs.declared.files.Failed.{Failed}
use Rattle.tib_grammar_file.proofs.Printing.{seq, cut}
use Rattle.tib_texts.proofs.derived.put_head.Goals as goal

pub returns-in-Ok : goal.returns-in-Ok
returns-in-Ok g c =
    let front : List ℕ = space c.args.k ++ symbol_text (pair_text c.args.names.now c.args.labels.now) c.args.labels.now (pair_of (item_with (read_from c.args.variable) c.args.item.now)).0 in
    seq (Unit {0}) (Unit {0}) Failed g.W.Sink.seen c.args.out.now c.put_spaced.new.out c.put_opening.new.out front (opening c.rank_of.result) (front ++ opening (pair_of (item_with (read_from c.args.variable) c.args.item.now)).1) tt _ (ap (λ (n : ℕ). front ++ opening n) (c.rank_of.ensures c.args.variable)) c.in-Ok.ensures c.put_opening.ensures

pub returns-in-Err : goal.returns-in-Err
returns-in-Err g c =
    let front : List ℕ = space c.args.k ++ symbol_text (pair_text c.args.names.now c.args.labels.now) c.args.labels.now (pair_of (item_with (read_from c.args.variable) c.args.item.now)).0 in
    cut (Unit {0}) (Unit {0}) Failed g.W.Sink.seen c.args.out.now c.put_spaced.new.out front (opening (pair_of (item_with (read_from c.args.variable) c.args.item.now)).1) (front ++ opening (pair_of (item_with (read_from c.args.variable) c.args.item.now)).1) _ refl c.in-Err.ensures
