use Rattle.std.proofs.Common.{refl, ap, ℕ, List, ◌++◌}
use Rattle.tib_io.specs.declared.files.Failed.{Failed}
use Rattle.tib_grammar_file.proofs.Printing.{seq, cut}
use Rattle.tib_grammar.specs.Items.{pair_of}
use Rattle.tib_grammar_file.specs.TreeText.{symbol_text, space, opening}
use Rattle.tib_grammar_file.proofs.trees.put_head.Goals as goal

pub returns-in-Ok : goal.returns-in-Ok
returns-in-Ok g c =
    let front : List ℕ = space c.args.k ++ symbol_text (g.N.Notation.label_text c.args.names.now) (g.N.Notation.leaf_text c.args.names.now c.args.labels.now) c.args.labels.now (pair_of c.args.item.now).0 in
    seq (Unit {0}) (Unit {0}) Failed g.W.Sink.seen c.args.out.now c.put_spaced.new.out c.put_opening.new.out front (opening c.rank_of.result) (front ++ opening (pair_of c.args.item.now).1) tt _ (ap (λ (n : ℕ). front ++ opening n) c.rank_of.ensures) c.in-Ok.ensures c.put_opening.ensures

pub returns-in-Err : goal.returns-in-Err
returns-in-Err g c = cut (Unit {0}) (Unit {0}) Failed g.W.Sink.seen c.args.out.now c.put_spaced.new.out (space c.args.k ++ symbol_text (g.N.Notation.label_text c.args.names.now) (g.N.Notation.leaf_text c.args.names.now c.args.labels.now) c.args.labels.now (pair_of c.args.item.now).0) (opening (pair_of c.args.item.now).1) ((space c.args.k ++ symbol_text (g.N.Notation.label_text c.args.names.now) (g.N.Notation.leaf_text c.args.names.now c.args.labels.now) c.args.labels.now (pair_of c.args.item.now).0) ++ opening (pair_of c.args.item.now).1) _ refl c.in-Err.ensures
