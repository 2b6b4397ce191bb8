use Rattle.std.proofs.Common.{refl, sym, ◌∙◌, ap, subst, List, ℕ, Option}
use Rattle.std.specs.Prelude.{option_map}
use Rattle.tib_lex.specs.Line.{word_at}
use Rattle.tib_tree.specs.Grows.{Adds, AddsAll}
use Rattle.tib_tree.specs.Shape.{item_at}
use Rattle.tib_tree.proofs.NodesRead.{item_text}
use Rattle.tib_transducer_file.specs.Added.{left_text}
use Rattle.tib_transducer_file.specs.Found.{variable_at}
use Rattle.tib_transducer_file.proofs.sides.left_item.Goals as goal

pub returns-clause-texts : goal.returns-clause-texts
returns-clause-texts c =
    let none = sym (ap (option_map (variable_at c.args.line.now)) c.in_default.is) ∙ c.variable_in.ensures.variable in
    let text = sym (item_text (word_at c.args.line.now c.args.place.token) c.args.place.kids) in
    subst (λ (o : Option (ℕ × Option (List ℕ))). AddsAll c.args.labels.now (left_text o (item_at c.args.line.now c.args.place).text) c.read_name.new.names) none
    (c.read_name.new.names, subst (λ (t : List ℕ). Adds c.args.labels.now t c.read_name.new.names) text c.in_ok-label-2.ensures.adds, refl)
