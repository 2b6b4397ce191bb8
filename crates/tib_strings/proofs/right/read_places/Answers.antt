use Rattle.std.proofs.Common.{sym, ◌∙◌, ap, List, length}
use Rattle.std.specs.Prelude.{Some}
use Rattle.tib_tree.specs.Written.{Item}
use Rattle.tib_tree.specs.Shape.{items_back}
use Rattle.tib_tree.specs.declared.shape.Place.{Place}
use Rattle.tib_lex.specs.Line.{words_at}
use Rattle.tib_strings.specs.Entries.{list_of_entries, list_of_mark, no_list}
use Rattle.tib_strings.proofs.right.read_places.Goals as goal

pub returns-then-is_mark_alone-clause-list : goal.returns-then-is_mark_alone-clause-list
returns-then-is_mark_alone-clause-list c =
    list_of_mark (words_at c.args.line.now c.args.tokens.now) (sym c.is_mark_alone.ensures ∙ c.if-is_mark_alone.true)
    ∙ ap (λ (ps : List Place). Some (items_back c.args.line.now ps)) (sym c.clear.ensures.items)

pub returns-then-not-are_entries-clause-list : goal.returns-then-not-are_entries-clause-list
returns-then-not-are_entries-clause-list c =
    no_list (words_at c.args.line.now c.args.tokens.now) (sym c.is_mark_alone.ensures ∙ c.if-is_mark_alone.false) (sym c.are_entries.ensures ∙ c.if-not-are_entries.true)

pub returns-clause-list : goal.returns-clause-list
returns-clause-list c =
    list_of_entries (words_at c.args.line.now c.args.tokens.now) (sym c.is_mark_alone.ensures ∙ c.if-is_mark_alone.false) (sym c.are_entries.ensures ∙ c.if-not-are_entries.false)
    ∙ ap (λ (is : List Item). Some is) (sym (c.in_ok-push_leaves.ensures.items c.args.line.now))

pub returns-clause-lie : goal.returns-clause-lie
returns-clause-lie c = c.in_ok-push_leaves.ensures.lie (length c.args.line.now) c.requires
