use Rattle.std.proofs.Common.{ap, sym, ◌∙◌, subst, ℕ}
use Rattle.indexmap.specs.IndexSet.{keys}
use Rattle.tib_lex.specs.Line.{word_at}
use Rattle.tib_tree.specs.Nodes.{rank_of}
use Rattle.tib_tree.specs.Shape.{item_at}
use Rattle.tib_tree.proofs.NodesRead.{item_kids}
use Rattle.tib_grammar.specs.Sides.{Symbol}
use Rattle.tib_transducer.specs.declared.Pair.{Pair}
use Rattle.tib_strings.specs.RuleValue.{IsRightNode}
use Rattle.tib_strings.proofs.right.right_word.Goals as goal

pub word_of-requires : goal.word_of-requires
word_of-requires c = c.in_ok-item.ensures.item.1 ∙ ap rank_of (item_kids (word_at c.args.line.now c.args.place.token) c.args.place.kids ∙ c.requires.leaf)

pub returns-clause-item : goal.returns-clause-item
returns-clause-item c =
    subst (λ (s : Symbol ℕ (Pair ℕ) × ℕ). IsRightNode c.right_item.new.names c.right_item.new.labels (keys c.args.variables.now) s (item_at c.args.line.now c.args.place))
    (sym c.word_of.ensures) c.in_ok-item.ensures.item
