use Rattle.tib_grammar_file.proofs.TreesByText.{tree_printed, trees_by_text}
use Rattle.tib_grammar_file.proofs.laws.trees_are_one_by_text.Goals as goal

pub returns-clause-trees : goal.returns-clause-trees
returns-clause-trees c = trees_by_text

pub returns-clause-printed : goal.returns-clause-printed
returns-clause-printed c = tree_printed
