-- Ways to write the right sides of rules.
use Rattle.std.proofs.Common.{◌≡◌, ◌≤◌, List, length, ap, sym, ◌∙◌, subst, arith, Option}
use Rattle.std.specs.Prelude.{Some}
use Rattle.tib_lex.specs.Grammar.{Word}
use Rattle.tib_tree.specs.Written.{Item}
use Rattle.tib_tree.specs.Machine.{nodes_of, IsTree}
use Rattle.tib_tree.proofs.Read.{tree_back, tree_forth}
use Rattle.tib_grammar_file.proofs.PartsRead.{nodes_few}
use Rattle.tib_grammar_file.proofs.RulesRead.{HasNoHash, no_hash}
use Rattle.tib_transducer_file.specs.Built.{AreOneTree}

-- What is read of tokens is what they mean; none of these is a hash, and they are as many as their
-- items at least.
pub record IsFormat (Right : List Word → List Item → Type 0) (read : List Word → Option (List Item)) : Type 0 where
  pub back : (words : List Word) (is : List Item) → read words ≡ Some is → Right words is
  pub forth : (words : List Word) (is : List Item) → Right words is → read words ≡ Some is
  pub plain : (words : List Word) (is : List Item) → Right words is → HasNoHash words
  pub few : (words : List Word) (is : List Item) → Right words is → length is ≤ length words

-- the words of a tree are read as it
pub tree_read : (words : List Word) (is : List Item) → IsTree words is → nodes_of words ≡ Some is
tree_read words is t = ap nodes_of (sym t.spelled) ∙ tree_forth t.tree t.one ∙ ap (λ (xs : List Item). Some xs) t.nodes

-- they are one tree
pub tree_words : (words : List Word) (is : List Item) → IsTree words is → AreOneTree is
tree_words words is t = (words, tree_read words is t)

-- a tree has no more nodes than words
pub tree_few : (words : List Word) (is : List Item) → IsTree words is → length is ≤ length words
tree_few words is t = omega (arith, nodes_few t.tree, ap length t.spelled, ap length t.nodes)

-- right sides that are trees
pub trees : IsFormat IsTree nodes_of
trees = record {
  back = λ words is e. tree_back words is e;
  forth = λ words is t. tree_read words is t;
  plain = λ words is t. subst HasNoHash t.spelled (no_hash t.tree);
  few = λ words is t. tree_few words is t;
}
