-- Leaves that are states.
use Rattle.std.specs.Prelude.{◌≡◌, ℕ, ◌≤◌, false, List, Option, None, Some, slice_get, Contains, length}
use Rattle.tib_lex.specs.Lists.{Along, Each}
use Rattle.tib_tree.specs.Written.{Written, Item, items, count}
use Rattle.tib_tree.specs.Trees.{most_nodes}
use Rattle.tib_grammar_file.specs.Rule.{RuleLine}
use Rattle.tib_grammar_file.specs.Raw.{IsRaw, AreRawRules}
use Rattle.tib_grammar_file.specs.declared.raw.RawItem.{RawItem}
use Rattle.tib_grammar_file.specs.declared.raw.RawRules.{RawRules}

pub record IsPlainLeaf (names : List (List ℕ)) (text : List ℕ) (item : RawItem) : Type 0 where
  pub plain : item.quoted ≡ false
  pub leaf : item.kids ≡ None
  pub held : Contains names text

abbrev pub IsFoundRaw : List (List ℕ) → List ℕ → Option ℕ → RawItem → Type 0
IsFoundRaw names text None item = IsPlainLeaf names text item → ⊥
IsFoundRaw names text (Some q) item = IsPlainLeaf names text item × (slice_get names q ≡ Some text)

-- the state whose name a text is
abbrev pub IsStateOf : List (List ℕ) → Option ℕ → List ℕ → Type 0
IsStateOf names None text = Contains names text → ⊥
IsStateOf names (Some q) text = slice_get names q ≡ Some text

-- that of each text
abbrev pub AreStatesOf : List (List ℕ) → List (Option ℕ) → List (List ℕ) → Type 0
AreStatesOf names states texts = Along (IsStateOf names) states texts

-- nodes of one tree
pub record IsOneTree (is : List Item) : Type 0 where
  pub tree : Written
  pub one : count tree ≡ 1
  pub nodes : items tree ≡ is

-- nodes over the table of texts that are one tree
pub record IsRawTree (texts : List (List ℕ)) (raw : List RawItem) : Type 0 where
  pub is : List Item
  pub are : Along (IsRaw texts) raw is
  pub tree : IsOneTree is

-- a rule's nodes are one tree, of 10,000 nodes at most
pub record IsSmallTree (line : RuleLine) : Type 0 where
  pub tree : IsOneTree line.nodes
  pub few : length line.nodes ≤ most_nodes

-- rules over the tables of names and texts, each with one tree
pub record IsRawGrammarOf (names texts : List (List ℕ)) (raw : RawRules)
    (lines : List RuleLine) : Type 0 where
  pub rules : AreRawRules names texts raw.rules.items raw.nodes.items lines
  pub trees : Each IsSmallTree lines
