-- `compare`: whether the same trees have a cost in two grammars, or else the least tree that has
-- one in exactly one of them.
use Rattle.std.specs.Prelude.{◌≡◌, ℕ, max, List, ◌++◌, codes}
use Rattle.tib_tree.specs.Trees.{Tree}
use Rattle.tib_tree.specs.Growth.{HasLabels}
use Rattle.tib_tree.specs.Printed.{tree_text}
use Rattle.tib_grammar.specs.GrammarOf.{GrammarOf}
use Rattle.tib_expand.specs.Reached.{IsBeyond}
use Rattle.tib_compare.specs.Compared.{IsCompared, IsSmall, IsTooLarge}
use Rattle.tib_compare.specs.Faults.{hunted, IsWithin}
use Rattle.tib_compare.specs.declared.compared.Compared.{Compared}
use Rattle.tib_compare.specs.declared.compared.Compared.TheVariants.{Same, First, Second}
use Rattle.tib_operations.specs.Intersect.{AreTrimmedForms}
use Rattle.tib_operations.specs.Made.{Made, and_then, normal_form, IsMadeFault}
use Rattle.tib_operations.specs.declared.status.Status.{Status}
use Rattle.tib_operations.specs.declared.status.Status.TheVariants as statuses

-- a word, a tree and a line feed
abbrev pub tree_line : List ℕ → List (List ℕ) → Tree ℕ → List ℕ
tree_line word labels t = word ++ (tree_text labels t ++ codes "\n")

-- the line of an answer: that the supports are the same, or which grammar gives the least tree a
-- cost
abbrev pub answer_text : List (List ℕ) → Compared → List ℕ
answer_text labels Same = codes "same\n"
answer_text labels (First t) = tree_line (codes "first ") labels t
answer_text labels (Second t) = tree_line (codes "second ") labels t

-- the labels of the tree of an answer have texts in the table
abbrev pub HasAnswerLabels : List (List ℕ) → Compared → Type 0
HasAnswerLabels labels Same = Unit {0}
HasAnswerLabels labels (First t) = HasLabels labels t
HasAnswerLabels labels (Second t) = HasLabels labels t

-- The text is the line of what the comparison of the two grammars gives, whose tree is not too
-- large.
pub record HasCompareText (labels : List (List ℕ)) (f g : GrammarOf) (text : List ℕ) : Type 0 where
  pub answer : Compared
  pub is_answer : IsCompared labels f.rules g.rules answer
  pub small : IsSmall answer
  pub are : text ≡ answer_text labels answer

-- whatever the comparison of two grammars gives, its tree is not too large
abbrev pub LeastIsSmall : List (List ℕ) → GrammarOf → GrammarOf → Type 0
LeastIsSmall labels f g = (answer : Compared) → IsCompared labels f.rules g.rules answer → IsSmall answer

-- some tree has a cost in exactly one of the two grammars, and each that has is too large
abbrev pub HasLargeLeast : GrammarOf → GrammarOf → Type 0
HasLargeLeast f g = IsTooLarge f.rules g.rules

-- the normal forms of both grammars
abbrev pub forms_of_both : ℕ → GrammarOf → GrammarOf → Made
forms_of_both limit f g = and_then (normal_form max limit f) (normal_form max limit g)

-- Trimmed normal forms of two grammars have a reached set of vectors, side by side, within the
-- limit.
pub record HasVectorsWithin (limit : ℕ) (f g : GrammarOf) : Type 0 where
  pub forms : GrammarOf × GrammarOf
  pub are_forms : AreTrimmedForms max f g forms
  pub within : IsWithin forms.0 forms.1 limit

-- the reached set of the vectors of both trimmed normal forms side by side
abbrev pub vectors_of_both : ℕ → GrammarOf → GrammarOf → Made
vectors_of_both limit f g = record {
  within = HasVectorsWithin limit f g;
  more = (forms : GrammarOf × GrammarOf) → AreTrimmedForms max f g forms → IsBeyond (hunted forms.0 forms.1) limit;
}

-- the normal forms of both grammars, and then the reached set of the vectors of both
abbrev pub compare_makes : ℕ → GrammarOf → GrammarOf → Made
compare_makes limit f g = and_then (normal_form max limit f) (and_then (normal_form max limit g) (vectors_of_both limit f g))

-- why there is no text: too many parts, or within the limit a least tree that is too large, or out
-- of memory
abbrev pub IsCompareFault : ℕ → GrammarOf → GrammarOf → Status → Type 0
IsCompareFault limit f g statuses.TreeTooLarge = (compare_makes limit f g).within × HasLargeLeast f g
IsCompareFault limit f g status = IsMadeFault (compare_makes limit f g).more limit status

-- why the comparison of two grammars in normal form has no text, as the hunt reports it
abbrev pub IsFormsFault : ℕ → GrammarOf → GrammarOf → Status → Type 0
IsFormsFault limit one two statuses.TreeTooLarge = IsWithin one two limit × HasLargeLeast one two
IsFormsFault limit one two status = IsMadeFault (IsBeyond (hunted one two) limit) limit status
