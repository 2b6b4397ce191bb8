-- The text of a tree.
use Rattle.std.specs.Prelude.{◌≡◌, ◌==◌, ◌||◌, ℕ, ◌-◌, nat_lt, Bool, not, if◌then◌else◌, List, [], ◌∷◌, ◌++◌, replicate}
use Rattle.tib_lex.specs.Grammar.{Word, name, label, is_name, spelling, escape}
use Rattle.tib_tree.specs.Trees.{Tree, Trees, none, tree, only}
use Rattle.tib_tree.specs.Growth.{text_at}
use Rattle.tib_tree.specs.declared.preorder.Node.{Node}

-- a label is written as its bytes, and in quotes where it is no name
abbrev pub label_word : List ℕ → Word
label_word text = if is_name text then name text else label text

abbrev pub label_text : List ℕ → List ℕ
label_text text = spelling (label_word text)

-- a byte that needs no backslash in quotes
abbrev pub is_plain_byte : ℕ → Bool
is_plain_byte b = not (b == 34 || b == 92)

-- bytes of which the first alone may need a backslash
abbrev pub backslash_for : List ℕ → List ℕ
backslash_for [] = []
backslash_for (b ∷ rest) = if b == 34 || b == 92 then 92 ∷ [] else []

abbrev pub IsRun : List ℕ → Type 0
IsRun bytes = escape bytes ≡ backslash_for bytes ++ bytes

-- what comes between the label of a node and that of the next one
abbrev pub gap_text : ℕ → ℕ → List ℕ
gap_text above depth =
    if nat_lt above depth then 40 ∷ [] else replicate (above - depth) 41 ++ 32 ∷ []

-- what is printed after a node at a depth
abbrev pub text_from : List (List ℕ) → ℕ → List Node → List ℕ
text_from labels above [] = replicate above 41
text_from labels above (n ∷ ns) =
    (gap_text above n.depth ++ label_text (text_at labels n.label)) ++ text_from labels n.depth ns

-- the text of children in parentheses, and that of the trees after a space, where there are any
abbrev pub in_parentheses : {A : Type 0} → Trees A → List ℕ → List ℕ
in_parentheses none text = []
in_parentheses (tree f kids rest) text = 40 ∷ (text ++ 41 ∷ [])

abbrev pub behind_space : {A : Type 0} → Trees A → List ℕ → List ℕ
behind_space none text = []
behind_space (tree f kids rest) text = 32 ∷ text

-- trees with one space between them: each is its label, and where it has children, these in
-- parentheses
abbrev pub trees_text : List (List ℕ) → Trees ℕ → List ℕ
trees_text labels none = []
trees_text labels (tree f kids rest) =
    label_text (text_at labels f) ++ (in_parentheses kids (trees_text labels kids) ++ behind_space rest (trees_text labels rest))

abbrev pub tree_text : List (List ℕ) → Tree ℕ → List ℕ
tree_text labels t = trees_text labels (only t)
