-- Trees by numbers: a tree is kept as its shape, its label followed by the numbers of its children.
use Rattle.std.specs.Prelude.{◌≡◌, ◌≢◌, ℕ, ◌<◌, List, [], ◌∷◌, ◌++◌, length, slice_get, Some, min}
use Rattle.std.specs.Ordering.{nat_cmp}
use Rattle.std.specs.Cmp.Lexicographic.{slice_cmp}
use Rattle.std.proofs.Common.{get_or}
use Rattle.tib_lex.specs.Lists.{Has}
use Rattle.tib_tree.specs.Trees.{Tree, Trees, none, tree, only, relabel, size}
use Rattle.tib_tree.specs.Growth.{text_at, LabelsBelow}
use Rattle.tib_tree.specs.Grows.{Grows, AreDistinct}
use Rattle.tib_tree.specs.Order.{trees_cmp, tree_cmp_by}

-- the trees that numbers name
abbrev pub AreNamed : List (List ℕ) → List ℕ → Trees ℕ → Type 0
AreNamed shapes [] none = Unit {0}
AreNamed shapes [] (tree f kids rest) = ⊥
AreNamed shapes (n ∷ ns) none = ⊥
AreNamed shapes (n ∷ ns) (tree f kids rest) =
    ((ms : List ℕ) × (slice_get shapes n ≡ Some (f ∷ ms)) × AreNamed shapes ms kids)
    × AreNamed shapes ns rest

-- the tree that a number names
abbrev pub IsNamed : List (List ℕ) → ℕ → Tree ℕ → Type 0
IsNamed shapes n t = AreNamed shapes (n ∷ []) (only t)

-- the label of a shape, and the numbers of its children
abbrev pub label_of : List ℕ → ℕ
label_of [] = 0
label_of (f ∷ ms) = f

abbrev pub children_of : List ℕ → List ℕ
children_of [] = []
children_of (f ∷ ms) = ms

-- the label of a tree's number, and its children's numbers
abbrev pub label_at : List (List ℕ) → ℕ → ℕ
label_at shapes n = label_of (get_or shapes n [])

abbrev pub children_at : List (List ℕ) → ℕ → List ℕ
children_at shapes n = children_of (get_or shapes n [])

-- the greatest size that is stored
abbrev pub most_size : ℕ
most_size = 4294967295

-- how many nodes a tree has, where there are fewer than that
abbrev pub told_size : Tree ℕ → ℕ
told_size t = min (size t) most_size

-- each of some numbers is below n
abbrev pub NumbersBelow : ℕ → List ℕ → Type 0
NumbersBelow n ms = (m : ℕ) → Has ms m → m < n

-- the labels of all shapes are below n
abbrev pub RootsBelow : ℕ → List (List ℕ) → Type 0
RootsBelow n shapes = (m f : ℕ) (ms : List ℕ) → slice_get shapes m ≡ Some (f ∷ ms) → f < n

-- a list from its end
abbrev pub back : List ℕ → List ℕ
back [] = []
back (n ∷ ns) = back ns ++ n ∷ []

-- the first place where two lists of numbers differ
pub record IsFirstOther (ks ls : List ℕ) (i : ℕ) : Type 0 where
  pub long : length ks ≡ length ls
  pub below : i < length ks
  pub equal : (j : ℕ) → j < i → get_or ks j 0 ≡ get_or ls j 0
  pub other : get_or ks i 0 ≢ get_or ls i 0

-- the trees at that place decide
pub record IsDecided (shapes labels : List (List ℕ)) (ks ls : List ℕ) (i : ℕ) (ts us : Trees ℕ) : Type 0 where
  pub left : Tree ℕ
  pub right : Tree ℕ
  pub are_left : IsNamed shapes (get_or ks i 0) left
  pub are_right : IsNamed shapes (get_or ls i 0) right
  pub same :
      trees_cmp (slice_cmp nat_cmp) (relabel (text_at labels) ts) (relabel (text_at labels) us)
      ≡ tree_cmp_by labels left right

-- A number names one tree, and if no shape is there twice, a tree has one number. So two rows of
-- trees compare as the first two trees whose numbers differ.
pub record NumbersNameTrees : Type 0 where
  pub one_tree :
      (shapes : List (List ℕ)) (ns : List ℕ) (ts us : Trees ℕ) →
      AreNamed shapes ns ts → AreNamed shapes ns us → ts ≡ us
  pub one_number :
      (shapes : List (List ℕ)) → AreDistinct shapes → (ns ms : List ℕ) (ts : Trees ℕ) →
      AreNamed shapes ns ts → AreNamed shapes ms ts → ns ≡ ms
  pub grown :
      (shapes more : List (List ℕ)) → Grows shapes more → (ns : List ℕ) (ts : Trees ℕ) →
      AreNamed shapes ns ts → AreNamed more ns ts
  pub decided :
      (shapes labels : List (List ℕ)) → AreDistinct shapes → AreDistinct labels →
      (ks ls : List ℕ) (i : ℕ) (ts us : Trees ℕ) → AreNamed shapes ks ts →
      AreNamed shapes ls us → LabelsBelow (length labels) ts → LabelsBelow (length labels) us →
      IsFirstOther ks ls i → IsDecided shapes labels ks ls i ts us
