-- What was found in a rule line.
use Rattle.std.specs.Prelude.{◌≡◌, ℕ, Bool, true, false, ◌&&◌, List, [], ◌∷◌, length, slice_range, Option, Some, None, Result, Ok, Err}
use Rattle.std.specs.List.{All}
use Rattle.tib_cost.specs.declared.Scale.{Scale}
use Rattle.tib_lex.specs.Line.{word_at, text_of, Lies}
use Rattle.tib_lex.specs.declared.token.Token.{Token}
use Rattle.tib_lex.specs.declared.fault.LineError.{LineError}
use Rattle.tib_lex.specs.declared.fault.LineError.TheVariants as errors
use Rattle.tib_tree.specs.Written.{Item, item}
use Rattle.tib_tree.specs.Shape.{items_back, PlaceLies}
use Rattle.tib_tree.specs.declared.shape.Place.{Place}
use Rattle.tib_grammar_file.specs.Found.{text_at, WeightLies}
use Rattle.tib_grammar_file.specs.Rule.{Parts as RightParts}
use Rattle.tib_transducer_file.specs.Forms.{before_stop, behind_stop, is_some, variable_of}
use Rattle.tib_transducer_file.specs.Rule.{Parts, parts, has_state, is_leaf, is_lone, is_twice, has_unknown, numbers_in, repeats, with_left, checked}
use Rattle.tib_transducer_file.specs.declared.forms.VariableToken.{VariableToken}
use Rattle.tib_transducer_file.specs.declared.forms.PairToken.{PairToken}
use Rattle.tib_transducer_file.specs.declared.forms.RootToken.{RootToken}
use Rattle.tib_transducer_file.specs.declared.parts.RootAndWeight.{RootAndWeight}

-- the bytes of a token
abbrev pub bytes_at : List ℕ → Token → List ℕ
bytes_at line t = slice_range line t.start t.end

-- what the tokens of a variable and of a pair say
abbrev pub variable_at : List ℕ → VariableToken → ℕ × Option (List ℕ)
variable_at line v = (v.number, text_at line v.label)

abbrev pub pair_at : List ℕ → PairToken → List ℕ × ℕ
pair_at line q = (text_of (word_at line q.state), q.number)

-- the tokens of a root with this text
pub record IsRootAt (line text : List ℕ) (root : RootToken) : Type 0 where
  pub state : text_of (word_at line root.state) ≡ before_stop text
  pub behind : bytes_at line root.behind ≡ behind_stop text
  pub state_lies : Lies (length line) root.state
  pub behind_lies : Lies (length line) root.behind

-- the root of items, which go on with those below it
abbrev pub no_item : Item
no_item = item true [] None

abbrev pub parts_with : List Item → List Item → Option (List ℕ) → Parts
parts_with [] right weight = parts no_item [] right weight
parts_with (root ∷ below) right weight = parts root below right weight

abbrev pub found_parts : List ℕ → List Place → List Place → Option RootAndWeight → Option Parts
found_parts line left right None = None
found_parts line left right (Some f) = Some (parts_with (items_back line left) (items_back line right) (text_at line f.weight))

-- what was found lies in its line, and the root's tokens are those of the first item
pub record FoundIn (line : List ℕ) (left right : List Place) (f : RootAndWeight) : Type 0 where
  pub root : Item
  pub below : List Item
  pub items : items_back line left ≡ root ∷ below
  pub root_is : IsRootAt line root.text f.root
  pub weight : WeightLies (length line) f.weight
  pub left_lie : All (PlaceLies (length line)) left
  pub right_lie : All (PlaceLies (length line)) right

abbrev pub FoundLies : List ℕ → List Place → List Place → Option RootAndWeight → Type 0
FoundLies line left right None = Unit {0}
FoundLies line left right (Some f) = FoundIn line left right f

-- the variables of a rule are well used, and these are their numbers
pub record AreGood (p : Parts) (numbers : List ℕ) : Type 0 where
  pub some : is_lone p ≡ false
  pub once : is_twice p ≡ false
  pub known : has_unknown p ≡ false
  pub numbers_are : numbers ≡ numbers_in p.below

-- or one of them is the first fault of the line
abbrev pub IsChecked : Parts → List ℕ → Result (Unit {0}) LineError → Type 0
IsChecked p numbers (Ok done) = AreGood p numbers
IsChecked p numbers (Err (errors.Fault kind)) = (scale : Scale) → checked scale p ≡ Err kind
IsChecked p numbers (Err errors.OutOfMemory) = Unit {0}

-- the root is a variable alone
abbrev pub is_lone_root : Option ℕ → List ℕ → Bool
is_lone_root kids behind = is_leaf kids && is_some (variable_of behind)

-- the items of a left side begin with a root that has a state, and its tokens were found; or else
-- they are of no rule
pub record LeftIn (line : List ℕ) (places : List Place) (root : RootToken) (read : Option (List Item)) : Type 0 where
  pub first : Item
  pub below : List Item
  pub items : items_back line places ≡ first ∷ below
  pub read_as : read ≡ Some (first ∷ below)
  pub state : has_state first ≡ true
  pub tokens : IsRootAt line first.text root
  pub lie : All (PlaceLies (length line)) places

abbrev pub IsLeftFound : List ℕ → List Place → Option RootToken → Option (List Item) → Type 0
IsLeftFound line places None read = (right : Option RightParts) → with_left read right ≡ None
IsLeftFound line places (Some root) read = LeftIn line places root read

-- the keys are the numbers, of which none occurs twice, or else one does
abbrev pub AreNumbers : Bool → List ℕ → List ℕ → Type 0
AreNumbers true keys numbers = (keys ≡ numbers) × (repeats [] numbers ≡ false)
AreNumbers false keys numbers = repeats [] numbers ≡ true
