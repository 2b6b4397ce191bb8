-- A rule line of a transducer file. What its right side is, and how that is read, are given:
-- `Right` says which tokens are which items, and `read` gives them. Those of tree transducers are
-- trees.
use Rattle.tib_cost.specs.declared.Scale.{Scale}
use Rattle.std.specs.Prelude.{◌≡◌, ◌+◌, ℕ, Bool, true, false, not, nat_lt, nat_eq, ◌&&◌, ◌||◌, List, [], ◌∷◌, ◌++◌, length, take, drop, Option, Some, None, Result, Ok, Err, if◌then◌else◌}
use Rattle.std.specs.List.{prefix_len, list_any}
use Rattle.tib_lex.specs.Grammar.{Word}
use Rattle.tib_lex.specs.declared.token.Kind.TheVariants as token_kinds
use Rattle.tib_lex.specs.declared.fault.FaultKind.{FaultKind}
use Rattle.tib_lex.specs.declared.fault.FaultKind.TheVariants as kinds
use Rattle.tib_tree.specs.Written.{Item}
use Rattle.tib_tree.specs.Machine.{IsTree, nodes_of}
use Rattle.tib_tree.specs.Trees.{most_nodes}
use Rattle.tib_grammar_file.specs.Rule.{weight_words, weight_in, front_of, with_nodes, Parts as RightParts}
use Rattle.tib_grammar_file.specs.Weight.{cost_of}
use Rattle.tib_transducer_file.specs.Pieces.{Piece, meanings, pieces_of}
use Rattle.tib_transducer_file.specs.Forms.{variable_of, variable_in, pair_in, before_stop, behind_stop, written_label, is_root, is_some, is_stray, is_kind, left_words}

-- what is written in a rule line: the root of the left side, its other items in preorder, those of
-- the right side, and a weight
pub record Parts : Type 0 where
  pub root : Item
  pub below : List Item
  pub right : List Item
  pub weight : Option (List ℕ)

abbrev pub parts : Item → List Item → List Item → Option (List ℕ) → Parts
parts root below right weight = record { root = root; below = below; right = right; weight = weight }

-- the root carries a state, a full stop and a label
abbrev pub has_state : Item → Bool
has_state root = not root.quoted && is_root root.text

abbrev pub state_of : Parts → List ℕ
state_of p = before_stop p.root.text

abbrev pub label_of : Parts → List ℕ
label_of p = written_label (behind_stop p.root.text)

-- THE MEANING: these tokens are a left side, an arrow, a right side, and maybe a hash and a weight.
pub record SpellsRuleBy (Right : List Word → List Item → Type 0) (pieces : List Piece)
    (p : Parts) : Type 0 where
  pub front : List Piece
  pub arrow : Piece
  pub back : List Piece
  pub right_words : List Word
  pub are : pieces ≡ front ++ arrow ∷ back
  pub is_arrow : arrow.kind ≡ token_kinds.Arrow
  pub left : IsTree (left_words front) (p.root ∷ p.below)
  pub state : has_state p.root ≡ true
  pub behind : right_words ++ weight_words p.weight ≡ meanings back
  pub right : Right right_words p.right
  pub leaves : list_any is_stray p.right ≡ false

-- with a tree on the right
abbrev pub SpellsRule : List Piece → Parts → Type 0
SpellsRule pieces p = SpellsRuleBy IsTree pieces p

-- The reading: the left side ends before the first arrow, and the right side before the weight.
abbrev pub is_no_arrow : Piece → Bool
is_no_arrow p = not (is_kind token_kinds.Arrow p.kind)

abbrev pub arrow_at : List Piece → ℕ
arrow_at pieces = prefix_len is_no_arrow pieces

abbrev pub with_right : Item → List Item → Option RightParts → Option Parts
with_right root below None = None
with_right root below (Some r) = if list_any is_stray r.nodes then None else Some (parts root below r.nodes r.weight)

abbrev pub with_left : Option (List Item) → Option RightParts → Option Parts
with_left None right = None
with_left (Some []) right = None
with_left (Some (root ∷ below)) right = if has_state root then with_right root below right else None

abbrev pub right_by : (List Word → Option (List Item)) → List Word → Option RightParts
right_by read words = with_nodes [] (weight_in words) (read (front_of (weight_in words) words))

abbrev pub parts_at : (List Word → Option (List Item)) → ℕ → List Piece → Option Parts
parts_at read n pieces =
    if nat_lt n (length pieces) then
    with_left (nodes_of (left_words (take n pieces))) (right_by read (meanings (drop (n + 1) pieces)))
    else None

unfoldable pub parts_by : (List Word → Option (List Item)) → List Piece → Option Parts
parts_by read pieces = parts_at read (arrow_at pieces) pieces

abbrev pub parts_of : List Piece → Option Parts
parts_of pieces = parts_by nodes_of pieces

-- the numbers of the variables among some items, and the pairs
abbrev pub number_before : Option (ℕ × Option (List ℕ)) → List ℕ → List ℕ
number_before None numbers = numbers
number_before (Some v) numbers = v.0 ∷ numbers

abbrev pub numbers_in : List Item → List ℕ
numbers_in [] = []
numbers_in (i ∷ is) = number_before (variable_in i) (numbers_in is)

-- a lone variable on the left: the root's label is one, and no parenthesis follows it
abbrev pub is_leaf : Option ℕ → Bool
is_leaf None = true
is_leaf (Some n) = false

abbrev pub is_lone : Parts → Bool
is_lone p = is_leaf p.root.kids && is_some (variable_of (behind_stop p.root.text))

-- some number comes after an equal one, or after one of those before
abbrev pub repeats : List ℕ → List ℕ → Bool
repeats before [] = false
repeats before (n ∷ numbers) = list_any (nat_eq n) before || repeats (before ++ n ∷ []) numbers

abbrev pub is_twice : Parts → Bool
is_twice p = repeats [] (numbers_in p.below)

-- a pair whose number is none of these
abbrev pub is_unknown : List ℕ → Option (List ℕ × ℕ) → Bool
is_unknown numbers None = false
is_unknown numbers (Some q) = not (list_any (nat_eq q.1) numbers)

abbrev pub has_unknown : Parts → Bool
has_unknown p = list_any (λ i. is_unknown (numbers_in p.below) (pair_in i)) p.right

-- one of the sides has too many nodes
abbrev pub has_many : Parts → Bool
has_many p = nat_lt most_nodes (length p.below + 1) || nat_lt most_nodes (length p.right)

-- a rule as its line says it
pub record RuleLine : Type 0 where
  pub parts : Parts
  pub cost : ℕ

abbrev pub rule_line_of : Parts → ℕ → RuleLine
rule_line_of p cost = record { parts = p; cost = cost }

abbrev pub with_cost : Parts → Result ℕ FaultKind → Result (Option RuleLine) FaultKind
with_cost p (Err kind) = Err kind
with_cost p (Ok cost) = if has_many p then Err kinds.TooManyNodes else Ok (Some (rule_line_of p cost))

abbrev pub checked : Scale → Parts → Result (Option RuleLine) FaultKind
checked scale p =
    if is_lone p then Err kinds.LoneVariable
    else if is_twice p then Err kinds.VariableTwice
    else if has_unknown p then Err kinds.UnknownVariable
    else with_cost p (cost_of scale p.weight)

abbrev pub good_parts : Scale → Option Parts → Result (Option RuleLine) FaultKind
good_parts scale None = Err kinds.BadRule
good_parts scale (Some p) = checked scale p

abbrev pub rule_in : (List Word → Option (List Item)) → Scale → Option (List Piece) →
    Result (Option RuleLine) FaultKind
rule_in read scale None = Err kinds.BadToken
rule_in read scale (Some []) = Ok None
rule_in read scale (Some (p ∷ pieces)) = good_parts scale (parts_by read (p ∷ pieces))

-- no tokens, or a rule, or the first fault of the line
unfoldable pub rule_line_by : (List Word → Option (List Item)) → Scale → List ℕ →
    Result (Option RuleLine) FaultKind
rule_line_by read scale line = rule_in read scale (pieces_of line)

abbrev pub rule_line : Scale → List ℕ → Result (Option RuleLine) FaultKind
rule_line scale line = rule_line_by nodes_of scale line
