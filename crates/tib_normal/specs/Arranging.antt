-- The rules of rows as they are arranged, state by state.
use Rattle.std.specs.Prelude.{◌≡◌, ℕ, ◌<◌, ◌≤◌, List, length, map}
use Rattle.std.proofs.Common.{get_or}
use Rattle.tib_lex.specs.Lists.{Has, Ascends}
use Rattle.tib_grammar.specs.declared.Rule.{Rule}
use Rattle.tib_normal.specs.Rows.{side_at}
use Rattle.tib_normal.specs.Gathered.{rule_of, AreOther}
use Rattle.tib_normal.specs.declared.row.Row.{Row}

-- the left states of some rows
abbrev pub states_of : List Row → List ℕ
states_of rows = map (λ x. x.state) rows

-- the row at a place
abbrev pub row_at : List Row → ℕ → Row
row_at rows n = get_or rows n (record { state = 0; side = 0; cost = 0 })

-- no two rows have equal sides under different numbers
abbrev pub HaveOneNumber : List (List ℕ) → List Row → Type 0
HaveOneNumber table rows =
    (x y : Row) → Has rows x → Has rows y → side_at table x.side ≡ side_at table y.side →
    x.side ≡ y.side

-- a rule stands for a row, and for one before place n where its left state is q
pub record IsOfRow (table : List (List ℕ)) (rows : List Row) (q n : ℕ) (r : Rule ℕ) : Type 0 where
  pub place : ℕ
  pub below : place < length rows
  pub is : rule_of table (row_at rows place) ≡ r
  pub before : r.left ≡ q → place < n

-- the rules of the rows of the states below q, and of those of q before place n
pub record IsArranging (table : List (List ℕ)) (rows : List Row) (q n : ℕ)
    (rules : List (Rule ℕ)) : Type 0 where
  pub ascends : Ascends (λ r s. r.left ≤ s.left) rules
  pub below : (r : Rule ℕ) → Has rules r → r.left ≤ q
  pub of_rows : (r : Rule ℕ) → Has rules r → IsOfRow table rows q n r
  pub earlier : (i : ℕ) → i < length rows → (row_at rows i).state < q →
      Has rules (rule_of table (row_at rows i))
  pub here : (i : ℕ) → i < length rows → (row_at rows i).state ≡ q → i < n →
      Has rules (rule_of table (row_at rows i))
  pub apart : Ascends AreOther rows → HaveOneNumber table rows →
      Ascends (λ r s. r.left ≡ s.left → r.right ≡ s.right → ⊥) rules

-- the rules that the rows stand for, in ascending order of their left states, which are below a
-- number
pub record AreArranged (table : List (List ℕ)) (rows : List Row) (states : ℕ)
    (rules : List (Rule ℕ)) : Type 0 where
  pub ascends : Ascends (λ r s. r.left ≤ s.left) rules
  pub of_rows : (r : Rule ℕ) → Has rules r → (x : Row) × Has rows x × (rule_of table x ≡ r)
  pub all_rows : (x : Row) → Has rows x → x.state < states → Has rules (rule_of table x)
  pub apart : Ascends AreOther rows → HaveOneNumber table rows →
      Ascends (λ r s. r.left ≡ s.left → r.right ≡ s.right → ⊥) rules
