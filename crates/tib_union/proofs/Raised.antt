-- Rules raised in place: where a list has each number raised, rules under its numbers are the
-- raised rules.
use Rattle.std.specs.Prelude.{◌≡◌, ℕ, ◌+◌, ◌<◌, List, [], ◌∷◌, length, map}
use Rattle.std.proofs.Common.{suc, arith, subst, sym}
use Rattle.tib_lex.specs.Lists.{Has, Each}
use Rattle.tib_lex.proofs.Lists.{map_same, each_append, has_mapped}
use Rattle.tib_lex.proofs.Members.{each_of, at_has, has_at}
use Rattle.tib_tree.specs.Trees.{Trees, none, tree, only}
use Rattle.tib_grammar.specs.Sides.{Symbol, label, hole, holes, holes_of, HolesAreLeaves}
use Rattle.tib_grammar.specs.GrammarOf.{named_rule}
use Rattle.tib_grammar.specs.Positions.{states_in}
use Rattle.tib_grammar.specs.Range.{AllBelow, IsInRange, AreInRange, SidesEndInHoles}
use Rattle.tib_grammar.specs.Renaming.{number_in}
use Rattle.tib_grammar.specs.Run.{rule_at, no_rule}
use Rattle.tib_grammar.specs.declared.Rule.{Rule}
use Rattle.tib_grammar.proofs.Below.{below_split}
use Rattle.tib_grammar.proofs.Positions.{reads_positions}
use Rattle.tib_grammar.proofs.Sides.{holes-relabel}
use Rattle.tib_union.specs.Sum.{raised}

-- what holds of each number below n holds of the states of sides in range
states_each : (P : ℕ → Type 0) (n : ℕ) → ((q : ℕ) → q < n → P q) → (ts : Trees (Symbol ℕ ℕ)) → HolesAreLeaves ts → AllBelow n (holes ts) → Each P (states_in ts)
states_each P n h none leaves b = tt
states_each P n h (tree (label f) kids rest) leaves b =
    let both = below_split n (holes kids) (holes rest) b in
    each_append P (states_in kids) (states_in rest) (states_each P n h kids leaves.0 both.0) (states_each P n h rest leaves.1 both.1)
states_each P n h (tree (hole q) none rest) leaves b = (h q b.0, states_each P n h rest leaves b.1)
states_each P n h (tree (hole q) (tree s kids more) rest) leaves b = absurd leaves

-- rules in range are raised by a list that raises each number in range
pub raised_by :
    (by n : ℕ) (numbers : List ℕ) → ((q : ℕ) → q < n → number_in numbers q ≡ by + q) → (rules : List (Rule ℕ)) → AreInRange n rules → SidesEndInHoles rules →
    map (named_rule (number_in numbers)) rules ≡ raised by rules
raised_by by n numbers are rules range leaves =
    map_same (named_rule (number_in numbers)) (named_rule (λ q. by + q)) rules (each_of (λ r. named_rule (number_in numbers) r ≡ named_rule (λ q. by + q) r) rules (λ r h. one r (at_has rules r no_rule h)))
  where
    one : (r : Rule ℕ) → (m : ℕ) × (m < length rules) × (rule_at rules m ≡ r) → named_rule (number_in numbers) r ≡ named_rule (λ q. by + q) r
    one r at =
        let low : IsInRange n r = subst (IsInRange n) at.2 (range at.0 at.1) in
        let ends : HolesAreLeaves (only r.right) = subst (λ (s : Rule ℕ). HolesAreLeaves (only s.right)) at.2 (leaves at.0 at.1) in
        reads_positions r (number_in numbers) (λ q. by + q) (are r.left low.0, states_each (λ q. number_in numbers q ≡ by + q) n are (only r.right) ends low.1)

-- numbers below n, raised, are below m
below_raised : (by n m : ℕ) → by + n < suc m → (qs : List ℕ) → AllBelow n qs → AllBelow m (map (λ q. by + q) qs)
below_raised by n m fits [] b = tt
below_raised by n m fits (q ∷ qs) b = (omega (arith, fits, b.0), below_raised by n m fits qs b.1)

-- and so are the states of raised rules
pub raised_low : (by n m : ℕ) → by + n < suc m → (rules : List (Rule ℕ)) → AreInRange n rules → (s : Rule ℕ) → Has (raised by rules) s → IsInRange m s
raised_low by n m fits rules range s h =
    let r = has_mapped (named_rule (λ q. by + q)) rules s h in
    let at = at_has rules r.0 no_rule r.1 in
    let low : IsInRange n r.0 = subst (IsInRange n) at.2 (range at.0 at.1) in
    subst (IsInRange m) r.2 (omega (arith, fits, low.0), subst (AllBelow m) (sym (holes-relabel (λ q. by + q) (only r.0.right))) (below_raised by n m fits (holes_of r.0.right) low.1))

-- rules whose members are in range are in range
pub range_of : (m : ℕ) (rules : List (Rule ℕ)) → ((s : Rule ℕ) → Has rules s → IsInRange m s) → AreInRange m rules
range_of m rules h i low = h (rule_at rules i) (has_at rules i no_rule low)
