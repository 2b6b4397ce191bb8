-- What the check of deterministic form knows as it goes along.
use Rattle.std.specs.Prelude.{◌≡◌, ℕ, ◌<◌, List, [], ◌∷◌, ◌++◌, length, Bool, false, IsTrue, Option, None, Some}
use Rattle.std.proofs.Common.{get_or}
use Rattle.tib_lex.specs.Lists.{Has}
use Rattle.tib_tree.specs.Trees.{preorder_of}
use Rattle.tib_grammar.specs.Items.{pairs_of}
use Rattle.tib_grammar.specs.Run.{rule_at}
use Rattle.tib_grammar.specs.Forms.{StandsInSide, IsShaped, IsNested, IsBrokenChain}
use Rattle.tib_grammar.specs.declared.Item.{Item}
use Rattle.tib_grammar.specs.declared.Rule.{Rule}
use Rattle.tib_grammar.specs.declared.DeterminismFault.{DeterminismFault}
use Rattle.tib_grammar.specs.declared.DeterminismFault.TheVariants.{Nested, Chain, Shared, OutOfMemory}

-- the answer says whether the start is in a right-hand side
pub record TellsStart (rules : List (Rule ℕ)) (answer : Bool) : Type 0 where
  pub yes : IsTrue answer → StandsInSide rules 0
  pub no : answer ≡ false → StandsInSide rules 0 → ⊥

-- the fault of a right-hand side by itself, if it has one
abbrev pub IsShapeFault : List (Rule ℕ) → Rule ℕ → ℕ → Option DeterminismFault → Type 0
IsShapeFault rules r number None = IsShaped rules r
IsShapeFault rules r number (Some (Nested n)) = (n ≡ number) × IsNested r
IsShapeFault rules r number (Some (Chain n)) = (n ≡ number) × IsBrokenChain rules r
IsShapeFault rules r number (Some (Shared m n)) = ⊥
IsShapeFault rules r number (Some OutOfMemory) = ⊥

-- x is at the place i of a list of item lists, and at none before
pub record IsFirstPlace (xs : List (List (Item ℕ))) (x : List (Item ℕ)) (i : ℕ) : Type 0 where
  pub below : i < length xs
  pub at : get_or xs i [] ≡ x
  pub least : (k : ℕ) → k < i → get_or xs k [] ≡ x → ⊥

-- an item list was noted after others, unless it was among them
abbrev pub IsNoted : List (List (Item ℕ)) → List (Item ℕ) → Option ℕ → List (List (Item ℕ)) → Type 0
IsNoted old x None new = (Has old x → ⊥) × (new ≡ old ++ x ∷ [])
IsNoted old x (Some i) new = IsFirstPlace old x i × (new ≡ old)

-- these are the items of the first n right-hand sides
pub record AreFirstSides (lists : List (List (Item ℕ))) (rules : List (Rule ℕ)) (n : ℕ) : Type 0
  where
    pub counted : length lists ≡ n
    pub are : (k : ℕ) → k < n → pairs_of (get_or lists k []) ≡ preorder_of (rule_at rules k).right
