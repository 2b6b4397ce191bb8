-- What the trees of a list cost in the whole grammar, and where they are.
use Rattle.std.specs.Prelude.{◌≡◌, ℕ, ◌<◌, ◌⊎◌, List, [], ◌∷◌, length, nat_eq, if◌then◌else◌}
use Rattle.std.proofs.Common.{suc, get_or}
use Rattle.tib_lex.specs.Lists.{Has, Each, Ascends}
use Rattle.tib_grammar.specs.declared.Rule.{Rule}
use Rattle.tib_ranked_trees.specs.Best.{Costed, IsTreeAt}
use Rattle.tib_ranked_trees.specs.Pass.{no_entry}

-- the grammar gives each tree of the list a cost
abbrev pub HaveCosts : (ℕ → ℕ → ℕ) → List (Rule ℕ) → List Costed → Type 0
HaveCosts product rules xs = Each (λ x. (c : ℕ) × IsTreeAt product rules 0 (x.0, c)) xs

-- these are what the first trees of the list cost
abbrev pub CostFirst : (ℕ → ℕ → ℕ) → List (Rule ℕ) → List Costed → List ℕ → Type 0
CostFirst product rules xs ws =
    (i : ℕ) → i < length ws → IsTreeAt product rules 0 ((get_or xs i no_entry).0, get_or ws i 0)

-- these are the costs that come with the first trees
abbrev pub CostAsListed : List Costed → List ℕ → Type 0
CostAsListed xs ws = (i : ℕ) → i < length ws → get_or ws i 0 ≡ (get_or xs i no_entry).1

-- these are what the trees of the list cost, in order
pub record AreWeights (product : ℕ → ℕ → ℕ) (rules : List (Rule ℕ)) (xs : List Costed)
    (ws : List ℕ) : Type 0 where
  pub long : length ws ≡ length xs
  pub each : CostFirst product rules xs ws

-- the first costs with their places
pub record AreNumbered (ws : List ℕ) (n : ℕ) (ps : List (ℕ × ℕ)) : Type 0 where
  pub long : length ps ≡ n
  pub each : (i : ℕ) → i < n → get_or ps i (0, 0) ≡ (get_or ws i 0, i)

-- costs with their places in the order of costs, and of places where costs are equal
pub record AreByCost (ws : List ℕ) (ps : List (ℕ × ℕ)) : Type 0 where
  pub long : length ps ≡ length ws
  pub sound : (p : ℕ × ℕ) → Has ps p → (p.1 < length ws) × (get_or ws p.1 0 ≡ p.0)
  pub whole : (i : ℕ) → i < length ws → Has {A = ℕ × ℕ} ps (get_or ws i 0, i)
  pub ascend : Ascends (λ p q. (p.0 < q.0) ⊎ ((p.0 ≡ q.0) × (p.1 < q.1))) ps

-- the places of a cost, where the first place is i
abbrev pub places_from : ℕ → ℕ → List ℕ → List ℕ
places_from c i [] = []
places_from c i (w ∷ ws) =
    if nat_eq w c then i ∷ places_from c (suc i) ws else places_from c (suc i) ws
