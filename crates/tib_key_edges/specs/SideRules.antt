-- Edges over places that borrow a side, and how they are read.
use Rattle.std.specs.Prelude.{◌≡◌, ℕ, ◌+◌, List, ◌∷◌, length}
use Rattle.std.proofs.Common.{suc}
use Rattle.tib_lex.specs.Lists.{Each}
use Rattle.tib_tree.specs.Trees.{Trees, none, tree}
use Rattle.tib_grammar.specs.Sides.{Symbol, label, hole, Side as SideFor, holes, holes_of, side_map}
use Rattle.tib_grammar.specs.GrammarOf.{named_rule}
use Rattle.tib_grammar.specs.declared.Rule.{Rule}
use Rattle.tib_grammar.specs.Positions.{positions_of}
use Rattle.tib_expand.specs.declared.place.Place.{Place}
use Rattle.tib_expand.specs.declared.place.Place.TheVariants.{Known, End}
use Rattle.tib_expand.specs.EdgeLists.{IsWithin, key_at}
use Rattle.tib_expand.specs.Reading.{Reading}
use Rattle.tib_key_edges.specs.Ends.{ends_from}
use Rattle.tib_key_edges.specs.declared.side_rule.SideRule.{SideRule}

-- sides whose holes carry the numbers n, n + 1 and so on in preorder
abbrev pub numbered : {P : Type 0} → ℕ → Trees (Symbol ℕ P) → Trees (Symbol ℕ ℕ)
numbered n none = none
numbered n (tree (label f) kids rest) = tree (label f) (numbered n kids) (numbered (n + length (holes kids)) rest)
numbered n (tree (hole p) kids rest) = tree (hole n) none (numbered (suc n) rest)

abbrev pub numbered_root : {P : Type 0} → ℕ → Symbol ℕ P → Trees (Symbol ℕ P) → SideFor ℕ ℕ
numbered_root n (label f) kids = record { label = label f; kids = numbered n kids }
numbered_root n (hole p) kids = record { label = hole n; kids = none }

abbrev pub numbered_side : {P : Type 0} → ℕ → SideFor ℕ P → SideFor ℕ ℕ
numbered_side n side = numbered_root n side.label side.kids

-- the places in a rule, its left one first
abbrev pub places_of : {H : Type 0} → SideRule H → List Place
places_of r = Known r.position ∷ ends_from r.first_end (length (holes_of r.side.now))

-- the edge that a rule over places stands for, where each place has its key
abbrev pub read_places : {H K : Type 0} → (Place → K) → SideRule H → Rule K
read_places f r = record { left = f (Known r.position); right = side_map (λ i. f (End i)) (numbered_side r.first_end r.side.now); cost = r.cost }

-- how rules over places and over positions are read as edges
abbrev pub side_reading : (K H : Type 0) → Reading K (Rule K) (SideRule H) (Rule ℕ)
side_reading K H = record {
  places = λ r. places_of r;
  positions = λ r. positions_of r;
  read_places = λ f r. read_places f r;
  read_positions = λ f r. named_rule f r;
}

-- over the order and the ends the rule is within, and reads as the edge
pub record Reads {K H : Type 0} (order ends : List K) (r : SideRule H) (e : Rule K) : Type 0 where
  pub within : Each (IsWithin (length order) (length ends)) (places_of r)
  pub read : (d : K) → read_places (key_at d order ends) r ≡ e
