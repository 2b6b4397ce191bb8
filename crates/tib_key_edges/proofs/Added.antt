-- An edge after the keys of its ends.
use Rattle.std.specs.Global.{Vec}
use Rattle.std.specs.Prelude.{◌≡◌, ℕ, List, ◌++◌, length}
use Rattle.std.proofs.Common.{arith, ap, ◌∙◌}
use Rattle.std.proofs.lemmas.List.{length-append}
use Rattle.tib_grammar.specs.Sides.{Side as SideFor, holes_of}
use Rattle.tib_key_edges.specs.declared.side_listing.SideListing.{SideListing}
use Rattle.tib_key_edges.specs.Listing.{IsWithinBudget, IsReady, HasRule, IsAdded}
use Rattle.tib_key_edges.proofs.MappedSides.{holes_within}

-- where these keys were appended to the ends of a list
module _ {K H : Type 0} (side : SideFor ℕ H) (keys : List K) (old : SideListing K H) (ends : Vec K) (are : ends.items ≡ old.ends.items ++ keys) where
  abbrev now : SideListing K H
  now = record old { ends = ends }

  -- and are as many as the side has holes, the list is ready for the edge
  pub is_ready : IsWithinBudget old → length keys ≡ length (holes_of side) → IsReady side now
  is_ready within as_many = record {
    few = omega (arith, ap length are, length-append old.ends.items keys, as_many, holes_within side, within.few);
    within = within.within;
    budget = within.budget;
  }

  -- the edge is after its ends
  pub is_added : (first cost : ℕ) (new : SideListing K H) → first ≡ length old.ends.items → new.ends.items ≡ ends.items → HasRule side first cost now new → IsAdded side keys cost old new
  is_added first cost new at same ruled = record {
    ends = same ∙ are;
    rule = ruled.rule;
    rules = ruled.rules;
    position = ruled.position;
    side = ruled.side;
    first_end = ruled.first_end ∙ at;
    costs = ruled.costs;
    parts = ruled.parts;
  }
