-- The least cost of a choice that translates a side, by recursion on the side.
use Rattle.std.specs.Prelude.{◌≡◌, ℕ, List, [], ◌∷◌, length, if◌then◌else◌, Option, None, Some}
use Rattle.std.proofs.Common.{zero, suc}
use Rattle.tib_tree.specs.Trees.{Trees, none, tree, only, count}
use Rattle.tib_grammar.specs.Sides.{Symbol, label, hole, Side as SideFor, holes_of}
use Rattle.tib_cost.specs.Least.{IsLeast, lesser, times}
use Rattle.tib_transducer.specs.Rules.{transducer_rule}
use Rattle.tib_transducer.specs.Range.{AreShaped}
use Rattle.tib_key_edges.specs.Translations.{AreTranslations, choice_cost}
use Rattle.tib_key_edges.specs.Choices.{reads_label}
use Rattle.tib_transducer.specs.declared.Pair.{Pair}
use Rattle.tib_transducer.specs.declared.TransducerRule.{TransducerRule}

module _ (product : ℕ → ℕ → ℕ) (two : List (TransducerRule ℕ)) where
  -- c is the cost of a choice that translates the sides by the states
  abbrev pub HasChoiceCost : Trees (Symbol ℕ (Pair ℕ)) → List ℕ → ℕ → Type 0
  HasChoiceCost sides ps c = (choice : Trees (Option ℕ)) × AreTranslations two ps sides choice × (choice_cost product two choice ≡ c)

  -- the product of the least costs of the pairs
  abbrev pub least_joined : (ℕ → ℕ → Option ℕ) → List (Pair ℕ) → Option ℕ
  least_joined least [] = Some 0
  least_joined least (x ∷ xs) = times product (least x.variable x.state) (least_joined least xs)

  -- the least cost at a label f over n sides by the state p, with the first rules
  abbrev pub least_by_rules : (ℕ → ℕ → Option ℕ) → ℕ → ℕ → ℕ → ℕ → Option ℕ
  least_by_rules least p f n zero = None
  least_by_rules least p f n (suc m) =
      if reads_label p f n (transducer_rule two m)
      then lesser (least_by_rules least p f n m) (times product (Some (transducer_rule two m).cost) (least_joined least (holes_of (transducer_rule two m).right)))
      else least_by_rules least p f n m

  -- the least cost of a choice for the side at a place by a state
  abbrev pub least_at : Trees (Symbol ℕ (Pair ℕ)) → ℕ → ℕ → Option ℕ
  least_at none i p = None
  least_at (tree (hole x) kids rest) zero p = Some 0
  least_at (tree (label f) kids rest) zero p = least_by_rules (λ i q. least_at kids i q) p f (count kids) (length two)
  least_at (tree s kids rest) (suc i) p = least_at rest i p

  -- the least cost of a choice that translates a side by a state
  abbrev pub least_of : ℕ → SideFor ℕ (Pair ℕ) → Option ℕ
  least_of p s = least_at (only s) 0 p

-- this is the least cost of all choices
abbrev pub LeastsAreLeast : (ℕ → ℕ → ℕ) → Type 0
LeastsAreLeast product =
    (two : List (TransducerRule ℕ)) → AreShaped two → (p : ℕ) (s : SideFor ℕ (Pair ℕ)) → IsLeast (HasChoiceCost product two (only s) (p ∷ [])) (least_of product two p s)
