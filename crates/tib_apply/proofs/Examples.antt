-- The definitions computed on small grammars and transducers.
use Rattle.std.specs.Prelude.{◌≡◌, ℕ, ◌+◌, List, [], ◌∷◌, refl, None, Some}
use Rattle.std.proofs.Common.{arith}
use Rattle.tib_tree.specs.Trees.{none, tree, only}
use Rattle.tib_grammar.specs.Sides.{label, hole, over, leaves, side_map}
use Rattle.tib_grammar.specs.declared.Rule.{Rule}
use Rattle.tib_cost.specs.Semiring.{sum_laws}
use Rattle.tib_transducer.specs.Rules.{transducer_rule, variables_of}
use Rattle.tib_transducer.specs.declared.TransducerRule.{TransducerRule}
use Rattle.tib_apply.specs.Restrictions.{restricted_labels, restriction, Admits}
use Rattle.tib_match.specs.Matches.{IsMatch}
use Rattle.tib_apply.specs.Backward.{IsBackwardEdge}
use Rattle.tib_apply.specs.Forward.{forward_key, deleted, IsDeletedCost}
use Rattle.tib_match.proofs.MatchCosts.{match_is_least}

-- t.A(x0:c x1:) -> B(t.x1 t.x0) # 1, t.a -> b # 0, t.c -> d # 2; the labels are A 0, B 1, a 2, b 3,
-- c 4 and d 5
abbrev moves : List (TransducerRule ℕ)
moves =
    record {
      state = 0;
      left = record { label = label 0; kids = tree (hole (record { number = 0; label = Some 4 })) none (tree (hole (record { number = 1; label = None })) none none) };
      right = record { label = label 1; kids = tree (hole (record { state = 0; variable = 1 })) none (tree (hole (record { state = 0; variable = 0 })) none none) };
      cost = 1;
    }
    ∷ record { state = 0; left = record { label = label 2; kids = none }; right = record { label = label 3; kids = none }; cost = 0 }
    ∷ record { state = 0; left = record { label = label 4; kids = none }; right = record { label = label 5; kids = none }; cost = 2 }
    ∷ []

-- s -> B(u v) # 3, u -> b # 0, v -> d # 1; the states are s 0, u 1 and v 2
abbrev grammar : List (Rule ℕ)
grammar = record { left = 0; right = over 1 (1 ∷ 2 ∷ []); cost = 3 } ∷ record { left = 1; right = over 3 []; cost = 0 } ∷ record { left = 2; right = over 5 []; cost = 1 } ∷ []

-- one label is asked for, so x0 has the restriction 1 and x1 the restriction 0
labels : restricted_labels moves ≡ 4 ∷ []
labels = refl

first_restriction : restriction (restricted_labels moves) (Some 4) ≡ 1
first_restriction = refl

second_restriction : restriction (restricted_labels moves) None ≡ 0
second_restriction = refl

-- the restriction 1 admits the label c alone
admits_c : Admits (restricted_labels moves) 1 4
admits_c = (omega arith, refl)

admits_no_a : Admits (restricted_labels moves) 1 2 → ⊥
admits_no_a h = omega (arith, h.1)

-- from s to u and v the match of B(t.x1 t.x0) costs 3 by sum
matched : IsMatch ◌+◌ grammar (transducer_rule moves 0).right 0 (1 ∷ 2 ∷ []) (Some 3)
matched = match_is_least sum_laws grammar (only (transducer_rule moves 0).right) (0 ∷ []) (1 ∷ 2 ∷ [])

-- so there is an edge to A, at 4: x0 is at v and must have the label c, and x1 is at u
backward_edge :
    IsBackwardEdge ◌+◌ moves grammar (0, 0, 0) (0, 1 ∷ 2 ∷ [])
    (record { left = (0, 0, 0); right = record { label = label 0; kids = leaves ((0, 2, 1) ∷ (0, 1, 0) ∷ []) }; cost = 4 })
backward_edge = record {
  below = omega arith;
  state = refl;
  root = 0;
  is_root = refl;
  admitted = tt;
  matched = 3;
  is_match = matched;
  left = refl;
  right = refl;
  costs = refl;
  within = omega arith;
}

-- Of a right-hand side that names x0 alone x1 is left out, at its state. Where x1 asks for no
-- label, any run from there will do.
leaves_out : deleted (0 ∷ []) (variables_of (transducer_rule moves 0).left) (7 ∷ 8 ∷ []) ≡ (None, 8) ∷ []
leaves_out = refl

-- where x0 is left out, the run must begin with a rule for c
leaves_out_labelled : deleted (1 ∷ []) (variables_of (transducer_rule moves 0).left) (7 ∷ 8 ∷ []) ≡ (Some 4, 7) ∷ []
leaves_out_labelled = refl

-- the keys of the pairs t.x1 and t.x0, where x0 is at 7 and x1 at 8
forward_keys :
    side_map (forward_key (restricted_labels moves) (transducer_rule moves 0).left (7 ∷ 8 ∷ [])) (transducer_rule moves 0).right
    ≡ record { label = label 1; kids = leaves ((8, 0, 0) ∷ (7, 0, 1) ∷ []) }
forward_keys = refl

-- a run from u that begins with a rule for b costs 0 by sum, and none begins with one for c
begins_with_b : IsDeletedCost ◌+◌ grammar ((Some 3, 1) ∷ []) 0
begins_with_b = (0, 0, record { rule = 1; below = omega arith; left = refl; root = refl; inner = 0; runs = record { runs = none; are_runs = tt; costs = refl }; costs = refl }, refl, refl)
