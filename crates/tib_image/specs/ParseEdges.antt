-- The edges of a key, one by one.
use Rattle.std.specs.Prelude.{ℕ, List, [], ◌++◌, length, map, Bool, true, false, nat_eq, if◌then◌else◌}
use Rattle.std.proofs.Common.{zero, suc}
use Rattle.tib_grammar.specs.Sides.{Symbol, label, hole, side_map}
use Rattle.tib_grammar.specs.declared.Rule.{Rule}
use Rattle.tib_expand.specs.EdgeLists.{Lists}
use Rattle.tib_transducer.specs.declared.Variable.{Variable}
use Rattle.tib_strings.specs.Rules.{string_rule, pairs_of}
use Rattle.tib_image.specs.Restrictions.{restricted_labels}
use Rattle.tib_strings.specs.Cuts.{spans}
use Rattle.tib_strings.specs.CutLists.{stands, cuts_of}
use Rattle.tib_image.specs.Parsing.{parse_key, IsParseEdge}
use Rattle.tib_strings.specs.declared.StringRule.{StringRule}

-- a left-hand side with this at its root begins with a label that the restriction admits
abbrev pub admits_root : List ℕ → ℕ → Symbol ℕ Variable → Bool
admits_root labels e (hole x) = false
admits_root labels zero (label f) = true
admits_root labels (suc n) (label f) = stands labels n f

-- the rule is one of the key's state, and its left-hand side is admitted
abbrev pub fits_key : List ℕ → ℕ × ℕ × ℕ × ℕ → StringRule ℕ → Bool
fits_key labels key r = if nat_eq r.state key.0 then admits_root labels key.3 r.left.label else false

-- the origins of edges of a key with the rule at position n
abbrev pub origins_at : List (StringRule ℕ) → List ℕ → ℕ × ℕ × ℕ × ℕ → ℕ → List (ℕ × List ℕ)
origins_at moves string key n =
    if fits_key (restricted_labels moves) key (string_rule moves n) then map (λ (ks : List ℕ). (n, ks)) (cuts_of string (string_rule moves n).right key.1 key.2) else []

-- those with the first n rules
abbrev pub origins_below : List (StringRule ℕ) → List ℕ → ℕ × ℕ × ℕ × ℕ → ℕ → List (ℕ × List ℕ)
origins_below moves string key zero = []
origins_below moves string key (suc n) = origins_below moves string key n ++ origins_at moves string key n

-- the edge of an origin
abbrev pub edge_of : List (StringRule ℕ) → ℕ × ℕ × ℕ × ℕ → ℕ × List ℕ → Rule (ℕ × ℕ × ℕ × ℕ)
edge_of moves key o = record {
  left = key;
  right = side_map (parse_key (restricted_labels moves) (pairs_of (string_rule moves o.0).right) (spans (string_rule moves o.0).right key.1 o.1)) (string_rule moves o.0).left;
  cost = (string_rule moves o.0).cost;
}

-- the edges of a key, by its rules and by the cuts of each
abbrev pub edges_of : List (StringRule ℕ) → List ℕ → ℕ × ℕ × ℕ × ℕ → List (Rule (ℕ × ℕ × ℕ × ℕ))
edges_of moves string key = map (edge_of moves key) (origins_below moves string key (length moves))

-- they are the edges of the key, each as often as origins give it
abbrev pub EdgesAreListed : Type 0
EdgesAreListed = (moves : List (StringRule ℕ)) (string : List ℕ) (key : ℕ × ℕ × ℕ × ℕ) → Lists (IsParseEdge moves string key) (edges_of moves string key)
