-- The edges of a key, listed one after another.
use Rattle.std.specs.Prelude.{◌≡◌, ℕ, ◌+◌, ◌<◌, List, [], ◌∷◌, ◌++◌, length, map}
use Rattle.std.proofs.Common.{zero, suc, get_or}
use Rattle.tib_lex.specs.Lists.{Each, Along, total}
use Rattle.tib_grammar.specs.Sides.{label, holes_of, side_map}
use Rattle.tib_grammar.specs.declared.Rule.{Rule}
use Rattle.tib_grammar.specs.Positions.{all_ends}
use Rattle.tib_key_edges.specs.declared.side_listing.SideListing.{SideListing}
use Rattle.tib_key_edges.specs.SideRules.{Reads}
use Rattle.tib_key_edges.specs.Listing.{IsAlike}
use Rattle.tib_transducer.specs.declared.Variable.{Variable}
use Rattle.tib_strings.specs.declared.StringRule.{StringRule}
use Rattle.tib_strings.specs.Rules.{pairs_of}
use Rattle.tib_strings.specs.Cuts.{spans as cut_spans}
use Rattle.tib_apply.specs.Restrictions.{restriction, Admits}
use Rattle.tib_image.specs.Parsing.{parse_key}
use Rattle.tib_image.specs.ParseOperation.{edge_parts}
use Rattle.tib_image.specs.ParseEdges.{origins_at, edge_of}

-- a list of edges to left-hand sides
abbrev pub Listing : Type 0
Listing = SideListing (ℕ × ℕ × ℕ × ℕ) Variable

-- the key of a variable, where the states and the places of pairs are listed by the numbers of
-- their variables
abbrev pub variable_key : List ℕ → List (ℕ × ℕ × ℕ) → Variable → ℕ × ℕ × ℕ × ℕ
variable_key labels spans x =
    ((get_or spans x.number (0, 0, 0)).0, (get_or spans x.number (0, 0, 0)).1, (get_or spans x.number (0, 0, 0)).2, restriction labels x.label)

-- the place before the token at a position, where the first token is at i and these are the places
-- after the tokens
abbrev pub place_before : ℕ → List ℕ → ℕ → ℕ
place_before i ks zero = i
place_before i ks (suc n) = get_or ks n 0

-- the edges of the key are listed, over each order in which the key has the list's position
pub record IsListed (key : ℕ × ℕ × ℕ × ℕ) (es : List (Rule (ℕ × ℕ × ℕ × ℕ))) (l : Listing) : Type 0 where
  pub read :
      (order : List (ℕ × ℕ × ℕ × ℕ)) → l.position < length order → get_or order l.position (0, 0, 0, 0) ≡ key →
      Along (Reads order l.ends.items) l.rules.items es
  pub ends_are : l.ends.items ≡ all_ends es
  pub counted : l.parts ≡ total edge_parts es

-- these edges of the key come after those that are listed
pub record Adds (key : ℕ × ℕ × ℕ × ℕ) (es : List (Rule (ℕ × ℕ × ℕ × ℕ))) (old new : Listing) : Type 0 where
  pub listed : (front : List (Rule (ℕ × ℕ × ℕ × ℕ))) → IsListed key front old → IsListed key (front ++ es) new
  pub parts : new.parts ≡ old.parts + total edge_parts es
  pub alike : IsAlike old new

-- with these edges there are more parts than the budget
abbrev pub Overruns : List (Rule (ℕ × ℕ × ℕ × ℕ)) → Listing → Type 0
Overruns es old = old.budget < old.parts + total edge_parts es

-- the edges of a key with the rule at a position
abbrev pub edges_at : List (StringRule ℕ) → List ℕ → ℕ × ℕ × ℕ × ℕ → ℕ → List (Rule (ℕ × ℕ × ℕ × ℕ))
edges_at moves string key n = map (edge_of moves key) (origins_at moves string key n)

-- the edge of a key with a rule and a cut
abbrev pub cut_edge : List ℕ → ℕ × ℕ × ℕ × ℕ → StringRule ℕ → List ℕ → Rule (ℕ × ℕ × ℕ × ℕ)
cut_edge labels key r ks = record { left = key; right = side_map (parse_key labels (pairs_of r.right) (cut_spans r.right key.1 ks)) r.left; cost = r.cost }

-- those with the rules at some positions
abbrev pub edges_at_all : List (StringRule ℕ) → List ℕ → ℕ × ℕ × ℕ × ℕ → List ℕ → List (Rule (ℕ × ℕ × ℕ × ℕ))
edges_at_all moves string key [] = []
edges_at_all moves string key (n ∷ ns) = edges_at moves string key n ++ edges_at_all moves string key ns

-- the edges of some cuts, the first of those that were to come, are listed, and these cuts are to
-- come
pub record AreDone (labels : List ℕ) (key : ℕ × ℕ × ℕ × ℕ) (r : StringRule ℕ) (before now : List (List ℕ)) (old new : Listing) : Type 0 where
  pub cuts : List (List ℕ)
  pub are : before ≡ cuts ++ now
  pub adds : Adds key (map (cut_edge labels key r) cuts) old new

-- there is a place for each variable of the rule
pub record HasPlaces (count : ℕ) (r : StringRule ℕ) : Type 0 where
  pub left : Each (λ x. x.number < count) (holes_of r.left)
  pub right : Each (λ x. x.variable < count) (pairs_of r.right)

-- the restriction of the key admits the label with which the left-hand side of the rule begins
abbrev pub AdmitsRule : List ℕ → ℕ × ℕ × ℕ × ℕ → StringRule ℕ → Type 0
AdmitsRule labels key rule = (root : ℕ) × (rule.left.label ≡ label root) × Admits labels key.3 root
