-- The lists of positions that are tried for a position of an order, and the edges that they give.
use Rattle.std.specs.Prelude.{◌≡◌, ℕ, ◌<◌, ◌≤◌, List, [], ◌∷◌, ◌++◌, map, length, Bool, true, false, nat_eq, if◌then◌else◌, Option, None, Some}
use Rattle.std.proofs.Common.{zero, suc}
use Rattle.tib_lex.specs.Lists.{Has, Each, Distinct, Along}
use Rattle.tib_grammar.specs.Sides.{Symbol, label, hole, holes, over}
use Rattle.tib_grammar.specs.Run.{rule_at}
use Rattle.tib_grammar.specs.declared.Rule.{Rule}
use Rattle.tib_expand.specs.EdgeLists.{Lists}
use Rattle.tib_cost.specs.Semiring.{most}
use Rattle.tib_determinize.specs.Vectors.{VectorOf, Rises, IsSomeCost, IsStep, vector_at, vectors_at}
use Rattle.tib_determinize.specs.Determinization.{IsVectorSeed, IsVectorEdge}

-- each state is in the vector at its place
abbrev pub AreHeld : List ℕ → List VectorOf → Type 0
AreHeld qs vs = Along (λ q v. (r : ℕ) × Has {A = ℕ × ℕ} v (q, r)) qs vs

-- the label f and the positions ps may be an origin of an edge of position n
pub record IsCandidate (n : ℕ) (o : ℕ × List ℕ) : Type 0 where
  pub up_to : Each (λ p. p ≤ n) o.1
  pub stands : Has o.1 n

-- Candidates, each once, and among them all at which some state has a cost of at most the greatest.
pub record AreCandidates (product : ℕ → ℕ → ℕ) (rules : List (Rule ℕ)) (order : List VectorOf) (n : ℕ) (os : List (ℕ × List ℕ)) : Type 0 where
  pub once : Distinct os
  pub each : Each (IsCandidate n) os
  pub whole : (o : ℕ × List ℕ) → IsCandidate n o → (u : ℕ) → IsSomeCost product rules o.0 (vectors_at order o.1) u → u ≤ most → Has os o

-- the step of a label over vectors, if it has one
abbrev pub IsStepOf : (ℕ → ℕ → ℕ) → List (Rule ℕ) → ℕ → List VectorOf → Option (ℕ × VectorOf) → Type 0
IsStepOf product rules f vs None = (m : ℕ) (v : VectorOf) → IsStep product rules f vs m v → ⊥
IsStepOf product rules f vs (Some s) = IsStep product rules f vs s.0 s.1

abbrev pub ComputesSteps : (ℕ → ℕ → ℕ) → List (Rule ℕ) → (ℕ → List VectorOf → Option (ℕ × VectorOf)) → Type 0
ComputesSteps product rules step = (f : ℕ) (vs : List VectorOf) → Each (λ v. Rises v) vs → IsStepOf product rules f vs (step f vs)

-- the edge of an origin, if it has one, before others
abbrev pub edge_before : List VectorOf → ℕ × List ℕ → Option (ℕ × VectorOf) → List (Rule VectorOf) → List (Rule VectorOf)
edge_before order o None es = es
edge_before order o (Some s) es = record { left = s.1; right = over o.0 (vectors_at order o.1); cost = s.0 } ∷ es

-- the edges of some candidates
abbrev pub edges_from : (ℕ → List VectorOf → Option (ℕ × VectorOf)) → List VectorOf → List (ℕ × List ℕ) → List (Rule VectorOf)
edges_from step order [] = []
edges_from step order (o ∷ os) = edge_before order o (step o.0 (vectors_at order o.1)) (edges_from step order os)

-- the edges of the candidates of a position are its edges, each once
abbrev pub EdgesAreListed : (ℕ → ℕ → ℕ) → Type 0
EdgesAreListed product =
    (rules : List (Rule ℕ)) (order : List VectorOf) (n : ℕ) (os : List (ℕ × List ℕ)) (step : ℕ → List VectorOf → Option (ℕ × VectorOf)) → n < length order →
    Each (λ v. Rises v) order → ComputesSteps product rules step → AreCandidates product rules order n os → Lists (IsVectorEdge product rules order n) (edges_from step order os)

-- labels, each once, and among them all at which some state has a cost over no vector
pub record AreLeafLabels (product : ℕ → ℕ → ℕ) (rules : List (Rule ℕ)) (fs : List ℕ) : Type 0 where
  pub once : Distinct fs
  pub whole : (f u : ℕ) → IsSomeCost product rules f [] u → u ≤ most → Has fs f

-- the edges of these labels are those of the seeds, each once
abbrev pub SeedsAreListed : (ℕ → ℕ → ℕ) → Type 0
SeedsAreListed product =
    (rules : List (Rule ℕ)) (fs : List ℕ) (step : ℕ → List VectorOf → Option (ℕ × VectorOf)) → ComputesSteps product rules step → AreLeafLabels product rules fs →
    Lists (IsVectorSeed product rules) (edges_from step [] (map (λ f. (f, [])) fs))

-- The walk over child places: the rules that are still alive are determined by the states at the
-- places to come.

-- whether a state is in a vector
abbrev pub holds : VectorOf → ℕ → Bool
holds [] q = false
holds (x ∷ v) q = if nat_eq x.0 q then true else holds v q

-- the rules that are alive after a place with this vector
abbrev pub alive : VectorOf → List (List ℕ) → List (List ℕ)
alive v [] = []
alive v ([] ∷ rules) = alive v rules
alive v ((q ∷ qs) ∷ rules) = if holds v q then qs ∷ alive v rules else alive v rules

-- what is listed for each of the first positions, after that position
abbrev pub at_each : (ℕ → List (List ℕ)) → ℕ → List (List ℕ)
at_each g zero = []
at_each g (suc m) = at_each g m ++ map (λ ps. m ∷ ps) (g m)

abbrev pub at_last : Bool → List (List ℕ) → List (List ℕ)
at_last seen [] = []
at_last seen (qs ∷ rules) = if seen then [] ∷ [] else []

-- the lists of k positions up to n that some of the rules matches, and in which n is, unless it was
-- seen before
abbrev pub walks : List VectorOf → ℕ → ℕ → Bool → List (List ℕ) → List (List ℕ)
walks order n zero seen rules = at_last seen rules
walks order n (suc k) seen rules = at_each (λ p. walks order n k (if nat_eq p n then true else seen) (alive (vector_at order p) rules)) (suc n)

-- whether a symbol is the label f
abbrev pub is_root : Symbol ℕ ℕ → ℕ → Bool
is_root (label g) f = nat_eq g f
is_root (hole p) f = false

-- the states of the rules with the label f over k of them
abbrev pub states_over : List (Rule ℕ) → ℕ → ℕ → List (List ℕ)
states_over [] f k = []
states_over (r ∷ rules) f k =
    if is_root r.right.label f then (if nat_eq (length (holes r.right.kids)) k then holes r.right.kids ∷ states_over rules f k else states_over rules f k) else states_over rules f k

-- what is listed for each label and rank, with that label
abbrev pub tagged : (ℕ × ℕ → List (List ℕ)) → List (ℕ × ℕ) → List (ℕ × List ℕ)
tagged listed [] = []
tagged listed (s ∷ shapes) = map (λ ps. (s.0, ps)) (listed s) ++ tagged listed shapes

-- the candidates of a position, for each label and rank
abbrev pub candidates : List (Rule ℕ) → List VectorOf → ℕ → List (ℕ × ℕ) → List (ℕ × List ℕ)
candidates rules order n shapes = tagged (λ s. walks order n s.1 false (states_over rules s.0 s.1)) shapes

-- The same by the first place where n is: before it are positions below n, and after it any up to
-- n.
abbrev pub walks_first : List VectorOf → ℕ → ℕ → ℕ → List (List ℕ) → List (List ℕ)
walks_first order n zero j rules = []
walks_first order n (suc k) zero rules = map (λ ps. n ∷ ps) (walks order n k true (alive (vector_at order n) rules))
walks_first order n (suc k) (suc j) rules = at_each (λ p. walks_first order n k j (alive (vector_at order p) rules)) n

-- for each of the first places
abbrev pub walks_by_first : List VectorOf → ℕ → ℕ → List (List ℕ) → ℕ → List (List ℕ)
walks_by_first order n k rules zero = []
walks_by_first order n k rules (suc j) = walks_by_first order n k rules j ++ walks_first order n k j rules

abbrev pub candidates_by_first : List (Rule ℕ) → List VectorOf → ℕ → List (ℕ × ℕ) → List (ℕ × List ℕ)
candidates_by_first rules order n shapes = tagged (λ s. walks_by_first order n s.1 (states_over rules s.0 s.1) s.1) shapes

-- the labels of the rules with their ranks, each once
pub record AreShapes (rules : List (Rule ℕ)) (shapes : List (ℕ × ℕ)) : Type 0 where
  pub once : Distinct shapes
  pub whole : (m f : ℕ) → m < length rules → (rule_at rules m).right.label ≡ label f → Has {A = ℕ × ℕ} shapes (f, length (holes (rule_at rules m).right.kids))

-- some rule has the label f over states that are in the vectors
pub record HasMatch (rules : List (Rule ℕ)) (f : ℕ) (vs : List VectorOf) : Type 0 where
  pub rule : ℕ
  pub below : rule < length rules
  pub root : (rule_at rules rule).right.label ≡ label f
  pub held : AreHeld (holes (rule_at rules rule).right.kids) vs

-- the walk finds each list of positions up to n that some rule matches, and in which n is, once
pub record AreMatched (rules : List (Rule ℕ)) (order : List VectorOf) (n : ℕ) (os : List (ℕ × List ℕ)) : Type 0 where
  pub once : Distinct os
  pub each : Each (IsCandidate n) os
  pub matched : Each (λ o. HasMatch rules o.0 (vectors_at order o.1)) os
  pub whole : (o : ℕ × List ℕ) → IsCandidate n o → HasMatch rules o.0 (vectors_at order o.1) → Has os o

abbrev pub WalkFindsMatches : Type 0
WalkFindsMatches =
    (rules : List (Rule ℕ)) (order : List VectorOf) (n : ℕ) (shapes : List (ℕ × ℕ)) → AreShapes rules shapes → AreMatched rules order n (candidates rules order n shapes)

-- and so does the walk by the first place where n is
abbrev pub FirstPlacesFindMatches : Type 0
FirstPlacesFindMatches =
    (rules : List (Rule ℕ)) (order : List VectorOf) (n : ℕ) (shapes : List (ℕ × ℕ)) → AreShapes rules shapes → AreMatched rules order n (candidates_by_first rules order n shapes)

-- what some rule matches is enough
abbrev pub MatchesAreCandidates : (ℕ → ℕ → ℕ) → Type 0
MatchesAreCandidates product =
    (rules : List (Rule ℕ)) (order : List VectorOf) (n : ℕ) (os : List (ℕ × List ℕ)) → AreMatched rules order n os → AreCandidates product rules order n os
