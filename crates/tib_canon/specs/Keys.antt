-- A grammar whose states are the keys of an order.
use Rattle.tib_cost.specs.declared.Scale.{Scale}
use Rattle.std.specs.Prelude.{◌≡◌, ◌↔◌, ℕ, ◌+◌, ◌<◌, Bool, not, nat_eq, Option, None, Some, List, [], ◌∷◌, ◌++◌, length, map, slice_get}
use Rattle.std.specs.Option.{option_cmp}
use Rattle.std.proofs.Common.{suc, get_or}
use Rattle.std.specs.declared.cmp.Ordering.{Ordering}
use Rattle.std.specs.declared.cmp.Ordering.TheVariants.{Less}
use Rattle.tib_lex.specs.Lists.{Has, Each, Ascends, Distinct}
use Rattle.tib_grammar.specs.GrammarOf.{GrammarOf, named_rule}
use Rattle.tib_grammar.specs.Range.{AreInRange}
use Rattle.tib_grammar.specs.Renaming.{number_in}
use Rattle.tib_grammar.specs.Sides.{Lone}
use Rattle.tib_grammar.specs.declared.Rule.{Rule}
use Rattle.tib_canon.specs.Canonical.{names_of, IsCanonical}
use Rattle.tib_canon.specs.declared.begin.Begin.{Begin}
use Rattle.tib_canon.specs.declared.begin.Begin.TheVariants.{At, Fresh, Empty}
use Rattle.tib_grammar.specs.Series.{HasSameSeries}

-- each key with its position, and whether it is not the start
abbrev pub marked : {K : Type 0} → ℕ → ℕ → List K → List (Bool × K × ℕ)
marked start n [] = []
marked start n (k ∷ ks) = (not (nat_eq n start), k, n) ∷ marked start (n + 1) ks

-- the key at the one position is less than that at the other
abbrev pub StandBefore : {K : Type 0} → (K → K → Ordering) → List K → ℕ → ℕ → Type 0
StandBefore {K} cmp order p q = (x y : K) → slice_get order p ≡ Some x → slice_get order q ≡ Some y → cmp x y ≡ Less

-- All positions of the order, each once: first the start, and then the others, which ascend by
-- their keys.
pub record AreByKeys {K : Type 0} (cmp : K → K → Ordering) (order : List K) (start : ℕ) (states : List ℕ) : Type 0 where
  pub others : List ℕ
  pub first : states ≡ start ∷ others
  pub ascend : Ascends (StandBefore cmp order) others
  pub all : (p : ℕ) → Has states p ↔ (p < length order)
  pub once : Distinct states
  pub many : length states ≡ length order

-- The grammar whose states are the keys of the order, the start first and the others ascending by
-- their keys. Its rules are the rules over positions, in their order.
pub record IsOverKeys {K : Type 0} (cmp : K → K → Ordering) (order : List K) (rules : List (Rule ℕ)) (start : ℕ) (g : GrammarOf) : Type 0 where
  pub states : List ℕ
  pub by_keys : AreByKeys cmp order start states
  pub names : g.names ≡ names_of (length order)
  pub in_range : AreInRange (length order) g.rules
  pub named : map (named_rule (λ i. get_or states i 0)) g.rules ≡ rules

-- the grammar of a start without rules
abbrev pub without_rules : GrammarOf
without_rules = record { names = names_of 1; rules = [] }

-- the keys after a fresh start, for which there is no key
abbrev pub behind_fresh : {K : Type 0} → List K → List (Option K)
behind_fresh order = None ∷ map (λ k. Some k) order

-- the chain rule to a position, at a cost, of a fresh start, which is 0, each position being one
-- more
abbrev pub chain_to : ℕ × ℕ → Rule ℕ
chain_to final = record { left = 0; right = Lone (suc final.0); cost = final.1 }

-- the same where a list has the number of the position
abbrev pub chain_in : List ℕ → ℕ × ℕ → Rule ℕ
chain_in numbers final = record { left = 0; right = Lone (number_in numbers final.0); cost = final.1 }

-- the rules of a fresh start with these finals, followed by those over positions
abbrev pub started_rules : List (ℕ × ℕ) → List (Rule ℕ) → List (Rule ℕ)
started_rules finals rules = map chain_to finals ++ map (named_rule suc) rules

-- the rules over positions with this start
abbrev pub begun_rules : Begin → List (Rule ℕ) → List (Rule ℕ)
begun_rules (At position) rules = rules
begun_rules (Fresh finals) rules = started_rules finals rules
begun_rules Empty rules = []

-- the positions in the start are among n
abbrev pub BeginsWithin : ℕ → Begin → Type 0
BeginsWithin n (At position) = position < n
BeginsWithin n (Fresh finals) = Each (λ final. final.0 < n) finals
BeginsWithin n Empty = Unit {0}

-- the grammar over the keys with this start; a fresh one comes before every key
abbrev pub IsBegun : {K : Type 0} → (K → K → Ordering) → List K → List (Rule ℕ) → Begin → GrammarOf → Type 0
IsBegun cmp order rules (At position) g = IsOverKeys cmp order rules position g
IsBegun cmp order rules (Fresh finals) g = IsOverKeys (option_cmp cmp) (behind_fresh order) (started_rules finals rules) 0 g
IsBegun cmp order rules Empty g = g ≡ without_rules

-- the canonical form of the grammar over the keys, which has its series
pub record IsCanonicalOverKeys {K : Type 0} (product : ℕ → ℕ → ℕ) (scale : Scale) (labels : List (List ℕ))
    (cmp : K → K → Ordering) (order : List K) (rules : List (Rule ℕ)) (begin : Begin) (h : GrammarOf) : Type 0 where
  pub over : GrammarOf
  pub begun : IsBegun cmp order rules begin over
  pub canonical : IsCanonical product scale labels over h
  pub series : HasSameSeries product over h
