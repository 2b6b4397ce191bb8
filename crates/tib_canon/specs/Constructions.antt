-- The canonical grammar of what a construction reaches.
use Rattle.tib_cost.specs.declared.Scale.{Scale}
use Rattle.std.specs.Prelude.{◌≡◌, ℕ, ◌≤◌, List, length, map}
use Rattle.std.proofs.Common.{get_or}
use Rattle.tib_grammar.specs.GrammarOf.{GrammarOf, named_rule}
use Rattle.tib_grammar.specs.Range.{AreInRange, SidesEndInHoles}
use Rattle.tib_grammar.specs.declared.Rule.{Rule}
use Rattle.tib_grammar_file.specs.GrammarText.{GrammarText}
use Rattle.tib_grammar_file.specs.Printable.{ArePrintable}
use Rattle.tib_grammar_file.specs.Printed.{grammar_text}
use Rattle.tib_expand.specs.Reached.{Exploration, IsReachedSet, parts_of}
use Rattle.tib_canon.specs.Keys.{IsCanonicalOverKeys}
use Rattle.tib_canon.specs.declared.begin.Begin.{Begin}
use Rattle.tib_canon.specs.declared.begin.Begin.TheVariants.{At, Fresh}

-- A construction: what it hunts, where edges are rules over keys; a key for each place past the end
-- of an order; and what the start over an order is.
pub record Construction (K O : Type 0) : Type 1 where
  pub problem : Exploration K O (Rule K)
  pub spare : K
  pub begins : List K → Begin → Type 0

-- the start is the first key of the order
abbrev pub at_first : {K : Type 0} → List K → Begin → Type 0
at_first order begin = begin ≡ At 0

-- the start is a fresh one with these finals
abbrev pub fresh_with : {K : Type 0} → (List K → List (ℕ × ℕ)) → List K → Begin → Type 0
fresh_with finals order begin = begin ≡ Fresh (finals order)

-- the edges for which rules over the positions of an order stand
abbrev pub edges_over : {K : Type 0} → K → List K → List (Rule ℕ) → List (Rule K)
edges_over spare order rules = map (named_rule (λ n. get_or order n spare)) rules

-- there is a reached set that has at most as many parts as the limit
pub record HasReachedWithin {K O E : Type 0} (p : Exploration K O E) (limit : ℕ) : Type 0 where
  pub order : List K
  pub edges : List E
  pub reached : IsReachedSet p order edges
  pub within : parts_of p order edges ≤ limit

-- rules over this many states, with nothing below a state, that can be printed
pub record AreRulesOver (scale : Scale) (labels : List (List ℕ)) (states : ℕ) (rules : List (Rule ℕ)) : Type 0 where
  pub in_range : AreInRange states rules
  pub leaves : SidesEndInHoles rules
  pub printable : ArePrintable scale labels rules

-- The canonical form of the reached set of a construction, which is within the limit.
pub record IsCanonicalOf {K O : Type 0} (product : ℕ → ℕ → ℕ) (scale : Scale) (labels : List (List ℕ)) (limit : ℕ) (c : Construction K O) (h : GrammarOf) : Type 0 where
  pub order : List K
  pub rules : List (Rule ℕ)
  pub begin : Begin
  pub reached : IsReachedSet c.problem order (edges_over c.spare order rules)
  pub within : parts_of c.problem order (edges_over c.spare order rules) ≤ limit
  pub rules_over : AreRulesOver scale labels (length order) rules
  pub begun : c.begins order begin
  pub canonical : IsCanonicalOverKeys product scale labels c.problem.cmp order rules begin h

-- the same for a construction from what values were brought to, as trimmed normal forms
pub record IsCanonicalFrom {W K O : Type 0} (product : ℕ → ℕ → ℕ) (scale : Scale) (labels : List (List ℕ)) (limit : ℕ)
    (IsMade : W → Type 0) (constructing : W → Construction K O) (h : GrammarOf) : Type 0 where
  pub from : W
  pub is_made : IsMade from
  pub canonical : IsCanonicalOf product scale labels limit (constructing from) h

-- The text is that of a canonical grammar with this series. It reads back as this grammar only.
pub record HasGrammarText (scale : Scale) (labels : List (List ℕ)) (IsResult : GrammarOf → Type 0) (HasSeries : List (Rule ℕ) → Type 0) (text : List ℕ) : Type 0 where
  pub h : GrammarOf
  pub canonical : IsResult h
  pub series : HasSeries h.rules
  pub are : text ≡ grammar_text scale labels h
  pub read : GrammarText scale labels text h
