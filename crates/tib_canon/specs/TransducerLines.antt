-- The lines of a printed text.
use Rattle.std.specs.Prelude.{◌≡◌, ℕ, ◌<◌, List, [], ◌∷◌, ◌++◌, length}
use Rattle.std.proofs.Common.{get_or, zero, suc}
use Rattle.tib_lex.specs.Lines.{HasNoFeed}
use Rattle.tib_lex.specs.Lists.{Each}
use Rattle.tib_transducer.specs.Rules.{transducer_rule}
use Rattle.tib_transducer.specs.declared.TransducerRule.{TransducerRule}
use Rattle.tib_canon.specs.declared.lines.Line.{Line}

-- lines, each with a line feed after it
abbrev pub fed : List (List ℕ) → List ℕ
fed [] = []
fed (line ∷ lines) = line ++ 10 ∷ fed lines

-- the text is these lines, none of which has a line feed
pub record AreLinesOf (text : List ℕ) (lines : List (List ℕ)) : Type 0 where
  pub is : text ≡ fed lines
  pub free : Each HasNoFeed lines

-- the state of the rule at a position, and its text, which comes after that of the start
pub record IsMoveLine (rules : List (TransducerRule ℕ)) (texts : List (List ℕ)) (line : Line) : Type 0 where
  pub below : line.position < length rules
  pub state : line.left ≡ (transducer_rule rules line.position).state
  pub text : line.text.now ≡ get_or texts (suc line.position) []

-- the numbers below n, in order
abbrev pub up_to : ℕ → List ℕ
up_to zero = []
up_to (suc n) = up_to n ++ n ∷ []
