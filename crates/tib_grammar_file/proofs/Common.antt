-- What several proofs of this crate cite: values of the reading, lists that begin alike, and lines
-- without a rule.
use Rattle.std.specs.Prelude.{◌≡◌, ℕ, Bool, true, false, List, [], ◌∷◌, Option, None, Result, Ok, refl}
use Rattle.std.proofs.Common.{ap}
use Rattle.tib_cost.specs.declared.Scale.{Scale}
use Rattle.tib_lex.specs.Grammar.{Word, HasWords}
use Rattle.tib_lex.specs.declared.fault.FaultKind.{FaultKind}
use Rattle.tib_lex.specs.declared.fault.FileFault.{FileFault}
use Rattle.tib_lex.proofs.HasWords.{words_read}
use Rattle.tib_grammar_file.specs.Rule.{RuleLine, rule_line, rule_in, plain_parts, right_parts}

-- what is read from the line of the start, if it is not blank
abbrev pub Start : Type 0
Start = Result (Option (List ℕ)) FaultKind

-- what is read from a whole file: the start and the lines of its rules
abbrev pub Whole : Type 0
Whole = Result (List ℕ × List RuleLine) FileFault

-- lists that are the same have the same first member and the same rest
pub cons_same : {A : Type 0} (x y : A) (xs ys : List A) → x ∷ xs ≡ y ∷ ys → (x ≡ y) × (xs ≡ ys)
cons_same x y xs ys e = (cc, cc)

-- a blank line has no rule
pub blank_line : (scale : Scale) (line : List ℕ) → HasWords [] line → rule_line scale line ≡ Ok None
unfolding rule_line
blank_line scale line h = ap (rule_in scale) (words_read [] line h)

-- a left state without a full stop leaves the parts of the right-hand side
pub plain : (b : Bool) (left : List ℕ) (words : List Word) → b ≡ false → plain_parts b left words ≡ right_parts left words
plain true left words e = cc
plain false left words e = refl
