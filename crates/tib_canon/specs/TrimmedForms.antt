-- Trimmed normal forms.
use Rattle.std.specs.Prelude.{ℕ, length}
use Rattle.tib_grammar.specs.GrammarOf.{GrammarOf}
use Rattle.tib_normal.specs.NormalForm.{IsNormalForm}
use Rattle.tib_inside.specs.Trimmed.{IsTrimmed}

-- m is a normal form of g, trimmed
pub record IsTrimmedForm (product : ℕ → ℕ → ℕ) (g m : GrammarOf) : Type 0 where
  pub normal : GrammarOf
  pub form : IsNormalForm product (length g.names) g.rules (length normal.names) normal.rules
  pub trimmed : IsTrimmed product normal m
