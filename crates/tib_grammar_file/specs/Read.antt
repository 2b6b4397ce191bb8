-- What the reader returns.
use Rattle.tib_cost.specs.declared.Scale.{Scale}
use Rattle.std.specs.Prelude.{ℕ, List}
use Rattle.tib_grammar.specs.GrammarOf.{GrammarOf}
use Rattle.tib_grammar_file.specs.GrammarText.{GrammarText, AreSmallRules}

-- the bytes are the text of this grammar, whose right-hand sides have 10,000 nodes at most
pub record ReadsAs (scale : Scale) (labels : List (List ℕ)) (bytes : List ℕ)
    (g : GrammarOf) : Type 0 where
  pub text : GrammarText scale labels bytes g
  pub small : AreSmallRules g.rules
