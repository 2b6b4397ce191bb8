-- Strings that agree by the texts of their words, each over a table of labels of its own.
use Rattle.std.specs.Prelude.{ℕ, List}
use Rattle.tib_lex.specs.Lists.{Along}
use Rattle.tib_grammar_file.specs.ByText.{HaveOneText}

-- word by word they have one text
abbrev pub AreOneString : List (List ℕ) → List (List ℕ) → List ℕ → List ℕ → Type 0
AreOneString labels others s r = Along (HaveOneText labels others) s r
