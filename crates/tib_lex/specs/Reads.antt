-- What is read from a line from a place on, in the terms of the format.
use Rattle.std.specs.Prelude.{◌≡◌, ℕ, ◌+◌, true, List, ◌++◌, [], length}
use Rattle.std.specs.List.{list_all}
use Rattle.tib_lex.specs.Bytes.{is_blank}
use Rattle.tib_lex.specs.Grammar.{AfterBlanks, HasWords, IsBad}
use Rattle.tib_lex.specs.Laws.{Found}
use Rattle.tib_lex.specs.declared.token.Token.{Token}
use Rattle.tib_lex.specs.declared.token.Lexed.{Lexed}
use Rattle.tib_lex.specs.declared.token.Lexed.TheVariants as lexed

-- a token that is a word after white space
pub record ReadsToken (bytes : List ℕ) (at : ℕ) (t : Token) : Type 0 where
  pub blanks : List ℕ
  pub rest : List ℕ
  pub parts : bytes ≡ blanks ++ rest
  pub white : list_all is_blank blanks ≡ true
  pub found : Found rest (at + length blanks) (lexed.Token t)

-- A token; the end where white space and a comment alone are left; a bad token where none begins.
abbrev pub Reads : List ℕ → ℕ → Lexed → Type 0
Reads bytes at (lexed.Token t) = ReadsToken bytes at t
Reads bytes at lexed.End = HasWords [] bytes
Reads bytes at (lexed.BadToken place) = AfterBlanks IsBad bytes
