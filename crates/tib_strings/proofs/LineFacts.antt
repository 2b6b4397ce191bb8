-- What is read of a line is what it holds.
use Rattle.std.proofs.Common.{◌≡◌, ℕ, ◌<◌, ◌≤◌, Bool, true, false, List, [], ◌∷◌, length, refl, ap, sym, ◌∙◌, arith, Option}
use Rattle.std.specs.Prelude.{Some, None, Result, Ok, Err, nat_lt, cond}
use Rattle.std.proofs.lemmas.Bool.Decides.{nat_tests}
use Rattle.tib_lex.specs.Grammar.{Word, HasWords}
use Rattle.tib_lex.specs.Line.{words_of}
use Rattle.tib_lex.specs.declared.fault.FaultKind.{FaultKind}
use Rattle.tib_lex.specs.declared.fault.FaultKind.TheVariants as kinds
use Rattle.tib_lex.proofs.HasWords.{words_read, words_had, bad_read, bad_had}
use Rattle.tib_tree.specs.Trees.{most_nodes}
use Rattle.tib_tree.specs.Written.{Item}
use Rattle.tib_strings.specs.Listed.{SpellsList, list_in}
use Rattle.tib_strings.specs.StringText.{IsBlank, HasList}
use Rattle.tib_strings.specs.StringFaults.{LineHolds, HasMore}
use Rattle.tib_strings.specs.StringReading.{small_list, string_in_words, string_line, more_in_words, more_line}
use Rattle.tib_strings.specs.Entries.{list_found, list_is}

held_list : (line : List ℕ) (is : List Item) (b : Bool) → HasList line is → nat_lt most_nodes (length is) ≡ b → LineHolds line (cond b (Err kinds.TooManyNodes) (Ok (Some is)))
held_list line is true h e = record { items = is; list = h; many = grind (arith, nat_tests) }
held_list line is false h e = let few : length is ≤ most_nodes = grind (arith, nat_tests) in (h, few)

held_words : (line : List ℕ) (t : Word) (ts : List Word) (o : Option (List Item)) → HasWords (t ∷ ts) line → list_in (t ∷ ts) ≡ o → LineHolds line (small_list o)
held_words line t ts None h e = record {
  token = t;
  tokens = ts;
  has = h;
  none = λ is spells. let bad : None ≡ Some is = sym e ∙ list_is (t ∷ ts) is spells in cc;
}
held_words line t ts (Some is) h e = held_list line is (nat_lt most_nodes (length is)) (record { token = t; tokens = ts; has = h; spells = list_found (t ∷ ts) is e }) refl

held : (line : List ℕ) (o : Option (List Word)) → words_of line ≡ o → LineHolds line (string_in_words o)
held line None e = bad_had line e
held line (Some []) e = words_had [] line e
held line (Some (t ∷ ts)) e = held_words line t ts (list_in (t ∷ ts)) (words_had (t ∷ ts) line e) refl

pub line_holds : (line : List ℕ) → LineHolds line (string_line line)
unfolding string_line
line_holds line = held line (words_of line) refl

-- the other way
pub few_words : (is : List Item) → length is ≤ most_nodes → small_list (Some is) ≡ Ok (Some is)
few_words is h = let e : nat_lt most_nodes (length is) ≡ false = grind (arith, nat_tests) in rw e refl

pub many_words : (is : List Item) → most_nodes < length is → small_list (Some is) ≡ Err kinds.TooManyNodes
many_words is h = let e : nat_lt most_nodes (length is) ≡ true = grind (arith, nat_tests) in rw e refl

list_of : (line : List ℕ) (is : List Item) (r : Result (Option (List Item)) FaultKind) → HasList line is → small_list (Some is) ≡ r → string_line line ≡ r
unfolding string_line
list_of line is r h e = ap string_in_words (words_read (h.token ∷ h.tokens) line h.has) ∙ ap small_list (list_is (h.token ∷ h.tokens) is h.spells) ∙ e

no_list_of : (tokens : List Word) (o : Option (List Item)) → ((is : List Item) → SpellsList tokens is → ⊥) → list_in tokens ≡ o → list_in tokens ≡ None
no_list_of tokens None h e = e
no_list_of tokens (Some is) h e = absurd (h is (list_found tokens is e))

pub line_is : (line : List ℕ) (r : Result (Option (List Item)) FaultKind) → LineHolds line r → string_line line ≡ r
unfolding string_line
line_is line (Ok None) h = ap string_in_words (words_read [] line h)
line_is line (Ok (Some is)) h = list_of line is (Ok (Some is)) h.0 (few_words is h.1)
line_is line (Err kinds.BadToken) h = ap string_in_words (bad_read h.0 line h.1)
line_is line (Err kinds.BadString) h =
    ap string_in_words (words_read (h.token ∷ h.tokens) line h.has) ∙ ap small_list (no_list_of (h.token ∷ h.tokens) (list_in (h.token ∷ h.tokens)) h.none refl)
line_is line (Err kinds.TooManyNodes) h = list_of line h.items (Err kinds.TooManyNodes) h.list (many_words h.items h.many)
line_is line (Err kinds.NoStart) h = absurd h
line_is line (Err kinds.BadRule) h = absurd h
line_is line (Err kinds.BadTree) h = absurd h
line_is line (Err kinds.LoneVariable) h = absurd h
line_is line (Err kinds.VariableTwice) h = absurd h
line_is line (Err kinds.UnknownVariable) h = absurd h
line_is line (Err kinds.NotWhole) h = absurd h
line_is line (Err kinds.WeightTooLarge) h = absurd h

-- lines after that of the string
abbrev pub MoreHolds : List ℕ → Option FaultKind → Type 0
MoreHolds line None = IsBlank line
MoreHolds line (Some kind) = HasMore line kind

held_more : (line : List ℕ) (o : Option (List Word)) → words_of line ≡ o → MoreHolds line (more_in_words o)
held_more line None e = bad_had line e
held_more line (Some []) e = words_had [] line e
held_more line (Some (t ∷ ts)) e = (t, ts, words_had (t ∷ ts) line e)

pub more_holds : (line : List ℕ) → MoreHolds line (more_line line)
unfolding more_line
more_holds line = held_more line (words_of line) refl

pub more_is : (line : List ℕ) (o : Option FaultKind) → MoreHolds line o → more_line line ≡ o
unfolding more_line
more_is line None h = ap more_in_words (words_read [] line h)
more_is line (Some kinds.BadToken) h = ap more_in_words (bad_read h.0 line h.1)
more_is line (Some kinds.BadString) h = ap more_in_words (words_read (h.0 ∷ h.1) line h.2)
more_is line (Some kinds.NoStart) h = absurd h
more_is line (Some kinds.BadRule) h = absurd h
more_is line (Some kinds.BadTree) h = absurd h
more_is line (Some kinds.LoneVariable) h = absurd h
more_is line (Some kinds.VariableTwice) h = absurd h
more_is line (Some kinds.UnknownVariable) h = absurd h
more_is line (Some kinds.NotWhole) h = absurd h
more_is line (Some kinds.WeightTooLarge) h = absurd h
more_is line (Some kinds.TooManyNodes) h = absurd h
