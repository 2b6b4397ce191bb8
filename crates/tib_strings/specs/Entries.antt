-- Tokens that are words.
use Rattle.std.proofs.Common.{◌≡◌, ℕ, ◌≤◌, inl, inr, Bool, true, false, List, [], ◌∷◌, length, map, refl, ap, sym, ◌∙◌, subst, arith}
use Rattle.std.specs.Prelude.{Some, None, not, cond}
use Rattle.std.specs.List.{list_all}
use Rattle.std.specs.Str.{bytes_eq}
use Rattle.std.proofs.lemmas.Slice.Eq.{bytes_eq-Decides}
use Rattle.tib_lex.specs.Grammar.{Word, open_, close, hash, arrow, name, label}
use Rattle.tib_lex.specs.Lists.{Along}
use Rattle.tib_lex.proofs.Booleans.{and-true, and-both}
use Rattle.tib_lex.proofs.Lists.{some_is}
use Rattle.tib_tree.specs.Written.{Item}
use Rattle.tib_grammar_file.proofs.RulesRead.{HasNoHash}
use Rattle.tib_transducer_file.specs.Formats.{IsFormat}
use Rattle.tib_strings.specs.Listed.{mark, IsEntry, SpellsList, is_mark, is_mark_alone, is_entry, item_of, list_in}

-- `*e*` alone
alone_is : (tokens : List Word) → is_mark_alone tokens ≡ true → tokens ≡ name mark ∷ []
alone_is [] e = let bad : false ≡ true = e in absurd (cc)
alone_is (name text ∷ []) e = ap (λ (x : List ℕ). name x ∷ []) ((bytes_eq-Decides text mark).0 e)
alone_is (label text ∷ []) e = let bad : false ≡ true = e in absurd (cc)
alone_is (open_ ∷ []) e = let bad : false ≡ true = e in absurd (cc)
alone_is (close ∷ []) e = let bad : false ≡ true = e in absurd (cc)
alone_is (hash ∷ []) e = let bad : false ≡ true = e in absurd (cc)
alone_is (arrow ∷ []) e = let bad : false ≡ true = e in absurd (cc)
alone_is (t ∷ (u ∷ tokens)) e = let bad : false ≡ true = e in absurd (cc)

-- a word, by the test
entry_of : (t : Word) → is_entry t ≡ true → IsEntry t (item_of t)
entry_of (name text) e = (refl, λ same. let bad : false ≡ true = sym (ap not ((bytes_eq-Decides text mark).1 same)) ∙ e in cc)
entry_of (label text) e = refl
entry_of open_ e = let bad : false ≡ true = e in absurd (cc)
entry_of close e = let bad : false ≡ true = e in absurd (cc)
entry_of hash e = let bad : false ≡ true = e in absurd (cc)
entry_of arrow e = let bad : false ≡ true = e in absurd (cc)

entries_of : (tokens : List Word) → list_all is_entry tokens ≡ true → Along IsEntry tokens (map item_of tokens)
entries_of [] e = tt
entries_of (t ∷ tokens) e = let h = and-true (is_entry t) (list_all is_entry tokens) e in (entry_of t h.0, entries_of tokens h.1)

-- and the other way
not_mark : (text : List ℕ) (b : Bool) → bytes_eq text mark ≡ b → (text ≡ mark → ⊥) → b ≡ false
not_mark text true e h = absurd (h ((bytes_eq-Decides text mark).0 e))
not_mark text false e h = refl

entry_back : (t : Word) (i : Item) → IsEntry t i → (is_entry t ≡ true) × (item_of t ≡ i)
entry_back (name text) i h = (ap not (not_mark text (bytes_eq text mark) refl h.1), sym h.0)
entry_back (label text) i h = (refl, sym h)
entry_back open_ i h = absurd h
entry_back close i h = absurd h
entry_back hash i h = absurd h
entry_back arrow i h = absurd h

entries_back : (tokens : List Word) (is : List Item) → Along IsEntry tokens is → (list_all is_entry tokens ≡ true) × (map item_of tokens ≡ is)
entries_back [] [] h = (refl, refl)
entries_back [] (i ∷ is) h = absurd h
entries_back (t ∷ tokens) [] h = absurd h
entries_back (t ∷ tokens) (i ∷ is) h =
    let first = entry_back t i h.0 in
    let more = entries_back tokens is h.1 in
    (and-both (is_entry t) (list_all is_entry tokens) first.0 more.0, cc (first.1, more.1))

no_mark : (t : Word) (i : Item) → IsEntry t i → is_mark t ≡ false
no_mark (name text) i h = not_mark text (bytes_eq text mark) refl h.1
no_mark (label text) i h = refl
no_mark open_ i h = absurd h
no_mark close i h = absurd h
no_mark hash i h = absurd h
no_mark arrow i h = absurd h

not_alone : (tokens : List Word) (is : List Item) → Along IsEntry tokens is → is_mark_alone tokens ≡ false
not_alone [] is h = refl
not_alone (t ∷ []) [] h = absurd h
not_alone (t ∷ []) (i ∷ is) h = no_mark t i h.0
not_alone (t ∷ (u ∷ tokens)) is h = refl

-- the words of tokens are those that are read
pub list_found : (tokens : List Word) (is : List Item) → list_in tokens ≡ Some is → SpellsList tokens is
list_found tokens is e = by (is_mark_alone tokens) (list_all is_entry tokens) refl refl e
  where
    by : (a b : Bool) → is_mark_alone tokens ≡ a → list_all is_entry tokens ≡ b → cond a (Some []) (cond b (Some (map item_of tokens)) None) ≡ Some is → SpellsList tokens is
    by true b m l e = inl (alone_is tokens m, sym (some_is e))
    by false true m l e = inr (subst (λ (js : List Item). Along IsEntry tokens js) (some_is e) (entries_of tokens l))
    by false false m l e = let bad : None ≡ Some is = e in absurd (cc)

-- lists other than a lone mark are read word by word
pub list_of_entries : (tokens : List Word) → is_mark_alone tokens ≡ false → list_all is_entry tokens ≡ true → list_in tokens ≡ Some (map item_of tokens)
list_of_entries tokens m l = rw (m, l) refl

-- a mark alone is the empty list
pub list_of_mark : (tokens : List Word) → is_mark_alone tokens ≡ true → list_in tokens ≡ Some []
list_of_mark tokens m = rw m refl

-- other tokens are no list
pub no_list : (tokens : List Word) → is_mark_alone tokens ≡ false → list_all is_entry tokens ≡ false → list_in tokens ≡ None
no_list tokens m l = rw (m, l) refl

-- and a list is read so
pub list_is : (tokens : List Word) (is : List Item) → SpellsList tokens is → list_in tokens ≡ Some is
list_is tokens is (inl (m, e)) = ap list_in m ∙ ap (λ (js : List Item). Some js) (sym e)
list_is tokens is (inr h) =
    let b = entries_back tokens is h in
    list_of_entries tokens (not_alone tokens is h) b.0 ∙ ap (λ (js : List Item). Some js) b.1

-- words of a list are no hash
no_hash_entries : (words : List Word) (is : List Item) → Along IsEntry words is → HasNoHash words
no_hash_entries [] is h = tt
no_hash_entries (name t ∷ words) [] h = absurd h
no_hash_entries (label t ∷ words) [] h = absurd h
no_hash_entries (open_ ∷ words) [] h = absurd h
no_hash_entries (close ∷ words) [] h = absurd h
no_hash_entries (hash ∷ words) [] h = absurd h
no_hash_entries (arrow ∷ words) [] h = absurd h
no_hash_entries (name t ∷ words) (i ∷ is) h = no_hash_entries words is h.1
no_hash_entries (label t ∷ words) (i ∷ is) h = no_hash_entries words is h.1
no_hash_entries (open_ ∷ words) (i ∷ is) h = absurd h.0
no_hash_entries (close ∷ words) (i ∷ is) h = absurd h.0
no_hash_entries (hash ∷ words) (i ∷ is) h = absurd h.0
no_hash_entries (arrow ∷ words) (i ∷ is) h = absurd h.0

no_hash_list : (words : List Word) (is : List Item) → SpellsList words is → HasNoHash words
no_hash_list words is (inl (e, none)) = subst HasNoHash (sym e) tt
no_hash_list words is (inr h) = no_hash_entries words is h

-- and as many as its items at least
entries_few : (words : List Word) (is : List Item) → Along IsEntry words is → length is ≤ length words
entries_few [] [] h = omega arith
entries_few [] (i ∷ is) h = absurd h
entries_few (w ∷ words) [] h = absurd h
entries_few (w ∷ words) (i ∷ is) h = omega (arith, entries_few words is h.1)

list_few : (words : List Word) (is : List Item) → SpellsList words is → length is ≤ length words
list_few words is (inl (e, none)) = omega (arith, ap length none)
list_few words is (inr h) = entries_few words is h

-- right sides that are lists
pub lists : IsFormat SpellsList list_in
lists = record {
  back = λ words is e. list_found words is e;
  forth = λ words is h. list_is words is h;
  plain = λ words is h. no_hash_list words is h;
  few = λ words is h. list_few words is h;
}
