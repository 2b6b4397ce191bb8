-- How the words of a line are read.
use Rattle.std.proofs.Common.{◌≡◌, ℕ, ◌<◌, ◌≤◌, true, false, List, [], ◌∷◌, length, map, take, get_or, refl, ap, sym, ◌∙◌, subst, arith, Option, rules}
use Rattle.std.specs.Prelude.{Some, None, Ok, Err, slice_get, nat_lt, ◌++◌, ◌+◌}
use Rattle.std.proofs.lemmas.Bool.Decides.{nat_tests}
use Rattle.std.specs.List.{list_all, All}
use Rattle.std.proofs.lemmas.List.{take_all, take_more, length-map, map-append}
use Rattle.std.proofs.lemmas.List.Folds.{list_all-map, list_all_at}
use Rattle.tib_lex.specs.Grammar.{Word, open_, close, hash, arrow, name, label}
use Rattle.tib_lex.specs.Line.{words_of, word_at, words_at, text_of, Lies}
use Rattle.tib_lex.specs.Lists.{Along}
use Rattle.tib_lex.specs.declared.token.Token.{Token}
use Rattle.tib_lex.specs.declared.fault.FaultKind.TheVariants as kinds
use Rattle.tib_lex.proofs.Alongs.{along_map, along_more}
use Rattle.tib_tree.specs.Grows.{Grows, Adds, AddsAll}
use Rattle.tib_tree.specs.Trees.{most_nodes}
use Rattle.tib_tree.proofs.Adding.{adds_join}
use Rattle.tib_tree.specs.Written.{Item}
use Rattle.tib_strings.specs.Listed.{is_mark_alone, is_entry, item_of, list_in, texts_of, IsNamed}
use Rattle.tib_strings.specs.StringReading.{string_in_words, small_list, string_line, more_in_words, more_line}
use Rattle.tib_strings.specs.Found.{AreWords}
use Rattle.tib_strings.specs.Entries.{list_of_entries, list_of_mark, no_list}
use Rattle.tib_strings.proofs.LineFacts.{few_words, many_words}

-- tokens that were tried
pub one_fails : (line : List ℕ) (ts : List Token) (k : ℕ) (d : Token) → k < length ts → is_entry (word_at line (get_or ts k d)) ≡ false → false ≡ list_all is_entry (words_at line ts)
one_fails line ts k d h e = sym (list_all-map is_entry (word_at line) ts ∙ list_all_at (λ t. is_entry (word_at line t)) ts k d h e)

pub all_pass : (line : List ℕ) (ts : List Token) (k : ℕ) → length ts ≤ k → list_all (λ t. is_entry (word_at line t)) (take k ts) ≡ true → true ≡ list_all is_entry (words_at line ts)
all_pass line ts k h e =
    sym (list_all-map is_entry (word_at line) ts ∙ ap (list_all (λ t. is_entry (word_at line t))) (sym (take_all k ts h)) ∙ e)

-- a line with a bad token
pub bad_list_line : (line : List ℕ) → words_of line ≡ None → string_line line ≡ Err kinds.BadToken
unfolding string_line
bad_list_line line e = ap string_in_words e

pub bad_more_line : (line : List ℕ) → words_of line ≡ None → more_line line ≡ Some kinds.BadToken
unfolding more_line
bad_more_line line e = ap more_in_words e

-- a line of which these tokens were read
module _ (line : List ℕ) (ts : List Token) (read : words_of line ≡ Some (words_at line ts)) where
  long : length (map item_of (words_at line ts)) ≡ length ts
  long = length-map (words_at line ts) item_of ∙ length-map ts (word_at line)

  pub blank_list_line : length ts ≡ 0 → string_line line ≡ Ok None
  unfolding string_line
  blank_list_line e = by ts read e
    where
      by : (us : List Token) → words_of line ≡ Some (words_at line us) → length us ≡ 0 → string_in_words (words_of line) ≡ Ok None
      by [] r z = ap string_in_words r
      by (t ∷ us) r z = absurd (omega (arith, z))

  pub blank_more_line : length ts ≡ 0 → more_line line ≡ None
  unfolding more_line
  blank_more_line e = by ts read e
    where
      by : (us : List Token) → words_of line ≡ Some (words_at line us) → length us ≡ 0 → more_in_words (words_of line) ≡ None
      by [] r z = ap more_in_words r
      by (t ∷ us) r z = absurd (omega (arith, z))

  pub more_tokens_line : 0 < length ts → more_line line ≡ Some kinds.BadString
  unfolding more_line
  more_tokens_line e = by ts read e
    where
      by : (us : List Token) → words_of line ≡ Some (words_at line us) → 0 < length us → more_in_words (words_of line) ≡ Some kinds.BadString
      by [] r some = absurd (omega (arith, some))
      by (t ∷ us) r some = ap more_in_words r

  tokens_line : (o : Option (List Item)) → 0 < length ts → list_in (words_at line ts) ≡ o → string_line line ≡ small_list o
  unfolding string_line
  tokens_line o e l = by ts read e l
    where
      by : (us : List Token) → words_of line ≡ Some (words_at line us) → 0 < length us → list_in (words_at line us) ≡ o → string_in_words (words_of line) ≡ small_list o
      by [] r some l = absurd (omega (arith, some))
      by (t ∷ us) r some l = ap string_in_words r ∙ ap small_list l

  pub no_words_line : 0 < length ts → is_mark_alone (words_at line ts) ≡ false → list_all is_entry (words_at line ts) ≡ false → string_line line ≡ Err kinds.BadString
  no_words_line some m l = tokens_line None some (no_list (words_at line ts) m l)

  pub many_words_line : 0 < length ts → is_mark_alone (words_at line ts) ≡ false → list_all is_entry (words_at line ts) ≡ true → nat_lt most_nodes (length ts) ≡ true → string_line line ≡ Err kinds.TooManyNodes
  many_words_line some m l e =
      let many : most_nodes < length ts = grind (arith, nat_tests) in
      tokens_line (Some (map item_of (words_at line ts))) some (list_of_entries (words_at line ts) m l) ∙ many_words (map item_of (words_at line ts)) (omega (arith, long, many))

  pub words_line : 0 < length ts → is_mark_alone (words_at line ts) ≡ false → list_all is_entry (words_at line ts) ≡ true → nat_lt most_nodes (length ts) ≡ false → All (Lies (length line)) ts → length ts ≤ length line → AreWords line ts
  words_line some m l e lie few =
      let small : length ts ≤ most_nodes = grind (arith, nat_tests) in
      record {
        read = tokens_line (Some (map item_of (words_at line ts))) some (list_of_entries (words_at line ts) m l) ∙ few_words (map item_of (words_at line ts)) (omega (arith, long, small));
        lie = lie;
        few = few;
        small = small;
      }

  pub mark_line : (now : List Token) → 0 < length ts → is_mark_alone (words_at line ts) ≡ true → now ≡ [] → AreWords line now
  mark_line now some m e =
      subst (λ (us : List Token). AreWords line us) (sym e) (record {
        read = tokens_line (Some []) some (list_of_mark (words_at line ts) m) ∙ few_words [] (omega arith);
        lie = search rules;
        few = omega arith;
        small = omega arith;
      })

-- the words of some tokens, and of one more
pub text_item : (w : Word) → (item_of w).text ≡ text_of w
text_item (name text) = refl
text_item (label text) = refl
text_item open_ = refl
text_item close = refl
text_item hash = refl
text_item arrow = refl

more_items : (line : List ℕ) (ts : List Token) (k : ℕ) (d : Token) → k < length ts → map item_of (words_at line (take (k + 1) ts)) ≡ map item_of (words_at line (take k ts)) ++ item_of (word_at line (get_or ts k d)) ∷ []
more_items line ts k d h =
    ap (λ (us : List Token). map item_of (words_at line us)) (take_more ts k d h)
    ∙ ap (map item_of) (map-append (word_at line) (take k ts) (get_or ts k d ∷ []))
    ∙ map-append item_of (words_at line (take k ts)) (word_at line (get_or ts k d) ∷ [])

pub named_more : (line : List ℕ) (ts : List Token) (k : ℕ) (d : Token) (a b : List (List ℕ)) (words now : List ℕ) (f : ℕ) → k < length ts → Grows a b → slice_get b f ≡ Some (text_of (word_at line (get_or ts k d))) → now ≡ words ++ f ∷ [] → Along (IsNamed a) words (map item_of (words_at line (take k ts))) → Along (IsNamed b) now (map item_of (words_at line (take (k + 1) ts)))
named_more line ts k d a b words now f h g named e all =
    let one : Item = item_of (word_at line (get_or ts k d)) in
    let before : List Item = map item_of (words_at line (take k ts)) in
    let kept : Along (IsNamed b) words before = along_map (IsNamed a) (IsNamed b) (λ n i at. g.kept n i.text at) words before all in
    let last : IsNamed b f one = named ∙ ap (λ (t : List ℕ). Some t) (sym (text_item (word_at line (get_or ts k d)))) in
    subst (λ (is : List Item). Along (IsNamed b) now is) (sym (more_items line ts k d h))
    (subst (λ (s : List ℕ). Along (IsNamed b) s (before ++ one ∷ [])) (sym e) (along_more (IsNamed b) words before f one kept last))

pub added_more : (line : List ℕ) (ts : List Token) (k : ℕ) (d : Token) (old a b : List (List ℕ)) → k < length ts → Adds a (text_of (word_at line (get_or ts k d))) b → AddsAll old (texts_of (map item_of (words_at line (take k ts)))) a → AddsAll old (texts_of (map item_of (words_at line (take (k + 1) ts)))) b
added_more line ts k d old a b h new all =
    let one : Item = item_of (word_at line (get_or ts k d)) in
    let before : List Item = map item_of (words_at line (take k ts)) in
    let here : Adds a one.text b = subst (λ (t : List ℕ). Adds a t b) (sym (text_item (word_at line (get_or ts k d)))) new in
    subst (λ (is : List Item). AddsAll old (texts_of is) b) (sym (more_items line ts k d h))
    (subst (λ (texts : List (List ℕ)). AddsAll old texts b) (sym (map-append (λ (i : Item). i.text) before (one ∷ []))) (adds_join old a b (texts_of before) (one.text ∷ []) all (b, here, refl)))
