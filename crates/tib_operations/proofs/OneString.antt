-- The strings of one text, each over a table of labels of its own, agree word by word.
use Rattle.std.proofs.Common.{◌≡◌, ℕ, List, [], ◌∷◌, sym, ap, ◌∙◌}
use Rattle.std.specs.Prelude.{Some}
use Rattle.std.proofs.lemmas.Option.{get_or_from_slice_get}
use Rattle.tib_lex.specs.Lists.{Along}
use Rattle.tib_tree.specs.Growth.{text_at}
use Rattle.tib_tree.specs.Written.{Item}
use Rattle.tib_strings.specs.Listed.{IsNamed}
use Rattle.tib_strings.specs.StringText.{ReadsAsString, words_of_string}
use Rattle.tib_strings.proofs.Strings.{one_text}
use Rattle.tib_operations.specs.ByText.{AreOneString}

words_agree :
    (labels others : List (List ℕ)) (s r : List ℕ) (is js : List Item) → Along (IsNamed labels) s is → Along (IsNamed others) r js → words_of_string labels s ≡ words_of_string others r →
    AreOneString labels others s r
words_agree labels others [] [] is js h k e = tt
words_agree labels others [] (g ∷ r) is js h k e = absurd (cc e)
words_agree labels others (f ∷ s) [] is js h k e = absurd (cc e)
words_agree labels others (f ∷ s) (g ∷ r) [] js h k e = absurd h
words_agree labels others (f ∷ s) (g ∷ r) (i ∷ is) [] h k e = absurd k
words_agree labels others (f ∷ s) (g ∷ r) (i ∷ is) (j ∷ js) h k e =
    let first : text_at labels f ≡ text_at others g = cc e in
    let rest : words_of_string labels s ≡ words_of_string others r = cc e in
    let same : j.text ≡ i.text = sym (get_or_from_slice_get others g j.text [] k.0) ∙ sym first ∙ get_or_from_slice_get labels f i.text [] h.0 in
    (record { text = i.text; first = h.0; second = k.0 ∙ ap (λ (t : List ℕ). Some t) same }, words_agree labels others s r is js h.1 k.1 rest)

pub one_string : (labels others : List (List ℕ)) (bytes s r : List ℕ) → ReadsAsString labels bytes s → ReadsAsString others bytes r → AreOneString labels others s r
one_string labels others bytes s r l m = words_agree labels others s r l.0.items m.0.items l.0.words m.0.words (one_text labels others bytes s r l m)
