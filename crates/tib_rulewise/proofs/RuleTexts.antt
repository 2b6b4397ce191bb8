-- The texts of the labels of rules.
use Rattle.std.specs.Prelude.{◌≡◌, ℕ, ◌+◌, ◌%◌, ◌<◌, ◌^◌, true, List, [], ◌∷◌, ◌++◌, get_or, decimal, slice_get, Some, refl}
use Rattle.std.specs.List.{list_all}
use Rattle.std.proofs.Common.{zero, suc, arith, ap, sym, ◌∙◌, subst}
use Rattle.std.proofs.lemmas.Bool.Decides.{nat_tests}
use Rattle.std.proofs.lemmas.Fmt.{decimal_by_steps, decimal_injective}
use Rattle.tib_lex.specs.Lines.{HasNoFeed, not_feed}
use Rattle.tib_lex.proofs.Lists.{tail_is}
use Rattle.tib_lex.proofs.Booleans.{and-true}
use Rattle.tib_tree.specs.Grows.{Grows, Adds, AddsAll, AreDistinct}
use Rattle.tib_tree.specs.Growth.{text_at}
use Rattle.tib_rulewise.specs.Derivations.{rule_text, rule_texts}

-- no digit is a line feed
digit_no_feed : (d : ℕ) → d < 10 → not_feed (48 + d) ≡ true
digit_no_feed d h = grind (arith, nat_tests)

all_more : (ds : List ℕ) (d : ℕ) → HasNoFeed ds → not_feed d ≡ true → HasNoFeed (ds ++ d ∷ [])
all_more [] d h k = rw k refl
all_more (c ∷ ds) d h k = let t = and-true (not_feed c) (list_all not_feed ds) h in rw (t.0, all_more ds d t.1 k) refl

plain_digits : (n : ℕ) → n < 2 ^ 64 → HasNoFeed (decimal n)
plain_digits =
    decimal_by_steps (λ n ds. HasNoFeed ds) (λ n h. rw (digit_no_feed n h) refl)
    (λ n ds h k. all_more ds (48 + n % 10) k (digit_no_feed (n % 10) (omega arith)))

-- the text of a rule's label has no line feed
pub plain_text : (n : ℕ) → n < 4294967296 → HasNoFeed (rule_text n)
plain_text n h = plain_digits n (omega arith)

-- and names one number
pub text_names : (m n : ℕ) → m < 4294967297 → n < 4294967297 → rule_text m ≡ rule_text n → m ≡ n
text_names m n a b e = decimal_injective m n (omega arith) (omega arith) (tail_is e)

-- a label with the text of a rule is the one that the table has for it
pub one_label : (labels : List (List ℕ)) → AreDistinct labels → (f root n : ℕ) → slice_get labels root ≡ Some (rule_text n) → text_at labels f ≡ rule_text n → f ≡ root
one_label labels d f root n named e = d.once f root (rule_text n) (found labels f e) named
  where
    found : (labels : List (List ℕ)) (f : ℕ) → get_or labels f [] ≡ 114 ∷ decimal n → slice_get labels f ≡ Some (114 ∷ decimal n)
    found [] f e = absurd (cc)
    found (x ∷ labels) zero e = ap Some e
    found (x ∷ labels) (suc f) e = found labels f e

-- texts that are named stay named
pub still_named : (before now : List (List ℕ)) (f : ℕ) (text : List ℕ) → Grows before now → slice_get before f ≡ Some text → slice_get now f ≡ Some text
still_named before now f text g e = g.kept f text e

-- what grows twice grows
pub grows_on : (a b c : List (List ℕ)) → Grows a b → Grows b c → Grows a c
grows_on a b c g h = record { kept = λ n text e. h.kept n text (g.kept n text e) }

pub grows_itself : (a b : List (List ℕ)) → b ≡ a → Grows a b
grows_itself a b e = record { kept = λ n text h. subst (λ (l : List (List ℕ)). slice_get l n ≡ Some text) (sym e) h }

-- one more text is added
adds_last : (a b c : List (List ℕ)) (xs : List (List ℕ)) (x : List ℕ) → AddsAll a xs b → Adds b x c → AddsAll a (xs ++ x ∷ []) c
adds_last a b c [] x e h = (c, subst (λ (l : List (List ℕ)). Adds l x c) e h, refl)
adds_last a b c (y ∷ xs) x (m, first, more) h = (m, first, adds_last m b c xs x more h)

texts_last : (n many : ℕ) → rule_texts n (suc many) ≡ rule_texts n many ++ rule_text (n + many) ∷ []
texts_last n zero = let e : n ≡ n + 0 = omega arith in ap (λ m. rule_text m ∷ []) e
texts_last n (suc many) =
    let e : suc n + many ≡ n + suc many = omega arith in
    ap (λ xs. rule_text n ∷ xs) (texts_last (suc n) many) ∙ ap (λ m. rule_text n ∷ (rule_texts (suc n) many ++ rule_text m ∷ [])) e

pub adds_more : (a b c : List (List ℕ)) (many number : ℕ) → number ≡ many → AddsAll a (rule_texts 1 many) b → Adds b (rule_text (number + 1)) c → AddsAll a (rule_texts 1 (many + 1)) c
adds_more a b c many number same all one =
    let e : many + 1 ≡ suc many = omega arith in
    let k : 1 + many ≡ number + 1 = omega arith in
    subst (λ (xs : List (List ℕ)). AddsAll a xs c) (sym (ap (rule_texts 1) e ∙ texts_last 1 many ∙ ap (λ m. rule_texts 1 many ++ rule_text m ∷ []) k))
    (adds_last a b c (rule_texts 1 many) (rule_text (number + 1)) all one)
