-- The places of a list.
use Rattle.std.proofs.Common.{◌≡◌, ℕ, ◌+◌, ◌-◌, ◌<◌, ◌≤◌, List, [], ◌∷◌, ◌++◌, length, map, drop, get_or, reverse, ap, sym, ◌∙◌, arith}
use Rattle.std.specs.Prelude.{None}
use Rattle.std.proofs.lemmas.List.{reverse-append, map-append, drop_more, drop_all}
use Rattle.tib_lex.specs.Line.{word_at, words_at}
use Rattle.tib_lex.specs.declared.token.Token.{Token}
use Rattle.tib_tree.specs.Shape.{item_at, items_back}
use Rattle.tib_tree.specs.declared.shape.Place.{Place}
use Rattle.tib_strings.specs.Listed.{item_of}

abbrev pub IsListed : List ℕ → List Token → List Place → ℕ → Type 0
IsListed line tokens places i = items_back line places ≡ map item_of (words_at line (drop i tokens))

pub listing_starts : (line : List ℕ) (tokens : List Token) (places : List Place) (i : ℕ) → i ≡ length tokens → places ≡ [] → IsListed line tokens places i
listing_starts line tokens places i h e = ap (items_back line) e ∙ ap (λ (ts : List Token). map item_of (words_at line ts)) (sym (drop_all i tokens (omega (arith, h))))

leaf_item : (line : List ℕ) (p : Place) (t : Token) → p.token ≡ t → p.kids ≡ None → item_at line p ≡ item_of (word_at line t)
leaf_item line p t e k = cc

pub listing_goes : (line : List ℕ) (tokens : List Token) (places now : List Place) (p : Place) (i : ℕ) (d : Token) → 0 < i → i ≤ length tokens → p.token ≡ get_or tokens (i - 1) d → p.kids ≡ None → now ≡ places ++ p ∷ [] → IsListed line tokens places i → IsListed line tokens now (i - 1)
listing_goes line tokens places now p i d h within token kids e l =
    let n : i - 1 + 1 ≡ i = omega (arith, h) in
    ap (items_back line) e
    ∙ ap reverse (map-append (item_at line) places (p ∷ []))
    ∙ reverse-append (map (item_at line) places) (item_at line p ∷ [])
    ∙ ap (λ is. item_at line p ∷ is) l
    ∙ ap (λ x. x ∷ map item_of (words_at line (drop i tokens))) (leaf_item line p (get_or tokens (i - 1) d) token kids)
    ∙ sym (ap (λ (ts : List Token). map item_of (words_at line ts)) (drop_more tokens (i - 1) d (omega (arith, h, within))) ∙ ap (λ (m : ℕ). map item_of (words_at line (get_or tokens (i - 1) d ∷ drop m tokens))) n)

pub listing_ends : (line : List ℕ) (tokens : List Token) (places : List Place) (i : ℕ) → i ≤ 0 → IsListed line tokens places i → items_back line places ≡ map item_of (words_at line tokens)
listing_ends line tokens places i h l = l ∙ ap (λ (n : ℕ). map item_of (words_at line (drop n tokens))) (let z : i ≡ 0 = omega (arith, h) in z)
