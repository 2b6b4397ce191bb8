-- The parts of a rule line, by what was found in it.
use Rattle.std.proofs.Common.{◌≡◌, ℕ, ◌+◌, ◌<◌, List, [], ◌∷◌, length, take, drop, refl, ap, sym, ◌∙◌, subst, arith, true, false, Option, zero, suc}
use Rattle.std.specs.Prelude.{Some, None, nat_lt, cond, ◌==◌, slice_range}
use Rattle.std.specs.List.{All, list_any, prefix_len}
use Rattle.std.proofs.lemmas.Bool.Decides.{nat_tests}
use Rattle.tib_lex.specs.Grammar.{Word}
use Rattle.tib_lex.specs.Line.{word_at, words_at}
use Rattle.tib_lex.specs.declared.token.Token.{Token}
use Rattle.tib_tree.specs.Written.{Item}
use Rattle.tib_tree.specs.Machine.{nodes_of}
use Rattle.tib_tree.specs.Shape.{items_back, PlaceLies}
use Rattle.tib_tree.specs.declared.shape.Place.{Place}
use Rattle.tib_grammar_file.specs.Found.{text_at, WeightLies}
use Rattle.tib_grammar_file.specs.Rule.{front_of, weight_in, with_nodes, Parts as RightParts, parts as right_of}
use Rattle.tib_grammar_file.proofs.PartsRead.{words_front}
use Rattle.tib_transducer_file.specs.Pieces.{Piece, piece, meanings, pieces_at}
use Rattle.tib_transducer_file.specs.Forms.{left_words, is_stray}
use Rattle.tib_transducer_file.specs.Rule.{Parts, arrow_at, with_right, with_left, right_by, parts_at, parts_by}
use Rattle.tib_transducer_file.specs.Found.{parts_with, FoundIn, LeftIn, IsLeftFound}
use Rattle.tib_transducer_file.specs.declared.forms.RootToken.{RootToken}
use Rattle.tib_transducer_file.proofs.Joins.{no_arrow}

arrow_same : (line : List ℕ) (at : ℕ) (tokens : List Token) → arrow_at (pieces_at line at tokens) ≡ prefix_len no_arrow tokens
arrow_same line at [] = refl
arrow_same line at (t ∷ tokens) = ap (λ (n : ℕ). cond (no_arrow t) (1 + n) 0) (arrow_same line t.end tokens)

pub pieces_long : (line : List ℕ) (at : ℕ) (tokens : List Token) → length (pieces_at line at tokens) ≡ length tokens
pieces_long line at [] = refl
pieces_long line at (t ∷ tokens) = ap suc (pieces_long line t.end tokens)

take_same : (line : List ℕ) (at n : ℕ) (tokens : List Token) → take n (pieces_at line at tokens) ≡ pieces_at line at (take n tokens)
take_same line at zero tokens = refl
take_same line at (suc n) [] = refl
take_same line at (suc n) (t ∷ tokens) = ap (λ (ps : List Piece). piece (t.start == at) t.kind (slice_range line t.start t.end) ∷ ps) (take_same line t.end n tokens)

pub words_same : (line : List ℕ) (at : ℕ) (tokens : List Token) → meanings (pieces_at line at tokens) ≡ words_at line tokens
words_same line at [] = refl
words_same line at (t ∷ tokens) = ap (λ (ws : List Word). word_at line t ∷ ws) (words_same line t.end tokens)

back_same : (line : List ℕ) (at n : ℕ) (tokens : List Token) → meanings (drop n (pieces_at line at tokens)) ≡ words_at line (drop n tokens)
back_same line at zero tokens = words_same line at tokens
back_same line at (suc n) [] = refl
back_same line at (suc n) (t ∷ tokens) = back_same line t.end n tokens

pub no_arrow_found : (read : List Word → Option (List Item)) (line : List ℕ) (tokens : List Token) (n : ℕ) → n ≡ prefix_len no_arrow tokens → n ≡ length tokens → parts_by read (pieces_at line 0 tokens) ≡ None
unfolding parts_by
no_arrow_found read line tokens n e h =
    let a = arrow_same line 0 tokens in
    let l = pieces_long line 0 tokens in
    let b : nat_lt (arrow_at (pieces_at line 0 tokens)) (length (pieces_at line 0 tokens)) ≡ false = grind (arith, nat_tests) in
    rw b refl

pub split_found : (read : List Word → Option (List Item)) (line : List ℕ) (tokens front back : List Token) (n : ℕ) → n ≡ prefix_len no_arrow tokens → n < length tokens → front ≡ take n tokens → back ≡ drop (n + 1) tokens → parts_by read (pieces_at line 0 tokens) ≡ with_left (nodes_of (left_words (pieces_at line 0 front))) (right_by read (words_at line back))
unfolding parts_by
split_found read line tokens front back n e h f b =
    let a : arrow_at (pieces_at line 0 tokens) ≡ n = arrow_same line 0 tokens ∙ sym e in
    let l = pieces_long line 0 tokens in
    let t : nat_lt n (length (pieces_at line 0 tokens)) ≡ true = grind (arith, nat_tests) in
    ap (λ (m : ℕ). parts_at read m (pieces_at line 0 tokens)) a
    ∙ rw t
    (ap (λ (ps : List Piece). with_left (nodes_of (left_words ps)) (right_by read (meanings (drop (n + 1) (pieces_at line 0 tokens))))) (take_same line 0 n tokens ∙ ap (pieces_at line 0) (sym f))
    ∙ ap (λ (ws : List Word). with_left (nodes_of (left_words (pieces_at line 0 front))) (right_by read ws)) (back_same line 0 (n + 1) tokens ∙ ap (words_at line) (sym b)))

-- the right side, by what was read of its tokens
pub right_found : (read : List Word → Option (List Item)) (line : List ℕ) (back tree : List Token) (weight : Option Token) (o : Option (List Item)) → weight_in (words_at line back) ≡ text_at line weight → tree ≡ front_of weight back → read (words_at line tree) ≡ o → right_by read (words_at line back) ≡ with_nodes [] (text_at line weight) o
right_found read line back tree weight o w t n =
    ap (λ (v : Option (List ℕ)). with_nodes [] v (read (front_of v (words_at line back)))) w
    ∙ ap (λ (ws : List Word). with_nodes [] (text_at line weight) (read ws)) (sym (words_front line weight back) ∙ sym (ap (words_at line) t))
    ∙ ap (with_nodes [] (text_at line weight)) n

left_is : (line : List ℕ) (places : List Place) (root : RootToken) (items : Option (List Item)) (right : Option RightParts) → (l : LeftIn line places root items) → with_left items right ≡ with_right l.first l.below right
left_is line places root items right l = ap (λ (o : Option (List Item)). with_left o right) l.read_as ∙ (let s = l.state in rw s refl)

pub no_left : (line : List ℕ) (places : List Place) (items : Option (List Item)) (found : Option RootToken) (right : Option RightParts) (o : Option Parts) → IsLeftFound line places found items → found ≡ None → o ≡ with_left items right → o ≡ None
no_left line places items found right o l n e = e ∙ (subst (λ (f : Option RootToken). IsLeftFound line places f items) n l) right

pub some_left : (line : List ℕ) (places : List Place) (items : Option (List Item)) (found : Option RootToken) (root : RootToken) → IsLeftFound line places found items → found ≡ Some root → LeftIn line places root items
some_left line places items found root l e = subst (λ (f : Option RootToken). IsLeftFound line places f items) e l

pub no_right : (line : List ℕ) (places : List Place) (root : RootToken) (items : Option (List Item)) (right : Option RightParts) (o : Option Parts) → LeftIn line places root items → o ≡ with_left items right → right ≡ None → o ≡ None
no_right line places root items right o l e n = e ∙ left_is line places root items right l ∙ ap (with_right l.first l.below) n

pub stray_right : (line : List ℕ) (left rights : List Place) (root : RootToken) (items : Option (List Item)) (right : Option RightParts) (weight : Option (List ℕ)) (o : Option Parts) → LeftIn line left root items → o ≡ with_left items right → right ≡ Some (right_of [] (items_back line rights) weight) → list_any is_stray (items_back line rights) ≡ true → o ≡ None
stray_right line left rights root items right weight o l e n s = e ∙ left_is line left root items right l ∙ ap (with_right l.first l.below) n ∙ rw s refl

pub both_found : (line : List ℕ) (left rights : List Place) (root : RootToken) (items : Option (List Item)) (right : Option RightParts) (weight : Option Token) (o : Option Parts) → LeftIn line left root items → o ≡ with_left items right → right ≡ Some (right_of [] (items_back line rights) (text_at line weight)) → list_any is_stray (items_back line rights) ≡ false → o ≡ Some (parts_with (items_back line left) (items_back line rights) (text_at line weight))
both_found line left rights root items right weight o l e n s =
    e ∙ left_is line left root items right l ∙ ap (with_right l.first l.below) n ∙ rw s refl
    ∙ ap (λ (is : List Item). Some (parts_with is (items_back line rights) (text_at line weight))) (sym l.items)

pub found_in : (line : List ℕ) (left rights : List Place) (root : RootToken) (items : Option (List Item)) (weight : Option Token) → LeftIn line left root items → WeightLies (length line) weight → All (PlaceLies (length line)) rights → FoundIn line left rights (record { root = root; weight = weight })
found_in line left rights root items weight l w r = record {
  root = l.first;
  below = l.below;
  items = l.items;
  root_is = l.tokens;
  weight = w;
  left_lie = l.lie;
  right_lie = r;
}
