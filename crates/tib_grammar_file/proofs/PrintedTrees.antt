-- The tokens of what is printed of right-hand sides.
use Rattle.std.proofs.Common.{◌≡◌, ℕ, ◌<◌, Bool, true, false, List, [], ◌∷◌, ◌++◌, length, get_or, refl, ap, sym, ◌∙◌, subst, append_assoc, arith, zero, suc}
use Rattle.std.specs.Prelude.{not, cond, ◌&&◌}
use Rattle.tib_lex.specs.Grammar.{Word, open_, close, name, label, is_name, spelling, IsName, begins_name, HasWords}
use Rattle.tib_lex.specs.Lists.{Each}
use Rattle.tib_lex.proofs.Names.{name_is}
use Rattle.tib_lex.proofs.Spelled.{and_true}
use Rattle.tib_tree.specs.Trees.{Trees, none, tree}
use Rattle.tib_tree.specs.Written.{Written, end, leaf, head, word_for, spell}
use Rattle.tib_grammar.specs.Sides.{Symbol, label as symbol_label, hole, holes, HolesAreLeaves}
use Rattle.tib_grammar.specs.Range.{AllBelow}
use Rattle.tib_grammar.specs.StateName.{IsStateName}
use Rattle.tib_grammar_file.specs.Printed.{is_held, symbol_text, space, trees_text, LabelsBelow}
use Rattle.tib_grammar.proofs.Below.{below_back, below_front}
use Rattle.tib_lex.proofs.HasWords.{after_space, has_first_word}

-- the symbols of trees are in the tables, and nothing is below a state
abbrev pub FitsSymbol : ℕ → ℕ → Symbol ℕ ℕ → Trees (Symbol ℕ ℕ) → Type 0
FitsSymbol n m (symbol_label f) kids = f < m
FitsSymbol n m (hole q) none = q < n
FitsSymbol n m (hole q) (tree g inner next) = ⊥

abbrev pub Fits : ℕ → ℕ → Trees (Symbol ℕ ℕ) → Type 0
Fits n m none = Unit {0}
Fits n m (tree s kids rest) = FitsSymbol n m s kids × Fits n m kids × Fits n m rest

pub fits_of : (n m : ℕ) (ts : Trees (Symbol ℕ ℕ)) → HolesAreLeaves ts → LabelsBelow m ts → AllBelow n (holes ts) → Fits n m ts
fits_of n m none h l b = tt
fits_of n m (tree (symbol_label f) kids rest) h l b = (
  l.0,
  fits_of n m kids h.0 l.1 (below_front n (holes kids) (holes rest) b),
  fits_of n m rest h.1 l.2 (below_back n (holes kids) (holes rest) b),
)
fits_of n m (tree (hole q) none rest) h l b = (b.0, tt, fits_of n m rest h l b.1)
fits_of n m (tree (hole q) (tree g inner next) rest) h l b = absurd h

-- the text of a symbol, and whether it is in quotes
abbrev pub text_of : List (List ℕ) → List (List ℕ) → Symbol ℕ ℕ → List ℕ
text_of names labels (symbol_label f) = get_or labels f []
text_of names labels (hole q) = get_or names q []

abbrev pub quotes : List (List ℕ) → List (List ℕ) → Symbol ℕ ℕ → Bool
quotes names labels (symbol_label f) = not (is_name (get_or labels f []) && not (is_held names (get_or labels f [])))
quotes names labels (hole q) = false

-- trees as they are printed
abbrev pub node : Bool → List ℕ → Trees (Symbol ℕ ℕ) → Written → Written → Written
node quoted text none inner more = leaf quoted text more
node quoted text (tree s kids rest) inner more = head quoted text inner more

abbrev pub written : List (List ℕ) → List (List ℕ) → Trees (Symbol ℕ ℕ) → Written
written names labels none = end
written names labels (tree s kids rest) = node (quotes names labels s) (text_of names labels s) kids (written names labels kids) (written names labels rest)

after_spaces : (k : ℕ) (words : List Word) (bytes : List ℕ) → HasWords words bytes → HasWords words (space k ++ bytes)
after_spaces zero words bytes h = h
after_spaces (suc k) words bytes h = after_space words bytes h

pub name_at_is : (names : List (List ℕ)) (q : ℕ) → Each IsStateName names → q < length names → IsStateName (get_or names q [])
name_at_is [] q e h = absurd (omega arith)
name_at_is (x ∷ xs) zero e h = e.0
name_at_is (x ∷ xs) (suc q) e h = name_at_is xs q e.1 (omega arith)

-- a label or a state with words after it
label_read : (c : Bool) (text : List ℕ) (words : List Word) (bytes : List ℕ) → (c ≡ true → IsName text) → begins_name bytes ≡ false → HasWords words bytes → HasWords (word_for (not c) text ∷ words) (cond c text (spelling (label text)) ++ bytes)
label_read true text words bytes is b h = has_first_word (name text) words bytes (is refl) b h
label_read false text words bytes is b h = has_first_word (label text) words bytes tt tt h

symbol_read : (names labels : List (List ℕ)) (s : Symbol ℕ ℕ) (kids : Trees (Symbol ℕ ℕ)) (words : List Word) (bytes : List ℕ) → Each IsStateName names → FitsSymbol (length names) (length labels) s kids → begins_name bytes ≡ false → HasWords words bytes → HasWords (word_for (quotes names labels s) (text_of names labels s) ∷ words) (symbol_text names labels s ++ bytes)
symbol_read names labels (hole q) (tree g inner next) words bytes e f b h = absurd f
symbol_read names labels (hole q) none words bytes e f b h = has_first_word (name (get_or names q [])) words bytes (name_at_is names q e f).is_name b h
symbol_read names labels (symbol_label l) kids words bytes e f b h =
    let text : List ℕ = get_or labels l [] in
    label_read (is_name text && not (is_held names text)) text words bytes (λ c. name_is text (and_true (is_name text) (not (is_held names text)) c).0) b h

-- trees with these words after them
abbrev Reads : List (List ℕ) → List (List ℕ) → Trees (Symbol ℕ ℕ) → Type 0
Reads names labels ts = (k : ℕ) (more : List Word) (rest : List ℕ) → begins_name rest ≡ false → HasWords more rest → HasWords (spell (written names labels ts) ++ more) (trees_text names labels ts k ++ rest)

no_name_beside : (names labels : List (List ℕ)) (others : Trees (Symbol ℕ ℕ)) (k : ℕ) (rest : List ℕ) → begins_name rest ≡ false → begins_name (trees_text names labels others (suc k) ++ rest) ≡ false
no_name_beside names labels none k rest b = b
no_name_beside names labels (tree s kids others) k rest b = refl

one_read : (names labels : List (List ℕ)) (s : Symbol ℕ ℕ) (kids others : Trees (Symbol ℕ ℕ)) → Each IsStateName names → FitsSymbol (length names) (length labels) s kids → Reads names labels kids → Reads names labels others → Reads names labels (tree s kids others)
one_read names labels s none others e f p q = λ k more rest b h.
    let first : List ℕ = symbol_text names labels s in
    let behind : List ℕ = trees_text names labels others (suc k) in
    let words : List Word = word_for (quotes names labels s) (text_of names labels s) ∷ (spell (written names labels others) ++ more) in
    let read : HasWords words (first ++ (behind ++ rest)) = symbol_read names labels s none (spell (written names labels others) ++ more) (behind ++ rest) e f (no_name_beside names labels others k rest b) (q (suc k) more rest b h) in
    let bytes : space k ++ (first ++ (behind ++ rest)) ≡ (space k ++ (first ++ behind)) ++ rest =
    ap (λ (l : List ℕ). space k ++ l) (sym (append_assoc first behind rest)) ∙ sym (append_assoc (space k) (first ++ behind) rest) in
    subst (λ (l : List ℕ). HasWords words l) bytes (after_spaces k words (first ++ (behind ++ rest)) read)
one_read names labels s (tree g inner next) others e f p q = λ k more rest b h.
    let kids : Trees (Symbol ℕ ℕ) = tree g inner next in
    let first : List ℕ = symbol_text names labels s in
    let below : List ℕ = trees_text names labels kids 0 in
    let behind : List ℕ = trees_text names labels others (suc k) in
    let rest_words : List Word = spell (written names labels others) ++ more in
    let kid_words : List Word = spell (written names labels kids) in
    let closed : HasWords (close ∷ rest_words) (41 ∷ (behind ++ rest)) = has_first_word close rest_words (behind ++ rest) tt tt (q (suc k) more rest b h) in
    let inside : HasWords (kid_words ++ (close ∷ rest_words)) (below ++ (41 ∷ (behind ++ rest))) = p 0 (close ∷ rest_words) (41 ∷ (behind ++ rest)) refl closed in
    let opened : HasWords (open_ ∷ (kid_words ++ (close ∷ rest_words))) (40 ∷ (below ++ (41 ∷ (behind ++ rest)))) = has_first_word open_ (kid_words ++ (close ∷ rest_words)) (below ++ (41 ∷ (behind ++ rest))) tt tt inside in
    let word : Word = word_for (quotes names labels s) (text_of names labels s) in
    let whole : HasWords (word ∷ (open_ ∷ (kid_words ++ (close ∷ rest_words)))) (first ++ (40 ∷ (below ++ (41 ∷ (behind ++ rest))))) = symbol_read names labels s kids (open_ ∷ (kid_words ++ (close ∷ rest_words))) (40 ∷ (below ++ (41 ∷ (behind ++ rest)))) e f refl opened in
    let words : (kid_words ++ (close ∷ spell (written names labels others))) ++ more ≡ kid_words ++ (close ∷ rest_words) = append_assoc kid_words (close ∷ spell (written names labels others)) more in
    let after : List ℕ = 40 ∷ (below ++ (41 ∷ behind)) in
    let bytes : space k ++ (first ++ (40 ∷ (below ++ (41 ∷ (behind ++ rest))))) ≡ (space k ++ (first ++ after)) ++ rest =
    ap (λ (l : List ℕ). space k ++ (first ++ (40 ∷ l))) (sym (append_assoc below (41 ∷ behind) rest))
    ∙ ap (λ (l : List ℕ). space k ++ l) (sym (append_assoc first after rest))
    ∙ sym (append_assoc (space k) (first ++ after) rest) in
    subst (λ (l : List ℕ). HasWords (word ∷ (open_ ∷ ((kid_words ++ (close ∷ spell (written names labels others))) ++ more))) l) bytes
    (subst (λ (ws : List Word). HasWords (word ∷ (open_ ∷ ws)) (space k ++ (first ++ (40 ∷ (below ++ (41 ∷ (behind ++ rest))))))) (sym words)
    (after_spaces k (word ∷ (open_ ∷ (kid_words ++ (close ∷ rest_words)))) (first ++ (40 ∷ (below ++ (41 ∷ (behind ++ rest))))) whole))

pub trees_read : (names labels : List (List ℕ)) (ts : Trees (Symbol ℕ ℕ)) → Each IsStateName names → Fits (length names) (length labels) ts → Reads names labels ts
trees_read names labels none e f = λ k more rest b h. h
trees_read names labels (tree s kids others) e f = one_read names labels s kids others e f.0 (trees_read names labels kids e f.1) (trees_read names labels others e f.2)
