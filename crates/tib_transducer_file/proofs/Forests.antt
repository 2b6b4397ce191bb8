-- The tokens of printed sides, each with whether it follows directly on the one before it.
use Rattle.std.proofs.Common.{◌≡◌, ℕ, inl, inr, Bool, true, false, List, [], ◌∷◌, ◌++◌, get_or, refl, ap, sym, ◌∙◌, subst, append_assoc, arith, zero, suc}
use Rattle.std.specs.Prelude.{not, ◌&&◌, ◌==◌, ◌||◌}
use Rattle.std.specs.List.{list_all}
use Rattle.std.proofs.lemmas.Bool.Decides.{eqb_tells}
use Rattle.tib_lex.specs.Bytes.{is_blank, is_name_byte}
use Rattle.tib_lex.specs.Grammar.{Word, open_, close, name, spelling, IsName, IsWord, MayPrecede, begins_name, begins_blank, Begins}
use Rattle.tib_lex.specs.Laws.{kind_of}
use Rattle.tib_lex.specs.declared.token.Kind.TheVariants as kinds
use Rattle.tib_lex.proofs.HasWords.{word_again, black_word}
use Rattle.tib_lex.proofs.Spelled.{and_true}
use Rattle.tib_tree.specs.Trees.{Trees, none, tree}
use Rattle.tib_tree.specs.Written.{Written, end, leaf, head, word_for, spell}
use Rattle.tib_grammar.specs.Sides.{Symbol, label as symbol_label, hole}
use Rattle.tib_grammar_file.specs.Printed.{space}
use Rattle.tib_transducer_file.specs.Pieces.{Piece, piece, meaning, meanings, HasPieces}
use Rattle.tib_transducer_file.specs.Forms.{is_kind, opens, takes, joins}
use Rattle.tib_transducer_file.specs.Printed.{is_plain, label_text, symbol_text, trees_text}
use Rattle.tib_transducer_file.proofs.Tokens.{plain_is, quotes, label_word, word_spelled}

-- no token begins with white space

black_byte : (b : ℕ) (c : Bool) → is_blank b ≡ c → is_name_byte b ≡ true → c ≡ false
black_byte b false e h = refl
black_byte b true e h = by (b == 32) (b == 9) (b == 13) refl refl refl e
  where
    at : (k : ℕ) → (b == k) ≡ true → is_name_byte k ≡ false → true ≡ false
    at k f no_byte = elim (eqb_tells b k) [
      | inl t ↦ sym h ∙ ap is_name_byte t.1 ∙ no_byte
      | inr t ↦ absurd (let bad : true ≡ false = sym f ∙ t.0 in cc)
    ]

    by : (x y z : Bool) → (b == 32) ≡ x → (b == 9) ≡ y → (b == 13) ≡ z → (x || y || z) ≡ true → true ≡ false
    by true y z f g k t = at 32 f refl
    by false true z f g k t = at 9 g refl
    by false false true f g k t = at 13 k refl
    by false false false f g k t = sym t

black_name : (text rest : List ℕ) → IsName text → begins_blank (text ++ rest) ≡ false
black_name [] rest w = absurd (omega (arith, w.some))
black_name (b ∷ text) rest w = black_byte b (is_blank b) refl (and_true (is_name_byte b) (list_all is_name_byte text) w.bytes).0

-- the token of a word that follows directly
abbrev pub token : Word → Piece
token word = piece true (kind_of word) (spelling word)

pub means : (word : Word) → meaning (token word) ≡ word
means word = word_again word

pub first_had : (word : Word) (pieces : List Piece) (rest : List ℕ) → IsWord word → MayPrecede word rest → HasPieces pieces rest → HasPieces (token word ∷ pieces) (spelling word ++ rest)
first_had word pieces rest w p h =
    let b : Begins (spelling word ++ rest) word rest = record { is_word = w; spelled = refl; whole = p } in
    let own : Begins (spelling word ++ rest) (meaning (token word)) rest = subst (λ (v : Word). Begins (spelling word ++ rest) v rest) (sym (means word)) b in (
      ap not (sym (black_word word rest w)),
      ap spelling (sym (means word)),
      record { blanks = []; rest = spelling word ++ rest; parts = refl; white = refl; are = (rest, own, h) },
    )

-- a token after k trees
abbrev pub behind : ℕ → Piece → Piece
behind zero p = p
behind (suc k) p = piece false p.kind p.bytes

pub behind_had : (k : ℕ) (p : Piece) (pieces : List Piece) (bytes : List ℕ) → HasPieces (p ∷ pieces) bytes → HasPieces (behind k p ∷ pieces) (space k ++ bytes)
behind_had zero p pieces bytes h = h
behind_had (suc k) p pieces bytes h = (
  refl,
  h.1,
  record { blanks = 32 ∷ h.2.blanks; rest = h.2.rest; parts = ap (λ (l : List ℕ). 32 ∷ l) h.2.parts; white = h.2.white; are = h.2.are },
)

-- symbols and nothing below leaves
abbrev pub FitsSymbol : {P : Type 0} → (ℕ → Type 0) → (P → Type 0) → Symbol ℕ P → Trees (Symbol ℕ P) → Type 0
FitsSymbol IsLabel IsLeaf (symbol_label f) kids = IsLabel f
FitsSymbol IsLabel IsLeaf (hole p) none = IsLeaf p
FitsSymbol IsLabel IsLeaf (hole p) (tree s kids rest) = ⊥

abbrev pub Fits : {P : Type 0} → (ℕ → Type 0) → (P → Type 0) → Trees (Symbol ℕ P) → Type 0
Fits IsLabel IsLeaf none = Unit {0}
Fits IsLabel IsLeaf (tree s kids rest) = FitsSymbol IsLabel IsLeaf s kids × Fits IsLabel IsLeaf kids × Fits IsLabel IsLeaf rest

-- the text of a symbol's word, and whether it is in quotes
abbrev pub text_of : {P : Type 0} → (P → List ℕ) → List (List ℕ) → Symbol ℕ P → List ℕ
text_of show labels (symbol_label f) = get_or labels f []
text_of show labels (hole p) = show p

abbrev pub in_quotes : {P : Type 0} → List (List ℕ) → Symbol ℕ P → Bool
in_quotes labels (symbol_label f) = quotes (get_or labels f [])
in_quotes labels (hole p) = false

-- trees as they are written
abbrev pub node : {P : Type 0} → Bool → List ℕ → Trees (Symbol ℕ P) → Written → Written → Written
node quoted text none inner more = leaf quoted text more
node quoted text (tree s kids rest) inner more = head quoted text inner more

abbrev pub written : {P : Type 0} → (P → List ℕ) → List (List ℕ) → Trees (Symbol ℕ P) → Written
written show labels none = end
written show labels (tree s kids rest) = node (in_quotes labels s) (text_of show labels s) kids (written show labels kids) (written show labels rest)

-- the first token of a symbol, and those that follow it
abbrev pub first_of : {P : Type 0} → (P → Piece) → List (List ℕ) → Symbol ℕ P → Piece
first_of first labels (symbol_label f) = token (label_word (get_or labels f []))
first_of first labels (hole p) = first p

abbrev pub after_of : {P : Type 0} → (P → List Piece) → Symbol ℕ P → List Piece
after_of after (symbol_label f) = []
after_of after (hole p) = after p

-- the tokens of children, with parentheses round them
abbrev pub group : {P : Type 0} → Trees (Symbol ℕ P) → List Piece → List Piece
group none inner = []
group (tree s kids rest) inner = token open_ ∷ (inner ++ token close ∷ [])

-- the tokens of trees after k others
abbrev pub forest : {P : Type 0} → (P → Piece) → (P → List Piece) → List (List ℕ) → Trees (Symbol ℕ P) → ℕ → List Piece
forest first after labels none k = []
forest first after labels (tree s kids rest) k =
    behind k (first_of first labels s) ∷ (after_of after s ++ (group kids (forest first after labels kids 0) ++ forest first after labels rest (suc k)))

-- names that come before such bytes end there
label_precedes : (text rest : List ℕ) (b : Bool) → is_plain text ≡ b → begins_name rest ≡ false → IsWord (word_for (not b) text) × MayPrecede (word_for (not b) text) rest
label_precedes text rest true e h = ((plain_is text e).named, h)
label_precedes text rest false e h = (tt, tt)

pub label_had : (text : List ℕ) (pieces : List Piece) (rest : List ℕ) → begins_name rest ≡ false → HasPieces pieces rest → HasPieces (token (label_word text) ∷ pieces) (label_text text ++ rest)
label_had text pieces rest b h =
    let w = label_precedes text rest (is_plain text) refl b in
    subst (λ (l : List ℕ). HasPieces (token (label_word text) ∷ pieces) (l ++ rest)) (word_spelled text) (first_had (label_word text) pieces rest w.0 w.1 h)

module _ {P : Type 0} (IsLabel : ℕ → Type 0) (IsLeaf : P → Type 0) (show : P → List ℕ) (first : P → Piece) (after : P → List Piece) (labels : List (List ℕ)) where
  -- what is printed of a leaf has its tokens
  abbrev pub LeafHad : Type 0
  LeafHad = (p : P) (pieces : List Piece) (rest : List ℕ) → IsLeaf p → begins_name rest ≡ false → HasPieces pieces rest → HasPieces (first p ∷ (after p ++ pieces)) (show p ++ rest)

  symbol_had : (s : Symbol ℕ P) (kids : Trees (Symbol ℕ P)) (pieces : List Piece) (rest : List ℕ) → LeafHad → FitsSymbol IsLabel IsLeaf s kids → begins_name rest ≡ false → HasPieces pieces rest → HasPieces (first_of first labels s ∷ (after_of after s ++ pieces)) (symbol_text show labels s ++ rest)
  symbol_had (symbol_label f) kids pieces rest l fit b h = label_had (get_or labels f []) pieces rest b h
  symbol_had (hole p) none pieces rest l fit b h = l p pieces rest fit b h
  symbol_had (hole p) (tree s kids others) pieces rest l fit b h = absurd fit

  -- the trees have their tokens, whatever follows them
  abbrev Had : Trees (Symbol ℕ P) → Type 0
  Had ts = (k : ℕ) (more : List Piece) (rest : List ℕ) → begins_name rest ≡ false → HasPieces more rest → HasPieces (forest first after labels ts k ++ more) (trees_text (symbol_text show labels) ts k ++ rest)

  no_name_beside : (others : Trees (Symbol ℕ P)) (k : ℕ) (rest : List ℕ) → begins_name rest ≡ false → begins_name (trees_text (symbol_text show labels) others (suc k) ++ rest) ≡ false
  no_name_beside none k rest b = b
  no_name_beside (tree s kids others) k rest b = refl

  one_had : (s : Symbol ℕ P) (kids others : Trees (Symbol ℕ P)) → LeafHad → FitsSymbol IsLabel IsLeaf s kids → Had kids → Had others → Had (tree s kids others)
  one_had s none others l fit p q = λ k more rest b h.
      let symbol : List ℕ = symbol_text show labels s in
      let bytes : List ℕ = trees_text (symbol_text show labels) others (suc k) in
      let tokens : List Piece = forest first after labels others (suc k) in
      let had : HasPieces (behind k (first_of first labels s) ∷ (after_of after s ++ (tokens ++ more))) (space k ++ (symbol ++ (bytes ++ rest))) =
      behind_had k (first_of first labels s) (after_of after s ++ (tokens ++ more)) (symbol ++ (bytes ++ rest))
      (symbol_had s none (tokens ++ more) (bytes ++ rest) l fit (no_name_beside others k rest b) (q (suc k) more rest b h)) in
      let same : space k ++ (symbol ++ (bytes ++ rest)) ≡ (space k ++ (symbol ++ bytes)) ++ rest =
      ap (λ (x : List ℕ). space k ++ x) (sym (append_assoc symbol bytes rest)) ∙ sym (append_assoc (space k) (symbol ++ bytes) rest) in
      subst (λ (x : List ℕ). HasPieces (behind k (first_of first labels s) ∷ ((after_of after s ++ tokens) ++ more)) x) same
      (subst (λ (x : List Piece). HasPieces (behind k (first_of first labels s) ∷ x) (space k ++ (symbol ++ (bytes ++ rest)))) (sym (append_assoc (after_of after s) tokens more)) had)
  one_had s (tree g inner next) others l fit p q = λ k more rest b h.
      let kids : Trees (Symbol ℕ P) = tree g inner next in
      let symbol : List ℕ = symbol_text show labels s in
      let below : List ℕ = trees_text (symbol_text show labels) kids 0 in
      let bytes : List ℕ = trees_text (symbol_text show labels) others (suc k) in
      let below_tokens : List Piece = forest first after labels kids 0 in
      let tokens : List Piece = forest first after labels others (suc k) in
      let closed : HasPieces (token close ∷ (tokens ++ more)) (41 ∷ (bytes ++ rest)) = first_had close (tokens ++ more) (bytes ++ rest) tt tt (q (suc k) more rest b h) in
      let inside : HasPieces (below_tokens ++ (token close ∷ (tokens ++ more))) (below ++ (41 ∷ (bytes ++ rest))) = p 0 (token close ∷ (tokens ++ more)) (41 ∷ (bytes ++ rest)) refl closed in
      let opened : HasPieces (token open_ ∷ (below_tokens ++ (token close ∷ (tokens ++ more)))) (40 ∷ (below ++ (41 ∷ (bytes ++ rest)))) = first_had open_ (below_tokens ++ (token close ∷ (tokens ++ more))) (below ++ (41 ∷ (bytes ++ rest))) tt tt inside in
      let group_tokens : List Piece = token open_ ∷ (below_tokens ++ (token close ∷ (tokens ++ more))) in
      let group_bytes : List ℕ = 40 ∷ (below ++ (41 ∷ (bytes ++ rest))) in
      let had : HasPieces (behind k (first_of first labels s) ∷ (after_of after s ++ group_tokens)) (space k ++ (symbol ++ group_bytes)) =
      behind_had k (first_of first labels s) (after_of after s ++ group_tokens) (symbol ++ group_bytes) (symbol_had s kids group_tokens group_bytes l fit refl opened) in
      let grouped : (group kids below_tokens ++ tokens) ++ more ≡ group_tokens =
      ap (λ (x : List Piece). token open_ ∷ x)
      (ap (λ (x : List Piece). x ++ more) (append_assoc below_tokens (token close ∷ []) tokens) ∙ append_assoc below_tokens (token close ∷ tokens) more) in
      let pieces_same : (after_of after s ++ (group kids below_tokens ++ tokens)) ++ more ≡ after_of after s ++ group_tokens =
      append_assoc (after_of after s) (group kids below_tokens ++ tokens) more ∙ ap (λ (x : List Piece). after_of after s ++ x) grouped in
      let behind_bytes : List ℕ = 40 ∷ (below ++ (41 ∷ bytes)) in
      let same : space k ++ (symbol ++ group_bytes) ≡ (space k ++ (symbol ++ behind_bytes)) ++ rest =
      ap (λ (x : List ℕ). space k ++ (symbol ++ (40 ∷ x))) (sym (append_assoc below (41 ∷ bytes) rest))
      ∙ ap (λ (x : List ℕ). space k ++ x) (sym (append_assoc symbol behind_bytes rest))
      ∙ sym (append_assoc (space k) (symbol ++ behind_bytes) rest) in
      subst (λ (x : List ℕ). HasPieces (behind k (first_of first labels s) ∷ ((after_of after s ++ (group kids below_tokens ++ tokens)) ++ more)) x) same
      (subst (λ (x : List Piece). HasPieces (behind k (first_of first labels s) ∷ x) (space k ++ (symbol ++ group_bytes))) (sym pieces_same) had)

  pub forest_had : (ts : Trees (Symbol ℕ P)) → LeafHad → Fits IsLabel IsLeaf ts → Had ts
  forest_had none l f = λ k more rest b h. h
  forest_had (tree s kids others) l f = one_had s kids others l f.0 (forest_had kids l f.1) (forest_had others l f.2)

-- no quoted token follows directly
abbrev pub leads_quote : List Piece → Bool
leads_quote [] = false
leads_quote (p ∷ pieces) = is_kind kinds.Quoted p.kind && p.joined

-- what may follow a leaf
abbrev pub IsPast : List Piece → Type 0
IsPast pieces = (leads_quote pieces ≡ false) × (opens pieces ≡ false)

and_false : (a b c d : Bool) → (b && c) ≡ false → (a && b && c && d) ≡ false
and_false true true true d e = let bad : true ≡ false = e in absurd (cc)
and_false true true false d e = refl
and_false true false c d e = refl
and_false false b c d e = refl

-- a token that takes nothing
pub lone_joins : (root : Bool) (p : Piece) (more : List Piece) → leads_quote more ≡ false → joins root (p ∷ more) ≡ meaning p ∷ joins false more
lone_joins root p [] e = refl
lone_joins root p (q ∷ more) e = let f = and_false (is_kind kinds.Name p.kind) (is_kind kinds.Quoted q.kind) q.joined (takes root p.bytes more) e in rw f refl

behind_joins : (root : Bool) (k : ℕ) (p : Piece) (more : List Piece) → joins root (behind k p ∷ more) ≡ joins root (p ∷ more)
behind_joins root zero p more = refl
behind_joins root (suc k) p [] = refl
behind_joins root (suc k) p (q ∷ more) = refl

-- the tokens that a label's word has are no parenthesis
label_opens : (text : List ℕ) (b : Bool) → is_kind kinds.Open (kind_of (word_for b text)) ≡ false
label_opens text true = refl
label_opens text false = refl

-- a token that is no name takes nothing
pub other_joins : (root : Bool) (p : Piece) (more : List Piece) → is_kind kinds.Name p.kind ≡ false → joins root (p ∷ more) ≡ meaning p ∷ joins false more
other_joins root p [] e = refl
other_joins root p (q ∷ more) e = rw e refl

no_quote : (b : Bool) → (b && false) ≡ false
no_quote true = refl
no_quote false = refl

module _ {P : Type 0} (IsLabel : ℕ → Type 0) (IsLeaf : P → Type 0) (show : P → List ℕ) (first : P → Piece) (after : P → List Piece) (labels : List (List ℕ)) where
  -- the tokens of a leaf are one word of a left side
  abbrev pub LeafJoins : Type 0
  LeafJoins =
      ((p : P) (more : List Piece) → IsLeaf p → IsPast more → joins false (first p ∷ (after p ++ more)) ≡ name (show p) ∷ joins false more)
      × ((p : P) → is_kind kinds.Open (first p).kind ≡ false)

  abbrev tokens_of : Trees (Symbol ℕ P) → ℕ → List Piece
  tokens_of ts k = forest first after labels ts k

  abbrev words_of : Trees (Symbol ℕ P) → List Word
  words_of ts = spell (written show labels ts)

  -- trees beside others are past those
  past : (ts : Trees (Symbol ℕ P)) (k : ℕ) (more : List Piece) → LeafJoins → IsPast more → IsPast (tokens_of ts (suc k) ++ more)
  past none k more l h = h
  past (tree (symbol_label f) kids rest) k more l h = (no_quote (is_kind kinds.Quoted (kind_of (label_word (get_or labels f [])))), label_opens (get_or labels f []) (quotes (get_or labels f [])))
  past (tree (hole p) kids rest) k more l h = (no_quote (is_kind kinds.Quoted (first p).kind), l.1 p)

  -- what the trees after the first one give
  abbrev Joins : Trees (Symbol ℕ P) → Type 0
  Joins ts = (k : ℕ) (more : List Piece) → IsPast more → joins false (tokens_of ts k ++ more) ≡ words_of ts ++ joins false more

  label_joins : (f : ℕ) (others : Trees (Symbol ℕ P)) → LeafJoins → Joins others → Joins (tree (symbol_label f) none others)
  label_joins f others l q = λ k more h.
      let word : Word = label_word (get_or labels f []) in
      let rest : List Piece = tokens_of others (suc k) ++ more in
      behind_joins false k (token word) rest
      ∙ lone_joins false (token word) rest (past others k more l h).0
      ∙ ap (λ (w : Word). w ∷ joins false rest) (means word)
      ∙ ap (λ (ws : List Word). word ∷ ws) (q (suc k) more h)

  hole_joins : (p : P) (others : Trees (Symbol ℕ P)) → LeafJoins → IsLeaf p → Joins others → Joins (tree (hole p) none others)
  hole_joins p others l fit q = λ k more h.
      let rest : List Piece = tokens_of others (suc k) ++ more in
      ap (λ (x : List Piece). joins false (behind k (first p) ∷ x)) (append_assoc (after p) (tokens_of others (suc k)) more)
      ∙ behind_joins false k (first p) (after p ++ rest)
      ∙ l.0 p rest fit (past others k more l h)
      ∙ ap (λ (ws : List Word). name (show p) ∷ ws) (q (suc k) more h)

  group_joins : (f : ℕ) (g : Symbol ℕ P) (inner next others : Trees (Symbol ℕ P)) → Joins (tree g inner next) → Joins others → Joins (tree (symbol_label f) (tree g inner next) others)
  group_joins f g inner next others p q = λ k more h.
      let kids : Trees (Symbol ℕ P) = tree g inner next in
      let word : Word = label_word (get_or labels f []) in
      let rest : List Piece = tokens_of others (suc k) ++ more in
      let below : List Piece = tokens_of kids 0 in
      let closed : List Piece = token close ∷ rest in
      let same : ((below ++ token close ∷ []) ++ tokens_of others (suc k)) ++ more ≡ below ++ closed =
      ap (λ (x : List Piece). x ++ more) (append_assoc below (token close ∷ []) (tokens_of others (suc k))) ∙ append_assoc below (token close ∷ tokens_of others (suc k)) more in
      let last : joins false closed ≡ close ∷ (words_of others ++ joins false more) =
      other_joins false (token close) rest refl ∙ ap (λ (ws : List Word). close ∷ ws) (q (suc k) more h) in
      ap (λ (x : List Piece). joins false (behind k (token word) ∷ (token open_ ∷ x))) same
      ∙ behind_joins false k (token word) (token open_ ∷ (below ++ closed))
      ∙ lone_joins false (token word) (token open_ ∷ (below ++ closed)) refl
      ∙ ap (λ (w : Word). w ∷ joins false (token open_ ∷ (below ++ closed))) (means word)
      ∙ ap (λ (ws : List Word). word ∷ ws) (other_joins false (token open_) (below ++ closed) refl)
      ∙ ap (λ (ws : List Word). word ∷ (open_ ∷ ws)) (p 0 closed (refl, refl) ∙ ap (λ (ws : List Word). words_of kids ++ ws) last ∙ sym (append_assoc (words_of kids) (close ∷ words_of others) (joins false more)))

  pub forest_joins : (ts : Trees (Symbol ℕ P)) → LeafJoins → Fits IsLabel IsLeaf ts → Joins ts
  forest_joins none l f = λ k more h. refl
  forest_joins (tree (symbol_label f) none others) l t = label_joins f others l (forest_joins others l t.2)
  forest_joins (tree (symbol_label f) (tree g inner next) others) l t = group_joins f g inner next others (forest_joins (tree g inner next) l t.1) (forest_joins others l t.2)
  forest_joins (tree (hole p) none others) l t = hole_joins p others l t.0 (forest_joins others l t.2)
  forest_joins (tree (hole p) (tree g inner next) others) l t = absurd t.0

-- the words of a right side, whose leaves have one token each
module _ {P : Type 0} (IsLabel : ℕ → Type 0) (IsLeaf : P → Type 0) (show : P → List ℕ) (labels : List (List ℕ)) where
  abbrev pub leaf_token : P → Piece
  leaf_token p = token (name (show p))

  abbrev pub no_more : P → List Piece
  no_more p = []

  abbrev right_tokens : Trees (Symbol ℕ P) → ℕ → List Piece
  right_tokens ts k = forest leaf_token no_more labels ts k

  abbrev right_words : Trees (Symbol ℕ P) → List Word
  right_words ts = spell (written show labels ts)

  behind_means : (k : ℕ) (word : Word) → meaning (behind k (token word)) ≡ word
  behind_means zero word = means word
  behind_means (suc k) word = means word

  abbrev Means : Trees (Symbol ℕ P) → Type 0
  Means ts = (k : ℕ) (more : List Piece) → meanings (right_tokens ts k ++ more) ≡ right_words ts ++ meanings more

  leaf_means : (word : Word) (others : Trees (Symbol ℕ P)) → Means others → (k : ℕ) (more : List Piece) → meanings (behind k (token word) ∷ (right_tokens others (suc k) ++ more)) ≡ word ∷ (right_words others ++ meanings more)
  leaf_means word others q k more =
      ap (λ (w : Word). w ∷ meanings (right_tokens others (suc k) ++ more)) (behind_means k word) ∙ ap (λ (ws : List Word). word ∷ ws) (q (suc k) more)

  group_means : (f : ℕ) (g : Symbol ℕ P) (inner next others : Trees (Symbol ℕ P)) → Means (tree g inner next) → Means others → Means (tree (symbol_label f) (tree g inner next) others)
  group_means f g inner next others p q = λ k more.
      let kids : Trees (Symbol ℕ P) = tree g inner next in
      let word : Word = label_word (get_or labels f []) in
      let below : List Piece = right_tokens kids 0 in
      let rest : List Piece = right_tokens others (suc k) ++ more in
      let same : ((below ++ token close ∷ []) ++ right_tokens others (suc k)) ++ more ≡ below ++ (token close ∷ rest) =
      ap (λ (x : List Piece). x ++ more) (append_assoc below (token close ∷ []) (right_tokens others (suc k))) ∙ append_assoc below (token close ∷ right_tokens others (suc k)) more in
      ap (λ (x : List Piece). meanings (behind k (token word) ∷ (token open_ ∷ x))) same
      ∙ ap (λ (w : Word). w ∷ (open_ ∷ meanings (below ++ (token close ∷ rest)))) (behind_means k word)
      ∙ ap (λ (ws : List Word). word ∷ (open_ ∷ ws)) (p 0 (token close ∷ rest) ∙ ap (λ (ws : List Word). right_words kids ++ (close ∷ ws)) (q (suc k) more) ∙ sym (append_assoc (right_words kids) (close ∷ right_words others) (meanings more)))

  pub forest_means : (ts : Trees (Symbol ℕ P)) → Fits IsLabel IsLeaf ts → Means ts
  forest_means none t = λ k more. refl
  forest_means (tree (symbol_label f) none others) t = λ k more. leaf_means (label_word (get_or labels f [])) others (forest_means others t.2) k more
  forest_means (tree (symbol_label f) (tree g inner next) others) t = group_means f g inner next others (forest_means (tree g inner next) t.1) (forest_means others t.2)
  forest_means (tree (hole p) none others) t = λ k more. leaf_means (name (show p)) others (forest_means others t.2) k more
  forest_means (tree (hole p) (tree g inner next) others) t = absurd t.0
