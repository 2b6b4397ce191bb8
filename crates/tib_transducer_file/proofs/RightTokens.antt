-- The tokens of what is printed of right sides and weights.
use Rattle.tib_cost.specs.declared.Scale.{Scale}
use Rattle.std.proofs.Common.{◌≡◌, ℕ, ◌<◌, false, List, [], ◌∷◌, ◌++◌, length, get_or, refl, ap, sym, ◌∙◌, subst}
use Rattle.std.specs.Prelude.{not}
use Rattle.tib_lex.specs.Grammar.{Word, name, spelling, begins_name, begins_blank, Begins, HasWords}
use Rattle.tib_lex.specs.Laws.{kind_of}
use Rattle.tib_lex.specs.Lists.{Each}
use Rattle.tib_tree.specs.Trees.{Trees, only}
use Rattle.tib_tree.specs.Written.{Written, spell}
use Rattle.tib_grammar.specs.Sides.{Symbol, Side}
use Rattle.tib_grammar.specs.StateName.{IsStateName}
use Rattle.tib_grammar_file.specs.Printable.{IsPlainCost}
use Rattle.tib_grammar_file.specs.Printed.{cost_text}
use Rattle.tib_grammar_file.specs.Rule.{weight_words}
use Rattle.tib_grammar_file.proofs.PrintedTrees.{name_at_is}
use Rattle.tib_grammar_file.proofs.PrintedRules.{weight_of, weight_read, weight_begins}
use Rattle.tib_transducer.specs.declared.Pair.{Pair}
use Rattle.tib_transducer_file.specs.Pieces.{Piece, piece, meaning, meanings, HasPieces}
use Rattle.tib_transducer_file.specs.ByName.{IsPlainLabel}
use Rattle.tib_transducer_file.specs.Printed.{pair_text, symbol_text, trees_text, side_text}
use Rattle.tib_transducer_file.proofs.Numerals.{is_numeral}
use Rattle.tib_transducer_file.proofs.Tokens.{pair_name}
use Rattle.tib_transducer_file.proofs.Forests.{token, means, first_had, Fits, forest, written, forest_had, forest_means}

-- any tokens of words
pub record Had (words : List Word) (bytes : List ℕ) : Type 0 where
  pub pieces : List Piece
  pub has : HasPieces pieces bytes
  pub mean : meanings pieces ≡ words

pub words_had : (words : List Word) (bytes : List ℕ) → HasWords words bytes → Had words bytes
words_had [] bytes h = record { pieces = []; has = h; mean = refl }
words_had (word ∷ words) bytes h =
    let more : Had words h.are.0 = words_had words h.are.0 h.are.2 in
    let p : Piece = piece (not (begins_blank bytes)) (kind_of word) (spelling word) in
    let b : Begins h.rest (meaning p) h.are.0 = subst (λ (v : Word). Begins h.rest v h.are.0) (sym (means word)) h.are.1 in
    record {
      pieces = p ∷ more.pieces;
      has = (
        refl,
        ap spelling (sym (means word)),
        record { blanks = h.blanks; rest = h.rest; parts = h.parts; white = h.white; are = (h.are.0, b, more.has) },
      );
      mean = ap (λ (w : Word). w ∷ meanings more.pieces) (means word) ∙ ap (λ (ws : List Word). word ∷ ws) more.mean;
    }

-- what is there of a right side: n names, and variables below m, which is at most a billion
abbrev pub IsPairPlain : ℕ → ℕ → Pair ℕ → Type 0
IsPairPlain n m x = (x.state < n) × (x.variable < m) × (x.variable < 1000000000)

abbrev pub FitsRight : ℕ → ℕ → List (List ℕ) → Trees (Symbol ℕ (Pair ℕ)) → Type 0
FitsRight n m labels ts = Fits (IsPlainLabel labels) (IsPairPlain n m) ts

abbrev pub right_tokens : List (List ℕ) → List (List ℕ) → Trees (Symbol ℕ (Pair ℕ)) → ℕ → List Piece
right_tokens names labels ts k = forest (λ x. token (name (pair_text names labels x))) (λ x. []) labels ts k

abbrev pub right_written : List (List ℕ) → List (List ℕ) → Trees (Symbol ℕ (Pair ℕ)) → Written
right_written names labels ts = written (pair_text names labels) labels ts

abbrev pub right_bytes : List (List ℕ) → List (List ℕ) → Trees (Symbol ℕ (Pair ℕ)) → ℕ → List ℕ
right_bytes names labels ts k = trees_text (symbol_text (pair_text names labels) labels) ts k

right_had : (names labels : List (List ℕ)) (m : ℕ) (ts : Trees (Symbol ℕ (Pair ℕ))) (k : ℕ) (more : List Piece) (rest : List ℕ) → Each IsStateName names → FitsRight (length names) m labels ts → begins_name rest ≡ false → HasPieces more rest →
    HasPieces (right_tokens names labels ts k ++ more) (right_bytes names labels ts k ++ rest)
right_had names labels m ts k more rest e f b h =
    forest_had (IsPlainLabel labels) (IsPairPlain (length names) m) (pair_text names labels) (λ x. token (name (pair_text names labels x))) (λ x. []) labels ts
    (λ x pieces bytes fit c had. first_had (name (pair_text names labels x)) pieces bytes (pair_name (get_or names x.state []) x.variable (name_at_is names x.state e fit.0).is_name (is_numeral x.variable fit.2)) c had)
    f k more rest b h

right_means : (names labels : List (List ℕ)) (m : ℕ) (ts : Trees (Symbol ℕ (Pair ℕ))) (k : ℕ) (more : List Piece) → FitsRight (length names) m labels ts → meanings (right_tokens names labels ts k ++ more) ≡ spell (right_written names labels ts) ++ meanings more
right_means names labels m ts k more f = forest_means (IsPlainLabel labels) (IsPairPlain (length names) m) (pair_text names labels) labels ts f k more

-- a right side and the weight after it
pub back_had : (scale : Scale) (names labels : List (List ℕ)) (m : ℕ) (s : Side ℕ (Pair ℕ)) (cost : ℕ) → Each IsStateName names → FitsRight (length names) m labels (only s) → IsPlainCost scale cost →
    Had (spell (right_written names labels (only s)) ++ weight_words (weight_of scale cost)) (32 ∷ (side_text (pair_text names labels) labels s ++ cost_text scale cost))
back_had scale names labels m s cost e f c =
    let weight : Had (weight_words (weight_of scale cost)) (cost_text scale cost) = words_had (weight_words (weight_of scale cost)) (cost_text scale cost) (weight_read scale cost c) in
    record {
      pieces = right_tokens names labels (only s) 1 ++ weight.pieces;
      has = right_had names labels m (only s) 1 weight.pieces (cost_text scale cost) e f (weight_begins scale cost) weight.has;
      mean = right_means names labels m (only s) 1 weight.pieces f ∙ ap (λ (ws : List Word). spell (right_written names labels (only s)) ++ ws) weight.mean;
    }
