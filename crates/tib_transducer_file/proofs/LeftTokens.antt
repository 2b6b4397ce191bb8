-- The tokens of what is printed of left sides.
use Rattle.std.proofs.Common.{◌≡◌, ℕ, ◌<◌, Bool, true, false, Option, List, [], ◌∷◌, ◌++◌, get_or, refl, ap, sym, ◌∙◌, subst, append_assoc, append-nil, arith}
use Rattle.std.specs.Prelude.{Some, None, cond, decimal as printed}
use Rattle.std.specs.List.{list_all}
use Rattle.tib_lex.specs.Bytes.{is_name_byte}
use Rattle.tib_lex.specs.Grammar.{Word, open_, close, name, label, spelling, IsName, begins_name}
use Rattle.tib_lex.specs.declared.token.Kind.TheVariants as kinds
use Rattle.tib_tree.specs.Machine.{IsTree}
use Rattle.tib_tree.specs.Trees.{Trees, none, tree, count}
use Rattle.tib_tree.specs.Written.{Written, end, leaf, head, spell, Item, item, items, count as count_written}
use Rattle.tib_grammar.specs.Sides.{Symbol}
use Rattle.tib_grammar.specs.StateName.{IsStateName}
use Rattle.tib_grammar_file.specs.Printed.{opening, closing}
use Rattle.tib_transducer.specs.declared.Variable.{Variable}
use Rattle.tib_transducer_file.specs.Pieces.{Piece, HasPieces}
use Rattle.tib_transducer_file.specs.Forms.{is_kind, joins, takes, left_words}
use Rattle.tib_transducer_file.specs.ByName.{IsPlainLabel, IsPlainAsked}
use Rattle.tib_transducer_file.specs.Printed.{is_plain, label_text, asked_text, variable_text, symbol_text, trees_text}
use Rattle.tib_transducer_file.proofs.Numerals.{IsNumeral, is_numeral}
use Rattle.tib_transducer_file.proofs.Tokens.{plain_is, numbered, stem_ends, stop_ends, stem_name, stopped_name}
use Rattle.tib_transducer_file.proofs.Forests.{token, first_had, Fits, forest, group, written, forest_had, IsPast, leads_quote, lone_joins, other_joins, forest_joins}

-- a name and the label that follows it: one token, or the label in a quoted one
abbrev pub first_by : Bool → List ℕ → List ℕ → Piece
first_by true front text = token (name (front ++ text))
first_by false front text = token (name front)

abbrev pub after_by : Bool → List ℕ → List Piece
after_by true text = []
after_by false text = token (label text) ∷ []

by_had : (b : Bool) (front text : List ℕ) (pieces : List Piece) (rest : List ℕ) → IsName front → (b ≡ true → IsName (front ++ text)) → begins_name rest ≡ false → HasPieces pieces rest →
    HasPieces (first_by b front text ∷ (after_by b text ++ pieces)) (front ++ (cond b text (spelling (label text)) ++ rest))
by_had true front text pieces rest w v b h =
    subst (λ (l : List ℕ). HasPieces (token (name (front ++ text)) ∷ pieces) l) (append_assoc front text rest) (first_had (name (front ++ text)) pieces rest (v refl) b h)
by_had false front text pieces rest w v b h =
    first_had (name front) (token (label text) ∷ pieces) (spelling (label text) ++ rest) w refl (first_had (label text) pieces rest tt tt h)

by_joins : (root b : Bool) (front text : List ℕ) (pieces : List Piece) → takes root front pieces ≡ true → leads_quote pieces ≡ false →
    joins root (first_by b front text ∷ (after_by b text ++ pieces)) ≡ name (front ++ cond b text (spelling (label text))) ∷ joins false pieces
by_joins root true front text pieces t e = lone_joins root (token (name (front ++ text))) pieces e
by_joins root false front text pieces t e = rw t refl

-- variables
abbrev pub variable_first : List (List ℕ) → ℕ → Option ℕ → Piece
variable_first labels n None = token (name (numbered n []))
variable_first labels n (Some f) = first_by (is_plain (get_or labels f [])) (numbered n []) (get_or labels f [])

abbrev pub variable_after : List (List ℕ) → Option ℕ → List Piece
variable_after labels None = []
variable_after labels (Some f) = after_by (is_plain (get_or labels f [])) (get_or labels f [])

stem_more : (n : ℕ) (rest : List ℕ) → numbered n [] ++ rest ≡ numbered n rest
stem_more n rest = ap (λ (l : List ℕ). 120 ∷ l) (append_assoc (printed n) (58 ∷ []) rest)

plain_bytes : (text : List ℕ) → is_plain text ≡ true → list_all is_name_byte text ≡ true
plain_bytes text e = (plain_is text e).named.bytes

stem_plain : (n : ℕ) (text : List ℕ) → IsNumeral n → is_plain text ≡ true → IsName (numbered n [] ++ text)
stem_plain n text d e = subst IsName (sym (stem_more n text)) (stem_name n text d (plain_bytes text e))

variable_had : (labels : List (List ℕ)) (n : ℕ) (asked : Option ℕ) (pieces : List Piece) (rest : List ℕ) → IsNumeral n → begins_name rest ≡ false → HasPieces pieces rest →
    HasPieces (variable_first labels n asked ∷ (variable_after labels asked ++ pieces)) (numbered n (asked_text labels asked) ++ rest)
variable_had labels n None pieces rest d b h = first_had (name (numbered n [])) pieces rest (stem_name n [] d refl) b h
variable_had labels n (Some f) pieces rest d b h =
    let text : List ℕ = get_or labels f [] in
    let same : numbered n [] ++ (label_text text ++ rest) ≡ numbered n (label_text text) ++ rest =
    sym (append_assoc (numbered n []) (label_text text) rest) ∙ ap (λ (l : List ℕ). l ++ rest) (stem_more n (label_text text)) in
    subst (λ (l : List ℕ). HasPieces (first_by (is_plain text) (numbered n []) text ∷ (after_by (is_plain text) text ++ pieces)) l) same
    (by_had (is_plain text) (numbered n []) text pieces rest (stem_name n [] d refl) (stem_plain n text d) b h)

variable_joins : (labels : List (List ℕ)) (n : ℕ) (asked : Option ℕ) (pieces : List Piece) → IsNumeral n → IsPast pieces →
    joins false (variable_first labels n asked ∷ (variable_after labels asked ++ pieces)) ≡ name (numbered n (asked_text labels asked)) ∷ joins false pieces
variable_joins labels n None pieces d p = lone_joins false (token (name (numbered n []))) pieces p.0
variable_joins labels n (Some f) pieces d p =
    let text : List ℕ = get_or labels f [] in
    let ends = stem_ends n d in
    let past = p.1 in
    let taken : takes false (numbered n []) pieces ≡ true = rw (ends, past) refl in
    by_joins false (is_plain text) (numbered n []) text pieces taken p.0 ∙ ap (λ (l : List ℕ). name l ∷ joins false pieces) (stem_more n (label_text text))

first_no_open : (b : Bool) (front text : List ℕ) → is_kind kinds.Open (first_by b front text).kind ≡ false
first_no_open true front text = refl
first_no_open false front text = refl

variable_no_open : (labels : List (List ℕ)) (n : ℕ) (asked : Option ℕ) → is_kind kinds.Open (variable_first labels n asked).kind ≡ false
variable_no_open labels n None = refl
variable_no_open labels n (Some f) = first_no_open (is_plain (get_or labels f [])) (numbered n []) (get_or labels f [])

-- what is there of a left side below its root
abbrev pub IsVariablePlain : List (List ℕ) → Variable → Type 0
IsVariablePlain labels x = (x.number < 1000000000) × IsPlainAsked labels x.label

abbrev pub FitsLeft : List (List ℕ) → Trees (Symbol ℕ Variable) → Type 0
FitsLeft labels ts = Fits (IsPlainLabel labels) (IsVariablePlain labels) ts

abbrev pub left_tokens : List (List ℕ) → Trees (Symbol ℕ Variable) → ℕ → List Piece
left_tokens labels ts k = forest (λ x. variable_first labels x.number x.label) (λ x. variable_after labels x.label) labels ts k

abbrev pub left_written : List (List ℕ) → List (List ℕ) → Trees (Symbol ℕ Variable) → Written
left_written names labels ts = written (variable_text names labels) labels ts

abbrev pub left_bytes : List (List ℕ) → List (List ℕ) → Trees (Symbol ℕ Variable) → ℕ → List ℕ
left_bytes names labels ts k = trees_text (symbol_text (variable_text names labels) labels) ts k

left_had : (names labels : List (List ℕ)) (ts : Trees (Symbol ℕ Variable)) (k : ℕ) (more : List Piece) (rest : List ℕ) → FitsLeft labels ts → begins_name rest ≡ false → HasPieces more rest → HasPieces (left_tokens labels ts k ++ more) (left_bytes names labels ts k ++ rest)
left_had names labels ts k more rest f b h =
    forest_had (IsPlainLabel labels) (IsVariablePlain labels) (variable_text names labels) (λ x. variable_first labels x.number x.label) (λ x. variable_after labels x.label) labels ts
    (λ x pieces bytes fit c had. variable_had labels x.number x.label pieces bytes (is_numeral x.number fit.0) c had) f k more rest b h

left_joins : (names labels : List (List ℕ)) (ts : Trees (Symbol ℕ Variable)) (k : ℕ) (more : List Piece) → FitsLeft labels ts → IsPast more → joins false (left_tokens labels ts k ++ more) ≡ spell (left_written names labels ts) ++ joins false more
left_joins names labels ts k more f p =
    forest_joins (IsPlainLabel labels) (IsVariablePlain labels) (variable_text names labels) (λ x. variable_first labels x.number x.label) (λ x. variable_after labels x.label) labels ts
    (λ x pieces fit past. variable_joins labels x.number x.label pieces (is_numeral x.number fit.0) past, λ x. variable_no_open labels x.number x.label) f k more p

-- the whole left side: a state, a full stop, a label, and the trees below it
abbrev pub front_of : List (List ℕ) → List ℕ → List ℕ → Trees (Symbol ℕ Variable) → List Piece
front_of labels q text kids =
    first_by (is_plain text) (q ++ 46 ∷ []) text ∷ (after_by (is_plain text) text ++ group kids (left_tokens labels kids 0))

abbrev pub root_text : List ℕ → List ℕ → List ℕ
root_text q text = q ++ (46 ∷ label_text text)

abbrev pub left_side : List (List ℕ) → List (List ℕ) → List ℕ → Trees (Symbol ℕ Variable) → List ℕ
left_side names labels text kids = label_text text ++ (opening (count kids) ++ (left_bytes names labels kids 0 ++ (closing (count kids) ++ [])))

stop_more : (q rest : List ℕ) → (q ++ 46 ∷ []) ++ rest ≡ q ++ (46 ∷ rest)
stop_more q rest = append_assoc q (46 ∷ []) rest

stop_name : (q : List ℕ) → IsStateName q → IsName (q ++ 46 ∷ [])
stop_name q w = stopped_name q [] w.is_name refl

stop_plain : (q text : List ℕ) → IsStateName q → is_plain text ≡ true → IsName ((q ++ 46 ∷ []) ++ text)
stop_plain q text w e = subst IsName (sym (stop_more q text)) (stopped_name q text w.is_name (plain_bytes text e))

group_had : (names labels : List (List ℕ)) (kids : Trees (Symbol ℕ Variable)) (more : List Piece) (rest : List ℕ) → FitsLeft labels kids → begins_name rest ≡ false → HasPieces more rest →
    HasPieces (group kids (left_tokens labels kids 0) ++ more) ((opening (count kids) ++ (left_bytes names labels kids 0 ++ (closing (count kids) ++ []))) ++ rest)
group_had names labels none more rest f b h = h
group_had names labels (tree s inner next) more rest f b h =
    let kids : Trees (Symbol ℕ Variable) = tree s inner next in
    let below : List ℕ = left_bytes names labels kids 0 in
    let tokens : List Piece = left_tokens labels kids 0 in
    let closed : HasPieces (token close ∷ more) (41 ∷ rest) = first_had close more rest tt tt h in
    let inside : HasPieces (tokens ++ (token close ∷ more)) (below ++ (41 ∷ rest)) = left_had names labels kids 0 (token close ∷ more) (41 ∷ rest) f refl closed in
    let opened : HasPieces (token open_ ∷ (tokens ++ (token close ∷ more))) (40 ∷ (below ++ (41 ∷ rest))) = first_had open_ (tokens ++ (token close ∷ more)) (below ++ (41 ∷ rest)) tt tt inside in
    subst (λ (l : List ℕ). HasPieces (token open_ ∷ ((tokens ++ token close ∷ []) ++ more)) (40 ∷ l)) (sym (append_assoc below (41 ∷ []) rest))
    (subst (λ (l : List Piece). HasPieces (token open_ ∷ l) (40 ∷ (below ++ (41 ∷ rest)))) (sym (append_assoc tokens (token close ∷ []) more)) opened)

group_begins : {P : Type 0} (kids : Trees (Symbol ℕ P)) (inner rest : List ℕ) → begins_name rest ≡ false → (count kids ≡ 0 → inner ≡ []) → begins_name ((opening (count kids) ++ (inner ++ (closing (count kids) ++ []))) ++ rest) ≡ false
group_begins none inner rest b e = subst (λ (l : List ℕ). begins_name ((l ++ []) ++ rest) ≡ false) (sym (e refl)) b
group_begins (tree s kids others) inner rest b e = refl

no_trees_text : (names labels : List (List ℕ)) (kids : Trees (Symbol ℕ Variable)) → count kids ≡ 0 → left_bytes names labels kids 0 ≡ []
no_trees_text names labels none e = refl
no_trees_text names labels (tree s kids others) e = absurd (omega (arith, e))

pub front_had : (names labels : List (List ℕ)) (q text : List ℕ) (kids : Trees (Symbol ℕ Variable)) (more : List Piece) (rest : List ℕ) → IsStateName q → FitsLeft labels kids → begins_name rest ≡ false → HasPieces more rest →
    HasPieces (front_of labels q text kids ++ more) (q ++ (46 ∷ (left_side names labels text kids ++ rest)))
front_had names labels q text kids more rest w f b h =
    let inner : List ℕ = opening (count kids) ++ (left_bytes names labels kids 0 ++ (closing (count kids) ++ [])) in
    let grouped : HasPieces (group kids (left_tokens labels kids 0) ++ more) (inner ++ rest) = group_had names labels kids more rest f b h in
    let begins : begins_name (inner ++ rest) ≡ false = group_begins kids (left_bytes names labels kids 0) rest b (no_trees_text names labels kids) in
    let had = by_had (is_plain text) (q ++ 46 ∷ []) text (group kids (left_tokens labels kids 0) ++ more) (inner ++ rest) (stop_name q w) (stop_plain q text w) begins grouped in
    let same : (q ++ 46 ∷ []) ++ (label_text text ++ (inner ++ rest)) ≡ q ++ (46 ∷ (left_side names labels text kids ++ rest)) =
    stop_more q (label_text text ++ (inner ++ rest)) ∙ ap (λ (l : List ℕ). q ++ (46 ∷ l)) (sym (append_assoc (label_text text) inner rest)) in
    let tokens_same : (after_by (is_plain text) text ++ group kids (left_tokens labels kids 0)) ++ more ≡ after_by (is_plain text) text ++ (group kids (left_tokens labels kids 0) ++ more) =
    append_assoc (after_by (is_plain text) text) (group kids (left_tokens labels kids 0)) more in
    subst (λ (l : List ℕ). HasPieces (first_by (is_plain text) (q ++ 46 ∷ []) text ∷ ((after_by (is_plain text) text ++ group kids (left_tokens labels kids 0)) ++ more)) l) same
    (subst (λ (l : List Piece). HasPieces (first_by (is_plain text) (q ++ 46 ∷ []) text ∷ l) ((q ++ 46 ∷ []) ++ (label_text text ++ (inner ++ rest)))) (sym tokens_same) had)

-- the left side as one tree
abbrev pub kids_of : {P : Type 0} → Trees (Symbol ℕ P) → Written → Option ℕ
kids_of none inner = None
kids_of (tree s kids rest) inner = Some (count_written inner)

abbrev pub root_item : List (List ℕ) → List (List ℕ) → List ℕ → List ℕ → Trees (Symbol ℕ Variable) → Item
root_item names labels q text kids = item false (root_text q text) (kids_of kids (left_written names labels kids))

group_words : (names labels : List (List ℕ)) (root : List ℕ) (kids : Trees (Symbol ℕ Variable)) → FitsLeft labels kids →
    (words : List Word) → words ≡ name root ∷ joins false (group kids (left_tokens labels kids 0)) → IsTree words (item false root (kids_of kids (left_written names labels kids)) ∷ items (left_written names labels kids))
group_words names labels root none f words e = record { tree = leaf false root end; spelled = sym e; one = refl; nodes = refl }
group_words names labels root (tree s inner next) f words e =
    let kids : Trees (Symbol ℕ Variable) = tree s inner next in
    let below : Written = left_written names labels kids in
    let words_same : joins false (token open_ ∷ (left_tokens labels kids 0 ++ token close ∷ [])) ≡ open_ ∷ (spell below ++ (close ∷ [])) =
    other_joins false (token open_) (left_tokens labels kids 0 ++ token close ∷ []) refl
    ∙ ap (λ (ws : List Word). open_ ∷ ws) (left_joins names labels kids 0 (token close ∷ []) f (refl, refl)) in
    record {
      tree = head false root below end;
      spelled = sym (e ∙ ap (λ (ws : List Word). name root ∷ ws) words_same);
      one = refl;
      nodes = ap (λ (is : List Item). item false root (Some (count_written below)) ∷ is) (append-nil (items below));
    }

pub front_tree : (names labels : List (List ℕ)) (q text : List ℕ) (kids : Trees (Symbol ℕ Variable)) → IsStateName q → FitsLeft labels kids → IsTree (left_words (front_of labels q text kids)) (root_item names labels q text kids ∷ items (left_written names labels kids))
front_tree names labels q text kids w f =
    group_words names labels (root_text q text) kids f (left_words (front_of labels q text kids))
    (by_joins true (is_plain text) (q ++ 46 ∷ []) text (group kids (left_tokens labels kids 0)) (stop_ends q w.no_stop) (group_quote kids)
    ∙ ap (λ (l : List ℕ). name l ∷ joins false (group kids (left_tokens labels kids 0))) (stop_more q (label_text text)))
  where
    group_quote : (ts : Trees (Symbol ℕ Variable)) → leads_quote (group ts (left_tokens labels ts 0)) ≡ false
    group_quote none = refl
    group_quote (tree s inner next) = refl
