-- The lines of what is printed of a grammar.
use Rattle.tib_cost.specs.Scale.{weight_in, weight_within}
use Rattle.tib_cost.specs.declared.Scale.TheVariants as scales
use Rattle.tib_cost.specs.declared.Scale.{Scale}
use Rattle.std.proofs.Common.{◌≡◌, ℕ, inl, inr, Bool, true, false, List, [], ◌∷◌, ◌++◌, length, get_or, refl, ap, sym, ◌∙◌, subst, append_assoc, zero, suc}
use Rattle.std.specs.Prelude.{not, cond, ◌==◌, ◌||◌, ◌&&◌}
use Rattle.std.specs.List.{list_all}
use Rattle.std.proofs.lemmas.Bool.Decides.{eqb_tells}
use Rattle.std.proofs.lemmas.List.Folds.{list_all-append}
use Rattle.tib_lex.specs.Bytes.{is_name_byte}
use Rattle.tib_lex.specs.Grammar.{Word, label, escape, spelling, is_name}
use Rattle.tib_lex.specs.Lines.{not_feed, HasNoFeed, HasLines}
use Rattle.tib_lex.specs.Lists.{Each}
use Rattle.tib_lex.proofs.Spelled.{and_true}
use Rattle.tib_tree.specs.Trees.{Trees, none, tree, only, count}
use Rattle.tib_grammar.specs.Sides.{Symbol, label as symbol_label, hole}
use Rattle.tib_grammar.specs.GrammarOf.{GrammarOf}
use Rattle.tib_grammar.specs.StateName.{IsStateName}
use Rattle.tib_grammar.specs.declared.Rule.{Rule}
use Rattle.tib_grammar_file.specs.GrammarText.{HaveTokens}
use Rattle.tib_grammar_file.specs.Printable.{IsPlainCost, HavePlainLabels, IsPrintable}
use Rattle.tib_grammar_file.specs.Printed.{is_held, label_text, symbol_text, space, opening, closing, trees_text, cost_text, rule_text, rules_text, grammar_text}
use Rattle.tib_grammar_file.specs.Weight.{is_digit}
use Rattle.tib_grammar_file.proofs.PrintedRules.{all_changes, digits_are, line_of, row_of, words_behind, line_read, FitsRule}
use Rattle.std.specs.Prelude.{decimal as printed}

-- no byte of a name, a label in quotes or a cost is a line feed

is_ten : (b : ℕ) → (b == 10) ≡ true → b ≡ 10
is_ten b e = elim (eqb_tells b 10) [ inl h ↦ h.1 | inr h ↦ cc ]

no_feed_by : (p : ℕ → Bool) → p 10 ≡ false → (b : ℕ) (c : Bool) → (b == 10) ≡ c → p b ≡ true → not c ≡ true
no_feed_by p ten b false e h = refl
no_feed_by p ten b true e h = let bad : p 10 ≡ true = subst (λ (x : ℕ). p x ≡ true) (is_ten b e) h in cc

-- bytes of a kind to which the line feed does not belong have none
pub free_from : (p : ℕ → Bool) → p 10 ≡ false → (xs : List ℕ) → list_all p xs ≡ true → HasNoFeed xs
free_from p ten xs h = all_changes p not_feed xs (λ b k. no_feed_by p ten b (b == 10) refl k) h

-- two texts without line feed have none in one
pub free_append : (xs ys : List ℕ) → HasNoFeed xs → HasNoFeed ys → HasNoFeed (xs ++ ys)
free_append xs ys h k = list_all-append not_feed xs ys ∙ rw h k

-- a text without line feed has none once it is escaped
pub free_escape : (xs : List ℕ) → HasNoFeed xs → HasNoFeed (escape xs)
free_escape [] h = refl
free_escape (x ∷ xs) h = let t = and_true (not_feed x) (list_all not_feed xs) h in by (x == 34 || x == 92) t.0 (free_escape xs t.1)
  where
    by : (c : Bool) → not_feed x ≡ true → HasNoFeed (escape xs) → HasNoFeed (cond c (92 ∷ (x ∷ escape xs)) (x ∷ escape xs))
    by true e k = rw e k
    by false e k = rw e k

free_quoted : (text : List ℕ) → HasNoFeed text → HasNoFeed (spelling (label text))
free_quoted text h = free_append (escape text) (34 ∷ []) (free_escape text h) refl

free_choice : (c : Bool) (xs ys : List ℕ) → HasNoFeed xs → HasNoFeed ys → HasNoFeed (cond c xs ys)
free_choice true xs ys h k = h
free_choice false xs ys h k = k

free_label : (names : List (List ℕ)) (text : List ℕ) → HasNoFeed text → HasNoFeed (label_text names text)
free_label names text h = free_choice (is_name text && not (is_held names text)) text (spelling (label text)) h (free_quoted text h)

-- a text of a table has no line feed
pub free_at : (texts : List (List ℕ)) (n : ℕ) → Each HasNoFeed texts → HasNoFeed (get_or texts n [])
free_at [] n e = refl
free_at (x ∷ xs) zero e = e.0
free_at (x ∷ xs) (suc n) e = free_at xs n e.1

pub names_free : (names : List (List ℕ)) → Each IsStateName names → Each HasNoFeed names
names_free [] e = tt
names_free (x ∷ xs) e = (free_from is_name_byte refl x e.0.is_name.bytes, names_free xs e.1)

-- nor have a space,
pub free_space : (k : ℕ) → HasNoFeed (space k)
free_space zero = refl
free_space (suc k) = refl

-- an opening bracket,
pub free_opening : (k : ℕ) → HasNoFeed (opening k)
free_opening zero = refl
free_opening (suc k) = refl

-- closing brackets,
pub free_closing : (k : ℕ) → HasNoFeed (closing k)
free_closing zero = refl
free_closing (suc k) = refl

-- a tree with what is below it and after it
free_tree :
    (names labels : List (List ℕ)) (s : Symbol ℕ ℕ) (kids rest : Trees (Symbol ℕ ℕ)) (k : ℕ) → HasNoFeed (symbol_text names labels s) → HasNoFeed (trees_text names labels kids 0) →
    HasNoFeed (trees_text names labels rest (suc k)) → HasNoFeed (trees_text names labels (tree s kids rest) k)
free_tree names labels s kids rest k symbol below behind =
    let closed : HasNoFeed (closing (count kids) ++ trees_text names labels rest (suc k)) = free_append (closing (count kids)) (trees_text names labels rest (suc k)) (free_closing (count kids)) behind in
    let inside : HasNoFeed (trees_text names labels kids 0 ++ (closing (count kids) ++ trees_text names labels rest (suc k))) = free_append (trees_text names labels kids 0) (closing (count kids) ++ trees_text names labels rest (suc k)) below closed in
    let opened = free_append (opening (count kids)) (trees_text names labels kids 0 ++ (closing (count kids) ++ trees_text names labels rest (suc k))) (free_opening (count kids)) inside in
    let named = free_append (symbol_text names labels s) (opening (count kids) ++ (trees_text names labels kids 0 ++ (closing (count kids) ++ trees_text names labels rest (suc k)))) symbol opened in
    free_append (space k) (symbol_text names labels s ++ (opening (count kids) ++ (trees_text names labels kids 0 ++ (closing (count kids) ++ trees_text names labels rest (suc k))))) (free_space k) named

free_trees : (names labels : List (List ℕ)) (ts : Trees (Symbol ℕ ℕ)) (k : ℕ) → Each HasNoFeed names → HavePlainLabels labels ts → HasNoFeed (trees_text names labels ts k)
free_trees names labels none k n l = refl
free_trees names labels (tree (symbol_label f) kids rest) k n l =
    free_tree names labels (symbol_label f) kids rest k (free_label names (get_or labels f []) l.1) (free_trees names labels kids 0 n l.2) (free_trees names labels rest (suc k) n l.3)
free_trees names labels (tree (hole q) kids rest) k n l = free_tree names labels (hole q) kids rest k (free_at names q n) (free_trees names labels kids 0 n l.0) (free_trees names labels rest (suc k) n l.1)

-- and a printed weight
pub free_cost : (scale : Scale) (cost : ℕ) → IsPlainCost scale cost → HasNoFeed (cost_text scale cost)
free_cost scales.Unweighted cost h = refl
free_cost scales.Plain cost h = free_from is_digit refl (printed cost) (digits_are cost h)
free_cost scales.Reversed cost h = free_from is_digit refl (printed (weight_in scales.Reversed cost)) (digits_are (weight_in scales.Reversed cost) (weight_within scales.Reversed cost h))

free_line : (scale : Scale) (names labels : List (List ℕ)) (r : Rule ℕ) → Each HasNoFeed names → IsPrintable scale labels r → HasNoFeed (line_of scale names labels r)
free_line scale names labels r n p =
    let right : HasNoFeed (trees_text names labels (only r.right) 0 ++ cost_text scale r.cost) =
    free_append (trees_text names labels (only r.right) 0) (cost_text scale r.cost) (free_trees names labels (only r.right) 0 n p.right) (free_cost scale r.cost p.cost) in
    free_append (get_or names r.left []) (32 ∷ (45 ∷ (62 ∷ (32 ∷ (trees_text names labels (only r.right) 0 ++ cost_text scale r.cost))))) (free_at names r.left n) right

-- the lines and their tokens
abbrev pub lines_in : Scale → List (List ℕ) → List (List ℕ) → List (Rule ℕ) → List (List ℕ)
lines_in scale names labels [] = []
lines_in scale names labels (r ∷ rules) = line_of scale names labels r ∷ lines_in scale names labels rules

abbrev pub rows_in : Scale → List (List ℕ) → List (List ℕ) → List (Rule ℕ) → List (List Word)
rows_in scale names labels [] = []
rows_in scale names labels (r ∷ rules) = row_of scale names labels r ∷ rows_in scale names labels rules

pub line_ends : (scale : Scale) (names labels : List (List ℕ)) (r : Rule ℕ) (more : List ℕ) → rule_text scale names labels r ++ more ≡ line_of scale names labels r ++ (10 ∷ more)
line_ends scale names labels r more =
    let left : List ℕ = get_or names r.left [] in
    let right : List ℕ = trees_text names labels (only r.right) 0 in
    let cost : List ℕ = cost_text scale r.cost in
    append_assoc left (32 ∷ (45 ∷ (62 ∷ (32 ∷ (right ++ (cost ++ 10 ∷ [])))))) more
    ∙ ap (λ (l : List ℕ). left ++ (32 ∷ (45 ∷ (62 ∷ (32 ∷ l))))) (append_assoc right (cost ++ 10 ∷ []) more ∙ ap (λ (l : List ℕ). right ++ l) (append_assoc cost (10 ∷ []) more) ∙ sym (append_assoc right cost (10 ∷ more)))
    ∙ sym (append_assoc left (32 ∷ (45 ∷ (62 ∷ (32 ∷ (right ++ cost))))) (10 ∷ more))

rules_lines : (scale : Scale) (names labels : List (List ℕ)) (rules : List (Rule ℕ)) → Each HasNoFeed names → Each (IsPrintable scale labels) rules → HasLines (lines_in scale names labels rules) (rules_text scale names labels rules)
rules_lines scale names labels [] n p = refl
rules_lines scale names labels (r ∷ rules) n p =
    (free_line scale names labels r n p.0, inr (rules_text scale names labels rules, line_ends scale names labels r (rules_text scale names labels rules), rules_lines scale names labels rules n p.1))

pub grammar_lines : (scale : Scale) (labels : List (List ℕ)) (g : GrammarOf) → Each HasNoFeed g.names → Each (IsPrintable scale labels) g.rules → HasLines (get_or g.names 0 [] ∷ lines_in scale g.names labels g.rules) (grammar_text scale labels g)
grammar_lines scale labels g n p = (
  free_at g.names 0 n,
  inr (rules_text scale g.names labels g.rules, append_assoc (get_or g.names 0 []) (10 ∷ []) (rules_text scale g.names labels g.rules), rules_lines scale g.names labels g.rules n p),
)

pub rules_tokens : (scale : Scale) (names labels : List (List ℕ)) (rules : List (Rule ℕ)) → Each IsStateName names → Each (FitsRule scale (length names) (length labels)) rules → HaveTokens (lines_in scale names labels rules) (rows_in scale names labels rules)
rules_tokens scale names labels [] e f = refl
rules_tokens scale names labels (r ∷ rules) e f =
    inr (
      _,
      words_behind scale names labels r,
      rows_in scale names labels rules,
      line_read scale names labels r e f.0,
      refl,
      rules_tokens scale names labels rules e f.1,
    )
