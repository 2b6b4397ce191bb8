-- What is printed of a rule spells it.
use Rattle.tib_cost.specs.Scale.{is_weighted, weight_in, weight_within, cost_of_weight}
use Rattle.tib_cost.specs.declared.Scale.TheVariants as scales
use Rattle.tib_cost.specs.declared.Scale.{Scale}
use Rattle.std.proofs.Common.{◌≡◌, ℕ, ◌<◌, ◌≤◌, Bool, true, false, Option, List, [], ◌∷◌, ◌++◌, length, get_or, refl, ap, sym, ◌∙◌, subst, append-nil, arith}
use Rattle.std.specs.Prelude.{Some, None, slice_get, Contains, not, ◌&&◌, nat_lt, decimal as printed}
use Rattle.std.specs.List.{list_all}
use Rattle.std.specs.Str.{bytes_eq}
use Rattle.std.specs.Int.{IsInRange}
use Rattle.std.specs.Bool.{Decides}
use Rattle.std.proofs.lemmas.Bool.Decides.{nat_tests}
use Rattle.std.proofs.lemmas.Fmt.{digits_decimal, digits_value-decimal, decimal_nonempty}
use Rattle.std.proofs.lemmas.Option.{slice_get-get_or}
use Rattle.std.proofs.lemmas.Slice.Eq.{bytes_eq-Decides}
use Rattle.std.proofs.lemmas.Str.Parse.{IsNumeralModel, IsDigitsTest, FoldsDigits, numerals_by_fold}
use Rattle.tib_lex.specs.Bytes.{is_name_byte}
use Rattle.tib_lex.specs.Grammar.{Word, hash, arrow, name, is_name, IsName, begins_name, HasWords}
use Rattle.tib_lex.specs.Lists.{Each}
use Rattle.tib_lex.proofs.Spelled.{and_true}
use Rattle.tib_tree.specs.Trees.{Trees, none, tree, only, relabel}
use Rattle.tib_tree.specs.Written.{spell}
use Rattle.tib_grammar.specs.Sides.{Symbol, label as symbol_label, hole, symbol_map}
use Rattle.tib_grammar.specs.GrammarOf.{named_rule}
use Rattle.tib_grammar.specs.StateName.{IsStateName}
use Rattle.tib_grammar.specs.declared.Rule.{Rule}
use Rattle.tib_grammar_file.specs.GrammarText.{IsLeaf, IsHead, Means, SpellsRuleOf}
use Rattle.tib_grammar_file.specs.Printable.{IsPlainIf, IsPlainCost}
use Rattle.tib_grammar_file.specs.Printed.{is_held, trees_text, weight_text, cost_text}
use Rattle.tib_grammar_file.specs.Rule.{weight_words}
use Rattle.tib_grammar_file.specs.Weight.{is_digit, decimal_from, IsWhole, IsWeighed, IsCostOf}
use Rattle.tib_grammar_file.proofs.PrintedTrees.{Fits, FitsSymbol, text_of, quotes, written, name_at_is, trees_read}
use Rattle.tib_grammar_file.proofs.Printing.{held_at}
use Rattle.tib_lex.proofs.HasWords.{after_space, has_first_word, no_words}
use Rattle.tib_cost.specs.Semiring.{most}

-- the digits of a cost are a whole weight

-- digits are the bytes from 48 to 57
pub digit_range : (c : ℕ) → is_digit c ≡ true → IsInRange 48 57 c
digit_range c h = let t = and_true (nat_lt 47 c) (nat_lt c 58) h in grind (arith, nat_tests)

-- and the other way round
pub range_digit : (c : ℕ) → IsInRange 48 57 c → is_digit c ≡ true
range_digit c h = let a : nat_lt 47 c ≡ true = grind (arith, nat_tests) in let b : nat_lt c 58 ≡ true = grind (arith, nat_tests) in rw (a, b) refl

-- texts of digits by their bytes
pub tells : IsDigitsTest (λ ds. list_all is_digit ds ≡ true)
tells = record {
  empty = refl;
  parts = λ c cs h. let t = and_true (is_digit c) (list_all is_digit cs) h in (digit_range c t.0, t.1);
  more = λ c cs h k. rw (range_digit c h) k;
}

-- their values digit by digit
pub folds : FoldsDigits decimal_from
folds = record { empty = λ n. refl; more = λ n c cs h. ap (λ (m : ℕ). decimal_from m cs) (omega arith) }

-- texts of digits are numerals
pub numerals : IsNumeralModel (λ ds. list_all is_digit ds ≡ true) (decimal_from 0)
numerals = numerals_by_fold (λ ds. list_all is_digit ds ≡ true) tells decimal_from folds

pub digits_are : (n : ℕ) → n ≤ most → list_all is_digit (printed n) ≡ true
digits_are n h = digits_decimal numerals n (omega arith)

-- a digit may be in a name
pub name_byte : (c : ℕ) → is_digit c ≡ true → is_name_byte c ≡ true
name_byte c h = let t = digit_range c h in grind (arith, nat_tests)

pub all_changes : (p q : ℕ → Bool) (xs : List ℕ) → ((x : ℕ) → p x ≡ true → q x ≡ true) → list_all p xs ≡ true → list_all q xs ≡ true
all_changes p q [] f h = refl
all_changes p q (x ∷ xs) f h = let t = and_true (p x) (list_all p xs) h in rw (f x t.0) (all_changes p q xs f t.1)

-- digits are no arrow
pub no_arrow : (b : Bool) (ds : List ℕ) → bytes_eq ds (45 ∷ 62 ∷ []) ≡ b → list_all is_digit ds ≡ true → b ≡ false
no_arrow false ds e h = refl
no_arrow true ds e h =
    let d : Decides (bytes_eq ds (45 ∷ 62 ∷ [])) (ds ≡ 45 ∷ 62 ∷ []) = bytes_eq-Decides ds (45 ∷ 62 ∷ []) in
    let bad : false ≡ true = subst (λ (l : List ℕ). list_all is_digit l ≡ true) (d.0 e) h in cc

cost_is_name : (n : ℕ) → n ≤ most → IsName (printed n)
cost_is_name n h = record {
  some = decimal_nonempty n (omega arith);
  bytes = all_changes is_digit is_name_byte (printed n) name_byte (digits_are n h);
  other = no_arrow (bytes_eq (printed n) (45 ∷ 62 ∷ [])) (printed n) refl (digits_are n h);
}

cost_is_whole : (n : ℕ) → n ≤ most → IsWhole (printed n) n
cost_is_whole n h = record {
  digits = printed n;
  zeros = None;
  some = decimal_nonempty n (omega arith);
  are_digits = digits_are n h;
  are_zeros = tt;
  spelled = sym (append-nil (printed n));
  value = sym (digits_value-decimal numerals n (omega arith));
}

-- a weight as a text, where weights are kept
abbrev pub weight_if : Bool → ℕ → Option (List ℕ)
weight_if true weight = Some (printed weight)
weight_if false weight = None

-- the weight of a cost, where the scale has weights
abbrev pub weight_of : Scale → ℕ → Option (List ℕ)
weight_of scale cost = weight_if (is_weighted scale) (weight_in scale cost)

words_if : (w : Bool) (cost : ℕ) → (w ≡ true → cost ≤ most) → HasWords (weight_words (weight_if w cost)) (weight_text w cost)
words_if false cost h = no_words
words_if true cost within =
    let h : cost ≤ most = within refl in
    let digits : HasWords (name (printed cost) ∷ []) (printed cost ++ []) = has_first_word (name (printed cost)) [] [] (cost_is_name cost h) refl no_words in
    let alone : HasWords (name (printed cost) ∷ []) (printed cost) = subst (λ (l : List ℕ). HasWords (name (printed cost) ∷ []) l) (append-nil (printed cost)) digits in
    let behind : HasWords (name (printed cost) ∷ []) (32 ∷ printed cost) = after_space (name (printed cost) ∷ []) (printed cost) alone in
    after_space (hash ∷ (name (printed cost) ∷ [])) (35 ∷ (32 ∷ printed cost)) (has_first_word hash (name (printed cost) ∷ []) (32 ∷ printed cost) tt tt behind)

-- a cost that is printed is within the greatest
pub plain_within : (w : Bool) (cost : ℕ) → IsPlainIf w cost → w ≡ true → cost ≤ most
plain_within true cost h e = h
plain_within false cost h e = absurd (cc)

-- a printed weight is read as its words
pub weight_read : (scale : Scale) (cost : ℕ) → IsPlainCost scale cost → HasWords (weight_words (weight_of scale cost)) (cost_text scale cost)
weight_read scale cost h = words_if (is_weighted scale) (weight_in scale cost) (λ e. weight_within scale cost (plain_within (is_weighted scale) cost h e))

-- a printed weight begins no name
pub begins_if : (w : Bool) (cost : ℕ) → begins_name (weight_text w cost) ≡ false
begins_if false cost = refl
begins_if true cost = refl

-- the same by the scale
pub weight_begins : (scale : Scale) (cost : ℕ) → begins_name (cost_text scale cost) ≡ false
weight_begins scale cost = begins_if (is_weighted scale) (weight_in scale cost)

cost_read : (scale : Scale) (cost : ℕ) → cost ≤ most → IsWeighed scale (printed (weight_in scale cost)) cost
cost_read scale cost h = record {
  weight = weight_in scale cost;
  whole = cost_is_whole (weight_in scale cost) (weight_within scale cost h);
  within = weight_within scale cost h;
  cost_is = sym (cost_of_weight scale cost h);
}

-- the cost of a printed weight is the cost
pub weight_is : (scale : Scale) (cost : ℕ) → IsPlainCost scale cost → IsCostOf scale (weight_of scale cost) cost
weight_is scales.Unweighted cost h = h
weight_is scales.Plain cost h = cost_read scales.Plain cost h
weight_is scales.Reversed cost h = cost_read scales.Reversed cost h

-- the line of a rule without its line feed, and its tokens
abbrev pub line_of : Scale → List (List ℕ) → List (List ℕ) → Rule ℕ → List ℕ
line_of scale names labels r =
    get_or names r.left [] ++ (32 ∷ (45 ∷ (62 ∷ (32 ∷ (trees_text names labels (only r.right) 0 ++ cost_text scale r.cost)))))

abbrev pub words_behind : Scale → List (List ℕ) → List (List ℕ) → Rule ℕ → List Word
words_behind scale names labels r = arrow ∷ (spell (written names labels (only r.right)) ++ weight_words (weight_of scale r.cost))

abbrev pub row_of : Scale → List (List ℕ) → List (List ℕ) → Rule ℕ → List Word
row_of scale names labels r = name (get_or names r.left []) ∷ words_behind scale names labels r

-- a rule that can be printed
pub record FitsRule (scale : Scale) (n m : ℕ) (r : Rule ℕ) : Type 0 where
  pub left : r.left < n
  pub right : Fits n m (only r.right)
  pub cost : IsPlainCost scale r.cost

pub line_read : (scale : Scale) (names labels : List (List ℕ)) (r : Rule ℕ) → Each IsStateName names → FitsRule scale (length names) (length labels) r → HasWords (row_of scale names labels r) (line_of scale names labels r)
line_read scale names labels r e f =
    let words : List Word = spell (written names labels (only r.right)) ++ weight_words (weight_of scale r.cost) in
    let bytes : List ℕ = trees_text names labels (only r.right) 0 ++ cost_text scale r.cost in
    let right : HasWords words bytes = trees_read names labels (only r.right) e f.right 0 (weight_words (weight_of scale r.cost)) (cost_text scale r.cost) (weight_begins scale r.cost) (weight_read scale r.cost f.cost) in
    let behind : HasWords (arrow ∷ words) (45 ∷ (62 ∷ (32 ∷ bytes))) = has_first_word arrow words (32 ∷ bytes) tt refl (after_space words bytes right) in
    has_first_word (name (get_or names r.left [])) (arrow ∷ words) (32 ∷ (45 ∷ (62 ∷ (32 ∷ bytes)))) (name_at_is names r.left e f.left).is_name refl (after_space (arrow ∷ words) (45 ∷ (62 ∷ (32 ∷ bytes))) behind)

-- other numbers for the same names
pub record Renames (names others : List (List ℕ)) (number : ℕ → ℕ) : Type 0 where
  pub to : (q : ℕ) → q < length names → slice_get others (number q) ≡ Some (get_or names q [])
  pub back : (text : List ℕ) → Contains others text → Contains names text

unquoted : (a b : Bool) → not (a && not b) ≡ false → b ≡ false
unquoted true true e = cc
unquoted true false e = refl
unquoted false b e = cc

no_state : (names others : List (List ℕ)) (number : ℕ → ℕ) (text : List ℕ) → Renames names others number → not (is_name text && not (is_held names text)) ≡ false → Contains others text → ⊥
no_state names others number text r e c =
    let free : is_held names text ≡ false = unquoted (is_name text) (is_held names text) e in
    let at = r.back text c in
    let held : true ≡ is_held names text = held_at names at.0 text (slice_get-get_or names at.0 text at.1 ∙ ap Some at.2) in
    let bad : true ≡ false = held ∙ free in cc

leaf_means : (names others labels : List (List ℕ)) (number : ℕ → ℕ) (s : Symbol ℕ ℕ) → Renames names others number → FitsSymbol (length names) (length labels) s none → IsLeaf others labels (symbol_map number s) (quotes names labels s) (text_of names labels s)
leaf_means names others labels number (hole q) r f = (refl, r.to q f)
leaf_means names others labels number (symbol_label l) r f = (no_state names others number (get_or labels l []) r, slice_get-get_or labels l [] f)

head_means : (names others labels : List (List ℕ)) (number : ℕ → ℕ) (s g : Symbol ℕ ℕ) (inner next : Trees (Symbol ℕ ℕ)) → FitsSymbol (length names) (length labels) s (tree g inner next) → IsHead labels (symbol_map number s) (text_of names labels s)
head_means names others labels number (hole q) g inner next f = absurd f
head_means names others labels number (symbol_label l) g inner next f = slice_get-get_or labels l [] f

pub trees_mean : (names others labels : List (List ℕ)) (number : ℕ → ℕ) (ts : Trees (Symbol ℕ ℕ)) → Renames names others number → Fits (length names) (length labels) ts → Means others labels (relabel (symbol_map number) ts) (written names labels ts)
trees_mean names others labels number none r f = tt
trees_mean names others labels number (tree s none rest) r f = (leaf_means names others labels number s r f.0, refl, trees_mean names others labels number rest r f.2)
trees_mean names others labels number (tree s (tree g inner next) rest) r f = (
  head_means names others labels number s g inner next f.0,
  trees_mean names others labels number (tree g inner next) r f.1,
  trees_mean names others labels number rest r f.2,
)

pub rule_spelled : (scale : Scale) (names others labels : List (List ℕ)) (number : ℕ → ℕ) (r : Rule ℕ) → Each IsStateName names → Renames names others number → FitsRule scale (length names) (length labels) r → SpellsRuleOf scale others labels (row_of scale names labels r) (named_rule number r)
rule_spelled scale names others labels number r e n f = record {
  left = get_or names r.left [];
  right = written names labels (only r.right);
  weight = weight_of scale r.cost;
  words_are = refl;
  plain = (name_at_is names r.left e f.left).no_stop;
  left_is = n.to r.left f.left;
  right_is = trees_mean names others labels number (only r.right) n f.right;
  cost_is = weight_is scale r.cost f.cost;
}
