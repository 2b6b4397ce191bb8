-- Rules are determined by their lines.
use Rattle.tib_grammar.proofs.Sides.{symbol_itself}
use Rattle.tib_cost.specs.declared.Scale.{Scale}
use Rattle.tib_cost.specs.declared.Scale.TheVariants as scales
use Rattle.std.proofs.Common.{◌≡◌, ℕ, ◌<◌, ◌≤◌, List, [], ◌∷◌, ◌++◌, length, take, refl, ap, sym, ◌∙◌, subst, append-nil, arith, length-append}
use Rattle.std.specs.Prelude.{◌-◌}
use Rattle.std.proofs.lemmas.Option.{slice_get-get_or}
use Rattle.tib_lex.specs.Grammar.{Word, HasWords}
use Rattle.tib_lex.specs.Lists.{Distinct}
use Rattle.tib_tree.specs.Trees.{Tree, Trees, none, tree, only, relabel}
use Rattle.tib_grammar.specs.Sides.{Symbol, symbol_map, side_map}
use Rattle.tib_grammar.specs.GrammarOf.{named_rule}
use Rattle.tib_grammar.specs.StateName.{AreStateNames}
use Rattle.tib_grammar.specs.declared.Rule.{Rule}
use Rattle.tib_grammar_file.specs.GrammarText.{SpellsRuleOf}
use Rattle.tib_grammar_file.specs.Printed.{rule_text}
use Rattle.tib_grammar_file.proofs.PrintedTrees.{Fits}
use Rattle.tib_grammar_file.proofs.PrintedLines.{line_ends}
use Rattle.tib_grammar_file.proofs.PrintedRules.{line_of as line_in, row_of, line_read, rule_spelled, FitsRule, Renames}
use Rattle.tib_grammar_file.proofs.OneGrammar.{rule_same}
use Rattle.tib_cost.specs.Semiring.{most}
use Rattle.tib_canon.specs.Canonical.{line_of}
use Rattle.tib_lex.proofs.HasWords.{words_once}

-- a rule whose states and labels have texts, at a cost
pub record IsSafe (names labels : List (List ℕ)) (r : Rule ℕ) : Type 0 where
  pub left : r.left < length names
  pub right : Fits (length names) (length labels) (only r.right)
  pub within : r.cost ≤ most

-- where nothing is weighed, the cost does not show
abbrev plain : Scale → Rule ℕ → Rule ℕ
plain scales.Plain r = r
plain scales.Reversed r = r
plain scales.Unweighted r = record { left = r.left; right = r.right; cost = 0 }

plain_right : (scale : Scale) (r : Rule ℕ) → (plain scale r).right ≡ r.right
plain_right scales.Plain r = refl
plain_right scales.Reversed r = refl
plain_right scales.Unweighted r = refl

plain_line : (scale : Scale) (names labels : List (List ℕ)) (r : Rule ℕ) → line_in scale names labels (plain scale r) ≡ line_in scale names labels r
plain_line scales.Plain names labels r = refl
plain_line scales.Reversed names labels r = refl
plain_line scales.Unweighted names labels r = refl

plain_fits : (scale : Scale) (names labels : List (List ℕ)) (r : Rule ℕ) → IsSafe names labels r → FitsRule scale (length names) (length labels) (plain scale r)
plain_fits scales.Plain names labels r s = record { left = s.left; right = s.right; cost = s.within }
plain_fits scales.Reversed names labels r s = record { left = s.left; right = s.right; cost = s.within }
plain_fits scales.Unweighted names labels r s = record { left = s.left; right = s.right; cost = refl }

itself : (names : List (List ℕ)) → Renames names names (λ q. q)
itself names = record { to = λ q h. slice_get-get_or names q [] h; back = λ text h. h }

trees_themselves : (ts : Trees (Symbol ℕ ℕ)) → relabel (symbol_map (λ (q : ℕ). q)) ts ≡ ts
trees_themselves none = refl
trees_themselves (tree s kids rest) =
    ap (λ (x : Symbol ℕ ℕ). tree x (relabel (symbol_map (λ (q : ℕ). q)) kids) (relabel (symbol_map (λ (q : ℕ). q)) rest)) (symbol_itself s)
    ∙ ap (λ (x : Trees (Symbol ℕ ℕ)). tree s x (relabel (symbol_map (λ (q : ℕ). q)) rest)) (trees_themselves kids)
    ∙ ap (λ (x : Trees (Symbol ℕ ℕ)). tree s kids x) (trees_themselves rest)

side_itself : (s : Tree (Symbol ℕ ℕ)) → side_map (λ (q : ℕ). q) s ≡ s
side_itself s =
    ap (λ (x : Symbol ℕ ℕ). record { label = x; kids = relabel (symbol_map (λ (q : ℕ). q)) s.kids }) (symbol_itself s.label)
    ∙ ap (λ (x : Trees (Symbol ℕ ℕ)). record { label = s.label; kids = x }) (trees_themselves s.kids)

take_all : (xs ys : List ℕ) → take (length xs) (xs ++ ys) ≡ xs
take_all [] [] = refl
take_all [] (y ∷ ys) = refl
take_all (x ∷ xs) ys = ap (λ (zs : List ℕ). x ∷ zs) (take_all xs ys)

take_front : (text xs : List ℕ) → text ≡ xs ++ 10 ∷ [] → take (length text - 1) text ≡ xs
take_front text xs e =
    let long : length text - 1 ≡ length xs = omega (arith, ap length e, length-append xs (10 ∷ [])) in
    ap (λ n. take n text) long ∙ ap (take (length xs)) e ∙ take_all xs (10 ∷ [])

-- the line of the definition is that of the lemmas on printed rules
line_is : (scale : Scale) (names labels : List (List ℕ)) (r : Rule ℕ) → line_of scale names labels r ≡ line_in scale names labels r
line_is scale names labels r =
    take_front (rule_text scale names labels r) (line_in scale names labels r) (sym (append-nil (rule_text scale names labels r)) ∙ line_ends scale names labels r [])

-- a rule is printed as its line and a line feed
pub line_fed : (scale : Scale) (names labels : List (List ℕ)) (r : Rule ℕ) → rule_text scale names labels r ≡ line_of scale names labels r ++ 10 ∷ []
line_fed scale names labels r =
    sym (append-nil (rule_text scale names labels r)) ∙ line_ends scale names labels r [] ∙ ap (λ (xs : List ℕ). xs ++ 10 ∷ []) (sym (line_is scale names labels r))

-- rules with the same line have the same right-hand side
pub told_by_line :
    (scale : Scale) (names labels : List (List ℕ)) (r s : Rule ℕ) → AreStateNames names → Distinct labels → IsSafe names labels r → IsSafe names labels s → line_of scale names labels r ≡ line_of scale names labels s →
    r.right ≡ s.right
told_by_line scale names labels r s are apart first second same =
    let q : Rule ℕ = plain scale r in
    let p : Rule ℕ = plain scale s in
    let fit = plain_fits scale names labels r first in
    let fits = plain_fits scale names labels s second in
    let lines : line_in scale names labels q ≡ line_in scale names labels p =
    plain_line scale names labels r ∙ sym (line_is scale names labels r) ∙ same ∙ line_is scale names labels s ∙ sym (plain_line scale names labels s) in
    let mine : HasWords (row_of scale names labels q) (line_in scale names labels p) = subst (HasWords (row_of scale names labels q)) lines (line_read scale names labels q are.each fit) in
    let words : row_of scale names labels q ≡ row_of scale names labels p =
    words_once (line_in scale names labels p) (row_of scale names labels q) (row_of scale names labels p) mine (line_read scale names labels p are.each fits) in
    let one : SpellsRuleOf scale names labels (row_of scale names labels p) (named_rule (λ (x : ℕ). x) q) =
    subst (λ (ws : List Word). SpellsRuleOf scale names labels ws (named_rule (λ (x : ℕ). x) q)) words (rule_spelled scale names names labels (λ x. x) q are.each (itself names) fit) in
    let two = rule_spelled scale names names labels (λ x. x) p are.each (itself names) fits in
    let rules : named_rule (λ (x : ℕ). x) q ≡ named_rule (λ (x : ℕ). x) p =
    rule_same scale names labels are.distinct apart (row_of scale names labels p) (named_rule (λ x. x) q) (named_rule (λ x. x) p) one two in
    sym (plain_right scale r) ∙ sym (side_itself q.right) ∙ ap (λ (x : Rule ℕ). x.right) rules ∙ side_itself p.right ∙ plain_right scale s
