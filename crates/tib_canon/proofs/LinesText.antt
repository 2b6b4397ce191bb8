-- The text of sorted lines.
use Rattle.tib_cost.specs.declared.Scale.{Scale}
use Rattle.std.proofs.Common.{◌≡◌, ℕ, ◌+◌, ◌<◌, List, [], ◌∷◌, ◌++◌, length, take, map, get_or, refl, ap, sym, ◌∙◌, append-nil, append_assoc}
use Rattle.std.proofs.lemmas.List.{take_more}
use Rattle.tib_lex.specs.Lists.{Each}
use Rattle.tib_grammar.specs.GrammarOf.{GrammarOf}
use Rattle.tib_grammar.specs.Run.{rule_at}
use Rattle.tib_grammar.specs.declared.Rule.{Rule}
use Rattle.tib_grammar_file.specs.Printed.{rule_text, rules_text, grammar_text}
use Rattle.tib_canon.specs.Lines.{IsLineAt, lines_text}
use Rattle.tib_canon.specs.declared.lines.Line.{Line}
use Rattle.tib_canon.proofs.Telling.{line_fed}

lines-append : (xs ys : List Line) → lines_text (xs ++ ys) ≡ lines_text xs ++ lines_text ys
lines-append [] ys = refl
lines-append (x ∷ xs) ys =
    ap (λ (t : List ℕ). (x.text.now ++ 10 ∷ []) ++ t) (lines-append xs ys) ∙ sym (append_assoc (x.text.now ++ 10 ∷ []) (lines_text xs) (lines_text ys))

-- one more line
pub lines_more :
    (lines : List Line) (i : ℕ) (d : Line) (front old new : List ℕ) → i < length lines → old ≡ front ++ lines_text (take i lines) →
    new ≡ old ++ ((get_or lines i d).text.now ++ 10 ∷ []) → new ≡ front ++ lines_text (take (i + 1) lines)
lines_more lines i d front old new h is e =
    let piece : List ℕ = (get_or lines i d).text.now ++ 10 ∷ [] in
    e ∙ ap (λ (t : List ℕ). t ++ piece) is ∙ append_assoc front (lines_text (take i lines)) piece
    ∙ ap (λ (t : List ℕ). front ++ (lines_text (take i lines) ++ t)) (sym (append-nil piece))
    ∙ ap (λ (t : List ℕ). front ++ t) (sym (lines-append (take i lines) (get_or lines i d ∷ [])))
    ∙ ap (λ (ls : List Line). front ++ lines_text ls) (sym (take_more lines i d h))

-- lines of rules are the text of these rules
lines_rules :
    (scale : Scale) (names labels : List (List ℕ)) (rules : List (Rule ℕ)) (lines : List Line) → Each (IsLineAt scale names labels rules) lines →
    lines_text lines ≡ rules_text scale names labels (map (λ (l : Line). rule_at rules l.position) lines)
lines_rules scale names labels rules [] e = refl
lines_rules scale names labels rules (l ∷ lines) e =
    ap (λ (t : List ℕ). (t ++ 10 ∷ []) ++ lines_text lines) e.0.text
    ∙ ap (λ (t : List ℕ). t ++ lines_text lines) (sym (line_fed scale names labels (rule_at rules l.position)))
    ∙ ap (λ (t : List ℕ). rule_text scale names labels (rule_at rules l.position) ++ t) (lines_rules scale names labels rules lines e.1)

-- the name of the start and the lines of its rules are the text of a grammar
pub lines_grammar :
    (scale : Scale) (names labels : List (List ℕ)) (rules kept : List (Rule ℕ)) (start text : List ℕ) (lines : List Line) (h : GrammarOf) → Each (IsLineAt scale names labels rules) lines →
    kept ≡ map (λ (l : Line). rule_at rules l.position) lines → h.names ≡ names → h.rules ≡ kept → start ≡ get_or names 0 [] →
    text ≡ (start ++ 10 ∷ []) ++ lines_text lines → text ≡ grammar_text scale labels h
lines_grammar scale names labels rules kept start text lines h each from named ruled first is =
    is ∙ ap (λ (s : List ℕ). (s ++ 10 ∷ []) ++ lines_text lines) first
    ∙ ap (λ (t : List ℕ). (get_or names 0 [] ++ 10 ∷ []) ++ t) (lines_rules scale names labels rules lines each ∙ ap (rules_text scale names labels) (sym (ruled ∙ from)))
    ∙ ap (λ (ns : List (List ℕ)). (get_or ns 0 [] ++ 10 ∷ []) ++ rules_text scale ns labels h.rules) (sym named)
