-- What is printed of a grammar is the text of the same grammar, states by their names.
use Rattle.tib_cost.specs.declared.Scale.{Scale}
use Rattle.std.proofs.Common.{◌≡◌, ℕ, ◌<◌, inr, List, [], ◌∷◌, length, get_or, length-append, append-nil, refl, ap, sym, ◌∙◌, subst, arith, suc}
use Rattle.std.specs.Prelude.{map}
use Rattle.std.proofs.lemmas.Option.{get_or_from_slice_get}
use Rattle.tib_tree.specs.Grows.{AddsAll}
use Rattle.tib_lex.specs.Grammar.{Word, name, HasWords}
use Rattle.tib_lex.specs.Lists.{Along, Each}
use Rattle.tib_tree.specs.Trees.{Trees, none, tree, only, preorder, relabel}
use Rattle.tib_grammar.specs.Sides.{Symbol, label, hole, symbol_map}
use Rattle.tib_grammar.specs.GrammarOf.{GrammarOf, named_rule}
use Rattle.tib_grammar.specs.Run.{rule_at}
use Rattle.tib_grammar.specs.StateName.{IsStateName}
use Rattle.tib_grammar.specs.declared.Rule.{Rule}
use Rattle.tib_grammar_file.specs.ByName.{HasText, PrintsBack}
use Rattle.tib_grammar_file.specs.GrammarText.{SpellsRuleOf, GrammarText, AreSmallRules, first_text}
use Rattle.tib_grammar_file.specs.Printable.{IsPrintable}
use Rattle.tib_grammar_file.specs.Printed.{grammar_text}
use Rattle.tib_grammar_file.specs.Read.{ReadsAs}
use Rattle.tib_grammar_file.proofs.Plain.{labels_below}
use Rattle.tib_grammar_file.proofs.PrintedTrees.{Fits, FitsSymbol, fits_of, name_at_is}
use Rattle.tib_grammar_file.proofs.PrintedRules.{FitsRule, Renames, rule_spelled}
use Rattle.tib_grammar_file.proofs.PrintedLines.{names_free, lines_in, rows_in, grammar_lines, rules_tokens}
use Rattle.tib_grammar_file.proofs.PrintedStates.{contains_has, gathered, SameNames, same_names, number_by, renames}
use Rattle.tib_grammar_file.proofs.TextRead.{no_text}
use Rattle.tib_lex.proofs.Members.{has_contains}
use Rattle.tib_lex.proofs.HasWords.{has_first_word, no_words}

-- what holds at each place holds of each
pub each_rule : (P : Rule ℕ → Type 0) (rules : List (Rule ℕ)) → ((n : ℕ) → n < length rules → P (rule_at rules n)) → Each P rules
each_rule P [] f = tt
each_rule P (r ∷ rules) f = (f 0 (omega arith), each_rule P rules (λ n h. f (suc n) (omega arith)))

rules_fit : (scale : Scale) (labels : List (List ℕ)) (g : GrammarOf) → HasText scale labels g → Each (FitsRule scale (length g.names) (length labels)) g.rules
rules_fit scale labels g t = each_rule (FitsRule scale (length g.names) (length labels)) g.rules (λ n h. record {
  left = (t.range n h).0;
  right = fits_of (length g.names) (length labels) (only (rule_at g.rules n).right) (t.leaves n h) (labels_below labels (only (rule_at g.rules n).right) (t.printable n h).right) (t.range n h).1;
  cost = (t.printable n h).cost;
})

-- the same rules, by the names of their states

symbol_same : (names others : List (List ℕ)) (number : ℕ → ℕ) (m : ℕ) (s : Symbol ℕ ℕ) (kids : Trees (Symbol ℕ ℕ)) → Renames names others number → FitsSymbol (length names) m s kids → symbol_map (λ q. get_or names q []) s ≡ symbol_map (λ q. get_or others q []) (symbol_map number s)
symbol_same names others number m (label f) kids r h = refl
symbol_same names others number m (hole q) none r h = ap (λ (t : List ℕ). hole t) (sym (get_or_from_slice_get others (number q) (get_or names q []) [] (r.to q h)))
symbol_same names others number m (hole q) (tree g inner next) r h = absurd h

trees_same : (names others : List (List ℕ)) (number : ℕ → ℕ) (m : ℕ) (ts : Trees (Symbol ℕ ℕ)) → Renames names others number → Fits (length names) m ts → relabel (symbol_map (λ q. get_or names q [])) ts ≡ relabel (symbol_map (λ q. get_or others q [])) (relabel (symbol_map number) ts)
trees_same names others number m none r h = refl
trees_same names others number m (tree s kids rest) r h =
    cc (symbol_same names others number m s kids r h.0, trees_same names others number m kids r h.1, trees_same names others number m rest r h.2)

abbrev rule_with : List ℕ → Symbol ℕ (List ℕ) → Trees (Symbol ℕ (List ℕ)) → ℕ → Rule (List ℕ)
rule_with left symbol kids cost = record { left = left; right = record { label = symbol; kids = kids }; cost = cost }

with_same : (l k : List ℕ) (s t : Symbol ℕ (List ℕ)) (ts us : Trees (Symbol ℕ (List ℕ))) (cost : ℕ) → l ≡ k → s ≡ t → ts ≡ us → rule_with l s ts cost ≡ rule_with k t us cost
with_same l k s t ts us cost a b c =
    ap (λ (x : List ℕ). rule_with x s ts cost) a
    ∙ ap (λ (x : Symbol ℕ (List ℕ)). rule_with k x ts cost) b
    ∙ ap (λ (x : Trees (Symbol ℕ (List ℕ))). rule_with k t x cost) c

rule_same : (scale : Scale) (names others : List (List ℕ)) (number : ℕ → ℕ) (m : ℕ) (r : Rule ℕ) → Renames names others number → FitsRule scale (length names) m r → named_rule (λ q. get_or names q []) r ≡ named_rule (λ q. get_or others q []) (named_rule number r)
rule_same scale names others number m r n f = with_same
    (get_or names r.left [])
    (get_or others (number r.left) [])
    (symbol_map (λ q. get_or names q []) r.right.label)
    (symbol_map (λ q. get_or others q []) (symbol_map number r.right.label))
    (relabel (symbol_map (λ q. get_or names q [])) r.right.kids)
    (relabel (symbol_map (λ q. get_or others q [])) (relabel (symbol_map number) r.right.kids))
    r.cost
    (sym (get_or_from_slice_get others (number r.left) (get_or names r.left []) [] (n.to r.left f.left)))
    (symbol_same names others number m r.right.label r.right.kids n f.right.0)
    (trees_same names others number m r.right.kids n f.right.1)

rules_same : (scale : Scale) (names others : List (List ℕ)) (number : ℕ → ℕ) (m : ℕ) (rules : List (Rule ℕ)) → Renames names others number → Each (FitsRule scale (length names) m) rules → map (named_rule (λ q. get_or names q [])) rules ≡ map (named_rule (λ q. get_or others q [])) (map (named_rule number) rules)
rules_same scale names others number m [] n f = refl
rules_same scale names others number m (r ∷ rules) n f =
    cc (rule_same scale names others number m r n f.0, rules_same scale names others number m rules n f.1)

rules_spelled : (scale : Scale) (names others labels : List (List ℕ)) (number : ℕ → ℕ) (rules : List (Rule ℕ)) → Each IsStateName names → Renames names others number → Each (FitsRule scale (length names) (length labels)) rules → Along (SpellsRuleOf scale others labels) (rows_in scale names labels rules) (map (named_rule number) rules)
rules_spelled scale names others labels number [] e n f = tt
rules_spelled scale names others labels number (r ∷ rules) e n f =
    (rule_spelled scale names others labels number r e n f.0, rules_spelled scale names others labels number rules e n f.1)

-- other numbers leave the number of nodes
count_same : {A B : Type 0} (f : A → B) (ts : Trees A) → length (preorder (relabel f ts)) ≡ length (preorder ts)
count_same f none = refl
count_same f (tree s kids rest) =
    omega (arith, count_same f kids, count_same f rest, length-append (preorder (relabel f kids)) (preorder (relabel f rest)), length-append (preorder kids) (preorder rest))

small_same : (number : ℕ → ℕ) (rules : List (Rule ℕ)) → AreSmallRules rules → AreSmallRules (map (named_rule number) rules)
small_same number [] s = tt
small_same number (r ∷ rules) s = (omega (arith, count_same (symbol_map number) r.right.kids, s.0), small_same number rules s.1)

-- the name of a state is read as one word
pub start_read : (text : List ℕ) → IsStateName text → HasWords (name text ∷ []) text
start_read text is = subst (λ (l : List ℕ). HasWords (name text ∷ []) l) (append-nil text) (has_first_word (name text) [] [] is.is_name refl no_words)

-- the rows of what is printed of a grammar
abbrev pub rows_of : Scale → List (List ℕ) → GrammarOf → List (List Word)
rows_of scale labels g = rows_in scale g.names labels g.rules

abbrev pub start_of : GrammarOf → List ℕ
start_of g = get_or g.names 0 []

-- what is printed is a text of the grammar with other numbers for its states, if they are those of
-- first sight
pub prints_as :
    (scale : Scale) (labels : List (List ℕ)) (g : GrammarOf) (names : List (List ℕ)) (number : ℕ → ℕ) → HasText scale labels g → AddsAll [] (start_of g ∷ map first_text (rows_of scale labels g)) names →
    Renames g.names names number → GrammarText scale labels (grammar_text scale labels g) (record { names = names; rules = map (named_rule number) g.rules })
prints_as scale labels g names number t added ren =
    let fit = rules_fit scale labels g t in
    let start : List ℕ = start_of g in
    let is_start : IsStateName start = name_at_is g.names 0 t.names.each t.start in
    record {
      lines = start ∷ lines_in scale g.names labels g.rules;
      start = start;
      rows = rows_of scale labels g;
      lines_are = grammar_lines scale labels g (names_free g.names t.names.each) (each_rule (IsPrintable scale labels) g.rules t.printable);
      tokens = inr (name start, [], rows_of scale labels g, start_read start is_start, refl, rules_tokens scale g.names labels g.rules t.names.each fit);
      plain = is_start.no_stop;
      states = added;
      rules = rules_spelled scale g.names names labels number g.rules t.names.each ren fit;
    }

pub prints_back : PrintsBack
prints_back scale labels g t =
    let made = gathered [] (start_of g ∷ map first_text (rows_of scale labels g)) in
    let names : List (List ℕ) = made.0 in
    let lefts : Each (λ (r : Rule ℕ). r.left < length g.names) g.rules = each_rule (λ (r : Rule ℕ). r.left < length g.names) g.rules (λ n h. (t.range n h).0) in
    let same : SameNames g.names names = same_names scale labels g names t.start lefts t.lefts made.1 in
    let number : ℕ → ℕ = number_by g.names names in
    let ren : Renames g.names names number = renames g.names names same in
    let h : GrammarOf = record { names = names; rules = map (named_rule number) g.rules } in
    let text : GrammarText scale labels (grammar_text scale labels g) h = prints_as scale labels g names number t made.1 ren in
    let read : AreSmallRules g.rules → ReadsAs scale labels (grammar_text scale labels g) h = λ small. record { text = text; small = small_same number g.rules small } in (
      h,
      record {
        text = text;
        same = record {
          start = same.start;
          names = λ x. (λ c. has_contains names x (same.to x (contains_has g.names x c)), λ c. has_contains g.names x (same.back x (contains_has names x c)));
          rules = rules_same scale g.names names number (length labels) g.rules ren (rules_fit scale labels g t);
        };
        read = read;
        no_fault = λ small fault first. no_text scale (grammar_text scale labels g) fault first labels h (read small);
      },
    )
