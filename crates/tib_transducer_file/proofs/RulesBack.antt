-- Each line that is printed of a rule spells the rule.
use Rattle.tib_cost.specs.declared.Scale.{Scale}
use Rattle.std.proofs.Common.{◌≡◌, ℕ, List, [], ◌∷◌, refl, ap, ◌∙◌, subst}
use Rattle.std.specs.Prelude.{map}
use Rattle.tib_lex.specs.Lists.{Each}
use Rattle.tib_tree.specs.Trees.{Trees, none, tree, relabel}
use Rattle.tib_grammar.specs.Sides.{Symbol, label as symbol_label, hole, symbol_map}
use Rattle.tib_grammar.specs.StateName.{IsStateName}
use Rattle.tib_grammar_file.proofs.PrintedSorted.{names_own}
use Rattle.tib_transducer.specs.declared.Pair.{Pair}
use Rattle.tib_transducer.specs.declared.TransducerRule.{TransducerRule}
use Rattle.tib_transducer.specs.NamedPairs.{named_pair}
use Rattle.tib_transducer_file.specs.Rule.{RuleLine}
use Rattle.tib_transducer_file.specs.TransducerText.{SpellsLine}
use Rattle.tib_transducer_file.specs.Value.{IsRule}
use Rattle.tib_transducer_file.specs.ByName.{named_rule, line_text, PrintsRules}
use Rattle.tib_transducer_file.proofs.Fitting.{IsGood, are_good, LineOf, rule_line}

-- rules whose states keep their numbers

symbol_own : (s : Symbol ℕ (Pair ℕ)) → symbol_map (named_pair (λ (q : ℕ). q)) s ≡ s
symbol_own (symbol_label f) = refl
symbol_own (hole x) = refl

trees_own : (ts : Trees (Symbol ℕ (Pair ℕ))) → relabel (symbol_map (named_pair (λ (q : ℕ). q))) ts ≡ ts
trees_own none = refl
trees_own (tree s kids rest) = cc (symbol_own s, trees_own kids, trees_own rest)

rule_own : (r : TransducerRule ℕ) → named_rule (λ (q : ℕ). q) r ≡ r
rule_own r =
    ap (λ (s : Symbol ℕ (Pair ℕ)). record { state = r.state; left = r.left; right = record { label = s; kids = relabel (symbol_map (named_pair (λ (q : ℕ). q))) r.right.kids }; cost = r.cost }) (symbol_own r.right.label)
    ∙ ap (λ (ts : Trees (Symbol ℕ (Pair ℕ))). record { state = r.state; left = r.left; right = record { label = r.right.label; kids = ts }; cost = r.cost }) (trees_own r.right.kids)

pub rules_own : (rules : List (TransducerRule ℕ)) → map (named_rule (λ (q : ℕ). q)) rules ≡ rules
rules_own [] = refl
rules_own (r ∷ rules) = ap (λ (x : TransducerRule ℕ). x ∷ map (named_rule (λ (q : ℕ). q)) rules) (rule_own r) ∙ ap (λ (rs : List (TransducerRule ℕ)). r ∷ rs) (rules_own rules)

rules_back : (scale : Scale) (names labels : List (List ℕ)) (rules : List (TransducerRule ℕ)) → Each IsStateName names → Each (IsGood scale names labels) rules →
    Each (λ r. (line : RuleLine) × SpellsLine scale (line_text scale names labels r) line × IsRule names labels r line) rules
rules_back scale names labels [] e g = tt
rules_back scale names labels (r ∷ rules) e g =
    let own : LineOf scale names labels r = rule_line scale names labels r e g.0 in (
      (own.line, own.spells, subst (λ (x : TransducerRule ℕ). IsRule names labels x own.line) (rule_own r) (own.means names (λ q. q) (names_own names))),
      rules_back scale names labels rules e g.1,
    )

pub prints_rules : PrintsRules
prints_rules scale labels t h = rules_back scale t.names labels t.rules h.names.each (are_good scale labels t h)
