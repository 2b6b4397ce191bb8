-- Trimming keeps labels in the table.
use Rattle.std.proofs.Common.{◌≡◌, ℕ, ◌<◌, List, length, get_or, ap, sym, ◌∙◌, subst, arith}
use Rattle.std.proofs.lemmas.List.{length-map, get_or-map}
use Rattle.tib_lex.specs.Lists.{Has}
use Rattle.tib_tree.specs.Trees.{Trees, none, tree, only, relabel}
use Rattle.tib_grammar.specs.Sides.{Symbol, label, hole, symbol_map}
use Rattle.tib_grammar.specs.GrammarOf.{GrammarOf, named_rule}
use Rattle.tib_grammar.specs.Run.{rule_at, no_rule}
use Rattle.tib_grammar.specs.declared.Rule.{Rule}
use Rattle.tib_grammar_file.specs.Printed.{LabelsBelow, AreLabelled}
use Rattle.tib_inside.specs.Trimmed.{IsTrimmed}
use Rattle.tib_lex.proofs.Members.{has_at, at_has}

labels_back : (n : ℕ) (f : ℕ → ℕ) (ts : Trees (Symbol ℕ ℕ)) → LabelsBelow n (relabel (symbol_map f) ts) → LabelsBelow n ts
labels_back n f none h = tt
labels_back n f (tree (label g) kids rest) h = (h.0, labels_back n f kids h.1, labels_back n f rest h.2)
labels_back n f (tree (hole q) kids rest) h = labels_back n f rest h

-- the labels of the rules that are kept are in the table
pub labelled_still : (product : ℕ → ℕ → ℕ) (n : ℕ) (g h : GrammarOf) → IsTrimmed product g h → AreLabelled n g.rules → AreLabelled n h.rules
labelled_still product n g h t labelled m k =
    let f : ℕ → ℕ = λ i. get_or t.states i 0 in
    let long : length h.rules ≡ length t.rules = sym (length-map h.rules (named_rule f)) ∙ ap length t.named ∙ length-map t.rules (rule_at g.rules) in
    let below : m < length t.rules = omega (arith, long) in
    let position : ℕ = get_or t.rules m 0 in
    let is : named_rule f (rule_at h.rules m) ≡ rule_at g.rules position =
    sym (get_or-map (named_rule f) h.rules m no_rule no_rule k) ∙ ap (λ (rs : List (Rule ℕ)). get_or rs m no_rule) t.named ∙ get_or-map (rule_at g.rules) t.rules m 0 no_rule below in
    let live = (t.are_rules position).0 (has_at t.rules m 0 below) in
    let there : LabelsBelow n (only (rule_at g.rules position).right) = labelled position live.0.below in
    labels_back n f (only (rule_at h.rules m).right) (subst (λ (r : Rule ℕ). LabelsBelow n (only r.right)) (sym is) there)

-- and so are those of rules that are among others
pub labelled_kept : (n : ℕ) (rules others : List (Rule ℕ)) → ((r : Rule ℕ) → Has others r → Has rules r) → AreLabelled n rules → AreLabelled n others
labelled_kept n rules others kept labelled m h =
    let a = at_has rules (rule_at others m) no_rule (kept (rule_at others m) (has_at others m no_rule h)) in
    subst (λ (r : Rule ℕ). LabelsBelow n (only r.right)) a.2 (labelled a.0 a.1)
