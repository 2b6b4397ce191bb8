-- The lines of derivations, printed from the rules of a grammar, are those of the transducer.
use Rattle.tib_cost.specs.declared.Scale.{Scale}
use Rattle.std.specs.Prelude.{◌≡◌, ℕ, ◌+◌, ◌<◌, Bool, true, false, ◌&&◌, not, List, [], ◌∷◌, ◌++◌, length, decimal, slice_get, Some, refl}
use Rattle.std.specs.List.{list_all}
use Rattle.std.specs.Str.{bytes_eq}
use Rattle.std.proofs.Common.{zero, suc, arith, ap, sym, ◌∙◌, subst, get_or, append-nil, append_assoc}
use Rattle.std.proofs.lemmas.Option.{slice_get-get_or, get_or_from_slice_get}
use Rattle.tib_lex.specs.Bytes.{is_name_byte}
use Rattle.tib_lex.specs.Grammar.{is_name}
use Rattle.tib_lex.proofs.Places.{any_default}
use Rattle.tib_tree.specs.Grows.{Grows}
use Rattle.tib_tree.specs.Trees.{Trees, none, tree, only, count}
use Rattle.tib_grammar.specs.Run.{rule_at}
use Rattle.tib_grammar.specs.Sides.{Symbol, label, hole, Side, holes, holes_of, leaves}
use Rattle.tib_grammar.specs.declared.Rule.{Rule}
use Rattle.tib_grammar.proofs.Sides.{count-leaves}
use Rattle.tib_grammar_file.specs.Rule.{has_dot}
use Rattle.tib_grammar_file.specs.Weight.{is_digit}
use Rattle.tib_grammar_file.specs.Printed.{LabelsBelow, AreLabelled}
use Rattle.tib_grammar_file.specs.TreeText.{space, opening, closing, trees_text}
use Rattle.tib_grammar_file.proofs.PrintedRules.{all_changes}
use Rattle.tib_transducer.specs.Rules.{transducer_rule, no_rule}
use Rattle.tib_transducer.specs.declared.Variable.{Variable}
use Rattle.tib_transducer.specs.declared.Pair.{Pair}
use Rattle.tib_transducer.specs.declared.TransducerRule.{TransducerRule}
use Rattle.tib_transducer_file.specs.Printed.{is_variable, is_plain, label_text, variable_text, pair_text, symbol_text, side_text, end_text}
use Rattle.tib_transducer_file.specs.Printed.{rule_text as line_of}
use Rattle.tib_transducer_file.proofs.Plain.{no_variable}
use Rattle.tib_rulewise.specs.Placed.{placed, placed_side, variables_from}
use Rattle.tib_rulewise.specs.Derivations.{rule_text, read_from, derivation_rule, AreDerivationRules}
use Rattle.tib_rulewise.proofs.Placed.{placed-only, length-variables}
use Rattle.tib_canon.proofs.StateNames.{digits_no_stop}
use Rattle.tib_operations.proofs.DemoText.{all_digits, digit_in_name}
use Rattle.tib_texts.specs.RuleLines.{arrow_line, derivation_line}

-- the label of a rule reads as one without quotes

name_if : (a b : Bool) → a ≡ true → b ≡ false → (a && not b) ≡ true
name_if a b e f = rw (e, f) refl

plain_if : (a b c : Bool) → a ≡ true → b ≡ false → c ≡ false → (a && (not b && not c)) ≡ true
plain_if a b c e f g = rw (e, f, g) refl

root_name : (n : ℕ) → is_name (rule_text n) ≡ true
root_name n =
    name_if (list_all is_name_byte (rule_text n)) (bytes_eq (rule_text n) (45 ∷ 62 ∷ []))
    (all_changes is_digit is_name_byte (decimal n) digit_in_name (all_digits n)) refl

root_plain : (n : ℕ) → is_plain (rule_text n) ≡ true
root_plain n = plain_if (is_name (rule_text n)) (has_dot (rule_text n)) (is_variable (rule_text n)) (root_name n) (digits_no_stop (decimal n) (all_digits n)) (sym (no_variable (rule_text n) 0 refl refl))

root_text : (n : ℕ) → label_text (rule_text n) ≡ rule_text n
root_text n = rw (root_plain n) refl

module _ (names labels all : List (List ℕ)) (grows : Grows labels all) where
  kept : (f : ℕ) → f < length labels → get_or labels f [] ≡ get_or all f []
  kept f low = sym (get_or_from_slice_get all f (get_or labels f []) [] (grows.kept f (get_or labels f []) (slice_get-get_or labels f [] low)))

  -- what is printed of an output is the same over a table that has grown
  trees_same :
      (n k : ℕ) (ts : Trees (Symbol ℕ ℕ)) → LabelsBelow (length labels) ts →
      trees_text (symbol_text (pair_text names labels) labels) (placed read_from n ts) k ≡ trees_text (symbol_text (pair_text names all) all) (placed read_from n ts) k
  trees_same n k none h = refl
  trees_same n k (tree (label f) kids rest) h =
      let below : Trees (Symbol ℕ (Pair ℕ)) = placed read_from n kids in
      let beside : Trees (Symbol ℕ (Pair ℕ)) = placed read_from (n + length (holes kids)) rest in
      ap (λ (t : List ℕ). space k ++ (label_text t ++ (opening (count below) ++ (trees_text (symbol_text (pair_text names labels) labels) below 0 ++ (closing (count below) ++ trees_text (symbol_text (pair_text names labels) labels) beside (suc k)))))) (kept f h.0)
      ∙ ap (λ (t : List ℕ). space k ++ (label_text (get_or all f []) ++ (opening (count below) ++ (t ++ (closing (count below) ++ trees_text (symbol_text (pair_text names labels) labels) beside (suc k)))))) (trees_same n 0 kids h.1)
      ∙ ap (λ (t : List ℕ). space k ++ (label_text (get_or all f []) ++ (opening (count below) ++ (trees_text (symbol_text (pair_text names all) all) below 0 ++ (closing (count below) ++ t))))) (trees_same (n + length (holes kids)) (suc k) rest h.2)
  trees_same n k (tree (hole q) kids rest) h = ap (λ (t : List ℕ). space k ++ (pair_text names labels (read_from n q) ++ t)) (trees_same (suc n) (suc k) rest h)

  side_same : (s : Side ℕ ℕ) → LabelsBelow (length labels) (only s) → side_text (pair_text names labels) labels (placed_side read_from s) ≡ side_text (pair_text names all) all (placed_side read_from s)
  side_same s h =
      ap (λ ts. trees_text (symbol_text (pair_text names labels) labels) ts 0) (placed-only read_from s)
      ∙ trees_same 0 0 (only s) h
      ∙ sym (ap (λ ts. trees_text (symbol_text (pair_text names all) all) ts 0) (placed-only read_from s))

-- so is what is printed of variables
variables_same :
    (names labels : List (List ℕ)) (n many k : ℕ) →
    trees_text (symbol_text (variable_text [] []) []) (leaves (variables_from n many)) k ≡ trees_text (symbol_text (variable_text names labels) labels) (leaves (variables_from n many)) k
variables_same names labels n zero k = refl
variables_same names labels n (suc many) k = ap (λ (t : List ℕ). space k ++ ((120 ∷ (decimal n ++ 58 ∷ [])) ++ t)) (variables_same names labels (suc n) many (suc k))

shape :
    (root text open₁ open₂ below₁ below₂ close₁ close₂ rest₁ rest₂ : List ℕ) → root ≡ text → open₁ ≡ open₂ → below₁ ≡ below₂ → close₁ ≡ close₂ → rest₁ ≡ rest₂ →
    root ++ ((open₁ ++ (below₁ ++ close₁)) ++ rest₁) ≡ (text ++ (open₂ ++ (below₂ ++ (close₂ ++ [])))) ++ rest₂
shape root text open₁ open₂ below₁ below₂ close₁ close₂ rest₁ rest₂ a b c d e =
    ap (λ (t : List ℕ). t ++ ((open₁ ++ (below₁ ++ close₁)) ++ rest₁)) a
    ∙ ap (λ (t : List ℕ). text ++ ((t ++ (below₁ ++ close₁)) ++ rest₁)) b
    ∙ ap (λ (t : List ℕ). text ++ ((open₂ ++ (t ++ close₁)) ++ rest₁)) c
    ∙ ap (λ (t : List ℕ). text ++ ((open₂ ++ (below₂ ++ t)) ++ rest₁)) d
    ∙ ap (λ (t : List ℕ). text ++ ((open₂ ++ (below₂ ++ close₂)) ++ t)) e
    ∙ sym (append_assoc text (open₂ ++ (below₂ ++ (close₂ ++ []))) rest₂ ∙ ap (λ (t : List ℕ). text ++ ((open₂ ++ (below₂ ++ t)) ++ rest₂)) (append-nil close₂))

-- the line is that of the rule of the derivations, over each table that has its label
line_same :
    (scale : Scale) (names labels all : List (List ℕ)) → Grows labels all → (root number : ℕ) (r : Rule ℕ) → slice_get all root ≡ Some (rule_text number) → LabelsBelow (length labels) (only r.right) →
    derivation_line scale names labels number r ≡ line_of scale names all (derivation_rule root r)
line_same scale names labels all grows root number r named below =
    let many : ℕ = length (holes_of r.right) in
    let vs : List Variable = variables_from 0 many in
    let long : many ≡ count {A = Symbol ℕ Variable} (leaves vs) = sym (count-leaves ℕ vs ∙ length-variables 0 many) in
    ap (λ (t : List ℕ). get_or names r.left [] ++ (46 ∷ t))
    (shape (rule_text number) (label_text (get_or all root [])) (opening many) (opening (count {A = Symbol ℕ Variable} (leaves vs)))
    (trees_text (symbol_text (variable_text [] []) []) (leaves vs) 0) (trees_text (symbol_text (variable_text names all) all) (leaves vs) 0) (closing many) (closing (count {A = Symbol ℕ Variable} (leaves vs)))
    (arrow_line scale names labels r) (arrow_line scale names all r) (sym (ap label_text (get_or_from_slice_get all root (rule_text number) [] named) ∙ root_text number)) (ap opening long)
    (variables_same names all 0 many 0) (ap closing long)
    (ap (λ (t : List ℕ). 32 ∷ (45 ∷ (62 ∷ (32 ∷ []))) ++ (t ++ end_text scale r.cost)) (side_same names labels all grows r.right below)))

-- the line of a rule that has a number is that of the transducer's rule at its place
pub line_at :
    (scale : Scale) (names labels all : List (List ℕ)) (rules : List (Rule ℕ)) (derived : List (TransducerRule ℕ)) → Grows labels all → AreDerivationRules all rules derived → AreLabelled (length labels) rules →
    (k number : ℕ) (r : Rule ℕ) → k < length rules → r ≡ rule_at rules k → number ≡ k + 1 → derivation_line scale names labels number r ≡ line_of scale names all (transducer_rule derived k)
line_at scale names labels all rules derived grows made below k number r low at count =
    let m = made.each k low in
    let same : suc k ≡ number = omega (arith, count) in
    line_same scale names labels all grows m.root number r (subst (λ n. slice_get all m.root ≡ Some (rule_text n)) same m.named) (subst (λ (x : Rule ℕ). LabelsBelow (length labels) (only x.right)) (sym at) (below k low))
    ∙ ap (λ (x : Rule ℕ). line_of scale names all (derivation_rule m.root x)) at
    ∙ ap (line_of scale names all) (sym m.is)

pub rule_in : (rules : List (Rule ℕ)) (derived : List (TransducerRule ℕ)) (all : List (List ℕ)) → AreDerivationRules all rules derived → (k : ℕ) → k < length rules → transducer_rule derived k ≡ get_or derived k (transducer_rule derived k)
rule_in rules derived all made k low = any_default derived k no_rule (transducer_rule derived k) (omega (arith, low, made.many))
