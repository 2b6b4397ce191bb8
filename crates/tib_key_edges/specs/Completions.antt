-- The choices that translate several sides, as a search finds them that takes the first side first
-- and tries each rule.
use Rattle.std.specs.Prelude.{◌≡◌, ℕ, List, [], ◌∷◌, ◌++◌, map, length, if◌then◌else◌, Option, None, Some}
use Rattle.std.proofs.Common.{zero, suc}
use Rattle.tib_tree.specs.Trees.{Trees, none, tree, only, count, join, first_trees, other_trees, preorder_of}
use Rattle.tib_grammar.specs.Sides.{Symbol, label, hole, Side as SideFor, HolesAreLeaves}
use Rattle.tib_transducer.specs.Rules.{transducer_rule, states_in, variables_in}
use Rattle.tib_transducer.specs.Run.{pick}
use Rattle.tib_transducer.specs.Range.{AreShaped}
use Rattle.tib_key_edges.specs.Translations.{AreTranslations, translated, choice_cost}
use Rattle.tib_key_edges.specs.Flat.{substituted}
use Rattle.tib_key_edges.specs.Choices.{all_joins, choices_at, choices_of, reads_label}
use Rattle.tib_transducer.specs.declared.Pair.{Pair}
use Rattle.tib_transducer.specs.declared.TransducerRule.{TransducerRule}

-- the choices that translate the sides by the states, those of the first side before all others
abbrev pub completions : {P : Type 0} → List (TransducerRule ℕ) → Trees (Symbol ℕ P) → List ℕ → List (Trees (Option ℕ))
completions two none [] = none ∷ []
completions two none (p ∷ ps) = []
completions two (tree s kids rest) [] = []
completions two (tree s kids rest) (p ∷ ps) = all_joins (choices_at two (tree s kids rest) 0 p) (completions two rest ps)

-- the rule m over the first k choices, before the others
abbrev pub under : ℕ → ℕ → Trees (Option ℕ) → Trees (Option ℕ)
under m k c = tree (Some m) (first_trees k c) (other_trees k c)

-- the choices at a label f over some sides, and at the sides after it, with the first rules: those
-- of the pairs of each rule, and of the sides after it
abbrev pub rule_by_rule : {P : Type 0} → List (TransducerRule ℕ) → ℕ → ℕ → Trees (Symbol ℕ P) → Trees (Symbol ℕ P) → List ℕ → ℕ → List (Trees (Option ℕ))
rule_by_rule two p f kids rest ps zero = []
rule_by_rule two p f kids rest ps (suc m) =
    rule_by_rule two p f kids rest ps m
    ++ (if reads_label p f (count kids) (transducer_rule two m)
    then map (under m (length (states_in (transducer_rule two m).right)))
    (completions two (join (pick kids (variables_in (transducer_rule two m).right)) rest) (states_in (transducer_rule two m).right ++ ps))
    else [])

-- what the search does at a pair and at a label, and what a rule costs
pub record SearchGoes (product : ℕ → ℕ → ℕ) (two : List (TransducerRule ℕ)) : Type 0 where
  pub one_side : (p : ℕ) (s : SideFor ℕ (Pair ℕ)) → completions two (only s) (p ∷ []) ≡ choices_of two p s
  pub at_pair :
      (x : Pair ℕ) (kids rest : Trees (Symbol ℕ (Pair ℕ))) (p : ℕ) (ps : List ℕ) →
      completions two (tree (hole x) kids rest) (p ∷ ps) ≡ map (tree None none) (completions two rest ps)
  pub at_label :
      (f : ℕ) (kids rest : Trees (Symbol ℕ (Pair ℕ))) (p : ℕ) (ps : List ℕ) →
      completions two (tree (label f) kids rest) (p ∷ ps) ≡ rule_by_rule two p f kids rest ps (length two)
  pub costs : (m k : ℕ) (c : Trees (Option ℕ)) → choice_cost product two (under m k c) ≡ product (transducer_rule two m).cost (choice_cost product two c)

-- the search finds all choices in their order
abbrev pub SearchIsWhole : (ℕ → ℕ → ℕ) → Type 0
SearchIsWhole product = (two : List (TransducerRule ℕ)) → AreShaped two → SearchGoes product two

-- Where the first hole of a preorder stands for a label, the search puts the preorder of the rule's
-- right-hand side in its place. It then goes on with the sides of the rule's pairs before the
-- others.
abbrev pub SearchPutsOut : Type 0
SearchPutsOut =
    (two : List (TransducerRule ℕ)) (p f m n : ℕ) (ps : List ℕ) (kids rest : Trees (Symbol ℕ (Pair ℕ))) (c : Trees (Option ℕ)) (z : Pair ℕ) (xs : List (Symbol ℕ (Pair ℕ) × ℕ)) →
    HolesAreLeaves (only (transducer_rule two m).right) →
    AreTranslations two (p ∷ ps) (tree (label f) kids rest) (under m (length (states_in (transducer_rule two m).right)) c) →
    substituted ((hole z, n) ∷ xs) (translated two (p ∷ ps) (tree (label f) kids rest) (under m (length (states_in (transducer_rule two m).right)) c))
    ≡ substituted (preorder_of (transducer_rule two m).right ++ xs)
    (translated two (states_in (transducer_rule two m).right ++ ps) (join (pick kids (variables_in (transducer_rule two m).right)) rest) c)
