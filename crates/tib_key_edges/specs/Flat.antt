-- Translations as preorders.
use Rattle.std.specs.Prelude.{◌≡◌, ℕ, List, [], ◌∷◌, ◌++◌, Option, Some}
use Rattle.tib_tree.specs.Trees.{Trees, none, tree, only, count, preorder, preorder_of}
use Rattle.tib_grammar.specs.Sides.{Symbol, label, hole, HolesAreLeaves}
use Rattle.tib_transducer.specs.Rules.{transducer_rule, states_in, variables_in}
use Rattle.tib_transducer.specs.Run.{pick}
use Rattle.tib_key_edges.specs.Translations.{AreTranslations, translated}
use Rattle.tib_transducer.specs.declared.Pair.{Pair}
use Rattle.tib_transducer.specs.declared.TransducerRule.{TransducerRule}

-- a preorder with the preorders of sides in place of its holes
abbrev pub substituted : {P Q : Type 0} → List (Symbol ℕ P × ℕ) → Trees (Symbol ℕ Q) → List (Symbol ℕ Q × ℕ)
substituted [] us = []
substituted ((label f, n) ∷ xs) us = (label f, n) ∷ substituted xs us
substituted ((hole p, n) ∷ xs) none = []
substituted ((hole p, n) ∷ xs) (tree s below us) = (s, count below) ∷ (preorder below ++ substituted xs us)

-- The translation by a rule is the preorder of its right-hand side with the translations below in
-- place of its pairs.
abbrev pub TranslatesInPreorder : Type 0
TranslatesInPreorder =
    (two : List (TransducerRule ℕ)) (p f n : ℕ) (kids : Trees (Symbol ℕ (Pair ℕ))) (below : Trees (Option ℕ)) → HolesAreLeaves (only (transducer_rule two n).right) →
    AreTranslations two (p ∷ []) (tree (label f) kids none) (tree (Some n) below none) →
    preorder (translated two (p ∷ []) (tree (label f) kids none) (tree (Some n) below none))
    ≡ substituted (preorder_of (transducer_rule two n).right) (translated two (states_in (transducer_rule two n).right) (pick kids (variables_in (transducer_rule two n).right)) below)

-- nothing is below a hole of a translation
abbrev pub TranslationsEndInHoles : Type 0
TranslationsEndInHoles =
    (two : List (TransducerRule ℕ)) (ps : List ℕ) (sides : Trees (Symbol ℕ (Pair ℕ))) (choice : Trees (Option ℕ)) → HolesAreLeaves (translated two ps sides choice)
