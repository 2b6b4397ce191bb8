-- Nondeleting rules by the items of their left sides and the words of their right sides.
use Rattle.std.specs.Prelude.{◌≡◌, ℕ, List, [], ◌∷◌}
use Rattle.std.proofs.Common.{sym, subst}
use Rattle.tib_lex.specs.Lists.{Has, Each, Distinct}
use Rattle.tib_tree.specs.Trees.{preorder_of}
use Rattle.tib_grammar.specs.Items.{pairs_of as preorder_pairs, holes_in}
use Rattle.tib_grammar.specs.declared.Item.{Item}
use Rattle.tib_grammar.proofs.Holes.{holes_of_items}
use Rattle.tib_transducer.specs.Rules.{variables_of}
use Rattle.tib_transducer.specs.declared.Variable.{Variable}
use Rattle.tib_strings.specs.Rules.{variables_in}
use Rattle.tib_strings.specs.Range.{IsLinear, IsNondeleting}
use Rattle.tib_strings.specs.Faults.{AreAmong}
use Rattle.tib_strings.specs.declared.Word.{Word}
use Rattle.tib_strings.specs.declared.StringRule.{StringRule}

each_among : (numbers : List ℕ) (xs : List Variable) → AreAmong numbers xs → Each (λ x. Has numbers x.number) xs
each_among numbers [] a = tt
each_among numbers (x ∷ xs) a = (a.0, each_among numbers xs a.1)

among_each : (numbers : List ℕ) (xs : List Variable) → Each (λ x. Has numbers x.number) xs → AreAmong numbers xs
among_each numbers [] a = tt
among_each numbers (x ∷ xs) a = (a.0, among_each numbers xs a.1)

module _ (left : List (Item Variable)) (words : List (Word ℕ)) (r : StringRule ℕ) (ls : preorder_pairs left ≡ preorder_of r.left) (rs : words ≡ r.right) where
  pub linear_from : Distinct (variables_in words) → IsLinear r
  linear_from d = subst (λ (ws : List (Word ℕ)). Distinct (variables_in ws)) rs d

  pub nondeleting_from : AreAmong (variables_in words) (holes_in left) → IsNondeleting r
  nondeleting_from a =
      each_among (variables_in r.right) (variables_of r.left)
      (subst (AreAmong (variables_in r.right)) (sym (holes_of_items left r.left ls)) (subst (λ (ws : List (Word ℕ)). AreAmong (variables_in ws) (holes_in left)) rs a))

  pub among_from : IsNondeleting r → AreAmong (variables_in words) (holes_in left)
  among_from n =
      subst (λ (ws : List (Word ℕ)). AreAmong (variables_in ws) (holes_in left)) (sym rs)
      (subst (AreAmong (variables_in r.right)) (holes_of_items left r.left ls) (among_each (variables_in r.right) (variables_of r.left) n))
