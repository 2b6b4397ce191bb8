-- What each rule of a file has by what its line spells, whatever the right sides are.
use Rattle.tib_cost.specs.declared.Scale.{Scale}
use Rattle.std.proofs.Common.{ℕ, inl, inr, List, [], ◌∷◌, sym, subst}
use Rattle.tib_lex.specs.Grammar.{Word}
use Rattle.tib_lex.specs.Lists.{Each}
use Rattle.tib_tree.specs.Written.{Item}
use Rattle.tib_transducer_file.specs.Rule.{RuleLine}
use Rattle.tib_transducer_file.specs.TransducerText.{SpellsLineBy, HaveRulesBy, HaveStartBy}

module _ {Right : List Word → List Item → Type 0} (P : List ℕ → Type 0) (Q : RuleLine → Type 0) (scale : Scale) (one : (line : List ℕ) (rule : RuleLine) → P line → SpellsLineBy Right scale line rule → Q rule) where
  rules_have : (lines : List (List ℕ)) (rules : List RuleLine) → Each P lines → HaveRulesBy Right scale lines rules → Each Q rules
  rules_have [] rules p e = subst (λ (xs : List RuleLine). Each Q xs) (sym e) tt
  rules_have (line ∷ lines) rules p (inl (blank, more)) = rules_have lines rules p.1 more
  rules_have (line ∷ lines) rules p (inr (rule, others, e, spells, more)) =
      subst (λ (xs : List RuleLine). Each Q xs) (sym e) (one line rule p.0 spells, rules_have lines others p.1 more)

  -- those of a file, of whose lines each has P
  pub file_has : (lines : List (List ℕ)) (start : List ℕ) (rules : List RuleLine) → Each P lines → HaveStartBy Right scale lines start rules → Each Q rules
  file_has [] start rules p h = absurd h
  file_has (line ∷ lines) start rules p (inl (blank, more)) = file_has lines start rules p.1 more
  file_has (line ∷ lines) start rules p (inr (has, plain, more)) = rules_have lines rules p.1 more

-- each line has what holds of all
pub each_line_has : (lines : List (List ℕ)) → Each (λ line. Unit {0}) lines
each_line_has [] = tt
each_line_has (line ∷ lines) = (tt, each_line_has lines)
