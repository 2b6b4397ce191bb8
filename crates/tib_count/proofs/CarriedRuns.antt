-- Runs of some rules as runs of others that have their sides, and the run of one state among some.
use Rattle.std.specs.Prelude.{◌≡◌, ℕ, ◌<◌, List, [], ◌∷◌, length}
use Rattle.std.proofs.Common.{sym, ◌∙◌, ap, subst, inl, inr}
use Rattle.tib_lex.specs.Lists.{Has}
use Rattle.tib_tree.specs.Trees.{Trees, none, tree}
use Rattle.tib_grammar.specs.Run.{rule_at, AreRuns}
use Rattle.tib_grammar.specs.Sides.{holes_of}
use Rattle.tib_grammar.specs.declared.Rule.{Rule}
use Rattle.tib_count.specs.Counted.{IsRunFrom, HaveRuns}

-- each of some states with runs has a run
pub run_of : (rules : List (Rule ℕ)) (qs : List ℕ) (runs : Trees ℕ) (q : ℕ) → AreRuns rules qs runs → Has qs q → (run : Trees ℕ) × IsRunFrom rules q run
run_of rules [] runs q a h = absurd h
run_of rules (p ∷ qs) none q a h = absurd a
run_of rules (p ∷ qs) (tree n inner rest) q a h = elim h [
  | inl e ↦ (tree n inner none, (a.0, a.1 ∙ e, a.2, tt))
  | inr k ↦ run_of rules qs rest q a.3 k
]

-- a rule of others with the sides of rule n
pub record HasSidesOf (one two : List (Rule ℕ)) (n : ℕ) : Type 0 where
  pub rule : ℕ
  pub below : rule < length two
  pub left : (rule_at two rule).left ≡ (rule_at one n).left
  pub right : (rule_at two rule).right ≡ (rule_at one n).right

module _ (one two : List (Rule ℕ)) (sides : (n : ℕ) → n < length one → HasSidesOf one two n) where
  -- each run of the one has one of the others from the same states
  pub carried : (runs : Trees ℕ) (qs : List ℕ) → AreRuns one qs runs → (others : Trees ℕ) × AreRuns two qs others
  carried none [] a = (none, tt)
  carried none (q ∷ qs) a = absurd a
  carried (tree n inner rest) [] a = absurd a
  carried (tree n inner rest) (q ∷ qs) a =
      let s = sides n a.0 in
      let below = carried inner (holes_of (rule_at one n).right) a.2 in
      let after = carried rest qs a.3 in (
        tree s.rule below.0 after.0,
        (s.below, s.left ∙ a.1, subst (λ ps. AreRuns two ps below.0) (ap holes_of (sym s.right)) below.1, after.1),
      )

  -- so where the states in the one have runs and each of the others has the sides of one of them,
  -- the states in the others have runs
  pub still_have_runs : ((n : ℕ) → n < length two → HasSidesOf two one n) → HaveRuns one → HaveRuns two
  still_have_runs back have n q h s =
      let b = back n h in
      let run = have b.rule q b.below (subst (λ ps. Has ps q) (ap holes_of (sym b.right)) s) in
      carried run.0 (q ∷ []) run.1
