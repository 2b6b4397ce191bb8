-- The runs of the rules at some positions, as runs of all rules.
use Rattle.std.specs.Prelude.{◌≡◌, ℕ, ◌<◌, List, [], ◌∷◌, length, map, refl}
use Rattle.std.proofs.Common.{arith, ap, sym, ◌∙◌, subst, inl, inr, get_or}
use Rattle.std.proofs.lemmas.List.{get_or-map, length-map}
use Rattle.tib_lex.specs.Lists.{Has, Distinct}
use Rattle.tib_lex.proofs.Members.{at_has}
use Rattle.tib_lex.proofs.Places.{distinct_at}
use Rattle.tib_tree.specs.Trees.{Trees, none, tree, relabel}
use Rattle.tib_grammar.specs.Run.{rule_at, no_rule, AreRuns}
use Rattle.tib_grammar.specs.Sides.{holes_of}
use Rattle.tib_grammar.specs.declared.Rule.{Rule}
use Rattle.tib_prune.specs.Contexts.{Stands}

module _ (rules : List (Rule ℕ)) (positions : List ℕ) where
  abbrev kept : List (Rule ℕ)
  kept = map (rule_at rules) positions

  abbrev pub position_of : ℕ → ℕ
  position_of i = get_or positions i 0

  kept_at : (i : ℕ) → i < length positions → rule_at kept i ≡ rule_at rules (position_of i)
  kept_at i h = get_or-map (rule_at rules) positions i 0 no_rule h

  as_many : length kept ≡ length positions
  as_many = length-map positions (rule_at rules)

  -- they are runs of all
  pub of_all : ((i : ℕ) → i < length positions → position_of i < length rules) → (runs : Trees ℕ) (qs : List ℕ) → AreRuns kept qs runs → AreRuns rules qs (relabel position_of runs)
  of_all below none [] a = tt
  of_all below none (q ∷ qs) a = absurd a
  of_all below (tree n inner rest) [] a = absurd a
  of_all below (tree n inner rest) (q ∷ qs) a =
      let h : n < length positions = omega (arith, a.0, as_many) in
      let same : rule_at kept n ≡ rule_at rules (position_of n) = kept_at n h in (
        below n h,
        ap (λ (r : Rule ℕ). r.left) (sym same) ∙ a.1,
        subst (λ (r : Rule ℕ). AreRuns rules (holes_of r.right) (relabel position_of inner)) same (of_all below inner (holes_of (rule_at kept n).right) a.2),
        of_all below rest qs a.3,
      )

  -- the runs of those that are kept that the runs of all are
  pub record IsOfKept (qs : List ℕ) (runs : Trees ℕ) : Type 0 where
    pub others : Trees ℕ
    pub are_runs : AreRuns kept qs others
    pub same : relabel position_of others ≡ runs

  -- runs that have only these rules are theirs
  pub of_kept : (runs : Trees ℕ) (qs : List ℕ) → AreRuns rules qs runs → ((n : ℕ) → Stands n runs → Has positions n) → IsOfKept qs runs
  of_kept none [] a k = record { others = none; are_runs = tt; same = refl }
  of_kept none (q ∷ qs) a k = absurd a
  of_kept (tree n inner rest) [] a k = absurd a
  of_kept (tree n inner rest) (q ∷ qs) a k =
      let at = at_has positions n 0 (k n (inl refl)) in
      let same : rule_at kept at.0 ≡ rule_at rules n = kept_at at.0 at.1 ∙ ap (rule_at rules) at.2 in
      let below = of_kept inner (holes_of (rule_at rules n).right) a.2 (λ m s. k m (inr (inl s))) in
      let after = of_kept rest qs a.3 (λ m s. k m (inr (inr s))) in
      record {
        others = tree at.0 below.others after.others;
        are_runs = (
          omega (arith, at.1, as_many),
          ap (λ (r : Rule ℕ). r.left) same ∙ a.1,
          subst (λ (r : Rule ℕ). AreRuns kept (holes_of r.right) below.others) (sym same) below.are_runs,
          after.are_runs,
        );
        same = ap (λ (m : ℕ). tree m (relabel position_of below.others) (relabel position_of after.others)) at.2
            ∙ ap (λ ts. tree n ts (relabel position_of after.others)) below.same
            ∙ ap (tree n inner) after.same;
      }

  -- different runs are different runs of all
  pub kept_apart :
      Distinct positions → (one two : Trees ℕ) (qs rs : List ℕ) → AreRuns kept qs one → AreRuns kept rs two → relabel position_of one ≡ relabel position_of two →
      one ≡ two
  kept_apart once none none qs rs a b e = refl
  kept_apart once none (tree m others more) qs rs a b e = absurd (cc)
  kept_apart once (tree n inner rest) none qs rs a b e = absurd (cc)
  kept_apart once (tree n inner rest) (tree m others more) [] rs a b e = absurd a
  kept_apart once (tree n inner rest) (tree m others more) (q ∷ qs) [] a b e = absurd b
  kept_apart once (tree n inner rest) (tree m others more) (q ∷ qs) (r ∷ rs) a b e =
      let number : position_of n ≡ position_of m = cc in
      let inner_same : relabel position_of inner ≡ relabel position_of others = cc in
      let rest_same : relabel position_of rest ≡ relabel position_of more = cc in
      let same : n ≡ m = distinct_at positions n m 0 once (omega (arith, a.0, as_many)) (omega (arith, b.0, as_many)) number in
      let below = kept_apart once inner others (holes_of (rule_at kept n).right) (holes_of (rule_at kept m).right) a.2 b.2 inner_same in
      let after = kept_apart once rest more qs rs a.3 b.3 rest_same in
      cc (same, below, after)
