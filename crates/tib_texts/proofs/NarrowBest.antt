-- The k cheapest trees among the rules within a beam are those of all rules, where none of them
-- costs more than the beam allows.
use Rattle.std.proofs.Common.{◌≡◌, ℕ, ◌+◌, ◌≤◌, List, length, sym, subst, arith, inl, inr}
use Rattle.std.specs.Prelude.{Option, None, Some, IfSome}
use Rattle.tib_lex.specs.Lists.{Each}
use Rattle.tib_lex.proofs.Lists.{each_weaker}
use Rattle.tib_lex.proofs.Members.{each_has, each_of}
use Rattle.tib_lex.proofs.Numbers.{nat_le_cases}
use Rattle.tib_cost.proofs.Least.{IsLeast-unique}
use Rattle.tib_grammar.specs.Series.{IsSeries}
use Rattle.tib_grammar.specs.declared.Rule.{Rule}
use Rattle.tib_inside.specs.Inside.{IsInside}
use Rattle.tib_ranked_trees.specs.Best.{Costed, Cheaper, IsKBest, IsTreeAt}
use Rattle.tib_prune.specs.Pruned.{IsWithinBeam, HadNoGreaterCosts, KeepsCheapTrees}

-- what is found has what follows of it
pub some_weaker : {A : Type 0} (o : Option A) (P Q : A → Type 0) → ((x : A) → P x → Q x) → IfSome o P → IfSome o Q
some_weaker None P Q f h = tt
some_weaker (Some x) P Q f h = f x h

module _
    (product : ℕ → ℕ → ℕ) (rules kept : List (Rule ℕ)) (best beam : ℕ) (is_best : IsInside product rules 0 (Some best)) (cheap : KeepsCheapTrees product rules beam kept)
    (costs : HadNoGreaterCosts product rules kept) where
  beam_at : (c : ℕ) → c ≤ best + beam → IsWithinBeam product rules beam c
  beam_at c h = record { best = best; is_best = is_best; close = h }

  -- a tree within the beam costs the same by all rules
  member : (x : Costed) → IsTreeAt product kept 0 x → x.1 ≤ best + beam → IsTreeAt product rules 0 x
  member x m h =
      let o = costs x.0 x.1 m in
      let back : IsSeries product kept x.0 (Some o.0) = cheap x.0 o.0 o.1 (beam_at o.0 (omega (arith, h, o.2))) in
      let same : Some x.1 ≡ Some o.0 = IsLeast-unique m back in
      subst (λ (v : Option ℕ). IsSeries product rules x.0 v) (sym same) o.1

  pub narrow :
      (labels : List (List ℕ)) (k : ℕ) (xs : List Costed) → IsKBest product kept labels k xs → length xs ≡ k → Each (λ (x : Costed). x.1 ≤ best + beam) xs → IsKBest product rules labels k xs
  narrow labels k xs b full within = record {
    members = each_of (IsTreeAt product rules 0) xs (λ x h. member x (each_has (IsTreeAt product kept 0) xs x b.members h) (each_has (λ (y : Costed). y.1 ≤ best + beam) xs x within h));
    ascends = b.ascends;
    few = b.few;
    others = λ y m new. (
      full,
      elim (nat_le_cases y.1 (best + beam)) [
        | inl h ↦ (b.others y (cheap y.0 y.1 m (beam_at y.1 h.0)) new).1
        | inr h ↦ each_weaker (λ (x : Costed). x.1 ≤ best + beam) (λ (x : Costed). Cheaper labels x y) xs (λ x l. inl (omega (arith, l, h.0))) within
      ],
    );
  }
