-- A lock that has just been opened keeps the rule.
use Rattle.std.proofs.Common.{◌≡◌, ℕ, zero, suc, List, [], ◌∷◌, Option, Some, refl, sym, subst, arith}
use mathlib.Core.Option.{some, some-injective, some-ne-none}
use lib.ListN.{get_elem?}
use Rattle.atomic_table.specs.Table.{State, Me, opening}
use Rattle.tib_turn.specs.declared.view.View.{View}
use Rattle.tib_turn.specs.Prefixes.{IsPrefix}
use Rattle.tib_turn.specs.Turns.{idle, IsInside, Queued, InTurns}
use Rattle.tib_turn.proofs.PrefixLemmas.{IsPrefix-same}

module _ {V E : Type 0} (log : V → List E) where
  abbrev S : Type 0
  S = State (Option V) (View E)

  abbrev M : Type 0
  M = Me (Option V) (View E)

  abbrev Rule : S → Type 0
  Rule = InTurns log

  pub opens : (x : V) → Rule (opening (0 ∷ 0 ∷ []) (Some x ∷ []) (idle (log x)))
  opens x = record {
    agreed = log x;
    holder = 0;
    owner = λ k. 0;
    ticket = 0;
    serving = 0;
    words = refl;
    deep = refl;
    order = omega arith;
    small = omega arith;
    free = λ _. (x, refl, refl);
    held = λ j e. absurd (omega arith);
    queued = one (λ j v. Queued 0 (λ k. 0) 0 0 j v.stage) tt;
    seen = one (λ j v. IsPrefix v.seen (log x) × IsPrefix v.told (log x)) (IsPrefix-same (log x) (log x) refl, (log x, refl));
    inside = one (λ j v. IsInside v.stage → v.seen ≡ log x) (λ i. absurd i);
  }
    where
      one : (F : ℕ → View E → Type 0) → F 0 (idle (log x)) → (j : ℕ) (v : View E) → get_elem? (idle (log x) ∷ []) j ≡ some v → F j v
      one F h zero v e = subst (F 0) (some-injective _ _ e) h
      one F h (suc j) v e = absurd (some-ne-none v (sym e))

  pub opens_as : (x y : V) (xs : List (Option V)) → xs ≡ Some x ∷ [] → y ≡ x → Rule (opening (0 ∷ 0 ∷ []) xs (idle (log y)))
  opens_as x y xs e f = subst (λ (p : List (Option V) × V). Rule (opening (0 ∷ 0 ∷ []) p.0 (idle (log p.1)))) (λ i. (sym e i, sym f i)) (opens x)
