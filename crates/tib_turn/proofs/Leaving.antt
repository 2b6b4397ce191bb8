-- Giving the value back keeps the rule.
use Rattle.std.proofs.Common.{◌≡◌, ℕ, suc, ◌+◌, ◌%◌, ◌^◌, List, [], ◌∷◌, get_or, set, true, false, Option, Some, None, refl, sym, ap, ◌∙◌, subst, arith, length-set, mod-eq_of_lt}
use mathlib.Core.Option.{none, some}
use lib.ListN.{get_elem?}
use Rattle.atomic_table.proofs.Lists.{set_here}
use Rattle.atomic_table.specs.Table.{State, Me, step, gives, rest, Allows}
use Rattle.tib_turn.specs.declared.view.View.{View}
use Rattle.tib_turn.specs.declared.view.Stage.{Stage}
use Rattle.tib_turn.specs.declared.view.Stage.TheVariants.{Idle, Waiting, Inside}
use Rattle.tib_turn.specs.Prefixes.{IsPrefix}
use Rattle.tib_turn.specs.Turns.{idle, IsInside, Queued, InTurns, Stands}
use Rattle.tib_turn.specs.Steps.{Left}
use Rattle.tib_turn.specs.Seen.{is_inside}
use Rattle.tib_turn.proofs.Lists.{all_set}
use Rattle.tib_turn.proofs.PrefixLemmas.{IsPrefix-same, IsPrefix-trans}
use Rattle.tib_turn.proofs.Queues.{inside_is, ended}

module _ {V E : Type 0} (log : V → List E) where
  abbrev S : Type 0
  S = State (Option V) (View E)

  abbrev M : Type 0
  M = Me (Option V) (View E)

  abbrev Rule : S → Type 0
  Rule = InTurns log

  left : (s : S) (id : ℕ) (v : View E) (r : Rule s) → get_elem? s.views id ≡ some v → IsInside v.stage → (x : V) → IsPrefix v.seen (log x)
      → Rule record { words = set s.words 1 (get_or s.words 1 0 + 1); homes = set s.homes 0 (some (Some x)); views = set s.views id (idle (log x)) }
  left s id v r at ins x grows =
      let w : View E = idle (log x) in
      let i = inside_is r.holder r.owner r.ticket r.serving id v.stage ins (r.queued id v at) in
      let more : IsPrefix r.agreed (log x) = subst (λ l. IsPrefix l (log x)) (r.inside id v at ins) grows in
      let up : get_or s.words 1 0 + 1 ≡ suc r.serving = let k : get_or s.words 1 0 ≡ r.serving = ap (λ (ws : List ℕ). get_or ws 1 0) r.words in omega arith in
      let deep = r.deep in record {
        agreed = log x;
        holder = 0;
        owner = r.owner;
        ticket = r.ticket;
        serving = suc r.serving;
        words = ap (λ (ws : List ℕ). set ws 1 (get_or s.words 1 0 + 1)) r.words ∙ ap (λ (k : ℕ). r.ticket ∷ k ∷ []) up;
        deep = length-set s.homes 0 (some (Some x)) ∙ r.deep;
        order = omega arith;
        small = r.small;
        free = λ _. (x, set_here s.homes 0 (some (Some x)) (omega arith), refl);
        held = λ j e. absurd (omega arith);
        queued = all_set (λ j u. Queued 0 r.owner r.ticket (suc r.serving) j u.stage) s.views id w tt
            (λ j u other e. ended r.holder id r.owner r.ticket r.serving j u.stage i.0 other (r.queued j u e));
        seen = all_set (λ j u. IsPrefix u.seen (log x) × IsPrefix u.told (log x)) s.views id w (IsPrefix-same (log x) (log x) refl, (log x, refl))
            (λ j u _ e. let b = r.seen j u e in (IsPrefix-trans u.seen r.agreed (log x) b.0 more, IsPrefix-trans u.told r.agreed (log x) b.1 more));
        inside = all_set (λ j u. IsInside u.stage → u.seen ≡ log x) s.views id w (λ n. absurd n)
            (λ j u other e n. absurd (other (let k = inside_is r.holder r.owner r.ticket r.serving j u.stage n (r.queued j u e) in sym k.0 ∙ i.0)));
      }

  leaves_from : (slots id : ℕ) (v : View E) (x : V) → IsInside v.stage → IsPrefix v.seen (log x)
      → Allows Rule slots id (v, (0, Some x) ∷ []) 1 (λ n. (n + 1) % 2 ^ 64) (Left log (step slots 1 1 0 none) (v, (0, Some x) ∷ []))
  leaves_from slots id v x ins grows s r long at small =
      let i = inside_is r.holder r.owner r.ticket r.serving id v.stage ins (r.queued id v at) in
      let is : get_or s.words 1 0 ≡ r.serving = ap (λ (ws : List ℕ). get_or ws 1 0) r.words in
      let room = r.small in
      let up : get_or s.words 1 0 + 1 ≡ (get_or s.words 1 0 + 1) % 2 ^ 64 = sym (mod-eq_of_lt (omega arith)) in
      (idle (log x), gives, tt, subst (λ (k : ℕ). Rule record { words = set s.words 1 k; homes = set s.homes 0 (some (Some x)); views = set s.views id (idle (log x)) }) up (left s id v r at ins x grows), refl)

  -- between calls
  pub out_of : (st : Stage) (c : List (ℕ × Option V)) → Stands log st c → is_inside st ≡ false → (st ≡ Idle) × (c ≡ [])
  out_of Idle c s out = (refl, s)
  out_of (Waiting t) c s out = absurd s
  out_of (Inside t) c s out = absurd (cc)

  pub in_of : (st : Stage) (c : List (ℕ × Option V)) → Stands log st c → is_inside st ≡ true → IsInside st × (c ≡ (0, None) ∷ [])
  in_of Idle c s ins = absurd (cc)
  in_of (Waiting t) c s ins = absurd s
  in_of (Inside t) c s ins = (tt, s)

  pub leaves_after : (slots id : ℕ) (m n : M) (x : V) → Stands log m.0.stage m.1 → is_inside m.0.stage ≡ true → n ≡ (m.0, (0, Some x) ∷ rest m.1) → IsPrefix m.0.seen (log x)
      → Allows Rule slots id n 1 (λ k. (k + 1) % 2 ^ 64) (Left log (step slots 1 1 0 none) n)
  leaves_after slots id m n x stands ins is grows =
      let i = in_of m.0.stage m.1 stands ins in
      let e : n ≡ (m.0, (0, Some x) ∷ []) = is ∙ ap (λ (c : List (ℕ × Option V)). (m.0, (0, Some x) ∷ rest c)) i.1 in
      subst (λ (k : M). Allows Rule slots id k 1 (λ n. (n + 1) % 2 ^ 64) (Left log (step slots 1 1 0 none) k)) (sym e) (leaves_from slots id m.0 x i.0 grows)
