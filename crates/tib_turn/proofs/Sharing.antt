-- Splitting a pass, joining two and comparing what they have seen keep the rule.
use Rattle.std.proofs.Common.{◌≡◌, ◌≢◌, ℕ, suc, List, [], ◌∷◌, ◌++◌, length, set, Option, refl, sym, ap, ◌∙◌, subst, ⊎_elim}
use Rattle.std.specs.Prelude.{nat_lt}
use mathlib.Core.Option.{none, some, some-injective}
use lib.ListN.{get_elem?}
use lib.Seq.{set-get_or}
use Rattle.atomic_table.proofs.Lists.{at_set, set_else, set_again, at_longer}
use Rattle.atomic_table.specs.Table.{State, Me, step, keeps, Allows, Splits, Joins}
use Rattle.tib_turn.specs.declared.view.View.{View}
use Rattle.tib_turn.specs.declared.view.Stage.TheVariants.{Idle}
use Rattle.tib_turn.specs.Prefixes.{IsPrefix, longer}
use Rattle.tib_turn.specs.Turns.{view, idle, IsInside, Queued, InTurns}
use Rattle.tib_turn.specs.Steps.{Learned}
use Rattle.tib_turn.proofs.Lists.{all_set, all_snoc}
use Rattle.tib_turn.proofs.PrefixLemmas.{IsPrefix-longer}

module _ {V E : Type 0} (log : V → List E) where
  abbrev S : Type 0
  S = State (Option V) (View E)

  abbrev M : Type 0
  M = Me (Option V) (View E)

  abbrev Rule : S → Type 0
  Rule = InTurns log

  -- the views change, and no seat's ticket does
  reviewed : (s : S) (r : Rule s) (views : List (View E)) → ((j : ℕ) → r.holder ≡ suc j → (v : View E) × (get_elem? views j ≡ some v) × IsInside v.stage)
      → ((j : ℕ) (u : View E) → get_elem? views j ≡ some u → Queued r.holder r.owner r.ticket r.serving j u.stage × (IsPrefix u.seen r.agreed × IsPrefix u.told r.agreed) × (IsInside u.stage → u.seen ≡ r.agreed))
      → Rule record { words = s.words; homes = s.homes; views = views }
  reviewed s r views held each = record {
    agreed = r.agreed;
    holder = r.holder;
    owner = r.owner;
    ticket = r.ticket;
    serving = r.serving;
    words = r.words;
    deep = r.deep;
    order = r.order;
    small = r.small;
    free = r.free;
    held = held;
    queued = λ j u e. (each j u e).0;
    seen = λ j u e. (each j u e).1;
    inside = λ j u e. (each j u e).2;
  }

  old : (s : S) (r : Rule s) (j : ℕ) (u : View E) → get_elem? s.views j ≡ some u → Queued r.holder r.owner r.ticket r.serving j u.stage × (IsPrefix u.seen r.agreed × IsPrefix u.told r.agreed) × (IsInside u.stage → u.seen ≡ r.agreed)
  old s r j u e = (r.queued j u e, r.seen j u e, r.inside j u e)

  -- an idle seat's view changes to another idle one
  turned : (s : S) (id : ℕ) (v w : View E) (r : Rule s) → get_elem? s.views id ≡ some v → v.stage ≡ Idle → w.stage ≡ Idle → IsPrefix w.seen r.agreed → IsPrefix w.told r.agreed → Rule record { words = s.words; homes = s.homes; views = set s.views id w }
  turned s id v w r at out out' one two = reviewed s r (set s.views id w)
      (λ j e. let h = r.held j e in (h.0, set_else s.views id j w (λ same. subst IsInside (ap (λ (u : View E). u.stage) (some-injective _ _ (sym h.1 ∙ (ap (get_elem? s.views) same ∙ at))) ∙ out) h.2) ∙ h.1, h.2))
      (all_set (λ j u. Queued r.holder r.owner r.ticket r.serving j u.stage × (IsPrefix u.seen r.agreed × IsPrefix u.told r.agreed) × (IsInside u.stage → u.seen ≡ r.agreed)) s.views id w
      (subst (Queued r.holder r.owner r.ticket r.serving id) (sym out') tt, (one, two), λ i. absurd (subst IsInside out' i))
      (λ j u _ e. old s r j u e))

  pub twins : (id : ℕ) (v : View E) → Splits Rule id v v (idle v.seen)
  twins id v s r at =
      let vs : List (View E) = set s.views id v in
      let same = set_again s.views id v at in
      let mine = (r.seen id v at).0 in
      subst (λ (l : List (View E)). Rule record { words = s.words; homes = s.homes; views = l ++ idle v.seen ∷ [] }) (sym same) (reviewed s r (s.views ++ idle v.seen ∷ [])
      (λ j e. let h = r.held j e in (h.0, at_longer s.views (idle v.seen ∷ []) j h.0 h.1, h.2))
      (all_snoc (λ j u. Queued r.holder r.owner r.ticket r.serving j u.stage × (IsPrefix u.seen r.agreed × IsPrefix u.told r.agreed) × (IsInside u.stage → u.seen ≡ r.agreed)) s.views (idle v.seen)
      (λ j. (tt, (mine, (r.agreed, refl)), λ i. absurd i))
      (old s r)))

  pub pairs : (id : ℕ) (v : View E) (other : ℕ) (u : View E) → v.stage ≡ Idle → u.stage ≡ Idle → Joins Rule id v other u (view v.seen u.seen Idle) (idle [])
  pairs id v other u out out' s r at apart there =
      let b : View E = view v.seen u.seen Idle in
      let was : get_elem? s.views other ≡ some u = ⊎_elim (λ (t : (other ≡ id) × (b ≡ u)). absurd (apart t.0)) (λ (t : (other ≢ id) × (get_elem? s.views other ≡ some u)). t.1) (at_set s.views id other b u there) in
      let r' = turned s id v b r at out refl (r.seen id v at).0 (r.seen other u was).0 in
      turned record { words = s.words; homes = s.homes; views = set s.views id b } other u (idle []) r' there out' refl (r'.agreed, refl) (r'.agreed, refl)

  pub learns : (slots id : ℕ) (m : M) → m.0.stage ≡ Idle → Allows Rule slots id m 0 (λ n. n) (Learned log (step slots 0 0 0 none) m)
  learns slots id m out s r long at small =
      let b = r.seen id m.0 at in
      let h = IsPrefix-longer m.0.seen m.0.told r.agreed b.0 b.1 (nat_lt (length m.0.seen) (length m.0.told)) refl in
      let w : View E = idle (longer m.0.seen m.0.told) in (
        w,
        keeps,
        tt,
        subst (λ (ws : List ℕ). Rule record { words = ws; homes = s.homes; views = set s.views id w }) (sym (set-get_or s.words 0 0)) (turned s id m.0 w r at out refl h.2 (r.agreed, refl)),
        (refl, h.0, h.1),
      )
