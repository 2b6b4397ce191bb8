-- Drawing a ticket, and taking the value when it is served, keep the rule.
use Rattle.std.proofs.Common.{◌≡◌, ℕ, zero, suc, ◌+◌, ◌-◌, ◌^◌, ◌<◌, List, [], ◌∷◌, get_or, set, eqb, Option, Some, refl, sym, ap, ◌∙◌, subst, arith, length-set}
use mathlib.Core.Logic.{dite}
use native.Mathlib.Decide.{ℕ_discrete}
use mathlib.Core.Option.{none, some, some-injective}
use lib.ListN.{get_elem?}
use lib.Seq.{set-get_or}
use prog.Atomic.{either}
use Rattle.atomic_table.proofs.Lists.{set_else, set_again, exchanged}
use Rattle.atomic_table.specs.Table.{State, Me, Act, step, keeps, takes, Valid, stepped, Allows}
use Rattle.tib_turn.specs.declared.view.View.{View}
use Rattle.tib_turn.specs.declared.view.Stage.TheVariants.{Idle, Waiting, Inside}
use Rattle.tib_turn.specs.Prefixes.{IsPrefix}
use Rattle.tib_turn.specs.Turns.{view, IsInside, Queued, InTurns}
use Rattle.tib_turn.specs.Steps.{Drawn, Looked}
use Rattle.tib_turn.proofs.Lists.{here_after, all_set}
use Rattle.tib_turn.proofs.PrefixLemmas.{IsPrefix-same}
use Rattle.tib_turn.proofs.Queues.{given, given_here, one_more, inside_is, begun}

module _ {V E : Type 0} (log : V → List E) where
  abbrev S : Type 0
  S = State (Option V) (View E)

  abbrev M : Type 0
  M = Me (Option V) (View E)

  abbrev Rule : S → Type 0
  Rule = InTurns log

  -- a step that changes nothing
  unmoved : (s : S) (i id : ℕ) (v : View E) → Rule s → get_elem? s.views id ≡ some v → Rule record { words = set s.words i (get_or s.words i 0); homes = s.homes; views = set s.views id v }
  unmoved s i id v r at = subst (λ (y : List ℕ × List (View E)). Rule record { words = y.0; homes = s.homes; views = y.1 }) (λ k. (sym (set-get_or s.words i 0) k, sym (set_again s.views id v at) k)) r

  drawn : (s : S) (id n : ℕ) (m : M) (r : Rule s) → get_elem? s.views id ≡ some m.0 → m.0.stage ≡ Idle → get_or s.words 0 0 ≡ n → n < 2 ^ 64 - 1
      → Rule record { words = set s.words 0 (n + 1); homes = s.homes; views = set s.views id (view m.0.seen m.0.told (Waiting n)) }
  drawn s id n m r at out is room =
      let w : View E = view m.0.seen m.0.told (Waiting n) in
      let here : r.ticket ≡ n = sym (ap (λ (ws : List ℕ). get_or ws 0 0) r.words) ∙ is in
      let up : n + 1 ≡ suc r.ticket = omega arith in
      let order = r.order in
      let mine = r.seen id m.0 at in record {
        agreed = r.agreed;
        holder = r.holder;
        owner = given r.ticket id r.owner;
        ticket = suc r.ticket;
        serving = r.serving;
        words = ap (λ (ws : List ℕ). set ws 0 (n + 1)) r.words ∙ ap (λ (k : ℕ). k ∷ r.serving ∷ []) up;
        deep = r.deep;
        order = omega arith;
        small = omega arith;
        free = r.free;
        held = λ j e. let h = r.held j e in (h.0, set_else s.views id j w (λ same. subst IsInside (ap (λ (u : View E). u.stage) (some-injective _ _ (sym h.1 ∙ (ap (get_elem? s.views) same ∙ at))) ∙ out) h.2) ∙ h.1, h.2);
        queued = all_set (λ j u. Queued r.holder (given r.ticket id r.owner) (suc r.ticket) r.serving j u.stage) s.views id w
            (omega arith, omega arith, ap (given r.ticket id r.owner) (sym here) ∙ given_here r.ticket id r.owner)
            (λ j u _ e. one_more r.holder id r.owner r.ticket r.serving j u.stage (r.queued j u e));
        seen = all_set (λ j u. IsPrefix u.seen r.agreed × IsPrefix u.told r.agreed) s.views id w mine (λ j u _ e. r.seen j u e);
        inside = all_set (λ j u. IsInside u.stage → u.seen ≡ r.agreed) s.views id w (λ i. absurd i) (λ j u _ e. r.inside j u e);
      }

  pub draws : (slots id old : ℕ) (m : M) → m.0.stage ≡ Idle → old < 2 ^ 64 - 1 → Allows Rule slots id m 0 (λ n. either (eqb n old) (old + 1) n) (Drawn log (step slots 0 old (old + 1) none) m)
  draws slots id old m out room s r long at small =
      exchanged (get_or s.words 0 0) old (old + 1) (λ k. (w : View E) × (a : Act (Option V)) × Valid s.homes m.1 a × Rule (stepped s 0 k id m.1 w a) × Drawn log (step slots 0 old (old + 1) none) m (get_or s.words 0 0) (w, Rattle.atomic_table.specs.Table.carried_after m.1 a))
      (λ hit. (view m.0.seen m.0.told (Waiting old), keeps, tt, drawn s id old m r at out hit room, ((λ _. ap (λ (k : ℕ). (view m.0.seen m.0.told (Waiting k), m.1)) (sym hit)), λ miss. absurd (miss hit))))
      (λ miss. (m.0, keeps, tt, unmoved s 0 id m.0 r at, ((λ hit. absurd (miss hit)), λ _. refl)))

  -- no seat is in a turn where a waiting seat's ticket is served
  nobody : (s : S) (id t : ℕ) (v : View E) (r : Rule s) → get_elem? s.views id ≡ some v → v.stage ≡ Waiting t → r.serving ≡ t → (holder : ℕ) → r.holder ≡ holder → r.holder ≡ 0
  nobody s id t v r at waits served zero is = is
  nobody s id t v r at waits served (suc k) is =
      let h = r.held k is in
      let i = inside_is r.holder r.owner r.ticket r.serving k h.0.stage h.2 (r.queued k h.0 h.1) in
      let q = subst (Queued r.holder r.owner r.ticket r.serving id) waits (r.queued id v at) in
      let same : k ≡ id = sym i.0 ∙ (ap r.owner served ∙ q.2) in
      absurd (subst IsInside (ap (λ (u : View E). u.stage) (some-injective _ _ (sym h.1 ∙ (ap (get_elem? s.views) same ∙ at))) ∙ waits) h.2)

  entered : (s : S) (id t : ℕ) (m : M) (r : Rule s) → get_elem? s.views id ≡ some m.0 → m.0.stage ≡ Waiting t → r.serving ≡ t → r.holder ≡ 0 → (x : V) → log x ≡ r.agreed
      → Rule record { words = set s.words 1 (get_or s.words 1 0); homes = set s.homes 0 none; views = set s.views id (view (log x) m.0.told (Inside t)) }
  entered s id t m r at waits served empty x same =
      let w : View E = view (log x) m.0.told (Inside t) in
      let q = subst (Queued r.holder r.owner r.ticket r.serving id) waits (r.queued id m.0 at) in record {
        agreed = r.agreed;
        holder = suc id;
        owner = r.owner;
        ticket = r.ticket;
        serving = r.serving;
        words = set-get_or s.words 1 0 ∙ r.words;
        deep = length-set s.homes 0 none ∙ r.deep;
        order = r.order;
        small = r.small;
        free = λ e. absurd (omega arith);
        held = λ j e. let n : id ≡ j = omega arith in (w, ap (get_elem? (set s.views id w)) (sym n) ∙ here_after s.views id m.0 w at, tt);
        queued = all_set (λ j u. Queued (suc id) r.owner r.ticket r.serving j u.stage) s.views id w (sym served, q.1, q.2, refl)
            (λ j u _ e. begun id r.owner r.ticket r.serving j u.stage (subst (λ (k : ℕ). Queued k r.owner r.ticket r.serving j u.stage) empty (r.queued j u e)));
        seen = all_set (λ j u. IsPrefix u.seen r.agreed × IsPrefix u.told r.agreed) s.views id w (IsPrefix-same (log x) r.agreed same, (r.seen id m.0 at).1) (λ j u _ e. r.seen j u e);
        inside = all_set (λ j u. IsInside u.stage → u.seen ≡ r.agreed) s.views id w (λ _. same) (λ j u _ e. r.inside j u e);
      }

  pub looks : (slots id t : ℕ) (m : M) → m.0.stage ≡ Waiting t → Allows Rule slots id m 1 (λ n. n) (Looked log (step slots 1 0 0 none) m)
  looks slots id t m waits s r long at small =
      let is : get_or s.words 1 0 ≡ r.serving = ap (λ (ws : List ℕ). get_or ws 1 0) r.words in
      dite (ℕ_discrete (get_or s.words 1 0) t)
      (λ hit.
      let served = sym is ∙ hit in
      let empty = nobody s id t m.0 r at waits served r.holder refl in
      let f = r.free empty in
      let x : V = f.0 in (
        view (log x) m.0.told (Inside t),
        takes 0 (Some x),
        f.1,
        entered s id t m r at waits served empty x f.2,
        λ t' w. ((λ _. (x, refl, refl, tt, subst (IsPrefix m.0.seen) (sym f.2) (r.seen id m.0 at).0)), λ miss. let e : t ≡ t' = cc in absurd (miss (hit ∙ e))),
      ))
      (λ miss. (m.0, keeps, tt, unmoved s 1 id m.0 r at, λ t' w. ((λ hit. let e : t ≡ t' = cc in absurd (miss (hit ∙ sym e))), λ _. refl)))
