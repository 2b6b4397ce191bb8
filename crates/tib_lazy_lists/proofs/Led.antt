-- Demands that are before those below them.
use Rattle.std.specs.Prelude.{◌≡◌, ◌⊎◌, ℕ, ◌+◌, ◌<◌, List, [], ◌∷◌, ◌++◌, length, Result, Ok, Err, OnOk}
use Rattle.std.proofs.Common.{arith, ap, sym, ◌∙◌, subst, inl, inr, get_or}
use Rattle.tib_lex.specs.Lists.{Has}
use Rattle.tib_lex.proofs.Members.{has_left, has_right, has_either}
use Rattle.tib_ranked_trees.specs.Levels.{states_at}
use Rattle.tib_ranked_trees.specs.ListsOf.{ListsOf}
use Rattle.tib_ranked_trees.specs.Held.{candidate_at, ranks_from, ranks_of}
use Rattle.tib_ranked_trees.specs.declared.lists.Candidate.{Candidate}
use Rattle.tib_lazy_lists.specs.declared.demanding.Demand.{Demand}
use Rattle.tib_lazy_lists.specs.AskingOf.{AskingOf, state_at}
use Rattle.tib_lazy_lists.specs.Demands.{demand_below, AreLed, HoldsBelow, IsMet}
use Rattle.tib_lazy_lists.proofs.Followed.{ranks_read}

pub led_weaker : (P Q : Demand → Type 0) (x : ListsOf) (a : AskingOf) (ds : List Demand) → ((e : Demand) → P e → Q e) → AreLed P x a ds → AreLed Q x a ds
led_weaker P Q x a [] f l = tt
led_weaker P Q x a (d ∷ ds) f l = (λ i h. elim (l.0 i h) [ inl g ↦ inl g | inr p ↦ inr (f _ p) ], led_weaker P Q x a ds f l.1)

-- one more was put down
pub led_more :
    (P Q : Demand → Type 0) (x : ListsOf) (a : AskingOf) (ds : List Demand) (d : Demand) → ((e : Demand) → P e → (d ≡ e) ⊎ Q e) → HoldsBelow Q x a d → AreLed P x a ds →
    AreLed Q x a (ds ++ d ∷ [])
led_more P Q x a [] d f b l = (λ i h. inr (b i h), tt)
led_more P Q x a (o ∷ os) d f b l = (
  λ i h. elim (l.0 i h) [
    | inl g ↦ inl (has_left os (d ∷ []) _ g)
    | inr p ↦ elim (f _ p) [ inl e ↦ inl (has_right os (d ∷ []) _ (inl e)) | inr q ↦ inr q ]
  ],
  led_more P Q x a os d f b l.1,
)

pub led_last : (P : Demand → Type 0) (x : ListsOf) (a : AskingOf) (ds : List Demand) (d : Demand) → AreLed P x a (ds ++ d ∷ []) → HoldsBelow P x a d
led_last P x a [] d l = λ i h. elim (l.0 i h) [ inl bad ↦ absurd bad | inr p ↦ p ]
led_last P x a (o ∷ os) d l = led_last P x a os d l.1

-- the last one was met
pub led_fewer :
    (P Q : Demand → Type 0) (x : ListsOf) (a : AskingOf) (ds : List Demand) (d : Demand) → ((e : Demand) → P e → Q e) → Q d → AreLed P x a (ds ++ d ∷ []) → AreLed Q x a ds
led_fewer P Q x a [] d f q l = tt
led_fewer P Q x a (o ∷ os) d f q l = (
  λ i h. elim (l.0 i h) [
    | inr p ↦ inr (f _ p)
    | inl g ↦ elim (has_either os (d ∷ []) _ g) [
      | inl k ↦ inl k
      | inr k ↦ elim k [ inl e ↦ inr (subst Q e q) | inr bad ↦ absurd bad ]
    ]
  ],
  led_fewer P Q x a os d f q l.1,
)

-- a demand is put onto a stack

pub kept_more : (old now : List Demand) (d : Demand) → now ≡ old ++ d ∷ [] → (e : Demand) → Has old e → Has now e
kept_more old now d is e h = subst (λ (ds : List Demand). Has ds e) (sym is) (has_left old (d ∷ []) e h)

demand_same : (x : ListsOf) (n : ℕ) (js : List ℕ) (i : ℕ) (d : Demand) → d.state ≡ get_or (states_at x.rules n) i 0 → d.many ≡ get_or js i 0 + 1 → d ≡ demand_below x n js i
demand_same x n js i d s m = ap (λ (q : ℕ). by q d.many) s ∙ ap (λ (k : ℕ). by (get_or (states_at x.rules n) i 0) k) m
  where
    by : ℕ → ℕ → Demand
    by q k = record { state = q; many = k }

-- where it is not met
pub there_put :
    (x : ListsOf) (a : AskingOf) (n : ℕ) (js : List ℕ) (i : ℕ) (old now : List Demand) (d : Demand) → now ≡ old ++ d ∷ [] → d.state ≡ get_or (states_at x.rules n) i 0 → d.many ≡ get_or js i 0 + 1 →
    Has now (demand_below x n js i) ⊎ IsMet x a (demand_below x n js i)
there_put x a n js i old now d is s m = inl (subst (λ (ds : List Demand). Has ds (demand_below x n js i)) (sym is) (has_right old (d ∷ []) (demand_below x n js i) (inl (demand_same x n js i d s m))))

pub there_met :
    (x : ListsOf) (a : AskingOf) (n : ℕ) (js : List ℕ) (i : ℕ) (now : List Demand) (d : Demand) → IsMet x a d → d.state ≡ get_or (states_at x.rules n) i 0 → d.many ≡ get_or js i 0 + 1 →
    Has now (demand_below x n js i) ⊎ IsMet x a (demand_below x n js i)
there_met x a n js i now d met s m = inr (subst (λ (e : Demand). IsMet x a e) (demand_same x n js i d s m) met)

next_or : (j n : ℕ) → j < n + 1 → (j < n) ⊎ (n ≡ j)
next_or j n h = grind arith

-- one after another
pub there_more :
    (x : ListsOf) (a : AskingOf) (n : ℕ) (js : List ℕ) (i : ℕ) (old now : List Demand) → ((d : Demand) → Has old d → Has now d) →
    ((j : ℕ) → j < i → Has old (demand_below x n js j) ⊎ IsMet x a (demand_below x n js j)) → Has now (demand_below x n js i) ⊎ IsMet x a (demand_below x n js i) → (j : ℕ) → j < i + 1 →
    Has now (demand_below x n js j) ⊎ IsMet x a (demand_below x n js j)
there_more x a n js i old now kept before here j h = elim (next_or j i h) [
  | inl l ↦ elim (before j l) [ inl g ↦ inl (kept (demand_below x n js j) g) | inr m ↦ inr m ]
  | inr e ↦ subst (λ (k : ℕ). Has now (demand_below x n js k) ⊎ IsMet x a (demand_below x n js k)) e here
]

-- those below a state's last candidate
pub there_below :
    {E : Type 0} (r : Result (Unit {0}) E) (x : ListsOf) (a : AskingOf) (d : Demand) (last : ℕ) → last ≡ (state_at a d.state).last → (b e : Candidate) → b ≡ candidate_at x last → e ≡ candidate_at x last →
    (now : List Demand) →
    OnOk r ((i : ℕ) → i < length (states_at x.rules b.rule) → Has now (demand_below x b.rule (ranks_from x b.rule e.start) i) ⊎ IsMet x a (demand_below x b.rule (ranks_from x b.rule e.start) i)) →
    OnOk r (HoldsBelow (λ f. Has now f ⊎ IsMet x a f) x a d)
there_below (Err w) x a d last is b e f g now h = tt
there_below (Ok v) x a d last is b e f g now h =
    let c : Candidate = candidate_at x (state_at a d.state).last in
    let f1 : b ≡ c = f ∙ ap (candidate_at x) is in
    let g1 : e ≡ c = g ∙ ap (candidate_at x) is in
    let over = subst (λ (js : List ℕ). (i : ℕ) → i < length (states_at x.rules b.rule) → Has now (demand_below x b.rule js i) ⊎ IsMet x a (demand_below x b.rule js i)) (ranks_read x c b e f1 g1) h in
    subst (λ (u : Candidate). (i : ℕ) → i < length (states_at x.rules u.rule) → Has now (demand_below x u.rule (ranks_of x c) i) ⊎ IsMet x a (demand_below x u.rule (ranks_of x c) i)) f1 over

-- one demand was put down, and those below it came to the stack
pub led_down :
    (x : ListsOf) (a : AskingOf) (order now stack rest more : List Demand) (d : Demand) → now ≡ order ++ d ∷ [] → stack ≡ rest ++ d ∷ [] → ((e : Demand) → Has rest e → Has more e) →
    HoldsBelow (λ e. Has more e ⊎ IsMet x a e) x a d → AreLed (λ e. Has stack e ⊎ IsMet x a e) x a order → AreLed (λ e. Has more e ⊎ IsMet x a e) x a now
led_down x a order now stack rest more d is s kept below led =
    subst (λ (ds : List Demand). AreLed (λ e. Has more e ⊎ IsMet x a e) x a ds) (sym is)
    (led_more (λ e. Has stack e ⊎ IsMet x a e) (λ e. Has more e ⊎ IsMet x a e) x a order d step below led)
  where
    step : (e : Demand) → Has stack e ⊎ IsMet x a e → (d ≡ e) ⊎ (Has more e ⊎ IsMet x a e)
    step e (inr m) = inr (inr m)
    step e (inl h) = elim (has_either rest (d ∷ []) e (subst (λ (ds : List Demand). Has ds e) s h)) [
      | inl g ↦ inr (inl (kept e g))
      | inr g ↦ elim g [ inl f ↦ inl f | inr bad ↦ absurd bad ]
    ]

-- at the beginning, and at the end
pub led_none : (P : Demand → Type 0) (x : ListsOf) (a : AskingOf) (order : List Demand) → order ≡ [] → AreLed P x a order
led_none P x a order e = subst (λ (ds : List Demand). AreLed P x a ds) (sym e) tt

pub led_ends : (x : ListsOf) (a : AskingOf) (order stack : List Demand) → stack ≡ [] → AreLed (λ e. Has stack e ⊎ IsMet x a e) x a order → AreLed (IsMet x a) x a order
led_ends x a order stack none led = led_weaker (λ e. Has stack e ⊎ IsMet x a e) (IsMet x a) x a order
    (λ e o. elim o [ inl h ↦ absurd (subst (λ (ds : List Demand). Has ds e) none h) | inr m ↦ m ]) led
