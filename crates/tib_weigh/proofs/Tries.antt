-- What rules are worth, and what is found once they were tried.
use Rattle.std.specs.Prelude.{◌≡◌, ◌⊎◌, ℕ, ◌+◌, ◌<◌, ◌≤◌, Bool, true, false, List, [], ◌∷◌, ◌++◌, ◌-◌, length, map, get_or, nat_eq, if◌then◌else◌, Option, None, Some, min, refl}
use Rattle.std.proofs.Common.{zero, suc, arith, ap, sym, ◌∙◌, subst, inl, inr, take, drop}
use Rattle.std.specs.Global.{Vec}
use Rattle.std.proofs.lemmas.List.{take_more, drop_more}
use Rattle.std.proofs.Math.ListN.{length-map}
use Rattle.tib_lex.specs.Lists.{Has, Each}
use Rattle.tib_tree.specs.Trees.{Trees, count, first_trees, count-first}
use Rattle.tib_cost.specs.Semiring.{ProductLaws, most}
use Rattle.tib_cost.specs.Least.{IsMember, AtMost, times, lesser, IsNoGreater, IsCut}
use Rattle.tib_cost.proofs.Least.{cut-cases}
use Rattle.tib_cost.proofs.Times.{times_regroups, times_neutral, times_commutes}
use Rattle.tib_grammar.specs.Sides.{holes}
use Rattle.tib_grammar.specs.Forms.{AreNormal}
use Rattle.tib_grammar.specs.Run.{rule_at}
use Rattle.tib_grammar.specs.declared.Rule.{Rule}
use Rattle.tib_grammar.specs.declared.Item.{Item}
use Rattle.tib_grammar.specs.declared.Item.TheVariants.{Label}
use Rattle.tib_grammar.proofs.NormalRuns.{Begins}
use Rattle.tib_normal.specs.Rules.{positions_with}
use Rattle.tib_weigh.specs.declared.vector.Entry.{Entry}
use Rattle.tib_weigh.specs.declared.ready.Ready.{Ready}
use Rattle.tib_weigh.specs.declared.table.Table.{Table}
use Rattle.tib_weigh.specs.Entries.{cost_in, IsAscending}
use Rattle.tib_weigh.specs.Vectors.{times_all, vectors, Weighed, IsVectorOf}
use Rattle.tib_weigh.specs.Buckets.{state_below, IsRuleOver, IsReady, Stands}
use Rattle.tib_weigh.specs.Tables.{bucket, IsTable}
use Rattle.tib_weigh.specs.Worth.{times_beside, rest_worth, worth, IsWorth, HasTried, HasTriedAll}
use Rattle.tib_weigh.proofs.Members.{has_last, has_or_last}
use Rattle.tib_weigh.proofs.Stacks.{times-none, slot, length-vectors}
use Rattle.tib_weigh.proofs.Among.{BeginsAmong, among_all, rule_least, times_all-none_at}
use Rattle.tib_grammar.specs.Items.{state_in}
use Rattle.tib_lex.proofs.Numbers.{nat_eq_cases}
use Rattle.tib_lex.proofs.Members.{has_left, has_at}
use Rattle.tib_grammar.proofs.Sides.{length-holes}
use Rattle.tib_normal.specs.RulePlaces.{IsRulePlace}
use Rattle.tib_normal.proofs.RulePlaces.{has_rule_place}

-- a cost that is not greater than one of two that are lesser
lesser_lowers : (v w x : Option ℕ) → IsNoGreater v x → IsNoGreater (lesser v w) x
lesser_lowers v w None h = tt
lesser_lowers None w (Some n) h = absurd h
lesser_lowers (Some a) None (Some n) h = h
lesser_lowers (Some a) (Some b) (Some n) h = at_most a b n h
  where
    at_most : (a b n : ℕ) → a ≤ n → min a b ≤ n
    at_most a b n h = grind arith

lesser_second : (v w : Option ℕ) → IsNoGreater (lesser v w) w
lesser_second v None = tt
lesser_second None (Some b) = omega arith
lesser_second (Some a) (Some b) = at_most a b
  where
    at_most : (a b : ℕ) → min a b ≤ b
    at_most a b = grind arith

lesser_is : (v w : Option ℕ) (c : ℕ) → lesser v w ≡ Some c → (v ≡ Some c) ⊎ (w ≡ Some c)
lesser_is None w c e = inr e
lesser_is (Some a) None c e = inl e
lesser_is (Some a) (Some b) c e = elim (min_cases a b) [ inl l ↦ inl (sym (ap Some l) ∙ e) | inr r ↦ inr (sym (ap Some r) ∙ e) ]
  where
    min_cases : (a b : ℕ) → (min a b ≡ a) ⊎ (min a b ≡ b)
    min_cases a b = grind arith

no_greater_self : (v : Option ℕ) → IsNoGreater v v
no_greater_self None = tt
no_greater_self (Some a) = omega arith

-- nothing was tried
pub tried_none : (value : Ready → Option ℕ) (s : ℕ) (old : ℕ → Option ℕ) → HasTried value s [] old old
tried_none value s old = record { lower = λ q w h. h; tried = λ r h e. absurd h; from = λ q c e. inl e }

worth_more : (value : Ready → Option ℕ) (rs : List Ready) (r : Ready) (q c : ℕ) → IsWorth value rs q c → IsWorth value (rs ++ r ∷ []) q c
worth_more value rs r q c w = record { ready = w.ready; has = has_left rs (r ∷ []) w.ready w.has; left = w.left; is = w.is }

-- a rule of another state is passed
pub tried_past :
    (value : Ready → Option ℕ) (s : ℕ) (rs : List Ready) (r : Ready) (old mid : ℕ → Option ℕ) → (r.state ≡ s → ⊥) → HasTried value s rs old mid → HasTried value s (rs ++ r ∷ []) old mid
tried_past value s rs r old mid other was = record {
  lower = was.lower;
  tried = λ x h e. elim (has_or_last rs r x h) [ inl a ↦ was.tried x a e | inr same ↦ absurd (other (ap (λ (y : Ready). y.state) same ∙ e)) ];
  from = λ q c e. elim (was.from q c e) [ inl a ↦ inl a | inr w ↦ inr (worth_more value rs r q c w) ];
}

-- a rule is tried
pub tried_more :
    (value : Ready → Option ℕ) (s : ℕ) (rs : List Ready) (r : Ready) (old mid new : ℕ → Option ℕ) (w : Option ℕ) → w ≡ value r →
    ((q : ℕ) → new q ≡ (if nat_eq r.left q then lesser (mid q) w else mid q)) → HasTried value s rs old mid → HasTried value s (rs ++ r ∷ []) old new
tried_more value s rs r old mid new w is step was = record {
  lower = λ q x h. lowers q x (was.lower q x h);
  tried = λ x h e. elim (has_or_last rs r x h) [ inl a ↦ lowers x.left (value x) (was.tried x a e) | inr same ↦ subst (λ (y : Ready). IsNoGreater (new y.left) (value y)) same own ];
  from = λ q c e. comes q c (nat_eq_cases r.left q) e;
}
  where
    lowers : (q : ℕ) (x : Option ℕ) → IsNoGreater (mid q) x → IsNoGreater (new q) x
    lowers q x h = rw (step q) (elim (nat_eq_cases r.left q) [ inl y ↦ rw y.1 (lesser_lowers (mid q) w x h) | inr n ↦ rw n.1 h ])

    own : IsNoGreater (new r.left) (value r)
    own = rw (step r.left, ← is) (elim (nat_eq_cases r.left r.left) [ inl y ↦ rw y.1 (lesser_second (mid r.left) w) | inr n ↦ absurd (n.0 refl) ])

    before : (q c : ℕ) → mid q ≡ Some c → (old q ≡ Some c) ⊎ IsWorth value (rs ++ r ∷ []) q c
    before q c e = elim (was.from q c e) [ inl a ↦ inl a | inr x ↦ inr (worth_more value rs r q c x) ]

    comes : (q c : ℕ) → ((r.left ≡ q) × (nat_eq r.left q ≡ true)) ⊎ ((r.left ≡ q → ⊥) × (nat_eq r.left q ≡ false)) → new q ≡ Some c → (old q ≡ Some c) ⊎ IsWorth value (rs ++ r ∷ []) q c
    comes q c (inl y) e =
        let here : lesser (mid q) w ≡ Some c = subst (λ b. (if b then lesser (mid q) w else mid q) ≡ Some c) y.1 (sym (step q) ∙ e) in
        elim (lesser_is (mid q) w c here) [
          | inl a ↦ before q c a
          | inr a ↦ inr (record { ready = r; has = has_last rs r; left = y.0; is = sym is ∙ a })
        ]
    comes q c (inr n) e = before q c (subst (λ b. (if b then lesser (mid q) w else mid q) ≡ Some c) n.1 (sym (step q) ∙ e))

-- a rule of no worth is tried
pub tried_worthless :
    (value : Ready → Option ℕ) (s : ℕ) (rs : List Ready) (r : Ready) (old mid : ℕ → Option ℕ) → None ≡ value r → HasTried value s rs old mid → HasTried value s (rs ++ r ∷ []) old mid
tried_worthless value s rs r old mid is was = tried_more value s rs r old mid mid None is (λ q. keeps (nat_eq r.left q) (mid q)) was
  where
    keeps : (b : Bool) (v : Option ℕ) → v ≡ (if b then lesser v None else v)
    keeps true None = refl
    keeps true (Some a) = refl
    keeps false v = refl

-- nothing was tried for any entry
pub all_none : (value : Ready → Option ℕ) (at : ℕ → List Ready) (new : ℕ → Option ℕ) → ((q : ℕ) → new q ≡ None) → HasTriedAll value [] at new
all_none value at new blank = record { tried = λ e r h. absurd h; from = λ q c e. absurd (none_some (new q) c (blank q) e) }
  where
    none_some : (o : Option ℕ) (c : ℕ) → o ≡ None → o ≡ Some c → ⊥
    none_some o c a b = absurd (cc (sym a ∙ b))

-- the slot of one more entry was tried
pub all_more :
    (value : Ready → Option ℕ) (v : List Entry) (e : Entry) (at : ℕ → List Ready) (rs : List Ready) (mid new : ℕ → Option ℕ) → rs ≡ at e.state → HasTried value e.state rs mid new → HasTriedAll value v at mid →
    HasTriedAll value (v ++ e ∷ []) at new
all_more value v e at rs mid new is step was = record {
  tried = λ x r h a s. elim (has_or_last v e x h) [
    | inl b ↦ step.lower r.left (value r) (was.tried x r b a s)
    | inr same ↦ step.tried r (subst (λ (l : List Ready). Has l r) (ap (λ (y : Entry). at y.state) (sym same) ∙ sym is) a) (s ∙ ap (λ (y : Entry). y.state) (sym same))
  ];
  from = λ q c h. elim (step.from q c h) [
    | inl a ↦ was.from q c a
    | inr w ↦ (e.state, record { ready = w.ready; has = subst (λ (l : List Ready). Has l w.ready) is w.has; left = w.left; is = w.is })
  ];
}

-- the cost at an entry of an ascending vector
pub cost_at_entry : (v : List Entry) (i : ℕ) (d : Entry) → IsAscending v → i < length v → cost_in v (get_or v i d).state ≡ Some (get_or v i d).cost
cost_at_entry [] i d a h = absurd (omega arith)
cost_at_entry (x ∷ xs) zero d a h = elim (nat_eq_cases x.state x.state) [ inl y ↦ rw y.1 refl | inr n ↦ absurd (n.0 refl) ]
cost_at_entry (x ∷ xs) (suc i) d a h = elim (nat_eq_cases x.state (get_or xs i d).state) [
  | inl y ↦ absurd (omega (arith, y.0, above xs i a.0 (omega arith)))
  | inr n ↦ rw n.1 (cost_at_entry xs i d a.1 (omega arith))
]
  where
    above : (ys : List Entry) (k : ℕ) → Each (λ e. x.state < e.state) ys → k < length ys → x.state < (get_or ys k d).state
    above [] k u l = absurd (omega arith)
    above (y ∷ ys) zero u l = u.0
    above (y ∷ ys) (suc k) u l = above ys k u.1 (omega arith)

times_cut : (product : ℕ → ℕ → ℕ) (v w : Option ℕ) → IsCut (times product v w)
times_cut product None w = tt
times_cut product (Some a) None = tt
times_cut product (Some a) (Some b) = elim (cut-cases (product a b)) [ inl h ↦ rw h.1 h.0 | inr h ↦ rw h.1 tt ]

all_cut : (product : ℕ → ℕ → ℕ) (qs : List ℕ) (vs : List (List Entry)) → IsCut (times_all product qs vs)
all_cut product [] vs = omega arith
all_cut product (q ∷ qs) [] = tt
all_cut product (q ∷ qs) (v ∷ vs) = times_cut product (cost_in v q) (times_all product qs vs)

-- after the place the product is that of all
beside_behind : (product : ℕ → ℕ → ℕ) (j i : ℕ) (qs : List ℕ) (vs : List (List Entry)) → j < i → times_beside product j i qs vs ≡ times_all product qs vs
beside_behind product j i [] vs h = refl
beside_behind product j i (q ∷ qs) [] h = refl
beside_behind product j i (q ∷ qs) (v ∷ vs) h = elim (nat_eq_cases i j) [
  | inl y ↦ absurd (omega (arith, y.0))
  | inr n ↦ rw (n.1, beside_behind product j (suc i) qs vs (omega arith)) refl
]

-- states that agree beside the place have one product there
pub beside_agrees :
    (product : ℕ → ℕ → ℕ) (j i : ℕ) (ps qs : List ℕ) (vs : List (List Entry)) → length ps ≡ length qs → ((k : ℕ) → k < length ps → (i + k ≡ j → ⊥) → get_or ps k 0 ≡ get_or qs k 0) →
    times_beside product j i ps vs ≡ times_beside product j i qs vs
beside_agrees product j i [] [] vs long same = refl
beside_agrees product j i [] (q ∷ qs) vs long same = absurd (omega arith)
beside_agrees product j i (p ∷ ps) [] vs long same = absurd (omega arith)
beside_agrees product j i (p ∷ ps) (q ∷ qs) [] long same = refl
beside_agrees product j i (p ∷ ps) (q ∷ qs) (v ∷ vs) long same =
    let rest : times_beside product j (suc i) ps vs ≡ times_beside product j (suc i) qs vs =
    beside_agrees product j (suc i) ps qs vs (omega arith) (λ k h other. same (suc k) (omega arith) (λ e. other (omega (arith, e))))
    in
    elim (nat_eq_cases i j) [
      | inl y ↦ rw (y.1, rest) refl
      | inr n ↦ let here : p ≡ q = same 0 (omega arith) (λ e. n.0 (omega (arith, e))) in rw (n.1, rest, here) refl
    ]

module _ {levelled weighted : Bool} {product : ℕ → ℕ → ℕ} (laws : ProductLaws levelled weighted product) where
  swaps : (u v w : Option ℕ) → times product u (times product v w) ≡ times product v (times product u w)
  swaps u v w = sym (times_regroups laws u v w) ∙ ap (λ x. times product x w) (times_commutes laws u v) ∙ times_regroups laws v u w

  -- the cost at the place, times the product beside it
  pub beside_all :
      (j i k : ℕ) (qs : List ℕ) (vs : List (List Entry)) → j ≡ i + k → k < length qs → length qs ≤ length vs →
      times product (cost_in (get_or vs k []) (get_or qs k 0)) (times_beside product j i qs vs) ≡ times_all product qs vs
  beside_all j i k [] vs e h l = absurd (omega arith)
  beside_all j i k (q ∷ qs) [] e h l = absurd (omega arith)
  beside_all j i zero (q ∷ qs) (v ∷ vs) e h l = elim (nat_eq_cases i j) [
    | inl y ↦ rw (y.1, beside_behind product j (suc i) qs vs (omega (arith, e))) (ap (times product (cost_in v q)) (times_neutral laws (times_all product qs vs) (all_cut product qs vs)))
    | inr n ↦ absurd (n.0 (omega (arith, e)))
  ]
  beside_all j i (suc k) (q ∷ qs) (v ∷ vs) e h l = elim (nat_eq_cases i j) [
    | inl y ↦ absurd (omega (arith, e, y.0))
    | inr n ↦ rw n.1 (
        swaps (cost_in (get_or vs k []) (get_or qs k 0)) (cost_in v q) (times_beside product j (suc i) qs vs)
        ∙ ap (times product (cost_in v q)) (beside_all j (suc i) k qs vs (omega (arith, e)) (omega arith) (omega arith))
        )
  ]

  module _ (rules : List (Rule ℕ)) (normal : AreNormal rules) where
    -- a rule that was made ready is worth its cost times that of its states
    pub worth_is :
        (n j : ℕ) (vs : List (List Entry)) (r : Ready) → IsReady rules n j r → IsRuleOver rules n r.position → j < n → n ≤ length vs →
        worth product rules j vs r ≡ times product (Some (rule_at rules r.position).cost) (times_all product (holes (rule_at rules r.position).right.kids) vs)
    worth_is n j vs r ready over h l =
        let long : length (holes (rule_at rules r.position).right.kids) ≡ n = length-holes (rule_at rules r.position).right.kids (normal r.position over.below).are_holes ∙ over.many in
        let rest_long : length (holes (rule_at rules r.rest).right.kids) ≡ n = length-holes (rule_at rules r.rest).right.kids (normal r.rest ready.rest.below).are_holes ∙ ready.rest.many in
        let agrees : rest_worth product rules j vs r.rest ≡ rest_worth product rules j vs r.position =
        beside_agrees product j 0 (holes (rule_at rules r.rest).right.kids) (holes (rule_at rules r.position).right.kids) vs (rest_long ∙ sym long)
        (λ k b other. ready.beside k (omega (arith, rest_long)) (λ e. other (omega (arith, e))))
        in
        let all : times product (cost_in (get_or vs j []) (state_below rules r.position j)) (rest_worth product rules j vs r.position) ≡ times_all product (holes (rule_at rules r.position).right.kids) vs =
        beside_all j 0 j (holes (rule_at rules r.position).right.kids) vs (omega arith) (omega (arith, long)) (omega (arith, long))
        in
        rw (ready.state, agrees, all, ready.cost) (times_commutes laws _ _)

-- an item of a list, as it was read
pub has_item : {A : Type 0} (xs : List A) (i : ℕ) (x : A) → i < length xs → x ≡ get_or xs i x → Has xs x
has_item xs i x h e = subst (Has xs) (sym e) (has_at xs i x h)

pub taken : {A : Type 0} (P : List A → Type 0) (xs : List A) (i : ℕ) (x : A) → i < length xs → x ≡ get_or xs i x → P (take i xs ++ x ∷ []) → P (take (i + 1) xs)
taken {A} P xs i x h e p = subst P (sym (take_more xs i x h ∙ ap (λ (y : A). take i xs ++ y ∷ []) (sym e))) p

beside_cut : (product : ℕ → ℕ → ℕ) (j i : ℕ) (qs : List ℕ) (vs : List (List Entry)) → IsCut (times_beside product j i qs vs)
beside_cut product j i [] vs = omega arith
beside_cut product j i (q ∷ qs) [] = tt
beside_cut product j i (q ∷ qs) (v ∷ vs) = times_cut product (if nat_eq i j then Some 0 else cost_in v q) (times_beside product j (suc i) qs vs)

pub beside-step :
    (product : ℕ → ℕ → ℕ) (j : ℕ) (qs : List ℕ) (vs : List (List Entry)) (i : ℕ) → 0 < i → i ≤ length qs → i ≤ length vs →
    times_beside product j (i - 1) (drop (i - 1) qs) (drop (i - 1) vs)
    ≡ times product (if nat_eq (i - 1) j then Some 0 else cost_in (get_or vs (i - 1) []) (get_or qs (i - 1) 0)) (times_beside product j i (drop i qs) (drop i vs))
beside-step product j qs vs i h k l =
    let e : i - 1 + 1 ≡ i = omega arith in
    let s : suc (i - 1) ≡ i = omega arith in
    rw (drop_more qs (i - 1) 0 (omega arith), drop_more vs (i - 1) [] (omega arith), e, s) refl

-- where the product after is none, so is that of all
beside-none :
    (product : ℕ → ℕ → ℕ) (j i k : ℕ) (qs : List ℕ) (vs : List (List Entry)) → k ≤ length qs → k ≤ length vs → times_beside product j (i + k) (drop k qs) (drop k vs) ≡ None → times_beside product j i qs vs ≡ None
beside-none product j i zero qs vs h l e = let z : i + 0 ≡ i = omega arith in subst (λ m. times_beside product j m qs vs ≡ None) z e
beside-none product j i (suc k) [] vs h l e = absurd (omega arith)
beside-none product j i (suc k) (q ∷ qs) [] h l e = absurd (omega arith)
beside-none product j i (suc k) (q ∷ qs) (v ∷ vs) h l e =
    let m : i + suc k ≡ suc i + k = omega arith in
    let behind : times_beside product j (suc i + k) (drop k qs) (drop k vs) ≡ None = subst (λ n. times_beside product j n (drop k qs) (drop k vs) ≡ None) m e in
    rw (beside-none product j (suc i) k qs vs (omega arith) (omega arith) behind) (times-none product (if nat_eq i j then Some 0 else cost_in v q))

-- one more hole, at the place
pub hole_at_place :
    {levelled weighted : Bool} {product : ℕ → ℕ → ℕ} → ProductLaws levelled weighted product → (stack : List (Vec Entry)) (hs : List (Item ℕ)) (j i p : ℕ) → 0 < i → i ≤ length hs → length hs ≤ length stack → i - 1 ≡ j →
    Some p ≡ times_beside product j i (drop i (map state_in hs)) (drop i (vectors stack)) →
    Some p ≡ times_beside product j (i - 1) (drop (i - 1) (map state_in hs)) (drop (i - 1) (vectors stack))
hole_at_place {product = product} laws stack hs j i p h k l here before =
    let long : length (map state_in hs) ≡ length hs = simp length-map in
    let step = beside-step product j (map state_in hs) (vectors stack) i h (omega arith) (omega (arith, length-vectors stack)) in
    let test : nat_eq (i - 1) j ≡ true = elim (nat_eq_cases (i - 1) j) [ inl y ↦ y.1 | inr n ↦ absurd (n.0 here) ] in
    before
    ∙ sym (times_neutral laws (times_beside product j i (drop i (map state_in hs)) (drop i (vectors stack))) (beside_cut product j i (drop i (map state_in hs)) (drop i (vectors stack))))
    ∙ sym (step ∙ rw test refl)

-- one more hole, where its cost was looked up
pub hole_beside :
    (product : ℕ → ℕ → ℕ) (stack : List (Vec Entry)) (hs : List (Item ℕ)) (j i : ℕ) (r : Vec Entry) (looked : Option ℕ) (p : ℕ) → 0 < i → i ≤ length hs → length hs ≤ length stack → (i - 1 ≡ j → ⊥) →
    Each IsAscending (vectors stack) → r ≡ get_or stack (length stack - 1 - (i - 1)) r → looked ≡ cost_in r.items (state_in (get_or hs (i - 1) (Label 0 0))) →
    Some p ≡ times_beside product j i (drop i (map state_in hs)) (drop i (vectors stack)) →
    times_beside product j (i - 1) (drop (i - 1) (map state_in hs)) (drop (i - 1) (vectors stack)) ≡ times product looked (Some p)
hole_beside product stack hs j i r looked p h k l other ascend at found before =
    let s = slot stack hs (i - 1) r (omega arith) l ascend at in
    let long : length (map state_in hs) ≡ length hs = simp length-map in
    let step = beside-step product j (map state_in hs) (vectors stack) i h (omega arith) (omega (arith, length-vectors stack)) in
    let test : nat_eq (i - 1) j ≡ false = elim (nat_eq_cases (i - 1) j) [ inl y ↦ absurd (other y.0) | inr n ↦ n.1 ] in
    let here : cost_in (get_or (vectors stack) (i - 1) []) (get_or (map state_in hs) (i - 1) 0) ≡ looked = rw (s.vector, s.state) (sym found) in
    step ∙ rw (test, here, ← before) refl

-- where it is none, so is the product of all
pub none_beside :
    (product : ℕ → ℕ → ℕ) (stack : List (Vec Entry)) (hs : List (Item ℕ)) (j i : ℕ) → i ≤ length hs → length hs ≤ length stack →
    times_beside product j (i - 1) (drop (i - 1) (map state_in hs)) (drop (i - 1) (vectors stack)) ≡ None → None ≡ times_beside product j 0 (map state_in hs) (vectors stack)
none_beside product stack hs j i k l e =
    let long : length (map state_in hs) ≡ length hs = simp length-map in
    let z : i - 1 ≡ 0 + (i - 1) = omega arith in
    sym (beside-none product j 0 (i - 1) (map state_in hs) (vectors stack) (omega arith) (omega (arith, length-vectors stack)) (subst (λ m. times_beside product j m (drop (i - 1) (map state_in hs)) (drop (i - 1) (vectors stack)) ≡ None) z e))

no_greater_at_most : (v w : Option ℕ) (m : ℕ) → IsNoGreater v w → AtMost w m → AtMost v m
no_greater_at_most v None m h a = absurd a
no_greater_at_most None (Some n) m h a = absurd h
no_greater_at_most (Some b) (Some n) m h a = omega (arith, h, a)

-- a state has no cost in a vector, or an entry
entry_or_none : (v : List Entry) (q : ℕ) → (cost_in v q ≡ None) ⊎ ((e : Entry) × Has v e × (e.state ≡ q))
entry_or_none [] q = inl refl
entry_or_none (e ∷ es) q = elim (nat_eq_cases e.state q) [
  | inl y ↦ inr (e, inl refl, y.0)
  | inr n ↦ elim (entry_or_none es q) [
    | inl costless ↦ inl (rw n.1 costless)
    | inr at ↦ inr (at.0, inr at.1, at.2)
  ]
]

module _ {levelled weighted : Bool} {product : ℕ → ℕ → ℕ} (laws : ProductLaws levelled weighted product) (rules : List (Rule ℕ)) (normal : AreNormal rules) (ts : Trees ℕ) (vs : List (List Entry))
    (f n j : ℕ) (t : Table) (new : ℕ → Option ℕ) (enough : n ≤ count ts) (deep : n ≤ length vs) (inside : j < n) (w : Weighed product rules ts vs) (table : IsTable rules n (positions_with f n rules) j t)
    (all : HasTriedAll (worth product rules j vs) (get_or vs j []) (bucket t) new) where
  place : (p : ℕ) → Has (positions_with f n rules) p → IsRulePlace rules f n p
  place p h = has_rule_place rules f n p h

  over : (p : ℕ) → Has (positions_with f n rules) p → IsRuleOver rules n p
  over p h = let at = place p h in record { below = at.below; many = at.many }

  -- what a rule is worth in a list of the table
  worthy : (r : Ready) → Has (positions_with f n rules) r.position → IsReady rules n j r →
      worth product rules j vs r ≡ times product (Some (rule_at rules r.position).cost) (times_all product (holes (rule_at rules r.position).right.kids) vs)
  worthy r h ready = worth_is laws rules normal n j vs r ready (over r.position h) inside deep

  member : (q : ℕ) (v : Option ℕ) → new q ≡ v → IsMember (BeginsAmong product rules q f (first_trees n ts) (positions_with f n rules)) v
  member q None e = tt
  member q (Some c) e =
      let from = all.from q c e in
      let r : Ready = from.1.ready in
      let held = table.only _ r from.1.has in
      let left : (rule_at rules r.position).left ≡ q = sym held.1.left ∙ from.1.left in
      let least = rule_least laws rules normal ts vs f n r.position q (place r.position held.0) enough w left in
      let is : times product (Some (rule_at rules r.position).cost) (times_all product (holes (rule_at rules r.position).right.kids) vs) ≡ Some c = sym (worthy r held.0 held.1) ∙ from.1.is in
      let attained = subst (IsMember (Begins product rules q f (first_trees n ts) r.position)) is least.attained in
      ((r.position, held.0, attained.0), attained.1)

  lower : (q m : ℕ) → BeginsAmong product rules q f (first_trees n ts) (positions_with f n rules) m → m ≤ most → AtMost (new q) m
  lower q m b h =
      let p : ℕ = b.0 in
      let at = place p b.1 in
      let least = rule_least laws rules normal ts vs f n p q at enough w b.2.left in
      let most_of = least.lower m b.2 h in
      let stands = table.all p b.1 in
      let long : length (holes (rule_at rules p).right.kids) ≡ n = length-holes (rule_at rules p).right.kids (normal p at.below).are_holes ∙ at.many in
      elim (entry_or_none (get_or vs j []) (state_below rules p j)) [
        | inl lacking ↦
            let costless : times_all product (holes (rule_at rules p).right.kids) vs ≡ None = times_all-none_at product (holes (rule_at rules p).right.kids) vs j (omega (arith, long)) lacking in
            let worthless : times product (Some (rule_at rules p).cost) (times_all product (holes (rule_at rules p).right.kids) vs) ≡ None = rw costless refl in
            absurd (subst (λ v. AtMost v m) worthless most_of)
        | inr e ↦ by_entry p stands e.0 e.1 e.2 most_of b.2.left
      ]
    where
      by_entry : (p : ℕ) → Stands (bucket t (state_below rules p j)) p → (e : Entry) → Has (get_or vs j []) e → e.state ≡ state_below rules p j →
          AtMost (times product (Some (rule_at rules p).cost) (times_all product (holes (rule_at rules p).right.kids) vs)) m → (rule_at rules p).left ≡ q → AtMost (new q) m
      by_entry p stands e has state most_of left =
          let r : Ready = stands.ready in
          let held = table.only _ r stands.has in
          let in_slot : Has (bucket t e.state) r = subst (λ s. Has (bucket t s) r) (sym state) stands.has in
          let same_state : r.state ≡ e.state = held.1.state ∙ ap (λ i. state_below rules i j) stands.is ∙ sym state in
          let tried = all.tried e r has in_slot same_state in
          let r_left : r.left ≡ q = held.1.left ∙ ap (λ i. (rule_at rules i).left) stands.is ∙ left in
          let value : worth product rules j vs r ≡ times product (Some (rule_at rules p).cost) (times_all product (holes (rule_at rules p).right.kids) vs) =
          worthy r held.0 held.1 ∙ ap (λ i. times product (Some (rule_at rules i).cost) (times_all product (holes (rule_at rules i).right.kids) vs)) stands.is
          in
          subst (λ i. AtMost (new i) m) r_left (no_greater_at_most (new r.left) (worth product rules j vs r) m tried (subst (λ v. AtMost v m) (sym value) most_of))

  -- the vector of the node
  pub vector_found : (v : List Entry) → IsAscending v → ((q : ℕ) → cost_in v q ≡ new q) → IsVectorOf product rules f (first_trees n ts) v
  vector_found v ascends costs = record {
    ascends = ascends;
    least = λ q. rw (costs q) (among_all laws rules normal q f n (first_trees n ts) (count-first n ts enough) (record { attained = member q (new q) refl; lower = lower q }));
  }
