-- How one side spreads against the chain rules to its least costs.
use Rattle.std.specs.Prelude.{◌≡◌, ℕ, ◌+◌, ◌<◌, ◌≤◌, ◌⊎◌, List, [], ◌∷◌, ◌++◌, length, Option, None, Some, Contains, Bool, refl, slice_set, ◌*◌}
use Rattle.std.proofs.Common.{zero, suc, get_or, arith, ap, sym, ◌∙◌, subst, inl, inr, add-one}
use Rattle.std.proofs.lemmas.List.Elements.{Contains-push, Contains-append_left}
use Rattle.std.proofs.lemmas.List.{get_or-set_other}
use Rattle.std.proofs.Math.Nat.{suc-mul}
use Rattle.tib_grammar.specs.Sides.{Lone}
use Rattle.tib_grammar.specs.Range.{AreInRange, AreBelow}
use Rattle.tib_grammar.specs.Run.{rule_at}
use Rattle.tib_grammar.specs.declared.Rule.{Rule}
use Rattle.tib_cost.specs.Semiring.{ProductLaws, most, cut}
use Rattle.tib_cost.specs.Least.{IsLeast}
use Rattle.tib_cost.proofs.Least.{cut-cases}
use Rattle.tib_normal.specs.NormalForm.{IsChain, chain_cost}
use Rattle.tib_normal.specs.Offers.{IsOffer, no_side}
use Rattle.tib_normal.specs.Closure.{LeadsTo, Waits, HasOrWaits, IsClosing, Spreads, IsStep, AreListed}
use Rattle.tib_normal.specs.Entries.{AddsEntry, TakesLeast}
use Rattle.tib_normal.specs.Links.{IsNext, no_key}
use Rattle.tib_normal.specs.Ways.{AreEnds}
use Rattle.tib_normal.specs.Entries.{unset}
use Rattle.tib_lex.proofs.Numbers.{same_or_other}

-- a state at which a side has a cost is in range
pub offer-below :
    (product : ℕ → ℕ → ℕ) (rules : List (Rule ℕ)) (numbers : List ℕ) (states q s c : ℕ) → AreInRange states rules → IsOffer product rules numbers q s c →
    q < states
offer-below product rules numbers states q s c range o = by o.leads.chain o.leads.leads
  where
    by : (ns : List ℕ) → IsChain rules q ns (rule_at rules o.rule).left → q < states
    by [] e = subst (λ z. z < states) (sym e) (range o.rule o.below).0
    by (n ∷ ns) h = subst (λ z. z < states) h.1 (range n h.0).0

module _ {levelled weighted : Bool} {product : ℕ → ℕ → ℕ} (laws : ProductLaws levelled weighted product) (rules : List (Rule ℕ)) (numbers : List ℕ) (s : ℕ) where
  at_least_right : (a b : ℕ) → b ≤ product a b
  at_least_right a b = rw laws.commutes (laws.at_least b a)

  grows_left : (a b c : ℕ) → a ≤ b → product a c ≤ product b c
  grows_left a b c h = rw (laws.commutes a c, laws.commutes b c) (laws.grows c a b h)

  -- what the end of a chain rule gets, its left state gets
  extends : (p n r c : ℕ) → IsOffer product rules numbers r s c → LeadsTo rules p n r → IsOffer product rules numbers p s (product c (rule_at rules n).cost)
  extends p n r c o l =
      let w : ℕ = (rule_at rules n).cost in
      let v : ℕ = (rule_at rules o.rule).cost in
      record {
        rule = o.rule;
        below = o.below;
        number = o.number;
        chained = product w o.chained;
        leads = record { chain = n ∷ o.leads.chain; leads = (l.below, l.left, (r, l.right, o.leads.leads)); costs = ap (product w) o.leads.costs };
        costs = laws.regroups w o.chained v ∙ ap (product w) o.costs ∙ laws.commutes w c;
      }

  -- a rule with the side gives it to its left state
  own_offer : (n : ℕ) → n < length rules → get_or numbers n no_side ≡ s → IsOffer product rules numbers (rule_at rules n).left s (product 0 (rule_at rules n).cost)
  own_offer n h e = record { rule = n; below = h; number = e; chained = 0; leads = record { chain = []; leads = refl; costs = refl }; costs = refl }

  module _ (costs : ℕ → Option ℕ) (entries : List (ℕ × ℕ)) (closing : IsClosing product rules numbers s costs entries) where
    nothing : (r d : ℕ) → costs r ≡ None → costs r ≡ Some d → ⊥
    nothing r d e h = let k : None ≡ Some d = sym e ∙ h in cc k

    waiting : (r c m : ℕ) → costs r ≡ None → HasOrWaits costs entries r c → c ≤ m → (e : ℕ × ℕ) × Contains entries e × (e.0 ≤ m)
    waiting r c m unknown (inl k) b = absurd (nothing r k.0 unknown k.1)
    waiting r c m unknown (inr w) b = ((w.cost, r), w.held, omega (arith, w.small, b))

    -- where a state without a cost has an offer, some entry is no dearer
    crossing :
        (ns : List ℕ) (r n : ℕ) → costs r ≡ None → n < length rules → get_or numbers n no_side ≡ s → IsChain rules r ns (rule_at rules n).left →
        product (chain_cost product rules ns) (rule_at rules n).cost ≤ most →
        (e : ℕ × ℕ) × Contains entries e × (e.0 ≤ product (chain_cost product rules ns) (rule_at rules n).cost)
    crossing [] r n unknown h number chain b =
        let same : product 0 (rule_at rules n).cost ≡ (rule_at rules n).cost = laws.neutral (rule_at rules n).cost in
        waiting (rule_at rules n).left (rule_at rules n).cost (product 0 (rule_at rules n).cost) (ap costs (sym chain) ∙ unknown) (closing.start n h number (omega (arith, b, same))) (omega (arith, same))
    crossing (i ∷ ns) r n unknown h number chain b =
        by (λ none_yet small. crossing ns chain.2.0 n none_yet h number chain.2.2 small) (costs chain.2.0) refl
      where
        whole : product (product (rule_at rules i).cost (chain_cost product rules ns)) (rule_at rules n).cost ≡ product (product (chain_cost product rules ns) (rule_at rules n).cost) (rule_at rules i).cost
        whole =
            laws.regroups (rule_at rules i).cost (chain_cost product rules ns) (rule_at rules n).cost
            ∙ laws.commutes (rule_at rules i).cost (product (chain_cost product rules ns) (rule_at rules n).cost)

        inner : product (chain_cost product rules ns) (rule_at rules n).cost ≤ product (product (chain_cost product rules ns) (rule_at rules n).cost) (rule_at rules i).cost
        inner = laws.at_least (product (chain_cost product rules ns) (rule_at rules n).cost) (rule_at rules i).cost

        by :
            (costs chain.2.0 ≡ None → product (chain_cost product rules ns) (rule_at rules n).cost ≤ most →
            (e : ℕ × ℕ) × Contains entries e × (e.0 ≤ product (chain_cost product rules ns) (rule_at rules n).cost)) →
            (v : Option ℕ) → costs chain.2.0 ≡ v →
            (e : ℕ × ℕ) × Contains entries e × (e.0 ≤ product (product (rule_at rules i).cost (chain_cost product rules ns)) (rule_at rules n).cost)
        by further None e =
            let found = further e (omega (arith, b, whole, inner)) in
            (found.0, found.1, omega (arith, found.2, whole, inner))
        by further (Some d) e =
            let offer : IsOffer product rules numbers chain.2.0 s (product (chain_cost product rules ns) (rule_at rules n).cost) = record {
              rule = n;
              below = h;
              number = number;
              chained = chain_cost product rules ns;
              leads = record { chain = ns; leads = chain.2.2; costs = refl };
              costs = refl;
            } in
            let low : d ≤ product (chain_cost product rules ns) (rule_at rules n).cost =
            (closing.exact chain.2.0 d e).lower (product (chain_cost product rules ns) (rule_at rules n).cost) offer (omega (arith, b, whole, inner))
            in
            let less : product d (rule_at rules i).cost ≤ product (product (chain_cost product rules ns) (rule_at rules n).cost) (rule_at rules i).cost =
            grows_left d (product (chain_cost product rules ns) (rule_at rules n).cost) (rule_at rules i).cost low
            in
            let leads : LeadsTo rules r i chain.2.0 = record { below = chain.0; left = chain.1; right = chain.2.1 } in
            waiting r (product d (rule_at rules i).cost) (product (product (rule_at rules i).cost (chain_cost product rules ns)) (rule_at rules n).cost) unknown
            (closing.covered r d i chain.2.0 e leads (omega (arith, less, whole, b))) (omega (arith, less, whole))

    crossed : (r m : ℕ) → costs r ≡ None → IsOffer product rules numbers r s m → m ≤ most → (e : ℕ × ℕ) × Contains entries e × (e.0 ≤ m)
    crossed r m unknown o b =
        let is : product (chain_cost product rules o.leads.chain) (rule_at rules o.rule).cost ≡ m = ap (λ z. product z (rule_at rules o.rule).cost) o.leads.costs ∙ o.costs in
        let found = crossing o.leads.chain r o.rule unknown o.below o.number o.leads.leads (omega (arith, is, b)) in
        (found.0, found.1, omega (arith, found.2, is))

    -- the least entry is a least cost
    pub popped : (e : ℕ × ℕ) (rest : List (ℕ × ℕ)) → TakesLeast entries e rest → costs e.1 ≡ None → IsLeast (IsOffer product rules numbers e.1 s) (Some e.0)
    popped e rest t unknown = record {
      attained = closing.offers e t.held;
      lower = λ m c b. let x = crossed e.1 m unknown c b in omega (arith, x.2, t.least x.0 x.1);
    }

    waits_on : (e : ℕ × ℕ) (rest : List (ℕ × ℕ)) → TakesLeast entries e rest → (r c : ℕ) → Waits entries r c → (r ≡ e.1) ⊎ Waits rest r c
    waits_on e rest t r c w = elim (t.kept (w.cost, r) w.held) [
      | inl k ↦ inl (ap (λ z. z.1) k)
      | inr k ↦ inr (record { cost = w.cost; held = k; small = w.small })
    ]

    -- an entry of a state that has a cost is dropped
    pub skipped : (e : ℕ × ℕ) (rest : List (ℕ × ℕ)) (d : ℕ) → TakesLeast entries e rest → costs e.1 ≡ Some d → IsClosing product rules numbers s costs rest
    skipped e rest d t at = record {
      exact = closing.exact;
      offers = λ x h. closing.offers x (t.only x h);
      covered = λ p c n r k l b. told p (product c (rule_at rules n).cost) (closing.covered p c n r k l b);
      start = λ n h k b. told (rule_at rules n).left (rule_at rules n).cost (closing.start n h k b);
    }
      where
        has : (r c : ℕ) → (r ≡ e.1) ⊎ Waits rest r c → HasOrWaits costs rest r c
        has r c (inl k) = inl (d, ap costs k ∙ at)
        has r c (inr w) = inr w

        told : (r c : ℕ) → HasOrWaits costs entries r c → HasOrWaits costs rest r c
        told r c (inl k) = inl k
        told r c (inr w) = has r c (waits_on e rest t r c w)

    -- the state of the least entry gets its cost, and the left states of the chain rules to it wait
    pub settled :
        (ends : List ℕ) (e : ℕ × ℕ) (rest new : List (ℕ × ℕ)) (after : ℕ → Option ℕ) → AreEnds rules ends → e.1 < no_key → TakesLeast entries e rest → costs e.1 ≡ None →
        Spreads product rules ends e.1 e.0 (length rules) rest new → after e.1 ≡ Some e.0 → ((r : ℕ) → (r ≡ e.1 → ⊥) → after r ≡ costs r) →
        IsClosing product rules numbers s after new
    settled ends e rest new after are few t unknown spreads here others = record {
      exact = λ r d h. exact r d h (same_or_other r e.1);
      offers = λ x h. elim (spreads.only x h) [
        | inl k ↦ closing.offers x (t.only x k)
        | inr k ↦
            let is_end : get_or ends k.0 no_key ≡ no_key → ⊥ = λ z. omega (arith, sym k.2 ∙ z, few) in
            let right : (rule_at rules k.0).right ≡ Lone e.1 = (are.each k.0 k.1).lone is_end ∙ ap (λ z. Lone z) k.2 in
            let offer = extends (rule_at rules k.0).left k.0 e.1 e.0 (closing.offers e t.held).0 (record { below = k.1; left = refl; right = right }) in
            (subst (λ z. IsOffer product rules numbers x.1 s z) k.4 (subst (λ z. IsOffer product rules numbers z s (product e.0 (rule_at rules k.0).cost)) k.3 offer), k.5)
      ];
      covered = λ p d n r k l b. covered p d n r k l b (same_or_other r e.1);
      start = λ n h k b. told (rule_at rules n).left (rule_at rules n).cost (closing.start n h k b);
    }
      where
        kept : (r d : ℕ) → costs r ≡ Some d → after r ≡ Some d
        kept r d h = others r (λ k. nothing e.1 d unknown (ap costs (sym k) ∙ h)) ∙ h

        exact : (r d : ℕ) → after r ≡ Some d → (r ≡ e.1) ⊎ (r ≡ e.1 → ⊥) → IsLeast (IsOffer product rules numbers r s) (Some d)
        exact r d h (inl k) =
            let v : Some e.0 ≡ Some d = sym here ∙ ap after (sym k) ∙ h in
            subst (λ z. IsLeast (IsOffer product rules numbers z s) (Some d)) (sym k) (subst (λ o. IsLeast (IsOffer product rules numbers e.1 s) o) v (popped e rest t unknown))
        exact r d h (inr k) = closing.exact r d (sym (others r k) ∙ h)

        has : (r c : ℕ) → (r ≡ e.1) ⊎ Waits rest r c → HasOrWaits after new r c
        has r c (inl k) = inl (e.0, ap after k ∙ here)
        has r c (inr w) = inr (record { cost = w.cost; held = spreads.kept (w.cost, r) w.held; small = w.small })

        told : (r c : ℕ) → HasOrWaits costs entries r c → HasOrWaits after new r c
        told r c (inl k) = inl (k.0, kept r k.0 k.1)
        told r c (inr w) = has r c (waits_on e rest t r c w)

        covered :
            (p d n r : ℕ) → after r ≡ Some d → LeadsTo rules p n r → product d (rule_at rules n).cost ≤ most → (r ≡ e.1) ⊎ (r ≡ e.1 → ⊥) →
            HasOrWaits after new p (product d (rule_at rules n).cost)
        covered p d n r at l b (inl k) =
            let v : Some d ≡ Some e.0 = sym at ∙ ap after k ∙ here in
            let same : d ≡ e.0 = cc v in
            let cost_is : product d (rule_at rules n).cost ≡ product e.0 (rule_at rules n).cost = ap (λ z. product z (rule_at rules n).cost) same in
            let end_is : get_or ends n no_key ≡ e.1 = (are.each n l.below).chain r l.right ∙ k in
            let held : Contains new (product e.0 (rule_at rules n).cost, (rule_at rules n).left) = spreads.added n l.below l.below end_is (omega (arith, cost_is, b)) in
            inr (record { cost = product e.0 (rule_at rules n).cost; held = subst (λ z. Contains new (product e.0 (rule_at rules n).cost, z)) l.left held; small = omega (arith, cost_is) })
        covered p d n r at l b (inr k) = told p (product d (rule_at rules n).cost) (closing.covered p d n r (sym (others r k) ∙ at) l b)

  -- where nothing waits, each state has its least cost
  pub ended : (costs : ℕ → Option ℕ) → IsClosing product rules numbers s costs [] → (r : ℕ) → IsLeast (IsOffer product rules numbers r s) (costs r)
  ended costs closing r = go (costs r) refl
    where
      go : (o : Option ℕ) → costs r ≡ o → IsLeast (IsOffer product rules numbers r s) o
      go (Some d) e = closing.exact r d e
      go None e = record { attained = tt; lower = λ m c b. let x = crossed costs [] closing r m e c b in absurd (omega (arith, x.1.1)) }

  -- the left states of the rules with the side wait
  pub begun :
      (costs : ℕ → Option ℕ) (old new : List (ℕ × ℕ)) → ((r : ℕ) → costs r ≡ None) → old ≡ [] → Spreads product rules numbers s 0 (length rules) old new →
      IsClosing product rules numbers s costs new
  begun costs old new clear empty spreads = record {
    exact = λ r d h. let k : None ≡ Some d = sym (clear r) ∙ h in absurd (cc k);
    offers = λ x h. elim (spreads.only x h) [
      | inl k ↦ absurd (omega (arith, k.1, ap length empty))
      | inr k ↦
          let offer = own_offer k.0 k.1 k.2 in
          (subst (λ z. IsOffer product rules numbers x.1 s z) k.4 (subst (λ z. IsOffer product rules numbers z s (product 0 (rule_at rules k.0).cost)) k.3 offer), k.5)
    ];
    covered = λ p d n r h l b. let k : None ≡ Some d = sym (clear r) ∙ h in absurd (cc k);
    start = λ n h k b.
        let same : product 0 (rule_at rules n).cost ≡ (rule_at rules n).cost = laws.neutral (rule_at rules n).cost in
        inr (record { cost = product 0 (rule_at rules n).cost; held = spreads.added n h h k (omega (arith, same, b)); small = omega (arith, same) });
  }

-- what one rule adds

cut-some : (a c : ℕ) → cut a ≡ Some c → (a ≡ c) × (c ≤ most)
cut-some a c e = elim (cut-cases a) [
  | inl k ↦ let v : Some a ≡ Some c = sym k.1 ∙ e in let same : a ≡ c = cc v in (same, omega (arith, k.0))
  | inr k ↦ let v : None ≡ Some c = sym k.1 ∙ e in absurd (cc v)
]

pub step-push :
    (product : ℕ → ℕ → ℕ) (r : Rule ℕ) (d : ℕ) (old new : List (ℕ × ℕ)) (c : ℕ) → Some c ≡ cut (product d r.cost) → AddsEntry old (c, r.left) new → IsStep product r d old new
step-push product r d old new c fits adds =
    let cost = cut-some (product d r.cost) c (sym fits) in
    record {
      kept = adds.kept;
      added = λ b. subst (λ z. Contains new (z, r.left)) (sym cost.0) adds.new_one;
      only = λ e k. elim (adds.only e k) [
        | inl x ↦ inr (sym (ap (λ z. z.1) x), cost.0 ∙ sym (ap (λ z. z.0) x), omega (arith, cost.1, ap (λ z. z.0) x))
        | inr x ↦ inl x
      ];
      long = omega (arith, adds.long);
    }

-- one more rule
pub spread-more :
    (product : ℕ → ℕ → ℕ) (rules : List (Rule ℕ)) (keys : List ℕ) (key d n m : ℕ) (old mid new : List (ℕ × ℕ)) (r : Rule ℕ) → r ≡ rule_at rules n → n < length rules → get_or keys n no_key ≡ key →
    IsNext keys key (n + 1) m → Spreads product rules keys key d n old mid → IsStep product r d mid new → Spreads product rules keys key d m old new
spread-more product rules keys key d n m old mid new r at h own next spreads step = record {
  kept = λ e k. step.kept e (spreads.kept e k);
  added = λ i b l k c. added i b l k c (place i n);
  only = λ e k. elim (step.only e k) [
    | inl s ↦ spreads.only e s
    | inr s ↦ inr (n, h, own, sym (ap (λ z. z.left) at) ∙ s.0, ap (λ z. product d z.cost) (sym at) ∙ s.1, s.2)
  ];
  long = omega (arith, spreads.long, step.long, next.from);
}
  where
    place : (i n : ℕ) → (i < n) ⊎ ((i ≡ n) ⊎ (n < i))
    place i n = grind arith

    added :
        (i : ℕ) → i < m → i < length rules → get_or keys i no_key ≡ key → product d (rule_at rules i).cost ≤ most → (i < n) ⊎ ((i ≡ n) ⊎ (n < i)) →
        Contains new (product d (rule_at rules i).cost, (rule_at rules i).left)
    added i b l k c (inl z) = step.kept (product d (rule_at rules i).cost, (rule_at rules i).left) (spreads.added i z l k c)
    added i b l k c (inr (inr z)) = absurd (next.none_between i (omega arith) b k)
    added i b l k c (inr (inl z)) =
        let here : r ≡ rule_at rules i = at ∙ ap (rule_at rules) (sym z) in
        subst (λ (x : Rule ℕ). Contains new (product d x.cost, x.left)) here (step.added (subst (λ (x : Rule ℕ). product d x.cost ≤ most) (sym here) c))

pub spread-start : (product : ℕ → ℕ → ℕ) (rules : List (Rule ℕ)) (keys : List ℕ) (key d n : ℕ) (old : List (ℕ × ℕ)) → IsNext keys key 0 n → Spreads product rules keys key d n old old
spread-start product rules keys key d n old next = record {
  kept = λ e k. k;
  added = λ i b l k c. absurd (next.none_between i (omega arith) b k);
  only = λ e k. inl k;
  long = omega arith;
}

-- all rules
pub spread-all :
    (product : ℕ → ℕ → ℕ) (rules : List (Rule ℕ)) (keys : List ℕ) (key d m : ℕ) (old new : List (ℕ × ℕ)) → length rules ≤ m → m ≤ length rules → Spreads product rules keys key d m old new →
    Spreads product rules keys key d (length rules) old new
spread-all product rules keys key d m old new h k spreads = subst (λ z. Spreads product rules keys key d z old new) (omega (arith, h, k)) spreads

pub unset_one : (o : Option ℕ) → o ≡ None → unset o ≡ 1
unset_one None e = refl
unset_one (Some d) e = absurd (cc)

pub listed-more : (old : List (Option ℕ)) (reached : List ℕ) (state cost : ℕ) → AreListed old reached → AreListed (slice_set old state (Some cost)) (reached ++ state ∷ [])
listed-more old reached state cost listed r d e = by_case (same_state r state)
  where
    same_state : (r p : ℕ) → (r ≡ p) ⊎ (r ≡ p → ⊥)
    same_state r p = grind arith

    by_case : (r ≡ state) ⊎ (r ≡ state → ⊥) → Contains (reached ++ state ∷ []) r
    by_case (inl k) = subst (λ z. Contains (reached ++ state ∷ []) z) (sym k) (Contains-push reached state)
    by_case (inr k) = Contains-append_left reached (state ∷ []) r (listed r d (sym (get_or-set_other old state r (Some cost) None k) ∙ e))

pub below-more : (n : ℕ) (reached : List ℕ) (state : ℕ) → state < n → AreBelow n reached → AreBelow n (reached ++ state ∷ [])
below-more n [] state h b zero l = h
below-more n [] state h b (suc i) l = absurd (omega arith)
below-more n (x ∷ reached) state h b zero l = b 0 (omega arith)
below-more n (x ∷ reached) state h b (suc i) l = below-more n reached state h (λ j k. b (suc j) (omega arith)) i (omega arith)

-- the states without a cost and the entries together become fewer
pub fewer-left : (u v n a r l : ℕ) → u + 1 ≡ v → a ≤ r + n → r + 1 ≡ l → a + u * (n + 1) < l + v * (n + 1)
fewer-left u v n a r l e b k =
    let more : v * (n + 1) ≡ u * (n + 1) + (n + 1) = ap (λ z. z * (n + 1)) (sym e ∙ add-one u) ∙ suc-mul u (n + 1) in
    far (u * (n + 1)) (v * (n + 1)) n a r l more b k
  where
    far : (x y n a r l : ℕ) → y ≡ x + (n + 1) → a ≤ r + n → r + 1 ≡ l → a + x < l + y
    far x y n a r l m b k = omega arith
