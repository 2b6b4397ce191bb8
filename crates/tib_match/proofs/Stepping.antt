-- What is made of partial matches is what an item of a side leads to.
use Rattle.std.specs.Prelude.{◌≡◌, ℕ, ◌≤◌, Bool, true, false, nat_eq, nat_le, None, Some, List, [], ◌∷◌, ◌++◌, length, map, reverse, if◌then◌else◌, refl}
use Rattle.std.proofs.lemmas.List.{length-reverse}
use Rattle.std.proofs.Common.{zero, suc, get_or, drop, ◌+◌, ◌<◌, arith, ap, sym, ◌∙◌, subst, inl, inr}
use Rattle.std.proofs.lemmas.Bool.Decides.{nat_tests}
use Rattle.std.specs.Ordering.{nat_cmp, ordering_then}
use Rattle.std.specs.Cmp.Lexicographic.{slice_cmp}
use Rattle.std.specs.declared.cmp.Ordering.TheVariants.{Less}
use Rattle.tib_lex.specs.Lists.{Has, Ascends}
use Rattle.tib_cost.specs.Semiring.{cut, most}
use Rattle.tib_grammar.specs.Sides.{label, hole, holes_of, HolesAreLeaves, Side as SideFor}
use Rattle.tib_grammar.specs.Forms.{AreNormal}
use Rattle.tib_grammar.specs.Run.{rule_at}
use Rattle.tib_grammar.specs.declared.Rule.{Rule}
use Rattle.tib_grammar.proofs.Members.{has_left, has_right, has_either, each_of, each_has}
use Rattle.tib_grammar.proofs.Sides.{holes_of-label}
use Rattle.tib_normal.specs.Rules.{positions_with}
use Rattle.tib_tree.specs.Trees.{only, preorder_of}
use Rattle.tib_grammar.specs.Items.{pair_of, pairs_of}
use Rattle.tib_grammar.specs.declared.Item.{Item}
use Rattle.tib_cost.specs.Semiring.{ProductLaws}
use Rattle.tib_match.specs.MatchLists.{AreMatches}
use Rattle.tib_match.proofs.Found.{found_are_matches, nothing_waits}
use Rattle.tib_match.specs.PartialMatches.{Partial, LeadsOn, TakesHole, AreNext, AreFound, start_from, AreLeastOf}
use Rattle.tib_match.specs.Leading.{partial_of, partials_of, at_cost, placed_at, placed, all_placed, all_led, taken, taken_at, all_taken}
use Rattle.tib_match.specs.Merging.{place_cmp, AreMerged}
use Rattle.tib_match.specs.MatchView.{matched}
use Rattle.tib_match.specs.declared.partial.Partial.{Partial as Stored}
use Rattle.tib_match.proofs.Listed.{listed, is_listed}
use Rattle.tib_match.proofs.Placing.{placed_one}

has_map : {A B : Type 0} (f : A → B) (xs : List A) (y : B) → Has (map f xs) y → (x : A) × Has xs x × (f x ≡ y)
has_map f [] y h = absurd h
has_map f (x ∷ xs) y h = elim h [ inl e ↦ (x, inl refl, e) | inr k ↦ let r = has_map f xs y k in (r.0, inr r.1, r.2) ]

-- what a mapped list has
pub map_has : {A B : Type 0} (f : A → B) (xs : List A) (x : A) → Has xs x → Has (map f xs) (f x)
map_has f [] x h = absurd h
map_has f (y ∷ xs) x h = elim h [ inl e ↦ inl (ap f e) | inr k ↦ inr (map_has f xs x k) ]

-- r is what a rule makes of a partial match with this cost, these states and those that wait
record IsMadeBy (product : ℕ → ℕ → ℕ) (rule : Rule ℕ) (c : ℕ) (ss ws : List ℕ) (r : Partial) : Type 0 where
  others : List ℕ
  from : ws ≡ rule.left ∷ others
  costs : r.cost ≡ product c rule.cost
  within : r.cost ≤ most
  states : r.states ≡ ss
  next : r.waiting ≡ holes_of rule.right ++ others

-- r is the partial match of a cost that is at most the greatest
record IsAtCost (n : ℕ) (ss ws : List ℕ) (r : Partial) : Type 0 where
  costs : r.cost ≡ n
  within : r.cost ≤ most
  states : r.states ≡ ss
  waiting : r.waiting ≡ ws

at_cost_of : (n : ℕ) (ss ws : List ℕ) (r : Partial) → Has (at_cost (cut n) ss ws) r → IsAtCost n ss ws r
at_cost_of n ss ws r h = by (nat_le n most) refl h
  where
    low : nat_le n most ≡ true → n ≤ most
    low e = grind (arith, nat_tests)

    by : (b : Bool) → nat_le n most ≡ b → Has (at_cost (if b then Some n else None) ss ws) r → IsAtCost n ss ws r
    by true e (inl same) =
        let l : n ≤ most = low e in
        let cost : r.cost ≡ n = ap (λ (p : Partial). p.cost) (sym same) in
        record { costs = cost; within = omega arith; states = ap (λ (p : Partial). p.states) (sym same); waiting = ap (λ (p : Partial). p.waiting) (sym same) }
    by true e (inr k) = absurd k
    by false e k = absurd k

made_by : (product : ℕ → ℕ → ℕ) (rule : Rule ℕ) (c : ℕ) (ss ws : List ℕ) (r : Partial) → Has (placed_at product rule c ss ws) r → IsMadeBy product rule c ss ws r
made_by product rule c ss [] r h = absurd h
made_by product rule c ss (q ∷ others) r h = by (nat_eq q rule.left) refl h
  where
    same : nat_eq q rule.left ≡ true → q ≡ rule.left
    same e = grind (arith, nat_tests)

    by : (b : Bool) → nat_eq q rule.left ≡ b → Has (if b then at_cost (cut (product c rule.cost)) ss (holes_of rule.right ++ others) else []) r → IsMadeBy product rule c ss (q ∷ others) r
    by true e k =
        let a = at_cost_of (product c rule.cost) ss (holes_of rule.right ++ others) r k in
        record { others = others; from = ap (λ z. z ∷ others) (same e); costs = a.costs; within = a.within; states = a.states; next = a.waiting }
    by false e k = absurd k

cut_within : (n : ℕ) → n ≤ most → cut n ≡ Some n
cut_within n h = rw (yes_low n h) refl
  where
    yes_low : (n : ℕ) → n ≤ most → nat_le n most ≡ true
    yes_low n h = grind (arith, nat_tests)

module _ (product : ℕ → ℕ → ℕ) (rules : List (Rule ℕ)) where
  made_all : (p : Partial) (ns : List ℕ) (r : Partial) → Has (all_placed product rules p ns) r → (n : ℕ) × Has ns n × IsMadeBy product (rule_at rules n) p.cost p.states p.waiting r
  made_all p [] r h = absurd h
  made_all p (n ∷ ns) r h = elim (has_either (placed product (rule_at rules n) p) (all_placed product rules p ns) r h) [
    | inl k ↦ (n, inl refl, made_by product (rule_at rules n) p.cost p.states p.waiting r k)
    | inr k ↦ let o = made_all p ns r k in (o.0, inr o.1, o.2)
  ]

  made_of : (ns : List ℕ) (ps : List Partial) (r : Partial) → Has (all_led product rules ns ps) r → (p : Partial) × Has ps p × ((n : ℕ) × Has ns n × IsMadeBy product (rule_at rules n) p.cost p.states p.waiting r)
  made_of ns [] r h = absurd h
  made_of ns (p ∷ ps) r h = elim (has_either (all_placed product rules p ns) (all_led product rules ns ps) r h) [
    | inl k ↦ (p, inl refl, made_all p ns r k)
    | inr k ↦ let o = made_of ns ps r k in (o.0, inr o.1, o.2)
  ]

  -- what a rule makes of p
  abbrev makes : ℕ → Partial → List ℕ → Partial
  makes n p others = record { cost = product p.cost (rule_at rules n).cost; states = p.states; waiting = holes_of (rule_at rules n).right ++ others }

  is_made : (n : ℕ) (p : Partial) (others : List ℕ) → p.waiting ≡ (rule_at rules n).left ∷ others → product p.cost (rule_at rules n).cost ≤ most → Has (placed product (rule_at rules n) p) (makes n p others)
  is_made n p others e h =
      let one : placed product (rule_at rules n) p ≡ makes n p others ∷ [] =
      placed_one product (rule_at rules n) p.cost (product p.cost (rule_at rules n).cost) p.states p.waiting others (rule_at rules n).left e refl (cut_within (product p.cost (rule_at rules n).cost) h)
      in
      subst (λ (rs : List Partial). Has rs (makes n p others)) (sym one) (inl refl)

  in_all : (p : Partial) (ns : List ℕ) (n : ℕ) (r : Partial) → Has ns n → Has (placed product (rule_at rules n) p) r → Has (all_placed product rules p ns) r
  in_all p [] n r h k = absurd h
  in_all p (m ∷ ns) n r h k = elim h [
    | inl e ↦ has_left (placed product (rule_at rules m) p) (all_placed product rules p ns) r (subst (λ i. Has (placed product (rule_at rules i) p) r) (sym e) k)
    | inr o ↦ has_right (placed product (rule_at rules m) p) (all_placed product rules p ns) r (in_all p ns n r o k)
  ]

  in_led : (ns : List ℕ) (ps : List Partial) (p r : Partial) → Has ps p → Has (all_placed product rules p ns) r → Has (all_led product rules ns ps) r
  in_led ns [] p r h k = absurd h
  in_led ns (q ∷ ps) p r h k = elim h [
    | inl e ↦ has_left (all_placed product rules q ns) (all_led product rules ns ps) r (subst (λ (x : Partial). Has (all_placed product rules x ns) r) (sym e) k)
    | inr o ↦ has_right (all_placed product rules q ns) (all_led product rules ns ps) r (in_led ns ps p r o k)
  ]

  module _
      (normal : AreNormal rules) (f rank : ℕ) (old : List Partial) (led kept : List Stored) (made : partials_of led ≡ all_led product rules (positions_with f rank rules) old)
      (m : AreMerged led kept) where
    leads_on : (r : Partial) → Has (partials_of kept) r → (p : Partial) × Has old p × LeadsOn product rules f rank p r
    leads_on r h =
        let k = has_map partial_of kept r h in
        let stands : Has (partials_of led) r = subst (Has (partials_of led)) k.2 (map_has partial_of led k.0 (m.sound k.0 k.1)) in
        let o = made_of (positions_with f rank rules) old r (subst (λ (rs : List Partial). Has rs r) made stands) in
        let n : ℕ = o.2.0 in
        let b = o.2.2 in
        let l = listed rules f rank normal n o.2.1 in (
          o.0,
          o.1,
          record {
            rule = n;
            below = l.below;
            others = b.others;
            waiting = b.from;
            root = l.root;
            ranked = l.ranked;
            states = b.states;
            next = b.next ∙ ap (λ hs. hs ++ b.others) (holes_of-label (rule_at rules n).right.label (rule_at rules n).right.kids f l.root);
            costs = b.costs;
            within = b.within;
          },
        )

    is_led : (p r : Partial) → Has old p → LeadsOn product rules f rank p r → (s : Partial) × Has (partials_of kept) s × (s.states ≡ r.states) × (s.waiting ≡ r.waiting) × (s.cost ≤ r.cost)
    is_led p r h s =
        let q : Partial = makes s.rule p s.others in
        let cost : r.cost ≡ product p.cost (rule_at rules s.rule).cost = s.costs in
        let low : product p.cost (rule_at rules s.rule).cost ≤ most = let w = s.within in omega arith in
        let place : Has (positions_with f rank rules) s.rule = is_listed rules f rank normal s.rule (record { below = s.below; root = s.root; ranked = s.ranked }) in
        let stands : Has (partials_of led) q =
        subst (λ (rs : List Partial). Has rs q) (sym made)
        (in_led (positions_with f rank rules) old p q h (in_all p (positions_with f rank rules) s.rule q place (is_made s.rule p s.others s.waiting low)))
        in
        let x = has_map partial_of led q stands in
        let y = m.whole x.0 x.1 in
        let waits : holes_of (rule_at rules s.rule).right ++ s.others ≡ r.waiting =
        ap (λ hs. hs ++ s.others) (holes_of-label (rule_at rules s.rule).right.label (rule_at rules s.rule).right.kids f s.root) ∙ sym s.next
        in
        let same : x.0.cost ≡ product p.cost (rule_at rules s.rule).cost = ap (λ (z : Partial). z.cost) x.2 in
        let cheap : y.0.cost ≤ x.0.cost = y.3 in (
          partial_of y.0,
          map_has partial_of kept y.0 y.1,
          y.2.1 ∙ ap (λ (z : Partial). z.states) x.2 ∙ sym s.states,
          ap (λ ws. reverse ws) y.2.0 ∙ ap (λ (z : Partial). z.waiting) x.2 ∙ waits,
          omega arith,
        )

    pub label_next : {P : Type 0} → AreNext product rules {P = P} (label f, rank) old (partials_of kept)
    label_next = record { sound = leads_on; whole = is_led }

-- at a hole
taken_of : (product : ℕ → ℕ → ℕ) (rules : List (Rule ℕ)) (p r : Partial) → Has (taken p) r → TakesHole product rules p r
taken_of product rules p r h = by p.waiting refl h
  where
    by : (ws : List ℕ) → p.waiting ≡ ws → Has (taken_at p.cost p.states ws) r → TakesHole product rules p r
    by [] e k = absurd k
    by (q ∷ others) e (inl same) = record {
      state = q;
      waiting = e ∙ ap (λ ws. q ∷ ws) (ap (λ (x : Partial). x.waiting) same);
      states = ap (λ (x : Partial). x.states) (sym same);
      costs = ap (λ (x : Partial). x.cost) (sym same);
    }
    by (q ∷ others) e (inr k) = absurd k

all_taken_of : (product : ℕ → ℕ → ℕ) (rules : List (Rule ℕ)) (ps : List Partial) (r : Partial) → Has (all_taken ps) r → (p : Partial) × Has ps p × TakesHole product rules p r
all_taken_of product rules [] r h = absurd h
all_taken_of product rules (p ∷ ps) r h = elim (has_either (taken p) (all_taken ps) r h) [
  | inl k ↦ (p, inl refl, taken_of product rules p r k)
  | inr k ↦ let o = all_taken_of product rules ps r k in (o.0, inr o.1, o.2)
]

in_taken : (ps : List Partial) (p r : Partial) → Has ps p → Has (taken p) r → Has (all_taken ps) r
in_taken [] p r h k = absurd h
in_taken (q ∷ ps) p r h k = elim h [
  | inl e ↦ has_left (taken q) (all_taken ps) r (subst (λ (x : Partial). Has (taken x) r) (sym e) k)
  | inr o ↦ has_right (taken q) (all_taken ps) r (in_taken ps p r o k)
]

pub hole_next :
    (product : ℕ → ℕ → ℕ) (rules : List (Rule ℕ)) {P : Type 0} (x : P) (rank : ℕ) (old : List Partial) (found : List Stored) → partials_of found ≡ all_taken old →
    AreNext product rules {P = P} (hole x, rank) old (partials_of found)
hole_next product rules x rank old found made = record {
  sound = λ r h. all_taken_of product rules old r (subst (λ (rs : List Partial). Has rs r) made h);
  whole = λ p r h t.
      let s : Partial = record { cost = p.cost; states = p.states ++ t.state ∷ []; waiting = r.waiting } in
      let here : taken p ≡ s ∷ [] = ap (taken_at p.cost p.states) t.waiting in
      let stands : Has (all_taken old) s = in_taken old p s h (subst (λ (rs : List Partial). Has rs s) (sym here) (inl refl)) in
      let cost : r.cost ≡ p.cost = t.costs in
      (s, subst (λ (rs : List Partial). Has rs s) (sym made) stands, sym t.states, refl, omega arith);
}

-- the cheapest of those for which nothing waits
module _ (found kept : List Stored) (m : AreMerged found kept) (nothing : (p : Partial) → Has (partials_of found) p → p.waiting ≡ []) where
  empty : (xs : List ℕ) → reverse xs ≡ [] → xs ≡ []
  empty [] e = refl
  empty (x ∷ xs) e = let long : length (reverse (x ∷ xs)) ≡ suc (length xs) = length-reverse (x ∷ xs) in absurd (omega (arith, long, ap length e))

  no_wait : (k : Stored) → Has kept k → k.waiting.items ≡ []
  no_wait k h = empty k.waiting.items (nothing (partial_of k) (map_has partial_of found k (m.sound k h)))

  by_states : (p r : Stored) → p.waiting.items ≡ [] → r.waiting.items ≡ [] → place_cmp p r ≡ Less → slice_cmp nat_cmp p.states.items r.states.items ≡ Less
  by_states p r e k l =
      subst (λ ws. ordering_then (slice_cmp nat_cmp [] ws) (slice_cmp nat_cmp p.states.items r.states.items) ≡ Less) k
      (subst (λ ws. ordering_then (slice_cmp nat_cmp ws r.waiting.items) (slice_cmp nat_cmp p.states.items r.states.items) ≡ Less) e l)

  states_ascend :
      (ps : List Stored) → ((k : Stored) → Has ps k → k.waiting.items ≡ []) → Ascends (λ p r. place_cmp p r ≡ Less) ps →
      Ascends (λ (a : List ℕ × ℕ) (b : List ℕ × ℕ). slice_cmp nat_cmp a.0 b.0 ≡ Less) (map matched ps)
  states_ascend [] none a = tt
  states_ascend (p ∷ ps) none a = (
    each_of (λ (b : List ℕ × ℕ). slice_cmp nat_cmp p.states.items b.0 ≡ Less) (map matched ps)
        (λ b h. let k = has_map matched ps b h in
        subst (λ (x : List ℕ × ℕ). slice_cmp nat_cmp p.states.items x.0 ≡ Less) k.2 (by_states p k.0 (none p (inl refl)) (none k.0 (inr k.1)) (each_has (λ r. place_cmp p r ≡ Less) ps k.0 a.0 k.1))),
    states_ascend ps (λ k h. none k (inr h)) a.1,
  )

  pub least_kept : AreLeastOf (partials_of found) (map matched kept)
  least_kept = record {
    ascend = states_ascend kept no_wait m.ascend;
    given = λ b h.
        let k = has_map matched kept b h in
        (partial_of k.0, map_has partial_of found k.0 (m.sound k.0 k.1), ap (λ (x : List ℕ × ℕ). x.0) k.2, ap (λ (x : List ℕ × ℕ). x.1) k.2);
    whole = λ p h.
        let x = has_map partial_of found p h in
        let r = m.whole x.0 x.1 in
        let cost : x.0.cost ≡ p.cost = ap (λ (z : Partial). z.cost) x.2 in
        let cheap : r.0.cost ≤ x.0.cost = r.3 in
        (matched r.0, map_has matched kept r.0 r.1, r.2.1 ∙ ap (λ (z : Partial). z.states) x.2, omega arith);
  }

-- one more item
next_item : {P : Type 0} (items : List (Item P)) (i : ℕ) (item : Item P) → i < length items → item ≡ get_or items i item → drop i items ≡ item ∷ drop (suc i) items
next_item [] i item h e = absurd (omega arith)
next_item (x ∷ items) zero item h e = ap (λ y. y ∷ items) (sym e)
next_item (x ∷ items) (suc i) item h e = next_item items i item (omega arith) e

pub found_on :
    (product : ℕ → ℕ → ℕ) (rules : List (Rule ℕ)) {P : Type 0} (items : List (Item P)) (i : ℕ) (item : Item P) → i < length items → item ≡ get_or items i item → (old new : List Partial) →
    AreNext product rules (pair_of item) old new → (all : List Partial) → AreFound product rules (pairs_of (drop (i + 1) items)) new all →
    AreFound product rules (pairs_of (drop i items)) old all
found_on product rules items i item h e old new one all more =
    let same : i + 1 ≡ suc i = omega arith in
    subst (λ (xs : List (Item _)). AreFound product rules (pairs_of xs) old all) (sym (next_item items i item h e))
    (new, one, subst (λ j. AreFound product rules (pairs_of (drop j items)) new all) same more)

drop_all : {A : Type 0} (xs : List A) (i : ℕ) → length xs ≤ i → drop i xs ≡ []
drop_all [] zero h = refl
drop_all [] (suc i) h = refl
drop_all (x ∷ xs) zero h = absurd (omega arith)
drop_all (x ∷ xs) (suc i) h = drop_all xs i (omega arith)

pub found_whole :
    (product : ℕ → ℕ → ℕ) (rules : List (Rule ℕ)) {P : Type 0} (items : List (Item P)) (i : ℕ) (found : List Partial) → length items ≤ i →
    AreFound product rules (pairs_of (drop i items)) found found
found_whole product rules items i found h = subst (λ (xs : List (Item _)). AreFound product rules (pairs_of xs) found found) (sym (drop_all items i h)) refl

-- what is found along the items of a side, the cheapest of each list, is its matches
pub all_matches :
    {levelled weighted : Bool} {product : ℕ → ℕ → ℕ} (laws : ProductLaws levelled weighted product) (rules : List (Rule ℕ)) → AreNormal rules → {P : Type 0} (side : SideFor ℕ P) (items : List (Item P)) →
    pairs_of items ≡ preorder_of side → HolesAreLeaves (only side) → (q : ℕ) (found kept : List Stored) → AreFound product rules (pairs_of items) (start_from q ∷ []) (partials_of found) →
    AreMerged found kept → AreMatches product rules side q (map matched kept)
all_matches {product = product} laws rules normal side items same leaves q found kept are m =
    let whole : AreFound product rules (preorder_of side) (start_from q ∷ []) (partials_of found) = subst (λ xs. AreFound product rules xs (start_from q ∷ []) (partials_of found)) same are in
    found_are_matches laws rules normal side leaves q (partials_of found) (map matched kept) whole
    (least_kept found kept m (nothing_waits laws rules side leaves q (partials_of found) whole))
