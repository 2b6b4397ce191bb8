-- The rules of a level, and what rules cost, in order.
use Rattle.std.specs.Prelude.{◌≡◌, ◌⊎◌, ℕ, ◌+◌, ◌-◌, ◌<◌, ◌≤◌, true, false, List, [], ◌∷◌, ◌++◌, length, map, drop, nat_le, refl, IsPermutation, IsSorted}
use Rattle.std.specs.Ordering.{nat_cmp, is_lt}
use Rattle.std.proofs.Common.{zero, suc, arith, ap, sym, ◌∙◌, subst, inl, inr, get_or}
use Rattle.std.proofs.lemmas.List.Sorted.{Contains-permutation, IsPermutation-sym}
use Rattle.std.proofs.lemmas.Bool.Decides.{nat_tests}
use Rattle.tib_lex.specs.Lists.{Has}
use Rattle.tib_lex.proofs.Members.{at_has, has_at}
use Rattle.tib_tree.specs.Trees.{only}
use Rattle.tib_tree.proofs.Orderings.{nat_less}
use Rattle.tib_grammar.specs.Forms.{AreNormal, IsNormalSide}
use Rattle.tib_grammar.specs.Range.{AreInRange, IsInRange}
use Rattle.tib_grammar.specs.Run.{rule_at}
use Rattle.tib_grammar.specs.declared.Rule.{Rule}
use Rattle.tib_grammar_file.specs.Printed.{AreLabelled, LabelsBelow}
use Rattle.tib_ranked_trees.specs.Levels.{free, level, IsOrderly}
use Rattle.tib_k_best.specs.Costs.{AreCosts}

le_or : (a b : ℕ) → ((a ≤ b) × (nat_le a b ≡ true)) ⊎ ((b < a) × (nat_le a b ≡ false))
le_or a b = grind (arith, nat_tests)

-- one more rule in a level, or one that costs too much

level_one : (c : ℕ) (r : Rule ℕ) (rules : List (Rule ℕ)) → r.cost ≤ c → level c (r ∷ rules) ≡ free r ∷ level c rules
level_one c r rules h = elim (le_or r.cost c) [ inl k ↦ rw k.1 refl | inr k ↦ absurd (omega (arith, k.0, h)) ]

level_none : (c : ℕ) (r : Rule ℕ) (rules : List (Rule ℕ)) → c < r.cost → level c (r ∷ rules) ≡ level c rules
level_none c r rules h = elim (le_or r.cost c) [ inl k ↦ absurd (omega (arith, k.0, h)) | inr k ↦ rw k.1 refl ]

drop_rule : (rules : List (Rule ℕ)) (i : ℕ) (d : Rule ℕ) → i < length rules → drop i rules ≡ get_or rules i d ∷ drop (i + 1) rules
drop_rule [] i d h = absurd (omega arith)
drop_rule (r ∷ rules) zero d h = refl
drop_rule (r ∷ rules) (suc i) d h =
    let e : suc i + 1 ≡ suc (i + 1) = omega arith in
    drop_rule rules i d (omega arith) ∙ ap (λ (n : ℕ). get_or rules i d ∷ drop n (r ∷ rules)) (sym e)

pub level_step :
    (c : ℕ) (rules : List (Rule ℕ)) (i : ℕ) (r : Rule ℕ) → i < length rules → r ≡ get_or rules i r → r.cost ≤ c → (xs ys : List (Rule ℕ)) (f : Rule ℕ) → f ≡ free r → ys ≡ xs ++ f ∷ [] →
    xs ++ level c (drop i rules) ≡ level c rules → ys ++ level c (drop (i + 1) rules) ≡ level c rules
level_step c rules i r h at low xs ys f e put all =
    let d : drop i rules ≡ r ∷ drop (i + 1) rules = drop_rule rules i r h ∙ ap (λ (s : Rule ℕ). s ∷ drop (i + 1) rules) (sym at) in
    let l : level c (drop i rules) ≡ f ∷ level c (drop (i + 1) rules) =
    ap (level c) d ∙ level_one c r (drop (i + 1) rules) low ∙ ap (λ (s : Rule ℕ). s ∷ level c (drop (i + 1) rules)) (sym e)
    in
    ap (λ (zs : List (Rule ℕ)). zs ++ level c (drop (i + 1) rules)) put ∙ moved xs f (level c (drop (i + 1) rules)) ∙ ap (λ (zs : List (Rule ℕ)). xs ++ zs) (sym l) ∙ all
  where
    moved : (xs : List (Rule ℕ)) (f : Rule ℕ) (zs : List (Rule ℕ)) → (xs ++ f ∷ []) ++ zs ≡ xs ++ f ∷ zs
    moved [] f zs = refl
    moved (x ∷ xs) f zs = ap (λ (ws : List (Rule ℕ)). x ∷ ws) (moved xs f zs)

pub level_skip :
    (c : ℕ) (rules : List (Rule ℕ)) (i : ℕ) (r : Rule ℕ) → i < length rules → r ≡ get_or rules i r → c < r.cost → (xs : List (Rule ℕ)) →
    xs ++ level c (drop i rules) ≡ level c rules → xs ++ level c (drop (i + 1) rules) ≡ level c rules
level_skip c rules i r h at high xs all =
    let d : drop i rules ≡ r ∷ drop (i + 1) rules = drop_rule rules i r h ∙ ap (λ (s : Rule ℕ). s ∷ drop (i + 1) rules) (sym at) in
    ap (λ (zs : List (Rule ℕ)). xs ++ zs) (sym (ap (level c) d ∙ level_none c r (drop (i + 1) rules) high)) ∙ all

-- each rule of a level is one of the rules, at no cost

record IsOne (c : ℕ) (rules : List (Rule ℕ)) (n : ℕ) : Type 0 where
  place : ℕ
  below : place < length rules
  same : rule_at (level c rules) n ≡ free (rule_at rules place)

level_at : (c : ℕ) (rules : List (Rule ℕ)) (n : ℕ) → n < length (level c rules) → IsOne c rules n
level_at c [] n h = absurd (omega arith)
level_at c (r ∷ rules) n h = elim (le_or r.cost c) [
  | inl k ↦ kept n (level_one c r rules k.0) (omega (arith, h, ap (λ (rs : List (Rule ℕ)). length rs) (level_one c r rules k.0))) (level_at c rules)
  | inr k ↦
      let e = level_none c r rules k.0 in
      let o = level_at c rules n (omega (arith, h, ap (λ (rs : List (Rule ℕ)). length rs) e)) in
      record { place = suc o.place; below = omega (arith, o.below); same = ap (λ (rs : List (Rule ℕ)). rule_at rs n) e ∙ o.same }
]
  where
    kept :
        (m : ℕ) → level c (r ∷ rules) ≡ free r ∷ level c rules → m < suc (length (level c rules)) → ((i : ℕ) → i < length (level c rules) → IsOne c rules i) →
        IsOne c (r ∷ rules) m
    kept zero e l again = record { place = 0; below = omega arith; same = ap (λ (rs : List (Rule ℕ)). rule_at rs 0) e }
    kept (suc m) e l again =
        let o = again m (omega (arith, l)) in
        record { place = suc o.place; below = omega (arith, o.below); same = ap (λ (rs : List (Rule ℕ)). rule_at rs (suc m)) e ∙ o.same }

pub level_few : (c : ℕ) (rules : List (Rule ℕ)) → length (level c rules) ≤ length rules
level_few c [] = omega arith
level_few c (r ∷ rules) = elim (le_or r.cost c) [
  | inl k ↦ omega (arith, level_few c rules, ap (λ (rs : List (Rule ℕ)). length rs) (level_one c r rules k.0))
  | inr k ↦ omega (arith, level_few c rules, ap (λ (rs : List (Rule ℕ)). length rs) (level_none c r rules k.0))
]

pub level_normal : (c : ℕ) (rules : List (Rule ℕ)) → AreNormal rules → AreNormal (level c rules)
level_normal c rules normal n h = let o = level_at c rules n h in subst (λ (r : Rule ℕ). IsNormalSide r.right) (sym o.same) (normal o.place o.below)

pub level_range : (c : ℕ) (rules : List (Rule ℕ)) (states : ℕ) → AreInRange states rules → AreInRange states (level c rules)
level_range c rules states range n h = let o = level_at c rules n h in subst (λ (r : Rule ℕ). IsInRange states r) (sym o.same) (range o.place o.below)

pub level_labelled : (c : ℕ) (rules : List (Rule ℕ)) (many : ℕ) → AreLabelled many rules → AreLabelled many (level c rules)
level_labelled c rules many labelled n h = let o = level_at c rules n h in subst (λ (r : Rule ℕ). LabelsBelow many (only r.right)) (sym o.same) (labelled o.place o.below)

pub level_orderly : (product : ℕ → ℕ → ℕ) (c : ℕ) (rules : List (Rule ℕ)) → IsOrderly product (level c rules)
level_orderly product c rules = inr (λ n h. let o = level_at c rules n h in ap (λ (r : Rule ℕ). r.cost) o.same)

-- costs that were sorted
ascending : (cs : List ℕ) → IsSorted nat_cmp cs → (i n : ℕ) → i + n < length cs → get_or cs i 0 ≤ get_or cs (i + n) 0
ascending cs s i zero h = let e : i + 0 ≡ i = omega arith in let g : get_or cs (i + 0) 0 ≡ get_or cs i 0 = ap (λ (k : ℕ). get_or cs k 0) e in omega (arith, g)
ascending cs s i (suc n) h =
    let e : i + suc n ≡ (i + n) + 1 = omega arith in
    let one = no_less (get_or cs ((i + n) + 1) 0) (get_or cs (i + n) 0) (s (i + n) 0 (omega arith) (omega (arith, h, e))) in
    let g : get_or cs (i + suc n) 0 ≡ get_or cs ((i + n) + 1) 0 = ap (λ (k : ℕ). get_or cs k 0) e in
    omega (arith, g, one, ascending cs s i n (omega (arith, h, e)))
  where
    below_or : (a b : ℕ) → (a < b) ⊎ (b ≤ a)
    below_or a b = grind arith

    no_less : (a b : ℕ) → is_lt (nat_cmp a b) ≡ false → b ≤ a
    no_less a b e = elim (below_or a b) [
      | inl l ↦ absurd (let f : is_lt (nat_cmp a b) ≡ true = ap is_lt (nat_less a b l) in cc)
      | inr h ↦ h
    ]

has_permuted : (xs ys : List ℕ) (x : ℕ) → IsPermutation xs ys → Has xs x → Has ys x
has_permuted xs ys x p h =
    let a = at_has xs x x h in
    let c = Contains-permutation xs ys x p (a.0, a.1, a.2) in
    subst (Has ys) c.2 (has_at ys c.0 x c.1)

pub sorted_costs : (rules : List (Rule ℕ)) (cs now : List ℕ) → cs ≡ map (λ (r : Rule ℕ). r.cost) rules → IsPermutation cs now → IsSorted nat_cmp now → AreCosts rules now
sorted_costs rules cs now e p s = record {
  ascend = λ i j l h. let n : i + (j - i) ≡ j = omega (arith, l) in let g : get_or now (i + (j - i)) 0 ≡ get_or now j 0 = ap (λ (k : ℕ). get_or now k 0) n in omega (arith, g, ascending now s i (j - i) (omega (arith, n, h)));
  there = λ r h. has_permuted cs now r.cost p (subst (λ (xs : List ℕ). Has xs r.cost) (sym e) (has_cost rules r h));
  stands = λ i h.
      let m = cost_has rules (get_or now i 0) (subst (λ (xs : List ℕ). Has xs (get_or now i 0)) e (has_permuted now cs (get_or now i 0) (IsPermutation-sym cs now p) (has_at now i 0 h))) in
      m;
}
  where
    has_cost : (rs : List (Rule ℕ)) (r : Rule ℕ) → Has rs r → Has (map (λ (q : Rule ℕ). q.cost) rs) r.cost
    has_cost [] r h = absurd h
    has_cost (q ∷ rs) r (inl f) = inl (ap (λ (x : Rule ℕ). x.cost) f)
    has_cost (q ∷ rs) r (inr h) = inr (has_cost rs r h)

    cost_has : (rs : List (Rule ℕ)) (c : ℕ) → Has (map (λ (q : Rule ℕ). q.cost) rs) c → (r : Rule ℕ) × Has rs r × (r.cost ≡ c)
    cost_has [] c h = absurd h
    cost_has (q ∷ rs) c (inl f) = (q, inl refl, f)
    cost_has (q ∷ rs) c (inr h) = let m = cost_has rs c h in (m.0, inr m.1, m.2)
