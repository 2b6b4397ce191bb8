-- The normal form of rules with other numbers of labels is their normal form with these numbers.
use Rattle.std.proofs.Common.{◌≡◌, ℕ, ◌+◌, ◌<◌, ◌≤◌, List, [], ◌∷◌, ◌++◌, length, map, refl, ap, sym, ◌∙◌, subst, arith, zero, suc, inl, inr}
use Rattle.std.specs.Prelude.{Some}
use Rattle.std.proofs.lemmas.List.{length-map, map-append}
use Rattle.tib_lex.specs.Lists.{Has, Each, Ascends}
use Rattle.tib_tree.specs.Trees.{Trees, none, tree}
use Rattle.tib_grammar.specs.Sides.{Symbol, label, hole, Side, Lone, labels_in}
use Rattle.tib_grammar.specs.Run.{rule_at}
use Rattle.tib_grammar.specs.declared.Rule.{Rule}
use Rattle.tib_grammar_file.proofs.Relabelled.{symbol_with, trees_with, side_with, rule_with, rules_with, at_with, side_told}
use Rattle.tib_cost.specs.Least.{IsLeast}
use Rattle.tib_cost.proofs.Least.{IsLeast-same}
use Rattle.tib_normal.specs.NormalForm.{IsChain, chain_cost, heads, inner_rules, all_inner, first_inner, Reaches, IsNormalCost, IsNormalForm}
use Rattle.tib_lex.proofs.Lists.{has_mapped, mapped_has}

pub each_mapped : {A B : Type 0} (R : A → Type 0) (S : B → Type 0) (f : A → B) (xs : List A) → ((x : A) → Has xs x → R x → S (f x)) → Each R xs → Each S (map f xs)
each_mapped R S f [] moves e = tt
each_mapped R S f (x ∷ xs) moves e = (moves x (inl refl) e.0, each_mapped R S f xs (λ y h. moves y (inr h)) e.1)

pub ascends_mapped :
    {A B : Type 0} (R : A → A → Type 0) (S : B → B → Type 0) (f : A → B) (xs : List A) → ((x y : A) → Has xs x → Has xs y → R x y → S (f x) (f y)) → Ascends R xs → Ascends S (map f xs)
ascends_mapped R S f [] moves a = tt
ascends_mapped R S f (x ∷ xs) moves a = (
  each_mapped (R x) (S (f x)) f xs (λ y h. moves x y (inl refl) (inr h)) a.0,
  ascends_mapped R S f xs (λ y z h k. moves y z (inr h) (inr k)) a.1,
)

module _ (f : ℕ → ℕ) where
  labels_with : (k : Trees (Symbol ℕ ℕ)) → labels_in (trees_with f k) ≡ labels_in k
  labels_with none = refl
  labels_with (tree (label g) kids rest) = omega (arith, labels_with kids, labels_with rest)
  labels_with (tree (hole q) kids rest) = labels_with rest

  heads_with : (s : ℕ) (k : Trees (Symbol ℕ ℕ)) → heads s (trees_with f k) ≡ heads s k
  heads_with s none = refl
  heads_with s (tree (hole q) kids rest) = ap (λ (x : Trees (Symbol ℕ ℕ)). tree (hole q) none x) (heads_with s rest)
  heads_with s (tree (label g) kids rest) =
      ap (λ (n : ℕ). tree (hole s) none (heads (suc s + n) (trees_with f rest))) (labels_with kids)
      ∙ ap (λ (x : Trees (Symbol ℕ ℕ)). tree (hole s) none x) (heads_with (suc s + labels_in kids) rest)

  -- no label is in what takes the place of labels
  heads_still : (s : ℕ) (k : Trees (Symbol ℕ ℕ)) → trees_with f (heads s k) ≡ heads s k
  heads_still s none = refl
  heads_still s (tree (hole q) kids rest) = ap (λ (x : Trees (Symbol ℕ ℕ)). tree (hole q) none x) (heads_still s rest)
  heads_still s (tree (label g) kids rest) = ap (λ (x : Trees (Symbol ℕ ℕ)). tree (hole s) none x) (heads_still (suc s + labels_in kids) rest)

  headed : (s g : ℕ) (k : Trees (Symbol ℕ ℕ)) → ◌≡◌ {A = Side ℕ ℕ} (record { label = label (f g); kids = heads s (trees_with f k) }) (side_with f (record { label = label g; kids = heads s k }))
  headed s g k = ap (λ (x : Trees (Symbol ℕ ℕ)). record { label = label (f g); kids = x }) (heads_with s k ∙ sym (heads_still s k))

  inner_with : (s : ℕ) (k : Trees (Symbol ℕ ℕ)) → inner_rules s (trees_with f k) ≡ rules_with f (inner_rules s k)
  inner_with s none = refl
  inner_with s (tree (hole q) kids rest) = inner_with s rest
  inner_with s (tree (label g) kids rest) =
      let first : Rule ℕ = rule_with f (record { left = s; right = record { label = label g; kids = heads (suc s) kids }; cost = 0 }) in
      ap (λ (x : Side ℕ ℕ). record { left = s; right = x; cost = 0 } ∷ (inner_rules (suc s) (trees_with f kids) ++ inner_rules (suc s + labels_in (trees_with f kids)) (trees_with f rest))) (headed (suc s) g kids)
      ∙ ap (λ (xs : List (Rule ℕ)). first ∷ (xs ++ inner_rules (suc s + labels_in (trees_with f kids)) (trees_with f rest))) (inner_with (suc s) kids)
      ∙ ap (λ (n : ℕ). first ∷ (rules_with f (inner_rules (suc s) kids) ++ inner_rules (suc s + n) (trees_with f rest))) (labels_with kids)
      ∙ ap (λ (xs : List (Rule ℕ)). first ∷ (rules_with f (inner_rules (suc s) kids) ++ xs)) (inner_with (suc s + labels_in kids) rest)
      ∙ ap (λ (xs : List (Rule ℕ)). first ∷ xs) (sym (map-append (rule_with f) (inner_rules (suc s) kids) (inner_rules (suc s + labels_in kids) rest)))

  all_with : (s : ℕ) (rules : List (Rule ℕ)) → all_inner s (rules_with f rules) ≡ rules_with f (all_inner s rules)
  all_with s [] = refl
  all_with s (r ∷ rs) =
      ap (λ (xs : List (Rule ℕ)). xs ++ all_inner (s + labels_in (trees_with f r.right.kids)) (rules_with f rs)) (inner_with s r.right.kids)
      ∙ ap (λ (n : ℕ). rules_with f (inner_rules s r.right.kids) ++ all_inner (s + n) (rules_with f rs)) (labels_with r.right.kids)
      ∙ ap (λ (xs : List (Rule ℕ)). rules_with f (inner_rules s r.right.kids) ++ xs) (all_with (s + labels_in r.right.kids) rs)
      ∙ sym (map-append (rule_with f) (inner_rules s r.right.kids) (all_inner (s + labels_in r.right.kids) rs))

  first_with : (s : ℕ) (rules : List (Rule ℕ)) (n : ℕ) → first_inner s (rules_with f rules) n ≡ first_inner s rules n
  first_with s [] n = refl
  first_with s (r ∷ rs) zero = refl
  first_with s (r ∷ rs) (suc n) = ap (λ (m : ℕ). first_inner (s + m) (rules_with f rs) n) (labels_with r.right.kids) ∙ first_with (s + labels_in r.right.kids) rs n

pub label_found : (f : ℕ → ℕ) (s : Symbol ℕ ℕ) (n : ℕ) → symbol_with f s ≡ label n → (g : ℕ) × (s ≡ label g) × (n ≡ f g)
label_found f (label g) n e = (g, refl, sym (label_is (f g) n e))
  where
    label_is : (g h : ℕ) → ◌≡◌ {A = Symbol ℕ ℕ} (label g) (label h) → g ≡ h
    label_is g h e = cc
label_found f (hole q) n e = absurd (cc)

-- a cost of a side with the other numbers is that of a side with the old ones
record HasOld (Cost : Side ℕ ℕ → ℕ → Type 0) (f : ℕ → ℕ) (side : Side ℕ ℕ) (c : ℕ) : Type 0 where
  old : Side ℕ ℕ
  is : side ≡ side_with f old
  costs : Cost old c

module _ (product : ℕ → ℕ → ℕ) (f : ℕ → ℕ) (apart : (i j : ℕ) → f i ≡ f j → i ≡ j) (states : ℕ) (rules : List (Rule ℕ)) where
  abbrev others : List (Rule ℕ)
  others = rules_with f rules

  as_long : length others ≡ length rules
  as_long = length-map rules (rule_with f)

  chain_to : (q : ℕ) (ns : List ℕ) (r : ℕ) → IsChain rules q ns r → IsChain others q ns r
  chain_to q [] r e = e
  chain_to q (n ∷ ns) r h = (
    omega (arith, h.0, as_long),
    ap (λ (x : Rule ℕ). x.left) (at_with f rules n h.0) ∙ h.1,
    (h.2.0, ap (λ (x : Rule ℕ). x.right) (at_with f rules n h.0) ∙ ap (side_with f) h.2.1, chain_to h.2.0 ns r h.2.2),
  )

  chain_from : (q : ℕ) (ns : List ℕ) (r : ℕ) → IsChain others q ns r → IsChain rules q ns r
  chain_from q [] r e = e
  chain_from q (n ∷ ns) r h =
      let below : n < length rules = omega (arith, h.0, as_long) in
      let lone : side_with f (rule_at rules n).right ≡ side_with f (Lone h.2.0) = sym (ap (λ (x : Rule ℕ). x.right) (at_with f rules n below)) ∙ h.2.1 in (
        below,
        sym (ap (λ (x : Rule ℕ). x.left) (at_with f rules n below)) ∙ h.1,
        (h.2.0, side_told f apart (rule_at rules n).right (Lone h.2.0) lone, chain_from h.2.0 ns r h.2.2),
      )

  chain_same : (q : ℕ) (ns : List ℕ) (r : ℕ) → IsChain rules q ns r → chain_cost product others ns ≡ chain_cost product rules ns
  chain_same q [] r h = refl
  chain_same q (n ∷ ns) r h =
      ap (λ (x : Rule ℕ). product x.cost (chain_cost product others ns)) (at_with f rules n h.0) ∙ ap (product (rule_at rules n).cost) (chain_same h.2.0 ns r h.2.2)

  -- the side of a rule, with the other numbers
  rule_side : (n g : ℕ) → n < length rules → ◌≡◌ {A = Side ℕ ℕ} (record { label = label (f g); kids = heads (first_inner states others n) (rule_at others n).right.kids }) (side_with f (record { label = label g; kids = heads (first_inner states rules n) (rule_at rules n).right.kids }))
  rule_side n g h =
      ap (λ (m : ℕ). record { label = label (f g); kids = heads m (rule_at others n).right.kids }) (first_with f states rules n)
      ∙ ap (λ (x : Rule ℕ). record { label = label (f g); kids = heads (first_inner states rules n) x.right.kids }) (at_with f rules n h)
      ∙ headed f (first_inner states rules n) g (rule_at rules n).right.kids

  rule_cost : (q : ℕ) (ns : List ℕ) (n c : ℕ) → n < length rules → IsChain rules q ns (rule_at rules n).left → product (chain_cost product rules ns) (rule_at rules n).cost ≡ product (chain_cost product others ns) (rule_at others n).cost
  rule_cost q ns n c h k =
      ap (λ (x : ℕ). product x (rule_at rules n).cost) (sym (chain_same q ns (rule_at rules n).left k)) ∙ ap (λ (x : Rule ℕ). product (chain_cost product others ns) x.cost) (sym (at_with f rules n h))

  reaches_to : (q : ℕ) (side : Side ℕ ℕ) (c : ℕ) → Reaches product states rules q side c → Reaches product states others q (side_with f side) c
  reaches_to q side c k =
      let there : rule_at others k.rule ≡ rule_with f (rule_at rules k.rule) = at_with f rules k.rule k.below in
      record {
        own = k.own;
        chain = k.chain;
        rule = k.rule;
        below = omega (arith, k.below, as_long);
        leads = subst (λ (p : ℕ). IsChain others q k.chain p) (sym (ap (λ (x : Rule ℕ). x.left) there)) (chain_to q k.chain (rule_at rules k.rule).left k.leads);
        root = f k.root;
        is_label = ap (λ (x : Rule ℕ). x.right.label) there ∙ ap (symbol_with f) k.is_label;
        is_side = ap (side_with f) k.is_side ∙ sym (rule_side k.rule k.root k.below);
        costs = sym (rule_cost q k.chain k.rule c k.below k.leads) ∙ k.costs;
      }

  reaches_from : (q : ℕ) (side : Side ℕ ℕ) (c : ℕ) → Reaches product states others q side c → HasOld (Reaches product states rules q) f side c
  reaches_from q side c k =
      let below : k.rule < length rules = omega (arith, k.below, as_long) in
      let there : rule_at others k.rule ≡ rule_with f (rule_at rules k.rule) = at_with f rules k.rule below in
      let root = label_found f (rule_at rules k.rule).right.label k.root (sym (ap (λ (x : Rule ℕ). x.right.label) there) ∙ k.is_label) in
      let leads : IsChain rules q k.chain (rule_at rules k.rule).left = chain_from q k.chain (rule_at rules k.rule).left (subst (λ (p : ℕ). IsChain others q k.chain p) (ap (λ (x : Rule ℕ). x.left) there) k.leads) in
      record {
        old = record { label = label root.0; kids = heads (first_inner states rules k.rule) (rule_at rules k.rule).right.kids };
        is = k.is_side ∙ ap (λ (n : ℕ). record { label = label n; kids = heads (first_inner states others k.rule) (rule_at others k.rule).right.kids }) root.2 ∙ rule_side k.rule root.0 below;
        costs = record {
          own = k.own;
          chain = k.chain;
          rule = k.rule;
          below = below;
          leads = leads;
          root = root.0;
          is_label = root.1;
          is_side = refl;
          costs = rule_cost q k.chain k.rule c below leads ∙ k.costs;
        };
      }

  cost_to : (q : ℕ) (side : Side ℕ ℕ) (c : ℕ) → IsNormalCost product states rules q side c → IsNormalCost product states others q (side_with f side) c
  cost_to q side c (inl k) = inl (reaches_to q side c k)
  cost_to q side c (inr k) =
      inr (subst (λ (rs : List (Rule ℕ)). Has rs (rule_with f (record { left = q; right = side; cost = c }))) (sym (all_with f states rules)) (mapped_has (rule_with f) (all_inner states rules) (record { left = q; right = side; cost = c }) k))

  inner_from : (q : ℕ) (side : Side ℕ ℕ) (c : ℕ) (r : Rule ℕ) → Has (all_inner states rules) r → rule_with f r ≡ record { left = q; right = side; cost = c } → HasOld (IsNormalCost product states rules q) f side c
  inner_from q side c r h e =
      let same : r ≡ record { left = q; right = r.right; cost = c } =
      ap (λ (x : ℕ). record { left = x; right = r.right; cost = r.cost }) (ap (λ (x : Rule ℕ). x.left) e) ∙ ap (λ (x : ℕ). record { left = q; right = r.right; cost = x }) (ap (λ (x : Rule ℕ). x.cost) e) in
      record { old = r.right; is = sym (ap (λ (x : Rule ℕ). x.right) e); costs = inr (subst (Has (all_inner states rules)) same h) }

  cost_from : (q : ℕ) (side : Side ℕ ℕ) (c : ℕ) → IsNormalCost product states others q side c → HasOld (IsNormalCost product states rules q) f side c
  cost_from q side c (inl k) = let o = reaches_from q side c k in record { old = o.old; is = o.is; costs = inl o.costs }
  cost_from q side c (inr k) =
      let r = has_mapped (rule_with f) (all_inner states rules) (record { left = q; right = side; cost = c }) (subst (λ (rs : List (Rule ℕ)). Has rs (record { left = q; right = side; cost = c })) (all_with f states rules) k) in
      inner_from q side c r.0 r.1 r.2

  cost_back : (q : ℕ) (side : Side ℕ ℕ) (c : ℕ) → IsNormalCost product states others q (side_with f side) c → IsNormalCost product states rules q side c
  cost_back q side c k =
      let o = cost_from q (side_with f side) c k in
      subst (λ (s : Side ℕ ℕ). IsNormalCost product states rules q s c) (sym (side_told f apart side o.old o.is)) o.costs

  least_with : (xs : List (Rule ℕ)) → ((r : Rule ℕ) → Has xs r → IsLeast (IsNormalCost product states rules r.left r.right) (Some r.cost)) → (r : Rule ℕ) → Has (rules_with f xs) r → IsLeast (IsNormalCost product states others r.left r.right) (Some r.cost)
  least_with xs least r h =
      let o = has_mapped (rule_with f) xs r h in
      subst (λ (x : Rule ℕ). IsLeast (IsNormalCost product states others x.left x.right) (Some x.cost)) o.2
      (IsLeast-same (cost_to o.0.left o.0.right) (cost_back o.0.left o.0.right) (least o.0 o.1))

  pub form_with : (m : ℕ) (xs : List (Rule ℕ)) → IsNormalForm product states rules m xs → IsNormalForm product states others m (rules_with f xs)
  form_with m xs form = record {
    counted = form.counted ∙ ap (λ (n : ℕ). states + n) (sym (ap length (all_with f states rules) ∙ length-map (all_inner states rules) (rule_with f)));
    ascends = ascends_mapped (λ r s. r.left ≤ s.left) (λ r s. r.left ≤ s.left) (rule_with f) xs (λ r s h k e. e) form.ascends;
    distinct =
        ascends_mapped (λ r s. r.left ≡ s.left → r.right ≡ s.right → ⊥) (λ r s. r.left ≡ s.left → r.right ≡ s.right → ⊥) (rule_with f) xs
        (λ r s h k differ a b. differ a (side_told f apart r.right s.right b)) form.distinct;
    least = least_with xs form.least;
    whole = λ q side c k within.
        let o = cost_from q side c k in
        let w = form.whole q o.old c o.costs within in
        (w.0, subst (λ (s : Side ℕ ℕ). Has (rules_with f xs) (record { left = q; right = s; cost = w.0 })) (sym o.is) (mapped_has (rule_with f) xs (record { left = q; right = o.old; cost = w.0 }) w.1));
  }
