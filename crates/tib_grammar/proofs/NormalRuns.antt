-- Runs of a grammar in normal form, built from the leaves.
use Rattle.std.specs.Prelude.{◌≡◌, ℕ, ◌+◌, ◌<◌, List, [], ◌∷◌, length, ◌⊎◌, Bool, refl, Option, None, Some}
use Rattle.std.proofs.Common.{arith, ap, sym, ◌∙◌, subst, inl, inr}
use Rattle.tib_tree.specs.Trees.{Tree, Trees, none, tree, count, only, join, join-none, count-join}
use Rattle.tib_grammar.specs.Sides.{Symbol, label, hole, holes, holes_of, fill}
use Rattle.tib_grammar.specs.Run.{rule_at, AreRuns, yields, cost, IsCost}
use Rattle.tib_grammar.specs.Forms.{IsLabel, AreNormal}
use Rattle.tib_grammar.specs.declared.Rule.{Rule}
use Rattle.tib_grammar.proofs.Sides.{count-fill, holes_of-label, fill-normal}
use Rattle.tib_cost.specs.Semiring.{ProductLaws}
use Rattle.tib_cost.specs.Least.{IsLeast, Products, times, lesser}
use Rattle.tib_cost.proofs.Least.{IsLeast-same, IsLeast-products, IsLeast-one, IsLeast-none, IsLeast-scaled, IsLeast-either, IsLeast-either_none}
use Rattle.tib_cost.proofs.Times.{product-zero}
use Rattle.tib_lex.proofs.Numbers.{below_cases}

pub label_named : (s : Symbol ℕ ℕ) → IsLabel s → (f : ℕ) × (s ≡ label f)
label_named (label f) h = (f, refl)
label_named (hole p) h = absurd h

-- as many trees are yielded as there are states
pub count-yields : (rules : List (Rule ℕ)) (qs : List ℕ) (runs : Trees ℕ) → AreRuns rules qs runs → count (yields rules runs) ≡ length qs
count-yields rules [] none a = refl
count-yields rules [] (tree n runs rest) a = absurd a
count-yields rules (q ∷ qs) none a = absurd a
count-yields rules (q ∷ qs) (tree n runs rest) a =
    count-join (fill (only (rule_at rules n).right) (yields rules runs)) (yields rules rest)
    ∙ omega (
      arith,
      count-yields rules qs rest a.3,
      count-fill (only (rule_at rules n).right) (yields rules runs) (count-yields rules (holes_of (rule_at rules n).right) runs a.2),
    )

join_one :
    (ts us : Trees ℕ) (f : ℕ) (kids rest : Trees ℕ) → count ts ≡ 1 → join ts us ≡ tree f kids rest →
    (ts ≡ tree f kids none) × (us ≡ rest)
join_one none us f kids rest h e = absurd (omega arith)
join_one (tree g ks none) us f kids rest h e = (cc, cc)
join_one (tree g ks (tree g' ks' more)) us f kids rest h e = absurd (omega arith)

module _ {levelled weighted : Bool} {product : ℕ → ℕ → ℕ} (laws : ProductLaws levelled weighted product) (rules : List (Rule ℕ)) where
  -- no states, no trees
  pub none_to : (c : ℕ) → IsCost product rules [] none c → c ≡ 0
  none_to c h = none_by h.runs h.are_runs h.costs
    where
      none_by : (runs : Trees ℕ) → AreRuns rules [] runs → cost product rules runs ≡ c → c ≡ 0
      none_by none a e = sym e
      none_by (tree n runs rest) a e = absurd a

  pub IsLeast-no_states : IsLeast (IsCost product rules [] none) (Some 0)
  IsLeast-no_states =
      IsLeast-same
      (λ c e. record { runs = none; are_runs = tt; yielded = refl; costs = sym e })
      none_to
      (IsLeast-one 0)

  -- one run yields one tree
  one_tree : (n : ℕ) (runs : Trees ℕ) → AreRuns rules (holes_of (rule_at rules n).right) runs → count (fill (only (rule_at rules n).right) (yields rules runs)) ≡ 1
  one_tree n runs a = count-fill (only (rule_at rules n).right) (yields rules runs) (count-yields rules (holes_of (rule_at rules n).right) runs a)

  -- the run of the first state, and those of the others
  split :
      (q : ℕ) (qs : List ℕ) (f : ℕ) (kids rest runs : Trees ℕ) → AreRuns rules (q ∷ qs) runs →
      yields rules runs ≡ tree f kids rest →
      Products product (IsCost product rules (q ∷ []) (tree f kids none)) (IsCost product rules qs rest) (cost product rules runs)
  split q qs f kids rest none a y = absurd a
  split q qs f kids rest (tree n runs more) a y =
      let parts = join_one (fill (only (rule_at rules n).right) (yields rules runs)) (yields rules more) f kids rest (one_tree n runs a.2) y in (
        cost product rules (tree n runs none),
        cost product rules more,
        record {
          runs = tree n runs none;
          are_runs = (a.0, a.1, a.2, tt);
          yielded = join-none _ ∙ parts.0;
          costs = refl;
        },
        record { runs = more; are_runs = a.3; yielded = parts.1; costs = refl },
        ap (λ x. product x (cost product rules more)) (product-zero laws _),
      )

  merge :
      (q : ℕ) (qs : List ℕ) (f : ℕ) (kids rest first others : Trees ℕ) → AreRuns rules (q ∷ []) first →
      yields rules first ≡ tree f kids none → AreRuns rules qs others → yields rules others ≡ rest →
      IsCost product rules (q ∷ qs) (tree f kids rest) (product (cost product rules first) (cost product rules others))
  merge q qs f kids rest none others a y b z = absurd a
  merge q qs f kids rest (tree n runs (tree m more still)) others a y b z = absurd a.3
  merge q qs f kids rest (tree n runs none) others a y b z = record {
    runs = tree n runs others;
    are_runs = (a.0, a.1, a.2, b);
    yielded = rw (sym (join-none _) ∙ y, z);
    costs = ap (λ x. product x (cost product rules others)) (sym (product-zero laws _));
  }

  pub split_all :
      (q : ℕ) (qs : List ℕ) (f : ℕ) (kids rest : Trees ℕ) (c : ℕ) → IsCost product rules (q ∷ qs) (tree f kids rest) c →
      Products product (IsCost product rules (q ∷ []) (tree f kids none)) (IsCost product rules qs rest) c
  split_all q qs f kids rest c h = subst (Products product (IsCost product rules (q ∷ []) (tree f kids none)) (IsCost product rules qs rest)) h.costs (split q qs f kids rest h.runs h.are_runs h.yielded)

  pub merge_all :
      (q : ℕ) (qs : List ℕ) (f : ℕ) (kids rest : Trees ℕ) (c : ℕ) →
      Products product (IsCost product rules (q ∷ []) (tree f kids none)) (IsCost product rules qs rest) c →
      IsCost product rules (q ∷ qs) (tree f kids rest) c
  merge_all q qs f kids rest c h =
      let e : product (cost product rules h.2.runs) (cost product rules h.3.runs) ≡ c = rw (h.2.costs, h.3.costs) h.4 in
      subst (IsCost product rules (q ∷ qs) (tree f kids rest)) e
      (merge q qs f kids rest h.2.runs h.3.runs h.2.are_runs h.2.yielded h.3.are_runs h.3.yielded)

  pub IsLeast-one_more :
      (q : ℕ) (qs : List ℕ) (f : ℕ) (kids rest : Trees ℕ) {v w : Option ℕ} →
      IsLeast (IsCost product rules (q ∷ []) (tree f kids none)) v → IsLeast (IsCost product rules qs rest) w →
      IsLeast (IsCost product rules (q ∷ qs) (tree f kids rest)) (times product v w)
  IsLeast-one_more q qs f kids rest h k =
      IsLeast-same (merge_all q qs f kids rest) (split_all q qs f kids rest) (IsLeast-products laws h k)

-- c is the cost of a run from q that begins with the rule n and yields f over kids
pub record Begins (product : ℕ → ℕ → ℕ) (rules : List (Rule ℕ)) (q f : ℕ) (kids : Trees ℕ) (n c : ℕ) : Type 0 where
  pub left : (rule_at rules n).left ≡ q
  pub root : (rule_at rules n).right.label ≡ label f
  pub below : Products product (λ w. w ≡ (rule_at rules n).cost) (IsCost product rules (holes (rule_at rules n).right.kids) kids) c

-- the same for one of the first m rules
abbrev pub BeginsBelow : (ℕ → ℕ → ℕ) → List (Rule ℕ) → ℕ → ℕ → Trees ℕ → ℕ → ℕ → Type 0
BeginsBelow product rules q f kids m c = (n : ℕ) × (n < m) × Begins product rules q f kids n c

module _ {levelled weighted : Bool} {product : ℕ → ℕ → ℕ} (laws : ProductLaws levelled weighted product) (rules : List (Rule ℕ)) where
  pub IsLeast-no_rules : (q f : ℕ) (kids : Trees ℕ) → IsLeast (BeginsBelow product rules q f kids 0) None
  IsLeast-no_rules q f kids = IsLeast-none (λ c b. omega (arith, b.1))

  one_more : (q f : ℕ) (kids : Trees ℕ) (m c : ℕ) → BeginsBelow product rules q f kids m c ⊎ Begins product rules q f kids m c → BeginsBelow product rules q f kids (m + 1) c
  one_more q f kids m c (inl b) = (b.0, omega (arith, b.1), b.2)
  one_more q f kids m c (inr b) = (m, omega arith, b)

  one_less : (q f : ℕ) (kids : Trees ℕ) (m c : ℕ) → BeginsBelow product rules q f kids (m + 1) c → BeginsBelow product rules q f kids m c ⊎ Begins product rules q f kids m c
  one_less q f kids m c b = elim (below_cases b.0 m b.1) [
    | inl h ↦ inl (b.0, h, b.2)
    | inr e ↦ inr (subst (λ n. Begins product rules q f kids n c) e b.2)
  ]

  -- a rule that fits
  pub IsLeast-rule :
      (q f : ℕ) (kids : Trees ℕ) (m : ℕ) {v w : Option ℕ} → (rule_at rules m).left ≡ q → (rule_at rules m).right.label ≡ label f →
      IsLeast (BeginsBelow product rules q f kids m) v → IsLeast (IsCost product rules (holes (rule_at rules m).right.kids) kids) w →
      IsLeast (BeginsBelow product rules q f kids (m + 1)) (lesser v (times product (Some (rule_at rules m).cost) w))
  IsLeast-rule q f kids m left root h k =
      IsLeast-same (one_more q f kids m) (one_less q f kids m)
      (IsLeast-either h (IsLeast-same (λ c p. record { left = left; root = root; below = p }) (λ c b. b.below) (IsLeast-scaled laws (rule_at rules m).cost k)))

  -- a rule that does not
  pub IsLeast-no_rule :
      (q f : ℕ) (kids : Trees ℕ) (m : ℕ) {v : Option ℕ} → ((c : ℕ) → Begins product rules q f kids m c → ⊥) →
      IsLeast (BeginsBelow product rules q f kids m) v → IsLeast (BeginsBelow product rules q f kids (m + 1)) v
  IsLeast-no_rule q f kids m no_run h =
      IsLeast-same (one_more q f kids m) (one_less q f kids m) (IsLeast-either_none no_run h)

  pub begin :
      AreNormal rules → (q f : ℕ) (kids runs : Trees ℕ) → AreRuns rules (q ∷ []) runs → yields rules runs ≡ tree f kids none →
      BeginsBelow product rules q f kids (length rules) (cost product rules runs)
  begin normal q f kids none a y = absurd a
  begin normal q f kids (tree n runs (tree m more still)) a y = absurd a.3
  begin normal q f kids (tree n runs none) a y =
      let right : Tree (Symbol ℕ ℕ) = (rule_at rules n).right in
      let shape : (f' : ℕ) × (right.label ≡ label f') = label_named right.label (normal n a.0).is_label in
      let holes_are : holes_of right ≡ holes right.kids = holes_of-label right.label right.kids shape.0 shape.1 in
      let inner : AreRuns rules (holes right.kids) runs = subst (λ qs. AreRuns rules qs runs) holes_are a.2 in
      let filled : fill (only right) (yields rules runs) ≡ tree shape.0 (yields rules runs) none =
      fill-normal right.label right.kids shape.0 (yields rules runs) shape.1 (normal n a.0).are_holes (count-yields rules (holes right.kids) runs inner)
      in
      let whole : tree shape.0 (yields rules runs) none ≡ tree f kids none = sym filled ∙ sym (join-none _) ∙ y in
      let root_is : shape.0 ≡ f = cc whole in (
        n,
        a.0,
        record {
          left = a.1;
          root = shape.1 ∙ ap label root_is;
          below = (
            (rule_at rules n).cost,
            cost product rules runs,
            refl,
            record { runs = runs; are_runs = inner; yielded = cc whole; costs = refl },
            sym (product-zero laws _),
          );
        },
      )

  build :
      AreNormal rules → (q f : ℕ) (kids : Trees ℕ) (n : ℕ) (runs : Trees ℕ) → n < length rules → (rule_at rules n).left ≡ q → (rule_at rules n).right.label ≡ label f →
      AreRuns rules (holes (rule_at rules n).right.kids) runs → yields rules runs ≡ kids →
      IsCost product rules (q ∷ []) (tree f kids none) (product (rule_at rules n).cost (cost product rules runs))
  build normal q f kids n runs h left root a y = record {
    runs = tree n runs none;
    are_runs = (h, left, subst (λ qs. AreRuns rules qs runs) (sym (holes_of-label (rule_at rules n).right.label (rule_at rules n).right.kids f root)) a, tt);
    yielded = join-none _
        ∙ fill-normal (rule_at rules n).right.label (rule_at rules n).right.kids f (yields rules runs) root (normal n h).are_holes (count-yields rules (holes (rule_at rules n).right.kids) runs a)
        ∙ ap (λ ks. tree f ks none) y;
    costs = product-zero laws _;
  }

  pub finish : AreNormal rules → (q f : ℕ) (kids : Trees ℕ) (c n : ℕ) → n < length rules → Begins product rules q f kids n c → IsCost product rules (q ∷ []) (tree f kids none) c
  finish normal q f kids c n h b =
      let below = b.below in
      let e : product (rule_at rules n).cost (cost product rules below.3.runs) ≡ c = cc (below.2, below.3.costs, below.4) in
      subst (IsCost product rules (q ∷ []) (tree f kids none)) e
      (build normal q f kids n below.3.runs h b.left b.root below.3.are_runs below.3.yielded)

  pub IsLeast-all_rules :
      AreNormal rules → (q f : ℕ) (kids : Trees ℕ) {v : Option ℕ} →
      IsLeast (BeginsBelow product rules q f kids (length rules)) v → IsLeast (IsCost product rules (q ∷ []) (tree f kids none)) v
  IsLeast-all_rules normal q f kids h =
      IsLeast-same
      (λ c b. finish normal q f kids c b.0 b.1 b.2)
      (λ c r. subst (BeginsBelow product rules q f kids (length rules)) r.costs (begin normal q f kids r.runs r.are_runs r.yielded))
      h

-- no runs from no states yield a tree
pub no_states : {product : ℕ → ℕ → ℕ} (rules : List (Rule ℕ)) (f : ℕ) (kids rest : Trees ℕ) (c : ℕ) → IsCost product rules [] (tree f kids rest) c → ⊥
no_states rules f kids rest c h = let e = ap count h.yielded in omega (arith, e, count-yields rules [] h.runs h.are_runs)
