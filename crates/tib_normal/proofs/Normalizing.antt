-- The normal form has the series of the grammar.
use Rattle.std.specs.Prelude.{◌≡◌, ℕ, ◌+◌, ◌<◌, ◌≤◌, ◌⊎◌, ◌↔◌, List, [], ◌∷◌, ◌++◌, length, Bool, refl, Option}
use Rattle.std.proofs.Common.{zero, suc, arith, ap, sym, ◌∙◌, subst, inl, inr, length-append}
use Rattle.std.proofs.Math.Seq.{take-append_seam, drop-append_seam}
use Rattle.tib_tree.specs.Trees.{Tree, Trees, none, tree, count, sizes, join, only, first_trees, other_trees, count-first, count-other, first-join, other-join, count-join, join-none}
use Rattle.tib_tree.proofs.Sizing.{sizes-join}
use Rattle.tib_grammar.specs.Sides.{Symbol, label, hole, Side as SideFor, Lone, holes, holes_of, fill, AreHoles, labels_in}
use Rattle.tib_grammar.specs.Run.{rule_at, no_rule, AreRuns, yields, cost, IsCost}
use Rattle.tib_grammar.specs.Series.{IsSeriesAt}
use Rattle.tib_grammar.specs.Range.{AllBelow, AreInRange, AreLone}
use Rattle.tib_grammar.specs.Forms.{AreNormal, IsNormalSide}
use Rattle.tib_grammar.specs.declared.Rule.{Rule}
use Rattle.tib_grammar.proofs.Members.{has_at, at_has, has_left, has_right, has_either}
use Rattle.tib_grammar.proofs.Sides.{first_all, holes_of-label}
use Rattle.tib_grammar.proofs.NormalRuns.{split_all, merge_all, finish, none_to, IsLeast-no_states, count-yields, no_states}
use Rattle.tib_grammar.proofs.Best.{no_trees}
use Rattle.tib_cost.specs.Semiring.{ProductLaws, most}
use Rattle.tib_cost.proofs.Least.{IsLeast-dominated, at_least_right, grows_both}
use Rattle.tib_cost.proofs.Times.{product-zero}
use Rattle.tib_lex.specs.Lists.{Has}
use Rattle.tib_normal.specs.NormalForm.{IsChain, chain_cost, heads, inner_rules, all_inner, first_inner, Reaches, IsNormalCost, IsNormalForm}
use Rattle.tib_grammar.proofs.Sides.{one_label}
use Rattle.tib_grammar.proofs.Opening.{open_cost}
use Rattle.tib_normal.proofs.Costs.{cut_costs, join_costs}

-- heads, and the rules of places

pub heads_holes : (s : ℕ) (k : Trees (Symbol ℕ ℕ)) → AreHoles (heads s k)
heads_holes s none = tt
heads_holes s (tree (hole q) kids rest) = heads_holes s rest
heads_holes s (tree (label f) kids rest) = heads_holes (suc s + labels_in kids) rest

stands_below :
    (s f : ℕ) (kids rest : Trees (Symbol ℕ ℕ)) (r : Rule ℕ) → Has (inner_rules (suc s) kids) r → Has (inner_rules s (tree (label f) kids rest)) r
stands_below s f kids rest r h = inr (has_left (inner_rules (suc s) kids) (inner_rules (suc s + labels_in kids) rest) r h)

stands_after :
    (s f : ℕ) (kids rest : Trees (Symbol ℕ ℕ)) (r : Rule ℕ) → Has (inner_rules (suc s + labels_in kids) rest) r →
    Has (inner_rules s (tree (label f) kids rest)) r
stands_after s f kids rest r h = inr (has_right (inner_rules (suc s) kids) (inner_rules (suc s + labels_in kids) rest) r h)

pub below_or_after :
    (s : ℕ) (kids rest : Trees (Symbol ℕ ℕ)) (r : Rule ℕ) → Has (inner_rules (suc s) kids ++ inner_rules (suc s + labels_in kids) rest) r →
    Has (inner_rules (suc s) kids) r ⊎ Has (inner_rules (suc s + labels_in kids) rest) r
below_or_after s kids rest r h = has_either (inner_rules (suc s) kids) (inner_rules (suc s + labels_in kids) rest) r h

-- one label over states, in a rule of a state from low on and below high
pub record IsInner (low high : ℕ) (r : Rule ℕ) : Type 0 where
  pub from : low ≤ r.left
  pub to : r.left < high
  pub normal : IsNormalSide r.right

wider : (a b c d : ℕ) (r : Rule ℕ) → a ≤ b → c ≤ d → IsInner b c r → IsInner a d r
wider a b c d r h k i = record { from = omega (arith, i.from); to = omega (arith, i.to); normal = i.normal }

pub inner_is : (s : ℕ) (k : Trees (Symbol ℕ ℕ)) (r : Rule ℕ) → Has (inner_rules s k) r → IsInner s (s + labels_in k) r
inner_is s none r h = absurd h
inner_is s (tree (hole q) kids rest) r h = inner_is s rest r h
inner_is s (tree (label f) kids rest) r h = elim h [
  | inl e ↦ subst (IsInner s (s + suc (labels_in kids + labels_in rest))) e (record {
    from = omega arith;
    to = omega arith;
    normal = record { is_label = tt; are_holes = heads_holes (suc s) kids };
  })
  | inr m ↦ elim (below_or_after s kids rest r m) [
    | inl n ↦ wider s (suc s) (suc s + labels_in kids) (s + suc (labels_in kids + labels_in rest)) r (omega arith) (omega arith) (inner_is (suc s) kids r n)
    | inr n ↦
        wider s (suc s + labels_in kids) (suc s + labels_in kids + labels_in rest) (s + suc (labels_in kids + labels_in rest)) r (omega arith) (omega arith)
        (inner_is (suc s + labels_in kids) rest r n)
  ]
]

-- two rules of places with one state are the same
inner_same : (s : ℕ) (k : Trees (Symbol ℕ ℕ)) (r t : Rule ℕ) → Has (inner_rules s k) r → Has (inner_rules s k) t → r.left ≡ t.left → r ≡ t
inner_same s none r t h g e = absurd h
inner_same s (tree (hole q) kids rest) r t h g e = inner_same s rest r t h g e
inner_same s (tree (label f) kids rest) r t h g e = elim h [
  | inl a ↦ elim g [
    | inl b ↦ sym a ∙ b
    | inr b ↦ let low = later t b in let is : s ≡ r.left = ap (λ x. x.left) a in absurd (omega arith)
  ]
  | inr a ↦ elim g [
    | inl b ↦ let low = later r a in let is : s ≡ t.left = ap (λ x. x.left) b in absurd (omega arith)
    | inr b ↦ elim (below_or_after s kids rest r a) [
      | inl c ↦ elim (below_or_after s kids rest t b) [
        | inl d ↦ inner_same (suc s) kids r t c d e
        | inr d ↦ let x = inner_is (suc s) kids r c in let y = inner_is (suc s + labels_in kids) rest t d in absurd (omega (arith, x.to, y.from))
      ]
      | inr c ↦ elim (below_or_after s kids rest t b) [
        | inl d ↦ let x = inner_is (suc s) kids t d in let y = inner_is (suc s + labels_in kids) rest r c in absurd (omega (arith, x.to, y.from))
        | inr d ↦ inner_same (suc s + labels_in kids) rest r t c d e
      ]
    ]
  ]
]
  where
    later : (x : Rule ℕ) → Has (inner_rules (suc s) kids ++ inner_rules (suc s + labels_in kids) rest) x → suc s ≤ x.left
    later x m = elim (below_or_after s kids rest x m) [
      | inl n ↦ (inner_is (suc s) kids x n).from
      | inr n ↦ let z = inner_is (suc s + labels_in kids) rest x n in omega (arith, z.from)
    ]

pub all_low : (s : ℕ) (rules : List (Rule ℕ)) (r : Rule ℕ) → Has (all_inner s rules) r → (s ≤ r.left) × IsNormalSide r.right
all_low s [] r h = absurd h
all_low s (x ∷ rules) r h = elim (has_either (inner_rules s x.right.kids) (all_inner (s + labels_in x.right.kids) rules) r h) [
  | inl m ↦ let i = inner_is s x.right.kids r m in (i.from, i.normal)
  | inr m ↦ let i = all_low (s + labels_in x.right.kids) rules r m in (omega (arith, i.0), i.1)
]

pub all_same : (s : ℕ) (rules : List (Rule ℕ)) (r t : Rule ℕ) → Has (all_inner s rules) r → Has (all_inner s rules) t → r.left ≡ t.left → r ≡ t
all_same s [] r t h g e = absurd h
all_same s (x ∷ rules) r t h g e =
    elim (has_either (inner_rules s x.right.kids) (all_inner (s + labels_in x.right.kids) rules) r h) [
      | inl a ↦ elim (has_either (inner_rules s x.right.kids) (all_inner (s + labels_in x.right.kids) rules) t g) [
        | inl b ↦ inner_same s x.right.kids r t a b e
        | inr b ↦ let i = inner_is s x.right.kids r a in let j = all_low (s + labels_in x.right.kids) rules t b in absurd (omega (arith, i.to, j.0))
      ]
      | inr a ↦ elim (has_either (inner_rules s x.right.kids) (all_inner (s + labels_in x.right.kids) rules) t g) [
        | inl b ↦ let i = inner_is s x.right.kids t b in let j = all_low (s + labels_in x.right.kids) rules r a in absurd (omega (arith, i.to, j.0))
        | inr b ↦ all_same (s + labels_in x.right.kids) rules r t a b e
      ]
    ]

-- the rules of one rule's places are among those of all
inner_in :
    (s : ℕ) (rules : List (Rule ℕ)) (n : ℕ) (r : Rule ℕ) → n < length rules →
    Has (inner_rules (first_inner s rules n) (rule_at rules n).right.kids) r → Has (all_inner s rules) r
inner_in s [] n r h m = absurd (omega arith)
inner_in s (x ∷ rules) zero r h m = has_left (inner_rules s x.right.kids) (all_inner (s + labels_in x.right.kids) rules) r m
inner_in s (x ∷ rules) (suc n) r h m =
    has_right (inner_rules s x.right.kids) (all_inner (s + labels_in x.right.kids) rules) r (inner_in (s + labels_in x.right.kids) rules n r (omega arith) m)

pub first_low : (s : ℕ) (rules : List (Rule ℕ)) (n : ℕ) → s ≤ first_inner s rules n
first_low s [] n = omega arith
first_low s (x ∷ rules) zero = omega arith
first_low s (x ∷ rules) (suc n) = omega (arith, first_low (s + labels_in x.right.kids) rules n)

-- a label's sides filled with what fills the sides below it and what fills those after it
filled_both :
    (g f : ℕ) (kids rest : Trees (Symbol ℕ ℕ)) (xs ys us ts : Trees ℕ) → g ≡ f → count xs ≡ length (holes kids) → fill kids xs ≡ us →
    fill rest ys ≡ ts → fill (tree (label g) kids rest) (join xs ys) ≡ tree f us ts
filled_both g f kids rest xs ys us ts e n h k =
    let first : first_trees (length (holes kids)) (join xs ys) ≡ xs = subst (λ z. first_trees z (join xs ys) ≡ xs) n (first-join xs ys) in
    let other : other_trees (length (holes kids)) (join xs ys) ≡ ys = subst (λ z. other_trees z (join xs ys) ≡ ys) n (other-join xs ys) in
    ap (λ z. tree g (fill kids z) (fill rest (other_trees (length (holes kids)) (join xs ys)))) first
    ∙ ap (λ z. tree g (fill kids xs) (fill rest z)) other
    ∙ ap (λ z. tree g z (fill rest ys)) h
    ∙ ap (tree g us) k
    ∙ ap (λ z. tree z us ts) e

module _
    {levelled weighted : Bool} {product : ℕ → ℕ → ℕ} (laws : ProductLaws levelled weighted product)
    (states : ℕ) (rules : List (Rule ℕ)) (range : AreInRange states rules) (lone : AreLone rules)
    (more : ℕ) (new : List (Rule ℕ)) (form : IsNormalForm product states rules more new) where
  free : (c a b d : ℕ) → c ≡ 0 → product (product c a) b ≡ d → product a b ≡ d
  free c a b d e h = ap (λ z. product z b) (sym (ap (λ z. product z a) e ∙ laws.neutral a)) ∙ h

  attained : (j : ℕ) → j < length new → IsNormalCost product states rules (rule_at new j).left (rule_at new j).right (rule_at new j).cost
  attained j h = (form.least (rule_at new j) (has_at new j no_rule h)).attained.0

  normal : AreNormal new
  normal j h = elim (attained j h) [
    | inl r ↦
        let holes_are : AreHoles (heads (first_inner states rules r.rule) (rule_at rules r.rule).right.kids) =
        heads_holes (first_inner states rules r.rule) (rule_at rules r.rule).right.kids
        in
        subst IsNormalSide (sym r.is_side) (record { is_label = tt; are_holes = holes_are })
    | inr i ↦ (all_low states rules (rule_at new j) i).1
  ]

  -- where a side has a cost there is a rule that is as cheap
  find :
      (q : ℕ) (side : SideFor ℕ ℕ) (c : ℕ) → IsNormalCost product states rules q side c → c ≤ most →
      (j : ℕ) × (j < length new) × ((rule_at new j).left ≡ q) × ((rule_at new j).right ≡ side) × ((rule_at new j).cost ≤ c)
  find q side c n m =
      let h = form.whole q side c n m in
      let p = at_has new (record { left = q; right = side; cost = h.0 }) no_rule h.1 in
      let low : h.0 ≤ c = (form.least (record { left = q; right = side; cost = h.0 }) h.1).lower c n m in
      let e : (rule_at new p.0).cost ≡ h.0 = ap (λ r. r.cost) p.2 in
      (p.0, p.1, ap (λ r. r.left) p.2, ap (λ r. r.right) p.2, omega arith)

  -- what runs from the states of a side makes a run that begins with a rule of that side
  opens :
      (q f : ℕ) (side : SideFor ℕ ℕ) (kids : Trees ℕ) (w m : ℕ) → IsNormalCost product states rules q side w → w ≤ most →
      side.label ≡ label f → IsCost product new (holes side.kids) kids m →
      (c : ℕ) × IsCost product new (q ∷ []) (tree f kids none) c × (c ≤ product w m)
  opens q f side kids w m n b e h =
      let j = find q side w n b in
      let d : ℕ = (rule_at new j.0).cost in
      let h' : IsCost product new (holes (rule_at new j.0).right.kids) kids m = subst (λ s. IsCost product new (holes s.kids) kids m) (sym j.3) h in (
        product d m,
        finish laws new normal q f kids (product d m) j.0 j.1 (record { left = j.2; root = ap (λ s. s.label) j.3 ∙ e; below = (d, m, refl, h', refl) }),
        grows_both laws d m w m j.4 (omega arith),
      )

  -- runs from the states of some sides are runs from their heads for the sides filled, and no
  -- dearer
  wrap :
      (s : ℕ) (k : Trees (Symbol ℕ ℕ)) → ((r : Rule ℕ) → Has (inner_rules s k) r → Has (all_inner states rules) r) →
      (args : Trees ℕ) (m : ℕ) → count args ≡ length (holes k) → IsCost product new (holes k) args m →
      (n : ℕ) × IsCost product new (holes (heads s k)) (fill k args) n × (n ≤ m)
  wrap s none all none m e h = (m, h, omega arith)
  wrap s none all (tree f us ts) m e h = absurd (omega arith)
  wrap s (tree (hole p) kids rest) all none m e h = absurd (omega arith)
  wrap s (tree (hole p) kids rest) all (tree f us ts) m e h =
      let parts = split_all laws new p (holes rest) f us ts m h in
      let x = wrap s rest all ts parts.1 (omega arith) parts.3 in
      let le : product parts.0 x.0 ≤ product parts.0 parts.1 = laws.grows parts.0 x.0 parts.1 x.2 in (
        product parts.0 x.0,
        merge_all laws new p (holes (heads s rest)) f us (fill rest ts) (product parts.0 x.0) (parts.0, x.0, parts.2, x.1, refl),
        omega (arith, parts.4),
      )
  wrap s (tree (label g) kids rest) all args m e h =
      let n : ℕ = length (holes kids) in
      let total : length (holes kids) + length (holes rest) ≡ count args = sym (length-append (holes kids) (holes rest)) ∙ sym e in
      let fits : n ≤ count args = omega arith in
      let parts = cut_costs laws new normal n (holes kids ++ holes rest) args m fits h in
      let first : count (first_trees n args) ≡ n = count-first n args fits in
      let other : count (other_trees n args) ≡ length (holes rest) = omega (arith, count-other n args) in
      let x = wrap (suc s) kids (λ r i. all r (stands_below s g kids rest r i)) (first_trees n args) parts.first first
      (subst (λ qs. IsCost product new qs (first_trees n args) parts.first) (take-append_seam (holes kids) (holes rest)) parts.first_cost)
      in
      let y = wrap (suc s + labels_in kids) rest (λ r i. all r (stands_after s g kids rest r i)) (other_trees n args) parts.other other
      (subst (λ qs. IsCost product new qs (other_trees n args) parts.other) (drop-append_seam (holes kids) (holes rest)) parts.other_cost)
      in
      let side : SideFor ℕ ℕ = record { label = label g; kids = heads (suc s) kids } in
      let own : IsNormalCost product states rules s side 0 = inr (all (record { left = s; right = side; cost = 0 }) (inl refl)) in
      let z = opens s g side (fill kids (first_trees n args)) 0 x.0 own (omega arith) refl x.1 in
      let low : z.0 ≤ parts.first = omega (arith, z.2, x.2, laws.neutral x.0) in
      let le : product z.0 y.0 ≤ product parts.first parts.other = grows_both laws z.0 y.0 parts.first parts.other low y.2 in (
        product z.0 y.0,
        merge_all laws new s (holes (heads (suc s + labels_in kids) rest)) g (fill kids (first_trees n args)) (fill rest (other_trees n args))
            (product z.0 y.0) (z.0, y.0, z.1, y.1, refl {a = product z.0 y.0}),
        omega (arith, parts.costs),
      )

  -- and back: the trees are the sides filled with trees that run from the states of the sides
  record Unwrapped (k : Trees (Symbol ℕ ℕ)) (ts : Trees ℕ) (m : ℕ) : Type 0 where
    args : Trees ℕ
    counted : count args ≡ length (holes k)
    filled : fill k args ≡ ts
    is_cost : IsCost product new (holes k) args m
    small : sizes args ≤ sizes ts

  unwrap :
      (s : ℕ) (k : Trees (Symbol ℕ ℕ)) → states ≤ s → ((r : Rule ℕ) → Has (inner_rules s k) r → Has (all_inner states rules) r) →
      (ts : Trees ℕ) (m : ℕ) → IsCost product new (holes (heads s k)) ts m → Unwrapped k ts m
  unwrap s none low all none m h = record { args = none; counted = refl; filled = refl; is_cost = h; small = omega arith }
  unwrap s none low all (tree f us ts) m h = absurd (no_states new f us ts m h)
  unwrap s (tree (hole p) kids rest) low all none m h = absurd (no_trees laws new normal p (holes (heads s rest)) m h)
  unwrap s (tree (hole p) kids rest) low all (tree f us ts) m h =
      let parts = split_all laws new p (holes (heads s rest)) f us ts m h in
      let x = unwrap s rest low all ts parts.1 parts.3 in
      record {
        args = tree f us x.args;
        counted = ap suc x.counted;
        filled = ap (tree f us) x.filled;
        is_cost = merge_all laws new p (holes rest) f us x.args m (parts.0, parts.1, parts.2, x.is_cost, parts.4);
        small = omega (arith, x.small);
      }
  unwrap s (tree (label g) kids rest) low all none m h = absurd (no_trees laws new normal s (holes (heads (suc s + labels_in kids) rest)) m h)
  unwrap s (tree (label g) kids rest) low all (tree f us ts) m h =
      let p = open_cost laws new normal s (holes (heads (suc s + labels_in kids) rest)) f us ts m h in
      let own : Rule ℕ = record { left = s; right = record { label = label g; kids = heads (suc s) kids }; cost = 0 } in
      let is : rule_at new p.rule ≡ own = elim (attained p.rule p.below) [
        | inl r ↦ absurd (omega (arith, r.own, p.left))
        | inr i ↦ all_same states rules (rule_at new p.rule) own i (all own (inl refl)) p.left
      ] in
      let side : (rule_at new p.rule).right ≡ record { label = label g; kids = heads (suc s) kids } = ap (λ r. r.right) is in
      let free_cost : (rule_at new p.rule).cost ≡ 0 = ap (λ r. r.cost) is in
      let g_is : g ≡ f = one_label g f (rule_at new p.rule).right.label (ap (λ r. r.label) side) p.root in
      let x = unwrap (suc s) kids (omega arith) (λ r i. all r (stands_below s g kids rest r i)) us p.inner
      (subst (λ k. IsCost product new (holes k.kids) us p.inner) side p.kids_cost)
      in
      let y = unwrap (suc s + labels_in kids) rest (omega arith) (λ r i. all r (stands_after s g kids rest r i)) ts p.outer p.rest_cost in
      record {
        args = join x.args y.args;
        counted = omega (arith, count-join x.args y.args, x.counted, y.counted, length-append (holes kids) (holes rest));
        filled = filled_both g f kids rest x.args y.args us ts g_is x.counted x.filled y.filled;
        is_cost = subst (IsCost product new (holes kids ++ holes rest) (join x.args y.args))
            (free (rule_at new p.rule).cost p.inner p.outer m free_cost p.costs)
            (join_costs laws new normal (holes kids) (holes rest) x.args y.args p.inner p.outer x.is_cost y.is_cost);
        small = omega (arith, x.small, y.small, sizes-join x.args y.args);
      }

  -- what runs from the state of a chain rule's right side runs from its left state too
  through :
      (q p n f : ℕ) (kids : Trees ℕ) (m : ℕ) → q < states → p < states → n < length rules → (rule_at rules n).left ≡ q →
      (rule_at rules n).right ≡ Lone p →
      IsCost product new (p ∷ []) (tree f kids none) m → product (rule_at rules n).cost m ≤ most →
      (c : ℕ) × IsCost product new (q ∷ []) (tree f kids none) c × (c ≤ product (rule_at rules n).cost m)
  through q p n f kids m hq hp hn left right h b =
      let w : ℕ = (rule_at rules n).cost in
      let o = open_cost laws new normal p [] f kids none m h in
      let c : ℕ = (rule_at new o.rule).cost in
      let empty : o.outer ≡ 0 = none_to laws new o.outer o.rest_cost in
      let is_m : product c o.inner ≡ m = sym (product-zero laws (product c o.inner)) ∙ ap (product (product c o.inner)) (sym empty) ∙ o.costs in
      let all : product (product w c) o.inner ≡ product w m = laws.regroups w c o.inner ∙ ap (product w) is_m in
      let le : product w c ≤ product (product w c) o.inner = laws.at_least (product w c) o.inner in
      let reach : Reaches product states rules q (rule_at new o.rule).right (product w c) = elim (attained o.rule o.below) [
        | inr i ↦
            let low = (all_low states rules (rule_at new o.rule) i).0 in
            absurd (omega (arith, o.left))
        | inl r ↦ record {
          own = hq;
          chain = n ∷ r.chain;
          rule = r.rule;
          below = r.below;
          leads = (hn, left, (p, right, subst (λ z. IsChain rules z r.chain (rule_at rules r.rule).left) o.left r.leads));
          root = r.root;
          is_label = r.is_label;
          is_side = r.is_side;
          costs = laws.regroups w (chain_cost product rules r.chain) (rule_at rules r.rule).cost ∙ ap (product w) r.costs;
        }
      ] in
      let x = opens q f (rule_at new o.rule).right kids (product w c) o.inner (inl reach) (omega arith) o.root o.kids_cost in
      (x.0, x.1, omega (arith, x.2))

  one_tree : (args : Trees ℕ) → count args ≡ 1 → (f : ℕ) × (kids : Trees ℕ) × (args ≡ tree f kids none)
  one_tree none e = absurd (omega arith)
  one_tree (tree f kids none) e = (f, kids, refl)
  one_tree (tree f kids (tree g ks rest)) e = absurd (omega arith)

  symbol_is : (s : Symbol ℕ ℕ) → ((p : ℕ) × (s ≡ hole p)) ⊎ ((f : ℕ) × (s ≡ label f))
  symbol_is (hole p) = inl (p, refl)
  symbol_is (label f) = inr (f, refl)

  -- the side of a rule with a label, filled
  filled_label :
      (f : ℕ) (side : SideFor ℕ ℕ) (args : Trees ℕ) → side.label ≡ label f → count args ≡ length (holes side.kids) →
      fill (only side) args ≡ tree f (fill side.kids args) none
  filled_label f side args e c =
      ap (λ s. fill (tree s side.kids none) args) e ∙ ap (λ z. tree f (fill side.kids z) none) (first_all args (length (holes side.kids)) (sym c))

  -- the runs that begin with one rule
  begun :
      (q n : ℕ) (args : Trees ℕ) (m : ℕ) → q < states → n < length rules → (rule_at rules n).left ≡ q →
      count args ≡ length (holes_of (rule_at rules n).right) →
      IsCost product new (holes_of (rule_at rules n).right) args m → product (rule_at rules n).cost m ≤ most →
      (c : ℕ) × IsCost product new (q ∷ []) (fill (only (rule_at rules n).right) args) c × (c ≤ product (rule_at rules n).cost m)
  begun q n args m hq h left counted g b = elim (symbol_is (rule_at rules n).right.label) [
    | inl p ↦
        let right : (rule_at rules n).right ≡ Lone p.0 = lone n p.0 h p.1 in
        let in_states : AllBelow states (holes_of {A = ℕ} (Lone p.0)) = subst (λ r. AllBelow states (holes_of r)) right (range n h).1 in
        let t = one_tree args (counted ∙ ap (λ r. length (holes_of r)) right) in
        let g' : IsCost product new (p.0 ∷ []) (tree t.0 t.1 none) m =
        subst (λ ts. IsCost product new (p.0 ∷ []) ts m) t.2 (subst (λ r. IsCost product new (holes_of r) args m) right g)
        in
        let x = through q p.0 n t.0 t.1 m hq in_states.0 h left right g' b in
        let is : tree t.0 t.1 none ≡ fill (only (rule_at rules n).right) args =
        ap (fill (only (Lone p.0))) (sym t.2) ∙ ap (λ r. fill (only r) args) (sym right)
        in
        (x.0, subst (λ ts. IsCost product new (q ∷ []) ts x.0) is x.1, x.2)
    | inr f ↦
        let w : ℕ = (rule_at rules n).cost in
        let k : Trees (Symbol ℕ ℕ) = (rule_at rules n).right.kids in
        let s : ℕ = first_inner states rules n in
        let holes_are : holes_of (rule_at rules n).right ≡ holes k = holes_of-label (rule_at rules n).right.label k f.0 f.1 in
        let long : count args ≡ length (holes k) = counted ∙ ap length holes_are in
        let x = wrap s k (λ r i. inner_in states rules n r h i) args m long (subst (λ qs. IsCost product new qs args m) holes_are g) in
        let reach : Reaches product states rules q (record { label = label f.0; kids = heads s k }) w = record {
          own = hq;
          chain = [];
          rule = n;
          below = h;
          leads = sym left;
          root = f.0;
          is_label = f.1;
          is_side = refl;
          costs = laws.neutral w;
        } in
        let w_le : w ≤ product w m = laws.at_least w m in
        let y = opens q f.0 (record { label = label f.0; kids = heads s k }) (fill k args) w x.0 (inl reach) (omega arith) refl x.1 in
        let low : product w x.0 ≤ product w m = laws.grows w x.0 m x.2 in
        let is : tree f.0 (fill k args) none ≡ fill (only (rule_at rules n).right) args = sym (filled_label f.0 (rule_at rules n).right args f.1 long) in
        (y.0, subst (λ ts. IsCost product new (q ∷ []) ts y.0) is y.1, omega (arith, y.2))
  ]

  -- runs of the grammar have runs of the normal form that are as cheap
  to_normal :
      (runs : Trees ℕ) (qs : List ℕ) → AllBelow states qs → AreRuns rules qs runs → cost product rules runs ≤ most →
      (m : ℕ) × IsCost product new qs (yields rules runs) m × (m ≤ cost product rules runs)
  to_normal none [] r a b = (0, (IsLeast-no_states laws new).attained.0, omega arith)
  to_normal none (q ∷ qs) r a b = absurd a
  to_normal (tree n runs rest) [] r a b = absurd a
  to_normal (tree n runs rest) (q ∷ qs) r a b =
      let w : ℕ = (rule_at rules n).cost in
      let x : ℕ = cost product rules runs in
      let y : ℕ = cost product rules rest in
      let le1 : x ≤ product w x = at_least_right laws w x in
      let le2 : product w x ≤ product (product w x) y = laws.at_least (product w x) y in
      let le3 : y ≤ product (product w x) y = at_least_right laws (product w x) y in
      let below = to_normal runs (holes_of (rule_at rules n).right) (range n a.0).1 a.2 (omega arith) in
      let after = to_normal rest qs r.1 a.3 (omega arith) in
      let up : product w below.0 ≤ product w x = laws.grows w below.0 x below.2 in
      let counted = count-yields rules (holes_of (rule_at rules n).right) runs a.2 in
      let one = begun q n (yields rules runs) below.0 r.0 a.0 a.1 counted below.1 (omega arith) in
      let le4 : product one.0 after.0 ≤ product (product w x) y = grows_both laws one.0 after.0 (product w x) y (omega (arith, one.2)) after.2 in
      let filled : Trees ℕ = fill (only (rule_at rules n).right) (yields rules runs) in
      (product one.0 after.0, join_costs laws new normal (q ∷ []) qs filled (yields rules rest) one.0 after.0 one.1 after.1, le4)

  -- a run from the end of a chain makes one from its beginning
  chained :
      (q : ℕ) (ns : List ℕ) (p : ℕ) (ts : Trees ℕ) (c : ℕ) → IsChain rules q ns p → count ts ≡ 1 → IsCost product rules (p ∷ []) ts c →
      IsCost product rules (q ∷ []) ts (product (chain_cost product rules ns) c)
  chained q [] p ts c h e g =
      subst (λ z. IsCost product rules (z ∷ []) ts (product 0 c)) (sym h) (subst (IsCost product rules (p ∷ []) ts) (sym (laws.neutral c)) g)
  chained q (n ∷ ns) p ts c h e g =
      let x = chained h.2.0 ns p ts c h.2.2 e g in
      let t = one_tree ts e in
      record {
        runs = tree n x.runs none;
        are_runs = (h.0, h.1, subst (λ r. AreRuns rules (holes_of r) x.runs) (sym h.2.1) x.are_runs, tt);
        yielded = join-none _ ∙ ap (λ r. fill (only r) (yields rules x.runs)) h.2.1 ∙ ap (fill (only (Lone h.2.0))) (x.yielded ∙ t.2) ∙ sym t.2;
        costs = product-zero laws _ ∙ ap (product (rule_at rules n).cost) x.costs ∙ sym (laws.regroups (rule_at rules n).cost (chain_cost product rules ns) c);
      }

  -- a run that begins with a rule that is no chain rule
  own_cost :
      (n f : ℕ) (args : Trees ℕ) (m : ℕ) → n < length rules → (rule_at rules n).right.label ≡ label f →
      count args ≡ length (holes (rule_at rules n).right.kids) → IsCost product rules (holes (rule_at rules n).right.kids) args m →
      IsCost product rules ((rule_at rules n).left ∷ []) (tree f (fill (rule_at rules n).right.kids args) none) (product (rule_at rules n).cost m)
  own_cost n f args m h e counted c = record {
    runs = tree n c.runs none;
    are_runs = (
      h,
      refl,
      subst (λ qs. AreRuns rules qs c.runs) (sym (holes_of-label (rule_at rules n).right.label (rule_at rules n).right.kids f e)) c.are_runs,
      tt,
    );
    yielded = join-none _ ∙ ap (fill (only (rule_at rules n).right)) c.yielded ∙ filled_label f (rule_at rules n).right args e counted;
    costs = product-zero laws _ ∙ ap (product (rule_at rules n).cost) c.costs;
  }

  -- the costs of runs of the normal form are costs of runs of the grammar
  from_normal :
      (fuel : ℕ) (ts : Trees ℕ) (qs : List ℕ) (c : ℕ) → sizes ts ≤ fuel → AllBelow states qs → IsCost product new qs ts c →
      IsCost product rules qs ts c
  from_normal fuel none [] c h r g = subst (IsCost product rules [] none) (sym (none_to laws new c g)) (IsLeast-no_states laws rules).attained.0
  from_normal fuel none (q ∷ qs) c h r g = absurd (no_trees laws new normal q qs c g)
  from_normal fuel (tree f kids rest) [] c h r g = absurd (no_states new f kids rest c g)
  from_normal zero (tree f kids rest) (q ∷ qs) c h r g = absurd (omega arith)
  from_normal (suc fuel) (tree f kids rest) (q ∷ qs) c h r g =
      let o = open_cost laws new normal q qs f kids rest c g in
      let after = from_normal fuel rest qs o.outer (omega arith) r.1 o.rest_cost in
      elim (attained o.rule o.below) [
        | inr i ↦
            let low = (all_low states rules (rule_at new o.rule) i).0 in
            absurd (omega (arith, o.left, r.0))
        | inl e ↦
            let n : ℕ = e.rule in
            let k : Trees (Symbol ℕ ℕ) = (rule_at rules n).right.kids in
            let s : ℕ = first_inner states rules n in
            let root : e.root ≡ f = one_label e.root f (rule_at new o.rule).right.label (ap (λ z. z.label) e.is_side) o.root in
            let u = unwrap s k (first_low states rules n) (λ t i. inner_in states rules n t e.below i) kids o.inner
            (subst (λ z. IsCost product new (holes z.kids) kids o.inner) e.is_side o.kids_cost)
            in
            let holes_are : holes_of (rule_at rules n).right ≡ holes k = holes_of-label (rule_at rules n).right.label k e.root e.is_label in
            let in_states : AllBelow states (holes k) = subst (AllBelow states) holes_are (range n e.below).1 in
            let below = from_normal fuel u.args (holes k) o.inner (omega (arith, u.small)) in_states u.is_cost in
            let w : ℕ = (rule_at rules n).cost in
            let filled : tree e.root (fill k u.args) none ≡ tree f kids none = ap (λ z. tree e.root z none) u.filled ∙ ap (λ z. tree z kids none) root in
            let own : IsCost product rules ((rule_at rules n).left ∷ []) (tree f kids none) (product w o.inner) =
            subst (λ z. IsCost product rules ((rule_at rules n).left ∷ []) z (product w o.inner)) filled
            (own_cost n e.root u.args o.inner e.below e.is_label u.counted below)
            in
            let v : ℕ = product (chain_cost product rules e.chain) (product w o.inner) in
            let whole : IsCost product rules ((rule_at new o.rule).left ∷ []) (tree f kids none) v =
            chained (rule_at new o.rule).left e.chain (rule_at rules n).left (tree f kids none) (product w o.inner) e.leads refl own
            in
            let costs : v ≡ product (rule_at new o.rule).cost o.inner =
            sym (laws.regroups (chain_cost product rules e.chain) w o.inner) ∙ ap (λ z. product z o.inner) e.costs
            in
            merge_all laws rules q qs f kids rest c (
              product (rule_at new o.rule).cost o.inner,
              o.outer,
              subst (IsCost product rules (q ∷ []) (tree f kids none)) costs (subst (λ z. IsCost product rules (z ∷ []) (tree f kids none) v) o.left whole),
              after,
              o.costs,
            )
      ]

  pub normalized : (q : ℕ) → q < states → (t : Tree ℕ) (v : Option ℕ) → IsSeriesAt product rules q t v ↔ IsSeriesAt product new q t v
  normalized q hq t v = (λ h. IsLeast-dominated to from h, λ h. IsLeast-dominated from to h)
    where
      to : (n : ℕ) → IsCost product rules (q ∷ []) (only t) n → n ≤ most → (m : ℕ) × IsCost product new (q ∷ []) (only t) m × (m ≤ n)
      to n h b =
          let x = to_normal h.runs (q ∷ []) (hq, tt) h.are_runs (omega (arith, h.costs)) in
          (x.0, subst (λ ts. IsCost product new (q ∷ []) ts x.0) h.yielded x.1, omega (arith, x.2, h.costs))

      from : (n : ℕ) → IsCost product new (q ∷ []) (only t) n → n ≤ most → (m : ℕ) × IsCost product rules (q ∷ []) (only t) m × (m ≤ n)
      from n h b = (n, from_normal (sizes (only t)) (only t) (q ∷ []) n (omega arith) (hq, tt) h, omega arith)
