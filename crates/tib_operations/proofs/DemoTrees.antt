-- No state of the grammar that `demo` makes has a cheapest tree that is too large: that of pi has
-- at most one node more than i.
use Rattle.tib_cost.specs.declared.Scale.{Scale}
use Rattle.std.proofs.Common.{◌≡◌, ℕ, ◌+◌, ◌<◌, ◌≤◌, ◌⊎◌, inl, inr, Bool, true, false, List, [], ◌∷◌, length, map, get_or, refl, ap, sym, ◌∙◌, arith, subst, suc}
use Rattle.std.specs.Prelude.{Option, Some, None, Result, Ok, slice_get, codes, decimal, filter, nat_le, if◌then◌else◌}
use Rattle.std.proofs.lemmas.Fmt.{decimal_injective}
use Rattle.tib_cost.specs.Least.{IsLeast}
use Rattle.tib_cost.specs.Semiring.{ProductLaws, most}
use Rattle.tib_lex.specs.Lists.{Has, Each, Along, Distinct}
use Rattle.tib_lex.specs.declared.fault.FileFault.{FileFault}
use Rattle.tib_lex.proofs.Lists.{append_nil, head_is, tail_is, some_same, Each-from, each_append, mapped_has}
use Rattle.tib_lex.proofs.Members.{each_has, each_of, has_at, has_either, has_contains}
use Rattle.tib_lex.proofs.Places.{distinct_at}
use Rattle.tib_tree.specs.Grows.{Adds, AddsAll}
use Rattle.tib_tree.specs.Trees.{Tree, Trees, none, tree, only, count, preorder, preorder_of, relabel, size, most_nodes}
use Rattle.tib_tree.specs.Written.{Item, item}
use Rattle.tib_grammar.specs.Forms.{AreNormal, IsLabel}
use Rattle.tib_grammar.specs.GrammarOf.{GrammarOf, named_rule}
use Rattle.tib_grammar.specs.Range.{AllBelow}
use Rattle.tib_grammar.specs.Run.{rule_at, no_rule, IsCost}
use Rattle.tib_grammar.specs.Sides.{Symbol, label, hole, holes, AreHoles, symbol_map, Side as SideFor}
use Rattle.tib_grammar.specs.declared.Rule.{Rule}
use Rattle.tib_grammar.proofs.Best.{best, best-is_least, no_trees}
use Rattle.tib_grammar.proofs.Opening.{IsOpened, open_cost, close_cost}
use Rattle.tib_grammar_file.specs.Read.{ReadsAs}
use Rattle.tib_grammar_file.specs.Rule.{RuleLine}
use Rattle.tib_grammar_file.specs.Value.{IsNode, IsStateLeaf, IsRule, left_of}
use Rattle.tib_grammar_file.proofs.OneGrammar.{number_same, names_distinct}
use Rattle.tib_grammar_file.proofs.PrintedStates.{contains_has, all_added}
use Rattle.tib_grammar_file.proofs.TextRead.{text_forth}
use Rattle.tib_normal.specs.NormalForm.{heads, first_inner, labels_in, inner_rules, all_inner, IsChain, Reaches, IsNormalForm}
use Rattle.tib_inside.specs.Trimmed.{IsTrimmed}
use Rattle.tib_inside.proofs.Chosen.{ascending_distinct}
use Rattle.tib_inside.proofs.Keeping.{as_many, named_at}
use Rattle.tib_ranked_trees.specs.Best.{Costed, Cheaper, IsTreeAt, IsKBest, HasLarge}
use Rattle.tib_ranked_trees.specs.Levels.{free, level, IsLevel}
use Rattle.tib_ranked_trees.proofs.Ranks.{cheaper_strict}
use Rattle.tib_operations.specs.Demo.{demo_text}
use Rattle.tib_operations.specs.KBest.{AreSmall, HasLargeTree, ListsSmall}
use Rattle.tib_operations.proofs.BestExists.{larger_later, nat_cases, size_cases}
use Rattle.tib_operations.proofs.DemoText.{state, reads, IsDemoLine}

-- what is in a right-hand side: a label alone, or a label over the state p alone

abbrev IsAlone : Symbol ℕ ℕ → Trees (Symbol ℕ ℕ) → Type 0
IsAlone (hole q) ks = ⊥
IsAlone (label f) none = Unit {0}
IsAlone (label f) (tree s kids rest) = ⊥

abbrev IsAbove : Symbol ℕ ℕ → Trees (Symbol ℕ ℕ) → ℕ → Type 0
IsAbove (hole q) ks p = ⊥
IsAbove (label f) none p = ⊥
IsAbove (label f) (tree (label g) kids rest) p = ⊥
IsAbove (label f) (tree (hole q) none none) p = q ≡ p
IsAbove (label f) (tree (hole q) none (tree s kids rest)) p = ⊥
IsAbove (label f) (tree (hole q) (tree s kids more) rest) p = ⊥

-- A rule over states with ranks: a state of rank 0 has a label alone, or a label over itself, and
-- one of a higher rank a label over one of the rank below.
abbrev IsRankedAs : (ℕ → ℕ → Type 0) → ℕ → Symbol ℕ ℕ → Trees (Symbol ℕ ℕ) → Type 0
IsRankedAs R q s ks =
    (R q 0 × IsAlone s ks) ⊎ ((p : ℕ) × IsAbove s ks p × (((p ≡ q) × R q 0) ⊎ ((i : ℕ) × R q (suc i) × R p i)))

abbrev IsRanked : (ℕ → ℕ → Type 0) → Rule ℕ → Type 0
IsRanked R r = IsRankedAs R r.left r.right.label r.right.kids

abbrev AreRanked : (ℕ → ℕ → Type 0) → List (Rule ℕ) → Type 0
AreRanked R rules = Each (IsRanked R) rules

alone_normal : (s : Symbol ℕ ℕ) (ks : Trees (Symbol ℕ ℕ)) → IsAlone s ks → IsLabel s × AreHoles ks
alone_normal (hole q) ks h = absurd h
alone_normal (label f) none h = (tt, tt)
alone_normal (label f) (tree s kids rest) h = absurd h

above_normal : (s : Symbol ℕ ℕ) (ks : Trees (Symbol ℕ ℕ)) (p : ℕ) → IsAbove s ks p → IsLabel s × AreHoles ks
above_normal (hole q) ks p h = absurd h
above_normal (label f) none p h = absurd h
above_normal (label f) (tree (label g) kids rest) p h = absurd h
above_normal (label f) (tree (hole q) none none) p h = (tt, tt)
above_normal (label f) (tree (hole q) none (tree s kids rest)) p h = absurd h
above_normal (label f) (tree (hole q) (tree s kids more) rest) p h = absurd h

ranked_normal : (R : ℕ → ℕ → Type 0) (q : ℕ) (s : Symbol ℕ ℕ) (ks : Trees (Symbol ℕ ℕ)) → IsRankedAs R q s ks → IsLabel s × AreHoles ks
ranked_normal R q s ks (inl a) = alone_normal s ks a.1
ranked_normal R q s ks (inr b) = above_normal s ks b.0 b.1

alone_holes : (s : Symbol ℕ ℕ) (ks : Trees (Symbol ℕ ℕ)) → IsAlone s ks → holes ks ≡ []
alone_holes (hole q) ks h = absurd h
alone_holes (label f) none h = refl
alone_holes (label f) (tree s kids rest) h = absurd h

above_holes : (s : Symbol ℕ ℕ) (ks : Trees (Symbol ℕ ℕ)) (p : ℕ) → IsAbove s ks p → holes ks ≡ p ∷ []
above_holes (hole q) ks p h = absurd h
above_holes (label f) none p h = absurd h
above_holes (label f) (tree (label g) kids rest) p h = absurd h
above_holes (label f) (tree (hole q) none none) p h = ap (λ (x : ℕ). x ∷ []) h
above_holes (label f) (tree (hole q) none (tree s kids rest)) p h = absurd h
above_holes (label f) (tree (hole q) (tree s kids more) rest) p h = absurd h

-- a tree that a state yields at a cost of at most c, with one node more than the rank of the state
record HasSmaller (R : ℕ → ℕ → Type 0) (product : ℕ → ℕ → ℕ) (rules : List (Rule ℕ)) (q c : ℕ) : Type 0 where
  pub tree_there : Tree ℕ
  pub cost : ℕ
  pub is_cost : IsCost product rules (q ∷ []) (only tree_there) cost
  pub low : cost ≤ c
  pub rank : ℕ
  pub ranked : R q rank
  pub small : size tree_there ≤ suc rank

-- a state has one rank, below a number
record AreRanks (R : ℕ → ℕ → Type 0) (bound : ℕ) : Type 0 where
  pub one : (q i j : ℕ) → R q i → R q j → i ≡ j
  pub below : (q i : ℕ) → R q i → i < bound

module _
    {levelled weighted : Bool} {product : ℕ → ℕ → ℕ} (laws : ProductLaws levelled weighted product)
    (R : ℕ → ℕ → Type 0) (bound : ℕ) (ranks : AreRanks R bound) (rules : List (Rule ℕ)) (are : AreRanked R rules) where
  rule_ranked : (n : ℕ) → n < length rules → IsRanked R (rule_at rules n)
  rule_ranked n h = each_has (IsRanked R) rules (rule_at rules n) are (has_at rules n no_rule h)

  normal : AreNormal rules
  normal n h =
      let r = rule_at rules n in
      let s = ranked_normal R r.left r.right.label r.right.kids (rule_ranked n h) in
      record { is_label = s.0; are_holes = s.1 }

  nothing : IsCost product rules [] none 0
  nothing = record { runs = none; are_runs = tt; yielded = refl; costs = refl }

  part : (w inner outer c : ℕ) → product (product w inner) outer ≡ c → inner ≤ c
  part w inner outer c e =
      let a : inner ≤ product inner w = laws.at_least inner w in
      let b : product w inner ≤ product (product w inner) outer = laws.at_least (product w inner) outer in
      let s : product inner w ≡ product w inner = laws.commutes inner w in
      omega (arith, a, b, s, e)

  over : (w d inner outer c : ℕ) → d ≤ inner → product (product w inner) outer ≡ c → product (product w d) 0 ≤ c
  over w d inner outer c h e =
      let a : product w d ≤ product w inner = laws.grows w d inner h in
      let b : product w inner ≤ product (product w inner) outer = laws.at_least (product w inner) outer in
      let s : product (product w d) 0 ≡ product w d = laws.commutes (product w d) 0 ∙ laws.neutral (product w d) in
      omega (arith, a, b, s, e)

  step :
      (f : ℕ) (kids rest : Trees ℕ) (q c : ℕ) → (o : IsOpened product rules q [] f kids rest c) → IsRanked R (rule_at rules o.rule) →
      ((p d : ℕ) → IsCost product rules (p ∷ []) kids d → HasSmaller R product rules p d) → HasSmaller R product rules q c
  step f kids rest q c o (inl a) more =
      let r = rule_at rules o.rule in
      record {
        tree_there = record { label = f; kids = none };
        cost = product (product r.cost 0) 0;
        is_cost =
            close_cost laws rules normal q [] f none none (product (product r.cost 0) 0) (record {
              rule = o.rule;
              below = o.below;
              left = o.left;
              root = o.root;
              inner = 0;
              outer = 0;
              kids_cost = subst (λ (qs : List ℕ). IsCost product rules qs none 0) (sym (alone_holes r.right.label r.right.kids a.1)) nothing;
              rest_cost = nothing;
              costs = refl;
            });
        low = over r.cost 0 o.inner o.outer c (omega arith) o.costs;
        rank = 0;
        ranked = subst (λ (p : ℕ). R p 0) o.left a.0;
        small = omega arith;
      }
  step f kids rest q c o (inr b) more =
      let r = rule_at rules o.rule in
      let below : IsCost product rules (b.0 ∷ []) kids o.inner =
      subst (λ (qs : List ℕ). IsCost product rules qs kids o.inner) (above_holes r.right.label r.right.kids b.0 b.1) o.kids_cost in
      let m : HasSmaller R product rules b.0 o.inner = more b.0 o.inner below in
      elim b.2 [
        | inl l ↦
            let same : b.0 ≡ q = l.0 ∙ o.left in
            let inner : o.inner ≤ c = part r.cost o.inner o.outer c o.costs in
            record {
              tree_there = m.tree_there;
              cost = m.cost;
              is_cost = subst (λ (p : ℕ). IsCost product rules (p ∷ []) (only m.tree_there) m.cost) same m.is_cost;
              low = omega (arith, m.low, inner);
              rank = m.rank;
              ranked = subst (λ (p : ℕ). R p m.rank) same m.ranked;
              small = m.small;
            }
        | inr s ↦
            record {
              tree_there = record { label = f; kids = only m.tree_there };
              cost = product (product r.cost m.cost) 0;
              is_cost =
                  close_cost laws rules normal q [] f (only m.tree_there) none (product (product r.cost m.cost) 0) (record {
                    rule = o.rule;
                    below = o.below;
                    left = o.left;
                    root = o.root;
                    inner = m.cost;
                    outer = 0;
                    kids_cost =
                        subst (λ (qs : List ℕ). IsCost product rules qs (only m.tree_there) m.cost) (sym (above_holes r.right.label r.right.kids b.0 b.1)) m.is_cost;
                    rest_cost = nothing;
                    costs = refl;
                  });
              low = over r.cost m.cost o.inner o.outer c m.low o.costs;
              rank = suc s.0;
              ranked = subst (λ (p : ℕ). R p (suc s.0)) o.left s.1;
              small = omega (arith, m.small, ranks.one b.0 m.rank s.0 m.ranked s.2);
            }
      ]

  smaller : (ts : Trees ℕ) (q c : ℕ) → IsCost product rules (q ∷ []) ts c → HasSmaller R product rules q c
  smaller none q c h = absurd (no_trees laws rules normal q [] c h)
  smaller (tree f kids rest) q c h =
      let o : IsOpened product rules q [] f kids rest c = open_cost laws rules normal q [] f kids rest c h in
      step f kids rest q c o (rule_ranked o.rule o.below) (λ p d k. smaller kids p d k)

  -- a large tree of a state comes after a smaller one
  cheaper_there : (labels : List (List ℕ)) (q : ℕ) (t : Costed) → IsTreeAt product rules q t → bound < size t.0 → (y : Costed) × IsTreeAt product rules q y × Cheaper labels y t
  cheaper_there labels q t at large =
      let s : HasSmaller R product rules q t.1 = smaller (only t.0) q t.1 at.attained.0 in
      let few : size s.tree_there < size t.0 = omega (arith, s.small, ranks.below q s.rank s.ranked, large) in
      let cut : s.cost ≤ most = omega (arith, s.low, at.attained.1) in
      found s few cut (best product rules (only s.tree_there) (q ∷ [])) (best-is_least laws rules normal (only s.tree_there) (q ∷ []))
    where
      found :
          (s : HasSmaller R product rules q t.1) → size s.tree_there < size t.0 → s.cost ≤ most → (v : Option ℕ) → IsLeast (IsCost product rules (q ∷ []) (only s.tree_there)) v →
          (y : Costed) × IsTreeAt product rules q y × Cheaper labels y t
      found s few cut None l = absurd (l.lower s.cost s.is_cost cut)
      found s few cut (Some d) l =
          let low : d ≤ t.1 = omega (arith, l.lower s.cost s.is_cost cut, s.low) in (
            (s.tree_there, d),
            l,
            elim (nat_cases d t.1 low) [
              | inl less ↦ inl less
              | inr same ↦ subst (λ (c : ℕ). Cheaper labels (s.tree_there, d) (t.0, c)) same (larger_later labels s.tree_there t.0 d few)
            ],
          )

  -- so none of the first trees is large
  none_large : bound ≤ most_nodes → (labels : List (List ℕ)) (q : ℕ) → HasLarge product labels rules 1 q → ⊥
  none_large low labels q h =
      let c = cheaper_there labels q h.tree h.next.member (omega (arith, low, h.large)) in
      elim (h.next.least c.0 c.1 (no_front h.front h.few c.0)) [
        | inl same ↦ let twice : Cheaper labels c.0 c.0 = subst (λ (y : Costed). Cheaper labels c.0 y) same c.2 in (cheaper_strict labels).apart c.0 c.0 twice twice
        | inr before ↦ (cheaper_strict labels).apart c.0 h.tree c.2 before
      ]
    where
      no_front : (xs : List Costed) → length xs < 1 → (y : Costed) → Has xs y → ⊥
      no_front [] few y k = k
      no_front (x ∷ xs) few y k = omega (arith, few)

  -- nor is one that is listed
  first_small : bound ≤ most_nodes → (labels : List (List ℕ)) (xs : List Costed) → IsKBest product rules labels 1 xs → AreSmall xs
  first_small low labels [] h = tt
  first_small low labels (x ∷ []) h = elim (size_cases (size x.0) most_nodes) [
    | inl small ↦ (small, tt)
    | inr large ↦
        let c = cheaper_there labels 0 x h.members.0 (omega (arith, low, large)) in
        let apart : Has (x ∷ []) c.0 → ⊥ = λ k. elim k [
          | inl same ↦ let twice : Cheaper labels c.0 c.0 = subst (λ (y : Costed). Cheaper labels c.0 y) same c.2 in (cheaper_strict labels).apart c.0 c.0 twice twice
          | inr other ↦ other
        ] in
        absurd ((cheaper_strict labels).apart c.0 x c.2 (h.others c.0 c.1 apart).1.0)
  ]
  first_small low labels (x ∷ (y ∷ xs)) h = absurd (omega (arith, h.few))

-- a level has rules of the grammar, at no cost

level_ranked : (R : ℕ → ℕ → Type 0) (c : ℕ) (rules : List (Rule ℕ)) → AreRanked R rules → AreRanked R (level c rules)
level_ranked R c [] h = tt
level_ranked R c (r ∷ rules) h = by (nat_le r.cost c) (level_ranked R c rules h.1)
  where
    by : (b : Bool) → AreRanked R (level c rules) → AreRanked R (map free (if b then r ∷ filter (λ s. nat_le s.cost c) rules else filter (λ s. nat_le s.cost c) rules))
    by true more = (h.0, more)
    by false more = more

levels_ranked : (R : ℕ → ℕ → Type 0) (levelled : Bool) (rules one : List (Rule ℕ)) → IsLevel levelled rules one → AreRanked R rules → AreRanked R one
levels_ranked R true rules one l h = subst (AreRanked R) (sym l.2) (level_ranked R l.0.cost rules h)
levels_ranked R false rules one l h = subst (AreRanked R) (sym l) h

-- the normal form of such rules has no other rules

alone_heads : (n f : ℕ) (s : Symbol ℕ ℕ) (ks : Trees (Symbol ℕ ℕ)) → IsAlone s ks → IsAlone (label f) (heads n ks)
alone_heads n f (hole q) ks h = absurd h
alone_heads n f (label g) none h = tt
alone_heads n f (label g) (tree s kids rest) h = absurd h

above_heads : (n f : ℕ) (s : Symbol ℕ ℕ) (ks : Trees (Symbol ℕ ℕ)) (p : ℕ) → IsAbove s ks p → IsAbove (label f) (heads n ks) p
above_heads n f (hole q) ks p h = absurd h
above_heads n f (label g) none p h = absurd h
above_heads n f (label g) (tree (label k) kids rest) p h = absurd h
above_heads n f (label g) (tree (hole q) none none) p h = h
above_heads n f (label g) (tree (hole q) none (tree s kids rest)) p h = absurd h
above_heads n f (label g) (tree (hole q) (tree s kids more) rest) p h = absurd h

alone_inner : (n : ℕ) (s : Symbol ℕ ℕ) (ks : Trees (Symbol ℕ ℕ)) → IsAlone s ks → inner_rules n ks ≡ []
alone_inner n (hole q) ks h = absurd h
alone_inner n (label f) none h = refl
alone_inner n (label f) (tree s kids rest) h = absurd h

above_inner : (n : ℕ) (s : Symbol ℕ ℕ) (ks : Trees (Symbol ℕ ℕ)) (p : ℕ) → IsAbove s ks p → inner_rules n ks ≡ []
above_inner n (hole q) ks p h = absurd h
above_inner n (label f) none p h = absurd h
above_inner n (label f) (tree (label g) kids rest) p h = absurd h
above_inner n (label f) (tree (hole q) none none) p h = refl
above_inner n (label f) (tree (hole q) none (tree s kids rest)) p h = absurd h
above_inner n (label f) (tree (hole q) (tree s kids more) rest) p h = absurd h

ranked_inner : (R : ℕ → ℕ → Type 0) (n : ℕ) (r : Rule ℕ) → IsRanked R r → inner_rules n r.right.kids ≡ []
ranked_inner R n r (inl a) = alone_inner n r.right.label r.right.kids a.1
ranked_inner R n r (inr b) = above_inner n r.right.label r.right.kids b.0 b.1

no_inner : (R : ℕ → ℕ → Type 0) (n : ℕ) (rules : List (Rule ℕ)) → AreRanked R rules → (x : Rule ℕ) → Has (all_inner n rules) x → ⊥
no_inner R n [] h x k = k
no_inner R n (r ∷ rules) h x k = elim (has_either (inner_rules n r.right.kids) (all_inner (n + labels_in r.right.kids) rules) x k) [
  | inl own ↦ subst (λ (xs : List (Rule ℕ)). Has xs x) (ranked_inner R n r h.0) own
  | inr other ↦ no_inner R (n + labels_in r.right.kids) rules h.1 x other
]

module _ (R : ℕ → ℕ → Type 0) (product : ℕ → ℕ → ℕ) (states : ℕ) (rules : List (Rule ℕ)) (are : AreRanked R rules) where
  ranked_at : (n : ℕ) → n < length rules → IsRanked R (rule_at rules n)
  ranked_at n h = each_has (IsRanked R) rules (rule_at rules n) are (has_at rules n no_rule h)

  -- no rule is a chain rule
  no_chain : (q r : ℕ) (chain : List ℕ) → IsChain rules q chain r → q ≡ r
  no_chain q r [] h = h
  no_chain q r (n ∷ ns) h =
      let rule = rule_at rules n in
      let is : IsLabel rule.right.label = (ranked_normal R rule.left rule.right.label rule.right.kids (ranked_at n h.0)).0 in
      absurd (subst (λ (s : SideFor ℕ ℕ). IsLabel s.label) h.2.1 is)

  headed : (n f q : ℕ) (s : Symbol ℕ ℕ) (ks : Trees (Symbol ℕ ℕ)) → IsRankedAs R q s ks → IsRankedAs R q (label f) (heads n ks)
  headed n f q s ks (inl a) = inl (a.0, alone_heads n f s ks a.1)
  headed n f q s ks (inr b) = inr (b.0, above_heads n f s ks b.0 b.1, b.2)

  own_ranked : (q : ℕ) (side : SideFor ℕ ℕ) (c : ℕ) → Reaches product states rules q side c → IsRankedAs R q side.label side.kids
  own_ranked q side c h =
      let rule = rule_at rules h.rule in
      let start : q ≡ rule.left = no_chain q rule.left h.chain h.leads in
      let n : ℕ = first_inner states rules h.rule in
      let ranked : IsRankedAs R rule.left (label h.root) (heads n rule.right.kids) = headed n h.root rule.left rule.right.label rule.right.kids (ranked_at h.rule h.below) in
      subst (λ (s : SideFor ℕ ℕ). IsRankedAs R q s.label s.kids) (sym h.is_side)
      (subst (λ (p : ℕ). IsRankedAs R p (label h.root) (heads n rule.right.kids)) (sym start) ranked)

  normal_ranked : (more : ℕ) (new : List (Rule ℕ)) → IsNormalForm product states rules more new → AreRanked R new
  normal_ranked more new form = each_of (IsRanked R) new (λ r k. elim (form.least r k).attained.0 [
    | inl own ↦ own_ranked r.left r.right r.cost own
    | inr inner ↦ absurd (no_inner R states rules are _ inner)
  ])

-- trimming gives states new numbers

abbrev Renamed : (ℕ → ℕ → Type 0) → List ℕ → ℕ → ℕ → Type 0
Renamed R states q i = (q < length states) × R (get_or states q 0) i

alone_back : (g : ℕ → ℕ) (s : Symbol ℕ ℕ) (ks : Trees (Symbol ℕ ℕ)) → IsAlone (symbol_map g s) (relabel (symbol_map g) ks) → IsAlone s ks
alone_back g (hole q) ks h = absurd h
alone_back g (label f) none h = tt
alone_back g (label f) (tree s kids rest) h = absurd h

above_back :
    (g : ℕ → ℕ) (n : ℕ) (s : Symbol ℕ ℕ) (ks : Trees (Symbol ℕ ℕ)) (p : ℕ) → AllBelow n (holes ks) → IsAbove (symbol_map g s) (relabel (symbol_map g) ks) p →
    (q : ℕ) × (q < n) × IsAbove s ks q × (g q ≡ p)
above_back g n (hole q) ks p b h = absurd h
above_back g n (label f) none p b h = absurd h
above_back g n (label f) (tree (label k) kids rest) p b h = absurd h
above_back g n (label f) (tree (hole q) none none) p b h = (q, b.0, refl, h)
above_back g n (label f) (tree (hole q) none (tree s kids rest)) p b h = absurd h
above_back g n (label f) (tree (hole q) (tree s kids more) rest) p b h = absurd h

-- what is above a state has holes in the range of its rule
kids_below : (n : ℕ) (s : Symbol ℕ ℕ) (ks : Trees (Symbol ℕ ℕ)) → IsLabel s → AllBelow n (holes (tree s ks none)) → AllBelow n (holes ks)
kids_below n (label f) ks h b = subst (AllBelow n) (append_nil (holes ks)) b
kids_below n (hole q) ks h b = absurd h

back_label : (g : ℕ → ℕ) (s : Symbol ℕ ℕ) → IsLabel (symbol_map g s) → IsLabel s
back_label g (label f) h = tt
back_label g (hole q) h = absurd h

module _ (R : ℕ → ℕ → Type 0) (states : List ℕ) (distinct : Distinct states) where
  back :
      (q : ℕ) (s : Symbol ℕ ℕ) (ks : Trees (Symbol ℕ ℕ)) → q < length states → AllBelow (length states) (holes ks) →
      IsRankedAs R (get_or states q 0) (symbol_map (λ i. get_or states i 0) s) (relabel (symbol_map (λ i. get_or states i 0)) ks) → IsRankedAs (Renamed R states) q s ks
  back q s ks low b (inl a) = inl ((low, a.0), alone_back (λ i. get_or states i 0) s ks a.1)
  back q s ks low b (inr u) =
      let p = above_back (λ i. get_or states i 0) (length states) s ks u.0 b u.1 in
      inr (
        p.0,
        p.2,
        elim u.2 [
          | inl l ↦ inl (distinct_at states p.0 q 0 distinct p.1 low (p.3 ∙ l.0), (low, l.1))
          | inr m ↦ inr (m.0, (low, m.1), (p.1, subst (λ (k : ℕ). R k m.0) (sym p.3) m.2))
        ],
      )

trimmed_ranked :
    (R : ℕ → ℕ → Type 0) (product : ℕ → ℕ → ℕ) (old new : GrammarOf) → (t : IsTrimmed product old new) → AreRanked R old.rules → AreRanked (Renamed R t.states) new.rules
trimmed_ranked R product old new t are =
    Each-from (IsRanked (Renamed R t.states)) new.rules no_rule (λ j h.
    let n : ℕ = get_or t.rules j 0 in
    let r = rule_at new.rules j in
    let below : n < length old.rules = ((t.are_rules n).0 (has_at t.rules j 0 (omega (arith, h, as_many product old new t)))).0.below in
    let first : IsRanked R (rule_at old.rules n) = each_has (IsRanked R) old.rules (rule_at old.rules n) are (has_at old.rules n no_rule below) in
    let named : IsRanked R (named_rule (λ i. get_or t.states i 0) r) = subst (IsRanked R) (sym (named_at product old new t j h)) first in
    let is : IsLabel r.right.label = back_label (λ i. get_or t.states i 0) r.right.label (ranked_normal R _ _ _ named).0 in
    let range = t.in_range j h in
    back R t.states (ascending_distinct t.states t.states_ascend) r.left r.right.label r.right.kids range.0 (kids_below (length t.states) r.right.label r.right.kids is range.1) named)

renamed_ranks : (R : ℕ → ℕ → Type 0) (bound : ℕ) (states : List ℕ) → AreRanks R bound → AreRanks (Renamed R states) bound
renamed_ranks R bound states ranks = record {
  one = λ q i j a b. ranks.one (get_or states q 0) i j a.1 b.1;
  below = λ q i a. ranks.below (get_or states q 0) i a.1;
}

-- the rules that are read of the text

-- a state has the rank i where its name is pi
abbrev Rank : List (List ℕ) → ℕ → ℕ → Type 0
Rank names q i = (i < 18) × (slice_get names q ≡ Some (state i))

names_ranks : (names : List (List ℕ)) → AreRanks (Rank names) 18
names_ranks names = record {
  one = λ q i j a b. same_state i j a.0 b.0 (some_same (state i) (state j) (sym a.1 ∙ b.1));
  below = λ q i a. a.0;
}
  where
    same_state : (i j : ℕ) → i < 18 → j < 18 → state i ≡ state j → i ≡ j
    same_state i j a b e = decimal_injective i j (omega (arith, a)) (omega (arith, b)) (tail_is e)

-- a text that begins with p
abbrev Begins : List ℕ → Type 0
Begins text = (rest : List ℕ) × (text ≡ 112 ∷ rest)

one_begins : (before : List (List ℕ)) (text : List ℕ) (now : List (List ℕ)) → Adds before text now → Each Begins before → Begins text → Each Begins now
one_begins before text now (inl (held, same)) h b = subst (Each Begins) (sym same) h
one_begins before text now (inr (new, same)) h b = subst (Each Begins) (sym same) (each_append Begins before (text ∷ []) h (b, tt))

all_begin : (before texts now : List (List ℕ)) → AddsAll before texts now → Each Begins before → Each Begins texts → Each Begins now
all_begin before [] now a h b = subst (Each Begins) (sym a) h
all_begin before (text ∷ texts) now (middle, adds, more) h b = all_begin middle texts now more (one_begins before text middle adds h b.0) b.1

lefts_begin : (n : ℕ) (lines : List RuleLine) → Each (IsDemoLine n) lines → Each Begins (map left_of lines)
lefts_begin n [] h = tt
lefts_begin n (x ∷ lines) h = (begins h.0, lefts_begin n lines h.1)
  where
    begins : IsDemoLine n x → Begins x.left
    begins (inl a) = (_, a.0)
    begins (inr b) = elim b.3 [ inl l ↦ (_, l.1) | inr m ↦ (_, m.1) ]

module _
    (names labels : List (List ℕ)) (apart : Distinct names) (begin : Each Begins names) (n : ℕ) (low : n ≤ 16)
    (held : (m : ℕ) → m ≤ n → Has names (state m)) where
  not_e : IsStateLeaf names (item false (codes "e") None) → ⊥
  not_e l =
      let b = each_has Begins names (codes "e") begin (contains_has names (codes "e") l.held) in
      let first : 101 ≡ 112 = head_is b.1 in
      omega (arith, first)

  is_alone : (s : Symbol ℕ ℕ) (ks : Trees (Symbol ℕ ℕ)) → Along (IsNode names labels) ((s, count ks) ∷ preorder ks) (item false (codes "e") None ∷ []) → IsAlone s ks
  is_alone (hole q) ks a = absurd (not_e a.0.0.0)
  is_alone (label f) none a = tt
  is_alone (label f) (tree s kids rest) a = absurd a.1

  not_inner : (k : ℕ) → let n : Option ℕ = Some k in n ≡ None → ⊥
  not_inner k e = cc

  is_above :
      (m : ℕ) (text : List ℕ) → m ≤ n → (s : Symbol ℕ ℕ) (ks : Trees (Symbol ℕ ℕ)) →
      Along (IsNode names labels) ((s, count ks) ∷ preorder ks) (item false text (Some 1) ∷ (item false (state m) None ∷ [])) →
      (p : ℕ) × IsAbove s ks p × (slice_get names p ≡ Some (state m))
  is_above m text l (hole q) ks a = absurd (not_inner 1 a.0.0.0.leaf)
  is_above m text l (label f) none a = absurd a.1
  is_above m text l (label f) (tree (label g) kids rest) a = absurd (a.1.0.0.0 (record { plain = refl; leaf = refl; held = has_contains names (state m) (held m l) }))
  is_above m text l (label f) (tree (hole q) none none) a = (q, refl, a.1.0.0.1)
  is_above m text l (label f) (tree (hole q) none (tree s kids rest)) a = absurd a.1.1
  is_above m text l (label f) (tree (hole q) (tree s kids more) rest) a = absurd a.1.1

  rule_is : (r : Rule ℕ) (x : RuleLine) → IsRule names labels r x → IsDemoLine (suc n) x → IsRanked (Rank names) r
  rule_is r x is (inl a) = inl (
    (omega arith, is.left ∙ ap Some a.0),
    is_alone r.right.label r.right.kids (subst (λ (items : List Item). Along (IsNode names labels) (preorder_of r.right) items) a.1 is.right),
  )
  rule_is r x is (inr (m, text, nodes, lefts)) = by lefts
    where
      by : ((m ≡ 0) × (x.left ≡ state 0)) ⊎ ((m < suc n) × (x.left ≡ state (suc m))) → IsRanked (Rank names) r
      by (inl a) =
          let p = is_above m text (omega (arith, a.0)) r.right.label r.right.kids (subst (λ (items : List Item). Along (IsNode names labels) (preorder_of r.right) items) nodes is.right) in
          let left : slice_get names r.left ≡ Some (state 0) = is.left ∙ ap Some a.1 in
          inr (p.0, p.1, inl (number_same names p.0 r.left (state 0) apart (p.2 ∙ ap (λ (k : ℕ). Some (state k)) a.0) left, (omega arith, left)))
      by (inr b) =
          let p = is_above m text (omega (arith, b.0)) r.right.label r.right.kids (subst (λ (items : List Item). Along (IsNode names labels) (preorder_of r.right) items) nodes is.right) in
          inr (p.0, p.1, inr (m, (omega (arith, low, b.0), is.left ∙ ap Some b.1), (omega (arith, low, b.0), p.2)))

  rules_are : (rules : List (Rule ℕ)) (lines : List RuleLine) → Along (IsRule names labels) rules lines → Each (IsDemoLine (suc n)) lines → AreRanked (Rank names) rules
  rules_are [] lines a h = tt
  rules_are (r ∷ rules) [] a h = absurd a
  rules_are (r ∷ rules) (x ∷ lines) a h = (rule_is r x a.0 h.0, rules_are rules lines a.1 h.1)

same_pair : (p q : List ℕ × List RuleLine) → (let r : Result (List ℕ × List RuleLine) FileFault = Ok p in r ≡ Ok q) → p ≡ q
same_pair p q e = cc

read_ranked : (scale : Scale) (n : ℕ) → n ≤ 16 → (labels : List (List ℕ)) (g : GrammarOf) → ReadsAs scale labels (demo_text n) g → AreRanked (Rank g.names) g.rules
read_ranked scale n low labels g read =
    let t = text_forth scale labels (demo_text n) g read.text read.small in
    let r = reads scale n in
    let both : (t.start, t.lines) ≡ (state n, r.0) = same_pair (t.start, t.lines) (state n, r.0) (sym t.read ∙ r.1) in
    let start : t.start ≡ state n = ap (λ (p : List ℕ × List RuleLine). p.0) both in
    let same : t.lines ≡ r.0 = ap (λ (p : List ℕ × List RuleLine). p.1) both in
    let lines : Each (IsDemoLine (suc n)) t.lines = subst (Each (IsDemoLine (suc n))) (sym same) r.2 in
    let begin : Each Begins g.names = all_begin [] (t.start ∷ map left_of t.lines) g.names t.is.names tt ((decimal n, start), lefts_begin (suc n) t.lines lines) in
    rules_are g.names labels (names_distinct scale labels (demo_text n) g read.text) begin n low
    (λ m l.
    let x = r.3 m l in
    let has : Has (map left_of t.lines) x.0.left = mapped_has left_of t.lines x.0 (subst (λ (xs : List RuleLine). Has xs x.0) (sym same) x.1) in
    subst (Has g.names) x.2 (all_added [] (t.start ∷ map left_of t.lines) g.names t.is.names x.0.left (inr has)))
    g.rules t.lines t.is.rules lines

module _ {levelled weighted : Bool} {product : ℕ → ℕ → ℕ} (laws : ProductLaws levelled weighted product) where
  -- the cheapest tree of the grammar is small
  pub demo_small : (scale : Scale) (n : ℕ) → n ≤ 16 → (labels : List (List ℕ)) (g : GrammarOf) → ReadsAs scale labels (demo_text n) g → ListsSmall product 1 labels g
  demo_small scale n low labels g read best is =
      first_small laws (Rank g.names) 18 (names_ranks g.names) g.rules (read_ranked scale n low labels g read) (omega arith) labels best is

  -- and no state of its trimmed normal form has one that is too large, in any level
  pub no_large_tree : (scale : Scale) (n : ℕ) → n ≤ 16 → (labels : List (List ℕ)) (g : GrammarOf) → ReadsAs scale labels (demo_text n) g → (split : Bool) → HasLargeTree split product 1 labels g → ⊥
  no_large_tree scale n low labels g read split h =
      let R : ℕ → ℕ → Type 0 = Rank g.names in
      let normal : AreRanked R h.is_form.normal.rules =
      normal_ranked R product (length g.names) g.rules (read_ranked scale n low labels g read) (length h.is_form.normal.names) h.is_form.normal.rules h.is_form.form in
      let form : AreRanked (Renamed R h.is_form.trimmed.states) h.form.rules = trimmed_ranked R product h.is_form.normal h.form h.is_form.trimmed normal in
      none_large laws (Renamed R h.is_form.trimmed.states) 18 (renamed_ranks R 18 h.is_form.trimmed.states (names_ranks g.names)) h.rules
      (levels_ranked (Renamed R h.is_form.trimmed.states) split h.form.rules h.rules h.is_level form) (omega arith) labels h.state h.large
