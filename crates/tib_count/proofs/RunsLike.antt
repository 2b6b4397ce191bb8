-- All runs of rules in normal form that yield some trees, as a list.
use Rattle.std.specs.Prelude.{◌≡◌, ◌⊎◌, ℕ, ◌<◌, List, [], ◌∷◌, ◌++◌, length, map, refl}
use Rattle.std.proofs.Common.{zero, suc, arith, sym, subst, inl, inr}
use Rattle.tib_lex.specs.Lists.{Has}
use Rattle.tib_lex.proofs.Lists.{has_mapped, mapped_has}
use Rattle.tib_lex.proofs.Members.{has_left, has_right, has_either}
use Rattle.tib_lex.proofs.Numbers.{same_or_other}
use Rattle.tib_tree.specs.Trees.{Tree, Trees, none, tree, only}
use Rattle.tib_grammar.specs.Forms.{AreNormal}
use Rattle.tib_grammar.specs.Run.{rule_at, AreRuns, yields}
use Rattle.tib_grammar.specs.Sides.{holes_of}
use Rattle.tib_grammar.specs.declared.Rule.{Rule}
use Rattle.tib_grammar.proofs.OneRun.{rooted}
use Rattle.tib_count.specs.Counts.{IsEndless, HasMembers, IsCountOf}
use Rattle.tib_count.specs.Counted.{IsRun, IsTree}
use Rattle.tib_count.specs.declared.count.Count.{Count}
use Rattle.tib_count.specs.declared.count.Count.TheVariants.{Number, Many, Endless}
use Rattle.tib_count.proofs.Once.{once_each, trees_decided, tree_decided}
use Rattle.tib_count.proofs.OneTree.{tree_of, yields_tree, is_tree, of_run}

-- the list where something holds, and nothing where it does not
abbrev where_so : {P A : Type 0} → P ⊎ (P → ⊥) → List A → List A
where_so (inl p) xs = xs
where_so (inr n) xs = []

has_so : {P A : Type 0} (o : P ⊎ (P → ⊥)) (xs : List A) (x : A) → P → Has xs x → Has (where_so o xs) x
has_so (inl p) xs x q h = h
has_so (inr n) xs x q h = absurd (n q)

so_has : {P A : Type 0} (o : P ⊎ (P → ⊥)) (xs : List A) (x : A) → Has (where_so o xs) x → P × Has xs x
so_has (inl p) xs x h = (p, h)
so_has (inr n) xs x h = absurd h

-- the rule n over each of some runs, before each of some others
abbrev begun_by : ℕ → List (Trees ℕ) → List (Trees ℕ) → List (Trees ℕ)
begun_by n [] outers = []
begun_by n (i ∷ inners) outers = map (tree n i) outers ++ begun_by n inners outers

has_begun : (n : ℕ) (inners outers : List (Trees ℕ)) (i o : Trees ℕ) → Has inners i → Has outers o → Has (begun_by n inners outers) (tree n i o)
has_begun n [] outers i o h k = absurd h
has_begun n (j ∷ inners) outers i o h k = elim h [
  | inl e ↦ has_left (map (tree n j) outers) (begun_by n inners outers) (tree n i o) (subst (λ r. Has (map (tree n j) outers) (tree n r o)) e (mapped_has (tree n j) outers o k))
  | inr m ↦ has_right (map (tree n j) outers) (begun_by n inners outers) (tree n i o) (has_begun n inners outers i o m k)
]

record IsBegun (n : ℕ) (inners outers : List (Trees ℕ)) (run : Trees ℕ) : Type 0 where
  inner : Trees ℕ
  outer : Trees ℕ
  has_inner : Has inners inner
  has_outer : Has outers outer
  is : tree n inner outer ≡ run

begun_has : (n : ℕ) (inners outers : List (Trees ℕ)) (run : Trees ℕ) → Has (begun_by n inners outers) run → IsBegun n inners outers run
begun_has n [] outers run h = absurd h
begun_has n (i ∷ inners) outers run h = elim (has_either (map (tree n i) outers) (begun_by n inners outers) run h) [
  | inl k ↦ let m = has_mapped (tree n i) outers run k in record { inner = i; outer = m.0; has_inner = inl refl; has_outer = m.1; is = m.2 }
  | inr k ↦ let b = begun_has n inners outers run k in record { inner = b.inner; outer = b.outer; has_inner = inr b.has_inner; has_outer = b.has_outer; is = b.is }
]

module _ (rules : List (Rule ℕ)) where
  -- what is listed of the first rules of the state q
  abbrev of_rules : ℕ → (ℕ → List (Trees ℕ)) → ℕ → List (Trees ℕ)
  of_rules q listed zero = []
  of_rules q listed (suc k) = where_so (same_or_other (rule_at rules k).left q) (listed k) ++ of_rules q listed k

  has_of : (q : ℕ) (listed : ℕ → List (Trees ℕ)) (k n : ℕ) (run : Trees ℕ) → n < k → (rule_at rules n).left ≡ q → Has (listed n) run → Has (of_rules q listed k) run
  has_of q listed zero n run b e h = absurd (omega arith)
  has_of q listed (suc k) n run b e h = elim (same_or_other k n) [
    | inl s ↦ has_left (where_so (same_or_other (rule_at rules k).left q) (listed k)) (of_rules q listed k) run
        (has_so (same_or_other (rule_at rules k).left q) (listed k) run (subst (λ i. (rule_at rules i).left ≡ q) (sym s) e) (subst (λ i. Has (listed i) run) (sym s) h))
    | inr o ↦ has_right (where_so (same_or_other (rule_at rules k).left q) (listed k)) (of_rules q listed k) run (has_of q listed k n run (before n k b o) e h)
  ]
    where
      before : (n k : ℕ) → n < suc k → (k ≡ n → ⊥) → n < k
      before n k b o = grind arith

  record IsOf (q : ℕ) (listed : ℕ → List (Trees ℕ)) (k : ℕ) (run : Trees ℕ) : Type 0 where
    rule : ℕ
    below : rule < k
    left : (rule_at rules rule).left ≡ q
    has : Has (listed rule) run

  of_has : (q : ℕ) (listed : ℕ → List (Trees ℕ)) (k : ℕ) (run : Trees ℕ) → Has (of_rules q listed k) run → IsOf q listed k run
  of_has q listed zero run h = absurd h
  of_has q listed (suc k) run h = elim (has_either (where_so (same_or_other (rule_at rules k).left q) (listed k)) (of_rules q listed k) run h) [
    | inl m ↦ let s = so_has (same_or_other (rule_at rules k).left q) (listed k) run m in record { rule = k; below = omega arith; left = s.0; has = s.1 }
    | inr m ↦ let r = of_has q listed k run m in record { rule = r.rule; below = omega (arith, r.below); left = r.left; has = r.has }
  ]

  -- the runs from some states that have the shape of some trees
  abbrev runs_like : Trees ℕ → List ℕ → List (Trees ℕ)
  runs_like none [] = none ∷ []
  runs_like none (q ∷ qs) = []
  runs_like (tree f kids rest) [] = []
  runs_like (tree f kids rest) (q ∷ qs) =
      of_rules q (λ n. begun_by n (runs_like kids (holes_of (rule_at rules n).right)) (runs_like rest qs)) (length rules)

  are_runs : (ts : Trees ℕ) (qs : List ℕ) (runs : Trees ℕ) → Has (runs_like ts qs) runs → AreRuns rules qs runs
  are_runs none [] runs h = elim h [ inl e ↦ subst (AreRuns rules []) e tt | inr k ↦ absurd k ]
  are_runs none (q ∷ qs) runs h = absurd h
  are_runs (tree f kids rest) [] runs h = absurd h
  are_runs (tree f kids rest) (q ∷ qs) runs h =
      let r = of_has q (λ n. begun_by n (runs_like kids (holes_of (rule_at rules n).right)) (runs_like rest qs)) (length rules) runs h in
      let b = begun_has r.rule (runs_like kids (holes_of (rule_at rules r.rule).right)) (runs_like rest qs) runs r.has in
      subst (AreRuns rules (q ∷ qs)) b.is (
        r.below,
        r.left,
        are_runs kids (holes_of (rule_at rules r.rule).right) b.inner b.has_inner,
        are_runs rest qs b.outer b.has_outer,
      )

  module _ (normal : AreNormal rules) where
    -- in normal form each run has the shape of what it yields
    has_runs : (runs : Trees ℕ) (qs : List ℕ) → AreRuns rules qs runs → Has (runs_like (yields rules runs) qs) runs
    has_runs none [] a = inl refl
    has_runs none (q ∷ qs) a = absurd a
    has_runs (tree n inner rest) [] a = absurd a
    has_runs (tree n inner rest) (q ∷ qs) a =
        let r = rooted rules n inner rest (normal n a.0) a.2 in
        subst (λ us. Has (runs_like us (q ∷ qs)) (tree n inner rest)) (sym r.yielded)
        (has_of q (λ m. begun_by m (runs_like (yields rules inner) (holes_of (rule_at rules m).right)) (runs_like (yields rules rest) qs)) (length rules) n (tree n inner rest) a.0 a.1
        (has_begun n (runs_like (yields rules inner) (holes_of (rule_at rules n).right)) (runs_like (yields rules rest) qs) inner rest
        (has_runs inner (holes_of (rule_at rules n).right) a.2) (has_runs rest qs a.3)))

  -- the runs from the start that have the shape of one of some trees
  abbrev runs_of_each : List (Tree ℕ) → List (Trees ℕ)
  runs_of_each [] = []
  runs_of_each (t ∷ ts) = runs_like (only t) (0 ∷ []) ++ runs_of_each ts

  each_has : (ts : List (Tree ℕ)) (run : Trees ℕ) → Has (runs_of_each ts) run → IsRun rules run
  each_has [] run h = absurd h
  each_has (t ∷ ts) run h = elim (has_either (runs_like (only t) (0 ∷ [])) (runs_of_each ts) run h) [
    | inl k ↦ are_runs (only t) (0 ∷ []) run k
    | inr k ↦ each_has ts run k
  ]

  has_each : (ts : List (Tree ℕ)) (t : Tree ℕ) (run : Trees ℕ) → Has ts t → Has (runs_like (only t) (0 ∷ [])) run → Has (runs_of_each ts) run
  has_each [] t run h k = absurd h
  has_each (s ∷ ts) t run h k = elim h [
    | inl e ↦ has_left (runs_like (only s) (0 ∷ [])) (runs_of_each ts) run (subst (λ u. Has (runs_like (only u) (0 ∷ [])) run) (sym e) k)
    | inr m ↦ has_right (runs_like (only s) (0 ∷ [])) (runs_of_each ts) run (has_each ts t run m k)
  ]

  -- so where the runs are endless the trees are
  pub endless_trees : AreNormal rules → IsEndless (IsRun rules) → IsEndless (IsTree rules)
  endless_trees normal endless ts are =
      let all = once_each trees_decided (runs_of_each ts) in
      endless all.members (record {
        once = all.once;
        are = λ run. (
          λ h. each_has ts run ((all.are run).0 h),
          λ a. (all.are run).1
              (has_each ts (tree_of rules run) run ((are.are (tree_of rules run)).1 (is_tree rules run a))
              (subst (λ us. Has (runs_like us (0 ∷ [])) run) (yields_tree rules run a) (has_runs normal run (0 ∷ []) a))),
        );
      })

  -- and where a list has all runs, one has all trees
  pub few_trees : (n : ℕ) → HasMembers (IsRun rules) n → IsEndless (IsTree rules) → ⊥
  few_trees n h endless =
      let all = once_each tree_decided (map (tree_of rules) h.members) in
      endless all.members (record {
        once = all.once;
        are = λ t. (
          λ k.
              let m = has_mapped (tree_of rules) h.members t ((all.are t).0 k) in
              subst (IsTree rules) m.2 (is_tree rules m.0 ((h.are_members.are m.0).0 m.1)),
          λ k.
              (all.are t).1
              (subst (Has (map (tree_of rules) h.members)) (of_run rules t k) (mapped_has (tree_of rules) h.members k.run ((h.are_members.are k.run).1 k.is_run))),
        );
      })

  pub not_endless : (c : Count) → (c ≡ Endless → ⊥) → IsCountOf (IsRun rules) c → IsEndless (IsTree rules) → ⊥
  not_endless (Number n) other h endless = few_trees n h.0 endless
  not_endless Many other h endless = few_trees h.0 h.1 endless
  not_endless Endless other h endless = other refl
