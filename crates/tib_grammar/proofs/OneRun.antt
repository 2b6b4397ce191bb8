-- In deterministic form a tree has at most one run from the start.
use Rattle.std.specs.Prelude.{◌≡◌, ℕ, ◌<◌, List, [], ◌∷◌, length, refl}
use Rattle.std.proofs.Common.{arith, ap, sym, ◌∙◌, subst, inl, inr}
use Rattle.tib_lex.specs.Lists.{Has}
use Rattle.tib_tree.specs.Trees.{Trees, none, tree, join, only, count, join-none}
use Rattle.tib_grammar.specs.Sides.{label, Side as SideFor, holes, holes_of, fill, HolesAreLeaves, over, Lone}
use Rattle.tib_grammar.specs.Run.{rule_at, AreRuns, yields}
use Rattle.tib_grammar.specs.Forms.{IsNormalSide, StandsInSide, IsStartChain, IsDeterministic}
use Rattle.tib_grammar.specs.Range.{SidesEndInHoles}
use Rattle.tib_grammar.specs.declared.Rule.{Rule}
use Rattle.tib_grammar.proofs.Sides.{holes_of-label, fill-normal, over-from}
use Rattle.tib_grammar.proofs.NormalRuns.{label_named, count-yields}

-- normal sides with the same label and holes are the same
same_side :
    (s t : SideFor ℕ ℕ) (f : ℕ) → IsNormalSide s → IsNormalSide t → HolesAreLeaves (only s) → HolesAreLeaves (only t) → s.label ≡ label f → t.label ≡ label f →
    holes s.kids ≡ holes t.kids → s ≡ t
same_side s t f m n h k e d same = over-from s f e m.are_holes h ∙ ap (over f) same ∙ sym (over-from t f d n.are_holes k)

module _ (rules : List (Rule ℕ)) where
  -- every rule of some runs has one label over states on its right
  abbrev pub UsesNormal : Trees ℕ → Type 0
  UsesNormal none = Unit {0}
  UsesNormal (tree n runs rest) = IsNormalSide (rule_at rules n).right × UsesNormal runs × UsesNormal rest

  -- a run by a normal rule yields its label over what the runs below it yield
  pub record IsRooted (n : ℕ) (runs rest : Trees ℕ) : Type 0 where
    pub root : ℕ
    pub is_label : (rule_at rules n).right.label ≡ label root
    pub below : AreRuns rules (holes (rule_at rules n).right.kids) runs
    pub yielded : yields rules (tree n runs rest) ≡ tree root (yields rules runs) (yields rules rest)

  pub rooted : (n : ℕ) (runs rest : Trees ℕ) → IsNormalSide (rule_at rules n).right → AreRuns rules (holes_of (rule_at rules n).right) runs → IsRooted n runs rest
  rooted n runs rest normal a =
      let shape = label_named (rule_at rules n).right.label normal.is_label in
      let inner : AreRuns rules (holes (rule_at rules n).right.kids) runs =
      subst (λ qs. AreRuns rules qs runs) (holes_of-label (rule_at rules n).right.label (rule_at rules n).right.kids shape.0 shape.1) a
      in
      record {
        root = shape.0;
        is_label = shape.1;
        below = inner;
        yielded = ap (λ ts. join ts (yields rules rest))
            (fill-normal (rule_at rules n).right.label (rule_at rules n).right.kids shape.0 (yields rules runs) shape.1 normal.are_holes (count-yields rules (holes (rule_at rules n).right.kids) runs inner));
      }

  module _ (ends : SidesEndInHoles rules) (apart : (m n : ℕ) → m < length rules → n < length rules → (rule_at rules m).right ≡ (rule_at rules n).right → m ≡ n) where
    -- runs by normal rules that yield the same are the same
    pub one_run :
        (one two : Trees ℕ) (qs rs : List ℕ) → UsesNormal one → UsesNormal two → AreRuns rules qs one → AreRuns rules rs two → yields rules one ≡ yields rules two →
        (one ≡ two) × (qs ≡ rs)
    one_run none none [] [] u v a b e = (refl, refl)
    one_run none none [] (r ∷ rs) u v a b e = absurd b
    one_run none none (q ∷ qs) rs u v a b e = absurd a
    one_run none (tree m runs more) qs [] u v a b e = absurd b
    one_run none (tree m runs more) qs (r ∷ rs) u v a b e =
        let y = rooted m runs more v.0 b.2 in
        absurd (cc (e ∙ y.yielded))
    one_run (tree n runs rest) two [] rs u v a b e = absurd a
    one_run (tree n runs rest) none (q ∷ qs) rs u v a b e =
        let x = rooted n runs rest u.0 a.2 in
        absurd (cc (sym x.yielded ∙ e))
    one_run (tree n runs rest) (tree m others more) (q ∷ qs) [] u v a b e = absurd b
    one_run (tree n runs rest) (tree m others more) (q ∷ qs) (r ∷ rs) u v a b e =
        let x = rooted n runs rest u.0 a.2 in
        let y = rooted m others more v.0 b.2 in
        let whole : tree x.root (yields rules runs) (yields rules rest) ≡ tree y.root (yields rules others) (yields rules more) = sym x.yielded ∙ e ∙ y.yielded in
        let root : x.root ≡ y.root = cc whole in
        let inner : yields rules runs ≡ yields rules others = cc whole in
        let outer : yields rules rest ≡ yields rules more = cc whole in
        let below = one_run runs others (holes (rule_at rules n).right.kids) (holes (rule_at rules m).right.kids) u.1 v.1 x.below y.below inner in
        let after = one_run rest more qs rs u.2 v.2 a.3 b.3 outer in
        let sides : (rule_at rules n).right ≡ (rule_at rules m).right =
        same_side (rule_at rules n).right (rule_at rules m).right x.root u.0 v.0 (ends n a.0) (ends m b.0) x.is_label (y.is_label ∙ ap label (sym root)) below.1
        in
        let same : n ≡ m = apart n m a.0 b.0 sides in
        let state : q ≡ r = sym a.1 ∙ ap (λ i. (rule_at rules i).left) same ∙ b.1 in
        (cc (same, below.0, after.0), cc (state, after.1))

  module _ (form : IsDeterministic rules) where
    -- runs from states that are in right-hand sides use normal rules
    pub uses_normal : (runs : Trees ℕ) (qs : List ℕ) → AreRuns rules qs runs → ((q : ℕ) → Has qs q → StandsInSide rules q) → UsesNormal runs
    uses_normal none qs a inside = tt
    uses_normal (tree n runs rest) [] a inside = absurd a
    uses_normal (tree n runs rest) (q ∷ qs) a inside = (
      elim (form.shaped n a.0) [
        | inl normal ↦ normal
        | inr chain ↦ absurd (chain.apart (subst (StandsInSide rules) (sym a.1 ∙ chain.left) (inside q (inl refl))))
      ],
      uses_normal runs (holes_of (rule_at rules n).right) a.2 (λ p h. record { rule = n; below = a.0; stands = h }),
      uses_normal rest qs a.3 (λ p h. inside p (inr h)),
    )

    -- what a chain rule's run yields is what the run below it yields
    below_chain : (s : SideFor ℕ ℕ) (p : ℕ) (ts : Trees ℕ) → s ≡ Lone p → count ts ≡ 1 → fill (only s) ts ≡ ts
    below_chain s p ts e h = ap (λ x. fill (only x) ts) e ∙ one_tree ts h
      where
        one_tree : (ts : Trees ℕ) → count ts ≡ 1 → fill (only (Lone {A = ℕ} p)) ts ≡ ts
        one_tree none h = absurd (omega arith)
        one_tree (tree f us none) h = refl
        one_tree (tree f us (tree g vs more)) h = absurd (omega arith)

    -- a run from the start by a chain rule
    record IsChained (n : ℕ) (runs : Trees ℕ) : Type 0 where
      state : ℕ
      right : (rule_at rules n).right ≡ Lone state
      runs_below : AreRuns rules (state ∷ []) runs
      yielded : yields rules (tree n runs none) ≡ yields rules runs
      normal : UsesNormal runs
      inside : StandsInSide rules state
      apart : StandsInSide rules 0 → ⊥

    chained : (n : ℕ) (runs : Trees ℕ) → n < length rules → AreRuns rules (holes_of (rule_at rules n).right) runs → IsStartChain rules (rule_at rules n) → IsChained n runs
    chained n runs h a chain =
        let p : ℕ = chain.lone.state in
        let holes_are : holes_of (rule_at rules n).right ≡ p ∷ [] = ap holes_of chain.lone.is in
        let below : AreRuns rules (p ∷ []) runs = subst (λ qs. AreRuns rules qs runs) holes_are a in
        record {
          state = p;
          right = chain.lone.is;
          runs_below = below;
          yielded = join-none _ ∙ below_chain (rule_at rules n).right p (yields rules runs) chain.lone.is (count-yields rules (p ∷ []) runs below);
          normal = uses_normal runs (holes_of (rule_at rules n).right) a (λ q k. record { rule = n; below = h; stands = k });
          inside = record { rule = n; below = h; stands = subst (λ qs. Has qs p) (sym holes_are) (inl refl) };
          apart = chain.apart;
        }

    module _ (ends : SidesEndInHoles rules) where
      -- a run by a normal rule and one by a chain rule yield different trees
      crossed :
          (n m : ℕ) (runs others : Trees ℕ) → AreRuns rules (0 ∷ []) (tree n runs none) → UsesNormal (tree n runs none) → IsChained m others →
          yields rules (tree n runs none) ≡ yields rules (tree m others none) → ⊥
      crossed n m runs others a u c e =
          let same = one_run ends form.apart (tree n runs none) others (0 ∷ []) (c.state ∷ []) u c.normal a c.runs_below (e ∙ c.yielded) in
          let state : 0 ≡ c.state = cc same.1 in
          c.apart (subst (StandsInSide rules) (sym state) c.inside)

      by_normal : (n : ℕ) (runs : Trees ℕ) → n < length rules → AreRuns rules (holes_of (rule_at rules n).right) runs → IsNormalSide (rule_at rules n).right → UsesNormal (tree n runs none)
      by_normal n runs h a normal = (normal, uses_normal runs (holes_of (rule_at rules n).right) a (λ q k. record { rule = n; below = h; stands = k }), tt)

      -- in deterministic form two runs from the start that yield the same are the same
      pub one_start_run : (one two : Trees ℕ) → AreRuns rules (0 ∷ []) one → AreRuns rules (0 ∷ []) two → yields rules one ≡ yields rules two → one ≡ two
      one_start_run none two a b e = absurd a
      one_start_run (tree n runs (tree i more still)) two a b e = absurd a.3
      one_start_run (tree n runs none) none a b e = absurd b
      one_start_run (tree n runs none) (tree m others (tree i more still)) a b e = absurd b.3
      one_start_run (tree n runs none) (tree m others none) a b e = elim (form.shaped n a.0) [
        | inl normal ↦ elim (form.shaped m b.0) [
          | inl other ↦ (one_run ends form.apart (tree n runs none) (tree m others none) (0 ∷ []) (0 ∷ []) (by_normal n runs a.0 a.2 normal) (by_normal m others b.0 b.2 other) a b e).0
          | inr chain ↦ absurd (crossed n m runs others a (by_normal n runs a.0 a.2 normal) (chained m others b.0 b.2 chain) e)
        ]
        | inr chain ↦ elim (form.shaped m b.0) [
          | inl other ↦ absurd (crossed m n others runs b (by_normal m others b.0 b.2 other) (chained n runs a.0 a.2 chain) (sym e))
          | inr other ↦
              let c = chained n runs a.0 a.2 chain in
              let d = chained m others b.0 b.2 other in
              let same = one_run ends form.apart runs others (c.state ∷ []) (d.state ∷ []) c.normal d.normal c.runs_below d.runs_below (sym c.yielded ∙ e ∙ d.yielded) in
              let states : c.state ≡ d.state = cc same.1 in
              let number : n ≡ m = form.apart n m a.0 b.0 (c.right ∙ ap Lone states ∙ sym d.right) in
              cc (number, same.0)
        ]
      ]
