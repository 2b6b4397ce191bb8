-- Rules side by side are in normal form, in the order of their left states, and distinct, and their
-- states are in range.
use Rattle.std.specs.Prelude.{◌≡◌, ℕ, ◌+◌, ◌<◌, ◌≤◌, ◌^◌, List, [], ◌∷◌, ◌++◌, map, refl}
use Rattle.std.proofs.Common.{arith, ap, sym, ◌∙◌, subst, inl, inr}
use Rattle.tib_lex.specs.Lists.{Has, Ascends}
use Rattle.tib_lex.proofs.Lists.{each_append, has_mapped}
use Rattle.tib_lex.proofs.Members.{at_has, each_of, has_at, has_either}
use Rattle.tib_tree.specs.Trees.{only}
use Rattle.tib_grammar.specs.Sides.{Side, HolesAreLeaves, holes, holes_of, over}
use Rattle.tib_grammar.specs.Run.{rule_at, no_rule}
use Rattle.tib_grammar.specs.Forms.{IsNormalSide, AreNormal}
use Rattle.tib_grammar.specs.Range.{AllBelow, IsInRange, AreInRange, SidesEndInHoles}
use Rattle.tib_grammar.specs.declared.Rule.{Rule}
use Rattle.tib_grammar.proofs.Sides.{holes-leaves, holes_of-over, over-from}
use Rattle.tib_normal.specs.Rules.{IsNormal}
use Rattle.tib_ranked_trees.specs.Levels.{root_of, states_of}
use Rattle.tib_k_best.proofs.Lists.{ascends_map}
use Rattle.tib_compare.specs.Beside.{moved, raised, beside, CanRaiseAll}
use Rattle.tib_compare.proofs.Raising.{root_back}
use Rattle.tib_compare.proofs.Sides.{states_below, beside_normal}

below_has : (n : ℕ) (qs : List ℕ) (q : ℕ) → AllBelow n qs → Has qs q → q < n
below_has n [] q b h = absurd h
below_has n (p ∷ qs) q b h = elim h [ inl e ↦ subst (λ r. r < n) e b.0 | inr k ↦ below_has n qs q b.1 k ]

-- states in range can be raised where the range can
pub can_raise : (by n : ℕ) (rules : List (Rule ℕ)) → AreNormal rules → AreInRange n rules → by + n ≤ 2 ^ 32 → CanRaiseAll by rules
can_raise by n rules normal range h m lt =
    let b = states_below n rules normal range (rule_at rules m) (has_at rules m no_rule lt) in
    record {
      left = omega (arith, b.0, h);
      states = λ q k. let low : q < n = below_has n (states_of (rule_at rules m)) q b.1 k in omega (arith, low, h);
    }

-- states of both are in range

all_raised : (by n m : ℕ) (qs : List ℕ) → by + n ≤ m → AllBelow n qs → AllBelow m (map (λ q. by + q) qs)
all_raised by n m [] h a = tt
all_raised by n m (q ∷ qs) h a = (omega (arith, a.0, h), all_raised by n m qs h a.1)

raised_range : (by n m : ℕ) (rules : List (Rule ℕ)) → AreNormal rules → AreInRange n rules → by + n ≤ m → (s : Rule ℕ) → Has (raised by rules) s → IsInRange m s
raised_range by n m rules normal range h s k =
    let r = has_mapped (λ (x : Rule ℕ). moved (by + x.left) by 0 x) rules s k in
    let b = states_below n rules normal range r.0 r.1 in
    let holes_are : holes_of (moved (by + r.0.left) by 0 r.0).right ≡ map (λ q. by + q) (states_of r.0) = holes_of-over (root_of r.0.right.label) (map (λ q. by + q) (states_of r.0)) in
    subst (IsInRange m) r.2 (omega (arith, b.0, h), subst (AllBelow m) (sym holes_are) (all_raised by n m (states_of r.0) h b.1))

pub beside_range :
    (first second : ℕ) (left right : List (Rule ℕ)) → AreNormal left → AreNormal right → AreInRange first left → AreInRange second right → AreInRange (first + second) (beside first left right)
beside_range first second left right normal normal_too range range_too m lt =
    elim (has_either (raised 0 left) (raised first right) (rule_at (beside first left right) m) (has_at (beside first left right) m no_rule lt)) [
      | inl k ↦ raised_range 0 first (first + second) left normal range (omega arith) (rule_at (beside first left right) m) k
      | inr k ↦ raised_range first second (first + second) right normal_too range_too (omega arith) (rule_at (beside first left right) m) k
    ]

-- rules that are raised are distinct

raised_same : (by : ℕ) (ps qs : List ℕ) → map (λ q. by + q) ps ≡ map (λ q. by + q) qs → ps ≡ qs
raised_same by [] [] e = refl
raised_same by [] (q ∷ qs) e = absurd (cc)
raised_same by (p ∷ ps) [] e = absurd (cc)
raised_same by (p ∷ ps) (q ∷ qs) e =
    let head : by + p ≡ by + q = cc in
    let rest : map (λ r. by + r) ps ≡ map (λ r. by + r) qs = cc in
    let same : p ≡ q = omega (arith, head) in
    ap (λ r. r ∷ ps) same ∙ ap (λ rs. q ∷ rs) (raised_same by ps qs rest)

-- a side in normal form with nothing below its states
abbrev IsFlat : Side ℕ ℕ → Type 0
IsFlat s = IsNormalSide s × HolesAreLeaves (only s)

flat_at : (rules : List (Rule ℕ)) → AreNormal rules → SidesEndInHoles rules → (r : Rule ℕ) → Has rules r → IsFlat r.right
flat_at rules normal ends r h = let at = at_has rules r no_rule h in subst (λ (s : Rule ℕ). IsFlat s.right) at.2 (normal at.0 at.1, ends at.0 at.1)

moved_same : (by : ℕ) (r s : Rule ℕ) → IsFlat r.right → IsFlat s.right → (moved (by + r.left) by 0 r).right ≡ (moved (by + s.left) by 0 s).right → r.right ≡ s.right
moved_same by r s m n e =
    let ps : List ℕ = map (λ q. by + q) (states_of r) in
    let qs : List ℕ = map (λ q. by + q) (states_of s) in
    let root : root_of r.right.label ≡ root_of s.right.label = ap (λ (x : Side ℕ ℕ). root_of x.label) e in
    let all : ps ≡ qs = sym (holes-leaves ℕ ps) ∙ ap (λ (x : Side ℕ ℕ). holes x.kids) e ∙ holes-leaves ℕ qs in
    let states : states_of r ≡ states_of s = raised_same by (states_of r) (states_of s) all in
    over-from r.right (root_of r.right.label) (sym (root_back r.right.label m.0.is_label)) m.0.are_holes m.1
    ∙ ap (λ f. over f (states_of r)) root ∙ ap (over (root_of s.right.label)) states
    ∙ sym (over-from s.right (root_of s.right.label) (sym (root_back s.right.label n.0.is_label)) n.0.are_holes n.1)

-- two lists that ascend make one where each of the first comes before each of the second
ascends_both :
    {A : Type 0} (R : A → A → Type 0) (xs ys : List A) → Ascends R xs → Ascends R ys → ((x y : A) → Has xs x → Has ys y → R x y) → Ascends R (xs ++ ys)
ascends_both R [] ys a b h = b
ascends_both R (x ∷ xs) ys a b h = (
  each_append (R x) xs ys a.0 (each_of (R x) ys (λ y k. h x y (inl refl) k)),
  ascends_both R xs ys a.1 b (λ z y k l. h z y (inr k) l),
)

abbrev InOrder : Rule ℕ → Rule ℕ → Type 0
InOrder r s = r.left ≤ s.left

abbrev Differ : Rule ℕ → Rule ℕ → Type 0
Differ r s = r.left ≡ s.left → r.right ≡ s.right → ⊥

module _ (by : ℕ) (rules : List (Rule ℕ)) (normal : IsNormal rules) (ends : SidesEndInHoles rules) where
  raised_ascends : Ascends InOrder (raised by rules)
  raised_ascends = ascends_map (λ (r : Rule ℕ). moved (by + r.left) by 0 r) InOrder InOrder rules (λ r s h k e. omega (arith, e)) normal.ascends

  raised_distinct : Ascends Differ (raised by rules)
  raised_distinct =
      ascends_map (λ (r : Rule ℕ). moved (by + r.left) by 0 r) Differ Differ rules
      (λ r s h k differ left right.
      let same : r.left ≡ s.left = omega (arith, left) in
      differ same (moved_same by r s (flat_at rules normal.normal ends r h) (flat_at rules normal.normal ends s k) right))
      normal.distinct

module _ (first : ℕ) (left right : List (Rule ℕ)) (normal : IsNormal left) (normal_too : IsNormal right) (range : AreInRange first left) where
  -- the left states of the first come before those of the second
  across : (r s : Rule ℕ) → Has (raised 0 left) r → Has (raised first right) s → r.left < s.left
  across r s h k =
      let m = has_mapped (λ (x : Rule ℕ). moved (0 + x.left) 0 0 x) left r h in
      let n = has_mapped (λ (x : Rule ℕ). moved (first + x.left) first 0 x) right s k in
      let low = (states_below first left normal.normal range m.0 m.1).0 in
      let at : 0 + m.0.left ≡ r.left = ap (λ (x : Rule ℕ). x.left) m.2 in
      let at_too : first + n.0.left ≡ s.left = ap (λ (x : Rule ℕ). x.left) n.2 in
      omega (arith, low, at, at_too)

  pub beside_is_normal : SidesEndInHoles left → SidesEndInHoles right → IsNormal (beside first left right)
  beside_is_normal ends ends_too = record {
    normal = beside_normal first left right;
    ascends = ascends_both InOrder (raised 0 left) (raised first right) (raised_ascends 0 left normal ends) (raised_ascends first right normal_too ends_too)
        (λ r s h k. let low = across r s h k in omega (arith, low));
    distinct = ascends_both Differ (raised 0 left) (raised first right) (raised_distinct 0 left normal ends) (raised_distinct first right normal_too ends_too)
        (λ r s h k same _. let low = across r s h k in omega (arith, low, same));
  }

-- the same of rules that are those of both side by side
both_are :
    (first : ℕ) (left right one two all : List (Rule ℕ)) → one ≡ left → two ≡ right → all ≡ beside first one two → all ≡ beside first left right
both_are first left right one two all e f a = a ∙ ap (λ (rs : List (Rule ℕ)). beside first rs two) e ∙ ap (λ (rs : List (Rule ℕ)). beside first left rs) f

pub both_range :
    (first second n : ℕ) (left right one two all : List (Rule ℕ)) → one ≡ left → two ≡ right → all ≡ beside first one two → n ≡ first + second → AreNormal left → AreNormal right →
    AreInRange first left → AreInRange second right → AreInRange n all
both_range first second n left right one two all e f a sum normal normal_too range range_too =
    subst (λ (k : ℕ). AreInRange k all) (sym sum)
    (subst (λ (rs : List (Rule ℕ)). AreInRange (first + second) rs) (sym (both_are first left right one two all e f a))
    (beside_range first second left right normal normal_too range range_too))

pub both_normal :
    (first : ℕ) (left right one two all : List (Rule ℕ)) → one ≡ left → two ≡ right → all ≡ beside first one two → IsNormal left → IsNormal right → AreInRange first left →
    SidesEndInHoles left → SidesEndInHoles right → IsNormal all
both_normal first left right one two all e f a normal normal_too range ends ends_too =
    subst IsNormal (sym (both_are first left right one two all e f a)) (beside_is_normal first left right normal normal_too range ends ends_too)
