-- Rules that agree as numbers agree in both sides.
use Rattle.std.specs.Prelude.{◌≡◌, ℕ, ◌+◌, ◌<◌, ◌≤◌, nat_eq, not, cond, Bool, true, false, List, [], ◌∷◌, length, map, refl}
use Rattle.std.specs.Global.{Vec}
use Rattle.std.specs.Cmp.Lexicographic.{pointwise}
use lib.Pointwise.{bytes_decides}
use Rattle.tib_lex.specs.Lists.{Ascends}
use Rattle.tib_grammar.specs.Run.{rule_at, no_rule}
use Rattle.tib_normal.proofs.Pairwise.{Ascends-at}
use Rattle.std.proofs.Common.{suc, arith, ap, sym, ◌∙◌, subst, inl, inr, true≢false}
use Rattle.tib_tree.specs.Trees.{Trees, none, tree, count, preorder, preorder_of, parse_of_preorder, parse}
use Rattle.tib_grammar.specs.Sides.{Symbol, label, hole, Side as SideFor, AreHoles}
use Rattle.tib_grammar.specs.Items.{pairs_of, pair_of}
use Rattle.tib_grammar.specs.Forms.{AreNormal, IsNormalSide}
use Rattle.tib_grammar.proofs.NormalRuns.{label_named}
use Rattle.tib_grammar.specs.declared.Item.{Item}
use Rattle.tib_grammar.specs.declared.Item.TheVariants.{Label, Hole}
use Rattle.tib_grammar.specs.declared.Rule.{Rule}
use Rattle.tib_normal.specs.Keys.{number_in, number_of, key_of, IsWritten}
use Rattle.tib_lex.proofs.Lists.{Ascends-from, head_is, tail_is}
use Rattle.tib_grammar.proofs.Sides.{label_is_no_hole}
use Rattle.tib_lex.proofs.Numbers.{below_cases}

number_of-pair : (x : Item ℕ) → number_in x ≡ number_of (pair_of x).0
number_of-pair (Label f rank) = refl
number_of-pair (Hole q) = refl

pub numbers : (items : List (Item ℕ)) → map number_in items ≡ map (λ p. number_of p.0) (pairs_of items)
numbers [] = refl
numbers (x ∷ items) = rw (number_of-pair x, numbers items)

-- holes alone are as their states in a row
leaves : (items : List (Item ℕ)) (kids : Trees (Symbol ℕ ℕ)) → pairs_of items ≡ preorder kids → AreHoles kids → preorder kids ≡ map (λ q. (hole q, 0)) (map (λ p. number_of p.0) (preorder kids))
leaves [] none e a = refl
leaves [] (tree s ks rest) e a = absurd (cc)
leaves (x ∷ items) none e a = absurd (cc)
leaves (x ∷ items) (tree (label f) ks rest) e a = absurd a
leaves (Label f r ∷ items) (tree (hole p) ks rest) e a = absurd (label_is_no_hole f p (ap (λ x. x.0) (head_is e)))
leaves (Hole q ∷ items) (tree (hole p) none rest) e a = ap (λ x. (hole p, 0) ∷ x) (leaves items rest (tail_is e) a)
leaves (Hole q ∷ items) (tree (hole p) (tree s ks more) rest) e a =
    let no_kids : 0 ≡ suc (count more) = ap (λ x. x.1) (head_is e) in
    absurd (omega arith)

behind : (items : List (Item ℕ)) (s : SideFor ℕ ℕ) → pairs_of items ≡ preorder_of s → (rest : List (Item ℕ)) × (pairs_of rest ≡ preorder s.kids)
behind [] s e = absurd (cc)
behind (x ∷ items) s e = (items, tail_is e)

-- one label over states is known by its numbers
side_known :
    (s t : SideFor ℕ ℕ) → IsNormalSide s → IsNormalSide t → IsWritten s → IsWritten t →
    map (λ p. number_of p.0) (preorder_of s) ≡ map (λ p. number_of p.0) (preorder_of t) → s ≡ t
side_known s t n m w v e =
    let f = label_named s.label n.is_label in
    let g = label_named t.label m.is_label in
    let root : f.0 ≡ g.0 = sym (ap number_of f.1) ∙ head_is e ∙ ap number_of g.1 in
    let labels : s.label ≡ t.label = f.1 ∙ ap label root ∙ sym g.1 in
    let xs = behind w.0 s w.1 in
    let ys = behind v.0 t v.1 in
    let inner : preorder s.kids ≡ preorder t.kids =
    leaves xs.0 s.kids xs.1 n.are_holes ∙ ap (map (λ q. (hole q, 0))) (tail_is e) ∙ sym (leaves ys.0 t.kids ys.1 m.are_holes)
    in
    let kids : s.kids ≡ t.kids = sym (parse_of_preorder s.kids) ∙ ap parse inner ∙ parse_of_preorder t.kids in
    made labels kids
  where
    made : {a b : Symbol ℕ ℕ} {k l : Trees (Symbol ℕ ℕ)} → a ≡ b → k ≡ l → ◌≡◌ {A = SideFor ℕ ℕ} (record { label = a; kids = k }) (record { label = b; kids = l })
    made e k = rw (e, k)

pub rule_known :
    (r s : Rule ℕ) → IsNormalSide r.right → IsNormalSide s.right → IsWritten r.right → IsWritten s.right → key_of r ≡ key_of s → (r.left ≡ s.left) × (r.right ≡ s.right)
rule_known r s n m w v e = (head_is e, side_known r.right s.right n m w v (tail_is e))

pub key_of-same : (r s : Rule ℕ) → r.left ≡ s.left → r.right ≡ s.right → key_of r ≡ key_of s
key_of-same r s e k = rw (e, k)

module _ (rules : List (Rule ℕ)) where
  -- each key of a set is that of an earlier rule
  abbrev pub AreSeen : (Vec ℕ → Bool) → ℕ → Type 0
  AreSeen has i = (k : Vec ℕ) → has k ≡ true → (n : ℕ) × (n < i) × (key_of (rule_at rules n) ≡ k.items)

  -- a set has the keys of all earlier rules
  abbrev pub AreHeld : (Vec ℕ → Bool) → ℕ → Type 0
  AreHeld has i = (n : ℕ) (k : Vec ℕ) → n < i → key_of (rule_at rules n) ≡ k.items → has k ≡ true

  -- the key of the next rule is added
  abbrev pub Adds : (Vec ℕ → Bool) → (Vec ℕ → Bool) → Vec ℕ → Type 0
  Adds has more v = (k : Vec ℕ) → more k ≡ cond (pointwise nat_eq v.items k.items) true (has k)

  pub seen-more : (has more : Vec ℕ → Bool) (i : ℕ) (v : Vec ℕ) → Adds has more v → v.items ≡ key_of (rule_at rules i) → AreSeen has i → AreSeen more (i + 1)
  seen-more has more i v adds is seen k h = by_case (pointwise nat_eq v.items k.items) refl
    where
      by_case : (b : Bool) → pointwise nat_eq v.items k.items ≡ b → (n : ℕ) × (n < i + 1) × (key_of (rule_at rules n) ≡ k.items)
      by_case true e = (i, omega arith, sym is ∙ (bytes_decides v.items k.items).0 e)
      by_case false e =
          let old : has k ≡ true = sym (adds k ∙ rw e) ∙ h in
          let at = seen k old in
          (at.0, omega (arith, at.1), at.2)

  pub held-more : (has more : Vec ℕ → Bool) (i : ℕ) (v : Vec ℕ) → Adds has more v → v.items ≡ key_of (rule_at rules i) → AreHeld has i → AreHeld more (i + 1)
  held-more has more i v adds is held n k h e = elim (below_cases n i h) [
    | inl l ↦ adds k ∙ either (pointwise nat_eq v.items k.items) (has k) (held n k l e)
    | inr s ↦
        let same : pointwise nat_eq v.items k.items ≡ true = (bytes_decides v.items k.items).1 (is ∙ ap (λ m. key_of (rule_at rules m)) (sym s) ∙ e) in
        adds k ∙ rw same
  ]
    where
      either : (b a : Bool) → a ≡ true → cond b true a ≡ true
      either true a e = refl
      either false a e = e

  -- no two of the earlier rules have one key
  abbrev pub AreApart : ℕ → Type 0
  AreApart i = (m n : ℕ) → m < n → n < i → key_of (rule_at rules m) ≡ key_of (rule_at rules n) → ⊥

  pub apart-more : (has : Vec ℕ → Bool) (i : ℕ) (v : Vec ℕ) → v.items ≡ key_of (rule_at rules i) → AreHeld has i → true ≡ not (has v) → AreApart i → AreApart (i + 1)
  apart-more has i v is held new label_is_no_hole m n h k e = elim (below_cases n i k) [
    | inl l ↦ label_is_no_hole m n h l e
    | inr s ↦
        let had : has v ≡ true = held m v (omega arith) (e ∙ ap (λ j. key_of (rule_at rules j)) s ∙ sym is) in
        true≢false (new ∙ ap not had)
  ]

  abbrev pub AreWritten : ℕ → Type 0
  AreWritten i = (n : ℕ) → n < i → IsWritten (rule_at rules n).right

  pub written-more : (i : ℕ) → AreWritten i → IsWritten (rule_at rules i).right → AreWritten (i + 1)
  written-more i w here n h = elim (below_cases n i h) [ inl l ↦ w n l | inr s ↦ subst (λ m. IsWritten (rule_at rules m).right) (sym s) here ]

  -- two rules with one key
  pub not-distinct :
      (has : Vec ℕ → Bool) (i : ℕ) (v : Vec ℕ) → AreNormal rules → i < length rules → v.items ≡ key_of (rule_at rules i) → AreSeen has i → AreWritten i → IsWritten (rule_at rules i).right →
      false ≡ not (has v) → Ascends (λ (r s : Rule ℕ). r.left ≡ s.left → r.right ≡ s.right → ⊥) rules → ⊥
  not-distinct has i v normal h is seen written here new a =
      let had = seen v (twice (has v) new) in
      let same = rule_known (rule_at rules had.0) (rule_at rules i) (normal had.0 (omega (arith, had.1))) (normal i h) (written had.0 had.1) here (had.2 ∙ is) in
      Ascends-at (λ (r s : Rule ℕ). r.left ≡ s.left → r.right ≡ s.right → ⊥) rules no_rule a had.0 i had.1 h same.0 same.1
    where
      twice : (b : Bool) → false ≡ not b → b ≡ true
      twice true e = refl
      twice false e = absurd (cc)

  pub distinct : (i : ℕ) → length rules ≤ i → AreApart i → Ascends (λ (r s : Rule ℕ). r.left ≡ s.left → r.right ≡ s.right → ⊥) rules
  distinct i h label_is_no_hole =
      Ascends-from (λ (r s : Rule ℕ). r.left ≡ s.left → r.right ≡ s.right → ⊥) rules no_rule
      (λ m n b k l r. label_is_no_hole m n b (omega arith) (key_of-same (rule_at rules m) (rule_at rules n) l r))
