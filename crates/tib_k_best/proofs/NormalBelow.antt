-- The normal form of rules in deterministic form is deterministic below the root.
use Rattle.std.specs.Prelude.{◌≡◌, ℕ, ◌+◌, ◌<◌, ◌⊎◌, List, [], ◌∷◌, ◌++◌, length, refl}
use Rattle.std.proofs.Common.{arith, suc, ap, sym, ◌∙◌, subst, inl, inr}
use Rattle.tib_lex.specs.Lists.{Has}
use Rattle.tib_lex.proofs.Members.{has_at}
use Rattle.tib_tree.specs.Trees.{Trees, none, tree}
use Rattle.tib_tree.proofs.Orderings.{three_ways}
use Rattle.tib_grammar.specs.Forms.{IsDeterministic, IsLabel}
use Rattle.tib_grammar.specs.Range.{SidesEndInHoles}
use Rattle.tib_grammar.specs.Run.{rule_at, no_rule}
use Rattle.tib_grammar.specs.Sides.{AreHoles, HolesAreLeaves, Lone, Side as SideFor, Symbol, hole, holes_of, label}
use Rattle.tib_grammar.specs.declared.Rule.{Rule}
use Rattle.tib_normal.specs.NormalForm.{IsChain, IsNormalForm, Reaches, all_inner, first_inner, heads, inner_rules}
use Rattle.tib_ranked_trees.specs.Below.{IsDeterministicBelow, IsOuter}
use Rattle.tib_ranked_trees.proofs.Walking.{ascends_at}

same_or : (i j : ℕ) → (i ≡ j) ⊎ (i ≡ j → ⊥)
same_or i j = grind arith

-- states alone have no inner rules, and stay as they are
none_inside : (s : ℕ) (ts : Trees (Symbol ℕ ℕ)) → AreHoles ts → inner_rules s ts ≡ []
none_inside s none h = refl
none_inside s (tree (label f) kids rest) h = absurd h
none_inside s (tree (hole q) kids rest) h = none_inside s rest h

heads_same : (s : ℕ) (ts : Trees (Symbol ℕ ℕ)) → AreHoles ts → HolesAreLeaves ts → heads s ts ≡ ts
heads_same s none h l = refl
heads_same s (tree (label f) kids rest) h l = absurd h
heads_same s (tree (hole q) none rest) h l = ap (λ ts. tree (hole q) none ts) (heads_same s rest h l)
heads_same s (tree (hole q) (tree x kids more) rest) h l = absurd l

-- below a label are leaves
leaves_below : (s : Symbol ℕ ℕ) (kids : Trees (Symbol ℕ ℕ)) → IsLabel s → HolesAreLeaves (tree s kids none) → HolesAreLeaves kids
leaves_below (label f) kids i l = l.0
leaves_below (hole p) kids i l = absurd i

module _ (product : ℕ → ℕ → ℕ) (states : ℕ) (rules : List (Rule ℕ)) (ends : SidesEndInHoles rules) (form : IsDeterministic rules) where
  -- what is below the root of each side are states
  holes_below : (n : ℕ) → n < length rules → AreHoles (rule_at rules n).right.kids
  holes_below n h = elim (form.shaped n h) [
    | inl normal ↦ normal.are_holes
    | inr chain ↦ subst (λ (s : SideFor ℕ ℕ). AreHoles s.kids) (sym chain.lone.is) tt
  ]

  no_inner : (s : ℕ) (rs : List (Rule ℕ)) → ((n : ℕ) → n < length rs → AreHoles (rule_at rs n).right.kids) → all_inner s rs ≡ []
  no_inner s [] h = refl
  no_inner s (r ∷ rs) h =
      let first : inner_rules s r.right.kids ≡ [] = none_inside s r.right.kids (h 0 (omega arith)) in
      let rest = no_inner (s + Rattle.tib_grammar.specs.Sides.labels_in r.right.kids) rs (λ n k. h (suc n) (omega (arith, k))) in
      rw first rest

  -- a chain has at most one rule, which is of the start
  record IsShort (q r : ℕ) : Type 0 where
    start : q ≡ 0
    outer : IsOuter rules 0

  short : (q : ℕ) (ns : List ℕ) (r : ℕ) → IsChain rules q ns r → (q ≡ r) ⊎ IsShort q r
  short q [] r c = inl c
  short q (n ∷ ns) r c =
      let p : ℕ = c.2.0 in
      let lone : (rule_at rules n).right ≡ Lone p = c.2.1 in
      elim (form.shaped n c.0) [
        | inl normal ↦ absurd (subst (λ (s : SideFor ℕ ℕ). IsLabel s.label) lone normal.is_label)
        | inr chain ↦ inr (record { start = sym c.1 ∙ chain.left; outer = chain.apart })
      ]

  module _ (more : ℕ) (new : List (Rule ℕ)) (is : IsNormalForm product states rules more new) where
    -- the rule that a rule of the normal form comes from
    record IsFromRule (r : Rule ℕ) : Type 0 where
      rule : ℕ
      below : rule < length rules
      right : r.right ≡ (rule_at rules rule).right
      left : (r.left ≡ (rule_at rules rule).left) ⊎ IsShort r.left (rule_at rules rule).left

    from_reach : (r : Rule ℕ) → Reaches product states rules r.left r.right r.cost → IsFromRule r
    from_reach r h =
        let holes = holes_below h.rule h.below in
        let is_label : IsLabel (rule_at rules h.rule).right.label = subst IsLabel (sym h.is_label) tt in
        let leaves : HolesAreLeaves (rule_at rules h.rule).right.kids = leaves_below (rule_at rules h.rule).right.label (rule_at rules h.rule).right.kids is_label (ends h.rule h.below) in
        let kids : heads (first_inner states rules h.rule) (rule_at rules h.rule).right.kids ≡ (rule_at rules h.rule).right.kids =
        heads_same (first_inner states rules h.rule) (rule_at rules h.rule).right.kids holes leaves
        in
        record {
          rule = h.rule;
          below = h.below;
          right = h.is_side ∙ ap (λ ts. record { label = label h.root; kids = ts }) kids ∙ ap (λ l. record { label = l; kids = (rule_at rules h.rule).right.kids }) (sym h.is_label);
          left = short r.left h.chain (rule_at rules h.rule).left h.leads;
        }

    from_rule : (n : ℕ) → n < length new → IsFromRule (rule_at new n)
    from_rule n h = elim (is.least (rule_at new n) (has_at new n no_rule h)).attained.0 [
      | inl reach ↦ from_reach (rule_at new n) reach
      | inr inner ↦ absurd (subst (λ (rs : List (Rule ℕ)). Has rs (rule_at new n)) (no_inner states rules holes_below) inner)
    ]

    once : (m n : ℕ) → m < length new → n < length new → (rule_at new m).left ≡ (rule_at new n).left → (rule_at new m).right ≡ (rule_at new n).right → m ≡ n
    once m n h k left right = elim (three_ways m n) [
      | inl l ↦ absurd (ascends_at (λ r s. r.left ≡ s.left → r.right ≡ s.right → ⊥) no_rule new is.distinct m n l k left right)
      | inr o ↦ elim o [
        | inl e ↦ e
        | inr l ↦ absurd (ascends_at (λ r s. r.left ≡ s.left → r.right ≡ s.right → ⊥) no_rule new is.distinct n m l h (sym left) (sym right))
      ]
    ]

    outer_new : IsOuter rules 0 → IsOuter new 0
    outer_new out s =
        let f = from_rule s.rule s.below in
        out (record { rule = f.rule; below = f.below; stands = subst (λ (x : SideFor ℕ ℕ). Has (holes_of x) 0) f.right s.stands })

    apart :
        (m n : ℕ) → m < length new → n < length new → (rule_at new m).right ≡ (rule_at new n).right → (m ≡ n) ⊎ (IsOuter new (rule_at new m).left ⊎ IsOuter new (rule_at new n).left)
    apart m n h k right =
        let f = from_rule m h in
        let g = from_rule n k in
        let same : f.rule ≡ g.rule = form.apart f.rule g.rule f.below g.below (sym f.right ∙ right ∙ g.right) in
        elim f.left [
          | inr start ↦ inr (inl (subst (IsOuter new) (sym start.start) (outer_new start.outer)))
          | inl here ↦ elim g.left [
            | inr start ↦ inr (inr (subst (IsOuter new) (sym start.start) (outer_new start.outer)))
            | inl there ↦ inl (once m n h k (here ∙ ap (λ i. (rule_at rules i).left) same ∙ sym there) right)
          ]
        ]

    pub normal_below : IsDeterministicBelow new
    normal_below = record { once = once; apart = apart }

-- rules in deterministic form are deterministic below the root
pub form_below : (rules : List (Rule ℕ)) → IsDeterministic rules → IsDeterministicBelow rules
form_below rules form = record {
  once = λ m n h k left right. form.apart m n h k right;
  apart = λ m n h k right. inl (form.apart m n h k right);
}
