-- Runs of one grammar in normal form, carried to another whose rules mirror its rules.
use Rattle.std.specs.Prelude.{◌≡◌, ℕ, List, [], ◌∷◌, Bool, refl}
use Rattle.std.proofs.Common.{ap, sym, ◌∙◌, subst}
use Rattle.tib_lex.specs.Lists.{Has, Along}
use Rattle.tib_lex.proofs.Members.{has_at, at_has}
use Rattle.tib_tree.specs.Trees.{Trees, none, tree}
use Rattle.tib_grammar.specs.Sides.{holes}
use Rattle.tib_grammar.specs.Run.{rule_at, no_rule, IsCost}
use Rattle.tib_grammar.specs.Forms.{AreNormal}
use Rattle.tib_grammar.specs.declared.Rule.{Rule}
use Rattle.tib_grammar.proofs.NormalRuns.{IsLeast-no_states, no_states}
use Rattle.tib_grammar.proofs.Best.{no_trees}
use Rattle.tib_grammar.proofs.Opening.{open_cost, close_cost}
use Rattle.tib_cost.specs.Semiring.{ProductLaws}

-- a rule of other rules, from the state p, with the same label over related states
pub record IsMirrored (two : List (Rule ℕ)) (Related : ℕ → ℕ → Type 0) (r : Rule ℕ) (p : ℕ) : Type 0 where
  pub rule : Rule ℕ
  pub stands : Has two rule
  pub left : rule.left ≡ p
  pub root : rule.right.label ≡ r.right.label
  pub states : Along Related (holes r.right.kids) (holes rule.right.kids)

-- each rule has one from each state that is related to its left one
abbrev pub Mirrors : List (Rule ℕ) → List (Rule ℕ) → (ℕ → ℕ → Type 0) → Type 0
Mirrors one two Related = (r : Rule ℕ) → Has one r → (p : ℕ) → Related r.left p → IsMirrored two Related r p

module _
    {levelled weighted : Bool} {product : ℕ → ℕ → ℕ} (laws : ProductLaws levelled weighted product)
    {other_levelled other_weighted : Bool} {other : ℕ → ℕ → ℕ} (others : ProductLaws other_levelled other_weighted other)
    (one two : List (Rule ℕ)) (normal : AreNormal one) (normal_too : AreNormal two) (Related : ℕ → ℕ → Type 0) (mirrors : Mirrors one two Related) where
  -- what has runs from some states has runs from related ones
  pub carried :
      (ts : Trees ℕ) (qs ps : List ℕ) → Along Related qs ps → (c : ℕ) → IsCost product one qs ts c → (d : ℕ) × IsCost other two ps ts d
  carried none [] [] a c h = (0, (IsLeast-no_states others two).attained.0)
  carried none [] (p ∷ ps) a c h = absurd a
  carried none (q ∷ qs) ps a c h = absurd (no_trees laws one normal q qs c h)
  carried (tree f kids rest) [] ps a c h = absurd (no_states one f kids rest c h)
  carried (tree f kids rest) (q ∷ qs) [] a c h = absurd a
  carried (tree f kids rest) (q ∷ qs) (p ∷ ps) a c h =
      let o = open_cost laws one normal q qs f kids rest c h in
      let r : Rule ℕ = rule_at one o.rule in
      let m : IsMirrored two Related r p = mirrors r (has_at one o.rule no_rule o.below) p (subst (λ l. Related l p) (sym o.left) a.0) in
      let at = at_has two m.rule no_rule m.stands in
      let below : Along Related (holes r.right.kids) (holes (rule_at two at.0).right.kids) =
      subst (λ (s : Rule ℕ). Along Related (holes r.right.kids) (holes s.right.kids)) (sym at.2) m.states
      in
      let inner = carried kids (holes r.right.kids) (holes (rule_at two at.0).right.kids) below o.inner o.kids_cost in
      let outer = carried rest qs ps a.1 o.outer o.rest_cost in
      let d : ℕ = other (other (rule_at two at.0).cost inner.0) outer.0 in (
        d,
        close_cost others two normal_too p ps f kids rest d (record {
          rule = at.0;
          below = at.1;
          left = ap (λ (s : Rule ℕ). s.left) at.2 ∙ m.left;
          root = ap (λ (s : Rule ℕ). s.right.label) at.2 ∙ m.root ∙ o.root;
          inner = inner.0;
          outer = outer.0;
          kids_cost = inner.1;
          rest_cost = outer.1;
          costs = refl {a = d};
        }),
      )
