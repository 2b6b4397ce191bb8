-- Where rules cost nothing, so do the rules of their normal form, and renamed ones.
use Rattle.std.specs.Prelude.{◌≡◌, ℕ, ◌+◌, max, List, [], ◌∷◌, length, map, refl}
use Rattle.std.proofs.Common.{suc, arith, ap, sym, ◌∙◌, inl, inr}
use Rattle.std.proofs.lemmas.List.{get_or-map, length-map}
use Rattle.tib_lex.specs.Lists.{Has}
use Rattle.tib_lex.proofs.Members.{has_at, at_has, has_either}
use Rattle.tib_tree.specs.Trees.{Trees, none, tree}
use Rattle.tib_grammar.specs.GrammarOf.{named_rule}
use Rattle.tib_grammar.specs.Run.{rule_at, no_rule, AreFree}
use Rattle.tib_grammar.specs.Sides.{Symbol, label, hole, labels_in}
use Rattle.tib_grammar.specs.declared.Rule.{Rule}
use Rattle.tib_normal.specs.NormalForm.{IsChain, chain_cost, IsNormalForm, inner_rules, all_inner}

-- rules cost nothing where each of them does, and the other way round
pub each_free : (rules : List (Rule ℕ)) → AreFree rules → (r : Rule ℕ) → Has rules r → r.cost ≡ 0
each_free rules free r h = let at = at_has rules r no_rule h in ap (λ (s : Rule ℕ). s.cost) (sym at.2) ∙ free at.0 at.1

pub are_free : (rules : List (Rule ℕ)) → ((r : Rule ℕ) → Has rules r → r.cost ≡ 0) → AreFree rules
are_free rules each n h = each (rule_at rules n) (has_at rules n no_rule h)

-- rules that cost nothing under other numbers of states cost nothing
pub renamed_free : (f : ℕ → ℕ) (new old : List (Rule ℕ)) → map (named_rule f) new ≡ old → AreFree old → AreFree new
renamed_free f new old named free n h =
    let here : named_rule f (rule_at new n) ≡ rule_at old n = sym (get_or-map (named_rule f) new n no_rule no_rule h) ∙ ap (λ rs. rule_at rs n) named in
    let long : length new ≡ length old = sym (length-map new (named_rule f)) ∙ ap length named in
    ap (λ (r : Rule ℕ). r.cost) here ∙ free n (omega (arith, h, long))

-- rules of inner states cost nothing
inner_free : (s : ℕ) (sides : Trees (Symbol ℕ ℕ)) (r : Rule ℕ) → Has (inner_rules s sides) r → r.cost ≡ 0
inner_free s none r h = absurd h
inner_free s (tree (hole q) kids rest) r h = inner_free s rest r h
inner_free s (tree (label f) kids rest) r h = elim h [
  | inl e ↦ ap (λ (x : Rule ℕ). x.cost) (sym e)
  | inr k ↦ elim (has_either (inner_rules (suc s) kids) (inner_rules (suc s + labels_in kids) rest) r k) [
    | inl m ↦ inner_free (suc s) kids r m
    | inr m ↦ inner_free (suc s + labels_in kids) rest r m
  ]
]

all_inner_free : (s : ℕ) (rules : List (Rule ℕ)) (r : Rule ℕ) → Has (all_inner s rules) r → r.cost ≡ 0
all_inner_free s [] r h = absurd h
all_inner_free s (x ∷ rules) r h = elim (has_either (inner_rules s x.right.kids) (all_inner (s + labels_in x.right.kids) rules) r h) [
  | inl m ↦ inner_free s x.right.kids r m
  | inr m ↦ all_inner_free (s + labels_in x.right.kids) rules r m
]

module _ (rules : List (Rule ℕ)) (free : AreFree rules) where
  -- nor do chains
  chain_free : (q r : ℕ) (chain : List ℕ) → IsChain rules q chain r → chain_cost max rules chain ≡ 0
  chain_free q r [] leads = refl
  chain_free q r (n ∷ chain) leads = greatest (rule_at rules n).cost (chain_cost max rules chain) (free n leads.0) (chain_free leads.2.0 r chain leads.2.2)
    where
      greatest : (a b : ℕ) → a ≡ 0 → b ≡ 0 → max a b ≡ 0
      greatest a b d e = omega arith

  -- nor the rules of the normal form
  pub form_free : (states more : ℕ) (new : List (Rule ℕ)) → IsNormalForm max states rules more new → AreFree new
  form_free states more new form =
      are_free new (λ r h. elim ((form.least r h).attained.0) [
        | inl reaches ↦
            let chain : chain_cost max rules reaches.chain ≡ 0 = chain_free r.left (rule_at rules reaches.rule).left reaches.chain reaches.leads in
            let own : (rule_at rules reaches.rule).cost ≡ 0 = free reaches.rule reaches.below in
            omega (arith, chain, own, reaches.costs)
        | inr inner ↦ all_inner_free states rules (record { left = r.left; right = r.right; cost = r.cost }) inner
      ])
