-- Trimmed and canonical forms, normal forms and grammars over keys can be printed where the grammar
-- can.
use Rattle.tib_cost.specs.declared.Scale.{Scale}
use Rattle.tib_cost.specs.declared.Scale.TheVariants as scales
use Rattle.std.proofs.Common.{◌≡◌, ℕ, ◌+◌, ◌<◌, ◌≤◌, List, [], ◌∷◌, length, get_or, refl, ap, sym, ◌∙◌, subst, arith, suc, inl, inr}
use Rattle.std.proofs.lemmas.List.{length-map, get_or-map}
use Rattle.std.specs.Option.{option_cmp}
use Rattle.std.specs.declared.cmp.Ordering.{Ordering}
use Rattle.tib_lex.specs.Lists.{Has}
use Rattle.tib_tree.specs.Trees.{Trees, none, tree, only, relabel}
use Rattle.tib_grammar.specs.Sides.{Symbol, label, hole, symbol_map, Side, labels_in}
use Rattle.tib_grammar.specs.GrammarOf.{GrammarOf, named_rule}
use Rattle.tib_grammar.specs.Run.{rule_at, no_rule}
use Rattle.tib_grammar.specs.declared.Rule.{Rule}
use Rattle.tib_grammar_file.specs.Printable.{IsPlainCost, HavePlainLabels, IsPrintable, ArePrintable}
use Rattle.tib_cost.specs.Semiring.{most}
use Rattle.tib_normal.specs.NormalForm.{IsChain, chain_cost, heads, inner_rules, all_inner, first_inner, Reaches, IsNormalCost, IsNormalForm}
use Rattle.tib_normal.proofs.Normalizing.{below_or_after}
use Rattle.tib_inside.specs.Trimmed.{IsTrimmed}
use Rattle.tib_inside.proofs.Keeping.{as_many, named_at}
use Rattle.tib_canon.specs.Canonical.{IsCanonical}
use Rattle.tib_canon.specs.Keys.{IsOverKeys, IsBegun, behind_fresh, started_rules, begun_rules}
use Rattle.tib_canon.specs.declared.begin.Begin.{Begin}
use Rattle.tib_canon.specs.declared.begin.Begin.TheVariants.{At, Fresh, Empty}
use Rattle.tib_lex.proofs.Members.{has_at, at_has, has_either}

-- a rule can be printed if it can with other states

pub plain_back : (labels : List (List ℕ)) (f : ℕ → ℕ) (ts : Trees (Symbol ℕ ℕ)) → HavePlainLabels labels (relabel (symbol_map f) ts) → HavePlainLabels labels ts
plain_back labels f none h = tt
plain_back labels f (tree (label g) kids rest) h = (h.0, h.1, plain_back labels f kids h.2, plain_back labels f rest h.3)
plain_back labels f (tree (hole q) kids rest) h = (plain_back labels f kids h.0, plain_back labels f rest h.1)

module _ (scale : Scale) (labels : List (List ℕ)) where
  rule_back : (f : ℕ → ℕ) (r : Rule ℕ) → IsPrintable scale labels (named_rule f r) → IsPrintable scale labels r
  rule_back f r p = record { right = plain_back labels f (only r.right) p.right; cost = p.cost }

  printable_has : (rules : List (Rule ℕ)) → ArePrintable scale labels rules → (r : Rule ℕ) → Has rules r → IsPrintable scale labels r
  printable_has rules p r h = let at = at_has rules r no_rule h in subst (IsPrintable scale labels) at.2 (p at.0 at.1)

  printable_of : (rules : List (Rule ℕ)) → ((r : Rule ℕ) → Has rules r → IsPrintable scale labels r) → ArePrintable scale labels rules
  printable_of rules f m h = f (rule_at rules m) (has_at rules m no_rule h)

  pub trimmed_printable : (product : ℕ → ℕ → ℕ) (g h : GrammarOf) → IsTrimmed product g h → ArePrintable scale labels g.rules → ArePrintable scale labels h.rules
  trimmed_printable product g h t p m k =
      let position : ℕ = get_or t.rules m 0 in
      let live = (t.are_rules position).0 (has_at t.rules m 0 (omega (arith, as_many product g h t))) in
      rule_back (λ i. get_or t.states i 0) (rule_at h.rules m) (subst (IsPrintable scale labels) (sym (named_at product g h t m k)) (p position live.0.below))

  pub canonical_printable : (product : ℕ → ℕ → ℕ) (g h : GrammarOf) → IsCanonical product scale labels g h → ArePrintable scale labels g.rules → ArePrintable scale labels h.rules
  canonical_printable product g h c p =
      let own : ArePrintable scale labels c.trimmed.rules = trimmed_printable product g c.trimmed c.is_trimmed p in
      printable_of h.rules (λ r k. printable_has c.trimmed.rules own r (c.in_order.kept r k))

  pub over_printable :
      {K : Type 0} (cmp : K → K → Ordering) (order : List K) (rules : List (Rule ℕ)) (start : ℕ) (g : GrammarOf) → IsOverKeys cmp order rules start g → ArePrintable scale labels rules → ArePrintable scale labels g.rules
  over_printable cmp order rules start g over p m h =
      let f : ℕ → ℕ = λ i. get_or over.states i 0 in
      let long : length g.rules ≡ length rules = sym (length-map g.rules (named_rule f)) ∙ ap length over.named in
      let at : named_rule f (rule_at g.rules m) ≡ rule_at rules m = sym (get_or-map (named_rule f) g.rules m no_rule no_rule h) ∙ ap (λ (rs : List (Rule ℕ)). rule_at rs m) over.named in
      rule_back f (rule_at g.rules m) (subst (IsPrintable scale labels) (sym at) (p m (omega arith)))

  pub begun_printable :
      {K : Type 0} (cmp : K → K → Ordering) (order : List K) (rules : List (Rule ℕ)) (begin : Begin) (g : GrammarOf) → IsBegun cmp order rules begin g → ArePrintable scale labels (begun_rules begin rules) →
      ArePrintable scale labels g.rules
  begun_printable cmp order rules (At start) g over p = over_printable cmp order rules start g over p
  begun_printable cmp order rules (Fresh finals) g over p = over_printable (option_cmp cmp) (behind_fresh order) (started_rules finals rules) 0 g over p
  begun_printable cmp order rules Empty g e p = λ m h. absurd (let none : length g.rules ≡ 0 = ap (λ (k : GrammarOf). length k.rules) e in omega (arith, h, none))

-- normal forms

pub plain_nothing : (scale : Scale) → IsPlainCost scale 0
plain_nothing scales.Plain = omega arith
plain_nothing scales.Reversed = omega arith
plain_nothing scales.Unweighted = refl

heads_plain : (labels : List (List ℕ)) (s : ℕ) (k : Trees (Symbol ℕ ℕ)) → HavePlainLabels labels (heads s k)
heads_plain labels s none = tt
heads_plain labels s (tree (hole q) kids rest) = (tt, heads_plain labels s rest)
heads_plain labels s (tree (label f) kids rest) = (tt, heads_plain labels (suc s + labels_in kids) rest)

-- the labels of a side are those of its root and of what is below it
abbrev PlainSymbol : List (List ℕ) → Symbol ℕ ℕ → Type 0
PlainSymbol labels s = HavePlainLabels labels (tree s none none)

plain_parts : (labels : List (List ℕ)) (s : Symbol ℕ ℕ) (kids : Trees (Symbol ℕ ℕ)) → HavePlainLabels labels (tree s kids none) → PlainSymbol labels s × HavePlainLabels labels kids
plain_parts labels (label f) kids h = ((h.0, h.1, tt, tt), h.2)
plain_parts labels (hole q) kids h = ((tt, tt), h.0)

plain_over : (labels : List (List ℕ)) (root s : ℕ) (k : Trees (Symbol ℕ ℕ)) → PlainSymbol labels (label root) → HavePlainLabels labels (tree (label root) (heads s k) none)
plain_over labels root s k h = (h.0, h.1, heads_plain labels s k, tt)

module _ (scale : Scale) (labels : List (List ℕ)) where
  inner_printable : (s : ℕ) (k : Trees (Symbol ℕ ℕ)) → HavePlainLabels labels k → (r : Rule ℕ) → Has (inner_rules s k) r → IsPrintable scale labels r
  inner_printable s none p r h = absurd h
  inner_printable s (tree (hole q) kids rest) p r h = inner_printable s rest p.1 r h
  inner_printable s (tree (label f) kids rest) p r h = elim h [
    | inl e ↦ subst (IsPrintable scale labels) e (record { right = plain_over labels f (suc s) kids (p.0, p.1, tt, tt); cost = plain_nothing scale })
    | inr m ↦ elim (below_or_after s kids rest r m) [
      | inl x ↦ inner_printable (suc s) kids p.2 r x
      | inr x ↦ inner_printable (suc s + labels_in kids) rest p.3 r x
    ]
  ]

  all_printable : (s : ℕ) (rules : List (Rule ℕ)) → ((r : Rule ℕ) → Has rules r → IsPrintable scale labels r) → (r : Rule ℕ) → Has (all_inner s rules) r → IsPrintable scale labels r
  all_printable s [] p r h = absurd h
  all_printable s (x ∷ rules) p r h = elim (has_either (inner_rules s x.right.kids) (all_inner (s + labels_in x.right.kids) rules) r h) [
    | inl m ↦ inner_printable s x.right.kids (plain_parts labels x.right.label x.right.kids (p x (inl refl)).right).1 r m
    | inr m ↦ all_printable (s + labels_in x.right.kids) rules (λ y k. p y (inr k)) r m
  ]

-- where nothing is weighed, products of costs are 0

module _ (product : ℕ → ℕ → ℕ) (nothing : product 0 0 ≡ 0) (rules : List (Rule ℕ)) (free : (m : ℕ) → m < length rules → (rule_at rules m).cost ≡ 0) where
  chain_free : (q : ℕ) (ns : List ℕ) (r : ℕ) → IsChain rules q ns r → chain_cost product rules ns ≡ 0
  chain_free q [] r h = refl
  chain_free q (n ∷ ns) r h = ap (λ c. product c (chain_cost product rules ns)) (free n h.0) ∙ ap (product 0) (chain_free h.2.0 ns r h.2.2) ∙ nothing

plain_product :
    (product : ℕ → ℕ → ℕ) → product 0 0 ≡ 0 → (scale : Scale) (labels : List (List ℕ)) (rules : List (Rule ℕ)) → ArePrintable scale labels rules → (q n : ℕ) (chain : List ℕ) (c : ℕ) → n < length rules →
    IsChain rules q chain (rule_at rules n).left → product (chain_cost product rules chain) (rule_at rules n).cost ≡ c → c ≤ most → IsPlainCost scale c
plain_product product nothing scales.Plain labels rules p q n chain c h leads e within = within
plain_product product nothing scales.Reversed labels rules p q n chain c h leads e within = within
plain_product product nothing scales.Unweighted labels rules p q n chain c h leads e within =
    sym e ∙ ap (λ d. product d (rule_at rules n).cost) (chain_free product nothing rules (λ m k. (p m k).cost) q chain (rule_at rules n).left leads) ∙ ap (product 0) (p n h).cost ∙ nothing

module _ (product : ℕ → ℕ → ℕ) (nothing : product 0 0 ≡ 0) (scale : Scale) (labels : List (List ℕ)) (states : ℕ) (rules : List (Rule ℕ)) (p : ArePrintable scale labels rules) where
  reached_printable : (r : Rule ℕ) → r.cost ≤ most → Reaches product states rules r.left r.right r.cost → IsPrintable scale labels r
  reached_printable r within x =
      let s : Side ℕ ℕ = (rule_at rules x.rule).right in
      let root : PlainSymbol labels (label x.root) = subst (PlainSymbol labels) x.is_label (plain_parts labels s.label s.kids (p x.rule x.below).right).0 in
      record {
        right = subst (λ (t : Side ℕ ℕ). HavePlainLabels labels (only t)) (sym x.is_side) (plain_over labels x.root (first_inner states rules x.rule) s.kids root);
        cost = plain_product product nothing scale labels rules p r.left x.rule x.chain r.cost x.below x.leads x.costs within;
      }

  cost_printable : (r : Rule ℕ) → r.cost ≤ most → IsNormalCost product states rules r.left r.right r.cost → IsPrintable scale labels r
  cost_printable r within h = elim h [
    | inl x ↦ reached_printable r within x
    | inr i ↦ all_printable scale labels states rules (printable_has scale labels rules p) r i
  ]

  pub form_printable : (more : ℕ) (new : List (Rule ℕ)) → IsNormalForm product states rules more new → ArePrintable scale labels new
  form_printable more new form m h =
      let l = form.least (rule_at new m) (has_at new m no_rule h) in
      cost_printable (rule_at new m) l.attained.1 l.attained.0
