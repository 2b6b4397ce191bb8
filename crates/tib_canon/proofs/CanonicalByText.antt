-- The text of the canonical form does not depend on the numbers of labels.
use Rattle.tib_cost.specs.declared.Scale.{Scale}
use Rattle.std.proofs.Common.{◌≡◌, ℕ, ◌+◌, ◌<◌, List, [], ◌∷◌, length, get_or, refl, ap, sym, ◌∙◌, subst, arith, suc, inl, inr}
use Rattle.std.proofs.lemmas.List.{length-map, get_or-map}
use Rattle.std.proofs.lemmas.Option.{get_or_from_slice_get}
use Rattle.tib_lex.specs.Lists.{Has, Distinct}
use Rattle.tib_tree.specs.Trees.{Trees, none, tree, only, relabel}
use Rattle.tib_grammar.specs.Sides.{Symbol, label, hole, Side, symbol_map, labels_in}
use Rattle.tib_grammar.specs.GrammarOf.{GrammarOf, named_rule}
use Rattle.tib_grammar.specs.Run.{rule_at, no_rule}
use Rattle.tib_grammar.specs.declared.Rule.{Rule}
use Rattle.tib_grammar_file.specs.ByText.{HaveOneShape, HaveOneText, AgreeInSymbol, AreOneRule, AgreeByText}
use Rattle.tib_grammar_file.specs.Printed.{grammar_text}
use Rattle.tib_grammar_file.proofs.Relabelled.{rules_with}
use Rattle.tib_grammar_file.proofs.Renumbering.{Renumbers, renumbering}
use Rattle.tib_grammar_file.proofs.RunsByText.{along_at, rules_given}
use Rattle.tib_normal.specs.NormalForm.{heads, inner_rules, all_inner, first_inner, IsNormalForm}
use Rattle.tib_inside.specs.Trimmed.{IsTrimmed}
use Rattle.tib_canon.specs.Canonical.{IsCanonical}
use Rattle.tib_canon.proofs.NormalByText.{form_with}
use Rattle.tib_canon.proofs.NormalForms.{one_of_forms}
use Rattle.tib_canon.proofs.TrimmedByText.{grammar_with, EachLabel, EachLabelIn, KeepsText, trimmed_with, grammar_printed, order_with}
use Rattle.tib_lex.proofs.Members.{has_at, at_has, has_either}

-- what holds for each label of a grammar holds for each label of its normal, trimmed and canonical
-- forms
module _ (P : ℕ → Type 0) where
  heads_labels : (s : ℕ) (k : Trees (Symbol ℕ ℕ)) → EachLabel P (heads s k)
  heads_labels s none = tt
  heads_labels s (tree (hole q) kids rest) = (tt, heads_labels s rest)
  heads_labels s (tree (label f) kids rest) = (tt, heads_labels (suc s + labels_in kids) rest)

  inner_labels : (s : ℕ) (k : Trees (Symbol ℕ ℕ)) (r : Rule ℕ) → EachLabel P k → Has (inner_rules s k) r → EachLabel P (only r.right)
  inner_labels s none r b h = absurd h
  inner_labels s (tree (hole q) kids rest) r b h = inner_labels s rest r b.1 h
  inner_labels s (tree (label f) kids rest) r b h = elim h [
    | inl e ↦ subst (λ (x : Rule ℕ). EachLabel P (only x.right)) e (b.0, heads_labels (suc s) kids, tt)
    | inr m ↦ elim (has_either (inner_rules (suc s) kids) (inner_rules (suc s + labels_in kids) rest) r m) [
      | inl x ↦ inner_labels (suc s) kids r b.1 x
      | inr x ↦ inner_labels (suc s + labels_in kids) rest r b.2 x
    ]
  ]

  kids_labels : (l : Symbol ℕ ℕ) (kids : Trees (Symbol ℕ ℕ)) → EachLabel P (tree l kids none) → EachLabel P kids
  kids_labels (label f) kids b = b.1
  kids_labels (hole q) kids b = b.0

  all_labels : (s : ℕ) (rules : List (Rule ℕ)) (r : Rule ℕ) → EachLabelIn P rules → Has (all_inner s rules) r → EachLabel P (only r.right)
  all_labels s [] r b h = absurd h
  all_labels s (x ∷ rules) r b h = elim (has_either (inner_rules s x.right.kids) (all_inner (s + labels_in x.right.kids) rules) r h) [
    | inl m ↦ inner_labels s x.right.kids r (kids_labels x.right.label x.right.kids (b x (inl refl))) m
    | inr m ↦ all_labels (s + labels_in x.right.kids) rules r (λ y k. b y (inr k)) m
  ]

  pub form_labels : (product : ℕ → ℕ → ℕ) (states : ℕ) (rules : List (Rule ℕ)) (m : ℕ) (xs : List (Rule ℕ)) → IsNormalForm product states rules m xs → EachLabelIn P rules → EachLabelIn P xs
  form_labels product states rules m xs form b r h = elim (form.least r h).attained.0 [
    | inl k ↦
        let kids : Trees (Symbol ℕ ℕ) = (rule_at rules k.rule).right.kids in
        let root = (subst (λ (l : Symbol ℕ ℕ). EachLabel P (tree l kids none)) k.is_label (b (rule_at rules k.rule) (has_at rules k.rule no_rule k.below))).0 in
        subst (λ (s : Side ℕ ℕ). EachLabel P (only s)) (sym k.is_side) (root, heads_labels (first_inner states rules k.rule) kids, tt)
    | inr i ↦ all_labels states rules r b i
  ]

  pub labels_back : (p : ℕ → ℕ) (ts : Trees (Symbol ℕ ℕ)) → EachLabel P (relabel (symbol_map p) ts) → EachLabel P ts
  labels_back p none b = tt
  labels_back p (tree (label f) kids rest) b = (b.0, labels_back p kids b.1, labels_back p rest b.2)
  labels_back p (tree (hole q) kids rest) b = (labels_back p kids b.0, labels_back p rest b.1)

  pub trimmed_labels : (product : ℕ → ℕ → ℕ) (g h : GrammarOf) → IsTrimmed product g h → EachLabelIn P g.rules → EachLabelIn P h.rules
  trimmed_labels product g h t b r k =
      let p : ℕ → ℕ = λ i. get_or t.states i 0 in
      let m = at_has h.rules r no_rule k in
      let long : length h.rules ≡ length t.rules = sym (length-map h.rules (named_rule p)) ∙ ap length t.named ∙ length-map t.rules (rule_at g.rules) in
      let below : m.0 < length t.rules = omega (arith, long, m.1) in
      let position : ℕ = get_or t.rules m.0 0 in
      let is : named_rule p (rule_at h.rules m.0) ≡ rule_at g.rules position =
      sym (get_or-map (named_rule p) h.rules m.0 no_rule no_rule m.1) ∙ ap (λ (rs : List (Rule ℕ)). get_or rs m.0 no_rule) t.named ∙ get_or-map (rule_at g.rules) t.rules m.0 0 no_rule below in
      let live = (t.are_rules position).0 (has_at t.rules m.0 0 below) in
      let there : EachLabel P (only (rule_at g.rules position).right) = b (rule_at g.rules position) (has_at g.rules position no_rule live.0.below) in
      subst (λ (x : Rule ℕ). EachLabel P (only x.right)) m.2 (labels_back p (only (rule_at h.rules m.0).right) (subst (λ (x : Rule ℕ). EachLabel P (only x.right)) (sym is) there))

  pub canonical_labels : (product : ℕ → ℕ → ℕ) (scale : Scale) (labels : List (List ℕ)) (g h : GrammarOf) → IsCanonical product scale labels g h → EachLabelIn P g.rules → EachLabelIn P h.rules
  canonical_labels product scale labels g h c b r k = trimmed_labels product g c.trimmed c.is_trimmed b r (c.in_order.kept r k)

-- labels of rules that agree by text keep their texts
module _ (labels others : List (List ℕ)) (f : ℕ → ℕ) (n : Renumbers labels others f) where
  text_kept : (i k : ℕ) → HaveOneText labels others i k → KeepsText labels others f i
  text_kept i k h =
      get_or_from_slice_get labels i h.text [] h.first ∙ sym (get_or_from_slice_get others k h.text [] h.second) ∙ ap (λ (j : ℕ). get_or others j []) (sym (n.gives i k h))

  side_kept : (ts us : Trees (Symbol ℕ ℕ)) → HaveOneShape (AgreeInSymbol labels others) ts us → EachLabel (KeepsText labels others f) ts
  side_kept none none h = tt
  side_kept none (tree s below more) h = absurd h
  side_kept (tree s kids rest) none h = absurd h
  side_kept (tree (label i) kids rest) (tree (label k) below more) h = (text_kept i k h.0, side_kept kids below h.1, side_kept rest more h.2)
  side_kept (tree (label i) kids rest) (tree (hole q) below more) h = absurd h.0
  side_kept (tree (hole p) kids rest) (tree (label k) below more) h = absurd h.0
  side_kept (tree (hole p) kids rest) (tree (hole q) below more) h = (side_kept kids below h.1, side_kept rest more h.2)

  pub grammar_kept : (g h : GrammarOf) → AgreeByText labels others g h → EachLabelIn (KeepsText labels others f) g.rules
  grammar_kept g h a r k =
      let m = at_has g.rules r no_rule k in
      let one : AreOneRule labels others (rule_at g.rules m.0) (rule_at h.rules m.0) = along_at (AreOneRule labels others) g.rules h.rules no_rule no_rule m.0 a.rules m.1 in
      subst (λ (x : Rule ℕ). EachLabel (KeepsText labels others f) (only x.right)) m.2 (side_kept (only (rule_at g.rules m.0).right) (only (rule_at h.rules m.0).right) one.right)

  pub canonical_with :
      (product : ℕ → ℕ → ℕ) (scale : Scale) (g h : GrammarOf) → EachLabelIn (KeepsText labels others f) h.rules → IsCanonical product scale labels g h →
      IsCanonical product scale others (grammar_with f g) (grammar_with f h)
  canonical_with product scale g h e c = record {
    trimmed = grammar_with f c.trimmed;
    is_trimmed = trimmed_with product f g c.trimmed c.is_trimmed;
    in_order = order_with labels others f n.apart scale c.trimmed h c.in_order e;
  }

pub one_canonical_text :
    (product : ℕ → ℕ → ℕ) (scale : Scale) (labels others : List (List ℕ)) (g h m n i j : GrammarOf) → Distinct labels → Distinct others → AgreeByText labels others g h →
    IsNormalForm product (length g.names) g.rules (length m.names) m.rules → IsNormalForm product (length h.names) h.rules (length n.names) n.rules →
    IsCanonical product scale labels m i → IsCanonical product scale others n j → grammar_text scale labels i ≡ grammar_text scale others j
one_canonical_text product scale labels others g h m n i j apart different a one two c d =
    let s = renumbering labels others apart different in
    let f : ℕ → ℕ = s.0 in
    let rules : rules_with f g.rules ≡ h.rules = rules_given labels others f s.1 g.rules h.rules a.rules in
    let named : length g.names ≡ length h.names = ap length a.names in
    let e : EachLabelIn (KeepsText labels others f) i.rules =
    canonical_labels (KeepsText labels others f) product scale labels m i c
    (form_labels (KeepsText labels others f) product (length g.names) g.rules (length m.names) m.rules one (grammar_kept labels others f s.1 g h a)) in
    let form : IsNormalForm product (length h.names) h.rules (length m.names) (rules_with f m.rules) =
    subst (λ (rs : List (Rule ℕ)). IsNormalForm product (length h.names) rs (length m.names) (rules_with f m.rules)) rules
    (subst (λ (k : ℕ). IsNormalForm product k (rules_with f g.rules) (length m.names) (rules_with f m.rules)) named (form_with product f s.1.apart (length g.names) g.rules (length m.names) m.rules one)) in
    let same : grammar_with f i ≡ j =
    one_of_forms product (length h.names) h.rules scale others (grammar_with f m) n (grammar_with f i) j form two (canonical_with labels others f s.1 product scale m i e c) d in
    grammar_printed labels others f scale i e ∙ ap (grammar_text scale others) same
