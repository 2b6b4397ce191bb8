-- Trimming and canonical order with other numbers of labels.
use Rattle.tib_cost.specs.declared.Scale.{Scale}
use Rattle.std.proofs.Common.{◌≡◌, ℕ, ◌<◌, ◌≤◌, List, [], ◌∷◌, ◌++◌, length, map, get_or, refl, ap, sym, ◌∙◌, subst, arith, suc, inl, inr, take}
use Rattle.std.specs.Prelude.{◌-◌}
use Rattle.std.specs.Ordering.{nat_cmp, ordering_then}
use Rattle.std.specs.Cmp.Lexicographic.{slice_cmp}
use Rattle.std.specs.declared.cmp.Ordering.{Ordering}
use Rattle.std.specs.declared.cmp.Ordering.TheVariants.{Less}
use Rattle.tib_lex.specs.Lists.{Has, Each}
use Rattle.tib_tree.specs.Trees.{Trees, none, tree, only, count, relabel}
use Rattle.tib_grammar.specs.Sides.{Symbol, label, hole, Side, symbol_map, side_map}
use Rattle.tib_grammar.specs.GrammarOf.{GrammarOf, named_rule}
use Rattle.tib_grammar.specs.Range.{AllBelow, AreInRange}
use Rattle.tib_grammar.specs.Run.{rule_at}
use Rattle.tib_grammar.specs.declared.Rule.{Rule}
use Rattle.tib_grammar_file.specs.Printed.{label_text, space, opening, closing, trees_text, cost_text, rule_text, rules_text, grammar_text}
use Rattle.tib_grammar_file.proofs.Relabelled.{symbol_with, trees_with, side_with, rule_with, rules_with, at_with, side_told}
use Rattle.tib_grammar_file.proofs.RunsByText.{DifferInLabels, differ_back, differ_with}
use Rattle.tib_inside.specs.Trimmed.{IsTrimmed}
use Rattle.tib_inside.specs.Useful.{IsLive, IsUseful}
use Rattle.tib_canon.specs.Canonical.{line_of, rule_cmp, AgreeInSides, HasSides, IsInOrder}
use Rattle.tib_canon.specs.Keys.{IsOverKeys}
use Rattle.tib_canon.proofs.InsidesByText.{live_kept, useful_kept}
use Rattle.tib_canon.proofs.NormalByText.{ascends_mapped}
use Rattle.tib_lex.proofs.Members.{each_of}
use Rattle.tib_lex.proofs.Lists.{has_mapped, mapped_has}

-- a grammar with other numbers of labels
abbrev pub grammar_with : (ℕ → ℕ) → GrammarOf → GrammarOf
grammar_with f g = record { names = g.names; rules = rules_with f g.rules }

-- P holds for each label
abbrev pub EachLabel : (ℕ → Type 0) → Trees (Symbol ℕ ℕ) → Type 0
EachLabel P none = Unit {0}
EachLabel P (tree (label f) kids rest) = P f × EachLabel P kids × EachLabel P rest
EachLabel P (tree (hole q) kids rest) = EachLabel P kids × EachLabel P rest

-- P holds for each label in the right-hand sides
abbrev pub EachLabelIn : (ℕ → Type 0) → List (Rule ℕ) → Type 0
EachLabelIn P rules = (r : Rule ℕ) → Has rules r → EachLabel P (only r.right)

trees_commute : (p f : ℕ → ℕ) (ts : Trees (Symbol ℕ ℕ)) → relabel (symbol_map p) (trees_with f ts) ≡ trees_with f (relabel (symbol_map p) ts)
trees_commute p f none = refl
trees_commute p f (tree (label g) kids rest) =
    ap (λ (x : Trees (Symbol ℕ ℕ)). tree (label (f g)) x (relabel (symbol_map p) (trees_with f rest))) (trees_commute p f kids)
    ∙ ap (λ (x : Trees (Symbol ℕ ℕ)). tree (label (f g)) (trees_with f (relabel (symbol_map p) kids)) x) (trees_commute p f rest)
trees_commute p f (tree (hole q) kids rest) =
    ap (λ (x : Trees (Symbol ℕ ℕ)). tree (hole (p q)) x (relabel (symbol_map p) (trees_with f rest))) (trees_commute p f kids)
    ∙ ap (λ (x : Trees (Symbol ℕ ℕ)). tree (hole (p q)) (trees_with f (relabel (symbol_map p) kids)) x) (trees_commute p f rest)

symbol_commutes : (p f : ℕ → ℕ) (s : Symbol ℕ ℕ) → symbol_map p (symbol_with f s) ≡ symbol_with f (symbol_map p s)
symbol_commutes p f (label g) = refl
symbol_commutes p f (hole q) = refl

side_commutes : (p f : ℕ → ℕ) (s : Side ℕ ℕ) → side_map p (side_with f s) ≡ side_with f (side_map p s)
side_commutes p f s =
    ap (λ (x : Symbol ℕ ℕ). record { label = x; kids = relabel (symbol_map p) (trees_with f s.kids) }) (symbol_commutes p f s.label)
    ∙ ap (λ (x : Trees (Symbol ℕ ℕ)). record { label = symbol_with f (symbol_map p s.label); kids = x }) (trees_commute p f s.kids)

pub rules_commute : (p f : ℕ → ℕ) (rules : List (Rule ℕ)) → map (named_rule p) (rules_with f rules) ≡ rules_with f (map (named_rule p) rules)
rules_commute p f [] = refl
rules_commute p f (r ∷ rules) =
    ap (λ (x : Side ℕ ℕ). record { left = p r.left; right = x; cost = r.cost } ∷ map (named_rule p) (rules_with f rules)) (side_commutes p f r.right)
    ∙ ap (λ (xs : List (Rule ℕ)). rule_with f (named_rule p r) ∷ xs) (rules_commute p f rules)

pub positions_with : (f : ℕ → ℕ) (rules : List (Rule ℕ)) (positions : List ℕ) → Each (λ n. n < length rules) positions → rules_with f (map (rule_at rules) positions) ≡ map (rule_at (rules_with f rules)) positions
positions_with f rules [] e = refl
positions_with f rules (n ∷ positions) e =
    ap (λ (x : Rule ℕ). x ∷ rules_with f (map (rule_at rules) positions)) (sym (at_with f rules n e.0)) ∙ ap (λ (xs : List (Rule ℕ)). rule_at (rules_with f rules) n ∷ xs) (positions_with f rules positions e.1)

-- rules in range with the other numbers
pub range_with : (f : ℕ → ℕ) (n : ℕ) (rules : List (Rule ℕ)) → AreInRange n rules → AreInRange n (rules_with f rules)
range_with f n rules range m k =
    let e : DifferInLabels rules (rules_with f rules) = differ_with f rules in
    let below : m < length rules = omega (arith, k, e.long) in
    (subst (λ (q : ℕ). q < n) (e.left m below) (range m below).0, subst (AllBelow n) (e.states m below) (range m below).1)

-- the grammar over the keys of an order with the other numbers
pub over_with :
    {K : Type 0} (cmp : K → K → Ordering) (order : List K) (rules : List (Rule ℕ)) (start : ℕ) (g : GrammarOf) (f : ℕ → ℕ) → IsOverKeys cmp order rules start g →
    IsOverKeys cmp order (rules_with f rules) start (grammar_with f g)
over_with cmp order rules start g f o = record {
  states = o.states;
  by_keys = o.by_keys;
  names = o.names;
  in_range = range_with f (length order) g.rules o.in_range;
  named = rules_commute (λ i. get_or o.states i 0) f g.rules ∙ ap (rules_with f) o.named;
}

pub trimmed_with : (product : ℕ → ℕ → ℕ) (f : ℕ → ℕ) (g h : GrammarOf) → IsTrimmed product g h → IsTrimmed product (grammar_with f g) (grammar_with f h)
trimmed_with product f g h t =
    let d : DifferInLabels g.rules (rules_with f g.rules) = differ_with f g.rules in
    let back : DifferInLabels (rules_with f g.rules) g.rules = differ_back g.rules (rules_with f g.rules) d in
    record {
      states = t.states;
      states_ascend = t.states_ascend;
      are_states = λ q. (
        λ k. elim ((t.are_states q).0 k) [ inl z ↦ inl z | inr u ↦ inr (useful_kept product g.rules (rules_with f g.rules) d q u) ],
        λ k. (t.are_states q).1 (elim k [ inl z ↦ inl z | inr u ↦ inr (useful_kept product (rules_with f g.rules) g.rules back q u) ]),
      );
      rules = t.rules;
      rules_ascend = t.rules_ascend;
      are_rules = λ n. (
        λ k.
            let l = (t.are_rules n).0 k in (
              live_kept product g.rules (rules_with f g.rules) d n l.0,
              subst (λ (q : ℕ). IsUseful product (rules_with f g.rules) q) (d.left n l.0.below) (useful_kept product g.rules (rules_with f g.rules) d (rule_at g.rules n).left l.1),
            ),
        λ k.
            let l : IsLive product g.rules n = live_kept product (rules_with f g.rules) g.rules back n k.0 in
            (t.are_rules n).1 (l, subst (λ (q : ℕ). IsUseful product g.rules q) (sym (d.left n l.below)) (useful_kept product (rules_with f g.rules) g.rules back (rule_at (rules_with f g.rules) n).left k.1)),
      );
      in_range = range_with f (length t.states) h.rules t.in_range;
      names = t.names;
      named =
          rules_commute (λ i. get_or t.states i 0) f h.rules
          ∙ ap (rules_with f) t.named
          ∙ positions_with f g.rules t.rules (each_of (λ n. n < length g.rules) t.rules (λ n k. ((t.are_rules n).0 k).0.below));
    }

count_with : (f : ℕ → ℕ) (ts : Trees (Symbol ℕ ℕ)) → count (trees_with f ts) ≡ count ts
count_with f none = refl
count_with f (tree s kids rest) = ap suc (count_with f rest)

-- the text of a node after k others, with n children
abbrev node_text : ℕ → List ℕ → ℕ → List ℕ → List ℕ → List ℕ
node_text k text n below behind = space k ++ (text ++ (opening n ++ (below ++ (closing n ++ behind))))

node_same : (k : ℕ) (text : List ℕ) {m n : ℕ} {below under behind after : List ℕ} → n ≡ m → below ≡ under → behind ≡ after → node_text k text m below behind ≡ node_text k text n under after
node_same k text {m} {n} {below} {under} {behind} {after} long one two =
    ap (λ (i : ℕ). node_text k text i below behind) (sym long) ∙ ap (λ (x : List ℕ). node_text k text n x behind) one ∙ ap (node_text k text n under) two

module _ (labels others : List (List ℕ)) (f : ℕ → ℕ) where
  -- the label has its text in the other table too
  abbrev pub KeepsText : ℕ → Type 0
  KeepsText i = get_or labels i [] ≡ get_or others (f i) []

  trees_printed : (names : List (List ℕ)) (ts : Trees (Symbol ℕ ℕ)) (k : ℕ) → EachLabel KeepsText ts → trees_text names labels ts k ≡ trees_text names others (trees_with f ts) k
  trees_printed names none k e = refl
  trees_printed names (tree (label g) kids rest) k e =
      ap (λ (x : List ℕ). node_text k (label_text names x) (count kids) (trees_text names labels kids 0) (trees_text names labels rest (suc k))) e.0
      ∙ node_same k (label_text names (get_or others (f g) [])) (count_with f kids) (trees_printed names kids 0 e.1) (trees_printed names rest (suc k) e.2)
  trees_printed names (tree (hole q) kids rest) k e =
      node_same k (get_or names q []) (count_with f kids) (trees_printed names kids 0 e.0) (trees_printed names rest (suc k) e.1)

  rule_printed : (scale : Scale) (names : List (List ℕ)) (r : Rule ℕ) → EachLabel KeepsText (only r.right) → rule_text scale names labels r ≡ rule_text scale names others (rule_with f r)
  rule_printed scale names r e =
      ap (λ (x : List ℕ). get_or names r.left [] ++ (32 ∷ (45 ∷ (62 ∷ (32 ∷ []))) ++ (x ++ (cost_text scale r.cost ++ 10 ∷ [])))) (trees_printed names (only r.right) 0 e)

  rules_printed : (scale : Scale) (names : List (List ℕ)) (rules : List (Rule ℕ)) → EachLabelIn KeepsText rules → rules_text scale names labels rules ≡ rules_text scale names others (rules_with f rules)
  rules_printed scale names [] e = refl
  rules_printed scale names (r ∷ rules) e =
      ap (λ (x : List ℕ). x ++ rules_text scale names labels rules) (rule_printed scale names r (e r (inl refl)))
      ∙ ap (λ (x : List ℕ). rule_text scale names others (rule_with f r) ++ x) (rules_printed scale names rules (λ s h. e s (inr h)))

  pub grammar_printed : (scale : Scale) (g : GrammarOf) → EachLabelIn KeepsText g.rules → grammar_text scale labels g ≡ grammar_text scale others (grammar_with f g)
  grammar_printed scale g e = ap (λ (x : List ℕ). (get_or g.names 0 [] ++ 10 ∷ []) ++ x) (rules_printed scale g.names g.rules e)

  line_printed : (scale : Scale) (names : List (List ℕ)) (r : Rule ℕ) → EachLabel KeepsText (only r.right) → line_of scale names labels r ≡ line_of scale names others (rule_with f r)
  line_printed scale names r e = ap (λ (x : List ℕ). take (length x - 1) x) (rule_printed scale names r e)

  less_with : (scale : Scale) (names : List (List ℕ)) (r s : Rule ℕ) → EachLabel KeepsText (only r.right) → EachLabel KeepsText (only s.right) → rule_cmp scale names labels r s ≡ Less → rule_cmp scale names others (rule_with f r) (rule_with f s) ≡ Less
  less_with scale names r s a b e =
      sym (ap (λ (x : List ℕ). ordering_then (nat_cmp r.left s.left) (slice_cmp nat_cmp x (line_of scale names labels s))) (line_printed scale names r a)
      ∙ ap (λ (x : List ℕ). ordering_then (nat_cmp r.left s.left) (slice_cmp nat_cmp (line_of scale names others (rule_with f r)) x)) (line_printed scale names s b))
      ∙ e

  module _ (apart : (i j : ℕ) → f i ≡ f j → i ≡ j) (scale : Scale) (g h : GrammarOf) (o : IsInOrder scale labels g h) where
    kept_with : (r : Rule ℕ) → Has (rules_with f h.rules) r → Has (rules_with f g.rules) r
    kept_with r k =
        let m = has_mapped (rule_with f) h.rules r k in
        subst (Has (rules_with f g.rules)) m.2 (mapped_has (rule_with f) g.rules m.0 (o.kept m.0 m.1))

    agree_from : (r s : Rule ℕ) → AgreeInSides (rule_with f r) (rule_with f s) → AgreeInSides r s
    agree_from r s a = record { left = a.left; right = side_told f apart r.right s.right a.right }

    least_with : (r s : Rule ℕ) → Has (rules_with f h.rules) r → Has (rules_with f g.rules) s → AgreeInSides r s → r.cost ≤ s.cost
    least_with r s k l a =
        let m = has_mapped (rule_with f) h.rules r k in
        let n = has_mapped (rule_with f) g.rules s l in
        let both : AgreeInSides (rule_with f m.0) (rule_with f n.0) = subst (λ (x : Rule ℕ). AgreeInSides x (rule_with f n.0)) (sym m.2) (subst (λ (x : Rule ℕ). AgreeInSides r x) (sym n.2) a) in
        let low : m.0.cost ≤ n.0.cost = o.least m.0 n.0 m.1 n.1 (agree_from m.0 n.0 both) in
        subst (λ (x : Rule ℕ). x.cost ≤ s.cost) m.2 (subst (λ (x : Rule ℕ). m.0.cost ≤ x.cost) n.2 low)

    whole_with : (r : Rule ℕ) → Has (rules_with f g.rules) r → HasSides (rules_with f h.rules) r
    whole_with r k =
        let m = has_mapped (rule_with f) g.rules r k in
        let w = o.whole m.0 m.1 in
        let agrees : AgreeInSides (rule_with f w.rule) (rule_with f m.0) = record { left = w.agrees.left; right = ap (side_with f) w.agrees.right } in
        record {
          rule = rule_with f w.rule;
          stands = mapped_has (rule_with f) h.rules w.rule w.stands;
          agrees = subst (λ (x : Rule ℕ). AgreeInSides (rule_with f w.rule) x) m.2 agrees;
        }

    pub order_with : EachLabelIn KeepsText h.rules → IsInOrder scale others (grammar_with f g) (grammar_with f h)
    order_with e = record {
      names = o.names;
      kept = kept_with;
      least = least_with;
      whole = whole_with;
      ascends =
          ascends_mapped (λ r s. rule_cmp scale h.names labels r s ≡ Less) (λ r s. rule_cmp scale h.names others r s ≡ Less) (rule_with f) h.rules
          (λ r s k l less. less_with scale h.names r s (e r k) (e s l) less) o.ascends;
    }
