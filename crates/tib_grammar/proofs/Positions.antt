-- What rules over positions of an order name.
use Rattle.std.specs.Prelude.{◌<◌, ℕ, List, [], ◌∷◌, ◌≡◌, refl, ◌++◌}
use Rattle.std.proofs.Common.{ap, ◌∙◌, sym, subst, inl, inr, append_assoc}
use Rattle.tib_lex.specs.Lists.{Each, Has}
use Rattle.tib_lex.proofs.Lists.{each_left, each_right, append_nil}
use Rattle.tib_lex.proofs.Members.{each_has, has_at, has_left, has_right, has_either}
use Rattle.tib_tree.specs.Trees.{Trees, none, tree, only, relabel}
use Rattle.tib_grammar.specs.Sides.{Symbol, label, hole, holes, symbol_map, side_map, holes_of}
use Rattle.tib_grammar.specs.Run.{rule_at, no_rule}
use Rattle.tib_grammar.specs.Range.{AllBelow, AreInRange}
use Rattle.tib_grammar.specs.declared.Rule.{Rule}
use Rattle.tib_grammar.specs.Positions.{states_in, positions_of, all_ends}
use Rattle.tib_grammar.specs.GrammarOf.{named_rule}
use Rattle.tib_grammar.proofs.Below.{below_append}

-- names that agree at the states of trees give the same trees
pub relabel_same : {K : Type 0} (f g : ℕ → K) (ts : Trees (Symbol ℕ ℕ)) → Each (λ q. f q ≡ g q) (states_in ts) → relabel (symbol_map f) ts ≡ relabel (symbol_map g) ts
relabel_same f g none h = refl
relabel_same f g (tree (label x) kids rest) h =
    ap (λ ks. tree (label x) ks (relabel (symbol_map f) rest)) (relabel_same f g kids (each_left (λ q. f q ≡ g q) (states_in kids) (states_in rest) h))
    ∙ ap (λ rs. tree (label x) (relabel (symbol_map g) kids) rs) (relabel_same f g rest (each_right (λ q. f q ≡ g q) (states_in kids) (states_in rest) h))
relabel_same f g (tree (hole q) kids rest) h =
    ap (λ k. tree (hole k) (relabel (symbol_map f) kids) (relabel (symbol_map f) rest)) h.0
    ∙ ap (λ ks. tree (hole (g q)) ks (relabel (symbol_map f) rest)) (relabel_same f g kids (each_left (λ q. f q ≡ g q) (states_in kids) (states_in rest) h.1))
    ∙ ap (λ rs. tree (hole (g q)) (relabel (symbol_map g) kids) rs) (relabel_same f g rest (each_right (λ q. f q ≡ g q) (states_in kids) (states_in rest) h.1))

-- and the same symbol at a root
pub symbol_same : {K : Type 0} (f g : ℕ → K) (s : Symbol ℕ ℕ) (kids : Trees (Symbol ℕ ℕ)) →
    Each (λ q. f q ≡ g q) (states_in (tree s kids none)) → symbol_map {A = ℕ} f s ≡ symbol_map g s
symbol_same f g (label x) kids h = refl
symbol_same f g (hole q) kids h = ap hole h.0

-- and the same trees below it
pub kids_same : {K : Type 0} (f g : ℕ → K) (s : Symbol ℕ ℕ) (kids : Trees (Symbol ℕ ℕ)) →
    Each (λ q. f q ≡ g q) (states_in (tree s kids none)) → relabel (symbol_map f) kids ≡ relabel (symbol_map g) kids
kids_same f g (label x) kids h = relabel_same f g kids (each_left (λ q. f q ≡ g q) (states_in kids) [] h)
kids_same f g (hole q) kids h = relabel_same f g kids (each_left (λ q. f q ≡ g q) (states_in kids) [] h.1)

-- names that agree at the states of a rule give the same rule
pub reads_positions : {K : Type 0} (r : Rule ℕ) (f g : ℕ → K) → Each (λ q. f q ≡ g q) (positions_of r) → named_rule f r ≡ named_rule g r
reads_positions r f g h =
    ap (λ k. record { left = k; right = side_map f r.right; cost = r.cost }) h.0
    ∙ ap (λ s. record { left = g r.left; right = record { label = s; kids = relabel (symbol_map f) r.right.kids }; cost = r.cost }) (symbol_same f g r.right.label r.right.kids h.1)
    ∙ ap (λ ks. record { left = g r.left; right = record { label = symbol_map g r.right.label; kids = ks }; cost = r.cost }) (kids_same f g r.right.label r.right.kids h.1)

-- states below n at the holes of trees are below n as a list
pub holes_below : (n : ℕ) (ts : Trees (Symbol ℕ ℕ)) → Each (λ q. q < n) (states_in ts) → AllBelow n (holes ts)
holes_below n none h = tt
holes_below n (tree (label x) kids rest) h =
    below_append n (holes kids) (holes rest) (holes_below n kids (each_left (λ q. q < n) (states_in kids) (states_in rest) h))
    (holes_below n rest (each_right (λ q. q < n) (states_in kids) (states_in rest) h))
holes_below n (tree (hole q) kids rest) h = (h.0, holes_below n rest (each_right (λ q. q < n) (states_in kids) (states_in rest) h.1))

-- rules whose states are below n are in range
pub rules_in_range : (n : ℕ) (rules : List (Rule ℕ)) → Each (λ r. Each (λ q. q < n) (positions_of r)) rules → AreInRange n rules
rules_in_range n rules below m h =
    let here : Each (λ q. q < n) (positions_of (rule_at rules m)) = each_has (λ rule. Each (λ q. q < n) (positions_of rule)) rules (rule_at rules m) below (has_at rules m no_rule h) in
    (here.0, holes_below n (only (rule_at rules m).right) here.1)

-- those of one rule more
pub all_ends-more : {K : Type 0} (es : List (Rule K)) (e : Rule K) → all_ends (es ++ e ∷ []) ≡ all_ends es ++ holes_of e.right
all_ends-more [] e = append_nil (holes_of e.right)
all_ends-more (x ∷ es) e = ap (λ ys. holes_of x.right ++ ys) (all_ends-more es e) ∙ sym (append_assoc (holes_of x.right) (all_ends es) (holes_of e.right))

-- each is one of some rule
pub has_end : {K : Type 0} (es : List (Rule K)) (k : K) → Has (all_ends es) k → (e : Rule K) × Has es e × Has (holes_of e.right) k
has_end [] k h = absurd h
has_end (e ∷ es) k h = elim (has_either (holes_of e.right) (all_ends es) k h) [
  | inl m ↦ (e, inl refl, m)
  | inr m ↦ let r = has_end es k m in (r.0, inr r.1, r.2)
]

-- and each of some rule is among them
pub end_has : {K : Type 0} (es : List (Rule K)) (e : Rule K) (k : K) → Has es e → Has (holes_of e.right) k → Has (all_ends es) k
end_has [] e k h m = absurd h
end_has (f ∷ es) e k h m = elim h [
  | inl same ↦ has_left (holes_of f.right) (all_ends es) k (subst (λ x. Has (holes_of x.right) k) (sym same) m)
  | inr n ↦ has_right (holes_of f.right) (all_ends es) k (end_has es e k n m)
]
