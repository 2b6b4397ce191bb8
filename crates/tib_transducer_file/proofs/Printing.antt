-- Which rules have texts, and the text of equal ones.
use Rattle.tib_cost.specs.declared.Scale.{Scale}
use Rattle.std.proofs.Common.{◌≡◌, ℕ, ◌<◌, List, [], ◌∷◌, ◌++◌, length, get_or, refl, ap, sym, ◌∙◌, subst, arith, append-nil, Option, zero, suc}
use Rattle.std.specs.Prelude.{Result, map}
use Rattle.std.specs.List.{All}
use Rattle.tib_lex.specs.Lists.{Each}
use Rattle.tib_tree.specs.Trees.{Tree, Trees, none, tree, only, preorder, preorder_of, count}
use Rattle.tib_lex.proofs.Places.{any_default}
use Rattle.tib_grammar.specs.Sides.{Symbol, label, hole, holes, HolesAreLeaves}
use Rattle.tib_grammar.specs.Range.{AllBelow}
use Rattle.tib_io.specs.Writes.{SinkSeen}
use Rattle.tib_io.specs.Wrote.{Wrote}
use Rattle.tib_io.specs.Writing.{wrote_same}
use Rattle.tib_transducer.specs.Range.{AreWithin, EndsInHoles, EndInHoles, IsWithin as IsWithinRange}
use Rattle.tib_transducer.specs.Rules.{transducer_rule, no_rule}
use Rattle.tib_transducer.specs.TransducerOf.{TransducerOf}
use Rattle.tib_transducer.specs.declared.Variable.{Variable}
use Rattle.tib_transducer.specs.declared.Pair.{Pair}
use Rattle.tib_transducer.specs.declared.TransducerRule.{TransducerRule}
use Rattle.tib_transducer_file.specs.Printed.{rules_text, transducer_text}
use Rattle.tib_transducer_file.specs.Labelled.{IsBelowOnLeft, IsBelowOnRight, HasLabelsBelow, AreLabelled}
use Rattle.tib_transducer_file.specs.Within.{IsSymbolWithin, IsVariableWithin, IsPairWithin, IsRuleWithin}
use Rattle.tib_lex.proofs.Members.{each_at}

-- a left side needs its labels alone
left_symbol : (names labels : List (List ℕ)) (s : Symbol ℕ Variable) → IsBelowOnLeft (length labels) s → IsSymbolWithin (IsVariableWithin names labels) (length labels) s
left_symbol names labels (label f) h = h
left_symbol names labels (hole x) h = h

left_within : (names labels : List (List ℕ)) (ps : List (Symbol ℕ Variable × ℕ)) → Each (λ p. IsBelowOnLeft (length labels) p.0) ps → Each (λ p. IsSymbolWithin (IsVariableWithin names labels) (length labels) p.0) ps
left_within names labels [] h = tt
left_within names labels (p ∷ ps) h = (left_symbol names labels p.0 h.0, left_within names labels ps h.1)

-- a right side needs its labels and its states
abbrev states : List (Symbol ℕ (Pair ℕ) × ℕ) → List ℕ
states [] = []
states ((label f, rank) ∷ ps) = states ps
states ((hole x, rank) ∷ ps) = x.state ∷ states ps

states_split : (ps qs : List (Symbol ℕ (Pair ℕ) × ℕ)) → states (ps ++ qs) ≡ states ps ++ states qs
states_split [] qs = refl
states_split ((label f, rank) ∷ ps) qs = states_split ps qs
states_split ((hole x, rank) ∷ ps) qs = ap (λ (l : List ℕ). x.state ∷ l) (states_split ps qs)

abbrev states_at : Trees (Symbol ℕ (Pair ℕ)) → List ℕ
states_at ts = map (λ (x : Pair ℕ). x.state) (holes ts)

map_split : (xs ys : List (Pair ℕ)) → map (λ (x : Pair ℕ). x.state) (xs ++ ys) ≡ map (λ (x : Pair ℕ). x.state) xs ++ map (λ (x : Pair ℕ). x.state) ys
map_split [] ys = refl
map_split (x ∷ xs) ys = ap (λ (l : List ℕ). x.state ∷ l) (map_split xs ys)

states_are : (ts : Trees (Symbol ℕ (Pair ℕ))) → HolesAreLeaves ts → states (preorder ts) ≡ states_at ts
states_are none l = refl
states_are (tree (label f) kids rest) l =
    states_split (preorder kids) (preorder rest)
    ∙ ap (λ (l : List ℕ). l ++ states (preorder rest)) (states_are kids l.0)
    ∙ ap (λ (l : List ℕ). states_at kids ++ l) (states_are rest l.1)
    ∙ sym (map_split (holes kids) (holes rest))
states_are (tree (hole x) none rest) l = ap (λ (l : List ℕ). x.state ∷ l) (states_are rest l)
states_are (tree (hole x) (tree s kids more) rest) l = absurd l

right_within : (names labels : List (List ℕ)) (ps : List (Symbol ℕ (Pair ℕ) × ℕ)) → Each (λ p. IsBelowOnRight (length labels) p.0) ps → AllBelow (length names) (states ps) → Each (λ p. IsSymbolWithin (IsPairWithin names labels) (length labels) p.0) ps
right_within names labels [] h b = tt
right_within names labels ((label f, rank) ∷ ps) h b = (h.0, right_within names labels ps h.1 b)
right_within names labels ((hole x, rank) ∷ ps) h b = (b.0, right_within names labels ps h.1 b.1)

-- the preorder of a side
one_tree : (s : Tree (Symbol ℕ (Pair ℕ))) → preorder (only s) ≡ preorder_of s
one_tree s = ap (λ (xs : List (Symbol ℕ (Pair ℕ) × ℕ)). (s.label, count s.kids) ∷ xs) (append-nil (preorder s.kids))

rule_within : (names labels : List (List ℕ)) (rule : TransducerRule ℕ) → IsWithinRange (length names) rule → EndsInHoles rule → HasLabelsBelow (length labels) rule → IsRuleWithin names labels rule
rule_within names labels rule r l b = record {
  state = r.0;
  left = left_within names labels (preorder_of rule.left) b.left;
  right = right_within names labels (preorder_of rule.right) b.right (subst (λ (qs : List ℕ). AllBelow (length names) qs) (sym (ap states (sym (one_tree rule.right)) ∙ states_are (only rule.right) l.1)) r.1);
}

rules_within : (names labels : List (List ℕ)) (rules : List (TransducerRule ℕ)) → AreWithin (length names) rules → EndInHoles rules → AreLabelled (length labels) rules → All (IsRuleWithin names labels) rules
rules_within names labels rules r l b k d h =
    subst (λ (rule : TransducerRule ℕ). IsRuleWithin names labels rule) (any_default rules k no_rule d h) (rule_within names labels (transducer_rule rules k) (r k h) (l k h) (each_at (HasLabelsBelow (length labels)) rules k no_rule b h))

-- the same, of equal names and rules
pub transducer_within : (names labels others : List (List ℕ)) (rules all : List (TransducerRule ℕ)) → names ≡ others → rules ≡ all → AreWithin (length others) all → EndInHoles all → AreLabelled (length labels) all → All (IsRuleWithin names labels) rules
transducer_within names labels others rules all same are r l b =
    subst (λ (ns : List (List ℕ)). All (IsRuleWithin ns labels) rules) (sym same) (subst (λ (rs : List (TransducerRule ℕ)). All (IsRuleWithin others labels) rs) (sym are) (rules_within others labels all r l b))

pub transducer_same : {T E : Type 0} {a c : SinkSeen} {r : Result T E} (v u : Scale) (labels names : List (List ℕ)) (rules : List (TransducerRule ℕ)) (t : TransducerOf) → v ≡ u → names ≡ t.names → rules ≡ t.rules → Wrote a c ((get_or names 0 [] ++ 10 ∷ []) ++ rules_text v names labels rules) r → Wrote a c (transducer_text u labels t) r
transducer_same {T} {E} {a} {c} {r} v u labels names rules t e same are p =
    wrote_same a c ((get_or names 0 [] ++ 10 ∷ []) ++ rules_text v names labels rules) (transducer_text u labels t) r
    (ap (λ (b : Scale). (get_or names 0 [] ++ 10 ∷ []) ++ rules_text b names labels rules) e
    ∙ ap (λ (ns : List (List ℕ)). (get_or ns 0 [] ++ 10 ∷ []) ++ rules_text u ns labels rules) same
    ∙ ap (λ (rs : List (TransducerRule ℕ)). (get_or t.names 0 [] ++ 10 ∷ []) ++ rules_text u t.names labels rs) are) p
