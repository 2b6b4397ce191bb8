-- Transducers that have a text: their rules fit it.
use Rattle.tib_cost.specs.declared.Scale.{Scale}
use Rattle.std.proofs.Common.{◌≡◌, ℕ, ◌+◌, ◌<◌, ◌≤◌, List, [], ◌∷◌, ◌++◌, length, get_or, refl, ap, sym, ◌∙◌, subst, arith, suc}
use Rattle.std.specs.Prelude.{map}
use Rattle.tib_lex.specs.Lists.{Each}
use Rattle.tib_lex.proofs.Lists.{append_nil, each_parts}
use Rattle.tib_tree.specs.Trees.{Trees, none, tree, only, preorder}
use Rattle.tib_grammar.specs.Range.{AllBelow}
use Rattle.tib_grammar.specs.Sides.{Symbol, Side, label as symbol_label, hole, holes, HolesAreLeaves}
use Rattle.tib_grammar.specs.StateName.{IsStateName}
use Rattle.tib_grammar_file.proofs.PrintedRules.{Renames}
use Rattle.tib_transducer.specs.Range.{AreNumbered, IsShaped, IsWithin, EndsInHoles}
use Rattle.tib_transducer.specs.Rules.{states_in, transducer_rule}
use Rattle.tib_transducer.specs.TransducerOf.{TransducerOf}
use Rattle.tib_transducer.specs.declared.Variable.{Variable}
use Rattle.tib_transducer.specs.declared.Pair.{Pair}
use Rattle.tib_transducer.specs.declared.TransducerRule.{TransducerRule}
use Rattle.tib_transducer_file.specs.Rule.{RuleLine, rule_line_of, state_of}
use Rattle.tib_transducer_file.specs.TransducerText.{SpellsLine}
use Rattle.tib_transducer_file.specs.Value.{IsRule, states_in as states_written}
use Rattle.tib_transducer_file.specs.ByName.{IsPlainLabel, IsPlainOnLeft, IsPlainOnRight, IsPrintable, HasText, named_rule, line_text}
use Rattle.tib_transducer_file.specs.Printed.{label_text}
use Rattle.tib_grammar_file.proofs.PrintedTrees.{name_at_is}
use Rattle.tib_transducer_file.proofs.Tokens.{state_before}
use Rattle.tib_transducer_file.proofs.Forests.{Fits}
use Rattle.tib_transducer_file.proofs.LeftTokens.{IsVariablePlain}
use Rattle.tib_transducer_file.proofs.RightTokens.{IsPairPlain}
use Rattle.tib_transducer_file.proofs.RuleTokens.{parts_of, FitsRule, line_spelled}
use Rattle.tib_transducer_file.proofs.RuleMeaning.{rule_with, rule_meant, states_printed}

module _ {P : Type 0} (IsLabel : ℕ → Type 0) (IsLeaf : P → Type 0) (On : Symbol ℕ P → Type 0) (Q : P → Type 0) (labelled : (f : ℕ) → On (symbol_label f) → IsLabel f) (held : (p : P) → On (hole p) → Q p → IsLeaf p) where
  fits_of : (ts : Trees (Symbol ℕ P)) → HolesAreLeaves ts → Each (λ s. On s.0) (preorder ts) → Each Q (holes ts) → Fits IsLabel IsLeaf ts
  fits_of none h e q = tt
  fits_of (tree (symbol_label f) kids rest) h e q =
      let parts = each_parts (λ (s : Symbol ℕ P × ℕ). On s.0) (preorder kids) (preorder rest) e.1 in
      let hold = each_parts Q (holes kids) (holes rest) q in
      (labelled f e.0, fits_of kids h.0 parts.0 hold.0, fits_of rest h.1 parts.1 hold.1)
  fits_of (tree (hole p) none rest) h e q = (held p e.0 q.0, tt, fits_of rest h e.1 q.1)
  fits_of (tree (hole p) (tree s inner next) rest) h e q = absurd h

numbers_below : (k : ℕ) (xs : List Variable) → AreNumbered k xs → k + length xs ≤ 1000000000 → Each (λ (x : Variable). x.number < 1000000000) xs
numbers_below k [] h l = tt
numbers_below k (x ∷ xs) h l = (omega (arith, h.0, l), numbers_below (suc k) xs h.1 (omega arith))

pairs_below : (n m : ℕ) (xs : List (Pair ℕ)) → m ≤ 1000000000 → AllBelow n (map (λ x. x.state) xs) → Each (λ i. i < m) (map (λ x. x.variable) xs) → Each (IsPairPlain n m) xs
pairs_below n m [] l a v = tt
pairs_below n m (x ∷ xs) l a v = ((a.0, v.0, omega (arith, v.0)), pairs_below n m xs l a.1 v.1)

-- a rule whose left side begins with a label
with_fits : (scale : Scale) (names labels : List (List ℕ)) (state f : ℕ) (kids : Trees (Symbol ℕ Variable)) (right : Side ℕ (Pair ℕ)) (cost : ℕ) → (let r : TransducerRule ℕ = rule_with state f kids right cost in IsPrintable scale labels r → IsShaped r → IsWithin (length names) r → EndsInHoles r → FitsRule scale names labels state f kids right cost)
with_fits scale names labels state f kids right cost p s w l =
    let alone : holes kids ++ [] ≡ holes kids = append_nil (holes kids) in
    let numbered : AreNumbered 0 (holes kids) = subst (λ (xs : List Variable). AreNumbered 0 xs) alone s.numbered in
    let few : length (holes kids) ≤ 1000000000 = subst (λ (xs : List Variable). length xs ≤ 1000000000) alone p.few in
    let known : Each (λ i. i < length (holes kids)) (map (λ x. x.variable) (holes (only right))) = subst (λ (xs : List Variable). Each (λ i. i < length xs) (map (λ x. x.variable) (holes (only right)))) alone s.known in
    let nodes : preorder right.kids ++ [] ≡ preorder right.kids = append_nil (preorder right.kids) in
    record {
      state_is = w.0;
      label_is = p.left.0.0;
      left = fits_of (IsPlainLabel labels) (IsVariablePlain labels) (IsPlainOnLeft labels) (λ (x : Variable). x.number < 1000000000) (λ g h. h) (λ x h n. (n, h)) kids l.0.0 p.left.1 (numbers_below 0 (holes kids) numbered (omega (arith, few)));
      numbered = numbered;
      right_fits = fits_of (IsPlainLabel labels) (IsPairPlain (length names) (length (holes kids))) (IsPlainOnRight labels) (IsPairPlain (length names) (length (holes kids))) (λ g h. h) (λ x h q. q) (only right) l.1
          (p.right.0, subst (λ (ns : List (Symbol ℕ (Pair ℕ) × ℕ)). Each (λ s. IsPlainOnRight labels s.0) ns) (sym nodes) p.right.1)
          (pairs_below (length names) (length (holes kids)) (holes (only right)) few w.1 known);
      cost_is = p.cost;
    }

-- what a rule must be
pub record IsGood (scale : Scale) (names labels : List (List ℕ)) (r : TransducerRule ℕ) : Type 0 where
  pub printable : IsPrintable scale labels r
  pub shaped : IsShaped r
  pub within : IsWithin (length names) r
  pub leaves : EndsInHoles r

pub are_good : (scale : Scale) (labels : List (List ℕ)) (t : TransducerOf) → HasText scale labels t → Each (IsGood scale t.names labels) t.rules
are_good scale labels t h = along t.rules h.printable h.shaped h.range h.leaves
  where
    along : (rules : List (TransducerRule ℕ)) → Each (IsPrintable scale labels) rules → ((m : ℕ) → m < length rules → IsShaped (transducer_rule rules m)) → ((m : ℕ) → m < length rules → IsWithin (length t.names) (transducer_rule rules m)) → ((m : ℕ) → m < length rules → EndsInHoles (transducer_rule rules m)) → Each (IsGood scale t.names labels) rules
    along [] p s w l = tt
    along (r ∷ rules) p s w l = (
      record { printable = p.0; shaped = s 0 (omega arith); within = w 0 (omega arith); leaves = l 0 (omega arith) },
      along rules p.1 (λ m k. s (suc m) (omega arith)) (λ m k. w (suc m) (omega arith)) (λ m k. l (suc m) (omega arith)),
    )

-- the line of a rule, and what it says
pub record LineOf (scale : Scale) (names labels : List (List ℕ)) (r : TransducerRule ℕ) : Type 0 where
  pub line : RuleLine
  pub spells : SpellsLine scale (line_text scale names labels r) line
  pub means : (others : List (List ℕ)) (number : ℕ → ℕ) → Renames names others number → IsRule others labels (named_rule number r) line
  pub state : state_of line.parts ≡ get_or names r.state []
  pub states : states_written line.parts.right ≡ map (λ q. get_or names q []) (states_in r.right)

named_states : (names : List (List ℕ)) (xs : List (Pair ℕ)) → map (λ (x : Pair ℕ). get_or names x.state []) xs ≡ map (λ q. get_or names q []) (map (λ (x : Pair ℕ). x.state) xs)
named_states names [] = refl
named_states names (x ∷ xs) = ap (λ (ts : List (List ℕ)). get_or names x.state [] ∷ ts) (named_states names xs)

with_line : (scale : Scale) (names labels : List (List ℕ)) (state f : ℕ) (kids : Trees (Symbol ℕ Variable)) (right : Side ℕ (Pair ℕ)) (cost : ℕ) → Each IsStateName names → FitsRule scale names labels state f kids right cost → LineOf scale names labels (rule_with state f kids right cost)
with_line scale names labels state f kids right cost e fit = record {
  line = rule_line_of (parts_of scale names labels state f kids right cost) cost;
  spells = line_spelled scale names labels state f kids right cost e fit;
  means = λ others number n. rule_meant scale names others labels number state f kids right cost e n fit;
  state = state_before (get_or names state []) (label_text (get_or labels f [])) (name_at_is names state e fit.state_is).no_stop;
  states = states_printed names labels (length (holes kids)) (only right) e fit.right_fits ∙ named_states names (holes (only right));
}

rooted : (r : TransducerRule ℕ) (f : ℕ) → r.left.label ≡ symbol_label f → r ≡ rule_with r.state f r.left.kids r.right r.cost
rooted r f e = ap (λ (s : Symbol ℕ Variable). record { state = r.state; left = record { label = s; kids = r.left.kids }; right = r.right; cost = r.cost }) e

pub rule_fits : (scale : Scale) (names labels : List (List ℕ)) (r : TransducerRule ℕ) (g : IsGood scale names labels r) → FitsRule scale names labels r.state g.shaped.begins.root r.left.kids r.right r.cost
rule_fits scale names labels r g =
    let own = subst (IsGood scale names labels) (rooted r g.shaped.begins.root g.shaped.begins.is_root) g in
    with_fits scale names labels r.state g.shaped.begins.root r.left.kids r.right r.cost own.printable own.shaped own.within own.leaves

pub rule_line : (scale : Scale) (names labels : List (List ℕ)) (r : TransducerRule ℕ) → Each IsStateName names → IsGood scale names labels r → LineOf scale names labels r
rule_line scale names labels r e g =
    subst (LineOf scale names labels) (sym (rooted r g.shaped.begins.root g.shaped.begins.is_root))
    (with_line scale names labels r.state g.shaped.begins.root r.left.kids r.right r.cost e (rule_fits scale names labels r g))
