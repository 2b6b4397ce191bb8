-- The rules of derivations, made one by one, and their shape and classes.
use Rattle.std.specs.Prelude.{◌≡◌, ℕ, ◌+◌, ◌<◌, true, false, List, [], ◌∷◌, ◌++◌, length, take, Some, slice_get, refl}
use Rattle.std.proofs.Common.{zero, suc, arith, ap, sym, ◌∙◌, subst, inl, inr}
use Rattle.std.proofs.lemmas.List.{length-append, length-take, get_or_append_left, get_or-take}
use Rattle.tib_lex.specs.Lists.{Has, Each, Distinct}
use Rattle.tib_lex.proofs.Numbers.{below_cases}
use Rattle.tib_lex.proofs.Places.{last_is}
use Rattle.tib_tree.specs.Trees.{preorder_of}
use Rattle.tib_tree.specs.Grows.{Grows}
use Rattle.tib_grammar.specs.Sides.{Side, holes_of, over, leaves, labels_in}
use Rattle.tib_grammar.specs.Items.{pairs_of, holes_in}
use Rattle.tib_grammar.specs.declared.Item.{Item}
use Rattle.tib_grammar.specs.Run.{rule_at}
use Rattle.tib_grammar.specs.Range.{AllBelow, IsInRange, AreInRange}
use Rattle.tib_grammar.specs.declared.Rule.{Rule}
use Rattle.tib_grammar.proofs.Sides.{holes_of-over}
use Rattle.tib_grammar.proofs.Holes.{holes_of_items}
use Rattle.tib_transducer.specs.Rules.{transducer_rule, no_rule, variables_of}
use Rattle.tib_transducer.specs.Range.{AreNumbered, IsShaped, AreShaped, IsWithin, AreWithin}
use Rattle.tib_transducer.specs.Outside.{demands, Meets, AllMeet}
use Rattle.tib_transducer.specs.declared.Variable.{Variable}
use Rattle.tib_transducer.specs.declared.Pair.{Pair}
use Rattle.tib_transducer.specs.declared.TransducerRule.{TransducerRule}
use Rattle.tib_rulewise.specs.Placed.{placed_side, variables_from}
use Rattle.tib_rulewise.specs.Derivations.{rule_text, read_from, derivation_rule, IsDerivationRule, AreDerivationRules}
use Rattle.tib_rulewise.proofs.Placed.{numbered, length-variables, upward, each_variable, no_label}
use Rattle.tib_rulewise.proofs.DerivationRuns.{states_are, variables_are}

-- the rules over a table that grows
pub still_derived : (before now : List (List ℕ)) (rules : List (Rule ℕ)) (derived : List (TransducerRule ℕ)) → Grows before now → AreDerivationRules before rules derived → AreDerivationRules now rules derived
still_derived before now rules derived g a = record {
  many = a.many;
  each = λ n b. let x = a.each n b in record { root = x.root; named = g.kept x.root (rule_text (suc n)) x.named; is = x.is };
}

-- a rule of its parts
pub rule_made :
    (f count : ℕ) (r : Rule ℕ) (items : List (Item ℕ)) (left : Side ℕ Variable) (right : Side ℕ (Pair ℕ)) → pairs_of items ≡ preorder_of r.right → count ≡ length (holes_in items) →
    left ≡ over f (variables_from 0 count) → right ≡ placed_side read_from r.right →
    ◌≡◌ {A = TransducerRule ℕ} (record { state = r.left; left = left; right = right; cost = r.cost }) (derivation_rule f r)
rule_made f count r items left right is many reads outputs =
    let all : count ≡ length (holes_of r.right) = many ∙ ap length (sym (holes_of_items items r.right is)) in
    ap (λ (s : Side ℕ Variable). record { state = r.left; left = s; right = right; cost = r.cost }) (reads ∙ ap (λ n. over f (variables_from 0 n)) all)
    ∙ ap (λ (s : Side ℕ (Pair ℕ)). record { state = r.left; left = over f (variables_from 0 (length (holes_of r.right))); right = s; cost = r.cost }) outputs

-- no rules
pub none_derived : (labels : List (List ℕ)) (rules : List (Rule ℕ)) (derived : List (TransducerRule ℕ)) → derived ≡ [] → AreDerivationRules labels (take 0 rules) derived
none_derived labels rules derived e = record { many = ap length e; each = λ n b. absurd (omega (arith, b)) }

-- one more rule
pub derived_more :
    (before now : List (List ℕ)) (rules : List (Rule ℕ)) (i root number : ℕ) (r : Rule ℕ) (derived next : List (TransducerRule ℕ)) (d : TransducerRule ℕ) → i < length rules → r ≡ rule_at rules i →
    number ≡ i + 1 → Grows before now → slice_get now root ≡ Some (rule_text number) → d ≡ derivation_rule root r → next ≡ derived ++ d ∷ [] →
    AreDerivationRules before (take i rules) derived → AreDerivationRules now (take (i + 1) rules) next
derived_more before now rules i root number r derived next d b at count g named is e a =
    let long : length (take i rules) ≡ i = omega (arith, length-take i rules) in
    let longer : length (take (i + 1) rules) ≡ i + 1 = omega (arith, length-take (i + 1) rules) in
    subst (AreDerivationRules now (take (i + 1) rules)) (sym e) (record {
      many = omega (arith, length-append derived (d ∷ []), a.many);
      each = λ n h. elim (below_cases n i (omega (arith, h, longer))) [ inl low ↦ old n low | inr same ↦ new n same ];
    })
  where
    old : (n : ℕ) → n < i → IsDerivationRule now (suc n) (rule_at (take (i + 1) rules) n) (transducer_rule (derived ++ d ∷ []) n)
    old n low =
        let long : length (take i rules) ≡ i = omega (arith, length-take i rules) in
        let x = a.each n (omega arith) in
        let there : rule_at (take (i + 1) rules) n ≡ rule_at (take i rules) n = get_or-take (i + 1) rules n _ (omega arith) ∙ sym (get_or-take i rules n _ low) in
        let here : transducer_rule (derived ++ d ∷ []) n ≡ transducer_rule derived n = get_or_append_left derived (d ∷ []) no_rule n (omega (arith, a.many)) in
        record { root = x.root; named = g.kept x.root (rule_text (suc n)) x.named; is = here ∙ x.is ∙ ap (derivation_rule x.root) (sym there) }

    new : (n : ℕ) → n ≡ i → IsDerivationRule now (suc n) (rule_at (take (i + 1) rules) n) (transducer_rule (derived ++ d ∷ []) n)
    new n same =
        let long : length (take i rules) ≡ i = omega (arith, length-take i rules) in
        let text : number ≡ suc n = omega (arith, count, same) in
        let there : rule_at (take (i + 1) rules) n ≡ r = get_or-take (i + 1) rules n _ (omega arith) ∙ ap (rule_at rules) same ∙ sym at in
        let here : transducer_rule (derived ++ d ∷ []) n ≡ d = last_is derived d no_rule n (omega (arith, a.many, same)) in
        record { root = root; named = subst (λ m. slice_get now root ≡ Some (rule_text m)) text named; is = here ∙ is ∙ ap (derivation_rule root) (sym there) }

-- what a rule of derivations is

upward_below : (n many bound : ℕ) → n + many ≡ bound → Each (λ i. i < bound) (upward n many)
upward_below n zero bound e = tt
upward_below n (suc many) bound e = (omega arith, upward_below (suc n) many bound (omega arith))

not_upward : (n m many : ℕ) → n < m → Has (upward m many) n → ⊥
not_upward n m zero b h = h
not_upward n m (suc many) b h = elim h [ inl e ↦ omega (arith, e) | inr k ↦ not_upward n (suc m) many (omega arith) k ]

upward_once : (n many : ℕ) → Distinct (upward n many)
upward_once n zero = tt
upward_once n (suc many) = (not_upward n (suc n) many (omega arith), upward_once (suc n) many)

upward_has : (n many i : ℕ) → n < i + 1 → i < n + many → Has (upward n many) i
upward_has n zero i a b = absurd (omega arith)
upward_has n (suc many) i a b = elim (below_cases n i a) [
  | inl low ↦ inr (upward_has (suc n) many i (omega arith) (omega arith))
  | inr same ↦ inl same
]

no_labels : {P : Type 0} (ps : List P) → labels_in {A = ℕ} (leaves ps) ≡ 0
no_labels [] = refl
no_labels (p ∷ ps) = no_labels ps

module _ (root : ℕ) (r : Rule ℕ) where
  variables : variables_of (derivation_rule root r).left ≡ variables_from 0 (length (holes_of r.right))
  variables = holes_of-over root (variables_from 0 (length (holes_of r.right)))

  pub shaped : IsShaped (derivation_rule root r)
  shaped = record {
    begins = record { root = root; is_root = refl };
    numbered = subst (AreNumbered 0) (sym variables) (numbered 0 (length (holes_of r.right)));
    known = subst (Each (λ i. i < length (variables_of (derivation_rule root r).left))) (sym (variables_are r))
        (upward_below 0 (length (holes_of r.right)) (length (variables_of (derivation_rule root r).left))
        (omega (arith, ap length variables, length-variables 0 (length (holes_of r.right)))));
  }

  pub within : (states : ℕ) → IsInRange states r → IsWithin states (derivation_rule root r)
  within states h = (h.0, subst (AllBelow states) (sym (states_are r)) h.1)

  pub meets : Meets (demands true true true true false) (derivation_rule root r)
  meets = record {
    linear = λ _. subst Distinct (sym (variables_are r)) (upward_once 0 (length (holes_of r.right)));
    nondeleting = λ _.
        subst (λ (is : List ℕ). Each (λ x. Has is x.number) (variables_of (derivation_rule root r).left)) (sym (variables_are r))
        (subst (Each (λ (x : Variable). Has (upward 0 (length (holes_of r.right))) x.number)) (sym variables)
        (each_variable 0 (length (holes_of r.right)) (upward 0 (length (holes_of r.right))) (λ i a b. upward_has 0 (length (holes_of r.right)) i a b)));
    one_label = λ _ h. omega (arith, h, no_labels (variables_from 0 (length (holes_of r.right))));
    unlabelled = λ _ h. no_label 0 (length (holes_of r.right)) h.variable h.root (subst (λ vs. Has vs h.variable) variables h.stands) h.labelled;
    strict = λ e. absurd (cc);
  }

module _ (labels : List (List ℕ)) (rules : List (Rule ℕ)) (derived : List (TransducerRule ℕ)) (made : AreDerivationRules labels rules derived) where
  pub all_shaped : AreShaped derived
  all_shaped n b =
      let m = made.each n (omega (arith, b, made.many)) in
      subst IsShaped (sym m.is) (shaped m.root (rule_at rules n))

  pub all_within : (states : ℕ) → AreInRange states rules → AreWithin states derived
  all_within states h n b =
      let below : n < length rules = omega (arith, b, made.many) in
      let m = made.each n below in
      subst (IsWithin states) (sym m.is) (within m.root (rule_at rules n) states (h n below))

  pub all_meet : AllMeet (demands true true true true false) derived
  all_meet n b =
      let m = made.each n (omega (arith, b, made.many)) in
      subst (Meets (demands true true true true false)) (sym m.is) (meets m.root (rule_at rules n))
