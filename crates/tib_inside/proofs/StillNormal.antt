-- A grammar in normal form is in normal form when it is trimmed.
use Rattle.std.specs.Prelude.{◌≡◌, ℕ, ◌<◌, ◌≤◌, ◌⊎◌, length}
use Rattle.std.proofs.Common.{arith, ap, sym, ◌∙◌, subst, inl, inr, get_or}
use Rattle.tib_tree.specs.Trees.{Tree, Trees, none, tree, relabel}
use Rattle.tib_grammar.specs.Sides.{Symbol, label, hole, AreHoles, symbol_map, side_map}
use Rattle.tib_grammar.specs.Forms.{IsNormalSide, IsLabel}
use Rattle.tib_grammar.specs.Run.{rule_at, no_rule}
use Rattle.tib_grammar.specs.GrammarOf.{GrammarOf}
use Rattle.tib_grammar.specs.declared.Rule.{Rule}
use Rattle.tib_grammar.proofs.Members.{has_at}
use Rattle.tib_normal.specs.Rules.{IsNormal}
use Rattle.tib_inside.specs.Trimmed.{IsTrimmed}
use Rattle.tib_inside.proofs.Chosen.{ascends_at, ascends_from}
use Rattle.tib_inside.proofs.Keeping.{as_many, named_at}

holes_back : (g : ℕ → ℕ) (ts : Trees (Symbol ℕ ℕ)) → AreHoles (relabel (symbol_map g) ts) → AreHoles ts
holes_back g none h = tt
holes_back g (tree (label f) kids rest) h = absurd h
holes_back g (tree (hole p) kids rest) h = holes_back g rest h

label_back : (g : ℕ → ℕ) (s : Symbol ℕ ℕ) → IsLabel (symbol_map g s) → IsLabel s
label_back g (label f) h = tt
label_back g (hole p) h = absurd h

-- where a side with other states is one label over states, so is the side
pub side_normal : (g : ℕ → ℕ) (s : Tree (Symbol ℕ ℕ)) → IsNormalSide (side_map g s) → IsNormalSide s
side_normal g s h = record { is_label = label_back g s.label h.is_label; are_holes = holes_back g s.kids h.are_holes }

module _ (product : ℕ → ℕ → ℕ) (old new : GrammarOf) (trimmed : IsTrimmed product old new) (normal : IsNormal old.rules) where
  old_below : (j : ℕ) → j < length new.rules → get_or trimmed.rules j 0 < length old.rules
  old_below j h = ((trimmed.are_rules (get_or trimmed.rules j 0)).0 (has_at trimmed.rules j 0 (omega (arith, as_many product old new trimmed)))).0.below

  old_before : (i j : ℕ) → i < j → j < length new.rules → get_or trimmed.rules i 0 < get_or trimmed.rules j 0
  old_before i j h k = ascends_at ◌<◌ trimmed.rules 0 trimmed.rules_ascend i j h (omega (arith, as_many product old new trimmed))

  place : (i k : ℕ) → (i ≤ k) ⊎ (k < i)
  place i k = grind arith

  state_before : (a b : ℕ) → a < length trimmed.states → get_or trimmed.states a 0 ≤ get_or trimmed.states b 0 → a ≤ b
  state_before a b h e = elim (place a b) [
    | inl k ↦ k
    | inr k ↦ let l : get_or trimmed.states b 0 < get_or trimmed.states a 0 = ascends_at ◌<◌ trimmed.states 0 trimmed.states_ascend b a k h in absurd (omega arith)
  ]

  pub still_normal : IsNormal new.rules
  still_normal = record {
    normal = λ j h. side_normal (λ i. get_or trimmed.states i 0) (rule_at new.rules j).right
        (subst (λ (r : Rule ℕ). IsNormalSide r.right) (sym (named_at product old new trimmed j h)) (normal.normal (get_or trimmed.rules j 0) (old_below j h)));
    ascends = ascends_from (λ r s. r.left ≤ s.left) new.rules no_rule (λ i j h k.
        let one = ap (λ (r : Rule ℕ). r.left) (named_at product old new trimmed i (omega arith)) in
        let two = ap (λ (r : Rule ℕ). r.left) (named_at product old new trimmed j k) in
        let between : (rule_at old.rules (get_or trimmed.rules i 0)).left ≤ (rule_at old.rules (get_or trimmed.rules j 0)).left =
        ascends_at (λ r s. r.left ≤ s.left) old.rules no_rule normal.ascends (get_or trimmed.rules i 0) (get_or trimmed.rules j 0) (old_before i j h k) (old_below j k) in
        state_before (rule_at new.rules i).left (rule_at new.rules j).left (trimmed.in_range i (omega arith)).0 (omega (arith, one, two)));
    distinct = ascends_from (λ r s. r.left ≡ s.left → r.right ≡ s.right → ⊥) new.rules no_rule (λ i j h k left right.
        let one = named_at product old new trimmed i (omega arith) in
        let two = named_at product old new trimmed j k in
        ascends_at (λ r s. r.left ≡ s.left → r.right ≡ s.right → ⊥) old.rules no_rule normal.distinct (get_or trimmed.rules i 0) (get_or trimmed.rules j 0) (old_before i j h k) (old_below j k)
        (sym (ap (λ (r : Rule ℕ). r.left) one) ∙ ap (λ q. get_or trimmed.states q 0) left ∙ ap (λ (r : Rule ℕ). r.left) two)
        (sym (ap (λ (r : Rule ℕ). r.right) one) ∙ ap (side_map (λ q. get_or trimmed.states q 0)) right ∙ ap (λ (r : Rule ℕ). r.right) two));
  }
