-- The trimmed normal forms of a grammar have the same rules.
use Rattle.std.proofs.Common.{◌≡◌, ℕ, ◌<◌, List, length, get_or, ap, sym, ◌∙◌, arith, inl, inr, ◌⊎◌}
use Rattle.tib_lex.specs.Lists.{Ascends, Distinct, IsReordering}
use Rattle.tib_grammar.specs.GrammarOf.{GrammarOf, named_rule}
use Rattle.tib_grammar.specs.Run.{rule_at, no_rule}
use Rattle.tib_grammar.specs.declared.Rule.{Rule}
use Rattle.tib_inside.specs.Trimmed.{IsTrimmed}
use Rattle.tib_inside.proofs.Chosen.{ascends_at}
use Rattle.tib_inside.proofs.Keeping.{as_many, named_at}
use Rattle.tib_canon.specs.TrimmedForms.{IsTrimmedForm}
use Rattle.tib_canon.proofs.NormalForms.{form_leaves, forms_alike}
use Rattle.tib_canon.proofs.TrimmedOnce.{place_told, trimmed_alike}
use Rattle.tib_lex.proofs.Members.{has_at, distinct_from}

abbrev Differ : Rule ℕ → Rule ℕ → Type 0
Differ r s = r.left ≡ s.left → r.right ≡ s.right → ⊥

before_or_after : (p q : ℕ) → (p ≡ q) ⊎ ((p < q) ⊎ (q < p))
before_or_after p q = grind arith

-- the positions of rules that differ in a side are determined by the rules
position_told : (rules : List (Rule ℕ)) (p q : ℕ) → Ascends Differ rules → p < length rules → q < length rules → rule_at rules p ≡ rule_at rules q → p ≡ q
position_told rules p q apart h k e = elim (before_or_after p q) [
  | inl same ↦ same
  | inr (inl l) ↦ absurd (ascends_at Differ rules no_rule apart p q l k (ap (λ (r : Rule ℕ). r.left) e) (ap (λ (r : Rule ℕ). r.right) e))
  | inr (inr l) ↦ absurd (ascends_at Differ rules no_rule apart q p l h (ap (λ (r : Rule ℕ). r.left) (sym e)) (ap (λ (r : Rule ℕ). r.right) (sym e)))
]

module _ (product : ℕ → ℕ → ℕ) (old new : GrammarOf) (trimmed : IsTrimmed product old new) where
  old_below : (j : ℕ) → j < length new.rules → get_or trimmed.rules j 0 < length old.rules
  old_below j h = ((trimmed.are_rules (get_or trimmed.rules j 0)).0 (has_at trimmed.rules j 0 (omega (arith, as_many product old new trimmed)))).0.below

  -- no rule that is kept is there twice
  kept_once : Ascends Differ old.rules → Distinct new.rules
  kept_once apart = distinct_from new.rules no_rule (λ i j h k e.
      place_told trimmed.rules i j trimmed.rules_ascend (omega (arith, as_many product old new trimmed)) (omega (arith, as_many product old new trimmed))
      (position_told old.rules (get_or trimmed.rules i 0) (get_or trimmed.rules j 0) apart (old_below i h) (old_below j k)
      (sym (named_at product old new trimmed i h) ∙ ap (named_rule (λ q. get_or trimmed.states q 0)) e ∙ named_at product old new trimmed j k)))

pub same_rules : (product : ℕ → ℕ → ℕ) (g m n : GrammarOf) → IsTrimmedForm product g m → IsTrimmedForm product g n → IsReordering m.rules n.rules
same_rules product g m n a b =
    let leaves = form_leaves product (length g.names) g.rules (length a.normal.names) a.normal.rules a.form in
    let others = form_leaves product (length g.names) g.rules (length b.normal.names) b.normal.rules b.form in
    let alike = forms_alike product (length g.names) g.rules (length a.normal.names) (length b.normal.names) a.normal.rules b.normal.rules a.form b.form in
    let same = trimmed_alike product a.normal b.normal m n leaves others alike a.trimmed b.trimmed in
    record {
      to = same.1.to;
      from = same.1.from;
      once_first = kept_once product a.normal m a.trimmed a.form.distinct;
      once_second = kept_once product b.normal n b.trimmed b.form.distinct;
    }
