-- Where rules cost nothing, trimmed normal forms and canonical forms cost nothing; and each state
-- in their right sides has a run.
use Rattle.std.specs.Prelude.{◌≡◌, ℕ, ◌<◌, max, List, length, map, Bool}
use Rattle.std.specs.declared.cmp.Ordering.{Ordering}
use Rattle.std.proofs.Common.{suc, arith, ap, sym, ◌∙◌, get_or, inl, inr}
use Rattle.tib_cost.specs.declared.Scale.{Scale}
use Rattle.tib_cost.specs.Semiring.{ProductLaws}
use Rattle.tib_lex.specs.Lists.{Each}
use Rattle.tib_lex.proofs.Lists.{has_mapped}
use Rattle.tib_lex.proofs.Members.{has_at, at_has, has_either, each_has}
use Rattle.tib_grammar.specs.GrammarOf.{GrammarOf, named_rule}
use Rattle.tib_grammar.specs.Range.{AreInRange, SidesEndInHoles}
use Rattle.tib_grammar.specs.Run.{rule_at, no_rule, AreFree}
use Rattle.tib_grammar.specs.declared.Rule.{Rule}
use Rattle.tib_normal.proofs.Forming.{form_range}
use Rattle.tib_canon.specs.Canonical.{IsCanonical}
use Rattle.tib_canon.specs.Keys.{IsBegun, IsCanonicalOverKeys, begun_rules, started_rules, chain_to, behind_fresh}
use Rattle.tib_canon.specs.TrimmedForms.{IsTrimmedForm}
use Rattle.tib_canon.specs.declared.begin.Begin.{Begin}
use Rattle.tib_canon.specs.declared.begin.Begin.TheVariants.{At, Fresh, Empty}
use Rattle.tib_canon.proofs.CanonicalTexts.{are_lone}
use Rattle.tib_count.specs.Counted.{HaveRuns}
use Rattle.tib_count.proofs.CarriedRuns.{HasSidesOf, still_have_runs}
use Rattle.tib_count.proofs.FreeForms.{each_free, are_free, renamed_free, form_free}
use Rattle.tib_count.proofs.UsefulRuns.{trimmed_free, trimmed_have_runs}

-- where rules cost nothing, so do their trimmed normal form and their canonical form
pub trimmed_form_free : (g m : GrammarOf) → AreFree g.rules → IsTrimmedForm max g m → AreFree m.rules
trimmed_form_free g m free form =
    trimmed_free max form.normal m form.trimmed (form_free g.rules free (length g.names) (length form.normal.names) form.normal.rules form.form)

pub canonical_free : (scale : Scale) (labels : List (List ℕ)) (g h : GrammarOf) → AreFree g.rules → IsCanonical max scale labels g h → AreFree h.rules
canonical_free scale labels g h free canonical =
    are_free h.rules (λ r s. each_free canonical.trimmed.rules (trimmed_free max g canonical.trimmed canonical.is_trimmed free) r (canonical.in_order.kept r s))

-- rules with a fresh start
pub started_free : (finals : List (ℕ × ℕ)) (rules : List (Rule ℕ)) → Each (λ final. final.1 ≡ 0) finals → AreFree rules → AreFree (started_rules finals rules)
started_free finals rules finals_free free =
    are_free (started_rules finals rules) (λ r h. elim (has_either (map chain_to finals) (map (named_rule suc) rules) r h) [
      | inl k ↦
          let m = has_mapped chain_to finals r k in
          ap (λ (x : Rule ℕ). x.cost) (sym m.2) ∙ each_has (λ final. final.1 ≡ 0) finals m.0 finals_free m.1
      | inr k ↦
          let m = has_mapped (named_rule suc) rules r k in
          ap (λ (x : Rule ℕ). x.cost) (sym m.2) ∙ each_free rules free m.0 m.1
    ])

-- a grammar over keys
pub begun_free :
    {K : Type 0} (cmp : K → K → Ordering) (order : List K) (rules : List (Rule ℕ)) (begin : Begin) (over : GrammarOf) → IsBegun cmp order rules begin over →
    AreFree (begun_rules begin rules) → AreFree over.rules
begun_free cmp order rules (At position) over begun free = renamed_free (λ i. get_or begun.states i 0) over.rules rules begun.named free
begun_free cmp order rules (Fresh finals) over begun free = renamed_free (λ i. get_or begun.states i 0) over.rules (started_rules finals rules) begun.named free
begun_free cmp order rules Empty over begun free = λ n h. absurd (omega (arith, h, ap (λ (x : GrammarOf). length x.rules) begun))

pub over_keys_free :
    {K : Type 0} (scale : Scale) (labels : List (List ℕ)) (cmp : K → K → Ordering) (order : List K) (rules : List (Rule ℕ)) (begin : Begin) (h : GrammarOf) →
    AreFree (begun_rules begin rules) → IsCanonicalOverKeys max scale labels cmp order rules begin h → AreFree h.rules
over_keys_free scale labels cmp order rules begin h free c =
    canonical_free scale labels c.over h (begun_free cmp order rules begin c.over c.begun free) c.canonical

-- a grammar over keys is in range
begun_range :
    {K : Type 0} (cmp : K → K → Ordering) (order : List K) (rules : List (Rule ℕ)) (begin : Begin) (over : GrammarOf) → IsBegun cmp order rules begin over →
    (count : ℕ) × AreInRange count over.rules
begun_range cmp order rules (At position) over begun = (length order, begun.in_range)
begun_range cmp order rules (Fresh finals) over begun = (length (behind_fresh order), begun.in_range)
begun_range cmp order rules Empty over begun = (0, λ n h. absurd (omega (arith, h, ap (λ (x : GrammarOf). length x.rules) begun)))

module _ {levelled weighted : Bool} {product : ℕ → ℕ → ℕ} (laws : ProductLaws levelled weighted product) where
  -- each state in a right side of a trimmed normal form has a run
  pub trimmed_form_has_runs : (g m : GrammarOf) → AreInRange (length g.names) g.rules → SidesEndInHoles g.rules → IsTrimmedForm product g m → HaveRuns m.rules
  trimmed_form_has_runs g m range leaves form =
      trimmed_have_runs laws form.normal m form.trimmed (length form.normal.names)
      (form_range product (length g.names) g.rules (length form.normal.names) form.normal.rules form.form range (are_lone g.rules leaves))

  -- and one of a canonical form
  module _ (scale : Scale) (labels : List (List ℕ)) where
    module _ (g h : GrammarOf) (canonical : IsCanonical product scale labels g h) where
      in_canonical : (n : ℕ) → n < length canonical.trimmed.rules → HasSidesOf canonical.trimmed.rules h.rules n
      in_canonical n b =
          let s = canonical.in_order.whole (rule_at canonical.trimmed.rules n) (has_at canonical.trimmed.rules n no_rule b) in
          let at = at_has h.rules s.rule no_rule s.stands in
          record {
            rule = at.0;
            below = at.1;
            left = ap (λ (r : Rule ℕ). r.left) at.2 ∙ s.agrees.left;
            right = ap (λ (r : Rule ℕ). r.right) at.2 ∙ s.agrees.right;
          }

      in_trimmed : (n : ℕ) → n < length h.rules → HasSidesOf h.rules canonical.trimmed.rules n
      in_trimmed n b =
          let at = at_has canonical.trimmed.rules (rule_at h.rules n) no_rule (canonical.in_order.kept (rule_at h.rules n) (has_at h.rules n no_rule b)) in
          record { rule = at.0; below = at.1; left = ap (λ (r : Rule ℕ). r.left) at.2; right = ap (λ (r : Rule ℕ). r.right) at.2 }

      pub canonical_has_runs : (count : ℕ) → AreInRange count g.rules → HaveRuns h.rules
      canonical_has_runs count range =
          still_have_runs canonical.trimmed.rules h.rules in_canonical in_trimmed (trimmed_have_runs laws g canonical.trimmed canonical.is_trimmed count range)

    pub over_keys_have_runs :
        {K : Type 0} (cmp : K → K → Ordering) (order : List K) (rules : List (Rule ℕ)) (begin : Begin) (h : GrammarOf) →
        IsCanonicalOverKeys product scale labels cmp order rules begin h → HaveRuns h.rules
    over_keys_have_runs cmp order rules begin h c =
        let range = begun_range cmp order rules begin c.over c.begun in
        canonical_has_runs c.over h c.canonical range.0 range.1
