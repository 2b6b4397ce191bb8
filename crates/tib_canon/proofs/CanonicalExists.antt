-- Each grammar that can be printed has a canonical form: it is impossible that it has none.
use Rattle.tib_cost.specs.declared.Scale.{Scale}
use Rattle.tib_cost.specs.declared.Scale.TheVariants as scales
use Rattle.std.proofs.Common.{◌≡◌, ℕ, ◌<◌, ◌≤◌, Bool, List, length, sym, subst, arith}
use Rattle.tib_lex.specs.Lists.{Has, Distinct}
use Rattle.tib_grammar.specs.GrammarOf.{GrammarOf}
use Rattle.tib_grammar.specs.Range.{AreInRange, SidesEndInHoles}
use Rattle.tib_grammar.specs.Run.{no_rule}
use Rattle.tib_grammar.specs.declared.Rule.{Rule}
use Rattle.tib_grammar_file.specs.Printable.{IsPlainCost, ArePrintable}
use Rattle.tib_grammar_file.proofs.Plain.{are_labelled}
use Rattle.tib_cost.specs.Semiring.{ProductLaws, most}
use Rattle.tib_inside.specs.Settling.{costs_in}
use Rattle.tib_inside.specs.Trimmed.{IsTrimmed}
use Rattle.tib_inside.proofs.Keeping.{kept}
use Rattle.tib_inside.proofs.Living.{insides_all}
use Rattle.tib_canon.specs.Canonical.{names_of, IsInOrder, IsCanonical}
use Rattle.tib_canon.proofs.CanonicalTexts.{trimmed_leaves}
use Rattle.tib_canon.proofs.Inhabited.{insides_are, few_states}
use Rattle.tib_canon.proofs.One.{series_kept, series_on}
use Rattle.tib_canon.proofs.OrderExists.{order_there}
use Rattle.tib_canon.proofs.PrintableRules.{trimmed_printable}
use Rattle.tib_canon.proofs.StateNames.{are_state_names}
use Rattle.tib_canon.proofs.Telling.{IsSafe}
use Rattle.tib_canon.proofs.TrimmedExist.{trimmed_there}
use Rattle.tib_canon.proofs.TrimmedOnce.{names_long}
use Rattle.tib_canon.proofs.Within.{rules_safe}
use Rattle.tib_lex.proofs.Members.{at_has}
use Rattle.tib_grammar.specs.Series.{HasSameSeries}

plain_within : (scale : Scale) (cost : ℕ) → IsPlainCost scale cost → cost ≤ most
plain_within scales.Plain cost h = h
plain_within scales.Reversed cost h = h
plain_within scales.Unweighted cost h = omega (arith, h)

-- each rule of a grammar that can be printed has a text
safe_of :
    (scale : Scale) (labels : List (List ℕ)) (g : GrammarOf) → AreInRange (length g.names) g.rules → SidesEndInHoles g.rules → ArePrintable scale labels g.rules →
    (r : Rule ℕ) → Has g.rules r → IsSafe (names_of (length g.names)) labels r
safe_of scale labels g range leaves printable r h =
    let at = at_has g.rules r no_rule h in
    subst (IsSafe (names_of (length g.names)) labels) at.2
    (rules_safe (length g.names) labels g.rules range leaves (are_labelled scale labels g.rules printable) at.0 at.1 (plain_within scale _ (printable at.0 at.1).cost))

-- trimming keeps the series
pub trimmed_series :
    {levelled weighed : Bool} {product : ℕ → ℕ → ℕ} → ProductLaws levelled weighed product → (g t : GrammarOf) → AreInRange (length g.names) g.rules → IsTrimmed product g t →
    (HasSameSeries product g t → ⊥) → ⊥
trimmed_series {product = product} laws g t range trimmed k =
    insides_are product g.rules (length g.names) (λ costs long are.
    k (kept laws g t (costs_in costs) (insides_all product g.rules costs (subst (λ n. AreInRange n g.rules) (sym long) range) are) trimmed))

module _
    {levelled weighed : Bool} {product : ℕ → ℕ → ℕ} (laws : ProductLaws levelled weighed product) (scale : Scale) (labels : List (List ℕ)) (g : GrammarOf) (some : 0 < length g.names)
    (few : length g.names ≤ 4294967296) (range : AreInRange (length g.names) g.rules) (leaves : SidesEndInHoles g.rules) (apart : Distinct labels) (printable : ArePrintable scale labels g.rules) where
  trimmed_order : (t : GrammarOf) → IsTrimmed product g t → ((h : GrammarOf) → IsInOrder scale labels t h → ⊥) → ⊥
  trimmed_order t trimmed =
      let long : length t.names ≡ length trimmed.states = names_long product g t trimmed in
      let small : length t.names ≤ 4294967296 = omega (arith, long, few_states laws g t trimmed (length g.names) some range, few) in
      order_there scale labels t (are_state_names (length t.names) small) apart
      (safe_of scale labels t (subst (λ n. AreInRange n t.rules) (sym long) trimmed.in_range) (trimmed_leaves product g t trimmed leaves) (trimmed_printable scale labels product g t trimmed printable))

  pub canonical_there : ((h : GrammarOf) → IsCanonical product scale labels g h → HasSameSeries product g h → ⊥) → ⊥
  canonical_there k =
      trimmed_there product g (length g.names) some range leaves (λ t trimmed.
      trimmed_series laws g t range trimmed (λ same.
      trimmed_order t trimmed (λ h order.
      k h (record { trimmed = t; is_trimmed = trimmed; in_order = order }) (series_on product g t h same (series_kept laws scale labels t h order)))))
