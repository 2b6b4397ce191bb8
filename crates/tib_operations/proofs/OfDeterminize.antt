-- What `determinize` writes: one text, and that there is none cannot be where all that is made is
-- within the limit.
use Rattle.tib_cost.specs.declared.Scale.{Scale}
use Rattle.std.proofs.Common.{◌≡◌, ℕ, ◌<◌, Bool, List, length, refl, sym, ap, ◌∙◌, subst, arith}
use Rattle.tib_lex.specs.Lists.{Distinct}
use Rattle.tib_cost.specs.Semiring.{ProductLaws}
use Rattle.tib_grammar.specs.Forms.{AreNormal}
use Rattle.tib_grammar.specs.GrammarOf.{GrammarOf}
use Rattle.tib_grammar.specs.Range.{AreInRange}
use Rattle.tib_grammar.specs.Series.{HasSameSeries}
use Rattle.tib_grammar.specs.declared.Rule.{Rule}
use Rattle.tib_grammar_file.specs.ByText.{AgreeByText}
use Rattle.tib_grammar_file.specs.Printable.{ArePrintable}
use Rattle.tib_grammar_file.specs.Printed.{grammar_text}
use Rattle.tib_grammar_file.proofs.Renumbering.{renumbering}
use Rattle.tib_expand.specs.Reached.{IsReachedSet}
use Rattle.tib_canon.specs.Constructions.{AreRulesOver, edges_over, IsCanonicalOf}
use Rattle.tib_canon.specs.Keys.{IsCanonicalOverKeys}
use Rattle.tib_canon.specs.TrimmedForms.{IsTrimmedForm}
use Rattle.tib_canon.specs.declared.begin.Begin.{Begin}
use Rattle.tib_canon.specs.declared.begin.Begin.TheVariants.{Fresh}
use Rattle.tib_canon.proofs.ConstructionExists.{edges_printed, fresh_there}
use Rattle.tib_canon.proofs.ConstructionOnce.{construction_once}
use Rattle.tib_canon.proofs.DeterministicForms.{fresh_form}
use Rattle.tib_canon.proofs.KeySeries.{fresh_series}
use Rattle.tib_determinize.specs.Determinization.{vector_cmp}
use Rattle.tib_determinize.specs.OneStep.{determinization_laws}
use Rattle.tib_determinize.specs.Started.{finals, started, IsSameSeries, StartedIsDeterministic}
use Rattle.tib_determinize.specs.VectorGrammar.{IsDeterminized, IsVectorGrammar}
use Rattle.tib_determinize.specs.Vectors.{VectorOf}
use Rattle.tib_determinize.proofs.Found.{vector_grammar}
use Rattle.tib_determinize.proofs.Starting.{same_series}
use Rattle.tib_determinize.proofs.WellStarted.{well_started}
use Rattle.tib_operations.specs.Determinize.{determinizing, IsDeterminizationOf, HasDeterminizedText}
use Rattle.tib_operations.specs.Made.{HasReachedFrom}
use Rattle.tib_operations.proofs.OfIntersect.{form_same, form_plain, form_is_normal}
use Rattle.tib_operations.proofs.PlainVectors.{vectors_plain}
use Rattle.tib_operations.proofs.ReadSound.{IsSound}
use Rattle.tib_operations.proofs.VectorsByText.{vectors_given}

-- one text

pub determinized_once :
    (scale : Scale) (product : ℕ → ℕ → ℕ) (limit : ℕ) (labels others : List (List ℕ)) (g h : GrammarOf) (text other : List ℕ) → Distinct labels → Distinct others → AgreeByText labels others g h →
    HasDeterminizedText scale product limit labels g text → HasDeterminizedText scale product limit others h other → text ≡ other
determinized_once scale product limit labels others g h text other apart different agree a b =
    let s = renumbering labels others apart different in
    let one = a.canonical.from in
    let two = b.canonical.from in
    a.are
    ∙ construction_once product scale limit labels others s.0 s.1 (determinizing product one) (determinizing product two) (determinization_laws product two.rules) (record {
      cmp = refl;
      spare = refl;
      begins = λ order x y i j. i ∙ sym j;
      reached = vectors_given product labels others s.0 s.1 g h one two agree a.canonical.is_made b.canonical.is_made;
    }) a.h b.h a.canonical.canonical b.canonical.canonical
    ∙ sym b.are

-- the canonical grammar of the vectors of a grammar in normal form is in deterministic form, and
-- has the series of the grammar
pub vectors_mean :
    (product : ℕ → ℕ → ℕ) (form : GrammarOf) (scale : Scale) (limit : ℕ) (labels : List (List ℕ)) (h : GrammarOf) → IsSameSeries product → StartedIsDeterministic product → AreNormal form.rules →
    IsCanonicalOf product scale labels limit (determinizing product form) h → IsDeterminizationOf product form.rules h.rules
vectors_mean product form scale limit labels h same well normal c =
    let found : IsDeterminized product form.rules c.order c.rules = record { reached = c.reached; in_range = c.rules_over.in_range } in
    let keys : IsCanonicalOverKeys product scale labels vector_cmp c.order c.rules (Fresh (finals 0 c.order)) h = subst (λ (z : Begin). IsCanonicalOverKeys product scale labels vector_cmp c.order c.rules z h) c.begun c.canonical in
    record {
      deterministic = fresh_form vector_cmp product scale labels c.order c.rules (finals 0 c.order) h keys (well form.rules c.order c.rules found).deterministic;
      series = λ t v.
          let a = same form.rules normal c.order c.rules found t v in
          let b = fresh_series vector_cmp product scale labels c.order c.rules (finals 0 c.order) h keys t v in
          (λ x. b.0 (a.0 x), λ x. a.1 (b.1 x));
    }

-- and that of what the normal form was made of
pub determinization_of_form :
    (product : ℕ → ℕ → ℕ) (g form : GrammarOf) (rules : List (Rule ℕ)) → HasSameSeries product g form → IsDeterminizationOf product form.rules rules → IsDeterminizationOf product g.rules rules
determinization_of_form product g form rules same d = record {
  deterministic = d.deterministic;
  series = λ t v. (λ x. (d.series t v).0 ((same t v).0 x), λ x. (same t v).1 ((d.series t v).1 x));
}

module _ {levelled weighed : Bool} {product : ℕ → ℕ → ℕ} (laws : ProductLaws levelled weighed product) where
  -- rules over the positions of an order of vectors that stand for the edges can be printed
  pub vectors_over :
      (scale : Scale) (labels : List (List ℕ)) (form : GrammarOf) → ArePrintable scale labels form.rules → (order : List VectorOf) (rules : List (Rule ℕ)) → IsDeterminized product form.rules order rules →
      AreRulesOver scale labels (length order) rules
  vectors_over scale labels form p order rules found =
      edges_printed scale labels (determinizing product form) (vectors_plain laws scale labels form p).edges order rules found.reached found.in_range

  series_kept : IsSameSeries product
  series_kept rules normal order new found = same_series laws rules normal order new (vector_grammar product rules order laws new found)

  well_kept : StartedIsDeterministic product
  well_kept rules order new found = well_started rules order new (vector_grammar product rules order laws new found)

  pub determinized_there :
      (scale : Scale) (limit : ℕ) → limit < 4294967296 → (labels : List (List ℕ)) → Distinct labels → (g : GrammarOf) → IsSound g → ArePrintable scale labels g.rules →
      HasReachedFrom limit (IsTrimmedForm product g) (determinizing product) → ((text : List ℕ) → HasDeterminizedText scale product limit labels g text → ⊥) → ⊥
  determinized_there scale limit low labels apart g s p w never =
      let form : GrammarOf = w.from in
      form_same laws g form s w.is_made (λ same.
      fresh_there scale labels (determinizing product form) (finals 0) (vectors_plain laws scale labels form (form_plain laws scale labels g form w.is_made p)) laws limit low apart w.set (λ h c read.
      never (grammar_text scale labels h) (record {
        h = h;
        canonical = record { from = form; is_made = w.is_made; canonical = c };
        series = determinization_of_form product g form h.rules same (vectors_mean product form scale limit labels h series_kept well_kept (form_is_normal laws g form w.is_made) c);
        are = refl;
        read = read;
      })))
