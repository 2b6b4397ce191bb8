-- What `normal` writes: one text, and that there is none cannot be where the normal form is within
-- the limit.
use Rattle.tib_cost.specs.declared.Scale.{Scale}
use Rattle.std.proofs.Common.{◌≡◌, ℕ, ◌<◌, ◌≤◌, Bool, List, length, refl, sym, ◌∙◌, subst, arith}
use Rattle.tib_lex.specs.Lists.{Distinct}
use Rattle.tib_cost.specs.Semiring.{ProductLaws}
use Rattle.tib_grammar.specs.GrammarOf.{GrammarOf}
use Rattle.tib_grammar_file.specs.ByText.{AgreeByText}
use Rattle.tib_grammar_file.specs.Printable.{ArePrintable}
use Rattle.tib_grammar_file.specs.Printed.{grammar_text}
use Rattle.tib_normal.specs.NormalForm.{IsNormalForm, normal_parts}
use Rattle.tib_normal.specs.Rows.{HasFormWithin}
use Rattle.tib_normal.proofs.Forming.{form_range}
use Rattle.tib_normal.proofs.Normalizing.{normalized}
use Rattle.tib_canon.specs.Canonical.{names_of}
use Rattle.tib_canon.proofs.CanonicalByText.{one_canonical_text}
use Rattle.tib_canon.proofs.CanonicalExists.{canonical_there}
use Rattle.tib_canon.proofs.CanonicalTexts.{are_lone, normal_text}
use Rattle.tib_canon.proofs.NormalForms.{form_leaves}
use Rattle.tib_canon.proofs.One.{series_on}
use Rattle.tib_canon.proofs.PrintableRules.{form_printable}
use Rattle.tib_canon.proofs.StateNames.{length-names_of}
use Rattle.tib_operations.specs.Normal.{HasNormalText}
use Rattle.tib_operations.proofs.ReadSound.{IsSound}
use Rattle.tib_grammar.specs.Series.{HasSameSeries}

pub normal_once :
    (scale : Scale) (product : ℕ → ℕ → ℕ) (limit : ℕ) (labels others : List (List ℕ)) (g h : GrammarOf) (text other : List ℕ) → Distinct labels → Distinct others → AgreeByText labels others g h →
    HasNormalText scale product limit labels g text → HasNormalText scale product limit others h other → text ≡ other
normal_once scale product limit labels others g h text other apart different agree a b =
    a.are
    ∙ one_canonical_text product scale labels others g h a.canonical.normal b.canonical.normal a.h b.h apart different agree a.canonical.form b.canonical.form a.canonical.canonical b.canonical.canonical
    ∙ sym b.are

module _ {levelled weighed : Bool} {product : ℕ → ℕ → ℕ} (laws : ProductLaws levelled weighed product) where
  -- a normal form has the series of the grammar
  pub form_series : (g m : GrammarOf) → IsSound g → IsNormalForm product (length g.names) g.rules (length m.names) m.rules → HasSameSeries product g m
  form_series g m s form = normalized laws (length g.names) g.rules s.range (are_lone g.rules s.leaves) (length m.names) m.rules form 0 s.start

  module _ (scale : Scale) (limit : ℕ) (low : limit < 4294967296) (labels : List (List ℕ)) (apart : Distinct labels) (g : GrammarOf) (s : IsSound g) (printable : ArePrintable scale labels g.rules) where
    of_form :
        (m : GrammarOf) → IsNormalForm product (length g.names) g.rules (length m.names) m.rules → normal_parts (length m.names) m.rules ≤ limit →
        ((text : List ℕ) → HasNormalText scale product limit labels g text → ⊥) → ⊥
    of_form m form within never =
        let few : length m.names ≤ 4294967296 = omega (arith, low, within) in
        canonical_there laws scale labels m (omega (arith, form.counted, s.start)) few
        (form_range product (length g.names) g.rules (length m.names) m.rules form s.range (are_lone g.rules s.leaves))
        (form_leaves product (length g.names) g.rules (length m.names) m.rules form) apart
        (form_printable product (laws.neutral 0) scale labels (length g.names) g.rules printable (length m.names) m.rules form) (λ h c same.
        never (grammar_text scale labels h) (record {
          h = h;
          canonical = record { normal = m; form = form; within = within; canonical = c };
          series = series_on product g m h (form_series g m s form) same;
          are = refl;
          read = normal_text laws scale labels g m h s.start few s.range s.leaves printable form c;
        }))

    -- a normal form within the limit, under names of its own
    pub normal_there : HasFormWithin product (length g.names) g.rules limit → ((text : List ℕ) → HasNormalText scale product limit labels g text → ⊥) → ⊥
    normal_there w =
        let many : w.states_in_all ≡ length (names_of w.states_in_all) = sym (length-names_of w.states_in_all) in
        of_form (record { names = names_of w.states_in_all; rules = w.normal_rules })
        (subst (λ n. IsNormalForm product (length g.names) g.rules n w.normal_rules) many w.form) (subst (λ n. normal_parts n w.normal_rules ≤ limit) many w.within)
