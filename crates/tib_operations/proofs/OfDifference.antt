-- What `difference` writes: one text, and that there is none cannot be where all that is made is
-- within the limit.
use Rattle.tib_cost.specs.declared.Scale.{Scale}
use Rattle.tib_cost.specs.declared.Scale.TheVariants.{Unweighted}
use Rattle.std.proofs.Common.{◌≡◌, ℕ, ◌<◌, max, Bool, List, length, refl, sym, ◌∙◌, subst}
use Rattle.std.specs.Prelude.{◌↔◌}
use Rattle.tib_lex.specs.Lists.{Distinct}
use Rattle.tib_cost.specs.Semiring.{ProductLaws, boolean_laws}
use Rattle.tib_tree.specs.Trees.{Tree}
use Rattle.tib_grammar.specs.Forms.{AreNormal}
use Rattle.tib_grammar.specs.GrammarOf.{GrammarOf}
use Rattle.tib_grammar.specs.Series.{HasSameSeries}
use Rattle.tib_grammar.specs.declared.Rule.{Rule}
use Rattle.tib_grammar_file.specs.ByText.{AgreeByText}
use Rattle.tib_grammar_file.specs.Printable.{ArePrintable}
use Rattle.tib_grammar_file.specs.Printed.{grammar_text}
use Rattle.tib_grammar_file.proofs.Renumbering.{renumbering}
use Rattle.tib_canon.specs.Constructions.{AreRulesOver, IsCanonicalOf}
use Rattle.tib_canon.specs.Keys.{IsCanonicalOverKeys}
use Rattle.tib_canon.specs.declared.begin.Begin.{Begin}
use Rattle.tib_canon.specs.declared.begin.Begin.TheVariants.{Fresh}
use Rattle.tib_canon.proofs.ConstructionExists.{edges_printed, fresh_there}
use Rattle.tib_canon.proofs.ConstructionOnce.{construction_once}
use Rattle.tib_canon.proofs.KeySeries.{fresh_series}
use Rattle.tib_difference.specs.Difference.{KeyOf, key_cmp}
use Rattle.tib_difference.specs.OneEdge.{difference_laws}
use Rattle.tib_difference.specs.Series.{HasRun, HasDifferenceSeries, finals, IsReachedGrammar, ReachedHasSeries}
use Rattle.tib_difference.proofs.Meaning.{reached_has_series}
use Rattle.tib_operations.specs.Difference.{AreTrimmedWithSupport, differing, HasDifferenceText, difference_makes}
use Rattle.tib_operations.specs.Made.{HasReachedFrom, and_then, normal_form, reached_set}
use Rattle.tib_operations.proofs.DifferenceByText.{differences_given, differences_by_text}
use Rattle.tib_operations.proofs.FormsByText.{within_by_text}
use Rattle.tib_operations.proofs.MadeParts.{IsEither, both_either, form_either, reached_either}
use Rattle.tib_operations.proofs.OfIntersect.{form_same, form_plain, form_is_normal}
use Rattle.tib_operations.proofs.PlainDifference.{differences_plain}
use Rattle.tib_operations.proofs.ReadSound.{IsSound}
use Rattle.tib_operations.proofs.RunsKept.{runs_kept}

-- one text

pub difference_once :
    (scale : Scale) (product : ℕ → ℕ → ℕ) (limit : ℕ) (labels others : List (List ℕ)) (f g p q : GrammarOf) (text other : List ℕ) → Distinct labels → Distinct others → AgreeByText labels others f p →
    AgreeByText labels others g q → HasDifferenceText scale product limit labels f g text → HasDifferenceText scale product limit others p q other → text ≡ other
difference_once scale product limit labels others f g p q text other apart different left right a b =
    let s = renumbering labels others apart different in
    let one = a.canonical.from in
    let two = b.canonical.from in
    a.are
    ∙ construction_once product scale limit labels others s.0 s.1 (differing one) (differing two) (difference_laws two.0.rules two.1.rules) (record {
      cmp = refl;
      spare = refl;
      begins = λ order x y h k. h ∙ sym k;
      reached = differences_given product labels others s.0 s.1 f g p q one.0 one.1 two.0 two.1 left right a.canonical.is_made.0 a.canonical.is_made.1 b.canonical.is_made.0 b.canonical.is_made.1;
    }) a.h b.h a.canonical.canonical b.canonical.canonical
    ∙ sym b.are

-- what is made

-- it is within the limit, or has more parts
pub difference_either : (product : ℕ → ℕ → ℕ) (limit : ℕ) (f g : GrammarOf) → IsEither (difference_makes product limit f g)
difference_either product limit f g =
    both_either (normal_form product limit f) (and_then (normal_form max limit g) (reached_set limit (AreTrimmedWithSupport product f g) differing)) (form_either product limit f)
    (both_either (normal_form max limit g) (reached_set limit (AreTrimmedWithSupport product f g) differing) (form_either max limit g) (reached_either limit (AreTrimmedWithSupport product f g) differing))

-- it is within the limit over each table of labels
pub difference_by_text :
    (product : ℕ → ℕ → ℕ) (limit : ℕ) (labels others : List (List ℕ)) → Distinct labels → Distinct others → (f g p q : GrammarOf) → AgreeByText labels others f p → AgreeByText labels others g q →
    (difference_makes product limit f g).within → (difference_makes product limit p q).within
difference_by_text product limit labels others apart different f g p q a b w = (
  within_by_text product limit labels others apart different f p a w.0,
  (within_by_text max limit labels others apart different g q b w.1.0, differences_by_text product limit labels others apart different f g p q a b w.1.1),
)

-- the series

-- the canonical form of what two grammars in normal form reach gives each tree the cost that their
-- difference gives it
pub difference_series :
    (product : ℕ → ℕ → ℕ) (one two : GrammarOf) (scale : Scale) (limit : ℕ) (labels : List (List ℕ)) (h : GrammarOf) → ReachedHasSeries product → AreNormal one.rules → AreNormal two.rules →
    IsCanonicalOf product scale labels limit (differing (one, two)) h → HasDifferenceSeries product one.rules two.rules h.rules
difference_series product one two scale limit labels h mean n m c t v =
    let found : IsReachedGrammar one.rules two.rules c.order c.rules = record { reached = c.reached; in_range = c.rules_over.in_range } in
    let keys : IsCanonicalOverKeys product scale labels key_cmp c.order c.rules (Fresh (finals 0 c.order)) h = subst (λ (z : Begin). IsCanonicalOverKeys product scale labels key_cmp c.order c.rules z h) c.begun c.canonical in
    let has = mean one.rules two.rules n m c.order c.rules found t v in
    let same = fresh_series key_cmp product scale labels c.order c.rules (finals 0 c.order) h keys t v in
    (λ x. has.0 (same.1 x), λ x. same.0 (has.1 x))

-- and that of what the two were made of
pub difference_of_forms :
    (product : ℕ → ℕ → ℕ) (f g one two : GrammarOf) (rules : List (Rule ℕ)) → HasSameSeries product f one → ((t : Tree ℕ) → HasRun g.rules t ↔ HasRun two.rules t) →
    HasDifferenceSeries product one.rules two.rules rules → HasDifferenceSeries product f.rules g.rules rules
difference_of_forms product f g one two rules same runs series t v = (
  λ s.
      let d = (series t v).0 s in
      record { without = λ never. (same t v).1 (d.without (λ r. never ((runs t).1 r))); with_run = λ r. d.with_run ((runs t).0 r) },
  λ d. (series t v).1 (record { without = λ never. (same t v).0 (d.without (λ r. never ((runs t).0 r))); with_run = λ r. d.with_run ((runs t).1 r) }),
)

-- rules over the positions of an order that stand for the edges can be printed
pub differences_over :
    (scale : Scale) (labels : List (List ℕ)) (one two : GrammarOf) → ArePrintable scale labels one.rules → (order : List KeyOf) (rules : List (Rule ℕ)) → IsReachedGrammar one.rules two.rules order rules →
    AreRulesOver scale labels (length order) rules
differences_over scale labels one two p order rules found =
    edges_printed scale labels (differing (one, two)) (differences_plain scale labels one two p).edges order rules found.reached found.in_range

-- where all that is made is within the limit

module _ {levelled weighed : Bool} {product : ℕ → ℕ → ℕ} (laws : ProductLaws levelled weighed product) where
  pub difference_there :
      (scale : Scale) (limit : ℕ) → limit < 4294967296 → (labels : List (List ℕ)) → Distinct labels → (f g : GrammarOf) → IsSound f → IsSound g → ArePrintable scale labels f.rules →
      ArePrintable Unweighted labels g.rules → HasReachedFrom limit (AreTrimmedWithSupport product f g) differing → ((text : List ℕ) → HasDifferenceText scale product limit labels f g text → ⊥) → ⊥
  difference_there scale limit low labels apart f g s t p q w never =
      let one : GrammarOf = w.from.0 in
      let two : GrammarOf = w.from.1 in
      form_same laws f one s w.is_made.0 (λ a.
      form_same boolean_laws g two t w.is_made.1 (λ b.
      fresh_there scale labels (differing w.from) (finals 0) (differences_plain scale labels one two (form_plain laws scale labels f one w.is_made.0 p)) laws limit low apart w.set (λ h c read.
      never (grammar_text scale labels h) (record {
        h = h;
        canonical = record { from = w.from; is_made = w.is_made; canonical = c };
        series =
            difference_of_forms product f g one two h.rules a (runs_kept labels g two q (form_plain boolean_laws Unweighted labels g two w.is_made.1 q) b)
            (difference_series product one two scale limit labels h (reached_has_series product laws) (form_is_normal laws f one w.is_made.0) (form_is_normal boolean_laws g two w.is_made.1) c);
        are = refl;
        read = read;
      }))))
