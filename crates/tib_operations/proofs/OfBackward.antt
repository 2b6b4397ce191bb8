-- What `backward` writes: one text, and that there is none cannot be where all that is made is
-- within the limit and the transducer is linear and nondeleting.
use Rattle.tib_cost.specs.declared.Scale.{Scale}
use Rattle.std.proofs.Common.{◌≡◌, ℕ, ◌<◌, Bool, List, refl, sym, ◌∙◌, subst, arith}
use Rattle.tib_lex.specs.Lists.{Distinct}
use Rattle.tib_cost.specs.Semiring.{ProductLaws}
use Rattle.tib_grammar.specs.Forms.{AreNormal}
use Rattle.tib_grammar.specs.GrammarOf.{GrammarOf}
use Rattle.tib_grammar_file.specs.ByText.{AgreeByText}
use Rattle.tib_grammar_file.specs.Printable.{ArePrintable}
use Rattle.tib_grammar_file.specs.Printed.{grammar_text}
use Rattle.tib_grammar_file.proofs.Renumbering.{renumbering}
use Rattle.tib_transducer.specs.Range.{AreShaped}
use Rattle.tib_transducer.specs.TransducerOf.{TransducerOf}
use Rattle.tib_transducer_file.specs.ByText.{AreOneTransducer}
use Rattle.tib_transducer.specs.Outside.{AllMeet}
use Rattle.tib_apply.specs.Backward.{IsBackwardEdge}
use Rattle.tib_apply.specs.Operations.{key_cmp}
use Rattle.tib_apply.proofs.Preimages.{backward_means}
use Rattle.tib_apply.proofs.Reached.{reached_grammar}
use Rattle.tib_canon.specs.Constructions.{IsCanonicalOf}
use Rattle.tib_canon.specs.Keys.{IsCanonicalOverKeys}
use Rattle.tib_canon.specs.TrimmedForms.{IsTrimmedForm}
use Rattle.tib_canon.specs.declared.begin.Begin.{Begin}
use Rattle.tib_canon.specs.declared.begin.Begin.TheVariants.{At}
use Rattle.tib_canon.proofs.ConstructionExists.{construction_there}
use Rattle.tib_canon.proofs.ConstructionOnce.{construction_once}
use Rattle.tib_canon.proofs.KeySeries.{canonical_series}
use Rattle.tib_operations.specs.Backward.{linear_nondeleting, inverting, HasBackwardSeries, HasBackwardText}
use Rattle.tib_operations.specs.Made.{HasReachedFrom}
use Rattle.tib_operations.proofs.AppliedByText.{backward_given}
use Rattle.tib_operations.proofs.AppliedSeries.{backward_of_form}
use Rattle.tib_operations.proofs.OfIntersect.{form_same, form_plain, form_is_normal}
use Rattle.tib_operations.proofs.PlainEdges.{backward_laws, backward_plain}
use Rattle.tib_operations.proofs.PlainMoves.{IsSoundTransducer}
use Rattle.tib_operations.proofs.ReadSound.{IsSound}

-- one text

pub backward_once :
    (scale : Scale) (product : ℕ → ℕ → ℕ) (limit : ℕ) (labels others : List (List ℕ)) (g h : GrammarOf) (t u : TransducerOf) (text other : List ℕ) → Distinct labels → Distinct others →
    AgreeByText labels others g h → AreOneTransducer labels others t u → HasBackwardText scale product limit labels t g text → HasBackwardText scale product limit others u h other → text ≡ other
backward_once scale product limit labels others g h t u text other apart different agree one a b =
    let s = renumbering labels others apart different in
    let m = a.canonical.from in
    let k = b.canonical.from in
    a.are
    ∙ construction_once product scale limit labels others s.0 s.1 (inverting product t m) (inverting product u k) (backward_laws product u.rules k.rules) (record {
      cmp = refl;
      spare = refl;
      begins = λ order x y i j. i ∙ sym j;
      reached = backward_given product labels others s.0 s.1 g h m k t u agree one a.canonical.is_made b.canonical.is_made;
    }) a.h b.h a.canonical.canonical b.canonical.canonical
    ∙ sym b.are

-- the series of the canonical form of the keys of a grammar in normal form
pub backward_series :
    {levelled weighed : Bool} {product : ℕ → ℕ → ℕ} → ProductLaws levelled weighed product → (scale : Scale) (limit : ℕ) (labels : List (List ℕ)) (t : TransducerOf) (form h : GrammarOf) →
    AreNormal form.rules → AreShaped t.rules → AllMeet linear_nondeleting t.rules →
    IsCanonicalOf product scale labels limit (inverting product t form) h → HasBackwardSeries product t.rules form.rules h.rules
backward_series {product = product} laws scale limit labels t form h normal shaped met c u v =
    let keys : IsCanonicalOverKeys product scale labels key_cmp c.order c.rules (At 0) h = subst (λ (z : Begin). IsCanonicalOverKeys product scale labels key_cmp c.order c.rules z h) c.begun c.canonical in
    let is =
    backward_means laws t.rules shaped (λ n i. (met n i).linear refl) (λ n i. (met n i).nondeleting refl) form.rules normal c.order c.rules
    (reached_grammar (IsBackwardEdge product t.rules form.rules) c.order c.rules c.rules_over.in_range c.reached) u v
    in
    let same = canonical_series key_cmp product scale labels c.order c.rules 0 h keys u v in
    (λ k. is.0 (same.1 k), λ k. same.0 (is.1 k))

-- where all that is made is within the limit
module _ {levelled weighed : Bool} {product : ℕ → ℕ → ℕ} (laws : ProductLaws levelled weighed product) where
  pub backward_there :
      (scale : Scale) (limit : ℕ) → limit < 4294967296 → (labels : List (List ℕ)) → Distinct labels → (g : GrammarOf) (t : TransducerOf) → IsSound g → ArePrintable scale labels g.rules →
      IsSoundTransducer scale labels t → AllMeet linear_nondeleting t.rules → HasReachedFrom limit (IsTrimmedForm product g) (inverting product t) →
      ((text : List ℕ) → HasBackwardText scale product limit labels t g text → ⊥) → ⊥
  backward_there scale limit low labels apart g t s p q met w never =
      let form : GrammarOf = w.from in
      form_same laws g form s w.is_made (λ same.
      construction_there scale labels (inverting product t form) (backward_plain product (laws.neutral 0) scale labels form t (form_plain laws scale labels g form w.is_made p) q.plain q.leaves) laws limit
      (omega (arith, low)) apart w.set (λ h c read.
      never (grammar_text scale labels h) (record {
        h = h;
        canonical = record { from = form; is_made = w.is_made; canonical = c };
        series =
            backward_of_form laws t.rules g.rules form.rules (form_is_normal laws g form w.is_made) same h.rules
            (backward_series laws scale limit labels t form h (form_is_normal laws g form w.is_made) q.shaped met c);
        are = refl;
        read = read;
      })))
