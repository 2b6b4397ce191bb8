-- The canonical form of the grammar of some rules, from the rules that are kept.
use Rattle.tib_cost.specs.declared.Scale.{Scale}
use Rattle.std.proofs.Common.{◌≡◌, ℕ, Bool, List, [], length, map, get_or, sym, ◌∙◌}
use Rattle.std.proofs.lemmas.List.{length-map}
use Rattle.tib_grammar.specs.GrammarOf.{GrammarOf}
use Rattle.tib_grammar.specs.Range.{SidesEndInHoles}
use Rattle.tib_grammar.specs.declared.Rule.{Rule}
use Rattle.tib_grammar_file.specs.Printed.{AreLabelled}
use Rattle.tib_cost.specs.Semiring.{ProductLaws}
use Rattle.tib_inside.specs.Trimmed.{IsTrimmed, AreTrimmed}
use Rattle.tib_canon.specs.Canonical.{OverStates, IsInOrder, IsCanonical}
use Rattle.tib_canon.proofs.CanonicalTexts.{trimmed_leaves}
use Rattle.tib_canon.proofs.One.{series_kept, series_on}
use Rattle.tib_canon.proofs.Trimmed.{labelled_still, labelled_kept}
use Rattle.tib_grammar.specs.Series.{HasSameSeries, HaveSameSeries}

module _ (product : ℕ → ℕ → ℕ) (count : ℕ) (old : List (Rule ℕ)) (states : List ℕ) (new : List (Rule ℕ)) (t : AreTrimmed product old states new) where
  -- the grammars without names, of which only the rules matter
  abbrev before : GrammarOf
  before = record { names = []; rules = old }

  abbrev after : GrammarOf
  after = record { names = map (λ q. get_or [] q []) states; rules = new }

  is_trimmed : IsTrimmed product before after
  is_trimmed = t []

  pub leaves_kept : SidesEndInHoles old → SidesEndInHoles new
  leaves_kept leaves = trimmed_leaves product before after is_trimmed leaves

  pub labels_kept : (k : ℕ) → AreLabelled k old → AreLabelled k new
  labels_kept k labelled = labelled_still product k before after is_trimmed labelled

  module _ (scale : Scale) (labels : List (List ℕ)) (n : ℕ) (many : n ≡ length states) (h : GrammarOf) (o : OverStates n new (λ g. IsInOrder scale labels g h)) where
    abbrev kept_names : List (List ℕ) → List (List ℕ)
    kept_names names = map (λ q. get_or names q []) states

    ordered : (names : List (List ℕ)) → IsInOrder scale labels (record { names = kept_names names; rules = new }) h
    ordered names = o (kept_names names) (length-map states (λ q. get_or names q []) ∙ sym many)

    pub is_canonical : OverStates count old (λ g. IsCanonical product scale labels g h)
    is_canonical names long = record { trimmed = record { names = kept_names names; rules = new }; is_trimmed = t names; in_order = ordered names }

    pub has_series : {levelled weighted : Bool} → ProductLaws levelled weighted product → HaveSameSeries product old new → OverStates count old (λ g. HasSameSeries product g h)
    has_series laws same names long =
        let g : GrammarOf = record { names = names; rules = old } in
        let m : GrammarOf = record { names = kept_names names; rules = new } in
        series_on product g m h same (series_kept laws scale labels m h (ordered names))

    pub labels_still : (k : ℕ) → AreLabelled k old → AreLabelled k h.rules
    labels_still k labelled = labelled_kept k new h.rules (ordered []).kept (labels_kept k labelled)
