-- What holds for canonical transducers.
use Rattle.tib_cost.specs.declared.Scale.{Scale}
use Rattle.std.specs.Prelude.{◌≡◌, ◌<◌, ◌≤◌, ◌^◌, ◌↔◌, ℕ, List, length, Option}
use Rattle.std.specs.declared.cmp.Ordering.{Ordering}
use Rattle.tib_lex.specs.Lists.{Has, Distinct}
use Rattle.tib_tree.specs.Trees.{Tree}
use Rattle.tib_transducer.specs.Range.{AreWithin, AreShaped, EndInHoles}
use Rattle.tib_transducer.specs.Series.{IsTransducerSeries}
use Rattle.tib_transducer.specs.TransducerOf.{TransducerOf}
use Rattle.tib_transducer.specs.declared.TransducerRule.{TransducerRule}
use Rattle.tib_transducer_file.specs.ByText.{AreOneTransducerRule, AreOneTransducer}
use Rattle.tib_transducer_file.specs.ByName.{states_of, IsSameByName, ReadsBack}
use Rattle.tib_transducer_file.specs.Printed.{transducer_text}
use Rattle.tib_transducer_file.specs.TransducerText.{TransducerText}
use Rattle.tib_canon.specs.Constructions.{HasReachedWithin}
use Rattle.tib_key_edges.specs.Plain.{ArePlain}
use Rattle.tib_key_edges.specs.Composition.{composition}
use Rattle.tib_canon.specs.Composing.{composing, HasComposeSeries, HasComposeText}
use Rattle.tib_canon.specs.TransducerConstructions.{IsCanonicalTransducerOf}
use Rattle.tib_canon.specs.TransducerKeys.{IsCanonicalTransducer, HasSeriesFrom, AreMovesOver}

-- rules over the positions of an order have one canonical transducer over its keys, whatever their
-- order and however often one of them occurs
abbrev pub KeysHaveOneTransducer : {K : Type 0} → (K → K → Ordering) → Type 0
KeysHaveOneTransducer {K} cmp =
    (scale : Scale) (labels : List (List ℕ)) (order : List K) (xs ys : List (TransducerRule ℕ))
    (start : ℕ) (h i : TransducerOf) → ((r : TransducerRule ℕ) → Has xs r → Has ys r) →
    ((r : TransducerRule ℕ) → Has ys r → Has xs r) → EndInHoles xs → EndInHoles ys →
    IsCanonicalTransducer scale labels cmp order xs start h →
    IsCanonicalTransducer scale labels cmp order ys start i → h ≡ i

-- it has the series of the rules from the start
abbrev pub KeysKeepTransducerSeries : {K : Type 0} → (ℕ → ℕ → ℕ) → (K → K → Ordering) → Type 0
KeysKeepTransducerSeries {K} product cmp =
    (scale : Scale) (labels : List (List ℕ)) (order : List K) (rules : List (TransducerRule ℕ))
    (start : ℕ) (h : TransducerOf) → IsCanonicalTransducer scale labels cmp order rules start h →
    HasSeriesFrom product rules start h.rules

-- it is impossible that printable rules over the positions of an order of distinct keys have no
-- canonical transducer over these keys
abbrev pub KeysHaveTransducer : {K : Type 0} → (K → K → Ordering) → Type 0
KeysHaveTransducer {K} cmp =
    (scale : Scale) (labels : List (List ℕ)) (order : List K) (rules : List (TransducerRule ℕ))
    (start : ℕ) → length order < 2 ^ 32 → start < length order → Distinct order → Distinct labels →
    AreMovesOver scale labels (length order) rules →
    ((h : TransducerOf) → IsCanonicalTransducer scale labels cmp order rules start h → ⊥) → ⊥

-- If each position but the start is in a rule, the text of the canonical transducer is a text of
-- it, and reads back as it, states by their names.
abbrev pub TransducerTextsAreRead : {K : Type 0} → (K → K → Ordering) → Type 0
TransducerTextsAreRead {K} cmp =
    (scale : Scale) (labels : List (List ℕ)) (order : List K) (rules : List (TransducerRule ℕ))
    (start : ℕ) (h : TransducerOf) → length order < 2 ^ 32 →
    AreMovesOver scale labels (length order) rules →
    ((p : ℕ) → p < length order → (p ≡ start → ⊥) → Has (states_of rules) p) →
    IsCanonicalTransducer scale labels cmp order rules start h →
    (u : TransducerOf) × ReadsBack scale labels (transducer_text scale labels h) h u

-- each of the rules agrees with one of the others by the texts of its labels, and each of these
-- with one of the rules
pub record AreOneByText (labels others : List (List ℕ)) (xs ys : List (TransducerRule ℕ)) : Type 0 where
  pub to : (r : TransducerRule ℕ) → Has xs r → (s : TransducerRule ℕ) × Has ys s × AreOneTransducerRule labels others r s
  pub from : (s : TransducerRule ℕ) → Has ys s → (r : TransducerRule ℕ) × Has xs r × AreOneTransducerRule labels others r s

-- the text does not depend on the numbers of labels: rules that agree by the texts of their labels,
-- each over a table of distinct labels of its own, have one text
abbrev pub TransducerTextIsOne : {K : Type 0} → (K → K → Ordering) → Type 0
TransducerTextIsOne {K} cmp =
    (scale : Scale) (labels others : List (List ℕ)) (order : List K) (xs ys : List (TransducerRule ℕ))
    (start : ℕ) (h i : TransducerOf) → Distinct labels → Distinct others →
    AreOneByText labels others xs ys → EndInHoles xs → EndInHoles ys →
    IsCanonicalTransducer scale labels cmp order xs start h →
    IsCanonicalTransducer scale others cmp order ys start i →
    transducer_text scale labels h ≡ transducer_text scale others i

-- If the pairs of the states of two printable transducers are reached within the limit, it is
-- impossible that there is no text of their canonical composition.
abbrev pub CompositionsHaveTexts : (ℕ → ℕ → ℕ) → Type 0
CompositionsHaveTexts product =
    (scale : Scale) (limit : ℕ) → limit ≤ 2 ^ 32 → (labels : List (List ℕ)) → Distinct labels →
    (t u : TransducerOf) → AreMovesOver scale labels (length t.names) t.rules →
    AreMovesOver scale labels (length u.names) u.rules → ArePlain u.rules →
    HasReachedWithin (composition product t.rules u.rules) limit →
    ((text : List ℕ) → HasComposeText scale product limit labels t u text → ⊥) → ⊥

-- Transducers that agree by the texts of their labels, each over a table of distinct labels of its
-- own, have one text of their canonical composition.
abbrev pub CompositionTextIsOne : (ℕ → ℕ → ℕ) → Type 0
CompositionTextIsOne product =
    (scale : Scale) (limit : ℕ) (labels others : List (List ℕ)) (t u v w : TransducerOf)
    (text other : List ℕ) → Distinct labels → Distinct others → AreOneTransducer labels others t v →
    AreOneTransducer labels others u w → HasComposeText scale product limit labels t u text →
    HasComposeText scale product limit others v w other → text ≡ other

-- the canonical transducer of the pairs that are reached does the first and then the second
abbrev pub CompositionsHaveSeries : (ℕ → ℕ → ℕ) → Type 0
CompositionsHaveSeries product =
    (scale : Scale) (labels : List (List ℕ)) (limit : ℕ) (t u h : TransducerOf) → AreShaped u.rules →
    ArePlain u.rules → IsCanonicalTransducerOf scale labels limit (composing product t u) h →
    HasComposeSeries product t.rules u.rules h.rules

-- there is a start, no two states have one name, the rules' states have names, and nothing is below
-- a leaf, as in each transducer that `Transducer` of tib_transducer holds
pub record HasNamedStates (t : TransducerOf) : Type 0 where
  pub start : 0 < length t.names
  pub distinct : Distinct t.names
  pub within : AreWithin (length t.names) t.rules
  pub leaves : EndInHoles t.rules

-- transducers that differ only in the numbers of their states have one series
abbrev pub SeriesIsOneByName : (ℕ → ℕ → ℕ) → Type 0
SeriesIsOneByName product =
    (t u : TransducerOf) → HasNamedStates t → HasNamedStates u → IsSameByName t u → (x y : Tree ℕ)
    (v : Option ℕ) → IsTransducerSeries product t.rules x y v ↔ IsTransducerSeries product u.rules x y v

-- bytes are the text of at most one transducer over one table of distinct labels, however many
-- nodes its sides have, and its states have names
pub record TextHasOneTransducer : Type 0 where
  pub one :
      (scale : Scale) (labels : List (List ℕ)) (bytes : List ℕ) (t u : TransducerOf) → Distinct labels →
      TransducerText scale labels bytes t → TransducerText scale labels bytes u → t ≡ u
  pub named :
      (scale : Scale) (labels : List (List ℕ)) (bytes : List ℕ) (t : TransducerOf) →
      TransducerText scale labels bytes t → HasNamedStates t
