-- What holds for canonical forms.
use Rattle.tib_cost.specs.declared.Scale.{Scale}
use Rattle.std.specs.Prelude.{◌≡◌, ◌<◌, ◌^◌, ◌↔◌, ℕ, List, Option, length}
use Rattle.tib_lex.specs.Lists.{Has, Distinct, IsReordering}
use Rattle.tib_grammar.specs.GrammarOf.{GrammarOf}
use Rattle.tib_grammar.specs.Forms.{IsDeterministic}
use Rattle.tib_grammar.specs.Series.{IsSeriesAt, IsSeries, HasSameSeries}
use Rattle.tib_tree.specs.Trees.{Tree}
use Rattle.tib_grammar.specs.Range.{AreInRange, SidesEndInHoles}
use Rattle.tib_grammar.specs.declared.Rule.{Rule}
use Rattle.tib_grammar_file.specs.GrammarText.{GrammarText}
use Rattle.tib_grammar_file.specs.Printable.{ArePrintable}
use Rattle.tib_grammar_file.specs.Printed.{grammar_text}
use Rattle.tib_normal.specs.NormalForm.{IsNormalForm}
use Rattle.tib_grammar_file.specs.ByText.{AgreeByText}
use Rattle.tib_inside.specs.Inside.{AreInsides}
use Rattle.tib_inside.specs.Trimmed.{IsTrimmed}
use Rattle.tib_canon.specs.Canonical.{IsInOrder, IsCanonical}
use Rattle.tib_canon.specs.Keys.{BeginsWithin, IsBegun, IsCanonicalOverKeys, begun_rules, started_rules}
use Rattle.tib_canon.specs.TrimmedForms.{IsTrimmedForm}
use Rattle.tib_canon.specs.declared.begin.Begin.{Begin}
use Rattle.tib_canon.specs.declared.begin.Begin.TheVariants.{At, Fresh}
use Rattle.std.specs.declared.cmp.Ordering.{Ordering}

-- a grammar has at most one form with canonical names in canonical order
abbrev pub OrderIsOne : Type 0
OrderIsOne =
    (scale : Scale) (labels : List (List ℕ)) (g h i : GrammarOf) → IsInOrder scale labels g h →
    IsInOrder scale labels g i → h ≡ i

-- a grammar has at most one canonical form, if in its right-hand sides nothing is below a state, as
-- in every `Grammar`
abbrev pub CanonicalIsOne : Type 0
CanonicalIsOne =
    (product : ℕ → ℕ → ℕ) (scale : Scale) (labels : List (List ℕ)) (g h i : GrammarOf) →
    SidesEndInHoles g.rules → IsCanonical product scale labels g h →
    IsCanonical product scale labels g i → h ≡ i

-- all normal forms of a grammar have one canonical form
abbrev pub FormsHaveOneCanonical : (ℕ → ℕ → ℕ) → Type 0
FormsHaveOneCanonical product =
    (scale : Scale) (labels : List (List ℕ)) (states : ℕ) (rules : List (Rule ℕ)) (m n h i : GrammarOf) →
    IsNormalForm product states rules (length m.names) m.rules →
    IsNormalForm product states rules (length n.names) n.rules →
    IsCanonical product scale labels m h → IsCanonical product scale labels n i → h ≡ i

-- canonical names and canonical order keep the series
abbrev pub OrderKeepsSeries : (ℕ → ℕ → ℕ) → Type 0
OrderKeepsSeries product =
    (scale : Scale) (labels : List (List ℕ)) (g h : GrammarOf) → IsInOrder scale labels g h →
    HasSameSeries product g h

-- a canonical grammar over keys has the series of the rules over their positions, at the position
-- of the start
abbrev pub KeysKeepSeries : {K : Type 0} → (K → K → Ordering) → Type 0
KeysKeepSeries {K} cmp =
    (product : ℕ → ℕ → ℕ) (scale : Scale) (labels : List (List ℕ)) (order : List K) (rules : List (Rule ℕ)) (start : ℕ) (h : GrammarOf) →
    IsCanonicalOverKeys product scale labels cmp order rules (At start) h →
    (t : Tree ℕ) (v : Option ℕ) → IsSeriesAt product rules start t v ↔ IsSeries product h.rules t v

-- a canonical grammar over keys after a fresh start has the series of the rules with its chain
-- rules
abbrev pub FreshKeepsSeries : {K : Type 0} → (K → K → Ordering) → Type 0
FreshKeepsSeries {K} cmp =
    (product : ℕ → ℕ → ℕ) (scale : Scale) (labels : List (List ℕ)) (order : List K) (rules : List (Rule ℕ)) (finals : List (ℕ × ℕ)) (h : GrammarOf) →
    IsCanonicalOverKeys product scale labels cmp order rules (Fresh finals) h →
    (t : Tree ℕ) (v : Option ℕ) → IsSeries product (started_rules finals rules) t v ↔ IsSeries product h.rules t v

-- trimming keeps deterministic form
abbrev pub TrimmingKeepsDeterministic : Type 0
TrimmingKeepsDeterministic =
    (product : ℕ → ℕ → ℕ) (g h : GrammarOf) → IsTrimmed product g h → IsDeterministic g.rules →
    IsDeterministic h.rules

-- canonical names and canonical order keep deterministic form
abbrev pub OrderKeepsDeterministic : Type 0
OrderKeepsDeterministic =
    (scale : Scale) (labels : List (List ℕ)) (g h : GrammarOf) → IsInOrder scale labels g h →
    IsDeterministic g.rules → IsDeterministic h.rules

-- the canonical form of a grammar in deterministic form is in deterministic form
abbrev pub CanonicalKeepsDeterministic : Type 0
CanonicalKeepsDeterministic =
    (product : ℕ → ℕ → ℕ) (scale : Scale) (labels : List (List ℕ)) (g h : GrammarOf) →
    IsCanonical product scale labels g h → IsDeterministic g.rules → IsDeterministic h.rules

-- a canonical grammar over keys after a fresh start is in deterministic form if the rules with its
-- chain rules are
abbrev pub FreshKeepsDeterministic : {K : Type 0} → (K → K → Ordering) → Type 0
FreshKeepsDeterministic {K} cmp =
    (product : ℕ → ℕ → ℕ) (scale : Scale) (labels : List (List ℕ)) (order : List K) (rules : List (Rule ℕ)) (finals : List (ℕ × ℕ)) (h : GrammarOf) →
    IsCanonicalOverKeys product scale labels cmp order rules (Fresh finals) h →
    IsDeterministic (started_rules finals rules) → IsDeterministic h.rules

-- all trimmed normal forms of a grammar have the same rules, each once
abbrev pub TrimmedFormsHaveSameRules : Type 0
TrimmedFormsHaveSameRules =
    (product : ℕ → ℕ → ℕ) (g m n : GrammarOf) → IsTrimmedForm product g m →
    IsTrimmedForm product g n → IsReordering m.rules n.rules

-- rules over the positions of an order have one canonical grammar over its keys, whatever their
-- order and however often one of them occurs
abbrev pub KeysHaveOneCanonical : {K : Type 0} → (K → K → Ordering) → Type 0
KeysHaveOneCanonical {K} cmp =
    (product : ℕ → ℕ → ℕ) (scale : Scale) (labels : List (List ℕ)) (order : List K) (xs ys : List (Rule ℕ)) (begin : Begin) (h i : GrammarOf) →
    ((r : Rule ℕ) → Has xs r → Has ys r) → ((r : Rule ℕ) → Has ys r → Has xs r) →
    SidesEndInHoles xs → SidesEndInHoles ys →
    IsCanonicalOverKeys product scale labels cmp order xs begin h →
    IsCanonicalOverKeys product scale labels cmp order ys begin i → h ≡ i

-- a normal form can be printed if the grammar can
abbrev pub FormsArePrintable : (ℕ → ℕ → ℕ) → Type 0
FormsArePrintable product =
    (scale : Scale) (labels : List (List ℕ)) (g m : GrammarOf) →
    IsNormalForm product (length g.names) g.rules (length m.names) m.rules →
    ArePrintable scale labels g.rules → ArePrintable scale labels m.rules

-- a trimmed grammar can be printed if the grammar can
abbrev pub TrimmedIsPrintable : Type 0
TrimmedIsPrintable =
    (product : ℕ → ℕ → ℕ) (scale : Scale) (labels : List (List ℕ)) (g h : GrammarOf) →
    IsTrimmed product g h → ArePrintable scale labels g.rules → ArePrintable scale labels h.rules

-- a canonical form can be printed if the grammar can
abbrev pub CanonicalIsPrintable : Type 0
CanonicalIsPrintable =
    (product : ℕ → ℕ → ℕ) (scale : Scale) (labels : List (List ℕ)) (g h : GrammarOf) →
    IsCanonical product scale labels g h → ArePrintable scale labels g.rules →
    ArePrintable scale labels h.rules

-- a grammar over keys can be printed if the rules over positions with its start can
abbrev pub OverKeysArePrintable : {K : Type 0} → (K → K → Ordering) → Type 0
OverKeysArePrintable {K} cmp =
    (scale : Scale) (labels : List (List ℕ)) (order : List K) (rules : List (Rule ℕ)) (begin : Begin) (g : GrammarOf) →
    IsBegun cmp order rules begin g → ArePrintable scale labels (begun_rules begin rules) →
    ArePrintable scale labels g.rules

-- the text of a canonical form is the text of exactly this grammar: its states keep their numbers,
-- and its rules their order
abbrev pub CanonicalTextsAreRead : (ℕ → ℕ → ℕ) → Type 0
CanonicalTextsAreRead product =
    (scale : Scale) (labels : List (List ℕ)) (g h : GrammarOf) → 0 < length g.names →
    length g.names < 2 ^ 32 → AreInRange (length g.names) g.rules → SidesEndInHoles g.rules →
    ArePrintable scale labels g.rules → IsCanonical product scale labels g h →
    GrammarText scale labels (grammar_text scale labels h) h

-- the text of the canonical form of a grammar's normal form is the text of exactly this form
abbrev pub FormTextsAreRead : (ℕ → ℕ → ℕ) → Type 0
FormTextsAreRead product =
    (scale : Scale) (labels : List (List ℕ)) (g m h : GrammarOf) → 0 < length g.names →
    length m.names < 2 ^ 32 → AreInRange (length g.names) g.rules → SidesEndInHoles g.rules →
    ArePrintable scale labels g.rules →
    IsNormalForm product (length g.names) g.rules (length m.names) m.rules →
    IsCanonical product scale labels m h → GrammarText scale labels (grammar_text scale labels h) h

-- the text of a canonical grammar over keys is the text of exactly this grammar
abbrev pub OverKeysTextsAreRead : {K : Type 0} → (ℕ → ℕ → ℕ) → (K → K → Ordering) → Type 0
OverKeysTextsAreRead {K} product cmp =
    (scale : Scale) (labels : List (List ℕ)) (order : List K) (rules : List (Rule ℕ)) (begin : Begin) (h : GrammarOf) →
    length order < 2 ^ 32 → SidesEndInHoles rules → ArePrintable scale labels (begun_rules begin rules) →
    IsCanonicalOverKeys product scale labels cmp order rules begin h →
    GrammarText scale labels (grammar_text scale labels h) h

-- the text of the canonical form of a normal form does not depend on the numbers of labels:
-- grammars that agree by the texts of their labels, each over a table of distinct labels of its
-- own, have one such text
abbrev pub CanonicalTextIsOne : (ℕ → ℕ → ℕ) → Type 0
CanonicalTextIsOne product =
    (scale : Scale) (labels others : List (List ℕ)) (g h m n i j : GrammarOf) → Distinct labels →
    Distinct others → AgreeByText labels others g h →
    IsNormalForm product (length g.names) g.rules (length m.names) m.rules →
    IsNormalForm product (length h.names) h.rules (length n.names) n.rules →
    IsCanonical product scale labels m i → IsCanonical product scale others n j →
    grammar_text scale labels i ≡ grammar_text scale others j

-- grammars that agree by the texts of their labels have the same inside costs
abbrev pub InsidesAreOneByText : Type 0
InsidesAreOneByText =
    (product : ℕ → ℕ → ℕ) (labels others : List (List ℕ)) (g h : GrammarOf) (costs : List (Option ℕ)) →
    AgreeByText labels others g h → AreInsides product g.rules costs →
    AreInsides product h.rules costs

-- it is impossible that a printable grammar has no canonical form with its series
abbrev pub CanonicalFormsExist : (ℕ → ℕ → ℕ) → Type 0
CanonicalFormsExist product =
    (scale : Scale) (labels : List (List ℕ)) (g : GrammarOf) → 0 < length g.names →
    length g.names < 2 ^ 32 → AreInRange (length g.names) g.rules → SidesEndInHoles g.rules →
    Distinct labels → ArePrintable scale labels g.rules →
    ((h : GrammarOf) → IsCanonical product scale labels g h → HasSameSeries product g h → ⊥) → ⊥

-- it is also impossible that printable rules, over the positions of an order of distinct keys, have
-- no canonical grammar over these keys
abbrev pub OverKeysHaveCanonical : {K : Type 0} → (ℕ → ℕ → ℕ) → (K → K → Ordering) → Type 0
OverKeysHaveCanonical {K} product cmp =
    (scale : Scale) (labels : List (List ℕ)) (order : List K) (rules : List (Rule ℕ)) (begin : Begin) →
    length order < 2 ^ 32 → BeginsWithin (length order) begin → Distinct order →
    AreInRange (length order) rules → SidesEndInHoles rules → Distinct labels →
    ArePrintable scale labels (begun_rules begin rules) →
    ((h : GrammarOf) → IsCanonicalOverKeys product scale labels cmp order rules begin h → ⊥) →
    ⊥
