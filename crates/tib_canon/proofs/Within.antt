-- Sorted lines, by what the calls before them say.
use Rattle.tib_cost.specs.Semiring.{most}
use Rattle.tib_cost.specs.declared.Scale.{Scale}
use Rattle.std.proofs.Common.{◌≡◌, ℕ, ◌<◌, ◌≤◌, List, [], ◌∷◌, ◌++◌, length, map, get_or, ap, sym, ◌∙◌, subst, arith}
use Rattle.std.specs.Prelude.{IsPermutation, IsSorted, Some, slice_get}
use Rattle.std.proofs.lemmas.Option.{slice_get-get_or, get_or_from_slice_get}
use Rattle.tib_tree.specs.Grows.{AreDistinct}
use Rattle.std.proofs.lemmas.List.{length-map}
use Rattle.std.proofs.lemmas.List.Sorted.{IsPermutation-map, IsPermutation-sym}
use Rattle.tib_lex.specs.Lists.{Has, Each, Distinct}
use Rattle.tib_tree.specs.Trees.{only}
use Rattle.tib_grammar.specs.GrammarOf.{GrammarOf}
use Rattle.tib_grammar.specs.Range.{AreInRange, SidesEndInHoles, IsInRange}
use Rattle.tib_grammar.specs.Run.{rule_at, no_rule}
use Rattle.tib_grammar.specs.StateName.{AreStateNames}
use Rattle.tib_grammar.specs.declared.Rule.{Rule}
use Rattle.tib_grammar_file.specs.Printed.{AreLabelled, IsRuleWithin, grammar_text}
use Rattle.tib_grammar_file.proofs.PrintedTrees.{fits_of}
use Rattle.tib_grammar_file.proofs.Printing.{rule_within}
use Rattle.tib_canon.specs.Canonical.{names_of, OverStates, IsInOrder}
use Rattle.tib_canon.specs.Lines.{IsLineAt, AreTexts, lines_text}
use Rattle.tib_canon.specs.Merging.{AreCheapest}
use Rattle.tib_canon.specs.declared.lines.Line.{Line}
use Rattle.tib_canon.proofs.StateNames.{length-names_of}
use Rattle.tib_canon.proofs.Permuting.{has_permuted}
use Rattle.tib_canon.specs.LineOrder.{line_cmp}
use Rattle.tib_canon.proofs.Telling.{IsSafe}
use Rattle.tib_canon.proofs.LinesText.{lines_grammar}
use Rattle.tib_canon.proofs.InOrder.{AreSorted, cheapest_permuted, kept, in_order}
use Rattle.tib_lex.proofs.Members.{has_at, at_has, each_has, each_of, distinct_from}

-- no text of a table is there twice
pub distinct_texts : (texts : List (List ℕ)) → AreDistinct texts → Distinct texts
distinct_texts texts d =
    distinct_from texts [] (λ i j h k e. d.once i j (get_or texts i []) (slice_get-get_or texts i [] h) (slice_get-get_or texts j [] k ∙ ap (λ (t : List ℕ). Some t) (sym e)))

pub rules_safe :
    (n : ℕ) (labels : List (List ℕ)) (rules : List (Rule ℕ)) → AreInRange n rules → SidesEndInHoles rules → AreLabelled (length labels) rules →
    (m : ℕ) → m < length rules → (rule_at rules m).cost ≤ most → IsSafe (names_of n) labels (rule_at rules m)
rules_safe n labels rules range leaves labelled m h within =
    let r : IsInRange (length (names_of n)) (rule_at rules m) = subst (λ k. IsInRange k (rule_at rules m)) (sym (length-names_of n)) (range m h) in
    record { left = r.0; right = fits_of (length (names_of n)) (length labels) (only (rule_at rules m).right) (leaves m h) (labelled m h) r.1; within = within }

-- the grammar of some rules over this many states, with canonical names
abbrev pub over : ℕ → List (Rule ℕ) → GrammarOf
over count rules = record { names = names_of count; rules = rules }

over_range : (count : ℕ) (rules : List (Rule ℕ)) → AreInRange count rules → AreInRange (length (names_of count)) rules
over_range count rules range = subst (λ k. AreInRange k rules) (sym (length-names_of count)) range

-- each rule can be printed with the new names
pub rules_printed :
    (names labels : List (List ℕ)) (rules part : List (Rule ℕ)) (count : ℕ) → part ≡ rules → names ≡ names_of count → AreInRange count rules → SidesEndInHoles rules →
    AreLabelled (length labels) rules → (m : ℕ) → m < length part → IsRuleWithin names labels (rule_at part m)
rules_printed names labels rules part count are named range leaves labelled m h =
    let below : m < length rules = omega (arith, ap length are) in
    let long : length names ≡ count = ap length named ∙ length-names_of count in
    let there : IsRuleWithin names labels (rule_at rules m) = rule_within names labels (rule_at rules m) (subst (λ k. IsInRange k (rule_at rules m)) (sym long) (range m below)) (leaves m below) (labelled m below) in
    subst (λ (rs : List (Rule ℕ)). IsRuleWithin names labels (rule_at rs m)) (sym are) there

pub positions_below :
    (rules first part : List (Rule ℕ)) (positions others : List ℕ) → first ≡ rules → part ≡ rules → AreCheapest first positions → others ≡ positions → (i : ℕ) → i < length others → get_or others i 0 < length part
positions_below rules first part positions others a b c e i h =
    let low : get_or others i 0 < length first = c.below (get_or others i 0) (subst (λ (xs : List ℕ). Has xs (get_or others i 0)) e (has_at others i 0 h)) in
    omega (arith, low, ap length a, ap length b)

-- texts of rules are those of the same rules
pub same_texts :
    (scale : Scale) (names labels : List (List ℕ)) (rules some others : List (Rule ℕ)) (positions p q text ends : List ℕ) → some ≡ rules → others ≡ rules → p ≡ positions → q ≡ positions →
    AreTexts scale names labels (map (rule_at some) p) text ends → AreTexts scale names labels (map (rule_at others) q) text ends
same_texts scale names labels rules some others positions p q text ends a b c d t =
    let rules_same : some ≡ others = a ∙ sym b in
    let positions_same : p ≡ q = c ∙ sym d in
    subst (λ (xs : List ℕ). AreTexts scale names labels (map (rule_at others) xs) text ends) positions_same (subst (λ (rs : List (Rule ℕ)). AreTexts scale names labels (map (rule_at rs) p) text ends) rules_same t)

-- what the calls before the sorted lines say
pub record AreReady (scale : Scale) (labels : List (List ℕ)) (count : ℕ) (rules : List (Rule ℕ)) (names : List (List ℕ)) (positions : List ℕ) (lines : List Line) : Type 0 where
  pub named : names ≡ names_of count
  pub cheapest : AreCheapest rules positions
  pub are_lines : Each (IsLineAt scale names labels rules) lines
  pub placed : map (λ (l : Line). l.position) lines ≡ positions

pub are_ready :
    (scale : Scale) (labels : List (List ℕ)) (count : ℕ) (rules : List (Rule ℕ)) (names : List (List ℕ)) (positions : List ℕ) (lines : List Line) (first second third : List (Rule ℕ)) (p q text ends : List ℕ) →
    first ≡ rules → second ≡ rules → third ≡ rules → p ≡ positions → q ≡ positions → names ≡ names_of count → AreCheapest first positions → AreTexts scale names labels (map (rule_at second) p) text ends →
    ((w : Scale) (ns ls : List (List ℕ)) → AreTexts w ns ls (map (rule_at third) q) text ends → Each (IsLineAt w ns ls third) lines) → map (λ (l : Line). l.position) lines ≡ q →
    AreReady scale labels count rules names positions lines
are_ready scale labels count rules names positions lines first second third p q text ends a b c d e named cheap texts each placed = record {
  named = named;
  cheapest = subst (λ (rs : List (Rule ℕ)). AreCheapest rs positions) a cheap;
  are_lines = subst (λ (rs : List (Rule ℕ)). Each (IsLineAt scale names labels rs) lines) c (each scale names labels (same_texts scale names labels rules second third positions p q text ends b c d e texts));
  placed = placed ∙ e;
}

pub sorted_known :
    (scale : Scale) (labels : List (List ℕ)) (count : ℕ) (rules : List (Rule ℕ)) (names : List (List ℕ)) (positions : List ℕ) (lines now : List Line) → AreReady scale labels count rules names positions lines →
    IsPermutation lines now → IsSorted line_cmp now → AreStateNames names → AreDistinct labels →
    AreInRange count rules → SidesEndInHoles rules → AreLabelled (length labels) rules → AreSorted scale labels (over count rules) now
sorted_known scale labels count rules names positions lines now ready permuted sorted state apart range leaves labelled =
    let many : ℕ = length (names_of count) in
    let canonical : names ≡ names_of (length (names_of count)) = ready.named ∙ ap names_of (sym (length-names_of count)) in
    let places : AreCheapest rules (map (λ (l : Line). l.position) lines) = subst (AreCheapest rules) (sym ready.placed) ready.cheapest in
    let known : Each (IsLineAt scale (names_of many) labels rules) lines = subst (λ (ns : List (List ℕ)). Each (IsLineAt scale ns labels rules) lines) canonical ready.are_lines in
    record {
      cheapest = cheapest_permuted rules (map (λ (l : Line). l.position) lines) (map (λ (l : Line). l.position) now) (IsPermutation-map (λ (l : Line). l.position) lines now permuted) places;
      lines = each_of (IsLineAt scale (names_of many) labels rules) now (λ l h. each_has (IsLineAt scale (names_of many) labels rules) lines l known (has_permuted now lines l (IsPermutation-sym lines now permuted) h));
      sorted = sorted;
      names = subst AreStateNames canonical state;
      labels_apart = distinct_texts labels apart;
      safe = rules_safe many labels rules (over_range count rules range) leaves labelled;
    }

module _ (scale : Scale) (labels : List (List ℕ)) (count : ℕ) (rules : List (Rule ℕ)) (now part : List Line) (s : AreSorted scale labels (over count rules) now) (same : part ≡ now) where
  pub lines_below : Each (λ (l : Line). l.position < length rules) part
  lines_below = each_of (λ (l : Line). l.position < length rules) part (λ l h. (each_has (IsLineAt scale (names_of (length (names_of count))) labels rules) now l s.lines (subst (λ (ls : List Line). Has ls l) same h)).below)

  pub lines_apart : Distinct (map (λ (l : Line). l.position) part)
  lines_apart = subst (λ (ls : List Line). Distinct (map (λ (l : Line). l.position) ls)) (sym same) s.cheapest.distinct

  module _ (sorted : List (Rule ℕ)) (is : sorted ≡ map (λ (l : Line). rule_at rules l.position) part) where
    pub few_sorted : length rules < 4294967296 → length sorted < 4294967296
    few_sorted few = omega (arith, ap length is, length-map part (λ (l : Line). rule_at rules l.position), ap length same, length-map now (λ (l : Line). l.position), s.cheapest.few)

    same_rules : sorted ≡ map (λ (l : Line). rule_at rules l.position) now
    same_rules = is ∙ ap (λ (ls : List Line). map (λ (l : Line). rule_at rules l.position) ls) same

    -- the rules that are kept are in range
    pub kept_in_range : (names : List (List ℕ)) → names ≡ names_of count → AreInRange count rules → AreInRange (length names) sorted
    kept_in_range names named range m h =
        let long : length names ≡ count = ap length named ∙ length-names_of count in
        let stands : Has rules (rule_at sorted m) = kept scale labels (over count rules) now s (rule_at sorted m) (subst (λ (rs : List (Rule ℕ)). Has rs (rule_at sorted m)) same_rules (has_at sorted m no_rule h)) in
        let a = at_has rules (rule_at sorted m) no_rule stands in
        subst (λ k. IsInRange k (rule_at sorted m)) (sym long) (subst (IsInRange count) a.2 (range a.0 a.1))

    -- the grammar is in order, whatever the names of the states were
    pub over_states : (names : List (List ℕ)) (h : GrammarOf) → names ≡ names_of count → h.names ≡ names → h.rules ≡ sorted → OverStates count rules (λ g. IsInOrder scale labels g h)
    over_states names h named has_names has_rules others long =
        let o : IsInOrder scale labels (over count rules) h = in_order scale labels (over count rules) now s h (has_names ∙ named ∙ ap names_of (sym (length-names_of count))) (has_rules ∙ same_rules) in
        record { names = has_names ∙ named ∙ ap names_of (sym long); kept = o.kept; least = o.least; whole = o.whole; ascends = o.ascends }

    -- the name of the start and the sorted lines are the text of the grammar
    pub printed_text :
        (names : List (List ℕ)) (h : GrammarOf) → names ≡ names_of count → h.names ≡ names → h.rules ≡ sorted → (start : List ℕ) (lines : List Line) → lines ≡ now → slice_get names 0 ≡ Some start →
        (text : List ℕ) → text ≡ (start ++ 10 ∷ []) ++ lines_text lines → text ≡ grammar_text scale labels h
    printed_text names h named has_names has_rules start lines these first text is =
        let canonical : names_of (length (names_of count)) ≡ names = ap names_of (length-names_of count) ∙ sym named in
        let each : Each (IsLineAt scale names labels rules) lines =
        subst (λ (ns : List (List ℕ)). Each (IsLineAt scale ns labels rules) lines) canonical (subst (Each (IsLineAt scale (names_of (length (names_of count))) labels rules)) (sym these) s.lines) in
        lines_grammar scale names labels rules sorted start text lines h each (same_rules ∙ ap (λ (ls : List Line). map (λ (l : Line). rule_at rules l.position) ls) (sym these)) has_names has_rules
        (sym (get_or_from_slice_get names 0 start [] first)) is

pub some_names : (names : List (List ℕ)) (count : ℕ) → names ≡ names_of count → 0 < count → 0 < length names
some_names names count named h = omega (arith, ap length named, length-names_of count)
