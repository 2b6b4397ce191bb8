-- A grammar whose states are the start and the left states of its rules, each where it first is, is
-- read from its text as it is.
use Rattle.tib_cost.specs.declared.Scale.{Scale}
use Rattle.std.proofs.Common.{◌≡◌, ℕ, ◌<◌, List, [], ◌∷◌, ◌++◌, length, map, get_or, refl, ap, sym, ◌∙◌, subst, arith, suc, inl, inr, append_assoc}
use Rattle.std.specs.Prelude.{Contains}
use Rattle.std.proofs.lemmas.List.{get_or-map, length-map, map-append}
use Rattle.tib_lex.specs.Lists.{Has}
use Rattle.tib_lex.proofs.Lists.{append_nil, has_mapped, mapped_has, map_twice}
use Rattle.tib_lex.proofs.Members.{has_at, at_has, has_contains, has_either}
use Rattle.tib_lex.proofs.Places.{distinct_at}
use Rattle.tib_tree.specs.Grows.{Adds, AddsAll}
use Rattle.tib_tree.specs.Trees.{Trees, none, tree, only, relabel}
use Rattle.tib_grammar.specs.GrammarOf.{GrammarOf, named_rule}
use Rattle.tib_grammar.specs.Range.{AreInRange, SidesEndInHoles}
use Rattle.tib_grammar.specs.Run.{rule_at, no_rule}
use Rattle.tib_grammar.specs.Sides.{Symbol, label, hole, symbol_map, HolesAreLeaves}
use Rattle.tib_grammar.specs.StateName.{AreStateNames}
use Rattle.tib_grammar.specs.declared.Rule.{Rule}
use Rattle.tib_grammar_file.specs.ByName.{HasText, HaveRules}
use Rattle.tib_grammar_file.specs.GrammarText.{GrammarText, first_text}
use Rattle.tib_grammar_file.specs.Printable.{HavePlainLabels, IsPrintable, ArePrintable}
use Rattle.tib_grammar_file.specs.Printed.{grammar_text}
use Rattle.tib_grammar_file.proofs.PrintedBack.{prints_as}
use Rattle.tib_grammar_file.proofs.PrintedLines.{rows_in}
use Rattle.tib_grammar_file.proofs.PrintedSorted.{names_own}
use Rattle.tib_grammar_file.proofs.PrintedStates.{contains_has}
use Rattle.tib_canon.proofs.TrimmedOnce.{leaves_back}
use Rattle.tib_trim.specs.FirstSeen.{firsts, states_of}
use Rattle.tib_trim.specs.TrimmedFile.{HasRules, HaveCosts}
use Rattle.tib_trim.proofs.Assembled.{costs_range}
use Rattle.tib_trim.proofs.FirstSeen.{firsts_has, has_firsts, firsts_more, firsts_same, seen_or_new, states_has, states_below, states_distinct}
use Rattle.tib_trim.proofs.Numbered.{all_stay, rule_stays, kept_state_names}
use Rattle.tib_canon.proofs.PrintableRules.{plain_back}

-- the names of the left states, as they are in the lines
lefts_are :
    (scale : Scale) (names labels : List (List ℕ)) (rules : List (Rule ℕ)) → map first_text (rows_in scale names labels rules) ≡ map (λ (r : Rule ℕ). get_or names r.left []) rules
lefts_are scale names labels [] = refl
lefts_are scale names labels (r ∷ rules) = ap (λ (xs : List (List ℕ)). get_or names r.left [] ∷ xs) (lefts_are scale names labels rules)

-- the names of the start and of the left states
abbrev pub sights : GrammarOf → List (List ℕ)
sights g = get_or g.names 0 [] ∷ map (λ (r : Rule ℕ). get_or g.names r.left []) g.rules

-- where the names are these by first sight, the grammar is read as it is
pub reads_first :
    (scale : Scale) (labels : List (List ℕ)) (g : GrammarOf) → HasText scale labels g → AddsAll [] (sights g) g.names → GrammarText scale labels (grammar_text scale labels g) g
reads_first scale labels g t first =
    subst (λ (rs : List (Rule ℕ)). GrammarText scale labels (grammar_text scale labels g) (record { names = g.names; rules = rs }))
    (all_stay (λ q. q) g.rules (λ n h. rule_stays (λ q. q) (rule_at g.rules n) refl (t.leaves n h) (λ q s. refl)))
    (prints_as scale labels g g.names (λ q. q) t
    (subst (λ (xs : List (List ℕ)). AddsAll [] (get_or g.names 0 [] ∷ xs) g.names) (sym (lefts_are scale g.names labels g.rules)) first) (names_own g.names))

-- the names of numbers, each where it first is
module _ (name : ℕ → List ℕ) (count : ℕ) (apart : (p q : ℕ) → p < count → q < count → name p ≡ name q → p ≡ q) where
  named_new : (xs : List ℕ) (q : ℕ) → ((p : ℕ) → Has xs p → p < count) → q < count → (Has xs q → ⊥) → Contains (map name (firsts xs)) (name q) → ⊥
  named_new xs q below b new c =
      let m = has_mapped name (firsts xs) (name q) (contains_has (map name (firsts xs)) (name q) c) in
      let h : Has xs m.0 = firsts_has xs m.0 m.1 in
      new (subst (Has xs) (apart m.0 q (below m.0 h) b m.2) h)

  named_one : (xs : List ℕ) (q : ℕ) → ((p : ℕ) → Has xs p → p < count) → q < count → Adds (map name (firsts xs)) (name q) (map name (firsts (xs ++ q ∷ [])))
  named_one xs q below b = elim (seen_or_new xs q) [
    | inl h ↦ inl (has_contains (map name (firsts xs)) (name q) (mapped_has name (firsts xs) q (has_firsts xs q h)), ap (map name) (firsts_same xs q h))
    | inr new ↦ inr (named_new xs q below b new, ap (map name) (firsts_more xs q new) ∙ map-append name (firsts xs) (q ∷ []))
  ]

  pub all_named :
      (xs qs : List ℕ) → ((p : ℕ) → Has xs p → p < count) → ((p : ℕ) → Has qs p → p < count) → AddsAll (map name (firsts xs)) (map name qs) (map name (firsts (xs ++ qs)))
  all_named xs [] below b = ap (λ (ys : List ℕ). map name (firsts ys)) (append_nil xs)
  all_named xs (q ∷ qs) below b = (
    map name (firsts (xs ++ q ∷ [])),
    named_one xs q below (b q (inl refl)),
    subst (λ (ys : List ℕ). AddsAll (map name (firsts (xs ++ q ∷ []))) (map name qs) (map name (firsts ys))) (append_assoc xs (q ∷ []) qs)
        (all_named (xs ++ q ∷ []) qs (λ p h. elim (has_either xs (q ∷ []) p h) [
          | inl k ↦ below p k
          | inr k ↦ elim k [ inl e ↦ subst (λ (x : ℕ). x < count) e (b q (inl refl)) | inr bad ↦ absurd bad ]
        ]) (λ p h. b p (inr h))),
  )

-- what is the same at each rule is the same of all
map_each :
    {A : Type 0} (f g : Rule ℕ → A) (rules : List (Rule ℕ)) → ((n : ℕ) → n < length rules → f (rule_at rules n) ≡ g (rule_at rules n)) → map f rules ≡ map g rules
map_each f g [] h = refl
map_each f g (r ∷ rules) h = ap (λ x. x ∷ map f rules) (h 0 (omega arith)) ∙ ap (λ xs. g r ∷ xs) (map_each f g rules (λ n b. h (suc n) (omega arith)))

-- rules with the same left states
lefts_same :
    {A : Type 0} (f : ℕ → A) (xs ys : List (Rule ℕ)) → length xs ≡ length ys → ((n : ℕ) → n < length ys → (rule_at xs n).left ≡ (rule_at ys n).left) →
    map (λ (r : Rule ℕ). f r.left) xs ≡ map (λ (r : Rule ℕ). f r.left) ys
lefts_same f [] [] long h = refl
lefts_same f [] (y ∷ ys) long h = absurd (omega (arith, long))
lefts_same f (x ∷ xs) [] long h = absurd (omega (arith, long))
lefts_same f (x ∷ xs) (y ∷ ys) long h =
    ap (λ (q : ℕ). f q ∷ map (λ (r : Rule ℕ). f r.left) xs) (h 0 (omega arith))
    ∙ ap (λ zs. f y.left ∷ zs) (lefts_same f xs ys (omega (arith, long)) (λ n b. h (suc n) (omega (arith, b))))

-- the grammar of some rules over the start and their left states
module _
    (names : List (List ℕ)) (kept : List (Rule ℕ)) (g : GrammarOf) (has : HasRules names kept g) where
  abbrev pub state_at : ℕ → ℕ
  state_at i = get_or (states_of kept) i 0

  abbrev name : ℕ → List ℕ
  name q = get_or names q []

  pub names_long : length g.names ≡ length (states_of kept)
  names_long = ap length has.names ∙ length-map (states_of kept) name

  pub rules_long : length g.rules ≡ length kept
  rules_long = sym (length-map g.rules (named_rule state_at)) ∙ ap length has.named

  -- each rule is the one at its position, over other numbers
  pub kept_at : (n : ℕ) → n < length g.rules → named_rule state_at (rule_at g.rules n) ≡ rule_at kept n
  kept_at n h = sym (get_or-map (named_rule state_at) g.rules n no_rule no_rule h) ∙ ap (λ (rs : List (Rule ℕ)). rule_at rs n) has.named

  pub places_apart : (i j : ℕ) → i < length (states_of kept) → j < length (states_of kept) → state_at i ≡ state_at j → i ≡ j
  places_apart i j h k e = distinct_at (states_of kept) i j 0 (states_distinct kept) h k e

  pub leaves_too : SidesEndInHoles kept → SidesEndInHoles g.rules
  leaves_too leaves n h =
      leaves_back state_at (only (rule_at g.rules n).right) (subst (λ (r : Rule ℕ). HolesAreLeaves (only r.right)) (sym (kept_at n h)) (leaves n (omega (arith, h, rules_long))))

  pub printable_too : (scale : Scale) (labels : List (List ℕ)) → ArePrintable scale labels kept → ArePrintable scale labels g.rules
  printable_too scale labels p n h =
      let own : IsPrintable scale labels (named_rule state_at (rule_at g.rules n)) = subst (IsPrintable scale labels) (sym (kept_at n h)) (p n (omega (arith, h, rules_long))) in
      record { right = plain_back labels state_at (only (rule_at g.rules n).right) own.right; cost = own.cost }

  module _ (s : AreStateNames names) (some : 0 < length names) (range : AreInRange (length names) kept) where
    names_apart : (p q : ℕ) → p < length names → q < length names → name p ≡ name q → p ≡ q
    names_apart p q h k e = distinct_at names p q [] s.distinct h k e

    left_below : (q : ℕ) → Has (0 ∷ map (λ (r : Rule ℕ). r.left) kept) q → q < length names
    left_below q h = elim h [
      | inl e ↦ omega (arith, e, some)
      | inr k ↦
          let m = has_mapped (λ (r : Rule ℕ). r.left) kept q k in
          let at = at_has kept m.0 no_rule m.1 in
          subst (λ (x : ℕ). x < length names) (ap (λ (r : Rule ℕ). r.left) at.2 ∙ m.2) (range at.0 at.1).0
    ]

    -- the names are those of the start and of the left states, each where it first is
    left_name : (n : ℕ) → n < length g.rules → get_or g.names (rule_at g.rules n).left [] ≡ name (named_rule state_at (rule_at g.rules n)).left
    left_name n h =
        ap (λ (xs : List (List ℕ)). get_or xs (rule_at g.rules n).left []) has.names ∙ get_or-map name (states_of kept) (rule_at g.rules n).left 0 [] (has.in_range n h).0

    sights_are : sights g ≡ map name (0 ∷ map (λ (r : Rule ℕ). r.left) kept)
    sights_are =
        ap (λ (xs : List (List ℕ)). xs ++ map (λ (r : Rule ℕ). get_or g.names r.left []) g.rules) (ap (λ (xs : List (List ℕ)). get_or xs 0 [] ∷ []) has.names)
        ∙ ap (λ (xs : List (List ℕ)). name 0 ∷ xs)
        (map_each (λ (r : Rule ℕ). get_or g.names r.left []) (λ (r : Rule ℕ). name (state_at r.left)) g.rules left_name
        ∙ sym (map_twice (λ (r : Rule ℕ). name r.left) (named_rule state_at) g.rules)
        ∙ ap (map (λ (r : Rule ℕ). name r.left)) has.named
        ∙ sym (map_twice name (λ (r : Rule ℕ). r.left) kept))

    pub first_names : AddsAll [] (sights g) g.names
    first_names =
        subst (λ (xs : List (List ℕ)). AddsAll [] xs g.names) (sym sights_are)
        (subst (AddsAll [] (map name (0 ∷ map (λ (r : Rule ℕ). r.left) kept))) (sym has.names)
        (all_named name (length names) names_apart [] (0 ∷ map (λ (r : Rule ℕ). r.left) kept) (λ p h. absurd h) left_below))

    -- each state but the start has a rule
    rules_there : HaveRules g
    rules_there q first within =
        let below : q < length (states_of kept) = omega (arith, within, names_long) in
        elim (states_has kept (state_at q) (has_at (states_of kept) q 0 below)) [
          | inl e ↦ let same : q ≡ 0 = places_apart q 0 below (omega arith) e in absurd (omega (arith, first, same))
          | inr l ↦
              let own : l.0 < length g.rules = omega (arith, l.1, rules_long) in
              (l.0, own, places_apart (rule_at g.rules l.0).left q (has.in_range l.0 own).0 below (ap (λ (r : Rule ℕ). r.left) (kept_at l.0 own) ∙ l.2))
        ]

    pub has_text : (scale : Scale) (labels : List (List ℕ)) → SidesEndInHoles kept → ArePrintable scale labels g.rules → HasText scale labels g
    has_text scale labels leaves p = record {
      start = let first : 0 < length (states_of kept) = omega arith in omega (arith, names_long, first);
      names = subst AreStateNames (sym has.names) (kept_state_names names (states_of kept) s (states_below (length names) kept some range) (states_distinct kept));
      range = subst (λ (n : ℕ). AreInRange n g.rules) (sym names_long) has.in_range;
      leaves = leaves_too leaves;
      lefts = rules_there;
      printable = p;
    }

    pub reads_kept : (scale : Scale) (labels : List (List ℕ)) → SidesEndInHoles kept → ArePrintable scale labels kept → GrammarText scale labels (grammar_text scale labels g) g
    reads_kept scale labels leaves p = reads_first scale labels g (has_text scale labels leaves (printable_too scale labels p)) first_names

    -- and the same at other costs
    module _ (costs : List ℕ) (h : GrammarOf) (same : h.names ≡ g.names) (have : HaveCosts g.rules costs h.rules) where
      costed_names : AddsAll [] (sights h) h.names
      costed_names =
          subst (λ (ns : List (List ℕ)). AddsAll [] (get_or ns 0 [] ∷ map (λ (r : Rule ℕ). get_or ns r.left []) h.rules) ns) (sym same)
          (subst (λ (xs : List (List ℕ)). AddsAll [] (get_or g.names 0 [] ∷ xs) g.names)
          (sym (lefts_same (λ (q : ℕ). get_or g.names q []) h.rules g.rules have.as_many (λ n b. ap (λ (r : Rule ℕ). r.left) (have.each n b)))) first_names)

      costed_text : (scale : Scale) (labels : List (List ℕ)) → SidesEndInHoles kept → ArePrintable scale labels h.rules → HasText scale labels h
      costed_text scale labels leaves p =
          let own : (n : ℕ) → n < length h.rules → n < length g.rules = λ n b. omega (arith, b, have.as_many) in
          record {
            start = let first : 0 < length (states_of kept) = omega arith in omega (arith, names_long, ap length same, first);
            names = subst AreStateNames (sym (same ∙ has.names)) (kept_state_names names (states_of kept) s (states_below (length names) kept some range) (states_distinct kept));
            range = subst (λ (n : ℕ). AreInRange n h.rules) (sym (ap length same ∙ names_long)) (costs_range (length (states_of kept)) g.rules h.rules costs have has.in_range);
            leaves = λ n b. subst (λ (r : Rule ℕ). HolesAreLeaves (only r.right)) (sym (have.each n (own n b))) (leaves_too leaves n (own n b));
            lefts = λ q first within.
                let l = rules_there q first (omega (arith, within, ap length same)) in
                (l.0, omega (arith, l.1, have.as_many), ap (λ (r : Rule ℕ). r.left) (have.each l.0 l.1) ∙ l.2);
            printable = p;
          }

      pub reads_costed : (scale : Scale) (labels : List (List ℕ)) → SidesEndInHoles kept → ArePrintable scale labels h.rules → GrammarText scale labels (grammar_text scale labels h) h
      reads_costed scale labels leaves p = reads_first scale labels h (costed_text scale labels leaves p) costed_names
