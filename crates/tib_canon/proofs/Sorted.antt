-- Rules in the order of the lines of a text.
use Rattle.tib_cost.specs.declared.Scale.{Scale}
use Rattle.std.proofs.Common.{◌≡◌, ℕ, ◌+◌, ◌<◌, List, [], ◌∷◌, ◌++◌, length, map, get_or, refl, ap, sym, ◌∙◌, subst, arith, zero, suc, inl, inr, ◌⊎◌, append_assoc, length-append, Option}
use Rattle.std.specs.Prelude.{IsPermutation, IsSorted, Some, None, slice_get}
use Rattle.std.specs.Ordering.{nat_cmp, ordering_then}
use Rattle.std.specs.Cmp.Lexicographic.{slice_cmp}
use Rattle.std.specs.declared.cmp.Ordering.TheVariants.{Less}
use Rattle.std.proofs.lemmas.List.{length-map, get_or-map, get_or_append_left}
use Rattle.std.proofs.Math.Seq.{get_or-append_seam}
use Rattle.std.proofs.lemmas.List.Sorted.{IsPermutation-map, IsPermutation-sym, length_permutation}
use Rattle.std.proofs.lemmas.Option.{get_or_from_slice_get}
use Rattle.tib_lex.specs.Lines.{HasNoFeed, HasLines}
use Rattle.tib_lex.specs.Lists.{Has, Each, Distinct, Ascends}
use Rattle.tib_lex.proofs.Lists.{Ascends-from, has_mapped, mapped_has}
use Rattle.tib_lex.proofs.Members.{has_at, at_has, each_has, each_of, has_either, has_left, has_right, distinct_more}
use Rattle.tib_lex.proofs.Numbers.{below_cases}
use Rattle.tib_tree.specs.Grows.{AreDistinct}
use Rattle.tib_grammar.specs.StateName.{AreStateNames, IsStateName}
use Rattle.tib_grammar.specs.Sides.{Symbol, label, hole}
use Rattle.tib_tree.specs.Trees.{preorder_of}
use Rattle.tib_transducer.specs.Range.{AreWithin, AreShaped, EndInHoles}
use Rattle.tib_transducer.specs.Rules.{transducer_rule, no_rule}
use Rattle.tib_transducer.specs.TransducerOf.{TransducerOf}
use Rattle.tib_transducer.specs.declared.Variable.{Variable}
use Rattle.tib_transducer.specs.declared.Pair.{Pair}
use Rattle.tib_transducer.specs.declared.TransducerRule.{TransducerRule}
use Rattle.tib_transducer_file.specs.Labelled.{IsAskedBelow, IsBelowOnLeft, IsBelowOnRight, AreLabelled}
use Rattle.tib_transducer_file.specs.ByName.{IsPrintable, IsPlainAsked, IsPlainOnLeft, IsPlainOnRight, line_text}
use Rattle.tib_transducer_file.specs.Printed.{rule_text, rules_text, transducer_text}
use Rattle.tib_transducer_file.proofs.Fitting.{IsGood}
use Rattle.tib_transducer_file.proofs.PrintedBytes.{lines_in, transducer_lines}
use Rattle.tib_canon.specs.Lines.{lines_text}
use Rattle.tib_canon.specs.declared.lines.Line.{Line}
use Rattle.tib_canon.proofs.Permuting.{has_permuted, distinct_permuted, distinct_at}
use Rattle.tib_canon.specs.LineOrder.{text_cmp, line_cmp}
use Rattle.tib_canon.proofs.Sorting.{sorted_apart}
use Rattle.tib_canon.proofs.Within.{distinct_texts}
use Rattle.tib_canon.specs.TransducerLines.{fed, AreLinesOf, IsMoveLine, up_to}
use Rattle.tib_canon.specs.Ordered.{move_cmp, AgreeInSides, Differ, IsSortedForm}
use Rattle.tib_canon.proofs.Merged.{agree_back}
use Rattle.tib_canon.proofs.TransducerTelling.{move_fed, told_by_line}

-- rules that can be printed over the names of their states
pub all_good :
    (scale : Scale) (names labels : List (List ℕ)) (rules : List (TransducerRule ℕ)) → Each (IsPrintable scale labels) rules → AreShaped rules → AreWithin (length names) rules → EndInHoles rules → Each (IsGood scale names labels) rules
all_good scale names labels [] p s w l = tt
all_good scale names labels (r ∷ rules) p s w l = (
  record { printable = p.0; shaped = s 0 (omega arith); within = w 0 (omega arith); leaves = l 0 (omega arith) },
  all_good scale names labels rules p.1 (λ m k. s (suc m) (omega arith)) (λ m k. w (suc m) (omega arith)) (λ m k. l (suc m) (omega arith)),
)

-- the text of a transducer by its lines

lines_free : (lines : List (List ℕ)) (bytes : List ℕ) → HasLines lines bytes → Each HasNoFeed lines
lines_free [] bytes h = tt
lines_free (line ∷ lines) bytes h = (
  h.0,
  elim h.1 [
    | inl e ↦ subst (Each HasNoFeed) (sym e.last) tt
    | inr r ↦ lines_free lines r.0 r.2
  ],
)

rules_fed : (scale : Scale) (names labels : List (List ℕ)) (rules : List (TransducerRule ℕ)) → rules_text scale names labels rules ≡ fed (lines_in scale names labels rules)
rules_fed scale names labels [] = refl
rules_fed scale names labels (r ∷ rules) =
    ap (λ (t : List ℕ). t ++ rules_text scale names labels rules) (move_fed scale names labels r)
    ∙ append_assoc (line_text scale names labels r) (10 ∷ []) (rules_text scale names labels rules)
    ∙ ap (λ (t : List ℕ). line_text scale names labels r ++ 10 ∷ t) (rules_fed scale names labels rules)

pub text_lines : (scale : Scale) (labels : List (List ℕ)) (t : TransducerOf) → Each IsStateName t.names → Each (IsGood scale t.names labels) t.rules → AreLinesOf (transducer_text scale labels t) (get_or t.names 0 [] ∷ lines_in scale t.names labels t.rules)
text_lines scale labels t names good = record {
  is = append_assoc (get_or t.names 0 []) (10 ∷ []) (rules_text scale t.names labels t.rules) ∙ ap (λ (x : List ℕ). get_or t.names 0 [] ++ 10 ∷ x) (rules_fed scale t.names labels t.rules);
  free = lines_free (get_or t.names 0 [] ∷ lines_in scale t.names labels t.rules) (transducer_text scale labels t) (transducer_lines scale labels t names good);
}

pub as_many_lines : (scale : Scale) (names labels : List (List ℕ)) (rules : List (TransducerRule ℕ)) → length (lines_in scale names labels rules) ≡ length rules
as_many_lines scale names labels [] = refl
as_many_lines scale names labels (r ∷ rules) = ap suc (as_many_lines scale names labels rules)

line_at : (scale : Scale) (names labels : List (List ℕ)) (rules : List (TransducerRule ℕ)) (p : ℕ) → p < length rules → get_or (lines_in scale names labels rules) p [] ≡ line_text scale names labels (transducer_rule rules p)
line_at scale names labels [] p h = absurd (omega arith)
line_at scale names labels (r ∷ rules) zero h = refl
line_at scale names labels (r ∷ rules) (suc p) h = line_at scale names labels rules p (omega arith)

-- the numbers below n, in order

up_low : (n p : ℕ) → Has (up_to n) p → p < n
up_low zero p h = absurd h
up_low (suc n) p h = elim (has_either (up_to n) (n ∷ []) p h) [
  | inl k ↦ (let low = up_low n p k in omega arith)
  | inr k ↦ elim k [ inl e ↦ omega (arith, e) | inr a ↦ absurd a ]
]

up_has : (n p : ℕ) → p < n → Has (up_to n) p
up_has zero p h = absurd (omega arith)
up_has (suc n) p h = elim (below_cases p n (omega arith)) [
  | inl low ↦ has_left (up_to n) (n ∷ []) p (up_has n p low)
  | inr e ↦ has_right (up_to n) (n ∷ []) p (inl (sym e))
]

up_once : (n : ℕ) → Distinct (up_to n)
up_once zero = tt
up_once (suc n) = distinct_more (up_to n) n (up_once n) (λ h. let low = up_low n n h in omega arith)

-- rules that differ one by one
differ_at : (xs : List (TransducerRule ℕ)) (i j : ℕ) → Ascends Differ xs → i < j → j < length xs → Differ (transducer_rule xs i) (transducer_rule xs j)
differ_at [] i j a h k = absurd (omega arith)
differ_at (x ∷ xs) i zero a h k = absurd (omega arith)
differ_at (x ∷ xs) zero (suc j) a h k = each_has (Differ x) xs (transducer_rule xs j) a.0 (has_at xs j no_rule (omega arith))
differ_at (x ∷ xs) (suc i) (suc j) a h k = differ_at xs i j a.1 (omega arith) (omega arith)

apart_or_same : (i j : ℕ) → (i ≡ j) ⊎ ((i < j) ⊎ (j < i))
apart_or_same i j = grind arith

one_place : (xs : List (TransducerRule ℕ)) (i j : ℕ) → Ascends Differ xs → i < length xs → j < length xs → AgreeInSides (transducer_rule xs i) (transducer_rule xs j) → i ≡ j
one_place xs i j a h k e = elim (apart_or_same i j) [
  | inl same ↦ same
  | inr other ↦ elim other [
    | inl low ↦ absurd (differ_at xs i j a low k e)
    | inr high ↦ absurd (differ_at xs j i a high h (agree_back (transducer_rule xs i) (transducer_rule xs j) e))
  ]
]

-- what is known of the line of a rule
pub record IsKnown (scale : Scale) (labels : List (List ℕ)) (t : TransducerOf) (line : Line) : Type 0 where
  pub below : line.position < length t.rules
  pub state : line.left ≡ (transducer_rule t.rules line.position).state
  pub text : line.text.now ≡ line_text scale t.names labels (transducer_rule t.rules line.position)

-- what is known once the lines are sorted
pub record AreSortedLines (scale : Scale) (labels : List (List ℕ)) (t : TransducerOf) (now : List Line) : Type 0 where
  pub known : Each (IsKnown scale labels t) now
  pub places : IsPermutation (up_to (length t.rules)) (map (λ (l : Line). l.position) now)
  pub sorted : IsSorted line_cmp now
  pub names : AreStateNames t.names
  pub labels_apart : Distinct labels
  pub good : Each (IsGood scale t.names labels) t.rules
  pub apart : Ascends Differ t.rules

known_line :
    (scale : Scale) (labels : List (List ℕ)) (t : TransducerOf) (texts : List (List ℕ)) → texts ≡ get_or t.names 0 [] ∷ lines_in scale t.names labels t.rules → (line : Line) → IsMoveLine t.rules texts line → IsKnown scale labels t line
known_line scale labels t texts e line is = record {
  below = is.below;
  state = is.state;
  text = is.text ∙ ap (λ (ls : List (List ℕ)). get_or ls (suc line.position) []) e ∙ line_at scale t.names labels t.rules line.position is.below;
}

pub lines_sorted :
    (scale : Scale) (labels : List (List ℕ)) (t : TransducerOf) (texts : List (List ℕ)) (lines now : List Line) (rules : List (TransducerRule ℕ)) → texts ≡ get_or t.names 0 [] ∷ lines_in scale t.names labels t.rules → rules ≡ t.rules →
    Each (IsMoveLine rules texts) lines → map (λ (l : Line). l.position) lines ≡ up_to (length rules) → IsPermutation lines now → IsSorted line_cmp now → AreStateNames t.names → AreDistinct labels → Each (IsGood scale t.names labels) t.rules →
    Ascends Differ t.rules → AreSortedLines scale labels t now
lines_sorted scale labels t texts lines now rules e r each places permuted sorted names apart good differ =
    let own : Each (IsMoveLine t.rules texts) lines = subst (λ (rs : List (TransducerRule ℕ)). Each (IsMoveLine rs texts) lines) r each in
    let at : map (λ (l : Line). l.position) lines ≡ up_to (length t.rules) = places ∙ ap (λ (rs : List (TransducerRule ℕ)). up_to (length rs)) r in
    record {
      known = each_of (IsKnown scale labels t) now (λ l h. known_line scale labels t texts e l (each_has (IsMoveLine t.rules texts) lines l own (has_permuted now lines l (IsPermutation-sym lines now permuted) h)));
      places = subst (λ ps. IsPermutation ps (map (λ (l : Line). l.position) now)) at (IsPermutation-map (λ (l : Line). l.position) lines now permuted);
      sorted = sorted;
      names = names;
      labels_apart = distinct_texts labels apart;
      good = good;
      apart = differ;
    }

module _ (scale : Scale) (labels : List (List ℕ)) (t : TransducerOf) (now : List Line) (s : AreSortedLines scale labels t now) where
  abbrev rule_of : Line → TransducerRule ℕ
  rule_of l = transducer_rule t.rules l.position

  abbrev positions : List ℕ
  positions = map (λ (l : Line). l.position) now

  line_known : (l : Line) → Has now l → IsKnown scale labels t l
  line_known l h = each_has (IsKnown scale labels t) now l s.known h

  is_good : (l : Line) → Has now l → IsGood scale t.names labels (rule_of l)
  is_good l h = each_has (IsGood scale t.names labels) t.rules (rule_of l) s.good (has_at t.rules l.position no_rule (line_known l h).below)

  pub once : Distinct positions
  once = distinct_permuted (up_to (length t.rules)) positions s.places (up_once (length t.rules))

  pub places_below : (i : ℕ) → i < length positions → get_or positions i 0 < length t.rules
  places_below i h =
      up_low (length t.rules) (get_or positions i 0) (has_permuted positions (up_to (length t.rules)) (get_or positions i 0) (IsPermutation-sym (up_to (length t.rules)) positions s.places) (has_at positions i 0 h))

  to : (r : TransducerRule ℕ) → Has (map rule_of now) r → Has t.rules r
  to r h = let l = has_mapped rule_of now r h in subst (Has t.rules) l.2 (has_at t.rules l.0.position no_rule (line_known l.0 l.1).below)

  from : (r : TransducerRule ℕ) → Has t.rules r → Has (map rule_of now) r
  from r h =
      let m = at_has t.rules r no_rule h in
      let place = has_permuted (up_to (length t.rules)) positions m.0 s.places (up_has (length t.rules) m.0 m.1) in
      let l = has_mapped (λ (x : Line). x.position) now m.0 place in
      subst (Has (map rule_of now)) (ap (transducer_rule t.rules) l.2 ∙ m.2) (mapped_has rule_of now l.0 l.1)

  less_from : (x y : Line) → Has now x → Has now y → (x.position ≡ y.position → ⊥) → (text_cmp x y ≡ Less) ⊎ ((x.left ≡ y.left) × (x.text.now ≡ y.text.now)) → move_cmp scale t.names labels (rule_of x) (rule_of y) ≡ Less
  less_from x y h k apart (inl e) =
      let a = line_known x h in
      let b = line_known y k in
      ap (λ n. ordering_then (nat_cmp n (rule_of y).state) (slice_cmp nat_cmp (line_text scale t.names labels (rule_of x)) (line_text scale t.names labels (rule_of y)))) (sym a.state)
      ∙ ap (λ n. ordering_then (nat_cmp x.left n) (slice_cmp nat_cmp (line_text scale t.names labels (rule_of x)) (line_text scale t.names labels (rule_of y)))) (sym b.state)
      ∙ ap (λ (z : List ℕ). ordering_then (nat_cmp x.left y.left) (slice_cmp nat_cmp z (line_text scale t.names labels (rule_of y)))) (sym a.text)
      ∙ ap (λ (z : List ℕ). ordering_then (nat_cmp x.left y.left) (slice_cmp nat_cmp x.text.now z)) (sym b.text)
      ∙ e
  less_from x y h k apart (inr e) =
      let a = line_known x h in
      let b = line_known y k in
      let line : line_text scale t.names labels (rule_of x) ≡ line_text scale t.names labels (rule_of y) = sym a.text ∙ e.1 ∙ b.text in
      let sides = told_by_line scale t.names labels (rule_of x) (rule_of y) s.names s.labels_apart (is_good x h) (is_good y k) line in
      absurd (apart (one_place t.rules x.position y.position s.apart a.below b.below (record { state = sym a.state ∙ e.0 ∙ b.state; left = sides.0; right = sides.1 })))

  pair_ascends : (d : Line) (i j : ℕ) → i < j → j < length now → move_cmp scale t.names labels (rule_of (get_or now i d)) (rule_of (get_or now j d)) ≡ Less
  pair_ascends d i j h k =
      less_from (get_or now i d) (get_or now j d) (has_at now i d (omega arith)) (has_at now j d k)
      (λ e. distinct_at positions 0 i j once h (omega (arith, length-map now (λ (l : Line). l.position)))
      (get_or-map (λ (l : Line). l.position) now i d 0 (omega arith) ∙ e ∙ sym (get_or-map (λ (l : Line). l.position) now j d 0 k)))
      (sorted_apart now i j d s.sorted (omega arith) k)

  mapped_ascends : (d : Line) → Ascends (λ r u. move_cmp scale t.names labels r u ≡ Less) (map rule_of now)
  mapped_ascends d =
      Ascends-from (λ r u. move_cmp scale t.names labels r u ≡ Less) (map rule_of now) (rule_of d) (λ i j h k.
      let long : j < length now = omega (arith, k, length-map now rule_of) in
      let one : get_or (map rule_of now) i (rule_of d) ≡ rule_of (get_or now i d) = get_or-map rule_of now i d (rule_of d) (omega arith) in
      let two : get_or (map rule_of now) j (rule_of d) ≡ rule_of (get_or now j d) = get_or-map rule_of now j d (rule_of d) long in
      subst (λ r. move_cmp scale t.names labels r (get_or (map rule_of now) j (rule_of d)) ≡ Less) (sym one)
      (subst (λ u. move_cmp scale t.names labels (rule_of (get_or now i d)) u ≡ Less) (sym two) (pair_ascends d i j h long)))

  rules_ascend : (lines : List Line) → lines ≡ now → Ascends (λ r u. move_cmp scale t.names labels r u ≡ Less) (map rule_of lines)
  rules_ascend [] e = tt
  rules_ascend (d ∷ lines) e = subst (λ (ls : List Line). Ascends (λ r u. move_cmp scale t.names labels r u ≡ Less) (map rule_of ls)) (sym e) (mapped_ascends d)

  map_twice : (lines : List Line) → map (transducer_rule t.rules) (map (λ (l : Line). l.position) lines) ≡ map rule_of lines
  map_twice [] = refl
  map_twice (l ∷ lines) = ap (λ rs. rule_of l ∷ rs) (map_twice lines)

  pub few_sorted : (sorted : List (TransducerRule ℕ)) → sorted ≡ map (transducer_rule t.rules) positions → (r : TransducerRule ℕ) → Has sorted r → Has t.rules r
  few_sorted sorted e r h = to r (subst (λ (rs : List (TransducerRule ℕ)). Has rs r) (e ∙ map_twice now) h)

  pub sorted_form : (h : TransducerOf) → h.names ≡ t.names → h.rules ≡ map (transducer_rule t.rules) positions → IsSortedForm scale labels t h
  sorted_form h named ruled =
      let is : h.rules ≡ map rule_of now = ruled ∙ map_twice now in
      record {
        names = named;
        to = λ r k. to r (subst (λ (rs : List (TransducerRule ℕ)). Has rs r) is k);
        from = λ r k. subst (λ (rs : List (TransducerRule ℕ)). Has rs r) (sym is) (from r k);
        ascends = subst (λ (ns : List (List ℕ)). Ascends (λ r u. move_cmp scale ns labels r u ≡ Less) h.rules) (sym named)
            (subst (Ascends (λ r u. move_cmp scale t.names labels r u ≡ Less)) (sym is) (rules_ascend now refl));
      }

  lines_rules : (lines : List Line) → Each (IsKnown scale labels t) lines → lines_text lines ≡ rules_text scale t.names labels (map rule_of lines)
  lines_rules [] e = refl
  lines_rules (l ∷ lines) e =
      ap (λ (x : List ℕ). (x ++ 10 ∷ []) ++ lines_text lines) e.0.text
      ∙ ap (λ (x : List ℕ). x ++ lines_text lines) (sym (move_fed scale t.names labels (rule_of l)))
      ∙ ap (λ (x : List ℕ). rule_text scale t.names labels (rule_of l) ++ x) (lines_rules lines e.1)

  -- the name of the start and the sorted lines are the text
  pub sorted_text :
      (h : TransducerOf) → h.names ≡ t.names → h.rules ≡ map (transducer_rule t.rules) positions → (start text : List ℕ) → slice_get t.names 0 ≡ Some start → text ≡ (start ++ 10 ∷ []) ++ lines_text now → text ≡ transducer_text scale labels h
  sorted_text h named ruled start text first is =
      is ∙ ap (λ (x : List ℕ). (x ++ 10 ∷ []) ++ lines_text now) (sym (get_or_from_slice_get t.names 0 start [] first))
      ∙ ap (λ (x : List ℕ). (get_or t.names 0 [] ++ 10 ∷ []) ++ x) (lines_rules now s.known ∙ ap (rules_text scale t.names labels) (sym (ruled ∙ map_twice now)))
      ∙ ap (λ (ns : List (List ℕ)). (get_or ns 0 [] ++ 10 ∷ []) ++ rules_text scale ns labels h.rules) (sym named)

pub length-up : (n : ℕ) → length (up_to n) ≡ n
length-up zero = refl
length-up (suc n) = omega (arith, length-append (up_to n) (n ∷ []), length-up n)

pub up_at : (n p : ℕ) → p < n → get_or (up_to n) p 0 ≡ p
up_at zero p h = absurd (omega arith)
up_at (suc n) p h = elim (below_cases p n (omega arith)) [
  | inl low ↦ get_or_append_left (up_to n) (n ∷ []) 0 p (omega (arith, low, length-up n)) ∙ up_at n p low
  | inr e ↦ ap (λ i. get_or (up_to n ++ n ∷ []) i 0) (e ∙ sym (length-up n)) ∙ get_or-append_seam (up_to n) n [] 0 ∙ sym e
]

-- the lines of a printed transducer, cut and sorted
pub sorted_ready :
    (scale : Scale) (labels : List (List ℕ)) (t : TransducerOf) (bytes printed : List ℕ) (texts : List (List ℕ)) (lines now : List Line) (rules : List (TransducerRule ℕ)) → bytes ≡ printed → printed ≡ transducer_text scale labels t →
    ((ls : List (List ℕ)) → AreLinesOf bytes ls → texts ≡ ls) → rules ≡ t.rules → Each (IsMoveLine rules texts) lines → map (λ (l : Line). l.position) lines ≡ up_to (length rules) → IsPermutation lines now → IsSorted line_cmp now →
    AreStateNames t.names → AreDistinct labels → Each (IsPrintable scale labels) t.rules → AreShaped t.rules → AreWithin (length t.names) t.rules → EndInHoles t.rules → Ascends Differ t.rules → AreSortedLines scale labels t now
sorted_ready scale labels t bytes printed texts lines now rules a b cut r each places permuted sorted names apart p s w l differ =
    let good = all_good scale t.names labels t.rules p s w l in
    let are = text_lines scale labels t names.each good in
    lines_sorted scale labels t texts lines now rules (cut (get_or t.names 0 [] ∷ lines_in scale t.names labels t.rules) (record { is = a ∙ b ∙ are.is; free = are.free })) r each places permuted sorted names apart good differ

-- the text of a transducer has lines, one more than it has rules
pub has_lines :
    (scale : Scale) (labels : List (List ℕ)) (t : TransducerOf) (bytes printed : List ℕ) → bytes ≡ printed → printed ≡ transducer_text scale labels t → AreStateNames t.names → Each (IsPrintable scale labels) t.rules → AreShaped t.rules →
    AreWithin (length t.names) t.rules → EndInHoles t.rules → AreLinesOf bytes (get_or t.names 0 [] ∷ lines_in scale t.names labels t.rules)
has_lines scale labels t bytes printed a b names p s w l =
    let are = text_lines scale labels t names.each (all_good scale t.names labels t.rules p s w l) in
    record { is = a ∙ b ∙ are.is; free = are.free }

pub many_lines :
    {B : Type 0} (v : B → List ℕ) (scale : Scale) (names labels : List (List ℕ)) (rules part : List (TransducerRule ℕ)) (texts some : List B) → map v texts ≡ get_or names 0 [] ∷ lines_in scale names labels rules → some ≡ texts → part ≡ rules → length some ≡ 1 + length part
many_lines v scale names labels rules part texts some e a b = omega (arith, ap length e, length-map texts v, as_many_lines scale names labels rules, ap length a, ap length b)

module _ (scale : Scale) (labels : List (List ℕ)) (t : TransducerOf) (now : List Line) (s : AreSortedLines scale labels t now) (part : List Line) (positions : List ℕ) (same : part ≡ now) (are : positions ≡ map (λ (l : Line). l.position) part) where
  placed : positions ≡ map (λ (l : Line). l.position) now
  placed = are ∙ ap (map (λ (l : Line). l.position)) same

  module _ (given : List ℕ) (is : given ≡ positions) (rules : List (TransducerRule ℕ)) (own : rules ≡ t.rules) where
    pub given_below : (i : ℕ) → i < length given → get_or given i 0 < length rules
    given_below i h =
        let low = places_below scale labels t now s i (omega (arith, h, ap length (is ∙ placed))) in
        let at : get_or given i 0 ≡ get_or (map (λ (l : Line). l.position) now) i 0 = ap (λ ps. get_or ps i 0) (is ∙ placed) in
        omega (arith, low, at, ap length own)

    pub given_apart : Distinct given
    given_apart = subst Distinct (sym (is ∙ placed)) (once scale labels t now s)

    module _ (sorted : List (TransducerRule ℕ)) (e : sorted ≡ map (transducer_rule rules) given) where
      rules_are : sorted ≡ map (transducer_rule t.rules) (map (λ (l : Line). l.position) now)
      rules_are = e ∙ ap (λ (rs : List (TransducerRule ℕ)). map (transducer_rule rs) given) own ∙ ap (map (transducer_rule t.rules)) (is ∙ placed)

      pub few_rules : length t.rules < 4294967296 → length sorted < 4294967296
      few_rules few =
          omega (arith, few, ap length rules_are, length-map (map (λ (l : Line). l.position) now) (transducer_rule t.rules), length_permutation (up_to (length t.rules)) (map (λ (l : Line). l.position) now) s.places, length-up (length t.rules))

      pub stand : (r : TransducerRule ℕ) → Has sorted r → Has t.rules r
      stand = few_sorted scale labels t now s sorted rules_are

      pub form_is : (h : TransducerOf) (names : List (List ℕ)) → h.names ≡ names → names ≡ t.names → h.rules ≡ sorted → IsSortedForm scale labels t h
      form_is h names a b c = sorted_form scale labels t now s h (a ∙ b) (c ∙ rules_are)

      pub text_is :
          (h : TransducerOf) (names : List (List ℕ)) → h.names ≡ names → names ≡ t.names → h.rules ≡ sorted → (start text : List ℕ) (lines : List Line) → slice_get t.names 0 ≡ Some start → lines ≡ now → text ≡ (start ++ 10 ∷ []) ++ lines_text lines →
          text ≡ transducer_text scale labels h
      text_is h names a b c start text lines first l x =
          sorted_text scale labels t now s h (a ∙ b) (c ∙ rules_are) start text first (x ∙ ap (λ (ls : List Line). (start ++ 10 ∷ []) ++ lines_text ls) l)

-- rules that can be printed have labels in the table

asked_labelled : (labels : List (List ℕ)) (asked : Option ℕ) → IsPlainAsked labels asked → IsAskedBelow (length labels) asked
asked_labelled labels None h = tt
asked_labelled labels (Some f) h = h.0

left_labelled : (labels : List (List ℕ)) (xs : List (Symbol ℕ Variable × ℕ)) → Each (λ s. IsPlainOnLeft labels s.0) xs → Each (λ s. IsBelowOnLeft (length labels) s.0) xs
left_labelled labels [] h = tt
left_labelled labels ((label f, n) ∷ xs) h = (h.0.0, left_labelled labels xs h.1)
left_labelled labels ((hole x, n) ∷ xs) h = (asked_labelled labels x.label h.0, left_labelled labels xs h.1)

right_labelled : (labels : List (List ℕ)) (xs : List (Symbol ℕ (Pair ℕ) × ℕ)) → Each (λ s. IsPlainOnRight labels s.0) xs → Each (λ s. IsBelowOnRight (length labels) s.0) xs
right_labelled labels [] h = tt
right_labelled labels ((label f, n) ∷ xs) h = (h.0.0, right_labelled labels xs h.1)
right_labelled labels ((hole x, n) ∷ xs) h = (tt, right_labelled labels xs h.1)

pub all_labelled : (scale : Scale) (labels : List (List ℕ)) (rules : List (TransducerRule ℕ)) → Each (IsPrintable scale labels) rules → AreLabelled (length labels) rules
all_labelled scale labels [] p = tt
all_labelled scale labels (r ∷ rules) p = (
  record { left = left_labelled labels (preorder_of r.left) p.0.left; right = right_labelled labels (preorder_of r.right) p.0.right },
  all_labelled scale labels rules p.1,
)
