-- Rules that are trimmed: they stay in normal form, have the trees of the others, and their errors
-- are errors of useful states.
use Rattle.std.specs.Prelude.{◌≡◌, ◌⊎◌, ◌↔◌, ℕ, ◌+◌, ◌<◌, ◌≤◌, Bool, Some, List, [], ◌∷◌, length, map, refl}
use Rattle.std.proofs.Common.{zero, suc, arith, ap, sym, ◌∙◌, subst, inl, inr, get_or}
use Rattle.std.proofs.lemmas.List.{length-map}
use Rattle.tib_lex.specs.Lists.{Has}
use Rattle.tib_lex.proofs.Lists.{mapped_has}
use Rattle.tib_lex.proofs.Members.{each_has, each_of, has_at}
use Rattle.tib_lex.proofs.Places.{distinct_at}
use Rattle.tib_cost.specs.Semiring.{ProductLaws}
use Rattle.tib_tree.specs.Trees.{Trees, none, tree, only, relabel}
use Rattle.tib_grammar.specs.Forms.{AreNormal, IsNormalSide, StandsInSide}
use Rattle.tib_grammar.specs.GrammarOf.{GrammarOf}
use Rattle.tib_grammar.specs.Range.{AreInRange}
use Rattle.tib_grammar.specs.Run.{rule_at, AreRuns}
use Rattle.tib_grammar.specs.Sides.{Side as SideFor, Symbol, label, hole, holes_of, side_map, symbol_map}
use Rattle.tib_grammar.proofs.Sides.{holes-relabel}
use Rattle.tib_grammar.specs.declared.Rule.{Rule}
use Rattle.tib_grammar_file.specs.Printed.{AreLabelled, LabelsBelow}
use Rattle.tib_inside.specs.Trimmed.{IsTrimmed}
use Rattle.tib_inside.specs.Useful.{IsUseful}
use Rattle.tib_inside.proofs.Chosen.{ascending_distinct}
use Rattle.tib_inside.proofs.Keeping.{as_many, named_at}
use Rattle.tib_ranked_trees.specs.Below.{IsDeterministicBelow}
use Rattle.tib_ranked_trees.specs.Levels.{IsOrderly}
use Rattle.tib_ranked_trees.specs.Best.{Costed, HasLarge, IsFrontAt, IsKBest, IsTreeAt}
use Rattle.tib_ranked_trees.proofs.Children.{get_or-map}
use Rattle.tib_k_best.specs.Causes.{IsCause, IsUsefulCause}
use Rattle.tib_k_best.specs.LazyLists.{AreUsefulLists}
use Rattle.tib_k_best.specs.Trimmed.{HaveTreesBelow, TrimmedHasTrees}
use Rattle.tib_k_best.specs.declared.error.KBestError.{KBestError}
use Rattle.tib_k_best.specs.declared.error.KBestError.TheVariants.{TreeTooLarge, OutOfMemory}
use Rattle.tib_k_best.specs.Levels.{IsRenamed, AreKept, NamesBelow}
use Rattle.tib_inside.proofs.StillNormal.{side_normal}
use Rattle.tib_k_best.proofs.UsefulStates.{start_useful}

-- a rule with other states has the same labels
labels_back : (n : ℕ) (g : ℕ → ℕ) (ts : Trees (Symbol ℕ ℕ)) → LabelsBelow n (relabel (symbol_map g) ts) → LabelsBelow n ts
labels_back n g none h = tt
labels_back n g (tree (label f) kids rest) h = (h.0, labels_back n g kids h.1, labels_back n g rest h.2)
labels_back n g (tree (hole q) kids rest) h = labels_back n g rest h

-- a state that has a tree is below the number of states
state_below : (product : ℕ → ℕ → ℕ) (rules : List (Rule ℕ)) (n q : ℕ) (y : Costed) → AreInRange n rules → IsTreeAt product rules q y → q < n
state_below product rules n q y range t = by t.attained.0.runs t.attained.0.are_runs
  where
    by : (runs : Trees ℕ) → AreRuns rules (q ∷ []) runs → q < n
    by none a = absurd a
    by (tree m runs rest) a = subst (λ p. p < n) a.1 (range m a.0).0

-- a name for each state, which determines its number

abbrev names_from : ℕ → ℕ → List (List ℕ)
names_from i zero = []
names_from i (suc n) = (i ∷ []) ∷ names_from (suc i) n

name_at : (i n q : ℕ) → q < n → get_or (names_from i n) q [] ≡ (i + q) ∷ []
name_at i zero q h = absurd (omega arith)
name_at i (suc n) zero h = ap (λ m. m ∷ []) (plus_none i)
  where
    plus_none : (m : ℕ) → m ≡ m + 0
    plus_none m = omega arith
name_at i (suc n) (suc q) h = name_at (suc i) n q (omega arith) ∙ ap (λ m. m ∷ []) (shifted i q)
  where
    shifted : (a b : ℕ) → suc a + b ≡ a + suc b
    shifted a b = omega arith

name_past : (i n q : ℕ) → n ≤ q → get_or (names_from i n) q [] ≡ []
name_past i zero q h = refl
name_past i (suc n) zero h = absurd (omega arith)
name_past i (suc n) (suc q) h = name_past (suc i) n q (omega arith)

below_or : (a b : ℕ) → (a < b) ⊎ (b ≤ a)
below_or a b = grind arith

name_tells : (n p q : ℕ) → q < n → get_or (names_from 0 n) q [] ≡ get_or (names_from 0 n) p [] → p ≡ q
name_tells n p q h e = elim (below_or p n) [
  | inl l ↦
      let same : (0 + q) ∷ [] ≡ (0 + p) ∷ [] = sym (name_at 0 n q h) ∙ e ∙ name_at 0 n p l in
      let tells : 0 + q ≡ 0 + p = cc in
      omega (arith, tells)
  | inr l ↦ absurd (let none : (0 + q) ∷ [] ≡ [] = sym (name_at 0 n q h) ∙ e ∙ name_past 0 n p l in cc)
]

-- the rules that are left have labels of the same table
pub labelled_kept : (product : ℕ → ℕ → ℕ) (before after : GrammarOf) → IsTrimmed product before after → (many : ℕ) → AreLabelled many before.rules → AreLabelled many after.rules
labelled_kept product before after is many labelled n h =
    let place : get_or is.rules n 0 < length before.rules = ((is.are_rules (get_or is.rules n 0)).0 (has_at is.rules n 0 (omega (arith, h, as_many product before after is)))).0.below in
    labels_back many (λ i. get_or is.states i 0) (only (rule_at after.rules n).right)
    (subst (λ (r : Rule ℕ). LabelsBelow many (only r.right)) (sym (named_at product before after is n h)) (labelled (get_or is.rules n 0) place))

module _ (product : ℕ → ℕ → ℕ) (old : List (Rule ℕ)) (count : ℕ) (states : List ℕ) (new : List (Rule ℕ)) (t : AreKept product old count states new) where
  abbrev named : ℕ → List ℕ
  named q = get_or (names_from 0 count) q []

  abbrev before : GrammarOf
  before = record { names = names_from 0 count; rules = old }

  abbrev after : GrammarOf
  after = record { names = map named states; rules = new }

  abbrev is : IsTrimmed product before after
  is = t.trimmed (names_from 0 count)

  old_place : (n : ℕ) → n < length new → get_or is.rules n 0 < length old
  old_place n h = ((is.are_rules (get_or is.rules n 0)).0 (has_at is.rules n 0 (omega (arith, h, as_many product before after is)))).0.below

  pub trimmed_normal : AreNormal old → AreNormal new
  trimmed_normal normal n h =
      side_normal (λ i. get_or is.states i 0) (rule_at new n).right (subst (λ (r : Rule ℕ). IsNormalSide r.right) (sym (named_at product before after is n h)) (normal (get_or is.rules n 0) (old_place n h)))

  pub trimmed_labelled : (many : ℕ) → AreLabelled many old → AreLabelled many new
  trimmed_labelled many labelled = labelled_kept product before after is many labelled

  pub trimmed_trees : AreNormal old → TrimmedHasTrees product → HaveTreesBelow product new
  trimmed_trees normal law = law before after normal (trimmed_normal normal) is (t.each (names_from 0 count))

  -- a rule of a trimmed level costs nothing where none of the level does
  trimmed_free : ((n : ℕ) → n < length old → (rule_at old n).cost ≡ 0) → (n : ℕ) → n < length new → (rule_at new n).cost ≡ 0
  trimmed_free free n h = ap (λ (r : Rule ℕ). r.cost) (named_at product before after is n h) ∙ free (get_or is.rules n 0) (old_place n h)

  pub trimmed_orderly : IsOrderly product old → IsOrderly product new
  trimmed_orderly o = elim o [ inl strict ↦ inl strict | inr free ↦ inr (trimmed_free free) ]

  -- the list of the k best trees
  pub trimmed_best : (labels : List (List ℕ)) (k : ℕ) (xs : List Costed) → IsKBest product new labels k xs → IsKBest product old labels k xs
  trimmed_best labels k xs b = record {
    members = each_of (IsTreeAt product old 0) xs (λ x h. (t.series x.0 (Some x.1)).1 (each_has (IsTreeAt product new 0) xs x b.members h));
    ascends = b.ascends;
    few = b.few;
    others = λ y m n. b.others y ((t.series y.0 (Some y.1)).0 m) n;
  }

  many_states : length is.states ≡ length states
  many_states = sym (length-map is.states named) ∙ ap length (sym is.names) ∙ length-map states named

  same_state : (i : ℕ) → i < length states → get_or is.states i 0 ≡ get_or states i 0
  same_state i h =
      name_tells count (get_or is.states i 0) (get_or states i 0) (t.below i h)
      (sym (get_or-map named states i 0 [] h) ∙ ap (λ ns. get_or ns i []) is.names ∙ get_or-map named is.states i 0 [] (omega (arith, h, many_states)))

  series_at : (q : ℕ) → q < length states → (y : Costed) → IsTreeAt product old (get_or states q 0) y ↔ IsTreeAt product new q y
  series_at q h y = subst (λ p. IsTreeAt product old p y ↔ IsTreeAt product new q y) (same_state q h) (t.each (names_from 0 count) is q (omega (arith, h, many_states)) y.0 (Some y.1))

  -- each list of a kept state's trees is one of the state under its earlier number
  front_back : (labels : List (List ℕ)) (q : ℕ) → q < length states → (xs : List Costed) → IsFrontAt product labels new q xs → IsFrontAt product labels old (get_or states q 0) xs
  front_back labels q h xs f = record {
    members = each_of (IsTreeAt product old (get_or states q 0)) xs (λ x m. (series_at q h x).1 (each_has (IsTreeAt product new q) xs x f.members m));
    ascends = f.ascends;
    others = λ y m n. f.others y ((series_at q h y).0 m) n;
  }

  -- lists of all trimmed states are those of the useful ones
  pub useful_lists :
      (labels : List (List ℕ)) (ls : List (List Costed)) → length ls ≡ length states → ((q : ℕ) → IsFrontAt product labels new q (get_or ls q [])) → AreUsefulLists product labels old ls
  useful_lists labels ls long fronts = record {
    states = is.states;
    ascend = is.states_ascend;
    are_states = is.are_states;
    long = long ∙ sym many_states;
    fronts = λ i h.
        let low : i < length states = omega (arith, h, many_states) in
        subst (λ p. IsFrontAt product labels old p (get_or ls i [])) (sym (same_state i low)) (front_back labels i low (get_or ls i []) (fronts i));
  }

  side_from : (n : ℕ) → n < length new → (rule_at old (get_or is.rules n 0)).right ≡ side_map (λ j. get_or is.states j 0) (rule_at new n).right
  side_from n h = ap (λ (r : Rule ℕ). r.right) (sym (named_at product before after is n h))

  left_from : (n : ℕ) → n < length new → (rule_at old (get_or is.rules n 0)).left ≡ get_or is.states (rule_at new n).left 0
  left_from n h = ap (λ (r : Rule ℕ). r.left) (sym (named_at product before after is n h))

  -- a state in a right-hand side that is left was in one before
  stands_from : (q : ℕ) → StandsInSide new q → StandsInSide old (get_or is.states q 0)
  stands_from q s = record {
    rule = get_or is.rules s.rule 0;
    below = old_place s.rule s.below;
    stands = subst (λ (x : SideFor ℕ ℕ). Has (holes_of x) (get_or is.states q 0)) (sym (side_from s.rule s.below))
        (subst (λ qs. Has qs (get_or is.states q 0)) (sym (holes-relabel (λ j. get_or is.states j 0) (only (rule_at new s.rule).right)))
        (mapped_has (λ j. get_or is.states j 0) (holes_of (rule_at new s.rule).right) q s.stands));
  }

  same_rule : (m n : ℕ) → m < length new → n < length new → get_or is.rules m 0 ≡ get_or is.rules n 0 → m ≡ n
  same_rule m n h k e = distinct_at is.rules m n 0 (ascending_distinct is.rules is.rules_ascend) (omega (arith, h, as_many product before after is)) (omega (arith, k, as_many product before after is)) e

  sides_from : (m n : ℕ) → m < length new → n < length new → (rule_at new m).right ≡ (rule_at new n).right → (rule_at old (get_or is.rules m 0)).right ≡ (rule_at old (get_or is.rules n 0)).right
  sides_from m n h k e = side_from m h ∙ ap (side_map (λ j. get_or is.states j 0)) e ∙ sym (side_from n k)

  -- rules with the same right-hand side came from rules with one right-hand side
  pub trimmed_below : IsDeterministicBelow old → IsDeterministicBelow new
  trimmed_below form = record {
    once = λ m n h k left right. same_rule m n h k
        (form.once (get_or is.rules m 0) (get_or is.rules n 0) (old_place m h) (old_place n k) (left_from m h ∙ ap (λ q. get_or is.states q 0) left ∙ sym (left_from n k)) (sides_from m n h k right));
    apart = λ m n h k right. elim (form.apart (get_or is.rules m 0) (get_or is.rules n 0) (old_place m h) (old_place n k) (sides_from m n h k right)) [
      | inl same ↦ inl (same_rule m n h k same)
      | inr outer ↦ inr (elim outer [
        | inl here ↦ inl (λ s. here (subst (StandsInSide old) (sym (left_from m h)) (stands_from (rule_at new m).left s)))
        | inr there ↦ inr (λ s. there (subst (StandsInSide old) (sym (left_from n k)) (stands_from (rule_at new n).left s)))
      ])
    ];
  }

  large_back : (labels : List (List ℕ)) (k q : ℕ) → q < length states → HasLarge product labels new k q → HasLarge product labels old k (get_or states q 0)
  large_back labels k q h l =
      let p : ℕ = get_or states q 0 in
      let to : (y : Costed) → IsTreeAt product old p y → IsTreeAt product new q y = λ y. (series_at q h y).0 in
      let back : (y : Costed) → IsTreeAt product new q y → IsTreeAt product old p y = λ y. (series_at q h y).1 in
      record {
        front = l.front;
        is_front = record {
          members = each_of (IsTreeAt product old p) l.front (λ x m. back x (each_has (IsTreeAt product new q) l.front x l.is_front.members m));
          ascends = l.is_front.ascends;
          others = λ y m n. l.is_front.others y (to y m) n;
        };
        few = l.few;
        tree = l.tree;
        next = record { member = back l.tree l.next.member; new = l.next.new; least = λ y m n. l.next.least y (to y m) n };
        large = l.large;
      }

  pub names_below : (labels : List (List ℕ)) (k : ℕ) (e : KBestError) → IsCause product labels new k e → NamesBelow (length states) e
  names_below labels k (TreeTooLarge q) l = state_below product new (length states) q l.tree t.range l.next.member
  names_below labels k OutOfMemory l = tt

  -- a state that is kept and has a large tree is useful
  useful_back :
      {levelled weighted : Bool} → ProductLaws levelled weighted product → AreNormal old → (labels : List (List ℕ)) (k q : ℕ) → q < length states → HasLarge product labels old k (get_or states q 0) →
      IsUseful product old (get_or states q 0)
  useful_back {levelled} {weighted} laws normal labels k q h l =
      elim (subst (λ p. (p ≡ 0) ⊎ IsUseful product old p) (same_state q h) ((is.are_states (get_or is.states q 0)).0 (has_at is.states q 0 (omega (arith, h, many_states))))) [
        | inr useful ↦ useful
        | inl start ↦ subst (IsUseful product old) (sym start) (start_useful laws labels old normal k (subst (HasLarge product labels old k) start l))
      ]

  -- an error of the trimmed rules is one of the others, and names a useful state
  pub trimmed_cause :
      {levelled weighted : Bool} → ProductLaws levelled weighted product → AreNormal old → (labels : List (List ℕ)) (k : ℕ) (e d : KBestError) → IsRenamed states e d → IsCause product labels new k e →
      IsUsefulCause product labels old k d
  trimmed_cause {levelled} {weighted} laws normal labels k (TreeTooLarge q) d is_now l =
      let below : q < length states = state_below product new (length states) q l.tree t.range l.next.member in
      let large : HasLarge product labels old k (get_or states q 0) = large_back labels k q below l in
      subst (IsUsefulCause product labels old k) (sym is_now) (useful_back laws normal labels k q below large, large)
  trimmed_cause {levelled} {weighted} laws normal labels k OutOfMemory d is_now l = subst (IsUsefulCause product labels old k) (sym is_now) tt
