-- The rules that are kept, as they are filtered.
use Rattle.std.specs.Prelude.{◌≡◌, ℕ, ◌+◌, ◌<◌, ◌≤◌, List, [], ◌∷◌, ◌++◌, length, filter, map, take, Bool, true, false, cond, if◌then◌else◌, Option, None, Some, refl}
use Rattle.std.proofs.Common.{zero, suc, arith, ap, sym, ◌∙◌, subst, inl, inr, get_or, add-one, length-append}
use Rattle.std.proofs.lemmas.Bool.{leb-true, le-leb}
use Rattle.std.proofs.lemmas.List.{get_or_default, take_more, take_all, map-append, get_or_at}
use Rattle.std.proofs.lemmas.List.Elements.{filter-append}
use Rattle.tib_lex.proofs.Lists.{append_nil}
use Rattle.tib_lex.proofs.Booleans.{bool_cases}
use Rattle.tib_grammar.specs.Run.{rule_at, no_rule}
use Rattle.tib_grammar.specs.Range.{IsInRange, AreInRange}
use Rattle.tib_grammar.specs.Forms.{IsNormalSide, AreNormal}
use Rattle.tib_grammar.specs.declared.Rule.{Rule}
use Rattle.tib_cost.specs.Semiring.{ProductLaws}
use Rattle.tib_cost.specs.Least.{AtMost}
use Rattle.tib_normal.specs.Rules.{IsNormal}
use Rattle.tib_inside.specs.Reaching.{chosen}
use Rattle.tib_inside.specs.Settling.{costs_in}
use Rattle.tib_inside.proofs.Chosen.{chosen_has, chosen_of, chosen_ascends, ascends_at, ascends_from}
use Rattle.tib_prune.specs.Loop.{AreInsidesOfAll, AreOutsides}
use Rattle.tib_prune.specs.Outside.{through}
use Rattle.tib_prune.specs.Pruned.{is_at_most, ArePruned, AreCosts, KeepsCheapTrees, HadNoGreaterCosts, StandInCheapRuns}
use Rattle.tib_prune.proofs.Through.{kept_to, kept_from, none_kept}
use Rattle.tib_prune.proofs.Pruned.{keeps_cost, had_cost, stands_cheap, same_rule, as_many, was_kept}

at_most_yes : (v : Option ℕ) (n : ℕ) → is_at_most v n ≡ true → AtMost v n
at_most_yes None n e = absurd (cc)
at_most_yes (Some c) n e = leb-true c n e

at_most_is : (v : Option ℕ) (n : ℕ) → AtMost v n → is_at_most v n ≡ true
at_most_is None n h = absurd h
at_most_is (Some c) n h = le-leb c n h

-- a filtered list by positions
filter_one : {A : Type 0} (test : A → Bool) (x : A) → filter test (x ∷ []) ≡ cond (test x) (x ∷ []) []
filter_one test x = refl

by_positions :
    (test : Rule ℕ → Bool) (rules : List (Rule ℕ)) (n : ℕ) → n ≤ length rules → filter test (take n rules) ≡ map (rule_at rules) (chosen (λ i. test (rule_at rules i)) n)
by_positions test rules zero h = refl
by_positions test rules (suc n) h =
    let before = by_positions test rules n (omega (arith, h)) in
    let taken : take (suc n) rules ≡ take n rules ++ rule_at rules n ∷ [] = ap (λ m. take m rules) (sym (add-one n)) ∙ take_more rules n no_rule (omega (arith, h)) in
    ap (filter test) taken ∙ filter-append test (take n rules) (rule_at rules n ∷ []) ∙ ap (λ xs. xs ++ filter test (rule_at rules n ∷ [])) before ∙ one
  where
    positions : List ℕ
    positions = chosen (λ i. test (rule_at rules i)) n

    by : (b : Bool) → map (rule_at rules) positions ++ cond b (rule_at rules n ∷ []) [] ≡ map (rule_at rules) (if b then positions ++ n ∷ [] else positions)
    by true = sym (map-append (rule_at rules) positions (n ∷ []))
    by false = append_nil (map (rule_at rules) positions)

    one : map (rule_at rules) positions ++ filter test (rule_at rules n ∷ []) ≡ map (rule_at rules) (chosen (λ i. test (rule_at rules i)) (suc n))
    one = by (test (rule_at rules n))

-- no more pass a test than there are
pub filter_few : {A : Type 0} (test : A → Bool) (xs : List A) → length (filter test xs) ≤ length xs
filter_few test [] = omega arith
filter_few test (x ∷ xs) = elim (bool_cases (test x)) [
  | inl t ↦ subst (λ b. length (cond b (x ∷ filter test xs) (filter test xs)) ≤ length (x ∷ xs)) (sym t) (omega (arith, filter_few test xs))
  | inr f ↦ subst (λ b. length (cond b (x ∷ filter test xs) (filter test xs)) ≤ length (x ∷ xs)) (sym f) (omega (arith, filter_few test xs))
]

-- the costs of all states from their lists
pub costs_of : (product : ℕ → ℕ → ℕ) (rules : List (Rule ℕ)) (insides outsides : List (Option ℕ)) → AreInsidesOfAll product rules insides → AreOutsides product rules outsides → AreCosts product rules (costs_in insides) (costs_in outsides)
costs_of product rules insides outsides i o = record { are_insides = i; are_outsides = o }

module _
    {levelled weighted : Bool} {product : ℕ → ℕ → ℕ} (laws : ProductLaws levelled weighted product) (rules : List (Rule ℕ)) (insides outsides : List (Option ℕ))
    (are_insides : AreInsidesOfAll product rules insides) (are_outsides : AreOutsides product rules outsides) (beam : ℕ) where
  costs : AreCosts product rules (costs_in insides) (costs_in outsides)
  costs = costs_of product rules insides outsides are_insides are_outsides

  -- what passes the test is kept
  pub filtered : (best : ℕ) (new : List (Rule ℕ)) → costs_in insides 0 ≡ Some best → new ≡ filter (λ r. is_at_most (through product (costs_in insides) (costs_in outsides) r) (best + beam)) rules → ArePruned product rules beam new
  filtered best new start e = record {
    positions = chosen test (length rules);
    ascend = chosen_ascends test (length rules);
    are_kept = λ n. (
      λ h.
          let c = chosen_has test (length rules) n h in
          kept_to laws rules (costs_in insides) (costs_in outsides) costs beam best n start c.below (at_most_yes (through product (costs_in insides) (costs_in outsides) (rule_at rules n)) (best + beam) c.holds),
      λ k. chosen_of test (length rules) n k.through.position
          (at_most_is (through product (costs_in insides) (costs_in outsides) (rule_at rules n)) (best + beam) (kept_from laws rules (costs_in insides) (costs_in outsides) costs beam best n start k)),
    );
    are_rules = e ∙ ap (filter (λ (r : Rule ℕ). is_at_most (through product (costs_in insides) (costs_in outsides) r) (best + beam))) (sym (take_all (length rules) rules (omega arith)))
        ∙ by_positions (λ (r : Rule ℕ). is_at_most (through product (costs_in insides) (costs_in outsides) r) (best + beam)) rules (length rules) (omega arith);
  }
    where
      test : ℕ → Bool
      test i = is_at_most (through product (costs_in insides) (costs_in outsides) (rule_at rules i)) (best + beam)

  -- the same from what the code reads and adds
  pub filtered_by :
      (best bound : ℕ) (d : Option ℕ) (new : List (Rule ℕ)) → 0 < length insides → get_or insides 0 d ≡ Some best → bound ≡ best + beam →
      new ≡ filter (λ r. is_at_most (through product (costs_in insides) (costs_in outsides) r) bound) rules → ArePruned product rules beam new
  filtered_by best bound d new some start sum e =
      filtered best new (get_or_default insides 0 None d some ∙ start)
      (subst (λ n. new ≡ filter (λ r. is_at_most (through product (costs_in insides) (costs_in outsides) r) n) rules) sum e)

  -- where the start has no inside cost nothing is
  pub nothing : (new : List (Rule ℕ)) → costs_in insides 0 ≡ None → new ≡ [] → ArePruned product rules beam new
  nothing new start e = record {
    positions = [];
    ascend = tt;
    are_kept = λ n. (λ h. absurd h, λ k. absurd (none_kept laws rules (costs_in insides) (costs_in outsides) costs beam n start k));
    are_rules = e;
  }

  -- no cheap tree is lost or changes its cost
  pub cheap : (new : List (Rule ℕ)) → ArePruned product rules beam new → KeepsCheapTrees product rules beam new
  cheap new pruned = keeps_cost laws rules beam new pruned (costs_in insides) (costs_in outsides) costs

  -- each rule that is kept occurs in a cheap run of kept rules
  pub stand : (new : List (Rule ℕ)) → ArePruned product rules beam new → StandInCheapRuns product rules beam new
  stand new pruned = stands_cheap laws rules beam new pruned (costs_in insides) (costs_in outsides) costs

-- a rule that is taken out of a list is one of the list
module _ (rules taken rest others : List (Rule ℕ)) (r : Rule ℕ) (whole : rules ≡ taken ++ rest) (next : rest ≡ r ∷ others) where
  parts : rules ≡ taken ++ r ∷ others
  parts = whole ∙ ap (λ xs. taken ++ xs) next

  here_below : length taken < length rules
  here_below = omega (arith, ap length parts, length-append taken (r ∷ others))

  here : rule_at rules (length taken) ≡ r
  here = ap (λ xs. rule_at xs (length taken)) parts ∙ get_or_at taken r others no_rule (length taken) refl

  -- it is in normal form where all are
  pub normal_here : AreNormal rules → IsNormalSide r.right
  normal_here a = subst (λ (s : Rule ℕ). IsNormalSide s.right) here (a (length taken) here_below)

  -- and in range
  pub range_here : (n : ℕ) → AreInRange n rules → IsInRange n r
  range_here n a = subst (IsInRange n) here (a (length taken) here_below)

  -- the list is whole with one more taken
  pub whole_on : rules ≡ (taken ++ r ∷ []) ++ others
  whole_on = parts ∙ again taken
    where
      again : (xs : List (Rule ℕ)) → xs ++ r ∷ others ≡ (xs ++ r ∷ []) ++ others
      again [] = refl
      again (x ∷ xs) = ap (λ ys. x ∷ ys) (again xs)

-- the next rule is kept, or it is left out
pub kept_on : (test : Rule ℕ → Bool) (taken : List (Rule ℕ)) (r : Rule ℕ) (kept new : List (Rule ℕ)) → kept ≡ filter test taken → test r ≡ true → new ≡ kept ++ r ∷ [] → new ≡ filter test (taken ++ r ∷ [])
kept_on test taken r kept new e t n = n ∙ ap (λ xs. xs ++ r ∷ []) e ∙ ap (λ b. filter test taken ++ cond b (r ∷ []) []) (sym t) ∙ sym (filter-append test taken (r ∷ []))

-- or it is left out
pub left_out : (test : Rule ℕ → Bool) (taken : List (Rule ℕ)) (r : Rule ℕ) (kept : List (Rule ℕ)) → kept ≡ filter test taken → test r ≡ false → kept ≡ filter test (taken ++ r ∷ [])
left_out test taken r kept e t = e ∙ sym (append_nil (filter test taken)) ∙ ap (λ b. filter test taken ++ cond b (r ∷ []) []) (sym t) ∙ sym (filter-append test taken (r ∷ []))

-- where none is left, all were filtered
pub all_taken : (test : Rule ℕ → Bool) (rules taken rest kept : List (Rule ℕ)) → rules ≡ taken ++ rest → rest ≡ [] → kept ≡ filter test taken → kept ≡ filter test rules
all_taken test rules taken rest kept whole empty e = e ∙ ap (filter test) (sym (whole ∙ ap (λ xs. taken ++ xs) empty ∙ append_nil taken))

module _ {levelled weighted : Bool} {product : ℕ → ℕ → ℕ} (laws : ProductLaws levelled weighted product) (rules : List (Rule ℕ)) (beam : ℕ) (new : List (Rule ℕ)) (pruned : ArePruned product rules beam new) where
  abbrev old_at : ℕ → ℕ
  old_at j = get_or pruned.positions j 0

  old_rule : (j : ℕ) → j < length new → rule_at new j ≡ rule_at rules (old_at j)
  old_rule j h = same_rule laws rules beam new pruned j h

  old_below : (j : ℕ) → j < length new → old_at j < length rules
  old_below j h = (was_kept laws rules beam new pruned j h).through.position

  old_before : (i j : ℕ) → i < j → j < length new → old_at i < old_at j
  old_before i j h k = ascends_at ◌<◌ pruned.positions 0 pruned.ascend i j h (omega (arith, k, as_many laws rules beam new pruned))

  -- what is kept is in range
  pub still_in_range : (n : ℕ) → AreInRange n rules → AreInRange n new
  still_in_range n a j h = subst (IsInRange n) (sym (old_rule j h)) (a (old_at j) (old_below j h))

  -- a grammar in normal form stays in normal form
  pub still_normal : IsNormal rules → IsNormal new
  still_normal a = record {
    normal = λ j h. subst (λ (r : Rule ℕ). IsNormalSide r.right) (sym (old_rule j h)) (a.normal (old_at j) (old_below j h));
    ascends = ascends_from (λ r s. r.left ≤ s.left) new no_rule (λ i j h k.
        let one = ap (λ (r : Rule ℕ). r.left) (old_rule i (omega (arith, h, k))) in
        let two = ap (λ (r : Rule ℕ). r.left) (old_rule j k) in
        let between : (rule_at rules (old_at i)).left ≤ (rule_at rules (old_at j)).left =
        ascends_at (λ r s. r.left ≤ s.left) rules no_rule a.ascends (old_at i) (old_at j) (old_before i j h k) (old_below j k) in
        omega (arith, one, two, between));
    distinct = ascends_from (λ r s. r.left ≡ s.left → r.right ≡ s.right → ⊥) new no_rule (λ i j h k left right.
        let one = old_rule i (omega (arith, h, k)) in
        let two = old_rule j k in
        ascends_at (λ r s. r.left ≡ s.left → r.right ≡ s.right → ⊥) rules no_rule a.distinct (old_at i) (old_at j) (old_before i j h k) (old_below j k)
        (sym (ap (λ (r : Rule ℕ). r.left) one) ∙ left ∙ ap (λ (r : Rule ℕ). r.left) two)
        (sym (ap (λ (r : Rule ℕ). r.right) one) ∙ right ∙ ap (λ (r : Rule ℕ). r.right) two));
  }

  -- a tree that has a cost had one before
  pub had : IsNormal rules → HadNoGreaterCosts product rules new
  had a = had_cost laws rules beam new pruned a.normal

-- what holds of rules and costs, or of two lists of rules, holds of those that are the same
pub of_same : {A B : Type 0} (P : A → B → Type 0) (a a' : A) (b b' : B) → a' ≡ a → b' ≡ b → P a b → P a' b'
of_same P a a' b b' e f h = subst (λ x. P x b') (sym e) (subst (P a) (sym f) h)

-- where rules are in range the grammar of some of them is there
pub there_is :
    {A : Type 0} (made : Option A) (names kept_names : List (List ℕ)) (rules kept : List (Rule ℕ)) → (made ≡ None → 0 < length kept_names → AreInRange (length kept_names) kept → ⊥) → made ≡ None → kept_names ≡ names →
    0 < length names → AreInRange (length names) kept → ⊥
there_is made names kept_names rules kept none e same some range =
    none e (subst (λ xs. 0 < length xs) (sym same) some) (subst (λ xs. AreInRange (length xs) kept) (sym same) range)
