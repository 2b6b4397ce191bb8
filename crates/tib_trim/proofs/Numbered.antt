-- The grammar of some rules over the states that they need.
use Rattle.std.specs.Prelude.{◌≡◌, ◌⊎◌, ℕ, ◌+◌, ◌<◌, ◌≤◌, List, [], ◌∷◌, ◌++◌, length, map, take, drop, nat_eq, true, false, IsTrue, refl, slice_set, replicate}
use Rattle.std.proofs.Common.{zero, suc, arith, ap, sym, ◌∙◌, subst, inl, inr, get_or, length-append}
use Rattle.std.proofs.lemmas.List.{get_or-map, length-map, get_or-set_same, get_or-set_other, get_or_append_left, get_or_push, get_or_default, same_lists, take_at}
use Rattle.std.proofs.lemmas.Map.Keys.{IsDistinct-from_apart}
use Rattle.std.proofs.lemmas.Map.Steps.{length-le_from_distinct_below}
use Rattle.std.proofs.lemmas.Map.Views.{Contains-from_any}
use Rattle.tib_lex.specs.Lists.{Has, Each, Distinct}
use Rattle.tib_lex.proofs.Lists.{has_mapped}
use Rattle.tib_lex.proofs.Members.{has_at, at_has, each_has, has_left, has_right}
use Rattle.tib_lex.proofs.Numbers.{nat_eq_cases}
use Rattle.tib_tree.specs.Trees.{Trees, none, tree, only, relabel, first_of}
use Rattle.tib_grammar.specs.GrammarOf.{GrammarOf, named_rule}
use Rattle.tib_grammar.specs.Range.{AllBelow, AreBelow, IsInRange, AreInRange, SidesEndInHoles}
use Rattle.tib_grammar.specs.Renaming.{number_in}
use Rattle.tib_grammar.specs.Run.{rule_at, no_rule}
use Rattle.tib_grammar.specs.Sides.{Symbol, label, hole, Side, holes, holes_of, symbol_map, side_map, HolesAreLeaves}
use Rattle.tib_grammar.specs.StateName.{IsStateName, AreStateNames}
use Rattle.tib_grammar.specs.declared.Rule.{Rule}
use Rattle.tib_grammar.proofs.Below.{below_has}
use Rattle.tib_grammar.proofs.Renamed.{rule_back}
use Rattle.tib_grammar.proofs.Sides.{holes-relabel}
use Rattle.tib_inside.specs.Renaming.{AreNumbersOf}
use Rattle.tib_inside.proofs.Chosen.{distinct_at}
use Rattle.tib_trim.specs.FirstSeen.{states_of, IsEach}
use Rattle.tib_trim.specs.Keeping.{AreClosed}
use Rattle.tib_trim.specs.TrimmedFile.{HasRules}
use Rattle.tib_trim.proofs.FirstSeen.{has_states}
use Rattle.tib_inside.proofs.Assembling.{all_mapped}
use Rattle.tib_prune.proofs.Untrimmed.{trees_stay}

-- each state has its place as its number, from which it is found again
pub record IsNumbered (states numbers : List ℕ) (q : ℕ) : Type 0 where
  pub below : number_in numbers q < length states
  pub back : get_or states (number_in numbers q) 0 ≡ q

pub numbered : (states numbers : List ℕ) (q : ℕ) → AreNumbersOf states numbers → Has states q → IsNumbered states numbers q
numbered states numbers q n h =
    let at = at_has states q 0 h in
    let e : number_in numbers q ≡ at.0 = ap (number_in numbers) (sym at.2) ∙ n at.0 at.1 in
    record { below = omega (arith, at.1, e); back = ap (λ i. get_or states i 0) e ∙ at.2 }

-- one more state gets the place behind the others
pub numbers_more :
    (states numbers : List ℕ) (q : ℕ) → q < length numbers → (Has states q → ⊥) → AreNumbersOf states numbers →
    AreNumbersOf (states ++ q ∷ []) (slice_set numbers q (length states))
numbers_more states numbers q h new are i b = elim (at_end i (length states) (omega (arith, b, length-append states (q ∷ [])))) [
  | inl k ↦
      let here : get_or (states ++ q ∷ []) i 0 ≡ get_or states i 0 = get_or_append_left states (q ∷ []) 0 i k in
      let other : get_or states i 0 ≡ q → ⊥ = λ e. new (subst (Has states) e (has_at states i 0 k)) in
      ap (λ p. get_or (slice_set numbers q (length states)) p 0) here
      ∙ get_or-set_other numbers q (get_or states i 0) (length states) 0 other
      ∙ are i k
  | inr e ↦
      let here : get_or (states ++ q ∷ []) i 0 ≡ q = get_or_push states q 0 i (sym e) in
      ap (λ p. get_or (slice_set numbers q (length states)) p 0) here ∙ get_or-set_same numbers q (length states) 0 h ∙ sym e
]
  where
    at_end : (i n : ℕ) → i < n + 1 → (i < n) ⊎ (i ≡ n)
    at_end i n h = grind arith

-- a state with its place among the others is one of them
pub seen_yes : (states numbers : List ℕ) (q : ℕ) → get_or numbers q 0 < length states → IsTrue (nat_eq (get_or states (get_or numbers q 0) 0) q) → Has states q
seen_yes states numbers q h t = elim (nat_eq_cases (get_or states (get_or numbers q 0) 0) q) [
  | inl k ↦ subst (Has states) k.0 (has_at states (get_or numbers q 0) 0 h)
  | inr k ↦ let bad : false ≡ true = sym k.1 ∙ t in absurd (cc bad)
]

-- and one whose place is another's is not
pub seen_no : (states numbers : List ℕ) (q : ℕ) → AreNumbersOf states numbers → nat_eq (get_or states (get_or numbers q 0) 0) q ≡ false → Has states q → ⊥
seen_no states numbers q are e h = elim (nat_eq_cases (get_or states (get_or numbers q 0) 0) q) [
  | inl k ↦ let bad : false ≡ true = sym e ∙ k.1 in absurd (cc bad)
  | inr k ↦ k.0 (numbered states numbers q are h).back
]

-- there are no more different states than there are states
pub few_states : (states : List ℕ) (n : ℕ) → Distinct states → AreBelow n states → length states ≤ n
few_states states n d below =
    length-le_from_distinct_below states n
    (IsDistinct-from_apart nat_eq states (λ i j e l h. not_same (get_or states i e) (get_or states j e) (λ k. omega (arith, l, distinct_at states i j e d (omega (arith, l, h)) h k))))
    (λ q a.
    let c = Contains-from_any {eq = nat_eq} same q states a in
    subst (λ p. p < n) (get_or_default states c.0 0 q c.1 ∙ c.2) (below c.0 c.1))
  where
    same : (x y : ℕ) → nat_eq x y ≡ true → x ≡ y
    same x y e = elim (nat_eq_cases x y) [ inl k ↦ k.0 | inr k ↦ let bad : true ≡ false = sym e ∙ k.1 in absurd (cc bad) ]

    not_same : (x y : ℕ) → (x ≡ y → ⊥) → nat_eq x y ≡ false
    not_same x y h = elim (nat_eq_cases x y) [ inl k ↦ absurd (h k.0) | inr k ↦ k.1 ]

-- names of different states are state names
pub kept_state_names :
    (names : List (List ℕ)) (states : List ℕ) → AreStateNames names → AreBelow (length names) states → Distinct states → AreStateNames (map (λ q. get_or names q []) states)
kept_state_names names states s b d = record { each = each_name states b; distinct = distinct_names states b d }
  where
    each_name : (states : List ℕ) → AreBelow (length names) states → Each IsStateName (map (λ q. get_or names q []) states)
    each_name [] b = tt
    each_name (q ∷ states) b = (each_has IsStateName names (get_or names q []) s.each (has_at names q [] (b 0 (omega arith))), each_name states (λ i h. b (suc i) (omega arith)))

    distinct_names : (states : List ℕ) → AreBelow (length names) states → Distinct states → Distinct (map (λ q. get_or names q []) states)
    distinct_names [] b d = tt
    distinct_names (q ∷ states) b d = (
      λ h.
          let m = has_mapped (λ q. get_or names q []) states (get_or names q []) h in
          let at = at_has states m.0 0 m.1 in
          let within : get_or states at.0 0 < length names = b (suc at.0) (omega (arith, at.1)) in
          let same : m.0 ≡ q = distinct_at names m.0 q [] s.distinct (omega (arith, at.2)) (b 0 (omega arith)) m.2 in
          d.0 (subst (Has states) same m.1),
      distinct_names states (λ i h. b (suc i) (omega arith)) d.1,
    )

-- rules that are renamed and renamed back are as they were
all_back : (f g : ℕ → ℕ) (rules : List (Rule ℕ)) → ((n : ℕ) → n < length rules → named_rule g (named_rule f (rule_at rules n)) ≡ rule_at rules n) → map (named_rule g) (map (named_rule f) rules) ≡ rules
all_back f g [] h = refl
all_back f g (r ∷ rules) h =
    ap (λ x. x ∷ map (named_rule g) (map (named_rule f) rules)) (h 0 (omega arith)) ∙ ap (λ xs. r ∷ xs) (all_back f g rules (λ n b. h (suc n) (omega arith)))

module _ (rules : List (Rule ℕ)) (numbers : List ℕ) (are : AreNumbersOf (states_of rules) numbers) (closed : AreClosed rules) where
  left_state : (n : ℕ) → n < length rules → IsNumbered (states_of rules) numbers (rule_at rules n).left
  left_state n h = numbered (states_of rules) numbers (rule_at rules n).left are (has_states rules (rule_at rules n).left (n, h, refl))

  right_state : (n q : ℕ) → n < length rules → Has (holes_of (rule_at rules n).right) q → IsNumbered (states_of rules) numbers q
  right_state n q h s = numbered (states_of rules) numbers q are (has_states rules q (closed n q h s))

  -- the renamed rules are in range
  pub renamed_range : (new : List (Rule ℕ)) → new ≡ map (named_rule (number_in numbers)) rules → AreInRange (length (states_of rules)) new
  renamed_range new e n h =
      let long : length new ≡ length rules = ap length e ∙ length-map rules (named_rule (number_in numbers)) in
      let below : n < length rules = omega (arith, h, long) in
      let here : rule_at new n ≡ named_rule (number_in numbers) (rule_at rules n) = ap (λ rs. rule_at rs n) e ∙ get_or-map (named_rule (number_in numbers)) rules n no_rule no_rule below in
      subst (IsInRange (length (states_of rules))) (sym here) (
        (left_state n below).below,
        subst (AllBelow (length (states_of rules))) (sym (holes-relabel (number_in numbers) (only (rule_at rules n).right)))
            (all_mapped (length (states_of rules)) (number_in numbers) (holes_of (rule_at rules n).right) (λ q s. (right_state n q below s).below)),
      )

  -- and the grammar has the rules
  pub has_rules :
      (old_names : List (List ℕ)) (new : GrammarOf) → SidesEndInHoles rules → new.names ≡ map (λ q. get_or old_names q []) (states_of rules) → new.rules ≡ map (named_rule (number_in numbers)) rules →
      HasRules old_names rules new
  has_rules old_names new leaves names_are rules_are = record {
    names = names_are;
    in_range = renamed_range new.rules rules_are;
    named = ap (map (named_rule (λ i. get_or (states_of rules) i 0))) rules_are
        ∙ all_back (number_in numbers) (λ i. get_or (states_of rules) i 0) rules (λ n h.
        rule_back (number_in numbers) (λ i. get_or (states_of rules) i 0) (rule_at rules n) (left_state n h).back (λ q s. (right_state n q h s).back) (leaves n h));
  }

pub rule_stays : (f : ℕ → ℕ) (r : Rule ℕ) → f r.left ≡ r.left → HolesAreLeaves (only r.right) → ((q : ℕ) → Has (holes_of r.right) q → f q ≡ q) → named_rule f r ≡ r
rule_stays f r left l same =
    ap (λ (p : ℕ). record { left = p; right = side_map f r.right; cost = r.cost }) left
    ∙ ap (λ (s : Side ℕ ℕ). record { left = r.left; right = s; cost = r.cost }) (ap (first_of (label 0)) (trees_stay f (only r.right) l same))

pub all_stay : (f : ℕ → ℕ) (rules : List (Rule ℕ)) → ((n : ℕ) → n < length rules → named_rule f (rule_at rules n) ≡ rule_at rules n) → map (named_rule f) rules ≡ rules
all_stay f [] h = refl
all_stay f (r ∷ rules) h = ap (λ x. x ∷ map (named_rule f) rules) (h 0 (omega arith)) ∙ ap (λ xs. r ∷ xs) (all_stay f rules (λ n b. h (suc n) (omega arith)))

-- the names of all states in order are the names
names_stay : (names : List (List ℕ)) (states : List ℕ) → IsEach (length names) states → names ≡ map (λ q. get_or names q []) states
names_stay names states each =
    same_lists names (map (λ q. get_or names q []) states) (sym (length-map states (λ q. get_or names q []) ∙ each.long)) (λ k d h.
    sym (
    get_or-map (λ q. get_or names q []) states k 0 d (omega (arith, h, each.long))
    ∙ ap (λ q. get_or names q []) (each.own k h)
    ∙ get_or_default names k [] d h
    ))

-- where all states stay at their places, so do names and rules
pub in_place :
    (names : List (List ℕ)) (rules : List (Rule ℕ)) (states : List ℕ) (new : GrammarOf) → IsEach (length names) states → states ≡ states_of rules → AreInRange (length names) rules → SidesEndInHoles rules →
    new.names ≡ names → new.rules ≡ rules → HasRules names rules new
in_place names rules states new each e range leaves names_are rules_are = record {
  names = names_are ∙ names_stay names states each ∙ ap (map (λ q. get_or names q [])) e;
  in_range = subst (AreInRange (length (states_of rules))) (sym rules_are) (subst (λ n. AreInRange n rules) (sym each.long ∙ ap length e) range);
  named = ap (map (named_rule (λ i. get_or (states_of rules) i 0))) rules_are
      ∙ all_stay (λ i. get_or (states_of rules) i 0) rules (λ n h.
      rule_stays (λ i. get_or (states_of rules) i 0) (rule_at rules n) (own (rule_at rules n).left (range n h).0) (leaves n h) (λ q s. own q (below_has (length names) (holes_of (rule_at rules n).right) q (range n h).1 s)));
}
  where
    own : (q : ℕ) → q < length names → get_or (states_of rules) q 0 ≡ q
    own q h = ap (λ xs. get_or xs q 0) (sym e) ∙ each.own q h

no_number : (n i : ℕ) → ◌≡◌ {A = ℕ} (get_or (replicate n 0) i 0) 0
no_number zero i = refl
no_number (suc n) zero = refl
no_number (suc n) (suc i) = no_number n i

-- the start has the first place
pub first_number : (states numbers : List ℕ) (count : ℕ) → states ≡ 0 ∷ [] → numbers ≡ replicate count 0 → AreNumbersOf states numbers
first_number states numbers count s n = subst (λ xs. AreNumbersOf xs numbers) (sym s) by
  where
    by : AreNumbersOf (0 ∷ []) numbers
    by zero h = ap (λ xs. get_or xs 0 0) n ∙ no_number count 0
    by (suc i) h = absurd (omega (arith, h))
