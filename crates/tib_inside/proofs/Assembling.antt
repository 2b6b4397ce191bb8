-- The trimmed grammar, put together.
use Rattle.std.specs.Prelude.{◌≡◌, ℕ, ◌<◌, ◌≤◌, ◌&&◌, List, [], ◌∷◌, length, map, Bool, true, false, Option, refl}
use Rattle.std.proofs.Common.{suc, arith, ap, sym, ◌∙◌, subst, inl, inr, get_or}
use Rattle.std.proofs.lemmas.List.{get_or-map, length-map}
use Rattle.tib_lex.specs.Lists.{Has, Each, Distinct, Ascends}
use Rattle.tib_tree.specs.Trees.{only}
use Rattle.tib_grammar.specs.Sides.{holes_of, HolesAreLeaves}
use Rattle.tib_grammar.specs.Run.{rule_at, no_rule}
use Rattle.tib_grammar.specs.Range.{AllBelow, IsInRange, AreInRange, AreBelow}
use Rattle.tib_grammar.specs.StateName.{IsStateName, AreStateNames}
use Rattle.tib_grammar.specs.GrammarOf.{GrammarOf, named_rule}
use Rattle.tib_grammar.specs.declared.Rule.{Rule}
use Rattle.tib_grammar.proofs.Sides.{holes-relabel}
use Rattle.tib_grammar.proofs.Members.{has_at, at_has, each_has}
use Rattle.tib_cost.specs.Semiring.{ProductLaws}
use Rattle.tib_inside.specs.Inside.{IsInside, AreInsides}
use Rattle.tib_inside.specs.Settling.{costs_in}
use Rattle.tib_inside.specs.Useful.{IsLive, IsUseful, below}
use Rattle.tib_inside.specs.Trimmed.{IsTrimmed, AreTrimmed, AreSomeStates, HaveSeriesOfEach}
use Rattle.tib_inside.specs.Reaching.{lives, IsMarked, IsReached, AreReached, both_marked, chosen, AreKept, AreMoved}
use Rattle.tib_inside.specs.Reaching as reached
use Rattle.tib_grammar.specs.Renaming.{number_in}
use Rattle.tib_inside.specs.Renaming.{AreNumbersOf, AscendsByPlace}
use Rattle.tib_inside.proofs.Chosen.{chosen_has, chosen_of, chosen_ascends, chosen_below, chosen_by_place, chosen_most, distinct_at}
use Rattle.tib_grammar.proofs.Renamed.{rule_back}
use Rattle.tib_inside.proofs.Keeping.{kept as kept_series, kept_at}
use Rattle.tib_inside.proofs.Living.{insides_all, in_marks, live_marked, marked_live, useful_left, reached_useful, useful_reached}
use Rattle.tib_lex.proofs.Lists.{has_mapped}
use Rattle.tib_lex.proofs.Booleans.{and-true}
use Rattle.tib_grammar.specs.Series.{HaveSameSeries}

true_both : (a b : Bool) → a ≡ true → b ≡ true → (a && b) ≡ true
true_both a b e f = rw (e, f)

module _ {levelled weighted : Bool} {product : ℕ → ℕ → ℕ} (laws : ProductLaws levelled weighted product) (rules : List (Rule ℕ)) (costs : List (Option ℕ)) where
  -- what is kept, from what is marked
  pub kept_all :
      (live kept both : List Bool) (states positions : List ℕ) → AreInRange (length costs) rules → AreInsides product rules costs → live ≡ lives product (costs_in costs) rules →
      length kept ≡ length costs → AreReached rules live kept → length both ≡ length rules → ((n : ℕ) → n < length rules → get_or both n false ≡ both_marked rules live kept n) →
      states ≡ chosen (λ i. get_or kept i false) (length kept) → positions ≡ chosen (λ i. get_or both i false) (length both) → AreKept product rules (length costs) states positions
  kept_all live kept both states positions range insides live_is kept_long r both_long both_is states_are positions_are = record {
    states_ascend = subst (Ascends ◌<◌) (sym states_are) (chosen_ascends (λ i. get_or kept i false) (length kept));
    states_by_place = chosen_by_place (λ i. get_or kept i false) (length kept) states states_are;
    states_below = chosen_below (λ i. get_or kept i false) (length kept) (length costs) states states_are kept_long;
    states_few = chosen_most (λ i. get_or kept i false) (length kept) (length costs) states states_are kept_long;
    are_states = λ q. (
      λ h. reached_useful laws rules (costs_in costs) all live live_is q (r.only q (chosen_has (λ i. get_or kept i false) (length kept) q (subst (λ xs. Has xs q) states_are h)).holds),
      λ h. subst (λ xs. Has xs q) (sym states_are) (marked_state q (r.all q (elim h [ inl e ↦ subst (IsReached rules live) (sym e) reached.start | inr u ↦ useful_reached laws rules (costs_in costs) all live live_is q u ]))),
    );
    rules_ascend = subst (Ascends ◌<◌) (sym positions_are) (chosen_ascends (λ i. get_or both i false) (length both));
    rules_below = chosen_below (λ i. get_or both i false) (length both) (length rules) positions positions_are both_long;
    rules_few = chosen_most (λ i. get_or both i false) (length both) (length rules) positions positions_are both_long;
    are_rules = λ n. (
      λ h.
          let c = chosen_has (λ i. get_or both i false) (length both) n (subst (λ xs. Has xs n) positions_are h) in
          rule_of n (omega (arith, c.below)) c.holds,
      λ h. subst (λ xs. Has xs n) (sym positions_are) (chosen_of (λ i. get_or both i false) (length both) n (omega (arith, h.0.below)) (marked_rule n h.0 h.1)),
    );
  }
    where
      all : (q : ℕ) → IsInside product rules q (costs_in costs q)
      all = insides_all product rules costs range insides

      marked_state : (q : ℕ) → IsMarked kept q → Has (chosen (λ i. get_or kept i false) (length kept)) q
      marked_state q m = chosen_of (λ i. get_or kept i false) (length kept) q (in_marks kept q m) m

      rule_of : (n : ℕ) → n < length rules → get_or both n false ≡ true → IsLive product rules n × IsUseful product rules (rule_at rules n).left
      rule_of n h m =
          let parts = and-true (get_or live n false) (get_or kept (rule_at rules n).left false) (sym (both_is n h) ∙ m) in
          let l = marked_live laws rules (costs_in costs) all live live_is n h parts.0 in
          (l, useful_left laws rules (costs_in costs) all n l (reached_useful laws rules (costs_in costs) all live live_is (rule_at rules n).left (r.only (rule_at rules n).left parts.1)))

      marked_rule : (n : ℕ) → IsLive product rules n → IsUseful product rules (rule_at rules n).left → get_or both n false ≡ true
      marked_rule n l u =
          both_is n l.below
          ∙ true_both (get_or live n false) (get_or kept (rule_at rules n).left false) (live_marked laws rules (costs_in costs) all live live_is n l)
          (r.all (rule_at rules n).left (useful_reached laws rules (costs_in costs) all live live_is (rule_at rules n).left u))

-- the names of states that ascend are state names
pub kept_state_names :
    (names : List (List ℕ)) (states : List ℕ) → AreStateNames names → AreBelow (length names) states → AscendsByPlace states → AreStateNames (map (λ q. get_or names q []) states)
kept_state_names names states s b a = record { each = each_name states b; distinct = distinct_names states b a }
  where
    each_name : (states : List ℕ) → AreBelow (length names) states → Each IsStateName (map (λ q. get_or names q []) states)
    each_name [] b = tt
    each_name (q ∷ states) b = (each_has IsStateName names (get_or names q []) s.each (has_at names q [] (b 0 (omega arith))), each_name states (λ i h. b (suc i) (omega arith)))

    distinct_names : (states : List ℕ) → AreBelow (length names) states → AscendsByPlace states → Distinct (map (λ q. get_or names q []) states)
    distinct_names [] b a = tt
    distinct_names (q ∷ states) b a = (
      λ h.
          let m = has_mapped (λ q. get_or names q []) states (get_or names q []) h in
          let at = at_has states m.0 0 m.1 in
          let before : q < get_or states at.0 0 = a 0 (suc at.0) (omega arith) (omega (arith, at.1)) in
          let within : get_or states at.0 0 < length names = b (suc at.0) (omega (arith, at.1)) in
          let same : m.0 ≡ q = distinct_at names m.0 q [] s.distinct (omega (arith, at.2)) (b 0 (omega arith)) m.2 in
          omega (arith, at.2),
      distinct_names states (λ i h. b (suc i) (omega arith)) (λ i j h k. a (suc i) (suc j) (omega arith) (omega arith)),
    )

-- each state that is kept has a number, from which it is found again
record IsNumbered (states numbers : List ℕ) (q : ℕ) : Type 0 where
  below : number_in numbers q < length states
  back : get_or states (number_in numbers q) 0 ≡ q

numbered : (states numbers : List ℕ) (q : ℕ) → AreNumbersOf states numbers → Has states q → IsNumbered states numbers q
numbered states numbers q n h =
    let at = at_has states q 0 h in
    let e : number_in numbers q ≡ at.0 = ap (number_in numbers) (sym at.2) ∙ n at.0 at.1 in
    record { below = omega (arith, at.1); back = ap (λ i. get_or states i 0) e ∙ at.2 }

pub all_mapped : (n : ℕ) (f : ℕ → ℕ) (qs : List ℕ) → ((q : ℕ) → Has qs q → f q < n) → AllBelow n (map f qs)
all_mapped n f [] h = tt
all_mapped n f (q ∷ qs) h = (h q (inl refl), all_mapped n f qs (λ p k. h p (inr k)))

map_back : {A B : Type 0} (g : B → A) (f : ℕ → B) (h : ℕ → A) (xs : List ℕ) → ((x : ℕ) → Has xs x → g (f x) ≡ h x) → map g (map f xs) ≡ map h xs
map_back g f h [] e = refl
map_back g f h (x ∷ xs) e = ap (λ y. y ∷ map g (map f xs)) (e x (inl refl)) ∙ ap (λ ys. h x ∷ ys) (map_back g f h xs (λ y k. e y (inr k)))

module _ (product : ℕ → ℕ → ℕ) (old : GrammarOf) (count : ℕ) (states positions numbers : List ℕ) (kept : AreKept product old.rules count states positions) (numbers_are : AreNumbersOf states numbers) where
  -- the states of a rule that is kept are kept
  rule_states : (n : ℕ) → Has positions n → Has states (rule_at old.rules n).left × ((q : ℕ) → Has (holes_of (rule_at old.rules n).right) q → Has states q)
  rule_states n h =
      let both = (kept.are_rules n).0 h in (
        (kept.are_states (rule_at old.rules n).left).1 (inr both.1),
        λ q k. (kept.are_states q).1 (inr (below n q both.1 both.0 k)),
      )

  in_range_one : (n : ℕ) → Has positions n → IsInRange (length states) (named_rule (number_in numbers) (rule_at old.rules n))
  in_range_one n h =
      let s = rule_states n h in (
        (numbered states numbers (rule_at old.rules n).left numbers_are s.0).below,
        subst (AllBelow (length states)) (sym (holes-relabel (number_in numbers) (only (rule_at old.rules n).right)))
            (all_mapped (length states) (number_in numbers) (holes_of (rule_at old.rules n).right) (λ q k. (numbered states numbers q numbers_are (s.1 q k)).below)),
      )

  pub new_in_range : (new : List (Rule ℕ)) → new ≡ map (λ n. named_rule (number_in numbers) (rule_at old.rules n)) positions → AreInRange (length states) new
  new_in_range new e m h =
      let long : length new ≡ length positions = ap length e ∙ length-map positions (λ n. named_rule (number_in numbers) (rule_at old.rules n)) in
      let at : rule_at new m ≡ named_rule (number_in numbers) (rule_at old.rules (get_or positions m 0)) =
      ap (λ rs. rule_at rs m) e ∙ get_or-map (λ n. named_rule (number_in numbers) (rule_at old.rules n)) positions m 0 no_rule (omega arith) in
      subst (IsInRange (length states)) (sym at) (in_range_one (get_or positions m 0) (has_at positions m 0 (omega arith)))

  pub trimmed :
      (new : GrammarOf) → ((n : ℕ) → Has positions n → HolesAreLeaves (only (rule_at old.rules n).right)) → new.names ≡ map (λ q. get_or old.names q []) states → new.rules ≡ map (λ n. named_rule (number_in numbers) (rule_at old.rules n)) positions →
      IsTrimmed product old new
  trimmed new leaves names_are rules_are = record {
    states = states;
    states_ascend = kept.states_ascend;
    are_states = kept.are_states;
    rules = positions;
    rules_ascend = kept.rules_ascend;
    are_rules = kept.are_rules;
    in_range = new_in_range new.rules rules_are;
    names = names_are;
    named = ap (map (named_rule (λ i. get_or states i 0))) rules_are
        ∙ map_back (named_rule (λ i. get_or states i 0)) (λ n. named_rule (number_in numbers) (rule_at old.rules n)) (rule_at old.rules) positions (λ n h.
        let s = rule_states n h in
        rule_back (number_in numbers) (λ i. get_or states i 0) (rule_at old.rules n) (numbered states numbers (rule_at old.rules n).left numbers_are s.0).back
        (λ q k. (numbered states numbers q numbers_are (s.1 q k)).back) (leaves n h));
  }

-- what is made of the rules
pub record IsMade (product : ℕ → ℕ → ℕ) (old : List (Rule ℕ)) (count : ℕ) (states : List ℕ) (new : List (Rule ℕ)) : Type 0 where
  pub trimmed : AreTrimmed product old states new
  pub series : HaveSameSeries product old new
  pub each : HaveSeriesOfEach product old states new
  pub some_states : AreSomeStates count states
  pub range : AreInRange (length states) new
  pub few : length new ≤ length old

pub made :
    {levelled weighted : Bool} {product : ℕ → ℕ → ℕ} (laws : ProductLaws levelled weighted product) (old : List (Rule ℕ)) (costs : List (Option ℕ)) (states : List ℕ) (marks : List Bool) (numbers : List ℕ) (new : List (Rule ℕ)) →
    AreInRange (length costs) old → AreInsides product old costs → AreKept product old (length costs) states (chosen (λ i. get_or marks i false) (length old)) → AreNumbersOf states numbers →
    AreMoved old marks numbers (length old) new → IsMade product old (length costs) states new
made {levelled} {weighted} {product} laws old costs states marks numbers new range insides kept numbers_are moved = record {
  trimmed = are;
  series = kept_series laws (record { names = []; rules = old }) (record { names = map (λ q. get_or [] q []) states; rules = new }) (costs_in costs) all (are []);
  each = λ names trimmed i h t v. kept_at laws (record { names = names; rules = old }) (record { names = map (λ q. get_or names q []) states; rules = new }) (costs_in costs) all trimmed i h t v;
  some_states = record {
    some = let first = at_has states 0 0 ((kept.are_states 0).1 (inl refl)) in omega (arith, first.1);
    few = kept.states_few;
    below = kept.states_below;
    ascend = kept.states_by_place;
  };
  range = new_in_range product (record { names = []; rules = old }) (length costs) states positions numbers kept numbers_are new moved.are;
  few = omega (arith, ap length moved.are, length-map positions (λ n. named_rule (number_in numbers) (rule_at old n)), kept.rules_few);
}
  where
    positions : List ℕ
    positions = chosen (λ i. get_or marks i false) (length old)

    all : (q : ℕ) → IsInside product old q (costs_in costs q)
    all = insides_all product old costs range insides

    are : AreTrimmed product old states new
    are names = trimmed product (record { names = names; rules = old }) (length costs) states positions numbers kept numbers_are (record { names = map (λ q. get_or names q []) states; rules = new })
        (λ n h. let c = chosen_has (λ i. get_or marks i false) (length old) n h in moved.leaves n c.below c.holds) refl moved.are

-- the same, from what each step says
pub made_of :
    {levelled weighted : Bool} {product : ℕ → ℕ → ℕ} (laws : ProductLaws levelled weighted product) (old old1 old2 : List (Rule ℕ)) (costs costs2 : List (Option ℕ)) (count : ℕ) (states states1 : List ℕ) (marks marks1 : List Bool)
    (numbers numbers1 : List ℕ) (new : List (Rule ℕ)) →
    AreInRange count old → length costs ≡ count → AreInsides product old1 costs → old1 ≡ old → AreKept product old2 (length costs2) states (chosen (λ i. get_or marks i false) (length old2)) → old2 ≡ old → costs2 ≡ costs →
    AreNumbersOf states1 numbers → states1 ≡ states → AreMoved old marks1 numbers1 (length old) new → marks1 ≡ marks → numbers1 ≡ numbers → IsMade product old count states new
made_of {levelled} {weighted} {product} laws old old1 old2 costs costs2 count states states1 marks marks1 numbers numbers1 new range long insides o1 kept o2 c2 numbers_are s1 moved m1 n1 =
    subst (λ n. IsMade product old n states new) long
    (made laws old costs states marks numbers new
    (subst (λ n. AreInRange n old) (sym long) range)
    (subst (λ rs. AreInsides product rs costs) o1 insides)
    (subst (λ cs. AreKept product old (length cs) states (chosen (λ i. get_or marks i false) (length old))) c2
    (subst (λ rs. AreKept product rs (length costs2) states (chosen (λ i. get_or marks i false) (length rs))) o2 kept))
    (subst (λ xs. AreNumbersOf xs numbers) s1 numbers_are)
    (subst (λ xs. AreMoved old marks xs (length old) new) n1 (subst (λ xs. AreMoved old xs numbers1 (length old) new) m1 moved)))

-- what holds of rules under some names holds of the grammar of these names and rules
pub carried :
    (P : GrammarOf → GrammarOf → Type 0) (old new : GrammarOf) (names names' : List (List ℕ)) (rules rules' : List (Rule ℕ)) → P (record { names = names; rules = rules }) (record { names = names'; rules = rules' }) →
    names ≡ old.names → rules ≡ old.rules → new.names ≡ names' → new.rules ≡ rules' → P old new
carried P old new names names' rules rules' h n r n' r' =
    subst (λ x. P x new) (ap (λ z. record { names = z; rules = rules }) n ∙ ap (λ z. record { names = old.names; rules = z }) r)
    (subst (λ y. P (record { names = names; rules = rules }) y) (sym (ap (λ z. record { names = z; rules = new.rules }) n' ∙ ap (λ z. record { names = names'; rules = z }) r')) h)
