-- Grammars in which there is nothing to trim.
use Rattle.std.specs.Prelude.{◌≡◌, ℕ, ◌+◌, ◌<◌, ◌≤◌, ◌⊎◌, ◌↔◌, List, [], ◌∷◌, ◌++◌, length, map, take, replicate, slice_set, Bool, true, false, Option, None, Some, refl}
use Rattle.std.specs.Option.{is_some}
use Rattle.std.proofs.Common.{zero, suc, arith, ap, sym, ◌∙◌, subst, inl, inr, get_or, add-one, length-append}
use Rattle.std.proofs.lemmas.List.{get_or-set_same, get_or-set_other, get_or-map, take_more, take_all, map-append, get_or_append_left, length-map}
use Rattle.std.proofs.Math.Seq.{get_or-append_seam}
use Rattle.tib_lex.specs.Lists.{Has, Each}
use Rattle.tib_lex.proofs.Lists.{map_same}
use Rattle.tib_lex.proofs.Members.{has_at, has_left, has_right, each_of}
use Rattle.tib_lex.proofs.Numbers.{same_or_other, below_cases}
use Rattle.tib_tree.specs.Trees.{Tree, Trees, none, tree, only, relabel}
use Rattle.tib_cost.specs.Semiring.{ProductLaws}
use Rattle.tib_grammar.specs.GrammarOf.{GrammarOf, named_rule}
use Rattle.tib_grammar.specs.Items.{state_in}
use Rattle.tib_grammar.specs.Range.{AreInRange, SidesEndInHoles}
use Rattle.tib_grammar.specs.Run.{rule_at, no_rule}
use Rattle.tib_grammar.specs.Sides.{Symbol, label, hole, holes, holes_of, symbol_map, side_map, Side, HolesAreLeaves}
use Rattle.tib_grammar.specs.declared.Item.{Item}
use Rattle.tib_grammar.specs.declared.Rule.{Rule}
use Rattle.tib_grammar.proofs.Below.{below_has}
use Rattle.tib_inside.specs.Inside.{IsInside}
use Rattle.tib_inside.specs.Reaching.{chosen, lives, IsMarked, IsReached}
use Rattle.tib_inside.specs.Reaching as reached
use Rattle.tib_inside.specs.Settling.{costs_in}
use Rattle.tib_inside.specs.Trimmed.{IsTrimmed, HasSeriesOfEach}
use Rattle.tib_inside.specs.Useful.{IsLive, IsUseful}
use Rattle.tib_inside.specs.Useful as useful
use Rattle.tib_inside.proofs.Chosen.{chosen_has, chosen_of, chosen_ascends}
use Rattle.tib_inside.proofs.Following.{reach_begin}
use Rattle.tib_inside.proofs.Keeping.{kept_at}
use Rattle.tib_inside.proofs.Living.{live_from, live_marked, useful_left, reached_useful}
use Rattle.tib_prune.specs.Whole.{AreAllLedTo, AreAllLive}
use Rattle.tib_prune.proofs.Told.{state_here}

-- where one state is marked, a marked state is this one or was marked
pub marked_one : (old : List Bool) (state q : ℕ) → IsMarked (slice_set old state true) q → (q ≡ state) ⊎ IsMarked old q
marked_one old state q m = elim (same_or_other q state) [
  | inl e ↦ inl e
  | inr other ↦ inr (sym (get_or-set_other old state q true false other) ∙ m)
]

-- so it is with one more state of some
pub marked_more :
    (old now : List Bool) (states : List ℕ) (state q : ℕ) → Has states state → ((p : ℕ) → IsMarked now p → IsMarked old p ⊎ Has states p) → IsMarked (slice_set now state true) q → IsMarked old q ⊎ Has states q
marked_more old now states state q stands before m = elim (marked_one now state q m) [
  | inl e ↦ inr (subst (Has states) (sym e) stands)
  | inr k ↦ before q k
]

-- the state of an item is among the states
pub state_stands : (states : List (Item ℕ)) (i q : ℕ) (d : Item ℕ) → i < length states → q ≡ state_in (get_or states i d) → Has (map state_in states) q
state_stands states i q d h e = subst (Has (map state_in states)) (sym (state_here states i q d h e)) (has_at (map state_in states) i 0 (omega (arith, h, length-map states state_in)))

-- one more place is marked
pub marked_up_to : (marks : List Bool) (n q : ℕ) → ((p : ℕ) → p < n → IsMarked marks p) → IsMarked marks n → q < n + 1 → IsMarked marks q
marked_up_to marks n q before here h = elim (below_cases q n (omega (arith, h))) [ inl k ↦ before q k | inr e ↦ subst (IsMarked marks) (sym e) here ]

-- what marks the states that are led to
abbrev pub Leads : List (Rule ℕ) → List Bool → Type 0
Leads rules marks = (live : List Bool) → ((n : ℕ) → n < length rules → IsMarked live n) → (q : ℕ) → IsMarked marks q → IsReached rules live q

pub long_false : (n : ℕ) → length (replicate n false) ≡ n
long_false zero = refl
long_false (suc n) = omega (arith, long_false n)

-- at first the start is marked
pub leads_first : (rules : List (Rule ℕ)) (count : ℕ) (marks : List Bool) → 0 < count → marks ≡ slice_set (replicate count false) 0 true → Leads rules marks
leads_first rules count marks some e live all q m = (reach_begin rules live count some).only q (subst (λ (xs : List Bool). IsMarked xs q) e m)

-- and then the states below a rule whose left state is
pub leads_on :
    (rules : List (Rule ℕ)) (n : ℕ) (old new : List Bool) → n < length rules → Leads rules old →
    ((q : ℕ) → IsMarked new q → IsMarked old q ⊎ (IsMarked old (rule_at rules n).left × Has (holes_of (rule_at rules n).right) q)) → Leads rules new
leads_on rules n old new h leads only live all q m = elim (only q m) [
  | inl k ↦ leads live all q k
  | inr s ↦ reached.below n q h (all n h) (leads live all (rule_at rules n).left s.0) s.1
]

-- all numbers below one
abbrev every : ℕ → List ℕ
every n = chosen (λ i. true) n

every_has : (n q : ℕ) → q < n → Has (every n) q
every_has n q h = chosen_of (λ i. true) n q h refl

every_below : (n q : ℕ) → Has (every n) q → q < n
every_below n q h = (chosen_has (λ i. true) n q h).below

length_every : (n : ℕ) → length (every n) ≡ n
length_every zero = refl
length_every (suc n) = omega (arith, length-append (every n) (n ∷ []), length_every n)

-- each is its place
every_at : (n i : ℕ) → i < n → get_or (every n) i 0 ≡ i
every_at zero i h = absurd (omega (arith, h))
every_at (suc n) i h = elim (below_cases i n (omega (arith, h))) [
  | inl k ↦ get_or_append_left (every n) (n ∷ []) 0 i (omega (arith, k, length_every n)) ∙ every_at n i k
  | inr e ↦ ap (λ j. get_or (every n ++ n ∷ []) j 0) (e ∙ sym (length_every n)) ∙ get_or-append_seam (every n) n [] 0 ∙ sym e
]

-- a list by the places of all its members
by_places : {A : Type 0} (xs : List A) (d : A) (n : ℕ) → n ≤ length xs → take n xs ≡ map (λ i. get_or xs i d) (every n)
by_places xs d zero h = refl
by_places xs d (suc n) h =
    ap (λ m. take m xs) (sym (add-one n))
    ∙ take_more xs n d (omega (arith, h))
    ∙ ap (λ ys. ys ++ get_or xs n d ∷ []) (by_places xs d n (omega (arith, h)))
    ∙ sym (map-append (λ i. get_or xs i d) (every n) (n ∷ []))

pub by_every : {A : Type 0} (xs : List A) (d : A) → xs ≡ map (λ i. get_or xs i d) (every (length xs))
by_every xs d = sym (take_all (length xs) xs (omega arith)) ∙ by_places xs d (length xs) (omega arith)

-- a side whose states keep their numbers stays the same
pub trees_stay : (f : ℕ → ℕ) (ts : Trees (Symbol ℕ ℕ)) → HolesAreLeaves ts → ((q : ℕ) → Has (holes ts) q → f q ≡ q) → relabel (symbol_map f) ts ≡ ts
trees_stay f none l s = refl
trees_stay f (tree (label g) kids rest) l s =
    ap (λ us. tree (label g) us (relabel (symbol_map f) rest)) (trees_stay f kids l.0 (λ q h. s q (has_left (holes kids) (holes rest) q h)))
    ∙ ap (tree (label g) kids) (trees_stay f rest l.1 (λ q h. s q (has_right (holes kids) (holes rest) q h)))
trees_stay f (tree (hole p) none rest) l s =
    ap (λ (r : ℕ). tree (hole r) none (relabel (symbol_map f) rest)) (s p (inl refl))
    ∙ ap (tree (hole p) none) (trees_stay f rest l (λ q h. s q (inr h)))
trees_stay f (tree (hole p) (tree x kids more) rest) l s = absurd l

abbrev root_of : Trees (Symbol ℕ ℕ) → Side ℕ ℕ → Side ℕ ℕ
root_of none s = s
root_of (tree x kids rest) s = record { label = x; kids = kids }

side_stays : (f : ℕ → ℕ) (s : Side ℕ ℕ) → HolesAreLeaves (only s) → ((q : ℕ) → Has (holes_of s) q → f q ≡ q) → side_map f s ≡ s
side_stays f s l same = ap (λ ts. root_of ts s) (trees_stay f (only s) l same)

rule_stays : (f : ℕ → ℕ) (r : Rule ℕ) → f r.left ≡ r.left → HolesAreLeaves (only r.right) → ((q : ℕ) → Has (holes_of r.right) q → f q ≡ q) → named_rule f r ≡ r
rule_stays f r left l same =
    ap (λ (p : ℕ). record { left = p; right = side_map f r.right; cost = r.cost }) left
    ∙ ap (λ (s : Side ℕ ℕ). record { left = r.left; right = s; cost = r.cost }) (side_stays f r.right l same)

-- what is seen of a grammar in which there is nothing to trim
pub record IsWhole (product : ℕ → ℕ → ℕ) (costs : ℕ → Option ℕ) (g : GrammarOf) : Type 0 where
  pub some : 0 < length g.names
  pub range : AreInRange (length g.names) g.rules
  pub leaves : SidesEndInHoles g.rules
  pub led : AreAllLedTo g.rules (length g.names)
  pub live : AreAllLive product costs g.rules

-- the same from what the code reads
pub whole_from :
    (product : ℕ → ℕ → ℕ) (g h : GrammarOf) (rules : List (Rule ℕ)) (states : ℕ) (costs used : List (Option ℕ)) → h ≡ g → rules ≡ h.rules → states ≡ length h.names → used ≡ costs →
    0 < length h.names → AreInRange (length h.names) h.rules → SidesEndInHoles h.rules → AreAllLedTo rules states → AreAllLive product (costs_in used) rules → IsWhole product (costs_in costs) g
whole_from product g h rules states costs used e rules_are states_are used_are some range leaves led live =
    subst (IsWhole product (costs_in costs)) e (record {
      some = some;
      range = range;
      leaves = leaves;
      led = subst (λ (rs : List (Rule ℕ)). AreAllLedTo rs (length h.names)) rules_are (subst (AreAllLedTo rules) states_are led);
      live = subst (AreAllLive product (costs_in costs)) rules_are (subst (λ (cs : List (Option ℕ)). AreAllLive product (costs_in cs) rules) used_are live);
    })

module _
    {levelled weighted : Bool} {product : ℕ → ℕ → ℕ} (laws : ProductLaws levelled weighted product) (g : GrammarOf) (costs : ℕ → Option ℕ) (insides : (q : ℕ) → IsInside product g.rules q (costs q))
    (seen : IsWhole product costs g) where
  live_at : (n : ℕ) → n < length g.rules → IsLive product g.rules n
  live_at n h = live_from laws g.rules costs insides n h (seen.live n h)

  kept_state : (q : ℕ) → q < length g.names → (q ≡ 0) ⊎ IsUseful product g.rules q
  kept_state q h =
      reached_useful laws g.rules costs insides (lives product costs g.rules) refl q
      (seen.led (lives product costs g.rules) (λ n k. live_marked laws g.rules costs insides (lives product costs g.rules) refl n (live_at n k)) q h)

  useful_in_range : (q : ℕ) → IsUseful product g.rules q → q < length g.names
  useful_in_range _ (useful.start c i) = seen.some
  useful_in_range _ (useful.below n q u l s) = below_has (length g.names) (holes_of (rule_at g.rules n).right) q (seen.range n l.below).1 s

  state_back : (q : ℕ) → (q ≡ 0) ⊎ IsUseful product g.rules q → q < length g.names
  state_back q (inl e) = omega (arith, e, seen.some)
  state_back q (inr u) = useful_in_range q u

  stays : (n : ℕ) → n < length g.rules → named_rule (λ i. get_or (every (length g.names)) i 0) (rule_at g.rules n) ≡ rule_at g.rules n
  stays n h =
      rule_stays (λ i. get_or (every (length g.names)) i 0) (rule_at g.rules n) (every_at (length g.names) (rule_at g.rules n).left (seen.range n h).0) (seen.leaves n h)
      (λ q s. every_at (length g.names) q (below_has (length g.names) (holes_of (rule_at g.rules n).right) q (seen.range n h).1 s))

  -- there is nothing to trim
  pub whole : IsTrimmed product g g
  whole = record {
    states = every (length g.names);
    states_ascend = chosen_ascends (λ i. true) (length g.names);
    are_states = λ q. (λ h. kept_state q (every_below (length g.names) q h), λ k. every_has (length g.names) q (state_back q k));
    rules = every (length g.rules);
    rules_ascend = chosen_ascends (λ i. true) (length g.rules);
    are_rules = λ n. (
      λ h.
          let below : n < length g.rules = every_below (length g.rules) n h in (
            live_at n below,
            useful_left laws g.rules costs insides n (live_at n below) (kept_state (rule_at g.rules n).left (seen.range n below).0),
          ),
      λ both. every_has (length g.rules) n both.0.below,
    );
    in_range = subst (λ n. AreInRange n g.rules) (sym (length_every (length g.names))) seen.range;
    names = by_every g.names [];
    named = ap (map (named_rule (λ i. get_or (every (length g.names)) i 0))) (by_every g.rules no_rule)
        ∙ again (every (length g.rules)) (λ n h. stays n (every_below (length g.rules) n h));
  }
    where
      again : (ns : List ℕ) → ((n : ℕ) → Has ns n → named_rule (λ i. get_or (every (length g.names)) i 0) (rule_at g.rules n) ≡ rule_at g.rules n) → map (named_rule (λ i. get_or (every (length g.names)) i 0)) (map (rule_at g.rules) ns) ≡ map (rule_at g.rules) ns
      again [] s = refl
      again (n ∷ ns) s =
          ap (λ (r : Rule ℕ). r ∷ map (named_rule (λ i. get_or (every (length g.names)) i 0)) (map (rule_at g.rules) ns)) (s n (inl refl)) ∙ ap (λ rs. rule_at g.rules n ∷ rs) (again ns (λ m h. s m (inr h)))

  -- and each state has its series
  pub whole_each : HasSeriesOfEach product g g
  whole_each trimmed i b t v = kept_at laws g g costs insides trimmed i b t v
