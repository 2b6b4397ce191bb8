-- Transducers that are the same except for the numbers of their states have one series.
use Rattle.tib_cost.specs.declared.Scale.{Scale}
use Rattle.std.proofs.Common.{◌≡◌, ℕ, ◌<◌, ◌≤◌, inl, inr, List, [], ◌∷◌, ◌++◌, length, map, get_or, refl, ap, sym, ◌∙◌, subst, arith, Option}
use Rattle.std.specs.Prelude.{◌↔◌}
use Rattle.std.specs.declared.cmp.Ordering.{Ordering}
use Rattle.std.proofs.lemmas.List.{get_or-map, length-map, map-append}
use Rattle.std.proofs.lemmas.Option.{slice_get_within, get_or_from_slice_get}
use Rattle.tib_lex.specs.Lists.{Has, Distinct}
use Rattle.tib_lex.proofs.Alongs.{along_of}
use Rattle.tib_lex.proofs.Members.{has_at, at_has, has_left, has_right, has_contains, distinct_more, distinct_from}
use Rattle.tib_lex.proofs.Places.{distinct_at}
use Rattle.tib_tree.specs.Grows.{Adds, AddsAll}
use Rattle.tib_tree.specs.Trees.{Tree, Trees, none, tree, only, relabel, first_of}
use Rattle.tib_grammar.specs.Sides.{Symbol, label, hole, holes, symbol_map, side_map, HolesAreLeaves}
use Rattle.tib_grammar.specs.StateName.{AreStateNames}
use Rattle.tib_grammar.proofs.Below.{below_has}
use Rattle.tib_grammar_file.proofs.PrintedStates.{contains_has, all_added, place, placed}
use Rattle.tib_transducer.specs.NamedPairs.{named_pair}
use Rattle.tib_transducer.specs.Range.{IsWithin, AreWithin, EndsInHoles}
use Rattle.tib_transducer.specs.Rules.{transducer_rule, no_rule, states_in}
use Rattle.tib_transducer.specs.Series.{IsTransducerSeriesAt, IsTransducerSeries}
use Rattle.tib_transducer.specs.TransducerOf.{TransducerOf}
use Rattle.tib_transducer.specs.declared.Pair.{Pair}
use Rattle.tib_transducer.specs.declared.TransducerRule.{TransducerRule}
use Rattle.tib_transducer_file.specs.ByName.{IsSameByName}
use Rattle.tib_transducer_file.specs.TransducerText.{TransducerText}
use Rattle.tib_transducer_file.specs.Value.{IsRule, states_of}
use Rattle.tib_transducer_file.proofs.ReadStates.{rule_ends}
use Rattle.tib_transducer_file.proofs.ShapesRead.{rules_within}
use Rattle.tib_key_edges.specs.Named.{named_transducer_rule}
use Rattle.tib_key_edges.specs.Numbering.{AreRenumbered}
use Rattle.tib_key_edges.proofs.Numbered.{numbered_series}
use Rattle.tib_canon.specs.TransducerKeys.{IsCanonicalTransducer, AreMovesOver}
use Rattle.tib_canon.specs.TransducerLaws.{HasNamedStates}
use Rattle.tib_canon.proofs.Merged.{kept_within, kept_leaves}
use Rattle.tib_canon.proofs.PlacesIn.{map_back, map_itself}
use Rattle.tib_canon.proofs.StateNames.{length-names_of, are_state_names}
use Rattle.tib_canon.proofs.TransducerKeysOnce.{member_is}
use Rattle.tib_canon.proofs.TransducerNamed.{move_back}
use Rattle.tib_canon.proofs.TransducerOverKeys.{moves_over, start_within, many_names}
use Rattle.tib_grammar_file.proofs.SomeText.{one_distinct}

-- states that are exchanged twice are exchanged at once
module _ {P Q R : Type 0} (f : P → Q) (g : Q → R) (h : P → R) where
  trees_both :
      (ts : Trees (Symbol ℕ (Pair P))) → ((q : P) → Has (map (λ x. x.state) (holes ts)) q → g (f q) ≡ h q) → HolesAreLeaves ts →
      relabel (symbol_map (named_pair g)) (relabel (symbol_map (named_pair f)) ts) ≡ relabel (symbol_map (named_pair h)) ts
  trees_both none e l = refl
  trees_both (tree (label x) kids rest) e l =
      ap (λ ks. tree (label x) ks (relabel (symbol_map (named_pair g)) (relabel (symbol_map (named_pair f)) rest))) (trees_both kids (λ q k. e q (front q k)) l.0)
      ∙ ap (tree (label x) (relabel (symbol_map (named_pair h)) kids)) (trees_both rest (λ q k. e q (back q k)) l.1)
    where
      front : (q : P) → Has (map (λ x. x.state) (holes kids)) q → Has (map (λ x. x.state) (holes kids ++ holes rest)) q
      front q k = subst (λ (xs : List P). Has xs q) (sym (map-append (λ (x : Pair P). x.state) (holes kids) (holes rest))) (has_left (map (λ x. x.state) (holes kids)) (map (λ x. x.state) (holes rest)) q k)

      back : (q : P) → Has (map (λ x. x.state) (holes rest)) q → Has (map (λ x. x.state) (holes kids ++ holes rest)) q
      back q k = subst (λ (xs : List P). Has xs q) (sym (map-append (λ (x : Pair P). x.state) (holes kids) (holes rest))) (has_right (map (λ x. x.state) (holes kids)) (map (λ x. x.state) (holes rest)) q k)
  trees_both (tree (hole x) none rest) e l =
      ap (λ (s : R). tree (hole (record { state = s; variable = x.variable })) none (relabel (symbol_map (named_pair g)) (relabel (symbol_map (named_pair f)) rest))) (e x.state (inl refl))
      ∙ ap (tree (hole (named_pair h x)) none) (trees_both rest (λ q k. e q (inr k)) l)
  trees_both (tree (hole x) (tree s kids more) rest) e l = absurd l

  move_both : (r : TransducerRule P) → g (f r.state) ≡ h r.state → ((q : P) → Has (states_in r.right) q → g (f q) ≡ h q) → EndsInHoles r → named_transducer_rule g (named_transducer_rule f r) ≡ named_transducer_rule h r
  move_both r a e l =
      ap (λ z. record { state = z; left = r.left; right = side_map (named_pair g) (side_map (named_pair f) r.right); cost = r.cost }) a
      ∙ ap (λ s. record { state = h r.state; left = r.left; right = s; cost = r.cost }) (ap (first_of (label 0)) (trees_both (only r.right) e l.1))

module _ (t u : TransducerOf) (a : HasNamedStates t) (b : HasNamedStates u) (same : IsSameByName t u) where
  -- the name of a state of the one, and the number that the other has for it
  abbrev name_in : ℕ → List ℕ
  name_in q = get_or t.names q []

  abbrev states : List ℕ
  states = map (place u.names) t.names

  long : length states ≡ length t.names
  long = length-map t.names (place u.names)

  number_at : (q : ℕ) → q < length t.names → get_or states q 0 ≡ place u.names (name_in q)
  number_at q h = get_or-map (place u.names) t.names q [] 0 h

  held : (q : ℕ) → q < length t.names → Has u.names (name_in q)
  held q h = contains_has u.names (name_in q) ((same.names (name_in q)).0 (has_contains t.names (name_in q) (has_at t.names q [] h)))

  stands : (name : List ℕ) → Has u.names name → (place u.names name < length u.names) × (get_or u.names (place u.names name) [] ≡ name)
  stands name h = let s = placed u.names name h in (slice_get_within u.names (place u.names name) name s, get_or_from_slice_get u.names (place u.names name) name [] s)

  number_back : (q : ℕ) → q < length u.names → place u.names (get_or u.names q []) ≡ q
  number_back q h = let s = stands (get_or u.names q []) (has_at u.names q [] h) in distinct_at u.names (place u.names (get_or u.names q [])) q [] b.distinct s.0 h s.1

  numbers_once : Distinct states
  numbers_once = distinct_from states 0 (λ i j k l e.
      let m : i < length t.names = omega (arith, k, long) in
      let n : j < length t.names = omega (arith, l, long) in
      let one : place u.names (name_in i) ≡ place u.names (name_in j) = sym (number_at i m) ∙ e ∙ number_at j n in
      let names : name_in i ≡ name_in j = sym (stands (name_in i) (held i m)).1 ∙ ap (λ p. get_or u.names p []) one ∙ (stands (name_in j) (held j n)).1 in
      distinct_at t.names i j [] a.distinct m n names)

  -- the rules of the one by the numbers of the other are those of the other
  rules_are : map (named_transducer_rule (λ i. get_or states i 0)) t.rules ≡ u.rules
  rules_are =
      sym (map_back (named_transducer_rule (place u.names)) (named_transducer_rule name_in) (named_transducer_rule (λ i. get_or states i 0)) t.rules to)
      ∙ ap (map (named_transducer_rule (place u.names))) same.rules
      ∙ map_itself (named_transducer_rule (place u.names)) (named_transducer_rule (λ q. get_or u.names q [])) u.rules from
    where
      to : (r : TransducerRule ℕ) → Has t.rules r → named_transducer_rule (place u.names) (named_transducer_rule name_in r) ≡ named_transducer_rule (λ i. get_or states i 0) r
      to r h =
          let w = member_is (IsWithin (length t.names)) t.rules a.within r h in
          move_both name_in (place u.names) (λ i. get_or states i 0) r (sym (number_at r.state w.0)) (λ q k. sym (number_at q (below_has (length t.names) (states_in r.right) q w.1 k))) (member_is EndsInHoles t.rules a.leaves r h)

      from : (r : TransducerRule ℕ) → Has u.rules r → named_transducer_rule (place u.names) (named_transducer_rule (λ q. get_or u.names q []) r) ≡ r
      from r h =
          let w = member_is (IsWithin (length u.names)) u.rules b.within r h in
          move_back (λ q. get_or u.names q []) (place u.names) r (number_back r.state w.0) (λ q k. number_back q (below_has (length u.names) (states_in r.right) q w.1 k)) (member_is EndsInHoles u.rules b.leaves r h)

  renumbered : AreRenumbered states t.rules u.rules
  renumbered = record { once = numbers_once; in_range = subst (λ n. AreWithin n t.rules) (sym long) a.within; named = rules_are }

  pub one_series : (product : ℕ → ℕ → ℕ) (x y : Tree ℕ) (v : Option ℕ) → IsTransducerSeries product t.rules x y v ↔ IsTransducerSeries product u.rules x y v
  one_series product x y v =
      let s = numbered_series product states t.rules u.rules renumbered 0 (omega (arith, a.start, long)) x y v in
      let first : get_or states 0 0 ≡ 0 = number_at 0 a.start ∙ ap (place u.names) same.start ∙ number_back 0 b.start in (
        λ h. subst (λ q. IsTransducerSeriesAt product u.rules q x y v) first (s.0 h),
        λ h. s.1 (subst (λ q. IsTransducerSeriesAt product u.rules q x y v) (sym first) h),
      )

-- the states of a transducer that a text is of

all_distinct : (before texts now : List (List ℕ)) → AddsAll before texts now → Distinct before → Distinct now
all_distinct before [] now same d = subst (λ (ts : List (List ℕ)). Distinct ts) (sym same) d
all_distinct before (text ∷ texts) now (middle, one, more) d = all_distinct middle texts now more (one_distinct before text middle one d)

pub text_states : (scale : Scale) (labels : List (List ℕ)) (bytes : List ℕ) (t : TransducerOf) → TransducerText scale labels bytes t → HasNamedStates t
text_states scale labels bytes t r =
    let there = at_has t.names r.start [] (all_added [] (r.start ∷ states_of r.lines) t.names r.states r.start (inl refl)) in
    record {
      start = omega (arith, there.1);
      distinct = all_distinct [] (r.start ∷ states_of r.lines) t.names r.states tt;
      within = rules_within t.names labels t.rules r.lines r.rules;
      leaves = λ m h.
          let rule : TransducerRule ℕ = transducer_rule t.rules m in
          let line = along_of (IsRule t.names labels) t.rules r.lines rule r.rules (has_at t.rules m no_rule h) in
          rule_ends t.names labels rule line.0 line.1;
    }

-- and those of a canonical transducer
pub canonical_states :
    {K : Type 0} (cmp : K → K → Ordering) (scale : Scale) (labels : List (List ℕ)) (order : List K) (rules : List (TransducerRule ℕ)) (start : ℕ) (h : TransducerOf) →
    IsCanonicalTransducer scale labels cmp order rules start h → length order ≤ 4294967296 → AreMovesOver scale labels (length order) rules → HasNamedStates h
canonical_states cmp scale labels order rules start h c few m =
    let moves = moves_over cmp order start rules c.over c.is_over scale labels m in
    let over = many_names cmp order start rules c.over c.is_over in
    let many : length h.names ≡ length order = ap length c.in_order.names ∙ length-names_of (length c.over.names) ∙ over in
    record {
      start = omega (arith, many, start_within cmp order start rules c.over c.is_over);
      distinct = (subst AreStateNames (sym c.in_order.names) (are_state_names (length c.over.names) (omega (arith, few, over)))).distinct;
      within = subst (λ n. AreWithin n h.rules) (sym many) (kept_within (length order) c.over.rules h.rules c.in_order.kept moves.within);
      leaves = kept_leaves c.over.rules h.rules c.in_order.kept moves.leaves;
    }
