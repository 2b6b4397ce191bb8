-- Rules over positions have a canonical transducer: it is impossible that they have none.
use Rattle.tib_cost.specs.declared.Scale.{Scale}
use Rattle.std.proofs.Common.{◌≡◌, ℕ, ◌<◌, ◌≤◌, List, [], length, map, get_or, refl, ap, sym, ◌∙◌, subst, arith}
use Rattle.std.proofs.lemmas.List.{get_or-map}
use Rattle.std.specs.Cmp.{IsTotalOrder}
use Rattle.std.specs.Cmp.Lexicographic.{slice_cmp}
use Rattle.std.specs.Ordering.{nat_cmp}
use Rattle.std.specs.declared.cmp.Ordering.{Ordering}
use Rattle.std.specs.declared.cmp.Ordering.TheVariants.{Equal}
use Rattle.tib_lex.specs.Lists.{Has, Each, Distinct, Ascends}
use Rattle.tib_lex.proofs.Members.{has_at, each_has}
use Rattle.tib_lex.proofs.Numbers.{same_or_other}
use Rattle.tib_grammar.specs.StateName.{AreStateNames}
use Rattle.tib_inside.specs.Renaming.{AreNumbersOf}
use Rattle.tib_inside.proofs.Chosen.{distinct_at}
use Rattle.tib_transducer.specs.Range.{AreWithin}
use Rattle.tib_transducer.specs.TransducerOf.{TransducerOf}
use Rattle.tib_transducer.specs.declared.TransducerRule.{TransducerRule}
use Rattle.tib_transducer_file.specs.ByName.{line_text}
use Rattle.tib_transducer_file.proofs.Fitting.{IsGood}
use Rattle.tib_key_edges.specs.Named.{named_transducer_rule}
use Rattle.tib_grammar.specs.Renaming.{number_in}
use Rattle.tib_canon.specs.Canonical.{names_of}
use Rattle.tib_canon.specs.Keys.{AreByKeys}
use Rattle.tib_canon.proofs.OrderExists.{AreSortedOf, sorted_there, ascends_within}
use Rattle.tib_canon.proofs.OverKeysExist.{over_there}
use Rattle.tib_canon.proofs.PlacesIn.{place_in, stands_at}
use Rattle.tib_canon.proofs.Sorting.{number_same, text_same}
use Rattle.tib_canon.proofs.StateNames.{length-names_of, are_state_names}
use Rattle.tib_canon.proofs.CheapestExist.{least_there}
use Rattle.tib_canon.specs.TransducerKeys.{IsTransducerOverKeys, IsCanonicalTransducer, AreMovesOver}
use Rattle.tib_canon.specs.TransducerLines.{up_to}
use Rattle.tib_canon.specs.Ordered.{move_cmp, AgreeInSides, Differ, AreMerged, IsTransducerInOrder, over_numbers}
use Rattle.tib_canon.proofs.Merged.{agree_back, agree_on, same_sides}
use Rattle.tib_canon.proofs.TransducerOne.{moves_total}
use Rattle.tib_canon.proofs.TransducerOverKeys.{over_keys, moves_over}
use Rattle.tib_canon.proofs.Sorted.{all_good, length-up, up_at}
use Rattle.tib_canon.proofs.TransducerTelling.{told_by_line}
use Rattle.tib_lex.proofs.PairOrder.{both_equal}

-- of rules that agree one of the cheapest can be listed
merged_there : (rules : List (TransducerRule ℕ)) → ((merged : List (TransducerRule ℕ)) → AreMerged rules merged → ⊥) → ⊥
merged_there rules k =
    least_there (λ (r : TransducerRule ℕ). r.cost) AgreeInSides agree_back agree_on same_sides rules
    (λ merged m. k merged (record {
      kept = m.kept;
      least = m.least;
      whole = λ r h. let w = m.whole r h in record { rule = w.value; stands = w.stands; agrees = w.agrees };
      apart = m.apart;
    }))

module _ (scale : Scale) (labels : List (List ℕ)) (t : TransducerOf) where
  abbrev names : List (List ℕ)
  names = names_of (length t.names)

  -- a transducer whose rules have texts has a form in canonical order
  pub order_there :
      AreStateNames names → Distinct labels → ((r : TransducerRule ℕ) → Has t.rules r → IsGood scale names labels r) → ((h : TransducerOf) → IsTransducerInOrder scale labels t h → ⊥) → ⊥
  order_there are apart good k = merged_there t.rules (λ merged m. by merged m (sorted_there (move_cmp scale names labels) (moves_total scale names labels) merged (unequal merged m)))
    where
      told : (merged : List (TransducerRule ℕ)) → AreMerged t.rules merged → (r s : TransducerRule ℕ) → Has merged r → Has merged s → Differ r s → move_cmp scale names labels r s ≡ Equal → ⊥
      told merged m r s h l differ e =
          let both = both_equal (nat_cmp r.state s.state) (slice_cmp nat_cmp (line_text scale names labels r) (line_text scale names labels s)) e in
          let lines : line_text scale names labels r ≡ line_text scale names labels s = text_same (line_text scale names labels r) (line_text scale names labels s) both.1 in
          let sides = told_by_line scale names labels r s are apart (good r (m.kept r h)) (good s (m.kept s l)) lines in
          differ (record { state = number_same r.state s.state both.0; left = sides.0; right = sides.1 })

      unequal : (merged : List (TransducerRule ℕ)) → AreMerged t.rules merged → Ascends (λ r s. move_cmp scale names labels r s ≡ Equal → ⊥) merged
      unequal merged m = ascends_within Differ (λ r s. move_cmp scale names labels r s ≡ Equal → ⊥) merged (told merged m) m.apart

      by : (merged : List (TransducerRule ℕ)) → AreMerged t.rules merged → (rules : List (TransducerRule ℕ)) × AreSortedOf (move_cmp scale names labels) (moves_total scale names labels) merged rules → ⊥
      by merged m s = k (record { names = names; rules = s.0 }) (record {
        names = refl;
        kept = λ r h. m.kept r (s.1.to r h);
        least = λ r u h. m.least r u (s.1.to r h);
        whole = λ r h. let w = m.whole r h in record { rule = w.rule; stands = s.1.from w.rule w.stands; agrees = w.agrees };
        ascends = s.1.ascends;
      })

-- the keys of an order have numbers

numbers_there : (states : List ℕ) (n : ℕ) → Distinct states → ((q : ℕ) → Has states q → q < n) → AreNumbersOf states (map (place_in same_or_other states) (up_to n))
numbers_there states n once low i h =
    let q : ℕ = get_or states i 0 in
    let here : Has states q = has_at states i 0 h in
    let below : q < length (up_to n) = omega (arith, low q here, length-up n) in
    let place = stands_at same_or_other 0 states q here in
    get_or-map (place_in same_or_other states) (up_to n) q 0 0 below ∙ ap (place_in same_or_other states) (up_at n q (low q here))
    ∙ distinct_at states (place_in same_or_other states q) i 0 once place.within h place.is

module _ {K : Type 0} (cmp : K → K → Ordering) (total : IsTotalOrder cmp) (same : (x y : K) → cmp x y ≡ Equal → x ≡ y) (order : List K) (once : Distinct order) (d : K) (start : ℕ) (within : start < length order) where
  pub transducer_over : (scale : Scale) (labels : List (List ℕ)) (rules : List (TransducerRule ℕ)) → AreMovesOver scale labels (length order) rules → (t : TransducerOf) × IsTransducerOverKeys cmp order rules start t
  transducer_over scale labels rules m =
      let g = over_there cmp total same order once d start within [] (λ n h. absurd (omega arith)) (λ n h. absurd (omega arith)) in
      let states : List ℕ = g.1.states in
      let by : AreByKeys cmp order start states = g.1.by_keys in
      let numbers : List ℕ = map (place_in same_or_other states) (up_to (length order)) in
      let new : List (TransducerRule ℕ) = map (named_transducer_rule (number_in numbers)) rules in
      (over_numbers (length order) new, over_keys cmp order start states by numbers (numbers_there states (length order) by.once (λ q h. (by.all q).0 h)) rules m.within m.leaves new refl)

  pub transducer_there :
      (scale : Scale) (labels : List (List ℕ)) (rules : List (TransducerRule ℕ)) → length order ≤ 4294967296 → Distinct labels → AreMovesOver scale labels (length order) rules →
      ((h : TransducerOf) → IsCanonicalTransducer scale labels cmp order rules start h → ⊥) → ⊥
  transducer_there scale labels rules few apart m k =
      let o = transducer_over scale labels rules m in
      let long : length o.0.names ≡ length order = ap length o.1.names ∙ length-names_of (length order) in
      let are : AreStateNames (names_of (length o.0.names)) = are_state_names (length o.0.names) (omega (arith, long, few)) in
      let moves = moves_over cmp order start rules o.0 o.1 scale labels m in
      let many : length (names_of (length o.0.names)) ≡ length order = length-names_of (length o.0.names) ∙ long in
      let good : Each (IsGood scale (names_of (length o.0.names)) labels) o.0.rules =
      all_good scale (names_of (length o.0.names)) labels o.0.rules moves.printable moves.shaped (subst (λ n. AreWithin n o.0.rules) (sym many) moves.within) moves.leaves in
      order_there scale labels o.0 are apart (λ r h. each_has (IsGood scale (names_of (length o.0.names)) labels) o.0.rules r good h)
      (λ h i. k h (record { over = o.0; is_over = o.1; in_order = i }))
