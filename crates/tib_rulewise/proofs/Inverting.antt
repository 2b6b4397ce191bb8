-- A rule and its inverse mirror each other, and the inverse has its shape.
use Rattle.std.specs.Prelude.{◌≡◌, ℕ, ◌<◌, List, [], ◌∷◌, length, map, Option, Some, None, refl}
use Rattle.std.proofs.Common.{zero, suc, arith, ap, sym, ◌∙◌, subst, inl, inr, get_or}
use Rattle.std.proofs.lemmas.List.{length-map, ext_get_or}
use Rattle.tib_lex.specs.Lists.{Has, Each}
use Rattle.tib_lex.proofs.Lists.{Each-from, has_mapped, map_twice, map_same}
use Rattle.tib_lex.proofs.Members.{distinct_from, each_of, each_has, has_at}
use Rattle.tib_lex.proofs.Places.{get_map, at_map}
use Rattle.tib_tree.specs.Trees.{Trees, none, tree, count, only}
use Rattle.tib_grammar.specs.Sides.{holes_of, symbol_map}
use Rattle.tib_grammar.specs.Range.{AllBelow}
use Rattle.tib_grammar.proofs.Sides.{holes-relabel, fill-relabel}
use Rattle.tib_transducer.specs.Rules.{transducer_rule, no_rule, no_variable, variables_of, states_in, variables_in}
use Rattle.tib_transducer.specs.Run.{AreBound, Binds}
use Rattle.tib_transducer.specs.Range.{AreNumbered, IsShaped, AreShaped, IsWithin, AreWithin}
use Rattle.tib_transducer.specs.Classes.{IsLinear, IsNondeleting, IsLabelled}
use Rattle.tib_transducer.specs.TransducerOf.{TransducerOf}
use Rattle.tib_transducer.specs.declared.Variable.{Variable}
use Rattle.tib_transducer.specs.declared.Pair.{Pair}
use Rattle.tib_transducer.specs.declared.TransducerRule.{TransducerRule}
use Rattle.tib_rulewise.specs.Placed.{variables_from}
use Rattle.tib_rulewise.specs.Inverse.{no_pair, place_of, variable_at, pair_for, inverse_rule, inverse_of}
use Rattle.tib_rulewise.specs.Invertible.{IsInvertible, AreInvertible}
use Rattle.tib_rulewise.proofs.Placed.{side-holes, side-fill, side-begins, along-variables, numbered, length-variables, bind_any, each_variable, no_label}
use Rattle.tib_rulewise.proofs.Places.{place_below, at_place, place_at}
use Rattle.tib_rulewise.proofs.Reordered.{AreTurned}
use Rattle.tib_rulewise.proofs.Mirrored.{IsMirrored, AreMirrored}
use Rattle.tib_transducer.proofs.Counting.{place_number, all_stand}

-- variables without labels bind any trees, as many as they are
bind_plain : (xs : List Variable) (us : Trees ℕ) → ((x : Variable) → Has xs x → (f : ℕ) → x.label ≡ Some f → ⊥) → count us ≡ length xs → AreBound xs us
bind_plain [] none h e = tt
bind_plain [] (tree f kids rest) h e = absurd (omega arith)
bind_plain (x ∷ xs) none h e = absurd (omega arith)
bind_plain (x ∷ xs) (tree f kids rest) h e = (binds x.label (λ g k. h x (inl refl) g k), bind_plain xs rest (λ y m. h y (inr m)) (omega arith))
  where
    binds : (o : Option ℕ) → ((g : ℕ) → o ≡ Some g → ⊥) → Binds o f
    binds None k = tt
    binds (Some g) k = absurd (k g refl)

-- members at places below n that are all below a bound
below_at : (n : ℕ) (qs : List ℕ) (j : ℕ) → AllBelow n qs → j < length qs → get_or qs j 0 < n
below_at n [] j a h = absurd (omega arith)
below_at n (q ∷ qs) zero a h = a.0
below_at n (q ∷ qs) (suc j) a h = below_at n qs j a.1 (omega arith)

all_below : (n : ℕ) (qs js : List ℕ) → AllBelow n qs → Each (λ j. j < length qs) js → AllBelow n (map (λ j. get_or qs j 0) js)
all_below n qs [] a e = tt
all_below n qs (j ∷ js) a e = (below_at n qs j a e.0, all_below n qs js a e.1)

module _ (r : TransducerRule ℕ) (shaped : IsShaped r) (linear : IsLinear r) (nondeleting : IsNondeleting r) where
  abbrev pairs : List (Pair ℕ)
  pairs = holes_of r.right

  abbrev vars : List Variable
  vars = variables_of r.left

  abbrev named : List ℕ
  named = variables_in r.right

  abbrev places : List ℕ
  places = map (λ x. place_of (holes_of r.right) x.number) (variables_of r.left)

  -- what the right-hand side of the inverse carries
  pairs_are : holes_of (inverse_rule r).right ≡ map (pair_for (holes_of r.right)) (variables_of r.left)
  pairs_are = holes-relabel (pair_for (holes_of r.right)) (only r.left)

  variables_are : variables_in (inverse_rule r).right ≡ map (λ x. place_of (holes_of r.right) x.number) (variables_of r.left)
  variables_are = ap (map (λ (z : Pair ℕ). z.variable)) pairs_are ∙ map_twice (λ (z : Pair ℕ). z.variable) (pair_for (holes_of r.right)) (variables_of r.left)

  states_are : states_in (inverse_rule r).right ≡ map (λ x. (get_or (holes_of r.right) (place_of (holes_of r.right) x.number) no_pair).state) (variables_of r.left)
  states_are = ap (map (λ (z : Pair ℕ). z.state)) pairs_are ∙ map_twice (λ (z : Pair ℕ). z.state) (pair_for (holes_of r.right)) (variables_of r.left)

  -- what the left-hand side of the inverse carries
  read_are : variables_of (inverse_rule r).left ≡ variables_from 0 (length (holes_of r.right))
  read_are = side-holes variable_at r.right ∙ along-variables 0 (holes_of r.right)

  pub read_long : length (variables_of (inverse_rule r).left) ≡ length (holes_of r.right)
  read_long = ap length read_are ∙ length-variables 0 (length (holes_of r.right))

  named_long : length named ≡ length (holes_of r.right)
  named_long = length-map (holes_of r.right) (λ (z : Pair ℕ). z.variable)

  states_long : length (states_in r.right) ≡ length (holes_of r.right)
  states_long = length-map (holes_of r.right) (λ (z : Pair ℕ). z.state)

  places_long : length places ≡ length vars
  places_long = length-map (variables_of r.left) (λ (x : Variable). place_of (holes_of r.right) x.number)

  stand : (j : ℕ) → j < length vars → Has named j
  stand = all_stand (variables_of r.left) (variables_in r.right) shaped.numbered nondeleting

  place_is : (j : ℕ) → j < length vars → get_or places j 0 ≡ place_of (holes_of r.right) j
  place_is j b =
      get_map (λ (x : Variable). place_of (holes_of r.right) x.number) (variables_of r.left) j 0 no_variable b
      ∙ ap (place_of (holes_of r.right)) (place_number (variables_of r.left) j shaped.numbered b)

  known : (i : ℕ) → i < length named → get_or named i 0 < length vars
  known i b = each_has (λ j. j < length (variables_of r.left)) (variables_in r.right) (get_or (variables_in r.right) i 0) shaped.known (has_at (variables_in r.right) i 0 b)

  place_turned : AreTurned named places
  place_turned = record {
    there = λ j b.
        let near : j < length vars = omega (arith, b, places_long) in
        let low : place_of (holes_of r.right) j < length (holes_of r.right) = place_below (holes_of r.right) j (stand j near) in (
          omega (arith, place_is j near, low, named_long),
          ap (λ n. get_or named n 0) (place_is j near) ∙ at_place (holes_of r.right) j (stand j near),
        );
    back = λ i b.
        let low : get_or named i 0 < length vars = known i b in (
          omega (arith, low, places_long),
          place_is (get_or named i 0) low ∙ place_at (holes_of r.right) i linear (omega (arith, b, named_long)),
        );
  }

  pub turned : AreTurned (variables_in r.right) (variables_in (inverse_rule r).right)
  turned = subst (AreTurned (variables_in r.right)) (sym variables_are) place_turned

  -- the states at the places
  states_there : map (λ j. get_or (states_in r.right) j 0) (variables_in (inverse_rule r).right) ≡ states_in (inverse_rule r).right
  states_there =
      ap (map (λ (j : ℕ). get_or (states_in r.right) j 0)) variables_are
      ∙ map_twice (λ (j : ℕ). get_or (states_in r.right) j 0) (λ (x : Variable). place_of (holes_of r.right) x.number) (variables_of r.left)
      ∙ map_same (λ (x : Variable). get_or (states_in r.right) (place_of (holes_of r.right) x.number) 0) (λ x. (get_or (holes_of r.right) (place_of (holes_of r.right) x.number) no_pair).state) (variables_of r.left)
      (each_of (λ (x : Variable). get_or (states_in r.right) (place_of (holes_of r.right) x.number) 0 ≡ (get_or (holes_of r.right) (place_of (holes_of r.right) x.number) no_pair).state) (variables_of r.left)
      (λ x _. at_map (λ (z : Pair ℕ). z.state) (holes_of r.right) (place_of (holes_of r.right) x.number) no_pair))
      ∙ sym states_are

  -- and those at the variables
  pub states_back : map (λ j. get_or (states_in (inverse_rule r).right) j 0) (variables_in r.right) ≡ states_in r.right
  states_back =
      ext_get_or 0 (map (λ (j : ℕ). get_or (states_in (inverse_rule r).right) j 0) (variables_in r.right)) (states_in r.right)
      (length-map (variables_in r.right) (λ (j : ℕ). get_or (states_in (inverse_rule r).right) j 0) ∙ named_long ∙ sym states_long)
      (λ i b. at i (omega (arith, b, length-map (variables_in r.right) (λ (j : ℕ). get_or (states_in (inverse_rule r).right) j 0))))
    where
      at : (i : ℕ) → i < length named → get_or (map (λ (j : ℕ). get_or (states_in (inverse_rule r).right) j 0) (variables_in r.right)) i 0 ≡ get_or (states_in r.right) i 0
      at i b =
          let v : ℕ = get_or named i 0 in
          let low : v < length vars = known i b in
          let place : place_of (holes_of r.right) v ≡ i = place_at (holes_of r.right) i linear (omega (arith, b, named_long)) in
          get_map (λ (j : ℕ). get_or (states_in (inverse_rule r).right) j 0) (variables_in r.right) i 0 0 b
          ∙ ap (λ (qs : List ℕ). get_or qs v 0) states_are
          ∙ get_map (λ (x : Variable). (get_or (holes_of r.right) (place_of (holes_of r.right) x.number) no_pair).state) (variables_of r.left) v 0 no_variable low
          ∙ ap (λ (n : ℕ). (get_or (holes_of r.right) (place_of (holes_of r.right) n) no_pair).state) (place_number (variables_of r.left) v shaped.numbered low)
          ∙ ap (λ (n : ℕ). (get_or (holes_of r.right) n no_pair).state) place
          ∙ sym (at_map (λ (z : Pair ℕ). z.state) (holes_of r.right) i no_pair)

  -- each state on the right stands on the right of the inverse
  pub inverse_states : (q : ℕ) → Has (states_in r.right) q → Has (states_in (inverse_rule r).right) q
  inverse_states q h =
      let m = has_mapped (λ (j : ℕ). get_or (states_in (inverse_rule r).right) j 0) (variables_in r.right) q (subst (λ (qs : List ℕ). Has qs q) (sym states_back) h) in
      let low : m.0 < length vars = each_has (λ j. j < length (variables_of r.left)) (variables_in r.right) m.0 shaped.known m.1 in
      let long : length (states_in (inverse_rule r).right) ≡ length vars =
      ap length states_are ∙ length-map (variables_of r.left) (λ (x : Variable). (get_or (holes_of r.right) (place_of (holes_of r.right) x.number) no_pair).state)
      in
      subst (Has (states_in (inverse_rule r).right)) m.2 (has_at (states_in (inverse_rule r).right) m.0 0 (omega (arith, low, long)))

  -- the inverse mirrors the rule
  pub inverse_mirrors : IsMirrored r (inverse_rule r)
  inverse_mirrors = record {
    state = refl;
    cost = refl;
    reads = λ us. side-fill variable_at r.right us;
    outputs = λ us. fill-relabel (pair_for (holes_of r.right)) (only r.left) us;
    free = λ us e. subst (λ (vs : List Variable). AreBound vs us) (sym read_are) (bind_any 0 (length (holes_of r.right)) us e);
    many = sym places_long ∙ sym (ap length variables_are);
    states = states_there;
    turned = turned;
  }

  -- and the rule its inverse
  pub rule_mirrors : (IsLabelled r → ⊥) → IsMirrored (inverse_rule r) r
  rule_mirrors unlabelled = record {
    state = refl;
    cost = refl;
    reads = λ us. sym (fill-relabel (pair_for (holes_of r.right)) (only r.left) us);
    outputs = λ us. sym (side-fill variable_at r.right us);
    free = λ us e.
        bind_plain (variables_of r.left) us (λ x h f k. unlabelled (record { variable = x; stands = h; root = f; labelled = k }))
        (e ∙ ap length pairs_are ∙ length-map (variables_of r.left) (pair_for (holes_of r.right)));
    many = read_long ∙ sym named_long;
    states = states_back;
    turned = record { there = turned.back; back = turned.there };
  }

  -- the shape of the inverse
  places_within : Each (λ j. j < length (holes_of r.right)) (variables_in (inverse_rule r).right)
  places_within = Each-from (λ j. j < length (holes_of r.right)) (variables_in (inverse_rule r).right) 0 (λ n b. omega (arith, (turned.there n b).0, named_long))

  pub inverse_within : (states : ℕ) → IsWithin states r → IsWithin states (inverse_rule r)
  inverse_within states h = (
    h.0,
    subst (AllBelow states) states_there
        (all_below states (states_in r.right) (variables_in (inverse_rule r).right) h.1 (subst (λ (n : ℕ). Each (λ j. j < n) (variables_in (inverse_rule r).right)) (sym states_long) places_within)),
  )

  pub inverse_known : Each (λ j. j < length (variables_of (inverse_rule r).left)) (variables_in (inverse_rule r).right)
  inverse_known = subst (λ (n : ℕ). Each (λ j. j < n) (variables_in (inverse_rule r).right)) (sym read_long) places_within

  pub inverse_linear : IsLinear (inverse_rule r)
  inverse_linear = distinct_from (variables_in (inverse_rule r).right) 0 (λ i j a b e. sym (turned.there i a).1 ∙ ap (λ n. get_or (variables_in r.right) n 0) e ∙ (turned.there j b).1)

  pub inverse_nondeleting : IsNondeleting (inverse_rule r)
  inverse_nondeleting =
      subst (Each (λ (x : Variable). Has (variables_in (inverse_rule r).right) x.number)) (sym read_are)
      (each_variable 0 (length (holes_of r.right)) (variables_in (inverse_rule r).right) (λ i _ high. has i (omega (arith, high, named_long))))
    where
      has : (i : ℕ) → i < length (variables_in r.right) → Has (variables_in (inverse_rule r).right) i
      has i b = let t = turned.back i b in subst (Has (variables_in (inverse_rule r).right)) t.1 (has_at (variables_in (inverse_rule r).right) (get_or (variables_in r.right) i 0) 0 t.0)

  pub inverse_unlabelled : IsLabelled (inverse_rule r) → ⊥
  inverse_unlabelled h = no_label 0 (length (holes_of r.right)) h.variable h.root (subst (λ (vs : List Variable). Has vs h.variable) read_are h.stands) h.labelled

  pub inverse_numbered : AreNumbered 0 (variables_of (inverse_rule r).left)
  inverse_numbered = subst (AreNumbered 0) (sym read_are) (numbered 0 (length (holes_of r.right)))

-- a transducer of the names and the inverses of the rules
pub inverse_is : (t u : TransducerOf) → u.names ≡ t.names → u.rules ≡ map inverse_rule t.rules → u ≡ inverse_of t
inverse_is t u names rules =
    ap (λ (ns : List (List ℕ)). record { names = ns; rules = u.rules }) names ∙ ap (λ (rs : List (TransducerRule ℕ)). record { names = t.names; rules = rs }) rules

-- one rule that has an inverse
pub inverse_shaped : (r : TransducerRule ℕ) → IsShaped r → IsInvertible r → IsShaped (inverse_rule r)
inverse_shaped r s h =
    let linear = h.linear refl in
    let nondeleting = h.nondeleting refl in
    record {
      begins = side-begins variable_at r.right (h.strict refl);
      numbered = inverse_numbered r s linear nondeleting;
      known = inverse_known r s linear nondeleting;
    }

-- the inverse of a rule has an inverse
pub inverse_invertible : (r : TransducerRule ℕ) → IsShaped r → IsInvertible r → IsInvertible (inverse_rule r)
inverse_invertible r s h =
    let linear = h.linear refl in
    let nondeleting = h.nondeleting refl in
    record {
      linear = λ _. inverse_linear r s linear nondeleting;
      nondeleting = λ _. inverse_nondeleting r s linear nondeleting;
      one_label = λ e _. absurd (cc);
      unlabelled = λ _. inverse_unlabelled r s linear nondeleting;
      strict = λ _. record { root = s.begins.root; is_root = ap (symbol_map (pair_for (holes_of r.right))) s.begins.is_root };
    }

-- all rules
module _ (rules : List (TransducerRule ℕ)) (shaped : AreShaped rules) (invertible : AreInvertible rules) where
  rule_is : (n : ℕ) → n < length rules → transducer_rule (map inverse_rule rules) n ≡ inverse_rule (transducer_rule rules n)
  rule_is n b = get_map inverse_rule rules n no_rule no_rule b

  long : length (map inverse_rule rules) ≡ length rules
  long = length-map rules inverse_rule

  pub mirrors_to : AreMirrored rules (map inverse_rule rules)
  mirrors_to n b =
      let h = invertible n b in (
        omega (arith, b, long),
        subst (IsMirrored (transducer_rule rules n)) (sym (rule_is n b)) (inverse_mirrors (transducer_rule rules n) (shaped n b) (h.linear refl) (h.nondeleting refl)),
      )

  pub mirrors_from : AreMirrored (map inverse_rule rules) rules
  mirrors_from n c =
      let b : n < length rules = omega (arith, c, long) in
      let h = invertible n b in (
        b,
        subst (λ (x : TransducerRule ℕ). IsMirrored x (transducer_rule rules n)) (sym (rule_is n b))
            (rule_mirrors (transducer_rule rules n) (shaped n b) (h.linear refl) (h.nondeleting refl) (h.unlabelled refl)),
      )

  pub inverses_shaped : AreShaped (map inverse_rule rules)
  inverses_shaped n c =
      let b : n < length rules = omega (arith, c, long) in
      subst IsShaped (sym (rule_is n b)) (inverse_shaped (transducer_rule rules n) (shaped n b) (invertible n b))

  pub inverses_invertible : AreInvertible (map inverse_rule rules)
  inverses_invertible n c =
      let b : n < length rules = omega (arith, c, long) in
      subst IsInvertible (sym (rule_is n b)) (inverse_invertible (transducer_rule rules n) (shaped n b) (invertible n b))

  pub inverses_within : (states : ℕ) → AreWithin states rules → AreWithin states (map inverse_rule rules)
  inverses_within states w n c =
      let b : n < length rules = omega (arith, c, long) in
      let h = invertible n b in
      subst (IsWithin states) (sym (rule_is n b)) (inverse_within (transducer_rule rules n) (shaped n b) (h.linear refl) (h.nondeleting refl) states (w n b))
