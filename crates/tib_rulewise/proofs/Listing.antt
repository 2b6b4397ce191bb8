-- Pairs that are listed by their variables, one after another.
use Rattle.std.specs.Prelude.{◌≡◌, ℕ, ◌+◌, ◌<◌, List, [], ◌∷◌, length, map, take}
use Rattle.std.proofs.Common.{suc, arith, ap, sym, ◌∙◌, subst, inl, inr, get_or, set}
use Rattle.std.proofs.lemmas.List.{length-map, get_or-set_same, get_or-set_other}
use Rattle.tib_lex.specs.Lists.{Has, Each, Distinct}
use Rattle.tib_lex.proofs.Numbers.{below_suc_cases}
use Rattle.tib_lex.proofs.Members.{each_has, has_at}
use Rattle.tib_lex.proofs.Places.{distinct_at, at_map}
use Rattle.tib_tree.specs.Trees.{preorder_of, only}
use Rattle.tib_grammar.specs.Sides.{holes_of, side_map, HolesAreLeaves}
use Rattle.tib_grammar.specs.Items.{pairs_of, holes_in}
use Rattle.tib_grammar.specs.declared.Item.{Item}
use Rattle.tib_grammar.specs.declared.Item.TheVariants.{Label, Hole}
use Rattle.tib_grammar.proofs.Holes.{holes_of_items}
use Rattle.tib_transducer.specs.Counting.{numbers_in}
use Rattle.tib_transducer.specs.Rules.{variables_of, variables_in}
use Rattle.tib_transducer.specs.Range.{IsShaped}
use Rattle.tib_transducer.specs.Classes.{IsLinear, IsNondeleting}
use Rattle.tib_transducer.specs.declared.Variable.{Variable}
use Rattle.tib_transducer.specs.declared.Pair.{Pair}
use Rattle.tib_transducer.specs.declared.TransducerRule.{TransducerRule}
use Rattle.tib_rulewise.specs.Inverse.{no_pair, place_of, pair_for, inverse_rule}
use Rattle.tib_rulewise.specs.Paired.{AreListed, pair_in}
use Rattle.tib_rulewise.proofs.Items.{hole_at, side_map_same}
use Rattle.tib_rulewise.proofs.Places.{place_below, at_place, numbers_below}

-- one more pair, whose state and place are put at its variable
module _
    (items : List (Item (Pair ℕ))) (k count place : ℕ) (x : Pair ℕ) (b : k < length items) (is : get_or items k (Label 0 0) ≡ Hole x)
    (here : place ≡ length (holes_in (take k items))) (known : Each (λ i. i < count) (numbers_in items)) where
  at_here : get_or (holes_in items) place no_pair ≡ x
  at_here = ap (λ n. get_or (holes_in items) n no_pair) here ∙ (hole_at items k x no_pair b is).1

  pub place_within : place < length (holes_in items)
  place_within = omega (arith, here, (hole_at items k x no_pair b is).0)

  variable_here : get_or (numbers_in items) place 0 ≡ x.variable
  variable_here = at_map (λ (y : Pair ℕ). y.variable) (holes_in items) place no_pair ∙ ap (λ (y : Pair ℕ). y.variable) at_here

  numbers_long : length (numbers_in items) ≡ length (holes_in items)
  numbers_long = length-map (holes_in items) (λ (y : Pair ℕ). y.variable)

  pub variable_within : x.variable < count
  variable_within =
      subst (λ n. n < count) variable_here
      (each_has (λ i. i < count) (numbers_in items) (get_or (numbers_in items) place 0) known (has_at (numbers_in items) place 0 (omega (arith, place_within, numbers_long))))

  pub listed_more :
      Distinct (numbers_in items) → (listed : List (ℕ × ℕ)) → length listed ≡ count → AreListed (holes_in items) place listed →
      AreListed (holes_in items) (suc place) (set listed x.variable (x.state, place))
  listed_more once listed long old i low = elim (below_suc_cases i place low) [
    | inl before ↦
        let v : ℕ = (get_or (holes_in items) i no_pair).variable in
        let v_is : get_or (numbers_in items) i 0 ≡ v = at_map (λ (y : Pair ℕ). y.variable) (holes_in items) i no_pair in
        let apart : v ≡ x.variable → ⊥ =
        λ e.
        let same : i ≡ place = distinct_at (numbers_in items) i place 0 once (omega (arith, before, place_within, numbers_long)) (omega (arith, place_within, numbers_long)) (v_is ∙ e ∙ sym variable_here) in
        omega (arith, same, before)
        in
        get_or-set_other listed x.variable v (x.state, place) (0, 0) apart ∙ old i before
    | inr same ↦
        let pair : get_or (holes_in items) i no_pair ≡ x = ap (λ n. get_or (holes_in items) n no_pair) same ∙ at_here in
        ap (λ (y : Pair ℕ). get_or (set listed x.variable (x.state, place)) y.variable (0, 0)) pair
        ∙ get_or-set_same listed x.variable (x.state, place) (0, 0) (omega (arith, variable_within, long))
        ∙ ap (λ (y : Pair ℕ). (y.state, place)) (sym pair)
        ∙ ap (λ (n : ℕ). ((get_or (holes_in items) i no_pair).state, n)) (sym same)
  ]

-- what is listed for the variables of a rule is what its inverse has for them
module _
    (r : TransducerRule ℕ) (items : List (Item (Pair ℕ))) (rs : pairs_of items ≡ preorder_of r.right) (shaped : IsShaped r)
    (linear : IsLinear r) (nondeleting : IsNondeleting r) (leaves : HolesAreLeaves (only r.left)) where
  holes_are : holes_of r.right ≡ holes_in items
  holes_are = holes_of_items items r.right rs

  numbers_are : variables_in r.right ≡ numbers_in items
  numbers_are = ap (map (λ (y : Pair ℕ). y.variable)) holes_are

  pub once : Distinct (numbers_in items)
  once = subst Distinct numbers_are linear

  pub known_below : (count : ℕ) → count ≡ length (variables_of r.left) → Each (λ i. i < count) (numbers_in items)
  known_below count e = subst (λ (n : ℕ). Each (λ i. i < n) (numbers_in items)) (sym e) (subst (Each (λ i. i < length (variables_of r.left))) numbers_are shaped.known)

  pub variables_below : (listed : List (ℕ × ℕ)) → length listed ≡ length (variables_of r.left) → Each (λ x. x.number < length listed) (variables_of r.left)
  variables_below listed e = Each-to (variables_of r.left) (numbers_below (variables_of r.left) 0 shaped.numbered)
    where
      Each-to : (xs : List Variable) → Each (λ x. x.number < 0 + length (variables_of r.left)) xs → Each (λ x. x.number < length listed) xs
      Each-to [] h = tt
      Each-to (x ∷ xs) h = (omega (arith, h.0, e), Each-to xs h.1)

  pub output_is : (listed : List (ℕ × ℕ)) → AreListed (holes_in items) (length (holes_in items)) listed → side_map (pair_in listed) r.left ≡ (inverse_rule r).right
  output_is listed h = side_map_same (pair_in listed) (pair_for (holes_of r.right)) r.left leaves (all (variables_of r.left) nondeleting)
    where
      one : (x : Variable) → Has (variables_in r.right) x.number → pair_in listed x ≡ pair_for (holes_of r.right) x
      one x m =
          let xs : List (Pair ℕ) = holes_of r.right in
          let place : ℕ = place_of (holes_of r.right) x.number in
          let low : place < length (holes_of r.right) = place_below (holes_of r.right) x.number m in
          let fits : place < length (holes_in items) = omega (arith, low, ap length holes_are) in
          let number : (get_or (holes_in items) place no_pair).variable ≡ x.number =
          ap (λ (ys : List (Pair ℕ)). (get_or ys place no_pair).variable) (sym holes_are) ∙ sym (at_map (λ (y : Pair ℕ). y.variable) (holes_of r.right) place no_pair) ∙ at_place (holes_of r.right) x.number m
          in
          let at : get_or listed x.number (0, 0) ≡ ((get_or (holes_in items) place no_pair).state, place) = ap (λ n. get_or listed n (0, 0)) (sym number) ∙ h place fits in
          ap (λ (p : ℕ × ℕ). record { state = p.0; variable = p.1 }) at
          ∙ ap (λ (ys : List (Pair ℕ)). record { state = (get_or ys place no_pair).state; variable = place }) (sym holes_are)

      all : (xs : List Variable) → Each (λ x. Has (variables_in r.right) x.number) xs → Each (λ x. pair_in listed x ≡ pair_for (holes_of r.right) x) xs
      all [] k = tt
      all (x ∷ xs) k = (one x k.0, all xs k.1)
