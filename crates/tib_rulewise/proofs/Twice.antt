-- The inverse of the inverse of a rule is the rule.
use Rattle.std.specs.Prelude.{◌≡◌, ℕ, ◌+◌, ◌<◌, List, [], ◌∷◌, ◌++◌, length, map, Option, Some, None, refl}
use Rattle.std.proofs.Common.{suc, arith, ap, sym, ◌∙◌, subst, inl, inr, get_or}
use Rattle.std.proofs.lemmas.List.{length-append, length-map, ext_get_or, get_or_append_left, get_or-append-add}
use Rattle.tib_lex.specs.Lists.{Has}
use Rattle.tib_lex.proofs.Members.{has_left, has_right}
use Rattle.tib_lex.proofs.Places.{get_map, at_map}
use Rattle.tib_tree.specs.Trees.{Trees, none, tree, only, relabel}
use Rattle.tib_tree.proofs.Counts.{tree_same}
use Rattle.tib_grammar.specs.Sides.{Symbol, label, hole, Side, holes, holes_of, HolesAreLeaves, symbol_map, side_map}
use Rattle.tib_grammar.proofs.Sides.{holes-relabel}
use Rattle.tib_transducer.specs.Rules.{transducer_rule, no_rule, states_in, variables_in}
use Rattle.tib_transducer.specs.Range.{AreNumbered, IsShaped, AreShaped, EndsInHoles, EndInHoles}
use Rattle.tib_transducer.specs.TransducerOf.{TransducerOf}
use Rattle.tib_transducer.specs.declared.Variable.{Variable}
use Rattle.tib_transducer.specs.declared.Pair.{Pair}
use Rattle.tib_transducer.specs.declared.TransducerRule.{TransducerRule}
use Rattle.tib_rulewise.specs.Placed.{placed, placed_side, plain_variable}
use Rattle.tib_rulewise.specs.Inverse.{no_pair, place_of, variable_at, pair_for, inverse_rule, inverse_of}
use Rattle.tib_rulewise.specs.Invertible.{IsInvertible, AreInvertible}
use Rattle.tib_rulewise.proofs.Placed.{placed-only}
use Rattle.tib_rulewise.proofs.Places.{place_at}
use Rattle.tib_rulewise.proofs.Inverting.{turned, states_back, inverse_linear}
use Rattle.tib_transducer.proofs.Counting.{numbered_front}

-- variables that are numbered are those by place

numbered_back : (n : ℕ) (xs ys : List Variable) → AreNumbered n (xs ++ ys) → AreNumbered (n + length xs) ys
numbered_back n [] ys h = let e : n ≡ n + 0 = omega arith in subst (λ (m : ℕ). AreNumbered m ys) e h
numbered_back n (x ∷ xs) ys h = let e : suc n + length xs ≡ n + suc (length xs) = omega arith in subst (λ (m : ℕ). AreNumbered m ys) e (numbered_back (suc n) xs ys h.1)

variable_is : (x : Variable) (n : ℕ) → x.number ≡ n → x.label ≡ None → x ≡ plain_variable n
variable_is x n e k = ap (λ (m : ℕ). record { number = m; label = x.label }) e ∙ ap (λ (o : Option ℕ). record { number = n; label = o }) k

placed_back :
    (f : Variable → Pair ℕ) (n : ℕ) (ts : Trees (Symbol ℕ Variable)) → HolesAreLeaves ts → AreNumbered n (holes ts) → ((x : Variable) → Has (holes ts) x → x.label ≡ None) →
    placed variable_at n (relabel (symbol_map f) ts) ≡ ts
placed_back f n none l a u = refl
placed_back f n (tree (label g) kids rest) l a u =
    let many : length (holes (relabel (symbol_map f) kids)) ≡ length (holes kids) = ap length (holes-relabel f kids) ∙ length-map (holes kids) f in
    ap (λ (ks : Trees (Symbol ℕ Variable)). tree (label g) ks (placed variable_at (n + length (holes (relabel (symbol_map f) kids))) (relabel (symbol_map f) rest)))
    (placed_back f n kids l.0 (numbered_front n (holes kids) (holes rest) a) (λ x h. u x (has_left (holes kids) (holes rest) x h)))
    ∙ ap (λ (m : ℕ). tree (label g) kids (placed variable_at (n + m) (relabel (symbol_map f) rest))) many
    ∙ ap (tree (label g) kids) (placed_back f (n + length (holes kids)) rest l.1 (numbered_back n (holes kids) (holes rest) a) (λ x h. u x (has_right (holes kids) (holes rest) x h)))
placed_back f n (tree (hole x) none rest) l a u =
    ap (λ (y : Variable). tree (hole y) none (placed variable_at (suc n) (relabel (symbol_map f) rest))) (sym (variable_is x n a.0 (u x (inl refl))))
    ∙ ap (tree (hole x) none) (placed_back f (suc n) rest l a.1 (λ y h. u y (inr h)))
placed_back f n (tree (hole x) (tree s kids more) rest) l a u = absurd l

-- and pairs that are those of their places come back
relabel_back :
    (qs : List (Pair ℕ)) (n : ℕ) (ts : Trees (Symbol ℕ (Pair ℕ))) → HolesAreLeaves ts → ((i : ℕ) → i < length (holes ts) → pair_for qs (plain_variable (n + i)) ≡ get_or (holes ts) i no_pair) →
    relabel (symbol_map (pair_for qs)) (placed variable_at n ts) ≡ ts
relabel_back qs n none l h = refl
relabel_back qs n (tree (label g) kids rest) l h =
    let k : ℕ = length (holes kids) in
    let both : length (holes kids ++ holes rest) ≡ length (holes kids) + length (holes rest) = length-append (holes kids) (holes rest) in
    ap (λ (ks : Trees (Symbol ℕ (Pair ℕ))). tree (label g) ks (relabel (symbol_map (pair_for qs)) (placed variable_at (n + length (holes kids)) rest)))
    (relabel_back qs n kids l.0 (λ i b. h i (omega (arith, b, both)) ∙ get_or_append_left (holes kids) (holes rest) no_pair i b))
    ∙ ap (tree (label g) kids)
    (relabel_back qs (n + length (holes kids)) rest l.1 (λ i b.
    let e : n + length (holes kids) + i ≡ n + (length (holes kids) + i) = omega arith in
    ap (λ (m : ℕ). pair_for qs (plain_variable m)) e ∙ h (length (holes kids) + i) (omega (arith, b, both)) ∙ get_or-append-add (holes kids) (holes rest) i no_pair))
relabel_back qs n (tree (hole x) none rest) l h =
    let e : n ≡ n + 0 = omega arith in
    ap (λ (y : Pair ℕ). tree (hole y) none (relabel (symbol_map (pair_for qs)) (placed variable_at (suc n) rest))) (ap (λ (m : ℕ). pair_for qs (plain_variable m)) e ∙ h 0 (omega arith))
    ∙ ap (tree (hole x) none) (relabel_back qs (suc n) rest l (λ i b. let k : suc n + i ≡ n + suc i = omega arith in ap (λ (m : ℕ). pair_for qs (plain_variable m)) k ∙ h (suc i) (omega arith)))
relabel_back qs n (tree (hole x) (tree s kids more) rest) l h = absurd l

no_label_is : (o : Option ℕ) → ((f : ℕ) → o ≡ Some f → ⊥) → o ≡ None
no_label_is None h = refl
no_label_is (Some f) h = absurd (h f refl)

-- one rule
module _ (r : TransducerRule ℕ) (shaped : IsShaped r) (invertible : IsInvertible r) (ends : EndsInHoles r) where
  abbrev twice : TransducerRule ℕ
  twice = inverse_rule (inverse_rule r)

  left_again : twice.left ≡ r.left
  left_again =
      tree_same (placed_side variable_at (inverse_rule r).right) r.left
      (placed-only variable_at (inverse_rule r).right
      ∙ placed_back (pair_for (holes_of r.right)) 0 (only r.left) ends.0 shaped.numbered
      (λ x h. no_label_is x.label (λ f e. invertible.unlabelled refl (record { variable = x; stands = h; root = f; labelled = e }))))

  pair_again : (i : ℕ) → i < length (holes_of r.right) → pair_for (holes_of (inverse_rule r).right) (plain_variable i) ≡ get_or (holes_of r.right) i no_pair
  pair_again i b =
      let linear = invertible.linear refl in
      let nondeleting = invertible.nondeleting refl in
      let qs : List (Pair ℕ) = holes_of (inverse_rule r).right in
      let v : ℕ = get_or (variables_in r.right) i 0 in
      let long : length (variables_in r.right) ≡ length (holes_of r.right) = length-map (holes_of r.right) (λ (x : Pair ℕ). x.variable) in
      let near : i < length (variables_in r.right) = omega (arith, b, long) in
      let t = (turned r shaped linear nondeleting).back i near in
      let fits : v < length qs = omega (arith, t.0, length-map (holes_of (inverse_rule r).right) (λ (x : Pair ℕ). x.variable)) in
      let place : place_of (holes_of (inverse_rule r).right) i ≡ v =
      ap (place_of (holes_of (inverse_rule r).right)) (sym t.1) ∙ place_at (holes_of (inverse_rule r).right) v (inverse_linear r shaped linear nondeleting) fits
      in
      let variable : v ≡ (get_or (holes_of r.right) i no_pair).variable = at_map (λ (x : Pair ℕ). x.variable) (holes_of r.right) i no_pair in
      let state : (get_or (holes_of (inverse_rule r).right) v no_pair).state ≡ (get_or (holes_of r.right) i no_pair).state =
      sym (at_map (λ (x : Pair ℕ). x.state) (holes_of (inverse_rule r).right) v no_pair)
      ∙ sym (get_map (λ (j : ℕ). get_or (states_in (inverse_rule r).right) j 0) (variables_in r.right) i 0 0 near)
      ∙ ap (λ (qs : List ℕ). get_or qs i 0) (states_back r shaped linear nondeleting)
      ∙ at_map (λ (x : Pair ℕ). x.state) (holes_of r.right) i no_pair
      in
      ap (λ (n : ℕ). record { state = (get_or (holes_of (inverse_rule r).right) n no_pair).state; variable = n }) place
      ∙ ap (λ (q : ℕ). record { state = q; variable = v }) state
      ∙ ap (λ (n : ℕ). record { state = (get_or (holes_of r.right) i no_pair).state; variable = n }) variable

  right_again : twice.right ≡ r.right
  right_again =
      tree_same (side_map (pair_for (holes_of (inverse_rule r).right)) (placed_side variable_at r.right)) r.right
      (ap (relabel (symbol_map (pair_for (holes_of (inverse_rule r).right)))) (placed-only variable_at r.right)
      ∙ relabel_back (holes_of (inverse_rule r).right) 0 (only r.right) ends.1
      (λ i b. let e : 0 + i ≡ i = omega arith in ap (λ (m : ℕ). pair_for (holes_of (inverse_rule r).right) (plain_variable m)) e ∙ pair_again i b))

  pub rule_again : inverse_rule (inverse_rule r) ≡ r
  rule_again =
      ap (λ (l : Side ℕ Variable). record { state = r.state; left = l; right = twice.right; cost = r.cost }) left_again
      ∙ ap (λ (s : Side ℕ (Pair ℕ)). record { state = r.state; left = r.left; right = s; cost = r.cost }) right_again

-- all rules
pub rules_again : (rules : List (TransducerRule ℕ)) → AreShaped rules → EndInHoles rules → AreInvertible rules → map inverse_rule (map inverse_rule rules) ≡ rules
rules_again rules shaped leaves invertible =
    let once : length (map inverse_rule rules) ≡ length rules = length-map rules inverse_rule in
    let long : length (map inverse_rule (map inverse_rule rules)) ≡ length rules = length-map (map inverse_rule rules) inverse_rule ∙ once in
    ext_get_or no_rule (map inverse_rule (map inverse_rule rules)) rules long
    (λ n b.
    let low : n < length rules = omega (arith, b, long) in
    get_map inverse_rule (map inverse_rule rules) n no_rule no_rule (omega (arith, low, once))
    ∙ ap inverse_rule (get_map inverse_rule rules n no_rule no_rule low)
    ∙ rule_again (transducer_rule rules n) (shaped n low) (invertible n low) (leaves n low))

-- the inverse of the inverse of a transducer is the transducer
pub transducer_again : (t : TransducerOf) → AreShaped t.rules → EndInHoles t.rules → AreInvertible t.rules → inverse_of (inverse_of t) ≡ t
transducer_again t shaped leaves invertible = ap (λ (rs : List (TransducerRule ℕ)). record { names = t.names; rules = rs }) (rules_again t.rules shaped leaves invertible)
