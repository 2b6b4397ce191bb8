-- Why a way down from state to state ends: a state whose last candidate asks for more of another
-- one has more trees than that, or as many and a larger smallest one.
use Rattle.std.specs.Prelude.{◌≡◌, ℕ, ◌<◌, ◌≤◌, List, [], ◌∷◌, ◌++◌, length, refl}
use Rattle.std.proofs.Common.{zero, suc, arith, ap, sym, ◌∙◌, subst, inl, inr, append_assoc}
use Rattle.tib_lex.specs.Lists.{Has, Each}
use Rattle.tib_lex.proofs.Members.{at_has, each_of, each_has, has_right}
use Rattle.tib_tree.specs.Trees.{Tree, size, sizes}
use Rattle.tib_grammar.specs.Run.{rule_at}
use Rattle.tib_grammar.specs.declared.Rule.{Rule}
use Rattle.tib_ranked_trees.specs.Best.{Costed, IsFrontAt}
use Rattle.tib_ranked_trees.specs.Levels.{made, states_of, trees_of}
use Rattle.tib_ranked_trees.specs.Pass.{Entries, no_entry, entry_at, picked, zeros, offer, HasTree}
use Rattle.tib_ranked_trees.specs.Pass as pass
use Rattle.tib_ranked_trees.proofs.FrontsGrowing.{size-trees_of}
use Rattle.tib_ranked_trees.proofs.Settling.{apart_at}
use Rattle.tib_ranked_trees.proofs.Telling.{AreApart, has_or, no_fewer, some_new}
use Rattle.tib_lazy_lists.specs.Stacks.{least_size}
use Rattle.tib_lazy_lists.proofs.Kept.{below_or}

pub least_le : (xs : List Costed) (z : Costed) → Has xs z → least_size xs ≤ size z.0
least_le [] z h = absurd h
least_le (x ∷ []) z (inl e) = let s : size x.0 ≡ size z.0 = ap (λ (y : Costed). size y.0) e in omega (arith, s)
least_le (x ∷ []) z (inr h) = absurd h
least_le (x ∷ y ∷ ys) z (inl e) = let s : size x.0 ≡ size z.0 = ap (λ (w : Costed). size w.0) e in omega (arith, s)
least_le (x ∷ y ∷ ys) z (inr h) = let l = least_le (y ∷ ys) z h in omega (arith, l)

least_at : (xs : List Costed) → 0 < length xs → (z : Costed) × Has xs z × (size z.0 ≡ least_size xs)
least_at [] l = absurd (omega arith)
least_at (x ∷ []) l = (x, inl refl, refl)
least_at (x ∷ y ∷ ys) l =
    let r = least_at (y ∷ ys) (omega arith) in
    elim (below_or (size x.0) (least_size (y ∷ ys))) [
      | inl b ↦ (x, inl refl, omega (arith, b))
      | inr b ↦ (r.0, inr r.1, omega (arith, b, r.2))
    ]

-- a list without one member
record Without (ys : List Costed) (y : Costed) : Type 0 where
  rest : List Costed
  long : suc (length rest) ≡ length ys
  still : (x : Costed) → Has ys x → (x ≡ y → ⊥) → Has rest x

without : (ys : List Costed) (y : Costed) → Has ys y → Without ys y
without [] y h = absurd h
without (z ∷ ys) y (inl e) = record { rest = ys; long = refl; still = λ x h n. elim h [ inl d ↦ absurd (n (sym d ∙ e)) | inr k ↦ k ] }
without (z ∷ ys) y (inr h) =
    let w = without ys y h in
    record {
      rest = z ∷ w.rest;
      long = ap suc w.long;
      still = λ x k n. elim k [ inl d ↦ inl d | inr j ↦ inr (w.still x j n) ];
    }

-- the candidate before each that was taken, with its last rank that is not 0 lowered by one, was
-- taken
module _ (taken : List pass.Candidate) (n : ℕ) (closed : (front : List ℕ) (j : ℕ) (back : List ℕ) → Has taken (n, front ++ suc j ∷ zeros back) → Has taken (n, front ++ j ∷ zeros back)) where
  lower_rank : (front : List ℕ) (j : ℕ) (back : List ℕ) → Has taken (n, front ++ j ∷ zeros back) → (i : ℕ) → i ≤ j → Has taken (n, front ++ i ∷ zeros back)
  lower_rank front zero back h i l = let e : 0 ≡ i = omega arith in subst (λ (m : ℕ). Has taken (n, front ++ m ∷ zeros back)) e h
  lower_rank front (suc j) back h i l = elim (below_or j i) [
    | inl b ↦ let e : suc j ≡ i = omega (arith, b, l) in subst (λ (m : ℕ). Has taken (n, front ++ m ∷ zeros back)) e h
    | inr b ↦ lower_rank front j back (closed front j back h) i b
  ]

  flat : (rest front : List ℕ) → Has taken (n, front ++ rest) → Has taken (n, front ++ zeros rest)
  flat [] front h = h
  flat (r ∷ rs) front h =
      let a : Has taken (n, (front ++ r ∷ []) ++ rs) = subst (λ (js : List ℕ). Has taken (n, js)) (sym (append_assoc front (r ∷ []) rs)) h in
      let b : Has taken (n, front ++ r ∷ zeros rs) = subst (λ (js : List ℕ). Has taken (n, js)) (append_assoc front (r ∷ []) (zeros rs)) (flat rs (front ++ r ∷ []) a) in
      lower_rank front r rs b 0 (omega arith)

  -- the same with each lower rank at a place, and 0 after it
  lower_at : (front : List ℕ) (j : ℕ) (rest : List ℕ) → Has taken (n, front ++ j ∷ rest) → (i : ℕ) → i ≤ j → Has taken (n, front ++ i ∷ zeros rest)
  lower_at front j rest h i l =
      let a : Has taken (n, (front ++ j ∷ []) ++ rest) = subst (λ (js : List ℕ). Has taken (n, js)) (sym (append_assoc front (j ∷ []) rest)) h in
      let b : Has taken (n, front ++ j ∷ zeros rest) = subst (λ (js : List ℕ). Has taken (n, js)) (append_assoc front (j ∷ []) (zeros rest)) (flat rest (front ++ j ∷ []) a) in
      lower_rank front j rest b i l

picks : (entries : Entries) (qs front : List ℕ) (q i : ℕ) (ps back : List ℕ) → length front ≡ length qs → picked entries (qs ++ q ∷ ps) (front ++ i ∷ back) ≡ picked entries qs front ++ entry_at entries q i ∷ picked entries ps back
picks entries [] [] q i ps back e = refl
picks entries [] (f ∷ front) q i ps back e = absurd (omega arith)
picks entries (p ∷ qs) [] q i ps back e = absurd (omega arith)
picks entries (p ∷ qs) (f ∷ front) q i ps back e = ap (λ (zs : List Costed). entry_at entries p f ∷ zs) (picks entries qs front q i ps back (omega arith))

module _ (product : ℕ → ℕ → ℕ) (labels : List (List ℕ)) (rules : List (Rule ℕ)) (entries : Entries) (fronts : (q : ℕ) → IsFrontAt product labels rules q (entries q)) (u : ℕ)
    (taken : List pass.Candidate) (n : ℕ) (closed : (front : List ℕ) (j : ℕ) (back : List ℕ) → Has taken (n, front ++ suc j ∷ zeros back) → Has taken (n, front ++ j ∷ zeros back))
    (placed : (js : List ℕ) → Has taken (n, js) → HasTree (entries u) (offer product rules entries n js).0) (front qs : List ℕ) (q j : ℕ) (ps rest : List ℕ) (states : states_of (rule_at rules n) ≡ qs ++ q ∷ ps)
    (long : length front ≡ length qs) (h : Has taken (n, front ++ j ∷ rest)) (end : length (entries q) ≤ suc j) where
  abbrev before : List Costed
  before = picked entries qs front

  abbrev after : List Costed
  after = picked entries ps (zeros rest)

  abbrev whole : Costed → Tree ℕ
  whole x = (made product (rule_at rules n) (before ++ x ∷ after)).0

  listed : Each (λ x. HasTree (entries u) (whole x)) (entries q)
  listed = each_of (λ x. HasTree (entries u) (whole x)) (entries q) (λ x i.
      let a = at_has (entries q) x no_entry i in
      let t = placed (front ++ a.0 ∷ zeros rest) (lower_at taken n closed front j rest h a.0 (omega (arith, a.1, end))) in
      let e : picked entries (states_of (rule_at rules n)) (front ++ a.0 ∷ zeros rest) ≡ before ++ x ∷ after =
      ap (λ (ss : List ℕ). picked entries ss (front ++ a.0 ∷ zeros rest)) states ∙ picks entries qs front q a.0 ps (zeros rest) long ∙ ap (λ (y : Costed). before ++ y ∷ after) a.2
      in
      subst (λ (zs : List Costed). HasTree (entries u) (made product (rule_at rules n) zs).0) e t)

  apart : AreApart whole (entries q)
  apart = apart_at product labels rules 0 entries fronts (rule_at rules n) q before after (entries q) (fronts q).ascends (fronts q).members

  -- no fewer trees
  pub many : length (entries q) ≤ length (entries u)
  many = no_fewer whole (entries q) (entries u) apart listed

  -- where as many, the smallest one is larger
  pub larger : length (entries q) ≡ length (entries u) → 0 < length (entries u) → least_size (entries q) < least_size (entries u)
  larger same some =
      let z = least_at (entries u) some in
      let w = without (entries u) z.0 z.1 in
      elim (some_new whole w.rest (entries q)) [
        | inr all ↦ absurd (let m = no_fewer whole (entries q) w.rest apart all in omega (arith, m, w.long, same))
        | inl s ↦
            let l = each_has (λ x. HasTree (entries u) (whole x)) (entries q) s.0 listed s.1 in
            elim (has_or (z.0 ∷ []) (whole s.0, l.0)) [
              | inr o ↦ absurd (s.2 (l.0, w.still (whole s.0, l.0) l.1 (λ e. o (inl (sym e)))))
              | inl o ↦ elim o [
                | inr bad ↦ absurd bad
                | inl e ↦
                    let big : size s.0.0 ≤ sizes (trees_of (before ++ s.0 ∷ after)) = size-trees_of (before ++ s.0 ∷ after) s.0 (has_right before (s.0 ∷ after) s.0 (inl refl)) in
                    let at : size z.0.0 ≡ size (whole s.0) = ap (λ (y : Costed). size y.0) e in
                    omega (arith, z.2, at, big, least_le (entries q) s.0 s.1)
              ]
            ]
      ]
