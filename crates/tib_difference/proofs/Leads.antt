-- The left states that were found are those that lead to the label over the sets.
use Rattle.std.specs.Prelude.{◌≡◌, ℕ, ◌<◌, nat_eq, true, List, [], ◌∷◌, length, refl}
use Rattle.std.proofs.Common.{suc, arith, ap, sym, ◌∙◌, subst, get_or, inl, inr}
use Rattle.std.proofs.lemmas.Bool.Decides.{nat_tests}
use Rattle.tib_lex.specs.Lists.{Has}
use Rattle.tib_lex.proofs.Booleans.{bool_cases, and-true, and-both}
use Rattle.tib_lex.proofs.Numbers.{nat_eq_cases, nat_eq-same}
use Rattle.tib_lex.proofs.Members.{has_left, has_right, has_either}
use Rattle.tib_tree.specs.Trees.{count}
use Rattle.tib_grammar.specs.Forms.{AreNormal}
use Rattle.tib_grammar.specs.Sides.{Symbol, label, holes, is_label}
use Rattle.tib_grammar.specs.Run.{rule_at, no_rule}
use Rattle.tib_grammar.specs.declared.Rule.{Rule}
use Rattle.tib_grammar.proofs.Sides.{length-holes, is_label-true, is_label_cases, is_label-same}
use Rattle.tib_key_edges.specs.Places.{positions_with}
use Rattle.tib_key_edges.proofs.Places.{place_is, is_place}
use Rattle.tib_difference.specs.Subsets.{SubsetOf, AreIn, LeadsTo, IsSubset}
use Rattle.tib_difference.specs.Shapes.{first_state, has_shape}
use Rattle.tib_difference.specs.Lefts.{holds, are_in, lefts_at, lefts_from, first_of, lefts_over, IsSorting}

-- what passes the test is in the set
pub holds_has : (v : SubsetOf) (q : ℕ) → holds v q ≡ true → Has v q
holds_has [] q e = cc
holds_has (p ∷ v) q e = elim (nat_eq_cases p q) [ inl z ↦ inl z.0 | inr z ↦ inr (holds_has v q (rw z.1 at e)) ]

pub has_holds : (v : SubsetOf) (q : ℕ) → Has v q → holds v q ≡ true
has_holds [] q h = absurd h
has_holds (p ∷ v) q h = elim (nat_eq_cases p q) [
  | inl z ↦ rw z.1 refl
  | inr z ↦ rw z.1 (elim h [ inl e ↦ absurd (z.0 e) | inr k ↦ has_holds v q k ])
]

are_there : (qs : List ℕ) (vs : List SubsetOf) → are_in qs vs ≡ true → AreIn qs vs
are_there [] [] e = tt
are_there [] (v ∷ vs) e = cc
are_there (q ∷ qs) [] e = cc
are_there (q ∷ qs) (v ∷ vs) e = let b = and-true (holds v q) (are_in qs vs) e in (holds_has v q b.0, are_there qs vs b.1)

there_are : (qs : List ℕ) (vs : List SubsetOf) → AreIn qs vs → are_in qs vs ≡ true
there_are [] [] h = refl
there_are [] (v ∷ vs) h = absurd h
there_are (q ∷ qs) [] h = absurd h
there_are (q ∷ qs) (v ∷ vs) h = and-both (holds v q) (are_in qs vs) (has_holds v q h.0) (there_are qs vs h.1)

-- as many states as sets
as_many : (qs : List ℕ) (vs : List SubsetOf) → AreIn qs vs → length qs ≡ length vs
as_many [] [] h = refl
as_many [] (v ∷ vs) h = absurd h
as_many (q ∷ qs) [] h = absurd h
as_many (q ∷ qs) (v ∷ vs) h = ap suc (as_many qs vs h.1)

-- the state at the first place is one of the first set
first_has : (qs : List ℕ) (vs : List SubsetOf) → AreIn qs vs → Has (first_of vs) (get_or qs 0 0)
first_has [] [] h = inl refl
first_has [] (v ∷ vs) h = absurd h
first_has (q ∷ qs) [] h = absurd h
first_has (q ∷ qs) (v ∷ vs) h = h.0

module _ (rules : List (Rule ℕ)) (vs : List SubsetOf) where
  -- the left state of one of some rules, whose states are in the sets
  pub record IsLeftAmong (ms : List ℕ) (q : ℕ) : Type 0 where
    pub rule : ℕ
    pub among : Has ms rule
    pub are : are_in (holes (rule_at rules rule).right.kids) vs ≡ true
    pub left : (rule_at rules rule).left ≡ q

  later : (m : ℕ) (ms : List ℕ) (q : ℕ) → IsLeftAmong ms q → IsLeftAmong (m ∷ ms) q
  later m ms q h = record { rule = h.rule; among = inr h.among; are = h.are; left = h.left }

  lefts_among : (ms : List ℕ) (q : ℕ) → Has (lefts_at rules vs ms) q → IsLeftAmong ms q
  lefts_among [] q h = absurd h
  lefts_among (m ∷ ms) q h = elim (bool_cases (are_in (holes (rule_at rules m).right.kids) vs)) [
    | inl t ↦ elim (rw t at h) [ inl e ↦ record { rule = m; among = inl refl; are = t; left = e } | inr k ↦ later m ms q (lefts_among ms q k) ]
    | inr f ↦ later m ms q (lefts_among ms q (rw f at h))
  ]

  among_lefts : (ms : List ℕ) (q m : ℕ) → Has ms m → are_in (holes (rule_at rules m).right.kids) vs ≡ true → (rule_at rules m).left ≡ q → Has (lefts_at rules vs ms) q
  among_lefts [] q m h t e = absurd h
  among_lefts (n ∷ ms) q m h t e = elim h [
    | inl s ↦ let here : are_in (holes (rule_at rules n).right.kids) vs ≡ true = subst (λ (i : ℕ). are_in (holes (rule_at rules i).right.kids) vs ≡ true) (sym s) t in rw here (inl (ap (λ i. (rule_at rules i).left) s ∙ e))
    | inr k ↦ elim (bool_cases (are_in (holes (rule_at rules n).right.kids) vs)) [ inl y ↦ rw y (inr (among_lefts ms q m k t e)) | inr f ↦ rw f (among_lefts ms q m k t e) ]
  ]

  module _ (f : ℕ) where
    from_lefts : (ps : List ℕ) (q : ℕ) → Has (lefts_from rules f vs ps) q → (p : ℕ) × IsLeftAmong (positions_with has_shape (p, f, length vs) rules) q
    from_lefts [] q h = absurd h
    from_lefts (p ∷ ps) q h = elim (has_either (lefts_at rules vs (positions_with has_shape (p, f, length vs) rules)) (lefts_from rules f vs ps) q h) [
      | inl k ↦ (p, lefts_among (positions_with has_shape (p, f, length vs) rules) q k)
      | inr k ↦ from_lefts ps q k
    ]

    to_lefts :
        (ps : List ℕ) (q p m : ℕ) → Has ps p → Has (positions_with has_shape (p, f, length vs) rules) m → are_in (holes (rule_at rules m).right.kids) vs ≡ true → (rule_at rules m).left ≡ q →
        Has (lefts_from rules f vs ps) q
    to_lefts [] q p m h at t e = absurd h
    to_lefts (r ∷ ps) q p m h at t e = elim h [
      | inl s ↦ has_left (lefts_at rules vs (positions_with has_shape (r, f, length vs) rules)) (lefts_from rules f vs ps) q
          (among_lefts (positions_with has_shape (r, f, length vs) rules) q m (subst (λ (i : ℕ). Has (positions_with has_shape (i, f, length vs) rules) m) (sym s) at) t e)
      | inr k ↦ has_right (lefts_at rules vs (positions_with has_shape (r, f, length vs) rules)) (lefts_from rules f vs ps) q (to_lefts ps q p m k at t e)
    ]

    lefts_lead : (q : ℕ) → Has (lefts_over rules f vs) q → LeadsTo rules f vs q
    lefts_lead q h =
        let x = from_lefts (first_of vs) q h in
        let at = place_is (has_shape (x.0, f, length vs)) rules x.1.rule no_rule x.1.among in
        let shape = and-true _ _ (and-true _ _ at.1).0 in
        record {
          rule = x.1.rule;
          below = at.0;
          left = x.1.left;
          root = is_label-true f (rule_at rules x.1.rule).right.label shape.1;
          states = are_there (holes (rule_at rules x.1.rule).right.kids) vs x.1.are;
        }

    lead_lefts : AreNormal rules → (q : ℕ) → LeadsTo rules f vs q → Has (lefts_over rules f vs) q
    lead_lefts normal q h =
        let r : Rule ℕ = rule_at rules h.rule in
        let many : count r.right.kids ≡ length vs = sym (length-holes r.right.kids (normal h.rule h.below).are_holes) ∙ as_many (holes r.right.kids) vs h.states in
        let test : has_shape (first_state r, f, length vs) r ≡ true =
        and-both _ _ (and-both _ _ (nat_eq-same (first_state r) (first_state r) refl) (is_label-same f r.right.label h.root)) (nat_eq-same (count r.right.kids) (length vs) many)
        in
        to_lefts (first_of vs) q (first_state r) h.rule (first_has (holes r.right.kids) vs h.states) (is_place (has_shape (first_state r, f, length vs)) rules h.rule no_rule h.below test)
        (there_are (holes r.right.kids) vs h.states) h.left

    -- these states, ascending, are the set
    pub is_subset : AreNormal rules → (v : SubsetOf) → IsSorting (lefts_over rules f vs) v → IsSubset rules f vs v
    is_subset normal v s = record { ascends = s.ascends; states = λ q. ((λ h. lefts_lead q (s.from q h)), (λ h. s.to q (lead_lefts normal q h))) }

-- the numbers of rules that the index gives are those of rules
pub below_all : (rules : List (Rule ℕ)) (s : ℕ × ℕ × ℕ) (m : ℕ) → Has (positions_with has_shape s rules) m → m < length rules
below_all rules s m h = (place_is (has_shape s) rules m no_rule h).0
