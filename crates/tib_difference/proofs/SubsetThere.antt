-- A label over some sets has its set: the left states of the rules that fit, in order.
use Rattle.std.specs.Prelude.{◌≡◌, ◌↔◌, ◌⊎◌, ℕ, ◌<◌, List, [], ◌∷◌, length}
use Rattle.std.proofs.Common.{zero, suc, arith, subst, ◌∙◌, inl, inr}
use Rattle.std.proofs.lemmas.Bool.{cases_lt}
use Rattle.tib_lex.specs.Lists.{Has, Ascends}
use Rattle.tib_lex.proofs.Lists.{each_weaker}
use Rattle.tib_lex.proofs.Members.{each_has, each_of}
use Rattle.tib_lex.proofs.Numbers.{nat_eq_cases}
use Rattle.tib_grammar.specs.Sides.{label, holes}
use Rattle.tib_grammar.specs.Run.{rule_at}
use Rattle.tib_grammar.specs.declared.Rule.{Rule}
use Rattle.tib_grammar.proofs.Sides.{is_label_cases}
use Rattle.tib_difference.specs.Subsets.{SubsetOf, AreIn, LeadsTo, IsSubset}

-- whether a state is in a set
pub has_or_not : (v : SubsetOf) (q : ℕ) → Has v q ⊎ (Has v q → ⊥)
has_or_not [] q = inr (λ h. h)
has_or_not (x ∷ v) q = elim (nat_eq_cases x q) [
  | inl e ↦ inl (inl e.0)
  | inr n ↦ elim (has_or_not v q) [
    | inl h ↦ inl (inr h)
    | inr absent ↦ inr (λ h. elim h [ inl e ↦ n.0 e | inr k ↦ absent k ])
  ]
]

-- whether states are in their sets
are_in_or_not : (qs : List ℕ) (vs : List SubsetOf) → AreIn qs vs ⊎ (AreIn qs vs → ⊥)
are_in_or_not [] [] = inl tt
are_in_or_not [] (v ∷ vs) = inr (λ h. h)
are_in_or_not (q ∷ qs) [] = inr (λ h. h)
are_in_or_not (q ∷ qs) (v ∷ vs) = elim (has_or_not v q) [
  | inl h ↦ elim (are_in_or_not qs vs) [ inl k ↦ inl (h, k) | inr n ↦ inr (λ k. n k.1) ]
  | inr n ↦ inr (λ k. n k.0)
]

-- a set with one more state
record IsWith (q : ℕ) (v w : SubsetOf) : Type 0 where
  ascends : Ascends ◌<◌ w
  states : (x : ℕ) → Has w x ↔ ((q ≡ x) ⊎ Has v x)

with_state : (q : ℕ) (v : SubsetOf) → Ascends ◌<◌ v → (w : SubsetOf) × IsWith q v w
with_state q [] a = (q ∷ [], record { ascends = (tt, tt); states = λ x. (λ h. h, λ h. h) })
with_state q (y ∷ v) a = elim (cases_lt q y) [
  | inl low ↦ (
    q ∷ (y ∷ v),
    record {
      ascends = ((low, each_weaker (λ z. y < z) (λ z. q < z) v (λ z h. omega arith) a.0), a);
      states = λ x. (λ h. h, λ h. h);
    },
  )
  | inr high ↦ elim (nat_eq_cases y q) [
    | inl same ↦ (
      y ∷ v,
      record {
        ascends = a;
        states = λ x. (λ h. inr h, λ h. elim h [ inl e ↦ inl (same.0 ∙ e) | inr k ↦ k ]);
      },
    )
    | inr other ↦
        let below : y < q = (let apart = other.0 in omega arith) in
        let r = with_state q v a.1 in (
          y ∷ r.0,
          record {
            ascends = (
              each_of (λ z. y < z) r.0 (λ z h. elim ((r.1.states z).0 h) [
                | inl e ↦ subst (λ u. y < u) e below
                | inr k ↦ each_has (λ u. y < u) v z a.0 k
              ]),
              r.1.ascends,
            );
            states = λ x. (
              λ h. elim h [
                | inl e ↦ inr (inl e)
                | inr k ↦ elim ((r.1.states x).0 k) [ inl e ↦ inl e | inr m ↦ inr (inr m) ]
              ],
              λ h. elim h [
                | inl e ↦ inr ((r.1.states x).1 (inl e))
                | inr k ↦ elim k [ inl e ↦ inl e | inr m ↦ inr ((r.1.states x).1 (inr m)) ]
              ],
            );
          },
        )
  ]
]

module _ (f : ℕ) (vs : List SubsetOf) where
  -- the rule has the label over states of the sets
  record Fits (r : Rule ℕ) : Type 0 where
    root : r.right.label ≡ label f
    states : AreIn (holes r.right.kids) vs

  fits_or_not : (r : Rule ℕ) → Fits r ⊎ (Fits r → ⊥)
  fits_or_not r = elim (is_label_cases r.right.label f) [
    | inl e ↦ elim (are_in_or_not (holes r.right.kids) vs) [
      | inl h ↦ inl (record { root = e.0; states = h })
      | inr n ↦ inr (λ k. n k.states)
    ]
    | inr n ↦ inr (λ k. n.0 k.root)
  ]

  module _ (r : Rule ℕ) (rules : List (Rule ℕ)) where
    -- by the first rule, or by a later one
    first_or_later : (q : ℕ) → LeadsTo (r ∷ rules) f vs q → (Fits r × (r.left ≡ q)) ⊎ LeadsTo rules f vs q
    first_or_later q l = by l.rule l.below l.left l.root l.states
      where
        by :
            (n : ℕ) → n < length (r ∷ rules) → (rule_at (r ∷ rules) n).left ≡ q → (rule_at (r ∷ rules) n).right.label ≡ label f → AreIn (holes (rule_at (r ∷ rules) n).right.kids) vs →
            (Fits r × (r.left ≡ q)) ⊎ LeadsTo rules f vs q
        by zero h left root states = inl (record { root = root; states = states }, left)
        by (suc n) h left root states = inr (record { rule = n; below = omega arith; left = left; root = root; states = states })

    by_first : (q : ℕ) → Fits r → r.left ≡ q → LeadsTo (r ∷ rules) f vs q
    by_first q fits left = record { rule = 0; below = omega arith; left = left; root = fits.root; states = fits.states }

    by_later : (q : ℕ) → LeadsTo rules f vs q → LeadsTo (r ∷ rules) f vs q
    by_later q l = record { rule = suc l.rule; below = omega (arith, l.below); left = l.left; root = l.root; states = l.states }

  -- the set is there
  pub subset_there : (rules : List (Rule ℕ)) → (v : SubsetOf) × IsSubset rules f vs v
  subset_there [] = ([], record { ascends = tt; states = λ q. (λ h. absurd h, λ l. absurd (omega (arith, l.below))) })
  subset_there (r ∷ rules) =
      let rest = subset_there rules in
      elim (fits_or_not r) [
        | inl fits ↦
            let w = with_state r.left rest.0 rest.1.ascends in (
              w.0,
              record {
                ascends = w.1.ascends;
                states = λ q. (
                  λ h. elim ((w.1.states q).0 h) [
                    | inl e ↦ by_first r rules q fits e
                    | inr k ↦ by_later r rules q ((rest.1.states q).0 k)
                  ],
                  λ l. elim (first_or_later r rules q l) [
                    | inl first ↦ (w.1.states q).1 (inl first.1)
                    | inr later ↦ (w.1.states q).1 (inr ((rest.1.states q).1 later))
                  ],
                );
              },
            )
        | inr never ↦ (
          rest.0,
          record {
            ascends = rest.1.ascends;
            states = λ q. (
              λ h. by_later r rules q ((rest.1.states q).0 h),
              λ l. elim (first_or_later r rules q l) [
                | inl first ↦ absurd (never first.0)
                | inr later ↦ (rest.1.states q).1 later
              ],
            );
          },
        )
      ]
