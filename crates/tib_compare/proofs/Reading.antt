-- What runs to vectors say: in which grammars a tree has a run.
use Rattle.std.specs.Prelude.{◌≡◌, ◌⊎◌, ℕ, ◌<◌, ◌≤◌, max, List, [], ◌∷◌, length, Bool, true, false, not, nat_eq, if◌then◌else◌, Option, None, Some, refl}
use Rattle.std.proofs.Common.{arith, ap, sym, ◌∙◌, subst, inl, inr, true≢false}
use Rattle.tib_lex.specs.Lists.{Has}
use Rattle.tib_lex.proofs.Booleans.{bool_cases}
use Rattle.tib_lex.proofs.Numbers.{nat_eq_cases}
use Rattle.tib_tree.specs.Trees.{Tree, only}
use Rattle.tib_grammar.specs.Sides.{label, holes}
use Rattle.tib_grammar.specs.Run.{rule_at, IsCost, AreFree}
use Rattle.tib_grammar.specs.Forms.{AreNormal}
use Rattle.tib_grammar.specs.declared.Rule.{Rule}
use Rattle.tib_grammar.proofs.NormalRuns.{label_named}
use Rattle.tib_grammar.proofs.Opening.{open_cost}
use Rattle.tib_cost.specs.Semiring.{boolean_laws, most}
use Rattle.tib_determinize.specs.Lookup.{residual_in}
use Rattle.tib_determinize.specs.Vectors.{VectorOf, IsStep, vector_at, vectors_at}
use Rattle.tib_determinize.specs.VectorGrammar.{IsVectorGrammar}
use Rattle.tib_determinize.proofs.Determining.{above, below, covered, one_state}
use Rattle.tib_compare.specs.Wanted.{is_there, holds, differs}
use Rattle.tib_compare.proofs.Bounds.{at_most, HasRun, run_free}

-- a state that is looked up is in the vector, and the other way round
pub held_has : (q : ℕ) (v : VectorOf) → holds q v ≡ true → (r : ℕ) × Has {A = ℕ × ℕ} v (q, r)
held_has q [] e = absurd (cc)
held_has q (x ∷ v) e = elim (nat_eq_cases x.0 q) [
  | inl k ↦ (x.1, inl (ap (λ (a : ℕ). (a, x.1)) k.0))
  | inr k ↦
      let more : holds q v ≡ true = sym (ap (λ (b : Bool). is_there (if b then Some x.1 else residual_in q v)) k.1) ∙ e in
      let h = held_has q v more in
      (h.0, inr h.1)
]

pub has_held : (q : ℕ) (v : VectorOf) (r : ℕ) → Has {A = ℕ × ℕ} v (q, r) → holds q v ≡ true
has_held q [] r h = absurd h
has_held q (x ∷ v) r h = elim (nat_eq_cases x.0 q) [
  | inl k ↦ ap (λ (b : Bool). is_there (if b then Some x.1 else residual_in q v)) k.1
  | inr k ↦ ap (λ (b : Bool). is_there (if b then Some x.1 else residual_in q v)) k.1 ∙ elim h [
    | inl e ↦ absurd (k.0 (ap (λ (z : ℕ × ℕ). z.0) e))
    | inr m ↦ has_held q v r m
  ]
]

-- the tree has a run to a vector that tells the two starts apart
abbrev pub IsToldApart : List VectorOf → List (Rule ℕ) → ℕ → Tree ℕ → Type 0
IsToldApart order new second t = (k : ℕ) × (d : ℕ) × IsCost max new (k ∷ []) (only t) d × (differs second (vector_at order k) ≡ true)

-- the tree has a run from exactly one of the two starts
abbrev pub HasOneRun : List (Rule ℕ) → ℕ → Tree ℕ → Type 0
HasOneRun rules second t = (HasRun rules 0 t × (HasRun rules second t → ⊥)) ⊎ (HasRun rules second t × (HasRun rules 0 t → ⊥))

module _
    (rules : List (Rule ℕ)) (normal : AreNormal rules) (free : AreFree rules) (order : List VectorOf) (new : List (Rule ℕ))
    (vectors : IsVectorGrammar max rules order new) where
  -- no run to a vector costs more than the greatest cost
  step_low : (n : ℕ) → n < length new → (rule_at new n).cost ≤ most
  step_low n lt =
      let f = label_named (rule_at new n).right.label (vectors.normal n lt).is_label in
      (vectors.sound n f.0 lt f.1).least.attained.1

  vector_low : (t : Tree ℕ) (k d : ℕ) → IsCost max new (k ∷ []) (only t) d → d ≤ most
  vector_low t k d h = at_most new vectors.normal most step_low (only t) (k ∷ []) d h

  -- nor is a residual above it
  residual_low : (t : Tree ℕ) (k d : ℕ) → IsCost max new (k ∷ []) (only t) d → (q r : ℕ) → Has {A = ℕ × ℕ} (vector_at order k) (q, r) → r ≤ most
  residual_low t k d h q r s =
      let o = open_cost boolean_laws new vectors.normal k [] t.label t.kids _ d h in
      let step : IsStep max rules t.label (vectors_at order (holes (rule_at new o.rule).right.kids)) (rule_at new o.rule).cost (vector_at order (rule_at new o.rule).left) =
      vectors.sound o.rule t.label o.below o.root
      in
      let u = step.residuals q r (subst (λ l. Has {A = ℕ × ℕ} (vector_at order l) (q, r)) (sym o.left) s) in
      omega (arith, u.1.attained.1, u.2.gives)

  -- the states of a vector have runs for the trees of its runs
  pub held_run : (t : Tree ℕ) (k d : ℕ) → IsCost max new (k ∷ []) (only t) d → (q : ℕ) → holds q (vector_at order k) ≡ true → HasRun rules q t
  held_run t k d h q e =
      let s = held_has q (vector_at order k) e in
      let a : d ≤ most = vector_low t k d h in
      let b : s.0 ≤ most = residual_low t k d h q s.0 s.1 in
      let x =
      below boolean_laws rules normal order new vectors (only t) (k ∷ []) d h (q ∷ []) (max s.0 0) (record { residual = s.0; stands = s.1; others = 0; are = refl; is = refl }) (omega arith)
      in
      (x.0, x.1)

  -- and no others have
  pub run_held : (t : Tree ℕ) (k d : ℕ) → IsCost max new (k ∷ []) (only t) d → (q : ℕ) → HasRun rules q t → holds q (vector_at order k) ≡ true
  run_held t k d h q r =
      let z : r.0 ≡ 0 = run_free rules normal free q t r.0 r.1 in
      let w = above boolean_laws rules normal order new vectors (only t) (k ∷ []) d h (q ∷ []) r.0 r.1 (omega arith) in
      has_held q (vector_at order k) w.1.residual w.1.stands

  -- a tree with a run has one to a vector
  pub run_to_vector : (t : Tree ℕ) (q : ℕ) → HasRun rules q t → (k : ℕ) × (d : ℕ) × IsCost max new (k ∷ []) (only t) d
  run_to_vector t q r =
      let z : r.0 ≡ 0 = run_free rules normal free q t r.0 r.1 in
      let c = covered boolean_laws rules normal order new vectors (only t) (q ∷ []) r.0 r.1 (omega arith) in
      let s = one_state boolean_laws rules normal order new vectors t c.0 c.2.0 c.2.1 in
      (s.0, c.2.0, s.1)

  pub told_one : (second : ℕ) (t : Tree ℕ) → IsToldApart order new second t → HasOneRun rules second t
  told_one second t (k, d, h, e) = elim (bool_cases (holds 0 (vector_at order k))) [
    | inl a ↦
        let b : not (holds second (vector_at order k)) ≡ true = sym (ap (λ (x : Bool). if x then not (holds second (vector_at order k)) else holds second (vector_at order k)) a) ∙ e in
        inl (held_run t k d h 0 a, λ r. not_both (holds second (vector_at order k)) b (run_held t k d h second r))
    | inr a ↦
        let b : holds second (vector_at order k) ≡ true = sym (ap (λ (x : Bool). if x then not (holds second (vector_at order k)) else holds second (vector_at order k)) a) ∙ e in
        inr (held_run t k d h second b, λ r. true≢false (sym (run_held t k d h 0 r) ∙ a))
  ]
    where
      not_both : (b : Bool) → not b ≡ true → b ≡ true → ⊥
      not_both true e k = absurd (cc)
      not_both false e k = absurd (cc)

  -- of a tree that has a run from one state, either it is told apart or it has one from the other
  pub either : (second : ℕ) (t : Tree ℕ) → HasRun rules 0 t ⊎ HasRun rules second t → IsToldApart order new second t ⊎ (HasRun rules 0 t × HasRun rules second t)
  either second t r =
      let v : (k : ℕ) × (d : ℕ) × IsCost max new (k ∷ []) (only t) d = elim r [ inl a ↦ run_to_vector t 0 a | inr a ↦ run_to_vector t second a ] in
      elim (bool_cases (differs second (vector_at order v.0))) [
        | inl e ↦ inl (v.0, v.1, v.2, e)
        | inr e ↦ elim (bool_cases (holds 0 (vector_at order v.0))) [
          | inl a ↦
              let b : not (holds second (vector_at order v.0)) ≡ false =
              sym (ap (λ (x : Bool). if x then not (holds second (vector_at order v.0)) else holds second (vector_at order v.0)) a) ∙ e
              in
              inr (held_run t v.0 v.1 v.2 0 a, held_run t v.0 v.1 v.2 second (not_false (holds second (vector_at order v.0)) b))
          | inr a ↦
              let b : holds second (vector_at order v.0) ≡ false =
              sym (ap (λ (x : Bool). if x then not (holds second (vector_at order v.0)) else holds second (vector_at order v.0)) a) ∙ e
              in
              elim r [
                | inl x ↦ absurd (true≢false (sym (run_held t v.0 v.1 v.2 0 x) ∙ a))
                | inr x ↦ absurd (true≢false (sym (run_held t v.0 v.1 v.2 second x) ∙ b))
              ]
        ]
      ]
    where
      not_false : (b : Bool) → not b ≡ false → b ≡ true
      not_false true e = refl
      not_false false e = absurd (cc)
