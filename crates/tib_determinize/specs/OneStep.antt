-- A label over some vectors has at most one step, and what a hunt asks of determinization.
use Rattle.std.specs.Prelude.{◌≡◌, ℕ, ◌+◌, ◌<◌, ◌≤◌, List, [], ◌∷◌, ◌++◌, length, take, Option, Some, refl}
use Rattle.std.proofs.Common.{arith, ap, sym, ◌∙◌, subst, inl, inr}
use Rattle.std.specs.Cmp.{IsTotalOrder}
use Rattle.std.proofs.lemmas.Cmp.{then_total, on_total, lists_total, nat_cmp_total}
use Rattle.tib_lex.specs.Lists.{Has, Each}
use Rattle.tib_grammar.specs.Sides.{over}
use Rattle.tib_grammar.specs.declared.Rule.{Rule}
use Rattle.tib_grammar.proofs.Members.{each_of}
use Rattle.tib_cost.specs.Semiring.{IsResidual}
use Rattle.tib_cost.proofs.Least.{IsLeast-unique}
use Rattle.tib_expand.proofs.Reaching.{Laws}
use Rattle.tib_determinize.specs.Vectors.{VectorOf, Rises, IsStepCost, IsSomeCost, IsStep, vectors_at}
use Rattle.tib_determinize.specs.Determinization.{vector_cmp, IsVectorSeed, IsVectorEdge, IsVector, determinization, KeepsItsLaws, LeftsBelow}
use Rattle.tib_determinize.specs.ListLemmas.{each_map}
use Rattle.tib_determinize.specs.VectorLemmas.{stands, vectors_stay, vectors_front}

-- vectors have a total order
pub vector_total : IsTotalOrder vector_cmp
vector_total = lists_total (then_total (on_total (λ (p : ℕ × ℕ). p.0) nat_cmp_total) (on_total (λ (p : ℕ × ℕ). p.1) nat_cmp_total))

-- vectors that rise are determined by their members

some_same : (a b : ℕ) → ◌≡◌ {A = Option ℕ} (Some a) (Some b) → a ≡ b
some_same a b e = cc

module _ (product : ℕ → ℕ → ℕ) (rules : List (Rule ℕ)) (f : ℕ) (vs : List VectorOf) where
  one_least : (m n : ℕ) (v w : VectorOf) → IsStep product rules f vs m v → IsStep product rules f vs n w → m ≡ n
  one_least m n v w a b = some_same m n (IsLeast-unique a.least b.least)

  -- what is in the one vector is in the other
  stands_too : (m n : ℕ) (v w : VectorOf) → IsStep product rules f vs m v → IsStep product rules f vs n w → (x : ℕ × ℕ) → Has v x → Has w x
  stands_too m n v w a b x h =
      let k = a.residuals x.0 x.1 h in
      elim (stands x.0 w) [
        | inr absent ↦ absurd (cc (IsLeast-unique k.1 (b.others x.0 absent)))
        | inl other ↦
            let l = b.residuals x.0 other.0 other.1 in
            let costs : k.0 ≡ l.0 = some_same k.0 l.0 (IsLeast-unique k.1 l.1) in
            let least : n ≡ m = sym (one_least m n v w a b) in
            let is : IsResidual product k.0 m other.0 = subst (λ z. IsResidual product z m other.0) (sym costs) (subst (λ z. IsResidual product l.0 z other.0) least l.2) in
            let up : x.1 ≤ other.0 = k.2.least other.0 is.gives in
            let down : other.0 ≤ x.1 = is.least x.1 k.2.gives in
            let same : other.0 ≡ x.1 = omega arith in
            subst (λ r. Has {A = ℕ × ℕ} w (x.0, r)) same other.1
      ]

rest_has : (x y : ℕ × ℕ) (xs ys : VectorOf) → Rises (x ∷ xs) → x ≡ y → ((z : ℕ × ℕ) → Has (x ∷ xs) z → Has (y ∷ ys) z) → (z : ℕ × ℕ) → Has xs z → Has ys z
rest_has x y xs ys a e to z h = elim (to z (inr h)) [
  | inl k ↦ let low : x.0 < z.0 = before xs z a.0 h in let same : x.0 ≡ z.0 = ap (λ (p : ℕ × ℕ). p.0) (e ∙ k) in absurd (omega arith)
  | inr k ↦ k
]
  where
    before : (l : VectorOf) (z : ℕ × ℕ) → Each (λ b. x.0 < b.0) l → Has l z → x.0 < z.0
    before [] z e h = absurd h
    before (y ∷ l) z e h = elim h [ inl k ↦ subst (λ (p : ℕ × ℕ). x.0 < p.0) k e.0 | inr k ↦ before l z e.1 k ]

first_same : (x y : ℕ × ℕ) (xs ys : VectorOf) → Rises (x ∷ xs) → Rises (y ∷ ys) → Has (y ∷ ys) x → Has (x ∷ xs) y → x ≡ y
first_same x y xs ys a b h k = elim h [
  | inl e ↦ sym e
  | inr e ↦ elim k [
    | inl d ↦ d
    | inr d ↦ let low : y.0 < x.0 = before y ys x b.0 e in let high : x.0 < y.0 = before x xs y a.0 d in absurd (omega arith)
  ]
]
  where
    before : (w : ℕ × ℕ) (l : VectorOf) (z : ℕ × ℕ) → Each (λ b. w.0 < b.0) l → Has l z → w.0 < z.0
    before w [] z e h = absurd h
    before w (y ∷ l) z e h = elim h [ inl k ↦ subst (λ (p : ℕ × ℕ). w.0 < p.0) k e.0 | inr k ↦ before w l z e.1 k ]

same_vector : (v w : VectorOf) → Rises v → Rises w → ((x : ℕ × ℕ) → Has v x → Has w x) → ((x : ℕ × ℕ) → Has w x → Has v x) → v ≡ w
same_vector [] [] a b to from = refl
same_vector [] (y ∷ w) a b to from = absurd (from y (inl refl))
same_vector (x ∷ v) [] a b to from = absurd (to x (inl refl))
same_vector (x ∷ v) (y ∷ w) a b to from =
    let e : x ≡ y = first_same x y v w a b (to x (inl refl)) (from y (inl refl)) in
    let rest : v ≡ w = same_vector v w a.1 b.1 (rest_has x y v w a e to) (rest_has y x w v b (sym e) from) in
    ap (λ z. z ∷ v) e ∙ ap (λ l. y ∷ l) rest

-- a label over some vectors has at most one step
pub one_step :
    (product : ℕ → ℕ → ℕ) (rules : List (Rule ℕ)) (f : ℕ) (vs : List VectorOf) (m n : ℕ) (v w : VectorOf) → IsStep product rules f vs m v → IsStep product rules f vs n w → (m ≡ n) × (v ≡ w)
one_step product rules f vs m n v w a b = (
  one_least product rules f vs m n v w a b,
  same_vector v w a.rises b.rises (stands_too product rules f vs m n v w a b) (stands_too product rules f vs n m w v b a),
)

-- the laws of the operation

-- rules with the same parts are the same
pub rule_same : (e d : Rule VectorOf) → e.left ≡ d.left → e.right ≡ d.right → e.cost ≡ d.cost → e ≡ d
rule_same e d left right costs =
    ap (λ l. record { left = l; right = e.right; cost = e.cost }) left
    ∙ ap (λ r. record { left = d.left; right = r; cost = e.cost }) right
    ∙ ap (λ c. record { left = d.left; right = d.right; cost = c }) costs

up_to_below : (n : ℕ) (ps : List ℕ) → Each (λ p. p ≤ n) ps → Each (λ p. p < n + 1) ps
up_to_below n ps h = each_map (λ p. p ≤ n) (λ p. p < n + 1) (λ p e. omega arith) ps h

module _ (product : ℕ → ℕ → ℕ) (rules : List (Rule ℕ)) where
  one_seed_edge : (o : ℕ × List ℕ) (e d : Rule VectorOf) → IsVectorSeed product rules o e → IsVectorSeed product rules o d → e ≡ d
  one_seed_edge o e d a b =
      let same = one_step product rules o.0 [] e.cost d.cost e.left d.left a.step b.step in
      rule_same e d same.1 (a.right ∙ sym b.right) same.0

  one_edge : (order : List VectorOf) (n : ℕ) (o : ℕ × List ℕ) (e d : Rule VectorOf) → IsVectorEdge product rules order n o e → IsVectorEdge product rules order n o d → e ≡ d
  one_edge order n o e d a b =
      let same = one_step product rules o.0 (vectors_at order o.1) e.cost d.cost e.left d.left a.step b.step in
      rule_same e d same.1 (a.right ∙ sym b.right) same.0

  moved : (xs ys : List VectorOf) (n : ℕ) (o : ℕ × List ℕ) (e : Rule VectorOf) → vectors_at xs o.1 ≡ vectors_at ys o.1 → IsVectorEdge product rules xs n o e → IsVectorEdge product rules ys n o e
  moved xs ys n o e same is = record {
    up_to = is.up_to;
    stands = is.stands;
    step = subst (λ vs. IsStep product rules o.0 vs e.cost e.left) same is.step;
    right = is.right ∙ ap (λ (vs : List VectorOf). over o.0 vs) same;
  }

  edges_stay : (xs ys : List VectorOf) (n : ℕ) (o : ℕ × List ℕ) (e : Rule VectorOf) → take (n + 1) xs ≡ take (n + 1) ys → IsVectorEdge product rules xs n o e → IsVectorEdge product rules ys n o e
  edges_stay xs ys n o e same is = moved xs ys n o e (vectors_stay xs ys n o.1 same (up_to_below n o.1 is.up_to)) is

  front_of : (xs ys : List VectorOf) (n : ℕ) (ps : List ℕ) → n < length xs → Each (λ p. p ≤ n) ps → vectors_at (xs ++ ys) ps ≡ vectors_at xs ps
  front_of xs ys n ps low h = vectors_front xs ys ps (each_map (λ p. p ≤ n) (λ p. p < length xs) (λ p e. omega arith) ps h)

  -- what the hunt asks of its edges
  pub determinization_laws : Laws (determinization product rules)
  determinization_laws = record {
    total_order = vector_total;
    one_seed_edge = one_seed_edge;
    one_edge = one_edge;
    stay = λ xs ys n o e low is. moved xs (xs ++ ys) n o e (sym (front_of xs ys n o.1 low is.up_to)) is;
    back = λ xs ys n o e low is. moved (xs ++ ys) xs n o e (front_of xs ys n o.1 low is.up_to) is;
  }

  -- a step's vector has a state, and its states are those of rules
  is_vector : (states : ℕ) → LeftsBelow states rules → (f : ℕ) (vs : List VectorOf) (m : ℕ) (v : VectorOf) → IsStep product rules f vs m v → IsVector states v
  is_vector states lefts f vs m v step = record {
    some = λ e. empty e;
    rises = step.rises;
    below = each_of (λ x. x.0 < states) v (λ x h.
        let c : IsStepCost product rules f vs x.0 (step.residuals x.0 x.1 h).0 = (step.residuals x.0 x.1 h).1.attained.0 in
        let low = lefts c.rule c.below in
        let from = c.left in
        omega arith);
  }
    where
      empty : v ≡ [] → ⊥
      empty e =
          let a : IsSomeCost product rules f vs m = step.least.attained.0 in
          (step.others a.0 (λ r h. subst (λ (l : VectorOf). Has {A = ℕ × ℕ} l (a.0, r)) e h)).lower m a.1 step.least.attained.1

  -- determinization keeps what a hunt asks of its operation
  pub keeps_its_laws : (states : ℕ) → LeftsBelow states rules → KeepsItsLaws product states rules
  keeps_its_laws states lefts = record {
    one_seed_edge = one_seed_edge;
    one_edge = one_edge;
    seeds_end = λ o e v is h. elim h [ inl k ↦ (o.0, e.cost, subst (λ w. IsStep product rules o.0 [] e.cost w) k is.step) | inr k ↦ absurd k ];
    seeds_admitted = λ v s. is_vector states lefts s.0 [] s.1 v s.2;
    ends_admitted = λ order n o e v is h. elim h [
      | inl k ↦ is_vector states lefts o.0 (vectors_at order o.1) e.cost v (subst (λ w. IsStep product rules o.0 (vectors_at order o.1) e.cost w) k is.step)
      | inr k ↦ absurd k
    ];
    edges_stay = edges_stay;
  }
