-- Buckets of the positions of rules, by their states.
use Rattle.std.specs.Prelude.{◌≡◌, ℕ, ◌+◌, ◌<◌, nat_eq, List, [], ◌∷◌, ◌++◌, length, map, take, if◌then◌else◌, refl}
use Rattle.std.specs.Global.{Vec}
use Rattle.std.proofs.Common.{zero, suc, ap, sym, ◌∙◌, arith, subst, inl, inr, set, get_or, add-zero, add-one, append-nil}
use Rattle.std.proofs.lemmas.List.{get_or-set_same, get_or-set_other, map-set, length-map}
use Rattle.tib_lex.specs.Lists.{Has, Distinct}
use Rattle.tib_lex.proofs.Numbers.{nat_eq_cases}
use Rattle.tib_transducer.specs.Range.{AreWithin}
use Rattle.tib_transducer.specs.Rules.{transducer_rule}
use Rattle.tib_transducer.specs.declared.TransducerRule.{TransducerRule}
use Rattle.tib_transducer.specs.Moves.{moves_from, moves_of, held}

-- one more empty list
pub held_empty : (bs : List (Vec ℕ)) (v : Vec ℕ) → ((q : ℕ) → held bs q ≡ []) → v.items ≡ [] → (q : ℕ) → held (bs ++ v ∷ []) q ≡ []
held_empty [] v e is zero = is
held_empty [] v e is (suc q) = refl
held_empty (b ∷ bs) v e is zero = e zero
held_empty (b ∷ bs) v e is (suc q) = held_empty bs v (λ p. e (suc p)) is q

-- the position of a rule, where it is one of the state
abbrev pub own : ℕ → ℕ → TransducerRule ℕ → List ℕ
own n q r = if nat_eq r.state q then n ∷ [] else []

-- one more rule
moves_more : (n q : ℕ) (rules : List (TransducerRule ℕ)) (i : ℕ) → i < length rules → moves_from n q (take (suc i) rules) ≡ moves_from n q (take i rules) ++ own (n + i) q (transducer_rule rules i)
moves_more n q [] i h = absurd (omega arith)
moves_more n q (r ∷ rs) zero h = rw (add-zero n) refl
moves_more n q (r ∷ rs) (suc i) h =
    let e : suc n + i ≡ n + suc i = omega arith in
    let more = moves_more (suc n) q rs i (omega arith) in
    elim (nat_eq_cases r.state q) [
      | inl k ↦ rw (k.1, ← e) (ap (λ (xs : List ℕ). n ∷ xs) more)
      | inr k ↦ rw (k.1, ← e) more
    ]

module _ (rules : List (TransducerRule ℕ)) (i : ℕ) (h : i < length rules) where
  pub moves_next : (q : ℕ) → moves_of q (take (i + 1) rules) ≡ moves_of q (take i rules) ++ own i q (transducer_rule rules i)
  moves_next q =
      let e : 0 + i ≡ i = omega arith in
      ap (λ j. moves_of q (take j rules)) (add-one i) ∙ moves_more 0 q rules i h ∙ ap (λ j. moves_of q (take i rules) ++ own j q (transducer_rule rules i)) e

  -- the lists with the position of the rule after those of its state
  pub held_next :
      (r : TransducerRule ℕ) (bs : List (Vec ℕ)) (v : Vec ℕ) → r ≡ transducer_rule rules i → r.state < length bs → v.items ≡ held bs r.state ++ i ∷ [] →
      ((q : ℕ) → held bs q ≡ moves_of q (take i rules)) → (q : ℕ) → held (set bs r.state v) q ≡ moves_of q (take (i + 1) rules)
  held_next r bs v at b is old q = now ∙ sym (subst (λ (x : TransducerRule ℕ). moves_of q (take (i + 1) rules) ≡ moves_of q (take i rules) ++ own i q x) (sym at) (moves_next q))
    where
      same : q ≡ r.state → get_or (map (λ (b : Vec ℕ). b.items) (set bs r.state v)) q [] ≡ v.items
      same e = rw (e, map-set (λ (b : Vec ℕ). b.items) bs r.state v) (get_or-set_same (map (λ (b : Vec ℕ). b.items) bs) r.state v.items [] (omega (arith, b, length-map bs (λ (b : Vec ℕ). b.items))))

      other : (q ≡ r.state → ⊥) → get_or (map (λ (b : Vec ℕ). b.items) (set bs r.state v)) q [] ≡ held bs q
      other n = rw (map-set (λ (b : Vec ℕ). b.items) bs r.state v) (get_or-set_other (map (λ (b : Vec ℕ). b.items) bs) r.state q v.items [] n)

      now : held (set bs r.state v) q ≡ moves_of q (take i rules) ++ own i q r
      now = elim (nat_eq_cases r.state q) [
        | inl k ↦ rw k.1 (same (sym k.0) ∙ is ∙ ap (λ (p : ℕ). held bs p ++ i ∷ []) k.0 ∙ ap (λ (xs : List ℕ). xs ++ i ∷ []) (old q))
        | inr k ↦ rw k.1 (other (λ e. k.0 (sym e)) ∙ old q ∙ sym (append-nil (moves_of q (take i rules))))
      ]

-- the state of a rule in range
pub state_below : (rules : List (TransducerRule ℕ)) (i count : ℕ) (r : TransducerRule ℕ) → AreWithin count rules → i < length rules → r ≡ transducer_rule rules i → r.state < count
state_below rules i count r range h at = subst (λ (x : TransducerRule ℕ). x.state < count) (sym at) (range i h).0

-- a rule at a place after the first, and its position
abbrev IsAt : ℕ → ℕ → List (TransducerRule ℕ) → ℕ → Type 0
IsAt n q rules m = (i : ℕ) × (m ≡ n + i) × (i < length rules) × ((transducer_rule rules i).state ≡ q)

behind : (n q : ℕ) (r : TransducerRule ℕ) (rs : List (TransducerRule ℕ)) (m : ℕ) → IsAt (suc n) q rs m → IsAt n q (r ∷ rs) m
behind n q r rs m x = (suc x.0, omega (arith, x.1), omega (arith, x.2), x.3)

-- each position of the list is that of a rule of the state
moves_are : (n q : ℕ) (rules : List (TransducerRule ℕ)) (m : ℕ) → Has (moves_from n q rules) m → IsAt n q rules m
moves_are n q [] m h = absurd h
moves_are n q (r ∷ rs) m h =
    let more : Has (moves_from (suc n) q rs) m → IsAt n q (r ∷ rs) m = λ k. behind n q r rs m (moves_are (suc n) q rs m k) in
    elim (nat_eq_cases r.state q) [
      | inl k ↦ first k.0 more (subst (λ b. Has (if b then n ∷ moves_from (suc n) q rs else moves_from (suc n) q rs) m) k.1 h)
      | inr k ↦ more (subst (λ b. Has (if b then n ∷ moves_from (suc n) q rs else moves_from (suc n) q rs) m) k.1 h)
    ]
  where
    first : r.state ≡ q → (Has (moves_from (suc n) q rs) m → IsAt n q (r ∷ rs) m) → Has (n ∷ moves_from (suc n) q rs) m → IsAt n q (r ∷ rs) m
    first e more k = elim k [ inl at ↦ (0, omega (arith, at), omega arith, e) | inr z ↦ more z ]

-- and each such position is in it
are_moves : (n q : ℕ) (rules : List (TransducerRule ℕ)) (i : ℕ) → i < length rules → (transducer_rule rules i).state ≡ q → Has (moves_from n q rules) (n + i)
are_moves n q [] i h e = absurd (omega arith)
are_moves n q (r ∷ rs) zero h e = elim (nat_eq_cases r.state q) [ inl k ↦ rw k.1 (inl (omega arith)) | inr k ↦ absurd (k.0 e) ]
are_moves n q (r ∷ rs) (suc i) h e =
    let at : suc n + i ≡ n + suc i = omega arith in
    let more : Has (moves_from (suc n) q rs) (n + suc i) = subst (Has (moves_from (suc n) q rs)) at (are_moves (suc n) q rs i (omega arith) e) in
    elim (nat_eq_cases r.state q) [ inl k ↦ rw k.1 (inr more) | inr k ↦ rw k.1 more ]

-- each once
moves_distinct : (n q : ℕ) (rules : List (TransducerRule ℕ)) → Distinct (moves_from n q rules)
moves_distinct n q [] = tt
moves_distinct n q (r ∷ rs) = elim (nat_eq_cases r.state q) [
  | inl k ↦ rw k.1 (λ h. let x = moves_are (suc n) q rs n h in absurd (omega (arith, x.1)), moves_distinct (suc n) q rs)
  | inr k ↦ rw k.1 (moves_distinct (suc n) q rs)
]

pub moves_once : (q : ℕ) (rules : List (TransducerRule ℕ)) → Distinct (moves_of q rules)
moves_once q rules = moves_distinct 0 q rules

pub move_is : (q : ℕ) (rules : List (TransducerRule ℕ)) (m : ℕ) → Has (moves_of q rules) m → (m < length rules) × ((transducer_rule rules m).state ≡ q)
move_is q rules m h =
    let x = moves_are 0 q rules m h in
    let at : x.0 ≡ m = omega (arith, x.1) in
    subst (λ i. (i < length rules) × ((transducer_rule rules i).state ≡ q)) at (x.2, x.3)

pub is_move : (q : ℕ) (rules : List (TransducerRule ℕ)) (m : ℕ) → m < length rules → (transducer_rule rules m).state ≡ q → Has (moves_of q rules) m
is_move q rules m h e = let at : 0 + m ≡ m = omega arith in subst (Has (moves_of q rules)) at (are_moves 0 q rules m h e)
