-- The lists that are tried for a position, each once.
use Rattle.std.specs.Prelude.{◌≡◌, ℕ, ◌+◌, ◌<◌, ◌≤◌, List, [], ◌∷◌, ◌++◌, length, refl}
use Rattle.std.proofs.Common.{zero, suc, arith, ap, sym, ◌∙◌, subst, inl, inr, append-nil}
use Rattle.tib_lex.specs.Lists.{Has, Distinct}
use Rattle.tib_lex.proofs.Members.{has_either, has_left, has_right, each_of}
use Rattle.tib_grammar.specs.Sides.{holes}
use Rattle.tib_grammar.specs.Run.{rule_at}
use Rattle.tib_grammar.specs.declared.Rule.{Rule}
use Rattle.tib_determinize.specs.Vectors.{VectorOf, IsWeight, IsStepCost, vectors_at}
use Rattle.tib_determinize.specs.Tries.{first_at, many_at, span, under, by_last, behind_label, tries}
use Rattle.tib_determinize.specs.Candidates.{IsCandidate, AreCandidates, AreShapes}
use Rattle.tib_determinize.proofs.Walked.{span_has, labelled_has}
use Rattle.tib_determinize.proofs.Tried.{under_is, is_under, span_at, AreAllowed, allowed_long, allowed_up_to, allowed_stands, one_last, some_last}
use Rattle.tib_expand.proofs.Members.{distinct_append}

labelled_to : (f : ℕ) (pss : List (List ℕ)) (ps : List ℕ) → Has pss ps → Has {A = ℕ × List ℕ} (behind_label f pss) (f, ps)
labelled_to f [] ps h = absurd h
labelled_to f (x ∷ pss) ps h = elim h [ inl e ↦ inl (ap (λ (y : List ℕ). (f, y)) e) | inr k ↦ inr (labelled_to f pss ps k) ]

labelled_once : (f : ℕ) (pss : List (List ℕ)) → Distinct pss → Distinct (behind_label f pss)
labelled_once f [] d = tt
labelled_once f (ps ∷ pss) d = (λ h. d.0 (labelled_has f pss (f, ps) h).1, labelled_once f pss d.1)

span_once : {A : Type 0} (g : ℕ → List A) (p c : ℕ) → ((q : ℕ) → p ≤ q → q < p + c → Distinct (g q)) → ((q r : ℕ) (x : A) → q < p + c → r < p + c → Has (g q) x → Has (g r) x → q ≡ r) → Distinct (span g p c)
span_once g p zero own apart = tt
span_once g p (suc c) own apart =
    distinct_append (g p) (span g (suc p) c) (own p (omega arith) (omega arith))
    (span_once g (suc p) c (λ q l h. own q (omega arith) (omega arith)) (λ q r x a b h k. apart q r x (omega arith) (omega arith) h k))
    (λ x h k. let s = span_has g (suc p) c x k in let l = s.1 in let same = apart p s.0 x (omega arith) (let m = s.2 in omega (arith, m)) h s.3 in omega (arith, l, same))

-- two lists that end in the same positions, before which there are others
ends_same : (front other ps : List ℕ) (p q : ℕ) → front ++ p ∷ ps ≡ other ++ q ∷ ps → length front ≡ length other → p ≡ q
ends_same [] [] ps p q e l = first p q ps ps e
  where
    first : (x y : ℕ) (xs ys : List ℕ) → ◌≡◌ {A = List ℕ} (x ∷ xs) (y ∷ ys) → x ≡ y
    first x y xs ys e = cc
ends_same [] (y ∷ ys) ps p q e l = absurd (omega (arith, l))
ends_same (x ∷ xs) [] ps p q e l = absurd (omega (arith, l))
ends_same (x ∷ xs) (y ∷ ys) ps p q e l = ends_same xs ys ps p q (rest x y (xs ++ p ∷ ps) (ys ++ q ∷ ps) e) (omega (arith, l))
  where
    rest : (x y : ℕ) (xs ys : List ℕ) → ◌≡◌ {A = List ℕ} (x ∷ xs) (y ∷ ys) → xs ≡ ys
    rest x y xs ys e = cc

under_once : (n j i : ℕ) (ps : List ℕ) → Distinct (under n j i ps)
under_once n j zero ps = (λ h. h, tt)
under_once n j (suc i) ps =
    span_once (λ p. under n j i (p ∷ ps)) (first_at n j i) (many_at n j i) (λ q l h. under_once n j i (q ∷ ps))
    (λ q r x a b h k.
    let one = under_is n j i (q ∷ ps) x h in
    let two = under_is n j i (r ∷ ps) x k in
    ends_same one.0 two.0 ps q r (sym one.1 ∙ two.1) (allowed_long n j i one.0 one.2 ∙ sym (allowed_long n j i two.0 two.2)))

-- a list of some last place
whole_is : (n j k : ℕ) (xs : List ℕ) → Has (under n j k []) xs → AreAllowed n j k xs
whole_is n j k xs h = let u = under_is n j k [] xs h in subst (AreAllowed n j k) (sym (u.1 ∙ append-nil u.0)) u.2

by_last_once : (n k : ℕ) → Distinct (by_last n k 0 k)
by_last_once n k =
    span_once (λ i. under n i k []) 0 k (λ q l h. under_once n q k [])
    (λ q r x a b h m. one_last n q k x x r (omega (arith, a)) (omega (arith, b)) refl (whole_is n q k x h) (whole_is n r k x m))

by_last_is : (n k : ℕ) (xs : List ℕ) → Has (by_last n k 0 k) xs → (j : ℕ) × (j < k) × AreAllowed n j k xs
by_last_is n k xs h = let s = span_has (λ i. under n i k []) 0 k xs h in (s.0, (let l = s.2 in omega (arith, l)), whole_is n s.0 k xs s.3)

is_by_last : (n k j : ℕ) (xs : List ℕ) → j < k → AreAllowed n j k xs → Has (by_last n k 0 k) xs
is_by_last n k j xs low a = span_at (λ i. under n i k []) 0 k j xs (omega arith) (omega (arith, low)) (subst (Has (under n j k [])) (append-nil xs) (is_under n j k [] xs a))

tries_is : (n : ℕ) (shapes : List (ℕ × ℕ)) (o : ℕ × List ℕ) → Has (tries n shapes) o → (k : ℕ) × Has {A = ℕ × ℕ} shapes (o.0, k) × Has (by_last n k 0 k) o.1
tries_is n [] o h = absurd h
tries_is n (s ∷ shapes) o h = elim (has_either (behind_label s.0 (by_last n s.1 0 s.1)) (tries n shapes) o h) [
  | inl m ↦ let b = labelled_has s.0 (by_last n s.1 0 s.1) o m in (s.1, inl (ap (λ f. (f, s.1)) (sym b.0)), b.1)
  | inr m ↦ let r = tries_is n shapes o m in (r.0, inr r.1, r.2)
]

is_tried : (n : ℕ) (shapes : List (ℕ × ℕ)) (f k : ℕ) (ps : List ℕ) → Has {A = ℕ × ℕ} shapes (f, k) → Has (by_last n k 0 k) ps → Has {A = ℕ × List ℕ} (tries n shapes) (f, ps)
is_tried n [] f k ps h m = absurd h
is_tried n (s ∷ shapes) f k ps h m = elim h [
  | inl e ↦
      has_left (behind_label s.0 (by_last n s.1 0 s.1)) (tries n shapes) (f, ps)
      (subst (λ (x : ℕ × ℕ). Has {A = ℕ × List ℕ} (behind_label x.0 (by_last n x.1 0 x.1)) (f, ps)) (sym e) (labelled_to f (by_last n k 0 k) ps m))
  | inr r ↦ has_right (behind_label s.0 (by_last n s.1 0 s.1)) (tries n shapes) (f, ps) (is_tried n shapes f k ps r m)
]

by_last_long : (n k : ℕ) (xs : List ℕ) → Has (by_last n k 0 k) xs → length xs ≡ k
by_last_long n k xs h = let b = by_last_is n k xs h in allowed_long n b.0 k xs b.2

tries_once : (n : ℕ) (shapes : List (ℕ × ℕ)) → Distinct shapes → Distinct (tries n shapes)
tries_once n [] d = tt
tries_once n (s ∷ shapes) d =
    distinct_append (behind_label s.0 (by_last n s.1 0 s.1)) (tries n shapes) (labelled_once s.0 (by_last n s.1 0 s.1) (by_last_once n s.1)) (tries_once n shapes d.1)
    (λ o h m.
    let b = labelled_has s.0 (by_last n s.1 0 s.1) o h in
    let t = tries_is n shapes o m in
    let same : t.0 ≡ s.1 = sym (by_last_long n t.0 o.1 t.2) ∙ by_last_long n s.1 o.1 b.1 in
    d.0 (subst (Has shapes) (ap (λ f. (f, t.0)) b.0 ∙ ap (λ k. (s.0, k)) same) t.1))

-- the lists that are tried are candidates, and all that are needed
pub tries_are_candidates : (product : ℕ → ℕ → ℕ) (rules : List (Rule ℕ)) (order : List VectorOf) (n : ℕ) (shapes : List (ℕ × ℕ)) → AreShapes rules shapes → AreCandidates product rules order n (tries n shapes)
tries_are_candidates product rules order n shapes are = record {
  once = tries_once n shapes are.once;
  each = each_of (IsCandidate n) (tries n shapes) (λ o h.
      let t = tries_is n shapes o h in
      let b = by_last_is n t.0 o.1 t.2 in
      record { up_to = allowed_up_to n b.0 t.0 o.1 b.2; stands = allowed_stands n b.0 t.0 o.1 b.1 b.2 });
  whole = λ o c u is low.
      let s : IsStepCost product rules o.0 (vectors_at order o.1) is.0 u = is.1 in
      let k : ℕ = length (holes (rule_at rules s.rule).right.kids) in
      let long : length o.1 ≡ k = sym (mapped o.1) ∙ sym (weight_long (holes (rule_at rules s.rule).right.kids) (vectors_at order o.1) s.weight s.is_weight) in
      let l = some_last n k o.1 long c.up_to c.stands in
      is_tried n shapes o.0 k o.1 (are.whole s.rule o.0 s.below s.root) (is_by_last n k l.0 o.1 l.1 l.2);
}
  where
    mapped : (xs : List ℕ) → length (vectors_at order xs) ≡ length xs
    mapped [] = refl
    mapped (x ∷ xs) = ap suc (mapped xs)

    weight_long : (qs : List ℕ) (ws : List VectorOf) (w : ℕ) → IsWeight product qs ws w → length qs ≡ length ws
    weight_long [] [] w h = refl
    weight_long [] (v ∷ ws) w h = absurd h
    weight_long (q ∷ qs) [] w h = absurd h
    weight_long (q ∷ qs) (v ∷ ws) w h = ap suc (weight_long qs ws h.others h.are)
