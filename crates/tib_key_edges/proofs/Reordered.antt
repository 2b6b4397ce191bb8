-- Lists of rules that differ in their order, and lists of what is given by origins that correspond.
use Rattle.std.specs.Prelude.{◌≡◌, ℕ, ◌<◌, List, [], ◌∷◌, length, refl}
use Rattle.std.proofs.Common.{sym, ◌∙◌, subst, inl, inr}
use Rattle.tib_lex.specs.Lists.{Has, Distinct, Along, IsReordering}
use Rattle.tib_lex.proofs.Members.{has_at, at_has}
use Rattle.tib_lex.proofs.Places.{distinct_at}
use Rattle.tib_lex.proofs.Alongs.{along_of}
use Rattle.tib_grammar.specs.Run.{rule_at, no_rule}
use Rattle.tib_grammar.specs.declared.Rule.{Rule}
use Rattle.tib_expand.specs.EdgeLists.{Lists}

pub turned : (xs ys : List (Rule ℕ)) → IsReordering xs ys → IsReordering ys xs
turned xs ys d = record { to = d.from; from = d.to; once_first = d.once_second; once_second = d.once_first }

-- one rule at a position of the one list and at a position of the other
pub record IsSameRule (xs ys : List (Rule ℕ)) (m n : ℕ) : Type 0 where
  pub first : m < length xs
  pub second : n < length ys
  pub is : rule_at xs m ≡ rule_at ys n

pub turned_rule : (xs ys : List (Rule ℕ)) (m n : ℕ) → IsSameRule ys xs m n → IsSameRule xs ys n m
turned_rule xs ys m n s = record { first = s.second; second = s.first; is = sym s.is }

module _ (xs ys : List (Rule ℕ)) (d : IsReordering xs ys) where
  pub place_in : (m : ℕ) → m < length xs → (n : ℕ) × IsSameRule xs ys m n
  place_in m h =
      let p = at_has ys (rule_at xs m) no_rule (d.to (rule_at xs m) (has_at xs m no_rule h)) in
      (p.0, record { first = h; second = p.1; is = sym p.2 })

  pub one_place : (m n k : ℕ) → IsSameRule xs ys m k → IsSameRule xs ys n k → m ≡ n
  one_place m n k a b = distinct_at xs m n no_rule d.once_first a.first b.first (a.is ∙ sym b.is)

  pub to_one_place : (k m n : ℕ) → IsSameRule xs ys k m → IsSameRule xs ys k n → m ≡ n
  to_one_place k m n a b = distinct_at ys m n no_rule d.once_second a.second b.second (sym a.is ∙ b.is)

-- lists of what is given by the origins of one kind and by those of another

module _ {O A : Type 0} (Gives Tells : O → A → Type 0) (Same : O → O → Type 0)
    (to : (o : O) (x : A) → Gives o x → (p : O) × Same o p × Tells p x) (back : (p : O) (x : A) → Tells p x → (o : O) × Same o p × Gives o x)
    (one : (o p q : O) → Same o q → Same p q → o ≡ p) (to_one : (q o p : O) → Same q o → Same q p → o ≡ p) where
  -- the origins of the other kind, place by place
  record Moved (os : List O) (xs : List A) : Type 0 where
    others : List O
    given : Along Tells others xs
    same : Along Same os others

  moved : (os : List O) (xs : List A) → Along Gives os xs → Moved os xs
  moved [] [] a = record { others = []; given = tt; same = tt }
  moved [] (x ∷ xs) a = absurd a
  moved (o ∷ os) [] a = absurd a
  moved (o ∷ os) (x ∷ xs) a =
      let p = to o x a.0 in
      let rest = moved os xs a.1 in
      record { others = p.0 ∷ rest.others; given = (p.2, rest.given); same = (p.1, rest.same) }

  still_once : (os ps : List O) → Along Same os ps → Distinct os → Distinct ps
  still_once [] [] a d = tt
  still_once [] (p ∷ ps) a d = absurd a
  still_once (o ∷ os) [] a d = absurd a
  still_once (o ∷ os) (p ∷ ps) a d = (λ h. let b = back_to os ps p a.1 h in d.0 (subst (Has os) (one b.0 o p b.1 a.0) b.2), still_once os ps a.1 d.1)
    where
      back_to : (os ps : List O) (p : O) → Along Same os ps → Has ps p → (o : O) × Same o p × Has os o
      back_to [] [] p a h = absurd h
      back_to [] (q ∷ ps) p a h = absurd a
      back_to (o ∷ os) [] p a h = absurd h
      back_to (o ∷ os) (q ∷ ps) p a h = elim h [
        | inl e ↦ (o, subst (Same o) e a.0, inl refl)
        | inr k ↦ let r = back_to os ps p a.1 k in (r.0, r.1, inr r.2)
      ]

  pub lists_by : (xs : List A) → Lists Gives xs → Lists Tells xs
  lists_by xs l =
      let m = moved l.origins xs l.given in
      record {
        origins = m.others;
        once = still_once l.origins m.others m.same l.once;
        given = m.given;
        whole = λ p x g.
            let o = back p x g in
            let q = along_of Same l.origins m.others o.0 m.same (l.whole o.0 x o.2) in
            subst (Has m.others) (to_one o.0 q.0 p q.1 o.1) q.2;
      }
