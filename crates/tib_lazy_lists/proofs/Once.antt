-- Candidates of which none is there twice.
use Rattle.std.specs.Prelude.{◌≡◌, ◌⊎◌, ℕ, ◌+◌, ◌<◌, ◌≤◌, List, [], ◌∷◌, ◌++◌, length, refl}
use Rattle.std.proofs.Common.{zero, suc, arith, ap, sym, ◌∙◌, subst, inl, inr, get_or, length-append}
use Rattle.tib_lex.specs.Lists.{Has, Distinct, Along, total}
use Rattle.tib_lex.proofs.Alongs.{total_fewer, along_self, total_one, no_longer}
use Rattle.tib_lex.proofs.Lists.{head_is, tail_is}
use Rattle.tib_lex.proofs.Members.{has_left, has_right, has_either}
use Rattle.tib_tree.specs.Trees.{Tree}
use Rattle.tib_ranked_trees.specs.Lazy.{IsFrom}
use Rattle.tib_ranked_trees.specs.Pass.{zeros}
use Rattle.tib_ranked_trees.specs.Pass as pass
use Rattle.tib_ranked_trees.specs.ListsOf.{ListsOf}
use Rattle.tib_ranked_trees.specs.Held.{entries_of, raise, grown, AreMore, IsSound}
use Rattle.tib_ranked_trees.specs.declared.lists.Entry.{Entry}
use Rattle.tib_ranked_trees.specs.declared.lists.Candidate.{Candidate}
use Rattle.tib_ranked_trees.proofs.Growing.{offer_kept, tuple_kept}

-- lists of distinct members

-- a list before and after a member
record IsSplit {A : Type 0} (ys : List A) (x : A) : Type 0 where
  front : List A
  back : List A
  is : ys ≡ front ++ x ∷ back

split : {A : Type 0} (ys : List A) (x : A) → Has ys x → IsSplit ys x
split [] x h = absurd h
split {A} (y ∷ ys) x (inl e) = record { front = []; back = ys; is = ap (λ (z : A). z ∷ ys) e }
split {A} (y ∷ ys) x (inr h) =
    let s = split ys x h in
    record { front = y ∷ s.front; back = s.back; is = ap (λ (zs : List A). y ∷ zs) s.is }

-- a new member between others
distinct_between : {A : Type 0} (front back : List A) (x : A) → Distinct (front ++ back) → (Has (front ++ back) x → ⊥) → Distinct (front ++ x ∷ back)
distinct_between [] back x d n = (n, d)
distinct_between (f ∷ front) back x d n = (
  λ h. elim (has_either front (x ∷ back) f h) [
    | inl k ↦ d.0 (has_left front back f k)
    | inr k ↦ elim k [ inl e ↦ n (inl (sym e)) | inr b ↦ d.0 (has_right front back f b) ]
  ],
  distinct_between front back x d.1 (λ h. n (inr h)),
)

without : {A : Type 0} (front back : List A) (x z : A) → Has (front ++ x ∷ back) z → (x ≡ z → ⊥) → Has (front ++ back) z
without front back x z h n = elim (has_either front (x ∷ back) z h) [
  | inl k ↦ has_left front back z k
  | inr k ↦ elim k [ inl e ↦ absurd (n e) | inr b ↦ has_right front back z b ]
]

-- A list that has distinct members, and is no longer than these, has each once.
pub still_distinct : {A : Type 0} (xs ys : List A) → Distinct xs → ((x : A) → Has xs x → Has ys x) → length ys ≤ length xs → Distinct ys
still_distinct [] [] d among long = tt
still_distinct [] (y ∷ ys) d among long = absurd (omega (arith, long))
still_distinct {A} (x ∷ xs) ys d among long =
    let s = split ys x (among x (inl refl)) in
    let many : length ys ≡ length s.front + suc (length s.back) = ap (λ (zs : List A). length zs) s.is ∙ length-append s.front (x ∷ s.back) in
    let rest : length (s.front ++ s.back) ≡ length s.front + length s.back = length-append s.front s.back in
    let there : (z : A) → Has ys z → Has (s.front ++ x ∷ s.back) z = λ z h. subst (λ (zs : List A). Has zs z) s.is h in
    let inner : (z : A) → Has xs z → Has (s.front ++ s.back) z =
    λ z h. without s.front s.back x z (there z (among z (inr h))) (λ e. d.0 (subst (λ (w : A). Has xs w) (sym e) h))
    in
    let apart : Distinct (s.front ++ s.back) = still_distinct xs (s.front ++ s.back) d.1 inner (omega (arith, long, many, rest)) in
    let new : Has (s.front ++ s.back) x → ⊥ =
    λ h. let l = no_longer (x ∷ xs) (s.front ++ s.back) d (λ z k. elim k [ inl e ↦ subst (λ (w : A). Has (s.front ++ s.back) w) e h | inr i ↦ inner z i ]) in omega (arith, l, long, many, rest)
    in
    subst (λ (zs : List A). Distinct zs) (sym s.is) (distinct_between s.front s.back x apart new)

-- the second of two lists
pub distinct_right : {A : Type 0} (xs ys : List A) → Distinct (xs ++ ys) → Distinct ys
distinct_right [] ys d = d
distinct_right (x ∷ xs) ys d = distinct_right xs ys d.1

-- no member is in both
pub distinct_across : {A : Type 0} (xs ys : List A) (z : A) → Distinct (xs ++ ys) → Has xs z → Has ys z → ⊥
distinct_across [] ys z d h k = absurd h
distinct_across {A} (x ∷ xs) ys z d (inl e) k = d.0 (subst (λ (w : A). Has (xs ++ ys) w) (sym e) (has_right xs ys z k))
distinct_across (x ∷ xs) ys z d (inr h) k = distinct_across xs ys z d.1 h k

-- one more in the first of two lists
pub distinct_put :
    {A : Type 0} (old now taken : List A) (z : A) → ((w : A) → Has old w → Has now w) → Has now z → length now ≡ length old + 1 → (Has (old ++ taken) z → ⊥) → Distinct (old ++ taken) →
    Distinct (now ++ taken)
distinct_put {A} old now taken z to new long n d =
    still_distinct (z ∷ (old ++ taken)) (now ++ taken) (n, d)
    (λ w h. elim h [
      | inl e ↦ subst (λ (v : A). Has (now ++ taken) v) e (has_left now taken z new)
      | inr k ↦ elim (has_either old taken w k) [
        | inl o ↦ has_left now taken w (to w o)
        | inr t ↦ has_right now taken w t
      ]
    ]) (omega (arith, long, length-append now taken, length-append old taken))

-- one is taken from the first to the second
pub distinct_moved :
    {A : Type 0} (old now taken : List A) (z : A) → ((w : A) → Has old w → (w ≡ z) ⊎ Has now w) → length now + 1 ≡ length old → Distinct (old ++ taken) → Distinct (now ++ z ∷ taken)
distinct_moved old now taken z out long d =
    still_distinct (old ++ taken) (now ++ z ∷ taken) d
    (λ w h. elim (has_either old taken w h) [
      | inl o ↦ elim (out w o) [ inl e ↦ has_right now (z ∷ taken) w (inl (sym e)) | inr k ↦ has_left now (z ∷ taken) w k ]
      | inr t ↦ has_right now (z ∷ taken) w (inr t)
    ]) (omega (arith, long, length-append now (z ∷ taken), length-append old taken))

-- all members of a list of at most one are the same
pub one_alone : {A : Type 0} (ys : List A) (z w : A) → length ys ≤ 1 → Has ys z → Has ys w → z ≡ w
one_alone [] z w l h k = absurd h
one_alone (y ∷ []) z w l (inl e) (inl f) = sym e ∙ f
one_alone (y ∷ []) z w l (inr bad) k = absurd bad
one_alone (y ∷ []) z w l (inl e) (inr bad) = absurd bad
one_alone (y ∷ v ∷ ys) z w l h k = absurd (omega (arith, l))

-- raised ranks

-- ranks raised at different places are different
pub raised_apart : (e i : ℕ) (js : List ℕ) → e < i → i < length js → raise e js ≡ raise i js → ⊥
raised_apart e i [] l h f = absurd (omega (arith, h))
raised_apart zero zero (j ∷ js) l h f = absurd (omega (arith, l))
raised_apart zero (suc i) (j ∷ js) l h f = let n : suc j ≡ j = head_is f in omega (arith, n)
raised_apart (suc e) zero (j ∷ js) l h f = absurd (omega (arith, l))
raised_apart (suc e) (suc i) (j ∷ js) l h f = raised_apart e i js (omega (arith, l)) (omega (arith, h)) (tail_is f)

-- ranks raised at a place after which all are 0, and what they were before
pub record IsRaised (i : ℕ) (js : List ℕ) : Type 0 where
  pub front : List ℕ
  pub rank : ℕ
  pub back : List ℕ
  pub now : raise i js ≡ front ++ suc rank ∷ zeros back
  pub before : front ++ rank ∷ zeros back ≡ js

all_zero : (js : List ℕ) → ((m : ℕ) → m < length js → get_or js m 0 ≡ 0) → zeros js ≡ js
all_zero [] z = refl
all_zero (j ∷ js) z =
    let e : j ≡ 0 = z 0 (omega arith) in
    ap (λ (n : ℕ). n ∷ zeros js) (sym e) ∙ ap (λ (ks : List ℕ). j ∷ ks) (all_zero js (λ m l. z (suc m) (omega (arith, l))))

pub raised_at : (i : ℕ) (js : List ℕ) → i < length js → ((m : ℕ) → i < m → m < length js → get_or js m 0 ≡ 0) → IsRaised i js
raised_at i [] l z = absurd (omega (arith, l))
raised_at zero (j ∷ js) l z =
    let e : zeros js ≡ js = all_zero js (λ m h. z (suc m) (omega arith) (omega (arith, h))) in
    record { front = []; rank = j; back = js; now = ap (λ (ks : List ℕ). suc j ∷ ks) (sym e); before = ap (λ (ks : List ℕ). j ∷ ks) e }
raised_at (suc i) (j ∷ js) l z =
    let r = raised_at i js (omega (arith, l)) (λ m low high. z (suc m) (omega (arith, low)) (omega (arith, high))) in
    record { front = j ∷ r.front; rank = r.rank; back = r.back; now = ap (λ (ks : List ℕ). j ∷ ks) r.now; before = ap (λ (ks : List ℕ). j ∷ ks) r.before }

-- a listed tree stays one of a candidate that was taken, while lists grow
module _ (product : ℕ → ℕ → ℕ) (x : ListsOf) (s : IsSound x) (ts : List (Tree ℕ)) (ls : List (List Entry)) (cs : List Candidate) (rs : List ℕ) (more : AreMore x ts ls cs rs) where
  pub from_kept : (taken : List pass.Candidate) (t : Tree ℕ) → IsFrom product x.rules (entries_of x) taken t → IsFrom product x.rules (entries_of (grown x ts ls cs rs)) taken t
  from_kept taken t f =
      let tuple = tuple_kept x s ts ls cs rs more f.rule f.ranks (record { rule = f.named.below; ranks = f.named.ranks }) in
      record {
        rule = f.rule;
        ranks = f.ranks;
        stands = f.stands;
        named = record { below = tuple.rule; ranks = tuple.ranks };
        same =
            ap (λ (z : Tree ℕ × ℕ). z.0) (offer_kept x s ts ls cs rs more product f.rule f.ranks (record { rule = f.named.below; ranks = f.named.ranks }))
            ∙ f.same;
      }

-- one more was taken
pub from_more : (product : ℕ → ℕ → ℕ) (x : ListsOf) (taken : List pass.Candidate) (c : pass.Candidate) (t : Tree ℕ) → IsFrom product x.rules (entries_of x) taken t → IsFrom product x.rules (entries_of x) (c ∷ taken) t
from_more product x taken c t f = record { rule = f.rule; ranks = f.ranks; stands = inr f.stands; named = f.named; same = f.same }
