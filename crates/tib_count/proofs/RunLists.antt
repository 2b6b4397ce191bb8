-- How many runs there are from some states: the products over the states of a right-hand side, and
-- the sums over the rules of a state.
use Rattle.std.specs.Prelude.{◌≡◌, ◌⊎◌, ℕ, ◌<◌, ◌+◌, ◌*◌, List, [], ◌∷◌, ◌++◌, length, map, refl, if◌then◌else◌}
use Rattle.std.proofs.Common.{zero, suc, sym, ◌∙◌, ap, subst, arith, inl, inr, length-append}
use Rattle.tib_lex.specs.Lists.{Has, Distinct}
use Rattle.tib_lex.proofs.Lists.{has_mapped, mapped_has, length_map}
use Rattle.tib_lex.proofs.Members.{has_left, has_right, has_either}
use Rattle.tib_lex.proofs.Numbers.{nat_eq_cases, below_suc_cases}
use Rattle.tib_tree.specs.Trees.{Trees, none, tree, join}
use Rattle.tib_grammar.specs.declared.Rule.{Rule}
use Rattle.tib_grammar.specs.Sides.{holes_of}
use Rattle.tib_grammar.specs.Run.{AreRuns, rule_at}
use Rattle.tib_count.specs.Counts.{AreMembers, HasMembers}
use Rattle.tib_count.specs.Counted.{IsRunFrom}
use Rattle.tib_count.specs.Products.{product_over, rule_number, sum_over}
use Rattle.tib_count.proofs.ListsOnce.{distinct_append, distinct_mapped, has_members_same, has_members_none, has_members_one, has_members_either, has_members_mapped, IsFrom}

-- Each of some trees with each of others after it

abbrev pub joined : List (Trees ℕ) → List (Trees ℕ) → List (Trees ℕ)
joined [] ys = []
joined (x ∷ xs) ys = map (join x) ys ++ joined xs ys

pub length_joined : (xs ys : List (Trees ℕ)) → length (joined xs ys) ≡ length xs * length ys
length_joined [] ys = omega arith
length_joined (x ∷ xs) ys =
    length-append (map (join x) ys) (joined xs ys)
    ∙ ap (λ n. n + length (joined xs ys)) (length_map (join x) ys)
    ∙ ap (λ n. length ys + n) (length_joined xs ys)
    ∙ grind arith

pub has_joined : (xs ys : List (Trees ℕ)) (x y : Trees ℕ) → Has xs x → Has ys y →
    Has (joined xs ys) (join x y)
has_joined [] ys x y h k = absurd h
has_joined (z ∷ xs) ys x y h k = elim h [
  | inl e ↦
      has_left (map (join z) ys) (joined xs ys) (join x y)
      (subst (λ w. Has (map (join z) ys) (join w y)) e (mapped_has (join z) ys y k))
  | inr l ↦ has_right (map (join z) ys) (joined xs ys) (join x y) (has_joined xs ys x y l k)
]

-- a tree of the one list, and of the other
pub record AreJoined (xs ys : List (Trees ℕ)) (z : Trees ℕ) : Type 0 where
  pub first : Trees ℕ
  pub other : Trees ℕ
  pub has_first : Has xs first
  pub has_other : Has ys other
  pub same : join first other ≡ z

pub joined_has : (xs ys : List (Trees ℕ)) (z : Trees ℕ) → Has (joined xs ys) z → AreJoined xs ys z
joined_has [] ys z h = absurd h
joined_has (x ∷ xs) ys z h = elim (has_either (map (join x) ys) (joined xs ys) z h) [
  | inl k ↦ let from = has_mapped (join x) ys z k in record {
    first = x;
    other = from.0;
    has_first = inl refl;
    has_other = from.1;
    same = from.2;
  }
  | inr k ↦ let from = joined_has xs ys z k in record {
    first = from.first;
    other = from.other;
    has_first = inr from.has_first;
    has_other = from.has_other;
    same = from.same;
  }
]

-- Runs from a state and from others after it

-- a run from a state, and runs from others after it
pub runs_joined : (rules : List (Rule ℕ)) (q : ℕ) (qs : List ℕ) (x y : Trees ℕ) → IsRunFrom rules q x →
    AreRuns rules qs y → AreRuns rules (q ∷ qs) (join x y)
runs_joined rules q qs none y r s = absurd r
runs_joined rules q qs (tree n runs none) y r s = (r.0, r.1, r.2, s)
runs_joined rules q qs (tree n runs (tree m more rest)) y r s = absurd r.3

first_same : (rules : List (Rule ℕ)) (q : ℕ) (x y v w : Trees ℕ) → IsRunFrom rules q x →
    IsRunFrom rules q v → join x y ≡ join v w → (x ≡ v) × (y ≡ w)
first_same rules q none y v w r s e = absurd r
first_same rules q (tree n runs none) y none w r s e = absurd s
first_same rules q (tree n runs none) y (tree k more none) w r s e = (cc, cc)
first_same rules q (tree n runs none) y (tree k more (tree l kids rest)) w r s e = absurd s.3
first_same rules q (tree n runs (tree m more rest)) y v w r s e = absurd r.3

distinct_joined : (rules : List (Rule ℕ)) (q : ℕ) (xs ys : List (Trees ℕ)) →
    ((x : Trees ℕ) → Has xs x → IsRunFrom rules q x) → Distinct xs → Distinct ys → Distinct (joined xs ys)
distinct_joined rules q [] ys are d e = tt
distinct_joined rules q (x ∷ xs) ys are d e =
    distinct_append (map (join x) ys) (joined xs ys)
    (distinct_mapped (join x) ys (λ y w h k same. (first_same rules q x y x w (are x (inl refl)) (are x (inl refl)) same).1) e)
    (distinct_joined rules q xs ys (λ y h. are y (inr h)) d.1 e)
    (λ z h k.
    let of_first = has_mapped (join x) ys z h in
    let of_others = joined_has xs ys z k in
    let same = first_same rules q of_others.first of_others.other x of_first.0 (are of_others.first (inr of_others.has_first)) (are x (inl refl)) (of_others.same ∙ sym of_first.2) in
    d.0 (subst (Has xs) same.0 of_others.has_first))

joined_of : (rules : List (Rule ℕ)) (q : ℕ) (qs : List ℕ) (xs ys : List (Trees ℕ)) (z : Trees ℕ) →
    AreMembers (IsRunFrom rules q) xs → AreMembers (AreRuns rules qs) ys → AreRuns rules (q ∷ qs) z → Has (joined xs ys) z
joined_of rules q qs xs ys none a b r = absurd r
joined_of rules q qs xs ys (tree n runs rest) a b r =
    has_joined xs ys (tree n runs none) rest ((a.are (tree n runs none)).1 (r.0, r.1, r.2, tt)) ((b.are rest).1 r.3)

joined_are : (rules : List (Rule ℕ)) (q : ℕ) (qs : List ℕ) (xs ys : List (Trees ℕ)) (z : Trees ℕ) →
    AreMembers (IsRunFrom rules q) xs → AreMembers (AreRuns rules qs) ys → Has (joined xs ys) z → AreRuns rules (q ∷ qs) z
joined_are rules q qs xs ys z a b h =
    let from = joined_has xs ys z h in
    subst (AreRuns rules (q ∷ qs)) from.same
    (runs_joined rules q qs from.first from.other ((a.are from.first).0 from.has_first) ((b.are from.other).0 from.has_other))

-- all runs from a list of states, from all runs from its first state and from its others
pub runs_of_more : (rules : List (Rule ℕ)) (q : ℕ) (qs : List ℕ) (m n : ℕ) →
    HasMembers (IsRunFrom rules q) m → HasMembers (AreRuns rules qs) n → HasMembers (AreRuns rules (q ∷ qs)) (m * n)
runs_of_more rules q qs m n h k = record {
  members = joined h.members k.members;
  are_members = record {
    once = distinct_joined rules q h.members k.members (λ x a. (h.are_members.are x).0 a) h.are_members.once k.are_members.once;
    are = λ z. (
      joined_are rules q qs h.members k.members z h.are_members k.are_members,
      joined_of rules q qs h.members k.members z h.are_members k.are_members,
    );
  };
  many = length_joined h.members k.members ∙ ap (λ a. a * length k.members) h.many ∙ ap (λ b. m * b) k.many;
}

-- from no states there is one list of runs, that of none
no_states_once : (rules : List (Rule ℕ)) (z : Trees ℕ) → AreRuns rules [] z → none ≡ z
no_states_once rules none r = refl
no_states_once rules (tree n runs rest) r = absurd r

-- all runs from a list of states, from all runs from each
pub runs_of_all : (rules : List (Rule ℕ)) (number : ℕ → ℕ) (qs : List ℕ) →
    ((q : ℕ) → Has qs q → HasMembers (IsRunFrom rules q) (number q)) → HasMembers (AreRuns rules qs) (product_over number qs)
runs_of_all rules number [] each = has_members_one (AreRuns rules []) none tt (no_states_once rules)
runs_of_all rules number (q ∷ qs) each =
    runs_of_more rules q qs (number q) (product_over number qs) (each q (inl refl)) (runs_of_all rules number qs (λ p h. each p (inr h)))

-- Runs whose first rule is given, and runs from a state

-- a run that begins with the rule n
abbrev pub IsRunBy : List (Rule ℕ) → ℕ → Trees ℕ → Type 0
IsRunBy rules n run = IsFrom (λ runs. tree n runs none) (AreRuns rules (holes_of (rule_at rules n).right)) run

-- all runs that begin with a rule, from all runs from the states of its right-hand side
pub runs_by_rule : (rules : List (Rule ℕ)) (n m : ℕ) →
    HasMembers (AreRuns rules (holes_of (rule_at rules n).right)) m → HasMembers (IsRunBy rules n) m
runs_by_rule rules n m h =
    has_members_mapped (λ runs. tree n runs none) (AreRuns rules (holes_of (rule_at rules n).right)) m
    (λ x y a b (e : tree n x none ≡ tree n y none). cc) h

-- a run from q that begins with one of the first k rules
pub record IsRunAmong (rules : List (Rule ℕ)) (q k : ℕ) (run : Trees ℕ) : Type 0 where
  pub rule : ℕ
  pub early : rule < k
  pub left : (rule_at rules rule).left ≡ q
  pub is_run : IsRunBy rules rule run

one_root : (rules : List (Rule ℕ)) (n m : ℕ) (x : Trees ℕ) → IsRunBy rules n x → IsRunBy rules m x → n ≡ m
one_root rules n m x a b =
    let e : tree n a.of none ≡ tree m b.of none = a.same ∙ sym b.same in
    cc

one_more : (rules : List (Rule ℕ)) (q k : ℕ) (x : Trees ℕ) → IsRunAmong rules q k x → IsRunAmong rules q (suc k) x
one_more rules q k x a = record { rule = a.rule; early = omega (arith, a.early); left = a.left; is_run = a.is_run }

-- all runs from a state that begin with one of the first k rules, from all runs by each of them
pub runs_among : (rules : List (Rule ℕ)) (number : ℕ → ℕ) (q k : ℕ) →
    ((n : ℕ) → n < k → (rule_at rules n).left ≡ q → HasMembers (IsRunBy rules n) (number n)) →
    HasMembers (IsRunAmong rules q k) (sum_over rules number q k)
runs_among rules number q zero each =
    has_members_none (IsRunAmong rules q 0) (λ x (a : IsRunAmong rules q 0 x). omega (arith, a.early))
runs_among rules number q (suc k) each =
    let before = runs_among rules number q k (λ n l e. each n (omega (arith, l)) e) in
    let P = sum_over rules number q k in
    elim (nat_eq_cases (rule_at rules k).left q) [
      | inl own ↦
          subst (λ b. HasMembers (IsRunAmong rules q (suc k)) (P + (if b then number k else 0))) (sym own.1)
          (has_members_same (λ x. IsRunAmong rules q k x ⊎ IsRunBy rules k x) (IsRunAmong rules q (suc k)) (P + number k)
          (λ x s. elim s [
            | inl a ↦ one_more rules q k x a
            | inr b ↦ record { rule = k; early = omega arith; left = own.0; is_run = b }
          ])
          (λ x (a : IsRunAmong rules q (suc k) x). elim (below_suc_cases a.rule k a.early) [
            | inl l ↦ inl (record { rule = a.rule; early = l; left = a.left; is_run = a.is_run })
            | inr e ↦ inr (subst (λ n. IsRunBy rules n x) e a.is_run)
          ])
          (has_members_either (IsRunAmong rules q k) (IsRunBy rules k) P (number k)
          (λ x (a : IsRunAmong rules q k x) b. let e = one_root rules a.rule k x a.is_run b in omega (arith, a.early, e))
          before (each k (omega arith) own.0)))
      | inr other ↦
          subst (λ b. HasMembers (IsRunAmong rules q (suc k)) (P + (if b then number k else 0))) (sym other.1)
          (subst (HasMembers (IsRunAmong rules q (suc k))) (omega arith)
          (has_members_same (IsRunAmong rules q k) (IsRunAmong rules q (suc k)) P
          (one_more rules q k)
          (λ x (a : IsRunAmong rules q (suc k) x). elim (below_suc_cases a.rule k a.early) [
            | inl l ↦ record { rule = a.rule; early = l; left = a.left; is_run = a.is_run }
            | inr e ↦ absurd (other.0 (ap (λ n. (rule_at rules n).left) (sym e) ∙ a.left))
          ])
          before))
    ]

run_among : (rules : List (Rule ℕ)) (q : ℕ) (x : Trees ℕ) → IsRunFrom rules q x → IsRunAmong rules q (length rules) x
run_among rules q none r = absurd r
run_among rules q (tree n runs none) r = record {
  rule = n;
  early = r.0;
  left = r.1;
  is_run = record { of = runs; is_member = r.2; same = refl };
}
run_among rules q (tree n runs (tree m more rest)) r = absurd r.3

among_run : (rules : List (Rule ℕ)) (q : ℕ) (x : Trees ℕ) → IsRunAmong rules q (length rules) x → IsRunFrom rules q x
among_run rules q x a =
    subst (IsRunFrom rules q) a.is_run.same (a.early, a.left, a.is_run.is_member, tt)

-- all runs from a state, from all runs by each of its rules
pub runs_of_state : (rules : List (Rule ℕ)) (number : ℕ → ℕ) (q : ℕ) →
    ((n : ℕ) → n < length rules → (rule_at rules n).left ≡ q → HasMembers (IsRunBy rules n) (number n)) →
    HasMembers (IsRunFrom rules q) (sum_over rules number q (length rules))
runs_of_state rules number q each =
    has_members_same (IsRunAmong rules q (length rules)) (IsRunFrom rules q) (sum_over rules number q (length rules)) (among_run rules q)
    (run_among rules q) (runs_among rules number q (length rules) each)

-- all runs from a state, from all runs from each state in the right-hand sides of its rules
pub runs_of_sides : (rules : List (Rule ℕ)) (number : ℕ → ℕ) (q : ℕ) →
    ((n p : ℕ) → n < length rules → (rule_at rules n).left ≡ q → Has (holes_of (rule_at rules n).right) p →
    HasMembers (IsRunFrom rules p) (number p)) → HasMembers (IsRunFrom rules q) (sum_over rules (rule_number rules number) q (length rules))
runs_of_sides rules number q each =
    runs_of_state rules (rule_number rules number) q (λ n l e.
    runs_by_rule rules n (rule_number rules number n) (runs_of_all rules number (holes_of (rule_at rules n).right) (λ p h. each n p l e h)))
