-- A set has one count, and sets whose members correspond have the same count.
use Rattle.std.specs.Prelude.{◌≡◌, ◌⊎◌, ◌↔◌, ℕ, ◌<◌, ◌≤◌, List, [], ◌∷◌, length, map, refl}
use Rattle.std.proofs.Common.{arith, ap, sym, ◌∙◌, subst, inl, inr}
use Rattle.tib_cost.specs.Semiring.{most}
use Rattle.tib_lex.specs.Lists.{Has, Distinct, Along, total}
use Rattle.tib_lex.proofs.Alongs.{total_fewer, along_self, total_one, no_longer}
use Rattle.tib_lex.proofs.Lists.{has_mapped, mapped_has, length_map}
use Rattle.tib_count.specs.Counts.{AreMembers, HasMembers, IsEndless, IsCountOf}
use Rattle.tib_count.specs.declared.count.Count.{Count}
use Rattle.tib_count.specs.declared.count.Count.TheVariants.{Number, Many, Endless}

module _ {A : Type 0} (P : A → Type 0) where
  -- two lists that have the members of a set are equally long
  pub as_many : (xs ys : List A) → AreMembers P xs → AreMembers P ys → length xs ≡ length ys
  as_many xs ys a b =
      let one : length xs ≤ length ys = no_longer xs ys a.once (λ x h. (b.are x).1 ((a.are x).0 h)) in
      let two : length ys ≤ length xs = no_longer ys xs b.once (λ x h. (a.are x).1 ((b.are x).0 h)) in
      omega (arith, one, two)

  pub one_number : (m n : ℕ) → HasMembers P m → HasMembers P n → m ≡ n
  one_number m n a b = omega (arith, a.many, b.many, as_many a.members b.members a.are_members b.are_members)

  -- a set has one count
  pub count_is_one : (c d : Count) → IsCountOf P c → IsCountOf P d → c ≡ d
  count_is_one (Number m) (Number n) a b = ap Number (one_number m n a.0 b.0)
  count_is_one (Number m) Many a b = absurd (omega (arith, a.1, b.2, one_number m b.0 a.0 b.1))
  count_is_one (Number m) Endless a b = absurd (b a.0.members a.0.are_members)
  count_is_one Many (Number n) a b = absurd (omega (arith, a.2, b.1, one_number a.0 n a.1 b.0))
  count_is_one Many Many a b = refl
  count_is_one Many Endless a b = absurd (b a.1.members a.1.are_members)
  count_is_one Endless (Number n) a b = absurd (a b.0.members b.0.are_members)
  count_is_one Endless Many a b = absurd (a b.1.members b.1.are_members)
  count_is_one Endless Endless a b = refl

-- f takes the members of the one set to those of the other, each to one of its own, and each of
-- the other comes from one
pub record Corresponds {A B : Type 0} (P : A → Type 0) (Q : B → Type 0) (f : A → B) : Type 0 where
  pub to : (x : A) → P x → Q (f x)
  pub apart : (x y : A) → P x → P y → f x ≡ f y → x ≡ y
  pub from : (y : B) → Q y → (x : A) × P x × (f x ≡ y)

-- the members that a list comes from
record ComesFrom {A B : Type 0} (P : A → Type 0) (f : A → B) (ys : List B) : Type 0 where
  members : List A
  are : (x : A) → Has members x → P x
  mapped : map f members ≡ ys

module _ {A B : Type 0} (P : A → Type 0) (Q : B → Type 0) (f : A → B) (c : Corresponds P Q f) where
  mapped_once : (xs : List A) → ((x : A) → Has xs x → P x) → Distinct xs → Distinct (map f xs)
  mapped_once [] are once = tt
  mapped_once (x ∷ xs) are once = (
    λ h.
        let m = has_mapped f xs (f x) h in
        once.0 (subst (Has xs) (c.apart m.0 x (are m.0 (inr m.1)) (are x (inl refl)) m.2) m.1),
    mapped_once xs (λ y h. are y (inr h)) once.1,
  )

  -- a list that has the members of the one becomes one that has those of the other
  pub moved : (xs : List A) → AreMembers P xs → AreMembers Q (map f xs)
  moved xs a = record {
    once = mapped_once xs (λ x h. (a.are x).0 h) a.once;
    are = λ y. (
      λ h. let m = has_mapped f xs y h in subst Q m.2 (c.to m.0 ((a.are m.0).0 m.1)),
      λ q. let m = c.from y q in subst (Has (map f xs)) m.2 (mapped_has f xs m.0 ((a.are m.0).1 m.1)),
    );
  }

  moved_number : (n : ℕ) → HasMembers P n → HasMembers Q n
  moved_number n h = record { members = map f h.members; are_members = moved h.members h.are_members; many = length_map f h.members ∙ h.many }

  comes_from : (ys : List B) → ((y : B) → Has ys y → Q y) → ComesFrom P f ys
  comes_from [] are = record { members = []; are = λ x h. absurd h; mapped = refl }
  comes_from (y ∷ ys) are =
      let first = c.from y (are y (inl refl)) in
      let rest = comes_from ys (λ z h. are z (inr h)) in
      record {
        members = first.0 ∷ rest.members;
        are = λ x h. elim h [ inl e ↦ subst P e first.1 | inr k ↦ rest.are x k ];
        mapped = ap (λ z. z ∷ map f rest.members) first.2 ∙ ap (λ zs. y ∷ zs) rest.mapped;
      }

  once_before : (xs : List A) → Distinct (map f xs) → Distinct xs
  once_before [] once = tt
  once_before (x ∷ xs) once = (λ h. once.0 (mapped_has f xs x h), once_before xs once.1)

  -- and the other way round
  pub moved_back : (ys : List B) → AreMembers Q ys → (xs : List A) × AreMembers P xs
  moved_back ys a =
      let o = comes_from ys (λ y h. (a.are y).0 h) in (
        o.members,
        record {
          once = once_before o.members (subst Distinct (sym o.mapped) a.once);
          are = λ x. (
            λ h. o.are x h,
            λ p.
                let m = has_mapped f o.members (f x) (subst (λ zs. Has zs (f x)) (sym o.mapped) ((a.are (f x)).1 (c.to x p))) in
                subst (Has o.members) (c.apart m.0 x (o.are m.0 m.1) p m.2) m.1,
          );
        },
      )

  pub still_endless : IsEndless P → IsEndless Q
  still_endless e ys a = let b = moved_back ys a in e b.0 b.1

  -- so both have one count
  pub count_moves : (d : Count) → IsCountOf P d → IsCountOf Q d
  count_moves (Number n) h = (moved_number n h.0, h.1)
  count_moves Many h = (h.0, moved_number h.0 h.1, h.2)
  count_moves Endless h = still_endless h

-- sets with the same members have the same count
pub count_same : {A : Type 0} (P Q : A → Type 0) → ((x : A) → P x ↔ Q x) → (d : Count) → IsCountOf P d → IsCountOf Q d
count_same {A} P Q same d h =
    count_moves P Q (λ (x : A). x) (record { to = λ x p. (same x).0 p; apart = λ x y p q e. e; from = λ x q. (x, (same x).1 q, refl) }) d h

-- it is impossible that a set has no count
pub count_is_there : {A : Type 0} (P : A → Type 0) → ((c : Count) → IsCountOf P c → ⊥) → ⊥
count_is_there P none = none Endless (λ xs are. listed xs are (length xs) refl)
  where
    few_or_many : (n : ℕ) → (n ≤ most) ⊎ (most < n)
    few_or_many n = grind arith

    listed : (xs : List _) → AreMembers P xs → (n : ℕ) → length xs ≡ n → ⊥
    listed xs are n e =
        let has : HasMembers P n = record { members = xs; are_members = are; many = e } in
        elim (few_or_many n) [ inl h ↦ none (Number n) (has, h) | inr h ↦ none Many (n, has, h) ]
