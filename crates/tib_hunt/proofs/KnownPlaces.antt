-- The positions of ends, some of which are in the order and the others have numbers on shelves, one
-- after the other.
use Rattle.std.proofs.Common.{◌≡◌, ℕ, zero, suc, ◌+◌, ◌<◌, ◌≤◌, List, [], ◌∷◌, ◌++◌, length, map, drop, get_or, append_assoc, append-nil, refl, sym, ap, subst, ◌∙◌, arith}
use Rattle.tib_lex.specs.Lists.{Each}
use Rattle.tib_table.specs.declared.number.Number.{Number}
use Rattle.tib_hunt.specs.Known.{position_on, IsOn, positions_at, HavePositionsAt}
use Rattle.tib_hunt.specs.Numbered.{moved_to}
use Rattle.tib_hunt.specs.declared.lookups.EndAt.{EndAt}
use Rattle.tib_hunt.specs.declared.lookups.EndAt.TheVariants.{Position, Numbered}

-- from the index of an element on, it is the first
drop_next : {A : Type 0} (xs : List A) (i : ℕ) (x : A) → i < length xs → x ≡ get_or xs i x → drop i xs ≡ x ∷ drop (suc i) xs
drop_next [] i x l is = absurd (omega arith)
drop_next (y ∷ ys) zero x l is = ap (λ z. z ∷ ys) (sym is)
drop_next (y ∷ ys) (suc i) x l is = drop_next ys i x (omega arith) is

drop_at : {A : Type 0} (xs : List A) (i : ℕ) (x : A) → i < length xs → x ≡ get_or xs i x → drop i xs ≡ x ∷ drop (i + 1) xs
drop_at xs i x l is = drop_next xs i x l is ∙ ap (λ n. x ∷ drop n xs) (let e : suc i ≡ i + 1 = omega arith in e)

-- from the length on there is none
pub drop_end : {A : Type 0} (xs : List A) (i : ℕ) → length xs ≤ i → drop i xs ≡ []
drop_end [] zero l = refl
drop_end [] (suc i) l = refl
drop_end (x ∷ xs) zero l = absurd (omega arith)
drop_end (x ∷ xs) (suc i) l = drop_end xs i (omega arith)

module _ (positions : List (List ℕ)) (first : ℕ) (moved : List ℕ) where
  -- What holds before the end at an index: those before it were placed. `wanted` are the positions
  -- of all.
  pub record KnownSoFar (ats : List EndAt) (numbers : List Number) (placed wanted : List ℕ) : Type 0 where
    pub on : HavePositionsAt positions ats numbers
    pub below : Each (λ n. n < first + length moved) (positions_at positions ats numbers)
    pub whole : placed ++ map (moved_to first moved) (positions_at positions ats numbers) ≡ wanted

  module _ (ats : List EndAt) (i : ℕ) (end : EndAt) (numbers : List Number) (next : ℕ) (placed wanted : List ℕ) (low : i < length ats) (is : end ≡ get_or ats i end)
      (s : KnownSoFar (drop i ats) (drop next numbers) placed wanted) where
    module _ (n : ℕ) (that : end ≡ Position n) where
      here : KnownSoFar (Position n ∷ drop (i + 1) ats) (drop next numbers) placed wanted
      here = subst (λ l. KnownSoFar l (drop next numbers) placed wanted) (drop_at ats i end low is ∙ ap (λ e. e ∷ drop (i + 1) ats) that) s

      -- the position is one of all keys
      pub known_low : n < first + length moved
      known_low = here.below.0

      -- a position of the order was placed
      pub known_placed : (q : ℕ) → q ≡ moved_to first moved n → KnownSoFar (drop (i + 1) ats) (drop next numbers) (placed ++ q ∷ []) wanted
      known_placed q e = record {
        on = here.on;
        below = here.below.1;
        whole = append_assoc placed (q ∷ []) (map (moved_to first moved) (positions_at positions (drop (i + 1) ats) (drop next numbers)))
            ∙ ap (λ m. placed ++ m ∷ map (moved_to first moved) (positions_at positions (drop (i + 1) ats) (drop next numbers))) e ∙ here.whole;
      }

    module _ (that : end ≡ Numbered) where
      there : KnownSoFar (Numbered ∷ drop (i + 1) ats) (drop next numbers) placed wanted
      there = subst (λ l. KnownSoFar l (drop next numbers) placed wanted) (drop_at ats i end low is ∙ ap (λ e. e ∷ drop (i + 1) ats) that) s

      -- there is a number
      pub has_number : next < length numbers
      has_number = go numbers next there.on
        where
          go : (ns : List Number) (m : ℕ) → HavePositionsAt positions (Numbered ∷ drop (i + 1) ats) (drop m ns) → m < length ns
          go [] zero h = absurd h
          go [] (suc m) h = absurd h
          go (x ∷ ns) zero h = omega arith
          go (x ∷ ns) (suc m) h = let r = go ns m h in omega arith

      module _ (number : Number) (at : number ≡ get_or numbers next number) where
        rest : drop next numbers ≡ number ∷ drop (next + 1) numbers
        rest = drop_at numbers next number has_number at

        found : KnownSoFar (Numbered ∷ drop (i + 1) ats) (number ∷ drop (next + 1) numbers) placed wanted
        found = subst (λ l. KnownSoFar (Numbered ∷ drop (i + 1) ats) l placed wanted) rest there

        -- the number has a position
        pub number_on : IsOn positions number
        number_on = found.on.0

        -- which is one of all keys
        pub number_low : position_on positions number < first + length moved
        number_low = found.below.0

        -- the position of a number was placed
        pub number_placed : (q : ℕ) → q ≡ moved_to first moved (position_on positions number) → KnownSoFar (drop (i + 1) ats) (drop (next + 1) numbers) (placed ++ q ∷ []) wanted
        number_placed q e = record {
          on = found.on.1;
          below = found.below.1;
          whole = append_assoc placed (q ∷ []) (map (moved_to first moved) (positions_at positions (drop (i + 1) ats) (drop (next + 1) numbers)))
              ∙ ap (λ m. placed ++ m ∷ map (moved_to first moved) (positions_at positions (drop (i + 1) ats) (drop (next + 1) numbers))) e ∙ found.whole;
        }

  -- all were placed
  pub known_whole : (ats : List EndAt) (i : ℕ) (numbers : List Number) (placed wanted : List ℕ) → length ats ≤ i → KnownSoFar (drop i ats) numbers placed wanted → placed ≡ wanted
  known_whole ats i numbers placed wanted l s =
      let t = subst (λ l. KnownSoFar l numbers placed wanted) (drop_end ats i l) s in
      sym (append-nil placed) ∙ t.whole
