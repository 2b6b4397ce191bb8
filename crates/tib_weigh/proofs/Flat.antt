-- Slots of which the records lie one after the other.
use Rattle.std.specs.Prelude.{◌≡◌, ◌⊎◌, ℕ, ◌+◌, ◌-◌, ◌%◌, ◌<◌, ◌≤◌, List, [], ◌∷◌, ◌++◌, length, take, drop, slice_range, refl}
use Rattle.std.proofs.Common.{arith, zero, suc, ap, sym, ◌∙◌, inl, inr, get_or}
use Rattle.std.proofs.lemmas.List.{take-append-le, drop-append-le, length-take, length-drop, length-append, get_or_append_left}
use Rattle.std.proofs.lemmas.Nat.{mod_below}
use Rattle.std.proofs.Math.Seq.{drop-append_seam, take-length, get_or-append_seam}
use Rattle.tib_weigh.specs.declared.ready.Ready.{Ready}
use Rattle.tib_weigh.specs.Buckets.{slots_of, slot_at, IsParting}

-- a number that is at most another is that one or less
pub same_or_less : (i m : ℕ) → i ≤ m → (i ≡ m) ⊎ (i < m)
same_or_less i m h = grind arith

-- what is between two places of a front
slice_front : (rs xs : List Ready) (a b : ℕ) → a ≤ length rs → b ≤ length rs → slice_range (rs ++ xs) a b ≡ slice_range rs a b
slice_front rs xs a b low high =
    ap (λ (l : List Ready). take (b - a) l) (drop-append-le a rs xs low) ∙ take-append-le (b - a) _ xs (omega (arith, length-drop a rs, low, high))

-- and what comes after it
slice_back : (rs xs : List Ready) → slice_range (rs ++ xs) (length rs) (length rs + length xs) ≡ xs
slice_back rs xs =
    let rest : length rs + length xs - length rs ≡ length xs = omega arith in
    ap (λ (l : List Ready). take (length rs + length xs - length rs) l) (drop-append_seam rs xs) ∙ ap (λ n. take n xs) rest ∙ take-length xs

-- between a place and a later one there is a record
pub slice_some : (rs : List Ready) (a b : ℕ) → a < b → b ≤ length rs → 0 < length (slice_range rs a b)
slice_some rs a b low high = omega (arith, length-take (b - a) (drop a rs), length-drop a rs, low, high)

-- and where there is one, the second place is later
pub some_slice : (rs : List Ready) (a b : ℕ) → 0 < length (slice_range rs a b) → a < b
some_slice rs a b some = omega (arith, length-take (b - a) (drop a rs), length-drop a rs, some)

-- one more slot
slots_more :
    (starts : List ℕ) (n : ℕ) (rs xs : List Ready) → length starts ≡ n + 1 → get_or starts n 0 ≡ length rs → ((s : ℕ) → s < length starts → get_or starts s 0 ≤ length rs) →
    slots_of (starts ++ (length rs + length xs) ∷ []) (rs ++ xs) ≡ slots_of starts rs ++ xs ∷ []
slots_more [] n rs xs long last within = absurd (omega (arith, long))
slots_more (a ∷ []) zero rs xs long last within =
    ap (λ m. slice_range (rs ++ xs) m (length rs + length xs) ∷ []) last ∙ ap (λ (l : List Ready). l ∷ []) (slice_back rs xs)
slots_more (a ∷ []) (suc n) rs xs long last within = absurd (omega (arith, long))
slots_more (a ∷ b ∷ more) zero rs xs long last within = absurd (omega (arith, long))
slots_more (a ∷ b ∷ more) (suc n) rs xs long last within =
    let rest = slots_more (b ∷ more) n rs xs (omega (arith, long)) last (λ s h. within (suc s) (omega (arith, h))) in
    ap (λ (l : List Ready). l ∷ slots_of (b ∷ more ++ (length rs + length xs) ∷ []) (rs ++ xs)) (slice_front rs xs a b (within 0 (omega arith)) (within 1 (omega arith)))
    ∙ ap (λ (ls : List (List Ready)). slice_range rs a b ∷ ls) rest

-- what a slot has
slots_at : (starts : List ℕ) (rs : List Ready) (s : ℕ) → s + 1 < length starts → get_or (slots_of starts rs) s [] ≡ slice_range rs (get_or starts s 0) (get_or starts (s + 1) 0)
slots_at [] rs s h = absurd (omega (arith, h))
slots_at (a ∷ []) rs s h = absurd (omega (arith, h))
slots_at (a ∷ b ∷ more) rs zero h = refl
slots_at (a ∷ b ∷ more) rs (suc s) h =
    let next : suc (s + 1) ≡ suc s + 1 = omega arith in
    slots_at (b ∷ more) rs s (omega (arith, h)) ∙ ap (λ i. slice_range rs (get_or (b ∷ more) s 0) (get_or (a ∷ b ∷ more) i 0)) next

-- how many slots there are
slots_many : (starts : List ℕ) (rs : List Ready) → 0 < length starts → length (slots_of starts rs) ≡ length starts - 1
slots_many [] rs h = absurd (omega (arith, h))
slots_many (a ∷ []) rs h = refl
slots_many (a ∷ b ∷ more) rs h = let rest = slots_many (b ∷ more) rs (omega arith) in omega (arith, rest)

-- the slot of a state is one of them
pub slot_below : (starts : List ℕ) (state slot : ℕ) → 1 < length starts → slot ≡ state % (length starts - 1) → slot + 1 < length starts
slot_below starts state slot some is = omega (arith, is, mod_below state (length starts - 1) (omega (arith, some)))

-- and what it has
pub slot_there :
    (starts : List ℕ) (rs : List Ready) (state slot : ℕ) → 1 < length starts → slot ≡ state % (length starts - 1) →
    slot_at (slots_of starts rs) state ≡ slice_range rs (get_or starts slot 0) (get_or starts (slot + 1) 0)
slot_there starts rs state slot some is =
    ap (λ n. get_or (slots_of starts rs) (state % n) []) (slots_many starts rs (omega (arith, some)))
    ∙ ap (λ s. get_or (slots_of starts rs) s []) (sym is)
    ∙ slots_at starts rs slot (slot_below starts state slot some is)

-- one more list of records after the others
pub record FlatMore (starts : List ℕ) (rs : List Ready) (made : List (List Ready)) (n : ℕ) : Type 0 where
  pub slots : slots_of starts rs ≡ made
  pub long : length starts ≡ n + 1
  pub last : get_or starts n 0 ≡ length rs
  pub parting : IsParting starts (length rs)

pub flat_more :
    (starts : List ℕ) (rs xs : List Ready) (made : List (List Ready)) (n : ℕ) (starts' : List ℕ) (rs' : List Ready) → FlatMore starts rs made n → rs' ≡ rs ++ xs → starts' ≡ starts ++ length rs' ∷ [] →
    FlatMore starts' rs' (made ++ xs ∷ []) (n + 1)
flat_more starts rs xs made n starts' rs' was more pushed =
    let end : length rs' ≡ length rs + length xs = ap length more ∙ length-append rs xs in
    let is : starts' ≡ starts ++ (length rs + length xs) ∷ [] = pushed ∙ ap (λ m. starts ++ m ∷ []) end in
    let longer : length starts' ≡ n + 1 + 1 = ap length pushed ∙ length-append starts (length rs' ∷ []) ∙ ap (λ m. m + 1) was.long in
    let at_end : get_or starts' (n + 1) 0 ≡ length rs' = ap (λ (l : List ℕ). get_or l (n + 1) 0) pushed ∙ ap (λ m. get_or (starts ++ length rs' ∷ []) m 0) (sym was.long) ∙ get_or-append_seam starts (length rs') [] 0 in
    let before : (s : ℕ) → s < n + 1 → get_or starts' s 0 ≡ get_or starts s 0 = λ s h. ap (λ (l : List ℕ). get_or l s 0) pushed ∙ get_or_append_left starts (length rs' ∷ []) 0 s (omega (arith, h, was.long)) in
    record {
      slots = ap (λ (l : List ℕ). slots_of l rs') is ∙ ap (λ (l : List Ready). slots_of (starts ++ (length rs + length xs) ∷ []) l) more
          ∙ slots_more starts n rs xs was.long was.last was.parting.within ∙ ap (λ (ls : List (List Ready)). ls ++ xs ∷ []) was.slots;
      long = longer;
      last = at_end;
      parting = record {
        ordered = λ s h. ordered s (same_or_less s n (omega (arith, h, longer))) before at_end end;
        within = λ s h. within s (same_or_less s (n + 1) (omega (arith, h, longer))) before at_end end;
      };
    }
  where
    ordered : (s : ℕ) → (s ≡ n) ⊎ (s < n) → ((s : ℕ) → s < n + 1 → get_or starts' s 0 ≡ get_or starts s 0) → get_or starts' (n + 1) 0 ≡ length rs' → length rs' ≡ length rs + length xs → get_or starts' s 0 ≤ get_or starts' (s + 1) 0
    ordered s (inr h) before at_end end = omega (arith, before s (omega (arith, h)), before (s + 1) (omega (arith, h)), was.parting.ordered s (omega (arith, h, was.long)))
    ordered s (inl e) before at_end end = rw e (omega (arith, before n (omega arith), at_end, end, was.last))

    within : (s : ℕ) → (s ≡ n + 1) ⊎ (s < n + 1) → ((s : ℕ) → s < n + 1 → get_or starts' s 0 ≡ get_or starts s 0) → get_or starts' (n + 1) 0 ≡ length rs' → length rs' ≡ length rs + length xs → get_or starts' s 0 ≤ length rs'
    within s (inr h) before at_end end = omega (arith, before s h, end, was.parting.within s (omega (arith, h, was.long)))
    within s (inl e) before at_end end = rw e (omega (arith, at_end))
