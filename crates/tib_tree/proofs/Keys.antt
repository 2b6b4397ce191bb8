-- Short texts as numbers.
use Rattle.std.proofs.Common.{◌≡◌, ◌<◌, ◌≤◌, ◌+◌, ◌-◌, ◌*◌, ℕ, List, [], ◌∷◌, length, drop, get_or, drop-cons, sub-one, refl, ap, sym, ◌∙◌, subst, arith, zero, suc}
use Rattle.std.specs.Prelude.{Some, slice_get, replicate}
use Rattle.std.specs.List.{All}
use Rattle.std.proofs.lemmas.List.Elements.{All-replicate}
use Rattle.tib_tree.specs.Grows.{Grows}
use Rattle.tib_tree.specs.Recent.{IsKey, IsSeen, AreSeen}
use Rattle.tib_tree.specs.declared.recent.Recent.{Recent}
use Rattle.tib_tree.specs.declared.recent.Seen.{Seen}

-- a key is at least one
key_some : (text : List ℕ) (key : ℕ) → IsKey text key → 0 < key
key_some [] key e = omega arith
key_some (b ∷ bs) key (rest, inner, small, e) = omega (arith, key_some bs rest inner)

-- texts of one key are the same
pub key_tells : (text other : List ℕ) (key : ℕ) → IsKey text key → IsKey other key → text ≡ other
key_tells [] [] key h k = refl
key_tells [] (c ∷ cs) key h (rest, inner, small, e) = absurd (omega (arith, key_some cs rest inner))
key_tells (b ∷ bs) [] key (rest, inner, small, e) k = absurd (omega (arith, key_some bs rest inner))
key_tells (b ∷ bs) (c ∷ cs) key (rest, inner, small, e) (more, deep, low, f) =
    let same : rest ≡ more = omega arith in
    let first : b ≡ c = omega arith in
    ap (λ x. x ∷ bs) first ∙ ap (λ xs. c ∷ xs) (key_tells bs cs more (rw same at inner) deep)

-- keys of texts of at most n bytes are below this
abbrev room : ℕ → ℕ
room zero = 2
room (suc n) = 256 * room n

room_some : (n : ℕ) → 2 ≤ room n
room_some zero = omega arith
room_some (suc n) = omega (arith, room_some n)

key_below : (n : ℕ) (text : List ℕ) (key : ℕ) → length text ≤ n → IsKey text key → key < room n
key_below n [] key h e = omega (arith, room_some n)
key_below zero (b ∷ bs) key h k = absurd (omega arith)
key_below (suc n) (b ∷ bs) key h (rest, inner, small, e) = omega (arith, key_below n bs rest (omega arith) inner)

-- one more byte
pub key_more : (text : List ℕ) (i d : ℕ) (key more byte : ℕ) → 0 < i → i ≤ length text → byte ≡ get_or text (i - 1) d → byte < 256 → IsKey (drop i text) key → more ≡ key * 256 + byte → IsKey (drop (i - 1) text) more
key_more text zero d key more byte h k is small so e = absurd (omega arith)
key_more text (suc i) d key more byte h k is small so e =
    let here : byte ≡ get_or text i d = rw sub-one at is in
    rw (sub-one, drop-cons text i d) (key, so, omega (arith, here), e ∙ ap (λ b. key * 256 + b) here)

pub key_small : (text : List ℕ) (i : ℕ) (key : ℕ) → length (drop i text) ≤ 6 → IsKey (drop i text) key → key < 562949953421312
key_small text i key h k = key_below 6 (drop i text) key h k

-- what was seen stays so as the table grows
pub seen_grows : (old now : List (List ℕ)) (recent : Recent) → Grows old now → AreSeen old recent → AreSeen now recent
seen_grows old now recent g all = λ i d h. λ text k. g.kept _ text (all i d h text k)

-- a text with its number
pub seen_now : (texts : List (List ℕ)) (text : List ℕ) (key label : ℕ) → IsKey text key → slice_get texts label ≡ Some text → IsSeen texts key label
seen_now texts text key label h e = λ other k. e ∙ ap Some (key_tells text other key h k)

-- no text has the key zero
pub nothing_seen : (texts : List (List ℕ)) (seen : List Seen) (n : ℕ) → seen ≡ replicate n (record { key = 0; label = 0 }) → All (λ s. IsSeen texts s.key s.label) seen
nothing_seen texts seen n e =
    subst (λ (l : List Seen). All (λ s. IsSeen texts s.key s.label) l) (sym e) (All-replicate (λ (s : Seen). IsSeen texts s.key s.label) n (record { key = 0; label = 0 }) (λ text k. absurd (omega (arith, key_some text 0 k))))
