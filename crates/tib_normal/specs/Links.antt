-- The places of each key in a list of keys, one after another.
use Rattle.std.specs.Prelude.{◌≡◌, ℕ, ◌+◌, ◌<◌, ◌≤◌, List, length}
use Rattle.std.proofs.Common.{get_or}
use Rattle.tib_normal.specs.declared.links.Links.{Links}

-- what is read past the last key
abbrev pub no_key : ℕ
no_key = 4294967295

-- p is the first place from i on of the key k, and the number of keys where there is none
pub record IsNext (keys : List ℕ) (k i p : ℕ) : Type 0 where
  pub from : i ≤ p
  pub within : p ≤ length keys
  pub own : p < length keys → get_or keys p no_key ≡ k
  pub none_between : (n : ℕ) → i ≤ n → n < p → get_or keys n no_key ≡ k → ⊥

-- the first place of each key below a number, and the next place of each such key
pub record AreLinks (keys : List ℕ) (count : ℕ) (links : Links) : Type 0 where
  pub keys_long : length links.first.items ≡ count
  pub places_long : length links.next.items ≡ length keys
  pub first : (k : ℕ) → k < count → IsNext keys k 0 (get_or links.first.items k 0)
  pub next : (n : ℕ) → n < length keys → get_or keys n no_key < count →
      IsNext keys (get_or keys n no_key) (n + 1) (get_or links.next.items n 0)
