-- One pass over all states: the list of each state grows by the least candidate of all.
use Rattle.std.specs.Prelude.{◌≡◌, ℕ, ◌<◌, ◌≤◌, ◌⊎◌, List, [], ◌∷◌, ◌++◌, length}
use Rattle.std.proofs.Common.{suc, get_or}
use Rattle.tib_lex.specs.Lists.{Has}
use Rattle.tib_tree.specs.Trees.{Tree, none}
use Rattle.tib_cost.specs.Semiring.{most}
use Rattle.tib_grammar.specs.Forms.{AreNormal}
use Rattle.tib_grammar.specs.Run.{rule_at}
use Rattle.tib_grammar.specs.declared.Rule.{Rule}
use Rattle.tib_ranked_trees.specs.First.{NoLater, IsNext}
use Rattle.tib_ranked_trees.specs.Best.{Cheaper, IsTreeAt, Costed, IsFrontAt}
use Rattle.tib_ranked_trees.specs.Levels.{IsOrderly, made, states_at}

-- the lists of the states, each an ascending list of trees with costs
abbrev pub Entries : Type 0
Entries = ℕ → List Costed

-- the list of each state is a front of its trees
abbrev pub AreFronts : (ℕ → ℕ → ℕ) → List (List ℕ) → List (Rule ℕ) → Entries → Type 0
AreFronts product labels rules entries =
    (q : ℕ) → IsFrontAt product labels rules q (entries q)

-- a rule's place, with a rank for each of its states
abbrev pub Candidate : Type 0
Candidate = ℕ × List ℕ

-- what is read past the end of a list
abbrev pub no_entry : Costed
no_entry = (record { label = 0; kids = none }, 0)

-- the entry of a state with a rank, from 0
abbrev pub entry_at : Entries → ℕ → ℕ → Costed
entry_at entries q j = get_or (entries q) j no_entry

-- the entries that ranks name, one for each state
abbrev pub picked : Entries → List ℕ → List ℕ → List Costed
picked entries [] js = []
picked entries (q ∷ qs) [] = []
picked entries (q ∷ qs) (j ∷ js) = entry_at entries q j ∷ picked entries qs js

-- each state has a rank, and an entry with it
abbrev pub AreRanks : Entries → List ℕ → List ℕ → Type 0
AreRanks entries [] [] = Unit {0}
AreRanks entries [] (j ∷ js) = ⊥
AreRanks entries (q ∷ qs) [] = ⊥
AreRanks entries (q ∷ qs) (j ∷ js) = (j < length (entries q)) × AreRanks entries qs js

-- the rank 0 for each state
abbrev pub zeros : List ℕ → List ℕ
zeros [] = []
zeros (q ∷ qs) = 0 ∷ zeros qs

-- the rank 0 for each state of the rule at a place
abbrev pub zeros_at : List (Rule ℕ) → ℕ → List ℕ
zeros_at rules n = zeros (states_at rules n)

-- what a candidate, a rule with a rank for each of its states, stands for
abbrev pub offer : (ℕ → ℕ → ℕ) → List (Rule ℕ) → Entries → ℕ → List ℕ → Costed
offer product rules entries n js =
    made product (rule_at rules n) (picked entries (states_at rules n) js)

-- a tree is in a list, at some cost
abbrev pub HasTree : List Costed → Tree ℕ → Type 0
HasTree xs t = (c : ℕ) × Has xs (t, c)

-- a candidate was taken, or it waits
abbrev pub IsKnown : List Candidate → List Candidate → ℕ → List ℕ → Type 0
IsKnown taken held n js = Has taken (n, js) ⊎ Has held (n, js)

-- what holds between two steps of the pass
pub record IsPass (product : ℕ → ℕ → ℕ) (labels : List (List ℕ)) (rules : List (Rule ℕ)) (k : ℕ)
    (entries : Entries) (taken held : List Candidate) : Type 0 where
  -- the list of each state is a front of its trees
  pub fronts : AreFronts product labels rules entries
  -- a rule's first candidate is known as soon as each of its states has an entry
  pub begun :
      (n : ℕ) → n < length rules → AreRanks entries (states_at rules n) (zeros_at rules n) →
      (offer product rules entries n (zeros_at rules n)).1 ≤ most →
      IsKnown taken held n (zeros_at rules n)
  -- after a candidate that was taken, those with one rank raised by one, and only 0 after it, are
  -- known as soon as there is such an entry
  pub followed :
      (n : ℕ) → n < length rules → (front qs : List ℕ) (q j : ℕ) (back : List ℕ) →
      states_at rules n ≡ qs ++ q ∷ back → length front ≡ length qs →
      Has taken (n, front ++ j ∷ zeros back) → suc j < length (entries q) →
      (offer product rules entries n (front ++ suc j ∷ zeros back)).1 ≤ most →
      IsKnown taken held n (front ++ suc j ∷ zeros back)
  -- the tree of a candidate that was taken is listed, unless the list of its state is full
  pub placed :
      (n : ℕ) (js : List ℕ) → Has taken (n, js) →
      HasTree (entries (rule_at rules n).left) (offer product rules entries n js).0
      ⊎ (k ≤ length (entries (rule_at rules n).left))
  -- a candidate that waits names entries, and costs no more than the greatest cost
  pub in_range :
      (n : ℕ) (js : List ℕ) → Has held (n, js) →
      (n < length rules) × AreRanks entries (states_at rules n) js
      × ((offer product rules entries n js).1 ≤ most)

-- no candidate that waits comes before this one
pub record IsLeastHeld (product : ℕ → ℕ → ℕ) (labels : List (List ℕ)) (rules : List (Rule ℕ))
    (entries : Entries) (held : List Candidate) (n : ℕ) (js : List ℕ) : Type 0 where
  pub stands : Has held (n, js)
  pub least :
      (m : ℕ) (is : List ℕ) → Has held (m, is) →
      NoLater (Cheaper labels) (offer product rules entries n js)
      (offer product rules entries m is)

-- What the pass takes is the next tree of its state, if the list of the state lacks it and is not
-- full. If no candidate waits, each list that is not full has all trees of its state.
pub record PassListsBest (product : ℕ → ℕ → ℕ) : Type 0 where
  pub next :
      (labels : List (List ℕ)) (rules : List (Rule ℕ)) (k : ℕ) (entries : Entries)
      (taken held : List Candidate) → AreNormal rules → IsOrderly product rules →
      IsPass product labels rules k entries taken held → (n : ℕ) (js : List ℕ) →
      IsLeastHeld product labels rules entries held n js →
      length (entries (rule_at rules n).left) < k →
      (HasTree (entries (rule_at rules n).left) (offer product rules entries n js).0 → ⊥) →
      IsNext (IsTreeAt product rules (rule_at rules n).left) (Cheaper labels)
      (entries (rule_at rules n).left) (offer product rules entries n js)
  pub whole :
      (labels : List (List ℕ)) (rules : List (Rule ℕ)) (k : ℕ) (entries : Entries)
      (taken : List Candidate) → AreNormal rules → IsOrderly product rules →
      IsPass product labels rules k entries taken [] → (q : ℕ) → length (entries q) < k →
      (y : Costed) → IsTreeAt product rules q y → (Has (entries q) y → ⊥) → ⊥

-- What holds between two steps holds after a step: when the candidate's tree was appended to the
-- list of its state, which made some candidates possible, and when it was dropped. The candidates
-- that are possible now have to be known.
pub record PassGoesOn (product : ℕ → ℕ → ℕ) : Type 0 where
  pub places :
      (labels : List (List ℕ)) (rules : List (Rule ℕ)) (k : ℕ) (before now : Entries)
      (taken held rest : List Candidate) (x : Candidate) →
      IsPass product labels rules k before taken held →
      Has held x → IsNext (IsTreeAt product rules (rule_at rules x.0).left) (Cheaper labels)
      (before (rule_at rules x.0).left) (offer product rules before x.0 x.1) →
      ((p : ℕ) → (p ≡ (rule_at rules x.0).left → ⊥) → now p ≡ before p) →
      now (rule_at rules x.0).left
      ≡ before (rule_at rules x.0).left ++ offer product rules before x.0 x.1 ∷ [] →
      ((y : Candidate) → Has held y → (y ≡ x) ⊎ Has rest y) →
      ((n : ℕ) (js : List ℕ) → Has taken (n, js) →
      (n < length rules) × AreRanks before (states_at rules n) js) →
      ((n : ℕ) (js : List ℕ) → Has rest (n, js) →
      (n < length rules) × AreRanks now (states_at rules n) js
      × ((offer product rules now n js).1 ≤ most)) →
      ((n : ℕ) → n < length rules → (AreRanks before (states_at rules n) (zeros_at rules n) → ⊥) →
      AreRanks now (states_at rules n) (zeros_at rules n) →
      (offer product rules now n (zeros_at rules n)).1 ≤ most →
      IsKnown (x ∷ taken) rest n (zeros_at rules n)) →
      ((n : ℕ) → n < length rules → (front qs : List ℕ) (q j : ℕ) (back : List ℕ) →
      states_at rules n ≡ qs ++ q ∷ back → length front ≡ length qs →
      Has (x ∷ taken) (n, front ++ j ∷ zeros back) →
      (x ≡ (n, front ++ j ∷ zeros back)) ⊎ (suc j ≡ length (before q)) → suc j < length (now q) →
      (offer product rules now n (front ++ suc j ∷ zeros back)).1 ≤ most →
      IsKnown (x ∷ taken) rest n (front ++ suc j ∷ zeros back)) →
      IsPass product labels rules k now (x ∷ taken) rest
  pub drops :
      (labels : List (List ℕ)) (rules : List (Rule ℕ)) (k : ℕ) (entries : Entries)
      (taken held rest : List Candidate) (x : Candidate) →
      IsPass product labels rules k entries taken held →
      HasTree (entries (rule_at rules x.0).left) (offer product rules entries x.0 x.1).0
      ⊎ (k ≤ length (entries (rule_at rules x.0).left)) →
      ((y : Candidate) → Has held y → (y ≡ x) ⊎ Has rest y) →
      ((n : ℕ) (js : List ℕ) → Has rest (n, js) →
      (n < length rules) × AreRanks entries (states_at rules n) js
      × ((offer product rules entries n js).1 ≤ most)) →
      ((front qs : List ℕ) (q j : ℕ) (back : List ℕ) → states_at rules x.0 ≡ qs ++ q ∷ back →
      length front ≡ length qs → x.1 ≡ front ++ j ∷ zeros back → suc j < length (entries q) →
      (offer product rules entries x.0 (front ++ suc j ∷ zeros back)).1 ≤ most →
      IsKnown (x ∷ taken) rest x.0 (front ++ suc j ∷ zeros back)) →
      IsPass product labels rules k entries (x ∷ taken) rest
