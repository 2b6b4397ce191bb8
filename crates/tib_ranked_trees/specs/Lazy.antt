-- Lists that grow only where a tree is asked for (Huang and Chiang 2005).
use Rattle.std.specs.Prelude.{◌≡◌, ℕ, ◌<◌, ◌≤◌, ◌⊎◌, List, [], ◌∷◌, ◌++◌, length}
use Rattle.std.proofs.Common.{suc}
use Rattle.tib_lex.specs.Lists.{Has}
use Rattle.tib_tree.specs.Trees.{Tree}
use Rattle.tib_cost.specs.Semiring.{most}
use Rattle.tib_grammar.specs.Forms.{AreNormal}
use Rattle.tib_grammar.specs.Range.{SidesEndInHoles}
use Rattle.tib_grammar.specs.Run.{rule_at}
use Rattle.tib_grammar.specs.declared.Rule.{Rule}
use Rattle.tib_ranked_trees.specs.First.{NoLater}
use Rattle.tib_ranked_trees.specs.Below.{IsDeterministicBelow}
use Rattle.tib_ranked_trees.specs.Best.{Cheaper, IsTreeAt, Costed, IsNextAt}
use Rattle.tib_ranked_trees.specs.Levels.{IsOrderly, states_at}
use Rattle.tib_ranked_trees.specs.Pass.{Entries, AreRanks, zeros, zeros_at, offer, HasTree, IsKnown, Candidate, AreFronts}

-- the list of a state has all its trees
abbrev pub IsWhole : (ℕ → ℕ → ℕ) → List (Rule ℕ) → Entries → ℕ → Type 0
IsWhole product rules entries q =
    (y : Costed) → IsTreeAt product rules q y → (Has (entries q) y → ⊥) → ⊥

-- What a state keeps while lists grow. Its candidates are those that it took (`taken`) and those
-- that wait (`held`). After a candidate of `asked_for` was taken, the states below were asked for
-- their next trees; usually `asked_for` has all that were taken but the last.
pub record IsKept (product : ℕ → ℕ → ℕ) (rules : List (Rule ℕ)) (k : ℕ) (entries : Entries)
    (asked_for taken held : List Candidate) (u : ℕ) : Type 0 where
  -- each state below a rule of u has its first tree
  pub started :
      (n : ℕ) → n < length rules → (rule_at rules n).left ≡ u →
      AreRanks entries (states_at rules n) (zeros_at rules n)
  -- the first candidate of each rule is known
  pub begun :
      (n : ℕ) → n < length rules → (rule_at rules n).left ≡ u →
      (offer product rules entries n (zeros_at rules n)).1 ≤ most →
      IsKnown taken held n (zeros_at rules n)
  -- after a candidate, those with one rank raised by one, and only 0 after it, are known where
  -- there is such an entry
  pub followed :
      (n : ℕ) → n < length rules → (rule_at rules n).left ≡ u →
      (front qs : List ℕ) (q j : ℕ) (back : List ℕ) → states_at rules n ≡ qs ++ q ∷ back →
      length front ≡ length qs →
      Has asked_for (n, front ++ j ∷ zeros back) → suc j < length (entries q) →
      (offer product rules entries n (front ++ suc j ∷ zeros back)).1 ≤ most →
      IsKnown taken held n (front ++ suc j ∷ zeros back)
  -- and there is such an entry, or the list below is complete or full
  pub asked :
      (n : ℕ) → n < length rules → (rule_at rules n).left ≡ u →
      (front qs : List ℕ) (q j : ℕ) (back : List ℕ) → states_at rules n ≡ qs ++ q ∷ back →
      length front ≡ length qs →
      Has asked_for (n, front ++ j ∷ zeros back) →
      (suc j < length (entries q)) ⊎ (IsWhole product rules entries q ⊎ (k ≤ length (entries q)))
  -- a candidate that was taken names entries of u, and its tree is listed
  pub among : (x : Candidate) → Has asked_for x → Has taken x
  pub named :
      (n : ℕ) (js : List ℕ) → Has taken (n, js) →
      ((rule_at rules n).left ≡ u) × AreRanks entries (states_at rules n) js
  pub placed :
      (n : ℕ) (js : List ℕ) → Has taken (n, js) →
      HasTree (entries u) (offer product rules entries n js).0
  -- a candidate that waits is one of u, names entries, and costs no more than the greatest cost
  pub in_range :
      (n : ℕ) (js : List ℕ) → Has held (n, js) →
      (n < length rules) × ((rule_at rules n).left ≡ u) × AreRanks entries (states_at rules n) js
      × ((offer product rules entries n js).1 ≤ most)

-- A state is ready to give its next tree: the list of each state is a front of its trees, and for
-- each candidate that it took the states below were asked.
pub record IsReady (product : ℕ → ℕ → ℕ) (labels : List (List ℕ)) (rules : List (Rule ℕ)) (k : ℕ)
    (entries : Entries) (taken held : List Candidate) (u : ℕ) : Type 0 where
  pub fronts : AreFronts product labels rules entries
  pub kept : IsKept product rules k entries taken taken held u

-- the list of one state grew by its next tree
pub record IsGrown (product : ℕ → ℕ → ℕ) (rules : List (Rule ℕ)) (k : ℕ) (before now : Entries)
    (q : ℕ) (e : Costed) : Type 0 where
  pub others : (p : ℕ) → (p ≡ q → ⊥) → now p ≡ before p
  pub here : now q ≡ before q ++ e ∷ []
  pub is_tree : IsTreeAt product rules q e
  pub new : Has (before q) e → ⊥
  pub few : length (before q) < k

-- what is known after the last candidate that was taken
pub record IsAsked (product : ℕ → ℕ → ℕ) (rules : List (Rule ℕ)) (k : ℕ) (entries : Entries)
    (taken held : List Candidate) (last : Candidate) : Type 0 where
  pub followed :
      (front qs : List ℕ) (q j : ℕ) (back : List ℕ) → states_at rules last.0 ≡ qs ++ q ∷ back →
      length front ≡ length qs → last.1 ≡ front ++ j ∷ zeros back →
      suc j < length (entries q) →
      (offer product rules entries last.0 (front ++ suc j ∷ zeros back)).1 ≤ most →
      IsKnown taken held last.0 (front ++ suc j ∷ zeros back)
  pub asked :
      (front qs : List ℕ) (q j : ℕ) (back : List ℕ) → states_at rules last.0 ≡ qs ++ q ∷ back →
      length front ≡ length qs → last.1 ≡ front ++ j ∷ zeros back →
      (suc j < length (entries q)) ⊎ (IsWhole product rules entries q ⊎ (k ≤ length (entries q)))

-- What a state keeps holds when its list has the first tree and its other rules' first candidates
-- wait. It is kept while any list grows; when it was asked for the states below its last
-- candidate; and when it takes a candidate whose tree is listed.
pub record AskingKeeps (product : ℕ → ℕ → ℕ) : Type 0 where
  pub begins :
      (rules : List (Rule ℕ)) (k : ℕ) (entries : Entries) (held : List Candidate) (u first : ℕ) →
      ((n : ℕ) → n < length rules → (rule_at rules n).left ≡ u →
      AreRanks entries (states_at rules n) (zeros_at rules n)) → first < length rules →
      (rule_at rules first).left ≡ u → HasTree (entries u)
      (offer product rules entries first (zeros_at rules first)).0 →
      ((n : ℕ) → n < length rules → (rule_at rules n).left ≡ u →
      (offer product rules entries n (zeros_at rules n)).1 ≤ most →
      (first ≡ n) ⊎ Has held (n, zeros_at rules n)) →
      ((n : ℕ) (js : List ℕ) → Has held (n, js) →
      (n < length rules) × ((rule_at rules n).left ≡ u) × AreRanks entries (states_at rules n) js
      × ((offer product rules entries n js).1 ≤ most)) →
      IsKept product rules k entries [] ((first, zeros_at rules first) ∷ []) held u
  pub grows :
      (rules : List (Rule ℕ)) (k : ℕ) (before now : Entries) (q : ℕ) (e : Costed) →
      IsGrown product rules k before now q e → (asked_for taken held : List Candidate) (u : ℕ) →
      IsKept product rules k before asked_for taken held u →
      IsKept product rules k now asked_for taken held u
  pub asks :
      (rules : List (Rule ℕ)) (k : ℕ) (entries : Entries) (older : List Candidate)
      (last : Candidate) (held more : List Candidate) (u : ℕ) →
      IsKept product rules k entries older (last ∷ older) held u →
      ((x : Candidate) → Has held x → Has more x) →
      ((n : ℕ) (js : List ℕ) → Has more (n, js) →
      (n < length rules) × ((rule_at rules n).left ≡ u) × AreRanks entries (states_at rules n) js
      × ((offer product rules entries n js).1 ≤ most)) →
      IsAsked product rules k entries (last ∷ older) more last →
      IsKept product rules k entries (last ∷ older) (last ∷ older) more u
  pub takes :
      (rules : List (Rule ℕ)) (k : ℕ) (entries : Entries) (taken held rest : List Candidate)
      (x : Candidate) (u : ℕ) → IsKept product rules k entries taken taken held u →
      Has held x → ((y : Candidate) → Has held y → (y ≡ x) ⊎ Has rest y) →
      ((y : Candidate) → Has rest y → Has held y) →
      HasTree (entries u) (offer product rules entries x.0 x.1).0 →
      IsKept product rules k entries taken (x ∷ taken) rest u

-- The least candidate of a state that is ready is its next tree, if the list lacks it and is not
-- full. If none waits, the list is complete.
pub record AskingListsBest (product : ℕ → ℕ → ℕ) : Type 0 where
  pub next :
      (labels : List (List ℕ)) (rules : List (Rule ℕ)) (k : ℕ) (entries : Entries)
      (taken held : List Candidate) (u : ℕ) → AreNormal rules → IsOrderly product rules →
      IsReady product labels rules k entries taken held u → length (entries u) < k →
      (n : ℕ) (js : List ℕ) → Has held (n, js) →
      ((m : ℕ) (is : List ℕ) → Has held (m, is) →
      NoLater (Cheaper labels) (offer product rules entries n js)
      (offer product rules entries m is)) →
      (HasTree (entries u) (offer product rules entries n js).0 → ⊥) →
      IsNextAt product labels rules u (entries u) (offer product rules entries n js)
  pub whole :
      (labels : List (List ℕ)) (rules : List (Rule ℕ)) (k : ℕ) (entries : Entries)
      (taken : List Candidate) (u : ℕ) → AreNormal rules → IsOrderly product rules →
      IsReady product labels rules k entries taken [] u → length (entries u) < k →
      IsWhole product rules entries u

-- a candidate with what it names
pub record IsNamed (rules : List (Rule ℕ)) (entries : Entries) (n : ℕ) (js : List ℕ) : Type 0 where
  pub below : n < length rules
  pub ranks : AreRanks entries (states_at rules n) js

-- a tree of a list came from a candidate that was taken
pub record IsFrom (product : ℕ → ℕ → ℕ) (rules : List (Rule ℕ)) (entries : Entries)
    (taken : List Candidate) (t : Tree ℕ) : Type 0 where
  pub rule : ℕ
  pub ranks : List ℕ
  pub stands : Has taken (rule, ranks)
  pub named : IsNamed rules entries rule ranks
  pub same : (offer product rules entries rule ranks).0 ≡ t

-- In rules that are deterministic below the root two candidates of one state stand for different
-- trees. So if the listed trees of a state came from candidates of it that were taken, and one that
-- waits was not taken, its tree is not listed.
pub record NoDuplicates (product : ℕ → ℕ → ℕ) : Type 0 where
  pub apart :
      (labels : List (List ℕ)) (rules : List (Rule ℕ)) (entries : Entries) → AreNormal rules →
      SidesEndInHoles rules → IsDeterministicBelow rules →
      AreFronts product labels rules entries → (n m : ℕ) (js is : List ℕ) →
      IsNamed rules entries n js → IsNamed rules entries m is →
      (rule_at rules n).left ≡ (rule_at rules m).left →
      (offer product rules entries n js).0 ≡ (offer product rules entries m is).0 →
      ◌≡◌ {A = Candidate} (n, js) (m, is)
  pub new :
      (labels : List (List ℕ)) (rules : List (Rule ℕ)) (entries : Entries) → AreNormal rules →
      SidesEndInHoles rules → IsDeterministicBelow rules →
      AreFronts product labels rules entries → (taken : List Candidate) (u n : ℕ) (js : List ℕ) →
      IsNamed rules entries n js → (rule_at rules n).left ≡ u →
      ((x : Candidate) → Has taken x → (rule_at rules x.0).left ≡ u) →
      ((t : Tree ℕ) → HasTree (entries u) t → IsFrom product rules entries taken t) →
      (Has taken (n, js) → ⊥) → HasTree (entries u) (offer product rules entries n js).0 → ⊥
