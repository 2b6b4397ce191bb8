-- What is kept while the states are settled one by one, the least cost first (Knuth 1977).
use Rattle.std.specs.Prelude.{◌≡◌, ℕ, ◌+◌, ◌<◌, ◌≤◌, ◌⊎◌, List, [], ◌∷◌, length, Option, None, Some, Contains, sum_by, ◌*◌}
use Rattle.std.proofs.Common.{zero, suc, get_or}
use Rattle.tib_grammar.specs.Sides.{holes_of}
use Rattle.tib_grammar.specs.Run.{rule_at}
use Rattle.tib_grammar.specs.declared.Rule.{Rule}
use Rattle.tib_cost.specs.Semiring.{most}
use Rattle.tib_cost.specs.Least.{times}
use Rattle.tib_inside.specs.Inside.{IsRunCost, IsInside, total}
use Rattle.tib_inside.specs.declared.pending.Pending.{Pending}
use Rattle.tib_lex.specs.Lists.{occurrences}
use Rattle.tib_normal.specs.Entries.{TakesLeast, unset}

-- the costs of states, by number
abbrev pub costs_in : List (Option ℕ) → ℕ → Option ℕ
costs_in costs q = get_or costs q None

-- the cost of a rule and of the states in its right side
abbrev pub rule_total : (ℕ → ℕ → ℕ) → (ℕ → Option ℕ) → Rule ℕ → Option ℕ
rule_total product costs r = times product (Some r.cost) (total product costs (holes_of r.right))

-- q waits at a cost of at most c
pub record Waits (entries : List (ℕ × ℕ)) (q c : ℕ) : Type 0 where
  pub cost : ℕ
  pub held : Contains entries (cost, q)
  pub small : cost ≤ c

-- q has its cost, or a cost of at most c waits for it
abbrev pub HasOrWaits : (ℕ → Option ℕ) → List (ℕ × ℕ) → ℕ → ℕ → Type 0
HasOrWaits costs entries q c = ((d : ℕ) × (costs q ≡ Some d)) ⊎ Waits entries q c

-- each cost is the inside cost of its state, and each entry the cost of a run from its state
pub record AreSound (product : ℕ → ℕ → ℕ) (rules : List (Rule ℕ)) (costs : ℕ → Option ℕ)
    (entries : List (ℕ × ℕ)) : Type 0 where
  pub exact : (q d : ℕ) → costs q ≡ Some d → IsInside product rules q (Some d)
  pub runs : (e : ℕ × ℕ) → Contains entries e → IsRunCost product rules (e.1 ∷ []) e.0
  pub within : (e : ℕ × ℕ) → Contains entries e → e.0 ≤ most

-- what is needed of no rule
abbrev pub no_pending : Pending
no_pending = record { product = None; missing = 0; left = 0 }

-- how many of some states have no cost
abbrev pub missing_among : (ℕ → Option ℕ) → List ℕ → ℕ
missing_among costs [] = 0
missing_among costs (q ∷ qs) = unset (costs q) + missing_among costs qs

-- a cost, and in place of none the one that changes no product
abbrev pub or_one : Option ℕ → Option ℕ
or_one None = Some 0
or_one (Some d) = Some d

-- the cost of a rule and of those states in its right side that have one
abbrev pub known_total : (ℕ → ℕ → ℕ) → (ℕ → Option ℕ) → Rule ℕ → Option ℕ
known_total product costs r =
    times product (Some r.cost) (total product (λ q. or_one (costs q)) (holes_of r.right))

-- the product with a cost, n times
abbrev pub scaled : (ℕ → ℕ → ℕ) → ℕ → Option ℕ → ℕ → Option ℕ
scaled product c v zero = v
scaled product c v (suc k) = scaled product c (times product v (Some c)) k

-- what is kept of the rule r, once n more holes whose state has the cost c are filled
pub record IsPending (product : ℕ → ℕ → ℕ) (costs : ℕ → Option ℕ) (c more : ℕ) (r : Rule ℕ)
    (p : Pending) : Type 0 where
  pub left : p.left ≡ r.left
  pub missing : p.missing ≡ missing_among costs (holes_of r.right) + more
  pub known : scaled product c p.product more ≡ known_total product costs r

-- The first n rules are kept, where as many holes of each are still to be filled with the cost c as
-- it is listed. Where no state of a rule is missing, its left state has its cost, or the cost of
-- the rule waits for it.
pub record IsSettlingUpTo (product : ℕ → ℕ → ℕ) (rules : List (Rule ℕ)) (n : ℕ)
    (costs : ℕ → Option ℕ) (c : ℕ) (listed : List ℕ) (pending : List Pending)
    (entries : List (ℕ × ℕ)) : Type 0 where
  pub sound : AreSound product rules costs entries
  pub long : length pending ≡ n
  pub each : (m : ℕ) → m < n → IsPending product costs c (occurrences m listed) (rule_at rules m)
      (get_or pending m no_pending)
  pub offered :
      (m d : ℕ) → m < n → (get_or pending m no_pending).missing ≡ 0 → (get_or pending m no_pending).product ≡ Some d →
      HasOrWaits costs entries (get_or pending m no_pending).left d

-- so are all rules
abbrev pub IsSettling : (ℕ → ℕ → ℕ) → List (Rule ℕ) → (ℕ → Option ℕ) → ℕ → List ℕ → List Pending →
    List (ℕ × ℕ) → Type 0
IsSettling product rules costs c listed pending entries =
    IsSettlingUpTo product rules (length rules) costs c listed pending entries

-- where no state of a rule is missing, its left state has a cost, or the rule's cost waits for it
-- now
pub record Offers (costs : ℕ → Option ℕ) (p : Pending) (before after : List (ℕ × ℕ)) : Type 0 where
  pub kept : (e : ℕ × ℕ) → Contains before e → Contains after e
  pub offered : p.missing ≡ 0 → (d : ℕ) → p.product ≡ Some d → HasOrWaits costs after p.left d
  pub only : (e : ℕ × ℕ) → Contains after e → Contains before e
      ⊎ ((p.missing ≡ 0) × (p.product ≡ Some e.0) × (p.left ≡ e.1))
  pub more : length after ≤ length before + 1

-- one hole of rule n, whose state has the cost c, is filled
pub record Touches (product : ℕ → ℕ → ℕ) (costs : ℕ → Option ℕ) (c n : ℕ) (old new : List Pending)
    (before after : List (ℕ × ℕ)) : Type 0 where
  pub long : length new ≡ length old
  pub others : (m : ℕ) → (m ≡ n → ⊥) → get_or new m no_pending ≡ get_or old m no_pending
  pub left : (get_or new n no_pending).left ≡ (get_or old n no_pending).left
  pub missing : (get_or new n no_pending).missing + 1 ≡ (get_or old n no_pending).missing
  pub known : (get_or new n no_pending).product
      ≡ times product (get_or old n no_pending).product (Some c)
  pub offers : Offers costs (get_or new n no_pending) before after

-- the least entry e is taken from what waits
pub record IsTaken (product : ℕ → ℕ → ℕ) (rules : List (Rule ℕ)) (costs : ℕ → Option ℕ)
    (pending : List Pending) (e : ℕ × ℕ) (rest : List (ℕ × ℕ)) : Type 0 where
  pub entries : List (ℕ × ℕ)
  pub takes : TakesLeast entries e rest
  pub settling : IsSettling product rules costs 0 [] pending entries

-- what is left to be done at most: entries to take, and for each state without a cost as many as
-- there are places
abbrev pub left_over : ℕ → List (Option ℕ) → List (ℕ × ℕ) → ℕ
left_over places costs entries = length entries + sum_by unset costs * (places + 1)
