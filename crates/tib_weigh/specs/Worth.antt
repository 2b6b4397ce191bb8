-- What a rule is worth over the vectors of its children, and what is found where rules are tried.
use Rattle.std.specs.Prelude.{◌≡◌, ◌⊎◌, ℕ, ◌<◌, List, [], ◌∷◌, get_or, nat_eq, if◌then◌else◌, Option, None, Some}
use Rattle.std.proofs.Common.{suc}
use Rattle.tib_lex.specs.Lists.{Has}
use Rattle.tib_cost.specs.Least.{times, IsNoGreater}
use Rattle.tib_grammar.specs.Sides.{holes}
use Rattle.tib_grammar.specs.Run.{rule_at}
use Rattle.tib_grammar.specs.declared.Rule.{Rule}
use Rattle.tib_weigh.specs.Buckets.{IsRuleOver}
use Rattle.tib_weigh.specs.Entries.{cost_in}
use Rattle.tib_weigh.specs.declared.vector.Entry.{Entry}
use Rattle.tib_weigh.specs.declared.ready.Ready.{Ready}
use Rattle.tib_weigh.specs.declared.trying.Rest.{Rest}

-- the product of the costs at the states, each in its own vector, but for the place j; the first
-- place is i
abbrev pub times_beside : (ℕ → ℕ → ℕ) → ℕ → ℕ → List ℕ → List (List Entry) → Option ℕ
times_beside product j i [] vs = Some 0
times_beside product j i (q ∷ qs) [] = None
times_beside product j i (q ∷ qs) (v ∷ vs) = times product (if nat_eq i j then Some 0 else cost_in v q) (times_beside product j (suc i) qs vs)

-- that of the states below the rule at p
abbrev pub rest_worth : (ℕ → ℕ → ℕ) → List (Rule ℕ) → ℕ → List (List Entry) → ℕ → Option ℕ
rest_worth product rules j vs p = times_beside product j 0 (holes (rule_at rules p).right.kids) vs

-- what is remembered is that of its rule
abbrev pub IsRemembered : (ℕ → ℕ → ℕ) → List (Rule ℕ) → ℕ → List (List Entry) → Rest → Type 0
IsRemembered product rules j vs r = (p : ℕ) → r.position ≡ Some p → r.cost ≡ rest_worth product rules j vs p

-- the cost of its state, times that of its rest, times its own
abbrev pub worth : (ℕ → ℕ → ℕ) → List (Rule ℕ) → ℕ → List (List Entry) → Ready → Option ℕ
worth product rules j vs r = times product (times product (cost_in (get_or vs j []) r.state) (rest_worth product rules j vs r.rest)) (Some r.cost)

-- their rests are rules of n states, and their left states are below `states`
abbrev pub AreSound : List (Rule ℕ) → ℕ → ℕ → List Ready → Type 0
AreSound rules n states rs = (r : Ready) → Has rs r → IsRuleOver rules n r.rest × (r.left < states)

-- c is what some of these is worth, which goes from q
pub record IsWorth (value : Ready → Option ℕ) (rs : List Ready) (q c : ℕ) : Type 0 where
  pub ready : Ready
  pub has : Has rs ready
  pub left : ready.left ≡ q
  pub is : value ready ≡ Some c

-- costs by state before and after these were tried for the state s
pub record HasTried (value : Ready → Option ℕ) (s : ℕ) (rs : List Ready) (old new : ℕ → Option ℕ) : Type 0 where
  pub lower : (q : ℕ) (w : Option ℕ) → IsNoGreater (old q) w → IsNoGreater (new q) w
  pub tried : (r : Ready) → Has rs r → r.state ≡ s → IsNoGreater (new r.left) (value r)
  pub from : (q c : ℕ) → new q ≡ Some c → (old q ≡ Some c) ⊎ IsWorth value rs q c

-- costs by state after the rules of the slots of all entries were tried
pub record HasTriedAll (value : Ready → Option ℕ) (v : List Entry) (at : ℕ → List Ready) (new : ℕ → Option ℕ) : Type 0 where
  pub tried : (e : Entry) (r : Ready) → Has v e → Has (at e.state) r → r.state ≡ e.state → IsNoGreater (new r.left) (value r)
  pub from : (q c : ℕ) → new q ≡ Some c → (s : ℕ) × IsWorth value (at s) q c
