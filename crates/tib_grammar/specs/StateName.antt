-- Names of states.
use Rattle.std.specs.Prelude.{◌≡◌, ℕ, false, nat_eq, List}
use Rattle.std.specs.List.{list_any}
use Rattle.tib_lex.specs.Grammar.{IsName}
use Rattle.tib_lex.specs.Lists.{Each, Distinct}

-- a state name is a name without a full stop
pub record IsStateName (text : List ℕ) : Type 0 where
  pub is_name : IsName text
  pub no_stop : list_any (nat_eq 46) text ≡ false

-- each is a state name, and none occurs twice
pub record AreStateNames (texts : List (List ℕ)) : Type 0 where
  pub each : Each IsStateName texts
  pub distinct : Distinct texts
