-- Pairs listed by their variables, each as its state and its place.
use Rattle.std.specs.Prelude.{◌≡◌, ℕ, ◌<◌, List}
use Rattle.std.proofs.Common.{get_or}
use Rattle.tib_transducer.specs.declared.Variable.{Variable}
use Rattle.tib_transducer.specs.declared.Pair.{Pair}
use Rattle.tib_rulewise.specs.Inverse.{no_pair}

-- of each of the first pairs, this many, the state and the place are at the number of its variable
abbrev pub AreListed : List (Pair ℕ) → ℕ → List (ℕ × ℕ) → Type 0
AreListed pairs many listed =
    (i : ℕ) → i < many →
    get_or listed (get_or pairs i no_pair).variable (0, 0) ≡ ((get_or pairs i no_pair).state, i)

-- the pair of a variable, of the state and the place that are listed for it
abbrev pub pair_in : List (ℕ × ℕ) → Variable → Pair ℕ
pair_in listed x = record {
  state = (get_or listed x.number (0, 0)).0;
  variable = (get_or listed x.number (0, 0)).1;
}
