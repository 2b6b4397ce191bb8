-- The tree-to-string transducer that reads what a transducer reads, and puts out nothing.
use Rattle.std.specs.Prelude.{ℕ, ◌+◌, nat_eq, List, [], ◌∷◌, ◌++◌, length, map, None, if◌then◌else◌}
use Rattle.std.specs.List.{list_any, range_with_len}
use Rattle.tib_grammar.specs.Sides.{holes_of, over}
use Rattle.tib_transducer.specs.Rules.{variables_of, variables_in}
use Rattle.tib_transducer.specs.TransducerOf.{TransducerOf}
use Rattle.tib_transducer.specs.declared.Variable.{Variable}
use Rattle.tib_transducer.specs.declared.Pair.{Pair}
use Rattle.tib_transducer.specs.declared.TransducerRule.{TransducerRule}
use Rattle.tib_strings.specs.StringTransducerOf.{StringTransducerOf}
use Rattle.tib_strings.specs.declared.Word.{Word as Token}
use Rattle.tib_strings.specs.declared.Word.TheVariants.{Hole}
use Rattle.tib_strings.specs.declared.StringRule.{StringRule}
use Rattle.tib_canon.specs.Canonical.{names_of}
use Rattle.tib_domain.specs.Alphabet.{alphabet}

-- the numbers of the variables, in their order, that are not among those in use
abbrev pub left_out : List ℕ → List Variable → List ℕ
left_out used [] = []
left_out used (x ∷ xs) = if list_any (nat_eq x.number) used then left_out used xs else x.number ∷ left_out used xs

-- the pairs of a state and each of some variables
abbrev pub pairs_from : ℕ → List ℕ → List (Pair ℕ)
pairs_from state variables = map (λ (i : ℕ). record { state = state; variable = i }) variables

-- a list of pairs alone
abbrev pub only_pairs : List (Pair ℕ) → List (Token ℕ)
only_pairs xs = map (λ (x : Pair ℕ). Hole x) xs

-- A rule that reads what a rule of the transducer reads, at its cost. It puts out the pairs of that
-- rule, in preorder, and then for each variable that the rule leaves out the pair with the state
-- `any`.
abbrev pub reading_rule : ℕ → TransducerRule ℕ → StringRule ℕ
reading_rule any r = record {
  state = r.state;
  left = r.left;
  right = only_pairs (holes_of r.right ++ pairs_from any (left_out (variables_in r.right) (variables_of r.left)));
  cost = r.cost;
}

-- the variable with a number, which binds every tree
abbrev pub plain : ℕ → Variable
plain i = record { number = i; label = None }

-- The rule of the state `any` for a symbol: it reads the label over one variable for each child, at
-- `one`, and puts out the pair of each with `any`.
abbrev pub any_rule : ℕ → ℕ × ℕ → StringRule ℕ
any_rule any symbol = record {
  state = any;
  left = over symbol.0 (map plain (range_with_len 0 symbol.1));
  right = only_pairs (pairs_from any (range_with_len 0 symbol.1));
  cost = 0;
}

-- the rules that read what some rules read, and for each symbol of their alphabet that of `any`
abbrev pub domain_rules : ℕ → List (TransducerRule ℕ) → List (StringRule ℕ)
domain_rules any rules = map (reading_rule any) rules ++ map (any_rule any) (alphabet rules)

-- The transducer of these rules, whose states are those of the transducer and then `any`, which
-- takes any tree over the alphabet. The states have new names.
abbrev pub domain_of : TransducerOf → StringTransducerOf
domain_of t = record {
  names = names_of (length t.names + 1);
  rules = domain_rules (length t.names) t.rules;
}
