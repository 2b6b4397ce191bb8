-- Names as the list of their texts.
use Rattle.std.specs.Prelude.{ℕ, List, map, ◌<◌, length}
use Rattle.tib_grammar.specs.StateName.{AreStateNames}
use Rattle.tib_grammar.specs.declared.Names.TheInside.{Inside}

abbrev pub texts_of : Inside → List (List ℕ)
texts_of n = map (λ t. t.items) n.texts.keys

-- distinct state names, fewer than 2^32
pub record AreNames (n : Inside) : Type 0 where
  pub names : AreStateNames (texts_of n)
  pub few : length n.texts.keys < 4294967296
