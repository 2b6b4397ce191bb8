use Rattle.std.proofs.Common.{◌≡◌, map}
use Rattle.tib_grammar.specs.StateName.{AreStateNames}
use Rattle.tib_grammar.proofs.Names.from_list.Given as goal

abbrev pub invariant-loop-text : goal.invariant-loop-text
invariant-loop-text l = record {
  can_next : (goal.iterator-loop-text).can_next l.text-iterator;
  ends : (goal.iterator-loop-text).is_finite l.text-iterator;
  same : l.names.keys ≡ l.yielded;
  names : AreStateNames (map (λ text. text.items) l.names.keys);
}
