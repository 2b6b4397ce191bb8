use Rattle.std.proofs.Common.{drop}
use Rattle.tib_transducer.specs.Pairs.{ArePairsWithin}
use Rattle.tib_strings.specs.Rules.{pairs_of}
use Rattle.tib_strings.proofs.transducers.are_pairs_within.Given as goal

abbrev pub invariant-loop-word : goal.invariant-loop-word
invariant-loop-word l = record {
  back : ArePairsWithin l.states l.variables (pairs_of (drop l.word-index l.words)) → ArePairsWithin l.states l.variables (pairs_of l.words);
  on : ArePairsWithin l.states l.variables (pairs_of l.words) → ArePairsWithin l.states l.variables (pairs_of (drop l.word-index l.words));
}
