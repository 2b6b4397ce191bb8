use Rattle.std.proofs.Common.{ℕ, ◌<◌}
use Rattle.tib_lex.specs.Lists.{Has}
use Rattle.tib_determinize.proofs.wanted.add_below.Given as goal

abbrev pub invariant-loop-position : goal.invariant-loop-position
invariant-loop-position l = record {
  more : (p : ℕ) → Has l.initial.wanted.items p → Has l.wanted.items p;
  all : (p : ℕ) → p < l.position → Has l.wanted.items p;
}
