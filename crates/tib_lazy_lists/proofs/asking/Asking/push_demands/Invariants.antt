use Rattle.std.specs.Prelude.{◌⊎◌, ◌+◌, ◌<◌, ◌≤◌, ℕ, take}
use Rattle.tib_lex.specs.Lists.{Has}
use Rattle.tib_lazy_lists.specs.declared.demanding.Demand.{Demand}
use Rattle.tib_ranked_trees.specs.Levels.{states_at}
use Rattle.tib_ranked_trees.specs.Walks.{pairs}
use Rattle.tib_ranked_trees.specs.Held.{entries_of, ranks_from}
use Rattle.tib_lazy_lists.specs.AskingOf.{asking_of}
use Rattle.tib_lazy_lists.specs.Demands.{demand_below, nodes_behind, named_nodes, AreUnmet, IsMet}
use Rattle.tib_lazy_lists.proofs.asking.Asking.push_demands.Given as goal

abbrev pub invariant-loop-i : goal.invariant-loop-i
invariant-loop-i g l = record {
  stack : AreUnmet l.lists (asking_of l.self) l.stack.items;
  kept : (d : Demand) → Has l.initial.stack.items d → Has l.stack.items d;
  there : (j : ℕ) → j < l.i → Has l.stack.items (demand_below l.lists l.rule (ranks_from l.lists l.rule l.start) j) ⊎ IsMet l.lists (asking_of l.self) (demand_below l.lists l.rule (ranks_from l.lists l.rule l.start) j);
  nodes : nodes_behind l.lists l.stack.items ≤ nodes_behind l.lists l.initial.stack.items + named_nodes (entries_of l.lists) (take l.i (pairs (states_at l.lists.rules l.rule) (ranks_from l.lists l.rule l.start)));
}
