use Rattle.std.specs.Prelude.{◌≡◌, ◌⊎◌, ◌+◌, ◌≤◌, [], ◌∷◌, length}
use Rattle.tib_lex.specs.Lists.{Has}
use Rattle.tib_lazy_lists.specs.AskingOf.{asking_of}
use Rattle.tib_lazy_lists.specs.Demands.{nodes_at, nodes_behind, AreLed, AreUnmet, IsMet}
use Rattle.tib_lazy_lists.proofs.asking.Asking.demands.Given as goal

abbrev pub invariant-loop-demand : goal.invariant-loop-demand
invariant-loop-demand g l = record {
  stack : AreUnmet l.lists (asking_of l.self) l.stack.items;
  order : AreUnmet l.lists (asking_of l.self) l.order.items;
  few : length l.order.items + nodes_behind l.lists l.stack.items ≤ nodes_at l.lists l.fn.first;
  led : AreLed (λ e. Has l.stack.items e ⊎ IsMet l.lists (asking_of l.self) e) l.lists (asking_of l.self) l.order.items;
  first : Has l.order.items l.fn.first ⊎ (l.stack.items ≡ l.fn.first ∷ []);
}

abbrev pub decreases-loop-demand : goal.decreases-loop-demand
decreases-loop-demand g l = nodes_behind l.lists l.stack.items
