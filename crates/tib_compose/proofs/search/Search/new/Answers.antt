use Rattle.std.proofs.Common.{◌≡◌, refl, sym, ap, ◌∙◌, subst, Some, [], arith}
use Rattle.tib_key_edges.specs.Translations.{choice_cost}
use Rattle.tib_compose.specs.Pending.{AreNodesBelow, IsAtLeast}
use Rattle.tib_compose.proofs.search.Search.new.Goals as goal

pub returns : goal.returns
returns g c = record {
  begins = record {
    costs = refl;
    done = c.new-2.ensures.items;
    turns = c.new-3.ensures.items;
    left = λ two pairs. c.in_ok-push.ensures.1 two pairs [] (λ x h. subst (λ v. IsAtLeast v (choice_cost g.S.Semiring.product two x)) (sym c.new.ensures) (omega arith)) c.new-pending.ensures.next;
    nodes = λ n h. c.in_ok-push.ensures.2 n (subst (AreNodesBelow n) (sym c.new-pending.ensures.tasks) tt) h;
  };
}
