use Rattle.std.proofs.Common.{rules, length}
use Rattle.tib_ranked_trees.proofs.Placed.{all_reordered, sorted_by_texts}
use Rattle.tib_ranked_trees.proofs.text_ranks.sorted_labels.Goals as goal

pub returns : goal.returns
returns c = record {
  all = all_reordered (length c.args.labels.now) c.in_ok-order.order.items c.sort_by.new.self.items c.in_ok-order.ensures c.in_ok-sort_by.ensures.permutation;
  sorted = sorted_by_texts c.args.labels.now c.sort_by.new.self.items c.in_ok-sort_by.ensures.sorted (λ a r q k. search rules);
}
