use Rattle.std.proofs.Common.{arith, ap, length, ◌∙◌, ◌-◌, ◌+◌, inr, get_or}
use Rattle.std.specs.Prelude.{ℕ, List}
use Rattle.tib_ranked_trees.specs.ListsOf.{ListsOf}
use Rattle.tib_ranked_trees.proofs.Children.{rank_within, rank_read, get_or-default}
use Rattle.tib_ranked_trees.proofs.lists.Lists.last.Goals as goal

pub overflow_add-start : goal.overflow_add-start
overflow_add-start c =
    let w = rank_within c.args.self.now c.args.rule c.args.start (c.loop-i.i - 1) c.requires.tuple (omega arith) in
    let e = ap (λ (x : ListsOf). length x.ranks) c.self.view_is in
    search (arith, w, e, c.self.inside.ranks.ok.0)

pub index-requires : goal.index-requires
index-requires c =
    let w = rank_within c.args.self.now c.args.rule c.args.start (c.loop-i.i - 1) c.requires.tuple (omega arith) in
    let e = ap (λ (x : ListsOf). length x.ranks) c.self.view_is in
    omega (arith, w, e, c.self.inside.ranks.ok.0)

pub returns-then-index-ne0 : goal.returns-then-index-ne0
returns-then-index-ne0 c =
    let h = rank_read c.args.self.now c.args.rule c.args.start (c.loop-i.i - 1) c.requires.tuple (omega arith) in
    let w = rank_within c.args.self.now c.args.rule c.args.start (c.loop-i.i - 1) c.requires.tuple (omega arith) in
    let e = ap (λ (x : ListsOf). x.ranks) c.self.view_is in
    record {
      zeros = λ k low high. c.loop-i.invariant.1 k (omega arith) high;
      other = inr (λ z. c.if-index-ne0.true (c.index.ensures ∙ ap (λ (rs : List ℕ). get_or rs (c.args.start + (c.loop-i.i - 1)) c.index.result.now) e
          ∙ get_or-default c.args.self.now.ranks (c.args.start + (c.loop-i.i - 1)) c.index.result.now 0 w ∙ h ∙ z));
    }
