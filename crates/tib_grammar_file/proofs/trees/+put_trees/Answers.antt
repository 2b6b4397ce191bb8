use Rattle.std.proofs.Common.{arith, ◌<◌, ◌-◌, ◌+◌, length, ℕ, ◌++◌, subst, sym}
use Rattle.tib_tree.specs.Trees.{preorder}
use Rattle.tib_grammar.specs.declared.Item.{Item}
use Rattle.tib_grammar_file.specs.TreeText.{symbol_text, IsWithin}
use Rattle.tib_grammar_file.proofs.PrintingTrees.{half_none, next_in, next_here, all_placed, all_printed, head_failed, kids_failed, close_failed, one_more, rank_is, closing_as, behind_within}
use Rattle.tib_grammar_file.proofs.trees.+put_trees.Goals as goal

pub loop-k-init : goal.loop-k-init
loop-k-init g t c = record {
  within = c.requires.place;
  from = omega arith;
  half = λ ts ys e n. half_none g.W.Sink.seen c.args.out.now (symbol_text (g.N.Notation.label_text c.args.names.now) (g.N.Notation.leaf_text c.args.names.now c.args.labels.now) c.args.labels.now) c.args.items.now ts ys c.args.at c.args.count e n;
}

pub bounds-items-next : goal.bounds-items-next
bounds-items-next g t c =
    let r = c.requires.trees in
    next_in g.W.Sink.seen c.args.out.now c.loop-k.out (symbol_text (g.N.Notation.label_text c.args.names.now) (g.N.Notation.leaf_text c.args.names.now c.args.labels.now) c.args.labels.now) c.args.items.now r.0 r.1 c.args.at c.loop-k.k c.args.count c.loop-k.next c.loop-k-test.true (c.loop-k.invariant.half r.0 r.1 r.2 r.3)

pub put_head-requires : goal.put_head-requires
put_head-requires g t c =
    let r = c.requires.trees in
    let lt = next_in g.W.Sink.seen c.args.out.now c.loop-k.out (symbol_text (g.N.Notation.label_text c.args.names.now) (g.N.Notation.leaf_text c.args.names.now c.args.labels.now) c.args.labels.now) c.args.items.now r.0 r.1 c.args.at c.loop-k.k c.args.count c.loop-k.next c.loop-k-test.true (c.loop-k.invariant.half r.0 r.1 r.2 r.3) in
    subst (λ (i : Item g.row.N-Leaf.Denot). IsWithin (g.N.Notation.fits c.args.names.now c.args.labels.now) (length c.args.labels.now) i) (sym c.index-items-next.is) (c.requires.within c.loop-k.next c.index-items-next.result lt)

pub returns-in-Err-clause-prints : goal.returns-in-Err-clause-prints
returns-in-Err-clause-prints g t c = λ ts ys e n.
    let half = c.loop-k.invariant.half ts ys e n in
    let h = next_here g.W.Sink.seen c.args.out.now c.loop-k.out (symbol_text (g.N.Notation.label_text c.args.names.now) (g.N.Notation.leaf_text c.args.names.now c.args.labels.now) c.args.labels.now) c.args.items.now ts ys c.args.at c.loop-k.k c.args.count c.loop-k.next c.index-items-next.result c.index-items-next.is c.loop-k-test.true half in
    head_failed g.W.Sink.seen (symbol_text (g.N.Notation.label_text c.args.names.now) (g.N.Notation.leaf_text c.args.names.now c.args.labels.now) c.args.labels.now) c.args.items.now ts ys c.args.at c.loop-k.k c.args.count c.loop-k.next c.index-items-next.result c.args.out.now c.loop-k.out ℕ c.put_head.new.out half h c.in-Err.field-0 c.in-Err.ensures

pub put_trees-requires : goal.put_trees-requires
put_trees-requires g t c κs within =
    let r = c.requires.trees in
    let half = c.loop-k.invariant.half r.0 r.1 r.2 r.3 in
    let h = next_here g.W.Sink.seen c.args.out.now c.loop-k.out (symbol_text (g.N.Notation.label_text c.args.names.now) (g.N.Notation.leaf_text c.args.names.now c.args.labels.now) c.args.labels.now) c.args.items.now r.0 r.1 c.args.at c.loop-k.k c.args.count c.loop-k.next c.index-items-next.result c.index-items-next.is c.loop-k-test.true half in
    let lt = next_in g.W.Sink.seen c.args.out.now c.loop-k.out (symbol_text (g.N.Notation.label_text c.args.names.now) (g.N.Notation.leaf_text c.args.names.now c.args.labels.now) c.args.labels.now) c.args.items.now r.0 r.1 c.args.at c.loop-k.k c.args.count c.loop-k.next c.loop-k-test.true half in
    let smaller : length c.args.items.now - (c.loop-k.next + 1) < t = omega (arith, lt, c.loop-k.invariant.from, c.decreases) in
    (smaller, (within.0, (within.1.0, (within.1.1, (omega (arith, lt), (c.requires.within, (h.kids, preorder h.rest ++ r.1, h.behind, rank_is c.rank_of-rank.ensures h.pair)))))))

pub returns-in-Err-put_trees-clause-prints : goal.returns-in-Err-put_trees-clause-prints
returns-in-Err-put_trees-clause-prints g t c = λ ts ys e n.
    let half = c.loop-k.invariant.half ts ys e n in
    let h = next_here g.W.Sink.seen c.args.out.now c.loop-k.out (symbol_text (g.N.Notation.label_text c.args.names.now) (g.N.Notation.leaf_text c.args.names.now c.args.labels.now) c.args.labels.now) c.args.items.now ts ys c.args.at c.loop-k.k c.args.count c.loop-k.next c.index-items-next.result c.index-items-next.is c.loop-k-test.true half in
    kids_failed g.W.Sink.seen (symbol_text (g.N.Notation.label_text c.args.names.now) (g.N.Notation.leaf_text c.args.names.now c.args.labels.now) c.args.labels.now) c.args.items.now ts ys c.args.at c.loop-k.k c.args.count c.loop-k.next c.index-items-next.result c.args.out.now c.loop-k.out ℕ c.put_head.new.out c.put_trees.new.out half h c.in-Err-put_trees.field-0 c.in-Ok.ensures (c.in-Err-put_trees.ensures.prints h.kids (preorder h.rest ++ ys) h.behind (rank_is c.rank_of-rank.ensures h.pair))

pub returns-in-Err-put_closing-clause-prints : goal.returns-in-Err-put_closing-clause-prints
returns-in-Err-put_closing-clause-prints g t c = λ ts ys e n.
    let half = c.loop-k.invariant.half ts ys e n in
    let h = next_here g.W.Sink.seen c.args.out.now c.loop-k.out (symbol_text (g.N.Notation.label_text c.args.names.now) (g.N.Notation.leaf_text c.args.names.now c.args.labels.now) c.args.labels.now) c.args.items.now ts ys c.args.at c.loop-k.k c.args.count c.loop-k.next c.index-items-next.result c.index-items-next.is c.loop-k-test.true half in
    close_failed g.W.Sink.seen (symbol_text (g.N.Notation.label_text c.args.names.now) (g.N.Notation.leaf_text c.args.names.now c.args.labels.now) c.args.labels.now) c.args.items.now ts ys c.args.at c.loop-k.k c.args.count c.loop-k.next c.index-items-next.result c.args.out.now c.loop-k.out ℕ ℕ c.put_head.new.out c.put_trees.new.out c.put_closing.new.out c.in-Ok-put_trees.behind c.in-Err-put_closing.field-0 half h c.in-Ok.ensures (c.in-Ok-put_trees.ensures.prints h.kids (preorder h.rest ++ ys) h.behind (rank_is c.rank_of-rank.ensures h.pair)) (closing_as c.rank_of-rank.ensures c.in-Err-put_closing.ensures)

pub loop-k-preserved : goal.loop-k-preserved
loop-k-preserved g t c = record {
  within = (let b = let r = c.requires.trees in
      let half = c.loop-k.invariant.half r.0 r.1 r.2 r.3 in
      let h = next_here g.W.Sink.seen c.args.out.now c.loop-k.out (symbol_text (g.N.Notation.label_text c.args.names.now) (g.N.Notation.leaf_text c.args.names.now c.args.labels.now) c.args.labels.now) c.args.items.now r.0 r.1 c.args.at c.loop-k.k c.args.count c.loop-k.next c.index-items-next.result c.index-items-next.is c.loop-k-test.true half in
      behind_within c.args.items.now c.loop-k.next c.in-Ok-put_trees.behind half.left r.1 _ (next_in g.W.Sink.seen c.args.out.now c.loop-k.out (symbol_text (g.N.Notation.label_text c.args.names.now) (g.N.Notation.leaf_text c.args.names.now c.args.labels.now) c.args.labels.now) c.args.items.now r.0 r.1 c.args.at c.loop-k.k c.args.count c.loop-k.next c.loop-k-test.true half) h (c.in-Ok-put_trees.ensures.next h.kids (preorder h.rest ++ r.1) h.behind (rank_is c.rank_of-rank.ensures h.pair)) in b.0);
  from = (let b = let r = c.requires.trees in
      let half = c.loop-k.invariant.half r.0 r.1 r.2 r.3 in
      let h = next_here g.W.Sink.seen c.args.out.now c.loop-k.out (symbol_text (g.N.Notation.label_text c.args.names.now) (g.N.Notation.leaf_text c.args.names.now c.args.labels.now) c.args.labels.now) c.args.items.now r.0 r.1 c.args.at c.loop-k.k c.args.count c.loop-k.next c.index-items-next.result c.index-items-next.is c.loop-k-test.true half in
      behind_within c.args.items.now c.loop-k.next c.in-Ok-put_trees.behind half.left r.1 _ (next_in g.W.Sink.seen c.args.out.now c.loop-k.out (symbol_text (g.N.Notation.label_text c.args.names.now) (g.N.Notation.leaf_text c.args.names.now c.args.labels.now) c.args.labels.now) c.args.items.now r.0 r.1 c.args.at c.loop-k.k c.args.count c.loop-k.next c.loop-k-test.true half) h (c.in-Ok-put_trees.ensures.next h.kids (preorder h.rest ++ r.1) h.behind (rank_is c.rank_of-rank.ensures h.pair)) in omega (arith, b.1, c.loop-k.invariant.from));
  half = λ ts ys e n.
      let half = c.loop-k.invariant.half ts ys e n in
      let h = next_here g.W.Sink.seen c.args.out.now c.loop-k.out (symbol_text (g.N.Notation.label_text c.args.names.now) (g.N.Notation.leaf_text c.args.names.now c.args.labels.now) c.args.labels.now) c.args.items.now ts ys c.args.at c.loop-k.k c.args.count c.loop-k.next c.index-items-next.result c.index-items-next.is c.loop-k-test.true half in
      one_more g.W.Sink.seen (symbol_text (g.N.Notation.label_text c.args.names.now) (g.N.Notation.leaf_text c.args.names.now c.args.labels.now) c.args.labels.now) c.args.items.now ts ys c.args.at c.loop-k.k c.args.count c.loop-k.next c.index-items-next.result c.args.out.now c.loop-k.out ℕ c.put_head.new.out c.put_trees.new.out c.put_closing.new.out c.in-Ok-put_trees.behind c.in-Ok-put_trees.behind half h (c.in-Ok-put_trees.ensures.next h.kids (preorder h.rest ++ ys) h.behind (rank_is c.rank_of-rank.ensures h.pair)) c.in-Ok.ensures (c.in-Ok-put_trees.ensures.prints h.kids (preorder h.rest ++ ys) h.behind (rank_is c.rank_of-rank.ensures h.pair)) (closing_as c.rank_of-rank.ensures c.in-Ok-put_closing.ensures);
}

pub returns-clause-next : goal.returns-clause-next
returns-clause-next g t c = λ ts ys e n. all_placed g.W.Sink.seen c.args.out.now c.loop-k.out (symbol_text (g.N.Notation.label_text c.args.names.now) (g.N.Notation.leaf_text c.args.names.now c.args.labels.now) c.args.labels.now) c.args.items.now ts ys c.args.at c.loop-k.k c.args.count c.loop-k.next c.loop-k-test.false (c.loop-k.invariant.half ts ys e n)

pub returns-clause-prints : goal.returns-clause-prints
returns-clause-prints g t c = λ ts ys e n. all_printed ℕ g.W.Sink.seen c.args.out.now c.loop-k.out (symbol_text (g.N.Notation.label_text c.args.names.now) (g.N.Notation.leaf_text c.args.names.now c.args.labels.now) c.args.labels.now) c.args.items.now ts ys c.args.at c.loop-k.k c.args.count c.loop-k.next c.loop-k.next c.loop-k-test.false (c.loop-k.invariant.half ts ys e n)
