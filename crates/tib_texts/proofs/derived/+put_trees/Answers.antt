use Rattle.std.proofs.Common.{arith, ◌<◌, ◌≡◌, ◌-◌, ◌+◌, length, ℕ, ◌++◌, get_or, take, refl}
use Rattle.std.proofs.lemmas.List.{length-take}
use Rattle.tib_tree.specs.Trees.{preorder}
use Rattle.tib_grammar.specs.Items.{holes_in}
use Rattle.tib_grammar.specs.declared.Item.{Item}
use Rattle.tib_grammar.specs.declared.Item.TheVariants.{Label}
use Rattle.tib_transducer.specs.declared.Pair.{Pair}
use Rattle.tib_transducer_file.specs.Printed.{pair_text, symbol_text}
use Rattle.tib_rulewise.specs.Placed.{placed_items, item_with}
use Rattle.tib_rulewise.specs.Derivations.{read_from}
use Rattle.tib_grammar_file.proofs.PrintingTrees.{half_none, next_in, next_here, all_placed, all_printed, head_failed, kids_failed, close_failed, one_more, rank_is, closing_as, behind_within}
use Rattle.tib_texts.proofs.PlacedAt.{length-placed_items, item_placed, holes_after, holes_few}
use Rattle.tib_texts.proofs.derived.+put_trees.Goals as goal

pub loop-k-init : goal.loop-k-init
loop-k-init g t c = record {
  within = c.requires.place;
  from = omega arith;
  count = c.requires.variable;
  half = λ ts ys e n. half_none g.W.Sink.seen c.args.out.now (symbol_text (pair_text c.args.names.now c.args.labels.now) c.args.labels.now) (placed_items read_from 0 c.args.items.now) ts ys c.args.at c.args.count e n;
}

pub bounds-items-next : goal.bounds-items-next
bounds-items-next g t c =
    let r = c.requires.trees in
    omega (arith, next_in g.W.Sink.seen c.args.out.now c.loop-k.out (symbol_text (pair_text c.args.names.now c.args.labels.now) c.args.labels.now) (placed_items read_from 0 c.args.items.now) r.0 r.1 c.args.at c.loop-k.k c.args.count c.loop-k.next c.loop-k-test.true (c.loop-k.invariant.half r.0 r.1 r.2 r.3), length-placed_items read_from 0 c.args.items.now)

pub put_head-requires : goal.put_head-requires
put_head-requires g t c =
    let r = c.requires.trees in
    let low = next_in g.W.Sink.seen c.args.out.now c.loop-k.out (symbol_text (pair_text c.args.names.now c.args.labels.now) c.args.labels.now) (placed_items read_from 0 c.args.items.now) r.0 r.1 c.args.at c.loop-k.k c.args.count c.loop-k.next c.loop-k-test.true (c.loop-k.invariant.half r.0 r.1 r.2 r.3) in
    let inside : c.loop-k.next < length c.args.items.now = omega (arith, low, length-placed_items read_from 0 c.args.items.now) in
    c.requires.within c.loop-k.next (Label 0 0) inside

pub after_item-below-requires : goal.after_item-below-requires
after_item-below-requires g t c =
    let r = c.requires.trees in
    let low = next_in g.W.Sink.seen c.args.out.now c.loop-k.out (symbol_text (pair_text c.args.names.now c.args.labels.now) c.args.labels.now) (placed_items read_from 0 c.args.items.now) r.0 r.1 c.args.at c.loop-k.k c.args.count c.loop-k.next c.loop-k-test.true (c.loop-k.invariant.half r.0 r.1 r.2 r.3) in
    omega (arith, low, length-placed_items read_from 0 c.args.items.now, c.loop-k.invariant.count, holes_few (take c.loop-k.next c.args.items.now), length-take c.loop-k.next c.args.items.now, c.requires.few)

pub returns-in-Err-clause-prints : goal.returns-in-Err-clause-prints
returns-in-Err-clause-prints g t c = λ ts ys e n.
    let half = c.loop-k.invariant.half ts ys e n in
    let low = next_in g.W.Sink.seen c.args.out.now c.loop-k.out (symbol_text (pair_text c.args.names.now c.args.labels.now) c.args.labels.now) (placed_items read_from 0 c.args.items.now) ts ys c.args.at c.loop-k.k c.args.count c.loop-k.next c.loop-k-test.true half in
    let inside : c.loop-k.next < length c.args.items.now = omega (arith, low, length-placed_items read_from 0 c.args.items.now) in
    let item : Item (Pair ℕ) = item_with (read_from c.loop-k.variable) (get_or c.args.items.now c.loop-k.next (Label 0 0)) in
    let h = next_here g.W.Sink.seen c.args.out.now c.loop-k.out (symbol_text (pair_text c.args.names.now c.args.labels.now) c.args.labels.now) (placed_items read_from 0 c.args.items.now) ts ys c.args.at c.loop-k.k c.args.count c.loop-k.next item (item_placed c.args.items.now c.loop-k.next c.loop-k.variable (get_or c.args.items.now c.loop-k.next (Label 0 0)) item inside c.loop-k.invariant.count refl) c.loop-k-test.true half in
    head_failed g.W.Sink.seen (symbol_text (pair_text c.args.names.now c.args.labels.now) c.args.labels.now) (placed_items read_from 0 c.args.items.now) ts ys c.args.at c.loop-k.k c.args.count c.loop-k.next item c.args.out.now c.loop-k.out (ℕ × ℕ) c.put_head.new.out half h c.in-Err.field-0 c.in-Err.ensures

pub put_trees-requires : goal.put_trees-requires
put_trees-requires g t c κs within =
    let r = c.requires.trees in
    let half = c.loop-k.invariant.half r.0 r.1 r.2 r.3 in
    let low = next_in g.W.Sink.seen c.args.out.now c.loop-k.out (symbol_text (pair_text c.args.names.now c.args.labels.now) c.args.labels.now) (placed_items read_from 0 c.args.items.now) r.0 r.1 c.args.at c.loop-k.k c.args.count c.loop-k.next c.loop-k-test.true half in
    let inside : c.loop-k.next < length c.args.items.now = omega (arith, low, length-placed_items read_from 0 c.args.items.now) in
    let item : Item (Pair ℕ) = item_with (read_from c.loop-k.variable) (get_or c.args.items.now c.loop-k.next (Label 0 0)) in
    let h = next_here g.W.Sink.seen c.args.out.now c.loop-k.out (symbol_text (pair_text c.args.names.now c.args.labels.now) c.args.labels.now) (placed_items read_from 0 c.args.items.now) r.0 r.1 c.args.at c.loop-k.k c.args.count c.loop-k.next item (item_placed c.args.items.now c.loop-k.next c.loop-k.variable (get_or c.args.items.now c.loop-k.next (Label 0 0)) item inside c.loop-k.invariant.count refl) c.loop-k-test.true half in
    let smaller : length c.args.items.now - (c.loop-k.next + 1) < t = omega (arith, inside, c.loop-k.invariant.from, c.decreases) in
    let later : c.after_item-below.result ≡ length (holes_in (take (c.loop-k.next + 1) c.args.items.now)) =
    holes_after c.args.items.now c.loop-k.next c.loop-k.variable c.after_item-below.result (get_or c.args.items.now c.loop-k.next (Label 0 0)) inside c.loop-k.invariant.count refl c.after_item-below.ensures
    in
    (smaller, (within, (omega (arith, inside), (c.requires.few, (later, (c.requires.within, (h.kids, preorder h.rest ++ r.1, h.behind, rank_is (c.rank_of-rank.ensures c.loop-k.variable) h.pair)))))))

pub returns-in-Err-put_trees-clause-prints : goal.returns-in-Err-put_trees-clause-prints
returns-in-Err-put_trees-clause-prints g t c = λ ts ys e n.
    let half = c.loop-k.invariant.half ts ys e n in
    let low = next_in g.W.Sink.seen c.args.out.now c.loop-k.out (symbol_text (pair_text c.args.names.now c.args.labels.now) c.args.labels.now) (placed_items read_from 0 c.args.items.now) ts ys c.args.at c.loop-k.k c.args.count c.loop-k.next c.loop-k-test.true half in
    let inside : c.loop-k.next < length c.args.items.now = omega (arith, low, length-placed_items read_from 0 c.args.items.now) in
    let item : Item (Pair ℕ) = item_with (read_from c.loop-k.variable) (get_or c.args.items.now c.loop-k.next (Label 0 0)) in
    let h = next_here g.W.Sink.seen c.args.out.now c.loop-k.out (symbol_text (pair_text c.args.names.now c.args.labels.now) c.args.labels.now) (placed_items read_from 0 c.args.items.now) ts ys c.args.at c.loop-k.k c.args.count c.loop-k.next item (item_placed c.args.items.now c.loop-k.next c.loop-k.variable (get_or c.args.items.now c.loop-k.next (Label 0 0)) item inside c.loop-k.invariant.count refl) c.loop-k-test.true half in
    kids_failed g.W.Sink.seen (symbol_text (pair_text c.args.names.now c.args.labels.now) c.args.labels.now) (placed_items read_from 0 c.args.items.now) ts ys c.args.at c.loop-k.k c.args.count c.loop-k.next item c.args.out.now c.loop-k.out (ℕ × ℕ) c.put_head.new.out c.put_trees.new.out half h c.in-Err-put_trees.field-0 c.in-Ok.ensures (c.in-Err-put_trees.ensures.prints h.kids (preorder h.rest ++ ys) h.behind (rank_is (c.rank_of-rank.ensures c.loop-k.variable) h.pair))

pub returns-in-Err-put_closing-clause-prints : goal.returns-in-Err-put_closing-clause-prints
returns-in-Err-put_closing-clause-prints g t c = λ ts ys e n.
    let half = c.loop-k.invariant.half ts ys e n in
    let low = next_in g.W.Sink.seen c.args.out.now c.loop-k.out (symbol_text (pair_text c.args.names.now c.args.labels.now) c.args.labels.now) (placed_items read_from 0 c.args.items.now) ts ys c.args.at c.loop-k.k c.args.count c.loop-k.next c.loop-k-test.true half in
    let inside : c.loop-k.next < length c.args.items.now = omega (arith, low, length-placed_items read_from 0 c.args.items.now) in
    let item : Item (Pair ℕ) = item_with (read_from c.loop-k.variable) (get_or c.args.items.now c.loop-k.next (Label 0 0)) in
    let h = next_here g.W.Sink.seen c.args.out.now c.loop-k.out (symbol_text (pair_text c.args.names.now c.args.labels.now) c.args.labels.now) (placed_items read_from 0 c.args.items.now) ts ys c.args.at c.loop-k.k c.args.count c.loop-k.next item (item_placed c.args.items.now c.loop-k.next c.loop-k.variable (get_or c.args.items.now c.loop-k.next (Label 0 0)) item inside c.loop-k.invariant.count refl) c.loop-k-test.true half in
    close_failed g.W.Sink.seen (symbol_text (pair_text c.args.names.now c.args.labels.now) c.args.labels.now) (placed_items read_from 0 c.args.items.now) ts ys c.args.at c.loop-k.k c.args.count c.loop-k.next item c.args.out.now c.loop-k.out (ℕ × ℕ) (ℕ × ℕ) c.put_head.new.out c.put_trees.new.out c.put_closing.new.out _ c.in-Err-put_closing.field-0 half h c.in-Ok.ensures (c.in-Ok-put_trees.ensures.prints h.kids (preorder h.rest ++ ys) h.behind (rank_is (c.rank_of-rank.ensures c.loop-k.variable) h.pair)) (closing_as (c.rank_of-rank.ensures c.loop-k.variable) c.in-Err-put_closing.ensures)

pub loop-k-preserved : goal.loop-k-preserved
loop-k-preserved g t c =
    let r = c.requires.trees in
    let half = c.loop-k.invariant.half r.0 r.1 r.2 r.3 in
    let low = next_in g.W.Sink.seen c.args.out.now c.loop-k.out (symbol_text (pair_text c.args.names.now c.args.labels.now) c.args.labels.now) (placed_items read_from 0 c.args.items.now) r.0 r.1 c.args.at c.loop-k.k c.args.count c.loop-k.next c.loop-k-test.true half in
    let inside : c.loop-k.next < length c.args.items.now = omega (arith, low, length-placed_items read_from 0 c.args.items.now) in
    let item : Item (Pair ℕ) = item_with (read_from c.loop-k.variable) (get_or c.args.items.now c.loop-k.next (Label 0 0)) in
    let h = next_here g.W.Sink.seen c.args.out.now c.loop-k.out (symbol_text (pair_text c.args.names.now c.args.labels.now) c.args.labels.now) (placed_items read_from 0 c.args.items.now) r.0 r.1 c.args.at c.loop-k.k c.args.count c.loop-k.next item (item_placed c.args.items.now c.loop-k.next c.loop-k.variable (get_or c.args.items.now c.loop-k.next (Label 0 0)) item inside c.loop-k.invariant.count refl) c.loop-k-test.true half in
    let b = behind_within (placed_items read_from 0 c.args.items.now) c.loop-k.next c.in-Ok-put_trees.behind half.left r.1 item low h (c.in-Ok-put_trees.ensures.next h.kids (preorder h.rest ++ r.1) h.behind (rank_is (c.rank_of-rank.ensures c.loop-k.variable) h.pair)) in
    record {
      within = omega (arith, b.0, length-placed_items read_from 0 c.args.items.now);
      from = omega (arith, b.1, c.loop-k.invariant.from);
      count = c.in-Ok-put_trees.ensures.later;
      half = λ ts ys e n.
          let half = c.loop-k.invariant.half ts ys e n in
          let low = next_in g.W.Sink.seen c.args.out.now c.loop-k.out (symbol_text (pair_text c.args.names.now c.args.labels.now) c.args.labels.now) (placed_items read_from 0 c.args.items.now) ts ys c.args.at c.loop-k.k c.args.count c.loop-k.next c.loop-k-test.true half in
          let inside : c.loop-k.next < length c.args.items.now = omega (arith, low, length-placed_items read_from 0 c.args.items.now) in
          let item : Item (Pair ℕ) = item_with (read_from c.loop-k.variable) (get_or c.args.items.now c.loop-k.next (Label 0 0)) in
          let h = next_here g.W.Sink.seen c.args.out.now c.loop-k.out (symbol_text (pair_text c.args.names.now c.args.labels.now) c.args.labels.now) (placed_items read_from 0 c.args.items.now) ts ys c.args.at c.loop-k.k c.args.count c.loop-k.next item (item_placed c.args.items.now c.loop-k.next c.loop-k.variable (get_or c.args.items.now c.loop-k.next (Label 0 0)) item inside c.loop-k.invariant.count refl) c.loop-k-test.true half in
          one_more g.W.Sink.seen (symbol_text (pair_text c.args.names.now c.args.labels.now) c.args.labels.now) (placed_items read_from 0 c.args.items.now) ts ys c.args.at c.loop-k.k c.args.count c.loop-k.next item c.args.out.now c.loop-k.out (ℕ × ℕ) c.put_head.new.out c.put_trees.new.out c.put_closing.new.out _ c.in-Ok-put_trees.behind half h (c.in-Ok-put_trees.ensures.next h.kids (preorder h.rest ++ ys) h.behind (rank_is (c.rank_of-rank.ensures c.loop-k.variable) h.pair)) c.in-Ok.ensures (c.in-Ok-put_trees.ensures.prints h.kids (preorder h.rest ++ ys) h.behind (rank_is (c.rank_of-rank.ensures c.loop-k.variable) h.pair)) (closing_as (c.rank_of-rank.ensures c.loop-k.variable) c.in-Ok-put_closing.ensures);
    }

pub returns-clause-next : goal.returns-clause-next
returns-clause-next g t c = λ ts ys e n. all_placed g.W.Sink.seen c.args.out.now c.loop-k.out (symbol_text (pair_text c.args.names.now c.args.labels.now) c.args.labels.now) (placed_items read_from 0 c.args.items.now) ts ys c.args.at c.loop-k.k c.args.count c.loop-k.next c.loop-k-test.false (c.loop-k.invariant.half ts ys e n)

pub returns-clause-prints : goal.returns-clause-prints
returns-clause-prints g t c = λ ts ys e n. all_printed (ℕ × ℕ) g.W.Sink.seen c.args.out.now c.loop-k.out (symbol_text (pair_text c.args.names.now c.args.labels.now) c.args.labels.now) (placed_items read_from 0 c.args.items.now) ts ys c.args.at c.loop-k.k c.args.count c.loop-k.next _ c.loop-k-test.false (c.loop-k.invariant.half ts ys e n)
