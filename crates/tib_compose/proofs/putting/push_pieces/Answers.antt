use Rattle.std.proofs.Common.{◌≡◌, ◌<◌, ◌+◌, ◌-◌, ◌++◌, ◌∷◌, [], ℕ, arith, sym, ap, ◌∙◌, subst, length, drop, get_or, append-nil}
use Rattle.std.proofs.lemmas.List.{length-map}
use Rattle.tib_grammar.specs.Items.{pairs_of, pair_of}
use Rattle.tib_grammar.specs.declared.Item.TheVariants.{Label}
use Rattle.tib_key_edges.specs.Pieces.{pieces_of}
use Rattle.tib_compose.specs.Ends.{AreEnds}
use Rattle.tib_compose.specs.Pending.{Holds, IsNodeBelow}
use Rattle.tib_compose.specs.PieceViews.{kids_there, piece_of, piece_below}
use Rattle.tib_compose.proofs.Taking.{one_piece, no_pieces}
use Rattle.tib_compose.proofs.Left.{extends_both}
use Rattle.tib_compose.proofs.Walking.{kids_are}
use Rattle.tib_compose.proofs.putting.push_pieces.Goals as goal

pub loop-i-init : goal.loop-i-init
loop-i-init g c = record {
  within = omega arith;
  tasks = ([], sym (append-nil c.args.pending.now.tasks.items));
  pieces = λ two source rank known ws h.
      let pairs = pairs_of c.args.source.now.items.now in
      subst (λ xs. Holds g.S.Semiring.product two pairs c.args.pending.now (pieces_of xs (kids_there pairs c.args.node rank) ++ ws)) (sym (no_pieces c.args.right.now)) h;
  nodes = λ two source f rank at known h. h;
}

pub loop-i-preserved : goal.loop-i-preserved
loop-i-preserved g c =
    let i : ℕ = c.loop-i.i - 1 in
    let next : c.loop-i.i ≡ i + 1 = omega (arith, c.loop-i-test.true) in
    let low : i < length c.args.right.now = omega (arith, c.loop-i-test.true, c.loop-i.invariant.within) in
    let pairs = pairs_of c.args.source.now.items.now in
    record {
      within = omega (arith, c.loop-i.invariant.within);
      tasks = extends_both c.args.pending.now.tasks.items c.loop-i.pending.tasks.items c.push.new.self.tasks.items c.loop-i.invariant.tasks c.in_ok-push.ensures.0;
      pieces = λ two source rank known ws h.
          let before = subst (λ k. Holds g.S.Semiring.product two pairs c.loop-i.pending (pieces_of (drop k (pairs_of c.args.right.now)) (kids_there pairs c.args.node rank) ++ ws)) next
          (c.loop-i.invariant.pieces two source rank known ws h)
          in
          let many : length pairs ≡ length c.args.source.now.items.now = length-map c.args.source.now.items.now pair_of in
          let long : length pairs ≡ length c.deref.result.now = omega (arith, many, c.args.source.now.long, ap length c.deref.ensures.value) in
          let is : piece_of pairs c.piece_for-piece.result ≡ piece_below pairs c.args.node (get_or c.args.right.now i (Label 0 0)) =
          c.piece_for-piece.ensures.piece pairs long (subst (λ ends. AreEnds pairs ends 0) (sym c.deref.ensures.value) source.ends)
          in
          let pushed = c.in_ok-push.ensures.1 two pairs _ (c.of_piece-bound.ensures g.S.Semiring.product two pairs source.bounds) before in
          subst (λ xs. Holds g.S.Semiring.product two pairs c.push.new.self (xs ++ ws)) (one_piece pairs c.args.right.now c.args.node rank i low known)
          (subst (λ x. Holds g.S.Semiring.product two pairs c.push.new.self (x ∷ (pieces_of (drop (i + 1) (pairs_of c.args.right.now)) (kids_there pairs c.args.node rank) ++ ws))) is pushed);
      nodes = λ two source f rank at known h.
          let n : ℕ = length c.args.source.now.items.now in
          let many : length pairs ≡ n = length-map c.args.source.now.items.now pair_of in
          let long : length pairs ≡ length c.deref.result.now = omega (arith, many, c.args.source.now.long, ap length c.deref.ensures.value) in
          let inside : c.args.node < n = omega (arith, c.requires.node, c.args.source.now.long) in
          let below : IsNodeBelow (length pairs) c.piece_for-piece.result =
          c.piece_for-piece.ensures.node pairs long (subst (λ ends. AreEnds pairs ends 0) (sym c.deref.ensures.value) source.ends) rank (known i low) (kids_are c.args.source.now.items.now c.args.node f rank source.children inside at)
          in
          c.in_ok-push.ensures.2 n (c.loop-i.invariant.nodes two source f rank at known h) (subst (λ k. IsNodeBelow k c.piece_for-piece.result) many below);
    }

pub returns : goal.returns
returns g c =
    let done : c.loop-i.i ≡ 0 = omega (arith, c.loop-i-test.false) in
    let pairs = pairs_of c.args.source.now.items.now in
    record {
      pieces = record {
        tasks = c.loop-i.invariant.tasks;
        pieces = λ two source rank known ws h.
            subst (λ k. Holds g.S.Semiring.product two pairs c.loop-i.pending (pieces_of (drop k (pairs_of c.args.right.now)) (kids_there pairs c.args.node rank) ++ ws)) done
            (c.loop-i.invariant.pieces two source rank known ws h);
        nodes = c.loop-i.invariant.nodes;
      };
    }
