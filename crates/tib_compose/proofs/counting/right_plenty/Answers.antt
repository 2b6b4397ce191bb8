use Rattle.std.proofs.Common.{◌≡◌, ◌<◌, ◌+◌, ◌-◌, ◌∷◌, ℕ, arith, refl, sym, ap, subst, length, drop, get_or}
use Rattle.std.proofs.lemmas.List.{length-map}
use Rattle.tib_grammar.specs.Items.{pairs_of, pair_of}
use Rattle.tib_grammar.specs.declared.Item.TheVariants.{Label}
use Rattle.tib_key_edges.specs.Pieces.{pieces_of}
use Rattle.tib_compose.specs.Ends.{AreEnds}
use Rattle.tib_compose.specs.PieceViews.{kids_there, piece_of, piece_below}
use Rattle.tib_compose.specs.Plenties.{AddsPlenty}
use Rattle.tib_compose.proofs.Plenties.{none_adds, piece_adds}
use Rattle.tib_compose.proofs.Taking.{one_piece, no_pieces}
use Rattle.tib_compose.proofs.counting.right_plenty.Goals as goal

pub loop-i-init : goal.loop-i-init
loop-i-init g c = record {
  within = omega arith;
  adds = λ two ready known rank ks.
      subst (λ xs. AddsPlenty g.S.Semiring.product two (pieces_of xs (kids_there (pairs_of c.args.source.now.items.now) c.args.node rank)) (record { count = 1; items = 0; worst = c.one.result })) (sym (no_pieces c.args.right.now))
      (none_adds g.met.S.Semiring.laws two (record { count = 1; items = 0; worst = c.one.result }) refl refl c.one.ensures);
}

pub loop-i-preserved : goal.loop-i-preserved
loop-i-preserved g c =
    let i : ℕ = c.loop-i.i - 1 in
    let next : c.loop-i.i ≡ i + 1 = omega (arith, c.loop-i-test.true) in
    let low : i < length c.args.right.now = omega (arith, c.loop-i-test.true, c.loop-i.invariant.within) in
    let pairs = pairs_of c.args.source.now.items.now in
    record {
      within = omega (arith, c.loop-i.invariant.within);
      adds = λ two ready known rank ks.
          let kids = kids_there pairs c.args.node rank in
          let before = subst (λ k. AddsPlenty g.S.Semiring.product two (pieces_of (drop k (pairs_of c.args.right.now)) kids) c.loop-i.total) next (c.loop-i.invariant.adds two ready known rank ks) in
          let many : length pairs ≡ length c.args.source.now.items.now = length-map c.args.source.now.items.now pair_of in
          let long : length pairs ≡ length c.deref.result.now = omega (arith, many, c.args.source.now.long, ap length c.deref.ensures.value) in
          let is : piece_of pairs c.piece_for-piece.result ≡ piece_below pairs c.args.node (get_or c.args.right.now i (Label 0 0)) =
          c.piece_for-piece.ensures.piece pairs long (subst (λ ends. AreEnds pairs ends 0) (sym c.deref.ensures.value) known.ends)
          in
          let both = piece_adds g.met.S.Semiring.laws two (piece_of pairs c.piece_for-piece.result) (pieces_of (drop (i + 1) (pairs_of c.args.right.now)) kids) c.in-Some.own c.loop-i.total c.in-Some-product_plenty.next
          (c.in-Some.ensures two ready known) before c.in-Some-product_plenty.ensures
          in
          subst (λ xs. AddsPlenty g.S.Semiring.product two xs c.in-Some-product_plenty.next) (one_piece pairs c.args.right.now c.args.node rank i low ks)
          (subst (λ x. AddsPlenty g.S.Semiring.product two (x ∷ pieces_of (drop (i + 1) (pairs_of c.args.right.now)) kids) c.in-Some-product_plenty.next) is both);
    }

pub returns : goal.returns
returns g c =
    let done : c.loop-i.i ≡ 0 = omega (arith, c.loop-i-test.false) in
    λ two ready known rank ks.
    subst (λ k. AddsPlenty g.S.Semiring.product two (pieces_of (drop k (pairs_of c.args.right.now)) (kids_there (pairs_of c.args.source.now.items.now) c.args.node rank)) c.loop-i.total) done
    (c.loop-i.invariant.adds two ready known rank ks)
