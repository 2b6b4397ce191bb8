use Rattle.std.proofs.Common.{◌≡◌, ◌∷◌, arith, refl, sym, ap, ◌∙◌, subst}
use Rattle.tib_lex.proofs.Members.{each_more}
use Rattle.tib_compose.specs.Pending.{AreNodesBelow, BoundsAll, IsNodeBelow}
use Rattle.tib_compose.specs.declared.pending.PendingPiece.{PendingPiece}
use Rattle.tib_compose.specs.PieceViews.{piece_of}
use Rattle.tib_key_edges.specs.Pieces.{Piece as PieceOf}
use Rattle.tib_compose.proofs.Left.{task_put, piece_bounds}
use Rattle.tib_compose.proofs.pending.Pending.push.Goals as goal

pub returns : goal.returns
returns g c = (
  (_, c.in_ok-push.ensures.items),
  λ two pairs ws b h.
      task_put g.S.Semiring.product two pairs c.args.self.now.tasks.items c.push.new.self.items _ ws c.args.self.now.next c.len-self.result c.in_ok-push.ensures.items
      (omega (arith, c.len-self.ensures, c.push.new.self.ok.0)) refl
      (subst (BoundsAll g.S.Semiring.product two (piece_of pairs c.args.piece ∷ ws)) (sym c.product_of-all.ensures)
      (piece_bounds g.met.S.Semiring.laws two (piece_of pairs c.args.piece) ws c.args.bound c.bound.result b (c.bound.ensures g.S.Semiring.product two pairs ws h)))
      h,
  λ n h low. subst (AreNodesBelow n) (sym c.in_ok-push.ensures.items) (each_more (λ (t : PendingPiece). IsNodeBelow n t.piece) c.args.self.now.tasks.items _ h low),
)
