use Rattle.std.proofs.Common.{◌≡◌, ◌∷◌, [], ℕ, refl, sym, ◌∙◌, subst, IfSome, Option, Some, None}
use Rattle.tib_grammar.specs.Items.{pairs_of}
use Rattle.tib_grammar.specs.declared.Item.TheVariants.{Label}
use Rattle.tib_compose.specs.Counting.{PieceAdds}
use Rattle.tib_compose.specs.PieceViews.{piece_of}
use Rattle.tib_compose.specs.Plenties.{AddsPlenty, plenty_of}
use Rattle.tib_compose.specs.declared.pending.Piece.{Piece}
use Rattle.tib_compose.specs.declared.pending.Piece.TheVariants.{Read}
use Rattle.tib_compose.specs.declared.plenty.Plenty.{Plenty}
use Rattle.tib_compose.specs.declared.source.Source.{Source}
use Rattle.tib_compose.proofs.Plenties.{pair_adds, put_adds}
use Rattle.tib_compose.proofs.counting.piece_plenty.Goals as goal

-- what the table has
of_table : (product : ℕ → ℕ → ℕ) (source : Source) (piece : Piece) (i p : ℕ) (v : Option Plenty) → piece ≡ Read i p → v ≡ plenty_of source.plenties i p → IfSome v (PieceAdds product source piece)
of_table product source piece i p None is e = tt
of_table product source piece i p (Some v) is e =
    λ two ready known. subst (λ x. AddsPlenty product two (piece_of (pairs_of source.items.now) x ∷ []) v) (sym is) (known.plenties i p v (sym e))

pub returns-in-Put : goal.returns-in-Put
returns-in-Put g c = λ two ready known.
    subst (λ x. AddsPlenty g.S.Semiring.product two (piece_of (pairs_of c.args.source.now.items.now) x ∷ []) (record { count = 1; items = 1; worst = c.one.result })) (sym c.in-Put.is)
    (put_adds g.met.S.Semiring.laws two ready c.in-Put.label c.in-Put.rank (record { count = 1; items = 1; worst = c.one.result }) refl refl c.one.ensures)

pub returns-in-Some-Hole : goal.returns-in-Some-Hole
returns-in-Some-Hole g c = λ two ready known.
    let look = c.in-Some-Hole.ensures.lookup in
    subst (λ x. AddsPlenty g.S.Semiring.product two (piece_of (pairs_of c.args.source.now.items.now) x ∷ []) (record { count = 1; items = 1; worst = c.one.result })) (sym c.in-Read.is)
    (pair_adds g.met.S.Semiring.laws two ready c.args.source.now.items.now c.in-Read.node c.in-Read.state c.in-Some-Hole.field-0-0 (Label 0 0) look.3.0 (sym c.in-Some-Hole.field-0-is ∙ look.3.1 (Label 0 0))
    (record { count = 1; items = 1; worst = c.one.result }) refl refl c.one.ensures)

pub returns-in_default : goal.returns-in_default
returns-in_default g c = of_table g.S.Semiring.product c.args.source.now c.args.piece.now c.in-Read.node c.in-Read.state c.of.result c.in-Read.is c.of.ensures
