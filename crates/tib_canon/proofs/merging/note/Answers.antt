use Rattle.std.proofs.Common.{refl}
use Rattle.tib_grammar.proofs.RightSides.{was_new, was_held}
use Rattle.tib_canon.specs.Merging.{no_sides}
use Rattle.tib_canon.proofs.Noting.{noted_new, noted_before, sides_same, sides_themselves}
use Rattle.tib_canon.proofs.merging.note.Goals as goal

pub returns-then-is_new : goal.returns-then-is_new
returns-then-is_new c =
    noted_new no_sides (λ k. (k.0, k.1.now)) _ (c.args.left, c.args.items)
    (λ k. sides_themselves _ (record { labels = λ f r g s. refl; label_hole = λ f r q. refl; hole_label = λ p g s. refl; holes = λ p q. refl }) (c.args.left, c.args.items.now) (k.0, k.1.now))
    c.args.sides.now.keys c.insert_full.new.self.keys (was_new _ _ c.in_ok-place.ensures.added c.if-is_new.true) c.in_ok-place.ensures.keys

pub returns-else-is_new : goal.returns-else-is_new
returns-else-is_new c =
    noted_before no_sides (λ k. (k.0, k.1.now)) _ (c.args.left, c.args.items)
    (λ k. sides_same _ (record { labels = λ f r g s. refl; label_hole = λ f r q. refl; hole_label = λ p g s. refl; holes = λ p q. refl }) (c.args.left, c.args.items.now) (k.0, k.1.now))
    c.args.sides.now.keys c.insert_full.new.self.keys c.in_ok-place.place (was_held _ _ c.in_ok-place.ensures.added c.if-is_new.false) c.in_ok-place.ensures.index c.in_ok-place.ensures.keys
