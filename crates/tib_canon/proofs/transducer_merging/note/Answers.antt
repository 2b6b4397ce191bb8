use Rattle.std.proofs.Common.{refl}
use Rattle.tib_grammar.proofs.RightSides.{was_new, was_held}
use Rattle.tib_canon.proofs.Noting.{noted_new, noted_before}
use Rattle.tib_canon.specs.TransducerMerging.{no_sides}
use Rattle.tib_canon.proofs.TransducerNoting.{sides_same, sides_themselves, items_tell, variables_tell, pairs_tell}
use Rattle.tib_canon.proofs.transducer_merging.note.Goals as goal

pub returns-then-is_new : goal.returns-then-is_new
returns-then-is_new c =
    noted_new no_sides (λ k. (k.0, k.1.now, k.2.now)) _ (c.args.state, c.args.left, c.args.right)
    (λ k. sides_themselves _ _ (items_tell _ _ (record { labels = λ f r g s. refl; label_hole = λ f r q. refl; hole_label = λ p g s. refl; holes = λ p q. refl }) (variables_tell _ _ (record { neither = refl; first = λ f. refl; second = λ g. refl; both = λ f g. refl }) (λ x y. refl)))
    (items_tell _ _ (record { labels = λ f r g s. refl; label_hole = λ f r q. refl; hole_label = λ p g s. refl; holes = λ p q. refl }) (pairs_tell _ (λ x y. refl))) (c.args.state, c.args.left.now, c.args.right.now) (k.0, k.1.now, k.2.now))
    c.args.sides.now.keys c.insert_full.new.self.keys (was_new _ _ c.in_ok-place.ensures.added c.if-is_new.true) c.in_ok-place.ensures.keys

pub returns-else-is_new : goal.returns-else-is_new
returns-else-is_new c =
    noted_before no_sides (λ k. (k.0, k.1.now, k.2.now)) _ (c.args.state, c.args.left, c.args.right)
    (λ k. sides_same _ _ (items_tell _ _ (record { labels = λ f r g s. refl; label_hole = λ f r q. refl; hole_label = λ p g s. refl; holes = λ p q. refl }) (variables_tell _ _ (record { neither = refl; first = λ f. refl; second = λ g. refl; both = λ f g. refl }) (λ x y. refl)))
    (items_tell _ _ (record { labels = λ f r g s. refl; label_hole = λ f r q. refl; hole_label = λ p g s. refl; holes = λ p q. refl }) (pairs_tell _ (λ x y. refl))) (c.args.state, c.args.left.now, c.args.right.now) (k.0, k.1.now, k.2.now))
    c.args.sides.now.keys c.insert_full.new.self.keys c.in_ok-place.place (was_held _ _ c.in_ok-place.ensures.added c.if-is_new.false) c.in_ok-place.ensures.index c.in_ok-place.ensures.keys
