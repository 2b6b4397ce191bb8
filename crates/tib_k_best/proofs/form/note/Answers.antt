use Rattle.std.proofs.Common.{refl}
use Rattle.tib_grammar.proofs.RightSides.{noted_new, was_new}
use Rattle.tib_k_best.proofs.form.note.Goals as goal

pub returns : goal.returns
returns c = λ t.
    noted_new _ (record { labels = λ f r g s. refl; label_hole = λ f r q. refl; hole_label = λ p g s. refl; holes = λ p q. refl })
    (λ k. k.now) c.args.items c.args.sides.now.keys c.insert_full.new.self.keys (was_new _ _ c.in_ok-is_new.ensures.added t) c.in_ok-is_new.ensures.keys
