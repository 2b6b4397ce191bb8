use Rattle.tib_tree.proofs.Keys.{seen_grows, seen_now}
use Rattle.tib_tree.proofs.labels.Labels.intern_short.Goals as goal

pub invariant_of-self-2 : goal.invariant_of-self-2
invariant_of-self-2 c =
    let texts = c.intern.new.self in
    c.note.ensures texts (seen_grows c.self.inside.texts texts c.make_places.new.self c.intern.ensures.grows (c.make_places.ensures c.self.inside.texts c.self.invariant))
    (seen_now texts c.args.text.now c.args.key c.in_ok-label.label c.requires.key c.in_ok-label.ensures.named)
