use Rattle.std.proofs.Common.{◌≡◌, ◌++◌, ◌∷◌, List, [], ap, sym, ◌∙◌}
use Rattle.std.specs.Global.{Vec}
use Rattle.tib_determinize.specs.declared.occurrences.Occurrence.{Occurrence}
use Rattle.std.proofs.lemmas.List.{get_or-map}
use Rattle.tib_determinize.specs.Holders.{held}
use Rattle.tib_determinize.proofs.Holding.{position_added, position_stands}
use Rattle.tib_determinize.proofs.occurrences.add.Goals as goal

pub returns-clause-more : goal.returns-clause-more
returns-clause-more c = λ q p h.
    let lists = c.make_room.new.lists.items in
    let is : c.push.new.self.items ≡ held lists c.args.number ++ c.args.occurrence ∷ [] =
    c.in_ok-push.ensures.items ∙ ap (λ (xs : List Occurrence). xs ++ c.args.occurrence ∷ [])
    (ap (λ (b : Vec Occurrence). b.items) c.index_mut.ensures.value ∙ sym (get_or-map (λ (b : Vec Occurrence). b.items) lists c.args.number c.index_mut.result.now [] c.in_ok-make_room.ensures.room))
    in
    position_added lists c.args.number c.args.occurrence c.push.new.self c.in_ok-make_room.ensures.room is q p (c.in_ok-make_room.ensures.more q p h)

pub returns-clause-own : goal.returns-clause-own
returns-clause-own c =
    let lists = c.make_room.new.lists.items in
    let is : c.push.new.self.items ≡ held lists c.args.number ++ c.args.occurrence ∷ [] =
    c.in_ok-push.ensures.items ∙ ap (λ (xs : List Occurrence). xs ++ c.args.occurrence ∷ [])
    (ap (λ (b : Vec Occurrence). b.items) c.index_mut.ensures.value ∙ sym (get_or-map (λ (b : Vec Occurrence). b.items) lists c.args.number c.index_mut.result.now [] c.in_ok-make_room.ensures.room))
    in
    position_stands lists c.args.number c.args.occurrence c.push.new.self c.in_ok-make_room.ensures.room is
