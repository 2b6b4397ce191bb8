use Rattle.std.proofs.Common.{arith, ◌≡◌, List, [], get_or, take, ap, sym, ◌∙◌, subst}
use Rattle.tib_lex.specs.Lists.{Has}
use Rattle.tib_weigh.specs.declared.vector.Entry.{Entry}
use Rattle.tib_weigh.specs.Found.{cost_of}
use Rattle.tib_weigh.specs.Picks.{picks}
use Rattle.tib_weigh.specs.Tables.{bucket}
use Rattle.tib_weigh.specs.Vectors.{vectors}
use Rattle.tib_weigh.specs.Worth.{worth, HasTriedAll}
use Rattle.tib_weigh.proofs.Picks.{all_picked, picked_has, cost_of_member}
use Rattle.tib_weigh.proofs.Stacks.{vector_at, ascending_at, length-vectors}
use Rattle.tib_weigh.proofs.Zipped.{ok_then}
use Rattle.tib_weigh.proofs.trying.try_table.Goals.{After-deref-3}
use Rattle.tib_weigh.proofs.trying.try_table.Given.{Over}
use Rattle.tib_weigh.proofs.trying.try_table.Goals as goal

-- what is tried is picked of the vector at the child place
picked : (g : Over) (c : After-deref-3 g) → take c.in_ok-many.many c.deref-3.result.now ≡ picks c.args.table.now (get_or (vectors c.args.at.stack.now) c.args.at.place [])
picked g c =
    let here = vector_at c.args.at.stack.now c.args.at.place c.index-at-at.result (omega (arith, c.requires.within, c.requires.enough)) in
    ap (λ (l : List Entry). take c.in_ok-many.many l) c.deref-3.ensures.value ∙ c.in_ok-many.ensures.picked ∙ ap (picks c.args.table.now) (c.deref-2.ensures.value ∙ sym here)

pub try_entries-requires-clause-here : goal.try_entries-requires-clause-here
try_entries-requires-clause-here g c e h =
    let here = vector_at c.args.at.stack.now c.args.at.place c.index-at-at.result (omega (arith, c.requires.within, c.requires.enough)) in
    cost_of_member (get_or (vectors c.args.at.stack.now) c.args.at.place []) e
    (ascending_at (vectors c.args.at.stack.now) c.args.at.place c.requires.ascend (omega (arith, c.requires.within, c.requires.enough, length-vectors c.args.at.stack.now)))
    (subst (λ (l : List Entry). Has l e) (c.deref.ensures.value ∙ sym here) h)

pub try_entries-requires-2-clause-here : goal.try_entries-requires-2-clause-here
try_entries-requires-2-clause-here g c e h =
    cost_of_member (get_or (vectors c.args.at.stack.now) c.args.at.place []) e
    (ascending_at (vectors c.args.at.stack.now) c.args.at.place c.requires.ascend (omega (arith, c.requires.within, c.requires.enough, length-vectors c.args.at.stack.now)))
    (picked_has c.args.table.now (get_or (vectors c.args.at.stack.now) c.args.at.place []) e (subst (λ (l : List Entry). Has l e) (picked g c) h))

pub returns-clause-tried : goal.returns-clause-tried
returns-clause-tried g c =
    ok_then _ _ c.try_entries-2.result c.try_entries-2.ensures.tried (λ x tried.
    let value = worth g.S.Semiring.product c.args.at.rules.now c.args.at.place (vectors c.args.at.stack.now) in
    all_picked value c.args.table.now (get_or (vectors c.args.at.stack.now) c.args.at.place []) (cost_of c.try_entries-2.new.found)
    (subst (λ (l : List Entry). HasTriedAll value l (bucket c.args.table.now) (cost_of c.try_entries-2.new.found)) (picked g c.before) tried))
