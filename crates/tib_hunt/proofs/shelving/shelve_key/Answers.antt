use Rattle.std.proofs.Common.{◌∙◌, refl, sym, arith}
use Rattle.tib_expand.specs.Keys.{key_parts}
use Rattle.tib_hunt.proofs.OnShelves.{key_grew, key_stayed}
use Rattle.tib_hunt.proofs.shelving.shelve_key.Goals as goal

pub returns-then-size-limit-clause-more : goal.returns-then-size-limit-clause-more
returns-then-size-limit-clause-more g c =
    let t = key_grew g.P.Key.PartialEq.eq g.met.P.Key.TableKey.same g.met.P.Key.Eq.laws.refl g.P.Key.TableKey.shelf_of (λ x. g.met.P.Key.TableKey.low x) (key_parts g.P.Key.TableKey.entries_of) c.args.round.now.core c.number_on_shelf.new.round.core c.args.key c.requires.sixteen c.in-Ok.ensures.core c.in-Ok.number c.in-Ok.ensures.named.0 c.in-Ok.ensures.named.1 c.shelf-shelf.result c.held-held.result c.shelf-shelf.ensures.named c.held-held.ensures c.if-number-held.true in
    let s = c.entries-size.ensures in
    let m = c.if-size-limit.true in
    let w = c.requires.within in
    let q = c.requires.counted in
    (refl, omega arith)

pub returns-else-size-limit-clause-counted : goal.returns-else-size-limit-clause-counted
returns-else-size-limit-clause-counted g c =
    let t = key_grew g.P.Key.PartialEq.eq g.met.P.Key.TableKey.same g.met.P.Key.Eq.laws.refl g.P.Key.TableKey.shelf_of (λ x. g.met.P.Key.TableKey.low x) (key_parts g.P.Key.TableKey.entries_of) c.args.round.now.core c.number_on_shelf.new.round.core c.args.key c.requires.sixteen c.in-Ok.ensures.core c.in-Ok.number c.in-Ok.ensures.named.0 c.in-Ok.ensures.named.1 c.shelf-shelf.result c.held-held.result c.shelf-shelf.ensures.named c.held-held.ensures c.if-number-held.true in
    let s = c.entries-size.ensures in
    let q = c.requires.counted in
    omega arith

pub returns-else-number-held-clause-counted : goal.returns-else-number-held-clause-counted
returns-else-number-held-clause-counted g c =
    c.requires.counted ∙ sym (key_stayed g.P.Key.PartialEq.eq g.met.P.Key.TableKey.same g.met.P.Key.Eq.laws.refl g.P.Key.TableKey.shelf_of (λ x. g.met.P.Key.TableKey.low x) (key_parts g.P.Key.TableKey.entries_of) c.args.round.now.core c.number_on_shelf.new.round.core c.args.key c.requires.sixteen c.in-Ok.ensures.core c.in-Ok.number c.in-Ok.ensures.named.0 c.in-Ok.ensures.named.1 c.shelf-shelf.result c.held-held.result c.shelf-shelf.ensures.named c.held-held.ensures c.if-number-held.false)
