use Rattle.std.proofs.Common.{refl, ap, arith}
use Rattle.tib_expand.specs.Keys.{key_parts}
use Rattle.tib_table.proofs.Sights.{total_new, total_old, total_least}
use Rattle.tib_table.proofs.numbering.number_key.Goals.{then-added+else-size-limit, else-added}
use Rattle.tib_lex.specs.Lists.{total}
use Rattle.tib_table.proofs.numbering.number_key.Goals as goal

pub returns-then-size-limit-clause-more : goal.returns-then-size-limit-clause-more
returns-then-size-limit-clause-more g c =
    let t = total_new g.K.PartialEq.eq (key_parts g.K.TableKey.entries_of) c.args.keys.now.keys c.args.key c.in-Ok.added c.in-Ok.ensures.added c.if-added.true in
    let s = c.entries-size.ensures in
    let m = c.if-size-limit.true in
    let w = c.requires.within in
    (refl, omega arith)

pub overflow_cast-result : goal.overflow_cast-result
overflow_cast-result g c =
    let least = total_least g.K.TableKey.entries_of c.insert_full.new.self.keys in
    let low = c.in-Ok.ensures.within in
    let k = ap (total (key_parts g.K.TableKey.entries_of)) c.in-Ok.ensures.keys in
    let a = c.requires.counted in
    let b = c.requires.within in
    let l = c.requires.limit in
    elim c.if-added.branch [
      | then-added+else-size-limit w ↦
          let t = total_new g.K.PartialEq.eq (key_parts g.K.TableKey.entries_of) c.args.keys.now.keys c.args.key c.in-Ok.added c.in-Ok.ensures.added w.if-added.true in
          let s = c.entries-size.ensures in
          let m = w.if-size-limit.false in
          omega arith
      | else-added w ↦
          let t = total_old g.K.PartialEq.eq (key_parts g.K.TableKey.entries_of) c.args.keys.now.keys c.args.key c.in-Ok.added c.in-Ok.ensures.added w.if-added.false in
          omega arith
    ]

pub returns-clause-parts : goal.returns-clause-parts
returns-clause-parts g c =
    let k = ap (total (key_parts g.K.TableKey.entries_of)) c.in-Ok.ensures.keys in
    elim c.if-added.branch [
      | then-added+else-size-limit w ↦
          let t = total_new g.K.PartialEq.eq (key_parts g.K.TableKey.entries_of) c.args.keys.now.keys c.args.key c.in-Ok.added c.in-Ok.ensures.added w.if-added.true in
          let s = c.entries-size.ensures in
          let p = w.parts-is in
          omega arith
      | else-added w ↦
          let t = total_old g.K.PartialEq.eq (key_parts g.K.TableKey.entries_of) c.args.keys.now.keys c.args.key c.in-Ok.added c.in-Ok.ensures.added w.if-added.false in
          let p = w.parts-is in
          omega arith
    ]
