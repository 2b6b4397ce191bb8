use Rattle.std.proofs.Common.{◌≡◌, ◌<◌, length, arith}
use Rattle.std.proofs.lemmas.Bool.Decides.{nat_tests}
use Rattle.std.proofs.lemmas.List.{get_or_read}
use Rattle.tib_grammar.specs.Run.{no_rule}
use Rattle.tib_determinize.proofs.Occurring.{is_begun, begun_reads}
use Rattle.tib_determinize.proofs.alive.is_last_place.Goals as goal

pub returns-then-own-label-clause-sound : goal.returns-then-own-label-clause-sound
returns-then-own-label-clause-sound c = λ h.
    let m = c.args.one.now.rule in
    let rules = c.args.walk.now.rules.now in
    let low = c.if-one-rules.false in
    let below : m < length rules = omega (arith, low) in
    let is = get_or_read rules m c.index-rules-one.result below c.index-rules-one.is no_rule in
    let same : c.root-own.result.1 ≡ c.args.walk.now.rank = grind (arith, nat_tests, h) in
    is_begun rules c.requires.normal c.args.walk.now.label c.args.walk.now.rank m c.index-rules-one.result c.root-own.result.0 c.root-own.result.1 below is c.root-own.ensures.label c.root-own.ensures.rank c.if-own-label.true same

pub returns-then-own-label-clause-whole : goal.returns-then-own-label-clause-whole
returns-then-own-label-clause-whole c = λ at begun.
    let m = c.args.one.now.rule in
    let rules = c.args.walk.now.rules.now in
    let is = get_or_read rules m c.index-rules-one.result begun.below c.index-rules-one.is no_rule in
    let same = begun_reads rules c.requires.normal c.args.walk.now.label c.args.walk.now.rank m c.index-rules-one.result c.root-own.result.0 c.root-own.result.1 begun.below is c.root-own.ensures.label c.root-own.ensures.rank begun in
    grind (arith, nat_tests, same.1)

pub returns-else-own-label-clause-whole : goal.returns-else-own-label-clause-whole
returns-else-own-label-clause-whole c = λ at begun.
    let m = c.args.one.now.rule in
    let rules = c.args.walk.now.rules.now in
    let is = get_or_read rules m c.index-rules-one.result begun.below c.index-rules-one.is no_rule in
    let same = begun_reads rules c.requires.normal c.args.walk.now.label c.args.walk.now.rank m c.index-rules-one.result c.root-own.result.0 c.root-own.result.1 begun.below is c.root-own.ensures.label c.root-own.ensures.rank begun in
    absurd (c.if-own-label.false same.0)
