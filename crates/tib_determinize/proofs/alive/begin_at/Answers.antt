use Rattle.std.proofs.Common.{◌≡◌, ◌+◌, ◌++◌, ◌∷◌, ℕ, List, [], take, arith, ap, sym, ◌∙◌, get_or, subst, refl}
use Rattle.std.proofs.lemmas.List.{take_all}
use Rattle.std.specs.Global.{Vec}
use Rattle.tib_determinize.specs.declared.alive.Alive.{Alive}
use Rattle.tib_determinize.specs.declared.occurrences.Occurrence.{Occurrence}
use Rattle.tib_determinize.specs.Occurrences.{BeginAll, fresh}
use Rattle.tib_determinize.proofs.Occurring.{next_begun, begin_own, begin_other, read_any}
use Rattle.tib_determinize.proofs.alive.begin_at.Goals.{then-is_begun+in_ok-push, else-is_begun}
use Rattle.tib_determinize.proofs.alive.begin_at.Goals as goal

pub loop-one-preserved : goal.loop-one-preserved
loop-one-preserved g c =
    let places = c.args.places.now in
    let i = c.loop-one.one-index in
    let old = c.loop-one.alive.items in
    let none : Occurrence = record { bucket = 0; place = 0; rule = 0 } in
    let one = get_or places i none in
    let is : one ≡ get_or places i one = read_any places i one none one c.loop-one-test.true refl in
    elim c.if-is_begun.branch [
      | then-is_begun+in_ok-push w ↦
          let items : c.if-is_begun.alive.items ≡ old ++ fresh one.rule ∷ [] =
          ap (λ (v : Vec Alive). v.items) w.alive-is ∙ w.in_ok-push.ensures.items ∙ ap (λ (x : ℕ). old ++ record { rule = one.rule; weight = x } ∷ []) w.one.ensures
          in
          record {
            sound = next_begun c.args.walk.now.rules.now c.args.walk.now.label c.args.walk.now.rank old c.if-is_begun.alive.items (fresh one.rule) items (w.if-is_begun.ensures.sound refl) c.loop-one.invariant.sound;
            whole = begin_own c.args.walk.now.rules.now c.args.walk.now.order.now c.args.walk.now.position c.args.walk.now.label c.args.walk.now.rank c.args.walk.now.last places i one old c.if-is_begun.alive.items c.loop-one-test.true is items c.loop-one.invariant.whole;
          }
      | else-is_begun w ↦
          let same : old ≡ c.if-is_begun.alive.items = ap (λ (v : Vec Alive). v.items) (sym w.alive-is) in
          record {
            sound = rw w.alive-is c.loop-one.invariant.sound;
            whole = subst (λ (xs : List Alive). BeginAll c.args.walk.now.rules.now c.args.walk.now.order.now c.args.walk.now.position c.args.walk.now.label c.args.walk.now.rank c.args.walk.now.last (take (i + 1) places) xs) same
                (begin_other c.args.walk.now.rules.now c.args.walk.now.order.now c.args.walk.now.position c.args.walk.now.label c.args.walk.now.rank c.args.walk.now.last places i one old c.loop-one-test.true is (λ at begun on. let no_one = w.if-is_begun.ensures.whole at begun on in absurd (cc)) c.loop-one.invariant.whole);
          }
    ]

pub returns-clause-whole : goal.returns-clause-whole
returns-clause-whole g c =
    let done = c.loop-one-test.false in
    let all : take c.loop-one.one-index c.args.places.now ≡ c.args.places.now = take_all c.loop-one.one-index c.args.places.now (omega (arith, done)) in
    subst (λ (xs : List Occurrence). BeginAll c.args.walk.now.rules.now c.args.walk.now.order.now c.args.walk.now.position c.args.walk.now.label c.args.walk.now.rank c.args.walk.now.last xs c.loop-one.alive.items) all c.loop-one.invariant.whole
