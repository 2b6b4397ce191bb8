use Rattle.std.proofs.Common.{◌≡◌, map, ap, ◌∙◌, subst, arith, get_or}
use Rattle.std.proofs.lemmas.List.{get_or_read}
use Rattle.tib_tree.specs.Trees.{preorder_of}
use Rattle.tib_transducer.specs.Rules.{transducer_rule, no_rule}
use Rattle.tib_canon.specs.TransducerMerging.{IsNoted, IsCheaper, AreSidesOf}
use Rattle.tib_canon.proofs.TransducerChoosing.{step_new, step_before, all_chosen}
use Rattle.tib_canon.proofs.transducer_merging.cheapest.Goals as goal
use Rattle.tib_canon.proofs.transducer_merging.cheapest.Goals.{in-None+in_ok-push-in-None, in-Some}

pub index-requires : goal.index-requires
index-requires c =
    let noted = subst (λ o. IsNoted (map (λ k. (k.0, k.1.now, k.2.now)) c.loop-n.sides.keys) (c.index-rules-n.result.state, c.items.result.now, c.items-in-loop-n.result.now) o (map (λ k. (k.0, k.1.now, k.2.now)) c.note.new.sides.keys)) c.in-Some.is c.in_ok-note.ensures in
    omega (arith, noted.0, c.loop-n.invariant.long, c.loop-n.best.ok)

pub loop-n-preserved : goal.loop-n-preserved
loop-n-preserved c =
    let here : c.index-rules-n.result ≡ transducer_rule c.args.rules.now c.loop-n.n = get_or_read c.args.rules.now c.loop-n.n c.index-rules-n.result (omega arith) c.index-rules-n.is no_rule in
    let own : AreSidesOf (c.index-rules-n.result.state, c.items.result.now, c.items-in-loop-n.result.now) (transducer_rule c.args.rules.now c.loop-n.n) = (ap (λ r. r.state) here, c.items.ensures.items ∙ ap (λ r. preorder_of r.left) here, c.items-in-loop-n.ensures.items ∙ ap (λ r. preorder_of r.right) here) in
    let step = step_before c.args.rules.now c.loop-n.n (map (λ k. (k.0, k.1.now, k.2.now)) c.loop-n.sides.keys) (map (λ k. (k.0, k.1.now, k.2.now)) c.note.new.sides.keys) c.loop-n.best.items c.match-branch-4.best.items (c.index-rules-n.result.state, c.items.result.now, c.items-in-loop-n.result.now) c.in_ok-note.field-0 in
    elim c.match-branch-4.branch [
      | in-None+in_ok-push-in-None w ↦
          step_new c.args.rules.now c.loop-n.n (map (λ k. (k.0, k.1.now, k.2.now)) c.loop-n.sides.keys) (map (λ k. (k.0, k.1.now, k.2.now)) c.note.new.sides.keys) c.loop-n.best.items c.match-branch-4.best.items
          (c.index-rules-n.result.state, c.items.result.now, c.items-in-loop-n.result.now) c.in_ok-note.field-0 c.loop-n.invariant own c.in_ok-note.ensures w.in-None.is (ap (λ v. v.items) w.best-is ∙ w.in_ok-push-in-None.ensures.items)
      | in-Some w ↦
          let noted = subst (λ o. IsNoted (map (λ k. (k.0, k.1.now, k.2.now)) c.loop-n.sides.keys) (c.index-rules-n.result.state, c.items.result.now, c.items-in-loop-n.result.now) o (map (λ k. (k.0, k.1.now, k.2.now)) c.note.new.sides.keys)) w.in-Some.is c.in_ok-note.ensures in
          let old : w.index.result.now ≡ get_or c.loop-n.best.items w.in-Some.place 0 = get_or_read c.loop-n.best.items w.in-Some.place w.index.result.now (omega (arith, noted.0, c.loop-n.invariant.long)) w.index.ensures 0 in
          step w.in-Some.place w.cheaper.result c.loop-n.invariant own c.in_ok-note.ensures w.in-Some.is (subst (λ p. IsCheaper c.args.rules.now p c.loop-n.n w.cheaper.result) old w.cheaper.ensures) (ap (λ v. v.items) w.best-is)
    ]

pub returns : goal.returns
returns c = all_chosen c.args.rules.now c.loop-n.n _ c.loop-n.best.items (omega arith) c.loop-n.invariant
