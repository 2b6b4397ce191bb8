use Rattle.std.specs.Prelude.{◌≡◌, ℕ, ◌<◌, length}
use Rattle.std.proofs.Common.{arith, ap, subst, sym, ◌∙◌}
use Rattle.std.proofs.lemmas.List.{length-map}
use Rattle.tib_tree.specs.Trees.{size}
use Rattle.tib_grammar.specs.Run.{rule_at}
use Rattle.tib_ranked_trees.specs.Best.{HasLarge}
use Rattle.tib_ranked_trees.specs.Held.{list_of, told, entries_of, stands_for}
use Rattle.tib_ranked_trees.specs.declared.lists.Candidate.{Candidate}
use Rattle.tib_k_best.specs.Queues.{state_of}
use Rattle.tib_k_best.proofs.Settled.{dropped, is_next, listed_queue}
use Rattle.tib_k_best.proofs.queue.Queue.settle.Goals as goal

pub returns-then-len-gt0-clause-settled : goal.returns-then-len-gt0-clause-settled
returns-then-len-gt0-clause-settled g c =
    let st : c.left-state.result ≡ state_of c.args.lists.now c.args.candidate = c.left-state.ensures ∙ ap (λ (d : Candidate). (rule_at c.args.lists.now.rules d.rule).left) c.candidate.ensures in
    dropped g.S.Semiring.product c.args.lists.now c.args.candidate c.args.self.now c.requires.taken
    (subst (λ (q : ℕ). 0 < length (list_of c.args.lists.now q)) st (omega (arith, c.if-len-gt0.true, c.len.ensures)))

pub returns-then-candidate-gt-MOST_NODES-clause-cause : goal.returns-then-candidate-gt-MOST_NODES-clause-cause
returns-then-candidate-gt-MOST_NODES-clause-cause g c =
    let m : ℕ = c.args.candidate in
    let st : c.left-state.result ≡ state_of c.args.lists.now m = c.left-state.ensures ∙ ap (λ (d : Candidate). (rule_at c.args.lists.now.rules d.rule).left) c.candidate.ensures in
    let t = c.requires.taken in
    let k = t.settled.queue in
    let i = k.made m (k.below m t.takes.stands) in
    let free : length (list_of c.args.lists.now (state_of c.args.lists.now m)) ≡ 0 = subst (λ (q : ℕ). length (list_of c.args.lists.now q) ≡ 0) st (omega (arith, c.if-len-gt0.false, c.len.ensures)) in
    let sizes : c.candidate-2.result.now.size ≡ size (stands_for c.args.lists.now m).0 = ap (λ (d : Candidate). d.size) c.candidate-2.ensures ∙ i.is.size in
    subst (λ (q : ℕ). HasLarge g.S.Semiring.product c.args.lists.now.labels c.args.lists.now.rules 1 q) (sym st)
    (record {
      front = entries_of c.args.lists.now (state_of c.args.lists.now m);
      is_front = k.fronts (state_of c.args.lists.now m);
      few = omega (arith, free, length-map (list_of c.args.lists.now (state_of c.args.lists.now m)) (told c.args.lists.now.trees));
      tree = stands_for c.args.lists.now m;
      next = is_next g.S.Semiring.product c.args.lists.now _ t.settled g.met.S.Semiring.laws c.requires.orderly m t.takes.stands t.takes.first free;
      large = omega (arith, sizes, c.if-candidate-gt-MOST_NODES.true);
    })

pub release-requires-clause-queue : goal.release-requires-clause-queue
release-requires-clause-queue g c =
    let m : ℕ = c.args.candidate in
    let st : c.left-state.result ≡ state_of c.args.lists.now m = c.left-state.ensures ∙ ap (λ (d : Candidate). (rule_at c.args.lists.now.rules d.rule).left) c.candidate.ensures in
    let t = c.requires.taken in
    let k = t.settled.queue in
    let i = k.made m (k.below m t.takes.stands) in
    let free : length (list_of c.args.lists.now (state_of c.args.lists.now m)) ≡ 0 = subst (λ (q : ℕ). length (list_of c.args.lists.now q) ≡ 0) st (omega (arith, c.if-len-gt0.false, c.len.ensures)) in
    let sizes : c.candidate-2.result.now.size ≡ size (stands_for c.args.lists.now m).0 = ap (λ (d : Candidate). d.size) c.candidate-2.ensures ∙ i.is.size in
    listed_queue g.met.S.Semiring.laws c.args.lists.now c.requires.orderly m c.args.self.now t free (omega (arith, sizes, c.if-candidate-gt-MOST_NODES.false)) c.list.new.lists c.in-Ok.ensures
