use Rattle.std.proofs.Common.{refl, arith, ap, sym, ◌∙◌, length, ◌≡◌}
use Rattle.std.proofs.lemmas.List.{length-map}
use Rattle.tib_k_best.specs.QueueOf.{QueueOf, rules_of}
use Rattle.tib_k_best.proofs.Waited.{wait_put}
use Rattle.tib_k_best.proofs.queue.Queue.wait.Goals as goal

pub returns : goal.returns
returns c =
    let long : length c.self.inside.waiting.items ≡ length c.args.self.now.waiting = sym (length-map c.self.inside.waiting.items rules_of) ∙ ap (λ (x : QueueOf). length x.waiting) c.self.view_is in
    wait_put _ c.args.self.now c.self.view_is c.self.inside.waiting.items refl c.args.state (omega (arith, long, c.requires)) c.index_mut.result.now c.push.new.self c.index_mut.result.now
    c.args.waiting c.index_mut.ensures.value c.in_ok-push.ensures.items
