use Rattle.std.proofs.Common.{refl, arith, ap, sym, ◌∙◌, length, ◌≡◌}
use Rattle.std.proofs.lemmas.List.{length-map}
use Rattle.tib_k_best.specs.QueueOf.{QueueOf, rules_of}
use Rattle.tib_k_best.proofs.Waited.{pop_some, pop_none}
use Rattle.tib_k_best.proofs.queue.Queue.pop_waiting.Goals as goal

pub returns-clause-some : goal.returns-clause-some
returns-clause-some c =
    let long : length c.self.inside.waiting.items ≡ length c.args.self.now.waiting = sym (length-map c.self.inside.waiting.items rules_of) ∙ ap (λ (x : QueueOf). length x.waiting) c.self.view_is in
    pop_some _ c.args.self.now c.self.view_is c.self.inside.waiting.items refl c.args.state (omega (arith, long, c.requires)) c.index_mut.result.now c.pop.new.self c.index_mut.result.now
    c.index_mut.ensures.value c.pop.result c.pop.ensures.items

pub returns-clause-same : goal.returns-clause-same
returns-clause-same c =
    let long : length c.self.inside.waiting.items ≡ length c.args.self.now.waiting = sym (length-map c.self.inside.waiting.items rules_of) ∙ ap (λ (x : QueueOf). length x.waiting) c.self.view_is in
    pop_none _ c.args.self.now c.self.view_is c.self.inside.waiting.items refl c.args.state (omega (arith, long, c.requires)) c.index_mut.result.now c.pop.new.self c.index_mut.result.now
    c.index_mut.ensures.value c.pop.result c.pop.ensures.items
