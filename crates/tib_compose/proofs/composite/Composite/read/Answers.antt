use Rattle.std.proofs.Common.{◌≡◌, refl, sym, ap, ◌∙◌, subst}
use Rattle.std.proofs.lemmas.List.{get_or_read}
use Rattle.tib_transducer.specs.Rules.{no_rule, transducer_rule}
use Rattle.tib_tree.specs.Trees.{preorder_of}
use Rattle.tib_cost.specs.Semiring.{cut}
use Rattle.tib_compose.specs.declared.branch.Branch.{Branch}
use Rattle.tib_compose.specs.Walk.{IsRead}
use Rattle.tib_compose.proofs.FlatEdges.{there}
use Rattle.tib_compose.proofs.Steps.{read_dear, read_on}
use Rattle.tib_compose.proofs.composite.Composite.read.Goals as goal

pub returns-in_default : goal.returns-in_default
returns-in_default g c =
    let two = c.args.self.now.second.now.rules in
    let r = c.index-rule_list-position.result in
    let at : r ≡ transducer_rule two c.args.position = there two c.rule_list.result.now c.args.position r c.rule_list.ensures c.requires.below (λ low d. get_or_read c.rule_list.result.now c.args.position r low c.index-rule_list-position.is no_rule) in
    record {
      read = read_dear g.met.S.Semiring.laws two c.args.source.now c.args.turn.now c.args.position c.args.branch.now
          (ap (λ r. cut (g.S.Semiring.product c.args.turn.now.cost r.cost)) (sym at) ∙ sym c.times.ensures ∙ c.in_default.is);
    }

pub returns : goal.returns
returns g c =
    let two = c.args.self.now.second.now.rules in
    let r = c.index-rule_list-position.result in
    let at : r ≡ transducer_rule two c.args.position = there two c.rule_list.result.now c.args.position r c.rule_list.ensures c.requires.below (λ low d. get_or_read c.rule_list.result.now c.args.position r low c.index-rule_list-position.is no_rule) in
    let new : Branch = record { cost = c.in-Some.cost; done = c.args.branch.now.done; pending = c.push_pieces.new.pending } in
    record {
      read = subst (λ b. IsRead g.S.Semiring.product two c.args.source.now c.args.turn.now c.args.position c.args.branch.now new b) (sym c.is_some.ensures)
          (read_on g.met.S.Semiring.laws two c.args.source.now c.args.turn.now c.args.position c.args.branch.now new c.items.result.now c.in-Some.cost c.bound.result
          (ap (λ r. cut (g.S.Semiring.product c.args.turn.now.cost r.cost)) (sym at) ∙ sym c.times.ensures ∙ c.in-Some.is)
          refl refl c.in_ok-push_pieces.ensures.pieces (c.items.ensures.items ∙ ap (λ r. preorder_of r.right) at)
          (λ ws h. c.bound.ensures g.S.Semiring.product two _ ws h) _ (sym c.product_of.ensures));
    }
