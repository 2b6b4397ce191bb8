use Rattle.std.proofs.Common.{false, length, map, get_or, ap, sym, ◌∙◌}
use Rattle.std.specs.Prelude.{nat_eq}
use Rattle.std.specs.List.{list_any}
use Rattle.tib_apply.proofs.ForwardPlanned.{pairs_below, ends_below, variables_below, is_plan}
use Rattle.tib_apply.proofs.forward_plan.Plan.new.Goals as goal

pub ends_among-requires : goal.ends_among-requires
ends_among-requires c =
    pairs_below c.args.restrictions.now c.args.rule.now c.requires c.items-left.result.now c.items-left.ensures.items c.items.result.now c.items.ensures.items c.deref.result.now (c.deref.ensures.value ∙ c.in_ok-numbers.ensures)

pub marks_of-requires : goal.marks_of-requires
marks_of-requires c =
    ends_below c.args.restrictions.now c.args.rule.now c.requires c.items-left.result.now c.items-left.ensures.items c.items.result.now c.items.ensures.items c.deref.result.now (c.deref.ensures.value ∙ c.in_ok-numbers.ensures)
    c.deref-2.result.now c.len.result (c.deref-2.ensures.value ∙ c.in_ok-ends.ensures) (c.len.ensures ∙ sym c.deref.ensures.len)

pub unmarked-requires : goal.unmarked-requires
unmarked-requires c =
    variables_below c.args.restrictions.now c.args.rule.now c.requires c.items-left.result.now c.items-left.ensures.items c.items.result.now c.items.ensures.items c.deref.result.now (c.deref.ensures.value ∙ c.in_ok-numbers.ensures)
    (length c.deref-3.result.now) (ap length c.deref-3.ensures.value ∙ c.in_ok-kept.ensures.long ∙ c.len.ensures ∙ sym c.deref.ensures.len)

pub returns : goal.returns
returns c =
    is_plan c.args.restrictions.now c.args.rule.now c.requires c.items-left.result.now c.items-left.ensures.items c.items.result.now c.items.ensures.items c.deref.result.now (c.deref.ensures.value ∙ c.in_ok-numbers.ensures)
    (record { ends = c.in_ok-ends.ends; kept = c.in_ok-kept.kept; left_out = c.in_ok-left_out.left_out }) c.deref-3.result.now c.len.result c.in_ok-ends.ensures (c.len.ensures ∙ sym c.deref.ensures.len)
    c.deref-3.ensures.value (ap length c.deref-3.ensures.value ∙ c.in_ok-kept.ensures.long)
    (λ i h. ap (λ bs. get_or bs i false) c.deref-3.ensures.value ∙ c.in_ok-kept.ensures.marked i h ∙ ap (λ es. list_any (nat_eq i) (map (λ e. e.variable) es)) c.deref-2.ensures.value)
    c.in_ok-left_out.ensures
