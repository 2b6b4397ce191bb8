use Rattle.std.proofs.Common.{arith, sym, ap, ◌∙◌, subst, get_or, ◌≡◌, ◌+◌, ℕ}
use Rattle.std.proofs.lemmas.List.{get_or_read}
use Rattle.tib_lex.specs.Lists.{Has}
use Rattle.tib_grammar.specs.Run.{no_rule, rule_at}
use Rattle.tib_grammar.specs.Sides.{holes_of}
use Rattle.tib_grammar.specs.declared.Rule.{Rule}
use Rattle.tib_count.specs.Counts.{counted}
use Rattle.tib_inside.specs.Links.{IsNext}
use Rattle.tib_count.specs.Products.{product_over, sum_over, rule_number}
use Rattle.tib_count.specs.Sums.{lefts}
use Rattle.tib_count.proofs.Summing.{sum_first, sum_more}
use Rattle.tib_count.proofs.sums.state_total.Goals as goal
use Rattle.tib_inside.proofs.Following.{lefts_at, lefts_long}

pub loop-n-init : goal.loop-n-init
loop-n-init c =
    let first_at : c.index-n.result.now ≡ get_or c.args.links.now.first.items c.args.state 0 =
    get_or_read c.args.links.now.first.items c.args.state c.index-n.result.now (omega (arith, c.requires.links.states_long, c.requires.state)) c.index-n.ensures 0 in
    let next : IsNext (lefts c.args.rules.now) c.args.state 0 c.index-n.result.now =
    subst (λ p. IsNext (lefts c.args.rules.now) c.args.state 0 p) (sym first_at) (c.requires.links.first c.args.state c.requires.state) in
    let long = lefts_long c.args.rules.now in
    record {
      within = omega (arith, next.within);
      own = λ h. sym (lefts_at c.args.rules.now c.index-n.result.now h) ∙ next.own (omega arith);
      sum = λ number each. sum_first c.args.rules.now (rule_number c.args.rules.now number) c.args.state c.index-n.result.now next;
    }

pub loop-n-smaller : goal.loop-n-smaller
loop-n-smaller c =
    let long = lefts_long c.args.rules.now in
    let next_at : c.index-n-in-loop-n.result.now ≡ get_or c.args.links.now.next.items c.loop-n.n 0 =
    get_or_read c.args.links.now.next.items c.loop-n.n c.index-n-in-loop-n.result.now (omega (arith, c.requires.links.places_long)) c.index-n-in-loop-n.ensures 0 in
    let next = c.requires.links.next c.loop-n.n (omega arith) in
    omega (arith, next.from, next_at, c.loop-n-test.true)

pub loop-n-preserved : goal.loop-n-preserved
loop-n-preserved c =
    let long = lefts_long c.args.rules.now in
    let at = get_or_read c.args.rules.now c.loop-n.n c.index-rules-n.result c.loop-n-test.true c.index-rules-n.is no_rule in
    let here : (rule_at c.args.rules.now c.loop-n.n).left ≡ c.args.state = c.loop-n.invariant.own c.loop-n-test.true in
    let own = lefts_at c.args.rules.now c.loop-n.n c.loop-n-test.true ∙ here in
    let next_at : c.index-n-in-loop-n.result.now ≡ get_or c.args.links.now.next.items c.loop-n.n 0 =
    get_or_read c.args.links.now.next.items c.loop-n.n c.index-n-in-loop-n.result.now (omega (arith, c.requires.links.places_long)) c.index-n-in-loop-n.ensures 0 in
    let next : IsNext (lefts c.args.rules.now) c.args.state (c.loop-n.n + 1) c.index-n-in-loop-n.result.now =
    subst (λ p. IsNext (lefts c.args.rules.now) c.args.state (c.loop-n.n + 1) p) (sym next_at)
    (subst (λ q. IsNext (lefts c.args.rules.now) q (c.loop-n.n + 1) (get_or c.args.links.now.next.items c.loop-n.n 0)) own (c.requires.links.next c.loop-n.n (omega arith)))
    in
    record {
      within = omega (arith, next.within);
      own = λ h. sym (lefts_at c.args.rules.now c.index-n-in-loop-n.result.now h) ∙ next.own (omega arith);
      sum = λ number each.
          c.plus-total.ensures (sum_over c.args.rules.now (rule_number c.args.rules.now number) c.args.state c.loop-n.n) (rule_number c.args.rules.now number c.loop-n.n) (c.loop-n.invariant.sum number each)
          (c.rule_total.ensures number (λ q h. each q (record { rule = c.loop-n.n; early = c.loop-n-test.true; left = here; stands = subst (λ (r : Rule ℕ). Has (holes_of r.right) q) at h }))
          ∙ ap (λ (r : Rule ℕ). counted (product_over number (holes_of r.right))) at)
          ∙ ap counted (sum_more c.args.rules.now (rule_number c.args.rules.now number) c.args.state c.loop-n.n c.index-n-in-loop-n.result.now here next);
    }
