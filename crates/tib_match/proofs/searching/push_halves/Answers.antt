use Rattle.std.proofs.Common.{◌+◌, ◌-◌, ◌/◌, ◌++◌, ◌∷◌, [], ℕ, List, get_or, set, arith, ap, ◌∙◌, append_assoc}
use Rattle.std.proofs.lemmas.List.{map-append}
use Rattle.tib_match.specs.Searching.{boxes_of, no_span}
use Rattle.tib_match.specs.declared.spans.Span.{Span}
use Rattle.tib_match.proofs.searching.push_halves.Goals as goal

pub returns : goal.returns
returns c =
    let r : Span = get_or c.args.spans.now c.args.place no_span in
    let middle : ℕ = r.low + (r.high - r.low) / 2 in
    let old = c.args.waiting.now.items in
    let upper = c.in_ok-upper.upper in
    let lower = c.in_ok-lower.lower in
    let above : List Span = set c.args.spans.now c.args.place (record { low = middle; high = r.high }) in
    record {
      middle = middle;
      above_low = omega (arith, c.requires.wide);
      below_high = omega (arith, c.requires.wide);
      pushed = ap boxes_of (c.in_ok-push-2.ensures.items ∙ ap (λ ws. ws ++ lower ∷ []) c.in_ok-push.ensures.items ∙ append_assoc old (upper ∷ []) (lower ∷ []))
          ∙ map-append (λ b. b.items) old (upper ∷ lower ∷ [])
          ∙ ap (λ x. boxes_of old ++ x ∷ lower.items ∷ []) c.in_ok-upper.ensures
          ∙ ap (λ x. boxes_of old ++ above ∷ x ∷ []) c.in_ok-lower.ensures;
    }
