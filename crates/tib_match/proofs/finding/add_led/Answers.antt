use Rattle.std.proofs.Common.{rules, ◌≡◌, ◌++◌, List, length, reverse, take, ap, sym, ◌∙◌, append-nil, arith, ◌<◌, ◌-◌, ◌∷◌, subst, get_or}
use Rattle.std.proofs.lemmas.List.{get_or_read}
use Rattle.std.proofs.lemmas.Result.{IfOk-weaker}
use Rattle.tib_match.specs.PartialMatches.{Partial}
use Rattle.tib_match.specs.Leading.{partial_of, partials_of}
use Rattle.tib_match.proofs.NarrowedLists.{nothing_led, none_waits, waits_last}
use Rattle.tib_match.proofs.finding.add_led.Goals as goal

pub returns-then-count-eq0 : goal.returns-then-count-eq0
returns-then-count-eq0 g c =
    let empty : length c.args.partial.now.waiting.items ≡ 0 = search rules in
    sym (ap (λ (ps : List Partial). partials_of c.args.found.now.items ++ ps) (nothing_led g.S.Semiring.product c.args.rules.now (partial_of c.args.partial.now) c.args.positions.now (none_waits c.args.partial.now.waiting.items empty))
    ∙ append-nil (partials_of c.args.found.now.items))

pub returns : goal.returns
returns g c =
    let some : 0 < length c.args.partial.now.waiting.items = search rules in
    let many : c.len-count.result ≡ length c.args.partial.now.waiting.items = search rules in
    let state : c.index.result.now ≡ get_or c.args.partial.now.waiting.items (length c.args.partial.now.waiting.items - 1) 0 =
    subst (λ n. c.index.result.now ≡ get_or c.args.partial.now.waiting.items (n - 1) 0) many
    (get_or_read c.args.partial.now.waiting.items (c.len-count.result - 1) c.index.result.now (omega arith) c.index.ensures 0)
    in
    IfOk-weaker c.add_all_placed.result _ _
    (λ _ e. e ∙ ap (λ (ps : List Partial). partials_of c.args.found.now.items ++ ps)
    (c.narrow-own.ensures.whole g.S.Semiring.product (partial_of c.args.partial.now) (reverse (take (length c.args.partial.now.waiting.items - 1) c.args.partial.now.waiting.items))
    (waits_last c.args.partial.now.waiting.items some ∙ ap (λ q. q ∷ reverse (take (length c.args.partial.now.waiting.items - 1) c.args.partial.now.waiting.items)) (sym state))))
    c.add_all_placed.ensures
