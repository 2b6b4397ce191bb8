use Rattle.std.proofs.Common.{List, ℕ, sym, ◌∙◌, get_or, subst}
use Rattle.std.proofs.lemmas.List.{get_or_read}
use Rattle.tib_grammar.specs.Run.{no_rule}
use Rattle.tib_determinize.proofs.Results.{on_ok}
use Rattle.tib_difference.specs.Subsets.{IsSubset}
use Rattle.tib_difference.specs.Difference.{keys_at, subsets_of}
use Rattle.tib_difference.proofs.Adding.{adds_one, overruns_one}
use Rattle.tib_difference.proofs.Edging.{listed_at}
use Rattle.tib_difference.proofs.walk.list_edge.Goals as goal

pub returns-clause-added : goal.returns-clause-added
returns-clause-added c =
    let w = c.args.walk.now in
    let rule = get_or w.first.now w.rule c.index-walk-walk.result in
    let at = sym c.index-walk-walk.is ∙ get_or_read w.first.now w.rule c.index-walk-walk.result c.requires.rule c.index-walk-walk.is no_rule in
    let set = subst (λ (ps : List ℕ). IsSubset w.second.rules.now c.root-label.result.0 (subsets_of (keys_at w.order.now ps)) c.in-Ok.subset.items) c.as_slice.ensures c.in-Ok.ensures in
    let is = listed_at w.first.now w.second.rules.now w.order.now w.rule c.root-label.result.0 c.args.positions.items rule c.in-Ok.subset.items c.new.result at c.root-label.ensures.label c.new.ensures set in
    on_ok c.add.result _ _ c.add.ensures.added
    (λ a. adds_one w.first.now w.second.rules.now w.order.now (w.rule, c.args.positions.items) (record { label = c.root-label.result.0; positions = c.args.positions.items; cost = rule.cost; key = c.new.result }) c.args.listing.now
    c.add.new.self is a)

pub returns-clause-more : goal.returns-clause-more
returns-clause-more c = λ e.
    let w = c.args.walk.now in
    let rule = get_or w.first.now w.rule c.index-walk-walk.result in
    let at = sym c.index-walk-walk.is ∙ get_or_read w.first.now w.rule c.index-walk-walk.result c.requires.rule c.index-walk-walk.is no_rule in
    let set = subst (λ (ps : List ℕ). IsSubset w.second.rules.now c.root-label.result.0 (subsets_of (keys_at w.order.now ps)) c.in-Ok.subset.items) c.as_slice.ensures c.in-Ok.ensures in
    let is = listed_at w.first.now w.second.rules.now w.order.now w.rule c.root-label.result.0 c.args.positions.items rule c.in-Ok.subset.items c.new.result at c.root-label.ensures.label c.new.ensures set in
    overruns_one w.first.now w.second.rules.now w.order.now (w.rule, c.args.positions.items) (record { label = c.root-label.result.0; positions = c.args.positions.items; cost = rule.cost; key = c.new.result }) c.args.listing.now is
    (c.add.ensures.more e)
