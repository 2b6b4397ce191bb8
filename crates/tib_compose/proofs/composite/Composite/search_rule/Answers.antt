use Rattle.std.proofs.Common.{◌≡◌, ◌++◌, ◌<◌, Err, ℕ, List, Bool, arith, length, sym, ap, ◌∙◌, subst}
use Rattle.std.proofs.lemmas.List.{get_or_read, length-map}
use Rattle.tib_grammar.specs.Items.{pair_of}
use Rattle.std.specs.declared.result.Result.{Result}
use Rattle.tib_expand.specs.declared.place.ExpandError.{ExpandError}
use Rattle.tib_lex.specs.Lists.{total}
use Rattle.tib_tree.specs.Trees.{preorder_of}
use Rattle.tib_transducer.specs.Rules.{no_rule, transducer_rule}
use Rattle.tib_transducer.specs.declared.TransducerRule.{TransducerRule}
use Rattle.tib_key_edges.specs.Composition.{edge_parts}
use Rattle.tib_compose.specs.KeyEdges.{rule_edges, IsSourceOf}
use Rattle.tib_compose.specs.CompositionListing.{IsListing}
use Rattle.tib_compose.specs.Walk.{AreReady, StepComes, IsOnBranch}
use Rattle.tib_compose.specs.Searches.{AreTurnsAt, Begins}
use Rattle.tib_compose.specs.declared.listing.CompositionListing.{CompositionListing}
use Rattle.tib_compose.specs.declared.search.Search.{Search}
use Rattle.tib_compose.specs.declared.source.Source.{Source}
use Rattle.tib_compose.proofs.FlatEdges.{are_ready, there}
use Rattle.tib_compose.proofs.Plenties.{rule_overruns}
use Rattle.tib_compose.proofs.Whole.{walk_begins}
use Rattle.tib_compose.proofs.composite.Composite.search_rule.Goals as goal

-- the walk begins at a rule that was read
begins_there :
    (product : ℕ → ℕ → ℕ) (one two : List (TransducerRule ℕ)) (key : ℕ × ℕ) (n k : ℕ) (r : TransducerRule ℕ) (source : Source) (search : Search) (before : CompositionListing) → AreReady product two → r ≡ transducer_rule one n → k ≡ key.1 →
    IsSourceOf product two r source → Begins product r.cost k search → (order : List (ℕ × ℕ)) (es : List (TransducerRule (ℕ × ℕ))) → IsListing order key es before →
    IsOnBranch product two source r.left order key (es ++ rule_edges product one two key n) search before
begins_there product one two key n k r source search before ready at same is begins order es lists =
    subst (λ (x : TransducerRule ℕ). IsOnBranch product two source x.left order key (es ++ rule_edges product one two key n) search before) (sym at)
    (walk_begins product one two key n ready source (is.items ∙ ap (λ (x : TransducerRule ℕ). preorder_of x.right) at) search
    (subst (λ m. Begins product (transducer_rule one n).cost m search) same (subst (λ (x : TransducerRule ℕ). Begins product x.cost k search) at begins)) order es before lists)

same_fault : (f : ExpandError) → ◌≡◌ {A = Result (Unit {0}) ExpandError} (Err f) (Err ExpandError.More) → ◌≡◌ {A = Result Bool ExpandError} (Err f) (Err ExpandError.More)
same_fault f e = let is : f ≡ ExpandError.More = cc in ap Err is

pub go_on-requires-clause-turns : goal.go_on-requires-clause-turns
go_on-requires-clause-turns g c = subst (AreTurnsAt c.in-Ok.source.items.now) (sym c.in-Ok-new.ensures.begins.turns) tt

pub go_on-requires-clause-nodes : goal.go_on-requires-clause-nodes
go_on-requires-clause-nodes g c =
    c.in-Ok-new.ensures.begins.nodes (length c.in-Ok.source.items.now) (omega (arith, ap length c.in-Ok.ensures.items, length-map c.in-Ok.source.items.now pair_of))

pub go_on-requires-clause-come : goal.go_on-requires-clause-come
go_on-requires-clause-come g c =
    let one = c.args.self.now.first.now.rules in
    let two = c.args.self.now.second.now.rules in
    let r = c.index-rule_list-position.result in
    let at : r ≡ transducer_rule one c.args.position = there one c.rule_list.result.now c.args.position r c.rule_list.ensures c.requires.below (λ low d. get_or_read c.rule_list.result.now c.args.position r low c.index-rule_list-position.is no_rule) in
    let ready = are_ready g.met.S.Semiring.laws two c.is_sound.ensures.shaped c.is_sound.ensures.leaves in
    let w = c.requires.listing in
    record {
      product = g.S.Semiring.product;
      two = two;
      ready = ready;
      known = c.in-Ok.ensures.known ready;
      order = w.0;
      key = c.args.key;
      all = w.1 ++ rule_edges g.S.Semiring.product one two c.args.key c.args.position;
      branch = begins_there g.S.Semiring.product one two c.args.key c.args.position c.second-3.result r c.in-Ok.source c.in-Ok-new.search c.args.listing.now ready at c.second-3.ensures c.in-Ok.ensures c.in-Ok-new.ensures.begins w.0 w.1 w.2;
    }

pub step-requires-clause-begun : goal.step-requires-clause-begun
step-requires-clause-begun g c =
    let one = c.args.self.now.first.now.rules in
    let two = c.args.self.now.second.now.rules in
    let ready = are_ready g.met.S.Semiring.laws two c.is_sound.ensures.shaped c.is_sound.ensures.leaves in
    let w = c.requires.listing in
    (w.0, c.args.key, w.1 ++ rule_edges g.S.Semiring.product one two c.args.key c.args.position, c.loop.invariant.underway ready w.0 w.1 w.2)

pub step-requires-clause-source : goal.step-requires-clause-source
step-requires-clause-source g c =
    let two = c.args.self.now.second.now.rules in
    c.in-Ok.ensures.known (are_ready g.met.S.Semiring.laws two c.is_sound.ensures.shaped c.is_sound.ensures.leaves)

pub loop-init : goal.loop-init
loop-init g c =
    let one = c.args.self.now.first.now.rules in
    let two = c.args.self.now.second.now.rules in
    let r = c.index-rule_list-position.result in
    let at : r ≡ transducer_rule one c.args.position = there one c.rule_list.result.now c.args.position r c.rule_list.ensures c.requires.below (λ low d. get_or_read c.rule_list.result.now c.args.position r low c.index-rule_list-position.is no_rule) in
    record {
      within = c.in-Ok-go_on.ensures.within;
      budget = c.in-Ok-go_on.ensures.budget;
      turns = c.in-Ok-go_on.ensures.turns;
      nodes = c.in-Ok-go_on.ensures.nodes;
      underway = λ ready order es lists.
          c.in-Ok-go_on.ensures.goes g.S.Semiring.product two ready (c.in-Ok.ensures.known ready) order c.args.key (es ++ rule_edges g.S.Semiring.product one two c.args.key c.args.position)
          (begins_there g.S.Semiring.product one two c.args.key c.args.position c.second-3.result r c.in-Ok.source c.in-Ok-new.search c.args.listing.now ready at c.second-3.ensures c.in-Ok.ensures c.in-Ok-new.ensures.begins order es lists);
    }

pub loop-preserved : goal.loop-preserved
loop-preserved g c =
    let one = c.args.self.now.first.now.rules in
    let two = c.args.self.now.second.now.rules in
    let r = c.index-rule_list-position.result in
    record {
      within = c.in-Ok-true.ensures.within;
      budget = c.in-Ok-true.ensures.budget ∙ c.loop.invariant.budget;
      turns = c.in-Ok-true.ensures.turns;
      nodes = c.in-Ok-true.ensures.nodes;
      underway = λ ready order es lists.
          let all = es ++ rule_edges g.S.Semiring.product one two c.args.key c.args.position in
          subst (StepComes g.S.Semiring.product two c.in-Ok.source r.left order c.args.key all c.step.new.search c.step.new.listing) c.in-Ok-true.field-0-test
          (c.in-Ok-true.ensures.steps ready (c.in-Ok.ensures.known ready) order c.args.key all (c.loop.invariant.underway ready order es lists));
    }

pub returns-then-overruns-clause-more : goal.returns-then-overruns-clause-more
returns-then-overruns-clause-more g c = λ e.
    let one = c.args.self.now.first.now.rules in
    let two = c.args.self.now.second.now.rules in
    let r = c.index-rule_list-position.result in
    let at : r ≡ transducer_rule one c.args.position = there one c.rule_list.result.now c.args.position r c.rule_list.ensures c.requires.below (λ low d. get_or_read c.rule_list.result.now c.args.position r low c.index-rule_list-position.is no_rule) in
    let ready = are_ready g.met.S.Semiring.laws two c.is_sound.ensures.shaped c.is_sound.ensures.leaves in
    rule_overruns g.S.Semiring.product one two c.args.key c.args.position c.second-2.result r c.in-Ok.source c.args.listing.now ready at c.second-2.ensures c.in-Ok.ensures.items (c.in-Ok.ensures.known ready)
    (c.overruns.ensures c.if-overruns.true)

pub returns-in-Err-clause-more : goal.returns-in-Err-clause-more
returns-in-Err-clause-more g c = λ e order es lists.
    let one = c.args.self.now.first.now.rules in
    let two = c.args.self.now.second.now.rules in
    let r = c.index-rule_list-position.result in
    let at : r ≡ transducer_rule one c.args.position = there one c.rule_list.result.now c.args.position r c.rule_list.ensures c.requires.below (λ low d. get_or_read c.rule_list.result.now c.args.position r low c.index-rule_list-position.is no_rule) in
    let ready = are_ready g.met.S.Semiring.laws two c.is_sound.ensures.shaped c.is_sound.ensures.leaves in
    c.go_on.ensures.more (c.in-Err.is ∙ e) g.S.Semiring.product two ready (c.in-Ok.ensures.known ready) order c.args.key (es ++ rule_edges g.S.Semiring.product one two c.args.key c.args.position)
    (begins_there g.S.Semiring.product one two c.args.key c.args.position c.second-3.result r c.in-Ok.source c.in-Ok-new.search c.args.listing.now ready at c.second-3.ensures c.in-Ok.ensures c.in-Ok-new.ensures.begins order es lists)

pub returns-in-Ok-false-clause-listed : goal.returns-in-Ok-false-clause-listed
returns-in-Ok-false-clause-listed g c = λ order es lists.
    let one = c.args.self.now.first.now.rules in
    let two = c.args.self.now.second.now.rules in
    let r = c.index-rule_list-position.result in
    let ready = are_ready g.met.S.Semiring.laws two c.is_sound.ensures.shaped c.is_sound.ensures.leaves in
    let all = es ++ rule_edges g.S.Semiring.product one two c.args.key c.args.position in
    subst (StepComes g.S.Semiring.product two c.in-Ok.source r.left order c.args.key all c.step.new.search c.step.new.listing) c.in-Ok-false.field-0-test
    (c.in-Ok-false.ensures.steps ready (c.in-Ok.ensures.known ready) order c.args.key all (c.loop.invariant.underway ready order es lists))

pub returns-in-Err-step-clause-more : goal.returns-in-Err-step-clause-more
returns-in-Err-step-clause-more g c = λ e order es lists.
    let one = c.args.self.now.first.now.rules in
    let two = c.args.self.now.second.now.rules in
    let ready = are_ready g.met.S.Semiring.laws two c.is_sound.ensures.shaped c.is_sound.ensures.leaves in
    let all = es ++ rule_edges g.S.Semiring.product one two c.args.key c.args.position in
    subst (λ n. n < total edge_parts all) c.loop.invariant.budget
    (c.step.ensures.more (c.in-Err-step.is ∙ same_fault c.in-Err-step.fault e) ready (c.in-Ok.ensures.known ready) order c.args.key all (c.loop.invariant.underway ready order es lists))
