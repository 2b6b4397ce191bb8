use Rattle.std.proofs.Common.{◌∙◌, ap, arith, refl}
use Rattle.tib_workers.specs.Rows.{parts_in}
use Rattle.tib_expand.proofs.Reaching.{hunt_of}
use Rattle.tib_hunt.proofs.Advancing.{few_keys}
use Rattle.tib_hunt.proofs.GatheredRows.{gathered_whole, gathered_apart, gathered_run, too_little_beyond}
use Rattle.tib_hunt.proofs.worker_round.work_together.Goals as goal

pub invariant_of-job : goal.invariant_of-job
invariant_of-job g c =
    let b = c.requires.between in
    let few = few_keys (hunt_of ((g.met.E.Expand g.world.𝓛 g.world.𝓜 g.world.𝓡 ((λ s x. x), (λ x. x), (λ x. x), λ x. x)).lawful c.args.terms.now.problem.now) (g.met.E.Key.Ord g.world.𝓛 g.world.𝓜 g.world.𝓡 ((λ s x. x), (λ x. x), (λ x. x), λ x. x)).total (g.met.E.Key.TableKey g.world.𝓛 g.world.𝓜 g.world.𝓡 ((λ s x. x), (λ x. x), (λ x. x), λ x. x)).same (g.met.E.Key.Eq g.world.𝓛 g.world.𝓜 g.world.𝓡 ((λ s x. x), (λ x. x), (λ x. x), λ x. x)).laws.refl) b.held in
    let l = c.requires.limit in
    record { within = b.low; few = omega arith }

pub count_parts-made-requires : goal.count_parts-made-requires
count_parts-made-requires g c =
    let v = ap parts_in c.deref.ensures.value in
    let w = c.in-Ok.ensures.within in
    let l = c.requires.limit in
    omega arith

pub returns-clause-worked : goal.returns-clause-worked
returns-clause-worked g c =
    let a = c.in-Ok.ensures in
    gathered_whole g.E.Expand.hunted g.E.Expand.reading c.args.terms.now.problem.now c.args.state.now.keys.keys c.args.first c.args.terms.now.index.now g.E.Key.TableKey.shelf_of c.in-Ok.gathered.shelves c.in-Ok.gathered.rows.items a.rows a.len a.shelves
    (g.E.Expand.admits c.args.terms.now.problem.now) c.args.state.now.rules.items c.args.state.now.parts c.args.terms.now.limit c.requires.between c.count_parts-made.result (c.count_parts-made.ensures ∙ ap parts_in c.deref.ensures.value) a.within _ c.in-Ok-into_lists.ensures

pub returns-clause-apart : goal.returns-clause-apart
returns-clause-apart g c =
    let a = c.in-Ok.ensures in
    gathered_apart g.E.Expand.hunted g.E.Expand.reading c.args.terms.now.problem.now c.args.state.now.keys.keys c.args.first c.args.terms.now.index.now g.E.Key.TableKey.shelf_of c.in-Ok.gathered.shelves c.in-Ok.gathered.rows.items a.rows a.len a.shelves _ c.in-Ok-into_lists.ensures

pub returns-in-Err-More-clause-more : goal.returns-in-Err-More-clause-more
returns-in-Err-More-clause-more g c =
    let h = (hunt_of ((g.met.E.Expand g.world.𝓛 g.world.𝓜 g.world.𝓡 ((λ s x. x), (λ x. x), (λ x. x), λ x. x)).lawful c.args.terms.now.problem.now) (g.met.E.Key.Ord g.world.𝓛 g.world.𝓜 g.world.𝓡 ((λ s x. x), (λ x. x), (λ x. x), λ x. x)).total (g.met.E.Key.TableKey g.world.𝓛 g.world.𝓜 g.world.𝓡 ((λ s x. x), (λ x. x), (λ x. x), λ x. x)).same (g.met.E.Key.Eq g.world.𝓛 g.world.𝓜 g.world.𝓡 ((λ s x. x), (λ x. x), (λ x. x), λ x. x)).laws.refl) in
    (refl, too_little_beyond g.E.Expand.hunted g.E.Expand.reading c.args.terms.now.problem.now c.args.state.now.keys.keys c.args.first c.args.terms.now.index.now h.laws (g.E.Expand.admits c.args.terms.now.problem.now) c.args.state.now.rules.items c.args.state.now.parts c.args.terms.now.limit c.requires.between (c.in-Err-More.ensures.more c.in-Err-More.field-0-is))

pub returns-clause-run : goal.returns-clause-run
returns-clause-run g c =
    let a = c.in-Ok.ensures in
    gathered_run g.E.Expand.hunted g.E.Expand.reading c.args.terms.now.problem.now c.args.state.now.keys.keys c.args.first c.args.terms.now.index.now g.E.Key.TableKey.shelf_of c.in-Ok.gathered.shelves c.in-Ok.gathered.rows.items a.rows a.len a.shelves
    g.E.Key.PartialEq.eq (λ x y e. (g.met.E.Key.TableKey g.world.𝓛 g.world.𝓜 g.world.𝓡 ((λ s x. x), (λ x. x), (λ x. x), λ x. x)).same x y e) (g.met.E.Key.Eq g.world.𝓛 g.world.𝓜 g.world.𝓡 ((λ s x. x), (λ x. x), (λ x. x), λ x. x)).laws.refl c.requires.between.low _ c.in-Ok-into_lists.ensures
