use Rattle.std.specs.Prelude.{ℕ, List}
use Rattle.std.proofs.Common.{subst, sym}
use Rattle.tib_ranked_trees.specs.Below.{IsDeterministicBelow}
use Rattle.tib_grammar.specs.Range.{SidesEndInHoles}
use Rattle.tib_grammar.specs.declared.Rule.{Rule}
use Rattle.tib_ranked_trees.specs.Levels.{IsOrderly}
use Rattle.tib_lazy_lists.specs.AskingOf.{asking_of}
use Rattle.tib_lazy_lists.proofs.Listed.{is_placed}
use Rattle.tib_lazy_lists.proofs.Rounded.{none_listed, on_both, one_listed, one_more}
use Rattle.tib_lazy_lists.proofs.asking.Asking.grow.Goals as goal

pub list-requires-clause-orderly : goal.list-requires-clause-orderly
list-requires-clause-orderly g c = subst (λ (rs : List (Rule ℕ)). IsOrderly g.S.Semiring.product rs) (sym c.in-Ok-Some.ensures.grammar.rules) c.requires.orderly

pub returns-in-Ok-None-clause-listed : goal.returns-in-Ok-None-clause-listed
returns-in-Ok-None-clause-listed g c =
    let d = c.in-Ok-None.ensures in
    none_listed g.S.Semiring.product c.args.lists.now (asking_of c.args.self.now) c.requires.kept c.requires.listed c.args.demand c.requires.unmet c.draw.new.lists (asking_of c.draw.new.self) d.more d.same.states d.others
    (rw c.in-Ok-None.field-0-is at d.whole)

pub returns-in-Ok-Some-clause-listed : goal.returns-in-Ok-Some-clause-listed
returns-in-Ok-Some-clause-listed g c =
    let d = c.in-Ok-Some.ensures in
    let orderly = subst (λ (rs : List (Rule ℕ)). IsOrderly g.S.Semiring.product rs) (sym d.grammar.rules) c.requires.orderly in
    let form = subst (λ (rs : List (Rule ℕ)). IsDeterministicBelow rs) (sym d.grammar.rules) c.requires.form in
    let leaves = subst (λ (rs : List (Rule ℕ)). SidesEndInHoles rs) (sym d.grammar.rules) c.requires.leaves in
    let taking = rw c.in-Ok-Some.field-0-is at d.drawn in
    on_both c.list.result _ _ _ c.list.ensures.placed c.list.ensures.states
    (λ p s. one_listed g.S.Semiring.product c.args.lists.now (asking_of c.args.self.now) c.requires.kept c.requires.listed c.args.demand c.requires.unmet c.draw.new.lists (asking_of c.draw.new.self) d.more d.same.states d.others
    g.met.S.Semiring.laws orderly c.in-Ok-Some.candidate taking c.list.new.lists (asking_of c.list.new.self) (is_placed g.met.S.Semiring.laws c.draw.new.lists orderly (asking_of c.draw.new.self) c.args.demand.state c.in-Ok-Some.candidate taking form leaves c.list.new.lists p) s)

pub returns-in-Ok-Some-clause-more : goal.returns-in-Ok-Some-clause-more
returns-in-Ok-Some-clause-more g c =
    let d = c.in-Ok-Some.ensures in
    let orderly = subst (λ (rs : List (Rule ℕ)). IsOrderly g.S.Semiring.product rs) (sym d.grammar.rules) c.requires.orderly in
    let form = subst (λ (rs : List (Rule ℕ)). IsDeterministicBelow rs) (sym d.grammar.rules) c.requires.form in
    let leaves = subst (λ (rs : List (Rule ℕ)). SidesEndInHoles rs) (sym d.grammar.rules) c.requires.leaves in
    let taking = rw c.in-Ok-Some.field-0-is at d.drawn in
    on_both c.list.result _ _ _ c.list.ensures.placed c.list.ensures.states
    (λ p s. one_more g.S.Semiring.product c.args.lists.now (asking_of c.args.self.now) c.requires.kept c.requires.listed c.args.demand c.requires.unmet c.draw.new.lists (asking_of c.draw.new.self) d.more d.same.states d.others
    g.met.S.Semiring.laws orderly c.in-Ok-Some.candidate taking c.list.new.lists (asking_of c.list.new.self) (is_placed g.met.S.Semiring.laws c.draw.new.lists orderly (asking_of c.draw.new.self) c.args.demand.state c.in-Ok-Some.candidate taking form leaves c.list.new.lists p) s)
