use Rattle.std.proofs.Common.{◌≡◌, length, get_or, arith, ◌∙◌, subst}
use Rattle.std.specs.Prelude.{IfSome}
use Rattle.std.proofs.Common.{Option, Some, None}
use Rattle.std.proofs.lemmas.Option.{IfSome_then}
use Rattle.tib_lex.specs.Lists.{Has}
use Rattle.tib_grammar.specs.Items.{pairs_of}
use Rattle.tib_compose.specs.PieceViews.{kids_there}
use Rattle.tib_compose.specs.Plenties.{RulesAdd}
use Rattle.tib_compose.specs.declared.plenty.Plenty.{Plenty}
use Rattle.tib_compose.specs.Readers.{readers_with}
use Rattle.tib_compose.proofs.Plenties.{rules_more}
use Rattle.tib_compose.proofs.Walking.{has_there, is_reader}
use Rattle.tib_compose.proofs.Whole.{take_past}
use Rattle.tib_compose.proofs.composite.Composite.label_plenty.Goals as goal

pub rule_plenty-own-requires : goal.rule_plenty-own-requires
rule_plenty-own-requires g c =
    let two = c.args.self.now.second.now.rules in
    let r = c.args.reading in
    let ps = c.find-position-items.result.now in
    let i = c.loop-position.position-index in
    let are : ps ≡ readers_with (r.state, r.label, r.rank) two = c.find-position-items.ensures ∙ c.args.self.now.indexed (r.state, r.label, r.rank) in
    record {
      below = (is_reader two r.state r.label r.rank (length two) (get_or ps i 0) (omega arith) (subst (λ xs. Has xs (get_or ps i 0)) are (has_there i ps 0 c.loop-position-test.true))).0;
    }

pub loop-position-preserved : goal.loop-position-preserved
loop-position-preserved g c = λ ready known.
    let two = c.args.self.now.second.now.rules in
    let r = c.args.reading in
    let ps = c.find-position-items.result.now in
    let i = c.loop-position.position-index in
    let are : ps ≡ readers_with (r.state, r.label, r.rank) two = c.find-position-items.ensures ∙ c.args.self.now.indexed (r.state, r.label, r.rank) in
    let reads = is_reader two r.state r.label r.rank (length two) (get_or ps i 0) (omega arith) (subst (λ xs. Has xs (get_or ps i 0)) are (has_there i ps 0 c.loop-position-test.true)) in
    rules_more g.met.S.Semiring.laws two (kids_there (pairs_of c.args.source.now.items.now) r.node r.rank) ps i c.loop-position.total c.rule_plenty-own.result c.added_plenty-total.result c.loop-position-test.true
    (c.loop-position.invariant ready known)
    (IfSome_then c.rule_plenty-own.result c.rule_plenty-own.ensures (λ v adds. adds ready known r.state r.label r.rank reads.0 reads.1))
    c.added_plenty-total.ensures

pub returns : goal.returns
returns g c =
    let two = c.args.self.now.second.now.rules in
    let r = c.args.reading in
    let ps = c.find-position-items.result.now in
    let are : ps ≡ readers_with (r.state, r.label, r.rank) two = c.find-position-items.ensures ∙ c.args.self.now.indexed (r.state, r.label, r.rank) in
    by (RulesAdd g.S.Semiring.product two (kids_there (pairs_of c.args.source.now.items.now) r.node r.rank) (readers_with (r.state, r.label, r.rank) two)) c.loop-position.total (λ ready known.
    subst (λ ms. IfSome c.loop-position.total (RulesAdd g.S.Semiring.product two (kids_there (pairs_of c.args.source.now.items.now) r.node r.rank) ms))
    (take_past c.loop-position.position-index ps c.loop-position-test.false ∙ are) (c.loop-position.invariant ready known))
  where
    by : {A B : Type 0} (P : Plenty → Type 0) (o : Option Plenty) → (A → B → IfSome o P) → IfSome o (λ v. A → B → P v)
    by P None f = tt
    by P (Some v) f = f
