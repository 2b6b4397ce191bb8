use Rattle.std.proofs.Common.{◌≡◌, ◌<◌, ℕ, length, ap, sym, ◌∙◌, subst, refl, Option}
use Rattle.std.specs.Prelude.{IfSome}
use Rattle.tib_grammar.specs.GrammarOf.{GrammarOf}
use Rattle.tib_grammar.specs.Range.{AreInRange}
use Rattle.tib_normal.specs.Rules.{IsNormal}
use Rattle.tib_canon.proofs.StateNames.{length-names_of}
use Rattle.tib_compare.proofs.beside.normal_over.Goals as goal

pub unreachable-requires : goal.unreachable-requires
unreachable-requires c =
    let long : length c.in_ok-names.names ≡ c.args.states = ap length c.in_ok-names.ensures ∙ length-names_of c.args.states in
    c.in_default.ensures.none refl (subst (λ (n : ℕ). 0 < n) (sym long) c.requires.start) (subst (λ (n : ℕ). AreInRange n c.args.rules.items) (sym long) c.requires.range)

pub unreachable-requires-in-None : goal.unreachable-requires-in-None
unreachable-requires-in-None c =
    let some = c.in_ok-normal.ensures.some.1 (subst IsNormal (sym c.in-Some.ensures.rules) c.requires.normal) in
    let bad = rw c.in-None.is at some in
    absurd (cc bad)

pub returns-clause-names : goal.returns-clause-names
returns-clause-names c =
    let same : c.in-Some-2.normal ≡ c.in-Some.grammar =
    subst (λ (o : Option GrammarOf). IfSome o (λ g. g ≡ c.in-Some.grammar)) c.in-Some-2.is c.in_ok-normal.ensures.same in
    ap (λ (g : GrammarOf). length g.names) same ∙ ap length c.in-Some.ensures.names ∙ ap length c.in_ok-names.ensures ∙ length-names_of c.args.states
