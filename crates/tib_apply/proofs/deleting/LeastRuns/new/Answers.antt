use Rattle.std.proofs.Common.{◌≡◌, ap, sym, ◌∙◌, subst, length}
use Rattle.tib_grammar.specs.Range.{AreInRange}
use Rattle.tib_grammar.specs.GrammarOf.{GrammarOf}
use Rattle.tib_inside.specs.Inside.{AreInsides}
use Rattle.tib_apply.specs.LeastRuns.{AreBegun}
use Rattle.tib_apply.proofs.RunCosts.{least_runs}
use Rattle.tib_apply.proofs.deleting.LeastRuns.new.Goals as goal

pub returns : goal.returns
returns g c =
    let product = g.S.Semiring.product in
    let grammar = c.args.grammar.now in
    let insides = c.in_ok-insides.insides in
    let begun = c.in_ok-begun.begun in
    let long : length insides.items ≡ length grammar.names = c.in_ok-insides.ensures.length ∙ ap (λ (n : GrammarOf). length n.names) c.grammar-2.ensures.same in
    let range = subst (λ m. AreInRange m grammar.rules) (sym long) (subst (λ (n : GrammarOf). AreInRange (length n.names) n.rules) c.grammar.ensures.same c.is_sound.ensures.range) in
    let are = subst (λ (n : GrammarOf). AreInsides product n.rules insides.items) c.grammar-2.ensures.same c.in_ok-insides.ensures.insides in
    let rules = c.rule_list.ensures ∙ ap (λ (n : GrammarOf). n.rules) c.grammar-3.ensures.same in
    let begins = subst (λ rs. AreBegun product insides.items rs (length rs) begun) rules (subst (λ xs. AreBegun product xs c.rule_list.result.now (length c.rule_list.result.now) begun) c.deref.ensures.value c.in_ok-begun.ensures) in
    least_runs g.met.S.Semiring.laws grammar.rules (record { insides = insides; begun = begun }) range are begins
