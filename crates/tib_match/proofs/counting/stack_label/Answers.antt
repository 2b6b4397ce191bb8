use Rattle.std.proofs.Common.{rules, length-append, ◌≡◌, ◌-◌, ◌++◌, ◌∷◌, [], ℕ, List, length, take, drop, arith, ap, sym, ◌∙◌, subst}
use Rattle.std.proofs.lemmas.List.{take-append-drop, length-drop, length-take, take_all}
use Rattle.tib_normal.specs.Rules.{positions_with}
use Rattle.tib_match.specs.Counting.{AreChained, plenties_of, plenty_at}
use Rattle.tib_match.specs.declared.plenty.Plenties.{Plenties}
use Rattle.tib_match.proofs.counting.stack_label.Goals as goal

pub returns-clause-stacked : goal.returns-clause-stacked
returns-clause-stacked g c =
    let columns : List Plenties = c.args.columns.now.items in
    let from : ℕ = c.len.result - c.args.rank in
    let cut : c.truncate.new.self.items ≡ take from columns = search rules in
    let there : c.deref.result.now ≡ columns = c.deref.ensures.value in
    let last : take (length c.deref.result.now - from) (drop from c.deref.result.now) ≡ drop from columns =
    take_all (length c.deref.result.now - from) (drop from c.deref.result.now) (omega (arith, length-drop from c.deref.result.now)) ∙ ap (drop from) there
    in
    record {
      before_last = take from columns;
      last = drop from columns;
      column = c.in_ok-column.column;
      before = sym (take-append-drop from columns);
      after = c.in_ok-push.ensures.items ∙ ap (λ xs. xs ++ c.in_ok-column.column ∷ []) cut;
      chained = subst (λ cs. AreChained g.S.Semiring.product c.args.normal.now.rules (positions_with c.args.label c.args.rank c.args.normal.now.rules) (plenties_of cs) c.args.front (plenty_at c.in_ok-column.column)) last c.in_ok-column.ensures;
    }

pub returns-clause-many : goal.returns-clause-many
returns-clause-many g c =
    let columns : List Plenties = c.args.columns.now.items in
    let from : ℕ = c.len.result - c.args.rank in
    let cut : c.truncate.new.self.items ≡ take from columns = search rules in
    let many : c.len.result ≡ length columns = search rules in
    omega (arith, many, ap length c.in_ok-push.ensures.items, ap length cut, length-take from columns, length-append c.truncate.new.self.items (c.in_ok-column.column ∷ []))
