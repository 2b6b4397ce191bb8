use Rattle.std.proofs.Common.{rules, ◌≡◌, ◌≤◌, ◌-◌, ◌++◌, ◌∷◌, [], ℕ, List, Option, length, take, drop, arith, ap, sym, ◌∙◌, subst}
use Rattle.std.proofs.lemmas.List.{take-append-drop, length-drop, take_all}
use Rattle.tib_normal.specs.Rules.{positions_with}
use Rattle.tib_match.specs.Boxes.{IsColumn, column_of, stack_of}
use Rattle.tib_match.proofs.box_cost.stack_label.Goals as goal

pub returns : goal.returns
returns g c =
    let columns : List (List (Option ℕ)) = c.args.columns.now.items in
    let from : ℕ = c.len.result - c.args.rank in
    let many : c.len.result ≡ length columns = search rules in
    let room : c.args.rank ≤ length columns = c.requires in
    let cut : c.truncate.new.self.items ≡ take from columns = search rules in
    let there : c.deref.result.now ≡ columns = c.deref.ensures.value in
    let last : take (length c.deref.result.now - from) (drop from c.deref.result.now) ≡ drop from columns =
    take_all (length c.deref.result.now - from) (drop from c.deref.result.now) (omega (arith, length-drop from c.deref.result.now)) ∙ ap (drop from) there
    in
    record {
      front = take from columns;
      last = drop from columns;
      column = c.in_ok-column.column;
      before = sym (take-append-drop from columns);
      long = omega (arith, length-drop from columns, room, many);
      after = c.in_ok-push.ensures.items ∙ ap (λ xs. xs ++ c.in_ok-column.column ∷ []) cut;
      is_column = subst (λ cs. IsColumn g.S.Semiring.product c.args.normal.now.rules (positions_with c.args.label c.args.rank c.args.normal.now.rules) (stack_of cs) (column_of c.in_ok-column.column)) last c.in_ok-column.ensures;
    }
