use Rattle.std.proofs.Common.{arith, ℕ, List, ◌∙◌, ap, sym, subst, length}
use Rattle.std.specs.Global.{Vec}
use Rattle.tib_lex.specs.Lists.{Each}
use Rattle.tib_grammar.specs.declared.Rule.{Rule}
use Rattle.tib_difference.specs.Held.{held}
use Rattle.tib_difference.specs.Using.{IsUser}
use Rattle.tib_difference.proofs.Tried.{users_are}
use Rattle.tib_difference.proofs.difference.Difference.list_position.Goals as goal

pub list_users-requires-clause-users : goal.list_users-requires-clause-users
list_users-requires-clause-users g c =
    let rules = c.args.self.now.left.now.rules in
    let q = c.state.result in
    let are = c.list_of-users.ensures ∙ ap (λ (lists : List (Vec (ℕ × ℕ))). held lists q) c.deref.ensures.value ∙ c.args.self.now.used q in
    let same = c.rule_list-first.ensures ∙ ap (λ x. x.rules) c.grammar-2.ensures.same in
    subst (λ (one : List (Rule ℕ)). Each (IsUser one) c.list_of-users.result.now) (sym same) (subst (Each (IsUser rules)) (sym are) (users_are rules q (length rules) (omega arith)))
