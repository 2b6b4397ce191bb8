use Rattle.std.proofs.Common.{arith, ◌≡◌, List, [], ◌∷◌, ◌++◌, ℕ, min, subst}
use Rattle.tib_weigh.specs.Entries.{IsAscending, EndsBy}
use Rattle.tib_weigh.specs.declared.vector.Entry.{Entry}
use Rattle.tib_weigh.proofs.EntryLemmas.{Added, added_over, added_after}
use Rattle.tib_weigh.proofs.vector.add_cost.Goals as goal

-- the cost at the last state was lowered
over : (old front new : List Entry) (x : Entry) (q c least : ℕ) → IsAscending old → old ≡ front ++ x ∷ [] → x.state ≡ q → least ≡ min x.cost c → new ≡ front ++ record { state = q; cost = least } ∷ [] → Added old new q c
over old front new x q c least a popped same e pushed =
    let asc : IsAscending (front ++ x ∷ []) = subst IsAscending popped a in
    rw (popped, pushed, e) (added_over front x q c asc same)

-- a further state went last
after : (old front back new : List Entry) (x : Entry) (q c : ℕ) → IsAscending old → EndsBy q old → old ≡ front ++ x ∷ [] → (x.state ≡ q → ⊥) → back ≡ front ++ x ∷ [] → new ≡ back ++ record { state = q; cost = c } ∷ [] → Added old new q c
after old front back new x q c a b popped other first second =
    let asc : IsAscending (front ++ x ∷ []) = subst IsAscending popped a in
    let ends : EndsBy q (front ++ x ∷ []) = subst (EndsBy q) popped b in
    rw (popped, second, first) (added_after front x q c asc ends other)

pub returns-in_ok-push-2 : goal.returns-in_ok-push-2
returns-in_ok-push-2 c =
    let a = over c.args.vector.now.items c.pop.new.self.items c.push-then-last-state.new.self.items c.in-Some.last c.args.state c.args.cost c.lesser-cost.result c.requires.ascends c.in-Some.ensures.items c.if-last-state.true c.lesser-cost.ensures c.in_ok-push-2.ensures.items in
    record { ascends = a.ascends; last = a.last; costs = a.costs }

pub returns-in_ok-push-4 : goal.returns-in_ok-push-4
returns-in_ok-push-4 c =
    let a = after c.args.vector.now.items c.pop.new.self.items c.push-else-last-state.new.self.items c.push-else-last-state-2.new.self.items c.in-Some.last c.args.state c.args.cost c.requires.ascends c.requires.last c.in-Some.ensures.items (λ e. absurd (omega (arith, e, c.if-last-state.false))) c.in_ok-push-3.ensures.items c.in_ok-push-4.ensures.items in
    record { ascends = a.ascends; last = a.last; costs = a.costs }
