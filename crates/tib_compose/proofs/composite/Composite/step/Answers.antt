use Rattle.std.proofs.Common.{◌≡◌, ◌++◌, ◌∷◌, [], ◌<◌, length, get_or, List, ℕ, arith, refl, sym, ap, ◌∙◌, subst, Bool, Err}
use Rattle.std.specs.Global.{Vec}
use Rattle.std.specs.declared.result.Result.{Result}
use Rattle.tib_lex.specs.Lists.{Has}
use Rattle.tib_expand.specs.declared.place.ExpandError.{ExpandError}
use Rattle.tib_compose.specs.Readers.{readers_with}
use Rattle.tib_compose.specs.Walk.{IsRead}
use Rattle.tib_compose.specs.Searches.{tried_more}
use Rattle.tib_compose.specs.declared.search.ReturnPoint.{ReturnPoint}
use Rattle.tib_compose.proofs.Left.{beyond}
use Rattle.tib_compose.proofs.Steps.{turn_ends, turn_alive, turn_dead}
use Rattle.tib_compose.proofs.FlatEdges.{are_ready}
use Rattle.tib_compose.proofs.Turns.{last_at, more_at, nodes_read}
use Rattle.tib_compose.proofs.Walking.{few_readers, has_there, is_reader}
use Rattle.tib_compose.proofs.composite.Composite.step.Goals as goal

same_fault : (f : ExpandError) → ◌≡◌ {A = Result Bool ExpandError} (Err f) (Err ExpandError.More) → ◌≡◌ {A = Result (Unit {0}) ExpandError} (Err f) (Err ExpandError.More)
same_fault f e = let is : f ≡ ExpandError.More = cc in ap Err is

pub returns-in_default-get-clause-steps : goal.returns-in_default-get-clause-steps
returns-in_default-get-clause-steps g c = λ ready known order key all h.
    let two = c.args.self.now.second.now.rules in
    let t = c.in-Some.turn in
    turn_ends c.args.source.now c.args.left.now g.S.Semiring.product two ready known order key all c.args.search.now c.args.listing.now h c.pop.new.self.items t c.in-Some.ensures.items
    (record { branch = c.args.search.now.branch; turns = c.pop.new.self }) refl refl
    (beyond c.find-readers.result.now (readers_with (t.reading.state, t.reading.label, t.reading.rank) two) t.tried (c.find-readers.ensures ∙ c.args.self.now.indexed (t.reading.state, t.reading.label, t.reading.rank)) c.in_default-get.ensures.lookup.0)

pub read-requires-clause-below : goal.read-requires-clause-below
read-requires-clause-below g c =
    let two = c.args.self.now.second.now.rules in
    let t = c.in-Some.turn in
    let rs : List ℕ = readers_with (t.reading.state, t.reading.label, t.reading.rank) two in
    let are : c.find-readers.result.now ≡ rs = c.find-readers.ensures ∙ c.args.self.now.indexed (t.reading.state, t.reading.label, t.reading.rank) in
    let look = c.in-Some-get.ensures.lookup in
    let low : t.tried < length rs = subst (λ (xs : List ℕ). t.tried < length xs) are look.3.0 in
    let is : get_or rs t.tried 0 ≡ c.in-Some-get.position.now = ap (λ (xs : List ℕ). get_or xs t.tried 0) (sym are) ∙ sym (look.3.1 0) in
    (is_reader two t.reading.state t.reading.label t.reading.rank (length two) c.in-Some-get.position.now (omega arith) (subst (Has rs) is (has_there t.tried rs 0 low))).0

pub read-requires-clause-node : goal.read-requires-clause-node
read-requires-clause-node g c =
    let at = last_at c.args.source.now.items.now c.pop.new.self.items c.args.search.now.turns.items c.in-Some.turn c.in-Some.ensures.items c.requires.turns in
    omega (arith, at.1.0, c.args.source.now.long)

pub returns-in_default-get-clause-turns : goal.returns-in_default-get-clause-turns
returns-in_default-get-clause-turns g c =
    (last_at c.args.source.now.items.now c.pop.new.self.items c.args.search.now.turns.items c.in-Some.turn c.in-Some.ensures.items c.requires.turns).0

pub returns-then-not-alive-clause-turns : goal.returns-then-not-alive-clause-turns
returns-then-not-alive-clause-turns g c =
    let items = c.args.source.now.items.now in
    let t = c.in-Some.turn in
    let at = last_at items c.pop.new.self.items c.args.search.now.turns.items t c.in-Some.ensures.items c.requires.turns in
    more_at items c.pop.new.self.items c.again.new.self.turns.items (tried_more t)
    (c.in-Ok-again.ensures.again.turns ∙ ap (λ (v : Vec ReturnPoint). v.items ++ tried_more t ∷ []) c.back_to.ensures.turns) at.0 at.1

pub go_on-requires-clause-turns : goal.go_on-requires-clause-turns
go_on-requires-clause-turns g c =
    let items = c.args.source.now.items.now in
    let t = c.in-Some.turn in
    let at = last_at items c.pop.new.self.items c.args.search.now.turns.items t c.in-Some.ensures.items c.requires.turns in
    more_at items c.pop.new.self.items c.again.new.self.turns.items (tried_more t)
    (c.in-Ok-again.ensures.again.turns ∙ ap (λ (v : Vec ReturnPoint). v.items ++ tried_more t ∷ []) c.back_to.ensures.turns) at.0 at.1

pub returns-then-not-alive-clause-nodes : goal.returns-then-not-alive-clause-nodes
returns-then-not-alive-clause-nodes g c =
    let two = c.args.self.now.second.now.rules in
    let t = c.in-Some.turn in
    let rs : List ℕ = readers_with (t.reading.state, t.reading.label, t.reading.rank) two in
    let are : c.find-readers.result.now ≡ rs = c.find-readers.ensures ∙ c.args.self.now.indexed (t.reading.state, t.reading.label, t.reading.rank) in
    let look = c.in-Some-get.ensures.lookup in
    let low : t.tried < length rs = subst (λ (xs : List ℕ). t.tried < length xs) are look.3.0 in
    let is : get_or rs t.tried 0 ≡ c.in-Some-get.position.now = ap (λ (xs : List ℕ). get_or xs t.tried 0) (sym are) ∙ sym (look.3.1 0) in
    let at = last_at c.args.source.now.items.now c.pop.new.self.items c.args.search.now.turns.items t c.in-Some.ensures.items c.requires.turns in
    nodes_read g.S.Semiring.product two c.args.source.now t c.in-Some-get.position.now t.tasks c.args.search.now.branch.pending.tasks.items c.back_to.new.self.branch c.read.new.branch c.again.new.self.branch _
    (are_ready g.met.S.Semiring.laws two c.is_sound.ensures.shaped c.is_sound.ensures.leaves) c.requires.source
    (is_reader two t.reading.state t.reading.label t.reading.rank (length two) c.in-Some-get.position.now (omega arith) (subst (Has rs) is (has_there t.tried rs 0 low))) at.1
    c.back_to.ensures.tasks c.requires.nodes c.in-Ok.ensures.read c.in-Ok-again.ensures.again.branch

pub go_on-requires-clause-nodes : goal.go_on-requires-clause-nodes
go_on-requires-clause-nodes g c =
    let two = c.args.self.now.second.now.rules in
    let t = c.in-Some.turn in
    let rs : List ℕ = readers_with (t.reading.state, t.reading.label, t.reading.rank) two in
    let are : c.find-readers.result.now ≡ rs = c.find-readers.ensures ∙ c.args.self.now.indexed (t.reading.state, t.reading.label, t.reading.rank) in
    let look = c.in-Some-get.ensures.lookup in
    let low : t.tried < length rs = subst (λ (xs : List ℕ). t.tried < length xs) are look.3.0 in
    let is : get_or rs t.tried 0 ≡ c.in-Some-get.position.now = ap (λ (xs : List ℕ). get_or xs t.tried 0) (sym are) ∙ sym (look.3.1 0) in
    let at = last_at c.args.source.now.items.now c.pop.new.self.items c.args.search.now.turns.items t c.in-Some.ensures.items c.requires.turns in
    nodes_read g.S.Semiring.product two c.args.source.now t c.in-Some-get.position.now t.tasks c.args.search.now.branch.pending.tasks.items c.back_to.new.self.branch c.read.new.branch c.again.new.self.branch _
    (are_ready g.met.S.Semiring.laws two c.is_sound.ensures.shaped c.is_sound.ensures.leaves) c.requires.source
    (is_reader two t.reading.state t.reading.label t.reading.rank (length two) c.in-Some-get.position.now (omega arith) (subst (Has rs) is (has_there t.tried rs 0 low))) at.1
    c.back_to.ensures.tasks c.requires.nodes c.in-Ok.ensures.read c.in-Ok-again.ensures.again.branch

pub again-requires : goal.again-requires
again-requires g c =
    let two = c.args.self.now.second.now.rules in
    let t = c.in-Some.turn in
    let rs : List ℕ = readers_with (t.reading.state, t.reading.label, t.reading.rank) two in
    let are : c.find-readers.result.now ≡ rs = c.find-readers.ensures ∙ c.args.self.now.indexed (t.reading.state, t.reading.label, t.reading.rank) in
    let low : t.tried < length rs = subst (λ (xs : List ℕ). t.tried < length xs) are c.in-Some-get.ensures.lookup.3.0 in
    record { few = omega (arith, low, few_readers two t.reading.state t.reading.label t.reading.rank (length two), c.is_sound.ensures.few_rules) }

pub returns-then-not-alive-clause-steps : goal.returns-then-not-alive-clause-steps
returns-then-not-alive-clause-steps g c = λ ready known order key all h.
    let two = c.args.self.now.second.now.rules in
    let t = c.in-Some.turn in
    let rs : List ℕ = readers_with (t.reading.state, t.reading.label, t.reading.rank) two in
    let are : c.find-readers.result.now ≡ rs = c.find-readers.ensures ∙ c.args.self.now.indexed (t.reading.state, t.reading.label, t.reading.rank) in
    let look = c.in-Some-get.ensures.lookup in
    turn_dead c.args.source.now c.args.left.now g.S.Semiring.product two ready known order key all c.args.search.now c.args.listing.now h c.pop.new.self.items t c.in-Some.ensures.items
    c.in-Some-get.position.now (subst (λ (xs : List ℕ). t.tried < length xs) are look.3.0) (ap (λ (xs : List ℕ). get_or xs t.tried 0) (sym are) ∙ sym (look.3.1 0))
    c.back_to.new.self.branch c.read.new.branch c.back_to.ensures.done c.back_to.ensures.tasks c.back_to.ensures.next
    c.again.new.self c.in-Ok-again.ensures.again.branch
    (c.in-Ok-again.ensures.again.turns ∙ ap (λ (v : Vec ReturnPoint). v.items ++ tried_more t ∷ []) c.back_to.ensures.turns)
    (subst (IsRead g.S.Semiring.product two c.args.source.now t c.in-Some-get.position.now c.back_to.new.self.branch c.read.new.branch) c.if-not-alive.true c.in-Ok.ensures.read)

pub returns-in-Ok-go_on-clause-steps : goal.returns-in-Ok-go_on-clause-steps
returns-in-Ok-go_on-clause-steps g c = λ ready known order key all h.
    let two = c.args.self.now.second.now.rules in
    let t = c.in-Some.turn in
    let rs : List ℕ = readers_with (t.reading.state, t.reading.label, t.reading.rank) two in
    let are : c.find-readers.result.now ≡ rs = c.find-readers.ensures ∙ c.args.self.now.indexed (t.reading.state, t.reading.label, t.reading.rank) in
    let look = c.in-Some-get.ensures.lookup in
    c.in-Ok-go_on.ensures.goes g.S.Semiring.product two ready known order key all
    (turn_alive c.args.source.now c.args.left.now g.S.Semiring.product two ready known order key all c.args.search.now c.args.listing.now h c.pop.new.self.items t c.in-Some.ensures.items
    c.in-Some-get.position.now (subst (λ (xs : List ℕ). t.tried < length xs) are look.3.0) (ap (λ (xs : List ℕ). get_or xs t.tried 0) (sym are) ∙ sym (look.3.1 0))
    c.back_to.new.self.branch c.read.new.branch c.back_to.ensures.done c.back_to.ensures.tasks c.back_to.ensures.next
    c.again.new.self c.in-Ok-again.ensures.again.branch
    (c.in-Ok-again.ensures.again.turns ∙ ap (λ (v : Vec ReturnPoint). v.items ++ tried_more t ∷ []) c.back_to.ensures.turns)
    (subst (IsRead g.S.Semiring.product two c.args.source.now t c.in-Some-get.position.now c.back_to.new.self.branch c.read.new.branch) c.if-not-alive.false c.in-Ok.ensures.read))

pub returns-in-Err-clause-more : goal.returns-in-Err-clause-more
returns-in-Err-clause-more g c = λ e ready known order key all h.
    let two = c.args.self.now.second.now.rules in
    let t = c.in-Some.turn in
    let rs : List ℕ = readers_with (t.reading.state, t.reading.label, t.reading.rank) two in
    let are : c.find-readers.result.now ≡ rs = c.find-readers.ensures ∙ c.args.self.now.indexed (t.reading.state, t.reading.label, t.reading.rank) in
    let look = c.in-Some-get.ensures.lookup in
    c.go_on.ensures.more (c.in-Err.is ∙ same_fault c.in-Err.fault e) g.S.Semiring.product two ready known order key all
    (turn_alive c.args.source.now c.args.left.now g.S.Semiring.product two ready known order key all c.args.search.now c.args.listing.now h c.pop.new.self.items t c.in-Some.ensures.items
    c.in-Some-get.position.now (subst (λ (xs : List ℕ). t.tried < length xs) are look.3.0) (ap (λ (xs : List ℕ). get_or xs t.tried 0) (sym are) ∙ sym (look.3.1 0))
    c.back_to.new.self.branch c.read.new.branch c.back_to.ensures.done c.back_to.ensures.tasks c.back_to.ensures.next
    c.again.new.self c.in-Ok-again.ensures.again.branch
    (c.in-Ok-again.ensures.again.turns ∙ ap (λ (v : Vec ReturnPoint). v.items ++ tried_more t ∷ []) c.back_to.ensures.turns)
    (subst (IsRead g.S.Semiring.product two c.args.source.now t c.in-Some-get.position.now c.back_to.new.self.branch c.read.new.branch) c.if-not-alive.false c.in-Ok.ensures.read))

pub go_on-requires-clause-come : goal.go_on-requires-clause-come
go_on-requires-clause-come g c =
    let two = c.args.self.now.second.now.rules in
    let t = c.in-Some.turn in
    let rs : List ℕ = readers_with (t.reading.state, t.reading.label, t.reading.rank) two in
    let are : c.find-readers.result.now ≡ rs = c.find-readers.ensures ∙ c.args.self.now.indexed (t.reading.state, t.reading.label, t.reading.rank) in
    let look = c.in-Some-get.ensures.lookup in
    let ready = are_ready g.met.S.Semiring.laws two c.is_sound.ensures.shaped c.is_sound.ensures.leaves in
    let w = c.requires.begun in
    record {
      product = g.S.Semiring.product;
      two = two;
      ready = ready;
      known = c.requires.source;
      order = w.0;
      key = w.1;
      all = w.2;
      branch = turn_alive c.args.source.now c.args.left.now g.S.Semiring.product two ready c.requires.source w.0 w.1 w.2 c.args.search.now c.args.listing.now w.3 c.pop.new.self.items t c.in-Some.ensures.items
          c.in-Some-get.position.now (subst (λ (xs : List ℕ). t.tried < length xs) are look.3.0) (ap (λ (xs : List ℕ). get_or xs t.tried 0) (sym are) ∙ sym (look.3.1 0))
          c.back_to.new.self.branch c.read.new.branch c.back_to.ensures.done c.back_to.ensures.tasks c.back_to.ensures.next
          c.again.new.self c.in-Ok-again.ensures.again.branch
          (c.in-Ok-again.ensures.again.turns ∙ ap (λ (v : Vec ReturnPoint). v.items ++ tried_more t ∷ []) c.back_to.ensures.turns)
          (subst (IsRead g.S.Semiring.product two c.args.source.now t c.in-Some-get.position.now c.back_to.new.self.branch c.read.new.branch) c.if-not-alive.false c.in-Ok.ensures.read);
    }
