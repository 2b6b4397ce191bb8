use Rattle.std.proofs.Common.{◌≡◌, ◌+◌, ◌<◌, ◌++◌, Err, zero, suc, [], ◌∷◌, refl, ℕ, List, length, take, get_or, arith, sym, ap, ◌∙◌, subst}
use Rattle.std.specs.declared.result.Result.{Result}
use Rattle.tib_expand.specs.declared.place.ExpandError.{ExpandError}
use Rattle.tib_lex.specs.Lists.{Has, total}
use Rattle.tib_transducer.specs.Moves.{moves_of}
use Rattle.tib_transducer.proofs.Moves.{move_is}
use Rattle.tib_key_edges.specs.Composition.{edge_parts}
use Rattle.tib_compose.specs.KeyEdges.{rule_edges}
use Rattle.tib_compose.specs.CompositionListing.{IsListing}
use Rattle.tib_compose.specs.Searches.{all_of}
use Rattle.tib_compose.specs.declared.listing.CompositionListing.{CompositionListing}
use Rattle.tib_compose.proofs.Walking.{has_there}
use Rattle.tib_compose.proofs.Whole.{rule_more, rules_all, rules_front}
use Rattle.tib_compose.proofs.composite.Composite.list_edges.Goals as goal

same_fault : (f : ExpandError) → ◌≡◌ {A = Result CompositionListing ExpandError} (Err f) (Err ExpandError.More) → ◌≡◌ {A = Result (Unit {0}) ExpandError} (Err f) (Err ExpandError.More)
same_fault f e = let is : f ≡ ExpandError.More = cc in ap Err is

any_at : (xs : List ℕ) (i d e : ℕ) → i < length xs → get_or xs i d ≡ get_or xs i e
any_at [] i d e h = absurd (omega arith)
any_at (x ∷ xs) zero d e h = refl
any_at (x ∷ xs) (suc i) d e h = any_at xs i d e (omega arith)

itself_at : (xs : List ℕ) (i : ℕ) → i < length xs → get_or xs i 0 ≡ get_or xs i (get_or xs i 0)
itself_at xs i h = any_at xs i 0 (get_or xs i 0) h

-- an order in which the pair has the position
order_with : (n : ℕ) (k : ℕ × ℕ) → (order : List (ℕ × ℕ)) × (n < length order) × (get_or order n (0, 0) ≡ k)
order_with zero k = (k ∷ [], omega arith, refl)
order_with (suc n) k = let r = order_with n k in ((0, 0) ∷ r.0, omega (arith, r.1), r.2)

pub list_rule-requires-clause-listing : goal.list_rule-requires-clause-listing
list_rule-requires-clause-listing g c =
    let ps = c.of-rule_position-items.result.now in
    let i = c.loop-rule_position.rule_position-index in
    let o = order_with c.args.position c.args.key in
    (o.0, all_of (rule_edges g.S.Semiring.product c.args.self.now.first.now.rules c.args.self.now.second.now.rules c.args.key) (take i ps), c.loop-rule_position.invariant.listed o.0 o.1 o.2)

pub list_rule-requires-clause-below : goal.list_rule-requires-clause-below
list_rule-requires-clause-below g c =
    let one = c.args.self.now.first.now.rules in
    let ps = c.of-rule_position-items.result.now in
    let are : ps ≡ moves_of c.args.key.0 one = c.of-rule_position-items.ensures one c.args.self.now.moved ∙ ap (λ q. moves_of q one) c.first.ensures in
    let i = c.loop-rule_position.rule_position-index in
    (move_is c.args.key.0 one (get_or ps i 0) (subst (λ xs. Has xs (get_or ps i 0)) are (has_there i ps 0 c.loop-rule_position-test.true))).0

pub returns-in-Err-clause-more : goal.returns-in-Err-clause-more
returns-in-Err-clause-more g c = λ e order within at.
    let one = c.args.self.now.first.now.rules in
    let two = c.args.self.now.second.now.rules in
    let ps = c.of-rule_position-items.result.now in
    let are : ps ≡ moves_of c.args.key.0 one = c.of-rule_position-items.ensures one c.args.self.now.moved ∙ ap (λ q. moves_of q one) c.first.ensures in
    let i = c.loop-rule_position.rule_position-index in
    let over = c.list_rule.ensures.more (c.in-Err.is ∙ same_fault c.in-Err.fault e) order (all_of (rule_edges g.S.Semiring.product one two c.args.key) (take i ps)) (c.loop-rule_position.invariant.listed order within at) in
    rules_front g.S.Semiring.product one two c.args.key ps are (i + 1) c.args.budget
    (subst (λ n. n < total edge_parts (all_of (rule_edges g.S.Semiring.product one two c.args.key) (take (i + 1) ps))) c.loop-rule_position.invariant.budget
    (subst (λ es. c.loop-rule_position.listing.budget < total edge_parts es) (rule_more g.S.Semiring.product one two c.args.key ps are i (get_or ps i 0) c.loop-rule_position-test.true (itself_at ps i c.loop-rule_position-test.true)) over))

pub loop-rule_position-preserved : goal.loop-rule_position-preserved
loop-rule_position-preserved g c =
    let one = c.args.self.now.first.now.rules in
    let two = c.args.self.now.second.now.rules in
    let ps = c.of-rule_position-items.result.now in
    let are : ps ≡ moves_of c.args.key.0 one = c.of-rule_position-items.ensures one c.args.self.now.moved ∙ ap (λ q. moves_of q one) c.first.ensures in
    let i = c.loop-rule_position.rule_position-index in
    record {
      within = c.in-Ok.ensures.within;
      budget = c.in-Ok.ensures.budget ∙ c.loop-rule_position.invariant.budget;
      listed = λ order within at.
          subst (λ es. IsListing order c.args.key es c.list_rule.new.listing) (rule_more g.S.Semiring.product one two c.args.key ps are i (get_or ps i 0) c.loop-rule_position-test.true (itself_at ps i c.loop-rule_position-test.true))
          (c.in-Ok.ensures.listed order (all_of (rule_edges g.S.Semiring.product one two c.args.key) (take i ps)) (c.loop-rule_position.invariant.listed order within at));
    }

pub returns-clause-listed : goal.returns-clause-listed
returns-clause-listed g c = λ order within at.
    let one = c.args.self.now.first.now.rules in
    let two = c.args.self.now.second.now.rules in
    let ps = c.of-rule_position-items.result.now in
    let are : ps ≡ moves_of c.args.key.0 one = c.of-rule_position-items.ensures one c.args.self.now.moved ∙ ap (λ q. moves_of q one) c.first.ensures in
    subst (λ es. IsListing order c.args.key es c.loop-rule_position.listing) (rules_all g.S.Semiring.product one two c.args.key ps are c.loop-rule_position.rule_position-index c.loop-rule_position-test.false)
    (c.loop-rule_position.invariant.listed order within at)
