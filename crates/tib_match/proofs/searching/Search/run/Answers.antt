use Rattle.std.proofs.Common.{rules, ◌≡◌, ◌++◌, ◌∷◌, [], ℕ, List, length, replicate, arith, ap, sym, ◌∙◌, subst}
use Rattle.std.proofs.lemmas.List.{map-append, nil_from_length}
use Rattle.tib_grammar.specs.Range.{AreInRange}
use Rattle.tib_grammar.specs.declared.Rule.{Rule}
use Rattle.tib_match.specs.Searching.{IsUnderway, boxes_of}
use Rattle.tib_match.specs.declared.spans.Span.{Span}
use Rattle.tib_match.proofs.BoxSearch.{started, finished, overrun}
use Rattle.tib_match.proofs.StackedItems.{last_long}
use Rattle.tib_match.proofs.searching.Search.run.Goals as goal

pub loop-turn-init : goal.loop-turn-init
loop-turn-init g c =
    let self = c.args.self.now in
    let n : ℕ = c.states.result in
    let names : n ≡ length self.normal.now.names = search rules in
    let all : c.grammar-grammar.result.now.rules ≡ self.normal.now.rules = search rules in
    let range = subst (λ (rs : List (Rule ℕ)). AreInRange n rs) all (subst (λ k. AreInRange k c.grammar-grammar.result.now.rules) (sym c.states.ensures) c.is_sound.ensures.range) in
    let boxes : boxes_of c.push.new.self.items ≡ replicate (length self.costs.now) (record { low = 0; high = n }) ∷ [] =
    ap boxes_of (c.in_ok-push.ensures.items ∙ ap (λ ws. ws ++ c.in_ok-whole_box.field-0 ∷ []) c.new-waiting.ensures.items) ∙ ap (λ (b : List Span). b ∷ []) c.in_ok-whole_box.ensures
    in
    subst (λ fs. IsUnderway g.S.Semiring.product self.normal.now.rules c.args.side.now self.state self.above self.costs.now fs (boxes_of c.push.new.self.items)) (sym c.new-found.ensures.items)
    (subst (λ bs. IsUnderway g.S.Semiring.product self.normal.now.rules c.args.side.now self.state self.above self.costs.now [] bs) (sym boxes)
    (started g.met.S.Semiring.laws self.normal.now.rules c.grammar-grammar.ensures.normal.normal c.args.side.now c.items.ensures.leaves self.state self.above self.costs.now n (omega (arith, c.requires.state, names)) range))

pub search_box-requires : goal.search_box-requires
search_box-requires g c =
    let path : boxes_of c.loop-turn.waiting.items ≡ boxes_of c.pop.new.self.items ++ c.deref.result.now ∷ [] =
    ap boxes_of c.in-Some.ensures.items ∙ map-append (λ b. b.items) c.pop.new.self.items (c.in-Some.spans ∷ []) ∙ ap (λ (b : List Span). boxes_of c.pop.new.self.items ++ b ∷ []) (sym c.deref.ensures.value)
    in
    let costs = c.requires.costs in
    let spans = last_long (length c.args.self.now.costs.now) (boxes_of c.loop-turn.waiting.items) (boxes_of c.pop.new.self.items) c.deref.result.now path c.loop-turn.invariant.long ∙ costs in
    search (rules, costs, spans)

pub loop-turn-preserved : goal.loop-turn-preserved
loop-turn-preserved g c =
    let self = c.args.self.now in
    let path : boxes_of c.loop-turn.waiting.items ≡ boxes_of c.pop.new.self.items ++ c.deref.result.now ∷ [] =
    ap boxes_of c.in-Some.ensures.items ∙ map-append (λ b. b.items) c.pop.new.self.items (c.in-Some.spans ∷ []) ∙ ap (λ (b : List Span). boxes_of c.pop.new.self.items ++ b ∷ []) (sym c.deref.ensures.value)
    in
    c.in_ok-search_box.ensures (subst (λ bs. IsUnderway g.S.Semiring.product self.normal.now.rules c.args.side.now self.state self.above self.costs.now c.loop-turn.found.items bs) path c.loop-turn.invariant)

pub returns-in_default : goal.returns-in_default
returns-in_default g c =
    let self = c.args.self.now in
    let none : length c.loop-turn.waiting.items ≡ 0 = search rules in
    finished g.met.S.Semiring.laws self.normal.now.rules c.grammar-grammar.ensures.normal.normal c.args.side.now c.items.ensures.leaves self.state self.above self.costs.now c.loop-turn.found.items
    (subst (λ ws. IsUnderway g.S.Semiring.product self.normal.now.rules c.args.side.now self.state self.above self.costs.now c.loop-turn.found.items (boxes_of ws)) (nil_from_length c.loop-turn.waiting.items none) c.loop-turn.invariant)

pub returns-then-len-most : goal.returns-then-len-most
returns-then-len-most g c =
    let self = c.args.self.now in
    let long : c.len.result ≡ length c.search_box.new.found.items = search rules in
    let path : boxes_of c.loop-turn.waiting.items ≡ boxes_of c.pop.new.self.items ++ c.deref.result.now ∷ [] =
    ap boxes_of c.in-Some.ensures.items ∙ map-append (λ b. b.items) c.pop.new.self.items (c.in-Some.spans ∷ []) ∙ ap (λ (b : List Span). boxes_of c.pop.new.self.items ++ b ∷ []) (sym c.deref.ensures.value)
    in
    overrun g.met.S.Semiring.laws self.normal.now.rules c.grammar-grammar.ensures.normal.normal c.args.side.now c.items.ensures.leaves self.state self.above self.costs.now
    c.search_box.new.found.items (boxes_of c.search_box.new.waiting.items) c.args.most
    (c.in_ok-search_box.ensures (subst (λ bs. IsUnderway g.S.Semiring.product self.normal.now.rules c.args.side.now self.state self.above self.costs.now c.loop-turn.found.items bs) path c.loop-turn.invariant))
    (omega (arith, long, c.if-len-most.true))
