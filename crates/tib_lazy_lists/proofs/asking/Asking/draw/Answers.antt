use Rattle.std.specs.Prelude.{◌≡◌, ◌<◌, ◌+◌, ℕ, List, [], length, map}
use Rattle.std.proofs.Common.{arith, ap, sym, ◌∙◌, subst, get_or}
use Rattle.std.proofs.Math.ListN.{set}
use Rattle.std.proofs.lemmas.List.{get_or-set_same, get_or-set_other}
use Rattle.tib_lex.proofs.Members.{has_at}
use Rattle.tib_lazy_lists.specs.AskingOf.{asking_of, state_of, state_at, no_state, rules_of, StateOf}
use Rattle.tib_lazy_lists.specs.Asks.{IsDrawn, HasDrawn, turns_of}
use Rattle.tib_lazy_lists.specs.Offers.{room}
use Rattle.tib_lazy_lists.proofs.Placed.{fewer_turns, whole_then, drawn_all, put_state, state_read, rules_read, rules_are}
use Rattle.tib_lazy_lists.proofs.asking.Asking.draw.Goals as goal

pub draw-requires-clause-rules : goal.draw-requires-clause-rules
draw-requires-clause-rules g c = λ i h.
    let a = asking_of c.args.self.now in
    let u : ℕ = c.args.state in
    let inside : u < length a.by_state = omega (arith, c.requires.state, c.requires.kept.long, c.requires.kept.many) in
    let same : c.deref.result.now ≡ get_or a.by_state u [] = c.deref.ensures.value ∙ ap rules_of c.index-rules.ensures ∙ rules_read c.args.self.now.by_state.items u c.index-rules.result.now inside in
    ((rules_are g.S.Semiring.product c.args.lists.now a c.requires.kept u).only (get_or c.deref.result.now i 0) (subst (λ ns. Rattle.tib_lex.specs.Lists.Has ns (get_or c.deref.result.now i 0)) same (has_at c.deref.result.now i 0 h))).0

pub returns-clause-drawn : goal.returns-clause-drawn
returns-clause-drawn g c =
    let a = asking_of c.args.self.now in
    let u : ℕ = c.args.state in
    let inside : u < length a.by_state = omega (arith, c.requires.state, c.requires.kept.long, c.requires.kept.many) in
    let same : c.deref.result.now ≡ get_or a.by_state u [] = c.deref.ensures.value ∙ ap rules_of c.index-rules.ensures ∙ rules_read c.args.self.now.by_state.items u c.index-rules.result.now inside in
    let state : state_of c.index_mut.result.now ≡ state_at a u = ap state_of c.index_mut.ensures.value ∙ state_read c.args.self.now.states.items u c.index_mut.result.now c.requires.state in
    subst (λ (ss : List StateOf). HasDrawn g.S.Semiring.product c.draw.new.lists (record a { states = ss }) u c.in_ok-drawn.drawn) (sym (put_state c.args.self.now.states.items u c.index_mut.result.now c.draw.new.self))
    (drawn_all g.met.S.Semiring.laws c.args.lists.now a c.requires.kept c.requires.orderly u c.requires.state c.requires.left c.requires.free c.requires.answered c.draw.new.lists (state_of c.draw.new.self) c.in_ok-drawn.drawn
    (subst (λ (ns : List ℕ). IsDrawn g.S.Semiring.product c.args.lists.now ns (state_at a u) c.draw.new.lists (state_of c.draw.new.self) c.in_ok-drawn.drawn) same
    (subst (λ (s : StateOf). IsDrawn g.S.Semiring.product c.args.lists.now c.deref.result.now s c.draw.new.lists (state_of c.draw.new.self) c.in_ok-drawn.drawn) state c.in_ok-drawn.ensures)))

pub returns-clause-fewer : goal.returns-clause-fewer
returns-clause-fewer g c =
    let a = asking_of c.args.self.now in
    let u : ℕ = c.args.state in
    let state : state_of c.index_mut.result.now ≡ state_at a u = ap state_of c.index_mut.ensures.value ∙ state_read c.args.self.now.states.items u c.index_mut.result.now c.requires.state in
    fewer_turns c.args.lists.now a u c.requires.state c.draw.new.lists (state_of c.draw.new.self) _ (put_state c.args.self.now.states.items u c.index_mut.result.now c.draw.new.self)
    (subst (λ (s : StateOf). room c.draw.new.lists + turns_of (state_of c.draw.new.self) < room c.args.lists.now + turns_of s) state
    (c.in_ok-drawn.ensures.fewer (λ e. c.requires.left (ap (λ (s : StateOf). s.stage) (sym state) ∙ e))))

pub returns-clause-more : goal.returns-clause-more
returns-clause-more g c = c.in_ok-drawn.ensures.more

pub returns-clause-others : goal.returns-clause-others
returns-clause-others g c = λ q n.
    ap (λ (ss : List StateOf). get_or ss q no_state) (put_state c.args.self.now.states.items c.args.state c.index_mut.result.now c.draw.new.self)
    ∙ get_or-set_other (asking_of c.args.self.now).states c.args.state q (state_of c.draw.new.self) no_state n

pub returns-clause-whole : goal.returns-clause-whole
returns-clause-whole g c =
    let a = asking_of c.args.self.now in
    let u : ℕ = c.args.state in
    let state : state_of c.index_mut.result.now ≡ state_at a u = ap state_of c.index_mut.ensures.value ∙ state_read c.args.self.now.states.items u c.index_mut.result.now c.requires.state in
    let now : get_or (map state_of (set c.args.self.now.states.items u c.draw.new.self)) u no_state ≡ state_of c.draw.new.self =
    ap (λ (ss : List StateOf). get_or ss u no_state) (put_state c.args.self.now.states.items u c.index_mut.result.now c.draw.new.self) ∙ get_or-set_same a.states u (state_of c.draw.new.self) no_state c.requires.state
    in
    whole_then c.draw.new.lists c.in_ok-drawn.ensures.waited (state_of c.draw.new.self) _ now c.in_ok-drawn.drawn (c.in_ok-drawn.ensures.drawn (λ e. c.requires.left (ap (λ (s : StateOf). s.stage) (sym state) ∙ e)))
