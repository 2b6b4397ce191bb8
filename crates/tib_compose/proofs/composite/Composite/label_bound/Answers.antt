use Rattle.std.proofs.Common.{◌≡◌, ℕ, List, length, get_or, arith, inl, inr, sym, ◌∙◌, subst}
use Rattle.tib_lex.specs.Lists.{Has}
use Rattle.tib_compose.specs.Bounding.{BoundsReader}
use Rattle.tib_compose.specs.Readers.{readers_with}
use Rattle.tib_compose.proofs.Bounded.{one_more_has, whole_has}
use Rattle.tib_compose.proofs.Walking.{has_there, is_reader}
use Rattle.tib_compose.proofs.composite.Composite.label_bound.Goals as goal

pub reader_bound-requires-clause-below : goal.reader_bound-requires-clause-below
reader_bound-requires-clause-below g c =
    let two = c.args.self.now.second.now.rules in
    let r = c.args.reading in
    let ps = c.find-position-items.result.now in
    let i = c.loop-position.position-index in
    let are : ps ≡ readers_with (r.state, r.label, r.rank) two = c.find-position-items.ensures ∙ c.args.self.now.indexed (r.state, r.label, r.rank) in
    (is_reader two r.state r.label r.rank (length two) (get_or ps i 0) (omega arith) (subst (λ xs. Has xs (get_or ps i 0)) are (has_there i ps 0 c.loop-position-test.true))).0

pub loop-position-preserved : goal.loop-position-preserved
loop-position-preserved g c = λ m h ready known p f rank low reads d k.
    let two = c.args.self.now.second.now.rules in
    let ps = c.find-position-items.result.now in
    let i = c.loop-position.position-index in
    elim (one_more_has ps i m c.loop-position-test.true h) [
      | inl a ↦ c.lesser_of-least.ensures.first _ (c.loop-position.invariant m a ready known p f rank low reads d k)
      | inr e ↦
          c.lesser_of-least.ensures.second _
          (subst (λ j. BoundsReader g.S.Semiring.product two c.args.source.now c.args.reading.node j c.in_ok-bound.bound) e c.in_ok-bound.ensures ready known p f rank low reads d k)
    ]

pub returns : goal.returns
returns g c = λ ready known m h.
    let two = c.args.self.now.second.now.rules in
    let r = c.args.reading in
    let ps = c.find-position-items.result.now in
    let is = is_reader two r.state r.label r.rank (length two) m (omega arith) h in
    let there : Has ps m = subst (λ (xs : List ℕ). Has xs m) (sym (c.find-position-items.ensures ∙ c.args.self.now.indexed (r.state, r.label, r.rank))) h in
    c.loop-position.invariant m (whole_has ps c.loop-position.position-index m c.loop-position-test.false there) ready known r.state r.label r.rank is.0 is.1
