use Rattle.std.proofs.Common.{◌≡◌, ℕ, ◌<◌, ◌≤◌, None, Some, length, arith, ap, sym, subst, ◌∙◌, get_or}
use Rattle.std.proofs.lemmas.List.{get_or_read}
use Rattle.tib_determinize.specs.Lookup.{residual_in}
use Rattle.tib_determinize.specs.Vectors.{VectorOf, Rises}
use Rattle.tib_determinize.proofs.LookedUp.{found_at, not_found}
use Rattle.tib_determinize.proofs.vector.Vector.residual_ascending.Goals as goal

pub returns-then-at-len : goal.returns-then-at-len
returns-then-at-len c =
    let v = c.deref.result.now in
    let n = c.count_below-at.result in
    let is : v ≡ c.args.self.now = c.deref.ensures.value ∙ c.self.view_is in
    let past : length v ≤ n = (let test = c.if-at-len.true in let e = ap (λ (xs : VectorOf). length xs) c.deref.ensures.value in omega (arith, test, e, c.len.ensures)) in
    sym (subst (λ (xs : VectorOf). residual_in c.args.state xs ≡ None) is
    (not_found v c.args.state n (subst (λ (xs : VectorOf). Rises xs) (sym is) c.requires) c.count_below-at.ensures.before c.count_below-at.ensures.behind (λ low. absurd (omega (arith, past, low)))))

pub returns-then-other-state : goal.returns-then-other-state
returns-then-other-state c =
    let v = c.deref.result.now in
    let n = c.count_below-at.result in
    let is : v ≡ c.args.self.now = c.deref.ensures.value ∙ c.self.view_is in
    let low : n < length v = (let test = c.if-at-len.false in let e = ap (λ (xs : VectorOf). length xs) c.deref.ensures.value in omega (arith, test, e, c.len.ensures)) in
    let entry : c.index.result.now ≡ get_or v n c.index.result.now = c.index.ensures ∙ ap (λ (xs : VectorOf). get_or xs n c.index.result.now) (sym c.deref.ensures.value) in
    let at = get_or_read v n c.index.result.now low entry (0, 0) in
    sym (subst (λ (xs : VectorOf). residual_in c.args.state xs ≡ Some c.index.result.now.1) is
    (found_at v c.args.state n low c.count_below-at.ensures.before (ap (λ (x : ℕ × ℕ). x.0) (sym at) ∙ c.if-other-state.true) ∙ ap (λ (x : ℕ × ℕ). Some x.1) (sym at)))

pub returns-else-other-state : goal.returns-else-other-state
returns-else-other-state c =
    let v = c.deref.result.now in
    let n = c.count_below-at.result in
    let is : v ≡ c.args.self.now = c.deref.ensures.value ∙ c.self.view_is in
    let low : n < length v = (let test = c.if-at-len.false in let e = ap (λ (xs : VectorOf). length xs) c.deref.ensures.value in omega (arith, test, e, c.len.ensures)) in
    let entry : c.index.result.now ≡ get_or v n c.index.result.now = c.index.ensures ∙ ap (λ (xs : VectorOf). get_or xs n c.index.result.now) (sym c.deref.ensures.value) in
    let at = get_or_read v n c.index.result.now low entry (0, 0) in
    sym (subst (λ (xs : VectorOf). residual_in c.args.state xs ≡ None) is
    (not_found v c.args.state n (subst (λ (xs : VectorOf). Rises xs) (sym is) c.requires) c.count_below-at.ensures.before c.count_below-at.ensures.behind
    (λ l e. c.if-other-state.false (ap (λ (x : ℕ × ℕ). x.0) at ∙ e))))
