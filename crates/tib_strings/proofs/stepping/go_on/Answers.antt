use Rattle.std.proofs.Common.{arith, ap, sym, ◌∙◌, ◌≡◌, ◌+◌, ◌++◌, ◌∷◌, [], ℕ, List, suc, length, get_or}
use Rattle.tib_strings.specs.declared.Word.TheVariants.{Word}
use Rattle.tib_strings.specs.Stacks.{back, top}
use Rattle.tib_strings.proofs.CutLists.{stands_is}
use Rattle.tib_strings.proofs.Searching.{on_word, off_word, on_hole, off_hole}
use Rattle.tib_strings.specs.CutLists.{stands}
use Rattle.tib_strings.proofs.stepping.go_on.Goals as goal

pub overflow_add-here : goal.overflow_add-here
overflow_add-here c =
    let s = stands_is c.args.string.now c.last_place-here.result c.in-Word.word (sym c.stands_at.ensures ∙ c.if-stands_at.true) in omega (arith, s.0, c.requires.few)

pub returns-then-stands_at-clause-goes : goal.returns-then-stands_at-clause-goes
returns-then-stands_at-clause-goes c j b =
    let ks : List ℕ = c.args.places.now.items in
    let here : c.last_place-here.result ≡ top c.args.from (back ks) = c.last_place-here.ensures ∙ ap (λ (xs : List ℕ). top c.args.from (back xs)) c.deref.ensures.value in
    let pos : c.len-position.result ≡ length ks = omega (arith, c.len-position.ensures, c.args.places.now.ok.0) in
    let next : c.last_place-here.result + 1 ≡ suc (top c.args.from (back ks)) = omega (arith, here) in
    on_word c.args.string.now c.args.tokens.now c.args.from j c.args.bounds.now b ks c.requires.open c.in-Word.word c.push.new.self.items
    (ap (λ n. get_or c.args.tokens.now n (Word 0)) (sym pos) ∙ c.in-Word.is)
    (ap (λ n. stands c.args.string.now n c.in-Word.word) (sym here) ∙ sym c.stands_at.ensures ∙ c.if-stands_at.true)
    (c.in_ok-push-in-Word.ensures.items ∙ ap (λ (n : ℕ). ks ++ n ∷ []) next)

pub returns-then-here-bounds-clause-goes : goal.returns-then-here-bounds-clause-goes
returns-then-here-bounds-clause-goes c j b =
    let ks : List ℕ = c.args.places.now.items in
    let here : c.last_place-here.result ≡ top c.args.from (back ks) = c.last_place-here.ensures ∙ ap (λ (xs : List ℕ). top c.args.from (back xs)) c.deref.ensures.value in
    let pos : c.len-position.result ≡ length ks = omega (arith, c.len-position.ensures, c.args.places.now.ok.0) in
    on_hole c.args.string.now c.args.tokens.now c.args.from j c.args.bounds.now b ks c.requires.open c.in-Hole.field-0 c.push-then-here-bounds.new.self.items
    (ap (λ n. get_or c.args.tokens.now n (Word 0)) (sym pos) ∙ c.in-Hole.is)
    (omega (arith, c.if-here-bounds.true, here, ap (λ n. get_or c.args.bounds.now n 0) pos))
    (c.in_ok-push-in-Hole.ensures.items ∙ ap (λ (n : ℕ). ks ++ n ∷ []) here)

pub returns-else-stands_at-clause-goes : goal.returns-else-stands_at-clause-goes
returns-else-stands_at-clause-goes c j b =
    let ks : List ℕ = c.args.places.now.items in
    let here : c.last_place-here.result ≡ top c.args.from (back ks) = c.last_place-here.ensures ∙ ap (λ (xs : List ℕ). top c.args.from (back xs)) c.deref.ensures.value in
    let pos : c.len-position.result ≡ length ks = omega (arith, c.len-position.ensures, c.args.places.now.ok.0) in
    off_word c.args.string.now c.args.tokens.now c.args.from j c.args.bounds.now b ks c.requires.open c.in-Word.word
    (ap (λ n. get_or c.args.tokens.now n (Word 0)) (sym pos) ∙ c.in-Word.is)
    (ap (λ n. stands c.args.string.now n c.in-Word.word) (sym here) ∙ sym c.stands_at.ensures ∙ c.if-stands_at.false)

pub returns-else-here-bounds-clause-goes : goal.returns-else-here-bounds-clause-goes
returns-else-here-bounds-clause-goes c j b =
    let ks : List ℕ = c.args.places.now.items in
    let here : c.last_place-here.result ≡ top c.args.from (back ks) = c.last_place-here.ensures ∙ ap (λ (xs : List ℕ). top c.args.from (back xs)) c.deref.ensures.value in
    let pos : c.len-position.result ≡ length ks = omega (arith, c.len-position.ensures, c.args.places.now.ok.0) in
    off_hole c.args.string.now c.args.tokens.now c.args.from j c.args.bounds.now b ks c.requires.open c.in-Hole.field-0
    (ap (λ n. get_or c.args.tokens.now n (Word 0)) (sym pos) ∙ c.in-Hole.is)
    (omega (arith, c.if-here-bounds.false, here, ap (λ n. get_or c.args.bounds.now n 0) pos))
