use Rattle.std.proofs.Common.{arith, ap, sym, ◌∙◌, subst, ◌≡◌, ◌-◌, ◌<◌, ℕ, List, suc, drop, length, get_or, false, Bool}
use Rattle.std.proofs.lemmas.List.{length-set}
use Rattle.tib_lex.proofs.Places.{any_default}
use Rattle.tib_strings.specs.Bounds.{IsRow, IsLast}
use Rattle.tib_strings.proofs.Bounding.{none_marked, first_unmarked, bounds_more, next_word, next_pair}
use Rattle.tib_strings.proofs.bounds.find_bounds.Goals as goal

pub returns-in_default : goal.returns-in_default
returns-in_default c =
    none_marked c.args.string.now c.args.from c.args.to c.requires.order c.loop-position.position c.args.tokens.now c.loop-position.row.items c.loop-position.invariant.row
    (λ p. ap (λ (xs : List Bool). get_or xs p false) (sym c.deref.ensures.value) ∙ c.last_marked.ensures.none c.in_default.is p)

pub loop-position-preserved-in-Word : goal.loop-position-preserved-in-Word
loop-position-preserved-in-Word c =
    let i = c.loop-position.invariant in
    let m : ℕ = c.loop-position.position - 1 in
    let e : c.loop-position.position ≡ suc m = omega (arith, c.loop-position-test.true) in
    let b : m < length c.args.tokens.now = omega (arith, c.loop-position-test.true, i.inside) in
    let last : IsLast c.loop-position.row.items c.in-Some.last = subst (λ (xs : List Bool). IsLast xs c.in-Some.last) c.deref.ensures.value c.in-Some.ensures.some in
    record {
      inside = omega (arith, i.inside);
      long = length-set c.loop-position.bounds.items m _ ∙ i.long;
      row = next_word c.args.string.now c.args.tokens.now c.args.from c.args.to c.requires.order c.loop-position.position m e b c.loop-position.row.items c.pass_word.new.row.items i.row c.in-Word.word c.in-Word.is c.pass_word.ensures;
      bounded = bounds_more c.args.string.now c.args.from c.args.to c.requires.order c.args.tokens.now c.loop-position.position m c.loop-position.bounds.items c.loop-position.row.items c.in-Some.last e i.long b i.row last i.bounded;
    }

pub loop-position-preserved : goal.loop-position-preserved
loop-position-preserved c =
    let i = c.loop-position.invariant in
    let m : ℕ = c.loop-position.position - 1 in
    let e : c.loop-position.position ≡ suc m = omega (arith, c.loop-position-test.true) in
    let b : m < length c.args.tokens.now = omega (arith, c.loop-position-test.true, i.inside) in
    let last : IsLast c.loop-position.row.items c.in-Some.last = subst (λ (xs : List Bool). IsLast xs c.in-Some.last) c.deref.ensures.value c.in-Some.ensures.some in
    record {
      inside = omega (arith, i.inside);
      long = length-set c.loop-position.bounds.items m _ ∙ i.long;
      row = next_pair c.args.string.now c.args.tokens.now c.args.from c.args.to c.requires.order c.loop-position.position m e b c.loop-position.row.items c.pass_pair.new.row.items i.row c.in-Hole.field-0 c.in-Hole.is c.in-Some.last last c.pass_pair.ensures;
      bounded = bounds_more c.args.string.now c.args.from c.args.to c.requires.order c.args.tokens.now c.loop-position.position m c.loop-position.bounds.items c.loop-position.row.items c.in-Some.last e i.long b i.row last i.bounded;
    }

pub returns : goal.returns
returns c =
    let z : c.loop-position.position ≡ 0 = omega (arith, c.loop-position-test.false) in
    let row : IsRow c.args.string.now c.args.tokens.now c.args.from c.args.to c.loop-position.row.items =
    subst (λ n. IsRow c.args.string.now (drop n c.args.tokens.now) c.args.from c.args.to c.loop-position.row.items) z c.loop-position.invariant.row
    in
    let some : 0 < length c.loop-position.row.items = omega (arith, row.long, c.requires.order) in
    first_unmarked c.args.string.now c.args.from c.args.to c.requires.order c.args.tokens.now c.loop-position.row.items row
    (any_default c.loop-position.row.items 0 false c.index.result.now some ∙ sym c.index.ensures ∙ c.if-index.false)
