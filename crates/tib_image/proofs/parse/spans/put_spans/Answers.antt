use Rattle.std.proofs.Common.{◌≡◌, ◌<◌, ◌-◌, suc, ℕ, arith, sym, ◌∙◌, subst, length, get_or, refl}
use Rattle.std.specs.Prelude.{slice_set}
use Rattle.std.proofs.lemmas.List.{length-set}
use Rattle.tib_lex.proofs.Places.{any_default}
use Rattle.tib_transducer.specs.declared.Pair.{Pair}
use Rattle.tib_strings.specs.declared.Word.TheVariants.{Word}
use Rattle.tib_image.proofs.Spanned.{AtFrom, at_end, at_word, at_pair, pair_at}
use Rattle.tib_image.proofs.parse.spans.put_spans.Goals as goal

pub loop-position-init : goal.loop-position-init
loop-position-init c = record {
  within = omega arith;
  long = refl;
  at = at_end c.args.tokens.now c.args.from c.args.places.now (length c.args.tokens.now) c.clear.new.spans.items refl c.clear.ensures.empty;
}

pub index_mut-requires : goal.index_mut-requires
index_mut-requires c =
    let ws = c.args.tokens.now in
    let n : ℕ = c.loop-position.position - 1 in
    let low : n < length ws = omega (arith, c.loop-position-test.true, c.loop-position.invariant.within) in
    let x = pair_at (λ (x : Pair ℕ). x.variable < length c.args.spans.now.items) ws n c.in-Hole.pair low (any_default ws n (Word 0) _ low ∙ c.in-Hole.is) c.requires.known in
    omega (arith, x, c.loop-position.invariant.long, c.clear.ensures.long, c.loop-position.spans.ok.0)

pub loop-position-preserved-in-Hole : goal.loop-position-preserved-in-Hole
loop-position-preserved-in-Hole c =
    let ws = c.args.tokens.now in
    let i = c.args.from in
    let ks = c.args.places.now in
    let by = c.loop-position.spans.items in
    let x = c.in-Hole.pair in
    let n : ℕ = c.loop-position.position - 1 in
    let next : c.loop-position.position ≡ suc n = omega (arith, c.loop-position-test.true) in
    let low : n < length ws = omega (arith, c.loop-position-test.true, c.loop-position.invariant.within) in
    let is = any_default ws n (Word 0) _ low ∙ c.in-Hole.is in
    let few = pair_at (λ (y : Pair ℕ). y.variable < length c.args.spans.now.items) ws n x low is c.requires.known in
    record {
      within = omega (arith, c.loop-position.invariant.within);
      long = length-set by x.variable (x.state, c.place_at-before.result, get_or ks n 0) ∙ c.loop-position.invariant.long;
      at = subst (λ (b : ℕ). AtFrom ws i ks n (slice_set by x.variable (x.state, b, get_or ks n 0))) (sym c.place_at-before.ensures)
          (at_pair ws i ks n c.requires.as_many low by x is (omega (arith, few, c.loop-position.invariant.long, c.clear.ensures.long)) (subst (λ m. AtFrom ws i ks m by) next c.loop-position.invariant.at));
    }

pub loop-position-preserved : goal.loop-position-preserved
loop-position-preserved c =
    let ws = c.args.tokens.now in
    let i = c.args.from in
    let ks = c.args.places.now in
    let by = c.loop-position.spans.items in
    let n : ℕ = c.loop-position.position - 1 in
    let next : c.loop-position.position ≡ suc n = omega (arith, c.loop-position-test.true) in
    let low : n < length ws = omega (arith, c.loop-position-test.true, c.loop-position.invariant.within) in
    record {
      within = omega (arith, c.loop-position.invariant.within);
      long = c.loop-position.invariant.long;
      at = at_word ws i ks n c.requires.as_many low by c.in_default.field-0 (any_default ws n (Word 0) _ low ∙ c.in_default.is) (subst (λ m. AtFrom ws i ks m by) next c.loop-position.invariant.at);
    }

pub returns-clause-at : goal.returns-clause-at
returns-clause-at c =
    let none : c.loop-position.position ≡ 0 = omega (arith, c.loop-position-test.false) in
    subst (λ n. AtFrom c.args.tokens.now c.args.from c.args.places.now n c.loop-position.spans.items) none c.loop-position.invariant.at
