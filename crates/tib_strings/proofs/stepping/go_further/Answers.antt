use Rattle.std.proofs.Common.{arith, ap, sym, ◌∙◌, ◌≡◌, ◌∷◌, [], length}
use Rattle.std.proofs.lemmas.List.{length-append}
use Rattle.tib_strings.proofs.Searching.{moved, left}
use Rattle.tib_strings.proofs.stepping.go_further.Goals as goal

pub returns-then-can_move : goal.returns-then-can_move
returns-then-can_move c string i j b =
    let xs = c.loop-place.places.items in
    let ks = c.pop.new.self.items in
    let pos : c.len-position.result ≡ length ks = omega (arith, c.len-position.ensures, c.pop.new.self.ok.0) in
    let m = moved string c.args.tokens.now i j c.args.bounds.now b xs ks c.in-Some.place c.len-position.result c.in-Some.ensures.items pos c.loop-place.invariant.begun c.push.new.self.items
    (sym c.can_move.ensures ∙ c.if-can_move.true) c.in_ok-push.ensures.items
    in (m.0, c.loop-place.invariant.same string i j b ∙ m.1)

pub loop-place-preserved : goal.loop-place-preserved
loop-place-preserved c =
    let xs = c.loop-place.places.items in
    let ks = c.pop.new.self.items in
    let pos : c.len-position.result ≡ length ks = omega (arith, c.len-position.ensures, c.pop.new.self.ok.0) in
    record {
      begun = omega (arith, ap length c.in-Some.ensures.items, length-append ks (c.in-Some.place ∷ []), c.loop-place.invariant.begun);
      same = λ string i j b. c.loop-place.invariant.same string i j b
          ∙ left string c.args.tokens.now i j c.args.bounds.now b xs ks c.in-Some.place c.len-position.result c.in-Some.ensures.items pos c.loop-place.invariant.begun (sym c.can_move.ensures ∙ c.if-can_move.false);
    }
