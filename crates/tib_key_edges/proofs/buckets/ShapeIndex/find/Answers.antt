use Rattle.std.specs.Global.{Vec}
use Rattle.std.specs.HashMap.{get}
use Rattle.std.proofs.Common.{sym, ap, ◌∙◌, ◌≡◌, Some, ℕ, [], arith}
use Rattle.std.proofs.lemmas.List.{get_or-map}
use Rattle.tib_grammar.specs.ShapeBuckets.{bucket_at, lists_of, same_shape}
use Rattle.tib_key_edges.proofs.buckets.ShapeIndex.find.Goals as goal

pub index-requires : goal.index-requires
index-requires c =
    omega (arith, c.args.self.now.numbered.within (c.args.state, c.args.label, c.args.rank) c.in-Some.number.now (sym c.in-Some.ensures.value), c.args.self.now.buckets.ok.0)

pub returns-in-Some : goal.returns-in-Some
returns-in-Some c =
    let shape : ℕ × ℕ × ℕ = (c.args.state, c.args.label, c.args.rank) in
    let at : get same_shape c.args.self.now.shapes shape ≡ Some c.in-Some.number.now = sym c.in-Some.ensures.value in
    let within = c.args.self.now.numbered.within shape c.in-Some.number.now at in
    c.deref.ensures.value
    ∙ ap (λ (b : Vec ℕ). b.items) c.index.ensures
    ∙ sym (get_or-map (λ (b : Vec ℕ). b.items) c.args.self.now.buckets.items c.in-Some.number.now c.index.result.now [] within)
    ∙ ap (bucket_at (lists_of c.args.self.now.buckets.items)) (sym at)
