use Rattle.std.specs.Global.{Vec}
use Rattle.std.proofs.Common.{ℕ, List, ◌≡◌, arith, sym, ◌∙◌, ap, Option, Some, ◌++◌, ◌∷◌, []}
use Rattle.std.proofs.lemmas.List.{get_or-map}
use Rattle.std.specs.HashMap.{get}
use Rattle.std.specs.Map.{lookup}
use Rattle.tib_grammar.specs.ShapeBuckets.{bucket_at, lists_of, same_shape}
use Rattle.tib_grammar.proofs.ShapeBuckets.{held-set, numbered-new}
use Rattle.tib_key_edges.proofs.Kept.{bucket_before, bucket_same, on_error}
use Rattle.tib_key_edges.proofs.buckets.add_to.Goals as goal

pub index_mut-requires : goal.index_mut-requires
index_mut-requires c = omega (arith, c.requires.numbered.within c.args.shape c.in-Some.number (sym c.get.ensures.value ∙ sym c.copied.ensures ∙ c.in-Some.is))

pub returns-in-Some-clause-added : goal.returns-in-Some-clause-added
returns-in-Some-clause-added c =
    let at : get same_shape c.args.shapes.now c.args.shape ≡ Some c.in-Some.number = sym c.get.ensures.value ∙ sym c.copied.ensures ∙ c.in-Some.is in
    held-set (get same_shape c.args.shapes.now) c.args.buckets.now.items c.args.shape c.in-Some.number c.args.position c.push.new.self at
    (c.requires.numbered.within c.args.shape c.in-Some.number at)
    (λ t h. c.requires.numbered.apart c.args.shape t c.in-Some.number at h)
    (c.in_ok-push.ensures.items ∙ ap (λ (xs : List ℕ). xs ++ c.args.position ∷ [])
    (ap (λ (b : Vec ℕ). b.items) c.index_mut.ensures.value
    ∙ sym (get_or-map (λ (b : Vec ℕ). b.items) c.args.buckets.now.items c.in-Some.number c.index_mut.result.now [] (c.requires.numbered.within c.args.shape c.in-Some.number at))))

pub returns-clause-numbered : goal.returns-clause-numbered
returns-clause-numbered c =
    let new = numbered-new (get same_shape c.args.shapes.now) (get same_shape c.insert.new.self) c.args.shape c.len-number.result c.in_ok-insert.ensures.updates.0
    (λ t i h. omega (arith, c.requires.numbered.within t i h)) c.requires.numbered.apart in
    record { within = λ t i h. omega (arith, new.0 t i h, c.in_ok-push-3.ensures.len, c.len-number.ensures); apart = new.1 }

pub returns-in_err-push-clause-kept : goal.returns-in_err-push-clause-kept
returns-in_err-push-clause-kept c =
    on_error c.from_residual.result (λ s. bucket_same c.args.buckets.now.items c.in-Some.number c.push.new.self c.index_mut.result.now
    (c.in_err-push.ensures.items ∙ ap (λ (b : Vec ℕ). b.items) c.index_mut.ensures.value) (get same_shape c.args.shapes.now s))

pub returns-in_err-insert-clause-kept : goal.returns-in_err-insert-clause-kept
returns-in_err-insert-clause-kept c =
    on_error c.from_residual-in_err-insert.result (λ s.
    let old : Option ℕ = get same_shape c.args.shapes.now s in
    ap (λ o. bucket_at (lists_of c.push-3.new.self.items) o) (ap (lookup (same_shape s)) c.in_err-insert.ensures.err)
    ∙ ap (λ (bs : List (Vec ℕ)). bucket_at (lists_of bs) old) c.in_ok-push-3.ensures.items
    ∙ bucket_before c.args.buckets.now.items c.push-2.new.self old (c.requires.numbered.within s))
