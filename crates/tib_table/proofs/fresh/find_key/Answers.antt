use Rattle.std.proofs.Common.{◌≡◌, ◌∙◌, ◌++◌, ◌∷◌, ◌+◌, Some, [], length-append, append_assoc, slice_get, sym, ap, subst, arith}
use Rattle.std.proofs.lemmas.Option.{slice_get_within}
use Rattle.tib_table.specs.Numbered.{keys_of}
use Rattle.tib_expand.specs.Keys.{key_parts}
use Rattle.tib_table.proofs.Sights.{total_least, get_left}
use Rattle.tib_table.proofs.FreshKeys.{many, known, unknown, last_at}
use Rattle.tib_expand.proofs.Limits.{IfTooMany-weaker}
use Rattle.tib_lex.specs.Lists.{total}
use Rattle.tib_lex.proofs.Lists.{total_append}
use Rattle.tib_table.proofs.fresh.find_key.Goals as goal

pub overflow_cast-result : goal.overflow_cast-result
overflow_cast-result g c =
    let p = slice_get_within c.args.keys.now.keys c.in-Some.position c.args.key c.in-Some.ensures.some in
    let least = total_least g.K.TableKey.entries_of (c.args.keys.now.keys ++ keys_of c.args.fresh.now.items) in
    let a = length-append c.args.keys.now.keys (keys_of c.args.fresh.now.items) in
    let m = many c.args.fresh.now.items in
    let b = c.requires.counted in
    let w = c.requires.within in
    let l = c.requires.limit in
    omega arith

pub returns-in-Some-clause-keys : goal.returns-in-Some-clause-keys
returns-in-Some-clause-keys g c = sym (known g.K.PartialEq.eq g.met.K.TableKey.same g.met.K.Eq.laws.refl c.args.keys.now.keys (keys_of c.args.fresh.now.items) c.args.key c.in-Some.position c.in-Some.ensures.some)

pub returns-in-Some-clause-named : goal.returns-in-Some-clause-named
returns-in-Some-clause-named g c = get_left g.K.PartialEq.eq c.args.keys.now.keys (keys_of c.args.fresh.now.items) c.in-Some.position c.args.key c.in-Some.ensures.some

pub overflow_cast-number : goal.overflow_cast-number
overflow_cast-number g c =
    let n = c.len.ensures.len in
    let p = c.len-2.ensures ∙ c.args.fresh.now.ok.0 in
    let least = total_least g.K.TableKey.entries_of (c.args.keys.now.keys ++ keys_of c.args.fresh.now.items) in
    let a = length-append c.args.keys.now.keys (keys_of c.args.fresh.now.items) in
    let m = many c.args.fresh.now.items in
    let b = c.requires.counted in
    let w = c.requires.within in
    let l = c.requires.limit in
    omega arith

pub push_fresh-requires-clause-few : goal.push_fresh-requires-clause-few
push_fresh-requires-clause-few g c =
    let least = total_least g.K.TableKey.entries_of (c.args.keys.now.keys ++ keys_of c.args.fresh.now.items) in
    let a = length-append c.args.keys.now.keys (keys_of c.args.fresh.now.items) in
    let m = many c.args.fresh.now.items in
    let b = c.requires.counted in
    let w = c.requires.within in
    let l = c.requires.limit in
    omega arith

pub returns-in-Ok-clause-keys : goal.returns-in-Ok-clause-keys
returns-in-Ok-clause-keys g c = ap (λ l. c.args.keys.now.keys ++ l) c.in-Ok.ensures.keys ∙ sym (unknown g.K.PartialEq.eq g.met.K.TableKey.same g.met.K.Eq.laws.refl c.args.keys.now.keys (keys_of c.args.fresh.now.items) c.args.key c.in_default.ensures.none c.requires.apart)

pub returns-in-Ok-clause-named : goal.returns-in-Ok-clause-named
returns-in-Ok-clause-named g c =
    let n = c.len.ensures.len in
    let p = c.len-2.ensures ∙ c.args.fresh.now.ok.0 in
    let m = many c.args.fresh.now.items in
    subst (λ l. slice_get (c.args.keys.now.keys ++ l) (c.len.result + c.len-2.result) ≡ Some c.args.key) (sym c.in-Ok.ensures.keys) (last_at c.args.keys.now.keys (keys_of c.args.fresh.now.items) c.args.key (c.len.result + c.len-2.result) (omega arith))

pub returns-in-Ok-clause-parts : goal.returns-in-Ok-clause-parts
returns-in-Ok-clause-parts g c =
    let t = ap (total (key_parts g.K.TableKey.entries_of)) (ap (λ l. c.args.keys.now.keys ++ l) c.in-Ok.ensures.keys ∙ sym (append_assoc c.args.keys.now.keys (keys_of c.args.fresh.now.items) (c.args.key ∷ []))) in
    let u = total_append (key_parts g.K.TableKey.entries_of) (c.args.keys.now.keys ++ keys_of c.args.fresh.now.items) (c.args.key ∷ []) in
    let p = c.in-Ok.ensures.parts in
    omega arith

pub returns-in-Err-clause-more : goal.returns-in-Err-clause-more
returns-in-Err-clause-more g c = IfTooMany-weaker c.args.limit _ _ c.in-Err.error (λ more.
    let t = ap (total (key_parts g.K.TableKey.entries_of)) (unknown g.K.PartialEq.eq g.met.K.TableKey.same g.met.K.Eq.laws.refl c.args.keys.now.keys (keys_of c.args.fresh.now.items) c.args.key c.in_default.ensures.none c.requires.apart ∙ sym (append_assoc c.args.keys.now.keys (keys_of c.args.fresh.now.items) (c.args.key ∷ []))) in
    let u = total_append (key_parts g.K.TableKey.entries_of) (c.args.keys.now.keys ++ keys_of c.args.fresh.now.items) (c.args.key ∷ []) in
    omega arith) c.in-Err.ensures.more
