use Rattle.std.proofs.Common.{◌≡◌, ℕ, ◌+◌, ◌≤◌, List, IfSome, length, map, arith, ap, sym, ◌∙◌, length-append, subst}
use Rattle.std.specs.Global.{Vec}
use Rattle.tib_grammar.specs.StateName.{AreStateNames}
use Rattle.tib_normal.specs.PlaceNames.{names_of_places}
use Rattle.tib_normal.proofs.PlaceNames.{all_are_names, length-texts, length-names}
use Rattle.tib_normal.proofs.place_names.all_names.Goals as goal

pub from_list-requires : goal.from_list-requires
from_list-requires c =
    let long = length-texts c.loop-place.texts.items c.args.names.now c.in_ok-length.length c.loop-place.place c.loop-place.invariant in
    omega (arith, long, c.requires.few_states)

pub unreachable-requires : goal.unreachable-requires
unreachable-requires c =
    let last : c.loop-place.place ≤ 100000000 = omega (arith, c.requires.few_places) in
    let are = all_are_names c.args.names.now c.in_ok-length.length c.loop-place.place c.is_sound.ensures.names c.in_ok-length.ensures.free c.in_ok-length.ensures.from last in
    c.in_ok-all.ensures.none c.in-None.is (subst AreStateNames (sym c.loop-place.invariant) are)

pub returns-clause-length : goal.returns-clause-length
returns-clause-length c =
    let texts : List (List ℕ) = map (λ (t : Vec ℕ). t.items) c.loop-place.texts.items in
    let same : c.in-Some.all ≡ texts = subst (λ o. IfSome o (λ n. n ≡ texts)) c.in-Some.is c.in_ok-all.ensures.same in
    ap length (same ∙ c.loop-place.invariant)
    ∙ length-append c.args.names.now (names_of_places c.in_ok-length.length c.loop-place.place)
    ∙ ap (λ z. length c.args.names.now + z) (length-names c.in_ok-length.length c.loop-place.place ∙ omega arith)
