use Rattle.std.proofs.Common.{arith, ◌≡◌, ◌++◌, ◌∷◌, [], length, map, not, Bool, true, false, refl, ap, sym, ◌∙◌, subst}
use Rattle.std.proofs.lemmas.Iterator.Adapters.{YieldsList-from_vec}
use Rattle.std.proofs.lemmas.Iterator.Consumers.{YieldsList-so_far, YieldsList-turn}
use Rattle.tib_lex.specs.Lists.{Has}
use Rattle.tib_grammar.specs.StateName.{IsStateName}
use Rattle.tib_grammar.proofs.Members.{each_has}
use Rattle.tib_grammar.proofs.StateNames.{has_text, held_has, twice, name_more, map_same}
use Rattle.tib_grammar.proofs.Names.from_list.Goals as goal

was_held : (r b : Bool) → r ≡ not b → r ≡ false → b ≡ true
was_held r true e f = refl
was_held r false e f = absurd (cc)

was_new : (r b : Bool) → r ≡ not b → r ≡ true → b ≡ false
was_new r true e f = absurd (cc)
was_new r false e f = refl

pub returns-then-not-is_state_name-clause-none : goal.returns-then-not-is_state_name-clause-none
returns-then-not-is_state_name-clause-none c = λ _ names.
    let road = YieldsList-from_vec {s = c.into_iter-text-iterator.result} c.args.texts.items c.into_iter-text-iterator.ensures.into_iter_gives.0 (omega (arith, c.args.texts.ok.0, c.into_iter-text-iterator.ensures.into_iter_gives.1)) in
    let turn = YieldsList-turn road c.loop-text.yielded c.loop-text.text-iterator c.loop-text.yielded_by c.next.result c.next.new.self c.in-Some.text c.in-Some.is c.next.ensures.steps in
    let text = c.in-Some.text in
    c.if-not-is_state_name.ensures.no refl
    (subst IsStateName (sym c.deref.ensures.value) (each_has IsStateName (map (λ k. k.items) c.args.texts.items) text.items names.each (has_text c.args.texts.items (length c.loop-text.yielded) text turn.0 turn.1)))

pub returns-then-not-is_new-clause-none : goal.returns-then-not-is_new-clause-none
returns-then-not-is_new-clause-none c = λ _ names.
    let road = YieldsList-from_vec {s = c.into_iter-text-iterator.result} c.args.texts.items c.into_iter-text-iterator.ensures.into_iter_gives.0 (omega (arith, c.args.texts.ok.0, c.into_iter-text-iterator.ensures.into_iter_gives.1)) in
    let turn = YieldsList-turn road c.loop-text.yielded c.loop-text.text-iterator c.loop-text.yielded_by c.next.result c.next.new.self c.in-Some.text c.in-Some.is c.next.ensures.steps in
    let before = YieldsList-so_far road c.loop-text.yielded c.loop-text.text-iterator c.loop-text.yielded_by in
    let text = c.in-Some.text in
    let held = held_has text.items c.loop-text.names.keys (was_held _ _ c.in_ok-is_new.ensures.added c.if-not-is_new.true) in
    twice c.args.texts.items (length c.loop-text.yielded) text turn.0 turn.1
    (subst (λ ks. Has (map (λ k. k.items) ks) text.items) (c.loop-text.invariant.same ∙ sym (map_same c.loop-text.yielded) ∙ before) held)
    names.distinct

pub loop-text-preserved : goal.loop-text-preserved
loop-text-preserved c =
    let text = c.in-Some.text in
    let is : IsStateName text.items = subst IsStateName c.deref.ensures.value (c.if-not-is_state_name.ensures.yes refl) in
    let more = name_more c.loop-text.names.keys c.insert_full.new.self.keys text c.loop-text.invariant.names is (was_new _ _ c.in_ok-is_new.ensures.added c.if-not-is_new.false) c.in_ok-is_new.ensures.keys in
    record { can_next = tt; ends = tt; same = more.0 ∙ ap (λ ks. ks ++ text ∷ []) c.loop-text.invariant.same; names = more.1 }
