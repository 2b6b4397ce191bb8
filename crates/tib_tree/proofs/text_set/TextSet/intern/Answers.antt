use Rattle.std.proofs.Common.{◌≡◌, ℕ, List, ◌++◌, ◌∷◌, length, arith, [], Some, Contains, map, sym, ◌∙◌, ap, subst, refl, inl, inr}
use Rattle.std.proofs.lemmas.Option.{slice_get-get_or}
use Rattle.std.specs.Prelude.{nat_eq}
use Rattle.std.proofs.lemmas.List.{length-map, length-append}
use Rattle.std.specs.Cmp.Lexicographic.{pointwise}
use Rattle.tib_tree.proofs.Growing.{insert_grows, insert_adds, distinct_added}
use Rattle.tib_tree.proofs.Adding.{plain_added}
use Rattle.tib_tree.proofs.Texts.{found_at, not_held, text_of_key}
use Rattle.tib_tree.proofs.text_set.TextSet.intern.Goals as goal

pub returns-in-Some-clause-named : goal.returns-in-Some-clause-named
returns-in-Some-clause-named c =
    let at = found_at c.args.text.now c.self.inside.texts.keys c.in-Some.i c.in-Some.ensures.index [] in
    rw (← c.self.view_is) (slice_get-get_or (map (λ k. k.items) c.self.inside.texts.keys) c.in-Some.i [] at.0 ∙ ap Some at.1)

pub returns-in-Some-clause-adds : goal.returns-in-Some-clause-adds
returns-in-Some-clause-adds c =
    let at = found_at c.args.text.now c.self.inside.texts.keys c.in-Some.i c.in-Some.ensures.index c.args.text.now in
    inl (subst (λ l. Contains l c.args.text.now) c.self.view_is (c.in-Some.i, at.0, at.1), refl)

pub invariant_of-self-2 : goal.invariant_of-self-2
invariant_of-self-2 c =
    let same : c.in_ok-owned.owned.items ≡ c.args.text.now = c.in_ok-owned.ensures.items_if_clones_equal (λ x y e. e) in
    let before : List (List ℕ) = map (λ k. k.items) c.self.inside.texts.keys in
    let added : map (λ k. k.items) c.insert_full.new.self.keys ≡ before ++ c.args.text.now ∷ [] = insert_adds before c.args.text.now c.self.inside.texts.keys _ c.in_ok-owned.owned refl same c.in_default.ensures.found c.in_ok-i.ensures.keys in
    record {
      few = omega (arith, ap length added, length-map c.insert_full.new.self.keys (λ k. k.items), length-map c.self.inside.texts.keys (λ k. k.items), length-append before (c.args.text.now ∷ []), c.requires.room, ap length c.self.view_is);
      plain = plain_added before _ c.args.text.now c.self.invariant.plain c.requires.plain added;
      distinct = distinct_added before _ c.args.text.now c.self.invariant.distinct (not_held c.args.text.now c.self.inside.texts.keys c.in_default.ensures.found) added;
    }

pub returns-clause-named : goal.returns-clause-named
returns-clause-named c =
    let same : c.in_ok-owned.owned.items ≡ c.args.text.now = c.in_ok-owned.ensures.items_if_clones_equal (λ x y e. e) in
    text_of_key c.in_ok-owned.owned.items c.insert_full.new.self.keys c.in_ok-i.i c.in_ok-i.ensures.stored.0 c.in_ok-i.ensures.stored.1 c.in_ok-i.ensures.stored.2
    ∙ ap Some same

pub returns-clause-adds : goal.returns-clause-adds
returns-clause-adds c =
    let same : c.in_ok-owned.owned.items ≡ c.args.text.now = c.in_ok-owned.ensures.items_if_clones_equal (λ x y e. e) in
    inr (
      (λ held. not_held c.args.text.now c.self.inside.texts.keys c.in_default.ensures.found (subst (λ l. Contains l c.args.text.now) (sym c.self.view_is) held)),
      insert_adds c.args.self.now c.args.text.now c.self.inside.texts.keys _ c.in_ok-owned.owned c.self.view_is same c.in_default.ensures.found c.in_ok-i.ensures.keys,
    )

pub returns-clause-grows : goal.returns-clause-grows
returns-clause-grows c = insert_grows (λ a b. pointwise nat_eq a.items b.items) _ _ _ c.in_ok-owned.owned c.self.view_is c.in_ok-i.ensures.keys
