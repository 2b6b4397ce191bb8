use Rattle.std.proofs.Common.{◌≡◌, ℕ, ◌+◌, ◌<◌, List, ◌∷◌, map, drop, length, get_or, suc, arith, ap, sym, ◌∙◌}
use Rattle.std.proofs.lemmas.List.{get_or_read}
use Rattle.indexmap.specs.IndexSet.{insert_key, insert_all}
use Rattle.tib_grammar.specs.declared.Rule.{Rule}
use Rattle.tib_determinize.specs.Keys.{same_entry}
use Rattle.tib_determinize.specs.Shapes.{root_of, shapes_in}
use Rattle.tib_determinize.proofs.LeastCosts.{drop_at}
use Rattle.tib_determinize.proofs.shapes.shapes_of.Goals as goal

next_root :
    (rs : List (Rule ℕ)) (i : ℕ) (r : Rule ℕ) (keys now : List (ℕ × ℕ)) → i < length rs → r ≡ get_or rs i r → now ≡ insert_key same_entry keys (root_of r) →
    insert_all same_entry keys (map root_of (drop i rs)) ≡ shapes_in rs → insert_all same_entry now (map root_of (drop (i + 1) rs)) ≡ shapes_in rs
next_root rs i r keys now low at e h =
    let next : i + 1 ≡ suc i = omega arith in
    ap (λ n. insert_all same_entry now (map root_of (drop n rs))) next
    ∙ ap (λ (ks : List (ℕ × ℕ)). insert_all same_entry ks (map root_of (drop (suc i) rs))) e
    ∙ ap (λ (x : Rule ℕ). insert_all same_entry keys (map root_of (x ∷ drop (suc i) rs))) at
    ∙ ap (λ (xs : List (Rule ℕ)). insert_all same_entry keys (map root_of xs)) (sym (drop_at rs i r low))
    ∙ h

pub loop-rule-preserved : goal.loop-rule-preserved
loop-rule-preserved c =
    let at = get_or_read c.args.rules.now c.loop-rule.rule-index c.rule-item.result c.loop-rule-test.true c.rule-item.is c.rule-item.result in
    next_root c.args.rules.now c.loop-rule.rule-index c.rule-item.result c.loop-rule.shapes.keys c.insert.new.self.keys c.loop-rule-test.true at
    (c.in_ok-insert.ensures.keys ∙ ap (insert_key same_entry c.loop-rule.shapes.keys) c.shape_of.ensures) c.loop-rule.invariant
