use Rattle.std.proofs.Common.{◌≡◌, ◌<◌, ◌++◌, ◌∷◌, [], ℕ, List, length, ap, sym, ◌∙◌, subst}
use Rattle.std.specs.Prelude.{OnOk}
use Rattle.tib_lex.specs.Lists.{Each}
use Rattle.tib_difference.specs.Listing.{Adds, Overruns}
use Rattle.tib_difference.proofs.Single.{tries_single}
use Rattle.tib_difference.proofs.walk.list_single.Goals as goal

pub list_edge-requires-clause-positions : goal.list_edge-requires-clause-positions
list_edge-requires-clause-positions c =
    let w = c.args.walk.now in
    let are : c.push.new.self.items ≡ w.position ∷ [] = c.in-Ok.ensures.ok ∙ ap (λ (ps : List ℕ). ps ++ w.position ∷ []) c.new-positions.ensures.items in
    subst (λ (ps : List ℕ). Each (λ p. p < length w.order.now) ps) (sym are) (c.requires.position, tt)

pub returns-clause-added : goal.returns-clause-added
returns-clause-added c =
    let w = c.args.walk.now in
    let are : c.push.new.self.items ≡ w.position ∷ [] = c.in-Ok.ensures.ok ∙ ap (λ (ps : List ℕ). ps ++ w.position ∷ []) c.new-positions.ensures.items in
    let all = ap (λ (ps : List ℕ). (w.rule, ps) ∷ []) are ∙ sym (tries_single w.first.now w.order.now w.position w.rule w.place c.requires.single c.requires.place) in
    subst (λ os. OnOk c.list_edge.result (Adds w.first.now w.second.rules.now w.order.now os c.args.listing.now c.list_edge.new.listing)) all c.list_edge.ensures.added

pub returns-clause-more : goal.returns-clause-more
returns-clause-more c = λ e.
    let w = c.args.walk.now in
    let are : c.push.new.self.items ≡ w.position ∷ [] = c.in-Ok.ensures.ok ∙ ap (λ (ps : List ℕ). ps ++ w.position ∷ []) c.new-positions.ensures.items in
    let all = ap (λ (ps : List ℕ). (w.rule, ps) ∷ []) are ∙ sym (tries_single w.first.now w.order.now w.position w.rule w.place c.requires.single c.requires.place) in
    subst (λ os. Overruns w.first.now w.second.rules.now w.order.now os c.args.listing.now) all (c.list_edge.ensures.more e)
