use Rattle.std.proofs.Common.{ℕ, List, [], ◌∷◌, ◌++◌, sym, subst, ◌∙◌}
use Rattle.std.specs.Prelude.{slice_set}
use Rattle.tib_lex.specs.Lists.{Has}
use Rattle.tib_inside.specs.Renaming.{AreNumbersOf}
use Rattle.tib_trim.proofs.Numbered.{numbers_more}
use Rattle.tib_trim.proofs.seen.see.Goals as goal

pub returns-clause-numbers : goal.returns-clause-numbers
returns-clause-numbers c =
    let new : Has c.args.states.now.items c.args.state → ⊥ = λ h. c.is_seen.ensures.no c.if-is_seen.false (subst (λ (xs : List ℕ). Has xs c.args.state) (sym c.deref.ensures.value) h) in
    subst (λ (xs : List ℕ). AreNumbersOf xs (slice_set c.args.numbers.now.items c.args.state c.len.result)) (sym c.in_ok-push.ensures.items)
    (subst (λ (n : ℕ). AreNumbersOf (c.args.states.now.items ++ c.args.state ∷ []) (slice_set c.args.numbers.now.items c.args.state n)) (sym (c.len.ensures ∙ c.args.states.now.ok.0))
    (numbers_more c.args.states.now.items c.args.numbers.now.items c.args.state c.requires.below new c.requires.numbers))
