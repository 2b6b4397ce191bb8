use Rattle.std.specs.Prelude.{IfSome}
use Rattle.std.proofs.Common.{subst, sym, ℕ, List, ◌∷◌, []}
use Rattle.tib_grammar.specs.Items.{pairs_of}
use Rattle.tib_match.specs.MatchLists.{AreMatches}
use Rattle.tib_match.specs.PartialMatches.{AreFound, start_from}
use Rattle.tib_match.specs.Leading.{partials_of}
use Rattle.tib_match.proofs.Stepping.{all_matches}
use Rattle.tib_match.proofs.finding.few_matches.Goals as goal

pub returns : goal.returns
returns g c =
    let found = subst (λ v. IfSome v (λ f. AreFound g.S.Semiring.product c.args.normal.now.rules (pairs_of c.items.result.now) (start_from c.args.state ∷ []) (partials_of f.items))) c.in-Some.is c.in_ok-found.ensures in
    subst (λ (xs : List (List ℕ × ℕ)). AreMatches g.S.Semiring.product c.args.normal.now.rules c.args.side.now c.args.state xs) (sym c.in_ok-all.ensures)
    (all_matches g.met.S.Semiring.laws c.args.normal.now.rules c.grammar.ensures.normal.normal c.args.side.now c.items.result.now c.items.ensures.items c.items.ensures.leaves c.args.state
    c.in-Some.found.items c.in_ok-kept.kept.items found c.in_ok-kept.ensures)
