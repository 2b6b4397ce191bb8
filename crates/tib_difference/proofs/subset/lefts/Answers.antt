use Rattle.std.proofs.Common.{ℕ, List, ◌<◌, length, ◌∙◌, subst}
use Rattle.tib_lex.specs.Lists.{Has}
use Rattle.tib_lex.proofs.Members.{each_of}
use Rattle.tib_difference.proofs.Leads.{below_all}
use Rattle.tib_difference.proofs.subset.lefts.Goals as goal

pub add_lefts-requires-clause-numbers : goal.add_lefts-requires-clause-numbers
add_lefts-requires-clause-numbers c =
    each_of (λ m. m < length c.args.second.now.rules.now) c.find-numbers.result.now
    (λ m h. below_all c.args.second.now.rules.now _ m (subst (λ (xs : List ℕ). Has xs m) (c.find-numbers.ensures ∙ c.requires.indexed _) h))
