use Rattle.std.proofs.Common.{rules, ℕ, List, nat_eq, ap, subst, ◌∙◌, IsPermutation}
use Rattle.std.proofs.lemmas.List.Kept.{Contains-dedup_nat, Contains-from_dedup}
use Rattle.std.proofs.lemmas.List.Sorted.{Contains-permutation, IsPermutation-sym}
use Rattle.std.proofs.lemmas.Map.Keys.{IsStrictlyIncreasing-dedup}
use Rattle.std.specs.List.{dedup}
use Rattle.smallvec.proofs.SmallVecLemmas.{items-with_items}
use Rattle.tib_difference.proofs.Sorts.{sorting_few, sorting_of}
use Rattle.tib_difference.proofs.subset.ascending.Goals as goal

pub returns-then-len-lt2 : goal.returns-then-len-lt2
returns-then-len-lt2 c = sorting_few c.args.states.items (search rules)

pub returns : goal.returns
returns c =
    let is = c.dedup.ensures.items ∙ ap (λ (xs : List ℕ). dedup nat_eq xs) (items-with_items c.args.states c.sort_unstable.new.self (search rules)) in
    let moved = subst (λ (xs : List ℕ). IsPermutation xs c.sort_unstable.new.self) c.deref_mut.ensures.value c.sort_unstable.ensures.permutation in
    sorting_of c.args.states.items c.dedup.new.self.items (rw is (IsStrictlyIncreasing-dedup _ c.sort_unstable.ensures.sorted))
    (λ x h. rw is (Contains-dedup_nat _ x (Contains-permutation _ _ x moved h))) (λ x h. Contains-permutation _ _ x (IsPermutation-sym _ _ moved) (Contains-from_dedup _ _ x (rw is at h)))
