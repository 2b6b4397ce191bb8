-- Runs of some rules, and of rules among which these are under other numbers of their states.
use Rattle.std.specs.Prelude.{◌≡◌, ℕ, ◌<◌, List, [], ◌∷◌, map, refl}
use Rattle.std.proofs.Common.{ap, sym, ◌∙◌, subst}
use Rattle.tib_lex.specs.Lists.{Has}
use Rattle.tib_lex.proofs.Members.{has_at, at_has}
use Rattle.tib_tree.specs.Trees.{Trees, none, tree, join, only}
use Rattle.tib_grammar.specs.Sides.{holes, holes_of, fill}
use Rattle.tib_grammar.specs.GrammarOf.{named_rule}
use Rattle.tib_grammar.specs.Range.{AllBelow, AreInRange}
use Rattle.tib_grammar.specs.Run.{rule_at, no_rule, AreRuns, yields, cost, IsCost}
use Rattle.tib_grammar.specs.declared.Rule.{Rule}
use Rattle.tib_grammar.proofs.Sides.{holes-relabel, fill-relabel}

-- A rule of other rules is r under other numbers.
record IsMoved (f : ℕ → ℕ) (r s : Rule ℕ) : Type 0 where
  left : s.left ≡ f r.left
  holes_are : holes_of s.right ≡ map f (holes_of r.right)
  fills : (us : Trees ℕ) → fill (only s.right) us ≡ fill (only r.right) us
  weight : s.cost ≡ r.cost

moved : (f : ℕ → ℕ) (r s : Rule ℕ) → named_rule f r ≡ s → IsMoved f r s
moved f r s e = record {
  left = ap (λ (x : Rule ℕ). x.left) (sym e);
  holes_are = ap (λ (x : Rule ℕ). holes (only x.right)) (sym e) ∙ holes-relabel f (only r.right);
  fills = λ us. ap (λ (x : Rule ℕ). fill (only x.right) us) (sym e) ∙ fill-relabel f (only r.right) us;
  weight = ap (λ (x : Rule ℕ). x.cost) (sym e);
}

module _ (product : ℕ → ℕ → ℕ) (f : ℕ → ℕ) (one all : List (Rule ℕ)) where
  -- what a run yields and costs whose parts yield and cost what others do
  joined :
      (j n : ℕ) (runs rest xs ys : Trees ℕ) → IsMoved f (rule_at one j) (rule_at all n) → yields all xs ≡ yields one runs → yields all ys ≡ yields one rest →
      yields all (tree n xs ys) ≡ yields one (tree j runs rest)
  joined j n runs rest xs ys m x y =
      ap (λ us. join (fill (only (rule_at all n).right) us) (yields all ys)) x
      ∙ ap (λ us. join us (yields all ys)) (m.fills (yields one runs))
      ∙ ap (join (fill (only (rule_at one j).right) (yields one runs))) y

  added :
      (j n : ℕ) (runs rest xs ys : Trees ℕ) → IsMoved f (rule_at one j) (rule_at all n) → cost product all xs ≡ cost product one runs → cost product all ys ≡ cost product one rest →
      cost product all (tree n xs ys) ≡ cost product one (tree j runs rest)
  added j n runs rest xs ys m x y =
      ap (λ (c : ℕ). product (product c (cost product all xs)) (cost product all ys)) m.weight
      ∙ ap (λ (c : ℕ). product (product (rule_at one j).cost c) (cost product all ys)) x
      ∙ ap (product (product (rule_at one j).cost (cost product one runs))) y

  joined_back :
      (j n : ℕ) (runs rest xs ys : Trees ℕ) → IsMoved f (rule_at one j) (rule_at all n) → yields one runs ≡ yields all xs → yields one rest ≡ yields all ys →
      yields one (tree j runs rest) ≡ yields all (tree n xs ys)
  joined_back j n runs rest xs ys m x y = sym (joined j n runs rest xs ys m (sym x) (sym y))

  added_back :
      (j n : ℕ) (runs rest xs ys : Trees ℕ) → IsMoved f (rule_at one j) (rule_at all n) → cost product one runs ≡ cost product all xs → cost product one rest ≡ cost product all ys →
      cost product one (tree j runs rest) ≡ cost product all (tree n xs ys)
  added_back j n runs rest xs ys m x y = sym (added j n runs rest xs ys m (sym x) (sym y))

  module _ (to : (r : Rule ℕ) → Has one r → Has all (named_rule f r)) where
    -- runs are runs of the other rules, from the other numbers
    pub moved_runs : (runs : Trees ℕ) (ks : List ℕ) → AreRuns one ks runs → IsCost product all (map f ks) (yields one runs) (cost product one runs)
    moved_runs none [] a = record { runs = none; are_runs = tt; yielded = refl; costs = refl }
    moved_runs none (k ∷ ks) a = absurd a
    moved_runs (tree j runs rest) [] a = absurd a
    moved_runs (tree j runs rest) (k ∷ ks) a =
        let r : Rule ℕ = rule_at one j in
        let place = at_has all (named_rule f r) no_rule (to r (has_at one j no_rule a.0)) in
        let m : IsMoved f r (rule_at all place.0) = moved f r (rule_at all place.0) (sym place.2) in
        let x = moved_runs runs (holes_of r.right) a.2 in
        let y = moved_runs rest ks a.3 in
        record {
          runs = tree place.0 x.runs y.runs;
          are_runs = (place.1, m.left ∙ ap f a.1, subst (λ qs. AreRuns all qs x.runs) (sym m.holes_are) x.are_runs, y.are_runs);
          yielded = joined j place.0 runs rest x.runs y.runs m x.yielded y.yielded;
          costs = added j place.0 runs rest x.runs y.runs m x.costs y.costs;
        }

    pub moved_cost : (q : ℕ) (ts : Trees ℕ) (c : ℕ) → IsCost product one (q ∷ []) ts c → IsCost product all (f q ∷ []) ts c
    moved_cost q ts c h =
        let x = moved_runs h.runs (q ∷ []) h.are_runs in
        record { runs = x.runs; are_runs = x.are_runs; yielded = x.yielded ∙ h.yielded; costs = x.costs ∙ h.costs }

  module _
      (n : ℕ) (range : AreInRange n one)
      (from : (s : Rule ℕ) → Has all s → (k : ℕ) → k < n → s.left ≡ f k → (r : Rule ℕ) × Has one r × (named_rule f r ≡ s) × (r.left ≡ k)) where
    -- and runs of the other rules, from other numbers, are runs
    pub runs_back : (runs : Trees ℕ) (ks : List ℕ) → AllBelow n ks → AreRuns all (map f ks) runs → IsCost product one ks (yields all runs) (cost product all runs)
    runs_back none [] b a = record { runs = none; are_runs = tt; yielded = refl; costs = refl }
    runs_back none (k ∷ ks) b a = absurd a
    runs_back (tree i runs rest) [] b a = absurd a
    runs_back (tree i runs rest) (k ∷ ks) b a =
        let origin = from (rule_at all i) (has_at all i no_rule a.0) k b.0 a.1 in
        let place = at_has one origin.0 no_rule origin.1 in
        let m : IsMoved f (rule_at one place.0) (rule_at all i) = moved f (rule_at one place.0) (rule_at all i) (ap (named_rule f) place.2 ∙ origin.2) in
        let x = runs_back runs (holes_of (rule_at one place.0).right) (range place.0 place.1).1 (subst (λ qs. AreRuns all qs runs) m.holes_are a.2) in
        let y = runs_back rest ks b.1 a.3 in
        record {
          runs = tree place.0 x.runs y.runs;
          are_runs = (place.1, ap (λ (r : Rule ℕ). r.left) place.2 ∙ origin.3, x.are_runs, y.are_runs);
          yielded = joined_back place.0 i x.runs y.runs runs rest m x.yielded y.yielded;
          costs = added_back place.0 i x.runs y.runs runs rest m x.costs y.costs;
        }

    pub cost_back : (q : ℕ) → q < n → (ts : Trees ℕ) (c : ℕ) → IsCost product all (f q ∷ []) ts c → IsCost product one (q ∷ []) ts c
    cost_back q low ts c h =
        let x = runs_back h.runs (q ∷ []) (low, tt) h.are_runs in
        record { runs = x.runs; are_runs = x.are_runs; yielded = x.yielded ∙ h.yielded; costs = x.costs ∙ h.costs }
