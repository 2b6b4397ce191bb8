-- The set of the states from which a tree has a run, tree by tree.
use Rattle.std.specs.Prelude.{◌⊎◌, ℕ, List, [], ◌∷◌, Bool, refl}
use Rattle.std.proofs.Common.{inl, inr}
use Rattle.tib_lex.specs.Lists.{Has}
use Rattle.tib_tree.specs.Trees.{Trees, Tree, none, tree, only}
use Rattle.tib_grammar.specs.Sides.{holes}
use Rattle.tib_grammar.specs.Run.{rule_at, cost, IsCost}
use Rattle.tib_grammar.specs.Forms.{AreNormal}
use Rattle.tib_grammar.specs.declared.Rule.{Rule}
use Rattle.tib_grammar.proofs.NormalRuns.{IsLeast-no_states, no_states}
use Rattle.tib_grammar.proofs.Best.{no_trees}
use Rattle.tib_grammar.proofs.Opening.{open_cost, close_cost}
use Rattle.tib_cost.specs.Semiring.{ProductLaws}
use Rattle.tib_difference.specs.Subsets.{SubsetOf, AreIn, LeadsTo, IsSubset}
use Rattle.tib_difference.specs.Series.{HasRun}
use Rattle.tib_difference.proofs.SubsetThere.{subset_there, has_or_not}

-- the set of the label over some sets
pub set_over : (rules : List (Rule ℕ)) (f : ℕ) (vs : List SubsetOf) → SubsetOf
set_over rules f vs = (subset_there f vs rules).0

pub is_set : (rules : List (Rule ℕ)) (f : ℕ) (vs : List SubsetOf) → IsSubset rules f vs (set_over rules f vs)
unfolding set_over
is_set rules f vs = (subset_there f vs rules).1

-- the set of each tree
abbrev pub sets_of : List (Rule ℕ) → Trees ℕ → List SubsetOf
sets_of rules none = []
sets_of rules (tree f kids rest) = set_over rules f (sets_of rules kids) ∷ sets_of rules rest

-- the set of one tree
abbrev pub set_of : List (Rule ℕ) → Tree ℕ → SubsetOf
set_of rules t = set_over rules t.label (sets_of rules t.kids)

module _
    {levelled weighted : Bool} {product : ℕ → ℕ → ℕ} (laws : ProductLaws levelled weighted product)
    (rules : List (Rule ℕ)) (normal : AreNormal rules) where
  -- the states of runs are in the sets of what they yield
  pub runs_in : (ts : Trees ℕ) (qs : List ℕ) (c : ℕ) → IsCost product rules qs ts c → AreIn qs (sets_of rules ts)
  runs_in none [] c h = tt
  runs_in none (q ∷ qs) c h = absurd (no_trees laws rules normal q qs c h)
  runs_in (tree f kids rest) [] c h = absurd (no_states rules f kids rest c h)
  runs_in (tree f kids rest) (q ∷ qs) c h =
      let p = open_cost laws rules normal q qs f kids rest c h in
      let leads : LeadsTo rules f (sets_of rules kids) q = record {
        rule = p.rule;
        below = p.below;
        left = p.left;
        root = p.root;
        states = runs_in kids (holes (rule_at rules p.rule).right.kids) p.inner p.kids_cost;
      }
      in
      (((is_set rules f (sets_of rules kids)).states q).1 leads, runs_in rest qs p.outer p.rest_cost)

  -- and states of the sets have runs
  pub in_runs : (ts : Trees ℕ) (qs : List ℕ) → AreIn qs (sets_of rules ts) → (c : ℕ) × IsCost product rules qs ts c
  in_runs none [] a = (0, (IsLeast-no_states laws rules).attained.0)
  in_runs none (q ∷ qs) a = absurd a
  in_runs (tree f kids rest) [] a = absurd a
  in_runs (tree f kids rest) (q ∷ qs) a =
      let l : LeadsTo rules f (sets_of rules kids) q = ((is_set rules f (sets_of rules kids)).states q).0 a.0 in
      let below = in_runs kids (holes (rule_at rules l.rule).right.kids) l.states in
      let after = in_runs rest qs a.1 in
      let c : ℕ = product (product (rule_at rules l.rule).cost below.0) after.0 in (
        c,
        close_cost laws rules normal q qs f kids rest c (record {
          rule = l.rule;
          below = l.below;
          left = l.left;
          root = l.root;
          inner = below.0;
          outer = after.0;
          kids_cost = below.1;
          rest_cost = after.1;
          costs = refl;
        }),
      )

  -- a tree has a run from the start where the start is in its set
  pub run_has : (t : Tree ℕ) → HasRun rules t → Has (set_of rules t) 0
  run_has t r = (runs_in (only t) (0 ∷ []) (cost product rules r.runs) (record { runs = r.runs; are_runs = r.are_runs; yielded = r.yielded; costs = refl })).0

  pub has_run : (t : Tree ℕ) → Has (set_of rules t) 0 → HasRun rules t
  has_run t h =
      let c = in_runs (only t) (0 ∷ []) (h, tt) in
      record { runs = c.1.runs; are_runs = c.1.are_runs; yielded = c.1.yielded }

  -- whether a tree has a run from the start
  pub run_or_not : (t : Tree ℕ) → HasRun rules t ⊎ (HasRun rules t → ⊥)
  run_or_not t = elim (has_or_not (set_of rules t) 0) [
    | inl h ↦ inl (has_run t h)
    | inr never ↦ inr (λ r. never (run_has t r))
  ]
