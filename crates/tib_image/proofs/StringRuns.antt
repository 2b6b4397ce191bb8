-- Runs of a tree-to-string transducer, one by one.
use Rattle.std.specs.Prelude.{◌≡◌, ℕ, ◌<◌, List, [], ◌∷◌, length, Bool, refl}
use Rattle.std.proofs.Common.{suc, ap, sym, ◌∙◌}
use Rattle.tib_tree.specs.Trees.{Tree, Trees, none, tree, only}
use Rattle.tib_grammar.specs.Sides.{fill}
use Rattle.tib_cost.specs.Semiring.{ProductLaws}
use Rattle.tib_cost.proofs.Times.{product-zero}
use Rattle.tib_transducer.specs.Rules.{variables_of}
use Rattle.tib_transducer.specs.Run.{AreBound, pick}
use Rattle.tib_strings.specs.Rules.{string_rule, states_in, variables_in}
use Rattle.tib_strings.specs.Run.{AreStringRuns, StringRunsRead, put, strings, string_cost}
use Rattle.tib_strings.specs.Series.{IsStringCost}
use Rattle.tib_strings.specs.declared.StringRule.{StringRule}

module _ {levelled weighted : Bool} {product : ℕ → ℕ → ℕ} (laws : ProductLaws levelled weighted product) where
  -- one more run of a transducer
  pub one_more :
      (moves : List (StringRule ℕ)) (p : ℕ) (ps : List ℕ) (t : Tree ℕ) (ts : Trees ℕ) (s : List ℕ) (ss : List (List ℕ)) (a b : ℕ) →
      IsStringCost product moves (p ∷ []) (only t) (s ∷ []) a → IsStringCost product moves ps ts ss b → IsStringCost product moves (p ∷ ps) (tree t.label t.kids ts) (s ∷ ss) (product a b)
  one_more moves p ps t ts s ss a b h k = by h.runs h.are_runs h.reads h.output h.costs
    where
      by :
          (runs : Trees ℕ) → AreStringRuns moves (p ∷ []) runs → StringRunsRead moves runs (only t) → strings moves runs ≡ s ∷ [] → string_cost product moves runs ≡ a →
          IsStringCost product moves (p ∷ ps) (tree t.label t.kids ts) (s ∷ ss) (product a b)
      by none r d o c = absurd r
      by (tree n below (tree m more still)) r d o c = absurd r.3
      by (tree n below none) r d o c =
          let one : put (string_rule moves n).right (strings moves below) ≡ s = cc o in
          record {
            runs = tree n below k.runs;
            are_runs = (r.0, r.1, r.2, k.are_runs);
            reads = (d.0, k.reads);
            output = ap (λ (x : List ℕ). x ∷ strings moves k.runs) one ∙ ap (λ (xs : List (List ℕ)). s ∷ xs) k.output;
            costs = ap (λ x. product x (string_cost product moves k.runs)) (sym (product-zero laws (product (string_rule moves n).cost (string_cost product moves below))) ∙ c) ∙ ap (product a) k.costs;
          }

  -- a run of a transducer by its rule
  pub one_run :
      (moves : List (StringRule ℕ)) (p n : ℕ) (t : Tree ℕ) (args : Trees ℕ) (ss : List (List ℕ)) (b : ℕ) → n < length moves → (string_rule moves n).state ≡ p →
      AreBound (variables_of (string_rule moves n).left) args → fill (only (string_rule moves n).left) args ≡ only t →
      IsStringCost product moves (states_in (string_rule moves n).right) (pick args (variables_in (string_rule moves n).right)) ss b →
      IsStringCost product moves (p ∷ []) (only t) (put (string_rule moves n).right ss ∷ []) (product (string_rule moves n).cost b)
  one_run moves p n t args ss b below state bound filled h = record {
    runs = tree n h.runs none;
    are_runs = (below, state, h.are_runs, tt);
    reads = (record { args = args; bound = bound; filled = filled; below = h.reads }, tt);
    output = ap (λ (zs : List (List ℕ)). put (string_rule moves n).right zs ∷ []) h.output;
    costs = product-zero laws (product (string_rule moves n).cost (string_cost product moves h.runs)) ∙ ap (product (string_rule moves n).cost) h.costs;
  }

-- as many strings are put out as there are states
pub length-strings : (moves : List (StringRule ℕ)) (ps : List ℕ) (runs : Trees ℕ) → AreStringRuns moves ps runs → length (strings moves runs) ≡ length ps
length-strings moves [] none a = refl
length-strings moves [] (tree n runs rest) a = absurd a
length-strings moves (p ∷ ps) none a = absurd a
length-strings moves (p ∷ ps) (tree n runs rest) a = ap suc (length-strings moves ps rest a.3)
