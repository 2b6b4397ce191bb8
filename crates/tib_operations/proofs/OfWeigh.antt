-- What `weigh` writes: one text, and that there is none cannot be.
use Rattle.tib_cost.specs.declared.Scale.{Scale}
use Rattle.std.proofs.Common.{◌≡◌, ℕ, List, [], ◌∷◌, ◌++◌, refl, ap, sym, ◌∙◌, Option}
use Rattle.std.specs.List.{AllZip}
use Rattle.tib_lex.specs.Lists.{Along, Distinct}
use Rattle.tib_cost.proofs.Least.{IsLeast-unique}
use Rattle.tib_tree.specs.Trees.{Tree}
use Rattle.tib_tree.specs.Printed.{tree_text}
use Rattle.tib_grammar.specs.GrammarOf.{GrammarOf}
use Rattle.tib_grammar.specs.Series.{IsSeries}
use Rattle.tib_grammar.specs.Run.{IsCost}
use Rattle.tib_grammar.specs.declared.Rule.{Rule}
use Rattle.tib_tree.specs.Trees.{only}
use Rattle.tib_grammar_file.specs.ByText.{AreOneTree, AgreeByText}
use Rattle.tib_grammar_file.proofs.RunsByText.{series_by_text}
use Rattle.tib_grammar_file.proofs.TreesByText.{tree_printed}
use Rattle.tib_normal.proofs.Existing.{has_least}
use Rattle.tib_operations.specs.Text.{cost_text, weighed_line, weighed_lines}
use Rattle.tib_operations.specs.Weigh.{IsWeighed}

-- the lines of weighed trees
module _ (scale : Scale) (product : ℕ → ℕ → ℕ) (labels others : List (List ℕ)) (g h : GrammarOf) (apart : Distinct labels) (different : Distinct others) (agree : AgreeByText labels others g h) where
  line_same : (t u : Tree ℕ) (v w : Option ℕ) → AreOneTree labels others t u → IsSeries product g.rules t v → IsSeries product h.rules u w → weighed_line scale labels t v ≡ weighed_line scale others u w
  line_same t u v w one a b =
      let cost : v ≡ w = IsLeast-unique (series_by_text product labels others g h t u v apart different agree one a) b in
      ap (λ (x : List ℕ). x ++ cost_text scale v) (tree_printed labels others t u one) ∙ ap (λ (x : Option ℕ). tree_text others u ++ cost_text scale x) cost

  lines_same :
      (ts us : List (Tree ℕ)) (vs ws : List (Option ℕ)) → Along (AreOneTree labels others) ts us → AllZip (λ t v. IsSeries product g.rules t v) ts vs → AllZip (λ t v. IsSeries product h.rules t v) us ws →
      weighed_lines scale labels ts vs ≡ weighed_lines scale others us ws
  lines_same [] [] vs ws o a b = refl
  lines_same [] (u ∷ us) vs ws o a b = absurd o
  lines_same (t ∷ ts) [] vs ws o a b = absurd o
  lines_same (t ∷ ts) (u ∷ us) [] ws o a b = absurd a
  lines_same (t ∷ ts) (u ∷ us) (v ∷ vs) [] o a b = absurd b
  lines_same (t ∷ ts) (u ∷ us) (v ∷ vs) (w ∷ ws) o a b =
      ap (λ (x : List ℕ). x ++ weighed_lines scale labels ts vs) (line_same t u v w o.0 a.0 b.0) ∙ ap (λ (x : List ℕ). weighed_line scale others u w ++ x) (lines_same ts us vs ws o.1 a.1 b.1)

  pub weighed_once :
      (ts us : List (Tree ℕ)) (text other : List ℕ) → Along (AreOneTree labels others) ts us → IsWeighed scale product labels g ts text → IsWeighed scale product others h us other → text ≡ other
  weighed_once ts us text other trees a b = a.are ∙ lines_same ts us a.costs b.costs trees a.weights b.weights ∙ sym b.are

-- weights for all trees
module _ (product : ℕ → ℕ → ℕ) (rules : List (Rule ℕ)) where
  all_weights : (ts : List (Tree ℕ)) → ((vs : List (Option ℕ)) → AllZip (λ t v. IsSeries product rules t v) ts vs → ⊥) → ⊥
  all_weights [] never = never [] tt
  all_weights (t ∷ ts) never = has_least (IsCost product rules (0 ∷ []) (only t)) (λ v s. all_weights ts (λ vs a. never (v ∷ vs) (s, a)))

pub weighed_there :
    (scale : Scale) (product : ℕ → ℕ → ℕ) (labels : List (List ℕ)) (g : GrammarOf) (ts : List (Tree ℕ)) → ((text : List ℕ) → IsWeighed scale product labels g ts text → ⊥) → ⊥
weighed_there scale product labels g ts never =
    all_weights product g.rules ts (λ vs a. never (weighed_lines scale labels ts vs) (record { costs = vs; weights = a; are = refl }))
