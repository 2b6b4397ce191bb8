-- Inside costs, live rules and useful states do not depend on labels.
use Rattle.std.proofs.Common.{ℕ, ◌≤◌, List, [], ◌∷◌, get_or, sym, ◌∙◌, subst, arith, Option}
use Rattle.std.specs.Prelude.{Some, None}
use Rattle.tib_lex.specs.Lists.{Has, Along}
use Rattle.tib_grammar.specs.Sides.{holes_of}
use Rattle.tib_grammar.specs.GrammarOf.{GrammarOf}
use Rattle.tib_grammar.specs.Run.{rule_at}
use Rattle.tib_grammar.specs.declared.Rule.{Rule}
use Rattle.tib_grammar_file.specs.ByText.{AgreeByText}
use Rattle.tib_grammar_file.proofs.Alongs.{along_changes}
use Rattle.tib_grammar_file.proofs.RunsByText.{DifferInLabels, differ_back, differ_by_text, runs_kept, cost_kept}
use Rattle.tib_cost.specs.Semiring.{most}
use Rattle.tib_cost.proofs.Least.{IsLeast-same}
use Rattle.tib_inside.specs.Inside.{IsRunCost, IsInside, AreInsides}
use Rattle.tib_inside.specs.Useful.{product_of, IsLive, IsUseful}
use Rattle.tib_inside.specs.Useful as useful

run_cost_kept : (product : ℕ → ℕ → ℕ) (xs ys : List (Rule ℕ)) → DifferInLabels xs ys → (qs : List ℕ) (c : ℕ) → IsRunCost product xs qs c → IsRunCost product ys qs c
run_cost_kept product xs ys d qs c k = record {
  runs = k.runs;
  are_runs = runs_kept xs ys d qs k.runs k.are_runs;
  costs = sym (cost_kept xs ys d product qs k.runs k.are_runs) ∙ k.costs;
}

pub inside_kept : (product : ℕ → ℕ → ℕ) (xs ys : List (Rule ℕ)) → DifferInLabels xs ys → (q : ℕ) (v : Option ℕ) → IsInside product xs q v → IsInside product ys q v
inside_kept product xs ys d q v i = IsLeast-same (run_cost_kept product xs ys d (q ∷ [])) (run_cost_kept product ys xs (differ_back xs ys d) (q ∷ [])) i

pub live_kept : (product : ℕ → ℕ → ℕ) (xs ys : List (Rule ℕ)) → DifferInLabels xs ys → (n : ℕ) → IsLive product xs n → IsLive product ys n
live_kept product xs ys d n l =
    let known : Along (λ q c. IsInside product ys q (Some c)) (holes_of (rule_at xs n).right) l.insides =
    along_changes (λ q c. IsInside product xs q (Some c)) (λ q c. IsInside product ys q (Some c)) (holes_of (rule_at xs n).right) l.insides (λ q c i. inside_kept product xs ys d q (Some c) i) l.are_insides in
    record {
      below = omega (arith, l.below, d.long);
      insides = l.insides;
      are_insides = subst (λ (qs : List ℕ). Along (λ q c. IsInside product ys q (Some c)) qs l.insides) (d.states n l.below) known;
      within = subst (λ (c : ℕ). product c (product_of product l.insides) ≤ most) (d.cost n l.below) l.within;
    }

pub useful_kept : (product : ℕ → ℕ → ℕ) (xs ys : List (Rule ℕ)) → DifferInLabels xs ys → (q : ℕ) → IsUseful product xs q → IsUseful product ys q
useful_kept product xs ys d _ (useful.start c i) = useful.start c (inside_kept product xs ys d 0 (Some c) i)
useful_kept product xs ys d _ (useful.below n q u l s) =
    useful.below n q
    (subst (λ (p : ℕ). IsUseful product ys p) (d.left n l.below) (useful_kept product xs ys d (rule_at xs n).left u))
    (live_kept product xs ys d n l)
    (subst (λ (qs : List ℕ). Has qs q) (d.states n l.below) s)

-- grammars that agree by the texts of their labels have the same inside costs
pub insides_by_text :
    (product : ℕ → ℕ → ℕ) (labels others : List (List ℕ)) (g h : GrammarOf) (costs : List (Option ℕ)) → AgreeByText labels others g h → AreInsides product g.rules costs →
    AreInsides product h.rules costs
insides_by_text product labels others g h costs a i q below = inside_kept product g.rules h.rules (differ_by_text labels others g h a) q (get_or costs q None) (i q below)
