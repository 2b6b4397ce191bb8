-- Runs and their costs are the same whatever the labels, and what they yield changes with the
-- labels.
use Rattle.std.proofs.Common.{◌≡◌, ℕ, ◌<◌, List, [], ◌∷◌, ◌++◌, length, get_or, refl, ap, sym, ◌∙◌, subst, arith, zero, suc, Option}
use Rattle.std.proofs.lemmas.List.{length-map}
use Rattle.tib_lex.specs.Lists.{Along, Distinct}
use Rattle.tib_tree.specs.Trees.{Tree, Trees, none, tree, only, join, relabel}
use Rattle.tib_grammar.specs.Sides.{Symbol, label, hole, Side, holes, holes_of, fill}
use Rattle.tib_grammar.specs.GrammarOf.{GrammarOf}
use Rattle.tib_grammar.specs.Run.{rule_at, no_rule, AreRuns, yields, cost, IsCost}
use Rattle.tib_grammar.specs.Series.{IsSeries}
use Rattle.tib_grammar.specs.declared.Rule.{Rule}
use Rattle.tib_cost.proofs.Least.{IsLeast-same}
use Rattle.tib_grammar_file.specs.ByText.{HaveOneShape, HaveOneText, AgreeInSymbol, AreOneTree, AreOneRule, AgreeByText}
use Rattle.tib_grammar_file.proofs.Alongs.{along_long}
use Rattle.tib_grammar_file.proofs.Relabelled.{symbol_with, trees_with, side_with, rule_with, rules_with, at_with, holes_with, relabel_join, fill_with, trees_told}
use Rattle.tib_grammar_file.proofs.Renumbering.{Renumbers, renumbering}
use Rattle.tib_grammar_file.proofs.Shapes.{shape_relabelled}

-- rules that differ at most in the labels on their right-hand sides
pub record DifferInLabels (xs ys : List (Rule ℕ)) : Type 0 where
  pub long : length xs ≡ length ys
  pub left : (n : ℕ) → n < length xs → (rule_at xs n).left ≡ (rule_at ys n).left
  pub states : (n : ℕ) → n < length xs → holes_of (rule_at xs n).right ≡ holes_of (rule_at ys n).right
  pub cost : (n : ℕ) → n < length xs → (rule_at xs n).cost ≡ (rule_at ys n).cost

pub differ_back : (xs ys : List (Rule ℕ)) → DifferInLabels xs ys → DifferInLabels ys xs
differ_back xs ys d = record {
  long = sym d.long;
  left = λ n h. sym (d.left n (omega (arith, h, d.long)));
  states = λ n h. sym (d.states n (omega (arith, h, d.long)));
  cost = λ n h. sym (d.cost n (omega (arith, h, d.long)));
}

pub differ_with : (f : ℕ → ℕ) (rules : List (Rule ℕ)) → DifferInLabels rules (rules_with f rules)
differ_with f rules = record {
  long = sym (length-map rules (rule_with f));
  left = λ n h. sym (ap (λ (r : Rule ℕ). r.left) (at_with f rules n h));
  states = λ n h. sym (ap (λ (r : Rule ℕ). holes_of r.right) (at_with f rules n h) ∙ holes_with f (only (rule_at rules n).right));
  cost = λ n h. sym (ap (λ (r : Rule ℕ). r.cost) (at_with f rules n h));
}

pub along_at : {A B : Type 0} (R : A → B → Type 0) (xs : List A) (ys : List B) (d : A) (e : B) (n : ℕ) → Along R xs ys → n < length xs → R (get_or xs n d) (get_or ys n e)
along_at R [] ys d e n a h = absurd (omega arith)
along_at R (x ∷ xs) [] d e n a h = absurd a
along_at R (x ∷ xs) (y ∷ ys) d e zero a h = a.0
along_at R (x ∷ xs) (y ∷ ys) d e (suc n) a h = along_at R xs ys d e n a.1 (omega arith)

shape_holes : (labels others : List (List ℕ)) (ts us : Trees (Symbol ℕ ℕ)) → HaveOneShape (AgreeInSymbol labels others) ts us → holes ts ≡ holes us
shape_holes labels others none none h = refl
shape_holes labels others none (tree s below more) h = absurd h
shape_holes labels others (tree s kids rest) none h = absurd h
shape_holes labels others (tree (label f) kids rest) (tree (label g) below more) h =
    ap (λ (qs : List ℕ). qs ++ holes rest) (shape_holes labels others kids below h.1) ∙ ap (λ (qs : List ℕ). holes below ++ qs) (shape_holes labels others rest more h.2)
shape_holes labels others (tree (label f) kids rest) (tree (hole q) below more) h = absurd h.0
shape_holes labels others (tree (hole p) kids rest) (tree (label g) below more) h = absurd h.0
shape_holes labels others (tree (hole p) kids rest) (tree (hole q) below more) h =
    ap (λ (x : ℕ). x ∷ holes rest) h.0 ∙ ap (λ (qs : List ℕ). q ∷ qs) (shape_holes labels others rest more h.2)

pub differ_by_text : (labels others : List (List ℕ)) (g h : GrammarOf) → AgreeByText labels others g h → DifferInLabels g.rules h.rules
differ_by_text labels others g h a =
    let at : (n : ℕ) → n < length g.rules → AreOneRule labels others (rule_at g.rules n) (rule_at h.rules n) =
    λ n b. along_at (AreOneRule labels others) g.rules h.rules no_rule no_rule n a.rules b in
    record {
      long = along_long (AreOneRule labels others) g.rules h.rules a.rules;
      left = λ n b. (at n b).left;
      states = λ n b. shape_holes labels others (only (rule_at g.rules n).right) (only (rule_at h.rules n).right) (at n b).right;
      cost = λ n b. (at n b).cost;
    }

module _ (xs ys : List (Rule ℕ)) (d : DifferInLabels xs ys) where
  pub runs_kept : (qs : List ℕ) (runs : Trees ℕ) → AreRuns xs qs runs → AreRuns ys qs runs
  runs_kept [] none h = tt
  runs_kept [] (tree n runs rest) h = absurd h
  runs_kept (q ∷ qs) none h = absurd h
  runs_kept (q ∷ qs) (tree n runs rest) h = (
    omega (arith, h.0, d.long),
    sym (d.left n h.0) ∙ h.1,
    subst (λ (ps : List ℕ). AreRuns ys ps runs) (d.states n h.0) (runs_kept (holes_of (rule_at xs n).right) runs h.2),
    runs_kept qs rest h.3,
  )

  pub cost_kept : (product : ℕ → ℕ → ℕ) (qs : List ℕ) (runs : Trees ℕ) → AreRuns xs qs runs → cost product xs runs ≡ cost product ys runs
  cost_kept product [] none h = refl
  cost_kept product [] (tree n runs rest) h = absurd h
  cost_kept product (q ∷ qs) none h = absurd h
  cost_kept product (q ∷ qs) (tree n runs rest) h =
      ap (λ (c : ℕ). product (product c (cost product xs runs)) (cost product xs rest)) (d.cost n h.0)
      ∙ ap (λ (c : ℕ). product (product (rule_at ys n).cost c) (cost product xs rest)) (cost_kept product (holes_of (rule_at xs n).right) runs h.2)
      ∙ ap (product (product (rule_at ys n).cost (cost product ys runs))) (cost_kept product qs rest h.3)

module _ (f : ℕ → ℕ) (apart : (i j : ℕ) → f i ≡ f j → i ≡ j) (rules : List (Rule ℕ)) where
  yields_with : (qs : List ℕ) (runs : Trees ℕ) → AreRuns rules qs runs → yields (rules_with f rules) runs ≡ relabel f (yields rules runs)
  yields_with [] none h = refl
  yields_with [] (tree n runs rest) h = absurd h
  yields_with (q ∷ qs) none h = absurd h
  yields_with (q ∷ qs) (tree n runs rest) h =
      let s : Trees (Symbol ℕ ℕ) = only (rule_at rules n).right in
      ap (λ (r : Rule ℕ). join (fill (only r.right) (yields (rules_with f rules) runs)) (yields (rules_with f rules) rest)) (at_with f rules n h.0)
      ∙ ap (λ (x : Trees ℕ). join (fill (trees_with f s) x) (yields (rules_with f rules) rest)) (yields_with (holes_of (rule_at rules n).right) runs h.2)
      ∙ ap (λ (x : Trees ℕ). join x (yields (rules_with f rules) rest)) (fill_with f s (yields rules runs))
      ∙ ap (λ (x : Trees ℕ). join (relabel f (fill s (yields rules runs))) x) (yields_with qs rest h.3)
      ∙ sym (relabel_join f (fill s (yields rules runs)) (yields rules rest))

  cost_to : (product : ℕ → ℕ → ℕ) (qs : List ℕ) (ts : Trees ℕ) (c : ℕ) → IsCost product rules qs ts c → IsCost product (rules_with f rules) qs (relabel f ts) c
  cost_to product qs ts c k = record {
    runs = k.runs;
    are_runs = runs_kept rules (rules_with f rules) (differ_with f rules) qs k.runs k.are_runs;
    yielded = yields_with qs k.runs k.are_runs ∙ ap (relabel f) k.yielded;
    costs = sym (cost_kept rules (rules_with f rules) (differ_with f rules) product qs k.runs k.are_runs) ∙ k.costs;
  }

  cost_from : (product : ℕ → ℕ → ℕ) (qs : List ℕ) (ts : Trees ℕ) (c : ℕ) → IsCost product (rules_with f rules) qs (relabel f ts) c → IsCost product rules qs ts c
  cost_from product qs ts c k =
      let are : AreRuns rules qs k.runs = runs_kept (rules_with f rules) rules (differ_back rules (rules_with f rules) (differ_with f rules)) qs k.runs k.are_runs in
      record {
        runs = k.runs;
        are_runs = are;
        yielded = trees_told f apart (yields rules k.runs) ts (sym (yields_with qs k.runs are) ∙ k.yielded);
        costs = cost_kept rules (rules_with f rules) (differ_with f rules) product qs k.runs are ∙ k.costs;
      }

-- rules that agree by text are the same rules under the numbers of the other table
symbol_given : (labels others : List (List ℕ)) (f : ℕ → ℕ) → Renumbers labels others f → (s t : Symbol ℕ ℕ) → AgreeInSymbol labels others s t → symbol_with f s ≡ t
symbol_given labels others f r (label g) (label h) a = ap label (r.gives g h a)
symbol_given labels others f r (label g) (hole q) a = absurd a
symbol_given labels others f r (hole p) (label h) a = absurd a
symbol_given labels others f r (hole p) (hole q) a = ap hole a

side_is : (s t : Side ℕ ℕ) → only s ≡ only t → s ≡ t
side_is s t e =
    let a : s.label ≡ t.label = cc e in
    let b : s.kids ≡ t.kids = cc e in
    ap (λ (l : Symbol ℕ ℕ). record { label = l; kids = s.kids }) a ∙ ap (λ (x : Trees (Symbol ℕ ℕ)). record { label = t.label; kids = x }) b

pub rule_given : (labels others : List (List ℕ)) (f : ℕ → ℕ) → Renumbers labels others f → (r s : Rule ℕ) → AreOneRule labels others r s → rule_with f r ≡ s
rule_given labels others f n r s a =
    let right : side_with f r.right ≡ s.right = side_is (side_with f r.right) s.right (shape_relabelled (AgreeInSymbol labels others) (symbol_with f) (symbol_given labels others f n) (only r.right) (only s.right) a.right) in
    ap (λ (x : ℕ). record { left = x; right = side_with f r.right; cost = r.cost }) a.left
    ∙ ap (λ (x : Side ℕ ℕ). record { left = s.left; right = x; cost = r.cost }) right
    ∙ ap (λ (x : ℕ). record { left = s.left; right = s.right; cost = x }) a.cost

pub rules_given : (labels others : List (List ℕ)) (f : ℕ → ℕ) → Renumbers labels others f → (rs ss : List (Rule ℕ)) → Along (AreOneRule labels others) rs ss → rules_with f rs ≡ ss
rules_given labels others f n [] [] a = refl
rules_given labels others f n [] (s ∷ ss) a = absurd a
rules_given labels others f n (r ∷ rs) [] a = absurd a
rules_given labels others f n (r ∷ rs) (s ∷ ss) a =
    ap (λ (x : Rule ℕ). x ∷ rules_with f rs) (rule_given labels others f n r s a.0) ∙ ap (λ (xs : List (Rule ℕ)). s ∷ xs) (rules_given labels others f n rs ss a.1)

pub series_by_text :
    (product : ℕ → ℕ → ℕ) (labels others : List (List ℕ)) (g h : GrammarOf) (t u : Tree ℕ) (v : Option ℕ) → Distinct labels → Distinct others → AgreeByText labels others g h →
    AreOneTree labels others t u → IsSeries product g.rules t v → IsSeries product h.rules u v
series_by_text product labels others g h t u v apart different a one s =
    let n = renumbering labels others apart different in
    let f : ℕ → ℕ = n.0 in
    let moved : IsSeries product g.rules t v → IsSeries product (rules_with f g.rules) (record { label = f t.label; kids = relabel f t.kids }) v =
    λ l. IsLeast-same (cost_to f n.1.apart g.rules product (0 ∷ []) (only t)) (cost_from f n.1.apart g.rules product (0 ∷ []) (only t)) l in
    let same : relabel f (only t) ≡ only u = shape_relabelled (HaveOneText labels others) f n.1.gives (only t) (only u) one in
    let rules : rules_with f g.rules ≡ h.rules = rules_given labels others f n.1 g.rules h.rules a.rules in
    IsLeast-same
    (λ c k. subst (λ (rs : List (Rule ℕ)). IsCost product rs (0 ∷ []) (only u) c) rules (subst (λ (ts : Trees ℕ). IsCost product (rules_with f g.rules) (0 ∷ []) ts c) same k))
    (λ c k. subst (λ (ts : Trees ℕ). IsCost product (rules_with f g.rules) (0 ∷ []) ts c) (sym same) (subst (λ (rs : List (Rule ℕ)). IsCost product rs (0 ∷ []) (only u) c) (sym rules) k))
    (moved s)
