-- The k cheapest trees are the same trees by the texts of their labels, whatever the table of
-- labels.
use Rattle.tib_cost.specs.declared.Scale.{Scale}
use Rattle.std.proofs.Common.{◌≡◌, ℕ, List, [], ◌∷◌, ◌++◌, length, map, refl, ap, sym, ◌∙◌, subst, arith, inl, inr}
use Rattle.std.specs.Prelude.{Some}
use Rattle.std.specs.declared.cmp.Ordering.TheVariants.{Less}
use Rattle.std.proofs.lemmas.List.{length-map}
use Rattle.std.proofs.lemmas.Option.{slice_get_within, get_or_from_slice_get}
use Rattle.tib_cost.proofs.Least.{IsLeast-same}
use Rattle.tib_lex.specs.Lists.{Has, Each, Ascends, Distinct}
use Rattle.tib_tree.specs.Trees.{Tree, Trees, none, tree, only, join, relabel, relabel_tree}
use Rattle.tib_tree.specs.Growth.{text_at, LabelsBelow}
use Rattle.tib_tree.specs.Grows.{AreDistinct}
use Rattle.tib_grammar.specs.Sides.{Symbol, label, hole, holes_of, fill}
use Rattle.tib_grammar.specs.GrammarOf.{GrammarOf}
use Rattle.tib_grammar.specs.Run.{rule_at, no_rule, AreRuns, yields, IsCost}
use Rattle.tib_grammar.specs.declared.Rule.{Rule}
use Rattle.tib_grammar_file.specs.ByText.{HaveOneShape, HaveOneText, AgreeInSymbol, AreOneTree, AreOneRule, AgreeByText}
use Rattle.tib_grammar_file.specs.Printed.{LabelsBelow as SideLabelsBelow, AreLabelled}
use Rattle.tib_grammar_file.proofs.Alongs.{along_long}
use Rattle.tib_grammar_file.proofs.OneGrammar.{number_same}
use Rattle.tib_grammar_file.proofs.Relabelled.{trees_with, rules_with, at_with, relabel_join, fill_with, trees_told}
use Rattle.tib_grammar_file.proofs.Renumbering.{Renumbers}
use Rattle.tib_grammar_file.proofs.RunsByText.{along_at, differ_with, differ_back, runs_kept, cost_kept, rules_given}
use Rattle.tib_grammar_file.proofs.TreesByText.{tree_printed}
use Rattle.tib_tree.specs.Order.{tree_cmp}
use Rattle.tib_ranked_trees.specs.Best.{Costed, Cheaper, IsTreeAt, IsKBest}
use Rattle.tib_ranked_trees.proofs.Ranks.{tree_below, one_k_best}
use Rattle.tib_operations.specs.Text.{cost_text}
use Rattle.tib_operations.specs.KBest.{costed_line, costed_lines, HasKBestText}

-- texts of which none occurs twice have a number each
pub texts_apart : (labels : List (List ℕ)) → Distinct labels → AreDistinct labels
texts_apart labels d = record { once = λ m n t e f. number_same labels m n t d e f }

-- the labels of rules that agree by text are in the second table
module _ (labels others : List (List ℕ)) where
  shape_labelled : (ts us : Trees (Symbol ℕ ℕ)) → HaveOneShape (AgreeInSymbol labels others) ts us → SideLabelsBelow (length others) us
  shape_labelled none none h = tt
  shape_labelled none (tree g below more) h = absurd h
  shape_labelled (tree s kids rest) none h = absurd h
  shape_labelled (tree (label f) kids rest) (tree (label g) below more) h =
      (slice_get_within others g h.0.text h.0.second, shape_labelled kids below h.1, shape_labelled rest more h.2)
  shape_labelled (tree (label f) kids rest) (tree (hole q) below more) h = absurd h.0
  shape_labelled (tree (hole p) kids rest) (tree (label g) below more) h = absurd h.0
  shape_labelled (tree (hole p) kids rest) (tree (hole q) below more) h = shape_labelled rest more h.2

  pub rules_labelled : (g h : GrammarOf) → AgreeByText labels others g h → AreLabelled (length others) h.rules
  rules_labelled g h a m l =
      let long : length g.rules ≡ length h.rules = along_long (AreOneRule labels others) g.rules h.rules a.rules in
      let one : AreOneRule labels others (rule_at g.rules m) (rule_at h.rules m) =
      along_at (AreOneRule labels others) g.rules h.rules no_rule no_rule m a.rules (omega (arith, l, long)) in
      shape_labelled (only (rule_at g.rules m).right) (only (rule_at h.rules m).right) one.right

-- what rules under other numbers of labels yield is what trees become under these numbers
module _ (f : ℕ → ℕ) (rules : List (Rule ℕ)) where
  pub yields_exchanged : (qs : List ℕ) (runs : Trees ℕ) → AreRuns rules qs runs → relabel f (yields rules runs) ≡ yields (rules_with f rules) runs
  yields_exchanged [] none h = refl
  yields_exchanged [] (tree n runs rest) h = absurd h
  yields_exchanged (q ∷ qs) none h = absurd h
  yields_exchanged (q ∷ qs) (tree n runs rest) h =
      let s : Trees (Symbol ℕ ℕ) = only (rule_at rules n).right in
      relabel_join f (fill s (yields rules runs)) (yields rules rest)
      ∙ ap (λ (x : Trees ℕ). join (relabel f (fill s (yields rules runs))) x) (yields_exchanged qs rest h.3)
      ∙ ap (λ (x : Trees ℕ). join x (yields (rules_with f rules) rest)) (sym (fill_with f s (yields rules runs)))
      ∙ ap (λ (x : Trees ℕ). join (fill (trees_with f s) x) (yields (rules_with f rules) rest)) (yields_exchanged (holes_of (rule_at rules n).right) runs h.2)
      ∙ ap (λ (r : Rule ℕ). join (fill (only r.right) (yields (rules_with f rules) runs)) (yields (rules_with f rules) rest)) (sym (at_with f rules n h.0))

  -- and a tree has the same costs
  cost_to : (product : ℕ → ℕ → ℕ) (ts : Trees ℕ) (c : ℕ) → IsCost product rules (0 ∷ []) ts c → IsCost product (rules_with f rules) (0 ∷ []) (relabel f ts) c
  cost_to product ts c k = record {
    runs = k.runs;
    are_runs = runs_kept rules (rules_with f rules) (differ_with f rules) (0 ∷ []) k.runs k.are_runs;
    yielded = sym (yields_exchanged (0 ∷ []) k.runs k.are_runs) ∙ ap (relabel f) k.yielded;
    costs = sym (cost_kept rules (rules_with f rules) (differ_with f rules) product (0 ∷ []) k.runs k.are_runs) ∙ k.costs;
  }

  runs_from : (product : ℕ → ℕ → ℕ) (ts : Trees ℕ) (c : ℕ) → (k : IsCost product (rules_with f rules) (0 ∷ []) ts c) → AreRuns rules (0 ∷ []) k.runs
  runs_from product ts c k = runs_kept (rules_with f rules) rules (differ_back rules (rules_with f rules) (differ_with f rules)) (0 ∷ []) k.runs k.are_runs

  cost_from : ((i j : ℕ) → f i ≡ f j → i ≡ j) → (product : ℕ → ℕ → ℕ) (ts : Trees ℕ) (c : ℕ) → IsCost product (rules_with f rules) (0 ∷ []) (relabel f ts) c → IsCost product rules (0 ∷ []) ts c
  cost_from apart product ts c k =
      let are : AreRuns rules (0 ∷ []) k.runs = runs_from product (relabel f ts) c k in
      record {
        runs = k.runs;
        are_runs = are;
        yielded = trees_told f apart (yields rules k.runs) ts (yields_exchanged (0 ∷ []) k.runs are ∙ k.yielded);
        costs = cost_kept rules (rules_with f rules) (differ_with f rules) product (0 ∷ []) k.runs are ∙ k.costs;
      }

-- trees that become one tree are one tree
pub one_tree : (f : ℕ → ℕ) (ts : Trees ℕ) (u : Tree ℕ) → relabel f ts ≡ only u → (t : Tree ℕ) × (relabel_tree f t ≡ u) × (ts ≡ only t)
one_tree f none u e = absurd (cc e)
one_tree f (tree i kids none) u e =
    let a : f i ≡ u.label = cc e in
    let b : relabel f kids ≡ u.kids = cc e in (
      record { label = i; kids = kids },
      ap (λ (z : ℕ). record { label = z; kids = relabel f kids }) a ∙ ap (λ (z : Trees ℕ). record { label = u.label; kids = z }) b,
      refl,
    )
one_tree f (tree i kids (tree j below rest)) u e = absurd (cc e)

module _
    (product : ℕ → ℕ → ℕ) (labels others : List (List ℕ)) (g h : GrammarOf) (apart : Distinct labels) (different : Distinct others) (agree : AgreeByText labels others g h)
    (f : ℕ → ℕ) (numbers : Renumbers labels others f) where
  -- a tree with its cost, under the numbers of the other table
  abbrev pub moved : Costed → Costed
  moved x = (relabel_tree f x.0, x.1)

  rules : rules_with f g.rules ≡ h.rules
  rules = rules_given labels others f numbers g.rules h.rules agree.rules

  -- it has a cost where it had this one
  pub member_to : (x : Costed) → IsTreeAt product g.rules 0 x → IsTreeAt product h.rules 0 (moved x)
  member_to x m =
      subst (λ (rs : List (Rule ℕ)). IsTreeAt product rs 0 (moved x)) rules
      (IsLeast-same (cost_to f g.rules product (only x.0)) (cost_from f g.rules numbers.apart product (only x.0)) m)

  pub member_from : (x : Costed) → IsTreeAt product h.rules 0 (moved x) → IsTreeAt product g.rules 0 x
  member_from x m =
      IsLeast-same (cost_from f g.rules numbers.apart product (only x.0)) (cost_to f g.rules product (only x.0))
      (subst (λ (rs : List (Rule ℕ)). IsTreeAt product rs 0 (moved x)) (sym rules) m)

  -- each tree that has a cost by the other rules is such a tree
  pub member_is : (y : Costed) → IsTreeAt product h.rules 0 y → (x : Costed) × (moved x ≡ y)
  member_is y m =
      let k : IsCost product (rules_with f g.rules) (0 ∷ []) (only y.0) y.1 =
      subst (λ (rs : List (Rule ℕ)). IsCost product rs (0 ∷ []) (only y.0) y.1) (sym rules) m.attained.0 in
      let t = one_tree f (yields g.rules k.runs) y.0 (yields_exchanged f g.rules (0 ∷ []) k.runs (runs_from f g.rules product (only y.0) y.1 k) ∙ k.yielded) in
      ((t.0, y.1), ap (λ (z : Tree ℕ). (z, y.1)) t.1)

  -- its labels have the same texts
  shape_moved : (ts : Trees ℕ) → LabelsBelow (length others) (relabel f ts) → HaveOneShape (HaveOneText labels others) ts (relabel f ts)
  shape_moved none b = tt
  shape_moved (tree i kids rest) b = (numbers.back i b.0, shape_moved kids b.1, shape_moved rest b.2)

  pub tree_moved : (x : Costed) → IsTreeAt product g.rules 0 x → AreOneTree labels others x.0 (relabel_tree f x.0)
  tree_moved x m =
      shape_moved (only x.0) (tree_below others product h.rules (rules_labelled labels others g h agree) 0 (moved x) (member_to x m))

  text_moved : (i j : ℕ) → HaveOneText labels others i j → text_at labels i ≡ text_at others j
  text_moved i j s = get_or_from_slice_get labels i s.text [] s.first ∙ sym (get_or_from_slice_get others j s.text [] s.second)

  texts_moved : (ts us : Trees ℕ) → HaveOneShape (HaveOneText labels others) ts us → relabel (text_at labels) ts ≡ relabel (text_at others) us
  texts_moved none none s = refl
  texts_moved none (tree j below more) s = absurd s
  texts_moved (tree i kids rest) none s = absurd s
  texts_moved (tree i kids rest) (tree j below more) s =
      ap (λ (z : List ℕ). tree z (relabel (text_at labels) kids) (relabel (text_at labels) rest)) (text_moved i j s.0)
      ∙ ap (λ (z : Trees (List ℕ)). tree (text_at others j) z (relabel (text_at labels) rest)) (texts_moved kids below s.1)
      ∙ ap (λ (z : Trees (List ℕ)). tree (text_at others j) (relabel (text_at others) below) z) (texts_moved rest more s.2)

  pub tree_texts : (x : Costed) → IsTreeAt product g.rules 0 x → relabel_tree (text_at labels) x.0 ≡ relabel_tree (text_at others) (relabel_tree f x.0)
  tree_texts x m =
      let s = tree_moved x m in
      ap (λ (z : List ℕ). record { label = z; kids = relabel (text_at labels) x.0.kids }) (text_moved x.0.label (f x.0.label) s.0)
      ∙ ap (λ (z : Trees (List ℕ)). record { label = text_at others (f x.0.label); kids = z }) (texts_moved x.0.kids (relabel f x.0.kids) s.1)

  -- and it comes where it came
  order_moved : (x z : Costed) → IsTreeAt product g.rules 0 x → IsTreeAt product g.rules 0 z → Cheaper labels x z → Cheaper others (moved x) (moved z)
  order_moved x z m n (inl less) = inl less
  order_moved x z m n (inr same) = inr (
    same.0,
    subst (λ (t : Tree (List ℕ)). tree_cmp t (relabel_tree (text_at others) (relabel_tree f z.0)) ≡ Less) (tree_texts x m)
        (subst (λ (t : Tree (List ℕ)). tree_cmp (relabel_tree (text_at labels) x.0) t ≡ Less) (tree_texts z n) same.1),
  )

  -- the list of the k cheapest trees
  has_moved : (xs : List Costed) (x : Costed) → Has xs x → Has (map moved xs) (moved x)
  has_moved [] x k = absurd k
  has_moved (y ∷ xs) x (inl e) = inl (ap moved e)
  has_moved (y ∷ xs) x (inr k) = inr (has_moved xs x k)

  members_moved : (xs : List Costed) → Each (IsTreeAt product g.rules 0) xs → Each (IsTreeAt product h.rules 0) (map moved xs)
  members_moved [] m = tt
  members_moved (x ∷ xs) m = (member_to x m.0, members_moved xs m.1)

  before_moved : (x : Costed) (xs : List Costed) → IsTreeAt product g.rules 0 x → Each (IsTreeAt product g.rules 0) xs → Each (Cheaper labels x) xs → Each (Cheaper others (moved x)) (map moved xs)
  before_moved x [] n m a = tt
  before_moved x (z ∷ xs) n m a = (order_moved x z n m.0 a.0, before_moved x xs n m.1 a.1)

  ascends_moved : (xs : List Costed) → Each (IsTreeAt product g.rules 0) xs → Ascends (Cheaper labels) xs → Ascends (Cheaper others) (map moved xs)
  ascends_moved [] m a = tt
  ascends_moved (x ∷ xs) m a = (before_moved x xs m.0 m.1 a.0, ascends_moved xs m.1 a.1)

  behind_moved : (y : Costed) (xs : List Costed) → IsTreeAt product g.rules 0 y → Each (IsTreeAt product g.rules 0) xs → Each (λ x. Cheaper labels x y) xs → Each (λ x. Cheaper others x (moved y)) (map moved xs)
  behind_moved y [] n m a = tt
  behind_moved y (x ∷ xs) n m a = (order_moved x y m.0 n a.0, behind_moved y xs n m.1 a.1)

  best_moved : (k : ℕ) (xs : List Costed) → IsKBest product g.rules labels k xs → IsKBest product h.rules others k (map moved xs)
  best_moved k xs b = record {
    members = members_moved xs b.members;
    ascends = ascends_moved xs b.members b.ascends;
    few = (let long : length (map moved xs) ≡ length xs = length-map xs moved in omega (arith, b.few, long));
    others = λ y m new.
        let x = member_is y m in
        let n : IsTreeAt product g.rules 0 x.0 = member_from x.0 (subst (IsTreeAt product h.rules 0) (sym x.1) m) in
        let last = b.others x.0 n (λ k. new (subst (Has (map moved xs)) x.1 (has_moved xs x.0 k))) in
        (length-map xs moved ∙ last.0, subst (λ z. Each (λ w. Cheaper others w z) (map moved xs)) x.1 (behind_moved x.0 xs n b.members last.1));
  }

  -- its lines
  lines_moved : (scale : Scale) (xs : List Costed) → Each (IsTreeAt product g.rules 0) xs → costed_lines scale labels xs ≡ costed_lines scale others (map moved xs)
  lines_moved scale [] m = refl
  lines_moved scale (x ∷ xs) m =
      ap (λ (z : List ℕ). (z ++ cost_text scale (Some x.1)) ++ costed_lines scale labels xs) (tree_printed labels others x.0 (relabel_tree f x.0) (tree_moved x m.0))
      ∙ ap (λ (z : List ℕ). costed_line scale others (moved x) ++ z) (lines_moved scale xs m.1)

  pub texts_once :
      (scale : Scale) (k : ℕ) (text other : List ℕ) → HasKBestText scale product k labels g text → HasKBestText scale product k others h other → text ≡ other
  texts_once scale k text other a b =
      let same : map moved a.best ≡ b.best =
      one_k_best others (texts_apart others different) product h.rules (rules_labelled labels others g h agree) k (map moved a.best) b.best (best_moved k a.best a.are_best) b.are_best in
      a.are ∙ lines_moved scale a.best a.are_best.members ∙ ap (costed_lines scale others) same ∙ sym b.are
