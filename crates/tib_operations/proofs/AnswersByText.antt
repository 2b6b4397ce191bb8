-- The answer of a comparison is the same by the texts of the labels, whatever the table of labels.
use Rattle.std.specs.Prelude.{◌≡◌, ℕ, max, List, ◌++◌, codes, refl}
use Rattle.std.proofs.Common.{arith, ap, sym, ◌∙◌, subst, inl, inr}
use Rattle.std.specs.declared.cmp.Ordering.TheVariants.{Less}
use Rattle.tib_lex.specs.Lists.{Distinct}
use Rattle.tib_tree.specs.Growth.{text_at}
use Rattle.tib_tree.specs.Trees.{Tree, size, relabel_tree}
use Rattle.tib_tree.proofs.Counts.{sizes-relabel}
use Rattle.tib_grammar.specs.GrammarOf.{GrammarOf}
use Rattle.tib_grammar_file.specs.ByText.{AgreeByText}
use Rattle.tib_grammar_file.proofs.Renumbering.{Renumbers}
use Rattle.tib_grammar_file.proofs.TreesByText.{tree_printed}
use Rattle.tib_tree.specs.Order.{tree_cmp, tree_cmp_by}
use Rattle.tib_compare.specs.Compared.{HasCost, Agree, IsInOne, IsLeastOnly, IsCompared, IsTooLarge}
use Rattle.tib_compare.specs.declared.compared.Compared.{Compared}
use Rattle.tib_compare.specs.declared.compared.Compared.TheVariants.{Same, First, Second}
use Rattle.tib_operations.proofs.BestByText.{member_to, member_from, member_is, tree_moved, tree_texts}
use Rattle.tib_operations.specs.Compare.{answer_text, tree_line}

-- an answer, with the tree under other numbers
abbrev pub answer_with : (ℕ → ℕ) → Compared → Compared
answer_with r Same = Same
answer_with r (First t) = First (relabel_tree r t)
answer_with r (Second t) = Second (relabel_tree r t)

module _ (labels others : List (List ℕ)) (apart : Distinct labels) (different : Distinct others) (r : ℕ → ℕ) (numbers : Renumbers labels others r) where
  module _ (g h : GrammarOf) (agree : AgreeByText labels others g h) where
    -- a tree has a cost under the other numbers where it had one
    cost_to : (t : Tree ℕ) → HasCost g.rules t → HasCost h.rules (relabel_tree r t)
    cost_to t c = (c.0, member_to max labels others g h apart different agree r numbers (t, c.0) c.1)

    cost_from : (t : Tree ℕ) → HasCost h.rules (relabel_tree r t) → HasCost g.rules t
    cost_from t c = (c.0, member_from max labels others g h apart different agree r numbers (t, c.0) c.1)

    -- and each tree that has one is such a tree
    cost_is : (u : Tree ℕ) → HasCost h.rules u → (t : Tree ℕ) × (relabel_tree r t ≡ u) × HasCost g.rules t
    cost_is u c =
        let x = member_is max labels others g h apart different agree r numbers (u, c.0) c.1 in
        let same : relabel_tree r x.0.0 ≡ u = ap (λ (z : Tree ℕ × ℕ). z.0) x.1 in
        (x.0.0, same, cost_from x.0.0 (subst (λ (z : Tree ℕ). HasCost h.rules z) (sym same) c))

    texts_same : (t : Tree ℕ) → HasCost g.rules t → relabel_tree (text_at labels) t ≡ relabel_tree (text_at others) (relabel_tree r t)
    texts_same t c = tree_texts max labels others g h apart different agree r numbers (t, c.0) c.1

    line_same : (word : List ℕ) (t : Tree ℕ) → HasCost g.rules t → tree_line word labels t ≡ tree_line word others (relabel_tree r t)
    line_same word t c =
        ap (λ (z : List ℕ). word ++ (z ++ codes "\n"))
        (tree_printed labels others t (relabel_tree r t) (tree_moved max labels others g h apart different agree r numbers (t, c.0) c.1))

  before_back :
      (s t : Tree ℕ) → relabel_tree (text_at labels) s ≡ relabel_tree (text_at others) (relabel_tree r s) → relabel_tree (text_at labels) t ≡ relabel_tree (text_at others) (relabel_tree r t) →
      tree_cmp_by others (relabel_tree r s) (relabel_tree r t) ≡ Less → tree_cmp_by labels s t ≡ Less
  before_back s t a b e =
      ap (λ (z : Tree (List ℕ)). tree_cmp z (relabel_tree (text_at labels) t)) a ∙ ap (λ (z : Tree (List ℕ)). tree_cmp (relabel_tree (text_at others) (relabel_tree r s)) z) b ∙ e

  module _ (f g h k : GrammarOf) (left : AgreeByText labels others f h) (right : AgreeByText labels others g k) where
    agree_moved : (t : Tree ℕ) → Agree f.rules g.rules t → Agree h.rules k.rules (relabel_tree r t)
    agree_moved t a = (λ c. cost_to g k right t (a.0 (cost_from f h left t c)), λ c. cost_to f h left t (a.1 (cost_from g k right t c)))

    -- trees agree where those that they come from do
    agree_where : (u : Tree ℕ) → ((t : Tree ℕ) → relabel_tree r t ≡ u → (relabel_tree (text_at labels) t ≡ relabel_tree (text_at others) (relabel_tree r t)) → Agree f.rules g.rules t) → Agree h.rules k.rules u
    agree_where u all = (
      λ c.
          let s = cost_is f h left u c in
          subst (λ (z : Tree ℕ). HasCost k.rules z) s.1 (cost_to g k right s.0 ((all s.0 s.1 (texts_same f h left s.0 s.2)).0 s.2)),
      λ c.
          let s = cost_is g k right u c in
          subst (λ (z : Tree ℕ). HasCost h.rules z) s.1 (cost_to f h left s.0 ((all s.0 s.1 (texts_same g k right s.0 s.2)).1 s.2)),
    )

    least_moved : (t : Tree ℕ) → IsLeastOnly labels f.rules g.rules t → IsLeastOnly others h.rules k.rules (relabel_tree r t)
    least_moved t l = record {
      only = (cost_to f h left t l.only.0, λ c. l.only.1 (cost_from g k right t c));
      least = λ u e. agree_where u (λ s same texts.
          l.least s (before_back s t texts (texts_same f h left t l.only.0) (subst (λ (z : Tree ℕ). tree_cmp_by others z (relabel_tree r t) ≡ Less) (sym same) e)));
    }

  module _ (f g h k : GrammarOf) (left : AgreeByText labels others f h) (right : AgreeByText labels others g k) where
    -- the comparison of the grammars over the other table
    pub compared_moved : (a : Compared) → IsCompared labels f.rules g.rules a → IsCompared others h.rules k.rules (answer_with r a)
    compared_moved Same c = λ u. agree_where f g h k left right u (λ t same texts. c t)
    compared_moved (First t) c = least_moved f g h k left right t c
    compared_moved (Second t) c = least_moved g f k h right left t c

    pub answer_same : (a : Compared) → IsCompared labels f.rules g.rules a → answer_text labels a ≡ answer_text others (answer_with r a)
    answer_same Same c = refl
    answer_same (First t) c = line_same f h left (codes "first ") t c.only.0
    answer_same (Second t) c = line_same g k right (codes "second ") t c.only.0

    in_one_back : (u : Tree ℕ) → IsInOne h.rules k.rules u → (t : Tree ℕ) × (relabel_tree r t ≡ u) × IsInOne f.rules g.rules t
    in_one_back u (inl o) =
        let s = cost_is f h left u o.0 in
        (s.0, s.1, inl (s.2, λ c. o.1 (subst (λ (z : Tree ℕ). HasCost k.rules z) s.1 (cost_to g k right s.0 c))))
    in_one_back u (inr o) =
        let s = cost_is g k right u o.0 in
        (s.0, s.1, inr (s.2, λ c. o.1 (subst (λ (z : Tree ℕ). HasCost h.rules z) s.1 (cost_to f h left s.0 c))))

    in_one_moved : (t : Tree ℕ) → IsInOne f.rules g.rules t → IsInOne h.rules k.rules (relabel_tree r t)
    in_one_moved t (inl o) = inl (cost_to f h left t o.0, λ c. o.1 (cost_from g k right t c))
    in_one_moved t (inr o) = inr (cost_to g k right t o.0, λ c. o.1 (cost_from f h left t c))

    -- where the least tree is too large, so it is over the other table
    pub large_moved : IsTooLarge f.rules g.rules → IsTooLarge h.rules k.rules
    large_moved l = (
      (relabel_tree r l.0.0, in_one_moved l.0.0 l.0.1),
      λ u o.
          let s = in_one_back u o in
          let more = l.1 s.0 s.2 in
          let as_large : size (relabel_tree r s.0) ≡ size u = ap (λ (z : Tree ℕ). size z) s.1 in
          omega (arith, more, as_large, sizes-relabel r s.0.kids),
    )
