-- That the comparison of two grammars has no answer cannot be.
use Rattle.std.specs.Prelude.{◌≡◌, ◌⊎◌, ℕ, ◌+◌, ◌<◌, max, List, [], ◌∷◌, length, map, false, refl}
use Rattle.std.proofs.Common.{zero, suc, get_or, arith, ap, sym, ◌∙◌, subst, inl, inr}
use Rattle.std.proofs.lemmas.List.{get_or-map, length-map}
use Rattle.std.specs.declared.cmp.Ordering.TheVariants.{Less}
use Rattle.tib_cost.specs.declared.Scale.TheVariants.{Unweighted}
use Rattle.tib_cost.specs.Semiring.{boolean_laws}
use Rattle.tib_lex.specs.Lists.{Has}
use Rattle.tib_lex.proofs.Booleans.{bool_cases}
use Rattle.tib_lex.proofs.Lists.{has_mapped}
use Rattle.tib_lex.proofs.Members.{has_at, at_has, has_either}
use Rattle.tib_tree.specs.Grows.{AreDistinct}
use Rattle.tib_tree.specs.Trees.{Tree, Trees, none, tree, only}
use Rattle.tib_grammar.specs.Forms.{IsLabel, AreNormal}
use Rattle.tib_grammar.specs.GrammarOf.{named_rule}
use Rattle.tib_grammar.specs.Range.{IsInRange, AreInRange}
use Rattle.tib_grammar.specs.Run.{rule_at, no_rule, AreFree}
use Rattle.tib_grammar.specs.Sides.{Symbol, label, hole, leaves}
use Rattle.tib_grammar.specs.declared.Rule.{Rule}
use Rattle.tib_grammar_file.specs.Printable.{HavePlainLabels, IsPrintable, ArePrintable}
use Rattle.tib_grammar_file.specs.Printed.{AreLabelled}
use Rattle.tib_grammar_file.proofs.Plain.{labels_below}
use Rattle.tib_expand.specs.Reached.{IsReachedSet}
use Rattle.tib_ranked_trees.specs.Best.{Costed, IsTreeAt}
use Rattle.tib_ranked_trees.specs.Levels.{root_of, states_of}
use Rattle.tib_ranked_trees.proofs.Ranks.{cheaper_strict}
use Rattle.tib_tree.specs.Order.{tree_cmp_by}
use Rattle.tib_canon.proofs.ConstructionExists.{IsEdgeOver}
use Rattle.tib_canon.proofs.PlacesIn.{place_in, placed_in_range, placed_back, map_itself}
use Rattle.tib_canon.proofs.ReachedOnce.{key_same}
use Rattle.tib_determinize.specs.Determinization.{determinization}
use Rattle.tib_determinize.specs.OneStep.{determinization_laws}
use Rattle.tib_determinize.specs.VectorGrammar.{IsDeterminized}
use Rattle.tib_determinize.specs.Vectors.{VectorOf, vector_at}
use Rattle.tib_compare.specs.Answered.{SomeDiffers, NoneDiffers}
use Rattle.tib_compare.specs.Beside.{beside, moved, raised}
use Rattle.tib_compare.specs.Compared.{HasCost, Agree, IsOnlyIn, IsInOne, IsLeastOnly, IsCompared}
use Rattle.tib_compare.specs.Wanted.{differs}
use Rattle.tib_compare.specs.declared.compared.Compared.{Compared}
use Rattle.tib_compare.specs.declared.compared.Compared.TheVariants.{Same, First, Second}
use Rattle.tib_compare.proofs.Answering.{told_in_one, agree_unless, same_answer, some_told}
use Rattle.tib_compare.proofs.Bounds.{cost_runs, run_at}
use Rattle.tib_compare.proofs.OneAnswer.{one_first}
use Rattle.tib_compare.proofs.Ordering.{not_both_before}
use Rattle.tib_operations.proofs.BestExists.{first_there}
use Rattle.tib_operations.proofs.PlainVectors.{vector_same, vectors_plain}

-- the rules of both side by side can be printed where those of each can

module _ (labels : List (List ℕ)) where
  leaves_plain : (qs : List ℕ) → HavePlainLabels labels (leaves {A = ℕ} qs)
  leaves_plain [] = tt
  leaves_plain (q ∷ qs) = (tt, leaves_plain qs)

  root_plain : (s : Symbol ℕ ℕ) (kids : Trees (Symbol ℕ ℕ)) (qs : List ℕ) → IsLabel s → HavePlainLabels labels (tree s kids none) → HavePlainLabels labels (tree (label (root_of s)) (leaves qs) none)
  root_plain (label g) kids qs h p = (p.0, p.1, leaves_plain qs, tt)
  root_plain (hole q) kids qs h p = absurd h

  raised_plain : (by : ℕ) (rules : List (Rule ℕ)) → AreNormal rules → ArePrintable Unweighted labels rules → (s : Rule ℕ) → Has (raised by rules) s → IsPrintable Unweighted labels s
  raised_plain by rules normal p s h =
      let m = has_mapped (λ (r : Rule ℕ). moved (by + r.left) by 0 r) rules s h in
      let at = at_has rules m.0 no_rule m.1 in
      let r : Rule ℕ = rule_at rules at.0 in
      subst (IsPrintable Unweighted labels) (ap (λ (z : Rule ℕ). moved (by + z.left) by 0 z) at.2 ∙ m.2)
      (record { right = root_plain r.right.label r.right.kids (map (λ (q : ℕ). by + q) (states_of r)) (normal at.0 at.1).is_label (p at.0 at.1).right; cost = refl })

  beside_plain :
      (first : ℕ) (left right : List (Rule ℕ)) → AreNormal left → AreNormal right → ArePrintable Unweighted labels left → ArePrintable Unweighted labels right →
      ArePrintable Unweighted labels (beside first left right)
  beside_plain first left right normal normal_too p q m h =
      let s : Rule ℕ = rule_at (beside first left right) m in
      elim (has_either (raised 0 left) (raised first right) s (has_at (beside first left right) m no_rule h)) [
        | inl k ↦ raised_plain 0 left normal p s k
        | inr k ↦ raised_plain first right normal_too q s k
      ]

  -- edges that are reached, as rules over the positions of the order
  module _ (rules : List (Rule ℕ)) (p : ArePrintable Unweighted labels rules) (order : List VectorOf) (edges : List (Rule VectorOf)) (reached : IsReachedSet (determinization max rules) order edges) where
    abbrev place : VectorOf → ℕ
    place = place_in (key_same (determinization max rules) (determinization_laws max rules) vector_same) order

    abbrev numbered : List (Rule ℕ)
    numbered = map (named_rule place) edges

    is_over : (e : Rule VectorOf) → Has edges e → IsEdgeOver Unweighted labels order e
    is_over = (vectors_plain boolean_laws Unweighted labels (record { names = []; rules = rules }) p).edges.edges order edges reached

    read_back : map (named_rule (vector_at order)) numbered ≡ edges
    read_back =
        map_itself (named_rule (vector_at order)) (named_rule place) edges (λ e h.
        let o = is_over e h in
        placed_back (key_same (determinization max rules) (determinization_laws max rules) vector_same) [] order e o.left o.right o.leaves)

    numbered_range : AreInRange (length order) numbered
    numbered_range m h =
        let low : m < length edges = omega (arith, h, length-map edges (named_rule place)) in
        let spare : Rule VectorOf = named_rule (λ n. []) no_rule in
        let o = is_over (get_or edges m spare) (has_at edges m spare low) in
        subst (IsInRange (length order)) (sym (get_or-map (named_rule place) edges m spare no_rule low))
        (placed_in_range (key_same (determinization max rules) (determinization_laws max rules) vector_same) [] order (get_or edges m spare) o.left o.right)

    determinized : IsDeterminized max rules order numbered
    determinized = record {
      reached = subst (λ (es : List (Rule VectorOf)). IsReachedSet (determinization max rules) order es) (sym read_back) reached;
      in_range = numbered_range;
    }

-- some vector tells the grammars apart, or none does

none_more : (second : ℕ) (v : VectorOf) (order : List VectorOf) → differs second v ≡ false → NoneDiffers second order → NoneDiffers second (v ∷ order)
none_more second v order e n zero h = e
none_more second v order e n (suc k) h = n k (omega (arith, h))

some_or_none : (second : ℕ) (order : List VectorOf) → SomeDiffers second order ⊎ NoneDiffers second order
some_or_none second [] = inr (λ k h. absurd (omega (arith, h)))
some_or_none second (v ∷ order) = elim (bool_cases (differs second v)) [
  | inl t ↦ inl (0, omega arith, t)
  | inr f ↦ elim (some_or_none second order) [ inl m ↦ inl (suc m.0, omega (arith, m.1), m.2) | inr n ↦ inr (none_more second v order f n) ]
]

-- of the trees that have a cost in one grammar alone there is a least one, where there is one

module _ (labels : List (List ℕ)) (distinct : AreDistinct labels) where
  before_carries : (s t u : Tree ℕ) → tree_cmp_by labels s t ≡ Less → tree_cmp_by labels t u ≡ Less → tree_cmp_by labels s u ≡ Less
  before_carries s t u h k = elim ((cheaper_strict labels).carries (s, 0) (t, 0) (u, 0) (inr (refl, h)) (inr (refl, k))) [ inl bad ↦ absurd (omega (arith, bad)) | inr e ↦ e.1 ]

  module _ (one two : List (Rule ℕ)) (normal : AreNormal one) (free : AreFree one) (labelled : AreLabelled (length labels) one) where
    abbrev IsOnly : Costed → Type 0
    IsOnly x = IsTreeAt max one 0 x × (x.1 ≡ 0) × (HasCost two x.0 → ⊥)

    only_at : (t : Tree ℕ) → IsOnlyIn one two t → IsOnly (t, 0)
    only_at t o = (run_at one normal free 0 t (cost_runs one t o.0), refl, o.1)

    least_only : (t : Tree ℕ) → IsOnlyIn one two t → ((u : Tree ℕ) → IsOnlyIn one two u → ((v : Tree ℕ) → IsOnlyIn one two v → tree_cmp_by labels v u ≡ Less → ⊥) → ⊥) → ⊥
    least_only t o go =
        first_there labels distinct max one labelled IsOnly (λ x p. p.0) (t, 0) (only_at t o) (λ c p first.
        go c.0 ((c.1, p.0), p.2) (λ v q e. elim (first (v, 0) (only_at v q)) [
          | inl same ↦
              let is : c.0 ≡ v = ap (λ (z : Costed). z.0) same in
              let own : tree_cmp_by labels v v ≡ Less = subst (λ (z : Tree ℕ). tree_cmp_by labels v z ≡ Less) is e in
              not_both_before labels v v own own
          | inr cheaper ↦ elim cheaper [ inl less ↦ omega (arith, less) | inr b ↦ not_both_before labels c.0 v b.1 e ]
        ]))

  module _
      (one two : List (Rule ℕ)) (normal : AreNormal one) (normal_too : AreNormal two) (free : AreFree one) (free_too : AreFree two) (labelled : AreLabelled (length labels) one)
      (labelled_too : AreLabelled (length labels) two) (agree : (u : Tree ℕ) → (IsInOne one two u → ⊥) → Agree one two u) where
    -- what comes before the least of the second, and this before another of it, comes before that
    -- one
    before_other :
        (x w v : Tree ℕ) → IsOnlyIn two one w → IsOnlyIn two one v → (tree_cmp_by labels v w ≡ Less → ⊥) → tree_cmp_by labels x w ≡ Less → tree_cmp_by labels x v ≡ Less
    before_other x w v a b not_before e = elim (one_first labels distinct two two labelled_too labelled_too w v a.0 b.0) [
      | inl same ↦ subst (λ (z : Tree ℕ). tree_cmp_by labels x z ≡ Less) same e
      | inr o ↦ elim o [ inl k ↦ before_carries x w v e k | inr k ↦ absurd (not_before k) ]
    ]

    -- the least of the first, or one of the second that comes before it, is the least of all
    settled : (t : Tree ℕ) → IsOnlyIn one two t → ((u : Tree ℕ) → IsLeastOnly labels one two u → ⊥) → ((u : Tree ℕ) → IsLeastOnly labels two one u → ⊥) → ⊥
    settled t o go other =
        least_only one two normal free labelled t o (λ u is first.
        let alone : (v : Tree ℕ) → IsOnlyIn two one v → tree_cmp_by labels v u ≡ Less → ⊥ =
        λ v p e. least_only two one normal_too free_too labelled_too v p (λ w in_w low.
        other w (record {
          only = in_w;
          least = λ x k.
              let a = agree x (λ i. elim i [
                | inl y ↦ first x y (before_carries x v u (before_other x w v in_w p (low v p) k) e)
                | inr y ↦ low x y k
              ]) in (a.1, a.0);
        }))
        in
        go u (record { only = is; least = λ x k. agree x (λ i. elim i [ inl y ↦ first x y k | inr y ↦ alone x y k ]) }))

  module _
      (first : ℕ) (start : 0 < first) (left right : List (Rule ℕ)) (normal : AreNormal left) (normal_too : AreNormal right) (p : ArePrintable Unweighted labels left)
      (q : ArePrintable Unweighted labels right) (range : AreInRange first left) (order : List VectorOf) (edges : List (Rule VectorOf))
      (reached : IsReachedSet (determinization max (beside first left right)) order edges) where
    plain_both : ArePrintable Unweighted labels (beside first left right)
    plain_both = beside_plain labels first left right normal normal_too p q

    abbrev numbered_rules : List (Rule ℕ)
    numbered_rules = numbered labels (beside first left right) plain_both order edges reached

    found : IsDeterminized max (beside first left right) order numbered_rules
    found = determinized labels (beside first left right) plain_both order edges reached

    free : AreFree left
    free n h = (p n h).cost

    free_too : AreFree right
    free_too n h = (q n h).cost

    labelled : (rules : List (Rule ℕ)) → ArePrintable Unweighted labels rules → AreLabelled (length labels) rules
    labelled rules r n h = labels_below labels (only (rule_at rules n).right) (r n h).right

    agree : (u : Tree ℕ) → (IsInOne left right u → ⊥) → Agree left right u
    agree u n =
        agree_unless first start left right normal normal_too free free_too range order numbered_rules found u (λ told.
        n (told_in_one first start left right normal normal_too free free_too range order numbered_rules found u told))

    -- where the vectors of both are reached
    pub answer_there : ((a : Compared) → IsCompared labels left right a → ⊥) → ⊥
    answer_there never = elim (some_or_none first order) [
      | inr alike ↦ never Same (same_answer first start left right normal normal_too free free_too range order numbered_rules found alike)
      | inl some ↦
          let t = some_told first start left right normal normal_too free free_too range order numbered_rules found labels some in
          elim t.1 [
            | inl o ↦ settled left right normal normal_too free free_too (labelled left p) (labelled right q) agree t.0 o (λ u. never (First u)) (λ u. never (Second u))
            | inr o ↦
                settled right left normal_too normal free_too free (labelled right q) (labelled left p)
                (λ u n. let a = agree u (λ i. elim i [ inl y ↦ n (inr y) | inr y ↦ n (inl y) ]) in (a.1, a.0)) t.0 o (λ u. never (Second u)) (λ u. never (First u))
          ]
    ]
