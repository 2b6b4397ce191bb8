-- The labels of rules that are made stay in the table, and their states in range.
use Rattle.std.specs.Prelude.{◌≡◌, ℕ, ◌+◌, ◌<◌, ◌≤◌, max, List, [], ◌∷◌, ◌++◌, length, map, filter, Bool, refl}
use Rattle.std.proofs.Common.{arith, ap, sym, ◌∙◌, subst, inl, inr, length-append}
use Rattle.tib_lex.specs.Lists.{Has}
use Rattle.tib_lex.proofs.Booleans.{bool_cases}
use Rattle.tib_lex.proofs.Lists.{has_mapped, length_map}
use Rattle.tib_lex.proofs.Members.{has_at, at_has, has_either}
use Rattle.tib_tree.specs.Trees.{Trees, Tree, none, tree, only}
use Rattle.tib_grammar.specs.Sides.{Symbol, label, hole, Side, AreHoles, holes_of, over}
use Rattle.tib_grammar.specs.Run.{rule_at, no_rule}
use Rattle.tib_grammar.specs.Forms.{IsNormalSide, AreNormal}
use Rattle.tib_grammar.specs.Range.{AllBelow, IsInRange, AreInRange}
use Rattle.tib_grammar.specs.declared.Rule.{Rule}
use Rattle.tib_grammar.proofs.Sides.{holes_of-over}
use Rattle.tib_grammar.proofs.NormalRuns.{label_named}
use Rattle.tib_grammar_file.specs.Printed.{LabelsBelow, AreLabelled}
use Rattle.tib_weigh.proofs.Filters.{filtered_has}
use Rattle.tib_ranked_trees.specs.Levels.{root_of, states_of}
use Rattle.tib_determinize.specs.Vectors.{VectorOf}
use Rattle.tib_determinize.specs.VectorGrammar.{IsVectorGrammar}
use Rattle.tib_compare.specs.Beside.{moved, raised, beside}
use Rattle.tib_compare.specs.Wanted.{is_marked, node_cost, wanted}
use Rattle.tib_compare.proofs.Raising.{root_back, moved_normal}
use Rattle.tib_compare.proofs.Sides.{states_below}

holes_labelled : (n : ℕ) (ts : Trees (Symbol ℕ ℕ)) → AreHoles ts → LabelsBelow n ts
holes_labelled n none a = tt
holes_labelled n (tree (label f) kids rest) a = absurd a
holes_labelled n (tree (hole p) kids rest) a = holes_labelled n rest a

pub low_label : (n : ℕ) (s : Symbol ℕ ℕ) (kids : Trees (Symbol ℕ ℕ)) (f : ℕ) → s ≡ label f → AreHoles kids → f < n → LabelsBelow n (tree s kids none)
low_label n (label g) kids f e a low = let same : g ≡ f = cc in (omega (arith, same, low), holes_labelled n kids a, tt)
low_label n (hole p) kids f e a low = absurd (cc)

label_low : (n : ℕ) (s : Symbol ℕ ℕ) (kids : Trees (Symbol ℕ ℕ)) (f : ℕ) → s ≡ label f → LabelsBelow n (tree s kids none) → f < n
label_low n (label g) kids f e b = let same : g ≡ f = cc in omega (arith, same, b.0)
label_low n (hole p) kids f e b = absurd (cc)

-- rules are labelled where each is
labelled_from : (n : ℕ) (rules : List (Rule ℕ)) → ((r : Rule ℕ) → Has rules r → LabelsBelow n (only r.right)) → AreLabelled n rules
labelled_from n rules h m lt = h (rule_at rules m) (has_at rules m no_rule lt)

labelled_at : (n : ℕ) (rules : List (Rule ℕ)) → AreLabelled n rules → (r : Rule ℕ) → Has rules r → LabelsBelow n (only r.right)
labelled_at n rules l r h = let at = at_has rules r no_rule h in subst (λ (s : Rule ℕ). LabelsBelow n (only s.right)) at.2 (l at.0 at.1)

normal_at : (rules : List (Rule ℕ)) → AreNormal rules → (r : Rule ℕ) → Has rules r → IsNormalSide r.right
normal_at rules normal r h = let at = at_has rules r no_rule h in subst (λ (s : Rule ℕ). IsNormalSide s.right) at.2 (normal at.0 at.1)

moved_labelled : (n left by cost : ℕ) (r : Rule ℕ) → IsNormalSide r.right → LabelsBelow n (only r.right) → LabelsBelow n (only (moved left by cost r).right)
moved_labelled n left by cost r normal b =
    low_label n (label (root_of r.right.label)) (moved left by cost r).right.kids (root_of r.right.label) refl (moved_normal left by cost r).are_holes
    (label_low n r.right.label r.right.kids (root_of r.right.label) (sym (root_back r.right.label normal.is_label)) b)

raised_labelled : (n by : ℕ) (rules : List (Rule ℕ)) → AreNormal rules → AreLabelled n rules → (s : Rule ℕ) → Has (raised by rules) s → LabelsBelow n (only s.right)
raised_labelled n by rules normal l s h =
    let m = has_mapped (λ (r : Rule ℕ). moved (by + r.left) by 0 r) rules s h in
    subst (λ (x : Rule ℕ). LabelsBelow n (only x.right)) m.2 (moved_labelled n (by + m.0.left) by 0 m.0 (normal_at rules normal m.0 m.1) (labelled_at n rules l m.0 m.1))

-- both grammars side by side
pub beside_labelled : (n first : ℕ) (left right : List (Rule ℕ)) → AreNormal left → AreNormal right → AreLabelled n left → AreLabelled n right → AreLabelled n (beside first left right)
beside_labelled n first left right normal normal_too l m =
    labelled_from n (beside first left right) (λ r h. elim (has_either (raised 0 left) (raised first right) r h) [
      | inl k ↦ raised_labelled n 0 left normal l r k
      | inr k ↦ raised_labelled n first right normal_too m r k
    ])

-- the rules over positions
pub vectors_labelled : (n : ℕ) (rules : List (Rule ℕ)) (order : List VectorOf) (new : List (Rule ℕ)) → IsVectorGrammar max rules order new → AreLabelled n rules → AreLabelled n new
vectors_labelled n rules order new vectors l m lt =
    let f = label_named (rule_at new m).right.label (vectors.normal m lt).is_label in
    let b = (vectors.sound m f.0 lt f.1).least.attained.0.1 in
    low_label n (rule_at new m).right.label (rule_at new m).right.kids f.0 f.1 (vectors.normal m lt).are_holes
    (label_low n (rule_at rules b.rule).right.label (rule_at rules b.rule).right.kids f.0 b.root (l b.rule b.below))

module _ (marks : List Bool) (rules : List (Rule ℕ)) (normal : AreNormal rules) where
  -- each wanted rule is a rule that is moved, to a state that is in range
  record IsMoved (s : Rule ℕ) : Type 0 where
    rule : Rule ℕ
    stands : Has rules rule
    left : ℕ
    low : left ≤ 1 + rule.left
    is : moved left 1 node_cost rule ≡ s

  is_moved : (s : Rule ℕ) → Has (wanted marks rules) s → IsMoved s
  is_moved s h = elim (has_either (map (λ (r : Rule ℕ). moved (1 + r.left) 1 node_cost r) rules) (map (λ r. moved 0 1 node_cost r) (filter (is_marked marks) rules)) s h) [
    | inl k ↦ let m = has_mapped (λ (r : Rule ℕ). moved (1 + r.left) 1 node_cost r) rules s k in record { rule = m.0; stands = m.1; left = 1 + m.0.left; low = omega arith; is = m.2 }
    | inr k ↦
        let m = has_mapped (λ (r : Rule ℕ). moved 0 1 node_cost r) (filter (is_marked marks) rules) s k in
        record { rule = m.0; stands = (filtered_has (is_marked marks) rules m.0 m.1).0; left = 0; low = omega arith; is = m.2 }
  ]

  pub wanted_labelled : (n : ℕ) → AreLabelled n rules → AreLabelled n (wanted marks rules)
  wanted_labelled n l =
      labelled_from n (wanted marks rules) (λ s h.
      let m = is_moved s h in
      subst (λ (x : Rule ℕ). LabelsBelow n (only x.right)) m.is (moved_labelled n m.left 1 node_cost m.rule (normal_at rules normal m.rule m.stands) (labelled_at n rules l m.rule m.stands)))

  all_raised : (n : ℕ) (qs : List ℕ) → AllBelow n qs → AllBelow (n + 1) (map (λ q. 1 + q) qs)
  all_raised n [] a = tt
  all_raised n (q ∷ qs) a = (omega (arith, a.0), all_raised n qs a.1)

  pub wanted_range : (n : ℕ) → AreInRange n rules → AreInRange (n + 1) (wanted marks rules)
  wanted_range n range k lt =
      let s : Rule ℕ = rule_at (wanted marks rules) k in
      let m = is_moved s (has_at (wanted marks rules) k no_rule lt) in
      let b = states_below n rules normal range m.rule m.stands in
      let holes_are : holes_of (moved m.left 1 node_cost m.rule).right ≡ map (λ q. 1 + q) (states_of m.rule) = holes_of-over (root_of m.rule.right.label) (map (λ q. 1 + q) (states_of m.rule)) in
      subst (IsInRange (n + 1)) m.is (omega (arith, m.low, b.0), subst (AllBelow (n + 1)) (sym holes_are) (all_raised n (states_of m.rule) b.1))

  filter_few : (rs : List (Rule ℕ)) → length (filter (is_marked marks) rs) ≤ length rs
  filter_few [] = omega arith
  filter_few (r ∷ rs) = elim (bool_cases (is_marked marks r)) [
    | inl t ↦ let k = filter_few rs in rw t (omega (arith, k))
    | inr t ↦ let k = filter_few rs in rw t (omega (arith, k))
  ]

  pub wanted_few : length (wanted marks rules) ≤ length rules + length rules
  wanted_few =
      let one : length (map (λ (r : Rule ℕ). moved (1 + r.left) 1 node_cost r) rules) ≡ length rules = length_map (λ (r : Rule ℕ). moved (1 + r.left) 1 node_cost r) rules in
      let two : length (map (λ r. moved 0 1 node_cost r) (filter (is_marked marks) rules)) ≡ length (filter (is_marked marks) rules) =
      length_map (λ r. moved 0 1 node_cost r) (filter (is_marked marks) rules)
      in
      let sum : length (wanted marks rules) ≡ length (map (λ (r : Rule ℕ). moved (1 + r.left) 1 node_cost r) rules) + length (map (λ r. moved 0 1 node_cost r) (filter (is_marked marks) rules)) =
      length-append (map (λ (r : Rule ℕ). moved (1 + r.left) 1 node_cost r) rules) (map (λ r. moved 0 1 node_cost r) (filter (is_marked marks) rules))
      in
      let few = filter_few rules in
      omega (arith, one, two, sum, few)
