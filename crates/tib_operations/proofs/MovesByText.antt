-- A transducer under other numbers of labels: it is the one that agrees with it by text, and its
-- variables have the same restrictions.
use Rattle.std.proofs.Common.{◌≡◌, ℕ, ◌<◌, Bool, true, false, List, [], ◌∷◌, ◌++◌, length, map, get_or, refl, ap, sym, ◌∙◌, subst, arith, zero, suc, inl, inr, Option}
use Rattle.std.specs.Prelude.{Some, None, nat_eq, option_map, if◌then◌else◌}
use Rattle.std.proofs.lemmas.List.{length-map, get_or-map, map-append}
use Rattle.tib_lex.specs.Lists.{Along}
use Rattle.tib_lex.proofs.Numbers.{nat_eq_cases}
use Rattle.tib_lex.proofs.Places.{at_map}
use Rattle.tib_tree.specs.Trees.{Trees, none, tree, only, relabel, relabel_tree}
use Rattle.tib_tree.proofs.Counts.{tree_same}
use Rattle.tib_grammar.specs.Sides.{Symbol, label, hole, Side as SideFor, holes_of, symbol_map, side_map}
use Rattle.tib_grammar_file.proofs.Renumbering.{Renumbers}
use Rattle.tib_grammar_file.proofs.Shapes.{shape_relabelled}
use Rattle.tib_transducer.specs.Rules.{transducer_rule, no_rule, no_variable, variables_of, variable_at}
use Rattle.tib_transducer.specs.declared.Variable.{Variable}
use Rattle.tib_transducer.specs.declared.Pair.{Pair}
use Rattle.tib_transducer.specs.declared.TransducerRule.{TransducerRule}
use Rattle.tib_transducer_file.specs.ByText.{AgreeOnLeft, AgreeOnRight, AreOneTransducerRule}
use Rattle.tib_apply.specs.Restrictions.{with_label, labels_of, all_labels, without, once, restricted_labels, place_of, restriction, Admits}
use Rattle.tib_apply.specs.Forward.{forward_key}
use Rattle.tib_apply.specs.Backward.{states_at, backward_key}
use Rattle.tib_canon.proofs.EdgesByText.{key_with}
use Rattle.tib_canon.proofs.Relabelled.{variable_with, node_with, left_with, left_given, right_given}
use Rattle.tib_operations.proofs.TransducerTables.{right_with, rule_with, holes_noted, variables_with}

abbrev pub moves_with : (ℕ → ℕ) → List (TransducerRule ℕ) → List (TransducerRule ℕ)
moves_with f moves = map (rule_with f) moves

pub move_at : (f : ℕ → ℕ) (moves : List (TransducerRule ℕ)) (n : ℕ) → n < length moves → transducer_rule (moves_with f moves) n ≡ rule_with f (transducer_rule moves n)
move_at f moves n h = get_or-map (rule_with f) moves n no_rule no_rule h

-- transducers that agree by text are one under the numbers of the other table

module _ (labels others : List (List ℕ)) (f : ℕ → ℕ) (n : Renumbers labels others f) where
  move_given : (r s : TransducerRule ℕ) → AreOneTransducerRule labels others r s → rule_with f r ≡ s
  move_given r s h =
      let left : relabel_tree (left_with f) r.left ≡ s.left =
      tree_same (relabel_tree (left_with f) r.left) s.left (shape_relabelled (AgreeOnLeft labels others) (left_with f) (left_given labels others f n) (only r.left) (only s.left) h.left)
      in
      let right : relabel_tree (right_with f) r.right ≡ s.right =
      tree_same (relabel_tree (right_with f) r.right) s.right (shape_relabelled (AgreeOnRight labels others) (right_with f) (right_given labels others f n) (only r.right) (only s.right) h.right)
      in
      ap (λ (q : ℕ). record { state = q; left = relabel_tree (left_with f) r.left; right = relabel_tree (right_with f) r.right; cost = r.cost }) h.state
      ∙ ap (λ (l : SideFor ℕ Variable). record { state = s.state; left = l; right = relabel_tree (right_with f) r.right; cost = r.cost }) left
      ∙ ap (λ (l : SideFor ℕ (Pair ℕ)). record { state = s.state; left = s.left; right = l; cost = r.cost }) right
      ∙ ap (λ (c : ℕ). record { state = s.state; left = s.left; right = s.right; cost = c }) h.cost

  pub moves_given : (rs ss : List (TransducerRule ℕ)) → Along (AreOneTransducerRule labels others) rs ss → moves_with f rs ≡ ss
  moves_given [] [] h = refl
  moves_given [] (s ∷ ss) h = absurd h
  moves_given (r ∷ rs) [] h = absurd h
  moves_given (r ∷ rs) (s ∷ ss) h =
      ap (λ (x : TransducerRule ℕ). x ∷ moves_with f rs) (move_given r s h.0) ∙ ap (λ (xs : List (TransducerRule ℕ)). s ∷ xs) (moves_given rs ss h.1)

-- the labels of labelled variables, and their numbers

map_same : {A : Type 0} (xs : List A) → map (λ x. x) xs ≡ xs
map_same [] = refl
map_same {A} (x ∷ xs) = ap (λ (ys : List A). x ∷ ys) (map_same xs)

-- the right-hand side has the same pairs
pub pairs_with : (f : ℕ → ℕ) (right : SideFor ℕ (Pair ℕ)) → holes_of (relabel_tree (right_with f) right) ≡ holes_of right
pairs_with f right = holes_noted f (λ x. x) (only right) ∙ map_same (holes_of right)

module _ (f : ℕ → ℕ) (apart : (i j : ℕ) → f i ≡ f j → i ≡ j) where
  same_test : (g h : ℕ) → nat_eq (f g) (f h) ≡ nat_eq g h
  same_test g h = elim (nat_eq_cases g h) [
    | inl a ↦ elim (nat_eq_cases (f g) (f h)) [
      | inl b ↦ b.1 ∙ sym a.1
      | inr b ↦ absurd (b.0 (ap f a.0))
    ]
    | inr a ↦ elim (nat_eq_cases (f g) (f h)) [
      | inl b ↦ absurd (a.0 (apart g h b.0))
      | inr b ↦ b.1 ∙ sym a.1
    ]
  ]

  without_step : (b : Bool) (h : ℕ) (xs ys : List ℕ) → xs ≡ map f ys → (if b then xs else f h ∷ xs) ≡ map f (if b then ys else h ∷ ys)
  without_step true h xs ys e = e
  without_step false h xs ys e = ap (λ (zs : List ℕ). f h ∷ zs) e

  without_with : (g : ℕ) (hs : List ℕ) → without (f g) (map f hs) ≡ map f (without g hs)
  without_with g [] = refl
  without_with g (h ∷ hs) =
      ap (λ (b : Bool). if b then without (f g) (map f hs) else f h ∷ without (f g) (map f hs)) (same_test h g)
      ∙ without_step (nat_eq h g) h (without (f g) (map f hs)) (without g hs) (without_with g hs)

  once_with : (hs : List ℕ) → once (map f hs) ≡ map f (once hs)
  once_with [] = refl
  once_with (h ∷ hs) = ap (λ (xs : List ℕ). f h ∷ without (f h) xs) (once_with hs) ∙ ap (λ (xs : List ℕ). f h ∷ xs) (without_with h (once hs))

  label_before : (o : Option ℕ) (fs : List ℕ) → with_label (option_map f o) (map f fs) ≡ map f (with_label o fs)
  label_before None fs = refl
  label_before (Some g) fs = refl

  labels_with : (xs : List Variable) → labels_of (map (variable_with f) xs) ≡ map f (labels_of xs)
  labels_with [] = refl
  labels_with (x ∷ xs) = ap (λ (fs : List ℕ). with_label (option_map f x.label) fs) (labels_with xs) ∙ label_before x.label (labels_of xs)

  all_labels_with : (moves : List (TransducerRule ℕ)) → all_labels (moves_with f moves) ≡ map f (all_labels moves)
  all_labels_with [] = refl
  all_labels_with (r ∷ rs) =
      ap (λ (xs : List Variable). labels_of xs ++ all_labels (moves_with f rs)) (variables_with f (only r.left))
      ∙ ap (λ (fs : List ℕ). fs ++ all_labels (moves_with f rs)) (labels_with (variables_of r.left))
      ∙ ap (λ (fs : List ℕ). map f (labels_of (variables_of r.left)) ++ fs) (all_labels_with rs)
      ∙ sym (map-append f (labels_of (variables_of r.left)) (all_labels rs))

  pub restricted_with : (moves : List (TransducerRule ℕ)) → restricted_labels (moves_with f moves) ≡ map f (restricted_labels moves)
  restricted_with moves = ap once (all_labels_with moves) ∙ once_with (all_labels moves)

  place_with : (g : ℕ) (hs : List ℕ) → place_of (f g) (map f hs) ≡ place_of g hs
  place_with g [] = refl
  place_with g (h ∷ hs) =
      ap (λ (b : Bool). if b then 0 else suc (place_of (f g) (map f hs))) (same_test h g) ∙ ap (λ (k : ℕ). if nat_eq h g then 0 else suc k) (place_with g hs)

  pub restriction_with : (hs : List ℕ) (o : Option ℕ) → restriction (map f hs) (option_map f o) ≡ restriction hs o
  restriction_with hs None = refl
  restriction_with hs (Some g) = ap suc (place_with g hs)

  admits_map : (hs : List ℕ) (e root : ℕ) → Admits hs e root → Admits (map f hs) e (f root)
  admits_map hs zero root h = tt
  admits_map hs (suc e) root h = (omega (arith, h.0, length-map hs f), get_or-map f hs e 0 0 h.0 ∙ ap f h.1)

  admits_back : (hs : List ℕ) (e root : ℕ) → Admits (map f hs) e (f root) → Admits hs e root
  admits_back hs zero root h = tt
  admits_back hs (suc e) root h =
      let low : e < length hs = omega (arith, h.0, length-map hs f) in (low, apart (get_or hs e 0) root (sym (get_or-map f hs e 0 0 low) ∙ h.1))

  pub admits_to : (moves : List (TransducerRule ℕ)) (e root : ℕ) → Admits (restricted_labels moves) e root → Admits (restricted_labels (moves_with f moves)) e (f root)
  admits_to moves e root h = subst (λ (ls : List ℕ). Admits ls e (f root)) (sym (restricted_with moves)) (admits_map (restricted_labels moves) e root h)

  pub admits_from : (moves : List (TransducerRule ℕ)) (e root : ℕ) → Admits (restricted_labels (moves_with f moves)) e (f root) → Admits (restricted_labels moves) e root
  admits_from moves e root h = admits_back (restricted_labels moves) e root (subst (λ (ls : List ℕ). Admits ls e (f root)) (restricted_with moves) h)

  -- the keys of a side

  variable_label : (left : SideFor ℕ Variable) (i : ℕ) → (variable_at (relabel_tree (left_with f) left) i).label ≡ option_map f (variable_at left i).label
  variable_label left i =
      ap (λ (xs : List Variable). (get_or xs i no_variable).label) (variables_with f (only left)) ∙ ap (λ (x : Variable). x.label) (at_map (variable_with f) (variables_of left) i no_variable)

  forward_key_with : (labels : List ℕ) (left : SideFor ℕ Variable) (ss : List ℕ) (x : Pair ℕ) → forward_key (map f labels) (relabel_tree (left_with f) left) ss x ≡ forward_key labels left ss x
  forward_key_with labels left ss x =
      ap (λ (o : Option ℕ). (get_or ss x.variable 0, x.state, restriction (map f labels) o)) (variable_label left x.variable)
      ∙ ap (λ (e : ℕ). (get_or ss x.variable 0, x.state, e)) (restriction_with labels (variable_at left x.variable).label)

  backward_key_with : (labels : List ℕ) (pairs : List (Pair ℕ)) (ss : List ℕ) (x : Variable) → backward_key (map f labels) pairs ss (variable_with f x) ≡ backward_key labels pairs ss x
  backward_key_with labels pairs ss x = ap (λ (e : ℕ). ((states_at x.number pairs ss).0, (states_at x.number pairs ss).1, e)) (restriction_with labels x.label)

  module _ {P K : Type 0} (r : P → P) (old new : P → K) (same : (x : P) → new (r x) ≡ old x) where
    symbol_keyed : (s : Symbol ℕ P) → symbol_map new (node_with f r s) ≡ key_with f (symbol_map old s)
    symbol_keyed (label g) = refl
    symbol_keyed (hole x) = ap hole (same x)

    trees_keyed : (ts : Trees (Symbol ℕ P)) → relabel (symbol_map new) (relabel (node_with f r) ts) ≡ relabel (key_with f) (relabel (symbol_map old) ts)
    trees_keyed none = refl
    trees_keyed (tree s kids rest) =
        ap (λ (x : Symbol ℕ K). tree x (relabel (symbol_map new) (relabel (node_with f r) kids)) (relabel (symbol_map new) (relabel (node_with f r) rest))) (symbol_keyed s)
        ∙ ap (λ (x : Trees (Symbol ℕ K)). tree (key_with f (symbol_map old s)) x (relabel (symbol_map new) (relabel (node_with f r) rest))) (trees_keyed kids)
        ∙ ap (λ (x : Trees (Symbol ℕ K)). tree (key_with f (symbol_map old s)) (relabel (key_with f) (relabel (symbol_map old) kids)) x) (trees_keyed rest)

    pub side_keyed : (s : SideFor ℕ P) → side_map new (relabel_tree (node_with f r) s) ≡ relabel_tree (key_with f) (side_map old s)
    side_keyed s = tree_same (side_map new (relabel_tree (node_with f r) s)) (relabel_tree (key_with f) (side_map old s)) (trees_keyed (only s))

  -- the right-hand side of an edge of forward application
  pub forward_side :
      (moves : List (TransducerRule ℕ)) (left : SideFor ℕ Variable) (right : SideFor ℕ (Pair ℕ)) (ss : List ℕ) →
      side_map (forward_key (restricted_labels (moves_with f moves)) (relabel_tree (left_with f) left) ss) (relabel_tree (right_with f) right)
      ≡ relabel_tree (key_with f) (side_map (forward_key (restricted_labels moves) left ss) right)
  forward_side moves left right ss =
      ap (λ (ls : List ℕ). side_map (forward_key ls (relabel_tree (left_with f) left) ss) (relabel_tree (right_with f) right)) (restricted_with moves)
      ∙ side_keyed (λ (x : Pair ℕ). x) (forward_key (restricted_labels moves) left ss) (forward_key (map f (restricted_labels moves)) (relabel_tree (left_with f) left) ss)
      (forward_key_with (restricted_labels moves) left ss) right

  -- and of backward application
  pub backward_side :
      (moves : List (TransducerRule ℕ)) (left : SideFor ℕ Variable) (right : SideFor ℕ (Pair ℕ)) (ss : List ℕ) →
      side_map (backward_key (restricted_labels (moves_with f moves)) (holes_of (relabel_tree (right_with f) right)) ss) (relabel_tree (left_with f) left)
      ≡ relabel_tree (key_with f) (side_map (backward_key (restricted_labels moves) (holes_of right) ss) left)
  backward_side moves left right ss =
      ap (λ (ls : List ℕ). side_map (backward_key ls (holes_of (relabel_tree (right_with f) right)) ss) (relabel_tree (left_with f) left)) (restricted_with moves)
      ∙ ap (λ (ps : List (Pair ℕ)). side_map (backward_key (map f (restricted_labels moves)) ps ss) (relabel_tree (left_with f) left)) (pairs_with f right)
      ∙ side_keyed (variable_with f) (backward_key (restricted_labels moves) (holes_of right) ss) (backward_key (map f (restricted_labels moves)) (holes_of right) ss)
      (backward_key_with (restricted_labels moves) (holes_of right) ss) left
