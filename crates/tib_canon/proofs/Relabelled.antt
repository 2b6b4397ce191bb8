-- Rules with other numbers of labels.
use Rattle.std.proofs.Common.{◌≡◌, ℕ, List, [], ◌∷◌, ◌++◌, map, get_or, refl, ap, sym, ◌∙◌, suc, Option}
use Rattle.std.specs.Prelude.{Some, None, option_map, decimal}
use Rattle.tib_cost.specs.declared.Scale.{Scale}
use Rattle.tib_tree.specs.Trees.{Trees, none, tree, only, count, relabel, relabel_tree}
use Rattle.tib_tree.proofs.Counts.{tree_same}
use Rattle.tib_grammar.specs.Sides.{Symbol, label, hole, Side, holes, holes_of, symbol_map, side_map, HolesAreLeaves}
use Rattle.tib_grammar_file.specs.Printed.{space, opening, closing, cost_text}
use Rattle.tib_grammar_file.proofs.Renumbering.{Renumbers}
use Rattle.tib_grammar_file.proofs.Shapes.{shape_relabelled}
use Rattle.tib_transducer.specs.Range.{EndsInHoles}
use Rattle.tib_transducer.specs.TransducerOf.{TransducerOf}
use Rattle.tib_transducer.specs.declared.Variable.{Variable}
use Rattle.tib_transducer.specs.declared.Pair.{Pair}
use Rattle.tib_transducer.specs.declared.TransducerRule.{TransducerRule}
use Rattle.tib_transducer.specs.NamedPairs.{named_pair}
use Rattle.tib_transducer_file.specs.ByText.{AskForOneText, AreOneVariable, AgreeOnLeft, AgreeOnRight, AreOneTransducerRule}
use Rattle.tib_transducer_file.specs.ByName.{line_text}
use Rattle.tib_transducer_file.specs.Printed.{label_text, asked_text, variable_text, pair_text, symbol_text, trees_text, side_text}
use Rattle.tib_key_edges.specs.Named.{named_transducer_rule}

-- a rule with each label exchanged for another

abbrev pub variable_with : (ℕ → ℕ) → Variable → Variable
variable_with f x = record { number = x.number; label = option_map f x.label }

abbrev pub node_with : {P : Type 0} → (ℕ → ℕ) → (P → P) → Symbol ℕ P → Symbol ℕ P
node_with f r (label g) = label (f g)
node_with f r (hole x) = hole (r x)

abbrev pub left_with : (ℕ → ℕ) → Symbol ℕ Variable → Symbol ℕ Variable
left_with f s = node_with f (variable_with f) s

abbrev pub right_with : {P : Type 0} → (ℕ → ℕ) → Symbol ℕ (Pair P) → Symbol ℕ (Pair P)
right_with f s = node_with f (λ x. x) s

abbrev pub move_with : {P : Type 0} → (ℕ → ℕ) → TransducerRule P → TransducerRule P
move_with f r = record { state = r.state; left = relabel_tree (left_with f) r.left; right = relabel_tree (right_with f) r.right; cost = r.cost }

abbrev pub moves_with : {P : Type 0} → (ℕ → ℕ) → List (TransducerRule P) → List (TransducerRule P)
moves_with f rules = map (move_with f) rules

abbrev pub transducer_with : (ℕ → ℕ) → TransducerOf → TransducerOf
transducer_with f t = record { names = t.names; rules = moves_with f t.rules }

-- other states and other labels, in either order
module _ {P Q : Type 0} (p : P → Q) (f : ℕ → ℕ) where
  trees_commute : (ts : Trees (Symbol ℕ (Pair P))) → relabel (symbol_map (named_pair p)) (relabel (right_with f) ts) ≡ relabel (right_with f) (relabel (symbol_map (named_pair p)) ts)
  trees_commute none = refl
  trees_commute (tree (label g) kids rest) =
      ap (λ x. tree (label (f g)) x (relabel (symbol_map (named_pair p)) (relabel (right_with f) rest))) (trees_commute kids)
      ∙ ap (λ x. tree (label (f g)) (relabel (right_with f) (relabel (symbol_map (named_pair p)) kids)) x) (trees_commute rest)
  trees_commute (tree (hole q) kids rest) =
      ap (λ x. tree (hole (named_pair p q)) x (relabel (symbol_map (named_pair p)) (relabel (right_with f) rest))) (trees_commute kids)
      ∙ ap (λ x. tree (hole (named_pair p q)) (relabel (right_with f) (relabel (symbol_map (named_pair p)) kids)) x) (trees_commute rest)

  symbol_commutes : (s : Symbol ℕ (Pair P)) → symbol_map (named_pair p) (right_with f s) ≡ right_with f (symbol_map (named_pair p) s)
  symbol_commutes (label g) = refl
  symbol_commutes (hole q) = refl

  side_commutes : (s : Side ℕ (Pair P)) → side_map (named_pair p) (relabel_tree (right_with f) s) ≡ relabel_tree (right_with f) (side_map (named_pair p) s)
  side_commutes s =
      ap (λ x. record { label = x; kids = relabel (symbol_map (named_pair p)) (relabel (right_with f) s.kids) }) (symbol_commutes s.label)
      ∙ ap (λ x. record { label = right_with f (symbol_map (named_pair p) s.label); kids = x }) (trees_commute s.kids)

  pub move_commutes : (r : TransducerRule P) → named_transducer_rule p (move_with f r) ≡ move_with f (named_transducer_rule p r)
  move_commutes r = ap (λ x. record { state = p r.state; left = relabel_tree (left_with f) r.left; right = x; cost = r.cost }) (side_commutes r.right)

  pub moves_commute : (rules : List (TransducerRule P)) → map (named_transducer_rule p) (moves_with f rules) ≡ moves_with f (map (named_transducer_rule p) rules)
  moves_commute [] = refl
  moves_commute (r ∷ rules) = ap (λ x. x ∷ map (named_transducer_rule p) (moves_with f rules)) (move_commutes r) ∙ ap (λ xs. move_with f (named_transducer_rule p r) ∷ xs) (moves_commute rules)

-- the pairs of a right-hand side stay
holes_kept : {P : Type 0} (f : ℕ → ℕ) (ts : Trees (Symbol ℕ (Pair P))) → holes (relabel (right_with f) ts) ≡ holes ts
holes_kept f none = refl
holes_kept {P} f (tree (label g) kids rest) =
    ap (λ (xs : List (Pair P)). xs ++ holes (relabel (right_with f) rest)) (holes_kept f kids) ∙ ap (λ (xs : List (Pair P)). holes kids ++ xs) (holes_kept f rest)
holes_kept {P} f (tree (hole x) kids rest) = ap (λ (xs : List (Pair P)). x ∷ xs) (holes_kept f rest)

pub pairs_kept : {P : Type 0} (f : ℕ → ℕ) (s : Side ℕ (Pair P)) → holes_of (relabel_tree (right_with f) s) ≡ holes_of s
pairs_kept f s = holes_kept f (only s)

-- nothing is below a leaf
trees_end : {P : Type 0} (f : ℕ → ℕ) (r : P → P) (ts : Trees (Symbol ℕ P)) → HolesAreLeaves ts → HolesAreLeaves (relabel (node_with f r) ts)
trees_end f r none h = tt
trees_end f r (tree (label g) kids rest) h = (trees_end f r kids h.0, trees_end f r rest h.1)
trees_end f r (tree (hole x) none rest) h = trees_end f r rest h
trees_end f r (tree (hole x) (tree s kids more) rest) h = absurd h

pub ends_with : {P : Type 0} (f : ℕ → ℕ) (r : TransducerRule P) → EndsInHoles r → EndsInHoles (move_with f r)
ends_with f r h = (trees_end f (variable_with f) (only r.left) h.0, trees_end f (λ x. x) (only r.right) h.1)

-- rules that agree by the texts of their labels are one with the numbers of the other table

module _ (labels others : List (List ℕ)) (f : ℕ → ℕ) (n : Renumbers labels others f) where
  pub asked_given : (a b : Option ℕ) → AskForOneText labels others a b → option_map f a ≡ b
  asked_given None None h = refl
  asked_given None (Some g) h = absurd h
  asked_given (Some g) None h = absurd h
  asked_given (Some g) (Some k) h = ap (λ (m : ℕ). Some m) (n.gives g k h)

  pub variable_given : (x y : Variable) → AreOneVariable labels others x y → variable_with f x ≡ y
  variable_given x y h =
      ap (λ (m : ℕ). record { number = m; label = option_map f x.label }) h.0
      ∙ ap (λ (a : Option ℕ). record { number = y.number; label = a }) (asked_given x.label y.label h.1)

  pub left_given : (s t : Symbol ℕ Variable) → AgreeOnLeft labels others s t → left_with f s ≡ t
  left_given (label g) (label k) h = ap label (n.gives g k h)
  left_given (label g) (hole y) h = absurd h
  left_given (hole x) (label k) h = absurd h
  left_given (hole x) (hole y) h = ap hole (variable_given x y h)

  pub right_given : (s t : Symbol ℕ (Pair ℕ)) → AgreeOnRight labels others s t → right_with f s ≡ t
  right_given (label g) (label k) h = ap label (n.gives g k h)
  right_given (label g) (hole y) h = absurd h
  right_given (hole x) (label k) h = absurd h
  right_given (hole x) (hole y) h =
      let same : x ≡ y = ap (λ (q : ℕ). record { state = q; variable = x.variable }) h.0 ∙ ap (λ (m : ℕ). record { state = y.state; variable = m }) h.1 in
      ap hole same

  pub move_given : (r s : TransducerRule ℕ) → AreOneTransducerRule labels others r s → move_with f r ≡ s
  move_given r s h =
      let left : relabel_tree (left_with f) r.left ≡ s.left =
      tree_same (relabel_tree (left_with f) r.left) s.left (shape_relabelled (AgreeOnLeft labels others) (left_with f) left_given (only r.left) (only s.left) h.left)
      in
      let right : relabel_tree (right_with f) r.right ≡ s.right =
      tree_same (relabel_tree (right_with f) r.right) s.right (shape_relabelled (AgreeOnRight labels others) (right_with f) right_given (only r.right) (only s.right) h.right)
      in
      ap (λ (q : ℕ). record { state = q; left = relabel_tree (left_with f) r.left; right = relabel_tree (right_with f) r.right; cost = r.cost }) h.state
      ∙ ap (λ (l : Side ℕ Variable). record { state = s.state; left = l; right = relabel_tree (right_with f) r.right; cost = r.cost }) left
      ∙ ap (λ (l : Side ℕ (Pair ℕ)). record { state = s.state; left = s.left; right = l; cost = r.cost }) right
      ∙ ap (λ (c : ℕ). record { state = s.state; left = s.left; right = s.right; cost = c }) h.cost

  -- the other table has the texts of the labels

  abbrev pub KeepsText : ℕ → Type 0
  KeepsText i = get_or labels i [] ≡ get_or others (f i) []

  abbrev pub KeepsAsked : Option ℕ → Type 0
  KeepsAsked None = Unit {0}
  KeepsAsked (Some g) = KeepsText g

  abbrev pub KeepOnLeft : Trees (Symbol ℕ Variable) → Type 0
  KeepOnLeft none = Unit {0}
  KeepOnLeft (tree (label g) kids rest) = KeepsText g × KeepOnLeft kids × KeepOnLeft rest
  KeepOnLeft (tree (hole x) kids rest) = KeepsAsked x.label × KeepOnLeft kids × KeepOnLeft rest

  abbrev pub KeepOnRight : Trees (Symbol ℕ (Pair ℕ)) → Type 0
  KeepOnRight none = Unit {0}
  KeepOnRight (tree (label g) kids rest) = KeepsText g × KeepOnRight kids × KeepOnRight rest
  KeepOnRight (tree (hole x) kids rest) = KeepOnRight kids × KeepOnRight rest

  pub record KeepsTexts (r : TransducerRule ℕ) : Type 0 where
    pub left : KeepOnLeft (only r.left)
    pub right : KeepOnRight (only r.right)

  count_with : {A B : Type 0} (g : A → B) (ts : Trees A) → count (relabel g ts) ≡ count ts
  count_with g none = refl
  count_with g (tree s kids rest) = ap suc (count_with g rest)

  asked_kept : (asked : Option ℕ) → KeepsAsked asked → asked_text labels asked ≡ asked_text others (option_map f asked)
  asked_kept None h = refl
  asked_kept (Some g) h = ap label_text h

  variable_kept : (names : List (List ℕ)) (x : Variable) → KeepsAsked x.label → variable_text names labels x ≡ variable_text names others (variable_with f x)
  variable_kept names x h = ap (λ (t : List ℕ). 120 ∷ [] ++ (decimal x.number ++ (58 ∷ [] ++ t))) (asked_kept x.label h)

  node_kept :
      (k : ℕ) (a b x y z w : List ℕ) (m n : ℕ) → a ≡ b → m ≡ n → x ≡ y → z ≡ w → space k ++ (a ++ (opening m ++ (x ++ (closing m ++ z)))) ≡ space k ++ (b ++ (opening n ++ (y ++ (closing n ++ w))))
  node_kept k a b x y z w m n e c g h = cc (e, c, g, h)

  left_kept : (names : List (List ℕ)) (ts : Trees (Symbol ℕ Variable)) (k : ℕ) → KeepOnLeft ts → trees_text (symbol_text (variable_text names labels) labels) ts k ≡ trees_text (symbol_text (variable_text names others) others) (relabel (left_with f) ts) k
  left_kept names none k h = refl
  left_kept names (tree (label g) kids rest) k h =
      node_kept k (label_text (get_or labels g [])) (label_text (get_or others (f g) [])) (trees_text (symbol_text (variable_text names labels) labels) kids 0) (trees_text (symbol_text (variable_text names others) others) (relabel (left_with f) kids) 0)
      (trees_text (symbol_text (variable_text names labels) labels) rest (suc k)) (trees_text (symbol_text (variable_text names others) others) (relabel (left_with f) rest) (suc k)) (count kids) (count (relabel (left_with f) kids))
      (ap label_text h.0) (sym (count_with (left_with f) kids)) (left_kept names kids 0 h.1) (left_kept names rest (suc k) h.2)
  left_kept names (tree (hole x) kids rest) k h =
      node_kept k (variable_text names labels x) (variable_text names others (variable_with f x)) (trees_text (symbol_text (variable_text names labels) labels) kids 0) (trees_text (symbol_text (variable_text names others) others) (relabel (left_with f) kids) 0)
      (trees_text (symbol_text (variable_text names labels) labels) rest (suc k)) (trees_text (symbol_text (variable_text names others) others) (relabel (left_with f) rest) (suc k)) (count kids) (count (relabel (left_with f) kids))
      (variable_kept names x h.0) (sym (count_with (left_with f) kids)) (left_kept names kids 0 h.1) (left_kept names rest (suc k) h.2)

  right_kept : (names : List (List ℕ)) (ts : Trees (Symbol ℕ (Pair ℕ))) (k : ℕ) → KeepOnRight ts → trees_text (symbol_text (pair_text names labels) labels) ts k ≡ trees_text (symbol_text (pair_text names others) others) (relabel (right_with f) ts) k
  right_kept names none k h = refl
  right_kept names (tree (label g) kids rest) k h =
      node_kept k (label_text (get_or labels g [])) (label_text (get_or others (f g) [])) (trees_text (symbol_text (pair_text names labels) labels) kids 0) (trees_text (symbol_text (pair_text names others) others) (relabel (right_with f) kids) 0)
      (trees_text (symbol_text (pair_text names labels) labels) rest (suc k)) (trees_text (symbol_text (pair_text names others) others) (relabel (right_with f) rest) (suc k)) (count kids) (count (relabel (right_with f) kids))
      (ap label_text h.0) (sym (count_with (right_with f) kids)) (right_kept names kids 0 h.1) (right_kept names rest (suc k) h.2)
  right_kept names (tree (hole x) kids rest) k h =
      node_kept k (pair_text names labels x) (pair_text names others x) (trees_text (symbol_text (pair_text names labels) labels) kids 0) (trees_text (symbol_text (pair_text names others) others) (relabel (right_with f) kids) 0)
      (trees_text (symbol_text (pair_text names labels) labels) rest (suc k)) (trees_text (symbol_text (pair_text names others) others) (relabel (right_with f) rest) (suc k)) (count kids) (count (relabel (right_with f) kids))
      refl (sym (count_with (right_with f) kids)) (right_kept names kids 0 h.0) (right_kept names rest (suc k) h.1)

  pub line_kept : (scale : Scale) (names : List (List ℕ)) (r : TransducerRule ℕ) → KeepsTexts r → line_text scale names labels r ≡ line_text scale names others (move_with f r)
  line_kept scale names r k =
      ap (λ (x : List ℕ). get_or names r.state [] ++ (46 ∷ (x ++ (32 ∷ (45 ∷ (62 ∷ (32 ∷ (side_text (pair_text names labels) labels r.right ++ cost_text scale r.cost)))))))) (left_kept names (only r.left) 0 k.left)
      ∙ ap (λ (x : List ℕ). get_or names r.state [] ++ (46 ∷ (side_text (variable_text names others) others (relabel_tree (left_with f) r.left) ++ (32 ∷ (45 ∷ (62 ∷ (32 ∷ (x ++ cost_text scale r.cost)))))))) (right_kept names (only r.right) 0 k.right)
