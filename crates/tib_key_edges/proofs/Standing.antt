-- The composite transducer's rules have their shape, and their states are in range.
use Rattle.std.specs.Prelude.{ℕ, ◌<◌, List, [], ◌∷◌, length, map, Option, None, Some}
use Rattle.std.proofs.Common.{zero, suc, ap, sym, ◌∙◌, subst, inl, inr}
use Rattle.tib_lex.specs.Lists.{Has, Each}
use Rattle.tib_lex.proofs.Lists.{each_append, each_left, each_right}
use Rattle.tib_tree.specs.Trees.{Trees, none, tree, join, only, first_trees, other_trees}
use Rattle.tib_grammar.specs.Sides.{Symbol, label, hole, holes, holes_of}
use Rattle.tib_grammar.proofs.Sides.{holes-relabel}
use Rattle.tib_grammar.specs.Range.{AllBelow}
use Rattle.tib_key_edges.specs.Ends.{key_at}
use Rattle.tib_transducer.specs.Rules.{transducer_rule, states_in, variables_in}
use Rattle.tib_transducer.specs.Run.{tree_at, pick}
use Rattle.tib_transducer.specs.Range.{AreNumbered, AreShaped, AreWithin}
use Rattle.tib_key_edges.specs.Translations.{plug, AreTranslations, translated}
use Rattle.tib_key_edges.specs.Composing.{IsComposeEdge, IsComposite}
use Rattle.tib_key_edges.specs.Composition.{ends_of}
use Rattle.tib_transducer.specs.declared.Pair.{Pair}
use Rattle.tib_transducer.specs.declared.TransducerRule.{TransducerRule}
use Rattle.tib_transducer.specs.NamedPairs.{named_pair}
use Rattle.tib_key_edges.proofs.Exact.{exact}

module _ {A : Type 0} (Q : A → Type 0) where
  -- what holds for the holes of sides

  holes_join : (s t : Trees (Symbol ℕ A)) → Each Q (holes s) → Each Q (holes t) → Each Q (holes (join s t))
  holes_join none t a b = b
  holes_join (tree (label f) kids rest) t a b = each_append Q (holes kids) (holes (join rest t)) (each_left Q (holes kids) (holes rest) a) (holes_join rest t (each_right Q (holes kids) (holes rest) a) b)
  holes_join (tree (hole x) kids rest) t a b = (a.0, holes_join rest t a.1 b)

  holes_at : (s : Trees (Symbol ℕ A)) (i : ℕ) → Each Q (holes s) → Each Q (holes (tree_at s i))
  holes_at none i a = tt
  holes_at (tree (label f) kids rest) zero a = each_append Q (holes kids) [] (each_left Q (holes kids) (holes rest) a) tt
  holes_at (tree (hole x) kids rest) zero a = (a.0, tt)
  holes_at (tree (label f) kids rest) (suc i) a = holes_at rest i (each_right Q (holes kids) (holes rest) a)
  holes_at (tree (hole x) kids rest) (suc i) a = holes_at rest i a.1

  holes_pick : (s : Trees (Symbol ℕ A)) (is : List ℕ) → Each Q (holes s) → Each Q (holes (pick s is))
  holes_pick s [] a = tt
  holes_pick s (i ∷ is) a = holes_join (tree_at s i) (pick s is) (holes_at s i a) (holes_pick s is a)

  holes_first : (n : ℕ) (s : Trees (Symbol ℕ A)) → Each Q (holes s) → Each Q (holes (first_trees n s))
  holes_first zero s a = tt
  holes_first (suc n) none a = tt
  holes_first (suc n) (tree (label f) kids rest) a = each_append Q (holes kids) (holes (first_trees n rest)) (each_left Q (holes kids) (holes rest) a) (holes_first n rest (each_right Q (holes kids) (holes rest) a))
  holes_first (suc n) (tree (hole x) kids rest) a = (a.0, holes_first n rest a.1)

  holes_other : (n : ℕ) (s : Trees (Symbol ℕ A)) → Each Q (holes s) → Each Q (holes (other_trees n s))
  holes_other zero s a = a
  holes_other (suc n) none a = tt
  holes_other (suc n) (tree (label f) kids rest) a = holes_other n rest (each_right Q (holes kids) (holes rest) a)
  holes_other (suc n) (tree (hole x) kids rest) a = holes_other n rest a.1

  holes_plug : {P : Type 0} (s : Trees (Symbol ℕ P)) (us : Trees (Symbol ℕ A)) → Each Q (holes us) → Each Q (holes (plug s us))
  holes_plug none us a = tt
  holes_plug (tree (label f) kids rest) us a =
      each_append Q (holes (plug kids (first_trees (length (holes kids)) us))) (holes (plug rest (other_trees (length (holes kids)) us)))
      (holes_plug kids (first_trees (length (holes kids)) us) (holes_first (length (holes kids)) us a))
      (holes_plug rest (other_trees (length (holes kids)) us) (holes_other (length (holes kids)) us a))
  holes_plug (tree (hole p) kids rest) none a = tt
  holes_plug (tree (hole p) kids rest) (tree (label f) below us) a = each_append Q (holes below) (holes (plug rest us)) (each_left Q (holes below) (holes us) a) (holes_plug rest us (each_right Q (holes below) (holes us) a))
  holes_plug (tree (hole p) kids rest) (tree (hole x) below us) a = (a.0, holes_plug rest us a.1)

-- what holds for the variables of sides holds for those of their translations
pub variables_translated :
    {P : Type 0} (Q : ℕ → Type 0) (two : List (TransducerRule ℕ)) (choice : Trees (Option ℕ)) (ps : List ℕ) (sides : Trees (Symbol ℕ (Pair P))) →
    Each (λ x. Q x.variable) (holes sides) → Each (λ x. Q x.variable) (holes (translated two ps sides choice))
variables_translated Q two none ps sides a = tt
variables_translated Q two (tree c below more) [] sides a = tt
variables_translated Q two (tree c below more) (p ∷ ps) none a = tt
variables_translated Q two (tree None below more) (p ∷ ps) (tree (label f) kids rest) a = tt
variables_translated Q two (tree c below more) (p ∷ ps) (tree (hole x) kids rest) a = (a.0, variables_translated Q two more ps rest a.1)
variables_translated {P} Q two (tree (Some n) below more) (p ∷ ps) (tree (label f) kids rest) a =
    holes_join (λ x. Q x.variable)
    (plug (only (transducer_rule two n).right) (translated two (states_in (transducer_rule two n).right) (pick kids (variables_in (transducer_rule two n).right)) below))
    (translated two ps rest more)
    (holes_plug (λ x. Q x.variable) (only (transducer_rule two n).right)
    (translated two (states_in (transducer_rule two n).right) (pick kids (variables_in (transducer_rule two n).right)) below)
    (variables_translated Q two below (states_in (transducer_rule two n).right) (pick kids (variables_in (transducer_rule two n).right))
    (holes_pick (λ (x : Pair P). Q x.variable) kids (variables_in (transducer_rule two n).right) (each_left (λ (x : Pair P). Q x.variable) (holes kids) (holes rest) a))))
    (variables_translated Q two more ps rest (each_right (λ (x : Pair P). Q x.variable) (holes kids) (holes rest) a))

-- what holds for each variable of pairs holds for each pair by its variable
pub variables_each : {P : Type 0} (Q : ℕ → Type 0) (xs : List (Pair P)) → Each Q (map (λ x. x.variable) xs) → Each (λ x. Q x.variable) xs
variables_each Q [] a = tt
variables_each Q (x ∷ xs) a = (a.0, variables_each Q xs a.1)

-- and of the variables of named pairs
pub each_named : {P R : Type 0} (Q : ℕ → Type 0) (g : P → R) (xs : List (Pair P)) → Each (λ x. Q x.variable) (map (named_pair g) xs) → Each Q (map (λ x. x.variable) xs)
each_named Q g [] a = tt
each_named Q g (x ∷ xs) a = (a.0, each_named Q g xs a.1)

-- the rules of the composite transducer have their shape
pub composite_is_shaped : (product : ℕ → ℕ → ℕ) (one two : List (TransducerRule ℕ)) (order : List (ℕ × ℕ)) (rules : List (TransducerRule ℕ)) → AreShaped one → IsComposite product one two order rules → AreShaped rules
composite_is_shaped product one two order rules shaped found j h =
    let s = (exact product one two order rules found).sound j h in
    let e = s.1 in
    let w = shaped s.0.0 e.below in
    let bound : ℕ = length (holes_of (transducer_rule one s.0.0).left) in
    let of_one = variables_each (λ i. i < bound) (holes_of (transducer_rule one s.0.0).right) w.known in
    let over = variables_translated (λ i. i < bound) two s.0.1 ((key_at order (transducer_rule rules j).state).1 ∷ []) (only (transducer_rule one s.0.0).right) of_one in
    let named = subst (λ z. Each (λ x. x.variable < bound) (holes z)) (sym e.right) over in
    let mapped = subst (λ xs. Each (λ x. x.variable < bound) xs) (holes-relabel (named_pair (key_at order)) (only (transducer_rule rules j).right)) named in
    let each = each_named (λ i. i < bound) (key_at order) (holes_of (transducer_rule rules j).right) mapped in
    record {
      begins = record { root = w.begins.root; is_root = ap (λ l. l.label) e.left ∙ w.begins.is_root };
      numbered = subst (λ l. AreNumbered 0 (holes_of l)) (sym e.left) w.numbered;
      known = subst (λ l. Each (λ i. i < length (holes_of l)) (variables_in (transducer_rule rules j).right)) (sym e.left) each;
    }

-- states

below_each : (n : ℕ) (xs : List (Pair ℕ)) → AllBelow n (map (λ x. x.state) xs) → Each (λ x. x.state < n) xs
below_each n [] h = tt
below_each n (x ∷ xs) h = (h.0, below_each n xs h.1)

-- the states of translations are those of the sides, paired with states of the second transducer
states_translated :
    (m n : ℕ) (two : List (TransducerRule ℕ)) → AreWithin n two → (choice : Trees (Option ℕ)) (ps : List ℕ) (sides : Trees (Symbol ℕ (Pair ℕ))) → AreTranslations two ps sides choice → AllBelow n ps →
    Each (λ x. x.state < m) (holes sides) → Each (λ x. (x.state.0 < m) × (x.state.1 < n)) (holes (translated two ps sides choice))
states_translated m n two range none ps sides t b a = tt
states_translated m n two range (tree c below more) [] none t b a = absurd t
states_translated m n two range (tree c below more) [] (tree s kids rest) t b a = absurd t
states_translated m n two range (tree c below more) (p ∷ ps) none t b a = absurd t
states_translated m n two range (tree None below more) (p ∷ ps) (tree (label f) kids rest) t b a = absurd t
states_translated m n two range (tree (Some r) below more) (p ∷ ps) (tree (hole x) kids rest) t b a = absurd t
states_translated m n two range (tree None (tree d e k) more) (p ∷ ps) (tree (hole x) kids rest) t b a = absurd t
states_translated m n two range (tree None none more) (p ∷ ps) (tree (hole x) kids rest) t b a = ((a.0, b.0), states_translated m n two range more ps rest t b.1 a.1)
states_translated m n two range (tree (Some r) below more) (p ∷ ps) (tree (label f) kids rest) t b a =
    holes_join (λ x. (x.state.0 < m) × (x.state.1 < n))
    (plug (only (transducer_rule two r).right) (translated two (states_in (transducer_rule two r).right) (pick kids (variables_in (transducer_rule two r).right)) below))
    (translated two ps rest more)
    (holes_plug (λ x. (x.state.0 < m) × (x.state.1 < n)) (only (transducer_rule two r).right)
    (translated two (states_in (transducer_rule two r).right) (pick kids (variables_in (transducer_rule two r).right)) below)
    (states_translated m n two range below (states_in (transducer_rule two r).right) (pick kids (variables_in (transducer_rule two r).right)) t.3 (range r t.0).1
    (holes_pick (λ (x : Pair ℕ). x.state < m) kids (variables_in (transducer_rule two r).right) (each_left (λ (x : Pair ℕ). x.state < m) (holes kids) (holes rest) a))))
    (states_translated m n two range more ps rest t.4 b.1 (each_right (λ (x : Pair ℕ). x.state < m) (holes kids) (holes rest) a))

ends_each : {K : Type 0} (Q : K → Type 0) (xs : List (Pair K)) (k : K) → Each (λ x. Q x.state) xs → Has (map (λ x. x.state) xs) k → Q k
ends_each Q [] k a h = absurd h
ends_each Q (x ∷ xs) k a h = elim h [ inl e ↦ subst Q e a.0 | inr m ↦ ends_each Q xs k a.1 m ]

-- the ends of an edge are within the states
pub ends_are_in_range :
    (product : ℕ → ℕ → ℕ) (one two : List (TransducerRule ℕ)) (m n : ℕ) → AreWithin m one → AreWithin n two → (key : ℕ × ℕ) (o : ℕ × Trees (Option ℕ)) (e : TransducerRule (ℕ × ℕ)) (k : ℕ × ℕ) → key.1 < n →
    IsComposeEdge product one two key o e → Has (ends_of e) k → (k.0 < m) × (k.1 < n)
ends_are_in_range product one two m n range_one range_two key o e k low edge has =
    let of_one = below_each m (holes_of (transducer_rule one o.0).right) (range_one o.0 edge.below).1 in
    let over = states_translated m n two range_two o.1 (key.1 ∷ []) (only (transducer_rule one o.0).right) edge.choice (low, tt) of_one in
    ends_each (λ (z : ℕ × ℕ). (z.0 < m) × (z.1 < n)) (holes_of e.right) k (subst (λ z. Each (λ x. (x.state.0 < m) × (x.state.1 < n)) (holes z)) (sym edge.right) over) has
