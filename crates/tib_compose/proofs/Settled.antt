-- Rules over places with positions in place of these.
use Rattle.std.specs.Prelude.{◌≡◌, ℕ, List, [], ◌∷◌, ◌++◌, map, refl}
use Rattle.std.proofs.Common.{zero, suc, arith, ap, sym, ◌∙◌, subst}
use Rattle.tib_lex.specs.Lists.{Each}
use Rattle.tib_lex.proofs.Lists.{each_left, each_right}
use Rattle.tib_tree.specs.Trees.{Trees, none, tree, only, preorder_of, relabel, first_of, parse, parse_of}
use Rattle.tib_grammar.specs.Sides.{Symbol, label, hole, Side as SideFor, holes, side_map, symbol_map}
use Rattle.tib_grammar.specs.Items.{pairs_of, holes_in}
use Rattle.tib_grammar.specs.declared.Item.{Item}
use Rattle.tib_grammar.specs.declared.Item.TheVariants.{Label, Hole}
use Rattle.tib_grammar.proofs.Holes.{holes_of_items}
use Rattle.tib_expand.specs.declared.place.Place.{Place}
use Rattle.tib_expand.specs.EdgeLists.{IsWithin, position_of}
use Rattle.tib_expand.specs.Reading.{ReadsAlike, HasPositions}
use Rattle.tib_transducer.specs.declared.Pair.{Pair}
use Rattle.tib_transducer.specs.declared.TransducerRule.{TransducerRule}
use Rattle.tib_transducer.specs.NamedPairs.{named_pair}
use Rattle.tib_key_edges.specs.Named.{named_transducer_rule}
use Rattle.tib_compose.specs.EdgeLaws.{all_states, places_of, rule_of, compose_reading}
use Rattle.tib_compose.specs.NamedItems.{HolesAreWithin}
use Rattle.tib_compose.specs.declared.placed_rule.PlacedRule.{PlacedRule}

-- two trees of one preorder are the same
pub tree_same : {P : Type 0} (s t : SideFor ℕ P) → preorder_of s ≡ preorder_of t → s ≡ t
tree_same s t e =
    ap (first_of (label 0)) (sym (parse_of s)) ∙ ap (λ xs. first_of (label 0) (parse xs)) e ∙ ap (first_of (label 0)) (parse_of t)

each_both : {A : Type 0} (Q : A → Type 0) (xs ys : List A) → Each Q xs → Each Q ys → Each Q (xs ++ ys)
each_both Q [] ys a b = b
each_both Q (x ∷ xs) ys a b = (a.0, each_both Q xs ys a.1 b)

-- what holds of all states holds of those of the holes
pub states_within : {P : Type 0} (Q : P → Type 0) (s : Trees (Symbol ℕ (Pair P))) → Each Q (all_states s) → Each (λ x. Q x.state) (holes s)
states_within Q none h = tt
states_within {P} Q (tree (label f) kids rest) h =
    each_both (λ (x : Pair P). Q x.state) (holes kids) (holes rest) (states_within Q kids (each_left Q (all_states kids) (all_states rest) h)) (states_within Q rest (each_right Q (all_states kids) (all_states rest) h))
states_within Q (tree (hole x) kids rest) h = (h.0, states_within Q rest (each_right Q (all_states kids) (all_states rest) h.1))

-- what holds of the holes among some items, item by item
pub items_within : (known ends : ℕ) (items : List (Item (Pair Place))) → Each (λ x. IsWithin known ends x.state) (holes_in items) → HolesAreWithin known ends items
items_within known ends [] h i low = absurd (omega arith)
items_within known ends (Label f rank ∷ items) h zero low = tt
items_within known ends (Label f rank ∷ items) h (suc i) low = items_within known ends items h i (omega arith)
items_within known ends (Hole x ∷ items) h zero low = h.0
items_within known ends (Hole x ∷ items) h (suc i) low = items_within known ends items h.1 i (omega arith)

-- the places of a right-hand side are within, item by item
pub right_within :
    (known ends : ℕ) (items : List (Item (Pair Place))) (s : SideFor ℕ (Pair Place)) → pairs_of items ≡ preorder_of s → Each (IsWithin known ends) (all_states (only s)) → HolesAreWithin known ends items
right_within known ends items s e h =
    items_within known ends items
    (subst (λ (xs : List (Pair Place)). Each (λ x. IsWithin known ends x.state) xs) (holes_of_items items s e) (states_within (IsWithin known ends) (only s) h))

relabel-twice : {P Q R : Type 0} (f : P → Q) (g : Q → R) (s : Trees (Symbol ℕ (Pair P))) → relabel (symbol_map (named_pair g)) (relabel (symbol_map (named_pair f)) s) ≡ relabel (symbol_map (named_pair (λ x. g (f x)))) s
relabel-twice f g none = refl
relabel-twice f g (tree (label x) kids rest) =
    ap (λ ks. tree (label x) ks (relabel (symbol_map (named_pair g)) (relabel (symbol_map (named_pair f)) rest))) (relabel-twice f g kids)
    ∙ ap (λ rs. tree (label x) (relabel (symbol_map (named_pair (λ z. g (f z)))) kids) rs) (relabel-twice f g rest)
relabel-twice f g (tree (hole x) kids rest) =
    ap (λ ks. tree (hole (named_pair (λ z. g (f z)) x)) ks (relabel (symbol_map (named_pair g)) (relabel (symbol_map (named_pair f)) rest))) (relabel-twice f g kids)
    ∙ ap (λ rs. tree (hole (named_pair (λ z. g (f z)) x)) (relabel (symbol_map (named_pair (λ z. g (f z)))) kids) rs) (relabel-twice f g rest)

side-twice : {P Q R : Type 0} (f : P → Q) (g : Q → R) (s : SideFor ℕ (Pair P)) → side_map (named_pair g) (side_map (named_pair f) s) ≡ side_map (named_pair (λ x. g (f x))) s
side-twice f g s = ap (first_of (label 0)) (relabel-twice f g (only s))

-- the settled rule stands for the same edge
pub settled_alike : (ends : List ℕ) (r : PlacedRule) (settled : TransducerRule ℕ) → settled ≡ named_transducer_rule (position_of ends) (rule_of r) → ReadsAlike compose_reading ends r settled
settled_alike ends r settled e at =
    ap (named_transducer_rule at) e
    ∙ ap (λ s. record { state = at r.position; left = r.left.now; right = s; cost = r.cost }) (side-twice (position_of ends) at r.right)

map-both : {A B : Type 0} (g : A → B) (xs ys : List A) → map g (xs ++ ys) ≡ map g xs ++ map g ys
map-both g [] ys = refl
map-both g (x ∷ xs) ys = ap (λ zs. g x ∷ zs) (map-both g xs ys)

states-named : {P Q : Type 0} (g : P → Q) (s : Trees (Symbol ℕ (Pair P))) → all_states (relabel (symbol_map (named_pair g)) s) ≡ map g (all_states s)
states-named g none = refl
states-named g (tree (label x) kids rest) =
    ap (λ xs. xs ++ all_states (relabel (symbol_map (named_pair g)) rest)) (states-named g kids)
    ∙ ap (λ xs. map g (all_states kids) ++ xs) (states-named g rest)
    ∙ sym (map-both g (all_states kids) (all_states rest))
states-named g (tree (hole x) kids rest) =
    ap (λ xs. g x.state ∷ (xs ++ all_states (relabel (symbol_map (named_pair g)) rest))) (states-named g kids)
    ∙ ap (λ xs. g x.state ∷ (map g (all_states kids) ++ xs)) (states-named g rest)
    ∙ ap (λ xs. g x.state ∷ xs) (sym (map-both g (all_states kids) (all_states rest)))

-- it has the positions of the places
pub settled_positions : (ends : List ℕ) (r : PlacedRule) (settled : TransducerRule ℕ) → settled ≡ named_transducer_rule (position_of ends) (rule_of r) → HasPositions compose_reading ends r settled
settled_positions ends r settled e = ap places_of e ∙ ap (λ xs. r.position ∷ xs) (states-named (position_of ends) (only r.right))
