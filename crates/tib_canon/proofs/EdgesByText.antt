-- Edges over keys with other numbers of labels.
use Rattle.std.proofs.Common.{◌≡◌, ℕ, ◌<◌, List, [], ◌∷◌, ◌++◌, length, map, refl, ap, sym, ◌∙◌}
use Rattle.tib_tree.specs.Trees.{Trees, none, tree, only, relabel, relabel_tree}
use Rattle.tib_grammar.specs.Sides.{Symbol, label, hole, Side, holes, leaves, over, symbol_map, side_map, HolesAreLeaves}
use Rattle.tib_grammar.specs.GrammarOf.{named_rule}
use Rattle.tib_grammar.specs.Range.{SidesEndInHoles}
use Rattle.tib_grammar.specs.Run.{rule_at}
use Rattle.tib_grammar.specs.declared.Rule.{Rule}
use Rattle.tib_grammar_file.proofs.Relabelled.{symbol_with, trees_with, side_with, rule_with, rules_with, at_with}
use Rattle.std.proofs.lemmas.List.{length-map}
use Rattle.std.proofs.Common.{arith, subst}

-- an edge with each label exchanged for another
abbrev pub key_with : {K : Type 0} → (ℕ → ℕ) → Symbol ℕ K → Symbol ℕ K
key_with f (label g) = label (f g)
key_with f (hole k) = hole k

abbrev pub edge_with : {K : Type 0} → (ℕ → ℕ) → Rule K → Rule K
edge_with f e = record { left = e.left; right = relabel_tree (key_with f) e.right; cost = e.cost }

module _ {K : Type 0} (f : ℕ → ℕ) where
  pub holes_kept : (ts : Trees (Symbol ℕ K)) → holes (relabel (key_with f) ts) ≡ holes ts
  holes_kept none = refl
  holes_kept (tree (label g) kids rest) =
      ap (λ (ks : List K). ks ++ holes (relabel (key_with f) rest)) (holes_kept kids) ∙ ap (λ (ks : List K). holes kids ++ ks) (holes_kept rest)
  holes_kept (tree (hole k) kids rest) = ap (λ (ks : List K). k ∷ ks) (holes_kept rest)

  leaves_kept : (ks : List K) → relabel (key_with f) (leaves ks) ≡ leaves ks
  leaves_kept [] = refl
  leaves_kept (k ∷ ks) = ap (λ (x : Trees (Symbol ℕ K)). tree (hole k) none x) (leaves_kept ks)

  pub over_kept : (g : ℕ) (ks : List K) → relabel_tree (key_with f) (over g ks) ≡ over (f g) ks
  over_kept g ks = ap (λ (x : Trees (Symbol ℕ K)). record { label = label (f g); kids = x }) (leaves_kept ks)

-- keys in place of positions, and other numbers in place of labels, in either order
module _ {K : Type 0} (p : ℕ → K) (f : ℕ → ℕ) where
  trees_commute : (ts : Trees (Symbol ℕ ℕ)) → relabel (symbol_map p) (trees_with f ts) ≡ relabel (key_with f) (relabel (symbol_map p) ts)
  trees_commute none = refl
  trees_commute (tree (label g) kids rest) =
      ap (λ (x : Trees (Symbol ℕ K)). tree (label (f g)) x (relabel (symbol_map p) (trees_with f rest))) (trees_commute kids)
      ∙ ap (λ (x : Trees (Symbol ℕ K)). tree (label (f g)) (relabel (key_with f) (relabel (symbol_map p) kids)) x) (trees_commute rest)
  trees_commute (tree (hole q) kids rest) =
      ap (λ (x : Trees (Symbol ℕ K)). tree (hole (p q)) x (relabel (symbol_map p) (trees_with f rest))) (trees_commute kids)
      ∙ ap (λ (x : Trees (Symbol ℕ K)). tree (hole (p q)) (relabel (key_with f) (relabel (symbol_map p) kids)) x) (trees_commute rest)

  symbol_commutes : (s : Symbol ℕ ℕ) → symbol_map p (symbol_with f s) ≡ key_with f (symbol_map p s)
  symbol_commutes (label g) = refl
  symbol_commutes (hole q) = refl

  side_commutes : (s : Side ℕ ℕ) → side_map p (side_with f s) ≡ relabel_tree (key_with f) (side_map p s)
  side_commutes s =
      ap (λ (x : Symbol ℕ K). record { label = x; kids = relabel (symbol_map p) (trees_with f s.kids) }) (symbol_commutes s.label)
      ∙ ap (λ (x : Trees (Symbol ℕ K)). record { label = key_with f (symbol_map p s.label); kids = x }) (trees_commute s.kids)

  pub edges_commute : (rules : List (Rule ℕ)) → map (edge_with f) (map (named_rule p) rules) ≡ map (named_rule p) (rules_with f rules)
  edges_commute [] = refl
  edges_commute (r ∷ rules) =
      ap (λ (x : Side ℕ K). record { left = p r.left; right = x; cost = r.cost } ∷ map (edge_with f) (map (named_rule p) rules)) (sym (side_commutes r.right))
      ∙ ap (λ (xs : List (Rule K)). named_rule p (rule_with f r) ∷ xs) (edges_commute rules)

-- nothing is below a state with the other numbers either
ends_with : (f : ℕ → ℕ) (ts : Trees (Symbol ℕ ℕ)) → HolesAreLeaves ts → HolesAreLeaves (trees_with f ts)
ends_with f none h = tt
ends_with f (tree (label g) kids rest) h = (ends_with f kids h.0, ends_with f rest h.1)
ends_with f (tree (hole q) none rest) h = ends_with f rest h
ends_with f (tree (hole q) (tree s kids more) rest) h = absurd h

pub leaves_with : (f : ℕ → ℕ) (rules : List (Rule ℕ)) → SidesEndInHoles rules → SidesEndInHoles (rules_with f rules)
leaves_with f rules h m k =
    let low : m < length rules = omega (arith, k, length-map rules (rule_with f)) in
    subst (λ (r : Rule ℕ). HolesAreLeaves (only r.right)) (sym (at_with f rules m low)) (ends_with f (only (rule_at rules m).right) (h m low))
