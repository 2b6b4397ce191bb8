-- The edges between states with sets of states can be printed.
use Rattle.tib_cost.specs.declared.Scale.{Scale}
use Rattle.tib_cost.specs.declared.Scale.TheVariants as scales
use Rattle.std.proofs.Common.{true, false, ◌≡◌, ℕ, ◌+◌, ◌<◌, ◌≤◌, zero, suc, List, [], ◌∷◌, length, ap, sym, ◌∙◌, subst, arith, inl, inr, refl, is_eq}
use Rattle.std.specs.Prelude.{nat_eq, if◌then◌else◌}
use Rattle.std.specs.declared.cmp.Ordering.TheVariants.{Equal}
use Rattle.tib_lex.specs.Lists.{Has, Each}
use Rattle.tib_lex.proofs.Lists.{has_mapped, each_weaker}
use Rattle.tib_lex.proofs.Members.{has_at, each_has, has_left}
use Rattle.tib_tree.specs.Trees.{none, tree, only, relabel}
use Rattle.tib_grammar.specs.GrammarOf.{GrammarOf}
use Rattle.tib_grammar.specs.Run.{rule_at}
use Rattle.tib_grammar.specs.Sides.{Symbol, Side as SideFor, HolesAreLeaves, holes_of, leaves, symbol_map}
use Rattle.tib_grammar.specs.declared.Rule.{Rule}
use Rattle.tib_grammar.proofs.Sides.{holes_of-over}
use Rattle.tib_grammar_file.specs.Printable.{IsPlainCost, HavePlainLabels, ArePrintable}
use Rattle.tib_expand.specs.Reached.{AfterRounds, IsReachedSet}
use Rattle.tib_canon.proofs.ConstructionExists.{IsEdgeOver as IsPlainEdge, IsPlainFresh}
use Rattle.tib_canon.proofs.ReachedOnce.{edge_given, ends_stand}
use Rattle.tib_difference.specs.Difference.{KeyOf, key_cmp, key_at, keys_at, IsEdgeOver, IsSeedEdge, IsEdgeAt, IsSeed, difference}
use Rattle.tib_difference.specs.Keys.{keys_tie, is_same}
use Rattle.tib_difference.specs.OneEdge.{difference_laws}
use Rattle.tib_difference.specs.Series.{unless_start, with_final, finals}
use Rattle.tib_difference.specs.Subsets.{SubsetOf}
use Rattle.tib_operations.specs.Difference.{differing}

key_same : (x y : KeyOf) → key_cmp x y ≡ Equal → x ≡ y
key_same x y e = is_same x y (keys_tie x y ∙ ap is_eq e)

leaves_end : (keys : List KeyOf) → HolesAreLeaves {A = ℕ} (leaves keys)
leaves_end [] = tt
leaves_end (k ∷ keys) = leaves_end keys

leaves_plain : (labels : List (List ℕ)) (place : KeyOf → ℕ) (keys : List KeyOf) → HavePlainLabels labels (relabel (symbol_map place) (leaves keys))
leaves_plain labels place [] = tt
leaves_plain labels place (k ∷ keys) = (tt, leaves_plain labels place keys)

module _ (scale : Scale) (labels : List (List ℕ)) (one two : List (Rule ℕ)) (p : ArePrintable scale labels one) where
  -- an edge from a key of the order over keys of it
  edge_over : (order : List KeyOf) (rule : ℕ) (keys : List KeyOf) (e : Rule KeyOf) → Has order e.left → ((k : KeyOf) → Has keys k → Has order k) → IsEdgeOver one two rule keys e → IsPlainEdge scale labels order e
  edge_over order rule keys e left stand edge =
      let root = subst (λ (z : Symbol ℕ ℕ). HavePlainLabels labels (tree z (rule_at one rule).right.kids none)) edge.is_root (p rule edge.below).right in
      record {
        left = left;
        right = λ k h. stand k (subst (λ (ks : List KeyOf). Has ks k) (ap holes_of edge.right ∙ holes_of-over edge.root keys) h);
        leaves = subst (λ (s : SideFor ℕ KeyOf). HolesAreLeaves (only s)) (sym edge.right) (leaves_end keys, tt);
        plain = λ place. subst (λ (s : SideFor ℕ KeyOf). HavePlainLabels labels (relabel (symbol_map place) (only s))) (sym edge.right) (root.0, root.1, leaves_plain labels place keys, tt);
        cost = subst (IsPlainCost scale) (sym edge.cost) (p rule edge.below).cost;
      }

  -- the keys at positions of an order stand in it
  keys_stand : (order : List KeyOf) (ps : List ℕ) → Each (λ p. p < length order) ps → (k : KeyOf) → Has (keys_at order ps) k → Has order k
  keys_stand order ps low k h =
      let a = has_mapped (key_at order) ps k h in
      subst (Has order) a.2 (has_at order a.0 (0, []) (each_has (λ q. q < length order) ps a.0 low a.1))

  -- the key of a seed is in each order
  seed_stands : (rounds expanded : ℕ) (order : List KeyOf) → AfterRounds (difference one two) rounds expanded order → (k : KeyOf) → IsSeed one two k → Has order k
  seed_stands zero expanded order (start, first) k s = (first.1 k).1 s
  seed_stands (suc rounds) expanded order (old, first, new, before, is, at, made) k s = subst (λ (l : List KeyOf). Has l k) (sym made) (has_left old new k (seed_stands rounds first old before k s))

  all_over : (order : List KeyOf) (es : List (Rule KeyOf)) → IsReachedSet (difference one two) order es → (e : Rule KeyOf) → Has es e → IsPlainEdge scale labels order e
  all_over order es reached e h = elim (edge_given (difference one two) (difference_laws one two) order (length order) es reached.1 e h) [
    | inl s ↦ seeded s.0 s.1
    | inr m ↦ placed m.0 m.1 m.2.0 m.2.1
  ]
    where
      seeded : (o : ℕ × List ℕ) → IsSeedEdge one two o e → IsPlainEdge scale labels order e
      seeded o s = edge_over order o.0 [] e (seed_stands reached.0.0 reached.0.1 order reached.0.2 e.left (o.0, e, s.edge, refl)) (λ k none. absurd none) s.edge

      placed : (i : ℕ) → i < length order → (o : ℕ × List ℕ) → IsEdgeAt one two order i o e → IsPlainEdge scale labels order e
      placed i low o s =
          edge_over order o.0 (keys_at order o.1) e (ends_stand (difference one two) (difference_laws one two) key_same order reached.0 i low o e e.left s (inl refl))
          (keys_stand order o.1 (each_weaker (λ p. p ≤ i) (λ p. p < length order) o.1 (λ p up. omega (arith, up, low)) s.up_to)) s.edge

-- finals

unless_each : (P : ℕ × ℕ → Type 0) (v : SubsetOf) (i : ℕ) (more : List (ℕ × ℕ)) → P (i, 0) → Each P more → Each P (unless_start v i more)
unless_each P [] i more h e = (h, e)
unless_each P (q ∷ v) i more h e = elim (nat_eq q 0) as (λ b. Each P (if b then more else unless_start v i more)) [ true ↦ e | false ↦ unless_each P v i more h e ]

with_each : (P : ℕ × ℕ → Type 0) (i : ℕ) (k : KeyOf) (more : List (ℕ × ℕ)) → P (i, 0) → Each P more → Each P (with_final i k more)
with_each P i k more h e = elim (nat_eq k.0 0) as (λ b. Each P (if b then unless_start k.1 i more else more)) [ true ↦ unless_each P k.1 i more h e | false ↦ e ]

finals_within : (i : ℕ) (order : List KeyOf) → Each (λ (f : ℕ × ℕ). f.0 < i + length order) (finals i order)
finals_within i [] = tt
finals_within i (k ∷ order) =
    with_each (λ f. f.0 < i + length (k ∷ order)) i k (finals (suc i) order) (omega arith)
    (each_weaker (λ (f : ℕ × ℕ). f.0 < suc i + length order) (λ f. f.0 < i + length (k ∷ order)) (finals (suc i) order) (λ f low. omega (arith, low)) (finals_within (suc i) order))

-- finals are positions of the order
pub finals_stand : (order : List KeyOf) → Each (λ (f : ℕ × ℕ). f.0 < length order) (finals 0 order)
finals_stand order = each_weaker (λ (f : ℕ × ℕ). f.0 < 0 + length order) (λ f. f.0 < length order) (finals 0 order) (λ f low. omega (arith, low)) (finals_within 0 order)

zero_plain : (scale : Scale) → IsPlainCost scale 0
zero_plain scales.Plain = omega arith
zero_plain scales.Reversed = omega arith
zero_plain scales.Unweighted = refl

-- and cost nothing
pub finals_plain : (scale : Scale) (i : ℕ) (order : List KeyOf) → Each (λ (f : ℕ × ℕ). IsPlainCost scale f.1) (finals i order)
finals_plain scale i [] = tt
finals_plain scale i (k ∷ order) = with_each (λ f. IsPlainCost scale f.1) i k (finals (suc i) order) (zero_plain scale) (finals_plain scale (suc i) order)

unless_few : (v : SubsetOf) (i : ℕ) (more : List (ℕ × ℕ)) → length (unless_start v i more) ≤ suc (length more)
unless_few [] i more = omega arith
unless_few (q ∷ v) i more = elim (nat_eq q 0) as (λ b. length (if b then more else unless_start v i more) ≤ suc (length more)) [ true ↦ omega arith | false ↦ unless_few v i more ]

with_few : (i : ℕ) (k : KeyOf) (more : List (ℕ × ℕ)) → length (with_final i k more) ≤ suc (length more)
with_few i k more = elim (nat_eq k.0 0) as (λ b. length (if b then unless_start k.1 i more else more) ≤ suc (length more)) [ true ↦ unless_few k.1 i more | false ↦ omega arith ]

-- they are no more than the keys
pub finals_few : (i : ℕ) (order : List KeyOf) → length (finals i order) ≤ length order
finals_few i [] = omega arith
finals_few i (k ∷ order) = omega (arith, with_few i k (finals (suc i) order), finals_few (suc i) order)

-- the construction from two grammars of which the first can be printed
pub differences_plain : (scale : Scale) (labels : List (List ℕ)) (one two : GrammarOf) → ArePrintable scale labels one.rules → IsPlainFresh scale labels (differing (one, two)) (finals 0)
differences_plain scale labels one two p = record {
  edges = record {
    laws = difference_laws one.rules two.rules;
    equal = key_same;
    parts = λ k. omega arith;
    edges = all_over scale labels one.rules two.rules p;
  };
  begins = λ order. refl;
  within = λ order reached. finals_stand order;
  costs = λ order reached. finals_plain scale 0 order;
}
