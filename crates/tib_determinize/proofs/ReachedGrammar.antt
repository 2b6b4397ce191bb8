-- The reached set as rules over the positions of its order.
use Rattle.std.specs.Prelude.{◌≡◌, ℕ, ◌≤◌, List, [], ◌∷◌, length, map}
use Rattle.std.proofs.Common.{arith, subst}
use Rattle.tib_lex.specs.Lists.{total}
use Rattle.tib_lex.proofs.Lists.{length_map}
use Rattle.tib_grammar.specs.GrammarOf.{GrammarOf, named_rule}
use Rattle.tib_grammar.specs.declared.Rule.{Rule}
use Rattle.tib_grammar.specs.Positions.{positions_of}
use Rattle.tib_grammar.proofs.Positions.{rules_in_range}
use Rattle.tib_expand.specs.Keys.{key_parts}
use Rattle.tib_expand.specs.Reached.{IsReachedSet, IsBeyond, parts_of}
use Rattle.tib_expand.specs.Reading.{AreBelow}
use Rattle.tib_determinize.specs.Vectors.{VectorOf, vector_at}
use Rattle.tib_determinize.specs.Determinization.{determinization, edge_parts}
use Rattle.tib_determinize.specs.VectorGrammar.{IsDeterminized}

-- parts

vectors_least : (order : List VectorOf) → length order ≤ total (key_parts (λ v. length v)) order
vectors_least [] = omega arith
vectors_least (v ∷ order) = omega (arith, vectors_least order)

edges_least : (es : List (Rule VectorOf)) → length es ≤ total edge_parts es
edges_least [] = omega arith
edges_least (e ∷ es) = omega (arith, edges_least es)

module _ (product : ℕ → ℕ → ℕ) (near asked : GrammarOf) (same : near ≡ asked) (order : List VectorOf) (rules : List (Rule ℕ)) where
  -- the reached set of the grammar that was asked for
  pub determinized : IsReachedSet (determinization product near.rules) order (map (named_rule (vector_at order)) rules) → AreBelow positions_of (length order) rules → IsDeterminized product asked.rules order rules
  determinized h below = subst (λ (x : GrammarOf). IsDeterminized product x.rules order rules) same (record { reached = h; in_range = rules_in_range (length order) rules below })

-- what is too large
pub beyond_of : (product : ℕ → ℕ → ℕ) (near asked : GrammarOf) → near ≡ asked → (limit : ℕ) → IsBeyond (determinization product near.rules) limit → IsBeyond (determinization product asked.rules) limit
beyond_of product near asked same limit h = subst (λ (x : GrammarOf). IsBeyond (determinization product x.rules) limit) same h

module _ (product : ℕ → ℕ → ℕ) (old : List (Rule ℕ)) (order : List VectorOf) (rules : List (Rule ℕ)) (parts limit : ℕ)
    (counted : parts ≡ parts_of (determinization product old) order (map (named_rule (vector_at order)) rules)) (within : parts ≤ limit) where
  -- there are no more vectors than the limit
  pub few_vectors : length order ≤ limit
  few_vectors = omega (arith, vectors_least order, counted, within)

  -- there are no more rules than the limit
  pub few_rules : length rules ≤ limit
  few_rules = omega (arith, edges_least (map (named_rule (vector_at order)) rules), length_map (named_rule (vector_at order)) rules, counted, within)
