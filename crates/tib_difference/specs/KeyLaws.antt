-- The laws of the difference, for all its keys, edges and rules.
use Rattle.std.specs.Prelude.{ℕ, List, refl}
use Rattle.tib_grammar.specs.declared.Rule.{Rule}
use Rattle.tib_grammar.proofs.Positions.{reads_positions}
use Rattle.tib_expand.specs.Lawful.{IsLawful}
use Rattle.tib_determinize.specs.Determinization.{LeftsBelow}
use Rattle.tib_determinize.specs.VectorLaws.{reads_places}
use Rattle.tib_difference.specs.Difference.{key_cmp, key_entries, IsKey, difference}
use Rattle.tib_difference.specs.KeyRules.{key_reading}
use Rattle.tib_difference.specs.OneEdge.{one_edge, one_seed_edge, seeds_admitted, ends_admitted, seeds_end, edges_stay}

-- all laws of the difference, for its keys, edges and rules
pub difference_is_lawful :
    (one two : List (Rule ℕ)) (ones twos : ℕ) → LeftsBelow ones one → LeftsBelow twos two →
    IsLawful (difference one two) (λ k. IsKey ones twos k) key_reading (λ k l. key_cmp k l) (λ k. key_entries k)
difference_is_lawful one two ones twos first second = record {
  same_order = refl;
  same_parts = refl;
  reads_places = λ rule f g same. reads_places rule f g same;
  reads_positions = λ rule f g same. reads_positions rule f g same;
  one_edge = one_edge one two;
  one_seed_edge = one_seed_edge one two;
  seeds_admitted = seeds_admitted one two ones twos first second;
  ends_admitted = ends_admitted one two ones twos first second;
  seeds_end = seeds_end one two;
  edges_stay = edges_stay one two;
}
