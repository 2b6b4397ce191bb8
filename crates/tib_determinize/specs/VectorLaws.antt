-- The laws of determinization, for all its vectors, edges and rules.
use Rattle.std.specs.Prelude.{◌≡◌, ℕ, List, [], ◌∷◌, map, length, refl}
use Rattle.std.proofs.Common.{ap, ◌∙◌}
use Rattle.tib_lex.specs.Lists.{Each}
use Rattle.tib_grammar.specs.Sides.{over}
use Rattle.tib_grammar.specs.declared.Rule.{Rule}
use Rattle.tib_grammar.proofs.Positions.{reads_positions}
use Rattle.tib_expand.specs.Lawful.{IsLawful}
use Rattle.tib_expand.specs.declared.place.Place.{Place}
use Rattle.tib_expand.specs.declared.place.Place.TheVariants.{Known, End}
use Rattle.tib_determinize.specs.declared.vector_rule.VectorRule.{VectorRule}
use Rattle.tib_determinize.specs.Determinization.{vector_cmp, determinization, IsVector, KeepsItsLaws, LeftsBelow}
use Rattle.tib_determinize.specs.VectorRules.{places_of, read_places, vector_reading}
use Rattle.tib_determinize.specs.OneStep.{keeps_its_laws}

map_places : {K : Type 0} (ps : List ℕ) (f g : Place → K) → Each (λ p. f p ≡ g p) (map (λ p. Known p) ps) → map (λ p. f (Known p)) ps ≡ map (λ p. g (Known p)) ps
map_places [] f g h = refl
map_places (p ∷ ps) f g h = ap (λ k. k ∷ map (λ q. f (Known q)) ps) h.0 ∙ ap (λ ks. g (Known p) ∷ ks) (map_places ps f g h.1)

-- what a rule over places stands for depends on the keys at its places alone
pub reads_places : {K : Type 0} (r : VectorRule) (f g : Place → K) → Each (λ p. f p ≡ g p) (places_of r) → read_places f r ≡ read_places g r
reads_places r f g h =
    ap (λ k. record { left = k; right = over r.label (map (λ p. f (Known p)) r.positions.items); cost = r.cost }) h.0
    ∙ ap (λ ks. record { left = g (End r.end); right = over r.label ks; cost = r.cost }) (map_places r.positions.items f g h.1)

-- all laws of determinization, for its vectors, edges and rules
pub vectors_are_lawful :
    (product : ℕ → ℕ → ℕ) (rules : List (Rule ℕ)) (states : ℕ) → LeftsBelow states rules →
    IsLawful (determinization product rules) (IsVector states) vector_reading vector_cmp (λ v. length v)
vectors_are_lawful product rules states lefts =
    let kept : KeepsItsLaws product states rules = keeps_its_laws product rules states lefts in
    record {
      same_order = refl;
      same_parts = refl;
      reads_places = λ rule f g same. reads_places rule f g same;
      reads_positions = λ rule f g same. reads_positions rule f g same;
      one_edge = λ order n o e f x y. kept.one_edge order n o e f x y;
      one_seed_edge = λ o e f x y. kept.one_seed_edge o e f x y;
      seeds_admitted = λ k is. kept.seeds_admitted k is;
      ends_admitted = λ order n o e k all low is has. kept.ends_admitted order n o e k is has;
      seeds_end = λ o e k is has. kept.seeds_end o e k is has;
      edges_stay = λ xs ys n o e x y same is. kept.edges_stay xs ys n o e same is;
    }
