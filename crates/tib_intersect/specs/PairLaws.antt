-- What holds of all edges of pairs and of all rules that stand for them.
use Rattle.std.specs.Prelude.{◌≡◌, ℕ, ◌<◌, List, [], ◌∷◌, map, zip, refl}
use Rattle.std.proofs.Common.{ap, sym, ◌∙◌, subst, inl, inr}
use Rattle.tib_lex.specs.Lists.{Has, Each}
use Rattle.tib_lex.specs.PairOrder.{pair_cmp}
use Rattle.tib_lex.proofs.Lists.{map_same}
use Rattle.tib_grammar.specs.Sides.{label, holes, holes_of, over}
use Rattle.tib_grammar.specs.Run.{rule_at}
use Rattle.tib_grammar.specs.declared.Rule.{Rule}
use Rattle.tib_grammar.specs.Range.{StatesBelow}
use Rattle.tib_grammar.proofs.Sides.{holes_of-label, holes_of-over, one_label}
use Rattle.tib_grammar.proofs.Positions.{reads_positions}
use Rattle.tib_expand.specs.declared.place.Place.{Place}
use Rattle.tib_expand.specs.declared.place.Place.TheVariants.{Known}
use Rattle.tib_intersect.specs.declared.pair_rule.PairRule.{PairRule}
use Rattle.tib_intersect.specs.PairEdges.{IsPairEdge, ends_of}
use Rattle.tib_expand.specs.Lawful.{IsLawful}
use Rattle.tib_key_edges.specs.Ends.{ends_from, key_at as pair_at}
use Rattle.tib_key_edges.proofs.KeyOrders.{key_stays}
use Rattle.tib_key_edges.proofs.Pairs.{seed_within}
use Rattle.tib_intersect.specs.Intersection.{intersection}
use Rattle.tib_intersect.specs.PairRules.{places_of, read_places, pair_reading}

-- an origin gives one edge
pub same_edge : (product : ℕ → ℕ → ℕ) (one two : List (Rule ℕ)) (key o : ℕ × ℕ) (e d : Rule (ℕ × ℕ)) →
    IsPairEdge product one two key o e → IsPairEdge product one two key o d → e ≡ d
same_edge product one two key o e d h k =
    let root : h.root ≡ k.root = one_label h.root k.root (rule_at one o.0).right.label h.first_root k.first_root in
    let zipped : List (ℕ × ℕ) = zip (holes (rule_at one o.0).right.kids) (holes (rule_at two o.1).right.kids) in
    let left : e.left ≡ d.left = h.left ∙ sym k.left in
    let right : e.right ≡ d.right = h.right ∙ ap (λ f. over f zipped) root ∙ sym k.right in
    let costs : e.cost ≡ d.cost = h.costs ∙ sym k.costs in
    ap (λ l. record { left = l; right = e.right; cost = e.cost }) left
    ∙ ap (λ r. record { left = d.left; right = r; cost = e.cost }) right
    ∙ ap (λ c. record { left = d.left; right = d.right; cost = c }) costs

-- what a rule stands for depends on the keys at its places alone
pub reads_places : {K : Type 0} (r : PairRule) (f g : Place → K) → Each (λ p. f p ≡ g p) (places_of r) → read_places f r ≡ read_places g r
reads_places r f g h =
    ap (λ k. record { left = k; right = over r.label (map f (ends_from r.first_end r.rank)); cost = r.cost }) h.0
    ∙ ap (λ ks. record { left = g (Known r.position); right = over r.label ks; cost = r.cost }) (map_same f g (ends_from r.first_end r.rank) h.1)

has_zip : (xs ys : List ℕ) (k : ℕ × ℕ) → Has {A = ℕ × ℕ} (zip xs ys) k → Has xs k.0 × Has ys k.1
has_zip [] ys k h = absurd h
has_zip (x ∷ xs) [] k h = absurd h
has_zip (x ∷ xs) (y ∷ ys) k h = elim h [
  | inl e ↦ (inl (ap (λ (z : ℕ × ℕ). z.0) e), inl (ap (λ (z : ℕ × ℕ). z.1) e))
  | inr m ↦ let r = has_zip xs ys k m in (inr r.0, inr r.1)
]

-- the ends of an edge are pairs of states that the grammars have
pub ends_below :
    (product : ℕ → ℕ → ℕ) (ones twos : List (Rule ℕ)) (a b : ℕ) (key o : ℕ × ℕ) (e : Rule (ℕ × ℕ)) (k : ℕ × ℕ) → StatesBelow a ones → StatesBelow b twos →
    IsPairEdge product ones twos key o e → Has (ends_of e) k → (k.0 < a) × (k.1 < b)
ends_below product ones twos a b key o e k one two is has =
    let first : List ℕ = holes (rule_at ones o.0).right.kids in
    let second : List ℕ = holes (rule_at twos o.1).right.kids in
    let zipped : Has {A = ℕ × ℕ} (zip first second) k = subst (λ (xs : List (ℕ × ℕ)). Has xs k) (ap (λ s. holes_of s) is.right ∙ holes_of-over is.root (zip first second)) has in
    let both = has_zip first second k zipped in (
      one o.0 k.0 is.first (subst (λ (xs : List ℕ). Has xs k.0) (sym (holes_of-label (rule_at ones o.0).right.label (rule_at ones o.0).right.kids is.root is.first_root)) both.0),
      two o.1 k.1 is.second (subst (λ (xs : List ℕ). Has xs k.1) (sym (holes_of-label (rule_at twos o.1).right.label (rule_at twos o.1).right.kids is.root is.second_root)) both.1),
    )

-- all laws of the intersection, for its pairs, edges and rules
pub pairs_are_lawful :
    (product : ℕ → ℕ → ℕ) (one two : List (Rule ℕ)) (a b : ℕ) → 0 < a → 0 < b → StatesBelow a one → StatesBelow b two →
    IsLawful (intersection product one two) (λ k. (k.0 < a) × (k.1 < b)) pair_reading pair_cmp (λ k. 2)
pairs_are_lawful product one two a b left right low high = record {
  same_order = refl;
  same_parts = refl;
  reads_places = λ rule f g same. reads_places rule f g same;
  reads_positions = λ rule f g same. reads_positions rule f g same;
  one_edge = λ order n o e f x y. same_edge product one two (pair_at order n) o e f x y;
  one_seed_edge = λ o e f x y. absurd x;
  seeds_admitted = λ k is. seed_within a b k left right is;
  ends_admitted = λ order n o e k all below is has. ends_below product one two a b (pair_at order n) o e k low high is has;
  seeds_end = λ o e k is has. absurd is;
  edges_stay = λ xs ys n o e x y same is. subst (λ k. IsPairEdge product one two k o e) (key_stays (0, 0) xs ys n same) is;
}
