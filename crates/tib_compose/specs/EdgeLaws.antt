-- The laws of composition, for all its pairs, edges and rules.
use Rattle.std.specs.Prelude.{◌≡◌, ℕ, ◌<◌, List, [], ◌∷◌, ◌++◌, length, Option, refl}
use Rattle.std.proofs.Common.{ap, ◌∙◌, subst, inl, inr}
use Rattle.tib_lex.specs.Lists.{Has, Each}
use Rattle.tib_lex.specs.PairOrder.{pair_cmp}
use Rattle.tib_lex.proofs.Lists.{each_left, each_right}
use Rattle.tib_tree.specs.Trees.{Trees, none, tree, only, relabel}
use Rattle.tib_grammar.specs.Sides.{Symbol, label, hole, symbol_map, side_map}
use Rattle.tib_grammar.specs.Range.{AllBelow}
use Rattle.tib_grammar.proofs.Members.{each_has, has_at}
use Rattle.tib_transducer.specs.Rules.{transducer_rule, states_in}
use Rattle.tib_key_edges.specs.Named.{named_transducer_rule}
use Rattle.tib_transducer.specs.Range.{AreWithin}
use Rattle.tib_key_edges.specs.Composing.{IsComposeEdge}
use Rattle.tib_expand.specs.Lawful.{IsLawful}
use Rattle.tib_expand.specs.Reading.{Reading}
use Rattle.tib_expand.specs.declared.place.Place.{Place}
use Rattle.tib_expand.specs.declared.place.Place.TheVariants.{Known}
use Rattle.tib_compose.specs.declared.placed_rule.PlacedRule.{PlacedRule}
use Rattle.tib_key_edges.specs.Ends.{key_at}
use Rattle.tib_key_edges.proofs.KeyOrders.{key_stays}
use Rattle.tib_key_edges.proofs.Pairs.{seed_within}
use Rattle.tib_key_edges.specs.Composition.{ends_of, composition}
use Rattle.tib_key_edges.proofs.Exact.{same_edge}
use Rattle.tib_transducer.specs.declared.Pair.{Pair}
use Rattle.tib_transducer.specs.declared.TransducerRule.{TransducerRule}
use Rattle.tib_transducer.specs.NamedPairs.{named_pair}
use Rattle.tib_key_edges.proofs.Standing.{ends_are_in_range}

-- the states that are anywhere in some sides
abbrev pub all_states : {P : Type 0} → Trees (Symbol ℕ (Pair P)) → List P
all_states none = []
all_states (tree (label f) kids rest) = all_states kids ++ all_states rest
all_states (tree (hole x) kids rest) = x.state ∷ (all_states kids ++ all_states rest)

-- the places in a rule, that of its state first
abbrev pub places_of : {P : Type 0} → TransducerRule P → List P
places_of r = r.state ∷ all_states (only r.right)

-- the rule that an edge over places is
abbrev pub rule_of : PlacedRule → TransducerRule Place
rule_of r = record { state = Known r.position; left = r.left.now; right = r.right; cost = r.cost }

sides_same : {P Q : Type 0} (f g : P → Q) (s : Trees (Symbol ℕ (Pair P))) →
    Each (λ p. f p ≡ g p) (all_states s) → relabel (symbol_map (named_pair f)) s ≡ relabel (symbol_map (named_pair g)) s
sides_same f g none h = refl
sides_same f g (tree (label x) kids rest) h =
    ap (λ ks. tree (label x) ks (relabel (symbol_map (named_pair f)) rest)) (sides_same f g kids (each_left (λ p. f p ≡ g p) (all_states kids) (all_states rest) h))
    ∙ ap (λ rs. tree (label x) (relabel (symbol_map (named_pair g)) kids) rs) (sides_same f g rest (each_right (λ p. f p ≡ g p) (all_states kids) (all_states rest) h))
sides_same f g (tree (hole x) kids rest) h =
    ap (λ k. tree (hole (record { state = k; variable = x.variable })) (relabel (symbol_map (named_pair f)) kids) (relabel (symbol_map (named_pair f)) rest)) h.0
    ∙ ap (λ ks. tree (hole (named_pair g x)) ks (relabel (symbol_map (named_pair f)) rest)) (sides_same f g kids (each_left (λ p. f p ≡ g p) (all_states kids) (all_states rest) h.1))
    ∙ ap (λ rs. tree (hole (named_pair g x)) (relabel (symbol_map (named_pair g)) kids) rs) (sides_same f g rest (each_right (λ p. f p ≡ g p) (all_states kids) (all_states rest) h.1))

-- what a rule stands for depends on its places alone
pub reads_rule : {P Q : Type 0} (r : TransducerRule P) (f g : P → Q) → Each (λ p. f p ≡ g p) (places_of r) → named_transducer_rule f r ≡ named_transducer_rule g r
reads_rule {P} {Q} r f g h =
    let side : relabel (symbol_map (named_pair f)) (only r.right) ≡ relabel (symbol_map (named_pair g)) (only r.right) = sides_same f g (only r.right) h.1 in
    let root : symbol_map {A = ℕ} (named_pair f) r.right.label ≡ symbol_map (named_pair g) r.right.label = cc side in
    let kids : relabel (symbol_map {A = ℕ} (named_pair f)) r.right.kids ≡ relabel (symbol_map (named_pair g)) r.right.kids = cc side in
    ap (λ z. record { state = z; left = r.left; right = side_map (named_pair f) r.right; cost = r.cost }) h.0
    ∙ ap (λ z. record { state = g r.state; left = r.left; right = record { label = z; kids = relabel (symbol_map (named_pair f)) r.right.kids }; cost = r.cost }) root
    ∙ ap (λ z. record { state = g r.state; left = r.left; right = record { label = symbol_map (named_pair g) r.right.label; kids = z }; cost = r.cost }) kids

-- the states of the rules are below n, stated by functions into facts
abbrev pub StatesBelow : ℕ → List (TransducerRule ℕ) → Type 0
StatesBelow n rules =
    ((m : ℕ) → m < length rules → (transducer_rule rules m).state < n) × ((m q : ℕ) → m < length rules → Has (states_in (transducer_rule rules m).right) q → q < n)

below_all : (n : ℕ) (qs : List ℕ) → ((q : ℕ) → Has qs q → q < n) → AllBelow n qs
below_all n [] f = tt
below_all n (q ∷ qs) f = (f q (inl refl), below_all n qs (λ x h. f x (inr h)))

in_range : (n : ℕ) (rules : List (TransducerRule ℕ)) → StatesBelow n rules → AreWithin n rules
in_range n rules b m h = (b.0 m h, below_all n (states_in (transducer_rule rules m).right) (λ q k. b.1 m q h k))

-- a pair of states within the two transducers
abbrev pub IsKey : ℕ → ℕ → ℕ × ℕ → Type 0
IsKey m n k = (k.0 < m) × (k.1 < n)

-- the ends of an edge of a pair within are within
pub ends_within :
    (product : ℕ → ℕ → ℕ) (one two : List (TransducerRule ℕ)) (m n : ℕ) (order : List (ℕ × ℕ)) (i : ℕ) (o : ℕ × Trees (Option ℕ)) (e : TransducerRule (ℕ × ℕ)) (k : ℕ × ℕ) →
    StatesBelow m one → StatesBelow n two →
    Each (IsKey m n) order → i < length order → IsComposeEdge product one two (key_at order i) o e → Has (ends_of e) k → IsKey m n k
ends_within product one two m n order i o e k a b all low edge has =
    let here : IsKey m n (key_at order i) = each_has (IsKey m n) order (key_at order i) all (has_at order i (0, 0) low) in
    ends_are_in_range product one two m n (in_range m one a) (in_range n two b) (key_at order i) o e k here.1 edge has

-- how rules over places and over positions are read as edges of pairs
abbrev pub compose_reading : Reading (ℕ × ℕ) (TransducerRule (ℕ × ℕ)) PlacedRule (TransducerRule ℕ)
compose_reading = record {
  places = λ r. places_of (rule_of r);
  positions = λ r. places_of r;
  read_places = λ f r. named_transducer_rule f (rule_of r);
  read_positions = λ f r. named_transducer_rule f r;
}

-- all laws of composition, for its pairs, edges and rules
pub composition_is_lawful :
    (product : ℕ → ℕ → ℕ) (one two : List (TransducerRule ℕ)) (m n : ℕ) → 0 < m → 0 < n → StatesBelow m one → StatesBelow n two →
    IsLawful (composition product one two) (λ k. (k.0 < m) × (k.1 < n)) compose_reading pair_cmp (λ k. 2)
composition_is_lawful product one two m n first second low high = record {
  same_order = refl;
  same_parts = refl;
  reads_places = λ rule f g same. reads_rule (rule_of rule) f g same;
  reads_positions = λ rule f g same. reads_rule rule f g same;
  one_edge = λ order i o e f x y. same_edge product one two (key_at order i) o e f x y;
  one_seed_edge = λ o e f x y. absurd x;
  seeds_admitted = λ k is. seed_within m n k first second is;
  ends_admitted = λ order i o e k all below is has. ends_within product one two m n order i o e k low high all below is has;
  seeds_end = λ o e k is has. absurd is;
  edges_stay = λ xs ys i o e x y same is. subst (λ k. IsComposeEdge product one two k o e) (key_stays (0, 0) xs ys i same) is;
}
