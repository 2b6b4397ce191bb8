-- What holds of operations over keys, and of all rules that stand for their edges.
use Rattle.std.specs.Prelude.{◌≡◌, ℕ, ◌<◌, List, [], ◌∷◌, length, map, refl}
use Rattle.std.proofs.Common.{zero, suc, arith, ap, sym, ◌∙◌, subst}
use Rattle.tib_lex.specs.Lists.{Has, Each}
use Rattle.tib_lex.proofs.Lists.{each_left, each_right}
use Rattle.tib_tree.specs.Trees.{Trees, none, tree, relabel, only}
use Rattle.tib_grammar.specs.Sides.{Symbol, label, hole, symbol_map, side_map, holes_of}
use Rattle.tib_grammar.specs.GrammarOf.{named_rule}
use Rattle.tib_grammar.specs.declared.Rule.{Rule}
use Rattle.tib_expand.specs.declared.place.Place.{Place}
use Rattle.tib_expand.specs.declared.place.Place.TheVariants.{Known, End}
use Rattle.tib_expand.specs.Lawful.{IsLawful}
use Rattle.tib_key_edges.proofs.KeyOrders.{key_stays}
use Rattle.tib_apply.specs.KeyGrammars.{key_at}
use Rattle.tib_apply.specs.Operations.{key_cmp, key_entries, key_operation}
use Rattle.tib_apply.specs.KeyRules.{carried, places_of, read_places, positions_of, key_reading}

-- functions that agree on what is carried agree on sides
pub relabel_same : {P K : Type 0} (f g : P → K) (ts : Trees (Symbol ℕ P)) → Each (λ q. f q ≡ g q) (carried ts) → relabel (symbol_map {A = ℕ} f) ts ≡ relabel (symbol_map {A = ℕ} g) ts
relabel_same f g none h = refl
relabel_same f g (tree (label x) kids rest) h =
    ap (λ ks. tree (label x) ks (relabel (symbol_map f) rest)) (relabel_same f g kids (each_left (λ q. f q ≡ g q) (carried kids) (carried rest) h))
    ∙ ap (λ rs. tree (label x) (relabel (symbol_map g) kids) rs) (relabel_same f g rest (each_right (λ q. f q ≡ g q) (carried kids) (carried rest) h))
relabel_same f g (tree (hole q) kids rest) h =
    ap (λ k. tree (hole k) (relabel (symbol_map f) kids) (relabel (symbol_map f) rest)) h.0
    ∙ ap (λ ks. tree (hole (g q)) ks (relabel (symbol_map f) rest)) (relabel_same f g kids (each_left (λ q. f q ≡ g q) (carried kids) (carried rest) h.1))
    ∙ ap (λ rs. tree (hole (g q)) (relabel (symbol_map g) kids) rs) (relabel_same f g rest (each_right (λ q. f q ≡ g q) (carried kids) (carried rest) h.1))

symbol_same : {P K : Type 0} (f g : P → K) (s : Symbol ℕ P) (kids : Trees (Symbol ℕ P)) → Each (λ q. f q ≡ g q) (carried (tree s kids none)) → symbol_map {A = ℕ} f s ≡ symbol_map g s
symbol_same f g (label x) kids h = refl
symbol_same f g (hole q) kids h = ap hole h.0

kids_same :
    {P K : Type 0} (f g : P → K) (s : Symbol ℕ P) (kids : Trees (Symbol ℕ P)) → Each (λ q. f q ≡ g q) (carried (tree s kids none)) →
    relabel (symbol_map {A = ℕ} f) kids ≡ relabel (symbol_map g) kids
kids_same f g (label x) kids h = relabel_same f g kids (each_left (λ q. f q ≡ g q) (carried kids) [] h)
kids_same f g (hole q) kids h = relabel_same f g kids (each_left (λ q. f q ≡ g q) (carried kids) [] h.1)

pub side_same : {P K : Type 0} (f g : P → K) (s : Symbol ℕ P) (kids : Trees (Symbol ℕ P)) → Each (λ q. f q ≡ g q) (carried (tree s kids none)) →
    side_map {A = ℕ} f (record { label = s; kids = kids }) ≡ side_map g (record { label = s; kids = kids })
side_same f g s kids h =
    ap (λ x. record { label = x; kids = relabel (symbol_map f) kids }) (symbol_same f g s kids h)
    ∙ ap (λ ks. record { label = symbol_map g s; kids = ks }) (kids_same f g s kids h)

each_ends : {K : Type 0} (f g : Place → K) (is : List ℕ) → Each (λ p. f p ≡ g p) (map End is) → Each (λ i. f (End i) ≡ g (End i)) is
each_ends f g [] h = tt
each_ends f g (i ∷ is) h = (h.0, each_ends f g is h.1)

-- what a rule stands for depends on the keys at its places alone
pub reads_places : {K : Type 0} (r : Rule ℕ) (f g : Place → K) → Each (λ p. f p ≡ g p) (places_of r) → read_places f r ≡ read_places g r
reads_places r f g h =
    ap (λ k. record { left = k; right = side_map (λ i. f (End i)) r.right; cost = r.cost }) h.0
    ∙ ap (λ s. record { left = g (Known r.left); right = s; cost = r.cost }) (side_same (λ i. f (End i)) (λ i. g (End i)) r.right.label r.right.kids (each_ends f g (carried (only r.right)) h.1))

-- what a rule over positions stands for depends on the keys at these alone
pub reads_positions : {K : Type 0} (r : Rule ℕ) (f g : ℕ → K) → Each (λ q. f q ≡ g q) (positions_of r) → named_rule f r ≡ named_rule g r
reads_positions r f g h =
    ap (λ k. record { left = k; right = side_map f r.right; cost = r.cost }) h.0
    ∙ ap (λ s. record { left = g r.left; right = s; cost = r.cost }) (side_same f g r.right.label r.right.kids h.1)

-- the key at a position has what each key has
key_has : (P : ℕ × ℕ × ℕ → Type 0) (order : List (ℕ × ℕ × ℕ)) (n : ℕ) → Each P order → n < length order → P (key_at order n)
key_has P [] n h b = absurd (omega arith)
key_has P (k ∷ order) zero h b = h.0
key_has P (k ∷ order) (suc n) h b = key_has P order n h.1 (omega arith)

-- all laws of an operation over keys, where an origin gives a key one edge, and the start and the
-- ends of edges are admitted
pub keys_are_lawful :
    {O : Type 0} (Edge : ℕ × ℕ × ℕ → O → Rule (ℕ × ℕ × ℕ) → Type 0) (admits : ℕ × ℕ × ℕ → Type 0) →
    ((k : ℕ × ℕ × ℕ) (o : O) (e f : Rule (ℕ × ℕ × ℕ)) → Edge k o e → Edge k o f → e ≡ f) → admits (0, 0, 0) →
    ((key : ℕ × ℕ × ℕ) (o : O) (e : Rule (ℕ × ℕ × ℕ)) (k : ℕ × ℕ × ℕ) → admits key → Edge key o e → Has (holes_of e.right) k → admits k) →
    IsLawful (key_operation Edge) admits key_reading key_cmp key_entries
keys_are_lawful Edge admits one start ends = record {
  same_order = refl;
  same_parts = refl;
  reads_places = λ rule f g same. reads_places rule f g same;
  reads_positions = λ rule f g same. reads_positions rule f g same;
  one_edge = λ order n o e f x y. one (key_at order n) o e f x y;
  one_seed_edge = λ o e f x y. absurd x;
  seeds_admitted = λ k is. subst admits (sym is) start;
  ends_admitted = λ order n o e k all below is has. ends (key_at order n) o e k (key_has admits order n all below) is has;
  seeds_end = λ o e k is has. absurd is;
  edges_stay = λ xs ys n o e x y same is. subst (λ k. Edge k o e) (key_stays (0, 0, 0) xs ys n same) is;
}
