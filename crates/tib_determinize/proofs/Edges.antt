-- The list of edges that `expand` returns.
use Rattle.std.specs.Prelude.{◌≡◌, ◌↔◌, ℕ, ◌+◌, ◌<◌, ◌≤◌, Bool, List, [], ◌∷◌, ◌++◌, length, map, refl}
use Rattle.std.proofs.Common.{zero, suc, arith, ap, sym, ◌∙◌, subst, get_or, inl, inr, append_assoc, append-nil, length-append}
use Rattle.tib_lex.specs.Lists.{Has, Each, total}
use Rattle.tib_tree.specs.Trees.{none, tree, only, sizes, relabel}
use Rattle.tib_grammar.specs.Sides.{hole, symbol_map, over, leaves}
use Rattle.tib_grammar.specs.declared.Rule.{Rule}
use Rattle.tib_cost.specs.Semiring.{ProductLaws}
use Rattle.tib_lex.proofs.Alongs.{along_of}
use Rattle.tib_grammar.specs.Positions.{states_in}
use Rattle.tib_expand.specs.EdgeLists.{Lists, AreListed, IsEnd, IsWithin, key_at}
use Rattle.tib_expand.specs.declared.place.Place.TheVariants.{Known, End}
use Rattle.tib_determinize.specs.declared.vector_rule.VectorRule.{VectorRule}
use Rattle.tib_determinize.specs.declared.listing.VectorListing.{VectorListing}
use Rattle.tib_determinize.specs.Vectors.{VectorOf, Rises, vector_at, vectors_at}
use Rattle.tib_determinize.specs.Determinization.{ends_of, edge_parts}
use Rattle.tib_determinize.specs.VectorRules.{PlacedRule, placed_rule, places_in, places_of, read_placed, read_places}
use Rattle.tib_determinize.specs.Stepped.{Stepped, stepped_parts, rules_from, IsListing, IsWithinBudget, AreSteps}
use Rattle.tib_determinize.proofs.EdgesOf.{edge_of}
use Rattle.tib_determinize.proofs.Stepping.{step_or_none, lefts_below}
use Rattle.tib_determinize.specs.ListLemmas.{along_back}
use Rattle.tib_lex.proofs.Lists.{map_twice, each_mapped}

-- a renaming of leaves
pub map_leaves : {K : Type 0} (g : ℕ → K) (qs : List ℕ) → relabel (symbol_map {A = ℕ} g) (leaves qs) ≡ leaves (map g qs)
map_leaves g [] = refl
map_leaves g (q ∷ qs) = ap (tree (hole (g q)) none) (map_leaves g qs)

states_leaves : (qs : List ℕ) → states_in (leaves qs) ≡ qs
states_leaves [] = refl
states_leaves (q ∷ qs) = ap (λ xs. q ∷ xs) (states_leaves qs)

-- the states of a label over some
pub states_over_are : (f : ℕ) (qs : List ℕ) → states_in (only (over f qs)) ≡ qs
states_over_are f qs = append-nil (states_in (leaves qs)) ∙ states_leaves qs

key_here : (front : List VectorOf) (v : VectorOf) (rest : List VectorOf) (d : VectorOf) → get_or (front ++ v ∷ rest) (length front) d ≡ v
key_here [] v rest d = refl
key_here (x ∷ front) v rest d = key_here front v rest d

any_default : (xs : List VectorOf) (i : ℕ) (d c : VectorOf) → i < length xs → get_or xs i d ≡ get_or xs i c
any_default [] i d c h = absurd (omega arith)
any_default (x ∷ xs) zero d c h = refl
any_default (x ∷ xs) (suc i) d c h = any_default xs i d c (omega arith)

vectors_read : (order ends : List VectorOf) (d : VectorOf) (ps : List ℕ) → Each (λ p. p < length order) ps → map (λ p. key_at d order ends (Known p)) ps ≡ vectors_at order ps
vectors_read order ends d [] h = refl
vectors_read order ends d (p ∷ ps) h = ap (λ v. v ∷ map (λ q. key_at d order ends (Known q)) ps) (any_default order p d [] h.0) ∙ ap (λ vs. vector_at order p ∷ vs) (vectors_read order ends d ps h.1)

-- the edge's positions are those of the order
abbrev pub IsInOrder : List VectorOf → Stepped → Type 0
IsInOrder order e = Each (λ p. p < length order) e.positions

vectors : List Stepped → List VectorOf
vectors es = map (λ (e : Stepped). e.vector) es

reads_from :
    (order : List VectorOf) (d : VectorOf) (front : List VectorOf) (es : List Stepped) (ends : List VectorOf) (i : ℕ) → ends ≡ front ++ map (λ (e : Stepped). e.vector) es → i ≡ length front → Each (IsInOrder order) es →
    map (read_placed (key_at d order ends)) (rules_from i es) ≡ map (edge_of order) es
reads_from order d front [] ends i are at h = refl
reads_from order d front (e ∷ es) ends i are at h =
    ap (λ (r : Rule VectorOf). r ∷ map (read_placed (key_at d order ends)) (rules_from (suc i) es)) one
    ∙ ap (λ (rs : List (Rule VectorOf)). edge_of order e ∷ rs)
    (reads_from order d (front ++ e.vector ∷ []) es ends (suc i) (are ∙ sym (append_assoc front (e.vector ∷ []) (map (λ (x : Stepped). x.vector) es))) (let l = length-append front (e.vector ∷ []) in omega (arith, l, at)) h.1)
  where
    left : key_at d order ends (End i) ≡ e.vector
    left = ap (λ (xs : List VectorOf). get_or xs i d) are ∙ ap (λ n. get_or (front ++ e.vector ∷ map (λ (x : Stepped). x.vector) es) n d) at ∙ key_here front e.vector (map (λ (x : Stepped). x.vector) es) d

    one : read_placed (key_at d order ends) (record { end = i; label = e.label; positions = e.positions; cost = e.cost }) ≡ edge_of order e
    one =
        ap (λ (k : VectorOf). record { left = k; right = over e.label (map (λ p. key_at d order ends (Known p)) e.positions); cost = e.cost }) left
        ∙ ap (λ (vs : List VectorOf). record { left = e.vector; right = over e.label vs; cost = e.cost }) (vectors_read order ends d e.positions h.0)

within_from : (order : List VectorOf) (many i : ℕ) (es : List Stepped) → i + length es ≤ many → Each (IsInOrder order) es → Each (λ rule. Each (IsWithin (length order) many) (places_in rule)) (rules_from i es)
within_from order many i [] l h = tt
within_from order many i (e ∷ es) l h = ((omega arith, known e.positions h.0), within_from order many (suc i) es (omega arith) h.1)
  where
    known : (ps : List ℕ) → Each (λ p. p < length order) ps → Each (IsWithin (length order) many) (map (λ p. Known p) ps)
    known [] k = tt
    known (p ∷ ps) k = (k.0, known ps k.1)

leaves_size : (vs : List VectorOf) → sizes (leaves {A = ℕ} vs) ≡ length vs
leaves_size [] = refl
leaves_size (v ∷ vs) = let r = leaves_size vs in omega (arith, r)

mapped : (order : List VectorOf) (ps : List ℕ) → length (vectors_at order ps) ≡ length ps
mapped order [] = refl
mapped order (p ∷ ps) = ap suc (mapped order ps)

-- the parts of edges over keys
pub parts_are : (order : List VectorOf) (es : List Stepped) → total edge_parts (map (edge_of order) es) ≡ total stepped_parts es
parts_are order [] = refl
parts_are order (e ∷ es) =
    let r = parts_are order es in
    let s = leaves_size (vectors_at order e.positions) in
    let m = mapped order e.positions in
    omega (arith, r, s, m)

-- a list with these edges is listed
pub is_listed :
    (Edge : ℕ × List ℕ → Rule VectorOf → Type 0) (order ends : List VectorOf) (rules : List VectorRule) (parts : ℕ) (l : VectorListing) (es : List Stepped) → IsListing l es → IsWithinBudget l → ends ≡ l.ends.items → rules ≡ l.rules.items →
    parts ≡ l.parts → Each (IsInOrder order) es → Lists Edge (map (edge_of order) es) → AreListed Edge edge_parts places_of read_places order ends rules parts
is_listed Edge order ends rules parts l es is within ends_are rules_are parts_is in_order lists =
    let e : ends ≡ map (λ (x : Stepped). x.vector) es = ends_are ∙ is.ends in
    let r : map placed_rule rules ≡ rules_from 0 es = ap (map placed_rule) rules_are ∙ is.rules in
    let read = λ (d : VectorOf). sym (map_twice (read_placed (key_at d order ends)) placed_rule rules) ∙ ap (map (read_placed (key_at d order ends))) r ∙ reads_from order d [] es ends 0 e refl in_order in
    record {
      few = (let a = within.few in let b = within.within in let c = within.budget in let x : length ends ≡ length l.ends.items = ap length ends_are in omega (arith, a, b, c, x));
      within = each_mapped (λ (rule : PlacedRule). Each (IsWithin (length order) (length ends)) (places_in rule)) placed_rule rules (subst (λ rs. Each (λ (rule : PlacedRule). Each (IsWithin (length order) (length ends)) (places_in rule)) rs) (sym r) (within_from order (length ends) 0 es (let x = ap length e in let y = length_mapped es in omega (arith, x, y)) in_order));
      edges = λ d. subst (Lists Edge) (sym (read d)) lists;
      counted = λ d. parts_is ∙ is.parts ∙ sym (parts_are order es) ∙ ap (total edge_parts) (sym (read d));
    }
  where
    length_mapped : (xs : List Stepped) → length (map (λ (x : Stepped). x.vector) xs) ≡ length xs
    length_mapped [] = refl
    length_mapped (x ∷ xs) = ap suc (length_mapped xs)

vector_has : (order : List VectorOf) (es : List Stepped) (k : VectorOf) → Has (map (λ (e : Stepped). e.vector) es) k → (e : Rule VectorOf) × Has (map (edge_of order) es) e × (e.left ≡ k)
vector_has order [] k h = absurd h
vector_has order (x ∷ es) k h = elim h [ inl s ↦ (edge_of order x, inl refl, s) | inr m ↦ let r = vector_has order es k m in (r.0, inr r.1, r.2) ]

has_vector : (order : List VectorOf) (es : List Stepped) (e : Rule VectorOf) → Has (map (edge_of order) es) e → Has (map (λ (x : Stepped). x.vector) es) e.left
has_vector order [] e h = absurd h
has_vector order (x ∷ es) e h = elim h [ inl s ↦ inl (ap (λ (r : Rule VectorOf). r.left) s) | inr m ↦ inr (has_vector order es e m) ]

-- its ends are those of the edges
pub ends_are :
    (Edge : ℕ × List ℕ → Rule VectorOf → Type 0) → ((o : ℕ × List ℕ) (e f : Rule VectorOf) → Edge o e → Edge o f → e ≡ f) → (order : List VectorOf) (es : List Stepped) (ends : List VectorOf) →
    ends ≡ map (λ (x : Stepped). x.vector) es → Lists Edge (map (edge_of order) es) → (k : VectorOf) → Has ends k ↔ IsEnd Edge ends_of k
ends_are Edge one order es ends are lists k = (
  λ h.
      let v = vector_has order es k (subst (λ (xs : List VectorOf). Has xs k) are h) in
      let o = along_back Edge lists.origins (map (edge_of order) es) v.0 lists.given v.1 in
      (o.0, v.0, o.1, inl v.2),
  λ e.
      let a = along_of Edge lists.origins (map (edge_of order) es) e.0 lists.given (lists.whole e.0 e.1 e.2) in
      let same : e.1 ≡ a.0 = one e.0 e.1 a.0 e.2 a.1 in
      subst (λ (xs : List VectorOf). Has xs k) (sym are) (elim e.3 [
        | inl s ↦ subst (Has (map (λ (x : Stepped). x.vector) es)) (ap (λ (r : Rule VectorOf). r.left) (sym same) ∙ s) (has_vector order es a.0 a.2)
        | inr n ↦ absurd n
      ]),
)

-- the edges of those that were tried are there
pub steps_there :
    (product : ℕ → ℕ → ℕ) {levelled weighted : Bool} (laws : ProductLaws levelled weighted product) (rules : List (Rule ℕ)) (order : List VectorOf) → Each (λ v. Rises v) order → (os : List (ℕ × List ℕ)) →
    (es : List Stepped) × AreSteps product rules order os es
steps_there product laws rules order rise [] = ([], refl)
steps_there product laws rules order rise (o ∷ os) =
    let r = steps_there product laws rules order rise os in
    let low = lefts_below rules in
    elim (step_or_none laws rules low.0 low.1 o.0 (vectors_at order o.1) (all_rise o.1)) [
      | inl s ↦ (record { label = o.0; positions = o.1; cost = s.0; vector = s.1 } ∷ r.0, inr (record { label = o.0; positions = o.1; cost = s.0; vector = s.1 }, r.0, refl, record { label = refl; positions = refl; step = s.2 }, r.1))
      | inr n ↦ (r.0, inl (n, r.1))
    ]
  where
    rise_at : (xs : List VectorOf) (p : ℕ) → Each (λ v. Rises v) xs → Rises (get_or xs p [])
    rise_at [] p h = tt
    rise_at (x ∷ xs) zero h = h.0
    rise_at (x ∷ xs) (suc p) h = rise_at xs p h.1

    all_rise : (ps : List ℕ) → Each (λ v. Rises v) (vectors_at order ps)
    all_rise [] = tt
    all_rise (p ∷ ps) = (rise_at order p rise, all_rise ps)
