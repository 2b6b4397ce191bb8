-- The list of edges that `expand` returns.
use Rattle.std.specs.Prelude.{◌≡◌, ◌↔◌, ℕ, ◌+◌, ◌<◌, ◌≤◌, List, [], ◌∷◌, ◌++◌, length, map, refl}
use Rattle.std.proofs.Common.{zero, suc, arith, ap, sym, ◌∙◌, subst, get_or, inl, inr, append_assoc, length-append}
use Rattle.tib_lex.specs.Lists.{Has, Each, total}
use Rattle.tib_tree.specs.Trees.{sizes}
use Rattle.tib_grammar.specs.Sides.{over, leaves}
use Rattle.tib_grammar.specs.declared.Rule.{Rule}
use Rattle.tib_lex.proofs.Alongs.{along_of}
use Rattle.tib_expand.specs.EdgeLists.{Lists, AreListed, IsEnd, IsWithin, key_at as place_key}
use Rattle.tib_expand.specs.declared.place.Place.TheVariants.{Known, End}
use Rattle.tib_determinize.specs.declared.vector_rule.VectorRule.{VectorRule}
use Rattle.tib_determinize.specs.VectorRules.{PlacedRule, placed_rule, places_in, places_of, read_placed, read_places}
use Rattle.tib_determinize.specs.ListLemmas.{along_back}
use Rattle.tib_difference.specs.declared.listing.KeyListing.{KeyListing}
use Rattle.tib_difference.specs.Difference.{KeyOf, key_at, keys_at, ends_of, edge_parts}
use Rattle.tib_difference.specs.Listing.{Listed, listed_parts, rules_from, IsListing, IsWithinBudget}
use Rattle.tib_lex.proofs.Lists.{map_twice, each_mapped}

-- the edge over keys
abbrev pub edge_of : List KeyOf → Listed → Rule KeyOf
edge_of order e = record { left = e.key; right = over e.label (keys_at order e.positions); cost = e.cost }

key_here : (front : List KeyOf) (v : KeyOf) (rest : List KeyOf) (d : KeyOf) → get_or (front ++ v ∷ rest) (length front) d ≡ v
key_here [] v rest d = refl
key_here (x ∷ front) v rest d = key_here front v rest d

any_default : (xs : List KeyOf) (i : ℕ) (d c : KeyOf) → i < length xs → get_or xs i d ≡ get_or xs i c
any_default [] i d c h = absurd (omega arith)
any_default (x ∷ xs) zero d c h = refl
any_default (x ∷ xs) (suc i) d c h = any_default xs i d c (omega arith)

keys_read : (order ends : List KeyOf) (d : KeyOf) (ps : List ℕ) → Each (λ p. p < length order) ps → map (λ p. place_key d order ends (Known p)) ps ≡ keys_at order ps
keys_read order ends d [] h = refl
keys_read order ends d (p ∷ ps) h = ap (λ v. v ∷ map (λ q. place_key d order ends (Known q)) ps) (any_default order p d (0, []) h.0) ∙ ap (λ vs. key_at order p ∷ vs) (keys_read order ends d ps h.1)

-- the edge's positions are those of the order
abbrev pub IsInOrder : List KeyOf → Listed → Type 0
IsInOrder order e = Each (λ p. p < length order) e.positions

reads_from :
    (order : List KeyOf) (d : KeyOf) (front : List KeyOf) (es : List Listed) (ends : List KeyOf) (i : ℕ) → ends ≡ front ++ map (λ (e : Listed). e.key) es → i ≡ length front → Each (IsInOrder order) es →
    map (read_placed (place_key d order ends)) (rules_from i es) ≡ map (edge_of order) es
reads_from order d front [] ends i are at h = refl
reads_from order d front (e ∷ es) ends i are at h =
    ap (λ (r : Rule KeyOf). r ∷ map (read_placed (place_key d order ends)) (rules_from (suc i) es)) one
    ∙ ap (λ (rs : List (Rule KeyOf)). edge_of order e ∷ rs)
    (reads_from order d (front ++ e.key ∷ []) es ends (suc i) (are ∙ sym (append_assoc front (e.key ∷ []) (map (λ (x : Listed). x.key) es))) (let l = length-append front (e.key ∷ []) in omega (arith, l, at)) h.1)
  where
    left : place_key d order ends (End i) ≡ e.key
    left = ap (λ (xs : List KeyOf). get_or xs i d) are ∙ ap (λ n. get_or (front ++ e.key ∷ map (λ (x : Listed). x.key) es) n d) at ∙ key_here front e.key (map (λ (x : Listed). x.key) es) d

    one : read_placed (place_key d order ends) (record { end = i; label = e.label; positions = e.positions; cost = e.cost }) ≡ edge_of order e
    one =
        ap (λ (k : KeyOf). record { left = k; right = over e.label (map (λ p. place_key d order ends (Known p)) e.positions); cost = e.cost }) left
        ∙ ap (λ (vs : List KeyOf). record { left = e.key; right = over e.label vs; cost = e.cost }) (keys_read order ends d e.positions h.0)

within_from : (order : List KeyOf) (many i : ℕ) (es : List Listed) → i + length es ≤ many → Each (IsInOrder order) es → Each (λ rule. Each (IsWithin (length order) many) (places_in rule)) (rules_from i es)
within_from order many i [] l h = tt
within_from order many i (e ∷ es) l h = ((omega arith, known e.positions h.0), within_from order many (suc i) es (omega arith) h.1)
  where
    known : (ps : List ℕ) → Each (λ p. p < length order) ps → Each (IsWithin (length order) many) (map (λ p. Known p) ps)
    known [] k = tt
    known (p ∷ ps) k = (k.0, known ps k.1)

leaves_size : (vs : List KeyOf) → sizes (leaves {A = ℕ} vs) ≡ length vs
leaves_size [] = refl
leaves_size (v ∷ vs) = let r = leaves_size vs in omega (arith, r)

mapped : (order : List KeyOf) (ps : List ℕ) → length (keys_at order ps) ≡ length ps
mapped order [] = refl
mapped order (p ∷ ps) = ap suc (mapped order ps)

-- the parts of edges over keys
pub parts_are : (order : List KeyOf) (es : List Listed) → total edge_parts (map (edge_of order) es) ≡ total listed_parts es
parts_are order [] = refl
parts_are order (e ∷ es) =
    let r = parts_are order es in
    let s = leaves_size (keys_at order e.positions) in
    let m = mapped order e.positions in
    omega (arith, r, s, m)

-- a list with these edges is listed
pub is_listed :
    (Edge : ℕ × List ℕ → Rule KeyOf → Type 0) (order ends : List KeyOf) (rules : List VectorRule) (parts : ℕ) (l : KeyListing) (es : List Listed) → IsListing l es → IsWithinBudget l → ends ≡ l.ends.items → rules ≡ l.rules.items →
    parts ≡ l.parts → Each (IsInOrder order) es → Lists Edge (map (edge_of order) es) → AreListed Edge edge_parts places_of read_places order ends rules parts
is_listed Edge order ends rules parts l es is within ends_are rules_are parts_is in_order lists =
    let e : ends ≡ map (λ (x : Listed). x.key) es = ends_are ∙ is.ends in
    let r : map placed_rule rules ≡ rules_from 0 es = ap (map placed_rule) rules_are ∙ is.rules in
    let read = λ (d : KeyOf). sym (map_twice (read_placed (place_key d order ends)) placed_rule rules) ∙ ap (map (read_placed (place_key d order ends))) r ∙ reads_from order d [] es ends 0 e refl in_order in
    record {
      few = (let a = within.few in let b = within.within in let c = within.budget in let x : length ends ≡ length l.ends.items = ap length ends_are in omega (arith, a, b, c, x));
      within = each_mapped (λ (rule : PlacedRule). Each (IsWithin (length order) (length ends)) (places_in rule)) placed_rule rules (subst (λ rs. Each (λ (rule : PlacedRule). Each (IsWithin (length order) (length ends)) (places_in rule)) rs) (sym r) (within_from order (length ends) 0 es (let x = ap length e in let y = length_mapped es in omega (arith, x, y)) in_order));
      edges = λ d. subst (Lists Edge) (sym (read d)) lists;
      counted = λ d. parts_is ∙ is.parts ∙ sym (parts_are order es) ∙ ap (total edge_parts) (sym (read d));
    }
  where
    length_mapped : (xs : List Listed) → length (map (λ (x : Listed). x.key) xs) ≡ length xs
    length_mapped [] = refl
    length_mapped (x ∷ xs) = ap suc (length_mapped xs)

key_has : (order : List KeyOf) (es : List Listed) (k : KeyOf) → Has (map (λ (e : Listed). e.key) es) k → (e : Rule KeyOf) × Has (map (edge_of order) es) e × (e.left ≡ k)
key_has order [] k h = absurd h
key_has order (x ∷ es) k h = elim h [ inl s ↦ (edge_of order x, inl refl, s) | inr m ↦ let r = key_has order es k m in (r.0, inr r.1, r.2) ]

has_key : (order : List KeyOf) (es : List Listed) (e : Rule KeyOf) → Has (map (edge_of order) es) e → Has (map (λ (x : Listed). x.key) es) e.left
has_key order [] e h = absurd h
has_key order (x ∷ es) e h = elim h [ inl s ↦ inl (ap (λ (r : Rule KeyOf). r.left) s) | inr m ↦ inr (has_key order es e m) ]

-- its ends are those of the edges
pub ends_are :
    (Edge : ℕ × List ℕ → Rule KeyOf → Type 0) → ((o : ℕ × List ℕ) (e f : Rule KeyOf) → Edge o e → Edge o f → e ≡ f) → (order : List KeyOf) (es : List Listed) (ends : List KeyOf) →
    ends ≡ map (λ (x : Listed). x.key) es → Lists Edge (map (edge_of order) es) → (k : KeyOf) → Has ends k ↔ IsEnd Edge ends_of k
ends_are Edge one order es ends are lists k = (
  λ h.
      let v = key_has order es k (subst (λ (xs : List KeyOf). Has xs k) are h) in
      let o = along_back Edge lists.origins (map (edge_of order) es) v.0 lists.given v.1 in
      (o.0, v.0, o.1, inl v.2),
  λ e.
      let a = along_of Edge lists.origins (map (edge_of order) es) e.0 lists.given (lists.whole e.0 e.1 e.2) in
      let same : e.1 ≡ a.0 = one e.0 e.1 a.0 e.2 a.1 in
      subst (λ (xs : List KeyOf). Has xs k) (sym are) (elim e.3 [
        | inl s ↦ subst (Has (map (λ (x : Listed). x.key) es)) (ap (λ (r : Rule KeyOf). r.left) (sym same) ∙ s) (has_key order es a.0 a.2)
        | inr n ↦ absurd n
      ]),
)
