-- What a rule over places or positions stands for depends only on the keys there.
use Rattle.std.specs.Prelude.{◌≡◌, ℕ, ◌+◌, List, [], ◌∷◌, ◌++◌, map, length, refl}
use Rattle.std.proofs.Common.{zero, suc, arith, ap, sym, ◌∙◌, subst}
use Rattle.std.proofs.lemmas.List.{length-append}
use Rattle.tib_lex.specs.Lists.{Each}
use Rattle.tib_lex.proofs.Lists.{each_mapped}
use Rattle.tib_tree.specs.Trees.{Trees, none, tree, only, relabel}
use Rattle.tib_grammar.specs.Sides.{Symbol, label, hole, Side as SideFor, holes, holes_of, symbol_map, side_map}
use Rattle.tib_grammar.specs.GrammarOf.{named_rule}
use Rattle.tib_grammar.specs.declared.Rule.{Rule}
use Rattle.tib_grammar.specs.Positions.{states_in, positions_of}
use Rattle.tib_grammar.proofs.Positions.{symbol_same, kids_same}
use Rattle.tib_expand.specs.declared.place.Place.{Place}
use Rattle.tib_expand.specs.declared.place.Place.TheVariants.{Known, End}
use Rattle.tib_key_edges.specs.Ends.{ends_from}
use Rattle.tib_key_edges.specs.declared.side_rule.SideRule.{SideRule}
use Rattle.tib_key_edges.specs.SideRules.{numbered, numbered_root, numbered_side, places_of, read_places}

pub sides_same : {K : Type 0} (f g : ℕ → K) (s : SideFor ℕ ℕ) → Each (λ q. f q ≡ g q) (states_in (only s)) → side_map f s ≡ side_map g s
sides_same f g s h =
    ap (λ x. record { label = x; kids = relabel (symbol_map f) s.kids }) (symbol_same f g s.label s.kids h)
    ∙ ap (λ ks. record { label = symbol_map g s.label; kids = ks }) (kids_same f g s.label s.kids h)

-- what a rule over positions stands for depends only on the keys at these
pub reads_positions : {K : Type 0} (r : Rule ℕ) (f g : ℕ → K) → Each (λ q. f q ≡ g q) (positions_of r) → named_rule f r ≡ named_rule g r
reads_positions r f g h =
    ap (λ k. record { left = k; right = side_map f r.right; cost = r.cost }) h.0
    ∙ ap (λ s. record { left = g r.left; right = s; cost = r.cost }) (sides_same f g r.right h.1)

append_none : {A : Type 0} (xs : List A) → xs ++ [] ≡ xs
append_none [] = refl
append_none (x ∷ xs) = ap (λ ys. x ∷ ys) (append_none xs)

pub map_append : {A B : Type 0} (f : A → B) (xs ys : List A) → map f (xs ++ ys) ≡ map f xs ++ map f ys
map_append f [] ys = refl
map_append f (x ∷ xs) ys = ap (λ zs. f x ∷ zs) (map_append f xs ys)

ends_append : (n a b : ℕ) → ends_from n a ++ ends_from (n + a) b ≡ ends_from n (a + b)
ends_append n zero b =
    let e : n + 0 ≡ n = omega arith in
    let d : 0 + b ≡ b = omega arith in
    ap (λ m. ends_from m b) e ∙ ap (ends_from n) (sym d)
ends_append n (suc a) b =
    let e : n + suc a ≡ suc n + a = omega arith in
    let d : suc a + b ≡ suc (a + b) = omega arith in
    ap (λ m. End n ∷ (ends_from (suc n) a ++ ends_from m b)) e ∙ ap (λ ps. End n ∷ ps) (ends_append (suc n) a b) ∙ ap (ends_from n) (sym d)

-- the numbers in numbered sides are consecutive
pub numbers_are : {P : Type 0} (n : ℕ) (ts : Trees (Symbol ℕ P)) → map End (states_in (numbered n ts)) ≡ ends_from n (length (holes ts))
numbers_are n none = refl
numbers_are n (tree (label f) kids rest) =
    map_append End (states_in (numbered n kids)) (states_in (numbered (n + length (holes kids)) rest))
    ∙ ap (λ ps. ps ++ map End (states_in (numbered (n + length (holes kids)) rest))) (numbers_are n kids)
    ∙ ap (λ ps. ends_from n (length (holes kids)) ++ ps) (numbers_are (n + length (holes kids)) rest)
    ∙ ends_append n (length (holes kids)) (length (holes rest))
    ∙ ap (ends_from n) (sym (length-append (holes kids) (holes rest)))
numbers_are n (tree (hole p) kids rest) = ap (λ ps. End n ∷ ps) (numbers_are (suc n) rest)

pub only_numbered : {P : Type 0} (n : ℕ) (side : SideFor ℕ P) → only (numbered_side n side) ≡ numbered n (only side)
only_numbered {P} n side = by side.label
  where
    by : (s : Symbol ℕ P) → only (numbered_root n s side.kids) ≡ numbered n (tree s side.kids none)
    by (label f) = refl
    by (hole p) = refl

-- the ends of a side, by the numbers in it
pub side_numbers : {P : Type 0} (n : ℕ) (side : SideFor ℕ P) → map End (states_in (only (numbered_side n side))) ≡ ends_from n (length (holes_of side))
side_numbers n side = ap (λ ts. map End (states_in ts)) (only_numbered n side) ∙ numbers_are n (only side)

-- what a rule stands for depends only on the keys at its places
pub reads_places : {K H : Type 0} (r : SideRule H) (f g : Place → K) → Each (λ p. f p ≡ g p) (places_of r) → read_places f r ≡ read_places g r
reads_places r f g h =
    let side = numbered_side r.first_end r.side.now in
    let each : Each (λ i. f (End i) ≡ g (End i)) (states_in (only side)) =
    each_mapped (λ p. f p ≡ g p) End (states_in (only side)) (subst (Each (λ p. f p ≡ g p)) (sym (side_numbers r.first_end r.side.now)) h.1) in
    ap (λ k. record { left = k; right = side_map (λ i. f (End i)) side; cost = r.cost }) h.0
    ∙ ap (λ s. record { left = g (Known r.position); right = s; cost = r.cost }) (sides_same (λ i. f (End i)) (λ i. g (End i)) side each)
