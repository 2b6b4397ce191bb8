-- Ranks that are appended, and the children that they name.
use Rattle.std.specs.Prelude.{◌≡◌, ◌⊎◌, ℕ, ◌+◌, ◌<◌, ◌≤◌, List, [], ◌∷◌, ◌++◌, length, take, drop, replicate, map, refl}
use Rattle.std.proofs.Common.{zero, suc, arith, ap, sym, ◌∙◌, subst, inl, inr, get_or, append_assoc}
use Rattle.tib_lex.specs.Lists.{Has}
use Rattle.tib_tree.specs.Trees.{Tree, Trees, tree}
use Rattle.tib_ranked_trees.specs.Numbers.{NumbersBelow}
use Rattle.tib_ranked_trees.specs.Levels.{trees_of}
use Rattle.tib_ranked_trees.specs.Pass.{Entries, AreRanks, picked, zeros, entry_at}
use Rattle.tib_ranked_trees.proofs.Keeping.{get_or-front}
use Rattle.std.specs.Global.{Vec}
use Rattle.std.proofs.Math.ListN.{set}
use Rattle.std.proofs.lemmas.List.{map-set}
use Rattle.tib_ranked_trees.specs.declared.lists.Entry.{Entry}
use Rattle.tib_ranked_trees.specs.ListsOf.{ListsOf, items_of}
use Rattle.tib_ranked_trees.specs.Seen.{tree_at, row}
use Rattle.tib_ranked_trees.specs.Held.{raise, with_ranks, with_entry}
use Rattle.tib_ranked_trees.proofs.Offering.{picked_at, none_left}
use Rattle.tib_ranked_trees.proofs.Children.{from_at, get_or-map}

pub zeros_are : (qs : List ℕ) (n : ℕ) → n ≡ length qs → replicate n 0 ≡ zeros qs
zeros_are [] zero e = refl
zeros_are [] (suc n) e = absurd (omega arith)
zeros_are (q ∷ qs) zero e = absurd (omega arith)
zeros_are (q ∷ qs) (suc n) e = ap (λ (js : List ℕ). 0 ∷ js) (zeros_are qs n (omega arith))

pub ranks_put : (x now : ListsOf) → x ≡ now → (rs js : List ℕ) → rs ≡ x.ranks ++ js → record x { ranks = rs } ≡ with_ranks now js
ranks_put x now e rs js f = ap (λ (ks : List ℕ). record x { ranks = ks }) f ∙ ap (λ (y : ListsOf). with_ranks y js) e

-- one rank raised by one

pub length-raise : (i : ℕ) (js : List ℕ) → length (raise i js) ≡ length js
length-raise zero [] = refl
length-raise (suc i) [] = refl
length-raise zero (j ∷ js) = refl
length-raise (suc i) (j ∷ js) = ap suc (length-raise i js)

raise_same : (i : ℕ) (js : List ℕ) → i < length js → get_or (raise i js) i 0 ≡ get_or js i 0 + 1
raise_same i [] h = absurd (omega arith)
raise_same zero (j ∷ js) h = omega arith
raise_same (suc i) (j ∷ js) h = raise_same i js (omega arith)

raise_other : (i k : ℕ) (js : List ℕ) → (k ≡ i → ⊥) → get_or (raise i js) k 0 ≡ get_or js k 0
raise_other zero k [] n = refl
raise_other (suc i) k [] n = refl
raise_other zero zero (j ∷ js) n = absurd (n refl)
raise_other zero (suc k) (j ∷ js) n = refl
raise_other (suc i) zero (j ∷ js) n = refl
raise_other (suc i) (suc k) (j ∷ js) n = raise_other i k js (λ e. n (ap suc e))

pub take_snoc : (xs : List ℕ) (j : ℕ) → j < length xs → take (suc j) xs ≡ take j xs ++ get_or xs j 0 ∷ []
take_snoc [] j h = absurd (omega arith)
take_snoc (x ∷ xs) zero h = refl
take_snoc (x ∷ xs) (suc j) h = ap (λ (ys : List ℕ). x ∷ ys) (take_snoc xs j (omega arith))

pub take_all : (xs : List ℕ) (n : ℕ) → length xs ≤ n → take n xs ≡ xs
take_all [] zero h = refl
take_all [] (suc n) h = refl
take_all (x ∷ xs) zero h = absurd (omega arith)
take_all (x ∷ xs) (suc n) h = ap (λ (ys : List ℕ). x ∷ ys) (take_all xs n (omega arith))

take_long : (n : ℕ) (rs : List ℕ) → n ≤ length rs → length (take n rs) ≡ n
take_long zero rs h = refl
take_long (suc n) [] h = absurd (omega arith)
take_long (suc n) (r ∷ rs) h = ap suc (take_long n rs (omega arith))

pub from_long : (rs : List ℕ) (start n : ℕ) → start + n ≤ length rs → length (take n (drop start rs)) ≡ n
from_long rs zero n h = take_long n rs (omega arith)
from_long [] (suc start) n h = absurd (omega arith)
from_long (r ∷ rs) (suc start) n h = from_long rs start n (omega arith)

pub raised_next :
    (r0 ranks : List ℕ) (start count i j r v : ℕ) → start + count ≤ length r0 → j < count → ranks ≡ r0 ++ take j (raise i (take count (drop start r0))) → r ≡ get_or ranks (start + j) r →
    ((j ≡ i) × (v ≡ r + 1)) ⊎ ((j ≡ i → ⊥) × (v ≡ r)) → ranks ++ v ∷ [] ≡ r0 ++ take (j + 1) (raise i (take count (drop start r0)))
raised_next r0 ranks start count i j r v h below e f o =
    let js : List ℕ = take count (drop start r0) in
    let long : length js ≡ count = from_long r0 start count h in
    let at = from_at r0 start count j long below in
    let g : r ≡ get_or r0 (start + j) r = f ∙ ap (λ (xs : List ℕ). get_or xs (start + j) r) e ∙ get_or-front r0 (take j (raise i js)) (start + j) r (omega arith) in
    let k : r ≡ get_or js j 0 = g ∙ defaults r0 (start + j) r 0 (omega arith) ∙ at.1 in
    let w : v ≡ get_or (raise i js) j 0 = elim o [
      | inl y ↦ let z : get_or (raise i js) j 0 ≡ get_or js j 0 + 1 = subst (λ (m : ℕ). get_or (raise m js) j 0 ≡ get_or js j 0 + 1) y.0 (raise_same j js (omega (arith, long, below))) in omega (arith, y.1, z, k)
      | inr n ↦ n.1 ∙ k ∙ sym (raise_other i j js n.0)
    ] in
    let s : take (j + 1) (raise i js) ≡ take j (raise i js) ++ get_or (raise i js) j 0 ∷ [] =
    ap (λ (m : ℕ). take m (raise i js)) {x = j + 1} {y = suc j} (omega arith) ∙ take_snoc (raise i js) j (omega (arith, length-raise i js, long, below))
    in
    ap (λ (xs : List ℕ). xs ++ v ∷ []) e ∙ append_assoc r0 (take j (raise i js)) (v ∷ []) ∙ ap (λ (m : ℕ). r0 ++ (take j (raise i js) ++ m ∷ [])) w ∙ ap (λ (xs : List ℕ). r0 ++ xs) (sym s)
  where
    defaults : (xs : List ℕ) (m d c : ℕ) → m < length xs → get_or xs m d ≡ get_or xs m c
    defaults [] m d c l = absurd (omega arith)
    defaults (x ∷ xs) zero d c l = refl
    defaults (x ∷ xs) (suc m) d c l = defaults xs m d c (omega arith)

pub raised_all : (r0 ranks : List ℕ) (start count i j : ℕ) → start + count ≤ length r0 → count ≤ j → ranks ≡ r0 ++ take j (raise i (take count (drop start r0))) → ranks ≡ r0 ++ raise i (take count (drop start r0))
raised_all r0 ranks start count i j h end e =
    let js : List ℕ = take count (drop start r0) in
    e ∙ ap (λ (xs : List ℕ). r0 ++ xs) (take_all (raise i js) j (omega (arith, length-raise i js, from_long r0 start count h, end)))

-- the children's numbers

abbrev pub Comes : List (Tree ℕ) → Entries → List ℕ → List ℕ → ℕ → List ℕ → Type 0
Comes trees entries qs js i done =
    (rest : List ℕ) → row trees rest ≡ trees_of (picked entries (drop i qs) (drop i js)) → row trees (done ++ rest) ≡ trees_of (picked entries qs js)

pub comes_next :
    (trees : List (Tree ℕ)) (entries : Entries) (qs js : List ℕ) (i : ℕ) (done now : List ℕ) (n : ℕ) → AreRanks entries qs js → i < length qs → now ≡ done ++ n ∷ [] →
    tree_at trees n ≡ (entry_at entries (get_or qs i 0) (get_or js i 0)).0 → Comes trees entries qs js i done → Comes trees entries qs js (i + 1) now
comes_next trees entries qs js i done now n r h g e c rest f =
    let s : i + 1 ≡ suc i = omega arith in
    let f' : row trees rest ≡ trees_of (picked entries (drop (suc i) qs) (drop (suc i) js)) = f ∙ ap (λ (m : ℕ). trees_of (picked entries (drop m qs) (drop m js))) s in
    let t : row trees (n ∷ rest) ≡ trees_of (picked entries (drop i qs) (drop i js)) =
    ap (λ (a : Tree ℕ). tree a.label a.kids (row trees rest)) e
    ∙ ap (λ (us : Trees ℕ). tree (entry_at entries (get_or qs i 0) (get_or js i 0)).0.label (entry_at entries (get_or qs i 0) (get_or js i 0)).0.kids us) f'
    ∙ ap trees_of (sym (picked_at entries qs js i r h))
    in
    ap (λ (ns : List ℕ). row trees (ns ++ rest)) g ∙ ap (row trees) (append_assoc done (n ∷ []) rest) ∙ c (n ∷ rest) t

pub comes_all : (trees : List (Tree ℕ)) (entries : Entries) (qs js : List ℕ) (i : ℕ) (done : List ℕ) → i ≡ length qs → Comes trees entries qs js i done → row trees done ≡ trees_of (picked entries qs js)
comes_all trees entries qs js i done e c =
    let n : drop i qs ≡ [] = none_left qs i e in
    let empty : row trees [] ≡ trees_of (picked entries (drop i qs) (drop i js)) = rw n refl in
    ap (row trees) (sym (nil done)) ∙ c [] empty
  where
    nil : (xs : List ℕ) → xs ++ [] ≡ xs
    nil [] = refl
    nil (x ∷ xs) = ap (λ (ys : List ℕ). x ∷ ys) (nil xs)

pub below_snoc : (m : ℕ) (ns now : List ℕ) (n : ℕ) → now ≡ ns ++ n ∷ [] → NumbersBelow m ns → n < m → NumbersBelow m now
below_snoc m ns now n e b h = subst (NumbersBelow m) (sym e) (λ k i. elim (cases ns k i) [ inl y ↦ b k y | inr y ↦ omega (arith, y, h) ])
  where
    cases : (xs : List ℕ) (k : ℕ) → Has (xs ++ n ∷ []) k → Has xs k ⊎ (n ≡ k)
    cases [] k (inl y) = inr y
    cases [] k (inr y) = absurd y
    cases (x ∷ xs) k (inl y) = inl (inl y)
    cases (x ∷ xs) k (inr y) = elim (cases xs k y) [ inl z ↦ inl (inr z) | inr z ↦ inr z ]

-- an entry that is appended to a list

pub place_put :
    (x now : ListsOf) → x ≡ now → (vs : List (Vec Entry)) → map items_of vs ≡ x.lists → (q : ℕ) → q < length vs → (v w d : Vec Entry) (e : Entry) → v ≡ get_or vs q d → w.items ≡ v.items ++ e ∷ [] →
    record x { lists = map items_of (set vs q w) } ≡ with_entry now q e
place_put x now same vs f q h v w d e r p =
    let old : items_of v ≡ get_or x.lists q [] = ap items_of r ∙ sym (get_or-map items_of vs q d [] h) ∙ ap (λ (ls : List (List Entry)). get_or ls q []) f in
    let new : items_of w ≡ get_or x.lists q [] ++ e ∷ [] = p ∙ ap (λ (es : List Entry). es ++ e ∷ []) old in
    let put : map items_of (set vs q w) ≡ set x.lists q (get_or x.lists q [] ++ e ∷ []) =
    map-set items_of vs q w ∙ ap (λ (ls : List (List Entry)). set ls q (items_of w)) f ∙ ap (λ (es : List Entry). set x.lists q es) new
    in
    ap (λ (ls : List (List Entry)). record x { lists = ls }) put ∙ ap (λ (y : ListsOf). with_entry y q e) same
