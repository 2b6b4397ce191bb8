-- How the sizes of nodes are found from the last one on.
use Rattle.std.proofs.Common.{◌≡◌, ℕ, ◌+◌, ◌-◌, ◌<◌, ◌≤◌, List, [], ◌∷◌, ◌++◌, length, get_or, take, drop, drop-cons, sub-one, refl, ap, sym, ◌∙◌, subst, arith, append_assoc, length-append, zero, suc}
use Rattle.std.proofs.lemmas.List.{take-append-le, take_all, length-drop}
use Rattle.tib_tree.specs.Trees.{Trees, none, tree, count, sizes, join, join_parts, first_trees, other_trees, count-other, count-first, parse, HasChildren, HasChildren-drop}
use Rattle.tib_tree.specs.Filled.{sized, sized_back}
use Rattle.tib_tree.specs.declared.preorder.Node.{Node}

-- where trees start that end at a place, the first one's start last, and that place before
abbrev pub starts_of : ℕ → Trees ℕ → List ℕ
starts_of n none = n ∷ []
starts_of n (tree f kids rest) = starts_of n rest ++ (n - suc (sizes kids + sizes rest)) ∷ []

pub length-starts : (n : ℕ) (ts : Trees ℕ) → length (starts_of n ts) ≡ count ts + 1
length-starts n none = refl
length-starts n (tree f kids rest) = omega (arith, length-append (starts_of n rest) ((n - suc (sizes kids + sizes rest)) ∷ []), length-starts n rest)

last_of : (xs : List ℕ) (x : ℕ) (k d : ℕ) → k ≡ length xs → get_or (xs ++ x ∷ []) k d ≡ x
last_of [] x zero d e = refl
last_of [] x (suc k) d e = absurd (omega arith)
last_of (y ∷ xs) x zero d e = absurd (omega arith)
last_of (y ∷ xs) x (suc k) d e = last_of xs x k d (omega arith)

-- the last start is that of the first tree
pub last-starts : (n : ℕ) (ts : Trees ℕ) (k : ℕ) → k ≡ count ts → get_or (starts_of n ts) k 0 ≡ n - sizes ts
last-starts n none k e = rw e (omega arith)
last-starts n (tree f kids rest) k e = last_of (starts_of n rest) (n - suc (sizes kids + sizes rest)) k 0 (omega (arith, length-starts n rest, e))

-- without those of the first trees
pub take-starts : (n r : ℕ) (ts : Trees ℕ) (m : ℕ) → r ≤ count ts → m ≡ count ts + 1 - r → take m (starts_of n ts) ≡ starts_of n (other_trees r ts)
take-starts n zero ts m h e = take_all m (starts_of n ts) (omega (arith, length-starts n ts))
take-starts n (suc r) none m h e = absurd (omega arith)
take-starts n (suc r) (tree f kids rest) m h e =
    take-append-le m (starts_of n rest) ((n - suc (sizes kids + sizes rest)) ∷ []) (omega (arith, length-starts n rest)) ∙ take-starts n r rest m (omega arith) (omega arith)

pub sizes-join : (ts us : Trees ℕ) → sizes (join ts us) ≡ sizes ts + sizes us
sizes-join none us = omega arith
sizes-join (tree f kids rest) us = omega (arith, sizes-join rest us)

pub sizes_parts : (r : ℕ) (ts : Trees ℕ) → sizes (first_trees r ts) + sizes (other_trees r ts) ≡ sizes ts
sizes_parts r ts = sym (sizes-join (first_trees r ts) (other_trees r ts)) ∙ ap sizes (join_parts r ts)

-- as many nodes as there are pairs
pub sizes-parse : (xs : List (ℕ × ℕ)) → sizes (parse xs) ≡ length xs
sizes-parse [] = refl
sizes-parse (x ∷ xs) = ap suc (sizes_parts x.1 (parse xs) ∙ sizes-parse xs)

sized_back-join : (ts us : Trees ℕ) → sized_back (join ts us) ≡ sized_back us ++ sized_back ts
sized_back-join none us = sym (append_nothing (sized_back us))
  where
    append_nothing : {X : Type 0} (xs : List X) → xs ++ [] ≡ xs
    append_nothing [] = refl
    append_nothing (x ∷ xs) = ap (λ l. x ∷ l) (append_nothing xs)
sized_back-join (tree f kids rest) us =
    ap (λ (l : List Node). l ++ (sized_back kids ++ sized f kids ∷ [])) (sized_back-join rest us)
    ∙ append_assoc (sized_back us) (sized_back rest) (sized_back kids ++ sized f kids ∷ [])

sized_parts : (r f : ℕ) (ts : Trees ℕ) → sized_back (tree f (first_trees r ts) (other_trees r ts)) ≡ sized_back ts ++ sized f (first_trees r ts) ∷ []
sized_parts r f ts =
    sym (append_assoc (sized_back (other_trees r ts)) (sized_back (first_trees r ts)) (sized f (first_trees r ts) ∷ []))
    ∙ ap (λ (l : List Node). l ++ sized f (first_trees r ts) ∷ []) (sym (sized_back-join (first_trees r ts) (other_trees r ts)) ∙ ap sized_back (join_parts r ts))

-- what was found so far
pub record Sized (items : List (ℕ × ℕ)) (i : ℕ) (starts : List ℕ) (back : List Node) : Type 0 where
  pub starts_are : starts ≡ starts_of (length items) (parse (drop i items))
  pub back_is : back ≡ sized_back (parse (drop i items))

suffix : (xs : List (ℕ × ℕ)) (i : ℕ) (d : ℕ × ℕ) → 0 < i → i ≤ length xs → drop (i - 1) xs ≡ get_or xs (i - 1) d ∷ drop i xs
suffix xs zero d h k = absurd (omega arith)
suffix xs (suc i) d h k = rw (sub-one, drop-cons xs i d)

enough_kids : (x : ℕ × ℕ) (xs : List (ℕ × ℕ)) → HasChildren (x ∷ xs) → x.1 ≤ count (parse xs)
enough_kids x xs h = h.1

-- the next node finds its children
pub fits : (items : List (ℕ × ℕ)) (i : ℕ) (d : ℕ × ℕ) → 0 < i → i ≤ length items → HasChildren items → (get_or items (i - 1) d).1 ≤ count (parse (drop i items))
fits items i d h k nested =
    let all : HasChildren (get_or items (i - 1) d ∷ drop i items) = subst HasChildren (suffix items i d h k) (HasChildren-drop (i - 1) items nested) in
    enough_kids (get_or items (i - 1) d) (drop i items) all

get_front : (xs : List ℕ) (m k : ℕ) → k < m → get_or (take m xs) k 0 ≡ get_or xs k 0
get_front [] zero k h = absurd (omega arith)
get_front [] (suc m) k h = refl
get_front (x ∷ xs) zero k h = absurd (omega arith)
get_front (x ∷ xs) (suc m) zero h = refl
get_front (x ∷ xs) (suc m) (suc k) h = get_front xs m k (omega arith)

-- where the first trees end
end_at : (n r : ℕ) (ts : Trees ℕ) (m : ℕ) → r ≤ count ts → m ≡ count ts + 1 → get_or (starts_of n ts) (m - r - 1) 0 ≡ n - sizes (other_trees r ts)
end_at n r ts m h e =
    sym (get_front (starts_of n ts) (m - r) (m - r - 1) (omega arith))
    ∙ ap (λ (l : List ℕ). get_or l (m - r - 1) 0) (take-starts n r ts (m - r) h (omega arith))
    ∙ last-starts n (other_trees r ts) (m - r - 1) (omega (arith, count-other r ts))

same_node : (f r s n m : ℕ) → r ≡ n → s ≡ m → ◌≡◌ {A = Node} (record { label = f; rank = r; size = s; depth = 0 }) (record { label = f; rank = n; size = m; depth = 0 })
same_node f r s n m e g = ap (λ (k : ℕ). record { label = f; rank = k; size = s; depth = 0 }) e ∙ ap (λ (k : ℕ). record { label = f; rank = n; size = k; depth = 0 }) g

sized_first : (items : List (ℕ × ℕ)) (i : ℕ) (xs starts : List ℕ) (back : List Node) (f r end n : ℕ) (ts : Trees ℕ) → 0 < i → i ≤ n → r ≤ count ts → sizes ts ≡ n - i → starts ≡ starts_of n ts → back ≡ sized_back ts → end ≡ get_or starts (length starts - r - 1) 0
    → (take (length starts - r) starts ++ (i - 1) ∷ [] ≡ starts_of n (tree f (first_trees r ts) (other_trees r ts)))
    × (back ++ record { label = f; rank = r; size = end - (i - 1); depth = 0 } ∷ [] ≡ sized_back (tree f (first_trees r ts) (other_trees r ts)))
sized_first items i xs starts back f r end n ts pos le fit all s b e =
    let m : length starts ≡ count ts + 1 = ap length s ∙ length-starts n ts in
    let p = sizes_parts r ts in
    let kept : take (length starts - r) starts ≡ starts_of n (other_trees r ts) = ap (take (length starts - r)) s ∙ take-starts n r ts (length starts - r) fit (omega arith) in
    let here : i - 1 ≡ n - suc (sizes (first_trees r ts) + sizes (other_trees r ts)) = omega (arith, p, all) in
    let last : end ≡ n - sizes (other_trees r ts) = e ∙ ap (λ (l : List ℕ). get_or l (length starts - r - 1) 0) s ∙ end_at n r ts (length starts) fit m in
    let size : end - (i - 1) ≡ suc (sizes (first_trees r ts)) = omega (arith, p, all, last) in (
      ap (λ (l : List ℕ). l ++ (i - 1) ∷ []) kept ∙ ap (λ (k : ℕ). starts_of n (other_trees r ts) ++ k ∷ []) here,
      ap (λ (l : List Node). l ++ record { label = f; rank = r; size = end - (i - 1); depth = 0 } ∷ []) b
          ∙ ap (λ (x : Node). sized_back ts ++ x ∷ []) (same_node f r (end - (i - 1)) (count (first_trees r ts)) (suc (sizes (first_trees r ts))) (sym (count-first r ts fit)) size)
          ∙ sym (sized_parts r f ts),
    )

left_over : (items : List (ℕ × ℕ)) (i : ℕ) → sizes (parse (drop i items)) ≡ length items - i
left_over items i = sizes-parse (drop i items) ∙ length-drop i items

-- one more node
pub sized_step : (items : List (ℕ × ℕ)) (i : ℕ) (d : ℕ × ℕ) (starts kept more : List ℕ) (back all : List Node) (end : ℕ) → 0 < i → i ≤ length items → HasChildren items → Sized items i starts back
    → kept ≡ take (length starts - (get_or items (i - 1) d).1) starts → end ≡ get_or starts (length starts - (get_or items (i - 1) d).1 - 1) 0
    → more ≡ kept ++ (i - 1) ∷ [] → all ≡ back ++ record { label = (get_or items (i - 1) d).0; rank = (get_or items (i - 1) d).1; size = end - (i - 1); depth = 0 } ∷ []
    → Sized items (i - 1) more all
sized_step items i d starts kept more back all end pos le nested so k e m a =
    let x : ℕ × ℕ = get_or items (i - 1) d in
    let ts : Trees ℕ = parse (drop i items) in
    let s = sized_first items i starts starts back x.0 x.1 end (length items) ts pos le (fits items i d pos le nested) (left_over items i) so.starts_are so.back_is e in
    let p : parse (drop (i - 1) items) ≡ tree x.0 (first_trees x.1 ts) (other_trees x.1 ts) = ap parse (suffix items i d pos le) in
    record {
      starts_are = m ∙ ap (λ (l : List ℕ). l ++ (i - 1) ∷ []) k ∙ s.0 ∙ ap (starts_of (length items)) (sym p);
      back_is = a ∙ s.1 ∙ ap sized_back (sym p);
    }

pub end_within : (items : List (ℕ × ℕ)) (i : ℕ) (d : ℕ × ℕ) (starts : List ℕ) (back : List Node) (end : ℕ) → 0 < i → i ≤ length items → HasChildren items → Sized items i starts back → end ≡ get_or starts (length starts - (get_or items (i - 1) d).1 - 1) 0 → (i - 1 ≤ end) × (end ≤ length items)
end_within items i d starts back end pos le nested so e =
    let x : ℕ × ℕ = get_or items (i - 1) d in
    let ts : Trees ℕ = parse (drop i items) in
    let fit = fits items i d pos le nested in
    let m : length starts ≡ count ts + 1 = ap length so.starts_are ∙ length-starts (length items) ts in
    let last : end ≡ length items - sizes (other_trees x.1 ts) = e ∙ ap (λ (l : List ℕ). get_or l (length starts - x.1 - 1) 0) so.starts_are ∙ end_at (length items) x.1 ts (length starts) fit m in
    let p = sizes_parts x.1 ts in
    let all = left_over items i in
    (omega (arith, last, p, all), omega (arith, last))

pub few_starts : (items : List (ℕ × ℕ)) (i : ℕ) (d : ℕ × ℕ) (starts : List ℕ) (back : List Node) → 0 < i → i ≤ length items → HasChildren items → Sized items i starts back → (get_or items (i - 1) d).1 < length starts
few_starts items i d starts back pos le nested so =
    let fit = fits items i d pos le nested in
    omega (arith, ap length so.starts_are, length-starts (length items) (parse (drop i items)), fit)
