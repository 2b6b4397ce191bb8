-- Trees with keys and costs: those at some places of a list, and the others.
use Rattle.std.specs.Prelude.{◌≡◌, ℕ, ◌+◌, ◌<◌, List, [], ◌∷◌, length, map, Bool, true, false, nat_eq, if◌then◌else◌, refl}
use Rattle.std.specs.List.{list_any}
use Rattle.std.proofs.Common.{zero, suc, arith, ap, sym, ◌∙◌, subst, inl, inr, get_or}
use Rattle.tib_lex.specs.Lists.{Has, Each, Distinct}
use Rattle.tib_tree.specs.Trees.{Trees, none, tree, count, join}
use Rattle.tib_transducer.specs.Run.{pick, tree_at}
use Rattle.tib_cost.specs.Semiring.{ProductLaws}
use Rattle.tib_transducer.proofs.Products.{swap_first}
use Rattle.tib_lex.proofs.Numbers.{nat_eq_cases}
use Rattle.tib_lex.proofs.Booleans.{bool_cases}

-- a key, a tree and a cost
pub record Item (K : Type 0) : Type 0 where
  pub key : K
  pub label : ℕ
  pub kids : Trees ℕ
  pub cost : ℕ

pub has_any : (i : ℕ) (vs : List ℕ) → Has vs i → list_any (nat_eq i) vs ≡ true
has_any i [] h = absurd h
has_any i (v ∷ vs) h = elim (nat_eq_cases i v) [
  | inl e ↦ rw e.1
  | inr e ↦ rw e.1 (elim h [ inl k ↦ absurd (e.0 (sym k)) | inr k ↦ has_any i vs k ])
]

pub any_has : (i : ℕ) (vs : List ℕ) → list_any (nat_eq i) vs ≡ true → Has vs i
any_has i [] e = absurd (cc)
any_has i (v ∷ vs) e = elim (nat_eq_cases i v) [
  | inl k ↦ inl (sym k.0)
  | inr k ↦ inr (any_has i vs (rw k.1 at e))
]

module _ {K : Type 0} where
  abbrev pub keys_of : List (Item K) → List K
  keys_of [] = []
  keys_of (x ∷ xs) = x.key ∷ keys_of xs

  abbrev pub trees_of : List (Item K) → Trees ℕ
  trees_of [] = none
  trees_of (x ∷ xs) = tree x.label x.kids (trees_of xs)

  abbrev pub product_of : (ℕ → ℕ → ℕ) → List (Item K) → ℕ
  product_of product [] = 0
  product_of product (x ∷ xs) = product x.cost (product_of product xs)

  -- those whose places, counted from i, are not among the named ones
  abbrev pub stays : List ℕ → ℕ → List (Item K) → List (Item K)
  stays named i [] = []
  stays named i (x ∷ xs) = if list_any (nat_eq i) named then stays named (suc i) xs else x ∷ stays named (suc i) xs

  abbrev pub others : List ℕ → ℕ → List K → List K
  others named i [] = []
  others named i (k ∷ ks) = if list_any (nat_eq i) named then others named (suc i) ks else k ∷ others named (suc i) ks

  pub keys_long : (xs : List (Item K)) → length (keys_of xs) ≡ length xs
  keys_long [] = refl
  keys_long (x ∷ xs) = ap suc (keys_long xs)

  pub trees_long : (xs : List (Item K)) → count (trees_of xs) ≡ length xs
  trees_long [] = refl
  trees_long (x ∷ xs) = ap suc (trees_long xs)

  pub stays-keys : (named : List ℕ) (i : ℕ) (xs : List (Item K)) → keys_of (stays named i xs) ≡ others named i (keys_of xs)
  stays-keys named i [] = refl
  stays-keys named i (x ∷ xs) = elim (bool_cases (list_any (nat_eq i) named)) [
    | inl e ↦ rw e (stays-keys named (suc i) xs)
    | inr e ↦ rw e (ap (λ z. x.key ∷ z) (stays-keys named (suc i) xs))
  ]

  pub stays-each : (P : Item K → Type 0) (named : List ℕ) (i : ℕ) (xs : List (Item K)) → Each P xs → Each P (stays named i xs)
  stays-each P named i [] a = tt
  stays-each P named i (x ∷ xs) a = elim (bool_cases (list_any (nat_eq i) named)) [
    | inl k ↦ rw k (stays-each P named (suc i) xs a.1)
    | inr k ↦ rw k (a.0, stays-each P named (suc i) xs a.1)
  ]

  -- where all places are named, nothing stays
  pub all_named : (named : List ℕ) (i : ℕ) (ks : List K) → ((j : ℕ) → j < length ks → Has named (i + j)) → others named i ks ≡ []
  all_named named i [] h = refl
  all_named named i (k ∷ ks) h =
      let z : i + 0 ≡ i = omega arith in
      let e : list_any (nat_eq i) named ≡ true = has_any i named (subst (Has named) z (h 0 (omega arith))) in
      rw e (all_named named (suc i) ks (λ j b. subst (Has named) (omega arith) (h (suc j) (omega arith))))

module _ {K : Type 0} (d : K) where
  abbrev pub no_item : Item K
  no_item = record { key = d; label = 0; kids = none; cost = 0 }

  abbrev pub selected : List (Item K) → List ℕ → List (Item K)
  selected xs [] = []
  selected xs (i ∷ is) = get_or xs i no_item ∷ selected xs is

  -- the item of a number
  abbrev pub item_of : ℕ → List ℕ → List (Item K) → Item K
  item_of i [] xs = no_item
  item_of i (v ∷ vs) [] = no_item
  item_of i (v ∷ vs) (x ∷ xs) = if nat_eq i v then x else item_of i vs xs

  abbrev first_of_items : List (Item K) → Item K
  first_of_items [] = no_item
  first_of_items (x ∷ xs) = x

  abbrev rest_of_items : List (Item K) → List (Item K)
  rest_of_items [] = []
  rest_of_items (x ∷ xs) = xs

  -- items for all places, from those for the named ones and those for the others
  abbrev pub built : List ℕ → List (Item K) → ℕ → List K → List (Item K) → List (Item K)
  built named xs i [] ys = []
  built named xs i (k ∷ ks) ys =
      if list_any (nat_eq i) named then item_of i named xs ∷ built named xs (suc i) ks ys else first_of_items ys ∷ built named xs (suc i) ks (rest_of_items ys)

  pub selected-keys : (xs : List (Item K)) (is : List ℕ) → keys_of (selected xs is) ≡ map (λ i. get_or (keys_of xs) i d) is
  selected-keys xs [] = refl
  selected-keys xs (i ∷ is) = cc (at xs i, selected-keys xs is)
    where
      at : (ys : List (Item K)) (j : ℕ) → (get_or ys j no_item).key ≡ get_or (keys_of ys) j d
      at [] j = refl
      at (y ∷ ys) zero = refl
      at (y ∷ ys) (suc j) = at ys j

  pub selected-trees : (xs : List (Item K)) (is : List ℕ) → Each (λ i. i < length xs) is → trees_of (selected xs is) ≡ pick (trees_of xs) is
  selected-trees xs [] e = refl
  selected-trees xs (i ∷ is) e = at xs i (trees_of (selected xs is)) e.0 ∙ ap (join (tree_at (trees_of xs) i)) (selected-trees xs is e.1)
    where
      at : (ys : List (Item K)) (j : ℕ) (more : Trees ℕ) → j < length ys → tree (get_or ys j no_item).label (get_or ys j no_item).kids more ≡ join (tree_at (trees_of ys) j) more
      at [] j more h = absurd (omega arith)
      at (y ∷ ys) zero more h = refl
      at (y ∷ ys) (suc j) more h = at ys j more (omega arith)

  each_at : (P : Item K → Type 0) (xs : List (Item K)) (i : ℕ) → Each P xs → i < length xs → P (get_or xs i no_item)
  each_at P [] i a h = absurd (omega arith)
  each_at P (x ∷ xs) zero a h = a.0
  each_at P (x ∷ xs) (suc i) a h = each_at P xs i a.1 (omega arith)

  pub selected-each : (P : Item K → Type 0) (xs : List (Item K)) (is : List ℕ) → Each P xs → Each (λ i. i < length xs) is → Each P (selected xs is)
  selected-each P xs [] a e = tt
  selected-each P xs (i ∷ is) a e = (each_at P xs i a e.0, selected-each P xs is a e.1)

  -- built items

  pub built-length : (named : List ℕ) (xs : List (Item K)) (i : ℕ) (ks : List K) (ys : List (Item K)) → length (built named xs i ks ys) ≡ length ks
  built-length named xs i [] ys = refl
  built-length named xs i (k ∷ ks) ys = elim (bool_cases (list_any (nat_eq i) named)) [
    | inl e ↦ rw e (ap suc (built-length named xs (suc i) ks ys))
    | inr e ↦ rw e (ap suc (built-length named xs (suc i) ks (rest_of_items ys)))
  ]

  pub built-stays : (named : List ℕ) (xs : List (Item K)) (i : ℕ) (ks : List K) (ys : List (Item K)) → keys_of ys ≡ others named i ks → stays named i (built named xs i ks ys) ≡ ys
  built-stays named xs i [] [] e = refl
  built-stays named xs i [] (y ∷ ys) e = absurd (cc)
  built-stays named xs i (k ∷ ks) ys e = elim (bool_cases (list_any (nat_eq i) named)) [
    | inl b ↦ let e' = rw b at e in rw (b, b) (built-stays named xs (suc i) ks ys e')
    | inr b ↦ let e' = rw b at e in rw (b, b) (out (λ zs. built-stays named xs (suc i) ks zs) ys e')
  ]
    where
      out :
          ((zs : List (Item K)) → keys_of zs ≡ others named (suc i) ks → stays named (suc i) (built named xs (suc i) ks zs) ≡ zs) →
          (zs : List (Item K)) → keys_of zs ≡ k ∷ others named (suc i) ks → first_of_items zs ∷ stays named (suc i) (built named xs (suc i) ks (rest_of_items zs)) ≡ zs
      out again [] c = absurd (cc)
      out again (z ∷ zs) c = ap (λ x. z ∷ x) (again zs (cc))

  built-at : (named : List ℕ) (xs : List (Item K)) (i : ℕ) (ks : List K) (ys : List (Item K)) (j : ℕ) → j < length ks → Has named (i + j) → get_or (built named xs i ks ys) j no_item ≡ item_of (i + j) named xs
  built-at named xs i [] ys j h m = absurd (omega arith)
  built-at named xs i (k ∷ ks) ys zero h m =
      let z : i + 0 ≡ i = omega arith in
      let b : list_any (nat_eq i) named ≡ true = has_any i named (subst (Has named) z m) in
      rw b (ap (λ n. item_of n named xs) (sym z))
  built-at named xs i (k ∷ ks) ys (suc j) h m =
      let z : i + suc j ≡ suc i + j = omega arith in
      elim (bool_cases (list_any (nat_eq i) named)) [
        | inl b ↦ rw b (built-at named xs (suc i) ks ys j (omega arith) (subst (Has named) z m) ∙ ap (λ n. item_of n named xs) (sym z))
        | inr b ↦ rw b (built-at named xs (suc i) ks (rest_of_items ys) j (omega arith) (subst (Has named) z m) ∙ ap (λ n. item_of n named xs) (sym z))
      ]

  item_of-key : (ks : List K) (named : List ℕ) (xs : List (Item K)) (i : ℕ) → Has named i → keys_of xs ≡ map (λ v. get_or ks v d) named → (item_of i named xs).key ≡ get_or ks i d
  item_of-key ks [] xs i h e = absurd h
  item_of-key ks (v ∷ vs) [] i h e = absurd (cc)
  item_of-key ks (v ∷ vs) (x ∷ xs) i h e = elim (nat_eq_cases i v) [
    | inl k ↦ rw k.1 (let c : x.key ≡ get_or ks v d = cc in c ∙ ap (λ n. get_or ks n d) (sym k.0))
    | inr k ↦ rw k.1 (item_of-key ks vs xs i (elim h [ inl c ↦ absurd (k.0 (sym c)) | inr c ↦ c ]) (cc))
  ]

  pub built-keys :
      (all : List K) (named : List ℕ) (xs : List (Item K)) (i : ℕ) (ks : List K) (ys : List (Item K)) → ((j : ℕ) → get_or all (i + j) d ≡ get_or ks j d) →
      keys_of xs ≡ map (λ v. get_or all v d) named → keys_of ys ≡ others named i ks → keys_of (built named xs i ks ys) ≡ ks
  built-keys all named xs i [] ys tail e c = refl
  built-keys all named xs i (k ∷ ks) ys tail e c = elim (bool_cases (list_any (nat_eq i) named)) [
    | inl b ↦
        let c' = rw b at c in
        let z : i + 0 ≡ i = omega arith in
        let one : (item_of i named xs).key ≡ k = item_of-key all named xs i (any_has i named b) e ∙ ap (λ n. get_or all n d) (sym z) ∙ tail 0 in
        rw b (cc (one, built-keys all named xs (suc i) ks ys shift e c'))
    | inr b ↦ let c' = rw b at c in rw b (out (λ zs. built-keys all named xs (suc i) ks zs shift e) ys c')
  ]
    where
      shift : (j : ℕ) → get_or all (suc i + j) d ≡ get_or ks j d
      shift j = let z : i + suc j ≡ suc i + j = omega arith in ap (λ n. get_or all n d) (sym z) ∙ tail (suc j)

      out :
          ((zs : List (Item K)) → keys_of zs ≡ others named (suc i) ks → keys_of (built named xs (suc i) ks zs) ≡ ks) →
          (zs : List (Item K)) → keys_of zs ≡ k ∷ others named (suc i) ks → (first_of_items zs).key ∷ keys_of (built named xs (suc i) ks (rest_of_items zs)) ≡ k ∷ ks
      out again [] c = absurd (cc)
      out again (z ∷ zs) c =
          let first : z.key ≡ k = cc in
          let others : keys_of zs ≡ others named (suc i) ks = cc in
          cc (first, again zs others)

  item_of-along : (named : List ℕ) (xs zs : List (Item K)) → Distinct named → length xs ≡ length named → ((v : ℕ) → Has named v → get_or zs v no_item ≡ item_of v named xs) → selected zs named ≡ xs
  item_of-along [] [] zs c e at = refl
  item_of-along [] (x ∷ xs) zs c e at = absurd (omega arith)
  item_of-along (v ∷ vs) [] zs c e at = absurd (omega arith)
  item_of-along (v ∷ vs) (x ∷ xs) zs c e at =
      let first : get_or zs v no_item ≡ x = at v (inl refl) ∙ here v in
      cc (first, item_of-along vs xs zs c.1 (omega arith) (λ w m. at w (inr m) ∙ there w m))
    where
      here : (v : ℕ) → (if nat_eq v v then x else item_of v vs xs) ≡ x
      here v = elim (nat_eq_cases v v) [ inl k ↦ rw k.1 | inr k ↦ absurd (k.0 refl) ]

      there : (w : ℕ) → Has vs w → (if nat_eq w v then x else item_of w vs xs) ≡ item_of w vs xs
      there w m = elim (nat_eq_cases w v) [ inl k ↦ absurd (c.0 (subst (Has vs) k.0 m)) | inr k ↦ rw k.1 ]

  item_of-is : (P : Item K → Type 0) (i : ℕ) (named : List ℕ) (xs : List (Item K)) → Has named i → length xs ≡ length named → Each P xs → P (item_of i named xs)
  item_of-is P i [] xs h e a = absurd h
  item_of-is P i (v ∷ vs) [] h e a = absurd (omega arith)
  item_of-is P i (v ∷ vs) (x ∷ xs) h e a = elim (nat_eq_cases i v) [
    | inl k ↦ rw k.1 a.0
    | inr k ↦ rw k.1 (item_of-is P i vs xs (elim h [ inl c ↦ absurd (k.0 (sym c)) | inr c ↦ c ]) (omega arith) a.1)
  ]

  pub built-each :
      (P : Item K → Type 0) (named : List ℕ) (xs : List (Item K)) (i : ℕ) (ks : List K) (ys : List (Item K)) → length xs ≡ length named → Each P xs → Each P ys →
      keys_of ys ≡ others named i ks → Each P (built named xs i ks ys)
  built-each P named xs i [] ys l a b c = tt
  built-each P named xs i (k ∷ ks) ys l a b c = elim (bool_cases (list_any (nat_eq i) named)) [
    | inl e ↦ let c' = rw e at c in rw e (item_of-is P i named xs (any_has i named e) l a, built-each P named xs (suc i) ks ys l a b c')
    | inr e ↦ let c' = rw e at c in rw e (out (λ zs. built-each P named xs (suc i) ks zs l a) ys b c')
  ]
    where
      out :
          ((zs : List (Item K)) → Each P zs → keys_of zs ≡ others named (suc i) ks → Each P (built named xs (suc i) ks zs)) →
          (zs : List (Item K)) → Each P zs → keys_of zs ≡ k ∷ others named (suc i) ks → Each P (first_of_items zs ∷ built named xs (suc i) ks (rest_of_items zs))
      out again [] m c = absurd (cc)
      out again (z ∷ zs) m c = (m.0, again zs m.1 (cc))

  -- costs of items

  module _ {levelled weighted : Bool} {product : ℕ → ℕ → ℕ} (laws : ProductLaws levelled weighted product) where
    -- one more is named
    one_named :
        (named : List ℕ) (v : ℕ) → (Has named v → ⊥) → (i j : ℕ) (xs : List (Item K)) → v ≡ i + j → j < length xs →
        product_of product (stays named i xs) ≡ product (get_or xs j no_item).cost (product_of product (stays (v ∷ named) i xs))
    one_named named v absent i j [] e h = absurd (omega arith)
    one_named named v absent i zero (x ∷ xs) e h =
        let z : i ≡ v = omega arith in
        let same : nat_eq i v ≡ true = elim (nat_eq_cases i v) [ inl k ↦ k.1 | inr k ↦ absurd (k.0 z) ] in
        let not_named : list_any (nat_eq i) named ≡ false = elim (bool_cases (list_any (nat_eq i) named)) [ inl k ↦ absurd (absent (subst (Has named) z (any_has i named k))) | inr k ↦ k ] in
        rw (not_named, same) (ap (product x.cost) (later (suc i) xs (omega arith)))
      where
        later : (m : ℕ) (ys : List (Item K)) → v < m → product_of product (stays named m ys) ≡ product_of product (stays (v ∷ named) m ys)
        later m [] lt = refl
        later m (y ∷ ys) lt =
            let other : nat_eq m v ≡ false = elim (nat_eq_cases m v) [ inl k ↦ absurd (omega (arith, k.0)) | inr k ↦ k.1 ] in
            rw other (elim (bool_cases (list_any (nat_eq m) named)) [
              | inl k ↦ rw k (later (suc m) ys (omega arith))
              | inr k ↦ rw k (ap (product y.cost) (later (suc m) ys (omega arith)))
            ])
    one_named named v absent i (suc j) (x ∷ xs) e h =
        let other : nat_eq i v ≡ false = elim (nat_eq_cases i v) [ inl k ↦ absurd (omega (arith, k.0)) | inr k ↦ k.1 ] in
        let again : product_of product (stays named (suc i) xs) ≡ product (get_or xs j no_item).cost (product_of product (stays (v ∷ named) (suc i) xs)) =
        one_named named v absent (suc i) j xs (omega arith) (omega arith)
        in
        rw other (elim (bool_cases (list_any (nat_eq i) named)) [
          | inl k ↦ rw k again
          | inr k ↦ rw k (ap (product x.cost) again ∙ swap_first laws x.cost (get_or xs j no_item).cost (product_of product (stays (v ∷ named) (suc i) xs)))
        ])

    all_stay : (i : ℕ) (xs : List (Item K)) → stays [] i xs ≡ xs
    all_stay i [] = refl
    all_stay i (x ∷ xs) = ap (λ z. x ∷ z) (all_stay (suc i) xs)

    -- the product of all is that of the named ones and that of the others
    pub parted :
        (named : List ℕ) (xs : List (Item K)) → Distinct named → Each (λ i. i < length xs) named →
        product_of product xs ≡ product (product_of product (selected xs named)) (product_of product (stays named 0 xs))
    parted [] xs c e = ap (product_of product) (sym (all_stay 0 xs)) ∙ sym (laws.neutral (product_of product (stays [] 0 xs)))
    parted (v ∷ named) xs c e =
        parted named xs c.1 e.1
        ∙ ap (product (product_of product (selected xs named))) (one_named named v c.0 0 v xs (omega arith) e.0)
        ∙ swap_first laws (product_of product (selected xs named)) (get_or xs v no_item).cost (product_of product (stays (v ∷ named) 0 xs))
        ∙ sym (laws.regroups (get_or xs v no_item).cost (product_of product (selected xs named)) (product_of product (stays (v ∷ named) 0 xs)))

    -- items for all places, in their order, of which the named ones and the others are as given
    pub record Assembled (P : Item K → Type 0) (named : List ℕ) (ks : List K) (xs ys : List (Item K)) : Type 0 where
      pub items : List (Item K)
      pub each : Each P items
      pub keys : keys_of items ≡ ks
      pub picked : pick (trees_of items) named ≡ trees_of xs
      pub costs : product_of product items ≡ product (product_of product xs) (product_of product ys)

    pub assemble :
        (P : Item K → Type 0) (named : List ℕ) (ks : List K) (xs ys : List (Item K)) → Distinct named → Each (λ i. i < length ks) named → Each P xs → Each P ys →
        keys_of xs ≡ map (λ i. get_or ks i d) named → keys_of ys ≡ others named 0 ks → Assembled P named ks xs ys
    assemble P named ks xs ys c e a b kx ky =
        let z : List (Item K) = built named xs 0 ks ys in
        let long : length z ≡ length ks = built-length named xs 0 ks ys in
        let e' : Each (λ i. i < length z) named = each_to long named e in
        let named_long : length xs ≡ length named = sym (keys_long xs) ∙ ap length kx ∙ map_long named in
        let sel : selected z named ≡ xs = item_of-along named xs z c named_long (λ v m. let s : 0 + v ≡ v = omega arith in built-at named xs 0 ks ys v (below named v e m) (subst (Has named) (sym s) m) ∙ ap (λ n. item_of n named xs) s) in
        let left : stays named 0 z ≡ ys = built-stays named xs 0 ks ys ky in
        record {
          items = z;
          each = built-each P named xs 0 ks ys named_long a b ky;
          keys = built-keys ks named xs 0 ks ys (λ j. ap (λ n. get_or ks n d) (omega arith)) kx ky;
          picked = sym (selected-trees z named e') ∙ ap trees_of sel;
          costs = parted named z c e' ∙ ap (λ s. product (product_of product s) (product_of product (stays named 0 z))) sel ∙ ap (λ s. product (product_of product xs) (product_of product s)) left;
        }
      where
        map_long : (is : List ℕ) → length (map (λ i. get_or ks i d) is) ≡ length is
        map_long [] = refl
        map_long (i ∷ is) = ap suc (map_long is)

        each_to : {n m : ℕ} → n ≡ m → (is : List ℕ) → Each (λ i. i < m) is → Each (λ i. i < n) is
        each_to e [] f = tt
        each_to e (i ∷ is) f = (omega (arith, f.0), each_to e is f.1)

        below : (is : List ℕ) (v : ℕ) → Each (λ i. i < length ks) is → Has is v → v < length ks
        below [] v f m = absurd m
        below (i ∷ is) v f m = elim m [ inl q ↦ omega (arith, f.0) | inr k ↦ below is v f.1 k ]

-- trees that agree at all places are the same
pub picked_same :
    (vars : List ℕ) (ts us : Trees ℕ) → count ts ≡ count us → Each (λ i. i < count ts) vars → ((i : ℕ) → i < count ts → Has vars i) → pick ts vars ≡ pick us vars → ts ≡ us
picked_same vars ts us c e h p = same_trees ts us c (λ i b. at vars i ts us e p (λ j k. omega (arith, k, c)) (h i b))
  where
    one_long : (ts : Trees ℕ) (i : ℕ) → i < count ts → count (tree_at ts i) ≡ 1
    one_long none i b = absurd (omega arith)
    one_long (tree f kids rest) zero b = refl
    one_long (tree f kids rest) (suc i) b = one_long rest i (omega arith)

    parts : (a b x y : Trees ℕ) → count a ≡ 1 → count b ≡ 1 → join a x ≡ join b y → (a ≡ b) × (x ≡ y)
    parts none b x y ca cb q = absurd (omega arith)
    parts (tree f kids none) none x y ca cb q = absurd (omega arith)
    parts (tree f kids none) (tree g ks none) x y ca cb q = (cc, cc)
    parts (tree f kids none) (tree g ks (tree g' ks' more)) x y ca cb q = absurd (omega arith)
    parts (tree f kids (tree f' kids' more)) b x y ca cb q = absurd (omega arith)

    at : (vs : List ℕ) (i : ℕ) (ts us : Trees ℕ) → Each (λ i. i < count ts) vs → pick ts vs ≡ pick us vs → ((j : ℕ) → j < count ts → j < count us) → Has vs i → tree_at ts i ≡ tree_at us i
    at [] i ts us e p to m = absurd m
    at (v ∷ vs) i ts us e p to m =
        let q = parts (tree_at ts v) (tree_at us v) (pick ts vs) (pick us vs) (one_long ts v e.0) (one_long us v (to v e.0)) p in
        elim m [
          | inl k ↦ subst (λ n. tree_at ts n ≡ tree_at us n) k q.0
          | inr k ↦ at vs i ts us e.1 q.1 to k
        ]

    same_trees : (ts us : Trees ℕ) → count ts ≡ count us → ((i : ℕ) → i < count ts → tree_at ts i ≡ tree_at us i) → ts ≡ us
    same_trees none none c h = refl
    same_trees none (tree g ks more) c h = absurd (omega arith)
    same_trees (tree f kids rest) none c h = absurd (omega arith)
    same_trees (tree f kids rest) (tree g ks more) c h =
        let first : tree f kids none ≡ tree g ks none = h 0 (omega arith) in
        let others : rest ≡ more = same_trees rest more (omega arith) (λ i b. h (suc i) (omega arith)) in
        cc (first, others)
