-- The keys of shelves get positions, and so do the ends of rows.
use Rattle.std.proofs.Common.{◌≡◌, ◌⊎◌, inl, inr, ℕ, ◌+◌, ◌<◌, ◌≤◌, Bool, true, List, [], ◌∷◌, ◌++◌, min, length, length-append, map, take, get_or, append_assoc, append-nil, refl, sym, ap, subst, ◌∙◌, arith}
use Rattle.std.proofs.lemmas.List.{take_more}
use Rattle.indexmap.specs.IndexSet.{insert_key, insert_all}
use Rattle.tib_lex.specs.Lists.{Has, Along, total}
use Rattle.tib_table.specs.Numbered.{Name, HaveMore}
use Rattle.tib_expand.specs.Limits.{IfTooMany}
use Rattle.tib_table.specs.Numbered.{all_on}
use Rattle.tib_expand.specs.declared.error.HuntError.{HuntError}
use Rattle.tib_expand.proofs.Limits.{IfTooMany-weaker}
use Rattle.tib_table.proofs.Inserted.{inserted}
use Rattle.tib_table.proofs.Sights.{along_snoc, get_left}
use Rattle.tib_lex.proofs.Members.{has_either, has_left, has_right}

-- the keys of two lists of shelves
pub all_both : {K : Type 0} (xss yss : List (List K)) → all_on (xss ++ yss) ≡ all_on xss ++ all_on yss
all_both [] yss = refl
all_both (xs ∷ xss) yss = ap (λ (l : List _). xs ++ l) (all_both xss yss) ∙ sym (append_assoc xs (all_on xss) (all_on yss))

-- a map over two lists
pub map_append : {A B : Type 0} (f : A → B) (xs ys : List A) → map f (xs ++ ys) ≡ map f xs ++ map f ys
map_append f [] ys = refl
map_append f (x ∷ xs) ys = ap (λ (l : List _). f x ∷ l) (map_append f xs ys)

-- one more shelf brings its keys
pub keys_more : {K V : Type 0} (keys_in : V → List K) (shelves : List V) (i : ℕ) (v : V) → i < length shelves → v ≡ get_or shelves i v
    → length (all_on (map keys_in (take (i + 1) shelves))) ≡ length (all_on (map keys_in (take i shelves))) + length (keys_in v)
keys_more keys_in shelves i v low is =
    let e = ap (λ l. all_on (map keys_in l)) (take_more shelves i v low ∙ ap (λ x. take i shelves ++ x ∷ []) (sym is)) ∙ ap all_on (map_append keys_in (take i shelves) (v ∷ [])) ∙ all_both (map keys_in (take i shelves)) (keys_in v ∷ []) in
    let a = ap length e ∙ length-append (all_on (map keys_in (take i shelves))) (keys_in v ++ []) in
    let b = ap length (append-nil (keys_in v)) in
    omega arith

-- a sum that stops at the greatest number
pub capped : (a b count sum most : ℕ) → count ≡ min a most → sum ≡ min (count + b) most → sum ≡ min (a + b) most
capped a b count sum most is e = omega arith

module _ {K : Type 0} (eq : K → K → Bool) (same : (x y : K) → eq x y ≡ true → x ≡ y) (self : (x : K) → eq x x ≡ true) where
  insert_both : (old xs ys : List K) → insert_all eq old (xs ++ ys) ≡ insert_all eq (insert_all eq old xs) ys
  insert_both old [] ys = refl
  insert_both old (x ∷ xs) ys = insert_both (insert_key eq old x) xs ys

  name_left : (keys new ends : List K) (ns : List ℕ) → Name keys ends ns → Name (keys ++ new) ends ns
  name_left keys new [] [] a = tt
  name_left keys new [] (n ∷ ns) a = absurd a
  name_left keys new (x ∷ xs) [] a = absurd a
  name_left keys new (x ∷ xs) (n ∷ ns) a = (get_left eq keys new n x a.0, name_left keys new xs ns a.1)

  names_left : (keys new : List K) (kss : List (List K)) (nss : List (List ℕ)) → Along (Name keys) kss nss → Along (Name (keys ++ new)) kss nss
  names_left keys new [] [] a = tt
  names_left keys new [] (ns ∷ nss) a = absurd a
  names_left keys new (ks ∷ kss) [] a = absurd a
  names_left keys new (ks ∷ kss) (ns ∷ nss) a = (name_left keys new ks ns a.0, names_left keys new kss nss a.1)

  -- what holds once the keys of these shelves are numbered
  pub record PlacedSoFar (f : K → ℕ) (old : List K) (all done rest : List (List K)) (was limit : ℕ) (keys : List K) (positions : List (List ℕ)) (parts : ℕ) : Type 0 where
    pub whole : all ≡ done ++ rest
    pub keys_are : keys ≡ insert_all eq old (all_on done)
    pub named : Along (Name keys) done positions
    pub counted : parts + total f old ≡ was + total f keys
    pub within : parts ≤ limit

  module _ (f : K → ℕ) (old : List K) (all done rest : List (List K)) (was limit : ℕ) (keys : List K) (positions : List (List ℕ)) (parts : ℕ) (c : PlacedSoFar f old all done rest was limit keys positions parts) (ks : List K) (rest' : List (List K)) (next : rest ≡ ks ∷ rest') where
    whole_still : all ≡ (done ++ ks ∷ []) ++ rest'
    whole_still = c.whole ∙ ap (λ (l : List (List K)). done ++ l) next ∙ sym (append_assoc done (ks ∷ []) rest')

    last_on : all_on (done ++ ks ∷ []) ≡ all_on done ++ ks
    last_on = all_both done (ks ∷ []) ∙ ap (λ (l : List K). all_on done ++ l) (append-nil ks)

    inserted_on : (xs : List K) → insert_all eq old (all_on done ++ xs) ≡ insert_all eq keys xs
    inserted_on xs = insert_both old (all_on done) xs ∙ ap (λ (l : List K). insert_all eq l xs) (sym c.keys_are)

    -- what holds after one more shelf
    pub placed : (keys' : List K) (ns : List ℕ) (parts' : ℕ) → keys' ≡ insert_all eq keys ks → Name keys' ks ns → parts' + total f keys ≡ parts + total f keys' → parts' ≤ limit → PlacedSoFar f old all (done ++ ks ∷ []) rest' was limit keys' (positions ++ ns ∷ []) parts'
    placed keys' ns parts' is named counted within =
        let i = inserted eq same self ks keys in
        record {
          whole = whole_still;
          keys_are = is ∙ sym (ap (insert_all eq old) last_on ∙ inserted_on ks);
          named = along_snoc (Name keys') done positions ks ns (subst (λ (l : List K). Along (Name l) done positions) (sym (is ∙ i.keys_are)) (names_left keys i.new done positions c.named)) named;
          counted = let e = c.counted in omega arith;
          within = within;
        }

    -- where the keys of a shelf are too many, so are those of all
    pub too_many : HaveMore eq f keys ks parts limit → HaveMore eq f old (all_on all) was limit
    too_many (some, among, more) = (all_on done ++ some, (λ k h. subst (λ (l : List K). Has l k) (sym (ap all_on whole_still ∙ all_both (done ++ ks ∷ []) rest')) (has_left (all_on (done ++ ks ∷ [])) (all_on rest') k (subst (λ (l : List K). Has l k) (sym last_on) (go k (has_either (all_on done) some k h))))), (let e = c.counted in let q = ap (total f) (inserted_on some) in omega arith))
      where
        go : (k : K) → Has (all_on done) k ⊎ Has some k → Has (all_on done ++ ks) k
        go k (inl a) = has_left (all_on done) ks k a
        go k (inr b) = has_right (all_on done) ks k (among k b)

    -- the same for the error
    pub told : (e : HuntError) → IfTooMany limit (HaveMore eq f keys ks parts limit) e → IfTooMany limit (HaveMore eq f old (all_on all) was limit) e
    told e = IfTooMany-weaker limit _ _ e too_many

-- the same where the shelves and the positions are values of other types
module _ {K V W : Type 0} (eq : K → K → Bool) (same : (x y : K) → eq x y ≡ true → x ≡ y) (self : (x : K) → eq x x ≡ true) (keys_in : V → List K) (numbers_in : W → List ℕ)
    (f : K → ℕ) (old : List K) (all done rest : List V) (was limit : ℕ) (keys : List K) (positions : List W) (parts : ℕ)
    (c : PlacedSoFar eq same self f old (map keys_in all) (map keys_in done) (map keys_in rest) was limit keys (map numbers_in positions) parts) (v : V) (rest' : List V) (next : rest ≡ v ∷ rest') where
  -- the same for the error, where a function reads the shelves
  pub shelf_told : (e : HuntError) → IfTooMany limit (HaveMore eq f keys (keys_in v) parts limit) e → IfTooMany limit (HaveMore eq f old (all_on (map keys_in all)) was limit) e
  shelf_told = told eq same self f old (map keys_in all) (map keys_in done) (map keys_in rest) was limit keys (map numbers_in positions) parts c (keys_in v) (map keys_in rest') (ap (map keys_in) next)

  -- what holds after one more shelf, where shelves are read by a function
  pub shelf_placed : (keys' : List K) (w : W) (positions' : List W) (parts' : ℕ) → positions' ≡ positions ++ w ∷ [] → keys' ≡ insert_all eq keys (keys_in v) → Name keys' (keys_in v) (numbers_in w) → parts' + total f keys ≡ parts + total f keys' → parts' ≤ limit
      → PlacedSoFar eq same self f old (map keys_in all) (map keys_in (done ++ v ∷ [])) (map keys_in rest') was limit keys' (map numbers_in positions') parts'
  shelf_placed keys' w positions' parts' put is named counted within =
      let r = placed eq same self f old (map keys_in all) (map keys_in done) (map keys_in rest) was limit keys (map numbers_in positions) parts c (keys_in v) (map keys_in rest') (ap (map keys_in) next) keys' (numbers_in w) parts' is named counted within in
      subst (λ (l : List (List K)). PlacedSoFar eq same self f old (map keys_in all) l (map keys_in rest') was limit keys' (map numbers_in positions') parts') (sym (map_append keys_in done (v ∷ [])))
      (subst (λ (l : List (List ℕ)). PlacedSoFar eq same self f old (map keys_in all) (map keys_in done ++ keys_in v ∷ []) (map keys_in rest') was limit keys' l parts') (sym (ap (map numbers_in) put ∙ map_append numbers_in positions (w ∷ []))) r)

-- the next element goes from the rest to those that are done
pub rest_next : {A : Type 0} (xs ys : List A) (y : A) (ys' : List A) (all : List A) → all ≡ xs ++ ys → ys ≡ y ∷ ys' → all ≡ (xs ++ y ∷ []) ++ ys'
rest_next xs ys y ys' all is next = is ∙ ap (λ (l : List _). xs ++ l) next ∙ sym (append_assoc xs (y ∷ []) ys')
