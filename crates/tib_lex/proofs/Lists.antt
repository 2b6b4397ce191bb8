-- Laws of lists: their parts, their appending, their mapping, and what holds of each member.
use Rattle.std.specs.Prelude.{◌≡◌, ◌<◌, ◌+◌, ℕ, Bool, not, cond, List, [], ◌∷◌, ◌++◌, length, map, Some, None, nat_lt, refl, take, drop}
use Rattle.std.specs.Global.{Vec}
use Rattle.std.specs.List.{prefix_len}
use Rattle.std.proofs.Common.{suc, arith, ap, sym, ◌∙◌, get_or, position, inl, inr, length-append}
use Rattle.std.proofs.lemmas.List.{length-map, take_at}
use Rattle.tib_lex.specs.Lists.{Has, Each, Ascends, total}

-- equal lists have the same first member, and the same members after it
pub head_is : {A : Type 0} {x y : A} {xs ys : List A} → x ∷ xs ≡ y ∷ ys → x ≡ y
head_is e = cc

pub tail_is : {A : Type 0} {x y : A} {xs ys : List A} → x ∷ xs ≡ y ∷ ys → xs ≡ ys
tail_is e = cc

-- values are the same where `Some` of them is
pub some_same : {A : Type 0} (x y : A) → Some x ≡ Some y → x ≡ y
some_same x y e = cc

-- the same where the equation names the values
pub some_is : {A : Type 0} {x y : A} → Some x ≡ Some y → x ≡ y
some_is e = cc

-- a list with nothing after it is the list
pub append_nil : {A : Type 0} (xs : List A) → xs ++ [] ≡ xs
append_nil [] = refl
append_nil (x ∷ xs) = ap (λ y. x ∷ y) (append_nil xs)

-- what holds of each member of two lists holds of each of both in one
pub each_append : {A : Type 0} (P : A → Type 0) (xs ys : List A) → Each P xs → Each P ys → Each P (xs ++ ys)
each_append P [] ys a b = b
each_append P (x ∷ xs) ys a b = (a.0, each_append P xs ys a.1 b)

-- what holds of each member by P holds by Q, where Q follows from P
pub each_weaker : {A : Type 0} (P Q : A → Type 0) (xs : List A) → ((x : A) → P x → Q x) → Each P xs → Each Q xs
each_weaker P Q [] h e = tt
each_weaker P Q (x ∷ xs) h e = (h x e.0, each_weaker P Q xs h e.1)

-- what holds at each place holds of each member
pub Each-from : {A : Type 0} (P : A → Type 0) (xs : List A) (d : A) → ((n : ℕ) → n < length xs → P (get_or xs n d)) → Each P xs
Each-from P [] d h = tt
Each-from P (x ∷ xs) d h = (h 0 (omega arith), Each-from P xs d (λ n b. h (suc n) (omega arith)))

-- a list ascends where R holds of each two places in their order
pub Ascends-from :
    {A : Type 0} (R : A → A → Type 0) (xs : List A) (d : A) →
    ((m n : ℕ) → m < n → n < length xs → R (get_or xs m d) (get_or xs n d)) → Ascends R xs
Ascends-from R [] d h = tt
Ascends-from R (x ∷ xs) d h = (
  Each-from (R x) xs d (λ n b. h 0 (suc n) (omega arith) (omega arith)),
  Ascends-from R xs d (λ m n b c. h (suc m) (suc n) (omega arith) (omega arith)),
)

-- a member of a mapped list comes from a member of the list
pub has_mapped : {A B : Type 0} (f : A → B) (xs : List A) (y : B) → Has (map f xs) y → (x : A) × Has xs x × (f x ≡ y)
has_mapped f [] y h = absurd h
has_mapped f (x ∷ xs) y h = elim h [ inl e ↦ (x, inl refl, e) | inr k ↦ let r = has_mapped f xs y k in (r.0, inr r.1, r.2) ]

-- a test of the texts of some keys finds the place that the same test finds among the texts
pub prefix_len-map : (p : List ℕ → Bool) (keys : List (Vec ℕ)) → prefix_len (λ k. p k.items) keys ≡ prefix_len p (map (λ k. k.items) keys)
prefix_len-map p [] = refl
prefix_len-map p (k ∷ ks) = ap (λ n. cond (p k.items) (1 + n) 0) (prefix_len-map p ks)

pub position-map : (p : List ℕ → Bool) (keys : List (Vec ℕ)) → position (λ k. p k.items) keys ≡ position p (map (λ k. k.items) keys)
position-map p keys =
    let e : prefix_len (λ k. not (p k.items)) keys ≡ prefix_len (λ t. not (p t)) (map (λ k. k.items) keys) = prefix_len-map (λ t. not (p t)) keys in
    let l : length keys ≡ length (map (λ k. k.items) keys) = sym (length-map keys (λ k. k.items)) in
    ap (λ n. cond (nat_lt n (length keys)) (Some n) None) e
    ∙ ap (λ m. cond (nat_lt (prefix_len (λ t. not (p t)) (map (λ k. k.items) keys)) m) (Some (prefix_len (λ t. not (p t)) (map (λ k. k.items) keys))) None) l

-- the total of two lists is that of both in one
pub total_append : {A : Type 0} (f : A → ℕ) (xs ys : List A) → total f (xs ++ ys) ≡ total f xs + total f ys
total_append f [] ys = omega arith
total_append f (x ∷ xs) ys = omega (arith, total_append f xs ys)

-- the total with one more member
pub total_more : {E : Type 0} (parts : E → ℕ) (es : List E) (e : E) → total parts (es ++ e ∷ []) ≡ total parts es + parts e
total_more parts [] e = omega arith
total_more parts (x ∷ es) e = omega (arith, total_more parts es e)

-- functions that agree on each member make the same list
pub map_same : {A B : Type 0} (f g : A → B) (xs : List A) → Each (λ x. f x ≡ g x) xs → map f xs ≡ map g xs
map_same f g [] h = refl
map_same f g (x ∷ xs) h = ap (λ y. y ∷ map f xs) h.0 ∙ ap (λ ys. g x ∷ ys) (map_same f g xs h.1)

-- what holds of each member of two lists in one holds of each of the first
pub each_left : {A : Type 0} (P : A → Type 0) (xs ys : List A) → Each P (xs ++ ys) → Each P xs
each_left P [] ys h = tt
each_left P (x ∷ xs) ys h = (h.0, each_left P xs ys h.1)

-- and of each of the second
pub each_right : {A : Type 0} (P : A → Type 0) (xs ys : List A) → Each P (xs ++ ys) → Each P ys
each_right P [] ys h = h
each_right P (x ∷ xs) ys h = each_right P xs ys h.1

-- and so of each of both
pub each_parts : {A : Type 0} (P : A → Type 0) (xs ys : List A) → Each P (xs ++ ys) → Each P xs × Each P ys
each_parts P [] ys h = (tt, h)
each_parts P (x ∷ xs) ys h = let t = each_parts P xs ys h.1 in ((h.0, t.0), t.1)

-- what holds of each member of a mapped list holds of what the function gives for each member
pub each_mapped : {A B : Type 0} (Q : B → Type 0) (f : A → B) (xs : List A) → Each Q (map f xs) → Each (λ x. Q (f x)) xs
each_mapped Q f [] h = tt
each_mapped Q f (x ∷ xs) h = (h.0, each_mapped Q f xs h.1)

-- a list that is mapped twice is mapped by both functions at once
pub map_twice : {A B C : Type 0} (g : B → C) (h : A → B) (xs : List A) → map g (map h xs) ≡ map (λ x. g (h x)) xs
map_twice g h [] = refl
map_twice g h (x ∷ xs) = ap (λ z. g (h x) ∷ z) (map_twice g h xs)

-- what the function gives for a member is in the mapped list
pub mapped_has : {A B : Type 0} (f : A → B) (xs : List A) (x : A) → Has xs x → Has (map f xs) (f x)
mapped_has f [] x h = absurd h
mapped_has f (y ∷ xs) x h = elim h [ inl e ↦ inl (ap f e) | inr k ↦ inr (mapped_has f xs x k) ]

-- a mapped list is as long as the list
pub length_map : {A B : Type 0} (f : A → B) (xs : List A) → length (map f xs) ≡ length xs
length_map f xs = length-map xs f

-- a list with one more member is longer by one
pub length-more : {A : Type 0} (xs : List A) (x : A) → length (xs ++ x ∷ []) ≡ length xs + 1
length-more xs x = length-append xs (x ∷ [])

-- what a list becomes where all of it is written anew
pub refilled : {A : Type 0} (xs ws : List A) (n : ℕ) → n ≡ length xs → length ws ≡ length xs → take n (ws ++ drop (length ws) xs) ≡ ws
refilled xs ws n e h = take_at ws (drop (length ws) xs) n (omega (arith, e, h))
