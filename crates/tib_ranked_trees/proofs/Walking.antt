-- How the candidates of a rule cover its trees.
use Rattle.std.specs.Prelude.{◌≡◌, ℕ, ◌<◌, ◌≤◌, ◌⊎◌, Bool, List, [], ◌∷◌, ◌++◌, length, refl}
use Rattle.std.proofs.Common.{zero, suc, arith, ap, sym, ◌∙◌, subst, inl, inr, get_or, le_refl, length-append}
use Rattle.std.proofs.lemmas.List.{append_assoc}
use Rattle.tib_lex.specs.Lists.{Has, Ascends, Along}
use Rattle.tib_tree.specs.Trees.{Tree}
use Rattle.tib_cost.specs.Semiring.{most, ProductLaws}
use Rattle.tib_grammar.specs.Run.{rule_at}
use Rattle.tib_grammar.specs.declared.Rule.{Rule}
use Rattle.tib_lex.proofs.Members.{each_has, has_at}
use Rattle.tib_ranked_trees.specs.First.{NoLater, IsFront}
use Rattle.tib_ranked_trees.specs.Best.{Cheaper, IsTreeAt}
use Rattle.tib_ranked_trees.specs.Levels.{states_of}
use Rattle.tib_ranked_trees.specs.Pass.{Entries, no_entry, entry_at, picked, AreRanks, zeros, offer, IsKnown, IsPass}
use Rattle.tib_ranked_trees.proofs.FrontsGrowing.{grows_along}

-- no rank is higher
abbrev pub AreLower : List ℕ → List ℕ → Type 0
AreLower is js = Along (λ i j. i ≤ j) is js

-- of two members of an ascending list the one that is first comes first
pub ascends_at : {A : Type 0} (Before : A → A → Type 0) (d : A) (xs : List A) → Ascends Before xs → (i j : ℕ) → i < j → j < length xs → Before (get_or xs i d) (get_or xs j d)
ascends_at Before d [] a i j h k = absurd (omega arith)
ascends_at Before d (x ∷ xs) a i zero h k = absurd (omega arith)
ascends_at Before d (x ∷ xs) a zero (suc j) h k = each_has (Before x) xs (get_or xs j d) a.0 (has_at xs j d (omega arith))
ascends_at Before d (x ∷ xs) a (suc i) (suc j) h k = ascends_at Before d xs a.1 i j (omega arith) (omega arith)

two_ways : (i j : ℕ) → i ≤ j → (i ≡ j) ⊎ (i < j)
two_ways i j h = grind arith

pub no_later_at : {A : Type 0} (Before : A → A → Type 0) (d : A) (xs : List A) → Ascends Before xs → (i j : ℕ) → i ≤ j → j < length xs → NoLater Before (get_or xs i d) (get_or xs j d)
no_later_at Before d xs a i j h k = elim (two_ways i j h) [
  | inl e ↦ inl (ap (λ n. get_or xs n d) e)
  | inr l ↦ inr (ascends_at Before d xs a i j l k)
]

pub no_later_cost : (labels : List (List ℕ)) (a b : Tree ℕ × ℕ) → NoLater (Cheaper labels) a b → a.1 ≤ b.1
no_later_cost labels a b (inl e) = let c : a.1 ≡ b.1 = ap (λ (x : Tree ℕ × ℕ). x.1) e in omega arith
no_later_cost labels a b (inr (inl h)) = omega arith
no_later_cost labels a b (inr (inr h)) = omega (arith, h.0)

pub zeros_lower : (entries : Entries) (qs js : List ℕ) → AreRanks entries qs js → AreLower (zeros qs) js
zeros_lower entries [] [] r = tt
zeros_lower entries [] (j ∷ js) r = absurd r
zeros_lower entries (q ∷ qs) [] r = absurd r
zeros_lower entries (q ∷ qs) (j ∷ js) r = (omega arith, zeros_lower entries qs js r.1)

pub lower_ranks : (entries : Entries) (qs is js : List ℕ) → AreLower is js → AreRanks entries qs js → AreRanks entries qs is
lower_ranks entries [] [] [] l r = tt
lower_ranks entries [] [] (j ∷ js) l r = absurd l
lower_ranks entries [] (i ∷ is) [] l r = absurd l
lower_ranks entries [] (i ∷ is) (j ∷ js) l r = absurd r
lower_ranks entries (q ∷ qs) [] [] l r = absurd r
lower_ranks entries (q ∷ qs) [] (j ∷ js) l r = absurd l
lower_ranks entries (q ∷ qs) (i ∷ is) [] l r = absurd l
lower_ranks entries (q ∷ qs) (i ∷ is) (j ∷ js) l r = (omega (arith, l.0, r.0), lower_ranks entries qs is js l.1 r.1)

-- what the ranks pick
module _ (product : ℕ → ℕ → ℕ) (labels : List (List ℕ)) (rules : List (Rule ℕ)) (entries : Entries) (fronts : (q : ℕ) → IsFront (IsTreeAt product rules q) (Cheaper labels) (entries q)) where
  pub along_picked : (qs js : List ℕ) → AreRanks entries qs js → Along (IsTreeAt product rules) qs (picked entries qs js)
  along_picked [] [] r = tt
  along_picked [] (j ∷ js) r = absurd r
  along_picked (q ∷ qs) [] r = absurd r
  along_picked (q ∷ qs) (j ∷ js) r =
      (each_has (IsTreeAt product rules q) (entries q) (entry_at entries q j) (fronts q).members (has_at (entries q) j no_entry r.0), along_picked qs js r.1)

  pub lower_picked : (qs is js : List ℕ) → AreLower is js → AreRanks entries qs js → Along (NoLater (Cheaper labels)) (picked entries qs is) (picked entries qs js)
  lower_picked [] is js l r = tt
  lower_picked (q ∷ qs) [] [] l r = absurd r
  lower_picked (q ∷ qs) [] (j ∷ js) l r = absurd l
  lower_picked (q ∷ qs) (i ∷ is) [] l r = absurd l
  lower_picked (q ∷ qs) (i ∷ is) (j ∷ js) l r = (no_later_at (Cheaper labels) no_entry (entries q) (fronts q).ascends i j l.0 r.0, lower_picked qs is js l.1 r.1)

module _ {levelled weighted : Bool} {product : ℕ → ℕ → ℕ} (laws : ProductLaws levelled weighted product) (labels : List (List ℕ)) (rules : List (Rule ℕ))
    (orderly : ((a b c : ℕ) → b < c → product a b < product a c) ⊎ ((q : ℕ) (a : Tree ℕ × ℕ) → IsTreeAt product rules q a → a.1 ≡ 0))
    (entries : Entries) (fronts : (q : ℕ) → IsFront (IsTreeAt product rules q) (Cheaper labels) (entries q)) where
  -- a candidate with lower ranks stands for no later tree
  pub lower_offer :
      (n : ℕ) (is js : List ℕ) → AreLower is js → AreRanks entries (states_of (rule_at rules n)) js →
      NoLater (Cheaper labels) (offer product rules entries n is) (offer product rules entries n js)
  lower_offer n is js l r =
      grows_along labels laws (IsTreeAt product rules) orderly (rule_at rules n) (states_of (rule_at rules n)) [] (picked entries (states_of (rule_at rules n)) is) (picked entries (states_of (rule_at rules n)) js)
      (along_picked product labels rules entries fronts (states_of (rule_at rules n)) is (lower_ranks entries (states_of (rule_at rules n)) is js l r))
      (along_picked product labels rules entries fronts (states_of (rule_at rules n)) js r)
      (lower_picked product labels rules entries fronts (states_of (rule_at rules n)) is js l r)

  module _ (taken held : List (ℕ × List ℕ)) where
    -- a candidate with lower ranks waits, or this one was taken
    abbrev pub Reaches : ℕ → List ℕ → Type 0
    Reaches n js = ((is : List ℕ) × AreLower is js × Has held (n, is)) ⊎ Has taken (n, js)

    module _
        (n : ℕ)
        (followed :
        (front qs : List ℕ) (q j : ℕ) (back : List ℕ) → states_of (rule_at rules n) ≡ qs ++ q ∷ back → length front ≡ length qs →
        Has taken (n, front ++ j ∷ zeros back) → suc j < length (entries q) → (offer product rules entries n (front ++ suc j ∷ zeros back)).1 ≤ most →
        IsKnown taken held n (front ++ suc j ∷ zeros back)) where
      -- up one place
      pub climb :
          (front qs : List ℕ) (q : ℕ) (back : List ℕ) → states_of (rule_at rules n) ≡ qs ++ q ∷ back → length front ≡ length qs → (m : ℕ) → m < length (entries q) →
          ((j : ℕ) → j ≤ m → (offer product rules entries n (front ++ j ∷ zeros back)).1 ≤ most) → IsKnown taken held n (front ++ 0 ∷ zeros back) →
          ((j : ℕ) × (j ≤ m) × Has held (n, front ++ j ∷ zeros back)) ⊎ Has taken (n, front ++ m ∷ zeros back)
      climb front qs q back e l zero h fits (inl t) = inr t
      climb front qs q back e l zero h fits (inr w) = inl (0, omega arith, w)
      climb front qs q back e l (suc m) h fits known =
          elim (climb front qs q back e l m (omega arith) (λ j b. fits j (omega arith)) known) [
            | inl w ↦ inl (w.0, omega (arith, w.1), w.2)
            | inr t ↦ elim (followed front qs q m back e l t h (fits (suc m) (le_refl (suc m)))) [
              | inl t ↦ inr t
              | inr w ↦ inl (suc m, le_refl (suc m), w)
            ]
          ]

      -- and place by place
      pub plain_walk :
          (front qs ps js : List ℕ) → states_of (rule_at rules n) ≡ qs ++ ps → length front ≡ length qs → AreRanks entries ps js →
          ((is : List ℕ) → AreLower is js → (offer product rules entries n (front ++ is)).1 ≤ most) → IsKnown taken held n (front ++ zeros ps) →
          ((is : List ℕ) × AreLower is js × Has held (n, front ++ is)) ⊎ Has taken (n, front ++ js)
      plain_walk front qs [] [] e l r fits (inl t) = inr t
      plain_walk front qs [] [] e l r fits (inr w) = inl ([], tt, w)
      plain_walk front qs [] (j ∷ js) e l r fits known = absurd r
      plain_walk front qs (p ∷ ps) [] e l r fits known = absurd r
      plain_walk front qs (p ∷ ps) (j ∷ js) e l r fits known =
          elim (climb front qs p ps e l j r.0 (λ i b. fits (i ∷ zeros ps) (b, zeros_lower entries ps js r.1)) known) [
            | inl w ↦ inl (w.0 ∷ zeros ps, (w.1, zeros_lower entries ps js r.1), w.2)
            | inr t ↦
                elim (plain_walk (front ++ j ∷ []) (qs ++ p ∷ []) ps js (e ∙ sym (append_assoc qs (p ∷ []) ps)) (omega (arith, l, length-append front (j ∷ []), length-append qs (p ∷ []))) r.1
                (λ is low. subst (λ (xs : List ℕ). (offer product rules entries n xs).1 ≤ most) (sym (append_assoc front (j ∷ []) is)) (fits (j ∷ is) (le_refl j, low)))
                (inl (subst (λ xs. Has taken (n, xs)) (sym (append_assoc front (j ∷ []) (zeros ps))) t))) [
                  | inl w ↦ inl (j ∷ w.0, (le_refl j, w.1), subst (λ xs. Has held (n, xs)) (append_assoc front (j ∷ []) w.0) w.2)
                  | inr u ↦ inr (subst (λ xs. Has taken (n, xs)) (append_assoc front (j ∷ []) js) u)
                ]
          ]

    -- the candidates that are known reach every choice of entries
    pub reach : (k : ℕ) → IsPass product labels rules k entries taken held → (n : ℕ) → n < length rules → (js : List ℕ) → AreRanks entries (states_of (rule_at rules n)) js → (offer product rules entries n js).1 ≤ most → Reaches n js
    reach k pass n h js r b =
        plain_walk n (pass.followed n h) [] [] (states_of (rule_at rules n)) js refl refl r
        (λ is low. fits is low)
        (pass.begun n h (lower_ranks entries (states_of (rule_at rules n)) (zeros (states_of (rule_at rules n))) js (zeros_lower entries (states_of (rule_at rules n)) js r) r)
        (fits (zeros (states_of (rule_at rules n))) (zeros_lower entries (states_of (rule_at rules n)) js r)))
      where
        fits : (is : List ℕ) → AreLower is js → (offer product rules entries n is).1 ≤ most
        fits is low = omega (arith, b, no_later_cost labels (offer product rules entries n is) (offer product rules entries n js) (lower_offer n is js low r))
