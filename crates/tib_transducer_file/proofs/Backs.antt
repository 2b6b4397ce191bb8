-- The items of places, which are in the order of reading, the last first.
use Rattle.std.proofs.Common.{◌≡◌, ℕ, ◌+◌, ◌-◌, ◌<◌, ◌≤◌, List, [], ◌∷◌, ◌++◌, length, get_or, take, refl, ap, sym, ◌∙◌, arith, Bool, true, false, zero, suc, reverse}
use Rattle.std.specs.Prelude.{map, ◌||◌}
use Rattle.std.specs.List.{list_any}
use Rattle.std.proofs.lemmas.List.{reverse-append, map-append, take_more, take_all}
use Rattle.std.proofs.lemmas.List.Folds.{list_any-append}
use Rattle.tib_tree.specs.Written.{Item}
use Rattle.tib_tree.specs.Shape.{item_at, items_back}
use Rattle.tib_tree.specs.declared.shape.Place.{Place}
pub use Rattle.tib_tree.proofs.LineRead.{back_long}

back_first : (line : List ℕ) (p : Place) (places : List Place) → items_back line (p ∷ places) ≡ items_back line places ++ item_at line p ∷ []
back_first line p places = reverse-append (item_at line p ∷ []) (map (item_at line) places)

-- a test of some item, by the places
any_one : (f : Item → Bool) (i : Item) → list_any f (i ∷ []) ≡ f i
any_one f i = by (f i)
  where
    by : (b : Bool) → (b || false) ≡ b
    by true = refl
    by false = refl

or_turns : (a b : Bool) → (a || b) ≡ (b || a)
or_turns true true = refl
or_turns true false = refl
or_turns false true = refl
or_turns false false = refl

pub any_back : (line : List ℕ) (f : Item → Bool) (places : List Place) → list_any f (items_back line places) ≡ list_any (λ p. f (item_at line p)) places
any_back line f [] = refl
any_back line f (p ∷ places) =
    ap (list_any f) (back_first line p places)
    ∙ list_any-append f (items_back line places) (item_at line p ∷ [])
    ∙ ap (λ (b : Bool). b || list_any f (item_at line p ∷ [])) (any_back line f places)
    ∙ ap (λ (b : Bool). list_any (λ q. f (item_at line q)) places || b) (any_one f (item_at line p))
    ∙ or_turns (list_any (λ q. f (item_at line q)) places) (f (item_at line p))

-- places that were tried, and failed
pub tried_none : (line : List ℕ) (f : Item → Bool) (places : List Place) → list_any (λ p. f (item_at line p)) (take 0 places) ≡ false
tried_none line f places = refl

pub tried_more : (line : List ℕ) (f : Item → Bool) (places : List Place) (n : ℕ) (d : Place) → n < length places → f (item_at line (get_or places n d)) ≡ false → list_any (λ p. f (item_at line p)) (take n places) ≡ false → list_any (λ p. f (item_at line p)) (take (n + 1) places) ≡ false
tried_more line f places n d h e none =
    ap (list_any (λ p. f (item_at line p))) (take_more places n d h)
    ∙ list_any-append (λ p. f (item_at line p)) (take n places) (get_or places n d ∷ [])
    ∙ ap (λ (b : Bool). b || (f (item_at line (get_or places n d)) || false)) none
    ∙ ap (λ (b : Bool). b || false) e

pub tried_all : (line : List ℕ) (f : Item → Bool) (places : List Place) (n : ℕ) → length places ≤ n → list_any (λ p. f (item_at line p)) (take n places) ≡ false → false ≡ list_any f (items_back line places)
tried_all line f places n h none = sym (any_back line f places ∙ ap (list_any (λ p. f (item_at line p))) (sym (take_all n places h)) ∙ none)

any_at : {X : Type 0} (f : X → Bool) (xs : List X) (n : ℕ) (d : X) → n < length xs → f (get_or xs n d) ≡ true → list_any f xs ≡ true
any_at f [] n d h e = absurd (omega arith)
any_at f (x ∷ xs) zero d h e = rw e refl
any_at f (x ∷ xs) (suc n) d h e = by (f x) (any_at f xs n d (omega arith) e)
  where
    by : (b : Bool) → list_any f xs ≡ true → (b || list_any f xs) ≡ true
    by true e = refl
    by false e = e

pub tried_one : (line : List ℕ) (f : Item → Bool) (places : List Place) (n : ℕ) (d : Place) → n < length places → f (item_at line (get_or places n d)) ≡ true → true ≡ list_any f (items_back line places)
tried_one line f places n d h e = sym (any_back line f places ∙ any_at (λ p. f (item_at line p)) places n d h e)

-- no item passes, so none of a place does
pub none_at : (line : List ℕ) (f : Item → Bool) (places : List Place) (n : ℕ) (d : Place) → n < length places → list_any f (items_back line places) ≡ false → f (item_at line (get_or places n d)) ≡ false
none_at line f places n d h e = by (f (item_at line (get_or places n d))) refl
  where
    by : (b : Bool) → f (item_at line (get_or places n d)) ≡ b → b ≡ false
    by true k = let bad : true ≡ false = tried_one line f places n d h k ∙ e in bad
    by false k = refl

-- the last place is the first item
pub last_back : (line : List ℕ) (places : List Place) (d : Place) → 0 < length places → items_back line places ≡ item_at line (get_or places (length places - 1) d) ∷ items_back line (take (length places - 1) places)
last_back line places d h =
    let n : length places - 1 + 1 ≡ length places = omega arith in
    let e : places ≡ take (length places - 1) places ++ get_or places (length places - 1) d ∷ [] =
    sym (take_all (length places - 1 + 1) places (omega arith)) ∙ take_more places (length places - 1) d (omega arith)
    in
    ap (items_back line) e ∙ turned (take (length places - 1) places) (get_or places (length places - 1) d)
  where
    turned : (ps : List Place) (p : Place) → items_back line (ps ++ p ∷ []) ≡ item_at line p ∷ items_back line ps
    turned ps p = ap reverse (map-append (item_at line) ps (p ∷ [])) ∙ reverse-append (map (item_at line) ps) (item_at line p ∷ [])
