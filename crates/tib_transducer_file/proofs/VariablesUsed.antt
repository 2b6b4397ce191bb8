-- How the variables of a rule are checked.
use Rattle.std.proofs.Common.{◌≡◌, ℕ, ◌-◌, ◌<◌, ◌≤◌, List, [], ◌∷◌, ◌++◌, length, get_or, take, drop, refl, ap, sym, ◌∙◌, arith, append_assoc, append-nil, Bool, true, false, Option, zero, suc, reverse}
use Rattle.std.specs.Prelude.{Some, None, nat_eq, ◌||◌, not, map}
use Rattle.std.specs.List.{list_any}
use Rattle.std.proofs.lemmas.List.{take-append-drop, drop_all, map-append, reverse-append}
use Rattle.indexmap.specs.IndexSet.{insert_key}
use Rattle.tib_lex.proofs.Booleans.{or-true}
use Rattle.tib_tree.specs.Written.{Item}
use Rattle.tib_tree.specs.Shape.{items_back, item_at}
use Rattle.tib_tree.specs.declared.shape.Place.{Place}
use Rattle.tib_tree.proofs.NodesRead.{back_more}
use Rattle.tib_transducer_file.specs.Forms.{variable_in}
use Rattle.tib_transducer_file.specs.Rule.{number_before, numbers_in, repeats}
use Rattle.tib_transducer_file.specs.Found.{IsRootAt, AreNumbers}
use Rattle.tib_transducer_file.specs.declared.forms.RootToken.{RootToken}

pub numbers_append : (xs ys : List Item) → numbers_in (xs ++ ys) ≡ numbers_in xs ++ numbers_in ys
numbers_append [] ys = refl
numbers_append (x ∷ xs) ys = by (variable_in x) (numbers_append xs ys)
  where
    by : (o : Option (ℕ × Option (List ℕ))) → numbers_in (xs ++ ys) ≡ numbers_in xs ++ numbers_in ys → number_before o (numbers_in (xs ++ ys)) ≡ number_before o (numbers_in xs) ++ numbers_in ys
    by None e = e
    by (Some v) e = ap (λ (ns : List ℕ). v.0 ∷ ns) e

or_more : (a b c : Bool) → ((a || b) || c) ≡ (a || (b || c))
or_more true b c = refl
or_more false b c = refl

repeats_more : (before ns : List ℕ) (n : ℕ) → repeats before (ns ++ n ∷ []) ≡ (repeats before ns || list_any (nat_eq n) (before ++ ns))
repeats_more before [] n = by (list_any (nat_eq n) before) ∙ ap (list_any (nat_eq n)) (sym (append-nil before))
  where
    by : (b : Bool) → (b || false) ≡ b
    by true = refl
    by false = refl
repeats_more before (m ∷ ns) n =
    ap (λ (b : Bool). list_any (nat_eq m) before || b) (repeats_more (before ++ m ∷ []) ns n)
    ∙ sym (or_more (list_any (nat_eq m) before) (repeats (before ++ m ∷ []) ns) (list_any (nat_eq n) ((before ++ m ∷ []) ++ ns)))
    ∙ ap (λ (xs : List ℕ). (list_any (nat_eq m) before || repeats (before ++ m ∷ []) ns) || list_any (nat_eq n) xs) (append_assoc before (m ∷ []) ns)

pub repeats_front : (before ns ms : List ℕ) → repeats before ns ≡ true → repeats before (ns ++ ms) ≡ true
repeats_front before [] ms e = cc
repeats_front before (n ∷ ns) ms e = by (list_any (nat_eq n) before) e (repeats_front (before ++ n ∷ []) ns ms)
  where
    by : (b : Bool) → (b || repeats (before ++ n ∷ []) ns) ≡ true → (repeats (before ++ n ∷ []) ns ≡ true → repeats (before ++ n ∷ []) (ns ++ ms) ≡ true) → (b || repeats (before ++ n ∷ []) (ns ++ ms)) ≡ true
    by true e ih = refl
    by false e ih = ih e

-- what was read of the variables, from the last place on
pub record Reading (line : List ℕ) (places : List Place) (keys : List ℕ) (i : ℕ) : Type 0 where
  pub within : i ≤ length places
  pub numbers : keys ≡ numbers_in (items_back line (drop i places))
  pub once : repeats [] keys ≡ false

pub reading_starts : (line : List ℕ) (places : List Place) (keys : List ℕ) (i : ℕ) → i ≡ length places → keys ≡ [] → Reading line places keys i
reading_starts line places keys i h e = record {
  within = omega (arith, h);
  numbers = e ∙ sym (ap (λ (ps : List Place). numbers_in (items_back line ps)) (drop_all i places (omega (arith, h))));
  once = ap (repeats []) e;
}

next_numbers : (line : List ℕ) (places : List Place) (i : ℕ) (d : Place) (o : Option (ℕ × Option (List ℕ))) → 0 < i → i ≤ length places → o ≡ variable_in (item_at line (get_or places (i - 1) d)) → numbers_in (items_back line (drop (i - 1) places)) ≡ numbers_in (items_back line (drop i places)) ++ number_before o []
next_numbers line places i d o h k e =
    ap numbers_in (back_more line places i d h k)
    ∙ numbers_append (items_back line (drop i places)) (item_at line (get_or places (i - 1) d) ∷ [])
    ∙ ap (λ (v : Option (ℕ × Option (List ℕ))). numbers_in (items_back line (drop i places)) ++ number_before v []) (sym e)

pub reading_skips : (line : List ℕ) (places : List Place) (keys : List ℕ) (i : ℕ) (d : Place) → 0 < i → None ≡ variable_in (item_at line (get_or places (i - 1) d)) → Reading line places keys i → Reading line places keys (i - 1)
reading_skips line places keys i d h e r = record {
  within = omega (arith, r.within);
  numbers = r.numbers ∙ sym (next_numbers line places i d None h r.within e ∙ append-nil (numbers_in (items_back line (drop i places))));
  once = r.once;
}

insert_new : (keys : List ℕ) (n : ℕ) → list_any (nat_eq n) keys ≡ false → insert_key nat_eq keys n ≡ keys ++ n ∷ []
insert_new keys n e = rw e refl

pub reading_goes : (line : List ℕ) (places : List Place) (keys more : List ℕ) (i : ℕ) (d : Place) (v : ℕ × Option (List ℕ)) (r : Bool) → 0 < i → Some v ≡ variable_in (item_at line (get_or places (i - 1) d)) → r ≡ not (list_any (nat_eq v.0) keys) → r ≡ true → more ≡ insert_key nat_eq keys v.0 → Reading line places keys i → Reading line places more (i - 1)
reading_goes line places keys more i d v r h e n t k g =
    let new : list_any (nat_eq v.0) keys ≡ false = not_back (list_any (nat_eq v.0) keys) (sym n ∙ t) in
    let m : more ≡ keys ++ v.0 ∷ [] = k ∙ insert_new keys v.0 new in
    record {
      within = omega (arith, g.within);
      numbers = m ∙ ap (λ (ns : List ℕ). ns ++ v.0 ∷ []) g.numbers ∙ sym (next_numbers line places i d (Some v) h g.within e);
      once = ap (repeats []) m ∙ repeats_more [] keys v.0 ∙ ap (λ (b : Bool). b || list_any (nat_eq v.0) keys) g.once ∙ new;
    }
  where
    not_back : (b : Bool) → not b ≡ true → b ≡ false
    not_back true e = cc
    not_back false e = refl

back_split : (line : List ℕ) (places : List Place) (i : ℕ) → items_back line places ≡ items_back line (drop i places) ++ items_back line (take i places)
back_split line places i =
    ap (items_back line) (sym (take-append-drop i places))
    ∙ ap reverse (map-append (item_at line) (take i places) (drop i places))
    ∙ reverse-append (map (item_at line) (take i places)) (map (item_at line) (drop i places))

pub reading_fails : (line : List ℕ) (places : List Place) (keys after : List ℕ) (i : ℕ) (d : Place) (v : ℕ × Option (List ℕ)) (r : Bool) → 0 < i → Some v ≡ variable_in (item_at line (get_or places (i - 1) d)) → r ≡ not (list_any (nat_eq v.0) keys) → r ≡ false → Reading line places keys i → AreNumbers false after (numbers_in (items_back line places))
reading_fails line places keys after i d v r h e n f g =
    let old : list_any (nat_eq v.0) keys ≡ true = not_back (list_any (nat_eq v.0) keys) (sym n ∙ f) in
    let part : repeats [] (keys ++ v.0 ∷ []) ≡ true = repeats_more [] keys v.0 ∙ ap (λ (b : Bool). repeats [] keys || b) old ∙ or-true (repeats [] keys) in
    ap (λ (is : List Item). repeats [] (numbers_in is)) (back_split line places (i - 1))
    ∙ ap (repeats []) (numbers_append (items_back line (drop (i - 1) places)) (items_back line (take (i - 1) places)))
    ∙ repeats_front [] (numbers_in (items_back line (drop (i - 1) places))) (numbers_in (items_back line (take (i - 1) places)))
    (ap (repeats []) (next_numbers line places i d (Some v) h g.within e ∙ ap (λ (ns : List ℕ). ns ++ v.0 ∷ []) (sym g.numbers)) ∙ part)
  where
    not_back : (b : Bool) → not b ≡ false → b ≡ true
    not_back true e = refl
    not_back false e = cc

pub reading_ends : (line : List ℕ) (places : List Place) (keys : List ℕ) (i : ℕ) → i ≤ 0 → Reading line places keys i → AreNumbers true keys (numbers_in (items_back line places))
reading_ends line places keys zero h r = (r.numbers, ap (repeats []) (sym r.numbers) ∙ r.once)
reading_ends line places keys (suc i) h r = absurd (omega arith)

-- the root of what was read
pub record Root (line : List ℕ) (left : List Place) (root : RootToken) : Type 0 where
  pub first : Item
  pub below : List Item
  pub items : items_back line left ≡ first ∷ below
  pub tokens : IsRootAt line first.text root
  pub some : 0 < length left

pub root_from : (line : List ℕ) (left : List Place) (root : RootToken) → ((r : Item) × (below : List Item) × (items_back line left ≡ r ∷ below) × IsRootAt line r.text root) → Root line left root
root_from line [] root (r, below, e, t) = let bad : ([] ≡ r ∷ below) = e in absurd (cc)
root_from line (p ∷ left) root (r, below, e, t) = record { first = r; below = below; items = e; tokens = t; some = omega arith }

pub heads_same : (x y : Item) (xs ys : List Item) → x ∷ xs ≡ y ∷ ys → (x ≡ y) × (xs ≡ ys)
heads_same x y xs ys e = (cc, cc)
