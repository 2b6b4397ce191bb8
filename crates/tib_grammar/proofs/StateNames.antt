-- State names, and texts among the keys of a table.
use Rattle.std.proofs.Common.{◌≡◌, ℕ, ◌<◌, List, [], ◌∷◌, ◌++◌, length, map, take, Some, slice_get, Contains, get_or, Bool, true, false, ◌||◌, position, refl, ap, sym, ◌∙◌, subst, arith, true≢false, zero, suc, inl, inr, ◌⊎◌}
use Rattle.std.specs.Prelude.{nat_eq, if◌then◌else◌}
use Rattle.std.specs.Global.{Vec}
use Rattle.std.specs.Cmp.Lexicographic.{pointwise}
use Rattle.std.specs.List.{list_any}
use Rattle.std.proofs.lemmas.List.{map-append}
use Rattle.std.proofs.lemmas.List.Quantifiers.{position-Some}
use Rattle.std.proofs.lemmas.Option.{slice_get-get_or}
use Rattle.indexmap.specs.IndexSet.{insert_key}
use lib.Pointwise.{bytes_decides}
use Rattle.tib_lex.specs.Lists.{Has, Distinct}
use Rattle.tib_grammar.specs.StateName.{IsStateName, AreStateNames}
use Rattle.tib_grammar.proofs.Members.{has_at, each_more, distinct_more}
use Rattle.tib_lex.proofs.Booleans.{or-true}
use Rattle.tib_lex.proofs.Lists.{position-map}

-- a text that was found is at its place
pub found_at :
    (text : List ℕ) (keys : List (Vec ℕ)) (i : ℕ) → Some i ≡ position (λ k. pointwise nat_eq text k.items) keys →
    slice_get (map (λ k. k.items) keys) i ≡ Some text
found_at text keys i e =
    let s = position-Some (pointwise nat_eq text) (map (λ k. k.items) keys) i [] (sym (e ∙ position-map (pointwise nat_eq text) keys)) in
    slice_get-get_or (map (λ k. k.items) keys) i [] s.0 ∙ ap Some (sym ((bytes_decides text (get_or (map (λ k. k.items) keys) i [])).0 s.1))

-- whether a text is held is what the test of the keys says
pub has_held : (text : List ℕ) (keys : List (Vec ℕ)) → Has (map (λ k. k.items) keys) text → list_any (λ k. pointwise nat_eq text k.items) keys ≡ true
has_held text [] h = absurd h
has_held text (k ∷ ks) h = elim h [
  | inl e ↦ let t : pointwise nat_eq text k.items ≡ true = (bytes_decides text k.items).1 (sym e) in rw t
  | inr m ↦ rw (has_held text ks m) (or-true (pointwise nat_eq text k.items))
]

pub held_has : (text : List ℕ) (keys : List (Vec ℕ)) → list_any (λ k. pointwise nat_eq text k.items) keys ≡ true → Has (map (λ k. k.items) keys) text
held_has text [] e = absurd (cc)
held_has text (k ∷ ks) e = elim (either (pointwise nat_eq text k.items) (list_any (λ k. pointwise nat_eq text k.items) ks) e) [
  | inl t ↦ inl (sym ((bytes_decides text k.items).0 t))
  | inr t ↦ inr (held_has text ks t)
]
  where
    either : (a b : Bool) → (a || b) ≡ true → (a ≡ true) ⊎ (b ≡ true)
    either true b e = inl refl
    either false b e = inr e

-- a text that was not found is not held
pub not_held : (text : List ℕ) (keys : List (Vec ℕ)) → false ≡ list_any (λ k. pointwise nat_eq text k.items) keys → Contains (map (λ k. k.items) keys) text → ⊥
not_held text keys e h =
    let has : Has (map (λ k. k.items) keys) text = subst (Has (map (λ k. k.items) keys)) h.2 (has_at (map (λ k. k.items) keys) h.0 text h.1) in
    true≢false (sym (has_held text keys has) ∙ sym e)

-- a text at a place of a list of texts is one of them
pub has_text : (all : List (Vec ℕ)) (n : ℕ) (x : Vec ℕ) → n < length all → x ≡ get_or all n x → Has (map (λ k. k.items) all) x.items
has_text [] n x h e = absurd (omega arith)
has_text (y ∷ ys) zero x h e = inl (ap (λ k. k.items) (sym e))
has_text (y ∷ ys) (suc n) x h e = inr (has_text ys n x (omega arith) e)

-- a text that occurred before occurs twice
pub twice : (all : List (Vec ℕ)) (n : ℕ) (x : Vec ℕ) → n < length all → x ≡ get_or all n x → Has (map (λ k. k.items) (take n all)) x.items → Distinct (map (λ k. k.items) all) → ⊥
twice [] n x h e m d = absurd (omega arith)
twice (y ∷ ys) zero x h e m d = absurd m
twice (y ∷ ys) (suc n) x h e m d = elim m [
  | inl k ↦ d.0 (subst (Has (map (λ k. k.items) ys)) (sym k) (has_text ys n x (omega arith) e))
  | inr k ↦ twice ys n x (omega arith) e k d.1
]

new_key : (b : Bool) (keys : List (Vec ℕ)) (k : Vec ℕ) → b ≡ false → (if b then keys else keys ++ k ∷ []) ≡ keys ++ k ∷ []
new_key true keys k e = cc
new_key false keys k e = refl

-- a new name after others
pub name_more :
    (keys now : List (Vec ℕ)) (x : Vec ℕ) → AreStateNames (map (λ k. k.items) keys) → IsStateName x.items → list_any (λ k. pointwise nat_eq x.items k.items) keys ≡ false →
    now ≡ insert_key (λ a b. pointwise nat_eq a.items b.items) keys x → (now ≡ keys ++ x ∷ []) × AreStateNames (map (λ k. k.items) now)
name_more keys now x names is new e =
    let grown : now ≡ keys ++ x ∷ [] = e ∙ new_key (list_any (λ k. pointwise nat_eq x.items k.items) keys) keys x new in
    let texts : map (λ k. k.items) now ≡ map (λ k. k.items) keys ++ x.items ∷ [] = ap (map (λ k. k.items)) grown ∙ map-append (λ k. k.items) keys (x ∷ []) in (
      grown,
      subst AreStateNames (sym texts) (record {
        each = each_more IsStateName (map (λ k. k.items) keys) x.items names.each is;
        distinct = distinct_more (map (λ k. k.items) keys) x.items names.distinct (λ h. true≢false (sym (has_held x.items keys h) ∙ new));
      }),
    )

pub map_same : {A : Type 0} (xs : List A) → map (λ x. x) xs ≡ xs
map_same [] = refl
map_same (x ∷ xs) = ap (λ ys. x ∷ ys) (map_same xs)
