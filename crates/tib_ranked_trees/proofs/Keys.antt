-- A new shape among the keys of a set.
use Rattle.std.specs.Prelude.{nat_eq}
use Rattle.std.specs.Global.{Vec}
use Rattle.std.specs.Cmp.Lexicographic.{pointwise}
use Rattle.std.specs.List.{list_any}
use Rattle.std.proofs.Common.{◌≡◌, ℕ, List, [], ◌∷◌, ◌++◌, Contains, map, true, false, Bool, sym, refl, subst, arith, suc}
use Rattle.indexmap.specs.IndexSet.{insert_key}
use Rattle.tib_tree.proofs.Growing.{insert_adds}
use lib.Pointwise.{bytes_decides}

found_or :
    (shape : List ℕ) (k : Vec ℕ) (ks : List (Vec ℕ)) (b : Bool) → pointwise nat_eq shape k.items ≡ b →
    (Contains (map (λ k. k.items) (k ∷ ks)) shape → ⊥) → false ≡ list_any (λ k. pointwise nat_eq shape k.items) ks →
    false ≡ list_any (λ k. pointwise nat_eq shape k.items) (k ∷ ks)
found_or shape k ks true e h rest = absurd (h (0, omega arith, sym ((bytes_decides shape k.items).0 e)))
found_or shape k ks false e h rest = rw e rest

-- a shape that some keys do not hold is found in none of them
pub not_found :
    (shape : List ℕ) (keys : List (Vec ℕ)) → (Contains (map (λ k. k.items) keys) shape → ⊥) →
    false ≡ list_any (λ k. pointwise nat_eq shape k.items) keys
not_found shape [] h = refl
not_found shape (k ∷ ks) h =
    found_or shape k ks (pointwise nat_eq shape k.items) refl h
    (not_found shape ks (λ w. h (suc w.0, omega (arith, w.1), w.2)))

-- such a shape goes after the others
pub new_shape :
    (before : List (List ℕ)) (shape : List ℕ) (keys now : List (Vec ℕ)) (k : Vec ℕ) →
    map (λ v. v.items) keys ≡ before → k.items ≡ shape → (Contains before shape → ⊥) →
    now ≡ insert_key (λ a b. pointwise nat_eq a.items b.items) keys k →
    map (λ v. v.items) now ≡ before ++ shape ∷ []
new_shape before shape keys now k is same new e =
    insert_adds before shape keys now k is same (not_found shape keys (subst (λ l. Contains l shape → ⊥) (sym is) new)) e
