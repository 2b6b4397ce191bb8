-- The ends of an item, some of which the order has: their keys, their numbers and their positions.
use Rattle.std.proofs.Common.{◌≡◌, ◌⊎◌, inl, inr, ℕ, zero, suc, ◌∷◌, ◌++◌, List, [], Some, slice_get, refl, sym, ap, subst, ◌∙◌, arith}
use Rattle.tib_lex.specs.Lists.{Has}
use Rattle.tib_table.specs.Known.{Names}
use Rattle.tib_table.specs.declared.number.Number.{Number}
use Rattle.tib_workers.specs.Rows.{NameOn}
use Rattle.tib_hunt.specs.Known.{AreSplit, NameAt}
use Rattle.tib_hunt.proofs.OnShelves.{got_has}
use Rattle.tib_hunt.specs.declared.lookups.EndAt.{EndAt}
use Rattle.tib_hunt.specs.declared.lookups.EndAt.TheVariants.{Position, Numbered}

-- what is at a place is still there if more keys follow
pub got_left : {K : Type 0} (xs ys : List K) (n : ℕ) (k : K) → slice_get xs n ≡ Some k → slice_get (xs ++ ys) n ≡ Some k
got_left [] ys n k e = grind (arith, e)
got_left (x ∷ xs) ys zero k e = e
got_left (x ∷ xs) ys (suc n) k e = got_left xs ys n k e

-- a key of named ends has a number
pub named_of : {K : Type 0} (shelves : List (List K)) (ends : List K) (numbers : List Number) → NameOn shelves ends numbers → (k : K) → Has ends k → (n : Number) × Names shelves n.shelf n.place k
named_of shelves [] numbers a k h = absurd h
named_of shelves (e ∷ ends) [] a k h = absurd a
named_of shelves (e ∷ ends) (n ∷ numbers) a k (inl is) = (n, subst (λ (x : _). Names shelves n.shelf n.place x) is a.0)
named_of shelves (e ∷ ends) (n ∷ numbers) a k (inr h) = named_of shelves ends numbers a.1 k h

module _ {K : Type 0} (order : List K) where
  -- where numbers name those that the order lacks, all ends are named
  pub split_named : (shelves : List (List K)) (ks : List K) (ats : List EndAt) (lacked : List K) (numbers : List Number) → AreSplit order ks ats lacked → NameOn shelves lacked numbers → NameAt order shelves ks ats numbers
  split_named shelves [] [] lacked numbers s a = tt
  split_named shelves [] (at ∷ ats) lacked numbers s a = absurd s
  split_named shelves (k ∷ ks) [] lacked numbers s a = absurd s
  split_named shelves (k ∷ ks) (Position n ∷ ats) lacked numbers s a = (s.0, split_named shelves ks ats lacked numbers s.1 a)
  split_named shelves (k ∷ ks) (Numbered ∷ ats) [] numbers s a = absurd s
  split_named shelves (k ∷ ks) (Numbered ∷ ats) (l ∷ lacked) [] s a = absurd a
  split_named shelves (k ∷ ks) (Numbered ∷ ats) (l ∷ lacked) (n ∷ numbers) s a = (subst (λ (x : K). Names shelves n.shelf n.place x) (sym s.0) a.0, split_named shelves ks ats lacked numbers s.2 a.1)

  -- an end is in the order, or is one of those that are handed on
  pub split_either : (ks : List K) (ats : List EndAt) (lacked : List K) → AreSplit order ks ats lacked → (k : K) → Has ks k → Has order k ⊎ Has lacked k
  split_either [] ats lacked s k h = absurd h
  split_either (j ∷ ks) [] lacked s k h = absurd s
  split_either (j ∷ ks) (Position n ∷ ats) lacked s k (inl e) = inl (got_has order n k (s.0 ∙ ap (λ (x : K). Some x) e))
  split_either (j ∷ ks) (Position n ∷ ats) lacked s k (inr h) = split_either ks ats lacked s.1 k h
  split_either (j ∷ ks) (Numbered ∷ ats) [] s k h = absurd s
  split_either (j ∷ ks) (Numbered ∷ ats) (l ∷ lacked) s k (inl e) = inr (inl (sym s.0 ∙ e))
  split_either (j ∷ ks) (Numbered ∷ ats) (l ∷ lacked) s k (inr h) = elim (split_either ks ats lacked s.2 k h) [
    | inl a ↦ inl a
    | inr b ↦ inr (inr b)
  ]

  -- one more end is at a position of the order
  pub split_known : (ks : List K) (ats : List EndAt) (lacked : List K) (k : K) (n : ℕ) → AreSplit order ks ats lacked → slice_get order n ≡ Some k → AreSplit order (ks ++ k ∷ []) (ats ++ Position n ∷ []) lacked
  split_known [] [] lacked k n s e = (e, s)
  split_known [] (at ∷ ats) lacked k n s e = absurd s
  split_known (j ∷ ks) [] lacked k n s e = absurd s
  split_known (j ∷ ks) (Position m ∷ ats) lacked k n s e = (s.0, split_known ks ats lacked k n s.1 e)
  split_known (j ∷ ks) (Numbered ∷ ats) [] k n s e = absurd s
  split_known (j ∷ ks) (Numbered ∷ ats) (l ∷ lacked) k n s e = (s.0, s.1, split_known ks ats lacked k n s.2 e)

  -- one more end is none of the order
  pub split_lacked : (ks : List K) (ats : List EndAt) (lacked : List K) (k : K) → AreSplit order ks ats lacked → (Has order k → ⊥) → AreSplit order (ks ++ k ∷ []) (ats ++ Numbered ∷ []) (lacked ++ k ∷ [])
  split_lacked [] [] lacked k s none = subst (λ (l : List K). AreSplit order (k ∷ []) (Numbered ∷ []) (l ++ k ∷ [])) (sym s) (refl, none, refl)
  split_lacked [] (at ∷ ats) lacked k s none = absurd s
  split_lacked (j ∷ ks) [] lacked k s none = absurd s
  split_lacked (j ∷ ks) (Position m ∷ ats) lacked k s none = (s.0, split_lacked ks ats lacked k s.1 none)
  split_lacked (j ∷ ks) (Numbered ∷ ats) [] k s none = absurd s
  split_lacked (j ∷ ks) (Numbered ∷ ats) (l ∷ lacked) k s none = (s.0, s.1, split_lacked ks ats lacked k s.2 none)
