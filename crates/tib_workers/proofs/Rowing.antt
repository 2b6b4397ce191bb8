-- Rows stay right while the seats learn more.
use Rattle.std.proofs.Common.{◌≡◌, ℕ, ◌+◌, List, [], ◌∷◌, ◌++◌, append_assoc, refl, sym, ap, ◌∙◌, subst}
use Rattle.std.specs.List.{All}
use Rattle.tib_lex.proofs.Lists.{total_append}
use Rattle.tib_table.specs.Known.{GoOn, KeepNames}
use Rattle.tib_table.specs.declared.number.Number.{Number}
use Rattle.tib_table.proofs.Logs.{prefix_refl}
use Rattle.tib_table.specs.Known.{on}
use Rattle.tib_table.proofs.Closing.{names_kept}
use Rattle.tib_workers.specs.Rows.{NameOn, IsRowOf, AreRowsFrom, parts_in}
use Rattle.tib_workers.specs.declared.row.Row.{Row}

pub parts_append : {T : Type 0} (xs ys : List (Row T)) → parts_in (xs ++ ys) ≡ parts_in xs + parts_in ys
parts_append {T} = total_append (λ (row : Row T). row.parts)

module _ {K : Type 0} where
  pub go_refl : (xss : List (List K)) → GoOn xss xss
  go_refl xss shelf = prefix_refl (on xss shelf) (on xss shelf) refl

  pub go_trans : (xss yss zss : List (List K)) → GoOn xss yss → GoOn yss zss → GoOn xss zss
  go_trans xss yss zss a b shelf = ((a shelf).0 ++ (b shelf).0, (b shelf).1 ∙ ap (λ (l : List K). l ++ (b shelf).0) (a shelf).1 ∙ append_assoc (on xss shelf) (a shelf).0 (b shelf).0)

  pub names_stay : (old new : List (List K)) → KeepNames old new → (ends : List K) (ns : List Number) → NameOn old ends ns → NameOn new ends ns
  names_stay old new keep [] [] a = tt
  names_stay old new keep [] (n ∷ ns) a = absurd a
  names_stay old new keep (k ∷ ks) [] a = absurd a
  names_stay old new keep (k ∷ ks) (n ∷ ns) a = (keep n.shelf n.place k a.0, names_stay old new keep ks ns a.1)

  named_snoc : (known : List (List K)) (ends : List K) (ns : List Number) (k : K) (n : Number) → NameOn known ends ns → NameOn known (k ∷ []) (n ∷ []) → NameOn known (ends ++ k ∷ []) (ns ++ n ∷ [])
  named_snoc known [] [] k n a b = b
  named_snoc known [] (m ∷ ns) k n a b = absurd a
  named_snoc known (x ∷ xs) [] k n a b = absurd a
  named_snoc known (x ∷ xs) (m ∷ ns) k n a b = (a.0, named_snoc known xs ns k n a.1 b)

  -- one more key was numbered
  pub named_next : (old new : List (List K)) → GoOn old new → (done : List K) (ns ns' : List Number) (k : K) (n : Number) → NameOn old done ns → NameOn new (k ∷ []) (n ∷ []) → ns' ≡ ns ++ n ∷ [] → NameOn new (done ++ k ∷ []) ns'
  named_next old new more done ns ns' k n a b e = subst (NameOn new (done ++ k ∷ [])) (sym e) (named_snoc new done ns k n (names_stay old new (names_kept old new more) done ns a) b)

module _ {D K T : Type 0} (gives : D → ℕ → List K → T → ℕ → Type 0) (count_of : D → ℕ) (d : D) where
  pub row_stays : (old new : List (List K)) → KeepNames old new → (row : Row T) → IsRowOf gives count_of d old row → IsRowOf gives count_of d new row
  row_stays old new keep row a = (a.0, (a.1.0, a.1.1, names_stay old new keep a.1.0 row.ends.items a.1.2))

  pub rows_stay : (old new : List (List K)) → KeepNames old new → (rows : List (Row T)) → All (IsRowOf gives count_of d old) rows → All (IsRowOf gives count_of d new) rows
  rows_stay old new keep rows a k x l = row_stays old new keep (get k x) (a k x l)
    where
      get : ℕ → Row T → Row T
      get k x = Rattle.std.specs.Prelude.slice_index_or rows k x

  pub in_order_stay : (old new : List (List K)) → KeepNames old new → (n : ℕ) (rows : List (Row T)) → AreRowsFrom gives count_of d old n rows → AreRowsFrom gives count_of d new n rows
  in_order_stay old new keep n [] a = tt
  in_order_stay old new keep n (row ∷ rows) a = (a.0, row_stays old new keep row a.1, in_order_stay old new keep (n + 1) rows a.2)
