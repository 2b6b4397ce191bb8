-- Tables and shapes that are added to an index, and found there.
use Rattle.std.specs.Prelude.{◌≡◌, ℕ, ◌+◌, ◌<◌, ◌≤◌, ◌⊎◌, cond, List, [], ◌∷◌, ◌++◌, length, Option, None, Some, IfSome, refl}
use Rattle.std.specs.HashMap.{get}
use Rattle.std.specs.Option.{option_copied}
use Rattle.std.proofs.Common.{arith, ap, sym, ◌∙◌, subst, inl, inr, get_or, Bor}
use Rattle.std.proofs.lemmas.List.{get_or_append_left}
use Rattle.std.proofs.Math.Seq.{get_or-append_seam}
use Rattle.tib_grammar.specs.declared.Rule.{Rule}
use Rattle.tib_normal.specs.Index.{same_shape}
use Rattle.tib_normal.proofs.Buckets.{same_shape_cases}
use Rattle.tib_weigh.specs.declared.table.Table.{Table}
use Rattle.tib_weigh.specs.declared.index.Shape.{Shape}
use Rattle.tib_weigh.specs.declared.index.Index.{Index}
use Rattle.tib_weigh.specs.Tables.{IsTable}
use Rattle.tib_weigh.specs.Shapes.{IsShape, IsIndex}
use Rattle.tib_weigh.proofs.Flat.{same_or_less}

-- one more table
pub tables_more :
    (rules : List (Rule ℕ)) (n : ℕ) (ps : List ℕ) (k : ℕ) (old new : List Table) (made : Table) → new ≡ old ++ made ∷ [] → length old ≡ k → IsTable rules n ps k made →
    ((j : ℕ) (t : Table) → j < k → t ≡ get_or old j t → IsTable rules n ps j t) → (j : ℕ) (t : Table) → j < k + 1 → t ≡ get_or new j t → IsTable rules n ps j t
tables_more rules n ps k old new made pushed long is each j t h at = by (same_or_less j k (omega arith))
  where
    by : (j ≡ k) ⊎ (j < k) → IsTable rules n ps j t
    by (inl same) =
        let t_is : t ≡ made = at ∙ ap (λ (xs : List Table). get_or xs j t) pushed ∙ ap (λ i. get_or (old ++ made ∷ []) i t) (same ∙ sym long) ∙ get_or-append_seam old made [] t in
        subst (λ x. IsTable rules n ps j x) (sym t_is) (subst (λ i. IsTable rules n ps i made) (sym same) is)
    by (inr lt) = each j t lt (at ∙ ap (λ (xs : List Table). get_or xs j t) pushed ∙ get_or_append_left old (made ∷ []) t j (omega arith))

-- one more shape
pub index_more :
    (product : ℕ → ℕ → ℕ) (rules : List (Rule ℕ)) (look new : ℕ × ℕ → Option Shape) (g m : ℕ) (made : Shape) → ((t : ℕ × ℕ) → new t ≡ cond (same_shape (g, m) t) (Some made) (look t)) →
    IsShape product rules g m made → ((f n : ℕ) (s : Shape) → look (f, n) ≡ Some s → IsShape product rules f n s) → (f n : ℕ) (s : Shape) → new (f, n) ≡ Some s → IsShape product rules f n s
index_more product rules look new g m made updates is each f n s at = elim (same_shape_cases (g, m) (f, n)) [
  | inl y ↦
      let new_is : Some made ≡ Some s = sym (updates (f, n) ∙ rw y.1 refl) ∙ at in
      let s_is : made ≡ s = cc new_is in
      let first : g ≡ f = ap (λ x. x.0) y.0 in
      let second : m ≡ n = ap (λ x. x.1) y.0 in
      subst (λ x. IsShape product rules f n x) s_is (subst (λ i. IsShape product rules f i made) second (subst (λ i. IsShape product rules i m made) first is))
  | inr y ↦ each f n s (sym (updates (f, n) ∙ rw y.1 refl) ∙ at)
]

-- what was found
pub found :
    (product : ℕ → ℕ → ℕ) (rules : List (Rule ℕ)) (index : Index) (f n : ℕ) (o : Option (Bor Shape)) → option_copied o ≡ get same_shape index.shapes (f, n) → IsIndex product rules index →
    IfSome o (λ s. IsShape product rules f n s.now)
found product rules index f n None e h = tt
found product rules index f n (Some s) e h = h f n s.now (sym e)
