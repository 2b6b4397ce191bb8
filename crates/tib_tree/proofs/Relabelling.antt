-- What stays when labels are replaced, and when trees stay distinct.
use Rattle.std.specs.Prelude.{◌≡◌, ℕ, ◌<◌, List, [], ◌∷◌, length, slice_get, Some, refl}
use Rattle.std.proofs.Common.{zero, suc, arith, ap, sym, ◌∙◌, get_or}
use Rattle.tib_tree.specs.Trees.{Trees, none, tree, relabel}
use Rattle.tib_tree.specs.Growth.{text_at, LabelsBelow}
use Rattle.tib_tree.specs.Grows.{AreDistinct}
pub use Rattle.tib_tree.proofs.Counts.{sizes-relabel}

pub got : (xs : List (List ℕ)) (n : ℕ) → n < length xs → slice_get xs n ≡ Some (get_or xs n [])
got [] n h = absurd (omega arith)
got (x ∷ xs) zero h = refl
got (x ∷ xs) (suc n) h = got xs n (omega arith)

-- two labels with one text are one
pub same_text :
    (labels : List (List ℕ)) → AreDistinct labels → (f g : ℕ) → f < length labels →
    g < length labels → text_at labels f ≡ text_at labels g → f ≡ g
same_text labels d f g h k e = d.once f g (text_at labels f) (got labels f h) (got labels g k ∙ ap Some (sym e))

-- trees with the same texts are the same
pub relabel-same :
    (labels : List (List ℕ)) → AreDistinct labels → (ts us : Trees ℕ) →
    LabelsBelow (length labels) ts → LabelsBelow (length labels) us →
    relabel (text_at labels) ts ≡ relabel (text_at labels) us → ts ≡ us
relabel-same labels d none none a b e = refl
relabel-same labels d none (tree g ls more) a b e = absurd (cc)
relabel-same labels d (tree f ks rest) none a b e = absurd (cc)
relabel-same labels d (tree f ks rest) (tree g ls more) a b e =
    let root : text_at labels f ≡ text_at labels g = cc in
    let kids : relabel (text_at labels) ks ≡ relabel (text_at labels) ls = cc in
    let others : relabel (text_at labels) rest ≡ relabel (text_at labels) more = cc in
    cc (same_text labels d f g a.0 b.0 root, relabel-same labels d ks ls a.1 b.1 kids, relabel-same labels d rest more a.2 b.2 others)
