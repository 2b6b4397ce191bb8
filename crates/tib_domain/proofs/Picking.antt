-- The trees at some places of a list.
use Rattle.std.specs.Prelude.{◌≡◌, ℕ, ◌+◌, ◌<◌, List, [], ◌∷◌, ◌++◌, length, refl}
use Rattle.std.specs.List.{range_with_len}
use Rattle.std.proofs.Common.{zero, suc, arith, ap, sym, ◌∙◌, subst, inl, inr}
use Rattle.tib_lex.specs.Lists.{Has, Each}
use Rattle.tib_tree.specs.Trees.{Trees, none, tree, count, join, count-join}
use Rattle.tib_transducer.specs.Run.{tree_at, pick}
use Rattle.tib_domain.specs.Alphabet.{AreOver}
use Rattle.tib_domain.proofs.Symbols.{over_join, over_left, over_right}

pub join_regroup : {A : Type 0} (ts us vs : Trees A) → join (join ts us) vs ≡ join ts (join us vs)
join_regroup none us vs = refl
join_regroup (tree f kids rest) us vs = ap (tree f kids) (join_regroup rest us vs)

pub pick_append : (ts : Trees ℕ) (is js : List ℕ) → pick ts (is ++ js) ≡ join (pick ts is) (pick ts js)
pick_append ts [] js = refl
pick_append ts (i ∷ is) js = ap (join (tree_at ts i)) (pick_append ts is js) ∙ sym (join_regroup (tree_at ts i) (pick ts is) (pick ts js))

count_at : (ts : Trees ℕ) (i : ℕ) → i < count ts → count (tree_at ts i) ≡ 1
count_at none i h = absurd (omega arith)
count_at (tree f kids rest) zero h = refl
count_at (tree f kids rest) (suc i) h = count_at rest i (omega arith)

-- as many as the places, where these are in the list
pub count_pick : (ts : Trees ℕ) (is : List ℕ) → Each (λ i. i < count ts) is → count (pick ts is) ≡ length is
count_pick ts [] h = refl
count_pick ts (i ∷ is) h = count-join (tree_at ts i) (pick ts is) ∙ omega (arith, count_at ts i h.0, count_pick ts is h.1)

-- the trees from a place on
at_seam : (ts rest : Trees ℕ) (f : ℕ) (kids : Trees ℕ) (n : ℕ) → n ≡ count ts → tree_at (join ts (tree f kids rest)) n ≡ tree f kids none
at_seam none rest f kids zero e = refl
at_seam none rest f kids (suc n) e = absurd (omega (arith, e))
at_seam (tree g us ts) rest f kids zero e = absurd (omega (arith, e))
at_seam (tree g us ts) rest f kids (suc n) e = at_seam ts rest f kids n (omega (arith, e))

pick_from : (ts us : Trees ℕ) (n : ℕ) → n ≡ count ts → pick (join ts us) (range_with_len n (count us)) ≡ us
pick_from ts none n e = refl
pick_from ts (tree f kids rest) n e =
    let is : List ℕ = range_with_len (n + 1) (count rest) in
    let same : join ts (tree f kids rest) ≡ join (join ts (tree f kids none)) rest = sym (join_regroup ts (tree f kids none) rest) in
    let next : n + 1 ≡ count (join ts (tree f kids none)) = omega (arith, e, count-join ts (tree f kids none)) in
    ap (λ (xs : Trees ℕ). join xs (pick (join ts (tree f kids rest)) is)) (at_seam ts rest f kids n e)
    ∙ ap (tree f kids) (ap (λ (xs : Trees ℕ). pick xs is) same ∙ pick_from (join ts (tree f kids none)) rest (n + 1) next)

-- all of them, in order
pub pick_all : (ts : Trees ℕ) → pick ts (range_with_len 0 (count ts)) ≡ ts
pick_all ts = pick_from none ts 0 refl

module _ (symbols : List (ℕ × ℕ)) where
  over_at : (ts : Trees ℕ) (i : ℕ) → AreOver symbols ts → AreOver symbols (tree_at ts i)
  over_at none i o = tt
  over_at (tree f kids rest) zero o = (o.0, o.1, tt)
  over_at (tree f kids rest) (suc i) o = over_at rest i o.2

  pub over_pick : (ts : Trees ℕ) (is : List ℕ) → AreOver symbols ts → AreOver symbols (pick ts is)
  over_pick ts [] o = tt
  over_pick ts (i ∷ is) o = over_join symbols (tree_at ts i) (pick ts is) (over_at ts i o) (over_pick ts is o)

  picked_over : (ts : Trees ℕ) (is : List ℕ) (i : ℕ) → Has is i → AreOver symbols (pick ts is) → AreOver symbols (tree_at ts i)
  picked_over ts [] i h o = absurd h
  picked_over ts (j ∷ is) i h o = elim h [
    | inl e ↦ subst (λ (k : ℕ). AreOver symbols (tree_at ts k)) e (over_left symbols (tree_at ts j) (pick ts is) o)
    | inr k ↦ picked_over ts is i k (over_right symbols (tree_at ts j) (pick ts is) o)
  ]

  each_over : (ts : Trees ℕ) → ((i : ℕ) → i < count ts → AreOver symbols (tree_at ts i)) → AreOver symbols ts
  each_over none h = tt
  each_over (tree f kids rest) h = let o : AreOver symbols (tree f kids none) = h 0 (omega arith) in (o.0, o.1, each_over rest (λ i b. h (suc i) (omega arith)))

  -- trees are over symbols where each is among some that are
  pub over_all : (ts : Trees ℕ) (is : List ℕ) → ((i : ℕ) → i < count ts → Has is i) → AreOver symbols (pick ts is) → AreOver symbols ts
  over_all ts is h o = each_over ts (λ i b. picked_over ts is i (h i b) o)
