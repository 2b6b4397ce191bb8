-- Where the trees of a preorder end, tree by tree.
use Rattle.std.specs.Prelude.{◌≡◌, ℕ, ◌+◌, ◌<◌, ◌≤◌, List, [], ◌∷◌, length, drop, refl}
use Rattle.std.proofs.Common.{zero, suc, arith, ap, sym, ◌∙◌, get_or, set, inl, inr, le_refl}
use Rattle.std.proofs.lemmas.List.{drop_more, get_or-set_same, get_or-set_other, get_or-map}
use Rattle.tib_lex.proofs.Numbers.{same_or_other}
use Rattle.tib_tree.specs.Trees.{Trees, none, tree, count, count-other, parse, other_trees}
use Rattle.tib_grammar.specs.Sides.{Symbol, label}
use Rattle.tib_grammar.specs.Items.{pairs_of, pair_of}
use Rattle.tib_grammar.specs.declared.Item.{Item}
use Rattle.tib_transducer.specs.declared.Pair.{Pair}
use Rattle.tib_compose.specs.Ends.{IsSkipped, AreEnds}

other_none : {A : Type 0} (n : ℕ) → other_trees {A = A} n none ≡ none
other_none zero = refl
other_none (suc n) = refl

other_more : {A : Type 0} (n : ℕ) (ts : Trees A) → other_trees 1 (other_trees n ts) ≡ other_trees (n + 1) ts
other_more zero ts = refl
other_more (suc n) none = sym (other_none (suc n + 1))
other_more (suc n) (tree f kids rest) =
    let e : suc n + 1 ≡ suc (n + 1) = omega arith in
    other_more n rest ∙ sym (ap (λ k. other_trees k (tree f kids rest)) e)

drop_all : {A : Type 0} (xs : List A) (n : ℕ) → length xs ≤ n → drop n xs ≡ []
drop_all [] zero h = refl
drop_all [] (suc n) h = refl
drop_all (x ∷ xs) zero h = absurd (omega arith)
drop_all (x ∷ xs) (suc n) h = drop_all xs n (omega arith)

module _ (pairs : List (Symbol ℕ (Pair ℕ) × ℕ)) (ends : List ℕ) (from : ℕ) where
  -- no tree is skipped
  pub none_skipped : IsSkipped pairs from 0 from
  none_skipped = (le_refl from, refl)

  -- one more tree
  pub one_skipped : (many at : ℕ) → AreEnds pairs ends from → IsSkipped pairs from many at → at < length pairs → IsSkipped pairs from (many + 1) (get_or ends at 0)
  one_skipped many at ends_known s low =
      let e = ends_known at s.0 low in (
        omega (arith, e.0, s.0),
        e.1 ∙ ap (other_trees 1) s.1 ∙ other_more many (parse (drop from pairs)),
      )

  -- after the last tree there is nothing to skip
  pub nothing_skipped : (many at : ℕ) → IsSkipped pairs from many at → length pairs ≤ at → IsSkipped pairs from (many + 1) at
  nothing_skipped many at s high =
      let empty : parse (drop at pairs) ≡ none = ap parse (drop_all pairs at high) in
      let rest : other_trees many (parse (drop from pairs)) ≡ none = sym s.1 ∙ empty in
      (s.0, empty ∙ sym (ap (other_trees 1) rest) ∙ other_more many (parse (drop from pairs)))

-- a place that begins a tree is one of the list
low_there : {A : Type 0} (xs : List (A × ℕ)) (n : ℕ) → 0 < count (parse (drop n xs)) → n < length xs
low_there [] zero h = absurd (omega (arith, h))
low_there [] (suc n) h = absurd (omega (arith, h))
low_there (x ∷ xs) zero h = omega arith
low_there (x ∷ xs) (suc n) h = omega (arith, low_there xs n h)

-- so is the place after fewer trees than there are
pub skipped_low : (pairs : List (Symbol ℕ (Pair ℕ) × ℕ)) (from many to : ℕ) → IsSkipped pairs from many to → many < count (parse (drop from pairs)) → to < length pairs
skipped_low pairs from many to s h = low_there pairs to (omega (arith, h, count-other many (parse (drop from pairs)), ap count s.1))

-- the end of one more tree is known
pub end_known :
    (pairs : List (Symbol ℕ (Pair ℕ) × ℕ)) (ends : List ℕ) (i rank end : ℕ) (d : Symbol ℕ (Pair ℕ) × ℕ) → i < length pairs → length pairs ≡ length ends → (get_or pairs i d).1 ≡ rank →
    AreEnds pairs ends (i + 1) → IsSkipped pairs (i + 1) rank end → AreEnds pairs (set ends i end) i
end_known pairs ends i rank end d low long is known s j from below = elim (same_or_other j i) [
  | inl e ↦
      let at : get_or (set ends i end) j 0 ≡ end = ap (λ k. get_or (set ends i end) k 0) e ∙ get_or-set_same ends i end 0 (omega (arith, low, long)) in
      let begins : parse (drop i pairs) ≡ parse (get_or pairs i d ∷ drop (i + 1) pairs) = ap parse (drop_more pairs i d low) in
      let whole : parse (drop end pairs) ≡ other_trees 1 (parse (drop j pairs)) =
      s.1 ∙ ap (λ n. other_trees n (parse (drop (i + 1) pairs))) (sym is) ∙ sym (ap (other_trees 1) begins) ∙ ap (λ k. other_trees 1 (parse (drop k pairs))) (sym e)
      in
      (omega (arith, at, s.0, e), ap (λ k. parse (drop k pairs)) at ∙ whole)
  | inr n ↦
      let at : get_or (set ends i end) j 0 ≡ get_or ends j 0 = get_or-set_other ends i j end 0 n in
      let k = known j (omega (arith, from, n)) below in
      (omega (arith, at, k.0), ap (λ m. parse (drop m pairs)) at ∙ k.1)
]

-- the number of children of an item
pub rank_there : (items : List (Item (Pair ℕ))) (i : ℕ) (d : Item (Pair ℕ)) → i < length items → (get_or (pairs_of items) i (label 0, 0)).1 ≡ (pair_of (get_or items i d)).1
rank_there items i d h = ap (λ x. x.1) (get_or-map pair_of items i d (label 0, 0) h)
