-- What is left, piece by piece.
use Rattle.std.specs.Prelude.{◌≡◌, ℕ, ◌+◌, ◌-◌, ◌<◌, ◌≤◌, Bool, List, [], ◌∷◌, ◌++◌, length, take, Option, None, Some, refl, false}
use Rattle.std.proofs.Common.{zero, suc, arith, ap, sym, ◌∙◌, subst, get_or, le_refl, inl, inr, append-nil, append_assoc, ltb}
use Rattle.std.specs.Global.{Vec}
use Rattle.std.proofs.lemmas.Bool.Decides.{nat_tests}
use Rattle.std.proofs.lemmas.List.{length-append}
use Rattle.tib_lex.specs.Lists.{Has}
use Rattle.tib_tree.specs.Trees.{Trees, none, tree, only, join}
use Rattle.tib_grammar.specs.Sides.{Symbol, label, hole, Side as SideFor}
use Rattle.tib_cost.specs.Semiring.{most, cut, ProductLaws}
use Rattle.tib_cost.specs.Least.{times}
use Rattle.tib_lex.proofs.Numbers.{nat_le_cases}
use Rattle.tib_transducer.specs.declared.Pair.{Pair}
use Rattle.tib_transducer.specs.declared.TransducerRule.{TransducerRule}
use Rattle.tib_key_edges.specs.Translations.{choice_cost}
use Rattle.tib_key_edges.specs.Choices.{choices_at, choices_of}
use Rattle.tib_key_edges.specs.Completions.{completions}
use Rattle.tib_key_edges.specs.Pieces.{Piece as PieceOf, put, read, sides_of, states_of}
use Rattle.tib_key_edges.proofs.Choosing.{has_joins}
use Rattle.tib_key_edges.proofs.Searching.{cost_join}
use Rattle.tib_compose.specs.PieceViews.{piece_of}
use Rattle.tib_compose.specs.Pending.{IsAtLeast, task_at, BoundsPiece, BoundsAll, Stands, Holds, Extends}
use Rattle.tib_compose.specs.declared.pending.Piece.{Piece}
use Rattle.tib_compose.specs.declared.pending.PendingPiece.{PendingPiece}
use Rattle.tib_compose.specs.declared.pending.Pending.{Pending}
use Rattle.tib_compose.specs.declared.branch.Branch.{Branch}
use Rattle.tib_compose.specs.Branches.{OnlyPutsOut}

-- the choices of a side do not depend on what comes after it
choices_first : (two : List (TransducerRule ℕ)) (s : Symbol ℕ (Pair ℕ)) (kids rest : Trees (Symbol ℕ (Pair ℕ))) (p : ℕ) → choices_at two (tree s kids rest) 0 p ≡ choices_at two (tree s kids none) 0 p
choices_first two (label f) kids rest p = refl
choices_first two (hole x) kids rest p = refl

module _ {levelled weighted : Bool} {product : ℕ → ℕ → ℕ} (laws : ProductLaws levelled weighted product) where
  -- the product of two bounds is a bound of the product
  pub product_bounds : (v w : Option ℕ) (m n : ℕ) → IsAtLeast v m → IsAtLeast w n → IsAtLeast (times product v w) (product m n)
  product_bounds None None m n a b = let k = laws.at_least m n in omega (arith, a, k)
  product_bounds None (Some x) m n a b = let k = laws.at_least m n in omega (arith, a, k)
  product_bounds (Some x) None m n a b = let k = laws.at_least n m in let e = laws.commutes m n in omega (arith, b, k, e)
  product_bounds (Some x) (Some y) m n a b =
      let first : product x y ≤ product x n = laws.grows x y n b in
      let second : product n x ≤ product n m = laws.grows n x m a in
      let e = laws.commutes x n in
      let f = laws.commutes n m in
      let all : product x y ≤ product m n = omega (arith, first, second, e, f) in
      elim (nat_le_cases (product x y) most) [ inl k ↦ rw k.1 all | inr k ↦ rw k.1 (let g = k.0 in omega (arith, g, all)) ]

  module _ (two : List (TransducerRule ℕ)) where
    -- a piece more, with its bound
    pub piece_bounds : (w : PieceOf) (ws : List PieceOf) (v u : Option ℕ) → BoundsPiece product two w v → BoundsAll product two ws u → BoundsAll product two (w ∷ ws) (times product v u)
    piece_bounds (put f n) ws v u a b c h = rw a (nothing u c h (b c h))
      where
        nothing : (u : Option ℕ) (c : Trees (Option ℕ)) → Has (completions two (sides_of ws) (states_of ws)) c → IsAtLeast u (choice_cost product two c) → IsAtLeast (times product (Some 0) u) (choice_cost product two c)
        nothing None c h a = a
        nothing (Some x) c h a = elim (nat_le_cases (product 0 x) most) [
          | inl k ↦ rw k.1 (let e = laws.neutral x in omega (arith, e, a))
          | inr k ↦ rw k.1 (let e = laws.neutral x in let g = k.0 in omega (arith, e, a, g))
        ]
    piece_bounds (read s p) ws v u a b c h =
        let j = has_joins (choices_at two (tree s.label s.kids (sides_of ws)) 0 p) (completions two (sides_of ws) (states_of ws)) c h in
        let first : Has (choices_of two p s) j.0 = subst (λ cs. Has cs j.0) (choices_first two s.label s.kids (sides_of ws) p) j.2 in
        subst (IsAtLeast (times product v u)) (sym (cost_join laws two j.0 j.1) ∙ ap (choice_cost product two) j.4)
        (product_bounds v u (choice_cost product two j.0) (choice_cost product two j.1) (a j.0 first) (b j.1 j.3))

get_append : {A : Type 0} (xs ys : List A) (i : ℕ) (d : A) → i < length xs → get_or (xs ++ ys) i d ≡ get_or xs i d
get_append [] ys i d h = absurd (omega arith)
get_append (x ∷ xs) ys zero d h = refl
get_append (x ∷ xs) ys (suc i) d h = get_append xs ys i d (omega arith)

get_seam : {A : Type 0} (xs : List A) (y d : A) → get_or (xs ++ y ∷ []) (length xs) d ≡ y
get_seam [] y d = refl
get_seam (x ∷ xs) y d = get_seam xs y d

module _ (product : ℕ → ℕ → ℕ) (two : List (TransducerRule ℕ)) (pairs : List (Symbol ℕ (Pair ℕ) × ℕ)) where
  -- tasks after the others change nothing
  pub stands_longer : (tasks more : List PendingPiece) (ws : List PieceOf) (n : ℕ) → Stands product two pairs tasks n ws → Stands product two pairs (tasks ++ more) n ws
  stands_longer tasks more [] n h = h
  stands_longer tasks more (w ∷ ws) n h =
      let low : n - 1 < length tasks = let a = h.0 in let b = h.1 in omega (arith, a, b) in
      let same : task_at (tasks ++ more) (n - 1) ≡ task_at tasks (n - 1) = get_append tasks more (n - 1) _ low in (
        h.0,
        (let b = h.1 in omega (arith, b, length-append tasks more)),
        ap (λ (t : PendingPiece). piece_of pairs t.piece) same ∙ h.2,
        subst (λ (t : PendingPiece). t.rest < n) (sym same) h.3,
        subst (λ (t : PendingPiece). BoundsAll product two (w ∷ ws) t.bound) (sym same) h.4,
        subst (λ (t : PendingPiece). Stands product two pairs (tasks ++ more) t.rest ws) (sym same) (stands_longer tasks more ws (task_at tasks (n - 1)).rest h.5),
      )

  -- the number of the next task is one of a task
  pub stands_within : (tasks : List PendingPiece) (ws : List PieceOf) (n : ℕ) → Stands product two pairs tasks n ws → n ≤ length tasks
  stands_within tasks [] n h = omega (arith, h)
  stands_within tasks (w ∷ ws) n h = h.1

  -- where no number is left nothing is left
  pub none_left : (tasks : List PendingPiece) (ws : List PieceOf) (n : ℕ) → n ≡ 0 → Stands product two pairs tasks n ws → ws ≡ []
  none_left tasks [] n e h = refl
  none_left tasks (w ∷ ws) n e h = absurd (let a = h.0 in omega (arith, a, e))

  -- a number is one of a task
  pub one_left : (tasks : List PendingPiece) (ws : List PieceOf) (n : ℕ) → 0 < n → length tasks ≤ n - 1 → Stands product two pairs tasks n ws → ⊥
  one_left tasks ws n e h s = let b = stands_within tasks ws n s in omega (arith, e, h, b)

  -- the next piece is that of the next task
  pub next_left : (tasks : List PendingPiece) (ws : List PieceOf) (n : ℕ) (t : PendingPiece) → 0 < n → t ≡ task_at tasks (n - 1) → Stands product two pairs tasks n ws →
      (rest : List PieceOf) × (ws ≡ piece_of pairs t.piece ∷ rest) × (t.rest < n) × BoundsAll product two ws t.bound × Stands product two pairs tasks t.rest rest
  next_left tasks [] n t b e h = absurd (omega (arith, b, h))
  next_left tasks (w ∷ ws) n t b e h = (
    ws,
    ap (λ x. x ∷ ws) (sym h.2) ∙ ap (λ (x : PendingPiece). piece_of pairs x.piece ∷ ws) (sym e),
    subst (λ (x : PendingPiece). x.rest < n) (sym e) h.3,
    subst (λ (x : PendingPiece). BoundsAll product two (w ∷ ws) x.bound) (sym e) h.4,
    subst (λ (x : PendingPiece). Stands product two pairs tasks x.rest ws) (sym e) h.5,
  )

  -- a task more, before what was left
  pub task_put :
      (tasks new : List PendingPiece) (t : PendingPiece) (ws : List PieceOf) (n k : ℕ) → new ≡ tasks ++ t ∷ [] → k ≡ length new → t.rest ≡ n → BoundsAll product two (piece_of pairs t.piece ∷ ws) t.bound →
      Stands product two pairs tasks n ws → Stands product two pairs new k (piece_of pairs t.piece ∷ ws)
  task_put tasks new t ws n k e at rest bound h =
      let long : length new ≡ length tasks + 1 = ap length e ∙ length-append tasks (t ∷ []) in
      let place : k - 1 ≡ length tasks = omega (arith, at, long) in
      let is : task_at new (k - 1) ≡ t = ap (task_at new) place ∙ ap (λ ts. task_at ts (length tasks)) e ∙ get_seam tasks t _ in
      let within = stands_within tasks ws n h in (
        omega (arith, at, long),
        omega (arith, at),
        ap (λ (x : PendingPiece). piece_of pairs x.piece) is,
        subst (λ (x : PendingPiece). x.rest < k) (sym is) (omega (arith, rest, within, at, long)),
        subst (λ (x : PendingPiece). BoundsAll product two (piece_of pairs t.piece ∷ ws) x.bound) (sym is) bound,
        subst (λ (x : PendingPiece). Stands product two pairs new x.rest ws) (sym is)
            (subst (λ ts. Stands product two pairs ts t.rest ws) (sym e) (subst (λ m. Stands product two pairs (tasks ++ t ∷ []) m ws) (sym rest) (stands_longer tasks (t ∷ []) ws n h))),
      )

  -- nothing left costs nothing
  pub none_bounds : BoundsAll product two [] (Some 0)
  none_bounds c h = omega arith

-- nothing is put out
pub puts_nothing : (b : Branch) → OnlyPutsOut b b
puts_nothing b = record { cost = refl; tasks = refl; done = ([], sym (append-nil b.done.items)) }

-- one puts out after the other
pub puts_both : (a b c : Branch) → OnlyPutsOut a b → OnlyPutsOut b c → OnlyPutsOut a c
puts_both a b c x y = record {
  cost = y.cost ∙ x.cost;
  tasks = y.tasks ∙ x.tasks;
  done = (x.done.0 ++ y.done.0, y.done.1 ∙ ap (λ xs. xs ++ y.done.0) x.done.1 ∙ append_assoc a.done.items x.done.0 y.done.0);
}

-- the same tasks from the same number on
pub stands_moved : (product : ℕ → ℕ → ℕ) (two : List (TransducerRule ℕ)) (pairs : List (Symbol ℕ (Pair ℕ) × ℕ)) (old new : Pending) (ws : List PieceOf) → new.tasks ≡ old.tasks → new.next ≡ old.next → Holds product two pairs old ws → Holds product two pairs new ws
stands_moved product two pairs old new ws e f h =
    subst (λ n. Stands product two pairs new.tasks.items n ws) (sym f) (subst (λ (ts : Vec PendingPiece). Stands product two pairs ts.items old.next ws) (sym e) h)

-- a test that an index is within fails beyond
pub beyond : {A : Type 0} (xs ys : List A) (i : ℕ) → xs ≡ ys → false ≡ ltb i (length xs) → length ys ≤ i
beyond xs ys i e h = let f : length xs ≡ length ys = ap length e in grind (arith, nat_tests)

-- one list goes on after the other
pub extends_both : {A : Type 0} (xs ys zs : List A) → Extends xs ys → Extends ys zs → Extends xs zs
extends_both xs ys zs a b = (a.0 ++ b.0, b.1 ∙ ap (λ l. l ++ b.0) a.1 ∙ append_assoc xs a.0 b.0)
