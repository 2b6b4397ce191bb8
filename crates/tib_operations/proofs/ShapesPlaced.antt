-- Sides in which each hole carries something by its place, and sides with what they carry replaced:
-- what holds at each node, and how such sides agree.
use Rattle.std.proofs.Common.{◌≡◌, ℕ, ◌+◌, ◌∷◌, length, refl, ap, sym, subst, suc, arith, append-nil}
use Rattle.std.proofs.lemmas.List.{length-append}
use Rattle.tib_lex.specs.Lists.{Each}
use Rattle.tib_lex.proofs.Lists.{each_append, each_parts}
use Rattle.tib_tree.specs.Trees.{Trees, none, tree, count, only, preorder, preorder_of, relabel}
use Rattle.tib_grammar.specs.Sides.{Symbol, label, hole, Side, holes, HolesAreLeaves, symbol_map, side_map}
use Rattle.tib_grammar_file.specs.ByText.{HaveOneShape}
use Rattle.tib_rulewise.specs.Placed.{placed, placed_side}
use Rattle.tib_rulewise.proofs.Placed.{placed-only}

-- the preorder of a side is that of one tree
pub only_is : {P : Type 0} (s : Side ℕ P) → preorder (only s) ≡ preorder_of s
only_is s = ap (λ ps. (s.label, count s.kids) ∷ ps) (append-nil (preorder s.kids))

module _ {P Q : Type 0} (A : Symbol ℕ P → Type 0) (B : Symbol ℕ Q → Type 0) (of_label : (f : ℕ) → A (label f) → B (label f)) where
  each_placed : (g : ℕ → P → Q) → ((n : ℕ) (p : P) → B (hole (g n p))) → (n : ℕ) (ts : Trees (Symbol ℕ P)) → Each (λ (s : Symbol ℕ P × ℕ). A s.0) (preorder ts) → Each (λ (s : Symbol ℕ Q × ℕ). B s.0) (preorder (placed g n ts))
  each_placed g of_hole n none h = tt
  each_placed g of_hole n (tree (label f) kids rest) h =
      let parts = each_parts (λ (s : Symbol ℕ P × ℕ). A s.0) (preorder kids) (preorder rest) h.1 in (
        of_label f h.0,
        each_append (λ (s : Symbol ℕ Q × ℕ). B s.0) (preorder (placed g n kids)) (preorder (placed g (n + length (holes kids)) rest)) (each_placed g of_hole n kids parts.0)
            (each_placed g of_hole (n + length (holes kids)) rest parts.1),
      )
  each_placed g of_hole n (tree (hole p) kids rest) h =
      (of_hole n p, each_placed g of_hole (suc n) rest (each_parts (λ (s : Symbol ℕ P × ℕ). A s.0) (preorder kids) (preorder rest) h.1).1)

  -- what holds at each node of a side by place
  pub each_in_placed :
      (g : ℕ → P → Q) → ((n : ℕ) (p : P) → B (hole (g n p))) → (s : Side ℕ P) → Each (λ (x : Symbol ℕ P × ℕ). A x.0) (preorder_of s) → Each (λ (x : Symbol ℕ Q × ℕ). B x.0) (preorder_of (placed_side g s))
  each_in_placed g of_hole s h =
      subst (Each (λ (x : Symbol ℕ Q × ℕ). B x.0)) (only_is (placed_side g s))
      (subst (λ (ts : Trees (Symbol ℕ Q)). Each (λ (x : Symbol ℕ Q × ℕ). B x.0) (preorder ts)) (sym (placed-only g s))
      (each_placed g of_hole 0 (only s) (subst (Each (λ (x : Symbol ℕ P × ℕ). A x.0)) (sym (only_is s)) h)))

  each_relabelled : (g : P → Q) → ((p : P) → B (hole (g p))) → (ts : Trees (Symbol ℕ P)) → Each (λ (s : Symbol ℕ P × ℕ). A s.0) (preorder ts) → Each (λ (s : Symbol ℕ Q × ℕ). B s.0) (preorder (relabel (symbol_map g) ts))
  each_relabelled g of_hole none h = tt
  each_relabelled g of_hole (tree (label f) kids rest) h =
      let parts = each_parts (λ (s : Symbol ℕ P × ℕ). A s.0) (preorder kids) (preorder rest) h.1 in (
        of_label f h.0,
        each_append (λ (s : Symbol ℕ Q × ℕ). B s.0) (preorder (relabel (symbol_map g) kids)) (preorder (relabel (symbol_map g) rest)) (each_relabelled g of_hole kids parts.0)
            (each_relabelled g of_hole rest parts.1),
      )
  each_relabelled g of_hole (tree (hole p) kids rest) h =
      let parts = each_parts (λ (s : Symbol ℕ P × ℕ). A s.0) (preorder kids) (preorder rest) h.1 in (
        of_hole p,
        each_append (λ (s : Symbol ℕ Q × ℕ). B s.0) (preorder (relabel (symbol_map g) kids)) (preorder (relabel (symbol_map g) rest)) (each_relabelled g of_hole kids parts.0)
            (each_relabelled g of_hole rest parts.1),
      )

  -- what holds at each node of a side with what it carries replaced
  pub each_in_relabelled :
      (g : P → Q) → ((p : P) → B (hole (g p))) → (s : Side ℕ P) → Each (λ (x : Symbol ℕ P × ℕ). A x.0) (preorder_of s) → Each (λ (x : Symbol ℕ Q × ℕ). B x.0) (preorder_of (side_map g s))
  each_in_relabelled g of_hole s h =
      subst (Each (λ (x : Symbol ℕ Q × ℕ). B x.0)) (only_is (side_map g s))
      (each_relabelled g of_hole (only s) (subst (Each (λ (x : Symbol ℕ P × ℕ). A x.0)) (sym (only_is s)) h))

leaves_placed : {P Q : Type 0} (g : ℕ → P → Q) (n : ℕ) (ts : Trees (Symbol ℕ P)) → HolesAreLeaves (placed g n ts)
leaves_placed g n none = tt
leaves_placed g n (tree (label f) kids rest) = (leaves_placed g n kids, leaves_placed g (n + length (holes kids)) rest)
leaves_placed g n (tree (hole p) kids rest) = leaves_placed g (suc n) rest

-- nothing is below a hole of a side by place
pub placed_ends : {P Q : Type 0} (g : ℕ → P → Q) (s : Side ℕ P) → HolesAreLeaves (only (placed_side g s))
placed_ends {Q = Q} g s = subst (λ (ts : Trees (Symbol ℕ Q)). HolesAreLeaves ts) (sym (placed-only g s)) (leaves_placed g 0 (only s))

-- sides that agree still agree by place
module _
    {P Q : Type 0} (R : Symbol ℕ P → Symbol ℕ P → Type 0) (S : Symbol ℕ Q → Symbol ℕ Q → Type 0) (g : ℕ → P → Q) (of_labels : (f k : ℕ) → R (label f) (label k) → S (label f) (label k))
    (of_holes : (n : ℕ) (p q : P) → R (hole p) (hole q) → S (hole (g n p)) (hole (g n q))) (not_left : (f : ℕ) (p : P) → R (label f) (hole p) → ⊥) (not_right : (p : P) (f : ℕ) → R (hole p) (label f) → ⊥) where
  pub as_many_holes : (ts us : Trees (Symbol ℕ P)) → HaveOneShape R ts us → length (holes ts) ≡ length (holes us)
  as_many_holes none none h = refl
  as_many_holes none (tree t below more) h = absurd h
  as_many_holes (tree s kids rest) none h = absurd h
  as_many_holes (tree (label f) kids rest) (tree (label k) below more) h =
      omega (arith, length-append (holes kids) (holes rest), length-append (holes below) (holes more), as_many_holes kids below h.1, as_many_holes rest more h.2)
  as_many_holes (tree (label f) kids rest) (tree (hole q) below more) h = absurd (not_left f q h.0)
  as_many_holes (tree (hole p) kids rest) (tree (label k) below more) h = absurd (not_right p k h.0)
  as_many_holes (tree (hole p) kids rest) (tree (hole q) below more) h = ap suc (as_many_holes rest more h.2)

  agree_placed : (n : ℕ) (ts us : Trees (Symbol ℕ P)) → HaveOneShape R ts us → HaveOneShape S (placed g n ts) (placed g n us)
  agree_placed n none none h = tt
  agree_placed n none (tree t below more) h = absurd h
  agree_placed n (tree s kids rest) none h = absurd h
  agree_placed n (tree (label f) kids rest) (tree (label k) below more) h = (
    of_labels f k h.0,
    agree_placed n kids below h.1,
    subst (λ (m : ℕ). HaveOneShape S (placed g (n + length (holes kids)) rest) (placed g (n + m) more)) (as_many_holes kids below h.1) (agree_placed (n + length (holes kids)) rest more h.2),
  )
  agree_placed n (tree (label f) kids rest) (tree (hole q) below more) h = absurd (not_left f q h.0)
  agree_placed n (tree (hole p) kids rest) (tree (label k) below more) h = absurd (not_right p k h.0)
  agree_placed n (tree (hole p) kids rest) (tree (hole q) below more) h = (of_holes n p q h.0, tt, agree_placed (suc n) rest more h.2)

  pub placed_agree : (s t : Side ℕ P) → HaveOneShape R (only s) (only t) → HaveOneShape S (only (placed_side g s)) (only (placed_side g t))
  placed_agree s t h =
      subst (λ (us : Trees (Symbol ℕ Q)). HaveOneShape S (only (placed_side g s)) us) (sym (placed-only g t))
      (subst (λ (ts : Trees (Symbol ℕ Q)). HaveOneShape S ts (placed g 0 (only t))) (sym (placed-only g s)) (agree_placed 0 (only s) (only t) h))
