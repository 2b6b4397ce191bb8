-- Filling the holes of sides.
use Rattle.std.specs.Prelude.{◌⊎◌, true, false}
use Rattle.std.proofs.Common.{inl, inr, ◌≡◌, ℕ, List, [], ◌∷◌, length, map, refl, zero, suc, arith, ap, sym, ◌∙◌, length-append, Err}
use Rattle.std.proofs.lemmas.List.{length-map, map-append}
use Rattle.tib_tree.specs.Trees.{Trees, none, tree, count, first_trees, other_trees, only, relabel, preorder, count-other, preorder_of, parse, parse_of}
use Rattle.tib_grammar.specs.Sides.{Symbol, label, hole, Side, holes, holes_of, fill, is_label, AreHoles, HolesAreLeaves, leaves, over, Lone, symbol_map}
use Rattle.tib_lex.proofs.Lists.{append_nil}
use Rattle.tib_lex.proofs.Numbers.{nat_eq_cases, nat_eq-true}
use Rattle.std.specs.declared.result.Result.{Result}
use Rattle.tib_tree.specs.declared.preorder.ShapeError.{ShapeError}
use Rattle.tib_tree.specs.declared.preorder.ShapeError.TheVariants.{NotATree, OutOfMemory}

pub count-fill : {A P : Type 0} (s : Trees (Symbol A P)) (ts : Trees A) → count ts ≡ length (holes s) → count (fill s ts) ≡ count s
count-fill none ts h = refl
count-fill (tree (label f) kids rest) ts h =
    ap suc (count-fill rest (other_trees (length (holes kids)) ts) (omega (arith, count-other (length (holes kids)) ts, length-append (holes kids) (holes rest))))
count-fill (tree (hole p) kids rest) none h = absurd (omega arith)
count-fill (tree (hole p) kids rest) (tree f us ts) h = ap suc (count-fill rest ts (omega arith))

pub fill-AreHoles : {A P : Type 0} (s : Trees (Symbol A P)) (ts : Trees A) → AreHoles s → count ts ≡ length (holes s) → fill s ts ≡ ts
fill-AreHoles none none a h = refl
fill-AreHoles none (tree f us ts) a h = absurd (omega arith)
fill-AreHoles (tree (label f) kids rest) ts a h = absurd a
fill-AreHoles (tree (hole p) kids rest) none a h = absurd (omega arith)
fill-AreHoles (tree (hole p) kids rest) (tree f us ts) a h = ap (tree f us) (fill-AreHoles rest ts a (omega arith))

pub first_all : {A : Type 0} (ts : Trees A) (n : ℕ) → n ≡ count ts → first_trees n ts ≡ ts
first_all none zero h = refl
first_all none (suc n) h = refl
first_all (tree f kids rest) zero h = absurd (omega arith)
first_all (tree f kids rest) (suc n) h = ap (tree f kids) (first_all rest n (omega arith))

pub holes_of-label : (s : Symbol ℕ ℕ) (kids : Trees (Symbol ℕ ℕ)) (f : ℕ) → s ≡ label f → holes (tree s kids none) ≡ holes kids
holes_of-label (label g) kids f e = append_nil (holes kids)
holes_of-label (hole p) kids f e = absurd (cc)

pub fill-normal :
    (s : Symbol ℕ ℕ) (kids : Trees (Symbol ℕ ℕ)) (f : ℕ) (ts : Trees ℕ) → s ≡ label f → AreHoles kids →
    count ts ≡ length (holes kids) → fill (tree s kids none) ts ≡ tree f ts none
fill-normal (label g) kids f ts e a h =
    let g_is : g ≡ f = cc in
    ap (λ us. tree g us none) (ap (fill kids) (first_all ts (length (holes kids)) (sym h)) ∙ fill-AreHoles kids ts a h)
    ∙ ap (λ x. tree x ts none) g_is
fill-normal (hole p) kids f ts e a h = absurd (cc)

-- the holes of some leaves, and that they are holes and leaves
pub holes-leaves : (A : Type 0) {P : Type 0} (ps : List P) → holes {A = A} (leaves ps) ≡ ps
holes-leaves A [] = refl
holes-leaves A (p ∷ ps) = ap (λ qs. p ∷ qs) (holes-leaves A ps)

pub AreHoles-leaves : (A : Type 0) {P : Type 0} (ps : List P) → AreHoles {A = A} (leaves ps)
AreHoles-leaves A [] = tt
AreHoles-leaves A (p ∷ ps) = AreHoles-leaves A ps

pub leaves-holes : {A P : Type 0} (s : Trees (Symbol A P)) → AreHoles s → HolesAreLeaves s → s ≡ leaves (holes s)
leaves-holes none a h = refl
leaves-holes (tree (label f) kids rest) a h = absurd a
leaves-holes (tree (hole p) none rest) a h = ap (tree (hole p) none) (leaves-holes rest a h)
leaves-holes (tree (hole p) (tree s kids more) rest) a h = absurd h

-- a label over holes that are leaves is that label over what they carry
pub over-from : {A P : Type 0} (s : Side A P) (f : A) → s.label ≡ label f → AreHoles s.kids → HolesAreLeaves (only s) → s ≡ over f (holes s.kids)
over-from {A} {P} s f e a h = by s.label s.kids f e a h
  where
    by :
        (x : Symbol A P) (kids : Trees (Symbol A P)) (f : A) → x ≡ label f → AreHoles kids → HolesAreLeaves (tree x kids none) →
        ◌≡◌ {A = Side A P} (record { label = x; kids = kids }) (over f (holes kids))
    by (label g) kids f e a h =
        let inner : kids ≡ leaves (holes kids) = leaves-holes kids a h.0 in
        ap (λ ks. record { label = label g; kids = ks }) inner ∙ ap (λ x. record { label = x; kids = leaves (holes kids) }) e
    by (hole p) kids f e a h = absurd (cc)

pub holes_of-over : {A P : Type 0} (f : A) (ps : List P) → holes_of (over f ps) ≡ ps
holes_of-over {A} f ps = append_nil (holes (leaves ps)) ∙ holes-leaves A ps

-- where holes are leaves, a side with a hole at its root is that hole
pub Lone-from : {A P : Type 0} (s : Side A P) (p : P) → HolesAreLeaves (only s) → s.label ≡ hole p → s ≡ Lone p
Lone-from {A} {P} s p h e = by s.label s.kids p h e
  where
    by : (x : Symbol A P) (kids : Trees (Symbol A P)) (p : P) → HolesAreLeaves (tree x kids none) → x ≡ hole p → ◌≡◌ {A = Side A P} (record { label = x; kids = kids }) (Lone p)
    by (label f) kids p h e = absurd (cc)
    by (hole q) none p h e = ap (λ x. record { label = x; kids = none }) e
    by (hole q) (tree s more rest) p h e = absurd h

-- replacing what the holes carry replaces what they carry, and nothing else
pub holes-relabel : {A P Q : Type 0} (g : P → Q) (s : Trees (Symbol A P)) → holes (relabel (symbol_map g) s) ≡ map g (holes s)
holes-relabel g none = refl
holes-relabel g (tree (label f) kids rest) = cc (holes-relabel g kids, holes-relabel g rest, map-append g (holes kids) (holes rest))
holes-relabel g (tree (hole p) kids rest) = ap (λ zs. g p ∷ zs) (holes-relabel g rest)

pub fill-relabel : {A P Q : Type 0} (g : P → Q) (s : Trees (Symbol A P)) (ts : Trees A) → fill (relabel (symbol_map g) s) ts ≡ fill s ts
fill-relabel g none ts = refl
fill-relabel g (tree (label f) kids rest) ts =
    let n : length (holes (relabel (symbol_map g) kids)) ≡ length (holes kids) = ap length (holes-relabel g kids) ∙ length-map (holes kids) g in
    let one : fill (relabel (symbol_map g) kids) (first_trees (length (holes (relabel (symbol_map g) kids))) ts) ≡ fill kids (first_trees (length (holes kids)) ts) =
    fill-relabel g kids (first_trees (length (holes (relabel (symbol_map g) kids))) ts) ∙ ap (λ m. fill kids (first_trees m ts)) n
    in
    let two : fill (relabel (symbol_map g) rest) (other_trees (length (holes (relabel (symbol_map g) kids))) ts) ≡ fill rest (other_trees (length (holes kids)) ts) =
    fill-relabel g rest (other_trees (length (holes (relabel (symbol_map g) kids))) ts) ∙ ap (λ m. fill rest (other_trees m ts)) n
    in
    cc (one, two)
fill-relabel g (tree (hole p) kids rest) none = refl
fill-relabel g (tree (hole p) kids rest) (tree f us ts) = ap (tree f us) (fill-relabel g rest ts)

-- leaves are as many as what they carry, and so is their preorder
pub count-leaves : (A : Type 0) {P : Type 0} (ps : List P) → count {A = Symbol A P} (leaves ps) ≡ length ps
count-leaves A [] = refl
count-leaves A (p ∷ ps) = ap suc (count-leaves A ps)

pub preorder-leaves : (A : Type 0) {P : Type 0} (ps : List P) → preorder {A = Symbol A P} (leaves ps) ≡ map (λ p. (hole p, 0)) ps
preorder-leaves A [] = refl
preorder-leaves A (p ∷ ps) = ap (λ xs. (hole p, 0) ∷ xs) (preorder-leaves A ps)

-- the first trees and the others end in holes where all do
pub HolesAreLeaves-first : {A P : Type 0} (n : ℕ) (ts : Trees (Symbol A P)) → HolesAreLeaves ts → HolesAreLeaves (first_trees n ts)
HolesAreLeaves-first zero ts h = tt
HolesAreLeaves-first (suc n) none h = tt
HolesAreLeaves-first (suc n) (tree (label f) kids rest) h = (h.0, HolesAreLeaves-first n rest h.1)
HolesAreLeaves-first (suc n) (tree (hole p) none rest) h = HolesAreLeaves-first n rest h
HolesAreLeaves-first (suc n) (tree (hole p) (tree s kids more) rest) h = absurd h

pub HolesAreLeaves-other : {A P : Type 0} (n : ℕ) (ts : Trees (Symbol A P)) → HolesAreLeaves ts → HolesAreLeaves (other_trees n ts)
HolesAreLeaves-other zero ts h = h
HolesAreLeaves-other (suc n) none h = tt
HolesAreLeaves-other (suc n) (tree (label f) kids rest) h = HolesAreLeaves-other n rest h.1
HolesAreLeaves-other (suc n) (tree (hole p) none rest) h = HolesAreLeaves-other n rest h
HolesAreLeaves-other (suc n) (tree (hole p) (tree s kids more) rest) h = absurd h

-- a symbol is the label f and passes the test, or is not and fails it
pub is_label_cases : (s : Symbol ℕ ℕ) (f : ℕ) → ((s ≡ label f) × (is_label f s ≡ true)) ⊎ ((s ≡ label f → ⊥) × (is_label f s ≡ false))
is_label_cases (label g) f = elim (nat_eq_cases g f) [ inl h ↦ inl (ap label h.0, h.1) | inr h ↦ inr (λ e. h.0 (cc e), h.1) ]
is_label_cases (hole p) f = inr (λ e. cc, refl)

-- a symbol that passes the test of a label is that label
pub is_label-true : {P : Type 0} (f : ℕ) (s : Symbol ℕ P) → is_label f s ≡ true → s ≡ label f
is_label-true f (label g) e = ap label (nat_eq-true g f e)
is_label-true f (hole p) e = absurd (cc)

-- a label is no hole
pub label_is_no_hole : (f p : ℕ) → ◌≡◌ {A = Symbol ℕ ℕ} (label f) (hole p) → ⊥
label_is_no_hole f p e = absurd (cc)

-- holes, and labels, that are the same carry the same
pub same_hole : (q p : ℕ) → ◌≡◌ {A = Symbol ℕ ℕ} (hole q) (hole p) → q ≡ p
same_hole q p e = cc

pub same_label : (f g : ℕ) → ◌≡◌ {A = Symbol ℕ ℕ} (label f) (label g) → f ≡ g
same_label f g e = cc

-- a symbol is one label at most
pub one_label : {P : Type 0} (f g : ℕ) (s : Symbol ℕ P) → s ≡ label f → s ≡ label g → f ≡ g
one_label f g (label h) e k = cc
one_label f g (hole p) e k = absurd (cc)

-- a symbol whose state is replaced by itself is the same
pub symbol_itself : (s : Symbol ℕ ℕ) → symbol_map (λ (q : ℕ). q) s ≡ s
symbol_itself (label f) = refl
symbol_itself (hole q) = refl

-- holes carry as many values as they are trees
pub length-holes : {A P : Type 0} (kids : Trees (Symbol A P)) → AreHoles kids → length (holes kids) ≡ count kids
length-holes none a = refl
length-holes (tree (label f) ks rest) a = absurd a
length-holes (tree (hole p) ks rest) a = ap suc (length-holes rest a)

-- the items of a tree are not refused
pub no_fault :
    {T : Type 0} (r : Result T ShapeError) (Is : Side ℕ ℕ → Type 0) (e : ShapeError) → r ≡ Err e → (r ≡ Err NotATree → (s : Side ℕ ℕ) → Is s → ⊥) → (r ≡ Err OutOfMemory → ⊥) →
    (s : Side ℕ ℕ) → Is s → ⊥
no_fault r Is NotATree at not_a_tree no_memory s is = not_a_tree at s is
no_fault r Is OutOfMemory at not_a_tree no_memory s is = no_memory at

-- sides with one preorder are the same
pub side_same : {P : Type 0} (s t : Side ℕ P) → preorder_of s ≡ preorder_of t → s ≡ t
side_same s t e =
    let both : only s ≡ only t = sym (parse_of s) ∙ ap parse e ∙ parse_of t in
    let labels : s.label ≡ t.label = cc both in
    let kids : s.kids ≡ t.kids = cc both in
    ap (λ x. record { label = x; kids = s.kids }) labels ∙ ap (λ ks. record { label = t.label; kids = ks }) kids

pub is_label-same : (f : ℕ) (s : Symbol ℕ ℕ) → s ≡ label f → is_label f s ≡ true
is_label-same f s e = elim (is_label_cases s f) [ inl y ↦ y.1 | inr n ↦ absurd (n.0 e) ]
