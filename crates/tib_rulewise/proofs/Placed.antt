-- What sides carry by place, and what fills them.
use Rattle.std.specs.Prelude.{◌≡◌, ℕ, ◌+◌, ◌<◌, List, [], ◌∷◌, ◌++◌, length, Option, Some, None, refl}
use Rattle.std.proofs.Common.{zero, suc, arith, ap, sym, ◌∙◌, inl, inr}
use Rattle.tib_lex.specs.Lists.{Has, Each}
use Rattle.tib_tree.specs.Trees.{Trees, none, tree, count, only, first_trees, other_trees, join}
use Rattle.tib_grammar.specs.Sides.{Symbol, label, hole, Side, holes, holes_of, fill, leaves, over}
use Rattle.tib_grammar.proofs.Sides.{fill-AreHoles, AreHoles-leaves, holes-leaves, first_all}
use Rattle.tib_transducer.specs.Run.{AreBound, pick, tree_at}
use Rattle.tib_transducer.specs.Range.{BeginsWithLabel, AreNumbered}
use Rattle.tib_transducer.specs.declared.Variable.{Variable}
use Rattle.tib_rulewise.specs.Placed.{placed, placed_side, plain_variable, variables_from}

-- a list with what g gives for each place, from n on, and for each member
abbrev pub along : {P Q : Type 0} → (ℕ → P → Q) → ℕ → List P → List Q
along g n [] = []
along g n (p ∷ ps) = g n p ∷ along g (suc n) ps

module _ {P Q : Type 0} (g : ℕ → P → Q) where
  pub length-along : (n : ℕ) (ps : List P) → length (along g n ps) ≡ length ps
  length-along n [] = refl
  length-along n (p ∷ ps) = ap suc (length-along (suc n) ps)

  along-append : (n : ℕ) (ps rs : List P) → along g n (ps ++ rs) ≡ along g n ps ++ along g (n + length ps) rs
  along-append n [] rs =
      let e : n ≡ n + 0 = omega arith in
      ap (λ m. along g m rs) e
  along-append n (p ∷ ps) rs =
      let e : suc n + length ps ≡ n + suc (length ps) = omega arith in
      ap (λ xs. g n p ∷ xs) (along-append (suc n) ps rs) ∙ ap (λ m. g n p ∷ (along g (suc n) ps ++ along g m rs)) e

  -- the holes carry what g gives for their places
  pub holes-placed : (n : ℕ) (ts : Trees (Symbol ℕ P)) → holes (placed g n ts) ≡ along g n (holes ts)
  holes-placed n none = refl
  holes-placed n (tree (label f) kids rest) =
      ap (λ xs. xs ++ holes (placed g (n + length (holes kids)) rest)) (holes-placed n kids)
      ∙ ap (λ xs. along g n (holes kids) ++ xs) (holes-placed (n + length (holes kids)) rest)
      ∙ sym (along-append n (holes kids) (holes rest))
  holes-placed n (tree (hole p) kids rest) = ap (λ xs. g n p ∷ xs) (holes-placed (suc n) rest)

  pub long-placed : (n : ℕ) (ts : Trees (Symbol ℕ P)) → length (holes (placed g n ts)) ≡ length (holes ts)
  long-placed n ts = ap length (holes-placed n ts) ∙ length-along n (holes ts)

  -- trees fill both alike
  pub fill-placed : (n : ℕ) (ts : Trees (Symbol ℕ P)) (us : Trees ℕ) → fill (placed g n ts) us ≡ fill ts us
  fill-placed n none us = refl
  fill-placed n (tree (label f) kids rest) us =
      let k : ℕ = length (holes kids) in
      let one : fill (placed g n kids) (first_trees (length (holes (placed g n kids))) us) ≡ fill kids (first_trees k us) =
      fill-placed n kids (first_trees (length (holes (placed g n kids))) us) ∙ ap (λ m. fill kids (first_trees m us)) (long-placed n kids)
      in
      let two : fill (placed g (n + k) rest) (other_trees (length (holes (placed g n kids))) us) ≡ fill rest (other_trees k us) =
      fill-placed (n + k) rest (other_trees (length (holes (placed g n kids))) us) ∙ ap (λ m. fill rest (other_trees m us)) (long-placed n kids)
      in
      cc (one, two)
  fill-placed n (tree (hole p) kids rest) none = refl
  fill-placed n (tree (hole p) kids rest) (tree f us ts) = ap (tree f us) (fill-placed (suc n) rest ts)

  -- one side
  pub placed-only : (s : Side ℕ P) → only (placed_side g s) ≡ placed g 0 (only s)
  placed-only s = by s.label s.kids
    where
      by : (x : Symbol ℕ P) (kids : Trees (Symbol ℕ P)) → only (placed_side g (record { label = x; kids = kids })) ≡ placed g 0 (tree x kids none)
      by (label f) kids = refl
      by (hole p) kids = refl

  pub side-holes : (s : Side ℕ P) → holes_of (placed_side g s) ≡ along g 0 (holes_of s)
  side-holes s = ap holes (placed-only s) ∙ holes-placed 0 (only s)

  pub side-fill : (s : Side ℕ P) (us : Trees ℕ) → fill (only (placed_side g s)) us ≡ fill (only s) us
  side-fill s us = ap (λ ts. fill ts us) (placed-only s) ∙ fill-placed 0 (only s) us

  -- a side that begins with a label still does
  pub side-begins : (s : Side ℕ P) → BeginsWithLabel s → BeginsWithLabel (placed_side g s)
  side-begins s b = by s.label s.kids b.root b.is_root
    where
      by : (x : Symbol ℕ P) (kids : Trees (Symbol ℕ P)) (f : ℕ) → x ≡ label f → BeginsWithLabel (placed_side g (record { label = x; kids = kids }))
      by (label h) kids f e = record { root = h; is_root = refl }
      by (hole p) kids f e = absurd (cc)

-- places of one kind alone
pub along-variables : {P : Type 0} (n : ℕ) (ps : List P) → along (λ m _. plain_variable m) n ps ≡ variables_from n (length ps)
along-variables n [] = refl
along-variables n (p ∷ ps) = ap (λ xs. plain_variable n ∷ xs) (along-variables (suc n) ps)

-- the variables from n on are numbered from n on
pub numbered : (n many : ℕ) → AreNumbered n (variables_from n many)
numbered n zero = tt
numbered n (suc many) = (refl, numbered (suc n) many)

pub length-variables : (n many : ℕ) → length (variables_from n many) ≡ many
length-variables n zero = refl
length-variables n (suc many) = ap suc (length-variables (suc n) many)

-- numbers that have each place have the number of each variable
pub each_variable : (n many : ℕ) (is : List ℕ) → ((i : ℕ) → n < i + 1 → i < n + many → Has is i) → Each (λ x. Has is x.number) (variables_from n many)
each_variable n zero is h = tt
each_variable n (suc many) is h = (h n (omega arith) (omega arith), each_variable (suc n) many is (λ i a b. h i (omega arith) (omega arith)))

-- no variable has a label
pub no_label : (n many : ℕ) (x : Variable) (f : ℕ) → Has (variables_from n many) x → x.label ≡ Some f → ⊥
no_label n zero x f h e = h
no_label n (suc many) x f h e = elim h [
  | inl same ↦ none_some (ap (λ (y : Variable). y.label) same ∙ e)
  | inr k ↦ no_label (suc n) many x f k e
]
  where
    none_some : ◌≡◌ {A = Option ℕ} None (Some f) → ⊥
    none_some e = absurd (cc)

-- they bind as many trees, whatever these are
pub bind_any : (n many : ℕ) (ts : Trees ℕ) → count ts ≡ many → AreBound (variables_from n many) ts
bind_any n zero none e = tt
bind_any n zero (tree f kids rest) e = absurd (omega arith)
bind_any n (suc many) none e = absurd (omega arith)
bind_any n (suc many) (tree f kids rest) e = (tt, bind_any (suc n) many rest (omega arith))

-- one label over holes is filled by the trees below it
pub fill-over : {P : Type 0} (f : ℕ) (ps : List P) (ts : Trees ℕ) → count ts ≡ length ps → fill (only (over f ps)) ts ≡ tree f ts none
fill-over {P} f ps ts e =
    let long : length (holes {A = ℕ} (leaves ps)) ≡ length ps = ap length (holes-leaves ℕ ps) in
    ap (λ us. tree f (fill (leaves ps) us) none) (first_all ts (length (holes {A = ℕ} (leaves ps))) (long ∙ sym e))
    ∙ ap (λ us. tree f us none) (fill-AreHoles (leaves ps) ts (AreHoles-leaves ℕ ps) (e ∙ sym long))

-- the numbers n, n + 1 and so on, this many
abbrev pub upward : ℕ → ℕ → List ℕ
upward n zero = []
upward n (suc many) = n ∷ upward (suc n) many

-- the trees at all places are the trees
pub pick-all : (ts : Trees ℕ) → pick ts (upward 0 (count ts)) ≡ ts
pick-all ts = from 0 none ts refl
  where
    at-front : (front ts : Trees ℕ) (f : ℕ) (kids : Trees ℕ) (n : ℕ) → count front ≡ n → tree_at (join front (tree f kids ts)) n ≡ tree f kids none
    at-front none ts f kids zero e = refl
    at-front none ts f kids (suc n) e = absurd (omega arith)
    at-front (tree g ks front) ts f kids zero e = absurd (omega arith)
    at-front (tree g ks front) ts f kids (suc n) e = at-front front ts f kids n (omega arith)

    move : (front : Trees ℕ) (f : ℕ) (kids rest : Trees ℕ) → join front (tree f kids rest) ≡ join (join front (tree f kids none)) rest
    move none f kids rest = refl
    move (tree g ks front) f kids rest = ap (tree g ks) (move front f kids rest)

    longer : (front : Trees ℕ) (f : ℕ) (kids : Trees ℕ) (n : ℕ) → count front ≡ n → count (join front (tree f kids none)) ≡ suc n
    longer none f kids n e = omega arith
    longer (tree g ks front) f kids zero e = absurd (omega arith)
    longer (tree g ks front) f kids (suc n) e = ap suc (longer front f kids n (omega arith))

    from : (n : ℕ) (front rest : Trees ℕ) → count front ≡ n → pick (join front rest) (upward n (count rest)) ≡ rest
    from n front none e = refl
    from n front (tree f kids rest) e =
        let again : pick (join front (tree f kids rest)) (upward (suc n) (count rest)) ≡ rest =
        ap (λ us. pick us (upward (suc n) (count rest))) (move front f kids rest) ∙ from (suc n) (join front (tree f kids none)) rest (longer front f kids n e)
        in
        ap (λ us. join us (pick (join front (tree f kids rest)) (upward (suc n) (count rest)))) (at-front front rest f kids n e) ∙ ap (tree f kids) again
