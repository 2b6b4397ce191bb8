-- What it costs to fill sides: each hole is given a tree at a cost.
use Rattle.std.specs.Prelude.{◌≡◌, ℕ, ◌+◌, ◌≤◌, List, [], ◌∷◌, ◌++◌, length, Bool, refl}
use Rattle.std.proofs.Common.{suc, arith, ap, sym, ◌∙◌, subst, length-append}
use Rattle.tib_lex.specs.Lists.{Each}
use Rattle.tib_tree.specs.Trees.{Tree, Trees, none, tree, count, join, only, relabel, first_trees, other_trees, first-join, other-join, join_parts, count-first, count-other}
use Rattle.tib_grammar.specs.Sides.{Symbol, label, hole, holes, fill, symbol_map}
use Rattle.tib_cost.specs.Semiring.{ProductLaws}
use Rattle.tib_cost.specs.Least.{Products}
use Rattle.tib_cost.proofs.Least.{at_least_right}
use Rattle.tib_key_edges.specs.Translations.{plug}

-- c is what a tree costs at the root of a side
abbrev pub Top : {A : Type 0} → (A → Tree ℕ → ℕ → Type 0) → (Trees ℕ → ℕ → Type 0) → Symbol ℕ A → Tree ℕ → ℕ → Type 0
Top R Kids (label g) t c = (t.label ≡ g) × Kids t.kids c
Top R Kids (hole x) t c = R x t c

-- the sides become the trees where each hole is given a tree, at the product c of what R says that
-- these cost
abbrev pub Filled : (ℕ → ℕ → ℕ) → {A : Type 0} → (A → Tree ℕ → ℕ → Type 0) → Trees (Symbol ℕ A) → Trees ℕ → ℕ → Type 0
Filled product R none none c = c ≡ 0
Filled product R none (tree f us more) c = ⊥
Filled product R (tree s kids rest) none c = ⊥
Filled product R (tree s kids rest) (tree f us more) c =
    Products product (Top R (λ ts d. Filled product R kids ts d) s (record { label = f; kids = us })) (λ d. Filled product R rest more d) c

-- each x is given a tree of the list, at the product c of what these cost
abbrev pub AllOf : (ℕ → ℕ → ℕ) → {A : Type 0} → (A → Tree ℕ → ℕ → Type 0) → List A → Trees ℕ → ℕ → Type 0
AllOf product R [] none c = c ≡ 0
AllOf product R [] (tree f us more) c = ⊥
AllOf product R (x ∷ xs) none c = ⊥
AllOf product R (x ∷ xs) (tree f us more) c = Products product (R x (record { label = f; kids = us })) (λ d. AllOf product R xs more d) c

-- a list of one tree
pub one_of : {A : Type 0} (ts : Trees A) → count ts ≡ 1 → (t : Tree A) × (ts ≡ only t)
one_of none e = absurd (omega arith)
one_of (tree f kids none) e = (record { label = f; kids = kids }, refl)
one_of (tree f kids (tree g ks rest)) e = absurd (omega arith)

no_more : {A : Type 0} (ts : Trees A) → count ts ≡ 0 → ts ≡ none
no_more none e = refl
no_more (tree f kids rest) e = absurd (omega arith)

-- what fills a label over sides
pub fill_label : {A : Type 0} (f : ℕ) (kids rest : Trees (Symbol ℕ A)) (us vs : Trees ℕ) → count us ≡ length (holes kids) → fill (tree (label f) kids rest) (join us vs) ≡ tree f (fill kids us) (fill rest vs)
fill_label f kids rest us vs e =
    let one : first_trees (length (holes kids)) (join us vs) ≡ us = ap (λ n. first_trees n (join us vs)) (sym e) ∙ first-join us vs in
    let two : other_trees (length (holes kids)) (join us vs) ≡ vs = ap (λ n. other_trees n (join us vs)) (sym e) ∙ other-join us vs in
    ap (λ x. tree f (fill kids x) (fill rest (other_trees (length (holes kids)) (join us vs)))) one ∙ ap (λ x. tree f (fill kids us) (fill rest x)) two

filled_label :
    {A : Type 0} (f g : ℕ) (kids rest : Trees (Symbol ℕ A)) (us vs ts more : Trees ℕ) → count us ≡ length (holes kids) → f ≡ g → fill kids us ≡ ts → fill rest vs ≡ more →
    fill (tree (label g) kids rest) (join us vs) ≡ tree f ts more
filled_label f g kids rest us vs ts more n e one two =
    fill_label g kids rest us vs n ∙ ap (λ z. tree z (fill kids us) (fill rest vs)) (sym e) ∙ ap (λ z. tree f z (fill rest vs)) one ∙ ap (tree f ts) two

-- sides with sides in place of their holes are as many as before
pub count-plug : {A P : Type 0} (s : Trees (Symbol ℕ P)) (us : Trees (Symbol ℕ A)) → count us ≡ length (holes s) → count (plug s us) ≡ count s
count-plug none us e = refl
count-plug (tree (label f) kids rest) us e =
    let long : length (holes kids ++ holes rest) ≡ length (holes kids) + length (holes rest) = length-append (holes kids) (holes rest) in
    let n : count (other_trees (length (holes kids)) us) ≡ length (holes rest) = omega (arith, count-other (length (holes kids)) us, long, e) in
    ap suc (count-plug rest (other_trees (length (holes kids)) us) n)
count-plug (tree (hole p) kids rest) none e = absurd (omega arith)
count-plug (tree (hole p) kids rest) (tree f us ts) e = ap suc (count-plug rest ts (omega arith))

module _ {levelled weighted : Bool} {product : ℕ → ℕ → ℕ} (laws : ProductLaws levelled weighted product) where
  -- four factors in another order
  pub mix : (a b c d : ℕ) → product (product a b) (product c d) ≡ product (product a c) (product b d)
  mix a b c d =
      laws.regroups a b (product c d)
      ∙ ap (product a) (sym (laws.regroups b c d) ∙ ap (λ x. product x d) (laws.commutes b c) ∙ laws.regroups c b d)
      ∙ sym (laws.regroups a c (product b d))

  module _ {A : Type 0} (R : A → Tree ℕ → ℕ → Type 0) where
    -- there are as many trees as values
    pub count-all : (xs : List A) (us : Trees ℕ) (c : ℕ) → AllOf product R xs us c → count us ≡ length xs
    count-all [] none c h = refl
    count-all [] (tree f us more) c h = absurd h
    count-all (x ∷ xs) none c h = absurd h
    count-all (x ∷ xs) (tree f us more) c h = ap suc (count-all xs more h.1 h.3)

    all_append : (xs ys : List A) (us vs : Trees ℕ) (a b : ℕ) → AllOf product R xs us a → AllOf product R ys vs b → AllOf product R (xs ++ ys) (join us vs) (product a b)
    all_append [] ys none vs a b h k =
        let e : b ≡ product a b = sym (laws.neutral b) ∙ ap (λ z. product z b) (sym h) in
        subst (AllOf product R ys vs) e k
    all_append [] ys (tree f us more) vs a b h k = absurd h
    all_append (x ∷ xs) ys none vs a b h k = absurd h
    all_append (x ∷ xs) ys (tree f us more) vs a b h k = (
      h.0,
      product h.1 b,
      h.2,
      all_append xs ys more vs h.1 b h.3 k,
      sym (laws.regroups h.0 h.1 b) ∙ ap (λ z. product z b) h.4,
    )

    -- the trees for the first of two lists, and those for the second
    record AllSplit (xs ys : List A) (us : Trees ℕ) (c : ℕ) : Type 0 where
      front : Trees ℕ
      back : Trees ℕ
      first : ℕ
      second : ℕ
      all_front : AllOf product R xs front first
      all_back : AllOf product R ys back second
      trees : join front back ≡ us
      costs : product first second ≡ c

    all_split : (xs ys : List A) (us : Trees ℕ) (c : ℕ) → AllOf product R (xs ++ ys) us c → AllSplit xs ys us c
    all_split [] ys us c h = record {
      front = none;
      back = us;
      first = 0;
      second = c;
      all_front = refl;
      all_back = h;
      trees = refl;
      costs = laws.neutral c;
    }
    all_split (x ∷ xs) ys none c h = absurd h
    all_split (x ∷ xs) ys (tree f us more) c h =
        let s = all_split xs ys more h.1 h.3 in
        record {
          front = tree f us s.front;
          back = s.back;
          first = product h.0 s.first;
          second = s.second;
          all_front = (h.0, s.first, h.2, s.all_front, refl);
          all_back = s.all_back;
          trees = ap (tree f us) s.trees;
          costs = laws.regroups h.0 s.first s.second ∙ ap (product h.0) s.costs ∙ h.4;
        }

    -- the trees at the holes of filled sides
    pub record Collected (s : Trees (Symbol ℕ A)) (us : Trees ℕ) (c : ℕ) : Type 0 where
      pub args : Trees ℕ
      pub all : AllOf product R (holes s) args c
      pub filled : fill s args ≡ us

    -- filled sides have trees for their holes
    pub collect : (s : Trees (Symbol ℕ A)) (us : Trees ℕ) (c : ℕ) → Filled product R s us c → Collected s us c
    collect none none c h = record { args = none; all = h; filled = refl }
    collect none (tree f us more) c h = absurd h
    collect (tree s kids rest) none c h = absurd h
    collect (tree (hole x) kids rest) (tree f us more) c h =
        let r = collect rest more h.1 h.3 in
        record { args = tree f us r.args; all = (h.0, h.1, h.2, r.all, h.4); filled = ap (tree f us) r.filled }
    collect (tree (label g) kids rest) (tree f us more) c h =
        let k = collect kids us h.0 h.2.1 in
        let r = collect rest more h.1 h.3 in
        record {
          args = join k.args r.args;
          all = subst (AllOf product R (holes kids ++ holes rest) (join k.args r.args)) h.4 (all_append (holes kids) (holes rest) k.args r.args h.0 h.1 k.all r.all);
          filled = filled_label f g kids rest k.args r.args us more (count-all (holes kids) k.args h.0 k.all) h.2.0 k.filled r.filled;
        }

    -- trees for the holes fill the sides
    pub spread : (s : Trees (Symbol ℕ A)) (us : Trees ℕ) (c : ℕ) → AllOf product R (holes s) us c → Filled product R s (fill s us) c
    spread none none c h = h
    spread none (tree f us more) c h = absurd h
    spread (tree (hole x) kids rest) none c h = absurd h
    spread (tree (hole x) kids rest) (tree f us more) c h = (h.0, h.1, h.2, spread rest more h.1 h.3, h.4)
    spread (tree (label g) kids rest) us c h =
        let s = all_split (holes kids) (holes rest) us c h in
        let e : fill (tree (label g) kids rest) us ≡ tree g (fill kids s.front) (fill rest s.back) =
        ap (fill (tree (label g) kids rest)) (sym s.trees) ∙ fill_label g kids rest s.front s.back (count-all (holes kids) s.front s.first s.all_front)
        in
        subst (λ ts. Filled product R (tree (label g) kids rest) ts c) (sym e)
        (s.first, s.second, (refl, spread kids s.front s.first s.all_front), spread rest s.back s.second s.all_back, s.costs)

    -- there are as many trees as sides
    pub count-filled : (s : Trees (Symbol ℕ A)) (us : Trees ℕ) (c : ℕ) → Filled product R s us c → count us ≡ count s
    count-filled none none c h = refl
    count-filled none (tree f us more) c h = absurd h
    count-filled (tree s kids rest) none c h = absurd h
    count-filled (tree s kids rest) (tree f us more) c h = ap suc (count-filled rest more h.1 h.3)

    -- what fills the one sides and the others fills all
    pub filled_join : (s t : Trees (Symbol ℕ A)) (us vs : Trees ℕ) (a b : ℕ) → Filled product R s us a → Filled product R t vs b → Filled product R (join s t) (join us vs) (product a b)
    filled_join none t none vs a b h k =
        let e : b ≡ product a b = sym (laws.neutral b) ∙ ap (λ z. product z b) (sym h) in
        subst (Filled product R t vs) e k
    filled_join none t (tree f us more) vs a b h k = absurd h
    filled_join (tree s kids rest) t none vs a b h k = absurd h
    filled_join (tree s kids rest) t (tree f us more) vs a b h k = (
      h.0,
      product h.1 b,
      h.2,
      filled_join rest t more vs h.1 b h.3 k,
      sym (laws.regroups h.0 h.1 b) ∙ ap (λ z. product z b) h.4,
    )

    -- the trees of the first sides and those of the others
    pub record FilledSplit (s t : Trees (Symbol ℕ A)) (us : Trees ℕ) (c : ℕ) : Type 0 where
      pub front : Trees ℕ
      pub back : Trees ℕ
      pub first : ℕ
      pub second : ℕ
      pub filled_front : Filled product R s front first
      pub filled_back : Filled product R t back second
      pub trees : join front back ≡ us
      pub costs : product first second ≡ c

    -- what fills all splits into what fills the first and the others
    pub filled_split : (s t : Trees (Symbol ℕ A)) (us : Trees ℕ) (c : ℕ) → Filled product R (join s t) us c → FilledSplit s t us c
    filled_split none t us c h = record {
      front = none;
      back = us;
      first = 0;
      second = c;
      filled_front = refl;
      filled_back = h;
      trees = refl;
      costs = laws.neutral c;
    }
    filled_split (tree s kids rest) t none c h = absurd h
    filled_split (tree s kids rest) t (tree f us more) c h =
        let r = filled_split rest t more h.1 h.3 in
        record {
          front = tree f us r.front;
          back = r.back;
          first = product h.0 r.first;
          second = r.second;
          filled_front = (h.0, r.first, h.2, r.filled_front, refl);
          filled_back = r.filled_back;
          trees = ap (tree f us) r.trees;
          costs = laws.regroups h.0 r.first r.second ∙ ap (product h.0) r.costs ∙ h.4;
        }

    -- what fills sides with sides in place of their holes fills these first
    pub record Unplugged {P : Type 0} (s : Trees (Symbol ℕ P)) (ss : Trees (Symbol ℕ A)) (vs : Trees ℕ) (c : ℕ) : Type 0 where
      pub args : Trees ℕ
      pub inner : Filled product R ss args c
      pub filled : fill s args ≡ vs

    -- what fills the sides with sides in their holes is made of what fills the inner ones
    pub unplug : {P : Type 0} (s : Trees (Symbol ℕ P)) (ss : Trees (Symbol ℕ A)) (vs : Trees ℕ) (c : ℕ) → count ss ≡ length (holes s) → Filled product R (plug s ss) vs c → Unplugged s ss vs c
    unplug none none none c e h = record { args = none; inner = h; filled = refl }
    unplug none none (tree f us more) c e h = absurd h
    unplug none (tree x below ss) vs c e h = absurd (omega arith)
    unplug (tree (hole p) kids rest) none vs c e h = absurd (omega arith)
    unplug (tree (hole p) kids rest) (tree x below ss) none c e h = absurd h
    unplug (tree (hole p) kids rest) (tree x below ss) (tree f us more) c e h =
        let r = unplug rest ss more h.1 (omega arith) h.3 in
        record { args = tree f us r.args; inner = (h.0, h.1, h.2, r.inner, h.4); filled = ap (tree f us) r.filled }
    unplug (tree (label g) kids rest) ss none c e h = absurd h
    unplug (tree (label g) kids rest) ss (tree f us more) c e h =
        let long : length (holes kids ++ holes rest) ≡ length (holes kids) + length (holes rest) = length-append (holes kids) (holes rest) in
        let n : ℕ = length (holes kids) in
        let first_long : count (first_trees n ss) ≡ n = count-first n ss (omega (arith, e, long)) in
        let other_long : count (other_trees n ss) ≡ length (holes rest) = omega (arith, count-other n ss, e, long) in
        let k = unplug kids (first_trees n ss) us h.0 first_long h.2.1 in
        let r = unplug rest (other_trees n ss) more h.1 other_long h.3 in
        let counted : count k.args ≡ n = count-filled (first_trees n ss) k.args h.0 k.inner ∙ first_long in
        record {
          args = join k.args r.args;
          inner = subst (Filled product R ss (join k.args r.args)) h.4
              (subst (λ z. Filled product R z (join k.args r.args) (product h.0 h.1)) (join_parts n ss)
              (filled_join (first_trees n ss) (other_trees n ss) k.args r.args h.0 h.1 k.inner r.inner));
          filled = filled_label f g kids rest k.args r.args us more counted h.2.0 k.filled r.filled;
        }

    -- what fills the inner sides fills the sides with these in their holes
    pub plugged : {P : Type 0} (s : Trees (Symbol ℕ P)) (ss : Trees (Symbol ℕ A)) (us : Trees ℕ) (c : ℕ) → count ss ≡ length (holes s) → Filled product R ss us c → Filled product R (plug s ss) (fill s us) c
    plugged none none none c e h = h
    plugged none none (tree f us more) c e h = absurd h
    plugged none (tree x below ss) us c e h = absurd (omega arith)
    plugged (tree (hole p) kids rest) none us c e h = absurd (omega arith)
    plugged (tree (hole p) kids rest) (tree x below ss) none c e h = absurd h
    plugged (tree (hole p) kids rest) (tree x below ss) (tree f us more) c e h =
        (h.0, h.1, h.2, plugged rest ss more h.1 (omega arith) h.3, h.4)
    plugged (tree (label g) kids rest) ss us c e h =
        let long : length (holes kids ++ holes rest) ≡ length (holes kids) + length (holes rest) = length-append (holes kids) (holes rest) in
        let n : ℕ = length (holes kids) in
        let first_long : count (first_trees n ss) ≡ n = count-first n ss (omega (arith, e, long)) in
        let other_long : count (other_trees n ss) ≡ length (holes rest) = omega (arith, count-other n ss, e, long) in
        let s = filled_split (first_trees n ss) (other_trees n ss) us c (subst (λ z. Filled product R z us c) (sym (join_parts n ss)) h) in
        let counted : count s.front ≡ n = count-filled (first_trees n ss) s.front s.first s.filled_front ∙ first_long in
        let same : fill (tree (label g) kids rest) us ≡ tree g (fill kids s.front) (fill rest s.back) =
        ap (fill (tree (label g) kids rest)) (sym s.trees) ∙ fill_label g kids rest s.front s.back counted
        in
        subst (λ ts. Filled product R (plug (tree (label g) kids rest) ss) ts c) (sym same) (
          s.first,
          s.second,
          (refl, plugged kids (first_trees n ss) s.front s.first first_long s.filled_front),
          plugged rest (other_trees n ss) s.back s.second other_long s.filled_back,
          s.costs,
        )

  -- sides with other names
  module _ {A B : Type 0} (R : B → Tree ℕ → ℕ → Type 0) (g : A → B) where
    -- what fills the sides fills them with other names
    pub filled_named : (s : Trees (Symbol ℕ A)) (us : Trees ℕ) (c : ℕ) → Filled product (λ x. R (g x)) s us c → Filled product R (relabel (symbol_map g) s) us c
    filled_named none none c h = h
    filled_named none (tree f us more) c h = absurd h
    filled_named (tree (label x) kids rest) none c h = absurd h
    filled_named (tree (hole x) kids rest) none c h = absurd h
    filled_named (tree (label x) kids rest) (tree f us more) c h = (h.0, h.1, (h.2.0, filled_named kids us h.0 h.2.1), filled_named rest more h.1 h.3, h.4)
    filled_named (tree (hole x) kids rest) (tree f us more) c h = (h.0, h.1, h.2, filled_named rest more h.1 h.3, h.4)

    -- and the other way round
    pub filled_unnamed : (s : Trees (Symbol ℕ A)) (us : Trees ℕ) (c : ℕ) → Filled product R (relabel (symbol_map g) s) us c → Filled product (λ x. R (g x)) s us c
    filled_unnamed none none c h = h
    filled_unnamed none (tree f us more) c h = absurd h
    filled_unnamed (tree (label x) kids rest) none c h = absurd h
    filled_unnamed (tree (hole x) kids rest) none c h = absurd h
    filled_unnamed (tree (label x) kids rest) (tree f us more) c h = (h.0, h.1, (h.2.0, filled_unnamed kids us h.0 h.2.1), filled_unnamed rest more h.1 h.3, h.4)
    filled_unnamed (tree (hole x) kids rest) (tree f us more) c h = (h.0, h.1, h.2, filled_unnamed rest more h.1 h.3, h.4)

  -- what holds for each part that costs little enough
  module _ {A : Type 0} (R Q : A → Tree ℕ → ℕ → Type 0) (P : A → Type 0) (m : ℕ) (to : (x : A) (t : Tree ℕ) (a : ℕ) → P x → R x t a → a ≤ m → Q x t a) where
    -- what fills the sides by the one relation does so by the other, where the cost is small
    pub filled_to : (s : Trees (Symbol ℕ A)) (us : Trees ℕ) (c : ℕ) → Each P (holes s) → Filled product R s us c → c ≤ m → Filled product Q s us c
    filled_to none none c p h b = h
    filled_to none (tree f us more) c p h b = absurd h
    filled_to (tree s kids rest) none c p h b = absurd h
    filled_to (tree (hole x) kids rest) (tree f us more) c p h b =
        let one : h.0 ≤ m = omega (arith, laws.at_least h.0 h.1, h.4, b) in
        let two : h.1 ≤ m = omega (arith, at_least_right laws h.0 h.1, h.4, b) in
        (h.0, h.1, to x (record { label = f; kids = us }) h.0 p.0 h.2 one, filled_to rest more h.1 p.1 h.3 two, h.4)
    filled_to (tree (label x) kids rest) (tree f us more) c p h b =
        let one : h.0 ≤ m = omega (arith, laws.at_least h.0 h.1, h.4, b) in
        let two : h.1 ≤ m = omega (arith, at_least_right laws h.0 h.1, h.4, b) in (
          h.0,
          h.1,
          (h.2.0, filled_to kids us h.0 (each_front (holes kids) (holes rest) p) h.2.1 one),
          filled_to rest more h.1 (each_back (holes kids) (holes rest) p) h.3 two,
          h.4,
        )
      where
        each_front : (xs ys : List A) → Each P (xs ++ ys) → Each P xs
        each_front [] ys e = tt
        each_front (x ∷ xs) ys e = (e.0, each_front xs ys e.1)

        each_back : (xs ys : List A) → Each P (xs ++ ys) → Each P ys
        each_back [] ys e = e
        each_back (x ∷ xs) ys e = each_back xs ys e.1
