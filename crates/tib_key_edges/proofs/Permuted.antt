-- Sides picked in another order.
use Rattle.std.specs.Prelude.{◌≡◌, ℕ, ◌<◌, ◌≤◌, List, [], ◌∷◌, length, Bool, refl}
use Rattle.std.proofs.Common.{zero, suc, arith, ap, sym, ◌∙◌, subst, inl, inr}
use Rattle.tib_lex.specs.Lists.{Has, Each, Distinct}
use Rattle.tib_tree.specs.Trees.{Tree, Trees, none, tree, count, join, only, count-join}
use Rattle.tib_grammar.specs.Sides.{Symbol}
use Rattle.tib_cost.specs.Semiring.{ProductLaws}
use Rattle.tib_transducer.specs.Run.{tree_at, pick}
use Rattle.tib_key_edges.proofs.Filling.{Top, Filled, one_of, count-filled, filled_join, filled_split}
use Rattle.tib_transducer.proofs.Products.{swap_first}

-- each place below n is once among the places
pub record IsPermutation (n : ℕ) (places : List ℕ) : Type 0 where
  pub once : Distinct places
  pub within : Each (λ i. i < n) places
  pub whole : (i : ℕ) → i < n → Has places i

-- the places after the first one, counted from there
abbrev pub behind : List ℕ → List ℕ
behind [] = []
behind (zero ∷ is) = behind is
behind (suc i ∷ is) = i ∷ behind is

behind-has : (is : List ℕ) (j : ℕ) → Has (behind is) j → Has is (suc j)
behind-has [] j h = absurd h
behind-has (zero ∷ is) j h = inr (behind-has is j h)
behind-has (suc i ∷ is) j h = elim h [ inl e ↦ inl (ap suc e) | inr k ↦ inr (behind-has is j k) ]

has-behind : (is : List ℕ) (j : ℕ) → Has is (suc j) → Has (behind is) j
has-behind [] j h = absurd h
has-behind (zero ∷ is) j h = elim h [ inl e ↦ absurd (omega arith) | inr k ↦ has-behind is j k ]
has-behind (suc i ∷ is) j h = elim h [ inl e ↦ inl (omega arith) | inr k ↦ inr (has-behind is j k) ]

behind-distinct : (is : List ℕ) → Distinct is → Distinct (behind is)
behind-distinct [] d = tt
behind-distinct (zero ∷ is) d = behind-distinct is d.1
behind-distinct (suc i ∷ is) d = (λ h. d.0 (behind-has is i h), behind-distinct is d.1)

behind-within : (n : ℕ) (is : List ℕ) → Each (λ i. i < suc n) is → Each (λ i. i < n) (behind is)
behind-within n [] e = tt
behind-within n (zero ∷ is) e = behind-within n is e.1
behind-within n (suc i ∷ is) e = (omega (arith, e.0), behind-within n is e.1)

behind-permutation : (n : ℕ) (is : List ℕ) → IsPermutation (suc n) is → IsPermutation n (behind is)
behind-permutation n is p = record {
  once = behind-distinct is p.once;
  within = behind-within n is p.within;
  whole = λ i h. has-behind is i (p.whole (suc i) (omega arith));
}

-- a permutation of no places
no_places : (is : List ℕ) → Each (λ i. i < 0) is → is ≡ []
no_places [] e = refl
no_places (i ∷ is) e = absurd (omega (arith, e.0))

-- one tree is at a place of a list
pub tree_at-one : {A : Type 0} (ts : Trees A) (i : ℕ) → i < count ts → count (tree_at ts i) ≡ 1
tree_at-one none i h = absurd (omega arith)
tree_at-one (tree f kids rest) zero h = refl
tree_at-one (tree f kids rest) (suc i) h = tree_at-one rest i (omega arith)

tree_at-few : {A : Type 0} (ts : Trees A) (i : ℕ) → count (tree_at ts i) ≤ 1
tree_at-few none i = omega arith
tree_at-few (tree f kids rest) zero = omega arith
tree_at-few (tree f kids rest) (suc i) = tree_at-few rest i

tree_at-in : {A : Type 0} (ts : Trees A) (i : ℕ) → count (tree_at ts i) ≡ 1 → i < count ts
tree_at-in none i e = absurd (omega arith)
tree_at-in (tree f kids rest) zero e = omega arith
tree_at-in (tree f kids rest) (suc i) e = let h : i < count rest = tree_at-in rest i e in omega arith

pick-few : {A : Type 0} (ts : Trees A) (is : List ℕ) → count (pick ts is) ≤ length is
pick-few ts [] = omega arith
pick-few ts (i ∷ is) = omega (arith, count-join (tree_at ts i) (pick ts is), tree_at-few ts i, pick-few ts is)

-- where as many trees are picked as there are places, each place is within the list
pub pick-within : {A : Type 0} (ts : Trees A) (is : List ℕ) → count (pick ts is) ≡ length is → Each (λ i. i < count ts) is
pick-within ts [] e = tt
pick-within ts (i ∷ is) e =
    let j = count-join (tree_at ts i) (pick ts is) in
    let one : count (tree_at ts i) ≡ 1 = omega (arith, j, tree_at-few ts i, pick-few ts is, e) in
    let others : count (pick ts is) ≡ length is = omega (arith, j, tree_at-few ts i, pick-few ts is, e) in
    (tree_at-in ts i one, pick-within ts is others)

-- as many trees are picked as there are places
pub pick-count : {A : Type 0} (ts : Trees A) (is : List ℕ) → Each (λ i. i < count ts) is → count (pick ts is) ≡ length is
pick-count ts [] e = refl
pick-count ts (i ∷ is) e = omega (arith, count-join (tree_at ts i) (pick ts is), tree_at-one ts i e.0, pick-count ts is e.1)

-- where the first tree is not picked
not_first : {A : Type 0} (f : A) (kids rest : Trees A) (is : List ℕ) → (Has is 0 → ⊥) → pick (tree f kids rest) is ≡ pick rest (behind is)
not_first f kids rest [] h = refl
not_first f kids rest (zero ∷ is) h = absurd (h (inl refl))
not_first f kids rest (suc i ∷ is) h = ap (join (tree_at rest i)) (not_first f kids rest is (λ k. h (inr k)))

-- two lists of one tree and others
same_head : {A : Type 0} (t u : Tree A) (ts us : Trees A) → join (only t) ts ≡ join (only u) us → (t.label ≡ u.label) × (t.kids ≡ u.kids) × (ts ≡ us)
same_head t u ts us e = (label_is, kids_is, rest_is)
  where
    label_is : t.label ≡ u.label
    label_is = cc e

    kids_is : t.kids ≡ u.kids
    kids_is = cc e

    rest_is : ts ≡ us
    rest_is = cc e

module _ {levelled weighted : Bool} {product : ℕ → ℕ → ℕ} (laws : ProductLaws levelled weighted product) {A : Type 0} (R : A → Tree ℕ → ℕ → Type 0) where
  -- the first side and those after it, picked in their order, are all sides in that order
  put_first :
      (x : Symbol ℕ A) (below rest : Trees (Symbol ℕ A)) (f : ℕ) (us more : Trees ℕ) (is : List ℕ) (a b : ℕ) → count more ≡ count rest → Distinct is → Each (λ i. i < suc (count rest)) is → Has is 0 →
      Top R (λ ts d. Filled product R below ts d) x (record { label = f; kids = us }) a → Filled product R (pick rest (behind is)) (pick more (behind is)) b →
      Filled product R (pick (tree x below rest) is) (pick (tree f us more) is) (product a b)
  put_first x below rest f us more [] a b n d w h top k = absurd h
  put_first x below rest f us more (zero ∷ is) a b n d w h top k =
      (a, b, top, subst (λ s. Filled product R s (pick (tree f us more) is) b) (sym (not_first x below rest is d.0)) (subst (λ ts. Filled product R (pick rest (behind is)) ts b) (sym (not_first f us more is d.0)) k), refl)
  put_first x below rest f us more (suc i ∷ is) a b n d w h top k =
      let s = filled_split laws R (tree_at rest i) (pick rest (behind is)) (join (tree_at more i) (pick more (behind is))) b k in
      let in_more : i < count more = omega (arith, w.0, n) in
      let in_rest : i < count rest = omega (arith, w.0) in
      let one = one_of (tree_at more i) (tree_at-one more i in_more) in
      let front = one_of s.front (count-filled laws R (tree_at rest i) s.front s.first s.filled_front ∙ tree_at-one rest i in_rest) in
      let e = same_head front.0 one.0 s.back (pick more (behind is)) (ap (λ z. join z s.back) (sym front.1) ∙ s.trees ∙ ap (λ z. join z (pick more (behind is))) one.1) in
      let fronts : s.front ≡ tree_at more i = front.1 ∙ ap (λ z. tree z front.0.kids none) e.0 ∙ ap (λ z. tree one.0.label z none) e.1 ∙ sym one.1 in
      let later : Has is 0 = elim h [ inl z ↦ absurd (omega arith) | inr z ↦ z ] in
      let again = put_first x below rest f us more is a s.second n d.1 w.1 later top (subst (λ ts. Filled product R (pick rest (behind is)) ts s.second) e.2 s.filled_back) in
      subst (Filled product R (join (tree_at rest i) (pick (tree x below rest) is)) (join (tree_at more i) (pick (tree f us more) is)))
      (swap_first laws s.first a s.second ∙ ap (product a) s.costs)
      (filled_join laws R (tree_at rest i) (pick (tree x below rest) is) (tree_at more i) (pick (tree f us more) is) s.first (product a s.second)
      (subst (λ ts. Filled product R (tree_at rest i) ts s.first) fronts s.filled_front) again)

  -- what fills sides fills them in another order, picked so
  pub picked : (s : Trees (Symbol ℕ A)) (us : Trees ℕ) (is : List ℕ) (c : ℕ) → IsPermutation (count s) is → Filled product R s us c → Filled product R (pick s is) (pick us is) c
  picked none none is c p h =
      subst (λ z. Filled product R (pick none z) (pick none z) c) (sym (no_places is p.within)) h
  picked none (tree f us more) is c p h = absurd h
  picked (tree x below rest) none is c p h = absurd h
  picked (tree x below rest) (tree f us more) is c p h =
      let n : count more ≡ count rest = count-filled laws R rest more h.1 h.3 in
      let k = picked rest more (behind is) h.1 (behind-permutation (count rest) is p) h.3 in
      subst (Filled product R (pick (tree x below rest) is) (pick (tree f us more) is)) h.4
      (put_first x below rest f us more is h.0 h.1 n p.once p.within (p.whole 0 (omega arith)) h.2 k)

  -- what fills the sides in their order, split into what fills the first side and the others
  record Taken (x : Symbol ℕ A) (below rest : Trees (Symbol ℕ A)) (is : List ℕ) (vs : Trees ℕ) (c : ℕ) : Type 0 where
    first : Tree ℕ
    others : Trees ℕ
    a : ℕ
    b : ℕ
    top : Top R (λ ts d. Filled product R below ts d) x first a
    filled : Filled product R (pick rest (behind is)) others b
    back : (ws : Trees ℕ) → count ws ≡ count rest → pick ws (behind is) ≡ others → pick (tree first.label first.kids ws) is ≡ vs
    costs : product a b ≡ c

  take_first :
      (x : Symbol ℕ A) (below rest : Trees (Symbol ℕ A)) (is : List ℕ) (vs : Trees ℕ) (c : ℕ) → Distinct is → Each (λ i. i < suc (count rest)) is → Has is 0 →
      Filled product R (pick (tree x below rest) is) vs c → Taken x below rest is vs c
  take_first x below rest [] vs c d w h k = absurd h
  take_first x below rest (zero ∷ is) none c d w h k = absurd k
  take_first x below rest (zero ∷ is) (tree f us more) c d w h k = record {
    first = record { label = f; kids = us };
    others = more;
    a = k.0;
    b = k.1;
    top = k.2;
    filled = subst (λ s. Filled product R s more k.1) (not_first x below rest is d.0) k.3;
    back = λ ws n e. ap (tree f us) (not_first f us ws is d.0 ∙ e);
    costs = k.4;
  }
  take_first x below rest (suc i ∷ is) vs c d w h k =
      let s = filled_split laws R (tree_at rest i) (pick (tree x below rest) is) vs c k in
      let later : Has is 0 = elim h [ inl z ↦ absurd (omega arith) | inr z ↦ z ] in
      let r = take_first x below rest is s.back s.second d.1 w.1 later s.filled_back in
      let in_rest : i < count rest = omega (arith, w.0) in
      let front = one_of s.front (count-filled laws R (tree_at rest i) s.front s.first s.filled_front ∙ tree_at-one rest i in_rest) in
      record {
        first = r.first;
        others = join s.front r.others;
        a = r.a;
        b = product s.first r.b;
        top = r.top;
        filled = filled_join laws R (tree_at rest i) (pick rest (behind is)) s.front r.others s.first r.b s.filled_front r.filled;
        back = λ ws n e.
            let in_ws : i < count ws = omega (arith, in_rest, n) in
            let one = one_of (tree_at ws i) (tree_at-one ws i in_ws) in
            let d = same_head one.0 front.0 (pick ws (behind is)) r.others (ap (λ z. join z (pick ws (behind is))) (sym one.1) ∙ e ∙ ap (λ z. join z r.others) front.1) in
            let fronts : tree_at ws i ≡ s.front = one.1 ∙ ap (λ z. tree z one.0.kids none) d.0 ∙ ap (λ z. tree front.0.label z none) d.1 ∙ sym front.1 in
            ap (λ z. join z (pick (tree r.first.label r.first.kids ws) is)) fronts ∙ ap (join s.front) (r.back ws n d.2) ∙ s.trees;
        costs = swap_first laws r.a s.first r.b ∙ ap (product s.first) r.costs ∙ s.costs;
      }

  -- the trees that fill the sides in their own order
  pub record Restored (s : Trees (Symbol ℕ A)) (is : List ℕ) (vs : Trees ℕ) (c : ℕ) : Type 0 where
    pub trees : Trees ℕ
    pub filled : Filled product R s trees c
    pub back : pick trees is ≡ vs

  -- what fills sides in another order is made of what fills them in their own
  pub restored : (s : Trees (Symbol ℕ A)) (is : List ℕ) (vs : Trees ℕ) (c : ℕ) → IsPermutation (count s) is → Filled product R (pick s is) vs c → Restored s is vs c
  restored none is vs c p h =
      let e = no_places is p.within in
      let k : Filled product R none vs c = subst (λ z. Filled product R (pick none z) vs c) e h in
      empty vs k e
    where
      empty : (vs : Trees ℕ) → Filled product R none vs c → is ≡ [] → Restored none is vs c
      empty none k e = record { trees = none; filled = k; back = ap (pick none) e }
      empty (tree f us more) k e = absurd k
  restored (tree x below rest) is vs c p h =
      let t = take_first x below rest is vs c p.once p.within (p.whole 0 (omega arith)) h in
      let r = restored rest (behind is) t.others t.b (behind-permutation (count rest) is p) t.filled in
      record {
        trees = tree t.first.label t.first.kids r.trees;
        filled = (t.a, t.b, t.top, r.filled, t.costs);
        back = t.back r.trees (count-filled laws R rest r.trees t.b r.filled) r.back;
      }
