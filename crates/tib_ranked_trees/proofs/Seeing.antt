-- Shared trees as the list of them.
use Rattle.std.specs.Prelude.{◌≡◌, ◌⊎◌, ℕ, ◌+◌, ◌<◌, ◌≤◌, List, [], ◌∷◌, ◌++◌, length, slice_get, Some, refl, Result, Ok, Err, IfOk, OnErr}
use Rattle.std.proofs.Common.{zero, suc, arith, ap, sym, ◌∙◌, subst, inl, inr, get_or, length-append}
use Rattle.tib_lex.specs.Lists.{Has}
use Rattle.tib_tree.specs.Trees.{Tree, Trees, none, tree, only}
use Rattle.tib_tree.specs.Growth.{LabelsBelow}
use Rattle.tib_tree.specs.Grows.{Adds, AreDistinct}
use Rattle.tib_tree.proofs.TreeOrder.{only_same}
use Rattle.tib_ranked_trees.specs.Numbers.{AreNamed, IsNamed, NumbersBelow, RootsBelow, NumbersNameTrees, label_of, children_of}
use Rattle.tib_ranked_trees.proofs.Keeping.{get_or-front}
use Rattle.tib_ranked_trees.specs.Seen.{no_tree, tree_at, row, shaped, seen_from, seen, AreShapes, AreStill, Inserts}

pub last_at : {A : Type 0} (xs : List A) (y d : A) → get_or (xs ++ y ∷ []) (length xs) d ≡ y
last_at [] y d = refl
last_at (x ∷ xs) y d = last_at xs y d

pub long_from : (ts : List (Tree ℕ)) (ss : List (List ℕ)) → length (seen_from ts ss) ≡ length ts + length ss
long_from ts [] = omega arith
long_from ts (s ∷ ss) = omega (arith, long_from (ts ++ shaped ts s ∷ []) ss, length-append ts (shaped ts s ∷ []))

kept_from : (ts : List (Tree ℕ)) (ss : List (List ℕ)) (n : ℕ) → n < length ts → tree_at (seen_from ts ss) n ≡ tree_at ts n
kept_from ts [] n h = refl
kept_from ts (s ∷ ss) n h =
    kept_from (ts ++ shaped ts s ∷ []) ss n (omega (arith, h, length-append ts (shaped ts s ∷ []))) ∙ get_or-front ts (shaped ts s ∷ []) n no_tree h

row_kept : (ts us : List (Tree ℕ)) (ns : List ℕ) → ((n : ℕ) → Has ns n → tree_at us n ≡ tree_at ts n) → row us ns ≡ row ts ns
row_kept ts us [] k = refl
row_kept ts us (n ∷ ns) k =
    let e : tree_at us n ≡ tree_at ts n = k n (inl refl) in
    let f : row us ns ≡ row ts ns = row_kept ts us ns (λ m h. k m (inr h)) in
    ap (λ (t : Tree ℕ). tree t.label t.kids (row us ns)) e ∙ ap (λ (r : Trees ℕ). tree (tree_at ts n).label (tree_at ts n).kids r) f

at_from :
    (ts : List (Tree ℕ)) (ss : List (List ℕ)) (n : ℕ) (s : List ℕ) → slice_get ss n ≡ Some s → NumbersBelow (length ts + n) (children_of s) →
    tree_at (seen_from ts ss) (length ts + n) ≡ shaped (seen_from ts ss) s
at_from ts [] n s e low = absurd (cc)
at_from ts (t ∷ ss) zero s e low =
    let same : t ≡ s = cc in
    let z : length ts + 0 ≡ length ts = omega arith in
    let us : List (Tree ℕ) = ts ++ shaped ts t ∷ [] in
    let here : tree_at (seen_from us ss) (length ts) ≡ shaped ts t =
    kept_from us ss (length ts) (omega (arith, length-append ts (shaped ts t ∷ []))) ∙ last_at ts (shaped ts t) no_tree
    in
    let kids : row (seen_from us ss) (children_of s) ≡ row ts (children_of s) =
    row_kept ts (seen_from us ss) (children_of s)
    (λ m h. kept_from us ss m (omega (arith, low m h, length-append ts (shaped ts t ∷ []))) ∙ get_or-front ts (shaped ts t ∷ []) m no_tree (omega (arith, low m h)))
    in
    ap (tree_at (seen_from us ss)) z ∙ here ∙ ap (shaped ts) same ∙ ap (λ (k : Trees ℕ). record { label = label_of s; kids = k }) (sym kids)
at_from ts (t ∷ ss) (suc n) s e low =
    let us : List (Tree ℕ) = ts ++ shaped ts t ∷ [] in
    let z : length ts + suc n ≡ length us + n = omega (arith, length-append ts (shaped ts t ∷ [])) in
    ap (tree_at (seen_from us ss)) z ∙ at_from us ss n s e (λ m h. omega (arith, low m h, z))

from_more : (ts : List (Tree ℕ)) (ss us : List (List ℕ)) → seen_from ts (ss ++ us) ≡ seen_from (seen_from ts ss) us
from_more ts [] us = refl
from_more ts (s ∷ ss) us = from_more (ts ++ shaped ts s ∷ []) ss us

pub seen_long : (ss : List (List ℕ)) → length (seen ss) ≡ length ss
seen_long ss = omega (arith, long_from [] ss)

-- more shapes leave the trees of those that were there
pub seen_still : (before : List (List ℕ)) (s : List ℕ) (now : List (List ℕ)) → Adds before s now → AreStill (seen before) (seen now)
seen_still before s now (inl a) = subst (λ (xs : List (List ℕ)). AreStill (seen before) (seen xs)) (sym a.1) (record { more = omega arith; same = λ n h. refl })
seen_still before s now (inr a) =
    let e : seen now ≡ seen_from (seen before) (s ∷ []) = ap seen a.1 ∙ from_more [] before (s ∷ []) in
    rw e (record {
      more = omega (arith, length-append (seen before) (shaped (seen before) s ∷ []));
      same = λ n h. get_or-front (seen before) (shaped (seen before) s ∷ []) n no_tree h;
    })

got_below : (xs : List (List ℕ)) (n : ℕ) (s : List ℕ) → slice_get xs n ≡ Some s → n < length xs
got_below [] n s e = absurd (cc)
got_below (x ∷ xs) zero s e = omega arith
got_below (x ∷ xs) (suc n) s e = let h = got_below xs n s e in omega (arith, h)

got : (xs : List (List ℕ)) (n : ℕ) → n < length xs → (s : List ℕ) × (slice_get xs n ≡ Some s)
got [] n h = absurd (omega arith)
got (x ∷ xs) zero h = (x, refl)
got (x ∷ xs) (suc n) h = got xs n (omega arith)

got_front : (xs ys : List (List ℕ)) (n : ℕ) (s : List ℕ) → slice_get (xs ++ ys) n ≡ Some s → n < length xs → slice_get xs n ≡ Some s
got_front [] ys n s e h = absurd (omega arith)
got_front (x ∷ xs) ys zero s e h = e
got_front (x ∷ xs) ys (suc n) s e h = got_front xs ys n s e (omega arith)

got_last : (xs : List (List ℕ)) (y : List ℕ) (n : ℕ) (s : List ℕ) → slice_get (xs ++ y ∷ []) n ≡ Some s → (n < length xs) ⊎ ((n ≡ length xs) × (y ≡ s))
got_last [] y zero s e = inr (refl, cc)
got_last [] y (suc n) s e = absurd (cc)
got_last (x ∷ xs) y zero s e = inl (omega arith)
got_last (x ∷ xs) y (suc n) s e = elim (got_last xs y n s e) [ inl h ↦ inl (omega arith) | inr h ↦ inr (ap suc h.0, h.1) ]

pub no_shapes : AreShapes []
no_shapes = record { rooted = λ n e. cc; low = λ n f ms e. absurd (cc) }

pub more_shapes : (before : List (List ℕ)) (f : ℕ) (ms : List ℕ) (now : List (List ℕ)) → AreShapes before → NumbersBelow (length before) ms → Adds before (f ∷ ms) now → AreShapes now
more_shapes before f ms now a b (inl h) = subst AreShapes (sym h.1) a
more_shapes before f ms now a b (inr h) =
    subst AreShapes (sym h.1)
    (record {
      rooted = λ n e. elim (got_last before (f ∷ ms) n [] e) [ inl k ↦ a.rooted n (got_front before ((f ∷ ms) ∷ []) n [] e k) | inr k ↦ let o : f ∷ ms ≡ [] = k.1 in cc ];
      low = λ n g ns e. elim (got_last before (f ∷ ms) n (g ∷ ns) e) [
        | inl k ↦ a.low n g ns (got_front before ((f ∷ ms) ∷ []) n (g ∷ ns) e k)
        | inr k ↦
            let o : f ∷ ms ≡ g ∷ ns = k.1 in
            let p : ms ≡ ns = cc in
            subst (λ (xs : List ℕ). NumbersBelow n xs) p (λ m i. omega (arith, b m i, k.0))
      ];
    })

module _ (shapes : List (List ℕ)) (are : AreShapes shapes) where
  at_shape : (n f : ℕ) (ms : List ℕ) → slice_get shapes n ≡ Some (f ∷ ms) → tree_at (seen shapes) n ≡ shaped (seen shapes) (f ∷ ms)
  at_shape n f ms e =
      let z : 0 + n ≡ n = omega arith in
      ap (tree_at (seen shapes)) (sym z) ∙ at_from [] shapes n (f ∷ ms) e (λ m h. omega (arith, are.low n f ms e m h))

  -- what numbers name is what is in the list
  pub named : (ns : List ℕ) (ts : Trees ℕ) → AreNamed shapes ns ts → row (seen shapes) ns ≡ ts
  named [] none a = refl
  named [] (tree f kids rest) a = absurd a
  named (n ∷ ns) none a = absurd a
  named (n ∷ ns) (tree f kids rest) a =
      let e : tree_at (seen shapes) n ≡ shaped (seen shapes) (f ∷ a.0.0) = at_shape n f a.0.0 a.0.1 in
      ap (λ (t : Tree ℕ). tree t.label t.kids (row (seen shapes) ns)) e
      ∙ ap (λ (k : Trees ℕ). tree f k (row (seen shapes) ns)) (named a.0.0 kids a.0.2)
      ∙ ap (λ (r : Trees ℕ). tree f kids r) (named ns rest a.1)

  pub named_tree : (n : ℕ) (t : Tree ℕ) → IsNamed shapes n t → tree_at (seen shapes) n ≡ t
  named_tree n t a = only_same (tree_at (seen shapes) n) t (named (n ∷ []) (only t) a)

  named_step :
      (b : ℕ) → b ≤ length shapes → ((ns : List ℕ) → NumbersBelow b ns → AreNamed shapes ns (row (seen shapes) ns)) → (ns : List ℕ) → NumbersBelow (suc b) ns → suc b ≤ length shapes →
      AreNamed shapes ns (row (seen shapes) ns)
  named_step b l before [] h s = tt
  named_step b l before (n ∷ ns) h s =
      let low : n < suc b = h n (inl refl) in
      let g = got shapes n (omega arith) in
      (one g.0 g.1, named_step b l before ns (λ m k. h m (inr k)) s)
    where
      one : (t : List ℕ) → slice_get shapes n ≡ Some t → (ms : List ℕ) × (slice_get shapes n ≡ Some ((tree_at (seen shapes) n).label ∷ ms)) × AreNamed shapes ms (tree_at (seen shapes) n).kids
      one [] e = absurd (are.rooted n e)
      one (f ∷ ms) e =
          let low : n < suc b = h n (inl refl) in
          let at = at_shape n f ms e in
          (ms, e ∙ ap (λ (t : Tree ℕ). Some (t.label ∷ ms)) (sym at), subst (λ (t : Tree ℕ). AreNamed shapes ms t.kids) (sym at) (before ms (λ m k. omega (arith, low, are.low n f ms e m k))))

  pub are_named : (b : ℕ) → b ≤ length shapes → (ns : List ℕ) → NumbersBelow b ns → AreNamed shapes ns (row (seen shapes) ns)
  are_named zero l [] h = tt
  are_named zero l (n ∷ ns) h = absurd (let k : n < 0 = h n (inl refl) in omega arith)
  are_named (suc b) l ns h = named_step b (omega arith) (are_named b (omega arith)) ns h l

  pub is_named : (n : ℕ) → n < length (seen shapes) → IsNamed shapes n (tree_at (seen shapes) n)
  is_named n h =
      are_named (length shapes) (omega arith) (n ∷ []) (λ m k. elim k [ inl e ↦ omega (arith, e, h, seen_long shapes) | inr o ↦ absurd o ])

  pub once : NumbersNameTrees → AreDistinct shapes → (m n : ℕ) → m < length (seen shapes) → n < length (seen shapes) → tree_at (seen shapes) m ≡ tree_at (seen shapes) n → m ≡ n
  once law d m n h k e =
      let same : m ∷ [] ≡ n ∷ [] = law.one_number shapes d (m ∷ []) (n ∷ []) (only (tree_at (seen shapes) m)) (is_named m h) (subst (λ (t : Tree ℕ). IsNamed shapes n t) (sym e) (is_named n k)) in
      cc

  pub roots_below : (l : ℕ) → ((n : ℕ) → n < length (seen shapes) → LabelsBelow l (only (tree_at (seen shapes) n))) → RootsBelow l shapes
  roots_below l b m f ms e =
      let h : m < length (seen shapes) = omega (arith, got_below shapes m (f ∷ ms) e, seen_long shapes) in
      let at = at_shape m f ms e in
      let g : f ≡ (tree_at (seen shapes) m).label = ap (λ (t : Tree ℕ). t.label) (sym at) in
      omega (arith, (b m h).0, g)

-- a tree that was not there is the one that was put
only_new :
    (before : List (List ℕ)) (f : ℕ) (ms : List ℕ) (now : List (List ℕ)) (t : Tree ℕ) → Adds before (f ∷ ms) now → t ≡ shaped (seen before) (f ∷ ms) → (m : ℕ) → m < length (seen now) →
    (m < length (seen before)) ⊎ (tree_at (seen now) m ≡ t)
only_new before f ms now t (inl a) e m h = inl (omega (arith, h, ap (λ (xs : List (List ℕ)). length (seen xs)) a.1))
only_new before f ms now t (inr a) e m h =
    let s : seen now ≡ seen before ++ shaped (seen before) (f ∷ ms) ∷ [] = ap seen a.1 ∙ from_more [] before ((f ∷ ms) ∷ []) in
    let l = length-append (seen before) (shaped (seen before) (f ∷ ms) ∷ []) in
    let k = ap (λ (us : List (Tree ℕ)). length us) s in
    elim (either m (length (seen before))) [
      | inl b ↦ inl b
      | inr b ↦
          let i : m ≡ length (seen before) = omega (arith, b, h, l, k) in
          inr (ap (λ (us : List (Tree ℕ)). tree_at us m) s ∙ ap (λ (j : ℕ). tree_at (seen before ++ shaped (seen before) (f ∷ ms) ∷ []) j) i ∙ last_at (seen before) (shaped (seen before) (f ∷ ms)) no_tree ∙ sym e)
    ]
  where
    either : (a b : ℕ) → (a < b) ⊎ (b ≤ a)
    either a b = grind arith

-- what an insertion leaves

pub shapes_after :
    {E : Type 0} (r : Result ℕ E) (before : List (List ℕ)) (f : ℕ) (ms : List ℕ) (now : List (List ℕ)) (ts : List (Tree ℕ)) → seen before ≡ ts → AreShapes before → NumbersBelow (length ts) ms →
    IfOk r (λ _. Adds before (f ∷ ms) now) → OnErr r (now ≡ before) → AreShapes now
shapes_after (Ok n) before f ms now ts v a b adds err =
    more_shapes before f ms now a (λ m h. omega (arith, b m h, seen_long before, ap (λ (us : List (Tree ℕ)). length us) v)) adds
shapes_after (Err e) before f ms now ts v a b adds err = subst AreShapes (sym err) a

-- after an error the trees are the same
pub kept_after :
    {E : Type 0} (r : Result ℕ E) (before now : List (List ℕ)) (ts : List (Tree ℕ)) → seen before ≡ ts → OnErr r (now ≡ before) → OnErr r (seen now ≡ ts)
kept_after (Ok n) before now ts v err = tt
kept_after (Err e) before now ts v err = ap seen err ∙ v

pub inserted :
    {E : Type 0} (r : Result ℕ E) (before : List (List ℕ)) (f : ℕ) (ms : List ℕ) (now : List (List ℕ)) (ts : List (Tree ℕ)) → seen before ≡ ts → AreShapes before → NumbersBelow (length ts) ms →
    IfOk r (λ n. n < length now) → IfOk r (λ _. Adds before (f ∷ ms) now) →
    IfOk r (λ n. (kids : Trees ℕ) → AreNamed before ms kids → IsNamed now n (record { label = f; kids = kids })) → IfOk r (λ n. Inserts ts f ms n (seen now))
inserted (Ok n) before f ms now ts v a b low adds names =
    let below : NumbersBelow (length before) ms = λ m h. omega (arith, b m h, seen_long before, ap (λ (us : List (Tree ℕ)). length us) v) in
    let kids : AreNamed before ms (row (seen before) ms) = are_named before a (length before) (omega arith) ms below in
    let is : IsNamed now n (record { label = f; kids = row (seen before) ms }) = names (row (seen before) ms) kids in
    record {
      below = omega (arith, low, seen_long now);
      named = named_tree now (more_shapes before f ms now a below adds) n (record { label = f; kids = row (seen before) ms }) is ∙ ap (λ (us : List (Tree ℕ)). record { label = f; kids = row us ms }) v;
      still = subst (λ (us : List (Tree ℕ)). AreStill us (seen now)) v (seen_still before (f ∷ ms) now adds);
      only = subst (λ (us : List (Tree ℕ)). (m : ℕ) → m < length (seen now) → (m < length us) ⊎ (tree_at (seen now) m ≡ tree_at (seen now) n)) v
          (only_new before f ms now (tree_at (seen now) n) adds (named_tree now (more_shapes before f ms now a below adds) n (record { label = f; kids = row (seen before) ms }) is));
    }
inserted (Err e) before f ms now ts v a b low adds names = tt
