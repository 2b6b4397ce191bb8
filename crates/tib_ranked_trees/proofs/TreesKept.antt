-- What is kept names trees, and a new shape is kept with the size of its tree.
use Rattle.std.specs.Prelude.{◌≡◌, ℕ, ◌+◌, ◌<◌, ◌≤◌, ◌⊎◌, List, [], ◌∷◌, ◌++◌, length, slice_get, Some, None, min, refl}
use Rattle.std.proofs.Common.{zero, suc, arith, ap, sym, ◌∙◌, subst, inl, inr, get_or}
use Rattle.std.proofs.lemmas.List.{get_or_append_left, length-append}
use Rattle.std.proofs.Common.{drop, add-one}
use Rattle.std.proofs.Math.Seq.{drop-cons}
use Rattle.tib_lex.specs.Lists.{Has, total}
use Rattle.tib_tree.specs.Trees.{Tree, Trees, none, tree, only, sizes}
use Rattle.tib_tree.specs.Grows.{Grows}
use Rattle.tib_tree.proofs.Growing.{grows_more}
use Rattle.tib_tree.proofs.Relabelling.{got}
use Rattle.tib_tree.proofs.TreeOrder.{only_same}
use Rattle.tib_ranked_trees.specs.Numbers.{AreNamed, IsNamed, NumbersBelow, label_of, children_of, label_at, children_at, told_size, most_size}
use Rattle.tib_ranked_trees.specs.Kept.{AreKept}
use Rattle.tib_ranked_trees.proofs.Numbers.{one_tree, grown}

is_shape : (s : List ℕ) → (s ≡ [] → ⊥) → s ≡ label_of s ∷ children_of s
is_shape [] h = absurd (h refl)
is_shape (f ∷ ms) h = refl

-- a shape is a label and its children
pub rooted_at :
    (shapes : List (List ℕ)) → ((n : ℕ) → slice_get shapes n ≡ Some [] → ⊥) → (n : ℕ) →
    n < length shapes → slice_get shapes n ≡ Some (label_at shapes n ∷ children_at shapes n)
rooted_at shapes rooted n h =
    let at : slice_get shapes n ≡ Some (get_or shapes n []) = got shapes n h in
    at ∙ ap Some (is_shape (get_or shapes n []) (λ e. rooted n (at ∙ ap Some e)))

-- numbers with trees that they name
abbrev pub Named : List (List ℕ) → List ℕ → Type 0
Named shapes ns = (ts : Trees ℕ) × AreNamed shapes ns ts

named_more :
    (shapes : List (List ℕ)) (n : ℕ) (ns : List ℕ) (t ts : Trees ℕ) → AreNamed shapes (n ∷ []) t →
    AreNamed shapes ns ts → Named shapes (n ∷ ns)
named_more shapes n ns none ts a b = absurd a
named_more shapes n ns (tree f kids rest) ts a b = (tree f kids ts, (a.0, b))

each_named :
    (shapes : List (List ℕ)) (ns : List ℕ) → ((n : ℕ) → Has ns n → Named shapes (n ∷ [])) →
    Named shapes ns
each_named shapes [] h = (none, tt)
each_named shapes (n ∷ ns) h =
    let first = h n (inl refl) in
    let others = each_named shapes ns (λ m k. h m (inr k)) in
    named_more shapes n ns first.0 others.0 first.1 others.1

module _ (shapes : List (List ℕ)) (sizes_of : List ℕ) (kept : AreKept shapes sizes_of) where
  -- numbers that are kept, all below some number, name trees
  names_below :
      (k : ℕ) (ns : List ℕ) → NumbersBelow k ns → NumbersBelow (length shapes) ns → Named shapes ns
  names_below zero ns b w = each_named shapes ns (λ n h. absurd (omega (arith, b n h)))
  names_below (suc k) ns b w =
      each_named shapes ns (λ n h.
      let at = rooted_at shapes kept.rooted n (w n h) in
      let low = kept.low n (label_at shapes n) (children_at shapes n) at in
      let kids = names_below k (children_at shapes n) (λ m j. omega (arith, low m j, b n h)) (λ m j. omega (arith, low m j, w n h)) in
      (tree (label_at shapes n) kids.0 none, ((children_at shapes n, at, kids.1), tt)))

  -- numbers that are kept name trees
  pub names : (ns : List ℕ) → NumbersBelow (length shapes) ns → Named shapes ns
  names ns w = names_below (length shapes) ns w w

  -- a number that is kept names a tree
  pub names_tree : (n : ℕ) → n < length shapes → (t : Tree ℕ) × IsNamed shapes n t
  names_tree n h =
      let at = rooted_at shapes kept.rooted n h in
      let low = kept.low n (label_at shapes n) (children_at shapes n) at in
      let kids = names (children_at shapes n) (λ m j. omega (arith, low m j)) in
      (record { label = label_at shapes n; kids = kids.0 }, ((children_at shapes n, at, kids.1), tt))

  -- the stored sizes, added up, give the size of the row of trees
  sum_named :
      (ns : List ℕ) (ts : Trees ℕ) → AreNamed shapes ns ts → (a : ℕ) →
      min (a + total (λ m. get_or sizes_of m 0) ns) most_size ≡ min (a + sizes ts) most_size
  sum_named [] none h a = refl
  sum_named [] (tree f kids rest) h a = absurd h
  sum_named (n ∷ ns) none h a = absurd h
  sum_named (n ∷ ns) (tree f kids rest) h a =
      let one : get_or sizes_of n 0 ≡ min (suc (sizes kids)) most_size = kept.sized n (record { label = f; kids = kids }) (h.0, tt) in
      let more = sum_named ns rest h.1 (a + get_or sizes_of n 0) in
      omega (arith, one, more)

-- what is in a list with one more at its end
pub at_end :
    (xs : List (List ℕ)) (x t : List ℕ) (n : ℕ) → slice_get (xs ++ x ∷ []) n ≡ Some t →
    ((slice_get xs n ≡ Some t) × (n < length xs)) ⊎ ((n ≡ length xs) × (t ≡ x))
at_end [] x t zero e = inr (refl, cc)
at_end [] x t (suc n) e = let bad : None ≡ Some t = e in absurd (cc)
at_end (y ∷ ys) x t zero e = inl (e, omega arith)
at_end (y ∷ ys) x t (suc n) e = elim (at_end ys x t n e) [
  | inl h ↦ inl (h.0, omega (arith, h.1))
  | inr h ↦ inr (ap suc h.0, h.1)
]

last_got : (xs : List ℕ) (x d n : ℕ) → n ≡ length xs → get_or (xs ++ x ∷ []) n d ≡ x
last_got [] x d zero e = refl
last_got [] x d (suc n) e = absurd (omega arith)
last_got (y ∷ ys) x d zero e = absurd (omega arith)
last_got (y ∷ ys) x d (suc n) e = last_got ys x d n (omega arith)

same_root : (s t : List ℕ) → s ≡ t → (label_of s ≡ label_of t) × (children_of s ≡ children_of t)
same_root s t e = (ap label_of e, ap children_of e)

module _
    (shapes : List (List ℕ)) (sizes_of : List ℕ) (kept : AreKept shapes sizes_of) (label : ℕ)
    (children : List ℕ) (size : ℕ) (below : NumbersBelow (length shapes) children)
    (told : size ≡ min (1 + total (λ m. get_or sizes_of m 0) children) most_size) where
  abbrev now : List (List ℕ)
  now = shapes ++ (label ∷ children) ∷ []

  sized_before :
      (n : ℕ) (t : Tree ℕ) → n < length shapes → IsNamed now n t →
      get_or (sizes_of ++ size ∷ []) n 0 ≡ told_size t
  sized_before n t h a =
      let s = names_tree shapes sizes_of kept n h in
      let same : t ≡ s.0 =
      only_same t s.0 (one_tree now (n ∷ []) (only t) (only s.0) a (grown shapes now (grows_more shapes now ((label ∷ children) ∷ []) refl) (n ∷ []) (only s.0) s.1))
      in
      get_or_append_left sizes_of (size ∷ []) 0 n (omega (arith, kept.long))
      ∙ kept.sized n s.0 s.1
      ∙ ap (λ w. told_size w) (sym same)

  sized_last :
      (n f : ℕ) (ms : List ℕ) (kids : Trees ℕ) → n ≡ length shapes → f ∷ ms ≡ label ∷ children →
      AreNamed now ms kids →
      get_or (sizes_of ++ size ∷ []) n 0 ≡ told_size (record { label = f; kids = kids })
  sized_last n f ms kids h e a =
      let r = same_root (f ∷ ms) (label ∷ children) e in
      let s = names shapes sizes_of kept children below in
      let same : kids ≡ s.0 =
      one_tree now children kids s.0 (subst (λ ks. AreNamed now ks kids) r.1 a) (grown shapes now (grows_more shapes now ((label ∷ children) ∷ []) refl) children s.0 s.1)
      in
      let sum = sum_named shapes sizes_of kept children s.0 s.1 1 in
      last_got sizes_of size 0 n (omega (arith, h, kept.long))
      ∙ told
      ∙ sum
      ∙ ap (λ ts. min (1 + sizes ts) most_size) (sym same)
      ∙ ap (λ k. min k most_size) (omega arith)

  -- a new shape is kept
  pub kept_added : AreKept now (sizes_of ++ size ∷ [])
  kept_added = record {
    rooted = λ n e. elim (at_end shapes (label ∷ children) [] n e) [
      | inl h ↦ kept.rooted n h.0
      | inr h ↦ let bad : [] ≡ label ∷ children = h.1 in absurd (cc)
    ];
    low = λ n f ms e. elim (at_end shapes (label ∷ children) (f ∷ ms) n e) [
      | inl h ↦ kept.low n f ms h.0
      | inr h ↦
          let r = same_root (f ∷ ms) (label ∷ children) h.1 in
          λ m j. omega (arith, below m (subst (λ ks. Has ks m) r.1 j), h.0)
    ];
    long = omega (arith, length-append sizes_of (size ∷ []), length-append shapes ((label ∷ children) ∷ []), kept.long);
    sized = λ n t a. elim (at_end shapes (label ∷ children) (t.label ∷ a.0.0) n a.0.1) [
      | inl h ↦ sized_before n t h.1 a
      | inr h ↦ sized_last n t.label a.0.0 t.kids h.0 h.1 a.0.2
    ];
  }

-- a new shape is kept, as the lists are made
pub kept_new :
    (shapes now : List (List ℕ)) (sizes_of more : List ℕ) (label : ℕ) (children shape : List ℕ)
    (size : ℕ) → AreKept shapes sizes_of → NumbersBelow (length shapes) children →
    size ≡ min (1 + total (λ m. get_or sizes_of m 0) children) most_size →
    shape ≡ label ∷ children → now ≡ shapes ++ shape ∷ [] → more ≡ sizes_of ++ size ∷ [] →
    AreKept now more
kept_new shapes now sizes_of more label children shape size kept below told is e k =
    let goes : now ≡ shapes ++ (label ∷ children) ∷ [] = e ∙ ap (λ s. shapes ++ s ∷ []) is in
    subst (λ l. AreKept l more) (sym goes)
    (subst (λ l. AreKept (shapes ++ (label ∷ children) ∷ []) l) (sym k)
    (kept_added shapes sizes_of kept label children size below told))

-- it is last
pub last_shape :
    (shapes now : List (List ℕ)) (shape s : List ℕ) (n : ℕ) → n ≡ length shapes → s ≡ shape →
    now ≡ shapes ++ s ∷ [] → slice_get now n ≡ Some shape
last_shape shapes now shape s n h same e =
    subst (λ l. slice_get l n ≡ Some shape) (sym (e ∙ ap (λ x. shapes ++ x ∷ []) same)) (by shapes n h)
  where
    by : (xs : List (List ℕ)) (k : ℕ) → k ≡ length xs → slice_get (xs ++ shape ∷ []) k ≡ Some shape
    by [] zero h = refl
    by [] (suc k) h = absurd (omega arith)
    by (x ∷ xs) zero h = absurd (omega arith)
    by (x ∷ xs) (suc k) h = by xs k (omega arith)

-- a shape that is held names the tree over the trees that its children name
pub shape_names :
    (before now : List (List ℕ)) (n label : ℕ) (children : List ℕ) → Grows before now →
    slice_get now n ≡ Some (label ∷ children) → (kids : Trees ℕ) → AreNamed before children kids →
    IsNamed now n (record { label = label; kids = kids })
shape_names before now n label children g at kids a =
    ((children, at, grown before now g children kids a), tt)

-- What is at a number, read in a list that is the shapes.
module _ (shapes self : List (List ℕ)) (sizes_of : List ℕ) (kept : AreKept shapes sizes_of) (same : shapes ≡ self) where
  pub shape_rooted :
      (n : ℕ) (s : List ℕ) → n < length self → slice_get self n ≡ Some s →
      s ≡ label_at self n ∷ children_at self n
  shape_rooted n s h e =
      let at : slice_get self n ≡ Some (label_at self n ∷ children_at self n) =
      subst (λ l. slice_get l n ≡ Some (label_at l n ∷ children_at l n)) same (rooted_at shapes kept.rooted n (omega (arith, h, ap length same)))
      in
      let both : Some s ≡ Some (label_at self n ∷ children_at self n) = sym e ∙ at in
      cc both

  pub shape_low : (n : ℕ) → n < length self → NumbersBelow n (children_at self n)
  shape_low n h =
      let at = rooted_at shapes kept.rooted n (omega (arith, h, ap length same)) in
      subst (λ l. NumbersBelow n (children_at l n)) same (kept.low n (label_at shapes n) (children_at shapes n) at)

  size_read : (xs : List ℕ) (n v : ℕ) → n < length xs → v ≡ get_or xs n v → get_or xs n 0 ≡ v
  size_read [] n v h e = absurd (omega (arith, h))
  size_read (x ∷ xs) zero v h e = sym e
  size_read (x ∷ xs) (suc n) v h e = size_read xs n v (omega arith) e

  pub size_named :
      (n v : ℕ) → n < length self → v ≡ get_or sizes_of n v →
      (t : Tree ℕ) × IsNamed self n t × (v ≡ told_size t)
  size_named n v h e =
      let s = names_tree shapes sizes_of kept n (omega (arith, h, ap length same)) in
      (s.0, subst (λ l. IsNamed l n s.0) same s.1, sym (size_read sizes_of n v (omega (arith, h, ap length same, kept.long)) e) ∙ kept.sized n s.0 s.1)

-- a step over one more child
pub one_child :
    (sizes_of children : List ℕ) (i a b : ℕ) → i < length children → a ≤ most_size →
    b ≡ min (a + get_or sizes_of (get_or children i 0) 0) most_size → (whole : ℕ) →
    min (a + total (λ m. get_or sizes_of m 0) (drop i children)) most_size ≡ whole →
    min (b + total (λ m. get_or sizes_of m 0) (drop (i + 1) children)) most_size ≡ whole
one_child sizes_of children i a b h k e whole so =
    let d : drop i children ≡ get_or children i 0 ∷ drop (suc i) children = drop-cons children i 0 h in
    let t : total (λ m. get_or sizes_of m 0) (drop i children)
    ≡ get_or sizes_of (get_or children i 0) 0 + total (λ m. get_or sizes_of m 0) (drop (suc i) children) =
    ap (total (λ m. get_or sizes_of m 0)) d
    in
    rw (add-one i) (omega (arith, e, t, so))
