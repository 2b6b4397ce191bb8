-- Trees of which each child is listed, or the list of its state is full.
use Rattle.std.specs.Prelude.{◌≡◌, ℕ, ◌<◌, ◌≤◌, ◌⊎◌, Some, List, [], ◌∷◌, ◌++◌, length, refl}
use Rattle.std.proofs.Common.{arith, ap, sym, ◌∙◌, subst, inl, inr}
use Rattle.tib_lex.specs.Lists.{Has, Each, Ascends, Along}
use Rattle.tib_tree.specs.Trees.{Tree}
use Rattle.tib_cost.proofs.Least.{IsLeast-unique}
use Rattle.tib_grammar.specs.declared.Rule.{Rule}
use Rattle.tib_lex.proofs.Members.{each_has, each_of, at_has}
use Rattle.tib_ranked_trees.specs.First.{IsFront}
use Rattle.tib_ranked_trees.specs.Best.{Cheaper, IsTreeAt, NotAfter}
use Rattle.tib_ranked_trees.specs.Levels.{trees_of, made}
use Rattle.tib_ranked_trees.specs.Pass.{Entries, no_entry, entry_at, picked, AreRanks, HasTree}
use Rattle.tib_ranked_trees.proofs.Fronts.{not_itself}
use Rattle.tib_ranked_trees.proofs.Ranks.{cheaper_strict}
use Rattle.tib_ranked_trees.proofs.Telling.{AreApart, tree_same}

-- the whole row determines each tree of it
row_tells : (fs bs : List (Tree ℕ × ℕ)) (x y : Tree ℕ × ℕ) → trees_of (fs ++ x ∷ bs) ≡ trees_of (fs ++ y ∷ bs) → x.0 ≡ y.0
row_tells [] bs x y e =
    let f : x.0.label ≡ y.0.label = cc in
    let k : x.0.kids ≡ y.0.kids = cc in
    tree_same x.0 y.0 f k
row_tells (f ∷ fs) bs x y e = let r : trees_of (fs ++ x ∷ bs) ≡ trees_of (fs ++ y ∷ bs) = cc in row_tells fs bs x y r

module _ (product : ℕ → ℕ → ℕ) (labels : List (List ℕ)) (rules : List (Rule ℕ)) (k : ℕ) (entries : Entries) (fronts : (q : ℕ) → IsFront (IsTreeAt product rules q) (Cheaper labels) (entries q)) where
  abbrev pub At : ℕ → Tree ℕ × ℕ → Type 0
  At q a = IsTreeAt product rules q a

  -- a tree has one cost at a state
  pub one_cost : (q : ℕ) (t : Tree ℕ) (c d : ℕ) → At q (t, c) → At q (t, d) → c ≡ d
  one_cost q t c d a b = let e : Some c ≡ Some d = IsLeast-unique a b in cc

  pub listed_at : (q : ℕ) (y : Tree ℕ × ℕ) → At q y → HasTree (entries q) y.0 → Has (entries q) y
  listed_at q y a h =
      let b : At q (y.0, h.0) = each_has (At q) (entries q) (y.0, h.0) (fronts q).members h.1 in
      let e : h.0 ≡ y.1 = one_cost q y.0 h.0 y.1 b a in
      subst (λ c. Has (entries q) (y.0, c)) e h.1

  -- each child is listed, or the list is full
  abbrev pub AreClosed : List ℕ → List (Tree ℕ × ℕ) → Type 0
  AreClosed qs zs = Along (λ q z. Has (entries q) z ⊎ ((Has (entries q) z → ⊥) × (k ≤ length (entries q)))) qs zs

  -- one state whose list is full, at any entry of which the row is no later
  pub record IsFull (qs : List ℕ) (zs : List (Tree ℕ × ℕ)) : Type 0 where
    pub state : ℕ
    pub full : k ≤ length (entries state)
    pub front : List ℕ
    pub back : List ℕ
    pub before : List (Tree ℕ × ℕ)
    pub after : List (Tree ℕ × ℕ)
    pub ranks : (m : ℕ) → m < length (entries state) → AreRanks entries qs (front ++ m ∷ back)
    pub picks : (m : ℕ) → picked entries qs (front ++ m ∷ back) ≡ before ++ entry_at entries state m ∷ after
    pub low : (m : ℕ) → m < length (entries state) → Along (NotAfter labels) (picked entries qs (front ++ m ∷ back)) zs

  pub record IsSettled (qs : List ℕ) (zs : List (Tree ℕ × ℕ)) : Type 0 where
    pub ranks : List ℕ
    pub are_ranks : AreRanks entries qs ranks
    pub low : Along (NotAfter labels) (picked entries qs ranks) zs
    pub which : (picked entries qs ranks ≡ zs) ⊎ IsFull qs zs

  pub settle : 0 < k → (qs : List ℕ) (zs : List (Tree ℕ × ℕ)) → Along (IsTreeAt product rules) qs zs → AreClosed qs zs → IsSettled qs zs
  settle some [] [] a c = record { ranks = []; are_ranks = tt; low = tt; which = inl refl }
  settle some [] (z ∷ zs) a c = absurd a
  settle some (q ∷ qs) [] a c = absurd a
  settle some (q ∷ qs) (z ∷ zs) a c =
      let rest = settle some qs zs a.1 c.1 in
      elim c.0 [
        | inl h ↦
            let at = at_has (entries q) z no_entry h in
            let head : NotAfter labels (entry_at entries q at.0) z = inl at.2 in
            record {
              ranks = at.0 ∷ rest.ranks;
              are_ranks = (at.1, rest.are_ranks);
              low = (head, rest.low);
              which = elim rest.which [
                | inl e ↦ inl (cc (at.2, e))
                | inr f ↦ inr (record {
                  state = f.state;
                  full = f.full;
                  front = at.0 ∷ f.front;
                  back = f.back;
                  before = entry_at entries q at.0 ∷ f.before;
                  after = f.after;
                  ranks = λ m b. (at.1, f.ranks m b);
                  picks = λ m. ap (λ ys. entry_at entries q at.0 ∷ ys) (f.picks m);
                  low = λ m b. (head, f.low m b);
                })
              ];
            }
        | inr n ↦
            let under : (m : ℕ) → m < length (entries q) → NotAfter labels (entry_at entries q m) z =
            λ m b. inr (each_has (λ x. Cheaper labels x z) (entries q) (entry_at entries q m) ((fronts q).others z a.0 n.0) (Rattle.tib_lex.proofs.Members.has_at (entries q) m no_entry b))
            in
            let here : 0 < length (entries q) = omega (arith, n.1) in
            record {
              ranks = 0 ∷ rest.ranks;
              are_ranks = (here, rest.are_ranks);
              low = (under 0 here, rest.low);
              which = inr (record {
                state = q;
                full = n.1;
                front = [];
                back = rest.ranks;
                before = [];
                after = picked entries qs rest.ranks;
                ranks = λ m b. (b, rest.are_ranks);
                picks = λ m. refl;
                low = λ m b. (under m b, rest.low);
              });
            }
      ]

  -- trees that differ in one child are apart
  pub apart_at :
      (r : Rule ℕ) (p : ℕ) (before after : List (Tree ℕ × ℕ)) (xs : List (Tree ℕ × ℕ)) → Ascends (Cheaper labels) xs → Each (At p) xs →
      AreApart (λ x. (made product r (before ++ x ∷ after)).0) xs
  apart_at r p before after [] a m = tt
  apart_at r p before after (x ∷ xs) a m = (
    each_of (λ y. (made product r (before ++ x ∷ after)).0 ≡ (made product r (before ++ y ∷ after)).0 → ⊥) xs (λ y h e.
        let kids : trees_of (before ++ x ∷ after) ≡ trees_of (before ++ y ∷ after) = ap (λ (t : Tree ℕ). t.kids) e in
        let t : x.0 ≡ y.0 = row_tells before after x y kids in
        let other : At p (x.0, y.1) = subst (λ s. At p (s, y.1)) (sym t) (each_has (At p) xs y m.1 h) in
        let c : x.1 ≡ y.1 = one_cost p x.0 x.1 y.1 m.0 other in
        let same : x ≡ y = ap (λ s. (s, x.1)) t ∙ ap (λ d. (y.0, d)) c in
        not_itself (cheaper_strict labels) x y same (each_has (Cheaper labels x) xs y a.0 h)),
    apart_at r p before after xs a.1 m.1,
  )
