-- A state's least candidate is taken: its tree is listed, or was listed before.
use Rattle.std.specs.Prelude.{◌≡◌, ◌⊎◌, ℕ, ◌+◌, ◌<◌, ◌≤◌, ◌^◌, List, [], ◌∷◌, ◌++◌, length, map, refl}
use Rattle.std.proofs.Common.{suc, arith, ap, sym, ◌∙◌, subst, inl, inr, get_or, length-append}
use Rattle.std.proofs.Math.ListN.{set, length-set}
use Rattle.std.proofs.lemmas.List.{length-map, get_or-set_same, get_or-set_other}
use Rattle.tib_lex.specs.Lists.{Has}
use Rattle.tib_lex.proofs.Lists.{append_nil}
use Rattle.tib_lex.proofs.Members.{has_left}
use Rattle.tib_tree.specs.Trees.{Tree, size, only, most_nodes}
use Rattle.tib_tree.specs.Growth.{LabelsBelow}
use Rattle.tib_grammar.specs.Range.{AreInRange}
use Rattle.tib_ranked_trees.specs.Best.{Costed, IsNextAt, IsFrontAt}
use Rattle.tib_ranked_trees.specs.Lazy.{IsKept, IsWhole, IsGrown}
use Rattle.tib_ranked_trees.specs.Pass.{Entries, HasTree}
use Rattle.tib_ranked_trees.specs.Pass as pass
use Rattle.tib_ranked_trees.proofs.Going.{grow}
use Rattle.tib_ranked_trees.proofs.Keeping.{keeps, get_or-front}
use Rattle.tib_ranked_trees.specs.ListsOf.{ListsOf}
use Rattle.tib_ranked_trees.specs.Seen.{tree_at, AreStill}
use Rattle.tib_ranked_trees.specs.Held.{no_entry, list_of, entry_at, told, entries_of, grown, AreMore, IsSound}
use Rattle.tib_ranked_trees.specs.declared.lists.Entry.{Entry}
use Rattle.tib_ranked_trees.proofs.Growing.{entries_kept}
use Rattle.tib_lazy_lists.specs.Asks.{AreListed}
use Rattle.tib_lazy_lists.proofs.Kept.{same_or}

-- entries that stay have the same trees
told_same : (ts us : List (Tree ℕ)) (es : List Entry) → ((j : ℕ) → j < length es → tree_at us (get_or es j no_entry).tree ≡ tree_at ts (get_or es j no_entry).tree) → map (told us) es ≡ map (told ts) es
told_same ts us [] h = refl
told_same ts us (a ∷ es) h =
    ap (λ (t : Tree ℕ). (t, a.cost) ∷ map (told us) es) (h 0 (omega arith)) ∙ ap (λ (zs : List Costed). (tree_at ts a.tree, a.cost) ∷ zs) (told_same ts us es (λ j i. h (suc j) (omega arith)))

told_snoc : (ts : List (Tree ℕ)) (es : List Entry) (e : Entry) → map (told ts) (es ++ e ∷ []) ≡ map (told ts) es ++ told ts e ∷ []
told_snoc ts [] e = refl
told_snoc ts (a ∷ es) e = ap (λ (zs : List Costed). told ts a ∷ zs) (told_snoc ts es e)

-- what was appended is at the end
pub at_end : {A : Type 0} (xs : List A) (y d : A) → get_or (xs ++ y ∷ []) (length xs) d ≡ y
at_end [] y d = refl
at_end (x ∷ xs) y d = at_end xs y d

below_next : (j n : ℕ) → j < n + 1 → (j < n) ⊎ (j ≡ n)
below_next j n h = grind arith

-- a tree has a number now, and those that were there keep theirs
pub record HasNew (x : ListsOf) (ts : List (Tree ℕ)) (n : ℕ) (t : Tree ℕ) : Type 0 where
  pub below : n < length ts
  pub named : tree_at ts n ≡ t
  pub still : AreStill x.trees ts
  pub only : (m : ℕ) → m < length ts → (m < length x.trees) ⊎ (tree_at ts m ≡ tree_at ts n)

module _ (x : ListsOf) (s : IsSound x) (ts : List (Tree ℕ)) (n : ℕ) (t : Tree ℕ) (h : HasNew x ts n t) (small : size t ≤ most_nodes) (labelled : LabelsBelow (length x.labels) (only t)) where
  -- what holds for each tree that was there, and for the new one, holds for each
  each_tree : (P : Tree ℕ → Type 0) → ((i : ℕ) → i < length x.trees → P (tree_at x.trees i)) → P t → (i : ℕ) → i < length ts → P (tree_at ts i)
  each_tree P old new i l = elim (h.only i l) [
    | inl b ↦ subst P (sym (h.still.same i b)) (old i b)
    | inr f ↦ subst P (sym (f ∙ h.named)) new
  ]

  same_at : (q : ℕ) → map (told ts) (list_of x q) ≡ entries_of x q
  same_at q = told_same x.trees ts (list_of x q) (λ j l. h.still.same (get_or (list_of x q) j no_entry).tree (s.listed q j l))

  -- the tree was listed before

  pub same_entries : entries_of (grown x ts x.lists x.candidates x.ranks) ≡ entries_of x
  same_entries = λ i q. same_at q i

  pub more_trees : AreMore x ts x.lists x.candidates x.ranks
  more_trees = record { trees = h.still; lists = λ q. ([], sym (append_nil (list_of x q))); candidates = ([], sym (append_nil x.candidates)); ranks = ([], sym (append_nil x.ranks)) }

  pub sound_trees : IsSound (grown x ts x.lists x.candidates x.ranks)
  sound_trees = record {
    normal = s.normal;
    range = s.range;
    rules_labelled = s.rules_labelled;
    distinct = s.distinct;
    ranked = s.ranked;
    listed = λ q j l. omega (arith, s.listed q j l, h.still.more);
    labelled = each_tree (λ u. LabelsBelow (length x.labels) (only u)) s.labelled labelled;
    few = s.few;
    small = each_tree (λ u. size u ≤ most_nodes) s.small small;
  }

  -- it is listed now
  module _ (u : ℕ) (within : u < length x.lists) (cost m : ℕ) where
    abbrev e : Entry
    e = record { tree = n; cost = cost; candidate = m }

    abbrev ls : List (List Entry)
    ls = set x.lists u (list_of x u ++ e ∷ [])

    abbrev z : ListsOf
    z = grown x ts ls x.candidates x.ranks

    pub list_here : list_of z u ≡ list_of x u ++ e ∷ []
    list_here = get_or-set_same x.lists u (list_of x u ++ e ∷ []) [] within

    pub list_there : (p : ℕ) → (p ≡ u → ⊥) → list_of z p ≡ list_of x p
    list_there p o = get_or-set_other x.lists u p (list_of x u ++ e ∷ []) [] o

    pub more_entries : AreMore x ts ls x.candidates x.ranks
    more_entries = record {
      trees = h.still;
      lists = λ p. elim (same_or p u) [
        | inl f ↦ (e ∷ [], subst (λ (r : ℕ). list_of z r ≡ list_of x r ++ e ∷ []) (sym f) list_here)
        | inr o ↦ ([], list_there p o ∙ sym (append_nil (list_of x p)))
      ];
      candidates = ([], sym (append_nil x.candidates));
      ranks = ([], sym (append_nil x.ranks));
    }

    pub entries_here : entries_of z u ≡ entries_of x u ++ (t, cost) ∷ []
    entries_here =
        ap (λ (es : List Entry). map (told ts) es) list_here ∙ told_snoc ts (list_of x u) e ∙ ap (λ (zs : List Costed). zs ++ told ts e ∷ []) (same_at u)
        ∙ ap (λ (w : Tree ℕ). entries_of x u ++ (w, cost) ∷ []) h.named

    pub entries_there : (p : ℕ) → (p ≡ u → ⊥) → entries_of z p ≡ entries_of x p
    entries_there p o = ap (λ (es : List Entry). map (told ts) es) (list_there p o) ∙ same_at p

    pub long_here : length (list_of z u) ≡ length (list_of x u) + 1
    long_here = omega (arith, ap (λ (es : List Entry). length es) list_here, length-append (list_of x u) (e ∷ []))

    -- what holds for each entry that was there, and for the new one, holds for each
    each_entry : (P : ℕ → ℕ → Entry → Type 0) → ((p j : ℕ) → j < length (list_of x p) → P p j (entry_at x p j)) → P u (length (list_of x u)) e → (p j : ℕ) → j < length (list_of z p) → P p j (entry_at z p j)
    each_entry P old new p j l = elim (same_or p u) [
      | inr o ↦
          let f = list_there p o in
          subst (λ (es : List Entry). P p j (get_or es j no_entry)) (sym f) (old p j (omega (arith, l, ap (λ (es : List Entry). length es) f)))
      | inl f ↦
          let l' : j < length (list_of x u) + 1 = omega (arith, l, ap (λ (r : ℕ). length (list_of z r)) f, long_here) in
          subst (λ (r : ℕ). P r j (entry_at z r j)) (sym f)
          (subst (λ (es : List Entry). P u j (get_or es j no_entry)) (sym list_here)
          (elim (below_next j (length (list_of x u)) l') [
            | inl b ↦ subst (λ (a : Entry). P u j a) (sym (get_or-front (list_of x u) (e ∷ []) j no_entry b)) (old u j b)
            | inr g ↦ subst (λ (i : ℕ). P u i (get_or (list_of x u ++ e ∷ []) i no_entry)) (sym g) (subst (λ (a : Entry). P u (length (list_of x u)) a) (sym (at_end (list_of x u) e no_entry)) new)
          ]))
    ]

    pub sound_entries : length (list_of x u) + 1 < 2 ^ 32 → IsSound z
    sound_entries few = record {
      normal = s.normal;
      range = subst (λ (i : ℕ). AreInRange i x.rules) (sym (length-set x.lists u (list_of x u ++ e ∷ []))) s.range;
      rules_labelled = s.rules_labelled;
      distinct = s.distinct;
      ranked = s.ranked;
      listed = each_entry (λ p j a. a.tree < length ts) (λ p j l. omega (arith, s.listed p j l, h.still.more)) h.below;
      labelled = each_tree (λ w. LabelsBelow (length x.labels) (only w)) s.labelled labelled;
      few = λ p. elim (same_or p u) [
        | inl f ↦ subst (λ (r : ℕ). length (list_of z r) < 2 ^ 32) (sym f) (omega (arith, few, long_here))
        | inr o ↦ omega (arith, s.few p, ap (λ (es : List Entry). length es) (list_there p o))
      ];
      small = each_tree (λ w. size w ≤ most_nodes) s.small small;
    }

    pub listed_now : (pairs now : List (ℕ × ℕ)) → AreListed x pairs → ((p : ℕ × ℕ) → Has pairs p → Has now p) → Has now (u, n) → ((p : ℕ × ℕ) → Has now p → Has pairs p ⊎ (p ≡ (u, n))) → AreListed z now
    listed_now pairs now l to new from = record {
      to = each_entry (λ p j a. Has now (p, a.tree)) (λ p j i. to (p, (entry_at x p j).tree) (l.to p j i)) new;
      from = λ p i k. elim (from (p, i) k) [
        | inl o ↦
            let a = l.from p i o in
            let w = entry_stays p a.0 a.1 in
            (a.0, w.0, ap (λ (b : Entry). b.tree) w.1 ∙ a.2)
        | inr f ↦
            let pu : p ≡ u = ap (λ (b : ℕ × ℕ). b.0) f in
            let ni : n ≡ i = sym (ap (λ (b : ℕ × ℕ). b.1) f) in (
              length (list_of x u),
              subst (λ (r : ℕ). length (list_of x u) < length (list_of z r)) (sym pu) (omega (arith, long_here)),
              subst (λ (r : ℕ). (entry_at z r (length (list_of x u))).tree ≡ i) (sym pu)
                  (ap (λ (es : List Entry). (get_or es (length (list_of x u)) no_entry).tree) list_here ∙ ap (λ (b : Entry). b.tree) (at_end (list_of x u) e no_entry) ∙ ni),
            )
      ];
    }
      where
        entry_stays : (p j : ℕ) → j < length (list_of x p) → (j < length (list_of z p)) × (entry_at z p j ≡ entry_at x p j)
        entry_stays p j i =
            let a = more_entries.lists p in
            (omega (arith, i, ap (λ (es : List Entry). length es) a.1, length-append (list_of x p) a.0), ap (λ (es : List Entry). get_or es j no_entry) a.1 ∙ get_or-front (list_of x p) a.0 j no_entry i)

    module _ (product : ℕ → ℕ → ℕ) (k : ℕ) (few : length (list_of x u) < k) (next : IsNextAt product x.labels x.rules u (entries_of x u) (t, cost)) where
      pub grown_here : IsGrown product x.rules k (entries_of x) (entries_of z) u (t, cost)
      grown_here = record {
        others = entries_there;
        here = entries_here;
        is_tree = next.member;
        new = next.new;
        few = omega (arith, few, length-map (list_of x u) (told x.trees));
      }

      pub carry_grown : (older taken held : List pass.Candidate) (v : ℕ) → IsKept product x.rules k (entries_of x) older taken held v → IsKept product x.rules k (entries_of z) older taken held v
      carry_grown older taken held v i = (keeps product).grows x.rules k (entries_of x) (entries_of z) u (t, cost) grown_here older taken held v i

      pub whole_grown : (v : ℕ) → IsWhole product x.rules (entries_of x) v → IsWhole product x.rules (entries_of z) v
      whole_grown v w y is o =
          let a = entries_kept x s ts ls x.candidates x.ranks more_entries v in
          w y is (λ i. o (subst (λ (zs : List Costed). Has zs y) (sym a.1) (has_left (entries_of x v) a.0 y i)))

      pub fronts_grown : ((q : ℕ) → IsFrontAt product x.labels x.rules q (entries_of x q)) → (q : ℕ) → IsFrontAt product x.labels x.rules q (entries_of z q)
      fronts_grown fronts q = elim (same_or q u) [
        | inl f ↦ subst (λ (r : ℕ). IsFrontAt product x.labels x.rules r (entries_of z r)) (sym f)
            (subst (λ (zs : List Costed). IsFrontAt product x.labels x.rules u zs) (sym entries_here) ((grow product).more x.labels x.rules u (entries_of x u) (t, cost) (fronts u) next))
        | inr o ↦ subst (λ (zs : List Costed). IsFrontAt product x.labels x.rules q zs) (sym (entries_there q o)) (fronts q)
      ]

      pub few_grown : ((q : ℕ) → length (list_of x q) ≤ k) → (q : ℕ) → length (list_of z q) ≤ k
      few_grown old q = elim (same_or q u) [
        | inl f ↦ subst (λ (r : ℕ). length (list_of z r) ≤ k) (sym f) (omega (arith, few, long_here))
        | inr o ↦ omega (arith, old q, ap (λ (es : List Entry). length es) (list_there q o))
      ]
