-- What a state keeps while lists grow.
use Rattle.std.specs.Prelude.{◌≡◌, ℕ, ◌<◌, ◌≤◌, ◌⊎◌, List, [], ◌∷◌, ◌++◌, length, refl}
use Rattle.std.proofs.Common.{zero, suc, arith, ap, sym, ◌∙◌, subst, inl, inr, get_or, length-append}
use Rattle.tib_lex.specs.Lists.{Has}
use Rattle.tib_tree.specs.Trees.{Tree}
use Rattle.tib_cost.specs.Semiring.{most}
use Rattle.tib_grammar.specs.Run.{rule_at}
use Rattle.tib_grammar.specs.declared.Rule.{Rule}
use Rattle.tib_lex.proofs.Members.{has_left}
use Rattle.tib_ranked_trees.specs.Best.{IsTreeAt}
use Rattle.tib_ranked_trees.specs.Levels.{made, states_of}
use Rattle.tib_ranked_trees.specs.Pass.{Entries, no_entry, entry_at, picked, AreRanks, zeros, offer, HasTree, IsKnown}
use Rattle.tib_ranked_trees.specs.Lazy.{IsWhole, IsKept, IsGrown, IsAsked, AskingKeeps}

pub get_or-front : {A : Type 0} (xs ys : List A) (j : ℕ) (d : A) → j < length xs → get_or (xs ++ ys) j d ≡ get_or xs j d
get_or-front [] ys j d h = absurd (omega arith)
get_or-front (x ∷ xs) ys zero d h = refl
get_or-front (x ∷ xs) ys (suc j) d h = get_or-front xs ys j d (omega arith)

pub same_or : (p q : ℕ) → (p ≡ q) ⊎ (p ≡ q → ⊥)
same_or p q = grind arith

-- another rank in one place
pub raised :
    (entries : Entries) (front back : List ℕ) (qs ps : List ℕ) (q i j : ℕ) → length front ≡ length qs → AreRanks entries (qs ++ q ∷ ps) (front ++ j ∷ back) → i < length (entries q) →
    AreRanks entries (qs ++ q ∷ ps) (front ++ i ∷ back)
raised entries [] back [] ps q i j l r h = (h, r.1)
raised entries [] back (p ∷ qs) ps q i j l r h = absurd (omega arith)
raised entries (f ∷ front) back [] ps q i j l r h = absurd (omega arith)
raised entries (f ∷ front) back (p ∷ qs) ps q i j l r h = (r.0, raised entries front back qs ps q i j (omega arith) r.1 h)

known_more : (taken held more : List (ℕ × List ℕ)) (n : ℕ) (js : List ℕ) → ((x : ℕ × List ℕ) → Has held x → Has more x) → IsKnown taken held n js → IsKnown taken more n js
known_more taken held more n js f (inl t) = inl t
known_more taken held more n js f (inr h) = inr (f (n, js) h)

module _ (product : ℕ → ℕ → ℕ) (rules : List (Rule ℕ)) (k : ℕ) (before now : Entries) (q : ℕ) (e : Tree ℕ × ℕ) (grown : IsGrown product rules k before now q e) where
  kept_front : (p : ℕ) → ((more : List (Tree ℕ × ℕ)) × (now p ≡ before p ++ more))
  kept_front p = elim (same_or p q) [
    | inl s ↦ (e ∷ [], ap now s ∙ grown.here ∙ ap (λ r. before r ++ e ∷ []) (sym s))
    | inr n ↦ ([], grown.others p n ∙ sym (Rattle.tib_lex.proofs.Lists.append_nil (before p)))
  ]

  longer : (p : ℕ) → length (before p) ≤ length (now p)
  longer p = let m = kept_front p in omega (arith, ap length m.1, length-append (before p) m.0)

  entry_kept : (p j : ℕ) → j < length (before p) → entry_at now p j ≡ entry_at before p j
  entry_kept p j h = let m = kept_front p in ap (λ xs. get_or xs j no_entry) m.1 ∙ get_or-front (before p) m.0 j no_entry h

  picked_kept : (ps js : List ℕ) → AreRanks before ps js → picked now ps js ≡ picked before ps js
  picked_kept [] js r = refl
  picked_kept (p ∷ ps) [] r = absurd r
  picked_kept (p ∷ ps) (j ∷ js) r = cc (entry_kept p j r.0, picked_kept ps js r.1)

  ranks_kept : (ps js : List ℕ) → AreRanks before ps js → AreRanks now ps js
  ranks_kept [] [] r = tt
  ranks_kept [] (j ∷ js) r = absurd r
  ranks_kept (p ∷ ps) [] r = absurd r
  ranks_kept (p ∷ ps) (j ∷ js) r = (let l = longer p in omega (arith, r.0, l), ranks_kept ps js r.1)

  offer_kept : (n : ℕ) (js : List ℕ) → AreRanks before (states_of (rule_at rules n)) js → offer product rules now n js ≡ offer product rules before n js
  offer_kept n js r = ap (made product (rule_at rules n)) (picked_kept (states_of (rule_at rules n)) js r)

  cost_kept : (n : ℕ) (js : List ℕ) → AreRanks before (states_of (rule_at rules n)) js → (offer product rules now n js).1 ≡ (offer product rules before n js).1
  cost_kept n js r = ap (λ (x : Tree ℕ × ℕ). x.1) (offer_kept n js r)

  tree_kept : (p : ℕ) (t : Tree ℕ) → HasTree (before p) t → HasTree (now p) t
  tree_kept p t h = let m = kept_front p in (h.0, subst (λ xs. Has xs (t, h.0)) (sym m.1) (has_left (before p) m.0 (t, h.0) h.1))

  not_there : (p : ℕ) → IsWhole product rules before p → p ≡ q → ⊥
  not_there p whole s = whole e (subst (λ r. IsTreeAt product rules r e) (sym s) grown.is_tree) (λ h. grown.new (subst (λ r. Has (before r) e) s h))

  still_whole : (p : ℕ) → IsWhole product rules before p → IsWhole product rules now p
  still_whole p whole = elim (same_or p q) [
    | inl s ↦ absurd (not_there p whole s)
    | inr n ↦ λ y a out. whole y a (λ h. out (subst (λ xs. Has xs y) (sym (grown.others p n)) h))
  ]

  module _ (asked_for taken held : List (ℕ × List ℕ)) (u : ℕ) (kept : IsKept product rules k before asked_for taken held u) where
    -- an entry after a rank that was asked for was there before
    was_there : (p j : ℕ) → (suc j < length (before p)) ⊎ (IsWhole product rules before p ⊎ (k ≤ length (before p))) → suc j < length (now p) → suc j < length (before p)
    was_there p j (inl h) l = h
    was_there p j (inr end) l = elim (same_or p q) [
      | inr n ↦ let same : length (now p) ≡ length (before p) = ap length (grown.others p n) in omega arith
      | inl s ↦ elim end [
        | inl whole ↦ absurd (not_there p whole s)
        | inr full ↦ let same : length (before p) ≡ length (before q) = ap (λ r. length (before r)) s in let few = grown.few in absurd (omega arith)
      ]
    ]

    pub still_kept : IsKept product rules k now asked_for taken held u
    still_kept = record {
      started = λ n h l. ranks_kept (states_of (rule_at rules n)) (zeros (states_of (rule_at rules n))) (kept.started n h l);
      begun = λ n h l b. kept.begun n h l (let c = cost_kept n (zeros (states_of (rule_at rules n))) (kept.started n h l) in omega (arith, b, c));
      followed = λ n h l front qs p j back states long x more b.
          let there : suc j < length (before p) = was_there p j (kept.asked n h l front qs p j back states long x) more in
          let ranks : AreRanks before (states_of (rule_at rules n)) (front ++ suc j ∷ zeros back) =
          subst (λ ps. AreRanks before ps (front ++ suc j ∷ zeros back)) (sym states)
          (raised before front (zeros back) qs back p (suc j) j long (subst (λ ps. AreRanks before ps (front ++ j ∷ zeros back)) states (kept.named n (front ++ j ∷ zeros back) (kept.among (n, front ++ j ∷ zeros back) x)).1) there)
          in
          kept.followed n h l front qs p j back states long x there (let c = cost_kept n (front ++ suc j ∷ zeros back) ranks in omega (arith, b, c));
      asked = λ n h l front qs p j back states long x. elim (kept.asked n h l front qs p j back states long x) [
        | inl more ↦ let m = longer p in inl (omega (arith, more, m))
        | inr end ↦ elim end [
          | inl whole ↦ inr (inl (still_whole p whole))
          | inr full ↦ let m = longer p in inr (inr (omega (arith, full, m)))
        ]
      ];
      among = kept.among;
      named = λ n js x. ((kept.named n js x).0, ranks_kept (states_of (rule_at rules n)) js (kept.named n js x).1);
      placed = λ n js x.
          subst (λ (y : Tree ℕ × ℕ). HasTree (now u) y.0) (sym (offer_kept n js (kept.named n js x).1)) (tree_kept u (offer product rules before n js).0 (kept.placed n js x));
      in_range = λ n js x.
          let r = kept.in_range n js x in
          let c = cost_kept n js r.2 in
          (r.0, r.1, ranks_kept (states_of (rule_at rules n)) js r.2, omega (arith, c, r.3));
    }

module _ (product : ℕ → ℕ → ℕ) (rules : List (Rule ℕ)) (k : ℕ) (entries : Entries) where
  pub asks :
      (older : List (ℕ × List ℕ)) (last : ℕ × List ℕ) (held more : List (ℕ × List ℕ)) (u : ℕ) →
      IsKept product rules k entries older (last ∷ older) held u → ((x : ℕ × List ℕ) → Has held x → Has more x) →
      ((n : ℕ) (js : List ℕ) → Has more (n, js) →
      (n < length rules) × ((rule_at rules n).left ≡ u) × AreRanks entries (states_of (rule_at rules n)) js × ((offer product rules entries n js).1 ≤ most)) →
      IsAsked product rules k entries (last ∷ older) more last → IsKept product rules k entries (last ∷ older) (last ∷ older) more u
  asks older last held more u kept to range new = record {
    started = kept.started;
    begun = λ n h l b. known_more (last ∷ older) held more n (zeros (states_of (rule_at rules n))) to (kept.begun n h l b);
    followed = λ n h l front qs q j back states long x there b. elim x [
      | inr o ↦ known_more (last ∷ older) held more n (front ++ suc j ∷ zeros back) to (kept.followed n h l front qs q j back states long o there b)
      | inl e ↦
          let rule : last.0 ≡ n = ap (λ (y : ℕ × List ℕ). y.0) e in
          let ranks : last.1 ≡ front ++ j ∷ zeros back = ap (λ (y : ℕ × List ℕ). y.1) e in
          subst (λ m. IsKnown (last ∷ older) more m (front ++ suc j ∷ zeros back)) rule
          (new.followed front qs q j back (ap (λ m. states_of (rule_at rules m)) rule ∙ states) long ranks there
          (let c : (offer product rules entries last.0 (front ++ suc j ∷ zeros back)).1 ≡ (offer product rules entries n (front ++ suc j ∷ zeros back)).1 = ap (λ m. (offer product rules entries m (front ++ suc j ∷ zeros back)).1) rule in omega (arith, b, c)))
    ];
    asked = λ n h l front qs q j back states long x. elim x [
      | inr o ↦ kept.asked n h l front qs q j back states long o
      | inl e ↦
          let rule : last.0 ≡ n = ap (λ (y : ℕ × List ℕ). y.0) e in
          new.asked front qs q j back (ap (λ m. states_of (rule_at rules m)) rule ∙ states) long (ap (λ (y : ℕ × List ℕ). y.1) e)
    ];
    among = λ x h. h;
    named = kept.named;
    placed = kept.placed;
    in_range = range;
  }

  pub takes :
      (taken held rest : List (ℕ × List ℕ)) (x : ℕ × List ℕ) (u : ℕ) → IsKept product rules k entries taken taken held u →
      Has held x → ((y : ℕ × List ℕ) → Has held y → (y ≡ x) ⊎ Has rest y) → ((y : ℕ × List ℕ) → Has rest y → Has held y) → HasTree (entries u) (offer product rules entries x.0 x.1).0 →
      IsKept product rules k entries taken (x ∷ taken) rest u
  takes taken held rest x u kept stands out back listed = record {
    started = kept.started;
    begun = λ n h l b. moved n (zeros (states_of (rule_at rules n))) (kept.begun n h l b);
    followed = λ n h l front qs q j ps states long y there b. moved n (front ++ suc j ∷ zeros ps) (kept.followed n h l front qs q j ps states long y there b);
    asked = kept.asked;
    among = λ y h. inr h;
    named = λ n js h. elim h [
      | inl e ↦ let r = kept.in_range n js (subst (Has held) e stands) in (r.1, r.2)
      | inr t ↦ kept.named n js t
    ];
    placed = λ n js h. elim h [
      | inl e ↦ subst (λ (y : ℕ × List ℕ). HasTree (entries u) (offer product rules entries y.0 y.1).0) e listed
      | inr t ↦ kept.placed n js t
    ];
    in_range = λ n js h. kept.in_range n js (back (n, js) h);
  }
    where
      moved : (n : ℕ) (js : List ℕ) → IsKnown taken held n js → IsKnown (x ∷ taken) rest n js
      moved n js (inl t) = inl (inr t)
      moved n js (inr h) = elim (out (n, js) h) [ inl e ↦ inl (inl (sym e)) | inr r ↦ inr r ]

pub keeps : (product : ℕ → ℕ → ℕ) → AskingKeeps product
keeps product = record {
  begins = λ rules k entries held u first started below left listed others range. record {
    started = started;
    begun = λ n h l b. elim (others n h l b) [
      | inl e ↦ inl (inl (ap (λ m. (m, zeros (states_of (rule_at rules m)))) e))
      | inr w ↦ inr w
    ];
    followed = λ n h l front qs q j back states long x. absurd x;
    asked = λ n h l front qs q j back states long x. absurd x;
    among = λ x h. absurd h;
    named = λ n js x. elim x [
      | inl e ↦ (
        subst (λ (y : ℕ × List ℕ). (rule_at rules y.0).left ≡ u) e left,
        subst (λ (y : ℕ × List ℕ). AreRanks entries (states_of (rule_at rules y.0)) y.1) e (started first below left),
      )
      | inr b ↦ absurd b
    ];
    placed = λ n js x. elim x [
      | inl e ↦ subst (λ (y : ℕ × List ℕ). HasTree (entries u) (offer product rules entries y.0 y.1).0) e listed
      | inr b ↦ absurd b
    ];
    in_range = range;
  };
  grows = λ rules k before now q e grown asked_for taken held u kept. still_kept product rules k before now q e grown asked_for taken held u kept;
  asks = λ rules k entries older last held more u kept to range new. asks product rules k entries older last held more u kept to range new;
  takes = λ rules k entries taken held rest x u kept stands out back listed. takes product rules k entries taken held rest x u kept stands out back listed;
}
