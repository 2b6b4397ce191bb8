-- A pass goes on, and fronts grow.
use Rattle.std.specs.Prelude.{◌≡◌, ℕ, ◌+◌, ◌<◌, ◌≤◌, ◌⊎◌, List, [], ◌∷◌, ◌++◌, length, refl}
use Rattle.std.proofs.Common.{suc, arith, ap, sym, ◌∙◌, subst, inl, inr, get_or, length-append}
use Rattle.tib_lex.specs.Lists.{Has}
use Rattle.tib_tree.specs.Trees.{Tree}
use Rattle.tib_grammar.specs.Run.{rule_at}
use Rattle.tib_grammar.specs.declared.Rule.{Rule}
use Rattle.tib_lex.proofs.Members.{has_left, has_right}
use Rattle.tib_ranked_trees.specs.First.{IsFront}
use Rattle.tib_ranked_trees.specs.Best.{Cheaper, IsTreeAt, FrontsGrow}
use Rattle.tib_ranked_trees.specs.Levels.{made, states_of}
use Rattle.tib_ranked_trees.specs.Pass.{Entries, no_entry, entry_at, picked, AreRanks, zeros, offer, HasTree, IsKnown, PassGoesOn}
use Rattle.tib_ranked_trees.proofs.Fronts.{front_more, front_first, front_all}
use Rattle.tib_ranked_trees.proofs.Ranks.{cheaper_strict}
use Rattle.tib_ranked_trees.proofs.Keeping.{same_or, raised, get_or-front}

pub grow : (product : ℕ → ℕ → ℕ) → FrontsGrow product
grow product = record {
  more = λ labels rules q xs c f n. front_more (cheaper_strict labels) (IsTreeAt product rules q) xs c f n;
  first = λ labels rules k xs f e. front_first (cheaper_strict labels) (IsTreeAt product rules 0) k xs f e;
  all = λ labels rules k xs f l w. front_all (cheaper_strict labels) (IsTreeAt product rules 0) k xs f l w;
}

-- whether ranks name entries
ranks_or : (entries : Entries) (qs js : List ℕ) → AreRanks entries qs js ⊎ (AreRanks entries qs js → ⊥)
ranks_or entries [] [] = inl tt
ranks_or entries [] (j ∷ js) = inr (λ h. h)
ranks_or entries (q ∷ qs) [] = inr (λ h. h)
ranks_or entries (q ∷ qs) (j ∷ js) = elim (below j (length (entries q))) [
  | inr n ↦ inr (λ h. n h.0)
  | inl l ↦ elim (ranks_or entries qs js) [ inl r ↦ inl (l, r) | inr n ↦ inr (λ h. n h.1) ]
]
  where
    below : (a b : ℕ) → (a < b) ⊎ (a < b → ⊥)
    below a b = grind arith

module _ (product : ℕ → ℕ → ℕ) (rules : List (Rule ℕ)) (before now : Entries) (q : ℕ) (e : Tree ℕ × ℕ) (others : (p : ℕ) → (p ≡ q → ⊥) → now p ≡ before p) (here : now q ≡ before q ++ e ∷ []) where
  grown : (p : ℕ) → ((more : List (Tree ℕ × ℕ)) × (now p ≡ before p ++ more) × (length more ≤ 1))
  grown p = elim (same_or p q) [
    | inl s ↦ (e ∷ [], ap now s ∙ here ∙ ap (λ r. before r ++ e ∷ []) (sym s), omega arith)
    | inr n ↦ ([], others p n ∙ sym (Rattle.tib_lex.proofs.Lists.append_nil (before p)), omega arith)
  ]

  longer : (p : ℕ) → length (before p) ≤ length (now p)
  longer p = let m = grown p in omega (arith, ap length m.1, length-append (before p) m.0)

  one_longer : (p : ℕ) → length (now p) ≤ length (before p) + 1
  one_longer p = let m = grown p in omega (arith, ap length m.1, length-append (before p) m.0, m.2)

  picked_same : (ps js : List ℕ) → AreRanks before ps js → picked now ps js ≡ picked before ps js
  picked_same [] js r = refl
  picked_same (p ∷ ps) [] r = absurd r
  picked_same (p ∷ ps) (j ∷ js) r =
      let m = grown p in
      let one : entry_at now p j ≡ entry_at before p j = ap (λ xs. get_or xs j no_entry) m.1 ∙ get_or-front (before p) m.0 j no_entry r.0 in
      cc (one, picked_same ps js r.1)

  offer_same : (n : ℕ) (js : List ℕ) → AreRanks before (states_of (rule_at rules n)) js → offer product rules now n js ≡ offer product rules before n js
  offer_same n js r = ap (made product (rule_at rules n)) (picked_same (states_of (rule_at rules n)) js r)

  cost_same : (n : ℕ) (js : List ℕ) → AreRanks before (states_of (rule_at rules n)) js → (offer product rules now n js).1 ≡ (offer product rules before n js).1
  cost_same n js r = ap (λ (x : Tree ℕ × ℕ). x.1) (offer_same n js r)

  tree_still : (p : ℕ) (t : Tree ℕ) → HasTree (before p) t → HasTree (now p) t
  tree_still p t h = let m = grown p in (h.0, subst (λ xs. Has xs (t, h.0)) (sym m.1) (has_left (before p) m.0 (t, h.0) h.1))

moved : (taken held rest : List (ℕ × List ℕ)) (x : ℕ × List ℕ) → ((y : ℕ × List ℕ) → Has held y → (y ≡ x) ⊎ Has rest y) → (n : ℕ) (js : List ℕ) → IsKnown taken held n js → IsKnown (x ∷ taken) rest n js
moved taken held rest x out n js (inl t) = inl (inr t)
moved taken held rest x out n js (inr h) = elim (out (n, js) h) [ inl e ↦ inl (inl (sym e)) | inr r ↦ inr r ]

tight : (i a b : ℕ) → i < b → b ≤ a + 1 → (i < a) ⊎ (i ≡ a)
tight i a b h k = grind arith

pub goes_on : (product : ℕ → ℕ → ℕ) → PassGoesOn product
goes_on product = record {
  places = λ labels rules k before now taken held rest x pass stands next others here out named range new_begun new_followed.
      let u : ℕ = (rule_at rules x.0).left in
      let e : Tree ℕ × ℕ = offer product rules before x.0 x.1 in
      let offers = offer_same product rules before now u e others here in
      record {
        fronts = λ q. elim (same_or q u) [
          | inl s ↦ subst (λ p. IsFront (IsTreeAt product rules p) (Cheaper labels) (now p)) (sym s)
              (subst (IsFront (IsTreeAt product rules u) (Cheaper labels)) (sym here) (front_more (cheaper_strict labels) (IsTreeAt product rules u) (before u) e (pass.fronts u) next))
          | inr n ↦ subst (IsFront (IsTreeAt product rules q) (Cheaper labels)) (sym (others q n)) (pass.fronts q)
        ];
        begun = λ n h r b. elim (ranks_or before (states_of (rule_at rules n)) (zeros (states_of (rule_at rules n)))) [
          | inl s ↦ moved taken held rest x out n (zeros (states_of (rule_at rules n))) (pass.begun n h s (let c = cost_same product rules before now u e others here n (zeros (states_of (rule_at rules n))) s in omega (arith, b, c)))
          | inr s ↦ new_begun n h s r b
        ];
        followed = λ n h front qs q j back states long y more b. elim y [
          | inl s ↦ new_followed n h front qs q j back states long (inl s) (inl s) more b
          | inr t ↦ elim (tight (suc j) (length (before q)) (length (now q)) more (one_longer product rules before now u e others here q)) [
            | inr s ↦ new_followed n h front qs q j back states long (inr t) (inr s) more b
            | inl l ↦
                let ranks : AreRanks before (states_of (rule_at rules n)) (front ++ suc j ∷ zeros back) =
                subst (λ ps. AreRanks before ps (front ++ suc j ∷ zeros back)) (sym states)
                (raised before front (zeros back) qs back q (suc j) j long (subst (λ ps. AreRanks before ps (front ++ j ∷ zeros back)) states (named n (front ++ j ∷ zeros back) t).1) l)
                in
                moved taken held rest x out n (front ++ suc j ∷ zeros back)
                (pass.followed n h front qs q j back states long t l (let c = cost_same product rules before now u e others here n (front ++ suc j ∷ zeros back) ranks in omega (arith, b, c)))
          ]
        ];
        placed = λ n js y. elim y [
          | inl s ↦
              let rule : x.0 ≡ n = ap (λ (z : ℕ × List ℕ). z.0) s in
              let r = pass.in_range x.0 x.1 stands in
              let same : offer product rules now x.0 x.1 ≡ e = offers x.0 x.1 r.1 in
              let listed : HasTree (now u) (offer product rules now x.0 x.1).0 =
              subst (λ (z : Tree ℕ × ℕ). HasTree (now u) z.0) (sym same) (e.1, subst (λ xs. Has xs (e.0, e.1)) (sym here) (has_right (before u) (e ∷ []) (e.0, e.1) (inl refl)))
              in
              inl (subst (λ (z : ℕ × List ℕ). HasTree (now (rule_at rules z.0).left) (offer product rules now z.0 z.1).0) s listed)
          | inr t ↦ elim (pass.placed n js t) [
            | inl d ↦ inl (subst (λ (z : Tree ℕ × ℕ). HasTree (now (rule_at rules n).left) z.0) (sym (offers n js (named n js t).1))
                (tree_still product rules before now u e others here (rule_at rules n).left (offer product rules before n js).0 d))
            | inr f ↦ let m = longer product rules before now u e others here (rule_at rules n).left in inr (omega (arith, f, m))
          ]
        ];
        in_range = range;
      };
  drops = λ labels rules k entries taken held rest x pass why out range new_followed. record {
    fronts = pass.fronts;
    begun = λ n h r b. moved taken held rest x out n (zeros (states_of (rule_at rules n))) (pass.begun n h r b);
    followed = λ n h front qs q j back states long y more b. elim y [
      | inr t ↦ moved taken held rest x out n (front ++ suc j ∷ zeros back) (pass.followed n h front qs q j back states long t more b)
      | inl s ↦
          let rule : x.0 ≡ n = ap (λ (z : ℕ × List ℕ). z.0) s in
          subst (λ m. IsKnown (x ∷ taken) rest m (front ++ suc j ∷ zeros back)) rule
          (new_followed front qs q j back (ap (λ m. states_of (rule_at rules m)) rule ∙ states) long (ap (λ (z : ℕ × List ℕ). z.1) s) more
          (let c : (offer product rules entries x.0 (front ++ suc j ∷ zeros back)).1 ≡ (offer product rules entries n (front ++ suc j ∷ zeros back)).1 = ap (λ m. (offer product rules entries m (front ++ suc j ∷ zeros back)).1) rule in omega (arith, b, c)))
    ];
    placed = λ n js y. elim y [
      | inr t ↦ pass.placed n js t
      | inl s ↦ subst (λ (z : ℕ × List ℕ). HasTree (entries (rule_at rules z.0).left) (offer product rules entries z.0 z.1).0 ⊎ (k ≤ length (entries (rule_at rules z.0).left))) s why
    ];
    in_range = range;
  };
}
