-- The least candidate of a state whose children were asked is its next tree.
use Rattle.std.specs.Prelude.{◌≡◌, ℕ, ◌<◌, ◌≤◌, ◌⊎◌, Bool, List, [], ◌∷◌, ◌++◌, length, refl}
use Rattle.std.proofs.Common.{zero, suc, arith, ap, sym, ◌∙◌, subst, inl, inr, le_refl, length-append}
use Rattle.std.proofs.lemmas.List.{append_assoc}
use Rattle.tib_lex.specs.Lists.{Has, Along}
use Rattle.tib_tree.specs.Trees.{Tree}
use Rattle.tib_cost.specs.Semiring.{most, ProductLaws}
use Rattle.tib_grammar.specs.Forms.{AreNormal}
use Rattle.tib_grammar.specs.Run.{rule_at}
use Rattle.tib_grammar.specs.declared.Rule.{Rule}
use Rattle.tib_lex.proofs.Members.{each_has, at_has, has_at}
use Rattle.tib_ranked_trees.specs.First.{NoLater, IsNext}
use Rattle.tib_ranked_trees.specs.Best.{Cheaper, IsTreeAt, NotAfter}
use Rattle.tib_ranked_trees.specs.Levels.{made, states_of}
use Rattle.tib_ranked_trees.specs.Pass.{Entries, no_entry, entry_at, picked, AreRanks, zeros, offer, HasTree, IsKnown}
use Rattle.tib_ranked_trees.specs.Lazy.{IsWhole, IsReady, AskingListsBest}
use Rattle.tib_ranked_trees.proofs.Fronts.{no_later_trans}
use Rattle.tib_ranked_trees.proofs.Ranks.{cheaper_strict}
use Rattle.tib_ranked_trees.proofs.Opening.{opened, closed, orderly, AreOrderly}
use Rattle.tib_ranked_trees.proofs.FrontsGrowing.{grows_along}
use Rattle.tib_ranked_trees.proofs.Telling.{has_or, some_new, no_fewer}
use Rattle.tib_ranked_trees.proofs.Settling.{listed_at, AreClosed, settle, apart_at}
use Rattle.tib_ranked_trees.proofs.Walking.{along_picked, no_later_cost, lower_offer, AreLower, zeros_lower, climb, plain_walk}

module _ {levelled weighted : Bool} {product : ℕ → ℕ → ℕ} (laws : ProductLaws levelled weighted product) (labels : List (List ℕ)) (rules : List (Rule ℕ)) (normal : AreNormal rules)
    (orderly : AreOrderly laws rules normal) (k : ℕ) (entries : Entries) (taken held : List (ℕ × List ℕ)) (u : ℕ) (ready : IsReady product labels rules k entries taken held u) where
  abbrev At : ℕ → Tree ℕ × ℕ → Type 0
  At q a = IsTreeAt product rules q a

  -- the rank at which a state lists a tree, or its last rank where it lacks the tree
  abbrev AreTargets : List ℕ → List ℕ → List (Tree ℕ × ℕ) → Type 0
  AreTargets [] [] [] = Unit {0}
  AreTargets [] [] (z ∷ zs) = ⊥
  AreTargets [] (j ∷ js) zs = ⊥
  AreTargets (p ∷ ps) [] zs = ⊥
  AreTargets (p ∷ ps) (j ∷ js) [] = ⊥
  AreTargets (p ∷ ps) (j ∷ js) (z ∷ zs) =
      (j < length (entries p)) × At p z × (Has (entries p) z ⊎ ((Has (entries p) z → ⊥) × (suc j ≡ length (entries p)))) × AreTargets ps js zs

  record HasTargets (ps : List ℕ) (zs : List (Tree ℕ × ℕ)) : Type 0 where
    ranks : List ℕ
    are_targets : AreTargets ps ranks zs
    are_ranks : AreRanks entries ps ranks
    low : Along (NotAfter labels) (picked entries ps ranks) zs

  last_of : (n : ℕ) → 0 < n → (m : ℕ) × (suc m ≡ n)
  last_of zero h = absurd (omega arith)
  last_of (suc m) h = (m, refl)

  targets : (ps : List ℕ) (zs : List (Tree ℕ × ℕ)) → Along (IsTreeAt product rules) ps zs → AreRanks entries ps (zeros ps) → HasTargets ps zs
  targets [] [] a r = record { ranks = []; are_targets = tt; are_ranks = tt; low = tt }
  targets [] (z ∷ zs) a r = absurd a
  targets (p ∷ ps) [] a r = absurd a
  targets (p ∷ ps) (z ∷ zs) a r =
      let rest = targets ps zs a.1 r.1 in
      elim (has_or (entries p) z) [
        | inl h ↦
            let at = at_has (entries p) z no_entry h in
            record { ranks = at.0 ∷ rest.ranks; are_targets = (at.1, a.0, inl h, rest.are_targets); are_ranks = (at.1, rest.are_ranks); low = (inl at.2, rest.low) }
        | inr n ↦
            let l = last_of (length (entries p)) r.0 in
            let b : l.0 < length (entries p) = omega (arith, l.1) in
            let before : Cheaper labels (entry_at entries p l.0) z = each_has (λ x. Cheaper labels x z) (entries p) (entry_at entries p l.0) ((ready.fronts p).others z a.0 n) (has_at (entries p) l.0 no_entry b) in
            record { ranks = l.0 ∷ rest.ranks; are_targets = (b, a.0, inr (n, l.1), rest.are_targets); are_ranks = (b, rest.are_ranks); low = (inr before, rest.low) }
      ]

  module _ (n : ℕ) (below : n < length rules) (left : (rule_at rules n).left ≡ u) where
    -- a candidate with lower ranks waits, or each child is listed or its list is full
    walk :
        (front qs ps js : List ℕ) (zs : List (Tree ℕ × ℕ)) → states_of (rule_at rules n) ≡ qs ++ ps → length front ≡ length qs → AreTargets ps js zs → AreRanks entries ps js →
        ((is : List ℕ) → AreLower is js → (offer product rules entries n (front ++ is)).1 ≤ most) → IsKnown taken held n (front ++ zeros ps) →
        ((is : List ℕ) × AreLower is js × Has held (n, front ++ is)) ⊎ AreClosed product labels rules k entries ready.fronts ps zs
    walk front qs [] [] [] e l t r fits known = inr tt
    walk front qs [] [] (z ∷ zs) e l t r fits known = absurd t
    walk front qs [] (j ∷ js) zs e l t r fits known = absurd t
    walk front qs (p ∷ ps) [] zs e l t r fits known = absurd t
    walk front qs (p ∷ ps) (j ∷ js) [] e l t r fits known = absurd t
    walk front qs (p ∷ ps) (j ∷ js) (z ∷ zs) e l t r fits known =
        elim (climb laws labels rules orderly entries ready.fronts taken held n (ready.kept.followed n below left) front qs p ps e l j r.0 (λ i b. fits (i ∷ zeros ps) (b, zeros_lower entries ps js r.1)) known) [
          | inl w ↦ inl (w.0 ∷ zeros ps, (w.1, zeros_lower entries ps js r.1), w.2)
          | inr taken_here ↦
              let here : Has (entries p) z ⊎ ((Has (entries p) z → ⊥) × (k ≤ length (entries p))) = elim t.2 [
                | inl h ↦ inl h
                | inr m ↦ elim (ready.kept.asked n below left front qs p j ps e l taken_here) [
                  | inl more ↦ absurd (omega (arith, more, m.1))
                  | inr end ↦ elim end [ inl whole ↦ absurd (whole z t.1 m.0) | inr full ↦ inr (m.0, full) ]
                ]
              ] in
              elim (walk (front ++ j ∷ []) (qs ++ p ∷ []) ps js zs (e ∙ sym (append_assoc qs (p ∷ []) ps)) (omega (arith, l, length-append front (j ∷ []), length-append qs (p ∷ []))) t.3 r.1
              (λ is low. subst (λ (xs : List ℕ). (offer product rules entries n xs).1 ≤ most) (sym (append_assoc front (j ∷ []) is)) (fits (j ∷ is) (le_refl j, low)))
              (inl (subst (λ xs. Has taken (n, xs)) (sym (append_assoc front (j ∷ []) (zeros ps))) taken_here))) [
                | inl w ↦ inl (j ∷ w.0, (le_refl j, w.1), subst (λ xs. Has held (n, xs)) (append_assoc front (j ∷ []) w.0) w.2)
                | inr v ↦ inr (here, v)
              ]
        ]

  -- a candidate that waits comes no later
  record IsCovered (y : Tree ℕ × ℕ) : Type 0 where
    rule : ℕ
    ranks : List ℕ
    stands : Has held (rule, ranks)
    low : NotAfter labels (offer product rules entries rule ranks) y

  -- the candidates reach ranks that name a tree no later than y
  reached :
      (y : Tree ℕ × ℕ) → y.1 ≤ most → (n : ℕ) → n < length rules → (rule_at rules n).left ≡ u → (js : List ℕ) →
      AreRanks entries (states_of (rule_at rules n)) js → NotAfter labels (offer product rules entries n js) y → (HasTree (entries u) (offer product rules entries n js).0 → ⊥) → IsCovered y
  reached y b n h left js r low new =
      elim (plain_walk laws labels rules orderly entries ready.fronts taken held n (ready.kept.followed n h left) [] [] (states_of (rule_at rules n)) js refl refl r fits
      (ready.kept.begun n h left (fits (zeros (states_of (rule_at rules n))) (zeros_lower entries (states_of (rule_at rules n)) js r)))) [
        | inl w ↦ record {
          rule = n;
          ranks = w.0;
          stands = w.2;
          low = no_later_trans (cheaper_strict labels) (offer product rules entries n w.0) (offer product rules entries n js) y (lower_offer laws labels rules orderly entries ready.fronts n w.0 js w.1 r) low;
        }
        | inr t ↦ absurd (new (ready.kept.placed n js t))
      ]
    where
      fits : (is : List ℕ) → AreLower is js → (offer product rules entries n is).1 ≤ most
      fits is l = omega (
        arith,
        b,
        no_later_cost labels (offer product rules entries n is) (offer product rules entries n js) (lower_offer laws labels rules orderly entries ready.fronts n is js l r),
        no_later_cost labels (offer product rules entries n js) y low,
      )

  -- every tree of u that its list lacks is covered
  covered : length (entries u) < k → (y : Tree ℕ × ℕ) → At u y → (Has (entries u) y → ⊥) → IsCovered y
  covered few y a new =
      let o = opened laws rules normal u y a in
      let r : Rule ℕ = rule_at rules o.rule in
      let started = ready.kept.started o.rule o.below o.left in
      let t = targets (states_of r) o.kids o.along started in
      let low : NotAfter labels (offer product rules entries o.rule t.ranks) y =
      subst (NotAfter labels (offer product rules entries o.rule t.ranks)) o.is_made
      (grows_along labels laws (IsTreeAt product rules) orderly r (states_of r) [] (picked entries (states_of r) t.ranks) o.kids
      (along_picked product labels rules entries ready.fronts (states_of r) t.ranks t.are_ranks) o.along t.low)
      in
      let fits : (is : List ℕ) → AreLower is t.ranks → (offer product rules entries o.rule is).1 ≤ most =
      λ is l. omega (
        arith,
        no_later_cost labels (offer product rules entries o.rule is) (offer product rules entries o.rule t.ranks) (lower_offer laws labels rules orderly entries ready.fronts o.rule is t.ranks l t.are_ranks),
        no_later_cost labels (offer product rules entries o.rule t.ranks) y low,
        a.attained.1,
      )
      in
      elim (walk o.rule o.below o.left [] [] (states_of r) t.ranks o.kids refl refl t.are_targets t.are_ranks fits
      (ready.kept.begun o.rule o.below o.left (fits (zeros (states_of r)) (zeros_lower entries (states_of r) t.ranks t.are_ranks)))) [
        | inl w ↦ record {
          rule = o.rule;
          ranks = w.0;
          stands = w.2;
          low = no_later_trans (cheaper_strict labels) (offer product rules entries o.rule w.0) (offer product rules entries o.rule t.ranks) y
              (lower_offer laws labels rules orderly entries ready.fronts o.rule w.0 t.ranks w.1 t.are_ranks) low;
        }
        | inr all ↦
            let st = settle product labels rules k entries ready.fronts (omega arith) (states_of r) o.kids o.along all in
            elim st.which [
              | inl e ↦
                  let is_y : offer product rules entries o.rule st.ranks ≡ y = ap (made product r) e ∙ o.is_made in
                  reached y a.attained.1 o.rule o.below o.left st.ranks st.are_ranks (inl is_y)
                  (λ h. new (listed_at product labels rules k entries ready.fronts u y a (subst (λ (x : Tree ℕ × ℕ). HasTree (entries u) x.0) is_y h)))
              | inr f ↦ elim (some_new (λ x. (made product r (f.before ++ x ∷ f.after)).0) (entries u) (entries f.state)) [
                | inr every ↦
                    let many : length (entries f.state) ≤ length (entries u) =
                    no_fewer (λ x. (made product r (f.before ++ x ∷ f.after)).0) (entries f.state) (entries u)
                    (apart_at product labels rules k entries ready.fronts r f.state f.before f.after (entries f.state) (ready.fronts f.state).ascends (ready.fronts f.state).members)
                    every
                    in
                    absurd (omega (arith, many, f.full, few))
                | inl x ↦
                    let at = at_has (entries f.state) x.0 no_entry x.1 in
                    let ranks : List ℕ = f.front ++ at.0 ∷ f.back in
                    let is_row : offer product rules entries o.rule ranks ≡ made product r (f.before ++ x.0 ∷ f.after) =
                    ap (made product r) (f.picks at.0 ∙ ap (λ z. f.before ++ z ∷ f.after) at.2)
                    in
                    let down : NotAfter labels (offer product rules entries o.rule ranks) y =
                    subst (NotAfter labels (offer product rules entries o.rule ranks)) o.is_made
                    (grows_along labels laws (IsTreeAt product rules) orderly r (states_of r) [] (picked entries (states_of r) ranks) o.kids
                    (along_picked product labels rules entries ready.fronts (states_of r) ranks (f.ranks at.0 at.1)) o.along (f.low at.0 at.1))
                    in
                    reached y a.attained.1 o.rule o.below o.left ranks (f.ranks at.0 at.1) down
                    (λ h. x.2 (subst (λ (z : Tree ℕ × ℕ). HasTree (entries u) z.0) is_row h))
              ]
            ]
      ]

  pub whole : length (entries u) < k → ((n : ℕ) (js : List ℕ) → Has held (n, js) → ⊥) → IsWhole product rules entries u
  whole few none y a new = let c = covered few y a new in none c.rule c.ranks c.stands

  pub asked_is_next :
      length (entries u) < k → (n : ℕ) (js : List ℕ) → Has held (n, js) →
      ((m : ℕ) (is : List ℕ) → Has held (m, is) → NoLater (Cheaper labels) (offer product rules entries n js) (offer product rules entries m is)) →
      (HasTree (entries u) (offer product rules entries n js).0 → ⊥) →
      IsNext (IsTreeAt product rules u) (Cheaper labels) (entries u) (offer product rules entries n js)
  asked_is_next few n js stands least new =
      let x : Tree ℕ × ℕ = offer product rules entries n js in
      let range = ready.kept.in_range n js stands in
      let c = closed laws rules normal n range.0 (picked entries (states_of (rule_at rules n)) js) (along_picked product labels rules entries ready.fronts (states_of (rule_at rules n)) js range.2) range.3 in
      let is_tree : At u (x.0, c.cost) = subst (λ q. At q (x.0, c.cost)) range.1 c.is_tree in
      let first : (y : Tree ℕ × ℕ) → At u y → (Has (entries u) y → ⊥) → NotAfter labels x y =
      λ y a out. let v = covered few y a out in no_later_trans (cheaper_strict labels) x (offer product rules entries v.rule v.ranks) y (least v.rule v.ranks v.stands) v.low
      in
      let up : x.1 ≤ c.cost = no_later_cost labels x (x.0, c.cost) (first (x.0, c.cost) is_tree (λ h. new (c.cost, h))) in
      let e : c.cost ≡ x.1 = omega (arith, up, c.low) in
      record {
        member = subst (λ d. At u (x.0, d)) e is_tree;
        new = λ h. new (x.1, h);
        least = first;
      }

pub asking : {levelled weighted : Bool} {product : ℕ → ℕ → ℕ} → ProductLaws levelled weighted product → AskingListsBest product
asking laws = record {
  next = λ labels rules k entries taken held u normal o ready few n js stands least new.
      asked_is_next laws labels rules normal (orderly laws rules normal o) k entries taken held u ready few n js stands least new;
  whole = λ labels rules k entries taken u normal o ready few.
      whole laws labels rules normal (orderly laws rules normal o) k entries taken [] u ready few (λ n js h. h);
}
