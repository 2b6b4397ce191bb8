-- In a pass over all states the least candidate is the next tree of its state.
use Rattle.std.specs.Prelude.{◌≡◌, ℕ, ◌<◌, ◌≤◌, ◌⊎◌, Bool, List, [], ◌∷◌, ◌++◌, length, refl}
use Rattle.std.proofs.Common.{zero, suc, arith, ap, ◌∙◌, subst, inl, inr, le_refl}
use Rattle.tib_lex.specs.Lists.{Has, Along}
use Rattle.tib_tree.specs.Trees.{Tree, size, sizes}
use Rattle.tib_cost.specs.Semiring.{most, ProductLaws}
use Rattle.tib_grammar.specs.Forms.{AreNormal}
use Rattle.tib_grammar.specs.Run.{rule_at}
use Rattle.tib_grammar.specs.declared.Rule.{Rule}
use Rattle.tib_lex.proofs.Members.{at_has}
use Rattle.tib_ranked_trees.specs.First.{IsNext}
use Rattle.tib_ranked_trees.specs.Best.{Cheaper, IsTreeAt, NotAfter}
use Rattle.tib_ranked_trees.specs.Levels.{trees_of, made, states_of}
use Rattle.tib_ranked_trees.specs.Pass.{Entries, no_entry, picked, AreRanks, offer, HasTree, IsPass, IsLeastHeld, PassListsBest}
use Rattle.tib_ranked_trees.proofs.Fronts.{no_later_trans}
use Rattle.tib_ranked_trees.proofs.Ranks.{cheaper_strict}
use Rattle.tib_ranked_trees.proofs.Opening.{opened, closed, orderly, AreOrderly}
use Rattle.tib_ranked_trees.proofs.FrontsGrowing.{child_before, size-trees_of, grows_along}
use Rattle.tib_ranked_trees.proofs.Telling.{has_or, no_fewer, some_new}
use Rattle.tib_ranked_trees.proofs.Settling.{listed_at, AreClosed, settle, apart_at}
use Rattle.tib_ranked_trees.proofs.Walking.{along_picked, no_later_cost, lower_offer, reach}

module _ {levelled weighted : Bool} {product : ℕ → ℕ → ℕ} (laws : ProductLaws levelled weighted product) (labels : List (List ℕ)) (rules : List (Rule ℕ)) (normal : AreNormal rules)
    (orderly : AreOrderly laws rules normal) (k : ℕ) (entries : Entries) (taken held : List (ℕ × List ℕ)) (pass : IsPass product labels rules k entries taken held) where
  abbrev At : ℕ → Tree ℕ × ℕ → Type 0
  At q a = IsTreeAt product rules q a

  trans : (x y z : Tree ℕ × ℕ) → NotAfter labels x y → NotAfter labels y z → NotAfter labels x z
  trans x y z = no_later_trans (cheaper_strict labels) x y z

  -- a child that a list which is not full lacks
  record IsOpen (zs : List (Tree ℕ × ℕ)) : Type 0 where
    state : ℕ
    child : Tree ℕ × ℕ
    at : At state child
    stands : Has zs child
    new : Has (entries state) child → ⊥
    few : length (entries state) < k

  few_or : (n : ℕ) → (n < k) ⊎ (k ≤ n)
  few_or n = grind arith

  look : (qs : List ℕ) (zs : List (Tree ℕ × ℕ)) → Along (IsTreeAt product rules) qs zs → IsOpen zs ⊎ AreClosed product labels rules k entries pass.fronts qs zs
  look [] [] a = inr tt
  look [] (z ∷ zs) a = absurd a
  look (q ∷ qs) [] a = absurd a
  look (q ∷ qs) (z ∷ zs) a = elim (look qs zs a.1) [
    | inl o ↦ inl (record { state = o.state; child = o.child; at = o.at; stands = inr o.stands; new = o.new; few = o.few })
    | inr all ↦ elim (has_or (entries q) z) [
      | inl h ↦ inr (inl h, all)
      | inr n ↦ elim (few_or (length (entries q))) [
        | inl f ↦ inl (record { state = q; child = z; at = a.0; stands = inl refl; new = n; few = f })
        | inr f ↦ inr (inr (n, f), all)
      ]
    ]
  ]

  -- a candidate that waits comes no later
  pub record IsCovered (y : Tree ℕ × ℕ) : Type 0 where
    pub rule : ℕ
    pub ranks : List ℕ
    pub stands : Has held (rule, ranks)
    pub low : NotAfter labels (offer product rules entries rule ranks) y

  -- the candidates reach ranks that name a tree no later than y
  reached :
      (q : ℕ) (y : Tree ℕ × ℕ) → y.1 ≤ most → length (entries q) < k → (n : ℕ) → n < length rules → (rule_at rules n).left ≡ q → (js : List ℕ) →
      AreRanks entries (states_of (rule_at rules n)) js → NotAfter labels (offer product rules entries n js) y → (HasTree (entries q) (offer product rules entries n js).0 → ⊥) → IsCovered y
  reached q y b few n h left js r low new =
      elim (reach laws labels rules orderly entries pass.fronts taken held k pass n h js r (omega (arith, b, no_later_cost labels (offer product rules entries n js) y low))) [
        | inl w ↦ record {
          rule = n;
          ranks = w.0;
          stands = w.2;
          low = trans (offer product rules entries n w.0) (offer product rules entries n js) y (lower_offer laws labels rules orderly entries pass.fronts n w.0 js w.1 r) low;
        }
        | inr t ↦ elim (pass.placed n js t) [
          | inl d ↦ absurd (new (subst (λ p. HasTree (entries p) (offer product rules entries n js).0) left d))
          | inr f ↦ let g : k ≤ length (entries q) = subst (λ p. k ≤ length (entries p)) left f in absurd (omega arith)
        ]
      ]

  -- every tree that a list which is not full lacks is covered
  pub covered : (s q : ℕ) (y : Tree ℕ × ℕ) → size y.0 ≤ s → At q y → (Has (entries q) y → ⊥) → length (entries q) < k → IsCovered y
  covered zero q y small a new few = absurd (omega arith)
  covered (suc s) q y small a new few =
      let o = opened laws rules normal q y a in
      let r : Rule ℕ = rule_at rules o.rule in
      elim (look (states_of r) o.kids o.along) [
        | inl p ↦
            let inside : size p.child.0 ≤ sizes (trees_of o.kids) = size-trees_of o.kids p.child p.stands in
            let whole : sizes (trees_of o.kids) ≡ sizes y.0.kids = ap (λ (x : Tree ℕ × ℕ). sizes x.0.kids) o.is_made in
            let c = covered s p.state p.child (omega (arith, inside, whole, small)) p.at p.new p.few in
            let up : NotAfter labels p.child y = inr (subst (Cheaper labels p.child) o.is_made (child_before labels laws r o.kids p.child p.stands)) in
            record { rule = c.rule; ranks = c.ranks; stands = c.stands; low = trans (offer product rules entries c.rule c.ranks) p.child y c.low up }
        | inr all ↦
            let st = settle product labels rules k entries pass.fronts (omega arith) (states_of r) o.kids o.along all in
            elim st.which [
              | inl e ↦
                  let is_y : offer product rules entries o.rule st.ranks ≡ y = ap (made product r) e ∙ o.is_made in
                  reached q y a.attained.1 few o.rule o.below o.left st.ranks st.are_ranks (inl is_y)
                  (λ h. new (listed_at product labels rules k entries pass.fronts q y a (subst (λ (x : Tree ℕ × ℕ). HasTree (entries q) x.0) is_y h)))
              | inr f ↦ elim (some_new (λ x. (made product r (f.before ++ x ∷ f.after)).0) (entries q) (entries f.state)) [
                | inr every ↦
                    let many : length (entries f.state) ≤ length (entries q) =
                    no_fewer (λ x. (made product r (f.before ++ x ∷ f.after)).0) (entries f.state) (entries q)
                    (apart_at product labels rules k entries pass.fronts r f.state f.before f.after (entries f.state) (pass.fronts f.state).ascends (pass.fronts f.state).members)
                    every
                    in
                    absurd (omega (arith, many, f.full, few))
                | inl x ↦
                    let at = at_has (entries f.state) x.0 no_entry x.1 in
                    let ranks : List ℕ = f.front ++ at.0 ∷ f.back in
                    let is_row : offer product rules entries o.rule ranks ≡ made product r (f.before ++ x.0 ∷ f.after) =
                    ap (made product r) (f.picks at.0 ∙ ap (λ z. f.before ++ z ∷ f.after) at.2)
                    in
                    let low : NotAfter labels (offer product rules entries o.rule ranks) y =
                    subst (NotAfter labels (offer product rules entries o.rule ranks)) o.is_made
                    (grows_along labels laws (IsTreeAt product rules) orderly r (states_of r) [] (picked entries (states_of r) ranks) o.kids
                    (along_picked product labels rules entries pass.fronts (states_of r) ranks (f.ranks at.0 at.1)) o.along (f.low at.0 at.1))
                    in
                    reached q y a.attained.1 few o.rule o.below o.left ranks (f.ranks at.0 at.1) low
                    (λ h. x.2 (subst (λ (z : Tree ℕ × ℕ). HasTree (entries q) z.0) is_row h))
              ]
            ]
      ]

  -- the least candidate is the next tree of its state
  pub taken_is_next :
      (n : ℕ) (js : List ℕ) → IsLeastHeld product labels rules entries held n js → length (entries (rule_at rules n).left) < k →
      (HasTree (entries (rule_at rules n).left) (offer product rules entries n js).0 → ⊥) →
      IsNext (IsTreeAt product rules (rule_at rules n).left) (Cheaper labels) (entries (rule_at rules n).left) (offer product rules entries n js)
  taken_is_next n js l few new =
      let q : ℕ = (rule_at rules n).left in
      let x : Tree ℕ × ℕ = offer product rules entries n js in
      let range = pass.in_range n js l.stands in
      let c = closed laws rules normal n range.0 (picked entries (states_of (rule_at rules n)) js) (along_picked product labels rules entries pass.fronts (states_of (rule_at rules n)) js range.1) range.2 in
      let first : (y : Tree ℕ × ℕ) → At q y → (Has (entries q) y → ⊥) → NotAfter labels x y =
      λ y a out. let v = covered (size y.0) q y (le_refl (size y.0)) a out few in trans x (offer product rules entries v.rule v.ranks) y (l.least v.rule v.ranks v.stands) v.low
      in
      let up : x.1 ≤ c.cost = no_later_cost labels x (x.0, c.cost) (first (x.0, c.cost) c.is_tree (λ h. new (c.cost, h))) in
      let e : c.cost ≡ x.1 = omega (arith, up, c.low) in
      record {
        member = subst (λ d. At q (x.0, d)) e c.is_tree;
        new = λ h. new (x.1, h);
        least = first;
      }

pub lists_best : {levelled weighted : Bool} {product : ℕ → ℕ → ℕ} → ProductLaws levelled weighted product → PassListsBest product
lists_best laws = record {
  next = λ labels rules k entries taken held normal o pass n js l few new.
      taken_is_next laws labels rules normal (orderly laws rules normal o) k entries taken held pass n js l few new;
  whole = λ labels rules k entries taken normal o pass q few y a out.
      (covered laws labels rules normal (orderly laws rules normal o) k entries taken [] pass (size y.0) q y (le_refl (size y.0)) a out few).stands;
}
