-- Each grammar has a normal form: it cannot be that it has none.
use Rattle.std.specs.Prelude.{◌≡◌, ℕ, ◌+◌, ◌<◌, ◌≤◌, ◌⊎◌, List, [], ◌∷◌, ◌++◌, length, refl, Option, None, Some}
use Rattle.std.proofs.Common.{zero, suc, arith, ap, sym, ◌∙◌, subst, inl, inr}
use Rattle.tib_lex.specs.Lists.{Has, Ascends}
use Rattle.tib_cost.specs.Semiring.{most}
use Rattle.tib_cost.specs.Least.{IsLeast}
use Rattle.tib_grammar.specs.Sides.{Symbol, label, hole, Side as SideFor}
use Rattle.tib_grammar.specs.Run.{rule_at}
use Rattle.tib_grammar.specs.declared.Rule.{Rule}
use Rattle.tib_grammar.proofs.Members.{has_left, has_right, has_either}
use Rattle.tib_normal.specs.NormalForm.{heads, all_inner, first_inner, Reaches, IsNormalForm, normal_parts}
use Rattle.tib_normal.specs.Rows.{AreRows, AreOwn, HasMoreParts, HasFormWithin}
use Rattle.tib_normal.proofs.Forming.{joined, form_of}
use Rattle.tib_lex.proofs.Booleans.{either_way}
use Rattle.tib_lex.proofs.Numbers.{below_suc_cases}
use Rattle.tib_grammar.proofs.Sides.{same_label}

-- it cannot be that a set of costs has no least value
module _ (P : ℕ → Type 0) (never : (v : Option ℕ) → IsLeast P v → ⊥) where
  none_below : (n : ℕ) → (m : ℕ) → m < n → P m → m ≤ most → ⊥
  none_below zero m h p b = omega (arith, h)
  none_below (suc n) m h p b = elim (below_suc_cases m n h) [
    | inl k ↦ none_below n m k p b
    | inr e ↦ never (Some m) (record { attained = (p, b); lower = λ k q c. not_below m k (λ l. none_below n k (omega (arith, e)) q c) })
  ]
    where
      not_below : (m k : ℕ) → (k < m → ⊥) → m ≤ k
      not_below m k h = grind arith

  pub has_least : ⊥
  has_least = never None (record { attained = tt; lower = λ n p b. none_below (suc n) n (omega arith) p b })

module _ (product : ℕ → ℕ → ℕ) (states : ℕ) (rules : List (Rule ℕ)) where
  -- the side of rule n in the normal form, where f is its label
  abbrev side_from : ℕ → ℕ → SideFor ℕ ℕ
  side_from n f = record { label = label f; kids = heads (first_inner states rules n) (rule_at rules n).right.kids }

  -- a rule from q to this side
  abbrev HasRow : List (Rule ℕ) → ℕ → SideFor ℕ ℕ → Type 0
  HasRow own q side = (d : ℕ) × Has own (record { left = q; right = side; cost = d })

  -- the rules of the states below q, and those of q for the sides of the first n rules
  record ArePart (q n : ℕ) (own : List (Rule ℕ)) : Type 0 where
    pub rows : AreRows product states rules own
    pub ascends : Ascends (λ r s. r.left ≤ s.left) own
    pub below : (r : Rule ℕ) → Has own r → r.left ≤ q
    pub before : (p : ℕ) (side : SideFor ℕ ℕ) (c : ℕ) → p < q → Reaches product states rules p side c → c ≤ most → HasRow own p side
    pub here :
        (m f c : ℕ) → m < n → (rule_at rules m).right.label ≡ label f → Reaches product states rules q (side_from m f) c → c ≤ most →
        HasRow own q (side_from m f)

  -- the side of rule n has a rule already, or no cost
  part_same :
      (q n : ℕ) (own : List (Rule ℕ)) → ArePart q n own →
      ((f c : ℕ) → (rule_at rules n).right.label ≡ label f → Reaches product states rules q (side_from n f) c → c ≤ most → HasRow own q (side_from n f)) →
      ArePart q (suc n) own
  part_same q n own part last = record {
    rows = part.rows;
    ascends = part.ascends;
    below = part.below;
    before = part.before;
    here = λ m f c h. here m f c (below_suc_cases m n h);
  }
    where
      here :
          (m f c : ℕ) → (m < n) ⊎ (m ≡ n) → (rule_at rules m).right.label ≡ label f → Reaches product states rules q (side_from m f) c → c ≤ most →
          HasRow own q (side_from m f)
      here m f c (inl k) e r b = part.here m f c k e r b
      here m f c (inr k) e r b =
          subst (λ i. HasRow own q (side_from i f)) (sym k)
          (last f c (subst (λ i. (rule_at rules i).right.label ≡ label f) k e) (subst (λ i. Reaches product states rules q (side_from i f) c) k r) b)

  -- one more rule of q, to a side that has none yet
  part_more :
      (q n : ℕ) (own : List (Rule ℕ)) (side : SideFor ℕ ℕ) (c : ℕ) → ArePart q n own → IsLeast (Reaches product states rules q side) (Some c) → (HasRow own q side → ⊥) →
      ArePart q n (own ++ record { left = q; right = side; cost = c } ∷ [])
  part_more q n own side c part least absent = by (record { left = q; right = side; cost = c }) refl
    where
      by : (new : Rule ℕ) → record { left = q; right = side; cost = c } ≡ new → ArePart q n (own ++ new ∷ [])
      by new is = record {
        rows = record {
          distinct = joined (λ r s. r.left ≡ s.left → r.right ≡ s.right → ⊥) own (new ∷ []) part.rows.distinct (tt, tt) apart;
          least = λ r h. rows r (has_either own (new ∷ []) r h);
        };
        ascends = joined (λ r s. r.left ≤ s.left) own (new ∷ []) part.ascends (tt, tt) (λ r s h k. omega (arith, part.below r h, left s k));
        below = λ r h. below r (has_either own (new ∷ []) r h);
        before = λ p t k h r b. more p t (part.before p t k h r b);
        here = λ m f k h e r b. more q (side_from m f) (part.here m f k h e r b);
      }
        where
          one : (r : Rule ℕ) → Has (new ∷ []) r → record { left = q; right = side; cost = c } ≡ r
          one r (inl e) = is ∙ e
          one r (inr a) = absurd a

          left : (r : Rule ℕ) → Has (new ∷ []) r → q ≡ r.left
          left r h = ap (λ (x : Rule ℕ). x.left) (one r h)

          more : (p : ℕ) (t : SideFor ℕ ℕ) → HasRow own p t → HasRow (own ++ new ∷ []) p t
          more p t found = (found.0, has_left own (new ∷ []) (record { left = p; right = t; cost = found.0 }) found.1)

          rows : (r : Rule ℕ) → Has own r ⊎ Has (new ∷ []) r → IsLeast (Reaches product states rules r.left r.right) (Some r.cost)
          rows r (inl h) = part.rows.least r h
          rows r (inr h) = subst (λ (x : Rule ℕ). IsLeast (Reaches product states rules x.left x.right) (Some x.cost)) (one r h) least

          below : (r : Rule ℕ) → Has own r ⊎ Has (new ∷ []) r → r.left ≤ q
          below r (inl h) = part.below r h
          below r (inr h) = omega (arith, left r h)

          apart : (r s : Rule ℕ) → Has own r → Has (new ∷ []) s → r.left ≡ s.left → r.right ≡ s.right → ⊥
          apart r s h k e d =
              let at_state : r.left ≡ q = e ∙ sym (left s k) in
              let at_side : r.right ≡ side = d ∙ sym (ap (λ (x : Rule ℕ). x.right) (one s k)) in
              absent (
                r.cost,
                subst (λ t. Has own (record { left = q; right = t; cost = r.cost })) at_side
                    (subst (λ p. Has own (record { left = p; right = r.right; cost = r.cost })) at_state h),
              )

  -- one more rule of the grammar
  part_next : (q n : ℕ) (own : List (Rule ℕ)) → ArePart q n own → ((next : List (Rule ℕ)) → ArePart q (suc n) next → ⊥) → ⊥
  part_next q n own part k = by_root (rule_at rules n).right.label refl
    where
      no_label : (p f : ℕ) → ◌≡◌ {A = Symbol ℕ ℕ} (hole p) (label f) → ⊥
      no_label p f e = absurd (cc)

      found : (f : ℕ) (now : List (Rule ℕ)) → ArePart q n now → (rule_at rules n).right.label ≡ label f → HasRow now q (side_from n f) → ⊥
      found f now so_far root row =
          k now (part_same q n now so_far (λ g c e r b. subst (λ z. HasRow now q (side_from n z)) (same_label f g (sym root ∙ e)) row))

      costs : (f : ℕ) → (rule_at rules n).right.label ≡ label f → (v : Option ℕ) → IsLeast (Reaches product states rules q (side_from n f)) v → ⊥
      costs f root None least =
          k own (part_same q n own part (λ g c e r b. absurd (least.lower c (subst (λ z. Reaches product states rules q (side_from n z) c) (same_label g f (sym e ∙ root)) r) b)))
      costs f root (Some c) least = either_way (HasRow own q (side_from n f)) (λ known. decided known)
        where
          decided : HasRow own q (side_from n f) ⊎ (HasRow own q (side_from n f) → ⊥) → ⊥
          decided (inl row) = found f own part root row
          decided (inr absent) =
              found f (own ++ record { left = q; right = side_from n f; cost = c } ∷ []) (part_more q n own (side_from n f) c part least absent) root
              (c, has_right own (record { left = q; right = side_from n f; cost = c } ∷ []) (record { left = q; right = side_from n f; cost = c }) (inl refl))

      by_root : (root : Symbol ℕ ℕ) → (rule_at rules n).right.label ≡ root → ⊥
      by_root (hole p) e = k own (part_same q n own part (λ f c d r b. absurd (no_label p f (sym e ∙ d))))
      by_root (label f) e = has_least (Reaches product states rules q (side_from n f)) (λ v least. costs f e v least)

  -- the first n rules of the grammar
  part_all : (q n : ℕ) (own : List (Rule ℕ)) → ArePart q 0 own → ((next : List (Rule ℕ)) → ArePart q n next → ⊥) → ⊥
  part_all q zero own part k = k own part
  part_all q (suc n) own part k = part_all q n own part (λ now so_far. part_next q n now so_far k)

  -- the next state begins
  part_state : (q : ℕ) (own : List (Rule ℕ)) → ArePart q (length rules) own → ArePart (suc q) 0 own
  part_state q own part = record {
    rows = part.rows;
    ascends = part.ascends;
    below = λ r h. omega (arith, part.below r h);
    before = λ p side c h. before p side c (below_suc_cases p q h);
    here = λ m f c h. absurd (omega arith);
  }
    where
      before : (p : ℕ) (side : SideFor ℕ ℕ) (c : ℕ) → (p < q) ⊎ (p ≡ q) → Reaches product states rules p side c → c ≤ most → HasRow own p side
      before p side c (inl k) r b = part.before p side c k r b
      before p side c (inr k) r b =
          subst (λ z. HasRow own z side) (sym k)
          (subst (λ t. HasRow own q t) (sym r.is_side)
          (part.here r.rule r.root c r.below r.is_label (subst (λ t. Reaches product states rules q t c) r.is_side (subst (λ z. Reaches product states rules z side c) k r)) b))

  part_states : (q : ℕ) → ((own : List (Rule ℕ)) → ArePart q 0 own → ⊥) → ⊥
  part_states zero k = k [] (record {
    rows = record { distinct = tt; least = λ r h. absurd h };
    ascends = tt;
    below = λ r h. absurd h;
    before = λ p side c h. absurd (omega arith);
    here = λ m f c h. absurd (omega arith);
  })
  part_states (suc q) k =
      part_states q (λ own part.
      part_all q (length rules) own part (λ now all. k now (part_state q now all)))

  pub forms_exist : ((more : ℕ) (new : List (Rule ℕ)) → IsNormalForm product states rules more new → ⊥) → ⊥
  forms_exist k =
      part_states states (λ own part.
      k (states + length (all_inner states rules)) (own ++ all_inner states rules)
      (form_of product states rules (states + length (all_inner states rules)) own (owned own part) refl))
    where
      -- no rule has the state itself
      owned : (own : List (Rule ℕ)) → ArePart states 0 own → AreOwn product states rules states own
      owned own part = record {
        rows = part.rows;
        ascends = part.ascends;
        below = λ r h. (part.rows.least r h).attained.0.own;
        whole = part.before;
      }

  pub not_both : (limit : ℕ) → HasFormWithin product states rules limit → HasMoreParts product states rules limit → ⊥
  not_both limit small large = omega (arith, small.within, large small.states_in_all small.normal_rules small.form)

  pub not_neither : (limit : ℕ) → (HasFormWithin product states rules limit → ⊥) → (HasMoreParts product states rules limit → ⊥) → ⊥
  not_neither limit small large = large (λ more new form. above limit (normal_parts more new) (λ h. small (record { states_in_all = more; normal_rules = new; form = form; within = h })))
    where
      above : (m n : ℕ) → (n ≤ m → ⊥) → m < n
      above m n h = grind arith
