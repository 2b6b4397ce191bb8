-- What is told item by item, and rule by rule of a state.
use Rattle.std.specs.Prelude.{◌≡◌, ◌⊎◌, ℕ, ◌+◌, ◌-◌, ◌<◌, ◌≤◌, List, [], ◌∷◌, ◌++◌, length, drop, Bool, Option, Some, refl}
use Rattle.std.proofs.Common.{zero, suc, arith, ap, sym, ◌∙◌, subst, inl, inr, get_or, length-append}
use Rattle.std.proofs.lemmas.List.{drop_more, drop_all, drop-drop, same_from_push, get_or_default}
use Rattle.std.proofs.lemmas.List.Sums.{sum_by-cons}
use Rattle.tib_grammar.specs.Items.{holes_in}
use Rattle.tib_grammar.specs.Range.{AllBelow}
use Rattle.tib_grammar.specs.Run.{rule_at, no_rule}
use Rattle.tib_grammar.specs.Sides.{holes_of}
use Rattle.tib_grammar.specs.declared.Item.{Item}
use Rattle.tib_grammar.specs.declared.Item.TheVariants.{Label, Hole}
use Rattle.tib_grammar.specs.declared.Rule.{Rule}
use Rattle.tib_cost.specs.Semiring.{ProductLaws}
use Rattle.tib_cost.specs.Least.{times}
use Rattle.tib_cost.proofs.Times.{times_regroups}
use Rattle.tib_inside.specs.Inside.{total}
use Rattle.tib_inside.proofs.Totals.{holes_rest}
use Rattle.tib_prune.specs.Settling.{without, told, Tells}
use Rattle.tib_prune.specs.Telling.{rests_of, IsToldFrom, places_of, Adds}
use Rattle.tib_prune.proofs.Told.{adds_both, adds_none, told_at, at_told, told_last}
use Rattle.tib_trim.specs.Links.{IsNext}
use Rattle.tib_trim.specs.Telling.{GoesOn, IsToldAfter}

module _ (product : ℕ → ℕ → ℕ) (costs : ℕ → Option ℕ) (item : Item ℕ) (qs : List ℕ) where
  -- an item without a state changes no product, and one with a state lists the product after it
  pub rests_label : (f rank : ℕ) (old : List (Option ℕ)) → item ≡ Label f rank → old ≡ rests_of product costs qs → old ≡ rests_of product costs (holes_in (item ∷ []) ++ qs)
  rests_label f rank old is e = e ∙ ap (λ (x : Item ℕ). rests_of product costs (holes_in (x ∷ []) ++ qs)) (sym is)

  pub rests_hole :
      (q : ℕ) (v : Option ℕ) (old new : List (Option ℕ)) → item ≡ Hole q → v ≡ total product costs qs → old ≡ rests_of product costs qs → new ≡ old ++ v ∷ [] →
      new ≡ rests_of product costs (holes_in (item ∷ []) ++ qs)
  rests_hole q v old new is v_is e n =
      n
      ∙ ap (λ xs. xs ++ v ∷ []) e
      ∙ ap (λ x. rests_of product costs qs ++ x ∷ []) v_is
      ∙ ap (λ (x : Item ℕ). rests_of product costs (holes_in (x ∷ []) ++ qs)) (sym is)

  pub total_label : (f rank : ℕ) (v : Option ℕ) → item ≡ Label f rank → v ≡ total product costs qs → v ≡ total product costs (holes_in (item ∷ []) ++ qs)
  total_label f rank v is e = e ∙ ap (λ (x : Item ℕ). total product costs (holes_in (x ∷ []) ++ qs)) (sym is)

  pub total_hole : (q : ℕ) (u v w : Option ℕ) → item ≡ Hole q → u ≡ costs q → v ≡ total product costs qs → w ≡ times product u v → w ≡ total product costs (holes_in (item ∷ []) ++ qs)
  total_hole q u v w is u_is v_is w_is =
      w_is
      ∙ ap (λ x. times product x v) u_is
      ∙ ap (times product (costs q)) v_is
      ∙ ap (λ (x : Item ℕ). total product costs (holes_in (x ∷ []) ++ qs)) (sym is)

-- one more state is told, and then those after it
tell_one :
    (product : ℕ → ℕ → ℕ) (costs outsides : ℕ → Option ℕ) (v w told_cost : Option ℕ) (q : ℕ) (qs : List ℕ) (before mid after : List (ℕ × ℕ)) →
    told_cost ≡ times product v (total product costs qs) → w ≡ times product v (costs q) → Adds outsides (λ e. (q ≡ e.1) × (told_cost ≡ Some e.0)) 1 before mid →
    Adds outsides (IsToldFrom product costs w qs) (length qs) mid after → Adds outsides (IsToldFrom product costs v (q ∷ qs)) (length (q ∷ qs)) before after
tell_one product costs outsides v w told_cost q qs before mid after told_is w_is one more =
    adds_both outsides (λ e. (q ≡ e.1) × (told_cost ≡ Some e.0)) (IsToldFrom product costs w qs) (IsToldFrom product costs v (q ∷ qs)) 1 (length qs) (length (q ∷ qs)) before mid after
    (λ e k. inl (k.0, sym told_is ∙ k.1))
    (λ e k. inr (subst (λ u. IsToldFrom product costs u qs e) w_is k))
    (λ e k. elim k [ inl l ↦ inl (l.0, told_is ∙ l.1) | inr l ↦ inr (subst (λ u. IsToldFrom product costs u qs e) (sym w_is) l) ])
    (omega arith)
    one
    more

module _ (product : ℕ → ℕ → ℕ) (insides outsides : ℕ → Option ℕ) (item : Item ℕ) (v : Option ℕ) (qs : List ℕ) where
  -- an item without a state tells nothing
  pub goes_on_label : (f rank : ℕ) (rests : List (Option ℕ)) (agenda : List (ℕ × ℕ)) → item ≡ Label f rank → rests ≡ rests_of product insides (holes_in (item ∷ []) ++ qs) → GoesOn product insides outsides item v agenda v rests agenda qs
  goes_on_label f rank rests agenda is e =
      subst (λ (x : Item ℕ). rests ≡ rests_of product insides (holes_in (x ∷ []) ++ qs) → GoesOn product insides outsides x v agenda v rests agenda qs) (sym is)
      (λ k. record { left = k; tells = λ final h. h })
      e

  -- one with a state tells it
  pub goes_on_hole :
      (q : ℕ) (rest told_cost w : Option ℕ) (old rests : List (Option ℕ)) (before after : List (ℕ × ℕ)) → item ≡ Hole q → old ≡ rests ++ rest ∷ [] → old ≡ rests_of product insides (holes_in (item ∷ []) ++ qs) →
      told_cost ≡ times product v rest → w ≡ times product v (insides q) → Adds outsides (λ e. (q ≡ e.1) × (told_cost ≡ Some e.0)) 1 before after →
      GoesOn product insides outsides item v before w rests after qs
  goes_on_hole q rest told_cost w old rests before after is taken e told_is w_is one =
      subst (λ (x : Item ℕ). old ≡ rests_of product insides (holes_in (x ∷ []) ++ qs) → GoesOn product insides outsides x v before w rests after qs) (sym is) by e
    where
      by : old ≡ rests_of product insides (q ∷ qs) → GoesOn product insides outsides (Hole q) v before w rests after qs
      by k =
          let same = same_from_push rests (rests_of product insides qs) rest (total product insides qs) (sym taken ∙ k) in
          record {
            left = same.0;
            tells = λ final more. tell_one product insides outsides v w told_cost q qs before after final (told_is ∙ ap (times product v) same.1) w_is one more;
          }

-- where there is a state there is a rest
pub some_rest : (product : ℕ → ℕ → ℕ) (insides : ℕ → Option ℕ) (item : Item ℕ) (q : ℕ) (qs : List ℕ) (old : List (Option ℕ)) → item ≡ Hole q → old ≡ rests_of product insides (holes_in (item ∷ []) ++ qs) → length old ≡ 0 → ⊥
some_rest product insides item q qs old is e none =
    let whole : old ≡ rests_of product insides qs ++ total product insides qs ∷ [] = e ∙ ap (λ (x : Item ℕ). rests_of product insides (holes_in (x ∷ []) ++ qs)) is in
    omega (arith, none, ap length whole, length-append (rests_of product insides qs) (total product insides qs ∷ []))

-- later rules have no more places
places_drop : (k : ℕ) (rules : List (Rule ℕ)) → places_of (drop k rules) ≤ places_of rules
places_drop zero rules = omega arith
places_drop (suc k) [] = omega arith
places_drop (suc k) (r ∷ rules) = omega (arith, places_drop k rules, sum_by-cons (λ (s : Rule ℕ). length (holes_of s.right)) r rules)

places_later : (rules : List (Rule ℕ)) (i p : ℕ) → i ≤ p → places_of (drop p rules) ≤ places_of (drop i rules)
places_later rules i p h =
    let sum : i + (p - i) ≡ p = omega (arith, h) in
    omega (arith, ap (λ n. places_of (drop n rules)) (sym sum), ap places_of (sym (drop-drop (p - i) i rules)), places_drop (p - i) (drop i rules))

module _ (product : ℕ → ℕ → ℕ) (insides outsides : ℕ → Option ℕ) (rules : List (Rule ℕ)) (q d : ℕ) where
  -- no rule of the state is between one and the next
  skipped : (i p : ℕ) (e : ℕ × ℕ) → IsNext rules q i p → IsToldAfter product insides rules q d i e → IsToldAfter product insides rules q d p e
  skipped i p e next t = elim (before_or_from t.rule p) [
    | inl k ↦ absurd (next.none_between t.rule t.from k t.left)
    | inr k ↦ record { rule = t.rule; from = k; below = t.below; left = t.left; told = t.told }
  ]
    where
      before_or_from : (m n : ℕ) → (m < n) ⊎ (n ≤ m)
      before_or_from m n = grind arith

  earlier : (i p : ℕ) (e : ℕ × ℕ) → i ≤ p → IsToldAfter product insides rules q d p e → IsToldAfter product insides rules q d i e
  earlier i p e h t = record { rule = t.rule; from = omega (arith, h, t.from); below = t.below; left = t.left; told = t.told }

  -- what the rules from the next one on tell is all that those from here on tell
  pub told_skip :
      (i p : ℕ) (before after : List (ℕ × ℕ)) → IsNext rules q i p → Adds outsides (IsToldAfter product insides rules q d p) (places_of (drop p rules)) before after →
      Adds outsides (IsToldAfter product insides rules q d i) (places_of (drop i rules)) before after
  told_skip i p before after next a = record {
    kept = a.kept;
    only = λ e h. elim (a.only e h) [ inl k ↦ inl k | inr k ↦ inr (earlier i p e next.from k) ];
    all = λ e h. a.all e (skipped i p e next h);
    more = omega (arith, a.more, places_later rules i p next.from);
  }

  -- one more rule tells its states, and then the next ones
  pub told_rule :
      (n p : ℕ) (r dummy : Rule ℕ) (before mid after : List (ℕ × ℕ)) → n < length rules → r ≡ get_or rules n dummy → (rule_at rules n).left ≡ q → IsNext rules q (n + 1) p →
      Adds outsides (IsToldFrom product insides (times product (Some d) (Some r.cost)) (holes_of r.right)) (length (holes_of r.right)) before mid →
      Adds outsides (IsToldAfter product insides rules q d p) (places_of (drop p rules)) mid after → Adds outsides (IsToldAfter product insides rules q d n) (places_of (drop n rules)) before after
  told_rule n p r dummy before mid after h at left next one more =
      let here : r ≡ rule_at rules n = at ∙ get_or_default rules n dummy no_rule h in
      let parts : drop n rules ≡ rule_at rules n ∷ drop (n + 1) rules = drop_more rules n no_rule h in
      let long = ap places_of parts ∙ sum_by-cons (λ (s : Rule ℕ). length (holes_of s.right)) (rule_at rules n) (drop (n + 1) rules) in
      adds_both outsides (IsToldFrom product insides (times product (Some d) (Some r.cost)) (holes_of r.right)) (IsToldAfter product insides rules q d (n + 1)) (IsToldAfter product insides rules q d n)
      (length (holes_of r.right)) (places_of (drop (n + 1) rules)) (places_of (drop n rules)) before mid after
      (λ e k. record {
        rule = n;
        from = omega arith;
        below = h;
        left = left;
        told = subst (λ (x : Rule ℕ). IsToldFrom product insides (times product (Some d) (Some x.cost)) (holes_of x.right) e) here k;
      })
      (λ e k. earlier n (n + 1) e (omega arith) k)
      (λ e k. elim (here_or_later k.rule n k.from) [
        | inl s ↦
            inl (subst (λ (x : Rule ℕ). IsToldFrom product insides (times product (Some d) (Some x.cost)) (holes_of x.right) e) (sym here)
            (subst (λ m. IsToldFrom product insides (times product (Some d) (Some (rule_at rules m).cost)) (holes_of (rule_at rules m).right) e) s k.told))
        | inr s ↦ inr (record { rule = k.rule; from = s; below = k.below; left = k.left; told = k.told })
      ])
      (omega (arith, long, ap (λ (x : Rule ℕ). length (holes_of x.right)) here))
      one
      (told_skip (n + 1) p mid after next more)
    where
      here_or_later : (m n : ℕ) → n ≤ m → (m ≡ n) ⊎ (n + 1 ≤ m)
      here_or_later m n h = grind arith

  -- past the last rule nothing is told
  pub told_end : (n : ℕ) (agenda : List (ℕ × ℕ)) → length rules ≤ n → Adds outsides (IsToldAfter product insides rules q d n) (places_of (drop n rules)) agenda agenda
  told_end n agenda h = adds_none outsides (IsToldAfter product insides rules q d n) (places_of (drop n rules)) agenda (λ e k. absurd (omega (arith, k.from, k.below, h)))

module _
    {levelled weighted : Bool} {product : ℕ → ℕ → ℕ} (laws : ProductLaws levelled weighted product) (rules : List (Rule ℕ)) (insides outsides : ℕ → Option ℕ) (q d : ℕ)
    (known : outsides q ≡ Some d) where
  -- the cost that is told is the product of three
  whole_cost : (r : Rule ℕ) (i : ℕ) → r.left ≡ q → times product (times product (Some d) (Some r.cost)) (total product insides (without i (holes_of r.right))) ≡ told product insides outsides r i
  whole_cost r i left =
      times_regroups laws (Some d) (Some r.cost) (total product insides (without i (holes_of r.right)))
      ∙ ap (λ v. times product v (times product (Some r.cost) (total product insides (without i (holes_of r.right))))) (sym (ap outsides left ∙ known))

  -- what is added is what the rules of the state tell
  pub tells_of :
      (before after : List (ℕ × ℕ)) → Adds outsides (IsToldAfter product insides rules q d 0) (places_of rules) before after → Tells product rules insides outsides q before after
  tells_of before after a = record {
    kept = a.kept;
    only = λ e h. elim (a.only e h) [
      | inl k ↦ inl k
      | inr t ↦
          let at = told_at laws insides (times product (Some d) (Some (rule_at rules t.rule).cost)) (holes_of (rule_at rules t.rule).right) e t.told in
          inr (record {
            rule = t.rule;
            place = at.place;
            position = t.below;
            left = t.left;
            within = at.within;
            state = at.state;
            cost = sym (whole_cost (rule_at rules t.rule) at.place t.left) ∙ at.cost;
          })
    ];
    all = λ e t. a.all e (record {
      rule = t.rule;
      from = omega arith;
      below = t.position;
      left = t.left;
      told = at_told laws insides (times product (Some d) (Some (rule_at rules t.rule).cost)) (holes_of (rule_at rules t.rule).right) e t.place t.within t.state (whole_cost (rule_at rules t.rule) t.place t.left ∙ t.cost);
    });
  }

-- the states of an item and of those after it
pub total_from : (items : List (Item ℕ)) (n i : ℕ) → i + 1 ≡ n → i < length items → holes_in (get_or items i (Label 0 0) ∷ []) ++ holes_in (drop n items) ≡ holes_in (drop i items)
total_from items n i e h =
    ap (λ m. holes_in (get_or items i (Label 0 0) ∷ []) ++ holes_in (drop m items)) (sym e) ∙ sym (holes_rest items i (get_or items i (Label 0 0)) h refl)

-- the state of an item is below n where its states are
pub state_below : (n : ℕ) (item : Item ℕ) (q : ℕ) → item ≡ Hole q → AllBelow n (holes_in (item ∷ [])) → q < n
state_below n item q is a =
    let h : AllBelow n (q ∷ []) = subst (λ (x : Item ℕ). AllBelow n (holes_in (x ∷ []))) is a in
    h.0

-- what is told from states is told from those that are the same
pub items_more :
    (product : ℕ → ℕ → ℕ) (insides outsides : ℕ → Option ℕ) (v : Option ℕ) (qs ps : List ℕ) (before after : List (ℕ × ℕ)) → ps ≡ qs → Adds outsides (IsToldFrom product insides v ps) (length ps) before after →
    Adds outsides (IsToldFrom product insides v qs) (length qs) before after
items_more product insides outsides v qs ps before after e a = subst (λ xs. Adds outsides (IsToldFrom product insides v xs) (length xs) before after) e a

-- past the last item nothing is told
pub items_end :
    (product : ℕ → ℕ → ℕ) (insides outsides : ℕ → Option ℕ) (v : Option ℕ) (items : List (Item ℕ)) (n : ℕ) (agenda : List (ℕ × ℕ)) → length items ≤ n →
    Adds outsides (IsToldFrom product insides v (holes_in (drop n items))) (length (holes_in (drop n items))) agenda agenda
items_end product insides outsides v items n agenda h =
    told_last outsides product insides v (holes_in (drop n items)) agenda (ap holes_in (drop_all n items h))
