-- The steps of settling.
use Rattle.std.specs.Prelude.{◌≡◌, ◌⊎◌, ℕ, ◌<◌, ◌≤◌, List, [], ◌∷◌, length, Bool, Option, None, Some, Contains, refl}
use Rattle.std.proofs.Common.{zero, suc, arith, ap, sym, ◌∙◌, subst, inl, inr, get_or, le_refl}
use Rattle.tib_tree.specs.Trees.{none}
use Rattle.tib_grammar.specs.Sides.{holes_of}
use Rattle.tib_grammar.specs.Run.{rule_at}
use Rattle.tib_grammar.specs.declared.Rule.{Rule}
use Rattle.tib_cost.specs.Semiring.{ProductLaws, most}
use Rattle.tib_cost.specs.Least.{times}
use Rattle.tib_inside.specs.Inside.{IsInside, total}
use Rattle.tib_normal.specs.Entries.{TakesLeast}
use Rattle.tib_inside.specs.Settling.{HasOrWaits}
use Rattle.tib_prune.specs.Contexts.{gap}
use Rattle.tib_prune.specs.Outside.{IsContextCost, IsOutside}
use Rattle.tib_prune.specs.Settling.{without, told, AreSettling, Settles, IsTold, Tells}
use Rattle.tib_prune.proofs.Crossing.{told_context, popped}

apart : (p q : ℕ) → (p ≡ q) ⊎ (p ≡ q → ⊥)
apart p q = grind arith

some_same : (a b : ℕ) → Some a ≡ Some b → a ≡ b
some_same a b e = cc

one_entry : (e x : ℕ × ℕ) → Contains (e ∷ []) x → x ≡ e
one_entry e x h = by h.0 h.1 h.2
  where
    by : (i : ℕ) → i < length (e ∷ []) → get_or (e ∷ []) i x ≡ x → x ≡ e
    by zero b k = sym k
    by (suc i) b k = absurd (omega arith)

module _ (product : ℕ → ℕ → ℕ) (rules : List (Rule ℕ)) (insides : ℕ → Option ℕ) where
  -- at first no state has a cost, and 0 waits for the start
  pub begins : AreSettling product rules insides (λ _. None) ((0, 0) ∷ [])
  begins = record {
    exact = λ q d e. absurd (cc);
    contexts = λ e h.
        let s : e ≡ (0, 0) = one_entry (0, 0) e h in
        subst (λ (x : ℕ × ℕ). IsContextCost product rules x.1 x.0) (sym s) (record { context = gap none; are_runs = (refl, tt); costs = refl });
    within = λ e h. let s : e ≡ (0, 0) = one_entry (0, 0) e h in subst (λ (x : ℕ × ℕ). x.0 ≤ most) (sym s) (omega arith);
    start = inr (record { cost = 0; held = (0, omega arith, refl); small = le_refl 0 });
    told_all = λ n i c h k e. absurd (cc);
  }

  -- what had a cost or waited still does once the least entry is taken, where its state has a cost
  carried :
      (old new : ℕ → Option ℕ) (entries rest after : List (ℕ × ℕ)) (e : ℕ × ℕ) (d : ℕ) → TakesLeast entries e rest → ((q c : ℕ) → old q ≡ Some c → (b : ℕ) × (new q ≡ Some b)) →
      new e.1 ≡ Some d → ((x : ℕ × ℕ) → Contains rest x → Contains after x) → (q c : ℕ) → HasOrWaits old entries q c → HasOrWaits new after q c
  carried old new entries rest after e d t still here kept q c (inl s) = inl (still q s.0 s.1)
  carried old new entries rest after e d t still here kept q c (inr w) = elim (t.kept (w.cost, q) w.held) [
    | inl same ↦ inl (d, ap (λ (x : ℕ × ℕ). new x.1) same ∙ here)
    | inr k ↦ inr (record { cost = w.cost; held = kept (w.cost, q) k; small = w.small })
  ]

  -- an entry whose state has its cost is dropped
  pub dropped :
      (outsides : ℕ → Option ℕ) (entries rest : List (ℕ × ℕ)) (e : ℕ × ℕ) (d : ℕ) → AreSettling product rules insides outsides entries → TakesLeast entries e rest →
      outsides e.1 ≡ Some d → AreSettling product rules insides outsides rest
  dropped outsides entries rest e d s t here = record {
    exact = s.exact;
    contexts = λ x h. s.contexts x (t.only x h);
    within = λ x h. s.within x (t.only x h);
    start = carried outsides outsides entries rest rest e d t (λ q c k. (c, k)) here (λ x h. h) 0 0 s.start;
    told_all = λ n i c h k l.
        carried outsides outsides entries rest rest e d t (λ q b m. (b, m)) here (λ x m. m) (get_or (holes_of (rule_at rules n).right) i 0) c (s.told_all n i c h k l);
  }

module _
    {levelled weighted : Bool} {product : ℕ → ℕ → ℕ} (laws : ProductLaws levelled weighted product) (rules : List (Rule ℕ)) (insides : ℕ → Option ℕ)
    (are_insides : (q : ℕ) → IsInside product rules q (insides q)) where
  -- the state of the least entry gets its cost, and its rules tell theirs
  pub goes_on :
      (old new : ℕ → Option ℕ) (entries rest after : List (ℕ × ℕ)) (e : ℕ × ℕ) → AreSettling product rules insides old entries → TakesLeast entries e rest → old e.1 ≡ None →
      Settles old new e.1 e.0 → Tells product rules insides new e.1 rest after → AreSettling product rules insides new after
  goes_on old new entries rest after e s t unknown settles tells = record {
    exact = exact;
    contexts = λ x h. elim (tells.only x h) [ inl k ↦ s.contexts x (t.only x k) | inr k ↦ (told_is x k).0 ];
    within = λ x h. elim (tells.only x h) [ inl k ↦ s.within x (t.only x k) | inr k ↦ (told_is x k).1 ];
    start = carried product rules insides old new entries rest after e e.0 t still settles.here tells.kept 0 0 s.start;
    told_all = λ n i c h k l. elim (apart (rule_at rules n).left e.1) [
      | inl m ↦ tells.all (c, get_or (holes_of (rule_at rules n).right) i 0) (record { rule = n; place = i; position = h; left = m; within = k; state = refl; cost = l })
      | inr m ↦
          let same : told product insides new (rule_at rules n) i ≡ told product insides old (rule_at rules n) i =
          ap (λ v. times product v (times product (Some (rule_at rules n).cost) (total product insides (without i (holes_of (rule_at rules n).right))))) (settles.others (rule_at rules n).left m)
          in
          carried product rules insides old new entries rest after e e.0 t still settles.here tells.kept (get_or (holes_of (rule_at rules n).right) i 0) c (s.told_all n i c h k (sym same ∙ l))
    ];
  }
    where
      exact : (q d : ℕ) → new q ≡ Some d → IsOutside product rules q (Some d)
      exact q d k = elim (apart q e.1) [
        | inl same ↦
            let cost_is : e.0 ≡ d = some_same e.0 d (sym settles.here ∙ ap new (sym same) ∙ k) in
            subst (λ p. IsOutside product rules p (Some d)) (sym same) (subst (λ c. IsOutside product rules e.1 (Some c)) cost_is (popped laws rules insides are_insides old entries s e rest t unknown))
        | inr other ↦ s.exact q d (sym (settles.others q other) ∙ k)
      ]

      still : (q c : ℕ) → old q ≡ Some c → (b : ℕ) × (new q ≡ Some b)
      still q c k = elim (apart q e.1) [
        | inl same ↦ (e.0, ap new same ∙ settles.here)
        | inr other ↦ (c, settles.others q other ∙ k)
      ]

      told_is : (x : ℕ × ℕ) → IsTold product rules insides new e.1 x → IsContextCost product rules x.1 x.0 × (x.0 ≤ most)
      told_is x k = subst (λ q. IsContextCost product rules q x.0 × (x.0 ≤ most)) k.state (told_context laws rules insides are_insides new exact k.rule k.place x.0 k.position k.within k.cost)
