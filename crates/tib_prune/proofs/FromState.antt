-- The rules of one state, and what they tell.
use Rattle.std.specs.Prelude.{◌≡◌, ℕ, ◌+◌, ◌<◌, ◌≤◌, List, [], ◌∷◌, length, filter, nat_eq, Bool, true, false, cond, Option, Some, refl}
use Rattle.std.proofs.Common.{arith, ap, sym, ◌∙◌, subst, inl, inr, get_or}
use Rattle.std.proofs.lemmas.List.Sums.{sum_by-cons}
use Rattle.tib_lex.specs.Lists.{Has}
use Rattle.tib_lex.proofs.Booleans.{bool_cases}
use Rattle.tib_lex.proofs.Numbers.{nat_eq_cases}
use Rattle.tib_grammar.specs.Sides.{holes_of}
use Rattle.tib_grammar.specs.Run.{rule_at, no_rule}
use Rattle.tib_grammar.specs.Range.{IsInRange, AreInRange}
use Rattle.tib_grammar.specs.Forms.{IsNormalSide, AreNormal}
use Rattle.tib_grammar.specs.declared.Rule.{Rule}
use Rattle.tib_grammar.proofs.Members.{has_at, at_has}
use Rattle.tib_cost.specs.Semiring.{ProductLaws}
use Rattle.tib_cost.specs.Least.{times}
use Rattle.tib_cost.proofs.Times.{times_regroups}
use Rattle.tib_inside.specs.Inside.{total}
use Rattle.tib_normal.specs.Rules.{rules_from}
use Rattle.tib_prune.specs.Settling.{without, told, Tells, IsTold}
use Rattle.tib_prune.specs.Telling.{IsToldFrom, IsToldBy, places_of, Adds}
use Rattle.tib_prune.proofs.Told.{told_at, at_told}

-- what is in a list and passes a test
has_filtered : {A : Type 0} (test : A → Bool) (xs : List A) (x : A) → Has xs x → test x ≡ true → Has (filter test xs) x
has_filtered test [] x h t = absurd h
has_filtered test (y ∷ xs) x h t = elim (bool_cases (test y)) [
  | inl s ↦ subst (λ b. Has (cond b (y ∷ filter test xs) (filter test xs)) x) (sym s) (elim h [ inl e ↦ inl e | inr k ↦ inr (has_filtered test xs x k t) ])
  | inr s ↦ subst (λ b. Has (cond b (y ∷ filter test xs) (filter test xs)) x) (sym s) (elim h [
    | inl e ↦ let bad : true ≡ false = sym t ∙ ap test (sym e) ∙ s in absurd (cc bad)
    | inr k ↦ has_filtered test xs x k t
  ])
]

filtered_has : {A : Type 0} (test : A → Bool) (xs : List A) (x : A) → Has (filter test xs) x → Has xs x × (test x ≡ true)
filtered_has test [] x h = absurd h
filtered_has test (y ∷ xs) x h = elim (bool_cases (test y)) [
  | inl s ↦ elim (subst (λ b. Has (cond b (y ∷ filter test xs) (filter test xs)) x) s h) [
    | inl e ↦ (inl e, ap test (sym e) ∙ s)
    | inr k ↦ let r = filtered_has test xs x k in (inr r.0, r.1)
  ]
  | inr s ↦ let r = filtered_has test xs x (subst (λ b. Has (cond b (y ∷ filter test xs) (filter test xs)) x) s h) in (inr r.0, r.1)
]

nat_eq_is : (a b : ℕ) → nat_eq a b ≡ true → a ≡ b
nat_eq_is a b e = elim (nat_eq_cases a b) [ inl k ↦ k.0 | inr k ↦ let bad : true ≡ false = sym e ∙ k.1 in absurd (cc bad) ]

nat_eq_of : (a b : ℕ) → a ≡ b → nat_eq a b ≡ true
nat_eq_of a b e = elim (nat_eq_cases a b) [ inl k ↦ k.1 | inr k ↦ absurd (k.0 e) ]

-- a rule of the state is one of the rules
pub record IsOf (rules : List (Rule ℕ)) (q : ℕ) (r : Rule ℕ) : Type 0 where
  pub position : ℕ
  pub below : position < length rules
  pub here : rule_at rules position ≡ r
  pub left : r.left ≡ q

-- what is among the rules of a state is one of the rules
pub is_of : (rules : List (Rule ℕ)) (q : ℕ) (r : Rule ℕ) → Has (rules_from q rules) r → IsOf rules q r
is_of rules q r h =
    let f = filtered_has (λ (s : Rule ℕ). nat_eq s.left q) rules r h in
    let at = at_has rules r no_rule f.0 in
    record { position = at.0; below = at.1; here = at.2; left = nat_eq_is r.left q f.1 }

rule_of : (rules : List (Rule ℕ)) (q m : ℕ) → m < length (rules_from q rules) → IsOf rules q (rule_at (rules_from q rules) m)
rule_of rules q m h = is_of rules q (rule_at (rules_from q rules) m) (has_at (rules_from q rules) m no_rule h)

-- they are in normal form where all rules are
pub normal_from : (rules some : List (Rule ℕ)) (q : ℕ) → some ≡ rules_from q rules → AreNormal rules → AreNormal some
normal_from rules some q e a = subst AreNormal (sym e) (λ m h. let o = rule_of rules q m h in subst (λ (r : Rule ℕ). IsNormalSide r.right) o.here (a o.position o.below))

-- and in range
pub range_from : (n : ℕ) (rules some : List (Rule ℕ)) (q : ℕ) → some ≡ rules_from q rules → AreInRange n rules → AreInRange n some
range_from n rules some q e a = subst (AreInRange n) (sym e) (λ m h. let o = rule_of rules q m h in subst (IsInRange n) o.here (a o.position o.below))

-- they have no more places than all rules
pub places_less : (q : ℕ) (rules : List (Rule ℕ)) → places_of (rules_from q rules) ≤ places_of rules
places_less q [] = omega arith
places_less q (r ∷ rules) = elim (bool_cases (nat_eq r.left q)) [
  | inl s ↦ subst (λ b. places_of (cond b (r ∷ rules_from q rules) (rules_from q rules)) ≤ places_of (r ∷ rules)) (sym s)
      (omega (arith, places_less q rules, sum_by-cons (λ (s : Rule ℕ). length (holes_of s.right)) r rules, sum_by-cons (λ (s : Rule ℕ). length (holes_of s.right)) r (rules_from q rules)))
  | inr s ↦ subst (λ b. places_of (cond b (r ∷ rules_from q rules) (rules_from q rules)) ≤ places_of (r ∷ rules)) (sym s)
      (omega (arith, places_less q rules, sum_by-cons (λ (s : Rule ℕ). length (holes_of s.right)) r rules))
]

-- the rule that tells an entry
by_rule : (product : ℕ → ℕ → ℕ) (costs : ℕ → Option ℕ) (d : ℕ) (rules : List (Rule ℕ)) (e : ℕ × ℕ) → IsToldBy product costs d rules e →
    (r : Rule ℕ) × Has rules r × IsToldFrom product costs (times product (Some d) (Some r.cost)) (holes_of r.right) e
by_rule product costs d [] e h = absurd h
by_rule product costs d (r ∷ rules) e (inl h) = (r, inl refl, h)
by_rule product costs d (r ∷ rules) e (inr h) = let s = by_rule product costs d rules e h in (s.0, inr s.1, s.2)

rule_tells : (product : ℕ → ℕ → ℕ) (costs : ℕ → Option ℕ) (d : ℕ) (rules : List (Rule ℕ)) (e : ℕ × ℕ) (r : Rule ℕ) → Has rules r →
    IsToldFrom product costs (times product (Some d) (Some r.cost)) (holes_of r.right) e → IsToldBy product costs d rules e
rule_tells product costs d [] e r h t = absurd h
rule_tells product costs d (s ∷ rules) e r (inl k) t = inl (subst (λ (x : Rule ℕ). IsToldFrom product costs (times product (Some d) (Some x.cost)) (holes_of x.right) e) (sym k) t)
rule_tells product costs d (s ∷ rules) e r (inr k) t = inr (rule_tells product costs d rules e r k t)

module _
    {levelled weighted : Bool} {product : ℕ → ℕ → ℕ} (laws : ProductLaws levelled weighted product) (rules : List (Rule ℕ)) (insides outsides : ℕ → Option ℕ) (q d : ℕ)
    (known : outsides q ≡ Some d) where
  -- the cost that is told is the product of three
  whole_cost : (r : Rule ℕ) (i : ℕ) → r.left ≡ q → times product (times product (Some d) (Some r.cost)) (total product insides (without i (holes_of r.right))) ≡ told product insides outsides r i
  whole_cost r i left =
      times_regroups laws (Some d) (Some r.cost) (total product insides (without i (holes_of r.right)))
      ∙ ap (λ v. times product v (times product (Some r.cost) (total product insides (without i (holes_of r.right))))) (sym (ap outsides left ∙ known))

  told_is : (e : ℕ × ℕ) → IsToldBy product insides d (rules_from q rules) e → IsTold product rules insides outsides q e
  told_is e h =
      let s = by_rule product insides d (rules_from q rules) e h in
      let o = is_of rules q s.0 s.1 in
      let t = told_at laws insides (times product (Some d) (Some s.0.cost)) (holes_of s.0.right) e s.2 in
      record {
        rule = o.position;
        place = t.place;
        position = o.below;
        left = ap (λ (r : Rule ℕ). r.left) o.here ∙ o.left;
        within = subst (λ (r : Rule ℕ). t.place < length (holes_of r.right)) (sym o.here) t.within;
        state = ap (λ (r : Rule ℕ). get_or (holes_of r.right) t.place 0) o.here ∙ t.state;
        cost = ap (λ (r : Rule ℕ). told product insides outsides r t.place) o.here ∙ sym (whole_cost s.0 t.place o.left) ∙ t.cost;
      }

  is_told : (e : ℕ × ℕ) → IsTold product rules insides outsides q e → IsToldBy product insides d (rules_from q rules) e
  is_told e t =
      rule_tells product insides d (rules_from q rules) e (rule_at rules t.rule)
      (has_filtered (λ (s : Rule ℕ). nat_eq s.left q) rules (rule_at rules t.rule) (has_at rules t.rule no_rule t.position) (nat_eq_of (rule_at rules t.rule).left q t.left))
      (at_told laws insides (times product (Some d) (Some (rule_at rules t.rule).cost)) (holes_of (rule_at rules t.rule).right) e t.place t.within t.state (whole_cost (rule_at rules t.rule) t.place t.left ∙ t.cost))

  -- what is added is what the rules of the state tell
  pub tells_of :
      (some : List (Rule ℕ)) (before after : List (ℕ × ℕ)) → some ≡ rules_from q rules → Adds outsides (IsToldBy product insides d some) (places_of some) before after →
      Tells product rules insides outsides q before after
  tells_of some before after e a = record {
    kept = a.kept;
    only = λ x h. elim (a.only x h) [ inl k ↦ inl k | inr k ↦ inr (told_is x (subst (λ rs. IsToldBy product insides d rs x) e k)) ];
    all = λ x h. a.all x (subst (λ rs. IsToldBy product insides d rs x) (sym e) (is_told x h));
  }

-- no more is added than all rules have places
pub added_few :
    (product : ℕ → ℕ → ℕ) (rules some : List (Rule ℕ)) (insides outsides : ℕ → Option ℕ) (q d : ℕ) (before after : List (ℕ × ℕ)) → some ≡ rules_from q rules →
    Adds outsides (IsToldBy product insides d some) (places_of some) before after → length after ≤ length before + places_of rules
added_few product rules some insides outsides q d before after e a = omega (arith, a.more, ap places_of e, places_less q rules)
