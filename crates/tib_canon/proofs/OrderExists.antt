-- Each grammar that can be printed has a form in canonical order: it is impossible that it has
-- none.
use Rattle.tib_cost.specs.declared.Scale.{Scale}
use Rattle.std.proofs.Common.{◌≡◌, ℕ, ◌≤◌, List, [], ◌∷◌, length, refl, ap, sym, ◌∙◌, subst, suc, inl, inr}
use Rattle.std.specs.Cmp.{IsTotalOrder}
use Rattle.std.specs.Cmp.Lexicographic.{slice_cmp}
use Rattle.std.specs.Ordering.{nat_cmp}
use Rattle.std.specs.declared.cmp.Ordering.{Ordering}
use Rattle.std.specs.declared.cmp.Ordering.TheVariants.{Less, Equal, Greater}
use Rattle.std.proofs.lemmas.Cmp.{on_total, then_total, nat_cmp_total, nat_list_cmp_total}
use Rattle.tib_lex.specs.Lists.{Has, Each, Distinct, Ascends}
use Rattle.tib_grammar.specs.GrammarOf.{GrammarOf}
use Rattle.tib_grammar.specs.StateName.{AreStateNames}
use Rattle.tib_grammar.specs.declared.Rule.{Rule}
use Rattle.tib_canon.specs.Canonical.{names_of, line_of, rule_cmp, AgreeInSides, HasSides, IsInOrder}
use Rattle.tib_canon.proofs.InOrder.{agree_back, agree_on}
use Rattle.tib_canon.proofs.Sorting.{turned, number_same, text_same}
use Rattle.tib_canon.proofs.Telling.{IsSafe, told_by_line}
use Rattle.tib_lex.proofs.Members.{each_has, each_of}
use Rattle.tib_canon.proofs.CheapestExist.{least_there}
use Rattle.tib_lex.proofs.PairOrder.{both_equal}

-- Of rules that agree in both sides one of the cheapest.

abbrev Differ : Rule ℕ → Rule ℕ → Type 0
Differ r s = AgreeInSides r s → ⊥

record AreMerged (rules merged : List (Rule ℕ)) : Type 0 where
  pub kept : (r : Rule ℕ) → Has merged r → Has rules r
  pub least : (r s : Rule ℕ) → Has merged r → Has rules s → AgreeInSides r s → r.cost ≤ s.cost
  pub whole : (r : Rule ℕ) → Has rules r → HasSides merged r
  pub apart : Ascends Differ merged

same_sides : (r s : Rule ℕ) → r ≡ s → AgreeInSides r s
same_sides r s e = record { left = ap (λ (x : Rule ℕ). x.left) e; right = ap (λ (x : Rule ℕ). x.right) e }

-- of rules that agree one of the cheapest can be listed
merged_there : (rules : List (Rule ℕ)) → ((merged : List (Rule ℕ)) → AreMerged rules merged → ⊥) → ⊥
merged_there rules k =
    least_there (λ (r : Rule ℕ). r.cost) AgreeInSides agree_back agree_on same_sides rules
    (λ merged m. k merged (record {
      kept = m.kept;
      least = m.least;
      whole = λ r h. let w = m.whole r h in record { rule = w.value; stands = w.stands; agrees = w.agrees };
      apart = m.apart;
    }))

-- Values no two of which are equal can be sorted.

module _ {A : Type 0} (cmp : A → A → Ordering) (total : IsTotalOrder cmp) where
  abbrev Before : A → A → Type 0
  Before x y = cmp x y ≡ Less

  abbrev Unequal : A → A → Type 0
  Unequal x y = cmp x y ≡ Equal → ⊥

  pub record AreSortedOf (xs ys : List A) : Type 0 where
    pub to : (x : A) → Has ys x → Has xs x
    pub from : (x : A) → Has xs x → Has ys x
    pub ascends : Ascends Before ys
    pub long : length ys ≡ length xs

  insert : (r : A) (ys : List A) → Ascends Before ys → Each (Unequal r) ys → (zs : List A) × AreSortedOf (r ∷ ys) zs
  insert r [] a u = (r ∷ [], record { to = λ x h. h; from = λ x h. h; ascends = (tt, tt); long = refl })
  insert r (y ∷ ys) a u = by (cmp r y) refl (insert r ys a.1 u.1)
    where
      by : (o : Ordering) → cmp r y ≡ o → (zs : List A) × AreSortedOf (r ∷ ys) zs → (zs : List A) × AreSortedOf (r ∷ (y ∷ ys)) zs
      by Less e more = (
        r ∷ (y ∷ ys),
        record { to = λ x h. h; from = λ x h. h; ascends = ((e, each_of (Before r) ys (λ x h. total.trans r y x e (each_has (Before y) ys x a.0 h))), a); long = refl },
      )
      by Equal e more = absurd (u.0 e)
      by Greater e more = (
        y ∷ more.0,
        record {
          to = λ x h. elim h [ inl d ↦ inr (inl d) | inr k ↦ elim (more.1.to x k) [ inl d ↦ inl d | inr l ↦ inr (inr l) ] ];
          from = λ x h. elim h [ inl d ↦ inr (more.1.from x (inl d)) | inr k ↦ elim k [ inl d ↦ inl d | inr l ↦ inr (more.1.from x (inr l)) ] ];
          ascends = (each_of (Before y) more.0 (λ x h. after x (more.1.to x h)), more.1.ascends);
          long = ap suc more.1.long;
        },
      )
        where
          first : Before y r
          first = turned (cmp y r) (sym e ∙ total.antisymm r y)

          after : (x : A) → Has (r ∷ ys) x → Before y x
          after x (inl d) = subst (Before y) d first
          after x (inr l) = each_has (Before y) ys x a.0 l

  pub sorted_there : (xs : List A) → Ascends Unequal xs → (ys : List A) × AreSortedOf xs ys
  sorted_there [] u = ([], record { to = λ x h. h; from = λ x h. h; ascends = tt; long = refl })
  sorted_there (x ∷ xs) u =
      let s = sorted_there xs u.1 in
      let t = insert x s.0 s.1.ascends (each_of (Unequal x) s.0 (λ y h. each_has (Unequal x) xs y u.0 (s.1.to y h))) in (
        t.0,
        record {
          to = λ y h. elim (t.1.to y h) [ inl e ↦ inl e | inr k ↦ inr (s.1.to y k) ];
          from = λ y h. elim h [ inl e ↦ t.1.from y (inl e) | inr k ↦ t.1.from y (inr (s.1.from y k)) ];
          ascends = t.1.ascends;
          long = t.1.long ∙ ap suc s.1.long;
        },
      )

pub ascends_within : {A : Type 0} (R T : A → A → Type 0) (xs : List A) → ((x y : A) → Has xs x → Has xs y → R x y → T x y) → Ascends R xs → Ascends T xs
ascends_within R T [] f a = tt
ascends_within R T (x ∷ xs) f a = (
  each_of (T x) xs (λ y h. f x y (inl refl) (inr h) (each_has (R x) xs y a.0 h)),
  ascends_within R T xs (λ y z h k. f y z (inr h) (inr k)) a.1,
)

module _ (scale : Scale) (labels : List (List ℕ)) (g : GrammarOf) where
  abbrev names : List (List ℕ)
  names = names_of (length g.names)

  total_rules : IsTotalOrder (rule_cmp scale names labels)
  total_rules = then_total (on_total (λ (r : Rule ℕ). r.left) nat_cmp_total) (on_total (line_of scale names labels) nat_list_cmp_total)

  -- a grammar whose rules have texts has a form in canonical order
  pub order_there :
      AreStateNames names → Distinct labels → ((r : Rule ℕ) → Has g.rules r → IsSafe names labels r) →
      ((h : GrammarOf) → IsInOrder scale labels g h → ⊥) → ⊥
  order_there are apart safe k = merged_there g.rules (λ merged m. by merged m (sorted_there (rule_cmp scale names labels) total_rules merged (unequal merged m)))
    where
      told : (merged : List (Rule ℕ)) → AreMerged g.rules merged → (r s : Rule ℕ) → Has merged r → Has merged s → Differ r s → rule_cmp scale names labels r s ≡ Equal → ⊥
      told merged m r s h l differ e =
          let both = both_equal (nat_cmp r.left s.left) (slice_cmp nat_cmp (line_of scale names labels r) (line_of scale names labels s)) e in
          let lines : line_of scale names labels r ≡ line_of scale names labels s = text_same (line_of scale names labels r) (line_of scale names labels s) both.1 in
          differ (record {
            left = number_same r.left s.left both.0;
            right = told_by_line scale names labels r s are apart (safe r (m.kept r h)) (safe s (m.kept s l)) lines;
          })

      unequal : (merged : List (Rule ℕ)) → AreMerged g.rules merged → Ascends (λ r s. rule_cmp scale names labels r s ≡ Equal → ⊥) merged
      unequal merged m = ascends_within Differ (λ r s. rule_cmp scale names labels r s ≡ Equal → ⊥) merged (told merged m) m.apart

      by : (merged : List (Rule ℕ)) → AreMerged g.rules merged → (rules : List (Rule ℕ)) × AreSortedOf (rule_cmp scale names labels) total_rules merged rules → ⊥
      by merged m s = k (record { names = names; rules = s.0 }) (record {
        names = refl;
        kept = λ r h. m.kept r (s.1.to r h);
        least = λ r t h. m.least r t (s.1.to r h);
        whole = λ r h. let w = m.whole r h in record { rule = w.rule; stands = s.1.from w.rule w.stands; agrees = w.agrees };
        ascends = s.1.ascends;
      })
