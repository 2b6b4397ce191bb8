-- The least costs of runs, looked up and put together.
use Rattle.std.specs.Prelude.{◌≡◌, ℕ, ◌+◌, ◌-◌, ◌<◌, ◌≤◌, ◌&&◌, nat_eq, List, [], ◌∷◌, length, map, drop, Bool, true, false, cond, refl, Option, Some, if◌then◌else◌}
use Rattle.std.specs.HashMap.{get}
use Rattle.std.proofs.Common.{zero, suc, arith, ap, sym, ◌∙◌, subst, get_or, inl, inr, add-one}
use Rattle.tib_lex.proofs.Numbers.{nat_eq_cases}
use Rattle.tib_grammar.specs.Sides.{label, holes, is_label}
use Rattle.tib_grammar.specs.Run.{rule_at}
use Rattle.tib_grammar.specs.Range.{AreInRange}
use Rattle.tib_grammar.specs.declared.Rule.{Rule}
use Rattle.tib_grammar.proofs.Best.{fits}
use Rattle.tib_cost.specs.Semiring.{ProductLaws}
use Rattle.tib_cost.specs.Least.{IsLeast, times, lesser}
use Rattle.tib_cost.proofs.Least.{IsLeast-products, IsLeast-one}
use Rattle.tib_inside.specs.Inside.{AreInsides}
use Rattle.tib_transducer.specs.declared.Variable.{Variable}
use Rattle.tib_apply.specs.Forward.{IsAskedCost, IsDeletedCost}
use Rattle.tib_apply.specs.ForwardPlans.{asked_at}
use Rattle.tib_apply.specs.LeastRuns.{same_start, inside_total, begun_by, AreLeastRuns}
use Rattle.tib_apply.specs.declared.deleting.LeastRuns.{LeastRuns}
use Rattle.tib_apply.proofs.DeletedCosts.{inside_is, asked_is}

drop_at : {A : Type 0} (xs : List A) (j : ℕ) (d : A) → j < length xs → drop j xs ≡ get_or xs j d ∷ drop (suc j) xs
drop_at [] j d h = absurd (omega arith)
drop_at (x ∷ xs) zero d h = refl
drop_at (x ∷ xs) (suc j) d h = drop_at xs j d (omega arith)

-- the element before a place of a list
pub drop_before : {A : Type 0} (xs : List A) (i : ℕ) (d : A) → 0 < i → i ≤ length xs → drop (i - 1) xs ≡ get_or xs (i - 1) d ∷ drop i xs
drop_before xs i d p h =
    let e : suc (i - 1) ≡ i = omega arith in
    drop_at xs (i - 1) d (omega arith) ∙ ap (λ j. get_or xs (i - 1) d ∷ drop j xs) e

-- the table with one more product
pub lowered :
    (product : ℕ → ℕ → ℕ) (insides : List (Option ℕ)) (rule : Rule ℕ) (look new : ℕ × ℕ → Option ℕ) (g cost least : ℕ) → rule.right.label ≡ label g →
    Some cost ≡ times product (Some rule.cost) (inside_total product insides (holes rule.right.kids)) → Some least ≡ lesser (look (rule.left, g)) (Some cost) →
    ((t : ℕ × ℕ) → new t ≡ cond (same_start (rule.left, g) t) (Some least) (look t)) → (q f : ℕ) →
    new (q, f) ≡ (if fits rule q f then lesser (look (q, f)) (times product (Some rule.cost) (inside_total product insides (holes rule.right.kids))) else look (q, f))
lowered product insides rule look new g cost least root costs is are q f =
    are (q, f) ∙ by (same_start (rule.left, g) (q, f)) refl ∙ ap (λ (b : Bool). if b then lesser (look (q, f)) (times product (Some rule.cost) (inside_total product insides (holes rule.right.kids))) else look (q, f)) same
  where
    same : same_start (rule.left, g) (q, f) ≡ fits rule q f
    same = ap (λ s. nat_eq rule.left q && is_label f s) (sym root)

    at : same_start (rule.left, g) (q, f) ≡ true → ◌≡◌ {A = ℕ × ℕ} (rule.left, g) (q, f)
    at e = elim (nat_eq_cases rule.left q) [
      | inl h ↦ elim (nat_eq_cases g f) [
        | inl k ↦ ap (λ x. (x, g)) h.0 ∙ ap (λ y. (q, y)) k.0
        | inr k ↦ absurd (no_two (nat_eq rule.left q) (nat_eq g f) k.1 e)
      ]
      | inr h ↦ absurd (no_one (nat_eq rule.left q) (nat_eq g f) h.1 e)
    ]
      where
        no_one : (a b : Bool) → a ≡ false → (a && b) ≡ true → ⊥
        no_one true b e h = cc
        no_one false b e h = cc

        no_two : (a b : Bool) → b ≡ false → (a && b) ≡ true → ⊥
        no_two true true e h = cc
        no_two true false e h = cc
        no_two false b e h = cc

    by :
        (b : Bool) → same_start (rule.left, g) (q, f) ≡ b →
        cond b (Some least) (look (q, f)) ≡ (if b then lesser (look (q, f)) (times product (Some rule.cost) (inside_total product insides (holes rule.right.kids))) else look (q, f))
    by true e = is ∙ ap (λ (c : Option ℕ). lesser (look (rule.left, g)) c) costs ∙ ap (λ (s : ℕ × ℕ). lesser (look s) (times product (Some rule.cost) (inside_total product insides (holes rule.right.kids)))) (at e)
    by false e = refl

-- one more rule
pub begun_next :
    (product : ℕ → ℕ → ℕ) (insides : List (Option ℕ)) (rules : List (Rule ℕ)) (n : ℕ) (rule : Rule ℕ) → rule ≡ rule_at rules n → (look new : ℕ × ℕ → Option ℕ) →
    ((q f : ℕ) → look (q, f) ≡ begun_by product insides rules n q f) →
    ((q f : ℕ) → new (q, f) ≡ (if fits rule q f then lesser (look (q, f)) (times product (Some rule.cost) (inside_total product insides (holes rule.right.kids))) else look (q, f))) →
    (q f : ℕ) → new (q, f) ≡ begun_by product insides rules (n + 1) q f
begun_next product insides rules n rule at look new before made q f =
    made q f
    ∙ ap (λ r. if fits r q f then lesser (look (q, f)) (times product (Some r.cost) (inside_total product insides (holes r.right.kids))) else look (q, f)) at
    ∙ ap
    (λ (o : Option ℕ). if fits (rule_at rules n) q f then lesser o (times product (Some (rule_at rules n).cost) (inside_total product insides (holes (rule_at rules n).right.kids))) else o)
    (before q f)
    ∙ ap (λ m. begun_by product insides rules m q f) (sym (add-one n))

module _ {levelled weighted : Bool} {product : ℕ → ℕ → ℕ} (laws : ProductLaws levelled weighted product) where
  -- the tables of a grammar
  pub least_runs :
      (rules : List (Rule ℕ)) (runs : LeastRuns) → AreInRange (length runs.insides.items) rules → AreInsides product rules runs.insides.items →
      ((q f : ℕ) → get same_start runs.begun (q, f) ≡ begun_by product runs.insides.items rules (length rules) q f) → AreLeastRuns product rules runs
  least_runs rules runs range insides begun = record {
    insides = λ q. inside_is laws rules runs.insides.items range insides q;
    begun = λ q f. subst (IsLeast (IsAskedCost product rules (Some f) q)) (sym (begun q f)) (asked_is laws rules runs.insides.items range insides (Some f) q);
  }

  -- one more variable
  pub total_next :
      (rules : List (Rule ℕ)) (ss : List ℕ) (xs : List Variable) (i : ℕ) (d : Variable) (own total now : Option ℕ) → 0 < i → i ≤ length xs →
      IsLeast (IsAskedCost product rules (get_or xs (i - 1) d).label (get_or ss (get_or xs (i - 1) d).number 0)) own → IsLeast (IsDeletedCost product rules (map (asked_at ss) (drop i xs))) total →
      now ≡ times product own total → IsLeast (IsDeletedCost product rules (map (asked_at ss) (drop (i - 1) xs))) now
  total_next rules ss xs i d own total now p h o t e =
      subst (λ ys. IsLeast (IsDeletedCost product rules (map (asked_at ss) ys)) now) (sym (drop_before xs i d p h))
      (subst (IsLeast (IsDeletedCost product rules (map (asked_at ss) (get_or xs (i - 1) d ∷ drop i xs)))) (sym e) (IsLeast-products laws o t))

  -- no variable
  pub total_first : (rules : List (Rule ℕ)) (ss : List ℕ) (xs : List Variable) (i : ℕ) (total : Option ℕ) → length xs ≤ i → total ≡ Some 0 → IsLeast (IsDeletedCost product rules (map (asked_at ss) (drop i xs))) total
  total_first rules ss xs i total h e =
      subst (λ ys. IsLeast (IsDeletedCost product rules (map (asked_at ss) ys)) total) (sym (none_left xs i h)) (subst (IsLeast (λ n. n ≡ 0)) (sym e) (IsLeast-one 0))
    where
      none_left : {A : Type 0} (ys : List A) (i : ℕ) → length ys ≤ i → drop i ys ≡ []
      none_left [] zero h = refl
      none_left [] (suc i) h = refl
      none_left (y ∷ ys) zero h = absurd (omega arith)
      none_left (y ∷ ys) (suc i) h = none_left ys i (omega arith)
