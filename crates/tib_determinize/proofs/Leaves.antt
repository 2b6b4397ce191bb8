-- The step of a label over vectors, by the rules that are alive at all places.
use Rattle.std.specs.Prelude.{◌≡◌, ℕ, ◌<◌, ◌≤◌, nat_le, Bool, true, false, List, [], ◌∷◌, length, Option, None, Some, refl}
use Rattle.std.proofs.Common.{suc, arith, ap, sym, ◌∙◌, subst, inl, inr}
use Rattle.tib_lex.specs.Lists.{Has, Each, Along}
use Rattle.tib_grammar.specs.Sides.{label}
use Rattle.tib_grammar.specs.Run.{rule_at}
use Rattle.tib_grammar.specs.declared.Rule.{Rule}
use Rattle.tib_normal.specs.Rules.{positions_with}
use Rattle.tib_cost.specs.Semiring.{most, cut, ProductLaws}
use Rattle.tib_lex.proofs.Members.{each_has, each_of}
use Rattle.tib_lex.proofs.Alongs.{along_of}
use Rattle.tib_lex.proofs.Lists.{some_same}
use Rattle.tib_determinize.specs.declared.alive.Alive.{Alive}
use Rattle.tib_determinize.specs.Vectors.{VectorOf, Rises, IsWeight, IsStepCost, IsStep, vectors_at}
use Rattle.tib_determinize.specs.Settling.{IsOver, AreResiduals}
use Rattle.tib_determinize.specs.Alive.{states_of, at_cost, cost_with, with_cost, costs_of, IsAlive, AreAlive}
use Rattle.tib_determinize.specs.ListLemmas.{along_back}
use Rattle.tib_determinize.specs.VectorLemmas.{one_residual}
use Rattle.tib_grammar.specs.Forms.{AreNormal}
use Rattle.tib_grammar.proofs.Sides.{length-holes}
use Rattle.tib_normal.proofs.RulePlaces.{place_has}

-- what is cut is the number, within the greatest cost
pub cut_is : (n u : ℕ) → cut n ≡ Some u → (n ≡ u) × (u ≤ most)
cut_is n u e = by (nat_le n most) refl
  where
    le_is : (a b : ℕ) → nat_le a b ≡ true → a ≤ b
    le_is a b h = grind (arith, h)

    by : (b : Bool) → nat_le n most ≡ b → (n ≡ u) × (u ≤ most)
    by true h = let k : n ≡ u = some_same n u (rw h at e) in (k, subst (λ m. m ≤ most) k (le_is n most h))
    by false h = absurd (let k = rw h at e in cc)

-- a number within the greatest cost is not cut
pub cut_within : (n : ℕ) → n ≤ most → cut n ≡ Some n
cut_within n h = by (nat_le n most) refl
  where
    is_le : (a b : ℕ) → a ≤ b → nat_le a b ≡ true
    is_le a b h = grind (arith, h)

    by : (b : Bool) → nat_le n most ≡ b → cut n ≡ Some n
    by true k = rw k refl
    by false k = absurd (let t = is_le n most h in let f : true ≡ false = sym t ∙ k in cc)

along_rises : (product : ℕ → ℕ → ℕ) (m : ℕ) (xs ys : List (ℕ × ℕ)) → Along (IsOver product m) xs ys → Rises xs → Rises ys
along_rises product m [] [] a r = tt
along_rises product m [] (y ∷ ys) a r = absurd a
along_rises product m (x ∷ xs) [] a r = absurd a
along_rises product m (x ∷ xs) (y ∷ ys) a r = (
  each_of (λ (z : ℕ × ℕ). y.0 < z.0) ys (λ z h.
      let b = along_back (IsOver product m) xs ys z a.1 h in
      let less : x.0 < b.0.0 = each_has (λ (w : ℕ × ℕ). x.0 < w.0) xs b.0 r.0 b.2 in
      let one = a.0.0 in
      let two = b.1.0 in
      omega (arith, less, one, two)),
  along_rises product m xs ys a.1 r.1,
)

module _ (product : ℕ → ℕ → ℕ) {levelled weighted : Bool} (laws : ProductLaws levelled weighted product) (rules : List (Rule ℕ)) (f : ℕ) (vs : List VectorOf) where
  -- the costs are all those of the label over the vectors
  pub record AreCosts (costs : List (ℕ × ℕ)) : Type 0 where
    pub sound : (q u : ℕ) → Has {A = ℕ × ℕ} costs (q, u) → IsStepCost product rules f vs q u × (u ≤ most)
    pub whole : (q u : ℕ) → IsStepCost product rules f vs q u → u ≤ most → Has {A = ℕ × ℕ} costs (q, u)

  -- their least and their residuals are the step
  pub step_of : (costs : List (ℕ × ℕ)) (m : ℕ) (v : List (ℕ × ℕ)) → AreCosts costs → AreResiduals product costs m v → IsStep product rules f vs m v
  step_of costs m v c r = record {
    least = record {
      attained = (let s = c.sound r.least.0.0 m r.least.0.1 in ((r.least.0.0, s.0), s.1));
      lower = λ n is low. each_has (λ (x : ℕ × ℕ). m ≤ x.1) costs (is.0, n) r.least.1 (c.whole is.0 n is.1 low);
    };
    rises = along_rises product m r.kept v r.over r.are_least.rises;
    residuals = λ q s h.
        let b = along_back (IsOver product m) r.kept v (q, s) r.over h in
        let u : ℕ = b.0.1 in
        let has : Has {A = ℕ × ℕ} r.kept (q, u) = subst (λ p. Has {A = ℕ × ℕ} r.kept (p, u)) b.1.0 b.2 in
        let sound = c.sound q u (r.are_least.sound (q, u) has) in
        (u, record { attained = sound; lower = λ n is low. lesser q u n has (r.are_least.whole (q, n) (c.whole q n is low)) }, b.1.1);
    others = λ q absent. record {
      attained = tt;
      lower = λ n is low.
          let w = r.are_least.whole (q, n) (c.whole q n is low) in
          let p = along_of (IsOver product m) r.kept v (q, w.0) r.over w.1 in
          absent p.0.1 (subst (λ a. Has {A = ℕ × ℕ} v (a, p.0.1)) (sym p.1.0) p.2);
    };
  }
    where
      lesser : (q u n : ℕ) → Has {A = ℕ × ℕ} r.kept (q, u) → ((w : ℕ) × Has {A = ℕ × ℕ} r.kept (q, w) × (w ≤ n)) → u ≤ n
      lesser q u n h w = let same = one_residual r.kept q u w.0 r.are_least.rises h w.1 in let low = w.2 in omega (arith, same, low)

  -- without costs there is no step
  pub nothing_of : (costs : List (ℕ × ℕ)) → AreCosts costs → costs ≡ [] → (q u : ℕ) → IsStepCost product rules f vs q u → u ≤ most → ⊥
  nothing_of costs c e q u is low = subst (λ (xs : List (ℕ × ℕ)). Has xs (q, u)) e (c.whole q u is low)

  -- a weight is of as many states as vectors
  pub weights_long : (qs : List ℕ) (ws : List VectorOf) (w : ℕ) → IsWeight product qs ws w → length qs ≡ length ws
  weights_long [] [] w h = refl
  weights_long [] (v ∷ ws) w h = absurd h
  weights_long (q ∷ qs) [] w h = absurd h
  weights_long (q ∷ qs) (v ∷ ws) w h = ap suc (weights_long qs ws h.others h.are)

module _ (product : ℕ → ℕ → ℕ) {levelled weighted : Bool} (laws : ProductLaws levelled weighted product) (rules : List (Rule ℕ)) (normal : AreNormal rules) (order : List VectorOf) (f k : ℕ) where
  -- a rule of the label and the rank is listed
  pub rule_listed : (m : ℕ) → m < length rules → (rule_at rules m).right.label ≡ label f → length (states_of rules m) ≡ k → Has (positions_with f k rules) m
  rule_listed m low root long =
      place_has rules f k m (record { below = low; root = root; many = sym (length-holes (rule_at rules m).right.kids (normal m low).are_holes) ∙ long })

  -- a part of a product is within the greatest cost, where the product is
  pub part_within : (a w u : ℕ) → product a w ≡ u → u ≤ most → w ≤ most
  part_within a w u e low = let l = laws.at_least w a in let c = laws.commutes w a in omega (arith, l, c, e, low)

  module _ (ps : List ℕ) where
    cost_at : (a : Alive) → IsAlive product rules order f k 0 ps a → (q u : ℕ) → cost_with product rules a ≡ Some (q, u) → IsStepCost product rules f (vectors_at order ps) q u × (u ≤ most)
    cost_at a h q u e = by (cut (product (rule_at rules a.rule).cost a.weight)) refl
      where
        by :
            (o : Option ℕ) → cut (product (rule_at rules a.rule).cost a.weight) ≡ o →
            IsStepCost product rules f (vectors_at order ps) q u × (u ≤ most)
        by None c = absurd (let n : at_cost (rule_at rules a.rule).left None ≡ Some (q, u) = subst (λ o. at_cost (rule_at rules a.rule).left o ≡ Some (q, u)) c e in cc)
        by (Some v) c =
            let n : at_cost (rule_at rules a.rule).left (Some v) ≡ Some (q, u) = subst (λ o. at_cost (rule_at rules a.rule).left o ≡ Some (q, u)) c e in
            let pair : ◌≡◌ {A = ℕ × ℕ} ((rule_at rules a.rule).left, v) (q, u) = some_same ((rule_at rules a.rule).left, v) (q, u) n in
            let cost : v ≡ u = ap (λ (z : ℕ × ℕ). z.1) pair in
            let is = cut_is (product (rule_at rules a.rule).cost a.weight) v c in (
              record {
                rule = a.rule;
                below = h.below;
                left = ap (λ (z : ℕ × ℕ). z.0) pair;
                root = h.root;
                weight = a.weight;
                is_weight = h.weighs;
                costs = is.0 ∙ cost;
              },
              subst (λ n. n ≤ most) cost is.1,
            )

    costs_sound : (alive : List Alive) → Each (IsAlive product rules order f k 0 ps) alive → (q u : ℕ) → Has {A = ℕ × ℕ} (costs_of product rules alive) (q, u) → IsStepCost product rules f (vectors_at order ps) q u × (u ≤ most)
    costs_sound [] h q u has = absurd has
    costs_sound (a ∷ alive) h q u has = by (costs_sound alive h.1 q u) (cost_with product rules a) refl has
      where
        by :
            (Has {A = ℕ × ℕ} (costs_of product rules alive) (q, u) → IsStepCost product rules f (vectors_at order ps) q u × (u ≤ most)) → (o : Option (ℕ × ℕ)) → cost_with product rules a ≡ o →
            Has {A = ℕ × ℕ} (with_cost o (costs_of product rules alive)) (q, u) → IsStepCost product rules f (vectors_at order ps) q u × (u ≤ most)
        by others None e n = others n
        by others (Some x) e n = elim n [ inl s ↦ cost_at a h.0 q u (e ∙ ap Some s) | inr r ↦ others r ]

    costs_whole : (alive : List Alive) (a : Alive) → Has alive a → (x : ℕ × ℕ) → cost_with product rules a ≡ Some x → Has (costs_of product rules alive) x
    costs_whole [] a h x e = absurd h
    costs_whole (b ∷ alive) a h x e = elim h [
      | inl s ↦ by_own (cost_with product rules b) (ap (cost_with product rules) s ∙ e)
      | inr r ↦ by_other (cost_with product rules b) (costs_whole alive a r x e)
    ]
      where
        by_own : (o : Option (ℕ × ℕ)) → o ≡ Some x → Has (with_cost o (costs_of product rules alive)) x
        by_own None c = absurd (cc)
        by_own (Some y) c = inl (some_same y x c)

        by_other : (o : Option (ℕ × ℕ)) → Has (costs_of product rules alive) x → Has (with_cost o (costs_of product rules alive)) x
        by_other None r = r
        by_other (Some y) r = inr r

    -- the costs of the rules that are alive at all places are those of the label
    pub costs_are : (alive : List Alive) → length ps ≡ k → AreAlive product rules order f k 0 ps alive → AreCosts product laws rules f (vectors_at order ps) (costs_of product rules alive)
    costs_are alive long h = record {
      sound = costs_sound alive h.sound;
      whole = λ q u is low.
          let within = part_within (rule_at rules is.rule).cost is.weight u is.costs low in
          let states : length (states_of rules is.rule) ≡ k = weights_long product laws rules f (vectors_at order ps) (states_of rules is.rule) (vectors_at order ps) is.weight is.is_weight ∙ mapped ps ∙ long in
          costs_whole alive (record { rule = is.rule; weight = is.weight }) (h.whole is.rule is.weight (rule_listed is.rule is.below is.root states) is.is_weight within) (q, u)
          (ap (at_cost (rule_at rules is.rule).left) (ap cut is.costs ∙ cut_within u low) ∙ ap (λ p. Some (p, u)) is.left);
    }
      where
        mapped : (xs : List ℕ) → length (vectors_at order xs) ≡ length xs
        mapped [] = refl
        mapped (x ∷ xs) = ap suc (mapped xs)
