-- The cost of a run to a vector times the residual of a state is the series at that state.
use Rattle.std.specs.Prelude.{◌≡◌, ℕ, ◌≤◌, List, [], ◌∷◌, length, Bool, refl, None}
use Rattle.std.proofs.Common.{arith, ap, sym, ◌∙◌, subst, inl, inr}
use Rattle.tib_lex.specs.Lists.{Has}
use Rattle.tib_tree.specs.Trees.{Trees, Tree, none, tree, only}
use Rattle.tib_grammar.specs.Sides.{holes}
use Rattle.tib_grammar.specs.Run.{rule_at, IsCost}
use Rattle.tib_grammar.specs.Series.{IsSeriesAt}
use Rattle.tib_grammar.specs.Forms.{AreNormal}
use Rattle.tib_grammar.specs.Range.{AllBelow}
use Rattle.tib_grammar.specs.declared.Rule.{Rule}
use Rattle.tib_grammar.proofs.NormalRuns.{none_to, IsLeast-no_states, no_states}
use Rattle.tib_grammar.proofs.Best.{no_trees}
use Rattle.tib_cost.specs.Semiring.{ProductLaws, most}
use Rattle.tib_cost.proofs.Least.{IsLeast-dominated, IsLeast-one, at_least_right, grows_both}
use Rattle.tib_cost.proofs.Times.{product-zero}
use Rattle.tib_grammar.proofs.Opening.{open_cost, close_cost}
use Rattle.tib_determinize.specs.Vectors.{VectorOf, Rises, IsWeight, IsStepCost, IsStep, vectors_at, vector_at}
use Rattle.tib_determinize.specs.VectorGrammar.{IsVectorGrammar, IsRead}
use Rattle.tib_determinize.proofs.Runs.{mix, count-costs}
use Rattle.tib_determinize.specs.VectorLemmas.{stands, one_residual}

module _
    {levelled weighted : Bool} {product : ℕ → ℕ → ℕ} (laws : ProductLaws levelled weighted product)
    (rules : List (Rule ℕ)) (normal : AreNormal rules) (order : List VectorOf) (new : List (Rule ℕ))
    (vectors : IsVectorGrammar product rules order new) where
  swap : (a b c : ℕ) → product (product a b) c ≡ product (product a c) b
  swap a b c = laws.regroups a b c ∙ ap (product a) (laws.commutes b c) ∙ sym (laws.regroups a c b)

  -- the products of a run to a vector, with the step's cost m, and those of a rule w with the least
  -- cost u of its state
  regroup : (m r u w x c d y : ℕ) → product m r ≡ u → product w x ≡ u → product (product (product m c) d) (product r y) ≡ product (product w (product c x)) (product d y)
  regroup m r u w x c d y e k =
      mix laws (product m c) d r y
      ∙ ap (λ z. product z (product d y)) (swap m c r ∙ ap (λ z. product z c) (e ∙ sym k) ∙ laws.regroups w x c ∙ ap (product w) (laws.commutes x c))

  -- each run costs no less than the run to vectors with the residuals
  pub above :
      (ts : Trees ℕ) (ks : List ℕ) (d : ℕ) → IsCost product new ks ts d → (qs : List ℕ) (n : ℕ) → IsCost product rules qs ts n → n ≤ most →
      (w : ℕ) × IsWeight product qs (vectors_at order ks) w × (product d w ≤ n)
  above none [] d h [] n k m =
      let e : d ≡ 0 = none_to laws new d h in
      let z : product d 0 ≡ 0 = product-zero laws d ∙ e in
      (0, refl, omega arith)
  above none [] d h (q ∷ qs) n k m = absurd (no_trees laws rules normal q qs n k)
  above none (p ∷ ps) d h qs n k m = absurd (no_trees laws new vectors.normal p ps d h)
  above (tree f kids rest) [] d h qs n k m = absurd (no_states new f kids rest d h)
  above (tree f kids rest) (p ∷ ps) d h [] n k m = absurd (no_states rules f kids rest n k)
  above (tree f kids rest) (p ∷ ps) d h (q ∷ qs) n k m =
      let a = open_cost laws new vectors.normal p ps f kids rest d h in
      let b = open_cost laws rules normal q qs f kids rest n k in
      let w : ℕ = (rule_at rules b.rule).cost in
      let c : ℕ = (rule_at new a.rule).cost in
      let step : IsStep product rules f (vectors_at order (holes (rule_at new a.rule).right.kids)) c (vector_at order (rule_at new a.rule).left) =
      vectors.sound a.rule f a.below a.root
      in
      let inner_le : b.inner ≤ product w b.inner = at_least_right laws w b.inner in
      let first_le : product w b.inner ≤ product (product w b.inner) b.outer = laws.at_least (product w b.inner) b.outer in
      let outer_le : b.outer ≤ product (product w b.inner) b.outer = at_least_right laws (product w b.inner) b.outer in
      let is_n : product (product w b.inner) b.outer ≡ n = b.costs in
      let x = above kids (holes (rule_at new a.rule).right.kids) a.inner a.kids_cost (holes (rule_at rules b.rule).right.kids) b.inner b.kids_cost (omega arith) in
      let y = above rest ps a.outer a.rest_cost qs b.outer b.rest_cost (omega arith) in
      let u : ℕ = product w x.0 in
      let placed : IsStepCost product rules f (vectors_at order (holes (rule_at new a.rule).right.kids)) q u = record {
        rule = b.rule;
        below = b.below;
        left = b.left;
        root = b.root;
        weight = x.0;
        is_weight = x.1;
        costs = refl;
      } in
      let low : product w x.0 ≤ product w (product a.inner x.0) = laws.grows w x.0 (product a.inner x.0) (at_least_right laws a.inner x.0) in
      let up : product w (product a.inner x.0) ≤ product w b.inner = laws.grows w (product a.inner x.0) b.inner x.2 in
      elim (stands q (vector_at order (rule_at new a.rule).left)) [
        | inr absent ↦ absurd ((step.others q absent).lower u placed (omega arith))
        | inl has ↦
            let r = step.residuals q has.0 has.1 in
            let least : r.0 ≤ u = r.1.lower u placed (omega arith) in (
              product has.0 y.0,
              record {
                residual = has.0;
                stands = subst (λ l. Has {A = ℕ × ℕ} (vector_at order l) (q, has.0)) a.left has.1;
                others = y.0;
                are = y.1;
                is = refl;
              },
              le_of d n c has.0 r.0 w x.0 a.inner a.outer y.0 b.inner b.outer r.2.gives least x.2 y.2 a.costs b.costs,
            )
      ]
    where
      le_of :
          (d n c r u w x i o y bi bo : ℕ) → product c r ≡ u → u ≤ product w x → product i x ≤ bi → product o y ≤ bo →
          product (product c i) o ≡ d → product (product w bi) bo ≡ n → product d (product r y) ≤ n
      le_of d n c r u w x i o y bi bo e k s t ed en =
          let same : product d (product r y) ≡ product (product u i) (product o y) =
          ap (λ z. product z (product r y)) (sym ed) ∙ mix laws (product c i) o r y ∙ ap (λ z. product z (product o y)) (swap c i r ∙ ap (λ z. product z i) e)
          in
          let one : product u i ≤ product (product w x) i = grows_both laws u i (product w x) i k (omega arith) in
          let two : product (product w x) i ≡ product w (product i x) = laws.regroups w x i ∙ ap (product w) (laws.commutes x i) in
          let three : product w (product i x) ≤ product w bi = laws.grows w (product i x) bi s in
          let four : product (product u i) (product o y) ≤ product (product w bi) bo = grows_both laws (product u i) (product o y) (product w bi) bo (omega arith) t in
          omega arith

  -- and some run costs no more
  pub below :
      (ts : Trees ℕ) (ks : List ℕ) (d : ℕ) → IsCost product new ks ts d → (qs : List ℕ) (w : ℕ) → IsWeight product qs (vectors_at order ks) w → product d w ≤ most →
      (n : ℕ) × IsCost product rules qs ts n × (n ≤ product d w)
  below none [] d h [] w k m = (0, (IsLeast-no_states laws rules).attained.0, omega arith)
  below none [] d h (q ∷ qs) w k m = absurd k
  below none (p ∷ ps) d h qs w k m = absurd (no_trees laws new vectors.normal p ps d h)
  below (tree f kids rest) [] d h qs w k m = absurd (no_states new f kids rest d h)
  below (tree f kids rest) (p ∷ ps) d h [] w k m = absurd k
  below (tree f kids rest) (p ∷ ps) d h (q ∷ qs) w k m =
      let a = open_cost laws new vectors.normal p ps f kids rest d h in
      let c : ℕ = (rule_at new a.rule).cost in
      let step : IsStep product rules f (vectors_at order (holes (rule_at new a.rule).right.kids)) c (vector_at order (rule_at new a.rule).left) =
      vectors.sound a.rule f a.below a.root
      in
      let r = step.residuals q k.residual (subst (λ l. Has {A = ℕ × ℕ} (vector_at order l) (q, k.residual)) (sym a.left) k.stands) in
      let b : IsStepCost product rules f (vectors_at order (holes (rule_at new a.rule).right.kids)) q r.0 = r.1.attained.0 in
      let v : ℕ = (rule_at rules b.rule).cost in
      let same : product d w ≡ product (product v (product a.inner b.weight)) (product a.outer k.others) =
      ap (λ z. product d z) (sym k.is) ∙ ap (λ z. product z (product k.residual k.others)) (sym a.costs) ∙ regroup c k.residual r.0 v b.weight a.inner a.outer k.others r.2.gives b.costs
      in
      let inner_le : product a.inner b.weight ≤ product v (product a.inner b.weight) = at_least_right laws v (product a.inner b.weight) in
      let first_le : product v (product a.inner b.weight) ≤ product (product v (product a.inner b.weight)) (product a.outer k.others) =
      laws.at_least (product v (product a.inner b.weight)) (product a.outer k.others)
      in
      let outer_le : product a.outer k.others ≤ product (product v (product a.inner b.weight)) (product a.outer k.others) =
      at_least_right laws (product v (product a.inner b.weight)) (product a.outer k.others)
      in
      let x = below kids (holes (rule_at new a.rule).right.kids) a.inner a.kids_cost (holes (rule_at rules b.rule).right.kids) b.weight b.is_weight (omega arith) in
      let y = below rest ps a.outer a.rest_cost qs k.others k.are (omega arith) in
      let up : product v x.0 ≤ product v (product a.inner b.weight) = laws.grows v x.0 (product a.inner b.weight) x.2 in
      let whole : product (product v x.0) y.0 ≤ product (product v (product a.inner b.weight)) (product a.outer k.others) =
      grows_both laws (product v x.0) y.0 (product v (product a.inner b.weight)) (product a.outer k.others) up y.2
      in (
        product (product v x.0) y.0,
        close_cost laws rules normal q qs f kids rest (product (product v x.0) y.0) (record {
          rule = b.rule;
          below = b.below;
          left = b.left;
          root = b.root;
          inner = x.0;
          outer = y.0;
          kids_cost = x.1;
          rest_cost = y.1;
          costs = refl {a = product (product v x.0) y.0};
        }),
        omega arith,
      )

  -- the vector that a run leads to rises
  pub rises_at : (k : ℕ) (t : Tree ℕ) (d : ℕ) → IsCost product new (k ∷ []) (only t) d → Rises (vector_at order k)
  rises_at k t d h =
      let a = open_cost laws new vectors.normal k [] t.label t.kids none d h in
      subst (λ l. Rises (vector_at order l)) a.left (vectors.sound a.rule t.label a.below a.root).rises

  -- a run to a vector is read as the series at its states
  pub read : (k : ℕ) (t : Tree ℕ) (d : ℕ) → IsCost product new (k ∷ []) (only t) d → IsRead product rules (vector_at order k) t d
  read k t d h = record {
    at = λ q r s. IsLeast-dominated (to q r s) (from q r s) (IsLeast-one (product d r));
    elsewhere = λ q absent. record {
      attained = tt;
      lower = λ n c b. let w = above (only t) (k ∷ []) d h (q ∷ []) n c b in absurd (absent w.1.residual w.1.stands);
    };
  }
    where
      to : (q r : ℕ) → Has {A = ℕ × ℕ} (vector_at order k) (q, r) → (n : ℕ) → n ≡ product d r → n ≤ most → (m : ℕ) × IsCost product rules (q ∷ []) (only t) m × (m ≤ n)
      to q r s n e b =
          let z : product r 0 ≡ r = product-zero laws r in
          let same : product d (product r 0) ≡ product d r = ap (product d) z in
          let x = below (only t) (k ∷ []) d h (q ∷ []) (product r 0) (record { residual = r; stands = s; others = 0; are = refl; is = refl }) (omega arith) in
          (x.0, x.1, omega (arith, x.2))

      from : (q r : ℕ) → Has {A = ℕ × ℕ} (vector_at order k) (q, r) → (n : ℕ) → IsCost product rules (q ∷ []) (only t) n → n ≤ most → (m : ℕ) × (m ≡ product d r) × (m ≤ n)
      from q r s n c b =
          let w = above (only t) (k ∷ []) d h (q ∷ []) n c b in
          let same : w.1.residual ≡ r = one_residual (vector_at order k) q w.1.residual r (rises_at k t d h) w.1.stands s in
          let z : w.0 ≡ r = sym w.1.is ∙ ap (product w.1.residual) w.1.are ∙ product-zero laws w.1.residual ∙ same in
          let le : product d r ≤ n = subst (λ v. product d v ≤ n) z w.2 in
          (product d r, refl, le)

  -- what has a cost has a run to a vector
  pub covered :
      (ts : Trees ℕ) (qs : List ℕ) (n : ℕ) → IsCost product rules qs ts n → n ≤ most →
      (ks : List ℕ) × AllBelow (length order) ks × ((d : ℕ) × IsCost product new ks ts d)
  covered none [] n h m = ([], tt, (0, (IsLeast-no_states laws new).attained.0))
  covered none (q ∷ qs) n h m = absurd (no_trees laws rules normal q qs n h)
  covered (tree f kids rest) [] n h m = absurd (no_states rules f kids rest n h)
  covered (tree f kids rest) (q ∷ qs) n h m =
      let b = open_cost laws rules normal q qs f kids rest n h in
      let w : ℕ = (rule_at rules b.rule).cost in
      let inner_le : b.inner ≤ product w b.inner = at_least_right laws w b.inner in
      let first_le : product w b.inner ≤ product (product w b.inner) b.outer = laws.at_least (product w b.inner) b.outer in
      let outer_le : b.outer ≤ product (product w b.inner) b.outer = at_least_right laws (product w b.inner) b.outer in
      let is_n : product (product w b.inner) b.outer ≡ n = b.costs in
      let x = covered kids (holes (rule_at rules b.rule).right.kids) b.inner b.kids_cost (omega arith) in
      let y = covered rest qs b.outer b.rest_cost (omega arith) in
      let low = above kids x.0 x.2.0 x.2.1 (holes (rule_at rules b.rule).right.kids) b.inner b.kids_cost (omega arith) in
      elim (vectors.complete f x.0 x.1) [
        | inl j ↦
            let c : ℕ = (rule_at new j.0).cost in (
              (rule_at new j.0).left ∷ y.0,
              ((vectors.in_range j.0 j.1).0, y.1),
              (
                product (product c x.2.0) y.2.0,
                close_cost laws new vectors.normal (rule_at new j.0).left y.0 f kids rest (product (product c x.2.0) y.2.0) (record {
                  rule = j.0;
                  below = j.1;
                  left = refl;
                  root = j.2;
                  inner = x.2.0;
                  outer = y.2.0;
                  kids_cost = subst (λ ks. IsCost product new ks kids x.2.0) (sym j.3) x.2.1;
                  rest_cost = y.2.1;
                  costs = refl {a = product (product c x.2.0) y.2.0};
                }),
              ),
            )
        | inr nothing ↦
            let one : product w low.0 ≤ product w (product x.2.0 low.0) = laws.grows w low.0 (product x.2.0 low.0) (at_least_right laws x.2.0 low.0) in
            let two : product w (product x.2.0 low.0) ≤ product w b.inner = laws.grows w (product x.2.0 low.0) b.inner low.2 in
            absurd (nothing q (product w low.0) (record {
              rule = b.rule;
              below = b.below;
              left = b.left;
              root = b.root;
              weight = low.0;
              is_weight = low.1;
              costs = refl;
            }) (omega arith))
      ]

  -- a run from several states that yields one tree has one state
  pub one_state : (t : Tree ℕ) (ks : List ℕ) (d : ℕ) → IsCost product new ks (only t) d → (k : ℕ) × IsCost product new (k ∷ []) (only t) d
  one_state t [] d h = absurd (no_states new t.label t.kids none d h)
  one_state t (k ∷ []) d h = (k, h)
  one_state t (k ∷ (l ∷ ks)) d h = absurd (omega (arith, count-costs laws new (k ∷ (l ∷ ks)) (only t) d h))

  -- a tree without a run to a vector has no cost at any state
  pub without : (t : Tree ℕ) → ((k d : ℕ) → IsCost product new (k ∷ []) (only t) d → ⊥) → (q : ℕ) → IsSeriesAt product rules q t None
  without t nothing q = record {
    attained = tt;
    lower = λ n c m.
        let x = covered (only t) (q ∷ []) n c m in
        let y = one_state t x.0 x.2.0 x.2.1 in
        absurd (nothing y.0 x.2.0 y.1);
  }
