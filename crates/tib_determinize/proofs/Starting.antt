-- With its fresh start the grammar of vectors has the series of the grammar.
use Rattle.std.specs.Prelude.{◌≡◌, ℕ, ◌+◌, ◌<◌, ◌≤◌, ◌↔◌, List, [], ◌∷◌, length, map, Bool, refl, Option}
use Rattle.std.proofs.Common.{zero, suc, arith, ap, sym, ◌∙◌, subst, inl, inr, get_or}
use Rattle.tib_lex.specs.Lists.{Has}
use Rattle.tib_tree.specs.Trees.{Tree, Trees, none, tree, count, join, only, join-none}
use Rattle.tib_grammar.specs.Sides.{Lone, holes, holes_of, fill}
use Rattle.tib_grammar.specs.Run.{rule_at, AreRuns, yields, cost, IsCost}
use Rattle.tib_grammar.specs.Series.{IsSeries}
use Rattle.tib_grammar.specs.Forms.{AreNormal}
use Rattle.tib_grammar.specs.GrammarOf.{named_rule}
use Rattle.tib_grammar.specs.declared.Rule.{Rule}
use Rattle.tib_grammar.proofs.Sides.{holes-relabel, fill-relabel}
use Rattle.tib_cost.specs.Semiring.{ProductLaws, most}
use Rattle.tib_cost.proofs.Least.{IsLeast-dominated}
use Rattle.tib_cost.proofs.Times.{product-zero}
use Rattle.tib_determinize.specs.Vectors.{VectorOf, vector_at}
use Rattle.tib_determinize.specs.VectorGrammar.{IsVectorGrammar}
use Rattle.tib_determinize.specs.Started.{finals, chain_to, started}
use Rattle.tib_determinize.specs.ListLemmas.{side_of}
use Rattle.tib_determinize.specs.VectorLemmas.{one_residual}
use Rattle.tib_determinize.proofs.Runs.{count-costs}
use Rattle.tib_determinize.proofs.Finals.{start_has, has_start, IsFinal, final_is, is_final, all_long, chain_at, shifted_at}
use Rattle.tib_determinize.proofs.Determining.{above, below, covered, one_state, rises_at}

module _
    {levelled weighted : Bool} {product : ℕ → ℕ → ℕ} (laws : ProductLaws levelled weighted product)
    (rules : List (Rule ℕ)) (normal : AreNormal rules) (order : List VectorOf) (new : List (Rule ℕ))
    (vectors : IsVectorGrammar product rules order new) where
  abbrev ups : List ℕ → List ℕ
  ups ks = map suc ks

  -- a run to positions is one to the next numbers
  pub forth : (runs : Trees ℕ) (ks : List ℕ) → AreRuns new ks runs → IsCost product (started order new) (ups ks) (yields new runs) (cost product new runs)
  forth none [] a = record { runs = none; are_runs = tt; yielded = refl; costs = refl }
  forth none (k ∷ ks) a = absurd a
  forth (tree j runs rest) [] a = absurd a
  forth (tree j runs rest) (k ∷ ks) a =
      let n : ℕ = length (finals 0 order) + j in
      let is : rule_at (started order new) n ≡ named_rule suc (rule_at new j) = shifted_at order new n j refl a.0 in
      let x = forth runs (holes_of (rule_at new j).right) a.2 in
      let y = forth rest ks a.3 in
      let holes_are : ups (holes_of (rule_at new j).right) ≡ holes_of (rule_at (started order new) n).right =
      sym (holes-relabel suc (only (rule_at new j).right)) ∙ ap (λ r. holes (only r.right)) (sym is)
      in
      let fills : (us : Trees ℕ) → fill (only (rule_at (started order new) n).right) us ≡ fill (only (rule_at new j).right) us =
      λ us. ap (λ r. fill (only r.right) us) is ∙ fill-relabel suc (only (rule_at new j).right) us
      in
      record {
        runs = tree n x.runs y.runs;
        are_runs = (
          omega (arith, all_long order new, a.0),
          ap (λ r. r.left) is ∙ ap suc a.1,
          subst (λ qs. AreRuns (started order new) qs x.runs) holes_are x.are_runs,
          y.are_runs,
        );
        yielded = ap (λ us. join (fill (only (rule_at (started order new) n).right) us) (yields (started order new) y.runs)) x.yielded
            ∙ ap (λ us. join us (yields (started order new) y.runs)) (fills (yields new runs))
            ∙ ap (join (fill (only (rule_at new j).right) (yields new runs))) y.yielded;
        costs = ap (λ r. product (product r.cost (cost product (started order new) x.runs)) (cost product (started order new) y.runs)) is
            ∙ ap (λ c. product (product (rule_at new j).cost c) (cost product (started order new) y.runs)) x.costs
            ∙ ap (product (product (rule_at new j).cost (cost product new runs))) y.costs;
      }

  back : (runs : Trees ℕ) (ks : List ℕ) → AreRuns (started order new) (ups ks) runs → IsCost product new ks (yields (started order new) runs) (cost product (started order new) runs)
  back none [] a = record { runs = none; are_runs = tt; yielded = refl; costs = refl }
  back none (k ∷ ks) a = absurd a
  back (tree n runs rest) [] a = absurd a
  back (tree n runs rest) (k ∷ ks) a = elim (side_of n (length (finals 0 order))) [
    | inl h ↦ let z : 0 ≡ suc k = sym (ap (λ r. r.left) (chain_at order new n h)) ∙ a.1 in absurd (omega arith)
    | inr h ↦
        let j : ℕ = h.0 in
        let j_below : j < length new = omega (arith, all_long order new, a.0, h.1) in
        let is : rule_at (started order new) n ≡ named_rule suc (rule_at new j) = shifted_at order new n j h.1 j_below in
        let holes_are : holes_of (rule_at (started order new) n).right ≡ ups (holes_of (rule_at new j).right) =
        ap (λ r. holes (only r.right)) is ∙ holes-relabel suc (only (rule_at new j).right)
        in
        let fills : (us : Trees ℕ) → fill (only (rule_at new j).right) us ≡ fill (only (rule_at (started order new) n).right) us =
        λ us. sym (fill-relabel suc (only (rule_at new j).right) us) ∙ ap (λ r. fill (only r.right) us) (sym is)
        in
        let x = back runs (holes_of (rule_at new j).right) (subst (λ qs. AreRuns (started order new) qs runs) holes_are a.2) in
        let y = back rest ks a.3 in
        let left : suc (rule_at new j).left ≡ suc k = sym (ap (λ r. r.left) is) ∙ a.1 in
        record {
          runs = tree j x.runs y.runs;
          are_runs = (j_below, omega arith, x.are_runs, y.are_runs);
          yielded = ap (λ us. join (fill (only (rule_at new j).right) us) (yields new y.runs)) x.yielded
              ∙ ap (λ us. join us (yields new y.runs)) (fills (yields (started order new) runs))
              ∙ ap (join (fill (only (rule_at (started order new) n).right) (yields (started order new) runs))) y.yielded;
          costs = ap (λ r. product (product r.cost (cost product new x.runs)) (cost product new y.runs)) (sym is)
              ∙ ap (λ c. product (product (rule_at (started order new) n).cost c) (cost product new y.runs)) x.costs
              ∙ ap (product (product (rule_at (started order new) n).cost (cost product (started order new) runs))) y.costs;
        }
  ]

  fill_lone : (p : ℕ) (t : Tree ℕ) → fill (only (Lone p)) (only t) ≡ only t
  fill_lone p t = refl

  to_started : (t : Tree ℕ) (n : ℕ) → IsCost product rules (0 ∷ []) (only t) n → n ≤ most → (m : ℕ) × IsCost product (started order new) (0 ∷ []) (only t) m × (m ≤ n)
  to_started t n h m =
      let c = covered laws rules normal order new vectors (only t) (0 ∷ []) n h m in
      let s = one_state laws rules normal order new vectors t c.0 c.2.0 c.2.1 in
      let w = above laws rules normal order new vectors (only t) (s.0 ∷ []) c.2.0 s.1 (0 ∷ []) n h m in
      let r = has_start (vector_at order s.0) w.1.residual w.1.stands in
      let same : w.1.residual ≡ r.0 =
      one_residual (vector_at order s.0) 0 w.1.residual r.0 (rises_at laws rules normal order new vectors s.0 t c.2.0 s.1) w.1.stands (start_has (vector_at order s.0) r.0 r.1)
      in
      let f = is_final 0 order s.0 r.0 (0, 0) (in_order s.0 r.0 (start_has (vector_at order s.0) r.0 r.1)) r.1 in
      let zero_plus : 0 + s.0 ≡ s.0 = omega arith in
      let final : get_or (finals 0 order) f.0 (0, 0) ≡ (s.0, r.0) = f.2 ∙ ap (λ a. (a, r.0)) zero_plus in
      let is : rule_at (started order new) f.0 ≡ chain_to (s.0, r.0) = chain_at order new f.0 f.1 ∙ ap chain_to final in
      let x = forth s.1.runs (s.0 ∷ []) s.1.are_runs in
      let whole : product w.1.residual w.1.others ≡ w.0 = w.1.is in
      let is_w : w.0 ≡ r.0 = sym w.1.is ∙ ap (product w.1.residual) w.1.are ∙ product-zero laws w.1.residual ∙ same in
      let le : product c.2.0 r.0 ≤ n = subst (λ z. product c.2.0 z ≤ n) is_w w.2 in
      let turn : product r.0 c.2.0 ≡ product c.2.0 r.0 = laws.commutes r.0 c.2.0 in (
        product r.0 c.2.0,
        record {
          runs = tree f.0 x.runs none;
          are_runs = (omega (arith, all_long order new, f.1), ap (λ z. z.left) is, subst (λ z. AreRuns (started order new) (holes_of z.right) x.runs) (sym is) x.are_runs, tt);
          yielded = join-none _ ∙ ap (λ z. fill (only z.right) (yields (started order new) x.runs)) is ∙ ap (fill (only (Lone (suc s.0)))) (x.yielded ∙ s.1.yielded);
          costs = product-zero laws _ ∙ ap (λ z. product z.cost (cost product (started order new) x.runs)) is ∙ ap (product r.0) (x.costs ∙ s.1.costs);
        },
        omega arith,
      )
    where
      in_order : (k r : ℕ) → Has {A = ℕ × ℕ} (vector_at order k) (0, r) → k < length order
      in_order k r h = below_of order k r h
        where
          below_of : (xs : List VectorOf) (i r : ℕ) → Has {A = ℕ × ℕ} (vector_at xs i) (0, r) → i < length xs
          below_of [] i r h = absurd h
          below_of (x ∷ xs) zero r h = omega arith
          below_of (x ∷ xs) (suc i) r h = omega (arith, below_of xs i r h)

  from_started : (t : Tree ℕ) (n : ℕ) → IsCost product (started order new) (0 ∷ []) (only t) n → n ≤ most → (m : ℕ) × IsCost product rules (0 ∷ []) (only t) m × (m ≤ n)
  from_started t n h m = by h.runs h.are_runs h.yielded h.costs
    where
      by :
          (runs : Trees ℕ) → AreRuns (started order new) (0 ∷ []) runs → yields (started order new) runs ≡ only t → cost product (started order new) runs ≡ n →
          (m : ℕ) × IsCost product rules (0 ∷ []) (only t) m × (m ≤ n)
      by none a y c = absurd a
      by (tree i runs (tree j others more)) a y c = absurd a.3
      by (tree i runs none) a y c = elim (side_of i (length (finals 0 order))) [
        | inr h ↦
            let j_below : h.0 < length new = omega (arith, all_long order new, a.0, h.1) in
            let z : suc (rule_at new h.0).left ≡ 0 = sym (ap (λ r. r.left) (shifted_at order new i h.0 h.1 j_below)) ∙ a.1 in
            absurd (omega arith)
        | inl h ↦
            let p : ℕ × ℕ = get_or (finals 0 order) i (0, 0) in
            let f : IsFinal 0 order p = final_is 0 order i (0, 0) h in
            let is : rule_at (started order new) i ≡ chain_to p = chain_at order new i h in
            let position : p.0 ≡ f.position = omega (arith, f.is) in
            let x = back runs (p.0 ∷ []) (subst (λ r. AreRuns (started order new) (holes_of r.right) runs) is a.2) in
            let y' : fill (only (Lone (suc p.0))) (yields (started order new) runs) ≡ only t = ap (λ r. fill (only r.right) (yields (started order new) runs)) (sym is) ∙ sym (join-none _) ∙ y in
            let t' : yields (started order new) runs ≡ only t =
            one_tree (yields (started order new) runs) (count-costs laws new (p.0 ∷ []) (yields (started order new) runs) (cost product (started order new) runs) x) ∙ y'
            in
            let run : IsCost product new (p.0 ∷ []) (only t) (cost product (started order new) runs) = subst (λ ts. IsCost product new (p.0 ∷ []) ts (cost product (started order new) runs)) t' x in
            let stands : Has {A = ℕ × ℕ} (vector_at order p.0) (0, p.1) =
            subst (λ k. Has {A = ℕ × ℕ} (vector_at order k) (0, p.1)) (sym position) (start_has (vector_at order f.position) p.1 f.residual)
            in
            let d : ℕ = cost product (started order new) runs in
            let total : product p.1 d ≡ n = ap (λ r. product r.cost d) (sym is) ∙ sym (product-zero laws _) ∙ c in
            let turn : product d (product p.1 0) ≡ product p.1 d = ap (product d) (product-zero laws p.1) ∙ laws.commutes d p.1 in
            let b =
            below laws rules normal order new vectors (only t) (p.0 ∷ []) d run (0 ∷ []) (product p.1 0) (record { residual = p.1; stands = stands; others = 0; are = refl; is = refl }) (omega arith)
            in
            (b.0, b.1, omega (arith, b.2))
      ]
        where
          one_tree : (ts : Trees ℕ) → count ts ≡ 1 → ts ≡ fill (only (Lone (suc (get_or (finals 0 order) i (0, 0)).0))) ts
          one_tree none e = absurd (omega arith)
          one_tree (tree f kids none) e = refl
          one_tree (tree f kids (tree g ks rest)) e = absurd (omega arith)

  -- with the fresh start the series is that of the grammar
  pub same_series : (t : Tree ℕ) (v : Option ℕ) → IsSeries product rules t v ↔ IsSeries product (started order new) t v
  same_series t v = (λ h. IsLeast-dominated (to_started t) (from_started t) h, λ h. IsLeast-dominated (from_started t) (to_started t) h)
