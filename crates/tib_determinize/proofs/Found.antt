-- The rules of a reached set are the steps of the labels over positions.
use Rattle.std.specs.Prelude.{◌≡◌, ℕ, ◌<◌, ◌≤◌, ◌⊎◌, Bool, List, [], ◌∷◌, ◌++◌, length, map, refl}
use Rattle.std.proofs.Common.{zero, suc, arith, ap, sym, ◌∙◌, subst, inl, inr, get_or}
use Rattle.std.specs.declared.cmp.Ordering.TheVariants.{Less}
use Rattle.std.proofs.lemmas.Bool.{cases_lt}
use Rattle.tib_lex.specs.Lists.{Has, Each, Distinct, Ascends, Along}
use Rattle.tib_tree.specs.Trees.{Trees, none, tree, relabel}
use Rattle.tib_grammar.specs.Sides.{Symbol, label, hole, symbol_map, holes, AreHoles, HolesAreLeaves, leaves, over}
use Rattle.tib_grammar.specs.Run.{rule_at, no_rule}
use Rattle.tib_grammar.specs.Forms.{IsLabel}
use Rattle.tib_grammar.specs.Range.{AllBelow}
use Rattle.tib_grammar.specs.GrammarOf.{named_rule}
use Rattle.tib_grammar.specs.declared.Rule.{Rule}
use Rattle.tib_grammar.proofs.Members.{each_has, each_of, has_at, has_left, has_right}
use Rattle.tib_grammar.proofs.Sides.{holes_of-label, holes-leaves, holes-relabel}
use Rattle.tib_cost.specs.Semiring.{ProductLaws}
use Rattle.tib_lex.proofs.Lists.{each_append, length_map}
use Rattle.tib_lex.proofs.Places.{distinct_at, get_map}
use Rattle.tib_lex.proofs.Alongs.{along_has, along_append, along_of}
use Rattle.tib_expand.specs.EdgeLists.{Lists}
use Rattle.tib_expand.specs.Reached.{AfterRounds, AreEdges}
use Rattle.tib_expand.proofs.Reaching.{apart}
use Rattle.tib_determinize.specs.Vectors.{VectorOf, Rises, IsStep, vector_at, vectors_at}
use Rattle.tib_determinize.specs.Determinization.{vector_cmp, IsVectorSeed, IsVectorEdge, determinization}
use Rattle.tib_determinize.specs.VectorGrammar.{IsVectorGrammar, IsDeterminized}
use Rattle.tib_determinize.specs.ListLemmas.{order_of, each_map, along_get}
use Rattle.tib_determinize.specs.OneStep.{vector_total}
use Rattle.tib_determinize.proofs.Stepping.{step_or_none, lefts_below}
use Rattle.tib_expand.proofs.Members.{distinct_append}

-- right-hand sides over positions

-- a renaming keeps the label at a root
pub label-relabel : {P Q : Type 0} (g : P → Q) (s : Symbol ℕ P) (f : ℕ) → symbol_map g s ≡ label f → s ≡ label f
label-relabel g (label x) f e = let same : x ≡ f = cc in ap label same
label-relabel g (hole p) f e = absurd (cc)

-- a symbol that is a label
pub IsLabel-is : (s : Symbol ℕ ℕ) (f : ℕ) → s ≡ label f → IsLabel s
IsLabel-is (label x) f e = tt
IsLabel-is (hole p) f e = absurd (cc)

-- a symbol is one label
pub same_label : {P : Type 0} (f g : ℕ) (s : Symbol ℕ P) → s ≡ label f → s ≡ label g → f ≡ g
same_label f g (label h) e k = cc
same_label f g (hole p) e k = absurd (cc)

holes_back : {P Q : Type 0} (g : P → Q) (s : Trees (Symbol ℕ P)) (qs : List Q) → relabel (symbol_map g) s ≡ leaves qs → AreHoles s × HolesAreLeaves s
holes_back g none [] e = (tt, tt)
holes_back g none (q ∷ qs) e = absurd (cc)
holes_back g (tree (label f) kids rest) [] e = absurd (cc)
holes_back g (tree (label f) kids rest) (q ∷ qs) e = absurd (cc)
holes_back g (tree (hole p) kids rest) [] e = absurd (cc)
holes_back g (tree (hole p) none rest) (q ∷ qs) e = holes_back g rest qs (cc)
holes_back g (tree (hole p) (tree s kids more) rest) (q ∷ qs) e = absurd (cc)

leaves_at_root : (s : Symbol ℕ ℕ) (kids : Trees (Symbol ℕ ℕ)) (f : ℕ) → s ≡ label f → HolesAreLeaves kids → HolesAreLeaves (tree s kids none)
leaves_at_root (label g) kids f e h = (h, tt)
leaves_at_root (hole p) kids f e h = absurd (cc)

-- the greatest of some positions

pub record IsGreatest (n : ℕ) (ps : List ℕ) : Type 0 where
  has : Has ps n
  up_to : Each (λ p. p ≤ n) ps

greatest : (p : ℕ) (ps : List ℕ) → (n : ℕ) × IsGreatest n (p ∷ ps)
greatest p [] = (p, record { has = inl refl; up_to = (omega arith, tt) })
greatest p (q ∷ ps) =
    let more = greatest q ps in
    elim (order_of p more.0) [
      | inl h ↦ (more.0, record { has = inr more.1.has; up_to = (h, more.1.up_to) })
      | inr h ↦ (p, record { has = inl refl; up_to = (omega arith, each_map (λ z. z ≤ more.0) (λ z. z ≤ p) (λ z e. omega arith) (q ∷ ps) more.1.up_to) })
    ]

each_below : (n : ℕ) (ps : List ℕ) → AllBelow n ps → Each (λ p. p < n) ps
each_below n [] a = tt
each_below n (p ∷ ps) a = (a.0, each_below n ps a.1)

below_all : (n m : ℕ) (ps : List ℕ) → n < m → Each (λ p. p ≤ n) ps → AllBelow m ps
below_all n m [] h e = tt
below_all n m (p ∷ ps) h e = (omega (arith, e.0), below_all n m ps h e.1)

module _ (product : ℕ → ℕ → ℕ) (rules : List (Rule ℕ)) where
  -- orders

  ascending_once : (xs : List VectorOf) → Ascends (λ a b. vector_cmp a b ≡ Less) xs → Distinct xs
  ascending_once [] a = tt
  ascending_once (x ∷ xs) a = (
    λ h. let itself = each_has (λ b. vector_cmp x b ≡ Less) xs x a.0 h in apart vector_cmp vector_total x x itself itself,
    ascending_once xs a.1,
  )

  -- no vector occurs twice in an order
  pub order_once : (rounds expanded : ℕ) (order : List VectorOf) → AfterRounds (determinization product rules) rounds expanded order → Distinct order
  order_once zero expanded order (start, first) = ascending_once order first.0
  order_once (suc rounds) expanded order (old, first, new, before, is, at, made) =
      subst Distinct (sym made) (distinct_append old new (order_once rounds first old before) (ascending_once new is.0) (λ k h m. ((is.1 k).0 m).1 h))

  -- each vector of an order rises
  pub order_rises : (rounds expanded : ℕ) (order : List VectorOf) → AfterRounds (determinization product rules) rounds expanded order → Each (λ v. Rises v) order
  order_rises zero expanded order (start, first) = each_of (λ v. Rises v) order (λ v h. ((first.1 v).0 h).2.rises)
  order_rises (suc rounds) expanded order (old, first, new, before, is, at, made) =
      subst (λ (l : List VectorOf). Each (λ v. Rises v) l) (sym made)
      (each_append (λ v. Rises v) old new (order_rises rounds first old before) (each_of (λ v. Rises v) new (λ v h. by v ((is.1 v).0 h).0)))
    where
      by : (v : VectorOf) → ((i : ℕ) × (first ≤ i) × (i < length old) × ((o : ℕ × List ℕ) × (e : Rule VectorOf) × IsVectorEdge product rules old i o e × Has (e.left ∷ []) v)) → Rises v
      by v (i, low, high, (o, e, is_edge, ends)) = elim ends [ inl k ↦ subst (λ w. Rises w) k is_edge.step.rises | inr k ↦ absurd k ]

  module _ (order : List VectorOf) where
    -- edges

    -- an edge of the seeds or of one of the first n positions
    abbrev pub GivesBelow : ℕ → ℕ × List ℕ → Rule VectorOf → Type 0
    GivesBelow n o e = IsVectorSeed product rules o e ⊎ ((p : ℕ) × (p < n) × IsVectorEdge product rules order p o e)

    module _ (n : ℕ) (front last : List (Rule VectorOf)) (before : Lists (GivesBelow n) front) (l : Lists (IsVectorEdge product rules order n) last) where
      elsewhere : (o : ℕ × List ℕ) → Has before.origins o → Has l.origins o → ⊥
      elsewhere o h k =
          let a = along_of (GivesBelow n) before.origins front o before.given h in
          let b = along_of (IsVectorEdge product rules order n) l.origins last o l.given k in
          elim a.1 [
            | inl seed ↦ subst (λ (ps : List ℕ). Has ps n) seed.none b.1.stands
            | inr edge ↦
                let low : edge.0 < n = edge.1 in
                let up : n ≤ edge.0 = each_has (λ p. p ≤ edge.0) o.1 n edge.2.up_to b.1.stands in
                omega arith
          ]

      higher : (o : ℕ × List ℕ) (e : Rule VectorOf) → GivesBelow n o e → GivesBelow (suc n) o e
      higher o e g = elim g [ inl s ↦ inl s | inr x ↦ inr (x.0, (let low = x.1 in omega arith), x.2) ]

      all_stand : (o : ℕ × List ℕ) (e : Rule VectorOf) → GivesBelow (suc n) o e → Has (before.origins ++ l.origins) o
      all_stand o e g = elim g [
        | inl s ↦ has_left before.origins l.origins o (before.whole o e (inl s))
        | inr x ↦ elim (cases_lt x.0 n) [
          | inl low ↦ has_left before.origins l.origins o (before.whole o e (inr (x.0, low, x.2)))
          | inr high ↦
              let at : x.0 ≡ n = (let low = x.1 in omega arith) in
              has_right before.origins l.origins o (l.whole o e (subst (λ p. IsVectorEdge product rules order p o e) at x.2))
        ]
      ]

      along_to : {A B : Type 0} (R S : A → B → Type 0) → ((x : A) (y : B) → R x y → S x y) → (xs : List A) (ys : List B) → Along R xs ys → Along S xs ys
      along_to R S f [] [] a = tt
      along_to R S f [] (y ∷ ys) a = absurd a
      along_to R S f (x ∷ xs) [] a = absurd a
      along_to R S f (x ∷ xs) (y ∷ ys) a = (f x y a.0, along_to R S f xs ys a.1)

      one_more : Lists (GivesBelow (suc n)) (front ++ last)
      one_more = record {
        origins = before.origins ++ l.origins;
        once = distinct_append before.origins l.origins before.once l.once elsewhere;
        given = along_append (GivesBelow (suc n)) before.origins l.origins front last
            (along_to (GivesBelow n) (GivesBelow (suc n)) higher before.origins front before.given)
            (along_to (IsVectorEdge product rules order n) (GivesBelow (suc n)) (λ o e g. inr (n, omega arith, g)) l.origins last l.given);
        whole = all_stand;
      }

    -- the edges of every position as one list, by the label and the positions
    pub edges_below : (n : ℕ) (es : List (Rule VectorOf)) → AreEdges (determinization product rules) order n es → Lists (GivesBelow n) es
    edges_below zero es l = record {
      origins = l.origins;
      once = l.once;
      given = seeds l.origins es l.given;
      whole = λ o e g. elim g [ inl s ↦ l.whole o e s | inr x ↦ absurd (let low = x.1 in omega arith) ];
    }
      where
        seeds : (os : List (ℕ × List ℕ)) (fs : List (Rule VectorOf)) → Along (IsVectorSeed product rules) os fs → Along (GivesBelow zero) os fs
        seeds [] [] a = tt
        seeds [] (y ∷ ys) a = absurd a
        seeds (x ∷ xs) [] a = absurd a
        seeds (x ∷ xs) (y ∷ ys) a = (inl a.0, seeds xs ys a.1)
    edges_below (suc n) es (front, last, is, before, l) =
        subst (λ (fs : List (Rule VectorOf)). Lists (GivesBelow (suc n)) fs) (sym is) (one_more n front last (edges_below n front before) l)

    -- steps

    -- the step of a label over positions of the order
    pub record IsLabelStep (o : ℕ × List ℕ) (e : Rule VectorOf) : Type 0 where
      pub below : AllBelow (length order) o.1
      pub step : IsStep product rules o.0 (vectors_at order o.1) e.cost e.left
      pub right : e.right ≡ over o.0 (vectors_at order o.1)

    -- an edge below a position is a step of its label
    pub gives_step : (o : ℕ × List ℕ) (e : Rule VectorOf) → GivesBelow (length order) o e → IsLabelStep o e
    gives_step o e g = elim g [
      | inl s ↦ record {
        below = subst (AllBelow (length order)) (sym s.none) tt;
        step = subst (λ (ps : List ℕ). IsStep product rules o.0 (vectors_at order ps) e.cost e.left) (sym s.none) s.step;
        right = s.right ∙ ap (λ (ps : List ℕ). over o.0 (vectors_at order ps)) (sym s.none);
      }
      | inr x ↦ record { below = below_all x.0 (length order) o.1 x.1 x.2.up_to; step = x.2.step; right = x.2.right }
    ]

    step_gives : (f : ℕ) (ps : List ℕ) (e : Rule VectorOf) → IsLabelStep (f, ps) e → GivesBelow (length order) (f, ps) e
    step_gives f [] e s = inl (record { none = refl; step = s.step; right = s.right })
    step_gives f (p ∷ ps) e s =
        let top = greatest p ps in
        let low : top.0 < length order = each_has (λ q. q < length order) (p ∷ ps) top.0 (each_below (length order) (p ∷ ps) s.below) top.1.has in
        inr (top.0, low, record { up_to = top.1.up_to; stands = top.1.has; step = s.step; right = s.right })

    module _ {levelled weighted : Bool} (laws : ProductLaws levelled weighted product) (new : List (Rule ℕ)) (found : IsDeterminized product rules order new) where
      once : Distinct order
      once = order_once found.reached.0.0 found.reached.0.1 order found.reached.0.2

      all_rise : Each (λ v. Rises v) order
      all_rise = order_rises found.reached.0.0 found.reached.0.1 order found.reached.0.2

      vectors_rise : (ps : List ℕ) → AllBelow (length order) ps → Each (λ v. Rises v) (vectors_at order ps)
      vectors_rise [] b = tt
      vectors_rise (p ∷ ps) b = (each_has (λ v. Rises v) order (vector_at order p) all_rise (has_at order p [] b.0), vectors_rise ps b.1)

      same_positions : (ps qs : List ℕ) → AllBelow (length order) ps → AllBelow (length order) qs → vectors_at order ps ≡ vectors_at order qs → ps ≡ qs
      same_positions [] [] a b e = refl
      same_positions [] (q ∷ qs) a b e = absurd (cc)
      same_positions (p ∷ ps) [] a b e = absurd (cc)
      same_positions (p ∷ ps) (q ∷ qs) a b e =
          let first : vector_at order p ≡ vector_at order q = cc in
          let others : vectors_at order ps ≡ vectors_at order qs = cc in
          let one : p ≡ q = distinct_at order p q [] once a.0 b.0 first in
          cc (one, same_positions ps qs a.1 b.1 others)

      edges : Lists (GivesBelow (length order)) (map (named_rule (vector_at order)) new)
      edges = edges_below (length order) (map (named_rule (vector_at order)) new) found.reached.1

      spare : Rule VectorOf
      spare = named_rule (vector_at order) no_rule

      -- the rule j is the step of a label over positions
      record IsVectorRule (o : ℕ × List ℕ) (j : ℕ) : Type 0 where
        step : IsStep product rules o.0 (vectors_at order o.1) (rule_at new j).cost (vector_at order (rule_at new j).left)
        is_label : (rule_at new j).right.label ≡ label o.0
        are_holes : AreHoles (rule_at new j).right.kids
        are_leaves : HolesAreLeaves (rule_at new j).right.kids
        holes_are : holes (rule_at new j).right.kids ≡ o.1

      vector_rule : (o : ℕ × List ℕ) (j : ℕ) → j < length new → IsLabelStep o (named_rule (vector_at order) (rule_at new j)) → IsVectorRule o j
      vector_rule o j h s =
          let kids_are : relabel (symbol_map (vector_at order)) (rule_at new j).right.kids ≡ leaves (vectors_at order o.1) = ap (λ t. t.kids) s.right in
          let root : (rule_at new j).right.label ≡ label o.0 = label-relabel (vector_at order) (rule_at new j).right.label o.0 (ap (λ t. t.label) s.right) in
          let range_of : AllBelow (length order) (holes (rule_at new j).right.kids) =
          subst (AllBelow (length order)) (holes_of-label (rule_at new j).right.label (rule_at new j).right.kids o.0 root) (found.in_range j h).1
          in
          let mapped : vectors_at order (holes (rule_at new j).right.kids) ≡ vectors_at order o.1 =
          sym (holes-relabel (vector_at order) (rule_at new j).right.kids) ∙ ap (λ t. holes t) kids_are ∙ holes-leaves ℕ (vectors_at order o.1)
          in
          let shape = holes_back (vector_at order) (rule_at new j).right.kids (vectors_at order o.1) kids_are in
          record {
            step = s.step;
            is_label = root;
            are_holes = shape.0;
            are_leaves = shape.1;
            holes_are = same_positions (holes (rule_at new j).right.kids) o.1 range_of s.below mapped;
          }

      rule_of : (j : ℕ) → j < length new → (j < length edges.origins) × IsVectorRule (get_or edges.origins j (0, [])) j
      rule_of j h =
          let a =
          along_get (GivesBelow (length order)) edges.origins (map (named_rule (vector_at order)) new) j (0, []) spare edges.given (omega (arith, length_map (named_rule (vector_at order)) new))
          in
          let g : GivesBelow (length order) (get_or edges.origins j (0, [])) (named_rule (vector_at order) (rule_at new j)) =
          subst (GivesBelow (length order) (get_or edges.origins j (0, []))) (get_map (named_rule (vector_at order)) new j spare no_rule h) a.1
          in
          (a.0, vector_rule (get_or edges.origins j (0, [])) j h (gives_step (get_or edges.origins j (0, [])) (named_rule (vector_at order) (rule_at new j)) g))

      -- each step of a label over positions has its rule
      has_rule : (f : ℕ) (ps : List ℕ) (e : Rule VectorOf) → IsLabelStep (f, ps) e → (j : ℕ) × (j < length new) × IsVectorRule (f, ps) j
      has_rule f ps e s =
          let has : Has edges.origins (f, ps) = edges.whole (f, ps) e (step_gives f ps e s) in
          let a = along_has (GivesBelow (length order)) edges.origins (map (named_rule (vector_at order)) new) (f, ps) spare edges.given has in
          let below : a.0 < length new = omega (arith, a.1, length_map (named_rule (vector_at order)) new) in
          let g : GivesBelow (length order) (f, ps) (named_rule (vector_at order) (rule_at new a.0)) =
          subst (GivesBelow (length order) (f, ps)) (get_map (named_rule (vector_at order)) new a.0 spare no_rule below) a.2
          in
          (a.0, below, vector_rule (f, ps) a.0 below (gives_step (f, ps) (named_rule (vector_at order) (rule_at new a.0)) g))

      pub vector_grammar : IsVectorGrammar product rules order new
      vector_grammar = record {
        normal = λ j h.
            let x = (rule_of j h).1 in
            record { is_label = IsLabel-is (rule_at new j).right.label (get_or edges.origins j (0, [])).0 x.is_label; are_holes = x.are_holes };
        leaves = λ j h.
            let x = (rule_of j h).1 in
            leaves_at_root (rule_at new j).right.label (rule_at new j).right.kids (get_or edges.origins j (0, [])).0 x.is_label x.are_leaves;
        in_range = found.in_range;
        sound = λ j f h l.
            let o : ℕ × List ℕ = get_or edges.origins j (0, []) in
            let x : IsVectorRule o j = (rule_of j h).1 in
            let root : o.0 ≡ f = same_label o.0 f (rule_at new j).right.label x.is_label l in
            subst (λ g. IsStep product rules g (vectors_at order (holes (rule_at new j).right.kids)) (rule_at new j).cost (vector_at order (rule_at new j).left)) root
            (subst (λ (ps : List ℕ). IsStep product rules o.0 (vectors_at order ps) (rule_at new j).cost (vector_at order (rule_at new j).left)) (sym x.holes_are) x.step);
        apart = λ i j h k e.
            let x = rule_of i h in
            let y = rule_of j k in
            let o : ℕ × List ℕ = get_or edges.origins i (0, []) in
            let u : ℕ × List ℕ = get_or edges.origins j (0, []) in
            let root : o.0 ≡ u.0 = same_label o.0 u.0 (rule_at new i).right.label x.1.is_label (ap (λ t. t.label) e ∙ y.1.is_label) in
            let kids : o.1 ≡ u.1 = sym x.1.holes_are ∙ ap (λ t. holes t.kids) e ∙ y.1.holes_are in
            let same : o ≡ u = ap (λ (a : ℕ). (a, o.1)) root ∙ ap (λ (b : List ℕ). (u.0, b)) kids in
            distinct_at edges.origins i j (0, []) edges.once x.0 y.0 same;
        complete = λ f ps b.
            let bound = lefts_below rules in
            elim (step_or_none laws rules bound.0 bound.1 f (vectors_at order ps) (vectors_rise ps b)) [
              | inl s ↦
                  let r = has_rule f ps (record { left = s.1; right = over f (vectors_at order ps); cost = s.0 }) (record { below = b; step = s.2; right = refl }) in
                  inl (r.0, r.1, r.2.is_label, r.2.holes_are)
              | inr nothing ↦ inr nothing
            ];
      }
