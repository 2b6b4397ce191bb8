-- What `invert` writes: one text, and that there is none cannot be where the transducer is of the
-- classes that an inverse demands.
use Rattle.tib_cost.specs.declared.Scale.{Scale}
use Rattle.std.proofs.Common.{◌≡◌, ℕ, ◌<◌, ◌≤◌, ◌++◌, Bool, List, [], ◌∷◌, length, map, get_or, refl, ap, sym, ◌∙◌, subst, arith, suc, inl, inr}
use Rattle.std.proofs.lemmas.List.{length-map}
use Rattle.tib_cost.specs.Semiring.{ProductLaws}
use Rattle.tib_lex.specs.Lists.{Along, Each, Has}
use Rattle.tib_lex.proofs.Members.{each_has, has_at, has_either, has_left, has_right}
use Rattle.tib_lex.proofs.Places.{get_map}
use Rattle.tib_tree.specs.Trees.{Trees, none, tree, only, relabel}
use Rattle.tib_grammar.specs.Sides.{Symbol, label, hole, holes, holes_of, symbol_map, side_map}
use Rattle.tib_grammar_file.specs.ByText.{HaveOneShape}
use Rattle.tib_trim.proofs.Numbered.{few_states}
use Rattle.tib_transducer.specs.Outside.{AllMeet}
use Rattle.tib_transducer.specs.Range.{IsShaped, AreShaped, EndsInHoles, EndInHoles}
use Rattle.tib_transducer.specs.Rules.{transducer_rule, no_rule, variables_of, states_in, variables_in}
use Rattle.tib_transducer.specs.TransducerOf.{TransducerOf}
use Rattle.tib_transducer.specs.declared.Variable.{Variable}
use Rattle.tib_transducer.specs.declared.Pair.{Pair}
use Rattle.tib_transducer.specs.declared.TransducerRule.{TransducerRule}
use Rattle.tib_transducer_file.specs.ByName.{HasText, IsPlainOnLeft, IsPlainOnRight, IsPrintable, states_of}
use Rattle.tib_transducer_file.specs.ByText.{AgreeOnLeft, AgreeOnRight, AreOneTransducerRule, AreOneTransducer}
use Rattle.tib_transducer_file.specs.Printed.{transducer_text}
use Rattle.tib_canon.proofs.Started.{relabel_ends}
use Rattle.tib_rulewise.specs.Inverse.{no_pair, place_of, variable_at, pair_for, inverse_rule, inverse_of}
use Rattle.tib_rulewise.specs.Invertible.{inverse_demands, IsInvertible}
use Rattle.tib_rulewise.proofs.Inverting.{read_long, inverse_states, inverses_shaped, inverses_within, mirrors_to, mirrors_from}
use Rattle.tib_rulewise.proofs.Mirrored.{give_inversely}
use Rattle.tib_operations.specs.Invert.{HasInverseSeries, HasInvertText}
use Rattle.tib_operations.proofs.ShapesPlaced.{each_in_placed, each_in_relabelled, placed_ends, placed_agree}
use Rattle.tib_operations.proofs.TextsAlike.{transducers_alike, text_of_one}

-- inverses of transducers that agree by text agree by text

pair_is : (x y : Pair ℕ) → x.state ≡ y.state → x.variable ≡ y.variable → x ≡ y
pair_is x y e f = ap (λ (q : ℕ). record { state = q; variable = x.variable }) e ∙ ap (λ (n : ℕ). record { state = y.state; variable = n }) f

module _ (labels others : List (List ℕ)) where
  holes_alike : (ts us : Trees (Symbol ℕ (Pair ℕ))) → HaveOneShape (AgreeOnRight labels others) ts us → holes ts ≡ holes us
  holes_alike none none h = refl
  holes_alike none (tree t below more) h = absurd h
  holes_alike (tree s kids rest) none h = absurd h
  holes_alike (tree (label f) kids rest) (tree (label g) below more) h =
      ap (λ (xs : List (Pair ℕ)). xs ++ holes rest) (holes_alike kids below h.1) ∙ ap (λ (xs : List (Pair ℕ)). holes below ++ xs) (holes_alike rest more h.2)
  holes_alike (tree (label f) kids rest) (tree (hole y) below more) h = absurd h.0
  holes_alike (tree (hole x) kids rest) (tree (label g) below more) h = absurd h.0
  holes_alike (tree (hole x) kids rest) (tree (hole y) below more) h =
      ap (λ (z : Pair ℕ). z ∷ holes rest) (pair_is x y h.0.0 h.0.1) ∙ ap (λ (xs : List (Pair ℕ)). y ∷ xs) (holes_alike rest more h.2)

  paired_agree :
      (pairs : List (Pair ℕ)) (ts us : Trees (Symbol ℕ Variable)) → HaveOneShape (AgreeOnLeft labels others) ts us →
      HaveOneShape (AgreeOnRight labels others) (relabel (symbol_map (pair_for pairs)) ts) (relabel (symbol_map (pair_for pairs)) us)
  paired_agree pairs none none h = tt
  paired_agree pairs none (tree t below more) h = absurd h
  paired_agree pairs (tree s kids rest) none h = absurd h
  paired_agree pairs (tree (label f) kids rest) (tree (label g) below more) h = (h.0, paired_agree pairs kids below h.1, paired_agree pairs rest more h.2)
  paired_agree pairs (tree (label f) kids rest) (tree (hole y) below more) h = absurd h.0
  paired_agree pairs (tree (hole x) kids rest) (tree (label g) below more) h = absurd h.0
  paired_agree pairs (tree (hole x) kids rest) (tree (hole y) below more) h = (
    (ap (λ (n : ℕ). (get_or pairs (place_of pairs n) no_pair).state) h.0.0, ap (place_of pairs) h.0.0),
    paired_agree pairs kids below h.1,
    paired_agree pairs rest more h.2,
  )

  inverse_agrees : (r s : TransducerRule ℕ) → AreOneTransducerRule labels others r s → AreOneTransducerRule labels others (inverse_rule r) (inverse_rule s)
  inverse_agrees r s a = record {
    state = a.state;
    left = placed_agree (AgreeOnRight labels others) (AgreeOnLeft labels others) variable_at (λ f g h. h) (λ n x y h. (refl, tt)) (λ f x h. h) (λ x f h. h) r.right s.right a.right;
    right = subst (λ (ps : List (Pair ℕ)). HaveOneShape (AgreeOnRight labels others) (only (side_map (pair_for (holes_of r.right)) r.left)) (only (side_map (pair_for ps) s.left))) (holes_alike (only r.right) (only s.right) a.right)
        (paired_agree (holes_of r.right) (only r.left) (only s.left) a.left);
    cost = a.cost;
  }

  inverses_agree :
      (rs ss : List (TransducerRule ℕ)) → Along (AreOneTransducerRule labels others) rs ss → Along (AreOneTransducerRule labels others) (map inverse_rule rs) (map inverse_rule ss)
  inverses_agree [] [] a = tt
  inverses_agree [] (s ∷ ss) a = absurd a
  inverses_agree (r ∷ rs) [] a = absurd a
  inverses_agree (r ∷ rs) (s ∷ ss) a = (inverse_agrees r s a.0, inverses_agree rs ss a.1)

-- transducers that agree by the texts of their labels have one text of their inverses
pub invert_once :
    (scale : Scale) (product : ℕ → ℕ → ℕ) (labels others : List (List ℕ)) (t u : TransducerOf) (text other : List ℕ) → AreOneTransducer labels others t u → HasInvertText scale product labels t text →
    HasInvertText scale product others u other → text ≡ other
invert_once scale product labels others t u text other agree a b =
    a.are
    ∙ ap (transducer_text scale labels) a.canonical
    ∙ transducers_alike labels others scale (inverse_of t) (inverse_of u) (record { names = agree.names; rules = inverses_agree labels others t.rules u.rules agree.rules })
    ∙ ap (transducer_text scale others) (sym b.canonical)
    ∙ sym b.are

-- the inverse of one rule can be printed
module _ (scale : Scale) (labels : List (List ℕ)) (r : TransducerRule ℕ) (shaped : IsShaped r) (invertible : IsInvertible r) where
  as_few : length (holes_of r.right) ≤ length (variables_of r.left)
  as_few =
      omega (
        arith,
        few_states (variables_in r.right) (length (variables_of r.left)) (invertible.linear refl) (λ i b. each_has (λ j. j < length (variables_of r.left)) (variables_in r.right) (get_or (variables_in r.right) i 0) shaped.known (has_at (variables_in r.right) i 0 b)),
        length-map (holes_of r.right) (λ (z : Pair ℕ). z.variable),
      )

  inverse_printable : IsPrintable scale labels r → IsPrintable scale labels (inverse_rule r)
  inverse_printable p = record {
    left = each_in_placed (IsPlainOnRight labels) (IsPlainOnLeft labels) (λ f h. h) variable_at (λ n x. tt) r.right p.right;
    right = each_in_relabelled (IsPlainOnLeft labels) (IsPlainOnRight labels) (λ f h. h) (pair_for (holes_of r.right)) (λ x. tt) r.left p.left;
    few = omega (arith, read_long r shaped (invertible.linear refl) (invertible.nondeleting refl), as_few, p.few);
    cost = p.cost;
  }

inverses_printable :
    (scale : Scale) (labels : List (List ℕ)) (rules : List (TransducerRule ℕ)) → AreShaped rules → AllMeet inverse_demands rules → Each (IsPrintable scale labels) rules → Each (IsPrintable scale labels) (map inverse_rule rules)
inverses_printable scale labels [] shaped met p = tt
inverses_printable scale labels (r ∷ rules) shaped met p = (
  inverse_printable scale labels r (shaped 0 (omega arith)) (met 0 (omega arith)) p.0,
  inverses_printable scale labels rules (λ n b. shaped (suc n) (omega arith)) (λ n b. met (suc n) (omega arith)) p.1,
)

-- each state still stands in a rule
inverses_stand : (rules : List (TransducerRule ℕ)) → AreShaped rules → AllMeet inverse_demands rules → (q : ℕ) → Has (states_of rules) q → Has (states_of (map inverse_rule rules)) q
inverses_stand [] shaped met q h = h
inverses_stand (r ∷ rules) shaped met q (inl e) = inl e
inverses_stand (r ∷ rules) shaped met q (inr h) =
    let m = met 0 (omega arith) in
    inr (elim (has_either (states_in r.right) (states_of rules) q h) [
      | inl k ↦ has_left (states_in (inverse_rule r).right) (states_of (map inverse_rule rules)) q (inverse_states r (shaped 0 (omega arith)) (m.linear refl) (m.nondeleting refl) q k)
      | inr k ↦
          has_right (states_in (inverse_rule r).right) (states_of (map inverse_rule rules)) q (inverses_stand rules (λ n b. shaped (suc n) (omega arith)) (λ n b. met (suc n) (omega arith)) q k)
    ])

inverses_end : (rules : List (TransducerRule ℕ)) → EndInHoles rules → EndInHoles (map inverse_rule rules)
inverses_end rules leaves n h =
    let low : n < length rules = omega (arith, h, length-map rules inverse_rule) in
    let r : TransducerRule ℕ = transducer_rule rules n in
    subst EndsInHoles (sym (get_map inverse_rule rules n no_rule no_rule low)) (placed_ends variable_at r.right, relabel_ends (pair_for (holes_of r.right)) (only r.left) (leaves n low).0)

module _ {levelled weighed : Bool} {product : ℕ → ℕ → ℕ} (laws : ProductLaws levelled weighed product) (scale : Scale) (labels : List (List ℕ)) (t : TransducerOf) (h : HasText scale labels t) (met : AllMeet inverse_demands t.rules) where
  -- the inverse of a transducer that has a text has one
  pub inverse_has_text : HasText scale labels (inverse_of t)
  inverse_has_text = record {
    start = h.start;
    names = h.names;
    range = inverses_within t.rules h.shaped met (length t.names) h.range;
    shaped = inverses_shaped t.rules h.shaped met;
    leaves = inverses_end t.rules h.leaves;
    stand = λ q some low. inverses_stand t.rules h.shaped met q (h.stand q some low);
    printable = inverses_printable scale labels t.rules h.shaped met h.printable;
  }

  inverse_series : HasInverseSeries product t.rules (map inverse_rule t.rules)
  inverse_series x y v = give_inversely laws t.rules (map inverse_rule t.rules) (mirrors_to t.rules h.shaped met) (mirrors_from t.rules h.shaped met) 0 x y v

  -- what is printed of it is the text of the inverse
  pub inverse_text : (text : List ℕ) → text ≡ transducer_text scale labels (inverse_of t) → HasInvertText scale product labels t text
  inverse_text text are =
      text_of_one scale labels (inverse_of t) (λ k. k ≡ inverse_of t) (HasInverseSeries product t.rules) product text inverse_has_text refl inverse_series
      (λ rules same x y v. let s = same y x v in let own = inverse_series x y v in (λ k. own.0 (s.1 k), λ k. s.0 (own.1 k)))
      are

  pub invert_there : ((text : List ℕ) → HasInvertText scale product labels t text → ⊥) → ⊥
  invert_there never = never (transducer_text scale labels (inverse_of t)) (inverse_text (transducer_text scale labels (inverse_of t)) refl)
