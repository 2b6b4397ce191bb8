-- The composite transducer of the examples.
use Rattle.std.specs.Prelude.{◌≡◌, ℕ, ◌+◌, ◌<◌, List, [], ◌∷◌, Option, None, Some, refl}
use Rattle.std.proofs.Common.{zero, suc, arith, ap, inl, inr}
use Rattle.tib_lex.specs.Lists.{Has}
use Rattle.tib_tree.specs.Trees.{Trees, none, tree, only}
use Rattle.tib_grammar.specs.Sides.{Symbol, label, hole}
use Rattle.tib_grammar.specs.Range.{AllBelow}
use Rattle.tib_key_edges.specs.Ends.{key_at}
use Rattle.tib_transducer.specs.Rules.{transducer_rule, states_in}
use Rattle.tib_key_edges.specs.Named.{named_transducer_rule}
use Rattle.tib_transducer.specs.Range.{AreShaped, IsShaped}
use Rattle.tib_key_edges.specs.Translations.{AreTranslations}
use Rattle.tib_key_edges.specs.Composing.{GivesEdge, IsComposite}
use Rattle.tib_key_edges.specs.Examples.{copying, turning, composite, at_pair, at_leaf}
use Rattle.tib_transducer.specs.declared.TransducerRule.{TransducerRule}

-- the first two numbers
below_two : (P : ℕ → Type 0) → P 0 → P 1 → (n : ℕ) → n < 2 → P n
below_two P a b zero h = a
below_two P a b (suc zero) h = b
below_two P a b (suc (suc n)) h = absurd (omega arith)

-- the rules have their shape
pub shaped : AreShaped turning
shaped = below_two (λ n. IsShaped (transducer_rule turning n))
    record { begins = record { root = 2; is_root = refl }; numbered = (refl, (refl, tt)); known = (omega arith, (omega arith, tt)) }
    record { begins = record { root = 4; is_root = refl }; numbered = tt; known = tt }

abbrev label_at : {P : Type 0} → ℕ → Symbol ℕ P → ℕ
label_at d (label f) = f
label_at d (hole p) = d

-- each right-hand side has one choice
at_pair_only : (choice : Trees (Option ℕ)) → AreTranslations turning (0 ∷ []) (only (transducer_rule copying 0).right) choice → at_pair ≡ choice
at_pair_only none t = absurd t
at_pair_only (tree None below more) t = absurd t
at_pair_only (tree (Some zero) none more) t = absurd t.3
at_pair_only (tree (Some zero) (tree None none none) more) t = absurd t.3
at_pair_only (tree (Some zero) (tree None none (tree None none none)) none) t = refl
at_pair_only (tree (Some zero) (tree None none (tree None none none)) (tree c b m)) t = absurd t.4
at_pair_only (tree (Some zero) (tree None none (tree None none (tree c b m))) more) t = absurd t.3
at_pair_only (tree (Some zero) (tree None none (tree None (tree c b m) k)) more) t = absurd t.3
at_pair_only (tree (Some zero) (tree None none (tree (Some n) b k)) more) t = absurd t.3
at_pair_only (tree (Some zero) (tree None (tree c b m) k) more) t = absurd t.3
at_pair_only (tree (Some zero) (tree (Some n) b k) more) t = absurd t.3
at_pair_only (tree (Some (suc zero)) below more) t = absurd (let e : 4 ≡ 2 = ap (λ s. label_at 0 s) t.2.root in omega arith)
at_pair_only (tree (Some (suc (suc n))) below more) t = absurd (let h = t.0 in omega arith)

at_leaf_only : (choice : Trees (Option ℕ)) → AreTranslations turning (0 ∷ []) (only (transducer_rule copying 1).right) choice → at_leaf ≡ choice
at_leaf_only none t = absurd t
at_leaf_only (tree None below more) t = absurd t
at_leaf_only (tree (Some zero) below more) t = absurd (let e : 2 ≡ 4 = ap (λ s. label_at 0 s) t.2.root in omega arith)
at_leaf_only (tree (Some (suc zero)) none none) t = refl
at_leaf_only (tree (Some (suc zero)) none (tree c b m)) t = absurd t.4
at_leaf_only (tree (Some (suc zero)) (tree c b m) more) t = absurd t.3
at_leaf_only (tree (Some (suc (suc n))) below more) t = absurd (let h = t.0 in omega arith)

abbrev Origin : Type 0
Origin = ℕ × (ℕ × Trees (Option ℕ))

abbrev origins : List Origin
origins = (0, (0, at_pair)) ∷ (0, (1, at_leaf)) ∷ []

stand : (k n : ℕ) (choice : Trees (Option ℕ)) (e : TransducerRule (ℕ × ℕ)) → GivesEdge ◌+◌ copying turning ((0, 0) ∷ []) (k, (n, choice)) e → Has {A = Origin} origins (k, (n, choice))
stand zero zero choice e g = inl (ap (λ z. (0, (0, z))) (at_pair_only choice g.1.choice))
stand zero (suc zero) choice e g = inr (inl (ap (λ z. (0, (1, z))) (at_leaf_only choice g.1.choice)))
stand zero (suc (suc n)) choice e g = absurd (let h = g.1.below in omega arith)
stand (suc k) n choice e g = absurd (let h = g.0 in omega arith)

-- it is the composite transducer
pub composite_is : IsComposite ◌+◌ copying turning ((0, 0) ∷ []) composite
composite_is = record {
  long = omega arith;
  start = refl;
  once = (λ h. h, tt);
  in_range = below_two (λ m. ((transducer_rule composite m).state < 1) × AllBelow 1 (states_in (transducer_rule composite m).right))
      (omega arith, (omega arith, (omega arith, tt)))
      (omega arith, tt);
  edges = record {
    origins = origins;
    once = (
      λ h. elim h [ inl e ↦ absurd (let k : 1 ≡ 0 = ap (λ (x : Origin). x.1.0) e in omega arith) | inr a ↦ a ],
      (λ h. h, tt),
    );
    given = (first, (second, tt));
    whole = λ o e g. stand o.0 o.1.0 o.1.1 e g;
  };
}
  where
    first : GivesEdge ◌+◌ copying turning ((0, 0) ∷ []) (0, (0, at_pair)) (named_transducer_rule (key_at ((0, 0) ∷ [])) (transducer_rule composite 0))
    first = (
      omega arith,
      record {
        below = omega arith;
        from = refl;
        choice = (omega arith, refl, record { root = refl; variables = tt; rank = refl }, tt, tt);
        state = refl;
        left = refl;
        right = refl;
        costs = refl;
        within = omega arith;
      },
    )

    second : GivesEdge ◌+◌ copying turning ((0, 0) ∷ []) (0, (1, at_leaf)) (named_transducer_rule (key_at ((0, 0) ∷ [])) (transducer_rule composite 1))
    second = (
      omega arith,
      record {
        below = omega arith;
        from = refl;
        choice = (omega arith, refl, record { root = refl; variables = tt; rank = refl }, tt, tt);
        state = refl;
        left = refl;
        right = refl;
        costs = refl;
        within = omega arith;
      },
    )
