-- The least cost of a choice that translates a side.
use Rattle.std.specs.Prelude.{◌≡◌, ℕ, ◌<◌, ◌≤◌, ◌⊎◌, List, [], ◌∷◌, map, length, Bool, true, false, if◌then◌else◌, Option, None, Some, refl}
use Rattle.std.proofs.Common.{zero, suc, arith, ap, sym, ◌∙◌, subst, inl, inr}
use Rattle.tib_lex.specs.Lists.{Each}
use Rattle.tib_tree.specs.Trees.{Tree, Trees, none, tree, only, count, join}
use Rattle.tib_grammar.specs.Sides.{Symbol, label, hole, Side as SideFor, holes_of}
use Rattle.tib_cost.specs.Semiring.{ProductLaws}
use Rattle.tib_cost.specs.Least.{IsLeast, Products, lesser, times}
use Rattle.tib_cost.proofs.Least.{IsLeast-same, IsLeast-none, IsLeast-either, IsLeast-products, IsLeast-scaled}
use Rattle.tib_cost.proofs.Times.{product-zero}
use Rattle.tib_transducer.specs.Rules.{transducer_rule, states_in, variables_in}
use Rattle.tib_transducer.specs.Run.{tree_at, pick}
use Rattle.tib_transducer.specs.Range.{AreShaped}
use Rattle.tib_key_edges.specs.Translations.{AreTranslations, choice_cost}
use Rattle.tib_key_edges.specs.Choices.{reads_label}
use Rattle.tib_key_edges.specs.Leasts.{HasChoiceCost, least_joined, least_by_rules, least_at, least_of}
use Rattle.tib_transducer.specs.declared.Pair.{Pair}
use Rattle.tib_transducer.specs.declared.TransducerRule.{TransducerRule}
use Rattle.tib_key_edges.proofs.Filling.{one_of}
use Rattle.tib_key_edges.proofs.Permuted.{tree_at-one}
use Rattle.tib_key_edges.proofs.Choosing.{choice_join, choice_split, reads_over, over_reads, within_sides}
use Rattle.tib_key_edges.proofs.Searching.{cost_join}

module _ {levelled weighted : Bool} {product : ℕ → ℕ → ℕ} (laws : ProductLaws levelled weighted product) (two : List (TransducerRule ℕ)) (shaped : AreShaped two) where
  -- the table has the least costs of the sides
  abbrev Told : Trees (Symbol ℕ (Pair ℕ)) → (ℕ → ℕ → Option ℕ) → Type 0
  Told sides least = (i p : ℕ) → i < count sides → IsLeast (HasChoiceCost product two (tree_at sides i) (p ∷ [])) (least i p)

  no_side : IsLeast (HasChoiceCost product two none []) (Some 0)
  no_side = record { attained = ((none, tt, refl), omega arith); lower = λ n c b. omega arith }

  joined_told :
      (sides : Trees (Symbol ℕ (Pair ℕ))) (least : ℕ → ℕ → Option ℕ) → Told sides least → (xs : List (Pair ℕ)) → Each (λ i. i < count sides) (map (λ x. x.variable) xs) →
      IsLeast (HasChoiceCost product two (pick sides (map (λ x. x.variable) xs)) (map (λ x. x.state) xs)) (least_joined product two least xs)
  joined_told sides least told [] h = no_side
  joined_told sides least told (x ∷ xs) h =
      IsLeast-same to back (IsLeast-products laws (told x.variable x.state h.0) (joined_told sides least told xs h.1))
    where
      others : Trees (Symbol ℕ (Pair ℕ))
      others = pick sides (map (λ y. y.variable) xs)

      states : List ℕ
      states = map (λ y. y.state) xs

      alone : (t : Tree (Symbol ℕ (Pair ℕ))) × (tree_at sides x.variable ≡ only t)
      alone = one_of (tree_at sides x.variable) (tree_at-one sides x.variable h.0)

      to : (n : ℕ) → Products product (HasChoiceCost product two (tree_at sides x.variable) (x.state ∷ [])) (HasChoiceCost product two others states) n → HasChoiceCost product two (join (tree_at sides x.variable) others) (x.state ∷ states) n
      to n k =
          let one = subst (λ z. AreTranslations two (x.state ∷ []) z k.2.0) alone.1 k.2.1 in (
            join k.2.0 k.3.0,
            subst (λ z. AreTranslations two (x.state ∷ states) (join z others) (join k.2.0 k.3.0)) (sym alone.1) (choice_join two x.state states alone.0.label alone.0.kids others k.2.0 k.3.0 one k.3.1),
            cost_join laws two k.2.0 k.3.0 ∙ ap (λ z. product z (choice_cost product two k.3.0)) k.2.2 ∙ ap (product k.0) k.3.2 ∙ k.4,
          )

      back : (n : ℕ) → HasChoiceCost product two (join (tree_at sides x.variable) others) (x.state ∷ states) n → Products product (HasChoiceCost product two (tree_at sides x.variable) (x.state ∷ [])) (HasChoiceCost product two others states) n
      back n k =
          let s = choice_split two x.state states alone.0.label alone.0.kids others k.0 (subst (λ z. AreTranslations two (x.state ∷ states) (join z others) k.0) alone.1 k.1) in (
            choice_cost product two s.0,
            choice_cost product two s.1,
            (s.0, subst (λ z. AreTranslations two (x.state ∷ []) z s.0) (sym alone.1) s.2, refl),
            (s.1, s.3, refl),
            sym (cost_join laws two s.0 s.1) ∙ ap (choice_cost product two) s.4 ∙ k.2,
          )

  -- c is the cost of a choice by one of the first rules
  record ByRule (p f : ℕ) (kids : Trees (Symbol ℕ (Pair ℕ))) (m c : ℕ) : Type 0 where
    rule : ℕ
    below : rule < m
    reads : reads_label p f (count kids) (transducer_rule two rule) ≡ true
    inner : ℕ
    has : HasChoiceCost product two (pick kids (variables_in (transducer_rule two rule).right)) (states_in (transducer_rule two rule).right) inner
    costs : product (transducer_rule two rule).cost inner ≡ c

  by_rule : (p f : ℕ) (kids : Trees (Symbol ℕ (Pair ℕ))) (least : ℕ → ℕ → Option ℕ) → Told kids least → (m : ℕ) → m ≤ length two → IsLeast (ByRule p f kids m) (least_by_rules product two least p f (count kids) m)
  by_rule p f kids least told zero h = IsLeast-none (λ n b. let low = b.below in omega (arith, low))
  by_rule p f kids least told (suc m) h = step (reads_label p f (count kids) (transducer_rule two m)) refl (by_rule p f kids least told m (omega arith))
    where
      last : Option ℕ
      last = times product (Some (transducer_rule two m).cost) (least_joined product two least (holes_of (transducer_rule two m).right))

      more : (n : ℕ) → ByRule p f kids m n → ByRule p f kids (suc m) n
      more n b = record { rule = b.rule; below = (let low = b.below in omega (arith, low)); reads = b.reads; inner = b.inner; has = b.has; costs = b.costs }

      less : (n : ℕ) (b : ByRule p f kids (suc m) n) → (b.rule ≡ m → ⊥) → ByRule p f kids m n
      less n b other = record { rule = b.rule; below = (let low = b.below in omega (arith, low, other)); reads = b.reads; inner = b.inner; has = b.has; costs = b.costs }

      same_cases : (i j : ℕ) → (i ≡ j) ⊎ (i ≡ j → ⊥)
      same_cases i j = grind arith

      step :
          (b : Bool) → reads_label p f (count kids) (transducer_rule two m) ≡ b → IsLeast (ByRule p f kids m) (least_by_rules product two least p f (count kids) m) →
          IsLeast (ByRule p f kids (suc m)) (if b then lesser (least_by_rules product two least p f (count kids) m) last else least_by_rules product two least p f (count kids) m)
      step false e before =
          IsLeast-same more (λ n b. less n b (λ same. let d : true ≡ false = sym b.reads ∙ ap (λ z. reads_label p f (count kids) (transducer_rule two z)) same ∙ e in cc)) before
      step true e before =
          let here = joined_told kids least told (holes_of (transducer_rule two m).right) (within_sides two shaped p f kids m (omega arith) e) in
          IsLeast-same
          (λ n x. elim x [
            | inl b ↦ more n b
            | inr k ↦ record { rule = m; below = omega arith; reads = e; inner = k.1; has = k.3; costs = ap (λ z. product z k.1) (sym k.2) ∙ k.4 }
          ])
          (λ n b. elim (same_cases b.rule m) [
            | inl same ↦ inr (
              (transducer_rule two m).cost,
              b.inner,
              refl,
              subst (λ z. HasChoiceCost product two (pick kids (variables_in (transducer_rule two z).right)) (states_in (transducer_rule two z).right) b.inner) same b.has,
              ap (λ z. product (transducer_rule two z).cost b.inner) (sym same) ∙ b.costs,
            )
            | inr other ↦ inl (less n b other)
          ])
          (IsLeast-either before (IsLeast-scaled laws (transducer_rule two m).cost here))

  at_label : (p f : ℕ) (kids : Trees (Symbol ℕ (Pair ℕ))) (least : ℕ → ℕ → Option ℕ) → Told kids least → IsLeast (HasChoiceCost product two (tree (label f) kids none) (p ∷ [])) (least_by_rules product two least p f (count kids) (length two))
  at_label p f kids least told = IsLeast-same to (λ n k. back n k.0 k.1 k.2) (by_rule p f kids least told (length two) (omega arith))
    where
      to : (n : ℕ) → ByRule p f kids (length two) n → HasChoiceCost product two (tree (label f) kids none) (p ∷ []) n
      to n b =
          let o = reads_over p f (count kids) (transducer_rule two b.rule) b.reads in (
            tree (Some b.rule) b.has.0 none,
            (b.below, o.0, o.1, b.has.1, tt),
            product-zero laws (product (transducer_rule two b.rule).cost (choice_cost product two b.has.0)) ∙ ap (product (transducer_rule two b.rule).cost) b.has.2 ∙ b.costs,
          )

      back : (n : ℕ) (c : Trees (Option ℕ)) → AreTranslations two (p ∷ []) (tree (label f) kids none) c → choice_cost product two c ≡ n → ByRule p f kids (length two) n
      back n none t e = absurd t
      back n (tree None below more) t e = absurd t
      back n (tree (Some m) below (tree c b k)) t e = absurd t.4
      back n (tree (Some m) below none) t e = record {
        rule = m;
        below = t.0;
        reads = over_reads p f (count kids) (transducer_rule two m) t.1 t.2;
        inner = choice_cost product two below;
        has = (below, t.3, refl);
        costs = sym (product-zero laws (product (transducer_rule two m).cost (choice_cost product two below))) ∙ e;
      }

  at_pair : (p : ℕ) (x : Pair ℕ) (kids : Trees (Symbol ℕ (Pair ℕ))) → IsLeast (HasChoiceCost product two (tree (hole x) kids none) (p ∷ [])) (Some 0)
  at_pair p x kids = record { attained = ((tree None none none, tt, refl), omega arith); lower = λ n c b. omega arith }

  all_told : (sides : Trees (Symbol ℕ (Pair ℕ))) → Told sides (λ i p. least_at product two sides i p)
  all_told none i p h = absurd (omega arith)
  all_told (tree (hole x) kids rest) zero p h = at_pair p x kids
  all_told (tree (label f) kids rest) zero p h = at_label p f kids (λ i q. least_at product two kids i q) (all_told kids)
  all_told (tree (hole x) kids rest) (suc i) p h = all_told rest i p (omega arith)
  all_told (tree (label f) kids rest) (suc i) p h = all_told rest i p (omega arith)

  -- the computed cost is the least of all choices
  pub leasts_are_least : (p : ℕ) (s : SideFor ℕ (Pair ℕ)) → IsLeast (HasChoiceCost product two (only s) (p ∷ [])) (least_of product two p s)
  leasts_are_least p s = all_told (only s) 0 p (omega arith)
