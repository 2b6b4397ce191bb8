-- Deterministic form with new numbers of states, of some of the rules.
use Rattle.std.specs.Prelude.{◌≡◌, ℕ, ◌<◌, List, length, map, refl}
use Rattle.std.proofs.Common.{ap, sym, ◌∙◌, subst, inl, inr}
use Rattle.tib_lex.specs.Lists.{Has}
use Rattle.tib_lex.proofs.Lists.{mapped_has}
use Rattle.tib_tree.specs.Trees.{Trees, none, tree, relabel, only}
use Rattle.tib_grammar.specs.Sides.{Symbol, label, hole, Side as SideFor, symbol_map, side_map, holes_of, AreHoles, Lone}
use Rattle.tib_grammar.specs.Run.{rule_at}
use Rattle.tib_grammar.specs.Forms.{IsLabel, IsNormalSide, IsLoneState, StandsInSide, IsShaped, IsDeterministic}
use Rattle.tib_grammar.specs.GrammarOf.{named_rule}
use Rattle.tib_grammar.specs.declared.Rule.{Rule}
use Rattle.tib_grammar.proofs.Sides.{holes-relabel}

-- sides, back from what they are with their states exchanged

normal_back : (g : ℕ → ℕ) (s : SideFor ℕ ℕ) → IsNormalSide (side_map g s) → IsNormalSide s
normal_back g s n = record { is_label = labelled s.label n.is_label; are_holes = all_holes s.kids n.are_holes }
  where
    labelled : (x : Symbol ℕ ℕ) → IsLabel (symbol_map {A = ℕ} g x) → IsLabel x
    labelled (label f) h = tt
    labelled (hole p) h = absurd h

    all_holes : (ts : Trees (Symbol ℕ ℕ)) → AreHoles (relabel (symbol_map {A = ℕ} g) ts) → AreHoles ts
    all_holes none h = tt
    all_holes (tree (label f) kids rest) h = absurd h
    all_holes (tree (hole p) kids rest) h = all_holes rest h

lone_back : (g : ℕ → ℕ) (s : SideFor ℕ ℕ) (p : ℕ) → side_map g s ≡ Lone p → IsLoneState s
lone_back g s p e = by s.label s.kids (ap (λ (t : SideFor ℕ ℕ). t.label) e) (ap (λ (t : SideFor ℕ ℕ). t.kids) e)
  where
    by : (x : Symbol ℕ ℕ) (kids : Trees (Symbol ℕ ℕ)) → symbol_map {A = ℕ} g x ≡ hole p → relabel (symbol_map {A = ℕ} g) kids ≡ none → IsLoneState (record { label = x; kids = kids })
    by (label f) kids h k = absurd (cc)
    by (hole q) none h k = record { state = q; is = refl }
    by (hole q) (tree s more rest) h k = absurd (cc)

-- Each new rule is an old one with new numbers, at a place of its own, and the start keeps its
-- number.
pub record AreSomeOf (g : ℕ → ℕ) (place : ℕ → ℕ) (old new : List (Rule ℕ)) : Type 0 where
  pub below : (j : ℕ) → j < length new → place j < length old
  pub named : (j : ℕ) → j < length new → named_rule g (rule_at new j) ≡ rule_at old (place j)
  pub once : (i j : ℕ) → i < length new → j < length new → place i ≡ place j → i ≡ j
  pub start : g 0 ≡ 0
  pub lefts : (j : ℕ) → j < length new → g (rule_at new j).left ≡ 0 → (rule_at new j).left ≡ 0

module _ (g : ℕ → ℕ) (place : ℕ → ℕ) (old new : List (Rule ℕ)) (some : AreSomeOf g place old new) where
  stands_back : StandsInSide new 0 → StandsInSide old 0
  stands_back s = record {
    rule = place s.rule;
    below = some.below s.rule s.below;
    stands = subst (λ (r : Rule ℕ). Has {A = ℕ} (holes_of r.right) 0) (some.named s.rule s.below)
        (subst (λ (ps : List ℕ). Has {A = ℕ} ps 0) (sym (holes-relabel g (only (rule_at new s.rule).right)))
        (subst (λ (q : ℕ). Has {A = ℕ} (map g (holes_of (rule_at new s.rule).right)) q) some.start (mapped_has g (holes_of (rule_at new s.rule).right) 0 s.stands)));
  }

  shaped_back : (form : IsDeterministic old) (j : ℕ) → j < length new → IsShaped new (rule_at new j)
  shaped_back form j h =
      let is : named_rule g (rule_at new j) ≡ rule_at old (place j) = some.named j h in
      elim (form.shaped (place j) (some.below j h)) [
        | inl normal ↦ inl (normal_back g (rule_at new j).right (subst (λ (r : Rule ℕ). IsNormalSide r.right) (sym is) normal))
        | inr chain ↦ inr (record {
          left = some.lefts j h (ap (λ (r : Rule ℕ). r.left) is ∙ chain.left);
          lone = lone_back g (rule_at new j).right chain.lone.state (ap (λ (r : Rule ℕ). r.right) is ∙ chain.lone.is);
          apart = λ s. chain.apart (stands_back s);
        })
      ]

  pub deterministic_back : IsDeterministic old → IsDeterministic new
  deterministic_back form = record {
    shaped = shaped_back form;
    apart = λ i j h k e. some.once i j h k
        (form.apart (place i) (place j) (some.below i h) (some.below j k)
        (sym (ap (λ (r : Rule ℕ). r.right) (some.named i h)) ∙ ap (λ (s : SideFor ℕ ℕ). side_map g s) e ∙ ap (λ (r : Rule ℕ). r.right) (some.named j k)));
  }
