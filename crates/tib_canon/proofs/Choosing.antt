-- The positions of the cheapest rules, rule by rule.
use Rattle.std.proofs.Common.{◌≡◌, ℕ, ◌+◌, ◌<◌, List, [], ◌∷◌, ◌++◌, length, set, get_or, refl, arith, ap, sym, ◌∙◌, subst}
use Rattle.std.specs.Prelude.{Option, None, Some}
use Rattle.tib_tree.specs.Trees.{preorder_of}
use Rattle.tib_grammar.specs.Run.{rule_at}
use Rattle.tib_grammar.specs.declared.Rule.{Rule}
use Rattle.tib_grammar.proofs.Holes.{pairs_same, side_same}
use Rattle.tib_canon.specs.Canonical.{AgreeInSides}
use Rattle.tib_canon.specs.Merging.{Sides, no_sides, AreSidesOf, IsCheaper, HasCheaperAt, AreCheapest, IsChosenFor, IsChoosing, IsNoted}
use Rattle.tib_lex.proofs.Members.{has_at, at_has, distinct_from}
use Rattle.tib_canon.proofs.Chosen.{chosen_new, chosen_before}

-- rules with the same sides agree, and the other way round
agree_from : (k : Sides) (r s : Rule ℕ) → AreSidesOf k r → AreSidesOf k s → AgreeInSides r s
agree_from k r s a b = record { left = sym a.0 ∙ b.0; right = side_same r.right s.right (sym a.1 ∙ b.1) }

sides_from : (j k : Sides) (r s : Rule ℕ) → AreSidesOf j r → AreSidesOf k s → AgreeInSides r s → j ≡ k
sides_from j k r s a b e =
    let left : j.0 ≡ k.0 = a.0 ∙ e.left ∙ sym b.0 in
    let right : j.1 ≡ k.1 = pairs_same j.1 k.1 (a.1 ∙ ap preorder_of e.right ∙ sym b.1) in
    ap (λ x. (x, j.1)) left ∙ ap (λ x. (k.0, x)) right

pub nothing_chosen : (rules : List (Rule ℕ)) → IsChoosing rules 0 [] []
nothing_chosen rules = record {
  long = refl;
  few = omega arith;
  distinct = λ i j h k e. absurd (omega arith);
  below = λ i h. absurd (omega arith);
  are = λ i h. absurd (omega arith);
  whole = λ m h. absurd (omega arith);
}

-- all rules were looked at
pub all_chosen : (rules : List (Rule ℕ)) (n : ℕ) (sides : List Sides) (best : List ℕ) → n ≡ length rules → IsChoosing rules n sides best → AreCheapest rules best
all_chosen rules n sides best all c = record {
  below = λ p h. let a = at_has best p 0 h in omega (arith, all, a.2, c.below a.0 a.1);
  few = omega (arith, all, c.few);
  distinct = distinct_from best 0 (λ i j h k e. c.distinct i j (omega (arith, c.long)) (omega (arith, c.long)) (alike i j h k (subst (λ q. AgreeInSides (rule_at rules (get_or best i 0)) (rule_at rules q)) e (record { left = refl; right = refl }))));
  apart = λ p q h k e. apart p q e (at_has best p 0 h) (at_has best q 0 k);
  whole = λ m h. whole m (c.whole m (omega (arith, all)));
}
  where
    alike : (i j : ℕ) → i < length best → j < length best → AgreeInSides (rule_at rules (get_or best i 0)) (rule_at rules (get_or best j 0)) → get_or sides i no_sides ≡ get_or sides j no_sides
    alike i j h k e = sides_from (get_or sides i no_sides) (get_or sides j no_sides) (rule_at rules (get_or best i 0)) (rule_at rules (get_or best j 0)) (c.are i h) (c.are j k) e

    apart : (p q : ℕ) → AgreeInSides (rule_at rules p) (rule_at rules q) → (i : ℕ) × (i < length best) × (get_or best i 0 ≡ p) → (j : ℕ) × (j < length best) × (get_or best j 0 ≡ q) → p ≡ q
    apart p q e a b =
        let first : AgreeInSides (rule_at rules (get_or best a.0 0)) (rule_at rules q) = subst (λ x. AgreeInSides (rule_at rules x) (rule_at rules q)) (sym a.2) e in
        let both : AgreeInSides (rule_at rules (get_or best a.0 0)) (rule_at rules (get_or best b.0 0)) = subst (λ x. AgreeInSides (rule_at rules (get_or best a.0 0)) (rule_at rules x)) (sym b.2) first in
        let same : a.0 ≡ b.0 = c.distinct a.0 b.0 (omega (arith, c.long, a.1)) (omega (arith, c.long, b.1)) (alike a.0 b.0 a.1 b.1 both) in
        sym a.2 ∙ ap (λ i. get_or best i 0) same ∙ b.2

    whole : (m : ℕ) → (i : ℕ) × IsChosenFor rules sides best m i → HasCheaperAt rules best (rule_at rules m)
    whole m w = record {
      position = get_or best w.0 0;
      stands = has_at best w.0 0 w.1.below;
      agrees = agree_from (get_or sides w.0 no_sides) (rule_at rules (get_or best w.0 0)) (rule_at rules m) (c.are w.0 w.1.below) w.1.sides_are;
      costs = w.1.costs;
    }

-- one more rule, by what was noted
pub step_new :
    (rules : List (Rule ℕ)) (n : ℕ) (sides now : List Sides) (best after : List ℕ) (k : Sides) (o : Option ℕ) → IsChoosing rules n sides best → AreSidesOf k (rule_at rules n) → IsNoted sides k o now → o ≡ None →
    after ≡ best ++ n ∷ [] → IsChoosing rules (n + 1) now after
step_new rules n sides now best after k None c own noted e is =
    subst (λ (b : List ℕ). IsChoosing rules (n + 1) now b) (sym is) (subst (λ (s : List Sides). IsChoosing rules (n + 1) s (best ++ n ∷ [])) (sym noted.1) (chosen_new no_sides (λ s p. AreSidesOf s (rule_at rules p)) (λ p. (rule_at rules p).cost) n sides best k c own noted.0))
step_new rules n sides now best after k (Some i) c own noted e is = absurd (cc)

pub step_before :
    (rules : List (Rule ℕ)) (n : ℕ) (sides now : List Sides) (best after : List ℕ) (k : Sides) (o : Option ℕ) (place p : ℕ) → IsChoosing rules n sides best → AreSidesOf k (rule_at rules n) → IsNoted sides k o now → o ≡ Some place →
    IsCheaper rules (get_or best place 0) n p → after ≡ set best place p → IsChoosing rules (n + 1) now after
step_before rules n sides now best after k None place p c own noted e cheaper is = absurd (cc)
step_before rules n sides now best after k (Some i) place p c own noted e cheaper is =
    let same : i ≡ place = cc in
    subst (λ (b : List ℕ). IsChoosing rules (n + 1) now b) (sym is)
    (subst (λ (s : List Sides). IsChoosing rules (n + 1) s (set best place p)) (sym noted.2)
    (chosen_before no_sides (λ s q. AreSidesOf s (rule_at rules q)) (λ q. (rule_at rules q).cost) n sides best k c own place p (omega (arith, same, noted.0)) (ap (λ j. get_or sides j no_sides) (sym same) ∙ noted.1)
    cheaper.either cheaper.first cheaper.second))
