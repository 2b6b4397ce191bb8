-- The positions of the cheapest rules, rule by rule.
use Rattle.std.proofs.Common.{◌≡◌, ℕ, ◌+◌, ◌<◌, List, [], ◌∷◌, ◌++◌, length, set, get_or, refl, arith, ap, sym, ◌∙◌, subst}
use Rattle.std.specs.Prelude.{Option, None, Some}
use Rattle.tib_tree.specs.Trees.{preorder_of}
use Rattle.tib_transducer.specs.Rules.{transducer_rule}
use Rattle.tib_grammar.specs.Items.{pair_of, pairs_of}
use Rattle.tib_grammar.specs.declared.Item.{Item}
use Rattle.tib_grammar.specs.declared.Item.TheVariants.{Label, Hole}
use Rattle.tib_lex.proofs.Lists.{head_is, tail_is}
use Rattle.tib_transducer.specs.declared.TransducerRule.{TransducerRule}
use Rattle.tib_canon.specs.Ordered.{AgreeInSides}
use Rattle.tib_canon.specs.TransducerMerging.{Sides, no_sides, AreSidesOf, IsCheaper, HasCheaperAt, AreCheapest, IsChosenFor, IsChoosing, IsNoted}
use Rattle.tib_lex.proofs.Members.{has_at, at_has, distinct_from}
use Rattle.tib_canon.proofs.Chosen.{chosen_new, chosen_before}
use Rattle.tib_grammar.proofs.Sides.{side_same}

-- items with the same pairs are the same
pairs_same : {P : Type 0} (xs ys : List (Item P)) → pairs_of xs ≡ pairs_of ys → xs ≡ ys
pairs_same [] [] e = refl
pairs_same [] (y ∷ ys) e = absurd (cc)
pairs_same (x ∷ xs) [] e = absurd (cc)
pairs_same {P} (x ∷ xs) (y ∷ ys) e =
    let head : x ≡ y = item_same x y (ap (λ p. p.0) (head_is e)) (ap (λ p. p.1) (head_is e)) in
    let tail : xs ≡ ys = pairs_same xs ys (tail_is e) in
    cc
  where
    item_same : (x y : Item P) → (pair_of x).0 ≡ (pair_of y).0 → (pair_of x).1 ≡ (pair_of y).1 → x ≡ y
    item_same (Label f r) (Label g s) e d = let same : f ≡ g = cc e in cc
    item_same (Label f r) (Hole q) e d = absurd (cc e)
    item_same (Hole p) (Label g s) e d = absurd (cc e)
    item_same (Hole p) (Hole q) e d = let same : p ≡ q = cc e in cc

-- rules with the same state and sides agree, and the other way round
agree_from : (k : Sides) (r s : TransducerRule ℕ) → AreSidesOf k r → AreSidesOf k s → AgreeInSides r s
agree_from k r s a b = record {
  state = sym a.0 ∙ b.0;
  left = side_same r.left s.left (sym a.1 ∙ b.1);
  right = side_same r.right s.right (sym a.2 ∙ b.2);
}

sides_from : (j k : Sides) (r s : TransducerRule ℕ) → AreSidesOf j r → AreSidesOf k s → AgreeInSides r s → j ≡ k
sides_from j k r s a b e =
    let state : j.0 ≡ k.0 = a.0 ∙ e.state ∙ sym b.0 in
    let left : j.1 ≡ k.1 = pairs_same j.1 k.1 (a.1 ∙ ap preorder_of e.left ∙ sym b.1) in
    let right : j.2 ≡ k.2 = pairs_same j.2 k.2 (a.2 ∙ ap preorder_of e.right ∙ sym b.2) in
    ap (λ x. (x, j.1, j.2)) state ∙ ap (λ x. (k.0, x, j.2)) left ∙ ap (λ x. (k.0, k.1, x)) right

pub nothing_chosen : (rules : List (TransducerRule ℕ)) → IsChoosing rules 0 [] []
nothing_chosen rules = record {
  long = refl;
  few = omega arith;
  distinct = λ i j h k e. absurd (omega arith);
  below = λ i h. absurd (omega arith);
  are = λ i h. absurd (omega arith);
  whole = λ m h. absurd (omega arith);
}

-- all rules were looked at
pub all_chosen : (rules : List (TransducerRule ℕ)) (n : ℕ) (sides : List Sides) (best : List ℕ) → n ≡ length rules → IsChoosing rules n sides best → AreCheapest rules best
all_chosen rules n sides best all c = record {
  below = λ p h. let a = at_has best p 0 h in omega (arith, all, a.2, c.below a.0 a.1);
  few = omega (arith, all, c.few);
  distinct = distinct_from best 0 (λ i j h k e. c.distinct i j (omega (arith, c.long)) (omega (arith, c.long)) (alike i j h k (subst (λ q. AgreeInSides (transducer_rule rules (get_or best i 0)) (transducer_rule rules q)) e (record { state = refl; left = refl; right = refl }))));
  apart = λ p q h k e. apart p q e (at_has best p 0 h) (at_has best q 0 k);
  whole = λ m h. whole m (c.whole m (omega (arith, all)));
}
  where
    alike : (i j : ℕ) → i < length best → j < length best → AgreeInSides (transducer_rule rules (get_or best i 0)) (transducer_rule rules (get_or best j 0)) → get_or sides i no_sides ≡ get_or sides j no_sides
    alike i j h k e = sides_from (get_or sides i no_sides) (get_or sides j no_sides) (transducer_rule rules (get_or best i 0)) (transducer_rule rules (get_or best j 0)) (c.are i h) (c.are j k) e

    apart : (p q : ℕ) → AgreeInSides (transducer_rule rules p) (transducer_rule rules q) → (i : ℕ) × (i < length best) × (get_or best i 0 ≡ p) → (j : ℕ) × (j < length best) × (get_or best j 0 ≡ q) → p ≡ q
    apart p q e a b =
        let first : AgreeInSides (transducer_rule rules (get_or best a.0 0)) (transducer_rule rules q) = subst (λ x. AgreeInSides (transducer_rule rules x) (transducer_rule rules q)) (sym a.2) e in
        let both : AgreeInSides (transducer_rule rules (get_or best a.0 0)) (transducer_rule rules (get_or best b.0 0)) = subst (λ x. AgreeInSides (transducer_rule rules (get_or best a.0 0)) (transducer_rule rules x)) (sym b.2) first in
        let same : a.0 ≡ b.0 = c.distinct a.0 b.0 (omega (arith, c.long, a.1)) (omega (arith, c.long, b.1)) (alike a.0 b.0 a.1 b.1 both) in
        sym a.2 ∙ ap (λ i. get_or best i 0) same ∙ b.2

    whole : (m : ℕ) → (i : ℕ) × IsChosenFor rules sides best m i → HasCheaperAt rules best (transducer_rule rules m)
    whole m w = record {
      position = get_or best w.0 0;
      stands = has_at best w.0 0 w.1.below;
      agrees = agree_from (get_or sides w.0 no_sides) (transducer_rule rules (get_or best w.0 0)) (transducer_rule rules m) (c.are w.0 w.1.below) w.1.sides_are;
      costs = w.1.costs;
    }

-- one more rule, by what was noted
pub step_new :
    (rules : List (TransducerRule ℕ)) (n : ℕ) (sides now : List Sides) (best after : List ℕ) (k : Sides) (o : Option ℕ) → IsChoosing rules n sides best → AreSidesOf k (transducer_rule rules n) → IsNoted sides k o now → o ≡ None →
    after ≡ best ++ n ∷ [] → IsChoosing rules (n + 1) now after
step_new rules n sides now best after k None c own noted e is =
    subst (λ (b : List ℕ). IsChoosing rules (n + 1) now b) (sym is) (subst (λ (s : List Sides). IsChoosing rules (n + 1) s (best ++ n ∷ [])) (sym noted.1) (chosen_new no_sides (λ s p. AreSidesOf s (transducer_rule rules p)) (λ p. (transducer_rule rules p).cost) n sides best k c own noted.0))
step_new rules n sides now best after k (Some i) c own noted e is = absurd (cc)

pub step_before :
    (rules : List (TransducerRule ℕ)) (n : ℕ) (sides now : List Sides) (best after : List ℕ) (k : Sides) (o : Option ℕ) (place p : ℕ) → IsChoosing rules n sides best → AreSidesOf k (transducer_rule rules n) → IsNoted sides k o now → o ≡ Some place →
    IsCheaper rules (get_or best place 0) n p → after ≡ set best place p → IsChoosing rules (n + 1) now after
step_before rules n sides now best after k None place p c own noted e cheaper is = absurd (cc)
step_before rules n sides now best after k (Some i) place p c own noted e cheaper is =
    let same : i ≡ place = cc in
    subst (λ (b : List ℕ). IsChoosing rules (n + 1) now b) (sym is)
    (subst (λ (s : List Sides). IsChoosing rules (n + 1) s (set best place p)) (sym noted.2)
    (chosen_before no_sides (λ s q. AreSidesOf s (transducer_rule rules q)) (λ q. (transducer_rule rules q).cost) n sides best k c own place p (omega (arith, same, noted.0)) (ap (λ j. get_or sides j no_sides) (sym same) ∙ noted.1)
    cheaper.either cheaper.first cheaper.second))
