-- The positions of the rules of a label and a rank.
use Rattle.std.specs.Prelude.{◌≡◌, ℕ, ◌+◌, ◌<◌, ◌≤◌, nat_eq, Bool, true, false, List, [], ◌∷◌, length, if◌then◌else◌, refl}
use Rattle.std.proofs.Common.{zero, suc, ap, arith, get_or, inl, inr, subst}
use Rattle.std.proofs.lemmas.Bool.Decides.{nat_tests}
use Rattle.tib_lex.proofs.Booleans.{and-true}
use Rattle.tib_lex.proofs.Numbers.{nat_eq-true}
use Rattle.tib_lex.specs.Lists.{Has, Each, Ascends}
use Rattle.tib_tree.specs.Trees.{Trees, none, tree, count}
use Rattle.tib_grammar.specs.declared.Rule.{Rule}
use Rattle.tib_grammar.specs.Run.{rule_at, no_rule}
use Rattle.tib_grammar.specs.Sides.{Symbol, label, hole, holes, AreHoles}
use Rattle.tib_grammar.specs.Forms.{AreNormal}
use Rattle.tib_grammar.proofs.Members.{each_of, has_at}
use Rattle.tib_normal.proofs.Pairwise.{Ascends-at}
use Rattle.tib_normal.proofs.RulePlaces.{places_ascend}
use Rattle.tib_match.specs.Narrowing.{LeftsAscend}
use Rattle.tib_normal.specs.Rules.{is_label, is_over, positions_from, positions_with}

-- p, counted from k, is the position of a rule of the label f and the rank n
record IsPlace (rules : List (Rule ℕ)) (k f n p : ℕ) : Type 0 where
  place : ℕ
  counted : p ≡ k + place
  below : place < length rules
  over : is_over f n (get_or rules place no_rule) ≡ true

later : (r : Rule ℕ) (rules : List (Rule ℕ)) (k f n p : ℕ) → IsPlace rules (suc k) f n p → IsPlace (r ∷ rules) k f n p
later r rules k f n p h = record { place = suc h.place; counted = omega (arith, h.counted); below = omega (arith, h.below); over = h.over }

first_place :
    (r : Rule ℕ) (rules : List (Rule ℕ)) (k f n p : ℕ) (ps : List ℕ) → (Has ps p → IsPlace rules (suc k) f n p) → (b : Bool) → is_over f n r ≡ b →
    Has (if b then k ∷ ps else ps) p → IsPlace (r ∷ rules) k f n p
first_place r rules k f n p ps behind true e (inl same) = record { place = zero; counted = omega (arith, same); below = omega arith; over = e }
first_place r rules k f n p ps behind true e (inr has) = later r rules k f n p (behind has)
first_place r rules k f n p ps behind false e has = later r rules k f n p (behind has)

place_of : (rules : List (Rule ℕ)) (k f n p : ℕ) → Has (positions_from k f n rules) p → IsPlace rules k f n p
place_of [] k f n p h = absurd h
place_of (r ∷ rules) k f n p h = first_place r rules k f n p (positions_from (suc k) f n rules) (place_of rules (suc k) f n p) (is_over f n r) refl h

has_more : (k p : ℕ) (ps : List ℕ) (b : Bool) → Has ps p → Has (if b then k ∷ ps else ps) p
has_more k p ps true h = inr h
has_more k p ps false h = h

has_place : (rules : List (Rule ℕ)) (k f n m : ℕ) → m < length rules → is_over f n (get_or rules m no_rule) ≡ true → Has (positions_from k f n rules) (k + m)
has_place [] k f n m h e = absurd (omega arith)
has_place (r ∷ rules) k f n zero h e =
    let z : k ≡ k + 0 = omega arith in
    rw e (inl z)
has_place (r ∷ rules) k f n (suc m) h e =
    let s : suc k + m ≡ k + suc m = omega arith in
    has_more k (k + suc m) (positions_from (suc k) f n rules) (is_over f n r) (subst (Has (positions_from (suc k) f n rules)) s (has_place rules (suc k) f n m (omega arith) e))

is_label-true : (f : ℕ) (s : Symbol ℕ ℕ) → is_label f s ≡ true → s ≡ label f
is_label-true f (label g) e = ap label (nat_eq-true g f e)
is_label-true f (hole p) e = absurd (cc)

is_label-same : (s : Symbol ℕ ℕ) (f : ℕ) → s ≡ label f → is_label f s ≡ true
is_label-same (label g) f e = let same : g ≡ f = cc in grind (arith, nat_tests)
is_label-same (hole p) f e = absurd (cc)

is_over-same : (r : Rule ℕ) (f k : ℕ) → r.right.label ≡ label f → count r.right.kids ≡ k → is_over f k r ≡ true
is_over-same r f k root many =
    let same : nat_eq (count r.right.kids) k ≡ true = grind (arith, nat_tests) in
    rw (is_label-same r.right.label f root, same) refl

-- there are as many holes as trees where there is nothing else
count_holes : (ts : Trees (Symbol ℕ ℕ)) → AreHoles ts → count ts ≡ length (holes ts)
count_holes none h = refl
count_holes (tree (label f) kids rest) h = absurd h
count_holes (tree (hole p) kids rest) h = ap suc (count_holes rest h)

-- the rule n is one of the label f over this many states
pub record IsListed (rules : List (Rule ℕ)) (f rank n : ℕ) : Type 0 where
  pub below : n < length rules
  pub root : (rule_at rules n).right.label ≡ label f
  pub ranked : length (holes (rule_at rules n).right.kids) ≡ rank

module _ (rules : List (Rule ℕ)) (f rank : ℕ) where
  pub lefts_ascend : Ascends (λ r s. r.left ≤ s.left) rules → LeftsAscend rules (positions_with f rank rules)
  lefts_ascend a i j h l =
      let at = place_of rules 0 f rank (get_or (positions_with f rank rules) j 0) (has_at (positions_with f rank rules) j 0 l) in
      let b : get_or (positions_with f rank rules) j 0 < length rules = omega (arith, at.counted, at.below) in
      Ascends-at (λ r s. r.left ≤ s.left) rules no_rule a (get_or (positions_with f rank rules) i 0) (get_or (positions_with f rank rules) j 0) (places_ascend rules 0 f rank i j h l) b

  pub each_below : Each (λ p. p < length rules) (positions_with f rank rules)
  each_below = each_of (λ p. p < length rules) (positions_with f rank rules) (λ p h. let a = place_of rules 0 f rank p h in omega (arith, a.counted, a.below))

  pub listed : AreNormal rules → (n : ℕ) → Has (positions_with f rank rules) n → IsListed rules f rank n
  listed normal n h =
      let a = place_of rules 0 f rank n h in
      let same : a.place ≡ n = omega (arith, a.counted) in
      let low : n < length rules = omega (arith, same, a.below) in
      let over : is_over f rank (rule_at rules n) ≡ true = subst (λ i. is_over f rank (get_or rules i no_rule) ≡ true) same a.over in
      let both = and-true (is_label f (rule_at rules n).right.label) (nat_eq (count (rule_at rules n).right.kids) rank) over in
      let many : count (rule_at rules n).right.kids ≡ rank = nat_eq-true (count (rule_at rules n).right.kids) rank both.1 in
      record {
        below = low;
        root = is_label-true f (rule_at rules n).right.label both.0;
        ranked = omega (arith, count_holes (rule_at rules n).right.kids (normal n low).are_holes, many);
      }

  pub is_listed : AreNormal rules → (n : ℕ) → IsListed rules f rank n → Has (positions_with f rank rules) n
  is_listed normal n a =
      let z : 0 + n ≡ n = omega arith in
      let many : count (rule_at rules n).right.kids ≡ rank = omega (arith, count_holes (rule_at rules n).right.kids (normal n a.below).are_holes, a.ranked) in
      subst (Has (positions_with f rank rules)) z (has_place rules 0 f rank n a.below (is_over-same (rule_at rules n) f rank a.root many))
