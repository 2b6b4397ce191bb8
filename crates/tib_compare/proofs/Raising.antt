-- Rules whose states are raised by a number.
use Rattle.std.specs.Prelude.{◌≡◌, ℕ, ◌+◌, ◌<◌, ◌^◌, List, [], ◌∷◌, length, map, refl}
use Rattle.std.proofs.Common.{ap, sym, ◌∙◌, subst, get_or}
use Rattle.std.proofs.lemmas.List.{get_or_read}
use Rattle.tib_lex.specs.Lists.{Has, Along}
use Rattle.tib_lex.proofs.Lists.{mapped_has}
use Rattle.tib_lex.proofs.Members.{has_at}
use Rattle.tib_grammar.specs.Items.{state_in}
use Rattle.tib_grammar.specs.declared.Item.{Item}
use Rattle.tib_grammar.specs.Sides.{Symbol, label, hole}
use Rattle.tib_grammar.specs.Run.{rule_at, no_rule}
use Rattle.tib_grammar.specs.Forms.{IsLabel, IsNormalSide, AreNormal}
use Rattle.tib_grammar.specs.Range.{AllBelow}
use Rattle.tib_grammar.specs.declared.Rule.{Rule}
use Rattle.tib_grammar.proofs.Sides.{holes-leaves, AreHoles-leaves}
use Rattle.tib_ranked_trees.specs.Levels.{root_of, states_of}
use Rattle.tib_compare.specs.Beside.{moved, CanRaise, CanRaiseAll}
use Rattle.tib_compare.proofs.Mirrored.{IsMirrored}

-- the label at the root of a side in normal form
pub root_back : (s : Symbol ℕ ℕ) → IsLabel s → label (root_of s) ≡ s
root_back (label f) h = refl
root_back (hole p) h = absurd h

-- the state of an item can be raised where each of the states can
pub item_raised :
    (by : ℕ) (items : List (Item ℕ)) (i : ℕ) (d : Item ℕ) (r : ℕ) → r ≡ state_in (get_or items i d) → i < length items → (qs : List ℕ) → map state_in items ≡ qs →
    ((q : ℕ) → Has qs q → by + q < 2 ^ 32) → by + r < 2 ^ 32
item_raised by items i d r e lt qs s h =
    let item : Item ℕ = get_or items i d in
    let stands : Has qs (state_in item) = subst (λ (ps : List ℕ). Has ps (state_in item)) s (mapped_has state_in items item (has_at items i d lt)) in
    subst (λ q. by + q < 2 ^ 32) (sym e) (h (state_in item) stands)

-- a rule can be raised where all can
pub rule_raised : (by : ℕ) (rules : List (Rule ℕ)) (i : ℕ) (r : Rule ℕ) → i < length rules → r ≡ get_or rules i r → CanRaiseAll by rules → CanRaise by r
rule_raised by rules i r lt e h = subst (CanRaise by) (sym (get_or_read rules i r lt e no_rule)) (h i lt)

-- q is p raised by a number
abbrev pub IsRaised : ℕ → ℕ → ℕ → Type 0
IsRaised by p q = q ≡ by + p

pub along_raised : (by : ℕ) (qs : List ℕ) → Along (IsRaised by) qs (map (λ q. by + q) qs)
along_raised by [] = tt
along_raised by (q ∷ qs) = (refl, along_raised by qs)

pub along_lowered : (by : ℕ) (qs : List ℕ) → Along (λ p q. p ≡ by + q) (map (λ q. by + q) qs) qs
along_lowered by [] = tt
along_lowered by (q ∷ qs) = (refl, along_lowered by qs)

pub along_lowered_below : (by n : ℕ) (qs : List ℕ) → AllBelow n qs → Along (λ p q. (p ≡ by + q) × (q < n)) (map (λ q. by + q) qs) qs
along_lowered_below by n [] a = tt
along_lowered_below by n (q ∷ qs) a = ((refl, a.0), along_lowered_below by n qs a.1)

-- a rule that is moved is in normal form
pub moved_normal : (left by cost : ℕ) (r : Rule ℕ) → IsNormalSide (moved left by cost r).right
moved_normal left by cost r = record { is_label = tt; are_holes = AreHoles-leaves ℕ (map (λ q. by + q) (states_of r)) }

pub moved_states : (left by cost : ℕ) (r : Rule ℕ) → states_of (moved left by cost r) ≡ map (λ q. by + q) (states_of r)
moved_states left by cost r = holes-leaves ℕ (map (λ q. by + q) (states_of r))

-- rules are in normal form where each of them is
pub normal_from : (rules : List (Rule ℕ)) → ((r : Rule ℕ) → Has rules r → IsNormalSide r.right) → AreNormal rules
normal_from rules h n lt = h (rule_at rules n) (has_at rules n no_rule lt)

-- a rule is mirrored by the rule that it is moved to
pub moved_forth :
    (two : List (Rule ℕ)) (r : Rule ℕ) → IsNormalSide r.right → (left by cost : ℕ) → Has two (moved left by cost r) → IsMirrored two (IsRaised by) r left
moved_forth two r normal left by cost h = record {
  rule = moved left by cost r;
  stands = h;
  left = refl;
  root = root_back r.right.label normal.is_label;
  states = subst (λ (qs : List ℕ). Along (IsRaised by) (states_of r) qs) (sym (moved_states left by cost r)) (along_raised by (states_of r));
}

-- and the other way round
pub moved_back :
    (one : List (Rule ℕ)) (Related : ℕ → ℕ → Type 0) (r s : Rule ℕ) → IsNormalSide r.right → Has one r → (left by cost : ℕ) → moved left by cost r ≡ s →
    Along Related (map (λ q. by + q) (states_of r)) (states_of r) → IsMirrored one Related s r.left
moved_back one Related r s normal h left by cost e along = record {
  rule = r;
  stands = h;
  left = refl;
  root = sym (root_back r.right.label normal.is_label) ∙ ap (λ (x : Rule ℕ). x.right.label) e;
  states = subst (λ (x : Rule ℕ). Along Related (states_of x) (states_of r)) e
      (subst (λ (qs : List ℕ). Along Related qs (states_of r)) (sym (moved_states left by cost r)) along);
}
