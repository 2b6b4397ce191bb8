-- Matches where holes cost nothing.
use Rattle.std.specs.Prelude.{◌≡◌, ℕ, ◌+◌, ◌≤◌, ◌<◌, Bool, List, [], ◌∷◌, ◌++◌, length, map, take, replicate, None, Some, refl}
use Rattle.std.proofs.lemmas.List.{take_more, take_all, replicate_more, length-map}
use Rattle.std.proofs.Common.{suc, get_or, arith, ap, sym, ◌∙◌, subst}
use Rattle.tib_lex.proofs.Lists.{each_weaker}
use Rattle.tib_cost.specs.Semiring.{ProductLaws, most}
use Rattle.tib_tree.specs.Trees.{only, preorder_of}
use Rattle.tib_grammar.specs.Sides.{HolesAreLeaves, holes, Side as SideFor}
use Rattle.tib_grammar.specs.Run.{rule_at}
use Rattle.tib_grammar.specs.Forms.{AreNormal}
use Rattle.tib_grammar.specs.Items.{pairs_of, holes_in}
use Rattle.tib_grammar.specs.declared.Rule.{Rule}
use Rattle.tib_grammar.specs.declared.Item.{Item}
use Rattle.tib_grammar.specs.declared.Item.TheVariants.{Label, Hole}
use Rattle.tib_match.specs.Matches.{IsMatch}
use Rattle.tib_match.specs.MatchLists.{AreMatches, IsReadCost}
use Rattle.tib_match.specs.Searching.{IsWithin, AnswersWhere, AreMatchesWhere}
use Rattle.tib_match.specs.declared.hole_cost.HoleCost.TheVariants.{Free}
use Rattle.tib_match.specs.declared.within.Within.{Within}
use Rattle.tib_match.specs.declared.within.Within.TheVariants.{All, More}
use Rattle.tib_match.proofs.Reading.{matches_are_read}
use Rattle.tib_match.proofs.Steps.{neutral_right}
use Rattle.tib_match.specs.Boxes.{cost_at}
use Rattle.tib_match.specs.declared.hole_cost.HoleCost.{HoleCost}
use Rattle.tib_match.proofs.BoxCosts.{frees, along_other}

-- all matches are all that count
pub all_where :
    {P : Type 0} (product : ℕ → ℕ → ℕ) (rules : List (Rule ℕ)) (side : SideFor ℕ P) (q : ℕ) (Counts : List ℕ × ℕ → Type 0) (ms : List (List ℕ × ℕ)) → AreMatches product rules side q ms →
    AreMatchesWhere product rules side q Counts ms
all_where product rules side q Counts ms are = record { ascend = are.ascend; least = are.least; whole = λ ss c m n. are.whole ss c m }

module _
    {levelled weighted : Bool} {product : ℕ → ℕ → ℕ} (laws : ProductLaws levelled weighted product) (rules : List (Rule ℕ)) (normal : AreNormal rules)
    {P : Type 0} (side : SideFor ℕ P) (leaves : HolesAreLeaves (only side)) (q above : ℕ) (items : List (Item P)) (are_items : preorder_of side ≡ pairs_of items) where
  -- a match has a state for each hole
  reads_long : (xs : List (Item P)) (qs ss : List ℕ) (c : ℕ) → IsReadCost product rules (pairs_of xs) qs ss c → length ss ≡ length (holes_in xs)
  reads_long [] [] [] c r = refl
  reads_long [] [] (s ∷ ss) c r = absurd r
  reads_long [] (p ∷ qs) ss c r = absurd r
  reads_long (Label f rank ∷ xs) [] ss c r = absurd r
  reads_long (Label f rank ∷ xs) (p ∷ qs) ss c r = reads_long xs (holes (rule_at rules r.rule).right.kids ++ qs) ss r.inner r.rest
  reads_long (Hole x ∷ xs) [] ss c r = absurd r
  reads_long (Hole x ∷ xs) (p ∷ qs) [] c r = absurd r
  reads_long (Hole x ∷ xs) (p ∷ qs) (s ∷ ss) c r = ap suc (reads_long xs qs ss c r.1)

  -- what is within the greatest cost with free holes
  free_within : (ss : List ℕ) (c : ℕ) → IsMatch product rules side q ss (Some c) → product above c ≤ most → IsWithin product above (replicate (length (holes_in items)) Free) (ss, c)
  free_within ss c m b =
      let read = (matches_are_read laws rules normal side leaves q ss c).0 m.attained.0 in
      let long = reads_long items (q ∷ []) ss c (subst (λ xs. IsReadCost product rules xs (q ∷ []) ss c) are_items read) in
      record {
        beside = 0;
        is_beside = frees laws (length (holes_in items)) ss long;
        within = omega (arith, neutral_right laws (product above c), b);
      }

  -- nothing is within it where there are not as many costs as holes
  pub none_where : (number : ℕ) (costs : List HoleCost) → (length costs ≡ length (holes_in items) → ⊥) → (ms : List (List ℕ × ℕ)) → ms ≡ [] →
      AreMatchesWhere product rules side q (IsWithin product above costs) ms
  none_where number costs other [] e = record {
    ascend = tt;
    least = tt;
    whole = λ ss c m w.
        let read = (matches_are_read laws rules normal side leaves q ss c).0 m.attained.0 in
        let long = reads_long items (q ∷ []) ss c (subst (λ xs. IsReadCost product rules xs (q ∷ []) ss c) are_items read) in
        let bad : None ≡ Some w.beside = along_other product (map cost_at costs) ss (λ e. other (sym (length-map costs cost_at) ∙ e ∙ long)) ∙ w.is_beside in
        absurd (cc);
  }
  none_where number costs other (m ∷ ms) e = absurd (cc)

  pub free_where : (number : ℕ) (answer : Within) → AnswersWhere product rules side q (IsWithin product above (replicate (length (holes_in items)) Free)) number answer →
      AnswersWhere product rules side q (λ m. product above m.1 ≤ most) number answer
  free_where number (All ms) are = record { ascend = are.ascend; least = are.least; whole = λ ss c m b. are.whole ss c m (free_within ss c m b) }
  free_where number More are = record {
    matches = are.matches;
    ascend = are.ascend;
    least = are.least;
    count = each_weaker (IsWithin product above (replicate (length (holes_in items)) Free)) (λ m. product above m.1 ≤ most) are.matches
        (λ m w. let left : product above m.1 ≤ product (product above m.1) w.beside = laws.at_least (product above m.1) w.beside in omega (arith, left, w.within)) are.count;
    more = are.more;
  }

-- the holes of some items and of others
pub holes_joined : {P : Type 0} (xs ys : List (Item P)) → length (holes_in (xs ++ ys)) ≡ length (holes_in xs) + length (holes_in ys)
holes_joined [] ys = omega arith
holes_joined (Label f rank ∷ xs) ys = holes_joined xs ys
holes_joined (Hole x ∷ xs) ys = ap suc (holes_joined xs ys) ∙ omega arith

-- one more item among those whose holes are counted: a hole, or a label
pub hole_more : {P : Type 0} (items : List (Item P)) (i : ℕ) (x : Item P) (p : P) → i < length items → get_or items i x ≡ x → x ≡ Hole p →
    replicate (length (holes_in (take i items))) Free ++ Free ∷ [] ≡ replicate (length (holes_in (take (i + 1) items))) Free
hole_more items i x p low at is =
    let next : take (i + 1) items ≡ take i items ++ Hole p ∷ [] = take_more items i x low ∙ ap (λ y. take i items ++ y ∷ []) (at ∙ is) in
    replicate_more (length (holes_in (take i items))) Free ∙ ap (λ n. replicate n Free) (sym (ap (λ xs. length (holes_in xs)) next ∙ holes_joined (take i items) (Hole p ∷ [])))

pub label_more : {P : Type 0} (items : List (Item P)) (i : ℕ) (x : Item P) → i < length items → get_or items i x ≡ x → ((p : P) → x ≡ Hole p → ⊥) →
    replicate (length (holes_in (take i items))) Free ≡ replicate (length (holes_in (take (i + 1) items))) Free
label_more {P} items i x low at other = by x refl
  where
    by : (y : Item P) → x ≡ y → replicate (length (holes_in (take i items))) Free ≡ replicate (length (holes_in (take (i + 1) items))) Free
    by (Hole p) e = absurd (other p e)
    by (Label f rank) e =
        let next : take (i + 1) items ≡ take i items ++ Label f rank ∷ [] = take_more items i x low ∙ ap (λ y. take i items ++ y ∷ []) (at ∙ e) in
        ap (λ n. replicate n Free) (sym (ap (λ xs. length (holes_in xs)) next ∙ holes_joined (take i items) (Label f rank ∷ []) ∙ omega arith))

pub all_holes : {P : Type 0} (items : List (Item P)) (i : ℕ) → length items ≤ i → replicate (length (holes_in (take i items))) Free ≡ replicate (length (holes_in items)) Free
all_holes items i h = ap (λ xs. replicate (length (holes_in xs)) Free) (take_all i items h)
