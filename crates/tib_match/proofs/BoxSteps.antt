-- Columns item by item: each step of the reading from the last item to the first.
use Rattle.std.specs.Prelude.{◌≡◌, ℕ, ◌+◌, ◌<◌, Bool, List, [], ◌∷◌, ◌++◌, length, map, drop, reverse, Option, refl}
use Rattle.std.proofs.Common.{arith, get_or, ap, sym, ◌∙◌, subst}
use Rattle.std.proofs.lemmas.List.{map-append, reverse-append, length-map, length-reverse, at_drop_more, drop_all}
use Rattle.tib_cost.specs.Semiring.{ProductLaws}
use Rattle.tib_cost.specs.Least.{IsLeast}
use Rattle.tib_grammar.specs.Sides.{Symbol, label, hole}
use Rattle.tib_grammar.specs.Forms.{AreNormal}
use Rattle.tib_grammar.specs.Items.{pair_of, pairs_of}
use Rattle.tib_grammar.specs.declared.Item.{Item}
use Rattle.tib_grammar.specs.declared.Rule.{Rule}
use Rattle.tib_match.specs.Boxes.{cost_at, cost_along, spanned, all_spanned, column_of, stack_of, IsReadBox, AreColumns}
use Rattle.tib_match.specs.Searching.{StacksLabel, StacksHole, no_span}
use Rattle.tib_match.specs.declared.hole_cost.HoleCost.{HoleCost}
use Rattle.tib_match.specs.declared.hole_cost.HoleCost.TheVariants.{Free}
use Rattle.tib_match.specs.declared.spans.Span.{Span}
use Rattle.tib_match.proofs.BoxCosts.{empty_columns, label_step, hole_step}
use Rattle.tib_match.proofs.ColumnSteps.{stack_more}

none_spanned : (rs : List Span) → all_spanned rs [] ≡ []
none_spanned [] = refl
none_spanned (r ∷ rs) = refl

stack_split : (front last : List (List (Option ℕ))) → stack_of (front ++ last) ≡ stack_of last ++ stack_of front
stack_split front last = ap reverse (map-append column_of front last) ∙ reverse-append (map column_of front) (map column_of last)

-- the costs from a hole on
from_hole : (spans : List Span) (costs : List HoleCost) (k : ℕ) → k < length spans → k < length costs →
    all_spanned (drop k spans) (drop k costs) ≡ spanned (get_or spans k no_span) (cost_at (get_or costs k Free)) ∷ all_spanned (drop (k + 1) spans) (drop (k + 1) costs)
from_hole spans costs k a b =
    at_drop_more (λ rs. all_spanned rs (drop k costs)) spans k no_span a
    ∙ at_drop_more (all_spanned (get_or spans k no_span ∷ drop (k + 1) spans)) costs k Free b

module _ {levelled weighted : Bool} {product : ℕ → ℕ → ℕ} (laws : ProductLaws levelled weighted product) (rules : List (Rule ℕ)) where
  -- before anything is read there is no column
  pub none_stacked : {P : Type 0} (items : List (Item P)) (spans : List Span) (costs : List HoleCost) (columns : List (List (Option ℕ))) → length columns ≡ 0 →
      AreColumns product rules {P = P} (pairs_of (drop (length items) items)) (all_spanned (drop (length costs) spans) (drop (length costs) costs)) columns
  none_stacked {P} items spans costs columns e =
      subst (λ cs. AreColumns product rules {P = P} (pairs_of (drop (length items) items)) (all_spanned (drop (length costs) spans) (drop (length costs) costs)) cs) (sym (empty columns e))
      (subst (λ xs. AreColumns product rules {P = P} (pairs_of xs) (all_spanned (drop (length costs) spans) (drop (length costs) costs)) []) (sym (drop_all (length items) items (omega arith)))
      (subst (λ fs. AreColumns product rules {P = P} [] fs []) (sym (ap (all_spanned (drop (length costs) spans)) (drop_all (length costs) costs (omega arith)) ∙ none_spanned (drop (length costs) spans)))
      (empty_columns laws rules P)))
    where
      empty : {A : Type 0} (xs : List A) → length xs ≡ 0 → xs ≡ []
      empty [] e = refl
      empty (x ∷ xs) e = absurd (omega (arith, e))

  -- a label
  pub label_stacked : AreNormal rules → {P : Type 0} (f rank : ℕ) (xs : List (Symbol ℕ P × ℕ)) (fs : List (ℕ → Option ℕ)) (old new : List (List (Option ℕ))) →
      StacksLabel product rules f rank old new → AreColumns product rules xs fs old → AreColumns product rules ((label f, rank) ∷ xs) fs new
  label_stacked normal f rank xs fs old new s are qs =
      subst (λ cs. IsLeast (IsReadBox product rules ((label f, rank) ∷ xs) qs fs) (cost_along product cs qs)) (sym (ap stack_of s.after ∙ stack_more s.front s.column))
      (label_step laws rules normal f rank xs fs (stack_of s.last) (stack_of s.front) (column_of s.column) (length-reverse (map column_of s.last) ∙ length-map s.last column_of ∙ s.long) s.is_column
      (λ ps. subst (λ cs. IsLeast (IsReadBox product rules xs ps fs) (cost_along product cs ps)) (ap stack_of s.before ∙ stack_split s.front s.last) (are ps)) qs)

  -- a hole
  pub hole_stacked : {P : Type 0} (x : P) (xs : List (Symbol ℕ P × ℕ)) (spans : List Span) (costs : List HoleCost) (many left : ℕ) (old new : List (List (Option ℕ))) →
      StacksHole costs spans many left old new → AreColumns product rules xs (all_spanned (drop many spans) (drop many costs)) old →
      AreColumns product rules ((hole x, 0) ∷ xs) (all_spanned (drop left spans) (drop left costs)) new
  hole_stacked x xs spans costs many left old new s are qs =
      subst (λ fs. IsLeast (IsReadBox product rules ((hole x, 0) ∷ xs) qs fs) (cost_along product (stack_of new) qs)) (sym (from_hole spans costs left s.few_spans s.few_costs))
      (subst (λ cs. IsLeast (IsReadBox product rules ((hole x, 0) ∷ xs) qs (spanned (get_or spans left no_span) (cost_at (get_or costs left Free)) ∷ all_spanned (drop (left + 1) spans) (drop (left + 1) costs))) (cost_along product cs qs))
      (sym (ap stack_of s.after ∙ stack_more old s.column))
      (hole_step laws rules x 0 xs (spanned (get_or spans left no_span) (cost_at (get_or costs left Free))) (column_of s.column) (all_spanned (drop (left + 1) spans) (drop (left + 1) costs)) (stack_of old) s.is_column
      (λ ps. subst (λ k. IsLeast (IsReadBox product rules xs ps (all_spanned (drop k spans) (drop k costs))) (cost_along product (stack_of old) ps)) s.one_less (are ps)) qs))

-- one more item
pub item_more : {P : Type 0} (items : List (Item P)) (i : ℕ) (x : Item P) → i < length items → get_or items i x ≡ x → pairs_of (drop i items) ≡ pair_of x ∷ pairs_of (drop (i + 1) items)
item_more items i x low is = at_drop_more pairs_of items i x low ∙ ap (λ y. pair_of y ∷ pairs_of (drop (i + 1) items)) is
