-- The matches that are affordable with what a rule leaves out are those within the greatest cost
-- with the costs of states at holes.
use Rattle.std.specs.Prelude.{◌≡◌, ℕ, ◌+◌, ◌<◌, ◌≤◌, nat_eq, Bool, true, false, List, [], ◌∷◌, ◌++◌, length, map, drop, refl, Option, None, Some, if◌then◌else◌}
use Rattle.std.specs.List.{list_any}
use Rattle.std.proofs.Common.{zero, suc, arith, ap, sym, ◌∙◌, subst, get_or, inl, inr, append_assoc}
use Rattle.std.proofs.lemmas.List.{drop_more, get_or_push, get_or_append_left}
use Rattle.tib_lex.specs.Lists.{Has, Each}
use Rattle.tib_lex.proofs.Lists.{each_weaker, append_nil}
use Rattle.tib_lex.proofs.Members.{each_has, each_of}
use Rattle.tib_lex.proofs.Numbers.{below_cases}
use Rattle.tib_lex.proofs.Places.{drop_whole}
use Rattle.tib_cost.specs.Semiring.{ProductLaws, cut}
use Rattle.tib_cost.specs.Least.{times}
use Rattle.tib_cost.proofs.Least.{cut-cases}
use Rattle.tib_tree.specs.Trees.{only, preorder_of}
use Rattle.tib_grammar.specs.Forms.{AreNormal}
use Rattle.tib_grammar.specs.Items.{holes_in, pairs_of}
use Rattle.tib_grammar.specs.declared.Rule.{Rule}
use Rattle.tib_grammar.specs.declared.Item.{Item}
use Rattle.tib_grammar.specs.declared.Item.TheVariants.{Label, Hole}
use Rattle.tib_grammar.proofs.Holes.{holes_of_items}
use Rattle.tib_transducer.specs.Rules.{variables_of, variables_in}
use Rattle.tib_transducer.specs.Range.{IsShaped}
use Rattle.tib_transducer.specs.declared.Variable.{Variable}
use Rattle.tib_transducer.specs.declared.TransducerRule.{TransducerRule}
use Rattle.tib_match.specs.Matches.{IsMatch}
use Rattle.tib_match.specs.Boxes.{cost_at, cost_along}
use Rattle.tib_match.specs.Searching.{IsWithin, AnswersWhere}
use Rattle.tib_match.specs.declared.hole_cost.HoleCost.{HoleCost}
use Rattle.tib_match.specs.declared.within.Within.{Within}
use Rattle.tib_match.specs.declared.within.Within.TheVariants.{All, More}
use Rattle.tib_match.proofs.Matching.{match_long}
use Rattle.tib_apply.specs.Forward.{deleted}
use Rattle.tib_apply.specs.ForwardPlans.{IsPlan}
use Rattle.tib_apply.specs.ForwardLists.{HoleStatesBelow, IsAffordable}
use Rattle.tib_apply.specs.ForwardLaws.{states_within}
use Rattle.tib_apply.specs.LeastRuns.{asked_in, deleted_in}
use Rattle.tib_apply.specs.BesideMatches.{beside, IsHoleCost, AreHoleCosts}
use Rattle.tib_apply.specs.declared.deleting.LeastRuns.{LeastRuns}
use Rattle.tib_apply.specs.declared.forward_plan.Plan.{Plan}
use Rattle.tib_apply.proofs.ForwardPlanned.{numbered_below}

-- a table with one more state
pub asked_next : (f : ℕ → Option ℕ) (xs : List (Option ℕ)) (n : ℕ) (v : Option ℕ) → length xs ≡ n → v ≡ f n → ((q : ℕ) → q < n → get_or xs q None ≡ f q) → (q : ℕ) → q < n + 1 →
    get_or (xs ++ v ∷ []) q None ≡ f q
asked_next f xs n v long is at q b = elim (below_cases q n b) [
  | inl k ↦ get_or_append_left xs (v ∷ []) None q (omega (arith, long, k)) ∙ at q k
  | inr e ↦ get_or_push xs v None q (long ∙ sym e) ∙ is ∙ ap f (sym e)
]

-- costs listed item by item

-- The costs that are listed, with any that are those of the holes among the items from a place on,
-- are those of all holes.
abbrev pub AreCostsSoFar : LeastRuns → ℕ → List Bool → List (Item Variable) → ℕ → List HoleCost → Type 0
AreCostsSoFar runs n kept items i hs =
    (more : List HoleCost) → AreHoleCosts runs n kept (holes_in (drop i items)) more → AreHoleCosts runs n kept (holes_in items) (hs ++ more)

module _ (runs : LeastRuns) (n : ℕ) (kept : List Bool) (items : List (Item Variable)) (i : ℕ) where
  -- one more at a hole
  pub hole_next :
      (d : Item Variable) (x : Variable) (h : HoleCost) (hs : List HoleCost) → i < length items → get_or items i d ≡ Hole x → IsHoleCost runs n kept x h →
      AreCostsSoFar runs n kept items i hs → AreCostsSoFar runs n kept items (i + 1) (hs ++ h ∷ [])
  hole_next d x h hs low at here before more are =
      let rest : drop i items ≡ Hole x ∷ drop (i + 1) items = drop_more items i d low ∙ ap (λ y. y ∷ drop (i + 1) items) at in
      subst (AreHoleCosts runs n kept (holes_in items)) (sym (append_assoc hs (h ∷ []) more))
      (before (h ∷ more) (subst (λ ys. AreHoleCosts runs n kept (holes_in ys) (h ∷ more)) (sym rest) (here, are)))

  -- none at a label
  pub label_next :
      (d : Item Variable) (f rank : ℕ) (hs : List HoleCost) → i < length items → get_or items i d ≡ Label f rank → AreCostsSoFar runs n kept items i hs → AreCostsSoFar runs n kept items (i + 1) hs
  label_next d f rank hs low at before more are =
      let rest : drop i items ≡ Label f rank ∷ drop (i + 1) items = drop_more items i d low ∙ ap (λ y. y ∷ drop (i + 1) items) at in
      before more (subst (λ ys. AreHoleCosts runs n kept (holes_in ys) more) (sym rest) are)

  -- all at the end
  pub holes_whole : (hs : List HoleCost) → length items ≤ i → AreCostsSoFar runs n kept items i hs → AreHoleCosts runs n kept (holes_in items) hs
  holes_whole hs past before =
      subst (AreHoleCosts runs n kept (holes_in items)) (append_nil hs) (before [] (subst (λ ys. AreHoleCosts runs n kept (holes_in ys) []) (sym (drop_whole items i past)) tt))

-- the number of the next variable among the items is below a count
pub next_below :
    (items : List (Item Variable)) (i n : ℕ) (d : Item Variable) (x : Variable) → i < length items → get_or items i d ≡ Hole x → Each (λ y. y.number < n) (holes_in items) → x.number < n
next_below [] i n d x low at e = absurd (omega (arith, low))
next_below (Hole y ∷ items) zero n d x low at e = subst (λ z. z.number < n) (hole_same y x at) e.0
  where
    hole_same : (a b : Variable) → ◌≡◌ {A = Item Variable} (Hole a) (Hole b) → a ≡ b
    hole_same a b k = cc
next_below (Label f rank ∷ items) zero n d x low at e = absurd (cc)
next_below (Hole y ∷ items) (suc i) n d x low at e = next_below items i n d x (omega (arith, low)) at e.1
next_below (Label f rank ∷ items) (suc i) n d x low at e = next_below items i n d x (omega (arith, low)) at e

-- the product of the costs at the holes of a match

module _ {levelled weighted : Bool} {product : ℕ → ℕ → ℕ} (laws : ProductLaws levelled weighted product) where
  times_free : (v w : Option ℕ) → times product (Some 0) (times product v w) ≡ times product v w
  times_free None w = refl
  times_free (Some a) None = refl
  times_free (Some a) (Some b) = elim (cut-cases (product a b)) [
    | inl c ↦ ap (times product (Some 0)) c.1 ∙ ap cut (laws.neutral (product a b))
    | inr c ↦ ap (times product (Some 0)) c.1 ∙ sym c.1
  ]

  module _ (runs : LeastRuns) where
    -- what is kept costs nothing beside what is left out
    free_beside : (ys : List (Option ℕ × ℕ)) → times product (Some 0) (deleted_in product runs ys) ≡ deleted_in product runs ys
    free_beside [] = ap cut (laws.neutral 0)
    free_beside (y ∷ ys) = times_free (asked_in runs y.0 y.1) (deleted_in product runs ys)

    along_deleted :
        (n : ℕ) (kept : List Bool) (named : List ℕ) (xs : List Variable) (hs : List HoleCost) (ss : List ℕ) → AreHoleCosts runs n kept xs hs →
        Each (λ x. get_or kept x.number false ≡ list_any (nat_eq x.number) named) xs → Each (λ s. s < n) ss → length ss ≡ length xs →
        cost_along product (map cost_at hs) ss ≡ deleted_in product runs (deleted named xs ss)
    along_deleted n kept named [] [] [] a m b e = refl
    along_deleted n kept named [] [] (s ∷ ss) a m b e = absurd (omega (arith, e))
    along_deleted n kept named [] (h ∷ hs) ss a m b e = absurd a
    along_deleted n kept named (x ∷ xs) [] ss a m b e = absurd a
    along_deleted n kept named (x ∷ xs) (h ∷ hs) [] a m b e = absurd (omega (arith, e))
    along_deleted n kept named (x ∷ xs) (h ∷ hs) (s ∷ ss) a m b e =
        ap (λ v. times product v (cost_along product (map cost_at hs) ss)) (a.0 s b.0 ∙ ap (λ k. beside runs k x.label s) m.0)
        ∙ ap (times product (beside runs (list_any (nat_eq x.number) named) x.label s)) (along_deleted n kept named xs hs ss a.1 m.1 b.1 (omega (arith, e)))
        ∙ by (list_any (nat_eq x.number) named)
      where
        by :
            (k : Bool) → times product (beside runs k x.label s) (deleted_in product runs (deleted named xs ss))
            ≡ deleted_in product runs (if k then deleted named xs ss else (x.label, s) ∷ deleted named xs ss)
        by true = free_beside (deleted named xs ss)
        by false = refl

  module _
      (grammar : List (Rule ℕ)) (normal : AreNormal grammar) (n : ℕ) (range : HoleStatesBelow n grammar) (runs : LeastRuns) (labels : List ℕ)
      (rule : TransducerRule ℕ) (shaped : IsShaped rule) (plan : Plan) (planned : IsPlan labels rule plan) (q : ℕ) (low : q < n)
      (costs : List HoleCost) (are : AreHoleCosts runs n plan.kept.items (variables_of rule.left) costs) where
    same_beside :
        (ss : List ℕ) (c : ℕ) → IsMatch product grammar rule.left q ss (Some c) → cost_along product (map cost_at costs) ss ≡ deleted_in product runs (deleted (variables_in rule.right) (variables_of rule.left) ss)
    same_beside ss c m =
        along_deleted runs n plan.kept.items (variables_in rule.right) (variables_of rule.left) costs ss are
        (each_weaker (λ (x : Variable). x.number < length (variables_of rule.left)) (λ x. get_or plan.kept.items x.number false ≡ list_any (nat_eq x.number) (variables_in rule.right)) (variables_of rule.left)
        (λ x h. planned.kept x.number h) (numbered_below (variables_of rule.left) shaped.numbered))
        (each_of (λ s. s < n) ss (states_within product grammar n range (only rule.left) (q ∷ []) ss c m.attained.0 only_low)) (match_long laws grammar normal (only rule.left) (q ∷ []) ss c m.attained.0)
      where
        only_low : (y : ℕ) → Has (q ∷ []) y → y < n
        only_low y h = elim h [ inl same ↦ subst (λ z. z < n) same low | inr nothing ↦ absurd nothing ]

    within_affordable : (m : List ℕ × ℕ) → IsMatch product grammar rule.left q m.0 (Some m.1) → IsWithin product rule.cost costs m → IsAffordable product runs rule m
    within_affordable m is w = record { deleted_cost = w.beside; is_deleted_cost = sym (same_beside m.0 m.1 is) ∙ w.is_beside; within = w.within }

    -- the matches that count with the costs of states at holes are those that are affordable
    pub affordable_where : (number : ℕ) (answer : Within) → AnswersWhere product grammar rule.left q (IsWithin product rule.cost costs) number answer → AnswersWhere product grammar rule.left q (IsAffordable product runs rule) number answer
    affordable_where number (All ms) found = record {
      ascend = found.ascend;
      least = found.least;
      whole = λ ss c m w. found.whole ss c m (record { beside = w.deleted_cost; is_beside = same_beside ss c m ∙ w.is_deleted_cost; within = w.within });
    }
    affordable_where number More found = record {
      matches = found.matches;
      ascend = found.ascend;
      least = found.least;
      count = each_of (IsAffordable product runs rule) found.matches (λ m h. within_affordable m (each_has (λ (x : List ℕ × ℕ). IsMatch product grammar rule.left q x.0 (Some x.1)) found.matches m found.least h)
          (each_has (IsWithin product rule.cost costs) found.matches m found.count h));
      more = found.more;
    }

-- what is searched for a rule that was looked up
module _
    {levelled weighted : Bool} {product : ℕ → ℕ → ℕ} (laws : ProductLaws levelled weighted product) (grammar : List (Rule ℕ)) (normal : AreNormal grammar) (n : ℕ) (range : HoleStatesBelow n grammar)
    (runs : LeastRuns) (labels : List ℕ) (r rule : TransducerRule ℕ) (is : r ≡ rule) (shaped : IsShaped rule) (plan : Plan) (planned : IsPlan labels rule plan)
    (items : List (Item Variable)) (are_items : pairs_of items ≡ preorder_of r.left) (kept : List Bool) (are_kept : kept ≡ plan.kept.items) where
  holes_are : holes_in items ≡ variables_of rule.left
  holes_are = sym (holes_of_items items r.left are_items) ∙ ap (λ x. variables_of x.left) is

  -- each variable is marked
  pub holes_below : Each (λ x. x.number < length kept) (holes_in items)
  holes_below =
      let long : length kept ≡ length (variables_of rule.left) = ap length are_kept ∙ planned.many in
      subst (Each (λ (x : Variable). x.number < length kept)) (sym holes_are)
      (subst (λ k. Each (λ (x : Variable). x.number < k) (variables_of rule.left)) (sym long) (numbered_below (variables_of rule.left) shaped.numbered))

  -- the answer of the search says which matches are affordable
  pub affordable_here :
      (k : ℕ) (costs hs : List HoleCost) (p q : ℕ) (number : ℕ) (answer : Within) → k ≡ n → AreHoleCosts runs k kept (holes_in items) costs → hs ≡ costs → p ≡ q → q < n →
      AnswersWhere product grammar r.left p (IsWithin product r.cost hs) number answer → AnswersWhere product grammar rule.left q (IsAffordable product runs rule) number answer
  affordable_here k costs hs p q number answer same_count are same_costs same low found =
      affordable_where laws grammar normal n range runs labels rule shaped plan planned q low costs
      (subst (λ xs. AreHoleCosts runs n plan.kept.items xs costs) holes_are (subst (λ bs. AreHoleCosts runs n bs (holes_in items) costs) are_kept (subst (λ j. AreHoleCosts runs j kept (holes_in items) costs) same_count are)))
      number answer
      (subst (λ (x : TransducerRule ℕ). AnswersWhere product grammar x.left q (IsWithin product x.cost costs) number answer) is
      (subst (λ j. AnswersWhere product grammar r.left j (IsWithin product r.cost costs) number answer) same
      (subst (λ xs. AnswersWhere product grammar r.left p (IsWithin product r.cost xs) number answer) same_costs found)))
