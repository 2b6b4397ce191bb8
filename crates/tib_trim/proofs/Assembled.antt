-- The trimmed file and the one with through costs, put together.
use Rattle.std.specs.Prelude.{◌≡◌, ℕ, ◌<◌, List, [], ◌∷◌, length, map, refl}
use Rattle.std.proofs.Common.{arith, ap, sym, ◌∙◌, subst, get_or}
use Rattle.std.proofs.lemmas.List.{get_or-map, length-map}
use Rattle.tib_lex.proofs.Members.{has_at}
use Rattle.tib_tree.specs.Trees.{only}
use Rattle.tib_grammar.specs.GrammarOf.{GrammarOf, named_rule}
use Rattle.tib_grammar.specs.Range.{AllBelow, AreInRange, SidesEndInHoles}
use Rattle.tib_grammar.specs.Run.{rule_at, no_rule}
use Rattle.tib_grammar.specs.Series.{HaveSameSeries}
use Rattle.tib_grammar.specs.Sides.{HolesAreLeaves, holes_of}
use Rattle.tib_grammar.specs.declared.Rule.{Rule}
use Rattle.tib_inside.proofs.Chosen.{distinct_at}
use Rattle.tib_trim.specs.Complete.{AreAllInCompleteRuns}
use Rattle.tib_trim.specs.FirstSeen.{states_of}
use Rattle.tib_trim.specs.Keeping.{AreKept, IsTrimmedWith}
use Rattle.tib_trim.specs.TrimmedFile.{HasRules, HaveCosts, HasThroughCosts}
use Rattle.tib_trim.proofs.CompleteRules.{stands_below}
use Rattle.tib_trim.proofs.FirstSeen.{states_distinct}
use Rattle.tib_trim.proofs.Renumbered.{same_series, all_in}

-- nothing is below a hole of a rule that is kept
pub kept_leaves : (product : ℕ → ℕ → ℕ) (rules kept : List (Rule ℕ)) (costs : List ℕ) → AreKept product rules kept costs → SidesEndInHoles rules → SidesEndInHoles kept
kept_leaves product rules kept costs k leaves i h =
    let long : length kept ≡ length k.positions = ap length k.are_rules ∙ length-map k.positions (rule_at rules) in
    let n : ℕ = get_or k.positions i 0 in
    let r = (k.are_kept.are n).0 (has_at k.positions i 0 (omega (arith, h, long))) in
    let here : rule_at kept i ≡ rule_at rules n = ap (λ rs. rule_at rs i) k.are_rules ∙ get_or-map (rule_at rules) k.positions i 0 no_rule (omega (arith, h, long)) in
    subst (λ (x : Rule ℕ). HolesAreLeaves (only x.right)) (sym here) (leaves n (stands_below rules (0 ∷ []) r.run n r.complete.from_start r.stands))

-- the grammar of the rules that are kept is the trimmed file
pub trimmed_with :
    (product : ℕ → ℕ → ℕ) (old new : GrammarOf) (names : List (List ℕ)) (rules kept : List (Rule ℕ)) (costs : List ℕ) → names ≡ old.names → rules ≡ old.rules → AreKept product rules kept costs → HasRules names kept new →
    IsTrimmedWith product old new costs
trimmed_with product old new names rules kept costs n r k h =
    let k' : AreKept product old.rules kept costs = subst (λ rs. AreKept product rs kept costs) r k in
    record {
      is_trimmed = record {
        positions = k'.positions;
        are_kept = k'.are_kept;
        has_rules = subst (λ rs. HasRules old.names rs new) k'.are_rules (subst (λ ns. HasRules ns kept new) n h);
      };
      are_costs = k'.are_costs;
    }

module _ (product : ℕ → ℕ → ℕ) (names : List (List ℕ)) (kept : List (Rule ℕ)) (new : GrammarOf) (has : HasRules names kept new) where
  abbrev state_at : ℕ → ℕ
  state_at i = get_or (states_of kept) i 0

  apart : (p q : ℕ) → p < length (states_of kept) → q < length (states_of kept) → state_at p ≡ state_at q → p ≡ q
  apart p q h k e = distinct_at (states_of kept) p q 0 (states_distinct kept) h k e

  -- it has the series of the rules
  pub kept_series : HaveSameSeries product kept new.rules
  kept_series = same_series product state_at (length (states_of kept)) kept new.rules has.named has.in_range apart refl (omega arith)

  -- and each of its rules is in a complete run
  pub kept_runs : AreAllInCompleteRuns product kept → AreAllInCompleteRuns product new.rules
  kept_runs all = all_in product state_at (length (states_of kept)) kept new.rules has.named has.in_range apart refl (omega arith) all

-- one series after another
pub both_series : (product : ℕ → ℕ → ℕ) (one two three : List (Rule ℕ)) → HaveSameSeries product one two → HaveSameSeries product two three → HaveSameSeries product one three
both_series product one two three a b t v = (λ h. (b t v).0 ((a t v).0 h), λ h. (a t v).1 ((b t v).1 h))

-- there is a cost for each rule
pub costs_long : (product : ℕ → ℕ → ℕ) (old new : GrammarOf) (costs : List ℕ) → IsTrimmedWith product old new costs → length costs ≡ length new.rules
costs_long product old new costs t =
    t.are_costs.as_many
    ∙ sym (length-map t.is_trimmed.positions (rule_at old.rules))
    ∙ sym (ap length t.is_trimmed.has_rules.named)
    ∙ length-map new.rules (named_rule (λ i. get_or (states_of (map (rule_at old.rules) t.is_trimmed.positions)) i 0))

-- rules with other costs are in range where the rules are
pub costs_range : (count : ℕ) (rules new : List (Rule ℕ)) (costs : List ℕ) → HaveCosts rules costs new → AreInRange count rules → AreInRange count new
costs_range count rules new costs h range n b =
    let below : n < length rules = omega (arith, b, h.as_many) in
    let left : (rule_at new n).left ≡ (rule_at rules n).left = ap (λ (r : Rule ℕ). r.left) (h.each n below) in
    let right : holes_of (rule_at new n).right ≡ holes_of (rule_at rules n).right = ap (λ (r : Rule ℕ). holes_of r.right) (h.each n below) in
    (subst (λ q. q < count) (sym left) (range n below).0, subst (AllBelow count) (sym right) (range n below).1)

-- the trimmed file with other costs
pub with_costs :
    (product : ℕ → ℕ → ℕ) (old trimmed new : GrammarOf) (names : List (List ℕ)) (rules now : List (Rule ℕ)) (costs : List ℕ) → IsTrimmedWith product old trimmed costs → names ≡ trimmed.names → rules ≡ trimmed.rules →
    HaveCosts rules costs now → new.names ≡ names → new.rules ≡ now → HasThroughCosts product old new
with_costs product old trimmed new names rules now costs t n r h n' r' = record {
  trimmed = trimmed;
  is_trimmed = t.is_trimmed;
  costs = costs;
  are_costs = t.are_costs;
  names = n' ∙ n;
  have_costs = subst (λ rs. HaveCosts rs costs new.rules) r (subst (HaveCosts rules costs) (sym r') h);
}
