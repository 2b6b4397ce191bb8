-- The trimmed file and its through costs do not depend on the numbers of labels, and there is one.
use Rattle.std.proofs.Common.{◌≡◌, ℕ, ◌<◌, ◌≤◌, List, [], ◌∷◌, length, map, get_or, refl, ap, sym, ◌∙◌, subst, arith, Option}
use Rattle.std.specs.Prelude.{Some}
use Rattle.std.proofs.lemmas.List.{length-map, get_or_default, same_lists}
use Rattle.tib_lex.specs.Lists.{Has, Each}
use Rattle.tib_lex.proofs.Lists.{has_mapped, some_same}
use Rattle.tib_lex.proofs.Members.{has_at, at_has, each_of}
use Rattle.tib_tree.specs.Trees.{Trees, none, tree, only}
use Rattle.tib_cost.specs.Semiring.{most}
use Rattle.tib_cost.proofs.Least.{IsLeast-same, IsLeast-unique}
use Rattle.tib_grammar.specs.GrammarOf.{GrammarOf, named_rule}
use Rattle.tib_grammar.specs.Range.{AreInRange, SidesEndInHoles}
use Rattle.tib_grammar.specs.Run.{rule_at, no_rule}
use Rattle.tib_grammar.specs.Sides.{Symbol, label, hole, HolesAreLeaves}
use Rattle.tib_grammar.specs.declared.Rule.{Rule}
use Rattle.tib_grammar_file.proofs.Relabelled.{rule_with, rules_with, trees_with, at_with}
use Rattle.tib_grammar_file.proofs.RunsByText.{DifferInLabels, differ_back, differ_with, runs_kept, cost_kept}
use Rattle.tib_canon.proofs.CanonicalByText.{labels_back}
use Rattle.tib_canon.proofs.One.{ascending_same}
use Rattle.tib_canon.proofs.TrimmedByText.{grammar_with, EachLabel, EachLabelIn, rules_commute, range_with, positions_with}
use Rattle.tib_canon.proofs.TrimmedOnce.{fit_from, rule_told}
use Rattle.tib_trim.specs.Complete.{IsInCompleteRun, IsCostWith, IsThroughCost}
use Rattle.tib_trim.specs.FirstSeen.{firsts, states_of}
use Rattle.tib_trim.specs.TrimmedFile.{AreInCompleteRuns, HasRules, IsTrimmedFile, AreThroughCosts, HaveCosts, HasThroughCosts}
use Rattle.tib_trim.proofs.CompleteRules.{stands_below}
use Rattle.tib_operations.proofs.FirstSight.{rules_long, kept_at, places_apart}

-- nothing is below a hole under other numbers of labels
trees_end : (f : ℕ → ℕ) (ts : Trees (Symbol ℕ ℕ)) → HolesAreLeaves ts → HolesAreLeaves (trees_with f ts)
trees_end f none h = tt
trees_end f (tree (label g) kids rest) h = (trees_end f kids h.0, trees_end f rest h.1)
trees_end f (tree (hole q) none rest) h = trees_end f rest h
trees_end f (tree (hole q) (tree s kids more) rest) h = absurd h

pub leaves_with : (f : ℕ → ℕ) (rules : List (Rule ℕ)) → SidesEndInHoles rules → SidesEndInHoles (rules_with f rules)
leaves_with f rules leaves n h =
    let below : n < length rules = omega (arith, h, length-map rules (rule_with f)) in
    subst (λ (r : Rule ℕ). HolesAreLeaves (only r.right)) (sym (at_with f rules n below)) (trees_end f (only (rule_at rules n).right) (leaves n below))

-- rules that differ in labels alone have the same complete runs, at the same costs
module _ (product : ℕ → ℕ → ℕ) (xs ys : List (Rule ℕ)) (d : DifferInLabels xs ys) where
  run_kept : (n : ℕ) → IsInCompleteRun product xs n → IsInCompleteRun product ys n
  run_kept n r = record {
    run = r.run;
    complete = record {
      from_start = runs_kept xs ys d (0 ∷ []) r.run r.complete.from_start;
      within = subst (λ (c : ℕ). c ≤ most) (cost_kept xs ys d product (0 ∷ []) r.run r.complete.from_start) r.complete.within;
    };
    stands = r.stands;
  }

  with_kept : (n c : ℕ) → IsCostWith product xs n c → IsCostWith product ys n c
  with_kept n c r = record {
    run = r.run;
    from_start = runs_kept xs ys d (0 ∷ []) r.run r.from_start;
    stands = r.stands;
    costs = sym (cost_kept xs ys d product (0 ∷ []) r.run r.from_start) ∙ r.costs;
  }

through_kept : (product : ℕ → ℕ → ℕ) (xs ys : List (Rule ℕ)) → DifferInLabels xs ys → (n : ℕ) (v : Option ℕ) → IsThroughCost product xs n v → IsThroughCost product ys n v
through_kept product xs ys d n v t = IsLeast-same (with_kept product xs ys d n) (with_kept product ys xs (differ_back xs ys d) n) t

-- positions of rules in complete runs are below their number
pub position_below : (product : ℕ → ℕ → ℕ) (rules : List (Rule ℕ)) (positions : List ℕ) → AreInCompleteRuns product rules positions → (n : ℕ) → Has positions n → n < length rules
position_below product rules positions a n h =
    let r = (a.are n).0 h in
    stands_below rules (0 ∷ []) r.run n r.complete.from_start r.stands

lefts_with : (f : ℕ → ℕ) (rules : List (Rule ℕ)) → map (λ (r : Rule ℕ). r.left) (rules_with f rules) ≡ map (λ (r : Rule ℕ). r.left) rules
lefts_with f [] = refl
lefts_with f (r ∷ rules) = ap (λ (qs : List ℕ). r.left ∷ qs) (lefts_with f rules)

module _ (f : ℕ → ℕ) where
  -- a grammar of some rules is one of the rules with other numbers of labels
  has_rules_with : (names : List (List ℕ)) (kept : List (Rule ℕ)) (g : GrammarOf) → HasRules names kept g → HasRules names (rules_with f kept) (grammar_with f g)
  has_rules_with names kept g has =
      let states : states_of (rules_with f kept) ≡ states_of kept = ap (λ (qs : List ℕ). firsts (0 ∷ qs)) (lefts_with f kept) in
      record {
        names = has.names ∙ ap (map (λ (q : ℕ). get_or names q [])) (sym states);
        in_range = subst (λ (n : ℕ). AreInRange n (rules_with f g.rules)) (sym (ap length states)) (range_with f (length (states_of kept)) g.rules has.in_range);
        named = ap (λ (qs : List ℕ). map (named_rule (λ i. get_or qs i 0)) (rules_with f g.rules)) states
            ∙ rules_commute (λ i. get_or (states_of kept) i 0) f g.rules
            ∙ ap (rules_with f) has.named;
      }

  module _ (product : ℕ → ℕ → ℕ) (g : GrammarOf) where
    there : DifferInLabels g.rules (rules_with f g.rules)
    there = differ_with f g.rules

    back : DifferInLabels (rules_with f g.rules) g.rules
    back = differ_back g.rules (rules_with f g.rules) there

    pub trimmed_with : (h : GrammarOf) → IsTrimmedFile product g h → IsTrimmedFile product (grammar_with f g) (grammar_with f h)
    trimmed_with h t = record {
      positions = t.positions;
      are_kept = record {
        ascend = t.are_kept.ascend;
        are = λ n. (λ k. run_kept product g.rules (rules_with f g.rules) there n ((t.are_kept.are n).0 k), λ r. (t.are_kept.are n).1 (run_kept product (rules_with f g.rules) g.rules back n r));
      };
      has_rules = subst (λ (rs : List (Rule ℕ)). HasRules g.names rs (grammar_with f h))
          (positions_with f g.rules t.positions (each_of (λ n. n < length g.rules) t.positions (λ n k. position_below product g.rules t.positions t.are_kept n k)))
          (has_rules_with g.names (map (rule_at g.rules) t.positions) h t.has_rules);
    }

    pub costs_with :
        (rules new : List (Rule ℕ)) (costs : List ℕ) → HaveCosts rules costs new → HaveCosts (rules_with f rules) costs (rules_with f new)
    costs_with rules new costs h = record {
      as_many = length-map new (rule_with f) ∙ h.as_many ∙ sym (length-map rules (rule_with f));
      each = λ n b.
          let below : n < length rules = omega (arith, b, length-map rules (rule_with f)) in
          at_with f new n (omega (arith, below, h.as_many))
          ∙ ap (rule_with f) (h.each n below)
          ∙ ap (λ (r : Rule ℕ). record { left = r.left; right = r.right; cost = get_or costs n 0 }) (sym (at_with f rules n below));
    }

    pub throughs_with : (h : GrammarOf) → HasThroughCosts product g h → HasThroughCosts product (grammar_with f g) (grammar_with f h)
    unfolding trimmed_with
    throughs_with h t = record {
      trimmed = grammar_with f t.trimmed;
      is_trimmed = trimmed_with t.trimmed t.is_trimmed;
      costs = t.costs;
      are_costs = record {
        as_many = t.are_costs.as_many;
        each = λ i b. through_kept product g.rules (rules_with f g.rules) there (get_or t.is_trimmed.positions i 0) (Some (get_or t.costs i 0)) (t.are_costs.each i b);
      };
      names = t.names;
      have_costs = costs_with t.trimmed.rules h.rules t.costs t.have_costs;
    }

    pub throughs_leaves : (h : GrammarOf) (t : HasThroughCosts product g h) → SidesEndInHoles t.trimmed.rules → SidesEndInHoles (throughs_with h t).trimmed.rules
    unfolding throughs_with
    throughs_leaves h t leaves = leaves_with f t.trimmed.rules leaves

-- there is one

below_way : (x y : ℕ) → x < y → y < x → ⊥
below_way x y h k = omega arith

same_grammar : (g h : GrammarOf) → g.names ≡ h.names → g.rules ≡ h.rules → g ≡ h
same_grammar g h a b =
    ap (λ (ns : List (List ℕ)). let k : GrammarOf = record { names = ns; rules = g.rules } in k) a
    ∙ ap (λ (rs : List (Rule ℕ)). let k : GrammarOf = record { names = h.names; rules = rs } in k) b

-- lists with the same rule at each position
same_rules : (xs ys : List (Rule ℕ)) → length xs ≡ length ys → ((n : ℕ) → n < length xs → rule_at xs n ≡ rule_at ys n) → xs ≡ ys
same_rules xs ys long each =
    same_lists xs ys long (λ k d h. get_or_default xs k d no_rule h ∙ each k h ∙ sym (get_or_default ys k d no_rule (omega (arith, h, long))))

rules_once :
    (names : List (List ℕ)) (kept : List (Rule ℕ)) (g h : GrammarOf) → HasRules names kept g → HasRules names kept h → SidesEndInHoles g.rules → SidesEndInHoles h.rules → g ≡ h
rules_once names kept g h a b leaves others =
    let long : length g.rules ≡ length h.rules = rules_long names kept g a ∙ sym (rules_long names kept h b) in
    same_grammar g h (a.names ∙ sym b.names) (same_rules g.rules h.rules long (λ n k.
    let l : n < length h.rules = omega (arith, k, long) in
    rule_told (length (states_of kept)) (λ (i : ℕ). get_or (states_of kept) i 0) (places_apart names kept g a) (rule_at g.rules n) (rule_at h.rules n) (a.in_range n k).0 (b.in_range n l).0
    (fit_from (length (states_of kept)) (only (rule_at g.rules n).right) (a.in_range n k).1 (leaves n k)) (fit_from (length (states_of kept)) (only (rule_at h.rules n).right) (b.in_range n l).1 (others n l))
    (kept_at names kept g a n k ∙ sym (kept_at names kept h b n l))))

module _ (product : ℕ → ℕ → ℕ) (g : GrammarOf) where
  pub positions_once : (ps qs : List ℕ) → AreInCompleteRuns product g.rules ps → AreInCompleteRuns product g.rules qs → ps ≡ qs
  positions_once ps qs a b =
      ascending_same ◌<◌ below_way ps qs a.ascend b.ascend (λ n h. (b.are n).1 ((a.are n).0 h)) (λ n h. (a.are n).1 ((b.are n).0 h))

  pub trimmed_once : (h k : GrammarOf) → IsTrimmedFile product g h → IsTrimmedFile product g k → SidesEndInHoles h.rules → SidesEndInHoles k.rules → h ≡ k
  trimmed_once h k a b leaves others =
      let same : a.positions ≡ b.positions = positions_once a.positions b.positions a.are_kept b.are_kept in
      rules_once g.names (map (rule_at g.rules) b.positions) h k (subst (λ (ps : List ℕ). HasRules g.names (map (rule_at g.rules) ps) h) same a.has_rules) b.has_rules leaves others

  costs_once : (positions costs others : List ℕ) → AreThroughCosts product g.rules positions costs → AreThroughCosts product g.rules positions others → costs ≡ others
  costs_once positions costs others a b =
      let long : length costs ≡ length others = a.as_many ∙ sym b.as_many in
      same_lists costs others long (λ i d h.
      let below : i < length positions = omega (arith, h, a.as_many) in
      get_or_default costs i d 0 h
      ∙ some_same (get_or costs i 0) (get_or others i 0) (IsLeast-unique (a.each i below) (b.each i below))
      ∙ sym (get_or_default others i d 0 (omega (arith, h, long))))

  with_once : (rules xs ys : List (Rule ℕ)) (costs : List ℕ) → HaveCosts rules costs xs → HaveCosts rules costs ys → xs ≡ ys
  with_once rules xs ys costs a b =
      same_rules xs ys (a.as_many ∙ sym b.as_many) (λ n h. let below : n < length rules = omega (arith, h, a.as_many) in a.each n below ∙ sym (b.each n below))

  pub throughs_once :
      (h k : GrammarOf) (a : HasThroughCosts product g h) (b : HasThroughCosts product g k) → SidesEndInHoles a.trimmed.rules → SidesEndInHoles b.trimmed.rules → h ≡ k
  throughs_once h k a b leaves others =
      let one : a.trimmed ≡ b.trimmed = trimmed_once a.trimmed b.trimmed a.is_trimmed b.is_trimmed leaves others in
      let same : a.is_trimmed.positions ≡ b.is_trimmed.positions = positions_once a.is_trimmed.positions b.is_trimmed.positions a.is_trimmed.are_kept b.is_trimmed.are_kept in
      let costs : a.costs ≡ b.costs = costs_once b.is_trimmed.positions a.costs b.costs (subst (λ (ps : List ℕ). AreThroughCosts product g.rules ps a.costs) same a.are_costs) b.are_costs in
      let have : HaveCosts b.trimmed.rules b.costs h.rules =
      subst (λ (cs : List ℕ). HaveCosts b.trimmed.rules cs h.rules) costs (subst (λ (t : GrammarOf). HaveCosts t.rules a.costs h.rules) one a.have_costs) in
      same_grammar h k (a.names ∙ ap (λ (t : GrammarOf). t.names) one ∙ sym b.names) (with_once b.trimmed.rules h.rules k.rules b.costs have b.have_costs)

-- what holds of the labels of a grammar holds of those of its rules that are kept
module _ (P : ℕ → Type 0) where
  rules_labels : (names : List (List ℕ)) (kept : List (Rule ℕ)) (g : GrammarOf) → HasRules names kept g → EachLabelIn P kept → EachLabelIn P g.rules
  rules_labels names kept g has e r h =
      let at = at_has g.rules r no_rule h in
      let below : at.0 < length kept = omega (arith, at.1, rules_long names kept g has) in
      let own : EachLabel P (only (rule_at kept at.0).right) = e (rule_at kept at.0) (has_at kept at.0 no_rule below) in
      subst (λ (x : Rule ℕ). EachLabel P (only x.right)) at.2
      (labels_back P (λ (i : ℕ). get_or (states_of kept) i 0) (only (rule_at g.rules at.0).right) (subst (λ (x : Rule ℕ). EachLabel P (only x.right)) (sym (kept_at names kept g has at.0 at.1)) own))

  pub trimmed_labels : (product : ℕ → ℕ → ℕ) (g h : GrammarOf) → IsTrimmedFile product g h → EachLabelIn P g.rules → EachLabelIn P h.rules
  trimmed_labels product g h t e =
      rules_labels g.names (map (rule_at g.rules) t.positions) h t.has_rules (λ r k.
      let m = has_mapped (rule_at g.rules) t.positions r k in
      e r (subst (Has g.rules) m.2 (has_at g.rules m.0 no_rule (position_below product g.rules t.positions t.are_kept m.0 m.1))))

  pub costed_labels : (rules new : List (Rule ℕ)) (costs : List ℕ) → HaveCosts rules costs new → EachLabelIn P rules → EachLabelIn P new
  costed_labels rules new costs h e r k =
      let at = at_has new r no_rule k in
      let below : at.0 < length rules = omega (arith, at.1, h.as_many) in
      subst (λ (x : Rule ℕ). EachLabel P (only x.right)) (sym (h.each at.0 below) ∙ at.2) (e (rule_at rules at.0) (has_at rules at.0 no_rule below))
