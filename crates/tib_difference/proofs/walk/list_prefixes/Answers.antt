use Rattle.std.proofs.Common.{rules, ◌≡◌, ◌<◌, ◌++◌, ◌∷◌, [], ℕ, List, length, map, arith, ap, sym, ◌∙◌, subst, refl}
use Rattle.std.proofs.lemmas.List.{get_or_read, nil_from_length}
use Rattle.tib_lex.specs.Lists.{Each}
use Rattle.tib_tree.specs.Trees.{count}
use Rattle.tib_grammar.specs.Items.{state_in}
use Rattle.tib_grammar.specs.Run.{no_rule, rule_at}
use Rattle.tib_grammar.specs.Sides.{holes}
use Rattle.tib_grammar.specs.declared.Rule.{Rule}
use Rattle.tib_grammar.proofs.Sides.{length-holes}
use Rattle.tib_determinize.proofs.Results.{err_is}
use Rattle.tib_difference.specs.Listing.{Adds}
use Rattle.tib_difference.specs.Tries.{choices_at, grown, states_in, tries_at, remaining, behind_rule}
use Rattle.tib_difference.specs.Underway.{IsUnderway}
use Rattle.tib_difference.specs.Walks.{IsPrefix, prefixes_of}
use Rattle.tib_difference.proofs.Adding.{adds_none}
use Rattle.tib_difference.proofs.Steps.{underway_next, underway_over, underway_end}
use Rattle.tib_difference.proofs.Walking.{choices_low, each_append, grown_next, last_prefix, prefixes_grown, tries_none, walk_begin, whole_next}
use Rattle.tib_difference.proofs.walk.list_prefixes.Goals as goal

pub loop-turn-init : goal.loop-turn-init
loop-turn-init c =
    let w = c.args.walk.now in
    let at = sym c.index-walk-walk.is ∙ get_or_read w.first.now w.rule c.index-walk-walk.result c.requires.rule c.index-walk-walk.is no_rule in
    let rank_is : c.root-rank.result.1 ≡ length (states_in w.first.now w.rule) =
    c.root-rank.ensures.rank ∙ ap (λ (r : Rule ℕ). count r.right.kids) at ∙ sym (length-holes (rule_at w.first.now w.rule).right.kids (c.requires.first w.rule c.requires.rule).are_holes)
    in
    let one : prefixes_of c.push.new.self.items ≡ [] ∷ [] =
    ap prefixes_of (c.in-Ok.ensures.items ∙ ap (λ vs. vs ++ c.new.result ∷ []) c.new-stack.ensures.items) ∙ ap (λ (ps : List ℕ). ps ∷ []) c.new.ensures.items
    in
    record {
      within = c.requires.within;
      budget = refl;
      prefixes = subst (λ pss. Each (IsPrefix (length w.order.now) c.root-rank.result.1) pss) (sym one) ((omega arith, tt), tt);
      underway = walk_begin w.first.now w.order.now w.position w.rule w.place c.root-rank.result.1 rank_is w.second.rules.now (prefixes_of c.push.new.self.items) c.args.listing.now one;
    }

pub returns-then-is_stuck-clause-added : goal.returns-then-is_stuck-clause-added
returns-then-is_stuck-clause-added c =
    let w = c.args.walk.now in
    let at = sym c.index-walk-walk.is ∙ get_or_read w.first.now w.rule c.index-walk-walk.result c.requires.rule c.index-walk-walk.is no_rule in
    let rank_is : c.root-rank.result.1 ≡ length (states_in w.first.now w.rule) =
    c.root-rank.ensures.rank ∙ ap (λ (r : Rule ℕ). count r.right.kids) at ∙ sym (length-holes (rule_at w.first.now w.rule).right.kids (c.requires.first w.rule c.requires.rule).are_holes)
    in
    let states_are = c.states_below-states.ensures.states ∙ ap (λ (r : Rule ℕ). holes r.right.kids) at in
    subst (λ os. Adds w.first.now w.second.rules.now w.order.now os c.args.listing.now c.args.listing.now)
    (sym (tries_none w.first.now w.order.now w.position w.rule w.place c.root-rank.result.1 rank_is (map state_in c.states_below-states.result.now) states_are (c.if-is_stuck.ensures.yes refl)))
    (adds_none w.first.now w.second.rules.now w.order.now c.args.listing.now)

pub returns-in_default-pop-clause-added : goal.returns-in_default-pop-clause-added
returns-in_default-pop-clause-added c =
    let w = c.args.walk.now in
    let none : length c.loop-turn.stack.items ≡ 0 = search rules in
    underway_end w.first.now w.second.rules.now w.order.now (tries_at w.first.now w.order.now w.position w.rule w.place)
    (behind_rule w.rule (remaining (choices_at (states_in w.first.now w.rule) w.order.now w.position w.place) c.root-rank.result.1 (prefixes_of c.loop-turn.stack.items)))
    c.args.listing.now c.loop-turn.listing
    (ap (λ vs. behind_rule w.rule (remaining (choices_at (states_in w.first.now w.rule) w.order.now w.position w.place) c.root-rank.result.1 (prefixes_of vs))) (nil_from_length c.loop-turn.stack.items none))
    c.loop-turn.invariant.underway

pub list_edge-requires-clause-positions : goal.list_edge-requires-clause-positions
list_edge-requires-clause-positions c =
    let w = c.args.walk.now in
    let last = last_prefix (length w.order.now) c.root-rank.result.1 c.loop-turn.stack.items c.pop.new.self.items c.in-Some.prefix c.in-Some.ensures.items c.loop-turn.invariant.prefixes in
    last.1.1

pub list_edge-requires-clause-few : goal.list_edge-requires-clause-few
list_edge-requires-clause-few c =
    let w = c.args.walk.now in
    let last = last_prefix (length w.order.now) c.root-rank.result.1 c.loop-turn.stack.items c.pop.new.self.items c.in-Some.prefix c.in-Some.ensures.items c.loop-turn.invariant.prefixes in
    let fits : c.root-rank.result.1 < 4294967296 = search rules in
    omega (arith, last.1.0, fits)

pub returns-in-Err-clause-more : goal.returns-in-Err-clause-more
returns-in-Err-clause-more c = λ e.
    let w = c.args.walk.now in
    let last = last_prefix (length w.order.now) c.root-rank.result.1 c.loop-turn.stack.items c.pop.new.self.items c.in-Some.prefix c.in-Some.ensures.items c.loop-turn.invariant.prefixes in
    let long : c.len.result ≡ length c.in-Some.prefix.items = search rules in
    let whole : length c.in-Some.prefix.items ≡ c.root-rank.result.1 = omega (arith, long, last.1.0, c.if-len-rank.false) in
    let next = whole_next (choices_at (states_in w.first.now w.rule) w.order.now w.position w.place) w.rule c.root-rank.result.1 c.loop-turn.stack.items c.pop.new.self.items c.in-Some.prefix c.in-Some.ensures.items whole in
    underway_over w.first.now w.second.rules.now w.order.now (tries_at w.first.now w.order.now w.position w.rule w.place) ((w.rule, c.in-Some.prefix.items) ∷ [])
    (behind_rule w.rule (remaining (choices_at (states_in w.first.now w.rule) w.order.now w.position w.place) c.root-rank.result.1 (prefixes_of c.loop-turn.stack.items)))
    (behind_rule w.rule (remaining (choices_at (states_in w.first.now w.rule) w.order.now w.position w.place) c.root-rank.result.1 (prefixes_of c.pop.new.self.items)))
    c.args.listing.now c.loop-turn.listing c.loop-turn.invariant.underway next c.loop-turn.invariant.budget (c.list_edge.ensures.more (err_is _ c.in-Err.fault _ c.in-Err.is e))

pub loop-turn-preserved : goal.loop-turn-preserved
loop-turn-preserved c =
    let w = c.args.walk.now in
    let last = last_prefix (length w.order.now) c.root-rank.result.1 c.loop-turn.stack.items c.pop.new.self.items c.in-Some.prefix c.in-Some.ensures.items c.loop-turn.invariant.prefixes in
    let long : c.len.result ≡ length c.in-Some.prefix.items = search rules in
    let whole : length c.in-Some.prefix.items ≡ c.root-rank.result.1 = omega (arith, long, last.1.0, c.if-len-rank.false) in
    let next = whole_next (choices_at (states_in w.first.now w.rule) w.order.now w.position w.place) w.rule c.root-rank.result.1 c.loop-turn.stack.items c.pop.new.self.items c.in-Some.prefix c.in-Some.ensures.items whole in
    record {
      within = c.in-Ok-list_edge.ensures.within;
      budget = c.list_edge.ensures.budget ∙ c.loop-turn.invariant.budget;
      prefixes = last.0;
      underway = underway_next w.first.now w.second.rules.now w.order.now (tries_at w.first.now w.order.now w.position w.rule w.place) ((w.rule, c.in-Some.prefix.items) ∷ [])
          (behind_rule w.rule (remaining (choices_at (states_in w.first.now w.rule) w.order.now w.position w.place) c.root-rank.result.1 (prefixes_of c.loop-turn.stack.items)))
          (behind_rule w.rule (remaining (choices_at (states_in w.first.now w.rule) w.order.now w.position w.place) c.root-rank.result.1 (prefixes_of c.pop.new.self.items)))
          c.args.listing.now c.loop-turn.listing c.list_edge.new.listing c.loop-turn.invariant.underway next c.in-Ok-list_edge.ensures.added;
    }

pub loop-turn-preserved-then-len-rank : goal.loop-turn-preserved-then-len-rank
loop-turn-preserved-then-len-rank c =
    let w = c.args.walk.now in
    let at = sym c.index-walk-walk.is ∙ get_or_read w.first.now w.rule c.index-walk-walk.result c.requires.rule c.index-walk-walk.is no_rule in
    let states_are = c.states_below-states.ensures.states ∙ ap (λ (r : Rule ℕ). holes r.right.kids) at in
    let last = last_prefix (length w.order.now) c.root-rank.result.1 c.loop-turn.stack.items c.pop.new.self.items c.in-Some.prefix c.in-Some.ensures.items c.loop-turn.invariant.prefixes in
    let ps = c.in-Some.prefix.items in
    let many = length w.order.now in
    let rank = c.root-rank.result.1 in
    let long : c.len.result ≡ length c.in-Some.prefix.items = search rules in
    let low : length c.in-Some.prefix.items < c.root-rank.result.1 = omega (arith, long, c.if-len-rank.true) in
    let new = c.in-Ok-push_choices.ensures
    ∙ ap (λ (qs : List ℕ). prefixes_of c.pop.new.self.items ++ grown qs (choices_at (map state_in c.states_below-states.result.now) w.order.now w.position w.place (length qs))) c.as_slice.ensures
    ∙ ap (λ (ss : List ℕ). prefixes_of c.pop.new.self.items ++ grown ps (choices_at ss w.order.now w.position w.place (length ps))) states_are
    in
    let choices = choices_at (states_in w.first.now w.rule) w.order.now w.position w.place (length ps) in
    record {
      within = c.loop-turn.invariant.within;
      budget = c.loop-turn.invariant.budget;
      prefixes = subst (λ pss. Each (IsPrefix many rank) pss) (sym new)
          (each_append (IsPrefix many rank) (prefixes_of c.pop.new.self.items) (grown ps choices) last.0
          (prefixes_grown many rank ps choices low last.1.1 (choices_low (states_in w.first.now w.rule) w.order.now w.position w.place (length ps) c.requires.position)));
      underway = subst (λ os. IsUnderway w.first.now w.second.rules.now w.order.now (tries_at w.first.now w.order.now w.position w.rule w.place) os c.args.listing.now c.loop-turn.listing)
          (grown_next (choices_at (states_in w.first.now w.rule) w.order.now w.position w.place) w.rule rank c.loop-turn.stack.items c.pop.new.self.items c.in-Some.prefix c.in-Some.ensures.items
          (prefixes_of c.push_choices.new.stack.items) low new)
          c.loop-turn.invariant.underway;
    }
