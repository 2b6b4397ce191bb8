-- The grammar of the keys that forward application reaches has its series.
use Rattle.std.specs.Prelude.{◌≡◌, ℕ, ◌<◌, ◌≤◌, ◌↔◌, List, [], ◌∷◌, length, map, Bool, refl, Option}
use Rattle.std.proofs.Common.{arith, ap, sym, ◌∙◌, subst, get_or}
use Rattle.tib_tree.specs.Trees.{Tree, Trees, none, tree, join, only}
use Rattle.tib_grammar.specs.Sides.{label, holes, holes_of, fill, side_map}
use Rattle.tib_grammar.specs.Run.{rule_at, AreRuns, yields, cost, IsCost}
use Rattle.tib_grammar.specs.Series.{IsSeries}
use Rattle.tib_grammar.specs.Forms.{AreNormal}
use Rattle.tib_grammar.specs.Range.{AllBelow, AreInRange}
use Rattle.tib_grammar.specs.declared.Rule.{Rule}
use Rattle.tib_grammar.proofs.Sides.{holes-relabel, fill-relabel}
use Rattle.tib_grammar.proofs.NormalRuns.{split_all, merge_all, IsLeast-no_states}
use Rattle.tib_inside.specs.Inside.{AreInsides}
use Rattle.tib_cost.specs.Semiring.{ProductLaws, most}
use Rattle.tib_cost.proofs.Least.{IsLeast-dominated, grows_both}
use Rattle.tib_lex.proofs.Lists.{map_twice}
use Rattle.tib_transducer.specs.Rules.{transducer_rule, variables_of, no_variable, states_in, variables_in}
use Rattle.tib_transducer.specs.Run.{AreTransducerRuns, Reads, AreBound, outputs, transducer_cost, pick}
use Rattle.tib_transducer.specs.Series.{IsTransducerCost}
use Rattle.tib_transducer.specs.Range.{AreShaped}
use Rattle.tib_transducer.specs.Classes.{AreLinear}
use Rattle.tib_transducer.specs.declared.Variable.{Variable}
use Rattle.tib_transducer.specs.declared.Pair.{Pair}
use Rattle.tib_transducer.specs.declared.TransducerRule.{TransducerRule}
use Rattle.tib_apply.specs.Restrictions.{restricted_labels, restriction, Admits}
use Rattle.tib_match.specs.Matches.{IsMatchCost}
use Rattle.tib_apply.specs.KeyGrammars.{key_at, IsKeyGrammar}
use Rattle.tib_apply.specs.Forward.{IsForwardCost, IsForwardSeries, IsForwardEdge, forward_key, deleted, IsDeletedCost}
use Rattle.tib_apply.proofs.Covering.{CoversForward, covers_forward}
use Rattle.tib_match.proofs.Steps.{one_of, mix, count-costs, three_within, within_same, within_to}
use Rattle.tib_match.proofs.Matching.{matched, filled, match_long}
use Rattle.tib_transducer.proofs.Itemizing.{one_more, one_run, joined}
use Rattle.tib_apply.proofs.Restricting.{AreAdmitted, are_listed}
use Rattle.tib_apply.proofs.Leaves.{root_label, picked_admitted}
use Rattle.tib_apply.proofs.Asking.{part, whole}
use Rattle.tib_transducer.proofs.Counting.{count-bound}

module _
    {levelled weighted : Bool} {product : ℕ → ℕ → ℕ} (laws : ProductLaws levelled weighted product)
    (grammar : List (Rule ℕ)) (normal : AreNormal grammar) (moves : List (TransducerRule ℕ)) (shaped : AreShaped moves) (linear : AreLinear moves) where
  -- the restrictions of the variables that a right-hand side names
  abbrev restrictions_in : ℕ → List ℕ
  restrictions_in n = map (λ i. restriction (restricted_labels moves) (get_or (variables_of (transducer_rule moves n).left) i no_variable).label) (variables_in (transducer_rule moves n).right)

  -- the costs of a rule, a match, what is left out, the runs below and those beside
  costs_of :
      (w m d a b x y : ℕ) → product (product (product (product w m) d) (product a b)) (product x y) ≡ product (product (product m (product a d)) x) (product (product w b) y)
  costs_of w m d a b x y =
      let one : product (product w m) d ≡ product (product m d) w = ap (λ z. product z d) (laws.commutes w m) ∙ laws.regroups m w d ∙ ap (product m) (laws.commutes w d) ∙ sym (laws.regroups m d w) in
      let two : product (product (product m d) w) (product a b) ≡ product (product (product m d) a) (product w b) = mix laws (product m d) w a b in
      let three : product (product m d) a ≡ product m (product a d) = laws.regroups m d a ∙ ap (product m) (laws.commutes d a) in
      ap (λ z. product z (product x y)) (ap (λ z. product z (product a b)) one ∙ two ∙ ap (λ z. product z (product w b)) three)
      ∙ mix laws (product m (product a d)) (product w b) x y

  -- a rule of the transducer, a match of its left-hand side, runs for what is left out, and what is
  -- read at its pairs
  record OneImage (key : ℕ × ℕ × ℕ) (n : ℕ) (us : Trees ℕ) (x y : ℕ) : Type 0 where
    one : Tree ℕ
    admitted : Admits (restricted_labels moves) key.2 one.label
    first : IsCost product grammar (key.0 ∷ []) (only one) x
    second : IsTransducerCost product moves (key.1 ∷ []) (only one) (fill (only (transducer_rule moves n).right) us) y

  one_image :
      (key : ℕ × ℕ × ℕ) (n root m d : ℕ) (ss : List ℕ) (ts us : Trees ℕ) (a b : ℕ) → n < length moves → (transducer_rule moves n).state ≡ key.1 →
      (transducer_rule moves n).left.label ≡ label root → Admits (restricted_labels moves) key.2 root →
      IsMatchCost product grammar (only (transducer_rule moves n).left) (key.0 ∷ []) ss m →
      IsDeletedCost product grammar (deleted (variables_in (transducer_rule moves n).right) (variables_of (transducer_rule moves n).left) ss) d →
      AreAdmitted (restricted_labels moves) (restrictions_in n) ts → IsCost product grammar (map (λ i. get_or ss i 0) (variables_in (transducer_rule moves n).right)) ts a →
      IsTransducerCost product moves (states_in (transducer_rule moves n).right) ts us b →
      OneImage key n us (product m (product a d)) (product (transducer_rule moves n).cost b)
  one_image key n root m d ss ts us a b below state is_root admitted is_match is_deleted are first second =
      let vs : List Variable = variables_of (transducer_rule moves n).left in
      let vars : List ℕ = variables_in (transducer_rule moves n).right in
      let shape = shaped n below in
      let long : length ss ≡ length vs = match_long laws grammar normal (only (transducer_rule moves n).left) (key.0 ∷ []) ss m is_match in
      let all = whole laws grammar normal (restricted_labels moves) vars vs ss ts a d (linear n below) shape.known shape.numbered (are_listed moves n below) long are first is_deleted in
      let cost_all : IsCost product grammar (key.0 ∷ []) (fill (only (transducer_rule moves n).left) all.args) (product m (product a d)) =
      filled laws grammar normal (only (transducer_rule moves n).left) all.args (key.0 ∷ []) ss m (product a d) (count-bound vs all.args all.bound) is_match all.is_cost
      in
      let t = one_of (fill (only (transducer_rule moves n).left) all.args) (count-costs laws grammar (key.0 ∷ []) (fill (only (transducer_rule moves n).left) all.args) (product m (product a d)) cost_all) in
      record {
        one = t.0;
        admitted = subst (Admits (restricted_labels moves) key.2) (root_label (transducer_rule moves n).left.label (transducer_rule moves n).left.kids all.args t.0.kids root t.0.label is_root t.1) admitted;
        first = subst (λ s. IsCost product grammar (key.0 ∷ []) s (product m (product a d))) t.1 cost_all;
        second = one_run laws moves key.1 n t.0 all.args us b below state all.bound t.1
            (subst (λ s. IsTransducerCost product moves (states_in (transducer_rule moves n).right) s us b) (sym all.picked) second);
      }

  -- a run of the grammar that yields what a rule reads: a match of the left-hand side, runs for
  -- what the right-hand side names, and for what it leaves out
  record Opened (n q : ℕ) (args : Trees ℕ) (b : ℕ) : Type 0 where
    states : List ℕ
    above : ℕ
    named : ℕ
    deleted_cost : ℕ
    is_match : IsMatchCost product grammar (only (transducer_rule moves n).left) (q ∷ []) states above
    named_cost : IsCost product grammar (map (λ i. get_or states i 0) (variables_in (transducer_rule moves n).right)) (pick args (variables_in (transducer_rule moves n).right)) named
    is_deleted : IsDeletedCost product grammar (deleted (variables_in (transducer_rule moves n).right) (variables_of (transducer_rule moves n).left) states) deleted_cost
    costs : product above (product named deleted_cost) ≡ b

  opened :
      (n q : ℕ) (args : Trees ℕ) (b : ℕ) → n < length moves → AreBound (variables_of (transducer_rule moves n).left) args →
      IsCost product grammar (q ∷ []) (fill (only (transducer_rule moves n).left) args) b → Opened n q args b
  opened n q args b below bound h =
      let vs : List Variable = variables_of (transducer_rule moves n).left in
      let shape = shaped n below in
      let x = matched laws grammar normal (only (transducer_rule moves n).left) args (q ∷ []) b (count-bound vs args bound) h in
      let long : length x.states ≡ length vs = match_long laws grammar normal (only (transducer_rule moves n).left) (q ∷ []) x.states x.above x.is_match in
      let p = part laws grammar normal (variables_in (transducer_rule moves n).right) vs x.states args x.below (linear n below) shape.known shape.numbered long bound x.is_cost in
      record {
        states = x.states;
        above = x.above;
        named = p.one;
        deleted_cost = p.two;
        is_match = x.is_match;
        named_cost = p.first;
        is_deleted = p.second;
        costs = ap (product x.above) p.costs ∙ x.costs;
      }

  module _ (order : List (ℕ × ℕ × ℕ)) (rules : List (Rule ℕ)) (image : CoversForward product grammar moves order rules) where
    -- the keys at the holes of a rule
    record AreSides (j n : ℕ) (ss : List ℕ) : Type 0 where
      firsts : map (λ k. (key_at order k).0) (holes_of (rule_at rules j).right) ≡ map (λ i. get_or ss i 0) (variables_in (transducer_rule moves n).right)
      seconds : map (λ k. (key_at order k).1) (holes_of (rule_at rules j).right) ≡ states_in (transducer_rule moves n).right
      thirds : map (λ k. (key_at order k).2) (holes_of (rule_at rules j).right) ≡ restrictions_in n
      fills : (us : Trees ℕ) → fill (only (rule_at rules j).right) us ≡ fill (only (transducer_rule moves n).right) us

    sides :
        (j n : ℕ) (ss : List ℕ) → side_map (key_at order) (rule_at rules j).right ≡ side_map (forward_key (restricted_labels moves) (transducer_rule moves n).left ss) (transducer_rule moves n).right →
        AreSides j n ss
    sides j n ss e =
        let g : Pair ℕ → ℕ × ℕ × ℕ = forward_key (restricted_labels moves) (transducer_rule moves n).left ss in
        let pairs : List (Pair ℕ) = holes_of (transducer_rule moves n).right in
        let qs : List ℕ = holes_of (rule_at rules j).right in
        let are : map (key_at order) qs ≡ map g pairs = sym (holes-relabel (key_at order) (only (rule_at rules j).right)) ∙ ap (λ s. holes (only s)) e ∙ holes-relabel g (only (transducer_rule moves n).right) in
        record {
          firsts = sym (map_twice (λ (x : ℕ × ℕ × ℕ). x.0) (key_at order) qs) ∙ ap (map (λ (x : ℕ × ℕ × ℕ). x.0)) are ∙ map_twice (λ (x : ℕ × ℕ × ℕ). x.0) g pairs
              ∙ sym (map_twice (λ i. get_or ss i 0) (λ x. x.variable) pairs);
          seconds = sym (map_twice (λ (x : ℕ × ℕ × ℕ). x.1) (key_at order) qs) ∙ ap (map (λ (x : ℕ × ℕ × ℕ). x.1)) are ∙ map_twice (λ (x : ℕ × ℕ × ℕ). x.1) g pairs;
          thirds = sym (map_twice (λ (x : ℕ × ℕ × ℕ). x.2) (key_at order) qs) ∙ ap (map (λ (x : ℕ × ℕ × ℕ). x.2)) are ∙ map_twice (λ (x : ℕ × ℕ × ℕ). x.2) g pairs
              ∙ sym (map_twice (λ i. restriction (restricted_labels moves) (get_or (variables_of (transducer_rule moves n).left) i no_variable).label) (λ x. x.variable) pairs);
          fills = λ us. sym (fill-relabel (key_at order) (only (rule_at rules j).right) us) ∙ ap (λ s. fill (only s) us) e ∙ fill-relabel g (only (transducer_rule moves n).right) us;
        }

    -- runs of the grammar and of the transducer with trees between
    record Between (ks : List ℕ) (us : Trees ℕ) (c : ℕ) : Type 0 where
      trees : Trees ℕ
      one : ℕ
      two : ℕ
      first : IsCost product grammar (map (λ k. (key_at order k).0) ks) trees one
      second : IsTransducerCost product moves (map (λ k. (key_at order k).1) ks) trees us two
      admitted : AreAdmitted (restricted_labels moves) (map (λ k. (key_at order k).2) ks) trees
      costs : product one two ≡ c

    project : (runs : Trees ℕ) (ks : List ℕ) → AreRuns rules ks runs → Between ks (yields rules runs) (cost product rules runs)
    project none [] a = record {
      trees = none;
      one = 0;
      two = 0;
      first = (IsLeast-no_states laws grammar).attained.0;
      second = record { runs = none; are_runs = tt; reads = tt; output = refl; costs = refl };
      admitted = tt;
      costs = laws.neutral 0;
    }
    project none (k ∷ ks) a = absurd a
    project (tree j runs rest) [] a = absurd a
    project (tree j runs rest) (k ∷ ks) a =
        let s = image.sound j a.0 in
        let n : ℕ = s.0.0 in
        let ss : List ℕ = s.0.1 in
        let e = s.1 in
        let w : ℕ = (transducer_rule moves n).cost in
        let side = sides j n ss e.right in
        let below = project runs (holes_of (rule_at rules j).right) a.2 in
        let beside = project rest ks a.3 in
        let key : (rule_at rules j).left ≡ k = a.1 in
        let i = one_image (key_at order k) n e.root e.matched e.deleted_cost ss below.trees (yields rules runs) below.one below.two e.below
        (e.state ∙ ap (λ q. (key_at order q).1) key)
        e.is_root
        (subst (λ q. Admits (restricted_labels moves) (key_at order q).2 e.root) key e.admitted)
        (subst (λ q. IsMatchCost product grammar (only (transducer_rule moves n).left) ((key_at order q).0 ∷ []) ss e.matched) key e.is_match.attained.0)
        e.is_deleted_cost.attained.0
        (subst (λ es. AreAdmitted (restricted_labels moves) es below.trees) side.thirds below.admitted)
        (subst (λ qs. IsCost product grammar qs below.trees below.one) side.firsts below.first)
        (subst (λ ps. IsTransducerCost product moves ps below.trees (yields rules runs) below.two) side.seconds below.second)
        in
        record {
          trees = tree i.one.label i.one.kids beside.trees;
          one = product (product e.matched (product below.one e.deleted_cost)) beside.one;
          two = product (product w below.two) beside.two;
          first = merge_all laws grammar (key_at order k).0 (map (λ k. (key_at order k).0) ks) i.one.label i.one.kids beside.trees (product (product e.matched (product below.one e.deleted_cost)) beside.one)
              (product e.matched (product below.one e.deleted_cost), beside.one, i.first, beside.first, refl);
          second = one_more laws moves (key_at order k).1 (map (λ k. (key_at order k).1) ks) i.one beside.trees (fill (only (rule_at rules j).right) (yields rules runs)) (yields rules rest) (product w below.two) beside.two
              (subst (λ us. IsTransducerCost product moves ((key_at order k).1 ∷ []) (only i.one) us (product w below.two)) (sym (side.fills (yields rules runs))) i.second)
              beside.second;
          admitted = (i.admitted, beside.admitted);
          costs = sym (costs_of w e.matched e.deleted_cost below.one below.two beside.one beside.two)
              ∙ ap (λ x. product (product x (product below.one below.two)) (product beside.one beside.two)) (sym e.costs)
              ∙ ap (λ x. product (product (rule_at rules j).cost x) (product beside.one beside.two)) below.costs
              ∙ ap (product (product (rule_at rules j).cost (cost product rules runs))) beside.costs;
        }

    record UpTo (ks : List ℕ) (us : Trees ℕ) (c : ℕ) : Type 0 where
      found : ℕ
      is_cost : IsCost product rules ks us found
      within : found ≤ c

    pair_up :
        (runs : Trees ℕ) (ks : List ℕ) (ts : Trees ℕ) (a : ℕ) → AllBelow (length order) ks → AreTransducerRuns moves (map (λ k. (key_at order k).1) ks) runs → Reads moves runs ts →
        AreAdmitted (restricted_labels moves) (map (λ k. (key_at order k).2) ks) ts → IsCost product grammar (map (λ k. (key_at order k).0) ks) ts a →
        product a (transducer_cost product moves runs) ≤ most → UpTo ks (outputs moves runs) (product a (transducer_cost product moves runs))
    pair_up none [] ts a r t d ad h m = record { found = 0; is_cost = (IsLeast-no_states laws rules).attained.0; within = omega arith }
    pair_up none (k ∷ ks) ts a r t d ad h m = absurd t
    pair_up (tree n runs rest) [] ts a r t d ad h m = absurd t
    pair_up (tree n runs rest) (k ∷ ks) none a r t d ad h m = absurd d
    pair_up (tree n runs rest) (k ∷ ks) (tree f kids more) a r t d ad h m =
        let w : ℕ = (transducer_rule moves n).cost in
        let vs : List Variable = variables_of (transducer_rule moves n).left in
        let vars : List ℕ = variables_in (transducer_rule moves n).right in
        let b : ℕ = transducer_cost product moves runs in
        let y : ℕ = transducer_cost product moves rest in
        let split = split_all laws grammar (key_at order k).0 (map (λ k. (key_at order k).0) ks) f kids more a h in
        let fits = d.0 in
        let begins = (shaped n t.0).begins in
        let root_is : begins.root ≡ f = root_label (transducer_rule moves n).left.label (transducer_rule moves n).left.kids fits.args kids begins.root f begins.is_root fits.filled in
        let o = opened n (key_at order k).0 fits.args split.0 t.0 fits.bound (subst (λ s. IsCost product grammar ((key_at order k).0 ∷ []) s split.0) (sym fits.filled) split.2) in
        let edge : ℕ = product (product w o.above) o.deleted_cost in
        let same : product (product edge (product o.named b)) (product split.1 y) ≡ product a (product (product w b) y) =
        costs_of w o.above o.deleted_cost o.named b split.1 y ∙ ap (λ z. product (product z split.1) (product (product w b) y)) o.costs ∙ ap (λ z. product z (product (product w b) y)) split.4
        in
        let bounds = three_within laws edge (product o.named b) (product split.1 y) most
        (within_same (product (product edge (product o.named b)) (product split.1 y)) (product a (product (product w b) y)) most same m)
        in
        let c = image.complete k n begins.root o.states o.above o.deleted_cost r.0 t.0 t.1 begins.is_root (subst (Admits (restricted_labels moves) (key_at order k).2) (sym root_is) ad.0) o.is_match o.is_deleted bounds.0 in
        let j : ℕ = c.position in
        let side = sides j n o.states c.right in
        let below = pair_up runs (holes_of (rule_at rules j).right) (pick fits.args vars) o.named
        (image.in_range j c.below).1
        (subst (λ ps. AreTransducerRuns moves ps runs) (sym side.seconds) t.2)
        fits.below
        (subst (λ es. AreAdmitted (restricted_labels moves) es (pick fits.args vars)) (sym side.thirds)
        (picked_admitted (restricted_labels moves) vs fits.args vars fits.bound (are_listed moves n t.0) (shaped n t.0).known))
        (subst (λ qs. IsCost product grammar qs (pick fits.args vars) o.named) (sym side.firsts) o.named_cost)
        bounds.1
        in
        let beside = pair_up rest ks more split.1 r.1 t.3 d.1 ad.1 split.3 bounds.2 in
        let up : product (rule_at rules j).cost below.found ≤ product edge (product o.named b) = grows_both laws (rule_at rules j).cost below.found edge (product o.named b) c.costs below.within in
        let up_all : product (product (rule_at rules j).cost below.found) beside.found ≤ product (product edge (product o.named b)) (product split.1 y) =
        grows_both laws (product (rule_at rules j).cost below.found) beside.found (product edge (product o.named b)) (product split.1 y) up beside.within
        in
        record {
          found = product (product (rule_at rules j).cost below.found) beside.found;
          is_cost = subst (λ us. IsCost product rules (k ∷ ks) us (product (product (rule_at rules j).cost below.found) beside.found))
              (ap (λ us. join us (outputs moves rest)) (side.fills (outputs moves runs)))
              (joined product rules k j ks (outputs moves runs) (outputs moves rest) below.found beside.found c.below c.left below.is_cost beside.is_cost);
          within = within_to (product (product (rule_at rules j).cost below.found) beside.found) (product (product edge (product o.named b)) (product split.1 y)) (product a (product (product w b) y)) up_all same;
        }

    to : (u : Tree ℕ) (c : ℕ) → IsCost product rules (0 ∷ []) (only u) c → IsForwardCost product grammar moves 0 0 u c
    to u c h =
        let b = project h.runs (0 ∷ []) h.are_runs in
        let first : IsCost product grammar (0 ∷ []) b.trees b.one = subst (λ q. IsCost product grammar (q ∷ []) b.trees b.one) (ap (λ (z : ℕ × ℕ × ℕ). z.0) image.start) b.first in
        let second : IsTransducerCost product moves (0 ∷ []) b.trees (yields rules h.runs) b.two =
        subst (λ p. IsTransducerCost product moves (p ∷ []) b.trees (yields rules h.runs) b.two) (ap (λ (z : ℕ × ℕ × ℕ). z.1) image.start) b.second
        in
        let t = one_of b.trees (count-costs laws grammar (0 ∷ []) b.trees b.one first) in
        record {
          input = t.0;
          yielded = b.one;
          moved = b.two;
          first = subst (λ s. IsCost product grammar (0 ∷ []) s b.one) t.1 first;
          second = subst (λ us. IsTransducerCost product moves (0 ∷ []) (only t.0) us b.two) h.yielded (subst (λ s. IsTransducerCost product moves (0 ∷ []) s (yields rules h.runs) b.two) t.1 second);
          costs = b.costs ∙ h.costs;
        }

    from : (u : Tree ℕ) (c : ℕ) → IsForwardCost product grammar moves 0 0 u c → c ≤ most → UpTo (0 ∷ []) (only u) c
    from u c h m =
        let same : product h.yielded (transducer_cost product moves h.second.runs) ≡ c = ap (product h.yielded) h.second.costs ∙ h.costs in
        let first : (key_at order 0).0 ≡ 0 = ap (λ (z : ℕ × ℕ × ℕ). z.0) image.start in
        let second : (key_at order 0).1 ≡ 0 = ap (λ (z : ℕ × ℕ × ℕ). z.1) image.start in
        let third : (key_at order 0).2 ≡ 0 = ap (λ (z : ℕ × ℕ × ℕ). z.2) image.start in
        let x = pair_up h.second.runs (0 ∷ []) (only h.input) h.yielded (image.long, tt)
        (subst (λ p. AreTransducerRuns moves (p ∷ []) h.second.runs) (sym second) h.second.are_runs)
        h.second.reads
        (subst (λ e. Admits (restricted_labels moves) e h.input.label) (sym third) tt, tt)
        (subst (λ q. IsCost product grammar (q ∷ []) (only h.input) h.yielded) (sym first) h.first)
        (within_same (product h.yielded (transducer_cost product moves h.second.runs)) c most same m)
        in
        record {
          found = x.found;
          is_cost = subst (λ us. IsCost product rules (0 ∷ []) us x.found) h.second.output x.is_cost;
          within = within_to x.found (product h.yielded (transducer_cost product moves h.second.runs)) c x.within same;
        }

    -- the series of the grammar of the keys is that of forward application
    pub imaged : (u : Tree ℕ) (v : Option ℕ) → IsSeries product rules u v ↔ IsForwardSeries product grammar moves u v
    imaged u v = (
      λ h. IsLeast-dominated (λ n c m. (n, to u n c, omega arith)) (λ n c m. let x = from u n c m in (x.found, x.is_cost, x.within)) h,
      λ h. IsLeast-dominated (λ n c m. let x = from u n c m in (x.found, x.is_cost, x.within)) (λ n c m. (n, to u n c, omega arith)) h,
    )

pub forward_means :
    {levelled weighted : Bool} {product : ℕ → ℕ → ℕ} (laws : ProductLaws levelled weighted product) (grammar : List (Rule ℕ)) → AreNormal grammar → (costs : List (Option ℕ)) →
    AreInRange (length costs) grammar → AreInsides product grammar costs → (moves : List (TransducerRule ℕ)) → AreShaped moves → AreLinear moves →
    (order : List (ℕ × ℕ × ℕ)) (rules : List (Rule ℕ)) → IsKeyGrammar (IsForwardEdge product grammar moves) order rules →
    (u : Tree ℕ) (v : Option ℕ) → IsSeries product rules u v ↔ IsForwardSeries product grammar moves u v
forward_means laws grammar normal costs range insides moves shaped linear order rules found =
    imaged laws grammar normal moves shaped linear order rules (covers_forward laws grammar costs range insides moves order rules found)
