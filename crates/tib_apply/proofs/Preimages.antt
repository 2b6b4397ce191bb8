-- The grammar of the keys that backward application reaches has its series.
use Rattle.std.specs.Prelude.{◌≡◌, ℕ, ◌<◌, ◌≤◌, ◌↔◌, List, [], ◌∷◌, length, map, Bool, refl, Option}
use Rattle.std.proofs.Common.{arith, ap, sym, ◌∙◌, subst, get_or}
use Rattle.tib_lex.specs.Lists.{Has, Each}
use Rattle.tib_tree.specs.Trees.{Tree, Trees, none, tree, count, join, only}
use Rattle.tib_grammar.specs.Sides.{Symbol, label, holes, holes_of, fill, side_map}
use Rattle.tib_grammar.specs.Run.{rule_at, AreRuns, yields, cost, IsCost}
use Rattle.tib_grammar.specs.Series.{IsSeries}
use Rattle.tib_grammar.specs.Forms.{AreNormal}
use Rattle.tib_grammar.specs.Range.{AllBelow}
use Rattle.tib_grammar.specs.declared.Rule.{Rule}
use Rattle.tib_grammar.proofs.Sides.{count-fill, holes-relabel, fill-relabel}
use Rattle.tib_grammar.proofs.NormalRuns.{split_all, merge_all, IsLeast-no_states}
use Rattle.tib_grammar.proofs.Members.{each_has}
use Rattle.tib_cost.specs.Semiring.{ProductLaws, most}
use Rattle.tib_cost.proofs.Least.{IsLeast-dominated, grows_both}
use Rattle.tib_lex.proofs.Lists.{map_twice}
use Rattle.tib_transducer.specs.Rules.{transducer_rule, variables_of, variable_at, no_variable, states_in, variables_in}
use Rattle.tib_transducer.specs.Run.{AreTransducerRuns, Reads, AreBound, outputs, transducer_cost, pick}
use Rattle.tib_transducer.specs.Series.{IsTransducerCost}
use Rattle.tib_transducer.specs.Range.{AreShaped}
use Rattle.tib_transducer.specs.Classes.{AreLinear, AreNondeleting}
use Rattle.tib_transducer.specs.declared.Variable.{Variable}
use Rattle.tib_transducer.specs.declared.Pair.{Pair}
use Rattle.tib_transducer.specs.declared.TransducerRule.{TransducerRule}
use Rattle.tib_apply.specs.Restrictions.{restricted_labels, Admits}
use Rattle.tib_match.specs.Matches.{IsMatchCost}
use Rattle.tib_apply.specs.KeyGrammars.{key_at, IsKeyGrammar}
use Rattle.tib_apply.specs.Backward.{IsBackwardCost, IsBackwardSeries, IsBackwardEdge, backward_key, states_at}
use Rattle.tib_apply.proofs.Covering.{CoversBackward, covers_backward}
use Rattle.tib_match.proofs.Steps.{one_of, mix, neutral_right, count-costs, three_within, within_same, within_to, below_same}
use Rattle.tib_match.proofs.Matching.{matched, filled, match_long}
use Rattle.tib_transducer.proofs.Selecting.{Item, keys_of, trees_of, product_of, stays, selected, selected-keys, selected-trees, selected-each, stays-keys, all_named, parted, keys_long, trees_long}
use Rattle.tib_transducer.proofs.Itemizing.{restore, one_more, one_run, joined, count-outputs}
use Rattle.tib_apply.proofs.Restricting.{IsListed, AreAdmitted, are_listed, binds}
use Rattle.tib_apply.proofs.Leaves.{pairs_along, root_label, map_same_at, get_map, map_long, each_to, all_below, picked_admitted}
use Rattle.tib_transducer.proofs.Counting.{place_number, all_stand, count-bound}

module _
    {levelled weighted : Bool} {product : ℕ → ℕ → ℕ} (laws : ProductLaws levelled weighted product)
    (moves : List (TransducerRule ℕ)) (shaped : AreShaped moves) (linear : AreLinear moves) (nondeleting : AreNondeleting moves)
    (grammar : List (Rule ℕ)) (normal : AreNormal grammar) where
  -- the tree of an item is admitted by its key, and its cost is that of some tree between
  record IsBack (x : Item (ℕ × ℕ × ℕ)) : Type 0 where
    admitted : Admits (restricted_labels moves) x.key.2 x.label
    is_cost : IsBackwardCost product moves grammar x.key.0 x.key.1 (record { label = x.label; kids = x.kids }) x.cost

  -- the trees between, as a list
  record Gathered (xs : List (Item (ℕ × ℕ × ℕ))) : Type 0 where
    trees : Trees ℕ
    moved : ℕ
    yielded : ℕ
    first : IsTransducerCost product moves (map (λ k. k.0) (keys_of xs)) (trees_of xs) trees moved
    second : IsCost product grammar (map (λ k. k.1) (keys_of xs)) trees yielded
    costs : product moved yielded ≡ product_of product xs

  gather : (xs : List (Item (ℕ × ℕ × ℕ))) → Each IsBack xs → Gathered xs
  gather [] a = record {
    trees = none;
    moved = 0;
    yielded = 0;
    first = record { runs = none; are_runs = tt; reads = tt; output = refl; costs = refl };
    second = (IsLeast-no_states laws grammar).attained.0;
    costs = laws.neutral 0;
  }
  gather (x ∷ xs) a =
      let more = gather xs a.1 in
      let one = a.0.is_cost in
      let u : Tree ℕ = one.output in
      record {
        trees = tree u.label u.kids more.trees;
        moved = product one.moved more.moved;
        yielded = product one.yielded more.yielded;
        first = one_more laws moves x.key.0 (map (λ k. k.0) (keys_of xs)) (record { label = x.label; kids = x.kids }) (trees_of xs) (only u) more.trees one.moved more.moved one.first more.first;
        second = merge_all laws grammar x.key.1 (map (λ k. k.1) (keys_of xs)) u.label u.kids more.trees (product one.yielded more.yielded) (one.yielded, more.yielded, one.second, more.second, refl);
        costs = mix laws one.moved more.moved one.yielded more.yielded ∙ ap (λ z. product z (product more.moved more.yielded)) one.costs ∙ ap (product x.cost) more.costs;
      }

  bound_of :
      (pairs : List (Pair ℕ)) (ss : List ℕ) (vs : List Variable) (xs : List (Item (ℕ × ℕ × ℕ))) → Each (IsListed (restricted_labels moves)) vs → Each IsBack xs →
      keys_of xs ≡ map (backward_key (restricted_labels moves) pairs ss) vs → AreBound vs (trees_of xs)
  bound_of pairs ss [] [] l a e = tt
  bound_of pairs ss [] (x ∷ xs) l a e = absurd (cc)
  bound_of pairs ss (v ∷ vs) [] l a e = absurd (cc)
  bound_of pairs ss (v ∷ vs) (x ∷ xs) l a e =
      let first : x.key ≡ backward_key (restricted_labels moves) pairs ss v = cc e in
      let others : keys_of xs ≡ map (backward_key (restricted_labels moves) pairs ss) vs = cc e in (
        binds (restricted_labels moves) v.label x.label l.0 (subst (λ (k : ℕ × ℕ × ℕ). Admits (restricted_labels moves) k.2 x.label) first a.0.admitted),
        bound_of pairs ss vs xs l.1 a.1 others,
      )

  -- a rule of the transducer, a match of its right-hand side, and what is read at its variables
  record OneBack (key : ℕ × ℕ × ℕ) (ts : Trees ℕ) (c : ℕ) : Type 0 where
    one : Tree ℕ
    is_one : ts ≡ only one
    admitted : Admits (restricted_labels moves) key.2 one.label
    is_cost : IsBackwardCost product moves grammar key.0 key.1 one c

  one_back :
      (key : ℕ × ℕ × ℕ) (n root m : ℕ) (ss : List ℕ) (xs : List (Item (ℕ × ℕ × ℕ))) → n < length moves → (transducer_rule moves n).state ≡ key.0 →
      (transducer_rule moves n).left.label ≡ label root → Admits (restricted_labels moves) key.2 root →
      IsMatchCost product grammar (only (transducer_rule moves n).right) (key.1 ∷ []) ss m → Each IsBack xs →
      keys_of xs ≡ map (backward_key (restricted_labels moves) (holes_of (transducer_rule moves n).right) ss) (variables_of (transducer_rule moves n).left) →
      OneBack key (fill (only (transducer_rule moves n).left) (trees_of xs)) (product (product (transducer_rule moves n).cost m) (product_of product xs))
  one_back key n root m ss xs b state is_root admitted is_match each keys =
      let w : ℕ = (transducer_rule moves n).cost in
      let pairs : List (Pair ℕ) = holes_of (transducer_rule moves n).right in
      let vs : List Variable = variables_of (transducer_rule moves n).left in
      let vars : List ℕ = variables_in (transducer_rule moves n).right in
      let bk : Variable → ℕ × ℕ × ℕ = backward_key (restricted_labels moves) pairs ss in
      let long : length xs ≡ length vs = sym (keys_long xs) ∙ ap length keys ∙ map_long bk vs in
      let known : Each (λ i. i < length vs) vars = (shaped n b).known in
      let inside : Each (λ i. i < length xs) vars = each_to (sym long) vars known in
      let stand : (i : ℕ) → i < length vs → Has vars i = all_stand vs vars (shaped n b).numbered (nondeleting n b) in
      let zs : List (Item (ℕ × ℕ × ℕ)) = selected (0, 0, 0) xs vars in
      let empty : keys_of (stays vars 0 xs) ≡ [] =
      stays-keys vars 0 xs ∙ all_named vars 0 (keys_of xs) (λ j h. subst (Has vars) (omega arith) (stand j (omega (arith, h, keys_long xs, long))))
      in
      let same : product_of product zs ≡ product_of product xs =
      sym (neutral_right laws (product_of product zs)) ∙ ap (product (product_of product zs)) (sym (prod_none (stays vars 0 xs) empty)) ∙ sym (parted (0, 0, 0) laws vars xs (linear n b) inside)
      in
      let g = gather zs (selected-each (0, 0, 0) IsBack xs vars each inside) in
      let at : (v : ℕ) → Has vars v → get_or (keys_of xs) v (0, 0, 0) ≡ bk (variable_at (transducer_rule moves n).left v) =
      λ v h. ap (λ (ks : List (ℕ × ℕ × ℕ)). get_or ks v (0, 0, 0)) keys ∙ get_map bk vs v no_variable (0, 0, 0) (each_has (λ i. i < length vs) vars v known h)
      in
      let number : (v : ℕ) → Has vars v → (variable_at (transducer_rule moves n).left v).number ≡ v =
      λ v h. place_number vs v (shaped n b).numbered (each_has (λ i. i < length vs) vars v known h)
      in
      let long_match : length ss ≡ length pairs = match_long laws grammar normal (only (transducer_rule moves n).right) (key.1 ∷ []) ss m is_match in
      let along = pairs_along pairs ss (λ v. get_or (keys_of xs) v (0, 0, 0)) (linear n b) long_match
      (λ v h. (ap (λ (k : ℕ × ℕ × ℕ). k.0) (at v h) ∙ ap (λ i. (states_at i pairs ss).0) (number v h), ap (λ (k : ℕ × ℕ × ℕ). k.1) (at v h) ∙ ap (λ i. (states_at i pairs ss).1) (number v h)))
      in
      let firsts : map (λ k. k.0) (keys_of zs) ≡ states_in (transducer_rule moves n).right = ap (λ (ks : List (ℕ × ℕ × ℕ)). map (λ k. k.0) ks) (selected-keys (0, 0, 0) xs vars) ∙ along.0 in
      let seconds : map (λ k. k.1) (keys_of zs) ≡ ss = ap (λ (ks : List (ℕ × ℕ × ℕ)). map (λ k. k.1) ks) (selected-keys (0, 0, 0) xs vars) ∙ along.1 in
      let second : IsCost product grammar ss g.trees g.yielded = subst (λ qs. IsCost product grammar qs g.trees g.yielded) seconds g.second in
      let counted : count g.trees ≡ length pairs = count-costs laws grammar ss g.trees g.yielded second ∙ long_match in
      let whole : IsCost product grammar (key.1 ∷ []) (fill (only (transducer_rule moves n).right) g.trees) (product m g.yielded) =
      filled laws grammar normal (only (transducer_rule moves n).right) g.trees (key.1 ∷ []) ss m g.yielded counted is_match second
      in
      let u = one_of (fill (only (transducer_rule moves n).right) g.trees) (count-fill (only (transducer_rule moves n).right) g.trees counted) in
      let t = one_of (fill (only (transducer_rule moves n).left) (trees_of xs)) (count-fill (only (transducer_rule moves n).left) (trees_of xs) (trees_long xs ∙ long)) in
      let reading : IsTransducerCost product moves (states_in (transducer_rule moves n).right) (pick (trees_of xs) vars) g.trees g.moved =
      subst (λ ts. IsTransducerCost product moves (states_in (transducer_rule moves n).right) ts g.trees g.moved) (selected-trees (0, 0, 0) xs vars inside)
      (subst (λ ps. IsTransducerCost product moves ps (trees_of zs) g.trees g.moved) firsts g.first)
      in
      let first : IsTransducerCost product moves (key.0 ∷ []) (only t.0) (only u.0) (product w g.moved) =
      subst (λ us. IsTransducerCost product moves (key.0 ∷ []) (only t.0) us (product w g.moved)) u.1
      (one_run laws moves key.0 n t.0 (trees_of xs) g.trees g.moved b state (bound_of pairs ss vs xs (are_listed moves n b) each keys) t.1 reading)
      in
      record {
        one = t.0;
        is_one = t.1;
        admitted = subst (Admits (restricted_labels moves) key.2) (root_label (transducer_rule moves n).left.label (transducer_rule moves n).left.kids (trees_of xs) t.0.kids root t.0.label is_root t.1) admitted;
        is_cost = record {
          output = u.0;
          moved = product w g.moved;
          yielded = product m g.yielded;
          first = first;
          second = subst (λ us. IsCost product grammar (key.1 ∷ []) us (product m g.yielded)) u.1 whole;
          costs = mix laws w g.moved m g.yielded ∙ ap (product (product w m)) (g.costs ∙ same);
        };
      }
    where
      prod_none : (ys : List (Item (ℕ × ℕ × ℕ))) → keys_of ys ≡ [] → product_of product ys ≡ 0
      prod_none [] e = refl
      prod_none (y ∷ ys) e = absurd (cc)

  -- a run of the grammar that yields what a rule puts out, and others: a match of the right-hand
  -- side, runs for what fills it, and the others
  record Opened (n q : ℕ) (qs : List ℕ) (us rest : Trees ℕ) (b : ℕ) : Type 0 where
    states : List ℕ
    above : ℕ
    below : ℕ
    beside : ℕ
    is_match : IsMatchCost product grammar (only (transducer_rule moves n).right) (q ∷ []) states above
    long : length states ≡ length (holes_of (transducer_rule moves n).right)
    fills_cost : IsCost product grammar states us below
    rest_cost : IsCost product grammar qs rest beside
    costs : product (product above below) beside ≡ b

  opened :
      (n q : ℕ) (qs : List ℕ) (us rest : Trees ℕ) (b : ℕ) → count us ≡ length (holes_of (transducer_rule moves n).right) →
      IsCost product grammar (q ∷ qs) (join (fill (only (transducer_rule moves n).right) us) rest) b → Opened n q qs us rest b
  opened n q qs us rest b counted h =
      let u = one_of (fill (only (transducer_rule moves n).right) us) (count-fill (only (transducer_rule moves n).right) us counted) in
      let split = split_all laws grammar q qs u.0.label u.0.kids rest b (subst (λ x. IsCost product grammar (q ∷ qs) (join x rest) b) u.1 h) in
      let x = matched laws grammar normal (only (transducer_rule moves n).right) us (q ∷ []) split.0 counted (subst (λ s. IsCost product grammar (q ∷ []) s split.0) (sym u.1) split.2) in
      record {
        states = x.states;
        above = x.above;
        below = x.below;
        beside = split.1;
        is_match = x.is_match;
        long = match_long laws grammar normal (only (transducer_rule moves n).right) (q ∷ []) x.states x.above x.is_match;
        fills_cost = x.is_cost;
        rest_cost = split.3;
        costs = ap (λ z. product z split.1) x.costs ∙ split.4;
      }

  -- the costs of a rule, a match, the runs below and those beside
  costs_of : (w m a b x y c : ℕ) → product (product m b) y ≡ c → product (product (product w m) (product a b)) (product x y) ≡ product (product (product w a) x) c
  costs_of w m a b x y c e =
      ap (λ z. product z (product x y)) (mix laws w m a b) ∙ mix laws (product w a) (product m b) x y ∙ ap (product (product (product w a) x)) e

  module _ (order : List (ℕ × ℕ × ℕ)) (rules : List (Rule ℕ)) (back : CoversBackward product moves grammar order rules) where
    record Backs (ks : List ℕ) (ts : Trees ℕ) (c : ℕ) : Type 0 where
      items : List (Item (ℕ × ℕ × ℕ))
      each : Each IsBack items
      keys : keys_of items ≡ map (key_at order) ks
      trees : trees_of items ≡ ts
      costs : product_of product items ≡ c

    -- the holes of a rule, and what fills it, are those of an edge
    holes_are :
        (j : ℕ) (g : Variable → ℕ × ℕ × ℕ) (left : Tree (Symbol ℕ Variable)) → side_map (key_at order) (rule_at rules j).right ≡ side_map g left →
        map (key_at order) (holes_of (rule_at rules j).right) ≡ map g (variables_of left)
    holes_are j g left e =
        sym (holes-relabel (key_at order) (only (rule_at rules j).right)) ∙ ap (λ s. holes (only s)) e ∙ holes-relabel g (only left)

    fills :
        (j : ℕ) (g : Variable → ℕ × ℕ × ℕ) (left : Tree (Symbol ℕ Variable)) → side_map (key_at order) (rule_at rules j).right ≡ side_map g left →
        (ts : Trees ℕ) → fill (only (rule_at rules j).right) ts ≡ fill (only left) ts
    fills j g left e ts =
        sym (fill-relabel (key_at order) (only (rule_at rules j).right) ts) ∙ ap (λ s. fill (only s) ts) e ∙ fill-relabel g (only left) ts

    project : (runs : Trees ℕ) (ks : List ℕ) → AreRuns rules ks runs → Backs ks (yields rules runs) (cost product rules runs)
    project none [] a = record { items = []; each = tt; keys = refl; trees = refl; costs = refl }
    project none (k ∷ ks) a = absurd a
    project (tree j runs rest) [] a = absurd a
    project (tree j runs rest) (k ∷ ks) a =
        let s = back.sound j a.0 in
        let n : ℕ = s.0.0 in
        let ss : List ℕ = s.0.1 in
        let e = s.1 in
        let bk : Variable → ℕ × ℕ × ℕ = backward_key (restricted_labels moves) (holes_of (transducer_rule moves n).right) ss in
        let below = project runs (holes_of (rule_at rules j).right) a.2 in
        let beside = project rest ks a.3 in
        let one = one_back (key_at order (rule_at rules j).left) n e.root e.matched ss below.items e.below e.state e.is_root e.admitted e.is_match.attained.0 below.each
        (below.keys ∙ holes_are j bk (transducer_rule moves n).left e.right)
        in
        let same : fill (only (rule_at rules j).right) (yields rules runs) ≡ only one.one =
        fills j bk (transducer_rule moves n).left e.right (yields rules runs) ∙ ap (fill (only (transducer_rule moves n).left)) (sym below.trees) ∙ one.is_one
        in
        record {
          items = record {
            key = key_at order (rule_at rules j).left;
            label = one.one.label;
            kids = one.one.kids;
            cost = product (product (transducer_rule moves n).cost e.matched) (product_of product below.items);
          } ∷ beside.items;
          each = (record { admitted = one.admitted; is_cost = one.is_cost }, beside.each);
          keys = ap (λ q. key_at order q ∷ keys_of beside.items) a.1 ∙ ap (λ qs. key_at order k ∷ qs) beside.keys;
          trees = ap (tree one.one.label one.one.kids) beside.trees ∙ ap (λ ts. join ts (yields rules rest)) (sym same);
          costs = ap (λ z. product (product z (product_of product below.items)) (product_of product beside.items)) (sym e.costs)
              ∙ ap (λ z. product (product (rule_at rules j).cost z) (product_of product beside.items)) below.costs
              ∙ ap (product (product (rule_at rules j).cost (cost product rules runs))) beside.costs;
        }

    record UpTo (ks : List ℕ) (ts : Trees ℕ) (c : ℕ) : Type 0 where
      found : ℕ
      is_cost : IsCost product rules ks ts found
      within : found ≤ c

    -- the positions at the holes of a rule, by the pairs on the right
    abbrev positions : ℕ → ℕ → List ℕ
    positions n j = map (λ i. get_or (holes_of (rule_at rules j).right) i 0) (variables_in (transducer_rule moves n).right)

    record Leads (n j : ℕ) (ss : List ℕ) (args : Trees ℕ) : Type 0 where
      long : length (holes_of (rule_at rules j).right) ≡ length (variables_of (transducer_rule moves n).left)
      inside : Each (λ i. i < length (holes_of (rule_at rules j).right)) (variables_in (transducer_rule moves n).right)
      firsts : map (λ k. (key_at order k).0) (positions n j) ≡ states_in (transducer_rule moves n).right
      seconds : map (λ k. (key_at order k).1) (positions n j) ≡ ss
      admitted : AreAdmitted (restricted_labels moves) (map (λ k. (key_at order k).2) (positions n j)) (pick args (variables_in (transducer_rule moves n).right))

    positions_are :
        (n j : ℕ) (bk : Variable → ℕ × ℕ × ℕ) → Each (λ i. i < length (variables_of (transducer_rule moves n).left)) (variables_in (transducer_rule moves n).right) →
        map (key_at order) (holes_of (rule_at rules j).right) ≡ map bk (variables_of (transducer_rule moves n).left) →
        length (holes_of (rule_at rules j).right) ≡ length (variables_of (transducer_rule moves n).left) →
        map (key_at order) (positions n j) ≡ map (λ i. bk (get_or (variables_of (transducer_rule moves n).left) i no_variable)) (variables_in (transducer_rule moves n).right)
    positions_are n j bk known e long =
        map_twice (key_at order) (λ i. get_or (holes_of (rule_at rules j).right) i 0) (variables_in (transducer_rule moves n).right)
        ∙ map_same_at (λ i. key_at order (get_or (holes_of (rule_at rules j).right) i 0)) (λ i. bk (get_or (variables_of (transducer_rule moves n).left) i no_variable)) (variables_in (transducer_rule moves n).right) same
      where
        same : (i : ℕ) → Has (variables_in (transducer_rule moves n).right) i → key_at order (get_or (holes_of (rule_at rules j).right) i 0) ≡ bk (get_or (variables_of (transducer_rule moves n).left) i no_variable)
        same i h =
            let inside : i < length (variables_of (transducer_rule moves n).left) = each_has (λ i. i < length (variables_of (transducer_rule moves n).left)) (variables_in (transducer_rule moves n).right) i known h in
            sym (get_map (key_at order) (holes_of (rule_at rules j).right) i 0 (0, 0, 0) (below_same i (length (variables_of (transducer_rule moves n).left)) (length (holes_of (rule_at rules j).right)) inside (sym long)))
            ∙ ap (λ (xs : List (ℕ × ℕ × ℕ)). get_or xs i (0, 0, 0)) e
            ∙ get_map bk (variables_of (transducer_rule moves n).left) i no_variable (0, 0, 0) inside

    leads :
        (n j : ℕ) (ss : List ℕ) (args : Trees ℕ) → n < length moves → length ss ≡ length (holes_of (transducer_rule moves n).right) → AreBound (variables_of (transducer_rule moves n).left) args →
        side_map (key_at order) (rule_at rules j).right ≡ side_map (backward_key (restricted_labels moves) (holes_of (transducer_rule moves n).right) ss) (transducer_rule moves n).left →
        Leads n j ss args
    leads n j ss args b long_match bound e =
        let pairs : List (Pair ℕ) = holes_of (transducer_rule moves n).right in
        let vs : List Variable = variables_of (transducer_rule moves n).left in
        let vars : List ℕ = variables_in (transducer_rule moves n).right in
        let bk : Variable → ℕ × ℕ × ℕ = backward_key (restricted_labels moves) pairs ss in
        let shape = shaped n b in
        let qs_are : map (key_at order) (holes_of (rule_at rules j).right) ≡ map bk vs = holes_are j bk (transducer_rule moves n).left e in
        let long : length (holes_of (rule_at rules j).right) ≡ length vs = sym (map_long (key_at order) (holes_of (rule_at rules j).right)) ∙ ap length qs_are ∙ map_long bk vs in
        let are : map (key_at order) (positions n j) ≡ map (λ i. bk (get_or vs i no_variable)) vars = positions_are n j bk shape.known qs_are long in
        let number : (v : ℕ) → Has vars v → (get_or vs v no_variable).number ≡ v =
        λ v h. place_number vs v shape.numbered (each_has (λ i. i < length vs) vars v shape.known h)
        in
        let along = pairs_along pairs ss (λ v. bk (get_or vs v no_variable)) (linear n b) long_match
        (λ v h. (ap (λ i. (states_at i pairs ss).0) (number v h), ap (λ i. (states_at i pairs ss).1) (number v h)))
        in
        record {
          long = long;
          inside = each_to (sym long) vars shape.known;
          firsts = sym (map_twice (λ (x : ℕ × ℕ × ℕ). x.0) (key_at order) (positions n j)) ∙ ap (map (λ (x : ℕ × ℕ × ℕ). x.0)) are ∙ along.0;
          seconds = sym (map_twice (λ (x : ℕ × ℕ × ℕ). x.1) (key_at order) (positions n j)) ∙ ap (map (λ (x : ℕ × ℕ × ℕ). x.1)) are ∙ along.1;
          admitted = subst (λ es. AreAdmitted (restricted_labels moves) es (pick args vars))
              (sym (sym (map_twice (λ (x : ℕ × ℕ × ℕ). x.2) (key_at order) (positions n j)) ∙ ap (map (λ (x : ℕ × ℕ × ℕ). x.2)) are ∙ map_twice (λ (x : ℕ × ℕ × ℕ). x.2) (λ i. bk (get_or vs i no_variable)) vars))
              (picked_admitted (restricted_labels moves) vs args vars bound (are_listed moves n b) shape.known);
        }

    pair_up :
        (runs : Trees ℕ) (ks : List ℕ) (ts : Trees ℕ) (b : ℕ) → AllBelow (length order) ks → AreTransducerRuns moves (map (λ k. (key_at order k).0) ks) runs → Reads moves runs ts →
        AreAdmitted (restricted_labels moves) (map (λ k. (key_at order k).2) ks) ts → IsCost product grammar (map (λ k. (key_at order k).1) ks) (outputs moves runs) b →
        product (transducer_cost product moves runs) b ≤ most → UpTo ks ts (product (transducer_cost product moves runs) b)
    pair_up none [] none b r t d ad h m = record { found = 0; is_cost = (IsLeast-no_states laws rules).attained.0; within = omega arith }
    pair_up none [] (tree f kids more) b r t d ad h m = absurd d
    pair_up none (k ∷ ks) ts b r t d ad h m = absurd t
    pair_up (tree n runs rest) [] ts b r t d ad h m = absurd t
    pair_up (tree n runs rest) (k ∷ ks) none b r t d ad h m = absurd d
    pair_up (tree n runs rest) (k ∷ ks) (tree f kids more) b r t d ad h m =
        let w : ℕ = (transducer_rule moves n).cost in
        let a : ℕ = transducer_cost product moves runs in
        let a' : ℕ = transducer_cost product moves rest in
        let counted : count (outputs moves runs) ≡ length (holes_of (transducer_rule moves n).right) =
        count-outputs moves (states_in (transducer_rule moves n).right) runs t.2 ∙ map_long (λ x. x.state) (holes_of (transducer_rule moves n).right)
        in
        let o = opened n (key_at order k).1 (map (λ k. (key_at order k).1) ks) (outputs moves runs) (outputs moves rest) b counted h in
        let fits = d.0 in
        let begins = (shaped n t.0).begins in
        let root_is : begins.root ≡ f = root_label (transducer_rule moves n).left.label (transducer_rule moves n).left.kids fits.args kids begins.root f begins.is_root fits.filled in
        let same : product (product (product w o.above) (product a o.below)) (product a' o.beside) ≡ product (product (product w a) a') b = costs_of w o.above a o.below a' o.beside b o.costs in
        let bounds = three_within laws (product w o.above) (product a o.below) (product a' o.beside) most
        (within_same (product (product (product w o.above) (product a o.below)) (product a' o.beside)) (product (product (product w a) a') b) most same m)
        in
        let c = back.complete k n begins.root o.states o.above r.0 t.0 t.1 begins.is_root (subst (Admits (restricted_labels moves) (key_at order k).2) (sym root_is) ad.0) o.is_match bounds.0 in
        let j : ℕ = c.position in
        let l = leads n j o.states fits.args t.0 o.long fits.bound c.right in
        let below = pair_up runs (positions n j) (pick fits.args (variables_in (transducer_rule moves n).right)) o.below
        (all_below (length order) (holes_of (rule_at rules j).right) (variables_in (transducer_rule moves n).right) (back.in_range j c.below).1 l.inside)
        (subst (λ ps. AreTransducerRuns moves ps runs) (sym l.firsts) t.2)
        fits.below
        l.admitted
        (subst (λ q. IsCost product grammar q (outputs moves runs) o.below) (sym l.seconds) o.fills_cost)
        bounds.1
        in
        let beside = pair_up rest ks more o.beside r.1 t.3 d.1 ad.1 o.rest_cost bounds.2 in
        let stand : (i : ℕ) → i < length (holes_of (rule_at rules j).right) → Has (variables_in (transducer_rule moves n).right) i =
        λ i e. all_stand (variables_of (transducer_rule moves n).left) (variables_in (transducer_rule moves n).right) (shaped n t.0).numbered (nondeleting n t.0) i
        (below_same i (length (holes_of (rule_at rules j).right)) (length (variables_of (transducer_rule moves n).left)) e l.long)
        in
        let whole = restore laws rules (variables_in (transducer_rule moves n).right) (holes_of (rule_at rules j).right) fits.args below.found (linear n t.0) l.inside stand
        (count-bound (variables_of (transducer_rule moves n).left) fits.args fits.bound ∙ sym l.long)
        below.is_cost
        in
        let filled : fill (only (rule_at rules j).right) fits.args ≡ tree f kids none =
        fills j (backward_key (restricted_labels moves) (holes_of (transducer_rule moves n).right) o.states) (transducer_rule moves n).left c.right fits.args ∙ fits.filled
        in
        let up : product (rule_at rules j).cost below.found ≤ product (product w o.above) (product a o.below) =
        grows_both laws (rule_at rules j).cost below.found (product w o.above) (product a o.below) c.costs below.within
        in
        let up_all : product (product (rule_at rules j).cost below.found) beside.found ≤ product (product (product w o.above) (product a o.below)) (product a' o.beside) =
        grows_both laws (product (rule_at rules j).cost below.found) beside.found (product (product w o.above) (product a o.below)) (product a' o.beside) up beside.within
        in
        record {
          found = product (product (rule_at rules j).cost below.found) beside.found;
          is_cost = subst (λ ts. IsCost product rules (k ∷ ks) ts (product (product (rule_at rules j).cost below.found) beside.found)) (ap (λ ts. join ts more) filled)
              (joined product rules k j ks fits.args more below.found beside.found c.below c.left whole beside.is_cost);
          within = within_to (product (product (rule_at rules j).cost below.found) beside.found)
              (product (product (product w o.above) (product a o.below)) (product a' o.beside))
              (product (product (product w a) a') b)
              up_all same;
        }

    to : (t : Tree ℕ) (c : ℕ) → IsCost product rules (0 ∷ []) (only t) c → IsBackwardCost product moves grammar 0 0 t c
    to t c h =
        let b = project h.runs (0 ∷ []) h.are_runs in
        by b.items b.each b.keys (b.trees ∙ h.yielded) (b.costs ∙ h.costs)
      where
        by :
            (xs : List (Item (ℕ × ℕ × ℕ))) → Each IsBack xs → keys_of xs ≡ key_at order 0 ∷ [] → trees_of xs ≡ only t → product_of product xs ≡ c →
            IsBackwardCost product moves grammar 0 0 t c
        by [] a k e p = absurd (cc)
        by (x ∷ y ∷ xs) a k e p = absurd (cc k)
        by (x ∷ []) a k e p =
            let key : x.key ≡ key_at order 0 = cc k in
            let first : x.key.0 ≡ 0 = ap (λ (z : ℕ × ℕ × ℕ). z.0) (key ∙ back.start) in
            let second : x.key.1 ≡ 0 = ap (λ (z : ℕ × ℕ × ℕ). z.1) (key ∙ back.start) in
            let labels : x.label ≡ t.label = cc e in
            let inner : x.kids ≡ t.kids = cc e in
            let one : ◌≡◌ {A = Tree ℕ} (record { label = x.label; kids = x.kids }) t = ap (λ f. record { label = f; kids = x.kids }) labels ∙ ap (λ ks. record { label = t.label; kids = ks }) inner in
            let costs : x.cost ≡ c = sym (neutral_right laws x.cost) ∙ p in
            subst (λ n. IsBackwardCost product moves grammar 0 0 t n) costs
            (subst (λ z. IsBackwardCost product moves grammar 0 0 z x.cost) one
            (subst (λ q. IsBackwardCost product moves grammar 0 q (record { label = x.label; kids = x.kids }) x.cost) second
            (subst (λ p. IsBackwardCost product moves grammar p x.key.1 (record { label = x.label; kids = x.kids }) x.cost) first a.0.is_cost)))

    from : (t : Tree ℕ) (c : ℕ) → IsBackwardCost product moves grammar 0 0 t c → c ≤ most → UpTo (0 ∷ []) (only t) c
    from t c h m =
        let same : product (transducer_cost product moves h.first.runs) h.yielded ≡ c = ap (λ z. product z h.yielded) h.first.costs ∙ h.costs in
        let first : (key_at order 0).0 ≡ 0 = ap (λ (z : ℕ × ℕ × ℕ). z.0) back.start in
        let second : (key_at order 0).1 ≡ 0 = ap (λ (z : ℕ × ℕ × ℕ). z.1) back.start in
        let third : (key_at order 0).2 ≡ 0 = ap (λ (z : ℕ × ℕ × ℕ). z.2) back.start in
        let x = pair_up h.first.runs (0 ∷ []) (only t) h.yielded (back.long, tt)
        (subst (λ p. AreTransducerRuns moves (p ∷ []) h.first.runs) (sym first) h.first.are_runs)
        h.first.reads
        (subst (λ e. Admits (restricted_labels moves) e t.label) (sym third) tt, tt)
        (subst (λ q. IsCost product grammar (q ∷ []) (outputs moves h.first.runs) h.yielded) (sym second)
        (subst (λ us. IsCost product grammar (0 ∷ []) us h.yielded) (sym h.first.output) h.second))
        (omega arith)
        in
        record { found = x.found; is_cost = x.is_cost; within = omega (arith, x.within) }

    -- the series of the grammar of the keys is that of backward application
    pub preimaged : (t : Tree ℕ) (v : Option ℕ) → IsSeries product rules t v ↔ IsBackwardSeries product moves grammar t v
    preimaged t v = (
      λ h. IsLeast-dominated (λ n c m. (n, to t n c, omega arith)) (λ n c m. let x = from t n c m in (x.found, x.is_cost, x.within)) h,
      λ h. IsLeast-dominated (λ n c m. let x = from t n c m in (x.found, x.is_cost, x.within)) (λ n c m. (n, to t n c, omega arith)) h,
    )

pub backward_means :
    {levelled weighted : Bool} {product : ℕ → ℕ → ℕ} (laws : ProductLaws levelled weighted product) (moves : List (TransducerRule ℕ)) → AreShaped moves → AreLinear moves → AreNondeleting moves →
    (grammar : List (Rule ℕ)) → AreNormal grammar → (order : List (ℕ × ℕ × ℕ)) (rules : List (Rule ℕ)) → IsKeyGrammar (IsBackwardEdge product moves grammar) order rules →
    (t : Tree ℕ) (v : Option ℕ) → IsSeries product rules t v ↔ IsBackwardSeries product moves grammar t v
backward_means laws moves shaped linear nondeleting grammar normal order rules found =
    preimaged laws moves shaped linear nondeleting grammar normal order rules (covers_backward laws moves grammar order rules found)
