-- The grammar of the keys that parsing reaches has the series of the transducer at the string.
use Rattle.std.specs.Prelude.{◌≡◌, ℕ, ◌<◌, ◌↔◌, List, [], ◌∷◌, length, map, Bool, refl, Option}
use Rattle.std.proofs.Common.{arith, ap, sym, ◌∙◌, subst, get_or}
use Rattle.tib_lex.specs.Lists.{Has, Each}
use Rattle.tib_tree.specs.Trees.{Tree, Trees, none, tree, join, only}
use Rattle.tib_grammar.specs.Sides.{Symbol, label, holes, holes_of, fill, side_map}
use Rattle.tib_grammar.specs.Run.{rule_at, AreRuns, yields, cost, IsCost}
use Rattle.tib_grammar.specs.Series.{IsSeries}
use Rattle.tib_grammar.specs.Range.{AllBelow}
use Rattle.tib_grammar.specs.declared.Rule.{Rule}
use Rattle.tib_grammar.proofs.Sides.{count-fill, holes-relabel, fill-relabel}
use Rattle.tib_grammar.proofs.NormalRuns.{IsLeast-no_states}
use Rattle.tib_grammar.proofs.Members.{each_has}
use Rattle.tib_cost.specs.Semiring.{ProductLaws}
use Rattle.tib_cost.proofs.Least.{IsLeast-same}
use Rattle.tib_transducer.specs.Rules.{variables_of, variable_at, no_variable}
use Rattle.tib_transducer.specs.Run.{AreBound, pick}
use Rattle.tib_transducer.specs.declared.Variable.{Variable}
use Rattle.tib_transducer.specs.declared.Pair.{Pair}
use Rattle.tib_strings.specs.Rules.{string_rule, pairs_of, states_in, variables_in}
use Rattle.tib_strings.specs.Range.{AreShaped, AreLinear, AreNondeleting}
use Rattle.tib_strings.specs.Run.{AreStringRuns, StringRunsRead, put, strings, string_cost}
use Rattle.tib_strings.specs.Series.{IsStringCost, IsStringSeries}
use Rattle.tib_apply.specs.Restrictions.{Admits}
use Rattle.tib_image.specs.Restrictions.{restricted_labels}
use Rattle.tib_strings.specs.Cuts.{IsCut, spans}
use Rattle.tib_image.specs.Parsing.{first_key, key_at, span_at, parse_key, IsParseGrammar}
use Rattle.tib_strings.specs.declared.StringRule.{StringRule}
use Rattle.tib_image.proofs.Covering.{CoversParse, covers_parse}
use Rattle.tib_cost.proofs.Times.{product-zero}
use Rattle.tib_strings.proofs.Cutting.{between_all, text_in, IsRange, spans_long, cut_puts, find_cut}
use Rattle.tib_transducer.proofs.Selecting.{Item, keys_of, trees_of, product_of, stays, selected, selected-keys, selected-trees, selected-each, stays-keys, all_named, parted, keys_long, trees_long}
use Rattle.tib_match.proofs.Steps.{one_of, below_same}
use Rattle.tib_transducer.proofs.Itemizing.{restore, joined}
use Rattle.tib_image.proofs.StringRuns.{one_more, one_run, length-strings}
use Rattle.tib_apply.proofs.Restricting.{IsListed, AreAdmitted, binds}
use Rattle.tib_image.specs.RestrictedLabels.{are_listed}
use Rattle.tib_lex.proofs.Lists.{map_twice, each_mapped as each_map}
use Rattle.tib_apply.proofs.Leaves.{root_label, map_same_at, get_map, map_long, each_to, all_below, picked_admitted}
use Rattle.tib_image.proofs.Leaves.{state_of, span_of, restriction_of, pairs_along}
use Rattle.tib_transducer.proofs.Counting.{place_number, all_stand, count-bound}

-- what a key's part of the string is
abbrev pub text_of : List ℕ → ℕ × ℕ × ℕ × ℕ → List ℕ
text_of string k = text_in string (span_of k)

module _
    {levelled weighted : Bool} {product : ℕ → ℕ → ℕ} (laws : ProductLaws levelled weighted product)
    (moves : List (StringRule ℕ)) (shaped : AreShaped moves) (linear : AreLinear moves) (nondeleting : AreNondeleting moves)
    (string : List ℕ) where
  -- the tree of an item is admitted by its key, and its cost is that of a run that reads it and
  -- puts out the key's part
  record IsParsed (x : Item (ℕ × ℕ × ℕ × ℕ)) : Type 0 where
    admitted : Admits (restricted_labels moves) x.key.3 x.label
    is_cost : IsStringCost product moves (x.key.0 ∷ []) (tree x.label x.kids none) (text_of string x.key ∷ []) x.cost

  gather :
      (xs : List (Item (ℕ × ℕ × ℕ × ℕ))) → Each IsParsed xs →
      IsStringCost product moves (map state_of (keys_of xs)) (trees_of xs) (map (text_of string) (keys_of xs)) (product_of product xs)
  gather [] a = record { runs = none; are_runs = tt; reads = tt; output = refl; costs = refl }
  gather (x ∷ xs) a =
      one_more laws moves x.key.0 (map state_of (keys_of xs)) (record { label = x.label; kids = x.kids }) (trees_of xs) (text_of string x.key) (map (text_of string) (keys_of xs)) x.cost (product_of product xs)
      a.0.is_cost (gather xs a.1)

  bound_of :
      (pairs : List (Pair ℕ)) (ss : List (ℕ × ℕ)) (vs : List Variable) (xs : List (Item (ℕ × ℕ × ℕ × ℕ))) → Each (IsListed (restricted_labels moves)) vs → Each IsParsed xs →
      keys_of xs ≡ map (parse_key (restricted_labels moves) pairs ss) vs → AreBound vs (trees_of xs)
  bound_of pairs ss [] [] l a e = tt
  bound_of pairs ss [] (x ∷ xs) l a e = absurd (cc)
  bound_of pairs ss (v ∷ vs) [] l a e = absurd (cc)
  bound_of pairs ss (v ∷ vs) (x ∷ xs) l a e =
      let first : x.key ≡ parse_key (restricted_labels moves) pairs ss v = cc e in
      let others : keys_of xs ≡ map (parse_key (restricted_labels moves) pairs ss) vs = cc e in (
        binds (restricted_labels moves) v.label x.label l.0 (subst (λ (k : ℕ × ℕ × ℕ × ℕ). Admits (restricted_labels moves) k.3 x.label) first a.0.admitted),
        bound_of pairs ss vs xs l.1 a.1 others,
      )

  prod_none : (ys : List (Item (ℕ × ℕ × ℕ × ℕ))) → keys_of ys ≡ [] → product_of product ys ≡ 0
  prod_none [] e = refl
  prod_none (y ∷ ys) e = absurd (cc)

  -- a rule of the transducer, a cut of its right-hand side, and what is read at its variables
  record OneParsed (key : ℕ × ℕ × ℕ × ℕ) (ts : Trees ℕ) (c : ℕ) : Type 0 where
    one : Tree ℕ
    is_one : ts ≡ only one
    admitted : Admits (restricted_labels moves) key.3 one.label
    is_cost : IsStringCost product moves (key.0 ∷ []) (only one) (text_of string key ∷ []) c

  one_parsed :
      (key : ℕ × ℕ × ℕ × ℕ) (n root : ℕ) (cut : List ℕ) (xs : List (Item (ℕ × ℕ × ℕ × ℕ))) → n < length moves → (string_rule moves n).state ≡ key.0 →
      (string_rule moves n).left.label ≡ label root → Admits (restricted_labels moves) key.3 root →
      IsCut string (string_rule moves n).right key.1 key.2 cut → Each IsParsed xs →
      keys_of xs ≡ map (parse_key (restricted_labels moves) (pairs_of (string_rule moves n).right) (spans (string_rule moves n).right key.1 cut)) (variables_of (string_rule moves n).left) →
      OneParsed key (fill (only (string_rule moves n).left) (trees_of xs)) (product (string_rule moves n).cost (product_of product xs))
  one_parsed key n root cut xs b state is_root admitted is_cut each keys =
      let w : ℕ = (string_rule moves n).cost in
      let pairs : List (Pair ℕ) = pairs_of (string_rule moves n).right in
      let ss : List (ℕ × ℕ) = spans (string_rule moves n).right key.1 cut in
      let vs : List Variable = variables_of (string_rule moves n).left in
      let vars : List ℕ = variables_in (string_rule moves n).right in
      let pk : Variable → ℕ × ℕ × ℕ × ℕ = parse_key (restricted_labels moves) pairs ss in
      let long : length xs ≡ length vs = sym (keys_long xs) ∙ ap length keys ∙ map_long pk vs in
      let known : Each (λ i. i < length vs) vars = (shaped n b).known in
      let inside : Each (λ i. i < length xs) vars = each_to (sym long) vars known in
      let stand : (i : ℕ) → i < length vs → Has vars i = all_stand vs vars (shaped n b).numbered (nondeleting n b) in
      let zs : List (Item (ℕ × ℕ × ℕ × ℕ)) = selected (0, 0, 0, 0) xs vars in
      let empty : keys_of (stays vars 0 xs) ≡ [] =
      stays-keys vars 0 xs ∙ all_named vars 0 (keys_of xs) (λ j h. subst (Has vars) (omega arith) (stand j (omega (arith, h, keys_long xs, long))))
      in
      let same : product_of product zs ≡ product_of product xs =
      sym (product-zero laws (product_of product zs)) ∙ ap (product (product_of product zs)) (sym (prod_none (stays vars 0 xs) empty)) ∙ sym (parted (0, 0, 0, 0) laws vars xs (linear n b) inside)
      in
      let g = gather zs (selected-each (0, 0, 0, 0) IsParsed xs vars each inside) in
      let at : (v : ℕ) → Has vars v → get_or (keys_of xs) v (0, 0, 0, 0) ≡ pk (variable_at (string_rule moves n).left v) =
      λ v h. ap (λ (ks : List (ℕ × ℕ × ℕ × ℕ)). get_or ks v (0, 0, 0, 0)) keys ∙ get_map pk vs v no_variable (0, 0, 0, 0) (each_has (λ i. i < length vs) vars v known h)
      in
      let number : (v : ℕ) → Has vars v → (variable_at (string_rule moves n).left v).number ≡ v =
      λ v h. place_number vs v (shaped n b).numbered (each_has (λ i. i < length vs) vars v known h)
      in
      let along = pairs_along pairs ss (λ v. get_or (keys_of xs) v (0, 0, 0, 0)) (linear n b) (spans_long string (string_rule moves n).right key.1 key.2 cut is_cut)
      (λ v h. (
        ap (λ (k : ℕ × ℕ × ℕ × ℕ). k.0) (at v h) ∙ ap (λ i. (span_at i pairs ss).0) (number v h),
        ap (λ (k : ℕ × ℕ × ℕ × ℕ). k.1) (at v h) ∙ ap (λ i. (span_at i pairs ss).1) (number v h),
        ap (λ (k : ℕ × ℕ × ℕ × ℕ). k.2) (at v h) ∙ ap (λ i. (span_at i pairs ss).2) (number v h),
      ))
      in
      let firsts : map state_of (keys_of zs) ≡ states_in (string_rule moves n).right = ap (map state_of) (selected-keys (0, 0, 0, 0) xs vars) ∙ along.0 in
      let texts : map (text_of string) (keys_of zs) ≡ map (text_in string) ss =
      sym (map_twice (text_in string) span_of (keys_of zs)) ∙ ap (map (text_in string)) (ap (map span_of) (selected-keys (0, 0, 0, 0) xs vars) ∙ along.1)
      in
      let t = one_of (fill (only (string_rule moves n).left) (trees_of xs)) (count-fill (only (string_rule moves n).left) (trees_of xs) (trees_long xs ∙ long)) in
      let reading : IsStringCost product moves (states_in (string_rule moves n).right) (pick (trees_of xs) vars) (map (text_in string) ss) (product_of product zs) =
      subst (λ us. IsStringCost product moves (states_in (string_rule moves n).right) (pick (trees_of xs) vars) us (product_of product zs)) texts
      (subst (λ ts. IsStringCost product moves (states_in (string_rule moves n).right) ts (map (text_of string) (keys_of zs)) (product_of product zs)) (selected-trees (0, 0, 0, 0) xs vars inside)
      (subst (λ ps. IsStringCost product moves ps (trees_of zs) (map (text_of string) (keys_of zs)) (product_of product zs)) firsts g))
      in
      let run : IsStringCost product moves (key.0 ∷ []) (only t.0) (put (string_rule moves n).right (map (text_in string) ss) ∷ []) (product w (product_of product zs)) =
      one_run laws moves key.0 n t.0 (trees_of xs) (map (text_in string) ss) (product_of product zs) b state (bound_of pairs ss vs xs (are_listed moves n b) each keys) (t.1) reading
      in
      record {
        one = t.0;
        is_one = t.1;
        admitted = subst (Admits (restricted_labels moves) key.3) (root_label (string_rule moves n).left.label (string_rule moves n).left.kids (trees_of xs) t.0.kids root t.0.label is_root t.1) admitted;
        is_cost = subst (λ c. IsStringCost product moves (key.0 ∷ []) (only t.0) (text_of string key ∷ []) c) (ap (product w) same)
            (subst (λ (u : List ℕ). IsStringCost product moves (key.0 ∷ []) (only t.0) (u ∷ []) (product w (product_of product zs))) (cut_puts string (string_rule moves n).right key.1 key.2 cut is_cut) run);
      }

  module _ (order : List (ℕ × ℕ × ℕ × ℕ)) (rules : List (Rule ℕ)) (back : CoversParse moves string order rules) where
    abbrev key : ℕ → ℕ × ℕ × ℕ × ℕ
    key k = key_at (length string) order k

    record Parses (ks : List ℕ) (ts : Trees ℕ) (c : ℕ) : Type 0 where
      items : List (Item (ℕ × ℕ × ℕ × ℕ))
      each : Each IsParsed items
      keys : keys_of items ≡ map (key_at (length string) order) ks
      trees : trees_of items ≡ ts
      costs : product_of product items ≡ c

    -- the holes of a rule, and what fills it, are those of an edge
    holes_are :
        (j : ℕ) (g : Variable → ℕ × ℕ × ℕ × ℕ) (left : Tree (Symbol ℕ Variable)) → side_map (key_at (length string) order) (rule_at rules j).right ≡ side_map g left →
        map (key_at (length string) order) (holes_of (rule_at rules j).right) ≡ map g (variables_of left)
    holes_are j g left e =
        sym (holes-relabel (key_at (length string) order) (only (rule_at rules j).right)) ∙ ap (λ s. holes (only s)) e ∙ holes-relabel g (only left)

    fills :
        (j : ℕ) (g : Variable → ℕ × ℕ × ℕ × ℕ) (left : Tree (Symbol ℕ Variable)) → side_map (key_at (length string) order) (rule_at rules j).right ≡ side_map g left →
        (ts : Trees ℕ) → fill (only (rule_at rules j).right) ts ≡ fill (only left) ts
    fills j g left e ts =
        sym (fill-relabel (key_at (length string) order) (only (rule_at rules j).right) ts) ∙ ap (λ s. fill (only s) ts) e ∙ fill-relabel g (only left) ts

    project : (runs : Trees ℕ) (ks : List ℕ) → AreRuns rules ks runs → Parses ks (yields rules runs) (cost product rules runs)
    project none [] a = record { items = []; each = tt; keys = refl; trees = refl; costs = refl }
    project none (k ∷ ks) a = absurd a
    project (tree j runs rest) [] a = absurd a
    project (tree j runs rest) (k ∷ ks) a =
        let s = back.sound j a.0 in
        let n : ℕ = s.0.0 in
        let cut : List ℕ = s.0.1 in
        let e = s.1 in
        let pk : Variable → ℕ × ℕ × ℕ × ℕ = parse_key (restricted_labels moves) (pairs_of (string_rule moves n).right) (spans (string_rule moves n).right (key (rule_at rules j).left).1 cut) in
        let below = project runs (holes_of (rule_at rules j).right) a.2 in
        let beside = project rest ks a.3 in
        let one = one_parsed (key (rule_at rules j).left) n e.root cut below.items e.below e.state e.is_root e.admitted e.is_cut below.each
        (below.keys ∙ holes_are j pk (string_rule moves n).left e.right)
        in
        let same : fill (only (rule_at rules j).right) (yields rules runs) ≡ only one.one =
        fills j pk (string_rule moves n).left e.right (yields rules runs) ∙ ap (fill (only (string_rule moves n).left)) (sym below.trees) ∙ one.is_one
        in
        record {
          items = record { key = key (rule_at rules j).left; label = one.one.label; kids = one.one.kids; cost = product (string_rule moves n).cost (product_of product below.items) } ∷ beside.items;
          each = (record { admitted = one.admitted; is_cost = one.is_cost }, beside.each);
          keys = ap (λ q. key q ∷ keys_of beside.items) a.1 ∙ ap (λ (qs : List (ℕ × ℕ × ℕ × ℕ)). key k ∷ qs) beside.keys;
          trees = ap (tree one.one.label one.one.kids) beside.trees ∙ ap (λ ts. join ts (yields rules rest)) (sym same);
          costs = ap (λ z. product (product z (product_of product below.items)) (product_of product beside.items)) (sym e.costs)
              ∙ ap (λ z. product (product (rule_at rules j).cost z) (product_of product beside.items)) below.costs
              ∙ ap (product (product (rule_at rules j).cost (cost product rules runs))) beside.costs;
        }

    -- the positions at the holes of a rule, by the pairs on the right
    abbrev positions : ℕ → ℕ → List ℕ
    positions n j = map (λ i. get_or (holes_of (rule_at rules j).right) i 0) (variables_in (string_rule moves n).right)

    record Leads (n j : ℕ) (ss : List (ℕ × ℕ)) (args : Trees ℕ) : Type 0 where
      long : length (holes_of (rule_at rules j).right) ≡ length (variables_of (string_rule moves n).left)
      inside : Each (λ i. i < length (holes_of (rule_at rules j).right)) (variables_in (string_rule moves n).right)
      firsts : map (λ k. state_of (key k)) (positions n j) ≡ states_in (string_rule moves n).right
      seconds : map (λ k. span_of (key k)) (positions n j) ≡ ss
      admitted : AreAdmitted (restricted_labels moves) (map (λ k. restriction_of (key k)) (positions n j)) (pick args (variables_in (string_rule moves n).right))

    positions_are :
        (n j : ℕ) (pk : Variable → ℕ × ℕ × ℕ × ℕ) → Each (λ i. i < length (variables_of (string_rule moves n).left)) (variables_in (string_rule moves n).right) →
        map (key_at (length string) order) (holes_of (rule_at rules j).right) ≡ map pk (variables_of (string_rule moves n).left) →
        length (holes_of (rule_at rules j).right) ≡ length (variables_of (string_rule moves n).left) →
        map (key_at (length string) order) (positions n j) ≡ map (λ i. pk (get_or (variables_of (string_rule moves n).left) i no_variable)) (variables_in (string_rule moves n).right)
    positions_are n j pk known e long =
        map_twice (key_at (length string) order) (λ i. get_or (holes_of (rule_at rules j).right) i 0) (variables_in (string_rule moves n).right)
        ∙ map_same_at (λ i. key_at (length string) order (get_or (holes_of (rule_at rules j).right) i 0)) (λ i. pk (get_or (variables_of (string_rule moves n).left) i no_variable)) (variables_in (string_rule moves n).right) same
      where
        same : (i : ℕ) → Has (variables_in (string_rule moves n).right) i → key_at (length string) order (get_or (holes_of (rule_at rules j).right) i 0) ≡ pk (get_or (variables_of (string_rule moves n).left) i no_variable)
        same i h =
            let inside : i < length (variables_of (string_rule moves n).left) = each_has (λ i. i < length (variables_of (string_rule moves n).left)) (variables_in (string_rule moves n).right) i known h in
            sym (get_map (key_at (length string) order) (holes_of (rule_at rules j).right) i 0 (0, 0, 0, 0) (below_same i (length (variables_of (string_rule moves n).left)) (length (holes_of (rule_at rules j).right)) inside (sym long)))
            ∙ ap (λ (xs : List (ℕ × ℕ × ℕ × ℕ)). get_or xs i (0, 0, 0, 0)) e
            ∙ get_map pk (variables_of (string_rule moves n).left) i no_variable (0, 0, 0, 0) inside

    leads :
        (n j : ℕ) (ss : List (ℕ × ℕ)) (args : Trees ℕ) → n < length moves → length ss ≡ length (pairs_of (string_rule moves n).right) → AreBound (variables_of (string_rule moves n).left) args →
        side_map (key_at (length string) order) (rule_at rules j).right ≡ side_map (parse_key (restricted_labels moves) (pairs_of (string_rule moves n).right) ss) (string_rule moves n).left →
        Leads n j ss args
    leads n j ss args b long_cut bound e =
        let pairs : List (Pair ℕ) = pairs_of (string_rule moves n).right in
        let vs : List Variable = variables_of (string_rule moves n).left in
        let vars : List ℕ = variables_in (string_rule moves n).right in
        let pk : Variable → ℕ × ℕ × ℕ × ℕ = parse_key (restricted_labels moves) pairs ss in
        let shape = shaped n b in
        let qs_are : map (key_at (length string) order) (holes_of (rule_at rules j).right) ≡ map pk vs = holes_are j pk (string_rule moves n).left e in
        let long : length (holes_of (rule_at rules j).right) ≡ length vs = sym (map_long (key_at (length string) order) (holes_of (rule_at rules j).right)) ∙ ap length qs_are ∙ map_long pk vs in
        let are : map (key_at (length string) order) (positions n j) ≡ map (λ i. pk (get_or vs i no_variable)) vars = positions_are n j pk shape.known qs_are long in
        let number : (v : ℕ) → Has vars v → (get_or vs v no_variable).number ≡ v =
        λ v h. place_number vs v shape.numbered (each_has (λ i. i < length vs) vars v shape.known h)
        in
        let along = pairs_along pairs ss (λ v. pk (get_or vs v no_variable)) (linear n b) long_cut
        (λ v h. (ap (λ i. (span_at i pairs ss).0) (number v h), ap (λ i. (span_at i pairs ss).1) (number v h), ap (λ i. (span_at i pairs ss).2) (number v h)))
        in
        record {
          long = long;
          inside = each_to (sym long) vars shape.known;
          firsts = sym (map_twice state_of (key_at (length string) order) (positions n j)) ∙ ap (map state_of) are ∙ along.0;
          seconds = sym (map_twice span_of (key_at (length string) order) (positions n j)) ∙ ap (map span_of) are ∙ along.1;
          admitted = subst (λ es. AreAdmitted (restricted_labels moves) es (pick args vars))
              (sym (sym (map_twice restriction_of (key_at (length string) order) (positions n j)) ∙ ap (map restriction_of) are ∙ map_twice restriction_of (λ i. pk (get_or vs i no_variable)) vars))
              (picked_admitted (restricted_labels moves) vs args vars bound (are_listed moves n b) shape.known);
        }

    -- strings of a first key and of others
    first_text : (s u : List ℕ) (ss us : List (List ℕ)) → s ∷ ss ≡ u ∷ us → (s ≡ u) × (ss ≡ us)
    first_text s u ss us e = (cc, cc)

    pair_up :
        (runs : Trees ℕ) (ks : List ℕ) (ts : Trees ℕ) → AllBelow (length order) ks → Each (λ k. IsRange string (span_of (key k))) ks →
        AreStringRuns moves (map (λ k. state_of (key k)) ks) runs → StringRunsRead moves runs ts →
        AreAdmitted (restricted_labels moves) (map (λ k. restriction_of (key k)) ks) ts → strings moves runs ≡ map (λ k. text_of string (key k)) ks →
        IsCost product rules ks ts (string_cost product moves runs)
    pair_up none [] none r in_string t d ad h = (IsLeast-no_states laws rules).attained.0
    pair_up none [] (tree f kids more) r in_string t d ad h = absurd d
    pair_up none (k ∷ ks) ts r in_string t d ad h = absurd t
    pair_up (tree n runs rest) [] ts r in_string t d ad h = absurd t
    pair_up (tree n runs rest) (k ∷ ks) none r in_string t d ad h = absurd d
    pair_up (tree n runs rest) (k ∷ ks) (tree f kids more) r in_string t d ad h =
        let vs : List Variable = variables_of (string_rule moves n).left in
        let vars : List ℕ = variables_in (string_rule moves n).right in
        let counted : length (strings moves runs) ≡ length (pairs_of (string_rule moves n).right) =
        length-strings moves (states_in (string_rule moves n).right) runs t.2 ∙ map_long (λ x. x.state) (pairs_of (string_rule moves n).right)
        in
        let texts = first_text (put (string_rule moves n).right (strings moves runs)) (text_of string (key k)) (strings moves rest) (map (λ k. text_of string (key k)) ks) h in
        let o = find_cut string (string_rule moves n).right (strings moves runs) (key k).1 (key k).2 counted in_string.0.0 in_string.0.1 texts.0 in
        let ss : List (ℕ × ℕ) = spans (string_rule moves n).right (key k).1 o.cut in
        let fits = d.0 in
        let begins = (shaped n t.0).begins in
        let root_is : begins.root ≡ f = root_label (string_rule moves n).left.label (string_rule moves n).left.kids fits.args kids begins.root f begins.is_root fits.filled in
        let c = back.complete k n begins.root o.cut r.0 t.0 t.1 begins.is_root (subst (Admits (restricted_labels moves) (key k).3) (sym root_is) ad.0) o.is_cut in
        let j : ℕ = c.position in
        let l = leads n j ss fits.args t.0 (spans_long string (string_rule moves n).right (key k).1 (key k).2 o.cut o.is_cut) fits.bound c.right in
        let below = pair_up runs (positions n j) (pick fits.args vars)
        (all_below (length order) (holes_of (rule_at rules j).right) vars (back.in_range j c.below).1 l.inside)
        (each_map (IsRange string) (λ k. span_of (key k)) (positions n j) (subst (Each (IsRange string)) (sym l.seconds) o.ranges))
        (subst (λ ps. AreStringRuns moves ps runs) (sym l.firsts) t.2)
        fits.below
        l.admitted
        (o.texts ∙ ap (map (text_in string)) (sym l.seconds) ∙ map_twice (text_in string) (λ k. span_of (key k)) (positions n j))
        in
        let beside = pair_up rest ks more r.1 in_string.1 t.3 d.1 ad.1 texts.1 in
        let stand : (i : ℕ) → i < length (holes_of (rule_at rules j).right) → Has vars i =
        λ i e. all_stand vs vars (shaped n t.0).numbered (nondeleting n t.0) i (below_same i (length (holes_of (rule_at rules j).right)) (length vs) e l.long)
        in
        let whole = restore laws rules vars (holes_of (rule_at rules j).right) fits.args (string_cost product moves runs) (linear n t.0) l.inside stand
        (count-bound vs fits.args fits.bound ∙ sym l.long)
        below
        in
        let filled : fill (only (rule_at rules j).right) fits.args ≡ tree f kids none =
        fills j (parse_key (restricted_labels moves) (pairs_of (string_rule moves n).right) ss) (string_rule moves n).left c.right fits.args ∙ fits.filled
        in
        subst (λ w. IsCost product rules (k ∷ ks) (tree f kids more) (product (product w (string_cost product moves runs)) (string_cost product moves rest))) c.costs
        (subst (λ ts. IsCost product rules (k ∷ ks) ts (product (product (rule_at rules j).cost (string_cost product moves runs)) (string_cost product moves rest))) (ap (λ ts. join ts more) filled)
        (joined product rules k j ks fits.args more (string_cost product moves runs) (string_cost product moves rest) c.below c.left whole beside))

    to : (t : Tree ℕ) (c : ℕ) → IsCost product rules (0 ∷ []) (only t) c → IsStringCost product moves (0 ∷ []) (only t) (string ∷ []) c
    to t c h =
        let b = project h.runs (0 ∷ []) h.are_runs in
        by b.items b.each b.keys (b.trees ∙ h.yielded) (b.costs ∙ h.costs)
      where
        by :
            (xs : List (Item (ℕ × ℕ × ℕ × ℕ))) → Each IsParsed xs → keys_of xs ≡ key_at (length string) order 0 ∷ [] → trees_of xs ≡ only t → product_of product xs ≡ c →
            IsStringCost product moves (0 ∷ []) (only t) (string ∷ []) c
        by [] a k e p = absurd (cc)
        by (x ∷ y ∷ xs) a k e p = absurd (cc k)
        by (x ∷ []) a k e p =
            let is : x.key ≡ key_at (length string) order 0 = cc k in
            let first : x.key ≡ first_key (length string) = is ∙ back.start in
            let costs : x.cost ≡ c = sym (product-zero laws x.cost) ∙ p in
            subst (λ (u : List ℕ). IsStringCost product moves (0 ∷ []) (only t) (u ∷ []) c) (between_all string)
            (subst (λ n. IsStringCost product moves (0 ∷ []) (only t) (text_of string (first_key (length string)) ∷ []) n) costs
            (subst (λ ts. IsStringCost product moves (0 ∷ []) ts (text_of string (first_key (length string)) ∷ []) x.cost) e
            (subst (λ (q : ℕ × ℕ × ℕ × ℕ). IsStringCost product moves (q.0 ∷ []) (tree x.label x.kids none) (text_of string q ∷ []) x.cost) first a.0.is_cost)))

    from : (t : Tree ℕ) (c : ℕ) → IsStringCost product moves (0 ∷ []) (only t) (string ∷ []) c → IsCost product rules (0 ∷ []) (only t) c
    from t c h =
        let start : first_key (length string) ≡ key 0 = sym back.start in
        let x = pair_up h.runs (0 ∷ []) (only t) (back.long, tt)
        (subst (λ q. IsRange string (span_of q)) start (omega arith, omega arith), tt)
        (subst (λ (q : ℕ × ℕ × ℕ × ℕ). AreStringRuns moves (q.0 ∷ []) h.runs) start h.are_runs)
        h.reads
        (subst (λ (q : ℕ × ℕ × ℕ × ℕ). Admits (restricted_labels moves) q.3 t.label) start tt, tt)
        (h.output ∙ ap (λ (u : List ℕ). u ∷ []) (sym (between_all string)) ∙ ap (λ (q : ℕ × ℕ × ℕ × ℕ). text_of string q ∷ []) start)
        in
        subst (IsCost product rules (0 ∷ []) (only t)) h.costs x

    -- the series of the grammar of the keys is that of the transducer at the string
    pub parsed : (t : Tree ℕ) (v : Option ℕ) → IsSeries product rules t v ↔ IsStringSeries product moves t string v
    parsed t v = (λ h. IsLeast-same (to t) (from t) h, λ h. IsLeast-same (from t) (to t) h)

pub parse_means :
    {levelled weighted : Bool} {product : ℕ → ℕ → ℕ} (laws : ProductLaws levelled weighted product) (moves : List (StringRule ℕ)) → AreShaped moves → AreLinear moves → AreNondeleting moves →
    (string : List ℕ) (order : List (ℕ × ℕ × ℕ × ℕ)) (rules : List (Rule ℕ)) → IsParseGrammar moves string order rules →
    (t : Tree ℕ) (v : Option ℕ) → IsSeries product rules t v ↔ IsStringSeries product moves t string v
parse_means laws moves shaped linear nondeleting string order rules found = parsed laws moves shaped linear nondeleting string order rules (covers_parse moves string order rules found)
