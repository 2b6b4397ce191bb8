-- Runs of a transducer one by one, in another order.
use Rattle.std.specs.Prelude.{◌≡◌, ℕ, ◌<◌, List, [], ◌∷◌, length, map, Bool, refl}
use Rattle.std.proofs.Common.{zero, suc, arith, ap, sym, ◌∙◌, subst, get_or}
use Rattle.std.proofs.lemmas.List.{length-map, ext_get_or}
use Rattle.tib_cost.specs.Semiring.{ProductLaws}
use Rattle.tib_cost.proofs.Times.{product-zero}
use Rattle.tib_lex.specs.Lists.{Has, Each, Distinct}
use Rattle.tib_lex.proofs.Lists.{Each-from, map_twice, map_same}
use Rattle.tib_lex.proofs.Members.{distinct_from, has_at, each_of}
use Rattle.tib_lex.proofs.Places.{get_map, at_map}
use Rattle.tib_tree.specs.Trees.{Tree, Trees, none, tree, count, only, join, join-none}
use Rattle.tib_grammar.specs.Sides.{fill, holes_of}
use Rattle.tib_grammar.proofs.Sides.{count-fill}
use Rattle.tib_transducer.specs.Rules.{transducer_rule, states_in}
use Rattle.tib_transducer.specs.Run.{AreTransducerRuns, Reads, outputs, transducer_cost, pick, tree_at}
use Rattle.tib_transducer.specs.Series.{IsTransducerCost}
use Rattle.tib_transducer.specs.declared.TransducerRule.{TransducerRule}
use Rattle.tib_transducer.proofs.Selecting.{Item, keys_of, trees_of, product_of, others, all_named, assemble, picked_same, keys_long, trees_long}
use Rattle.tib_transducer.proofs.Itemizing.{one_more, count-outputs}

-- trees that are one are those of some tree
pub one_of : (ts : Trees ℕ) → count ts ≡ 1 → (t : Tree ℕ) × (ts ≡ only t)
one_of none e = absurd (omega arith)
one_of (tree f kids none) e = (record { label = f; kids = kids }, refl)
one_of (tree f kids (tree g ks more)) e = absurd (omega arith)

-- a rule outputs one tree
pub outputs_one : (moves : List (TransducerRule ℕ)) (n : ℕ) (runs : Trees ℕ) → AreTransducerRuns moves (states_in (transducer_rule moves n).right) runs → count (fill (only (transducer_rule moves n).right) (outputs moves runs)) ≡ 1
outputs_one moves n runs a =
    count-fill (only (transducer_rule moves n).right) (outputs moves runs)
    (count-outputs moves (states_in (transducer_rule moves n).right) runs a ∙ length-map (holes_of (transducer_rule moves n).right) (λ x. x.state))

-- two lists of places, of which each names for each of its places where that is in the other
pub record AreTurned (is js : List ℕ) : Type 0 where
  pub there : (j : ℕ) → j < length js → (get_or js j 0 < length is) × (get_or is (get_or js j 0) 0 ≡ j)
  pub back : (i : ℕ) → i < length is → (get_or is i 0 < length js) × (get_or js (get_or is i 0) 0 ≡ i)

-- a state, and the tree that is read from it
abbrev Key : Type 0
Key = ℕ × Tree ℕ

abbrev no_key : Key
no_key = (0, record { label = 0; kids = none })

-- the trees of some keys
abbrev read_trees : List Key → Trees ℕ
read_trees [] = none
read_trees (k ∷ ks) = tree k.1.label k.1.kids (read_trees ks)

-- those at some places
read_at : (ks : List Key) (js : List ℕ) → Each (λ j. j < length ks) js → read_trees (map (λ j. get_or ks j no_key) js) ≡ pick (read_trees ks) js
read_at ks [] h = refl
read_at ks (j ∷ js) h = at ks j (read_trees (map (λ j. get_or ks j no_key) js)) h.0 ∙ ap (join (tree_at (read_trees ks) j)) (read_at ks js h.1)
  where
    at : (ks : List Key) (j : ℕ) (more : Trees ℕ) → j < length ks → tree (get_or ks j no_key).1.label (get_or ks j no_key).1.kids more ≡ join (tree_at (read_trees ks) j) more
    at [] j more b = absurd (omega arith)
    at (k ∷ ks) zero more b = refl
    at (k ∷ ks) (suc j) more b = at ks j more (omega arith)

module _ {levelled weighted : Bool} {product : ℕ → ℕ → ℕ} (laws : ProductLaws levelled weighted product) (moves : List (TransducerRule ℕ)) where
  -- the cost of an item is that of a run from the state of its key that reads the tree of its key
  -- and outputs its tree
  abbrev IsRun : Item Key → Type 0
  IsRun x = IsTransducerCost product moves (x.key.0 ∷ []) (only x.key.1) (tree x.label x.kids none) x.cost

  record Itemized (ps : List ℕ) (ts us : Trees ℕ) (c : ℕ) : Type 0 where
    items : List (Item Key)
    each : Each IsRun items
    states : map (λ k. k.0) (keys_of items) ≡ ps
    reads : read_trees (keys_of items) ≡ ts
    trees : trees_of items ≡ us
    costs : product_of product items ≡ c

  itemize : (runs : Trees ℕ) (ps : List ℕ) (ts : Trees ℕ) → AreTransducerRuns moves ps runs → Reads moves runs ts → Itemized ps ts (outputs moves runs) (transducer_cost product moves runs)
  itemize none [] none a d = record { items = []; each = tt; states = refl; reads = refl; trees = refl; costs = refl }
  itemize none [] (tree f kids more) a d = absurd d
  itemize none (p ∷ ps) ts a d = absurd a
  itemize (tree n runs rest) [] ts a d = absurd a
  itemize (tree n runs rest) (p ∷ ps) none a d = absurd d
  itemize (tree n runs rest) (p ∷ ps) (tree f kids more) a d =
      let u = one_of (fill (only (transducer_rule moves n).right) (outputs moves runs)) (outputs_one moves n runs a.2) in
      let x = itemize rest ps more a.3 d.1 in
      let c : ℕ = product (transducer_rule moves n).cost (transducer_cost product moves runs) in
      record {
        items = record { key = (p, record { label = f; kids = kids }); label = u.0.label; kids = u.0.kids; cost = c } ∷ x.items;
        each = (
          record {
            runs = tree n runs none;
            are_runs = (a.0, a.1, a.2, tt);
            reads = (d.0, tt);
            output = join-none (fill (only (transducer_rule moves n).right) (outputs moves runs)) ∙ u.1;
            costs = product-zero laws c;
          },
          x.each,
        );
        states = ap (λ qs. p ∷ qs) x.states;
        reads = ap (tree f kids) x.reads;
        trees = ap (tree u.0.label u.0.kids) x.trees ∙ ap (λ ts. join ts (outputs moves rest)) (sym u.1);
        costs = ap (product c) x.costs;
      }

  cost_of : (xs : List (Item Key)) → Each IsRun xs → IsTransducerCost product moves (map (λ k. k.0) (keys_of xs)) (read_trees (keys_of xs)) (trees_of xs) (product_of product xs)
  cost_of [] e = record { runs = none; are_runs = tt; reads = tt; output = refl; costs = refl }
  cost_of (x ∷ xs) e =
      one_more laws moves x.key.0 (map (λ k. k.0) (keys_of xs)) x.key.1 (read_trees (keys_of xs)) (tree x.label x.kids none) (trees_of xs) x.cost (product_of product xs) e.0 (cost_of xs e.1)

  -- runs in the order of the one list of places, put into the order of the other
  pub reorder :
      (is js : List ℕ) → AreTurned is js → (ps : List ℕ) (ts us : Trees ℕ) (c : ℕ) → length ps ≡ length is → count us ≡ length js →
      IsTransducerCost product moves ps ts (pick us is) c → IsTransducerCost product moves (map (λ j. get_or ps j 0) js) (pick ts js) us c
  reorder is js turned ps ts us c long counted h =
      let x = itemize h.runs ps ts h.are_runs h.reads in
      let ys : List Key = keys_of x.items in
      let ks : List Key = map (λ j. get_or ys j no_key) js in
      let as_many : length ys ≡ length is = sym (length-map ys (λ (k : Key). k.0)) ∙ ap length x.states ∙ long in
      let ks_long : length ks ≡ length js = length-map js (λ (j : ℕ). get_or ys j no_key) in
      let distinct : Distinct is = distinct_from is 0 (λ i j a b e. sym (turned.back i a).1 ∙ ap (λ n. get_or js n 0) e ∙ (turned.back j b).1) in
      let within : Each (λ i. i < length ks) is = Each-from (λ i. i < length ks) is 0 (λ n b. omega (arith, (turned.back n b).0, ks_long)) in
      let inside : Each (λ j. j < length ys) js = Each-from (λ j. j < length ys) js 0 (λ n b. omega (arith, (turned.there n b).0, as_many)) in
      let at : (i : ℕ) → i < length ys → get_or ys i no_key ≡ get_or (map (λ (n : ℕ). get_or ks n no_key) is) i no_key =
      λ i b.
      let near : i < length is = omega (arith, b, as_many) in
      let t = turned.back i near in
      ap (λ n. get_or ys n no_key) (sym t.1) ∙ sym (get_map (λ (j : ℕ). get_or ys j no_key) js (get_or is i 0) no_key 0 t.0) ∙ sym (get_map (λ (n : ℕ). get_or ks n no_key) is i no_key 0 near)
      in
      let keys : ys ≡ map (λ (n : ℕ). get_or ks n no_key) is =
      ext_get_or no_key ys (map (λ (n : ℕ). get_or ks n no_key) is) (as_many ∙ sym (length-map is (λ (n : ℕ). get_or ks n no_key))) at
      in
      let stand : (j : ℕ) → j < length js → Has is j = λ j b. let t = turned.there j b in subst (Has is) t.1 (has_at is (get_or js j 0) 0 t.0) in
      let empty : others is 0 ks ≡ [] = all_named is 0 ks (λ j b. subst (Has is) (omega arith) (stand j (omega (arith, b, ks_long)))) in
      let z = assemble no_key laws IsRun is ks x.items [] distinct within x.each tt keys (sym empty) in
      let many : count (trees_of z.items) ≡ length js = trees_long z.items ∙ sym (keys_long z.items) ∙ ap length z.keys ∙ ks_long in
      let same : trees_of z.items ≡ us =
      picked_same is (trees_of z.items) us (many ∙ sym counted) (Each-from (λ i. i < count (trees_of z.items)) is 0 (λ n b. omega (arith, (turned.back n b).0, many)))
      (λ i b. stand i (omega (arith, b, many))) (z.picked ∙ x.trees ∙ h.output)
      in
      let cost : product_of product z.items ≡ c = z.costs ∙ product-zero laws (product_of product x.items) ∙ x.costs ∙ h.costs in
      let states : map (λ (k : Key). k.0) (keys_of z.items) ≡ map (λ j. get_or ps j 0) js =
      ap (map (λ (k : Key). k.0)) z.keys ∙ map_twice (λ (k : Key). k.0) (λ (j : ℕ). get_or ys j no_key) js
      ∙ map_same (λ (j : ℕ). (get_or ys j no_key).0) (λ j. get_or ps j 0) js
      (each_of (λ j. (get_or ys j no_key).0 ≡ get_or ps j 0) js (λ j _. sym (at_map (λ (k : Key). k.0) ys j no_key) ∙ ap (λ (qs : List ℕ). get_or qs j 0) x.states))
      in
      let reads : read_trees (keys_of z.items) ≡ pick ts js = ap read_trees z.keys ∙ read_at ys js inside ∙ ap (λ vs. pick vs js) x.reads in
      subst (λ n. IsTransducerCost product moves (map (λ j. get_or ps j 0) js) (pick ts js) us n) cost
      (subst (λ vs. IsTransducerCost product moves (map (λ j. get_or ps j 0) js) (pick ts js) vs (product_of product z.items)) same
      (subst (λ vs. IsTransducerCost product moves (map (λ j. get_or ps j 0) js) vs (trees_of z.items) (product_of product z.items)) reads
      (subst (λ qs. IsTransducerCost product moves qs (read_trees (keys_of z.items)) (trees_of z.items) (product_of product z.items)) states (cost_of z.items z.each))))
