-- Runs of a grammar and of a transducer, one by one.
use Rattle.std.specs.Prelude.{◌≡◌, ℕ, ◌<◌, List, [], ◌∷◌, length, map, Bool, refl}
use Rattle.std.proofs.Common.{arith, ap, sym, ◌∙◌, subst, get_or}
use Rattle.tib_lex.specs.Lists.{Has, Each, Distinct}
use Rattle.tib_tree.specs.Trees.{Tree, Trees, none, tree, count, only, join, join-none, count-join}
use Rattle.tib_grammar.specs.Sides.{fill, holes_of}
use Rattle.tib_grammar.proofs.Sides.{count-fill}
use Rattle.std.proofs.lemmas.List.{length-map}
use Rattle.tib_grammar.specs.Run.{rule_at, yields, cost, IsCost}
use Rattle.tib_grammar.specs.declared.Rule.{Rule}
use Rattle.tib_grammar.proofs.NormalRuns.{split_all, merge_all, none_to, IsLeast-no_states, count-yields, no_states}
use Rattle.tib_cost.specs.Semiring.{ProductLaws}
use Rattle.tib_cost.proofs.Times.{product-zero}
use Rattle.tib_transducer.specs.Rules.{transducer_rule, variables_of, states_in, variables_in}
use Rattle.tib_transducer.specs.Run.{AreTransducerRuns, Reads, AreBound, outputs, transducer_cost, pick}
use Rattle.tib_transducer.specs.Series.{IsTransducerCost}
use Rattle.tib_transducer.specs.declared.TransducerRule.{TransducerRule}
use Rattle.tib_transducer.proofs.Selecting.{Item, keys_of, trees_of, product_of, others, all_named, assemble, picked_same, keys_long, trees_long}

-- the cost of an item is that of a run from its key that yields its tree
abbrev pub IsItem : (ℕ → ℕ → ℕ) → List (Rule ℕ) → Item ℕ → Type 0
IsItem product rules x = IsCost product rules (x.key ∷ []) (tree x.label x.kids none) x.cost

pub record Itemized (product : ℕ → ℕ → ℕ) (rules : List (Rule ℕ)) (qs : List ℕ) (ts : Trees ℕ) (c : ℕ) : Type 0 where
  pub items : List (Item ℕ)
  pub each : Each (IsItem product rules) items
  pub keys : keys_of items ≡ qs
  pub trees : trees_of items ≡ ts
  pub costs : product_of product items ≡ c

module _ {levelled weighted : Bool} {product : ℕ → ℕ → ℕ} (laws : ProductLaws levelled weighted product) where
  module _ (rules : List (Rule ℕ)) where
    no_trees : (q : ℕ) (qs : List ℕ) (c : ℕ) → IsCost product rules (q ∷ qs) none c → ⊥
    no_trees q qs c h = let e = ap count h.yielded in omega (arith, e, count-yields rules (q ∷ qs) h.runs h.are_runs)

    pub itemize : (qs : List ℕ) (ts : Trees ℕ) (c : ℕ) → IsCost product rules qs ts c → Itemized product rules qs ts c
    itemize [] none c h = record { items = []; each = tt; keys = refl; trees = refl; costs = sym (none_to laws rules c h) }
    itemize [] (tree f kids rest) c h = absurd (no_states rules f kids rest c h)
    itemize (q ∷ qs) none c h = absurd (no_trees q qs c h)
    itemize (q ∷ qs) (tree f kids rest) c h =
        let p = split_all laws rules q qs f kids rest c h in
        let more = itemize qs rest p.1 p.3 in
        record {
          items = record { key = q; label = f; kids = kids; cost = p.0 } ∷ more.items;
          each = (p.2, more.each);
          keys = ap (λ z. q ∷ z) more.keys;
          trees = ap (tree f kids) more.trees;
          costs = ap (product p.0) more.costs ∙ p.4;
        }

    pub cost_of : (xs : List (Item ℕ)) → Each (IsItem product rules) xs → IsCost product rules (keys_of xs) (trees_of xs) (product_of product xs)
    cost_of [] a = (IsLeast-no_states laws rules).attained.0
    cost_of (x ∷ xs) a =
        merge_all laws rules x.key (keys_of xs) x.label x.kids (trees_of xs) (product x.cost (product_of product xs))
        (x.cost, product_of product xs, a.0, cost_of xs a.1, refl)

    -- runs in an order of places that leaves none out
    pub restore :
        (vars ks : List ℕ) (ts : Trees ℕ) (c : ℕ) → Distinct vars → Each (λ i. i < length ks) vars → ((i : ℕ) → i < length ks → Has vars i) → count ts ≡ length ks →
        IsCost product rules (map (λ i. get_or ks i 0) vars) (pick ts vars) c → IsCost product rules ks ts c
    restore vars ks ts c d e h long k =
        let x = itemize (map (λ i. get_or ks i 0) vars) (pick ts vars) c k in
        let empty : others vars 0 ks ≡ [] = all_named vars 0 ks (λ j b. subst (Has vars) (omega arith) (h j b)) in
        let z = assemble 0 laws (IsItem product rules) vars ks x.items [] d e x.each tt x.keys (sym empty) in
        let counted : count (trees_of z.items) ≡ count ts = trees_long z.items ∙ sym (keys_long z.items) ∙ ap length z.keys ∙ sym long in
        let same : trees_of z.items ≡ ts =
        picked_same vars (trees_of z.items) ts counted (each_to (counted ∙ long) vars e) (λ i b. h i (omega (arith, b, counted, long))) (z.picked ∙ x.trees)
        in
        let costs : product_of product z.items ≡ c = z.costs ∙ product-zero laws (product_of product x.items) ∙ x.costs in
        subst (λ n. IsCost product rules ks ts n) costs
        (subst (λ us. IsCost product rules ks us (product_of product z.items)) same
        (subst (λ qs. IsCost product rules qs (trees_of z.items) (product_of product z.items)) z.keys (cost_of z.items z.each)))
      where
        each_to : {n m : ℕ} → n ≡ m → (is : List ℕ) → Each (λ i. i < m) is → Each (λ i. i < n) is
        each_to e [] f = tt
        each_to e (i ∷ is) f = (omega (arith, f.0), each_to e is f.1)

  -- one more run of a transducer
  pub one_more :
      (moves : List (TransducerRule ℕ)) (p : ℕ) (ps : List ℕ) (t : Tree ℕ) (ts one us : Trees ℕ) (a b : ℕ) → IsTransducerCost product moves (p ∷ []) (only t) one a →
      IsTransducerCost product moves ps ts us b → IsTransducerCost product moves (p ∷ ps) (tree t.label t.kids ts) (join one us) (product a b)
  one_more moves p ps t ts one us a b h k = by h.runs h.are_runs h.reads h.output h.costs
    where
      by :
          (runs : Trees ℕ) → AreTransducerRuns moves (p ∷ []) runs → Reads moves runs (only t) → outputs moves runs ≡ one → transducer_cost product moves runs ≡ a →
          IsTransducerCost product moves (p ∷ ps) (tree t.label t.kids ts) (join one us) (product a b)
      by none r d o c = absurd r
      by (tree n below (tree m more still)) r d o c = absurd r.3
      by (tree n below none) r d o c = record {
        runs = tree n below k.runs;
        are_runs = (r.0, r.1, r.2, k.are_runs);
        reads = (d.0, k.reads);
        output = ap (λ x. join x (outputs moves k.runs)) (sym (join-none (fill (only (transducer_rule moves n).right) (outputs moves below))) ∙ o) ∙ ap (join one) k.output;
        costs = ap (λ x. product x (transducer_cost product moves k.runs)) (sym (product-zero laws (product (transducer_rule moves n).cost (transducer_cost product moves below))) ∙ c) ∙ ap (product a) k.costs;
      }

  -- a run of a transducer by its rule
  pub one_run :
      (moves : List (TransducerRule ℕ)) (p n : ℕ) (t : Tree ℕ) (args us : Trees ℕ) (b : ℕ) → n < length moves → (transducer_rule moves n).state ≡ p →
      AreBound (variables_of (transducer_rule moves n).left) args → fill (only (transducer_rule moves n).left) args ≡ only t →
      IsTransducerCost product moves (states_in (transducer_rule moves n).right) (pick args (variables_in (transducer_rule moves n).right)) us b →
      IsTransducerCost product moves (p ∷ []) (only t) (fill (only (transducer_rule moves n).right) us) (product (transducer_rule moves n).cost b)
  one_run moves p n t args us b below state bound filled h = record {
    runs = tree n h.runs none;
    are_runs = (below, state, h.are_runs, tt);
    reads = (record { args = args; bound = bound; filled = filled; below = h.reads }, tt);
    output = join-none (fill (only (transducer_rule moves n).right) (outputs moves h.runs)) ∙ ap (fill (only (transducer_rule moves n).right)) h.output;
    costs = product-zero laws (product (transducer_rule moves n).cost (transducer_cost product moves h.runs)) ∙ ap (product (transducer_rule moves n).cost) h.costs;
  }

-- as many trees are output as there are states
pub count-outputs : (moves : List (TransducerRule ℕ)) (ps : List ℕ) (runs : Trees ℕ) → AreTransducerRuns moves ps runs → count (outputs moves runs) ≡ length ps
count-outputs moves [] none a = refl
count-outputs moves [] (tree n runs rest) a = absurd a
count-outputs moves (p ∷ ps) none a = absurd a
count-outputs moves (p ∷ ps) (tree n runs rest) a =
    count-join (fill (only (transducer_rule moves n).right) (outputs moves runs)) (outputs moves rest)
    ∙ omega (
      arith,
      count-outputs moves ps rest a.3,
      count-fill (only (transducer_rule moves n).right) (outputs moves runs) (count-outputs moves (states_in (transducer_rule moves n).right) runs a.2 ∙ length-map (holes_of (transducer_rule moves n).right) (λ x. x.state)),
    )

-- a rule, runs below it, and runs beside it
pub joined :
    (product : ℕ → ℕ → ℕ) (rules : List (Rule ℕ)) (k j : ℕ) (ks : List ℕ) (args more : Trees ℕ) (x y : ℕ) → j < length rules → (rule_at rules j).left ≡ k →
    IsCost product rules (holes_of (rule_at rules j).right) args x → IsCost product rules ks more y →
    IsCost product rules (k ∷ ks) (join (fill (only (rule_at rules j).right) args) more) (product (product (rule_at rules j).cost x) y)
joined product rules k j ks args more x y b left below beside = record {
  runs = tree j below.runs beside.runs;
  are_runs = (b, left, below.are_runs, beside.are_runs);
  yielded = ap (λ ts. join (fill (only (rule_at rules j).right) ts) (yields rules beside.runs)) below.yielded
      ∙ ap (join (fill (only (rule_at rules j).right) args)) beside.yielded;
  costs = ap (λ z. product (product (rule_at rules j).cost z) (cost product rules beside.runs)) below.costs
      ∙ ap (product (product (rule_at rules j).cost x)) beside.costs;
}
