-- Trees at the variables of a left-hand side, of which a right-hand side names some.
use Rattle.std.specs.Prelude.{◌≡◌, ℕ, ◌<◌, List, [], ◌∷◌, length, map, Bool, nat_eq, refl, Option, None, Some}
use Rattle.std.specs.List.{list_any}
use Rattle.std.proofs.Common.{zero, suc, arith, ap, sym, ◌∙◌, subst, inl, inr, get_or}
use Rattle.tib_lex.specs.Lists.{Has, Each, Distinct}
use Rattle.tib_tree.specs.Trees.{Tree, Trees, none, tree, only}
use Rattle.tib_grammar.specs.Sides.{label, holes, holes_of}
use Rattle.tib_grammar.specs.Run.{rule_at, AreRuns, yields, IsCost}
use Rattle.tib_grammar.specs.Forms.{AreNormal}
use Rattle.tib_grammar.specs.declared.Rule.{Rule}
use Rattle.tib_grammar.proofs.Sides.{holes_of-label}
use Rattle.tib_grammar.proofs.NormalRuns.{split_all, merge_all, none_to, IsLeast-no_states, count-yields, finish}
use Rattle.tib_cost.specs.Semiring.{ProductLaws}
use Rattle.tib_transducer.specs.Rules.{no_variable}
use Rattle.tib_transducer.specs.Run.{Binds, AreBound, pick}
use Rattle.tib_transducer.specs.Range.{AreNumbered}
use Rattle.tib_transducer.specs.declared.Variable.{Variable}
use Rattle.tib_apply.specs.Restrictions.{restriction}
use Rattle.tib_apply.specs.Forward.{deleted, IsAskedCost, IsDeletedCost}
use Rattle.tib_match.proofs.Steps.{one_of, neutral_right, no_trees, no_states, open_cost}
use Rattle.tib_transducer.proofs.Selecting.{Item, keys_of, trees_of, product_of, stays, others, selected, selected-keys, selected-trees, selected-each, stays-keys, stays-each, parted, assemble, keys_long}
use Rattle.tib_lex.proofs.Booleans.{bool_cases}
use Rattle.tib_lex.proofs.Lists.{map_twice}
use Rattle.tib_apply.proofs.Restricting.{IsListed, AreAdmitted, binds}
use Rattle.tib_apply.proofs.Leaves.{map_same_at, each_to}

-- what each variable asks for, and the state at its place
abbrev pub asked : List Variable → List ℕ → List (Option ℕ × ℕ)
asked [] ss = []
asked (x ∷ xs) [] = []
asked (x ∷ xs) (s ∷ ss) = (x.label, s) ∷ asked xs ss

asked_long : (vs : List Variable) (ss : List ℕ) → length ss ≡ length vs → length (asked vs ss) ≡ length vs
asked_long [] ss e = refl
asked_long (v ∷ vs) [] e = absurd (omega arith)
asked_long (v ∷ vs) (s ∷ ss) e = ap suc (asked_long vs ss (omega arith))

asked_at : (vs : List Variable) (ss : List ℕ) (i : ℕ) → length ss ≡ length vs → get_or (asked vs ss) i (None, 0) ≡ ((get_or vs i no_variable).label, get_or ss i 0)
asked_at [] [] i e = refl
asked_at [] (s ∷ ss) i e = absurd (omega arith)
asked_at (v ∷ vs) [] i e = absurd (omega arith)
asked_at (v ∷ vs) (s ∷ ss) zero e = refl
asked_at (v ∷ vs) (s ∷ ss) (suc i) e = asked_at vs ss i (omega arith)

asked_states : (vs : List Variable) (ss : List ℕ) → length ss ≡ length vs → map (λ x. x.1) (asked vs ss) ≡ ss
asked_states [] [] e = refl
asked_states [] (s ∷ ss) e = absurd (omega arith)
asked_states (v ∷ vs) [] e = absurd (omega arith)
asked_states (v ∷ vs) (s ∷ ss) e = ap (λ z. s ∷ z) (asked_states vs ss (omega arith))

-- the variables that are left out, by their places
asked_others : (named : List ℕ) (n : ℕ) (vs : List Variable) (ss : List ℕ) → AreNumbered n vs → length ss ≡ length vs → deleted named vs ss ≡ others named n (asked vs ss)
asked_others named n [] ss a e = refl
asked_others named n (v ∷ vs) [] a e = absurd (omega arith)
asked_others named n (v ∷ vs) (s ∷ ss) a e =
    rw a.0 (elim (bool_cases (list_any (nat_eq n) named)) [
      | inl b ↦ rw b (asked_others named (suc n) vs ss a.1 (omega arith))
      | inr b ↦ rw b (ap (λ z. (v.label, s) ∷ z) (asked_others named (suc n) vs ss a.1 (omega arith)))
    ])

module _
    {levelled weighted : Bool} {product : ℕ → ℕ → ℕ} (laws : ProductLaws levelled weighted product)
    (grammar : List (Rule ℕ)) (normal : AreNormal grammar) where
  -- the tree of an item has the label that is asked for, and its cost is that of a run from the
  -- state that yields it
  pub record IsAsked (x : Item (Option ℕ × ℕ)) : Type 0 where
    pub bound : Binds x.key.0 x.label
    pub is_cost : IsCost product grammar (x.key.1 ∷ []) (tree x.label x.kids none) x.cost

  pub record Asked (keys : List (Option ℕ × ℕ)) (ts : Trees ℕ) (c : ℕ) : Type 0 where
    pub items : List (Item (Option ℕ × ℕ))
    pub each : Each IsAsked items
    pub keys_are : keys_of items ≡ keys
    pub trees : trees_of items ≡ ts
    pub costs : product_of product items ≡ c

  itemize : (vs : List Variable) (ss : List ℕ) (ts : Trees ℕ) (c : ℕ) → AreBound vs ts → IsCost product grammar ss ts c → Asked (asked vs ss) ts c
  itemize [] [] none c b h = record { items = []; each = tt; keys_are = refl; trees = refl; costs = sym (none_to laws grammar c h) }
  itemize [] (s ∷ ss) none c b h = absurd (no_trees laws grammar s ss c h)
  itemize [] ss (tree f kids rest) c b h = absurd b
  itemize (v ∷ vs) ss none c b h = absurd b
  itemize (v ∷ vs) [] (tree f kids rest) c b h = absurd (no_states laws grammar f kids rest c h)
  itemize (v ∷ vs) (s ∷ ss) (tree f kids rest) c b h =
      let p = split_all laws grammar s ss f kids rest c h in
      let more = itemize vs ss rest p.1 b.1 p.3 in
      record {
        items = record { key = (v.label, s); label = f; kids = kids; cost = p.0 } ∷ more.items;
        each = (record { bound = b.0; is_cost = p.2 }, more.each);
        keys_are = ap (λ z. (v.label, s) ∷ z) more.keys_are;
        trees = ap (tree f kids) more.trees;
        costs = ap (product p.0) more.costs ∙ p.4;
      }

  cost_of : (xs : List (Item (Option ℕ × ℕ))) → Each IsAsked xs → IsCost product grammar (map (λ x. x.1) (keys_of xs)) (trees_of xs) (product_of product xs)
  cost_of [] a = (IsLeast-no_states laws grammar).attained.0
  cost_of (x ∷ xs) a =
      merge_all laws grammar x.key.1 (map (λ k. k.1) (keys_of xs)) x.label x.kids (trees_of xs) (product x.cost (product_of product xs))
      (x.cost, product_of product xs, a.0.is_cost, cost_of xs a.1, refl)

  bound_of : (vs : List Variable) (ss : List ℕ) (xs : List (Item (Option ℕ × ℕ))) → length ss ≡ length vs → Each IsAsked xs → keys_of xs ≡ asked vs ss → AreBound vs (trees_of xs)
  bound_of [] ss [] l a e = tt
  bound_of [] ss (x ∷ xs) l a e = absurd (cc)
  bound_of (v ∷ vs) [] xs l a e = absurd (omega arith)
  bound_of (v ∷ vs) (s ∷ ss) [] l a e = absurd (cc)
  bound_of (v ∷ vs) (s ∷ ss) (x ∷ xs) l a e =
      let first : x.key ≡ (v.label, s) = cc e in
      let more : keys_of xs ≡ asked vs ss = cc e in
      (subst (λ (k : Option ℕ × ℕ). Binds k.0 x.label) first a.0.bound, bound_of vs ss xs (omega arith) a.1 more)

  -- a run by its first rule, or any run
  asked_cost : (l : Option ℕ) (q f : ℕ) (kids : Trees ℕ) (c : ℕ) → Binds l f → IsCost product grammar (q ∷ []) (tree f kids none) c → IsAskedCost product grammar l q c
  asked_cost None q f kids c b h = record { runs = h.runs; are_runs = h.are_runs; costs = h.costs }
  asked_cost (Some g) q f kids c b h =
      let p = open_cost laws grammar normal q [] f kids none c h in
      let holes_are : holes_of (rule_at grammar p.rule).right ≡ holes (rule_at grammar p.rule).right.kids = holes_of-label (rule_at grammar p.rule).right.label (rule_at grammar p.rule).right.kids f p.root in
      let outer : p.outer ≡ 0 = none_to laws grammar p.outer p.rest in
      record {
        rule = p.rule;
        below = p.below;
        left = p.left;
        root = p.root ∙ ap label (sym b);
        inner = p.inner;
        runs = record { runs = p.kids.runs; are_runs = subst (λ qs. AreRuns grammar qs p.kids.runs) (sym holes_are) p.kids.are_runs; costs = p.kids.costs };
        costs = sym (neutral_right laws (product (rule_at grammar p.rule).cost p.inner)) ∙ ap (product (product (rule_at grammar p.rule).cost p.inner)) (sym outer) ∙ p.costs;
      }

  record OneAsked (l : Option ℕ) (q c : ℕ) : Type 0 where
    one : Tree ℕ
    bound : Binds l one.label
    is_cost : IsCost product grammar (q ∷ []) (only one) c

  asked_tree : (l : Option ℕ) (q c : ℕ) → IsAskedCost product grammar l q c → OneAsked l q c
  asked_tree None q c h =
      let t = one_of (yields grammar h.runs) (count-yields grammar (q ∷ []) h.runs h.are_runs) in
      record { one = t.0; bound = tt; is_cost = record { runs = h.runs; are_runs = h.are_runs; yielded = t.1; costs = h.costs } }
  asked_tree (Some f) q c h =
      let holes_are : holes_of (rule_at grammar h.rule).right ≡ holes (rule_at grammar h.rule).right.kids = holes_of-label (rule_at grammar h.rule).right.label (rule_at grammar h.rule).right.kids f h.root in
      let kids : Trees ℕ = yields grammar h.runs.runs in
      record {
        one = record { label = f; kids = kids };
        bound = refl;
        is_cost = finish laws grammar normal q f kids c h.rule h.below (record {
          left = h.left;
          root = h.root;
          below = (
            (rule_at grammar h.rule).cost,
            h.inner,
            refl,
            record { runs = h.runs.runs; are_runs = subst (λ qs. AreRuns grammar qs h.runs.runs) holes_are h.runs.are_runs; yielded = refl; costs = h.runs.costs },
            h.costs,
          );
        });
      }

  deleted_cost_of : (xs : List (Item (Option ℕ × ℕ))) → Each IsAsked xs → IsDeletedCost product grammar (keys_of xs) (product_of product xs)
  deleted_cost_of [] a = refl
  deleted_cost_of (x ∷ xs) a = (x.cost, product_of product xs, asked_cost x.key.0 x.key.1 x.label x.kids x.cost a.0.bound a.0.is_cost, deleted_cost_of xs a.1, refl)

  record TreesAsked (keys : List (Option ℕ × ℕ)) (c : ℕ) : Type 0 where
    items : List (Item (Option ℕ × ℕ))
    each : Each IsAsked items
    keys_are : keys_of items ≡ keys
    costs : product_of product items ≡ c

  deleted_trees : (keys : List (Option ℕ × ℕ)) (c : ℕ) → IsDeletedCost product grammar keys c → TreesAsked keys c
  deleted_trees [] c h = record { items = []; each = tt; keys_are = refl; costs = sym h }
  deleted_trees (k ∷ ks) c h =
      let one = asked_tree k.0 k.1 h.0 h.2 in
      let more = deleted_trees ks h.1 h.3 in
      record {
        items = record { key = k; label = one.one.label; kids = one.one.kids; cost = h.0 } ∷ more.items;
        each = (record { bound = one.bound; is_cost = one.is_cost }, more.each);
        keys_are = ap (λ z. k ∷ z) more.keys_are;
        costs = ap (product h.0) more.costs ∙ h.4;
      }

  -- runs for all variables are runs for the named ones and for those that are left out
  pub record Parted (named : List ℕ) (vs : List Variable) (ss : List ℕ) (args : Trees ℕ) (c : ℕ) : Type 0 where
    pub one : ℕ
    pub two : ℕ
    pub first : IsCost product grammar (map (λ i. get_or ss i 0) named) (pick args named) one
    pub second : IsDeletedCost product grammar (deleted named vs ss) two
    pub costs : product one two ≡ c

  states_of : (named : List ℕ) (vs : List Variable) (ss : List ℕ) → length ss ≡ length vs → map (λ x. x.1) (map (λ i. get_or (asked vs ss) i (None, 0)) named) ≡ map (λ i. get_or ss i 0) named
  states_of named vs ss long =
      map_twice (λ (x : Option ℕ × ℕ). x.1) (λ i. get_or (asked vs ss) i (None, 0)) named
      ∙ map_same_at (λ i. (get_or (asked vs ss) i (None, 0)).1) (λ i. get_or ss i 0) named (λ i h. ap (λ (x : Option ℕ × ℕ). x.1) (asked_at vs ss i long))

  pub part :
      (named : List ℕ) (vs : List Variable) (ss : List ℕ) (args : Trees ℕ) (c : ℕ) → Distinct named → Each (λ i. i < length vs) named → AreNumbered 0 vs → length ss ≡ length vs →
      AreBound vs args → IsCost product grammar ss args c → Parted named vs ss args c
  part named vs ss args c d e numbered long b h =
      let x = itemize vs ss args c b h in
      let items_long : length x.items ≡ length vs = sym (keys_long x.items) ∙ ap length x.keys_are ∙ asked_long vs ss long in
      let inside : Each (λ i. i < length x.items) named = each_to (sym items_long) named e in
      let zs : List (Item (Option ℕ × ℕ)) = selected (None, 0) x.items named in
      let ys : List (Item (Option ℕ × ℕ)) = stays named 0 x.items in
      let states : map (λ k. k.1) (keys_of zs) ≡ map (λ i. get_or ss i 0) named =
      ap (λ (ks : List (Option ℕ × ℕ)). map (λ k. k.1) ks) (selected-keys (None, 0) x.items named ∙ ap (λ (ks : List (Option ℕ × ℕ)). map (λ i. get_or ks i (None, 0)) named) x.keys_are)
      ∙ states_of named vs ss long
      in
      let trees : trees_of zs ≡ pick args named = selected-trees (None, 0) x.items named inside ∙ ap (λ ts. pick ts named) x.trees in
      let keys : keys_of ys ≡ deleted named vs ss = stays-keys named 0 x.items ∙ ap (others named 0) x.keys_are ∙ sym (asked_others named 0 vs ss numbered long) in
      record {
        one = product_of product zs;
        two = product_of product ys;
        first = subst (λ ts. IsCost product grammar (map (λ i. get_or ss i 0) named) ts (product_of product zs)) trees
            (subst (λ qs. IsCost product grammar qs (trees_of zs) (product_of product zs)) states (cost_of zs (selected-each (None, 0) IsAsked x.items named x.each inside)));
        second = subst (λ ks. IsDeletedCost product grammar ks (product_of product ys)) keys (deleted_cost_of ys (stays-each IsAsked named 0 x.items x.each));
        costs = sym (parted (None, 0) laws named x.items d inside) ∙ x.costs;
      }

  -- and back
  keep :
      (labels named : List ℕ) (vs : List Variable) (ss : List ℕ) (ts : Trees ℕ) (c : ℕ) → Each (λ i. i < length vs) named → Each (IsListed labels) vs → length ss ≡ length vs →
      AreAdmitted labels (map (λ i. restriction labels (get_or vs i no_variable).label) named) ts → IsCost product grammar (map (λ i. get_or ss i 0) named) ts c →
      Asked (map (λ i. get_or (asked vs ss) i (None, 0)) named) ts c
  keep labels [] vs ss none c e l long a h = record { items = []; each = tt; keys_are = refl; trees = refl; costs = sym (none_to laws grammar c h) }
  keep labels [] vs ss (tree f kids rest) c e l long a h = absurd a
  keep labels (i ∷ is) vs ss none c e l long a h = absurd a
  keep labels (i ∷ is) vs ss (tree f kids rest) c e l long a h =
      let p = split_all laws grammar (get_or ss i 0) (map (λ i. get_or ss i 0) is) f kids rest c h in
      let more = keep labels is vs ss rest p.1 e.1 l long a.1 p.3 in
      record {
        items = record { key = ((get_or vs i no_variable).label, get_or ss i 0); label = f; kids = kids; cost = p.0 } ∷ more.items;
        each = (record { bound = binds labels (get_or vs i no_variable).label f (listed_at vs i l e.0) a.0; is_cost = p.2 }, more.each);
        keys_are = ap (λ (x : Option ℕ × ℕ). x ∷ keys_of more.items) (sym (asked_at vs ss i long)) ∙ ap (λ (xs : List (Option ℕ × ℕ)). get_or (asked vs ss) i (None, 0) ∷ xs) more.keys_are;
        trees = ap (tree f kids) more.trees;
        costs = ap (product p.0) more.costs ∙ p.4;
      }
    where
      listed_at : (vs : List Variable) (i : ℕ) → Each (IsListed labels) vs → i < length vs → (g : ℕ) → (get_or vs i no_variable).label ≡ Some g → Has labels g
      listed_at [] i l b g h = absurd (omega arith)
      listed_at (v ∷ vs) zero l b g h = l.0 g h
      listed_at (v ∷ vs) (suc i) l b g h = listed_at vs i l.1 (omega arith) g h

  pub record Whole (named : List ℕ) (vs : List Variable) (ss : List ℕ) (ts : Trees ℕ) (c : ℕ) : Type 0 where
    pub args : Trees ℕ
    pub bound : AreBound vs args
    pub picked : pick args named ≡ ts
    pub is_cost : IsCost product grammar ss args c

  pub whole :
      (labels named : List ℕ) (vs : List Variable) (ss : List ℕ) (ts : Trees ℕ) (a b : ℕ) → Distinct named → Each (λ i. i < length vs) named → AreNumbered 0 vs →
      Each (IsListed labels) vs → length ss ≡ length vs → AreAdmitted labels (map (λ i. restriction labels (get_or vs i no_variable).label) named) ts →
      IsCost product grammar (map (λ i. get_or ss i 0) named) ts a → IsDeletedCost product grammar (deleted named vs ss) b → Whole named vs ss ts (product a b)
  whole labels named vs ss ts a b d e numbered l long ad h k =
      let x = keep labels named vs ss ts a e l long ad h in
      let y = deleted_trees (deleted named vs ss) b k in
      let z = assemble (None, 0) laws IsAsked named (asked vs ss) x.items y.items d (each_to (sym (asked_long vs ss long)) named e) x.each y.each x.keys_are
      (y.keys_are ∙ asked_others named 0 vs ss numbered long)
      in
      let costs : product_of product z.items ≡ product a b = z.costs ∙ ap (λ n. product n (product_of product y.items)) x.costs ∙ ap (product a) y.costs in
      let states : map (λ k. k.1) (keys_of z.items) ≡ ss = ap (λ (ks : List (Option ℕ × ℕ)). map (λ k. k.1) ks) z.keys ∙ asked_states vs ss long in
      record {
        args = trees_of z.items;
        bound = bound_of vs ss z.items long z.each z.keys;
        picked = z.picked ∙ x.trees;
        is_cost = subst (λ n. IsCost product grammar ss (trees_of z.items) n) costs
            (subst (λ qs. IsCost product grammar qs (trees_of z.items) (product_of product z.items)) states (cost_of z.items z.each));
      }
