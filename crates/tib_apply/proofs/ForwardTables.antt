-- Forward application over tables is forward application, and what its hunt returns.
use Rattle.std.specs.Prelude.{◌≡◌, ℕ, ◌+◌, ◌≤◌, List, [], ◌∷◌, length, map, Bool, Option, None, Some}
use Rattle.std.proofs.Common.{zero, suc, arith, subst}
use Rattle.tib_lex.specs.Lists.{total}
use Rattle.tib_grammar.specs.GrammarOf.{GrammarOf, named_rule}
use Rattle.tib_grammar.specs.declared.Rule.{Rule}
use Rattle.tib_cost.specs.Semiring.{ProductLaws}
use Rattle.tib_cost.specs.Least.{IsLeast}
use Rattle.tib_cost.proofs.Least.{IsLeast-one, IsLeast-products, IsLeast-unique}
use Rattle.tib_lex.proofs.Lists.{length_map}
use Rattle.tib_expand.specs.Reached.{AfterRounds, IsNew, AreEdges, IsReachedSet, IsBeyond}
use Rattle.tib_expand.specs.Keys.{key_parts}
use Rattle.tib_key_edges.proofs.Limits.{each_counts}
use Rattle.tib_expand.proofs.Members.{Lists-to}
use Rattle.tib_transducer.specs.TransducerOf.{TransducerOf}
use Rattle.tib_transducer.specs.Rules.{transducer_rule, variables_of, variables_in}
use Rattle.tib_transducer.specs.declared.TransducerRule.{TransducerRule}
use Rattle.tib_apply.specs.KeyGrammars.{key_at}
use Rattle.tib_apply.specs.Forward.{IsForwardEdge, IsAskedCost, IsDeletedCost, deleted}
use Rattle.tib_apply.specs.LeastRuns.{AreLeastRuns, asked_in, deleted_in}
use Rattle.tib_apply.specs.Operations.{key_entries, edge_parts, key_operation, forward_image}
use Rattle.tib_apply.specs.TableEdges.{IsTableEdge, table_image, AreForwardEdges}
use Rattle.tib_apply.specs.declared.deleting.LeastRuns.{LeastRuns}

-- two definitions of the same edges reach the same
module _
    {O : Type 0} (One Two : ℕ × ℕ × ℕ → O → Rule (ℕ × ℕ × ℕ) → Type 0) (to : (k : ℕ × ℕ × ℕ) (o : O) (e : Rule (ℕ × ℕ × ℕ)) → One k o e → Two k o e)
    (from : (k : ℕ × ℕ × ℕ) (o : O) (e : Rule (ℕ × ℕ × ℕ)) → Two k o e → One k o e) where
  new_to : (old : List (ℕ × ℕ × ℕ)) (first : ℕ) (k : ℕ × ℕ × ℕ) → IsNew (key_operation One) old first k → IsNew (key_operation Two) old first k
  new_to old first k h = ((h.0.0, h.0.1, h.0.2, (h.0.3.0, h.0.3.1, to (key_at old h.0.0) h.0.3.0 h.0.3.1 h.0.3.2, h.0.3.3)), h.1)

  new_from : (old : List (ℕ × ℕ × ℕ)) (first : ℕ) (k : ℕ × ℕ × ℕ) → IsNew (key_operation Two) old first k → IsNew (key_operation One) old first k
  new_from old first k h = ((h.0.0, h.0.1, h.0.2, (h.0.3.0, h.0.3.1, from (key_at old h.0.0) h.0.3.0 h.0.3.1 h.0.3.2, h.0.3.3)), h.1)

  after_to : (rounds expanded : ℕ) (order : List (ℕ × ℕ × ℕ)) → AfterRounds (key_operation One) rounds expanded order → AfterRounds (key_operation Two) rounds expanded order
  after_to zero expanded order h = h
  after_to (suc rounds) expanded order (old, first, new, before, is, at, made) =
      (old, first, new, after_to rounds first old before, (is.0, λ k. (λ h. new_to old first k ((is.1 k).0 h), λ h. (is.1 k).1 (new_from old first k h))), at, made)

  edges_to : (order : List (ℕ × ℕ × ℕ)) (n : ℕ) (es : List (Rule (ℕ × ℕ × ℕ))) → AreEdges (key_operation One) order n es → AreEdges (key_operation Two) order n es
  edges_to order zero es h = h
  edges_to order (suc n) es (front, last, is, before, l) =
      (front, last, is, edges_to order n front before, Lists-to (One (key_at order n)) (Two (key_at order n)) (to (key_at order n)) (from (key_at order n)) last l)

  pub set_to : (order : List (ℕ × ℕ × ℕ)) (es : List (Rule (ℕ × ℕ × ℕ))) → IsReachedSet (key_operation One) order es → IsReachedSet (key_operation Two) order es
  set_to order es h =
      ((h.0.0, h.0.1, after_to h.0.0 h.0.1 order h.0.2, λ k is. h.0.3 k (new_from order h.0.1 k is)), edges_to order (length order) es h.1)

-- the tables hold the least costs
module _
    {levelled weighted : Bool} {product : ℕ → ℕ → ℕ} (laws : ProductLaws levelled weighted product) (grammar : List (Rule ℕ)) (moves : List (TransducerRule ℕ))
    (runs : LeastRuns) (least : AreLeastRuns product grammar runs) where
  asked_least : (l : Option ℕ) (q : ℕ) → IsLeast (IsAskedCost product grammar l q) (asked_in runs l q)
  asked_least None q = least.insides q
  asked_least (Some f) q = least.begun q f

  deleted_least : (xs : List (Option ℕ × ℕ)) → IsLeast (IsDeletedCost product grammar xs) (deleted_in product runs xs)
  deleted_least [] = IsLeast-one 0
  deleted_least (x ∷ xs) = IsLeast-products laws (asked_least x.0 x.1) (deleted_least xs)

  abbrev left_out_of : ℕ × List ℕ → List (Option ℕ × ℕ)
  left_out_of o = deleted (variables_in (transducer_rule moves o.0).right) (variables_of (transducer_rule moves o.0).left) o.1

  table_to : (k : ℕ × ℕ × ℕ) (o : ℕ × List ℕ) (e : Rule (ℕ × ℕ × ℕ)) → IsTableEdge product grammar moves runs k o e → IsForwardEdge product grammar moves k o e
  table_to k o e h = record {
    below = h.below;
    state = h.state;
    root = h.root;
    is_root = h.is_root;
    admitted = h.admitted;
    matched = h.matched;
    is_match = h.is_match;
    deleted_cost = h.deleted_cost;
    is_deleted_cost = subst (IsLeast (IsDeletedCost product grammar (left_out_of o))) h.is_deleted_cost (deleted_least (left_out_of o));
    left = h.left;
    right = h.right;
    costs = h.costs;
    within = h.within;
  }

  table_from : (k : ℕ × ℕ × ℕ) (o : ℕ × List ℕ) (e : Rule (ℕ × ℕ × ℕ)) → IsForwardEdge product grammar moves k o e → IsTableEdge product grammar moves runs k o e
  table_from k o e h = record {
    below = h.below;
    state = h.state;
    root = h.root;
    is_root = h.is_root;
    admitted = h.admitted;
    matched = h.matched;
    is_match = h.is_match;
    deleted_cost = h.deleted_cost;
    is_deleted_cost = IsLeast-unique (deleted_least (left_out_of o)) h.is_deleted_cost;
    left = h.left;
    right = h.right;
    costs = h.costs;
    within = h.within;
  }

  -- the reached set over the tables is that of forward application
  pub image_reached : (order : List (ℕ × ℕ × ℕ)) (es : List (Rule (ℕ × ℕ × ℕ))) → IsReachedSet (table_image product grammar moves runs) order es → IsReachedSet (forward_image product grammar moves) order es
  image_reached order es h = set_to (IsTableEdge product grammar moves runs) (IsForwardEdge product grammar moves) table_to table_from order es h

  -- and so is what is too large
  pub image_beyond : (limit : ℕ) → IsBeyond (table_image product grammar moves runs) limit → IsBeyond (forward_image product grammar moves) limit
  image_beyond limit h order es is = h order es (set_to (IsForwardEdge product grammar moves) (IsTableEdge product grammar moves runs) table_from table_to order es is)

  pub table_edges : AreForwardEdges product grammar moves runs
  table_edges = record {
    edges = λ k o e. (table_to k o e, table_from k o e);
    reached = λ order es. (image_reached order es, set_to (IsForwardEdge product grammar moves) (IsTableEdge product grammar moves runs) table_from table_to order es);
  }

-- parts

module _ (order : List (ℕ × ℕ × ℕ)) (rules : List (Rule ℕ)) (parts limit : ℕ)
    (counted : parts ≡ total (key_parts key_entries) order + total edge_parts (map (named_rule (key_at order)) rules)) (within : parts ≤ limit) where
  -- there are no more keys than the limit
  pub few_keys : length order ≤ limit
  few_keys = omega (arith, each_counts (key_parts key_entries) (λ k. omega arith) order, counted, within)

  -- there are no more rules than the limit
  pub few_rules : length rules ≤ limit
  few_rules = omega (arith, each_counts edge_parts (λ e. omega arith) (map (named_rule (key_at order)) rules), length_map (named_rule (key_at order)) rules, counted, within)

-- the same for the grammar and the transducer that were asked for
module _
    {levelled weighted : Bool} {product : ℕ → ℕ → ℕ} (laws : ProductLaws levelled weighted product) (g h : GrammarOf) (t u : TransducerOf) (same_grammar : g ≡ h) (same_transducer : t ≡ u)
    (runs : LeastRuns) (least : AreLeastRuns product h.rules runs) where
  pub answer_reached : (order : List (ℕ × ℕ × ℕ)) (es : List (Rule (ℕ × ℕ × ℕ))) → IsReachedSet (table_image product g.rules t.rules runs) order es → IsReachedSet (forward_image product h.rules u.rules) order es
  answer_reached order es is =
      image_reached laws h.rules u.rules runs least order es
      (subst (λ (x : TransducerOf). IsReachedSet (table_image product h.rules x.rules runs) order es) same_transducer
      (subst (λ (x : GrammarOf). IsReachedSet (table_image product x.rules t.rules runs) order es) same_grammar is))

  pub answer_beyond : (limit : ℕ) → IsBeyond (table_image product g.rules t.rules runs) limit → IsBeyond (forward_image product h.rules u.rules) limit
  answer_beyond limit is =
      image_beyond laws h.rules u.rules runs least limit
      (subst (λ (x : TransducerOf). IsBeyond (table_image product h.rules x.rules runs) limit) same_transducer
      (subst (λ (x : GrammarOf). IsBeyond (table_image product x.rules t.rules runs) limit) same_grammar is))
