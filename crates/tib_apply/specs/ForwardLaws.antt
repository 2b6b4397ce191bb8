-- What holds of all edges of forward application over tables, and of all rules that stand for them.
use Rattle.std.specs.Prelude.{◌≡◌, ℕ, ◌<◌, ◌⊎◌, List, [], ◌∷◌, length, map, take, drop, refl}
use Rattle.std.proofs.Common.{zero, suc, arith, ap, sym, ◌∙◌, subst, get_or, inl, inr}
use Rattle.tib_lex.specs.Lists.{Has}
use Rattle.tib_lex.proofs.Members.{each_has, has_at}
use Rattle.tib_lex.proofs.Lists.{has_mapped, some_is}
use Rattle.tib_tree.specs.Trees.{Trees, none, tree, only}
use Rattle.tib_grammar.specs.Sides.{Symbol, label, hole, holes, holes_of}
use Rattle.tib_grammar.specs.Run.{rule_at}
use Rattle.tib_grammar.specs.declared.Rule.{Rule}
use Rattle.tib_grammar.proofs.Sides.{holes-relabel, holes_of-label}
use Rattle.tib_cost.proofs.Least.{IsLeast-unique}
use Rattle.tib_expand.specs.Lawful.{IsLawful}
use Rattle.tib_transducer.specs.Rules.{transducer_rule}
use Rattle.tib_transducer.specs.declared.TransducerRule.{TransducerRule}
use Rattle.tib_match.specs.Matches.{IsMatchCost}
use Rattle.tib_apply.specs.Restrictions.{restricted_labels}
use Rattle.tib_apply.specs.KeyGrammars.{key_at}
use Rattle.tib_apply.specs.Forward.{forward_key}
use Rattle.tib_apply.specs.ForwardLists.{HoleStatesBelow}
use Rattle.tib_apply.specs.ForwardRules.{forward_reading}
use Rattle.tib_key_edges.specs.SideRuleLaws.{reads_places, reads_positions}
use Rattle.tib_apply.specs.Operations.{key_cmp, key_entries}
use Rattle.tib_apply.specs.TableEdges.{IsTableEdge, table_image}
use Rattle.tib_apply.specs.declared.deleting.LeastRuns.{LeastRuns}
use Rattle.tib_key_edges.proofs.KeyOrders.{key_stays}

-- an origin gives one edge
pub same_table_edge :
    (product : ℕ → ℕ → ℕ) (grammar : List (Rule ℕ)) (moves : List (TransducerRule ℕ)) (runs : LeastRuns)
    (key : ℕ × ℕ × ℕ) (o : ℕ × List ℕ) (e f : Rule (ℕ × ℕ × ℕ)) →
    IsTableEdge product grammar moves runs key o e → IsTableEdge product grammar moves runs key o f → e ≡ f
same_table_edge product grammar moves runs key o e f h k =
    let w : ℕ = (transducer_rule moves o.0).cost in
    let matched : h.matched ≡ k.matched = some_is (IsLeast-unique h.is_match k.is_match) in
    let deleted_cost : h.deleted_cost ≡ k.deleted_cost = some_is (sym h.is_deleted_cost ∙ k.is_deleted_cost) in
    let costs : e.cost ≡ f.cost = h.costs ∙ ap (λ x. product (product w x) h.deleted_cost) matched ∙ ap (product (product w k.matched)) deleted_cost ∙ sym k.costs in
    ap (λ l. record { left = l; right = e.right; cost = e.cost }) (h.left ∙ sym k.left)
    ∙ ap (λ r. record { left = f.left; right = r; cost = e.cost }) (h.right ∙ sym k.right)
    ∙ ap (λ c. record { left = f.left; right = f.right; cost = c }) costs

-- a member of a list is in its front or after it
has_cut : (k : ℕ) (xs : List ℕ) (x : ℕ) → Has xs x → Has (take k xs) x ⊎ Has (drop k xs) x
has_cut zero xs x h = inr h
has_cut (suc k) [] x h = absurd h
has_cut (suc k) (y ∷ xs) x h = elim h [
  | inl e ↦ inl (inl e)
  | inr m ↦ elim (has_cut k xs x m) [ inl a ↦ inl (inr a) | inr b ↦ inr b ]
]

-- the states of a match are in range
pub states_within :
    {P : Type 0} (product : ℕ → ℕ → ℕ) (grammar : List (Rule ℕ)) (n : ℕ) → HoleStatesBelow n grammar → (ts : Trees (Symbol ℕ P)) (qs ss : List ℕ) (c : ℕ) →
    IsMatchCost product grammar ts qs ss c →
    ((q : ℕ) → Has qs q → q < n) → (s : ℕ) → Has ss s → s < n
states_within product grammar n range none [] [] c m within s h = absurd h
states_within product grammar n range none [] (x ∷ ss) c m within s h = absurd m
states_within product grammar n range none (q ∷ qs) ss c m within s h = absurd m
states_within product grammar n range (tree (hole p) kids rest) [] ss c m within s h = absurd m
states_within product grammar n range (tree (hole p) kids rest) (q ∷ qs) [] c m within s h = absurd m
states_within product grammar n range (tree (hole p) kids rest) (q ∷ qs) (x ∷ ss) c m within s h = elim h [
  | inl e ↦ within s (inl (m.0 ∙ e))
  | inr k ↦ states_within product grammar n range rest qs ss c m.1 (λ y l. within y (inr l)) s k
]
states_within product grammar n range (tree (label f) kids rest) [] ss c m within s h = absurd m
states_within product grammar n range (tree (label f) kids rest) (q ∷ qs) ss c m within s h = elim (has_cut (length (holes kids)) ss s h) [
  | inl k ↦
      states_within product grammar n range kids (holes (rule_at grammar m.rule).right.kids) (take (length (holes kids)) ss) m.inner m.kids
      (λ y l.
      range m.rule y m.below (subst (λ xs. Has xs y) (sym (holes_of-label (rule_at grammar m.rule).right.label (rule_at grammar m.rule).right.kids f m.root)) l)) s k
  | inr k ↦ states_within product grammar n range rest qs (drop (length (holes kids)) ss) m.outer m.rest (λ y l. within y (inr l)) s k
]

state_at : (n : ℕ) (ss : List ℕ) (i : ℕ) → 0 < n → ((s : ℕ) → Has ss s → s < n) → get_or ss i 0 < n
state_at n [] i some within = some
state_at n (s ∷ ss) zero some within = within s (inl refl)
state_at n (s ∷ ss) (suc i) some within = state_at n ss i some (λ x h. within x (inr h))

-- the ends of an edge have their states in range
pub table_ends_below :
    (product : ℕ → ℕ → ℕ) (grammar : List (Rule ℕ)) (moves : List (TransducerRule ℕ)) (runs : LeastRuns) (n : ℕ) → 0 < n → HoleStatesBelow n grammar →
    (key : ℕ × ℕ × ℕ) (o : ℕ × List ℕ) (e : Rule (ℕ × ℕ × ℕ)) (k : ℕ × ℕ × ℕ) →
    key.0 < n → IsTableEdge product grammar moves runs key o e → Has (holes_of e.right) k → k.0 < n
table_ends_below product grammar moves runs n some range key o e k below is has =
    let r : TransducerRule ℕ = transducer_rule moves o.0 in
    let keys : holes_of e.right ≡ map (forward_key (restricted_labels moves) r.left o.1) (holes_of r.right) =
    ap (λ s. holes_of s) is.right ∙ holes-relabel (forward_key (restricted_labels moves) r.left o.1) (only r.right)
    in
    let x = has_mapped (forward_key (restricted_labels moves) r.left o.1) (holes_of r.right) k (subst (λ (xs : List (ℕ × ℕ × ℕ)). Has xs k) keys has) in
    let states : (s : ℕ) → Has o.1 s → s < n =
    states_within product grammar n range (only r.left) (key.0 ∷ []) o.1 is.matched is.is_match.attained.0
    (λ q h. elim h [ inl same ↦ subst (λ y. y < n) same below | inr nothing ↦ absurd nothing ])
    in
    subst (λ (y : ℕ × ℕ × ℕ). y.0 < n) x.2 (state_at n o.1 x.0.variable some states)

first_below : (n : ℕ) (k : ℕ × ℕ × ℕ) → 0 < n → k ≡ (0, 0, 0) → k.0 < n
first_below n k some e = let same : k.0 ≡ 0 = ap (λ (z : ℕ × ℕ × ℕ). z.0) e in omega (arith, some, same)

-- all laws of forward application, for its keys, edges and rules
pub forward_is_lawful :
    (product : ℕ → ℕ → ℕ) (grammar : List (Rule ℕ)) (moves : List (TransducerRule ℕ)) (runs : LeastRuns) (n : ℕ) → 0 < n → HoleStatesBelow n grammar →
    IsLawful (table_image product grammar moves runs) (λ k. k.0 < n) forward_reading key_cmp key_entries
forward_is_lawful product grammar moves runs n some range = record {
  same_order = refl;
  same_parts = refl;
  reads_places = λ rule f g same. reads_places rule f g same;
  reads_positions = λ rule f g same. reads_positions rule f g same;
  one_edge = λ order m o e f x y. same_table_edge product grammar moves runs (key_at order m) o e f x y;
  one_seed_edge = λ o e f x y. absurd x;
  seeds_admitted = λ k is. first_below n k some is;
  ends_admitted = λ order m o e k all below is has.
      table_ends_below product grammar moves runs n some range (key_at order m) o e k
      (each_has (λ (x : ℕ × ℕ × ℕ). x.0 < n) order (key_at order m) all (has_at order m (0, 0, 0) below)) is has;
  seeds_end = λ o e k is has. absurd is;
  edges_stay = λ xs ys m o e x y same is. subst (λ k. IsTableEdge product grammar moves runs k o e) (key_stays (0, 0, 0) xs ys m same) is;
}
