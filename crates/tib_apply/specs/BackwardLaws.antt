-- What holds of all edges of backward application.
use Rattle.std.specs.Prelude.{◌≡◌, ℕ, ◌<◌, List, [], ◌∷◌, length, map, take, drop, refl}
use Rattle.std.proofs.Common.{zero, suc, ap, sym, ◌∙◌, subst, inl, inr}
use Rattle.tib_lex.specs.Lists.{Has, Each}
use Rattle.tib_tree.specs.Trees.{Trees, none, tree, only}
use Rattle.tib_grammar.specs.Sides.{Symbol, label, hole, holes, holes_of}
use Rattle.tib_grammar.specs.Run.{rule_at}
use Rattle.tib_grammar.proofs.Sides.{holes-relabel}
use Rattle.tib_grammar.specs.declared.Rule.{Rule}
use Rattle.tib_cost.proofs.Least.{IsLeast-unique}
use Rattle.tib_lex.proofs.Members.{has_left}
use Rattle.tib_lex.proofs.Numbers.{nat_eq_cases}
use Rattle.tib_lex.proofs.Lists.{some_is}
use Rattle.tib_grammar.specs.Range.{StatesBelow}
use Rattle.tib_expand.specs.Lawful.{IsLawful}
use Rattle.tib_transducer.specs.Rules.{transducer_rule}
use Rattle.tib_transducer.specs.declared.Pair.{Pair}
use Rattle.tib_transducer.specs.declared.Variable.{Variable}
use Rattle.tib_transducer.specs.declared.TransducerRule.{TransducerRule}
use Rattle.tib_match.specs.Matches.{IsMatchCost}
use Rattle.tib_apply.specs.Restrictions.{restricted_labels}
use Rattle.tib_apply.specs.Backward.{states_at, backward_key, IsBackwardEdge}
use Rattle.tib_apply.specs.Operations.{key_cmp, key_entries, inverse_image}
use Rattle.tib_apply.specs.KeyRules.{key_reading}
use Rattle.tib_apply.specs.KeyLaws.{keys_are_lawful}

-- rules of the same sides and cost are the same
pub same_rule : (e f : Rule (ℕ × ℕ × ℕ)) → e.left ≡ f.left → e.right ≡ f.right → e.cost ≡ f.cost → e ≡ f
same_rule e f left right costs =
    ap (λ l. record { left = l; right = e.right; cost = e.cost }) left
    ∙ ap (λ r. record { left = f.left; right = r; cost = e.cost }) right
    ∙ ap (λ c. record { left = f.left; right = f.right; cost = c }) costs

-- an origin gives a key one edge
pub one_backward_edge :
    (product : ℕ → ℕ → ℕ) (moves : List (TransducerRule ℕ)) (grammar : List (Rule ℕ)) (key : ℕ × ℕ × ℕ) (o : ℕ × List ℕ) (e f : Rule (ℕ × ℕ × ℕ)) →
    IsBackwardEdge product moves grammar key o e → IsBackwardEdge product moves grammar key o f → e ≡ f
one_backward_edge product moves grammar key o e f h k =
    let matched : h.matched ≡ k.matched = some_is (IsLeast-unique h.is_match k.is_match) in
    same_rule e f (h.left ∙ sym k.left) (h.right ∙ sym k.right) (h.costs ∙ ap (product (transducer_rule moves o.0).cost) matched ∙ sym k.costs)

each_take : (P : ℕ → Type 0) (n : ℕ) (ss : List ℕ) → Each P (take n ss) → Each P (drop n ss) → Each P ss
each_take P zero ss a b = b
each_take P (suc n) [] a b = tt
each_take P (suc n) (s ∷ ss) a b = (a.0, each_take P n ss a.1 b)

each_states : (n : ℕ) (qs : List ℕ) → ((q : ℕ) → Has qs q → q < n) → Each (λ q. q < n) qs
each_states n [] h = tt
each_states n (q ∷ qs) h = (h q (inl refl), each_states n qs (λ p k. h p (inr k)))

holes_root : (s : Symbol ℕ ℕ) (kids : Trees (Symbol ℕ ℕ)) (f q : ℕ) → s ≡ label f → Has (holes kids) q → Has (holes (tree s kids none)) q
holes_root s kids f q e h = subst (λ (x : Symbol ℕ ℕ). Has (holes (tree x kids none)) q) (sym e) (has_left (holes kids) [] q h)

module _ (product : ℕ → ℕ → ℕ) (grammar : List (Rule ℕ)) (n : ℕ) (below : StatesBelow n grammar) where
  -- the states of a match are states of the grammar
  states_fit :
      {P : Type 0} (s : Trees (Symbol ℕ P)) (qs ss : List ℕ) (c : ℕ) → Each (λ q. q < n) qs → IsMatchCost product grammar s qs ss c → Each (λ q. q < n) ss
  states_fit none [] [] c h m = tt
  states_fit none [] (s ∷ ss) c h m = absurd m
  states_fit none (q ∷ qs) ss c h m = absurd m
  states_fit (tree (hole p) kids rest) [] ss c h m = absurd m
  states_fit (tree (hole p) kids rest) (q ∷ qs) [] c h m = absurd m
  states_fit (tree (hole p) kids rest) (q ∷ qs) (s ∷ ss) c h m = (subst (λ x. x < n) m.0 h.0, states_fit rest qs ss c h.1 m.1)
  states_fit (tree (label f) kids rest) [] ss c h m = absurd m
  states_fit (tree (label f) kids rest) (q ∷ qs) ss c h m =
      let r : Rule ℕ = rule_at grammar m.rule in
      each_take (λ q. q < n) (length (holes kids)) ss
      (states_fit kids (holes r.right.kids) (take (length (holes kids)) ss) m.inner
      (each_states n (holes r.right.kids) (λ q k. below m.rule q m.below (holes_root r.right.label r.right.kids f q m.root k))) m.kids)
      (states_fit rest qs (drop (length (holes kids)) ss) m.outer h.1 m.rest)

  second_fits : (i : ℕ) (xs : List (Pair ℕ)) (ss : List ℕ) → 0 < n → Each (λ q. q < n) ss → (states_at i xs ss).1 < n
  second_fits i [] ss z h = z
  second_fits i (x ∷ xs) [] z h = z
  second_fits i (x ∷ xs) (s ∷ ss) z h = elim (nat_eq_cases i x.variable) [
    | inl k ↦ rw k.1 h.0
    | inr k ↦ rw k.1 (second_fits i xs ss z h.1)
  ]

  keys_fit : (labels : List ℕ) (xs : List (Pair ℕ)) (ss : List ℕ) (vs : List Variable) (k : ℕ × ℕ × ℕ) → 0 < n → Each (λ q. q < n) ss → Has (map (backward_key labels xs ss) vs) k → k.1 < n
  keys_fit labels xs ss [] k z h m = absurd m
  keys_fit labels xs ss (v ∷ vs) k z h m = elim m [
    | inl e ↦ subst (λ (x : ℕ × ℕ × ℕ). x.1 < n) e (second_fits v.number xs ss z h)
    | inr r ↦ keys_fit labels xs ss vs k z h r
  ]

  -- the ends of an edge have states of the grammar
  ends_fit :
      (moves : List (TransducerRule ℕ)) (key : ℕ × ℕ × ℕ) (o : ℕ × List ℕ) (e : Rule (ℕ × ℕ × ℕ)) (k : ℕ × ℕ × ℕ) → 0 < n → key.1 < n →
      IsBackwardEdge product moves grammar key o e → Has (holes_of e.right) k → k.1 < n
  ends_fit moves key o e k z b is h =
      let left = (transducer_rule moves o.0).left in
      let pairs : List (Pair ℕ) = holes_of (transducer_rule moves o.0).right in
      let labels = restricted_labels moves in
      let are : holes_of e.right ≡ map (backward_key labels pairs o.1) (holes_of left) = ap (λ s. holes_of s) is.right ∙ holes-relabel (backward_key labels pairs o.1) (only left) in
      keys_fit labels pairs o.1 (holes_of left) k z (states_fit (only (transducer_rule moves o.0).right) (key.1 ∷ []) o.1 is.matched (b, tt) is.is_match.attained.0)
      (subst (λ (ks : List (ℕ × ℕ × ℕ)). Has ks k) are h)

  -- all laws of backward application
  pub backward_is_lawful : (moves : List (TransducerRule ℕ)) → 0 < n → IsLawful (inverse_image product moves grammar) (λ k. k.1 < n) key_reading key_cmp key_entries
  backward_is_lawful moves z =
      keys_are_lawful (IsBackwardEdge product moves grammar) (λ k. k.1 < n) (one_backward_edge product moves grammar) z (λ key o e k b is h. ends_fit moves key o e k z b is h)
