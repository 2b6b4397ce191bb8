-- What the list of all edges of a pair says.
use Rattle.std.specs.Prelude.{◌≡◌, ℕ, ◌<◌, ◌≤◌, ◌↔◌, ◌^◌, List, [], ◌∷◌, ◌++◌, length, map, Option, refl}
use Rattle.std.proofs.Common.{zero, suc, arith, ap, sym, ◌∙◌, subst, get_or, inl, inr}
use Rattle.tib_lex.specs.Lists.{Has, Each, total}
use Rattle.tib_lex.proofs.Members.{has_left, has_right, has_either}
use Rattle.tib_lex.proofs.Alongs.{along_of, along_back, total_fewer}
use Rattle.tib_tree.specs.Trees.{Trees}
use Rattle.tib_expand.specs.EdgeLists.{Lists, AreListed, IsEnd, Exceeds}
use Rattle.tib_key_edges.specs.Ends.{key_at}
use Rattle.tib_transducer.specs.Range.{AreShaped}
use Rattle.tib_transducer.specs.declared.TransducerRule.{TransducerRule}
use Rattle.tib_key_edges.specs.Choices.{edges_of}
use Rattle.tib_key_edges.specs.Composing.{IsComposeEdge}
use Rattle.tib_key_edges.specs.Composition.{ends_of, edge_parts}
use Rattle.tib_key_edges.specs.Named.{named_transducer_rule}
use Rattle.tib_key_edges.proofs.EdgeList.{edges_are_listed}
use Rattle.tib_key_edges.proofs.Exact.{same_edge}
use Rattle.tib_compose.specs.EdgeLaws.{places_of, rule_of}
use Rattle.tib_compose.specs.CompositionListing.{IsListing, IsWithinBudget, all_ends}
use Rattle.tib_compose.specs.declared.listing.CompositionListing.{CompositionListing}
use Rattle.tib_compose.specs.declared.placed_rule.PlacedRule.{PlacedRule}

has_end : (es : List (TransducerRule (ℕ × ℕ))) (k : ℕ × ℕ) → Has (all_ends es) k → (e : TransducerRule (ℕ × ℕ)) × Has es e × Has (ends_of e) k
has_end [] k h = absurd h
has_end (e ∷ es) k h = elim (has_either (ends_of e) (all_ends es) k h) [
  | inl m ↦ (e, inl refl, m)
  | inr m ↦ let r = has_end es k m in (r.0, inr r.1, r.2)
]

end_has : (es : List (TransducerRule (ℕ × ℕ))) (e : TransducerRule (ℕ × ℕ)) (k : ℕ × ℕ) → Has es e → Has (ends_of e) k → Has (all_ends es) k
end_has [] e k h m = absurd h
end_has (f ∷ es) e k h m = elim h [
  | inl same ↦ has_left (ends_of f) (all_ends es) k (subst (λ x. Has (ends_of x) k) (sym same) m)
  | inr n ↦ has_right (ends_of f) (all_ends es) k (end_has es e k n m)
]

module _ (product : ℕ → ℕ → ℕ) (one two : List (TransducerRule ℕ)) (shaped : AreShaped two) (order : List (ℕ × ℕ)) (n : ℕ) where
  abbrev Gives : ℕ × Trees (Option ℕ) → TransducerRule (ℕ × ℕ) → Type 0
  Gives = IsComposeEdge product one two (key_at order n)

  abbrev all : List (TransducerRule (ℕ × ℕ))
  all = edges_of product one two (key_at order n)

  listed : Lists Gives all
  listed = edges_are_listed product one two shaped (key_at order n)

  -- the list has the edges of the position
  pub whole_listed :
      (l : CompositionListing) (ends : List (ℕ × ℕ)) (rules : List PlacedRule) (parts : ℕ) → ends ≡ l.ends.items → rules ≡ l.rules.items → parts ≡ l.parts → IsWithinBudget l → IsListing order (key_at order n) all l →
      AreListed Gives edge_parts (λ r. places_of (rule_of r)) (λ f r. named_transducer_rule f (rule_of r)) order ends rules parts
  whole_listed l ends rules parts e d p within h =
      subst (λ xs. AreListed Gives edge_parts (λ r. places_of (rule_of r)) (λ f r. named_transducer_rule f (rule_of r)) order xs rules parts) (sym e)
      (subst (λ xs. AreListed Gives edge_parts (λ r. places_of (rule_of r)) (λ f r. named_transducer_rule f (rule_of r)) order l.ends.items xs parts) (sym d) (
      record {
        few = omega (arith, within.few, within.within, within.budget);
        within = h.within;
        edges = λ k. subst (Lists Gives) (sym (h.read k)) listed;
        counted = λ k. p ∙ h.counted ∙ ap (total edge_parts) (sym (h.read k));
      }
      ))

  -- its ends are those of the edges
  pub whole_ends : (l : CompositionListing) (ends : List (ℕ × ℕ)) → ends ≡ l.ends.items → IsListing order (key_at order n) all l → (k : ℕ × ℕ) → Has ends k ↔ IsEnd Gives ends_of k
  whole_ends l ends e h k = (to, from)
    where
      are : ends ≡ all_ends all
      are = e ∙ h.ends_are

      to : Has ends k → IsEnd Gives ends_of k
      to has =
          let r = has_end all k (subst (λ xs. Has xs k) are has) in
          let o = along_back Gives listed.origins all r.0 listed.given r.1 in
          (o.0, r.0, o.1, r.2)

      from : IsEnd Gives ends_of k → Has ends k
      from is =
          let a = along_of Gives listed.origins all is.0 listed.given (listed.whole is.0 is.1 is.2) in
          let same : is.1 ≡ a.0 = same_edge product one two (key_at order n) is.0 is.1 a.0 is.2 a.1 in
          subst (λ xs. Has xs k) (sym are) (end_has all a.0 k a.2 (subst (λ x. Has (ends_of x) k) same is.3))

  -- edges that have more parts than the budget show that all lists have
  pub overruns_exceeds : (budget : ℕ) → budget < total edge_parts all → Exceeds Gives edge_parts budget
  overruns_exceeds budget over es lists =
      let fewer : total edge_parts all ≤ total edge_parts es =
      total_fewer Gives edge_parts (same_edge product one two (key_at order n)) listed.origins all lists.origins es listed.once listed.given lists.given
      (λ o h. let a = along_of Gives listed.origins all o listed.given h in lists.whole o a.0 a.1)
      in
      omega (arith, over, fewer)
