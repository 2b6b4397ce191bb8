-- What a whole list of edges says, and what holds of all edges.
use Rattle.std.specs.Prelude.{◌≡◌, ℕ, ◌≤◌, ◌↔◌, List, [], ◌∷◌, length, map, refl}
use Rattle.std.proofs.Common.{arith, ap, sym, ◌∙◌, subst, inl, inr}
use Rattle.tib_lex.specs.Lists.{Has, Each, Along, total}
use Rattle.tib_grammar.specs.Sides.{over}
use Rattle.tib_grammar.specs.declared.Rule.{Rule}
use Rattle.tib_expand.specs.EdgeLists.{key_at, IsWithin, IsEnd, Exceeds, AreListed}
use Rattle.tib_intersect.specs.declared.listing.PairListing.{PairListing}
use Rattle.tib_intersect.specs.declared.pair_rule.PairRule.{PairRule}
use Rattle.tib_key_edges.specs.Ends.{key_at as pair_at}
use Rattle.tib_intersect.specs.PairEdges.{IsPairEdge, ends_of, edge_parts}
use Rattle.tib_intersect.specs.PairRules.{places_of, read_places, Reads}
use Rattle.tib_intersect.specs.PairListing.{all_ends, IsWithinBudget, AreListedFrom, Overruns}
use Rattle.tib_intersect.specs.PairLaws.{same_edge}
use Rattle.tib_lex.proofs.Members.{has_left, has_right, has_either}
use Rattle.tib_lex.proofs.Alongs.{along_of, along_back, total_fewer}

reads_within : (order ends : List (ℕ × ℕ)) (rules : List PairRule) (es : List (Rule (ℕ × ℕ))) → Along (Reads order ends) rules es → Each (λ r. Each (IsWithin (length order) (length ends)) (places_of r)) rules
reads_within order ends [] es a = tt
reads_within order ends (r ∷ rules) [] a = absurd a
reads_within order ends (r ∷ rules) (e ∷ es) a = (a.0.within, reads_within order ends rules es a.1)

reads_all : (order ends : List (ℕ × ℕ)) (d : ℕ × ℕ) (rules : List PairRule) (es : List (Rule (ℕ × ℕ))) → Along (Reads order ends) rules es → map (read_places (key_at d order ends)) rules ≡ es
reads_all order ends d [] [] a = refl
reads_all order ends d [] (e ∷ es) a = absurd a
reads_all order ends d (r ∷ rules) [] a = absurd a
reads_all order ends d (r ∷ rules) (e ∷ es) a =
    ap (λ x. x ∷ map (read_places (key_at d order ends)) rules) (a.0.read d) ∙ ap (λ xs. e ∷ xs) (reads_all order ends d rules es a.1)

has_end : (es : List (Rule (ℕ × ℕ))) (k : ℕ × ℕ) → Has (all_ends es) k → (e : Rule (ℕ × ℕ)) × Has es e × Has (ends_of e) k
has_end [] k h = absurd h
has_end (e ∷ es) k h = elim (has_either (ends_of e) (all_ends es) k h) [
  | inl m ↦ (e, inl refl, m)
  | inr m ↦ let r = has_end es k m in (r.0, inr r.1, r.2)
]

end_has : (es : List (Rule (ℕ × ℕ))) (e : Rule (ℕ × ℕ)) (k : ℕ × ℕ) → Has es e → Has (ends_of e) k → Has (all_ends es) k
end_has [] e k h m = absurd h
end_has (f ∷ es) e k h m = elim h [
  | inl same ↦ has_left (ends_of f) (all_ends es) k (subst (λ x. Has (ends_of x) k) (sym same) m)
  | inr n ↦ has_right (ends_of f) (all_ends es) k (end_has es e k n m)
]

module _ (product : ℕ → ℕ → ℕ) (ones twos : List (Rule ℕ)) (order : List (ℕ × ℕ)) (n : ℕ) where
  -- the rules of a whole list are the edges of the pair
  pub whole_listed :
      (l : PairListing) (ends : List (ℕ × ℕ)) (rules : List PairRule) (parts : ℕ) → ends ≡ l.ends.items → rules ≡ l.rules.items → parts ≡ l.parts →
      IsWithinBudget l → AreListedFrom product ones twos order n l → AreListed (IsPairEdge product ones twos (pair_at order n)) edge_parts places_of read_places order ends rules parts
  whole_listed l ends rules parts e d p within listed =
      subst (λ xs. AreListed (IsPairEdge product ones twos (pair_at order n)) edge_parts places_of read_places order xs rules parts) (sym e)
      (subst (λ xs. AreListed (IsPairEdge product ones twos (pair_at order n)) edge_parts places_of read_places order l.ends.items xs parts) (sym d) (
      record {
        few = omega (arith, within.few, within.within, within.budget);
        within = reads_within order l.ends.items l.rules.items listed.listed.edges listed.listed.read;
        edges = λ k. record {
          origins = listed.listed.origins;
          once = listed.listed.once;
          given = subst (Along (IsPairEdge product ones twos (pair_at order n)) listed.listed.origins) (sym (reads_all order l.ends.items k l.rules.items listed.listed.edges listed.listed.read)) listed.listed.given;
          whole = λ o f is. listed.listed.whole o f (listed.all o f is) is;
        };
        counted = λ k. p ∙ listed.listed.counted ∙ ap (total edge_parts) (sym (reads_all order l.ends.items k l.rules.items listed.listed.edges listed.listed.read));
      }
      ))

  -- its ends are those of the edges
  pub whole_ends :
      (l : PairListing) (ends : List (ℕ × ℕ)) → ends ≡ l.ends.items → AreListedFrom product ones twos order n l → (k : ℕ × ℕ) →
      Has ends k ↔ IsEnd (IsPairEdge product ones twos (pair_at order n)) ends_of k
  whole_ends l ends e listed k = (to, from)
    where
      are : ends ≡ all_ends listed.listed.edges
      are = e ∙ listed.listed.ends_are

      to : Has ends k → IsEnd (IsPairEdge product ones twos (pair_at order n)) ends_of k
      to h =
          let r = has_end listed.listed.edges k (subst (λ xs. Has xs k) are h) in
          let o = along_back (IsPairEdge product ones twos (pair_at order n)) listed.listed.origins listed.listed.edges r.0 listed.listed.given r.1 in
          (o.0, r.0, o.1, r.2)

      from : IsEnd (IsPairEdge product ones twos (pair_at order n)) ends_of k → Has ends k
      from h =
          let a = along_of (IsPairEdge product ones twos (pair_at order n)) listed.listed.origins listed.listed.edges h.0 listed.listed.given (listed.listed.whole h.0 h.1 (listed.all h.0 h.1 h.2) h.2) in
          let same : h.1 ≡ a.0 = same_edge product ones twos (pair_at order n) h.0 h.1 a.0 h.2 a.1 in
          subst (λ xs. Has xs k) (sym are) (end_has listed.listed.edges a.0 k a.2 (subst (λ x. Has (ends_of x) k) same h.3))

  -- edges that have more parts than the budget show that all have
  pub overruns_exceeds : (budget : ℕ) → Overruns product ones twos order n budget → Exceeds (IsPairEdge product ones twos (pair_at order n)) edge_parts budget
  overruns_exceeds budget over es lists =
      let fewer : total edge_parts over.edges ≤ total edge_parts es =
      total_fewer (IsPairEdge product ones twos (pair_at order n)) edge_parts (same_edge product ones twos (pair_at order n)) over.origins over.edges lists.origins es over.once over.given lists.given
      (λ o h. let a = along_of (IsPairEdge product ones twos (pair_at order n)) over.origins over.edges o over.given h in lists.whole o a.0 a.1)
      in
      omega (arith, over.more, fewer)
