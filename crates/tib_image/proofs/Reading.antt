-- What a whole list of edges says.
use Rattle.std.specs.Prelude.{◌≡◌, ℕ, ◌<◌, ◌≤◌, ◌↔◌, List, length}
use Rattle.std.proofs.Common.{arith, ap, sym, ◌∙◌, subst, get_or}
use Rattle.tib_lex.specs.Lists.{Has, Along, total}
use Rattle.tib_lex.proofs.Alongs.{along_of, total_fewer}
use Rattle.tib_grammar.specs.Sides.{holes_of}
use Rattle.tib_grammar.specs.declared.Rule.{Rule}
use Rattle.tib_expand.specs.EdgeLists.{IsEnd, Exceeds, AreListed, Lists}
use Rattle.tib_strings.specs.declared.StringRule.{StringRule}
use Rattle.tib_key_edges.specs.declared.side_rule.SideRule.{SideRule}
use Rattle.tib_key_edges.specs.SideRules.{places_of, read_places, Reads}
use Rattle.tib_key_edges.specs.Listing.{IsWithinBudget}
use Rattle.tib_key_edges.proofs.Reading.{reads_within, reads_all, both_ends}
use Rattle.tib_transducer.specs.declared.Variable.{Variable}
use Rattle.tib_image.specs.Parsing.{IsParseEdge}
use Rattle.tib_image.specs.ParseOperation.{edge_parts}
use Rattle.tib_image.specs.ParseEdges.{edges_of}
use Rattle.tib_image.proofs.EdgesListed.{edges_are_listed}
use Rattle.tib_image.specs.ParseLaws.{same_edge}
use Rattle.tib_image.specs.ParseListing.{Listing, IsListed}

module _ (moves : List (StringRule ℕ)) (string : List ℕ) (key : ℕ × ℕ × ℕ × ℕ) where
  abbrev Gives : ℕ × List ℕ → Rule (ℕ × ℕ × ℕ × ℕ) → Type 0
  Gives = IsParseEdge moves string key

  listed : Lists Gives (edges_of moves string key)
  listed = edges_are_listed moves string key

  one_edge : (o : ℕ × List ℕ) (e f : Rule (ℕ × ℕ × ℕ × ℕ)) → Gives o e → Gives o f → e ≡ f
  one_edge o e f h k = same_edge moves string key o e f h k

  -- the rules of the list of all edges of the key are these
  pub whole_listed :
      (order : List (ℕ × ℕ × ℕ × ℕ)) (l : Listing) (n : ℕ) (ends : List (ℕ × ℕ × ℕ × ℕ)) (rules : List (SideRule Variable)) (parts : ℕ) → l.position ≡ n → n < length order → get_or order n (0, 0, 0, 0) ≡ key →
      ends ≡ l.ends.items → rules ≡ l.rules.items → parts ≡ l.parts → IsWithinBudget l → IsListed key (edges_of moves string key) l →
      AreListed Gives edge_parts places_of read_places order ends rules parts
  whole_listed order l n ends rules parts at low is e d p within h =
      let edges = edges_of moves string key in
      let read : Along (Reads order l.ends.items) l.rules.items edges = h.read order (subst (λ m. m < length order) (sym at) low) (ap (λ m. get_or order m (0, 0, 0, 0)) at ∙ is) in
      subst (λ xs. AreListed Gives edge_parts places_of read_places order xs rules parts) (sym e)
      (subst (λ xs. AreListed Gives edge_parts places_of read_places order l.ends.items xs parts) (sym d) (
      record {
        few = omega (arith, within.few, within.within, within.budget);
        within = reads_within order l.ends.items l.rules.items edges read;
        edges = λ k. subst (λ es. Lists Gives es) (sym (reads_all order l.ends.items k l.rules.items edges read)) listed;
        counted = λ k. p ∙ h.counted ∙ ap (total edge_parts) (sym (reads_all order l.ends.items k l.rules.items edges read));
      }
      ))

  -- its ends are those of the edges
  pub whole_ends : (l : Listing) (ends : List (ℕ × ℕ × ℕ × ℕ)) → ends ≡ l.ends.items → IsListed key (edges_of moves string key) l → (k : ℕ × ℕ × ℕ × ℕ) → Has ends k ↔ IsEnd Gives (λ e. holes_of e.right) k
  whole_ends l ends e h k = both_ends Gives one_edge listed.origins (edges_of moves string key) listed.given listed.whole ends (e ∙ h.ends_are) k

  -- where these are more than the budget, so are all edges, however they are listed
  pub overruns_exceeds : (budget : ℕ) → budget < total edge_parts (edges_of moves string key) → Exceeds Gives edge_parts budget
  overruns_exceeds budget over es lists =
      let fewer : total edge_parts (edges_of moves string key) ≤ total edge_parts es =
      total_fewer Gives edge_parts one_edge listed.origins (edges_of moves string key) lists.origins es listed.once listed.given lists.given
      (λ o h. let a = along_of Gives listed.origins (edges_of moves string key) o listed.given h in lists.whole o a.0 a.1)
      in
      omega (arith, over, fewer)
