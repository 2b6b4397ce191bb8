-- One more edge, and what whole lists of edges say.
use Rattle.std.specs.Prelude.{◌≡◌, ℕ, ◌+◌, ◌<◌, ◌≤◌, ◌↔◌, List, [], ◌∷◌, ◌++◌, length, map}
use Rattle.std.proofs.Common.{arith, ap, sym, ◌∙◌, subst, get_or, inl, inr}
use Rattle.tib_lex.specs.Lists.{Has, Along, total}
use Rattle.tib_lex.proofs.Lists.{total_more}
use Rattle.tib_lex.proofs.Members.{distinct_more, has_left, has_right, has_either}
use Rattle.tib_lex.proofs.Alongs.{along_of, along_more, along_map, total_fewer}
use Rattle.tib_tree.specs.Trees.{only, size}
use Rattle.tib_grammar.specs.Sides.{Side as SideFor, holes_of, HolesAreLeaves, side_map}
use Rattle.tib_grammar.specs.declared.Rule.{Rule}
use Rattle.tib_grammar.specs.Positions.{all_ends}
use Rattle.tib_grammar.proofs.Sides.{holes-relabel}
use Rattle.tib_grammar.proofs.Positions.{all_ends-more}
use Rattle.tib_expand.specs.EdgeLists.{IsEnd, Exceeds, AreListed}
use Rattle.tib_key_edges.specs.declared.side_rule.SideRule.{SideRule}
use Rattle.tib_key_edges.specs.declared.side_listing.SideListing.{SideListing}
use Rattle.tib_key_edges.specs.SideRules.{places_of, read_places, Reads}
use Rattle.tib_key_edges.specs.Listing.{edge_parts, IsAdded, IsWithinBudget, IsListed, Overruns, AreListedFrom}
use Rattle.tib_key_edges.proofs.MappedSides.{size_mapped}
use Rattle.tib_key_edges.proofs.Reading.{reads_longer, reads_new, reads_within, reads_all, both_ends, nothing}

module _ {K H O : Type 0} (Gives : O → Rule K → Type 0) (order : List K) where
  -- nothing is listed at first
  pub listed_first : (l : SideListing K H) → length l.ends.items ≡ 0 → length l.rules.items ≡ 0 → l.parts ≡ 0 → IsListed Gives order [] l
  listed_first l ends rules parts = record {
    origins = [];
    edges = [];
    once = tt;
    given = tt;
    were_tried = λ o h. h;
    whole = λ o e h g. h;
    read = subst (λ rs. Along (Reads order l.ends.items) rs []) (sym (nothing l.rules.items rules)) tt;
    ends_are = nothing l.ends.items ends;
    counted = parts;
  }

  module _ (tried : List O) (o : O) where
    -- an origin that gives no edge
    pub listed_passed : (l : SideListing K H) → ((e : Rule K) → Gives o e → ⊥) → IsListed Gives order tried l → IsListed Gives order (tried ++ o ∷ []) l
    listed_passed l no_edge listed = record {
      origins = listed.origins;
      edges = listed.edges;
      once = listed.once;
      given = listed.given;
      were_tried = λ p h. has_left tried (o ∷ []) p (listed.were_tried p h);
      whole = λ p e h g. elim (has_either tried (o ∷ []) p h) [
        | inl k ↦ listed.whole p e k g
        | inr k ↦ elim k [ inl same ↦ absurd (no_edge e (subst (λ x. Gives x e) (sym same) g)) | inr nothing ↦ absurd nothing ]
      ];
      read = listed.read;
      ends_are = listed.ends_are;
      counted = listed.counted;
    }

    module _
        (fresh : Has tried o → ⊥) (key : K) (f : H → K) (side : SideFor ℕ H) (cost : ℕ)
        (given : Gives o (record { left = key; right = side_map f side; cost = cost })) where
      abbrev edge : Rule K
      edge = record { left = key; right = side_map f side; cost = cost }

      parts_of_edge : edge_parts edge ≡ 1 + size side
      parts_of_edge = omega (arith, size_mapped f side)

      more_given : (origins : List O) (edges : List (Rule K)) → Along Gives origins edges → Along Gives (origins ++ o ∷ []) (edges ++ edge ∷ [])
      more_given origins edges a = along_more Gives origins edges o edge a given

      -- an origin whose edge is listed
      pub listed_added :
          (default : K) (n : ℕ) → n < length order → get_or order n default ≡ key → HolesAreLeaves (only side) → (l m : SideListing K H) → l.position ≡ n → IsAdded side (map f (holes_of side)) cost l m →
          IsListed Gives order tried l → IsListed Gives order (tried ++ o ∷ []) m
      listed_added default n below is leaves l m at added listed =
          let keys = map f (holes_of side) in
          let old : Along (Reads order m.ends.items) l.rules.items listed.edges =
          subst (λ es. Along (Reads order es) l.rules.items listed.edges) (sym added.ends)
          (along_map (Reads order l.ends.items) (Reads order (l.ends.items ++ keys)) (λ r e. reads_longer order l.ends.items keys r e) l.rules.items listed.edges listed.read)
          in
          let here : Reads order m.ends.items added.rule edge =
          subst (λ es. Reads order es added.rule edge) (sym added.ends)
          (reads_new order default l.ends.items key f added.rule side n cost leaves below is (added.position ∙ at) added.side added.first_end added.costs)
          in
          record {
            origins = listed.origins ++ o ∷ [];
            edges = listed.edges ++ edge ∷ [];
            once = distinct_more listed.origins o listed.once (λ h. fresh (listed.were_tried o h));
            given = more_given listed.origins listed.edges listed.given;
            were_tried = λ p h. elim (has_either listed.origins (o ∷ []) p h) [
              | inl k ↦ has_left tried (o ∷ []) p (listed.were_tried p k)
              | inr k ↦ has_right tried (o ∷ []) p k
            ];
            whole = λ p e h g. elim (has_either tried (o ∷ []) p h) [
              | inl k ↦ has_left listed.origins (o ∷ []) p (listed.whole p e k g)
              | inr k ↦ has_right listed.origins (o ∷ []) p k
            ];
            read = subst (λ rs. Along (Reads order m.ends.items) rs (listed.edges ++ edge ∷ [])) (sym added.rules) (along_more (Reads order m.ends.items) l.rules.items listed.edges added.rule edge old here);
            ends_are = added.ends ∙ ap (λ es. es ++ keys) listed.ends_are ∙ ap (λ zs. all_ends listed.edges ++ zs) (sym (holes-relabel f (only side))) ∙ sym (all_ends-more listed.edges edge);
            counted = omega (arith, added.parts, listed.counted, total_more edge_parts listed.edges edge, parts_of_edge);
          }

      -- an origin whose edge is too much
      pub overruns_next : (l : SideListing K H) → l.budget < l.parts + (1 + size side) → IsListed Gives order tried l → Overruns Gives l.budget
      overruns_next l much listed = record {
        origins = listed.origins ++ o ∷ [];
        edges = listed.edges ++ edge ∷ [];
        once = distinct_more listed.origins o listed.once (λ h. fresh (listed.were_tried o h));
        given = more_given listed.origins listed.edges listed.given;
        more = omega (arith, much, listed.counted, total_more edge_parts listed.edges edge, parts_of_edge);
      }

  -- the rules of a whole list are the edges
  pub whole_listed :
      (l : SideListing K H) (ends : List K) (rules : List (SideRule H)) (parts : ℕ) → ends ≡ l.ends.items → rules ≡ l.rules.items → parts ≡ l.parts →
      IsWithinBudget l → AreListedFrom Gives order l → AreListed Gives edge_parts places_of read_places order ends rules parts
  whole_listed l ends rules parts e d p within listed =
      subst (λ xs. AreListed Gives edge_parts places_of read_places order xs rules parts) (sym e)
      (subst (λ xs. AreListed Gives edge_parts places_of read_places order l.ends.items xs parts) (sym d) (
      record {
        few = omega (arith, within.few, within.within, within.budget);
        within = reads_within order l.ends.items l.rules.items listed.listed.edges listed.listed.read;
        edges = λ k. record {
          origins = listed.listed.origins;
          once = listed.listed.once;
          given = subst (Along Gives listed.listed.origins) (sym (reads_all order l.ends.items k l.rules.items listed.listed.edges listed.listed.read)) listed.listed.given;
          whole = λ o f is. listed.listed.whole o f (listed.all o f is) is;
        };
        counted = λ k. p ∙ listed.listed.counted ∙ ap (total edge_parts) (sym (reads_all order l.ends.items k l.rules.items listed.listed.edges listed.listed.read));
      }
      ))

  module _ (one : (o : O) (e f : Rule K) → Gives o e → Gives o f → e ≡ f) where
    -- its ends are those of the edges
    pub whole_ends : (l : SideListing K H) (ends : List K) → ends ≡ l.ends.items → AreListedFrom Gives order l → (k : K) → Has ends k ↔ IsEnd Gives (λ e. holes_of e.right) k
    whole_ends l ends e listed k =
        both_ends Gives one listed.listed.origins listed.listed.edges listed.listed.given (λ o f g. listed.listed.whole o f (listed.all o f g) g) ends (e ∙ listed.listed.ends_are) k

module _ {K O : Type 0} (Gives : O → Rule K → Type 0) (one : (o : O) (e f : Rule K) → Gives o e → Gives o f → e ≡ f) where
  -- edges that have more parts than the budget show that all have
  pub overruns_exceeds : (budget : ℕ) → Overruns Gives budget → Exceeds Gives edge_parts budget
  overruns_exceeds budget over es lists =
      let fewer : total edge_parts over.edges ≤ total edge_parts es =
      total_fewer Gives edge_parts one over.origins over.edges lists.origins es over.once over.given lists.given
      (λ o h. let a = along_of Gives over.origins over.edges o over.given h in lists.whole o a.0 a.1)
      in
      omega (arith, over.more, fewer)
