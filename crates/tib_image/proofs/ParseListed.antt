-- Edges after those that are listed.
use Rattle.std.specs.Prelude.{◌≡◌, ℕ, ◌+◌, ◌<◌, List, [], ◌∷◌, ◌++◌, length, map, refl, OnOk}
use Rattle.std.proofs.Common.{arith, ap, sym, ◌∙◌, subst, get_or, append_assoc, Ok, Err}
use Rattle.std.specs.declared.result.Result.{Result}
use Rattle.std.proofs.lemmas.List.{map-append}
use Rattle.tib_lex.specs.Lists.{Along, total}
use Rattle.tib_lex.proofs.Lists.{append_nil, total_append, total_more}
use Rattle.tib_lex.proofs.Alongs.{along_more, along_map}
use Rattle.tib_tree.specs.Trees.{only, size}
use Rattle.tib_grammar.specs.Sides.{Side as SideFor, holes_of, HolesAreLeaves, side_map}
use Rattle.tib_grammar.specs.declared.Rule.{Rule}
use Rattle.tib_grammar.specs.Positions.{all_ends}
use Rattle.tib_grammar.proofs.Sides.{holes-relabel}
use Rattle.tib_grammar.proofs.Positions.{all_ends-more}
use Rattle.tib_transducer.specs.declared.Variable.{Variable}
use Rattle.tib_strings.specs.declared.StringRule.{StringRule}
use Rattle.tib_key_edges.specs.SideRules.{Reads}
use Rattle.tib_key_edges.specs.Listing.{IsAdded, IsAlike}
use Rattle.tib_key_edges.proofs.MappedSides.{size_mapped}
use Rattle.tib_key_edges.proofs.Reading.{reads_longer, reads_new, nothing}
use Rattle.tib_image.specs.ParseOperation.{edge_parts}
use Rattle.tib_image.specs.ParseListing.{Listing, IsListed, Adds, Overruns, AreDone, cut_edge}

abbrev Edges : Type 0
Edges = List (Rule (ℕ × ℕ × ℕ × ℕ))

module _ (key : ℕ × ℕ × ℕ × ℕ) where
  -- nothing is listed at first
  pub listed_first : (l : Listing) → length l.ends.items ≡ 0 → length l.rules.items ≡ 0 → l.parts ≡ 0 → IsListed key [] l
  listed_first l ends rules parts = record {
    read = λ order below is. subst (λ rs. Along (Reads order l.ends.items) rs []) (sym (nothing l.rules.items rules)) tt;
    ends_are = nothing l.ends.items ends;
    counted = parts;
  }

  -- no edges
  pub adds_none : (l : Listing) → Adds key [] l l
  adds_none l = record {
    listed = λ front h. subst (λ es. IsListed key es l) (sym (append_nil front)) h;
    parts = omega arith;
    alike = record { position = refl; budget = refl };
  }

  -- some edges and then others
  pub adds_both : (es fs : Edges) (old now new : Listing) → Adds key es old now → Adds key fs now new → Adds key (es ++ fs) old new
  adds_both es fs old now new a b = record {
    listed = λ front h. subst (λ gs. IsListed key gs new) (append_assoc front es fs) (b.listed (front ++ es) (a.listed front h));
    parts = omega (arith, a.parts, b.parts, total_append edge_parts es fs);
    alike = record { position = b.alike.position ∙ a.alike.position; budget = b.alike.budget ∙ a.alike.budget };
  }

  -- others are too much after some edges
  pub overruns_behind : (es fs : Edges) (old now : Listing) → Adds key es old now → Overruns fs now → Overruns (es ++ fs) old
  overruns_behind es fs old now a b = omega (arith, a.parts, a.alike.budget, b, total_append edge_parts es fs)

  -- an edge over a side
  module _ (f : Variable → ℕ × ℕ × ℕ × ℕ) (side : SideFor ℕ Variable) (cost : ℕ) where
    abbrev edge : Rule (ℕ × ℕ × ℕ × ℕ)
    edge = record { left = key; right = side_map f side; cost = cost }

    parts_of_edge : total edge_parts (edge ∷ []) ≡ 1 + size side
    parts_of_edge = omega (arith, size_mapped f side)

    -- it is listed
    pub adds_edge : HolesAreLeaves (only side) → (l m : Listing) → IsAdded side (map f (holes_of side)) cost l m → IsAlike l m → Adds key (edge ∷ []) l m
    adds_edge leaves l m added alike = record {
      listed = λ front h. record {
        read = λ order below is.
            let keys = map f (holes_of side) in
            let low : l.position < length order = subst (λ n. n < length order) alike.position below in
            let here_is : get_or order l.position (0, 0, 0, 0) ≡ key = subst (λ n. get_or order n (0, 0, 0, 0) ≡ key) alike.position is in
            let old : Along (Reads order m.ends.items) l.rules.items front =
            subst (λ es. Along (Reads order es) l.rules.items front) (sym added.ends)
            (along_map (Reads order l.ends.items) (Reads order (l.ends.items ++ keys)) (λ r e. reads_longer order l.ends.items keys r e) l.rules.items front (h.read order low here_is))
            in
            let here : Reads order m.ends.items added.rule edge =
            subst (λ es. Reads order es added.rule edge) (sym added.ends)
            (reads_new order (0, 0, 0, 0) l.ends.items key f added.rule side l.position cost leaves low here_is added.position added.side added.first_end added.costs)
            in
            subst (λ rs. Along (Reads order m.ends.items) rs (front ++ edge ∷ [])) (sym added.rules) (along_more (Reads order m.ends.items) l.rules.items front added.rule edge old here);
        ends_are = added.ends ∙ ap (λ es. es ++ map f (holes_of side)) h.ends_are ∙ ap (λ zs. all_ends front ++ zs) (sym (holes-relabel f (only side))) ∙ sym (all_ends-more front edge);
        counted = omega (arith, added.parts, h.counted, total_more edge_parts front edge, size_mapped f side);
      };
      parts = omega (arith, added.parts, parts_of_edge);
      alike = alike;
    }

    -- it is too much
    pub overruns_edge : (l : Listing) → l.budget < l.parts + (1 + size side) → Overruns (edge ∷ []) l
    overruns_edge l much = omega (arith, much, parts_of_edge)

-- what two promises of a value say together
pub both_ok : {T E : Type 0} (r : Result T E) (P Q R : Type 0) → (P → Q → R) → OnOk r P → OnOk r Q → OnOk r R
both_ok (Ok x) P Q R f h k = f h k
both_ok (Err e) P Q R f h k = tt

-- some edges are too much, and so are these with others
pub overruns_more : (es fs : Edges) (l : Listing) → Overruns es l → Overruns (es ++ fs) l
overruns_more es fs l h = omega (arith, h, total_append edge_parts es fs)

-- cuts that are tried one after another

module _ (labels : List ℕ) (key : ℕ × ℕ × ℕ × ℕ) (r : StringRule ℕ) where
  -- none is done at first
  pub done_first : (cuts : List (List ℕ)) (l : Listing) → AreDone labels key r cuts cuts l l
  done_first cuts l = record { cuts = []; are = refl; adds = adds_none key l }

  -- one more cut is done
  pub done_next :
      (before now : List (List ℕ)) (places : List ℕ) (next : List (List ℕ)) (old l new : Listing) → now ≡ places ∷ next →
      AreDone labels key r before now old l → Adds key (cut_edge labels key r places ∷ []) l new → AreDone labels key r before next old new
  done_next before now places next old l new is d a = record {
    cuts = d.cuts ++ places ∷ [];
    are = d.are ∙ ap (λ cs. d.cuts ++ cs) is ∙ sym (append_assoc d.cuts (places ∷ []) next);
    adds = subst (λ es. Adds key es old new) (sym (map-append (cut_edge labels key r) d.cuts (places ∷ []))) (adds_both key (map (cut_edge labels key r) d.cuts) (cut_edge labels key r places ∷ []) old l new d.adds a);
  }

  -- the edge of one more cut is too much
  pub done_overruns :
      (before now : List (List ℕ)) (places : List ℕ) (next : List (List ℕ)) (old l : Listing) → now ≡ places ∷ next →
      AreDone labels key r before now old l → Overruns (cut_edge labels key r places ∷ []) l → Overruns (map (cut_edge labels key r) before) old
  done_overruns before now places next old l is d o =
      let edge = cut_edge labels key r in
      let split : map edge before ≡ map edge d.cuts ++ map edge (places ∷ next) = ap (map edge) (d.are ∙ ap (λ cs. d.cuts ++ cs) is) ∙ map-append edge d.cuts (places ∷ next) in
      subst (λ es. Overruns es old) (sym split) (overruns_behind key (map edge d.cuts) (map edge (places ∷ next)) old l d.adds (overruns_more (edge places ∷ []) (map edge next) l o))

  -- all are done
  pub done_all : (before now : List (List ℕ)) (old l : Listing) → now ≡ [] → AreDone labels key r before now old l → Adds key (map (cut_edge labels key r) before) old l
  done_all before now old l none d =
      let all : before ≡ d.cuts = d.are ∙ ap (λ cs. d.cuts ++ cs) none ∙ append_nil d.cuts in
      subst (λ cs. Adds key (map (cut_edge labels key r) cs) old l) (sym all) d.adds
