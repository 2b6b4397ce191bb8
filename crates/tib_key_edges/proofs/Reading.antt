-- How rules over places are read where the list of their ends goes on, and what they read as.
use Rattle.std.specs.Prelude.{◌≡◌, ℕ, ◌+◌, ◌<◌, ◌↔◌, List, [], ◌∷◌, ◌++◌, length, map, refl, slice_index_or}
use Rattle.std.proofs.Common.{suc, arith, ap, sym, ◌∙◌, subst, get_or, append_assoc}
use Rattle.std.proofs.lemmas.List.{length-append}
use Rattle.tib_lex.specs.Lists.{Has, Each, Along}
use Rattle.tib_lex.proofs.Lists.{each_weaker, append_nil, length_map}
use Rattle.tib_lex.proofs.Alongs.{along_of, along_back}
use Rattle.tib_lex.proofs.Places.{index_get}
use Rattle.tib_tree.specs.Trees.{Trees, none, tree, only, relabel}
use Rattle.tib_grammar.specs.Sides.{Symbol, label, hole, Side as SideFor, holes, holes_of, HolesAreLeaves, symbol_map, side_map}
use Rattle.tib_grammar.specs.declared.Rule.{Rule}
use Rattle.tib_grammar.specs.Positions.{all_ends}
use Rattle.tib_grammar.proofs.Positions.{has_end, end_has}
use Rattle.tib_expand.specs.EdgeLists.{IsWithin, key_at, IsEnd}
use Rattle.tib_key_edges.specs.Ends.{ends_from}
use Rattle.tib_key_edges.proofs.Ends.{within_wider, place_stays, ends_within}
use Rattle.tib_key_edges.specs.declared.side_rule.SideRule.{SideRule}
use Rattle.tib_key_edges.specs.SideRules.{numbered, numbered_root, numbered_side, places_of, read_places, Reads}
use Rattle.tib_key_edges.specs.SideRuleLaws.{reads_places}

-- places of a list that goes on

module _ {K : Type 0} where
  index_seam : (xs : List K) (y : K) (ys : List K) (d : K) → slice_index_or (xs ++ y ∷ ys) (length xs) d ≡ y
  index_seam [] y ys d = refl
  index_seam (x ∷ xs) y ys d = index_seam xs y ys d

  -- numbered sides over a list in which the keys of their holes are consecutive
  numbers_read :
      {P : Type 0} (f : P → K) (d : K) (all : List K) (ts : Trees (Symbol ℕ P)) (n : ℕ) (xs zs : List K) → HolesAreLeaves ts → n ≡ length xs → all ≡ xs ++ (map f (holes ts) ++ zs) →
      relabel (symbol_map {A = ℕ} (λ i. slice_index_or all i d)) (numbered n ts) ≡ relabel (symbol_map f) ts
  numbers_read f d all none n xs zs h at is = refl
  numbers_read {P} f d all (tree (label x) kids rest) n xs zs h at is =
      let first : List K = map f (holes kids) in
      let second : List K = map f (holes rest) in
      let both : map f (holes kids ++ holes rest) ≡ first ++ second = mapped (holes kids) (holes rest) in
      let all_is : all ≡ xs ++ ((first ++ second) ++ zs) = is ∙ ap (λ ks. xs ++ (ks ++ zs)) both in
      let inner : all ≡ xs ++ (first ++ (second ++ zs)) = all_is ∙ ap (λ ks. xs ++ ks) (append_assoc first second zs) in
      let outer : all ≡ (xs ++ first) ++ (second ++ zs) = inner ∙ sym (append_assoc xs first (second ++ zs)) in
      let long : n + length (holes kids) ≡ length (xs ++ first) = omega (arith, at, length-append xs first, lengths (holes kids)) in
      ap (λ ks. tree (label x) ks (relabel (symbol_map (λ i. slice_index_or all i d)) (numbered (n + length (holes kids)) rest))) (numbers_read f d all kids n xs (second ++ zs) h.0 at inner)
      ∙ ap (λ rs. tree (label x) (relabel (symbol_map f) kids) rs) (numbers_read f d all rest (n + length (holes kids)) (xs ++ first) zs h.1 long outer)
    where
      mapped : (ps qs : List P) → map f (ps ++ qs) ≡ map f ps ++ map f qs
      mapped [] qs = refl
      mapped (p ∷ ps) qs = ap (λ ks. f p ∷ ks) (mapped ps qs)

      lengths : (ps : List P) → length (map f ps) ≡ length ps
      lengths [] = refl
      lengths (p ∷ ps) = ap suc (lengths ps)
  numbers_read f d all (tree (hole p) none rest) n xs zs h at is =
      let here : slice_index_or all n d ≡ f p = ap (λ m. slice_index_or all m d) at ∙ ap (λ ks. slice_index_or ks (length xs) d) is ∙ index_seam xs (f p) (map f (holes rest) ++ zs) d in
      let more : all ≡ (xs ++ f p ∷ []) ++ (map f (holes rest) ++ zs) = is ∙ sym (append_assoc xs (f p ∷ []) (map f (holes rest) ++ zs)) in
      let long : suc n ≡ length (xs ++ f p ∷ []) = omega (arith, at, length-append xs (f p ∷ [])) in
      ap (λ k. tree (hole k) none (relabel (symbol_map (λ i. slice_index_or all i d)) (numbered (suc n) rest))) here
      ∙ ap (λ rs. tree (hole (f p)) none rs) (numbers_read f d all rest (suc n) (xs ++ f p ∷ []) zs h long more)
  numbers_read f d all (tree (hole p) (tree s kids more) rest) n xs zs h at is = absurd h

  -- the same for one side
  pub side_reads :
      {P : Type 0} (f : P → K) (d : K) (side : SideFor ℕ P) (xs : List K) → HolesAreLeaves (only side) →
      side_map (λ i. slice_index_or (xs ++ map f (holes_of side)) i d) (numbered_side (length xs) side) ≡ side_map f side
  side_reads {P} f d side xs h = by side.label side.kids h
    where
      by :
          (s : Symbol ℕ P) (kids : Trees (Symbol ℕ P)) → HolesAreLeaves (tree s kids none) →
          side_map (λ i. slice_index_or (xs ++ map f (holes (tree s kids none))) i d) (numbered_root (length xs) s kids) ≡ side_map f (record { label = s; kids = kids })
      by (label x) kids h =
          let is : xs ++ map f (holes kids ++ []) ≡ xs ++ (map f (holes kids) ++ []) = ap (λ ks. xs ++ ks) (ap (map f) (append_nil (holes kids)) ∙ sym (append_nil (map f (holes kids)))) in
          ap (λ ks. record { label = label x; kids = ks }) (numbers_read f d (xs ++ map f (holes kids ++ [])) kids (length xs) xs [] h.0 refl is)
      by (hole p) none h = ap (λ k. record { label = hole k; kids = none }) (index_seam xs (f p) [] d)
      by (hole p) (tree s kids more) h = absurd h

-- rules read over longer lists

module _ {K H : Type 0} (order : List K) where
  -- a rule reads the same where the ends go on
  pub reads_longer : (xs ys : List K) (r : SideRule H) (e : Rule K) → Reads order xs r e → Reads order (xs ++ ys) r e
  reads_longer xs ys r e h = record {
    within = each_weaker (IsWithin (length order) (length xs)) (IsWithin (length order) (length (xs ++ ys))) (places_of r)
        (within_wider (length order) (length xs) (length (xs ++ ys)) (omega (arith, length-append xs ys))) h.within;
    read = λ d.
        reads_places r (key_at d order (xs ++ ys)) (key_at d order xs)
        (each_weaker (IsWithin (length order) (length xs)) (λ p. key_at d order (xs ++ ys) p ≡ key_at d order xs p) (places_of r) (place_stays d order xs ys) h.within)
        ∙ h.read d;
  }

  -- a rule over new ends after the others
  pub reads_new :
      (default : K) (xs : List K) (key : K) (f : H → K) (r : SideRule H) (side : SideFor ℕ H) (n cost : ℕ) → HolesAreLeaves (only side) →
      n < length order → get_or order n default ≡ key → r.position ≡ n → r.side.now ≡ side → r.first_end ≡ length xs → r.cost ≡ cost →
      Reads order (xs ++ map f (holes_of side)) r (record { left = key; right = side_map f side; cost = cost })
  reads_new default xs key f r side n cost leaves below is position right first costs = record {
    within = (
      subst (λ p. p < length order) (sym position) below,
      subst (λ s. Each (IsWithin (length order) (length (xs ++ map f (holes_of side)))) (ends_from r.first_end (length (holes_of s)))) (sym right)
          (ends_within (length order) (length (xs ++ map f (holes_of side))) r.first_end (length (holes_of side)) (omega (arith, first, length-append xs (map f (holes_of side)), length_map f (holes_of side)))),
    );
    read = λ d.
        let all = xs ++ map f (holes_of side) in
        ap (λ k. record { left = k; right = side_map (λ i. slice_index_or all i d) (numbered_side r.first_end r.side.now); cost = r.cost })
        (ap (λ p. slice_index_or order p d) position ∙ index_get order n d default below ∙ is)
        ∙ ap (λ m. record { left = key; right = side_map (λ i. slice_index_or all i d) (numbered_side m r.side.now); cost = r.cost }) first
        ∙ ap (λ s. record { left = key; right = side_map (λ i. slice_index_or all i d) (numbered_side (length xs) s); cost = r.cost }) right
        ∙ ap (λ s. record { left = key; right = s; cost = r.cost }) (side_reads f d side xs leaves)
        ∙ ap (λ c. record { left = key; right = side_map f side; cost = c }) costs;
  }

  -- rules that read as edges are within
  pub reads_within : (ends : List K) (rules : List (SideRule H)) (es : List (Rule K)) → Along (Reads order ends) rules es → Each (λ r. Each (IsWithin (length order) (length ends)) (places_of r)) rules
  reads_within ends [] es a = tt
  reads_within ends (r ∷ rules) [] a = absurd a
  reads_within ends (r ∷ rules) (e ∷ es) a = (a.0.within, reads_within ends rules es a.1)

  -- and read as these edges
  pub reads_all : (ends : List K) (d : K) (rules : List (SideRule H)) (es : List (Rule K)) → Along (Reads order ends) rules es → map (read_places (key_at d order ends)) rules ≡ es
  reads_all ends d [] [] a = refl
  reads_all ends d [] (e ∷ es) a = absurd a
  reads_all ends d (r ∷ rules) [] a = absurd a
  reads_all ends d (r ∷ rules) (e ∷ es) a = ap (λ x. x ∷ map (read_places (key_at d order ends)) rules) (a.0.read d) ∙ ap (λ xs. e ∷ xs) (reads_all ends d rules es a.1)

-- the ends of a list of all edges are those of all edges
pub both_ends :
    {O K : Type 0} (Gives : O → Rule K → Type 0) → ((o : O) (e f : Rule K) → Gives o e → Gives o f → e ≡ f) → (origins : List O) (edges : List (Rule K)) → Along Gives origins edges →
    ((o : O) (e : Rule K) → Gives o e → Has origins o) → (ends : List K) → ends ≡ all_ends edges → (k : K) → Has ends k ↔ IsEnd Gives (λ e. holes_of e.right) k
both_ends {O} {K} Gives one origins edges given all ends are k = (to, from)
  where
    to : Has ends k → IsEnd Gives (λ e. holes_of e.right) k
    to h =
        let r = has_end edges k (subst (λ xs. Has xs k) are h) in
        let o = along_back Gives origins edges r.0 given r.1 in
        (o.0, r.0, o.1, r.2)

    from : IsEnd Gives (λ e. holes_of e.right) k → Has ends k
    from h =
        let a = along_of Gives origins edges h.0 given (all h.0 h.1 h.2) in
        let same : h.1 ≡ a.0 = one h.0 h.1 a.0 h.2 a.1 in
        subst (λ xs. Has xs k) (sym are) (end_has edges a.0 k a.2 (subst (λ (x : Rule K). Has (holes_of x.right) k) same h.3))

-- a list of length 0 is empty
pub nothing : {A : Type 0} (xs : List A) → length xs ≡ 0 → xs ≡ []
nothing [] h = refl
nothing (x ∷ xs) h = absurd (omega arith)
