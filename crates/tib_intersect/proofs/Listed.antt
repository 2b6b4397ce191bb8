-- One more edge, and what whole lists of edges say.
use Rattle.std.specs.Prelude.{◌≡◌, ℕ, ◌+◌, ◌<◌, ◌≤◌, List, [], ◌∷◌, ◌++◌, length, map, take, zip, refl, slice_index_or}
use Rattle.std.proofs.Common.{suc, arith, ap, sym, ◌∙◌, subst, get_or, inl, inr, append_assoc}
use Rattle.std.proofs.lemmas.List.{length-append, map_more}
use Rattle.tib_lex.specs.Lists.{Has, Each, Distinct, Along}
use Rattle.tib_tree.specs.Trees.{sizes}
use Rattle.tib_cost.specs.Semiring.{most}
use Rattle.tib_grammar.specs.Sides.{Symbol, label, leaves, over}
use Rattle.tib_grammar.specs.Run.{rule_at}
use Rattle.tib_grammar.specs.Forms.{IsNormalSide}
use Rattle.tib_grammar.proofs.NormalRuns.{label_named}
use Rattle.tib_grammar.specs.declared.Rule.{Rule}
use Rattle.tib_grammar.proofs.Sides.{holes_of-over}
use Rattle.tib_expand.specs.EdgeLists.{IsWithin, key_at}
use Rattle.tib_intersect.specs.declared.listing.PairListing.{PairListing}
use Rattle.tib_intersect.specs.declared.pair_rule.PairRule.{PairRule}
use Rattle.tib_intersect.specs.PairEdges.{IsPairEdge, ends_of, edge_parts}
use Rattle.tib_intersect.specs.PairRules.{places_of, Reads}
use Rattle.tib_intersect.specs.PairListing.{states_of, pairs_of, all_ends, Agree, IsAdded, IsPassed, IsNext, IsTooMuch, IsListed, Overruns, Stands}
use Rattle.tib_intersect.specs.PairLaws.{reads_places}
use Rattle.tib_lex.proofs.Members.{distinct_more, each_has, has_at, has_left, has_right, has_either}
use Rattle.tib_lex.proofs.Lists.{each_weaker, total_more}
use Rattle.tib_lex.proofs.Places.{not_before, index_get}
use Rattle.tib_lex.proofs.Alongs.{along_more, along_map}
use Rattle.tib_key_edges.specs.Ends.{ends_from, key_at as pair_at}
use Rattle.tib_key_edges.proofs.Ends.{within_wider, place_stays, ends_within}

module _ {K : Type 0} where
  -- the element after the first list
  pub index_seam : (xs : List K) (y : K) (ys : List K) (d : K) → slice_index_or (xs ++ y ∷ ys) (length xs) d ≡ y
  index_seam [] y ys d = refl
  index_seam (x ∷ xs) y ys d = index_seam xs y ys d

  -- the ends after a list are read in order
  pub reads_ends : (d : K) (order xs zs : List K) (n : ℕ) → n ≡ length xs → map (key_at d order (xs ++ zs)) (ends_from n (length zs)) ≡ zs
  reads_ends d order xs [] n e = refl
  reads_ends d order xs (z ∷ zs) n e =
      ap (λ k. k ∷ map (key_at d order (xs ++ z ∷ zs)) (ends_from (suc n) (length zs))) (ap (λ j. slice_index_or (xs ++ z ∷ zs) j d) e ∙ index_seam xs z zs d)
      ∙ ap (λ ks. z ∷ ks)
      (ap (λ ys. map (key_at d order ys) (ends_from (suc n) (length zs))) (sym (append_assoc xs (z ∷ []) zs))
      ∙ reads_ends d order (xs ++ z ∷ []) zs (suc n) (omega (arith, e, length-append xs (z ∷ []))))

-- a rule reads the same where the ends go on
pub reads_longer : (order xs ys : List (ℕ × ℕ)) (r : PairRule) (e : Rule (ℕ × ℕ)) → Reads order xs r e → Reads order (xs ++ ys) r e
reads_longer order xs ys r e h = record {
  within = each_weaker (IsWithin (length order) (length xs)) (IsWithin (length order) (length (xs ++ ys))) (places_of r)
      (within_wider (length order) (length xs) (length (xs ++ ys)) (omega (arith, length-append xs ys))) h.within;
  read = λ d.
      reads_places r (key_at d order (xs ++ ys)) (key_at d order xs)
      (each_weaker (IsWithin (length order) (length xs)) (λ p. key_at d order (xs ++ ys) p ≡ key_at d order xs p) (places_of r) (place_stays d order xs ys) h.within)
      ∙ h.read d;
}

-- a rule over new ends after the others
pub reads_new :
    (order xs zs : List (ℕ × ℕ)) (n root rank cost : ℕ) (key : ℕ × ℕ) → n < length order → pair_at order n ≡ key → rank ≡ length zs →
    Reads order (xs ++ zs) (record { position = n; label = root; first_end = length xs; rank = rank; cost = cost }) (record { left = key; right = over root zs; cost = cost })
reads_new order xs zs n root rank cost key h is e = record {
  within = (h, ends_within (length order) (length (xs ++ zs)) (length xs) rank (omega (arith, e, length-append xs zs)));
  read = λ d.
      ap (λ k. record { left = k; right = over root (map (key_at d order (xs ++ zs)) (ends_from (length xs) rank)); cost = cost }) (index_get order n d (0, 0) h ∙ is)
      ∙ ap (λ ks. record { left = key; right = over root ks; cost = cost }) (ap (λ j. map (key_at d order (xs ++ zs)) (ends_from (length xs) j)) e ∙ reads_ends d order xs zs (length xs) refl);
}

sizes-leaves : {P : Type 0} (ps : List P) → sizes {A = Symbol ℕ P} (leaves ps) ≡ length ps
sizes-leaves [] = refl
sizes-leaves (p ∷ ps) = omega (arith, sizes-leaves ps)

length-zip : {A B : Type 0} (xs : List A) (ys : List B) → length xs ≡ length ys → length (zip xs ys) ≡ length xs
length-zip [] [] e = refl
length-zip [] (y ∷ ys) e = absurd (omega arith)
length-zip (x ∷ xs) [] e = absurd (omega arith)
length-zip (x ∷ xs) (y ∷ ys) e = ap suc (length-zip xs ys (omega arith))

all_ends-more : (es : List (Rule (ℕ × ℕ))) (e : Rule (ℕ × ℕ)) → all_ends (es ++ e ∷ []) ≡ all_ends es ++ ends_of e
all_ends-more [] e = nil (ends_of e)
  where
    nil : (xs : List (ℕ × ℕ)) → xs ++ [] ≡ xs
    nil [] = refl
    nil (x ∷ xs) = ap (λ ys. x ∷ ys) (nil xs)
all_ends-more (x ∷ es) e = ap (λ ys. ends_of x ++ ys) (all_ends-more es e) ∙ sym (append_assoc (ends_of x) (all_ends es) (ends_of e))

at-pair : (k : ℕ × ℕ) {l r : ℕ} → k.0 ≡ l → k.1 ≡ r → k ≡ (l, r)
at-pair k {l} {r} e d = ap (λ a. (a, k.1)) e ∙ ap (λ b. (l, b)) d

-- the two rules of an origin, which agree, for the pair at a position of an order
pub record AreRules (ones twos : List (Rule ℕ)) (order : List (ℕ × ℕ)) (n i j : ℕ) (one two : Rule ℕ) : Type 0 where
  pub first_below : i < length ones
  pub first_is : one ≡ rule_at ones i
  pub second_below : j < length twos
  pub second_is : two ≡ rule_at twos j
  pub within : n < length order
  pub first : (pair_at order n).0 ≡ one.left
  pub second : two.left ≡ (pair_at order n).1
  pub agree : Agree one two

module _ (product : ℕ → ℕ → ℕ) (ones twos : List (Rule ℕ)) (order : List (ℕ × ℕ)) (n : ℕ) where
  -- the edge of two rules
  pub edge_of :
      (i j root : ℕ) (one two : Rule ℕ) → AreRules ones twos order n i j one two → one.right.label ≡ label root → product one.cost two.cost ≤ most →
      IsPairEdge product ones twos (pair_at order n) (i, j) (record { left = pair_at order n; right = over root (pairs_of one two); cost = product one.cost two.cost })
  edge_of i j root one two are is within = record {
    first = are.first_below;
    second = are.second_below;
    from = at-pair (pair_at order n) (are.first ∙ ap (λ r. r.left) are.first_is) (sym are.second ∙ ap (λ r. r.left) are.second_is);
    root = root;
    first_root = ap (λ r. r.right.label) (sym are.first_is) ∙ is;
    second_root = ap (λ r. r.right.label) (sym are.second_is) ∙ sym are.agree.root ∙ is;
    rank = ap (λ r. length (states_of r)) (sym are.first_is) ∙ are.agree.rank ∙ ap (λ r. length (states_of r)) are.second_is;
    left = refl;
    right = ap (λ r. over root (pairs_of r two)) are.first_is ∙ ap (λ r. over root (pairs_of (rule_at ones i) r)) are.second_is;
    costs = ap (λ r. product r.cost two.cost) are.first_is ∙ ap (λ r. product (rule_at ones i).cost r.cost) are.second_is;
    within = within;
  }

  parts-of : (root : ℕ) (one two : Rule ℕ) (key : ℕ × ℕ) (c : ℕ) → Agree one two → edge_parts (record { left = key; right = over root (pairs_of one two); cost = c }) ≡ 2 + length (states_of one)
  parts-of root one two key c agree = omega (arith, sizes-leaves (pairs_of one two), length-zip (states_of one) (states_of two) agree.rank)

  module _ (i j : ℕ) (one two : Rule ℕ) (are : AreRules ones twos order n i j one two) (tried : List (ℕ × ℕ)) (fresh : Has tried (i, j) → ⊥) where
    listed_added : (l m : PairListing) → l.position ≡ n → IsListed product ones twos order n tried l → IsAdded product one two l m → IsListed product ones twos order n (tried ++ (i, j) ∷ []) m
    listed_added l m at listed added =
        let e : Rule (ℕ × ℕ) = record { left = pair_at order n; right = over added.root (pairs_of one two); cost = product one.cost two.cost } in
        let new : PairRule = record { position = l.position; label = added.root; first_end = length l.ends.items; rank = length (states_of one); cost = product one.cost two.cost } in
        let is : IsPairEdge product ones twos (pair_at order n) (i, j) e = edge_of i j added.root one two are added.is_root added.within in
        let old : Along (Reads order m.ends.items) l.rules.items listed.edges =
        subst (λ es. Along (Reads order es) l.rules.items listed.edges) (sym added.ends)
        (along_map (Reads order l.ends.items) (Reads order (l.ends.items ++ pairs_of one two)) (λ r f. reads_longer order l.ends.items (pairs_of one two) r f) l.rules.items listed.edges listed.read)
        in
        let here : Reads order m.ends.items new e =
        subst (λ es. Reads order es new e) (sym added.ends)
        (subst (λ p. Reads order (l.ends.items ++ pairs_of one two) (record { position = p; label = added.root; first_end = length l.ends.items; rank = length (states_of one); cost = product one.cost two.cost }) e) (sym at)
        (reads_new order l.ends.items (pairs_of one two) n added.root (length (states_of one)) (product one.cost two.cost) (pair_at order n) are.within refl (sym (length-zip (states_of one) (states_of two) are.agree.rank))))
        in
        record {
          origins = listed.origins ++ (i, j) ∷ [];
          edges = listed.edges ++ e ∷ [];
          once = distinct_more listed.origins (i, j) listed.once (λ h. fresh (listed.were_tried (i, j) h));
          given = along_more (IsPairEdge product ones twos (pair_at order n)) listed.origins listed.edges (i, j) e listed.given is;
          were_tried = λ o h. elim (has_either listed.origins ((i, j) ∷ []) o h) [
            | inl k ↦ has_left tried ((i, j) ∷ []) o (listed.were_tried o k)
            | inr k ↦ has_right tried ((i, j) ∷ []) o k
          ];
          whole = λ o f h d. elim (has_either tried ((i, j) ∷ []) o h) [
            | inl k ↦ has_left listed.origins ((i, j) ∷ []) o (listed.whole o f k d)
            | inr k ↦ has_right listed.origins ((i, j) ∷ []) o k
          ];
          read = subst (λ rs. Along (Reads order m.ends.items) rs (listed.edges ++ e ∷ [])) (sym added.rules) (along_more (Reads order m.ends.items) l.rules.items listed.edges new e old here);
          ends_are = added.ends
              ∙ ap (λ es. es ++ pairs_of one two) listed.ends_are
              ∙ ap (λ zs. all_ends listed.edges ++ zs) (sym (holes_of-over added.root (pairs_of one two)))
              ∙ sym (all_ends-more listed.edges e);
          counted = omega (arith, added.parts, listed.counted, total_more edge_parts listed.edges e, parts-of added.root one two (pair_at order n) (product one.cost two.cost) are.agree);
        }

    no_edge : most < product one.cost two.cost → (o : ℕ × ℕ) (e : Rule (ℕ × ℕ)) → (i, j) ≡ o → IsPairEdge product ones twos (pair_at order n) o e → ⊥
    no_edge above o e same is =
        let at : IsPairEdge product ones twos (pair_at order n) (i, j) e = subst (λ p. IsPairEdge product ones twos (pair_at order n) p e) (sym same) is in
        let cost : e.cost ≡ product one.cost two.cost = at.costs ∙ sym (ap (λ r. product r.cost two.cost) are.first_is ∙ ap (λ r. product (rule_at ones i).cost r.cost) are.second_is) in
        absurd (omega (arith, at.within))

    listed_passed : (l m : PairListing) → IsListed product ones twos order n tried l → IsPassed product one two l m → IsListed product ones twos order n (tried ++ (i, j) ∷ []) m
    listed_passed l m listed passed = record {
      origins = listed.origins;
      edges = listed.edges;
      once = listed.once;
      given = listed.given;
      were_tried = λ o h. has_left tried ((i, j) ∷ []) o (listed.were_tried o h);
      whole = λ o e h d. elim (has_either tried ((i, j) ∷ []) o h) [
        | inl k ↦ listed.whole o e k d
        | inr k ↦ elim k [ inl same ↦ absurd (no_edge passed.above o e same d) | inr nothing ↦ absurd nothing ]
      ];
      read = subst (λ rs. Along (Reads order m.ends.items) rs listed.edges) (sym passed.rules) (subst (λ es. Along (Reads order es) l.rules.items listed.edges) (sym passed.ends) listed.read);
      ends_are = passed.ends ∙ listed.ends_are;
      counted = passed.parts ∙ listed.counted;
    }

    -- one more origin
    pub listed_next : (l m : PairListing) → l.position ≡ n → IsListed product ones twos order n tried l → IsNext product one two l m → IsListed product ones twos order n (tried ++ (i, j) ∷ []) m
    listed_next l m at listed next = elim next [ inl a ↦ listed_added l m at listed a | inr p ↦ listed_passed l m listed p ]

    -- an origin whose edge is too much
    pub overruns_next : (l : PairListing) → (root : ℕ) → one.right.label ≡ label root → IsListed product ones twos order n tried l → IsTooMuch product one two l → Overruns product ones twos order n l.budget
    overruns_next l root is listed much =
        let e : Rule (ℕ × ℕ) = record { left = pair_at order n; right = over root (pairs_of one two); cost = product one.cost two.cost } in
        record {
          origins = listed.origins ++ (i, j) ∷ [];
          edges = listed.edges ++ e ∷ [];
          once = distinct_more listed.origins (i, j) listed.once (λ h. fresh (listed.were_tried (i, j) h));
          given = along_more (IsPairEdge product ones twos (pair_at order n)) listed.origins listed.edges (i, j) e listed.given (edge_of i j root one two are is much.within);
          more = omega (arith, much.more, listed.counted, total_more edge_parts listed.edges e, parts-of root one two (pair_at order n) (product one.cost two.cost) are.agree);
        }

has_second : (i j : ℕ) (js : List ℕ) → Has {A = ℕ × ℕ} (map (λ j. (i, j)) js) (i, j) → Has js j
has_second i j [] h = h
has_second i j (k ∷ js) h = elim h [ inl e ↦ inl (ap (λ o. o.1) e) | inr m ↦ inr (has_second i j js m) ]

-- one position of a list of matches
module _
    (ones twos : List (Rule ℕ)) (order : List (ℕ × ℕ)) (n i : ℕ) (one : Rule ℕ) (ps : List ℕ) (k : ℕ)
    (fits : Each (λ j. (j < length twos) × Agree one (rule_at twos j)) ps) (distinct : Distinct ps) (h : k < length ps) where
  -- the match is a rule of the second grammar
  pub place_below : get_or ps k 0 < length twos
  place_below = (each_has (λ j. (j < length twos) × Agree one (rule_at twos j)) ps (get_or ps k 0) fits (has_at ps k 0 h)).0

  -- which two rules give the next edge
  pub rules_here : (two : Rule ℕ) → two ≡ rule_at twos (get_or ps k 0) → Stands ones twos order i n one ps → AreRules ones twos order n i (get_or ps k 0) one two
  rules_here two is stands =
      let fit = each_has (λ j. (j < length twos) × Agree one (rule_at twos j)) ps (get_or ps k 0) fits (has_at ps k 0 h) in
      record {
        first_below = stands.below;
        first_is = stands.is;
        second_below = fit.0;
        second_is = is;
        within = stands.within;
        first = stands.first;
        second = ap (λ r. r.left) is ∙ stands.second (get_or ps k 0) (has_at ps k 0 h);
        agree = subst (Agree one) (sym is) fit.1;
      }

  -- the next origin was not tried
  pub not_tried : (tried : List (ℕ × ℕ)) → ((j : ℕ) → Has tried (i, j) → ⊥) → Has {A = ℕ × ℕ} (tried ++ map (λ j. (i, j)) (take k ps)) (i, get_or ps k 0) → ⊥
  not_tried tried fresh has = elim (has_either tried (map (λ j. (i, j)) (take k ps)) (i, get_or ps k 0) has) [
    | inl m ↦ fresh (get_or ps k 0) m
    | inr m ↦ not_before ps k 0 distinct h (has_second i (get_or ps k 0) (take k ps) m)
  ]

  -- the next origin is tried
  pub tried_more : (tried : List (ℕ × ℕ)) → (tried ++ map (λ j. (i, j)) (take k ps)) ++ (i, get_or ps k 0) ∷ [] ≡ tried ++ map (λ j. (i, j)) (take (k + 1) ps)
  tried_more tried = append_assoc tried (map (λ j. (i, j)) (take k ps)) ((i, get_or ps k 0) ∷ []) ∙ ap (λ (zs : List (ℕ × ℕ)). tried ++ zs) (sym (map_more (λ j. (i, j)) ps k 0 h))

-- as many pairs as states of the first rule
pub length-pairs : (one two : Rule ℕ) → Agree one two → length (pairs_of one two) ≡ length (states_of one)
length-pairs one two agree = length-zip (states_of one) (states_of two) agree.rank

-- one more rule, with equal numbers
pub rules_are :
    (rules : List PairRule) (position root : ℕ) {first first' rank rank' cost cost' : ℕ} → first ≡ first' → rank ≡ rank' → cost ≡ cost' →
    rules ++ record { position = position; label = root; first_end = first; rank = rank; cost = cost } ∷ []
    ≡ rules ++ record { position = position; label = root; first_end = first'; rank = rank'; cost = cost' } ∷ []
rules_are rules position root e d k = rw (e, d, k)

-- the root of a rule in normal form is a label
pub root_of : (one : Rule ℕ) → IsNormalSide one.right → (f : ℕ) × (one.right.label ≡ label f)
root_of one normal = label_named one.right.label normal.is_label

-- the ends of the next edge
pub pairs_are : (old now : List (ℕ × ℕ)) (one two : Rule ℕ) (xs ys : List ℕ) → xs ≡ states_of one → ys ≡ states_of two → now ≡ old ++ zip xs ys → now ≡ old ++ pairs_of one two
pairs_are old now one two xs ys e d h = h ∙ ap (λ (zs : List ℕ). old ++ zip zs ys) e ∙ ap (λ (zs : List ℕ). old ++ zip (states_of one) zs) d
