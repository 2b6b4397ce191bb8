-- One more edge in a list of edges.
use Rattle.std.specs.Prelude.{◌≡◌, ℕ, ◌+◌, ◌<◌, ◌≤◌, List, [], ◌∷◌, ◌++◌, length, map, refl, slice_index_or}
use Rattle.std.proofs.Common.{suc, arith, ap, sym, ◌∙◌, subst, get_or, append_assoc, append-nil}
use Rattle.std.proofs.lemmas.List.{length-append, length-map}
use Rattle.tib_lex.specs.Lists.{Each, total}
use Rattle.tib_lex.proofs.Lists.{each_weaker}
use Rattle.tib_lex.proofs.Places.{index_get}
use Rattle.tib_tree.specs.Trees.{Trees, none, tree, only, count, size, preorder, preorder_of, first_of, parse, parse_of}
use Rattle.tib_tree.proofs.Counts.{length-preorder}
use Rattle.tib_grammar.specs.Sides.{Symbol, label, hole, Side as SideFor, holes_of, side_map}
use Rattle.tib_grammar.specs.Items.{pairs_of, pair_of, holes_in}
use Rattle.tib_grammar.specs.declared.Item.{Item}
use Rattle.tib_grammar.specs.declared.Item.TheVariants.{Label, Hole}
use Rattle.tib_grammar.proofs.Holes.{holes_of_items}
use Rattle.tib_expand.specs.EdgeLists.{IsWithin, key_at}
use Rattle.tib_expand.specs.declared.place.Place.{Place}
use Rattle.tib_expand.specs.declared.place.Place.TheVariants.{Known}
use Rattle.tib_key_edges.proofs.Ends.{within_wider, place_stays}
use Rattle.tib_transducer.specs.Rules.{states_in}
use Rattle.tib_transducer.specs.declared.Pair.{Pair}
use Rattle.tib_transducer.specs.declared.Variable.{Variable}
use Rattle.tib_transducer.specs.declared.TransducerRule.{TransducerRule}
use Rattle.tib_transducer.specs.NamedPairs.{named_pair, named_item}
use Rattle.tib_transducer.proofs.NamedItems.{preorder-named}
use Rattle.tib_key_edges.specs.Composition.{ends_of, edge_parts}
use Rattle.tib_key_edges.specs.Named.{named_transducer_rule}
use Rattle.tib_compose.specs.EdgeLaws.{places_of, rule_of, all_states, reads_rule}
use Rattle.tib_compose.specs.CompositionListing.{placed, keys_in, all_ends, edge_of, IsAdded, IsTooMuch, IsListing}
use Rattle.tib_compose.specs.declared.listing.CompositionListing.{CompositionListing}
use Rattle.tib_compose.specs.declared.placed_rule.PlacedRule.{PlacedRule}

-- sizes

-- a side has as many nodes as its preorder has places
pub size_is : {A : Type 0} (s : SideFor ℕ A) → size s ≡ length (preorder_of s)
size_is s = ap suc (sym (length-preorder s.kids))

-- and as it has items
pub items_size : {P : Type 0} (items : List (Item P)) (s : SideFor ℕ P) → pairs_of items ≡ preorder_of s → length items ≡ size s
items_size items s e = sym (length-map items pair_of) ∙ ap length e ∙ sym (size_is s)

pub length-placed : (n : ℕ) (items : List (Item (Pair (ℕ × ℕ)))) → length (placed n items) ≡ length items
length-placed n [] = refl
length-placed n (Label f rank ∷ items) = ap suc (length-placed n items)
length-placed n (Hole x ∷ items) = ap suc (length-placed (suc n) items)

pub keys_few : (items : List (Item (Pair (ℕ × ℕ)))) → length (keys_in items) ≤ length items
keys_few [] = omega arith
keys_few (Label f rank ∷ items) = omega (arith, keys_few items)
keys_few (Hole x ∷ items) = omega (arith, keys_few items)

-- the ends stay within the parts
pub few_ends : (items : List (Item (Pair (ℕ × ℕ)))) (n : ℕ) (s : SideFor ℕ (Pair Place)) → preorder_of s ≡ pairs_of (placed n items) → length (keys_in items) ≤ size s
few_ends items n s e = omega (arith, keys_few items, size_is s, ap length e, length-map (placed n items) pair_of, length-placed n items)

-- places of a list that goes on

index_seam : {K : Type 0} (xs : List K) (y : K) (ys : List K) (d : K) → slice_index_or (xs ++ y ∷ ys) (length xs) d ≡ y
index_seam [] y ys d = refl
index_seam (x ∷ xs) y ys d = index_seam xs y ys d

module _ (d : ℕ × ℕ) (order : List (ℕ × ℕ)) where
  -- placed items read back
  placed_reads : (items : List (Item (Pair (ℕ × ℕ)))) (n : ℕ) (xs all : List (ℕ × ℕ)) → n ≡ length xs → all ≡ xs ++ keys_in items → map (named_item (key_at d order all)) (placed n items) ≡ items
  placed_reads [] n xs all at is = refl
  placed_reads (Label f rank ∷ items) n xs all at is = ap (λ ys. Label f rank ∷ ys) (placed_reads items n xs all at is)
  placed_reads (Hole x ∷ items) n xs all at is =
      let here : slice_index_or all n d ≡ x.state = ap (λ m. slice_index_or all m d) at ∙ ap (λ ks. slice_index_or ks (length xs) d) is ∙ index_seam xs x.state (keys_in items) d in
      let more : all ≡ (xs ++ x.state ∷ []) ++ keys_in items = is ∙ sym (append_assoc xs (x.state ∷ []) (keys_in items)) in
      let long : suc n ≡ length (xs ++ x.state ∷ []) = omega (arith, at, length-append xs (x.state ∷ [])) in
      ap (λ (k : ℕ × ℕ). Hole (record { state = k; variable = x.variable }) ∷ map (named_item (key_at d order all)) (placed (suc n) items)) here
      ∙ ap (λ ys. Hole x ∷ ys) (placed_reads items (suc n) (xs ++ x.state ∷ []) all long more)

  -- what was put out is the preorder of the side that is read
  done_side : (items : List (Item (Pair (ℕ × ℕ)))) (xs : List (ℕ × ℕ)) (s : SideFor ℕ (Pair Place)) → preorder_of s ≡ pairs_of (placed (length xs) items) →
      pairs_of items ≡ preorder_of (side_map (named_pair (key_at d order (xs ++ keys_in items))) s)
  done_side items xs s e =
      ap pairs_of (sym (placed_reads items (length xs) xs (xs ++ keys_in items) refl refl))
      ∙ preorder-named (key_at d order (xs ++ keys_in items)) s (placed (length xs) items) (sym e)

  done_is : (items : List (Item (Pair (ℕ × ℕ)))) (xs : List (ℕ × ℕ)) (s : SideFor ℕ (Pair Place)) → preorder_of s ≡ pairs_of (placed (length xs) items) →
      first_of (label 0) (parse (pairs_of items)) ≡ side_map (named_pair (key_at d order (xs ++ keys_in items))) s
  done_is items xs s e =
      ap (λ ys. first_of (label 0) (parse ys)) (done_side items xs s e)
      ∙ ap (first_of (label 0)) (parse_of (side_map (named_pair (key_at d order (xs ++ keys_in items))) s))

  -- rules read the same over more ends
  rules_read : (xs ys : List (ℕ × ℕ)) (rules : List PlacedRule) → Each (λ r. Each (IsWithin (length order) (length xs)) (places_of (rule_of r))) rules →
      map (λ r. named_transducer_rule (key_at d order (xs ++ ys)) (rule_of r)) rules ≡ map (λ r. named_transducer_rule (key_at d order xs) (rule_of r)) rules
  rules_read xs ys [] h = refl
  rules_read xs ys (r ∷ rules) h =
      ap (λ z. z ∷ map (λ x. named_transducer_rule (key_at d order (xs ++ ys)) (rule_of x)) rules)
      (reads_rule (rule_of r) (key_at d order (xs ++ ys)) (key_at d order xs)
      (each_weaker (IsWithin (length order) (length xs)) (λ p. key_at d order (xs ++ ys) p ≡ key_at d order xs p) (places_of (rule_of r)) (place_stays d order xs ys) h.0))
      ∙ ap (λ zs. named_transducer_rule (key_at d order xs) (rule_of r) ∷ zs) (rules_read xs ys rules h.1)

-- the states in a preorder
abbrev states_along : {P : Type 0} → List (Symbol ℕ (Pair P) × ℕ) → List P
states_along [] = []
states_along ((label f, n) ∷ xs) = states_along xs
states_along ((hole x, n) ∷ xs) = x.state ∷ states_along xs

states_append : {P : Type 0} (xs ys : List (Symbol ℕ (Pair P) × ℕ)) → states_along (xs ++ ys) ≡ states_along xs ++ states_along ys
states_append [] ys = refl
states_append ((label f, n) ∷ xs) ys = states_append xs ys
states_append ((hole x, n) ∷ xs) ys = ap (λ zs. x.state ∷ zs) (states_append xs ys)

states_are : {P : Type 0} (ts : Trees (Symbol ℕ (Pair P))) → all_states ts ≡ states_along (preorder ts)
states_are none = refl
states_are (tree (label f) kids rest) = ap (λ zs. zs ++ all_states rest) (states_are kids) ∙ ap (λ zs. states_along (preorder kids) ++ zs) (states_are rest) ∙ sym (states_append (preorder kids) (preorder rest))
states_are (tree (hole x) kids rest) =
    ap (λ zs. x.state ∷ zs) (ap (λ zs. zs ++ all_states rest) (states_are kids) ∙ ap (λ zs. states_along (preorder kids) ++ zs) (states_are rest) ∙ sym (states_append (preorder kids) (preorder rest)))

placed_within : (m : ℕ) (items : List (Item (Pair (ℕ × ℕ)))) (n l : ℕ) → n + length (keys_in items) ≤ l → Each (IsWithin m l) (states_along (pairs_of (placed n items)))
placed_within m [] n l h = tt
placed_within m (Label f rank ∷ items) n l h = placed_within m items n l h
placed_within m (Hole x ∷ items) n l h = (omega arith, placed_within m items (suc n) l (omega arith))

side_within : (m : ℕ) (items : List (Item (Pair (ℕ × ℕ)))) (n l : ℕ) (s : SideFor ℕ (Pair Place)) → preorder_of s ≡ pairs_of (placed n items) → n + length (keys_in items) ≤ l → Each (IsWithin m l) (all_states (only s))
side_within m items n l s e h =
    let one : preorder (only s) ≡ preorder_of s = ap (λ zs. (s.label, count s.kids) ∷ zs) (append-nil (preorder s.kids)) in
    subst (Each (IsWithin m l)) (sym (states_are (only s) ∙ ap states_along (one ∙ e))) (placed_within m items n l h)

keys_are : (items : List (Item (Pair (ℕ × ℕ)))) → keys_in items ≡ map (λ x. x.state) (holes_in items)
keys_are [] = refl
keys_are (Label f rank ∷ items) = keys_are items
keys_are (Hole x ∷ items) = ap (λ zs. x.state ∷ zs) (keys_are items)

ends_more : (es : List (TransducerRule (ℕ × ℕ))) (e : TransducerRule (ℕ × ℕ)) → all_ends (es ++ e ∷ []) ≡ all_ends es ++ ends_of e
ends_more [] e = append-nil (ends_of e)
ends_more (x ∷ es) e = ap (λ ys. ends_of x ++ ys) (ends_more es e) ∙ sym (append_assoc (ends_of x) (all_ends es) (ends_of e))

total_more : (es : List (TransducerRule (ℕ × ℕ))) (e : TransducerRule (ℕ × ℕ)) → total edge_parts (es ++ e ∷ []) ≡ total edge_parts es + edge_parts e
total_more [] e = omega arith
total_more (x ∷ es) e = omega (arith, total_more es e)

each_more : {A : Type 0} (Q : A → Type 0) (xs : List A) (x : A) → Each Q xs → Q x → Each Q (xs ++ x ∷ [])
each_more Q [] x h q = (q, tt)
each_more Q (y ∷ xs) x h q = (h.0, each_more Q xs x h.1 q)

map_more : {A B : Type 0} (g : A → B) (xs : List A) (x : A) → map g (xs ++ x ∷ []) ≡ map g xs ++ g x ∷ []
map_more g [] x = refl
map_more g (y ∷ xs) x = ap (λ zs. g y ∷ zs) (map_more g xs x)

module _ (order : List (ℕ × ℕ)) (key : ℕ × ℕ) (es : List (TransducerRule (ℕ × ℕ))) (left : SideFor ℕ Variable) (done : List (Item (Pair (ℕ × ℕ)))) (cost : ℕ) where
  abbrev edge : TransducerRule (ℕ × ℕ)
  edge = edge_of key left (pairs_of done) cost

  -- the edge has the parts of the rule
  edge_size : (xs : List (ℕ × ℕ)) (s : SideFor ℕ (Pair Place)) → preorder_of s ≡ pairs_of (placed (length xs) done) → size edge.right ≡ size s
  edge_size xs s e =
      let t : SideFor ℕ (Pair (ℕ × ℕ)) = side_map (named_pair (key_at (0, 0) order (xs ++ keys_in done))) s in
      let a : size edge.right ≡ size t = ap (λ z. size z) (done_is (0, 0) order done xs s e) in
      let b : length (preorder_of t) ≡ length (pairs_of done) = sym (ap length (done_side (0, 0) order done xs s e)) in
      omega (arith, a, b, size_is t, size_is s, ap length e, length-map done pair_of, length-map (placed (length xs) done) pair_of, length-placed (length xs) done)

  -- a list with one more edge
  pub listing_added : (old new : CompositionListing) → IsAdded left done cost old new → IsListing order key es old → IsListing order key (es ++ edge ∷ []) new
  listing_added old new a h =
      let keys : List (ℕ × ℕ) = keys_in done in
      let xs : List (ℕ × ℕ) = old.ends.items in
      let long : length new.ends.items ≡ length xs + length keys = ap length a.ends ∙ length-append xs keys in
      let reads : (d : ℕ × ℕ) → map (λ r. named_transducer_rule (key_at d order new.ends.items) (rule_of r)) new.rules.items ≡ es ++ edge ∷ [] = λ d.
      let g : Place → ℕ × ℕ = key_at d order (xs ++ keys) in
      ap (λ ends. map (λ r. named_transducer_rule (key_at d order ends) (rule_of r)) new.rules.items) a.ends
      ∙ ap (map (λ r. named_transducer_rule g (rule_of r))) a.rules
      ∙ map_more (λ r. named_transducer_rule g (rule_of r)) old.rules.items a.rule
      ∙ ap (λ zs. zs ++ named_transducer_rule g (rule_of a.rule) ∷ []) (rules_read d order xs keys old.rules.items h.within ∙ h.read d)
      ∙ ap (λ z. es ++ z ∷ [])
      (ap (λ (k : ℕ × ℕ). record { state = k; left = a.rule.left.now; right = side_map (named_pair g) a.rule.right; cost = a.rule.cost }) (ap (λ n. g (Known n)) a.state ∙ index_get order old.position d (0, 0) h.below ∙ h.at)
      ∙ ap (λ l. record { state = key; left = l; right = side_map (named_pair g) a.rule.right; cost = a.rule.cost }) a.same
      ∙ ap (λ s. record { state = key; left = left; right = s; cost = a.rule.cost }) (sym (done_is d order done xs a.rule.right a.right))
      ∙ ap (λ c. record { state = key; left = left; right = first_of (label 0) (parse (pairs_of done)); cost = c }) a.costs)
      in
      let holes : ends_of edge ≡ keys =
      ap (λ s. states_in s) (done_is (0, 0) order done xs a.rule.right a.right)
      ∙ ap (map (λ x. x.state)) (holes_of_items done (side_map (named_pair (key_at (0, 0) order (xs ++ keys))) a.rule.right) (done_side (0, 0) order done xs a.rule.right a.right))
      ∙ sym (keys_are done)
      in
      record {
        below = subst (λ n. n < length order) (sym a.position) h.below;
        at = ap (λ n. get_or order n (0, 0)) a.position ∙ h.at;
        within = subst (Each (λ r. Each (IsWithin (length order) (length new.ends.items)) (places_of (rule_of r)))) (sym a.rules)
            (each_more (λ r. Each (IsWithin (length order) (length new.ends.items)) (places_of (rule_of r))) old.rules.items a.rule
            (each_weaker (λ r. Each (IsWithin (length order) (length xs)) (places_of (rule_of r))) (λ r. Each (IsWithin (length order) (length new.ends.items)) (places_of (rule_of r))) old.rules.items
            (λ r w. each_weaker (IsWithin (length order) (length xs)) (IsWithin (length order) (length new.ends.items)) (places_of (rule_of r)) (within_wider (length order) (length xs) (length new.ends.items) (omega (arith, long))) w) h.within)
            (subst (λ n. n < length order) (sym a.state) h.below, side_within (length order) done (length xs) (length new.ends.items) a.rule.right a.right (omega (arith, long))));
        read = reads;
        ends_are = a.ends ∙ ap (λ zs. zs ++ keys) h.ends_are ∙ ap (λ zs. all_ends es ++ zs) (sym holes) ∙ sym (ends_more es edge);
        counted = omega (arith, a.parts, h.counted, total_more es edge, edge_size xs a.rule.right a.right);
      }

  -- an edge that is too much
  pub listing_overruns : (old : CompositionListing) → IsTooMuch left done old → IsListing order key es old → old.budget < total edge_parts (es ++ edge ∷ [])
  listing_overruns old m h = omega (arith, m.more, h.counted, total_more es edge, edge_size old.ends.items m.side m.right)
