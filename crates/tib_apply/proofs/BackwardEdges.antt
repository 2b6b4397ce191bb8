-- One edge of backward application, and the edges of one rule and of all.
use Rattle.std.specs.Prelude.{◌≡◌, ℕ, ◌+◌, ◌<◌, ◌≤◌, List, [], ◌∷◌, ◌++◌, length, map, take, drop, Some, refl, slice_index_or, ◌*◌, ◌/◌}
use Rattle.std.proofs.Common.{zero, suc, arith, ap, sym, ◌∙◌, subst, get_or, inl, inr, append_assoc}
use Rattle.std.proofs.lemmas.List.{length-append, length-map, map_more, take_more}
use Rattle.std.proofs.lemmas.Cmp.{nat_list_cmp_total}
use Rattle.std.specs.Ordering.{nat_cmp}
use Rattle.std.specs.Cmp.Lexicographic.{slice_cmp}
use Rattle.std.specs.declared.cmp.Ordering.TheVariants.{Less}
use Rattle.tib_lex.specs.Lists.{Has, Each, Distinct, Ascends, Along}
use Rattle.tib_lex.proofs.Lists.{each_weaker, some_is, map_same}
use Rattle.tib_lex.proofs.Members.{each_has, has_at, has_left, has_right, has_either}
use Rattle.tib_tree.specs.Trees.{Trees, none, tree, only, size, preorder_of}
use Rattle.tib_cost.specs.Semiring.{most}
use Rattle.tib_cost.proofs.Least.{IsLeast-unique}
use Rattle.tib_lex.proofs.Places.{not_before}
use Rattle.tib_grammar.specs.Run.{rule_at}
use Rattle.tib_grammar.specs.Sides.{Symbol, label, hole, Side as SideFor, holes, holes_of, side_map, HolesAreLeaves}
use Rattle.tib_grammar.specs.Items.{pairs_of, holes_in}
use Rattle.tib_grammar.specs.declared.Item.{Item}
use Rattle.tib_grammar.specs.declared.Rule.{Rule}
use Rattle.tib_grammar.proofs.Holes.{holes_of_items, holes_fit}
use Rattle.tib_grammar.proofs.Sides.{holes-relabel}
use Rattle.tib_expand.specs.Reached.{most_parts}
use Rattle.tib_expand.proofs.Reaching.{apart}
use Rattle.tib_transducer.specs.Rules.{transducer_rule, variables_of, variables_in}
use Rattle.tib_transducer.specs.Range.{AreNumbered, IsShaped}
use Rattle.tib_transducer.specs.declared.Variable.{Variable}
use Rattle.tib_transducer.specs.declared.Pair.{Pair}
use Rattle.tib_transducer.specs.declared.TransducerRule.{TransducerRule}
use Rattle.tib_transducer.specs.Moves.{moves_of}
use Rattle.tib_transducer.proofs.Moves.{moves_once, move_is, is_move}
use Rattle.tib_match.specs.Matches.{IsMatchCost, IsMatch}
use Rattle.tib_match.specs.Searching.{AreMatchesWhere, AreMoreWhere}
use Rattle.tib_apply.specs.Restrictions.{restricted_labels}
use Rattle.tib_apply.specs.Backward.{states_at, backward_key, IsBackwardEdge}
use Rattle.tib_apply.specs.KeyRules.{carried, end_at, Reads}
use Rattle.tib_apply.specs.KeyLaws.{side_same}
use Rattle.tib_apply.specs.Listing.{AddsEdge, IsNext, IsTooMuch, IsWithinBudget, IsAlike, IsListed, Overruns, AreListedFrom, AreListedFor}
use Rattle.tib_apply.specs.BackwardLists.{edge_to, backward_edge, variable_key, number_from, AdmitsRule, IsCheap}
use Rattle.tib_apply.specs.declared.edge_list.EdgeList.{EdgeList}
use Rattle.tib_apply.proofs.ListedEdges.{listed_next, overruns_next, nothing_listed}
use Rattle.tib_key_edges.proofs.MappedSides.{side_twice, size_mapped, items_size}
use Rattle.tib_apply.proofs.MappedSides.{carried_holes, carried_mapped}
use Rattle.tib_apply.proofs.MoreParts.{origins_apart, total_same, more_parts}

-- lists

each_map : {A B : Type 0} (Q : B → Type 0) (f : A → B) (xs : List A) → Each Q (map f xs) → Each (λ x. Q (f x)) xs
each_map Q f [] h = tt
each_map Q f (x ∷ xs) h = (h.0, each_map Q f xs h.1)

map_each : {A B : Type 0} (Q : B → Type 0) (f : A → B) (xs : List A) → Each (λ x. Q (f x)) xs → Each Q (map f xs)
map_each Q f [] h = tt
map_each Q f (x ∷ xs) h = (h.0, map_each Q f xs h.1)

numbers_below : (n m : ℕ) (xs : List Variable) → AreNumbered n xs → n + length xs ≤ m → Each (λ x. x.number < m) xs
numbers_below n m [] a h = tt
numbers_below n m (x ∷ xs) a h = (omega (arith, a.0, h), numbers_below (suc n) m xs a.1 (omega (arith, h)))

seam : {K : Type 0} (xs : List K) (y : K) (ys : List K) (i : ℕ) (d : K) → i ≡ length xs → slice_index_or (xs ++ y ∷ ys) i d ≡ y
seam [] y ys i d e = ap (λ j. slice_index_or (y ∷ ys) j d) e
seam (x ∷ xs) y ys i d e = ap (λ j. slice_index_or (x ∷ (xs ++ y ∷ ys)) j d) e ∙ seam xs y ys (length xs) d refl

-- the key of a variable is among the ends, where the keys of all variables follow the others
keys_behind :
    (f : Variable → ℕ × ℕ × ℕ) (first n : ℕ) (ends : List (ℕ × ℕ × ℕ)) (xs : List Variable) → AreNumbered n xs → length ends ≡ first + n →
    Each (λ x. f x ≡ end_at (ends ++ map f xs) (number_from first x)) xs
keys_behind f first n ends [] a e = tt
keys_behind f first n ends (x ∷ xs) a e = (
  sym (seam ends (f x) (map f xs) (first + x.number) (0, 0, 0) (omega (arith, a.0, e))),
  subst (λ (ks : List (ℕ × ℕ × ℕ)). Each (λ y. f y ≡ end_at ks (number_from first y)) xs) (append_assoc ends (f x ∷ []) (map f xs))
      (keys_behind f first (suc n) (ends ++ f x ∷ []) xs a.1 (omega (arith, e, length-append ends (f x ∷ [])))),
)

-- one edge

module _ (left : SideFor ℕ Variable) (items : List (Item Variable)) (is : pairs_of items ≡ preorder_of left) (numbered : AreNumbered 0 (variables_of left)) where
  variables_fit : length (variables_of left) ≤ length items
  variables_fit = omega (arith, ap length (holes_of_items items left is), holes_fit items)

  -- numbers of variables are less than there are items
  pub numbers_fit : (m : ℕ) → m ≡ length items → Each (λ x. x.number < m) (holes_in items)
  numbers_fit m e =
      subst (Each (λ x. x.number < m)) (holes_of_items items left is) (numbers_below 0 m (variables_of left) numbered (omega (arith, variables_fit, e)))

  -- counted from a place they have room
  pub numbers_room : (first parts budget : ℕ) → first ≤ parts → parts + (1 + size left) ≤ budget → budget ≤ most_parts → Each (λ x. number_from first x < 4294967296) (holes_of left)
  numbers_room first parts budget a b c =
      each_weaker (λ x. x.number < length items) (λ x. number_from first x < 4294967296) (variables_of left) (λ x h. omega (arith, h, items_size items left is))
      (numbers_below 0 (length items) (variables_of left) numbered (omega (arith, variables_fit)))

  -- pairs have variables among the items
  pub pairs_fit : (right : SideFor ℕ (Pair ℕ)) (others : List (Item (Pair ℕ))) → pairs_of others ≡ preorder_of right → Each (λ i. i < length (variables_of left)) (variables_in right) →
      Each (λ x. x.variable < length items) (holes_in others)
  pairs_fit right others e known =
      subst (Each (λ x. x.variable < length items)) (holes_of_items others right e)
      (each_weaker (λ x. x.variable < length (variables_of left)) (λ x. x.variable < length items) (holes_of right) (λ x h. omega (arith, h, variables_fit))
      (each_map (λ i. i < length (variables_of left)) (λ x. x.variable) (holes_of right) known))

  module _ (labels : List ℕ) (pairs : List (Pair ℕ)) (ss : List ℕ) (states : List (ℕ × ℕ))
      (at : (i : ℕ) → i < length items → get_or states i (0, 0) ≡ states_at i pairs ss) where
    one_key : (x : Variable) → x.number < length items → variable_key labels states x ≡ backward_key labels pairs ss x
    one_key x h = rw (at x.number h) refl

    -- the keys of the variables are those of the edge
    keys_are : map (variable_key labels states) (holes_in items) ≡ map (backward_key labels pairs ss) (variables_of left)
    keys_are =
        map_same (variable_key labels states) (backward_key labels pairs ss) (holes_in items)
        (each_weaker (λ x. x.number < length items) (λ x. variable_key labels states x ≡ backward_key labels pairs ss x) (holes_in items) one_key (numbers_fit (length items) refl))
        ∙ ap (map (backward_key labels pairs ss)) (sym (holes_of_items items left is))

  module _ (leaves : HolesAreLeaves (only left)) (f : Variable → ℕ × ℕ × ℕ) (ends : List (ℕ × ℕ × ℕ)) where
    -- the side with the numbers of the ends reads as the side with their keys
    sides_read : side_map f left ≡ side_map (end_at (ends ++ map f (variables_of left))) (side_map (number_from (length ends)) left)
    sides_read =
        side_same f (λ x. end_at (ends ++ map f (variables_of left)) (number_from (length ends) x)) left.label left.kids
        (subst (Each (λ x. f x ≡ end_at (ends ++ map f (variables_of left)) (number_from (length ends) x))) (sym (carried_holes (only left) leaves))
        (keys_behind f (length ends) 0 ends (variables_of left) numbered (omega arith)))
        ∙ sym (side_twice (number_from (length ends)) (end_at (ends ++ map f (variables_of left))) left)

    numbers_within : Each (λ i. i < length (ends ++ map f (variables_of left))) (carried (only (side_map (number_from (length ends)) left)))
    numbers_within =
        subst (Each (λ i. i < length (ends ++ map f (variables_of left)))) (sym (carried_mapped (number_from (length ends)) (only left)))
        (map_each (λ i. i < length (ends ++ map f (variables_of left))) (number_from (length ends)) (carried (only left))
        (subst (Each (λ x. number_from (length ends) x < length (ends ++ map f (variables_of left)))) (sym (carried_holes (only left) leaves))
        (each_weaker (λ x. x.number < length (variables_of left)) (λ x. number_from (length ends) x < length (ends ++ map f (variables_of left))) (variables_of left)
        (λ x h. omega (arith, h, length-append ends (map f (variables_of left)), length-map (variables_of left) f)) (numbers_below 0 (length (variables_of left)) (variables_of left) numbered (omega arith)))))

    reads_edge :
        (key : ℕ × ℕ × ℕ) (position cost : ℕ) →
        Reads key position (ends ++ map f (variables_of left)) (record { left = position; right = side_map (number_from (length ends)) left; cost = cost }) (record { left = key; right = side_map f left; cost = cost })
    reads_edge key position cost = record {
      at = refl;
      within = numbers_within;
      read = ap (λ s. record { left = key; right = s; cost = cost }) sides_read;
    }

-- the edge of a rule is put after those of a list
pub edge_added :
    (rule : TransducerRule ℕ) (items : List (Item Variable)) (others : List (Item (Pair ℕ))) → pairs_of items ≡ preorder_of rule.left → pairs_of others ≡ preorder_of rule.right → IsShaped rule →
    HolesAreLeaves (only rule.left) → (labels restricted ss ts : List ℕ) (states : List (ℕ × ℕ)) → restricted ≡ labels → ts ≡ ss → ((i : ℕ) → i < length items → get_or states i (0, 0) ≡ states_at i (holes_in others) ts) →
    (cost first : ℕ) → cost ≤ most → (old new : EdgeList) → first ≡ length old.ends.items → new.ends.items ≡ old.ends.items ++ map (variable_key restricted states) (holes_in items) →
    (right : SideFor ℕ ℕ) → right ≡ side_map (number_from first) rule.left → new.rules.items ≡ old.rules.items ++ record { left = old.position; right = right; cost = cost } ∷ [] →
    new.parts ≡ old.parts + (1 + length items) → (key : ℕ × ℕ × ℕ) → AddsEdge key (edge_to labels key rule ss cost) old new
edge_added rule items others is are shaped leaves labels restricted ss ts states same_labels same_states at cost first within old new begins ends right side rules parts key =
    let pairs : List (Pair ℕ) = holes_of rule.right in
    let f : Variable → ℕ × ℕ × ℕ = backward_key labels pairs ss in
    let each : (i : ℕ) → i < length items → get_or states i (0, 0) ≡ states_at i pairs ss = λ i h.
    at i h ∙ ap (λ (xs : List (Pair ℕ)). states_at i xs ts) (sym (holes_of_items others rule.right are)) ∙ ap (states_at i pairs) same_states in
    let put : new.ends.items ≡ old.ends.items ++ map f (variables_of rule.left) =
    ends ∙ ap (λ ls. old.ends.items ++ map (variable_key ls states) (holes_in items)) same_labels ∙ ap (λ ks. old.ends.items ++ ks) (keys_are rule.left items is shaped.numbered labels pairs ss states each) in
    let numbered : right ≡ side_map (number_from (length old.ends.items)) rule.left = side ∙ ap (λ n. side_map (number_from n) rule.left) begins in
    record {
      within = within;
      rule = record { left = old.position; right = right; cost = cost };
      ends = put ∙ ap (λ ks. old.ends.items ++ ks) (sym (holes-relabel f (only rule.left)));
      rules = rules;
      reads = subst (λ ks. Reads key old.position ks (record { left = old.position; right = right; cost = cost }) (edge_to labels key rule ss cost)) (sym put)
          (subst (λ (s : SideFor ℕ ℕ). Reads key old.position (old.ends.items ++ map f (variables_of rule.left)) (record { left = old.position; right = s; cost = cost }) (edge_to labels key rule ss cost)) (sym numbered)
          (reads_edge rule.left items is shaped.numbered leaves f old.ends.items key old.position cost));
      parts = omega (arith, parts, items_size items rule.left is, size_mapped f rule.left);
    }

-- and the list stays within its budget
pub edge_within :
    (left : SideFor ℕ Variable) (items : List (Item Variable)) (f : Variable → ℕ × ℕ × ℕ) (old new : EdgeList) → pairs_of items ≡ preorder_of left → IsWithinBudget old → old.parts + (1 + size left) ≤ old.budget →
    new.ends.items ≡ old.ends.items ++ map f (holes_in items) → new.parts ≡ old.parts + (1 + length items) → new.budget ≡ old.budget → IsWithinBudget new
edge_within left items f old new is within room ends parts budget = record {
  few = omega (arith, within.few, ap length ends, length-append old.ends.items (map f (holes_in items)), length-map (holes_in items) f, holes_fit items, parts);
  within = omega (arith, room, parts, budget, items_size items left is);
  budget = omega (arith, within.budget, budget);
}

pub too_much :
    (labels : List ℕ) (key : ℕ × ℕ × ℕ) (rule : TransducerRule ℕ) (items : List (Item Variable)) (ss : List ℕ) (cost : ℕ) (old : EdgeList) → pairs_of items ≡ preorder_of rule.left → cost ≤ most →
    old.parts ≤ old.budget → old.budget < old.parts + (1 + length items) → IsTooMuch (edge_to labels key rule ss cost) old
too_much labels key rule items ss cost old is within fits more = record {
  within = within;
  more = omega (arith, more, items_size items rule.left is, size_mapped (backward_key labels (holes_of rule.right) ss) rule.left);
}

-- the edges of a rule

-- a match has a state for each hole
match_long :
    {P : Type 0} (product : ℕ → ℕ → ℕ) (rules : List (Rule ℕ)) (s : Trees (Symbol ℕ P)) (qs ss : List ℕ) (c : ℕ) → IsMatchCost product rules s qs ss c → length ss ≡ length (holes s)
match_long product rules none [] [] c m = refl
match_long product rules none [] (s ∷ ss) c m = absurd m
match_long product rules none (q ∷ qs) ss c m = absurd m
match_long product rules (tree (hole p) kids rest) [] ss c m = absurd m
match_long product rules (tree (hole p) kids rest) (q ∷ qs) [] c m = absurd m
match_long product rules (tree (hole p) kids rest) (q ∷ qs) (s ∷ ss) c m = ap suc (match_long product rules rest qs ss c m.1)
match_long product rules (tree (label f) kids rest) [] ss c m = absurd m
match_long product rules (tree (label f) kids rest) (q ∷ qs) ss c m =
    let one = match_long product rules kids (holes (rule_at rules m.rule).right.kids) (take (length (holes kids)) ss) m.inner m.kids in
    let two = match_long product rules rest qs (drop (length (holes kids)) ss) m.outer m.rest in
    parts_long (length (holes kids)) ss (length (holes rest)) one two ∙ sym (length-append (holes kids) (holes rest))
  where
    parts_long : (n : ℕ) (xs : List ℕ) (k : ℕ) → length (take n xs) ≡ n → length (drop n xs) ≡ k → length xs ≡ n + k
    parts_long zero xs k e d = omega arith
    parts_long (suc n) [] k e d = absurd (omega arith)
    parts_long (suc n) (x ∷ xs) k e d = let z = parts_long n xs k (omega arith) d in omega arith

-- lists of states that ascend are apart
no_match_before :
    (i : ℕ) (ms : List (List ℕ × ℕ)) (k : ℕ) (d : List ℕ × ℕ) → Ascends (λ (a : List ℕ × ℕ) (b : List ℕ × ℕ). slice_cmp nat_cmp a.0 b.0 ≡ Less) ms → k < length ms →
    Has {A = ℕ × List ℕ} (map (λ m. (i, m.0)) (take k ms)) (i, (get_or ms k d).0) → ⊥
no_match_before i [] k d a b h = omega arith
no_match_before i (m ∷ ms) zero d a b h = h
no_match_before i (m ∷ ms) (suc k) d a b h = elim h [
  | inl e ↦
      let later = each_has (λ (y : List ℕ × ℕ). slice_cmp nat_cmp m.0 y.0 ≡ Less) ms (get_or ms k d) a.0 (has_at ms k d (omega arith)) in
      itself (get_or ms k d).0 (subst (λ z. slice_cmp nat_cmp z (get_or ms k d).0 ≡ Less) (ap (λ (o : ℕ × List ℕ). o.1) e) later)
  | inr r ↦ no_match_before i ms k d a.1 (omega arith) r
]
  where
    itself : (z : List ℕ) → slice_cmp nat_cmp z z ≡ Less → ⊥
    itself z l = apart (slice_cmp nat_cmp) nat_list_cmp_total z z l l

has_origin : (i : ℕ) (ms : List (List ℕ × ℕ)) (m : List ℕ × ℕ) → Has ms m → Has {A = ℕ × List ℕ} (map (λ m. (i, m.0)) ms) (i, m.0)
has_origin i [] m h = absurd h
has_origin i (x ∷ ms) m h = elim h [ inl e ↦ inl (ap (λ (z : List ℕ × ℕ). (i, z.0)) e) | inr k ↦ inr (has_origin i ms m k) ]

origin_has : (i : ℕ) (ms : List (List ℕ × ℕ)) (o : ℕ × List ℕ) → Has {A = ℕ × List ℕ} (map (λ m. (i, m.0)) ms) o → o.0 ≡ i
origin_has i [] o h = absurd h
origin_has i (x ∷ ms) o h = elim h [ inl e ↦ sym (ap (λ (z : ℕ × List ℕ). z.0) e) | inr k ↦ origin_has i ms o k ]

module _ (product : ℕ → ℕ → ℕ) (moves : List (TransducerRule ℕ)) (grammar : List (Rule ℕ)) (key : ℕ × ℕ × ℕ) where
  -- the edge of a rule and a match
  edge_is :
      (i : ℕ) (rule : TransducerRule ℕ) (m : List ℕ × ℕ) → i < length moves → rule ≡ transducer_rule moves i → rule.state ≡ key.0 → AdmitsRule (restricted_labels moves) key rule →
      IsMatch product grammar rule.right key.1 m.0 (Some m.1) → product rule.cost m.1 ≤ most → IsBackwardEdge product moves grammar key (i, m.0) (backward_edge product (restricted_labels moves) key rule m)
  edge_is i rule m below at state (root, is_root, admitted) matched within = record {
    below = below;
    state = ap (λ (r : TransducerRule ℕ). r.state) (sym at) ∙ state;
    root = root;
    is_root = ap (λ (r : TransducerRule ℕ). r.left.label) (sym at) ∙ is_root;
    admitted = admitted;
    matched = m.1;
    is_match = subst (λ (r : TransducerRule ℕ). IsMatch product grammar r.right key.1 m.0 (Some m.1)) at matched;
    left = refl;
    right = ap (λ (r : TransducerRule ℕ). side_map (backward_key (restricted_labels moves) (holes_of r.right) m.0) r.left) at;
    costs = ap (λ (r : TransducerRule ℕ). product r.cost m.1) at;
    within = within;
  }

  edge_costs :
      (i : ℕ) (rule : TransducerRule ℕ) (m : List ℕ × ℕ) → rule ≡ transducer_rule moves i → IsMatch product grammar rule.right key.1 m.0 (Some m.1) → (f : Rule (ℕ × ℕ × ℕ)) →
      IsBackwardEdge product moves grammar key (i, m.0) f → f.cost ≡ product rule.cost m.1
  edge_costs i rule m at matched f is =
      let here : IsMatch product grammar (transducer_rule moves i).right key.1 m.0 (Some m.1) = subst (λ (r : TransducerRule ℕ). IsMatch product grammar r.right key.1 m.0 (Some m.1)) at matched in
      is.costs ∙ ap (product (transducer_rule moves i).cost) (some_is (IsLeast-unique is.is_match here)) ∙ ap (λ (r : TransducerRule ℕ). product r.cost m.1) (sym at)

  module _
      (i : ℕ) (rule : TransducerRule ℕ) (below : i < length moves) (at : rule ≡ transducer_rule moves i) (state : rule.state ≡ key.0) (admitted : AdmitsRule (restricted_labels moves) key rule)
      (ms : List (List ℕ × ℕ)) (matches : AreMatchesWhere product grammar rule.right key.1 (IsCheap product rule) ms) (k : ℕ) (low : k < length ms) (tried : List (ℕ × List ℕ)) (fresh : (ss : List ℕ) → Has tried (i, ss) → ⊥) where
    abbrev match_here : List ℕ × ℕ
    match_here = get_or ms k ([], 0)

    is_match : IsMatch product grammar rule.right key.1 match_here.0 (Some match_here.1)
    is_match = each_has (λ (m : List ℕ × ℕ). IsMatch product grammar rule.right key.1 m.0 (Some m.1)) ms match_here matches.least (has_at ms k ([], 0) low)

    -- a match has a state for each pair
    pub as_many : length match_here.0 ≡ length (holes_of rule.right)
    as_many = match_long product grammar (only rule.right) (key.1 ∷ []) match_here.0 match_here.1 is_match.attained.0

    not_tried : Has (tried ++ map (λ m. (i, m.0)) (take k ms)) (i, match_here.0) → ⊥
    not_tried h = elim (has_either tried (map (λ m. (i, m.0)) (take k ms)) (i, match_here.0) h) [
      | inl x ↦ fresh match_here.0 x
      | inr x ↦ no_match_before i ms k ([], 0) matches.ascend low x
    ]

    -- one more match
    pub match_listed :
        (l l' : EdgeList) → IsAlike l l' → IsListed (IsBackwardEdge product moves grammar key) key (tried ++ map (λ m. (i, m.0)) (take k ms)) l →
        IsNext key (backward_edge product (restricted_labels moves) key rule match_here) l l' → IsListed (IsBackwardEdge product moves grammar key) key (tried ++ map (λ m. (i, m.0)) (take (k + 1) ms)) l'
    match_listed l l' alike listed next =
        subst (λ (os : List (ℕ × List ℕ)). IsListed (IsBackwardEdge product moves grammar key) key os l')
        (append_assoc tried (map (λ m. (i, m.0)) (take k ms)) ((i, match_here.0) ∷ []) ∙ ap (λ (os : List (ℕ × List ℕ)). tried ++ os) (sym (map_more (λ m. (i, m.0)) ms k ([], 0) low)))
        (listed_next (IsBackwardEdge product moves grammar key) key (tried ++ map (λ m. (i, m.0)) (take k ms)) (i, match_here.0) not_tried
        (backward_edge product (restricted_labels moves) key rule match_here) l l' (edge_is i rule match_here below at state admitted is_match) (edge_costs i rule match_here at is_match) (λ f d. d.within) alike listed next)

    pub match_overruns :
        (l : EdgeList) → IsListed (IsBackwardEdge product moves grammar key) key (tried ++ map (λ m. (i, m.0)) (take k ms)) l →
        IsTooMuch (backward_edge product (restricted_labels moves) key rule match_here) l → Overruns (IsBackwardEdge product moves grammar key) l.budget
    match_overruns l listed much =
        overruns_next (IsBackwardEdge product moves grammar key) key (tried ++ map (λ m. (i, m.0)) (take k ms)) (i, match_here.0) not_tried
        (backward_edge product (restricted_labels moves) key rule match_here) l (edge_is i rule match_here below at state admitted is_match) listed much

  -- more matches than the budget has room for their edges
  pub move_more :
      (i : ℕ) (rule : TransducerRule ℕ) (budget : ℕ) → i < length moves → rule ≡ transducer_rule moves i → rule.state ≡ key.0 → AdmitsRule (restricted_labels moves) key rule →
      AreMoreWhere product grammar rule.right key.1 (IsCheap product rule) (budget / (1 + size rule.left)) → Overruns (IsBackwardEdge product moves grammar key) budget
  move_more i rule budget below at state admitted more = record {
    origins = map (λ m. (i, m.0)) more.matches;
    edges = map (backward_edge product (restricted_labels moves) key rule) more.matches;
    once = origins_apart i more.matches more.ascend;
    given = given more.matches more.least more.count;
    more = omega (
      arith,
      more_parts budget (1 + size rule.left) (length more.matches) (omega arith) more.more,
      total_same (1 + size rule.left) (backward_edge product (restricted_labels moves) key rule) more.matches (λ m. ap (λ n. 1 + n) (size_mapped (backward_key (restricted_labels moves) (holes_of rule.right) m.0) rule.left)),
    );
  }
    where
      given : (ms : List (List ℕ × ℕ)) → Each (λ (m : List ℕ × ℕ). IsMatch product grammar rule.right key.1 m.0 (Some m.1)) ms → Each (IsCheap product rule) ms →
          Along (IsBackwardEdge product moves grammar key) (map (λ m. (i, m.0)) ms) (map (backward_edge product (restricted_labels moves) key rule) ms)
      given [] a b = tt
      given (m ∷ ms) a b = (edge_is i rule m below at state admitted a.0 b.0, given ms a.1 b.1)

  -- nothing of the rule was tried before
  pub fresh_for : (others : List ℕ) (i : ℕ) (l : EdgeList) → (Has others i → ⊥) → (listed : AreListedFor (IsBackwardEdge product moves grammar key) key others l) → (ss : List ℕ) → Has listed.tried (i, ss) → ⊥
  fresh_for others i l apart listed ss h = apart (listed.from (i, ss) h)

  -- the edges of a rule, after those of others
  pub move_listed :
      (others : List ℕ) (i : ℕ) (rule : TransducerRule ℕ) (ms : List (List ℕ × ℕ)) (l l' : EdgeList) → rule ≡ transducer_rule moves i → AreMatchesWhere product grammar rule.right key.1 (IsCheap product rule) ms →
      (listed : AreListedFor (IsBackwardEdge product moves grammar key) key others l) → IsListed (IsBackwardEdge product moves grammar key) key (listed.tried ++ map (λ m. (i, m.0)) ms) l' →
      AreListedFor (IsBackwardEdge product moves grammar key) key (others ++ i ∷ []) l'
  move_listed others i rule ms l l' at matches listed new = record {
    tried = listed.tried ++ map (λ m. (i, m.0)) ms;
    listed = new;
    from = λ o h. elim (has_either listed.tried (map (λ m. (i, m.0)) ms) o h) [
      | inl x ↦ has_left others (i ∷ []) o.0 (listed.from o x)
      | inr x ↦ has_right others (i ∷ []) o.0 (inl (sym (origin_has i ms o x)))
    ];
    all = λ o e h d. elim (has_either others (i ∷ []) o.0 h) [
      | inl x ↦ has_left listed.tried (map (λ m. (i, m.0)) ms) o (listed.all o e x d)
      | inr x ↦ elim x [
        | inl same ↦ has_right listed.tried (map (λ m. (i, m.0)) ms) o (own o e same d)
        | inr nothing ↦ absurd nothing
      ]
    ];
  }
    where
      own : (o : ℕ × List ℕ) (e : Rule (ℕ × ℕ × ℕ)) → i ≡ o.0 → IsBackwardEdge product moves grammar key o e → Has {A = ℕ × List ℕ} (map (λ m. (i, m.0)) ms) o
      own o e same d =
          let there : transducer_rule moves o.0 ≡ rule = ap (transducer_rule moves) (sym same) ∙ sym at in
          let m : IsMatch product grammar rule.right key.1 o.1 (Some d.matched) = subst (λ (r : TransducerRule ℕ). IsMatch product grammar r.right key.1 o.1 (Some d.matched)) there d.is_match in
          subst (λ j. Has {A = ℕ × List ℕ} (map (λ m. (i, m.0)) ms) (j, o.1)) same (has_origin i ms (o.1, d.matched) (matches.whole o.1 d.matched m (omega (arith, d.within, d.costs, ap (λ (r : TransducerRule ℕ). product r.cost d.matched) there))))

  -- a rule that is not admitted has no edges
  pub move_refused :
      (others : List ℕ) (i : ℕ) (rule : TransducerRule ℕ) (l : EdgeList) → rule ≡ transducer_rule moves i → (AdmitsRule (restricted_labels moves) key rule → ⊥) →
      AreListedFor (IsBackwardEdge product moves grammar key) key others l → AreListedFor (IsBackwardEdge product moves grammar key) key (others ++ i ∷ []) l
  move_refused others i rule l at refused listed = record {
    tried = listed.tried;
    listed = listed.listed;
    from = λ o h. has_left others (i ∷ []) o.0 (listed.from o h);
    all = λ o e h d. elim (has_either others (i ∷ []) o.0 h) [
      | inl x ↦ listed.all o e x d
      | inr x ↦ elim x [ inl same ↦ absurd (own o e same d) | inr nothing ↦ absurd nothing ]
    ];
  }
    where
      own : (o : ℕ × List ℕ) (e : Rule (ℕ × ℕ × ℕ)) → i ≡ o.0 → IsBackwardEdge product moves grammar key o e → ⊥
      own o e same d =
          let there : transducer_rule moves o.0 ≡ rule = ap (transducer_rule moves) (sym same) ∙ sym at in
          refused (d.root, ap (λ (r : TransducerRule ℕ). r.left.label) (sym there) ∙ d.is_root, d.admitted)

  -- all rules of a state

  pub no_moves : (l : EdgeList) → length l.ends.items ≡ 0 → length l.rules.items ≡ 0 → l.parts ≡ 0 → AreListedFor (IsBackwardEdge product moves grammar key) key [] l
  no_moves l ends rules parts = record {
    tried = [];
    listed = nothing_listed (IsBackwardEdge product moves grammar key) key l ends rules parts;
    from = λ o h. absurd h;
    all = λ o e h d. absurd h;
  }

  pub all_moves : (l : EdgeList) → AreListedFor (IsBackwardEdge product moves grammar key) key (moves_of key.0 moves) l → AreListedFrom (IsBackwardEdge product moves grammar key) key l
  all_moves l listed = record {
    tried = listed.tried;
    listed = listed.listed;
    all = λ o e d. listed.all o e (is_move key.0 moves o.0 d.below d.state) d;
  }

-- what is said of a key is said of the same key
pub edges_at :
    (product : ℕ → ℕ → ℕ) (moves : List (TransducerRule ℕ)) (grammar : List (Rule ℕ)) (key there : ℕ × ℕ × ℕ) → there ≡ key → (l : EdgeList) →
    AreListedFrom (IsBackwardEdge product moves grammar key) key l → AreListedFrom (IsBackwardEdge product moves grammar there) there l
edges_at product moves grammar key there e l h = subst (λ (k : ℕ × ℕ × ℕ). AreListedFrom (IsBackwardEdge product moves grammar k) k l) (sym e) h

pub overruns_at :
    (product : ℕ → ℕ → ℕ) (moves : List (TransducerRule ℕ)) (grammar : List (Rule ℕ)) (key there : ℕ × ℕ × ℕ) → there ≡ key → (budget : ℕ) →
    Overruns (IsBackwardEdge product moves grammar key) budget → Overruns (IsBackwardEdge product moves grammar there) budget
overruns_at product moves grammar key there e budget h = subst (λ (k : ℕ × ℕ × ℕ). Overruns (IsBackwardEdge product moves grammar k) budget) (sym e) h

-- the lists of a state, one more
pub moves_more :
    (product : ℕ → ℕ → ℕ) (moves : List (TransducerRule ℕ)) (grammar : List (Rule ℕ)) (key : ℕ × ℕ × ℕ) (positions : List ℕ) (k i : ℕ) (l : EdgeList) → k < length positions → i ≡ get_or positions k 0 →
    AreListedFor (IsBackwardEdge product moves grammar key) key (take k positions ++ i ∷ []) l → AreListedFor (IsBackwardEdge product moves grammar key) key (take (k + 1) positions) l
moves_more product moves grammar key positions k i l low at h =
    subst (λ ps. AreListedFor (IsBackwardEdge product moves grammar key) key ps l) (ap (λ j. take k positions ++ j ∷ []) at ∙ sym (take_more positions k 0 low)) h

pub alike_on : (a b c : EdgeList) → IsAlike a b → IsAlike b c → IsAlike a c
alike_on a b c h k = record { position = k.position ∙ h.position; budget = k.budget ∙ h.budget }

-- a place among the positions of the rules of a state
module _ (moves : List (TransducerRule ℕ)) (q : ℕ) (ps : List ℕ) (are : ps ≡ moves_of q moves) (k : ℕ) (low : k < length ps) where
  pub place_is : (get_or ps k 0 < length moves) × ((transducer_rule moves (get_or ps k 0)).state ≡ q)
  place_is = move_is q moves (get_or ps k 0) (subst (λ xs. Has xs (get_or ps k 0)) are (has_at ps k 0 low))

  pub place_low : k < length (moves_of q moves)
  place_low = subst (λ (xs : List ℕ). k < length xs) are low

  pub place_apart : Has (take k (moves_of q moves)) (get_or ps k 0) → ⊥
  place_apart h = not_before ps k 0 (subst Distinct (sym are) (moves_once q moves)) low (subst (λ (xs : List ℕ). Has (take k xs) (get_or ps k 0)) (sym are) h)
