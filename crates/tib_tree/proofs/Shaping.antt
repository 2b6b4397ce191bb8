-- How the sizes and depths of nodes are found from the last one on.
use Rattle.std.proofs.Common.{◌≡◌, ℕ, ◌+◌, ◌-◌, ◌≤◌, List, [], ◌∷◌, ◌++◌, length, refl, ap, sym, ◌∙◌, arith, append_assoc, length-append, append-nil, Option, Bool, true, false, suc}
use Rattle.std.specs.Prelude.{Some, None, is_some, option_map, map, reverse}
use Rattle.std.proofs.lemmas.List.{reverse-append, map-append, length-reverse, length-map}
use Rattle.tib_lex.proofs.Lists.{head_is, tail_is}
use Rattle.tib_tree.specs.Trees.{Tree, Trees, none, tree, count, sizes, only, first_of}
use Rattle.tib_tree.specs.Nodes.{rank_of}
use Rattle.tib_tree.specs.Filled.{nodes_at, nodes_of_tree, nodes_at_levels}
use Rattle.tib_tree.specs.Shaped.{blank, blank_of, blanks_back, AreOneTree, sizes_at_levels, levels_back, kids_of, IsShaped}
use Rattle.tib_tree.specs.declared.preorder.Node.{Node}
use Rattle.tib_tree.specs.declared.shape.Place.{Place}
use Rattle.tib_tree.specs.declared.shape.Level.{Level}
use Rattle.tib_tree.specs.declared.shape.Reader.{Reader}
use Rattle.tib_tree.proofs.Fill.{only_tree}
use Rattle.tib_tree.proofs.Placing.{same_ends}

-- a list of nodes with their depths has an entry for each node
pub length-nodes_at : (d : ℕ) (ts : Trees ℕ) → length (nodes_at d ts) ≡ sizes ts
length-nodes_at d none = refl
length-nodes_at d (tree f kids rest) =
    omega (arith, length-append (nodes_at (suc d) kids) (nodes_at d rest), length-nodes_at (suc d) kids, length-nodes_at d rest)

length-nodes_at_levels : (levels : List (Trees ℕ)) → length (nodes_at_levels levels) ≡ sizes_at_levels levels
length-nodes_at_levels [] = refl
length-nodes_at_levels (ts ∷ levels) =
    omega (arith, length-append (nodes_at (length levels) ts) (nodes_at_levels levels), length-nodes_at (length levels) ts, length-nodes_at_levels levels)

length-blanks : (places : List Place) → length (blanks_back places) ≡ length places
length-blanks places = length-reverse (map blank_of places) ∙ length-map places blank_of

-- the nodes that were read are those of all trees
pub all_read : (r : Reader) (s : IsShaped r) → length r.places.items ≡ sizes (kids_of s.held) + r.before
all_read r s =
    sym (length-blanks r.places.items)
    ∙ ap length s.nodes_are
    ∙ length-nodes_at_levels (kids_of s.held ∷ (s.top ∷ s.above))
    ∙ ap (λ (n : ℕ). sizes (kids_of s.held) + n) (sym s.before_is)

pub before_within : (r : Reader) → IsShaped r → r.before ≤ length r.places.items
before_within r s = omega (arith, all_read r s)

-- nothing was read
pub shaped_start : (r : Reader) → r.places.items ≡ [] → r.top ≡ 0 → r.above.items ≡ [] → r.held ≡ None → r.before ≡ 0 → IsShaped r
shaped_start r p t a h b = record {
  held = None;
  top = none;
  above = [];
  held_is = h;
  top_is = t;
  above_is = a;
  before_is = b;
  nodes_are = ap blanks_back p;
}

rank_held : (held : Option (Trees ℕ)) → rank_of (option_map count held) ≡ count (kids_of held)
rank_held None = refl
rank_held (Some kids) = refl

blank_more : (places : List Place) (p : Place) → blanks_back (places ++ p ∷ []) ≡ blank_of p ∷ blanks_back places
blank_more places p = ap reverse (map-append blank_of places (p ∷ [])) ∙ reverse-append (map blank_of places) (blank_of p ∷ [])

node_same : (r n s m d e : ℕ) → r ≡ n → s ≡ m → d ≡ e → ◌≡◌ {A = Node} (record { label = 0; rank = r; size = s; depth = d }) (record { label = 0; rank = n; size = m; depth = e })
node_same r n s m d e a b c =
    ap (λ (k : ℕ). record { label = 0; rank = k; size = s; depth = d }) a
    ∙ ap (λ (k : ℕ). record { label = 0; rank = n; size = k; depth = d }) b
    ∙ ap (λ (k : ℕ). record { label = 0; rank = n; size = m; depth = k }) c

length-levels : (levels : List (Trees ℕ)) → length (levels_back levels) ≡ length levels
length-levels [] = refl
length-levels (ts ∷ levels) =
    omega (arith, length-append (levels_back levels) (record { trees = count ts; nodes = sizes_at_levels (ts ∷ levels) } ∷ []), length-levels levels)

-- one more node
pub shaped_node : (old new : Reader) (p : Place) → IsShaped old → new.places.items ≡ old.places.items ++ p ∷ [] → p.kids ≡ old.held → p.size ≡ length old.places.items + 1 - old.before → p.depth ≡ length old.above.items → new.held ≡ None → new.top ≡ old.top + 1 → new.above.items ≡ old.above.items → new.before ≡ length old.places.items + 1 → IsShaped new
shaped_node old new p s places kids size depth held top above before =
    let inner : Trees ℕ = kids_of s.held in
    let d : ℕ = length s.above in
    let all = all_read old s in
    let rank : rank_of p.kids ≡ count inner = ap rank_of (kids ∙ s.held_is) ∙ rank_held s.held in
    let deep : p.depth ≡ d = depth ∙ ap length s.above_is ∙ length-levels s.above in
    let first : blank_of p ≡ record { label = 0; rank = count inner; size = suc (sizes inner); depth = d } =
    node_same (rank_of p.kids) (count inner) p.size (suc (sizes inner)) p.depth d rank (omega (arith, all, size)) deep in
    record {
      held = None;
      top = tree 0 inner s.top;
      above = s.above;
      held_is = held;
      top_is = omega (arith, top, s.top_is);
      above_is = above ∙ s.above_is;
      before_is = omega (arith, before, all, s.before_is);
      nodes_are =
          ap blanks_back places
          ∙ blank_more old.places.items p
          ∙ ap (λ (n : Node). n ∷ blanks_back old.places.items) first
          ∙ ap (λ (ns : List Node). record { label = 0; rank = count inner; size = suc (sizes inner); depth = d } ∷ ns) (s.nodes_are ∙ sym (append_assoc (nodes_at (suc d) inner) (nodes_at d s.top) (nodes_at_levels s.above)));
    }

none_held : (held : Option (Trees ℕ)) → option_map count held ≡ None → kids_of held ≡ none
none_held None e = refl
none_held (Some kids) e = let bad : Some (count kids) ≡ None = e in absurd (cc)

-- a level below
pub shaped_close : (old new : Reader) (level : Level) → IsShaped old → old.held ≡ None → new.held ≡ None → new.places.items ≡ old.places.items → new.top ≡ 0 → new.above.items ≡ old.above.items ++ level ∷ [] → level.trees ≡ old.top → level.nodes ≡ old.before → new.before ≡ old.before → IsShaped new
shaped_close old new level s free held places top above trees nodes before =
    let nothing : kids_of s.held ≡ none = none_held s.held (sym s.held_is ∙ free) in
    let same : level ≡ record { trees = count s.top; nodes = sizes_at_levels (s.top ∷ s.above) } =
    ap (λ (n : ℕ). record { trees = n; nodes = level.nodes }) (trees ∙ s.top_is) ∙ ap (λ (n : ℕ). record { trees = count s.top; nodes = n }) (nodes ∙ s.before_is) in
    record {
      held = None;
      top = none;
      above = s.top ∷ s.above;
      held_is = held;
      top_is = top;
      above_is = above ∙ ap (λ (ls : List Level). ls ++ level ∷ []) s.above_is ∙ ap (λ (l : Level). levels_back s.above ++ l ∷ []) same;
      before_is = omega (arith, before, s.before_is);
      nodes_are = ap blanks_back places ∙ s.nodes_are ∙ ap (λ (ts : Trees ℕ). nodes_at_levels (ts ∷ (s.top ∷ s.above))) nothing;
    }

some_level : (levels : List (Trees ℕ)) (rest : List Level) (level : Level) → levels_back levels ≡ rest ++ level ∷ [] → (ts : Trees ℕ) × (others : List (Trees ℕ)) × (levels ≡ ts ∷ others) × (levels_back others ≡ rest) × (level.trees ≡ count ts) × (level.nodes ≡ sizes_at_levels (ts ∷ others))
some_level [] rest level e = absurd (omega (arith, ap length e, length-append rest (level ∷ [])))
some_level (ts ∷ others) rest level e =
    let h = same_ends (levels_back others) rest (record { trees = count ts; nodes = sizes_at_levels (ts ∷ others) }) level e in
    (ts, others, refl, h.0, sym (ap (λ (l : Level). l.trees) h.1), sym (ap (λ (l : Level). l.nodes) h.1))

-- the level above
pub shaped_open : (old new : Reader) (level : Level) → IsShaped old → old.held ≡ None → old.above.items ≡ new.above.items ++ level ∷ [] → new.held ≡ Some old.top → new.places.items ≡ old.places.items → new.top ≡ level.trees → new.before ≡ level.nodes → IsShaped new
shaped_open old new level s free above held places top before =
    let l = some_level s.above new.above.items level (sym s.above_is ∙ above) in
    let nothing : kids_of s.held ≡ none = none_held s.held (sym s.held_is ∙ free) in
    record {
      held = Some s.top;
      top = l.0;
      above = l.1;
      held_is = held ∙ ap Some s.top_is;
      top_is = top ∙ l.4;
      above_is = sym l.3;
      before_is = before ∙ l.5;
      nodes_are = ap blanks_back places ∙ s.nodes_are ∙ ap (λ (ts : Trees ℕ). nodes_at_levels (ts ∷ (s.top ∷ s.above))) nothing ∙ ap (λ (ls : List (Trees ℕ)). nodes_at_levels (s.top ∷ ls)) l.2;
    }

no_levels : (levels : List (Trees ℕ)) → levels_back levels ≡ [] → levels ≡ []
no_levels [] e = refl
no_levels (ts ∷ levels) e =
    absurd (omega (arith, ap length e, length-append (levels_back levels) (record { trees = count ts; nodes = sizes_at_levels (ts ∷ levels) } ∷ [])))

-- one tree, of which nothing waits
pub shaped_one : (r : Reader) → IsShaped r → r.held ≡ None → r.top ≡ 1 → r.above.items ≡ [] → AreOneTree r.places.items
shaped_one r s held top above =
    let nothing : kids_of s.held ≡ none = none_held s.held (sym s.held_is ∙ held) in
    let gone : s.above ≡ [] = no_levels s.above (sym s.above_is ∙ above) in
    let one : s.top ≡ only (first_of 0 s.top) = only_tree s.top (sym s.top_is ∙ top) in
    record {
      tree = first_of 0 s.top;
      nodes =
          s.nodes_are
          ∙ ap (λ (ts : Trees ℕ). nodes_at_levels (ts ∷ (s.top ∷ s.above))) nothing
          ∙ ap (λ (ls : List (Trees ℕ)). nodes_at_levels (s.top ∷ ls)) gone
          ∙ append-nil (nodes_at 0 s.top)
          ∙ ap (nodes_at 0) one;
    }

-- Labels for nodes without labels

record Parts (ms xs ys : List Node) : Type 0 where
  left : List Node
  right : List Node
  all : ms ≡ left ++ right
  left_is : map blank left ≡ xs
  right_is : map blank right ≡ ys

split : (ms xs ys : List Node) → map blank ms ≡ xs ++ ys → Parts ms xs ys
split ms [] ys e = record { left = []; right = ms; all = refl; left_is = refl; right_is = e }
split [] (x ∷ xs) ys e = let bad : [] ≡ x ∷ (xs ++ ys) = e in absurd (cc)
split (m ∷ ms) (x ∷ xs) ys e =
    let p = split ms xs ys (tail_is e) in
    record {
      left = m ∷ p.left;
      right = p.right;
      all = ap (λ (l : List Node). m ∷ l) p.all;
      left_is = ap (λ (n : Node). n ∷ map blank p.left) (head_is e) ∙ ap (λ (l : List Node). x ∷ l) p.left_is;
      right_is = p.right_is;
    }

-- the same trees over the labels of the nodes
record Labelled (d : ℕ) (ts : Trees ℕ) (ms : List Node) : Type 0 where
  trees : Trees ℕ
  nodes : ms ≡ nodes_at d trees
  many : count trees ≡ count ts
  large : sizes trees ≡ sizes ts

labelled : (d : ℕ) (ts : Trees ℕ) (ms : List Node) → map blank ms ≡ nodes_at d ts → Labelled d ts ms
labelled d none [] e = record { trees = none; nodes = refl; many = refl; large = refl }
labelled d none (m ∷ ms) e = let bad : blank m ∷ map blank ms ≡ [] = e in absurd (cc)
labelled d (tree f kids rest) [] e = let bad : [] ≡ nodes_at d (tree f kids rest) = e in absurd (cc)
labelled d (tree f kids rest) (m ∷ ms) e =
    let first : blank m ≡ record { label = f; rank = count kids; size = suc (sizes kids); depth = d } = head_is e in
    let p = split ms (nodes_at (suc d) kids) (nodes_at d rest) (tail_is e) in
    let k = labelled (suc d) kids p.left p.left_is in
    let r = labelled d rest p.right p.right_is in
    let rank : m.rank ≡ count k.trees = ap (λ (n : Node). n.rank) first ∙ sym k.many in
    let size : m.size ≡ suc (sizes k.trees) = ap (λ (n : Node). n.size) first ∙ ap suc (sym k.large) in
    let depth : m.depth ≡ d = ap (λ (n : Node). n.depth) first in
    let node : m ≡ record { label = m.label; rank = count k.trees; size = suc (sizes k.trees); depth = d } =
    ap (λ (n : ℕ). record { label = m.label; rank = n; size = m.size; depth = m.depth }) rank
    ∙ ap (λ (n : ℕ). record { label = m.label; rank = count k.trees; size = n; depth = m.depth }) size
    ∙ ap (λ (n : ℕ). record { label = m.label; rank = count k.trees; size = suc (sizes k.trees); depth = n }) depth in
    record {
      trees = tree m.label k.trees r.trees;
      nodes =
          ap (λ (l : List Node). m ∷ l) (p.all ∙ ap (λ (l : List Node). l ++ p.right) k.nodes ∙ ap (λ (l : List Node). nodes_at (suc d) k.trees ++ l) r.nodes)
          ∙ ap (λ (n : Node). n ∷ (nodes_at (suc d) k.trees ++ nodes_at d r.trees)) node;
      many = ap suc r.many;
      large = omega (arith, k.large, r.large);
    }

-- nodes at the places of one tree are those of one tree
pub one_tree : (places : List Place) (ms : List Node) → AreOneTree places → map blank ms ≡ blanks_back places → (t : Tree ℕ) × (ms ≡ nodes_of_tree t)
one_tree places ms one e =
    let l = labelled 0 (only one.tree) ms (e ∙ one.nodes) in
    (first_of 0 l.trees, l.nodes ∙ ap (nodes_at 0) (only_tree l.trees l.many))

-- nothing is there
pub not_some : {A : Type 0} (b : Bool) (o : Option A) → b ≡ is_some o → b ≡ false → o ≡ None
not_some b None e f = refl
not_some b (Some x) e f = let bad : true ≡ false = sym e ∙ f in absurd (cc)

pub no_members : {A : Type 0} (xs : List A) → length xs ≡ 0 → xs ≡ []
no_members [] e = refl
no_members (x ∷ xs) e = absurd (omega arith)
