-- The walk of a left-hand side beside the nodes of a tree finds whether it matches, and the nodes
-- of its variables.
use Rattle.std.specs.Prelude.{◌≡◌, ℕ, ◌+◌, ◌<◌, ◌≤◌, ◌⊎◌, nat_eq, Bool, true, false, List, [], ◌∷◌, ◌++◌, length, drop, Option, None, Some, slice_get, if◌then◌else◌, refl}
use Rattle.std.proofs.Common.{zero, suc, arith, ap, sym, ◌∙◌, subst, get_or, append_assoc, inl, inr}
use Rattle.std.proofs.lemmas.List.{length-append}
use Rattle.tib_lex.proofs.Lists.{append_nil, some_same}
use Rattle.tib_lex.proofs.Numbers.{nat_eq-true, nat_eq-itself}
use Rattle.tib_tree.specs.Trees.{Tree, Trees, none, tree, only, count, sizes, size, preorder, preorder_of}
use Rattle.tib_tree.specs.Filled.{nodes_at, nodes_of_tree}
use Rattle.tib_tree.specs.declared.preorder.Node.{Node}
use Rattle.tib_tree.proofs.Shaping.{length-nodes_at}
use Rattle.tib_grammar.specs.Sides.{Symbol, label, hole, Side as SideFor, HolesAreLeaves}
use Rattle.tib_grammar.specs.Items.{pair_of, pairs_of}
use Rattle.tib_grammar.specs.declared.Item.{Item}
use Rattle.tib_transducer.specs.Run.{Binds}
use Rattle.tib_transducer.specs.declared.Variable.{Variable}
use Rattle.tib_image.specs.Nodes.{subtree, Match, variable_nodes, MatchesAt, nodes_of}
use Rattle.tib_image.specs.Standing.{Stand, descend}
use Rattle.tib_image.specs.Walk.{binds, with_nodes, width, past, walk}

-- the node with a number is that of a label over children
pub record HasNode (nodes : List Node) (n f : ℕ) (kids : Trees ℕ) : Type 0 where
  pub node : Node
  pub at : slice_get nodes n ≡ Some node
  pub label_is : node.label ≡ f
  pub rank_is : node.rank ≡ count kids
  pub size_is : node.size ≡ suc (sizes kids)

-- a tree has as many nodes as its size says
pub nodes_many : (t : Tree ℕ) (nodes : List Node) → nodes ≡ nodes_of_tree t → length nodes ≡ size t
nodes_many t nodes e = ap (λ (ns : List Node). length ns) e ∙ length-nodes_at 0 (only t) ∙ omega arith

seam : {A : Type 0} (xs : List A) (y : A) (ys : List A) → slice_get (xs ++ y ∷ ys) (length xs) ≡ Some y
seam [] y ys = refl
seam (x ∷ xs) y ys = seam xs y ys

-- trees whose nodes are those of a list from a number on are there
standing :
    (nodes : List Node) (d : ℕ) (ts : Trees ℕ) (xs ys : List Node) (n : ℕ) → n ≡ length xs → nodes ≡ xs ++ (nodes_at d ts ++ ys) → Stand (HasNode nodes) ts n
standing nodes d none xs ys n at is = tt
standing nodes d (tree f kids rest) xs ys n at is =
    let one : Node = record { label = f; rank = count kids; size = suc (sizes kids); depth = d } in
    let first : nodes ≡ (xs ++ one ∷ []) ++ (nodes_at (suc d) kids ++ (nodes_at d rest ++ ys)) =
    is ∙ ap (λ zs. xs ++ one ∷ zs) (append_assoc (nodes_at (suc d) kids) (nodes_at d rest) ys) ∙ sym (append_assoc xs (one ∷ []) (nodes_at (suc d) kids ++ (nodes_at d rest ++ ys)))
    in
    let second : nodes ≡ ((xs ++ one ∷ []) ++ nodes_at (suc d) kids) ++ (nodes_at d rest ++ ys) = first ∙ sym (append_assoc (xs ++ one ∷ []) (nodes_at (suc d) kids) (nodes_at d rest ++ ys)) in
    let here : slice_get nodes n ≡ Some one =
    ap (λ m. slice_get nodes m) at ∙ ap (λ (ns : List Node). slice_get ns (length xs)) is ∙ seam xs one ((nodes_at (suc d) kids ++ nodes_at d rest) ++ ys)
    in (
      record { node = one; at = here; label_is = refl; rank_is = refl; size_is = refl },
      standing nodes (suc d) kids (xs ++ one ∷ []) (nodes_at d rest ++ ys) (suc n) (omega (arith, at, length-append xs (one ∷ []))) first,
      standing nodes d rest ((xs ++ one ∷ []) ++ nodes_at (suc d) kids) ys (suc n + sizes kids)
          (omega (arith, at, length-append xs (one ∷ []), length-append (xs ++ one ∷ []) (nodes_at (suc d) kids), length-nodes_at (suc d) kids)) second,
    )

-- the nodes of a tree from a number on are those of the subtree there
pub node_stands : (t : Tree ℕ) (nodes : List Node) (n : ℕ) → nodes ≡ nodes_of_tree t → n < size t → Stand (HasNode nodes) (only (subtree t n)) n
node_stands t nodes n e h =
    let whole : nodes ≡ [] ++ (nodes_at 0 (only t) ++ []) = e ∙ sym (append_nil (nodes_at 0 (only t))) in
    let z : 0 + n ≡ n = omega arith in
    subst (Stand (HasNode nodes) (only (subtree t n))) z (descend (HasNode nodes) (only t) 0 n t (standing nodes 0 (only t) [] [] 0 refl whole) (omega (arith, h)))

-- what a walk finds

pub with_none : (o : Option (List ℕ)) → with_nodes [] o ≡ o
with_none None = refl
with_none (Some ns) = refl

pub with_both : (ns ms : List ℕ) (o : Option (List ℕ)) → with_nodes ns (with_nodes ms o) ≡ with_nodes (ns ++ ms) o
with_both ns ms None = refl
with_both ns ms (Some ks) = ap Some (sym (append_assoc ns ms ks))

with_some : (ns ms : List ℕ) (o : Option (List ℕ)) → with_nodes ns o ≡ Some ms → (ks : List ℕ) × (o ≡ Some ks)
with_some ns ms None e = absurd (cc)
with_some ns ms (Some ks) e = (ks, refl)

pub binds-true : (l : Option ℕ) (f : ℕ) → binds l f ≡ true → Binds l f
binds-true None f e = tt
binds-true (Some g) f e = nat_eq-true g f e

pub true-binds : (l : Option ℕ) (f : ℕ) → Binds l f → binds l f ≡ true
true-binds None f b = refl
true-binds (Some g) f b = ap (λ x. nat_eq x f) b ∙ nat_eq-itself f

-- a label that the node has, and a variable that binds its tree
past-label : (f rank n : ℕ) (node : Node) (rest : Option (List ℕ)) → node.label ≡ f → node.rank ≡ rank → past (label f) rank (Some node) n rest ≡ rest
past-label f rank n node rest e k =
    let one : nat_eq node.label f ≡ true = ap (λ x. nat_eq x f) e ∙ nat_eq-itself f in
    let two : nat_eq node.rank rank ≡ true = ap (λ x. nat_eq x rank) k ∙ nat_eq-itself rank in
    rw (one, two) refl

past-hole : (x : Variable) (rank n : ℕ) (node : Node) (rest : Option (List ℕ)) → binds x.label node.label ≡ true → past (hole x) rank (Some node) n rest ≡ with_nodes (n ∷ []) rest
past-hole x rank n node rest e = rw e refl

label-past : (f rank n : ℕ) (node : Node) (rest : Option (List ℕ)) (ms : List ℕ) → past (label f) rank (Some node) n rest ≡ Some ms → (node.label ≡ f) × (node.rank ≡ rank) × (rest ≡ Some ms)
label-past f rank n node rest ms e = by (nat_eq node.label f) (nat_eq node.rank rank) refl refl e
  where
    by : (a b : Bool) → nat_eq node.label f ≡ a → nat_eq node.rank rank ≡ b → (if a then (if b then rest else None) else None) ≡ Some ms → (node.label ≡ f) × (node.rank ≡ rank) × (rest ≡ Some ms)
    by true true h k m = (nat_eq-true node.label f h, nat_eq-true node.rank rank k, m)
    by true false h k m = absurd (cc)
    by false b h k m = absurd (cc)

hole-past : (x : Variable) (rank n : ℕ) (node : Node) (rest : Option (List ℕ)) (ms : List ℕ) → past (hole x) rank (Some node) n rest ≡ Some ms → Binds x.label node.label × (with_nodes (n ∷ []) rest ≡ Some ms)
hole-past x rank n node rest ms e = by (binds x.label node.label) refl e
  where
    by : (a : Bool) → binds x.label node.label ≡ a → (if a then with_nodes (n ∷ []) rest else None) ≡ Some ms → Binds x.label node.label × (with_nodes (n ∷ []) rest ≡ Some ms)
    by true h m = (binds-true x.label node.label h, m)
    by false h m = absurd (cc)

-- as many trees as sides that match them
pub match_many : (ss : Trees (Symbol ℕ Variable)) (us : Trees ℕ) → Match ss us → count ss ≡ count us
match_many none none m = refl
match_many none (tree g us more) m = absurd m
match_many (tree (label f) kids rest) none m = absurd m
match_many (tree (hole x) kids rest) none m = absurd m
match_many (tree (label f) kids rest) (tree g us more) m = ap suc (match_many rest more m.2)
match_many (tree (hole x) kids rest) (tree g us more) m = ap suc (match_many rest more m.1)

module _ (nodes : List Node) where
  -- sides that match are walked past, and their variables found
  complete :
      (ss : Trees (Symbol ℕ Variable)) (us : Trees ℕ) (n : ℕ) (xs : List (Symbol ℕ Variable × ℕ)) → HolesAreLeaves ss → Stand (HasNode nodes) us n → Match ss us →
      walk (preorder ss ++ xs) nodes n ≡ with_nodes (variable_nodes ss us n) (walk xs nodes (n + sizes us))
  complete none none n xs l s m = let e : n ≡ n + 0 = omega arith in ap (walk xs nodes) e ∙ sym (with_none (walk xs nodes (n + 0)))
  complete none (tree g us more) n xs l s m = absurd m
  complete (tree (label f) kids rest) none n xs l s m = absurd m
  complete (tree (hole x) kids rest) none n xs l s m = absurd m
  complete (tree (label f) kids rest) (tree g us more) n xs l s m =
      let h = s.0 in
      let ns : List ℕ = variable_nodes kids us (suc n) in
      let ms : List ℕ = variable_nodes rest more (suc n + sizes us) in
      let one : n + 1 ≡ suc n = omega arith in
      let all : (suc n + sizes us) + sizes more ≡ n + suc (sizes us + sizes more) = omega arith in
      ap (λ o. past (label f) (count kids) o n (walk ((preorder kids ++ preorder rest) ++ xs) nodes (n + 1))) h.at
      ∙ past-label f (count kids) n h.node (walk ((preorder kids ++ preorder rest) ++ xs) nodes (n + 1)) (h.label_is ∙ sym m.0) (h.rank_is ∙ sym (match_many kids us m.1))
      ∙ ap (walk ((preorder kids ++ preorder rest) ++ xs) nodes) one
      ∙ ap (λ ys. walk ys nodes (suc n)) (append_assoc (preorder kids) (preorder rest) xs)
      ∙ complete kids us (suc n) (preorder rest ++ xs) l.0 s.1 m.1
      ∙ ap (with_nodes ns) (complete rest more (suc n + sizes us) xs l.1 s.2 m.2)
      ∙ with_both ns ms (walk xs nodes ((suc n + sizes us) + sizes more))
      ∙ ap (λ k. with_nodes (ns ++ ms) (walk xs nodes k)) all
  complete (tree (hole x) none rest) (tree g us more) n xs l s m =
      let h = s.0 in
      let ms : List ℕ = variable_nodes rest more (suc n + sizes us) in
      let next : n + width (hole x) (Some h.node) ≡ suc n + sizes us = omega (arith, h.size_is) in
      let all : (suc n + sizes us) + sizes more ≡ n + suc (sizes us + sizes more) = omega arith in
      ap (λ o. past (hole x) 0 o n (walk (preorder rest ++ xs) nodes (n + width (hole x) o))) h.at
      ∙ past-hole x 0 n h.node (walk (preorder rest ++ xs) nodes (n + width (hole x) (Some h.node))) (true-binds x.label h.node.label (subst (Binds x.label) (sym h.label_is) m.0))
      ∙ ap (λ k. with_nodes (n ∷ []) (walk (preorder rest ++ xs) nodes k)) next
      ∙ ap (with_nodes (n ∷ [])) (complete rest more (suc n + sizes us) xs l s.2 m.1)
      ∙ with_both (n ∷ []) ms (walk xs nodes ((suc n + sizes us) + sizes more))
      ∙ ap (λ k. with_nodes (n ∷ ms) (walk xs nodes k)) all
  complete (tree (hole x) (tree y kids more) rest) (tree g us others) n xs l s m = absurd l

  -- sides that are walked past match
  sound :
      (ss : Trees (Symbol ℕ Variable)) (us : Trees ℕ) (n : ℕ) (xs : List (Symbol ℕ Variable × ℕ)) (found : List ℕ) → HolesAreLeaves ss → Stand (HasNode nodes) us n → count us ≡ count ss →
      walk (preorder ss ++ xs) nodes n ≡ Some found → Match ss us
  sound none none n xs found l s c w = tt
  sound none (tree g us more) n xs found l s c w = absurd (omega arith)
  sound (tree y kids rest) none n xs found l s c w = absurd (omega arith)
  sound (tree (label f) kids rest) (tree g us more) n xs found l s c w =
      let h = s.0 in
      let one : n + 1 ≡ suc n = omega arith in
      let p = label-past f (count kids) n h.node (walk ((preorder kids ++ preorder rest) ++ xs) nodes (n + 1)) found (sym (ap (λ o. past (label f) (count kids) o n (walk ((preorder kids ++ preorder rest) ++ xs) nodes (n + 1))) h.at) ∙ w) in
      let inner : walk (preorder kids ++ (preorder rest ++ xs)) nodes (suc n) ≡ Some found =
      ap (λ ys. walk ys nodes (suc n)) (sym (append_assoc (preorder kids) (preorder rest) xs)) ∙ ap (walk ((preorder kids ++ preorder rest) ++ xs) nodes) (sym one) ∙ p.2
      in
      let first = sound kids us (suc n) (preorder rest ++ xs) found l.0 s.1 (sym h.rank_is ∙ p.1) inner in
      let outer = with_some (variable_nodes kids us (suc n)) found (walk (preorder rest ++ xs) nodes (suc n + sizes us)) (sym (complete kids us (suc n) (preorder rest ++ xs) l.0 s.1 first) ∙ inner) in
      (sym p.0 ∙ h.label_is, first, sound rest more (suc n + sizes us) xs outer.0 l.1 s.2 (omega arith) outer.1)
  sound (tree (hole x) none rest) (tree g us more) n xs found l s c w =
      let h = s.0 in
      let next : n + width (hole x) (Some h.node) ≡ suc n + sizes us = omega (arith, h.size_is) in
      let p = hole-past x 0 n h.node (walk (preorder rest ++ xs) nodes (n + width (hole x) (Some h.node))) found (sym (ap (λ o. past (hole x) 0 o n (walk (preorder rest ++ xs) nodes (n + width (hole x) o))) h.at) ∙ w) in
      let outer = with_some (n ∷ []) found (walk (preorder rest ++ xs) nodes (suc n + sizes us)) (ap (λ k. with_nodes (n ∷ []) (walk (preorder rest ++ xs) nodes k)) (sym next) ∙ p.1) in
      (subst (Binds x.label) h.label_is p.0, sound rest more (suc n + sizes us) xs outer.0 l s.2 (omega arith) outer.1)
  sound (tree (hole x) (tree y kids more) rest) (tree g us others) n xs found l s c w = absurd l

-- the walk of a left-hand side at a node of a tree says whether it matches there
module _ (t : Tree ℕ) (nodes : List Node) (are : nodes ≡ nodes_of_tree t) (n : ℕ) (below : n < size t) (left : SideFor ℕ Variable) (leaves : HolesAreLeaves (only left)) (pairs : List (Symbol ℕ Variable × ℕ)) (is : pairs ≡ preorder_of left) where
  whole : pairs ≡ preorder (only left) ++ []
  whole = is ∙ ap (λ xs. (left.label, count left.kids) ∷ xs) (sym (append_nil (preorder left.kids))) ∙ sym (append_nil (preorder (only left)))

  stand : Stand (HasNode nodes) (only (subtree t n)) n
  stand = node_stands t nodes n are below

  -- where it matches the walk finds the nodes of its variables
  pub matched : MatchesAt left t n → walk pairs nodes n ≡ Some (nodes_of left t n)
  matched m =
      ap (λ xs. walk xs nodes n) whole ∙ complete nodes (only left) (only (subtree t n)) n [] leaves stand m
      ∙ ap Some (append_nil (nodes_of left t n))

  pub found_match : (found : List ℕ) → walk pairs nodes n ≡ Some found → MatchesAt left t n
  found_match found w = sound nodes (only left) (only (subtree t n)) n [] found leaves stand refl (ap (λ xs. walk xs nodes n) (sym whole) ∙ w)

  pub found_nodes : (found : List ℕ) → walk pairs nodes n ≡ Some found → found ≡ nodes_of left t n
  found_nodes found w = some_same found (nodes_of left t n) (sym w ∙ matched (found_match found w))

  pub no_match : walk pairs nodes n ≡ None → MatchesAt left t n → ⊥
  no_match w m = let e : Some (nodes_of left t n) ≡ None = sym (matched m) ∙ w in cc

-- one more item of the walk
pub step-label :
    (nodes : List Node) (found : List ℕ) (n f rank : ℕ) (xs : List (Symbol ℕ Variable × ℕ)) (node : Node) → slice_get nodes n ≡ Some node → node.label ≡ f → node.rank ≡ rank →
    with_nodes found (walk ((label f, rank) ∷ xs) nodes n) ≡ with_nodes found (walk xs nodes (n + 1))
step-label nodes found n f rank xs node at e k =
    ap (with_nodes found) (ap (λ o. past (label f) rank o n (walk xs nodes (n + 1))) at ∙ past-label f rank n node (walk xs nodes (n + 1)) e k)

pub step-hole :
    (nodes : List Node) (found : List ℕ) (n rank : ℕ) (x : Variable) (xs : List (Symbol ℕ Variable × ℕ)) (node : Node) → slice_get nodes n ≡ Some node → binds x.label node.label ≡ true →
    with_nodes found (walk ((hole x, rank) ∷ xs) nodes n) ≡ with_nodes (found ++ n ∷ []) (walk xs nodes (n + node.size))
step-hole nodes found n rank x xs node at e =
    ap (with_nodes found)
    (ap (λ o. past (hole x) rank o n (walk xs nodes (n + width (hole x) o))) at ∙ past-hole x rank n node (walk xs nodes (n + node.size)) e)
    ∙ with_both found (n ∷ []) (walk xs nodes (n + node.size))

pub stop-end : (nodes : List Node) (found : List ℕ) (n : ℕ) (x : Symbol ℕ Variable × ℕ) (xs : List (Symbol ℕ Variable × ℕ)) → slice_get nodes n ≡ None → with_nodes found (walk (x ∷ xs) nodes n) ≡ None
stop-end nodes found n x xs at =
    ap (λ o. with_nodes found (past x.0 x.1 o n (walk xs nodes (n + width x.0 (slice_get nodes n))))) at

pub stop-label :
    (nodes : List Node) (found : List ℕ) (n f rank : ℕ) (xs : List (Symbol ℕ Variable × ℕ)) (node : Node) → slice_get nodes n ≡ Some node → (node.label ≡ f → ⊥) ⊎ (node.rank ≡ rank → ⊥) →
    with_nodes found (walk ((label f, rank) ∷ xs) nodes n) ≡ None
stop-label nodes found n f rank xs node at differ =
    ap (λ o. with_nodes found (past (label f) rank o n (walk xs nodes (n + 1)))) at ∙ by (nat_eq node.label f) (nat_eq node.rank rank) refl refl
  where
    rest : Option (List ℕ)
    rest = walk xs nodes (n + 1)

    by : (a b : Bool) → nat_eq node.label f ≡ a → nat_eq node.rank rank ≡ b → with_nodes found (if a then (if b then walk xs nodes (n + 1) else None) else None) ≡ None
    by true true h k = absurd (elim differ [ inl d ↦ d (nat_eq-true node.label f h) | inr d ↦ d (nat_eq-true node.rank rank k) ])
    by true false h k = refl
    by false b h k = refl

pub stop-hole :
    (nodes : List Node) (found : List ℕ) (n rank : ℕ) (x : Variable) (xs : List (Symbol ℕ Variable × ℕ)) (node : Node) → slice_get nodes n ≡ Some node → binds x.label node.label ≡ false →
    with_nodes found (walk ((hole x, rank) ∷ xs) nodes n) ≡ None
stop-hole nodes found n rank x xs node at e =
    ap (λ o. with_nodes found (past (hole x) rank o n (walk xs nodes (n + width (hole x) o)))) at ∙ rw e refl

-- the pairs of an item and of those after it
pub next_pairs : (items : List (Item Variable)) (i : ℕ) (d x : Item Variable) → i < length items → get_or items i d ≡ x → pairs_of (drop i items) ≡ pair_of x ∷ pairs_of (drop (i + 1) items)
next_pairs [] i d x h e = absurd (omega arith)
next_pairs (y ∷ items) zero d x h e = ap (λ z. pair_of z ∷ pairs_of items) e
next_pairs (y ∷ items) (suc i) d x h e =
    let k : suc i + 1 ≡ suc (i + 1) = omega arith in
    next_pairs items i d x (omega arith) e ∙ ap (λ j. pair_of x ∷ pairs_of (drop j (y ∷ items))) (sym k)

-- what a node is read as
pub node_read : (nodes : List Node) (n : ℕ) (node : Node) → n < length nodes → node ≡ get_or nodes n node → slice_get nodes n ≡ Some node
node_read [] n node h e = absurd (omega arith)
node_read (x ∷ nodes) zero node h e = ap Some (sym e)
node_read (x ∷ nodes) (suc n) node h e = node_read nodes n node (omega arith) e

pub no_node : (nodes : List Node) (n : ℕ) → length nodes ≤ n → slice_get nodes n ≡ None
no_node [] n h = refl
no_node (x ∷ nodes) zero h = absurd (omega arith)
no_node (x ∷ nodes) (suc n) h = no_node nodes n (omega arith)

pub carried : (nodes : List Node) (xs : List (Symbol ℕ Variable × ℕ)) (found now : List ℕ) (n next : ℕ) → now ≡ found → next ≡ n → with_nodes now (walk xs nodes next) ≡ with_nodes found (walk xs nodes n)
carried nodes xs found now n next e k = ap (λ fs. with_nodes fs (walk xs nodes next)) e ∙ ap (λ m. with_nodes found (walk xs nodes m)) k

-- the label and the rank of a node are those of the subtree there
pub node_is : (t : Tree ℕ) (nodes : List Node) (n : ℕ) (d : Node) → nodes ≡ nodes_of_tree t → n < size t → ((get_or nodes n d).label ≡ (subtree t n).label) × ((get_or nodes n d).rank ≡ count (subtree t n).kids)
node_is t nodes n d e h =
    let here = (node_stands t nodes n e h).0 in
    let same : get_or nodes n d ≡ here.node = at nodes n here.node here.at in
    (ap (λ (x : Node). x.label) same ∙ here.label_is, ap (λ (x : Node). x.rank) same ∙ here.rank_is)
  where
    at : (ns : List Node) (n : ℕ) (x : Node) → slice_get ns n ≡ Some x → get_or ns n d ≡ x
    at [] n x k = absurd (cc)
    at (y ∷ ns) zero x k = some_same y x k
    at (y ∷ ns) (suc n) x k = at ns n x k
