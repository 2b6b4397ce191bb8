-- Items of a side that are one tree.
use Rattle.std.proofs.Common.{◌≡◌, ℕ, ◌-◌, ◌≤◌, List, [], ◌∷◌, ◌++◌, length, map, get_or, take, drop, refl, ap, sym, ◌∙◌, subst, arith, Option, suc}
use Rattle.std.specs.Prelude.{None}
use Rattle.std.proofs.lemmas.List.{take-append-drop, length-map}
use Rattle.tib_lex.specs.Lists.{Along}
use Rattle.tib_lex.specs.declared.token.Kind.TheVariants as token_kinds
use Rattle.tib_tree.specs.Grows.{Grows}
use Rattle.tib_tree.specs.Nodes.{rank_of}
use Rattle.tib_tree.specs.Trees.{Trees, none, tree, preorder, preorder_of, count as count_trees, IsOneTree, IsOneTree-preorder_of, most_nodes}
use Rattle.tib_tree.specs.Written.{Written, Item, end, leaf, head, items, count}
use Rattle.tib_tree.specs.Shape.{items_back, item_at}
use Rattle.tib_tree.specs.declared.shape.Place.{Place}
use Rattle.tib_tree.proofs.Read.{tree_back}
use Rattle.tib_grammar.specs.Sides.{Symbol, label, hole, Side}
use Rattle.tib_grammar.specs.Items.{pair_of, pairs_of, holes_in}
use Rattle.tib_grammar.specs.declared.Item.{Item as SideItem}
use Rattle.tib_grammar.proofs.Holes.{holes_of_items}
use Rattle.tib_grammar_file.proofs.Alongs.{along_changes, along_front, along_back, along_long}
use Rattle.tib_grammar_file.proofs.Resolved.{one_tree}
use Rattle.tib_transducer.specs.Range.{AreNumbered}
use Rattle.tib_transducer.specs.Rules.{variables_of}
use Rattle.tib_transducer.specs.declared.Variable.{Variable}
use Rattle.tib_transducer.specs.declared.Pair.{Pair}
use Rattle.tib_transducer_file.specs.Forms.{behind_stop, written_label}
use Rattle.tib_transducer_file.specs.Found.{bytes_at, parts_with}
use Rattle.tib_transducer_file.specs.Value.{IsRootItem, IsLeftNode, IsLeftSide, IsRightNode}
use Rattle.tib_transducer_file.specs.Sides.{PushesLeft}
use Rattle.tib_transducer_file.specs.Built.{AreOneTree}
use Rattle.tib_transducer_file.specs.declared.forms.RootToken.{RootToken}
use Rattle.tib_transducer_file.proofs.Backs.{last_back, back_long}
use Rattle.tib_transducer_file.proofs.VariablesUsed.{Root, heads_same}
use Rattle.tib_transducer_file.proofs.SidesRead.{holes_append}
use Rattle.tib_tree.proofs.NodesRead.{item_kids}
use Rattle.tib_lex.specs.Line.{word_at}

abbrev pub HasRank : {A : Type 0} → A × ℕ → Item → Type 0
HasRank x i = x.1 ≡ rank_of i.kids

record Ranked {A : Type 0} (xs : List (A × ℕ)) (f : Written) : Type 0 where
  pub trees : Trees A
  pub order : preorder trees ≡ xs
  pub many : count_trees trees ≡ count f

rank_same : {A : Type 0} (x : A × ℕ) (n : ℕ) → x.1 ≡ n → (x.0, n) ≡ x
rank_same x n e = ap (λ (m : ℕ). (x.0, m)) (sym e)

ranked : {A : Type 0} (f : Written) (xs : List (A × ℕ)) → Along HasRank xs (items f) → Ranked xs f
ranked end [] h = record { trees = none; order = refl; many = refl }
ranked end (x ∷ xs) h = absurd h
ranked (leaf q t rest) [] h = absurd h
ranked (leaf q t rest) (x ∷ xs) h =
    let g = ranked rest xs h.1 in
    record {
      trees = tree x.0 none g.trees;
      order = ap (λ p. p ∷ preorder g.trees) (rank_same x 0 h.0) ∙ ap (λ ys. x ∷ ys) g.order;
      many = ap suc g.many;
    }
ranked (head q t kids rest) [] h = absurd h
ranked (head q t kids rest) (x ∷ xs) h =
    let n : ℕ = length (items kids) in
    let k = ranked kids (take n xs) (along_front HasRank xs (items kids) (items rest) h.1) in
    let g = ranked rest (drop n xs) (along_back HasRank xs (items kids) (items rest) h.1) in
    record {
      trees = tree x.0 k.trees g.trees;
      order = ap (λ p. p ∷ (preorder k.trees ++ preorder g.trees)) (rank_same x (count_trees k.trees) (h.0 ∙ sym k.many))
          ∙ ap (λ ys. x ∷ (ys ++ preorder g.trees)) k.order
          ∙ ap (λ ys. x ∷ (take n xs ++ ys)) g.order
          ∙ ap (λ ys. x ∷ ys) (take-append-drop n xs);
      many = ap suc g.many;
    }

-- items with the ranks of one tree are one
pub are_one : {A : Type 0} (xs : List (A × ℕ)) (is : List Item) → AreOneTree is → Along HasRank xs is → IsOneTree xs
are_one xs is t h =
    let w = tree_back t.0 is t.1 in
    let r = ranked w.tree xs (subst (λ (js : List Item). Along HasRank xs js) (sym w.nodes) h) in
    let o = one_tree r.trees (r.many ∙ w.one) in
    subst IsOneTree (o.2 ∙ r.order) (IsOneTree-preorder_of o.0)

-- what is read where no place is
abbrev pub no_place : Place
no_place = record { token = record { kind = token_kinds.Open; start = 0; end = 0 }; kids = None; size = 0; depth = 0 }

-- right sides
pub right_ranks : (names labels : List (List ℕ)) (numbers : List ℕ) (ss : List (Symbol ℕ (Pair ℕ) × ℕ)) (is : List Item) → Along (IsRightNode names labels numbers) ss is → Along HasRank ss is
right_ranks names labels numbers ss is h = along_changes (IsRightNode names labels numbers) HasRank ss is (λ s i n. n.1) h

pairs_long : {P : Type 0} (items : List (SideItem P)) → length (pairs_of items) ≡ length items
pairs_long [] = refl
pairs_long (s ∷ items) = ap suc (pairs_long items)

-- as many nodes as places
pub right_few : {N : Type 0} (symbol_of : N → Symbol ℕ (Pair ℕ) × ℕ) (names labels : List (List ℕ)) (numbers : List ℕ) (nodes : List N) (line : List ℕ) (places : List Place) → length places ≤ most_nodes → Along (IsRightNode names labels numbers) (map symbol_of nodes) (items_back line places) → length nodes ≤ most_nodes
right_few symbol_of names labels numbers nodes line places h a =
    let e : length (map symbol_of nodes) ≡ length nodes = length-map nodes symbol_of in
    omega (arith, h, e, along_long (IsRightNode names labels numbers) (map symbol_of nodes) (items_back line places) a, back_long line places)

-- left sides
left_ranks : (labels : List (List ℕ)) (ss : List (Symbol ℕ Variable × ℕ)) (is : List Item) → Along (IsLeftNode labels) ss is → Along HasRank ss is
left_ranks labels ss is h = along_changes (IsLeftNode labels) HasRank ss is (λ s i n. n.1) h

pub root_grows : (a b : List (List ℕ)) → Grows a b → (s : Symbol ℕ Variable × ℕ) (t : List ℕ) (kids : Option ℕ) → IsRootItem a s t kids → IsRootItem b s t kids
root_grows a b g (label f, rank) t kids h = (g.kept f t h.0, h.1)
root_grows a b g (hole x, rank) t kids h = absurd h

root_rank : (a : List (List ℕ)) (s : Symbol ℕ Variable × ℕ) (t : List ℕ) (kids : Option ℕ) → IsRootItem a s t kids → s.1 ≡ rank_of kids
root_rank a (label f, rank) t kids h = h.1
root_rank a (hole x, rank) t kids h = absurd h

-- a left side that was made
pub record Made (labels : List (List ℕ)) (line : List ℕ) (places : List Place) (items : List (SideItem Variable)) : Type 0 where
  pub side : (right : List Item) (weight : Option (List ℕ)) → IsLeftSide labels (pairs_of items) (parts_with (items_back line places) right weight)
  pub ranks : Along HasRank (pairs_of items) (items_back line places)
  pub numbered : AreNumbered 0 (holes_in items)

pub left_made : (m b : List (List ℕ)) (line : List ℕ) (places : List Place) (root : RootToken) (place d : Place) (first : SideItem Variable) (none_yet old items : List (SideItem Variable)) (n : ℕ) → Grows m b → Root line places root → place ≡ get_or places (length places - 1) d → n ≡ length places - 1 →
    IsRootItem m (pair_of first) (written_label (bytes_at line root.behind)) place.kids → holes_in (first ∷ []) ≡ [] → none_yet ≡ [] → old ≡ none_yet ++ first ∷ [] → PushesLeft b old items (items_back line (take n places)) → Made b line places items
left_made m b line places root place d first none_yet old items n g r at is item holes empty e p =
    let back = last_back line places d r.some in
    let s = heads_same r.first (item_at line (get_or places (length places - 1) d)) r.below (items_back line (take (length places - 1) places)) (sym r.items ∙ back) in
    let kids : place.kids ≡ r.first.kids = sym (ap (λ (i : Item). i.kids) (s.0 ∙ ap (item_at line) (sym at)) ∙ item_kids (word_at line place.token) place.kids) in
    let below : items_back line (take n places) ≡ r.below = ap (λ (k : ℕ). items_back line (take k places)) is ∙ sym s.1 in
    let all : items ≡ first ∷ p.more = p.last ∙ ap (λ (xs : List (SideItem Variable)). xs ++ p.more) (e ∙ ap (λ (xs : List (SideItem Variable)). xs ++ first ∷ []) empty) in
    let top : IsRootItem b (pair_of first) (written_label (behind_stop r.first.text)) r.first.kids =
    subst (λ (t : List ℕ). IsRootItem b (pair_of first) (written_label t) r.first.kids) r.tokens.behind
    (subst (λ (k : Option ℕ). IsRootItem b (pair_of first) (written_label (bytes_at line root.behind)) k) kids (root_grows m b g (pair_of first) (written_label (bytes_at line root.behind)) place.kids item))
    in
    let are : Along (IsLeftNode b) (pairs_of p.more) r.below = subst (λ (is : List Item). Along (IsLeftNode b) (pairs_of p.more) is) below p.are in
    record {
      side = λ right weight.
          subst (λ (is : List Item). IsLeftSide b (pairs_of items) (parts_with is right weight)) (sym r.items)
          (subst (λ (xs : List (SideItem Variable)). IsLeftSide b (pairs_of xs) (parts_with (r.first ∷ r.below) right weight)) (sym all) (top, are));
      ranks = subst (λ (is : List Item). Along HasRank (pairs_of items) is) (sym r.items)
          (subst (λ (xs : List (SideItem Variable)). Along HasRank (pairs_of xs) (r.first ∷ r.below)) (sym all) (root_rank b (pair_of first) _ r.first.kids top, left_ranks b (pairs_of p.more) r.below are));
      numbered = subst (λ (xs : List Variable). AreNumbered 0 xs)
          (sym (ap holes_in all ∙ holes_append (first ∷ []) p.more ∙ ap (λ (vs : List Variable). vs ++ holes_in p.more) holes)) p.numbered;
    }

pub left_few : (labels : List (List ℕ)) (line : List ℕ) (places : List Place) (items : List (SideItem Variable)) → length places ≤ most_nodes → Made labels line places items → length items ≤ most_nodes
left_few labels line places items h d = omega (arith, h, pairs_long items, along_long HasRank (pairs_of items) (items_back line places) d.ranks, back_long line places)

pub side_numbered : (labels : List (List ℕ)) (line : List ℕ) (places : List Place) (items : List (SideItem Variable)) (s : Side ℕ Variable) → Made labels line places items → preorder_of s ≡ pairs_of items → AreNumbered 0 (variables_of s)
side_numbered labels line places items s d e = subst (λ (xs : List Variable). AreNumbered 0 xs) (sym (holes_of_items items s (sym e))) d.numbered

pub side_is : (labels : List (List ℕ)) (line : List ℕ) (places : List Place) (items : List (SideItem Variable)) (s : Side ℕ Variable) → Made labels line places items → preorder_of s ≡ pairs_of items → (right : List Item) (weight : Option (List ℕ)) → IsLeftSide labels (preorder_of s) (parts_with (items_back line places) right weight)
side_is labels line places items s d e right weight = subst (λ (ss : List (Symbol ℕ Variable × ℕ)). IsLeftSide labels ss (parts_with (items_back line places) right weight)) (sym e) (d.side right weight)
