-- Left-hand sides that match a subtree, and the trees that fill them.
use Rattle.std.specs.Prelude.{◌≡◌, ℕ, ◌+◌, ◌<◌, List, [], ◌∷◌, ◌++◌, length, map, refl}
use Rattle.std.proofs.Common.{zero, suc, arith, ap, sym, ◌∙◌, subst, get_or}
use Rattle.std.proofs.lemmas.List.{length-append}
use Rattle.tib_lex.specs.Lists.{Each}
use Rattle.tib_tree.specs.Trees.{Tree, Trees, none, tree, count, join, sizes, first_trees, other_trees, first-join, other-join, join_parts}
use Rattle.tib_grammar.specs.Sides.{Symbol, label, hole, holes, fill}
use Rattle.tib_transducer.specs.Run.{Binds, AreBound, pick, tree_at}
use Rattle.tib_transducer.specs.declared.Variable.{Variable}
use Rattle.tib_image.specs.Nodes.{subtree, Match, variable_nodes}
use Rattle.tib_image.specs.Standing.{Stand, IsAt}

-- the subtrees at some nodes
abbrev pub trees_at : Tree ℕ → List ℕ → Trees ℕ
trees_at t [] = none
trees_at t (n ∷ ns) = tree (subtree t n).label (subtree t n).kids (trees_at t ns)

count-trees_at : (t : Tree ℕ) (ns : List ℕ) → count (trees_at t ns) ≡ length ns
count-trees_at t [] = refl
count-trees_at t (n ∷ ns) = ap suc (count-trees_at t ns)

trees_at-append : (t : Tree ℕ) (ns ms : List ℕ) → trees_at t (ns ++ ms) ≡ join (trees_at t ns) (trees_at t ms)
trees_at-append t [] ms = refl
trees_at-append t (n ∷ ns) ms = ap (tree (subtree t n).label (subtree t n).kids) (trees_at-append t ns ms)

-- as many nodes as variables
pub nodes_many : (ss : Trees (Symbol ℕ Variable)) (us : Trees ℕ) (n : ℕ) → Match ss us → length (variable_nodes ss us n) ≡ length (holes ss)
nodes_many none none n m = refl
nodes_many none (tree g us more) n m = absurd m
nodes_many (tree (label f) kids rest) none n m = absurd m
nodes_many (tree (hole x) kids rest) none n m = absurd m
nodes_many (tree (label f) kids rest) (tree g us more) n m =
    omega (
      arith,
      length-append (variable_nodes kids us (suc n)) (variable_nodes rest more (suc n + sizes us)),
      length-append (holes kids) (holes rest),
      nodes_many kids us (suc n) m.1,
      nodes_many rest more (suc n + sizes us) m.2,
    )
nodes_many (tree (hole x) kids rest) (tree g us more) n m = ap suc (nodes_many rest more (suc n + sizes us) m.1)

bound_both : (xs ys : List Variable) (ts us : Trees ℕ) → AreBound xs ts → AreBound ys us → AreBound (xs ++ ys) (join ts us)
bound_both [] ys none us a b = b
bound_both [] ys (tree f kids rest) us a b = absurd a
bound_both (x ∷ xs) ys none us a b = absurd a
bound_both (x ∷ xs) ys (tree f kids rest) us a b = (a.0, bound_both xs ys rest us a.1 b)

bound_front : (xs ys : List Variable) (ts : Trees ℕ) → AreBound (xs ++ ys) ts → AreBound xs (first_trees (length xs) ts)
bound_front [] ys ts a = tt
bound_front (x ∷ xs) ys none a = absurd a
bound_front (x ∷ xs) ys (tree f kids rest) a = (a.0, bound_front xs ys rest a.1)

bound_behind : (xs ys : List Variable) (ts : Trees ℕ) → AreBound (xs ++ ys) ts → AreBound ys (other_trees (length xs) ts)
bound_behind [] ys ts a = a
bound_behind (x ∷ xs) ys none a = absurd a
bound_behind (x ∷ xs) ys (tree f kids rest) a = bound_behind xs ys rest a.1

-- the subtrees at the variables are bound by these, and fill the sides to what they match
pub match_fills :
    (t : Tree ℕ) (ss : Trees (Symbol ℕ Variable)) (us : Trees ℕ) (n : ℕ) → Stand (IsAt t) us n → Match ss us →
    AreBound (holes ss) (trees_at t (variable_nodes ss us n)) × (fill ss (trees_at t (variable_nodes ss us n)) ≡ us)
match_fills t none none n s m = (tt, refl)
match_fills t none (tree g us more) n s m = absurd m
match_fills t (tree (label f) kids rest) none n s m = absurd m
match_fills t (tree (hole x) kids rest) none n s m = absurd m
match_fills t (tree (label f) kids rest) (tree g us more) n s m =
    let ns : List ℕ = variable_nodes kids us (suc n) in
    let ms : List ℕ = variable_nodes rest more (suc n + sizes us) in
    let first = match_fills t kids us (suc n) s.1 m.1 in
    let second = match_fills t rest more (suc n + sizes us) s.2 m.2 in
    let long : length (holes kids) ≡ count (trees_at t ns) = sym (nodes_many kids us (suc n) m.1) ∙ sym (count-trees_at t ns) in
    let front : first_trees (length (holes kids)) (join (trees_at t ns) (trees_at t ms)) ≡ trees_at t ns = ap (λ k. first_trees k (join (trees_at t ns) (trees_at t ms))) long ∙ first-join (trees_at t ns) (trees_at t ms) in
    let behind : other_trees (length (holes kids)) (join (trees_at t ns) (trees_at t ms)) ≡ trees_at t ms = ap (λ k. other_trees k (join (trees_at t ns) (trees_at t ms))) long ∙ other-join (trees_at t ns) (trees_at t ms) in (
      subst (AreBound (holes kids ++ holes rest)) (sym (trees_at-append t ns ms)) (bound_both (holes kids) (holes rest) (trees_at t ns) (trees_at t ms) first.0 second.0),
      ap (λ ts. tree f (fill kids (first_trees (length (holes kids)) ts)) (fill rest (other_trees (length (holes kids)) ts))) (trees_at-append t ns ms)
          ∙ ap (λ ts. tree f (fill kids ts) (fill rest (other_trees (length (holes kids)) (join (trees_at t ns) (trees_at t ms))))) front
          ∙ ap (λ ts. tree f (fill kids (trees_at t ns)) (fill rest ts)) behind
          ∙ ap (λ ts. tree f ts (fill rest (trees_at t ms))) first.1
          ∙ ap (λ ts. tree f us ts) second.1
          ∙ ap (λ k. tree k us more) m.0,
    )
match_fills t (tree (hole x) kids rest) (tree g us more) n s m =
    let second = match_fills t rest more (suc n + sizes us) s.2 m.1 in (
      (subst (Binds x.label) (ap (λ (y : Tree ℕ). y.label) (sym s.0.1)) m.0, second.0),
      ap (λ (y : Tree ℕ). tree y.label y.kids (fill rest (trees_at t (variable_nodes rest more (suc n + sizes us))))) s.0.1 ∙ ap (tree g us) second.1,
    )

-- sides that trees which are bound fill match what comes of it, and the trees are the subtrees at
-- the variables
pub fills_match :
    (t : Tree ℕ) (ss : Trees (Symbol ℕ Variable)) (args : Trees ℕ) (n : ℕ) → AreBound (holes ss) args → Stand (IsAt t) (fill ss args) n →
    Match ss (fill ss args) × (trees_at t (variable_nodes ss (fill ss args) n) ≡ args)
fills_match t none none n a s = (tt, refl)
fills_match t none (tree g us more) n a s = absurd a
fills_match t (tree (label f) kids rest) args n a s =
    let k : ℕ = length (holes kids) in
    let us : Trees ℕ = fill kids (first_trees k args) in
    let first = fills_match t kids (first_trees k args) (suc n) (bound_front (holes kids) (holes rest) args a) s.1 in
    let second = fills_match t rest (other_trees k args) (suc n + sizes us) (bound_behind (holes kids) (holes rest) args a) s.2 in (
      (refl, first.0, second.0),
      trees_at-append t (variable_nodes kids us (suc n)) (variable_nodes rest (fill rest (other_trees k args)) (suc n + sizes us))
          ∙ ap (λ ts. join ts (trees_at t (variable_nodes rest (fill rest (other_trees k args)) (suc n + sizes us)))) first.1
          ∙ ap (join (first_trees k args)) second.1
          ∙ join_parts k args,
    )
fills_match t (tree (hole x) kids rest) none n a s = absurd a
fills_match t (tree (hole x) kids rest) (tree f us ts) n a s =
    let second = fills_match t rest ts (suc n + sizes us) a.1 s.2 in
    ((a.0, second.0), ap (λ (y : Tree ℕ). tree y.label y.kids (trees_at t (variable_nodes rest (fill rest ts) (suc n + sizes us)))) s.0.1 ∙ ap (tree f us) second.1)

-- the same for trees that are given
pub given_match :
    (t : Tree ℕ) (ss : Trees (Symbol ℕ Variable)) (args us : Trees ℕ) (n : ℕ) → AreBound (holes ss) args → fill ss args ≡ us → Stand (IsAt t) us n →
    Match ss us × (trees_at t (variable_nodes ss us n) ≡ args)
given_match t ss args us n a e s =
    subst (λ ts. Match ss ts × (trees_at t (variable_nodes ss ts n) ≡ args)) e (fills_match t ss args n a (subst (λ ts. Stand (IsAt t) ts n) (sym e) s))

-- the subtrees at the nodes of some variables
pub picked : (t : Tree ℕ) (ns vars : List ℕ) → Each (λ v. v < length ns) vars → trees_at t (map (λ v. get_or ns v 0) vars) ≡ pick (trees_at t ns) vars
picked t ns [] h = refl
picked t ns (v ∷ vs) h = at ns v (trees_at t (map (λ v. get_or ns v 0) vs)) h.0 ∙ ap (join (tree_at (trees_at t ns) v)) (picked t ns vs h.1)
  where
    at : (ms : List ℕ) (v : ℕ) (more : Trees ℕ) → v < length ms → tree (subtree t (get_or ms v 0)).label (subtree t (get_or ms v 0)).kids more ≡ join (tree_at (trees_at t ms) v) more
    at [] v more h = absurd (omega arith)
    at (m ∷ ms) zero more h = refl
    at (m ∷ ms) (suc v) more h = at ms v more (omega arith)
