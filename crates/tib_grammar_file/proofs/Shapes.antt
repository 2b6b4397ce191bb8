-- Trees of one shape.
use Rattle.std.proofs.Common.{◌≡◌, ℕ, List, [], ◌∷◌, refl, ap, ◌∙◌, subst, zero, suc}
use Rattle.tib_lex.specs.Lists.{Along}
use Rattle.tib_tree.specs.Trees.{Tree, Trees, none, tree, only, first_trees, other_trees, parse, parse_of, preorder_of, relabel}
use Rattle.tib_grammar_file.specs.ByText.{HaveOneShape}

module _ {A B : Type 0} (R : A → B → Type 0) where
  shape_first : (n : ℕ) (ts : Trees A) (us : Trees B) → HaveOneShape R ts us → HaveOneShape R (first_trees n ts) (first_trees n us)
  shape_first zero ts us h = tt
  shape_first (suc n) none none h = tt
  shape_first (suc n) none (tree g below more) h = absurd h
  shape_first (suc n) (tree f kids rest) none h = absurd h
  shape_first (suc n) (tree f kids rest) (tree g below more) h = (h.0, h.1, shape_first n rest more h.2)

  shape_other : (n : ℕ) (ts : Trees A) (us : Trees B) → HaveOneShape R ts us → HaveOneShape R (other_trees n ts) (other_trees n us)
  shape_other zero ts us h = h
  shape_other (suc n) none none h = tt
  shape_other (suc n) none (tree g below more) h = absurd h
  shape_other (suc n) (tree f kids rest) none h = absurd h
  shape_other (suc n) (tree f kids rest) (tree g below more) h = shape_other n rest more h.2

  -- nodes with as many children
  abbrev pub AgreeAtNode : A × ℕ → B × ℕ → Type 0
  AgreeAtNode p q = R p.0 q.0 × (p.1 ≡ q.1)

  shape_parsed : (ps : List (A × ℕ)) (qs : List (B × ℕ)) → Along AgreeAtNode ps qs → HaveOneShape R (parse ps) (parse qs)
  shape_parsed [] [] h = tt
  shape_parsed [] (q ∷ qs) h = absurd h
  shape_parsed (p ∷ ps) [] h = absurd h
  shape_parsed (p ∷ ps) (q ∷ qs) h =
      let rest : HaveOneShape R (parse ps) (parse qs) = shape_parsed ps qs h.1 in
      let below : HaveOneShape R (first_trees p.1 (parse ps)) (first_trees q.1 (parse qs)) =
      subst (λ (n : ℕ). HaveOneShape R (first_trees p.1 (parse ps)) (first_trees n (parse qs))) h.0.1 (shape_first p.1 (parse ps) (parse qs) rest) in
      let behind : HaveOneShape R (other_trees p.1 (parse ps)) (other_trees q.1 (parse qs)) =
      subst (λ (n : ℕ). HaveOneShape R (other_trees p.1 (parse ps)) (other_trees n (parse qs))) h.0.1 (shape_other p.1 (parse ps) (parse qs) rest) in
      (h.0.0, below, behind)

  -- trees whose preorders agree have one shape
  pub shape_of : (t : Tree A) (u : Tree B) → Along AgreeAtNode (preorder_of t) (preorder_of u) → HaveOneShape R (only t) (only u)
  shape_of t u h =
      subst (λ (ts : Trees A). HaveOneShape R ts (only u)) (parse_of t)
      (subst (λ (us : Trees B). HaveOneShape R (parse (preorder_of t)) us) (parse_of u) (shape_parsed (preorder_of t) (preorder_of u) h))

-- where R gives what a function gives, trees of one shape are relabelled by it
pub shape_relabelled : {A B : Type 0} (R : A → B → Type 0) (f : A → B) → ((x : A) (y : B) → R x y → f x ≡ y) → (ts : Trees A) (us : Trees B) → HaveOneShape R ts us → relabel f ts ≡ us
shape_relabelled R f gives none none h = refl
shape_relabelled R f gives none (tree g below more) h = absurd h
shape_relabelled R f gives (tree s kids rest) none h = absurd h
shape_relabelled {A} {B} R f gives (tree s kids rest) (tree g below more) h =
    ap (λ (x : B). tree x (relabel f kids) (relabel f rest)) (gives s g h.0)
    ∙ ap (λ (x : Trees B). tree g x (relabel f rest)) (shape_relabelled R f gives kids below h.1)
    ∙ ap (λ (x : Trees B). tree g below x) (shape_relabelled R f gives rest more h.2)

-- and of what R holds of, a weaker fact holds
pub shape_changes : {A B : Type 0} (R S : A → B → Type 0) → ((x : A) (y : B) → R x y → S x y) → (ts : Trees A) (us : Trees B) → HaveOneShape R ts us → HaveOneShape S ts us
shape_changes R S weaker none none h = tt
shape_changes R S weaker none (tree g below more) h = absurd h
shape_changes R S weaker (tree s kids rest) none h = absurd h
shape_changes R S weaker (tree s kids rest) (tree g below more) h = (weaker s g h.0, shape_changes R S weaker kids below h.1, shape_changes R S weaker rest more h.2)
