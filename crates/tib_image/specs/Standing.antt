-- Where trees are in a tree, by the numbers of their nodes.
use Rattle.std.specs.Prelude.{◌≡◌, ℕ, ◌+◌, ◌-◌, ◌<◌, List, [], ◌∷◌, ◌++◌, length, refl}
use Rattle.std.proofs.Common.{zero, suc, arith, ap, sym, ◌∙◌, subst, inl, inr, get_or, append_assoc}
use Rattle.std.proofs.lemmas.Bool.{cases_lt}
use Rattle.std.proofs.lemmas.List.{length-append}
use Rattle.tib_lex.specs.Lists.{Each}
use Rattle.tib_tree.specs.Trees.{Tree, Trees, none, tree, only, sizes, size}
use Rattle.tib_grammar.specs.Sides.{Symbol, label, hole}
use Rattle.tib_transducer.specs.declared.Variable.{Variable}
use Rattle.tib_image.specs.Nodes.{subtrees, subtree, variable_nodes}

-- P holds of each node of some trees, of which the first is at node n, and of its label and
-- children
abbrev pub Stand : (ℕ → ℕ → Trees ℕ → Type 0) → Trees ℕ → ℕ → Type 0
Stand P none n = Unit {0}
Stand P (tree f kids rest) n = P n f kids × Stand P kids (suc n) × Stand P rest (suc n + sizes kids)

pub length-subtrees : (ts : Trees ℕ) → length (subtrees ts) ≡ sizes ts
length-subtrees none = refl
length-subtrees (tree f kids rest) = omega (arith, length-append (subtrees kids) (subtrees rest), length-subtrees kids, length-subtrees rest)

at_left : {A : Type 0} (xs ys : List A) (n : ℕ) (d : A) → n < length xs → get_or (xs ++ ys) n d ≡ get_or xs n d
at_left [] ys n d h = absurd (omega arith)
at_left (x ∷ xs) ys zero d h = refl
at_left (x ∷ xs) ys (suc n) d h = at_left xs ys n d (omega arith)

at_right : {A : Type 0} (xs ys : List A) (n : ℕ) (d : A) → get_or (xs ++ ys) (length xs + n) d ≡ get_or ys n d
at_right [] ys n d = let e : 0 + n ≡ n = omega arith in ap (λ m. get_or ys m d) e
at_right (x ∷ xs) ys n d = let e : suc (length xs) + n ≡ suc (length xs + n) = omega arith in ap (λ m. get_or (x ∷ (xs ++ ys)) m d) e ∙ at_right xs ys n d

-- each subtree is at its node
pub descend : (P : ℕ → ℕ → Trees ℕ → Type 0) (ts : Trees ℕ) (k n : ℕ) (d : Tree ℕ) → Stand P ts k → n < sizes ts → Stand P (only (get_or (subtrees ts) n d)) (k + n)
descend P none k n d s h = absurd (omega arith)
descend P (tree f kids rest) k zero d s h = let e : k ≡ k + 0 = omega arith in subst (Stand P (tree f kids none)) e (s.0, s.1, tt)
descend P (tree f kids rest) k (suc n) d s h = elim (cases_lt n (sizes kids)) [
  | inl low ↦
      let e : suc k + n ≡ k + suc n = omega arith in
      let same : get_or (subtrees kids) n d ≡ get_or (subtrees kids ++ subtrees rest) n d = sym (at_left (subtrees kids) (subtrees rest) n d (omega (arith, low, length-subtrees kids))) in
      subst (λ x. Stand P (only x) (k + suc n)) same (subst (Stand P (only (get_or (subtrees kids) n d))) e (descend P kids (suc k) n d s.1 low))
  | inr high ↦
      let m : ℕ = n - sizes kids in
      let long : length (subtrees kids) + m ≡ n = omega (arith, high, length-subtrees kids) in
      let e : (suc k + sizes kids) + m ≡ k + suc n = omega (arith, high) in
      let same : get_or (subtrees rest) m d ≡ get_or (subtrees kids ++ subtrees rest) n d =
      sym (at_right (subtrees kids) (subtrees rest) m d) ∙ ap (λ j. get_or (subtrees kids ++ subtrees rest) j d) long
      in
      subst (λ x. Stand P (only x) (k + suc n)) same (subst (Stand P (only (get_or (subtrees rest) m d))) e (descend P rest (suc k + sizes kids) m d s.2 (omega (arith, high))))
]

-- the node is in the tree, and the subtree there has the label and the children
abbrev pub IsAt : Tree ℕ → ℕ → ℕ → Trees ℕ → Type 0
IsAt t n f kids = (n < size t) × (subtree t n ≡ record { label = f; kids = kids })

-- trees whose subtrees are those of the tree from a node on are there
standing : (t : Tree ℕ) (ts : Trees ℕ) (xs ys : List (Tree ℕ)) (n : ℕ) → n ≡ length xs → subtrees (only t) ≡ xs ++ (subtrees ts ++ ys) → Stand (IsAt t) ts n
standing t none xs ys n at is = tt
standing t (tree f kids rest) xs ys n at is =
    let one : Tree ℕ = record { label = f; kids = kids } in
    let all : length (subtrees (only t)) ≡ size t = length-subtrees (only t) ∙ omega arith in
    let seam : get_or (subtrees (only t)) n t ≡ one =
    ap (λ (zs : List (Tree ℕ)). get_or zs n t) is ∙ ap (λ m. get_or (xs ++ (subtrees (tree f kids rest) ++ ys)) m t) (at ∙ omega arith) ∙ at_right xs (subtrees (tree f kids rest) ++ ys) 0 t
    in
    let below : n < size t = omega (arith, at, all, ap (λ (zs : List (Tree ℕ)). length zs) is, length-append xs (subtrees (tree f kids rest) ++ ys)) in
    let first : subtrees (only t) ≡ (xs ++ one ∷ []) ++ (subtrees kids ++ (subtrees rest ++ ys)) =
    is ∙ ap (λ zs. xs ++ one ∷ zs) (append_assoc (subtrees kids) (subtrees rest) ys) ∙ sym (append_assoc xs (one ∷ []) (subtrees kids ++ (subtrees rest ++ ys)))
    in
    let second : subtrees (only t) ≡ ((xs ++ one ∷ []) ++ subtrees kids) ++ (subtrees rest ++ ys) = first ∙ sym (append_assoc (xs ++ one ∷ []) (subtrees kids) (subtrees rest ++ ys)) in (
      (below, seam),
      standing t kids (xs ++ one ∷ []) (subtrees rest ++ ys) (suc n) (omega (arith, at, length-append xs (one ∷ []))) first,
      standing t rest ((xs ++ one ∷ []) ++ subtrees kids) ys (suc n + sizes kids)
          (omega (arith, at, length-append xs (one ∷ []), length-append (xs ++ one ∷ []) (subtrees kids), length-subtrees kids)) second,
    )

-- each subtree of a tree is in it at its node
pub stands : (t : Tree ℕ) (n : ℕ) → n < size t → Stand (IsAt t) (only (subtree t n)) n
stands t n h =
    let whole : subtrees (only t) ≡ [] ++ (subtrees (only t) ++ []) = sym (nothing (subtrees (only t))) in
    let e : 0 + n ≡ n = omega arith in
    subst (Stand (IsAt t) (only (subtree t n))) e (descend (IsAt t) (only t) 0 n t (standing t (only t) [] [] 0 refl whole) (omega (arith, h)))
  where
    nothing : {A : Type 0} (xs : List A) → xs ++ [] ≡ xs
    nothing [] = refl
    nothing (x ∷ xs) = ap (λ zs. x ∷ zs) (nothing xs)

each_both : {A : Type 0} (P : A → Type 0) (xs ys : List A) → Each P xs → Each P ys → Each P (xs ++ ys)
each_both P [] ys a b = b
each_both P (x ∷ xs) ys a b = (a.0, each_both P xs ys a.1 b)

-- the nodes of variables are in the tree
pub nodes_within : (t : Tree ℕ) (ss : Trees (Symbol ℕ Variable)) (us : Trees ℕ) (n : ℕ) → Stand (IsAt t) us n → Each (λ m. m < size t) (variable_nodes ss us n)
nodes_within t none us n s = tt
nodes_within t (tree x kids rest) none n s = tt
nodes_within t (tree (label f) kids rest) (tree g us more) n s =
    each_both (λ m. m < size t) (variable_nodes kids us (suc n)) (variable_nodes rest more (suc n + sizes us)) (nodes_within t kids us (suc n) s.1) (nodes_within t rest more (suc n + sizes us) s.2)
nodes_within t (tree (hole x) kids rest) (tree g us more) n s = (s.0.0, nodes_within t rest more (suc n + sizes us) s.2)
