-- Sides and rules under other numbers of labels.
use Rattle.std.proofs.Common.{◌≡◌, ℕ, ◌<◌, List, ◌∷◌, ◌++◌, length, map, refl, ap, ◌∙◌, zero, suc}
use Rattle.std.proofs.lemmas.List.{get_or-map}
use Rattle.tib_tree.specs.Trees.{Trees, none, tree, only, join, first_trees, other_trees, relabel, relabel_tree}
use Rattle.tib_grammar.specs.Sides.{Symbol, label, hole, Side, holes, fill}
use Rattle.tib_grammar.specs.Run.{rule_at, no_rule}
use Rattle.tib_grammar.specs.declared.Rule.{Rule}
use Rattle.tib_grammar.proofs.Sides.{same_label}

-- a symbol, a side and a rule with each label replaced by another
abbrev pub symbol_with : (ℕ → ℕ) → Symbol ℕ ℕ → Symbol ℕ ℕ
symbol_with f (label g) = label (f g)
symbol_with f (hole q) = hole q

abbrev pub trees_with : (ℕ → ℕ) → Trees (Symbol ℕ ℕ) → Trees (Symbol ℕ ℕ)
trees_with f ts = relabel (symbol_with f) ts

abbrev pub side_with : (ℕ → ℕ) → Side ℕ ℕ → Side ℕ ℕ
side_with f s = relabel_tree (symbol_with f) s

abbrev pub rule_with : (ℕ → ℕ) → Rule ℕ → Rule ℕ
rule_with f r = record { left = r.left; right = side_with f r.right; cost = r.cost }

abbrev pub rules_with : (ℕ → ℕ) → List (Rule ℕ) → List (Rule ℕ)
rules_with f rules = map (rule_with f) rules

pub at_with : (f : ℕ → ℕ) (rules : List (Rule ℕ)) (n : ℕ) → n < length rules → rule_at (rules_with f rules) n ≡ rule_with f (rule_at rules n)
at_with f rules n h = get_or-map (rule_with f) rules n no_rule no_rule h

pub holes_with : (f : ℕ → ℕ) (ts : Trees (Symbol ℕ ℕ)) → holes (trees_with f ts) ≡ holes ts
holes_with f none = refl
holes_with f (tree (label g) kids rest) = ap (λ (qs : List ℕ). qs ++ holes (trees_with f rest)) (holes_with f kids) ∙ ap (λ (qs : List ℕ). holes kids ++ qs) (holes_with f rest)
holes_with f (tree (hole q) kids rest) = ap (λ (qs : List ℕ). q ∷ qs) (holes_with f rest)

-- relabelling commutes with joining, cutting and filling
pub relabel_join : {A B : Type 0} (f : A → B) (ts us : Trees A) → relabel f (join ts us) ≡ join (relabel f ts) (relabel f us)
relabel_join f none us = refl
relabel_join {A} {B} f (tree s kids rest) us = ap (λ (x : Trees B). tree (f s) (relabel f kids) x) (relabel_join f rest us)

relabel_first : {A B : Type 0} (f : A → B) (n : ℕ) (ts : Trees A) → first_trees n (relabel f ts) ≡ relabel f (first_trees n ts)
relabel_first f zero ts = refl
relabel_first f (suc n) none = refl
relabel_first {A} {B} f (suc n) (tree s kids rest) = ap (λ (x : Trees B). tree (f s) (relabel f kids) x) (relabel_first f n rest)

relabel_other : {A B : Type 0} (f : A → B) (n : ℕ) (ts : Trees A) → other_trees n (relabel f ts) ≡ relabel f (other_trees n ts)
relabel_other f zero ts = refl
relabel_other f (suc n) none = refl
relabel_other f (suc n) (tree s kids rest) = relabel_other f n rest

pub fill_with : (f : ℕ → ℕ) (s : Trees (Symbol ℕ ℕ)) (ts : Trees ℕ) → fill (trees_with f s) (relabel f ts) ≡ relabel f (fill s ts)
fill_with f none ts = refl
fill_with f (tree (label g) kids rest) ts =
    let n : ℕ = length (holes kids) in
    let long : length (holes (trees_with f kids)) ≡ n = ap length (holes_with f kids) in
    let below : fill (trees_with f kids) (first_trees (length (holes (trees_with f kids))) (relabel f ts)) ≡ relabel f (fill kids (first_trees n ts)) =
    ap (λ (m : ℕ). fill (trees_with f kids) (first_trees m (relabel f ts))) long ∙ ap (fill (trees_with f kids)) (relabel_first f n ts) ∙ fill_with f kids (first_trees n ts) in
    let behind : fill (trees_with f rest) (other_trees (length (holes (trees_with f kids))) (relabel f ts)) ≡ relabel f (fill rest (other_trees n ts)) =
    ap (λ (m : ℕ). fill (trees_with f rest) (other_trees m (relabel f ts))) long ∙ ap (fill (trees_with f rest)) (relabel_other f n ts) ∙ fill_with f rest (other_trees n ts) in
    ap (λ (x : Trees ℕ). tree (f g) x (fill (trees_with f rest) (other_trees (length (holes (trees_with f kids))) (relabel f ts)))) below
    ∙ ap (λ (x : Trees ℕ). tree (f g) (relabel f (fill kids (first_trees n ts))) x) behind
fill_with f (tree (hole q) kids rest) none = refl
fill_with f (tree (hole q) kids rest) (tree g below ts) = ap (λ (x : Trees ℕ). tree (f g) (relabel f below) x) (fill_with f rest ts)

-- trees that agree under numbers that are one for each label are the same
tree_is : {A : Type 0} {g h : A} {us bs cs ds : Trees A} → tree g us bs ≡ tree h cs ds → (g ≡ h) × (us ≡ cs) × (bs ≡ ds)
tree_is e = (cc, cc, cc)

pub trees_told : {A B : Type 0} (f : A → B) → ((x y : A) → f x ≡ f y → x ≡ y) → (ts us : Trees A) → relabel f ts ≡ relabel f us → ts ≡ us
trees_told f apart none none e = refl
trees_told f apart none (tree g below more) e = absurd (cc)
trees_told f apart (tree s kids rest) none e = absurd (cc)
trees_told {A} {B} f apart (tree s kids rest) (tree g below more) e =
    let t = tree_is e in
    ap (λ (x : A). tree x kids rest) (apart s g t.0)
    ∙ ap (λ (x : Trees A). tree g x rest) (trees_told f apart kids below t.1)
    ∙ ap (λ (x : Trees A). tree g below x) (trees_told f apart rest more t.2)

pub symbol_told : (f : ℕ → ℕ) → ((i j : ℕ) → f i ≡ f j → i ≡ j) → (s t : Symbol ℕ ℕ) → symbol_with f s ≡ symbol_with f t → s ≡ t
symbol_told f apart (label g) (label h) e = ap label (apart g h (same_label (f g) (f h) e))
symbol_told f apart (label g) (hole q) e = absurd (cc)
symbol_told f apart (hole p) (label h) e = absurd (cc)
symbol_told f apart (hole p) (hole q) e = e

pub side_told : (f : ℕ → ℕ) → ((i j : ℕ) → f i ≡ f j → i ≡ j) → (s t : Side ℕ ℕ) → side_with f s ≡ side_with f t → s ≡ t
side_told f apart s t e =
    let o : only s ≡ only t = trees_told (symbol_with f) (symbol_told f apart) (only s) (only t) (ap only e) in
    let a = tree_is o in
    ap (λ (l : Symbol ℕ ℕ). record { label = l; kids = s.kids }) a.0 ∙ ap (λ (x : Trees (Symbol ℕ ℕ)). record { label = t.label; kids = x }) a.1
