-- The items of one label over variables.
use Rattle.std.specs.Prelude.{◌≡◌, ℕ, ◌+◌, List, [], ◌∷◌, ◌++◌, map, refl}
use Rattle.std.proofs.Common.{zero, suc, arith, ap, sym, ◌∙◌}
use Rattle.std.proofs.lemmas.List.{map-append}
use Rattle.tib_tree.specs.Trees.{count, preorder_of}
use Rattle.tib_grammar.specs.Sides.{label, hole, over, leaves}
use Rattle.tib_grammar.specs.Items.{pairs_of}
use Rattle.tib_grammar.specs.declared.Item.{Item}
use Rattle.tib_grammar.specs.declared.Item.TheVariants.{Label, Hole}
use Rattle.tib_grammar.proofs.Sides.{count-leaves, preorder-leaves}
use Rattle.tib_transducer.specs.declared.Variable.{Variable}
use Rattle.tib_rulewise.specs.Placed.{plain_variable, variables_from}
use Rattle.tib_rulewise.proofs.Placed.{length-variables}

pairs-holes : (xs : List Variable) → pairs_of (map Hole xs) ≡ map (λ x. (hole x, 0)) xs
pairs-holes [] = refl
pairs-holes (x ∷ xs) = ap (λ ys. (hole x, 0) ∷ ys) (pairs-holes xs)

-- the items are the preorder of the side
pub items-over : (f many : ℕ) (items : List (Item Variable)) → items ≡ Label f many ∷ map Hole (variables_from 0 many) → pairs_of items ≡ preorder_of (over f (variables_from 0 many))
items-over f many items e =
    let xs : List Variable = variables_from 0 many in
    ap pairs_of e
    ∙ ap (λ n. (label f, n) ∷ pairs_of (map Hole xs)) (sym (count-leaves ℕ xs ∙ length-variables 0 many))
    ∙ ap (λ ys. (label f, count (leaves {A = ℕ} xs)) ∷ ys) (pairs-holes xs ∙ sym (preorder-leaves ℕ xs))

variables_last : (n many : ℕ) → variables_from n (suc many) ≡ variables_from n many ++ plain_variable (n + many) ∷ []
variables_last n zero = let e : n ≡ n + 0 = omega arith in ap (λ m. plain_variable m ∷ []) e
variables_last n (suc many) =
    let e : suc n + many ≡ n + suc many = omega arith in
    ap (λ xs. plain_variable n ∷ xs) (variables_last (suc n) many) ∙ ap (λ m. plain_variable n ∷ (variables_from (suc n) many ++ plain_variable m ∷ [])) e

-- one more variable
pub over_more :
    (f count n : ℕ) (items next : List (Item Variable)) → items ≡ Label f count ∷ map Hole (variables_from 0 n) → next ≡ items ++ Hole (plain_variable n) ∷ [] →
    next ≡ Label f count ∷ map Hole (variables_from 0 (n + 1))
over_more f count n items next is e =
    let one : n + 1 ≡ suc n = omega arith in
    let at : 0 + n ≡ n = omega arith in
    e ∙ ap (λ xs. xs ++ Hole (plain_variable n) ∷ []) is
    ∙ ap (λ xs. Label f count ∷ xs) (sym (map-append Hole (variables_from 0 n) (plain_variable n ∷ [])))
    ∙ ap (λ m. Label f count ∷ map Hole (variables_from 0 n ++ plain_variable m ∷ [])) (sym at)
    ∙ ap (λ xs. Label f count ∷ map Hole xs) (sym (variables_last 0 n))
    ∙ ap (λ m. Label f count ∷ map Hole (variables_from 0 m)) (sym one)
