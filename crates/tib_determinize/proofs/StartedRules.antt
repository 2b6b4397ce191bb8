-- The rules of the fresh start and of positions, as they are made.
use Rattle.std.specs.Prelude.{◌≡◌, ℕ, ◌+◌, ◌<◌, List, [], ◌∷◌, ◌++◌, length, map, take, drop, refl, Option, None, Some}
use Rattle.std.specs.declared.result.Result.{Result}
use Rattle.std.proofs.Common.{suc, arith, ap, ◌∙◌, Err}
use Rattle.std.proofs.lemmas.List.{take_at}
use Rattle.tib_lex.specs.Lists.{Each}
use Rattle.tib_lex.proofs.Lists.{each_append, each_weaker}
use Rattle.tib_tree.specs.Trees.{Trees, none, tree, only}
use Rattle.tib_tree.specs.declared.preorder.ShapeError.{ShapeError}
use Rattle.tib_tree.specs.declared.preorder.ShapeError.TheVariants.{NotATree, OutOfMemory}
use Rattle.tib_grammar.specs.GrammarOf.{named_rule}
use Rattle.tib_grammar.specs.Positions.{states_in, positions_of}
use Rattle.tib_grammar.specs.Range.{AllBelow, AreInRange, SidesEndInHoles}
use Rattle.tib_grammar.specs.Renaming.{number_in}
use Rattle.tib_grammar.specs.Sides.{Symbol, label, hole, Side, holes, HolesAreLeaves}
use Rattle.tib_grammar.specs.declared.Rule.{Rule}
use Rattle.tib_grammar.proofs.Below.{below_front, below_back}
use Rattle.tib_grammar.proofs.Positions.{reads_positions}
use Rattle.tib_determinize.specs.Started.{start_in, with_final, finals}
use Rattle.tib_determinize.specs.Vectors.{VectorOf}

-- states at holes below n are all states below n, where holes are leaves
states_below : (n : ℕ) (ts : Trees (Symbol ℕ ℕ)) → HolesAreLeaves ts → AllBelow n (holes ts) → Each (λ q. q < n) (states_in ts)
states_below n none h b = tt
states_below n (tree (label f) kids rest) h b =
    each_append (λ q. q < n) (states_in kids) (states_in rest) (states_below n kids h.0 (below_front n (holes kids) (holes rest) b)) (states_below n rest h.1 (below_back n (holes kids) (holes rest) b))
states_below n (tree (hole q) none rest) h b = (b.0, states_below n rest h b.1)
states_below n (tree (hole q) (tree s kids more) rest) h b = absurd h

-- rules under the next numbers
pub named_next :
    (n : ℕ) (numbers : List ℕ) → ((q : ℕ) → q < n → number_in numbers q ≡ q + 1) → (rules : List (Rule ℕ)) → AreInRange n rules → SidesEndInHoles rules →
    map (named_rule (number_in numbers)) rules ≡ map (named_rule suc) rules
named_next n numbers next [] range leaves = refl
named_next n numbers next (r ∷ rules) range leaves =
    let here = range 0 (omega arith) in
    let below : Each (λ q. q < n) (positions_of r) = (here.0, states_below n (only r.right) (leaves 0 (omega arith)) here.1) in
    let same = each_weaker (λ q. q < n) (λ q. number_in numbers q ≡ suc q) (positions_of r) (λ q low. (let e = next q low in omega (arith, e))) below in
    ap (λ (x : Rule ℕ). x ∷ map (named_rule (number_in numbers)) rules) (reads_positions r (number_in numbers) suc same)
    ∙ ap (λ (rs : List (Rule ℕ)). named_rule suc r ∷ rs) (named_next n numbers next rules (λ m low. range (suc m) (omega (arith, low))) (λ m low. leaves (suc m) (omega (arith, low))))

with_below : (n i : ℕ) (o : Option ℕ) (more : List (ℕ × ℕ)) → i < n → Each (λ f. f.0 < n) more → Each (λ f. f.0 < n) (with_final i o more)
with_below n i None more low e = e
with_below n i (Some r) more low e = (low, e)

finals_before : (n i : ℕ) (order : List VectorOf) → i + length order ≡ n → Each (λ f. f.0 < n) (finals i order)
finals_before n i [] e = tt
finals_before n i (v ∷ order) e = with_below n i (start_in v) (finals (suc i) order) (omega (arith, e)) (finals_before n (suc i) order (omega (arith, e)))

-- finals are positions of the order
pub finals_below : (n : ℕ) (order : List VectorOf) → length order < n → Each (λ f. f.0 < n) (finals 0 order)
finals_below n order low = each_weaker (λ f. f.0 < length order) (λ f. f.0 < n) (finals 0 order) (λ f below. omega (arith, below, low)) (finals_before (length order) 0 order (omega arith))
