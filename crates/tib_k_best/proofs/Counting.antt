-- How many entries the lists of all states have.
use Rattle.std.specs.Prelude.{◌≡◌, ℕ, ◌+◌, ◌*◌, ◌^◌, ◌<◌, ◌≤◌, List, [], ◌∷◌, length, map, take, sum_by, refl}
use Rattle.std.proofs.Common.{zero, suc, arith, ap, sym, ◌∙◌, subst, get_or}
use Rattle.std.proofs.lemmas.List.{length-map}
use Rattle.std.proofs.lemmas.List.Sums.{sum_by-cons, sum_by_more, sum_by-take-le}
use Rattle.tib_tree.specs.Trees.{Tree}
use Rattle.tib_grammar.specs.declared.Rule.{Rule}
use Rattle.tib_ranked_trees.specs.Best.{Costed, IsFrontAt, IsKBest}
use Rattle.tib_ranked_trees.specs.ListsOf.{ListsOf}
use Rattle.tib_ranked_trees.specs.Held.{empty_lists, entries_of, list_of, told, IsSound}
use Rattle.tib_ranked_trees.specs.declared.lists.Entry.{Entry}
use Rattle.tib_lazy_lists.specs.Demands.{entries_held, nodes_of}
use Rattle.tib_lazy_lists.specs.Firsts.{AreFirsts}
use Rattle.tib_lazy_lists.proofs.Rounded.{held_few}
use Rattle.tib_k_best.specs.LazyLists.{entries_in, IsCounted}
use Rattle.tib_k_best.specs.Listing.{costed}
use Rattle.tib_k_best.proofs.Listing.{are_listed}
use Rattle.tib_k_best.proofs.Starting.{as_many}

abbrev long : List Entry → ℕ
long es = length es

few_in : (ls : List (List Entry)) → ((q : ℕ) → length (get_or ls q []) < 2 ^ 32) → sum_by long ls ≤ length ls * 4294967295
few_in [] h = omega arith
few_in (es ∷ ls) h = omega (arith, sum_by-cons long es ls, h 0, few_in ls (λ q. h (suc q)))

-- one more list is counted, and the sum fits
pub counted_next : (x : ListsOf) (q n m : ℕ) → q < length x.lists → n ≡ sum_by long (take q x.lists) → m ≡ length (list_of x q) → n + m ≡ sum_by long (take (q + 1) x.lists)
counted_next x q n m h e g = omega (arith, e, g, sum_by_more long x.lists q [] h)

pub counted_fits : (x : ListsOf) → IsSound x → length x.lists < 2 ^ 32 → (q n m : ℕ) → q < length x.lists → n ≡ sum_by long (take q x.lists) → m ≡ length (list_of x q) → n + m < 2 ^ 64
counted_fits x s f q n m h e g = omega (arith, f, counted_next x q n m h e g, sum_by-take-le long x.lists (q + 1), few_in x.lists s.few)

-- all lists are counted
pub counted_all : (x : ListsOf) (q n : ℕ) → length x.lists ≤ q → n ≡ sum_by long (take q x.lists) → n ≡ sum_by long x.lists
counted_all x q n h e = e ∙ ap (λ (ls : List (List Entry)). sum_by long ls) (take_all x.lists q h)
  where
    take_all : (ls : List (List Entry)) (m : ℕ) → length ls ≤ m → take m ls ≡ ls
    take_all [] zero l = refl
    take_all [] (suc m) l = refl
    take_all (es ∷ ls) zero l = absurd (omega arith)
    take_all (es ∷ ls) (suc m) l = ap (λ (ms : List (List Entry)). es ∷ ms) (take_all ls m (omega arith))

-- trees with costs are as many as the entries
pub as_many_in : (trees : List (Tree ℕ)) (ls : List (List Entry)) → entries_in (map (costed trees) ls) ≡ sum_by long ls
as_many_in trees [] = refl
as_many_in trees (es ∷ ls) =
    omega (arith, sum_by-cons long es ls, sum_by-cons (λ (ys : List Costed). length ys) (costed trees es) (map (costed trees) ls), length-map es (told trees), as_many_in trees ls)

pub list_read : (trees : List (Tree ℕ)) (ls : List (List Entry)) (q : ℕ) → get_or (map (costed trees) ls) q [] ≡ costed trees (get_or ls q [])
list_read trees [] q = refl
list_read trees (es ∷ ls) zero = refl
list_read trees (es ∷ ls) (suc q) = list_read trees ls q

-- all lists of a state of the lists
pub are_counted : (x : ListsOf) → IsSound x → 0 < length x.lists → (trees : List (Tree ℕ)) → trees ≡ x.trees → (ls : List (List Entry)) → ls ≡ x.lists → (n : ℕ) → n ≡ sum_by long x.lists → IsCounted trees ls n
are_counted x s some trees t ls l n e =
    subst (λ (ts : List (Tree ℕ)). IsCounted ts ls n) (sym t) (subst (λ (ms : List (List Entry)). IsCounted x.trees ms n) (sym l)
    (record { some = some; listed = λ q. are_listed x s q x.trees refl (list_of x q) refl; counted = e }))

-- the same over the rules and labels with which the lists began

pub fronts_same : (product : ℕ → ℕ → ℕ) (x y : ListsOf) → y.rules ≡ x.rules → y.labels ≡ x.labels → (q : ℕ) → {xs : List Costed} → IsFrontAt product y.labels y.rules q xs → IsFrontAt product x.labels x.rules q xs
fronts_same product x y r l q {xs} h = subst (λ (ls : List (List ℕ)). IsFrontAt product ls x.rules q xs) l (subst (λ (rs : List (Rule ℕ)). IsFrontAt product y.labels rs q xs) r h)

-- the first trees

pub fronts_first : (product : ℕ → ℕ → ℕ) (x y : ListsOf) → y.rules ≡ x.rules → y.labels ≡ x.labels → AreFirsts product y → (q : ℕ) → IsFrontAt product x.labels x.rules q (entries_of y q)
fronts_first product x y r l f q = fronts_same product x y r l q (f.fronts q)

pub bound_first : (product : ℕ → ℕ → ℕ) (x y : ListsOf) → length y.lists ≡ length x.lists → AreFirsts product y → entries_held y ≤ length x.lists + nodes_of (entries_of y 0)
bound_first product x y e f = omega (arith, e, held_few y.lists f.few)

-- what is known of lists that began without a tree
module _ (rules : List (Rule ℕ)) (labels : List (List ℕ)) (ranks : List ℕ) (states : ℕ) (x y : ListsOf) (e : x ≡ empty_lists rules labels ranks states) where
  many : length x.lists ≡ states
  many = ap (λ (z : ListsOf). length z.lists) e ∙ as_many Entry states

  pub states_listed : length y.lists ≡ length x.lists → length y.lists ≡ states
  states_listed s = s ∙ many

  pub bound_listed : entries_held y ≤ length x.lists + nodes_of (entries_of y 0) → entries_held y ≤ states + nodes_of (entries_of y 0)
  bound_listed h = omega (arith, h, many)

  pub fronts_listed :
      (product : ℕ → ℕ → ℕ) → ((q : ℕ) → IsFrontAt product x.labels x.rules q (entries_of y q)) → (q : ℕ) → IsFrontAt product labels rules q (entries_of y q)
  fronts_listed product h q = subst (λ (z : ListsOf). IsFrontAt product z.labels z.rules q (entries_of y q)) e (h q)

-- what is read of the lists that are returned
module _ (y : ListsOf) (ls : List (List Costed)) (l : ls ≡ map (costed y.trees) y.lists) where
  read : (q : ℕ) → get_or ls q [] ≡ entries_of y q
  read q = ap (λ (ms : List (List Costed)). get_or ms q []) l ∙ list_read y.trees y.lists q

  pub lazy_best : (product : ℕ → ℕ → ℕ) (rules : List (Rule ℕ)) (labels : List (List ℕ)) (k : ℕ) → IsKBest product rules labels k (entries_of y 0) → IsKBest product rules labels k (get_or ls 0 [])
  lazy_best product rules labels k h = subst (λ (xs : List Costed). IsKBest product rules labels k xs) (sym (read 0)) h

  pub lazy_fronts :
      (product : ℕ → ℕ → ℕ) (rules : List (Rule ℕ)) (labels : List (List ℕ)) → ((q : ℕ) → IsFrontAt product labels rules q (entries_of y q)) → (q : ℕ) →
      IsFrontAt product labels rules q (get_or ls q [])
  lazy_fronts product rules labels h q = subst (λ (xs : List Costed). IsFrontAt product labels rules q xs) (sym (read q)) (h q)

  pub lazy_states : (states : ℕ) → length y.lists ≡ states → length ls ≡ states
  lazy_states states s = ap (λ (ms : List (List Costed)). length ms) l ∙ length-map y.lists (costed y.trees) ∙ s

  pub lazy_bound : (states : ℕ) → entries_held y ≤ states + nodes_of (entries_of y 0) → entries_in ls ≤ states + nodes_of (get_or ls 0 [])
  lazy_bound states h = omega (arith, h, ap nodes_of (read 0), ap entries_in l, as_many_in y.trees y.lists)
