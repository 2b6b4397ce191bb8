-- How many nodes the entries have that are demanded below one.
use Rattle.std.specs.Prelude.{◌≡◌, ◌⊎◌, ℕ, ◌+◌, ◌-◌, ◌<◌, ◌≤◌, List, [], ◌∷◌, ◌++◌, length, take, false, true, refl}
use Rattle.std.proofs.Common.{zero, suc, arith, ap, sym, ◌∙◌, subst, inl, inr, get_or, length-append}
use Rattle.std.proofs.lemmas.List.{length-map}
use Rattle.std.proofs.lemmas.List.Sums.{sum_by-cons, sum_by_push, sum_by_more, sum_by-take-le}
use Rattle.tib_lex.specs.Lists.{Has}
use Rattle.tib_lex.proofs.Members.{has_left, has_right, has_either}
use Rattle.tib_tree.specs.Trees.{size, sizes}
use Rattle.tib_ranked_trees.specs.Levels.{states_at, trees_of}
use Rattle.tib_ranked_trees.specs.Pass.{Entries, AreRanks, picked, entry_at}
use Rattle.tib_ranked_trees.specs.Walks.{pairs}
use Rattle.tib_ranked_trees.specs.ListsOf.{ListsOf}
use Rattle.tib_ranked_trees.specs.Held.{list_of, told, entries_of, tree_by, IsTuple}
use Rattle.tib_ranked_trees.proofs.Offering.{rank_at, ranks_long}
use Rattle.tib_lazy_lists.specs.declared.demanding.Demand.{Demand}
use Rattle.tib_lazy_lists.specs.declared.asking.Stage.TheVariants.{Whole}
use Rattle.tib_lazy_lists.specs.AskingOf.{AskingOf, state_at}
use Rattle.tib_lazy_lists.specs.Asks.{IsAsking}
use Rattle.tib_lazy_lists.specs.Demands.{nodes_at, nodes_behind, named_nodes, AreUnmet, IsUnmet}

pairs_long : (qs js : List ℕ) → length js ≡ length qs → length (pairs qs js) ≡ length qs
pairs_long [] js e = refl
pairs_long (q ∷ qs) [] e = absurd (omega arith)
pairs_long (q ∷ qs) (j ∷ js) e = ap suc (pairs_long qs js (omega arith))

pair_at : (qs js : List ℕ) (i : ℕ) → length js ≡ length qs → i < length qs → get_or (pairs qs js) i (0, 0) ≡ (get_or qs i 0, get_or js i 0)
pair_at [] js i e h = absurd (omega arith)
pair_at (q ∷ qs) [] i e h = absurd (omega arith)
pair_at (q ∷ qs) (j ∷ js) zero e h = refl
pair_at (q ∷ qs) (j ∷ js) (suc i) e h = pair_at qs js i (omega arith) (omega arith)

abbrev nodes_named : Entries → ℕ × ℕ → ℕ
nodes_named entries p = size (entry_at entries p.0 p.1).0

-- the entries that ranks name have the nodes of the trees side by side
named_all : (entries : Entries) (qs js : List ℕ) → AreRanks entries qs js → named_nodes entries (pairs qs js) ≡ sizes (trees_of (picked entries qs js))
named_all entries [] [] r = refl
named_all entries [] (j ∷ js) r = absurd r
named_all entries (q ∷ qs) [] r = absurd r
named_all entries (q ∷ qs) (j ∷ js) r = omega (arith, sum_by-cons (nodes_named entries) (q, j) (pairs qs js), named_all entries qs js r.1)

-- the entry with the next rank
pub named_next :
    (entries : Entries) (qs js : List ℕ) (i : ℕ) → AreRanks entries qs js → i < length qs →
    named_nodes entries (take (i + 1) (pairs qs js)) ≡ named_nodes entries (take i (pairs qs js)) + size (entry_at entries (get_or qs i 0) (get_or js i 0)).0
named_next entries qs js i r h =
    let long : length js ≡ length qs = ranks_long entries qs js r in
    let p : get_or (pairs qs js) i (0, 0) ≡ (get_or qs i 0, get_or js i 0) = pair_at qs js i long h in
    sum_by_more (nodes_named entries) (pairs qs js) i (0, 0) (omega (arith, h, pairs_long qs js long)) ∙ ap (λ (z : ℕ × ℕ). named_nodes entries (take i (pairs qs js)) + nodes_named entries z) p

-- those with the first ranks have fewer nodes than the tree that is made of all of them
pub named_fewer : (x : ListsOf) (n : ℕ) (js : List ℕ) (i : ℕ) → AreRanks (entries_of x) (states_at x.rules n) js → named_nodes (entries_of x) (take i (pairs (states_at x.rules n) js)) + 1 ≤ size (tree_by x n js)
named_fewer x n js i r =
    omega (arith, sum_by-take-le (nodes_named (entries_of x)) (pairs (states_at x.rules n) js) i, named_all (entries_of x) (states_at x.rules n) js r)

-- a demand that is put onto a stack
pub unmet_more : (x : ListsOf) (a : AskingOf) (old now : List Demand) (d : Demand) → now ≡ old ++ d ∷ [] → AreUnmet x a old → IsUnmet x a d → AreUnmet x a now
unmet_more x a old now d e u i = λ f h.
    elim (has_either old (d ∷ []) f (subst (λ (ds : List Demand). Has ds f) e h)) [
      | inl k ↦ u f k
      | inr k ↦ elim k [ inl g ↦ subst (λ (w : Demand). IsUnmet x a w) g i | inr bad ↦ absurd bad ]
    ]

pub nodes_more : (x : ListsOf) (old now : List Demand) (d : Demand) → now ≡ old ++ d ∷ [] → nodes_behind x now ≡ nodes_behind x old + nodes_at x d
nodes_more x old now d e = ap (nodes_behind x) e ∙ sum_by_push (nodes_at x) old d

-- one that is taken from it
pub unmet_fewer : (x : ListsOf) (a : AskingOf) (old rest : List Demand) (d : Demand) → old ≡ rest ++ d ∷ [] → AreUnmet x a old → IsUnmet x a d × AreUnmet x a rest
unmet_fewer x a old rest d e u = (
  u d (subst (λ (ds : List Demand). Has ds d) (sym e) (has_right rest (d ∷ []) d (inl refl))),
  λ f h. u f (subst (λ (ds : List Demand). Has ds f) (sym e) (has_left rest (d ∷ []) f h)),
)

-- the first demand was put down, or waits alone
pub first_or : (order stack rest now : List Demand) (first d : Demand) → stack ≡ rest ++ d ∷ [] → now ≡ order ++ d ∷ [] → Has order first ⊎ (stack ≡ first ∷ []) → Has now first
first_or order stack rest now first d e f (inl h) = subst (λ (ds : List Demand). Has ds first) (sym f) (has_left order (d ∷ []) first h)
first_or order stack rest now first d e f (inr g) = subst (λ (ds : List Demand). Has ds first) (sym f) (has_right order (d ∷ []) first (inl (lone rest (sym e ∙ g))))
  where
    lone : (rest : List Demand) → rest ++ d ∷ [] ≡ first ∷ [] → d ≡ first
    lone [] h = ap (λ (ds : List Demand). get_or ds 0 d) h
    lone (r ∷ []) h = absurd (omega (arith, ap (λ (ds : List Demand). length ds) h))
    lone (r ∷ s ∷ rs) h = absurd (omega (arith, ap (λ (ds : List Demand). length ds) h))

-- the demand for what is after a rank
module _ (product : ℕ → ℕ → ℕ) (x : ListsOf) (a : AskingOf) (k : IsAsking product x a) (n : ℕ) (js : List ℕ) (t : IsTuple x n js) (i : ℕ) (h : i < length (states_at x.rules n)) (d : Demand) (state : d.state ≡ get_or (states_at x.rules n) i 0)
    (many : d.many ≡ get_or js i 0 + 1) where
  pub demand_unmet : d.state < length x.lists → ((state_at a d.state).stage ≡ Whole → ⊥) → length (list_of x d.state) ≤ d.many → length (list_of x d.state) < a.k → IsUnmet x a d
  demand_unmet low left few free =
      let r : get_or js i 0 < length (entries_of x d.state) = subst (λ (q : ℕ). get_or js i 0 < length (entries_of x q)) (sym state) (rank_at (entries_of x) (states_at x.rules n) js i t.ranks h) in
      record { state = omega (arith, low, k.long); many = omega (arith, few, many, r, length-map (list_of x d.state) (told x.trees)); left = left; free = free }

  pub demand_nodes : nodes_at x d ≡ size (entry_at (entries_of x) (get_or (states_at x.rules n) i 0) (get_or js i 0)).0
  demand_nodes =
      let e : d.many - 1 ≡ get_or js i 0 = omega (arith, many) in
      ap (λ (q : ℕ). size (entry_at (entries_of x) q (d.many - 1)).0) state ∙ ap (λ (j : ℕ). size (entry_at (entries_of x) (get_or (states_at x.rules n) i 0) j).0) e

-- one demand alone
pub alone : (x : ListsOf) (a : AskingOf) (order start now : List Demand) (d : Demand) → order ≡ [] → start ≡ [] → now ≡ start ++ d ∷ [] → IsUnmet x a d →
    AreUnmet x a now × AreUnmet x a order × (length order + nodes_behind x now ≤ nodes_at x d) × (now ≡ d ∷ [])
alone x a order start now d o s e u =
    let l : now ≡ d ∷ [] = subst (λ (ds : List Demand). now ≡ ds ++ d ∷ []) s e in
    let n : nodes_behind x now ≡ nodes_at x d = omega (arith, nodes_more x [] now d l) in (
      unmet_more x a [] now d l (λ f h. absurd h) u,
      subst (λ (ds : List Demand). AreUnmet x a ds) (sym o) (λ f h. absurd h),
      omega (arith, n, ap (λ (ds : List Demand). length ds) o),
      l,
    )

-- one demand was put down, and others came to the stack
pub put_down :
    (x : ListsOf) (first d : Demand) (order now stack rest more : List Demand) → now ≡ order ++ d ∷ [] → stack ≡ rest ++ d ∷ [] → nodes_behind x more + 1 ≤ nodes_behind x rest + nodes_at x d →
    length order + nodes_behind x stack ≤ nodes_at x first → length now + nodes_behind x more ≤ nodes_at x first
put_down x first d order now stack rest more e f n l =
    omega (arith, n, l, nodes_more x rest stack d f, ap (λ (ds : List Demand). length ds) e, length-append order (d ∷ []))

-- an empty stack has no demand
pub first_last : (order stack : List Demand) (first : Demand) → stack ≡ [] → Has order first ⊎ (stack ≡ first ∷ []) → Has order first
first_last order stack first e (inl h) = h
first_last order stack first e (inr g) = absurd (omega (arith, ap (λ (ds : List Demand). length ds) (sym e ∙ g)))

-- a list from which nothing can be taken
pub nothing_left : (ds : List Demand) (n : ℕ) → (0 < n → false ≡ true) → (n ≡ length ds) ⊎ (length ds ≡ n) → ds ≡ []
nothing_left [] n h e = refl
nothing_left (d ∷ ds) n h e = let bad : false ≡ true = h (some e) in absurd (cc)
  where
    some : (n ≡ length (d ∷ ds)) ⊎ (length (d ∷ ds) ≡ n) → 0 < n
    some (inl f) = omega (arith, f)
    some (inr f) = omega (arith, f)
