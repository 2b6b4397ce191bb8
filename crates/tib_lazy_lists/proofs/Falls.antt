-- A state below the last candidate of another one, of which more is asked, is lower.
use Rattle.std.specs.Prelude.{◌≡◌, ℕ, ◌+◌, ◌<◌, ◌≤◌, List, [], ◌∷◌, ◌++◌, length, refl}
use Rattle.std.proofs.Common.{zero, suc, arith, ap, sym, ◌∙◌, subst, inl, inr, get_or}
use Rattle.std.proofs.lemmas.List.{length-map}
use Rattle.tib_lex.specs.Lists.{Has}
use Rattle.tib_lex.proofs.Lists.{has_mapped}
use Rattle.tib_lex.proofs.Members.{at_has}
use Rattle.tib_tree.specs.Trees.{size, most_nodes}
use Rattle.tib_ranked_trees.specs.Best.{Costed}
use Rattle.tib_ranked_trees.specs.Pass.{zeros, offer, HasTree}
use Rattle.tib_ranked_trees.specs.Pass as pass
use Rattle.tib_ranked_trees.specs.ListsOf.{ListsOf}
use Rattle.tib_ranked_trees.specs.Seen.{tree_at}
use Rattle.tib_ranked_trees.specs.Held.{no_entry, list_of, entry_at, told, entries_of, candidate_at, tuple_of, ranks_of, below_of}
use Rattle.tib_ranked_trees.specs.declared.lists.Entry.{Entry}
use Rattle.tib_ranked_trees.specs.declared.lists.Candidate.{Candidate}
use Rattle.tib_ranked_trees.proofs.Offering.{ranks_long}
use Rattle.tib_lazy_lists.specs.declared.asking.Stage.{Stage}
use Rattle.tib_lazy_lists.specs.declared.asking.Stage.TheVariants.{Closed, Open, Whole}
use Rattle.tib_lazy_lists.specs.declared.walking.Question.{Question}
use Rattle.tib_lazy_lists.specs.AskingOf.{StateOf, AskingOf, state_at}
use Rattle.tib_lazy_lists.specs.Asks.{ArePreceded, IsState, IsAtStage, IsAsking}
use Rattle.tib_lazy_lists.specs.Stacks.{least_size, standing, IsToAsk}
use Rattle.tib_lazy_lists.proofs.Kept.{below_or}
use Rattle.tib_lazy_lists.proofs.Falling.{least_le, many, larger}
use Rattle.tib_lazy_lists.proofs.Placed.{kept_of}
use Rattle.tib_lazy_lists.proofs.Steps.{not_zeros}

-- a list before and after a place
record IsSplit (xs : List ℕ) (i : ℕ) : Type 0 where
  front : List ℕ
  back : List ℕ
  is : xs ≡ front ++ get_or xs i 0 ∷ back
  long : length front ≡ i

split : (xs : List ℕ) (i : ℕ) → i < length xs → IsSplit xs i
split [] i h = absurd (omega arith)
split (x ∷ xs) zero h = record { front = []; back = xs; is = refl; long = refl }
split (x ∷ xs) (suc i) h =
    let s = split xs i (omega arith) in
    record { front = x ∷ s.front; back = s.back; is = ap (λ (ys : List ℕ). x ∷ ys) s.is; long = ap suc s.long }

-- what a state took: its last candidate, and those before each one of them
pub record HasTaken (product : ℕ → ℕ → ℕ) (x : ListsOf) (u : ℕ) (s : StateOf) : Type 0 where
  pub last : s.last < length x.candidates
  pub taken : List pass.Candidate
  pub stands : Has taken (tuple_of x s.last)
  pub preceded : ArePreceded taken taken
  pub placed : (n : ℕ) (js : List ℕ) → Has taken (n, js) → HasTree (entries_of x u) (offer product x.rules (entries_of x) n js).0

pub has_taken : (product : ℕ → ℕ → ℕ) (k : ℕ) (x : ListsOf) (u : ℕ) (s : StateOf) → IsState product k x u s → (s.stage ≡ Whole → ⊥) → HasTaken product x u s
has_taken product k x u s i n = by s.stage refl i
  where
    by : (g : Stage) → s.stage ≡ g → IsAtStage product k x u s g → HasTaken product x u s
    by Closed e c = record {
      last = c.last;
      taken = tuple_of x s.last ∷ [];
      stands = inl refl;
      preceded = λ m front j back h. elim h [
        | inl f ↦ absurd (not_zeros (below_of x (candidate_at x s.last)) front j (zeros back) (sym c.first ∙ ap (λ (w : pass.Candidate). w.1) f))
        | inr bad ↦ absurd bad
      ];
      placed = λ m js h. elim h [
        | inl f ↦ subst (λ (w : pass.Candidate). HasTree (entries_of x u) (offer product x.rules (entries_of x) w.0 w.1).0) f c.listed
        | inr bad ↦ absurd bad
      ];
    }
    by Open e o = record {
      last = o.last;
      taken = tuple_of x s.last ∷ o.older;
      stands = inl refl;
      preceded = λ m front j back h. inr (o.preceded m front j back h);
      placed = o.kept.placed;
    }
    by Whole e w = absurd (n e)

some_of : (xs : List Costed) (z : Costed) → Has xs z → 0 < length xs
some_of [] z h = absurd h
some_of (x ∷ xs) z h = omega arith

module _ (product : ℕ → ℕ → ℕ) (x : ListsOf) (a : AskingOf) (k : IsAsking product x a) (above q : Question) (up : IsToAsk x a above) (i : ℕ) (inside : i < length (below_of x (candidate_at x above.last)))
    (at : q.state ≡ get_or (below_of x (candidate_at x above.last)) i 0) (end : length (list_of x q.state) ≤ get_or (ranks_of x (candidate_at x above.last)) i 0 + 1) where
  abbrev c : Candidate
  c = candidate_at x above.last

  t : HasTaken product x above.state (state_at a above.state)
  t = has_taken product a.k x above.state (state_at a above.state) (kept_of product x a k above.state up.state) up.left

  low : above.last < length x.candidates
  low = omega (arith, up.last, t.last)

  js_long : length (ranks_of x c) ≡ length (below_of x c)
  js_long = ranks_long (entries_of x) (below_of x c) (ranks_of x c) (k.lists.made above.last low).is.tuple.ranks

  sj : IsSplit (ranks_of x c) i
  sj = split (ranks_of x c) i (omega (arith, inside, js_long))

  sq : IsSplit (below_of x c) i
  sq = split (below_of x c) i inside

  abbrev p : ℕ
  p = get_or (below_of x c) i 0

  abbrev j : ℕ
  j = get_or (ranks_of x c) i 0

  long_p : length (entries_of x p) ≡ length (list_of x p)
  long_p = length-map (list_of x p) (told x.trees)

  stands_here : Has t.taken (c.rule, sj.front ++ j ∷ sj.back)
  stands_here =
      subst (λ (js : List ℕ). Has t.taken (c.rule, js)) sj.is
      (subst (λ (m : ℕ). Has t.taken (tuple_of x m)) (sym up.last) t.stands)

  end_p : length (entries_of x p) ≤ suc j
  end_p = let e = subst (λ (r : ℕ). length (list_of x r) ≤ j + 1) at end in omega (arith, e, long_p)

  no_fewer_trees : length (entries_of x p) ≤ length (entries_of x above.state)
  no_fewer_trees =
      many product x.labels x.rules (entries_of x) k.fronts above.state t.taken c.rule (t.preceded c.rule) (t.placed c.rule) sj.front sq.front p j sq.back sj.back sq.is (sj.long ∙ sym sq.long) stands_here end_p

  some_above : 0 < length (entries_of x above.state)
  some_above = let h = t.placed c.rule (sj.front ++ j ∷ sj.back) stands_here in some_of (entries_of x above.state) _ h.1

  larger_least : length (entries_of x p) ≡ length (entries_of x above.state) → least_size (entries_of x p) < least_size (entries_of x above.state)
  larger_least same =
      larger product x.labels x.rules (entries_of x) k.fronts above.state t.taken c.rule (t.preceded c.rule) (t.placed c.rule) sj.front sq.front p j sq.back sj.back sq.is (sj.long ∙ sym sq.long) stands_here end_p same some_above

  small : (r : ℕ) → least_size (entries_of x r) ≤ most_nodes
  small r = by (entries_of x r) (λ z h.
      let e = has_mapped (told x.trees) (list_of x r) z h in
      let f = at_has (list_of x r) e.0 no_entry e.1 in
      let s = k.lists.sound.small (entry_at x r f.0).tree (k.lists.sound.listed r f.0 f.1) in
      let g : size z.0 ≡ size (tree_at x.trees (entry_at x r f.0).tree) = ap (λ (w : Costed). size w.0) (sym e.2) ∙ ap (λ (b : Entry). size (tree_at x.trees b.tree)) (sym f.2) in
      omega (arith, s, g))
    where
      by : (xs : List Costed) → ((z : Costed) → Has xs z → size z.0 ≤ most_nodes) → least_size xs ≤ most_nodes
      by [] h = omega arith
      by (z ∷ zs) h = omega (arith, least_le (z ∷ zs) z (inl refl), h z (inl refl))

  falls_to : standing x p < standing x above.state
  falls_to = elim (below_or (length (entries_of x p)) (length (entries_of x above.state))) [
    | inl less ↦ omega (arith, less, small p)
    | inr no_less ↦
        let same : length (entries_of x p) ≡ length (entries_of x above.state) = omega (arith, no_less, no_fewer_trees) in
        omega (arith, same, larger_least same)
  ]

  pub falls : standing x q.state < standing x above.state
  falls = subst (λ (r : ℕ). standing x r < standing x above.state) (sym at) falls_to
