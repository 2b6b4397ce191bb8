-- What stays as it is while trees, entries, candidates and ranks are appended.
use Rattle.std.specs.Prelude.{◌≡◌, ℕ, ◌<◌, List, [], ◌∷◌, ◌++◌, length, map, take, drop, false, refl}
use Rattle.std.proofs.Common.{zero, suc, arith, ap, sym, ◌∙◌, subst, inl, inr, get_or, length-append}
use Rattle.tib_lex.specs.Lists.{Has}
use Rattle.tib_tree.specs.Trees.{Tree, size}
use Rattle.tib_grammar.specs.Run.{rule_at}
use Rattle.std.specs.declared.cmp.Ordering.{Ordering}
use Rattle.std.specs.Ordering.{is_gt}
use Rattle.tib_ranked_trees.specs.Heaps.{IsHeap, at, up}
use Rattle.tib_ranked_trees.specs.Levels.{states_of, made}
use Rattle.tib_ranked_trees.specs.Pass.{Entries, AreRanks, picked, offer, no_entry}
use Rattle.tib_ranked_trees.proofs.Keeping.{get_or-front}
use Rattle.tib_ranked_trees.specs.ListsOf.{ListsOf}
use Rattle.tib_ranked_trees.specs.Seen.{tree_at}
use Rattle.tib_ranked_trees.specs.Held as held
use Rattle.tib_ranked_trees.specs.Held.{told, list_of, entries_of, ranks_from, ranks_of, tree_by, candidate_at, no_candidate, tuple_of, stands_for, grown, AreMore, IsSound, IsTuple, IsCandidate, IsPriced}
use Rattle.tib_ranked_trees.specs.declared.lists.Entry.{Entry}
use Rattle.tib_ranked_trees.specs.declared.lists.Candidate.{Candidate}
use Rattle.tib_ranked_trees.proofs.Offering.{ranks_long}

-- entries that are appended change no rank

abbrev pub AreMoreEntries : Entries → Entries → Type 0
AreMoreEntries before now = (q : ℕ) → (more : List (Tree ℕ × ℕ)) × (now q ≡ before q ++ more)

pub ranks_kept : (before now : Entries) → AreMoreEntries before now → (qs js : List ℕ) → AreRanks before qs js → AreRanks now qs js
ranks_kept before now m [] [] r = tt
ranks_kept before now m [] (j ∷ js) r = absurd r
ranks_kept before now m (q ∷ qs) [] r = absurd r
ranks_kept before now m (q ∷ qs) (j ∷ js) r =
    (omega (arith, r.0, ap (λ (xs : List (Tree ℕ × ℕ)). length xs) (m q).1, length-append (before q) (m q).0), ranks_kept before now m qs js r.1)

pub picked_kept : (before now : Entries) → AreMoreEntries before now → (qs js : List ℕ) → AreRanks before qs js → picked now qs js ≡ picked before qs js
picked_kept before now m [] [] r = refl
picked_kept before now m [] (j ∷ js) r = absurd r
picked_kept before now m (q ∷ qs) [] r = absurd r
picked_kept before now m (q ∷ qs) (j ∷ js) r =
    let e : get_or (now q) j no_entry ≡ get_or (before q) j no_entry = ap (λ (xs : List (Tree ℕ × ℕ)). get_or xs j no_entry) (m q).1 ∙ get_or-front (before q) (m q).0 j no_entry r.0 in
    ap (λ (z : Tree ℕ × ℕ). z ∷ picked now qs js) e ∙ ap (λ (zs : List (Tree ℕ × ℕ)). get_or (before q) j no_entry ∷ zs) (picked_kept before now m qs js r.1)

map_told : (ts us : List (Tree ℕ)) (es : List Entry) → ((j : ℕ) → j < length es → tree_at us (get_or es j held.no_entry).tree ≡ tree_at ts (get_or es j held.no_entry).tree) → map (told us) es ≡ map (told ts) es
map_told ts us [] h = refl
map_told ts us (e ∷ es) h =
    let a : tree_at us e.tree ≡ tree_at ts e.tree = h 0 (omega arith) in
    ap (λ (t : Tree ℕ). (t, e.cost) ∷ map (told us) es) a ∙ ap (λ (zs : List (Tree ℕ × ℕ)). (tree_at ts e.tree, e.cost) ∷ zs) (map_told ts us es (λ j l. h (suc j) (omega arith)))

map_append : (ts : List (Tree ℕ)) (es fs : List Entry) → map (told ts) (es ++ fs) ≡ map (told ts) es ++ map (told ts) fs
map_append ts [] fs = refl
map_append ts (e ∷ es) fs = ap (λ (zs : List (Tree ℕ × ℕ)). told ts e ∷ zs) (map_append ts es fs)

-- ranks from a place on

take_front : (n : ℕ) (xs ys : List ℕ) → length (take n xs) ≡ n → take n (xs ++ ys) ≡ take n xs
take_front zero xs ys e = refl
take_front (suc n) [] ys e = absurd (omega arith)
take_front (suc n) (x ∷ xs) ys e = ap (λ (zs : List ℕ). x ∷ zs) (take_front n xs ys (omega arith))

from_front : (s n : ℕ) (xs ys : List ℕ) → length (take n (drop s xs)) ≡ n → take n (drop s (xs ++ ys)) ≡ take n (drop s xs)
from_front s zero xs ys e = refl
from_front zero (suc n) xs ys e = take_front (suc n) xs ys e
from_front (suc s) (suc n) [] ys e = absurd (omega arith)
from_front (suc s) (suc n) (x ∷ xs) ys e = from_front s (suc n) xs ys e

module _ (x : ListsOf) (sound : IsSound x) (ts : List (Tree ℕ)) (ls : List (List Entry)) (cs : List Candidate) (rs : List ℕ) (more : AreMore x ts ls cs rs) where
  pub entries_kept : AreMoreEntries (entries_of x) (entries_of (grown x ts ls cs rs))
  entries_kept q =
      let m = more.lists q in (
        map (told ts) m.0,
        ap (λ (es : List Entry). map (told ts) es) m.1 ∙ map_append ts (list_of x q) m.0
            ∙ ap (λ (zs : List (Tree ℕ × ℕ)). zs ++ map (told ts) m.0) (map_told x.trees ts (list_of x q) (λ j h. more.trees.same (get_or (list_of x q) j held.no_entry).tree (sound.listed q j h))),
      )

  pub ranks_from_kept : (n start : ℕ) → IsTuple x n (ranks_from x n start) → ranks_from (grown x ts ls cs rs) n start ≡ ranks_from x n start
  ranks_from_kept n start t =
      let qs : List ℕ = states_of (rule_at x.rules n) in
      ap (λ (ks : List ℕ). take (length qs) (drop start ks)) more.ranks.1
      ∙ from_front start (length qs) x.ranks more.ranks.0 (ranks_long (entries_of x) qs (ranks_from x n start) t.ranks)

  pub tuple_kept : (n : ℕ) (js : List ℕ) → IsTuple x n js → IsTuple (grown x ts ls cs rs) n js
  tuple_kept n js t = record { rule = t.rule; ranks = ranks_kept (entries_of x) (entries_of (grown x ts ls cs rs)) entries_kept (states_of (rule_at x.rules n)) js t.ranks }

  pub offer_kept : (product : ℕ → ℕ → ℕ) (n : ℕ) (js : List ℕ) → IsTuple x n js → offer product x.rules (entries_of (grown x ts ls cs rs)) n js ≡ offer product x.rules (entries_of x) n js
  offer_kept product n js t = ap (made product (rule_at x.rules n)) (picked_kept (entries_of x) (entries_of (grown x ts ls cs rs)) entries_kept (states_of (rule_at x.rules n)) js t.ranks)

  pub tree_kept : (n : ℕ) (js : List ℕ) → IsTuple x n js → tree_by (grown x ts ls cs rs) n js ≡ tree_by x n js
  tree_kept n js t = ap (λ (z : Tree ℕ × ℕ). z.0) (offer_kept (λ a b. 0) n js t)

  pub candidate_kept : (n : ℕ) → n < length x.candidates → candidate_at (grown x ts ls cs rs) n ≡ candidate_at x n
  candidate_kept n h = ap (λ (ks : List Candidate). get_or ks n no_candidate) more.candidates.1 ∙ get_or-front x.candidates more.candidates.0 n no_candidate h

  is_kept : (c : Candidate) → IsCandidate x c → IsCandidate (grown x ts ls cs rs) c
  is_kept c i =
      let e : ranks_of (grown x ts ls cs rs) c ≡ ranks_of x c = ranks_from_kept c.rule c.start i.tuple in
      record {
        tuple = subst (λ (js : List ℕ). IsTuple (grown x ts ls cs rs) c.rule js) (sym e) (tuple_kept c.rule (ranks_of x c) i.tuple);
        size = i.size ∙ ap size (sym (tree_kept c.rule (ranks_of x c) i.tuple)) ∙ ap (λ (js : List ℕ). size (tree_by (grown x ts ls cs rs) c.rule js)) (sym e);
      }

  -- a candidate stays one, and stands for the same
  pub known_kept : (n : ℕ) → n < length x.candidates → IsCandidate x (candidate_at x n) → IsCandidate (grown x ts ls cs rs) (candidate_at (grown x ts ls cs rs) n)
  known_kept n h i = subst (λ (c : Candidate). IsCandidate (grown x ts ls cs rs) c) (sym (candidate_kept n h)) (is_kept (candidate_at x n) i)

  pub tuple_of_kept : (n : ℕ) → n < length x.candidates → IsCandidate x (candidate_at x n) → tuple_of (grown x ts ls cs rs) n ≡ tuple_of x n
  tuple_of_kept n h i =
      ap (λ (c : Candidate). pair c.rule (ranks_of (grown x ts ls cs rs) c)) (candidate_kept n h)
      ∙ ap (λ (js : List ℕ). pair (candidate_at x n).rule js) (ranks_from_kept (candidate_at x n).rule (candidate_at x n).start i.tuple)
    where
      pair : ℕ → List ℕ → ℕ × List ℕ
      pair k js = (k, js)

  pub stands_kept : (n : ℕ) → n < length x.candidates → IsCandidate x (candidate_at x n) → stands_for (grown x ts ls cs rs) n ≡ stands_for x n
  stands_kept n h i =
      let c : Candidate = candidate_at x n in
      let e : ranks_of (grown x ts ls cs rs) c ≡ ranks_of x c = ranks_from_kept c.rule c.start i.tuple in
      ap (λ (d : Candidate). pair (tree_by (grown x ts ls cs rs) d.rule (ranks_of (grown x ts ls cs rs) d)) d.cost) (candidate_kept n h)
      ∙ ap (λ (js : List ℕ). pair (tree_by (grown x ts ls cs rs) c.rule js) c.cost) e
      ∙ ap (λ (t : Tree ℕ). pair t c.cost) (tree_kept c.rule (ranks_of x c) i.tuple)
    where
      pair : Tree ℕ → ℕ → Tree ℕ × ℕ
      pair t k = (t, k)

-- a heap stays one where its members compare as before
pub heap_kept : (one two : ℕ → ℕ → Ordering) (xs : List ℕ) → ((y z : ℕ) → Has xs y → Has xs z → two y z ≡ one y z) → IsHeap one xs → IsHeap two xs
heap_kept one two xs same h = λ j low high.
    let a : Has xs (at xs (up j)) = stands xs (up j) (omega (arith, low, high)) in
    let b : Has xs (at xs j) = stands xs j high in
    subst (λ (o : Ordering). is_gt o ≡ false) (sym (same (at xs (up j)) (at xs j) a b)) (h j low high)
  where
    stands : (ys : List ℕ) (i : ℕ) → i < length ys → Has ys (at ys i)
    stands [] i l = absurd (omega arith)
    stands (y ∷ ys) zero l = inl refl
    stands (y ∷ ys) (suc i) l = inr (stands ys i (omega arith))
