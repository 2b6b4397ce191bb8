-- What states keep when they have their first trees.
use Rattle.std.specs.Prelude.{◌≡◌, ◌⊎◌, ℕ, ◌+◌, ◌<◌, ◌^◌, List, [], ◌∷◌, ◌++◌, length, map, refl}
use Rattle.std.proofs.Common.{zero, suc, arith, ap, sym, ◌∙◌, subst, inl, inr, get_or, length-append}
use Rattle.std.proofs.Math.ListN.{set}
use Rattle.std.proofs.lemmas.List.{length-map, map-set, get_or-set_same, get_or-set_other}
use Rattle.std.specs.Global.{Vec}
use Rattle.tib_lex.specs.Lists.{Has, Distinct}
use Rattle.tib_lex.proofs.Members.{distinct_more, has_at, has_left, has_right, has_either}
use Rattle.tib_grammar.specs.Run.{rule_at}
use Rattle.tib_grammar.specs.declared.Rule.{Rule}
use Rattle.tib_ranked_trees.specs.Best.{Costed}
use Rattle.tib_ranked_trees.specs.Lazy.{IsWhole}
use Rattle.tib_ranked_trees.specs.Levels.{states_of}
use Rattle.tib_ranked_trees.specs.Pass.{Entries, AreRanks, zeros, HasTree}
use Rattle.tib_ranked_trees.proofs.Keeping.{get_or-front}
use Rattle.tib_ranked_trees.specs.ListsOf.{ListsOf}
use Rattle.tib_ranked_trees.specs.Held.{no_entry, list_of, entry_at, told, entries_of, candidate_at, ranks_of, tree_by}
use Rattle.tib_ranked_trees.specs.declared.lists.Entry.{Entry}
use Rattle.tib_ranked_trees.proofs.Children.{get_or-map}
use Rattle.tib_lazy_lists.specs.declared.asking.Asked.{Asked}
use Rattle.tib_lazy_lists.specs.Firsts.{AreFirsts, AreTrimmed}
use Rattle.tib_lazy_lists.specs.Offers.{AreStarted}
use Rattle.tib_lazy_lists.specs.AskingOf.{StateOf, AskingOf, state_of, rules_of, no_state}
use Rattle.tib_lazy_lists.specs.Asks.{IsClosed, IsState, IsAsking, AreByState, AreListed, IsNoted}
use Rattle.tib_lazy_lists.specs.Beginnings.{AreFirstStates, AreSomeByState, AreSomeListed}
use Rattle.tib_lazy_lists.proofs.Kept.{same_or, mapped_has}
use Rattle.tib_lazy_lists.proofs.Grown.{at_end}

empty_of : {A : Type 0} (xs : List A) → length xs ≡ 0 → xs ≡ []
empty_of [] e = refl
empty_of (z ∷ zs) e = absurd (omega arith)

next_or : (j n : ℕ) → j < n + 1 → (j < n) ⊎ (j ≡ n)
next_or j n h = grind arith

map_end : {A B : Type 0} (f : A → B) (xs : List A) (y : A) → map f (xs ++ y ∷ []) ≡ map f xs ++ f y ∷ []
map_end f [] y = refl
map_end {B = B} f (x ∷ xs) y = ap (λ (ys : List B). f x ∷ ys) (map_end f xs y)

-- one more list without a rule
pub none_more : (vs now : List (Vec ℕ)) (w : Vec ℕ) → now ≡ vs ++ w ∷ [] → w.items ≡ [] → ((q : ℕ) → get_or (map rules_of vs) q [] ≡ []) → (q : ℕ) → get_or (map rules_of now) q [] ≡ []
none_more vs now w e f h q = ap (λ us. get_or (map rules_of us) q []) e ∙ ap (λ rs. get_or rs q []) (map_end rules_of vs w) ∙ by (map rules_of vs) q h
  where
    by : (rs : List (List ℕ)) (p : ℕ) → ((i : ℕ) → get_or rs i [] ≡ []) → get_or (rs ++ w.items ∷ []) p [] ≡ []
    by [] zero g = f
    by [] (suc p) g = refl
    by (r ∷ rs) zero g = g 0
    by (r ∷ rs) (suc p) g = by rs p (λ i. g (suc i))

-- a rule that is appended to those of a state
pub rule_put : (vs : List (Vec ℕ)) (q : ℕ) → q < length vs → (v w d : Vec ℕ) (n : ℕ) → v ≡ get_or vs q d → w.items ≡ v.items ++ n ∷ [] → map rules_of (set vs q w) ≡ set (map rules_of vs) q (get_or (map rules_of vs) q [] ++ n ∷ [])
rule_put vs q h v w d n r p =
    let old : rules_of v ≡ get_or (map rules_of vs) q [] = ap rules_of r ∙ sym (get_or-map rules_of vs q d [] h) in
    map-set rules_of vs q w ∙ ap (λ (ms : List ℕ). set (map rules_of vs) q ms) (p ∙ ap (λ (ms : List ℕ). ms ++ n ∷ []) old)

pub by_none : (rules : List (Rule ℕ)) (by_state : List (List ℕ)) → ((q : ℕ) → get_or by_state q [] ≡ []) → AreSomeByState rules 0 by_state
by_none rules by_state e = record {
  each = λ m l. absurd (omega (arith, l));
  only = λ q m h. absurd (subst (λ (ms : List ℕ). Has ms m) (e q) h);
  once = λ q. subst (λ (ms : List ℕ). Distinct ms) (sym (e q)) tt;
}

pub by_more :
    (rules : List (Rule ℕ)) (n : ℕ) (by_state now : List (List ℕ)) → (rule_at rules n).left < length by_state →
    now ≡ set by_state (rule_at rules n).left (get_or by_state (rule_at rules n).left [] ++ n ∷ []) → AreSomeByState rules n by_state → AreSomeByState rules (n + 1) now
by_more rules n by_state now inside e b = subst (λ (bs : List (List ℕ)). AreSomeByState rules (n + 1) bs) (sym e) (record { each = each; only = only; once = once })
  where
    here : get_or (set by_state (rule_at rules n).left (get_or by_state (rule_at rules n).left [] ++ n ∷ [])) (rule_at rules n).left [] ≡ get_or by_state (rule_at rules n).left [] ++ n ∷ []
    here = get_or-set_same by_state (rule_at rules n).left (get_or by_state (rule_at rules n).left [] ++ n ∷ []) [] inside

    there : (q : ℕ) → (q ≡ (rule_at rules n).left → ⊥) → get_or (set by_state (rule_at rules n).left (get_or by_state (rule_at rules n).left [] ++ n ∷ [])) q [] ≡ get_or by_state q []
    there q o = get_or-set_other by_state (rule_at rules n).left q (get_or by_state (rule_at rules n).left [] ++ n ∷ []) [] o

    keep : (q m : ℕ) → Has (get_or by_state q []) m → Has (get_or (set by_state (rule_at rules n).left (get_or by_state (rule_at rules n).left [] ++ n ∷ [])) q []) m
    keep q m h = elim (same_or q (rule_at rules n).left) [
      | inr o ↦ subst (λ (ms : List ℕ). Has ms m) (sym (there q o)) h
      | inl f ↦
          subst (λ (p : ℕ). Has (get_or (set by_state (rule_at rules n).left (get_or by_state (rule_at rules n).left [] ++ n ∷ [])) p []) m) (sym f)
          (subst (λ (ms : List ℕ). Has ms m) (sym here) (has_left (get_or by_state (rule_at rules n).left []) (n ∷ []) m (subst (λ (p : ℕ). Has (get_or by_state p []) m) f h)))
    ]

    each : (m : ℕ) → m < n + 1 → Has (get_or (set by_state (rule_at rules n).left (get_or by_state (rule_at rules n).left [] ++ n ∷ [])) (rule_at rules m).left []) m
    each m l = elim (next_or m n l) [
      | inl k ↦ keep (rule_at rules m).left m (b.each m k)
      | inr f ↦
          subst (λ (i : ℕ). Has (get_or (set by_state (rule_at rules n).left (get_or by_state (rule_at rules n).left [] ++ n ∷ [])) (rule_at rules i).left []) i) (sym f)
          (subst (λ (ms : List ℕ). Has ms n) (sym here) (has_right (get_or by_state (rule_at rules n).left []) (n ∷ []) n (inl refl)))
    ]

    old : (q m : ℕ) → Has (get_or by_state q []) m → (m < n + 1) × ((rule_at rules m).left ≡ q)
    old q m h = let k = b.only q m h in (omega (arith, k.0), k.1)

    only : (q m : ℕ) → Has (get_or (set by_state (rule_at rules n).left (get_or by_state (rule_at rules n).left [] ++ n ∷ [])) q []) m → (m < n + 1) × ((rule_at rules m).left ≡ q)
    only q m h = elim (same_or q (rule_at rules n).left) [
      | inr o ↦ old q m (subst (λ (ms : List ℕ). Has ms m) (there q o) h)
      | inl f ↦
          let h' = subst (λ (ms : List ℕ). Has ms m) here (subst (λ (p : ℕ). Has (get_or (set by_state (rule_at rules n).left (get_or by_state (rule_at rules n).left [] ++ n ∷ [])) p []) m) f h) in
          elim (has_either (get_or by_state (rule_at rules n).left []) (n ∷ []) m h') [
            | inl k ↦ old q m (subst (λ (p : ℕ). Has (get_or by_state p []) m) (sym f) k)
            | inr k ↦ elim k [ inl e ↦ (omega (arith, e), ap (λ (i : ℕ). (rule_at rules i).left) (sym e) ∙ sym f) | inr bad ↦ absurd bad ]
          ]
    ]

    once : (q : ℕ) → Distinct (get_or (set by_state (rule_at rules n).left (get_or by_state (rule_at rules n).left [] ++ n ∷ [])) q [])
    once q = elim (same_or q (rule_at rules n).left) [
      | inr o ↦ subst (λ (ms : List ℕ). Distinct ms) (sym (there q o)) (b.once q)
      | inl f ↦
          subst (λ (p : ℕ). Distinct (get_or (set by_state (rule_at rules n).left (get_or by_state (rule_at rules n).left [] ++ n ∷ [])) p [])) (sym f)
          (subst (λ (ms : List ℕ). Distinct ms) (sym here)
          (distinct_more (get_or by_state (rule_at rules n).left []) n (b.once (rule_at rules n).left) (λ h. let k = b.only (rule_at rules n).left n h in omega (arith, k.0))))
    ]

pub by_all : (rules : List (Rule ℕ)) (n : ℕ) (by_state : List (List ℕ)) → n ≡ length rules → AreSomeByState rules n by_state → AreByState rules by_state
by_all rules n by_state e b = record { each = λ m l. b.each m (omega (arith, l, e)); only = λ q m h. let k = b.only q m h in (omega (arith, k.0, e), k.1); once = b.once }

-- a state without a tree, and one with its first tree

pub whole_first : (product : ℕ → ℕ → ℕ) (x : ListsOf) → AreFirsts product x → (q : ℕ) → length (list_of x q) ≡ 0 → IsWhole product x.rules (entries_of x) q
whole_first product x f q e = λ y is new. f.none q (empty_of (list_of x q) e) y is

pub closed_first : (product : ℕ → ℕ → ℕ) (x : ListsOf) → AreFirsts product x → (q : ℕ) → 0 < length (list_of x q) → (s : StateOf) → s.last ≡ (entry_at x q 0).candidate → s.heap ≡ [] → IsClosed x q s
closed_first product x f q some s e h =
    let i = f.from q some in
    let m : ℕ = (entry_at x q 0).candidate in
    let there : Has (entries_of x q) (told x.trees (entry_at x q 0)) = mapped_has (told x.trees) (list_of x q) (entry_at x q 0) (has_at (list_of x q) 0 no_entry some) in
    let listed : HasTree (entries_of x q) (tree_by x (candidate_at x m).rule (ranks_of x (candidate_at x m))) = ((candidate_at x m).cost, subst (λ (z : Costed). Has (entries_of x q) z) i.same there) in
    record {
      last = omega (arith, e, i.below);
      left = subst (λ (n : ℕ). (rule_at x.rules (candidate_at x n).rule).left ≡ q) (sym e) i.left;
      first = subst (λ (n : ℕ). ranks_of x (candidate_at x n) ≡ zeros (states_of (rule_at x.rules (candidate_at x n).rule))) (sym e) i.first;
      listed = subst (λ (n : ℕ). HasTree (entries_of x q) (tree_by x (candidate_at x n).rule (ranks_of x (candidate_at x n)))) (sym e) listed;
      few = f.few q;
      empty = h;
    }

pub states_more :
    (product : ℕ → ℕ → ℕ) (x : ListsOf) (vs now : List Asked) (v : Asked) (n : ℕ) → now ≡ vs ++ v ∷ [] → length vs ≡ n → ((k : ℕ) → IsState product k x n (state_of v)) → AreFirstStates product x (map state_of vs) → AreFirstStates product x (map state_of now)
states_more product x vs now v n e l new old q h k =
    let m : map state_of now ≡ map state_of vs ++ state_of v ∷ [] = ap (λ us. map state_of us) e ∙ map_end state_of vs v in
    let long : length (map state_of vs) ≡ n = length-map vs state_of ∙ l in
    let h' : q < n + 1 = omega (arith, h, ap (λ (ss : List StateOf). length ss) m, length-append (map state_of vs) (state_of v ∷ []), long) in
    subst (λ (ss : List StateOf). IsState product k x q (get_or ss q no_state)) (sym m)
    (elim (next_or q n h') [
      | inl b ↦
          let b' : q < length (map state_of vs) = omega (arith, b, long) in
          subst (λ (s : StateOf). IsState product k x q s) (sym (get_or-front (map state_of vs) (state_of v ∷ []) q no_state b')) (old q b' k)
      | inr f ↦
          let g : q ≡ length (map state_of vs) = f ∙ sym long in
          let at : get_or (map state_of vs ++ state_of v ∷ []) q no_state ≡ state_of v = ap (λ (i : ℕ). get_or (map state_of vs ++ state_of v ∷ []) i no_state) g ∙ at_end (map state_of vs) (state_of v) no_state in
          subst (λ (s : StateOf). IsState product k x q s) (sym at) (subst (λ (i : ℕ). IsState product k x i (state_of v)) (sym f) (new k))
    ])

-- the first trees are noted

pub listed_skip : (x : ListsOf) (n : ℕ) (pairs : List (ℕ × ℕ)) → length (list_of x n) ≡ 0 → AreSomeListed x n pairs → AreSomeListed x (n + 1) pairs
listed_skip x n pairs e l = record {
  to = λ q j h i. elim (next_or q n h) [
    | inl b ↦ l.to q j b i
    | inr f ↦ absurd (let z = subst (λ (p : ℕ). j < length (list_of x p)) f i in omega (arith, z, e))
  ];
  from = l.from;
}

pub listed_next : (product : ℕ → ℕ → ℕ) (x : ListsOf) → AreFirsts product x → (n : ℕ) (pairs now : List (ℕ × ℕ)) → 0 < length (list_of x n) → IsNoted pairs (n, (entry_at x n 0).tree) now → AreSomeListed x n pairs → AreSomeListed x (n + 1) now
listed_next product x firsts n pairs now some noted l = record {
  to = λ q j h i. elim (next_or q n h) [
    | inl b ↦ noted.to _ (l.to q j b i)
    | inr f ↦
        let z = subst (λ (p : ℕ). j < length (list_of x p)) f i in
        let zero_j : j ≡ 0 = omega (arith, z, firsts.few n) in
        subst (λ (p : ℕ). Has now (p, (entry_at x p j).tree)) (sym f) (subst (λ (k : ℕ). Has now (n, (entry_at x n k).tree)) (sym zero_j) noted.new)
  ];
  from = λ q m h. elim (noted.from (q, m) h) [
    | inl o ↦ l.from q m o
    | inr e ↦
        let qn : q ≡ n = ap (λ (p : ℕ × ℕ). p.0) e in
        let mt : (entry_at x n 0).tree ≡ m = sym (ap (λ (p : ℕ × ℕ). p.1) e) in
        (0, subst (λ (p : ℕ). 0 < length (list_of x p)) (sym qn) some, subst (λ (p : ℕ). (entry_at x p 0).tree ≡ m) (sym qn) mt)
  ];
}

pub listed_none : (x : ListsOf) (pairs : List (ℕ × ℕ)) → pairs ≡ [] → AreSomeListed x 0 pairs
listed_none x pairs e = record { to = λ q j l i. absurd (omega (arith, l)); from = λ q m h. absurd (subst (λ (ps : List (ℕ × ℕ)). Has ps (q, m)) e h) }

pub listed_all : (x : ListsOf) (n : ℕ) (pairs : List (ℕ × ℕ)) → n ≡ length x.lists → AreSomeListed x n pairs → AreListed x pairs
listed_all x n pairs e l = record { to = λ q j i. l.to q j (within q j i) i; from = l.from }
  where
    behind : (ls : List (List Entry)) (q j : ℕ) → j < length (get_or ls q []) → q < length ls
    behind [] q j i = absurd (omega (arith, i))
    behind (a ∷ ls) zero j i = omega arith
    behind (a ∷ ls) (suc q) j i = let b = behind ls q j i in omega (arith, b)

    within : (q j : ℕ) → j < length (list_of x q) → q < n
    within q j i = let b = behind x.lists q j i in omega (arith, b, e)

-- each state below a rule has its first tree

-- where each state has an entry, ranks of 0 name entries
pub ranks_zero : (entries : Entries) (qs : List ℕ) → ((k : ℕ) → k < length qs → 0 < length (entries (get_or qs k 0))) → AreRanks entries qs (zeros qs)
ranks_zero entries [] h = tt
ranks_zero entries (q ∷ qs) h = (h 0 (omega arith), ranks_zero entries qs (λ k l. h (suc k) (omega arith)))

started_of : (x : ListsOf) → AreTrimmed x → AreStarted x
started_of x t n h = ranks_zero (entries_of x) (states_of (rule_at x.rules n)) (λ k l.
    let q : ℕ = get_or (states_of (rule_at x.rules n)) k 0 in
    omega (arith, t n h k l, length-map (list_of x q) (told x.trees)))

pub asking_first :
    (product : ℕ → ℕ → ℕ) (x : ListsOf) → AreFirsts product x → AreTrimmed x → (a : AskingOf) → 0 < a.k → a.k < 2 ^ 32 → length a.states ≡ length x.lists → length a.by_state ≡ length x.lists → AreByState x.rules a.by_state → AreListed x a.listed →
    AreFirstStates product x a.states → IsAsking product x a
asking_first product x f t a some small long many by_state listed states = record {
  lists = record { sound = f.sound; made = f.made };
  started = started_of x t;
  fronts = f.fronts;
  few = λ q. omega (arith, f.few q, some);
  small = small;
  long = long;
  many = many;
  by_state = by_state;
  listed = listed;
  states = λ q l. inr (states q l a.k);
}
