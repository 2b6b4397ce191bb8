-- What is listed while demands are met.
use Rattle.std.specs.Prelude.{◌≡◌, ◌⊎◌, ℕ, ◌+◌, ◌-◌, ◌<◌, ◌≤◌, Bool, List, [], ◌∷◌, ◌++◌, length, sum_by, take, drop, Result, Ok, Err, OnOk, refl}
use Rattle.std.proofs.Common.{suc, arith, ap, sym, ◌∙◌, subst, inl, inr, get_or, append_assoc, length-append}
use Rattle.std.proofs.Math.ListN.{set}
use Rattle.std.proofs.lemmas.List.{length-map}
use Rattle.std.proofs.lemmas.List.Sums.{sum_by-cons, sum_by_push, sum_by-set}
use Rattle.tib_lex.specs.Lists.{Has}
use Rattle.tib_lex.proofs.Lists.{append_nil}
use Rattle.tib_lex.proofs.Members.{has_left, has_right, has_either}
use Rattle.tib_cost.specs.Semiring.{ProductLaws}
use Rattle.tib_tree.specs.Trees.{Tree, size}
use Rattle.tib_grammar.specs.declared.Rule.{Rule}
use Rattle.tib_ranked_trees.specs.Best.{Costed, IsFrontAt, IsKBest}
use Rattle.tib_ranked_trees.specs.Lazy.{IsWhole}
use Rattle.tib_ranked_trees.specs.Levels.{states_at, IsOrderly}
use Rattle.tib_ranked_trees.specs.Pass.{entry_at, no_entry, HasTree}
use Rattle.tib_ranked_trees.proofs.Children.{below_at, states_below}
use Rattle.tib_ranked_trees.proofs.Going.{grow}
use Rattle.tib_ranked_trees.proofs.Growing.{ranks_from_kept}
use Rattle.tib_ranked_trees.proofs.Keeping.{get_or-front}
use Rattle.tib_ranked_trees.specs.ListsOf.{ListsOf}
use Rattle.tib_ranked_trees.specs.Held.{list_of, told, entries_of, below_of, candidate_at, no_candidate, ranks_from, ranks_of, tree_by, IsSound, IsTuple}
use Rattle.tib_ranked_trees.specs.declared.lists.Entry.{Entry}
use Rattle.tib_ranked_trees.specs.declared.lists.Candidate.{Candidate}
use Rattle.tib_lazy_lists.specs.declared.asking.Stage.{Stage}
use Rattle.tib_lazy_lists.specs.declared.asking.Stage.TheVariants.{Closed, Open, Whole}
use Rattle.tib_lazy_lists.specs.declared.demanding.Demand.{Demand}
use Rattle.tib_lazy_lists.specs.Firsts.{AreFirsts}
use Rattle.tib_lazy_lists.specs.Offers.{AreMoreCandidates}
use Rattle.tib_lazy_lists.specs.AskingOf.{StateOf, AskingOf, no_state, state_at}
use Rattle.tib_lazy_lists.specs.Asks.{AreAnswered, IsAnswered, IsAsking, IsAtStage, IsTaking, StaysGrammar}
use Rattle.tib_lazy_lists.specs.Stacks.{IsDone}
use Rattle.tib_lazy_lists.specs.Demands.{demand_below, entries_held, nodes_of, nodes_at, last_of, rounds_left, rounds_at, AreLastListed, AreLed, AreUnmet, HasMoreRanks, HoldsBelow, IsMet, IsUnmet, IsOneMore, IsPlaced, IsRound, IsUnderway, IsWithin}
use Rattle.tib_lazy_lists.proofs.Kept.{below_or, same_or, more_keeps, more_with}
use Rattle.tib_lazy_lists.proofs.Placed.{kept_of}
use Rattle.tib_lazy_lists.proofs.Falls.{has_taken}
use Rattle.tib_lazy_lists.proofs.Led.{led_fewer, led_last}
use Rattle.tib_lazy_lists.proofs.Followed.{ranks_read}
use Rattle.tib_lazy_lists.proofs.Listed.{size_is}

long_entries : (x : ListsOf) (q : ℕ) → length (entries_of x q) ≡ length (list_of x q)
long_entries x q = length-map (list_of x q) (told x.trees)

-- the last of a list to which one was put
last_put : (ys : List Costed) (y : Costed) → last_of (ys ++ y ∷ []) ≡ y
last_put ys y =
    let e : length (ys ++ y ∷ []) - 1 ≡ length ys = omega (arith, length-append ys (y ∷ [])) in
    ap (λ (n : ℕ). get_or (ys ++ y ∷ []) n no_entry) e ∙ at_end ys
  where
    at_end : (zs : List Costed) → get_or (zs ++ y ∷ []) (length zs) no_entry ≡ y
    at_end [] = refl
    at_end (z ∷ zs) = at_end zs

-- the one of a list of one
one_is : (ys : List Costed) (z : Costed) → length ys ≤ 1 → Has ys z → last_of ys ≡ z
one_is [] z l h = absurd h
one_is (y ∷ []) z l (inl e) = e
one_is (y ∷ []) z l (inr bad) = absurd bad
one_is (y ∷ w ∷ ys) z l h = absurd (omega arith)

some_has : (ys : List Costed) (z : Costed) → Has ys z → 0 < length ys
some_has [] z h = absurd h
some_has (y ∷ ys) z h = omega arith

nodes_one : (ys : List Costed) → 0 < length ys → length ys ≤ 1 → nodes_of ys ≡ size (get_or ys 0 no_entry).0
nodes_one [] s l = absurd (omega arith)
nodes_one (y ∷ []) s l = omega (arith, sum_by-cons (λ (w : Costed). size w.0) y [])
nodes_one (y ∷ w ∷ ys) s l = absurd (omega arith)

-- what each state took last, where its list and what it keeps stay
listed_stays :
    (x y : ListsOf) (a b : AskingOf) → ((more : List Candidate) × (y.candidates ≡ x.candidates ++ more)) → AreLastListed x a → (q : ℕ) → q < length a.states → state_at b q ≡ state_at a q → entries_of y q ≡ entries_of x q →
    (((state_at a q).stage ≡ Whole → ⊥) → (state_at a q).last < length x.candidates) → ((state_at b q).stage ≡ Whole → ⊥) → (candidate_at y (state_at b q).last).size ≡ size (last_of (entries_of y q)).0
listed_stays x y a b c l q h s e low n =
    let left : (state_at a q).stage ≡ Whole → ⊥ = λ w. n (ap (λ (t : StateOf). t.stage) s ∙ w) in
    let f : candidate_at y (state_at a q).last ≡ candidate_at x (state_at a q).last =
    ap (λ (cs : List Candidate). get_or cs (state_at a q).last no_candidate) c.1 ∙ get_or-front x.candidates c.0 (state_at a q).last no_candidate (low left)
    in
    ap (λ (t : StateOf). (candidate_at y t.last).size) s ∙ ap (λ (d : Candidate). d.size) f ∙ l q h left ∙ ap (λ (es : List Costed). size (last_of es).0) (sym e)

-- a state that draws
module _ (product : ℕ → ℕ → ℕ) (x : ListsOf) (a : AskingOf) (k : IsAsking product x a) (listed : AreLastListed x a) (d : Demand) (unmet : IsUnmet x a d) (y : ListsOf) (b : AskingOf) (more : AreMoreCandidates x y)
    (long : length b.states ≡ length a.states) (others : (q : ℕ) → (q ≡ d.state → ⊥) → state_at b q ≡ state_at a q) where
  low : (q : ℕ) → q < length a.states → ((state_at a q).stage ≡ Whole → ⊥) → (state_at a q).last < length x.candidates
  low q h n = (has_taken product a.k x q (state_at a q) (kept_of product x a k q h) n).last

  entries_same : (q : ℕ) → entries_of y q ≡ entries_of x q
  entries_same q = more_keeps x y more (λ z. entries_of z q ≡ entries_of x q) refl

  rules_same : y.rules ≡ x.rules
  rules_same = more_keeps x y more (λ z. z.rules ≡ x.rules) refl

  held_same : entries_held y ≡ entries_held x
  held_same = more_keeps x y more (λ z. entries_held z ≡ entries_held x) refl

  -- and finds none
  module _ (whole : (state_at b d.state).stage ≡ Whole) where
    pub none_more : IsOneMore x a d y b
    none_more = record {
      others = λ q n. entries_same q;
      here = inl (entries_same d.state);
      held = omega (arith, held_same);
      whole = λ q w. elim (same_or q d.state) [
        | inl e ↦ subst (λ (p : ℕ). (state_at b p).stage ≡ Whole) (sym e) whole
        | inr n ↦ ap (λ (t : StateOf). t.stage) (others q n) ∙ w
      ];
      states = others;
      stays = λ e. inl whole;
      more = record { rules = rules_same; candidates = more.candidates; ranks = more.ranks };
      met = inr (inl whole);
    }

    pub none_listed : AreLastListed y b
    none_listed q h n =
        elim (same_or q d.state) [
          | inl e ↦ absurd (n (subst (λ (p : ℕ). (state_at b p).stage ≡ Whole) (sym e) whole))
          | inr o ↦ let l : q < length a.states = omega (arith, h, long) in listed_stays x y a b more.candidates listed q l (others q o) (entries_same q) (low q l) n
        ]

  -- and takes a candidate, whose tree is placed
  module _ {levelled weighted : Bool} (laws : ProductLaws levelled weighted product) (orderly : IsOrderly product y.rules) (m : ℕ) (taking : IsTaking product y b d.state m) (z : ListsOf) (c : AskingOf) (placed : IsPlaced y d.state m z)
      (states : c.states ≡ b.states) where
    abbrev tree : Tree ℕ
    tree = tree_by y (candidate_at y m).rule (ranks_of y (candidate_at y m))

    abbrev new : Costed
    new = (tree, placed.entry.cost)

    state_same : (q : ℕ) → state_at c q ≡ state_at b q
    state_same q = ap (λ (ss : List StateOf). get_or ss q no_state) states

    other_same : (q : ℕ) → (q ≡ d.state → ⊥) → entries_of z q ≡ entries_of x q
    other_same q n = placed.others q n ∙ entries_same q

    here_more : entries_of z d.state ≡ entries_of x d.state ++ new ∷ []
    here_more = placed.here ∙ ap (λ (es : List Costed). es ++ new ∷ []) (entries_same d.state)

    held_more : entries_held z ≡ entries_held x + 1
    held_more =
        let e : entries_held z ≡ sum_by (λ (es : List Entry). length es) (set y.lists d.state (list_of y d.state ++ placed.entry ∷ [])) = ap (λ (ls : List (List Entry)). sum_by (λ (es : List Entry). length es) ls) placed.lists in
        omega (
          arith,
          e,
          held_same,
          sum_by-set (λ (es : List Entry). length es) y.lists d.state (list_of y d.state ++ placed.entry ∷ []) [] (omega (arith, unmet.state, long, taking.others.long)),
          length-append (list_of y d.state) (placed.entry ∷ []),
        )

    met_here : IsMet z c d
    met_here =
        inl (omega (arith, unmet.many, long_entries x d.state, long_entries z d.state, ap (λ (es : List Costed). length es) here_more, length-append (entries_of x d.state) (new ∷ [])))

    pub one_more : IsOneMore x a d z c
    one_more = record {
      others = other_same;
      here = inr (omega (arith, unmet.many), (new, here_more));
      held = omega (arith, held_more);
      whole = λ q w. elim (same_or q d.state) [
        | inl e ↦ absurd (unmet.left (subst (λ (p : ℕ). (state_at a p).stage ≡ Whole) e w))
        | inr n ↦ ap (λ (t : StateOf). t.stage) (state_same q ∙ others q n) ∙ w
      ];
      states = λ q n. state_same q ∙ others q n;
      stays = λ e. absurd (omega (
        arith,
        ap (λ (es : List Costed). length es) e,
        ap (λ (es : List Costed). length es) here_more,
        length-append (entries_of x d.state) (new ∷ []),
      ));
      more = record {
        rules = placed.rules ∙ rules_same;
        candidates = (more.candidates.0, placed.candidates ∙ more.candidates.1);
        ranks = (more.ranks.0, placed.ranks ∙ more.ranks.1);
      };
      met = met_here;
    }

    listed_here : (candidate_at z (state_at c d.state).last).size ≡ size (last_of (entries_of z d.state)).0
    listed_here =
        ap (λ (t : StateOf). (candidate_at z t.last).size) (state_same d.state) ∙ ap (λ (n : ℕ). (candidate_at z n).size) taking.drawn.1
        ∙ ap (λ (cs : List Candidate). (get_or cs m no_candidate).size) placed.candidates ∙ size_is laws y orderly b d.state m taking
        ∙ ap (λ (w : Costed). size w.0) (sym (last_put (entries_of x d.state) new)) ∙ ap (λ (es : List Costed). size (last_of es).0) (sym here_more)

    pub one_listed : AreLastListed z c
    one_listed q h n =
        elim (same_or q d.state) [
          | inl e ↦ subst (λ (p : ℕ). (candidate_at z (state_at c p).last).size ≡ size (last_of (entries_of z p)).0) (sym e) listed_here
          | inr o ↦
              let l : q < length a.states = omega (arith, h, long, ap (λ (ss : List StateOf). length ss) states) in
              listed_stays x z a c (more.candidates.0, placed.candidates ∙ more.candidates.1) listed q l (state_same q ∙ others q o) (other_same q o) (low q l) n
        ]

-- a demand that is met is answered
met_answered :
    (product : ℕ → ℕ → ℕ) (y : ListsOf) (b : AskingOf) → IsAsking product y b → (d : Demand) (j : ℕ) → d.state < length b.states → d.many ≡ j + 1 → IsMet y b d →
    IsAnswered product b.k y d.state j
met_answered product y b k d j low e (inl h) = inl (omega (arith, h, e))
met_answered product y b k d j low e (inr (inl h)) = inr (inl (subst (λ (g : Stage). IsAtStage product b.k y d.state (state_at b d.state) g) h (kept_of product y b k d.state low)))
met_answered product y b k d j low e (inr (inr h)) = inr (inr h)

abbrev below_by : List ℕ → List ℕ → ℕ → Demand
below_by qs js i = record { state = get_or qs i 0; many = get_or js i 0 + 1 }

-- the ranks of a candidate stay
ranks_stay : (x y : ListsOf) → IsSound x → HasMoreRanks x y → (c : Candidate) → IsTuple x c.rule (ranks_of x c) → ranks_of y c ≡ ranks_of x c
ranks_stay x y s m c t =
    ap (λ (rs : List (Rule ℕ)). take (length (states_at rs c.rule)) (drop c.start y.ranks)) m.rules
    ∙ ranks_from_kept x s x.trees x.lists y.candidates y.ranks (more_with x y.candidates y.ranks m.candidates m.ranks) c.rule c.start t

-- entries of all states, one after another

no_more_ranks : (x : ListsOf) → HasMoreRanks x x
no_more_ranks x = record { rules = refl; candidates = ([], sym (append_nil x.candidates)); ranks = ([], sym (append_nil x.ranks)) }

more_ranks : (x y z : ListsOf) → HasMoreRanks x y → HasMoreRanks y z → HasMoreRanks x z
more_ranks x y z m n = record {
  rules = n.rules ∙ m.rules;
  candidates = (m.candidates.0 ++ n.candidates.0, n.candidates.1 ∙ ap (λ (cs : List Candidate). cs ++ n.candidates.0) m.candidates.1 ∙ append_assoc x.candidates m.candidates.0 n.candidates.0);
  ranks = (m.ranks.0 ++ n.ranks.0, n.ranks.1 ∙ ap (λ (js : List ℕ). js ++ n.ranks.0) m.ranks.1 ∙ append_assoc x.ranks m.ranks.0 n.ranks.0);
}

module _ (x : ListsOf) (a : AskingOf) (first : Demand) where
  pub underway_first : (order : List Demand) → AreUnmet x a order → length order ≤ nodes_at x first → AreLed (IsMet x a) x a order → Has order first → IsUnderway x a first x a order
  underway_first order u l led h = record {
    unmet = u;
    grows = λ q. omega arith;
    held = omega (arith, l);
    stays = λ q e n. refl;
    more = no_more_ranks x;
    led = led;
    here = inl refl;
    met = inl h;
  }

  module _ (y : ListsOf) (b : AskingOf) (old left : List Demand) (d : Demand) (e : old ≡ left ++ d ∷ []) (w : IsUnderway x a first y b old) where
    this_unmet : IsUnmet x a d
    this_unmet = w.unmet d (subst (λ (ds : List Demand). Has ds d) (sym e) (has_right left (d ∷ []) d (inl refl)))

    pub this_state : d.state < length a.states
    this_state = this_unmet.state

    pub this_many : d.many ≤ length (list_of y d.state)
    this_many = omega (arith, this_unmet.many, w.grows d.state)

    -- the demands below it are met
    below_met : HoldsBelow (IsMet y b) x a d
    below_met = led_last (IsMet y b) x a left d (subst (λ (ds : List Demand). AreLed (IsMet y b) x a ds) e w.led)

    pub this_answered :
        (product : ℕ → ℕ → ℕ) → IsAsking product x a → IsAsking product y b → IsUnmet y b d →
        AreAnswered product b.k y (candidate_at y (state_at b d.state).last) (length (below_of y (candidate_at y (state_at b d.state).last)))
    this_answered product before now u =
        let long : length (list_of y d.state) ≡ length (list_of x d.state) = omega (arith, u.many, this_unmet.many) in
        let same : state_at b d.state ≡ state_at a d.state = w.stays d.state long u.left in
        let m : ℕ = (state_at a d.state).last in
        let c : Candidate = candidate_at x m in
        let t = has_taken product a.k x d.state (state_at a d.state) (kept_of product x a before d.state this_unmet.state) this_unmet.left in
        let is : candidate_at y (state_at b d.state).last ≡ c =
        ap (λ (s : StateOf). candidate_at y s.last) same ∙ ap (λ (cs : List Candidate). get_or cs m no_candidate) w.more.candidates.1 ∙ get_or-front x.candidates w.more.candidates.0 m no_candidate t.last
        in
        let js : ranks_of y c ≡ ranks_of x c = ranks_stay x y before.lists.sound w.more c (before.lists.made m t.last).is.tuple in
        subst (λ (v : Candidate). AreAnswered product b.k y v (length (below_of y v))) (sym is)
        (λ i h.
        let g : i < length (states_at x.rules c.rule) = subst (λ (rs : List (Rule ℕ)). i < length (states_at rs c.rule)) w.more.rules h in
        let rule : c.rule < length y.rules = omega (arith, (before.lists.made m t.last).is.tuple.rule, ap (λ (rs : List (Rule ℕ)). length rs) w.more.rules) in
        let low : get_or (states_at y.rules c.rule) i 0 < length b.states =
        omega (arith, below_at (length y.lists) (states_at y.rules c.rule) (states_below y now.lists.sound c.rule rule) i h, now.long)
        in
        let f : demand_below x c.rule (ranks_of x c) i ≡ demand_below y c.rule (ranks_of y c) i =
        ap (λ (rs : List (Rule ℕ)). below_by (states_at rs c.rule) (ranks_of x c) i) (sym w.more.rules) ∙ ap (λ (ks : List ℕ). below_by (states_at y.rules c.rule) ks i) (sym js)
        in
        met_answered product y b now (demand_below y c.rule (ranks_of y c) i) (get_or (ranks_of y c) i 0) low refl
        (subst (IsMet y b) f (below_met i g)))

    module _ (z : ListsOf) (c : AskingOf) (k : c.k ≡ b.k) (m : IsOneMore y b d z c) where
      grows_on : (q : ℕ) → length (list_of y q) ≤ length (list_of z q)
      grows_on q =
          elim (same_or q d.state) [
            | inr n ↦ omega (arith, long_entries y q, long_entries z q, ap (λ (es : List Costed). length es) (m.others q n))
            | inl s ↦ subst (λ (p : ℕ). length (list_of y p) ≤ length (list_of z p)) (sym s)
                (elim m.here [
                  | inl f ↦ omega (arith, long_entries y d.state, long_entries z d.state, ap (λ (es : List Costed). length es) f)
                  | inr f ↦
                      omega (arith, long_entries y d.state, long_entries z d.state, ap (λ (es : List Costed). length es) f.1.1, length-append (entries_of y d.state) (f.1.0 ∷ []))
                ])
          ]

      met_on : IsMet y b first → IsMet z c first
      met_on (inl h) = inl (omega (arith, h, grows_on first.state))
      met_on (inr (inl h)) = inr (inl (m.whole first.state h))
      met_on (inr (inr h)) = inr (inr (omega (arith, h, k, grows_on first.state)))

      here_at : (first.state ≡ d.state) → (entries_of z first.state ≡ entries_of x first.state) ⊎ ((e : Costed) × (entries_of z first.state ≡ entries_of x first.state ++ e ∷ []))
      here_at s =
          elim m.here [
            | inl f ↦ let g : entries_of z first.state ≡ entries_of y first.state = subst (λ (p : ℕ). entries_of z p ≡ entries_of y p) (sym s) f in
                elim w.here [ inl h ↦ inl (g ∙ h) | inr h ↦ inr (h.0, g ∙ h.1) ]
            | inr f ↦
                let g : entries_of z first.state ≡ entries_of y first.state ++ f.1.0 ∷ [] = subst (λ (p : ℕ). entries_of z p ≡ entries_of y p ++ f.1.0 ∷ []) (sym s) f.1.1 in
                elim w.here [
                  | inl h ↦ inr (f.1.0, g ∙ ap (λ (es : List Costed). es ++ f.1.0 ∷ []) h)
                  | inr h ↦
                      let l : length (list_of y first.state) ≤ d.many = subst (λ (p : ℕ). length (list_of y p) ≤ d.many) (sym s) f.0 in
                      let v : length (list_of x first.state) ≡ d.many = subst (λ (p : ℕ). length (list_of x p) ≡ d.many) (sym s) this_unmet.many in
                      absurd (omega (arith, l, v, long_entries x first.state, long_entries y first.state, ap (λ (es : List Costed). length es) h.1, length-append (entries_of x first.state) (h.0 ∷ [])))
                ]
          ]

      here_on : (entries_of z first.state ≡ entries_of x first.state) ⊎ ((e : Costed) × (entries_of z first.state ≡ entries_of x first.state ++ e ∷ []))
      here_on =
          elim (same_or first.state d.state) [
            | inl s ↦ here_at s
            | inr n ↦ let g = m.others first.state n in elim w.here [ inl h ↦ inl (g ∙ h) | inr h ↦ inr (h.0, g ∙ h.1) ]
          ]

      met_too : (f : Demand) → IsMet y b f → IsMet z c f
      met_too f (inl h) = inl (omega (arith, h, grows_on f.state))
      met_too f (inr (inl h)) = inr (inl (m.whole f.state h))
      met_too f (inr (inr h)) = inr (inr (omega (arith, h, k, grows_on f.state)))

      stays_on : (q : ℕ) → length (list_of z q) ≡ length (list_of x q) → ((state_at c q).stage ≡ Whole → ⊥) → state_at c q ≡ state_at a q
      stays_on q l n =
          let long : length (list_of y q) ≡ length (list_of x q) = omega (arith, l, w.grows q, grows_on q) in
          let same : state_at c q ≡ state_at b q = here_same q (same_or q d.state) (omega (arith, l, long)) n in
          same ∙ w.stays q long (λ f. n (ap (λ (t : StateOf). t.stage) same ∙ f))
        where
          here_same : (q : ℕ) → (q ≡ d.state) ⊎ (q ≡ d.state → ⊥) → length (list_of z q) ≡ length (list_of y q) → ((state_at c q).stage ≡ Whole → ⊥) → state_at c q ≡ state_at b q
          here_same q (inr o) g n = m.states q o
          here_same q (inl s) g n =
              subst (λ (p : ℕ). length (list_of z p) ≡ length (list_of y p) → ((state_at c p).stage ≡ Whole → ⊥) → state_at c p ≡ state_at b p) (sym s) at_here g n
            where
              at_here : length (list_of z d.state) ≡ length (list_of y d.state) → ((state_at c d.state).stage ≡ Whole → ⊥) → state_at c d.state ≡ state_at b d.state
              at_here g n = elim m.here [
                | inl f ↦ elim (m.stays f) [ inl bad ↦ absurd (n bad) | inr s ↦ s ]
                | inr f ↦ absurd (omega (
                  arith,
                  g,
                  long_entries y d.state,
                  long_entries z d.state,
                  ap (λ (es : List Costed). length es) f.1.1,
                  length-append (entries_of y d.state) (f.1.0 ∷ []),
                ))
              ]

      -- one demand fewer is left
      pub underway_next : IsUnderway x a first z c left
      underway_next = record {
        stays = stays_on;
        more = more_ranks x y z w.more m.more;
        led = led_fewer (IsMet y b) (IsMet z c) x a left d met_too m.met (subst (λ (ds : List Demand). AreLed (IsMet y b) x a ds) e w.led);
        unmet = λ f h. w.unmet f (subst (λ (ds : List Demand). Has ds f) (sym e) (has_left left (d ∷ []) f h));
        grows = λ q. omega (arith, w.grows q, grows_on q);
        held = omega (arith, w.held, m.held, ap (λ (ds : List Demand). length ds) e, length-append left (d ∷ []));
        here = here_on;
        met = elim w.met [
          | inr h ↦ inr (met_on h)
          | inl h ↦ elim (has_either left (d ∷ []) first (subst (λ (ds : List Demand). Has ds first) e h)) [
            | inl g ↦ inl g
            | inr g ↦ elim g [ inl f ↦ inr (subst (λ (v : Demand). IsMet z c v) f m.met) | inr bad ↦ absurd bad ]
          ]
        ];
      }

  pub underway_last : (y : ListsOf) (b : AskingOf) (left : List Demand) → left ≡ [] → IsUnderway x a first y b left → IsRound x first y b
  underway_last y b left e w = record {
    held = omega (arith, w.held);
    here = w.here;
    met = elim w.met [ inl h ↦ absurd (subst (λ (ds : List Demand). Has ds first) e h) | inr h ↦ h ];
  }

-- a demand that is met already
pub met_before : (x : ListsOf) (a : AskingOf) (d : Demand) → IsMet x a d → IsOneMore x a d x a
met_before x a d m = record {
  others = λ q n. refl;
  here = inl refl;
  held = omega arith;
  whole = λ q w. w;
  states = λ q n. refl;
  stays = λ e. inr refl;
  more = no_more_ranks x;
  met = m;
}

-- the bound, round by round

module _ (n : ℕ) (x y : ListsOf) (a b : AskingOf) (d : Demand) (start : d.state ≡ 0) (w : IsWithin n x a) (unmet : IsUnmet x a d) (r : IsRound x d y b) (k : b.k ≡ a.k) where
  spare : entries_held x + nodes_at x d ≤ n + nodes_of (entries_of x 0)
  spare = w.spare d start unmet

  here : (entries_of y 0 ≡ entries_of x 0) ⊎ ((e : Costed) × (entries_of y 0 ≡ entries_of x 0 ++ e ∷ []))
  here = subst (λ (q : ℕ). (entries_of y q ≡ entries_of x q) ⊎ ((e : Costed) × (entries_of y q ≡ entries_of x q ++ e ∷ []))) start r.here

  many : length (list_of x 0) ≡ d.many
  many = subst (λ (q : ℕ). length (list_of x q) ≡ d.many) start unmet.many

  free : length (list_of x 0) < a.k
  free = subst (λ (q : ℕ). length (list_of x q) < a.k) start unmet.free

  left : (state_at a 0).stage ≡ Whole → ⊥
  left e = unmet.left (subst (λ (q : ℕ). (state_at a q).stage ≡ Whole) (sym start) e)

  met : (d.many < length (list_of y 0)) ⊎ (((state_at b 0).stage ≡ Whole) ⊎ (b.k ≤ length (list_of y 0)))
  met = subst (λ (q : ℕ). (d.many < length (list_of y q)) ⊎ (((state_at b q).stage ≡ Whole) ⊎ (b.k ≤ length (list_of y q)))) start r.met

  same_long : entries_of y 0 ≡ entries_of x 0 → length (list_of y 0) ≡ length (list_of x 0)
  same_long f = omega (arith, long_entries x 0, long_entries y 0, ap (λ (es : List Costed). length es) f)

  more_long : (e : Costed) → entries_of y 0 ≡ entries_of x 0 ++ e ∷ [] → length (list_of y 0) ≡ length (list_of x 0) + 1
  more_long e f = omega (arith, long_entries x 0, long_entries y 0, ap (λ (es : List Costed). length es) f, length-append (entries_of x 0) (e ∷ []))

  -- if no entry was placed, the list is complete
  whole_then : entries_of y 0 ≡ entries_of x 0 → (state_at b 0).stage ≡ Whole
  whole_then f =
      elim met [
        | inl h ↦ absurd (omega (arith, h, many, same_long f))
        | inr h ↦ elim h [ inl g ↦ g | inr g ↦ absurd (omega (arith, g, k, free, same_long f)) ]
      ]

  nodes_then : (e : Costed) → entries_of y 0 ≡ entries_of x 0 ++ e ∷ [] → nodes_of (entries_of y 0) ≡ nodes_of (entries_of x 0) + size e.0
  nodes_then e f = ap nodes_of f ∙ sum_by_push (λ (v : Costed). size v.0) (entries_of x 0) e

  all_then : entries_held y ≤ n + nodes_of (entries_of y 0)
  all_then = elim here [
    | inl f ↦ omega (arith, spare, r.held, ap nodes_of f)
    | inr f ↦ omega (arith, spare, r.held, nodes_then f.0 f.1)
  ]

  last_then : (e : Costed) → entries_of y 0 ≡ entries_of x 0 ++ e ∷ [] → (f : Demand) → f.state ≡ 0 → IsUnmet y b f → nodes_at y f ≡ size e.0
  last_then e g f s u =
      let l : f.many - 1 ≡ length (entries_of y 0) - 1 = omega (arith, subst (λ (q : ℕ). length (list_of y q) ≡ f.many) s u.many, long_entries y 0) in
      ap (λ (q : ℕ). size (entry_at (entries_of y) q (f.many - 1)).0) s ∙ ap (λ (j : ℕ). size (entry_at (entries_of y) 0 j).0) l ∙ ap (λ (es : List Costed). size (last_of es).0) g ∙ ap (λ (v : Costed). size v.0) (last_put (entries_of x 0) e)

  pub within_next : IsWithin n y b
  within_next = record {
    all = all_then;
    spare = λ f s u. elim here [
      | inl g ↦ absurd (u.left (subst (λ (q : ℕ). (state_at b q).stage ≡ Whole) (sym s) (whole_then g)))
      | inr g ↦ omega (arith, spare, r.held, nodes_then g.0 g.1, last_then g.0 g.1 f s u)
    ];
  }

  pub rounds_fall : rounds_left y b < rounds_left x a
  rounds_fall = elim here [
    | inl f ↦ let e : rounds_left y b ≡ 0 = ap (λ (g : Stage). rounds_at g (b.k - length (list_of y 0))) (whole_then f) in omega (arith, e, some_rounds (state_at a 0).stage refl)
    | inr f ↦ omega (arith, some_rounds (state_at a 0).stage refl, most_rounds (state_at b 0).stage (b.k - length (list_of y 0)), more_long f.0 f.1, k, free)
  ]
    where
      some_rounds : (g : Stage) → (state_at a 0).stage ≡ g → rounds_left x a ≡ suc (a.k - length (list_of x 0))
      some_rounds Closed e = ap (λ (g : Stage). rounds_at g (a.k - length (list_of x 0))) e
      some_rounds Open e = ap (λ (g : Stage). rounds_at g (a.k - length (list_of x 0))) e
      some_rounds Whole e = absurd (left e)

      most_rounds : (g : Stage) (m : ℕ) → rounds_at g m ≤ suc m
      most_rounds Closed m = omega arith
      most_rounds Open m = omega arith
      most_rounds Whole m = omega arith

-- at the beginning

pub held_few : (ls : List (List Entry)) → ((q : ℕ) → length (get_or ls q []) ≤ 1) → sum_by (λ (es : List Entry). length es) ls ≤ length ls
held_few [] h = omega arith
held_few (es ∷ ls) h = omega (arith, sum_by-cons (λ (es : List Entry). length es) es ls, h 0, held_few ls (λ q. h (suc q)))

module _ (product : ℕ → ℕ → ℕ) (x : ListsOf) (firsts : AreFirsts product x) (a : AskingOf) (k : IsAsking product x a) where
  has_last : (q : ℕ) → q < length a.states → ((state_at a q).stage ≡ Whole → ⊥) → HasTree (entries_of x q) (tree_by x (candidate_at x (state_at a q).last).rule (ranks_of x (candidate_at x (state_at a q).last)))
  has_last q h n = let t = has_taken product a.k x q (state_at a q) (kept_of product x a k q h) n in t.placed _ _ t.stands

  pub listed_first : AreLastListed x a
  listed_first q h n =
      let t = has_taken product a.k x q (state_at a q) (kept_of product x a k q h) n in
      let l = has_last q h n in
      (k.lists.made (state_at a q).last t.last).is.size
      ∙ ap (λ (v : Costed). size v.0) (sym (one_is (entries_of x q) _ (omega (arith, firsts.few q, long_entries x q)) l.1))

  pub within_first : IsWithin (length x.lists) x a
  within_first = record {
    all = omega (arith, held_few x.lists firsts.few);
    spare = λ d s u.
        let i : 0 < length a.states = subst (λ (q : ℕ). q < length a.states) s u.state in
        let l = has_last 0 i (λ e. u.left (subst (λ (q : ℕ). (state_at a q).stage ≡ Whole) (sym s) e)) in
        let some : 0 < length (entries_of x 0) = some_has (entries_of x 0) _ l.1 in
        let few : length (entries_of x 0) ≤ 1 = omega (arith, firsts.few 0, long_entries x 0) in
        let e : d.many - 1 ≡ 0 = omega (arith, subst (λ (q : ℕ). length (list_of x q) ≡ d.many) s u.many, few, long_entries x 0) in
        let f : nodes_at x d ≡ size (entry_at (entries_of x) 0 0).0 = ap (λ (q : ℕ). size (entry_at (entries_of x) q (d.many - 1)).0) s ∙ ap (λ (j : ℕ). size (entry_at (entries_of x) 0 j).0) e in
        omega (arith, held_few x.lists firsts.few, f, nodes_one (entries_of x 0) some few);
  }

-- a start that is done has its best trees
pub start_best :
    (product : ℕ → ℕ → ℕ) (x y : ListsOf) (a : AskingOf) → IsAsking product y a → StaysGrammar x y → (k : ℕ) → k ≡ a.k → 0 < length a.states → IsDone y a 0 → IsKBest product x.rules x.labels k (entries_of y 0)
start_best product x y a i g k e some done =
    subst (λ (n : ℕ). IsKBest product x.rules x.labels n (entries_of y 0)) (sym e)
    (subst (λ (ls : List (List ℕ)). IsKBest product x.rules ls a.k (entries_of y 0)) g.labels (subst (λ (rs : List (Rule ℕ)). IsKBest product rs y.labels a.k (entries_of y 0)) g.rules best))
  where
    full : a.k ≤ length (list_of y 0) → IsKBest product y.rules y.labels a.k (entries_of y 0)
    full l = (grow product).first y.labels y.rules a.k (entries_of y 0) (i.fronts 0) (omega (arith, l, i.few 0, long_entries y 0))

    whole : (state_at a 0).stage ≡ Whole → IsWhole product y.rules (entries_of y) 0
    whole w = subst (λ (s : Stage). IsAtStage product a.k y 0 (state_at a 0) s) w (kept_of product y a i 0 some)

    best : IsKBest product y.rules y.labels a.k (entries_of y 0)
    best = elim done [
      | inl l ↦ full l
      | inr w ↦ elim (below_or (length (list_of y 0)) a.k) [
        | inl l ↦ (grow product).all y.labels y.rules a.k (entries_of y 0) (i.fronts 0) (omega (arith, l, long_entries y 0)) (whole w)
        | inr l ↦ full l
      ]
    ]

-- a demand on the start that is met is done
pub done_of : (x : ListsOf) (a : AskingOf) (n : ℕ) → n ≡ length (list_of x 0) → IsMet x a (record { state = 0; many = n }) → IsDone x a 0
done_of x a n e (inl h) = absurd (omega (arith, h, e))
done_of x a n e (inr (inl h)) = inr h
done_of x a n e (inr (inr h)) = inl h

-- what a state took last has as many nodes as its last entry
pub last_nodes :
    (product : ℕ → ℕ → ℕ) (x : ListsOf) (a : AskingOf) → IsAsking product x a → AreLastListed x a → (d : Demand) → IsUnmet x a d → (last : ℕ) → last ≡ (state_at a d.state).last → (b e : Candidate) →
    b ≡ candidate_at x last → e ≡ candidate_at x last → size (tree_by x b.rule (ranks_from x b.rule e.start)) ≡ nodes_at x d
last_nodes product x a i l d u last f b e g h =
    let c : Candidate = candidate_at x (state_at a d.state).last in
    let g1 : b ≡ c = g ∙ ap (candidate_at x) f in
    let h1 : e ≡ c = h ∙ ap (candidate_at x) f in
    let t = has_taken product a.k x d.state (state_at a d.state) (kept_of product x a i d.state u.state) u.left in
    let m : d.many - 1 ≡ length (entries_of x d.state) - 1 = omega (arith, u.many, long_entries x d.state) in
    ap (λ (js : List ℕ). size (tree_by x b.rule js)) (ranks_read x c b e g1 h1) ∙ ap (λ (v : Candidate). size (tree_by x v.rule (ranks_of x c))) g1 ∙ sym (i.lists.made (state_at a d.state).last t.last).is.size
    ∙ l d.state u.state u.left ∙ ap (λ (n : ℕ). size (get_or (entries_of x d.state) n no_entry).0) (sym m)

-- what follows from two facts if there is no error
pub on_both : {T E : Type 0} (r : Result T E) (P Q R : Type 0) → OnOk r P → OnOk r Q → (P → Q → R) → OnOk r R
on_both (Ok v) P Q R p q f = f p q
on_both (Err e) P Q R p q f = tt

-- each list is a front over the rules and labels with which all began
pub fronts_over : (product : ℕ → ℕ → ℕ) (x y : ListsOf) (a : AskingOf) → IsAsking product y a → StaysGrammar x y → (q : ℕ) → IsFrontAt product x.labels x.rules q (entries_of y q)
fronts_over product x y a i g q =
    subst (λ (ls : List (List ℕ)). IsFrontAt product ls x.rules q (entries_of y q)) g.labels (subst (λ (rs : List (Rule ℕ)). IsFrontAt product y.labels rs q (entries_of y q)) g.rules (i.fronts q))
