-- One state keeps something else.
use Rattle.std.specs.Prelude.{◌≡◌, Bool, ℕ, ◌+◌, ◌<◌, List, [], length, map, Option, None, Some, IfNone, refl}
use Rattle.std.proofs.Common.{arith, ap, sym, ◌∙◌, subst, inl, inr, get_or}
use Rattle.std.proofs.Math.ListN.{set, length-set}
use Rattle.std.proofs.lemmas.List.{length-map, map-set, get_or-set_same, get_or-set_other}
use Rattle.std.proofs.lemmas.List.Sums.{sum_by-set}
use Rattle.std.specs.Global.{Vec}
use Rattle.tib_lex.specs.Lists.{Has}
use Rattle.tib_cost.specs.Semiring.{ProductLaws}
use Rattle.tib_ranked_trees.specs.Best.{IsFrontAt}
use Rattle.tib_ranked_trees.specs.Lazy.{IsWhole}
use Rattle.tib_ranked_trees.specs.Levels.{IsOrderly}
use Rattle.tib_ranked_trees.specs.ListsOf.{ListsOf}
use Rattle.tib_ranked_trees.specs.Held.{list_of, entries_of, candidate_at, below_of, grown}
use Rattle.tib_ranked_trees.proofs.Children.{get_or-map}
use Rattle.tib_lazy_lists.specs.declared.asking.Asked.{Asked}
use Rattle.tib_lazy_lists.specs.declared.asking.Stage.TheVariants.{Whole}
use Rattle.tib_lazy_lists.specs.Offers.{room, AreSound, AreMoreCandidates}
use Rattle.tib_lazy_lists.specs.AskingOf.{StateOf, AskingOf, state_of, state_at, no_state, rules_of}
use Rattle.tib_lazy_lists.specs.Asks.{IsState, IsAtStage, IsAskingBut, IsAsking, IsAskedFor, IsDrawn, IsDrawnFrom, HasDrawn, CanTake, AreRulesOf, AreAnswered, StaysGrammar, IsListing, turns_of, turns_left, with_state}
use Rattle.tib_lazy_lists.proofs.Kept.{same_or, more_keeps}
use Rattle.tib_lazy_lists.proofs.States.{state_more}
use Rattle.tib_lazy_lists.proofs.Taken.{is_whole}

-- what all states keep after one of them drew, and grew nothing
drawn_more : (product : ℕ → ℕ → ℕ) (x y : ListsOf) (a : AskingOf) → IsAsking product x a → AreSound product y → AreMoreCandidates x y → (u : ℕ) → u < length a.states → (s : StateOf) → IsAskingBut product y (with_state a u s) u
drawn_more product x y a i sound m u inside s =
    more_keeps x y m (λ z. AreSound product z → IsAskingBut product z (with_state a u s) u)
    (λ z_sound. record {
      lists = z_sound;
      started = i.started;
      fronts = i.fronts;
      few = i.few;
      small = i.small;
      long = length-set a.states u s ∙ i.long;
      many = i.many;
      by_state = i.by_state;
      listed = record { to = i.listed.to; from = i.listed.from };
      states = λ q h. elim (same_or q u) [
        | inl e ↦ inl e
        | inr n ↦
            let l : q < length a.states = omega (arith, h, length-set a.states u s) in
            inr (subst (λ (t : StateOf). IsState product a.k (grown x x.trees x.lists y.candidates y.ranks) q t) (sym (get_or-set_other a.states u q s no_state n))
            (subst (λ (z : ListsOf). IsState product a.k z q (state_at a q)) m.same (state_more product a.k x y i.lists m q (state_at a q) (kept q l))))
      ];
    }) sound
  where
    kept : (q : ℕ) → q < length a.states → IsState product a.k x q (state_at a q)
    kept q l = elim (i.states q l) [ inl e ↦ absurd (omega (arith, e, l)) | inr k ↦ k ]

state_now : (a : AskingOf) (u : ℕ) (s : StateOf) → u < length a.states → state_at (with_state a u s) u ≡ s
state_now a u s h = get_or-set_same a.states u s no_state h

-- what a state keeps
pub kept_of : (product : ℕ → ℕ → ℕ) (x : ListsOf) (a : AskingOf) → IsAsking product x a → (q : ℕ) → q < length a.states → IsState product a.k x q (state_at a q)
kept_of product x a i q l = elim (i.states q l) [ inl e ↦ absurd (omega (arith, e, l)) | inr k ↦ k ]

pub rules_are : (product : ℕ → ℕ → ℕ) (x : ListsOf) (a : AskingOf) → IsAsking product x a → (u : ℕ) → AreRulesOf x.rules u (get_or a.by_state u [])
rules_are product x a i u = record {
  each = λ n h e. subst (λ (q : ℕ). Has (get_or a.by_state q []) n) e (i.by_state.each n h);
  only = λ n h. i.by_state.only u n h;
  once = i.by_state.once u;
}

-- after a draw
has_drawn :
    (product : ℕ → ℕ → ℕ) (x : ListsOf) (a : AskingOf) → IsAsking product x a → (u : ℕ) → u < length a.states → ((state_at a u).stage ≡ Whole → ⊥) → length (list_of x u) < a.k →
    AreAnswered product a.k x (candidate_at x (state_at a u).last) (length (below_of x (candidate_at x (state_at a u).last))) → (whole : (y : ListsOf) → AreMoreCandidates x y → AreSound product y → IsAskedFor product a.k y u [] → IsWhole product y.rules (entries_of y) u) →
    (y : ListsOf) (t : StateOf) (o : Option ℕ) → IsDrawn product x (get_or a.by_state u []) (state_at a u) y t o → HasDrawn product y (with_state a u t) u o
has_drawn product x a i u inside left free answered whole y t None d =
    let can : CanTake product a.k x u (get_or a.by_state u []) (state_at a u) = record { state = kept_of product x a i u inside; left = left; rules_of = rules_are product x a i u; answered = answered } in
    let from = d.drawn left in
    let asked = subst (λ (ms : List ℕ). IsAskedFor product a.k y u ms) from.0 (d.asked a.k u can) in
    let w = whole y d.more d.lists asked in
    let b = drawn_more product x y a i d.lists d.more u inside t in
    record {
      lists = b.lists;
      started = b.started;
      fronts = b.fronts;
      few = b.few;
      small = b.small;
      long = b.long;
      many = b.many;
      by_state = b.by_state;
      listed = b.listed;
      states = λ q h. inr (elim (b.states q h) [
        | inr k ↦ k
        | inl e ↦ subst (λ (p : ℕ). IsState product a.k y p (state_at (with_state a u t) p)) (sym e)
            (subst (λ (s : StateOf). IsState product a.k y u s) (sym (state_now a u t inside)) (subst (λ g. IsAtStage product a.k y u t g) (sym from.1) w))
      ]);
    }
has_drawn product x a i u inside left free answered whole y t (Some m) d =
    let can : CanTake product a.k x u (get_or a.by_state u []) (state_at a u) = record { state = kept_of product x a i u inside; left = left; rules_of = rules_are product x a i u; answered = answered } in
    record {
      others = drawn_more product x y a i d.lists d.more u inside t;
      inside = omega (arith, inside, length-set a.states u t);
      free = more_keeps x y d.more (λ z. length (list_of z u) < a.k) free;
      waited = d.waited;
      asked = d.asked a.k u can;
      drawn = subst (λ (s : StateOf). IsDrawnFrom y d.waited s (Some m)) (sym (state_now a u t inside)) (d.drawn left);
    }

pub drawn_all :
    {levelled weighted : Bool} {product : ℕ → ℕ → ℕ} → ProductLaws levelled weighted product → (x : ListsOf) (a : AskingOf) → IsAsking product x a → IsOrderly product x.rules → (u : ℕ) → u < length a.states → ((state_at a u).stage ≡ Whole → ⊥) →
    length (list_of x u) < a.k → AreAnswered product a.k x (candidate_at x (state_at a u).last) (length (below_of x (candidate_at x (state_at a u).last))) → (y : ListsOf) (t : StateOf) (o : Option ℕ) →
    IsDrawn product x (get_or a.by_state u []) (state_at a u) y t o → HasDrawn product y (with_state a u t) u o
drawn_all {product = product} laws x a i orderly u inside left free answered y t o d =
    has_drawn product x a i u inside left free answered
    (λ z m s asked.
    is_whole laws a.k z s (more_keeps x z m (λ w. IsOrderly product w.rules) orderly) (more_keeps x z m (λ w. (q : ℕ) → IsFrontAt product w.labels w.rules q (entries_of w q)) i.fronts) u
    (more_keeps x z m (λ w. length (list_of w u) < a.k) free) [] asked.below asked.taken asked.kept refl) y t o d

pub more_grammar : (x y : ListsOf) → AreMoreCandidates x y → StaysGrammar x y
more_grammar x y m = more_keeps x y m (λ z. StaysGrammar x z) (record { rules = refl; labels = refl; label_ranks = refl; states = refl })

-- a state that was borrowed and put back
pub put_state : (vs : List Asked) (u : ℕ) (d w : Asked) → map state_of (set vs u w) ≡ set (map state_of vs) u (state_of w)
put_state vs u d w = map-set state_of vs u w

pub state_read : (vs : List Asked) (u : ℕ) (d : Asked) → u < length (map state_of vs) → state_of (get_or vs u d) ≡ get_or (map state_of vs) u no_state
state_read vs u d h = sym (get_or-map state_of vs u d no_state (omega (arith, h, length-map vs state_of)))

pub rules_read : (vs : List (Vec ℕ)) (u : ℕ) (d : Vec ℕ) → u < length (map rules_of vs) → rules_of (get_or vs u d) ≡ get_or (map rules_of vs) u []
rules_read vs u d h = sym (get_or-map rules_of vs u d [] (omega (arith, h, length-map vs rules_of)))

-- one turn was taken
pub fewer_turns :
    (x : ListsOf) (a : AskingOf) (u : ℕ) → u < length a.states → (y : ListsOf) (t : StateOf) (states : List StateOf) → states ≡ set a.states u t → room y + turns_of t < room x + turns_of (state_at a u) →
    turns_left y (record a { states = states }) < turns_left x a
fewer_turns x a u inside y t states e less =
    subst (λ (ss : List StateOf). turns_left y (record a { states = ss }) < turns_left x a) (sym e) (omega (arith, less, sum_by-set turns_of a.states u t no_state inside))

-- a tree that is listed takes none
pub same_turns : (x : ListsOf) (u m : ℕ) (pairs : List (ℕ × ℕ)) (y : ListsOf) (now : List (ℕ × ℕ)) → IsListing x u m pairs y now → room y ≡ room x
same_turns x u m pairs y now l = elim l.how [ inl h ↦ ap room h.0 | inr h ↦ ap room h.0 ]

-- a state that found none is complete
pub whole_then : (y : ListsOf) (waited : List ℕ) (t s : StateOf) → s ≡ t → (o : Option ℕ) → IsDrawnFrom y waited t o → IfNone o (s.stage ≡ Whole)
whole_then y waited t s e None d = ap (λ (r : StateOf). r.stage) e ∙ d.1
whole_then y waited t s e (Some m) d = tt
