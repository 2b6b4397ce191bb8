-- The text of a canonical transducer reads back as this transducer.
use Rattle.tib_cost.specs.declared.Scale.{Scale}
use Rattle.std.proofs.Common.{◌≡◌, ◌⊎◌, ℕ, ◌<◌, ◌≤◌, List, [], ◌∷◌, length, map, get_or, refl, ap, sym, ◌∙◌, subst, arith, inl, inr}
use Rattle.std.specs.declared.cmp.Ordering.{Ordering}
use Rattle.tib_lex.specs.Lists.{Has}
use Rattle.tib_lex.proofs.Lists.{has_mapped}
use Rattle.tib_lex.proofs.Members.{has_at, has_left, has_right, has_either}
use Rattle.tib_grammar.specs.StateName.{AreStateNames}
use Rattle.tib_grammar.proofs.Below.{below_has}
use Rattle.tib_inside.proofs.Chosen.{distinct_at}
use Rattle.tib_transducer.specs.Range.{IsWithin, AreWithin}
use Rattle.tib_transducer.specs.Rules.{states_in}
use Rattle.tib_transducer.specs.TransducerOf.{TransducerOf}
use Rattle.tib_transducer.specs.declared.TransducerRule.{TransducerRule}
use Rattle.tib_transducer_file.specs.ByName.{HasText, ReadsBack, states_of}
use Rattle.tib_transducer_file.specs.Printed.{transducer_text}
use Rattle.tib_transducer_file.proofs.FileBack.{prints_back}
use Rattle.tib_canon.proofs.StateNames.{length-names_of, are_state_names}
use Rattle.tib_key_edges.specs.Named.{named_transducer_rule}
use Rattle.tib_canon.specs.TransducerKeys.{IsCanonicalTransducer, AreMovesOver}
use Rattle.tib_canon.proofs.TransducerKeysOnce.{member_is}
use Rattle.tib_canon.proofs.Merged.{kept_shaped}
use Rattle.tib_canon.proofs.SeriesByName.{canonical_states}
use Rattle.tib_canon.proofs.TransducerNamed.{states_named}
use Rattle.tib_canon.proofs.TransducerOne.{kept_printable}
use Rattle.tib_canon.proofs.TransducerOverKeys.{moves_over, many_names}

-- a state is in a rule on the left or on the right
StandsIn : ℕ → TransducerRule ℕ → Type 0
StandsIn q r = (r.state ≡ q) ⊎ Has (states_in r.right) q

stood : (rules : List (TransducerRule ℕ)) (q : ℕ) → Has (states_of rules) q → (r : TransducerRule ℕ) × Has rules r × ((r.state ≡ q) ⊎ Has (states_in r.right) q)
stood [] q h = absurd h
stood (r ∷ rules) q (inl e) = (r, inl refl, inl e)
stood (r ∷ rules) q (inr h) = elim (has_either (states_in r.right) (states_of rules) q h) [
  | inl k ↦ (r, inl refl, inr k)
  | inr k ↦ let s = stood rules q k in (s.0, inr s.1, s.2)
]

pub stands : (rules : List (TransducerRule ℕ)) (q : ℕ) (r : TransducerRule ℕ) → Has rules r → (r.state ≡ q) ⊎ Has (states_in r.right) q → Has (states_of rules) q
stands [] q r h s = absurd h
stands (x ∷ rules) q r (inl e) (inl s) = inl (ap (λ (z : TransducerRule ℕ). z.state) e ∙ s)
stands (x ∷ rules) q r (inl e) (inr s) = inr (has_left (states_in x.right) (states_of rules) q (subst (λ (z : TransducerRule ℕ). Has (states_in z.right) q) (sym e) s))
stands (x ∷ rules) q r (inr h) s = inr (has_right (states_in x.right) (states_of rules) q (stands rules q r h s))

module _
    {K : Type 0} (cmp : K → K → Ordering) (scale : Scale) (labels : List (List ℕ)) (order : List K) (rules : List (TransducerRule ℕ)) (start : ℕ) (h : TransducerOf) (c : IsCanonicalTransducer scale labels cmp order rules start h)
    (all : (p : ℕ) → p < length order → (p ≡ start → ⊥) → Has (states_of rules) p) where
  abbrev over : TransducerOf
  over = c.over

  abbrev position : ℕ → ℕ
  position i = get_or c.is_over.states i 0

  one_state : (i j : ℕ) → i < length c.is_over.states → j < length c.is_over.states → position i ≡ position j → i ≡ j
  one_state i j k l e = distinct_at c.is_over.states i j 0 c.is_over.numbered.once k l e

  -- each state but the start is in a rule over the keys
  stands_over : (q : ℕ) → 0 < q → q < length order → (s : TransducerRule ℕ) × Has over.rules s × ((s.state ≡ q) ⊎ Has (states_in s.right) q)
  stands_over q some low =
      let o = c.is_over in
      let long : length o.states ≡ length order = o.by_keys.many in
      let within : q < length o.states = omega (arith, low, long) in
      let place : position q < length order = (o.by_keys.all (position q)).0 (has_at o.states q 0 within) in
      let first : position 0 ≡ start = ap (λ (qs : List ℕ). get_or qs 0 0) o.by_keys.first in
      let r = stood rules (position q) (all (position q) place (λ e. let zero_is : q ≡ 0 = one_state q 0 within (omega (arith, within)) (e ∙ sym first) in omega (arith, some, zero_is))) in
      let s = has_mapped (named_transducer_rule position) over.rules r.0 (subst (λ (rs : List (TransducerRule ℕ)). Has rs r.0) (sym o.numbered.named) r.1) in
      let low_s : IsWithin (length o.states) s.0 = member_is (IsWithin (length o.states)) over.rules o.numbered.in_range s.0 s.1 in (
        s.0,
        s.1,
        elim r.2 [
          | inl e ↦ inl (one_state s.0.state q low_s.0 within (ap (λ (z : TransducerRule ℕ). z.state) s.2 ∙ e))
          | inr k ↦
              let there : Has (map position (states_in s.0.right)) (position q) =
              subst (λ (xs : List ℕ). Has xs (position q)) (states_named position s.0.right) (subst (λ (z : TransducerRule ℕ). Has (states_in z.right) (position q)) (sym s.2) k) in
              let m = has_mapped position (states_in s.0.right) (position q) there in
              inr (subst (Has (states_in s.0.right)) (one_state m.0 q (below_has (length o.states) (states_in s.0.right) m.0 low_s.1 m.1) within m.2) m.1)
        ],
      )

  -- and in a rule of the canonical transducer
  stands_in_order : (q : ℕ) → 0 < q → q < length order → Has (states_of h.rules) q
  stands_in_order q some low =
      let s = stands_over q some low in
      let w = c.in_order.whole s.0 s.1 in
      stands h.rules q w.rule w.stands (elim s.2 [
        | inl e ↦ inl (w.agrees.state ∙ e)
        | inr k ↦ inr (subst (λ z. Has (states_in z) q) (sym w.agrees.right) k)
      ])

  module _ (few : length order ≤ 4294967296) (m : AreMovesOver scale labels (length order) rules) where
    many : length h.names ≡ length order
    many = ap length c.in_order.names ∙ length-names_of (length over.names) ∙ many_names cmp order start rules over c.is_over

    has_text : HasText scale labels h
    has_text =
        let moves = moves_over cmp order start rules over c.is_over scale labels m in
        let named = canonical_states cmp scale labels order rules start h c few m in
        record {
          start = named.start;
          names = subst AreStateNames (sym c.in_order.names) (are_state_names (length over.names) (omega (arith, few, many_names cmp order start rules over c.is_over)));
          range = named.within;
          shaped = kept_shaped over.rules h.rules c.in_order.kept moves.shaped;
          leaves = named.leaves;
          stand = λ q some low. stands_in_order q some (omega (arith, low, many));
          printable = kept_printable scale labels over.rules h.rules c.in_order.kept moves.printable;
        }

    pub transducer_read : (u : TransducerOf) × ReadsBack scale labels (transducer_text scale labels h) h u
    transducer_read = prints_back scale labels h has_text

-- the rules of a transducer that has a text are over its states
pub text_moves : (scale : Scale) (labels : List (List ℕ)) (t : TransducerOf) (n : ℕ) (rules : List (TransducerRule ℕ)) → HasText scale labels t → length t.names ≡ n → rules ≡ t.rules → AreMovesOver scale labels n rules
text_moves scale labels t n rules h long e =
    subst (AreMovesOver scale labels n) (sym e) (record { within = subst (λ m. AreWithin m t.rules) long h.range; shaped = h.shaped; leaves = h.leaves; printable = h.printable })
