-- Each grammar has a trimmed one: it is impossible that it has none.
use Rattle.std.proofs.Common.{◌≡◌, ◌⊎◌, ℕ, ◌<◌, List, [], ◌∷◌, ◌++◌, length, map, get_or, sym, subst, arith, zero, suc, inl, inr, refl}
use Rattle.std.proofs.lemmas.List.{get_or-map, length-map}
use Rattle.tib_lex.specs.Lists.{Has, Ascends}
use Rattle.tib_grammar.specs.Sides.{holes_of}
use Rattle.tib_grammar.specs.GrammarOf.{GrammarOf, named_rule}
use Rattle.tib_grammar.specs.Range.{IsInRange, AreInRange, SidesEndInHoles}
use Rattle.tib_grammar.specs.Run.{rule_at, no_rule}
use Rattle.tib_grammar.specs.declared.Rule.{Rule}
use Rattle.tib_inside.specs.Trimmed.{IsTrimmed}
use Rattle.tib_inside.specs.Useful.{IsLive, IsUseful}
use Rattle.tib_inside.specs.Useful as useful
use Rattle.tib_canon.proofs.Inhabited.{useful_below}
use Rattle.tib_canon.proofs.PlacesIn.{place_in, placed_in_range, placed_back, map_back}
use Rattle.tib_lex.proofs.Members.{has_at, has_left, has_right, has_either, each_more}
use Rattle.tib_lex.proofs.Booleans.{either_way}
use Rattle.tib_lex.proofs.Numbers.{same_or_other, below_suc_cases}

-- the numbers below n of which P holds, ascending
pub record AreThose (P : ℕ → Type 0) (n : ℕ) (those : List ℕ) : Type 0 where
  pub ascend : Ascends ◌<◌ those
  pub below : (q : ℕ) → Has those q → q < n
  pub hold : (q : ℕ) → Has those q → P q
  pub all : (q : ℕ) → q < n → P q → Has those q

ascends_more : (xs : List ℕ) (n : ℕ) → Ascends ◌<◌ xs → ((q : ℕ) → Has xs q → q < n) → Ascends ◌<◌ (xs ++ n ∷ [])
ascends_more [] n a b = (tt, tt)
ascends_more (x ∷ xs) n a b = (each_more (λ y. x < y) xs n a.0 (b x (inl refl)), ascends_more xs n a.1 (λ q h. b q (inr h)))

pub with_last : (P : ℕ → Type 0) (n : ℕ) (those : List ℕ) → AreThose P n those → P n → AreThose P (suc n) (those ++ n ∷ [])
with_last P n those t p = record {
  ascend = ascends_more those n t.ascend t.below;
  below = λ q h. below q (has_either those (n ∷ []) q h);
  hold = λ q h. hold q (has_either those (n ∷ []) q h);
  all = λ q h x. all q x (below_suc_cases q n h);
}
  where
    below : (q : ℕ) → Has those q ⊎ Has (n ∷ []) q → q < suc n
    below q (inl h) = omega (arith, t.below q h)
    below q (inr (inl e)) = omega (arith, e)
    below q (inr (inr a)) = absurd a

    hold : (q : ℕ) → Has those q ⊎ Has (n ∷ []) q → P q
    hold q (inl h) = t.hold q h
    hold q (inr (inl e)) = subst P e p
    hold q (inr (inr a)) = absurd a

    all : (q : ℕ) → P q → (q < n) ⊎ (q ≡ n) → Has (those ++ n ∷ []) q
    all q x (inl h) = has_left those (n ∷ []) q (t.all q h x)
    all q x (inr e) = has_right those (n ∷ []) q (inl (sym e))

pub without_last : (P : ℕ → Type 0) (n : ℕ) (those : List ℕ) → AreThose P n those → (P n → ⊥) → AreThose P (suc n) those
without_last P n those t never = record {
  ascend = t.ascend;
  below = λ q h. omega (arith, t.below q h);
  hold = t.hold;
  all = λ q h x. all q x (below_suc_cases q n h);
}
  where
    all : (q : ℕ) → P q → (q < n) ⊎ (q ≡ n) → Has those q
    all q x (inl h) = t.all q h x
    all q x (inr e) = absurd (never (subst P e x))

pub those_there : (P : ℕ → Type 0) (n : ℕ) → ((those : List ℕ) → AreThose P n those → ⊥) → ⊥
those_there P zero k = k [] (record { ascend = tt; below = λ q h. absurd h; hold = λ q h. absurd h; all = λ q h x. absurd (omega arith) })
those_there P (suc n) k =
    those_there P n (λ those t.
    either_way (P n) (λ d. elim d [
      | inl p ↦ k (those ++ n ∷ []) (with_last P n those t p)
      | inr never ↦ k those (without_last P n those t never)
    ]))

module _ (product : ℕ → ℕ → ℕ) (g : GrammarOf) (count : ℕ) (some : 0 < count) (range : AreInRange count g.rules) (leaves : SidesEndInHoles g.rules) where
  abbrev IsKeptState : ℕ → Type 0
  IsKeptState q = (q ≡ 0) ⊎ IsUseful product g.rules q

  abbrev IsKeptRule : ℕ → Type 0
  IsKeptRule n = IsLive product g.rules n × IsUseful product g.rules (rule_at g.rules n).left

  module _ (states positions : List ℕ) (s : AreThose IsKeptState count states) (p : AreThose IsKeptRule (length g.rules) positions) where
    state_stands : (q : ℕ) → IsKeptState q → Has states q
    state_stands q (inl e) = s.all q (omega (arith, e, some)) (inl e)
    state_stands q (inr u) = s.all q (useful_below product g.rules count some range q u) (inr u)

    left_stands : (n : ℕ) → Has positions n → Has states (rule_at g.rules n).left
    left_stands n h = state_stands (rule_at g.rules n).left (inr (p.hold n h).1)

    holes_stand : (n : ℕ) → Has positions n → (q : ℕ) → Has (holes_of (rule_at g.rules n).right) q → Has states q
    holes_stand n h q k = let both = p.hold n h in state_stands q (inr (useful.below n q both.1 both.0 k))

    abbrev placed : ℕ → Rule ℕ
    placed n = named_rule (place_in same_or_other states) (rule_at g.rules n)

    all_in_range : AreInRange (length states) (map placed positions)
    all_in_range m h =
        let within : m < length positions = omega (arith, h, length-map positions placed) in
        subst (IsInRange (length states)) (sym (get_or-map placed positions m 0 no_rule within))
        (let h = has_at positions m 0 within in
        placed_in_range same_or_other 0 states (rule_at g.rules (get_or positions m 0)) (left_stands (get_or positions m 0) h) (holes_stand (get_or positions m 0) h))

    trimmed_of : IsTrimmed product g (record { names = map (λ q. get_or g.names q []) states; rules = map placed positions })
    trimmed_of = record {
      states = states;
      states_ascend = s.ascend;
      are_states = λ q. (s.hold q, state_stands q);
      rules = positions;
      rules_ascend = p.ascend;
      are_rules = λ n. (p.hold n, λ both. p.all n both.0.below both);
      in_range = all_in_range;
      names = refl;
      named =
          map_back (named_rule (λ i. get_or states i 0)) placed (rule_at g.rules) positions (λ n h.
          placed_back same_or_other 0 states (rule_at g.rules n) (left_stands n h) (holes_stand n h) (leaves n (p.below n h)));
    }

  pub trimmed_there : ((t : GrammarOf) → IsTrimmed product g t → ⊥) → ⊥
  trimmed_there k =
      those_there IsKeptState count (λ states s.
      those_there IsKeptRule (length g.rules) (λ positions p.
      k (record { names = map (λ q. get_or g.names q []) states; rules = map (placed states positions s p) positions }) (trimmed_of states positions s p)))
