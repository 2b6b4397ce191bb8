-- How a weight is read.
use Rattle.tib_cost.specs.Semiring.{most}
use Rattle.std.proofs.Common.{◌≡◌, ℕ, ◌+◌, ◌-◌, ◌*◌, ◌<◌, ◌≤◌, List, [], ◌∷◌, length, get_or, drop, drop-cons, add-one, refl, ap, sym, ◌∙◌, arith, min, Option, Bool, true, false}
use Rattle.std.specs.Prelude.{Some, None, Result, Ok, Err, option_map, nat_lt, nat_le, ◌==◌, ◌&&◌, cond}
use Rattle.std.specs.List.{list_all}
use Rattle.std.proofs.lemmas.List.{drop_all}
use Rattle.std.proofs.lemmas.Bool.Decides.{nat_tests}
use Rattle.tib_cost.specs.Semiring.{cut}
use Rattle.tib_cost.specs.Scale.{is_weighted, cost_in}
use Rattle.tib_cost.specs.declared.Scale.{Scale}
use Rattle.tib_grammar_file.specs.Weight.{too_large, is_digit, is_zero_digit, whole_from, whole, small, cost_of}
use Rattle.tib_lex.specs.declared.fault.FaultKind.{FaultKind}
use Rattle.tib_lex.specs.declared.fault.FaultKind.TheVariants as kinds

pub record Value (text : List ℕ) (value at : ℕ) : Type 0 where
  pub sum : ℕ
  pub cut : value ≡ min sum too_large
  pub rest : whole_from sum (drop at text) ≡ whole text

first : (b : ℕ) (rest : List ℕ) (c : Bool) → c ≡ true → cond c (whole_from (10 * 0 + (b - 48)) rest) (cond (b == 46 && list_all is_zero_digit rest) (Some 0) None) ≡ cond c (whole_from (b - 48) rest) None
first b rest true e = ap (λ (n : ℕ). whole_from n rest) (omega arith)
first b rest false e = cc

pub value_starts : (text : List ℕ) → 0 < length text → is_digit (get_or text 0 0) ≡ true → Value text 0 0
value_starts [] h e = absurd (omega arith)
value_starts (b ∷ rest) h e = record { sum = 0; cut = omega arith; rest = first b rest (is_digit b) e }

digit_step : (s : ℕ) (text : List ℕ) (at : ℕ) → at < length text → is_digit (get_or text at 0) ≡ true → whole_from s (drop at text) ≡ whole_from (10 * s + (get_or text at 0 - 48)) (drop (at + 1) text)
digit_step s text at h e = rw (drop-cons text at 0, e, add-one) refl

pub value_goes : (text : List ℕ) (value next at : ℕ) → at < length text → is_digit (get_or text at 0) ≡ true → next ≡ min (10 * value + (get_or text at 0 - 48)) too_large → Value text value at → Value text next (at + 1)
value_goes text value next at h e n v = record {
  sum = 10 * v.sum + (get_or text at 0 - 48);
  cut = omega (arith, n, v.cut);
  rest = sym (digit_step v.sum text at h e) ∙ v.rest;
}

pub value_ends : (text : List ℕ) (value at : ℕ) → length text ≤ at → (v : Value text value at) → whole text ≡ Some v.sum
value_ends text value at h v = sym v.rest ∙ ap (whole_from v.sum) (drop_all at text h)

pub value_stops : (text : List ℕ) (value at : ℕ) → at < length text → is_digit (get_or text at 0) ≡ false → (v : Value text value at) → whole text ≡ cond (get_or text at 0 == 46 && list_all is_zero_digit (drop (at + 1) text)) (Some v.sum) None
value_stops text value at h e v = sym v.rest ∙ rw (drop-cons text at 0, e, add-one) refl

pub not_whole : (text : List ℕ) → 0 < length text → is_digit (get_or text 0 0) ≡ false → whole text ≡ None
not_whole [] h e = refl
not_whole (b ∷ rest) h e = rw e refl

pub cost_free : (w : Scale) (text : List ℕ) → is_weighted w ≡ false → Ok 0 ≡ cost_of w (Some text)
unfolding cost_of
cost_free w text e = rw e refl

weighed : (w : Scale) (text : List ℕ) (r : Result ℕ FaultKind) → is_weighted w ≡ true → r ≡ small w (whole text) → r ≡ cost_of w (Some text)
unfolding cost_of
weighed w text r e h = rw e h

none_small : (w : Scale) (o : Option ℕ) → None ≡ option_map (λ n. min n too_large) o → Err kinds.NotWhole ≡ small w o
none_small w None e = refl
none_small w (Some m) e = let bad : None ≡ Some (min m too_large) = e in cc

below : (n m : ℕ) → n ≡ min m too_large → n < too_large → nat_lt most m ≡ false
below n m e h = grind (arith, nat_tests)

above : (n m : ℕ) → n ≡ min m too_large → too_large ≤ n → nat_lt most m ≡ true
above n m e h = grind (arith, nat_tests)

some_small : (w : Scale) (n : ℕ) (o : Option ℕ) → Some n ≡ option_map (λ n. min n too_large) o → n < too_large → Ok (cost_in w n) ≡ small w o
some_small w n None e h = let bad : Some n ≡ None = e in cc
some_small w n (Some m) e h =
    let s : n ≡ min m too_large = cc in
    rw (below n m s h) (ap (λ k. Ok (cost_in w k)) (omega (arith, s)))

some_large : (w : Scale) (n : ℕ) (o : Option ℕ) → Some n ≡ option_map (λ n. min n too_large) o → too_large ≤ n → Err kinds.WeightTooLarge ≡ small w o
some_large w n None e h = let bad : Some n ≡ None = e in cc
some_large w n (Some m) e h =
    let s : n ≡ min m too_large = cc in
    rw (above n m s h) refl

pub cost_none : (w : Scale) (text : List ℕ) → is_weighted w ≡ true → None ≡ option_map (λ n. min n too_large) (whole text) → Err kinds.NotWhole ≡ cost_of w (Some text)
cost_none w text e h = weighed w text _ e (none_small w (whole text) h)

cost_some : (w : Scale) (text : List ℕ) (n : ℕ) → is_weighted w ≡ true → Some n ≡ option_map (λ n. min n too_large) (whole text) → n < too_large → Ok (cost_in w n) ≡ cost_of w (Some text)
cost_some w text n e h k = weighed w text _ e (some_small w n (whole text) h k)

cost_large : (w : Scale) (text : List ℕ) (n : ℕ) → is_weighted w ≡ true → Some n ≡ option_map (λ n. min n too_large) (whole text) → too_large ≤ n → Err kinds.WeightTooLarge ≡ cost_of w (Some text)
cost_large w text n e h k = weighed w text _ e (some_large w n (whole text) h k)

cut_some : (b : Bool) (n c : ℕ) → cond b (Some n) None ≡ Some c → (b ≡ true) × (n ≡ c)
cut_some true n c e = (refl, cc)
cut_some false n c e = let bad : None ≡ Some c = e in cc

cut_none : (b : Bool) (n : ℕ) → cond b (Some n) None ≡ None → b ≡ false
cut_none true n e = let bad : Some n ≡ None = e in cc
cut_none false n e = refl

pub cost_made : (w : Scale) (text : List ℕ) (n c : ℕ) (r : Option ℕ) → is_weighted w ≡ true → Some n ≡ option_map (λ n. min n too_large) (whole text) → r ≡ cut n → r ≡ Some c → Ok (cost_in w c) ≡ cost_of w (Some text)
cost_made w text n c r e h k is =
    let b = cut_some (nat_le n most) n c (sym k ∙ is) in
    let t : nat_le n most ≡ true = b.0 in
    let same : n ≡ c = b.1 in
    let m : n < too_large = grind (arith, nat_tests) in
    ap (λ (x : ℕ). Ok (cost_in w x)) (sym same) ∙ cost_some w text n e h m

pub cost_over : (w : Scale) (text : List ℕ) (n : ℕ) (r : Option ℕ) → is_weighted w ≡ true → Some n ≡ option_map (λ n. min n too_large) (whole text) → r ≡ cut n → r ≡ None → Err kinds.WeightTooLarge ≡ cost_of w (Some text)
cost_over w text n r e h k is =
    let t : nat_le n most ≡ false = cut_none (nat_le n most) n (sym k ∙ is) in
    let m : too_large ≤ n = grind (arith, nat_tests) in
    cost_large w text n e h m
