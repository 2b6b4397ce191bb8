-- A weight that is read is a whole weight of the format.
use Rattle.tib_cost.specs.Scale.{cost_in}
use Rattle.tib_cost.specs.declared.Scale.TheVariants as scales
use Rattle.tib_cost.specs.declared.Scale.{Scale}
use Rattle.std.proofs.Common.{◌≡◌, ℕ, ◌+◌, ◌-◌, ◌*◌, ◌<◌, ◌≤◌, List, [], ◌∷◌, ◌++◌, length, refl, ap, sym, ◌∙◌, arith, Option, Bool, true, false, cond}
use Rattle.std.specs.Prelude.{Some, None, Result, Ok, Err, nat_lt, ◌==◌, ◌&&◌}
use Rattle.std.specs.List.{list_all}
use Rattle.std.proofs.lemmas.Bool.Decides.{nat_tests}
use Rattle.tib_lex.specs.declared.fault.FaultKind.{FaultKind}
use Rattle.tib_lex.specs.declared.fault.FaultKind.TheVariants as kinds
use Rattle.tib_grammar_file.specs.Weight.{is_digit, is_zero_digit, decimal_from, decimal, behind_digits, AreZeros, IsWhole, IsWeighed, IsCostOf, whole_from, whole, small, cost_of}
use Rattle.tib_lex.proofs.Numbers.{byte_same}
use Rattle.tib_cost.specs.Semiring.{most}

and_true : (a b : Bool) → (a && b) ≡ true → (a ≡ true) × (b ≡ true)
and_true true b e = (refl, e)
and_true false b e = cc

-- digits and what may follow them
record Split (value : ℕ) (text : List ℕ) (n : ℕ) : Type 0 where
  pub digits : List ℕ
  pub zeros : Option (List ℕ)
  pub are_digits : list_all is_digit digits ≡ true
  pub are_zeros : AreZeros zeros
  pub spelled : text ≡ digits ++ behind_digits zeros
  pub is : n ≡ decimal_from value digits

digits_read : (value : ℕ) (digits : List ℕ) (zeros : Option (List ℕ)) → list_all is_digit digits ≡ true → AreZeros zeros → whole_from value (digits ++ behind_digits zeros) ≡ Some (decimal_from value digits)
digits_read value [] None d z = refl
digits_read value [] (Some zeros) d z = rw z refl
digits_read value (b ∷ digits) zeros d z =
    let h = and_true (is_digit b) (list_all is_digit digits) d in
    rw h.0 (digits_read (10 * value + (b - 48)) digits zeros h.1 z)

some_same : (m n : ℕ) → Some m ≡ Some n → n ≡ m
some_same m n e = cc

digits_back : (value : ℕ) (text : List ℕ) (n : ℕ) → whole_from value text ≡ Some n → Split value text n
digits_back value [] n e = record { digits = []; zeros = None; are_digits = refl; are_zeros = tt; spelled = refl; is = some_same value n e }
digits_back value (b ∷ rest) n e = by_digit (λ h. digits_back (10 * value + (b - 48)) rest n h) (is_digit b) refl e
  where
    by_point : (c : Bool) → (b == 46 && list_all is_zero_digit rest) ≡ c → cond c (Some value) None ≡ Some n → Split value (b ∷ rest) n
    by_point true h e =
        let p = and_true (b == 46) (list_all is_zero_digit rest) h in
        record { digits = []; zeros = Some rest; are_digits = refl; are_zeros = p.1; spelled = ap (λ (x : ℕ). x ∷ rest) (byte_same b 46 p.0); is = some_same value n e }
    by_point false h e = let bad : None ≡ Some n = e in cc

    by_digit : (whole_from (10 * value + (b - 48)) rest ≡ Some n → Split (10 * value + (b - 48)) rest n) → (c : Bool) → is_digit b ≡ c → cond c (whole_from (10 * value + (b - 48)) rest) (cond (b == 46 && list_all is_zero_digit rest) (Some value) None) ≡ Some n → Split value (b ∷ rest) n
    by_digit more true h e =
        let s = more e in
        record { digits = b ∷ s.digits; zeros = s.zeros; are_digits = rw h s.are_digits; are_zeros = s.are_zeros; spelled = ap (λ (xs : List ℕ). b ∷ xs) s.spelled; is = s.is }
    by_digit more false h e = by_point (b == 46 && list_all is_zero_digit rest) refl e

first_digit : (b : ℕ) → 10 * 0 + (b - 48) ≡ b - 48
first_digit b = omega arith

pub whole_forth : (text : List ℕ) (n : ℕ) → IsWhole text n → whole text ≡ Some n
whole_forth text n w = by w.digits w.some w.are_digits w.spelled w.value
  where
    by : (digits : List ℕ) → 0 < length digits → list_all is_digit digits ≡ true → text ≡ digits ++ behind_digits w.zeros → n ≡ decimal digits → whole text ≡ Some n
    by [] h d s v = absurd (omega arith)
    by (b ∷ digits) h d s v =
        let t = and_true (is_digit b) (list_all is_digit digits) d in
        let zero : 10 * 0 + (b - 48) ≡ b - 48 = first_digit b in
        let same : decimal_from (b - 48) digits ≡ n = sym (v ∙ ap (λ (m : ℕ). decimal_from m digits) zero) in
        ap whole s ∙ rw t.0 (digits_read (b - 48) digits w.zeros t.1 w.are_zeros ∙ ap Some same)

pub whole_back : (text : List ℕ) (n : ℕ) → whole text ≡ Some n → IsWhole text n
whole_back [] n e = let bad : None ≡ Some n = e in cc
whole_back (b ∷ rest) n e = by (is_digit b) refl e
  where
    by : (c : Bool) → is_digit b ≡ c → cond c (whole_from (b - 48) rest) None ≡ Some n → IsWhole (b ∷ rest) n
    by false h e = let bad : None ≡ Some n = e in cc
    by true h e =
        let s = digits_back (b - 48) rest n e in
        record {
          digits = b ∷ s.digits;
          zeros = s.zeros;
          some = omega arith;
          are_digits = rw h s.are_digits;
          are_zeros = s.are_zeros;
          spelled = ap (λ (xs : List ℕ). b ∷ xs) s.spelled;
          value = s.is ∙ ap (λ (m : ℕ). decimal_from m s.digits) (sym (first_digit b));
        }

small_back : (scale : Scale) (text : List ℕ) (o : Option ℕ) (c : ℕ) → whole text ≡ o → small scale o ≡ Ok c → IsWeighed scale text c
small_back scale text None c w e = let bad : Err kinds.NotWhole ≡ Ok c = e in cc
small_back scale text (Some n) c w e = by (nat_lt most n) refl e
  where
    by : (b : Bool) → nat_lt most n ≡ b → cond b (Err kinds.WeightTooLarge) (Ok (cost_in scale n)) ≡ Ok c → IsWeighed scale text c
    by true h e = let bad : Err kinds.WeightTooLarge ≡ Ok c = e in cc
    by false h e =
        let same : cost_in scale n ≡ c = cc in
        let within : n ≤ most = grind (arith, nat_tests) in
        record { weight = n; whole = whole_back text n w; within = within; cost_is = sym same }

small_forth : (scale : Scale) (n : ℕ) → n ≤ most → small scale (Some n) ≡ Ok (cost_in scale n)
small_forth scale n h = let t : nat_lt most n ≡ false = grind (arith, nat_tests) in rw t refl

ok_same : (m n : ℕ) → (let r : Result ℕ FaultKind = Ok m in r ≡ Ok n) → n ≡ m
ok_same m n e = cc

pub cost_back : (scale : Scale) (weight : Option (List ℕ)) (c : ℕ) → cost_of scale weight ≡ Ok c → IsCostOf scale weight c
unfolding cost_of
cost_back scale None c e = ok_same 0 c e
cost_back scales.Unweighted (Some text) c e = ok_same 0 c e
cost_back scales.Plain (Some text) c e = small_back scales.Plain text (whole text) c refl e
cost_back scales.Reversed (Some text) c e = small_back scales.Reversed text (whole text) c refl e

ok_ap : (m n : ℕ) → m ≡ n → (let r : Result ℕ FaultKind = Ok m in r ≡ Ok n)
ok_ap m n e = ap (λ k. Ok k) e

weighed_forth : (scale : Scale) (text : List ℕ) (c : ℕ) → IsWeighed scale text c → small scale (whole text) ≡ Ok c
weighed_forth scale text c h = ap (small scale) (whole_forth text h.weight h.whole) ∙ small_forth scale h.weight h.within ∙ ap (λ k. Ok k) (sym h.cost_is)

pub cost_forth : (scale : Scale) (weight : Option (List ℕ)) (c : ℕ) → IsCostOf scale weight c → cost_of scale weight ≡ Ok c
unfolding cost_of
cost_forth scale None c e = ok_ap 0 c (sym e)
cost_forth scales.Unweighted (Some text) c e = ok_ap 0 c (sym e)
cost_forth scales.Plain (Some text) c h = weighed_forth scales.Plain text c h
cost_forth scales.Reversed (Some text) c h = weighed_forth scales.Reversed text c h
