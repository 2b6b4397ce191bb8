-- Names of places are state names, and new ones.
use Rattle.std.specs.Prelude.{◌≡◌, ℕ, ◌+◌, ◌-◌, ◌/◌, ◌%◌, ◌^◌, ◌<◌, ◌≤◌, List, [], ◌∷◌, ◌++◌, length, set, drop, get_or, refl, false, true, nat_eq, Some, slice_get, map, take}
use Rattle.std.specs.Global.{Vec}
use Rattle.std.specs.List.{list_all, list_any}
use Rattle.std.proofs.Common.{zero, suc, inl, inr, length-append, length-set, append_assoc, append-nil, add-one, arith, ap, sym, ◌∙◌, subst}
use Rattle.std.proofs.lemmas.Bool.Decides.{nat_tests}
use Rattle.std.proofs.lemmas.List.{drop-set, get_or-set_other, length-map, map-append, take_more}
use Rattle.std.proofs.lemmas.Option.{get_or_from_slice_get}
use Rattle.std.proofs.Math.Nat.{pow-suc, pow-le-pow_right}
use Rattle.tib_lex.specs.Bytes.{is_name_byte}
use Rattle.tib_lex.specs.Lists.{Has}
use Rattle.tib_grammar.specs.StateName.{IsStateName, AreStateNames}
use Rattle.tib_grammar.proofs.Members.{has_either, each_more, distinct_more}
use Rattle.tib_normal.specs.PlaceNames.{digits, name_of_place, names_of_places, IsFree}
use Rattle.tib_lex.proofs.Lists.{head_is, tail_is}

digit_is_name : (d : ℕ) → d < 10 → is_name_byte (48 + d) ≡ true
digit_is_name d h = grind (arith, nat_tests)

digit_no_stop : (d : ℕ) → nat_eq 46 (48 + d) ≡ false
digit_no_stop d = grind (arith, nat_tests)

digits_are_name : (n number : ℕ) (behind : List ℕ) → list_all is_name_byte behind ≡ true → list_all is_name_byte (digits n number behind) ≡ true
digits_are_name zero number behind h = h
digits_are_name (suc n) number behind h =
    let d : is_name_byte (48 + number % 10) ≡ true = digit_is_name (number % 10) (omega arith) in
    digits_are_name n (number / 10) ((48 + number % 10) ∷ behind) (rw d h)

digits_no_stop : (n number : ℕ) (behind : List ℕ) → list_any (nat_eq 46) behind ≡ false → list_any (nat_eq 46) (digits n number behind) ≡ false
digits_no_stop zero number behind h = h
digits_no_stop (suc n) number behind h =
    let d : nat_eq 46 (48 + number % 10) ≡ false = digit_no_stop (number % 10) in
    digits_no_stop n (number / 10) ((48 + number % 10) ∷ behind) (rw d h)

length-digits : (n number : ℕ) (behind : List ℕ) → length (digits n number behind) ≡ n + length behind
length-digits zero number behind = omega arith
length-digits (suc n) number behind = omega (arith, length-digits n (number / 10) ((48 + number % 10) ∷ behind))

-- numbers of the same number of digits with the same digits are the same
digits_tell : (n a b : ℕ) (xs ys : List ℕ) → a < 10 ^ n → b < 10 ^ n → digits n a xs ≡ digits n b ys → (a ≡ b) × (xs ≡ ys)
digits_tell zero a b xs ys low below same = (omega arith, same)
digits_tell (suc n) a b xs ys low below same =
    let front = digits_tell n (a / 10) (b / 10) ((48 + a % 10) ∷ xs) ((48 + b % 10) ∷ ys) (omega (arith, pow-suc 10 n)) (omega (arith, pow-suc 10 n)) same in
    let quotients : a / 10 ≡ b / 10 = front.0 in
    let last : 48 + a % 10 ≡ 48 + b % 10 = head_is front.1 in
    (omega arith, tail_is front.1)

length-name : (n number : ℕ) → 1 ≤ n → length (name_of_place n number) ≡ n
length-name n number h = omega (arith, length-digits (n - 1) number [])

is_state_name : (n number : ℕ) → IsStateName (name_of_place n number)
is_state_name n number = record {
  is_name = record { some = omega arith; bytes = digits_are_name (n - 1) number [] refl; other = refl };
  no_stop = digits_no_stop (n - 1) number [] refl;
}

enough : (n number : ℕ) → 9 ≤ n → number < 100000000 → number < 10 ^ (n - 1)
enough n number long few =
    let ten : 0 < 10 = omega arith in
    let high : 8 ≤ n - 1 = omega arith in
    let most : 10 ^ 8 ≤ 10 ^ (n - 1) = pow-le-pow_right ten high in
    let eight : 10 ^ 8 ≡ 100000000 = refl in
    omega arith

-- each is the name of a place
has_place : (n places : ℕ) (text : List ℕ) → Has (names_of_places n places) text → (m : ℕ) × (m < places) × (text ≡ name_of_place n m)
has_place n zero text h = absurd h
has_place n (suc places) text h = elim (has_either (names_of_places n places) (name_of_place n places ∷ []) text h) [
  | inl k ↦ let r = has_place n places text k in (r.0, omega (arith, r.1), r.2)
  | inr k ↦ elim k [ inl e ↦ (places, omega arith, sym e) | inr a ↦ absurd a ]
]

-- a name that no place before has
place_is_new : (n places : ℕ) → 9 ≤ n → places < 100000000 → Has (names_of_places n places) (name_of_place n places) → ⊥
place_is_new n places long few h =
    let r = has_place n places (name_of_place n places) h in
    let same : digits (n - 1) places [] ≡ digits (n - 1) r.0 [] = tail_is r.2 in
    let told = digits_tell (n - 1) places r.0 [] [] (enough n places long few) (enough n r.0 long (omega (arith, r.1))) same in
    absurd (omega (arith, told.0, r.1))

pub length-names : (n places : ℕ) → length (names_of_places n places) ≡ places
length-names n zero = refl
length-names n (suc places) = omega (arith, length-append (names_of_places n places) (name_of_place n places ∷ []), length-names n places)

-- state names, and after them those of places
pub all_are_names :
    (names : List (List ℕ)) (n places : ℕ) → AreStateNames names → IsFree names n → 9 ≤ n → places ≤ 100000000 → AreStateNames (names ++ names_of_places n places)
all_are_names names n zero are free long few = subst AreStateNames (sym (append-nil names)) are
all_are_names names n (suc places) are free long few =
    let before : AreStateNames (names ++ names_of_places n places) = all_are_names names n places are free long (omega arith) in
    let text : List ℕ = name_of_place n places in
    subst AreStateNames (append_assoc names (names_of_places n places) (text ∷ [])) (record {
      each = each_more IsStateName (names ++ names_of_places n places) text before.each (is_state_name n places);
      distinct =
          distinct_more (names ++ names_of_places n places) text before.distinct
          (λ h. elim (has_either names (names_of_places n places) text h) [
            | inl k ↦ free text k (length-name n places (omega arith))
            | inr k ↦ place_is_new n places long (omega arith) k
          ]);
    })

-- what is written of a name of this length: the number left still has the digits before the first
-- one
pub record IsWriting (n number first rest : ℕ) (name : List ℕ) : Type 0 where
  pub some : 1 ≤ first
  pub low : first ≤ n
  pub long : length name ≡ n
  pub letter : get_or name 0 0 ≡ 112
  pub are : digits (n - 1) number [] ≡ digits (first - 1) rest (drop first name)

pub writing-more :
    (n number first below rest : ℕ) (name new : List ℕ) → 1 < first → first - 1 ≡ below → IsWriting n number first rest name → new ≡ set name below (48 + rest % 10) →
    IsWriting n number below (rest / 10) new
writing-more n number first below rest name new more next w is =
    let one : first - 1 ≡ suc (below - 1) = omega arith in
    let back : below + 1 ≡ first = omega arith in
    let fits : below < length name = omega (arith, w.low, w.long) in
    let cut : drop below new ≡ (48 + rest % 10) ∷ drop first name = ap (drop below) is ∙ drop-set name below (48 + rest % 10) fits ∙ ap (λ m. (48 + rest % 10) ∷ drop m name) back in
    record {
      some = omega arith;
      low = omega (arith, w.low);
      long = ap length is ∙ length-set name below (48 + rest % 10) ∙ w.long;
      letter = ap (λ (z : List ℕ). get_or z 0 0) is ∙ get_or-set_other name below 0 (48 + rest % 10) 0 (λ e. omega arith) ∙ w.letter;
      are = w.are ∙ ap (λ m. digits m rest (drop first name)) one ∙ ap (digits (below - 1) (rest / 10)) (sym cut);
    }

pub written : (n number first rest : ℕ) (name : List ℕ) → first ≤ 1 → IsWriting n number first rest name → name ≡ name_of_place n number
written n number first rest name h w =
    let last : first ≡ 1 = omega (arith, w.some) in
    let is : digits (n - 1) number [] ≡ drop 1 name = w.are ∙ ap (λ m. digits (m - 1) rest (drop m name)) last in
    whole name (omega (arith, w.some, w.low, w.long)) w.letter ∙ ap (λ (z : List ℕ). 112 ∷ z) (sym is)
  where
    whole : (xs : List ℕ) → 0 < length xs → get_or xs 0 0 ≡ 112 → xs ≡ 112 ∷ drop 1 xs
    whole [] h e = absurd (omega arith)
    whole (x ∷ xs) h e = ap (λ y. y ∷ xs) e

pub first_names : (names : List (List ℕ)) (i : ℕ) (text : List ℕ) → i < length names → slice_get names i ≡ Some text → take (i + 1) names ≡ take i names ++ text ∷ []
first_names names i text h at = take_more names i [] h ∙ ap (λ (z : List ℕ). take i names ++ z ∷ []) (get_or_from_slice_get names i text [] at)

-- how many texts stand for the names and those of places
pub length-texts : (texts : List (Vec ℕ)) (names : List (List ℕ)) (n places : ℕ) → map (λ (t : Vec ℕ). t.items) texts ≡ names ++ names_of_places n places → length texts ≡ length names + places
length-texts texts names n places is = omega (arith, length-map texts (λ (t : Vec ℕ). t.items), ap length is, length-append names (names_of_places n places), length-names n places)

-- one more name in the list of texts
pub text-more :
    (texts more : List (Vec ℕ)) (text : Vec ℕ) (names : List (List ℕ)) (i : ℕ) → i < length names → map (λ (t : Vec ℕ). t.items) texts ≡ take i names → slice_get names i ≡ Some text.items →
    more ≡ texts ++ text ∷ [] → map (λ (t : Vec ℕ). t.items) more ≡ take (i + 1) names
text-more texts more text names i h old at is =
    ap (map (λ (t : Vec ℕ). t.items)) is
    ∙ map-append (λ (t : Vec ℕ). t.items) texts (text ∷ [])
    ∙ ap (λ (z : List (List ℕ)). z ++ text.items ∷ []) old
    ∙ sym (first_names names i text.items h at)

-- the name of one more place
pub place-more :
    (texts more : List (Vec ℕ)) (text : Vec ℕ) (names : List (List ℕ)) (n place : ℕ) → map (λ (t : Vec ℕ). t.items) texts ≡ names ++ names_of_places n place → text.items ≡ name_of_place n place →
    more ≡ texts ++ text ∷ [] → map (λ (t : Vec ℕ). t.items) more ≡ names ++ names_of_places n (place + 1)
place-more texts more text names n place old is pushed =
    ap (map (λ (t : Vec ℕ). t.items)) pushed
    ∙ map-append (λ (t : Vec ℕ). t.items) texts (text ∷ [])
    ∙ ap (λ (z : List (List ℕ)). z ++ text.items ∷ []) old
    ∙ ap (λ (z : List ℕ). (names ++ names_of_places n place) ++ z ∷ []) is
    ∙ append_assoc names (names_of_places n place) (name_of_place n place ∷ [])
    ∙ ap (λ m. names ++ names_of_places n m) (sym (add-one place))
