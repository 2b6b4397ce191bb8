-- What the tokens of a printed rule mean: labels, variables, pairs and roots.
use Rattle.std.proofs.Common.{◌≡◌, ℕ, ◌+◌, ◌<◌, Bool, true, false, Option, List, [], ◌∷◌, ◌++◌, length, get_or, take, drop, refl, ap, sym, ◌∙◌, subst, append-nil, arith, suc, length-append}
use Rattle.std.specs.Prelude.{Some, None, not, cond, ◌&&◌, ◌==◌, ◌||◌, nat_eq, nat_lt, decimal as printed}
use Rattle.std.specs.List.{list_all, prefix_len}
use Rattle.std.specs.Str.{bytes_eq}
use Rattle.std.specs.Bool.{Decides}
use Rattle.std.proofs.lemmas.Bool.Decides.{nat_tests}
use Rattle.std.proofs.lemmas.List.Folds.{list_all-append}
use Rattle.std.proofs.lemmas.Slice.Eq.{bytes_eq-Decides}
use Rattle.std.proofs.Math.Seq.{take-append_seam}
use Rattle.tib_lex.specs.Bytes.{is_name_byte}
use Rattle.tib_lex.specs.Grammar.{Word, label, escape, spelling, is_name, IsName}
use Rattle.tib_lex.specs.Line.{text_of}
use Rattle.tib_lex.proofs.HasWords.{word_again}
use Rattle.tib_lex.proofs.Names.{name_is, is_named, all_run}
use Rattle.tib_lex.proofs.Quotes.{ne-eqb}
use Rattle.tib_lex.proofs.Spelled.{and_true, run_of}
use Rattle.tib_tree.specs.Written.{word_for}
use Rattle.tib_grammar.specs.StateName.{IsStateName}
use Rattle.tib_grammar_file.specs.Rule.{has_dot}
use Rattle.tib_grammar_file.specs.Weight.{is_digit, decimal}
use Rattle.tib_transducer_file.specs.Forms.{digits, some_digits, number_size, number_of, behind_number, written_label, label_behind, ending, variable_of, not_stop, stop_at, before_stop, behind_stop, is_number, pair_of, is_root, is_some, ends_with_stop, is_colon, ends_with_colon}
use Rattle.tib_transducer_file.proofs.Variables.{same_eqb, unstopped}
use Rattle.tib_transducer_file.specs.Printed.{is_plain, is_variable, label_text, asked_text}
use Rattle.tib_transducer_file.proofs.Numerals.{IsNumeral}

-- what comes after a front
pub behind_front : (xs ys : List ℕ) → drop (length xs) (xs ++ ys) ≡ ys
behind_front [] ys = refl
behind_front (x ∷ xs) ys = behind_front xs ys

pub behind_one : (xs ys : List ℕ) (y : ℕ) → drop (length xs + 1) (xs ++ (y ∷ ys)) ≡ ys
behind_one [] ys y = refl
behind_one (x ∷ xs) ys y = let n : suc (length xs) + 1 ≡ suc (length xs + 1) = omega arith in rw n (behind_one xs ys y)

-- a label that needs no quotes
pub record IsPlain (text : List ℕ) : Type 0 where
  pub named : IsName text
  pub no_stop : has_dot text ≡ false
  pub none : variable_of text ≡ None

not_true : (b : Bool) → not b ≡ true → b ≡ false
not_true true e = let bad : false ≡ true = e in absurd (cc)
not_true false e = refl

no_some : (o : Option (ℕ × Option (List ℕ))) → is_some o ≡ false → o ≡ None
no_some None e = refl
no_some (Some v) e = let bad : true ≡ false = e in absurd (cc)

pub plain_is : (text : List ℕ) → is_plain text ≡ true → IsPlain text
plain_is text e =
    let a = and_true (is_name text) (not (has_dot text) && not (is_variable text)) e in
    let b = and_true (not (has_dot text)) (not (is_variable text)) a.1 in
    record {
      named = name_is text a.0;
      no_stop = not_true (has_dot text) b.0;
      none = no_some (variable_of text) (not_true (is_variable text) b.1);
    }

-- the word of a label
abbrev pub quotes : List ℕ → Bool
quotes text = not (is_plain text)

abbrev pub label_word : List ℕ → Word
label_word text = word_for (quotes text) text

pub word_spelled : (text : List ℕ) → spelling (label_word text) ≡ label_text text
word_spelled text = by (is_plain text)
  where
    by : (b : Bool) → spelling (word_for (not b) text) ≡ cond b text (spelling (label text))
    by true = refl
    by false = refl

-- a label as it was written
pub quoted_again : (text : List ℕ) → written_label (spelling (label text)) ≡ text
quoted_again text =
    let long : nat_lt (length (escape text ++ 34 ∷ [])) 1 ≡ false = let l = length-append (escape text) (34 ∷ []) in grind (arith, nat_tests) in
    rw long (ap text_of (word_again (label text)))

plain_again : (text : List ℕ) → IsName text → written_label text ≡ text
plain_again [] w = refl
plain_again (b ∷ text) w =
    let byte : is_name_byte b ≡ true = (and_true (is_name_byte b) (list_all is_name_byte text) w.bytes).0 in
    let other : (b == 34) ≡ false = ne-eqb b 34 (λ e. let bad : is_name_byte 34 ≡ true = subst (λ (x : ℕ). is_name_byte x ≡ true) e byte in let worse : false ≡ true = bad in cc) in
    rw other refl

pub label_again : (text : List ℕ) → written_label (label_text text) ≡ text
label_again text = by (is_plain text) refl
  where
    by : (b : Bool) → is_plain text ≡ b → written_label (cond b text (spelling (label text))) ≡ text
    by true e = plain_again text (plain_is text e).named
    by false e = quoted_again text

-- a printed label has a byte
pub label_some : (text : List ℕ) → 0 < length (label_text text)
label_some text = by (is_plain text) refl
  where
    by : (b : Bool) → is_plain text ≡ b → 0 < length (cond b text (spelling (label text)))
    by true e = (plain_is text e).named.some
    by false e = omega arith

-- it is no variable
no_size : (text : List ℕ) → number_size text ≡ 0 → variable_of text ≡ None
unfolding variable_of
no_size text e = rw e refl

pub label_no_variable : (text : List ℕ) → variable_of (label_text text) ≡ None
label_no_variable text = by (is_plain text) refl
  where
    by : (b : Bool) → is_plain text ≡ b → variable_of (cond b text (spelling (label text))) ≡ None
    by true e = (plain_is text e).none
    by false e = no_size (spelling (label text)) refl

-- after a colon is the label that a variable asks for
abbrev pub asked_of : List (List ℕ) → Option ℕ → Option (List ℕ)
asked_of labels None = None
asked_of labels (Some f) = Some (get_or labels f [])

some_label : (bytes text : List ℕ) → 0 < length bytes → written_label bytes ≡ text → label_behind bytes ≡ Some text
some_label [] text h e = absurd (omega arith)
some_label (b ∷ bytes) text h e = ap (λ (t : List ℕ). Some t) e

pub asked_again : (labels : List (List ℕ)) (asked : Option ℕ) → label_behind (asked_text labels asked) ≡ asked_of labels asked
asked_again labels None = refl
asked_again labels (Some f) = some_label (label_text (get_or labels f [])) (get_or labels f []) (label_some (get_or labels f [])) (label_again (get_or labels f []))

-- x, a number and a colon
abbrev pub numbered : ℕ → List ℕ → List ℕ
numbered n rest = 120 ∷ (printed n ++ (58 ∷ rest))

size_of : (n : ℕ) (rest : List ℕ) → IsNumeral n → prefix_len is_digit rest ≡ 0 → number_size (120 ∷ (printed n ++ rest)) ≡ length (printed n)
size_of n rest d none =
    let all : digits (printed n ++ rest) ≡ length (printed n) = run_of is_digit (printed n) rest d.digits none in
    let few = d.few in
    let short : nat_lt (length (printed n)) 10 ≡ true = grind (arith, nat_tests) in
    ap some_digits all ∙ rw short refl

value_of : (n : ℕ) (rest : List ℕ) → IsNumeral n → prefix_len is_digit rest ≡ 0 → number_of (120 ∷ (printed n ++ rest)) ≡ n
value_of n rest d none =
    ap (λ (k : ℕ). decimal (take k (printed n ++ rest))) (size_of n rest d none)
    ∙ ap decimal (take-append_seam (printed n) rest)
    ∙ d.value

behind_of : (n : ℕ) (rest : List ℕ) → IsNumeral n → prefix_len is_digit rest ≡ 0 → behind_number (120 ∷ (printed n ++ rest)) ≡ rest
behind_of n rest d none =
    let k : length (printed n) + 1 ≡ suc (length (printed n)) = omega arith in
    ap (λ (m : ℕ). drop (m + 1) (120 ∷ (printed n ++ rest))) (size_of n rest d none)
    ∙ ap (λ (m : ℕ). drop m (120 ∷ (printed n ++ rest))) k
    ∙ behind_front (printed n) rest

sized : (n : ℕ) (rest : List ℕ) → IsNumeral n → prefix_len is_digit rest ≡ 0 → (number_size (120 ∷ (printed n ++ rest)) == 0) ≡ false
sized n rest d none =
    let e = size_of n rest d none in
    let some = d.some in
    ne-eqb (number_size (120 ∷ (printed n ++ rest))) 0 (λ z. omega (arith, e, z, some))

has_ending : (text : List ℕ) → (number_size text == 0) ≡ false → variable_of text ≡ ending (number_of text) (behind_number text)
unfolding variable_of
has_ending text ne = rw ne refl

pub variable_again : (n : ℕ) (rest : List ℕ) → IsNumeral n → variable_of (numbered n rest) ≡ Some (n, label_behind rest)
variable_again n rest d =
    has_ending (numbered n rest) (sized n (58 ∷ rest) d refl)
    ∙ ap (λ (m : ℕ). ending m (behind_number (numbered n rest))) (value_of n (58 ∷ rest) d refl)
    ∙ ap (ending n) (behind_of n (58 ∷ rest) d refl)

pub stem_ends : (n : ℕ) → IsNumeral n → ends_with_colon (numbered n []) ≡ true
stem_ends n d =
    let ne = sized n (58 ∷ []) d refl in
    let e = behind_of n (58 ∷ []) d refl in
    let c : is_colon (behind_number (numbered n [])) ≡ true = ap is_colon e in
    rw (ne, c) refl

-- a state and a full stop
eq_turns : (b : ℕ) (c : Bool) → nat_eq 46 b ≡ c → c ≡ false → not_stop b ≡ true
eq_turns b c e f =
    let n : nat_eq 46 b ≡ false = e ∙ f in
    let m : (b == 46) ≡ false = ne-eqb b 46 (λ k. let t : nat_eq 46 b ≡ true = grind (arith, nat_tests) in let bad : true ≡ false = sym t ∙ n in cc) in
    rw m refl

or_false : (x y : Bool) → (x || y) ≡ false → (x ≡ false) × (y ≡ false)
or_false true y h = let bad : true ≡ false = h in absurd (cc)
or_false false y h = (refl, h)

no_stops : (text : List ℕ) → has_dot text ≡ false → list_all not_stop text ≡ true
no_stops [] e = refl
no_stops (b ∷ text) e =
    let h = or_false (nat_eq 46 b) (has_dot text) e in
    let t = eq_turns b (nat_eq 46 b) refl h.0 in
    rw t (no_stops text h.1)

pub stop_behind : (q rest : List ℕ) → has_dot q ≡ false → stop_at (q ++ (46 ∷ rest)) ≡ length q
stop_behind q rest e = run_of not_stop q (46 ∷ rest) (no_stops q e) refl

pub state_before : (q rest : List ℕ) → has_dot q ≡ false → before_stop (q ++ (46 ∷ rest)) ≡ q
state_before q rest e = ap (λ (n : ℕ). take n (q ++ (46 ∷ rest))) (stop_behind q rest e) ∙ take-append_seam q (46 ∷ rest)

pub label_behind_stop : (q rest : List ℕ) → has_dot q ≡ false → behind_stop (q ++ (46 ∷ rest)) ≡ rest
label_behind_stop q rest e = ap (λ (n : ℕ). drop (n + 1) (q ++ (46 ∷ rest))) (stop_behind q rest e) ∙ behind_one q rest 46

pub stop_ends : (q : List ℕ) → has_dot q ≡ false → ends_with_stop (q ++ (46 ∷ [])) ≡ true
stop_ends q e =
    let l = length-append q (46 ∷ []) in
    let s = stop_behind q [] e in
    same_eqb (length (q ++ (46 ∷ []))) (stop_at (q ++ (46 ∷ [])) + 1) (omega (arith, l, s))

pub root_again : (q rest : List ℕ) → IsStateName q → 0 < length rest → is_root (q ++ (46 ∷ rest)) ≡ true
root_again q rest w h =
    let a : is_name (before_stop (q ++ (46 ∷ rest))) ≡ true = ap is_name (state_before q rest w.no_stop) ∙ is_named q w.is_name in
    let b : length (behind_stop (q ++ (46 ∷ rest))) ≡ length rest = ap length (label_behind_stop q rest w.no_stop) in
    let c : nat_lt 0 (length (behind_stop (q ++ (46 ∷ rest)))) ≡ true = grind (arith, nat_tests) in
    rw (a, c) refl

-- a pair
abbrev pub paired : List ℕ → ℕ → List ℕ
paired q n = q ++ (46 ∷ (120 ∷ printed n))

pair_by : (text : List ℕ) → is_name (before_stop text) ≡ true → is_number (behind_stop text) ≡ true → pair_of text ≡ Some (before_stop text, number_of (behind_stop text))
unfolding pair_of
pair_by text e h = rw (e, h) refl

number_alone : (n : ℕ) → IsNumeral n → is_number (120 ∷ printed n) ≡ true
number_alone n d =
    let nil : printed n ++ [] ≡ printed n = append-nil (printed n) in
    let size : number_size (120 ∷ printed n) ≡ length (printed n) = ap (λ (xs : List ℕ). number_size (120 ∷ xs)) (sym nil) ∙ size_of n [] d refl in
    let some = d.some in
    let ne : (number_size (120 ∷ printed n) == 0) ≡ false = ne-eqb (number_size (120 ∷ printed n)) 0 (λ z. omega (arith, size, z, some)) in
    let full : (length (120 ∷ printed n) == number_size (120 ∷ printed n) + 1) ≡ true = same_eqb (length (120 ∷ printed n)) (number_size (120 ∷ printed n) + 1) (omega (arith, size)) in
    rw (ne, full) refl

number_value : (n : ℕ) → IsNumeral n → number_of (120 ∷ printed n) ≡ n
number_value n d = ap (λ (xs : List ℕ). number_of (120 ∷ xs)) (sym (append-nil (printed n))) ∙ value_of n [] d refl

pub pair_again : (q : List ℕ) (n : ℕ) → IsStateName q → IsNumeral n → pair_of (paired q n) ≡ Some (q, n)
pair_again q n w d =
    let before = state_before q (120 ∷ printed n) w.no_stop in
    let behind = label_behind_stop q (120 ∷ printed n) w.no_stop in
    pair_by (paired q n) (ap is_name before ∙ is_named q w.is_name) (ap is_number behind ∙ number_alone n d)
    ∙ ap (λ (s : List ℕ). Some (s, number_of (behind_stop (paired q n)))) before
    ∙ ap (λ (m : ℕ). Some (q, m)) (ap number_of behind ∙ number_value n d)

-- a plain label is no pair
pub plain_no_pair : (text : List ℕ) → has_dot text ≡ false → pair_of text ≡ None
plain_no_pair text e = sym (unstopped text (stop_at text) refl (all_run not_stop text (no_stops text e)))

-- names that are put together

pub joined_name : (front text : List ℕ) → 0 < length front → list_all is_name_byte front ≡ true → list_all is_name_byte text ≡ true → bytes_eq (front ++ text) (45 ∷ 62 ∷ []) ≡ false → IsName (front ++ text)
joined_name front text some a b other = record {
  some = omega (arith, some, length-append front text);
  bytes = list_all-append is_name_byte front text ∙ rw a b;
  other = other;
}

has_stop : (q rest : List ℕ) → has_dot (q ++ (46 ∷ rest)) ≡ true
has_stop [] rest = refl
has_stop (b ∷ q) rest = by (nat_eq 46 b) (has_stop q rest)
  where
    by : (c : Bool) → has_dot (q ++ (46 ∷ rest)) ≡ true → (c || has_dot (q ++ (46 ∷ rest))) ≡ true
    by true e = refl
    by false e = e

stop_no_arrow : (q rest : List ℕ) (b : Bool) → bytes_eq (q ++ (46 ∷ rest)) (45 ∷ 62 ∷ []) ≡ b → b ≡ false
stop_no_arrow q rest false e = refl
stop_no_arrow q rest true e =
    let d : Decides (bytes_eq (q ++ (46 ∷ rest)) (45 ∷ 62 ∷ [])) (q ++ (46 ∷ rest) ≡ 45 ∷ 62 ∷ []) = bytes_eq-Decides (q ++ (46 ∷ rest)) (45 ∷ 62 ∷ []) in
    let bad : false ≡ true = ap has_dot (sym (d.0 e)) ∙ has_stop q rest in
    sym bad ∙ bad ∙ sym bad

-- a state, a full stop, and name bytes
pub stopped_name : (q rest : List ℕ) → IsName q → list_all is_name_byte rest ≡ true → IsName (q ++ (46 ∷ rest))
stopped_name q rest w h = joined_name q (46 ∷ rest) w.some w.bytes h (stop_no_arrow q rest (bytes_eq (q ++ (46 ∷ rest)) (45 ∷ 62 ∷ [])) refl)

-- x, a number, a colon, and name bytes
pub stem_name : (n : ℕ) (rest : List ℕ) → IsNumeral n → list_all is_name_byte rest ≡ true → IsName (numbered n rest)
stem_name n rest d h = record {
  some = omega arith;
  bytes = list_all-append is_name_byte (printed n) (58 ∷ rest) ∙ (let b = d.bytes in rw b h);
  other = refl;
}

pub pair_name : (q : List ℕ) (n : ℕ) → IsName q → IsNumeral n → IsName (paired q n)
pair_name q n w d = stopped_name q (120 ∷ printed n) w d.bytes
