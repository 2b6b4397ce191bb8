-- What a token is, by its bytes.
use Rattle.std.proofs.Common.{◌≡◌, ℕ, ◌+◌, ◌<◌, ◌≤◌, List, [], ◌∷◌, length, get_or, take, drop, refl, ap, sym, ◌∙◌, subst, arith, Bool, true, false, Option, zero, suc}
use Rattle.std.specs.Prelude.{Some, None, slice_range, nat_lt, ◌==◌, not, cond}
use Rattle.std.specs.List.{list_all}
use Rattle.std.proofs.lemmas.Bool.Decides.{nat_tests}
use Rattle.std.proofs.lemmas.List.Sums.{prefix_len-le-length}
use Rattle.tib_lex.specs.Grammar.{is_name}
use Rattle.tib_lex.proofs.Quotes.{ne-eqb}
use Rattle.tib_lex.proofs.Booleans.{and-false}
use Rattle.tib_grammar_file.specs.Weight.{is_digit}
use Rattle.tib_transducer_file.specs.Forms.{digits, some_digits, number_size, number_of, behind_number, is_colon, ending, label_behind, variable_of, stop_at, before_stop, behind_stop, is_number, pair_of, is_root, ends_with_colon}
use Rattle.tib_transducer_file.proofs.Numbers.{front_digits}
use Rattle.tib_transducer_file.proofs.Slices.{slice_drop, slice_empty, slice_cons, slice_long, slice_take}

-- a number after an x
pub record NumberIn (text : List ℕ) (n : ℕ) : Type 0 where
  pub few : n < 10
  pub within : n + 1 ≤ length text
  pub are : list_all is_digit (take n (drop 1 text)) ≡ true

size_few : (n : ℕ) (b : Bool) → nat_lt n 10 ≡ b → 0 < cond b n 0 → (n < 10) × (cond b n 0 ≡ n)
size_few n true e h = (grind (arith, nat_tests), refl)
size_few n false e h = absurd (omega arith)

size_x : (rest : List ℕ) (c : Bool) → 0 < cond c (some_digits (digits rest)) 0 → cond c (some_digits (digits rest)) 0 ≡ some_digits (digits rest)
size_x rest true h = refl
size_x rest false h = absurd (omega arith)

pub number_in : (text : List ℕ) (n : ℕ) → n ≡ number_size text → 0 < n → NumberIn text n
number_in [] n e h = absurd (omega arith)
number_in (b ∷ rest) n e h =
    let x = size_x rest (b == 120) (omega (arith, e)) in
    let same : n ≡ some_digits (digits rest) = e ∙ x in
    let f = size_few (digits rest) (nat_lt (digits rest) 10) refl (omega (arith, same)) in
    let d : n ≡ digits rest = same ∙ f.1 in
    let l = prefix_len-le-length is_digit rest in
    record {
      few = omega (arith, d, f.0);
      within = omega (arith, d, l);
      are = subst (λ (m : ℕ). list_all is_digit (take m rest) ≡ true) (sym d) (front_digits rest);
    }

-- variables
pub no_variable : (text : List ℕ) (n : ℕ) → n ≡ number_size text → n ≡ 0 → None ≡ variable_of text
unfolding variable_of
no_variable text n e z = let s : number_size text ≡ 0 = sym e ∙ z in rw s refl

has_ending : (text : List ℕ) (n : ℕ) → n ≡ number_size text → 0 < n → variable_of text ≡ ending (number_of text) (behind_number text)
unfolding variable_of
has_ending text n e h =
    let ne : (number_size text == 0) ≡ false = ne-eqb (number_size text) 0 (λ z. omega (arith, e, z)) in
    rw ne refl

-- what comes after the number of a token
behind_is : (line : List ℕ) (start end n : ℕ) → n ≡ number_size (slice_range line start end) → start + n + 1 ≤ end → behind_number (slice_range line start end) ≡ slice_range line (start + n + 1) end
behind_is line start end n e h =
    let m : start + (n + 1) ≡ start + n + 1 = omega arith in
    ap (λ (k : ℕ). drop (k + 1) (slice_range line start end)) (sym e)
    ∙ slice_drop line start end (n + 1) (omega arith)
    ∙ ap (λ (k : ℕ). slice_range line k end) m

pub number_fits : (line : List ℕ) (start end n : ℕ) → end ≤ length line → start ≤ end → n ≡ number_size (slice_range line start end) → 0 < n → (n < 10) × (start + n + 1 ≤ end)
number_fits line start end n w o e h =
    let i = number_in (slice_range line start end) n e h in
    let l = slice_long line start end w in
    (i.few, omega (arith, i.within, l))

pub bare_variable : (line : List ℕ) (start end n behind number : ℕ) → end ≤ length line → start ≤ end → n ≡ number_size (slice_range line start end) → 0 < n → behind ≡ start + n + 1 → behind ≡ end → number ≡ number_of (slice_range line start end) → Some (number, None) ≡ variable_of (slice_range line start end)
bare_variable line start end n behind number w o e h b s v =
    let f = number_fits line start end n w o e h in
    sym (has_ending (slice_range line start end) n e h
    ∙ ap (ending (number_of (slice_range line start end))) (behind_is line start end n e f.1 ∙ ap (λ (k : ℕ). slice_range line k end) (sym b ∙ s) ∙ slice_empty line end)
    ∙ ap (λ (k : ℕ). Some (k, None)) (sym v))

some_behind : (line : List ℕ) (start end n behind : ℕ) → end ≤ length line → start ≤ end → n ≡ number_size (slice_range line start end) → 0 < n → behind ≡ start + n + 1 → behind < end → variable_of (slice_range line start end) ≡ ending (number_of (slice_range line start end)) (get_or line behind 0 ∷ slice_range line (behind + 1) end)
some_behind line start end n behind w o e h b s =
    let f = number_fits line start end n w o e h in
    has_ending (slice_range line start end) n e h
    ∙ ap (ending (number_of (slice_range line start end))) (behind_is line start end n e f.1 ∙ ap (λ (k : ℕ). slice_range line k end) (sym b) ∙ slice_cons line behind end s w)

pub no_colon : (line : List ℕ) (start end n behind : ℕ) → end ≤ length line → start ≤ end → n ≡ number_size (slice_range line start end) → 0 < n → behind ≡ start + n + 1 → behind < end → (get_or line behind 0 == 58) ≡ false → None ≡ variable_of (slice_range line start end)
no_colon line start end n behind w o e h b s c = sym (some_behind line start end n behind w o e h b s ∙ rw c refl)

pub colon_variable : (line : List ℕ) (start end n behind number : ℕ) (text : Option (List ℕ)) → end ≤ length line → start ≤ end → n ≡ number_size (slice_range line start end) → 0 < n → behind ≡ start + n + 1 → behind < end → (get_or line behind 0 == 58) ≡ true → number ≡ number_of (slice_range line start end) → text ≡ label_behind (slice_range line (behind + 1) end) → Some (number, text) ≡ variable_of (slice_range line start end)
colon_variable line start end n behind number text w o e h b s c v t =
    sym (some_behind line start end n behind w o e h b s ∙ rw (c, t, v) refl)

no_name : (text : List ℕ) → is_name (before_stop text) ≡ false → None ≡ pair_of text
unfolding pair_of
no_name text e = rw e refl

no_number : (text : List ℕ) → is_number (behind_stop text) ≡ false → None ≡ pair_of text
unfolding pair_of
no_number text e = rw (e, and-false (is_name (before_stop text))) refl

a_pair : (text : List ℕ) → is_name (before_stop text) ≡ true → is_number (behind_stop text) ≡ true → Some (before_stop text, number_of (behind_stop text)) ≡ pair_of text
unfolding pair_of
a_pair text e h = rw (e, h) refl

front_is : (text front : List ℕ) (stop : ℕ) (r : Bool) → stop ≡ stop_at text → front ≡ take stop text → r ≡ is_name front → is_name (before_stop text) ≡ r
front_is text front stop r s f i = ap (λ (n : ℕ). is_name (take n text)) (sym s) ∙ ap is_name (sym f) ∙ sym i

back_is : (text back : List ℕ) (stop : ℕ) → stop ≡ stop_at text → back ≡ drop (stop + 1) text → behind_stop text ≡ back
back_is text back stop s f = ap (λ (n : ℕ). drop (n + 1) text) (sym s) ∙ sym f

drop_past : (xs : List ℕ) (n : ℕ) → length xs ≤ n → drop n xs ≡ []
drop_past [] zero h = refl
drop_past [] (suc n) h = refl
drop_past (x ∷ xs) zero h = absurd (omega arith)
drop_past (x ∷ xs) (suc n) h = drop_past xs n (omega arith)

pub unnamed : (text front : List ℕ) (stop : ℕ) (r : Bool) → stop ≡ stop_at text → front ≡ take stop text → r ≡ is_name front → r ≡ false → None ≡ pair_of text
unnamed text front stop r s f i e = no_name text (front_is text front stop r s f i ∙ e)

pub unstopped : (text : List ℕ) (stop : ℕ) → stop ≡ stop_at text → stop ≡ length text → None ≡ pair_of text
unstopped text stop s h =
    let e : behind_stop text ≡ [] = ap (λ (n : ℕ). drop (n + 1) text) (sym s) ∙ drop_past text (stop + 1) (omega (arith, h)) in
    no_number text (ap is_number e)

pub unnumbered : (text back : List ℕ) (stop n : ℕ) → stop ≡ stop_at text → back ≡ drop (stop + 1) text → n ≡ number_size back → n ≡ 0 → None ≡ pair_of text
unnumbered text back stop n s f e z =
    let m : number_size back ≡ 0 = sym e ∙ z in
    let i : is_number back ≡ false = rw m refl in
    no_number text (ap is_number (back_is text back stop s f) ∙ i)

pub longer : (text back : List ℕ) (stop n : ℕ) → stop ≡ stop_at text → back ≡ drop (stop + 1) text → n ≡ number_size back → (n ≡ 0 → ⊥) → (length back ≡ n + 1 → ⊥) → None ≡ pair_of text
longer text back stop n s f e z l =
    let ne : (number_size back == 0) ≡ false = ne-eqb (number_size back) 0 (λ k. z (e ∙ k)) in
    let nl : (length back == number_size back + 1) ≡ false = ne-eqb (length back) (number_size back + 1) (λ k. l (k ∙ ap (λ (m : ℕ). m + 1) (sym e))) in
    let i : is_number back ≡ false = rw (ne, nl) refl in
    no_number text (ap is_number (back_is text back stop s f) ∙ i)

pub same_eqb : (a b : ℕ) → a ≡ b → (a == b) ≡ true
same_eqb a b e = grind (arith, nat_tests)

pub paired : (line : List ℕ) (start end : ℕ) (text front back state : List ℕ) (stop n number : ℕ) (r : Bool) → text ≡ slice_range line start end → end ≤ length line → start + stop ≤ end → stop ≡ stop_at text → front ≡ take stop text → r ≡ is_name front → r ≡ true → back ≡ drop (stop + 1) text → n ≡ number_size back → (n ≡ 0 → ⊥) → length back ≡ n + 1 → number ≡ number_of back → state ≡ slice_range line start (start + stop) → Some (state, number) ≡ pair_of (slice_range line start end)
paired line start end text front back state stop n number r t w o s f i y b e z l v st =
    let ne : (number_size back == 0) ≡ false = ne-eqb (number_size back) 0 (λ k. z (e ∙ k)) in
    let nl : (length back == number_size back + 1) ≡ true = same_eqb (length back) (number_size back + 1) (l ∙ ap (λ (m : ℕ). m + 1) e) in
    let num : is_number back ≡ true = rw (ne, nl) refl in
    let bk = back_is text back stop s b in
    let fr : before_stop text ≡ state = ap (λ (k : ℕ). take k text) (sym s) ∙ ap (take stop) t ∙ slice_take line start end stop o ∙ sym st in
    ap (λ (x : List ℕ). Some (x, number)) (sym fr)
    ∙ ap (λ (k : ℕ). Some (before_stop text, k)) (v ∙ ap number_of (sym bk))
    ∙ a_pair text (front_is text front stop r s f i ∙ y) (ap is_number bk ∙ num)
    ∙ ap pair_of t

-- a name that comes before a full stop has a byte
pub front_some : (text front : List ℕ) (stop : ℕ) (some : 0 < length front) → front ≡ take stop text → 0 < stop
front_some text front zero some e = absurd (omega (arith, ap length e))
front_some text front (suc n) some e = omega arith

-- roots
pub no_root_name : (text front : List ℕ) (stop : ℕ) (r : Bool) → stop ≡ stop_at text → front ≡ take stop text → r ≡ is_name front → r ≡ false → false ≡ is_root text
no_root_name text front stop r s f i e = let n = front_is text front stop r s f i ∙ e in rw n refl

pub no_root_label : (text : List ℕ) (stop : ℕ) → stop ≡ stop_at text → length text ≤ stop + 1 → false ≡ is_root text
no_root_label text stop s h =
    let e : behind_stop text ≡ [] = ap (λ (n : ℕ). drop (n + 1) text) (sym s) ∙ drop_past text (stop + 1) h in
    rw (e, and-false (is_name (before_stop text))) refl

drop_long : (xs : List ℕ) (n : ℕ) → n < length xs → 0 < length (drop n xs)
drop_long [] n h = absurd (omega arith)
drop_long (x ∷ xs) zero h = omega arith
drop_long (x ∷ xs) (suc n) h = drop_long xs n (omega arith)

some_long : (n : ℕ) → 0 < n → nat_lt 0 n ≡ true
some_long n h = grind (arith, nat_tests)

pub a_root : (text front : List ℕ) (stop : ℕ) (r : Bool) → stop ≡ stop_at text → front ≡ take stop text → r ≡ is_name front → r ≡ true → stop + 1 < length text → true ≡ is_root text
a_root text front stop r s f i e h =
    let n = front_is text front stop r s f i ∙ e in
    let d = drop_long text (stop + 1) h in
    let l : nat_lt 0 (length (behind_stop text)) ≡ true = ap (λ (k : ℕ). nat_lt 0 (length (drop (k + 1) text))) (sym s) ∙ some_long (length (drop (stop + 1) text)) d in
    rw (n, l) refl

pub state_at : (line text : List ℕ) (start end stop : ℕ) → text ≡ slice_range line start end → stop ≡ stop_at text → start + stop ≤ end → slice_range line start (start + stop) ≡ before_stop text
state_at line text start end stop t s o = sym (ap (λ (k : ℕ). take k text) (sym s) ∙ ap (take stop) t ∙ slice_take line start end stop o)

pub label_at : (line text : List ℕ) (start end stop : ℕ) → text ≡ slice_range line start end → stop ≡ stop_at text → start + stop + 1 ≤ end → slice_range line (start + stop + 1) end ≡ behind_stop text
label_at line text start end stop t s o =
    let m : start + (stop + 1) ≡ start + stop + 1 = omega arith in
    sym (ap (λ (k : ℕ). drop (k + 1) text) (sym s) ∙ ap (drop (stop + 1)) t ∙ slice_drop line start end (stop + 1) (omega arith) ∙ ap (λ (k : ℕ). slice_range line k end) m)

-- a colon at the end
no_colon_behind : (xs : List ℕ) (k : ℕ) → k ≤ length xs → (length xs ≡ k + 1 → ⊥) → is_colon (drop k xs) ≡ false
no_colon_behind [] zero h n = refl
no_colon_behind [] (suc k) h n = refl
no_colon_behind (x ∷ xs) zero h n = let e : (length xs == 0) ≡ false = ne-eqb (length xs) 0 (λ z. n (omega (arith, z))) in rw (e, and-false (x == 58)) refl
no_colon_behind (x ∷ xs) (suc k) h n = no_colon_behind xs k (omega arith) (λ z. n (omega (arith, z)))

pub not_colon : (text : List ℕ) (n : ℕ) → n ≡ number_size text → (n ≡ 0 → ⊥) → (length text ≡ n + 2 → ⊥) → ends_with_colon text ≡ false
not_colon text n e z h =
    let i = number_in text n e (omega (arith, z)) in
    let c : is_colon (drop (n + 1) text) ≡ false = no_colon_behind text (n + 1) i.within (λ k. h (omega (arith, k))) in
    let d : is_colon (behind_number text) ≡ false = ap (λ (m : ℕ). is_colon (drop (m + 1) text)) (sym e) ∙ c in
    rw (d, and-false (not (number_size text == 0))) refl
