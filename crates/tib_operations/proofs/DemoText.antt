-- The text that `demo` makes is that of some grammar, for every number.
use Rattle.tib_cost.specs.declared.Scale.{Scale}
use Rattle.tib_cost.specs.declared.Scale.TheVariants as scales
use Rattle.std.proofs.Common.{◌≡◌, ℕ, ◌<◌, ◌≤◌, ◌%◌, ◌/◌, ◌-◌, ◌+◌, ◌⊎◌, inl, inr, Bool, true, false, List, [], ◌∷◌, ◌++◌, mod-lt, length, refl, ap, sym, ◌∙◌, arith, append_assoc, subst, leb-true, zero, suc}
use Rattle.std.specs.Prelude.{Option, Some, None, Result, Ok, Err, codes, decimal, nat_le, nat_lt, ◌==◌, ◌&&◌, cond}
use Rattle.std.specs.Fmt.{digit_glyph, digits, digits_onto}
use Rattle.std.specs.List.{list_all}
use Rattle.std.proofs.lemmas.Bool.Decides.{nat_tests}
use Rattle.tib_lex.specs.Bytes.{is_name_byte}
use Rattle.tib_lex.specs.Grammar.{Word, name, arrow, open_, close, IsName, HasWords}
use Rattle.tib_lex.specs.Line.{words_of}
use Rattle.tib_lex.specs.Lines.{HasNoFeed, HasLines}
use Rattle.tib_lex.specs.Lists.{Each, Has}
use Rattle.tib_lex.specs.Next.{next, first}
use Rattle.tib_lex.specs.declared.fault.FaultKind.{FaultKind}
use Rattle.tib_lex.specs.declared.fault.FileFault.{FileFault}
use Rattle.tib_lex.specs.declared.fault.ReadError.{ReadError}
use Rattle.tib_lex.specs.declared.fault.ReadError.TheVariants.{Fault}
use Rattle.tib_lex.proofs.Numbers.{below_suc_cases}
use Rattle.tib_lex.specs.Limits.{most_bytes}
use Rattle.tib_lex.proofs.HasLines.{lines_read}
use Rattle.tib_lex.proofs.HasWords.{words_read, has_first_word, after_space, no_words}
use Rattle.tib_lex.proofs.Lists.{append_nil, each_append}
use Rattle.tib_lex.proofs.Members.{has_left, has_right}
use Rattle.tib_lex.proofs.Spelled.{and_true}
use Rattle.tib_tree.specs.Machine.{nodes_of}
use Rattle.tib_tree.specs.Written.{item}
use Rattle.tib_grammar_file.specs.FaultLaws.{IsSomeText, TextsHaveNone}
use Rattle.tib_grammar_file.specs.Faults.{IsFirstFault, IsCause}
use Rattle.tib_grammar_file.specs.Read.{ReadsAs}
use Rattle.tib_grammar_file.specs.Reading.{grammar_of, grammar_from, start_line, start_in, rules_from, with_start, started}
use Rattle.tib_grammar_file.specs.Rule.{has_dot, RuleLine, rule_line, rule_line_of, rule_in, parts_of}
use Rattle.tib_grammar_file.specs.Weight.{is_digit, cost_of}
use Rattle.tib_grammar_file.proofs.FirstFaults.{faults_exact}
use Rattle.tib_grammar_file.proofs.PrintedLines.{free_from, free_append}
use Rattle.tib_grammar_file.proofs.PrintedRules.{all_changes}
use Rattle.tib_grammar_file.proofs.SomeText.{text_or_fault}
use Rattle.tib_canon.proofs.StateNames.{digits_no_stop}
use Rattle.tib_operations.specs.Demo.{demo_text, step_line, steps_text, first_rules}

-- a number of whatever size is written in digits alone
glyph_is_digit : (d : ℕ) → d < 10 → is_digit (digit_glyph false d) ≡ true
glyph_is_digit d h =
    let t : nat_lt d 10 ≡ true = grind (arith, nat_tests) in
    let low : nat_lt 47 (48 + d) ≡ true = grind (arith, nat_tests) in
    let high : nat_lt (48 + d) 58 ≡ true = grind (arith, nat_tests) in
    rw (t, low, high) refl

one_more : (n : ℕ) (more : List ℕ) → list_all is_digit more ≡ true → list_all is_digit (digit_glyph false (n % 10) ∷ more) ≡ true
one_more n more h = rw (glyph_is_digit (n % 10) (mod-lt n (omega arith))) h

either_way : (b : Bool) (xs ys : List ℕ) → list_all is_digit xs ≡ true → list_all is_digit ys ≡ true → list_all is_digit (cond b xs ys) ≡ true
either_way true xs ys h k = h
either_way false xs ys h k = k

digits_in_front : (k n : ℕ) (more : List ℕ) → list_all is_digit more ≡ true → list_all is_digit (digits_onto k 10 false n more) ≡ true
digits_in_front zero n more h = h
digits_in_front (suc k) n more h =
    let longer : List ℕ = digit_glyph false (n % 10) ∷ more in
    either_way (n / 10 == 0) longer (digits_onto k 10 false (n / 10) longer) (one_more n more h) (digits_in_front k (n / 10) (digit_glyph false (n % 10) ∷ more) (one_more n more h))

pub all_digits : (n : ℕ) → list_all is_digit (decimal n) ≡ true
unfolding digits
all_digits n = digits_in_front 64 n [] refl

pub digit_in_name : (c : ℕ) → is_digit c ≡ true → is_name_byte c ≡ true
digit_in_name c h = let t = and_true (nat_lt 47 c) (nat_lt c 58) h in grind (arith, nat_tests)

-- `p` and a number, which is the name of a state

abbrev pub state : ℕ → List ℕ
state n = 112 ∷ decimal n

state_bytes : (n : ℕ) → list_all is_name_byte (state n) ≡ true
state_bytes n = all_changes is_digit is_name_byte (decimal n) digit_in_name (all_digits n)

is_name : (n : ℕ) → IsName (state n)
is_name n = record { some = omega arith; bytes = state_bytes n; other = refl }

no_dot : (n : ℕ) → has_dot (state n) ≡ false
no_dot n = digits_no_stop (decimal n) (all_digits n)

no_feed : (n : ℕ) → HasNoFeed (state n)
no_feed n = free_from is_name_byte refl (state n) (state_bytes n)

-- the line of a rule with one state below, without its line feed, and its tokens

abbrev rule_bytes : ℕ → List ℕ → ℕ → List ℕ
rule_bytes m label n = state m ++ (32 ∷ (45 ∷ (62 ∷ (32 ∷ (label ++ (40 ∷ (state n ++ 41 ∷ [])))))))

abbrev rule_words : ℕ → List ℕ → ℕ → List Word
rule_words m label n = name (state m) ∷ (arrow ∷ (name label ∷ (open_ ∷ (name (state n) ∷ (close ∷ [])))))

has_words : (m n : ℕ) (label : List ℕ) → IsName label → HasWords (rule_words m label n) (rule_bytes m label n)
has_words m n label is =
    let below_words : List Word = name (state n) ∷ (close ∷ []) in
    let below_bytes : List ℕ = state n ++ 41 ∷ [] in
    let right_words : List Word = name label ∷ (open_ ∷ below_words) in
    let right_bytes : List ℕ = label ++ 40 ∷ below_bytes in
    let below : HasWords below_words below_bytes = has_first_word (name (state n)) (close ∷ []) (41 ∷ []) (is_name n) refl (has_first_word close [] [] tt tt no_words) in
    let right : HasWords right_words right_bytes = has_first_word (name label) (open_ ∷ below_words) (40 ∷ below_bytes) is refl (has_first_word open_ below_words below_bytes tt tt below) in
    let behind : HasWords (arrow ∷ right_words) (45 ∷ (62 ∷ (32 ∷ right_bytes))) = has_first_word arrow right_words (32 ∷ right_bytes) tt refl (after_space right_words right_bytes right) in
    has_first_word (name (state m)) (arrow ∷ right_words) (32 ∷ (45 ∷ (62 ∷ (32 ∷ right_bytes)))) (is_name m) refl (after_space (arrow ∷ right_words) (45 ∷ (62 ∷ (32 ∷ right_bytes))) behind)

-- What a line says: p0 has a label alone, or a label over p0; or the state after pm has a label
-- over pm, with m below n.
abbrev pub IsDemoLine : ℕ → RuleLine → Type 0
IsDemoLine n x =
    ((x.left ≡ state 0) × (x.nodes ≡ item false (codes "e") None ∷ []))
    ⊎ ((m : ℕ) × (text : List ℕ) × (x.nodes ≡ item false text (Some 1) ∷ (item false (state m) None ∷ [])) × (((m ≡ 0) × (x.left ≡ state 0))
    ⊎ ((m < n) × (x.left ≡ state (suc m)))))

-- a line that is read as such a rule
abbrev Fine : Scale → ℕ → List ℕ → Type 0
Fine scale n line = (x : RuleLine) × (rule_line scale line ≡ Ok (Some x)) × IsDemoLine n x

abbrev read_as : ℕ → List ℕ → ℕ → RuleLine
read_as m label n = rule_line_of (state m) (item false label (Some 1) ∷ (item false (state n) None ∷ [])) 0

words_fine : (scale : Scale) (m n : ℕ) (label : List ℕ) → rule_in scale (Some (rule_words m label n)) ≡ Ok (Some (read_as m label n))
unfolding parts_of nodes_of cost_of
words_fine scale m n label = rw (no_dot m) refl

rule_read : (scale : Scale) (m n : ℕ) (label : List ℕ) → IsName label → rule_line scale (rule_bytes m label n) ≡ Ok (Some (read_as m label n))
unfolding rule_line
rule_read scale m n label is =
    ap (rule_in scale) (words_read (rule_words m label n) (rule_bytes m label n) (has_words m n label is)) ∙ words_fine scale m n label

rule_fine : (scale : Scale) (most m : ℕ) (label : List ℕ) → m < most → IsName label → Fine scale most (rule_bytes (suc m) label m)
rule_fine scale most m label low is = (read_as (suc m) label m, rule_read scale (suc m) m label is, inr (m, label, refl, inr (low, refl)))

rule_no_feed : (m n : ℕ) (label : List ℕ) → HasNoFeed label → HasNoFeed (rule_bytes m label n)
rule_no_feed m n label h =
    free_append (state m) (32 ∷ (45 ∷ (62 ∷ (32 ∷ (label ++ (40 ∷ (state n ++ 41 ∷ []))))))) (no_feed m) (free_append label (40 ∷ (state n ++ 41 ∷ [])) h (free_append (state n) (41 ∷ []) (no_feed n) refl))

-- it is what comes before the line feed of a step
step_is : (label : List ℕ) (i : ℕ) → step_line label i ≡ rule_bytes (suc i) label i ++ 10 ∷ []
step_is label i =
    let upper : List ℕ = decimal (suc i) in
    let lower : List ℕ = decimal i in
    ap (λ (z : List ℕ). 112 ∷ z) (append_assoc upper (32 ∷ (45 ∷ (62 ∷ (32 ∷ [])))) (label ++ (40 ∷ (112 ∷ (lower ++ 41 ∷ (10 ∷ []))))))
    ∙ sym (ap (λ (z : List ℕ). 112 ∷ z) (append_assoc upper (32 ∷ (45 ∷ (62 ∷ (32 ∷ (label ++ (40 ∷ (112 ∷ (lower ++ 41 ∷ [])))))))) (10 ∷ [])
    ∙ ap (λ (z : List ℕ). upper ++ (32 ∷ (45 ∷ (62 ∷ (32 ∷ z))))) (append_assoc label (40 ∷ (112 ∷ (lower ++ 41 ∷ []))) (10 ∷ [])
    ∙ ap (λ (z : List ℕ). label ++ (40 ∷ (112 ∷ z))) (append_assoc lower (41 ∷ []) (10 ∷ [])))))

-- lines, each with its line feed

abbrev lines_text : List (List ℕ) → List ℕ
lines_text [] = []
lines_text (line ∷ lines) = line ++ 10 ∷ lines_text lines

lines_append : (xs ys : List (List ℕ)) → lines_text (xs ++ ys) ≡ lines_text xs ++ lines_text ys
lines_append [] ys = refl
lines_append (x ∷ xs) ys = ap (λ (z : List ℕ). x ++ 10 ∷ z) (lines_append xs ys) ∙ sym (append_assoc x (10 ∷ lines_text xs) (lines_text ys))

has_lines : (lines : List (List ℕ)) → Each HasNoFeed lines → HasLines lines (lines_text lines)
has_lines [] h = refl
has_lines (line ∷ lines) h = (h.0, inr (lines_text lines, refl, has_lines lines h.1))

-- each line is read as one of the rules
abbrev HoldsEach : Scale → List (List ℕ) → List RuleLine → Type 0
HoldsEach scale lines rules = (line : List ℕ) → Has lines line → (x : RuleLine) → rule_line scale line ≡ Ok (Some x) → Has rules x

one_line : (line : List ℕ) (scale : Scale) (x y : RuleLine) → rule_line scale line ≡ Ok (Some x) → rule_line scale line ≡ Ok (Some y) → x ≡ y
one_line line scale x y e f = let r : Result (Option RuleLine) FaultKind = rule_line scale line in cc

rules_fine :
    (scale : Scale) (most n : ℕ) (lines : List (List ℕ)) → Each (Fine scale most) lines →
    (rules : List RuleLine) × (rules_from scale n lines ≡ Ok rules) × Each (IsDemoLine most) rules × HoldsEach scale lines rules
rules_fine scale most n [] h = ([], refl, tt, λ line a x e. a)
rules_fine scale most n (line ∷ lines) h =
    let more = rules_fine scale most (suc n) lines h.1 in (
      h.0.0 ∷ more.0,
      rw (h.0.1, more.1) refl,
      (h.0.2, more.2),
      λ other a x e. elim a [
        | inl same ↦ inl (one_line line scale h.0.0 x h.0.1 (subst (λ (l : List ℕ). rule_line scale l ≡ Ok (Some x)) (sym same) e))
        | inr l ↦ inr (more.3 other l x e)
      ],
    )

-- the lines of the steps

abbrev step_lines : ℕ → List (List ℕ)
step_lines zero = []
step_lines (suc i) = step_lines i ++ (rule_bytes (suc (suc i)) (codes "a") (suc i) ∷ (rule_bytes (suc (suc i)) (codes "b") (suc i) ∷ []))

steps_are : (i : ℕ) → steps_text i ≡ lines_text (step_lines i)
steps_are zero = refl
steps_are (suc i) =
    let one : List ℕ = rule_bytes (suc (suc i)) (codes "a") (suc i) in
    let two : List ℕ = rule_bytes (suc (suc i)) (codes "b") (suc i) in
    (λ j. steps_are i j ++ (step_is (codes "a") (suc i) j ++ step_is (codes "b") (suc i) j))
    ∙ ap (λ (z : List ℕ). lines_text (step_lines i) ++ z) (append_assoc one (10 ∷ []) (two ++ 10 ∷ []))
    ∙ sym (lines_append (step_lines i) (one ∷ (two ∷ [])))

steps_no_feed : (i : ℕ) → Each HasNoFeed (step_lines i)
steps_no_feed zero = tt
steps_no_feed (suc i) =
    each_append HasNoFeed (step_lines i) _ (steps_no_feed i) (rule_no_feed (suc (suc i)) (suc i) (codes "a") refl, (rule_no_feed (suc (suc i)) (suc i) (codes "b") refl, tt))

is_a : IsName (codes "a")
is_a = record { some = omega arith; bytes = refl; other = refl }

is_b : IsName (codes "b")
is_b = record { some = omega arith; bytes = refl; other = refl }

steps_fine : (scale : Scale) (most i : ℕ) → i < most → Each (Fine scale most) (step_lines i)
steps_fine scale most zero low = tt
steps_fine scale most (suc i) low =
    each_append (Fine scale most) (step_lines i) _ (steps_fine scale most i (omega (arith, low)))
    (rule_fine scale most (suc i) (codes "a") low is_a, (rule_fine scale most (suc i) (codes "b") low is_b, tt))

-- each state from p2 on has a line
step_there : (j i : ℕ) → i < j → Has (step_lines j) (rule_bytes (suc (suc i)) (codes "a") (suc i))
step_there zero i h = absurd (omega (arith, h))
step_there (suc j) i h = elim (below_suc_cases i j h) [
  | inl l ↦ has_left (step_lines j) _ (rule_bytes (suc (suc i)) (codes "a") (suc i)) (step_there j i l)
  | inr e ↦
      has_right (step_lines j) _ (rule_bytes (suc (suc i)) (codes "a") (suc i))
      (inl (ap (λ (k : ℕ). rule_bytes (suc (suc k)) (codes "a") (suc k)) (sym e)))
]

-- the lines before them

abbrev first_lines : List (List ℕ)
first_lines = codes "p0 -> e" ∷ (codes "p0 -> a(p0)" ∷ (codes "p0 -> b(p0)" ∷ (codes "p1 -> a(p0) # 1" ∷ [])))

first_fine : (scale : Scale) (n : ℕ) → 0 < n → Each (Fine scale n) first_lines
unfolding rule_line words_of next first parts_of nodes_of cost_of digits
first_fine scales.Plain n some =
    ((_, refl, inl (refl, refl)), ((_, refl, inr (0, codes "a", refl, inl (refl, refl))), ((_, refl, inr (0, codes "b", refl, inl (refl, refl))), ((_, refl, inr (0, codes "a", refl, inr (some, refl))), tt))))
first_fine scales.Reversed n some =
    ((_, refl, inl (refl, refl)), ((_, refl, inr (0, codes "a", refl, inl (refl, refl))), ((_, refl, inr (0, codes "b", refl, inl (refl, refl))), ((_, refl, inr (0, codes "a", refl, inr (some, refl))), tt))))
first_fine scales.Unweighted n some =
    ((_, refl, inl (refl, refl)), ((_, refl, inr (0, codes "a", refl, inl (refl, refl))), ((_, refl, inr (0, codes "b", refl, inl (refl, refl))), ((_, refl, inr (0, codes "a", refl, inr (some, refl))), tt))))

-- p0 and p1 have lines there
abbrev HasLine : Scale → ℕ → Type 0
HasLine scale m = (line : List ℕ) × Has first_lines line × (x : RuleLine) × (rule_line scale line ≡ Ok (Some x)) × (x.left ≡ state m)

zero_there : (scale : Scale) → HasLine scale 0
unfolding rule_line words_of next first parts_of nodes_of cost_of digits
zero_there scales.Plain = (codes "p0 -> e", inl refl, _, refl, refl)
zero_there scales.Reversed = (codes "p0 -> e", inl refl, _, refl, refl)
zero_there scales.Unweighted = (codes "p0 -> e", inl refl, _, refl, refl)

one_there : (scale : Scale) → HasLine scale 1
unfolding rule_line words_of next first parts_of nodes_of cost_of digits
one_there scales.Plain = (codes "p1 -> a(p0) # 1", inr (inr (inr (inl refl))), _, refl, refl)
one_there scales.Reversed = (codes "p1 -> a(p0) # 1", inr (inr (inr (inl refl))), _, refl, refl)
one_there scales.Unweighted = (codes "p1 -> a(p0) # 1", inr (inr (inr (inl refl))), _, refl, refl)

start_fine : (n : ℕ) → start_line (state n) ≡ Ok (Some (state n))
unfolding start_line
start_fine n =
    let alone : HasWords (name (state n) ∷ []) (state n) = subst (λ (line : List ℕ). HasWords (name (state n) ∷ []) line) (append_nil (state n)) (has_first_word (name (state n)) [] [] (is_name n) refl no_words) in
    ap start_in (words_read (name (state n) ∷ []) (state n) alone) ∙ rw (no_dot n) refl

abbrev all_lines : ℕ → List (List ℕ)
all_lines n = state n ∷ (first_lines ++ step_lines (n - 1))

text_is : (n : ℕ) → demo_text n ≡ lines_text (all_lines n)
text_is n =
    ap (λ (z : List ℕ). 112 ∷ z) (append_assoc (decimal n) (10 ∷ []) (first_rules ++ steps_text (n - 1)))
    ∙ ap (λ (z : List ℕ). state n ++ 10 ∷ (first_rules ++ z)) (steps_are (n - 1))

-- each state up to pn has a rule
abbrev pub HasLefts : ℕ → List RuleLine → Type 0
HasLefts n rules = (m : ℕ) → m ≤ n → (x : RuleLine) × Has rules x × (x.left ≡ state m)

all_lefts : (scale : Scale) (n : ℕ) (rules : List RuleLine) → HoldsEach scale (first_lines ++ step_lines (n - 1)) rules → HasLefts n rules
all_lefts scale n rules held zero low =
    let z = zero_there scale in
    (z.2, held z.0 (has_left first_lines (step_lines (n - 1)) z.0 z.1) z.2 z.3, z.4)
all_lefts scale n rules held (suc zero) low =
    let z = one_there scale in
    (z.2, held z.0 (has_left first_lines (step_lines (n - 1)) z.0 z.1) z.2 z.3, z.4)
all_lefts scale n rules held (suc (suc m)) low =
    let line : List ℕ = rule_bytes (suc (suc m)) (codes "a") (suc m) in (
      read_as (suc (suc m)) (codes "a") (suc m),
      held line (has_right first_lines (step_lines (n - 1)) line (step_there (n - 1) m (omega (arith, low)))) (read_as (suc (suc m)) (codes "a") (suc m)) (rule_read scale (suc (suc m)) (suc m) (codes "a") is_a),
      refl,
    )

pub reads : (scale : Scale) (n : ℕ) → (rules : List RuleLine) × (grammar_of scale (demo_text n) ≡ Ok (state n, rules)) × Each (IsDemoLine (suc n)) rules × HasLefts n rules
unfolding grammar_of
reads scale n =
    let free : Each HasNoFeed (all_lines n) = (no_feed n, each_append HasNoFeed first_lines (step_lines (n - 1)) (refl, (refl, (refl, (refl, tt)))) (steps_no_feed (n - 1))) in
    let rules =
    rules_fine scale (suc n) 2 (first_lines ++ step_lines (n - 1))
    (each_append (Fine scale (suc n)) first_lines (step_lines (n - 1)) (first_fine scale (suc n) (omega arith)) (steps_fine scale (suc n) (n - 1) (omega arith)))
    in (
      rules.0,
      ap (grammar_of scale) (text_is n)
          ∙ ap (grammar_from scale 1) (lines_read (all_lines n) (lines_text (all_lines n)) (has_lines (all_lines n) free))
          ∙ ap (λ r. with_start 1 r (rules_from scale 2 (first_lines ++ step_lines (n - 1))) (grammar_from scale 2 (first_lines ++ step_lines (n - 1)))) (start_fine n)
          ∙ ap (started (state n)) rules.1,
      rules.2,
      all_lefts scale n rules.0 rules.3,
    )

pub demo_reads : (scale : Scale) (n : ℕ) → IsSomeText scale (demo_text n)
demo_reads scale n = by (text_or_fault scale (demo_text n))
  where
    ok_err : (p : List ℕ × List RuleLine) (fault : FileFault) → (let r : Result (List ℕ × List RuleLine) FileFault = Ok p in r ≡ Err fault) → ⊥
    ok_err p fault e = cc

    by : IsSomeText scale (demo_text n) ⊎ ((fault : FileFault) × IsFirstFault scale (demo_text n) fault) → IsSomeText scale (demo_text n)
    by (inl text) = text
    by (inr (fault, h)) = let r = reads scale n in absurd (ok_err (state n, r.0) fault (sym r.1 ∙ (faults_exact scale (demo_text n) fault).1 h))

-- the text of a number up to 16 is short

abbrev all_below : ℕ → (ℕ → Bool) → Bool
all_below zero p = true
all_below (suc n) p = p n && all_below n p

below_at : (k : ℕ) (p : ℕ → Bool) → all_below k p ≡ true → (n : ℕ) → n < k → p n ≡ true
below_at zero p h n l = absurd (omega (arith, l))
below_at (suc k) p h n l =
    let t = and_true (p k) (all_below k p) h in
    elim (below_suc_cases n k l) [ inl low ↦ below_at k p t.1 n low | inr same ↦ ap p same ∙ t.0 ]

are_short : all_below 17 (λ n. nat_le (length (demo_text n)) most_bytes) ≡ true
unfolding digits
are_short = refl

pub demo_short : (n : ℕ) (bytes : List ℕ) → n ≤ 16 → bytes ≡ demo_text n → length bytes ≤ most_bytes
demo_short n bytes low is = subst (λ (text : List ℕ). length text ≤ most_bytes) (sym is) (leb-true (length (demo_text n)) most_bytes (below_at 17 (λ k. nat_le (length (demo_text k)) most_bytes) are_short n (omega (arith, low))))

-- and has no fault
pub demo_faultless : (scale : Scale) (n : ℕ) (bytes : List ℕ) (error : ReadError) (fault : FileFault) → TextsHaveNone → bytes ≡ demo_text n → error ≡ Fault fault → IsCause scale bytes error → ⊥
demo_faultless scale n bytes error fault none is same h =
    let d = demo_reads scale n in
    none scale bytes fault (subst (IsCause scale bytes) same h) d.0 d.1 (subst (λ (text : List ℕ). ReadsAs scale d.0 text d.1) (sym is) d.3)
