-- What one word is to clap, and what it says in the word language.
use Rattle.std.proofs.Common.{◌≡◌, ◌∙◌, ◌<◌, ◌||◌, ◌==◌, ℕ, Bool, cond, codes, true, false, refl, sym, ap, subst, arith, List, [], ◌∷◌, Option, Some, None, true≢false, eqb-true, ne_eqb, eq-eqb}
use Rattle.std.specs.Prelude.{slice_get, unwrap_or, option_map}
use Rattle.std.specs.Char.{encode_utf8}
use Rattle.std.proofs.lemmas.Str.{encodes-chars, byte_from_char}
use Rattle.std.specs.Str.{encode_utf8_all}
use Rattle.std.specs.Option.{option_map_or}
use Rattle.std.specs.List.{list_any, before_first, after_first}
use Rattle.std.specs.Str.{bytes_eq, chars, IsUtf8}
use Rattle.clap.specs.Walk.{Row, Waiting, plain_word, trailing, after_flag, option_met, attached_value, arg_by_long, long_met, bundle_met, subcommand_or_other}
use Rattle.clap.specs.declared.error.kind.ErrorKind.TheVariants as kind
use Rattle.clap.specs.Faults.{other_fault, option_fault, long_fault, flags_fault}
use Rattle.std.proofs.lemmas.Str.{IsUtf8-drop, IsCharBoundary-after_ascii}
use Rattle.tib_command.specs.Words.{Text, Part, mode, depth, workers, limit, beam, place, Said, gives, waits, ends, refused, said, begins, letter_says, part_of_letter, name_says}
use Rattle.tib_command.proofs.Setting.{top, rules, held_at, rule_at}
use Rattle.tib_command.proofs.Places.{at}

abbrev pub says_of : Part → Option Text → Said
says_of p None = waits p
says_of p (Some v) = gives p v

abbrev pub is_option : Part → Bool
is_option place = false
is_option _ = true

pub data View (word : Text) : Type 0 where
  plain_view : (said word ≡ gives place word) → (begins word ≡ true → word ≡ 45 ∷ [])
      → ((rows : List Row) (pending : Option (Text × List Text)) → other_fault top None word (held_at rows pending) ≡ [])
      → ((wt : Waiting) (rows : List Row) (pending : Option (Text × List Text)) → subcommand_or_other rules None wt 1 word (held_at rows pending) ≡ plain_word rules wt word (held_at rows pending))
      → View word
  ends_view : (said word ≡ ends) → (begins word ≡ true)
      → ((rows : List Row) (pending : Option (Text × List Text)) → other_fault top None word (held_at rows pending) ≡ [])
      → ((wt : Waiting) (rows : List Row) (pending : Option (Text × List Text)) → subcommand_or_other rules None wt 1 word (held_at rows pending) ≡ (held_at rows pending, trailing 1))
      → View word
  option_view : (p : Part) (o : Option Text) → (is_option p ≡ true) → (said word ≡ says_of p o) → (begins word ≡ true)
      → ((rows : List Row) (pending : Option (Text × List Text)) → other_fault top None word (held_at rows pending) ≡ option_fault rules false (rule_at p) o (held_at rows pending))
      → ((wt : Waiting) (rows : List Row) (pending : Option (Text × List Text)) → subcommand_or_other rules None wt 1 word (held_at rows pending)
      ≡ after_flag rules wt word (option_met rules (rule_at p) o (held_at rows pending)).0 (option_met rules (rule_at p) o (held_at rows pending)).1)
      → View word
  refused_view : (said word ≡ refused) → (begins word ≡ true)
      → ((rows : List Row) (pending : Option (Text × List Text)) → other_fault top None word (held_at rows pending) ≡ kind.UnknownArgument ∷ [])
      → View word

-- a letter

pub letter_value : (p : Part) (ys : Text) → letter_says (Some p) ys ≡ says_of p (attached_value ys)
letter_value p [] = refl
letter_value p (z ∷ zs) = go (z == 61)
  where
    go : (b : Bool) → gives p (unwrap_or (cond b (Some zs) None) (z ∷ zs)) ≡ says_of p (option_map_or (λ v. Some v) (cond b (Some zs) None) (Some (z ∷ zs)))
    go true = refl
    go false = refl

abbrev pub letter_of : Part → ℕ
letter_of mode = 109
letter_of depth = 107
letter_of workers = 119
letter_of _ = 0

abbrev pub has_letter : Part → Bool
has_letter mode = true
has_letter depth = true
has_letter workers = true
has_letter _ = false

module _ (rows : List Row) (pending : Option (Text × List Text)) where
  pub letter_fault : (p : Part) (ys : Text) → has_letter p ≡ true
      → other_fault top None (45 ∷ letter_of p ∷ ys) (held_at rows pending) ≡ option_fault rules false (rule_at p) (attached_value ys) (held_at rows pending)
  unfolding flags_fault chars encode_utf8
  letter_fault mode [] e = refl
  letter_fault mode (z ∷ zs) e = refl
  letter_fault depth [] e = refl
  letter_fault depth (z ∷ zs) e = refl
  letter_fault workers [] e = refl
  letter_fault workers (z ∷ zs) e = refl
  letter_fault limit ys e = absurd (true≢false (sym e))
  letter_fault beam ys e = absurd (true≢false (sym e))
  letter_fault place ys e = absurd (true≢false (sym e))

  pub letter_met : (p : Part) (ys : Text) (wt : Waiting) → has_letter p ≡ true
      → subcommand_or_other rules None wt 1 (45 ∷ letter_of p ∷ ys) (held_at rows pending)
      ≡ after_flag rules wt (45 ∷ letter_of p ∷ ys) (option_met rules (rule_at p) (attached_value ys) (held_at rows pending)).0 (option_met rules (rule_at p) (attached_value ys) (held_at rows pending)).1
  unfolding bundle_met chars encode_utf8
  letter_met mode [] wt e = refl
  letter_met mode (z ∷ zs) wt e = refl
  letter_met depth [] wt e = refl
  letter_met depth (z ∷ zs) wt e = refl
  letter_met workers [] wt e = refl
  letter_met workers (z ∷ zs) wt e = refl
  letter_met limit ys wt e = absurd (true≢false (sym e))
  letter_met beam ys wt e = absurd (true≢false (sym e))
  letter_met place ys wt e = absurd (true≢false (sym e))

  -- a word with another letter, whose first character is c
  pub other_letter : (y c : ℕ) (ys : Text) → (y == 45) ≡ false → slice_get (chars (y ∷ ys)) 0 ≡ Some c → (109 == c) ≡ false → (107 == c) ≡ false → (119 == c) ≡ false
      → other_fault top None (45 ∷ y ∷ ys) (held_at rows pending) ≡ kind.UnknownArgument ∷ []
  unfolding flags_fault
  other_letter y c ys e first m k w = rw e (rw e (rw first (rw (m, k, w) refl)))

pub letter_view : (p : Part) (ys : Text) → has_letter p ≡ true → said (45 ∷ letter_of p ∷ ys) ≡ letter_says (Some p) ys → is_option p ≡ true → View (45 ∷ letter_of p ∷ ys)
letter_view p ys e s o = option_view p (attached_value ys) o (s ∙ letter_value p ys) refl (λ rows pending. letter_fault rows pending p ys e) (λ wt rows pending. letter_met rows pending p ys wt e)

-- the first character of a text, and its first byte
pub first_char : (y : ℕ) (ys : Text) → IsUtf8 (y ∷ ys) → (c : ℕ) × (slice_get (chars (y ∷ ys)) 0 ≡ Some c) × (c < 128 → y ≡ c)
first_char y ys u = go (chars (y ∷ ys)) refl (encodes-chars (y ∷ ys) u)
  where
    go : (cs : List ℕ) → chars (y ∷ ys) ≡ cs → encode_utf8_all cs ≡ y ∷ ys → (c : ℕ) × (slice_get (chars (y ∷ ys)) 0 ≡ Some c) × (c < 128 → y ≡ c)
    go [] e same = absurd (cc)
    go (c ∷ cs) e same = (c, ap (λ x. slice_get x 0) e, λ lt. byte_from_char (y ∷ ys) (encode_utf8_all cs) c (sym same) lt)

abbrev pub same_as : ℕ → ℕ → Bool
same_as a b = a == b

pub same_sym : (a b : ℕ) → (a == b) ≡ true → (b == a) ≡ true
same_sym a b e = let h = eqb-true a b e in ap (λ x. x == a) (sym h) ∙ eq-eqb a a refl

pub diff_sym : (a b : ℕ) → (a == b) ≡ false → (b == a) ≡ false
diff_sym a b e = ne_eqb b a (λ h. true≢false (sym (eq-eqb a b (sym h)) ∙ e))

-- a first byte that is another is another first character
pub other_char : (n y c : ℕ) → n < 128 → (c < 128 → y ≡ c) → (y == n) ≡ false → (n == c) ≡ false
other_char n y c lt is e = ne_eqb n c (λ h. true≢false (sym (eq-eqb y n (is (subst (λ x. x < 128) h lt) ∙ sym h)) ∙ e))

module _ (y : ℕ) (ys : Text) (u : IsUtf8 (y ∷ ys)) (dash : (y == 45) ≡ false) where
  abbrev pub says_short : Said
  says_short = letter_says (part_of_letter y) ys

  pub said_short : said (45 ∷ y ∷ ys) ≡ says_short
  said_short = rw dash refl

  pub short_view : View (45 ∷ y ∷ ys)
  short_view = by_m (y == 109) refl
    where
      last : (y == 109) ≡ false → (y == 107) ≡ false → (y == 119) ≡ false → View (45 ∷ y ∷ ys)
      last m k w =
          let first = first_char y ys u in
          refused_view (said_short ∙ rw (m, k, w) refl) refl
          (λ rows pending. other_letter rows pending y first.0 ys dash first.1 (other_char 109 y first.0 (omega arith) first.2 m) (other_char 107 y first.0 (omega arith) first.2 k) (other_char 119 y first.0 (omega arith) first.2 w))

      known : (p : Part) → y ≡ letter_of p → has_letter p ≡ true → is_option p ≡ true → said (45 ∷ letter_of p ∷ ys) ≡ letter_says (Some p) ys → View (45 ∷ y ∷ ys)
      known p at h o s = subst (λ x. View (45 ∷ x ∷ ys)) (sym at) (letter_view p ys h s o)

      by_w : (b : Bool) → (y == 119) ≡ b → (y == 109) ≡ false → (y == 107) ≡ false → View (45 ∷ y ∷ ys)
      by_w true e m k = known workers (eqb-true y 119 e) refl refl refl
      by_w false e m k = last m k e

      by_k : (b : Bool) → (y == 107) ≡ b → (y == 109) ≡ false → View (45 ∷ y ∷ ys)
      by_k true e m = known depth (eqb-true y 107 e) refl refl refl
      by_k false e m = by_w (y == 119) refl m e

      by_m : (b : Bool) → (y == 109) ≡ b → View (45 ∷ y ∷ ys)
      by_m true e = known mode (eqb-true y 109 e) refl refl refl
      by_m false e = by_k (y == 107) refl e

-- a long option

module _ (x : ℕ) (xs : Text) where
  abbrev pub name : Text
  name = before_first (λ c. c == 61) (x ∷ xs)

  abbrev pub is_limit : Bool
  is_limit = bytes_eq (codes "limit") name

  abbrev pub is_beam : Bool
  is_beam = bytes_eq (codes "beam") name

  abbrev pub long_value : Option Text
  long_value = cond (list_any (λ c. c == 61) (x ∷ xs)) (Some (after_first (λ c. c == 61) (x ∷ xs))) None

  -- the part of the name, by both comparisons
  abbrev pub named : Bool → Bool → Option Part
  named l b = cond l (Some limit) (cond b (Some beam) None)

  pub long_arg : arg_by_long rules name ≡ option_map rule_at (named is_limit is_beam)
  long_arg = go is_limit is_beam
    where
      go : (l b : Bool) → cond (l || false) (Some (rule_at limit)) (cond (b || false) (Some (rule_at beam)) None) ≡ option_map rule_at (named l b)
      go true b = refl
      go false true = refl
      go false false = refl

  value_says : (p : Part) (b : Bool) (v : Text) → cond b (gives p v) (waits p) ≡ says_of p (cond b (Some v) None)
  value_says p true v = refl
  value_says p false v = refl

  pub long_view : View (45 ∷ 45 ∷ x ∷ xs)
  long_view = go is_limit is_beam refl refl
    where
      in_limit : named is_limit is_beam ≡ Some limit → View (45 ∷ 45 ∷ x ∷ xs)
      in_limit e = option_view limit long_value refl
          (ap (λ q. name_says q (x ∷ xs)) e ∙ value_says limit _ _) refl
          (λ rows pending. ap (λ r. long_fault rules false r long_value (held_at rows pending)) (long_arg ∙ ap (option_map rule_at) e))
          (λ wt rows pending. ap (λ r. after_flag rules wt (45 ∷ 45 ∷ x ∷ xs) (long_met rules r long_value (held_at rows pending)).0 (long_met rules r long_value (held_at rows pending)).1) (long_arg ∙ ap (option_map rule_at) e))

      in_beam : named is_limit is_beam ≡ Some beam → View (45 ∷ 45 ∷ x ∷ xs)
      in_beam e = option_view beam long_value refl
          (ap (λ q. name_says q (x ∷ xs)) e ∙ value_says beam _ _) refl
          (λ rows pending. ap (λ r. long_fault rules false r long_value (held_at rows pending)) (long_arg ∙ ap (option_map rule_at) e))
          (λ wt rows pending. ap (λ r. after_flag rules wt (45 ∷ 45 ∷ x ∷ xs) (long_met rules r long_value (held_at rows pending)).0 (long_met rules r long_value (held_at rows pending)).1) (long_arg ∙ ap (option_map rule_at) e))

      go : (l b : Bool) → is_limit ≡ l → is_beam ≡ b → View (45 ∷ 45 ∷ x ∷ xs)
      go true b e f = in_limit (ap (λ l. named l is_beam) e)
      go false true e f = in_beam (λ i. named (e i) (f i))
      go false false e f =
          let none : named is_limit is_beam ≡ None = λ i. named (e i) (f i) in
          refused_view
          (ap (λ q. name_says q (x ∷ xs)) none) refl
          (λ rows pending. ap (λ r. long_fault rules false r long_value (held_at rows pending)) (long_arg ∙ ap (option_map rule_at) none))

-- each word

pub other_word : (x : ℕ) (xs : Text) → (x == 45) ≡ false → View (x ∷ xs)
other_word x xs e = plain_view (rw e refl) (λ h. absurd (true≢false (sym h ∙ rw e refl))) (λ rows pending. rw e (rw e refl)) (λ wt rows pending. rw e (rw e refl))

pub hyphen_view : (rest : Text) → IsUtf8 (45 ∷ rest) → View (45 ∷ rest)
hyphen_view [] u = plain_view refl (λ h. refl) (λ rows pending. refl) (λ wt rows pending. refl)
hyphen_view (y ∷ ys) u = go (y == 45) refl
  where
    double : (zs : Text) → View (45 ∷ 45 ∷ zs)
    double [] = ends_view refl refl (λ rows pending. refl) (λ wt rows pending. refl)
    double (z ∷ zs) = long_view z zs

    go : (b : Bool) → (y == 45) ≡ b → View (45 ∷ y ∷ ys)
    go true e = subst (λ x. View (45 ∷ x ∷ ys)) (sym (eqb-true y 45 e)) (double ys)
    go false e = short_view y ys (IsUtf8-drop (45 ∷ y ∷ ys) 1 u (IsCharBoundary-after_ascii (45 ∷ y ∷ ys) 0 u (omega arith) (omega arith))) e

pub view : (word : Text) → IsUtf8 word → View word
view [] u = plain_view refl (λ h. absurd (true≢false (sym h))) (λ rows pending. refl) (λ wt rows pending. refl)
view (x ∷ xs) u = go (x == 45) refl
  where
    go : (b : Bool) → (x == 45) ≡ b → View (x ∷ xs)
    go true e = subst (λ c. View (c ∷ xs)) (sym (eqb-true x 45 e)) (hyphen_view xs (subst (λ c. IsUtf8 (c ∷ xs)) (eqb-true x 45 e) u))
    go false e = other_word x xs e
