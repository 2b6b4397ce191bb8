-- How far a reader gets.
use Rattle.std.proofs.Common.{◌≡◌, ℕ, ◌+◌, ◌-◌, ◌<◌, ◌≤◌, List, [], ◌∷◌, length, drop, get_or, drop-cons, sub-one, refl, ap, ◌∙◌, subst, arith, Option, zero, suc, Bool, true, false}
use Rattle.std.specs.Prelude.{Some, None, option_and_then, if◌then◌else◌}
use Rattle.tib_lex.specs.Grammar.{Word, open_, close, hash, arrow, name, label}
use Rattle.tib_lex.specs.Line.{word_at, words_at}
use Rattle.tib_lex.specs.declared.token.Token.{Token}
use Rattle.tib_tree.specs.Machine.{State, state, put, machine, finish, nodes_of}

abbrev total : List ℕ → ℕ
total [] = 0
total (n ∷ ns) = n + total ns

-- no level has more trees than there are tokens
abbrev AreFew : Option State → ℕ → Type 0
AreFew None n = Unit {0}
AreFew (Some s) n = s.top + total s.above ≤ n

few_put : (word : Word) (held : Option ℕ) (top : ℕ) (above : List ℕ) (s : State) (n : ℕ) → s ≡ state held top above s.items → top + total above ≤ n → AreFew (put word (state held top above s.items)) (suc n)
few_put (name t) held top above s n e h = omega arith
few_put (label t) held top above s n e h = omega arith
few_put open_ None top (m ∷ ms) s n e h = omega arith
few_put open_ None top [] s n e h = tt
few_put open_ (Some k) top above s n e h = tt
few_put close None top above s n e h = omega arith
few_put close (Some k) top above s n e h = tt
few_put hash held top above s n e h = tt
few_put arrow held top above s n e h = tt

few_step : (word : Word) (o : Option State) (n : ℕ) → AreFew o n → AreFew (option_and_then (put word) o) (suc n)
few_step word None n h = tt
few_step word (Some s) n h = few_put word s.held s.top s.above s n refl h

few : (line : List ℕ) (tokens : List Token) → AreFew (machine (words_at line tokens)) (length tokens)
few line [] = omega arith
few line (t ∷ tokens) = few_step (word_at line t) (machine (words_at line tokens)) (length tokens) (few line tokens)

pub few_trees : (line : List ℕ) (tokens : List Token) (s : State) → machine (words_at line tokens) ≡ Some s → s.top ≤ length tokens
few_trees line tokens s e = let h : AreFew (Some s) (length tokens) = subst (λ (o : Option State). AreFew o (length tokens)) e (few line tokens) in omega arith

-- one more token
pub step : (line : List ℕ) (tokens : List Token) (i : ℕ) (d : Token) → 0 < i → i ≤ length tokens → machine (words_at line (drop (i - 1) tokens)) ≡ option_and_then (put (word_at line (get_or tokens (i - 1) d))) (machine (words_at line (drop i tokens)))
step line tokens zero d h k = absurd (omega arith)
step line tokens (suc i) d h k = rw (sub-one, drop-cons tokens i d) refl

-- where a token may not come, the tokens before it make no difference
pub ends : (line : List ℕ) (tokens : List Token) (n : ℕ) → machine (words_at line (drop n tokens)) ≡ None → nodes_of (words_at line tokens) ≡ None
unfolding nodes_of
ends line tokens n e = rw (stuck line tokens n e) refl
  where
    stuck : (line : List ℕ) (tokens : List Token) (n : ℕ) → machine (words_at line (drop n tokens)) ≡ None → machine (words_at line tokens) ≡ None
    stuck line tokens zero e = e
    stuck line [] (suc n) e = e
    stuck line (t ∷ tokens) (suc n) e = rw (stuck line tokens n e) refl

-- all tokens were read
pub finished : (line : List ℕ) (tokens : List Token) (i : ℕ) (s : State) → i ≤ 0 → machine (words_at line (drop i tokens)) ≡ Some s → nodes_of (words_at line tokens) ≡ finish (Some s)
unfolding nodes_of
finished line tokens zero s h e = ap finish e
finished line tokens (suc i) s h e = absurd (omega arith)

pub stops : (line : List ℕ) (tokens : List Token) (i : ℕ) (d : Token) (s : State) → 0 < i → i ≤ length tokens → machine (words_at line (drop i tokens)) ≡ Some s → put (word_at line (get_or tokens (i - 1) d)) s ≡ None → nodes_of (words_at line tokens) ≡ None
stops line tokens i d s h k e no_more = ends line tokens (i - 1) (step line tokens i d h k ∙ ap (λ (o : Option State). option_and_then (put (word_at line (get_or tokens (i - 1) d))) o) e ∙ no_more)

pub refused : {A : Type 0} (b : Bool) (x : A) (o : Option A) → b ≡ false → o ≡ (if b then Some x else None) → o ≡ None
refused b x o e h = rw e at h

pub goes : (line : List ℕ) (tokens : List Token) (i : ℕ) (d : Token) (s s' : State) → 0 < i → i ≤ length tokens → machine (words_at line (drop i tokens)) ≡ Some s → put (word_at line (get_or tokens (i - 1) d)) s ≡ Some s' → machine (words_at line (drop (i - 1) tokens)) ≡ Some s'
goes line tokens i d s s' h k e more = step line tokens i d h k ∙ ap (λ (o : Option State). option_and_then (put (word_at line (get_or tokens (i - 1) d))) o) e ∙ more

pub accepted : {A : Type 0} (b : Bool) (x : A) (o : Option A) → b ≡ true → o ≡ (if b then Some x else None) → o ≡ Some x
accepted b x o e h = rw e at h
