-- How a file is read line by line.
use Rattle.std.proofs.Common.{◌≡◌, ℕ, ◌+◌, ◌-◌, ◌<◌, ◌≤◌, ◌⊎◌, inl, inr, List, [], ◌∷◌, ◌++◌, length, take, drop, refl, ap, sym, ◌∙◌, arith, append_assoc, Option, Bool, true, false, zero, suc}
use Rattle.std.specs.Prelude.{Result, Ok, Err, not, ◌==◌, cond, slice_range}
use Rattle.std.specs.List.{prefix_len}
use Rattle.std.proofs.lemmas.List.{drop-drop, drop_all, length-drop}
use Rattle.std.proofs.Math.Seq.{drop-nil}
use Rattle.tib_lex.specs.Lines.{not_feed, push_byte, lines_of, front, with_line, each_line}
use Rattle.tib_lex.specs.NextLine.{IsNextLine}
use Rattle.tib_lex.specs.declared.lines.Line.{Line}
use Rattle.tib_lex.specs.declared.fault.FaultKind.{FaultKind}

pushed : (b : ℕ) (rest : List ℕ) (n : ℕ) → (0 < length rest → lines_of rest ≡ take n rest ∷ lines_of (drop (n + 1) rest)) → push_byte b (lines_of rest) ≡ (b ∷ take n rest) ∷ lines_of (drop (n + 1) rest)
pushed b [] zero h = refl
pushed b [] (suc n) h = rw (drop-nil {A = ℕ} (suc n + 1)) refl
pushed b (c ∷ rest) n h = ap (push_byte b) (h (omega arith))

first_line : (c : Bool) (b : ℕ) (rest : List ℕ) (n m : ℕ) → (0 < length rest → lines_of rest ≡ take n rest ∷ lines_of (drop (n + 1) rest)) → m ≡ cond (not c) (1 + n) 0 → cond c ([] ∷ lines_of rest) (push_byte b (lines_of rest)) ≡ take m (b ∷ rest) ∷ lines_of (drop (m + 1) (b ∷ rest))
first_line true b rest n m h e = rw e refl
first_line false b rest n m h e =
    let f : m ≡ suc n = omega (arith, e) in
    let g : suc n + 1 ≡ suc (n + 1) = omega arith in
    rw (f, g) (pushed b rest n h)

-- the lines are the first one and those after its line feed
pub lines_step : (xs : List ℕ) → 0 < length xs → lines_of xs ≡ take (prefix_len not_feed xs) xs ∷ lines_of (drop (prefix_len not_feed xs + 1) xs)
lines_step [] h = absurd (omega arith)
lines_step (b ∷ rest) h = first_line (b == 10) b rest (prefix_len not_feed rest) (prefix_len not_feed (b ∷ rest)) (lines_step rest) refl

behind_line : (bytes : List ℕ) (end next : ℕ) → ((end < length bytes) × (next ≡ end + 1)) ⊎ ((end ≡ length bytes) × (next ≡ end)) → drop (end + 1) bytes ≡ drop next bytes
behind_line bytes end next (inl h) = ap (λ (n : ℕ). drop n bytes) (sym h.1)
behind_line bytes end next (inr h) = drop_all (end + 1) bytes (omega arith) ∙ sym (drop_all next bytes (omega arith))

-- the lines from a place on are the one there and those after it
pub line_there : (bytes : List ℕ) (at end next : ℕ) → at < length bytes → end ≡ at + prefix_len not_feed (drop at bytes) → ((end < length bytes) × (next ≡ end + 1)) ⊎ ((end ≡ length bytes) × (next ≡ end)) → lines_of (drop at bytes) ≡ slice_range bytes at end ∷ lines_of (drop next bytes)
line_there bytes at end next more ends behind =
    let p : ℕ = prefix_len not_feed (drop at bytes) in
    let long = length-drop at bytes in
    let s : lines_of (drop at bytes) ≡ take p (drop at bytes) ∷ lines_of (drop (p + 1) (drop at bytes)) = lines_step (drop at bytes) (omega (arith, more)) in
    let d : drop (p + 1) (drop at bytes) ≡ drop (at + (p + 1)) bytes = drop-drop (p + 1) at bytes in
    let e : at + (p + 1) ≡ end + 1 = omega (arith, ends) in
    let l : p ≡ end - at = omega (arith, ends) in
    s ∙ ap (λ (n : ℕ). take n (drop at bytes) ∷ lines_of (drop (p + 1) (drop at bytes))) l
    ∙ ap (λ (x : List ℕ). slice_range bytes at end ∷ lines_of x) (d ∙ ap (λ (k : ℕ). drop k bytes) e ∙ behind_line bytes end next behind)

pub front_none : {X F : Type 0} (r : Result (List X) F) → front [] r ≡ r
front_none (Ok more) = refl
front_none (Err fault) = refl

pub front_more : {X F : Type 0} (done : List X) (x : X) (r : Result (List X) F) → front done (front (x ∷ []) r) ≡ front (done ++ x ∷ []) r
front_more done x (Ok more) = ap Ok (sym (append_assoc done (x ∷ []) more))
front_more done x (Err fault) = refl

-- what is read from a line on is what it gives, and what is read after it
pub line_read : {X : Type 0} (read : List ℕ → Result (Option X) FaultKind) (bytes : List ℕ) (n at : ℕ) (line : Line) → IsNextLine bytes n at line → each_line read n (lines_of (drop at bytes)) ≡ with_line n (read (slice_range bytes line.start line.end)) (each_line read (n + 1) (lines_of (drop line.next bytes)))
line_read read bytes n at line is =
    let m : suc n ≡ n + 1 = omega arith in
    ap (each_line read n) is.lines ∙ ap (λ (k : ℕ). with_line n (read (slice_range bytes line.start line.end)) (each_line read k (lines_of (drop line.next bytes)))) m

-- no line is left at the end
pub none_left : {X : Type 0} (read : List ℕ → Result (Option X) FaultKind) (bytes : List ℕ) (n at : ℕ) → at ≡ length bytes → each_line read n (lines_of (drop at bytes)) ≡ Ok []
none_left read bytes n at h = ap (λ (x : List ℕ). each_line read n (lines_of x)) (drop_all at bytes (omega arith))

pub line_found : (bytes : List ℕ) (number at p next : ℕ) → at < length bytes → p ≡ prefix_len not_feed (drop at bytes) → at + p ≤ length bytes → ((at + p < length bytes) × (next ≡ at + p + 1)) ⊎ ((at + p ≡ length bytes) × (next ≡ at + p)) → at < next → next ≤ length bytes → IsNextLine bytes number at (record { number = number; start = at; end = at + p; next = next })
line_found bytes number at p next more is within behind goes ahead = record {
  numbered = refl;
  starts = refl;
  ends = ap (λ (n : ℕ). at + n) is;
  order = omega arith;
  within = within;
  behind = behind;
  goes_on = goes;
  ahead = ahead;
  lines = line_there bytes at (at + p) next more (ap (λ (n : ℕ). at + n) is) behind;
}

-- at the end of the file the line is not empty
pub some_bytes : (bytes : List ℕ) (at p : ℕ) → at < length bytes → p ≡ prefix_len not_feed (drop at bytes) → at + p ≡ length bytes → at < at + p
some_bytes bytes at p more is end = omega arith
