-- Laws of a text that is written piece by piece.
use Rattle.std.proofs.Common.{◌≡◌, ℕ, ◌+◌, ◌-◌, ◌<◌, ◌≤◌, List, [], ◌∷◌, ◌++◌, length, refl, ap, sym, ◌∙◌, subst, arith, append-nil, length-append, Option, Bool, true, false}
use Rattle.std.specs.Prelude.{Some, None, Result, Ok, Err, IsOk, OnOk}
use Rattle.tib_io.specs.Pieces.{takes_more, front_later, front_first}
use Rattle.tib_io.specs.Writes.{SinkSeen, Appends, Falls, Calm, Succeeds}
use Rattle.tib_io.specs.Wrote.{Wrote}

succeeds_more : {T E : Type 0} (f g : Option ℕ) (m n a b : ℕ) (r : Result T E) → Falls f g m →
    b ≡ a → Succeeds g n b r → Succeeds f (m + n) a r
succeeds_more None g m n a b r p e s = tt
succeeds_more (Some free) g m n a b r p e s = λ fits below.
    let h : Succeeds (Some (free - m)) n b r = subst (λ (o : Option ℕ). Succeeds o n b r) p.1 s in
    h (omega arith) (omega arith)

-- a result that is Ok where another one is, for a longer text
fine : {S D T E : Type 0} (f : Option ℕ) (m n a : ℕ) (r : Result T E) (s : Result S D) →
    (IsOk r → IsOk s) → m ≤ n → Succeeds f m a r → Succeeds f n a s
fine None m n a r s to le h = tt
fine (Some free) m n a r s to le h = λ fits below. to (h (omega arith) below)

-- after a first text that was written and a second one
written_more : (xs ys : List ℕ) (b c : Bool) → (0 < length xs → b ≡ false) → (b ≡ false → c ≡ false) →
    (0 < length ys → c ≡ false) → 0 < length (xs ++ ys) → c ≡ false
written_more [] ys b c p k q h = q h
written_more (x ∷ xs) ys b c p k q h = k (p (omega arith))

-- no call failed so far
abbrev pub no_failure : Result (Unit {0}) ℕ
no_failure = Ok tt

abbrev pub HasWritten : SinkSeen → SinkSeen → List ℕ → Type 0
HasWritten old new text = Wrote old new text no_failure

same_list : (w : Option (List ℕ)) → Appends w w []
same_list None = refl
same_list (Some old) = ap (λ (l : List ℕ). Some l) (sym (append-nil old))

same_room : (f : Option ℕ) → Falls f f 0
same_room None = refl
same_room (Some n) = (omega arith, ap (λ (k : ℕ). Some k) (omega arith))

good : {T E : Type 0} (f : Option ℕ) (n a : ℕ) (r : Result T E) → IsOk r → Succeeds f n a r
good None n a r h = tt
good (Some free) n a r h = λ fits below. h

-- nothing
pub wrote_none : (a : SinkSeen) → HasWritten a a []
wrote_none a = record {
  ok = record { written = same_list a.written; free = same_room a.free };
  err = tt;
  cause = tt;
  steady = refl;
  later = omega arith;
  succeeds = good a.free 0 a.faults no_failure refl;
  unfinished = λ h. h;
  written = λ h. absurd (omega arith);
  broken = tt;
}

-- a piece after what was written
pub wrote_more : {S D T E : Type 0} (a b c : SinkSeen) (xs ys : List ℕ) (done : S)
    (q : Result S D) (r : Result T E) → q ≡ Ok done → Wrote a b xs q → Wrote b c ys r →
    Wrote a c (xs ++ ys) r
wrote_more a b c xs ys done (Err e) r is p q = absurd (cc)
wrote_more a b c xs ys done (Ok _) (Ok more) is p q = record {
  ok = takes_more a b c xs ys p.ok q.ok;
  err = tt;
  cause = tt;
  steady = q.steady ∙ p.steady;
  later = omega (arith, p.later, q.later);
  succeeds = rw length-append (succeeds_more a.free b.free (length xs) (length ys) a.faults b.faults (Ok more) p.ok.free p.steady q.succeeds);
  unfinished = λ h. q.unfinished (p.unfinished h);
  written = written_more xs ys b.finished c.finished p.written q.unfinished q.written;
  broken = tt;
}
wrote_more a b c xs ys done (Ok _) (Err e) is p q = record {
  ok = tt;
  err = front_later a b c xs ys p.ok q.err;
  cause = omega (arith, p.later, q.cause);
  steady = tt;
  later = omega (arith, p.later, q.later);
  succeeds = rw length-append (succeeds_more a.free b.free (length xs) (length ys) a.faults b.faults (Err e) p.ok.free p.steady q.succeeds);
  unfinished = λ h. q.broken;
  written = λ h. q.broken;
  broken = q.broken;
}

-- a failure before the rest was written
pub wrote_less : {S D T E : Type 0} (a b : SinkSeen) (xs ys : List ℕ) (e : D) (k : E)
    (q : Result S D) (r : Result T E) → q ≡ Err e → r ≡ Err k → Wrote a b xs q →
    Wrote a b (xs ++ ys) r
wrote_less a b xs ys e k (Ok d) r is so p = absurd (cc)
wrote_less a b xs ys e k (Err _) (Ok d) is so p = absurd (cc)
wrote_less a b xs ys e k (Err d) (Err l) is so p = record {
  ok = tt;
  err = front_first a b xs ys p.err;
  cause = p.cause;
  steady = tt;
  later = p.later;
  succeeds = fine a.free (length xs) (length (xs ++ ys)) a.faults (Err d) (Err l) (λ no_way. let bad : false ≡ true = no_way in absurd (cc)) (omega (arith, length-append xs ys)) p.succeeds;
  unfinished = λ h. p.broken;
  written = λ h. p.broken;
  broken = p.broken;
}

-- what was written, whatever the value of the call
pub wrote_as : {S D T E : Type 0} (a b : SinkSeen) (xs ys : List ℕ) (done : S) (more : T)
    (q : Result S D) (r : Result T E) → q ≡ Ok done → r ≡ Ok more → xs ≡ ys → Wrote a b xs q →
    Wrote a b ys r
wrote_as a b xs ys done more (Err e) r is so same p = absurd (cc)
wrote_as a b xs ys done more (Ok d) (Err e) is so same p = absurd (cc)
wrote_as {S} {D} {T} {E} a b xs ys done more (Ok d) (Ok m) is so same p =
    let all : Wrote {T = T} {E = E} a b xs (Ok m) = record {
      ok = p.ok;
      err = tt;
      cause = tt;
      steady = p.steady;
      later = p.later;
      succeeds = good a.free (length xs) a.faults (Ok m) refl;
      unfinished = p.unfinished;
      written = p.written;
      broken = tt;
    } in
    subst (λ (l : List ℕ). Wrote {T = T} {E = E} a b l (Ok m)) same all

-- the same text
pub wrote_same : {T E : Type 0} (a b : SinkSeen) (xs ys : List ℕ) (r : Result T E) → xs ≡ ys →
    Wrote a b xs r → Wrote a b ys r
wrote_same a b xs ys r same p = subst (λ (l : List ℕ). Wrote a b l r) same p

calm_of : {T E : Type 0} (f : Option ℕ) (n a b : ℕ) (r : Result T E) → Succeeds f n a r →
    OnOk r (b ≡ a) → Calm f n a b
calm_of None n a b r s e = tt
calm_of (Some free) n a b (Ok d) s e = λ fits below. e
calm_of (Some free) n a b (Err d) s e = λ fits below.
    let bad : false ≡ true = s fits below in
    absurd (cc)

-- the count does not change where there is known to be room for the text
pub is_calm : {T E : Type 0} (a b : SinkSeen) (xs : List ℕ) (r : Result T E) → Wrote a b xs r →
    Calm a.free (length xs) a.faults b.faults
is_calm a b xs r p = calm_of a.free (length xs) a.faults b.faults r p.succeeds p.steady

-- a piece, and then the rest of a text
pub joined : {S D T E : Type 0} (a b c : SinkSeen) (xs ys zs : List ℕ) (done : S)
    (q : Result S D) (r : Result T E) → q ≡ Ok done → xs ++ ys ≡ zs → Wrote a b xs q →
    Wrote b c ys r → Wrote a c zs r
joined a b c xs ys zs done q r is same p piece =
    wrote_same a c (xs ++ ys) zs r same (wrote_more a b c xs ys done q r is p piece)

-- a failure before the rest of a text
pub cut_off : {S D T E : Type 0} (a b : SinkSeen) (xs ys zs : List ℕ) (e : D) (k : E)
    (q : Result S D) (r : Result T E) → q ≡ Err e → r ≡ Err k → xs ++ ys ≡ zs → Wrote a b xs q →
    Wrote a b zs r
cut_off a b xs ys zs e k q r is so same p =
    wrote_same a b (xs ++ ys) zs r same (wrote_less a b xs ys e k q r is so p)

-- one more piece
pub goes_on : {T E : Type 0} (a b c : SinkSeen) (xs ys zs : List ℕ) (done : T) (r : Result T E) →
    r ≡ Ok done → xs ++ ys ≡ zs → HasWritten a b xs → Wrote b c ys r → HasWritten a c zs
goes_on a b c xs ys zs done r is same p q =
    wrote_as a c (xs ++ ys) zs done tt r no_failure is refl same (wrote_more a b c xs ys tt no_failure r refl p q)

-- a failure at a piece after what was written, in front of the rest of a text
pub stopped : {S D T E : Type 0} (a b c : SinkSeen) (xs ys zs all : List ℕ) (e : D) (k : E)
    (q : Result S D) (r : Result T E) → q ≡ Err e → r ≡ Err k → (xs ++ ys) ++ zs ≡ all →
    HasWritten a b xs → Wrote b c ys q → Wrote a c all r
stopped a b c xs ys zs all e k q r is so same p piece =
    wrote_same a c ((xs ++ ys) ++ zs) all r same (wrote_less a c (xs ++ ys) zs e k q r is so (wrote_more a b c xs ys tt no_failure q refl p piece))
