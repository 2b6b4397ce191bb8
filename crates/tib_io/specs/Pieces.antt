-- Laws of what a sink takes, one piece after another.
use Rattle.std.proofs.Common.{◌≡◌, ℕ, ◌+◌, ◌-◌, ◌≤◌, List, ◌++◌, length, take, Option, arith, append_assoc, length-append, ap, ◌∙◌, subst}
use Rattle.std.specs.Prelude.{Some, None}
use Rattle.std.proofs.Math.Seq.{take-length as take_length, take-append-add}
use Rattle.std.proofs.lemmas.List.{take-append-le}
use Rattle.tib_io.specs.Writes.{SinkSeen, Appends, Falls, Takes, TakesFront}

appends_more : (a b c : Option (List ℕ)) (xs ys : List ℕ) → Appends a b xs → Appends b c ys →
    Appends a c (xs ++ ys)
appends_more None b c xs ys p q =
    let h : Appends None c ys = subst (λ (o : Option (List ℕ)). Appends o c ys) p q in h
appends_more (Some old) b c xs ys p q =
    let h : Appends (Some (old ++ xs)) c ys = subst (λ (o : Option (List ℕ)). Appends o c ys) p q in
    h ∙ ap (λ (l : List ℕ). Some l) (append_assoc old xs ys)

falls_more : (a b c : Option ℕ) (m n : ℕ) → Falls a b m → Falls b c n → Falls a c (m + n)
falls_more None b c m n p q =
    let h : Falls None c n = subst (λ (o : Option ℕ). Falls o c n) p q in h
falls_more (Some old) b c m n p q =
    let h : Falls (Some (old - m)) c n = subst (λ (o : Option ℕ). Falls o c n) p.1 q in
    let e : old - m - n ≡ old - (m + n) = omega arith in
    (omega (arith, p.0, h.0), h.1 ∙ ap (λ (k : ℕ). Some k) e)

-- two pieces that were taken one after the other were taken as one
pub takes_more : (a b c : SinkSeen) (xs ys : List ℕ) → Takes a b xs → Takes b c ys →
    Takes a c (xs ++ ys)
takes_more a b c xs ys p q = record {
  written = appends_more a.written b.written c.written xs ys p.written q.written;
  free =
      let all : Falls a.free c.free (length xs + length ys) =
      falls_more a.free b.free c.free (length xs) (length ys) p.free q.free in
      rw length-append all;
}

-- a whole piece is a front of itself
pub front_whole : (a b : SinkSeen) (xs : List ℕ) → Takes a b xs → TakesFront a b xs
front_whole a b xs p =
    record { count = length xs; within = omega arith; front = rw take_length p }

-- a whole piece, and then a front of the next
pub front_later : (a b c : SinkSeen) (xs ys : List ℕ) → Takes a b xs → TakesFront b c ys →
    TakesFront a c (xs ++ ys)
front_later a b c xs ys p q =
    let n : ℕ = q.count in
    let all : Takes a c (xs ++ take n ys) = takes_more a b c xs (take n ys) p q.front in
    let le : n ≤ length ys = q.within in
    let e : length (xs ++ ys) ≡ length xs + length ys = length-append xs ys in
    record { count = length xs + n; within = omega arith; front = rw (take-append-add xs ys n) all }

-- a front of the first piece is a front of all
pub front_first : (a b : SinkSeen) (xs ys : List ℕ) → TakesFront a b xs → TakesFront a b (xs ++ ys)
front_first a b xs ys p =
    let n : ℕ = p.count in
    let le : n ≤ length xs = p.within in
    let e : length (xs ++ ys) ≡ length xs + length ys = length-append xs ys in
    record { count = n; within = omega arith; front = rw (take-append-le n xs ys le) p.front }
