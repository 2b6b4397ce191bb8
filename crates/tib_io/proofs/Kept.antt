-- Calls after those that left the known bytes as they were.
use Rattle.std.proofs.Common.{ℕ, List, None, Some, Result, Ok, Err, take, subst}
use Rattle.std.specs.Prelude.{Option}
use Rattle.std.specs.Io.KnownBytes.{Keeps, Appends, Consumes, ReadConsumes, WriteAppends}
use Rattle.std.proofs.KnownBytes.{Keeps-refl, Keeps-trans}

pub keeps_same : (a : Option (List ℕ)) → Keeps a a
keeps_same a = Keeps-refl a

pub keeps_more : (a b c : Option (List ℕ)) → Keeps a b → Keeps b c → Keeps a c
keeps_more a b c k l = Keeps-trans a b c k l

pub read_later : {E : Type 0} (a b c : Option (List ℕ)) (r : Result ℕ E) (buf : List ℕ) → Keeps a b → ReadConsumes b c r buf → ReadConsumes a c r buf
read_later a b c (Err e) buf k p = Keeps-trans a b c k p
read_later None b c (Ok n) buf k p = (tt, p.1)
read_later (Some x) None c (Ok n) buf k p = absurd k
read_later (Some x) (Some y) c (Ok n) buf k p = (subst (λ l. Consumes (Some l) c (take n buf)) k p.0, p.1)

pub write_later : {E : Type 0} (a b c : Option (List ℕ)) (r : Result ℕ E) (buf : List ℕ) → Keeps a b → WriteAppends b c r buf → WriteAppends a c r buf
write_later a b c (Err e) buf k p = Keeps-trans a b c k p
write_later None b c (Ok n) buf k p = tt
write_later (Some x) None c (Ok n) buf k p = absurd k
write_later (Some x) (Some y) c (Ok n) buf k p = subst (λ l. Appends (Some l) c (take n buf)) k p
