-- What stays in buckets by shapes when a position could not be added.
use Rattle.std.specs.Prelude.{◌≡◌, ℕ, ◌<◌, List, [], ◌∷◌, ◌++◌, length, Option, None, Some, Result, Ok, Err, OnErr, refl}
use Rattle.std.specs.Global.{Vec}
use Rattle.std.proofs.Common.{ap, ◌∙◌, arith, get_or, set}
use Rattle.std.proofs.lemmas.List.{get_or_append_left, length-map, map-append}
use Rattle.std.proofs.Math.Seq.{map-set_same}
use Rattle.tib_grammar.specs.ShapeBuckets.{bucket_at, lists_of}

-- what holds for every result holds where the result is an error
pub on_error : {A E : Type 0} {P : Type 0} (r : Result A E) → P → OnErr r P
on_error (Ok a) p = tt
on_error (Err e) p = p

-- a bucket is replaced by one of the same positions
pub bucket_same :
    (buckets : List (Vec ℕ)) (i : ℕ) (v old : Vec ℕ) → v.items ≡ (get_or buckets i old).items → (o : Option ℕ) →
    bucket_at (lists_of (set buckets i v)) o ≡ bucket_at (lists_of buckets) o
bucket_same buckets i v old e o = ap (λ ls. bucket_at ls o) (map-set_same (λ (b : Vec ℕ). b.items) buckets i v old e)

-- a bucket that no shape has is after the others
pub bucket_before :
    (buckets : List (Vec ℕ)) (b : Vec ℕ) (o : Option ℕ) → ((i : ℕ) → o ≡ Some i → i < length buckets) → bucket_at (lists_of (buckets ++ b ∷ [])) o ≡ bucket_at (lists_of buckets) o
bucket_before buckets b None within = refl
bucket_before buckets b (Some i) within =
    ap (λ ls. get_or ls i []) (map-append (λ (b : Vec ℕ). b.items) buckets (b ∷ []))
    ∙ get_or_append_left (lists_of buckets) (b.items ∷ []) [] i (omega (arith, within i refl, length-map buckets (λ (b : Vec ℕ). b.items)))
