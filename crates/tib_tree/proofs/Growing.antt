-- How tables grow.
use Rattle.std.proofs.Common.{◌≡◌, ℕ, ◌<◌, ◌≤◌, ◌⊎◌, inl, inr, List, [], ◌∷◌, ◌++◌, length, get_or, refl, ap, sym, ◌∙◌, subst, arith, Bool, true, false, map, Contains, zero, suc}
use Rattle.std.specs.Prelude.{nat_lt}
use Rattle.std.proofs.lemmas.Bool.Decides.{nat_tests}
use Rattle.std.specs.Prelude.{slice_get, Some, if◌then◌else◌}
use Rattle.std.proofs.lemmas.Option.{slice_get_within, get_or_from_slice_get, slice_get-get_or}
use Rattle.std.proofs.lemmas.List.{get_or_append_left, length-append, map-append}
use Rattle.std.specs.Global.{Vec}
use Rattle.std.specs.Prelude.{nat_eq}
use Rattle.std.specs.Cmp.Lexicographic.{pointwise}
use Rattle.std.specs.List.{list_any}
use Rattle.indexmap.specs.IndexSet.{insert_key}
use Rattle.tib_tree.specs.Grows.{Grows, AreDistinct}
use Rattle.tib_lex.proofs.Booleans.{bool_cases}

pub grows_not : (a b : List (List ℕ)) → b ≡ a → Grows a b
grows_not a b e = record { kept = λ n text h. subst (λ (l : List (List ℕ)). slice_get l n ≡ Some text) (sym e) h }

pub grows_twice : (a b c : List (List ℕ)) → Grows a b → Grows b c → Grows a c
grows_twice a b c g h = record { kept = λ n text e. h.kept n text (g.kept n text e) }

more_kept : (a more : List (List ℕ)) (n : ℕ) (text : List ℕ) → slice_get a n ≡ Some text → slice_get (a ++ more) n ≡ Some text
more_kept a more n text e =
    let w = slice_get_within a n text e in
    let l = length-append a more in
    slice_get-get_or (a ++ more) n [] (omega arith) ∙ ap Some (get_or_append_left a more [] n w ∙ get_or_from_slice_get a n text [] e)

pub grows_more : (a b more : List (List ℕ)) → b ≡ a ++ more → Grows a b
grows_more a b more e = record { kept = λ n text h. subst (λ (l : List (List ℕ)). slice_get l n ≡ Some text) (sym e) (more_kept a more n text h) }

either_grows : (b : Bool) (before : List (List ℕ)) (keys now : List (Vec ℕ)) (k : Vec ℕ) → map (λ v. v.items) keys ≡ before → now ≡ (if b then keys else keys ++ k ∷ []) → Grows before (map (λ v. v.items) now)
either_grows true before keys now k is e = grows_not before _ (ap (map (λ v. v.items)) e ∙ is)
either_grows false before keys now k is e =
    grows_more before _ (k.items ∷ []) (ap (map (λ v. v.items)) e ∙ map-append (λ v. v.items) keys (k ∷ []) ∙ ap (λ (l : List (List ℕ)). l ++ k.items ∷ []) is)

pub insert_grows : (eq : Vec ℕ → Vec ℕ → Bool) (before : List (List ℕ)) (keys now : List (Vec ℕ)) (k : Vec ℕ) → map (λ v. v.items) keys ≡ before → now ≡ insert_key eq keys k → Grows before (map (λ v. v.items) now)
insert_grows eq before keys now k is e = either_grows (list_any (eq k) keys) before keys now k is e

apart : (b : Bool) (keys : List (Vec ℕ)) (k : Vec ℕ) → false ≡ b → (if b then keys else keys ++ k ∷ []) ≡ keys ++ k ∷ []
apart true keys k e = cc
apart false keys k e = refl

pub insert_adds : (before : List (List ℕ)) (text : List ℕ) (keys now : List (Vec ℕ)) (k : Vec ℕ) → map (λ v. v.items) keys ≡ before → k.items ≡ text → false ≡ list_any (λ v. pointwise nat_eq text v.items) keys → now ≡ insert_key (λ a b. pointwise nat_eq a.items b.items) keys k → map (λ v. v.items) now ≡ before ++ text ∷ []
insert_adds before text keys now k is same none e =
    let f : false ≡ list_any (λ v. pointwise nat_eq k.items v.items) keys = none ∙ ap (λ (t : List ℕ). list_any (λ v. pointwise nat_eq t v.items) keys) (sym same) in
    ap (map (λ v. v.items)) (e ∙ apart (list_any (λ v. pointwise nat_eq k.items v.items) keys) keys k f)
    ∙ map-append (λ v. v.items) keys (k ∷ [])
    ∙ ap (λ (l : List (List ℕ)). l ++ k.items ∷ []) is
    ∙ ap (λ (t : List ℕ). before ++ t ∷ []) same

-- a new text keeps them distinct
last_at : (a : List (List ℕ)) (text d : List ℕ) (k : ℕ) → k ≡ length a → get_or (a ++ text ∷ []) k d ≡ text
last_at [] text d zero e = refl
last_at [] text d (suc k) e = absurd (omega arith)
last_at (x ∷ a) text d zero e = absurd (omega arith)
last_at (x ∷ a) text d (suc k) e = last_at a text d k (omega arith)

found_before : (a : List (List ℕ)) (text t : List ℕ) (m : ℕ) → slice_get (a ++ text ∷ []) m ≡ Some t → m < length a → slice_get a m ≡ Some t
found_before a text t m e h =
    slice_get-get_or a m [] h ∙ ap Some (sym (get_or_append_left a (text ∷ []) [] m h) ∙ get_or_from_slice_get (a ++ text ∷ []) m t [] e)

found_last : (a : List (List ℕ)) (text t : List ℕ) (m : ℕ) → slice_get (a ++ text ∷ []) m ≡ Some t → length a ≤ m → (m ≡ length a) × (t ≡ text)
found_last a text t m e h =
    let w = slice_get_within (a ++ text ∷ []) m t e in
    let l = length-append a (text ∷ []) in
    let same : m ≡ length a = omega arith in
    (same, sym (get_or_from_slice_get (a ++ text ∷ []) m t [] e) ∙ last_at a text [] m same)

before_or_last : (a : List (List ℕ)) (m : ℕ) → (m < length a) ⊎ (length a ≤ m)
before_or_last a m = elim (bool_cases (nat_lt m (length a))) [ inl h ↦ inl (grind (arith, nat_tests)) | inr h ↦ inr (grind (arith, nat_tests)) ]

pub holds_text : (a : List (List ℕ)) (text : List ℕ) (m : ℕ) → slice_get a m ≡ Some text → Contains a text
holds_text a text m e = (m, slice_get_within a m text e, get_or_from_slice_get a m text text e)

once_more : (a : List (List ℕ)) (text : List ℕ) (m n : ℕ) (t : List ℕ) → AreDistinct a → (Contains a text → ⊥) → slice_get (a ++ text ∷ []) m ≡ Some t → slice_get (a ++ text ∷ []) n ≡ Some t → (m < length a) ⊎ (length a ≤ m) → (n < length a) ⊎ (length a ≤ n) → m ≡ n
once_more a text m n t d new e f (inl h) (inl k) = d.once m n t (found_before a text t m e h) (found_before a text t n f k)
once_more a text m n t d new e f (inl h) (inr k) =
    let l = found_last a text t n f k in
    absurd (new (holds_text a text m (found_before a text t m e h ∙ ap Some l.1)))
once_more a text m n t d new e f (inr h) (inl k) =
    let l = found_last a text t m e h in
    absurd (new (holds_text a text n (found_before a text t n f k ∙ ap Some l.1)))
once_more a text m n t d new e f (inr h) (inr k) = (found_last a text t m e h).0 ∙ sym (found_last a text t n f k).0

-- a table with one more text
pub distinct_added : (before now : List (List ℕ)) (text : List ℕ) → AreDistinct before → (Contains before text → ⊥) → now ≡ before ++ text ∷ [] → AreDistinct now
distinct_added before now text d new e =
    subst (λ (l : List (List ℕ)). AreDistinct l) (sym e) (record { once = λ m n t f g. once_more before text m n t d new f g (before_or_last before m) (before_or_last before n) })
