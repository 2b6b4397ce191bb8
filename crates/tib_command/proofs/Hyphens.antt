-- A hyphen alone that clap takes as an option's value is refused where the value is read.
use Rattle.std.proofs.Common.{◌≡◌, ◌∙◌, ◌||◌, ℕ, Bool, cond, true, false, refl, sym, ap, subst, true≢false, List, [], ◌∷◌, Option, Some, None, option_map}
use Rattle.std.specs.Prelude.{option_and_then}
use Rattle.std.specs.List.{list_any}
use Rattle.std.specs.Str.{bytes_eq}
use Rattle.std.proofs.lemmas.Slice.Eq.{bytes_eq-Decides}
use Rattle.tib_command.specs.declared.job.Mode.{Mode}
use Rattle.tib_command.specs.declared.job.Mode.TheVariants.{MinPlus}
use Rattle.tib_command.specs.Words.{Text, Part, mode, depth, workers, limit, beam, place, said, begins, reads, then_reads, Item, and_item, values_of, same_part}
use Rattle.tib_command.specs.Command.{takes, then_takes}
use Rattle.tib_command.specs.Jobs.{most_parts, most_trees, most_workers, Asked, AskedFor, asked_by, beam_in, count_in, mode_in, once, task_in}
use Rattle.tib_command.proofs.Views.{View, plain_view, ends_view, option_view, refused_view, view, is_option}
use Rattle.tib_command.proofs.Walks.{AllUtf8, not_waited}

abbrev pub asked_from : Option Mode → Option ℕ → Option ℕ → Option ℕ → Option ℕ → Option AskedFor → Option Asked
asked_from md k w l b t =
    option_and_then (λ md. option_and_then (λ k. option_and_then (λ w. option_and_then (λ l. option_and_then (λ b.
    option_map (λ t. record { mode = md; k = k; workers = w; limit = l; beam = b; task = t }) t) b) l) w) k) md

abbrev is_hyphen : Text → Bool
is_hyphen text = bytes_eq text (45 ∷ [])

-- an option has the value `-`
abbrev HasHyphen : List Item → Type 0
HasHyphen items = (p : Part) × (is_option p ≡ true) × (list_any is_hyphen (values_of p items) ≡ true)

-- what is refused by `reads` alone has such an option
abbrev Differs : Option (List Item) → Option (List Item) → Type 0
Differs (Some xs) other = other ≡ Some xs
Differs None None = Unit {0}
Differs None (Some xs) = HasHyphen xs

or_true : (b : Bool) → (b || true) ≡ true
or_true true = refl
or_true false = refl

more_hyphens : (i : Item) (items : List Item) → HasHyphen items → HasHyphen (i ∷ items)
more_hyphens i items h = (h.0, h.1, go (same_part i.0 h.0))
  where
    go : (b : Bool) → list_any is_hyphen (cond b (i.1 ∷ values_of h.0 items) (values_of h.0 items)) ≡ true
    go true = ap (λ x. is_hyphen i.1 || x) h.2 ∙ or_true (is_hyphen i.1)
    go false = h.2

with_item : (p : Part) (v : Text) (a b : Option (List Item)) → Differs a b → Differs (and_item p v a) (and_item p v b)
with_item p v (Some xs) b h = ap (and_item p v) h
with_item p v None None h = tt
with_item p v None (Some xs) h = more_hyphens (p, v) xs h

same_self : (p : Part) → same_part p p ≡ true
same_self mode = refl
same_self depth = refl
same_self workers = refl
same_self limit = refl
same_self beam = refl
same_self place = refl

hyphen_item : (p : Part) (v : Text) (b : Option (List Item)) → is_option p ≡ true → v ≡ 45 ∷ [] → Differs None (and_item p v b)
hyphen_item p v None o e = tt
hyphen_item p v (Some xs) o e = (p, o, ap (λ c. list_any is_hyphen (cond c (v ∷ values_of p xs) (values_of p xs))) (same_self p) ∙ ap (λ t. is_hyphen t || list_any is_hyphen (values_of p xs)) e)

at_equal : (a a' b b' : Option (List Item)) → a ≡ a' → b ≡ b' → Differs a' b' → Differs a b
at_equal a a' b b' e f h = subst (λ x. x) (λ i. Differs (sym e i) (sym f i)) h

abbrev Waits : Option Part → Type 0
Waits None = Unit {0}
Waits (Some p) = is_option p ≡ true

pub differs : (words : List Text) → AllUtf8 words → (m : Option Part) → Waits m → Differs (reads words m) (takes words m)
unfolding reads takes
differs [] u None o = refl
differs [] u (Some p) o = tt
differs (w ∷ rest) u None o = go (view w u.0) (differs rest u.1)
  where
    go : View w → ((m : Option Part) → Waits m → Differs (reads rest m) (takes rest m)) → Differs (then_reads (said w) rest (reads rest)) (then_reads (said w) rest (takes rest))
    go (plain_view s h f m) next = at_equal _ _ _ _ (ap (λ x. then_reads x rest (reads rest)) s) (ap (λ x. then_reads x rest (takes rest)) s) (with_item place w _ _ (next None tt))
    go (ends_view s h f m) next = at_equal _ _ _ _ (ap (λ x. then_reads x rest (reads rest)) s) (ap (λ x. then_reads x rest (takes rest)) s) refl
    go (option_view p None isopt s h f m) next = at_equal _ _ _ _ (ap (λ x. then_reads x rest (reads rest)) s) (ap (λ x. then_reads x rest (takes rest)) s) (next (Some p) isopt)
    go (option_view p (Some v) isopt s h f m) next = at_equal _ _ _ _ (ap (λ x. then_reads x rest (reads rest)) s) (ap (λ x. then_reads x rest (takes rest)) s) (with_item p v _ _ (next None tt))
    go (refused_view s h f) next = at_equal _ _ _ _ (ap (λ x. then_reads x rest (reads rest)) s) (ap (λ x. then_reads x rest (takes rest)) s) tt
differs (w ∷ rest) u (Some p) o = go (view w u.0) (differs rest u.1 None tt)
  where
    go : View w → Differs (reads rest None) (takes rest None) → Differs (cond (begins w) None (and_item p w (reads rest None))) (then_takes (Some p) (said w) rest (takes rest))
    go (plain_view s h f m) next = at_equal _ _ _ _ refl (ap (λ x. then_takes (Some p) x rest (takes rest)) s) (by (begins w) refl)
      where
        by : (b : Bool) → begins w ≡ b → Differs (cond (begins w) None (and_item p w (reads rest None))) (and_item p w (takes rest None))
        by true e = at_equal _ _ _ _ (ap (λ b. cond b None (and_item p w (reads rest None))) e) refl (hyphen_item p w (takes rest None) o (h e))
        by false e = at_equal _ _ _ _ (ap (λ b. cond b None (and_item p w (reads rest None))) e) refl (with_item p w _ _ next)
    go (ends_view s h f m) next = at_equal _ _ _ _ (ap (λ b. cond b None (and_item p w (reads rest None))) h) (ap (λ x. then_takes (Some p) x rest (takes rest)) s) tt
    go (option_view q v isopt s h f m) next = at_equal _ _ _ _ (ap (λ b. cond b None (and_item p w (reads rest None))) h) (ap (λ x. then_takes (Some p) x rest (takes rest)) s ∙ not_waited p q v rest (takes rest) isopt) tt
    go (refused_view s h f) next = at_equal _ _ _ _ (ap (λ b. cond b None (and_item p w (reads rest None))) h) (ap (λ x. then_takes (Some p) x rest (takes rest)) s) tt

-- ---- the value `-` is no mode and no number

no_once : {X : Type 0} (default : X) (read : Text → Option X) (vs : List Text) → read (45 ∷ []) ≡ None → list_any is_hyphen vs ≡ true → once default read vs ≡ None
no_once default read [] none e = absurd (true≢false (sym e))
no_once default read (v ∷ []) none e = ap read ((bytes_eq-Decides v (45 ∷ [])).0 (first (is_hyphen v) e)) ∙ none
  where
    first : (b : Bool) → (b || false) ≡ true → b ≡ true
    first true h = refl
    first false h = h
no_once default read (v ∷ w ∷ rest) none e = refl

no_k : (md : Option Mode) (w l b : Option ℕ) (t : Option AskedFor) → asked_from md None w l b t ≡ None
no_k None w l b t = refl
no_k (Some md) w l b t = refl

no_w : (md : Option Mode) (k l b : Option ℕ) (t : Option AskedFor) → asked_from md k None l b t ≡ None
no_w None k l b t = refl
no_w (Some md) None l b t = refl
no_w (Some md) (Some k) l b t = refl

no_l : (md : Option Mode) (k w b : Option ℕ) (t : Option AskedFor) → asked_from md k w None b t ≡ None
no_l None k w b t = refl
no_l (Some md) None w b t = refl
no_l (Some md) (Some k) None b t = refl
no_l (Some md) (Some k) (Some w) b t = refl

no_b : (md : Option Mode) (k w l : Option ℕ) (t : Option AskedFor) → asked_from md k w l None t ≡ None
no_b None k w l t = refl
no_b (Some md) None w l t = refl
no_b (Some md) (Some k) None l t = refl
no_b (Some md) (Some k) (Some w) None t = refl
no_b (Some md) (Some k) (Some w) (Some l) t = refl

module _ (items : List Item) where
  abbrev md : Option Mode
  md = once MinPlus mode_in (values_of mode items)

  abbrev k : Option ℕ
  k = once 1 (count_in most_trees) (values_of depth items)

  abbrev w : Option ℕ
  w = once 1 (count_in most_workers) (values_of workers items)

  abbrev l : Option ℕ
  l = once most_parts (count_in most_parts) (values_of limit items)

  abbrev b : Option ℕ
  b = once 0 beam_in (values_of beam items)

  abbrev t : Option AskedFor
  t = task_in (values_of place items)

  no_job : (p : Part) → is_option p ≡ true → list_any is_hyphen (values_of p items) ≡ true → asked_by items ≡ None
  no_job mode o e = ap (λ m. asked_from m k w l b t) (no_once MinPlus mode_in (values_of mode items) refl e)
  no_job depth o e = ap (λ n. asked_from md n w l b t) (no_once 1 (count_in most_trees) (values_of depth items) refl e) ∙ no_k md w l b t
  no_job workers o e = ap (λ n. asked_from md k n l b t) (no_once 1 (count_in most_workers) (values_of workers items) refl e) ∙ no_w md k l b t
  no_job limit o e = ap (λ n. asked_from md k w n b t) (no_once most_parts (count_in most_parts) (values_of limit items) refl e) ∙ no_l md k w b t
  no_job beam o e = ap (λ n. asked_from md k w l n t) (no_once 0 beam_in (values_of beam items) refl e) ∙ no_b md k w l t
  no_job place o e = absurd (true≢false (sym o))

asked_same : (a b : Option (List Item)) → Differs a b → option_and_then asked_by a ≡ option_and_then asked_by b
asked_same (Some xs) b h = ap (option_and_then asked_by) (sym h)
asked_same None None h = refl
asked_same None (Some xs) h = sym (no_job xs h.0 h.1 h.2)

pub job_same : (words : List Text) → AllUtf8 words → option_and_then asked_by (reads words None) ≡ option_and_then asked_by (takes words None)
job_same words u = asked_same _ _ (differs words u None tt)
