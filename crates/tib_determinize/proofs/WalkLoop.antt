-- The loop of a walk over its levels.
use Rattle.std.specs.Prelude.{◌≡◌, ℕ, ◌+◌, ◌-◌, ◌^◌, ◌<◌, ◌≤◌, Bool, List, [], ◌∷◌, ◌++◌, length, Option, None, Some, refl}
use Rattle.std.proofs.Common.{zero, suc, arith, ap, sym, ◌∙◌, subst, append_assoc, append-nil}
use Rattle.tib_lex.specs.Lists.{Has, Each}
use Rattle.tib_grammar.specs.declared.Rule.{Rule}
use Rattle.tib_determinize.specs.declared.walk.Level.{Level}
use Rattle.tib_determinize.specs.declared.listing.VectorListing.{VectorListing}
use Rattle.tib_determinize.specs.Vectors.{VectorOf, Rises}
use Rattle.tib_determinize.specs.Tries.{first_at, many_at, span, under, behind_label}
use Rattle.tib_determinize.specs.Levels.{IsLevel, IsWanted, moved, copies, level_list, past, pending, pending_below, steps_at, steps_of, tries_of}
use Rattle.tib_determinize.specs.Stepped.{IsUnderway, StepsOverrun}
use Rattle.tib_determinize.proofs.Underway.{underway_begins, underway_goes_on, overrun_next}
use Rattle.tib_determinize.proofs.PositionsTried.{ends_up_to}
use Rattle.tib_determinize.proofs.Visits.{only_one, tries_fresh}
use Rattle.tib_determinize.proofs.Skipping.{labelled_append, is_skipped}
use Rattle.tib_determinize.proofs.Underway.{underway_skips}
use Rattle.tib_grammar.specs.Forms.{AreNormal}
use Rattle.tib_cost.specs.Semiring.{ProductLaws}
use Rattle.tib_lex.proofs.Lists.{each_append}
use Rattle.tib_determinize.specs.Alive.{AreLeft}

-- what is pending of one more level
pub pending_more : (n j : ℕ) (ls : List Level) (l : Level) → pending n j (ls ++ l ∷ []) ≡ tries_of n j l ++ pending n j ls
pending_more n j [] l = sym (append-nil (tries_of n j l))
pending_more n j (x ∷ ls) l = ap (λ (xs : List (List ℕ)). xs ++ tries_of n j x) (pending_more n j ls l) ∙ append_assoc (tries_of n j l) (pending n j ls) (tries_of n j x)

-- and of a level with one below it
pub pending_pushed : (n j : ℕ) (ls : List Level) (l : Level) (below : Option Level) → pending n j (ls ++ l ∷ level_list below) ≡ pending_below n j below ++ (tries_of n j l ++ pending n j ls)
pending_pushed n j ls l None = pending_more n j ls l
pending_pushed n j ls l (Some b) =
    ap (pending n j) (sym (append_assoc ls (l ∷ []) (b ∷ []))) ∙ pending_more n j (ls ++ l ∷ []) b ∙ ap (λ (xs : List (List ℕ)). tries_of n j b ++ xs) (pending_more n j ls l)

-- the next position of a level, and the others
pub tries_split : (n j : ℕ) (l : Level) → l.next < l.end → tries_of n j l ≡ under n j l.place (l.next ∷ l.behind.items) ++ tries_of n j (past l)
tries_split n j l h =
    let one : l.end - l.next ≡ suc (l.end - (l.next + 1)) = omega (arith, h) in
    let next : suc l.next ≡ l.next + 1 = omega arith in
    ap (span (λ p. under n j l.place (p ∷ l.behind.items)) l.next) one
    ∙ ap (λ m. under n j l.place (l.next ∷ l.behind.items) ++ span (λ p. under n j l.place (p ∷ l.behind.items)) m (l.end - (l.next + 1))) next

-- a level that is done has none
pub tries_done : (n j : ℕ) (l : Level) → l.end ≤ l.next → tries_of n j l ≡ []
tries_done n j l h = let none : l.end - l.next ≡ 0 = omega (arith, h) in ap (span (λ p. under n j l.place (p ∷ l.behind.items)) l.next) none

each_front : {A : Type 0} (P : A → Type 0) (xs ys : List A) → Each P (xs ++ ys) → Each P xs × Each P ys
each_front P [] ys a = (tt, a)
each_front P (x ∷ xs) ys a = let r = each_front P xs ys a.1 in ((a.0, r.0), r.1)

-- the steps of more levels
pub steps_append : (many : ℕ) (ls ms : List Level) → steps_of many (ls ++ ms) ≡ steps_of many ls + steps_of many ms
steps_append many [] ms = omega arith
steps_append many (l ∷ ls) ms = let r = steps_append many ls ms in omega (arith, r)

copies_more : (c d x : ℕ) → c ≤ d → copies c x ≤ copies d x
copies_more zero d x h = omega arith
copies_more (suc c) zero x h = absurd (omega arith)
copies_more (suc c) (suc d) x h = let r = copies_more c d x (omega arith) in omega (arith, r)

steps_some : (many i : ℕ) → 0 < steps_at many i
steps_some many zero = omega arith
steps_some many (suc i) = omega arith

-- the level below and a level after its next position take fewer steps
pub steps_fewer :
    (many : ℕ) (ls : List Level) (l : Level) (below : Option Level) → l.next < l.end → ((b : Level) → below ≡ Some b → (suc b.place ≡ l.place) × (b.end - b.next ≤ many)) →
    steps_of many (ls ++ past l ∷ level_list below) < steps_of many (ls ++ l ∷ [])
steps_fewer many ls l None next f =
    let one : l.end - l.next ≡ suc (l.end - (l.next + 1)) = omega (arith, next) in
    let a = steps_append many ls (past l ∷ []) in
    let b = steps_append many ls (l ∷ []) in
    let c : copies (l.end - l.next) (steps_at many l.place) ≡ steps_at many l.place + copies (l.end - (l.next + 1)) (steps_at many l.place) = ap (λ m. copies m (steps_at many l.place)) one in
    let s = steps_some many l.place in
    omega (arith, a, b, c, s)
steps_fewer many ls l (Some m) next f =
    let one : l.end - l.next ≡ suc (l.end - (l.next + 1)) = omega (arith, next) in
    let a = steps_append many ls (past l ∷ m ∷ []) in
    let b = steps_append many ls (l ∷ []) in
    let c : copies (l.end - l.next) (steps_at many l.place) ≡ steps_at many l.place + copies (l.end - (l.next + 1)) (steps_at many l.place) = ap (λ x. copies x (steps_at many l.place)) one in
    let few = f m refl in
    let d : steps_at many l.place ≡ suc (suc (copies many (steps_at many m.place))) = ap (steps_at many) (sym few.0) in
    let e = copies_more (m.end - m.next) many (steps_at many m.place) few.1 in
    omega (arith, a, b, c, d, e)

-- a level that is done takes a step
pub steps_done : (many : ℕ) (ls : List Level) (l : Level) → steps_of many ls < steps_of many (ls ++ l ∷ [])
steps_done many ls l = let a = steps_append many ls (l ∷ []) in omega (arith, a)

module _ (product : ℕ → ℕ → ℕ) (rules : List (Rule ℕ)) (order : List VectorOf) (f k n j : ℕ) (all : List (ℕ × List ℕ)) (old : VectorListing) where
  -- between two steps of the loop
  pub record IsWalking (ls : List Level) (now : VectorListing) : Type 0 where
    pub listed : IsUnderway product rules order all (behind_label f (pending n j ls)) old now
    pub levels : Each (IsLevel product rules order f k n j) ls
    pub few : Each (λ l. l.end - l.next ≤ length order) ls

  -- the level of the last place alone
  pub walking_begins :
      (l : Level) → suc l.place ≡ k → l.behind.items ≡ [] → AreLeft product rules order f k n j k [] l.alive.items → l.next ≡ first_at n j l.place → l.end ≡ first_at n j l.place + many_at n j l.place →
      IsWanted rules order l → l.end ≤ length order → l.end ≤ 2 ^ 32 → all ≡ behind_label f (under n j k []) → IsWalking (l ∷ []) old
  walking_begins l place behind alive next end wanted within fits is = record {
    listed = subst (λ (xs : List (ℕ × List ℕ)). IsUnderway product rules order all xs old old)
        (is ∙ ap (behind_label f) (sym (tries_fresh n j l.place l [] refl behind next end ∙ ap (λ m. under n j m []) place))) (underway_begins product rules order all old);
    levels = (
      record {
        place = ap (λ (xs : List ℕ). suc l.place + length xs) behind ∙ (let z : suc l.place + 0 ≡ suc l.place = omega arith in z) ∙ place;
        alive = subst (λ m. AreLeft product rules order f k n j m l.behind.items l.alive.items) (sym place) (subst (λ (xs : List ℕ). AreLeft product rules order f k n j k xs l.alive.items) (sym behind) alive);
        last = only_one n j l.place l.next l.end next end;
        up = ends_up_to n j l.place l.end end;
        wanted = wanted;
        within = within;
        fits = fits;
      },
      tt,
    );
    few = ((let e = within in omega (arith, e)), tt);
  }

  -- a level that is done is left out
  pub walking_done : (ls : List Level) (l : Level) (now : VectorListing) → l.end ≤ l.next → IsWalking (ls ++ l ∷ []) now → IsWalking ls now
  walking_done ls l now h w = record {
    listed = subst (λ (xs : List (List ℕ)). IsUnderway product rules order all (behind_label f xs) old now)
        (pending_more n j ls l ∙ ap (λ (xs : List (List ℕ)). xs ++ pending n j ls) (tries_done n j l h)) w.listed;
    levels = (each_front (IsLevel product rules order f k n j) ls (l ∷ []) w.levels).0;
    few = (each_front (λ (m : Level). m.end - m.next ≤ length order) ls (l ∷ []) w.few).0;
  }

  -- what is pending, the next position of the last level first
  next_first : (ls : List Level) (l : Level) → l.next < l.end →
      behind_label f (pending n j (ls ++ l ∷ [])) ≡ behind_label f (under n j l.place (l.next ∷ l.behind.items)) ++ behind_label f (tries_of n j (past l) ++ pending n j ls)
  next_first ls l h =
      ap (behind_label f) (pending_more n j ls l ∙ ap (λ (xs : List (List ℕ)). xs ++ pending n j ls) (tries_split n j l h)
      ∙ append_assoc (under n j l.place (l.next ∷ l.behind.items)) (tries_of n j (past l)) (pending n j ls))
      ∙ labelled_append f (under n j l.place (l.next ∷ l.behind.items)) (tries_of n j (past l) ++ pending n j ls)

  -- the last level of those between two steps
  pub last_level : (ls : List Level) (l : Level) (now : VectorListing) → IsWalking (ls ++ l ∷ []) now → IsLevel product rules order f k n j l
  last_level ls l now w = (each_front (IsLevel product rules order f k n j) ls (l ∷ []) w.levels).1.0

  -- its next position was tried
  pub walking_next :
      (ls : List Level) (l : Level) (below : Option Level) (mid now : VectorListing) → l.next < l.end → IsWalking (ls ++ l ∷ []) mid →
      IsUnderway product rules order (behind_label f (under n j l.place (l.next ∷ l.behind.items))) (behind_label f (pending_below n j below)) mid now →
      ((b : Level) → below ≡ Some b → IsLevel product rules order f k n j b) → ((b : Level) → below ≡ Some b → b.end - b.next ≤ length order) → IsWalking (ls ++ past l ∷ level_list below) now
  walking_next ls l below mid now h w u is few =
      let level = last_level ls l mid w in
      let old_few = (each_front (λ (m : Level). m.end - m.next ≤ length order) ls (l ∷ []) w.few) in
      let past_few : l.end - (l.next + 1) ≤ length order = (let o = old_few.1.0 in omega (arith, o)) in
      record {
        listed = subst (λ (xs : List (ℕ × List ℕ)). IsUnderway product rules order all xs old now)
            (sym (labelled_append f (pending_below n j below) (tries_of n j (past l) ++ pending n j ls)) ∙ ap (behind_label f) (sym (pending_pushed n j ls (past l) below)))
            (underway_goes_on product rules order all old mid now (behind_label f (under n j l.place (l.next ∷ l.behind.items))) (behind_label f (pending_below n j below))
            (behind_label f (tries_of n j (past l) ++ pending n j ls))
            (subst (λ (xs : List (ℕ × List ℕ)). IsUnderway product rules order all xs old mid) (next_first ls l h) w.listed) u);
        levels = each_append (IsLevel product rules order f k n j) ls (past l ∷ level_list below) (each_front (IsLevel product rules order f k n j) ls (l ∷ []) w.levels).0
            (record { place = level.place; alive = level.alive; last = λ e. past_last l n (level.last e); up = level.up; wanted = record { each = λ p r a from to. level.wanted.each p r a (omega (arith, from)) to; ascends = level.wanted.ascends }; within = level.within; fits = level.fits }, below_levels below is);
        few = each_append (λ (m : Level). m.end - m.next ≤ length order) ls (past l ∷ level_list below) old_few.0 (past_few, below_few below few);
      }
    where
      past_last : (m : Level) (i : ℕ) → (i ≤ m.next) × (m.end ≤ suc i) → (i ≤ m.next + 1) × (m.end ≤ suc i)
      past_last m i r = (let from = r.0 in omega (arith, from), r.1)

      below_levels : (o : Option Level) → ((b : Level) → o ≡ Some b → IsLevel product rules order f k n j b) → Each (IsLevel product rules order f k n j) (level_list o)
      below_levels None g = tt
      below_levels (Some b) g = (g b refl, tt)

      below_few : (o : Option Level) → ((b : Level) → o ≡ Some b → b.end - b.next ≤ length order) → Each (λ (m : Level). m.end - m.next ≤ length order) (level_list o)
      below_few None g = tt
      below_few (Some b) g = (g b refl, tt)

  -- its next position has too many parts
  pub walking_overruns :
      (ls : List Level) (l : Level) (mid : VectorListing) → l.next < l.end → old.budget ≡ mid.budget → IsWalking (ls ++ l ∷ []) mid →
      StepsOverrun product rules order (behind_label f (under n j l.place (l.next ∷ l.behind.items))) mid → StepsOverrun product rules order all old
  walking_overruns ls l mid h same w o =
      overrun_next product rules order all old mid (behind_label f (under n j l.place (l.next ∷ l.behind.items))) (behind_label f (tries_of n j (past l) ++ pending n j ls)) same
      (subst (λ (xs : List (ℕ × List ℕ)). IsUnderway product rules order all xs old mid) (next_first ls l h) w.listed) o

  -- positions between that are not wanted are left out
  pub walking_skips :
      {levelled weighted : Bool} (laws : ProductLaws levelled weighted product) (normal : AreNormal rules) (rise : Each (λ v. Rises v) order) (ls : List Level) (l m : Level) (now : VectorListing) →
      m ≡ moved l m.next → l.next ≤ m.next → (l.next ≤ l.end → m.next ≤ l.end) → ((p : ℕ) → l.next ≤ p → p < m.next → Has l.wanted.items p → ⊥) →
      IsWalking (ls ++ l ∷ []) now → IsWalking (ls ++ m ∷ []) now
  walking_skips laws normal rise ls l m now is from to between w =
      let level = last_level ls l now w in
      let skipped = is_skipped product laws rules normal order f k n j rise l level m.next from to between in
      let front = skipped.front in
      let next = moved l m.next in
      let old_few = each_front (λ (x : Level). x.end - x.next ≤ length order) ls (l ∷ []) w.few in
      let few : l.end - m.next ≤ length order = (let o = old_few.1.0 in omega (arith, o, from)) in
      subst (λ (x : Level). IsWalking (ls ++ x ∷ []) now) (sym is) (record {
        listed = subst (λ (xs : List (List ℕ)). IsUnderway product rules order all (behind_label f xs) old now) (sym (pending_more n j ls next))
            (underway_skips product rules order all old now (behind_label f front) (behind_label f (tries_of n j next ++ pending n j ls)) skipped.none
            (subst (λ (xs : List (ℕ × List ℕ)). IsUnderway product rules order all xs old now)
            (ap (behind_label f) (pending_more n j ls l ∙ ap (λ (xs : List (List ℕ)). xs ++ pending n j ls) skipped.split ∙ append_assoc front (tries_of n j next) (pending n j ls))
            ∙ labelled_append f front (tries_of n j next ++ pending n j ls)) w.listed));
        levels = each_append (IsLevel product rules order f k n j) ls (next ∷ []) (each_front (IsLevel product rules order f k n j) ls (l ∷ []) w.levels).0 (
          record {
            place = level.place;
            alive = level.alive;
            last = λ e. (let r = level.last e in let low = r.0 in (omega (arith, low, from), r.1));
            up = level.up;
            wanted = record { each = λ p r a low high. level.wanted.each p r a (omega (arith, low, from)) high; ascends = level.wanted.ascends };
            within = level.within;
            fits = level.fits;
          },
          tt,
        );
        few = each_append (λ (x : Level). x.end - x.next ≤ length order) ls (next ∷ []) old_few.0 (few, tt);
      })

-- a level at a later position takes no more steps
pub steps_moved : (many : ℕ) (ls : List Level) (l m : Level) → m ≡ moved l m.next → l.next ≤ m.next → steps_of many (ls ++ m ∷ []) ≤ steps_of many (ls ++ l ∷ [])
steps_moved many ls l m is from =
    let a = steps_append many ls (l ∷ []) in
    let b = steps_append many ls (moved l m.next ∷ []) in
    let c = copies_more (l.end - m.next) (l.end - l.next) (steps_at many l.place) (omega (arith, from)) in
    let d = ap (λ (x : Level). steps_of many (ls ++ x ∷ [])) is in
    omega (arith, a, b, c, d)
