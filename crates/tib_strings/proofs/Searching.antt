-- The steps of the search for cuts.
use Rattle.std.specs.Prelude.{◌≡◌, ℕ, ◌+◌, ◌-◌, ◌<◌, ◌≤◌, List, [], ◌∷◌, ◌++◌, length, drop, Bool, true, false, nat_eq, ◌⊎◌, if◌then◌else◌, refl}
use Rattle.std.proofs.Common.{suc, arith, ap, sym, ◌∙◌, subst, inl, inr, get_or}
use Rattle.std.proofs.lemmas.List.{length-append}
use Rattle.tib_lex.proofs.Numbers.{nat_eq_cases, nat_eq-itself}
use Rattle.tib_strings.specs.declared.Word.{Word as Token}
use Rattle.tib_strings.specs.declared.Word.TheVariants.{Word, Hole}
use Rattle.tib_strings.specs.CutLists.{stands}
use Rattle.tib_strings.specs.Bounds.{AreBounds}
use Rattle.tib_strings.specs.Stacks.{back, top, plug, behind, to_come}
use Rattle.tib_strings.specs.Search.{can_go, GoesOn, Descends, Tries, GoesFurther, Leaves}
use Rattle.tib_strings.proofs.Stacking.{back_more, length-back, plug_none, plug_whole, from_token, inside_whole, come_none, word_next, word_none, word_behind, hole_next, hole_further, hole_none, hole_last}

-- the place on top is the last place
pub top_last : (i : ℕ) (ks : List ℕ) (k : ℕ) → top i (back (ks ++ k ∷ [])) ≡ k
top_last i ks k = ap (top i) (back_more ks k)

top_under : (i k : ℕ) (rs : List ℕ) → top i (rs ++ k ∷ []) ≡ top k rs
top_under i k [] = refl
top_under i k (r ∷ rs) = refl

pub top_end : (i k : ℕ) (ks : List ℕ) → top i (back (k ∷ ks)) ≡ get_or (k ∷ ks) (length ks) 0
top_end i k [] = refl
top_end i k (x ∷ ks) = top_under i k (back (x ∷ ks)) ∙ top_end k x ks

pub top_at : (i : ℕ) (ks : List ℕ) (n : ℕ) → n ≡ length ks → (n ≡ 0 → ⊥) → get_or ks (n - 1) 0 ≡ top i (back ks)
top_at i [] n e d = absurd (d e)
top_at i (k ∷ ks) n e d = let m : n - 1 ≡ length ks = omega (arith, e) in ap (λ q. get_or (k ∷ ks) q 0) m ∙ sym (top_end i k ks)

pub top_first : (i : ℕ) (ks : List ℕ) → 0 ≡ length ks → i ≡ top i (back ks)
top_first i [] e = refl
top_first i (k ∷ ks) e = absurd (omega (arith, e))

module _ (string : List ℕ) (ws : List (Token ℕ)) (i j : ℕ) (bounds : List ℕ) (b : AreBounds string ws j bounds) (ks : List ℕ) (open_ : length ks < length ws) where
  abbrev rs : List ℕ
  rs = back ks

  abbrev n : ℕ
  n = length ks

  long : length rs ≡ n
  long = length-back ks

  from_here : (w : Token ℕ) → get_or ws n (Word 0) ≡ w → drop (length rs) ws ≡ w ∷ drop (suc n) ws
  from_here w e = ap (λ m. drop m ws) long ∙ from_token ws n (Word 0) open_ ∙ ap (λ v. v ∷ drop (suc n) ws) e

  next_here : drop (suc (length rs)) ws ≡ drop (suc n) ws
  next_here = ap (λ m. drop (suc m) ws) long

  one_longer : (k : ℕ) (new : List ℕ) → new ≡ ks ++ k ∷ [] → length new ≡ n + 1
  one_longer k new e = ap length e ∙ length-append ks (k ∷ [])

  back_new : (k : ℕ) (new : List ℕ) → new ≡ ks ++ k ∷ [] → back new ≡ k ∷ rs
  back_new k new e = ap back e ∙ back_more ks k

  -- a word that is in its place
  pub on_word : (f : ℕ) (new : List ℕ) → get_or ws n (Word 0) ≡ Word f → stands string (top i rs) f ≡ true → new ≡ ks ++ suc (top i rs) ∷ [] → GoesOn string ws i j ks new true
  on_word f new at s e = (
    one_longer (suc (top i rs)) new e,
    word_next string ws i j rs f (drop (suc n) ws) (from_here (Word f) at) next_here s ∙ ap (to_come string ws i j) (sym (back_new (suc (top i rs)) new e)),
  )

  -- one that does not
  pub off_word : (f : ℕ) → get_or ws n (Word 0) ≡ Word f → stands string (top i rs) f ≡ false → GoesOn string ws i j ks ks false
  off_word f at s = (refl, word_none string ws i j rs f (drop (suc n) ws) (from_here (Word f) at) next_here s)

  -- a pair that can end where it begins
  pub on_hole : (x : _) (new : List ℕ) → get_or ws n (Word 0) ≡ Hole x → top i rs ≤ get_or bounds n 0 → new ≡ ks ++ top i rs ∷ [] → GoesOn string ws i j ks new true
  on_hole x new at low e = (
    one_longer (top i rs) new e,
    hole_next string ws i j rs x (drop (suc n) ws) (from_here (Hole x) at) next_here (omega (arith, low, (b.each n open_).0)) ∙ ap (to_come string ws i j) (sym (back_new (top i rs) new e)),
  )

  -- one that can't
  pub off_hole : (x : _) → get_or ws n (Word 0) ≡ Hole x → get_or bounds n 0 < top i rs → GoesOn string ws i j ks ks false
  off_hole x at high = (
    refl,
    hole_none string ws i j rs x (drop (suc n) ws) (from_here (Hole x) at) next_here (λ m h. (b.each n open_).1 m (omega (arith, high, h))),
  )

  -- a token after which nothing goes on otherwise
  pub stays : (k : ℕ) (w : Token ℕ) → get_or ws n (Word 0) ≡ w → can_go w k (get_or bounds n 0) ≡ false → behind string ws i j (k ∷ rs) ≡ behind string ws i j rs
  stays k (Word f) at c = word_behind string ws i j rs f (drop (suc n) ws) (from_here (Word f) at) next_here k
  stays k (Hole x) at c =
      hole_last string ws i j rs x (drop (suc n) ws) (from_here (Hole x) at) next_here k (λ m h. (b.each n open_).1 m (grind (arith, c, h)))

  -- a pair that goes further
  pub moves : (k : ℕ) (w : Token ℕ) → get_or ws n (Word 0) ≡ w → can_go w k (get_or bounds n 0) ≡ true → behind string ws i j (k ∷ rs) ≡ to_come string ws i j (suc k ∷ rs)
  moves k (Word f) at c = absurd (cc c)
  moves k (Hole x) at c =
      hole_further string ws i j rs x (drop (suc n) ws) (from_here (Hole x) at) next_here k (let low = (b.each n open_).0 in grind (arith, c, low))

-- what is left of a search where all tokens have places
module _ (string : List ℕ) (ws : List (Token ℕ)) (i j : ℕ) (ks : List ℕ) (whole : length ks ≡ length ws) where
  full : length ws ≤ length (back ks)
  full = omega (arith, whole, length-back ks)

  -- the cut itself, where it ends at the end
  pub at_cut : top i (back ks) ≡ j → to_come string ws i j (back ks) ≡ ks ∷ behind string ws i j (back ks)
  at_cut e =
      ap (λ (xs : List (List ℕ)). xs ++ behind string ws i j (back ks))
      (inside_whole string ws i j (back ks) full ∙ ap (λ b. plug (back ks) (if b then [] ∷ [] else [])) (ap (λ n. nat_eq n j) e ∙ nat_eq-itself j) ∙ plug_whole ks)

  -- nothing, where it does not
  pub no_cut : (top i (back ks) ≡ j → ⊥) → to_come string ws i j (back ks) ≡ behind string ws i j (back ks)
  no_cut e = come_none string ws i j (back ks)
      (inside_whole string ws i j (back ks) full ∙ by (nat_eq_cases (top i (back ks)) j))
    where
      by : ((top i (back ks) ≡ j) × (nat_eq (top i (back ks)) j ≡ true)) ⊎ ((top i (back ks) ≡ j → ⊥) × (nat_eq (top i (back ks)) j ≡ false)) → plug (back ks) (if nat_eq (top i (back ks)) j then [] ∷ [] else []) ≡ []
      by (inl k) = absurd (e k.0)
      by (inr k) = ap (λ b. plug (back ks) (if b then [] ∷ [] else [])) k.1 ∙ plug_none (back ks)

-- the last place taken away
module _ (string : List ℕ) (ws : List (Token ℕ)) (i j : ℕ) (bounds : List ℕ) (b : AreBounds string ws j bounds) (xs ks : List ℕ) (k n : ℕ) (is : xs ≡ ks ++ k ∷ []) (at : n ≡ length ks) (room : length xs ≤ length ws) where
  less : length ks < length ws
  less = omega (arith, ap length is, length-append ks (k ∷ []), room)

  went : behind string ws i j (back xs) ≡ behind string ws i j (k ∷ back ks)
  went = ap (λ (ys : List ℕ). behind string ws i j (back ys)) is ∙ ap (behind string ws i j) (back_more ks k)

  -- a pair that goes further
  pub moved : (new : List ℕ) → can_go (get_or ws n (Word 0)) k (get_or bounds n 0) ≡ true → new ≡ ks ++ (k + 1) ∷ [] → GoesFurther string ws i j xs new true
  moved new c e =
      let next : k + 1 ≡ suc k = omega arith in (
        omega (arith, ap length e, length-append ks ((k + 1) ∷ []), less),
        went
            ∙ moves string ws i j bounds b ks less k (get_or ws (length ks) (Word 0)) refl (ap (λ m. can_go (get_or ws m (Word 0)) k (get_or bounds m 0)) (sym at) ∙ c)
            ∙ ap (λ m. to_come string ws i j (m ∷ back ks)) (sym next) ∙ ap (to_come string ws i j) (sym (ap back e ∙ back_more ks (k + 1))),
      )

  -- one that does not
  pub left : can_go (get_or ws n (Word 0)) k (get_or bounds n 0) ≡ false → behind string ws i j (back xs) ≡ behind string ws i j (back ks)
  left c = went ∙ stays string ws i j bounds b ks less k (get_or ws (length ks) (Word 0)) refl (ap (λ m. can_go (get_or ws m (Word 0)) k (get_or bounds m 0)) (sym at) ∙ c)

-- what a step says where its answer is known

pub goes_with : (string : List ℕ) (ws : List (Token ℕ)) (i j : ℕ) (old new : List ℕ) (r s : Bool) → r ≡ s → GoesOn string ws i j old new r → GoesOn string ws i j old new s
goes_with string ws i j old new r s e g = subst (GoesOn string ws i j old new) e g

pub further_with : (string : List ℕ) (ws : List (Token ℕ)) (i j : ℕ) (old new : List ℕ) (r s : Bool) → r ≡ s → GoesFurther string ws i j old new r → GoesFurther string ws i j old new s
further_with string ws i j old new r s e g = subst (GoesFurther string ws i j old new) e g

pub descends_with : (string : List ℕ) (ws : List (Token ℕ)) (i j : ℕ) (old new : List ℕ) (r s : Bool) → r ≡ s → Descends string ws i j old new r → Descends string ws i j old new s
descends_with string ws i j old new r s e g = subst (Descends string ws i j old new) e g

-- where nothing begins so, what goes on otherwise is to come
pub stuck : (string : List ℕ) (ws : List (Token ℕ)) (i j : ℕ) (first old new : List ℕ) → to_come string ws i j (back first) ≡ to_come string ws i j (back old) → GoesOn string ws i j old new false →
    to_come string ws i j (back first) ≡ behind string ws i j (back new)
stuck string ws i j first old new e g = e ∙ come_none string ws i j (back old) g.1 ∙ ap (λ (xs : List ℕ). behind string ws i j (back xs)) (sym g.0)

-- where all tokens have places, the cut is there if it ends at the end
pub found : (string : List ℕ) (ws : List (Token ℕ)) (i j : ℕ) (old new : List ℕ) → top i (back new) ≡ j → Descends string ws i j old new true → Tries string ws i j old new true
found string ws i j old new e d = (d.0, d.1 ∙ at_cut string ws i j new d.0 e)

pub missed : (string : List ℕ) (ws : List (Token ℕ)) (i j : ℕ) (old new : List ℕ) → (top i (back new) ≡ j → ⊥) → Descends string ws i j old new true → Tries string ws i j old new false
missed string ws i j old new e d = (omega (arith, d.0), d.1 ∙ no_cut string ws i j new d.0 e)

pub tries_with : (string : List ℕ) (ws : List (Token ℕ)) (i j : ℕ) (old new : List ℕ) (r s : Bool) → r ≡ s → Tries string ws i j old new r → Tries string ws i j old new s
tries_with string ws i j old new r s e g = subst (Tries string ws i j old new) e g

pub tried : (string : List ℕ) (ws : List (Token ℕ)) (i j : ℕ) (old new : List ℕ) (k : ℕ) → k ≡ top i (back new) → Descends string ws i j old new true → Tries string ws i j old new (nat_eq k j)
tried string ws i j old new k e d = elim (nat_eq_cases k j) [
  | inl is ↦ subst (Tries string ws i j old new) (sym is.1) (found string ws i j old new (sym e ∙ is.0) d)
  | inr isnt ↦ subst (Tries string ws i j old new) (sym isnt.1) (missed string ws i j old new (λ z. isnt.0 (e ∙ z)) d)
]

-- a search that has begun leaves its cut by going further
pub leaves : (string : List ℕ) (ws : List (Token ℕ)) (i j : ℕ) (old new : List ℕ) (begun r : Bool) → begun ≡ true → GoesFurther string ws i j old new r → Leaves string ws i j begun old new r
leaves string ws i j old new begun r e g = subst (λ b. Leaves string ws i j b old new r) (sym e) (by r g)
  where
    by : (r : Bool) → GoesFurther string ws i j old new r → Leaves string ws i j true old new r
    by true g = g
    by false g = g

pub leaves_with : (string : List ℕ) (ws : List (Token ℕ)) (i j : ℕ) (begun : Bool) (old new : List ℕ) (r s : Bool) → r ≡ s → Leaves string ws i j begun old new r → Leaves string ws i j begun old new s
leaves_with string ws i j begun old new r s e g = subst (Leaves string ws i j begun old new) e g
