-- The search for cuts, step by step.
use Rattle.std.specs.Prelude.{◌≡◌, ℕ, ◌-◌, ◌<◌, ◌≤◌, List, [], ◌∷◌, ◌++◌, length, map, drop, nat_eq, if◌then◌else◌, true, false, refl}
use Rattle.std.proofs.Common.{zero, suc, arith, ap, sym, ◌∙◌, get_or, append_assoc}
use Rattle.std.proofs.lemmas.List.{length-append}
use Rattle.tib_lex.proofs.Lists.{append_nil}
use Rattle.tib_strings.specs.declared.Word.{Word as Token}
use Rattle.tib_strings.specs.declared.Word.TheVariants.{Word, Hole}
use Rattle.tib_strings.specs.CutLists.{over_places, cuts_of, stands}
use Rattle.tib_strings.specs.Stacks.{back, top, plug, inside, further, behind, to_come}

pub back_more : (ks : List ℕ) (k : ℕ) → back (ks ++ k ∷ []) ≡ k ∷ back ks
back_more [] k = refl
back_more (x ∷ ks) k = ap (λ (rs : List ℕ). rs ++ x ∷ []) (back_more ks k)

pub length-back : (ks : List ℕ) → length (back ks) ≡ length ks
length-back [] = refl
length-back (k ∷ ks) = omega (arith, length-append (back ks) (k ∷ []), length-back ks)

pub plug_none : (rs : List ℕ) → plug rs [] ≡ []
plug_none [] = refl
plug_none (k ∷ rs) = plug_none rs

map_both : (k : ℕ) (xs ys : List (List ℕ)) → map (λ (l : List ℕ). k ∷ l) (xs ++ ys) ≡ map (λ (l : List ℕ). k ∷ l) xs ++ map (λ (l : List ℕ). k ∷ l) ys
map_both k [] ys = refl
map_both k (x ∷ xs) ys = ap (λ (zs : List (List ℕ)). (k ∷ x) ∷ zs) (map_both k xs ys)

plug_both : (rs : List ℕ) (xs ys : List (List ℕ)) → plug rs (xs ++ ys) ≡ plug rs xs ++ plug rs ys
plug_both [] xs ys = refl
plug_both (k ∷ rs) xs ys = ap (plug rs) (map_both k xs ys) ∙ plug_both rs (map (λ (l : List ℕ). k ∷ l) xs) (map (λ (l : List ℕ). k ∷ l) ys)

plug_under : (rs : List ℕ) (k : ℕ) (xs : List (List ℕ)) → plug (rs ++ k ∷ []) xs ≡ map (λ (l : List ℕ). k ∷ l) (plug rs xs)
plug_under [] k xs = refl
plug_under (r ∷ rs) k xs = plug_under rs k (map (λ (l : List ℕ). r ∷ l) xs)

-- the places that are begun alone
pub plug_whole : (ks : List ℕ) → plug (back ks) ([] ∷ []) ≡ ks ∷ []
plug_whole [] = refl
plug_whole (k ∷ ks) = plug_under (back ks) k ([] ∷ []) ∙ ap (map (λ (l : List ℕ). k ∷ l)) (plug_whole ks)

-- places that lead to nothing
no_places : (f : ℕ → List (List ℕ)) (k m : ℕ) → ((n : ℕ) → k ≤ n → f n ≡ []) → over_places f k m ≡ []
no_places f k zero h = refl
no_places f k (suc m) h =
    ap (λ (xs : List (List ℕ)). map (λ (l : List ℕ). k ∷ l) xs ++ over_places f (suc k) m) (h k (omega arith))
    ∙ no_places f (suc k) m (λ n b. h n (omega (arith, b)))

-- a token at a position, and those after it
pub from_token : (ws : List (Token ℕ)) (n : ℕ) (d : Token ℕ) → n < length ws → drop n ws ≡ get_or ws n d ∷ drop (suc n) ws
from_token [] n d b = absurd (omega arith)
from_token (w ∷ ws) zero d b = refl
from_token (w ∷ ws) (suc n) d b = from_token ws n d (omega arith)

no_tokens : (ws : List (Token ℕ)) (n : ℕ) → length ws ≤ n → drop n ws ≡ []
no_tokens [] zero b = refl
no_tokens [] (suc n) b = refl
no_tokens (w ∷ ws) zero b = absurd (omega arith)
no_tokens (w ∷ ws) (suc n) b = no_tokens ws n (omega arith)

module _ (string : List ℕ) (ws : List (Token ℕ)) (i j : ℕ) where
  -- at first all cuts are to come
  pub all_to_come : to_come string ws i j [] ≡ cuts_of string ws i j
  all_to_come = append_nil (cuts_of string ws i j)

  module _ (rs : List ℕ) where
    -- where all tokens have places, at most the cut itself is inside
    pub inside_whole : length ws ≤ length rs → inside string ws i j rs ≡ plug rs (if nat_eq (top i rs) j then [] ∷ [] else [])
    inside_whole b = ap (λ vs. plug rs (cuts_of string vs (top i rs) j)) (no_tokens ws (length rs) b)

    -- nothing is inside where the rest has no cut
    pub inside_none : cuts_of string (drop (length rs) ws) (top i rs) j ≡ [] → inside string ws i j rs ≡ []
    inside_none e = ap (plug rs) e ∙ plug_none rs

    pub come_none : inside string ws i j rs ≡ [] → to_come string ws i j rs ≡ behind string ws i j rs
    come_none e = ap (λ (xs : List (List ℕ)). xs ++ behind string ws i j rs) e

    module _ (f : ℕ) (rest : List (Token ℕ)) (at : drop (length rs) ws ≡ Word f ∷ rest) (next : drop (suc (length rs)) ws ≡ rest) where
      -- a word that is in its place takes one place
      pub word_next : stands string (top i rs) f ≡ true → to_come string ws i j rs ≡ to_come string ws i j (suc (top i rs) ∷ rs)
      word_next s =
          let k = top i rs in
          let now : cuts_of string (drop (length rs) ws) k j ≡ map (λ (l : List ℕ). suc k ∷ l) (cuts_of string (drop (suc (length rs)) ws) (suc k) j) =
          ap (λ vs. cuts_of string vs k j) at ∙ ap (λ b. if b then map (λ (l : List ℕ). suc k ∷ l) (cuts_of string rest (suc k) j) else []) s
          ∙ ap (λ vs. map (λ (l : List ℕ). suc k ∷ l) (cuts_of string vs (suc k) j)) (sym next)
          in
          let no_more : behind string ws i j (suc k ∷ rs) ≡ behind string ws i j rs =
          ap (λ vs. plug rs (further string ws i j vs (suc k)) ++ behind string ws i j rs) at ∙ ap (λ (xs : List (List ℕ)). xs ++ behind string ws i j rs) (plug_none rs)
          in
          ap (λ xs. plug rs xs ++ behind string ws i j rs) now ∙ ap (λ (xs : List (List ℕ)). inside string ws i j (suc k ∷ rs) ++ xs) (sym no_more)

      -- one that is not has none
      pub word_none : stands string (top i rs) f ≡ false → inside string ws i j rs ≡ []
      word_none s =
          let k = top i rs in
          inside_none (ap (λ vs. cuts_of string vs k j) at ∙ ap (λ b. if b then map (λ (l : List ℕ). suc k ∷ l) (cuts_of string rest (suc k) j) else []) s)

      -- after a word nothing goes on otherwise
      pub word_behind : (k : ℕ) → behind string ws i j (k ∷ rs) ≡ behind string ws i j rs
      word_behind k = ap (λ vs. plug rs (further string ws i j vs k) ++ behind string ws i j rs) at ∙ ap (λ (xs : List (List ℕ)). xs ++ behind string ws i j rs) (plug_none rs)

    module _ (x : _) (rest : List (Token ℕ)) (at : drop (length rs) ws ≡ Hole x ∷ rest) (next : drop (suc (length rs)) ws ≡ rest) where
      abbrev goes : ℕ → List (List ℕ)
      goes m = cuts_of string rest m j

      same_inside : (k : ℕ) → inside string ws i j (k ∷ rs) ≡ plug rs (map (λ (l : List ℕ). k ∷ l) (goes k))
      same_inside k = ap (λ vs. plug rs (map (λ (l : List ℕ). k ∷ l) (cuts_of string vs k j))) next

      same_behind : (k : ℕ) → behind string ws i j (k ∷ rs) ≡ plug rs (over_places goes (suc k) (j - k)) ++ behind string ws i j rs
      same_behind k = ap (λ vs. plug rs (further string ws i j vs k) ++ behind string ws i j rs) at

      -- what goes on from place k on is what goes on there and what goes on later
      at_place : (k m : ℕ) → m ≡ suc (j - k) → plug rs (over_places goes k m) ++ behind string ws i j rs ≡ to_come string ws i j (k ∷ rs)
      at_place k m e =
          let first = map (λ (l : List ℕ). k ∷ l) (goes k) in
          let more = over_places goes (suc k) (j - k) in
          ap (λ n. plug rs (over_places goes k n) ++ behind string ws i j rs) e
          ∙ ap (λ (xs : List (List ℕ)). xs ++ behind string ws i j rs) (plug_both rs first more)
          ∙ append_assoc (plug rs first) (plug rs more) (behind string ws i j rs)
          ∙ ap (λ (xs : List (List ℕ)). xs ++ (plug rs more ++ behind string ws i j rs)) (sym (same_inside k))
          ∙ ap (λ (xs : List (List ℕ)). inside string ws i j (k ∷ rs) ++ xs) (sym (same_behind k))

      -- a pair takes no place at first
      pub hole_next : top i rs ≤ j → to_come string ws i j rs ≡ to_come string ws i j (top i rs ∷ rs)
      hole_next b =
          ap (λ vs. plug rs (cuts_of string vs (top i rs) j) ++ behind string ws i j rs) at ∙ at_place (top i rs) (suc j - top i rs) (omega (arith, b))

      -- a pair takes one more place
      pub hole_further : (k : ℕ) → k < j → behind string ws i j (k ∷ rs) ≡ to_come string ws i j (suc k ∷ rs)
      hole_further k b = same_behind k ∙ at_place (suc k) (j - k) (omega (arith, b))

      -- beyond a bound a pair leads nowhere
      pub hole_none : ((m : ℕ) → top i rs ≤ m → goes m ≡ []) → inside string ws i j rs ≡ []
      hole_none h = inside_none (ap (λ vs. cuts_of string vs (top i rs) j) at ∙ no_places goes (top i rs) (suc j - top i rs) h)

      pub hole_last : (k : ℕ) → ((m : ℕ) → k < m → goes m ≡ []) → behind string ws i j (k ∷ rs) ≡ behind string ws i j rs
      hole_last k h =
          same_behind k ∙ ap (λ xs. plug rs xs ++ behind string ws i j rs) (no_places goes (suc k) (j - k) (λ m b. h m (omega (arith, b))))
          ∙ ap (λ (xs : List (List ℕ)). xs ++ behind string ws i j rs) (plug_none rs)
