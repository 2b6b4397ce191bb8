-- Walks over lists of positions, prefix by prefix.
use Rattle.std.specs.Prelude.{◌≡◌, ℕ, ◌+◌, ◌-◌, ◌<◌, ◌≤◌, nat_eq, nat_lt, if◌then◌else◌, Bool, true, false, List, [], ◌∷◌, ◌++◌, length, take, refl}
use Rattle.std.proofs.Common.{zero, suc, arith, ap, sym, ◌∙◌, subst, get_or, append_assoc, inl, inr, length-append, length-take}
use Rattle.std.proofs.lemmas.List.{map-append}
use Rattle.smallvec.specs.SmallVec.{SmallVec}
use Rattle.tib_lex.specs.Lists.{Each}
use Rattle.tib_lex.proofs.Lists.{append_nil}
use Rattle.tib_lex.proofs.Numbers.{below_cases}
use Rattle.tib_lex.proofs.Members.{each_of, each_more}
use Rattle.tib_key_edges.proofs.Places.{place_is}
use Rattle.tib_grammar.specs.declared.Rule.{Rule}
use Rattle.tib_difference.specs.declared.listing.KeyListing.{KeyListing}
use Rattle.tib_difference.specs.Difference.{KeyOf}
use Rattle.tib_difference.specs.Tries.{positions_of, below_at, itself_at, choices_at, backwards, grown, completions, remaining, behind_rule, states_in, tries_at}
use Rattle.tib_difference.specs.Underway.{IsUnderway}
use Rattle.tib_difference.specs.Walks.{IsPrefix, IsStuck, prefixes_of}
use Rattle.tib_difference.proofs.Steps.{underway_begin}

backwards_append : {A B : Type 0} (f : A → List B) (xs ys : List A) → backwards f (xs ++ ys) ≡ backwards f ys ++ backwards f xs
backwards_append f [] ys = sym (append_nil (backwards f ys))
backwards_append f (x ∷ xs) ys = ap (λ zs. zs ++ f x) (backwards_append f xs ys) ∙ append_assoc (backwards f ys) (backwards f xs) (f x)

module _ (at : ℕ → List ℕ) where
  none_grown : (m : ℕ) (ps choices : List ℕ) → ((qs : List ℕ) → length qs ≡ suc (length ps) → completions at m qs ≡ []) → backwards (completions at m) (grown ps choices) ≡ []
  none_grown m ps [] h = refl
  none_grown m ps (p ∷ choices) h =
      let long : length (ps ++ p ∷ []) ≡ suc (length ps) = let l = length-append ps (p ∷ []) in omega (arith, l) in
      ap (λ zs. zs ++ completions at m (ps ++ p ∷ [])) (none_grown m ps choices h) ∙ h (ps ++ p ∷ []) long

  -- where a place has no choice, there are no lists
  pub none_from : (m : ℕ) (ps : List ℕ) (i : ℕ) → length ps ≤ i → i < length ps + m → at i ≡ [] → completions at m ps ≡ []
  none_from zero ps i low high e = absurd (omega arith)
  none_from (suc m) ps i low high e = elim (below_cases (length ps) i (omega (arith, low))) [
    | inl k ↦ none_grown m ps (at (length ps)) (λ qs l. none_from m qs i (omega (arith, k, l)) (omega (arith, high, l)) e)
    | inr k ↦ ap (λ (xs : List ℕ). backwards (completions at m) (grown ps xs)) (ap at k ∙ e)
  ]

  pub stuck_none : (rank : ℕ) → IsStuck at rank → completions at rank [] ≡ []
  stuck_none rank s = none_from rank [] s.place (omega arith) (omega (arith, s.below)) s.none

  remaining_last : (rank : ℕ) (pss : List (List ℕ)) (ps : List ℕ) → remaining at rank (pss ++ ps ∷ []) ≡ completions at (rank - length ps) ps ++ remaining at rank pss
  remaining_last rank pss ps = backwards_append (λ qs. completions at (rank - length qs) qs) pss (ps ∷ [])

  -- at first all remain
  pub remaining_first : (rank : ℕ) → remaining at rank ([] ∷ []) ≡ completions at rank []
  remaining_first rank = let z : rank - 0 ≡ rank = omega arith in ap (λ m. completions at m []) z

  -- a whole list is the next one
  pub remaining_whole : (rank : ℕ) (pss : List (List ℕ)) (ps : List ℕ) → length ps ≡ rank → remaining at rank (pss ++ ps ∷ []) ≡ ps ∷ [] ++ remaining at rank pss
  remaining_whole rank pss ps e =
      let z : rank - length ps ≡ 0 = omega arith in
      remaining_last rank pss ps ∙ ap (λ m. completions at m ps ++ remaining at rank pss) z

  grown_remain : (rank m : ℕ) (ps choices : List ℕ) → rank ≡ suc (length ps) + m → backwards (completions at m) (grown ps choices) ≡ remaining at rank (grown ps choices)
  grown_remain rank m ps [] e = refl
  grown_remain rank m ps (p ∷ choices) e =
      let long = length-append ps (p ∷ []) in
      let z : m ≡ rank - length (ps ++ p ∷ []) = omega (arith, long, e) in
      ap (λ zs. zs ++ completions at m (ps ++ p ∷ [])) (grown_remain rank m ps choices e)
      ∙ ap (λ n. remaining at rank (grown ps choices) ++ completions at n (ps ++ p ∷ [])) z

  -- a prefix stands for those that go on from it
  pub remaining_grown : (rank : ℕ) (pss : List (List ℕ)) (ps : List ℕ) → length ps < rank → remaining at rank (pss ++ ps ∷ []) ≡ remaining at rank (pss ++ grown ps (at (length ps)))
  remaining_grown rank pss ps h =
      let m : ℕ = rank - suc (length ps) in
      let z : rank - length ps ≡ suc m = omega arith in
      remaining_last rank pss ps ∙ ap (λ n. completions at n ps ++ remaining at rank pss) z
      ∙ ap (λ zs. zs ++ remaining at rank pss) (grown_remain rank m ps (at (length ps)) (omega arith))
      ∙ sym (backwards_append (λ qs. completions at (rank - length qs) qs) pss (grown ps (at (length ps))))

pub each_append : {A : Type 0} (P : A → Type 0) (xs ys : List A) → Each P xs → Each P ys → Each P (xs ++ ys)
each_append P [] ys h k = k
each_append P (x ∷ xs) ys h k = (h.0, each_append P xs ys h.1 k)

pub each_split : {A : Type 0} (P : A → Type 0) (xs : List A) (y : A) → Each P (xs ++ y ∷ []) → Each P xs × P y
each_split P [] y h = (tt, h.0)
each_split P (x ∷ xs) y h = let r = each_split P xs y h.1 in ((h.0, r.0), r.1)

pub prefixes_grown : (many rank : ℕ) (ps choices : List ℕ) → length ps < rank → Each (λ p. p < many) ps → Each (λ p. p < many) choices → Each (IsPrefix many rank) (grown ps choices)
prefixes_grown many rank ps [] h k c = tt
prefixes_grown many rank ps (p ∷ choices) h k c =
    let long = length-append ps (p ∷ []) in
    ((omega (arith, long), each_more (λ q. q < many) ps p k c.0), prefixes_grown many rank ps choices h k c.1)

low_below : (b : Bool) (order : List KeyOf) (n q : ℕ) → Each (λ p. p < length order) (if b then [] else positions_of (take n order) q)
low_below true order n q = tt
low_below false order n q =
    each_of (λ p. p < length order) (positions_of (take n order) q)
    (λ p h. let i = place_is (λ (k : KeyOf). nat_eq k.0 q) (take n order) p (0, []) h in let l = length-take n order in omega (arith, i.0, l))

low_itself : (b c : Bool) (many n : ℕ) → n < many → Each (λ p. p < many) (if b then [] else (if c then n ∷ [] else []))
low_itself true c many n h = tt
low_itself false true many n h = (h, tt)
low_itself false false many n h = tt

-- each choice is a position of the order
pub choices_low : (states : List ℕ) (order : List KeyOf) (n j i : ℕ) → n < length order → Each (λ p. p < length order) (choices_at states order n j i)
choices_low states order n j i h =
    each_append (λ p. p < length order) (below_at states order n j i) (itself_at states n j i) (low_below (nat_eq i j) order n (get_or states i 0))
    (low_itself (nat_lt j i) (nat_eq (get_or states i 0) (get_or states j 0)) (length order) n h)

-- the last prefix is taken from a stack
pub popped : (stack rest : List (SmallVec ℕ)) (v : SmallVec ℕ) → stack ≡ rest ++ v ∷ [] → prefixes_of stack ≡ prefixes_of rest ++ v.items ∷ []
popped stack rest v e = ap prefixes_of e ∙ map-append (λ (w : SmallVec ℕ). w.items) rest (v ∷ [])

module _ (at : ℕ → List ℕ) (r rank : ℕ) (stack rest : List (SmallVec ℕ)) (v : SmallVec ℕ) (e : stack ≡ rest ++ v ∷ []) where
  -- a whole list is the next one
  pub whole_next : length v.items ≡ rank → behind_rule r (remaining at rank (prefixes_of stack)) ≡ (r, v.items) ∷ [] ++ behind_rule r (remaining at rank (prefixes_of rest))
  whole_next h = ap (λ pss. behind_rule r (remaining at rank pss)) (popped stack rest v e) ∙ ap (behind_rule r) (remaining_whole at rank (prefixes_of rest) v.items h)

  -- the same remain where a prefix goes on
  pub grown_next :
      (new : List (List ℕ)) → length v.items < rank → new ≡ prefixes_of rest ++ grown v.items (at (length v.items)) →
      behind_rule r (remaining at rank (prefixes_of stack)) ≡ behind_rule r (remaining at rank new)
  grown_next new h k =
      ap (λ pss. behind_rule r (remaining at rank pss)) (popped stack rest v e) ∙ ap (behind_rule r) (remaining_grown at rank (prefixes_of rest) v.items h)
      ∙ ap (λ pss. behind_rule r (remaining at rank pss)) (sym k)

-- what is known of a prefix and of those below it
pub last_prefix : (many rank : ℕ) (stack rest : List (SmallVec ℕ)) (v : SmallVec ℕ) → stack ≡ rest ++ v ∷ [] → Each (IsPrefix many rank) (prefixes_of stack) → Each (IsPrefix many rank) (prefixes_of rest) × IsPrefix many rank v.items
last_prefix many rank stack rest v e h = each_split (IsPrefix many rank) (prefixes_of rest) v.items (subst (λ pss. Each (IsPrefix many rank) pss) (popped stack rest v e) h)

module _ (one : List (Rule ℕ)) (order : List KeyOf) (n r j rank : ℕ) (is : rank ≡ length (states_in one r)) where
  -- nothing is tried where a place has no choice
  pub tries_none : (states : List ℕ) → states ≡ states_in one r → IsStuck (choices_at states order n j) rank → tries_at one order n r j ≡ []
  tries_none states e s =
      ap (behind_rule r) (stuck_none (choices_at (states_in one r) order n j) (length (states_in one r))
      (subst (λ m. IsStuck (choices_at (states_in one r) order n j) m) is (subst (λ (ss : List ℕ). IsStuck (choices_at ss order n j) rank) e s)))

  -- the empty prefix stands for all
  pub all_remain : (pss : List (List ℕ)) → pss ≡ [] ∷ [] → behind_rule r (remaining (choices_at (states_in one r) order n j) rank pss) ≡ tries_at one order n r j
  all_remain pss e =
      ap (λ qss. behind_rule r (remaining (choices_at (states_in one r) order n j) rank qss)) e
      ∙ ap (behind_rule r) (remaining_first (choices_at (states_in one r) order n j) rank ∙ ap (λ m. completions (choices_at (states_in one r) order n j) m []) is)

  pub walk_begin :
      (two : List (Rule ℕ)) (pss : List (List ℕ)) (l : KeyListing) → pss ≡ [] ∷ [] →
      IsUnderway one two order (tries_at one order n r j) (behind_rule r (remaining (choices_at (states_in one r) order n j) rank pss)) l l
  walk_begin two pss l e = subst (λ os. IsUnderway one two order (tries_at one order n r j) os l l) (sym (all_remain pss e)) (underway_begin one two order (tries_at one order n r j) l)
