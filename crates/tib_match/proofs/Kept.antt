-- Of partial matches in order the first one in each place is kept.
use Rattle.std.specs.Prelude.{◌≡◌, ◌⊎◌, ℕ, ◌-◌, ◌<◌, ◌≤◌, Bool, true, false, IsTrue, Some, List, [], ◌∷◌, ◌++◌, length, slice_get, Contains, IsPermutation, IsSorted, if◌then◌else◌, refl}
use Rattle.std.proofs.Common.{suc, arith, ap, sym, ◌∙◌, subst, get_or, inl, inr, append_assoc, append-nil}
use Rattle.std.specs.Cmp.{IsTotalOrder}
use Rattle.std.specs.Cmp.Lexicographic.{slice_cmp}
use Rattle.std.specs.Ordering.{MatchOrdering, nat_cmp, ordering_then, ordering_reverse, is_lt}
use Rattle.std.specs.declared.cmp.Ordering.{Ordering}
use Rattle.std.specs.declared.cmp.Ordering.TheVariants.{Less, Equal, Greater}
use Rattle.std.proofs.lemmas.Cmp.{ranked, on_total, then_total, nat_cmp_total, nat_list_cmp_total}
use Rattle.std.proofs.lemmas.List.Sorted.{ranks_by, sorted_far, Contains-permutation, IsPermutation-sym}
use Rattle.tib_lex.specs.Lists.{Has, Each, Ascends}
use Rattle.tib_grammar.proofs.Members.{each_has, each_of, each_more, has_at, at_has, has_left, has_right, has_either}
use Rattle.tib_match.specs.Merging.{AreInOnePlace, place_cmp, IsAgain, AreMerged}
use Rattle.tib_match.specs.declared.partial.Partial.{Partial}
use Rattle.tib_lex.proofs.PairOrder.{both_equal, less_goes_on}

-- the order by place and then by cost
abbrev partial_cmp : Partial → Partial → Ordering
partial_cmp p r = ordering_then (slice_cmp nat_cmp p.waiting.items r.waiting.items) (ordering_then (slice_cmp nat_cmp p.states.items r.states.items) (nat_cmp p.cost r.cost))

place_total : IsTotalOrder place_cmp
place_total = then_total (on_total (λ (p : Partial). p.waiting.items) nat_list_cmp_total) (on_total (λ (p : Partial). p.states.items) nat_list_cmp_total)

partial_total : IsTotalOrder partial_cmp
partial_total =
    then_total (on_total (λ (p : Partial). p.waiting.items) nat_list_cmp_total)
    (then_total (on_total (λ (p : Partial). p.states.items) nat_list_cmp_total) (on_total (λ (p : Partial). p.cost) nat_cmp_total))

any : (o : Ordering) → (o ≡ Less) ⊎ ((o ≡ Equal) ⊎ (o ≡ Greater))
any Less = inl refl
any Equal = inr (inl refl)
any Greater = inr (inr refl)

back : (o : Ordering) → Greater ≡ ordering_reverse o → o ≡ Less
back Less e = refl
back Equal e = absurd (cc)
back Greater e = absurd (cc)

list_same : (xs ys : List ℕ) → slice_cmp nat_cmp xs ys ≡ Equal → xs ≡ ys
list_same [] [] e = refl
list_same [] (y ∷ ys) e = absurd (cc)
list_same (x ∷ xs) [] e = absurd (cc)
list_same (x ∷ xs) (y ∷ ys) e =
    let t = both_equal (nat_cmp x y) (slice_cmp nat_cmp xs ys) e in
    ap (λ (z : ℕ). z ∷ xs) (ranked x y Equal (sym t.0)) ∙ ap (λ (zs : List ℕ). y ∷ zs) (list_same xs ys t.1)

last_decides : (a b c : Ordering) → a ≡ Equal → b ≡ Equal → is_lt c ≡ true → is_lt (ordering_then a (ordering_then b c)) ≡ true
last_decides a b c e k h = rw (e, k, h) refl

less_number : (a b : ℕ) → a < b → is_lt (nat_cmp a b) ≡ true
less_number a b h = by (nat_cmp a b) (ranked a b (nat_cmp a b) refl)
  where
    by : (o : Ordering) → MatchOrdering o (a < b) (a ≡ b) (b < a) → is_lt o ≡ true
    by Less r = refl
    by Equal r = absurd (omega arith)
    by Greater r = absurd (omega arith)

-- p may come before r: its place is before that of r, or the same at no greater cost
abbrev IsInTurn : Partial → Partial → Type 0
IsInTurn p r = (place_cmp p r ≡ Less) ⊎ (AreInOnePlace p r × (p.cost ≤ r.cost))

in_turn : (p r : Partial) → is_lt (partial_cmp r p) ≡ false → IsInTurn p r
in_turn p r h = elim (any (place_cmp p r)) [
  | inl e ↦ inl e
  | inr k ↦ elim k [
    | inl e ↦
        let t = both_equal (slice_cmp nat_cmp p.waiting.items r.waiting.items) (slice_cmp nat_cmp p.states.items r.states.items) e in
        inr ((list_same p.waiting.items r.waiting.items t.0, list_same p.states.items r.states.items t.1), no_dearer e)
    | inr e ↦
        let turned : place_cmp r p ≡ Less = back (place_cmp r p) (sym e ∙ place_total.antisymm p r) in
        let bad : true ≡ false = sym (less_goes_on (slice_cmp nat_cmp r.waiting.items p.waiting.items) (slice_cmp nat_cmp r.states.items p.states.items) (nat_cmp r.cost p.cost) turned) ∙ h in
        absurd (cc)
  ]
]
  where
    order : (a b : ℕ) → (a ≤ b) ⊎ (b < a)
    order a b = grind arith

    not_less : r.cost < p.cost → place_cmp p r ≡ Equal → ⊥
    not_less l e =
        let t = both_equal (slice_cmp nat_cmp r.waiting.items p.waiting.items) (slice_cmp nat_cmp r.states.items p.states.items) (tied (place_cmp r p) (sym e ∙ place_total.antisymm p r)) in
        let bad : true ≡ false =
        sym (last_decides (slice_cmp nat_cmp r.waiting.items p.waiting.items) (slice_cmp nat_cmp r.states.items p.states.items) (nat_cmp r.cost p.cost) t.0 t.1 (less_number r.cost p.cost l)) ∙ h
        in
        cc
      where
        tied : (o : Ordering) → Equal ≡ ordering_reverse o → o ≡ Equal
        tied Less e = absurd (cc)
        tied Equal e = refl
        tied Greater e = absurd (cc)

    no_dearer : place_cmp p r ≡ Equal → p.cost ≤ r.cost
    no_dearer e = elim (order p.cost r.cost) [ inl l ↦ l | inr l ↦ absurd (not_less l e) ]

sorted_ascends : {A : Type 0} (R : A → A → Type 0) (xs : List A) → ((i j : ℕ) (d : A) → i < j → j < length xs → R (get_or xs i d) (get_or xs j d)) → Ascends R xs
sorted_ascends R [] f = tt
sorted_ascends R (x ∷ xs) f = (
  each_of (R x) xs (λ y h. let a = at_has xs y x h in subst (R x) a.2 (f 0 (suc a.0) x (omega arith) (omega (arith, a.1)))),
  sorted_ascends R xs (λ i j d h k. f (suc i) (suc j) d (omega arith) (omega arith)),
)

all_in_turn : (ps : List Partial) → IsSorted partial_cmp ps → Ascends IsInTurn ps
all_in_turn ps s =
    sorted_ascends IsInTurn ps
    (λ i j d h k. in_turn (get_or ps i d) (get_or ps j d) (sorted_far (λ x y. is_lt (partial_cmp x y)) (ranks_by partial_total (λ x. x)) ps s i j d (omega arith) k))

-- what comes of keeping the first one in each place, after those that are kept
abbrev pub IsKeptFrom : List Partial → List Partial → List Partial → Type 0
IsKeptFrom kept [] all = kept ≡ all
IsKeptFrom kept (p ∷ ps) all = (b : Bool) × IsAgain kept p b × IsKeptFrom (if b then kept else kept ++ p ∷ []) ps all

pub none_left : (ps : List Partial) → length ps ≡ 0 → ps ≡ []
none_left [] e = refl
none_left (p ∷ ps) e = absurd (omega arith)

-- the last one decides
pub again_at :
    (kept : List Partial) (last r : Partial) (b : Bool) → slice_get kept (length kept - 1) ≡ Some last → (IsTrue b → AreInOnePlace last r) → (b ≡ false → AreInOnePlace last r → ⊥) →
    IsAgain kept r b
again_at [] last r b e same_place other_place = absurd (cc)
again_at (p ∷ []) last r true e same_place other_place = let same : last ≡ p = cc in subst (λ q. AreInOnePlace q r) same (same_place refl)
again_at (p ∷ []) last r false e same_place other_place = let same : last ≡ p = cc in subst (λ q. AreInOnePlace q r → ⊥) same (other_place refl)
again_at (p ∷ q ∷ ps) last r b e same_place other_place =
    let less : suc (suc (length ps)) - 1 ≡ suc (length ps) = omega arith in
    let here : slice_get (p ∷ q ∷ ps) (suc (length ps)) ≡ Some last = subst (λ i. slice_get (p ∷ q ∷ ps) i ≡ Some last) less e in
    let same : suc (length ps) - 1 ≡ length ps = omega arith in
    again_at (q ∷ ps) last r b (subst (λ i. slice_get (q ∷ ps) i ≡ Some last) (sym same) here) same_place other_place

again_has : (kept : List Partial) (r : Partial) → IsAgain kept r true → (p : Partial) × Has kept p × AreInOnePlace p r
again_has [] r a = absurd (cc)
again_has (p ∷ []) r a = (p, inl refl, a)
again_has (p ∷ q ∷ ps) r a = let o = again_has (q ∷ ps) r a in (o.0, inr o.1, o.2)

less_before : (p q r : Partial) → place_cmp p q ≡ Less → place_cmp q r ≡ Less → place_cmp p r ≡ Less
less_before p q r = place_total.trans p q r

-- where the last one is not in the place of r, all are before it
all_before :
    (kept : List Partial) (r : Partial) → Ascends (λ p q. place_cmp p q ≡ Less) kept → IsAgain kept r false → Each (λ p. IsInTurn p r) kept → Each (λ p. place_cmp p r ≡ Less) kept
all_before [] r up a turns = tt
all_before (p ∷ []) r up a turns = (elim turns.0 [ inl e ↦ e | inr k ↦ absurd (a k.0) ], tt)
all_before (p ∷ q ∷ ps) r up a turns =
    let rest = all_before (q ∷ ps) r up.1 a turns.1 in
    (less_before p q r up.0.0 rest.0, rest)

ascends_more : (ps : List Partial) (r : Partial) → Ascends (λ p q. place_cmp p q ≡ Less) ps → Each (λ p. place_cmp p r ≡ Less) ps → Ascends (λ p q. place_cmp p q ≡ Less) (ps ++ r ∷ [])
ascends_more [] r up a = (tt, tt)
ascends_more (p ∷ ps) r up a = (each_more (λ q. place_cmp p q ≡ Less) ps r up.0 a.0, ascends_more ps r up.1 a.1)

module _ (done kept : List Partial) (r : Partial) (m : AreMerged done kept) (turns : Each (λ p. IsInTurn p r) done) where
  kept_turns : Each (λ p. IsInTurn p r) kept
  kept_turns = each_of (λ p. IsInTurn p r) kept (λ p h. each_has (λ q. IsInTurn q r) done p turns (m.sound p h))

  -- a place that was seen
  seen : IsAgain kept r true → AreMerged (done ++ r ∷ []) kept
  seen a =
      let o = again_has kept r a in
      record {
        ascend = m.ascend;
        sound = λ p h. has_left done (r ∷ []) p (m.sound p h);
        whole = λ p h. elim (has_either done (r ∷ []) p h) [
          | inl k ↦ m.whole p k
          | inr k ↦ elim k [
            | inl e ↦ (o.0, o.1, subst (AreInOnePlace o.0) e o.2, subst (λ q. o.0.cost ≤ q.cost) e (cheap o.0 o.1 o.2))
            | inr n ↦ absurd n
          ]
        ];
      }
    where
      no_self : (o : Ordering) → o ≡ ordering_reverse o → o ≡ Less → ⊥
      no_self Less e k = cc
      no_self Equal e k = cc
      no_self Greater e k = cc

      itself : (p q : Partial) → AreInOnePlace p q → place_cmp p q ≡ Less → ⊥
      itself p q place e =
          let own : place_cmp q q ≡ Less =
          subst (λ ws. ordering_then (slice_cmp nat_cmp ws q.waiting.items) (slice_cmp nat_cmp q.states.items q.states.items) ≡ Less) place.0
          (subst (λ ss. ordering_then (slice_cmp nat_cmp p.waiting.items q.waiting.items) (slice_cmp nat_cmp ss q.states.items) ≡ Less) place.1 e)
          in
          no_self (place_cmp q q) (place_total.antisymm q q) own

      cheap : (p : Partial) → Has kept p → AreInOnePlace p r → p.cost ≤ r.cost
      cheap p h place = elim (each_has (λ q. IsInTurn q r) kept p kept_turns h) [ inl e ↦ absurd (itself p r place e) | inr k ↦ k.1 ]

  -- a new place
  new_place : IsAgain kept r false → AreMerged (done ++ r ∷ []) (kept ++ r ∷ [])
  new_place a = record {
    ascend = ascends_more kept r m.ascend (all_before kept r m.ascend a kept_turns);
    sound = λ p h. elim (has_either kept (r ∷ []) p h) [ inl k ↦ has_left done (r ∷ []) p (m.sound p k) | inr k ↦ has_right done (r ∷ []) p k ];
    whole = λ p h. elim (has_either done (r ∷ []) p h) [
      | inl k ↦ let o = m.whole p k in (o.0, has_left kept (r ∷ []) o.0 o.1, o.2, o.3)
      | inr k ↦ (p, has_right kept (r ∷ []) p k, (refl, refl), omega arith)
    ];
  }

  next_place : (b : Bool) → IsAgain kept r b → AreMerged (done ++ r ∷ []) (if b then kept else kept ++ r ∷ [])
  next_place true a = seen a
  next_place false a = new_place a

turns_left : (done : List Partial) (r : Partial) (rest : List Partial) → Ascends IsInTurn (done ++ r ∷ rest) → Each (λ p. IsInTurn p r) done
turns_left [] r rest a = tt
turns_left (p ∷ done) r rest a = (each_has (IsInTurn p) (done ++ r ∷ rest) r a.0 (has_right done (r ∷ rest) r (inl refl)), turns_left done r rest a.1)

kept_are : (done rest kept all : List Partial) → AreMerged done kept → Ascends IsInTurn (done ++ rest) → IsKeptFrom kept rest all → AreMerged (done ++ rest) all
kept_are done [] kept all m a k = subst (λ ps. AreMerged (done ++ []) ps) k (subst (λ ps. AreMerged ps kept) (sym (append-nil done)) m)
kept_are done (r ∷ rest) kept all m a (b, again, more) =
    subst (λ ps. AreMerged ps all) (append_assoc done (r ∷ []) rest)
    (kept_are (done ++ r ∷ []) rest (if b then kept else kept ++ r ∷ []) all (next_place done kept r m (turns_left done r rest a) b again)
    (subst (Ascends IsInTurn) (sym (append_assoc done (r ∷ []) rest)) a) more)

has_permuted : (xs ys : List Partial) (x : Partial) → IsPermutation xs ys → Has xs x → Has ys x
has_permuted xs ys x p h =
    let a = at_has xs x x h in
    let c : Contains ys x = Contains-permutation xs ys x p (a.0, a.1, a.2) in
    subst (Has ys) c.2 (has_at ys c.0 x c.1)

-- those that are kept of the sorted ones are the cheapest of all
pub merged : (found sorted kept : List Partial) → IsPermutation found sorted → IsSorted partial_cmp sorted → IsKeptFrom [] sorted kept → AreMerged found kept
merged found sorted kept permuted s k =
    let m = kept_are [] sorted [] kept (record { ascend = tt; sound = λ p h. absurd h; whole = λ p h. absurd h }) (all_in_turn sorted s) k in
    record {
      ascend = m.ascend;
      sound = λ p h. has_permuted sorted found p (IsPermutation-sym found sorted permuted) (m.sound p h);
      whole = λ p h. m.whole p (has_permuted found sorted p permuted h);
    }
