-- Of values that agree one of the cheapest can be listed: it is impossible that they cannot.
use Rattle.std.specs.Prelude.{◌≡◌, ◌≤◌, ℕ, List, [], ◌∷◌}
use Rattle.std.proofs.Common.{◌⊎◌, refl, ap, sym, ◌∙◌, arith, inl, inr}
use Rattle.tib_lex.specs.Lists.{Has, Each, Ascends}
use Rattle.tib_lex.proofs.Members.{each_has, each_of}
use Rattle.tib_lex.proofs.Booleans.{either_way}

-- one of the values agrees with r
pub record HasAlike {R : Type 0} (Agree : R → R → Type 0) (values : List R) (r : R) : Type 0 where
  pub value : R
  pub stands : Has values value
  pub agrees : Agree value r

-- of the values that agree one of the cheapest
pub record AreLeastOf {R : Type 0} (cost : R → ℕ) (Agree : R → R → Type 0) (values least_ones : List R) : Type 0 where
  pub kept : (r : R) → Has least_ones r → Has values r
  pub least : (r s : R) → Has least_ones r → Has values s → Agree r s → cost r ≤ cost s
  pub whole : (r : R) → Has values r → HasAlike Agree least_ones r
  pub apart : Ascends (λ r s. Agree r s → ⊥) least_ones

module _
    {R : Type 0} (cost : R → ℕ) (Agree : R → R → Type 0) (back : (r s : R) → Agree r s → Agree s r) (on : (r s t : R) → Agree r s → Agree s t → Agree r t)
    (itself : (r s : R) → r ≡ s → Agree r s) where
  abbrev Differ : R → R → Type 0
  Differ r s = Agree r s → ⊥

  same_cost : (r s : R) → r ≡ s → cost r ≤ cost s
  same_cost r s e = omega (arith, ap cost e)

  -- a value with which no other agrees is put before the others
  module _ (r : R) (values listed : List R) (m : AreLeastOf cost Agree values listed) (absent : HasAlike Agree listed r → ⊥) where
    new_least : (x s : R) → Has (r ∷ listed) x → Has (r ∷ values) s → Agree x s → cost x ≤ cost s
    new_least x s (inl e) (inl d) a = same_cost x s (sym e ∙ d)
    new_least x s (inl e) (inr k) a =
        let w = m.whole s k in
        absurd (absent (record { value = w.value; stands = w.stands; agrees = on w.value s r w.agrees (on s x r (back x s a) (itself x r (sym e))) }))
    new_least x s (inr h) (inl d) a = absurd (absent (record { value = x; stands = h; agrees = on x s r a (itself s r (sym d)) }))
    new_least x s (inr h) (inr k) a = m.least x s h k a

    new_whole : (x : R) → Has (r ∷ values) x → HasAlike Agree (r ∷ listed) x
    new_whole x (inl e) = record { value = r; stands = inl refl; agrees = itself r x e }
    new_whole x (inr h) = let w = m.whole x h in record { value = w.value; stands = inr w.stands; agrees = w.agrees }

    listed_new : AreLeastOf cost Agree (r ∷ values) (r ∷ listed)
    listed_new = record {
      kept = λ x h. elim h [ inl e ↦ inl e | inr k ↦ inr (m.kept x k) ];
      least = new_least;
      whole = new_whole;
      apart = (each_of (Differ r) listed (λ x h a. absent (record { value = x; stands = h; agrees = back r x a })), m.apart);
    }

  -- a value that is no cheaper than one that agrees with it is left out
  module _ (r : R) (values listed : List R) (m : AreLeastOf cost Agree values listed) (w : HasAlike Agree listed r) (dear : cost w.value ≤ cost r) where
    old_least : (x s : R) → Has listed x → Has (r ∷ values) s → Agree x s → cost x ≤ cost s
    old_least x s h (inl d) a =
        let low : cost x ≤ cost w.value =
        m.least x w.value h (m.kept w.value w.stands) (on x r w.value (on x s r a (itself s r (sym d))) (back w.value r w.agrees)) in
        omega (arith, low, dear, same_cost r s d)
    old_least x s h (inr k) a = m.least x s h k a

    old_whole : (x : R) → Has (r ∷ values) x → HasAlike Agree listed x
    old_whole x (inl e) = record { value = w.value; stands = w.stands; agrees = on w.value r x w.agrees (itself r x e) }
    old_whole x (inr h) = m.whole x h

    listed_old : AreLeastOf cost Agree (r ∷ values) listed
    listed_old = record { kept = λ x h. inr (m.kept x h); least = old_least; whole = old_whole; apart = m.apart }

  -- the values but one, from which the others differ
  record AreWithout (values : List R) (t : R) (rest : List R) : Type 0 where
    pub stand : (x : R) → Has rest x → Has values x
    pub all : (x : R) → Has values x → (t ≡ x) ⊎ Has rest x
    pub apart : Ascends Differ rest
    pub differ : (x : R) → Has rest x → Differ x t

  without_more : (y t : R) (values rest : List R) → Each (Differ y) values → Has values t → AreWithout values t rest → AreWithout (y ∷ values) t (y ∷ rest)
  without_more y t values rest own k w = record {
    stand = λ x h. elim h [ inl e ↦ inl e | inr l ↦ inr (w.stand x l) ];
    all = all;
    apart = (each_of (Differ y) rest (λ x l. each_has (Differ y) values x own (w.stand x l)), w.apart);
    differ = differ;
  }
    where
      all : (x : R) → Has (y ∷ values) x → (t ≡ x) ⊎ Has (y ∷ rest) x
      all x (inl e) = inr (inl e)
      all x (inr h) = elim (w.all x h) [ inl e ↦ inl e | inr l ↦ inr (inr l) ]

      differ : (x : R) → Has (y ∷ rest) x → Differ x t
      differ x (inl e) a = each_has (Differ y) values t own k (on y x t (itself y x e) a)
      differ x (inr l) a = w.differ x l a

  without : (values : List R) (t : R) → Ascends Differ values → Has values t → (rest : List R) × AreWithout values t rest
  without [] t a h = absurd h
  without (y ∷ values) t a (inl e) = (
    values,
    record {
      stand = λ x h. inr h;
      all = λ x h. elim h [ inl d ↦ inl (sym e ∙ d) | inr l ↦ inr l ];
      apart = a.1;
      differ = λ x h d. each_has (Differ y) values x a.0 h (on y t x (itself y t e) (back x t d));
    },
  )
  without (y ∷ values) t a (inr k) = let w = without values t a.1 k in (y ∷ w.0, without_more y t values w.0 a.0 k w.1)

  -- and one that is cheaper is in its place
  module _ (r : R) (values listed : List R) (m : AreLeastOf cost Agree values listed) (w : HasAlike Agree listed r) (cheap : cost r ≤ cost w.value) (rest : List R) (o : AreWithout listed w.value rest) where
    to_old : (x : R) → r ≡ x → Agree w.value x
    to_old x e = on w.value r x w.agrees (itself r x e)

    instead_least : (x s : R) → Has (r ∷ rest) x → Has (r ∷ values) s → Agree x s → cost x ≤ cost s
    instead_least x s (inl e) (inl d) a = same_cost x s (sym e ∙ d)
    instead_least x s (inl e) (inr k) a =
        let low : cost w.value ≤ cost s = m.least w.value s w.stands k (on w.value x s (to_old x e) a) in
        omega (arith, low, cheap, same_cost x r (sym e))
    instead_least x s (inr h) (inl d) a = absurd (o.differ x h (on x s w.value a (back w.value s (to_old s d))))
    instead_least x s (inr h) (inr k) a = m.least x s (o.stand x h) k a

    instead_whole : (x : R) → Has (r ∷ values) x → HasAlike Agree (r ∷ rest) x
    instead_whole x (inl e) = record { value = r; stands = inl refl; agrees = itself r x e }
    instead_whole x (inr h) = by (m.whole x h)
      where
        by : HasAlike Agree listed x → HasAlike Agree (r ∷ rest) x
        by v = elim (o.all v.value v.stands) [
          | inl e ↦ record { value = r; stands = inl refl; agrees = on r w.value x (back w.value r w.agrees) (on w.value v.value x (itself w.value v.value e) v.agrees) }
          | inr l ↦ record { value = v.value; stands = inr l; agrees = v.agrees }
        ]

    listed_instead : AreLeastOf cost Agree (r ∷ values) (r ∷ rest)
    listed_instead = record {
      kept = λ x h. elim h [ inl e ↦ inl e | inr k ↦ inr (m.kept x (o.stand x k)) ];
      least = instead_least;
      whole = instead_whole;
      apart = (each_of (Differ r) rest (λ x h a. o.differ x h (on x r w.value (back r x a) (back w.value r w.agrees))), o.apart);
    }

  lower_or_not : (m n : ℕ) → (m ≤ n) ⊎ (n ≤ m)
  lower_or_not m n = grind arith

  -- the list of the cheapest is there
  pub least_there : (values : List R) → ((listed : List R) → AreLeastOf cost Agree values listed → ⊥) → ⊥
  least_there [] k = k [] (record { kept = λ r h. absurd h; least = λ r s h. absurd h; whole = λ r h. absurd h; apart = tt })
  least_there (r ∷ values) k =
      least_there values (λ listed m.
      either_way (HasAlike Agree listed r) (λ d. elim d [
        | inl w ↦ elim (lower_or_not (cost w.value) (cost r)) [
          | inl dear ↦ k listed (listed_old r values listed m w dear)
          | inr cheap ↦ let o = without listed w.value m.apart w.stands in k (r ∷ o.0) (listed_instead r values listed m w cheap o.0 o.1)
        ]
        | inr absent ↦ k (r ∷ listed) (listed_new r values listed m absent)
      ]))
