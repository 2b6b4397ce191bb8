-- Origins with the position to which they belong.
use Rattle.std.specs.Prelude.{◌≡◌, ℕ, List, [], ◌∷◌, map, refl}
use Rattle.std.proofs.Common.{ap, inl, inr}
use Rattle.tib_lex.specs.Lists.{Has, Distinct, Along}

-- edges of no origin are none
pub no_edges : {O E : Type 0} (os : List O) (es : List E) → Along (λ o e. ⊥) os es → es ≡ []
no_edges [] [] a = refl
no_edges [] (e ∷ es) a = absurd a
no_edges (o ∷ os) [] a = absurd a
no_edges (o ∷ os) (e ∷ es) a = absurd a.0

module _ {O : Type 0} (n : ℕ) where
  -- an origin is paired with its position
  pub has_tagged : (os : List O) (o : O) → Has os o → Has {A = ℕ × O} (map (λ x. (n, x)) os) (n, o)
  has_tagged [] o h = absurd h
  has_tagged (x ∷ os) o h = elim h [ inl e ↦ inl (ap (λ (z : O). (n, z)) e) | inr k ↦ inr (has_tagged os o k) ]

  -- what is paired with a position is an origin of that position
  pub tagged_has : (os : List O) (x : ℕ × O) → Has {A = ℕ × O} (map (λ y. (n, y)) os) x → (n ≡ x.0) × Has os x.1
  tagged_has [] x h = absurd h
  tagged_has (y ∷ os) x h = elim h [
    | inl e ↦ (ap (λ (z : ℕ × O). z.0) e, inl (ap (λ (z : ℕ × O). z.1) e))
    | inr k ↦ let r = tagged_has os x k in (r.0, inr r.1)
  ]

  -- distinct origins stay distinct
  pub tagged_once : (os : List O) → Distinct os → Distinct {A = ℕ × O} (map (λ x. (n, x)) os)
  tagged_once [] d = tt
  tagged_once (x ∷ os) d = (λ h. d.0 (tagged_has os (n, x) h).1, tagged_once os d.1)

  -- each edge keeps its origin
  pub along_tagged : {E : Type 0} (Gives : O → E → Type 0) (Tells : ℕ × O → E → Type 0) → ((o : O) (e : E) → Gives o e → Tells (n, o) e) → (os : List O) (es : List E) → Along Gives os es → Along Tells (map (λ x. (n, x)) os) es
  along_tagged Gives Tells f [] [] a = tt
  along_tagged Gives Tells f [] (e ∷ es) a = absurd a
  along_tagged Gives Tells f (o ∷ os) [] a = absurd a
  along_tagged Gives Tells f (o ∷ os) (e ∷ es) a = (f o e a.0, along_tagged Gives Tells f os es a.1)
