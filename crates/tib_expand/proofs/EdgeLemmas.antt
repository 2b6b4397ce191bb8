-- Lists of edges: one edge, and at least one.
use Rattle.std.proofs.Common.{◌≡◌, inl, ℕ, ◌<◌, List, [], ◌∷◌, sym, arith}
use Rattle.tib_lex.specs.Lists.{Has, Along, total}
use Rattle.tib_expand.specs.EdgeLists.{Lists}

module _ {O E : Type 0} (edge : O → E → Type 0) where
  -- where one origin alone gives an edge, that edge is the list
  pub Lists-one : (o : O) (e : E) → edge o e → ((x : O) (f : E) → edge x f → x ≡ o) → Lists edge (e ∷ [])
  Lists-one o e is alone = record {
    origins = o ∷ [];
    once = ((λ h. h), tt);
    given = (is, tt);
    whole = λ x f h. inl (sym (alone x f h));
  }

  -- where an origin gives an edge, the list has parts
  pub Lists-some : (parts : E → ℕ) (o : O) (e : E) → edge o e → ((f : E) → 0 < parts f) → (es : List E) → Lists edge es → 0 < total parts es
  Lists-some parts o e is more es l = go l.origins es l.given (l.whole o e is)
    where
      go : (os : List O) (es : List E) → Along edge os es → Has os o → 0 < total parts es
      go [] es a h = absurd h
      go (x ∷ os) [] a h = absurd a
      go (x ∷ os) (f ∷ es) a h = let m = more f in omega arith
