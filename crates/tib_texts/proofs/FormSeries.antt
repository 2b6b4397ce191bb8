-- The series of a normal form is that of its grammar.
use Rattle.std.specs.Prelude.{◌≡◌, ℕ, ◌<◌, List, length, Option}
use Rattle.std.specs.List.{AllZip}
use Rattle.std.proofs.Common.{subst, [], ◌∷◌}
use Rattle.tib_tree.specs.Trees.{Tree}
use Rattle.tib_grammar.specs.GrammarOf.{GrammarOf}
use Rattle.tib_grammar.specs.Series.{IsSeries, KeepsSeries, HasSameSeries, HaveSameSeries}
use Rattle.tib_grammar.specs.declared.Rule.{Rule}

-- weights by rules that keep the series are weights by the rules that they were made of
pub weights_kept :
    (product : ℕ → ℕ → ℕ) (states : ℕ) (rules new : List (Rule ℕ)) (ts : List (Tree ℕ)) (vs : List (Option ℕ)) → 0 < states → KeepsSeries product states rules new →
    AllZip (λ t v. IsSeries product new t v) ts vs → AllZip (λ t v. IsSeries product rules t v) ts vs
weights_kept product states rules new [] [] h k a = tt
weights_kept product states rules new [] (v ∷ vs) h k a = absurd a
weights_kept product states rules new (t ∷ ts) [] h k a = absurd a
weights_kept product states rules new (t ∷ ts) (v ∷ vs) h k a = ((k 0 h t v).1 a.0, weights_kept product states rules new ts vs h k a.1)

-- what has the series of a normal form has that of its grammar
pub same_by_form :
    (product : ℕ → ℕ → ℕ) (g m form h : GrammarOf) → 0 < length g.names → form ≡ m → KeepsSeries product (length g.names) g.rules m.rules → HasSameSeries product form h →
    HaveSameSeries product g.rules h.rules
same_by_form product g m form h some same kept series t v =
    let own : HasSameSeries product m h = subst (λ (n : GrammarOf). HasSameSeries product n h) same series in
    (λ x. (own t v).0 ((kept 0 some t v).0 x), λ x. (kept 0 some t v).1 ((own t v).1 x))
