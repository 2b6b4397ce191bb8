-- The edges of one more position.
use Rattle.std.specs.Prelude.{◌≡◌, ℕ, ◌+◌, ◌<◌, ◌≤◌, List, [], ◌∷◌, ◌++◌, length, take}
use Rattle.std.proofs.Common.{ap, sym, ◌∙◌, subst, get_or}
use Rattle.tib_lex.specs.Lists.{Has, Distinct}
use Rattle.tib_lex.proofs.Places.{not_before, take_next, take_whole}
use Rattle.tib_grammar.specs.declared.Rule.{Rule}
use Rattle.tib_key_edges.specs.Ends.{key_at as key_of}
use Rattle.tib_key_edges.specs.Listing.{IsListed, Overruns, AreListedFrom}
use Rattle.tib_image.specs.Listing.{Listing, ListsOrigin, OriginOverruns}

module _ (Gives : ℕ → Rule (ℕ × ℕ) → Type 0) (key : ℕ × ℕ) (order : List (ℕ × ℕ)) (ps : List ℕ) (i m : ℕ) (below : i < length ps) (is : m ≡ get_or ps i 0) (once : Distinct ps) where
  untried : Has (take i ps) m → ⊥
  untried h = not_before ps i 0 once below (subst (Has (take i ps)) is h)

  -- the edge of one more origin
  pub key_next : (l n : Listing) → l.position < length order → key_of order l.position ≡ key → ListsOrigin Gives key m l n → IsListed Gives order (take i ps) l → IsListed Gives order (take (i + 1) ps) n
  key_next l n within at lists listed =
      subst (λ qs. IsListed Gives order qs n) (sym (take_next ps i 0 below ∙ ap (λ p. take i ps ++ p ∷ []) (sym is))) (lists order within at (take i ps) untried listed)

  -- an origin whose edge is too much
  pub key_overruns : (l : Listing) → l.position < length order → key_of order l.position ≡ key → OriginOverruns Gives key m l → IsListed Gives order (take i ps) l → Overruns Gives l.budget
  key_overruns l within at over listed = over order within at (take i ps) untried listed

-- the origins at all positions are all
pub key_whole :
    (Gives : ℕ → Rule (ℕ × ℕ) → Type 0) (order : List (ℕ × ℕ)) (ps : List ℕ) (i : ℕ) (l : Listing) → ((o : ℕ) (e : Rule (ℕ × ℕ)) → Gives o e → Has ps o) → length ps ≤ i → IsListed Gives order (take i ps) l →
    AreListedFrom Gives order l
key_whole Gives order ps i l all past listed = record {
  tried = ps;
  listed = subst (λ qs. IsListed Gives order qs l) (take_whole ps i past) listed;
  all = all;
}
