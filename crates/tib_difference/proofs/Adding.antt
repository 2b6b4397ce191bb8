-- One more edge, and edges after others.
use Rattle.std.specs.Prelude.{◌≡◌, ℕ, ◌+◌, ◌<◌, List, [], ◌∷◌, ◌++◌, length, map, refl}
use Rattle.std.proofs.Common.{suc, arith, ap, sym, ◌∙◌, subst, append_assoc}
use Rattle.tib_lex.specs.Lists.{total}
use Rattle.tib_lex.proofs.Alongs.{along_append}
use Rattle.tib_lex.proofs.Lists.{append_nil, total_more, length_map}
use Rattle.tib_grammar.specs.declared.Rule.{Rule}
use Rattle.tib_determinize.specs.VectorRules.{placed_rule}
use Rattle.tib_difference.specs.declared.listing.KeyListing.{KeyListing}
use Rattle.tib_difference.specs.Difference.{KeyOf}
use Rattle.tib_difference.specs.Listing.{Listed, listed_parts, rules_from, IsListing, IsAdded, IsListedAt, Adds, Overruns, HasAll, Exceed}
use Rattle.tib_key_edges.specs.SideRuleLaws.{map_append}

rules_more : (i : ℕ) (es : List Listed) (e : Listed) (n : ℕ) → n ≡ i + length es → rules_from i (es ++ e ∷ []) ≡ rules_from i es ++ record { end = n; label = e.label; positions = e.positions; cost = e.cost } ∷ []
rules_more i [] e n h = let s : i ≡ n = omega arith in ap (λ (m : ℕ). record { end = m; label = e.label; positions = e.positions; cost = e.cost } ∷ []) s
rules_more i (d ∷ es) e n h = ap (λ rs. record { end = i; label = d.label; positions = d.positions; cost = d.cost } ∷ rs) (rules_more (suc i) es e n (omega arith))

-- a list with one more edge
pub listing_more : (e : Listed) (old new : KeyListing) (es : List Listed) → IsListing old es → IsAdded e.label e.positions e.cost e.key old new → IsListing new (es ++ e ∷ [])
listing_more e old new es h a = record {
  ends = a.ends ∙ ap (λ ks. ks ++ e.key ∷ []) h.ends ∙ sym (map_append (λ (x : Listed). x.key) es (e ∷ []));
  rules = a.rules
      ∙ ap (λ rs. rs ++ record { end = length old.ends.items; label = e.label; positions = e.positions; cost = e.cost } ∷ []) h.rules
      ∙ sym (rules_more 0 es e (length old.ends.items) (let long : length old.ends.items ≡ length es = ap length h.ends ∙ length_map (λ (x : Listed). x.key) es in omega (arith, long)));
  parts = let t = total_more listed_parts es e in omega (arith, a.parts, h.parts, t);
}

module _ (one two : List (Rule ℕ)) (order : List KeyOf) where
  -- one edge
  pub adds_one : (o : ℕ × List ℕ) (e : Listed) (old new : KeyListing) → IsListedAt one two order o e → IsAdded e.label e.positions e.cost e.key old new → Adds one two order (o ∷ []) old new
  adds_one o e old new is a es h = (e ∷ [], listing_more e old new es h a, (is, tt))

  -- too many parts with one edge
  pub overruns_one : (o : ℕ × List ℕ) (e : Listed) (old : KeyListing) → IsListedAt one two order o e → old.budget < old.parts + (2 + length e.positions) → Overruns one two order (o ∷ []) old
  overruns_one o e old is more es h = (
    o ∷ [],
    [],
    e ∷ [],
    refl,
    (is, tt),
    (let t = total_more listed_parts es e in let p = h.parts in omega (arith, more, t, p)),
  )

  -- no edge
  pub adds_none : (l : KeyListing) → Adds one two order [] l l
  adds_none l es h = ([], subst (IsListing l) (sym (append_nil es)) h, tt)

  -- edges after others
  pub adds_both : (os ps : List (ℕ × List ℕ)) (a b c : KeyListing) → Adds one two order os a b → Adds one two order ps b c → Adds one two order (os ++ ps) a c
  adds_both os ps a b c x y es h =
      let f = x es h in
      let g = y (es ++ f.0) f.1 in
      (f.0 ++ g.0, subst (IsListing c) (append_assoc es f.0 g.0) g.1, along_append (IsListedAt one two order) os ps f.0 g.0 f.2 g.2)

  -- too many parts after some edges, with others behind
  pub overruns_after :
      (os ps qs : List (ℕ × List ℕ)) (a b : KeyListing) → b.budget ≡ a.budget → Adds one two order os a b → Overruns one two order ps b → Overruns one two order (os ++ (ps ++ qs)) a
  overruns_after os ps qs a b same x y es h =
      let f = x es h in
      let g = y (es ++ f.0) f.1 in (
        os ++ g.0,
        g.1 ++ qs,
        f.0 ++ g.2,
        ap (λ zs. os ++ (zs ++ qs)) g.3 ∙ ap (λ zs. os ++ zs) (append_assoc g.0 g.1 qs) ∙ sym (append_assoc os g.0 (g.1 ++ qs)),
        along_append (IsListedAt one two order) os g.0 f.0 g.2 f.2 g.4,
        subst (λ n. n < total listed_parts (es ++ (f.0 ++ g.2))) same (subst (λ zs. b.budget < total listed_parts zs) (append_assoc es f.0 g.2) g.5),
      )

  -- from an empty list
  pub has_all : (os : List (ℕ × List ℕ)) (old new : KeyListing) → IsListing old [] → Adds one two order os old new → HasAll one two order os new
  has_all os old new none a = a [] none

  pub exceed : (os : List (ℕ × List ℕ)) (old : KeyListing) → IsListing old [] → Overruns one two order os old → Exceed one two order os old.budget
  exceed os old none o = o [] none

  -- the empty list
  pub begins : (l : KeyListing) → length l.ends.items ≡ 0 → length l.rules.items ≡ 0 → l.parts ≡ 0 → IsListing l []
  begins l e r p = record { ends = nil l.ends.items e; rules = ap (map placed_rule) (nil l.rules.items r); parts = p }
    where
      nil : {A : Type 0} (xs : List A) → length xs ≡ 0 → xs ≡ []
      nil [] h = refl
      nil (x ∷ xs) h = absurd (omega arith)
