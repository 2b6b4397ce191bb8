-- Lists of edges by their origins, as lists of the edges of a position or of the seeds.
use Rattle.std.specs.Prelude.{◌≡◌, ℕ, ◌<◌, List, [], ◌∷◌, ◌++◌, length, map, refl}
use Rattle.std.proofs.Common.{arith, ap, sym, subst, inl, inr}
use Rattle.tib_lex.specs.Lists.{Has, Each, Distinct, Along}
use Rattle.tib_lex.proofs.Members.{has_left}
use Rattle.tib_lex.proofs.Alongs.{along_of, total_fewer}
use Rattle.tib_grammar.specs.Sides.{holes, over}
use Rattle.tib_grammar.specs.Run.{rule_at}
use Rattle.tib_grammar.specs.declared.Rule.{Rule}
use Rattle.tib_expand.specs.EdgeLists.{Lists, Exceeds}
use Rattle.tib_difference.specs.Difference.{KeyOf, keys_at, states_of, IsEdgeOver, edge_parts}
use Rattle.tib_difference.specs.Listing.{Listed, IsListedAt, Exceed}
use Rattle.tib_difference.proofs.Edges.{edge_of, IsInOrder, parts_are}

distinct_left : {A : Type 0} (xs ys : List A) → Distinct (xs ++ ys) → Distinct xs
distinct_left [] ys d = tt
distinct_left (x ∷ xs) ys d = ((λ h. d.0 (has_left xs ys x h)), distinct_left xs ys d.1)

module _ (one two : List (Rule ℕ)) (order : List KeyOf) where
  -- an edge as it is listed is the edge of its rule
  pub edge_is :
      (o : ℕ × List ℕ) (e : Listed) → o.0 < length one → holes (rule_at one o.0).right.kids ≡ states_of (keys_at order o.1) → IsListedAt one two order o e →
      IsEdgeOver one two o.0 (keys_at order o.1) (edge_of order e)
  edge_is o e low states is = record {
    below = low;
    root = e.label;
    is_root = is.root;
    states = states;
    left = is.state;
    subset = is.subset;
    right = ap (λ (ps : List ℕ). over e.label (keys_at order ps)) is.positions;
    cost = is.cost;
  }

  module _ (Edge : ℕ × List ℕ → Rule KeyOf → Type 0) where
    given : (os : List (ℕ × List ℕ)) (es : List Listed) → ((o : ℕ × List ℕ) (e : Listed) → Has os o → IsListedAt one two order o e → Edge o (edge_of order e)) → Along (IsListedAt one two order) os es → Along Edge os (map (edge_of order) es)
    given [] [] f a = tt
    given [] (e ∷ es) f a = absurd a
    given (o ∷ os) [] f a = absurd a
    given (o ∷ os) (e ∷ es) f a = (f o e (inl refl) a.0, given os es (λ x y h. f x y (inr h)) a.1)

    module _
        (os : List (ℕ × List ℕ)) (once : Distinct os) (sound : (o : ℕ × List ℕ) (e : Listed) → Has os o → IsListedAt one two order o e → Edge o (edge_of order e))
        (whole : (o : ℕ × List ℕ) (e : Rule KeyOf) → Edge o e → Has os o) where
      -- the edges of all origins
      pub lists : (es : List Listed) → Along (IsListedAt one two order) os es → Lists Edge (map (edge_of order) es)
      lists es a = record { origins = os; once = once; given = given os es sound a; whole = whole }

      -- that they have more parts than the budget
      pub exceeds : ((o : ℕ × List ℕ) (e f : Rule KeyOf) → Edge o e → Edge o f → e ≡ f) → (budget : ℕ) → Exceed one two order os budget → Exceeds Edge edge_parts budget
      exceeds alone budget x es l =
          let front : List (ℕ × List ℕ) = x.0 in
          let done : List Listed = x.2 in
          let there : (o : ℕ × List ℕ) → Has front o → Has os o = λ o h. subst (λ (zs : List (ℕ × List ℕ)). Has zs o) (sym x.3) (has_left front x.1 o h) in
          let edges = given front done (λ o e h is. sound o e (there o h) is) x.4 in
          let fewer = total_fewer Edge edge_parts alone front (map (edge_of order) done) l.origins es (distinct_left front x.1 (subst (λ (zs : List (ℕ × List ℕ)). Distinct zs) x.3 once)) edges l.given
          (λ o h. let p = along_of Edge front (map (edge_of order) done) o edges h in l.whole o p.0 p.1) in
          let parts = parts_are order done in
          let more = x.5 in
          omega (arith, fewer, parts, more)

  -- the positions of all origins are those of the order
  pub in_order : (os : List (ℕ × List ℕ)) (es : List Listed) → ((o : ℕ × List ℕ) → Has os o → Each (λ p. p < length order) o.1) → Along (IsListedAt one two order) os es → Each (IsInOrder order) es
  in_order [] [] f a = tt
  in_order [] (e ∷ es) f a = absurd a
  in_order (o ∷ os) [] f a = absurd a
  in_order (o ∷ os) (e ∷ es) f a = (subst (λ (ps : List ℕ). Each (λ p. p < length order) ps) (sym a.0.positions) (f o (inl refl)), in_order os es (λ x k. f x (inr k)) a.1)
