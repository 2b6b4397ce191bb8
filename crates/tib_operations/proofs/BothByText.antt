-- The vectors of both grammars side by side, under other numbers of labels and for other trimmed
-- normal forms.
use Rattle.std.specs.Prelude.{◌≡◌, ℕ, ◌+◌, ◌<◌, ◌≤◌, max, List, ◌++◌, length, map, refl}
use Rattle.std.proofs.Common.{arith, ap, sym, ◌∙◌, subst, inl, inr}
use Rattle.tib_lex.specs.Lists.{Has, Distinct, IsReordering, total as edges_total}
use Rattle.tib_lex.proofs.Lists.{has_mapped, mapped_has}
use Rattle.tib_lex.proofs.Members.{at_has, has_left, has_right, has_either}
use Rattle.tib_cost.specs.Semiring.{boolean_laws}
use Rattle.tib_grammar.specs.Forms.{IsLabel, IsNormalSide, AreNormal}
use Rattle.tib_grammar.specs.GrammarOf.{GrammarOf}
use Rattle.tib_grammar.specs.Run.{no_rule}
use Rattle.tib_grammar.specs.Sides.{Symbol, label, hole, holes, leaves}
use Rattle.tib_grammar.specs.declared.Rule.{Rule}
use Rattle.tib_grammar_file.specs.ByText.{AgreeByText}
use Rattle.tib_grammar_file.proofs.Relabelled.{symbol_with}
use Rattle.tib_grammar_file.proofs.Renumbering.{renumbering}
use Rattle.tib_expand.specs.Keys.{key_parts}
use Rattle.tib_expand.specs.Reached.{IsReachedSet, IsBeyond}
use Rattle.tib_ranked_trees.specs.Levels.{root_of}
use Rattle.tib_canon.specs.TrimmedForms.{IsTrimmedForm}
use Rattle.tib_canon.proofs.EdgesByText.{edge_with}
use Rattle.tib_canon.proofs.NormalForms.{form_leaves, forms_alike}
use Rattle.tib_canon.proofs.TrimmedByText.{grammar_with}
use Rattle.tib_canon.proofs.TrimmedOnce.{names_long, trimmed_alike}
use Rattle.tib_determinize.specs.Determinization.{determinization, edge_parts}
use Rattle.tib_determinize.specs.Vectors.{VectorOf}
use Rattle.tib_compare.specs.Beside.{beside, moved, raised}
use Rattle.tib_compare.specs.Faults.{hunted}
use Rattle.tib_operations.specs.Intersect.{AreTrimmedForms}
use Rattle.tib_operations.proofs.OfIntersect.{form_is_normal}
use Rattle.tib_operations.proofs.PairsByText.{differ, trimmed_given}
use Rattle.tib_operations.proofs.VectorsByText.{IsMoved, AreMoved, reached_moved, reordered, renumbered, edges_as_large}
use Rattle.tib_operations.specs.Compare.{HasVectorsWithin}

normal_has : (rules : List (Rule ℕ)) → AreNormal rules → (r : Rule ℕ) → Has rules r → IsNormalSide r.right
normal_has rules normal r h = let at = at_has rules r no_rule h in subst (λ (s : Rule ℕ). IsNormalSide s.right) at.2 (normal at.0 at.1)

module _ (f : ℕ → ℕ) where
  root_moved : (s z : Symbol ℕ ℕ) → IsLabel s → z ≡ symbol_with f s → root_of z ≡ f (root_of s)
  root_moved (label g) z h e = ap root_of e
  root_moved (hole p) z h e = absurd h

  -- a rule whose states are raised
  rule_raised : (by : ℕ) (r s : Rule ℕ) → IsNormalSide r.right → IsMoved f r s → IsMoved f (moved (by + r.left) by 0 r) (moved (by + s.left) by 0 s)
  rule_raised by r s normal m = record {
    left = ap (λ (n : ℕ). by + n) m.left;
    root = ap (λ (g : ℕ). label g) (root_moved r.right.label s.right.label normal.is_label m.root);
    kids = ap (λ (qs : List ℕ). holes (leaves {A = ℕ} (map (λ (q : ℕ). by + q) qs))) m.kids;
    cost = refl;
  }

  rules_raised : (by : ℕ) (xs ys : List (Rule ℕ)) → AreNormal xs → AreMoved f xs ys → AreMoved f (raised by xs) (raised by ys)
  rules_raised by xs ys normal are = record {
    to = λ r h.
        let m = has_mapped (λ (x : Rule ℕ). moved (by + x.left) by 0 x) xs r h in
        let s = are.to m.0 m.1 in (
          moved (by + s.0.left) by 0 s.0,
          mapped_has (λ (x : Rule ℕ). moved (by + x.left) by 0 x) ys s.0 s.1,
          subst (λ (z : Rule ℕ). IsMoved f z (moved (by + s.0.left) by 0 s.0)) m.2 (rule_raised by m.0 s.0 (normal_has xs normal m.0 m.1) s.2),
        );
    from = λ s h.
        let m = has_mapped (λ (x : Rule ℕ). moved (by + x.left) by 0 x) ys s h in
        let r = are.from m.0 m.1 in (
          moved (by + r.0.left) by 0 r.0,
          mapped_has (λ (x : Rule ℕ). moved (by + x.left) by 0 x) xs r.0 r.1,
          subst (λ (z : Rule ℕ). IsMoved f (moved (by + r.0.left) by 0 r.0) z) m.2 (rule_raised by r.0 m.0 (normal_has xs normal r.0 r.1) r.2),
        );
  }

  both_are : (xs ys us vs : List (Rule ℕ)) → AreMoved f xs ys → AreMoved f us vs → AreMoved f (xs ++ us) (ys ++ vs)
  both_are xs ys us vs a b = record {
    to = λ r h. elim (has_either xs us r h) [
      | inl k ↦ let s = a.to r k in (s.0, has_left ys vs s.0 s.1, s.2)
      | inr k ↦ let s = b.to r k in (s.0, has_right ys vs s.0 s.1, s.2)
    ];
    from = λ s h. elim (has_either ys vs s h) [
      | inl k ↦ let r = a.from s k in (r.0, has_left xs us r.0 r.1, r.2)
      | inr k ↦ let r = b.from s k in (r.0, has_right xs us r.0 r.1, r.2)
    ];
  }

  module _ (apart : (i j : ℕ) → f i ≡ f j → i ≡ j) (m n : ℕ) (xs ys us vs : List (Rule ℕ)) (same : m ≡ n) (normal : AreNormal xs) (normal_too : AreNormal us) (a : AreMoved f xs ys) (b : AreMoved f us vs) where
    -- the reached set of both has the same order
    both_reached :
        (order : List VectorOf) (es : List (Rule VectorOf)) → IsReachedSet (determinization max (beside m xs us)) order es →
        IsReachedSet (determinization max (beside n ys vs)) order (map (edge_with f) es)
    both_reached order es reached =
        subst (λ (k : ℕ). IsReachedSet (determinization max (beside k ys vs)) order (map (edge_with f) es)) same
        (reached_moved max f apart (beside m xs us) (beside m ys vs)
        (both_are (raised 0 xs) (raised 0 ys) (raised m us) (raised m vs) (rules_raised 0 xs ys normal a) (rules_raised m us vs normal_too b)) order es reached)

-- trimmed normal forms of a grammar have as many states
states_same : (g m n : GrammarOf) → IsTrimmedForm max g m → IsTrimmedForm max g n → length m.names ≡ length n.names
states_same g m n a b =
    let leaves_a = form_leaves max (length g.names) g.rules (length a.normal.names) a.normal.rules a.form in
    let leaves_b = form_leaves max (length g.names) g.rules (length b.normal.names) b.normal.rules b.form in
    let alike = forms_alike max (length g.names) g.rules (length a.normal.names) (length b.normal.names) a.normal.rules b.normal.rules a.form b.form in
    let same = trimmed_alike max a.normal b.normal m n leaves_a leaves_b alike a.trimmed b.trimmed in
    names_long max a.normal m a.trimmed ∙ ap (λ (qs : List ℕ). length qs) same.0 ∙ sym (names_long max b.normal n b.trimmed)

-- more vectors than the limit, whichever trimmed normal forms are taken
pub more_of_both :
    (limit : ℕ) (f g one two : GrammarOf) → ((h m n : GrammarOf) → IsTrimmedForm max h m → IsTrimmedForm max h n → IsReordering m.rules n.rules) → IsTrimmedForm max f one → IsTrimmedForm max g two →
    IsBeyond (hunted one two) limit → (forms : GrammarOf × GrammarOf) → AreTrimmedForms max f g forms → IsBeyond (hunted forms.0 forms.1) limit
more_of_both limit f g one two same first second beyond forms are order edges reached =
    let moved_set =
    both_reached (λ (n : ℕ). n) (λ i j e. e) (length forms.0.names) (length one.names) forms.0.rules one.rules forms.1.rules two.rules (states_same f forms.0 one are.0 first)
    (form_is_normal boolean_laws f forms.0 are.0) (form_is_normal boolean_laws g forms.1 are.1) (reordered forms.0.rules one.rules (same f forms.0 one are.0 first))
    (reordered forms.1.rules two.rules (same g forms.1 two are.1 second)) order edges reached in
    let more : limit < edges_total (key_parts (λ (v : VectorOf). length v)) order + edges_total edge_parts (map (edge_with (λ (n : ℕ). n)) edges) =
    beyond order (map (edge_with (λ (n : ℕ). n)) edges) moved_set in
    omega (arith, more, edges_as_large (λ (n : ℕ). n) edges)

module _ (limit : ℕ) (labels others : List (List ℕ)) (apart : Distinct labels) (different : Distinct others) where
  -- where the vectors of both are within the limit, those of the grammars over the other table are
  pub both_by_text : (f g h k : GrammarOf) → AgreeByText labels others f h → AgreeByText labels others g k → HasVectorsWithin limit f g → HasVectorsWithin limit h k
  both_by_text f g h k a b w =
      let s = renumbering labels others apart different in
      let one : GrammarOf = w.forms.0 in
      let two : GrammarOf = w.forms.1 in
      let left = trimmed_given max labels others s.0 s.1 f h one a w.are_forms.0 in
      let right = trimmed_given max labels others s.0 s.1 g k two b w.are_forms.1 in
      let within : edges_total (key_parts (λ (v : VectorOf). length v)) w.within.0 + edges_total edge_parts w.within.1 ≤ limit = w.within.3 in
      record {
        forms = (grammar_with s.0 one, grammar_with s.0 two);
        are_forms = (left, right);
        within = (
          w.within.0,
          map (edge_with s.0) w.within.1,
          both_reached s.0 s.1.apart (length one.names) (length one.names) one.rules (grammar_with s.0 one).rules two.rules (grammar_with s.0 two).rules refl
              (form_is_normal boolean_laws f one w.are_forms.0) (form_is_normal boolean_laws g two w.are_forms.1)
              (renumbered s.0 one.rules (grammar_with s.0 one).rules (differ max labels others s.0 s.1 f h one (grammar_with s.0 one) a w.are_forms.0 left))
              (renumbered s.0 two.rules (grammar_with s.0 two).rules (differ max labels others s.0 s.1 g k two (grammar_with s.0 two) b w.are_forms.1 right)) w.within.0 w.within.1 w.within.2,
          omega (arith, within, edges_as_large s.0 w.within.1),
        );
      }
