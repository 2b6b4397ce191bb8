-- The ends of an edge of a key are of states in range, over places of the string in order, where
-- the key is.
use Rattle.std.specs.Prelude.{◌≡◌, ℕ, ◌<◌, ◌≤◌, List, [], ◌∷◌, length, map}
use Rattle.std.proofs.Common.{arith, ap, ◌∙◌, subst, inl, inr}
use Rattle.tib_lex.specs.Lists.{Has, Each}
use Rattle.tib_tree.specs.Trees.{only}
use Rattle.tib_grammar.specs.Sides.{holes, holes_of}
use Rattle.tib_grammar.specs.Range.{AllBelow}
use Rattle.tib_grammar.specs.declared.Rule.{Rule}
use Rattle.tib_grammar.proofs.Sides.{holes-relabel}
use Rattle.tib_grammar.proofs.Members.{each_has}
use Rattle.tib_transducer.specs.Rules.{variables_of}
use Rattle.tib_transducer.specs.declared.Variable.{Variable}
use Rattle.tib_transducer.specs.declared.Pair.{Pair}
use Rattle.tib_strings.specs.Rules.{string_rule, pairs_of}
use Rattle.tib_strings.specs.Range.{AreWithin}
use Rattle.tib_image.specs.Restrictions.{restricted_labels}
use Rattle.tib_strings.specs.Cuts.{IsCut, spans}
use Rattle.tib_image.specs.Parsing.{span_at, parse_key, IsParseEdge}
use Rattle.tib_image.specs.ParseOperation.{IsKey}
use Rattle.tib_strings.specs.declared.Word.{Word as Token}
use Rattle.tib_strings.specs.declared.Word.TheVariants.{Word, Hole}
use Rattle.tib_strings.specs.declared.StringRule.{StringRule}
use Rattle.tib_lex.proofs.Numbers.{nat_eq_cases}
use Rattle.tib_apply.proofs.Restricting.{IsListed}
use Rattle.tib_lex.proofs.Lists.{has_mapped}
use Rattle.tib_image.specs.RestrictedLabels.{are_listed, restriction_within}
use Rattle.tib_strings.proofs.Cutting.{IsRange, cut_up, after_up}

-- the places at the pairs are in order, and within the string where the cut ends in it
cut_ranges : (string : List ℕ) (ws : List (Token ℕ)) (i j : ℕ) (ks : List ℕ) → IsCut string ws i j ks → j ≤ length string → Each (IsRange string) (spans ws i ks)
cut_ranges string [] i j ks c h = tt
cut_ranges string (w ∷ ws) i j [] c h = absurd c
cut_ranges string (Word f ∷ ws) i j (k ∷ ks) c h = cut_ranges string ws k j ks c.1 h
cut_ranges string (Hole x ∷ ws) i j (k ∷ ks) c h = ((c.0, after_up (cut_up string ws k j ks c.1) h), cut_ranges string ws k j ks c.1 h)

record IsPlaced (states n : ℕ) (s : ℕ × ℕ × ℕ) : Type 0 where
  state : s.0 < states
  from : s.1 ≤ s.2
  to : s.2 ≤ n

span_placed :
    (states : ℕ) → 0 < states → (string : List ℕ) (i : ℕ) (xs : List (Pair ℕ)) (ss : List (ℕ × ℕ)) → AllBelow states (map (λ x. x.state) xs) → Each (IsRange string) ss →
    IsPlaced states (length string) (span_at i xs ss)
span_placed states some string i [] ss b r = record { state = some; from = omega arith; to = omega arith }
span_placed states some string i (x ∷ xs) [] b r = record { state = some; from = omega arith; to = omega arith }
span_placed states some string i (x ∷ xs) (s ∷ ss) b r = elim (nat_eq_cases i x.variable) [
  | inl k ↦ rw k.1 (record { state = b.0; from = r.0.0; to = r.0.1 })
  | inr k ↦ rw k.1 (span_placed states some string i xs ss b.1 r.1)
]

module _ (states : ℕ) (some : 0 < states) (moves : List (StringRule ℕ)) (within : AreWithin states moves) (string : List ℕ) where
  abbrev Good : ℕ × ℕ × ℕ × ℕ → Type 0
  Good k = IsKey states (length string) (length (restricted_labels moves)) k

  -- the ends of an edge of such a key are such keys
  pub ends_within : (k : ℕ × ℕ × ℕ × ℕ) (o : ℕ × List ℕ) (e : Rule (ℕ × ℕ × ℕ × ℕ)) (l : ℕ × ℕ × ℕ × ℕ) → Good k → IsParseEdge moves string k o e → Has (holes_of e.right) l → Good l
  ends_within k o e l good edge h =
      let pairs : List (Pair ℕ) = pairs_of (string_rule moves o.0).right in
      let ss : List (ℕ × ℕ) = spans (string_rule moves o.0).right k.1 o.1 in
      let pk : Variable → ℕ × ℕ × ℕ × ℕ = parse_key (restricted_labels moves) pairs ss in
      let at : holes_of e.right ≡ map pk (variables_of (string_rule moves o.0).left) = ap (λ s. holes (only s)) edge.right ∙ holes-relabel pk (only (string_rule moves o.0).left) in
      let v = has_mapped pk (variables_of (string_rule moves o.0).left) l (subst (λ (ks : List (ℕ × ℕ × ℕ × ℕ)). Has ks l) at h) in
      let p = span_placed states some string v.0.number pairs ss (within o.0 edge.below).1 (cut_ranges string (string_rule moves o.0).right k.1 k.2 o.1 edge.is_cut good.to) in
      let listed : IsListed (restricted_labels moves) v.0 = each_has (IsListed (restricted_labels moves)) (variables_of (string_rule moves o.0).left) v.0 (are_listed moves o.0 edge.below) v.1 in
      subst Good v.2 (record { state = p.state; from = p.from; to = p.to; restricted = restriction_within (restricted_labels moves) v.0.label listed })
