-- Bytes are the text of at most one transducer over one table of distinct labels.
use Rattle.tib_cost.specs.declared.Scale.{Scale}
use Rattle.std.proofs.Common.{◌≡◌, ℕ, List, [], ◌∷◌, refl, ap, ◌∙◌}
use Rattle.tib_lex.specs.Lists.{Along, Distinct}
use Rattle.tib_tree.specs.Trees.{Tree, only}
use Rattle.tib_grammar.specs.Sides.{Symbol}
use Rattle.tib_strings.specs.StringTransducerOf.{StringTransducerOf}
use Rattle.tib_strings.specs.declared.StringRule.{StringRule}
use Rattle.tib_strings.specs.declared.Word.{Word as Token}
use Rattle.tib_strings.specs.declared.Word.TheVariants.{Word, Hole}
use Rattle.tib_transducer.specs.declared.Variable.{Variable}
use Rattle.tib_transducer.specs.declared.Pair.{Pair}
use Rattle.tib_transducer_file.proofs.OneByText.{pair_same}
use Rattle.tib_transducer_file.proofs.OneTransducer.{shape_same, side_same, label_same, left_same, rules_same}
use Rattle.tib_strings.specs.RuleValue.{nodes_of}
use Rattle.tib_strings.specs.TransducerText.{ReadsAs}
use Rattle.tib_strings.specs.ByText.{AgreeOnLeft, AgreeOnRight, AreOneStringRule}
use Rattle.tib_strings.proofs.OneByText.{one_by_text}

module _ (labels : List (List ℕ)) (apart : Distinct labels) where
  words_same : (ws vs : List (Token ℕ)) → Along (λ x y. AgreeOnRight labels labels x.0 y.0) (nodes_of ws) (nodes_of vs) → ws ≡ vs
  words_same [] [] h = refl
  words_same [] (v ∷ vs) h = absurd h
  words_same (w ∷ ws) [] h = absurd h
  words_same (Word f ∷ ws) (Word g ∷ vs) h = ap (λ (n : ℕ). Word n ∷ ws) (label_same labels apart f g h.0) ∙ ap (λ (xs : List (Token ℕ)). Word g ∷ xs) (words_same ws vs h.1)
  words_same (Word f ∷ ws) (Hole y ∷ vs) h = absurd h.0
  words_same (Hole x ∷ ws) (Word g ∷ vs) h = absurd h.0
  words_same (Hole x ∷ ws) (Hole y ∷ vs) h = ap (λ (z : Pair ℕ). Hole z ∷ ws) (pair_same x y h.0.0 h.0.1) ∙ ap (λ (xs : List (Token ℕ)). Hole y ∷ xs) (words_same ws vs h.1)

  rule_same : (r s : StringRule ℕ) → AreOneStringRule labels labels r s → r ≡ s
  rule_same r s h =
      let left = side_same r.left s.left (shape_same (AgreeOnLeft labels labels) (left_same labels apart) (only r.left) (only s.left) h.left) in
      ap (λ (q : ℕ). record { state = q; left = r.left; right = r.right; cost = r.cost }) h.state
      ∙ ap (λ (l : Tree (Symbol ℕ Variable)). record { state = s.state; left = l; right = r.right; cost = r.cost }) left
      ∙ ap (λ (l : List (Token ℕ)). record { state = s.state; left = s.left; right = l; cost = r.cost }) (words_same r.right s.right h.right)
      ∙ ap (λ (n : ℕ). record { state = s.state; left = s.left; right = s.right; cost = n }) h.cost

-- transducers of one text are the same
pub one_transducer :
    (scale : Scale) (labels : List (List ℕ)) (bytes : List ℕ) (t u : StringTransducerOf) → Distinct labels → ReadsAs scale labels bytes t → ReadsAs scale labels bytes u → t ≡ u
one_transducer scale labels bytes t u apart r q =
    let a = one_by_text scale labels labels bytes t u r q in
    ap (λ (ns : List (List ℕ)). record { names = ns; rules = t.rules }) a.names
    ∙ ap (λ (rs : List (StringRule ℕ)). record { names = u.names; rules = rs }) (rules_same (AreOneStringRule labels labels) (rule_same labels apart) t.rules u.rules a.rules)
