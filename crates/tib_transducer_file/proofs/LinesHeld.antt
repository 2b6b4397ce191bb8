-- What a line of a transducer file holds, or its fault, is what is read of it.
use Rattle.tib_cost.specs.declared.Scale.{Scale}
use Rattle.std.proofs.Common.{◌≡◌, ℕ, inl, inr, true, false, List, [], ◌∷◌, length, length-append, refl, ap, ◌∙◌, arith, Option}
use Rattle.std.specs.Prelude.{Some, None, Result, Ok, Err, cond}
use Rattle.tib_lex.specs.Grammar.{Word, HasWords, HasBadToken}
use Rattle.tib_lex.specs.declared.fault.FaultKind.{FaultKind}
use Rattle.tib_lex.specs.declared.fault.FaultKind.TheVariants as kinds
use Rattle.tib_tree.specs.Written.{Item}
use Rattle.tib_grammar_file.specs.Weight.{cost_of}
use Rattle.tib_grammar_file.proofs.FaultyLines.{weight_read}
use Rattle.tib_grammar_file.proofs.WholeWeights.{cost_forth}
use Rattle.tib_transducer_file.specs.Pieces.{Piece, pieces_of}
use Rattle.tib_transducer_file.specs.Rule.{Parts, SpellsRuleBy, parts_by, RuleLine, is_lone, is_twice, has_unknown, has_many, with_cost, checked, good_parts, rule_in, rule_line_by}
use Rattle.tib_transducer_file.specs.TransducerText.{HasPartsBy, SpellsLineBy}
use Rattle.tib_transducer_file.specs.Faults.{HasNoRule, HasBadWeight, HasRuleFault, HoldsRule}
use Rattle.tib_transducer_file.proofs.PiecesRead.{pieces_read, bad_pieces_read}
use Rattle.tib_transducer_file.proofs.RulesRead.{spelled_back, spelled_forth}
use Rattle.tib_transducer_file.specs.Formats.{IsFormat}

-- how they are checked
module _ (scale : Scale) (p : Parts) where
  abbrev weighed : Result (Option RuleLine) FaultKind
  weighed = with_cost p (cost_of scale p.weight)

  lone_checked : is_lone p ≡ true → checked scale p ≡ Err kinds.LoneVariable
  lone_checked e = ap (λ b. cond b (Err kinds.LoneVariable) (cond (is_twice p) (Err kinds.VariableTwice) (cond (has_unknown p) (Err kinds.UnknownVariable) weighed))) e

  some_checked : is_lone p ≡ false → checked scale p ≡ cond (is_twice p) (Err kinds.VariableTwice) (cond (has_unknown p) (Err kinds.UnknownVariable) weighed)
  some_checked e = ap (λ b. cond b (Err kinds.LoneVariable) (cond (is_twice p) (Err kinds.VariableTwice) (cond (has_unknown p) (Err kinds.UnknownVariable) weighed))) e

  twice_checked : is_lone p ≡ false → is_twice p ≡ true → checked scale p ≡ Err kinds.VariableTwice
  twice_checked s e = some_checked s ∙ ap (λ b. cond b (Err kinds.VariableTwice) (cond (has_unknown p) (Err kinds.UnknownVariable) weighed)) e

  once_checked : is_lone p ≡ false → is_twice p ≡ false → checked scale p ≡ cond (has_unknown p) (Err kinds.UnknownVariable) weighed
  once_checked s e = some_checked s ∙ ap (λ b. cond b (Err kinds.VariableTwice) (cond (has_unknown p) (Err kinds.UnknownVariable) weighed)) e

  unknown_checked : is_lone p ≡ false → is_twice p ≡ false → has_unknown p ≡ true → checked scale p ≡ Err kinds.UnknownVariable
  unknown_checked s o e = once_checked s o ∙ ap (λ b. cond b (Err kinds.UnknownVariable) weighed) e

  known_checked : is_lone p ≡ false → is_twice p ≡ false → has_unknown p ≡ false → checked scale p ≡ weighed
  known_checked s o e = once_checked s o ∙ ap (λ b. cond b (Err kinds.UnknownVariable) weighed) e

module _ {Right : List Word → List Item → Type 0} {read : List Word → Option (List Item)} (format : IsFormat Right read) where
  no_tokens : (p : Parts) → SpellsRuleBy Right [] p → ⊥
  no_tokens p s = omega (arith, ap length s.are, length-append s.front (s.arrow ∷ s.back))

  -- the parts of a rule
  parts_read : (scale : Scale) (line : List ℕ) (p : Parts) → HasPartsBy Right line p → rule_line_by read scale line ≡ checked scale p
  unfolding rule_line_by
  parts_read scale line p h = by h.pieces h.spells (pieces_read h.pieces line h.has)
    where
      by : (pieces : List Piece) → SpellsRuleBy Right pieces p → pieces_of line ≡ Some pieces → rule_in read scale (pieces_of line) ≡ checked scale p
      by [] s e = absurd (no_tokens p s)
      by (q ∷ pieces) s e = ap (rule_in read scale) e ∙ ap (good_parts scale) (spelled_forth format (q ∷ pieces) p s)

  -- a rule that is spelled, but for the limit on its nodes
  pub spelled_read : (scale : Scale) (line : List ℕ) (rule : RuleLine) → SpellsLineBy Right scale line rule → rule_line_by read scale line ≡ cond (has_many rule.parts) (Err kinds.TooManyNodes) (Ok (Some rule))
  spelled_read scale line rule s =
      parts_read scale line rule.parts s.parts
      ∙ known_checked scale rule.parts s.some s.once s.known
      ∙ ap (with_cost rule.parts) (cost_forth scale rule.parts.weight rule.cost s.cost)

  -- and within that limit
  pub few_read : (scale : Scale) (line : List ℕ) (rule : RuleLine) → SpellsLineBy Right scale line rule → has_many rule.parts ≡ false → rule_line_by read scale line ≡ Ok (Some rule)
  few_read scale line rule s e = spelled_read scale line rule s ∙ ap (λ b. cond b (Err kinds.TooManyNodes) (Ok (Some rule))) e

  -- lines that hold no rule
  pub blank_read : (scale : Scale) (line : List ℕ) → HasWords [] line → rule_line_by read scale line ≡ Ok None
  unfolding rule_line_by
  blank_read scale line h = ap (rule_in read scale) (pieces_read [] line h)

  bad_line : (scale : Scale) (line : List ℕ) → HasBadToken line → rule_line_by read scale line ≡ Err kinds.BadToken
  unfolding rule_line_by
  bad_line scale line h = ap (rule_in read scale) (bad_pieces_read line h)

  none_parts : (pieces : List Piece) (o : Option Parts) → parts_by read pieces ≡ o → ((p : Parts) → SpellsRuleBy Right pieces p → ⊥) → parts_by read pieces ≡ None
  none_parts pieces None e h = e
  none_parts pieces (Some p) e h = absurd (h p (spelled_back format pieces p e))

  no_rule_line : (scale : Scale) (line : List ℕ) → HasNoRule Right line → rule_line_by read scale line ≡ Err kinds.BadRule
  unfolding rule_line_by
  no_rule_line scale line h =
      ap (rule_in read scale) (pieces_read (h.piece ∷ h.pieces) line h.has)
      ∙ ap (good_parts scale) (none_parts (h.piece ∷ h.pieces) (parts_by read (h.piece ∷ h.pieces)) refl h.none)

  bad_weight : (scale : Scale) (line : List ℕ) (kind : FaultKind) → HasBadWeight Right scale line kind → rule_line_by read scale line ≡ Err kind
  bad_weight scale line kind h =
      parts_read scale line h.parts h.is
      ∙ known_checked scale h.parts h.some h.once h.known
      ∙ ap (with_cost h.parts) (weight_read scale h.parts.weight kind h.fault)

  -- a line with a fault
  pub fault_read : (scale : Scale) (line : List ℕ) (kind : FaultKind) → HasRuleFault Right scale line kind → rule_line_by read scale line ≡ Err kind
  fault_read scale line kinds.BadToken h = bad_line scale line h
  fault_read scale line kinds.BadRule h = no_rule_line scale line h
  fault_read scale line kinds.LoneVariable h = parts_read scale line h.parts h.is ∙ lone_checked scale h.parts h.lone
  fault_read scale line kinds.VariableTwice h = parts_read scale line h.parts h.is ∙ twice_checked scale h.parts h.some h.twice
  fault_read scale line kinds.UnknownVariable h = parts_read scale line h.parts h.is ∙ unknown_checked scale h.parts h.some h.once h.unknown
  fault_read scale line kinds.NotWhole h = bad_weight scale line kinds.NotWhole h
  fault_read scale line kinds.WeightTooLarge h = bad_weight scale line kinds.WeightTooLarge h
  fault_read scale line kinds.TooManyNodes h = spelled_read scale line h.0 h.1 ∙ ap (λ b. cond b (Err kinds.TooManyNodes) (Ok (Some h.0))) h.2
  fault_read scale line kinds.NoStart h = absurd h
  fault_read scale line kinds.BadTree h = absurd h
  fault_read scale line kinds.BadString h = absurd h

  -- a line without one
  pub held_read : (scale : Scale) (line : List ℕ) → HoldsRule Right scale line → (o : Option RuleLine) × (rule_line_by read scale line ≡ Ok o)
  held_read scale line (inl blank) = (None, blank_read scale line blank)
  held_read scale line (inr (rule, s, few)) = (Some rule, few_read scale line rule s few)
