-- A tree-to-string transducer that was read has its shape, and its left-hand sides and costs can be
-- written.
use Rattle.tib_cost.specs.declared.Scale.{Scale}
use Rattle.std.proofs.Common.{ℕ, List, [], ◌∷◌, sym, subst, arith, zero, suc}
use Rattle.tib_lex.specs.Lines.{HasNoFeed, lines_of}
use Rattle.tib_lex.specs.Lists.{Along, Each}
use Rattle.tib_lex.proofs.Lists.{each_parts}
use Rattle.tib_tree.specs.Grows.{Grows}
use Rattle.tib_tree.specs.Trees.{only}
use Rattle.tib_grammar_file.specs.Printable.{IsPlainCost}
use Rattle.tib_grammar_file.proofs.Plain.{plain_cost}
use Rattle.tib_strings.specs.Range.{AreShaped}
use Rattle.tib_strings.specs.Rules.{string_rule}
use Rattle.tib_strings.specs.StringTransducerOf.{StringTransducerOf}
use Rattle.tib_strings.specs.declared.StringRule.{StringRule}
use Rattle.tib_strings.specs.RuleText.{Parts, SpellsRule, RuleLine}
use Rattle.tib_strings.specs.Listed.{SpellsList}
use Rattle.tib_strings.specs.TransducerText.{ReadsAs}
use Rattle.tib_strings.specs.RuleValue.{IsRule}
use Rattle.tib_strings.proofs.ShapesRead.{left_ends, rules_shaped}
use Rattle.tib_transducer_file.specs.Pieces.{Piece}
use Rattle.tib_transducer_file.specs.TransducerText.{SpellsLineBy}
use Rattle.tib_transducer_file.proofs.RulesHave.{file_has}
use Rattle.tib_operations.proofs.PlainMoves.{IsFreePiece, IsFreeItem, free_lines, pieces_free, left_free, left_plain, labels_grown}
use Rattle.tib_operations.specs.Words.{ArePlainWords}

-- a line on whose left nothing has a line feed, and its cost
record IsPlainLine (scale : Scale) (line : RuleLine) : Type 0 where
  left : Each IsFreeItem (line.parts.root ∷ line.parts.below)
  cost : IsPlainCost scale line.cost

left_of : (pieces : List Piece) (p : Parts) → SpellsRule pieces p → Each IsFreePiece pieces → Each IsFreeItem (p.root ∷ p.below)
left_of pieces p s f = left_free s.front p s.left (each_parts IsFreePiece s.front (s.arrow ∷ s.back) (subst (Each IsFreePiece) s.are f)).0

line_words : (scale : Scale) (line : List ℕ) (rule : RuleLine) → HasNoFeed line → SpellsLineBy SpellsList scale line rule → IsPlainLine scale rule
line_words scale line rule f s = record {
  left = left_of s.parts.pieces rule.parts s.parts.spells (pieces_free s.parts.pieces line f s.parts.has);
  cost = plain_cost scale rule.parts.weight rule.cost s.cost;
}

plain_rules :
    (scale : Scale) (names labels : List (List ℕ)) (rules : List (StringRule ℕ)) (lines : List RuleLine) → Along (IsRule names labels) rules lines → Each (IsPlainLine scale) lines →
    ArePlainWords scale labels rules
plain_rules scale names labels [] lines a e m h = absurd (omega arith)
plain_rules scale names labels (r ∷ rules) [] a e m h = absurd a
plain_rules scale names labels (r ∷ rules) (l ∷ lines) a e zero h = record {
  left = left_plain names labels r.left l.parts a.0.left e.0.left;
  ends = left_ends labels r.left l.parts a.0.left;
  cost = subst (IsPlainCost scale) (sym a.0.cost) e.0.cost;
}
plain_rules scale names labels (r ∷ rules) (l ∷ lines) a e (suc m) h = plain_rules scale names labels rules lines a.1 e.1 m (omega arith)

pub words_plain : (scale : Scale) (labels : List (List ℕ)) (bytes : List ℕ) (t : StringTransducerOf) → ReadsAs scale labels bytes t → ArePlainWords scale labels t.rules
words_plain scale labels bytes t r =
    plain_rules scale t.names labels t.rules r.text.lines r.text.rules (file_has HasNoFeed (IsPlainLine scale) scale (line_words scale) (lines_of bytes) r.text.start r.text.lines (free_lines bytes) r.text.written)

-- it can still be written when the table grows
pub words_grown : (scale : Scale) (early labels : List (List ℕ)) (rules : List (StringRule ℕ)) → Grows early labels → ArePlainWords scale early rules → ArePlainWords scale labels rules
words_grown scale early labels rules g p m h = record {
  left = labels_grown early labels (only (string_rule rules m).left) g (p m h).left;
  ends = (p m h).ends;
  cost = (p m h).cost;
}

-- what holds of a transducer that was read
pub record IsSoundStringTransducer (scale : Scale) (labels : List (List ℕ)) (t : StringTransducerOf) : Type 0 where
  pub shaped : AreShaped t.rules
  pub plain : ArePlainWords scale labels t.rules

pub string_transducer_sound : (scale : Scale) (labels : List (List ℕ)) (bytes : List ℕ) (t : StringTransducerOf) → ReadsAs scale labels bytes t → IsSoundStringTransducer scale labels t
string_transducer_sound scale labels bytes t r = record {
  shaped = rules_shaped t.names labels t.rules r.text.lines r.text.rules;
  plain = words_plain scale labels bytes t r;
}
