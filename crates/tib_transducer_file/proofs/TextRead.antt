-- A line that is read without a fault holds what was read, whatever its right side is.
use Rattle.tib_cost.specs.declared.Scale.{Scale}
use Rattle.std.proofs.Common.{◌≡◌, ℕ, List, [], ◌∷◌, refl, Option, Bool, true, false}
use Rattle.std.specs.Prelude.{Some, None, Result, Ok, Err, cond}
use Rattle.tib_lex.specs.Grammar.{Word, HasWords}
use Rattle.tib_lex.specs.declared.fault.FaultKind.{FaultKind}
use Rattle.tib_lex.specs.declared.fault.FaultKind.TheVariants as kinds
use Rattle.tib_tree.specs.Written.{Item}
use Rattle.tib_grammar_file.specs.Weight.{cost_of}
use Rattle.tib_grammar_file.proofs.WholeWeights.{cost_back}
use Rattle.tib_transducer_file.specs.Pieces.{Piece, pieces_of}
use Rattle.tib_transducer_file.specs.Rule.{Parts, parts_by, RuleLine, rule_line_of, rule_line_by, rule_in, good_parts, with_cost, is_lone, is_twice, has_unknown, has_many}
use Rattle.tib_transducer_file.specs.TransducerText.{HasPartsBy, SpellsLineBy}
use Rattle.tib_transducer_file.proofs.PiecesHad.{pieces_had}
use Rattle.tib_transducer_file.proofs.RulesRead.{spelled_back}
use Rattle.tib_transducer_file.specs.Formats.{IsFormat}

-- what a line that is read without a fault holds
abbrev pub LineHolds : (List Word → List Item → Type 0) → Scale → List ℕ → Result (Option RuleLine) FaultKind → Type 0
LineHolds Right scale line (Ok None) = HasWords [] line
LineHolds Right scale line (Ok (Some rule)) = SpellsLineBy Right scale line rule × (has_many rule.parts ≡ false)
LineHolds Right scale line (Err kind) = Unit {0}

module _ {Right : List Word → List Item → Type 0} {read : List Word → Option (List Item)} (format : IsFormat Right read) where
  many_holds : (scale : Scale) (line : List ℕ) (p : Parts) (cost : ℕ) (b : Bool) → has_many p ≡ b → SpellsLineBy Right scale line (rule_line_of p cost) → LineHolds Right scale line (cond b (Err kinds.TooManyNodes) (Ok (Some (rule_line_of p cost))))
  many_holds scale line p cost true e h = tt
  many_holds scale line p cost false e h = (h, e)

  cost_holds : (scale : Scale) (line : List ℕ) (p : Parts) (r : Result ℕ FaultKind) → HasPartsBy Right line p → is_lone p ≡ false → is_twice p ≡ false → has_unknown p ≡ false → cost_of scale p.weight ≡ r → LineHolds Right scale line (with_cost p r)
  cost_holds scale line p (Err kind) h s o k e = tt
  cost_holds scale line p (Ok cost) h s o k e = many_holds scale line p cost (has_many p) refl (record { parts = h; some = s; once = o; known = k; cost = cost_back scale p.weight cost e })

  checked_holds : (scale : Scale) (line : List ℕ) (p : Parts) (a b c : Bool) → is_lone p ≡ a → is_twice p ≡ b → has_unknown p ≡ c → HasPartsBy Right line p → LineHolds Right scale line (cond a (Err kinds.LoneVariable) (cond b (Err kinds.VariableTwice) (cond c (Err kinds.UnknownVariable) (with_cost p (cost_of scale p.weight)))))
  checked_holds scale line p true b c e f g h = tt
  checked_holds scale line p false true c e f g h = tt
  checked_holds scale line p false false true e f g h = tt
  checked_holds scale line p false false false e f g h = cost_holds scale line p (cost_of scale p.weight) h e f g refl

  parts_hold : (scale : Scale) (line : List ℕ) (pieces : List Piece) (o : Option Parts) → pieces_of line ≡ Some pieces → parts_by read pieces ≡ o → LineHolds Right scale line (good_parts scale o)
  parts_hold scale line pieces None h e = tt
  parts_hold scale line pieces (Some p) h e = checked_holds scale line p (is_lone p) (is_twice p) (has_unknown p) refl refl refl (record { pieces = pieces; has = pieces_had pieces line h; spells = spelled_back format pieces p e })

  pieces_hold : (scale : Scale) (line : List ℕ) (o : Option (List Piece)) → pieces_of line ≡ o → LineHolds Right scale line (rule_in read scale o)
  pieces_hold scale line None e = tt
  pieces_hold scale line (Some []) e = pieces_had [] line e
  pieces_hold scale line (Some (p ∷ pieces)) e = parts_hold scale line (p ∷ pieces) (parts_by read (p ∷ pieces)) e refl

  -- that is what is read of it
  pub line_holds : (scale : Scale) (line : List ℕ) → LineHolds Right scale line (rule_line_by read scale line)
  unfolding rule_line_by
  line_holds scale line = pieces_hold scale line (pieces_of line) refl
