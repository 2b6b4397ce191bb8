-- What a line holds, and what is read of it, whatever its right side is.
use Rattle.tib_cost.specs.Scale.{is_weighted}
use Rattle.tib_cost.specs.declared.Scale.{Scale}
use Rattle.std.proofs.Common.{◌≡◌, ℕ, inl, inr, Bool, true, false, List, [], ◌∷◌, refl, sym, ◌∙◌, Option}
use Rattle.std.specs.Prelude.{Some, None, Result, Ok, Err, cond}
use Rattle.tib_lex.specs.declared.fault.FaultKind.{FaultKind}
use Rattle.tib_lex.specs.declared.fault.FaultKind.TheVariants as kinds
use Rattle.tib_lex.specs.Grammar.{Word}
use Rattle.tib_lex.proofs.FirstFaults.{Fits}
use Rattle.tib_tree.specs.Written.{Item}
use Rattle.tib_grammar_file.specs.Faults.{IsFaultIf}
use Rattle.tib_grammar_file.specs.Weight.{cost_of}
use Rattle.tib_grammar_file.proofs.FaultyLines.{WeightSays, weight_says}
use Rattle.tib_transducer_file.specs.Pieces.{Piece, HasPieces, pieces_of}
use Rattle.tib_transducer_file.specs.Rule.{Parts, SpellsRuleBy, parts_by, rule_line_of, is_lone, is_twice, has_unknown, has_many, with_cost, good_parts, rule_in, rule_line_by}
use Rattle.tib_transducer_file.specs.TransducerText.{HasPartsBy, SpellsLineBy}
use Rattle.tib_transducer_file.specs.Faults.{HasBadWeight, HasRuleFault, HoldsRule}
use Rattle.tib_transducer_file.proofs.PiecesHad.{pieces_had, bad_pieces}
use Rattle.tib_transducer_file.proofs.RulesRead.{spelled_back, spelled_forth}
use Rattle.tib_transducer_file.specs.Formats.{IsFormat}

module _ {Right : List Word → List Item → Type 0} {read : List Word → Option (List Item)} (format : IsFormat Right read) where
  -- a rule whose variables are well used
  record Used (line : List ℕ) (p : Parts) : Type 0 where
    pub is : HasPartsBy Right line p
    pub some : is_lone p ≡ false
    pub once : is_twice p ≡ false
    pub known : has_unknown p ≡ false

  many_says : (scale : Scale) (line : List ℕ) (p : Parts) (cost : ℕ) (b : Bool) → has_many p ≡ b → SpellsLineBy Right scale line (rule_line_of p cost) → Fits (HoldsRule Right scale) (HasRuleFault Right scale) line (cond b (Err kinds.TooManyNodes) (Ok (Some (rule_line_of p cost))))
  many_says scale line p cost true e h = (rule_line_of p cost, h, e)
  many_says scale line p cost false e h = inr (rule_line_of p cost, h, e)

  weight_fault : (scale : Scale) (line : List ℕ) (v : Bool) (o : Option (List ℕ)) (kind : FaultKind) → IsFaultIf v o kind → (IsFaultIf v o kind → HasBadWeight Right scale line kind) → HasRuleFault Right scale line kind
  weight_fault scale line true (Some text) kinds.NotWhole w make = make w
  weight_fault scale line true (Some text) kinds.WeightTooLarge w make = make w
  weight_fault scale line true (Some text) kinds.NoStart w make = absurd w
  weight_fault scale line true (Some text) kinds.BadToken w make = absurd w
  weight_fault scale line true (Some text) kinds.BadRule w make = absurd w
  weight_fault scale line true (Some text) kinds.BadTree w make = absurd w
  weight_fault scale line true (Some text) kinds.LoneVariable w make = absurd w
  weight_fault scale line true (Some text) kinds.VariableTwice w make = absurd w
  weight_fault scale line true (Some text) kinds.BadString w make = absurd w
  weight_fault scale line true (Some text) kinds.UnknownVariable w make = absurd w
  weight_fault scale line true (Some text) kinds.TooManyNodes w make = absurd w
  weight_fault scale line true None kind w make = absurd w
  weight_fault scale line false o kind w make = absurd w

  cost_says : (scale : Scale) (line : List ℕ) (p : Parts) (r : Result ℕ FaultKind) → Used line p → WeightSays scale p.weight r → Fits (HoldsRule Right scale) (HasRuleFault Right scale) line (with_cost p r)
  cost_says scale line p (Ok cost) u w = many_says scale line p cost (has_many p) refl (record { parts = u.is; some = u.some; once = u.once; known = u.known; cost = w })
  cost_says scale line p (Err kind) u w = weight_fault scale line (is_weighted scale) p.weight kind w (λ v. record { parts = p; is = u.is; some = u.some; once = u.once; known = u.known; fault = v })

  known_says : (scale : Scale) (line : List ℕ) (p : Parts) (b : Bool) → has_unknown p ≡ b → HasPartsBy Right line p → is_lone p ≡ false → is_twice p ≡ false → Fits (HoldsRule Right scale) (HasRuleFault Right scale) line (cond b (Err kinds.UnknownVariable) (with_cost p (cost_of scale p.weight)))
  known_says scale line p true e h s o = record { parts = p; is = h; some = s; once = o; unknown = e }
  known_says scale line p false e h s o = cost_says scale line p (cost_of scale p.weight) (record { is = h; some = s; once = o; known = e }) (weight_says scale p.weight)

  twice_says : (scale : Scale) (line : List ℕ) (p : Parts) (b : Bool) → is_twice p ≡ b → HasPartsBy Right line p → is_lone p ≡ false → Fits (HoldsRule Right scale) (HasRuleFault Right scale) line (cond b (Err kinds.VariableTwice) (cond (has_unknown p) (Err kinds.UnknownVariable) (with_cost p (cost_of scale p.weight))))
  twice_says scale line p true e h s = record { parts = p; is = h; some = s; twice = e }
  twice_says scale line p false e h s = known_says scale line p (has_unknown p) refl h s e

  lone_says : (scale : Scale) (line : List ℕ) (p : Parts) (b : Bool) → is_lone p ≡ b → HasPartsBy Right line p → Fits (HoldsRule Right scale) (HasRuleFault Right scale) line (cond b (Err kinds.LoneVariable) (cond (is_twice p) (Err kinds.VariableTwice) (cond (has_unknown p) (Err kinds.UnknownVariable) (with_cost p (cost_of scale p.weight)))))
  lone_says scale line p true e h = record { parts = p; is = h; lone = e }
  lone_says scale line p false e h = twice_says scale line p (is_twice p) refl h e

  no_rule : (pieces : List Piece) → parts_by read pieces ≡ None → (p : Parts) → SpellsRuleBy Right pieces p → ⊥
  no_rule pieces e p s = let bad : None ≡ Some p = sym e ∙ spelled_forth format pieces p s in cc

  parts_say : (scale : Scale) (line : List ℕ) (piece : Piece) (pieces : List Piece) (o : Option Parts) → HasPieces (piece ∷ pieces) line → parts_by read (piece ∷ pieces) ≡ o → Fits (HoldsRule Right scale) (HasRuleFault Right scale) line (good_parts scale o)
  parts_say scale line piece pieces None h e = record { piece = piece; pieces = pieces; has = h; none = no_rule (piece ∷ pieces) e }
  parts_say scale line piece pieces (Some p) h e = lone_says scale line p (is_lone p) refl (record { pieces = piece ∷ pieces; has = h; spells = spelled_back format (piece ∷ pieces) p e })

  pieces_say : (scale : Scale) (line : List ℕ) (o : Option (List Piece)) → pieces_of line ≡ o → Fits (HoldsRule Right scale) (HasRuleFault Right scale) line (rule_in read scale o)
  pieces_say scale line None e = bad_pieces line e
  pieces_say scale line (Some []) e = inl (pieces_had [] line e)
  pieces_say scale line (Some (piece ∷ pieces)) e = parts_say scale line piece pieces (parts_by read (piece ∷ pieces)) (pieces_had (piece ∷ pieces) line e) refl

  pub rule_says : (scale : Scale) (line : List ℕ) → Fits (HoldsRule Right scale) (HasRuleFault Right scale) line (rule_line_by read scale line)
  unfolding rule_line_by
  rule_says scale line = pieces_say scale line (pieces_of line) refl
