-- What a rule line holds, by what was found in it.
use Rattle.tib_cost.specs.declared.Scale.{Scale}
use Rattle.std.proofs.Common.{◌≡◌, ℕ, ◌<◌, ◌≤◌, List, [], ◌∷◌, length, refl, ap, sym, ◌∙◌, subst, arith, Option, suc}
use Rattle.std.specs.Prelude.{Some, None, Ok, Err, slice_get}
use Rattle.tib_lex.specs.Grammar.{Word}
use Rattle.tib_lex.specs.Line.{text_of, word_at}
use Rattle.tib_lex.specs.declared.token.Token.{Token}
use Rattle.tib_lex.specs.declared.fault.FaultKind.TheVariants as kinds
use Rattle.tib_lex.specs.declared.fault.LineError.{LineError}
use Rattle.tib_lex.specs.declared.fault.LineError.TheVariants as errors
use Rattle.tib_tree.specs.Grows.{Grows}
use Rattle.tib_tree.specs.Trees.{preorder_of}
use Rattle.tib_tree.specs.Written.{Item}
use Rattle.tib_tree.specs.Shape.{items_back}
use Rattle.tib_tree.specs.declared.shape.Place.{Place}
use Rattle.tib_lex.specs.Lists.{Along}
use Rattle.tib_grammar.specs.Sides.{Symbol, Side}
use Rattle.tib_grammar_file.specs.Found.{text_at}
use Rattle.tib_grammar_file.proofs.Alongs.{along_changes}
use Rattle.tib_transducer.specs.Range.{AreNumbered}
use Rattle.tib_transducer.specs.Rules.{variables_of}
use Rattle.tib_transducer.specs.declared.Variable.{Variable}
use Rattle.tib_transducer.specs.declared.Pair.{Pair}
use Rattle.tib_transducer_file.specs.Pieces.{pieces_of, pieces_at}
use Rattle.tib_transducer_file.specs.Forms.{variable_in, before_stop}
use Rattle.tib_transducer_file.specs.Rule.{Parts, SpellsRuleBy, parts_by, good_parts, rule_line_by, rule_line_of, number_before, numbers_in}
use Rattle.tib_transducer_file.specs.Found.{found_parts, FoundIn, FoundLies, parts_with, IsChecked}
use Rattle.tib_transducer_file.specs.Value.{IsLeftNode, IsLeftSide, IsRightNode, IsRuleBy, IsViewed, RuleView, view_of}
use Rattle.tib_transducer_file.specs.Built.{AreOneTree}
use Rattle.tib_transducer_file.specs.Reader.{parts_found, FoundRuleBy, GoodRule, IsGood}
use Rattle.tib_transducer_file.specs.declared.parts.RootAndWeight.{RootAndWeight}
use Rattle.tib_transducer_file.proofs.Backs.{back_long}
use Rattle.tib_transducer_file.proofs.PartsFound.{pieces_long}
use Rattle.tib_transducer_file.proofs.RulesRead.{spelled_back, rule_few}
use Rattle.tib_transducer_file.proofs.SidesRead.{left_grows}
use Rattle.tib_transducer_file.proofs.SideTrees.{root_grows}
use Rattle.tib_transducer_file.specs.Formats.{IsFormat, tree_words}

-- the parts are what was found
pub items_whole : (line : List ℕ) (left right : List Place) (f : RootAndWeight) → (l : FoundIn line left right f) → ((parts_found line left right f).root ∷ (parts_found line left right f).below ≡ items_back line left) × ((parts_found line left right f).right ≡ items_back line right) × ((parts_found line left right f).weight ≡ text_at line f.weight) × ((parts_found line left right f).root ≡ l.root)
items_whole line left right f l =
    let e : parts_found line left right f ≡ parts_with (l.root ∷ l.below) (items_back line right) (text_at line f.weight) = ap (λ (is : List Item). parts_with is (items_back line right) (text_at line f.weight)) l.items in
    (ap (λ (p : Parts). p.root ∷ p.below) e ∙ sym l.items, ap (λ (p : Parts). p.right) e, ap (λ (p : Parts). p.weight) e, ap (λ (p : Parts). p.root) e)

module _ {Right : List Word → List Item → Type 0} {read : List Word → Option (List Item)} (format : IsFormat Right read) where
  -- a line with a bad token
  pub bad_line : (scale : Scale) (line : List ℕ) → pieces_of line ≡ None → rule_line_by read scale line ≡ Err kinds.BadToken
  unfolding rule_line_by
  bad_line scale line e = rw e refl

  -- a line without tokens
  pub blank_line : (scale : Scale) (line : List ℕ) (ts : List Token) → pieces_of line ≡ Some (pieces_at line 0 ts) → length ts ≡ 0 → rule_line_by read scale line ≡ Ok None
  unfolding rule_line_by
  blank_line scale line [] e h = rw e refl
  blank_line scale line (t ∷ ts) e h = absurd (omega arith)

  some_line : (scale : Scale) (line : List ℕ) (ts : List Token) (o : Option Parts) → pieces_of line ≡ Some (pieces_at line 0 ts) → 0 < length ts → parts_by read (pieces_at line 0 ts) ≡ o → rule_line_by read scale line ≡ good_parts scale o
  unfolding rule_line_by
  some_line scale line [] o e h p = absurd (omega arith)
  some_line scale line (t ∷ ts) o e h p = rw (e, p) refl

  -- tokens that are no rule
  pub no_rule_line : (scale : Scale) (line : List ℕ) (ts us : List Token) (left right : List Place) (o : Option RootAndWeight) → pieces_of line ≡ Some (pieces_at line 0 ts) → 0 < length ts → us ≡ ts → parts_by read (pieces_at line 0 us) ≡ found_parts line left right o → o ≡ None → rule_line_by read scale line ≡ Err kinds.BadRule
  no_rule_line scale line ts us left right o e h s p n =
      some_line scale line ts None e h (ap (λ (xs : List Token). parts_by read (pieces_at line 0 xs)) (sym s) ∙ p ∙ ap (found_parts line left right) n)

  -- tokens that are one, if what was found on the right holds of it
  pub found_rule : (Holds : List ℕ → List Place → Type 0) (line : List ℕ) (ts us : List Token) (left right : List Place) (o : Option RootAndWeight) (f : RootAndWeight) → pieces_of line ≡ Some (pieces_at line 0 ts) → 0 < length ts → us ≡ ts → parts_by read (pieces_at line 0 us) ≡ found_parts line left right o → FoundLies line left right o → o ≡ Some f → ((l : FoundIn line left right f) → SpellsRuleBy Right (pieces_at line 0 ts) (parts_found line left right f) → Holds line right) → length ts ≤ length line → FoundRuleBy read Holds line left right f
  found_rule Holds line ts us left right o f e h s p lies n holds few =
      let l : FoundIn line left right f = subst (λ (x : Option RootAndWeight). FoundLies line left right x) n lies in
      let parts : parts_by read (pieces_at line 0 ts) ≡ Some (parts_found line left right f) = ap (λ (xs : List Token). parts_by read (pieces_at line 0 xs)) (sym s) ∙ p ∙ ap (found_parts line left right) n in
      let spells = spelled_back format (pieces_at line 0 ts) (parts_found line left right f) parts in
      let w = items_whole line left right f l in
      let count = rule_few format (pieces_at line 0 ts) (parts_found line left right f) spells in
      record {
        lies = l;
        read = λ scale. some_line scale line ts (Some (parts_found line left right f)) e h parts;
        left_tree = subst AreOneTree w.0 (tree_words _ _ spells.left);
        holds = holds l spells;
        few = omega (arith, few, count, pieces_long line 0 ts, ap length w.0, ap length w.1, back_long line left, back_long line right);
      }

-- a fault of the variables
pub check_failed : (scale : Scale) (p : Parts) (numbers : List ℕ) (left right : List Place) (error : LineError) → IsChecked p numbers (Err error) → IsGood scale p numbers left right (Err error)
check_failed scale p numbers left right (errors.Fault kind) h = h scale
check_failed scale p numbers left right errors.OutOfMemory h = tt

numbers_few : (is : List Item) → length (numbers_in is) ≤ length is
numbers_few [] = omega arith
numbers_few (i ∷ is) = by (variable_in i) (numbers_few is)
  where
    by : (o : Option (ℕ × Option (List ℕ))) → length (numbers_in is) ≤ length is → length (number_before o (numbers_in is)) ≤ suc (length is)
    by None h = omega arith
    by (Some v) h = omega arith

-- a rule has few variables
pub variables_few : (scale : Scale) (line : List ℕ) (left right : List Place) (f : RootAndWeight) (numbers : List ℕ) (cost : ℕ) → FoundIn line left right f → GoodRule scale (parts_found line left right f) numbers left right cost → length numbers ≤ 10000
variables_few scale line left right f numbers cost l g =
    let w = items_whole line left right f l in
    omega (arith, ap length g.numbers_are, numbers_few (parts_found line left right f).below, ap length w.0, back_long line left, g.few_left)

-- a left side holds over a larger table too
pub left_side_grows : (a b : List (List ℕ)) → Grows a b → (ss : List (Symbol ℕ Variable × ℕ)) (p : Parts) → IsLeftSide a ss p → IsLeftSide b ss p
left_side_grows a b g [] p h = absurd h
left_side_grows a b g (s ∷ ss) p h = (root_grows a b g s _ p.root.kids h.0, along_changes (IsLeftNode a) (IsLeftNode b) ss p.below (left_grows a b g) h.1)

-- the rule of what was found, of whatever kind it is, by its parts; its state and its left side
-- hold over larger tables
pub rule_made : {R : Type 0} (view : R → RuleView) (rule : R) (n m a b : List (List ℕ)) (line : List ℕ) (left right : List Place) (f : RootAndWeight) (numbers : List ℕ) (scale : Scale) (cost state : ℕ) (ls : Side ℕ Variable) (rs : List (Symbol ℕ (Pair ℕ) × ℕ)) → view rule ≡ view_of state ls rs cost → FoundIn line left right f → GoodRule scale (parts_found line left right f) numbers left right cost → Grows n m → Grows a b →
    slice_get n state ≡ Some (text_of (word_at line f.root.state)) → ((right : List Item) (weight : Option (List ℕ)) → IsLeftSide a (preorder_of ls) (parts_with (items_back line left) right weight)) → AreNumbered 0 (variables_of ls) → Along (IsRightNode m b numbers) rs (items_back line right) →
    IsRuleBy view m b rule (rule_line_of (parts_found line left right f) cost)
rule_made view rule n m a b line left right f numbers scale cost state ls rs seen l g names labels named side numbered are =
    let w = items_whole line left right f l in
    subst (λ (v : RuleView). IsViewed m b v (rule_line_of (parts_found line left right f) cost)) (sym seen) record {
      state = names.kept state (text_of (word_at line f.root.state)) named ∙ ap (λ (t : List ℕ). Some t) (l.root_is.state ∙ ap (λ (i : Item). before_stop i.text) (sym w.3));
      left = left_side_grows a b labels (preorder_of ls) (parts_found line left right f) (side (items_back line right) (text_at line f.weight));
      numbered = numbered;
      right = subst (λ (is : List Item). Along (IsRightNode m b (numbers_in (parts_found line left right f).below)) rs is) (sym w.1)
          (subst (λ (ns : List ℕ). Along (IsRightNode m b ns) rs (items_back line right)) g.numbers_are are);
      cost = refl;
    }
