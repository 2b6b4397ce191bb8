-- The lines of what is printed of a transducer.
use Rattle.tib_cost.specs.declared.Scale.{Scale}
use Rattle.std.proofs.Common.{◌≡◌, ℕ, ◌<◌, inr, Bool, true, false, Option, List, [], ◌∷◌, ◌++◌, length, get_or, refl, ap, sym, ◌∙◌, subst, append_assoc, suc}
use Rattle.std.specs.Prelude.{Some, None, cond, decimal as printed}
use Rattle.tib_lex.specs.Grammar.{label, escape, spelling}
use Rattle.tib_lex.specs.Lines.{HasNoFeed, HasLines}
use Rattle.tib_lex.specs.Lists.{Each}
use Rattle.tib_tree.specs.Trees.{Trees, none, tree, only, count}
use Rattle.tib_grammar.specs.Sides.{Symbol, Side, label as symbol_label, hole}
use Rattle.tib_grammar.specs.StateName.{IsStateName}
use Rattle.tib_grammar_file.specs.Printed.{space, opening, closing, cost_text}
use Rattle.tib_grammar_file.specs.Weight.{is_digit}
use Rattle.tib_grammar_file.proofs.PrintedLines.{names_free, free_from, free_append, free_escape, free_at, free_space, free_opening, free_closing, free_cost}
use Rattle.tib_transducer.specs.TransducerOf.{TransducerOf}
use Rattle.tib_transducer.specs.declared.Variable.{Variable}
use Rattle.tib_transducer.specs.declared.Pair.{Pair}
use Rattle.tib_transducer.specs.declared.TransducerRule.{TransducerRule}
use Rattle.tib_transducer_file.specs.ByName.{IsPlainLabel, IsPlainAsked, IsPlainOnLeft, line_text}
use Rattle.tib_transducer_file.specs.Printed.{is_plain, label_text, asked_text, variable_text, pair_text, symbol_text, trees_text, side_text, rule_text, rules_text, transducer_text}
use Rattle.tib_transducer_file.proofs.Fitting.{IsGood, rule_fits}
use Rattle.tib_transducer_file.proofs.Forests.{Fits, FitsSymbol}
use Rattle.tib_transducer_file.proofs.LeftTokens.{IsVariablePlain, FitsLeft}
use Rattle.tib_transducer_file.proofs.Numerals.{is_numeral}
use Rattle.tib_transducer_file.proofs.RightTokens.{IsPairPlain}

-- no byte of a number, a name or a label in quotes is a line feed

free_label : (text : List ℕ) → HasNoFeed text → HasNoFeed (label_text text)
free_label text h = by (is_plain text)
  where
    by : (b : Bool) → HasNoFeed (cond b text (spelling (label text)))
    by true = h
    by false = free_append (escape text) (34 ∷ []) (free_escape text h) refl

free_asked : (labels : List (List ℕ)) (asked : Option ℕ) → IsPlainAsked labels asked → HasNoFeed (asked_text labels asked)
free_asked labels None h = refl
free_asked labels (Some f) h = free_label (get_or labels f []) h.1

free_number : (n : ℕ) → n < 1000000000 → HasNoFeed (printed n)
free_number n h = free_from is_digit refl (printed n) (is_numeral n h).digits

free_variable : (names labels : List (List ℕ)) (x : Variable) → IsVariablePlain labels x → HasNoFeed (variable_text names labels x)
free_variable names labels x h = free_append (printed x.number) (58 ∷ asked_text labels x.label) (free_number x.number h.0) (free_asked labels x.label h.1)

free_pair : (names labels : List (List ℕ)) (m : ℕ) (x : Pair ℕ) → Each HasNoFeed names → IsPairPlain (length names) m x → HasNoFeed (pair_text names labels x)
free_pair names labels m x e h = free_append (get_or names x.state []) (46 ∷ (120 ∷ printed x.variable)) (free_at names x.state e) (free_number x.variable h.2)

module _ {P : Type 0} (labels : List (List ℕ)) (IsLeaf : P → Type 0) (show : P → List ℕ) (free : (p : P) → IsLeaf p → HasNoFeed (show p)) where
  free_symbol : (s : Symbol ℕ P) (kids : Trees (Symbol ℕ P)) → FitsSymbol (IsPlainLabel labels) IsLeaf s kids → HasNoFeed (symbol_text show labels s)
  free_symbol (symbol_label f) kids h = free_label (get_or labels f []) h.1
  free_symbol (hole p) none h = free p h
  free_symbol (hole p) (tree s inner next) h = absurd h

  pub free_trees : (ts : Trees (Symbol ℕ P)) (k : ℕ) → Fits (IsPlainLabel labels) IsLeaf ts → HasNoFeed (trees_text (symbol_text show labels) ts k)
  free_trees none k h = refl
  free_trees (tree s kids rest) k h =
      let symbol : List ℕ = symbol_text show labels s in
      let below : List ℕ = trees_text (symbol_text show labels) kids 0 in
      let others : List ℕ = trees_text (symbol_text show labels) rest (suc k) in
      let closed : HasNoFeed (closing (count kids) ++ others) = free_append (closing (count kids)) others (free_closing (count kids)) (free_trees rest (suc k) h.2) in
      let inside : HasNoFeed (below ++ (closing (count kids) ++ others)) = free_append below (closing (count kids) ++ others) (free_trees kids 0 h.1) closed in
      let opened : HasNoFeed (opening (count kids) ++ (below ++ (closing (count kids) ++ others))) = free_append (opening (count kids)) (below ++ (closing (count kids) ++ others)) (free_opening (count kids)) inside in
      let named : HasNoFeed (symbol ++ (opening (count kids) ++ (below ++ (closing (count kids) ++ others)))) = free_append symbol (opening (count kids) ++ (below ++ (closing (count kids) ++ others))) (free_symbol s kids h.0) opened in
      free_append (space k) (symbol ++ (opening (count kids) ++ (below ++ (closing (count kids) ++ others)))) (free_space k) named

-- a left side with its root's label
free_left : (names labels : List (List ℕ)) (s : Side ℕ Variable) (f : ℕ) → s.label ≡ symbol_label f → IsPlainLabel labels f → FitsLeft labels s.kids → HasNoFeed (side_text (variable_text names labels) labels s)
free_left names labels s f e l fit =
    subst (λ (x : Symbol ℕ Variable). HasNoFeed (trees_text (symbol_text (variable_text names labels) labels) (tree x s.kids none) 0)) (sym e)
    (free_trees labels (IsVariablePlain labels) (variable_text names labels) (free_variable names labels) (tree (symbol_label f) s.kids none) 0 (l, fit, tt))

free_line : (scale : Scale) (names labels : List (List ℕ)) (r : TransducerRule ℕ) → Each HasNoFeed names → IsGood scale names labels r → HasNoFeed (line_text scale names labels r)
free_line scale names labels r e g =
    let fit = rule_fits scale names labels r g in
    let left : List ℕ = side_text (variable_text names labels) labels r.left in
    let right : List ℕ = side_text (pair_text names labels) labels r.right in
    let label_plain : IsPlainLabel labels g.shaped.begins.root = root_plain g in
    let right_free : HasNoFeed right = free_trees labels (IsPairPlain (length names) _) (pair_text names labels) (λ x h. free_pair names labels _ x e h) (only r.right) 0 fit.right_fits in
    let back : HasNoFeed (right ++ cost_text scale r.cost) = free_append right (cost_text scale r.cost) right_free (free_cost scale r.cost fit.cost_is) in
    let front : HasNoFeed (left ++ (32 ∷ (45 ∷ (62 ∷ (32 ∷ (right ++ cost_text scale r.cost)))))) = free_append left (32 ∷ (45 ∷ (62 ∷ (32 ∷ (right ++ cost_text scale r.cost))))) (free_left names labels r.left g.shaped.begins.root g.shaped.begins.is_root label_plain fit.left) back in
    free_append (get_or names r.state []) (46 ∷ (left ++ (32 ∷ (45 ∷ (62 ∷ (32 ∷ (right ++ cost_text scale r.cost))))))) (free_at names r.state e) front
  where
    root_plain : (g : IsGood scale names labels r) → IsPlainLabel labels g.shaped.begins.root
    root_plain g = subst (λ (s : Symbol ℕ Variable). IsPlainOnLeft labels s) g.shaped.begins.is_root g.printable.left.0

-- the lines, each after the one before it
abbrev pub lines_in : Scale → List (List ℕ) → List (List ℕ) → List (TransducerRule ℕ) → List (List ℕ)
lines_in scale names labels [] = []
lines_in scale names labels (r ∷ rules) = line_text scale names labels r ∷ lines_in scale names labels rules

moves : (a x y more : List ℕ) → x ++ more ≡ y ++ (10 ∷ more) → (a ++ x) ++ more ≡ (a ++ y) ++ (10 ∷ more)
moves a x y more e = append_assoc a x more ∙ ap (λ (l : List ℕ). a ++ l) e ∙ sym (append_assoc a y (10 ∷ more))

line_ends : (scale : Scale) (names labels : List (List ℕ)) (r : TransducerRule ℕ) (more : List ℕ) → rule_text scale names labels r ++ more ≡ line_text scale names labels r ++ (10 ∷ more)
line_ends scale names labels r more =
    let left : List ℕ = side_text (variable_text names labels) labels r.left in
    let right : List ℕ = side_text (pair_text names labels) labels r.right in
    let cost : List ℕ = cost_text scale r.cost in
    let back : (right ++ (cost ++ 10 ∷ [])) ++ more ≡ (right ++ cost) ++ (10 ∷ more) = moves right (cost ++ 10 ∷ []) cost more (append_assoc cost (10 ∷ []) more) in
    moves (get_or names r.state []) (46 ∷ (left ++ (32 ∷ (45 ∷ (62 ∷ (32 ∷ (right ++ (cost ++ 10 ∷ [])))))))) (46 ∷ (left ++ (32 ∷ (45 ∷ (62 ∷ (32 ∷ (right ++ cost))))))) more
    (ap (λ (l : List ℕ). 46 ∷ l) (moves left (32 ∷ (45 ∷ (62 ∷ (32 ∷ (right ++ (cost ++ 10 ∷ [])))))) (32 ∷ (45 ∷ (62 ∷ (32 ∷ (right ++ cost))))) more (ap (λ (l : List ℕ). 32 ∷ (45 ∷ (62 ∷ (32 ∷ l)))) back)))

rules_lines : (scale : Scale) (names labels : List (List ℕ)) (rules : List (TransducerRule ℕ)) → Each HasNoFeed names → Each (IsGood scale names labels) rules → HasLines (lines_in scale names labels rules) (rules_text scale names labels rules)
rules_lines scale names labels [] e g = refl
rules_lines scale names labels (r ∷ rules) e g =
    (free_line scale names labels r e g.0, inr (rules_text scale names labels rules, line_ends scale names labels r (rules_text scale names labels rules), rules_lines scale names labels rules e g.1))

pub transducer_lines : (scale : Scale) (labels : List (List ℕ)) (t : TransducerOf) → Each IsStateName t.names → Each (IsGood scale t.names labels) t.rules → HasLines (get_or t.names 0 [] ∷ lines_in scale t.names labels t.rules) (transducer_text scale labels t)
transducer_lines scale labels t e g =
    let free : Each HasNoFeed t.names = names_free t.names e in (
      free_at t.names 0 free,
      inr (rules_text scale t.names labels t.rules, append_assoc (get_or t.names 0 []) (10 ∷ []) (rules_text scale t.names labels t.rules), rules_lines scale t.names labels t.rules free g),
    )
