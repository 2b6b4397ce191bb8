-- Bytes that are the text of two grammars, each over a table of its own, are that of one by the
-- texts of labels.
use Rattle.tib_cost.specs.declared.Scale.{Scale}
use Rattle.std.proofs.Common.{◌≡◌, ℕ, List, [], ◌∷◌, ap, sym, ◌∙◌, subst, map}
use Rattle.std.specs.Prelude.{Some}
use Rattle.tib_tree.specs.Grows.{AddsAll}
use Rattle.tib_lex.specs.Grammar.{Word, name}
use Rattle.tib_lex.specs.Lists.{Along, Distinct}
use Rattle.tib_lex.proofs.HasLines.{lines_read}
use Rattle.tib_tree.specs.Trees.{preorder_of}
use Rattle.tib_tree.specs.Written.{Item, items}
use Rattle.tib_grammar.specs.Sides.{Symbol, label, hole}
use Rattle.tib_grammar.specs.GrammarOf.{GrammarOf}
use Rattle.tib_grammar.specs.declared.Rule.{Rule}
use Rattle.tib_grammar_file.specs.Rule.{Parts, parts}
use Rattle.tib_grammar_file.specs.Weight.{cost_of}
use Rattle.tib_grammar_file.specs.GrammarText.{HaveTokens, SpellsRuleOf, first_text, GrammarText}
use Rattle.tib_grammar_file.specs.Value.{IsSymbol, IsNode}
use Rattle.tib_grammar_file.specs.ByText.{AgreeInSymbol, AreOneRule, AgreeByText}
use Rattle.tib_grammar_file.proofs.Meanings.{meant_side}
use Rattle.tib_grammar_file.proofs.OneGrammar.{tokens_same, all_same, number_same, parts_as, ok_same, names_distinct, start_same}
use Rattle.tib_grammar_file.proofs.Shapes.{AgreeAtNode, shape_of}
use Rattle.tib_grammar_file.proofs.WholeWeights.{cost_forth}
use Rattle.tib_lex.proofs.Lists.{some_same}
use Rattle.tib_grammar_file.proofs.Common.{cons_same}

module _ (scale : Scale) (names labels others : List (List ℕ)) (apart : Distinct names) where
  symbol_agrees : (r s : Symbol ℕ ℕ) (i : Item) → IsSymbol names labels r i → IsSymbol names others s i → AgreeInSymbol labels others r s
  symbol_agrees (hole p) (hole q) i h k = number_same names p q i.text apart h.1 k.1
  symbol_agrees (hole p) (label g) i h k = absurd (k.0 h.0)
  symbol_agrees (label f) (hole q) i h k = absurd (h.0 k.0)
  symbol_agrees (label f) (label g) i h k = record { text = i.text; first = h.1; second = k.1 }

  nodes_agree :
      (ps qs : List (Symbol ℕ ℕ × ℕ)) (is : List Item) → Along (IsNode names labels) ps is → Along (IsNode names others) qs is →
      Along (AgreeAtNode (AgreeInSymbol labels others)) ps qs
  nodes_agree [] [] [] h k = tt
  nodes_agree [] (q ∷ qs) [] h k = absurd k
  nodes_agree (p ∷ ps) qs [] h k = absurd h
  nodes_agree [] qs (i ∷ is) h k = absurd h
  nodes_agree (p ∷ ps) [] (i ∷ is) h k = absurd k
  nodes_agree (p ∷ ps) (q ∷ qs) (i ∷ is) h k = ((symbol_agrees p.0 q.0 i h.0.0 k.0.0, h.0.1 ∙ sym k.0.1), nodes_agree ps qs is h.1 k.1)

  rule_agrees : (words : List Word) (q r : Rule ℕ) → SpellsRuleOf scale names labels words q → SpellsRuleOf scale names others words r → AreOneRule labels others q r
  rule_agrees words q r s t =
      let p : parts s.left (items s.right) s.weight ≡ parts t.left (items t.right) t.weight = some_same _ _ (sym (parts_as scale names labels words q s) ∙ parts_as scale names others words r t) in
      let left : s.left ≡ t.left = ap (λ (x : Parts). x.left) p in
      let nodes : items s.right ≡ items t.right = ap (λ (x : Parts). x.nodes) p in
      let weight : s.weight ≡ t.weight = ap (λ (x : Parts). x.weight) p in
      let mine : Along (IsNode names labels) (preorder_of q.right) (items t.right) =
      subst (λ (is : List Item). Along (IsNode names labels) (preorder_of q.right) is) nodes (meant_side names labels s.right q.right s.right_is) in
      record {
        left = number_same names q.left r.left t.left apart (s.left_is ∙ ap Some left) t.left_is;
        right = shape_of (AgreeInSymbol labels others) q.right r.right (nodes_agree (preorder_of q.right) (preorder_of r.right) (items t.right) mine (meant_side names others t.right r.right t.right_is));
        cost = ok_same q.cost r.cost (sym (cost_forth scale s.weight q.cost s.cost_is) ∙ ap (cost_of scale) weight ∙ cost_forth scale t.weight r.cost t.cost_is);
      }

  rules_agree :
      (rows : List (List Word)) (qs rs : List (Rule ℕ)) → Along (SpellsRuleOf scale names labels) rows qs → Along (SpellsRuleOf scale names others) rows rs →
      Along (AreOneRule labels others) qs rs
  rules_agree [] [] [] h k = tt
  rules_agree [] [] (r ∷ rs) h k = absurd k
  rules_agree [] (q ∷ qs) rs h k = absurd h
  rules_agree (w ∷ rows) [] rs h k = absurd h
  rules_agree (w ∷ rows) (q ∷ qs) [] h k = absurd k
  rules_agree (w ∷ rows) (q ∷ qs) (r ∷ rs) h k = (rule_agrees w q r h.0 k.0, rules_agree rows qs rs h.1 k.1)

pub one_by_text :
    (scale : Scale) (labels others : List (List ℕ)) (bytes : List ℕ) (g h : GrammarOf) → GrammarText scale labels bytes g → GrammarText scale others bytes h →
    AgreeByText labels others g h
one_by_text scale labels others bytes g h t u =
    let lines : t.lines ≡ u.lines = sym (lines_read t.lines bytes t.lines_are) ∙ lines_read u.lines bytes u.lines_are in
    let all = tokens_same t.lines ((name t.start ∷ []) ∷ t.rows) ((name u.start ∷ []) ∷ u.rows) t.tokens (subst (λ (ls : List (List ℕ)). HaveTokens ls ((name u.start ∷ []) ∷ u.rows)) (sym lines) u.tokens) in
    let both = cons_same (name t.start ∷ []) (name u.start ∷ []) t.rows u.rows all in
    let start : t.start ≡ u.start = start_same t.start u.start both.0 in
    let names : g.names ≡ h.names = all_same [] (u.start ∷ map first_text u.rows) g.names h.names (subst (λ (s : List ℕ). AddsAll [] (s ∷ map first_text u.rows) g.names) start (subst (λ (rs : List (List Word)). AddsAll [] (t.start ∷ map first_text rs) g.names) both.1 t.states)) u.states in
    let mine : Along (SpellsRuleOf scale h.names labels) u.rows g.rules = subst (λ (ns : List (List ℕ)). Along (SpellsRuleOf scale ns labels) u.rows g.rules) names (subst (λ (rs : List (List Word)). Along (SpellsRuleOf scale g.names labels) rs g.rules) both.1 t.rules) in
    record { names = names; rules = rules_agree scale h.names labels others (names_distinct scale others bytes h u) u.rows g.rules h.rules mine u.rules }
