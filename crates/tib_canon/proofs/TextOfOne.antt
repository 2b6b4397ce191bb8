-- Bytes are the text of at most one transducer over one table of distinct labels, however many
-- nodes its sides have.
use Rattle.tib_cost.specs.declared.Scale.{Scale}
use Rattle.std.proofs.Common.{◌≡◌, ℕ, inl, inr, List, [], ◌∷◌, length, length-append, ap, sym, ◌∙◌, arith, false}
use Rattle.std.specs.Prelude.{Result, Ok}
use Rattle.tib_lex.specs.Grammar.{name, HasWords}
use Rattle.tib_lex.specs.Lines.{lines_of}
use Rattle.tib_lex.specs.Lists.{Distinct}
use Rattle.tib_lex.specs.declared.fault.FaultKind.{FaultKind}
use Rattle.tib_lex.specs.declared.fault.FileFault.{FileFault}
use Rattle.tib_lex.proofs.HasWords.{words_once}
use Rattle.tib_lex.proofs.Lists.{some_same}
use Rattle.tib_tree.specs.Grows.{AreDistinct}
use Rattle.tib_tree.specs.Machine.{IsTree}
use Rattle.tib_tree.specs.Trees.{Tree, only, preorder_of}
use Rattle.tib_grammar.specs.Sides.{Symbol, label, hole}
use Rattle.tib_grammar_file.specs.Weight.{cost_of}
use Rattle.tib_grammar_file.proofs.Shapes.{shape_of}
use Rattle.tib_grammar_file.proofs.WholeWeights.{cost_forth}
use Rattle.tib_transducer.specs.TransducerOf.{TransducerOf}
use Rattle.tib_transducer.specs.declared.Variable.{Variable}
use Rattle.tib_transducer.specs.declared.Pair.{Pair}
use Rattle.tib_transducer.specs.declared.TransducerRule.{TransducerRule}
use Rattle.tib_transducer_file.specs.ByText.{AgreeOnLeft, AgreeOnRight}
use Rattle.tib_transducer_file.specs.Rule.{Parts, RuleLine, rule_line_of, parts_of, numbers_in, is_twice}
use Rattle.tib_transducer_file.specs.TransducerText.{SpellsLine, HaveRules, HaveStart, TransducerText}
use Rattle.tib_transducer_file.specs.Value.{IsRule, states_of}
use Rattle.tib_transducer_file.proofs.OneByText.{AgreeLoosely, all_added, none_distinct, once_each, numbers_agree, left_sides, right_nodes, rules_agree, lines_once, files_agree, pair_same}
use Rattle.tib_transducer_file.proofs.OneTransducer.{shape_same, side_same, label_same, left_same, rules_same}
use Rattle.tib_transducer_file.proofs.PiecesRead.{pieces_read}
use Rattle.tib_transducer_file.proofs.RulesRead.{parts_forth}
use Rattle.tib_transducer_file.proofs.ShapesRead.{left_ends}

ok_cost : (c d : ℕ) → (let r : Result ℕ FaultKind = Ok c in r ≡ Ok d) → c ≡ d
ok_cost c d e = cc

module _ (scale : Scale) where
  -- a line spells one rule
  line_once : (line : List ℕ) (r s : RuleLine) → SpellsLine scale line r → SpellsLine scale line s → r ≡ s
  line_once line r s h k =
      let pieces : h.parts.pieces ≡ k.parts.pieces =
      some_same h.parts.pieces k.parts.pieces (sym (pieces_read h.parts.pieces line h.parts.has) ∙ pieces_read k.parts.pieces line k.parts.has) in
      let parts : r.parts ≡ s.parts =
      some_same r.parts s.parts (sym (parts_forth h.parts.pieces r.parts h.parts.spells) ∙ ap parts_of pieces ∙ parts_forth k.parts.pieces s.parts k.parts.spells) in
      let first = cost_forth scale r.parts.weight r.cost h.cost in
      let second = cost_forth scale s.parts.weight s.cost k.cost in
      let costs : r.cost ≡ s.cost = ok_cost r.cost s.cost (sym first ∙ ap (λ (p : Parts). cost_of scale p.weight) parts ∙ second) in
      ap (λ (p : Parts). rule_line_of p r.cost) parts ∙ ap (rule_line_of s.parts) costs

  -- a line without tokens spells none
  no_blank : (line : List ℕ) (r : RuleLine) → HasWords [] line → SpellsLine scale line r → ⊥
  no_blank line r blank h =
      let pieces : [] ≡ h.parts.pieces = some_same [] h.parts.pieces (sym (pieces_read [] line blank) ∙ pieces_read h.parts.pieces line h.parts.has) in
      let are = ap length (pieces ∙ h.parts.spells.are) in
      let long = length-append h.parts.spells.front (h.parts.spells.arrow ∷ h.parts.spells.back) in
      absurd (omega (arith, are, long))

  rules_once : (lines : List (List ℕ)) (rs ss : List RuleLine) → HaveRules scale lines rs → HaveRules scale lines ss → rs ≡ ss
  rules_once [] rs ss h k = h ∙ sym k
  rules_once (line ∷ lines) rs ss (inl (blank, h)) (inl (other, k)) = rules_once lines rs ss h k
  rules_once (line ∷ lines) rs ss (inl (blank, h)) (inr (s, more, is, spells, k)) = absurd (no_blank line s blank spells)
  rules_once (line ∷ lines) rs ss (inr (r, more, is, spells, h)) (inl (blank, k)) = absurd (no_blank line r blank spells)
  rules_once (line ∷ lines) rs ss (inr (r, more, is, spells, h)) (inr (s, others, are, other, k)) =
      is ∙ ap (λ (x : RuleLine). x ∷ more) (line_once line r s spells other)
      ∙ ap (λ (xs : List RuleLine). s ∷ xs) (rules_once lines more others h k) ∙ sym are

  -- a file has one start and one list of rules
  file_once : (lines : List (List ℕ)) (start other : List ℕ) (rs ss : List RuleLine) → HaveStart scale lines start rs → HaveStart scale lines other ss → (start ≡ other) × (rs ≡ ss)
  file_once [] start other rs ss h k = absurd h
  file_once (line ∷ lines) start other rs ss (inl (blank, h)) (inl (also, k)) = file_once lines start other rs ss h k
  file_once (line ∷ lines) start other rs ss (inl (blank, h)) (inr (words, plain, k)) =
      let bad : [] ≡ name other ∷ [] = words_once line [] (name other ∷ []) blank words in absurd (cc)
  file_once (line ∷ lines) start other rs ss (inr (words, plain, h)) (inl (blank, k)) =
      let bad : [] ≡ name start ∷ [] = words_once line [] (name start ∷ []) blank words in absurd (cc)
  file_once (line ∷ lines) start other rs ss (inr (words, plain, h)) (inr (also, bare, k)) =
      let one : name start ∷ [] ≡ name other ∷ [] = words_once line (name start ∷ []) (name other ∷ []) words also in
      (names_once start other one, rules_once lines rs ss h k)
    where
      names_once : (s t : List ℕ) → name s ∷ [] ≡ name t ∷ [] → s ≡ t
      names_once s t e = cc

module _ (labels : List (List ℕ)) (apart : Distinct labels) where
  right_same : (r s : Symbol ℕ (Pair ℕ)) → AgreeOnRight labels labels r s → r ≡ s
  right_same (label f) (label g) h = ap label (label_same labels apart f g h)
  right_same (label f) (hole y) h = absurd h
  right_same (hole x) (label g) h = absurd h
  right_same (hole x) (hole y) h = ap hole (pair_same x y h.0 h.1)

  -- a line stands for one rule
  rule_once : (names : List (List ℕ)) → AreDistinct names → (line : RuleLine) (r s : TransducerRule ℕ) → is_twice line.parts ≡ false → IsRule names labels r line → IsRule names labels s line → r ≡ s
  rule_once names once line r s single h k =
      let state : r.state ≡ s.state = once.once r.state s.state _ h.state k.state in
      let left : r.left ≡ s.left =
      side_same r.left s.left (shape_same (AgreeOnLeft labels labels) (left_same labels apart) (only r.left) (only s.left)
      (numbers_agree labels labels 0 (only r.left) (only s.left) (left_ends labels r.left line.parts h.left)
      (shape_of (AgreeLoosely labels labels) r.left s.left (left_sides labels labels (preorder_of r.left) (preorder_of s.left) line.parts h.left k.left)) h.numbered k.numbered)) in
      let right : r.right ≡ s.right =
      side_same r.right s.right (shape_same (AgreeOnRight labels labels) right_same (only r.right) (only s.right)
      (shape_of (AgreeOnRight labels labels) r.right s.right
      (right_nodes labels labels names (numbers_in line.parts.below) once (once_each [] (numbers_in line.parts.below) single) (preorder_of r.right) (preorder_of s.right) line.parts.right h.right k.right))) in
      ap (λ (q : ℕ). record { state = q; left = r.left; right = r.right; cost = r.cost }) state
      ∙ ap (λ (l : Tree (Symbol ℕ Variable)). record { state = s.state; left = l; right = r.right; cost = r.cost }) left
      ∙ ap (λ (l : Tree (Symbol ℕ (Pair ℕ))). record { state = s.state; left = s.left; right = l; cost = r.cost }) right
      ∙ ap (λ (n : ℕ). record { state = s.state; left = s.left; right = s.right; cost = n }) (h.cost ∙ sym k.cost)

-- transducers of one text are the same
pub text_of_one : (scale : Scale) (labels : List (List ℕ)) (bytes : List ℕ) (t u : TransducerOf) → Distinct labels → TransducerText scale labels bytes t → TransducerText scale labels bytes u → t ≡ u
text_of_one scale labels bytes t u apart r q =
    let s = file_once scale (lines_of bytes) r.start q.start r.lines q.lines r.written q.written in
    let read : (let x : Result (List ℕ × List RuleLine) FileFault = Ok (r.start, r.lines) in x ≡ Ok (q.start, q.lines)) =
    ap (λ (n : List ℕ). Ok (n, r.lines)) s.0 ∙ ap (λ (ls : List RuleLine). Ok (q.start, ls)) s.1 in
    let f = files_agree (λ names. IsRule names labels) (r.start, r.lines) (q.start, q.lines) t.names u.names t.rules read r.states q.states r.rules in
    let names : AreDistinct u.names = all_added [] (q.start ∷ states_of q.lines) u.names q.states none_distinct in
    let rules : t.rules ≡ u.rules =
    rules_same (λ x y. x ≡ y) (λ x y e. e) t.rules u.rules
    (rules_agree (λ x y. x ≡ y) (IsRule u.names labels) (IsRule u.names labels) (rule_once labels apart u.names names) q.lines t.rules u.rules
    (lines_once IsTree scale (lines_of bytes) q.start q.lines q.written) f.1 q.rules) in
    ap (λ (ns : List (List ℕ)). record { names = ns; rules = t.rules }) f.0
    ∙ ap (λ (rs : List (TransducerRule ℕ)). record { names = u.names; rules = rs }) rules
