-- The transducer of a file that was read.
use Rattle.tib_cost.specs.declared.Scale.{Scale}
use Rattle.std.proofs.Common.{◌≡◌, ℕ, ◌+◌, ◌<◌, List, [], ◌∷◌, length, refl, ap, sym, ◌∙◌, subst, arith, suc}
use Rattle.std.specs.Prelude.{nat_lt}
use Rattle.tib_lex.specs.Lists.{Along, Each}
use Rattle.tib_lex.proofs.Spelled.{or_false}
use Rattle.tib_tree.specs.Grows.{AddsAll}
use Rattle.tib_tree.specs.Trees.{preorder_of, most_nodes}
use Rattle.tib_grammar_file.proofs.Alongs.{along_long}
use Rattle.tib_grammar_file.proofs.TextRead.{some_name}
use Rattle.tib_strings.specs.declared.StringRule.{StringRule}
use Rattle.tib_strings.specs.declared.Word.{Word as Token}
use Rattle.tib_strings.specs.StringTransducerOf.{StringTransducerOf}
use Rattle.tib_strings.specs.Range.{AreWithin, AreShaped}
use Rattle.tib_transducer_file.specs.Rule.{RuleLine, numbers_in}
use Rattle.tib_transducer_file.specs.FileHeld.{IsFew, FileReadBy}
use Rattle.tib_transducer_file.proofs.FileText.{left_long, lt_false}
use Rattle.tib_strings.specs.Listed.{SpellsList}
use Rattle.tib_strings.specs.RuleValue.{IsRightNode, nodes_of, IsRule, states_of}
use Rattle.tib_strings.specs.TransducerText.{IsSmallRule, ReadsAs}
use Rattle.tib_strings.proofs.ShapesRead.{rules_shaped, rules_within}

-- as many nodes as words and pairs
pub nodes_long : (ws : List (Token ℕ)) → length (nodes_of ws) ≡ length ws
nodes_long [] = refl
nodes_long (w ∷ ws) = ap suc (nodes_long ws)

one_small : (names labels : List (List ℕ)) (r : StringRule ℕ) (line : RuleLine) → IsRule names labels r line → IsFew line → IsSmallRule r
one_small names labels r line h f =
    let o = or_false (nat_lt most_nodes (length line.parts.below + 1)) (nat_lt most_nodes (length line.parts.right)) f in
    let a = lt_false most_nodes (length line.parts.below + 1) o.0 in
    let b = lt_false most_nodes (length line.parts.right) o.1 in
    (omega (arith, a, left_long labels (preorder_of r.left) line.parts h.left), omega (arith, b, nodes_long r.right, along_long (IsRightNode names labels (numbers_in line.parts.below)) (nodes_of r.right) line.parts.right h.right))

-- rules of lines within the limits are small
pub all_small : (names labels : List (List ℕ)) (rules : List (StringRule ℕ)) (lines : List RuleLine) → Along (IsRule names labels) rules lines → Each IsFew lines → Each IsSmallRule rules
all_small names labels [] lines a f = tt
all_small names labels (r ∷ rules) [] a f = absurd a
all_small names labels (r ∷ rules) (l ∷ lines) a f = (one_small names labels r l a.0 f.0, all_small names labels rules lines a.1 f.1)

-- what was read of a file
abbrev pub StringFileRead : Scale → List ℕ → List (List ℕ) → List (List ℕ) → List (StringRule ℕ) → Type 0
StringFileRead scale bytes names labels rules = FileReadBy SpellsList IsRule scale bytes names labels rules

-- the transducer of what was read
pub reads_as : (scale : Scale) (bytes : List ℕ) (names states labels : List (List ℕ)) (rules : List (StringRule ℕ)) (t : StringTransducerOf) → StringFileRead scale bytes names labels rules → states ≡ names → t.names ≡ states → t.rules ≡ rules → ReadsAs scale labels bytes t
reads_as scale bytes names states labels rules t f same n r =
    let e : t.names ≡ names = n ∙ same in
    let are : Along (IsRule t.names labels) t.rules f.lines = subst (λ (rs : List (StringRule ℕ)). Along (IsRule t.names labels) rs f.lines) (sym r) (subst (λ (ns : List (List ℕ)). Along (IsRule ns labels) rules f.lines) (sym e) f.rules_are) in
    record {
      text = record { start = f.start; lines = f.lines; written = f.held.have; states = subst (λ (ns : List (List ℕ)). AddsAll [] (f.start ∷ states_of f.lines) ns) (sym e) f.added; rules = are };
      small = all_small t.names labels t.rules f.lines are f.held.few;
    }

-- and it can be made
pub rules_ready : (scale : Scale) (bytes : List ℕ) (names states labels : List (List ℕ)) (rules : List (StringRule ℕ)) → StringFileRead scale bytes names labels rules → states ≡ names → (0 < length states) × AreWithin (length states) rules × AreShaped rules
rules_ready scale bytes names states labels rules f same = (
  omega (arith, ap length same, some_name f.start (states_of f.lines) names f.added),
  subst (λ (n : ℕ). AreWithin n rules) (sym (ap length same)) (rules_within names labels rules f.lines f.rules_are),
  rules_shaped names labels rules f.lines f.rules_are,
)
