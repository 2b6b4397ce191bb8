-- The transducer of a file that was read.
use Rattle.tib_cost.specs.declared.Scale.{Scale}
use Rattle.std.proofs.Common.{◌≡◌, ℕ, ◌+◌, ◌<◌, ◌≤◌, List, [], ◌∷◌, length, ap, sym, ◌∙◌, subst, arith, false}
use Rattle.std.specs.Prelude.{Ok, nat_lt}
use Rattle.std.proofs.lemmas.Bool.Decides.{nat_tests}
use Rattle.tib_lex.specs.Lists.{Along, Each}
use Rattle.tib_lex.proofs.Spelled.{or_false}
use Rattle.tib_tree.specs.Grows.{AddsAll}
use Rattle.tib_tree.specs.Machine.{IsTree}
use Rattle.tib_tree.specs.Trees.{preorder_of, most_nodes}
use Rattle.tib_grammar.specs.Sides.{Symbol}
use Rattle.tib_grammar.specs.StateName.{AreStateNames}
use Rattle.tib_grammar_file.proofs.Alongs.{along_long}
use Rattle.tib_grammar_file.proofs.TextRead.{some_name}
use Rattle.tib_transducer.specs.declared.TransducerRule.{TransducerRule}
use Rattle.tib_transducer.specs.declared.Variable.{Variable}
use Rattle.tib_transducer.specs.TransducerOf.{TransducerOf}
use Rattle.tib_transducer.specs.Range.{AreWithin, AreShaped}
use Rattle.tib_transducer_file.specs.Rule.{Parts, RuleLine, numbers_in}
use Rattle.tib_transducer_file.specs.Value.{IsLeftNode, IsLeftSide, IsRightNode, IsRule, states_of}
use Rattle.tib_transducer_file.specs.Reading.{transducer_from}
use Rattle.tib_transducer_file.specs.TransducerText.{IsSmallRule, ReadsAs}
use Rattle.tib_transducer_file.proofs.ShapesRead.{rules_shaped, rules_within}
use Rattle.tib_transducer_file.specs.Formats.{trees}
use Rattle.tib_transducer_file.specs.FileHeld.{IsFew, FileHeld, FileReadBy}
use Rattle.tib_transducer_file.proofs.FileHeld.{file_held as held_by, names_sound as sound_by}

-- a left side has one node more than are below its root
pub left_long : (labels : List (List ℕ)) (ss : List (Symbol ℕ Variable × ℕ)) (p : Parts) → IsLeftSide labels ss p → length ss ≡ length p.below + 1
left_long labels [] p h = absurd h
left_long labels (s ∷ ss) p h = omega (arith, along_long (IsLeftNode labels) ss p.below h.1)

-- what is not more is at most as much
pub lt_false : (n m : ℕ) → nat_lt n m ≡ false → m ≤ n
lt_false n m e = grind (arith, nat_tests)

one_small : (names labels : List (List ℕ)) (r : TransducerRule ℕ) (line : RuleLine) → IsRule names labels r line → IsFew line → IsSmallRule r
one_small names labels r line h f =
    let o = or_false (nat_lt most_nodes (length line.parts.below + 1)) (nat_lt most_nodes (length line.parts.right)) f in
    let a = lt_false most_nodes (length line.parts.below + 1) o.0 in
    let b = lt_false most_nodes (length line.parts.right) o.1 in
    (omega (arith, a, left_long labels (preorder_of r.left) line.parts h.left), omega (arith, b, along_long (IsRightNode names labels (numbers_in line.parts.below)) (preorder_of r.right) line.parts.right h.right))

-- rules of lines within the limits are small
pub all_small : (names labels : List (List ℕ)) (rules : List (TransducerRule ℕ)) (lines : List RuleLine) → Along (IsRule names labels) rules lines → Each IsFew lines → Each IsSmallRule rules
all_small names labels [] lines a f = tt
all_small names labels (r ∷ rules) [] a f = absurd a
all_small names labels (r ∷ rules) (l ∷ lines) a f = (one_small names labels r l a.0 f.0, all_small names labels rules lines a.1 f.1)

-- what was read of a file
abbrev pub FileRead : Scale → List ℕ → List (List ℕ) → List (List ℕ) → List (TransducerRule ℕ) → Type 0
FileRead scale bytes names labels rules = FileReadBy IsTree IsRule scale bytes names labels rules

-- a file that is read without a fault holds its rules
pub file_held : (scale : Scale) (n : ℕ) (lines : List (List ℕ)) (start : List ℕ) (rules : List RuleLine) → transducer_from scale n lines ≡ Ok (start, rules) → FileHeld IsTree scale lines start rules
file_held scale n lines start rules e = held_by trees scale n lines start rules e

-- its states have names
pub names_sound : (scale : Scale) (bytes : List ℕ) (names labels : List (List ℕ)) (rules : List (TransducerRule ℕ)) → FileRead scale bytes names labels rules → AreStateNames names
names_sound scale bytes names labels rules f = sound_by trees IsRule scale bytes names labels rules f

-- the transducer of what was read
pub reads_as : (scale : Scale) (bytes : List ℕ) (names states labels : List (List ℕ)) (rules : List (TransducerRule ℕ)) (t : TransducerOf) → FileRead scale bytes names labels rules → states ≡ names → t.names ≡ states → t.rules ≡ rules → ReadsAs scale labels bytes t
reads_as scale bytes names states labels rules t f same n r =
    let e : t.names ≡ names = n ∙ same in
    let are : Along (IsRule t.names labels) t.rules f.lines = subst (λ (rs : List (TransducerRule ℕ)). Along (IsRule t.names labels) rs f.lines) (sym r) (subst (λ (ns : List (List ℕ)). Along (IsRule ns labels) rules f.lines) (sym e) f.rules_are) in
    record {
      text = record { start = f.start; lines = f.lines; written = f.held.have; states = subst (λ (ns : List (List ℕ)). AddsAll [] (f.start ∷ states_of f.lines) ns) (sym e) f.added; rules = are };
      small = all_small t.names labels t.rules f.lines are f.held.few;
    }

-- and it can be made
pub rules_ready : (scale : Scale) (bytes : List ℕ) (names states labels : List (List ℕ)) (rules : List (TransducerRule ℕ)) → FileRead scale bytes names labels rules → states ≡ names → (0 < length states) × AreWithin (length states) rules × AreShaped rules
rules_ready scale bytes names states labels rules f same = (
  omega (arith, ap length same, some_name f.start (states_of f.lines) names f.added),
  subst (λ (n : ℕ). AreWithin n rules) (sym (ap length same)) (rules_within names labels rules f.lines f.rules_are),
  rules_shaped names labels rules f.lines f.rules_are,
)
