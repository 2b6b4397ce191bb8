-- Laws of the counts of runs and of trees.
use Rattle.std.specs.Prelude.{◌≡◌, ◌↔◌, ℕ, ◌<◌, max, List, length}
use Rattle.tib_cost.specs.declared.Scale.{Scale}
use Rattle.tib_tree.specs.Trees.{Tree}
use Rattle.tib_grammar.specs.GrammarOf.{GrammarOf}
use Rattle.tib_grammar.specs.Forms.{AreNormal, IsDeterministic}
use Rattle.tib_grammar.specs.Range.{AreInRange, SidesEndInHoles}
use Rattle.tib_grammar.specs.Run.{rule_at, AreFree}
use Rattle.tib_grammar.specs.Series.{HaveSameSeries}
use Rattle.tib_grammar.specs.declared.Rule.{Rule}
use Rattle.tib_normal.specs.NormalForm.{IsNormalForm}
use Rattle.tib_inside.specs.Trimmed.{IsTrimmed}
use Rattle.tib_trim.specs.Complete.{AreAllInCompleteRuns}
use Rattle.tib_trim.specs.TrimmedFile.{IsTrimmedFile}
use Rattle.tib_canon.specs.Canonical.{IsCanonical}
use Rattle.tib_canon.specs.TrimmedForms.{IsTrimmedForm}
use Rattle.tib_count.specs.Counts.{HasMembers, IsEndless, IsCountOf}
use Rattle.tib_count.specs.Counted.{IsRun, IsTree, HaveRuns}
use Rattle.tib_count.specs.declared.count.Count.{Count}

-- the runs have one count
abbrev pub RunsHaveOneCount : Type 0
RunsHaveOneCount = (rules : List (Rule ℕ)) (c d : Count) → IsCountOf (IsRun rules) c → IsCountOf (IsRun rules) d → c ≡ d

-- and so do the trees
abbrev pub TreesHaveOneCount : Type 0
TreesHaveOneCount = (rules : List (Rule ℕ)) (c d : Count) → IsCountOf (IsTree rules) c → IsCountOf (IsTree rules) d → c ≡ d

-- in deterministic form there are as many trees as runs
abbrev pub TreesOfDeterministic : Type 0
TreesOfDeterministic =
    (rules : List (Rule ℕ)) → SidesEndInHoles rules → IsDeterministic rules → (c : Count) → IsCountOf (IsRun rules) c →
    IsCountOf (IsTree rules) c

-- rules with the same series that cost nothing have the same trees
abbrev pub SameTrees : Type 0
SameTrees =
    (one two : List (Rule ℕ)) → AreFree one → AreFree two → HaveSameSeries max one two → (t : Tree ℕ) →
    IsTree one t ↔ IsTree two t

-- and as many
abbrev pub AsManyTrees : Type 0
AsManyTrees =
    (one two : List (Rule ℕ)) → AreFree one → AreFree two → HaveSameSeries max one two → (c : Count) →
    IsCountOf (IsTree one) c → IsCountOf (IsTree two) c

-- in normal form endlessly many runs yield endlessly many trees
abbrev pub EndlessTrees : Type 0
EndlessTrees =
    (rules : List (Rule ℕ)) → AreNormal rules → IsEndless (IsRun rules) → IsEndless (IsTree rules)

-- and as many runs as a number do not
abbrev pub FewTrees : Type 0
FewTrees = (rules : List (Rule ℕ)) (n : ℕ) → HasMembers (IsRun rules) n → IsEndless (IsTree rules) → ⊥

-- where rules cost nothing, those of their normal form cost nothing
abbrev pub FormIsFree : Type 0
FormIsFree =
    (states : ℕ) (rules : List (Rule ℕ)) (more : ℕ) (new : List (Rule ℕ)) → AreFree rules →
    IsNormalForm max states rules more new → AreFree new

-- and so do those that trimming keeps
abbrev pub TrimmedIsFree : Type 0
TrimmedIsFree = (n m : GrammarOf) → AreFree n.rules → IsTrimmed max n m → AreFree m.rules

-- those of the trimmed normal form
abbrev pub TrimmedFormIsFree : Type 0
TrimmedFormIsFree = (g m : GrammarOf) → AreFree g.rules → IsTrimmedForm max g m → AreFree m.rules

-- and those of the canonical form
abbrev pub CanonicalIsFree : Type 0
CanonicalIsFree =
    (scale : Scale) (labels : List (List ℕ)) (g h : GrammarOf) → AreFree g.rules → IsCanonical max scale labels g h →
    AreFree h.rules

-- where rules cost nothing, the rules in complete runs have as many runs
abbrev pub TrimmedKeepsRuns : Type 0
TrimmedKeepsRuns =
    (g h : GrammarOf) → AreFree g.rules → IsTrimmedFile max g h → (c : Count) → IsCountOf (IsRun h.rules) c →
    IsCountOf (IsRun g.rules) c

-- where each rule is in a complete run, each state in a right side has a run
abbrev pub TrimmedFileHasRuns : (ℕ → ℕ → ℕ) → Type 0
TrimmedFileHasRuns product =
    (rules : List (Rule ℕ)) → AreAllInCompleteRuns product rules → HaveRuns rules

-- each state in the right side of a rule that trimming keeps has a run
abbrev pub TrimmedHasRuns : (ℕ → ℕ → ℕ) → Type 0
TrimmedHasRuns product =
    (n m : GrammarOf) (count : ℕ) → AreInRange count n.rules → IsTrimmed product n m → HaveRuns m.rules

-- and in that of a rule of a trimmed normal form
abbrev pub TrimmedFormHasRuns : (ℕ → ℕ → ℕ) → Type 0
TrimmedFormHasRuns product =
    (g m : GrammarOf) → AreInRange (length g.names) g.rules → SidesEndInHoles g.rules → IsTrimmedForm product g m →
    HaveRuns m.rules

-- and in that of a rule of a canonical form
abbrev pub CanonicalHasRuns : (ℕ → ℕ → ℕ) → Type 0
CanonicalHasRuns product =
    (scale : Scale) (labels : List (List ℕ)) (g h : GrammarOf) (count : ℕ) → AreInRange count g.rules →
    IsCanonical product scale labels g h → HaveRuns h.rules
