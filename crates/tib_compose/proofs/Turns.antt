-- The labels of turns are at their nodes, and the nodes that are left are in the side.
use Rattle.std.specs.Prelude.{◌≡◌, ℕ, ◌<◌, Bool, true, List, [], ◌∷◌, ◌++◌, length, take, drop, Some}
use Rattle.std.proofs.Common.{ap, sym, ◌∙◌, subst}
use Rattle.std.specs.Global.{Vec}
use Rattle.tib_lex.proofs.Lists.{each_left, each_parts}
use Rattle.tib_lex.proofs.Members.{each_more}
use Rattle.tib_lex.proofs.Places.{take_drop}
use Rattle.tib_grammar.specs.declared.Item.{Item}
use Rattle.tib_transducer.specs.Rules.{transducer_rule}
use Rattle.tib_transducer.specs.declared.Pair.{Pair}
use Rattle.tib_transducer.specs.declared.TransducerRule.{TransducerRule}
use Rattle.tib_key_edges.specs.Choices.{reads_label}
use Rattle.tib_compose.specs.Branches.{IsAtLabel}
use Rattle.tib_compose.specs.Pending.{AreNodesBelow, IsNodeBelow}
use Rattle.tib_compose.specs.Searches.{AreTurnsAt}
use Rattle.tib_compose.specs.Sources.{IsSource}
use Rattle.tib_compose.specs.Walk.{AreReady, IsRead}
use Rattle.tib_compose.specs.declared.branch.Branch.{Branch}
use Rattle.tib_compose.specs.declared.pending.PendingPiece.{PendingPiece}
use Rattle.tib_compose.specs.declared.search.ReturnPoint.{ReturnPoint}
use Rattle.tib_compose.specs.declared.source.Source.{Source}

-- so is the label of the last turn, and those of the others
pub last_at : (items : List (Item (Pair ℕ))) (ts us : List ReturnPoint) (t : ReturnPoint) → us ≡ ts ++ t ∷ [] → AreTurnsAt items us → AreTurnsAt items ts × IsAtLabel items (Some t.reading)
last_at items ts us t e h =
    let both = each_parts (λ (u : ReturnPoint). IsAtLabel items (Some u.reading)) ts (t ∷ []) (subst (AreTurnsAt items) e h) in
    (both.0, both.1.0)

-- one more turn
pub more_at : (items : List (Item (Pair ℕ))) (ts us : List ReturnPoint) (t : ReturnPoint) → us ≡ ts ++ t ∷ [] → AreTurnsAt items ts → IsAtLabel items (Some t.reading) → AreTurnsAt items us
more_at items ts us t e h at = subst (AreTurnsAt items) (sym e) (each_more (λ (u : ReturnPoint). IsAtLabel items (Some u.reading)) ts t h at)

-- the first tasks
nodes_first : (n k : ℕ) (tasks us : List PendingPiece) → us ≡ take k tasks → AreNodesBelow n tasks → AreNodesBelow n us
nodes_first n k tasks us e h =
    subst (AreNodesBelow n) (sym e) (each_left (λ (t : PendingPiece). IsNodeBelow n t.piece) (take k tasks) (drop k tasks) (subst (AreNodesBelow n) (sym (take_drop k tasks)) h))

-- the tasks of a branch
pub nodes_same : (n : ℕ) (old new : Vec PendingPiece) → new ≡ old → AreNodesBelow n old.items → AreNodesBelow n new.items
nodes_same n old new e h = subst (λ (ts : Vec PendingPiece). AreNodesBelow n ts.items) (sym e) h

-- those after a rule that reads the label of a turn
pub nodes_read :
    (product : ℕ → ℕ → ℕ) (two : List (TransducerRule ℕ)) (source : Source) (t : ReturnPoint) (m k : ℕ) (tasks : List PendingPiece) (start b new : Branch) (alive : Bool) → AreReady product two → IsSource product two source →
    (m < length two) × (reads_label t.reading.state t.reading.label t.reading.rank (transducer_rule two m) ≡ true) → IsAtLabel source.items.now (Some t.reading) → start.pending.tasks.items ≡ take k tasks →
    AreNodesBelow (length source.items.now) tasks → IsRead product two source t m start b alive → new ≡ b → AreNodesBelow (length source.items.now) new.pending.tasks.items
nodes_read product two source t m k tasks start b new alive ready known reads at e h read same =
    subst (λ (x : Branch). AreNodesBelow (length source.items.now) x.pending.tasks.items) (sym same)
    (read.nodes ready known reads.0 reads.1 at (nodes_first (length source.items.now) k tasks start.pending.tasks.items e h))
