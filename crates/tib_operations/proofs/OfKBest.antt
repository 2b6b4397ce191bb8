-- What `kbest` writes: one text, and where none of its trees is too large, that there is none
-- cannot be.
use Rattle.tib_cost.specs.declared.Scale.{Scale}
use Rattle.std.proofs.Common.{◌≡◌, ℕ, List, refl}
use Rattle.tib_lex.specs.Lists.{Distinct}
use Rattle.tib_tree.specs.Trees.{only}
use Rattle.tib_grammar.specs.GrammarOf.{GrammarOf}
use Rattle.tib_grammar.specs.Run.{rule_at}
use Rattle.tib_grammar_file.specs.ByText.{AgreeByText}
use Rattle.tib_grammar_file.specs.Printable.{ArePrintable}
use Rattle.tib_grammar_file.proofs.Plain.{labels_below}
use Rattle.tib_grammar_file.proofs.Renumbering.{renumbering}
use Rattle.tib_operations.specs.KBest.{ListsSmall, HasKBestText, costed_lines}
use Rattle.tib_operations.proofs.BestByText.{texts_apart, texts_once}
use Rattle.tib_operations.proofs.BestExists.{best_there}

pub kbest_once :
    (scale : Scale) (product : ℕ → ℕ → ℕ) (k : ℕ) (labels others : List (List ℕ)) (g h : GrammarOf) (text other : List ℕ) → Distinct labels → Distinct others → AgreeByText labels others g h →
    HasKBestText scale product k labels g text → HasKBestText scale product k others h other → text ≡ other
kbest_once scale product k labels others g h text other apart different agree a b =
    let s = renumbering labels others apart different in
    texts_once product labels others g h apart different agree s.0 s.1 scale k text other a b

pub kbest_there :
    (scale : Scale) (product : ℕ → ℕ → ℕ) (k : ℕ) (labels : List (List ℕ)) → Distinct labels → (g : GrammarOf) → ArePrintable scale labels g.rules → ListsSmall product k labels g →
    ((text : List ℕ) → HasKBestText scale product k labels g text → ⊥) → ⊥
kbest_there scale product k labels apart g printable small never =
    best_there labels (texts_apart labels apart) product g.rules (λ m h. labels_below labels (only (rule_at g.rules m).right) (printable m h).right) k (λ best are.
    never (costed_lines scale labels best) (record { best = best; are_best = are; small = small best are; are = refl }))
