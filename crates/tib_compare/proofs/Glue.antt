-- From what the calls say to the result of a comparison.
use Rattle.std.specs.Prelude.{◌≡◌, ℕ, ◌<◌, max, List, length, map, Bool, true, false, Option, None, Some}
use Rattle.std.proofs.Common.{arith, ap, sym, ◌∙◌, subst, get_or}
use Rattle.tib_lex.proofs.Lists.{length_map}
use Rattle.tib_tree.specs.Trees.{Tree}
use Rattle.tib_grammar.specs.GrammarOf.{GrammarOf}
use Rattle.tib_grammar.specs.declared.Rule.{Rule}
use Rattle.tib_expand.specs.Reached.{IsBeyond}
use Rattle.tib_expand.specs.Limits.{IfTooMany}
use Rattle.tib_expand.specs.declared.error.HuntError.TheVariants.{TooMany, OutOfMemory}
use Rattle.tib_expand.specs.declared.error.HuntError.{HuntError}
use Rattle.tib_determinize.specs.Vectors.{VectorOf}
use Rattle.tib_determinize.specs.Determinization.{determinization}
use Rattle.tib_compare.specs.Compared.{HasCost}
use Rattle.tib_compare.specs.Beside.{beside}
use Rattle.tib_compare.specs.Wanted.{HasMark, HasNoMark, differs, wanted}
use Rattle.tib_compare.specs.Least.{IsOfWanted}
use Rattle.tib_compare.specs.Answered.{SomeDiffers, NoneDiffers, IsLeastTold, IsNamed, IsAnswerOf}
use Rattle.tib_compare.specs.Faults.{IsCause, IsFaultOf}
use Rattle.tib_compare.specs.declared.compared.Compared.{Compared}
use Rattle.tib_compare.specs.declared.compared.Compared.TheVariants.{Same, First, Second}
use Rattle.tib_compare.specs.declared.error.CompareError.{CompareError}
use Rattle.tib_compare.proofs.Answering.{mark_at, marked_below}

-- marks of the order that was reached
pub marks_same :
    (marks : List Bool) (second n : ℕ) (given order : List VectorOf) → marks ≡ map (differs second) given → second ≡ n → given ≡ order → marks ≡ map (differs n) order
marks_same marks second n given order e s o = e ∙ ap (λ (k : ℕ). map (differs k) given) s ∙ ap (λ (vs : List VectorOf). map (differs n) vs) o

pub none_told : (n : ℕ) (order : List VectorOf) (marks : List Bool) → marks ≡ map (differs n) order → HasNoMark marks → NoneDiffers n order
none_told n order marks e h k low =
    let long : length marks ≡ length order = ap (λ (bs : List Bool). length bs) e ∙ length_map (differs n) order in
    sym (mark_at n order k low) ∙ sym (ap (λ (bs : List Bool). get_or bs k false) e) ∙ h k (omega (arith, long, low))

pub some_told : (n : ℕ) (order : List VectorOf) (marks : List Bool) → marks ≡ map (differs n) order → HasMark marks → SomeDiffers n order
some_told n order marks e h =
    let here : get_or (map (differs n) order) h.0 false ≡ true = sym (ap (λ (bs : List Bool). get_or bs h.0 false) e) ∙ h.2 in
    let low : h.0 < length order = marked_below n order h.0 here in
    (h.0, low, sym (mark_at n order h.0 low) ∙ here)

-- the tree of marked positions is that of the vectors that tell the grammars apart
pub told_from :
    (labels : List (List ℕ)) (n : ℕ) (order : List VectorOf) (rules given : List (Rule ℕ)) (marks : List Bool) (o : Option (Tree ℕ)) →
    marks ≡ map (differs n) order → given ≡ rules → IsOfWanted labels (wanted marks given) o → IsLeastTold labels n order rules o
told_from labels n order rules given marks o e r h =
    subst (λ (bs : List Bool). IsOfWanted labels (wanted bs rules) o) e (subst (λ (rs : List (Rule ℕ)). IsOfWanted labels (wanted marks rs) o) r h)

-- with the name of its grammar it is the result
pub named_answer :
    (labels : List (List ℕ)) (n : ℕ) (left : List (Rule ℕ)) (order : List VectorOf) (rules : List (Rule ℕ)) (o : Option (Tree ℕ)) → IsLeastTold labels n order rules o →
    (t : Tree ℕ) → o ≡ Some t → (a : Compared) → IsNamed left t a → IsAnswerOf labels n left order rules (Some a)
named_answer labels n left order rules o h t e Same k = absurd k
named_answer labels n left order rules o h t e (First u) k =
    (subst (λ (p : Option (Tree ℕ)). IsLeastTold labels n order rules p) (e ∙ ap (λ (s : Tree ℕ). Some s) (sym k.0)) h, subst (λ (s : Tree ℕ). HasCost left s) (sym k.0) k.1)
named_answer labels n left order rules o h t e (Second u) k =
    (subst (λ (p : Option (Tree ℕ)). IsLeastTold labels n order rules p) (e ∙ ap (λ (s : Tree ℕ). Some s) (sym k.0)) h, λ c. k.1 (subst (λ (s : Tree ℕ). HasCost left s) k.0 c))

-- the fault of the hunt says what that of the comparison says
pub cause_of :
    (left right : GrammarOf) (limit : ℕ) (rules : List (Rule ℕ)) → rules ≡ beside (length left.names) left.rules right.rules → (error : HuntError) →
    IfTooMany limit (IsBeyond (determinization max rules) limit) error → (fault : CompareError) → IsFaultOf error fault → IsCause left right limit fault
cause_of left right limit rules e (TooMany n) h fault f =
    subst (λ (x : CompareError). IsCause left right limit x) (sym f)
    (h.0, subst (λ (rs : List (Rule ℕ)). IsBeyond (determinization max rs) limit) e h.1)
cause_of left right limit rules e OutOfMemory h fault f = subst (λ (x : CompareError). IsCause left right limit x) (sym f) tt
