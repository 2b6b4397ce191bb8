-- The comparison of grammars with the series of two others is that of these.
use Rattle.std.specs.Prelude.{◌≡◌, ℕ, max, List, length, Some}
use Rattle.std.proofs.Common.{subst, inl, inr}
use Rattle.tib_cost.specs.declared.Scale.TheVariants.{Unweighted}
use Rattle.tib_lex.specs.Lists.{IsReordering}
use Rattle.tib_tree.specs.Trees.{Tree}
use Rattle.tib_grammar.specs.GrammarOf.{GrammarOf}
use Rattle.tib_grammar.specs.Series.{HaveSameSeries, HasSameSeries}
use Rattle.tib_grammar.specs.declared.Rule.{Rule}
use Rattle.tib_grammar_file.specs.Printable.{ArePrintable}
use Rattle.tib_grammar_file.specs.Printed.{AreLabelled}
use Rattle.tib_expand.specs.Reached.{IsBeyond}
use Rattle.tib_canon.specs.TrimmedForms.{IsTrimmedForm}
use Rattle.tib_ranked_trees.proofs.Ranks.{tree_below}
use Rattle.tib_compare.specs.Compared.{HasCost, Agree, IsOnlyIn, IsInOne, IsLeastOnly, IsCompared, IsTooLarge}
use Rattle.tib_compare.specs.Faults.{hunted, IsCause, IsWithin}
use Rattle.tib_compare.specs.declared.compared.Compared.{Compared}
use Rattle.tib_compare.specs.declared.compared.Compared.TheVariants.{Same, First, Second}
use Rattle.tib_compare.specs.declared.error.CompareError.{CompareError}
use Rattle.tib_compare.specs.declared.error.CompareError.TheVariants.{TooMany, TreeTooLarge}
use Rattle.tib_operations.specs.Made.{IsMadeFault}
use Rattle.tib_operations.specs.declared.status.Status.{Status}
use Rattle.tib_operations.specs.declared.status.Status.TheVariants as statuses
use Rattle.tib_operations.specs.Compare.{forms_of_both, compare_makes, HasAnswerLabels, HasCompareText, HasLargeLeast, IsFormsFault, IsCompareFault}
use Rattle.tib_operations.proofs.BothByText.{more_of_both}
use Rattle.tib_grammar.specs.Run.{AreFree}

pub turned : (one two : List (Rule ℕ)) → HaveSameSeries max one two → HaveSameSeries max two one
turned one two s t v = ((s t v).1, (s t v).0)

cost_kept : (one two : List (Rule ℕ)) → HaveSameSeries max one two → (t : Tree ℕ) → HasCost one t → HasCost two t
cost_kept one two s t h = (h.0, (s t (Some h.0)).0 h.1)

module _ (f g one two : List (Rule ℕ)) (a : HaveSameSeries max one f) (b : HaveSameSeries max two g) where
  agree_kept : (t : Tree ℕ) → Agree one two t → Agree f g t
  agree_kept t x = (λ h. cost_kept two g b t (x.0 (cost_kept f one (turned one f a) t h)), λ h. cost_kept one f a t (x.1 (cost_kept g two (turned two g b) t h)))

  only_kept : (t : Tree ℕ) → IsOnlyIn one two t → IsOnlyIn f g t
  only_kept t x = (cost_kept one f a t x.0, λ h. x.1 (cost_kept g two (turned two g b) t h))

  least_kept : (labels : List (List ℕ)) (t : Tree ℕ) → IsLeastOnly labels one two t → IsLeastOnly labels f g t
  least_kept labels t x = record { only = only_kept t x.only; least = λ u e. agree_kept u (x.least u e) }

module _ (f g one two : List (Rule ℕ)) (a : HaveSameSeries max one f) (b : HaveSameSeries max two g) where
  pub compared_kept : (labels : List (List ℕ)) (answer : Compared) → IsCompared labels one two answer → IsCompared labels f g answer
  compared_kept labels Same h = λ t. agree_kept f g one two a b t (h t)
  compared_kept labels (First t) h = least_kept f g one two a b labels t h
  compared_kept labels (Second t) h = least_kept g f two one b a labels t h

  in_one_kept : (t : Tree ℕ) → IsInOne one two t → IsInOne f g t
  in_one_kept t (inl h) = inl (only_kept f g one two a b t h)
  in_one_kept t (inr h) = inr (only_kept g f two one b a t h)

pub large_kept : (f g one two : List (Rule ℕ)) → HaveSameSeries max one f → HaveSameSeries max two g → IsTooLarge one two → IsTooLarge f g
large_kept f g one two a b h = (
  (h.0.0, in_one_kept f g one two a b h.0.0 h.0.1),
  λ t k. h.1 t (in_one_kept one two f g (turned one f a) (turned two g b) t k),
)

-- what is made is within the limit
pub within_kept : (limit : ℕ) (f g one two : GrammarOf) → IsTrimmedForm max f one → IsTrimmedForm max g two → (forms_of_both limit f g).within → IsWithin one two limit → (compare_makes limit f g).within
within_kept limit f g one two are too within w = (within.0, (within.1, record { forms = (one, two); are_forms = (are, too); within = w }))

-- the text that compares the forms compares their grammars
pub text_kept : (labels : List (List ℕ)) (f g one two : GrammarOf) (text : List ℕ) → HasSameSeries max f one → HasSameSeries max g two → HasCompareText labels one two text → HasCompareText labels f g text
text_kept labels f g one two text a b h = record {
  answer = h.answer;
  is_answer = compared_kept f.rules g.rules one.rules two.rules (turned f.rules one.rules a) (turned g.rules two.rules b) labels h.answer h.is_answer;
  small = h.small;
  are = h.are;
}

-- and the fault of the comparison of the forms is one of their grammars
pub fault_kept :
    (limit : ℕ) (f g one two : GrammarOf) → HasSameSeries max f one → HasSameSeries max g two → IsTrimmedForm max f one → IsTrimmedForm max g two →
    (forms_of_both limit f g).within → ((h m n : GrammarOf) → IsTrimmedForm max h m → IsTrimmedForm max h n → IsReordering m.rules n.rules) → (status : Status) → IsFormsFault limit one two status →
    IsCompareFault limit f g status
fault_kept limit f g one two a b are too within same statuses.Done h = h
fault_kept limit f g one two a b are too within same statuses.Usage h = h
fault_kept limit f g one two a b are too within same (statuses.BadInput n fault) h = h
fault_kept limit f g one two a b are too within same (statuses.Class n rule fault) h = h
fault_kept limit f g one two a b are too within same (statuses.TooMany n) h = (h.0, inr (inr (more_of_both limit f g one two same are too h.1)))
fault_kept limit f g one two a b are too within same statuses.TreeTooLarge h = (
  within_kept limit f g one two are too within h.0,
  large_kept f.rules g.rules one.rules two.rules (turned f.rules one.rules a) (turned g.rules two.rules b) h.1,
)
fault_kept limit f g one two a b are too within same (statuses.ReadFault n) h = h
fault_kept limit f g one two a b are too within same statuses.WriteFault h = h
fault_kept limit f g one two a b are too within same (statuses.TooLong n) h = h
fault_kept limit f g one two a b are too within same statuses.OutOfMemory h = h

-- the fault of a normal form is one of the comparison
pub forms_fault :
    (limit : ℕ) (f g : GrammarOf) (status : Status) → IsMadeFault (forms_of_both limit f g).more limit status → IsCompareFault limit f g status
forms_fault limit f g statuses.Done h = h
forms_fault limit f g statuses.Usage h = h
forms_fault limit f g (statuses.BadInput n fault) h = h
forms_fault limit f g (statuses.Class n rule fault) h = h
forms_fault limit f g (statuses.TooMany n) h = (h.0, elim h.1 [ inl m ↦ inl m | inr m ↦ inr (inl m) ])
forms_fault limit f g statuses.TreeTooLarge h = absurd h
forms_fault limit f g (statuses.ReadFault n) h = h
forms_fault limit f g statuses.WriteFault h = h
forms_fault limit f g (statuses.TooLong n) h = h
forms_fault limit f g statuses.OutOfMemory h = h

-- what a comparison says

pub told_many : (one two : GrammarOf) (limit n : ℕ) (error : CompareError) → error ≡ TooMany n → IsCause one two limit error → IsBeyond (hunted one two) limit
told_many one two limit n error is h = (subst (IsCause one two limit) is h).1

pub told_large : (one two : GrammarOf) (limit : ℕ) (error : CompareError) → error ≡ TreeTooLarge → IsCause one two limit error → IsWithin one two limit × HasLargeLeast one two
told_large one two limit error is h = subst (IsCause one two limit) is h

-- the labels of its tree are in the table
pub answer_labelled :
    (labels : List (List ℕ)) (one two : List (Rule ℕ)) → AreLabelled (length labels) one → AreLabelled (length labels) two → (answer : Compared) → IsCompared labels one two answer →
    HasAnswerLabels labels answer
answer_labelled labels one two l m Same c = tt
answer_labelled labels one two l m (First t) c = tree_below labels max one l 0 (t, c.only.0.0) c.only.0.1
answer_labelled labels one two l m (Second t) c = tree_below labels max two m 0 (t, c.only.0.0) c.only.0.1

-- rules that can be printed where nothing is weighed cost nothing
pub are_free : (labels : List (List ℕ)) (rules : List (Rule ℕ)) → ArePrintable Unweighted labels rules → AreFree rules
are_free labels rules p n h = (p n h).cost
