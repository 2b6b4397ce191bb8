-- What `compare` makes is within the limit over each table of labels, or has more parts; its text
-- is one; and where what it makes is within the limit and the least tree is not too large, that
-- there is none cannot be.
use Rattle.std.specs.Prelude.{◌≡◌, ◌⊎◌, ℕ, ◌<◌, ◌≤◌, max, List, length, refl}
use Rattle.std.proofs.Common.{arith, ap, sym, ◌∙◌, subst, inl, inr}
use Rattle.std.specs.declared.cmp.Ordering.TheVariants.{Less}
use Rattle.tib_cost.specs.declared.Scale.TheVariants.{Unweighted}
use Rattle.tib_cost.specs.Semiring.{boolean_laws}
use Rattle.tib_lex.specs.Lists.{Distinct}
use Rattle.tib_lex.proofs.Members.{at_has}
use Rattle.tib_tree.specs.Growth.{text_at}
use Rattle.tib_tree.specs.Trees.{Tree, size, sizes, most_nodes, relabel}
use Rattle.tib_tree.proofs.Counts.{sizes-relabel}
use Rattle.tib_grammar.specs.GrammarOf.{GrammarOf}
use Rattle.tib_grammar.specs.Range.{AreInRange}
use Rattle.tib_grammar.specs.declared.Rule.{Rule}
use Rattle.tib_grammar_file.specs.ByText.{AgreeByText}
use Rattle.tib_grammar_file.specs.Printable.{ArePrintable}
use Rattle.tib_grammar_file.proofs.Renumbering.{renumbering}
use Rattle.tib_expand.specs.Reached.{parts_of}
use Rattle.tib_tree.specs.Order.{tree_cmp_by}
use Rattle.tib_tree.proofs.Orderings.{nat_less}
use Rattle.tib_canon.specs.TrimmedForms.{IsTrimmedForm}
use Rattle.tib_canon.proofs.TrimmedOnce.{names_long}
use Rattle.tib_compare.specs.Compared.{IsInOne, IsLeastOnly, IsCompared}
use Rattle.tib_compare.specs.Faults.{hunted}
use Rattle.tib_compare.specs.declared.compared.Compared.TheVariants.{Same, First, Second}
use Rattle.tib_compare.proofs.OneAnswer.{one_answer, not_too_large}
use Rattle.tib_operations.specs.Made.{normal_form, and_then}
use Rattle.tib_operations.proofs.BestByText.{rules_labelled, texts_apart}
use Rattle.tib_operations.proofs.FormsByText.{within_by_text}
use Rattle.tib_operations.proofs.MadeParts.{IsEither, both_either, form_either}
use Rattle.tib_operations.proofs.OfIntersect.{form_same, form_plain, form_is_normal}
use Rattle.tib_operations.proofs.ReadSound.{IsSound}
use Rattle.tib_operations.specs.Compare.{answer_text, compare_makes, vectors_of_both, HasCompareText, HasLargeLeast, HasVectorsWithin, LeastIsSmall}
use Rattle.tib_operations.proofs.AnswersByText.{answer_with, answer_same, compared_moved, large_moved}
use Rattle.tib_operations.proofs.AnswersExist.{answer_there}
use Rattle.tib_operations.proofs.BothByText.{both_by_text}
use Rattle.tib_operations.proofs.OfForms.{compared_kept, turned}

-- what is made is within the limit over each table of labels
pub compare_by_text :
    (limit : ℕ) (labels others : List (List ℕ)) → Distinct labels → Distinct others → (f g h k : GrammarOf) → AgreeByText labels others f h → AgreeByText labels others g k →
    (compare_makes limit f g).within → (compare_makes limit h k).within
compare_by_text limit labels others apart different f g h k a b w = (
  within_by_text max limit labels others apart different f h a w.0,
  (within_by_text max limit labels others apart different g k b w.1.0, both_by_text limit labels others apart different f g h k a b w.1.1),
)

-- it is within the limit, or has more parts

not_within : (m n : ℕ) → (m ≤ n → ⊥) → n < m
not_within m n h = grind arith

vectors_either : (limit : ℕ) (f g : GrammarOf) → IsEither (vectors_of_both limit f g)
vectors_either limit f g = record {
  apart = λ w m. (let within = w.within.3 in omega (arith, within, m w.forms w.are_forms w.within.0 w.within.1 w.within.2));
  either = λ w m. m (λ forms are order edges reached.
      not_within (parts_of (hunted forms.0 forms.1) order edges) limit (λ within. w (record { forms = forms; are_forms = are; within = (order, edges, reached, within) })));
}

pub compare_either : (limit : ℕ) (f g : GrammarOf) → IsEither (compare_makes limit f g)
compare_either limit f g =
    both_either (normal_form max limit f) (and_then (normal_form max limit g) (vectors_of_both limit f g)) (form_either max limit f)
    (both_either (normal_form max limit g) (vectors_of_both limit f g) (form_either max limit g) (vectors_either limit f g))

-- the text is one over each table of labels
pub compare_once :
    (labels others : List (List ℕ)) → Distinct labels → Distinct others → (f g h k : GrammarOf) → AgreeByText labels others f h → AgreeByText labels others g k → (text other : List ℕ) →
    HasCompareText labels f g text → HasCompareText others h k other → text ≡ other
compare_once labels others apart different f g h k left right text other a b =
    let s = renumbering labels others apart different in
    let same : answer_with s.0 a.answer ≡ b.answer =
    one_answer others (texts_apart others different) h.rules k.rules (rules_labelled labels others f h left) (rules_labelled labels others g k right) (answer_with s.0 a.answer) b.answer
    (compared_moved labels others apart different s.0 s.1 f g h k left right a.answer a.is_answer) b.is_answer in
    a.are ∙ answer_same labels others apart different s.0 s.1 f g h k left right a.answer a.is_answer ∙ ap (answer_text others) same ∙ sym b.are

-- a least tree that is too large is so over each table of labels
pub large_by_text :
    (labels others : List (List ℕ)) → Distinct labels → Distinct others → (f g h k : GrammarOf) → AgreeByText labels others f h → AgreeByText labels others g k → HasLargeLeast f g → HasLargeLeast h k
large_by_text labels others apart different f g h k left right l =
    let s = renumbering labels others apart different in large_moved labels others apart different s.0 s.1 f g h k left right l

-- a text excludes that the least tree is too large
pub large_apart : (labels : List (List ℕ)) (f g : GrammarOf) (text : List ℕ) → HasCompareText labels f g text → HasLargeLeast f g → ⊥
large_apart labels f g text h l = not_too_large labels f.rules g.rules h.answer h.is_answer h.small l

-- where it is not, it is small

small_or_large : (n : ℕ) → (n ≤ most_nodes) ⊎ (most_nodes < n)
small_or_large n = grind arith

module _ (labels : List (List ℕ)) where
  smaller_before : (u t : Tree ℕ) → size u < size t → tree_cmp_by labels u t ≡ Less
  smaller_before u t h =
      let smaller : sizes (relabel (text_at labels) u.kids) < sizes (relabel (text_at labels) t.kids) =
      omega (arith, h, sizes-relabel (text_at labels) u.kids, sizes-relabel (text_at labels) t.kids) in
      rw (nat_less (sizes (relabel (text_at labels) u.kids)) (sizes (relabel (text_at labels) t.kids)) smaller)

  least_large : (one two : List (Rule ℕ)) (t : Tree ℕ) → IsLeastOnly labels one two t → most_nodes < size t → (u : Tree ℕ) → IsInOne one two u → most_nodes < size u
  least_large one two t l large u o = elim (small_or_large (size u)) [
    | inr more ↦ more
    | inl low ↦
        let a = l.least u (smaller_before u t (omega (arith, low, large))) in
        elim o [ inl x ↦ absurd (x.1 (a.0 x.0)) | inr x ↦ absurd (x.1 (a.1 x.0)) ]
  ]

  other_way : (one two : List (Rule ℕ)) (t : Tree ℕ) → IsInOne one two t → IsInOne two one t
  other_way one two t (inl o) = inr o
  other_way one two t (inr o) = inl o

  pub small_unless_large : (f g : GrammarOf) → (HasLargeLeast f g → ⊥) → LeastIsSmall labels f g
  small_unless_large f g never Same c = tt
  small_unless_large f g never (First t) c = elim (small_or_large (size t)) [
    | inl low ↦ low
    | inr large ↦ absurd (never ((t, inl c.only), least_large f.rules g.rules t c large))
  ]
  small_unless_large f g never (Second t) c = elim (small_or_large (size t)) [
    | inl low ↦ low
    | inr large ↦ absurd (never ((t, inr c.only), λ u o. least_large g.rules f.rules t c large u (other_way f.rules g.rules u o)))
  ]

-- where all that is made is within the limit and the least tree is not too large, that there is no
-- text cannot be

form_range : (g m : GrammarOf) → IsTrimmedForm max g m → AreInRange (length m.names) m.rules
form_range g m t = subst (λ (n : ℕ). AreInRange n m.rules) (sym (names_long max t.normal m t.trimmed)) t.trimmed.in_range

form_start : (g m : GrammarOf) → IsTrimmedForm max g m → 0 < length m.names
form_start g m t =
    let at = at_has t.trimmed.states 0 0 ((t.trimmed.are_states 0).1 (inl refl)) in
    omega (arith, at.1, names_long max t.normal m t.trimmed)

pub compare_there :
    (limit : ℕ) (labels : List (List ℕ)) → Distinct labels → (f g : GrammarOf) → IsSound f → IsSound g → ArePrintable Unweighted labels f.rules → ArePrintable Unweighted labels g.rules →
    (compare_makes limit f g).within → LeastIsSmall labels f g → ((text : List ℕ) → HasCompareText labels f g text → ⊥) → ⊥
compare_there limit labels apart f g s t p q w small never =
    let forms : HasVectorsWithin limit f g = w.1.1 in
    let one : GrammarOf = forms.forms.0 in
    let two : GrammarOf = forms.forms.1 in
    form_same boolean_laws f one s forms.are_forms.0 (λ a.
    form_same boolean_laws g two t forms.are_forms.1 (λ b.
    answer_there labels (texts_apart labels apart) (length one.names) (form_start f one forms.are_forms.0) one.rules two.rules (form_is_normal boolean_laws f one forms.are_forms.0)
    (form_is_normal boolean_laws g two forms.are_forms.1) (form_plain boolean_laws Unweighted labels f one forms.are_forms.0 p) (form_plain boolean_laws Unweighted labels g two forms.are_forms.1 q)
    (form_range f one forms.are_forms.0) forms.within.0 forms.within.1 forms.within.2 (λ answer is.
    let c : IsCompared labels f.rules g.rules answer = compared_kept f.rules g.rules one.rules two.rules (turned f.rules one.rules a) (turned g.rules two.rules b) labels answer is in
    never (answer_text labels answer) (record { answer = answer; is_answer = c; small = small answer c; are = refl }))))
