-- The list of the k cheapest trees of a grammar is that of its trimmed normal form.
use Rattle.tib_cost.specs.declared.Scale.{Scale}
use Rattle.std.proofs.Common.{◌≡◌, ℕ, ◌+◌, ◌<◌, ◌≤◌, Bool, false, List, [], ◌∷◌, ◌++◌, length, take, sym, ◌∙◌, subst, get_or, refl, ap, append_assoc}
use Rattle.std.specs.Prelude.{Some}
use Rattle.std.proofs.lemmas.List.{take_more}
use Rattle.tib_cost.specs.Scale.{is_weighted}
use Rattle.tib_lex.specs.Lists.{Each}
use Rattle.tib_lex.proofs.Lists.{each_weaker, Each-from}
use Rattle.tib_tree.specs.Growth.{HasLabels}
use Rattle.tib_tree.specs.Trees.{size, most_nodes}
use Rattle.tib_grammar.specs.GrammarOf.{GrammarOf}
use Rattle.tib_grammar.specs.Run.{rule_at}
use Rattle.tib_grammar.specs.Series.{HaveSameSeries}
use Rattle.tib_grammar.specs.declared.Rule.{Rule}
use Rattle.tib_grammar_file.specs.Printable.{ArePrintable, IsPlainIf}
use Rattle.tib_grammar_file.specs.Printed.{AreLabelled}
use Rattle.tib_ranked_trees.specs.Best.{Costed, IsKBest, IsTreeAt}
use Rattle.tib_ranked_trees.proofs.Ranks.{tree_below}
use Rattle.tib_ranked_trees.specs.Pass.{no_entry}
use Rattle.tib_k_best.specs.Causes.{IsLevelCause}
use Rattle.tib_k_best.specs.declared.error.KBestError.TheVariants.{TreeTooLarge}
use Rattle.tib_canon.specs.TrimmedForms.{IsTrimmedForm}
use Rattle.tib_operations.specs.Made.{IsMadeFault}
use Rattle.tib_operations.specs.KBest.{costed_line, costed_lines, kbest_makes, AreSmall, HasLargeTree, IsKBestFault}
use Rattle.tib_operations.specs.declared.status.Status.{Status}
use Rattle.tib_operations.specs.declared.status.Status.TheVariants as statuses

-- rules with the same series have the same list
pub best_of_form : (product : ℕ → ℕ → ℕ) (rules form : List (Rule ℕ)) → HaveSameSeries product rules form → (labels : List (List ℕ)) (k : ℕ) (xs : List Costed) → IsKBest product form labels k xs → IsKBest product rules labels k xs
best_of_form product rules form same labels k xs b = record {
  members = each_weaker (IsTreeAt product form 0) (IsTreeAt product rules 0) xs (λ x m. (same x.0 (Some x.1)).1 m) b.members;
  ascends = b.ascends;
  few = b.few;
  others = λ y m new. b.others y ((same y.0 (Some y.1)).0 m) new;
}

-- its labels are in the table
pub labels_of_best : (product : ℕ → ℕ → ℕ) (rules : List (Rule ℕ)) (labels : List (List ℕ)) → AreLabelled (length labels) rules → (k : ℕ) (xs : List Costed) → IsKBest product rules labels k xs → Each (λ x. HasLabels labels x.0) xs
labels_of_best product rules labels labelled k xs b =
    each_weaker (IsTreeAt product rules 0) (λ x. HasLabels labels x.0) xs (λ x m. tree_below labels product rules labelled 0 x m) b.members

-- trees that are small one by one are small
pub each_small : (xs : List Costed) → ((i : ℕ) → i < length xs → size (get_or xs i no_entry).0 ≤ most_nodes) → AreSmall xs
each_small xs f = Each-from (λ x. size x.0 ≤ most_nodes) xs no_entry f

-- a fault of the normal form is one of the list
pub made_fault :
    (levelled : Bool) (product : ℕ → ℕ → ℕ) (limit k : ℕ) (labels : List (List ℕ)) (g : GrammarOf) (s : Status) → IsMadeFault (kbest_makes product limit g).more limit s → IsKBestFault levelled product limit k labels g s
made_fault levelled product limit k labels g statuses.Done h = absurd h
made_fault levelled product limit k labels g statuses.Usage h = absurd h
made_fault levelled product limit k labels g (statuses.BadInput n fault) h = absurd h
made_fault levelled product limit k labels g (statuses.Class n rule fault) h = absurd h
made_fault levelled product limit k labels g (statuses.TooMany n) h = h
made_fault levelled product limit k labels g statuses.TreeTooLarge h = absurd h
made_fault levelled product limit k labels g (statuses.ReadFault n) h = absurd h
made_fault levelled product limit k labels g statuses.WriteFault h = absurd h
made_fault levelled product limit k labels g (statuses.TooLong n) h = absurd h
made_fault levelled product limit k labels g statuses.OutOfMemory h = tt

-- a large tree of a state of the trimmed normal form is one of the grammar
pub large_in_form :
    (levelled : Bool) (product : ℕ → ℕ → ℕ) (k : ℕ) (labels : List (List ℕ)) (g form : GrammarOf) → IsTrimmedForm product g form → (q : ℕ) → IsLevelCause levelled product labels form.rules k (TreeTooLarge q) →
    HasLargeTree levelled product k labels g
large_in_form levelled product k labels g form is q cause = record { form = form; is_form = is; rules = cause.0; is_level = cause.1; state = q; useful = cause.2; large = cause.3 }

-- where nothing is weighed each rule is free
pub costs_free :
    (scale : Scale) (weighted : Bool) → weighted ≡ is_weighted scale → (labels : List (List ℕ)) (rules : List (Rule ℕ)) → ArePrintable scale labels rules → weighted ≡ false → (n : ℕ) → n < length rules →
    (rule_at rules n).cost ≡ 0
costs_free scale weighted weighs labels rules plain e n h =
    let cost : IsPlainIf false (rule_at rules n).cost = subst (λ (b : Bool). IsPlainIf b (rule_at rules n).cost) (sym weighs ∙ e) (plain n h).cost in cost

-- the lines of one more tree
append_line : (scale : Scale) (labels : List (List ℕ)) (xs : List Costed) (x : Costed) → costed_lines scale labels (xs ++ x ∷ []) ≡ costed_lines scale labels xs ++ costed_line scale labels x
append_line scale labels [] x = append_none (costed_line scale labels x)
  where
    append_none : (ys : List ℕ) → ys ++ [] ≡ ys
    append_none [] = refl
    append_none (y ∷ ys) = ap (λ z. y ∷ z) (append_none ys)
append_line scale labels (y ∷ xs) x =
    ap (λ z. costed_line scale labels y ++ z) (append_line scale labels xs x) ∙ sym (append_assoc (costed_line scale labels y) (costed_lines scale labels xs) (costed_line scale labels x))

pub costed_more :
    (scale : Scale) (labels : List (List ℕ)) (xs : List Costed) (i : ℕ) → i < length xs →
    costed_lines scale labels (take (i + 1) xs) ≡ costed_lines scale labels (take i xs) ++ costed_line scale labels (get_or xs i no_entry)
costed_more scale labels xs i h = rw (take_more xs i no_entry h) (append_line scale labels (take i xs) (get_or xs i no_entry))
