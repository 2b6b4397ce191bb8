-- What a grammar is counted by, and what is made to count it.
use Rattle.std.proofs.Common.{◌≡◌, ℕ, max, sym, subst, inl, inr}
use Rattle.tib_lex.specs.Lists.{IsReordering}
use Rattle.tib_grammar.specs.GrammarOf.{GrammarOf}
use Rattle.tib_expand.specs.Reached.{IsBeyond}
use Rattle.tib_inside.specs.Trimmed.{HasSameSeries}
use Rattle.tib_canon.specs.Constructions.{HasReachedWithin}
use Rattle.tib_canon.specs.TrimmedForms.{IsTrimmedForm}
use Rattle.tib_determinize.specs.Determinization.{determinization}
use Rattle.tib_count.specs.Counts.{IsEndless, IsCountOf}
use Rattle.tib_count.specs.Counted.{IsRun, IsTree}
use Rattle.tib_count.specs.Laws.{AsManyTrees}
use Rattle.tib_count.specs.declared.count.Count.{Count}
use Rattle.tib_count.specs.declared.count.Count.TheVariants.{Endless}
use Rattle.tib_operations.specs.Count.{count_makes}
use Rattle.tib_operations.specs.Determinize.{determinizing}
use Rattle.tib_operations.specs.Made.{normal_form, IsMadeFault}
use Rattle.tib_operations.specs.declared.status.Status.{Status}
use Rattle.tib_operations.specs.declared.status.Status.TheVariants as statuses
use Rattle.tib_operations.proofs.VectorsByText.{more_vectors}
use Rattle.tib_grammar.specs.Run.{AreFree}

module _ (as_many : AsManyTrees) (g form : GrammarOf) (free : AreFree g.rules) (form_free : AreFree form.rules) (same : HasSameSeries max g form) where
  -- a grammar has as many trees as its trimmed normal form
  pub trees_of_form : (c : Count) → IsCountOf (IsTree form.rules) c → IsCountOf (IsTree g.rules) c
  trees_of_form = as_many form.rules g.rules form_free free (λ t v. ((same t v).1, (same t v).0))

  trees_in_form : (c : Count) → IsCountOf (IsTree g.rules) c → IsCountOf (IsTree form.rules) c
  trees_in_form = as_many g.rules form.rules free form_free (λ t v. ((same t v).0, (same t v).1))

  module _ (limit : ℕ) (is_form : IsTrimmedForm max g form) where
    -- what is made is within the limit where the trees are endlessly many
    pub endless_within : (normal_form max limit g).within → IsEndless (IsTree form.rules) → (count_makes limit g).within
    endless_within w e = (w, inl (trees_of_form Endless e))

    -- and where the reached set is within it
    pub reached_within : (normal_form max limit g).within → HasReachedWithin (determinizing max form).problem limit → (count_makes limit g).within
    reached_within w set = (w, inr (record { from = form; is_made = is_form; set = set }))

    -- it has more parts where the trees are not endlessly many and the reached set has
    pub reached_more :
        ((h m n : GrammarOf) → IsTrimmedForm max h m → IsTrimmedForm max h n → IsReordering m.rules n.rules) → (IsEndless (IsTree form.rules) → ⊥) → IsBeyond (determinization max form.rules) limit →
        (count_makes limit g).more
    reached_more reordered few beyond = inr (λ e. few (trees_in_form Endless e), more_vectors max limit g form reordered is_form beyond)

-- where memory was refused nothing needs to be known
pub refused_memory : (more : Type 0) (limit : ℕ) (status : Status) → status ≡ statuses.OutOfMemory → IsMadeFault more limit status
refused_memory more limit status is = subst (IsMadeFault more limit) (sym is) tt

-- a count of the runs of a grammar, where both are known under other names
pub counted_as : (g form : GrammarOf) (c d : Count) → g ≡ form → c ≡ d → IsCountOf (IsRun g.rules) c → IsCountOf (IsRun form.rules) d
counted_as g form c d same is k = subst (IsCountOf (IsRun form.rules)) is (subst (λ (h : GrammarOf). IsCountOf (IsRun h.rules) c) same k)
