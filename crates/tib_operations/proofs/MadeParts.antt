-- What is made is within a limit or has more parts than it: not both, and that neither holds cannot
-- be.
use Rattle.tib_cost.specs.declared.Scale.{Scale}
use Rattle.std.proofs.Common.{◌≡◌, ℕ, ◌<◌, ◌≤◌, List, subst, arith, inl, inr}
use Rattle.tib_grammar.specs.GrammarOf.{GrammarOf}
use Rattle.tib_normal.specs.NormalForm.{normal_parts}
use Rattle.tib_expand.specs.Reached.{parts_of}
use Rattle.tib_expand.specs.Limits.{IfTooMany}
use Rattle.tib_expand.specs.declared.error.HuntError.TheVariants.{TooMany}
use Rattle.tib_expand.specs.declared.error.HuntError.{HuntError}
use Rattle.tib_canon.specs.Constructions.{Construction, edges_over, IsCanonicalOf}
use Rattle.tib_operations.specs.Made.{Made, nothing, and_then, normal_form, reached_set, HasReachedFrom, IsMadeFault}
use Rattle.tib_operations.specs.declared.status.Status.{Status}
use Rattle.tib_operations.specs.declared.status.Status.TheVariants as statuses

pub record IsEither (made : Made) : Type 0 where
  pub apart : made.within → made.more → ⊥
  pub either : (made.within → ⊥) → (made.more → ⊥) → ⊥

not_within : (m n : ℕ) → (m ≤ n → ⊥) → n < m
not_within m n h = grind arith

pub nothing_either : IsEither nothing
nothing_either = record { apart = λ w m. m; either = λ w m. w tt }

pub both_either : (one two : Made) → IsEither one → IsEither two → IsEither (and_then one two)
both_either one two a b = record {
  apart = λ w m. elim m [ inl x ↦ a.apart w.0 x | inr y ↦ b.apart w.1 y ];
  either = λ w m. a.either (λ x. b.either (λ y. w (x, y)) (λ y. m (inr y))) (λ x. m (inl x));
}

pub form_either : (product : ℕ → ℕ → ℕ) (limit : ℕ) (g : GrammarOf) → IsEither (normal_form product limit g)
form_either product limit g = record {
  apart = λ w m. omega (arith, w.within, m w.states_in_all w.normal_rules w.form);
  either = λ w m. m (λ more new form.
      not_within (normal_parts more new) limit (λ within. w (record { states_in_all = more; normal_rules = new; form = form; within = within })));
}

pub reached_either : {W K O : Type 0} (limit : ℕ) (IsMade : W → Type 0) (constructing : W → Construction K O) → IsEither (reached_set limit IsMade constructing)
reached_either limit IsMade constructing = record {
  apart = λ w m. omega (arith, w.set.within, m w.from w.is_made w.set.order w.set.edges w.set.reached);
  either = λ w m. m (λ from is_made order edges reached.
      not_within (parts_of (constructing from).problem order edges) limit (λ within.
      w (record { from = from; is_made = is_made; set = record { order = order; edges = edges; reached = reached; within = within } })));
}

-- the fault that something is too much, or that memory was refused

module _ (P : Type 0) (limit : ℕ) where
  pub made_weaker : (Q : Type 0) → (P → Q) → (s : Status) → IsMadeFault P limit s → IsMadeFault Q limit s
  made_weaker Q f statuses.Done h = h
  made_weaker Q f statuses.Usage h = h
  made_weaker Q f statuses.TreeTooLarge h = h
  made_weaker Q f (statuses.BadInput n fault) h = h
  made_weaker Q f (statuses.Class n rule fault) h = h
  made_weaker Q f (statuses.TooMany n) h = (h.0, f h.1)
  made_weaker Q f (statuses.ReadFault n) h = h
  made_weaker Q f statuses.WriteFault h = h
  made_weaker Q f (statuses.TooLong n) h = h
  made_weaker Q f statuses.OutOfMemory h = h

-- what a hunt that found too much says
pub told_much : (limit n : ℕ) (P : Type 0) (error : HuntError) → error ≡ TooMany n → IfTooMany limit P error → P
told_much limit n P error is h = (subst (IfTooMany limit P) is h).1

-- the reached set of a canonical form is within the limit
pub canonical_within :
    {W K O : Type 0} (product : ℕ → ℕ → ℕ) (scale : Scale) (labels : List (List ℕ)) (limit : ℕ) (IsMade : W → Type 0) (constructing : W → Construction K O) (h : GrammarOf) (from : W) → IsMade from →
    IsCanonicalOf product scale labels limit (constructing from) h → HasReachedFrom limit IsMade constructing
canonical_within product scale labels limit IsMade constructing h from is_made c = record {
  from = from;
  is_made = is_made;
  set = record { order = c.order; edges = edges_over (constructing from).spare c.order c.rules; reached = c.reached; within = c.within };
}
