-- Orders and circles of edges are those of the rules.
use Rattle.std.specs.Prelude.{◌≡◌, ℕ, List, length, Option, None, Some, MatchOption}
use Rattle.std.proofs.Common.{subst}
use Rattle.tib_grammar.specs.declared.Rule.{Rule}
use Rattle.tib_count.specs.Counts.{IsEndless}
use Rattle.tib_count.specs.Counted.{IsRun, HaveRuns}
use Rattle.tib_count.specs.Edges.{Leads, IsEdge, AreEdgesAmong}
use Rattle.tib_count.specs.Order.{IsOrder, IsCircle}
use Rattle.tib_count.proofs.EdgesOf.{edge_leads, leads_edge}
use Rattle.tib_count.proofs.Endlessness.{endless}

pub order_of_rules : (rules : List (Rule ℕ)) (froms tos : List ℕ) (count : ℕ) (order : List ℕ) → AreEdgesAmong rules (length rules) froms tos → IsOrder (IsEdge froms tos) count order → IsOrder (Leads rules) count order
order_of_rules rules froms tos count order e is = record {
  start = is.start;
  below = is.below;
  after = λ k p h l. is.after k p h (leads_edge rules froms tos _ p e l);
}

pub circle_of_rules : (rules : List (Rule ℕ)) (froms tos : List ℕ) → AreEdgesAmong rules (length rules) froms tos → IsCircle (IsEdge froms tos) → IsCircle (Leads rules)
circle_of_rules rules froms tos e circle = record {
  states = circle.states;
  start = circle.start;
  leads = λ q h. let next = circle.leads q h in (next.0, edge_leads rules froms tos q next.0 e next.1, next.2);
}

-- what is found where there is no order, and where there is one
pub none_found : {A : Type 0} (found : Option A) (C : Type 0) (P : A → Type 0) → found ≡ None → MatchOption found C P → C
none_found found C P e m = subst (λ o. MatchOption o C P) e m

pub some_found : {A : Type 0} (found : Option A) (C : Type 0) (P : A → Type 0) (x : A) → found ≡ Some x → MatchOption found C P → P x
some_found found C P x e m = subst (λ o. MatchOption o C P) e m

pub endless_rules : (rules : List (Rule ℕ)) (froms tos : List ℕ) → AreEdgesAmong rules (length rules) froms tos → HaveRuns rules → IsCircle (IsEdge froms tos) → IsEndless (IsRun rules)
endless_rules rules froms tos e have circle = endless rules (circle_of_rules rules froms tos e circle) have
