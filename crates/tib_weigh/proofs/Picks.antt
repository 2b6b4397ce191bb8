-- Entries that are picked, and what is tried with them.
use Rattle.std.specs.Prelude.{◌≡◌, ℕ, ◌≤◌, Bool, true, false, cond, List, [], ◌∷◌, ◌++◌, length, Option, Some}
use Rattle.std.proofs.Common.{arith, ap, sym, ◌∙◌, subst, inl, inr}
use Rattle.std.proofs.lemmas.Bool.{ltb-false}
use Rattle.std.proofs.lemmas.List.{append-nil}
use Rattle.std.proofs.lemmas.List.Elements.{filter-append}
use Rattle.tib_lex.specs.Lists.{Has}
use Rattle.tib_lex.proofs.Booleans.{bool_cases}
use Rattle.tib_lex.proofs.Members.{at_has}
use Rattle.tib_weigh.specs.Entries.{cost_in, IsAscending}
use Rattle.tib_weigh.specs.Picks.{is_served, picks}
use Rattle.tib_weigh.specs.Tables.{bucket}
use Rattle.tib_weigh.specs.Worth.{HasTriedAll}
use Rattle.tib_weigh.specs.declared.ready.Ready.{Ready}
use Rattle.tib_weigh.specs.declared.table.Table.{Table}
use Rattle.tib_weigh.specs.declared.vector.Entry.{Entry}
use Rattle.tib_weigh.proofs.Filters.{filtered_has, has_filtered}
use Rattle.tib_weigh.proofs.Tries.{cost_at_entry}

-- one more entry that is picked
pub pick_more : (t : Table) (v picked : List Entry) (e : Entry) → is_served t e ≡ true → picked ≡ picks t v → picked ++ e ∷ [] ≡ picks t (v ++ e ∷ [])
pick_more t v picked e served was =
    ap (λ (l : List Entry). l ++ e ∷ []) was ∙ ap (λ (b : Bool). picks t v ++ cond b (e ∷ []) []) (sym served) ∙ sym (filter-append (is_served t) v (e ∷ []))

-- one more entry for whose state there is nothing
pub pick_none : (t : Table) (v picked : List Entry) (e : Entry) → is_served t e ≡ false → picked ≡ picks t v → picked ≡ picks t (v ++ e ∷ [])
pick_none t v picked e unserved was =
    was ∙ sym (append-nil (picks t v)) ∙ ap (λ (b : Bool). picks t v ++ cond b (e ∷ []) []) (sym unserved) ∙ sym (filter-append (is_served t) v (e ∷ []))

-- what is picked is an entry of the vector
pub picked_has : (t : Table) (v : List Entry) (e : Entry) → Has (picks t v) e → Has v e
picked_has t v e h = (filtered_has (is_served t) v e h).0

-- the cost of an entry is that of its state
pub cost_of_member : (v : List Entry) (e : Entry) → IsAscending v → Has v e → cost_in v e.state ≡ Some e.cost
cost_of_member v e ascends h =
    let at = at_has v e e h in
    subst (λ (x : Entry). cost_in v x.state ≡ Some x.cost) at.2 (cost_at_entry v at.0 e ascends at.1)

-- where nothing is, there is no member
no_member : (rs : List Ready) (r : Ready) → length rs ≤ 0 → Has rs r → ⊥
no_member [] r none h = h
no_member (x ∷ rs) r none h = absurd (omega (arith, none))

-- what was tried with all that are picked was tried with all
pub all_picked : (value : Ready → Option ℕ) (t : Table) (v : List Entry) (new : ℕ → Option ℕ) → HasTriedAll value (picks t v) (bucket t) new → HasTriedAll value v (bucket t) new
all_picked value t v new was = record {
  tried = λ e r h k same. elim (bool_cases (is_served t e)) [
    | inl served ↦ was.tried e r (has_filtered (is_served t) v e h served) k same
    | inr unserved ↦ absurd (no_member (bucket t e.state) r (ltb-false 0 (length (bucket t e.state)) unserved) k)
  ];
  from = was.from;
}
