use Rattle.std.proofs.Common.{◌≡◌, ℕ, List, arith, get_or, ap, sym, ◌∙◌, subst}
use Rattle.std.proofs.lemmas.List.{get_or_read}
use Rattle.tib_lex.specs.Lists.{Has}
use Rattle.tib_grammar.proofs.Members.{at_has}
use Rattle.std.specs.Global.{Vec}
use Rattle.tib_determinize.specs.declared.occurrences.Occurrence.{Occurrence}
use Rattle.tib_determinize.specs.Holders.{held}
use Rattle.tib_determinize.proofs.Occurring.{next_entry}
use Rattle.tib_determinize.proofs.occurrences.Occurrences.standing.Goals as goal

pub loop-i-preserved : goal.loop-i-preserved
loop-i-preserved c =
    let entries = c.entries-entries.result.now in
    let at = get_or_read entries c.loop-i.i c.index-entries-i.result c.loop-i-test.true c.index-entries-i.is (0, 0) in
    let q = (get_or entries c.loop-i.i c.index-entries-i.result).0 in
    next_entry entries c.args.self.now.lists.items c.loop-i.i q c.list_of.result.now c.loop-i.found.items c.add_all.new.found.items (ap (λ (x : ℕ × ℕ). x.0) (sym c.index-entries-i.is ∙ at))
    (c.list_of.ensures ∙ ap (λ (xs : List (Vec Occurrence)). held xs q) c.deref.ensures.value)
    c.in_ok-add_all.ensures.more c.in_ok-add_all.ensures.own c.loop-i.invariant

pub returns : goal.returns
returns c =
    let entries = c.entries-entries.result.now in
    let same : entries ≡ c.args.vector.now = c.entries-entries.ensures in
    let long = c.loop-i-test.false in
    λ q r o h held_there.
    let a = at_has entries (q, r) (0, 0) (subst (λ (xs : List (ℕ × ℕ)). Has xs (q, r)) (sym same) h) in
    let low = a.1 in
    c.loop-i.invariant a.0 o (omega (arith, low, long)) (subst (λ (x : ℕ × ℕ). Has (held c.args.self.now.lists.items x.0) o) (sym a.2) held_there)
