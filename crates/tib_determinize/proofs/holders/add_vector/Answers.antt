use Rattle.std.proofs.Common.{◌≡◌, ℕ, List, arith, ap, sym, ◌∙◌, subst, get_or}
use Rattle.std.proofs.lemmas.List.{get_or_default}
use Rattle.tib_lex.specs.Lists.{Has}
use Rattle.tib_grammar.proofs.Members.{at_has}
use Rattle.tib_determinize.specs.Holders.{held, is_marked}
use Rattle.tib_determinize.proofs.Holding.{next_own}
use Rattle.tib_determinize.proofs.holders.add_vector.Goals as goal

pub loop-i-preserved : goal.loop-i-preserved
loop-i-preserved c =
    let now = c.in_ok-add_if_marked.ensures in
    let inv = c.loop-i.invariant in
    let entries = c.entries-entries.result.now in
    let i = c.loop-i.i in
    let entry = get_or entries i c.index-entries-i.result in
    let is = ap (λ (x : ℕ × ℕ). x.0) (get_or_default entries i c.index-entries-i.result (0, 0) c.loop-i-test.true) in
    record {
      more = λ q p h. now.more q p (inv.more q p h);
      own = next_own c.args.marks.now entries i c.args.position entry.0 c.loop-i.lists.items c.add_if_marked.new.lists.items is now.more now.own inv.own;
      ascend = λ up. now.ascend (inv.ascend up);
    }

pub returns : goal.returns
returns c =
    let entries = c.entries-entries.result.now in
    let same : entries ≡ c.args.vector.now = c.entries-entries.ensures in
    let long = c.loop-i-test.false in
    record {
      more = c.loop-i.invariant.more;
      own = λ q r marked h.
          let a = at_has entries (q, r) (0, 0) (subst (λ (xs : List (ℕ × ℕ)). Has xs (q, r)) (sym same) h) in
          subst (λ (x : ℕ × ℕ). Has (held c.loop-i.lists.items x.0) c.args.position) a.2
          (c.loop-i.invariant.own a.0 (let low = a.1 in omega (arith, low, long)) (ap (λ (x : ℕ × ℕ). is_marked c.args.marks.now x.0) a.2 ∙ marked));
      ascend = c.loop-i.invariant.ascend;
    }
