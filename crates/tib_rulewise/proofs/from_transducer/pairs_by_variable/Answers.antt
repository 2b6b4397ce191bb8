use Rattle.std.proofs.Common.{◌≡◌, ℕ, List, Vec, Global, suc, arith, ◌∙◌, length, sym, ap, subst, set}
use Rattle.std.proofs.lemmas.List.{length-set, take_all}
use Rattle.tib_grammar.specs.Items.{holes_in}
use Rattle.tib_rulewise.specs.Paired.{AreListed}
use Rattle.tib_rulewise.proofs.Items.{holes_past, label_past}
use Rattle.tib_rulewise.proofs.Listing.{variable_within, listed_more}
use Rattle.tib_rulewise.proofs.from_transducer.pairs_by_variable.Goals.{in-Hole, in_default}
use Rattle.tib_rulewise.proofs.from_transducer.pairs_by_variable.Goals as goal

pub index_mut-requires : goal.index_mut-requires
index_mut-requires c =
    let within = variable_within c.args.items.now c.loop-item.item-index c.args.count c.loop-item.place c.in-Hole.pair c.loop-item-test.true c.in-Hole.is c.loop-item.invariant.counted c.requires.known in
    omega (arith, within, c.loop-item.invariant.long, c.loop-item.listed.ok.0)

pub loop-item-preserved : goal.loop-item-preserved
loop-item-preserved c =
    let i = c.loop-item.invariant in
    elim c.match-item.branch [
      | in-Hole w ↦
          let same : c.match-item.listed.items ≡ set c.loop-item.listed.items w.in-Hole.pair.variable (w.in-Hole.pair.state, c.loop-item.place) = ap (λ (v : Vec (ℕ × ℕ) Global). v.items) w.listed-is in
          let next : suc c.loop-item.place ≡ c.match-item.place = omega (arith, w.place-is) in
          let past = holes_past c.args.items.now c.loop-item.item-index w.in-Hole.pair c.loop-item-test.true w.in-Hole.is in
          record {
            low = omega (arith, i.low, w.place-is);
            long = ap length same ∙ length-set c.loop-item.listed.items w.in-Hole.pair.variable (w.in-Hole.pair.state, c.loop-item.place) ∙ i.long;
            counted = omega (arith, i.counted, past, w.place-is);
            listed = subst (λ (xs : List (ℕ × ℕ)). AreListed (holes_in c.args.items.now) c.match-item.place xs) (sym same)
                (subst (λ (n : ℕ). AreListed (holes_in c.args.items.now) n (set c.loop-item.listed.items w.in-Hole.pair.variable (w.in-Hole.pair.state, c.loop-item.place))) next
                (listed_more c.args.items.now c.loop-item.item-index c.args.count c.loop-item.place w.in-Hole.pair c.loop-item-test.true w.in-Hole.is i.counted c.requires.known c.requires.once c.loop-item.listed.items i.long i.listed));
          }
      | in_default w ↦
          let same : c.match-item.listed.items ≡ c.loop-item.listed.items = ap (λ (v : Vec (ℕ × ℕ) Global). v.items) w.listed-is in
          let past = label_past c.args.items.now c.loop-item.item-index w.in_default.field-0 w.in_default.field-1 c.loop-item-test.true w.in_default.is in
          record {
            low = omega (arith, i.low, w.place-is);
            long = ap length same ∙ i.long;
            counted = omega (arith, i.counted, past, w.place-is);
            listed = subst (λ (xs : List (ℕ × ℕ)). AreListed (holes_in c.args.items.now) c.match-item.place xs) (sym same)
                (subst (λ (n : ℕ). AreListed (holes_in c.args.items.now) n c.loop-item.listed.items) (sym w.place-is) i.listed);
          }
    ]

pub returns-clause-listed : goal.returns-clause-listed
returns-clause-listed c =
    subst (λ (n : ℕ). AreListed (holes_in c.args.items.now) n c.loop-item.listed.items)
    (c.loop-item.invariant.counted ∙ ap (λ xs. length (holes_in xs)) (take_all c.loop-item.item-index c.args.items.now c.loop-item-test.false)) c.loop-item.invariant.listed
