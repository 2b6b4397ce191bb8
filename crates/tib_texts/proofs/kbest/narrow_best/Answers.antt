use Rattle.std.proofs.Common.{arith, ◌∙◌, ◌+◌, ◌<◌, ◌≤◌, length, subst}
use Rattle.std.specs.Prelude.{None, Option, ℕ}
use Rattle.std.proofs.lemmas.List.{get_or_default}
use Rattle.std.proofs.lemmas.Option.{IfSome_then}
use Rattle.tib_lex.proofs.Lists.{Each-from}
use Rattle.tib_grammar.specs.GrammarOf.{GrammarOf}
use Rattle.tib_inside.specs.Inside.{IsInside}
use Rattle.tib_ranked_trees.specs.Best.{Costed}
use Rattle.tib_ranked_trees.specs.Pass.{no_entry}
use Rattle.tib_texts.proofs.NarrowBest.{narrow}
use Rattle.tib_operations.proofs.OfPrune.{kept_printable}
use Rattle.tib_texts.proofs.kbest.narrow_best.Goals as goal

pub kept_best-requires-clause-printable : goal.kept_best-requires-clause-printable
kept_best-requires-clause-printable g c =
    kept_printable g.S.Semiring.SCALE c.args.labels.now g.S.Semiring.product c.in_ok-pruned.pruned.1 c.args.form c.in_ok-pruned.pruned.0 c.in_ok-pruned.ensures.pruned c.requires.printable

pub returns : goal.returns
returns g c =
    let some : 0 < length c.args.insides.now = omega (arith, subst (λ (n : GrammarOf). 0 < length n.names) c.grammar.ensures.same c.is_sound.ensures.start, c.requires.length) in
    record {
      best = IfSome_then c.full_list.result c.full_list.ensures (λ xs p.
          let same = rw p.0 at c.in_ok-found.ensures.best in
          narrow g.S.Semiring.product c.args.form.rules c.in_ok-pruned.pruned.0.rules c.in-Some.best c.in_ok-pruned.pruned.1
          (subst (λ (v : Option ℕ). IsInside g.S.Semiring.product c.args.form.rules 0 v) (get_or_default c.args.insides.now 0 None _ some ∙ c.in-Some.is) (c.requires.insides 0)) c.in_ok-pruned.ensures.cheap
          c.in_ok-pruned.ensures.costs c.args.labels.now c.args.k xs same p.1
          (Each-from (λ (x : Costed). x.1 ≤ c.in-Some.best + c.in_ok-pruned.pruned.1) xs no_entry (λ i h. omega (arith, p.2 i h, c.get.ensures.same, c.get-2.ensures.same))));
    }
