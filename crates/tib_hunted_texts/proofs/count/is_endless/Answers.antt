use Rattle.std.proofs.Common.{sym, subst}
use Rattle.tib_grammar.specs.GrammarOf.{GrammarOf}
use Rattle.tib_count.specs.Counted.{HaveRuns}
use Rattle.tib_count.specs.declared.count.Count.TheVariants.{Number, Many, Endless}
use Rattle.tib_hunted_texts.proofs.Counting.{counted_as}
use Rattle.tib_hunted_texts.proofs.count.is_endless.Goals as goal

pub runs_of-requires : goal.runs_of-requires
runs_of-requires c = subst (λ (g : GrammarOf). HaveRuns g.rules) (sym c.grammar.ensures.same) c.requires

pub returns-in-Endless : goal.returns-in-Endless
returns-in-Endless c = record {
  yes = λ _. c.endless_trees.ensures.endless c.args.form.now.rules c.grammar.ensures.normal.normal
      (counted_as c.grammar.result.now c.args.form.now c.in_ok-runs_of.field-0 Endless c.grammar.ensures.same c.in-Endless.is c.in_ok-runs_of.ensures);
  no = λ e. absurd (cc);
}

pub returns-in-Number : goal.returns-in-Number
returns-in-Number c = record {
  yes = λ e. absurd (cc);
  no = λ _. c.endless_trees.ensures.few c.args.form.now.rules c.in-Number.field-0
      (counted_as c.grammar.result.now c.args.form.now c.in_ok-runs_of.field-0 (Number c.in-Number.field-0) c.grammar.ensures.same c.in-Number.is c.in_ok-runs_of.ensures).0;
}

pub returns-in-Many : goal.returns-in-Many
returns-in-Many c =
    let many = counted_as c.grammar.result.now c.args.form.now c.in_ok-runs_of.field-0 Many c.grammar.ensures.same c.in-Many.is c.in_ok-runs_of.ensures in
    record { yes = λ e. absurd (cc); no = λ _. c.endless_trees.ensures.few c.args.form.now.rules many.0 many.1 }
