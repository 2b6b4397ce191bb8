use Rattle.std.proofs.Common.{sym, ap, ◌∙◌, length, List, ℕ}
use Rattle.tib_tree.proofs.Steps.{accepted, refused}
use Rattle.tib_grammar_file.specs.Rule.{has_dot}
use Rattle.tib_grammar_file.proofs.PartsRead.{no_head, dotted, found_with, all_rest, all_front}
use Rattle.tib_grammar_file.proofs.rule.read_parts.Goals as goal

pub returns-in_default-clause-parts : goal.returns-in_default-clause-parts
returns-in_default-clause-parts c = no_head _ (c.in_default.ensures.head c.args.line.now)

pub returns-then-has_dot-clause-parts : goal.returns-then-has_dot-clause-parts
returns-then-has_dot-clause-parts c =
    dotted _ _ _ (c.in-Some.ensures.head c.args.line.now)
    (sym (ap has_dot (c.deref.ensures.value ∙ c.in_ok-read_text.ensures)) ∙ sym c.if-has_dot.ensures)

pub returns-then-not-branch-clause-parts : goal.returns-then-not-branch-clause-parts
returns-then-not-branch-clause-parts c =
    let line : List ℕ = c.args.line.now in
    found_with line c.args.tokens.now c.after_head-rest.result.now c.tree_tokens.result.now _ _ c.weight_of-weight.result _
    (c.in-Some.ensures.head line) (sym c.if-has_dot.ensures) (c.deref.ensures.value ∙ c.in_ok-read_text.ensures) c.after_head-rest.ensures
    (c.weight_of-weight.ensures.weight line) c.tree_tokens.ensures (refused c.in_ok-read.field-0 _ _ c.if-not-branch.true (c.in_ok-read.ensures.nodes line))

pub returns-clause-parts : goal.returns-clause-parts
returns-clause-parts c =
    let line : List ℕ = c.args.line.now in
    found_with line c.args.tokens.now c.after_head-rest.result.now c.tree_tokens.result.now _ _ c.weight_of-weight.result _
    (c.in-Some.ensures.head line) (sym c.if-has_dot.ensures) (c.deref.ensures.value ∙ c.in_ok-read_text.ensures) c.after_head-rest.ensures
    (c.weight_of-weight.ensures.weight line) c.tree_tokens.ensures (accepted c.in_ok-read.field-0 _ _ c.if-not-branch.false (c.in_ok-read.ensures.nodes line))

pub returns-clause-lies : goal.returns-clause-lies
returns-clause-lies c =
    let long : ℕ = length c.args.line.now in
    let rest = all_rest long c.args.tokens.now c.after_head-rest.result.now c.after_head-rest.ensures c.requires.lie in
    record {
      left = c.in-Some.ensures.lies long c.requires.lie;
      weight = c.weight_of-weight.ensures.lies long rest;
      all = c.in_ok-read.ensures.places c.if-not-branch.false long (all_front long c.weight_of-weight.result c.after_head-rest.result.now c.tree_tokens.result.now c.tree_tokens.ensures rest);
    }
