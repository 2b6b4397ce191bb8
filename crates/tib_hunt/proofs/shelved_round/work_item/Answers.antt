use Rattle.std.proofs.Common.{◌∙◌, None, refl, sym, ap, subst, arith}
use Rattle.tib_hunt.specs.RoundModel.{Core, with_filed}
use Rattle.tib_hunt.specs.Shelved.{NameOn}
use Rattle.tib_expand.proofs.Reaching.{hunt_of}
use Rattle.tib_hunt.proofs.Underway.{told_shelves, ends_drawn, file_drawn, file_once, file_ends}
use Rattle.tib_hunt.proofs.shelved_round.work_item.Goals as goal

pub shelve_ends-requires-clause-ends : goal.shelve_ends-requires-clause-ends
shelve_ends-requires-clause-ends g c = ends_drawn g.E.Expand.hunted c.args.of.now.problem.now c.args.of.now.order.now c.args.of.now.first g.E.Key.PartialEq.eq g.met.E.Key.TableKey.same g.met.E.Key.Eq.laws.refl g.E.Key.TableKey.shelf_of (λ x. g.met.E.Key.TableKey.low x) c.args.round.now.core c.requires.kept c.args.item c.requires.drawn c.in-Ok.edges.ends.items c.in-Ok.ensures.ends c.args.round.now.about c.requires.about

pub file_item-requires-clause-drawn : goal.file_item-requires-clause-drawn
file_item-requires-clause-drawn g c = file_drawn g.E.Expand.hunted c.args.of.now.problem.now c.args.of.now.order.now c.args.of.now.first g.E.Key.PartialEq.eq g.met.E.Key.TableKey.same g.met.E.Key.Eq.laws.refl g.E.Key.TableKey.shelf_of (λ x. g.met.E.Key.TableKey.low x) c.args.round.now.core c.requires.kept c.args.item c.requires.drawn c.in-Ok.edges.ends.items c.in-Ok.ensures.ends c.shelve_ends.new.round.about (c.in-Ok-shelve_ends.ensures.about ∙ c.requires.about) c.shelve_ends.new.round.core c.in-Ok-shelve_ends.ensures.core

pub file_item-requires-clause-once : goal.file_item-requires-clause-once
file_item-requires-clause-once g c = file_once g.E.Expand.hunted c.args.of.now.problem.now c.args.of.now.order.now c.args.of.now.first g.E.Key.PartialEq.eq g.met.E.Key.TableKey.same g.met.E.Key.Eq.laws.refl g.E.Key.TableKey.shelf_of (λ x. g.met.E.Key.TableKey.low x) c.args.round.now.core c.requires.kept c.args.item c.requires.drawn c.in-Ok.edges.ends.items c.in-Ok.ensures.ends c.shelve_ends.new.round.about (c.in-Ok-shelve_ends.ensures.about ∙ c.requires.about) c.shelve_ends.new.round.core c.in-Ok-shelve_ends.ensures.core c.requires.once

pub file_item-requires-clause-ends : goal.file_item-requires-clause-ends
file_item-requires-clause-ends g c = file_ends g.E.Expand.hunted c.args.of.now.problem.now c.args.of.now.order.now c.args.of.now.first g.E.Key.PartialEq.eq g.met.E.Key.TableKey.same g.met.E.Key.Eq.laws.refl g.E.Key.TableKey.shelf_of (λ x. g.met.E.Key.TableKey.low x) c.args.round.now.core c.requires.kept c.args.item c.requires.drawn c.in-Ok.edges.ends.items c.in-Ok.ensures.ends c.shelve_ends.new.round.about (c.in-Ok-shelve_ends.ensures.about ∙ c.requires.about) c.shelve_ends.new.round.core c.in-Ok-shelve_ends.ensures.core

pub returns-clause-worked : goal.returns-clause-worked
returns-clause-worked g c = record {
  ends = c.in-Ok.edges.ends.items;
  row = record { item = c.args.item; rules = record { rules = c.in-Ok.edges.rules; at = None }; ends = c.in-Ok-shelve_ends.ends; parts = c.in-Ok.edges.parts };
  more = c.in-Ok.edges.parts;
  listed = c.in-Ok.ensures.listed;
  are_ends = c.in-Ok.ensures.ends;
  named = subst (λ (s : Core g.row.E-Key.Denot). NameOn s.shelves c.in-Ok.edges.ends.items c.in-Ok-shelve_ends.ends.items) (sym c.in-Ok-file_item.ensures.core) c.in-Ok-shelve_ends.ensures.named;
  all_numbered = refl;
  core_is = c.in-Ok-file_item.ensures.core ∙ ap (λ s. with_filed s c.args.item) c.in-Ok-shelve_ends.ensures.core;
  rows_are = c.in-Ok-push.ensures.items;
  counted = refl;
  within = (let w = c.in-Ok.ensures.within in let a = c.requires.within in omega arith);
}

pub returns-in-Err-clause-more : goal.returns-in-Err-clause-more
returns-in-Err-clause-more g c = told_shelves (hunt_of (g.met.E.Expand.lawful c.args.of.now.problem.now) g.met.E.Key.Ord.total g.met.E.Key.TableKey.same g.met.E.Key.Eq.laws.refl) g.E.Key.TableKey.shelf_of (λ x. g.met.E.Key.TableKey.low x)
    c.args.of.now.order.now c.args.item c.args.round.now.core c.args.work.now.parts c.args.terms.now.limit c.in-Ok.edges.ends.items c.in-Ok.ensures.ends c.in-Err.error c.in-Err.ensures.more
