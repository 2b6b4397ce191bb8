use Rattle.std.specs.Prelude.{◌≡◌, length, refl}
use Rattle.std.proofs.Common.{suc, arith, ap}
use Rattle.tib_lazy_lists.specs.AskingOf.{state_of}
use Rattle.tib_lazy_lists.specs.Asks.{turns_at}
use Rattle.tib_lazy_lists.proofs.Kept.{more_more}
use Rattle.tib_lazy_lists.proofs.Drawn.{asked_of, stage_of, turns_open}
use Rattle.tib_lazy_lists.proofs.asking.Asked.draw.Goals as goal

pub returns-in_default : goal.returns-in_default
returns-in_default g c =
    let none = rw c.in_default.is at c.pop.ensures.none in
    record {
      lists = c.in_ok-add_followers.ensures.followed.held.lists;
      more = more_more c.args.lists.now c.open.new.lists c.add_followers.new.lists c.in_ok-open.ensures.more c.in_ok-add_followers.ensures.followed.more;
      waited = c.add_followers.new.heap.items;
      drawn = λ left. (none, refl);
      fewer = λ left. omega (arith, turns_open (state_of c.args.self.now) left, c.in_ok-open.ensures.count, c.in_ok-add_followers.ensures.followed.count);
      asked = λ k u can.
          asked_of g.S.Semiring.product c.args.lists.now c.requires.held.lists c.requires.started c.args.rules.now (state_of c.args.self.now) c.requires.last c.open.new.lists (state_of c.open.new.self) c.in_ok-open.ensures
          c.open.new.self.last refl c.add_followers.new.lists c.add_followers.new.heap.items c.in_ok-add_followers.ensures k u can;
    }

pub returns : goal.returns
returns g c =
    let takes = rw c.in-Some.is at c.pop.ensures.takes in
    record {
      lists = c.in_ok-add_followers.ensures.followed.held.lists;
      more = more_more c.args.lists.now c.open.new.lists c.add_followers.new.lists c.in_ok-open.ensures.more c.in_ok-add_followers.ensures.followed.more;
      waited = c.add_followers.new.heap.items;
      drawn = λ left. (stage_of g.S.Semiring.product c.args.lists.now c.args.rules.now (state_of c.args.self.now) c.open.new.lists (state_of c.open.new.self) c.in_ok-open.ensures left, refl, c.pop.ensures.heap, takes, rw c.in-Some.is at c.pop.ensures.long);
      fewer = λ left.
          let stage = stage_of g.S.Semiring.product c.args.lists.now c.args.rules.now (state_of c.args.self.now) c.open.new.lists (state_of c.open.new.self) c.in_ok-open.ensures left in
          let is_open : turns_at c.open.new.self.stage (length c.pop.new.heap.items) ≡ suc (length c.pop.new.heap.items) = ap (λ g. turns_at g (length c.pop.new.heap.items)) stage in
          omega (arith, turns_open (state_of c.args.self.now) left, c.in_ok-open.ensures.count, c.in_ok-add_followers.ensures.followed.count, rw c.in-Some.is at c.pop.ensures.long, is_open);
      asked = λ k u can.
          asked_of g.S.Semiring.product c.args.lists.now c.requires.held.lists c.requires.started c.args.rules.now (state_of c.args.self.now) c.requires.last c.open.new.lists (state_of c.open.new.self) c.in_ok-open.ensures
          c.open.new.self.last refl c.add_followers.new.lists c.add_followers.new.heap.items c.in_ok-add_followers.ensures k u can;
    }
