use Rattle.std.proofs.Common.{refl, arith, ap, sym, ◌∙◌, length, ◌≡◌}
use Rattle.std.proofs.lemmas.List.{length-map}
use Rattle.tib_ranked_trees.specs.ListsOf.{ListsOf, items_of}
use Rattle.tib_ranked_trees.proofs.Made.{place_put}
use Rattle.tib_ranked_trees.proofs.lists.Lists.place.Goals as goal

pub returns : goal.returns
returns c =
    let long : length c.self.inside.lists.items ≡ length c.args.self.now.lists = sym (length-map c.self.inside.lists.items items_of) ∙ ap (λ (x : ListsOf). length x.lists) c.self.view_is in
    place_put _ c.args.self.now c.self.view_is c.self.inside.lists.items refl c.args.state (omega (arith, long, c.requires)) c.index_mut.result.now c.push.new.self c.index_mut.result.now
    c.args.entry c.index_mut.ensures.value c.in_ok-push.ensures.items
