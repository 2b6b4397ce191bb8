use Rattle.std.proofs.Common.{◌≡◌, Err, ap, sym, ◌∙◌, subst, length, get_or}
use Rattle.std.proofs.lemmas.List.{get_or_read}
use Rattle.std.specs.declared.result.Result.{Result}
use Rattle.tib_lex.proofs.Members.{each_has, has_at}
use Rattle.tib_expand.specs.EdgeLists.{AreListed, Exceeds, IsEnd}
use Rattle.tib_expand.specs.declared.place.ExpandError.{ExpandError}
use Rattle.tib_lex.specs.Lists.{Has}
use Rattle.std.specs.Prelude.{◌↔◌}
use Rattle.tib_grammar.specs.Sides.{holes_of}
use Rattle.tib_image.specs.Restrictions.{restricted_labels}
use Rattle.tib_image.specs.Parsing.{first_key, IsParseEdge}
use Rattle.tib_image.specs.ParseOperation.{IsKey, edge_parts}
use Rattle.tib_key_edges.specs.SideRules.{places_of, read_places}
use Rattle.tib_image.specs.ParseListing.{Listing}
use Rattle.tib_image.proofs.Reading.{whole_listed, whole_ends, overruns_exceeds}
use Rattle.tib_image.proofs.parse.expand.ParseExpand.expand.Goals as goal

fault_is : (f : ExpandError) → f ≡ ExpandError.More → ◌≡◌ {A = Result Listing ExpandError} (Err f) (Err ExpandError.More)
fault_is f e = ap Err e

pub list_edges-requires-clause-from : goal.list_edges-requires-clause-from
list_edges-requires-clause-from g c =
    let order = c.args.order.now in
    let Good = IsKey (length c.args.self.now.transducer.now.names) (length c.args.self.now.string.now) (length (restricted_labels c.args.self.now.transducer.now.rules)) in
    let at = sym (get_or_read order c.args.n c.index-order-n.result c.requires.position c.index-order-n.is (0, 0, 0, 0)) in
    (subst Good at (each_has Good order (get_or order c.args.n (0, 0, 0, 0)) c.requires.admitted (has_at order c.args.n (0, 0, 0, 0) c.requires.position))).from

pub list_edges-requires-clause-to : goal.list_edges-requires-clause-to
list_edges-requires-clause-to g c =
    let order = c.args.order.now in
    let Good = IsKey (length c.args.self.now.transducer.now.names) (length c.args.self.now.string.now) (length (restricted_labels c.args.self.now.transducer.now.rules)) in
    let at = sym (get_or_read order c.args.n c.index-order-n.result c.requires.position c.index-order-n.is (0, 0, 0, 0)) in
    (subst Good at (each_has Good order (get_or order c.args.n (0, 0, 0, 0)) c.requires.admitted (has_at order c.args.n (0, 0, 0, 0) c.requires.position))).to

pub returns-in-Ok-clause-listed : goal.returns-in-Ok-clause-listed
returns-in-Ok-clause-listed g c =
    let order = c.args.order.now in
    let moves = c.args.self.now.transducer.now.rules in
    let string = c.args.self.now.string.now in
    let at = sym (get_or_read order c.args.n c.index-order-n.result c.requires.position c.index-order-n.is (0, 0, 0, 0)) in
    let first = get_or_read order c.args.n c.index-order-n.result c.requires.position c.index-order-n.is (first_key (length string)) in
    subst (λ k. AreListed (IsParseEdge moves string k) edge_parts places_of read_places order c.into_edges.result.ends.items c.into_edges.result.rules.items c.into_edges.result.parts) first
    (whole_listed moves string c.index-order-n.result order c.in-Ok.listing c.args.n c.into_edges.result.ends.items c.into_edges.result.rules.items c.into_edges.result.parts c.in-Ok.ensures.position c.requires.position at c.into_edges.ensures.ends c.into_edges.ensures.rules c.into_edges.ensures.parts c.in-Ok.ensures.within c.in-Ok.ensures.listed)

pub returns-in-Ok-clause-ends : goal.returns-in-Ok-clause-ends
returns-in-Ok-clause-ends g c = λ k.
    let order = c.args.order.now in
    let moves = c.args.self.now.transducer.now.rules in
    let string = c.args.self.now.string.now in
    let first = get_or_read order c.args.n c.index-order-n.result c.requires.position c.index-order-n.is (first_key (length string)) in
    subst (λ l. Has c.into_edges.result.ends.items k ↔ IsEnd (IsParseEdge moves string l) (λ e. holes_of e.right) k) first
    (whole_ends moves string c.index-order-n.result c.in-Ok.listing c.into_edges.result.ends.items c.into_edges.ensures.ends c.in-Ok.ensures.listed k)

pub returns-in-Err-clause-more : goal.returns-in-Err-clause-more
returns-in-Err-clause-more g c = λ e.
    let order = c.args.order.now in
    let moves = c.args.self.now.transducer.now.rules in
    let string = c.args.self.now.string.now in
    let first = get_or_read order c.args.n c.index-order-n.result c.requires.position c.index-order-n.is (first_key (length string)) in
    subst (λ l. Exceeds (IsParseEdge moves string l) edge_parts c.args.budget) first
    (overruns_exceeds moves string c.index-order-n.result c.args.budget (c.list_edges.ensures.more (c.in-Err.is ∙ fault_is c.in-Err.fault e)))
