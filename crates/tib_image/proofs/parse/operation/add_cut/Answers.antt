use Rattle.std.proofs.Common.{◌<◌, ap, sym, ◌∙◌, subst, length, ℕ, List}
use Rattle.tib_lex.specs.Lists.{Each}
use Rattle.tib_grammar.specs.Sides.{holes_of}
use Rattle.tib_strings.specs.Rules.{pairs_of}
use Rattle.tib_strings.specs.declared.Word.{Word as Token}
use Rattle.tib_strings.specs.Cuts.{spans}
use Rattle.tib_image.specs.Parsing.{parse_key}
use Rattle.tib_key_edges.specs.Listing.{IsAdded}
use Rattle.tib_image.proofs.ParseListed.{adds_edge, overruns_edge, both_ok}
use Rattle.tib_image.proofs.Spanned.{keys_same, spans_at}
use Rattle.tib_image.proofs.parse.operation.add_cut.Goals as goal

pub put_spans-requires-clause-as_many : goal.put_spans-requires-clause-as_many
put_spans-requires-clause-as_many c = c.requires.as_many ∙ ap length (sym c.tokens.ensures)

pub put_spans-requires-clause-known : goal.put_spans-requires-clause-known
put_spans-requires-clause-known c = subst (λ (ws : List (Token ℕ)). Each (λ x. x.variable < length c.args.spans.now.items) (pairs_of ws)) (sym c.tokens.ensures) c.requires.room.right

pub add_edge-requires-clause-known : goal.add_edge-requires-clause-known
add_edge-requires-clause-known c =
    let long = sym (ap length c.deref.ensures.value ∙ c.put_spans.ensures.long) in
    subst (λ n. Each (λ x. x.number < n) (holes_of c.args.rule.now.left)) long c.requires.room.left

pub returns-clause-added : goal.returns-clause-added
returns-clause-added c =
    let r = c.args.rule.now in
    let labels = c.args.restrictions.now in
    let key = c.args.key in
    let ss = spans r.right key.1 c.args.places.now in
    let at = spans_at r.right key.1 c.args.places.now c.tokens.result.now c.from.result c.put_spans.new.spans.items c.deref.result.now c.tokens.ensures c.from.ensures c.deref.ensures.value c.put_spans.ensures.at in
    let keys = keys_same labels c.deref.result.now (pairs_of r.right) ss at (holes_of r.left) in
    both_ok c.add_edge.result _ _ _
    (λ a alike. adds_edge key (parse_key labels (pairs_of r.right) ss) r.left r.cost c.add_edge.ensures.leaves c.args.listing.now c.add_edge.new.listing (subst (λ ks. IsAdded r.left ks r.cost c.args.listing.now c.add_edge.new.listing) keys a) alike)
    c.add_edge.ensures.added c.add_edge.ensures.alike

pub returns-clause-more : goal.returns-clause-more
returns-clause-more c e =
    let r = c.args.rule.now in
    overruns_edge c.args.key (parse_key c.args.restrictions.now (pairs_of r.right) (spans r.right c.args.key.1 c.args.places.now)) r.left r.cost c.args.listing.now (c.add_edge.ensures.more e)
