use Rattle.std.proofs.Common.{◌<◌, length, arith, refl, append-nil, ap, sym, ◌∙◌, subst, ◌++◌, ◌∷◌, []}
use Rattle.tib_grammar.specs.declared.Item.TheVariants.{Label, Hole}
use Rattle.tib_grammar.specs.Items.{pairs_of}
use Rattle.tib_key_edges.specs.Pieces.{results}
use Rattle.tib_compose.specs.PieceViews.{piece_of, kids_there}
use Rattle.tib_compose.specs.Pending.{IsNodeBelow}
use Rattle.tib_compose.proofs.Left.{beyond}
use Rattle.tib_compose.proofs.Taking.{pair_taken, label_taken, put_taken}
use Rattle.tib_compose.proofs.branch.Branch.take.Goals as goal

pub returns-in_ok-push-in-Some-Hole : goal.returns-in_ok-push-in-Some-Hole
returns-in_ok-push-in-Some-Hole c =
    let look = c.in-Some-Hole.ensures.lookup in
    let grown = c.in_ok-push-in-Some-Hole.ensures.items
    ∙ ap (λ z. c.args.self.now.done.items ++ Hole (record { state = z; variable = c.in-Some-Hole.pair.variable }) ∷ []) c.new.ensures in
    record {
      taken = record {
        puts = record { cost = refl; tasks = refl; done = (_, grown) };
        next = refl;
        at = tt;
        comes = λ product two goes ws.
            ap (λ q. results product two c.args.self.now.cost (pairs_of c.args.self.now.done.items) (piece_of (pairs_of c.args.items.now) q ∷ ws)) c.in-Read.is
            ∙ pair_taken product two goes c.args.items.now c.args.self.now.cost ws c.args.self.now.done.items c.push-in-Some-Hole.new.self.items c.in-Read.node c.in-Read.state c.in-Some-Hole.pair
            (Label 0 0) look.3.0 (sym c.in-Some-Hole.field-0-is ∙ look.3.1 (Label 0 0)) grown;
      };
    }

pub returns-in_ok-push-in-Put : goal.returns-in_ok-push-in-Put
returns-in_ok-push-in-Put c = record {
  taken = record {
    puts = record { cost = refl; tasks = refl; done = (_, c.in_ok-push-in-Put.ensures.items) };
    next = refl;
    at = tt;
    comes = λ product two goes ws.
        ap (λ q. results product two c.args.self.now.cost (pairs_of c.args.self.now.done.items) (piece_of (pairs_of c.args.items.now) q ∷ ws)) c.in-Put.is
        ∙ put_taken product two goes c.args.items.now c.args.self.now.cost ws c.args.self.now.done.items c.push.new.self.items c.in-Put.label c.in-Put.rank c.in_ok-push-in-Put.ensures.items;
  };
}

pub returns-in-Some-Label : goal.returns-in-Some-Label
returns-in-Some-Label c =
    let look = c.in-Some-Label.ensures.lookup in
    record {
      taken = record {
        puts = record { cost = refl; tasks = refl; done = ([], sym (append-nil c.args.self.now.done.items)) };
        next = refl;
        at = (look.3.0, sym (sym c.in-Some-Label.field-0-is ∙ look.3.1 (Label 0 0)));
        comes = λ product two goes ws.
            ap (λ q. results product two c.args.self.now.cost (pairs_of c.args.self.now.done.items) (piece_of (pairs_of c.args.items.now) q ∷ ws)) c.in-Read.is
            ∙ label_taken product two goes c.args.items.now c.args.self.now.cost ws c.args.self.now.done.items c.in-Read.node c.in-Read.state c.in-Some-Label.label c.in-Some-Label.rank (Label 0 0) look.3.0
            (sym c.in-Some-Label.field-0-is ∙ look.3.1 (Label 0 0))
            (kids_there (pairs_of c.args.items.now) c.in-Read.node c.in-Some-Label.rank) refl;
      };
    }

pub unreachable-requires : goal.unreachable-requires
unreachable-requires c =
    let low : c.in-Read.node < length c.args.items.now = subst (IsNodeBelow (length c.args.items.now)) c.in-Read.is c.requires.node in
    absurd (omega (arith, low, beyond c.args.items.now c.args.items.now c.in-Read.node refl c.in-None.ensures.lookup.0))
