use Rattle.std.proofs.Common.{◌<◌, ◌≤◌, ap, sym, ◌∙◌, subst, length, map, arith, ℕ, List}
use Rattle.std.specs.Prelude.{OnOk}
use Rattle.std.proofs.lemmas.List.{get_or_read}
use Rattle.tib_tree.specs.Trees.{size}
use Rattle.tib_strings.specs.Rules.{string_rule, no_rule}
use Rattle.tib_strings.specs.Range.{IsShaped}
use Rattle.tib_strings.specs.declared.StringRule.{StringRule}
use Rattle.tib_key_edges.proofs.MappedSides.{items_size}
use Rattle.tib_strings.specs.Remaining.{FindsCuts}
use Rattle.tib_image.specs.ParseListing.{Adds, Overruns, cut_edge}
use Rattle.tib_image.proofs.ParseListed.{adds_none}
use Rattle.tib_image.proofs.Ruling.{places_enough, none_fit, some_fit}
use Rattle.tib_image.proofs.parse.operation.Parse.add_rule.Goals as goal

pub returns-then-not-admits-clause-added : goal.returns-then-not-admits-clause-added
returns-then-not-admits-clause-added g c =
    let moves = c.args.self.now.transducer.now.rules in
    let position = c.args.position in
    let r = c.index-rule_list-position.result in
    let low = subst (λ (rs : List (StringRule ℕ)). position < length rs) (sym c.rule_list.ensures) c.requires.below in
    let at = get_or_read c.rule_list.result.now position r low c.index-rule_list-position.is no_rule ∙ ap (λ (rs : List (StringRule ℕ)). string_rule rs position) c.rule_list.ensures in
    let string = c.args.self.now.string.now in
    let key = c.args.key in
    let labels = c.args.self.now.restrictions in
    let numbered = c.args.self.now.numbered in
    subst (λ es. Adds key es c.args.listing.now c.args.listing.now) (sym (none_fit moves string key position r labels numbered at (c.admits.ensures.no c.if-not-admits.true))) (adds_none key c.args.listing.now)

pub add_cuts-requires-clause-search : goal.add_cuts-requires-clause-search
add_cuts-requires-clause-search g c =
    let found = subst (FindsCuts c.args.self.now.string.now c.tokens.result.now c.from.result c.to.result) c.in-Ok-Some.field-0-is c.in-Ok-Some.ensures in
    found.0

pub add_cuts-requires-clause-tokens : goal.add_cuts-requires-clause-tokens
add_cuts-requires-clause-tokens g c =
    let found = subst (FindsCuts c.args.self.now.string.now c.tokens.result.now c.from.result c.to.result) c.in-Ok-Some.field-0-is c.in-Ok-Some.ensures in
    found.2 ∙ c.tokens.ensures

pub add_cuts-requires-clause-room : goal.add_cuts-requires-clause-room
add_cuts-requires-clause-room g c =
    let moves = c.args.self.now.transducer.now.rules in
    let position = c.args.position in
    let r = c.index-rule_list-position.result in
    let low = subst (λ (rs : List (StringRule ℕ)). position < length rs) (sym c.rule_list.ensures) c.requires.below in
    let at = get_or_read c.rule_list.result.now position r low c.index-rule_list-position.is no_rule ∙ ap (λ (rs : List (StringRule ℕ)). string_rule rs position) c.rule_list.ensures in
    let enough : size r.left ≤ length c.make_room.new.spans.items = omega (arith, c.in-Ok.ensures, items_size c.items.result.now r.left c.items.ensures.items) in
    places_enough r (length c.make_room.new.spans.items) (subst (λ (x : StringRule ℕ). IsShaped x) (sym at) (c.is_sound.ensures.shaped position c.requires.below)) enough

pub returns-in-Ok-Some-clause-added : goal.returns-in-Ok-Some-clause-added
returns-in-Ok-Some-clause-added g c =
    let moves = c.args.self.now.transducer.now.rules in
    let position = c.args.position in
    let r = c.index-rule_list-position.result in
    let low = subst (λ (rs : List (StringRule ℕ)). position < length rs) (sym c.rule_list.ensures) c.requires.below in
    let at = get_or_read c.rule_list.result.now position r low c.index-rule_list-position.is no_rule ∙ ap (λ (rs : List (StringRule ℕ)). string_rule rs position) c.rule_list.ensures in
    let string = c.args.self.now.string.now in
    let key = c.args.key in
    let labels = c.args.self.now.restrictions in
    let numbered = c.args.self.now.numbered in
    let all = some_fit moves string key position r labels numbered at c.tokens.result.now c.from.result c.to.result c.tokens.ensures c.from.ensures c.to.ensures c.requires.state (c.admits.ensures.yes c.if-not-admits.false) in
    let found = subst (FindsCuts c.args.self.now.string.now c.tokens.result.now c.from.result c.to.result) c.in-Ok-Some.field-0-is c.in-Ok-Some.ensures in
    subst (λ es. OnOk c.add_cuts.result (Adds key es c.args.listing.now c.add_cuts.new.listing)) (ap (map (cut_edge labels key r)) found.1 ∙ sym all) c.add_cuts.ensures.added

pub returns-in-Ok-Some-clause-more : goal.returns-in-Ok-Some-clause-more
returns-in-Ok-Some-clause-more g c =
    let moves = c.args.self.now.transducer.now.rules in
    let position = c.args.position in
    let r = c.index-rule_list-position.result in
    let low = subst (λ (rs : List (StringRule ℕ)). position < length rs) (sym c.rule_list.ensures) c.requires.below in
    let at = get_or_read c.rule_list.result.now position r low c.index-rule_list-position.is no_rule ∙ ap (λ (rs : List (StringRule ℕ)). string_rule rs position) c.rule_list.ensures in
    let string = c.args.self.now.string.now in
    let key = c.args.key in
    let labels = c.args.self.now.restrictions in
    let numbered = c.args.self.now.numbered in
    let all = some_fit moves string key position r labels numbered at c.tokens.result.now c.from.result c.to.result c.tokens.ensures c.from.ensures c.to.ensures c.requires.state (c.admits.ensures.yes c.if-not-admits.false) in
    let found = subst (FindsCuts c.args.self.now.string.now c.tokens.result.now c.from.result c.to.result) c.in-Ok-Some.field-0-is c.in-Ok-Some.ensures in
    λ e. subst (λ es. Overruns es c.args.listing.now) (ap (map (cut_edge labels key r)) found.1 ∙ sym all) (c.add_cuts.ensures.more e)

pub returns-in-Ok-None-clause-added : goal.returns-in-Ok-None-clause-added
returns-in-Ok-None-clause-added g c =
    let moves = c.args.self.now.transducer.now.rules in
    let position = c.args.position in
    let r = c.index-rule_list-position.result in
    let low = subst (λ (rs : List (StringRule ℕ)). position < length rs) (sym c.rule_list.ensures) c.requires.below in
    let at = get_or_read c.rule_list.result.now position r low c.index-rule_list-position.is no_rule ∙ ap (λ (rs : List (StringRule ℕ)). string_rule rs position) c.rule_list.ensures in
    let string = c.args.self.now.string.now in
    let key = c.args.key in
    let labels = c.args.self.now.restrictions in
    let numbered = c.args.self.now.numbered in
    let all = some_fit moves string key position r labels numbered at c.tokens.result.now c.from.result c.to.result c.tokens.ensures c.from.ensures c.to.ensures c.requires.state (c.admits.ensures.yes c.if-not-admits.false) in
    let found = subst (FindsCuts c.args.self.now.string.now c.tokens.result.now c.from.result c.to.result) c.in-Ok-None.field-0-is c.in-Ok-None.ensures in
    subst (λ es. Adds key es c.args.listing.now c.args.listing.now) (sym (all ∙ ap (map (cut_edge labels key r)) found)) (adds_none key c.args.listing.now)
