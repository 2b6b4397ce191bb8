use Rattle.std.proofs.Common.{◌≡◌, ◌++◌, map, take}
use Rattle.tib_grammar.specs.Items.{holes_in}
use Rattle.tib_image.specs.ParseListing.{variable_key}
use Rattle.tib_image.proofs.parse.listing.push_ends.Given as goal

abbrev pub invariant-loop-item : goal.invariant-loop-item
invariant-loop-item l = l.ends.items ≡ l.initial.ends.items ++ map (variable_key l.restrictions l.spans) (holes_in (take l.item-index l.items))
