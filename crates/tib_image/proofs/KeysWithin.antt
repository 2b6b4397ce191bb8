-- The keys that parsing reaches are of states in range, over places of the string in order.
use Rattle.std.specs.Prelude.{ℕ, ◌<◌, List, length}
use Rattle.std.proofs.Common.{arith}
use Rattle.tib_lex.specs.Lists.{Has}
use Rattle.tib_grammar.specs.Sides.{holes_of}
use Rattle.tib_expand.specs.Reached.{IsReached}
use Rattle.tib_expand.specs.Keys.{key_parts}
use Rattle.tib_strings.specs.Range.{AreWithin}
use Rattle.tib_image.specs.Restrictions.{restricted_labels}
use Rattle.tib_image.specs.Parsing.{first_key, IsParseEdge}
use Rattle.tib_image.specs.ParseOperation.{IsKey, key_cmp, key_entries, edge_parts, parse}
use Rattle.tib_image.specs.KeyRanges.{ends_within}
use Rattle.tib_strings.specs.declared.StringRule.{StringRule}
use Rattle.tib_image.proofs.EachKey.{order_each}

pub keys_within :
    (states : ℕ) → 0 < states → (moves : List (StringRule ℕ)) → AreWithin states moves → (string : List ℕ) (order : List (ℕ × ℕ × ℕ × ℕ)) → IsReached (parse moves string) order →
    (k : ℕ × ℕ × ℕ × ℕ) → Has order k → IsKey states (length string) (length (restricted_labels moves)) k
keys_within states some moves within string order reached k h =
    order_each key_cmp (first_key (length string)) (IsParseEdge moves string) (λ e. holes_of e.right) (key_parts key_entries) edge_parts (IsKey states (length string) (length (restricted_labels moves)))
    (record { state = some; from = omega arith; to = omega arith; restricted = omega arith })
    (ends_within states some moves within string)
    reached.0 reached.1 order reached.2 k h
