-- What forward and backward application return.
use Rattle.std.specs.Prelude.{◌≡◌, ℕ, List, length, map}
use Rattle.tib_grammar.specs.GrammarOf.{named_rule}
use Rattle.tib_grammar.specs.Range.{AreInRange}
use Rattle.tib_grammar.specs.declared.Rule.{Rule}
use Rattle.tib_expand.specs.Reached.{Exploration, IsReachedSet, parts_of}
use Rattle.tib_expand.specs.declared.found.Found.{Found}
use Rattle.tib_transducer.specs.declared.TransducerRule.{TransducerRule}
use Rattle.tib_transducer.specs.Outside.{Demands, AllMeet, IsFirstOutside}
use Rattle.tib_apply.specs.KeyGrammars.{key_at}
use Rattle.tib_apply.specs.declared.error.ApplyError.{ApplyError}
use Rattle.tib_apply.specs.declared.error.ApplyError.TheVariants.{Class, TooMany, OutOfMemory}

-- the edges that the rules stand for over the order
abbrev pub edges_of : Found (ℕ × ℕ × ℕ) (Rule ℕ) → List (Rule (ℕ × ℕ × ℕ))
edges_of found = map (named_rule (key_at found.order.items)) found.rules.items

-- the order and the edges are the reached set of what is hunted
abbrev pub IsReachedBy : {O : Type 0} → Exploration (ℕ × ℕ × ℕ) O (Rule (ℕ × ℕ × ℕ)) → Found (ℕ × ℕ × ℕ) (Rule ℕ) → Type 0
IsReachedBy op found = IsReachedSet op found.order.items (edges_of found)

-- the parts are those of the keys and of the edges
abbrev pub HasPartsOf : {O : Type 0} → Exploration (ℕ × ℕ × ℕ) O (Rule (ℕ × ℕ × ℕ)) → Found (ℕ × ℕ × ℕ) (Rule ℕ) → Type 0
HasPartsOf op found = found.parts ≡ parts_of op found.order.items (edges_of found)

-- the rules are over positions of the order
abbrev pub AreOverOrder : Found (ℕ × ℕ × ℕ) (Rule ℕ) → Type 0
AreOverOrder found = AreInRange (length found.order.items) found.rules.items

-- Why nothing is returned: the first rule outside the classes that are demanded; where each rule is
-- of them, a limit that each reached set exceeds; or out of memory.
abbrev pub IsApplyFault : Demands → List (TransducerRule ℕ) → ℕ → Type 0 → ApplyError → Type 0
IsApplyFault demanded moves limit Beyond (Class rule fault) = IsFirstOutside demanded moves (rule, fault)
IsApplyFault demanded moves limit Beyond (TooMany n) = (n ≡ limit) × AllMeet demanded moves × Beyond
IsApplyFault demanded moves limit Beyond OutOfMemory = Unit {0}
