-- The labels of variables are among those of the transducer.
use Rattle.std.specs.Prelude.{◌≡◌, ℕ, ◌<◌, ◌≤◌, List, [], ◌∷◌, length, map, Option, None, Some, refl}
use Rattle.std.proofs.Common.{zero, suc, arith, subst}
use Rattle.tib_lex.specs.Lists.{Has, Each}
use Rattle.tib_lex.proofs.Lists.{length_map}
use Rattle.tib_transducer.specs.Rules.{transducer_rule, variables_of}
use Rattle.tib_strings.specs.Rules.{string_rule}
use Rattle.tib_strings.specs.declared.StringRule.{StringRule}
use Rattle.tib_apply.specs.Restrictions.{restriction}
use Rattle.tib_apply.proofs.Restricting.{IsListed, are_listed as listed_of_rules, admits}
use Rattle.tib_image.specs.Restrictions.{as_rule, restricted_labels}

-- a rule at a place reads the same
pub rule_same : (rules : List (StringRule ℕ)) (n : ℕ) → n < length rules → transducer_rule (map as_rule rules) n ≡ as_rule (string_rule rules n)
rule_same [] n b = absurd (omega arith)
rule_same (r ∷ rs) zero b = refl
rule_same (r ∷ rs) (suc n) b = rule_same rs n (omega arith)

-- the labels of variables are among those of the transducer
pub are_listed : (rules : List (StringRule ℕ)) (n : ℕ) → n < length rules → Each (IsListed (restricted_labels rules)) (variables_of (string_rule rules n).left)
are_listed rules n b =
    subst (λ r. Each (IsListed (restricted_labels rules)) (variables_of r.left)) (rule_same rules n b)
    (listed_of_rules (map as_rule rules) n (omega (arith, b, length_map as_rule rules)))

-- the restriction of a variable is one of as many as there are labels
pub restriction_within : (labels : List ℕ) (l : Option ℕ) → ((g : ℕ) → l ≡ Some g → Has labels g) → restriction labels l ≤ length labels
restriction_within labels None h = omega arith
restriction_within labels (Some f) h = let low = (admits labels (Some f) f h refl).0 in omega arith
