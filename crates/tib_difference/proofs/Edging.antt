-- The edge of a rule over some keys, as it is listed.
use Rattle.std.specs.Prelude.{◌≡◌, ℕ, List, refl}
use Rattle.std.proofs.Common.{ap, sym, ◌∙◌, subst}
use Rattle.tib_grammar.specs.Sides.{label}
use Rattle.tib_grammar.specs.Run.{rule_at}
use Rattle.tib_grammar.specs.declared.Rule.{Rule}
use Rattle.tib_difference.specs.Subsets.{SubsetOf, IsSubset}
use Rattle.tib_difference.specs.Difference.{KeyOf, keys_at, subsets_of}
use Rattle.tib_difference.specs.Listing.{IsListedAt}

module _ (one two : List (Rule ℕ)) (order : List KeyOf) where
  pub listed_at :
      (r f : ℕ) (ps : List ℕ) (rule : Rule ℕ) (subset : SubsetOf) (key : KeyOf) → rule ≡ rule_at one r → rule.right.label ≡ label f → key ≡ (rule.left, subset) → IsSubset two f (subsets_of (keys_at order ps)) subset →
      IsListedAt one two order (r, ps) (record { label = f; positions = ps; cost = rule.cost; key = key })
  listed_at r f ps rule subset key at root is set = record {
    root = ap (λ (x : Rule ℕ). x.right.label) (sym at) ∙ root;
    positions = refl;
    state = ap (λ (k : KeyOf). k.0) is ∙ ap (λ (x : Rule ℕ). x.left) at;
    subset = subst (λ (v : SubsetOf). IsSubset two f (subsets_of (keys_at order ps)) v) (sym (ap (λ (k : KeyOf). k.1) is)) set;
    cost = ap (λ (x : Rule ℕ). x.cost) at;
  }
