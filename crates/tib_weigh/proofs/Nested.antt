-- The distance from 0 to 1 by the nested rules, and their normal form.
use Rattle.std.specs.Prelude.{◌≡◌, ℕ, ◌+◌, ◌≤◌, ◌<◌, ◌⊎◌, length, List, [], ◌∷◌, refl, Some}
use Rattle.std.proofs.Common.{zero, suc, arith, ap, inl, inr, sym, ◌∙◌}
use Rattle.tib_lex.specs.Lists.{Has, Ascends, Each}
use Rattle.tib_cost.specs.Semiring.{most}
use Rattle.tib_cost.specs.Least.{IsLeast}
use Rattle.tib_tree.specs.Trees.{Trees}
use Rattle.tib_grammar.specs.Sides.{Symbol, label, over, Side as SideFor}
use Rattle.tib_grammar.specs.Run.{rule_at}
use Rattle.tib_grammar.proofs.Sides.{label_is_no_hole, same_hole, same_label}
use Rattle.tib_grammar.specs.declared.Rule.{Rule}
use Rattle.tib_normal.specs.NormalForm.{IsChain, chain_cost, IsDistance, heads, first_inner, IsNormalCost, IsNormalForm}
use Rattle.tib_weigh.specs.Examples.{nested, normal_rules}
use Rattle.tib_lex.proofs.Members.{each_has}

-- no chain leads on from a state that is not the start
stays : (q : ℕ) (ns : List ℕ) (r : ℕ) → 1 ≤ q → IsChain nested q ns r → (q ≡ r) × (chain_cost ◌+◌ nested ns ≡ 0)
stays q [] r l h = (h, refl)
stays q (zero ∷ ns) r l h = absurd (omega (arith, l, h.1))
stays q (suc zero ∷ ns) r l h = absurd (omega (arith, l, h.1))
stays q (suc (suc zero) ∷ ns) r l h = absurd (label_is_no_hole 3 h.2.0 (ap (λ s. s.label) h.2.1))
stays q (suc (suc (suc n)) ∷ ns) r l h = absurd (omega (arith, h.0))

-- the chains of the start are the empty one and the one to the state 1
from_start :
    (ns : List ℕ) (r : ℕ) → IsChain nested 0 ns r →
    ((0 ≡ r) × (chain_cost ◌+◌ nested ns ≡ 0)) ⊎ ((1 ≡ r) × (chain_cost ◌+◌ nested ns ≡ 1))
from_start [] r h = inl (h, refl)
from_start (zero ∷ ns) r h = absurd (label_is_no_hole 0 h.2.0 (ap (λ s. s.label) h.2.1))
from_start (suc zero ∷ ns) r h =
    let p : 1 ≡ h.2.0 = same_hole 1 h.2.0 (ap (λ s. s.label) h.2.1) in
    let s = stays h.2.0 ns r (omega (arith, p)) h.2.2 in
    inr (p ∙ s.0, omega (arith, s.1))
from_start (suc (suc zero) ∷ ns) r h = absurd (omega (arith, h.1))
from_start (suc (suc (suc n)) ∷ ns) r h = absurd (omega (arith, h.0))

pub distance : IsDistance ◌+◌ nested 0 1 (Some 1)
distance = record {
  attained = (record { chain = 1 ∷ []; leads = (omega arith, refl, (1, refl, refl)); costs = refl }, omega arith);
  lower = λ n s _. elim (from_start s.chain 1 s.leads) [ inl a ↦ absurd (omega (arith, a.0)) | inr a ↦ omega (arith, a.1, s.costs) ];
}

same_rule :
    (q f g c d : ℕ) (kids : Trees (Symbol ℕ ℕ)) (side : SideFor ℕ ℕ) → ◌≡◌ {A = Symbol ℕ ℕ} (label f) (label g) → side ≡ record { label = label g; kids = kids } → c ≡ d →
    ◌≡◌ {A = Rule ℕ} (record { left = q; right = record { label = label f; kids = kids }; cost = c }) (record { left = q; right = side; cost = d })
same_rule q f g c d kids side e h k = cc (e, h, k)

reached :
    (q n : ℕ) (ns : List ℕ) (f c : ℕ) (side : SideFor ℕ ℕ) → q < 2 → n < length nested → IsChain nested q ns (rule_at nested n).left →
    (rule_at nested n).right.label ≡ label f → side ≡ record { label = label f; kids = heads (first_inner 2 nested n) (rule_at nested n).right.kids } →
    chain_cost ◌+◌ nested ns + (rule_at nested n).cost ≡ c → Has normal_rules (record { left = q; right = side; cost = c })
reached zero zero ns f c side l m h e s k = elim (from_start ns 0 h) [
  | inl a ↦ inl (same_rule 0 0 f 3 c _ side e s (omega (arith, a.1, k)))
  | inr a ↦ absurd (omega (arith, a.0))
]
reached q (suc zero) ns f c side l m h e s k = absurd (label_is_no_hole f 1 (sym e))
reached zero (suc (suc zero)) ns f c side l m h e s k = elim (from_start ns 1 h) [
  | inl a ↦ absurd (omega (arith, a.0))
  | inr a ↦ inr (inl (same_rule 0 3 f 3 c _ side e s (omega (arith, a.1, k))))
]
reached (suc zero) zero ns f c side l m h e s k = absurd (omega (arith, (stays 1 ns 0 (omega arith) h).0))
reached (suc zero) (suc (suc zero)) ns f c side l m h e s k =
    inr (inr (inl (same_rule 1 3 f 2 c _ side e s (omega (arith, (stays 1 ns 1 (omega arith) h).1, k)))))
reached (suc (suc q)) n ns f c side l m h e s k = absurd (omega (arith, l))
reached q (suc (suc (suc n))) ns f c side l m h e s k = absurd (omega (arith, m))

-- each cost is that of a rule
has_rule : (q : ℕ) (side : SideFor ℕ ℕ) (c : ℕ) → IsNormalCost ◌+◌ 2 nested q side c → Has normal_rules (record { left = q; right = side; cost = c })
has_rule q side c h = elim h [
  | inl r ↦ reached q r.rule r.chain r.root c side r.own r.below r.leads r.is_label r.is_side r.costs
  | inr i ↦ inr (inr (inr i))
]

-- each rule has a cost of its side
has_cost : (r : Rule ℕ) → Has normal_rules r → IsNormalCost ◌+◌ 2 nested r.left r.right r.cost
has_cost r h = each_has (λ r. IsNormalCost ◌+◌ 2 nested r.left r.right r.cost) normal_rules r all h
  where
    first : IsNormalCost ◌+◌ 2 nested 0 (over 0 (2 ∷ 0 ∷ [])) 3
    first = inl (record { own = omega arith; chain = []; rule = 0; below = omega arith; leads = refl; root = 0; is_label = refl; is_side = refl; costs = refl })

    second : IsNormalCost ◌+◌ 2 nested 0 (over 3 []) 3
    second = inl (record { own = omega arith; chain = 1 ∷ []; rule = 2; below = omega arith; leads = (omega arith, refl, (1, refl, refl)); root = 3; is_label = refl; is_side = refl; costs = refl })

    third : IsNormalCost ◌+◌ 2 nested 1 (over 3 []) 2
    third = inl (record { own = omega arith; chain = []; rule = 2; below = omega arith; leads = refl; root = 3; is_label = refl; is_side = refl; costs = refl })

    all : Each (λ r. IsNormalCost ◌+◌ 2 nested r.left r.right r.cost) normal_rules
    all = (first, (second, (third, (inr (inl refl), (inr (inr (inl refl)), tt)))))

abbrev Apart : Rule ℕ → Rule ℕ → Type 0
Apart r s = r.left ≡ s.left → r.right ≡ s.right → ⊥

one_cost : (xs : List (Rule ℕ)) → Ascends Apart xs → (r s : Rule ℕ) → Has xs r → Has xs s → r.left ≡ s.left → r.right ≡ s.right → r.cost ≡ s.cost
one_cost [] d r s h k e f = absurd h
one_cost (x ∷ xs) d r s h k e f = elim h [
  | inl a ↦ elim k [
    | inl b ↦ ap (λ y. y.cost) (sym a ∙ b)
    | inr b ↦ absurd (each_has (Apart x) xs s d.0 b (ap (λ y. y.left) a ∙ e) (ap (λ y. y.right) a ∙ f))
  ]
  | inr a ↦ elim k [
    | inl b ↦ absurd (each_has (Apart x) xs r d.0 a (ap (λ y. y.left) b ∙ sym e) (ap (λ y. y.right) b ∙ sym f))
    | inr b ↦ one_cost xs d.1 r s a b e f
  ]
]

apart : Ascends Apart normal_rules
apart = (
  ((λ e f. omega (arith, same_label 0 3 (ap (λ s. s.label) f))), ((λ e f. omega (arith, e)), ((λ e f. omega (arith, e)), ((λ e f. omega (arith, e)), tt)))),
  (
    ((λ e f. omega (arith, e)), ((λ e f. omega (arith, e)), ((λ e f. omega (arith, e)), tt))),
    (
      ((λ e f. omega (arith, e)), ((λ e f. omega (arith, e)), tt)),
      (((λ e f. omega (arith, e)), tt), (tt, tt)),
    ),
  ),
)

least : (r : Rule ℕ) → Has normal_rules r → IsLeast (IsNormalCost ◌+◌ 2 nested r.left r.right) (Some r.cost)
least r h = record {
  attained = (has_cost r h, each_has (λ s. s.cost ≤ most) normal_rules r (omega arith, (omega arith, (omega arith, (omega arith, (omega arith, tt))))) h);
  lower = λ n c _. omega (arith, one_cost normal_rules apart r (record { left = r.left; right = r.right; cost = n }) h (has_rule r.left r.right n c) refl refl);
}

pub normal_form : IsNormalForm ◌+◌ 2 nested 4 normal_rules
normal_form = record {
  counted = refl;
  ascends = (
    (omega arith, (omega arith, (omega arith, (omega arith, tt)))),
    ((omega arith, (omega arith, (omega arith, tt))), ((omega arith, (omega arith, tt)), ((omega arith, tt), (tt, tt)))),
  );
  distinct = apart;
  least = least;
  whole = λ q side c h _. (c, has_rule q side c h);
}
