-- The least over a family of sets, where the least of each set is known.
use Rattle.std.specs.Prelude.{◌≡◌, ◌↔◌, ℕ, ◌≤◌, List, [], ◌∷◌, Bool, Option, None, Some, refl}
use Rattle.std.proofs.Common.{arith, subst}
use Rattle.tib_tree.specs.Trees.{Tree, only}
use Rattle.tib_grammar.specs.Run.{IsCost}
use Rattle.tib_grammar.specs.Series.{IsSeries}
use Rattle.tib_grammar.specs.declared.Rule.{Rule}
use Rattle.tib_cost.specs.Semiring.{ProductLaws, most}
use Rattle.tib_cost.specs.Least.{IsLeast, Products, times}
use Rattle.tib_cost.proofs.Least.{IsLeast-dominated, IsLeast-products}
use Rattle.tib_transducer.specs.Series.{IsTransducerCost, IsTransducerSeries}
use Rattle.tib_transducer.specs.declared.TransducerRule.{TransducerRule}
use Rattle.tib_apply.specs.Forward.{IsForwardCost, IsForwardSeries}
use Rattle.tib_apply.specs.Backward.{IsBackwardCost, IsBackwardSeries}
use Rattle.tib_apply.specs.LeastOfAll.{IsLeastOfAll}

-- a known least is at most each member that is a cost
pub least_some : {S : ℕ → Type 0} (v : Option ℕ) → IsLeast S v → (c : ℕ) → S c → c ≤ most → (m : ℕ) × (v ≡ Some m) × (m ≤ c)
least_some None h c s b = absurd (h.lower c s b)
least_some (Some m) h c s b = (m, refl, h.lower c s b)

-- and is a member
pub least_is : {S : ℕ → Type 0} (v : Option ℕ) → IsLeast S v → (m : ℕ) → v ≡ Some m → S m
least_is {S} v h m e = (subst (IsLeast S) e h).attained.0

family :
    (S : Tree ℕ → ℕ → Type 0) (T : ℕ → Type 0) (f : Tree ℕ → Option ℕ) → ((t : Tree ℕ) → IsLeast (S t) (f t)) → ((n : ℕ) → T n → (t : Tree ℕ) × S t n) →
    ((t : Tree ℕ) (n : ℕ) → S t n → T n) → (v : Option ℕ) → IsLeast T v ↔ IsLeastOfAll f v
family S T f least to from v = (
  λ h. IsLeast-dominated down (λ n x m. (n, up n x, omega arith)) h,
  λ h. IsLeast-dominated (λ n x m. (n, up n x, omega arith)) down h,
)
  where
    down : (n : ℕ) → T n → n ≤ most → (m : ℕ) × ((t : Tree ℕ) × (f t ≡ Some m)) × (m ≤ n)
    down n x b =
        let s = to n x in
        let r = least_some (f s.0) (least s.0) n s.1 b in
        (r.0, (s.0, r.1), r.2)

    up : (n : ℕ) → (t : Tree ℕ) × (f t ≡ Some n) → T n
    up n x = from x.0 n (least_is (f x.0) (least x.0) n x.1)

module _ {levelled weighted : Bool} {product : ℕ → ℕ → ℕ} (laws : ProductLaws levelled weighted product) where
  pub forward_least :
      (grammar : List (Rule ℕ)) (moves : List (TransducerRule ℕ)) (u : Tree ℕ) (a b : Tree ℕ → Option ℕ) → ((t : Tree ℕ) → IsSeries product grammar t (a t)) →
      ((t : Tree ℕ) → IsTransducerSeries product moves t u (b t)) → (v : Option ℕ) → IsForwardSeries product grammar moves u v ↔ IsLeastOfAll (λ t. times product (a t) (b t)) v
  forward_least grammar moves u a b h k =
      family (λ t n. Products product (IsCost product grammar (0 ∷ []) (only t)) (IsTransducerCost product moves (0 ∷ []) (only t) (only u)) n) (IsForwardCost product grammar moves 0 0 u)
      (λ t. times product (a t) (b t)) (λ t. IsLeast-products laws (h t) (k t)) (λ n c. (c.input, (c.yielded, c.moved, c.first, c.second, c.costs)))
      (λ t n p. record { input = t; yielded = p.0; moved = p.1; first = p.2; second = p.3; costs = p.4 })

  pub backward_least :
      (moves : List (TransducerRule ℕ)) (grammar : List (Rule ℕ)) (t : Tree ℕ) (a b : Tree ℕ → Option ℕ) → ((u : Tree ℕ) → IsTransducerSeries product moves t u (a u)) →
      ((u : Tree ℕ) → IsSeries product grammar u (b u)) → (v : Option ℕ) → IsBackwardSeries product moves grammar t v ↔ IsLeastOfAll (λ u. times product (a u) (b u)) v
  backward_least moves grammar t a b h k =
      family (λ u n. Products product (IsTransducerCost product moves (0 ∷ []) (only t) (only u)) (IsCost product grammar (0 ∷ []) (only u)) n) (IsBackwardCost product moves grammar 0 0 t)
      (λ u. times product (a u) (b u)) (λ u. IsLeast-products laws (h u) (k u)) (λ n c. (c.output, (c.moved, c.yielded, c.first, c.second, c.costs)))
      (λ u n p. record { output = u; moved = p.0; yielded = p.1; first = p.2; second = p.3; costs = p.4 })
