-- What lists of rules with the same members have in common.
use Rattle.std.proofs.Common.{◌≡◌, ℕ, ◌<◌, ◌≤◌, List, [], ◌∷◌, length, refl, ap, sym, ◌∙◌, subst}
use Rattle.std.specs.Prelude.{Some}
use Rattle.tib_lex.specs.Lists.{Has, Along}
use Rattle.tib_tree.specs.Trees.{Trees, none, tree}
use Rattle.tib_grammar.specs.Sides.{holes_of}
use Rattle.tib_grammar.specs.Run.{rule_at, no_rule, AreRuns, cost}
use Rattle.tib_grammar.specs.declared.Rule.{Rule}
use Rattle.tib_cost.specs.Semiring.{most}
use Rattle.tib_cost.proofs.Least.{IsLeast-same}
use Rattle.tib_inside.specs.Inside.{IsRunCost, IsInside}
use Rattle.tib_inside.specs.Useful.{product_of, IsLive, IsUseful}
use Rattle.tib_lex.proofs.Members.{has_at, at_has}
use Rattle.tib_inside.specs.Useful as useful

-- each rule of the one list is in the other
pub record AreAlike (xs ys : List (Rule ℕ)) : Type 0 where
  pub to : (r : Rule ℕ) → Has xs r → Has ys r
  pub from : (r : Rule ℕ) → Has ys r → Has xs r

pub alike_self : (xs : List (Rule ℕ)) → AreAlike xs xs
alike_self xs = record { to = λ r h. h; from = λ r h. h }

pub alike_back : (xs ys : List (Rule ℕ)) → AreAlike xs ys → AreAlike ys xs
alike_back xs ys a = record { to = a.from; from = a.to }

-- the rule at a position of the one list is at a position of the other
pub record StandsAt (xs ys : List (Rule ℕ)) (n : ℕ) : Type 0 where
  pub position : ℕ
  pub below : position < length ys
  pub is : rule_at ys position ≡ rule_at xs n

pub stands_at : (xs ys : List (Rule ℕ)) → AreAlike xs ys → (n : ℕ) → n < length xs → StandsAt xs ys n
stands_at xs ys a n h =
    let p = at_has ys (rule_at xs n) no_rule (a.to (rule_at xs n) (has_at xs n no_rule h)) in
    record { position = p.0; below = p.1; is = p.2 }

-- runs of the one list are runs of the other, at the same cost
record HasRuns (product : ℕ → ℕ → ℕ) (ys : List (Rule ℕ)) (qs : List ℕ) (c : ℕ) : Type 0 where
  runs : Trees ℕ
  are : AreRuns ys qs runs
  costs : cost product ys runs ≡ c

runs_moved : (product : ℕ → ℕ → ℕ) (xs ys : List (Rule ℕ)) → AreAlike xs ys → (qs : List ℕ) (runs : Trees ℕ) → AreRuns xs qs runs → HasRuns product ys qs (cost product xs runs)
runs_moved product xs ys a [] none h = record { runs = none; are = tt; costs = refl }
runs_moved product xs ys a [] (tree n runs rest) h = absurd h
runs_moved product xs ys a (q ∷ qs) none h = absurd h
runs_moved product xs ys a (q ∷ qs) (tree n runs rest) h =
    let p = stands_at xs ys a n h.0 in
    let inner = runs_moved product xs ys a (holes_of (rule_at xs n).right) runs h.2 in
    let others = runs_moved product xs ys a qs rest h.3 in
    record {
      runs = tree p.position inner.runs others.runs;
      are = (p.below, ap (λ (r : Rule ℕ). r.left) p.is ∙ h.1, subst (λ (r : Rule ℕ). AreRuns ys (holes_of r.right) inner.runs) (sym p.is) inner.are, others.are);
      costs =
          ap (λ (r : Rule ℕ). product (product r.cost (cost product ys inner.runs)) (cost product ys others.runs)) p.is
          ∙ ap (λ c. product (product (rule_at xs n).cost c) (cost product ys others.runs)) inner.costs
          ∙ ap (product (product (rule_at xs n).cost (cost product xs runs))) others.costs;
    }

cost_moved : (product : ℕ → ℕ → ℕ) (xs ys : List (Rule ℕ)) → AreAlike xs ys → (qs : List ℕ) (c : ℕ) → IsRunCost product xs qs c → IsRunCost product ys qs c
cost_moved product xs ys a qs c r =
    let m = runs_moved product xs ys a qs r.runs r.are_runs in
    record { runs = m.runs; are_runs = m.are; costs = m.costs ∙ r.costs }

inside_moved : (product : ℕ → ℕ → ℕ) (xs ys : List (Rule ℕ)) → AreAlike xs ys → (q c : ℕ) → IsInside product xs q (Some c) → IsInside product ys q (Some c)
inside_moved product xs ys a q c i = IsLeast-same (λ n. cost_moved product xs ys a (q ∷ []) n) (λ n. cost_moved product ys xs (alike_back xs ys a) (q ∷ []) n) i

along_moved : {A B : Type 0} (R T : A → B → Type 0) (xs : List A) (ys : List B) → ((x : A) (y : B) → R x y → T x y) → Along R xs ys → Along T xs ys
along_moved R T [] [] f h = tt
along_moved R T [] (y ∷ ys) f h = absurd h
along_moved R T (x ∷ xs) [] f h = absurd h
along_moved R T (x ∷ xs) (y ∷ ys) f h = (f x y h.0, along_moved R T xs ys f h.1)

-- a live rule is live wherever it is
pub live_moved : (product : ℕ → ℕ → ℕ) (xs ys : List (Rule ℕ)) → AreAlike xs ys → (n m : ℕ) → m < length ys → rule_at ys m ≡ rule_at xs n → IsLive product xs n → IsLive product ys m
live_moved product xs ys a n m below is l =
    let known : Along (λ q c. IsInside product ys q (Some c)) (holes_of (rule_at xs n).right) l.insides =
    along_moved (λ q c. IsInside product xs q (Some c)) (λ q c. IsInside product ys q (Some c)) (holes_of (rule_at xs n).right) l.insides (inside_moved product xs ys a) l.are_insides in
    record {
      below = below;
      insides = l.insides;
      are_insides = subst (λ (r : Rule ℕ). Along (λ q c. IsInside product ys q (Some c)) (holes_of r.right) l.insides) (sym is) known;
      within = subst (λ (r : Rule ℕ). product r.cost (product_of product l.insides) ≤ most) (sym is) l.within;
    }

-- useful states depend only on the members
pub useful_moved : (product : ℕ → ℕ → ℕ) (xs ys : List (Rule ℕ)) → AreAlike xs ys → (q : ℕ) → IsUseful product xs q → IsUseful product ys q
useful_moved product xs ys a _ (useful.start c i) = useful.start c (inside_moved product xs ys a 0 c i)
useful_moved product xs ys a _ (useful.below n q u l s) =
    let p = stands_at xs ys a n l.below in
    useful.below p.position q
    (subst (λ (r : Rule ℕ). IsUseful product ys r.left) (sym p.is) (useful_moved product xs ys a (rule_at xs n).left u))
    (live_moved product xs ys a n p.position p.below p.is l)
    (subst (λ (r : Rule ℕ). Has (holes_of r.right) q) (sym p.is) s)
