-- The definitions computed on a small transducer.
use Rattle.std.specs.Prelude.{◌≡◌, ℕ, ◌+◌, ◌<◌, ◌≤◌, [], ◌∷◌, refl, None, Some}
use Rattle.std.proofs.Common.{arith, inl, inr, zero, suc, ap, subst}
use Rattle.tib_cost.proofs.Least.{IsLeast-none}
use Rattle.tib_tree.specs.Trees.{Trees, none, tree, only}
use Rattle.tib_grammar.specs.Sides.{fill}
use Rattle.tib_transducer.specs.Rules.{transducer_rule, variables_of, variables_in}
use Rattle.tib_transducer.specs.Run.{AreTransducerRuns, AreBound, Reads, Fits, transducer_cost, pick}
use Rattle.tib_transducer.specs.Series.{IsTransducerSeries}
use Rattle.tib_transducer.specs.Classes.{IsLinear, AreLinear, IsNondeleting, IsExtended, OneIsExtended, IsLabelled}
use Rattle.tib_transducer.specs.Range.{IsShaped, AreShaped, IsWithin, AreWithin, EndsInHoles, EndInHoles}
use Rattle.tib_transducer.specs.Examples.{first_parts, run, sentence, two_nouns, image}

-- a fact of each of the three rules
each_rule : (P : ℕ → Type 0) → P 0 → P 1 → P 2 → (n : ℕ) → n < 3 → P n
each_rule P a b c zero h = a
each_rule P a b c (suc zero) h = b
each_rule P a b c (suc (suc zero)) h = c
each_rule P a b c (suc (suc (suc n))) h = absurd (omega arith)

-- the run reads S(NP(a) VP(a)): the tree of x1 has the label VP at its root
pub reads : Reads first_parts run (only sentence)
reads = (
  record {
    args = tree 1 (tree 3 none none) (tree 2 (tree 3 none none) none);
    bound = (tt, (refl, tt));
    filled = refl;
    below = (record { args = tree 3 none none; bound = (tt, tt); filled = refl; below = tt }, tt);
  },
  tt,
)

-- the left side of the first rule does not fit S(NP(a) NP(a))
no_fit : (Below : Trees ℕ → Type 0) → Fits (transducer_rule first_parts 0).left (only two_nouns) Below → ⊥
no_fit Below h = by h.args h.bound h.filled
  where
    wrong : (g : ℕ) → 2 ≡ g → g ≡ 1 → ⊥
    wrong g a b = omega (arith, a, b)

    by : (args : Trees ℕ) → AreBound (variables_of (transducer_rule first_parts 0).left) args → fill (only (transducer_rule first_parts 0).left) args ≡ only two_nouns → ⊥
    by none b e = b
    by (tree f kids none) b e = b.1
    by (tree f kids (tree g more (tree h still rest))) b e = b.1.1
    by (tree f kids (tree g more none)) b e = wrong g b.1.0 (cc e)

pub reads_no_other : Reads first_parts run (only two_nouns) → ⊥
reads_no_other h = no_fit _ h.0

-- only the first rule reads a tree with the label S at its root
root_of : {f : ℕ} {kids more : Trees ℕ} {g : ℕ} {others still : Trees ℕ} → tree f kids more ≡ tree g others still → f ≡ g
root_of e = cc

fits_first : (n : ℕ) (kids : Trees ℕ) (Below : Trees ℕ → Type 0) → n < 3 → Fits (transducer_rule first_parts n).left (tree 0 kids none) Below → n ≡ 0
fits_first zero kids Below b h = refl
fits_first (suc zero) kids Below b h = let e : 1 ≡ 0 = root_of h.filled in absurd (omega (arith, e))
fits_first (suc (suc zero)) kids Below b h = let e : 2 ≡ 0 = root_of h.filled in absurd (omega (arith, e))
fits_first (suc (suc (suc n))) kids Below b h = absurd (omega arith)

pub sum_series : IsTransducerSeries ◌+◌ first_parts sentence image (Some 1)
sum_series = record {
  attained = (record { runs = run; are_runs = (omega arith, refl, (omega arith, refl, tt, tt), tt); reads = reads; output = refl; costs = refl }, omega arith);
  lower = λ c h most. by c h.runs h.are_runs h.reads h.costs;
}
  where
    by :
        (c : ℕ) (runs : Trees ℕ) → AreTransducerRuns first_parts (0 ∷ []) runs → Reads first_parts runs (only sentence) →
        transducer_cost ◌+◌ first_parts runs ≡ c → 1 ≤ c
    by c none a d e = absurd a
    by c (tree n below rest) a d e =
        let first : n ≡ 0 = fits_first n sentence.kids _ a.0 d.0 in
        let one : (transducer_rule first_parts n).cost ≡ 1 = ap (λ m. (transducer_rule first_parts m).cost) first in
        omega (arith, e, one)

pub no_series : IsTransducerSeries ◌+◌ first_parts two_nouns image None
no_series = IsLeast-none (λ c h. by h.runs h.are_runs h.reads)
  where
    by : (runs : Trees ℕ) → AreTransducerRuns first_parts (0 ∷ []) runs → Reads first_parts runs (only two_nouns) → ⊥
    by none a d = absurd a
    by (tree n below rest) a d =
        let Below : Trees ℕ → Type 0 = λ args. Reads first_parts below (pick args (variables_in (transducer_rule first_parts n).right)) in
        let first : n ≡ 0 = fits_first n two_nouns.kids Below a.0 d.0 in
        no_fit Below (subst (λ m. Fits (transducer_rule first_parts m).left (only two_nouns) Below) first d.0)

-- shapes and classes, rule by rule
pub shaped : AreShaped first_parts
shaped = each_rule
    (λ n. IsShaped (transducer_rule first_parts n))
    (record { begins = record { root = 0; is_root = refl }; numbered = (refl, (refl, tt)); known = (omega arith, tt) })
    (record { begins = record { root = 1; is_root = refl }; numbered = (refl, tt); known = tt })
    (record { begins = record { root = 2; is_root = refl }; numbered = (refl, tt); known = tt })

pub within : AreWithin 1 first_parts
within = each_rule (λ n. IsWithin 1 (transducer_rule first_parts n)) (omega arith, (omega arith, tt)) (omega arith, tt) (omega arith, tt)

pub leaves : EndInHoles first_parts
leaves = each_rule (λ n. EndsInHoles (transducer_rule first_parts n)) ((tt, tt), (tt, tt)) ((tt, tt), (tt, tt)) ((tt, tt), (tt, tt))

pub linear : AreLinear first_parts
linear = each_rule (λ n. IsLinear (transducer_rule first_parts n)) (λ h. h, tt) tt tt

pub deleting : IsNondeleting (transducer_rule first_parts 0) → ⊥
deleting h = elim h.1.0 [ inl e ↦ absurd (omega (arith, e)) | inr k ↦ k ]

pub labelled : IsLabelled (transducer_rule first_parts 0)
labelled = record { variable = record { number = 1; label = Some 2 }; stands = inr (inl refl); root = 2; labelled = refl }

pub not_extended : OneIsExtended first_parts → ⊥
not_extended h = each_rule (λ n. IsExtended (transducer_rule first_parts n) → ⊥) (λ e. omega (arith, e)) (λ e. omega (arith, e)) (λ e. omega (arith, e)) h.0 h.1 h.2
