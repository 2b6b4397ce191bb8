-- The first trees of the start, as the list of the best.
use Rattle.std.specs.Prelude.{◌≡◌, ◌⊎◌, ℕ, ◌<◌, ◌≤◌, Bool, true, false, List, [], ◌∷◌, length, refl}
use Rattle.std.proofs.Common.{arith, ap, sym, ◌∙◌, subst, inl, inr}
use Rattle.std.proofs.lemmas.List.{length-map}
use Rattle.tib_cost.specs.Semiring.{ProductLaws}
use Rattle.tib_tree.specs.Grows.{AreDistinct}
use Rattle.tib_grammar.specs.Forms.{AreNormal}
use Rattle.tib_grammar.specs.Range.{AreInRange}
use Rattle.tib_grammar.specs.Run.{rule_at}
use Rattle.tib_grammar.specs.declared.Rule.{Rule}
use Rattle.tib_grammar_file.specs.Printed.{AreLabelled}
use Rattle.tib_ranked_trees.specs.Ranked.{AreRanksOf}
use Rattle.tib_ranked_trees.specs.Best.{Costed, HasLarge, IsKBest}
use Rattle.tib_ranked_trees.specs.Levels.{IsOrderly}
use Rattle.tib_ranked_trees.proofs.Going.{grow}
use Rattle.tib_ranked_trees.specs.ListsOf.{ListsOf}
use Rattle.tib_ranked_trees.specs.Held.{empty_lists, entries_of, list_of, told, IsSound}
use Rattle.tib_ranked_trees.specs.declared.lists.Entry.{Entry}
use Rattle.tib_lazy_lists.specs.Firsts.{AreFirsts}
use Rattle.tib_lazy_lists.specs.Causes.{IsAskCause}
use Rattle.tib_lazy_lists.specs.declared.error.AskError.{AskError}
use Rattle.tib_lazy_lists.specs.declared.error.AskError.TheVariants.{TreeTooLarge as AskedTooLarge, OutOfMemory as AskedOutOfMemory}
use Rattle.tib_k_best.specs.Causes.{IsCause, IsFaultOf}
use Rattle.tib_k_best.specs.declared.error.KBestError.{KBestError}
use Rattle.tib_k_best.proofs.Starting.{as_many, no_list}

-- a product that is not the greater factor is strict, or all rules cost nothing
pub orderly_of :
    (levelled weighted : Bool) (product : ℕ → ℕ → ℕ) → ProductLaws levelled weighted product → (rules : List (Rule ℕ)) → levelled ≡ false →
    (weighted ≡ false → (n : ℕ) → n < length rules → (rule_at rules n).cost ≡ 0) → IsOrderly product rules
orderly_of levelled true product laws rules flat free = inl (laws.strict flat refl)
orderly_of levelled false product laws rules flat free = inr (free refl)

-- lists without a tree are sound
pub empty_sound :
    (rules : List (Rule ℕ)) (labels : List (List ℕ)) (ranks : List ℕ) (states : ℕ) → AreNormal rules → AreInRange states rules → AreLabelled (length labels) rules → AreDistinct labels →
    AreRanksOf labels ranks → (x : ListsOf) → x ≡ empty_lists rules labels ranks states → IsSound x
empty_sound rules labels ranks states normal range labelled distinct ranked x e =
    let y : ListsOf = empty_lists rules labels ranks states in
    let many : length y.lists ≡ states = as_many Entry states in
    let is : y ≡ empty_lists y.rules y.labels y.label_ranks (length y.lists) = ap (empty_lists rules labels ranks) (sym many) in
    let long : (q : ℕ) → length (list_of y q) ≡ 0 = λ q. ap (λ (es : List Entry). length es) (no_list y is q) in
    subst IsSound (sym e)
    (record {
      normal = normal;
      range = subst (λ (n : ℕ). AreInRange n rules) (sym many) range;
      rules_labelled = labelled;
      distinct = distinct;
      ranked = ranked;
      listed = λ q j h. absurd (omega (arith, h, long q));
      labelled = λ n h. absurd (omega (arith, h));
      few = λ q. omega (arith, long q);
      small = λ n h. absurd (omega (arith, h));
    })

-- the first tree of the start is the list of the best one
pub best_is :
    (product : ℕ → ℕ → ℕ) (x : ListsOf) → AreFirsts product x → IsKBest product x.rules x.labels 1 (entries_of x 0)
best_is product x f = elim (one_or (length (list_of x 0)) (f.few 0)) [
  | inl e ↦ (grow product).first x.labels x.rules 1 (entries_of x 0) (f.fronts 0) (length-map (list_of x 0) (told x.trees) ∙ e)
  | inr e ↦ (grow product).all x.labels x.rules 1 (entries_of x 0) (f.fronts 0) (omega (arith, length-map (list_of x 0) (told x.trees), e)) (λ y t h. f.none 0 (nothing (list_of x 0) e) y t)
]
  where
    one_or : (n : ℕ) → n ≤ 1 → (n ≡ 1) ⊎ (n ≡ 0)
    one_or n h = grind arith

    nothing : (es : List Entry) → length es ≡ 0 → es ≡ []
    nothing [] e = refl
    nothing (a ∷ es) e = absurd (omega arith)

-- the same over the rules and labels with which the lists began
pub best_over :
    (product : ℕ → ℕ → ℕ) (x y : ListsOf) (k : ℕ) → y.rules ≡ x.rules → y.labels ≡ x.labels → (xs : List Costed) → IsKBest product y.rules y.labels k xs → IsKBest product x.rules x.labels k xs
best_over product x y k r l xs h =
    subst (λ (ls : List (List ℕ)). IsKBest product x.rules ls k xs) l (subst (λ (rs : List (Rule ℕ)). IsKBest product rs y.labels k xs) r h)

pub best_first : (product : ℕ → ℕ → ℕ) (x y : ListsOf) (k : ℕ) → k ≡ 1 → y.rules ≡ x.rules → y.labels ≡ x.labels → AreFirsts product y → IsKBest product x.rules x.labels k (entries_of y 0)
best_first product x y k e r l f = subst (λ (n : ℕ). IsKBest product x.rules x.labels n (entries_of y 0)) (sym e) (best_over product x y 1 r l (entries_of y 0) (best_is product y f))

pub best_listed :
    (product : ℕ → ℕ → ℕ) (rules : List (Rule ℕ)) (labels : List (List ℕ)) (ranks : List ℕ) (states : ℕ) (x : ListsOf) (k : ℕ) → x ≡ empty_lists rules labels ranks states → (xs : List Costed) →
    IsKBest product x.rules x.labels k xs → IsKBest product rules labels k xs
best_listed product rules labels ranks states x k e xs h = subst (λ (z : ListsOf). IsKBest product z.rules z.labels k xs) e h

-- an error of asked lists has its cause
pub fault_cause :
    (product : ℕ → ℕ → ℕ) (x y : ListsOf) (k : ℕ) → y.rules ≡ x.rules → y.labels ≡ x.labels → (a : AskError) (e : KBestError) → IsFaultOf a e → IsAskCause product y k a → IsCause product x.labels x.rules k e
fault_cause product x y k r l (AskedTooLarge q) e is h =
    subst (λ (d : KBestError). IsCause product x.labels x.rules k d) (sym is)
    (subst (λ (ls : List (List ℕ)). HasLarge product ls x.rules k q) l (subst (λ (rs : List (Rule ℕ)). HasLarge product y.labels rs k q) r h))
fault_cause product x y k r l AskedOutOfMemory e is h = subst (λ (d : KBestError). IsCause product x.labels x.rules k d) (sym is) tt
