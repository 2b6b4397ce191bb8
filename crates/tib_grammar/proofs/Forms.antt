-- Right sides that were noted, and faults.
use Rattle.std.proofs.Common.{◌≡◌, ℕ, ◌+◌, ◌<◌, ◌⊎◌, List, [], ◌∷◌, ◌++◌, length, get_or, Some, refl, zero, suc, arith, ap, sym, ◌∙◌, subst, inl, inr}
use Rattle.std.proofs.lemmas.List.{length-append}
use Rattle.tib_lex.specs.Lists.{Has}
use Rattle.tib_tree.specs.Trees.{preorder_of}
use Rattle.tib_grammar.specs.Items.{pairs_of}
use Rattle.tib_grammar.specs.Run.{rule_at}
use Rattle.tib_grammar.specs.Forms.{IsShaped, IsNew, IsShared, IsFaultOf}
use Rattle.tib_grammar.specs.Checked.{IsShapeFault, IsFirstPlace, AreFirstSides}
use Rattle.tib_grammar.specs.declared.Item.{Item}
use Rattle.tib_grammar.specs.declared.Rule.{Rule}
use Rattle.tib_grammar.specs.declared.DeterminismFault.{DeterminismFault}
use Rattle.tib_grammar.specs.declared.DeterminismFault.TheVariants.{Nested, Chain, Shared, OutOfMemory}
use Rattle.tib_grammar.proofs.Holes.{pairs_same, side_same}
use Rattle.tib_grammar.proofs.Members.{has_at}

-- a place of a list with a new last member
last_at : {A : Type 0} (xs : List A) (x d : A) (k : ℕ) → k < length xs + 1 → ((k < length xs) × (get_or (xs ++ x ∷ []) k d ≡ get_or xs k d)) ⊎ ((k ≡ length xs) × (get_or (xs ++ x ∷ []) k d ≡ x))
last_at [] x d zero h = inr (refl, refl)
last_at [] x d (suc k) h = absurd (omega arith)
last_at (y ∷ ys) x d zero h = inl (omega arith, refl)
last_at (y ∷ ys) x d (suc k) h = elim (last_at ys x d k (omega arith)) [
  | inl a ↦ inl (omega (arith, a.0), a.1)
  | inr b ↦ inr (ap suc b.0, b.1)
]

module _ (lists : List (List (Item ℕ))) (rules : List (Rule ℕ)) (n : ℕ) (noted : AreFirstSides lists rules n) (items : List (Item ℕ)) (here : pairs_of items ≡ preorder_of (rule_at rules n).right) where
  -- one more right-hand side is noted
  pub AreFirstSides-more : (now : List (List (Item ℕ))) → now ≡ lists ++ items ∷ [] → AreFirstSides now rules (n + 1)
  AreFirstSides-more now e = subst (λ l. AreFirstSides l rules (n + 1)) (sym e) (record {
    counted = length-append lists (items ∷ []) ∙ ap (λ m. m + 1) noted.counted;
    are = λ k b. elim (last_at lists items [] k (omega (arith, noted.counted))) [
      | inl a ↦ ap pairs_of a.1 ∙ noted.are k (omega (arith, a.0, noted.counted))
      | inr z ↦
          let place : k ≡ n = z.0 ∙ noted.counted in
          ap pairs_of z.1 ∙ here ∙ ap (λ i. preorder_of (rule_at rules i).right) (sym place)
    ];
  })

  -- equal right-hand sides have equal items, and the other way round
  items_at : (m : ℕ) → m < n → (rule_at rules m).right ≡ (rule_at rules n).right → get_or lists m [] ≡ items
  items_at m b e = pairs_same (get_or lists m []) items (noted.are m b ∙ ap preorder_of e ∙ sym here)

  pub IsNew-from : (Has lists items → ⊥) → IsNew rules n
  IsNew-from absent m b e = absent (subst (Has lists) (items_at m b e) (has_at lists m [] (omega (arith, noted.counted))))

  pub place_below : (i : ℕ) → IsFirstPlace lists items i → i < n
  place_below i p = omega (arith, p.below, noted.counted)

  pub IsShared-from : (i : ℕ) → IsFirstPlace lists items i → IsShaped rules (rule_at rules n) → IsShared rules (i + 1) n
  IsShared-from i p shape = record {
    shaped = shape;
    position = i;
    numbered = omega arith;
    before = place_below i p;
    same = side_same (rule_at rules i).right (rule_at rules n).right
        (sym (noted.are i (place_below i p)) ∙ ap pairs_of p.at ∙ here);
    least = λ m b e.
        let below : m < n = omega (arith, place_below i p) in
        p.least m b (items_at m below e);
  }

-- what holds below a number and at it
pub upto : (P : ℕ → Type 0) (n : ℕ) → ((k : ℕ) → k < n → P k) → P n → (k : ℕ) → k < n + 1 → P k
upto P n below at k h = elim (last k n h) [ inl l ↦ below k l | inr e ↦ subst P (sym e) at ]
  where
    last : (k n : ℕ) → k < n + 1 → (k < n) ⊎ (k ≡ n)
    last k n h = grind arith

-- the fault of a right-hand side by itself is the first where all before are in form
pub fault_here :
    (rules : List (Rule ℕ)) (n number : ℕ) (fault : DeterminismFault) → number ≡ suc n → n < length rules → ((m : ℕ) → m < n → IsShaped rules (rule_at rules m)) → ((m : ℕ) → m < n → IsNew rules m) →
    IsShapeFault rules (rule_at rules n) number (Some fault) → IsFaultOf rules fault
fault_here rules n number (Nested m) e h shaped new f = record { position = n; numbered = f.0 ∙ e; below = h; shaped = shaped; new = new; fault = f.1 }
fault_here rules n number (Chain m) e h shaped new f = record { position = n; numbered = f.0 ∙ e; below = h; shaped = shaped; new = new; fault = f.1 }
fault_here rules n number (Shared l m) e h shaped new f = absurd f
fault_here rules n number OutOfMemory e h shaped new f = absurd f
