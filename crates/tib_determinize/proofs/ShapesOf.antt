-- The labels and ranks of rules, each once.
use Rattle.std.specs.Prelude.{◌≡◌, ℕ, ◌<◌, ◌||◌, Bool, true, false, List, [], ◌∷◌, ◌++◌, length, map, if◌then◌else◌, refl}
use Rattle.std.proofs.Common.{zero, suc, arith, ap, sym, ◌∙◌, subst, inl, inr}
use Rattle.std.specs.List.{list_any}
use Rattle.indexmap.specs.IndexSet.{insert_key, insert_all}
use Rattle.tib_lex.specs.Lists.{Has, Distinct}
use Rattle.tib_lex.proofs.Members.{has_left, has_right}
use Rattle.tib_grammar.specs.Run.{rule_at}
use Rattle.tib_grammar.specs.Forms.{AreNormal}
use Rattle.tib_grammar.specs.declared.Rule.{Rule}
use Rattle.tib_grammar.proofs.Sides.{length-holes}
use Rattle.tib_determinize.specs.Keys.{same_entry, entry_is, is_entry}
use Rattle.tib_determinize.specs.Candidates.{AreShapes}
use Rattle.tib_determinize.specs.Shapes.{root_label, root_of, shapes_in}
use Rattle.tib_expand.proofs.Members.{distinct_append}

abbrev Pairs : Type 0
Pairs = List (ℕ × ℕ)

or_right : (b : Bool) → (b || true) ≡ true
or_right true = refl
or_right false = refl

has_any : (ks : Pairs) (k : ℕ × ℕ) → Has ks k → list_any (same_entry k) ks ≡ true
has_any [] k h = absurd h
has_any (x ∷ ks) k h = elim h [
  | inl e ↦ ap (λ b. b || list_any (same_entry k) ks) (is_entry k x (sym e))
  | inr m ↦ ap (λ b. same_entry k x || b) (has_any ks k m) ∙ or_right (same_entry k x)
]

any_has : (ks : Pairs) (k : ℕ × ℕ) → list_any (same_entry k) ks ≡ true → Has ks k
any_has [] k e = absurd (cc)
any_has (x ∷ ks) k e = by (same_entry k x) refl (any_has ks k) e
  where
    by : (b : Bool) → same_entry k x ≡ b → (list_any (same_entry k) ks ≡ true → Has ks k) → (b || list_any (same_entry k) ks) ≡ true → Has (x ∷ ks) k
    by true s f h = inl (sym (entry_is k x s))
    by false s f h = inr (f h)

record IsInserted (ks : Pairs) (k : ℕ × ℕ) (now : Pairs) : Type 0 where
  once : Distinct ks → Distinct now
  kept : (x : ℕ × ℕ) → Has ks x → Has now x
  here : Has now k

inserted : (ks : Pairs) (k : ℕ × ℕ) → IsInserted ks k (insert_key same_entry ks k)
inserted ks k = by (list_any (same_entry k) ks) refl
  where
    by : (b : Bool) → list_any (same_entry k) ks ≡ b → IsInserted ks k (if b then ks else ks ++ k ∷ [])
    by true e = record { once = λ d. d; kept = λ x h. h; here = any_has ks k e }
    by false e = record {
      once = λ d. distinct_append ks (k ∷ []) d (λ h. h, tt) (λ x h m. elim m [ inl s ↦ (let t : true ≡ false = sym (has_any ks k (subst (Has ks) (sym s) h)) ∙ e in cc) | inr z ↦ z ]);
      kept = λ x h. has_left ks (k ∷ []) x h;
      here = has_right ks (k ∷ []) k (inl refl);
    }

all_once : (ks xs : Pairs) → Distinct ks → Distinct (insert_all same_entry ks xs)
all_once ks [] d = d
all_once ks (x ∷ xs) d = all_once (insert_key same_entry ks x) xs ((inserted ks x).once d)

all_kept : (ks xs : Pairs) (k : ℕ × ℕ) → Has ks k → Has (insert_all same_entry ks xs) k
all_kept ks [] k h = h
all_kept ks (x ∷ xs) k h = all_kept (insert_key same_entry ks x) xs k ((inserted ks x).kept k h)

all_has : (ks xs : Pairs) (k : ℕ × ℕ) → Has xs k → Has (insert_all same_entry ks xs) k
all_has ks [] k h = absurd h
all_has ks (x ∷ xs) k h = elim h [
  | inl e ↦ all_kept (insert_key same_entry ks x) xs k (subst (Has (insert_key same_entry ks x)) e (inserted ks x).here)
  | inr m ↦ all_has (insert_key same_entry ks x) xs k m
]

map_has : (rs : List (Rule ℕ)) (m : ℕ) → m < length rs → Has (map root_of rs) (root_of (rule_at rs m))
map_has [] m h = absurd (omega arith)
map_has (r ∷ rs) zero h = inl refl
map_has (r ∷ rs) (suc m) h = inr (map_has rs m (omega arith))

-- they are the shapes of the rules
pub shapes_are : (rules : List (Rule ℕ)) → AreNormal rules → AreShapes rules (shapes_in rules)
shapes_are rules normal = record {
  once = all_once [] (map root_of rules) tt;
  whole = λ m f low root. subst (Has (shapes_in rules))
      (ap (λ g. (g, (root_of (rule_at rules m)).1)) (ap root_label root) ∙ ap (λ k. (f, k)) (sym (length-holes (rule_at rules m).right.kids (normal m low).are_holes)))
      (all_has [] (map root_of rules) (root_of (rule_at rules m)) (map_has rules m low));
}
