-- What is at the variables of a left-hand side and at the pairs of a right-hand side.
use Rattle.std.specs.Prelude.{◌≡◌, ℕ, ◌+◌, ◌<◌, List, [], ◌∷◌, length, map, refl}
use Rattle.std.proofs.Common.{zero, suc, arith, ap, sym, ◌∙◌, subst, inl, inr, get_or}
use Rattle.tib_lex.specs.Lists.{Has, Each, Distinct}
use Rattle.tib_tree.specs.Trees.{Trees, none, tree, count, join}
use Rattle.tib_grammar.specs.Sides.{Symbol, label, hole, fill}
use Rattle.tib_grammar.specs.Range.{AllBelow}
use Rattle.tib_grammar.proofs.Members.{each_has, has_at}
use Rattle.tib_transducer.specs.Rules.{no_variable}
use Rattle.tib_transducer.specs.Range.{AreNumbered}
use Rattle.tib_transducer.specs.Run.{AreBound, pick, tree_at}
use Rattle.tib_apply.specs.Restrictions.{restriction}
use Rattle.tib_apply.proofs.Restricting.{IsListed, AreAdmitted, admits}
use Rattle.tib_transducer.specs.declared.Variable.{Variable}
use Rattle.tib_transducer.specs.declared.Pair.{Pair}
use Rattle.tib_apply.specs.Backward.{states_at}
use Rattle.tib_lex.proofs.Numbers.{nat_eq_cases}
use Rattle.tib_transducer.proofs.Counting.{number_at, place_number}

-- of pairs with distinct variables each is found by its variable
pub pairs_along :
    (xs : List (Pair ℕ)) (ss : List ℕ) (g : ℕ → ℕ × ℕ × ℕ) → Distinct (map (λ x. x.variable) xs) → length ss ≡ length xs →
    ((v : ℕ) → Has (map (λ x. x.variable) xs) v → ((g v).0 ≡ (states_at v xs ss).0) × ((g v).1 ≡ (states_at v xs ss).1)) →
    (map (λ k. k.0) (map g (map (λ x. x.variable) xs)) ≡ map (λ x. x.state) xs) × (map (λ k. k.1) (map g (map (λ x. x.variable) xs)) ≡ ss)
pairs_along [] [] g d e h = (refl, refl)
pairs_along [] (s ∷ ss) g d e h = absurd (omega arith)
pairs_along (x ∷ xs) [] g d e h = absurd (omega arith)
pairs_along (x ∷ xs) (s ∷ ss) g d e h =
    let first : ((g x.variable).0 ≡ x.state) × ((g x.variable).1 ≡ s) = here (h x.variable (inl refl)) in
    let more = pairs_along xs ss g d.1 (omega arith) (λ v m. there v m (h v (inr m))) in
    (cc (first.0, more.0), cc (first.1, more.1))
  where
    here :
        ((g x.variable).0 ≡ (states_at x.variable (x ∷ xs) (s ∷ ss)).0) × ((g x.variable).1 ≡ (states_at x.variable (x ∷ xs) (s ∷ ss)).1) →
        ((g x.variable).0 ≡ x.state) × ((g x.variable).1 ≡ s)
    here p = elim (nat_eq_cases x.variable x.variable) [ inl k ↦ rw k.1 at p | inr k ↦ absurd (k.0 refl) ]

    there :
        (v : ℕ) → Has (map (λ x. x.variable) xs) v → ((g v).0 ≡ (states_at v (x ∷ xs) (s ∷ ss)).0) × ((g v).1 ≡ (states_at v (x ∷ xs) (s ∷ ss)).1) →
        ((g v).0 ≡ (states_at v xs ss).0) × ((g v).1 ≡ (states_at v xs ss).1)
    there v m p = elim (nat_eq_cases v x.variable) [ inl k ↦ absurd (d.0 (subst (Has (map (λ x. x.variable) xs)) k.0 m)) | inr k ↦ rw k.1 at p ]

-- a filled side that begins with a label begins with that label
pub root_label : {P : Type 0} (s : Symbol ℕ P) (kids : Trees (Symbol ℕ P)) (args more : Trees ℕ) (f g : ℕ) → s ≡ label f → fill (tree s kids none) args ≡ tree g more none → f ≡ g
root_label (label h) kids args more f g e k = let one : h ≡ f = cc e in let two : h ≡ g = cc k in sym one ∙ two
root_label (hole p) kids args more f g e k = absurd (cc)

pub map_same_at : {K : Type 0} (g h : ℕ → K) (is : List ℕ) → ((i : ℕ) → Has is i → g i ≡ h i) → map g is ≡ map h is
map_same_at g h [] e = refl
map_same_at g h (i ∷ is) e = cc (e i (inl refl), map_same_at g h is (λ j m. e j (inr m)))

pub get_map : {A B : Type 0} (g : A → B) (xs : List A) (i : ℕ) (d : A) (d' : B) → i < length xs → get_or (map g xs) i d' ≡ g (get_or xs i d)
get_map g [] i d d' h = absurd (omega arith)
get_map g (x ∷ xs) zero d d' h = refl
get_map g (x ∷ xs) (suc i) d d' h = get_map g xs i d d' (omega arith)

pub map_long : {A B : Type 0} (g : A → B) (xs : List A) → length (map g xs) ≡ length xs
map_long g [] = refl
map_long g (x ∷ xs) = ap suc (map_long g xs)

pub each_to : {n m : ℕ} → n ≡ m → (is : List ℕ) → Each (λ i. i < n) is → Each (λ i. i < m) is
each_to e [] f = tt
each_to e (i ∷ is) f = (omega (arith, f.0), each_to e is f.1)

pub below_at : (n : ℕ) (ks : List ℕ) (i : ℕ) → AllBelow n ks → i < length ks → get_or ks i 0 < n
below_at n [] i a h = absurd (omega arith)
below_at n (k ∷ ks) zero a h = a.0
below_at n (k ∷ ks) (suc i) a h = below_at n ks i a.1 (omega arith)

pub all_below : (n : ℕ) (ks is : List ℕ) → AllBelow n ks → Each (λ i. i < length ks) is → AllBelow n (map (λ i. get_or ks i 0) is)
all_below n ks [] a e = tt
all_below n ks (i ∷ is) a e = (below_at n ks i a e.0, all_below n ks is a e.1)

-- the trees at some variables are admitted by the restrictions of these
pub picked_admitted :
    (labels : List ℕ) (vs : List Variable) (args : Trees ℕ) (is : List ℕ) → AreBound vs args → Each (IsListed labels) vs → Each (λ i. i < length vs) is →
    AreAdmitted labels (map (λ i. restriction labels (get_or vs i no_variable).label) is) (pick args is)
picked_admitted labels vs args [] b l e = tt
picked_admitted labels vs args (i ∷ is) b l e =
    at vs args i (map (λ i. restriction labels (get_or vs i no_variable).label) is) (pick args is) b l e.0 (picked_admitted labels vs args is b l e.1)
  where
    at :
        (vs : List Variable) (args : Trees ℕ) (i : ℕ) (rs : List ℕ) (more : Trees ℕ) → AreBound vs args → Each (IsListed labels) vs → i < length vs → AreAdmitted labels rs more →
        AreAdmitted labels (restriction labels (get_or vs i no_variable).label ∷ rs) (join (tree_at args i) more)
    at [] args i rs more b l h a = absurd (omega arith)
    at (v ∷ vs) none i rs more b l h a = absurd b
    at (v ∷ vs) (tree f kids rest) zero rs more b l h a = (admits labels v.label f l.0 b.0, a)
    at (v ∷ vs) (tree f kids rest) (suc i) rs more b l h a = at vs rest i rs more b.1 l.1 (omega arith) a
