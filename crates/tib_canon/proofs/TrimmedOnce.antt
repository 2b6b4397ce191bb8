-- Grammars with the same rules have one canonical form.
use Rattle.tib_grammar.proofs.Below.{below_front, below_back}
use Rattle.tib_cost.specs.declared.Scale.{Scale}
use Rattle.std.proofs.Common.{◌≡◌, ℕ, ◌<◌, List, [], ◌∷◌, length, get_or, refl, ap, sym, ◌∙◌, subst, arith, zero, suc, inl, inr}
use Rattle.std.proofs.lemmas.List.{length-map, get_or-map}
use Rattle.tib_lex.specs.Lists.{Has, Ascends}
use Rattle.tib_tree.specs.Trees.{Trees, none, tree, only, relabel}
use Rattle.tib_grammar.specs.Sides.{Symbol, label, hole, holes, HolesAreLeaves, symbol_map, side_map, Side}
use Rattle.tib_grammar.specs.GrammarOf.{GrammarOf, named_rule}
use Rattle.tib_grammar.specs.Range.{AllBelow, SidesEndInHoles}
use Rattle.tib_grammar.specs.Run.{rule_at, no_rule}
use Rattle.tib_grammar.specs.declared.Rule.{Rule}
use Rattle.tib_inside.specs.Trimmed.{IsTrimmed}
use Rattle.tib_inside.specs.Useful.{IsLive, IsUseful}
use Rattle.tib_canon.specs.Canonical.{IsCanonical}
use Rattle.tib_canon.proofs.Alike.{AreAlike, StandsAt, alike_self, alike_back, stands_at, live_moved, useful_moved}
use Rattle.tib_canon.proofs.One.{ascending_same, one_order_of}
use Rattle.tib_lex.proofs.Members.{has_at, at_has, each_has}

below_way : (x y : ℕ) → x < y → y < x → ⊥
below_way x y h k = omega arith

-- the place of a number among ascending numbers is determined by the number
pub place_told : (xs : List ℕ) (i j : ℕ) → Ascends ◌<◌ xs → i < length xs → j < length xs → get_or xs i 0 ≡ get_or xs j 0 → i ≡ j
place_told [] i j a h k e = absurd (omega arith)
place_told (x ∷ xs) zero zero a h k e = refl
place_told (x ∷ xs) zero (suc j) a h k e = let more : x < get_or xs j 0 = each_has (λ y. x < y) xs (get_or xs j 0) a.0 (has_at xs j 0 (omega arith)) in omega (arith, more, e)
place_told (x ∷ xs) (suc i) zero a h k e = let more : x < get_or xs i 0 = each_has (λ y. x < y) xs (get_or xs i 0) a.0 (has_at xs i 0 (omega arith)) in omega (arith, more, e)
place_told (x ∷ xs) (suc i) (suc j) a h k e = ap suc (place_told xs i j a.1 (omega arith) (omega arith) e)

-- trees over states below n, and nothing below a state
abbrev pub Fit : ℕ → Trees (Symbol ℕ ℕ) → Type 0
Fit n none = Unit {0}
Fit n (tree (label f) kids rest) = Fit n kids × Fit n rest
Fit n (tree (hole q) none rest) = (q < n) × Fit n rest
Fit n (tree (hole q) (tree s kids more) rest) = ⊥

pub fit_from : (n : ℕ) (ts : Trees (Symbol ℕ ℕ)) → AllBelow n (holes ts) → HolesAreLeaves ts → Fit n ts
fit_from n none b h = tt
fit_from n (tree (label f) kids rest) b h = (fit_from n kids (below_front n (holes kids) (holes rest) b) h.0, fit_from n rest (below_back n (holes kids) (holes rest) b) h.1)
fit_from n (tree (hole q) none rest) b h = (b.0, fit_from n rest b.1 h)
fit_from n (tree (hole q) (tree s kids more) rest) b h = absurd h

pub leaves_back : (f : ℕ → ℕ) (ts : Trees (Symbol ℕ ℕ)) → HolesAreLeaves (relabel (symbol_map f) ts) → HolesAreLeaves ts
leaves_back f none h = tt
leaves_back f (tree (label g) kids rest) h = (leaves_back f kids h.0, leaves_back f rest h.1)
leaves_back f (tree (hole q) none rest) h = leaves_back f rest h
leaves_back f (tree (hole q) (tree s kids more) rest) h = absurd h

-- trees that begin with labels and are the same begin with the same
pub label_is : {Q : Type 0} {g h : ℕ} {us bs cs ds : Trees (Symbol ℕ Q)} → tree (label g) us bs ≡ tree (label h) cs ds → (g ≡ h) × (us ≡ cs) × (bs ≡ ds)
label_is e = (cc, cc, cc)

-- and with the same holes
pub hole_is : {Q : Type 0} {p q : Q} {us bs cs ds : Trees (Symbol ℕ Q)} → tree (hole p) us bs ≡ tree (hole q) cs ds → (p ≡ q) × (bs ≡ ds)
hole_is e = (cc, cc)

module _ {Q : Type 0} (n : ℕ) (f : ℕ → Q) (tells : (i j : ℕ) → i < n → j < n → f i ≡ f j → i ≡ j) where
  trees_told : (ts us : Trees (Symbol ℕ ℕ)) → Fit n ts → Fit n us → relabel (symbol_map f) ts ≡ relabel (symbol_map f) us → ts ≡ us
  trees_told none none h k e = refl
  trees_told none (tree s kids rest) h k e = absurd (cc)
  trees_told (tree s kids rest) none h k e = absurd (cc)
  trees_told (tree (label g) us bs) (tree (label l) cs ds) h k e =
      let t = label_is e in
      let kids : us ≡ cs = trees_told us cs h.0 k.0 t.1 in
      let rest : bs ≡ ds = trees_told bs ds h.1 k.1 t.2 in
      ap (λ (x : ℕ). tree (label x) us bs) t.0 ∙ ap (λ (x : Trees (Symbol ℕ ℕ)). tree (label l) x bs) kids ∙ ap (λ (x : Trees (Symbol ℕ ℕ)). tree (label l) cs x) rest
  trees_told (tree (label g) us bs) (tree (hole q) cs ds) h k e = absurd (cc)
  trees_told (tree (hole p) us bs) (tree (label l) cs ds) h k e = absurd (cc)
  trees_told (tree (hole p) none bs) (tree (hole q) none ds) h k e =
      let t = hole_is e in
      let same : p ≡ q = tells p q h.0 k.0 t.0 in
      let rest : bs ≡ ds = trees_told bs ds h.1 k.1 t.1 in
      ap (λ (x : ℕ). tree (hole x) none bs) same ∙ ap (λ (x : Trees (Symbol ℕ ℕ)). tree (hole q) none x) rest
  trees_told (tree (hole p) (tree s kids more) bs) (tree (hole q) cs ds) h k e = absurd h
  trees_told (tree (hole p) none bs) (tree (hole q) (tree s kids more) ds) h k e = absurd k

  side_told : (s t : Side ℕ ℕ) → Fit n (only s) → Fit n (only t) → side_map f s ≡ side_map f t → s ≡ t
  side_told s t h k e =
      let o : only s ≡ only t = trees_told (only s) (only t) h k (ap only e) in
      let a : s.label ≡ t.label = cc o in
      let b : s.kids ≡ t.kids = cc o in
      ap (λ (l : Symbol ℕ ℕ). record { label = l; kids = s.kids }) a ∙ ap (λ (x : Trees (Symbol ℕ ℕ)). record { label = t.label; kids = x }) b

  pub rule_told : (r s : Rule ℕ) → r.left < n → s.left < n → Fit n (only r.right) → Fit n (only s.right) → named_rule f r ≡ named_rule f s → r ≡ s
  rule_told r s a b h k e =
      ap (λ (x : ℕ). record { left = x; right = r.right; cost = r.cost }) (tells r.left s.left a b (ap (λ (x : Rule Q). x.left) e))
      ∙ ap (λ (x : Side ℕ ℕ). record { left = s.left; right = x; cost = r.cost }) (side_told r.right s.right h k (ap (λ (x : Rule Q). x.right) e))
      ∙ ap (λ (x : ℕ). record { left = s.left; right = s.right; cost = x }) (ap (λ (x : Rule Q). x.cost) e)

abbrev pub place_in : List ℕ → ℕ → ℕ
place_in states i = get_or states i 0

-- a rule that is kept, with new numbers, is the one at its position
record IsKept (rules : List (Rule ℕ)) (states positions : List ℕ) (r : Rule ℕ) (m : ℕ) : Type 0 where
  left : r.left < length states
  right : Fit (length states) (only r.right)
  named : named_rule (place_in states) r ≡ rule_at rules (get_or positions m 0)

long_as : (product : ℕ → ℕ → ℕ) (g h : GrammarOf) (t : IsTrimmed product g h) → length h.rules ≡ length t.rules
long_as product g h t = sym (length-map h.rules (named_rule (place_in t.states))) ∙ ap length t.named ∙ length-map t.rules (rule_at g.rules)

kept_at : (product : ℕ → ℕ → ℕ) (g h : GrammarOf) (t : IsTrimmed product g h) → SidesEndInHoles g.rules → (m : ℕ) → m < length h.rules → IsKept g.rules t.states t.rules (rule_at h.rules m) m
kept_at product g h t leaves m k =
    let below : m < length t.rules = omega (arith, long_as product g h t) in
    let position : ℕ = get_or t.rules m 0 in
    let is : named_rule (place_in t.states) (rule_at h.rules m) ≡ rule_at g.rules position =
    sym (get_or-map (named_rule (place_in t.states)) h.rules m no_rule no_rule k) ∙ ap (λ (rs : List (Rule ℕ)). get_or rs m no_rule) t.named ∙ get_or-map (rule_at g.rules) t.rules m 0 no_rule below in
    let live = (t.are_rules position).0 (has_at t.rules m 0 below) in
    let there : HolesAreLeaves (only (rule_at g.rules position).right) = leaves position live.0.below in
    let here : HolesAreLeaves (only (rule_at h.rules m).right) = leaves_back (place_in t.states) (only (rule_at h.rules m).right) (subst (λ (r : Rule ℕ). HolesAreLeaves (only r.right)) (sym is) there) in
    record { left = (t.in_range m k).0; right = fit_from (length t.states) (only (rule_at h.rules m).right) (t.in_range m k).1 here; named = is }

-- rules that are kept at positions of the same rule are the same
kept_told :
    (rules others : List (Rule ℕ)) (states positions places : List ℕ) (r s : Rule ℕ) (m n : ℕ) → Ascends ◌<◌ states → rule_at others (get_or places n 0) ≡ rule_at rules (get_or positions m 0) →
    IsKept rules states positions r m → IsKept others states places s n → s ≡ r
kept_told rules others states positions places r s m n up e a b =
    rule_told (length states) (place_in states) (λ i j h k d. place_told states i j up h k d) s r b.left a.left b.right a.right (b.named ∙ e ∙ sym a.named)

-- some position is that of the same rule
record HasSamePlace (rules others : List (Rule ℕ)) (positions places : List ℕ) (m : ℕ) : Type 0 where
  place : ℕ
  below : place < length places
  is : rule_at others (get_or places place 0) ≡ rule_at rules (get_or positions m 0)

same_place :
    (rules others : List (Rule ℕ)) (positions places : List ℕ) (m n : ℕ) → rule_at others n ≡ rule_at rules (get_or positions m 0) → Has places n → HasSamePlace rules others positions places m
same_place rules others positions places m n e h =
    let p = at_has places n 0 h in
    record { place = p.0; below = p.1; is = subst (λ (x : ℕ). rule_at others x ≡ rule_at rules (get_or positions m 0)) (sym p.2) e }

-- what is kept of a grammar, and of another with the same rules
module _ (product : ℕ → ℕ → ℕ) (g k h i : GrammarOf) (alike : AreAlike g.rules k.rules) (a : IsTrimmed product g h) (b : IsTrimmed product k i) where
  state_kept : (q : ℕ) → Has a.states q → Has b.states q
  state_kept q s = (b.are_states q).1 (elim ((a.are_states q).0 s) [ inl e ↦ inl e | inr u ↦ inr (useful_moved product g.rules k.rules alike q u) ])

  position_kept : (n : ℕ) (p : StandsAt g.rules k.rules n) → IsLive product g.rules n → IsUseful product g.rules (rule_at g.rules n).left → Has b.rules p.position
  position_kept n p l u =
      let useful : IsUseful product k.rules (rule_at k.rules p.position).left = subst (λ (x : Rule ℕ). IsUseful product k.rules x.left) (sym p.is) (useful_moved product g.rules k.rules alike (rule_at g.rules n).left u) in
      (b.are_rules p.position).1 (live_moved product g.rules k.rules alike n p.position p.below p.is l, useful)

  place_kept : (m : ℕ) → m < length a.rules → HasSamePlace g.rules k.rules a.rules b.rules m
  place_kept m below =
      let live = (a.are_rules (get_or a.rules m 0)).0 (has_at a.rules m 0 below) in
      let p = stands_at g.rules k.rules alike (get_or a.rules m 0) live.0.below in
      same_place g.rules k.rules a.rules b.rules m p.position p.is (position_kept (get_or a.rules m 0) p live.0 live.1)

  kept_has : SidesEndInHoles g.rules → SidesEndInHoles k.rules → a.states ≡ b.states → (m : ℕ) → m < length h.rules → Has i.rules (rule_at h.rules m)
  kept_has leaves others states m below =
      let p = place_kept m (omega (arith, below, long_as product g h a)) in
      let within : p.place < length i.rules = omega (arith, p.below, long_as product k i b) in
      let one : IsKept g.rules b.states a.rules (rule_at h.rules m) m = subst (λ (qs : List ℕ). IsKept g.rules qs a.rules (rule_at h.rules m) m) states (kept_at product g h a leaves m below) in
      subst (Has i.rules)
      (kept_told g.rules k.rules b.states a.rules b.rules (rule_at h.rules m) (rule_at i.rules p.place) m p.place b.states_ascend p.is one (kept_at product k i b others p.place within))
      (has_at i.rules p.place no_rule within)

  rule_kept : SidesEndInHoles g.rules → SidesEndInHoles k.rules → a.states ≡ b.states → (r : Rule ℕ) → Has h.rules r → Has i.rules r
  rule_kept leaves others states r s =
      let m = at_has h.rules r no_rule s in
      subst (Has i.rules) m.2 (kept_has leaves others states m.0 m.1)

-- as many names as states
pub names_long : (product : ℕ → ℕ → ℕ) (g h : GrammarOf) (t : IsTrimmed product g h) → length h.names ≡ length t.states
names_long product g h t = ap length t.names ∙ length-map t.states (λ q. get_or g.names q [])

-- of grammars with the same rules the same states and rules are kept
pub trimmed_alike :
    (product : ℕ → ℕ → ℕ) (g k h i : GrammarOf) → SidesEndInHoles g.rules → SidesEndInHoles k.rules → AreAlike g.rules k.rules → (a : IsTrimmed product g h) (b : IsTrimmed product k i) →
    (a.states ≡ b.states) × AreAlike h.rules i.rules
trimmed_alike product g k h i leaves others alike a b =
    let back : AreAlike k.rules g.rules = alike_back g.rules k.rules alike in
    let states : a.states ≡ b.states =
    ascending_same ◌<◌ below_way a.states b.states a.states_ascend b.states_ascend (state_kept product g k h i alike a b) (state_kept product k g i h back b a) in
    (states, record { to = rule_kept product g k h i alike a b leaves others states; from = rule_kept product k g i h back b a others leaves (sym states) })

-- grammars with the same rules have one canonical form, whatever the names of their states and the
-- order of their rules
pub one_canonical_of :
    (product : ℕ → ℕ → ℕ) (scale : Scale) (labels : List (List ℕ)) (g k h i : GrammarOf) → SidesEndInHoles g.rules → SidesEndInHoles k.rules → AreAlike g.rules k.rules →
    IsCanonical product scale labels g h → IsCanonical product scale labels k i → h ≡ i
one_canonical_of product scale labels g k h i leaves others alike c d =
    let a : IsTrimmed product g c.trimmed = c.is_trimmed in
    let b : IsTrimmed product k d.trimmed = d.is_trimmed in
    let same = trimmed_alike product g k c.trimmed d.trimmed leaves others alike a b in
    let long : length c.trimmed.names ≡ length d.trimmed.names = omega (arith, names_long product g c.trimmed a, ap length same.0, names_long product k d.trimmed b) in
    one_order_of scale labels c.trimmed d.trimmed h i long same.1 c.in_order d.in_order

pub one_canonical : (product : ℕ → ℕ → ℕ) (scale : Scale) (labels : List (List ℕ)) (g h i : GrammarOf) → SidesEndInHoles g.rules → IsCanonical product scale labels g h → IsCanonical product scale labels g i → h ≡ i
one_canonical product scale labels g h i leaves a b = one_canonical_of product scale labels g g h i leaves leaves (alike_self g.rules) a b
