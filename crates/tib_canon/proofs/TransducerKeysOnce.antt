-- Rules over the positions of an order have one canonical transducer, whatever their order.
use Rattle.tib_cost.specs.declared.Scale.{Scale}
use Rattle.std.proofs.Common.{◌≡◌, ℕ, ◌<◌, List, ◌++◌, length, map, get_or, refl, ap, sym, ◌∙◌, subst}
use Rattle.std.proofs.lemmas.List.{map-append}
use Rattle.std.specs.Cmp.{IsTotalOrder}
use Rattle.std.specs.declared.cmp.Ordering.{Ordering}
use Rattle.tib_lex.specs.Lists.{Has}
use Rattle.tib_lex.proofs.Lists.{has_mapped}
use Rattle.tib_lex.proofs.Members.{at_has}
use Rattle.tib_tree.specs.Trees.{Trees, none, tree, only, relabel}
use Rattle.tib_grammar.specs.Range.{AllBelow}
use Rattle.tib_grammar.specs.Sides.{Symbol, label, hole, holes, symbol_map, side_map, HolesAreLeaves, Side}
use Rattle.tib_grammar.proofs.Below.{below_front, below_back}
use Rattle.tib_inside.proofs.Chosen.{distinct_at}
use Rattle.tib_transducer.specs.Range.{IsWithin, EndsInHoles, EndInHoles}
use Rattle.tib_transducer.specs.Rules.{transducer_rule, no_rule}
use Rattle.tib_transducer.specs.TransducerOf.{TransducerOf}
use Rattle.tib_transducer.specs.declared.Pair.{Pair}
use Rattle.tib_transducer.specs.declared.TransducerRule.{TransducerRule}
use Rattle.tib_canon.proofs.KeysOnce.{by_keys_once}
use Rattle.tib_canon.proofs.TrimmedOnce.{label_is, hole_is}
use Rattle.tib_transducer.specs.NamedPairs.{named_pair}
use Rattle.tib_key_edges.specs.Named.{named_transducer_rule}
use Rattle.tib_canon.specs.TransducerKeys.{IsTransducerOverKeys, IsCanonicalTransducer}
use Rattle.tib_canon.proofs.TransducerNamed.{ends_back}
use Rattle.tib_canon.proofs.TransducerOne.{AreAlike, one_order_of}
use Rattle.tib_canon.proofs.TransducerOverKeys.{stands_for, many_names}

-- trees over pairs whose states are below n, and nothing below a pair
abbrev pub FitPairs : ℕ → Trees (Symbol ℕ (Pair ℕ)) → Type 0
FitPairs n none = Unit {0}
FitPairs n (tree (label f) kids rest) = FitPairs n kids × FitPairs n rest
FitPairs n (tree (hole x) none rest) = (x.state < n) × FitPairs n rest
FitPairs n (tree (hole x) (tree s kids more) rest) = ⊥

fit_from : (n : ℕ) (ts : Trees (Symbol ℕ (Pair ℕ))) → AllBelow n (map (λ x. x.state) (holes ts)) → HolesAreLeaves ts → FitPairs n ts
fit_from n none b h = tt
fit_from n (tree (label f) kids rest) b h =
    let both : AllBelow n (map (λ (x : Pair ℕ). x.state) (holes kids) ++ map (λ (x : Pair ℕ). x.state) (holes rest)) = subst (AllBelow n) (map-append (λ (x : Pair ℕ). x.state) (holes kids) (holes rest)) b in (
      fit_from n kids (below_front n (map (λ x. x.state) (holes kids)) (map (λ x. x.state) (holes rest)) both) h.0,
      fit_from n rest (below_back n (map (λ x. x.state) (holes kids)) (map (λ x. x.state) (holes rest)) both) h.1,
    )
fit_from n (tree (hole x) none rest) b h = (b.0, fit_from n rest b.1 h)
fit_from n (tree (hole x) (tree s kids more) rest) b h = absurd h

module _ {Q : Type 0} (n : ℕ) (f : ℕ → Q) (tells : (i j : ℕ) → i < n → j < n → f i ≡ f j → i ≡ j) where
  pair_told : (x y : Pair ℕ) → x.state < n → y.state < n → named_pair f x ≡ named_pair f y → x ≡ y
  pair_told x y a b e =
      ap (λ (q : ℕ). record { state = q; variable = x.variable }) (tells x.state y.state a b (ap (λ (z : Pair Q). z.state) e))
      ∙ ap (λ (v : ℕ). record { state = y.state; variable = v }) (ap (λ (z : Pair Q). z.variable) e)

  trees_told : (ts us : Trees (Symbol ℕ (Pair ℕ))) → FitPairs n ts → FitPairs n us → relabel (symbol_map (named_pair f)) ts ≡ relabel (symbol_map (named_pair f)) us → ts ≡ us
  trees_told none none h k e = refl
  trees_told none (tree s kids rest) h k e = absurd (cc)
  trees_told (tree s kids rest) none h k e = absurd (cc)
  trees_told (tree (label g) us bs) (tree (label l) cs ds) h k e =
      let t = label_is e in
      let kids : us ≡ cs = trees_told us cs h.0 k.0 t.1 in
      let rest : bs ≡ ds = trees_told bs ds h.1 k.1 t.2 in
      ap (λ (x : ℕ). tree (label x) us bs) t.0 ∙ ap (λ (x : Trees (Symbol ℕ (Pair ℕ))). tree (label l) x bs) kids ∙ ap (λ (x : Trees (Symbol ℕ (Pair ℕ))). tree (label l) cs x) rest
  trees_told (tree (label g) us bs) (tree (hole q) cs ds) h k e = absurd (cc)
  trees_told (tree (hole p) us bs) (tree (label l) cs ds) h k e = absurd (cc)
  trees_told (tree (hole p) none bs) (tree (hole q) none ds) h k e =
      let t = hole_is e in
      let same : p ≡ q = pair_told p q h.0 k.0 t.0 in
      let rest : bs ≡ ds = trees_told bs ds h.1 k.1 t.1 in
      ap (λ (x : Pair ℕ). tree (hole x) none bs) same ∙ ap (λ (x : Trees (Symbol ℕ (Pair ℕ))). tree (hole q) none x) rest
  trees_told (tree (hole p) (tree s kids more) bs) (tree (hole q) cs ds) h k e = absurd h
  trees_told (tree (hole p) none bs) (tree (hole q) (tree s kids more) ds) h k e = absurd k

  side_told : (s t : Side ℕ (Pair ℕ)) → FitPairs n (only s) → FitPairs n (only t) → side_map (named_pair f) s ≡ side_map (named_pair f) t → s ≡ t
  side_told s t h k e =
      let o : only s ≡ only t = trees_told (only s) (only t) h k (ap only e) in
      let a : s.label ≡ t.label = cc o in
      let b : s.kids ≡ t.kids = cc o in
      ap (λ (l : Symbol ℕ (Pair ℕ)). record { label = l; kids = s.kids }) a ∙ ap (λ (x : Trees (Symbol ℕ (Pair ℕ))). record { label = t.label; kids = x }) b

  -- a rule is determined by what its states are exchanged for
  pub move_told : (r s : TransducerRule ℕ) → IsWithin n r → IsWithin n s → EndsInHoles r → EndsInHoles s → named_transducer_rule f r ≡ named_transducer_rule f s → r ≡ s
  move_told r s a b l k e =
      ap (λ x. record { state = x; left = r.left; right = r.right; cost = r.cost }) (tells r.state s.state a.0 b.0 (ap (λ (x : TransducerRule Q). x.state) e))
      ∙ ap (λ x. record { state = s.state; left = x; right = r.right; cost = r.cost }) (ap (λ (x : TransducerRule Q). x.left) e)
      ∙ ap (λ x. record { state = s.state; left = s.left; right = x; cost = r.cost })
      (side_told r.right s.right (fit_from n (only r.right) a.1 l.1) (fit_from n (only s.right) b.1 k.1) (ap (λ (x : TransducerRule Q). x.right) e))
      ∙ ap (λ x. record { state = s.state; left = s.left; right = s.right; cost = x }) (ap (λ (x : TransducerRule Q). x.cost) e)

-- what holds for each rule by its place holds for each member
pub member_is : (P : TransducerRule ℕ → Type 0) (rules : List (TransducerRule ℕ)) → ((m : ℕ) → m < length rules → P (transducer_rule rules m)) → (r : TransducerRule ℕ) → Has rules r → P r
member_is P rules f r h = let at = at_has rules r no_rule h in subst P at.2 (f at.0 at.1)

module _ {K : Type 0} (cmp : K → K → Ordering) (order : List K) (start : ℕ) where
  over_leaves : (xs : List (TransducerRule ℕ)) (t : TransducerOf) (o : IsTransducerOverKeys cmp order xs start t) → EndInHoles xs → (r : TransducerRule ℕ) → Has t.rules r → EndsInHoles r
  over_leaves xs t o leaves r h =
      ends_back (λ i. get_or o.states i 0) r (member_is EndsInHoles xs leaves (named_transducer_rule (λ i. get_or o.states i 0) r) (stands_for cmp order start xs t o r h))

  stands_over :
      (xs ys : List (TransducerRule ℕ)) (t u : TransducerOf) (a : IsTransducerOverKeys cmp order xs start t) (b : IsTransducerOverKeys cmp order ys start u) → a.states ≡ b.states → EndInHoles xs → EndInHoles ys →
      ((r : TransducerRule ℕ) → Has xs r → Has ys r) → (r : TransducerRule ℕ) → Has t.rules r → Has u.rules r
  stands_over xs ys t u a b same leaves others to r h =
      let f : ℕ → ℕ = λ i. get_or b.states i 0 in
      let there : Has ys (named_transducer_rule (λ i. get_or a.states i 0) r) = to (named_transducer_rule (λ i. get_or a.states i 0) r) (stands_for cmp order start xs t a r h) in
      let s = has_mapped (named_transducer_rule f) u.rules (named_transducer_rule (λ i. get_or a.states i 0) r)
      (subst (λ (rs : List (TransducerRule ℕ)). Has rs (named_transducer_rule (λ i. get_or a.states i 0) r)) (sym b.numbered.named) there) in
      let renamed : named_transducer_rule f s.0 ≡ named_transducer_rule f r = s.2 ∙ ap (λ (qs : List ℕ). named_transducer_rule (λ i. get_or qs i 0) r) same in
      let mine : IsWithin (length b.states) r = subst (λ (qs : List ℕ). IsWithin (length qs) r) same (member_is (IsWithin (length a.states)) t.rules a.numbered.in_range r h) in
      let its : IsWithin (length b.states) s.0 = member_is (IsWithin (length b.states)) u.rules b.numbered.in_range s.0 s.1 in
      subst (Has u.rules)
      (move_told (length b.states) f (λ i j k l e. distinct_at b.states i j 0 b.numbered.once k l e) s.0 r its mine (over_leaves ys u b others s.0 s.1) (over_leaves xs t a leaves r h) renamed) s.1

  pub over_alike :
      IsTotalOrder cmp → (xs ys : List (TransducerRule ℕ)) (t u : TransducerOf) → IsTransducerOverKeys cmp order xs start t → IsTransducerOverKeys cmp order ys start u → EndInHoles xs → EndInHoles ys →
      ((r : TransducerRule ℕ) → Has xs r → Has ys r) → ((r : TransducerRule ℕ) → Has ys r → Has xs r) → AreAlike t.rules u.rules
  over_alike total xs ys t u a b leaves others to from =
      let same = by_keys_once cmp total order start a.states b.states a.by_keys b.by_keys in
      record { to = stands_over xs ys t u a b same leaves others to; from = stands_over ys xs u t b a (sym same) others leaves from }

pub transducer_once :
    {K : Type 0} (cmp : K → K → Ordering) → IsTotalOrder cmp → (scale : Scale) (labels : List (List ℕ)) (order : List K) (xs ys : List (TransducerRule ℕ)) (start : ℕ) (h i : TransducerOf) →
    ((r : TransducerRule ℕ) → Has xs r → Has ys r) → ((r : TransducerRule ℕ) → Has ys r → Has xs r) → EndInHoles xs → EndInHoles ys →
    IsCanonicalTransducer scale labels cmp order xs start h → IsCanonicalTransducer scale labels cmp order ys start i → h ≡ i
transducer_once cmp total scale labels order xs ys start h i to from leaves others a b =
    one_order_of scale labels a.over b.over h i (many_names cmp order start xs a.over a.is_over ∙ sym (many_names cmp order start ys b.over b.is_over))
    (over_alike cmp order start total xs ys a.over b.over a.is_over b.is_over leaves others to from) a.in_order b.in_order
