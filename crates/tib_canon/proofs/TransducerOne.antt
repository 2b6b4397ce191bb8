-- At most one transducer is in canonical order, and its series is kept.
use Rattle.tib_cost.specs.declared.Scale.{Scale}
use Rattle.std.proofs.Common.{◌≡◌, ℕ, ◌≤◌, Bool, List, length, ap, sym, ◌∙◌, subst, arith}
use Rattle.std.specs.Cmp.{IsTotalOrder}
use Rattle.std.specs.declared.cmp.Ordering.TheVariants.{Less}
use Rattle.std.proofs.lemmas.Cmp.{on_total, then_total, nat_cmp_total, nat_list_cmp_total}
use Rattle.tib_lex.specs.Lists.{Has, Each, Ascends}
use Rattle.tib_lex.proofs.Members.{each_has, each_of}
use Rattle.tib_cost.specs.Semiring.{ProductLaws}
use Rattle.tib_transducer.specs.TransducerOf.{TransducerOf}
use Rattle.tib_transducer.specs.Series.{Covers, HaveSameSeries}
use Rattle.tib_transducer.specs.declared.TransducerRule.{TransducerRule}
use Rattle.tib_transducer.proofs.Covering.{same_series, covers_members}
use Rattle.tib_transducer_file.specs.ByName.{IsPrintable, line_text}
use Rattle.tib_canon.specs.Canonical.{names_of}
use Rattle.tib_canon.proofs.One.{ascending_same, one_less}
use Rattle.tib_canon.proofs.StateNames.{length-names_of}
use Rattle.tib_canon.specs.Ordered.{move_cmp, AgreeInSides, AreMerged, IsSortedForm, over_numbers, IsTransducerInOrder}
use Rattle.tib_canon.proofs.Merged.{agree_back}

pub kept_printable : (scale : Scale) (labels : List (List ℕ)) (rules others : List (TransducerRule ℕ)) → ((r : TransducerRule ℕ) → Has others r → Has rules r) → Each (IsPrintable scale labels) rules → Each (IsPrintable scale labels) others
kept_printable scale labels rules others kept p = each_of (IsPrintable scale labels) others (λ r h. each_has (IsPrintable scale labels) rules r p (kept r h))

-- merged and then sorted is in order
pub order_of :
    (scale : Scale) (labels : List (List ℕ)) (states : ℕ) (rules : List (TransducerRule ℕ)) (t h : TransducerOf) → t.names ≡ names_of states → AreMerged rules t.rules → IsSortedForm scale labels t h →
    IsTransducerInOrder scale labels (over_numbers states rules) h
order_of scale labels states rules t h named m s = record {
  names = s.names ∙ named ∙ ap names_of (sym (length-names_of states));
  kept = λ r k. m.kept r (s.to r k);
  least = λ r u k l a. m.least r u (s.to r k) l a;
  whole = λ r k. let w = m.whole r k in record { rule = w.rule; stands = s.from w.rule w.stands; agrees = w.agrees };
  ascends = s.ascends;
}

pub moves_total : (scale : Scale) (names labels : List (List ℕ)) → IsTotalOrder (move_cmp scale names labels)
moves_total scale names labels = then_total (on_total (λ (r : TransducerRule ℕ). r.state) nat_cmp_total) (on_total (line_text scale names labels) nat_list_cmp_total)

moves_one_way : (scale : Scale) (names labels : List (List ℕ)) (r s : TransducerRule ℕ) → move_cmp scale names labels r s ≡ Less → move_cmp scale names labels s r ≡ Less → ⊥
moves_one_way scale names labels r s e f = one_less (move_cmp scale names labels s r) f (sym e ∙ (moves_total scale names labels).antisymm r s)

move_same : (r s : TransducerRule ℕ) → AgreeInSides r s → r.cost ≡ s.cost → r ≡ s
move_same r s a e =
    ap (λ x. record { state = x; left = r.left; right = r.right; cost = r.cost }) a.state
    ∙ ap (λ x. record { state = s.state; left = x; right = r.right; cost = r.cost }) a.left
    ∙ ap (λ x. record { state = s.state; left = s.left; right = x; cost = r.cost }) a.right
    ∙ ap (λ x. record { state = s.state; left = s.left; right = s.right; cost = x }) e

-- the same rules, whatever their order and however often one of them occurs
pub record AreAlike (xs ys : List (TransducerRule ℕ)) : Type 0 where
  pub to : (r : TransducerRule ℕ) → Has xs r → Has ys r
  pub from : (r : TransducerRule ℕ) → Has ys r → Has xs r

same_members :
    (scale : Scale) (labels : List (List ℕ)) (t u h i : TransducerOf) → AreAlike t.rules u.rules → IsTransducerInOrder scale labels t h → IsTransducerInOrder scale labels u i → (r : TransducerRule ℕ) → Has h.rules r → Has i.rules r
same_members scale labels t u h i alike a b r m =
    let w = b.whole r (alike.to r (a.kept r m)) in
    let low : w.rule.cost ≤ r.cost = b.least w.rule r w.stands (alike.to r (a.kept r m)) w.agrees in
    let high : r.cost ≤ w.rule.cost = a.least r w.rule m (alike.from w.rule (b.kept w.rule w.stands)) (agree_back w.rule r w.agrees) in
    subst (Has i.rules) (move_same w.rule r w.agrees (omega (arith, low, high))) w.stands

-- transducers of as many states with the same rules have one form in canonical order
pub one_order_of :
    (scale : Scale) (labels : List (List ℕ)) (t u h i : TransducerOf) → length t.names ≡ length u.names → AreAlike t.rules u.rules → IsTransducerInOrder scale labels t h → IsTransducerInOrder scale labels u i → h ≡ i
one_order_of scale labels t u h i long alike a b =
    let names : h.names ≡ i.names = a.names ∙ ap names_of long ∙ sym b.names in
    let mine : Ascends (λ r s. move_cmp scale i.names labels r s ≡ Less) h.rules = subst (λ (ns : List (List ℕ)). Ascends (λ r s. move_cmp scale ns labels r s ≡ Less) h.rules) names a.ascends in
    let rules : h.rules ≡ i.rules =
    ascending_same (λ r s. move_cmp scale i.names labels r s ≡ Less) (moves_one_way scale i.names labels) h.rules i.rules mine b.ascends
    (same_members scale labels t u h i alike a b) (same_members scale labels u t i h (record { to = alike.from; from = alike.to }) b a) in
    ap (λ (ns : List (List ℕ)). record { names = ns; rules = h.rules }) names ∙ ap (λ (rs : List (TransducerRule ℕ)). record { names = i.names; rules = rs }) rules

covered : (scale : Scale) (labels : List (List ℕ)) (t h : TransducerOf) → IsTransducerInOrder scale labels t h → Covers h.rules t.rules
covered scale labels t h a r k =
    let w = a.whole r k in
    record { rule = w.rule; stands = w.stands; state = w.agrees.state; left = w.agrees.left; right = w.agrees.right; costs = a.least w.rule r w.stands k w.agrees }

-- canonical order keeps the series of each state
pub series_kept : {levelled weighed : Bool} {product : ℕ → ℕ → ℕ} → ProductLaws levelled weighed product → (scale : Scale) (labels : List (List ℕ)) (t h : TransducerOf) → IsTransducerInOrder scale labels t h → HaveSameSeries product t.rules h.rules
series_kept laws scale labels t h a = same_series laws t.rules h.rules (covered scale labels t h a) (covers_members h.rules t.rules a.kept)
