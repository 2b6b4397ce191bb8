-- A rule that is appended to those that wait for a state.
use Rattle.std.specs.Prelude.{◌≡◌, ℕ, ◌<◌, List, [], ◌∷◌, ◌++◌, length, map, Option, None, Some, IfSome, IfNone, refl}
use Rattle.std.specs.Option.{option_to_list}
use Rattle.tib_lex.proofs.Lists.{append_nil}
use Rattle.tib_k_best.specs.Queues.{IsPopped}
use Rattle.std.proofs.Common.{zero, suc, arith, ap, sym, subst, ◌∙◌, get_or}
use Rattle.std.specs.Global.{Vec}
use Rattle.std.proofs.Math.ListN.{set}
use Rattle.std.proofs.lemmas.List.{map-set, length-map, get_or-set_same}
use Rattle.tib_ranked_trees.proofs.Children.{get_or-map}
use Rattle.tib_k_best.specs.QueueOf.{QueueOf, rules_of, waiting_at}
use Rattle.tib_k_best.specs.declared.queue.Waiting.{Waiting}

pub wait_put :
    (x now : QueueOf) → x ≡ now → (vs : List (Vec Waiting)) → map rules_of vs ≡ x.waiting → (q : ℕ) → q < length vs → (v w d : Vec Waiting) (e : Waiting) → v ≡ get_or vs q d → w.items ≡ v.items ++ e ∷ [] →
    record x { waiting = map rules_of (set vs q w) } ≡ record now { waiting = set now.waiting q (waiting_at now q ++ e ∷ []) }
wait_put x now same vs f q h v w d e r p =
    let old : rules_of v ≡ get_or x.waiting q [] = ap rules_of r ∙ sym (get_or-map rules_of vs q d [] h) ∙ ap (λ (ls : List (List Waiting)). get_or ls q []) f in
    let new : rules_of w ≡ get_or x.waiting q [] ++ e ∷ [] = p ∙ ap (λ (es : List Waiting). es ++ e ∷ []) old in
    let put : map rules_of (set vs q w) ≡ set x.waiting q (get_or x.waiting q [] ++ e ∷ []) =
    map-set rules_of vs q w ∙ ap (λ (ls : List (List Waiting)). set ls q (rules_of w)) f ∙ ap (λ (es : List Waiting). set x.waiting q es) new
    in
    ap (λ (ls : List (List Waiting)). record x { waiting = ls }) put ∙ ap (λ (y : QueueOf). record y { waiting = set y.waiting q (waiting_at y q ++ e ∷ []) }) same

set_itself : {A : Type 0} (xs : List A) (i : ℕ) (d : A) → i < length xs → set xs i (get_or xs i d) ≡ xs
set_itself {A} [] i d h = absurd (omega arith)
set_itself {A} (x ∷ xs) zero d h = refl
set_itself {A} (x ∷ xs) (suc i) d h = ap (λ (ys : List A). x ∷ ys) (set_itself xs i d (omega arith))

module _ (x now : QueueOf) (same : x ≡ now) (vs : List (Vec Waiting)) (f : map rules_of vs ≡ x.waiting) (q : ℕ) (h : q < length vs) (v w d : Vec Waiting) (r : v ≡ get_or vs q d) where
  abbrev after : QueueOf
  after = record x { waiting = map rules_of (set vs q w) }

  was : rules_of v ≡ waiting_at now q
  was = ap rules_of r ∙ sym (get_or-map rules_of vs q d [] h) ∙ ap (λ (ls : List (List Waiting)). get_or ls q []) f ∙ ap (λ (y : QueueOf). waiting_at y q) same

  long : q < length x.waiting
  long = omega (arith, h, length-map vs rules_of, ap (λ (ls : List (List Waiting)). length ls) f)

  now_is : waiting_at after q ≡ w.items
  now_is =
      ap (λ (ls : List (List Waiting)). get_or ls q []) (map-set rules_of vs q w ∙ ap (λ (ls : List (List Waiting)). set ls q (rules_of w)) f) ∙ get_or-set_same x.waiting q (rules_of w) [] long

  rest_is : (bs : List Waiting) → bs ≡ w.items → after ≡ record now { waiting = set now.waiting q bs }
  rest_is bs e =
      ap (λ (ls : List (List Waiting)). record x { waiting = ls }) (map-set rules_of vs q w ∙ ap (λ (ls : List (List Waiting)). set ls q (rules_of w)) f ∙ ap (λ (cs : List Waiting). set x.waiting q cs) (sym e))
      ∙ ap (λ (y : QueueOf). record y { waiting = set y.waiting q bs }) same

  pub pop_some : (o : Option Waiting) → v.items ≡ w.items ++ option_to_list o → IfSome o (λ a. IsPopped now q a after)
  pop_some None e = tt
  pop_some (Some a) e = record { was = sym was ∙ e ∙ ap (λ (cs : List Waiting). cs ++ a ∷ []) (sym now_is); rest = rest_is (waiting_at after q) now_is }

  pub pop_none : (o : Option Waiting) → v.items ≡ w.items ++ option_to_list o → IfNone o (after ≡ now)
  pop_none None e =
      let i : waiting_at now q ≡ w.items = sym was ∙ e ∙ append_nil w.items in
      let l : q < length now.waiting = subst (λ (y : QueueOf). q < length y.waiting) same long in
      rest_is (waiting_at now q) i ∙ ap (λ (ls : List (List Waiting)). record now { waiting = ls }) (set_itself now.waiting q [] l)
  pop_none (Some a) e = tt
