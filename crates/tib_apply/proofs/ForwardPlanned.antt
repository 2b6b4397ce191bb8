-- What rules do, from lists of restrictions and marks.
use Rattle.std.specs.Prelude.{◌≡◌, ℕ, ◌+◌, ◌<◌, Bool, false, nat_eq, List, [], ◌∷◌, ◌++◌, length, map, take, refl, if◌then◌else◌}
use Rattle.std.specs.List.{list_any}
use Rattle.std.proofs.Common.{zero, suc, arith, ap, sym, ◌∙◌, subst, get_or}
use Rattle.tib_lex.specs.Lists.{Each}
use Rattle.tib_lex.proofs.Alongs.{along_more}
use Rattle.tib_lex.proofs.Lists.{each_mapped}
use Rattle.tib_lex.proofs.Places.{take_next}
use Rattle.tib_tree.specs.Trees.{preorder_of}
use Rattle.tib_grammar.specs.Sides.{Side as SideFor, holes_of}
use Rattle.tib_grammar.specs.Items.{pairs_of, holes_in}
use Rattle.tib_grammar.specs.declared.Item.{Item}
use Rattle.tib_grammar.proofs.Holes.{holes_of_items}
use Rattle.tib_transducer.specs.Rules.{no_variable, no_rule, transducer_rule, variables_of, variables_in}
use Rattle.tib_transducer.specs.Range.{AreNumbered, IsShaped}
use Rattle.tib_transducer.specs.declared.Variable.{Variable}
use Rattle.tib_transducer.specs.declared.Pair.{Pair}
use Rattle.tib_transducer.specs.declared.TransducerRule.{TransducerRule}
use Rattle.tib_apply.specs.Restrictions.{restriction}
use Rattle.tib_apply.specs.ForwardPlans.{end_of, planned_end, unmarked_of, left_out, IsPlan, ArePlans}
use Rattle.tib_apply.specs.declared.forward_plan.PlannedEnd.{PlannedEnd}
use Rattle.tib_apply.specs.declared.forward_plan.Plan.{Plan}

-- ends and marks

pub each_map : {A B : Type 0} (Q : B → Type 0) (f : A → B) (xs : List A) → Each (λ x. Q (f x)) xs → Each Q (map f xs)
each_map Q f [] h = tt
each_map Q f (x ∷ xs) h = (h.0, each_map Q f xs h.1)

numbered_from : (n : ℕ) (xs : List Variable) → AreNumbered n xs → Each (λ x. x.number < n + length xs) xs
numbered_from n [] h = tt
numbered_from n (x ∷ xs) h =
    let e : suc n + length xs ≡ n + suc (length xs) = omega arith in
    (omega (arith, h.0), subst (λ m. Each (λ x. x.number < m) xs) e (numbered_from (suc n) xs h.1))

-- the numbers of variables are below their count
pub numbered_below : (xs : List Variable) → AreNumbered 0 xs → Each (λ x. x.number < length xs) xs
numbered_below xs h = let e : 0 + length xs ≡ length xs = omega arith in subst (λ m. Each (λ x. x.number < m) xs) e (numbered_from 0 xs h)

listed_at : (labels : List ℕ) (xs : List Variable) (i : ℕ) → get_or (map (λ x. restriction labels x.label) xs) i 0 ≡ restriction labels (get_or xs i no_variable).label
listed_at labels [] i = refl
listed_at labels (x ∷ xs) zero = refl
listed_at labels (x ∷ xs) (suc i) = listed_at labels xs i

-- the ends over the listed restrictions are those of the rule
pub ends_planned :
    (labels : List ℕ) (left : SideFor ℕ Variable) (xs : List (Pair ℕ)) → map (end_of (map (λ x. restriction labels x.label) (variables_of left))) xs ≡ map (planned_end labels left) xs
ends_planned labels left [] = refl
ends_planned labels left (x ∷ xs) =
    ap (λ n. record { variable = x.variable; state = x.state; restriction = n } ∷ map (end_of (map (λ x. restriction labels x.label) (variables_of left))) xs) (listed_at labels (variables_of left) x.variable)
    ∙ ap (λ es. planned_end labels left x ∷ es) (ends_planned labels left xs)

pub ends_variables : (numbers : List ℕ) (xs : List (Pair ℕ)) → map (λ (e : PlannedEnd). e.variable) (map (end_of numbers) xs) ≡ map (λ x. x.variable) xs
ends_variables numbers [] = refl
ends_variables numbers (x ∷ xs) = ap (λ is. x.variable ∷ is) (ends_variables numbers xs)

-- what is not marked is left out
pub unmarked_is :
    (marks : List Bool) (named : List ℕ) (n : ℕ) (xs : List Variable) → ((i : ℕ) → i < n → get_or marks i false ≡ list_any (nat_eq i) named) → Each (λ x. x.number < n) xs →
    unmarked_of marks xs ≡ left_out named xs
unmarked_is marks named n [] m h = refl
unmarked_is marks named n (x ∷ xs) m h =
    ap (λ (b : Bool). if b then unmarked_of marks xs else x ∷ unmarked_of marks xs) (m x.number h.0)
    ∙ ap (λ (ys : List Variable). if list_any (nat_eq x.number) named then ys else x ∷ ys) (unmarked_is marks named n xs m h.1)

-- one more plan
pub plans_next :
    (labels : List ℕ) (rules : List (TransducerRule ℕ)) (i : ℕ) (rule : TransducerRule ℕ) (plans : List Plan) (plan : Plan) → i < length rules → rule ≡ transducer_rule rules i →
    ArePlans labels (take i rules) plans → IsPlan labels rule plan → ArePlans labels (take (i + 1) rules) (plans ++ plan ∷ [])
plans_next labels rules i rule plans plan h at before is =
    subst (λ rs. ArePlans labels rs (plans ++ plan ∷ [])) (sym (take_next rules i no_rule h))
    (along_more (IsPlan labels) (take i rules) plans (transducer_rule rules i) plan before (subst (λ r. IsPlan labels r plan) at is))

-- the plan of a rule by its position
pub plan_at : (labels : List ℕ) (rules : List (TransducerRule ℕ)) (plans : List Plan) (n : ℕ) (d : Plan) → ArePlans labels rules plans → n < length rules → IsPlan labels (transducer_rule rules n) (get_or plans n d)
plan_at labels [] plans n d a h = absurd (omega arith)
plan_at labels (r ∷ rules) [] n d a h = absurd a
plan_at labels (r ∷ rules) (p ∷ plans) zero d a h = a.0
plan_at labels (r ∷ rules) (p ∷ plans) (suc n) d a h = plan_at labels rules plans n d a.1 (omega arith)

pub plans_many : (labels : List ℕ) (rules : List (TransducerRule ℕ)) (plans : List Plan) → ArePlans labels rules plans → length plans ≡ length rules
plans_many labels [] [] a = refl
plans_many labels [] (p ∷ plans) a = absurd a
plans_many labels (r ∷ rules) [] a = absurd a
plans_many labels (r ∷ rules) (p ∷ plans) a = ap suc (plans_many labels rules plans a.1)

-- the plan of a rule, from the items of its sides and the restrictions of its variables
module _
    (labels : List ℕ) (r : TransducerRule ℕ) (shaped : IsShaped r) (lefts : List (Item Variable)) (left : pairs_of lefts ≡ preorder_of r.left) (rights : List (Item (Pair ℕ)))
    (right : pairs_of rights ≡ preorder_of r.right) (numbers : List ℕ) (are : numbers ≡ map (λ x. restriction labels x.label) (holes_in lefts)) where
  variables : variables_of r.left ≡ holes_in lefts
  variables = holes_of_items lefts r.left left

  pairs : holes_of r.right ≡ holes_in rights
  pairs = holes_of_items rights r.right right

  many : {A B : Type 0} (f : A → B) (xs : List A) → length (map f xs) ≡ length xs
  many f [] = refl
  many f (x ∷ xs) = ap suc (many f xs)

  long : length numbers ≡ length (variables_of r.left)
  long = ap length are ∙ many (λ x. restriction labels x.label) (holes_in lefts) ∙ ap length (sym variables)

  pub pairs_below : Each (λ x. x.variable < length numbers) (holes_in rights)
  pairs_below =
      subst (λ m. Each (λ (x : Pair ℕ). x.variable < m) (holes_in rights)) (sym long)
      (subst (Each (λ x. x.variable < length (variables_of r.left))) pairs (each_mapped (λ i. i < length (variables_of r.left)) (λ (x : Pair ℕ). x.variable) (holes_of r.right) shaped.known))

  pub ends_below : (ends : List PlannedEnd) (count : ℕ) → ends ≡ map (end_of numbers) (holes_in rights) → count ≡ length numbers → Each (λ e. e.variable < count) ends
  ends_below ends count is at =
      subst (Each (λ (e : PlannedEnd). e.variable < count)) (sym is)
      (subst (λ m. Each (λ (e : PlannedEnd). e.variable < m) (map (end_of numbers) (holes_in rights))) (sym at) (each_map (λ (e : PlannedEnd). e.variable < length numbers) (end_of numbers) (holes_in rights) pairs_below))

  pub variables_below : (count : ℕ) → count ≡ length numbers → Each (λ x. x.number < count) (holes_in lefts)
  variables_below count at = subst (λ m. Each (λ (x : Variable). x.number < m) (holes_in lefts)) (sym (at ∙ long)) (subst (Each (λ x. x.number < length (variables_of r.left))) variables (numbered_below (variables_of r.left) shaped.numbered))

  pub is_plan :
      (plan : Plan) (marks : List Bool) (count : ℕ) → plan.ends.items ≡ map (end_of numbers) (holes_in rights) → count ≡ length numbers → marks ≡ plan.kept.items → length marks ≡ count →
      ((i : ℕ) → i < count → get_or marks i false ≡ list_any (nat_eq i) (map (λ e. e.variable) plan.ends.items)) → plan.left_out.items ≡ unmarked_of marks (holes_in lefts) → IsPlan labels r plan
  is_plan plan marks count ends at same total marked out =
      let named : map (λ (e : PlannedEnd). e.variable) plan.ends.items ≡ variables_in r.right = ap (map (λ e. e.variable)) ends ∙ ends_variables numbers (holes_in rights) ∙ ap (map (λ x. x.variable)) (sym pairs) in
      record {
        ends = ends ∙ ap (λ ns. map (end_of ns) (holes_in rights)) are ∙ ap (λ vs. map (end_of (map (λ (x : Variable). restriction labels x.label) vs)) (holes_in rights)) (sym variables)
            ∙ ends_planned labels r.left (holes_in rights) ∙ ap (map (planned_end labels r.left)) (sym pairs);
        many = ap length (sym same) ∙ total ∙ at ∙ long;
        kept = λ i h. ap (λ bs. get_or bs i false) (sym same) ∙ marked i (omega (arith, h, at, long)) ∙ ap (list_any (nat_eq i)) named;
        left_out = out
            ∙ unmarked_is marks (variables_in r.right) count (holes_in lefts) (λ i h. marked i h ∙ ap (list_any (nat_eq i)) named) (variables_below count at)
            ∙ ap (left_out (variables_in r.right)) (sym variables);
      }
