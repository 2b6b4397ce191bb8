-- How the sides of rules get their numbers.
use Rattle.std.specs.Prelude.{◌≡◌, ℕ, ◌+◌, ◌<◌, ◌≤◌, ◌⊎◌, ◌≢◌, nat_eq, nat_lt, Bool, true, false, if◌then◌else◌, List, [], ◌∷◌, ◌++◌, length, take, reverse, set, replicate, slice_get, Some, refl, sum_by}
use Rattle.std.specs.Global.{Vec}
use Rattle.std.specs.Cmp.Lexicographic.{pointwise}
use Rattle.std.specs.List.{list_any, AllByRecursion, IsDistinct}
use Rattle.indexmap.specs.IndexSet.{insert_key}
use lib.Pointwise.{bytes_decides}
use Rattle.std.proofs.Common.{zero, suc, get_or, arith, ap, sym, ◌∙◌, subst, inl, inr, true≢false, length-append, length-set, add-one}
use Rattle.std.proofs.lemmas.List.{length-map, length-reverse, length-replicate, map-append, get_or-map, get_or-replicate, get_or_append_left, get_or-set_same, get_or-set_other}
use Rattle.std.proofs.Math.Seq.{get_or-append_seam, take-length}
use Rattle.std.proofs.lemmas.List.Sums.{sum_by-cons}
use Rattle.std.proofs.lemmas.Option.{slice_get_within, get_or_from_slice_get}
use Rattle.std.proofs.lemmas.Bool.Decides.{nat_tests}
use Rattle.tib_tree.specs.Trees.{Trees, preorder_of}
use Rattle.tib_grammar.specs.Sides.{Symbol, label, hole, leaves}
use Rattle.tib_grammar.specs.Items.{pairs_of, pair_of}
use Rattle.tib_grammar.specs.Run.{rule_at}
use Rattle.tib_grammar.specs.declared.Item.{Item}
use Rattle.tib_grammar.specs.declared.Item.TheVariants.{Label}
use Rattle.tib_grammar.specs.declared.Rule.{Rule}
use Rattle.tib_normal.specs.NormalForm.{heads, first_inner}
use Rattle.tib_normal.specs.Offers.{no_side}
use Rattle.tib_normal.specs.Places.{head_states, below_root, rule_labels}
use Rattle.tib_normal.specs.Rows.{side_of, HasSide, AreSides}
use Rattle.tib_normal.specs.Numbering.{AreApart, GetsNumber, IsNumbered}
use Rattle.tib_normal.proofs.Placing.{heads-leaves, sum-more, below-kids}
use Rattle.tib_normal.proofs.LoneSides.{root_of}
use Rattle.tib_lex.proofs.Booleans.{bool_cases}
use Rattle.tib_grammar.specs.ShapeBuckets.{lists_of}
use Rattle.tib_grammar.proofs.Sides.{same_label}

-- whether two lists of numbers are the same
abbrev pub same_list : Vec ℕ → Vec ℕ → Bool
same_list a b = pointwise nat_eq a.items b.items

head_apart : (x : Vec ℕ) (keys : List (Vec ℕ)) (t : ℕ) → AllByRecursion (λ y. same_list x y ≡ false) keys → t < length (lists_of keys) → x.items ≡ get_or (lists_of keys) t [] → ⊥
head_apart x [] t d h e = absurd (omega arith)
head_apart x (y ∷ keys) zero d h e = true≢false (sym ((bytes_decides x.items y.items).1 e) ∙ d.0)
head_apart x (y ∷ keys) (suc t) d h e = head_apart x keys t d.1 (omega arith) e

keys_apart : (keys : List (Vec ℕ)) → IsDistinct same_list keys → (s t : ℕ) → s < length (lists_of keys) → t < length (lists_of keys) → get_or (lists_of keys) s [] ≡ get_or (lists_of keys) t [] → s ≡ t
unfolding IsDistinct
keys_apart [] d s t h k e = absurd (omega arith)
keys_apart (x ∷ keys) d zero zero h k e = refl
keys_apart (x ∷ keys) d zero (suc t) h k e = absurd (head_apart x keys t d.0 (omega arith) e)
keys_apart (x ∷ keys) d (suc s) zero h k e = absurd (head_apart x keys s d.0 (omega arith) (sym e))
keys_apart (x ∷ keys) d (suc s) (suc t) h k e = ap suc (keys_apart keys d.1 s t (omega arith) (omega arith) e)

grown : (b : Bool) (old new : List (Vec ℕ)) (side : Vec ℕ) → new ≡ (if b then old else old ++ side ∷ []) → (lists_of new ≡ lists_of old) ⊎ (lists_of new ≡ lists_of old ++ side.items ∷ [])
grown true old new side e = inl (ap lists_of e)
grown false old new side e = inr (ap lists_of e ∙ map-append (λ v. v.items) old (side ∷ []))

held_at : (new : List (Vec ℕ)) (s : ℕ) (side key : Vec ℕ) → slice_get new s ≡ Some key → same_list side key ≡ true → (s < length (lists_of new)) × (get_or (lists_of new) s [] ≡ side.items)
held_at new s side key at same =
    let within = slice_get_within new s key at in
    let long = length-map new (λ v. v.items) in
    (omega arith, get_or-map (λ v. v.items) new s key [] within ∙ ap (λ v. v.items) (get_or_from_slice_get new s key key at) ∙ sym ((bytes_decides side.items key.items).0 same))

-- a side that goes among the others, and its number at the rule's place
pub gets_number :
    (side : Vec ℕ) (n number : ℕ) (old new : List (Vec ℕ)) (before after : List ℕ) → new ≡ insert_key same_list old side → (key : Vec ℕ) × (slice_get new number ≡ Some key) × (same_list side key ≡ true) →
    IsDistinct same_list new → after ≡ set before n number → GetsNumber side.items n (lists_of old) (lists_of new) before after
gets_number side n number old new before after inserted stored distinct given =
    let held = held_at new number side stored.0 stored.1 stored.2 in
    record {
      number = number;
      below = held.0;
      is = held.1;
      given = given;
      table = grown (list_any (same_list side) old) old new side inserted;
      apart = record { once = keys_apart new distinct };
    }

apart_roots : (f q : ℕ) → ◌≡◌ {A = Symbol ℕ ℕ} (label f) (hole q) → ⊥
apart_roots f q e = absurd (cc)

-- a rule whose first item is a label, over the states at the roots of what is below
pub numbered-own :
    (items : List (Item ℕ)) (rule : Rule ℕ) (n first f rank count : ℕ) (side stack : List ℕ) (old new : List (List ℕ)) (before after : List ℕ) → pairs_of items ≡ preorder_of rule.right →
    get_or items 0 (Label 0 0) ≡ Label f rank → reverse stack ≡ head_states first (below_root items) → count ≡ length stack → side ≡ f ∷ take count (reverse stack) →
    GetsNumber side n old new before after → IsNumbered rule n first old new before after
numbered-own items rule n first f rank count side stack old new before after pairs at states all is gets =
    let root : label f ≡ rule.right.label = ap (λ x. (pair_of x).0) (sym at) ∙ ap (λ p. p.0) (root_of items rule.right (Label 0 0) pairs).1 in
    let whole : side ≡ f ∷ head_states first rule.right.kids =
    is ∙ ap (λ l. f ∷ l) (ap (λ m. take m (reverse stack)) (all ∙ sym (length-reverse stack)) ∙ take-length (reverse stack) ∙ states ∙ ap (head_states first) (below-kids items rule.right pairs))
    in
    record {
      chain = λ q e. absurd (apart_roots f q (root ∙ e));
      own = λ g e. subst (λ z. GetsNumber z n old new before after) (whole ∙ ap (λ z. z ∷ head_states first rule.right.kids) (same_label f g (root ∙ e))) gets;
    }

-- the list of numbers that a side stands for is known by the side
leaves_apart : (a b : List ℕ) → leaves {A = ℕ} a ≡ leaves b → a ≡ b
leaves_apart [] [] e = refl
leaves_apart [] (y ∷ b) e = absurd (cc)
leaves_apart (x ∷ a) [] e = absurd (cc)
leaves_apart (x ∷ a) (y ∷ b) e =
    let root : ◌≡◌ {A = Symbol ℕ ℕ} (hole x) (hole y) = cc e in
    let head : x ≡ y = cc root in
    let rest : leaves {A = ℕ} a ≡ leaves b = cc e in
    ap (λ z. z ∷ a) head ∙ ap (λ l. y ∷ l) (leaves_apart a b rest)

pub side-apart : (a b : List ℕ) → 0 < length a → 0 < length b → side_of a ≡ side_of b → a ≡ b
side-apart [] b h k e = absurd (omega arith)
side-apart (f ∷ a) [] h k e = absurd (omega arith)
side-apart (f ∷ a) (g ∷ b) h k e =
    let root : ◌≡◌ {A = Symbol ℕ ℕ} (label f) (label g) = ap (λ s. s.label) e in
    let head : f ≡ g = cc root in
    ap (λ z. z ∷ a) head ∙ ap (λ l. g ∷ l) (leaves_apart a b (ap (λ s. s.kids) e))

-- the first state of the places of rule n comes after those of the rules before it
pub first-inner : (s : ℕ) (rules : List (Rule ℕ)) (n : ℕ) → n ≤ length rules → first_inner s rules n ≡ s + sum_by rule_labels (take n rules)
first-inner s [] zero h = omega arith
first-inner s [] (suc n) h = absurd (omega arith)
first-inner s (r ∷ rules) zero h = omega arith
first-inner s (r ∷ rules) (suc n) h =
    let sum : sum_by rule_labels (r ∷ take n rules) ≡ rule_labels r + sum_by rule_labels (take n rules) = sum_by-cons rule_labels r (take n rules) in
    omega (arith, first-inner (s + rule_labels r) rules n (omega arith))

-- The rules from n on have the numbers of their sides, and those before it have none yet.
pub record AreNumberedFrom (states : ℕ) (rules : List (Rule ℕ)) (n : ℕ) (table : List (List ℕ)) (numbers : List ℕ) : Type 0 where
  pub long : length numbers ≡ length rules
  pub few : length table + n ≤ length rules
  pub full : (s : ℕ) → s < length table → 0 < length (get_or table s [])
  pub apart : AreApart table
  pub before : (m : ℕ) → m < n → get_or numbers m no_side ≡ no_side
  pub chain : (m p : ℕ) → n ≤ m → m < length rules → (rule_at rules m).right.label ≡ hole p → get_or numbers m no_side ≡ no_side
  pub own : (m f : ℕ) → n ≤ m → m < length rules → (rule_at rules m).right.label ≡ label f → HasSide states rules table m f (get_or numbers m no_side)

-- no rule has a number at first
pub numbered-none : (states : ℕ) (rules : List (Rule ℕ)) (table : List (List ℕ)) (numbers : List ℕ) → table ≡ [] → numbers ≡ replicate (length rules) no_side → AreNumberedFrom states rules (length rules) table numbers
numbered-none states rules table numbers empty blank = subst (λ t. AreNumberedFrom states rules (length rules) t numbers) (sym empty) (subst (AreNumberedFrom states rules (length rules) []) (sym blank) (record {
  long = length-replicate (length rules) no_side;
  few = omega arith;
  full = λ s h. absurd (omega arith);
  apart = record { once = λ s t h k e. absurd (omega arith) };
  before = λ m h. get_or-replicate (length rules) m no_side no_side h;
  chain = λ m p h k e. absurd (omega arith);
  own = λ m f h k e. absurd (omega arith);
}))

same_or_behind : (n m : ℕ) → n ≤ m → (m ≡ n) ⊎ (suc n ≤ m)
same_or_behind n m h = elim (bool_cases (nat_lt n m)) [ inl e ↦ inr (grind (arith, nat_tests)) | inr e ↦ inl (grind (arith, nat_tests)) ]

hole_or_label : (s : Symbol ℕ ℕ) → ((q : ℕ) × (s ≡ hole q)) ⊎ ((f : ℕ) × (s ≡ label f))
hole_or_label (hole q) = inl (q, refl)
hole_or_label (label f) = inr (f, refl)

-- one more chain rule
chain_more : (states : ℕ) (rules : List (Rule ℕ)) (n q : ℕ) (table : List (List ℕ)) (numbers : List ℕ) → (rule_at rules n).right.label ≡ hole q → AreNumberedFrom states rules (suc n) table numbers → AreNumberedFrom states rules n table numbers
chain_more states rules n q table numbers root from = record {
  long = from.long;
  few = omega (arith, from.few);
  full = from.full;
  apart = from.apart;
  before = λ m h. from.before m (omega arith);
  chain = λ m p h k e. elim (same_or_behind n m h) [
    | inl at ↦ from.before m (omega arith)
    | inr more ↦ from.chain m p more k e
  ];
  own = λ m f h k e. elim (same_or_behind n m h) [
    | inl at ↦ absurd (apart_roots f q (sym e ∙ ap (λ i. (rule_at rules i).right.label) at ∙ root))
    | inr more ↦ from.own m f more k e
  ];
}

-- the sides that were there keep their places, and one is new at most
kept_at : (side : List ℕ) (old new : List (List ℕ)) → (new ≡ old) ⊎ (new ≡ old ++ side ∷ []) → (s : ℕ) → s < length old → (s < length new) × (get_or new s [] ≡ get_or old s [])
kept_at side old new (inl e) s h = (omega (arith, ap length e), ap (λ t. get_or t s []) e)
kept_at side old new (inr e) s h =
    (omega (arith, ap length e, length-append old (side ∷ [])), ap (λ t. get_or t s []) e ∙ get_or_append_left old (side ∷ []) [] s h)

few_more : (side : List ℕ) (old new : List (List ℕ)) → (new ≡ old) ⊎ (new ≡ old ++ side ∷ []) → length new ≤ length old + 1
few_more side old new (inl e) = omega (arith, ap length e)
few_more side old new (inr e) = omega (arith, ap length e, length-append old (side ∷ []))

full_more :
    (side : List ℕ) (old new : List (List ℕ)) → (new ≡ old) ⊎ (new ≡ old ++ side ∷ []) → 0 < length side → ((s : ℕ) → s < length old → 0 < length (get_or old s [])) →
    (s : ℕ) → s < length new → 0 < length (get_or new s [])
full_more side old new (inl e) some full s h = subst (λ t. 0 < length (get_or t s [])) (sym e) (full s (omega (arith, ap length e)))
full_more side old new (inr e) some full s h = elim (bool_cases (nat_lt s (length old))) [
  | inl b ↦
      let low : s < length old = grind (arith, nat_tests) in
      subst (λ t. 0 < length (get_or t s [])) (sym e) (subst (λ l. 0 < length l) (sym (get_or_append_left old (side ∷ []) [] s low)) (full s low))
  | inr b ↦
      let high : length old ≤ s = grind (arith, nat_tests) in
      let last : s ≡ length old = omega (arith, ap length e, length-append old (side ∷ [])) in
      let at : get_or new s [] ≡ side = ap (λ t. get_or t s []) e ∙ ap (λ i. get_or (old ++ side ∷ []) i []) last ∙ get_or-append_seam old side [] [] in
      subst (λ l. 0 < length l) (sym at) some
]

kept_side : (states : ℕ) (rules : List (Rule ℕ)) (old new : List (List ℕ)) (m f s : ℕ) → (s < length new) × (get_or new s [] ≡ get_or old s []) → HasSide states rules old m f s → HasSide states rules new m f s
kept_side states rules old new m f s kept has = record { below = kept.0; is = ap side_of kept.1 ∙ has.is }

-- one more rule with a side of its own
own_more :
    (states : ℕ) (rules : List (Rule ℕ)) (n first f : ℕ) (old new : List (List ℕ)) (before after : List ℕ) → n < length rules → first ≡ first_inner states rules n → (rule_at rules n).right.label ≡ label f →
    AreNumberedFrom states rules (suc n) old before → GetsNumber (f ∷ head_states first (rule_at rules n).right.kids) n old new before after → AreNumberedFrom states rules n new after
own_more states rules n first f old new before after h first_is root from gets =
    let side : List ℕ = f ∷ head_states first (rule_at rules n).right.kids in
    let at_n : get_or after n no_side ≡ gets.number = ap (λ l. get_or l n no_side) gets.given ∙ get_or-set_same before n gets.number no_side (omega (arith, from.long)) in
    let other : (m : ℕ) → m ≢ n → get_or after m no_side ≡ get_or before m no_side = λ m apart. ap (λ l. get_or l m no_side) gets.given ∙ get_or-set_other before n m gets.number no_side apart in
    record {
      long = ap length gets.given ∙ length-set before n gets.number ∙ from.long;
      few = omega (arith, from.few, few_more side old new gets.table);
      full = full_more side old new gets.table (omega arith) from.full;
      apart = gets.apart;
      before = λ m k. other m (λ e. omega arith) ∙ from.before m (omega arith);
      chain = λ m p k l e. elim (same_or_behind n m k) [
        | inl at ↦ absurd (apart_roots f p (sym root ∙ ap (λ i. (rule_at rules i).right.label) (sym at) ∙ e))
        | inr more ↦ other m (λ e. omega arith) ∙ from.chain m p more l e
      ];
      own = λ m g k l e. elim (same_or_behind n m k) [
        | inl at ↦
            let label_is : f ≡ g = same_label f g (sym root ∙ ap (λ i. (rule_at rules i).right.label) (sym at) ∙ e) in
            subst (λ i. HasSide states rules new i g (get_or after i no_side)) (sym at) (subst (λ z. HasSide states rules new n z (get_or after n no_side)) label_is (subst (HasSide states rules new n f) (sym at_n) (own_side states rules n first f new gets.number first_is gets.below gets.is)))
        | inr more ↦
            let has = from.own m g more l e in
            subst (HasSide states rules new m g) (sym (other m (λ e. omega arith))) (kept_side states rules old new m g (get_or before m no_side) (kept_at side old new gets.table (get_or before m no_side) has.below) has)
      ];
    }
  where
    own_side :
        (states : ℕ) (rules : List (Rule ℕ)) (n first f : ℕ) (table : List (List ℕ)) (s : ℕ) → first ≡ first_inner states rules n → s < length table → get_or table s [] ≡ f ∷ head_states first (rule_at rules n).right.kids →
        HasSide states rules table n f s
    own_side states rules n first f table s first_is below is = record {
      below = below;
      is = ap side_of is ∙ ap (λ (z : Trees (Symbol ℕ ℕ)). record { label = label f; kids = z }) (sym (heads-leaves first (rule_at rules n).right.kids) ∙ ap (λ z. heads z (rule_at rules n).right.kids) first_is);
    }

-- the first state of the places of one more rule
pub counted-more :
    (states : ℕ) (rules : List (Rule ℕ)) (n first state : ℕ) (r : Rule ℕ) → n < length rules → r ≡ rule_at rules n → state ≡ states + sum_by rule_labels (take (suc n) rules) → first + rule_labels r ≡ state →
    first ≡ states + sum_by rule_labels (take n rules)
counted-more states rules n first state r h at whole less =
    let sum = sum-more rule_labels rules n r h at in
    let same : sum_by rule_labels (take (n + 1) rules) ≡ sum_by rule_labels (take (suc n) rules) = ap (λ m. sum_by rule_labels (take m rules)) (add-one n) in
    omega arith

-- one more rule
pub numbered-more :
    (states : ℕ) (rules : List (Rule ℕ)) (n first : ℕ) (r : Rule ℕ) (old new : List (List ℕ)) (before after : List ℕ) → n < length rules → r ≡ rule_at rules n → first ≡ states + sum_by rule_labels (take n rules) →
    AreNumberedFrom states rules (suc n) old before → IsNumbered r n first old new before after → AreNumberedFrom states rules n new after
numbered-more states rules n first r old new before after h at first_is from is = by (hole_or_label (rule_at rules n).right.label) (subst (λ x. IsNumbered x n first old new before after) at is)
  where
    by : ((q : ℕ) × ((rule_at rules n).right.label ≡ hole q)) ⊎ ((f : ℕ) × ((rule_at rules n).right.label ≡ label f)) → IsNumbered (rule_at rules n) n first old new before after → AreNumberedFrom states rules n new after
    by (inl root) is =
        let same = is.chain root.0 root.1 in
        subst (λ t. AreNumberedFrom states rules n t after) (sym same.0) (subst (AreNumberedFrom states rules n old) (sym same.1) (chain_more states rules n root.0 old before root.1 from))
    by (inr root) is = own_more states rules n first root.0 old new before after h (first_is ∙ sym (first-inner states rules n (omega arith))) root.1 from (is.own root.0 root.1)

-- all rules have their numbers
pub numbered-all : (states : ℕ) (rules : List (Rule ℕ)) (table : List (List ℕ)) (numbers : List ℕ) → length rules ≤ no_side → AreNumberedFrom states rules 0 table numbers → AreSides states rules table numbers
numbered-all states rules table numbers h from = record {
  few = omega (arith, from.few);
  full = from.full;
  apart = λ s t k l e. from.apart.once s t k l (side-apart (get_or table s []) (get_or table t []) (from.full s k) (from.full t l) e);
  chain = λ n p k e. from.chain n p (omega arith) k e;
  own = λ n f k e. from.own n f (omega arith) k e;
}
