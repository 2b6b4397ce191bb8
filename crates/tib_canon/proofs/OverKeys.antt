-- The grammar over the keys, put together.
use Rattle.std.proofs.Common.{◌≡◌, ℕ, ◌-◌, ◌<◌, List, [], ◌∷◌, ◌++◌, length, map, take, drop, get_or, append-nil, refl, ap, sym, ◌∙◌, subst, arith, suc}
use Rattle.std.proofs.lemmas.List.{get_or-map, length-map}
use Rattle.std.proofs.Math.Seq.{take-length, drop-length}
use Rattle.std.specs.declared.cmp.Ordering.{Ordering}
use Rattle.tib_lex.specs.Lists.{Each}
use Rattle.tib_tree.specs.Trees.{Trees, none, tree, only, relabel}
use Rattle.tib_grammar.specs.Sides.{Symbol, label, hole, symbol_map, holes_of}
use Rattle.tib_grammar.specs.Range.{AllBelow, IsInRange, AreInRange, SidesEndInHoles, AreBelow}
use Rattle.tib_grammar.specs.Run.{rule_at, no_rule}
use Rattle.tib_grammar.specs.GrammarOf.{GrammarOf, named_rule}
use Rattle.tib_grammar.specs.declared.Rule.{Rule}
use Rattle.tib_grammar.proofs.Sides.{holes-relabel}
use Rattle.tib_grammar_file.specs.Printed.{LabelsBelow, AreLabelled}
use Rattle.tib_grammar.specs.Renaming.{number_in}
use Rattle.tib_inside.specs.Renaming.{AreNumbersOf}
use Rattle.tib_grammar.proofs.Renamed.{rule_back}
use Rattle.tib_canon.specs.Canonical.{names_of}
use Rattle.tib_canon.specs.Keys.{AreByKeys, IsOverKeys, IsBegun, behind_fresh, chain_in, started_rules}
use Rattle.tib_canon.specs.declared.begin.Begin.{Begin}
use Rattle.tib_canon.specs.declared.begin.Begin.TheVariants.{At, Fresh, Empty}
use Rattle.std.specs.Option.{option_cmp}
use Rattle.tib_canon.proofs.Permuting.{distinct_at}
use Rattle.tib_canon.proofs.Started.{all_mapped, started_named, started_leaves, started_labelled, started_range}
use Rattle.tib_canon.proofs.BehindFresh.{behind_long}
use Rattle.tib_lex.proofs.Members.{has_at, at_has}
use Rattle.tib_grammar.proofs.Below.{below_has}

rules_back : (f g : ℕ → ℕ) (rules : List (Rule ℕ)) → ((m : ℕ) → m < length rules → named_rule g (named_rule f (rule_at rules m)) ≡ rule_at rules m) → map (named_rule g) (map (named_rule f) rules) ≡ rules
rules_back f g [] h = refl
rules_back f g (r ∷ rules) h =
    ap (λ (x : Rule ℕ). x ∷ map (named_rule g) (map (named_rule f) rules)) (h 0 (omega arith)) ∙ ap (λ (rs : List (Rule ℕ)). r ∷ rs) (rules_back f g rules (λ m k. h (suc m) (omega arith)))

module _ {K : Type 0} (cmp : K → K → Ordering) (order : List K) (start : ℕ) (states : List ℕ) (by : AreByKeys cmp order start states) where
  pub states_below : (part : List ℕ) → part ≡ states → AreBelow (length part) part
  states_below part e i h =
      let low : get_or states i 0 < length order = (by.all (get_or states i 0)).0 (has_at states i 0 (omega (arith, ap length e))) in
      let at : get_or part i 0 ≡ get_or states i 0 = ap (λ (xs : List ℕ). get_or xs i 0) e in
      omega (arith, ap length e, by.many)

  pub states_apart : (part : List ℕ) → part ≡ states → (i j : ℕ) → i < j → j < length part → get_or part i 0 ≡ get_or part j 0 → ⊥
  states_apart part e i j h k same =
      distinct_at states 0 i j by.once h (omega (arith, ap length e)) (sym (ap (λ (xs : List ℕ). get_or xs i 0) e) ∙ same ∙ ap (λ (xs : List ℕ). get_or xs j 0) e)

  module _ (numbers : List ℕ) (are : AreNumbersOf states numbers) where
    -- each position has a number, from which it is found again
    number_below : (q : ℕ) → q < length order → number_in numbers q < length order
    number_below q h =
        let at = at_has states q 0 ((by.all q).1 h) in
        let e : number_in numbers q ≡ at.0 = ap (number_in numbers) (sym at.2) ∙ are at.0 at.1 in
        omega (arith, at.1, by.many)

    pub number_back : (q : ℕ) → q < length order → get_or states (number_in numbers q) 0 ≡ q
    number_back q h =
        let at = at_has states q 0 ((by.all q).1 h) in
        let e : number_in numbers q ≡ at.0 = ap (number_in numbers) (sym at.2) ∙ are at.0 at.1 in
        ap (λ i. get_or states i 0) e ∙ at.2

    module _ (rules : List (Rule ℕ)) (range : AreInRange (length order) rules) where
      renamed_in_range : (m : ℕ) → m < length rules → IsInRange (length order) (named_rule (number_in numbers) (rule_at rules m))
      renamed_in_range m h = (
        number_below (rule_at rules m).left (range m h).0,
        subst (AllBelow (length order)) (sym (holes-relabel (number_in numbers) (only (rule_at rules m).right)))
            (all_mapped (length order) (length order) (number_in numbers) (holes_of (rule_at rules m).right) number_below (range m h).1),
      )

      pub new_in_range : (new : List (Rule ℕ)) → new ≡ map (named_rule (number_in numbers)) rules → AreInRange (length order) new
      new_in_range new e m h =
          let long : length new ≡ length rules = ap length e ∙ length-map rules (named_rule (number_in numbers)) in
          let at : rule_at new m ≡ named_rule (number_in numbers) (rule_at rules m) = ap (λ (rs : List (Rule ℕ)). rule_at rs m) e ∙ get_or-map (named_rule (number_in numbers)) rules m no_rule no_rule (omega arith) in
          subst (IsInRange (length order)) (sym at) (renamed_in_range m (omega arith))

      pub over_keys : SidesEndInHoles rules → (g : GrammarOf) → g.names ≡ names_of (length states) → g.rules ≡ map (named_rule (number_in numbers)) rules → IsOverKeys cmp order rules start g
      over_keys leaves g named ruled = record {
        states = states;
        by_keys = by;
        names = named ∙ ap names_of by.many;
        in_range = new_in_range g.rules ruled;
        named = ap (map (named_rule (λ i. get_or states i 0))) ruled ∙ rules_back (number_in numbers) (λ i. get_or states i 0) rules (λ m h.
            rule_back (number_in numbers) (λ i. get_or states i 0) (rule_at rules m) (number_back (rule_at rules m).left (range m h).0) (λ q k. number_back q (below_has (length order) (holes_of (rule_at rules m).right) q (range m h).1 k)) (leaves m h));
      }

labels_from : (n : ℕ) (f : ℕ → ℕ) (ts : Trees (Symbol ℕ ℕ)) → LabelsBelow n (relabel (symbol_map f) ts) → LabelsBelow n ts
labels_from n f none h = tt
labels_from n f (tree (label g) kids rest) h = (h.0, labels_from n f kids h.1, labels_from n f rest h.2)
labels_from n f (tree (hole q) kids rest) h = labels_from n f rest h

-- labels stay in the table

labelled_over : {K : Type 0} (cmp : K → K → Ordering) (order : List K) (rules : List (Rule ℕ)) (start : ℕ) (g : GrammarOf) (n : ℕ) → IsOverKeys cmp order rules start g → AreLabelled n rules → AreLabelled n g.rules
labelled_over cmp order rules start g n over labelled m h =
    let f : ℕ → ℕ = λ i. get_or over.states i 0 in
    let long : length g.rules ≡ length rules = sym (length-map g.rules (named_rule f)) ∙ ap length over.named in
    let at : named_rule f (rule_at g.rules m) ≡ rule_at rules m = sym (get_or-map (named_rule f) g.rules m no_rule no_rule h) ∙ ap (λ (rs : List (Rule ℕ)). get_or rs m no_rule) over.named in
    labels_from n f (only (rule_at g.rules m).right) (subst (λ (r : Rule ℕ). LabelsBelow n (only r.right)) (sym at) (labelled m (omega arith)))

pub labelled_begun : {K : Type 0} (cmp : K → K → Ordering) (order : List K) (rules : List (Rule ℕ)) (begin : Begin) (g : GrammarOf) (n : ℕ) → IsBegun cmp order rules begin g → AreLabelled n rules → AreLabelled n g.rules
labelled_begun cmp order rules (At start) g n over labelled = labelled_over cmp order rules start g n over labelled
labelled_begun cmp order rules (Fresh finals) g n over labelled = labelled_over (option_cmp cmp) (behind_fresh order) (started_rules finals rules) 0 g n over (started_labelled finals n rules labelled)
labelled_begun cmp order rules Empty g n e labelled = λ m h. (let long : length g.rules ≡ 0 = ap (λ (x : GrammarOf). length x.rules) e in absurd (omega arith))

-- the grammar over the keys has as many rules
pub as_many_over : {K : Type 0} (cmp : K → K → Ordering) (order : List K) (rules : List (Rule ℕ)) (start : ℕ) (g : GrammarOf) → IsOverKeys cmp order rules start g → length g.rules ≡ length rules
as_many_over cmp order rules start g o = sym (length-map g.rules (named_rule (λ i. get_or o.states i 0))) ∙ ap length o.named

-- what as many values fill is these values
refilled : {X : Type 0} (xs ws : List X) (n : ℕ) → n ≡ length xs → length ws ≡ length xs → take n (ws ++ drop (length ws) xs) ≡ ws
refilled xs ws n many e =
    ap (λ k. take n (ws ++ drop k xs)) e ∙ ap (λ l. take n (ws ++ l)) (drop-length xs) ∙ ap (take n) (append-nil ws) ∙ ap (λ k. take k ws) (many ∙ sym e) ∙ take-length ws

-- the rules with the numbers of the keys, in their order
pub rules_over :
    {K : Type 0} (cmp : K → K → Ordering) (order : List K) (start : ℕ) (states : List ℕ) (by : AreByKeys cmp order start states) (part numbers few : List ℕ) (rules lent new : List (Rule ℕ)) (n : ℕ) → part ≡ states → AreNumbersOf part numbers → few ≡ numbers →
    AreInRange (length order) rules → SidesEndInHoles rules → lent ≡ rules → new ≡ map (named_rule (number_in few)) lent → n ≡ length rules →
    IsOverKeys cmp order rules start (record { names = names_of (length order); rules = take n (new ++ drop (length new) rules) })
rules_over cmp order start states by part numbers few rules lent new n s are f range leaves l e many =
    let is : new ≡ map (named_rule (number_in numbers)) rules = e ∙ ap (map (named_rule (number_in few))) l ∙ ap (λ (xs : List ℕ). map (named_rule (number_in xs)) rules) f in
    over_keys cmp order start states by numbers (subst (λ (xs : List ℕ). AreNumbersOf xs numbers) s are) rules range leaves (record { names = names_of (length order); rules = take n (new ++ drop (length new) rules) }) (ap names_of (sym by.many))
    (refilled rules new n many (ap length is ∙ length-map rules (named_rule (number_in numbers))) ∙ is)

-- the same after a fresh start, whose chain rules come first
pub rules_behind :
    {K : Type 0} (cmp : K → K → Ordering) (order : List K) (states : List ℕ) (by : AreByKeys (option_cmp cmp) (behind_fresh order) 0 states) (numbers : List ℕ) (finals : List (ℕ × ℕ)) (rules new : List (Rule ℕ)) → AreNumbersOf states numbers →
    Each (λ p. p.0 < length order) finals → AreInRange (length order) rules → SidesEndInHoles rules → new ≡ map (chain_in (drop 1 numbers)) finals ++ map (named_rule (number_in (drop 1 numbers))) rules →
    IsOverKeys (option_cmp cmp) (behind_fresh order) (started_rules finals rules) 0 (record { names = names_of (length (behind_fresh order)); rules = new })
rules_behind cmp order states by numbers finals rules new are within range leaves e =
    let begins : get_or states 0 0 ≡ 0 = ap (λ (l : List ℕ). get_or l 0 0) by.first in
    let some : 0 < length states = omega (arith, by.many, behind_long order) in
    let first : number_in numbers 0 ≡ 0 = ap (number_in numbers) (sym begins) ∙ are 0 some in
    over_keys (option_cmp cmp) (behind_fresh order) 0 states by numbers are (started_rules finals rules)
    (subst (λ n. AreInRange n (started_rules finals rules)) (sym (behind_long order)) (started_range finals (length order) within rules range)) (started_leaves finals rules leaves)
    (record { names = names_of (length (behind_fresh order)); rules = new }) (ap names_of (sym by.many)) (e ∙ started_named numbers first finals rules)

drop_one : (xs : List ℕ) → length (drop 1 xs) ≡ length xs - 1
drop_one [] = refl
drop_one (x ∷ xs) = omega arith

-- there are as many numbers after that of the fresh start as positions
pub behind_many :
    {K : Type 0} (cmp : K → K → Ordering) (order : List K) (states : List ℕ) (by : AreByKeys (option_cmp cmp) (behind_fresh order) 0 states) (part numbers few behind : List ℕ) → part ≡ states → length numbers ≡ length part → few ≡ numbers →
    behind ≡ drop 1 few → length behind ≡ length order
behind_many cmp order states by part numbers few behind s long f e = omega (arith, ap length e, drop_one few, ap length f, long, ap length s, by.many, behind_long order)

-- the same where the rules keep their order, after the chain rules
pub rules_behind_of :
    {K : Type 0} (cmp : K → K → Ordering) (order : List K) (states : List ℕ) (by : AreByKeys (option_cmp cmp) (behind_fresh order) 0 states) (part numbers few behind : List ℕ) (finals pairs : List (ℕ × ℕ)) (rules lent new chains all : List (Rule ℕ)) (n : ℕ) →
    part ≡ states → AreNumbersOf part numbers → few ≡ numbers → behind ≡ drop 1 few → Each (λ p. p.0 < length order) finals → AreInRange (length order) rules → SidesEndInHoles rules → lent ≡ rules →
    new ≡ map (named_rule (number_in behind)) lent → n ≡ length rules → pairs ≡ finals → chains ≡ map (chain_in behind) pairs → all ≡ chains ++ take n (new ++ drop (length new) rules) →
    IsOverKeys (option_cmp cmp) (behind_fresh order) (started_rules finals rules) 0 (record { names = names_of (length (behind_fresh order)); rules = all })
rules_behind_of cmp order states by part numbers few behind finals pairs rules lent new chains all n s are f b within range leaves l e many p c a =
    let numbered : behind ≡ drop 1 numbers = b ∙ ap (drop 1) f in
    let is : new ≡ map (named_rule (number_in (drop 1 numbers))) rules = e ∙ ap (map (named_rule (number_in behind))) l ∙ ap (λ (xs : List ℕ). map (named_rule (number_in xs)) rules) numbered in
    let stays : take n (new ++ drop (length new) rules) ≡ new = refilled rules new n many (ap length is ∙ length-map rules (named_rule (number_in (drop 1 numbers)))) in
    let linked : chains ≡ map (chain_in (drop 1 numbers)) finals = c ∙ ap (map (chain_in behind)) p ∙ ap (λ (xs : List ℕ). map (chain_in xs) finals) numbered in
    rules_behind cmp order states by numbers finals rules all (subst (λ (xs : List ℕ). AreNumbersOf xs numbers) s are) within range leaves
    (a ∙ ap (λ (xs : List (Rule ℕ)). chains ++ xs) (stays ∙ is) ∙ ap (λ (xs : List (Rule ℕ)). xs ++ map (named_rule (number_in (drop 1 numbers))) rules) linked)
