-- The text of a canonical grammar reads back as this grammar.
use Rattle.tib_cost.specs.declared.Scale.{Scale}
use Rattle.std.proofs.Common.{◌≡◌, ◌⊎◌, ℕ, ◌<◌, ◌≤◌, Bool, List, [], ◌∷◌, length, get_or, ap, sym, ◌∙◌, subst, arith, inl, inr, refl}
use Rattle.std.specs.Option.{option_cmp}
use Rattle.std.specs.Ordering.{nat_cmp, ordering_then}
use Rattle.std.specs.declared.cmp.Ordering.{Ordering}
use Rattle.std.specs.declared.cmp.Ordering.TheVariants.{Less, Equal, Greater}
use Rattle.std.proofs.lemmas.Bool.Decides.{nat_tests}
use Rattle.tib_lex.specs.Lists.{Has, Ascends}
use Rattle.tib_tree.specs.Trees.{Trees, none, tree, only}
use Rattle.tib_grammar.specs.Sides.{Symbol, label, hole, Side, Lone, HolesAreLeaves}
use Rattle.tib_grammar.specs.GrammarOf.{GrammarOf}
use Rattle.tib_grammar.specs.Range.{AreInRange, IsInRange, AreLone, SidesEndInHoles}
use Rattle.tib_grammar.specs.Run.{rule_at, no_rule}
use Rattle.tib_grammar.specs.StateName.{AreStateNames}
use Rattle.tib_grammar.specs.declared.Rule.{Rule}
use Rattle.tib_grammar_file.specs.ByName.{HasText, HaveRules}
use Rattle.tib_grammar_file.specs.GrammarText.{GrammarText}
use Rattle.tib_grammar_file.specs.Printable.{ArePrintable}
use Rattle.tib_grammar_file.specs.Printed.{grammar_text}
use Rattle.tib_grammar_file.proofs.PrintedSorted.{reads_sorted}
use Rattle.tib_cost.specs.Semiring.{ProductLaws}
use Rattle.tib_normal.specs.NormalForm.{IsNormalForm}
use Rattle.tib_normal.proofs.Forming.{form_range}
use Rattle.tib_inside.specs.Trimmed.{IsTrimmed}
use Rattle.tib_inside.proofs.Keeping.{as_many, named_at}
use Rattle.tib_canon.specs.Canonical.{rule_cmp, IsCanonical}
use Rattle.tib_canon.specs.Keys.{IsOverKeys, IsBegun, IsCanonicalOverKeys, without_rules, behind_fresh, started_rules, begun_rules}
use Rattle.tib_canon.specs.declared.begin.Begin.{Begin}
use Rattle.tib_canon.specs.declared.begin.Begin.TheVariants.{At, Fresh, Empty}
use Rattle.tib_canon.proofs.BehindFresh.{behind_long}
use Rattle.tib_canon.proofs.KeysOnce.{leaves_over}
use Rattle.tib_canon.proofs.NormalForms.{form_leaves}
use Rattle.tib_canon.proofs.Inhabited.{few_states, some_states, states_have_rules}
use Rattle.tib_canon.proofs.PrintableRules.{canonical_printable, form_printable, over_printable}
use Rattle.tib_canon.proofs.Started.{started_leaves}
use Rattle.tib_canon.proofs.StateNames.{length-names_of, are_state_names}
use Rattle.tib_canon.proofs.TrimmedOnce.{leaves_back, names_long}
use Rattle.tib_lex.proofs.Members.{has_at, at_has, each_has, each_of}

-- rules in order ascend by their left states

ranks : (o p : Ordering) → ordering_then o p ≡ Less → (o ≡ Less) ⊎ (o ≡ Equal)
ranks Less p e = inl (cc)
ranks Equal p e = inr (cc)
ranks Greater p e = absurd (cc)

not_above : (m n : ℕ) → (nat_cmp m n ≡ Less) ⊎ (nat_cmp m n ≡ Equal) → m ≤ n
not_above m n (inl e) = grind (arith, nat_tests)
not_above m n (inr e) = grind (arith, nat_tests)

ascends_as : {A : Type 0} (R T : A → A → Type 0) → ((x y : A) → R x y → T x y) → (xs : List A) → Ascends R xs → Ascends T xs
ascends_as R T f [] a = tt
ascends_as R T f (x ∷ xs) a = (each_of (T x) xs (λ y h. f x y (each_has (R x) xs y a.0 h)), ascends_as R T f xs a.1)

lefts_ascend : (scale : Scale) (names labels : List (List ℕ)) (rules : List (Rule ℕ)) → Ascends (λ r s. rule_cmp scale names labels r s ≡ Less) rules → Ascends (λ r s. r.left ≤ s.left) rules
lefts_ascend scale names labels rules =
    ascends_as (λ r s. rule_cmp scale names labels r s ≡ Less) (λ r s. r.left ≤ s.left) (λ r s e. not_above r.left s.left (ranks (nat_cmp r.left s.left) _ e)) rules

-- nothing is below a state in trimmed rules
pub trimmed_leaves : (product : ℕ → ℕ → ℕ) (g h : GrammarOf) → IsTrimmed product g h → SidesEndInHoles g.rules → SidesEndInHoles h.rules
trimmed_leaves product g h t leaves m k =
    let position : ℕ = get_or t.rules m 0 in
    let live = (t.are_rules position).0 (has_at t.rules m 0 (omega (arith, as_many product g h t))) in
    leaves_back (λ i. get_or t.states i 0) (only (rule_at h.rules m).right)
    (subst (λ (r : Rule ℕ). HolesAreLeaves (only r.right)) (sym (named_at product g h t m k)) (leaves position live.0.below))

-- what holds for the rules of one list holds for those of another whose rules all are in it
of_members : (P : Rule ℕ → Type 0) (rules others : List (Rule ℕ)) → ((r : Rule ℕ) → Has others r → Has rules r) → ((m : ℕ) → m < length rules → P (rule_at rules m)) → (m : ℕ) → m < length others → P (rule_at others m)
of_members P rules others kept f m h =
    let at = at_has rules (rule_at others m) no_rule (kept (rule_at others m) (has_at others m no_rule h)) in
    subst P at.2 (f at.0 at.1)

module _
    {levelled weighed : Bool} {product : ℕ → ℕ → ℕ} (laws : ProductLaws levelled weighed product) (scale : Scale) (labels : List (List ℕ)) (g h : GrammarOf)
    (c : IsCanonical product scale labels g h) (some : 0 < length g.names) (range : AreInRange (length g.names) g.rules) where
  as_long : length h.names ≡ length c.is_trimmed.states
  as_long = ap length c.in_order.names ∙ length-names_of (length c.trimmed.names) ∙ names_long product g c.trimmed c.is_trimmed

  canonical_rules : HaveRules h
  canonical_rules q first within =
      let own = states_have_rules laws g c.trimmed c.is_trimmed (length g.names) some range q first (omega (arith, as_long)) in
      let sides = c.in_order.whole (rule_at c.trimmed.rules own.0) (has_at c.trimmed.rules own.0 no_rule own.1) in
      let at = at_has h.rules sides.rule no_rule sides.stands in
      (at.0, at.1, ap (λ (r : Rule ℕ). r.left) at.2 ∙ sides.agrees.left ∙ own.2)

  pub canonical_has_text : length g.names ≤ 4294967296 → SidesEndInHoles g.rules → ArePrintable scale labels g.rules → HasText scale labels h
  canonical_has_text few leaves printable =
      let t : IsTrimmed product g c.trimmed = c.is_trimmed in
      let count : length c.trimmed.names ≤ 4294967296 = omega (arith, few_states laws g c.trimmed t (length g.names) some range, names_long product g c.trimmed t) in
      record {
        start = omega (arith, as_long, some_states laws g c.trimmed t (length g.names) some range);
        names = subst AreStateNames (sym c.in_order.names) (are_state_names (length c.trimmed.names) count);
        range = of_members (IsInRange (length h.names)) c.trimmed.rules h.rules c.in_order.kept (subst (λ n. AreInRange n c.trimmed.rules) (sym as_long) t.in_range);
        leaves = of_members (λ r. HolesAreLeaves (only r.right)) c.trimmed.rules h.rules c.in_order.kept (trimmed_leaves product g c.trimmed t leaves);
        lefts = canonical_rules;
        printable = canonical_printable scale labels product g h c printable;
      }

  pub canonical_text : length g.names ≤ 4294967296 → SidesEndInHoles g.rules → ArePrintable scale labels g.rules → GrammarText scale labels (grammar_text scale labels h) h
  canonical_text few leaves printable = reads_sorted scale labels h (canonical_has_text few leaves printable) (lefts_ascend scale h.names labels h.rules c.in_order.ascends)

-- the same for a normal form of a grammar

hole_alone : (s : Side ℕ ℕ) (q : ℕ) → HolesAreLeaves (only s) → s.label ≡ hole q → s ≡ Lone q
hole_alone s q h e = by s.label s.kids h e
  where
    by : (l : Symbol ℕ ℕ) (kids : Trees (Symbol ℕ ℕ)) → HolesAreLeaves (tree l kids none) → l ≡ hole q → (let t : Side ℕ ℕ = record { label = l; kids = kids } in t ≡ Lone q)
    by (label f) kids h e = absurd (cc)
    by (hole p) none h e = ap (λ (l : Symbol ℕ ℕ). record { label = l; kids = none }) e
    by (hole p) (tree t kids more) h e = absurd h

pub are_lone : (rules : List (Rule ℕ)) → SidesEndInHoles rules → AreLone rules
are_lone rules leaves n q h e = hole_alone (rule_at rules n).right q (leaves n h) e

pub normal_text :
    {levelled weighed : Bool} {product : ℕ → ℕ → ℕ} → ProductLaws levelled weighed product → (scale : Scale) (labels : List (List ℕ)) (g m h : GrammarOf) → 0 < length g.names → length m.names ≤ 4294967296 → AreInRange (length g.names) g.rules →
    SidesEndInHoles g.rules → ArePrintable scale labels g.rules → IsNormalForm product (length g.names) g.rules (length m.names) m.rules → IsCanonical product scale labels m h → GrammarText scale labels (grammar_text scale labels h) h
normal_text {product = product} laws scale labels g m h some few range leaves printable form c =
    canonical_text laws scale labels m h c (omega (arith, form.counted, some))
    (form_range product (length g.names) g.rules (length m.names) m.rules form range (are_lone g.rules leaves)) few
    (form_leaves product (length g.names) g.rules (length m.names) m.rules form)
    (form_printable product (laws.neutral 0) scale labels (length g.names) g.rules printable (length m.names) m.rules form)

-- and of a grammar over keys

module _ {levelled weighed : Bool} {product : ℕ → ℕ → ℕ} (laws : ProductLaws levelled weighed product) {K : Type 0} (cmp : K → K → Ordering) (scale : Scale) (labels : List (List ℕ)) where
  over_text :
      (order : List K) (rules : List (Rule ℕ)) (start : ℕ) (g h : GrammarOf) → length order ≤ 4294967296 → SidesEndInHoles rules → ArePrintable scale labels rules → IsOverKeys cmp order rules start g →
      IsCanonical product scale labels g h → GrammarText scale labels (grammar_text scale labels h) h
  over_text order rules start g h few leaves printable over canonical =
      let long : length g.names ≡ length order = ap length over.names ∙ length-names_of (length order) in
      let stands : Has over.states start = subst (λ (qs : List ℕ). Has qs start) (sym over.by_keys.first) (inl refl) in
      let within : start < length order = (over.by_keys.all start).0 stands in
      canonical_text laws scale labels g h canonical (omega (arith, long, within)) (subst (λ n. AreInRange n g.rules) (sym long) over.in_range) (omega (arith, long, few))
      (leaves_over cmp order start rules g over leaves) (over_printable scale labels cmp order rules start g over printable)

  pub at_text :
      (order : List K) (rules : List (Rule ℕ)) (start : ℕ) (h : GrammarOf) → length order ≤ 4294967296 → SidesEndInHoles rules → ArePrintable scale labels rules →
      IsCanonicalOverKeys product scale labels cmp order rules (At start) h → GrammarText scale labels (grammar_text scale labels h) h
  at_text order rules start h few leaves printable c = over_text order rules start c.over h few leaves printable c.begun c.canonical

pub keys_text :
    {levelled weighed : Bool} {product : ℕ → ℕ → ℕ} → ProductLaws levelled weighed product → {K : Type 0} (cmp : K → K → Ordering) (scale : Scale) (labels : List (List ℕ)) (order : List K) (rules : List (Rule ℕ)) (begin : Begin) (h : GrammarOf) →
    length order < 4294967296 → SidesEndInHoles rules → ArePrintable scale labels (begun_rules begin rules) → IsCanonicalOverKeys product scale labels cmp order rules begin h → GrammarText scale labels (grammar_text scale labels h) h
keys_text {product = product} laws cmp scale labels order rules begin h few leaves printable c = by begin printable c.over c.begun c.canonical
  where
    by : (begin : Begin) → ArePrintable scale labels (begun_rules begin rules) → (g : GrammarOf) → IsBegun cmp order rules begin g → IsCanonical product scale labels g h → GrammarText scale labels (grammar_text scale labels h) h
    by (At start) printable g over canonical = over_text laws cmp scale labels order rules start g h (omega arith) leaves printable over canonical
    by (Fresh finals) printable g over canonical =
        over_text laws (option_cmp cmp) scale labels (behind_fresh order) (started_rules finals rules) 0 g h (omega (arith, few, behind_long order)) (started_leaves finals rules leaves) printable over canonical
    by Empty printable g e canonical =
        canonical_text laws scale labels without_rules h (subst (λ (k : GrammarOf). IsCanonical product scale labels k h) e canonical) (omega (arith, length-names_of 1)) (λ m b. absurd (omega arith)) (omega (arith, length-names_of 1))
        (λ m b. absurd (omega arith)) (λ m b. absurd (omega arith))
