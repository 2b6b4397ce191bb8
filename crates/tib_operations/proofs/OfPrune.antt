-- What `prune` writes: one text, and that there is none cannot be where the normal form is within
-- the limit.
use Rattle.tib_cost.specs.declared.Scale.{Scale}
use Rattle.std.proofs.Common.{◌≡◌, ◌⊎◌, ℕ, ◌<◌, ◌≤◌, Bool, List, [], ◌∷◌, ◌++◌, length, map, get_or, refl, ap, sym, ◌∙◌, subst, arith, zero, suc, inl, inr, length-append}
use Rattle.std.specs.Prelude.{Option, None, Some}
use Rattle.std.proofs.lemmas.List.{get_or_append_left, get_or_past}
use Rattle.std.proofs.Math.Seq.{get_or-append_seam}
use Rattle.tib_lex.proofs.Numbers.{below_cases}
use Rattle.tib_lex.proofs.Members.{has_at, at_has}
use Rattle.tib_lex.specs.Lists.{Has, Distinct, IsReordering}
use Rattle.tib_tree.specs.Trees.{only}
use Rattle.tib_cost.specs.Least.{IsLeast}
use Rattle.tib_cost.specs.Semiring.{ProductLaws}
use Rattle.tib_grammar.specs.GrammarOf.{GrammarOf}
use Rattle.tib_grammar.specs.Range.{AllBelow, IsInRange, AreInRange, SidesEndInHoles}
use Rattle.tib_grammar.specs.Run.{rule_at, no_rule}
use Rattle.tib_grammar.specs.Series.{HasSameSeries}
use Rattle.tib_grammar.specs.Sides.{holes_of, HolesAreLeaves}
use Rattle.tib_grammar.specs.declared.Rule.{Rule}
use Rattle.tib_grammar_file.specs.ByText.{AgreeByText}
use Rattle.tib_grammar_file.specs.Printable.{IsPrintable, ArePrintable}
use Rattle.tib_grammar_file.specs.Printed.{grammar_text}
use Rattle.tib_grammar_file.proofs.Relabelled.{rules_with}
use Rattle.tib_grammar_file.proofs.Renumbering.{renumbering}
use Rattle.tib_normal.specs.NormalForm.{IsNormalForm, normal_parts}
use Rattle.tib_normal.specs.Rows.{HasFormWithin}
use Rattle.tib_normal.proofs.Existing.{has_least}
use Rattle.tib_normal.proofs.Forming.{form_range}
use Rattle.tib_inside.specs.Settling.{costs_in}
use Rattle.tib_inside.specs.Trimmed.{IsTrimmed}
use Rattle.tib_inside.proofs.Living.{insides_all}
use Rattle.tib_prune.specs.Contexts.{Context, gap, below, later, AreRunsAround}
use Rattle.tib_prune.specs.Outside.{IsContextCost, IsOutside}
use Rattle.tib_prune.specs.Pruned.{IsKept, ArePruned, IsPruned, AreCosts}
use Rattle.tib_prune.proofs.Pruned.{keeps_cost, had_cost, stands_cheap}
use Rattle.tib_canon.specs.Canonical.{names_of, IsCanonical}
use Rattle.tib_canon.specs.TrimmedForms.{IsTrimmedForm}
use Rattle.tib_canon.proofs.Alike.{AreAlike}
use Rattle.tib_canon.proofs.CanonicalByText.{form_labels, trimmed_labels, canonical_labels, grammar_kept, canonical_with}
use Rattle.tib_canon.proofs.CanonicalExists.{canonical_there}
use Rattle.tib_canon.proofs.CanonicalTexts.{are_lone, canonical_text, trimmed_leaves}
use Rattle.tib_canon.proofs.Inhabited.{insides_are, few_states, some_states}
use Rattle.tib_canon.proofs.NormalForms.{form_leaves}
use Rattle.tib_canon.proofs.StateNames.{length-names_of}
use Rattle.tib_canon.proofs.TrimmedByText.{grammar_with, grammar_printed, EachLabelIn, KeepsText}
use Rattle.tib_canon.proofs.TrimmedExist.{AreThose, those_there, trimmed_there}
use Rattle.tib_canon.proofs.TrimmedOnce.{names_long, one_canonical_of}
use Rattle.tib_operations.specs.Prune.{IsPrunedForm, HasPruneText}
use Rattle.tib_operations.proofs.BestRuns.{keeps_over}
use Rattle.tib_operations.proofs.OfIntersect.{form_same, form_plain, form_is_normal}
use Rattle.tib_operations.proofs.PairsByText.{differ}
use Rattle.tib_operations.proofs.PrunedAlike.{kept_alike, kept_among}
use Rattle.tib_operations.proofs.ReadSound.{IsSound}

-- what holds of each rule of a list holds of each of another list whose rules all are in it
among : (P : Rule ℕ → Type 0) (rules some : List (Rule ℕ)) → ((r : Rule ℕ) → Has some r → Has rules r) → ((m : ℕ) → m < length rules → P (rule_at rules m)) → (m : ℕ) → m < length some → P (rule_at some m)
among P rules some stands all m h =
    let at = at_has rules (rule_at some m) no_rule (stands (rule_at some m) (has_at some m no_rule h)) in
    subst P at.2 (all at.0 at.1)

-- nothing is below a state in what is left
kept_leaves : (product : ℕ → ℕ → ℕ) (beam : ℕ) (g k : GrammarOf) → IsPrunedForm product beam g k → SidesEndInHoles k.rules
kept_leaves product beam g k p =
    among (λ (r : Rule ℕ). HolesAreLeaves (only r.right)) p.form.rules k.rules (kept_among product p.form.rules beam k.rules p.pruned.rules)
    (trimmed_leaves product p.is_form.normal p.form p.is_form.trimmed (form_leaves product (length g.names) g.rules (length p.is_form.normal.names) p.is_form.normal.rules p.is_form.form))

-- what is left can be printed where the form can
pub kept_printable : (scale : Scale) (labels : List (List ℕ)) (product : ℕ → ℕ → ℕ) (beam : ℕ) (form kept : GrammarOf) → IsPruned product beam form kept → ArePrintable scale labels form.rules → ArePrintable scale labels kept.rules
kept_printable scale labels product beam form kept pruned plain = among (IsPrintable scale labels) form.rules kept.rules (kept_among product form.rules beam kept.rules pruned.rules) plain

pub prune_once :
    (scale : Scale) (product : ℕ → ℕ → ℕ) (beam : ℕ) (labels others : List (List ℕ)) (g h : GrammarOf) (text other : List ℕ) → Distinct labels → Distinct others → AgreeByText labels others g h →
    HasPruneText scale product beam labels g text → HasPruneText scale product beam others h other → text ≡ other
prune_once scale product beam labels others g h text other apart different agree a b =
    let s = renumbering labels others apart different in
    let f : ℕ → ℕ = s.0 in
    let m : GrammarOf = a.is_kept.form in
    let n : GrammarOf = b.is_kept.form in
    let i : GrammarOf = a.printed.h in
    let same : IsReordering (rules_with f m.rules) n.rules = differ product labels others f s.1 g h m n agree a.is_kept.is_form b.is_kept.is_form in
    let alike : AreAlike (rules_with f m.rules) n.rules = record { to = same.to; from = same.from } in
    let kept : AreAlike (rules_with f a.kept.rules) b.kept.rules = kept_alike f m.rules n.rules alike product beam a.kept.rules b.kept.rules a.is_kept.pruned.rules b.is_kept.pruned.rules in
    let first : EachLabelIn (KeepsText labels others f) m.rules =
    trimmed_labels (KeepsText labels others f) product a.is_kept.is_form.normal m a.is_kept.is_form.trimmed
    (form_labels (KeepsText labels others f) product (length g.names) g.rules (length a.is_kept.is_form.normal.names) a.is_kept.is_form.normal.rules a.is_kept.is_form.form (grammar_kept labels others f s.1 g h agree)) in
    let e : EachLabelIn (KeepsText labels others f) i.rules =
    canonical_labels (KeepsText labels others f) product scale labels a.kept i a.printed.canonical
    (λ r k. first r (kept_among product m.rules beam a.kept.rules a.is_kept.pruned.rules r k)) in
    let leaves : SidesEndInHoles b.kept.rules = kept_leaves product beam h b.kept b.is_kept in
    let one : grammar_with f i ≡ b.printed.h =
    one_canonical_of product scale others (grammar_with f a.kept) b.kept (grammar_with f i) b.printed.h
    (among (λ (r : Rule ℕ). HolesAreLeaves (only r.right)) b.kept.rules (rules_with f a.kept.rules) kept.to leaves) leaves kept
    (canonical_with labels others f s.1 product scale a.kept i e a.printed.canonical) b.printed.canonical in
    a.printed.are ∙ grammar_printed labels others f scale i e ∙ ap (grammar_text scale others) one ∙ sym b.printed.are

below_or_not : (i k : ℕ) → (i < k) ⊎ (k ≤ i)
below_or_not i k = grind arith

-- that the outside costs of all states are none that there are cannot be
module _ (product : ℕ → ℕ → ℕ) (rules : List (Rule ℕ)) where
  abbrev AreOutsidesBelow : List (Option ℕ) → Type 0
  AreOutsidesBelow costs = (q : ℕ) → q < length costs → IsOutside product rules q (get_or costs q None)

  outsides_more : (costs : List (Option ℕ)) (v : Option ℕ) → AreOutsidesBelow costs → IsOutside product rules (length costs) v → AreOutsidesBelow (costs ++ v ∷ [])
  outsides_more costs v are o q h = elim (below_cases q (length costs) (omega (arith, h, length-append costs (v ∷ [])))) [
    | inl k ↦ subst (IsOutside product rules q) (sym (get_or_append_left costs (v ∷ []) None q k)) (are q k)
    | inr e ↦ subst (λ p. IsOutside product rules p (get_or (costs ++ v ∷ []) p None)) (sym e) (subst (IsOutside product rules (length costs)) (sym (get_or-append_seam costs v [] None)) o)
  ]

  outsides_are : (count : ℕ) → ((costs : List (Option ℕ)) → length costs ≡ count → AreOutsidesBelow costs → ⊥) → ⊥
  outsides_are zero k = k [] refl (λ q h. absurd (omega arith))
  outsides_are (suc n) k =
      outsides_are n (λ costs long are.
      has_least (IsContextCost product rules (length costs)) (λ v o. k (costs ++ v ∷ []) (omega (arith, length-append costs (v ∷ []), long)) (outsides_more costs v are o)))

  module _ (count : ℕ) (some : 0 < count) (range : AreInRange count rules) where
    -- a context run leads to a state that is in range
    around_below : (q : ℕ) (qs : List ℕ) (c : Context ℕ) → AllBelow count qs → AreRunsAround rules q qs c → q < count
    around_below q [] c b h = absurd h
    around_below q (p ∷ qs) (gap rest) b h = omega (arith, b.0, h.0)
    around_below q (p ∷ qs) (below n c rest) b h = around_below q (holes_of (rule_at rules n).right) c (range n h.0).1 h.2
    around_below q (p ∷ qs) (later n runs c) b h = around_below q qs c b.1 h.3

    outsides_all : (costs : List (Option ℕ)) → length costs ≡ count → AreOutsidesBelow costs → (q : ℕ) → IsOutside product rules q (costs_in costs q)
    outsides_all costs long are q = elim (below_or_not q (length costs)) [
      | inl k ↦ are q k
      | inr k ↦ subst (IsOutside product rules q) (sym (get_or_past costs q None k)) (record {
        attained = tt;
        lower = λ n r b. let l = around_below q (0 ∷ []) r.context (some, tt) r.are_runs in absurd (omega (arith, l, k, long));
      })
    ]

    pub costs_there : ((insides outsides : ℕ → Option ℕ) → AreCosts product rules insides outsides → ⊥) → ⊥
    costs_there k =
        insides_are product rules count (λ insides long are.
        outsides_are count (λ outsides as_long are_too.
        k (costs_in insides) (costs_in outsides) (record {
          are_insides = insides_all product rules insides (subst (λ n. AreInRange n rules) (sym long) range) are;
          are_outsides = outsides_all outsides as_long are_too;
        })))

-- the rules of a list at some positions
module _ (product : ℕ → ℕ → ℕ) (beam : ℕ) (form : GrammarOf) (positions : List ℕ) (those : AreThose (IsKept product form.rules beam) (length form.rules) positions) where
  abbrev left_over : GrammarOf
  left_over = record { names = form.names; rules = map (rule_at form.rules) positions }

  is_left_over : IsPruned product beam form left_over
  is_left_over = record {
    names = refl;
    rules = record { positions = positions; ascend = those.ascend; are_kept = λ n. (those.hold n, λ k. those.all n k.through.position k); are_rules = refl };
  }

module _ {levelled weighed : Bool} {product : ℕ → ℕ → ℕ} (laws : ProductLaws levelled weighed product) where
  module _
      (scale : Scale) (beam : ℕ) (labels : List (List ℕ)) (apart : Distinct labels) (g : GrammarOf) (s : IsSound g) (printable : ArePrintable scale labels g.rules)
      (never : (text : List ℕ) → HasPruneText scale product beam labels g text → ⊥) where
    of_kept :
        (form : GrammarOf) (t : IsTrimmedForm product g form) → 0 < length form.names → length form.names ≤ 4294967296 → AreInRange (length form.names) form.rules → HasSameSeries product g form →
        (insides outsides : ℕ → Option ℕ) → AreCosts product form.rules insides outsides → (positions : List ℕ) → AreThose (IsKept product form.rules beam) (length form.rules) positions → ⊥
    of_kept form t some few range same insides outsides costs positions those =
        let k : GrammarOf = left_over product beam form positions those in
        let pruned : IsPruned product beam form k = is_left_over product beam form positions those in
        let p : IsPrunedForm product beam g k = record { form = form; is_form = t; pruned = pruned } in
        let stands : (r : Rule ℕ) → Has k.rules r → Has form.rules r = kept_among product form.rules beam k.rules pruned.rules in
        let in_range : AreInRange (length k.names) k.rules = among (IsInRange (length form.names)) form.rules k.rules stands range in
        let leaves : SidesEndInHoles k.rules = kept_leaves product beam g k p in
        let plain : ArePrintable scale labels k.rules = kept_printable scale labels product beam form k pruned (form_plain laws scale labels g form t printable) in
        canonical_there laws scale labels k some few in_range leaves apart plain (λ h c series.
        never (grammar_text scale labels h) (record {
          kept = k;
          is_kept = p;
          keeps =
              keeps_over product g.rules form.rules beam k.rules same
              (keeps_cost laws form.rules beam k.rules pruned.rules insides outsides costs)
              (had_cost laws form.rules beam k.rules pruned.rules (form_is_normal laws g form t))
              (stands_cheap laws form.rules beam k.rules pruned.rules insides outsides costs);
          printed = record { h = h; canonical = c; series = series; are = refl; read = canonical_text laws scale labels k h c some in_range few leaves plain };
        }))

    of_normal : (limit : ℕ) → limit < 4294967296 → (m : GrammarOf) → IsNormalForm product (length g.names) g.rules (length m.names) m.rules → normal_parts (length m.names) m.rules ≤ limit → ⊥
    of_normal limit low m form within =
        let some : 0 < length m.names = omega (arith, form.counted, s.start) in
        let range : AreInRange (length m.names) m.rules = form_range product (length g.names) g.rules (length m.names) m.rules form s.range (are_lone g.rules s.leaves) in
        trimmed_there product m (length m.names) some range (form_leaves product (length g.names) g.rules (length m.names) m.rules form) (λ t trimmed.
        let is : IsTrimmedForm product g t = record { normal = m; form = form; trimmed = trimmed } in
        let long : length t.names ≡ length trimmed.states = names_long product m t trimmed in
        let one : 0 < length t.names = omega (arith, long, some_states laws m t trimmed (length m.names) some range) in
        let few : length t.names ≤ 4294967296 = omega (arith, long, few_states laws m t trimmed (length m.names) some range, low, within) in
        let own : AreInRange (length t.names) t.rules = subst (λ n. AreInRange n t.rules) (sym long) trimmed.in_range in
        form_same laws g t s is (λ same.
        costs_there product t.rules (length t.names) one own (λ insides outsides costs.
        those_there (IsKept product t.rules beam) (length t.rules) (λ positions those.
        of_kept t is one few own same insides outsides costs positions those))))

  pub prune_there :
      (scale : Scale) (limit beam : ℕ) → limit < 4294967296 → (labels : List (List ℕ)) → Distinct labels → (g : GrammarOf) → IsSound g → ArePrintable scale labels g.rules → HasFormWithin product (length g.names) g.rules limit →
      ((text : List ℕ) → HasPruneText scale product beam labels g text → ⊥) → ⊥
  prune_there scale limit beam low labels apart g s printable w never =
      let many : w.states_in_all ≡ length (names_of w.states_in_all) = sym (length-names_of w.states_in_all) in
      of_normal scale beam labels apart g s printable never limit low (record { names = names_of w.states_in_all; rules = w.normal_rules })
      (subst (λ n. IsNormalForm product (length g.names) g.rules n w.normal_rules) many w.form) (subst (λ n. normal_parts n w.normal_rules ≤ limit) many w.within)
