-- What `trim` writes: one text, and that there is none cannot be.
use Rattle.tib_cost.specs.declared.Scale.{Scale}
use Rattle.std.proofs.Common.{◌≡◌, ℕ, ◌<◌, Bool, List, [], ◌∷◌, length, map, get_or, refl, ap, sym, ◌∙◌, subst, arith, Option}
use Rattle.std.proofs.lemmas.List.{get_or-map, length-map}
use Rattle.tib_lex.specs.Lists.{Has, Distinct}
use Rattle.tib_lex.proofs.Members.{has_at, at_has}
use Rattle.tib_lex.proofs.Numbers.{same_or_other}
use Rattle.tib_tree.specs.Trees.{only}
use Rattle.tib_cost.specs.Semiring.{ProductLaws}
use Rattle.tib_grammar.specs.GrammarOf.{GrammarOf, named_rule}
use Rattle.tib_grammar.specs.Range.{IsInRange, AreInRange, SidesEndInHoles}
use Rattle.tib_grammar.specs.Run.{rule_at, no_rule}
use Rattle.tib_grammar.specs.Series.{HaveSameSeries}
use Rattle.tib_grammar.specs.Sides.{holes_of, HolesAreLeaves}
use Rattle.tib_grammar.specs.declared.Rule.{Rule}
use Rattle.tib_grammar_file.specs.ByText.{AgreeByText}
use Rattle.tib_grammar_file.specs.GrammarText.{GrammarText}
use Rattle.tib_grammar_file.specs.Printable.{IsPrintable, ArePrintable}
use Rattle.tib_grammar_file.specs.Printed.{grammar_text}
use Rattle.tib_grammar_file.proofs.Relabelled.{rules_with}
use Rattle.tib_grammar_file.proofs.Renumbering.{renumbering}
use Rattle.tib_grammar_file.proofs.RunsByText.{rules_given}
use Rattle.tib_canon.proofs.CanonicalByText.{grammar_kept}
use Rattle.tib_canon.proofs.PlacesIn.{place_in, placed_in_range, placed_back, map_back}
use Rattle.tib_canon.proofs.TrimmedByText.{grammar_with, EachLabelIn, KeepsText, grammar_printed}
use Rattle.tib_canon.proofs.TrimmedExist.{those_there}
use Rattle.tib_prune.specs.Pruned.{AreCosts}
use Rattle.tib_trim.specs.Complete.{IsInCompleteRun, AreAllInCompleteRuns}
use Rattle.tib_trim.specs.FirstSeen.{states_of}
use Rattle.tib_trim.specs.TrimmedFile.{AreInCompleteRuns, HasRules, IsTrimmedFile}
use Rattle.tib_trim.proofs.Assembled.{both_series, kept_series, kept_runs}
use Rattle.tib_trim.proofs.CompleteRules.{stands_below, closed, same_series, all_in}
use Rattle.tib_trim.proofs.FirstSeen.{has_states}
use Rattle.tib_operations.specs.Trim.{HasTrimText}
use Rattle.tib_operations.proofs.FirstSight.{printable_too, reads_kept}
use Rattle.tib_operations.proofs.KeptByText.{leaves_with, position_below, trimmed_with, trimmed_once, trimmed_labels}
use Rattle.tib_operations.proofs.OfPrune.{costs_there}
use Rattle.tib_operations.proofs.ReadSound.{IsSound, read_sound}

-- grammars that agree by text are one with other numbers of labels
pub given_with :
    (labels others : List (List ℕ)) (g h : GrammarOf) → Distinct labels → Distinct others → AgreeByText labels others g h →
    (f : ℕ → ℕ) × (grammar_with f g ≡ h) × EachLabelIn (KeepsText labels others f) g.rules
given_with labels others g h apart different agree =
    let s = renumbering labels others apart different in (
      s.0,
      ap (λ (ns : List (List ℕ)). let k : GrammarOf = record { names = ns; rules = rules_with s.0 g.rules } in k) agree.names
          ∙ ap (λ (rs : List (Rule ℕ)). let k : GrammarOf = record { names = h.names; rules = rs } in k) (rules_given labels others s.0 s.1 g.rules h.rules agree.rules),
      grammar_kept labels others s.0 s.1 g h agree,
    )

pub trim_once :
    (scale : Scale) (product : ℕ → ℕ → ℕ) (labels others : List (List ℕ)) (g h : GrammarOf) (text other : List ℕ) → Distinct labels → Distinct others → AgreeByText labels others g h →
    HasTrimText scale product labels g text → HasTrimText scale product others h other → text ≡ other
trim_once scale product labels others g h text other apart different agree a b =
    let s = given_with labels others g h apart different agree in
    let f : ℕ → ℕ = s.0 in
    let moved : IsTrimmedFile product h (grammar_with f a.h) = subst (λ (k : GrammarOf). IsTrimmedFile product k (grammar_with f a.h)) s.1 (trimmed_with f product g a.h a.canonical.trimmed) in
    let one : grammar_with f a.h ≡ b.h =
    trimmed_once product h (grammar_with f a.h) b.h moved b.canonical.trimmed (leaves_with f a.h.rules (read_sound scale labels text a.h a.read).leaves) (read_sound scale others other b.h b.read).leaves in
    a.are
    ∙ grammar_printed labels others f scale a.h (trimmed_labels (KeepsText labels others f) product g a.h a.canonical.trimmed s.2)
    ∙ ap (grammar_text scale others) one
    ∙ sym b.are

-- what is kept of a grammar that was read
module _ (product : ℕ → ℕ → ℕ) (g h : GrammarOf) (s : IsSound g) (t : IsTrimmedFile product g h) where
  abbrev pub kept_rules : List (Rule ℕ)
  kept_rules = map (rule_at g.rules) t.positions

  -- what holds of each rule of the grammar holds of each rule that is kept
  each_kept : (P : Rule ℕ → Type 0) → ((n : ℕ) → n < length g.rules → P (rule_at g.rules n)) → (i : ℕ) → i < length kept_rules → P (rule_at kept_rules i)
  each_kept P each i b =
      let below : i < length t.positions = omega (arith, b, length-map t.positions (rule_at g.rules)) in
      let n : ℕ = get_or t.positions i 0 in
      subst P (sym (get_or-map (rule_at g.rules) t.positions i 0 no_rule below)) (each n (position_below product g.rules t.positions t.are_kept n (has_at t.positions i 0 below)))

  pub kept_in_range : AreInRange (length g.names) kept_rules
  kept_in_range = each_kept (IsInRange (length g.names)) s.range

  pub kept_leaves : SidesEndInHoles kept_rules
  kept_leaves = each_kept (λ (r : Rule ℕ). HolesAreLeaves (only r.right)) s.leaves

  module _ (scale : Scale) (labels : List (List ℕ)) (printable : ArePrintable scale labels g.rules) where
    kept_printable : ArePrintable scale labels kept_rules
    kept_printable = each_kept (IsPrintable scale labels) printable

    pub trimmed_printable : ArePrintable scale labels h.rules
    trimmed_printable = printable_too g.names kept_rules h t.has_rules scale labels kept_printable

    -- its text has these parts
    pub trim_text :
        AreAllInCompleteRuns product h.rules → HaveSameSeries product g.rules h.rules → (text : List ℕ) → text ≡ grammar_text scale labels h → HasTrimText scale product labels g text
    trim_text runs series text e = record {
      h = h;
      canonical = record { trimmed = t; runs = runs };
      series = series;
      are = e;
      read = subst (λ (bytes : List ℕ). GrammarText scale labels bytes h) (sym e) (reads_kept g.names kept_rules h t.has_rules s.names s.start kept_in_range scale labels kept_leaves kept_printable);
    }

-- the rules in complete runs, over the start and their left states
module _
    {levelled weighed : Bool} {product : ℕ → ℕ → ℕ} (laws : ProductLaws levelled weighed product) (g : GrammarOf) (s : IsSound g) (positions : List ℕ) (are : AreInCompleteRuns product g.rules positions)
    (insides outsides : ℕ → Option ℕ) (costs : AreCosts product g.rules insides outsides) where
  abbrev kept : List (Rule ℕ)
  kept = map (rule_at g.rules) positions

  abbrev pub placed : ℕ → Rule ℕ
  placed n = named_rule (place_in same_or_other (states_of kept)) (rule_at g.rules n)

  abbrev pub trimmed_of : GrammarOf
  trimmed_of = record { names = map (λ q. get_or g.names q []) (states_of kept); rules = map placed positions }

  all_complete : AreAllInCompleteRuns product kept
  all_complete = all_in laws g.rules insides outsides costs positions kept are refl

  at_position : (i : ℕ) → i < length positions → rule_at kept i ≡ rule_at g.rules (get_or positions i 0)
  at_position i h = get_or-map (rule_at g.rules) positions i 0 no_rule h

  left_stands : (i : ℕ) → i < length positions → Has (states_of kept) (rule_at g.rules (get_or positions i 0)).left
  left_stands i h =
      has_states kept (rule_at g.rules (get_or positions i 0)).left (i, omega (arith, h, length-map positions (rule_at g.rules)), ap (λ (r : Rule ℕ). r.left) (at_position i h))

  right_stands : (i : ℕ) → i < length positions → (q : ℕ) → Has (holes_of (rule_at g.rules (get_or positions i 0)).right) q → Has (states_of kept) q
  right_stands i h q k =
      has_states kept q
      (closed product kept all_complete i q (omega (arith, h, length-map positions (rule_at g.rules))) (subst (λ (r : Rule ℕ). Has (holes_of r.right) q) (sym (at_position i h)) k))

  placed_range : AreInRange (length (states_of kept)) (map placed positions)
  placed_range i h =
      let below : i < length positions = omega (arith, h, length-map positions placed) in
      subst (IsInRange (length (states_of kept))) (sym (get_or-map placed positions i 0 no_rule below))
      (placed_in_range same_or_other 0 (states_of kept) (rule_at g.rules (get_or positions i 0)) (left_stands i below) (right_stands i below))

  back : (n : ℕ) → Has positions n → named_rule (λ i. get_or (states_of kept) i 0) (placed n) ≡ rule_at g.rules n
  back n h =
      let at = at_has positions n 0 h in
      subst (λ (m : ℕ). named_rule (λ i. get_or (states_of kept) i 0) (placed m) ≡ rule_at g.rules m) at.2
      (placed_back same_or_other 0 (states_of kept) (rule_at g.rules (get_or positions at.0 0)) (left_stands at.0 at.1) (right_stands at.0 at.1)
      (s.leaves (get_or positions at.0 0) (position_below product g.rules positions are (get_or positions at.0 0) (has_at positions at.0 0 at.1))))

  pub has_kept : HasRules g.names kept trimmed_of
  has_kept = record {
    names = refl;
    in_range = placed_range;
    named = map_back (named_rule (λ i. get_or (states_of kept) i 0)) placed (rule_at g.rules) positions back;
  }

  abbrev pub is_trimmed : IsTrimmedFile product g trimmed_of
  is_trimmed = record { positions = positions; are_kept = are; has_rules = has_kept }

  pub trimmed_runs : AreAllInCompleteRuns product trimmed_of.rules
  trimmed_runs = kept_runs product g.names kept trimmed_of has_kept all_complete

  pub trimmed_series : HaveSameSeries product g.rules trimmed_of.rules
  trimmed_series = both_series product g.rules kept trimmed_of.rules (same_series laws g.rules insides outsides costs positions kept are refl) (kept_series product g.names kept trimmed_of has_kept)

-- that there are no such positions and costs cannot be
pub complete_there :
    (product : ℕ → ℕ → ℕ) (g : GrammarOf) → IsSound g → ((positions : List ℕ) → AreInCompleteRuns product g.rules positions → (insides outsides : ℕ → Option ℕ) → AreCosts product g.rules insides outsides → ⊥) → ⊥
complete_there product g s k =
    costs_there product g.rules (length g.names) s.start s.range (λ insides outsides costs.
    those_there (IsInCompleteRun product g.rules) (length g.rules) (λ positions those.
    k positions
    (record { ascend = those.ascend; are = λ n. (those.hold n, λ r. those.all n (stands_below g.rules (0 ∷ []) r.run n r.complete.from_start r.stands) r) })
    insides outsides costs))

pub trim_there :
    {levelled weighed : Bool} {product : ℕ → ℕ → ℕ} → ProductLaws levelled weighed product → (scale : Scale) (labels : List (List ℕ)) → Distinct labels → (g : GrammarOf) → IsSound g → ArePrintable scale labels g.rules →
    ((text : List ℕ) → HasTrimText scale product labels g text → ⊥) → ⊥
trim_there {product = product} laws scale labels apart g s printable never =
    complete_there product g s (λ positions are insides outsides costs.
    let h : GrammarOf = trimmed_of laws g s positions are insides outsides costs in
    never (grammar_text scale labels h)
    (trim_text product g h s (is_trimmed laws g s positions are insides outsides costs) scale labels printable (trimmed_runs laws g s positions are insides outsides costs)
    (trimmed_series laws g s positions are insides outsides costs) (grammar_text scale labels h) refl))
