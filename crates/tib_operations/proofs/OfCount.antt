-- What `count` makes is within the limit over each table of labels, or has more parts; its text is
-- one; and that there is none cannot be.
use Rattle.std.proofs.Common.{◌≡◌, ℕ, List, length, map, max, refl, ap, sym, ◌∙◌, subst, inl, inr}
use Rattle.std.proofs.lemmas.List.{length-map}
use Rattle.tib_lex.specs.Lists.{Distinct}
use Rattle.tib_cost.specs.Semiring.{boolean_laws}
use Rattle.tib_grammar.specs.GrammarOf.{GrammarOf}
use Rattle.tib_grammar.specs.Run.{rule_at}
use Rattle.tib_grammar_file.specs.ByText.{AgreeByText}
use Rattle.tib_grammar_file.proofs.Relabelled.{rule_with}
use Rattle.tib_canon.specs.TrimmedForms.{IsTrimmedForm}
use Rattle.tib_canon.proofs.TrimmedByText.{grammar_with}
use Rattle.tib_trim.specs.FirstSeen.{states_of}
use Rattle.tib_trim.specs.TrimmedFile.{IsTrimmedFile}
use Rattle.tib_count.specs.Counts.{IsEndless}
use Rattle.tib_count.specs.Counted.{IsRun, IsTree}
use Rattle.tib_count.specs.declared.count.Count.TheVariants.{Endless}
use Rattle.tib_count.proofs.SetCounts.{count_is_one, count_is_there}
use Rattle.tib_operations.specs.Count.{CountsOf, AreCountsOf, count_text, HasCountText, unless, count_makes}
use Rattle.tib_operations.specs.Determinize.{determinizing}
use Rattle.tib_operations.specs.Made.{Made, normal_form, reached_set}
use Rattle.tib_operations.proofs.CountByText.{runs_by_text, trees_by_text}
use Rattle.tib_operations.proofs.FirstSight.{names_long, rules_long}
use Rattle.tib_operations.proofs.FormsByText.{within_by_text}
use Rattle.tib_operations.proofs.KeptByText.{trimmed_with, positions_once}
use Rattle.tib_operations.proofs.MadeParts.{IsEither, both_either, form_either, reached_either}
use Rattle.tib_operations.proofs.OfTrim.{complete_there, given_with, trimmed_of, is_trimmed}
use Rattle.tib_operations.proofs.ReadSound.{IsSound}
use Rattle.tib_operations.proofs.VectorsByText.{vectors_by_text}

-- what is made is within the limit over each table of labels
pub count_by_text :
    (limit : ℕ) (labels others : List (List ℕ)) → Distinct labels → Distinct others → (g h : GrammarOf) → AgreeByText labels others g h → (count_makes limit g).within → (count_makes limit h).within
count_by_text limit labels others apart different g h a w = (
  within_by_text max limit labels others apart different g h a w.0,
  elim w.1 [
    | inl endless ↦ inl (trees_by_text labels others apart different g h a Endless endless)
    | inr reached ↦ inr (vectors_by_text max limit labels others apart different g h a reached)
  ],
)

-- it is within the limit, or has more parts

unless_either : (P : Type 0) (made : Made) → IsEither made → IsEither (unless P made)
unless_either P made e = record {
  apart = λ w m. elim w [ inl p ↦ m.0 p | inr v ↦ e.apart v m.1 ];
  either = λ w m. e.either (λ v. w (inr v)) (λ more. m (λ p. w (inl p), more));
}

pub count_either : (limit : ℕ) (g : GrammarOf) → IsEither (count_makes limit g)
count_either limit g =
    let vectors : Made = reached_set limit (IsTrimmedForm max g) (determinizing max) in
    both_either (normal_form max limit g) (unless (IsEndless (IsTree g.rules)) vectors) (form_either max limit g)
    (unless_either (IsEndless (IsTree g.rules)) vectors (reached_either limit (IsTrimmedForm max g) (determinizing max)))

-- the text is one over each table of labels

same_counts : (c d : CountsOf) → c.states ≡ d.states → c.rules ≡ d.rules → c.runs ≡ d.runs → c.trees ≡ d.trees → c ≡ d
same_counts c d states rules runs trees = λ i. record { states = states i; rules = rules i; runs = runs i; trees = trees i }

-- the trimmed files of a grammar have as many states and rules
kept_as_many :
    (product : ℕ → ℕ → ℕ) (g h k : GrammarOf) → IsTrimmedFile product g h → IsTrimmedFile product g k → (length h.names ≡ length k.names) × (length h.rules ≡ length k.rules)
kept_as_many product g h k a b =
    let same : a.positions ≡ b.positions = positions_once product g a.positions b.positions a.are_kept b.are_kept in (
      names_long g.names (map (rule_at g.rules) a.positions) h a.has_rules
          ∙ ap (λ (ns : List ℕ). length (states_of (map (rule_at g.rules) ns))) same
          ∙ sym (names_long g.names (map (rule_at g.rules) b.positions) k b.has_rules),
      rules_long g.names (map (rule_at g.rules) a.positions) h a.has_rules
          ∙ ap (λ (ns : List ℕ). length (map (rule_at g.rules) ns)) same
          ∙ sym (rules_long g.names (map (rule_at g.rules) b.positions) k b.has_rules),
    )

counts_once :
    (labels others : List (List ℕ)) → Distinct labels → Distinct others → (g h : GrammarOf) → AgreeByText labels others g h → (c d : CountsOf) → AreCountsOf g c → AreCountsOf h d → c ≡ d
counts_once labels others apart different g h agree c d a b =
    let s = given_with labels others g h apart different agree in
    let moved : IsTrimmedFile max h (grammar_with s.0 a.trimmed) = subst (λ (k : GrammarOf). IsTrimmedFile max k (grammar_with s.0 a.trimmed)) s.1 (trimmed_with s.0 max g a.trimmed a.is_trimmed) in
    let many = kept_as_many max h (grammar_with s.0 a.trimmed) b.trimmed moved b.is_trimmed in
    same_counts c d (a.states ∙ many.0 ∙ sym b.states) (a.rules ∙ sym (length-map a.trimmed.rules (rule_with s.0)) ∙ many.1 ∙ sym b.rules)
    (count_is_one (IsRun h.rules) c.runs d.runs (runs_by_text labels others apart different g h agree c.runs a.runs) b.runs)
    (count_is_one (IsTree h.rules) c.trees d.trees (trees_by_text labels others apart different g h agree c.trees a.trees) b.trees)

pub count_once :
    (labels others : List (List ℕ)) (g h : GrammarOf) (text other : List ℕ) → Distinct labels → Distinct others → AgreeByText labels others g h → HasCountText g text → HasCountText h other → text ≡ other
count_once labels others g h text other apart different agree a b = a.2 ∙ ap count_text (counts_once labels others apart different g h agree a.0 b.0 a.1 b.1) ∙ sym b.2

-- that there is none cannot be
pub count_there : (g : GrammarOf) → IsSound g → ((text : List ℕ) → HasCountText g text → ⊥) → ⊥
count_there g s never =
    complete_there max g s (λ positions are insides outsides costs.
    let kept : GrammarOf = trimmed_of boolean_laws g s positions are insides outsides costs in
    count_is_there (IsRun g.rules) (λ runs are_runs.
    count_is_there (IsTree g.rules) (λ trees are_trees.
    let counts : CountsOf = record { states = length kept.names; rules = length kept.rules; runs = runs; trees = trees } in
    never (count_text counts) (
      counts,
      record {
        trimmed = kept;
        is_trimmed = is_trimmed boolean_laws g s positions are insides outsides costs;
        states = refl;
        rules = refl;
        runs = are_runs;
        trees = are_trees;
      },
      refl,
    ))))
