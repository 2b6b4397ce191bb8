-- What `demo` writes: one text, and that there is none cannot be.
use Rattle.tib_cost.specs.declared.Scale.{Scale}
use Rattle.std.proofs.Common.{◌≡◌, ℕ, ◌<◌, ◌≤◌, Bool, List, inl, length, refl, sym, ap, ◌∙◌, subst}
use Rattle.tib_lex.specs.Lists.{Distinct}
use Rattle.tib_cost.specs.Semiring.{ProductLaws}
use Rattle.tib_grammar.specs.GrammarOf.{GrammarOf}
use Rattle.tib_grammar_file.specs.ByText.{AgreeByText, AreOneRule}
use Rattle.tib_grammar_file.specs.GrammarText.{GrammarText}
use Rattle.tib_grammar_file.specs.Printable.{ArePrintable}
use Rattle.tib_grammar_file.specs.Read.{ReadsAs}
use Rattle.tib_grammar_file.proofs.Alongs.{along_long}
use Rattle.tib_grammar_file.proofs.OneByText.{one_by_text}
use Rattle.tib_grammar_file.proofs.Plain.{read_plain}
use Rattle.tib_canon.specs.TrimmedForms.{IsTrimmedForm}
use Rattle.tib_operations.specs.Demo.{demo_text, summary_text, HasSummary, OfDemo, HasDemoText, demo_makes, IsSummaryFault}
use Rattle.tib_operations.specs.Determinize.{determinizing, determinize_makes}
use Rattle.tib_operations.specs.KBest.{IsKBestFault, ListsSmall}
use Rattle.tib_operations.specs.Made.{HasReachedFrom, IsMadeFault, normal_form, reached_set}
use Rattle.tib_operations.specs.declared.status.Status.{Status}
use Rattle.tib_operations.specs.declared.status.Status.TheVariants as statuses
use Rattle.tib_operations.proofs.DemoText.{demo_reads}
use Rattle.tib_operations.proofs.DemoTrees.{demo_small, no_large_tree}
use Rattle.tib_operations.proofs.FormsByText.{within_by_text}
use Rattle.tib_operations.proofs.MadeParts.{IsEither, both_either, form_either, reached_either}
use Rattle.tib_operations.proofs.OfDeterminize.{determinized_once, determinized_there}
use Rattle.tib_operations.proofs.OfKBest.{kbest_once, kbest_there}
use Rattle.tib_operations.proofs.ReadSound.{IsSound, read_sound}
use Rattle.tib_operations.proofs.VectorsByText.{vectors_by_text}

-- the text of the code

-- three lines that were written are those of the grammar that was counted
pub lines_are :
    (text line bytes : List ℕ) (states rules : ℕ) (names : List (List ℕ)) (h counted : GrammarOf) → text ≡ summary_text states rules bytes → states ≡ length names → names ≡ counted.names →
    rules ≡ length counted.rules → bytes ≡ line → h ≡ counted → text ≡ summary_text (length h.names) (length h.rules) line
lines_are text line bytes states rules names h counted written many named ruled same is =
    let s : states ≡ length h.names = many ∙ ap length named ∙ sym (ap (λ (g : GrammarOf). length g.names) is) in
    let r : rules ≡ length h.rules = ruled ∙ sym (ap (λ (g : GrammarOf). length g.rules) is) in
    written ∙ (λ i. summary_text (s i) (r i) (same i))

-- what holds of the grammar that was read of the text for n
pub of_read :
    (scale : Scale) (n : ℕ) (P : List (List ℕ) → GrammarOf → Type 0) (labels : List (List ℕ)) (g : GrammarOf) → Distinct labels → ReadsAs scale labels (demo_text n) g → P labels g → OfDemo scale n P
of_read scale n P labels g distinct read holds = record { labels = labels; distinct = distinct; g = g; read = read; holds = holds }

-- a fault of it is one of what is made, since no tree is too large
module _
    {levelled weighted : Bool} {product : ℕ → ℕ → ℕ} (laws : ProductLaws levelled weighted product) (split : Bool) (scale : Scale) (limit n : ℕ) (low : n ≤ 16)
    (labels : List (List ℕ)) (g : GrammarOf) (distinct : Distinct labels) (read : ReadsAs scale labels (demo_text n) g) where
  pub fault_of_read : (s : Status) → IsSummaryFault split product limit labels g s → IsMadeFault (demo_makes scale product limit n).more limit s
  fault_of_read statuses.Done h = absurd h
  fault_of_read statuses.Usage h = absurd h
  fault_of_read (statuses.BadInput m fault) h = absurd h
  fault_of_read (statuses.Class m rule fault) h = absurd h
  fault_of_read (statuses.TooMany m) h = (h.0, of_read scale n (λ ls k. (determinize_makes product limit k).more) labels g distinct read h.1)
  fault_of_read statuses.TreeTooLarge h = absurd (no_large_tree laws scale n low labels g read split h.1)
  fault_of_read (statuses.ReadFault m) h = absurd h
  fault_of_read statuses.WriteFault h = absurd h
  fault_of_read (statuses.TooLong m) h = absurd h
  fault_of_read statuses.OutOfMemory h = tt

-- a fault of the determinization
pub fault_of_made :
    (levelled : Bool) (product : ℕ → ℕ → ℕ) (limit : ℕ) (labels : List (List ℕ)) (g : GrammarOf) (s : Status) → IsMadeFault (determinize_makes product limit g).more limit s →
    IsSummaryFault levelled product limit labels g s
fault_of_made levelled product limit labels g statuses.Done h = absurd h
fault_of_made levelled product limit labels g statuses.Usage h = absurd h
fault_of_made levelled product limit labels g (statuses.BadInput m fault) h = absurd h
fault_of_made levelled product limit labels g (statuses.Class m rule fault) h = absurd h
fault_of_made levelled product limit labels g (statuses.TooMany m) h = h
fault_of_made levelled product limit labels g statuses.TreeTooLarge h = absurd h
fault_of_made levelled product limit labels g (statuses.ReadFault m) h = absurd h
fault_of_made levelled product limit labels g statuses.WriteFault h = absurd h
fault_of_made levelled product limit labels g (statuses.TooLong m) h = absurd h
fault_of_made levelled product limit labels g statuses.OutOfMemory h = tt

-- a fault of the list of one tree, where the vectors are within the limit
pub fault_of_best :
    (levelled : Bool) (product : ℕ → ℕ → ℕ) (limit : ℕ) (labels : List (List ℕ)) (g : GrammarOf) → (determinize_makes product limit g).within → (s : Status) →
    IsKBestFault levelled product limit 1 labels g s → IsSummaryFault levelled product limit labels g s
fault_of_best levelled product limit labels g within statuses.Done h = absurd h
fault_of_best levelled product limit labels g within statuses.Usage h = absurd h
fault_of_best levelled product limit labels g within (statuses.BadInput m fault) h = absurd h
fault_of_best levelled product limit labels g within (statuses.Class m rule fault) h = absurd h
fault_of_best levelled product limit labels g within (statuses.TooMany m) h = (h.0, inl h.1)
fault_of_best levelled product limit labels g within statuses.TreeTooLarge h = (within, h.1)
fault_of_best levelled product limit labels g within (statuses.ReadFault m) h = absurd h
fault_of_best levelled product limit labels g within statuses.WriteFault h = absurd h
fault_of_best levelled product limit labels g within (statuses.TooLong m) h = absurd h
fault_of_best levelled product limit labels g within statuses.OutOfMemory h = tt

-- one text

-- of grammars that agree by the texts of their labels
pub summary_once :
    (scale : Scale) (product : ℕ → ℕ → ℕ) (limit : ℕ) (labels others : List (List ℕ)) (g h : GrammarOf) (text other : List ℕ) → Distinct labels → Distinct others → AgreeByText labels others g h →
    HasSummary scale product limit labels g text → HasSummary scale product limit others h other → text ≡ other
summary_once scale product limit labels others g h text other apart different agree a b =
    let printed : a.printed ≡ b.printed = determinized_once scale product limit labels others g h a.printed b.printed apart different agree a.determinized b.determinized in
    let line : a.line ≡ b.line = kbest_once scale product 1 labels others g h a.line b.line apart different agree a.best b.best in
    let read : GrammarText scale others a.printed b.determinized.h = subst (λ (t : List ℕ). GrammarText scale others t b.determinized.h) (sym printed) b.determinized.read in
    let same : AgreeByText labels others a.determinized.h b.determinized.h = one_by_text scale labels others a.printed a.determinized.h b.determinized.h a.determinized.read read in
    let states : length a.determinized.h.names ≡ length b.determinized.h.names = ap length same.names in
    let rules : length a.determinized.h.rules ≡ length b.determinized.h.rules = along_long (AreOneRule labels others) a.determinized.h.rules b.determinized.h.rules same.rules in
    a.are ∙ (λ i. summary_text (states i) (rules i) (line i)) ∙ sym b.are

-- of one number
pub demo_once : (scale : Scale) (product : ℕ → ℕ → ℕ) (limit n : ℕ) (text other : List ℕ) → HasDemoText scale product limit n text → HasDemoText scale product limit n other → text ≡ other
demo_once scale product limit n text other a b =
    summary_once scale product limit a.labels b.labels a.g b.g text other a.distinct b.distinct (one_by_text scale a.labels b.labels (demo_text n) a.g b.g a.read.text b.read.text) a.holds b.holds

-- what is made

determinize_either : (product : ℕ → ℕ → ℕ) (limit : ℕ) (g : GrammarOf) → IsEither (determinize_makes product limit g)
determinize_either product limit g =
    both_either (normal_form product limit g) (reached_set limit (IsTrimmedForm product g) (determinizing product)) (form_either product limit g)
    (reached_either limit (IsTrimmedForm product g) (determinizing product))

determinize_by_text :
    (product : ℕ → ℕ → ℕ) (limit : ℕ) (labels others : List (List ℕ)) (g h : GrammarOf) → Distinct labels → Distinct others → AgreeByText labels others g h →
    (determinize_makes product limit g).within → (determinize_makes product limit h).within
determinize_by_text product limit labels others g h apart different agree w =
    (within_by_text product limit labels others apart different g h agree w.0, vectors_by_text product limit labels others apart different g h agree w.1)

pub demo_either : (scale : Scale) (product : ℕ → ℕ → ℕ) (limit n : ℕ) → IsEither (demo_makes scale product limit n)
demo_either scale product limit n = record {
  apart = λ w m.
      let agree : AgreeByText w.labels m.labels w.g m.g = one_by_text scale w.labels m.labels (demo_text n) w.g m.g w.read.text m.read.text in
      (determinize_either product limit m.g).apart (determinize_by_text product limit w.labels m.labels w.g m.g w.distinct m.distinct agree w.holds) m.holds;
  either = λ w m.
      let d = demo_reads scale n in
      (determinize_either product limit d.1).either
      (λ x. w (record { labels = d.0; distinct = d.2; g = d.1; read = d.3; holds = x }))
      (λ y. m (record { labels = d.0; distinct = d.2; g = d.1; read = d.3; holds = y }));
}

module _ {levelled weighed : Bool} {product : ℕ → ℕ → ℕ} (laws : ProductLaws levelled weighed product) where
  -- there is a text of a grammar
  pub summary_there :
      (scale : Scale) (limit : ℕ) → limit < 4294967296 → (labels : List (List ℕ)) → Distinct labels → (g : GrammarOf) → IsSound g → ArePrintable scale labels g.rules →
      HasReachedFrom limit (IsTrimmedForm product g) (determinizing product) → ListsSmall product 1 labels g → ((text : List ℕ) → HasSummary scale product limit labels g text → ⊥) → ⊥
  summary_there scale limit low labels apart g sound printable within small never =
      determinized_there laws scale limit low labels apart g sound printable within (λ printed d.
      kbest_there scale product 1 labels apart g printable small (λ line best.
      never (summary_text (length d.h.names) (length d.h.rules) line) (record { printed = printed; determinized = d; line = line; best = best; are = refl })))

  -- and one of each number
  pub demo_there :
      (scale : Scale) (limit n : ℕ) → limit < 4294967296 → n ≤ 16 → (demo_makes scale product limit n).within →
      ((text : List ℕ) → HasDemoText scale product limit n text → ⊥) → ⊥
  demo_there scale limit n low few w never =
      summary_there scale limit low w.labels w.distinct w.g (read_sound scale w.labels (demo_text n) w.g w.read.text) (read_plain scale w.labels (demo_text n) w.g w.read.text)
      w.holds.1 (demo_small laws scale n few w.labels w.g w.read) (λ text s.
      never text (record { labels = w.labels; distinct = w.distinct; g = w.g; read = w.read; holds = s }))
