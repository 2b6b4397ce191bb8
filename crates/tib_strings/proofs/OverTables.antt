-- A file that was read over one table of labels is read over another one: over each to which that
-- has grown, with the same numbers, and over one to which any other has grown.
use Rattle.tib_cost.specs.declared.Scale.{Scale}
use Rattle.std.proofs.Common.{ℕ, inl, inr, List, [], ◌∷◌, refl, arith}
use Rattle.tib_tree.specs.Grows.{Grows, Adds, AddsAll, AreDistinct}
use Rattle.tib_tree.proofs.Growing.{grows_not, grows_twice, grows_more}
use Rattle.tib_lex.proofs.Alongs.{along_map}
use Rattle.tib_grammar_file.proofs.Alongs.{along_changes}
use Rattle.tib_grammar_file.proofs.PrintedStates.{gathered, all_added}
use Rattle.tib_strings.specs.StringTransducerOf.{StringTransducerOf}
use Rattle.tib_strings.specs.Listed.{texts_of, IsNamed}
use Rattle.tib_strings.specs.StringText.{ReadsAsString}
use Rattle.tib_strings.specs.TransducerText.{ReadsAs}
use Rattle.tib_strings.specs.RuleValue.{IsRule}
use Rattle.tib_strings.proofs.FaultsOnce.{text_read}
use Rattle.tib_strings.proofs.FileRead.{rule_grows}
use Rattle.tib_transducer_file.proofs.OneByText.{all_added as stays_distinct}
use Rattle.tib_strings.proofs.SomeText.{some_text}
use Rattle.tib_strings.proofs.Strings.{as_many, some_string}

-- a table to which texts are added has grown
one_grows : (before : List (List ℕ)) (text : List ℕ) (now : List (List ℕ)) → Adds before text now → Grows before now
one_grows before text now (inl (held, same)) = grows_not before now same
one_grows before text now (inr (new, last)) = grows_more before now (text ∷ []) last

pub added_grows : (before texts now : List (List ℕ)) → AddsAll before texts now → Grows before now
added_grows before [] now same = grows_not before now same
added_grows before (text ∷ texts) now (middle, one, more) = grows_twice before middle now (one_grows before text middle one) (added_grows middle texts now more)

-- the string of the bytes over a table to which another has grown
pub record IsStringOver (early : List (List ℕ)) (bytes : List ℕ) : Type 0 where
  pub labels : List (List ℕ)
  pub s : List ℕ
  pub grows : Grows early labels
  pub distinct : AreDistinct early → AreDistinct labels
  pub reads : ReadsAsString labels bytes s

pub string_over : (early labels : List (List ℕ)) (bytes s : List ℕ) → ReadsAsString labels bytes s → IsStringOver early bytes
string_over early labels bytes s (text, small) =
    let l = gathered early (texts_of text.items) in
    let r = some_string l.0 text.items (all_added early (texts_of text.items) l.0 l.1) in
    record {
      labels = l.0;
      s = r.0;
      grows = added_grows early (texts_of text.items) l.0 l.1;
      distinct = stays_distinct early (texts_of text.items) l.0 l.1;
      reads = (
        record { items = text.items; written = text.written; words = r.1 },
        omega (arith, small, as_many labels s text.items text.words, as_many l.0 r.0 text.items r.1),
      );
    }

-- what was read over a table is read over each to which it has grown
pub string_grown : (early labels : List (List ℕ)) (bytes s : List ℕ) → Grows early labels → ReadsAsString early bytes s → ReadsAsString labels bytes s
string_grown early labels bytes s grows (text, small) = (
  record {
    items = text.items;
    written = text.written;
    words = along_map (IsNamed early) (IsNamed labels) (λ n i at. grows.kept n i.text at) s text.items text.words;
  },
  small,
)

-- the transducer of the bytes over a table to which another has grown
pub record IsStringTransducerOver (scale : Scale) (early : List (List ℕ)) (bytes : List ℕ) : Type 0 where
  pub labels : List (List ℕ)
  pub t : StringTransducerOf
  pub grows : Grows early labels
  pub distinct : AreDistinct early → AreDistinct labels
  pub reads : ReadsAs scale labels bytes t

pub string_transducer_over :
    (scale : Scale) (early labels : List (List ℕ)) (bytes : List ℕ) (t : StringTransducerOf) → ReadsAs scale labels bytes t → IsStringTransducerOver scale early bytes
string_transducer_over scale early labels bytes t r =
    let o = some_text scale early bytes r.text.start r.text.lines (text_read scale labels bytes t r) in
    record {
      labels = o.labels;
      t = o.t;
      grows = added_grows early o.texts o.labels o.adds;
      distinct = stays_distinct early o.texts o.labels o.adds;
      reads = o.reads;
    }

pub string_transducer_grown :
    (scale : Scale) (early labels : List (List ℕ)) (bytes : List ℕ) (t : StringTransducerOf) → Grows early labels → ReadsAs scale early bytes t → ReadsAs scale labels bytes t
string_transducer_grown scale early labels bytes t grows r = record {
  text = record {
    start = r.text.start;
    lines = r.text.lines;
    written = r.text.written;
    states = r.text.states;
    rules = along_changes (IsRule t.names early) (IsRule t.names labels) t.rules r.text.lines (rule_grows t.names t.names early labels (grows_not t.names t.names refl) grows) r.text.rules;
  };
  small = r.small;
}
