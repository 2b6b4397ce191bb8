-- The values of the files of a job, over tables of labels.
use Rattle.tib_cost.specs.declared.Scale.{Scale}
use Rattle.tib_cost.specs.declared.Scale.TheVariants.{Unweighted}
use Rattle.std.specs.Prelude.{◌≡◌, ℕ, List, [], ◌∷◌, Option, Some, None, IfSome, IsSome, slice_get, refl}
use Rattle.std.proofs.Common.{length, zero, suc, subst}
use Rattle.tib_lex.specs.Lists.{Along}
use Rattle.tib_tree.specs.Grows.{Grows, AreDistinct}
use Rattle.tib_tree.specs.Trees.{Tree}
use Rattle.tib_tree.proofs.Growing.{grows_not, grows_twice}
use Rattle.tib_grammar_file.specs.ByText.{AgreeByText, AreOneTree}
use Rattle.tib_grammar_file.proofs.OneByText.{one_by_text}
use Rattle.tib_grammar_file.proofs.TreesByText.{trees_by_text}
use Rattle.tib_operations.specs.FileTexts.{ListsTrees}
use Rattle.tib_job.specs.Kinds.{Kind, of_grammar, of_support, of_trees, of_one_tree, of_transducer, of_string_transducer, of_string, OfName, ValueOf, IsTextOf, IsOfKind, ValuesOf, AreTextsOf, AreTexts, AreOfKinds, AreAllTold}
use Rattle.tib_grammar.specs.GrammarOf.{GrammarOf}
use Rattle.tib_grammar_file.specs.ByName.{HasText as HasGrammarsText}
use Rattle.tib_grammar_file.specs.GrammarText.{AreSmallRules}
use Rattle.tib_grammar_file.specs.Printable.{ArePrintable}
use Rattle.tib_grammar_file.specs.Read.{ReadsAs}
use Rattle.tib_grammar_file.proofs.Plain.{read_plain}
use Rattle.tib_operations.proofs.PlainMoves.{IsSoundTransducer, transducer_sound}
use Rattle.tib_operations.proofs.OfCompose.{read_moves}
use Rattle.tib_operations.proofs.OfRuns.{read_has_text}
use Rattle.tib_canon.specs.TransducerKeys.{AreMovesOver}
use Rattle.tib_operations.proofs.ReadSound.{IsSound, read_sound}
use Rattle.tib_transducer.specs.TransducerOf.{TransducerOf}
use Rattle.tib_transducer_file.specs.ByName.{HasText as HasTransducersText}
use Rattle.tib_transducer_file.specs.ByText.{AreOneTransducer}
use Rattle.tib_transducer_file.proofs.OneByText.{one_by_text as one_transducer}
use Rattle.tib_transducer_file.proofs.ReadBack.{read_back}
use Rattle.tib_operations.proofs.TransducerTables.{transducer_over, transducer_grown}
use Rattle.tib_strings.specs.ByText.{AreOneStringTransducer}
use Rattle.tib_strings.proofs.OneByText.{one_by_text as one_string_transducer}
use Rattle.tib_strings.proofs.OverTables.{string_over, string_grown, string_transducer_over, string_transducer_grown}
use Rattle.tib_operations.specs.ByText.{AreOneString}
use Rattle.tib_operations.proofs.OneString.{one_string}
use Rattle.tib_operations.proofs.WordsRead.{IsSoundStringTransducer, string_transducer_sound}
use Rattle.tib_operations.proofs.Tables.{none_distinct, read_over, lists_over, reads_grown, lists_grown}

-- a value of a file, where its bytes are known, over a table to which another has grown
record IsTextOver (scale : Scale) (early : List (List ℕ)) (kind : Kind) (bytes : Option (List ℕ)) : Type 0 where
  labels : List (List ℕ)
  value : ValueOf kind
  grows : Grows early labels
  distinct : AreDistinct early → AreDistinct labels
  text : IfSome bytes (IsTextOf scale labels kind value)

-- one tree over a table stands for one tree over each other
only_tree :
    (labels now : List (List ℕ)) (one : Tree ℕ) (bytes : List ℕ) (ts : List (Tree ℕ)) → ListsTrees labels (one ∷ []) bytes → ListsTrees now ts bytes →
    (t : Tree ℕ) × ListsTrees now (t ∷ []) bytes
only_tree labels now one bytes [] l m = absurd (trees_by_text labels now bytes (one ∷ []) [] l.1 m.1)
only_tree labels now one bytes (t ∷ []) l m = (t, m)
only_tree labels now one bytes (t ∷ (u ∷ ts)) l m = absurd (trees_by_text labels now bytes (one ∷ []) (t ∷ (u ∷ ts)) l.1 m.1).1

text_over : (scale : Scale) (early labels : List (List ℕ)) (kind : Kind) (value : ValueOf kind) (bytes : List ℕ) → IsTextOf scale labels kind value bytes → IsTextOver scale early kind (Some bytes)
text_over scale early labels of_grammar g bytes r =
    let o = read_over scale early labels bytes g r.1 in record { labels = o.labels; value = o.g; grows = o.grows; distinct = o.distinct; text = (r.0, o.reads) }
text_over scale early labels of_support g bytes r =
    let o = read_over Unweighted early labels bytes g r.1 in record { labels = o.labels; value = o.g; grows = o.grows; distinct = o.distinct; text = (r.0, o.reads) }
text_over scale early labels of_trees trees bytes l =
    let o = lists_over early labels bytes trees l in record { labels = o.labels; value = o.trees; grows = o.grows; distinct = o.distinct; text = o.listed }
text_over scale early labels of_one_tree one bytes l =
    let o = lists_over early labels bytes (one ∷ []) l in
    let t = only_tree labels o.labels one bytes o.trees l o.listed in
    record { labels = o.labels; value = t.0; grows = o.grows; distinct = o.distinct; text = t.1 }
text_over scale early labels of_transducer t bytes r =
    let o = transducer_over scale early labels bytes t r.1 in record { labels = o.labels; value = o.t; grows = o.grows; distinct = o.distinct; text = (r.0, o.reads) }
text_over scale early labels of_string_transducer t bytes r =
    let o = string_transducer_over scale early labels bytes t r.1 in record { labels = o.labels; value = o.t; grows = o.grows; distinct = o.distinct; text = (r.0, o.reads) }
text_over scale early labels of_string string bytes r =
    let o = string_over early labels bytes string r.1 in record { labels = o.labels; value = o.s; grows = o.grows; distinct = o.distinct; text = (r.0, o.reads) }

told_over : (scale : Scale) (early : List (List ℕ)) (kind : Kind) (bytes : Option (List ℕ)) → OfName bytes (IsOfKind scale kind) → IsTextOver scale early kind bytes
told_over scale early kind None is = absurd is
told_over scale early kind (Some bytes) is = text_over scale early is.0 kind is.1 bytes is.2

-- over a table that has grown the value is the same
pub text_grown : (scale : Scale) (early labels : List (List ℕ)) (kind : Kind) (value : ValueOf kind) (bytes : List ℕ) → Grows early labels → IsTextOf scale early kind value bytes → IsTextOf scale labels kind value bytes
text_grown scale early labels of_grammar g bytes grows r = (r.0, reads_grown scale early labels bytes g grows r.1)
text_grown scale early labels of_support g bytes grows r = (r.0, reads_grown Unweighted early labels bytes g grows r.1)
text_grown scale early labels of_trees trees bytes grows l = lists_grown early labels bytes trees grows l
text_grown scale early labels of_one_tree one bytes grows l = lists_grown early labels bytes (one ∷ []) grows l
text_grown scale early labels of_transducer t bytes grows r = (r.0, transducer_grown scale early labels bytes t grows r.1)
text_grown scale early labels of_string_transducer t bytes grows r = (r.0, string_transducer_grown scale early labels bytes t grows r.1)
text_grown scale early labels of_string string bytes grows r = (r.0, string_grown early labels bytes string grows r.1)

pub told_grown :
    (scale : Scale) (early labels : List (List ℕ)) (kind : Kind) (value : ValueOf kind) (bytes : Option (List ℕ)) → Grows early labels → IfSome bytes (IsTextOf scale early kind value) →
    IfSome bytes (IsTextOf scale labels kind value)
told_grown scale early labels kind value None grows t = tt
told_grown scale early labels kind value (Some bytes) grows t = text_grown scale early labels kind value bytes grows t

-- values of all files over one table to which another has grown
record AreTextsOver (scale : Scale) (early : List (List ℕ)) (kinds : List Kind) (bytes : ℕ → Option (List ℕ)) : Type 0 where
  labels : List (List ℕ)
  values : ValuesOf kinds
  grows : Grows early labels
  distinct : AreDistinct early → AreDistinct labels
  texts : AreTextsOf scale labels bytes kinds values

texts_over : (scale : Scale) (early : List (List ℕ)) (kinds : List Kind) (bytes : ℕ → Option (List ℕ)) → AreOfKinds scale kinds bytes → AreTextsOver scale early kinds bytes
texts_over scale early [] bytes are = record { labels = early; values = tt; grows = grows_not early early refl; distinct = λ d. d; texts = tt }
texts_over scale early (kind ∷ kinds) bytes are =
    let t = told_over scale early kind (bytes 0) (are 0 kind refl) in
    let others = texts_over scale t.labels kinds (λ n. bytes (suc n)) (λ n k e. are (suc n) k e) in
    record {
      labels = others.labels;
      values = (t.value, others.values);
      grows = grows_twice early t.labels others.labels t.grows others.grows;
      distinct = λ d. others.distinct (t.distinct d);
      texts = (told_grown scale t.labels others.labels kind t.value (bytes 0) others.grows t.text, others.texts);
    }

-- files of their kinds have values over one table
pub values_there :
    (scale : Scale) (kinds : List Kind) (bytes : ℕ → Option (List ℕ)) → AreOfKinds scale kinds bytes → (labels : List (List ℕ)) × (values : ValuesOf kinds) × AreTexts scale labels bytes kinds values
values_there scale kinds bytes are =
    let o = texts_over scale [] kinds bytes are in (o.labels, o.values, record { distinct = o.distinct none_distinct; texts = o.texts })

-- values over two tables that agree by the texts of labels
abbrev pub AgreeInText : List (List ℕ) → List (List ℕ) → (kind : Kind) → ValueOf kind → ValueOf kind → Type 0
AgreeInText labels others of_grammar g h = AgreeByText labels others g h
AgreeInText labels others of_support g h = AgreeByText labels others g h
AgreeInText labels others of_trees ts us = Along (AreOneTree labels others) ts us
AgreeInText labels others of_one_tree t u = AreOneTree labels others t u
AgreeInText labels others of_transducer t u = AreOneTransducer labels others t u
AgreeInText labels others of_string_transducer t u = AreOneStringTransducer labels others t u
AgreeInText labels others of_string s r = AreOneString labels others s r

abbrev pub AllAgree : List (List ℕ) → List (List ℕ) → (kinds : List Kind) → ValuesOf kinds → ValuesOf kinds → Type 0
AllAgree labels others [] values more = Unit {0}
AllAgree labels others (kind ∷ kinds) values more = AgreeInText labels others kind values.0 more.0 × AllAgree labels others kinds values.1 more.1

text_agrees :
    (scale : Scale) (labels others : List (List ℕ)) (kind : Kind) (value other : ValueOf kind) (bytes : List ℕ) → IsTextOf scale labels kind value bytes → IsTextOf scale others kind other bytes →
    AgreeInText labels others kind value other
text_agrees scale labels others of_grammar g h bytes r q = one_by_text scale labels others bytes g h r.1.text q.1.text
text_agrees scale labels others of_support g h bytes r q = one_by_text Unweighted labels others bytes g h r.1.text q.1.text
text_agrees scale labels others of_trees ts us bytes l m = trees_by_text labels others bytes ts us l.1 m.1
text_agrees scale labels others of_one_tree t u bytes l m = (trees_by_text labels others bytes (t ∷ []) (u ∷ []) l.1 m.1).0
text_agrees scale labels others of_transducer t u bytes r q = one_transducer scale labels others bytes t u r.1 q.1
text_agrees scale labels others of_string_transducer t u bytes r q = one_string_transducer scale labels others bytes t u r.1 q.1
text_agrees scale labels others of_string s r bytes l m = one_string labels others bytes s r l.1 m.1

told_agrees :
    (scale : Scale) (labels others : List (List ℕ)) (kind : Kind) (value other : ValueOf kind) (bytes : Option (List ℕ)) → IsSome bytes → IfSome bytes (IsTextOf scale labels kind value) →
    IfSome bytes (IsTextOf scale others kind other) → AgreeInText labels others kind value other
told_agrees scale labels others kind value other None told t u = absurd (cc told)
told_agrees scale labels others kind value other (Some bytes) told t u = text_agrees scale labels others kind value other bytes t u

-- values of the same known files agree
pub values_agree :
    (scale : Scale) (labels others : List (List ℕ)) (kinds : List Kind) (bytes : ℕ → Option (List ℕ)) (values more : ValuesOf kinds) → AreAllTold kinds bytes →
    AreTextsOf scale labels bytes kinds values → AreTextsOf scale others bytes kinds more → AllAgree labels others kinds values more
values_agree scale labels others [] bytes values more told t u = tt
values_agree scale labels others (kind ∷ kinds) bytes values more told t u = (
  told_agrees scale labels others kind values.0 more.0 (bytes 0) (told 0 kind refl) t.0 u.0,
  values_agree scale labels others kinds (λ n. bytes (suc n)) values.1 more.1 (λ n k e. told (suc n) k e) t.1 u.1,
)

-- files that are the texts of values are of their kinds, where they are known
pub kinds_told :
    (scale : Scale) (labels : List (List ℕ)) (kinds : List Kind) (bytes : ℕ → Option (List ℕ)) (values : ValuesOf kinds) → AreTextsOf scale labels bytes kinds values → (n : ℕ) (kind : Kind) →
    slice_get kinds n ≡ Some kind → IfSome (bytes n) (IsOfKind scale kind)
kinds_told scale labels [] bytes values t n kind e = absurd (cc e)
kinds_told scale labels (k ∷ kinds) bytes values t zero kind e = subst (λ (z : Kind). IfSome (bytes 0) (IsOfKind scale z)) (some_kind k kind e) (of_kind (bytes 0) t.0)
  where
    some_kind : (a b : Kind) → (let o : Option Kind = Some a in o ≡ Some b) → a ≡ b
    some_kind a b e = cc e

    of_kind : (o : Option (List ℕ)) → IfSome o (IsTextOf scale labels k values.0) → IfSome o (IsOfKind scale k)
    of_kind None t = tt
    of_kind (Some x) t = (labels, values.0, t)
kinds_told scale labels (k ∷ kinds) bytes values t (suc n) kind e = kinds_told scale labels kinds (λ m. bytes (suc m)) values.1 t.1 n kind e

-- a grammar that was read over known bytes is sound, and can be printed, also as it stands
pub record IsSoundGrammar (scale : Scale) (labels : List (List ℕ)) (g : GrammarOf) : Type 0 where
  pub sound : IsSound g
  pub printable : ArePrintable scale labels g.rules
  pub has_text : HasGrammarsText scale labels g
  pub small : AreSmallRules g.rules

grammar_sound : (scale : Scale) (labels : List (List ℕ)) (bytes : List ℕ) (g : GrammarOf) → ReadsAs scale labels bytes g → IsSoundGrammar scale labels g
grammar_sound scale labels bytes g r = record {
  sound = read_sound scale labels bytes g r.text;
  printable = read_plain scale labels bytes g r.text;
  has_text = read_has_text scale labels bytes g r.text;
  small = r.small;
}

-- the same of a transducer
pub record AreSoundMoves (scale : Scale) (labels : List (List ℕ)) (t : TransducerOf) : Type 0 where
  pub sound : IsSoundTransducer scale labels t
  pub moves : AreMovesOver scale labels (length t.names) t.rules
  pub has_text : HasTransducersText scale labels t

-- a value that was read over known bytes is sound, and can be printed
abbrev pub IsSoundValue : Scale → List (List ℕ) → (kind : Kind) → ValueOf kind → Type 0
IsSoundValue scale labels of_grammar g = IsSoundGrammar scale labels g
IsSoundValue scale labels of_support g = IsSoundGrammar Unweighted labels g
IsSoundValue scale labels of_trees trees = Unit {0}
IsSoundValue scale labels of_one_tree one = Unit {0}
IsSoundValue scale labels of_transducer t = AreSoundMoves scale labels t
IsSoundValue scale labels of_string_transducer t = IsSoundStringTransducer scale labels t
IsSoundValue scale labels of_string string = Unit {0}

abbrev pub AllSound : Scale → List (List ℕ) → (kinds : List Kind) → ValuesOf kinds → Type 0
AllSound scale labels [] values = Unit {0}
AllSound scale labels (kind ∷ kinds) values = IsSoundValue scale labels kind values.0 × AllSound scale labels kinds values.1

sound_value : (scale : Scale) (labels : List (List ℕ)) (kind : Kind) (value : ValueOf kind) (bytes : Option (List ℕ)) → IsSome bytes → IfSome bytes (IsTextOf scale labels kind value) → IsSoundValue scale labels kind value
sound_value scale labels kind value None told t = absurd (cc told)
sound_value scale labels of_grammar g (Some bytes) told r = grammar_sound scale labels bytes g r.1
sound_value scale labels of_support g (Some bytes) told r = grammar_sound Unweighted labels bytes g r.1
sound_value scale labels of_trees trees (Some bytes) told l = tt
sound_value scale labels of_one_tree one (Some bytes) told l = tt
sound_value scale labels of_transducer t (Some bytes) told r =
    record { sound = transducer_sound scale labels bytes t r.1; moves = read_moves scale labels bytes t r.1; has_text = (read_back scale labels bytes t r.1).0 }
sound_value scale labels of_string_transducer t (Some bytes) told r = string_transducer_sound scale labels bytes t r.1
sound_value scale labels of_string string (Some bytes) told r = tt

pub all_sound :
    (scale : Scale) (labels : List (List ℕ)) (kinds : List Kind) (bytes : ℕ → Option (List ℕ)) (values : ValuesOf kinds) → AreAllTold kinds bytes → AreTextsOf scale labels bytes kinds values →
    AllSound scale labels kinds values
all_sound scale labels [] bytes values told t = tt
all_sound scale labels (kind ∷ kinds) bytes values told t = (
  sound_value scale labels kind values.0 (bytes 0) (told 0 kind refl) t.0,
  all_sound scale labels kinds (λ n. bytes (suc n)) values.1 (λ n k e. told (suc n) k e) t.1,
)
