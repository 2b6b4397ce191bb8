-- The values of the files of a job, as they are read.
use Rattle.tib_cost.specs.declared.Scale.{Scale}
use Rattle.tib_cost.specs.declared.Scale.TheVariants.{Unweighted}
use Rattle.std.specs.Prelude.{◌≡◌, ◌⊎◌, ℕ, ◌<◌, List, [], ◌∷◌, Option, Some, length, IsSome, refl}
use Rattle.std.proofs.Common.{subst, sym, ap, ◌∙◌, get_or, inl, inr}
use Rattle.std.proofs.lemmas.Option.{slice_get_within, slice_get-get_or}
use Rattle.tib_lex.specs.Lists.{Each}
use Rattle.tib_tree.specs.Growth.{HasLabels, LabelsBelow}
use Rattle.tib_tree.specs.Grows.{Grows}
use Rattle.tib_tree.specs.Trees.{Tree, Trees, none, tree, only}
use Rattle.tib_grammar.specs.GrammarOf.{GrammarOf}
use Rattle.tib_grammar_file.specs.ByName.{HasText as HasGrammarsText}
use Rattle.tib_grammar_file.proofs.Plain.{stays}
use Rattle.tib_transducer.specs.TransducerOf.{TransducerOf}
use Rattle.tib_transducer_file.specs.ByName.{HasText as HasTransducersText}
use Rattle.tib_command.specs.declared.job.Operation.{Operation}
use Rattle.tib_command.specs.declared.job.Operation.TheVariants as operations
use Rattle.tib_operations.proofs.OfCompose.{over_grown}
use Rattle.tib_operations.proofs.PlainMoves.{moves_grown}
use Rattle.tib_job.specs.Kinds.{Kind, of_grammar, of_support, of_trees, of_one_tree, of_transducer, of_string_transducer, of_string, ValueOf, ValuesOf, AreTexts, kinds_of, IsAmong, of_one_grammar, of_two_grammars, of_one_transducer}
use Rattle.tib_job.specs.Values.{AreLent, AreValuesOf, IsPrintableValue, values_as}
use Rattle.tib_job.specs.declared.job_values.Values.{Values}
use Rattle.tib_job.specs.declared.job_values.Values.TheVariants as those
use Rattle.tib_operations.proofs.WordsRead.{words_grown}

-- what holds by one scale holds by one that is the same
pub by_scale : (P : Scale → Type 0) (own scale : Scale) → own ≡ scale → P own → P scale
by_scale P own scale e h = subst P e h

-- what can be written over a table of labels can be over one to which it grows

module _ (early labels : List (List ℕ)) (grows : Grows early labels) where
  label_grown : (f : ℕ) → f < length early → f < length labels
  label_grown f h = slice_get_within labels f (get_or early f []) (grows.kept f (get_or early f []) (slice_get-get_or early f [] h))

  labels_grown : (ts : Trees ℕ) → LabelsBelow (length early) ts → LabelsBelow (length labels) ts
  labels_grown none h = tt
  labels_grown (tree f kids rest) h = (label_grown f h.0, labels_grown kids h.1, labels_grown rest h.2)

  trees_grown : (trees : List (Tree ℕ)) → Each (HasLabels early) trees → Each (HasLabels labels) trees
  trees_grown [] h = tt
  trees_grown (t ∷ trees) h = (labels_grown (only t) h.0, trees_grown trees h.1)

  grammar_grown : (scale : Scale) (g : GrammarOf) → HasGrammarsText scale early g → HasGrammarsText scale labels g
  grammar_grown scale g h = record {
    start = h.start;
    names = h.names;
    range = h.range;
    leaves = h.leaves;
    lefts = h.lefts;
    printable = stays scale early labels g.rules h.printable grows;
  }

  transducer_grown : (scale : Scale) (t : TransducerOf) → HasTransducersText scale early t → HasTransducersText scale labels t
  transducer_grown scale t h =
      let over = over_grown scale early labels grows (length t.names) t.rules (record { within = h.range; shaped = h.shaped; leaves = h.leaves; printable = h.printable }) in
      record { start = h.start; names = h.names; range = h.range; shaped = h.shaped; leaves = h.leaves; stand = h.stand; printable = over.printable }

  pub printable_grown : (scale : Scale) (kind : Kind) (value : ValueOf kind) → IsPrintableValue scale early kind value → IsPrintableValue scale labels kind value
  printable_grown scale of_grammar g h = (stays scale early labels g.rules h.0 grows, grammar_grown scale g h.1, h.2)
  printable_grown scale of_support g h = stays Unweighted early labels g.rules h grows
  printable_grown scale of_trees trees h = trees_grown trees h
  printable_grown scale of_one_tree one h = tt
  printable_grown scale of_transducer t h = (
    moves_grown scale early labels t.rules grows h.0,
    over_grown scale early labels grows (length t.names) t.rules h.1,
    transducer_grown scale t h.2,
  )
  printable_grown scale of_string_transducer t h = words_grown scale early labels t.rules grows h
  printable_grown scale of_string string h = tt

-- values of these kinds are those of the operation's files
pub values_read :
    {S : Type 0} {scale own : Scale} {labels : List (List ℕ)} {bytes : ℕ → Option (List ℕ)} {o : Operation} {read : Values S} {kinds : List Kind} {values : ValuesOf kinds} → kinds_of o ≡ kinds → own ≡ scale →
    values_as read kinds ≡ Some values → AreTexts scale labels bytes kinds values → AreValuesOf own labels bytes o read
values_read {S} {scale} {own} {labels} {bytes} {o} {read} {kinds} {values} same we are texts =
    let all = subst (λ (ks : List Kind). (v : ValuesOf ks) × (values_as read ks ≡ Some v) × AreTexts scale labels bytes ks v) (sym same) (values, are, texts) in
    subst (λ (s : Scale). AreValuesOf s labels bytes o read) (sym we) (record { values = all.0; are = all.1; texts = all.2 })

-- an operation that is one of some is not none of them
pub another : (ps : List Operation) (o : Operation) → IsAmong ps o → Each (λ p. o ≡ p → ⊥) ps → ⊥
another [] o one others = one
another (p ∷ []) o one others = others.0 one
another (p ∷ (q ∷ ps)) o (inl one) others = others.0 one
another (p ∷ (q ∷ ps)) o (inr one) others = another (q ∷ ps) o one others.1

-- where the files of each of some are of these kinds, those of one of them are
pub alike : (kinds : List Kind) (ps : List Operation) (o : Operation) → Each (λ p. kinds_of p ≡ kinds) ps → IsAmong ps o → kinds_of o ≡ kinds
alike kinds [] o all one = absurd one
alike kinds (p ∷ []) o all one = ap kinds_of one ∙ all.0
alike kinds (p ∷ (q ∷ ps)) o all (inl one) = ap kinds_of one ∙ all.0
alike kinds (p ∷ (q ∷ ps)) o all (inr one) = alike kinds (q ∷ ps) o all.1 one

pub one_grammar : (o : Operation) → IsAmong of_one_grammar o → kinds_of o ≡ of_grammar ∷ []
one_grammar o = alike (of_grammar ∷ []) of_one_grammar o (refl, (refl, (refl, (refl, (refl, (refl, (refl, (refl, tt))))))))

pub two_grammars : (o : Operation) → IsAmong of_two_grammars o → kinds_of o ≡ of_grammar ∷ (of_grammar ∷ [])
two_grammars o = alike (of_grammar ∷ (of_grammar ∷ [])) of_two_grammars o (refl, (refl, tt))

pub one_transducer : (o : Operation) → IsAmong of_one_transducer o → kinds_of o ≡ of_transducer ∷ []
one_transducer o = alike (of_transducer ∷ []) of_one_transducer o (refl, (refl, (refl, tt)))

-- the operations whose files have such values
abbrev pub AsksFor : {S : Type 0} → Operation → Values S → Type 0
AsksFor o (those.GrammarAndTrees g trees) = o ≡ operations.Weigh
AsksFor o (those.Grammar g) = IsAmong of_one_grammar o
AsksFor o (those.Grammars f g) = IsAmong of_two_grammars o
AsksFor o (those.Supports f g) = o ≡ operations.Compare
AsksFor o (those.GrammarAndSupport g s) = o ≡ operations.Difference
AsksFor o (those.Support s) = o ≡ operations.Count
AsksFor o (those.GrammarAndTransducer g t) = o ≡ operations.Forward
AsksFor o (those.TransducerAndGrammar t g) = o ≡ operations.Backward
AsksFor o (those.Transducers t u) = o ≡ operations.Compose
AsksFor o (those.Transducer t) = IsAmong of_one_transducer o
AsksFor o (those.TreeAndTransducer one t) = o ≡ operations.Image
AsksFor o (those.StringTransducerAndString t string) = o ≡ operations.Parse
AsksFor o those.Nothing = o ≡ operations.Demo

pub asks : {S : Type 0} (o : Operation) (read : Values S) → IsSome (values_as read (kinds_of o)) → AsksFor o read
asks operations.Weigh (those.GrammarAndTrees g trees) h = refl
asks operations.Inside (those.Grammar g) h = inl refl
asks operations.Normal (those.Grammar g) h = inr (inl refl)
asks operations.KBest (those.Grammar g) h = inr (inr (inl refl))
asks operations.Determinize (those.Grammar g) h = inr (inr (inr (inl refl)))
asks operations.Prune (those.Grammar g) h = inr (inr (inr (inr (inl refl))))
asks operations.Trim (those.Grammar g) h = inr (inr (inr (inr (inr (inl refl)))))
asks operations.Through (those.Grammar g) h = inr (inr (inr (inr (inr (inr (inl refl))))))
asks operations.Runs (those.Grammar g) h = inr (inr (inr (inr (inr (inr (inr refl))))))
asks operations.Intersect (those.Grammars f g) h = inl refl
asks operations.Union (those.Grammars f g) h = inr refl
asks operations.Compare (those.Supports f g) h = refl
asks operations.Difference (those.GrammarAndSupport g s) h = refl
asks operations.Count (those.Support s) h = refl
asks operations.Forward (those.GrammarAndTransducer g t) h = refl
asks operations.Backward (those.TransducerAndGrammar t g) h = refl
asks operations.Compose (those.Transducers t u) h = refl
asks operations.Check (those.Transducer t) h = inl refl
asks operations.Invert (those.Transducer t) h = inr (inl refl)
asks operations.Domain (those.Transducer t) h = inr (inr refl)
asks operations.Image (those.TreeAndTransducer one t) h = refl
asks operations.Parse (those.StringTransducerAndString t string) h = refl
asks operations.Demo those.Nothing h = refl
asks o read h = absurd (cc h)

-- what was read says which operations it is for
pub asked_for : {S : Type 0} (o : Operation) {read others : Values S} → read ≡ others → IsSome (values_as read (kinds_of o)) → AsksFor o others
asked_for {S} o {read} {others} e h = subst (AsksFor {S = S} o) e (asks o read h)

-- values that are none of these three are lent
pub lent :
    {S : Type 0} (read : Values S) → ((g : GrammarOf) → read ≡ those.Grammar g → ⊥) → ((f g : GrammarOf) → read ≡ those.Grammars f g → ⊥) →
    ((t : TransducerOf) → read ≡ those.Transducer t → ⊥) → AreLent read
lent (those.Grammar g) one two moves = one g refl
lent (those.Grammars f g) one two moves = two f g refl
lent (those.Transducer t) one two moves = moves t refl
lent read one two moves = tt

-- and none of the three is lent
pub not_lent :
    {S : Type 0} (read : Values S) → AreLent read →
    ((g : GrammarOf) × (read ≡ those.Grammar g)) ⊎ (((f : GrammarOf) × (g : GrammarOf) × (read ≡ those.Grammars f g)) ⊎ ((t : TransducerOf) × (read ≡ those.Transducer t))) → ⊥
not_lent {S} read h (inl one) = subst (λ (r : Values S). AreLent r) one.1 h
not_lent {S} read h (inr (inl two)) = subst (λ (r : Values S). AreLent r) two.2 h
not_lent {S} read h (inr (inr moves)) = subst (λ (r : Values S). AreLent r) moves.1 h
