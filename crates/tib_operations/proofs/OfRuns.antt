-- What `runs` writes: one text, and that there is none cannot be where the grammar has a text.
use Rattle.tib_cost.specs.declared.Scale.{Scale}
use Rattle.std.proofs.Common.{◌≡◌, ℕ, ◌+◌, ◌<◌, ◌≤◌, List, [], ◌∷◌, length, map, get_or, refl, ap, sym, ◌∙◌, subst, arith, zero, suc, inl, inr, true, length-append}
use Rattle.std.specs.Prelude.{Some, slice_get, decimal, nat_lt}
use Rattle.std.proofs.lemmas.Bool.Decides.{nat_tests}
use Rattle.std.proofs.lemmas.Option.{slice_get_within, slice_get-get_or, get_or_from_slice_get}
use Rattle.tib_lex.specs.Grammar.{Word, name}
use Rattle.tib_lex.specs.Lines.{HasNoFeed, not_feed}
use Rattle.tib_lex.specs.Lists.{Along, Each, Has, Distinct}
use Rattle.tib_lex.proofs.Lists.{Each-from, each_append}
use Rattle.tib_lex.proofs.Members.{each_has, has_at}
use Rattle.tib_lex.proofs.Places.{distinct_at}
use Rattle.tib_lex.proofs.Spelled.{and_true}
use Rattle.tib_tree.specs.Grows.{Grows, AddsAll, AreDistinct}
use Rattle.tib_tree.specs.Trees.{Trees, none, tree, only, preorder}
use Rattle.tib_grammar.specs.GrammarOf.{GrammarOf}
use Rattle.tib_grammar.specs.Run.{rule_at, no_rule as no_grammar_rule}
use Rattle.tib_grammar.specs.Sides.{Symbol, label, hole, holes, holes_of, leaves, HolesAreLeaves}
use Rattle.tib_grammar.specs.StateName.{IsStateName, AreStateNames}
use Rattle.tib_grammar.specs.declared.Rule.{Rule}
use Rattle.tib_grammar.proofs.Sides.{holes_of-over}
use Rattle.tib_grammar_file.specs.ByName.{HasText as HasGrammarsText}
use Rattle.tib_grammar_file.specs.ByText.{HaveOneShape, HaveOneText, AgreeInSymbol, AreOneRule, AgreeByText}
use Rattle.tib_grammar_file.specs.GrammarText.{SpellsRuleOf, first_text, GrammarText, IsSmallRule, AreSmallRules}
use Rattle.tib_grammar_file.specs.Printable.{HavePlainLabels, IsPrintable as IsPrintableRule}
use Rattle.tib_grammar_file.specs.Weight.{is_digit}
use Rattle.tib_grammar_file.proofs.Alongs.{along_long}
use Rattle.tib_grammar_file.proofs.OneGrammar.{number_same}
use Rattle.tib_grammar_file.proofs.Plain.{stays, read_plain}
use Rattle.tib_grammar_file.proofs.PrintedRules.{all_changes}
use Rattle.tib_grammar_file.proofs.PrintedStates.{all_from, starts_with}
use Rattle.tib_grammar_file.proofs.RunsByText.{along_at}
use Rattle.tib_grammar_file.proofs.TextRead.{FirstIsWord, first_words, all_names}
use Rattle.tib_strings.proofs.OverTables.{added_grows}
use Rattle.tib_transducer.specs.Range.{AreWithin, EndsInHoles, EndInHoles}
use Rattle.tib_transducer.specs.Rules.{transducer_rule, no_rule}
use Rattle.tib_transducer.specs.TransducerOf.{TransducerOf}
use Rattle.tib_transducer.specs.declared.Variable.{Variable}
use Rattle.tib_transducer.specs.declared.TransducerRule.{TransducerRule}
use Rattle.tib_transducer_file.specs.ByName.{HasText, IsPlainLabel, IsPlainOnLeft, IsPlainOnRight, IsPrintable, states_of}
use Rattle.tib_transducer_file.specs.ByText.{AgreeOnLeft, AgreeOnRight, AreOneTransducerRule, AreOneTransducer}
use Rattle.tib_transducer_file.specs.Printed.{transducer_text}
use Rattle.tib_canon.proofs.TransducerTexts.{stands}
use Rattle.tib_rulewise.specs.Placed.{variables_from}
use Rattle.tib_rulewise.specs.Derivations.{rule_text, rule_texts, read_from, derivation_rule, IsDerivations}
use Rattle.tib_rulewise.proofs.DerivationRuns.{gives}
use Rattle.tib_rulewise.proofs.DerivedRules.{all_shaped, all_within}
use Rattle.tib_rulewise.proofs.Placed.{length-variables}
use Rattle.tib_operations.specs.Runs.{HasRunsSeries, HasRunsText}
use Rattle.tib_operations.proofs.BestByText.{texts_apart}
use Rattle.tib_operations.proofs.DemoText.{all_digits}
use Rattle.tib_operations.proofs.DerivationsThere.{are_there}
use Rattle.tib_operations.proofs.ReadSound.{read_sound}
use Rattle.tib_operations.proofs.ShapesPlaced.{only_is, each_in_placed, placed_ends, as_many_holes, placed_agree}
use Rattle.tib_operations.proofs.TextsAlike.{transducers_alike, text_of_one}

-- derivations of grammars that agree by text agree by text

along_from :
    {A B : Type 0} (R : A → B → Type 0) (xs : List A) (ys : List B) (d : A) (e : B) → length xs ≡ length ys → ((n : ℕ) → n < length xs → R (get_or xs n d) (get_or ys n e)) → Along R xs ys
along_from R [] [] d e l f = tt
along_from R [] (y ∷ ys) d e l f = absurd (omega (arith, l))
along_from R (x ∷ xs) [] d e l f = absurd (omega (arith, l))
along_from R (x ∷ xs) (y ∷ ys) d e l f = (f 0 (omega arith), along_from R xs ys d e (omega (arith, l)) (λ n b. f (suc n) (omega arith)))

module _ (labels others all every : List (List ℕ)) (grows : Grows labels all) (more : Grows others every) where
  text_grows : (f g : ℕ) → HaveOneText labels others f g → HaveOneText all every f g
  text_grows f g h = record { text = h.text; first = grows.kept f h.text h.first; second = more.kept g h.text h.second }

  leaves_agree : (n many : ℕ) → HaveOneShape (AgreeOnLeft all every) (leaves (variables_from n many)) (leaves (variables_from n many))
  leaves_agree n zero = tt
  leaves_agree n (suc many) = ((refl, tt), tt, leaves_agree (suc n) many)

  rule_agrees :
      (number root other : ℕ) (r s : Rule ℕ) → slice_get all root ≡ Some (rule_text number) → slice_get every other ≡ Some (rule_text number) → AreOneRule labels others r s →
      AreOneTransducerRule all every (derivation_rule root r) (derivation_rule other s)
  rule_agrees number root other r s named too a = record {
    state = a.left;
    left = (
      record { text = rule_text number; first = named; second = too },
      subst (λ (k : ℕ). HaveOneShape (AgreeOnLeft all every) (leaves (variables_from 0 (length (holes_of r.right)))) (leaves (variables_from 0 k)))
          (as_many_holes (AgreeInSymbol labels others) (AgreeOnRight all every) read_from text_grows (λ n p q e. (e, refl)) (λ f p h. h) (λ p f h. h) (only r.right) (only s.right) a.right)
          (leaves_agree 0 (length (holes_of r.right))),
      tt,
    );
    right = placed_agree (AgreeInSymbol labels others) (AgreeOnRight all every) read_from text_grows (λ n p q e. (e, refl)) (λ f p h. h) (λ p f h. h) r.right s.right a.right;
    cost = a.cost;
  }

  derivations_agree : (g h : GrammarOf) (t u : TransducerOf) → AgreeByText labels others g h → IsDerivations all g t → IsDerivations every h u → AreOneTransducer all every t u
  derivations_agree g h t u agree a b =
      let long : length g.rules ≡ length h.rules = along_long (AreOneRule labels others) g.rules h.rules agree.rules in
      record {
        names = a.names ∙ agree.names ∙ sym b.names;
        rules = along_from (AreOneTransducerRule all every) t.rules u.rules no_rule no_rule (a.rules.many ∙ long ∙ sym b.rules.many) (λ n low.
            let below : n < length g.rules = omega (arith, low, a.rules.many) in
            let x = a.rules.each n below in
            let y = b.rules.each n (omega (arith, below, long)) in
            subst (λ (z : TransducerRule ℕ). AreOneTransducerRule all every z (transducer_rule u.rules n)) (sym x.is)
            (subst (λ (z : TransducerRule ℕ). AreOneTransducerRule all every (derivation_rule x.root (rule_at g.rules n)) z) (sym y.is)
            (rule_agrees (suc n) x.root y.root (rule_at g.rules n) (rule_at h.rules n) x.named y.named
            (along_at (AreOneRule labels others) g.rules h.rules no_grammar_rule no_grammar_rule n agree.rules below))));
      }

-- grammars that agree by the texts of their labels have one text of their derivations
pub runs_once :
    (scale : Scale) (product : ℕ → ℕ → ℕ) (labels others : List (List ℕ)) (g h : GrammarOf) (text other : List ℕ) → Distinct labels → Distinct others → AgreeByText labels others g h → HasRunsText scale product labels g text →
    HasRunsText scale product others h other → text ≡ other
runs_once scale product labels others g h text other apart different agree a b =
    a.printed.are
    ∙ transducers_alike a.all b.all scale a.printed.h b.printed.h
    (derivations_agree labels others a.all b.all (added_grows labels (rule_texts 1 (length g.rules)) a.all a.adds) (added_grows others (rule_texts 1 (length h.rules)) b.all b.adds) g h a.printed.h b.printed.h agree
    a.printed.canonical b.printed.canonical)
    ∙ sym b.printed.are

-- the label of a rule can be printed

digit_no_feed : (c : ℕ) → is_digit c ≡ true → not_feed c ≡ true
digit_no_feed c h = let t = and_true (nat_lt 47 c) (nat_lt c 58) h in grind (arith, nat_tests)

label_no_feed : (number : ℕ) → HasNoFeed (rule_text number)
label_no_feed number = all_changes is_digit not_feed (decimal number) digit_no_feed (all_digits number)

root_plain : (labels : List (List ℕ)) (root number : ℕ) → slice_get labels root ≡ Some (rule_text number) → IsPlainLabel labels root
root_plain labels root number named =
    (slice_get_within labels root (rule_text number) named, subst HasNoFeed (sym (get_or_from_slice_get labels root (rule_text number) [] named)) (label_no_feed number))

-- so can the sides of a rule of derivations

abbrev IsPlainSymbol : List (List ℕ) → Symbol ℕ ℕ → Type 0
IsPlainSymbol labels (label f) = IsPlainLabel labels f
IsPlainSymbol labels (hole q) = Unit {0}

holes_few : (ts : Trees (Symbol ℕ ℕ)) → length (holes ts) ≤ length (preorder ts)
holes_few none = omega arith
holes_few (tree (label f) kids rest) = omega (arith, holes_few kids, holes_few rest, length-append (holes kids) (holes rest), length-append (preorder kids) (preorder rest))
holes_few (tree (hole q) kids rest) = omega (arith, holes_few rest, length-append (preorder kids) (preorder rest))

module _ (scale : Scale) (labels : List (List ℕ)) where
  plain_each : (ts : Trees (Symbol ℕ ℕ)) → HavePlainLabels labels ts → Each (λ (s : Symbol ℕ ℕ × ℕ). IsPlainSymbol labels s.0) (preorder ts)
  plain_each none h = tt
  plain_each (tree (label f) kids rest) h = ((h.0, h.1), each_append (λ (s : Symbol ℕ ℕ × ℕ). IsPlainSymbol labels s.0) (preorder kids) (preorder rest) (plain_each kids h.2) (plain_each rest h.3))
  plain_each (tree (hole q) kids rest) h = (tt, each_append (λ (s : Symbol ℕ ℕ × ℕ). IsPlainSymbol labels s.0) (preorder kids) (preorder rest) (plain_each kids h.0) (plain_each rest h.1))

  leaves_plain : (n many : ℕ) → Each (λ (s : Symbol ℕ Variable × ℕ). IsPlainOnLeft labels s.0) (preorder (leaves (variables_from n many)))
  leaves_plain n zero = tt
  leaves_plain n (suc many) = (tt, leaves_plain (suc n) many)

  derived_printable : (root number : ℕ) (r : Rule ℕ) → slice_get labels root ≡ Some (rule_text number) → IsSmallRule r → IsPrintableRule scale labels r → IsPrintable scale labels (derivation_rule root r)
  derived_printable root number r named small p =
      let many : ℕ = length (holes_of r.right) in
      record {
        left = (root_plain labels root number named, leaves_plain 0 (length (holes_of r.right)));
        right = each_in_placed (IsPlainSymbol labels) (IsPlainOnRight labels) (λ f h. h) read_from (λ n q. tt) r.right
            (subst (Each (λ (s : Symbol ℕ ℕ × ℕ). IsPlainSymbol labels s.0)) (only_is r.right) (plain_each (only r.right) p.right));
        few = omega (arith, ap length (holes_of-over root (variables_from 0 many)), length-variables 0 many, holes_few (only r.right), ap length (only_is r.right), small);
        cost = p.cost;
      }

leaves_end : {P : Type 0} (ps : List P) → HolesAreLeaves {A = ℕ} (leaves ps)
leaves_end [] = tt
leaves_end (p ∷ ps) = leaves_end ps

-- the transducer of the derivations of a grammar that has a text
module _
    (scale : Scale) (labels all : List (List ℕ)) (grows : Grows labels all) (g : GrammarOf) (h : HasGrammarsText scale labels g) (small : AreSmallRules g.rules) (t : TransducerOf) (d : IsDerivations all g t) where
  rules_stand : (q : ℕ) → 0 < q → q < length t.names → Has (states_of t.rules) q
  rules_stand q some low =
      let l = h.lefts q some (omega (arith, low, ap length d.names)) in
      let x = d.rules.each l.0 l.1 in
      stands t.rules q (transducer_rule t.rules l.0) (has_at t.rules l.0 no_rule (omega (arith, l.1, d.rules.many))) (inl (ap (λ (z : TransducerRule ℕ). z.state) x.is ∙ l.2))

  rules_end : EndInHoles t.rules
  rules_end n low =
      let x = d.rules.each n (omega (arith, low, d.rules.many)) in
      let r : Rule ℕ = rule_at g.rules n in
      subst EndsInHoles (sym x.is) ((leaves_end (variables_from 0 (length (holes_of r.right))), tt), placed_ends read_from r.right)

  rules_printable : Each (IsPrintable scale all) t.rules
  rules_printable = Each-from (IsPrintable scale all) t.rules no_rule (λ n low.
      let below : n < length g.rules = omega (arith, low, d.rules.many) in
      let x = d.rules.each n below in
      let r : Rule ℕ = rule_at g.rules n in
      subst (IsPrintable scale all) (sym x.is)
      (derived_printable scale all x.root (suc n) r x.named (each_has IsSmallRule g.rules r small (has_at g.rules n no_grammar_rule below)) (stays scale labels all g.rules h.printable grows n below)))

  -- it has a text too
  pub derivations_have_text : HasText scale all t
  derivations_have_text = record {
    start = omega (arith, h.start, ap length d.names);
    names = subst AreStateNames (sym d.names) h.names;
    range = subst (λ (n : ℕ). AreWithin n t.rules) (sym (ap length d.names)) (all_within all g.rules t.rules d.rules (length g.names) h.range);
    shaped = all_shaped all g.rules t.rules d.rules;
    leaves = rules_end;
    stand = rules_stand;
    printable = rules_printable;
  }

  -- what is printed of it is the text of `runs`
  pub runs_text :
      (product : ℕ → ℕ → ℕ) (text : List ℕ) → AreDistinct all → AddsAll labels (rule_texts 1 (length g.rules)) all → text ≡ transducer_text scale all t → HasRunsText scale product labels g text
  runs_text product text distinct adds are =
      let series : HasRunsSeries product all g.rules t.rules = λ x y v. gives all g.rules t.rules d.rules product distinct 0 x y v in
      record {
        all = all;
        adds = adds;
        printed = text_of_one scale all t (IsDerivations all g) (HasRunsSeries product all g.rules) product text derivations_have_text d series
            (λ rules same x y v. let s = same x y v in let own = series x y v in (λ k. own.0 (s.1 k), λ k. s.0 (own.1 k)))
            are;
      }

-- it is impossible that a grammar that has a text has none of its derivations
pub runs_there :
    (scale : Scale) (product : ℕ → ℕ → ℕ) (labels : List (List ℕ)) → Distinct labels → (g : GrammarOf) → HasGrammarsText scale labels g → AreSmallRules g.rules → ((text : List ℕ) → HasRunsText scale product labels g text → ⊥) → ⊥
runs_there scale product labels apart g h small never =
    let there = are_there labels g (texts_apart labels apart) in
    let t : TransducerOf = there.transducer in
    never (transducer_text scale there.all t)
    (runs_text scale labels there.all there.grows g h small t there.derivations product (transducer_text scale there.all t) there.distinct there.adds refl)

-- a grammar that was read has a text

left_named :
    (scale : Scale) (names labels : List (List ℕ)) (rows : List (List Word)) (rules : List (Rule ℕ)) → Along (SpellsRuleOf scale names labels) rows rules → (text : List ℕ) → Has (map first_text rows) text →
    (n : ℕ) × (n < length rules) × (slice_get names (rule_at rules n).left ≡ Some text)
left_named scale names labels [] rules a text h = absurd h
left_named scale names labels (row ∷ rows) [] a text h = absurd a
left_named scale names labels (row ∷ rows) (r ∷ rules) a text (inl e) = (0, omega arith, a.0.left_is ∙ ap Some (ap first_text a.0.words_are ∙ e))
left_named scale names labels (row ∷ rows) (r ∷ rules) a text (inr h) =
    let more = left_named scale names labels rows rules a.1 text h in
    (suc more.0, omega (arith, more.1), more.2)

lefts_are_names : (scale : Scale) (names labels : List (List ℕ)) (rows : List (List Word)) (rules : List (Rule ℕ)) → Along (SpellsRuleOf scale names labels) rows rules → Each FirstIsWord rows → Each IsStateName (map first_text rows)
lefts_are_names scale names labels [] rules a f = tt
lefts_are_names scale names labels (row ∷ rows) [] a f = absurd a
lefts_are_names scale names labels (row ∷ rows) (r ∷ rules) a f = (
  subst IsStateName (ap first_text a.0.words_are) (record { is_name = subst (λ (ws : List Word). FirstIsWord ws) (sym a.0.words_are) f.0; no_stop = a.0.plain }),
  lefts_are_names scale names labels rows rules a.1 f.1,
)

pub read_has_text : (scale : Scale) (labels : List (List ℕ)) (bytes : List ℕ) (g : GrammarOf) → GrammarText scale labels bytes g → HasGrammarsText scale labels g
read_has_text scale labels bytes g t =
    let sound = read_sound scale labels bytes g t in
    let words = first_words t.lines ((name t.start ∷ []) ∷ t.rows) t.tokens in
    let names : AreStateNames g.names =
    all_names [] (t.start ∷ map first_text t.rows) g.names t.states (record { each = tt; distinct = tt })
    (record { is_name = words.0; no_stop = t.plain }, lefts_are_names scale g.names labels t.rows g.rules t.rules words.1)
    in
    record {
      start = sound.start;
      names = names;
      range = sound.range;
      leaves = sound.leaves;
      lefts = λ q some low.
          let first : get_or g.names 0 [] ≡ t.start = starts_with t.start (map first_text t.rows) g.names t.states in
          let at : slice_get g.names q ≡ Some (get_or g.names q []) = slice_get-get_or g.names q [] low in
          elim (all_from [] (t.start ∷ map first_text t.rows) g.names t.states (get_or g.names q []) (has_at g.names q [] low)) [
            | inl bad ↦ absurd bad
            | inr k ↦ elim k [
              | inl same ↦
                  let zero_is : q ≡ 0 = distinct_at g.names q 0 [] names.distinct low sound.start (sym same ∙ sym first) in
                  absurd (omega (arith, some, zero_is))
              | inr h ↦ let l = left_named scale g.names labels t.rows g.rules t.rules (get_or g.names q []) h in (l.0, l.1, number_same g.names (rule_at g.rules l.0).left q (get_or g.names q []) names.distinct l.2 at)
            ]
          ];
      printable = read_plain scale labels bytes g t;
    }
