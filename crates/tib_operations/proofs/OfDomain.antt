-- What `domain` writes: one text, and that there is none cannot be where the reached set is within
-- the limit and the transducer is linear. It is what `parse` writes of the empty string, by the
-- transducer that reads the same and puts out nothing.
use Rattle.tib_cost.specs.declared.Scale.{Scale}
use Rattle.tib_cost.specs.declared.Scale.TheVariants as scales
use Rattle.std.specs.Prelude.{if◌then◌else◌}
use Rattle.std.specs.List.{list_any, range_with_len}
use Rattle.std.proofs.Common.{◌≡◌, ℕ, ◌-◌, ◌<◌, Bool, true, false, List, [], ◌∷◌, ◌++◌, length, map, refl, sym, subst, arith, zero, suc, get_or}
use Rattle.indexmap.specs.IndexSet.{insert_key, insert_all}
use Rattle.tib_lex.specs.Lines.{HasNoFeed}
use Rattle.tib_lex.specs.Lists.{Distinct, Each}
use Rattle.tib_lex.proofs.Lists.{each_append}
use Rattle.tib_lex.proofs.Members.{each_has}
use Rattle.tib_cost.specs.Semiring.{ProductLaws}
use Rattle.tib_tree.specs.Trees.{Trees, none, tree, only, preorder, preorder_of}
use Rattle.tib_grammar.specs.Sides.{Symbol, label, hole, HolesAreLeaves, leaves}
use Rattle.tib_grammar.specs.GrammarOf.{GrammarOf}
use Rattle.tib_grammar_file.specs.Printable.{IsPlainCost}
use Rattle.tib_transducer.specs.Outside.{AllMeet}
use Rattle.tib_transducer.specs.Range.{AreShaped, AreWithin, EndInHoles}
use Rattle.tib_transducer.specs.Rules.{transducer_rule}
use Rattle.tib_transducer.specs.TransducerOf.{TransducerOf}
use Rattle.tib_transducer.specs.declared.Variable.{Variable}
use Rattle.tib_transducer.specs.declared.TransducerRule.{TransducerRule}
use Rattle.tib_transducer.specs.declared.error.ClassFault.{ClassFault}
use Rattle.tib_transducer.specs.declared.error.ClassFault.TheVariants as classes
use Rattle.tib_transducer_file.specs.ByText.{AreOneTransducer}
use Rattle.tib_strings.specs.Faults.{HasFault, IsFirstFault}
use Rattle.tib_strings.specs.Range.{AreLinear as AreLinearOnStrings, AreNondeleting, IsLinear, IsNondeleting}
use Rattle.tib_strings.specs.Run.{AreStringRuns}
use Rattle.tib_strings.specs.Rules.{string_rule}
use Rattle.tib_strings.specs.StringTransducerOf.{StringTransducerOf}
use Rattle.tib_strings.specs.declared.StringRule.{StringRule}
use Rattle.tib_transducer.specs.Run.{AreTransducerRuns}
use Rattle.tib_cost.proofs.Least.{IsLeast-same}
use Rattle.tib_canon.specs.Constructions.{IsCanonicalOf}
use Rattle.tib_canon.specs.TransducerKeys.{AreMovesOver}
use Rattle.tib_domain.specs.Alphabet.{same_symbol, symbols_in, all_symbols, alphabet}
use Rattle.tib_domain.specs.Domain.{HasDomainSeries as IsReadAs}
use Rattle.tib_domain.specs.Reading.{reading_rule, any_rule, plain, domain_rules, domain_of}
use Rattle.tib_domain.proofs.DomainByText.{domain_by_text as domains_agree}
use Rattle.tib_domain.proofs.ReadBack.{one_side}
use Rattle.tib_domain.proofs.Series.{at_each, domain_is_read, moves_shaped, moves_linear, moves_nondeleting}
use Rattle.tib_domain.proofs.Symbols.{symbols_append}
use Rattle.tib_operations.specs.Domain.{HasDomainText, IsDomainText, domain_makes}
use Rattle.tib_operations.specs.Forward.{linear}
use Rattle.tib_operations.specs.Made.{IsMadeFault}
use Rattle.tib_operations.specs.Moves.{AreLabelsPlain, IsPlainMove, ArePlainMoves}
use Rattle.tib_operations.specs.Parse.{parsing, IsParseText, IsParseTextFault, parse_makes}
use Rattle.tib_operations.specs.Words.{IsPlainWord, ArePlainWords}
use Rattle.tib_operations.specs.declared.status.Status.{Status}
use Rattle.tib_operations.specs.declared.status.Status.TheVariants as statuses
use Rattle.tib_operations.proofs.MadeParts.{IsEither}
use Rattle.tib_operations.proofs.OfForward.{are_linear}
use Rattle.tib_operations.proofs.OfParse.{parsed_once, parse_by_text, parse_either, parse_there}
use Rattle.tib_operations.proofs.PlainMoves.{IsSoundTransducer}
use Rattle.tib_canon.proofs.PrintableRules.{plain_nothing}

-- what holds of members holds of those that are inserted
module _ (P : ℕ × ℕ → Type 0) where
  key_each : (ks : List (ℕ × ℕ)) (k : ℕ × ℕ) → Each P ks → P k → Each P (insert_key same_symbol ks k)
  key_each ks k e p = by (list_any (same_symbol k) ks)
    where
      by : (b : Bool) → Each P (if b then ks else ks ++ k ∷ [])
      by true = e
      by false = each_append P ks (k ∷ []) e (p, tt)

  inserted_each : (xs ks : List (ℕ × ℕ)) → Each P ks → Each P xs → Each P (insert_all same_symbol ks xs)
  inserted_each [] ks e h = e
  inserted_each (x ∷ xs) ks e h = inserted_each xs (insert_key same_symbol ks x) (key_each ks x e h.0) h.1

-- its left-hand sides and costs can be written

module _ (labels : List (List ℕ)) where
  abbrev IsPlainSymbol : ℕ × ℕ → Type 0
  IsPlainSymbol x = (x.0 < length labels) × HasNoFeed (get_or labels x.0 [])

  symbols_plain : {P : Type 0} (ts : Trees (Symbol ℕ P)) → AreLabelsPlain labels ts → Each IsPlainSymbol (symbols_in (preorder ts))
  symbols_plain none h = tt
  symbols_plain {P} (tree (label f) kids rest) h = (
    (h.0, h.1),
    subst (Each IsPlainSymbol) (sym (symbols_append (preorder kids) (preorder rest)))
        (each_append IsPlainSymbol (symbols_in (preorder kids)) (symbols_in (preorder rest)) (symbols_plain kids h.2) (symbols_plain rest h.3)),
  )
  symbols_plain {P} (tree (hole x) kids rest) h =
      subst (Each IsPlainSymbol) (sym (symbols_append (preorder kids) (preorder rest)))
      (each_append IsPlainSymbol (symbols_in (preorder kids)) (symbols_in (preorder rest)) (symbols_plain kids h.0) (symbols_plain rest h.1))

  module _ (scale : Scale) where
    all_plain : (rules : List (TransducerRule ℕ)) → ArePlainMoves scale labels rules → Each IsPlainSymbol (all_symbols rules)
    all_plain [] p = tt
    all_plain (r ∷ rules) p =
        each_append IsPlainSymbol (symbols_in (preorder_of r.left)) (all_symbols rules)
        (subst (λ xs. Each IsPlainSymbol (symbols_in xs)) (one_side r.left) (symbols_plain (only r.left) (p 0 (omega arith)).left))
        (all_plain rules (λ m h. p (suc m) (omega (arith, h))))

    alphabet_plain : (rules : List (TransducerRule ℕ)) → ArePlainMoves scale labels rules → Each IsPlainSymbol (alphabet rules)
    alphabet_plain rules p = inserted_each IsPlainSymbol (all_symbols rules) [] tt (all_plain rules p)

    variables_plain : (xs : List Variable) → AreLabelsPlain labels (leaves {A = ℕ} xs)
    variables_plain [] = tt
    variables_plain (x ∷ xs) = (tt, variables_plain xs)

    variables_end : (xs : List Variable) → HolesAreLeaves (leaves {A = ℕ} xs)
    variables_end [] = tt
    variables_end (x ∷ xs) = variables_end xs

    any_plain : (any : ℕ) (x : ℕ × ℕ) → IsPlainSymbol x → IsPlainWord scale labels (any_rule any x)
    any_plain any x h = record {
      left = (h.0, h.1, variables_plain (map plain (range_with_len 0 x.1)), tt);
      ends = (variables_end (map plain (range_with_len 0 x.1)), tt);
      cost = plain_nothing scale;
    }

    reading_plain : (any : ℕ) (r : TransducerRule ℕ) → IsPlainMove scale labels r → HolesAreLeaves (only r.left) → IsPlainWord scale labels (reading_rule any r)
    reading_plain any r p ends = record { left = p.left; ends = ends; cost = p.cost }

    pub domain_plain : (t : TransducerOf) → EndInHoles t.rules → ArePlainMoves scale labels t.rules → ArePlainWords scale labels (domain_of t).rules
    domain_plain t leaves p =
        at_each (length t.names) t.rules (λ s. IsPlainWord scale labels s) (λ j low. reading_plain (length t.names) (transducer_rule t.rules j) (p j low) (leaves j low).0)
        (λ x h. any_plain (length t.names) x (each_has IsPlainSymbol (alphabet t.rules) x (alphabet_plain t.rules p) h))

-- the series of its transducer at the empty string, also where there is no state, and so no rule
module _ {levelled weighed : Bool} {product : ℕ → ℕ → ℕ} (laws : ProductLaws levelled weighed product) where
  no_run : (any : ℕ) (runs : Trees ℕ) → AreStringRuns (domain_rules any []) (0 ∷ []) runs → ⊥
  no_run any none a = a
  no_run any (tree i runs rest) a = omega (arith, a.0)

  no_reading : (runs : Trees ℕ) → AreTransducerRuns [] (0 ∷ []) runs → ⊥
  no_reading none a = a
  no_reading (tree i runs rest) a = omega (arith, a.0)

  nothing_read : (any : ℕ) → IsReadAs product [] (domain_rules any [])
  nothing_read any t v = (
    λ h. IsLeast-same (λ c k. absurd (no_run any k.runs k.are_runs)) (λ c k. absurd (no_reading k.1.1.runs k.1.1.are_runs)) h,
    λ h. IsLeast-same (λ c k. absurd (no_reading k.1.1.runs k.1.1.are_runs)) (λ c k. absurd (no_run any k.runs k.are_runs)) h,
  )

  no_rules : (rules : List (TransducerRule ℕ)) → AreWithin 0 rules → rules ≡ []
  no_rules [] within = refl
  no_rules (r ∷ rules) within = absurd (let low = within 0 (omega arith) in omega (arith, low.0))

  read_over : (any : ℕ) (rules : List (TransducerRule ℕ)) → AreWithin any rules → AreShaped rules → IsReadAs product rules (domain_rules any rules)
  read_over zero rules within shaped = subst (λ (rs : List (TransducerRule ℕ)). IsReadAs product rs (domain_rules 0 rs)) (sym (no_rules rules within)) (nothing_read 0)
  read_over (suc n) rules within shaped = domain_is_read laws (suc n) rules (omega arith) within shaped

-- what is written of parsing the empty string by its transducer is written of the domain
pub domain_text :
    (scale : Scale) (product : ℕ → ℕ → ℕ) (limit : ℕ) (labels : List (List ℕ)) (t : TransducerOf) (d : StringTransducerOf) → d ≡ domain_of t → IsReadAs product t.rules d.rules → (text : List ℕ) (h : GrammarOf) →
    IsParseText scale product limit labels d [] text h → IsDomainText scale product limit labels t text h
domain_text scale product limit labels t d are read text h p = (
  record {
    h = p.0.h;
    canonical = record {
      from = p.0.canonical.from;
      is_made = p.0.canonical.is_made;
      canonical = subst (λ (x : StringTransducerOf). IsCanonicalOf product scale labels limit (parsing x p.0.canonical.from) p.0.h) are p.0.canonical.canonical;
    };
    series = λ u v. (λ k. (read u v).0 ((p.0.series u v).0 k), λ k. (p.0.series u v).1 ((read u v).1 k));
    are = p.0.are;
    read = p.0.read;
  },
  p.1,
)

-- why there is none
module _ (r : StringRule ℕ) where
  pub fault_not_met : (e : ClassFault) → HasFault e r → IsLinear r → IsNondeleting r → ⊥
  fault_not_met classes.NotLinear h l n = h l
  fault_not_met classes.NotNondeleting h l n = h.1 n
  fault_not_met classes.Extended h l n = h
  fault_not_met classes.Labelled h l n = h
  fault_not_met classes.NotStrict h l n = h

first_not_met : (rules : List (StringRule ℕ)) (n : ℕ) (e : ClassFault) → IsFirstFault rules n e → AreLinearOnStrings rules → AreNondeleting rules → ⊥
first_not_met rules n e h linear nondeleting =
    let low : n - 1 < length rules = omega (arith, h.from, h.to) in
    fault_not_met (string_rule rules (n - 1)) e h.has (linear (n - 1) low) (nondeleting (n - 1) low)

pub domain_fault :
    (limit : ℕ) (t : TransducerOf) (d : StringTransducerOf) → d ≡ domain_of t → AreLinearOnStrings d.rules → AreNondeleting d.rules → (status : Status) → IsParseTextFault limit d [] status →
    IsMadeFault (domain_makes limit t).more limit status
domain_fault limit t d are linear nondeleting statuses.Done h = h
domain_fault limit t d are linear nondeleting statuses.Usage h = h
domain_fault limit t d are linear nondeleting (statuses.BadInput file fault) h = h
domain_fault limit t d are linear nondeleting (statuses.Class file rule fault) h = absurd (first_not_met d.rules rule fault h.1 linear nondeleting)
domain_fault limit t d are linear nondeleting (statuses.TooMany n) h = (h.0, subst (λ (x : StringTransducerOf). (parse_makes limit x []).more) are h.2)
domain_fault limit t d are linear nondeleting statuses.TreeTooLarge h = h
domain_fault limit t d are linear nondeleting (statuses.ReadFault file) h = h
domain_fault limit t d are linear nondeleting statuses.WriteFault h = h
domain_fault limit t d are linear nondeleting (statuses.TooLong file) h = h
domain_fault limit t d are linear nondeleting statuses.OutOfMemory h = h

-- one text
pub domain_once :
    (scale : Scale) (product : ℕ → ℕ → ℕ) (limit : ℕ) (labels others : List (List ℕ)) (t u : TransducerOf) (text other : List ℕ) → Distinct labels → Distinct others → AreOneTransducer labels others t u →
    HasDomainText scale product limit labels t text → HasDomainText scale product limit others u other → text ≡ other
domain_once scale product limit labels others t u text other apart different agree a b =
    parsed_once scale product limit labels others (domain_of t) (domain_of u) [] [] text other apart different (domains_agree labels others apart different t u agree) tt a b

-- it is within the limit over each table of labels
pub domain_by_text :
    (labels others : List (List ℕ)) → Distinct labels → Distinct others → (t u : TransducerOf) → AreOneTransducer labels others t u → (limit : ℕ) → (domain_makes limit t).within → (domain_makes limit u).within
domain_by_text labels others apart different t u agree limit w =
    parse_by_text labels others apart different (domain_of t) (domain_of u) [] [] (domains_agree labels others apart different t u agree) tt limit w

-- it is within the limit, or more than it
pub domain_either : (limit : ℕ) (t : TransducerOf) → IsEither (domain_makes limit t)
domain_either limit t = parse_either limit (domain_of t) []

-- where the reached set is within the limit
pub domain_there :
    {levelled weighed : Bool} {product : ℕ → ℕ → ℕ} → ProductLaws levelled weighed product → (scale : Scale) (limit : ℕ) → limit < 4294967296 → (labels : List (List ℕ)) → Distinct labels → (t : TransducerOf) →
    IsSoundTransducer scale labels t → AreMovesOver scale labels (length t.names) t.rules → AllMeet linear t.rules → (domain_makes limit t).within →
    ((text : List ℕ) → HasDomainText scale product limit labels t text → ⊥) → ⊥
domain_there {product = product} laws scale limit low labels apart t q m met w never =
    let within : AreWithin (length t.names) t.rules = m.within in
    parse_there laws scale limit low labels apart (domain_of t) []
    (record { shaped = moves_shaped (length t.names) t.rules within m.shaped; plain = domain_plain labels scale t q.leaves q.plain })
    (moves_linear (length t.names) t.rules within m.shaped (are_linear t.rules met), moves_nondeleting (length t.names) t.rules within m.shaped) w
    (λ text p. never text (domain_text scale product limit labels t (domain_of t) refl (read_over laws (length t.names) t.rules within m.shaped) text p.h (p, refl)).0)
