-- The series of the domain.
use Rattle.std.specs.Prelude.{◌≡◌, ◌↔◌, ℕ, ◌+◌, ◌<◌, List, [], ◌∷◌, ◌++◌, length, Bool, Option, None, Some, refl}
use Rattle.std.specs.List.{range_with_len}
use Rattle.std.proofs.Common.{◌≤◌, suc, arith, ap, ◌∙◌, subst, inl, inr, le_refl}
use Rattle.tib_lex.specs.Lists.{Has, Each}
use Rattle.tib_lex.proofs.Members.{has_at, at_has}
use Rattle.tib_tree.specs.Trees.{Tree, Trees, none, tree, count, only, first_of}
use Rattle.tib_grammar.specs.Sides.{holes_of}
use Rattle.tib_cost.specs.Semiring.{ProductLaws, most}
use Rattle.tib_cost.specs.Least.{IsLeast}
use Rattle.tib_cost.proofs.Least.{IsLeast-same, IsLeast-none, IsLeast-dominated}
use Rattle.tib_transducer.specs.Rules.{transducer_rule, no_rule, variables_of, states_in, variables_in}
use Rattle.tib_transducer.specs.Classes.{AreLinear, AreNondeleting as AreNondeletingOnTrees}
use Rattle.tib_transducer.specs.Range.{AreShaped, AreWithin}
use Rattle.tib_transducer.specs.Run.{AreTransducerRuns, Reads, pick, outputs}
use Rattle.tib_transducer.specs.declared.TransducerRule.{TransducerRule}
use Rattle.tib_transducer.specs.declared.Pair.{Pair}
use Rattle.tib_transducer.proofs.Itemizing.{count-outputs}
use Rattle.tib_strings.specs.Rules.{string_rule, states_in as states_on}
use Rattle.tib_strings.specs.Range.{AreWithin as AreWithinOnStrings, AreShaped as AreShapedOnStrings, AreLinear as AreLinearOnStrings, AreNondeleting, IsWithin as IsStringWithin, IsShaped as IsStringShaped, IsLinear as IsStringLinear, IsNondeleting}
use Rattle.tib_strings.specs.Run.{AreStringRuns, put, strings}
use Rattle.tib_strings.specs.Series.{IsStringCost}
use Rattle.tib_strings.specs.declared.StringRule.{StringRule}
use Rattle.tib_image.proofs.Parses.{parse_means}
use Rattle.tib_domain.specs.Alphabet.{alphabet, AreOver, symbols_in}
use Rattle.tib_domain.specs.Reading.{pairs_from, only_pairs, reading_rule, any_rule}
use Rattle.tib_domain.specs.Domain.{IsReadingCost, IsDomainSeries, DomainIsRead, DomainIsParsed, DomainIsLeast, NondeletingReadsAlphabet}
use Rattle.tib_domain.proofs.Anything.{moves, count_bound, IsFrom, rule_from}
use Rattle.tib_domain.proofs.LeftOut.{rest_of, reading_shaped, reading_within, reading_linear, reading_nondeleting, any_shaped, any_within, any_linear, any_nondeleting}
use Rattle.tib_domain.proofs.Picking.{over_all}
use Rattle.tib_domain.proofs.ReadBack.{reads_back, kept_one, kept_one_tree, one_side}
use Rattle.tib_domain.proofs.ReadOn.{reads_on}
use Rattle.tib_domain.proofs.Symbols.{over_fill, in_alphabet}
use Rattle.tib_apply.proofs.Families.{least_some, least_is}
use Rattle.tib_transducer.proofs.Counting.{numbered_each}

-- all strings are empty
abbrev AreEmpty : List (List ℕ) → Type 0
AreEmpty ss = Each (λ (s : List ℕ). s ≡ []) ss

-- pairs alone, with nothing put out at each, put out nothing
put_nothing : (xs : List (Pair ℕ)) (ss : List (List ℕ)) → AreEmpty ss → put (only_pairs xs) ss ≡ []
put_nothing [] ss h = refl
put_nothing (x ∷ xs) [] h = refl
put_nothing (x ∷ xs) (s ∷ ss) h = ap (λ (t : List ℕ). t ++ put (only_pairs xs) ss) h.0 ∙ put_nothing xs ss h.1

-- what holds of each rule of the transducer, and each of `any` for a symbol of the alphabet, holds
-- at each position of the domain
module _ (any : ℕ) (rules : List (TransducerRule ℕ)) where
  pub at_each :
      (P : StringRule ℕ → Type 0) → ((j : ℕ) → j < length rules → P (reading_rule any (transducer_rule rules j))) → ((x : ℕ × ℕ) → Has (alphabet rules) x → P (any_rule any x)) → (i : ℕ) →
      i < length (moves any rules) → P (string_rule (moves any rules) i)
  at_each P readings anys i low = by (string_rule (moves any rules) i) (rule_from any rules i low)
    where
      by : (s : StringRule ℕ) → IsFrom any rules s → P s
      by s (inl r) = let at = at_has rules r.0 no_rule r.1 in subst P (ap (reading_rule any) at.2 ∙ r.2) (readings at.0 at.1)
      by s (inr x) = subst P x.2 (anys x.0 x.1)

  module _ (within : AreWithin any rules) (shaped : AreShaped rules) where
    pub moves_within : AreWithinOnStrings (any + 1) (moves any rules)
    moves_within = at_each (IsStringWithin (any + 1)) (λ j low. reading_within any (transducer_rule rules j) (within j low)) (λ x h. any_within any x)

    pub moves_shaped : AreShapedOnStrings (moves any rules)
    moves_shaped = at_each (λ s. IsStringShaped s) (λ j low. reading_shaped any (transducer_rule rules j) (shaped j low)) (λ x h. any_shaped any x)

    pub moves_linear : AreLinear rules → AreLinearOnStrings (moves any rules)
    moves_linear linear = at_each (λ s. IsStringLinear s) (λ j low. reading_linear any (transducer_rule rules j) (shaped j low) (linear j low)) (λ x h. any_linear any x)

    pub moves_nondeleting : AreNondeleting (moves any rules)
    moves_nondeleting = at_each (λ s. IsNondeleting s) (λ j low. reading_nondeleting any (transducer_rule rules j) (shaped j low)) (λ x h. any_nondeleting any x)

  -- runs of the domain put out nothing
  nothing_put : (runs : Trees ℕ) (qs : List ℕ) → AreStringRuns (moves any rules) qs runs → AreEmpty (strings (moves any rules) runs)
  nothing_put none qs a = tt
  nothing_put (tree i runs rest) [] a = absurd a
  nothing_put (tree i runs rest) (q ∷ qs) a = (
    silent i a.0 (strings (moves any rules) runs) (nothing_put runs (states_on (string_rule (moves any rules) i).right) a.2),
    nothing_put rest qs a.3,
  )
    where
      silent : (i : ℕ) → i < length (moves any rules) → (ss : List (List ℕ)) → AreEmpty ss → put (string_rule (moves any rules) i).right ss ≡ []
      silent i low ss h = at_each (λ s. put s.right ss ≡ []) (λ j b. put_nothing (holes_of (transducer_rule rules j).right ++ pairs_from any (rest_of (transducer_rule rules j))) ss h)
          (λ x a. put_nothing (pairs_from any (range_with_len 0 x.1)) ss h) i low

one_string : (ss : List (List ℕ)) → AreEmpty ss → length ss ≡ 1 → ss ≡ [] ∷ []
one_string [] h e = absurd (omega (arith, e))
one_string (s ∷ []) h e = ap (λ (t : List ℕ). t ∷ []) h.0
one_string (s ∷ (t ∷ ss)) h e = absurd (omega (arith, e))

one_tree : (us : Trees ℕ) → count us ≡ 1 → us ≡ only (first_of 0 us)
one_tree none e = absurd (omega (arith, e))
one_tree (tree f kids none) e = refl
one_tree (tree f kids (tree g more rest)) e = absurd (omega (arith, e))

module _
    {levelled weighted : Bool} {product : ℕ → ℕ → ℕ} (laws : ProductLaws levelled weighted product) (any : ℕ) (rules : List (TransducerRule ℕ))
    (some : 0 < any) (within : AreWithin any rules) (shaped : AreShaped rules) where
  count_strings : (runs : Trees ℕ) (qs : List ℕ) → AreStringRuns (moves any rules) qs runs → length (strings (moves any rules) runs) ≡ length qs
  count_strings none [] a = refl
  count_strings none (q ∷ qs) a = absurd a
  count_strings (tree i runs rest) [] a = absurd a
  count_strings (tree i runs rest) (q ∷ qs) a = ap suc (count_strings rest qs a.3)

  forth : (t : Tree ℕ) (c : ℕ) → AreOver (alphabet rules) (only t) × IsReadingCost product rules t c → IsStringCost product (moves any rules) (0 ∷ []) (only t) ([] ∷ []) c
  forth t c h =
      let run = h.1.1 in
      let x = reads_on any rules laws shaped run.runs (0 ∷ []) (only t) run.are_runs run.reads h.0 in
      record {
        runs = x.runs;
        are_runs = x.are_runs;
        reads = x.reads;
        output = one_string (strings (moves any rules) x.runs) (nothing_put any rules x.runs (0 ∷ []) x.are_runs) (count_strings x.runs (0 ∷ []) x.are_runs);
        costs = x.costs ∙ run.costs;
      }

  back : (t : Tree ℕ) (c : ℕ) → IsStringCost product (moves any rules) (0 ∷ []) (only t) ([] ∷ []) c → AreOver (alphabet rules) (only t) × IsReadingCost product rules t c
  back t c h =
      let x = reads_back any rules within shaped laws h.runs (0 ∷ []) (only t) h.are_runs h.reads in
      let are : AreTransducerRuns rules (0 ∷ []) x.runs = subst (λ qs. AreTransducerRuns rules qs x.runs) (kept_one any 0 some) x.are_runs in
      let reads : Reads rules x.runs (only t) = subst (Reads rules x.runs) (kept_one_tree any 0 t.label t.kids some) x.reads in (
        x.over,
        (
          first_of 0 (outputs rules x.runs),
          record {
            runs = x.runs;
            are_runs = are;
            reads = reads;
            output = one_tree (outputs rules x.runs) (count-outputs rules (0 ∷ []) x.runs are);
            costs = x.costs ∙ h.costs;
          },
        ),
      )

  pub domain_read : (t : Tree ℕ) (v : Option ℕ) → IsLeast (IsStringCost product (moves any rules) (0 ∷ []) (only t) ([] ∷ [])) v ↔ IsDomainSeries product rules t v
  domain_read t v = (λ h. IsLeast-same (back t) (forth t) h, λ h. IsLeast-same (forth t) (back t) h)

module _ {levelled weighted : Bool} {product : ℕ → ℕ → ℕ} (laws : ProductLaws levelled weighted product) where
  pub domain_is_read : DomainIsRead product
  domain_is_read any rules some within shaped t v = domain_read laws any rules some within shaped t v

  pub domain_is_parsed : DomainIsParsed product
  domain_is_parsed any rules some within shaped linear order grammar is t v =
      let parsed = parse_means laws (moves any rules) (moves_shaped any rules within shaped) (moves_linear any rules within shaped linear) (moves_nondeleting any rules within shaped) [] order grammar is t v in
      let read = domain_read laws any rules some within shaped t v in
      (λ h. read.0 (parsed.0 h), λ h. parsed.1 (read.1 h))

pub domain_is_least : (product : ℕ → ℕ → ℕ) → DomainIsLeast product
domain_is_least product rules t costs h = record {
  over = λ o v. (
    λ k. IsLeast-dominated (down o) (λ n x b. (n, up o n x, le_refl n)) k,
    λ k. IsLeast-dominated (λ n x b. (n, up o n x, le_refl n)) (down o) k,
  );
  other = λ no. IsLeast-none (λ n x. no x.0);
}
  where
    down :
        AreOver (alphabet rules) (only t) → (n : ℕ) → AreOver (alphabet rules) (only t) × IsReadingCost product rules t n → n ≤ most →
        (m : ℕ) × ((u : Tree ℕ) × (costs u ≡ Some m)) × (m ≤ n)
    down o n x b = let r = least_some (costs x.1.0) (h x.1.0) n x.1.1 b in (r.0, (x.1.0, r.1), r.2)

    up : AreOver (alphabet rules) (only t) → (n : ℕ) → (u : Tree ℕ) × (costs u ≡ Some n) → AreOver (alphabet rules) (only t) × IsReadingCost product rules t n
    up o n x = (o, (x.0, least_is (costs x.0) (h x.0) n x.1))

-- what a nondeleting transducer reads is over the alphabet
module _ (rules : List (TransducerRule ℕ)) (nondeleting : AreNondeletingOnTrees rules) (shaped : AreShaped rules) where
  over_read : (runs : Trees ℕ) (ps : List ℕ) (ts : Trees ℕ) → AreTransducerRuns rules ps runs → Reads rules runs ts → AreOver (alphabet rules) ts
  over_read none [] none a d = tt
  over_read none [] (tree f kids more) a d = absurd d
  over_read none (p ∷ ps) ts a d = absurd a
  over_read (tree j runs rest) [] ts a d = absurd a
  over_read (tree j runs rest) (p ∷ ps) none a d = absurd d
  over_read (tree j runs rest) (p ∷ ps) (tree f kids more) a d =
      let r : TransducerRule ℕ = transducer_rule rules j in
      let args : Trees ℕ = d.0.args in
      let long : count args ≡ length (variables_of r.left) = count_bound (variables_of r.left) args d.0.bound in
      let picked : AreOver (alphabet rules) (pick args (variables_in r.right)) = over_read runs (states_in r.right) (pick args (variables_in r.right)) a.2 d.0.below in
      let all : AreOver (alphabet rules) args =
      over_all (alphabet rules) args (variables_in r.right)
      (λ i b. numbered_each (variables_in r.right) 0 (variables_of r.left) (shaped j a.0).numbered (nondeleting j a.0) i (omega arith) (omega (arith, b, long))) picked
      in
      let one : AreOver (alphabet rules) (tree f kids none) =
      subst (AreOver (alphabet rules)) d.0.filled
      (over_fill (alphabet rules) (only r.left) args long (λ z h. in_alphabet rules r (has_at rules j no_rule a.0) z (subst (λ zs. Has (symbols_in zs) z) (one_side r.left) h)) all)
      in
      (one.0, one.1, over_read rest ps more a.3 d.1)

pub nondeleting_reads : (product : ℕ → ℕ → ℕ) → NondeletingReadsAlphabet product
nondeleting_reads product rules nondeleting shaped t c h = over_read rules nondeleting shaped h.1.runs (0 ∷ []) (only t) h.1.are_runs h.1.reads
