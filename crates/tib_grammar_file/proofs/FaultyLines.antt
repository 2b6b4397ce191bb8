-- What a line holds, and what is read from it.
use Rattle.tib_tree.specs.Trees.{most_nodes}
use Rattle.tib_cost.specs.Scale.{is_weighted, cost_in}
use Rattle.tib_cost.specs.declared.Scale.TheVariants as scales
use Rattle.tib_cost.specs.declared.Scale.{Scale}
use Rattle.std.proofs.Common.{◌≡◌, ℕ, ◌<◌, ◌≤◌, inl, inr, Bool, true, false, List, [], ◌∷◌, length, refl, ap, sym, ◌∙◌, subst, arith, Option, ◌++◌}
use Rattle.std.specs.Prelude.{Some, None, Result, Ok, Err, nat_lt, cond}
use Rattle.std.proofs.lemmas.Bool.Decides.{nat_tests}
use Rattle.tib_lex.specs.Grammar.{Word, open_, close, hash, arrow, name, label, HasWords, HasBadToken}
use Rattle.tib_lex.specs.Line.{words_of}
use Rattle.tib_lex.specs.declared.fault.FaultKind.{FaultKind}
use Rattle.tib_lex.specs.declared.fault.FaultKind.TheVariants as kinds
use Rattle.tib_lex.proofs.FirstFaults.{Fits}
use Rattle.tib_lex.proofs.HasWords.{words_read, words_had, bad_read, bad_had}
use Rattle.tib_tree.specs.Written.{spell, Item}
use Rattle.tib_grammar_file.specs.Rule.{has_dot, weight_words, Parts, SpellsRule, parts_of, RuleLine, rule_line_of, few_nodes, with_cost, good_parts, rule_in, rule_line}
use Rattle.tib_grammar_file.specs.Reading.{start_of, plain_start, start_in, start_line}
use Rattle.tib_grammar_file.specs.Weight.{IsWhole, IsCostIf, IsCostOf, whole, small, cost_of}
use Rattle.tib_grammar_file.specs.Faults.{HasStart, HasOtherStart, HasStartFault, HasRule, HasNoRule, IsFaultIf, IsWeightFault, HasBadWeight, HasGoodWeight, HasRuleFault, HoldsRule}
use Rattle.tib_grammar_file.proofs.RulesRead.{rule_back, rule_forth}
use Rattle.tib_grammar_file.proofs.WholeWeights.{whole_back, whole_forth, cost_forth}
use Rattle.tib_cost.specs.Semiring.{most}
use Rattle.tib_grammar_file.proofs.Common.{blank_line, Start}

-- weights
abbrev pub WeightSays : Scale → Option (List ℕ) → Result ℕ FaultKind → Type 0
WeightSays scale weight (Ok cost) = IsCostOf scale weight cost
WeightSays scale weight (Err kind) = IsWeightFault scale weight kind

abbrev SaysIf : Bool → Scale → Option (List ℕ) → Result ℕ FaultKind → Type 0
SaysIf weighted scale None (Ok cost) = cost ≡ 0
SaysIf weighted scale (Some text) (Ok cost) = IsCostIf weighted scale text cost
SaysIf weighted scale weight (Err kind) = IsFaultIf weighted weight kind

not_whole : (text : List ℕ) → whole text ≡ None → (n : ℕ) → IsWhole text n → ⊥
not_whole text e n w = let bad : None ≡ Some n = sym e ∙ whole_forth text n w in cc

small_says : (scale : Scale) (text : List ℕ) (n : ℕ) (b : Bool) → nat_lt most n ≡ b → IsWhole text n → SaysIf true scale (Some text) (cond b (Err kinds.WeightTooLarge) (Ok (cost_in scale n)))
small_says scale text n true e w = let large : most < n = grind (arith, nat_tests) in (n, w, large)
small_says scale text n false e w = let few : n ≤ most = grind (arith, nat_tests) in record { weight = n; whole = w; within = few; cost_is = refl }

whole_says : (scale : Scale) (text : List ℕ) (o : Option ℕ) → whole text ≡ o → SaysIf true scale (Some text) (small scale o)
whole_says scale text None e = not_whole text e
whole_says scale text (Some n) e = small_says scale text n (nat_lt most n) refl (whole_back text n e)

pub weight_says : (scale : Scale) (weight : Option (List ℕ)) → WeightSays scale weight (cost_of scale weight)
unfolding cost_of
weight_says scale None = refl
weight_says scales.Unweighted (Some text) = refl
weight_says scales.Plain (Some text) = whole_says scales.Plain text (whole text) refl
weight_says scales.Reversed (Some text) = whole_says scales.Reversed text (whole text) refl

none_whole : (scale : Scale) (text : List ℕ) (o : Option ℕ) → whole text ≡ o → ((n : ℕ) → IsWhole text n → ⊥) → small scale o ≡ Err kinds.NotWhole
none_whole scale text None e h = refl
none_whole scale text (Some n) e h = absurd (h n (whole_back text n e))

large_small : (scale : Scale) (n : ℕ) → most < n → small scale (Some n) ≡ Err kinds.WeightTooLarge
large_small scale n h = let t : nat_lt most n ≡ true = grind (arith, nat_tests) in rw t refl

kind_read : (scale : Scale) (text : List ℕ) (kind : FaultKind) → IsFaultIf true (Some text) kind → small scale (whole text) ≡ Err kind
kind_read scale text kinds.NotWhole h = none_whole scale text (whole text) refl h
kind_read scale text kinds.WeightTooLarge h = ap (small scale) (whole_forth text h.0 h.1) ∙ large_small scale h.0 h.2
kind_read scale text kinds.NoStart h = absurd h
kind_read scale text kinds.BadToken h = absurd h
kind_read scale text kinds.BadRule h = absurd h
kind_read scale text kinds.BadTree h = absurd h
kind_read scale text kinds.LoneVariable h = absurd h
kind_read scale text kinds.VariableTwice h = absurd h
kind_read scale text kinds.BadString h = absurd h
kind_read scale text kinds.UnknownVariable h = absurd h
kind_read scale text kinds.TooManyNodes h = absurd h

pub weight_read : (scale : Scale) (weight : Option (List ℕ)) (kind : FaultKind) → IsWeightFault scale weight kind → cost_of scale weight ≡ Err kind
unfolding cost_of
weight_read scales.Unweighted weight kind h = absurd h
weight_read scales.Plain None kind h = absurd h
weight_read scales.Plain (Some text) kind h = kind_read scales.Plain text kind h
weight_read scales.Reversed None kind h = absurd h
weight_read scales.Reversed (Some text) kind h = kind_read scales.Reversed text kind h

-- what is read from a line in a rule's place says what it holds
abbrev pub RuleSays : Scale → List ℕ → Result (Option RuleLine) FaultKind → Type 0
RuleSays scale line r = Fits (HoldsRule scale) (HasRuleFault scale) line r

few_say : (scale : Scale) (line : List ℕ) (p : Parts) (x : RuleLine) (b : Bool) → nat_lt most_nodes (length p.nodes) ≡ b → HasGoodWeight scale line p → RuleSays scale line (cond b (Err kinds.TooManyNodes) (Ok (Some x)))
few_say scale line p x true e h = let many : most_nodes < length p.nodes = grind (arith, nat_tests) in (p, h, many)
few_say scale line p x false e h = let few : length p.nodes ≤ most_nodes = grind (arith, nat_tests) in inr (p, h, few)

cost_says : (scale : Scale) (line : List ℕ) (p : Parts) (r : Result ℕ FaultKind) → HasRule line p → WeightSays scale p.weight r → RuleSays scale line (with_cost p.left p.nodes r)
cost_says scale line p (Ok cost) h w = few_say scale line p (rule_line_of p.left p.nodes cost) (nat_lt most_nodes (length p.nodes)) refl (record { is = h; cost = cost; cost_is = w })
cost_says scale line p (Err kind) h w = by (is_weighted scale) p.weight kind w (λ v. record { rule = p; is = h; fault = v })
  where
    by : (v : Bool) (o : Option (List ℕ)) (kind : FaultKind) → IsFaultIf v o kind → (IsFaultIf v o kind → HasBadWeight scale line kind) → HasRuleFault scale line kind
    by true (Some text) kinds.NotWhole w make = make w
    by true (Some text) kinds.WeightTooLarge w make = make w
    by true (Some text) kinds.NoStart w make = absurd w
    by true (Some text) kinds.BadToken w make = absurd w
    by true (Some text) kinds.BadRule w make = absurd w
    by true (Some text) kinds.BadTree w make = absurd w
    by true (Some text) kinds.LoneVariable w make = absurd w
    by true (Some text) kinds.VariableTwice w make = absurd w
    by true (Some text) kinds.BadString w make = absurd w
    by true (Some text) kinds.UnknownVariable w make = absurd w
    by true (Some text) kinds.TooManyNodes w make = absurd w
    by true None kind w make = absurd w
    by false o kind w make = absurd w

no_rule : (words : List Word) → parts_of words ≡ None → (rule : Parts) → SpellsRule words rule → ⊥
no_rule words e rule s = let bad : None ≡ Some rule = sym e ∙ rule_forth words rule s in cc

parts_say : (scale : Scale) (line : List ℕ) (word : Word) (words : List Word) (o : Option Parts) → HasWords (word ∷ words) line → parts_of (word ∷ words) ≡ o → RuleSays scale line (good_parts scale o)
parts_say scale line word words None h e = record { word = word; words = words; has = h; none = no_rule (word ∷ words) e }
parts_say scale line word words (Some p) h e =
    cost_says scale line p (cost_of scale p.weight) (record { words = word ∷ words; has = h; spells = rule_back (word ∷ words) p e }) (weight_says scale p.weight)

words_say : (scale : Scale) (line : List ℕ) (o : Option (List Word)) → words_of line ≡ o → RuleSays scale line (rule_in scale o)
words_say scale line None e = bad_had line e
words_say scale line (Some []) e = inl (words_had [] line e)
words_say scale line (Some (word ∷ words)) e = parts_say scale line word words (parts_of (word ∷ words)) (words_had (word ∷ words) line e) refl

pub rule_says : (scale : Scale) (line : List ℕ) → RuleSays scale line (rule_line scale line)
unfolding rule_line
rule_says scale line = words_say scale line (words_of line) refl

-- and what it holds is read
bad_line : (scale : Scale) (line : List ℕ) → HasBadToken line → rule_line scale line ≡ Err kinds.BadToken
unfolding rule_line
bad_line scale line h = rw (bad_read h.0 line h.1) refl

none_parts : (words : List Word) (o : Option Parts) → parts_of words ≡ o → ((rule : Parts) → SpellsRule words rule → ⊥) → parts_of words ≡ None
none_parts words None e h = e
none_parts words (Some p) e h = absurd (h p (rule_back words p e))

no_rule_line : (scale : Scale) (line : List ℕ) → HasNoRule line → rule_line scale line ≡ Err kinds.BadRule
unfolding rule_line
no_rule_line scale line h =
    ap (rule_in scale) (words_read (h.word ∷ h.words) line h.has)
    ∙ ap (good_parts scale) (none_parts (h.word ∷ h.words) (parts_of (h.word ∷ h.words)) refl h.none)

a_rule_line : (scale : Scale) (line : List ℕ) (rule : Parts) → HasRule line rule → rule_line scale line ≡ with_cost rule.left rule.nodes (cost_of scale rule.weight)
unfolding rule_line
a_rule_line scale line rule h =
    let words : List Word = arrow ∷ (spell h.spells.tree ++ weight_words rule.weight) in
    let has : HasWords (name rule.left ∷ words) line = subst (λ (ws : List Word). HasWords ws line) (sym h.spells.spelled) h.has in
    let spells : SpellsRule (name rule.left ∷ words) rule = subst (λ (ws : List Word). SpellsRule ws rule) (sym h.spells.spelled) h.spells in
    ap (rule_in scale) (words_read (name rule.left ∷ words) line has)
    ∙ ap (good_parts scale) (rule_forth (name rule.left ∷ words) rule spells)

bad_weight : (scale : Scale) (line : List ℕ) (kind : FaultKind) → HasBadWeight scale line kind → rule_line scale line ≡ Err kind
bad_weight scale line kind h =
    a_rule_line scale line h.rule h.is ∙ ap (with_cost h.rule.left h.rule.nodes) (weight_read scale h.rule.weight kind h.fault)

good_weight : (scale : Scale) (line : List ℕ) (rule : Parts) (h : HasGoodWeight scale line rule) → rule_line scale line ≡ few_nodes rule.left rule.nodes h.cost
good_weight scale line rule h =
    a_rule_line scale line rule h.is ∙ ap (with_cost rule.left rule.nodes) (cost_forth scale rule.weight h.cost h.cost_is)

many : (left : List ℕ) (nodes : List Item) (cost : ℕ) → most_nodes < length nodes → few_nodes left nodes cost ≡ Err kinds.TooManyNodes
many left nodes cost h = let t : nat_lt most_nodes (length nodes) ≡ true = grind (arith, nat_tests) in rw t refl

few : (left : List ℕ) (nodes : List Item) (cost : ℕ) → length nodes ≤ most_nodes → few_nodes left nodes cost ≡ Ok (Some (rule_line_of left nodes cost))
few left nodes cost h = let t : nat_lt most_nodes (length nodes) ≡ false = grind (arith, nat_tests) in rw t refl

pub fault_read : (scale : Scale) (line : List ℕ) (kind : FaultKind) → HasRuleFault scale line kind → rule_line scale line ≡ Err kind
fault_read scale line kinds.BadToken h = bad_line scale line h
fault_read scale line kinds.BadRule h = no_rule_line scale line h
fault_read scale line kinds.NotWhole h = bad_weight scale line kinds.NotWhole h
fault_read scale line kinds.WeightTooLarge h = bad_weight scale line kinds.WeightTooLarge h
fault_read scale line kinds.TooManyNodes h = good_weight scale line h.0 h.1 ∙ many h.0.left h.0.nodes h.1.cost h.2
fault_read scale line kinds.NoStart h = absurd h
fault_read scale line kinds.BadTree h = absurd h
fault_read scale line kinds.LoneVariable h = absurd h
fault_read scale line kinds.VariableTwice h = absurd h
fault_read scale line kinds.BadString h = absurd h
fault_read scale line kinds.UnknownVariable h = absurd h

pub held_read : (scale : Scale) (line : List ℕ) → HoldsRule scale line → (o : Option RuleLine) × (rule_line scale line ≡ Ok o)
held_read scale line (inl blank) = (None, blank_line scale line blank)
held_read scale line (inr (rule, h, small)) =
    (Some (rule_line_of rule.left rule.nodes h.cost), good_weight scale line rule h ∙ few rule.left rule.nodes h.cost small)

-- a line in the start's place
abbrev pub StartSays : List ℕ → Result (Option (List ℕ)) FaultKind → Type 0
StartSays line (Ok None) = HasWords [] line
StartSays line (Ok (Some start)) = HasStart line
StartSays line (Err kind) = HasStartFault line kind

starts_with : (words : List Word) (o : Option (List ℕ)) → start_of words ≡ o → (start : List ℕ) → words ≡ name start ∷ [] → o ≡ Some start
starts_with words o e start same = sym e ∙ ap start_of same

start_words : (words : List Word) (s : List ℕ) → start_of words ≡ Some s → words ≡ name s ∷ []
start_words [] s e = let bad : None ≡ Some s = e in cc
start_words (open_ ∷ words) s e = let bad : None ≡ Some s = e in cc
start_words (close ∷ words) s e = let bad : None ≡ Some s = e in cc
start_words (hash ∷ words) s e = let bad : None ≡ Some s = e in cc
start_words (arrow ∷ words) s e = let bad : None ≡ Some s = e in cc
start_words (label t ∷ words) s e = let bad : None ≡ Some s = e in cc
start_words (name t ∷ []) s e = let same : t ≡ s = cc in ap (λ (u : List ℕ). name u ∷ []) same
start_words (name t ∷ (w ∷ words)) s e = let bad : None ≡ Some s = e in cc

no_start_name : (words : List Word) → start_of words ≡ None → (start : List ℕ) → words ≡ name start ∷ [] → ⊥
no_start_name words e start same = let bad : None ≡ Some start = starts_with words None e start same in cc

dotted : (words : List Word) (t : List ℕ) → start_of words ≡ Some t → has_dot t ≡ true → (start : List ℕ) → words ≡ name start ∷ [] → has_dot start ≡ false → ⊥
dotted words t e d start same p =
    let u : t ≡ start = (let s : Some t ≡ Some start = starts_with words (Some t) e start same in cc) in
    let bad : true ≡ false = sym d ∙ ap has_dot u ∙ p in cc

name_says : (line : List ℕ) (word : Word) (words : List Word) (t : List ℕ) (b : Bool) → HasWords (word ∷ words) line → start_of (word ∷ words) ≡ Some t → has_dot t ≡ b → StartSays line (cond b (Err kinds.BadRule) (Ok (Some t)))
name_says line word words t true h e d = record { word = word; words = words; has = h; none = dotted (word ∷ words) t e d }
name_says line word words t false h e d = record { start = t; has = subst (λ (ws : List Word). HasWords ws line) (start_words (word ∷ words) t e) h; plain = d }

token_says : (line : List ℕ) (word : Word) (words : List Word) (o : Option (List ℕ)) → HasWords (word ∷ words) line → start_of (word ∷ words) ≡ o → StartSays line (plain_start o)
token_says line word words None h e = record { word = word; words = words; has = h; none = λ start same p. no_start_name (word ∷ words) e start same }
token_says line word words (Some t) h e = name_says line word words t (has_dot t) h e refl

tokens_say : (line : List ℕ) (o : Option (List Word)) → words_of line ≡ o → StartSays line (start_in o)
tokens_say line None e = bad_had line e
tokens_say line (Some []) e = words_had [] line e
tokens_say line (Some (word ∷ words)) e = token_says line word words (start_of (word ∷ words)) (words_had (word ∷ words) line e) refl

pub start_says : (line : List ℕ) → StartSays line (start_line line)
unfolding start_line
start_says line = tokens_say line (words_of line) refl

bad_start : (line : List ℕ) → HasBadToken line → start_line line ≡ Err kinds.BadToken
unfolding start_line
bad_start line h = rw (bad_read h.0 line h.1) refl

other_start : (line : List ℕ) → HasOtherStart line → start_line line ≡ Err kinds.BadRule
unfolding start_line
other_start line h = ap start_in (words_read (h.word ∷ h.words) line h.has) ∙ by (start_of (h.word ∷ h.words)) refl
  where
    by_dot : (t : List ℕ) (b : Bool) → has_dot t ≡ b → start_of (h.word ∷ h.words) ≡ Some t → (let r : Start = cond b (Err kinds.BadRule) (Ok (Some t)) in r ≡ Err kinds.BadRule)
    by_dot t true d e = refl
    by_dot t false d e = absurd (h.none t (start_words (h.word ∷ h.words) t e) d)

    by : (o : Option (List ℕ)) → start_of (h.word ∷ h.words) ≡ o → plain_start o ≡ Err kinds.BadRule
    by None e = refl
    by (Some t) e = by_dot t (has_dot t) refl e

pub start_fault_read : (line : List ℕ) (kind : FaultKind) → HasStartFault line kind → start_line line ≡ Err kind
start_fault_read line kinds.BadToken h = bad_start line h
start_fault_read line kinds.BadRule h = other_start line h
start_fault_read line kinds.NoStart h = absurd h
start_fault_read line kinds.BadTree h = absurd h
start_fault_read line kinds.LoneVariable h = absurd h
start_fault_read line kinds.VariableTwice h = absurd h
start_fault_read line kinds.BadString h = absurd h
start_fault_read line kinds.UnknownVariable h = absurd h
start_fault_read line kinds.NotWhole h = absurd h
start_fault_read line kinds.WeightTooLarge h = absurd h
start_fault_read line kinds.TooManyNodes h = absurd h
