-- What a rule line holds, by what was found in it.
use Rattle.tib_tree.specs.Trees.{most_nodes}
use Rattle.tib_cost.specs.declared.Scale.{Scale}
use Rattle.std.proofs.Common.{◌≡◌, ℕ, ◌-◌, ◌<◌, ◌≤◌, List, [], ◌∷◌, length, take, drop, refl, ap, sym, ◌∙◌, subst, arith, Option, Bool, true, false}
use Rattle.std.specs.Prelude.{Some, None, Ok, Err}
use Rattle.std.specs.List.{All}
use Rattle.std.proofs.lemmas.List.{length-map, take-map, length-append}
use Rattle.std.proofs.lemmas.List.Elements.{All-drop, All-take}
use Rattle.tib_lex.specs.Grammar.{Word, close}
use Rattle.tib_lex.specs.Line.{word_at, words_at, words_of, text_of, Lies}
use Rattle.tib_lex.specs.declared.token.Token.{Token}
use Rattle.tib_tree.specs.Written.{Written, end, leaf, head, spell, Item, items}
use Rattle.tib_tree.specs.Machine.{nodes_of}
use Rattle.tib_tree.specs.Shape.{items_back}
use Rattle.tib_tree.specs.declared.shape.Place.{Place}
use Rattle.tib_grammar_file.specs.Rule.{has_dot, weight_words, Parts, parts, weight_in, weight_size, front_of, with_nodes, plain_parts, head_of, parts_with, parts_of, rule_line, good_parts, with_cost, rule_line_of}
use Rattle.tib_grammar_file.specs.Found.{text_at, found_parts, FoundIn, FoundLies, IsCost}
use Rattle.tib_grammar_file.specs.Raw.{AddsLine}
use Rattle.tib_grammar_file.specs.declared.raw.RawRules.{RawRules}
use Rattle.tib_grammar_file.specs.declared.rule.LeftAndWeight.{LeftAndWeight}
use Rattle.tib_lex.specs.declared.fault.LineError.{LineError}
use Rattle.tib_lex.specs.declared.fault.LineError.TheVariants as errors
use Rattle.tib_grammar_file.specs.Weight.{cost_of}
use Rattle.tib_lex.specs.declared.fault.FaultKind.{FaultKind}
use Rattle.tib_grammar_file.proofs.RulesRead.{rule_back}
use Rattle.tib_lex.specs.declared.fault.FaultKind.TheVariants as kinds
use Rattle.tib_tree.proofs.LineRead.{back_long, chosen}
use Rattle.tib_grammar_file.proofs.Common.{plain}

pub no_head : (words : List Word) → head_of words ≡ None → parts_of words ≡ None
unfolding parts_of
no_head words e = rw e refl

dot_parts : (b : Bool) (left : List ℕ) (words : List Word) → b ≡ true → plain_parts b left words ≡ None
dot_parts true left words e = refl
dot_parts false left words e = cc

pub dotted : (words rest : List Word) (left : List ℕ) → head_of words ≡ Some (left, rest) → has_dot left ≡ true → parts_of words ≡ None
unfolding parts_of
dotted words rest left e d = ap parts_with e ∙ dot_parts (has_dot left) left rest d

pub words_front : (line : List ℕ) (weight : Option Token) (rest : List Token) → words_at line (front_of weight rest) ≡ front_of (text_at line weight) (words_at line rest)
words_front line None rest = sym (ap (λ (n : ℕ). take (n - 0) (words_at line rest)) (length-map rest (word_at line)) ∙ take-map (word_at line) (length rest - 0) rest)
words_front line (Some t) rest = sym (ap (λ (n : ℕ). take (n - 2) (words_at line rest)) (length-map rest (word_at line)) ∙ take-map (word_at line) (length rest - 2) rest)

-- the parts, by what was read from the tree's tokens
pub parts_found : (line : List ℕ) (words : List Word) (left : List ℕ) (rest tree : List Token) (weight : Option Token) (o : Option (List Item)) → head_of words ≡ Some (left, words_at line rest) → has_dot left ≡ false → weight_in (words_at line rest) ≡ text_at line weight → tree ≡ front_of weight rest → nodes_of (words_at line tree) ≡ o → parts_of words ≡ with_nodes left (text_at line weight) o
unfolding parts_of
parts_found line words left rest tree weight o e d w t n =
    ap parts_with e
    ∙ plain (has_dot left) left (words_at line rest) d
    ∙ ap (λ (v : Option (List ℕ)). with_nodes left v (nodes_of (front_of v (words_at line rest)))) w
    ∙ ap (λ (ws : List Word). with_nodes left (text_at line weight) (nodes_of ws)) (sym (words_front line weight rest) ∙ sym (ap (words_at line) t))
    ∙ ap (with_nodes left (text_at line weight)) n

pub found_with : (line : List ℕ) (tokens rest tree : List Token) (left text : List ℕ) (weight : Option Token) (o : Option (List Item)) → head_of (words_at line tokens) ≡ Some (left, words_at line (drop 2 tokens)) → has_dot text ≡ false → text ≡ left → rest ≡ drop 2 tokens → weight_in (words_at line rest) ≡ text_at line weight → tree ≡ front_of weight rest → nodes_of (words_at line tree) ≡ o → parts_of (words_at line tokens) ≡ with_nodes left (text_at line weight) o
found_with line tokens rest tree left text weight o e d s r w t n =
    parts_found line (words_at line tokens) left rest tree weight o (e ∙ ap (λ (ts : List Token). Some (left, words_at line ts)) (sym r)) (sym (ap has_dot s) ∙ d) w t n

pub all_rest : (long : ℕ) (tokens rest : List Token) → rest ≡ drop 2 tokens → All (Lies long) tokens → All (Lies long) rest
all_rest long tokens rest e h = subst (λ (ts : List Token). All (Lies long) ts) (sym e) (All-drop (Lies long) 2 tokens h)

pub all_front : (long : ℕ) (weight : Option Token) (rest tree : List Token) → tree ≡ front_of weight rest → All (Lies long) rest → All (Lies long) tree
all_front long weight rest tree e h = subst (λ (ts : List Token). All (Lies long) ts) (sym e) (All-take (Lies long) (length rest - weight_size weight) rest h)

-- lines
pub bad_rule_line : (scale : Scale) (line : List ℕ) → words_of line ≡ None → rule_line scale line ≡ Err kinds.BadToken
unfolding rule_line
bad_rule_line scale line e = rw e refl

pub blank_rule_line : (scale : Scale) (line : List ℕ) (ts : List Token) → words_of line ≡ Some (words_at line ts) → length ts ≡ 0 → rule_line scale line ≡ Ok None
unfolding rule_line
blank_rule_line scale line [] e h = rw e refl
blank_rule_line scale line (t ∷ ts) e h = absurd (omega arith)

-- a line with tokens, by its parts
pub record SomeLine (line : List ℕ) (ts us : List Token) (o : Option Parts) : Type 0 where
  pub words : words_of line ≡ Some (words_at line ts)
  pub some : 0 < length ts
  pub same : us ≡ ts
  pub read : parts_of (words_at line us) ≡ o

some_line : (scale : Scale) (line : List ℕ) (ts : List Token) (o : Option Parts) → words_of line ≡ Some (words_at line ts) → 0 < length ts → parts_of (words_at line ts) ≡ o → rule_line scale line ≡ good_parts scale o
unfolding rule_line
some_line scale line [] o e h p = absurd (omega arith)
some_line scale line (t ∷ ts) o e h p = rw (e, p) refl

line_parts : (scale : Scale) (line : List ℕ) (ts us : List Token) (o : Option Parts) → SomeLine line ts us o → rule_line scale line ≡ good_parts scale o
line_parts scale line ts us o s = some_line scale line ts o s.words s.some (ap (λ (xs : List Token). parts_of (words_at line xs)) (sym s.same) ∙ s.read)

pub no_rule_line : (scale : Scale) (line : List ℕ) (ts us : List Token) → SomeLine line ts us None → rule_line scale line ≡ Err kinds.BadRule
no_rule_line scale line ts us s = line_parts scale line ts us None s

pub bad_cost_line : (scale : Scale) (line : List ℕ) (ts us : List Token) (p : Parts) (kind : FaultKind) → SomeLine line ts us (Some p) → cost_of scale p.weight ≡ Err kind → rule_line scale line ≡ Err kind
bad_cost_line scale line ts us p kind s e = line_parts scale line ts us (Some p) s ∙ ap (with_cost p.left p.nodes) e

-- a side has no more items than words
pub nodes_few : (f : Written) → length (items f) ≤ length (spell f)
nodes_few end = omega arith
nodes_few (leaf q t rest) = omega (arith, nodes_few rest)
nodes_few (head q t kids rest) = omega (arith, nodes_few kids, nodes_few rest, length-append (items kids) (items rest), length-append (spell kids) (close ∷ spell rest))

places_few : (line : List ℕ) (ts us : List Token) (left : List ℕ) (places : List Place) (w : Option (List ℕ)) → us ≡ ts → parts_of (words_at line us) ≡ Some (parts left (items_back line places) w) → length places ≤ length ts
places_few line ts us left places w same e =
    let r = rule_back (words_at line us) (parts left (items_back line places) w) e in
    omega (arith, back_long line places, ap length r.nodes, ap length r.spelled, nodes_few r.tree, length-append (spell r.tree) (weight_words w), length-map us (word_at line), ap length same)

pub line_few : (line : List ℕ) (ts us : List Token) (places these : List Place) (o : Option LeftAndWeight) (f : LeftAndWeight) → us ≡ ts → parts_of (words_at line us) ≡ found_parts line places o → o ≡ Some f → these ≡ places → length ts ≤ length line → length these ≤ length line
line_few line ts us places these o f same e is t few =
    omega (arith, places_few line ts us (text_of (word_at line f.left)) places (text_at line f.weight) same (e ∙ ap (found_parts line places) is), ap length t, few)

pub large_rule_line : (scale : Scale) (line : List ℕ) (ts us : List Token) (left : List ℕ) (places : List Place) (w : Option (List ℕ)) (cost : ℕ) → SomeLine line ts us (Some (parts left (items_back line places) w)) → cost_of scale w ≡ Ok cost → most_nodes < length places → rule_line scale line ≡ Err kinds.TooManyNodes
large_rule_line scale line ts us left places w cost s e h =
    line_parts scale line ts us _ s ∙ ap (with_cost left (items_back line places)) e ∙ (chosen (length (items_back line places)) (length places) _ _ (back_long line places)).1 h

pub good_rule_line : (scale : Scale) (line : List ℕ) (ts us : List Token) (left : List ℕ) (places : List Place) (w : Option (List ℕ)) (cost : ℕ) → SomeLine line ts us (Some (parts left (items_back line places) w)) → cost_of scale w ≡ Ok cost → length places ≤ most_nodes → rule_line scale line ≡ Ok (Some (rule_line_of left (items_back line places) cost))
good_rule_line scale line ts us left places w cost s e h =
    line_parts scale line ts us _ s ∙ ap (with_cost left (items_back line places)) e ∙ (chosen (length (items_back line places)) (length places) _ _ (back_long line places)).0 h

pub some_found : (line : List ℕ) (ts us : List Token) (places : List Place) (o p : Option LeftAndWeight) → words_of line ≡ Some (words_at line ts) → 0 < length ts → us ≡ ts → parts_of (words_at line us) ≡ found_parts line places o → o ≡ p → SomeLine line ts us (found_parts line places p)
some_found line ts us places o p w n e r s = record { words = w; some = n; same = e; read = r ∙ ap (found_parts line places) s }

pub found_lies : (long : ℕ) (places : List Place) (o : Option LeftAndWeight) (f : LeftAndWeight) → FoundLies long places o → o ≡ Some f → FoundIn long places f
found_lies long places o f h e = subst (λ (p : Option LeftAndWeight). FoundLies long places p) e h

pub cost_failed : (scale : Scale) (before names texts : List (List ℕ)) (old now : RawRules) (line : List ℕ) (ts us : List Token) (places : List Place) (f : LeftAndWeight) (error : LineError) → SomeLine line ts us (found_parts line places (Some f)) → IsCost (Err error) (cost_of scale (text_at line f.weight)) → AddsLine before names texts old now (Err error) (rule_line scale line)
cost_failed scale before names texts old now line ts us places f (errors.Fault kind) s h = bad_cost_line scale line ts us _ kind s h
cost_failed scale before names texts old now line ts us places f errors.OutOfMemory s h = tt
