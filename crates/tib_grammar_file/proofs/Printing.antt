-- One text printed after another.
use Rattle.tib_cost.specs.declared.Scale.{Scale}
use Rattle.std.proofs.Common.{◌≡◌, ℕ, ◌+◌, ◌<◌, ◌≤◌, List, [], ◌∷◌, ◌++◌, length, get_or, take, drop, refl, ap, sym, ◌∙◌, subst, arith, append-nil}
use Rattle.std.specs.Prelude.{Some, Result, Ok, Err, Bool, true, false, cond, ◌==◌, ◌||◌}
use Rattle.std.proofs.lemmas.List.{take_more, take-append-drop, take_all}
use Rattle.tib_lex.specs.Grammar.{escape}
use Rattle.std.specs.Prelude.{slice_get, Contains, zero, suc}
use Rattle.std.specs.Str.{bytes_eq}
use Rattle.std.specs.Bool.{Decides}
use Rattle.std.proofs.lemmas.Slice.Eq.{bytes_eq-Decides}
use Rattle.std.proofs.lemmas.Option.{slice_get_within, get_or_from_slice_get}
use Rattle.tib_tree.specs.Trees.{Trees, none, tree, only, preorder, count}
use Rattle.tib_grammar.specs.Sides.{Symbol, label as symbol_label, hole, holes, HolesAreLeaves}
use Rattle.tib_grammar.specs.GrammarOf.{GrammarOf}
use Rattle.tib_grammar.specs.Run.{rule_at, no_rule}
use Rattle.tib_grammar.specs.Range.{AllBelow, IsInRange, AreInRange, SidesEndInHoles}
use Rattle.tib_grammar.specs.declared.Rule.{Rule}
use Rattle.tib_lex.specs.Lists.{Each}
use Rattle.std.specs.List.{All}
use Rattle.tib_grammar_file.specs.Printed.{IsSymbolWithin, IsRuleWithin, LabelsBelow, AreLabelled, grammar_text, rules_text, is_held}
use Rattle.tib_io.specs.Writes.{SinkSeen}
use Rattle.tib_io.specs.Wrote.{Wrote}
use Rattle.tib_io.specs.Writing.{no_failure, wrote_none, wrote_as, wrote_same, joined, cut_off}
use Rattle.tib_lex.proofs.Booleans.{or-true}
use Rattle.tib_lex.proofs.Lists.{each_append}
use Rattle.tib_lex.proofs.Places.{any_default}
use Rattle.tib_grammar.proofs.Below.{below_split}

-- nothing is printed at first
pub prints_nothing : (T E : Type 0) (a : SinkSeen) (t : T) → (let r : Result T E = Ok t in Wrote a a [] r)
prints_nothing T E a t = let r : Result T E = Ok t in wrote_as a a [] [] tt t no_failure r refl refl refl (wrote_none a)

-- another value is returned
pub prints_as : (T U E : Type 0) (a b : SinkSeen) (xs ys : List ℕ) (t : T) (u : U) → xs ≡ ys → (let r : Result T E = Ok t in Wrote a b xs r) → (let r : Result U E = Ok u in Wrote a b ys r)
prints_as T U E a b xs ys t u same p = let q : Result T E = Ok t in let r : Result U E = Ok u in wrote_as a b xs ys t u q r refl refl same p

-- escaped bytes, one after another
pub escape-append : (xs ys : List ℕ) → escape (xs ++ ys) ≡ escape xs ++ escape ys
escape-append [] ys = refl
escape-append (x ∷ xs) ys = by (x == 34 || x == 92) (escape-append xs ys)
  where
    by : (b : Bool) → escape (xs ++ ys) ≡ escape xs ++ escape ys → cond b (92 ∷ (x ∷ escape (xs ++ ys))) (x ∷ escape (xs ++ ys)) ≡ cond b (92 ∷ (x ∷ escape xs)) (x ∷ escape xs) ++ escape ys
    by true e = ap (λ (zs : List ℕ). 92 ∷ (x ∷ zs)) e
    by false e = ap (λ (zs : List ℕ). x ∷ zs) e

pub escape_step : (text : List ℕ) (n : ℕ) (b : ℕ) → n < length text → b ≡ get_or text n 0 → escape (take n text) ++ escape (b ∷ []) ≡ escape (take (n + 1) text)
escape_step text n b h e = sym (ap escape (take_more text n 0 h ∙ ap (λ (c : ℕ). take n text ++ c ∷ []) (sym e)) ∙ escape-append (take n text) (b ∷ []))

-- the bytes up to a place and the others
pub escape_parts : (text : List ℕ) (n : ℕ) → escape (take n text) ++ escape (drop n text) ≡ escape text
escape_parts text n = sym (escape-append (take n text) (drop n text)) ∙ ap escape (take-append-drop n text)

pub prints_done : (text : List ℕ) (k : ℕ) (T E : Type 0) (a c : SinkSeen) (r : Result T E) → length text ≤ k → Wrote a c (escape (take k text)) r → Wrote a c (escape text) r
prints_done text k T E a c r all p = wrote_same a c (escape (take k text)) (escape text) r (ap escape (take_all k text all)) p

-- one text, and then another, over the states of one sink
pub seq : {X : Type 0} (T U E : Type 0) (seen : X → SinkSeen) (a b c : X) (xs ys zs : List ℕ) (t : T) (r : Result U E) → xs ++ ys ≡ zs → (let first : Result T E = Ok t in Wrote (seen a) (seen b) xs first) → Wrote (seen b) (seen c) ys r → Wrote (seen a) (seen c) zs r
seq T U E seen a b c xs ys zs t r same p q = let first : Result T E = Ok t in joined (seen a) (seen b) (seen c) xs ys zs t first r refl same p q

-- a failure in a text is one in each text that begins with it
pub cut : {X : Type 0} (T U E : Type 0) (seen : X → SinkSeen) (a c : X) (xs ys zs : List ℕ) (e : E) → xs ++ ys ≡ zs → (let r : Result T E = Err e in Wrote (seen a) (seen c) xs r) → (let r : Result U E = Err e in Wrote (seen a) (seen c) zs r)
cut T U E seen a c xs ys zs e same p = let q : Result T E = Err e in let r : Result U E = Err e in cut_off (seen a) (seen c) xs ys zs e e q r refl refl same p

or_false : (a b : Bool) → a ≡ false → b ≡ false → (a || b) ≡ false
or_false true b e f = cc
or_false false b e f = f

same_bytes : (text : List ℕ) → bytes_eq text text ≡ true
same_bytes text = let d : Decides (bytes_eq text text) (text ≡ text) = bytes_eq-Decides text text in d.1 refl

other_bytes : (xs ys : List ℕ) → (xs ≡ ys → ⊥) → bytes_eq xs ys ≡ false
other_bytes xs ys no_same = by (bytes_eq xs ys) refl
  where
    by : (b : Bool) → bytes_eq xs ys ≡ b → b ≡ false
    by true e = let d : Decides (bytes_eq xs ys) (xs ≡ ys) = bytes_eq-Decides xs ys in absurd (no_same (d.0 e))
    by false e = refl

pub held_at : (names : List (List ℕ)) (n : ℕ) (text : List ℕ) → slice_get names n ≡ Some text → true ≡ is_held names text
held_at names n text e = by names n (slice_get_within names n text e) (get_or_from_slice_get names n text text e)
  where
    by : (names : List (List ℕ)) (n : ℕ) → n < length names → get_or names n text ≡ text → true ≡ is_held names text
    by [] n h e = absurd (omega arith)
    by (x ∷ xs) zero h e = let s : bytes_eq text x ≡ true = subst (λ (y : List ℕ). bytes_eq text y ≡ true) (sym e) (same_bytes text) in rw s refl
    by (x ∷ xs) (suc n) h e = let s : is_held xs text ≡ true = sym (by xs n (omega arith) e) in sym (ap (λ (b : Bool). bytes_eq text x || b) s ∙ or-true (bytes_eq text x))

pub not_held : (names : List (List ℕ)) (text : List ℕ) → (Contains names text → ⊥) → false ≡ is_held names text
not_held [] text no_name = refl
not_held (x ∷ xs) text no_name =
    let here : bytes_eq text x ≡ false = other_bytes text x (λ e. no_name (0, omega arith, sym e)) in
    let rest : is_held xs text ≡ false = sym (not_held xs text (λ h. no_name (suc h.0, omega (arith, h.1), h.2))) in
    sym (or_false (bytes_eq text x) (is_held xs text) here rest)

-- a text that was found by its number
pub text_at : (names : List (List ℕ)) (n : ℕ) (text : List ℕ) → slice_get names n ≡ Some text → text ≡ get_or names n []
text_at names n text e = sym (get_or_from_slice_get names n text [] e)

pub fails_as : {X : Type 0} (T U E : Type 0) (seen : X → SinkSeen) (a c : X) (xs : List ℕ) (e : E) → (let r : Result T E = Err e in Wrote (seen a) (seen c) xs r) → (let r : Result U E = Err e in Wrote (seen a) (seen c) xs r)
fails_as T U E seen a c xs e p = cut T U E seen a c xs [] xs e (append-nil xs) p

trees_within : (names labels : List (List ℕ)) (ts : Trees (Symbol ℕ ℕ)) → HolesAreLeaves ts → LabelsBelow (length labels) ts → AllBelow (length names) (holes ts) → Each (λ p. IsSymbolWithin names labels p.0) (preorder ts)
trees_within names labels none l b q = tt
trees_within names labels (tree (symbol_label f) kids rest) l b q =
    let s = below_split (length names) (holes kids) (holes rest) q in
    (b.0, each_append (λ p. IsSymbolWithin names labels p.0) (preorder kids) (preorder rest) (trees_within names labels kids l.0 b.1 s.0) (trees_within names labels rest l.1 b.2 s.1))
trees_within names labels (tree (hole p) none rest) l b q = (q.0, trees_within names labels rest l b q.1)
trees_within names labels (tree (hole p) (tree s kids more) rest) l b q = absurd l

pub rule_within : (names labels : List (List ℕ)) (rule : Rule ℕ) → IsInRange (length names) rule → HolesAreLeaves (only rule.right) → LabelsBelow (length labels) (only rule.right) → IsRuleWithin names labels rule
rule_within names labels rule r l b = record {
  left = r.0;
  right = subst (λ (xs : List (Symbol ℕ ℕ × ℕ)). Each (λ p. IsSymbolWithin names labels p.0) xs) (ap (λ (xs : List (Symbol ℕ ℕ × ℕ)). (rule.right.label, count rule.right.kids) ∷ xs) (append-nil (preorder rule.right.kids))) (trees_within names labels (only rule.right) l b r.1);
}

pub rules_within : (names labels : List (List ℕ)) (rules : List (Rule ℕ)) → AreInRange (length names) rules → SidesEndInHoles rules → AreLabelled (length labels) rules → All (IsRuleWithin names labels) rules
rules_within names labels rules r l b k d h =
    subst (λ (rule : Rule ℕ). IsRuleWithin names labels rule) (any_default rules k no_rule d h) (rule_within names labels (rule_at rules k) (r k h) (l k h) (b k h))

-- the same, of equal names and rules
pub grammar_within : (names labels others : List (List ℕ)) (rules all : List (Rule ℕ)) → names ≡ others → rules ≡ all → AreInRange (length others) all → SidesEndInHoles all → AreLabelled (length labels) all → All (IsRuleWithin names labels) rules
grammar_within names labels others rules all same are r l b =
    subst (λ (ns : List (List ℕ)). All (IsRuleWithin ns labels) rules) (sym same) (subst (λ (rs : List (Rule ℕ)). All (IsRuleWithin others labels) rs) (sym are) (rules_within others labels all r l b))

pub grammar_same : {T E : Type 0} {a c : SinkSeen} {r : Result T E} (v u : Scale) (labels names : List (List ℕ)) (rules : List (Rule ℕ)) (g : GrammarOf) → v ≡ u → names ≡ g.names → rules ≡ g.rules → Wrote a c ((get_or names 0 [] ++ 10 ∷ []) ++ rules_text v names labels rules) r → Wrote a c (grammar_text u labels g) r
grammar_same {T} {E} {a} {c} {r} v u labels names rules g e same are p =
    wrote_same a c ((get_or names 0 [] ++ 10 ∷ []) ++ rules_text v names labels rules) (grammar_text u labels g) r
    (ap (λ (b : Scale). (get_or names 0 [] ++ 10 ∷ []) ++ rules_text b names labels rules) e
    ∙ ap (λ (ns : List (List ℕ)). (get_or ns 0 [] ++ 10 ∷ []) ++ rules_text u ns labels rules) same
    ∙ ap (λ (rs : List (Rule ℕ)). (get_or g.names 0 [] ++ 10 ∷ []) ++ rules_text u g.names labels rs) are) p
