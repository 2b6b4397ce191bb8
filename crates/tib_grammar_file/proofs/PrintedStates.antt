-- The states of what is printed of a grammar.
use Rattle.tib_cost.specs.declared.Scale.{Scale}
use Rattle.std.proofs.Common.{◌≡◌, ◌⊎◌, ℕ, ◌<◌, inl, inr, Bool, true, false, List, [], ◌∷◌, ◌++◌, length, get_or, refl, ap, sym, subst, arith, zero, suc}
use Rattle.std.specs.Prelude.{Some, slice_get, Contains, cond, map}
use Rattle.std.specs.Str.{bytes_eq}
use Rattle.std.specs.Bool.{Decides}
use Rattle.std.proofs.lemmas.Slice.Eq.{bytes_eq-Decides}
use Rattle.tib_lex.specs.Lists.{Has, Each}
use Rattle.tib_tree.specs.Grows.{Adds, AddsAll}
use Rattle.tib_grammar.specs.GrammarOf.{GrammarOf}
use Rattle.tib_grammar.specs.Run.{rule_at}
use Rattle.tib_grammar.specs.declared.Rule.{Rule}
use Rattle.tib_grammar.proofs.Members.{has_at, at_has, has_left, has_right, has_either}
use Rattle.tib_grammar_file.specs.ByName.{HaveRules}
use Rattle.tib_grammar_file.specs.GrammarText.{first_text}
use Rattle.tib_grammar_file.proofs.PrintedRules.{Renames}
use Rattle.tib_grammar_file.proofs.PrintedLines.{rows_in}
use Rattle.tib_lex.proofs.Members.{has_contains}

pub contains_has : (xs : List (List ℕ)) (x : List ℕ) → Contains xs x → Has xs x
contains_has xs x c = subst (λ (y : List ℕ). Has xs y) c.2 (has_at xs c.0 x c.1)

-- a text is in a table or it is not
pub decided : (xs : List (List ℕ)) (t : List ℕ) → Has xs t ⊎ (Has xs t → ⊥)
decided [] t = inr (λ h. h)
decided (x ∷ xs) t = by (bytes_eq x t) (bytes_eq-Decides x t) (decided xs t)
  where
    by : (b : Bool) → Decides b (x ≡ t) → Has xs t ⊎ (Has xs t → ⊥) → Has (x ∷ xs) t ⊎ (Has (x ∷ xs) t → ⊥)
    by true d r = inl (inl (d.0 refl))
    by false d (inl h) = inl (inr h)
    by false d (inr n) = inr (λ h. elim h [ inl e ↦ (let bad : false ≡ true = d.1 e in cc) | inr k ↦ n k ])

-- the texts of a list, each once, after those of a table
pub gathered : (before texts : List (List ℕ)) → (now : List (List ℕ)) × AddsAll before texts now
gathered before [] = (before, refl)
gathered before (text ∷ texts) = by (decided before text) (λ b. gathered b texts)
  where
    by : Has before text ⊎ (Has before text → ⊥) → ((b : List (List ℕ)) → (now : List (List ℕ)) × AddsAll b texts now) → (now : List (List ℕ)) × AddsAll before (text ∷ texts) now
    by (inl h) more = let m = more before in (m.0, (before, inl (has_contains before text h, refl), m.1))
    by (inr n) more = let m = more (before ++ text ∷ []) in (m.0, (before ++ text ∷ [], inr (λ c. n (contains_has before text c), refl), m.1))

kept : (before : List (List ℕ)) (text : List ℕ) (now : List (List ℕ)) → Adds before text now → (t : List ℕ) → Has before t → Has now t
kept before text now (inl (held, e)) t h = subst (λ (xs : List (List ℕ)). Has xs t) (sym e) h
kept before text now (inr (new, e)) t h = subst (λ (xs : List (List ℕ)). Has xs t) (sym e) (has_left before (text ∷ []) t h)

added : (before : List (List ℕ)) (text : List ℕ) (now : List (List ℕ)) → Adds before text now → Has now text
added before text now (inl (held, e)) = subst (λ (xs : List (List ℕ)). Has xs text) (sym e) (contains_has before text held)
added before text now (inr (new, e)) = subst (λ (xs : List (List ℕ)). Has xs text) (sym e) (has_right before (text ∷ []) text (inl refl))

from : (before : List (List ℕ)) (text : List ℕ) (now : List (List ℕ)) → Adds before text now → (t : List ℕ) → Has now t → Has before t ⊎ (text ≡ t)
from before text now (inl (held, e)) t h = inl (subst (λ (xs : List (List ℕ)). Has xs t) e h)
from before text now (inr (new, e)) t h = elim (has_either before (text ∷ []) t (subst (λ (xs : List (List ℕ)). Has xs t) e h)) [
  | inl k ↦ inl k
  | inr k ↦ elim k [ inl same ↦ inr same | inr bad ↦ absurd bad ]
]

pub all_kept : (before texts now : List (List ℕ)) → AddsAll before texts now → (t : List ℕ) → Has before t → Has now t
all_kept before [] now e t h = subst (λ (xs : List (List ℕ)). Has xs t) (sym e) h
all_kept before (text ∷ texts) now (middle, adds, more) t h = all_kept middle texts now more t (kept before text middle adds t h)

pub all_added : (before texts now : List (List ℕ)) → AddsAll before texts now → (t : List ℕ) → Has texts t → Has now t
all_added before [] now e t h = absurd h
all_added before (text ∷ texts) now (middle, adds, more) t h = elim h [
  | inl same ↦ all_kept middle texts now more t (subst (λ (x : List ℕ). Has middle x) same (added before text middle adds))
  | inr k ↦ all_added middle texts now more t k
]

pub all_from : (before texts now : List (List ℕ)) → AddsAll before texts now → (t : List ℕ) → Has now t → Has before t ⊎ Has texts t
all_from before [] now e t h = inl (subst (λ (xs : List (List ℕ)). Has xs t) e h)
all_from before (text ∷ texts) now (middle, adds, more) t h = elim (all_from middle texts now more t h) [
  | inl k ↦ elim (from before text middle adds t k) [ inl b ↦ inl b | inr same ↦ inr (inl same) ]
  | inr k ↦ inr (inr k)
]

-- the first name stays the first
goes_on : (x : List ℕ) (before : List (List ℕ)) (text : List ℕ) (now : List (List ℕ)) → Adds (x ∷ before) text now → (rest : List (List ℕ)) × (now ≡ x ∷ rest)
goes_on x before text now (inl (held, e)) = (before, e)
goes_on x before text now (inr (new, e)) = (before ++ text ∷ [], e)

all_go_on : (x : List ℕ) (before texts now : List (List ℕ)) → AddsAll (x ∷ before) texts now → get_or now 0 [] ≡ x
all_go_on x before [] now e = ap (λ (xs : List (List ℕ)). get_or xs 0 []) e
all_go_on x before (text ∷ texts) now (middle, adds, more) =
    let g = goes_on x before text middle adds in
    all_go_on x g.0 texts now (subst (λ (xs : List (List ℕ)). AddsAll xs texts now) g.1 more)

pub starts_with : (x : List ℕ) (texts now : List (List ℕ)) → AddsAll [] (x ∷ texts) now → get_or now 0 [] ≡ x
starts_with x texts now (middle, inl (held, e), more) = absurd (omega (arith, held.1))
starts_with x texts now (middle, inr (new, e), more) = all_go_on x [] texts now (subst (λ (xs : List (List ℕ)). AddsAll xs texts now) e more)

-- the place of a text in a table
abbrev pub place : List (List ℕ) → List ℕ → ℕ
place [] t = 0
place (x ∷ xs) t = cond (bytes_eq x t) 0 (suc (place xs t))

pub placed : (xs : List (List ℕ)) (t : List ℕ) → Has xs t → slice_get xs (place xs t) ≡ Some t
placed [] t h = absurd h
placed (x ∷ xs) t h = by (bytes_eq x t) (bytes_eq-Decides x t) (λ k. placed xs t k)
  where
    by : (b : Bool) → Decides b (x ≡ t) → (Has xs t → slice_get xs (place xs t) ≡ Some t) → slice_get (x ∷ xs) (cond b 0 (suc (place xs t))) ≡ Some t
    by true d more = ap (λ (y : List ℕ). Some y) (d.0 refl)
    by false d more = elim h [ inl e ↦ (let bad : false ≡ true = d.1 e in cc) | inr k ↦ more k ]

-- the left states of rules, by their names
abbrev lefts : Scale → List (List ℕ) → List (List ℕ) → List (Rule ℕ) → List (List ℕ)
lefts scale names labels rules = map first_text (rows_in scale names labels rules)

has_left_of : (scale : Scale) (names labels : List (List ℕ)) (rules : List (Rule ℕ)) (n : ℕ) → n < length rules → Has (lefts scale names labels rules) (get_or names (rule_at rules n).left [])
has_left_of scale names labels [] n h = absurd (omega arith)
has_left_of scale names labels (r ∷ rules) zero h = inl refl
has_left_of scale names labels (r ∷ rules) (suc n) h = inr (has_left_of scale names labels rules n (omega arith))

lefts_from : (scale : Scale) (names labels : List (List ℕ)) (rules : List (Rule ℕ)) (t : List ℕ) → Each (λ (r : Rule ℕ). r.left < length names) rules → Has (lefts scale names labels rules) t → Has names t
lefts_from scale names labels [] t e h = absurd h
lefts_from scale names labels (r ∷ rules) t e h = elim h [
  | inl same ↦ subst (λ (x : List ℕ). Has names x) same (has_at names r.left [] e.0)
  | inr k ↦ lefts_from scale names labels rules t e.1 k
]

-- the names that the text has are those of the grammar
pub record SameNames (names others : List (List ℕ)) : Type 0 where
  pub to : (t : List ℕ) → Has names t → Has others t
  pub back : (t : List ℕ) → Has others t → Has names t
  pub start : get_or names 0 [] ≡ get_or others 0 []

held_name : (scale : Scale) (labels : List (List ℕ)) (g : GrammarOf) (others : List (List ℕ)) → HaveRules g → AddsAll [] (get_or g.names 0 [] ∷ lefts scale g.names labels g.rules) others → (q : ℕ) → q < length g.names → Has others (get_or g.names q [])
held_name scale labels g others have adds zero h = all_added [] (get_or g.names 0 [] ∷ lefts scale g.names labels g.rules) others adds (get_or g.names 0 []) (inl refl)
held_name scale labels g others have adds (suc q) h =
    let r = have (suc q) (omega arith) h in
    let stands : Has (lefts scale g.names labels g.rules) (get_or g.names (suc q) []) = subst (λ (p : ℕ). Has (lefts scale g.names labels g.rules) (get_or g.names p [])) r.2 (has_left_of scale g.names labels g.rules r.0 r.1) in
    all_added [] (get_or g.names 0 [] ∷ lefts scale g.names labels g.rules) others adds (get_or g.names (suc q) []) (inr stands)

pub same_names : (scale : Scale) (labels : List (List ℕ)) (g : GrammarOf) (others : List (List ℕ)) → 0 < length g.names → Each (λ (r : Rule ℕ). r.left < length g.names) g.rules → HaveRules g → AddsAll [] (get_or g.names 0 [] ∷ lefts scale g.names labels g.rules) others → SameNames g.names others
same_names scale labels g others some range have adds = record {
  to = λ t h. let at = at_has g.names t [] h in subst (λ (x : List ℕ). Has others x) at.2 (held_name scale labels g others have adds at.0 at.1);
  back = λ t h. elim (all_from [] (get_or g.names 0 [] ∷ lefts scale g.names labels g.rules) others adds t h) [
    | inl bad ↦ absurd bad
    | inr k ↦ elim k [
      | inl same ↦ subst (λ (x : List ℕ). Has g.names x) same (has_at g.names 0 [] some)
      | inr l ↦ lefts_from scale g.names labels g.rules t range l
    ]
  ];
  start = sym (starts_with (get_or g.names 0 []) (lefts scale g.names labels g.rules) others adds);
}

-- each state takes the number of its name
abbrev pub number_by : List (List ℕ) → List (List ℕ) → ℕ → ℕ
number_by names others q = place others (get_or names q [])

pub renames : (names others : List (List ℕ)) → SameNames names others → Renames names others (number_by names others)
renames names others s = record {
  to = λ q h. placed others (get_or names q []) (s.to (get_or names q []) (has_at names q [] h));
  back = λ t c. has_contains names t (s.back t (contains_has others t c));
}
