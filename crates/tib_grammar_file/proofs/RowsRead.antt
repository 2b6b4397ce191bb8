-- Lines that are read as rules, and the tokens that they have.
use Rattle.tib_tree.specs.Trees.{most_nodes}
use Rattle.tib_cost.specs.declared.Scale.{Scale}
use Rattle.std.proofs.Common.{◌≡◌, ℕ, ◌≤◌, inl, inr, List, [], ◌∷◌, length, refl, ap, sym, ◌∙◌, subst, arith, Option, Bool, true, false, cond, suc}
use Rattle.std.specs.Prelude.{Some, None, Result, Ok, Err, nat_lt}
use Rattle.std.proofs.lemmas.Bool.Decides.{nat_tests}
use Rattle.tib_lex.specs.Grammar.{Word, open_, close, hash, arrow, name, label, HasWords}
use Rattle.tib_lex.specs.Line.{words_of}
use Rattle.tib_lex.specs.Lines.{front, with_line}
use Rattle.tib_lex.specs.Lists.{Along, Each}
use Rattle.tib_lex.specs.declared.fault.FaultKind.{FaultKind}
use Rattle.tib_lex.specs.declared.fault.FaultKind.TheVariants as kinds
use Rattle.tib_lex.specs.declared.fault.FileFault.{FileFault}
use Rattle.tib_lex.proofs.HasWords.{words_read, words_had}
use Rattle.tib_grammar_file.specs.Rule.{has_dot, Parts, parts, SpellsRule, parts_of, RuleLine, rule_line_of, with_cost, good_parts, rule_in, rule_line}
use Rattle.tib_grammar_file.specs.Reading.{fault_at, start_of, plain_start, start_in, start_line, started, with_start, rules_from, grammar_from}
use Rattle.tib_grammar_file.specs.GrammarText.{HaveTokens}
use Rattle.tib_grammar_file.specs.Weight.{cost_of}
use Rattle.tib_grammar_file.proofs.RulesRead.{rule_back, rule_forth}
use Rattle.tib_grammar_file.proofs.Common.{cons_same, blank_line, Start, Whole}

-- the tokens of a rule line spell this rule
pub record IsRow (scale : Scale) (words : List Word) (line : RuleLine) : Type 0 where
  pub weight : Option (List ℕ)
  pub spelled : SpellsRule words (parts line.left line.nodes weight)
  pub cost : cost_of scale weight ≡ Ok line.cost

abbrev pub IsFew : RuleLine → Type 0
IsFew line = length line.nodes ≤ most_nodes

abbrev Line : Type 0
Line = Result (Option RuleLine) FaultKind

err_none : (kind : FaultKind) → (let r : Line = Err kind in r ≡ Ok None) → ⊥
err_none kind e = cc

err_some : (kind : FaultKind) (x : RuleLine) → (let r : Line = Err kind in r ≡ Ok (Some x)) → ⊥
err_some kind x e = cc

some_none : (x : RuleLine) → (let r : Line = Ok (Some x) in r ≡ Ok None) → ⊥
some_none x e = let f : Some x ≡ None = cc in cc

some_same : (x y : RuleLine) → (let r : Line = Ok (Some x) in r ≡ Ok (Some y)) → x ≡ y
some_same x y e = cc

few_not_none : (b : Bool) (x : RuleLine) → (let r : Line = cond b (Err kinds.TooManyNodes) (Ok (Some x)) in r ≡ Ok None) → ⊥
few_not_none true x e = err_none kinds.TooManyNodes e
few_not_none false x e = some_none x e

good_not_none : (scale : Scale) (o : Option Parts) → good_parts scale o ≡ Ok None → ⊥
good_not_none scale None e = err_none kinds.BadRule e
good_not_none scale (Some p) e = by (cost_of scale p.weight) e
  where
    by : (r : Result ℕ FaultKind) → with_cost p.left p.nodes r ≡ Ok None → ⊥
    by (Err kind) e = err_none kind e
    by (Ok cost) e = few_not_none (nat_lt most_nodes (length p.nodes)) (rule_line_of p.left p.nodes cost) e

pub blank_back : (scale : Scale) (line : List ℕ) → rule_line scale line ≡ Ok None → HasWords [] line
unfolding rule_line
blank_back scale line e = by (words_of line) refl e
  where
    by : (o : Option (List Word)) → words_of line ≡ o → rule_in scale o ≡ Ok None → HasWords [] line
    by None w e = absurd (err_none kinds.BadToken e)
    by (Some []) w e = words_had [] line w
    by (Some (word ∷ words)) w e = absurd (good_not_none scale (parts_of (word ∷ words)) e)

-- the parts of a rule that was read
record Good (scale : Scale) (o : Option Parts) (x : RuleLine) : Type 0 where
  pub p : Parts
  pub is : o ≡ Some p
  pub cost : ℕ
  pub costs : cost_of scale p.weight ≡ Ok cost
  pub same : rule_line_of p.left p.nodes cost ≡ x
  pub few : length p.nodes ≤ most_nodes

few_back : (n : ℕ) (b : Bool) (x y : RuleLine) → nat_lt most_nodes n ≡ b → (let r : Line = cond b (Err kinds.TooManyNodes) (Ok (Some x)) in r ≡ Ok (Some y)) → (x ≡ y) × (n ≤ most_nodes)
few_back n true x y h e = absurd (err_some kinds.TooManyNodes y e)
few_back n false x y h e = (some_same x y e, grind (arith, nat_tests))

good_back : (scale : Scale) (o : Option Parts) (x : RuleLine) → good_parts scale o ≡ Ok (Some x) → Good scale o x
good_back scale None x e = absurd (err_some kinds.BadRule x e)
good_back scale (Some p) x e = by (cost_of scale p.weight) refl e
  where
    by : (r : Result ℕ FaultKind) → cost_of scale p.weight ≡ r → with_cost p.left p.nodes r ≡ Ok (Some x) → Good scale (Some p) x
    by (Err kind) h e = absurd (err_some kind x e)
    by (Ok cost) h e =
        let f = few_back (length p.nodes) (nat_lt most_nodes (length p.nodes)) (rule_line_of p.left p.nodes cost) x refl e in
        record { p = p; is = refl; cost = cost; costs = h; same = f.0; few = f.1 }

-- a rule line that was read
pub record Row (scale : Scale) (line : List ℕ) (x : RuleLine) : Type 0 where
  pub word : Word
  pub words : List Word
  pub has : HasWords (word ∷ words) line
  pub is : IsRow scale (word ∷ words) x
  pub few : IsFew x

row_of : (scale : Scale) (words : List Word) (x : RuleLine) → Good scale (parts_of words) x → IsRow scale words x × IsFew x
row_of scale words x g =
    subst (λ (y : RuleLine). IsRow scale words y × IsFew y) g.same
    (record { weight = g.p.weight; spelled = rule_back words g.p g.is; cost = g.costs }, g.few)

pub row_back : (scale : Scale) (line : List ℕ) (x : RuleLine) → rule_line scale line ≡ Ok (Some x) → Row scale line x
unfolding rule_line
row_back scale line x e = by (words_of line) refl e
  where
    by : (o : Option (List Word)) → words_of line ≡ o → rule_in scale o ≡ Ok (Some x) → Row scale line x
    by None w e = absurd (err_some kinds.BadToken x e)
    by (Some []) w e = absurd (some_none x (sym e))
    by (Some (word ∷ words)) w e =
        let r = row_of scale (word ∷ words) x (good_back scale (parts_of (word ∷ words)) x e) in
        record { word = word; words = words; has = words_had (word ∷ words) line w; is = r.0; few = r.1 }

few_forth : (n : ℕ) (x : RuleLine) → n ≤ most_nodes → (let r : Line = cond (nat_lt most_nodes n) (Err kinds.TooManyNodes) (Ok (Some x)) in r ≡ Ok (Some x))
few_forth n x h = let t : nat_lt most_nodes n ≡ false = grind (arith, nat_tests) in rw t refl

pub row_forth : (scale : Scale) (line : List ℕ) (word : Word) (words : List Word) (x : RuleLine) → HasWords (word ∷ words) line → IsRow scale (word ∷ words) x → IsFew x → rule_line scale line ≡ Ok (Some x)
unfolding rule_line
row_forth scale line word words x h r f =
    ap (rule_in scale) (words_read (word ∷ words) line h)
    ∙ ap (good_parts scale) (rule_forth (word ∷ words) (parts x.left x.nodes r.weight) r.spelled)
    ∙ ap (with_cost x.left x.nodes) r.cost
    ∙ few_forth (length x.nodes) x f

-- rows of tokens that spell these rules
pub record Rows (scale : Scale) (lines : List (List ℕ)) (rules : List RuleLine) : Type 0 where
  pub rows : List (List Word)
  pub tokens : HaveTokens lines rows
  pub are : Along (IsRow scale) rows rules
  pub few : Each IsFew rules

abbrev Lines : Type 0
Lines = Result (List RuleLine) FileFault

ok_same : (xs ys : List RuleLine) → (let r : Lines = Ok xs in r ≡ Ok ys) → xs ≡ ys
ok_same xs ys e = cc

err_ok : (f : FileFault) (ys : List RuleLine) → (let r : Lines = Err f in r ≡ Ok ys) → ⊥
err_ok f ys e = cc

rows_same : (scale : Scale) (lines : List (List ℕ)) (xs ys : List RuleLine) → xs ≡ ys → Rows scale lines xs → Rows scale lines ys
rows_same scale lines xs ys e r = subst (λ (zs : List RuleLine). Rows scale lines zs) e r

more_rows : (scale : Scale) (n : ℕ) (line : List ℕ) (lines : List (List ℕ)) (rules : List RuleLine) (r : Line) (more : Lines) → ((rs : List RuleLine) → more ≡ Ok rs → Rows scale lines rs) → rule_line scale line ≡ r → with_line n r more ≡ Ok rules → Rows scale (line ∷ lines) rules
more_rows scale n line lines rules (Err kind) more rest h e = absurd (err_ok (fault_at n kind) rules e)
more_rows scale n line lines rules (Ok None) more rest h e =
    let r = rest rules e in
    record { rows = r.rows; tokens = inl (blank_back scale line h, r.tokens); are = r.are; few = r.few }
more_rows scale n line lines rules (Ok (Some x)) (Err f) rest h e = absurd (err_ok f rules e)
more_rows scale n line lines rules (Ok (Some x)) (Ok rs) rest h e =
    let r = rest rs refl in
    let b = row_back scale line x h in
    rows_same scale (line ∷ lines) (x ∷ rs) rules (ok_same (x ∷ rs) rules e)
    (record { rows = (b.word ∷ b.words) ∷ r.rows; tokens = inr (b.word, b.words, r.rows, b.has, refl, r.tokens); are = (b.is, r.are); few = (b.few, r.few) })

pub rows_back : (scale : Scale) (n : ℕ) (lines : List (List ℕ)) (rules : List RuleLine) → rules_from scale n lines ≡ Ok rules → Rows scale lines rules
rows_back scale n [] rules e = rows_same scale [] [] rules (ok_same [] rules e) (record { rows = []; tokens = refl; are = tt; few = tt })
rows_back scale n (line ∷ lines) rules e =
    more_rows scale n line lines rules (rule_line scale line) (rules_from scale (suc n) lines) (λ rs h. rows_back scale (suc n) lines rs h) refl e

pub rows_forth : (scale : Scale) (n : ℕ) (lines : List (List ℕ)) (rows : List (List Word)) (rules : List RuleLine) → HaveTokens lines rows → Along (IsRow scale) rows rules → Each IsFew rules → rules_from scale n lines ≡ Ok rules
rows_forth scale n [] rows rules t a f = none rules (subst (λ (rs : List (List Word)). Along (IsRow scale) rs rules) t a)
  where
    none : (rules : List RuleLine) → Along (IsRow scale) [] rules → (let r : Lines = Ok [] in r ≡ Ok rules)
    none [] a = refl
    none (x ∷ rules) a = absurd a
rows_forth scale n (line ∷ lines) rows rules (inl (blank, t)) a f =
    ap (λ r. with_line n r (rules_from scale (suc n) lines)) (blank_line scale line blank) ∙ rows_forth scale (suc n) lines rows rules t a f
rows_forth scale n (line ∷ lines) rows [] (inr (word, words, more, has, e, t)) a f = absurd (subst (λ (rs : List (List Word)). Along (IsRow scale) rs []) e a)
rows_forth scale n (line ∷ lines) rows (x ∷ rules) (inr (word, words, more, has, e, t)) a f =
    let b : Along (IsRow scale) ((word ∷ words) ∷ more) (x ∷ rules) = subst (λ (rs : List (List Word)). Along (IsRow scale) rs (x ∷ rules)) e a in
    ap (λ r. with_line n r (rules_from scale (suc n) lines)) (row_forth scale line word words x has b.0 f.0)
    ∙ ap (front (x ∷ [])) (rows_forth scale (suc n) lines more rules t b.1 f.1)

start_err : (kind : FaultKind) (o : Option (List ℕ)) → (let r : Start = Err kind in r ≡ Ok o) → ⊥
start_err kind o e = cc

start_same : (s t : List ℕ) → (let r : Start = Ok (Some s) in r ≡ Ok (Some t)) → s ≡ t
start_same s t e = cc

start_none : (s : List ℕ) → (let r : Start = Ok (Some s) in r ≡ Ok None) → ⊥
start_none s e = let f : Some s ≡ None = cc in cc

plain_back : (o : Option (List ℕ)) (s : List ℕ) → plain_start o ≡ Ok (Some s) → (o ≡ Some s) × (has_dot s ≡ false)
plain_back None s e = absurd (start_err kinds.BadRule (Some s) e)
plain_back (Some t) s e = by (has_dot t) refl e
  where
    by : (b : Bool) → has_dot t ≡ b → (let r : Start = cond b (Err kinds.BadRule) (Ok (Some t)) in r ≡ Ok (Some s)) → (Some t ≡ Some s) × (has_dot s ≡ false)
    by true h e = absurd (start_err kinds.BadRule (Some s) e)
    by false h e = let same : t ≡ s = start_same t s e in (ap Some same, subst (λ (u : List ℕ). has_dot u ≡ false) same h)

plain_not_none : (o : Option (List ℕ)) → plain_start o ≡ Ok None → ⊥
plain_not_none None e = start_err kinds.BadRule None e
plain_not_none (Some t) e = by (has_dot t) e
  where
    by : (b : Bool) → (let r : Start = cond b (Err kinds.BadRule) (Ok (Some t)) in r ≡ Ok None) → ⊥
    by true e = start_err kinds.BadRule None e
    by false e = start_none t e

text_same : (s t : List ℕ) → Some s ≡ Some t → s ≡ t
text_same s t e = cc

start_words : (words : List Word) (s : List ℕ) → start_of words ≡ Some s → words ≡ name s ∷ []
start_words [] s e = let bad : None ≡ Some s = e in cc
start_words (open_ ∷ words) s e = let bad : None ≡ Some s = e in cc
start_words (close ∷ words) s e = let bad : None ≡ Some s = e in cc
start_words (hash ∷ words) s e = let bad : None ≡ Some s = e in cc
start_words (arrow ∷ words) s e = let bad : None ≡ Some s = e in cc
start_words (label t ∷ words) s e = let bad : None ≡ Some s = e in cc
start_words (name t ∷ []) s e = ap (λ (u : List ℕ). name u ∷ []) (text_same t s e)
start_words (name t ∷ (w ∷ words)) s e = let bad : None ≡ Some s = e in cc

pub start_back : (line s : List ℕ) → start_line line ≡ Ok (Some s) → HasWords (name s ∷ []) line × (has_dot s ≡ false)
unfolding start_line
start_back line s e = by (words_of line) refl e
  where
    by : (o : Option (List Word)) → words_of line ≡ o → start_in o ≡ Ok (Some s) → HasWords (name s ∷ []) line × (has_dot s ≡ false)
    by None w e = absurd (start_err kinds.BadToken (Some s) e)
    by (Some []) w e = absurd (start_none s (sym e))
    by (Some (word ∷ words)) w e =
        let p = plain_back (start_of (word ∷ words)) s e in
        (words_had (name s ∷ []) line (w ∙ ap Some (start_words (word ∷ words) s p.0)), p.1)

pub no_start_back : (line : List ℕ) → start_line line ≡ Ok None → HasWords [] line
unfolding start_line
no_start_back line e = by (words_of line) refl e
  where
    by : (o : Option (List Word)) → words_of line ≡ o → start_in o ≡ Ok None → HasWords [] line
    by None w e = absurd (start_err kinds.BadToken None e)
    by (Some []) w e = words_had [] line w
    by (Some (word ∷ words)) w e = absurd (plain_not_none (start_of (word ∷ words)) e)

pub start_forth : (line s : List ℕ) → HasWords (name s ∷ []) line → has_dot s ≡ false → start_line line ≡ Ok (Some s)
unfolding start_line
start_forth line s h d = ap start_in (words_read (name s ∷ []) line h) ∙ rw d refl

pub no_start_forth : (line : List ℕ) → HasWords [] line → start_line line ≡ Ok None
unfolding start_line
no_start_forth line h = ap start_in (words_read [] line h)

-- a start and rules, and the tokens that spell them
pub record Begun (scale : Scale) (lines : List (List ℕ)) (start : List ℕ) (rules : List RuleLine) : Type 0 where
  pub rows : List (List Word)
  pub tokens : HaveTokens lines ((name start ∷ []) ∷ rows)
  pub plain : has_dot start ≡ false
  pub are : Along (IsRow scale) rows rules
  pub few : Each IsFew rules

whole_err : (f : FileFault) (p : List ℕ × List RuleLine) → (let r : Whole = Err f in r ≡ Ok p) → ⊥
whole_err f p e = cc

whole_same : (p q : List ℕ × List RuleLine) → (let r : Whole = Ok p in r ≡ Ok q) → p ≡ q
whole_same p q e = cc

more_begun : (scale : Scale) (n : ℕ) (line : List ℕ) (lines : List (List ℕ)) (start : List ℕ) (rules : List RuleLine) (r : Start) (rest : Lines) (more : Whole) → ((rs : List RuleLine) → rest ≡ Ok rs → Rows scale lines rs) → (more ≡ Ok (start, rules) → Begun scale lines start rules) → start_line line ≡ r → with_start n r rest more ≡ Ok (start, rules) → Begun scale (line ∷ lines) start rules
more_begun scale n line lines start rules (Err kind) rest more behind go h e = absurd (whole_err (fault_at n kind) (start, rules) e)
more_begun scale n line lines start rules (Ok None) rest more behind go h e =
    let b = go e in
    record { rows = b.rows; tokens = inl (no_start_back line h, b.tokens); plain = b.plain; are = b.are; few = b.few }
more_begun scale n line lines start rules (Ok (Some s)) (Err f) more behind go h e = absurd (whole_err f (start, rules) e)
more_begun scale n line lines start rules (Ok (Some s)) (Ok rs) more behind go h e =
    let same : (s, rs) ≡ (start, rules) = whole_same (s, rs) (start, rules) e in
    let r = behind rs refl in
    let t = start_back line s h in
    let b : Begun scale (line ∷ lines) s rs = record { rows = r.rows; tokens = inr (name s, [], r.rows, t.0, refl, r.tokens); plain = t.1; are = r.are; few = r.few } in
    subst (λ (p : List ℕ × List RuleLine). Begun scale (line ∷ lines) p.0 p.1) same b

pub begun_back : (scale : Scale) (n : ℕ) (lines : List (List ℕ)) (start : List ℕ) (rules : List RuleLine) → grammar_from scale n lines ≡ Ok (start, rules) → Begun scale lines start rules
begun_back scale n [] start rules e = absurd (whole_err (fault_at 1 kinds.NoStart) (start, rules) e)
begun_back scale n (line ∷ lines) start rules e =
    more_begun scale n line lines start rules (start_line line) (rules_from scale (suc n) lines) (grammar_from scale (suc n) lines)
    (λ rs h. rows_back scale (suc n) lines rs h) (λ h. begun_back scale (suc n) lines start rules h) refl e

pub begun_forth : (scale : Scale) (n : ℕ) (lines : List (List ℕ)) (start : List ℕ) (rows : List (List Word)) (rules : List RuleLine) → HaveTokens lines ((name start ∷ []) ∷ rows) → has_dot start ≡ false → Along (IsRow scale) rows rules → Each IsFew rules → grammar_from scale n lines ≡ Ok (start, rules)
begun_forth scale n [] start rows rules t d a f = let bad : (name start ∷ []) ∷ rows ≡ [] = t in cc
begun_forth scale n (line ∷ lines) start rows rules (inl (blank, t)) d a f =
    ap (λ r. with_start n r (rules_from scale (suc n) lines) (grammar_from scale (suc n) lines)) (no_start_forth line blank)
    ∙ begun_forth scale (suc n) lines start rows rules t d a f
begun_forth scale n (line ∷ lines) start rows rules (inr (word, words, more, has, e, t)) d a f =
    let s = cons_same (name start ∷ []) (word ∷ words) rows more e in
    let h : HasWords (name start ∷ []) line = subst (λ (ws : List Word). HasWords ws line) (sym s.0) has in
    let u : HaveTokens lines rows = subst (λ (rs : List (List Word)). HaveTokens lines rs) (sym s.1) t in
    ap (λ r. with_start n r (rules_from scale (suc n) lines) (grammar_from scale (suc n) lines)) (start_forth line start h d)
    ∙ ap (started start) (rows_forth scale (suc n) lines rows rules u a f)
