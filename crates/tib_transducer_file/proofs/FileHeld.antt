-- What a file holds that was read, whatever the right sides of its rules are, and whatever is made
-- of them.
use Rattle.tib_cost.specs.declared.Scale.{Scale}
use Rattle.std.proofs.Common.{◌≡◌, ℕ, ◌+◌, inl, inr, List, [], ◌∷◌, ◌++◌, length, drop, refl, ap, sym, ◌∙◌, subst, arith, Option, Bool, true, false, suc}
use Rattle.std.specs.Prelude.{Some, None, Result, Ok, Err, nat_eq, nat_lt, cond, not, ◌==◌, ◌&&◌}
use Rattle.std.specs.List.{list_any}
use Rattle.std.proofs.lemmas.Bool.Decides.{nat_tests}
use Rattle.tib_lex.specs.Grammar.{Word, is_name}
use Rattle.tib_lex.specs.Lines.{lines_of, front, with_line, each_line}
use Rattle.tib_lex.specs.Lists.{Each}
use Rattle.tib_lex.specs.declared.fault.FaultKind.{FaultKind}
use Rattle.tib_lex.specs.declared.fault.FileFault.{FileFault}
use Rattle.tib_lex.proofs.Names.{name_is}
use Rattle.tib_lex.proofs.Spelled.{and_true}
use Rattle.tib_lex.proofs.Quotes.{ne-eqb}
use Rattle.tib_tree.specs.Grows.{Adds}
use Rattle.tib_tree.specs.Written.{Item}
use Rattle.tib_grammar.specs.StateName.{IsStateName, AreStateNames}
use Rattle.tib_grammar_file.specs.Reading.{start_line, started, with_start}
use Rattle.tib_grammar_file.proofs.TextRead.{all_names}
use Rattle.tib_lex.specs.declared.fault.ReadError.{ReadError}
use Rattle.tib_lex.specs.declared.fault.ReadError.TheVariants as errors
use Rattle.std.specs.Global.{Vec}
use Rattle.tib_transducer_file.specs.declared.start.Begun.{Begun}
use Rattle.tib_transducer_file.specs.Begins.{Began, IsBegun}
use Rattle.tib_transducer_file.specs.Built.{AreFileRules}
use Rattle.tib_transducer_file.specs.Faults.{IsCauseBy}
use Rattle.tib_transducer_file.proofs.FirstFaults.{fault_is_first}
use Rattle.tib_grammar_file.proofs.RowsRead.{start_back, no_start_back}
use Rattle.tib_transducer_file.specs.Forms.{stop_at, before_stop, behind_stop, is_root, is_number, number_of, leaf_text, pair_of, pair_if, pair_in}
use Rattle.tib_transducer_file.specs.Rule.{RuleLine, rule_line_by, state_of}
use Rattle.tib_transducer_file.specs.Value.{states_in, states_of, state_before}
use Rattle.tib_transducer_file.specs.Reading.{file_from}
use Rattle.tib_transducer_file.specs.TransducerText.{HaveRulesBy}
use Rattle.tib_transducer_file.specs.FileHeld.{IsFew, IsNamed, FileHeld, FileReadBy}
use Rattle.tib_transducer_file.proofs.TextRead.{LineHolds, line_holds}
use Rattle.tib_transducer_file.specs.Formats.{IsFormat}

-- the rules
front_back : (x : RuleLine) (r : Result (List RuleLine) FileFault) (rules : List RuleLine) → front (x ∷ []) r ≡ Ok rules → (more : List RuleLine) × (r ≡ Ok more) × (rules ≡ x ∷ more)
front_back x (Ok more) rules e = (more, refl, cc)
front_back x (Err f) rules e = let bad : ◌≡◌ {A = Result (List RuleLine) FileFault} (Err f) (Ok rules) = e in absurd (cc)

-- lines that hold rules
pub record Held (Right : List Word → List Item → Type 0) (scale : Scale) (lines : List (List ℕ)) (rules : List RuleLine) : Type 0 where
  pub have : HaveRulesBy Right scale lines rules
  pub few : Each IsFew rules
  pub named : Each IsNamed rules

-- names before a full stop
no_stop_front : (text : List ℕ) → list_any (nat_eq 46) (before_stop text) ≡ false
no_stop_front [] = refl
no_stop_front (b ∷ text) = by (b == 46) refl (no_stop_front text)
  where
    turned : (a : ℕ) → (a == 46) ≡ false → nat_eq 46 a ≡ false
    turned a e = ne-eqb 46 a (λ k. let t : (a == 46) ≡ true = grind (arith, nat_tests) in let bad : true ≡ false = sym t ∙ e in cc)

    by : (c : Bool) → (b == 46) ≡ c → list_any (nat_eq 46) (before_stop text) ≡ false → list_any (nat_eq 46) (before_stop (b ∷ text)) ≡ false
    by true e ih = rw e refl
    by false e ih = let n : 1 + stop_at text ≡ suc (stop_at text) = omega arith in rw (e, n) (let t = turned b e in rw t ih)

front_name : (text : List ℕ) → is_name (before_stop text) ≡ true → IsStateName (before_stop text)
front_name text e = record { is_name = name_is (before_stop text) e; no_stop = no_stop_front text }

state_name : (line : RuleLine) → IsNamed line → IsStateName (state_of line.parts)
state_name line e =
    let a = and_true (not line.parts.root.quoted) (is_root line.parts.root.text) e in
    let b = and_true (is_name (before_stop line.parts.root.text)) (nat_lt 0 (length (behind_stop line.parts.root.text))) a.1 in
    front_name line.parts.root.text b.0

pair_cond : (text : List ℕ) (b : Bool) (q : List ℕ × ℕ) → (is_name (before_stop text) && is_number (behind_stop text)) ≡ b → cond b (Some (before_stop text, number_of (behind_stop text))) None ≡ Some q → IsStateName q.0
pair_cond text false q e h = let bad : None ≡ Some q = h in absurd (cc)
pair_cond text true q e h =
    let a = and_true (is_name (before_stop text)) (is_number (behind_stop text)) e in
    let same : before_stop text ≡ q.0 = first_same (before_stop text) (number_of (behind_stop text)) q h in
    subst IsStateName same (front_name text a.0)
  where
    first_same : (x : List ℕ) (n : ℕ) (p : List ℕ × ℕ) → Some (x, n) ≡ Some p → x ≡ p.0
    first_same x n p k = let s : (x, n) ≡ p = cc in ap (λ (z : List ℕ × ℕ). z.0) s

pair_text : (text : List ℕ) (q : List ℕ × ℕ) → pair_of text ≡ Some q → IsStateName q.0
unfolding pair_of
pair_text text q e = pair_cond text (is_name (before_stop text) && is_number (behind_stop text)) q refl e

pair_name : (o : Option (List ℕ)) (q : List ℕ × ℕ) → pair_if o ≡ Some q → IsStateName q.0
pair_name None q e = let bad : None ≡ Some q = e in absurd (cc)
pair_name (Some text) q e = pair_text text q e

items_more : (i : Item) (o : Option (List ℕ × ℕ)) (is : List Item) (more : List (List ℕ)) → pair_in i ≡ o → Each IsStateName (states_in is ++ more) → Each IsStateName (state_before o (states_in is) ++ more)
items_more i None is more e h = h
items_more i (Some q) is more e h = (pair_name (leaf_text i.quoted i.kids i.text) q e, h)

items_named : (is : List Item) (more : List (List ℕ)) → Each IsStateName more → Each IsStateName (states_in is ++ more)
items_named [] more h = h
items_named (i ∷ is) more h = items_more i (pair_in i) is more refl (items_named is more h)

lines_named : (lines : List RuleLine) → Each IsNamed lines → Each IsStateName (states_of lines)
lines_named [] h = tt
lines_named (line ∷ lines) h = (state_name line h.0, items_named line.parts.right (states_of lines) (lines_named lines h.1))

-- the whole file
abbrev Whole : Type 0
Whole = Result (List ℕ × List RuleLine) FileFault

whole_err : (f : FileFault) (x : List ℕ × List RuleLine) → ◌≡◌ {A = Whole} (Err f) (Ok x) → ⊥
whole_err f x e = cc

whole_same : (x y : List ℕ × List RuleLine) → ◌≡◌ {A = Whole} (Ok x) (Ok y) → x ≡ y
whole_same x y e = cc

module _ {Right : List Word → List Item → Type 0} {read : List Word → Option (List Item)} (format : IsFormat Right read) where
  one_held : (scale : Scale) (n : ℕ) (line : List ℕ) (lines : List (List ℕ)) (r : Result (Option RuleLine) FaultKind) (more : Result (List RuleLine) FileFault) (rules : List RuleLine) → LineHolds Right scale line r → ((rs : List RuleLine) → more ≡ Ok rs → Held Right scale lines rs) → with_line n r more ≡ Ok rules → Held Right scale (line ∷ lines) rules
  one_held scale n line lines (Err kind) more rules h ih e = let bad : ◌≡◌ {A = Result (List RuleLine) FileFault} (Err (record { line = n; kind = kind })) (Ok rules) = e in absurd (cc)
  one_held scale n line lines (Ok None) more rules h ih e = let r = ih rules e in record { have = inl (h, r.have); few = r.few; named = r.named }
  one_held scale n line lines (Ok (Some x)) more rules h ih e =
      let f = front_back x more rules e in
      let r = ih f.0 f.1 in
      record {
        have = inr (x, f.0, f.2, h.0, r.have);
        few = subst (λ (rs : List RuleLine). Each IsFew rs) (sym f.2) (h.1, r.few);
        named = subst (λ (rs : List RuleLine). Each IsNamed rs) (sym f.2) (h.0.parts.spells.state, r.named);
      }

  rules_held : (scale : Scale) (n : ℕ) (lines : List (List ℕ)) (rules : List RuleLine) → each_line (rule_line_by read scale) n lines ≡ Ok rules → Held Right scale lines rules
  rules_held scale n [] rules e = let none : [] ≡ rules = cc in record { have = sym none; few = subst (λ (rs : List RuleLine). Each IsFew rs) none tt; named = subst (λ (rs : List RuleLine). Each IsNamed rs) none tt }
  rules_held scale n (line ∷ lines) rules e = one_held scale n line lines (rule_line_by read scale line) (each_line (rule_line_by read scale) (suc n) lines) rules (line_holds format scale line) (rules_held scale (suc n) lines) e

  begun : (scale : Scale) (n : ℕ) (line : List ℕ) (lines : List (List ℕ)) (start : List ℕ) (rules : List RuleLine) (r : Result (Option (List ℕ)) FaultKind) (rs : Result (List RuleLine) FileFault) (more : Whole) → start_line line ≡ r → ((ds : List RuleLine) → rs ≡ Ok ds → Held Right scale lines ds) → (more ≡ Ok (start, rules) → FileHeld Right scale lines start rules) → with_start n r rs more ≡ Ok (start, rules) → FileHeld Right scale (line ∷ lines) start rules
  begun scale n line lines start rules (Err kind) rs more h behind go e = absurd (whole_err (record { line = n; kind = kind }) (start, rules) e)
  begun scale n line lines start rules (Ok None) rs more h behind go e = let b = go e in record { have = inl (no_start_back line h, b.have); few = b.few; named = b.named; name = b.name }
  begun scale n line lines start rules (Ok (Some s)) (Err f) more h behind go e = absurd (whole_err f (start, rules) e)
  begun scale n line lines start rules (Ok (Some s)) (Ok ds) more h behind go e =
      let same : (s, ds) ≡ (start, rules) = whole_same (s, ds) (start, rules) e in
      let d = behind ds refl in
      let t = start_back line s h in
      let there : FileHeld Right scale (line ∷ lines) s ds = record { have = inr (t.0, t.1, d.have); few = d.few; named = d.named; name = record { is_name = t.0.are.1.is_word; no_stop = t.1 } } in
      subst (λ (x : List ℕ × List RuleLine). FileHeld Right scale (line ∷ lines) x.0 x.1) same there

  -- a file that is read without a fault has them
  pub file_held : (scale : Scale) (n : ℕ) (lines : List (List ℕ)) (start : List ℕ) (rules : List RuleLine) → file_from (rule_line_by read scale) n lines ≡ Ok (start, rules) → FileHeld Right scale lines start rules
  file_held scale n [] start rules e = absurd (whole_err _ (start, rules) e)
  file_held scale n (line ∷ lines) start rules e =
      begun scale n line lines start rules (start_line line) (each_line (rule_line_by read scale) (suc n) lines) (file_from (rule_line_by read scale) (suc n) lines) refl (rules_held scale (suc n) lines) (file_held scale (suc n) lines start rules) e

  -- the file, by its start and its rules
  pub file_read : {R : Type 0} (Is : List (List ℕ) → List (List ℕ) → R → RuleLine → Type 0) (w v : Scale) (bytes : List ℕ) (before first names held labels : List (List ℕ)) (b : Begun) (rules : Vec R) → v ≡ w → before ≡ [] → Began bytes before first b → AreFileRules Is first names held labels (Ok rules) (each_line (rule_line_by read v) b.number (lines_of (drop b.at bytes))) → FileReadBy Right Is w bytes names labels rules.items
  file_read Is w v bytes before first names held labels b rules same empty g (lines, gave, are, added, texts) =
      let e : file_from (rule_line_by read w) 1 (lines_of bytes) ≡ Ok (g.start, lines) = g.read (rule_line_by read w) ∙ ap (λ (x : Scale). started g.start (each_line (rule_line_by read x) b.number (lines_of (drop b.at bytes)))) (sym same) ∙ ap (started g.start) gave in
      record {
        start = g.start;
        lines = lines;
        held = file_held w 1 (lines_of bytes) g.start lines e;
        added = (first, subst (λ (x : List (List ℕ)). Adds x g.start first) empty g.adds, added);
        rules_are = are;
      }

  -- its states have names
  pub names_sound : {R : Type 0} (Is : List (List ℕ) → List (List ℕ) → R → RuleLine → Type 0) (scale : Scale) (bytes : List ℕ) (names labels : List (List ℕ)) (rules : List R) → FileReadBy Right Is scale bytes names labels rules → AreStateNames names
  names_sound Is scale bytes names labels rules f = all_names [] (f.start ∷ states_of f.lines) names f.added (record { each = tt; distinct = tt }) (f.held.name, lines_named f.lines f.held.named)

  -- a fault of the start
  pub begun_fault : (scale : Scale) (bytes : List ℕ) (before first : List (List ℕ)) (e : ReadError) → IsBegun bytes before first (Err e) → IsCauseBy Right scale bytes e
  begun_fault scale bytes before first (errors.Fault fault) h = fault_is_first format scale bytes fault (h (rule_line_by read scale))
  begun_fault scale bytes before first errors.OutOfMemory h = tt

  -- and of the rules
  pub rules_fault : {R : Type 0} (Is : List (List ℕ) → List (List ℕ) → R → RuleLine → Type 0) (w v : Scale) (bytes : List ℕ) (before first names held labels : List (List ℕ)) (b : Begun) (e : ReadError) → v ≡ w → Began bytes before first b → AreFileRules Is first names held labels (Err e) (each_line (rule_line_by read v) b.number (lines_of (drop b.at bytes))) → IsCauseBy Right w bytes e
  rules_fault Is w v bytes before first names held labels b (errors.Fault fault) same g h = fault_is_first format w bytes fault (g.read (rule_line_by read w) ∙ ap (λ (x : Scale). started g.start (each_line (rule_line_by read x) b.number (lines_of (drop b.at bytes)))) (sym same) ∙ ap (started g.start) h)
  rules_fault Is w v bytes before first names held labels b errors.OutOfMemory same g h = tt
