-- What is read from a file without a fault is the text of some grammar.
use Rattle.tib_cost.specs.declared.Scale.{Scale}
use Rattle.std.proofs.Common.{◌≡◌, ℕ, ◌⊎◌, inl, inr, Bool, true, false, List, [], ◌∷◌, ◌++◌, map, refl, ap, sym, ◌∙◌, subst, Option}
use Rattle.std.specs.Prelude.{Some, None, Result, Ok, Err, slice_get}
use Rattle.std.proofs.lemmas.Option.{slice_get-get_or}
use Rattle.tib_lex.specs.Lines.{lines_of}
use Rattle.tib_lex.specs.Lists.{Along, Each, Has, Distinct}
use Rattle.tib_lex.specs.declared.fault.FileFault.{FileFault}
use Rattle.tib_tree.specs.Grows.{Adds, AddsAll}
use Rattle.tib_tree.specs.Nodes.{rank_of}
use Rattle.tib_tree.specs.Trees.{preorder_of}
use Rattle.tib_tree.specs.Written.{Item, items}
use Rattle.tib_grammar.specs.GrammarOf.{GrammarOf}
use Rattle.tib_grammar.specs.Sides.{Symbol, label, hole}
use Rattle.tib_grammar.specs.declared.Rule.{Rule}
use Rattle.tib_grammar.proofs.Members.{at_has, has_left, has_right, distinct_more}
use Rattle.tib_grammar_file.specs.Faults.{IsFirstFault}
use Rattle.tib_grammar_file.specs.FaultLaws.{IsSomeText}
use Rattle.tib_grammar_file.specs.Reading.{grammar_of}
use Rattle.tib_grammar_file.specs.Resolve.{IsOneTree, IsSmallTree}
use Rattle.tib_grammar_file.specs.Rule.{RuleLine}
use Rattle.tib_grammar_file.specs.Value.{IsStateLeaf, IsSymbol, IsNode, IsRule, IsGrammarOf, left_of}
use Rattle.tib_grammar_file.proofs.FirstFaults.{faults_exact}
use Rattle.tib_grammar_file.proofs.Meanings.{grown}
use Rattle.tib_grammar_file.proofs.PrintedStates.{decided, gathered, contains_has, all_added}
use Rattle.tib_grammar_file.proofs.Resolved.{one_tree}
use Rattle.tib_grammar_file.proofs.RowsRead.{begun_back}
use Rattle.tib_grammar_file.proofs.TextRead.{all_small, text_back, small_back}
use Rattle.tib_lex.proofs.Members.{has_contains}

-- a text of a table has a number
pub numbered : (xs : List (List ℕ)) (t : List ℕ) → Has xs t → (n : ℕ) × (slice_get xs n ≡ Some t)
numbered xs t h = let a = at_has xs t [] h in (a.0, slice_get-get_or xs a.0 [] a.1 ∙ ap Some a.2)

-- a node stands for a state or a label
symbol : (names labels : List (List ℕ)) (i : Item) → Has labels i.text → (s : Symbol ℕ ℕ) × IsSymbol names labels s i
symbol names labels i h = by i.quoted i.kids refl refl
  where
    as_label : (IsStateLeaf names i → ⊥) → (s : Symbol ℕ ℕ) × IsSymbol names labels s i
    as_label other = let n = numbered labels i.text h in (label n.0, (other, n.1))

    as_state : i.quoted ≡ false → i.kids ≡ None → Has names i.text ⊎ (Has names i.text → ⊥) → (s : Symbol ℕ ℕ) × IsSymbol names labels s i
    as_state q k (inl held) = let n = numbered names i.text held in (hole n.0, (record { plain = q; leaf = k; held = has_contains names i.text held }, n.1))
    as_state q k (inr other) = as_label (λ l. other (contains_has names i.text l.held))

    by : (q : Bool) (k : Option ℕ) → i.quoted ≡ q → i.kids ≡ k → (s : Symbol ℕ ℕ) × IsSymbol names labels s i
    by true k e f = as_label (λ l. let bad : true ≡ false = sym e ∙ l.plain in cc)
    by false (Some n) e f = as_label (λ l. let bad : Some n ≡ None = sym f ∙ l.leaf in cc)
    by false None e f = as_state e f (decided names i.text)

abbrev HaveTexts : List (List ℕ) → List Item → Type 0
HaveTexts labels is = Each (λ (i : Item). Has labels i.text) is

nodes : (names labels : List (List ℕ)) (is : List Item) → HaveTexts labels is → (ps : List (Symbol ℕ ℕ × ℕ)) × Along (IsNode names labels) ps is
nodes names labels [] h = ([], tt)
nodes names labels (i ∷ is) h =
    let s = symbol names labels i h.0 in
    let more = nodes names labels is h.1 in
    ((s.0, rank_of i.kids) ∷ more.0, ((s.1, refl), more.1))

-- a line with one tree stands for a rule
a_rule : (names labels : List (List ℕ)) (line : RuleLine) → IsOneTree line.nodes → Has names line.left → HaveTexts labels line.nodes → (r : Rule ℕ) × IsRule names labels r line
a_rule names labels line t held h =
    let ps = nodes names labels (items t.tree) (subst (λ (is : List Item). HaveTexts labels is) (sym t.nodes) h) in
    let g = grown names labels t.tree ps.0 ps.1 in
    let o = one_tree g.trees (g.many ∙ t.one) in
    let n = numbered names line.left held in
    let right : Along (IsNode names labels) (preorder_of o.0) line.nodes =
    subst (λ (is : List Item). Along (IsNode names labels) (preorder_of o.0) is) t.nodes
    (subst (λ (xs : List (Symbol ℕ ℕ × ℕ)). Along (IsNode names labels) xs (items t.tree)) (sym (o.2 ∙ g.order)) ps.1) in
    (record { left = n.0; right = o.0; cost = line.cost }, record { left = n.1; right = right; cost = refl })

some_rules : (names labels : List (List ℕ)) (lines : List RuleLine) → Each IsSmallTree lines → Each (λ (l : RuleLine). Has names l.left) lines → Each (λ (l : RuleLine). HaveTexts labels l.nodes) lines → (rs : List (Rule ℕ)) × Along (IsRule names labels) rs lines
some_rules names labels [] t held h = ([], tt)
some_rules names labels (l ∷ lines) t held h =
    let r = a_rule names labels l t.0.tree held.0 h.0 in
    let more = some_rules names labels lines t.1 held.1 h.1 in
    (r.0 ∷ more.0, (r.1, more.1))

-- the texts of all nodes, and of left states
abbrev text_of_item : Item → List ℕ
text_of_item i = i.text

abbrev texts_of : List RuleLine → List (List ℕ)
texts_of [] = []
texts_of (l ∷ lines) = map text_of_item l.nodes ++ texts_of lines

each_text : (labels : List (List ℕ)) (is : List Item) → ((t : List ℕ) → Has (map text_of_item is) t → Has labels t) → HaveTexts labels is
each_text labels [] f = tt
each_text labels (i ∷ is) f = (f i.text (inl refl), each_text labels is (λ t h. f t (inr h)))

each_line : (labels : List (List ℕ)) (lines : List RuleLine) → ((t : List ℕ) → Has (texts_of lines) t → Has labels t) → Each (λ (l : RuleLine). HaveTexts labels l.nodes) lines
each_line labels [] f = tt
each_line labels (l ∷ lines) f = (
  each_text labels l.nodes (λ t h. f t (has_left (map text_of_item l.nodes) (texts_of lines) t h)),
  each_line labels lines (λ t h. f t (has_right (map text_of_item l.nodes) (texts_of lines) t h)),
)

each_left : (names : List (List ℕ)) (lines : List RuleLine) → ((t : List ℕ) → Has (map left_of lines) t → Has names t) → Each (λ (l : RuleLine). Has names l.left) lines
each_left names [] f = tt
each_left names (l ∷ lines) f = (f l.left (inl refl), each_left names lines (λ t h. f t (inr h)))

-- a table without double texts stays so when a text is added
pub one_distinct : (before : List (List ℕ)) (text : List ℕ) (now : List (List ℕ)) → Adds before text now → Distinct before → Distinct now
one_distinct before text now (inl (held, same)) d = subst (λ (ts : List (List ℕ)). Distinct ts) (sym same) d
one_distinct before text now (inr (new, same)) d = subst (λ (ts : List (List ℕ)). Distinct ts) (sym same) (distinct_more before text d (λ h. new (has_contains before text h)))

-- and when many are
pub all_distinct : (before texts now : List (List ℕ)) → AddsAll before texts now → Distinct before → Distinct now
all_distinct before [] now same d = subst (λ (ts : List (List ℕ)). Distinct ts) (sym same) d
all_distinct before (text ∷ texts) now (middle, adds, more) d = all_distinct middle texts now more (one_distinct before text middle adds d)

some_text : (scale : Scale) (bytes start : List ℕ) (lines : List RuleLine) → grammar_of scale bytes ≡ Ok (start, lines) → IsSomeText scale bytes
unfolding grammar_of
some_text scale bytes start lines e =
    let b = begun_back scale 1 (lines_of bytes) start lines e in
    let n = gathered [] (start ∷ map left_of lines) in
    let l = gathered [] (texts_of lines) in
    let rs = some_rules n.0 l.0 lines (all_small scale b.rows lines b.are b.few)
    (each_left n.0 lines (λ t h. all_added [] (start ∷ map left_of lines) n.0 n.1 t (inr h)))
    (each_line l.0 lines (all_added [] (texts_of lines) l.0 l.1)) in
    let g : GrammarOf = record { names = n.0; rules = rs.0 } in
    let is : IsGrammarOf l.0 g start lines = record { names = n.1; rules = rs.1 } in
    (l.0, g, all_distinct [] (texts_of lines) l.0 l.1 tt, record { text = text_back scale l.0 bytes g start lines e is; small = small_back scale l.0 bytes g start lines e is })

pub text_or_fault : (scale : Scale) (bytes : List ℕ) → IsSomeText scale bytes ⊎ ((fault : FileFault) × IsFirstFault scale bytes fault)
text_or_fault scale bytes = by (grammar_of scale bytes) refl
  where
    by : (r : Result (List ℕ × List RuleLine) FileFault) → grammar_of scale bytes ≡ r → IsSomeText scale bytes ⊎ ((fault : FileFault) × IsFirstFault scale bytes fault)
    by (Ok p) e = inl (some_text scale bytes p.0 p.1 e)
    by (Err fault) e = inr (fault, (faults_exact scale bytes fault).0 e)
