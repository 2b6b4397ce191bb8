-- Bytes are the text of at most one grammar.
use Rattle.tib_cost.specs.declared.Scale.{Scale}
use Rattle.std.proofs.Common.{◌≡◌, ℕ, ◌<◌, inl, inr, List, [], ◌∷◌, length, get_or, refl, ap, sym, ◌∙◌, subst, arith, zero, suc, map}
use Rattle.std.specs.Prelude.{slice_get, Some, Result, Ok}
use Rattle.std.proofs.lemmas.Option.{slice_get_within, get_or_from_slice_get}
use Rattle.tib_lex.specs.Grammar.{Word, name}
use Rattle.tib_lex.specs.Lists.{Along, Each, Has, Distinct}
use Rattle.tib_lex.specs.declared.fault.FaultKind.{FaultKind}
use Rattle.tib_lex.proofs.HasLines.{lines_read}
use Rattle.tib_lex.proofs.HasWords.{words_once}
use Rattle.tib_tree.specs.Grows.{Adds, AddsAll}
use Rattle.tib_tree.specs.Trees.{Tree, Trees, none, tree, only, parse, parse_of, preorder_of}
use Rattle.tib_tree.specs.Written.{Item, items}
use Rattle.tib_grammar.specs.Sides.{Symbol, label, hole}
use Rattle.tib_grammar.specs.GrammarOf.{GrammarOf}
use Rattle.tib_grammar.specs.StateName.{IsStateName, AreStateNames}
use Rattle.tib_grammar.specs.declared.Rule.{Rule}
use Rattle.tib_grammar.proofs.Members.{has_at}
use Rattle.tib_grammar_file.specs.Rule.{Parts, parts, parts_of}
use Rattle.tib_grammar_file.specs.Weight.{cost_of}
use Rattle.tib_grammar_file.specs.GrammarText.{HaveTokens, SpellsRuleOf, first_text, GrammarText}
use Rattle.tib_grammar_file.specs.Value.{IsSymbol, IsNode}
use Rattle.tib_grammar_file.proofs.RulesRead.{rule_forth}
use Rattle.tib_grammar_file.proofs.Meanings.{meant_side, meant_count}
use Rattle.tib_grammar_file.proofs.WholeWeights.{cost_forth}
use Rattle.tib_grammar_file.proofs.TextRead.{first_words, FirstIsWord, all_names}
pub use Rattle.tib_lex.proofs.Lists.{some_same}
pub use Rattle.tib_lex.proofs.HasWords.{words_once as words_same}
use Rattle.tib_grammar_file.proofs.Common.{cons_same}

pub tokens_same : (lines : List (List ℕ)) (rows others : List (List Word)) → HaveTokens lines rows → HaveTokens lines others → rows ≡ others
tokens_same [] rows others t u = t ∙ sym u
tokens_same (line ∷ lines) rows others (inl (h, t)) (inl (k, u)) = tokens_same lines rows others t u
tokens_same (line ∷ lines) rows others (inl (h, t)) (inr (w, ws, more, k, e, u)) = let bad : [] ≡ w ∷ ws = words_once line [] (w ∷ ws) h k in cc
tokens_same (line ∷ lines) rows others (inr (w, ws, more, k, e, t)) (inl (h, u)) = let bad : [] ≡ w ∷ ws = words_once line [] (w ∷ ws) h k in cc
tokens_same (line ∷ lines) rows others (inr (w, ws, more, h, e, t)) (inr (v, vs, mores, k, f, u)) =
    let same : w ∷ ws ≡ v ∷ vs = words_once line (w ∷ ws) (v ∷ vs) h k in
    let rest : more ≡ mores = tokens_same lines more mores t u in
    e ∙ ap (λ (x : List Word). x ∷ more) same ∙ ap (λ (xs : List (List Word)). (v ∷ vs) ∷ xs) rest ∙ sym f

adds_same : (before : List (List ℕ)) (text : List ℕ) (now other : List (List ℕ)) → Adds before text now → Adds before text other → now ≡ other
adds_same before text now other (inl (held, e)) (inl (also, f)) = e ∙ sym f
adds_same before text now other (inl (held, e)) (inr (new, f)) = absurd (new held)
adds_same before text now other (inr (new, e)) (inl (held, f)) = absurd (new held)
adds_same before text now other (inr (new, e)) (inr (also, f)) = e ∙ sym f

pub all_same : (before texts now other : List (List ℕ)) → AddsAll before texts now → AddsAll before texts other → now ≡ other
all_same before [] now other e f = e ∙ sym f
all_same before (text ∷ texts) now other (middle, a, more) (center, b, rest) =
    all_same middle texts now other more (subst (λ (m : List (List ℕ)). AddsAll m texts other) (sym (adds_same before text middle center a b)) rest)

place_same : (xs : List (List ℕ)) (n m : ℕ) (t : List ℕ) → Distinct xs → n < length xs → m < length xs → get_or xs n t ≡ t → get_or xs m t ≡ t → n ≡ m
place_same [] n m t d h k e f = absurd (omega arith)
place_same (x ∷ xs) zero zero t d h k e f = refl
place_same (x ∷ xs) zero (suc m) t d h k e f = absurd (d.0 (subst (λ (y : List ℕ). Has xs y) (f ∙ sym e) (has_at xs m t (omega arith))))
place_same (x ∷ xs) (suc n) zero t d h k e f = absurd (d.0 (subst (λ (y : List ℕ). Has xs y) (e ∙ sym f) (has_at xs n t (omega arith))))
place_same (x ∷ xs) (suc n) (suc m) t d h k e f = ap suc (place_same xs n m t d.1 (omega arith) (omega arith) e f)

pub number_same : (xs : List (List ℕ)) (n m : ℕ) (t : List ℕ) → Distinct xs → slice_get xs n ≡ Some t → slice_get xs m ≡ Some t → n ≡ m
number_same xs n m t d e f = place_same xs n m t d (slice_get_within xs n t e) (slice_get_within xs m t f) (get_or_from_slice_get xs n t t e) (get_or_from_slice_get xs m t t f)

symbol_same : (names labels : List (List ℕ)) → Distinct names → Distinct labels → (r s : Symbol ℕ ℕ) (i : Item) → IsSymbol names labels r i → IsSymbol names labels s i → r ≡ s
symbol_same names labels d c (hole p) (hole q) i h k = ap hole (number_same names p q i.text d h.1 k.1)
symbol_same names labels d c (hole p) (label g) i h k = absurd (k.0 h.0)
symbol_same names labels d c (label f) (hole q) i h k = absurd (h.0 k.0)
symbol_same names labels d c (label f) (label g) i h k = ap label (number_same labels f g i.text c h.1 k.1)

node_same : (names labels : List (List ℕ)) → Distinct names → Distinct labels → (p q : Symbol ℕ ℕ × ℕ) (i : Item) → IsNode names labels p i → IsNode names labels q i → p ≡ q
node_same names labels d c p q i h k =
    ap (λ (s : Symbol ℕ ℕ). (s, p.1)) (symbol_same names labels d c p.0 q.0 i h.0 k.0) ∙ ap (λ (n : ℕ). (q.0, n)) (h.1 ∙ sym k.1)

nodes_same : (names labels : List (List ℕ)) → Distinct names → Distinct labels → (ps qs : List (Symbol ℕ ℕ × ℕ)) (is : List Item) → Along (IsNode names labels) ps is → Along (IsNode names labels) qs is → ps ≡ qs
nodes_same names labels d c [] [] [] h k = refl
nodes_same names labels d c [] (q ∷ qs) [] h k = absurd k
nodes_same names labels d c (p ∷ ps) qs [] h k = absurd h
nodes_same names labels d c [] qs (i ∷ is) h k = absurd h
nodes_same names labels d c (p ∷ ps) [] (i ∷ is) h k = absurd k
nodes_same names labels d c (p ∷ ps) (q ∷ qs) (i ∷ is) h k =
    ap (λ (x : Symbol ℕ ℕ × ℕ). x ∷ ps) (node_same names labels d c p q i h.0 k.0) ∙ ap (λ (xs : List (Symbol ℕ ℕ × ℕ)). q ∷ xs) (nodes_same names labels d c ps qs is h.1 k.1)

tree_same : (s t : Tree (Symbol ℕ ℕ)) → preorder_of s ≡ preorder_of t → s ≡ t
tree_same s t e =
    let o : tree s.label s.kids none ≡ tree t.label t.kids none = sym (parse_of s) ∙ ap parse e ∙ parse_of t in
    let a : s.label ≡ t.label = cc in
    let b : s.kids ≡ t.kids = cc in
    ap (λ (l : Symbol ℕ ℕ). record { label = l; kids = s.kids }) a ∙ ap (λ (k : Trees (Symbol ℕ ℕ)). record { label = t.label; kids = k }) b

pub parts_as : (scale : Scale) (names labels : List (List ℕ)) (words : List Word) (r : Rule ℕ) → (s : SpellsRuleOf scale names labels words r) → parts_of words ≡ Some (parts s.left (items s.right) s.weight)
parts_as scale names labels words r s = rule_forth words (parts s.left (items s.right) s.weight) (record { plain = s.plain; tree = s.right; one = sym (meant_count names labels (only r.right) s.right s.right_is); nodes = refl; spelled = s.words_are })

pub ok_same : (m n : ℕ) → (let r : Result ℕ FaultKind = Ok m in r ≡ Ok n) → m ≡ n
ok_same m n e = cc

pub rule_same : (scale : Scale) (names labels : List (List ℕ)) → Distinct names → Distinct labels → (words : List Word) (q r : Rule ℕ) → SpellsRuleOf scale names labels words q → SpellsRuleOf scale names labels words r → q ≡ r
rule_same scale names labels d c words q r s t =
    let p : parts s.left (items s.right) s.weight ≡ parts t.left (items t.right) t.weight = some_same _ _ (sym (parts_as scale names labels words q s) ∙ parts_as scale names labels words r t) in
    let left : s.left ≡ t.left = ap (λ (x : Parts). x.left) p in
    let nodes : items s.right ≡ items t.right = ap (λ (x : Parts). x.nodes) p in
    let weight : s.weight ≡ t.weight = ap (λ (x : Parts). x.weight) p in
    let a : q.left ≡ r.left = number_same names q.left r.left t.left d (s.left_is ∙ ap Some left) t.left_is in
    let b : q.right ≡ r.right = tree_same q.right r.right (nodes_same names labels d c (preorder_of q.right) (preorder_of r.right) (items t.right) (subst (λ (is : List Item). Along (IsNode names labels) (preorder_of q.right) is) nodes (meant_side names labels s.right q.right s.right_is)) (meant_side names labels t.right r.right t.right_is)) in
    let k : q.cost ≡ r.cost = ok_same q.cost r.cost (sym (cost_forth scale s.weight q.cost s.cost_is) ∙ ap (cost_of scale) weight ∙ cost_forth scale t.weight r.cost t.cost_is) in
    ap (λ (x : ℕ). record { left = x; right = q.right; cost = q.cost }) a
    ∙ ap (λ (x : Tree (Symbol ℕ ℕ)). record { left = r.left; right = x; cost = q.cost }) b
    ∙ ap (λ (x : ℕ). record { left = r.left; right = r.right; cost = x }) k

rules_same : (scale : Scale) (names labels : List (List ℕ)) → Distinct names → Distinct labels → (rows : List (List Word)) (qs rs : List (Rule ℕ)) → Along (SpellsRuleOf scale names labels) rows qs → Along (SpellsRuleOf scale names labels) rows rs → qs ≡ rs
rules_same scale names labels d c [] [] [] h k = refl
rules_same scale names labels d c [] [] (r ∷ rs) h k = absurd k
rules_same scale names labels d c [] (q ∷ qs) rs h k = absurd h
rules_same scale names labels d c (w ∷ rows) [] rs h k = absurd h
rules_same scale names labels d c (w ∷ rows) (q ∷ qs) [] h k = absurd k
rules_same scale names labels d c (w ∷ rows) (q ∷ qs) (r ∷ rs) h k =
    ap (λ (x : Rule ℕ). x ∷ qs) (rule_same scale names labels d c w q r h.0 k.0) ∙ ap (λ (xs : List (Rule ℕ)). r ∷ xs) (rules_same scale names labels d c rows qs rs h.1 k.1)

pub first_is_name : (scale : Scale) (names labels : List (List ℕ)) (words : List Word) (r : Rule ℕ) → SpellsRuleOf scale names labels words r → FirstIsWord words → IsStateName (first_text words)
first_is_name scale names labels words r s f =
    subst (λ (t : List ℕ). IsStateName t) (ap first_text s.words_are)
    (record { is_name = subst (λ (ws : List Word). FirstIsWord ws) (sym s.words_are) f; no_stop = s.plain })

pub firsts_are_names : (scale : Scale) (names labels : List (List ℕ)) (rows : List (List Word)) (rules : List (Rule ℕ)) → Along (SpellsRuleOf scale names labels) rows rules → Each FirstIsWord rows → Each IsStateName (map first_text rows)
firsts_are_names scale names labels [] rules a f = tt
firsts_are_names scale names labels (w ∷ rows) [] a f = absurd a
firsts_are_names scale names labels (w ∷ rows) (r ∷ rules) a f = (first_is_name scale names labels w r a.0 f.0, firsts_are_names scale names labels rows rules a.1 f.1)

pub names_distinct : (scale : Scale) (labels : List (List ℕ)) (bytes : List ℕ) (g : GrammarOf) → GrammarText scale labels bytes g → Distinct g.names
names_distinct scale labels bytes g t =
    let f = first_words t.lines ((name t.start ∷ []) ∷ t.rows) t.tokens in
    let all : AreStateNames g.names = all_names [] (t.start ∷ map first_text t.rows) g.names t.states (record { each = tt; distinct = tt })
    (record { is_name = f.0; no_stop = t.plain }, firsts_are_names scale g.names labels t.rows g.rules t.rules f.1) in
    all.distinct

pub start_same : (s t : List ℕ) → name s ∷ [] ≡ name t ∷ [] → s ≡ t
start_same s t e = cc

-- two grammars with one text over distinct labels are the same
pub one_grammar : (scale : Scale) (labels : List (List ℕ)) (bytes : List ℕ) (g h : GrammarOf) → Distinct labels → GrammarText scale labels bytes g → GrammarText scale labels bytes h → g ≡ h
one_grammar scale labels bytes g h c t u =
    let lines : t.lines ≡ u.lines = sym (lines_read t.lines bytes t.lines_are) ∙ lines_read u.lines bytes u.lines_are in
    let all = tokens_same t.lines ((name t.start ∷ []) ∷ t.rows) ((name u.start ∷ []) ∷ u.rows) t.tokens (subst (λ (ls : List (List ℕ)). HaveTokens ls ((name u.start ∷ []) ∷ u.rows)) (sym lines) u.tokens) in
    let both = cons_same (name t.start ∷ []) (name u.start ∷ []) t.rows u.rows all in
    let rows : t.rows ≡ u.rows = both.1 in
    let start : t.start ≡ u.start = start_same t.start u.start both.0 in
    let names : g.names ≡ h.names = all_same [] (u.start ∷ map first_text u.rows) g.names h.names (subst (λ (s : List ℕ). AddsAll [] (s ∷ map first_text u.rows) g.names) start (subst (λ (rs : List (List Word)). AddsAll [] (t.start ∷ map first_text rs) g.names) rows t.states)) u.states in
    let mine : Along (SpellsRuleOf scale h.names labels) u.rows g.rules = subst (λ (ns : List (List ℕ)). Along (SpellsRuleOf scale ns labels) u.rows g.rules) names (subst (λ (rs : List (List Word)). Along (SpellsRuleOf scale g.names labels) rs g.rules) rows t.rules) in
    let rules : g.rules ≡ h.rules = rules_same scale h.names labels (names_distinct scale labels bytes h u) c u.rows g.rules h.rules mine u.rules in
    ap (λ (ns : List (List ℕ)). record { names = ns; rules = g.rules }) names ∙ ap (λ (rs : List (Rule ℕ)). record { names = h.names; rules = rs }) rules
