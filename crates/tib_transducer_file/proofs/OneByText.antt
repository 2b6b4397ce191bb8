-- Bytes that are the text of two transducers, each over a table of its own, are that of one by the
-- texts of labels.
use Rattle.tib_cost.specs.declared.Scale.{Scale}
use Rattle.std.proofs.Common.{◌≡◌, ℕ, ◌+◌, inl, inr, true, false, List, [], ◌∷◌, ◌++◌, length, refl, ap, sym, ◌∙◌, subst, arith, Option, zero, suc}
use Rattle.std.specs.Prelude.{Some, None, Result, Ok, slice_get, nat_eq}
use Rattle.std.specs.List.{list_any}
use Rattle.std.proofs.lemmas.Bool.Decides.{nat_tests}
use Rattle.tib_lex.specs.Lines.{lines_of}
use Rattle.tib_lex.specs.Lists.{Along, Each, Has, Distinct}
use Rattle.tib_lex.specs.declared.fault.FileFault.{FileFault}
use Rattle.tib_lex.proofs.Members.{has_left, has_right}
use Rattle.tib_lex.proofs.Spelled.{or_false}
use Rattle.tib_tree.specs.Grows.{Adds, AddsAll, AreDistinct}
use Rattle.tib_lex.specs.Grammar.{Word}
use Rattle.tib_tree.specs.Machine.{IsTree}
use Rattle.tib_tree.specs.Trees.{Trees, none, tree, only, preorder_of}
use Rattle.tib_tree.specs.Written.{Item}
use Rattle.tib_tree.proofs.Growing.{distinct_added}
use Rattle.tib_grammar.specs.Sides.{Symbol, label, hole, holes, HolesAreLeaves}
use Rattle.tib_grammar_file.specs.ByText.{HaveOneShape, HaveOneText}
use Rattle.tib_grammar_file.proofs.OneGrammar.{all_same}
use Rattle.tib_grammar_file.proofs.Shapes.{AgreeAtNode, shape_of}
use Rattle.tib_transducer.specs.Range.{AreNumbered}
use Rattle.tib_transducer.specs.TransducerOf.{TransducerOf}
use Rattle.tib_transducer.specs.declared.Variable.{Variable}
use Rattle.tib_transducer.specs.declared.Pair.{Pair}
use Rattle.tib_transducer.specs.declared.TransducerRule.{TransducerRule}
use Rattle.tib_transducer_file.specs.Forms.{variable_in, pair_in}
use Rattle.tib_transducer_file.specs.Rule.{Parts, RuleLine, state_of, label_of, numbers_in, repeats, is_twice}
use Rattle.tib_transducer_file.specs.Value.{IsAsked, IsLeftSymbol, IsLeftNode, IsRootItem, IsLeftSide, IsRightSymbol, IsRightNode, IsRule, states_of}
use Rattle.tib_transducer_file.specs.TransducerText.{HaveStartBy, ReadsAs}
use Rattle.tib_transducer_file.specs.ByText.{AskForOneText, AgreeOnLeft, AgreeOnRight, AreOneTransducerRule, AreOneTransducer}
use Rattle.tib_transducer_file.proofs.RulesHave.{file_has, each_line_has}
use Rattle.tib_transducer_file.proofs.FaultsOnce.{text_read}
use Rattle.tib_transducer_file.proofs.ShapesRead.{left_ends}
use Rattle.tib_transducer.proofs.Counting.{numbered_front}

-- no state's name occurs twice
one_added : (before : List (List ℕ)) (text : List ℕ) (now : List (List ℕ)) → Adds before text now → AreDistinct before → AreDistinct now
one_added before text now (inl (held, same)) d = subst (λ (ts : List (List ℕ)). AreDistinct ts) (sym same) d
one_added before text now (inr (new, last)) d = distinct_added before now text d new last

-- nor among texts that are added
pub all_added : (before texts now : List (List ℕ)) → AddsAll before texts now → AreDistinct before → AreDistinct now
all_added before [] now same d = subst (λ (ts : List (List ℕ)). AreDistinct ts) (sym same) d
all_added before (text ∷ texts) now (middle, one, more) d = all_added middle texts now more (one_added before text middle one d)

-- no labels are distinct
pub none_distinct : AreDistinct []
none_distinct = record { once = λ m n text e f. absurd (cc) }

-- a member is found
pub any_has : (xs : List ℕ) (n : ℕ) → Has xs n → list_any (nat_eq n) xs ≡ false → ⊥
any_has [] n h e = absurd h
any_has (x ∷ xs) n (inl same) e =
    let apart = or_false (nat_eq n x) (list_any (nat_eq n) xs) e in
    let equal : nat_eq n x ≡ true = grind (arith, nat_tests) in
    let bad : true ≡ false = sym equal ∙ apart.0 in cc
any_has (x ∷ xs) n (inr h) e = any_has xs n h (or_false (nat_eq n x) (list_any (nat_eq n) xs) e).1

-- where no number repeats, no later one comes before
pub apart_from : (before ns : List ℕ) → repeats before ns ≡ false → (n : ℕ) → Has ns n → Has before n → ⊥
apart_from before [] e n h k = absurd h
apart_from before (m ∷ ns) e n (inl same) k =
    any_has before n k (subst (λ (x : ℕ). list_any (nat_eq x) before ≡ false) same (or_false (list_any (nat_eq m) before) (repeats (before ++ m ∷ []) ns) e).0)
apart_from before (m ∷ ns) e n (inr h) k =
    apart_from (before ++ m ∷ []) ns (or_false (list_any (nat_eq m) before) (repeats (before ++ m ∷ []) ns) e).1 n h (has_left before (m ∷ []) n k)

-- and no number occurs twice
pub once_each : (before ns : List ℕ) → repeats before ns ≡ false → Distinct ns
once_each before [] e = tt
once_each before (m ∷ ns) e =
    let more : repeats (before ++ m ∷ []) ns ≡ false = (or_false (list_any (nat_eq m) before) (repeats (before ++ m ∷ []) ns) e).1 in
    ((λ h. apart_from (before ++ m ∷ []) ns more m h (has_right before (m ∷ []) m (inl refl))), once_each (before ++ m ∷ []) ns more)

some_number : (m n : ℕ) → (let o : Option ℕ = Some m in o ≡ Some n) → m ≡ n
some_number m n e = cc

has_slice : (xs : List ℕ) (j v : ℕ) → slice_get xs j ≡ Some v → Has xs v
has_slice [] j v e = absurd (cc e)
has_slice (x ∷ xs) zero v e = inl (some_number x v e)
has_slice (x ∷ xs) (suc j) v e = inr (has_slice xs j v e)

-- a number is at one place
pub place_once : (xs : List ℕ) (i j v : ℕ) → Distinct xs → slice_get xs i ≡ Some v → slice_get xs j ≡ Some v → i ≡ j
place_once [] i j v d e f = absurd (cc e)
place_once (x ∷ xs) zero zero v d e f = refl
place_once (x ∷ xs) zero (suc j) v d e f = absurd (d.0 (subst (Has xs) (sym (some_number x v e)) (has_slice xs j v f)))
place_once (x ∷ xs) (suc i) zero v d e f = absurd (d.0 (subst (Has xs) (sym (some_number x v f)) (has_slice xs i v e)))
place_once (x ∷ xs) (suc i) (suc j) v d e f = ap suc (place_once xs i j v d.1 e f)

-- the variables of left sides of one shape have the same numbers

numbered_back : (n : ℕ) (xs ys : List Variable) → AreNumbered n (xs ++ ys) → AreNumbered (n + length xs) ys
numbered_back n [] ys h = let same : n ≡ n + 0 = omega arith in subst (λ (m : ℕ). AreNumbered m ys) same h
numbered_back n (x ∷ xs) ys h = let same : suc n + length xs ≡ n + suc (length xs) = omega arith in subst (λ (m : ℕ). AreNumbered m ys) same (numbered_back (suc n) xs ys h.1)

module _ (labels others : List (List ℕ)) where
  -- but for the numbers of variables
  abbrev pub AgreeLoosely : Symbol ℕ Variable → Symbol ℕ Variable → Type 0
  AgreeLoosely (label f) (label g) = HaveOneText labels others f g
  AgreeLoosely (label f) (hole y) = ⊥
  AgreeLoosely (hole x) (label g) = ⊥
  AgreeLoosely (hole x) (hole y) = AskForOneText labels others x.label y.label

  holes_long : (ts us : Trees (Symbol ℕ Variable)) → HaveOneShape AgreeLoosely ts us → length (holes ts) ≡ length (holes us)
  holes_long none none h = refl
  holes_long none (tree g below more) h = absurd h
  holes_long (tree f kids rest) none h = absurd h
  holes_long (tree (label f) kids rest) (tree (label g) below more) h =
      length_both (holes kids) (holes rest) (holes below) (holes more) (holes_long kids below h.1) (holes_long rest more h.2)
    where
      length_both : (xs ys zs ws : List Variable) → length xs ≡ length zs → length ys ≡ length ws → length (xs ++ ys) ≡ length (zs ++ ws)
      length_both [] ys [] ws e f = f
      length_both [] ys (z ∷ zs) ws e f = absurd (omega (arith, e))
      length_both (x ∷ xs) ys [] ws e f = absurd (omega (arith, e))
      length_both (x ∷ xs) ys (z ∷ zs) ws e f = ap suc (length_both xs ys zs ws (omega (arith, e)) f)
  holes_long (tree (label f) kids rest) (tree (hole y) below more) h = absurd h.0
  holes_long (tree (hole x) kids rest) (tree (label g) below more) h = absurd h.0
  holes_long (tree (hole x) kids rest) (tree (hole y) below more) h = ap suc (holes_long rest more h.2)

  -- the numbers agree then too
  pub numbers_agree :
      (n : ℕ) (ts us : Trees (Symbol ℕ Variable)) → HolesAreLeaves ts → HaveOneShape AgreeLoosely ts us → AreNumbered n (holes ts) → AreNumbered n (holes us) →
      HaveOneShape (AgreeOnLeft labels others) ts us
  numbers_agree n none none l h a b = tt
  numbers_agree n none (tree g below more) l h a b = absurd h
  numbers_agree n (tree f kids rest) none l h a b = absurd h
  numbers_agree n (tree (label f) kids rest) (tree (label g) below more) l h a b = (
    h.0,
    numbers_agree n kids below l.0 h.1 (numbered_front n (holes kids) (holes rest) a) (numbered_front n (holes below) (holes more) b),
    numbers_agree (n + length (holes below)) rest more l.1 h.2
        (subst (λ (k : ℕ). AreNumbered (n + k) (holes rest)) (holes_long kids below h.1) (numbered_back n (holes kids) (holes rest) a))
        (numbered_back n (holes below) (holes more) b),
  )
  numbers_agree n (tree (label f) kids rest) (tree (hole y) below more) l h a b = absurd h.0
  numbers_agree n (tree (hole x) (tree s kids others) rest) us l h a b = absurd l
  numbers_agree n (tree (hole x) none rest) (tree (label g) below more) l h a b = absurd h.0
  numbers_agree n (tree (hole x) none rest) (tree (hole y) (tree s below behind) more) l h a b = absurd h.1
  numbers_agree n (tree (hole x) none rest) (tree (hole y) none more) l h a b = ((a.0 ∙ sym b.0, h.0), tt, numbers_agree (suc n) rest more l h.2 a.1 b.1)

  asked_alike : (a b : Option ℕ) (o : Option (List ℕ)) → IsAsked labels a o → IsAsked others b o → AskForOneText labels others a b
  asked_alike None None o h k = tt
  asked_alike None (Some g) None h k = absurd k
  asked_alike None (Some g) (Some text) h k = absurd h
  asked_alike (Some f) b None h k = absurd h
  asked_alike (Some f) None (Some text) h k = absurd k
  asked_alike (Some f) (Some g) (Some text) h k = record { text = text; first = h; second = k }

  left_symbols : (r s : Symbol ℕ Variable) (o : Option (ℕ × Option (List ℕ))) (text : List ℕ) → IsLeftSymbol labels r o text → IsLeftSymbol others s o text → AgreeLoosely r s
  left_symbols (label f) s (Some v) text h k = absurd h
  left_symbols (label f) (label g) None text h k = record { text = text; first = h; second = k }
  left_symbols (label f) (hole y) None text h k = absurd k
  left_symbols (hole x) s None text h k = absurd h
  left_symbols (hole x) (label g) (Some v) text h k = absurd k
  left_symbols (hole x) (hole y) (Some v) text h k = asked_alike x.label y.label v.1 h k

  left_nodes :
      (ps qs : List (Symbol ℕ Variable × ℕ)) (is : List Item) → Along (IsLeftNode labels) ps is → Along (IsLeftNode others) qs is → Along (AgreeAtNode AgreeLoosely) ps qs
  left_nodes [] [] [] h k = tt
  left_nodes [] (q ∷ qs) [] h k = absurd k
  left_nodes (p ∷ ps) qs [] h k = absurd h
  left_nodes [] qs (i ∷ is) h k = absurd h
  left_nodes (p ∷ ps) [] (i ∷ is) h k = absurd k
  left_nodes (p ∷ ps) (q ∷ qs) (i ∷ is) h k = ((left_symbols p.0 q.0 (variable_in i) i.text h.0.0 k.0.0, h.0.1 ∙ sym k.0.1), left_nodes ps qs is h.1 k.1)

  root_nodes : (p q : Symbol ℕ Variable × ℕ) (text : List ℕ) (kids : Option ℕ) → IsRootItem labels p text kids → IsRootItem others q text kids → AgreeAtNode AgreeLoosely p q
  root_nodes (label f, m) (label g, n) text kids h k = (record { text = text; first = h.0; second = k.0 }, h.1 ∙ sym k.1)
  root_nodes (label f, m) (hole y, n) text kids h k = absurd k
  root_nodes (hole x, m) q text kids h k = absurd h

  -- left sides of one text agree so
  pub left_sides : (ps qs : List (Symbol ℕ Variable × ℕ)) (p : Parts) → IsLeftSide labels ps p → IsLeftSide others qs p → Along (AgreeAtNode AgreeLoosely) ps qs
  left_sides [] qs p h k = absurd h
  left_sides (s ∷ ps) [] p h k = absurd k
  left_sides (s ∷ ps) (q ∷ qs) p h k = (root_nodes s q (label_of p) p.root.kids h.0 k.0, left_nodes ps qs p.below h.1 k.1)

  -- right sides
  module _ (names : List (List ℕ)) (numbers : List ℕ) (apart : AreDistinct names) (once : Distinct numbers) where
    right_symbols :
        (r s : Symbol ℕ (Pair ℕ)) (o : Option (List ℕ × ℕ)) (text : List ℕ) → IsRightSymbol names labels numbers r o text → IsRightSymbol names others numbers s o text → AgreeOnRight labels others r s
    right_symbols (label f) s (Some q) text h k = absurd h
    right_symbols (label f) (label g) None text h k = record { text = text; first = h; second = k }
    right_symbols (label f) (hole y) None text h k = absurd k
    right_symbols (hole x) s None text h k = absurd h
    right_symbols (hole x) (label g) (Some q) text h k = absurd k
    right_symbols (hole x) (hole y) (Some q) text h k = (apart.once x.state y.state q.0 h.0 k.0, place_once numbers x.variable y.variable q.1 once h.1 k.1)

    -- right sides of one text agree
    pub right_nodes :
        (ps qs : List (Symbol ℕ (Pair ℕ) × ℕ)) (is : List Item) → Along (IsRightNode names labels numbers) ps is → Along (IsRightNode names others numbers) qs is →
        Along (AgreeAtNode (AgreeOnRight labels others)) ps qs
    right_nodes [] [] [] h k = tt
    right_nodes [] (q ∷ qs) [] h k = absurd k
    right_nodes (p ∷ ps) qs [] h k = absurd h
    right_nodes [] qs (i ∷ is) h k = absurd h
    right_nodes (p ∷ ps) [] (i ∷ is) h k = absurd k
    right_nodes (p ∷ ps) (q ∷ qs) (i ∷ is) h k = ((right_symbols p.0 q.0 (pair_in i) i.text h.0.0 k.0.0, h.0.1 ∙ sym k.0.1), right_nodes ps qs is h.1 k.1)

  module _ (names : List (List ℕ)) (apart : AreDistinct names) where
    rule_agrees :
        (line : RuleLine) (r s : TransducerRule ℕ) → is_twice line.parts ≡ false → IsRule names labels r line → IsRule names others s line → AreOneTransducerRule labels others r s
    rule_agrees line r s once h k = record {
      state = apart.once r.state s.state (state_of line.parts) h.state k.state;
      left = numbers_agree 0 (only r.left) (only s.left) (left_ends labels r.left line.parts h.left)
          (shape_of AgreeLoosely r.left s.left (left_sides (preorder_of r.left) (preorder_of s.left) line.parts h.left k.left)) h.numbered k.numbered;
      right = shape_of (AgreeOnRight labels others) r.right s.right
          (right_nodes names (numbers_in line.parts.below) apart (once_each [] (numbers_in line.parts.below) once) (preorder_of r.right) (preorder_of s.right) line.parts.right h.right k.right);
      cost = h.cost ∙ sym k.cost;
    }

-- rules of the same lines agree, if those of one line do
pub rules_agree : {R Q : Type 0} (One : R → Q → Type 0) (Is : R → RuleLine → Type 0) (Are : Q → RuleLine → Type 0) → ((line : RuleLine) (r : R) (s : Q) → is_twice line.parts ≡ false → Is r line → Are s line → One r s) →
    (lines : List RuleLine) (rs : List R) (ss : List Q) → Each (λ line. is_twice line.parts ≡ false) lines → Along Is rs lines → Along Are ss lines → Along One rs ss
rules_agree One Is Are agree [] [] [] o h k = tt
rules_agree One Is Are agree [] [] (s ∷ ss) o h k = absurd k
rules_agree One Is Are agree [] (r ∷ rs) ss o h k = absurd h
rules_agree One Is Are agree (line ∷ lines) [] ss o h k = absurd h
rules_agree One Is Are agree (line ∷ lines) (r ∷ rs) [] o h k = absurd k
rules_agree One Is Are agree (line ∷ lines) (r ∷ rs) (s ∷ ss) o h k = (agree line r s o.0 h.0 k.0, rules_agree One Is Are agree lines rs ss o.1 h.1 k.1)

-- no rule of a file has a variable twice
pub lines_once : (Right : List Word → List Item → Type 0) (scale : Scale) (lines : List (List ℕ)) (start : List ℕ) (rules : List RuleLine) → HaveStartBy Right scale lines start rules → Each (λ line. is_twice line.parts ≡ false) rules
lines_once Right scale lines start rules h =
    file_has {Right = Right} (λ line. Unit {0}) (λ rule. is_twice rule.parts ≡ false) scale (λ line rule p s. s.once) lines start rules (each_line_has lines) h

-- what is read is one
pub ok_same : (p q : List ℕ × List RuleLine) → (let r : Result (List ℕ × List RuleLine) FileFault = Ok p in r ≡ Ok q) → (p.0 ≡ q.0) × (p.1 ≡ q.1)
ok_same p q e = let same : p ≡ q = cc in (ap (λ (x : List ℕ × List RuleLine). x.0) same, ap (λ (x : List ℕ × List RuleLine). x.1) same)

-- what is read of one file has the same states, and its rules stand for the same lines
pub files_agree :
    {R : Type 0} (Is : List (List ℕ) → R → RuleLine → Type 0) (p q : List ℕ × List RuleLine) (names states : List (List ℕ)) (rules : List R) → (let r : Result (List ℕ × List RuleLine) FileFault = Ok p in r ≡ Ok q) →
    AddsAll [] (p.0 ∷ states_of p.1) names → AddsAll [] (q.0 ∷ states_of q.1) states → Along (Is names) rules p.1 → (names ≡ states) × Along (Is states) rules q.1
files_agree Is p q names states rules e added others are =
    let same = ok_same p q e in
    let moved : AddsAll [] (q.0 ∷ states_of q.1) names = subst (λ (ls : List RuleLine). AddsAll [] (q.0 ∷ states_of ls) names) same.1 (subst (λ (s : List ℕ). AddsAll [] (s ∷ states_of p.1) names) same.0 added) in
    let one : names ≡ states = all_same [] (q.0 ∷ states_of q.1) names states moved others in
    (one, subst (λ (ns : List (List ℕ)). Along (Is ns) rules q.1) one (subst (λ (ls : List RuleLine). Along (Is names) rules ls) same.1 are))

-- transducers of one text
pub one_by_text :
    (scale : Scale) (labels others : List (List ℕ)) (bytes : List ℕ) (t u : TransducerOf) → ReadsAs scale labels bytes t → ReadsAs scale others bytes u → AreOneTransducer labels others t u
one_by_text scale labels others bytes t u r q =
    let f = files_agree (λ names. IsRule names labels) (r.text.start, r.text.lines) (q.text.start, q.text.lines) t.names u.names t.rules (sym (text_read scale labels bytes t r) ∙ text_read scale others bytes u q) r.text.states q.text.states r.text.rules in
    record {
      names = f.0;
      rules = rules_agree (AreOneTransducerRule labels others) (IsRule u.names labels) (IsRule u.names others)
          (rule_agrees labels others u.names (all_added [] (q.text.start ∷ states_of q.text.lines) u.names q.text.states none_distinct)) q.text.lines t.rules u.rules
          (lines_once IsTree scale (lines_of bytes) q.text.start q.text.lines q.text.written) f.1 q.text.rules;
    }

-- pairs of the same state and variable are the same
pub pair_same : (x y : Pair ℕ) → x.state ≡ y.state → x.variable ≡ y.variable → x ≡ y
pair_same x y e f = ap (λ (q : ℕ). record { state = q; variable = x.variable }) e ∙ ap (λ (n : ℕ). record { state = y.state; variable = n }) f
