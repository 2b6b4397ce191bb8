-- What is read of a file without a fault is the text of some transducer.
use Rattle.tib_cost.specs.declared.Scale.{Scale}
use Rattle.std.proofs.Common.{◌≡◌, ℕ, ◌⊎◌, inl, inr, Bool, true, false, List, [], ◌∷◌, ◌++◌, refl, ap, sym, subst, arith, Option, suc}
use Rattle.std.specs.Prelude.{Some, None, Result, Ok, Err, slice_get, nat_eq, not, ◌||◌}
use Rattle.std.specs.List.{list_any}
use Rattle.std.proofs.lemmas.Bool.Decides.{nat_tests}
use Rattle.tib_lex.specs.Grammar.{Word}
use Rattle.tib_lex.specs.Lines.{lines_of}
use Rattle.tib_lex.specs.Lists.{Along, Each, Has}
use Rattle.tib_lex.specs.declared.fault.FileFault.{FileFault}
use Rattle.tib_lex.proofs.Members.{has_left, has_right}
use Rattle.tib_lex.proofs.Spelled.{or_false}
use Rattle.tib_tree.specs.Machine.{IsTree}
use Rattle.tib_tree.specs.Nodes.{rank_of}
use Rattle.tib_tree.specs.Trees.{preorder_of, parse, first_of, preorder-first, IsOneTree}
use Rattle.tib_tree.specs.Written.{Item}
use Rattle.tib_grammar.specs.Sides.{Symbol, label, hole, Side}
use Rattle.tib_grammar.specs.Items.{pairs_of, holes_in}
use Rattle.tib_grammar.specs.declared.Item.{Item as SideItem}
use Rattle.tib_grammar.specs.declared.Item.TheVariants.{Label, Hole}
use Rattle.tib_grammar.proofs.Holes.{holes_of_items}
use Rattle.tib_grammar_file.proofs.Alongs.{along_changes}
use Rattle.tib_grammar_file.proofs.PrintedStates.{gathered, all_added}
use Rattle.tib_grammar_file.proofs.SomeText.{numbered, all_distinct}
use Rattle.tib_transducer.specs.Range.{AreNumbered}
use Rattle.tib_transducer.specs.TransducerOf.{TransducerOf}
use Rattle.tib_transducer.specs.declared.Variable.{Variable}
use Rattle.tib_transducer.specs.declared.Pair.{Pair}
use Rattle.tib_transducer.specs.declared.TransducerRule.{TransducerRule}
use Rattle.tib_transducer_file.specs.Forms.{variable_in, pair_in}
use Rattle.tib_transducer_file.specs.Rule.{Parts, RuleLine, state_of, label_of, numbers_in, is_unknown}
use Rattle.tib_transducer_file.specs.Value.{IsAsked, IsLeftSymbol, IsLeftNode, IsLeftSide, IsRightSymbol, IsRightNode, IsRule, IsRuleOf, right_text, state_before, states_in, states_of}
use Rattle.tib_transducer_file.specs.Reading.{transducer_in}
use Rattle.tib_transducer_file.specs.Faults.{IsFirstFault}
use Rattle.tib_transducer_file.specs.Laws.{IsSomeText}
use Rattle.tib_transducer_file.specs.TransducerText.{SpellsLineBy, HaveStartBy}
use Rattle.tib_transducer_file.proofs.RulesHave.{file_has, each_line_has}
use Rattle.tib_transducer_file.proofs.FaultsOnce.{faults_exact}
use Rattle.tib_transducer_file.specs.Formats.{tree_words}
use Rattle.tib_transducer_file.proofs.FileText.{file_held, all_small}
use Rattle.tib_transducer_file.proofs.ShapesRead.{variable_rank, pair_rank}
use Rattle.tib_transducer_file.proofs.SideTrees.{HasRank, are_one}

-- a table has all of some texts
abbrev pub HasAll : List (List ℕ) → List (List ℕ) → Type 0
HasAll table texts = (t : List ℕ) → Has texts t → Has table t

-- a number that is among others has a place
pub placed : (ns : List ℕ) (v : ℕ) → list_any (nat_eq v) ns ≡ true → (n : ℕ) × (slice_get ns n ≡ Some v)
placed [] v e = let bad : false ≡ true = e in absurd (cc)
placed (m ∷ ns) v e = by (nat_eq v m) refl e (placed ns v)
  where
    by : (b : Bool) → nat_eq v m ≡ b → (b || list_any (nat_eq v) ns) ≡ true → (list_any (nat_eq v) ns ≡ true → (n : ℕ) × (slice_get ns n ≡ Some v)) → (n : ℕ) × (slice_get (m ∷ ns) n ≡ Some v)
    by true same e behind = let equal : m ≡ v = grind (arith, nat_tests) in (0, ap (λ (n : ℕ). Some n) equal)
    by false other e behind = let r = behind e in (suc r.0, r.1)

-- the texts of labels of a rule
abbrev one_or_none : Option (List ℕ) → List (List ℕ)
one_or_none None = []
one_or_none (Some text) = text ∷ []

abbrev left_text : Option (ℕ × Option (List ℕ)) → List ℕ → List (List ℕ)
left_text None text = text ∷ []
left_text (Some v) text = one_or_none v.1

abbrev pub left_texts : List Item → List (List ℕ)
left_texts [] = []
left_texts (i ∷ is) = left_text (variable_in i) i.text ++ left_texts is

abbrev pub right_texts : List Item → List (List ℕ)
right_texts [] = []
right_texts (i ∷ is) = right_text (pair_in i) i.text ++ right_texts is

abbrev pub rule_texts : Parts → List (List ℕ)
rule_texts p = label_of p ∷ (left_texts p.below ++ right_texts p.right)

abbrev pub file_texts : List RuleLine → List (List ℕ)
file_texts [] = []
file_texts (line ∷ lines) = rule_texts line.parts ++ file_texts lines

-- left sides below their roots
pub record LeftItems (labels : List (List ℕ)) (n : ℕ) (is : List Item) : Type 0 where
  pub items : List (SideItem Variable)
  pub are : Along (IsLeftNode labels) (pairs_of items) is
  pub numbered : AreNumbered n (holes_in items)

asked : (labels : List (List ℕ)) (o : Option (List ℕ)) → HasAll labels (one_or_none o) → (a : Option ℕ) × IsAsked labels a o
asked labels None h = (None, tt)
asked labels (Some text) h = let t = numbered labels text (h text (inl refl)) in (Some t.0, t.1)

left_more : (labels : List (List ℕ)) (n : ℕ) (i : Item) (is : List Item) (o : Option (ℕ × Option (List ℕ))) → variable_in i ≡ o → HasAll labels (left_text o i.text) → ((m : ℕ) → LeftItems labels m is) → LeftItems labels n (i ∷ is)
left_more labels n i is None e h more =
    let t = numbered labels i.text (h i.text (inl refl)) in
    let r = more n in
    record {
      items = Label t.0 (rank_of i.kids) ∷ r.items;
      are = ((subst (λ o. IsLeftSymbol labels (label t.0) o i.text) (sym e) t.1, refl), r.are);
      numbered = r.numbered;
    }
left_more labels n i is (Some v) e h more =
    let a = asked labels v.1 h in
    let r = more (suc n) in
    let x : Variable = record { number = n; label = a.0 } in
    record {
      items = Hole x ∷ r.items;
      are = ((subst (λ o. IsLeftSymbol labels (hole x) o i.text) (sym e) a.1, sym (variable_rank i.quoted i.kids i.text v e)), r.are);
      numbered = (refl, r.numbered);
    }

-- the left side below its root, over a table with its texts
pub left_items : (labels : List (List ℕ)) (n : ℕ) (is : List Item) → HasAll labels (left_texts is) → LeftItems labels n is
left_items labels n [] h = record { items = []; are = tt; numbered = tt }
left_items labels n (i ∷ is) h =
    left_more labels n i is (variable_in i) refl (λ t k. h t (has_left (left_text (variable_in i) i.text) (left_texts is) t k))
    (λ m. left_items labels m is (λ t k. h t (has_right (left_text (variable_in i) i.text) (left_texts is) t k)))

-- right sides
abbrev RightItems : List (List ℕ) → List (List ℕ) → List ℕ → List Item → Type 0
RightItems names labels numbers is = (items : List (SideItem (Pair ℕ))) × Along (IsRightNode names labels numbers) (pairs_of items) is

-- what is not false
pub not_false : (b : Bool) → not b ≡ false → b ≡ true
not_false true e = refl
not_false false e = let bad : true ≡ false = e in absurd (cc)

right_more : (names labels : List (List ℕ)) (numbers : List ℕ) (i : Item) (is : List Item) (o : Option (List ℕ × ℕ)) → pair_in i ≡ o → HasAll labels (right_text o i.text) → HasAll names (state_before o []) → is_unknown numbers o ≡ false → RightItems names labels numbers is → RightItems names labels numbers (i ∷ is)
right_more names labels numbers i is None e h s u r =
    let t = numbered labels i.text (h i.text (inl refl)) in
    (Label t.0 (rank_of i.kids) ∷ r.0, ((subst (λ o. IsRightSymbol names labels numbers (label t.0) o i.text) (sym e) t.1, refl), r.1))
right_more names labels numbers i is (Some q) e h s u r =
    let state = numbered names q.0 (s q.0 (inl refl)) in
    let place = placed numbers q.1 (not_false (list_any (nat_eq q.1) numbers) u) in
    let x : Pair ℕ = record { state = state.0; variable = place.0 } in
    (Hole x ∷ r.0, ((subst (λ o. IsRightSymbol names labels numbers (hole x) o i.text) (sym e) (state.1, place.1), sym (pair_rank i.quoted i.kids i.text q e)), r.1))

-- the first state is there
pub first_state : (o : Option (List ℕ × ℕ)) (more : List (List ℕ)) (t : List ℕ) → Has (state_before o []) t → Has (state_before o more) t
first_state None more t h = absurd h
first_state (Some q) more t (inl e) = inl e
first_state (Some q) more t (inr h) = absurd h

-- and so are the others
pub other_state : (o : Option (List ℕ × ℕ)) (more : List (List ℕ)) (t : List ℕ) → Has more t → Has (state_before o more) t
other_state None more t h = h
other_state (Some q) more t h = inr h

right_items : (names labels : List (List ℕ)) (numbers : List ℕ) (is : List Item) → HasAll labels (right_texts is) → HasAll names (states_in is) → list_any (λ i. is_unknown numbers (pair_in i)) is ≡ false → RightItems names labels numbers is
right_items names labels numbers [] h s u = ([], tt)
right_items names labels numbers (i ∷ is) h s u =
    let known = or_false (is_unknown numbers (pair_in i)) (list_any (λ i. is_unknown numbers (pair_in i)) is) u in
    right_more names labels numbers i is (pair_in i) refl (λ t k. h t (has_left (right_text (pair_in i) i.text) (right_texts is) t k))
    (λ t k. s t (first_state (pair_in i) (states_in is) t k)) known.0
    (right_items names labels numbers is (λ t k. h t (has_right (right_text (pair_in i) i.text) (right_texts is) t k)) (λ t k. s t (other_state (pair_in i) (states_in is) t k)) known.1)

-- a side of items that are one tree
pub side_of : {P : Type 0} (items : List (SideItem P)) → IsOneTree (pairs_of items) → (s : Side ℕ P) × (preorder_of s ≡ pairs_of items)
side_of items one = (first_of (label 0) (parse (pairs_of items)), preorder-first (label 0) (pairs_of items) one)

-- the lines that were read
abbrev pub IsSpelled : (List Word → List Item → Type 0) → Scale → RuleLine → Type 0
IsSpelled Right scale rule = (line : List ℕ) × SpellsLineBy Right scale line rule

-- those of a file
pub file_spelled : (Right : List Word → List Item → Type 0) (scale : Scale) (lines : List (List ℕ)) (start : List ℕ) (rules : List RuleLine) → HaveStartBy Right scale lines start rules → Each (IsSpelled Right scale) rules
file_spelled Right scale lines start rules h =
    file_has {Right = Right} (λ line. Unit {0}) (IsSpelled Right scale) scale (λ line rule p s. (line, s)) lines start rules (each_line_has lines) h

-- the parts of a rule but for its right side, for which a line stands
pub record RuleParts (names labels : List (List ℕ)) (line : RuleLine) (puts : List (Symbol ℕ (Pair ℕ) × ℕ)) : Type 0 where
  pub state : ℕ
  pub left : Side ℕ Variable
  pub is : IsRuleOf names labels state left puts line.cost line

pub some_parts : (Right : List Word → List Item → Type 0) (scale : Scale) (names labels : List (List ℕ)) (bytes : List ℕ) (line : RuleLine) (puts : List (Symbol ℕ (Pair ℕ) × ℕ)) → SpellsLineBy Right scale bytes line → HasAll labels (rule_texts line.parts) → HasAll names (state_of line.parts ∷ states_in line.parts.right) →
    Along (IsRightNode names labels (numbers_in line.parts.below)) puts line.parts.right → RuleParts names labels line puts
some_parts Right scale names labels bytes line puts spells h s right =
    let p : Parts = line.parts in
    let state = numbered names (state_of p) (s (state_of p) (inl refl)) in
    let root = numbered labels (label_of p) (h (label_of p) (inl refl)) in
    let below = left_items labels 0 p.below (λ t k. h t (inr (has_left (left_texts p.below) (right_texts p.right) t k))) in
    let items : List (SideItem Variable) = Label root.0 (rank_of p.root.kids) ∷ below.items in
    let one = are_one (pairs_of items) (p.root ∷ p.below) (tree_words _ (p.root ∷ p.below) spells.parts.spells.left)
    (refl, along_changes (IsLeftNode labels) HasRank (pairs_of below.items) p.below (λ s i n. n.1) below.are) in
    let left = side_of items one in
    let is_left : IsLeftSide labels (pairs_of items) p = ((root.1, refl), below.are) in
    record {
      state = state.0;
      left = left.0;
      is = record {
        state = state.1;
        left = subst (λ ss. IsLeftSide labels ss p) (sym left.1) is_left;
        numbered = subst (λ (xs : List Variable). AreNumbered 0 xs) (sym (holes_of_items items left.0 (sym left.1))) below.numbered;
        right = right;
        cost = refl;
      };
    }

-- a line stands for a rule
a_rule : (scale : Scale) (names labels : List (List ℕ)) (line : RuleLine) → IsSpelled IsTree scale line → HasAll labels (rule_texts line.parts) → HasAll names (state_of line.parts ∷ states_in line.parts.right) → (r : TransducerRule ℕ) × IsRule names labels r line
a_rule scale names labels line (bytes, spells) h s =
    let p : Parts = line.parts in
    let right = right_items names labels (numbers_in p.below) p.right (λ t k. h t (inr (has_right (left_texts p.below) (right_texts p.right) t k))) (λ t k. s t (inr k)) spells.known in
    let one = are_one (pairs_of right.0) p.right (tree_words _ p.right spells.parts.spells.right) (along_changes (IsRightNode names labels (numbers_in p.below)) HasRank (pairs_of right.0) p.right (λ s i n. n.1) right.1) in
    let side = side_of right.0 one in
    let parts = some_parts IsTree scale names labels bytes line (preorder_of side.0) spells h s (subst (λ ss. Along (IsRightNode names labels (numbers_in p.below)) ss p.right) (sym side.1) right.1) in
    (record { state = parts.state; left = parts.left; right = side.0; cost = line.cost }, parts.is)

-- lines that stand for rules, one by one
pub some_rules : {R : Type 0} (Is : R → RuleLine → Type 0) (Right : List Word → List Item → Type 0) (scale : Scale) (names labels : List (List ℕ)) →
    ((line : RuleLine) → IsSpelled Right scale line → HasAll labels (rule_texts line.parts) → HasAll names (state_of line.parts ∷ states_in line.parts.right) → (r : R) × Is r line) →
    (lines : List RuleLine) → Each (IsSpelled Right scale) lines → HasAll labels (file_texts lines) → HasAll names (states_of lines) → (rs : List R) × Along Is rs lines
some_rules Is Right scale names labels one [] spelled h s = ([], tt)
some_rules Is Right scale names labels one (line ∷ lines) spelled h s =
    let r = one line spelled.0 (λ t k. h t (has_left (rule_texts line.parts) (file_texts lines) t k))
    (λ t k. s t (has_left (state_of line.parts ∷ states_in line.parts.right) (states_of lines) t k)) in
    let more = some_rules Is Right scale names labels one lines spelled.1 (λ t k. h t (has_right (rule_texts line.parts) (file_texts lines) t k))
    (λ t k. s t (has_right (state_of line.parts ∷ states_in line.parts.right) (states_of lines) t k)) in
    (r.0 ∷ more.0, (r.1, more.1))

some_text : (scale : Scale) (bytes start : List ℕ) (lines : List RuleLine) → transducer_in scale bytes ≡ Ok (start, lines) → IsSomeText scale bytes
unfolding transducer_in
some_text scale bytes start lines e =
    let held = file_held scale 1 (lines_of bytes) start lines e in
    let n = gathered [] (start ∷ states_of lines) in
    let l = gathered [] (file_texts lines) in
    let rs = some_rules (IsRule n.0 l.0) IsTree scale n.0 l.0 (a_rule scale n.0 l.0) lines (file_spelled IsTree scale (lines_of bytes) start lines held.have)
    (all_added [] (file_texts lines) l.0 l.1) (λ t k. all_added [] (start ∷ states_of lines) n.0 n.1 t (inr k)) in
    let t : TransducerOf = record { names = n.0; rules = rs.0 } in (
      l.0,
      t,
      all_distinct [] (file_texts lines) l.0 l.1 tt,
      record {
        text = record { start = start; lines = lines; written = held.have; states = n.1; rules = rs.1 };
        small = all_small n.0 l.0 rs.0 lines rs.1 held.few;
      },
    )

-- each file is a text, or has a fault
pub text_or_fault : (scale : Scale) (bytes : List ℕ) → IsSomeText scale bytes ⊎ ((fault : FileFault) × IsFirstFault scale bytes fault)
text_or_fault scale bytes = by (transducer_in scale bytes) refl
  where
    by : (r : Result (List ℕ × List RuleLine) FileFault) → transducer_in scale bytes ≡ r → IsSomeText scale bytes ⊎ ((fault : FileFault) × IsFirstFault scale bytes fault)
    by (Ok p) e = inl (some_text scale bytes p.0 p.1 e)
    by (Err fault) e = inr (fault, (faults_exact scale bytes fault).0 e)
