-- What is read of a file without a fault is the text of some tree-to-string transducer.
use Rattle.tib_cost.specs.declared.Scale.{Scale}
use Rattle.std.proofs.Common.{◌≡◌, ℕ, ◌⊎◌, inl, inr, false, List, [], ◌∷◌, refl, ap, sym, subst, Option}
use Rattle.std.specs.Prelude.{Some, None, Result, Ok, Err, nat_eq}
use Rattle.std.specs.List.{list_any}
use Rattle.tib_lex.specs.Grammar.{Word, open_, close, hash, arrow, name, label as tok_label}
use Rattle.tib_lex.specs.Lines.{lines_of}
use Rattle.tib_lex.specs.Lists.{Along, Each}
use Rattle.tib_lex.specs.declared.fault.FileFault.{FileFault}
use Rattle.tib_lex.proofs.Members.{has_left, has_right}
use Rattle.tib_lex.proofs.Spelled.{or_false}
use Rattle.tib_tree.specs.Grows.{AddsAll}
use Rattle.tib_tree.specs.Nodes.{rank_of}
use Rattle.tib_tree.specs.Written.{Item}
use Rattle.tib_grammar.specs.Sides.{label, hole}
use Rattle.tib_grammar_file.proofs.PrintedStates.{gathered, all_added}
use Rattle.tib_grammar_file.proofs.SomeText.{numbered, all_distinct}
use Rattle.tib_strings.specs.StringTransducerOf.{StringTransducerOf}
use Rattle.tib_strings.specs.declared.StringRule.{StringRule}
use Rattle.tib_strings.specs.declared.Word.{Word as Token}
use Rattle.tib_strings.specs.declared.Word.TheVariants as words
use Rattle.tib_transducer.specs.declared.Pair.{Pair}
use Rattle.tib_transducer_file.specs.Forms.{pair_in}
use Rattle.tib_transducer_file.specs.Value.{right_text}
use Rattle.tib_transducer_file.specs.Rule.{Parts, RuleLine, state_of, numbers_in, is_unknown}
use Rattle.tib_transducer_file.proofs.FileHeld.{file_held}
use Rattle.tib_transducer_file.proofs.SomeText.{HasAll, placed, left_texts, right_texts, rule_texts, file_texts, not_false, first_state, other_state, some_parts, some_rules, IsSpelled, file_spelled}
use Rattle.tib_strings.specs.Listed.{IsEntry, SpellsList}
use Rattle.tib_strings.specs.RuleValue.{IsRightSymbol, IsRightNode, nodes_of, IsRule, state_before, states_in, states_of}
use Rattle.tib_strings.specs.TransducerReading.{string_file_from, transducer_in}
use Rattle.tib_strings.specs.FileFaults.{IsFirstFault}
use Rattle.tib_strings.specs.TransducerLaws.{IsSomeText}
use Rattle.tib_strings.specs.TransducerText.{ReadsAs}
use Rattle.tib_strings.specs.Entries.{lists}
use Rattle.tib_strings.proofs.FaultsOnce.{faults_exact}
use Rattle.tib_strings.proofs.FileText.{all_small}

-- right sides
abbrev RightItems : List (List ℕ) → List (List ℕ) → List ℕ → List Item → Type 0
RightItems names labels numbers is = (ws : List (Token ℕ)) × Along (IsRightNode names labels numbers) (nodes_of ws) is

right_more : (names labels : List (List ℕ)) (numbers : List ℕ) (i : Item) (is : List Item) (o : Option (List ℕ × ℕ)) → pair_in i ≡ o → HasAll labels (right_text o i.text) → HasAll names (state_before o []) → is_unknown numbers o ≡ false → i.kids ≡ None → RightItems names labels numbers is → RightItems names labels numbers (i ∷ is)
right_more names labels numbers i is None e h s u k r =
    let t = numbered labels i.text (h i.text (inl refl)) in
    (words.Word t.0 ∷ r.0, ((subst (λ o. IsRightSymbol names labels numbers (label t.0) o i.text) (sym e) t.1, sym (ap rank_of k)), r.1))
right_more names labels numbers i is (Some q) e h s u k r =
    let state = numbered names q.0 (s q.0 (inl refl)) in
    let place = placed numbers q.1 (not_false (list_any (nat_eq q.1) numbers) u) in
    let x : Pair ℕ = record { state = state.0; variable = place.0 } in
    (words.Hole x ∷ r.0, ((subst (λ o. IsRightSymbol names labels numbers (hole x) o i.text) (sym e) (state.1, place.1), sym (ap rank_of k)), r.1))

right_items : (names labels : List (List ℕ)) (numbers : List ℕ) (is : List Item) → HasAll labels (right_texts is) → HasAll names (states_in is) → list_any (λ i. is_unknown numbers (pair_in i)) is ≡ false → Each (λ (i : Item). i.kids ≡ None) is → RightItems names labels numbers is
right_items names labels numbers [] h s u leaves = ([], tt)
right_items names labels numbers (i ∷ is) h s u leaves =
    let known = or_false (is_unknown numbers (pair_in i)) (list_any (λ i. is_unknown numbers (pair_in i)) is) u in
    right_more names labels numbers i is (pair_in i) refl (λ t k. h t (has_left (right_text (pair_in i) i.text) (right_texts is) t k))
    (λ t k. s t (first_state (pair_in i) (states_in is) t k)) known.0 leaves.0
    (right_items names labels numbers is (λ t k. h t (has_right (right_text (pair_in i) i.text) (right_texts is) t k)) (λ t k. s t (other_state (pair_in i) (states_in is) t k)) known.1 leaves.1)

-- the items of a list have no children
entries_leaves : (tokens : List Word) (is : List Item) → Along IsEntry tokens is → Each (λ (i : Item). i.kids ≡ None) is
entries_leaves [] [] h = tt
entries_leaves [] (i ∷ is) h = absurd h
entries_leaves (t ∷ tokens) [] h = absurd h
entries_leaves (name text ∷ tokens) (i ∷ is) h = (ap (λ (j : Item). j.kids) h.0.0, entries_leaves tokens is h.1)
entries_leaves (tok_label text ∷ tokens) (i ∷ is) h = (ap (λ (j : Item). j.kids) h.0, entries_leaves tokens is h.1)
entries_leaves (open_ ∷ tokens) (i ∷ is) h = absurd h.0
entries_leaves (close ∷ tokens) (i ∷ is) h = absurd h.0
entries_leaves (hash ∷ tokens) (i ∷ is) h = absurd h.0
entries_leaves (arrow ∷ tokens) (i ∷ is) h = absurd h.0

list_leaves : (tokens : List Word) (is : List Item) → SpellsList tokens is → Each (λ (i : Item). i.kids ≡ None) is
list_leaves tokens is (inl (e, none)) = subst (λ (js : List Item). Each (λ (i : Item). i.kids ≡ None) js) (sym none) tt
list_leaves tokens is (inr h) = entries_leaves tokens is h

-- a line stands for a rule
a_rule : (scale : Scale) (names labels : List (List ℕ)) (line : RuleLine) → IsSpelled SpellsList scale line → HasAll labels (rule_texts line.parts) → HasAll names (state_of line.parts ∷ states_in line.parts.right) → (r : StringRule ℕ) × IsRule names labels r line
a_rule scale names labels line (bytes, spells) h s =
    let p : Parts = line.parts in
    let spelled = spells.parts.spells in
    let right = right_items names labels (numbers_in p.below) p.right (λ t k. h t (inr (has_right (left_texts p.below) (right_texts p.right) t k))) (λ t k. s t (inr k)) spells.known (list_leaves spelled.right_words p.right spelled.right) in
    let parts = some_parts SpellsList scale names labels bytes line (nodes_of right.0) spells h s right.1 in
    (record { state = parts.state; left = parts.left; right = right.0; cost = line.cost }, parts.is)

-- the text of a transducer over a table to which only texts were added
pub record IsAddedText (scale : Scale) (early : List (List ℕ)) (bytes : List ℕ) : Type 0 where
  pub texts : List (List ℕ)
  pub labels : List (List ℕ)
  pub t : StringTransducerOf
  pub adds : AddsAll early texts labels
  pub reads : ReadsAs scale labels bytes t

-- over a table that has others already
pub some_text : (scale : Scale) (early : List (List ℕ)) (bytes start : List ℕ) (lines : List RuleLine) → string_file_from scale 1 (lines_of bytes) ≡ Ok (start, lines) → IsAddedText scale early bytes
some_text scale early bytes start lines e =
    let held = file_held lists scale 1 (lines_of bytes) start lines e in
    let n = gathered [] (start ∷ states_of lines) in
    let l = gathered early (file_texts lines) in
    let rs = some_rules (IsRule n.0 l.0) SpellsList scale n.0 l.0 (a_rule scale n.0 l.0) lines (file_spelled SpellsList scale (lines_of bytes) start lines held.have)
    (all_added early (file_texts lines) l.0 l.1) (λ t k. all_added [] (start ∷ states_of lines) n.0 n.1 t (inr k)) in
    record {
      texts = file_texts lines;
      labels = l.0;
      t = record { names = n.0; rules = rs.0 };
      adds = l.1;
      reads = record {
        text = record { start = start; lines = lines; written = held.have; states = n.1; rules = rs.1 };
        small = all_small n.0 l.0 rs.0 lines rs.1 held.few;
      };
    }

-- each file is a text, or has a fault
pub text_or_fault : (scale : Scale) (bytes : List ℕ) → IsSomeText scale bytes ⊎ ((fault : FileFault) × IsFirstFault scale bytes fault)
unfolding transducer_in
text_or_fault scale bytes = by (transducer_in scale bytes) refl
  where
    by : (r : Result (List ℕ × List RuleLine) FileFault) → transducer_in scale bytes ≡ r → IsSomeText scale bytes ⊎ ((fault : FileFault) × IsFirstFault scale bytes fault)
    by (Ok p) e =
        let s = some_text scale [] bytes p.0 p.1 e in
        inl (s.labels, s.t, all_distinct [] s.texts s.labels s.adds tt, s.reads)
    by (Err fault) e = inr (fault, (faults_exact scale bytes fault).0 e)
