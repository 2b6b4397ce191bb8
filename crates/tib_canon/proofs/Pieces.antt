-- Lines one after another in a text.
use Rattle.tib_lex.proofs.Numbers.{below_cases}
use Rattle.tib_cost.specs.declared.Scale.{Scale}
use Rattle.std.proofs.Common.{◌≡◌, ℕ, ◌+◌, ◌-◌, ◌<◌, ◌≤◌, List, [], ◌∷◌, ◌++◌, length, take, drop, map, get_or, refl, ap, sym, ◌∙◌, subst, arith, zero, suc, inl, inr, append-nil, append_assoc, length-append}
use Rattle.std.proofs.lemmas.List.{length-map, get_or-map, get_or_append_left, map-append, take-append-le, take-append-drop, drop_more, take_more}
use Rattle.std.proofs.Math.Seq.{get_or-append_seam, take-length, take-suc, drop-append_seam}
use Rattle.tib_lex.specs.Lists.{Each}
use Rattle.tib_grammar.specs.Run.{rule_at, no_rule}
use Rattle.tib_grammar.specs.declared.Rule.{Rule}
use Rattle.tib_grammar_file.specs.Printed.{trees_text, cost_text, rule_text, rules_text}
use Rattle.tib_tree.specs.Trees.{only}
use Rattle.tib_canon.specs.Canonical.{line_of}
use Rattle.tib_canon.specs.Lines.{AreTexts, IsLineAt}
use Rattle.tib_cost.specs.Semiring.{most}
use Rattle.tib_canon.specs.declared.lines.Line.{Line}
use Rattle.tib_lex.proofs.Members.{each_more}

module _ (scale : Scale) (names labels : List (List ℕ)) where
  texts-append : (xs ys : List (Rule ℕ)) → rules_text scale names labels (xs ++ ys) ≡ rules_text scale names labels xs ++ rules_text scale names labels ys
  texts-append [] ys = refl
  texts-append (x ∷ xs) ys =
      ap (λ (t : List ℕ). rule_text scale names labels x ++ t) (texts-append xs ys)
      ∙ sym (append_assoc (rule_text scale names labels x) (rules_text scale names labels xs) (rules_text scale names labels ys))

  -- a line has a line feed
  some_text : (r : Rule ℕ) → 1 ≤ length (rule_text scale names labels r)
  some_text r =
      let cost : List ℕ = cost_text scale r.cost in
      let trees : List ℕ = trees_text names labels (only r.right) 0 in
      let arrow : List ℕ = 32 ∷ (45 ∷ (62 ∷ (32 ∷ []))) in
      let left : List ℕ = get_or names r.left [] in
      let feed : List ℕ = 10 ∷ [] in
      omega (arith, length-append cost feed, length-append trees (cost ++ feed), length-append arrow (trees ++ (cost ++ feed)), length-append left (arrow ++ (trees ++ (cost ++ feed))))

  pub no_texts : AreTexts scale names labels [] [] []
  no_texts = record { whole = refl; long = refl; places = λ i h. absurd (omega arith) }

  -- one more line
  pub texts_more :
      (rules : List (Rule ℕ)) (text ends : List ℕ) (r : Rule ℕ) (text1 ends1 : List ℕ) → AreTexts scale names labels rules text ends → text1 ≡ text ++ rule_text scale names labels r → ends1 ≡ ends ++ length text1 ∷ [] →
      AreTexts scale names labels (rules ++ r ∷ []) text1 ends1
  texts_more rules text ends r text1 ends1 t e f =
      let longer : length (rules ++ r ∷ []) ≡ length rules + 1 = length-append rules (r ∷ []) in
      let whole : text1 ≡ rules_text scale names labels (rules ++ r ∷ []) =
      e ∙ ap (λ (s : List ℕ). s ++ rule_text scale names labels r) t.whole
      ∙ ap (λ (s : List ℕ). rules_text scale names labels rules ++ s) (sym (append-nil (rule_text scale names labels r)))
      ∙ sym (texts-append rules (r ∷ [])) in
      record {
        whole = whole;
        long = omega (arith, ap length f, length-append ends (length text1 ∷ []), t.long, longer);
        places = λ i h. elim (below_cases i (length rules) (omega (arith, longer))) [
          | inl k ↦
              ap (λ (es : List ℕ). get_or es i 0) f ∙ get_or_append_left ends (length text1 ∷ []) 0 i (omega (arith, t.long)) ∙ t.places i k
              ∙ ap (λ (rs : List (Rule ℕ)). length (rules_text scale names labels rs)) (sym (take-append-le (suc i) rules (r ∷ []) (omega arith)))
          | inr k ↦
              let all : length (rules ++ r ∷ []) ≡ suc i = omega (arith, longer, k) in
              let place : i ≡ length ends = omega (arith, t.long, k) in
              ap (λ (es : List ℕ). get_or es i 0) f ∙ ap (λ (j : ℕ). get_or (ends ++ length text1 ∷ []) j 0) place ∙ get_or-append_seam ends (length text1) [] 0
              ∙ ap length whole
              ∙ ap (λ (rs : List (Rule ℕ)). length (rules_text scale names labels rs)) (sym (take-length (rules ++ r ∷ [])) ∙ ap (λ (j : ℕ). take j (rules ++ r ∷ [])) all)
        ];
      }

  -- what is known of the line at a place
  pub record IsPiece (rules : List (Rule ℕ)) (text ends : List ℕ) (n : ℕ) : Type 0 where
    pub first : get_or (0 ∷ ends) n 0 < get_or ends n 0
    pub last : get_or ends n 0 ≤ length text
    pub piece : take (get_or ends n 0 - 1 - get_or (0 ∷ ends) n 0) (drop (get_or (0 ∷ ends) n 0) text) ≡ line_of scale names labels (rule_at rules n)

  begins : (rules : List (Rule ℕ)) (text ends : List ℕ) → AreTexts scale names labels rules text ends → (n : ℕ) → n < length rules → get_or (0 ∷ ends) n 0 ≡ length (rules_text scale names labels (take n rules))
  begins rules text ends t zero h = refl
  begins rules text ends t (suc n) h = t.places n (omega arith)

  cut_out : (a b c : List ℕ) (i j : ℕ) → i ≡ length a → j ≡ length a + length b → 1 ≤ length b → take (j - 1 - i) (drop i (a ++ (b ++ c))) ≡ take (length b - 1) b
  cut_out a b c i j e f some =
      let many : j - 1 - i ≡ length b - 1 = omega (arith, e, f) in
      ap (λ (k : ℕ). take k (drop i (a ++ (b ++ c)))) many
      ∙ ap (λ (k : ℕ). take (length b - 1) (drop k (a ++ (b ++ c)))) e
      ∙ ap (take (length b - 1)) (drop-append_seam a (b ++ c))
      ∙ take-append-le (length b - 1) b c (omega arith)

  pub piece_at : (rules : List (Rule ℕ)) (text ends : List ℕ) → AreTexts scale names labels rules text ends → (n : ℕ) → n < length rules → IsPiece rules text ends n
  piece_at rules text ends t n h =
      let r : Rule ℕ = rule_at rules n in
      let a : List ℕ = rules_text scale names labels (take n rules) in
      let b : List ℕ = rule_text scale names labels r in
      let c : List ℕ = rules_text scale names labels (drop (n + 1) rules) in
      let begin : get_or (0 ∷ ends) n 0 ≡ length a = begins rules text ends t n h in
      let to_here : rules_text scale names labels (take (suc n) rules) ≡ a ++ b =
      ap (rules_text scale names labels) (take-suc rules n no_rule h) ∙ texts-append (take n rules) (r ∷ []) ∙ ap (λ (s : List ℕ). a ++ s) (append-nil b) in
      let end : get_or ends n 0 ≡ length a + length b = t.places n h ∙ ap length to_here ∙ length-append a b in
      let whole : text ≡ a ++ (b ++ c) =
      t.whole ∙ ap (rules_text scale names labels) (sym (take-append-drop n rules)) ∙ texts-append (take n rules) (drop n rules)
      ∙ ap (λ (rs : List (Rule ℕ)). a ++ rules_text scale names labels rs) (drop_more rules n no_rule h) in
      let some : 1 ≤ length b = some_text r in
      record {
        first = omega (arith, begin, end, some);
        last = omega (arith, end, ap length whole, length-append a (b ++ c), length-append b c);
        piece = ap (λ (s : List ℕ). take (get_or ends n 0 - 1 - get_or (0 ∷ ends) n 0) (drop (get_or (0 ∷ ends) n 0) s)) whole ∙ cut_out a b c (get_or (0 ∷ ends) n 0) (get_or ends n 0) begin end some;
      }

-- one more value under a function
pub mapped_more : {A B : Type 0} (f : A → B) (xs : List A) (d : A) (n : ℕ) → n < length xs → map f (take (n + 1) xs) ≡ map f (take n xs) ++ f (get_or xs n d) ∷ []
mapped_more f xs d n h = ap (map f) (take_more xs n d h) ∙ map-append f (take n xs) (get_or xs n d ∷ [])

-- the texts of the rules at positions, with one more position
pub texts_on :
    (scale : Scale) (names labels : List (List ℕ)) (rules : List (Rule ℕ)) (positions : List ℕ) (n : ℕ) (text ends text1 ends1 : List ℕ) (r : Rule ℕ) →
    AreTexts scale names labels (map (rule_at rules) (take n positions)) text ends → n < length positions → r ≡ rule_at rules (get_or positions n 0) → text1 ≡ text ++ rule_text scale names labels r →
    ends1 ≡ ends ++ length text1 ∷ [] → AreTexts scale names labels (map (rule_at rules) (take (n + 1) positions)) text1 ends1
texts_on scale names labels rules positions n text ends text1 ends1 r t h is e f =
    let one : text1 ≡ text ++ rule_text scale names labels (rule_at rules (get_or positions n 0)) = e ∙ ap (λ (x : Rule ℕ). text ++ rule_text scale names labels x) is in
    subst (λ (rs : List (Rule ℕ)). AreTexts scale names labels rs text1 ends1) (sym (mapped_more (rule_at rules) positions 0 n h))
    (texts_more scale names labels (map (rule_at rules) (take n positions)) text ends (rule_at rules (get_or positions n 0)) text1 ends1 t one f)

-- a line that was cut out of the texts
pub record IsCut (rules : List (Rule ℕ)) (positions text : List ℕ) (n begin end : ℕ) (line : Line) : Type 0 where
  pub position : line.position ≡ get_or positions n 0
  pub below : line.position < length rules
  pub left : line.left ≡ (rule_at rules line.position).left
  pub bytes : line.text.now ≡ take (end - 1 - begin) (drop begin text)
  pub within : (rule_at rules line.position).cost ≤ most

module _ (rules : List (Rule ℕ)) (positions text ends : List ℕ) (n begin : ℕ) (small : n < length positions) (from : begin ≡ get_or (0 ∷ ends) n 0) where
  piece_here : (scale : Scale) (names labels : List (List ℕ)) → AreTexts scale names labels (map (rule_at rules) positions) text ends → IsPiece scale names labels (map (rule_at rules) positions) text ends n
  piece_here scale names labels t = piece_at scale names labels (map (rule_at rules) positions) text ends t n (omega (arith, length-map positions (rule_at rules)))

  -- the ends of the line at a place are in order
  pub in_turn : (scale : Scale) × (names : List (List ℕ)) × (labels : List (List ℕ)) × AreTexts scale names labels (map (rule_at rules) positions) text ends → (end : ℕ) → end ≡ get_or ends n 0 → (begin < end) × (end ≤ length text)
  in_turn t end e = let p = piece_here t.0 t.1 t.2 t.3 in (omega (arith, p.first, from, e), omega (arith, p.last, e))

  module _ (end : ℕ) (to : end ≡ get_or ends n 0) (lines : List Line) (line : Line) (cut : IsCut rules positions text n begin end line) where
    is_line : (scale : Scale) (names labels : List (List ℕ)) → AreTexts scale names labels (map (rule_at rules) positions) text ends → IsLineAt scale names labels rules line
    is_line scale names labels t =
        let p = piece_here scale names labels t in
        let rule : rule_at (map (rule_at rules) positions) n ≡ rule_at rules line.position = get_or-map (rule_at rules) positions n 0 no_rule small ∙ ap (rule_at rules) (sym cut.position) in
        record {
          below = cut.below;
          left = cut.left;
          text = cut.bytes ∙ ap (λ (b : ℕ). take (end - 1 - b) (drop b text)) from ∙ ap (λ (e : ℕ). take (e - 1 - get_or (0 ∷ ends) n 0) (drop (get_or (0 ∷ ends) n 0) text)) to ∙ p.piece
              ∙ ap (line_of scale names labels) rule;
          within = cut.within;
        }

    pub record AreOn (now : List Line) : Type 0 where
      pub are : (scale : Scale) (names labels : List (List ℕ)) → AreTexts scale names labels (map (rule_at rules) positions) text ends → Each (IsLineAt scale names labels rules) now
      pub at : map (λ (l : Line). l.position) now ≡ take (n + 1) positions

    -- one more line
    pub lines_on :
        (now : List Line) → ((scale : Scale) (names labels : List (List ℕ)) → AreTexts scale names labels (map (rule_at rules) positions) text ends → Each (IsLineAt scale names labels rules) lines) →
        map (λ (l : Line). l.position) lines ≡ take n positions → now ≡ lines ++ line ∷ [] → AreOn now
    lines_on now each placed e = record {
      are = λ scale names labels t. subst (Each (IsLineAt scale names labels rules)) (sym e) (each_more (IsLineAt scale names labels rules) lines line (each scale names labels t) (is_line scale names labels t));
      at = ap (map (λ (l : Line). l.position)) e ∙ map-append (λ (l : Line). l.position) lines (line ∷ []) ∙ ap (λ (ps : List ℕ). ps ++ line.position ∷ []) placed
          ∙ ap (λ (p : ℕ). take n positions ++ p ∷ []) cut.position ∙ sym (take_more positions n 0 small);
    }

pub begin_on : (ends : List ℕ) (n end : ℕ) → end ≡ get_or ends n 0 → end ≡ get_or (0 ∷ ends) (n + 1) 0
begin_on ends n end e = let one : suc n ≡ n + 1 = omega arith in e ∙ ap (λ (j : ℕ). get_or (0 ∷ ends) j 0) one
