-- The text of one tree has no fault, and bytes have one fault at most.
use Rattle.std.proofs.Common.{◌≡◌, ◌⊎◌, ℕ, ◌≤◌, inl, inr, List, [], ◌∷◌, length, refl, ap, sym, ◌∙◌, arith, suc, Option}
use Rattle.std.specs.Prelude.{Some, None, Result, Ok, Err}
use Rattle.tib_lex.specs.Lines.{lines_of, with_line, each_line, front}
use Rattle.tib_lex.specs.Lists.{Each}
use Rattle.tib_lex.specs.FirstFault.{FirstFault}
use Rattle.tib_lex.specs.declared.fault.FaultKind.{FaultKind}
use Rattle.tib_lex.specs.declared.fault.FileFault.{FileFault}
use Rattle.tib_tree.specs.Trees.{Tree}
use Rattle.tib_tree.specs.Written.{Item}
use Rattle.tib_tree.specs.Lines.{tree_line}
use Rattle.tib_tree.specs.File.{trees_of, AreTrees}
use Rattle.tib_tree.specs.TreesText.{IsGood, HasFault}
use Rattle.tib_tree.proofs.TreesText.{line_is, text_read, not_both, faults_exact}
use Rattle.tib_tree.specs.OneTree.{IsBlank, HasTree, IsFirstTree, IsSecondTree}
use Rattle.tib_tree.specs.OneTreeLaws.{TextsHaveNone, FaultsAreOne}

-- a line is not both blank and a tree, and has no fault where it is one of these
blank_tree : (line : List ℕ) → IsBlank line → HasTree line → ⊥
blank_tree line blank tree =
    let bad : (let o : Result (Option (List Item)) FaultKind = Ok None in o ≡ Ok (Some tree.0)) = sym (line_is line (Ok None) blank) ∙ line_is line (Ok (Some tree.0)) (tree.1, tree.2) in
    absurd (cc bad)

good_fault : (line : List ℕ) (kind : FaultKind) → IsGood line → HasFault line kind → ⊥
good_fault line kind good h =
    let bad : (let o : Result (Option (List Item)) FaultKind = Ok good.0 in o ≡ Err kind) = sym (line_is line (Ok good.0) good.1) ∙ line_is line (Err kind) h in
    absurd (cc bad)

no_first_fault : (n : ℕ) (lines : List (List ℕ)) (fault : FileFault) → Each IsGood lines → FirstFault IsGood HasFault n lines fault → ⊥
no_first_fault n [] fault good h = h
no_first_fault n (line ∷ lines) fault good (inl (l, h)) = good_fault line fault.kind good.0 h
no_first_fault n (line ∷ lines) fault good (inr (g, h)) = no_first_fault (suc n) lines fault good.1 h

-- the second tree of lines is in one line
first_once : (n : ℕ) (lines : List (List ℕ)) (a b : ℕ) → IsFirstTree n lines a → IsFirstTree n lines b → a ≡ b
first_once n [] a b h k = absurd h
first_once n (line ∷ lines) a b (inl (blank, h)) (inl (empty, k)) = first_once (suc n) lines a b h k
first_once n (line ∷ lines) a b (inl (blank, h)) (inr (tree, e)) = absurd (blank_tree line blank tree)
first_once n (line ∷ lines) a b (inr (tree, e)) (inl (blank, k)) = absurd (blank_tree line blank tree)
first_once n (line ∷ lines) a b (inr (tree, e)) (inr (other, f)) = e ∙ sym f

second_once : (n : ℕ) (lines : List (List ℕ)) (a b : ℕ) → IsSecondTree n lines a → IsSecondTree n lines b → a ≡ b
second_once n [] a b h k = absurd h
second_once n (line ∷ lines) a b (inl (blank, h)) (inl (empty, k)) = second_once (suc n) lines a b h k
second_once n (line ∷ lines) a b (inl (blank, h)) (inr (tree, k)) = absurd (blank_tree line blank tree)
second_once n (line ∷ lines) a b (inr (tree, h)) (inl (blank, k)) = absurd (blank_tree line blank tree)
second_once n (line ∷ lines) a b (inr (tree, h)) (inr (other, k)) = first_once (suc n) lines a b h k

-- blank lines have no tree
blank_first : (n : ℕ) (lines : List (List ℕ)) (m : ℕ) → Each IsBlank lines → IsFirstTree n lines m → ⊥
blank_first n [] m all h = h
blank_first n (line ∷ lines) m all (inl (blank, h)) = blank_first (suc n) lines m all.1 h
blank_first n (line ∷ lines) m all (inr (tree, e)) = blank_tree line all.0 tree

blank_second : (n : ℕ) (lines : List (List ℕ)) (m : ℕ) → Each IsBlank lines → IsSecondTree n lines m → ⊥
blank_second n [] m all h = h
blank_second n (line ∷ lines) m all (inl (blank, h)) = blank_second (suc n) lines m all.1 h
blank_second n (line ∷ lines) m all (inr (tree, h)) = blank_tree line all.0 tree

-- how many trees are read from lines
blank_more : (n : ℕ) (line : List ℕ) (more : Result (List (List Item)) FileFault) (iss : List (List Item)) → IsBlank line → with_line n (tree_line line) more ≡ Ok iss → more ≡ Ok iss
blank_more n line more iss blank e = sym (ap (λ r. with_line n r more) (line_is line (Ok None) blank)) ∙ e

tree_more : (n : ℕ) (line : List ℕ) (more : Result (List (List Item)) FileFault) (iss : List (List Item)) → HasTree line → with_line n (tree_line line) more ≡ Ok iss → (jss : List (List Item)) × (more ≡ Ok jss) × (length iss ≡ suc (length jss))
tree_more n line more iss tree e = by more (sym (ap (λ r. with_line n r more) (line_is line (Ok (Some tree.0)) (tree.1, tree.2))) ∙ e)
  where
    by : (r : Result (List (List Item)) FileFault) → front (tree.0 ∷ []) r ≡ Ok iss → (jss : List (List Item)) × (r ≡ Ok jss) × (length iss ≡ suc (length jss))
    by (Ok jss) f = let same : tree.0 ∷ jss ≡ iss = cc in (jss, refl, ap length (sym same))
    by (Err fault) f = let bad : Err fault ≡ Ok iss = f in absurd (cc)

none_read : (n : ℕ) (lines : List (List ℕ)) (iss : List (List Item)) → Each IsBlank lines → each_line tree_line n lines ≡ Ok iss → length iss ≡ 0
none_read n [] iss all e = let same : [] ≡ iss = cc in ap length (sym same)
none_read n (line ∷ lines) iss all e = none_read (suc n) lines iss all.1 (blank_more n line (each_line tree_line (suc n) lines) iss all.0 e)

first_read : (n : ℕ) (lines : List (List ℕ)) (m : ℕ) (iss : List (List Item)) → IsFirstTree n lines m → each_line tree_line n lines ≡ Ok iss → 1 ≤ length iss
first_read n [] m iss h e = absurd h
first_read n (line ∷ lines) m iss (inl (blank, h)) e = first_read (suc n) lines m iss h (blank_more n line (each_line tree_line (suc n) lines) iss blank e)
first_read n (line ∷ lines) m iss (inr (tree, l)) e = let r = tree_more n line (each_line tree_line (suc n) lines) iss tree e in omega (arith, r.2)

second_read : (n : ℕ) (lines : List (List ℕ)) (m : ℕ) (iss : List (List Item)) → IsSecondTree n lines m → each_line tree_line n lines ≡ Ok iss → 2 ≤ length iss
second_read n [] m iss h e = absurd h
second_read n (line ∷ lines) m iss (inl (blank, h)) e = second_read (suc n) lines m iss h (blank_more n line (each_line tree_line (suc n) lines) iss blank e)
second_read n (line ∷ lines) m iss (inr (tree, h)) e =
    let r = tree_more n line (each_line tree_line (suc n) lines) iss tree e in
    let some : 1 ≤ length r.0 = first_read (suc n) lines m r.0 h r.1 in
    omega (arith, r.2, some)

as_many : (labels : List (List ℕ)) (ts : List (Tree ℕ)) (iss : List (List Item)) → AreTrees labels ts iss → length ts ≡ length iss
as_many labels [] [] are = refl
as_many labels [] (is ∷ iss) are = absurd are
as_many labels (t ∷ ts) [] are = absurd are
as_many labels (t ∷ ts) (is ∷ iss) are = ap suc (as_many labels ts iss are.1)

pub no_fault : TextsHaveNone
no_fault labels bytes t fault text (inl first) = not_both labels bytes (t ∷ []) fault text.0 text.1 first
no_fault labels bytes t fault text (inr wrong) =
    let r = text_read labels 1 (lines_of bytes) (t ∷ []) text.0 text.1 in
    let many : 1 ≡ length r.0 = as_many labels (t ∷ []) r.0 r.2 in
    elim wrong.line [
      | inl (blank, e) ↦ let few : length r.0 ≡ 0 = none_read 1 (lines_of bytes) r.0 blank r.1 in absurd (omega (arith, many, few))
      | inr second ↦ let more : 2 ≤ length r.0 = second_read 1 (lines_of bytes) fault.line r.0 second r.1 in absurd (omega (arith, many, more))
    ]

fault_same : (a b : FileFault) → a.line ≡ b.line → a.kind ≡ b.kind → a ≡ b
fault_same a b l k = λ i. record { line = l i; kind = k i }

err_same : (r : Result (List (List Item)) FileFault) (a b : FileFault) → r ≡ Err a → r ≡ Err b → a ≡ b
err_same r a b e f =
    let same : (let o : Result (List (List Item)) FileFault = Err a in o ≡ Err b) = sym e ∙ f in
    cc same

line_once : (lines : List (List ℕ)) (a b : ℕ) → (Each IsBlank lines × (a ≡ 1)) ⊎ IsSecondTree 1 lines a → (Each IsBlank lines × (b ≡ 1)) ⊎ IsSecondTree 1 lines b → a ≡ b
line_once lines a b (inl (blank, e)) (inl (empty, f)) = e ∙ sym f
line_once lines a b (inl (blank, e)) (inr k) = absurd (blank_second 1 lines b blank k)
line_once lines a b (inr h) (inl (blank, f)) = absurd (blank_second 1 lines a blank h)
line_once lines a b (inr h) (inr k) = second_once 1 lines a b h k

pub one_fault : FaultsAreOne
one_fault bytes a b (inl h) (inl k) = err_same (trees_of bytes) a b ((faults_exact bytes a).1 h) ((faults_exact bytes b).1 k)
one_fault bytes a b (inl h) (inr k) = absurd (no_first_fault 1 (lines_of bytes) a k.good h)
one_fault bytes a b (inr h) (inl k) = absurd (no_first_fault 1 (lines_of bytes) b h.good k)
one_fault bytes a b (inr h) (inr k) = fault_same a b (line_once (lines_of bytes) a.line b.line h.line k.line) (h.kind ∙ sym k.kind)
