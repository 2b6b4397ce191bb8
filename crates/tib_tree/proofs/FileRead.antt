-- How a file is read line by line.
use Rattle.std.proofs.Common.{◌≡◌, ℕ, ◌+◌, ◌-◌, ◌≤◌, inl, inr, List, [], ◌∷◌, ◌++◌, length, drop, ap, sym, ◌∙◌, subst, append-nil, Option, map, arith, refl}
use Rattle.std.specs.Prelude.{Some, None, Result, Ok, Err, slice_range}
use Rattle.tib_lex.specs.Lines.{lines_of, front, with_line}
use Rattle.tib_lex.specs.NextLine.{IsNextLine}
use Rattle.tib_lex.specs.FaultOf.{file_error_of}
use Rattle.tib_lex.specs.declared.lines.Line.{Line}
use Rattle.tib_lex.specs.declared.fault.FaultKind.{FaultKind}
use Rattle.tib_lex.specs.declared.fault.LineError.{LineError}
use Rattle.tib_lex.specs.declared.fault.LineError.TheVariants as line_errors
use Rattle.tib_lex.specs.declared.fault.ReadError.{ReadError}
use Rattle.tib_lex.specs.declared.fault.FileFault.{FileFault}
use Rattle.std.proofs.lemmas.List.{length-take-le, length-drop}
use Rattle.tib_lex.proofs.LinesRead.{front_none, front_more, line_read, none_left}
use Rattle.tib_tree.specs.Grows.{Grows, AddsAll}
use Rattle.tib_tree.specs.Written.{Item}
use Rattle.tib_tree.specs.Nodes.{AreNodes}
use Rattle.tib_tree.specs.Lines.{tree_line, texts_in}
use Rattle.tib_tree.specs.File.{trees_from, trees_of, AreTrees, item_texts, texts_in_file, Adds, AddsLine, IsFile, Pushes}
use Rattle.tib_tree.specs.Trees.{Tree, preorder_of}
use Rattle.tib_tree.proofs.NodesRead.{nodes_grow}
use Rattle.tib_tree.proofs.Adding.{adds_join, texts_more}

-- what was read so far
pub record SoFar (old labels : List (List ℕ)) (trees : List (Tree ℕ)) (n : ℕ) (left bytes : List ℕ) : Type 0 where
  pub done : List (List Item)
  pub trees_are : AreTrees labels trees done
  pub added : AddsAll old (item_texts done) labels
  pub wanted : front done (trees_from n (lines_of left)) ≡ trees_of bytes

trees_grow : (a b : List (List ℕ)) (ts : List (Tree ℕ)) (iss : List (List Item)) → Grows a b → AreTrees a ts iss → AreTrees b ts iss
trees_grow a b [] [] g h = tt
trees_grow a b [] (is ∷ iss) g h = absurd h
trees_grow a b (t ∷ ts) [] g h = absurd h
trees_grow a b (t ∷ ts) (is ∷ iss) g h = (nodes_grow a b (preorder_of t) is g h.0, trees_grow a b ts iss g h.1)

trees_more : (a : List (List ℕ)) (ts : List (Tree ℕ)) (iss : List (List Item)) (t : Tree ℕ) (is : List Item) → AreTrees a ts iss → AreNodes a (preorder_of t) is → AreTrees a (ts ++ t ∷ []) (iss ++ is ∷ [])
trees_more a [] [] t is h k = (k, tt)
trees_more a [] (js ∷ iss) t is h k = absurd h
trees_more a (u ∷ ts) [] t is h k = absurd h
trees_more a (u ∷ ts) (js ∷ iss) t is h k = (h.0, trees_more a ts iss t is h.1 k)

pub starts : (labels : List (List ℕ)) (bytes : List ℕ) → SoFar labels labels [] 1 bytes bytes
unfolding trees_of
starts labels bytes = record { done = []; trees_are = tt; added = refl; wanted = front_none (trees_from 1 (lines_of bytes)) }

step : (so : Result (List (List Item)) FileFault) (done : List (List Item)) (n at : ℕ) (bytes : List ℕ) (line : Line) (r : Result (Option (List Item)) FaultKind) → IsNextLine bytes n at line → tree_line (slice_range bytes line.start line.end) ≡ r → front done (trees_from n (lines_of (drop at bytes))) ≡ so → front done (with_line n r (trees_from (n + 1) (lines_of (drop line.next bytes)))) ≡ so
step so done n at bytes line r is e w = ap (front done) (ap (λ x. with_line n x (trees_from (n + 1) (lines_of (drop line.next bytes)))) (sym e) ∙ sym (line_read tree_line bytes n at line is)) ∙ w

pub adds : (old a b : List (List ℕ)) (ts us : List (Tree ℕ)) (n at : ℕ) (line : Line) (bytes : List ℕ) → IsNextLine bytes n at line → Grows a b → Adds b ts us (tree_line (slice_range bytes line.start line.end)) → AddsAll a (texts_in (tree_line (slice_range bytes line.start line.end))) b → SoFar old a ts n (drop at bytes) bytes → SoFar old b us (n + 1) (drop line.next bytes) bytes
adds old a b ts us n at line bytes next g (inl (none, same)) more so = record {
  done = so.done;
  trees_are = subst (λ (vs : List (Tree ℕ)). AreTrees b vs so.done) (sym same) (trees_grow a b ts so.done g so.trees_are);
  added =
      let same_table : b ≡ a = subst (λ w. AddsAll a (texts_in w) b) none more in
      subst (λ (l : List (List ℕ)). AddsAll old (item_texts so.done) l) (sym same_table) so.added;
  wanted = step (trees_of bytes) so.done n at bytes line (Ok None) next none so.wanted;
}
adds old a b ts us n at line bytes next g (inr (t, is, some, are, same)) more so = record {
  done = so.done ++ is ∷ [];
  trees_are = subst (λ (vs : List (Tree ℕ)). AreTrees b vs (so.done ++ is ∷ [])) (sym same) (trees_more b ts so.done t is (trees_grow a b ts so.done g so.trees_are) are);
  added =
      let here : AddsAll a (map (λ (i : Item). i.text) is) b = subst (λ w. AddsAll a (texts_in w) b) some more in
      subst (λ (l : List (List ℕ)). AddsAll old l b) (sym (texts_more so.done is)) (adds_join old a b (item_texts so.done) (map (λ (i : Item). i.text) is) so.added here);
  wanted = sym (front_more so.done is (trees_from (n + 1) (lines_of (drop line.next bytes)))) ∙ step (trees_of bytes) so.done n at bytes line (Ok (Some is)) next some so.wanted;
}

pub ended : (old a : List (List ℕ)) (ts : List (Tree ℕ)) (n at : ℕ) (bytes : List ℕ) → at ≡ length bytes → SoFar old a ts n (drop at bytes) bytes → (iss : List (List Item)) × (trees_of bytes ≡ Ok iss) × AreTrees a ts iss
ended old a ts n at bytes h so =
    (so.done, sym so.wanted ∙ ap (front so.done) (none_left tree_line bytes n at h) ∙ ap Ok (append-nil so.done), so.trees_are)

pub ended_added : (old a : List (List ℕ)) (ts : List (Tree ℕ)) (n at : ℕ) (bytes : List ℕ) → at ≡ length bytes → SoFar old a ts n (drop at bytes) bytes → AddsAll old (texts_in_file (trees_of bytes)) a
unfolding ended
ended_added old a ts n at bytes h so = subst (λ w. AddsAll old (texts_in_file w) a) (sym (ended old a ts n at bytes h so).1) so.added

pub line_added : (labels : List (List ℕ)) (before now : List (Tree ℕ)) (t : Tree ℕ) (r : Result (Unit {0}) LineError) (wanted : Result (Option (List Item)) FaultKind) → (is : List Item) × (wanted ≡ Ok (Some is)) × AreNodes labels (preorder_of t) is → Pushes before now t r → AddsLine labels before now r wanted
line_added labels before now t (Ok done) wanted (is, some, are) e = inr (t, is, some, are, e)
line_added labels before now t (Err (line_errors.Fault kind)) wanted h e = cc
line_added labels before now t (Err line_errors.OutOfMemory) wanted h e = tt

failed_as : (old a b : List (List ℕ)) (ts us : List (Tree ℕ)) (n m at : ℕ) (line : Line) (bytes : List ℕ) (error : LineError) → n ≡ m → IsNextLine bytes n at line → AddsLine b ts us (Err error) (tree_line (slice_range bytes line.start line.end)) → SoFar old a ts n (drop at bytes) bytes → IsFile b (Err (file_error_of m error)) (trees_of bytes)
failed_as old a b ts us n m at line bytes (line_errors.Fault kind) e next h so =
    sym (step (trees_of bytes) so.done n at bytes line (Err kind) next h so.wanted) ∙ ap (λ (k : ℕ). Err (record { line = k; kind = kind })) e
failed_as old a b ts us n m at line bytes line_errors.OutOfMemory e next h so = tt

pub failed : (old a b : List (List ℕ)) (ts us : List (Tree ℕ)) (n at : ℕ) (line : Line) (bytes : List ℕ) (error : LineError) (r : ReadError) → IsNextLine bytes n at line → r ≡ file_error_of line.number error → AddsLine b ts us (Err error) (tree_line (slice_range bytes line.start line.end)) → SoFar old a ts n (drop at bytes) bytes → IsFile b (Err r) (trees_of bytes)
failed old a b ts us n at line bytes error r next e h so =
    subst (λ (x : ReadError). IsFile b (Err x) (trees_of bytes)) (sym e) (failed_as old a b ts us n line.number at line bytes error (sym next.numbered) next h so)

-- the bytes of a line end before the next line begins
pub line_long : (bytes : List ℕ) (n at : ℕ) (line : Line) → IsNextLine bytes n at line → (at + length (slice_range bytes line.start line.end) ≤ line.next) × (at + length (slice_range bytes line.start line.end) ≤ length bytes)
line_long bytes n at line is =
    let order = is.order in
    let within = is.within in
    let starts_at = is.starts in
    let long : length (slice_range bytes line.start line.end) ≡ line.end - line.start = length-take-le (line.end - line.start) (drop line.start bytes) (omega (arith, length-drop line.start bytes)) in
    let next : line.end ≤ line.next = elim is.behind [ inl h ↦ omega (arith, h.1) | inr h ↦ omega (arith, h.1) ] in
    (omega arith, omega arith)
