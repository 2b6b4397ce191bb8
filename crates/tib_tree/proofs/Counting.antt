-- What was read so far of a file of one tree.
use Rattle.std.proofs.Common.{◌≡◌, ℕ, ◌+◌, inl, inr, List, [], ◌∷◌, ◌++◌, length, drop, refl, ap, sym, subst, arith, suc, Option}
use Rattle.std.specs.Prelude.{Some, None, Result, Ok, Err, slice_range}
use Rattle.tib_lex.specs.Lines.{lines_of, with_line, each_line}
use Rattle.tib_lex.specs.Lists.{Each}
use Rattle.tib_lex.specs.NextLine.{IsNextLine}
use Rattle.tib_lex.specs.FaultOf.{file_error_of}
use Rattle.tib_lex.specs.declared.lines.Line.{Line}
use Rattle.tib_lex.specs.declared.fault.FaultKind.{FaultKind}
use Rattle.tib_lex.specs.declared.fault.FaultKind.TheVariants.{BadTree}
use Rattle.tib_lex.specs.declared.fault.FileFault.{FileFault}
use Rattle.tib_lex.specs.declared.fault.LineError.{LineError}
use Rattle.tib_lex.specs.declared.fault.LineError.TheVariants as line_errors
use Rattle.tib_lex.specs.declared.fault.ReadError.{ReadError}
use Rattle.tib_lex.specs.declared.fault.ReadError.TheVariants as errors
use Rattle.tib_tree.specs.Trees.{Tree}
use Rattle.tib_tree.specs.Written.{Item}
use Rattle.tib_tree.specs.Lines.{tree_line, texts_in}
use Rattle.tib_tree.specs.File.{trees_of, AddsLine, IsFile}
use Rattle.tib_tree.specs.Grows.{Grows, AddsAll}
use Rattle.tib_tree.specs.Growth.{label_texts}
use Rattle.tib_tree.specs.TreesText.{HasTrees, IsSmall, IsGood, LineHolds}
use Rattle.tib_tree.proofs.Adding.{trees_texts}
use Rattle.tib_tree.proofs.FileRead.{SoFar, starts as file_starts, adds, ended as file_ended, failed as file_failed}
use Rattle.tib_tree.proofs.TreesText.{line_holds, texts_exact, faults_exact}
use Rattle.tib_tree.specs.OneTree.{IsTheText, IsBlank, HasTree, IsFirstTree, IsSecondTree, IsOneTreeFault, ReadsOneTree}
use Rattle.tib_tree.specs.TreesRead.{with_tree, Counts, CountsLine}
use Rattle.tib_tree.specs.declared.trees_read.TreesRead.{TreesRead}
use Rattle.tib_tree.specs.declared.trees_read.TreesRead.TheVariants as found

-- what a line has, by what is read from it
blank_read : (line : List ℕ) → tree_line line ≡ Ok None → IsBlank line
blank_read line e = subst (LineHolds line) e (line_holds line)

tree_read : (line : List ℕ) (is : List Item) → tree_line line ≡ Ok (Some is) → HasTree line
tree_read line is e = let h : LineHolds line (Ok (Some is)) = subst (LineHolds line) e (line_holds line) in (is, h.0, h.1)

-- the second tree of lines, by the first of them and the others
module _ (n m : ℕ) (line : List ℕ) (left more : List (List ℕ)) (is : left ≡ line ∷ more) where
  next : n + 1 ≡ suc n
  next = omega arith

  skip_first : IsBlank line → IsFirstTree (n + 1) more m → IsFirstTree n left m
  skip_first blank h = subst (λ (ls : List (List ℕ)). IsFirstTree n ls m) (sym is) (inl (blank, subst (λ (k : ℕ). IsFirstTree k more m) next h))

  skip_second : IsBlank line → IsSecondTree (n + 1) more m → IsSecondTree n left m
  skip_second blank h = subst (λ (ls : List (List ℕ)). IsSecondTree n ls m) (sym is) (inl (blank, subst (λ (k : ℕ). IsSecondTree k more m) next h))

  behind_first : HasTree line → IsFirstTree (n + 1) more m → IsSecondTree n left m
  behind_first tree h = subst (λ (ls : List (List ℕ)). IsSecondTree n ls m) (sym is) (inr (tree, subst (λ (k : ℕ). IsFirstTree k more m) next h))

  first_here : m ≡ n → HasTree line → IsFirstTree n left m
  first_here e tree = subst (λ (ls : List (List ℕ)). IsFirstTree n ls m) (sym is) (inr (tree, e))

-- the trees so far, by what is kept of them
abbrev pub Keeps : TreesRead → List (Tree ℕ) → Type 0
Keeps found.Nothing ts = ts ≡ []
Keeps (found.One t) ts = ts ≡ t ∷ []
Keeps (found.Second m) ts = Unit {0}

-- where the second tree of the file is, by the trees of the lines that are left
abbrev pub Leads : TreesRead → ℕ → List (List ℕ) → List ℕ → Type 0
Leads found.Nothing n left bytes = (m : ℕ) → IsSecondTree n left m → IsSecondTree 1 (lines_of bytes) m
Leads (found.One t) n left bytes = (m : ℕ) → IsFirstTree n left m → IsSecondTree 1 (lines_of bytes) m
Leads (found.Second m) n left bytes = IsSecondTree 1 (lines_of bytes) m

-- Lines were read up to a place, where the line with this number begins.
pub record IsUnderway (old labels : List (List ℕ)) (now : TreesRead) (n at : ℕ) (bytes : List ℕ) : Type 0 where
  pub trees : List (Tree ℕ)
  pub so_far : SoFar old labels trees n (drop at bytes) bytes
  pub keeps : Keeps now trees
  pub leads : Leads now n (lines_of (drop at bytes)) bytes

-- at first no line was read
pub starts : (labels : List (List ℕ)) (bytes : List ℕ) → IsUnderway labels labels found.Nothing 1 0 bytes
starts labels bytes = record { trees = []; so_far = file_starts labels bytes; keeps = refl; leads = λ m h. h }

blank_leads : (now : TreesRead) (n : ℕ) (line : List ℕ) (left more : List (List ℕ)) (bytes : List ℕ) → left ≡ line ∷ more → IsBlank line → Leads now n left bytes → Leads now (n + 1) more bytes
blank_leads found.Nothing n line left more bytes is blank lead = λ m h. lead m (skip_second n m line left more is blank h)
blank_leads (found.One t) n line left more bytes is blank lead = λ m h. lead m (skip_first n m line left more is blank h)
blank_leads (found.Second k) n line left more bytes is blank lead = lead

tree_leads :
    (now : TreesRead) (n : ℕ) (t : Tree ℕ) (line : List ℕ) (left more : List (List ℕ)) (bytes : List ℕ) → left ≡ line ∷ more → HasTree line → Leads now n left bytes →
    Leads (with_tree n t now) (n + 1) more bytes
tree_leads found.Nothing n t line left more bytes is tree lead = λ m h. lead m (behind_first n m line left more is tree h)
tree_leads (found.One s) n t line left more bytes is tree lead = lead n (first_here n n line left more is refl tree)
tree_leads (found.Second k) n t line left more bytes is tree lead = lead

tree_kept : (now : TreesRead) (n : ℕ) (t : Tree ℕ) (ts : List (Tree ℕ)) → Keeps now ts → Keeps (with_tree n t now) (ts ++ t ∷ [])
tree_kept found.Nothing n t ts e = ap (λ (us : List (Tree ℕ)). us ++ t ∷ []) e
tree_kept (found.One s) n t ts e = tt
tree_kept (found.Second k) n t ts e = tt

-- one more line
pub step :
    (old a b : List (List ℕ)) (before now : TreesRead) (n at : ℕ) (line : Line) (bytes : List ℕ) → IsNextLine bytes n at line → Grows a b →
    Counts b n before now (tree_line (slice_range bytes line.start line.end)) → AddsAll a (texts_in (tree_line (slice_range bytes line.start line.end))) b → IsUnderway old a before n at bytes →
    IsUnderway old b now (n + 1) line.next bytes
step old a b before now n at line bytes is grows (inl (none, same)) more u = record {
  trees = u.trees;
  so_far = adds old a b u.trees u.trees n at line bytes is grows (inl (none, refl)) more u.so_far;
  keeps = subst (λ (f : TreesRead). Keeps f u.trees) (sym same) u.keeps;
  leads = subst (λ (f : TreesRead). Leads f (n + 1) (lines_of (drop line.next bytes)) bytes) (sym same)
      (blank_leads before n (slice_range bytes line.start line.end) (lines_of (drop at bytes)) (lines_of (drop line.next bytes)) bytes is.lines (blank_read (slice_range bytes line.start line.end) none) u.leads);
}
step old a b before now n at line bytes is grows (inr (t, nodes, some, are, same)) more u = record {
  trees = u.trees ++ t ∷ [];
  so_far = adds old a b u.trees (u.trees ++ t ∷ []) n at line bytes is grows (inr (t, nodes, some, are, refl)) more u.so_far;
  keeps = subst (λ (f : TreesRead). Keeps f (u.trees ++ t ∷ [])) (sym same) (tree_kept before n t u.trees u.keeps);
  leads = subst (λ (f : TreesRead). Leads f (n + 1) (lines_of (drop line.next bytes)) bytes) (sym same)
      (tree_leads before n t (slice_range bytes line.start line.end) (lines_of (drop at bytes)) (lines_of (drop line.next bytes)) bytes is.lines (tree_read (slice_range bytes line.start line.end) nodes some) u.leads);
}

-- a file whose trees are read has no line with a fault
good_step : (n : ℕ) (line : List ℕ) (lines : List (List ℕ)) (iss : List (List Item)) (r : Result (Option (List Item)) FaultKind) (more : Result (List (List Item)) FileFault) → LineHolds line r → with_line n r more ≡ Ok iss → ((jss : List (List Item)) → more ≡ Ok jss → Each IsGood lines) → Each IsGood (line ∷ lines)
good_step n line lines iss (Err kind) more h e rest = let bad : Err (record { line = n; kind = kind }) ≡ Ok iss = e in absurd (cc)
good_step n line lines iss (Ok None) more h e rest = ((None, h), rest iss e)
good_step n line lines iss (Ok (Some is)) (Ok jss) h e rest = ((Some is, h), rest jss refl)
good_step n line lines iss (Ok (Some is)) (Err f) h e rest = let bad : Err f ≡ Ok iss = e in absurd (cc)

all_good : (n : ℕ) (lines : List (List ℕ)) (iss : List (List Item)) → each_line tree_line n lines ≡ Ok iss → Each IsGood lines
all_good n [] iss e = tt
all_good n (line ∷ lines) iss e = good_step n line lines iss (tree_line line) (each_line tree_line (suc n) lines) (line_holds line) e (λ jss f. all_good (suc n) lines jss f)

file_good : (bytes : List ℕ) (iss : List (List Item)) → trees_of bytes ≡ Ok iss → Each IsGood (lines_of bytes)
unfolding trees_of
file_good bytes iss e = all_good 1 (lines_of bytes) iss e

-- a file without trees has no tokens
all_blank : (labels lines : List (List ℕ)) → HasTrees labels lines [] → Each IsBlank lines
all_blank labels [] h = tt
all_blank labels (line ∷ lines) (inl (blank, h)) = (blank, all_blank labels lines h)
all_blank labels (line ∷ lines) (inr (t, rest, e, is, h)) = absurd (cc e)

-- what is returned at the end
abbrev pub IsAnswer : List (List ℕ) → List ℕ → TreesRead → Type 0
IsAnswer labels bytes found.Nothing = IsOneTreeFault bytes (record { line = 1; kind = BadTree })
IsAnswer labels bytes (found.One t) = IsTheText labels bytes t
IsAnswer labels bytes (found.Second m) = IsOneTreeFault bytes (record { line = m; kind = BadTree })

answers :
    (labels : List (List ℕ)) (bytes : List ℕ) (now : TreesRead) (ts : List (Tree ℕ)) (left : List (List ℕ)) (n : ℕ) → Each IsGood (lines_of bytes) → HasTrees labels (lines_of bytes) ts × Each IsSmall ts →
    Keeps now ts → Leads now n left bytes → IsAnswer labels bytes now
answers labels bytes found.Nothing ts left n good has e lead =
    inr (record { good = good; kind = refl; line = inl (all_blank labels (lines_of bytes) (subst (λ (us : List (Tree ℕ)). HasTrees labels (lines_of bytes) us) e has.0), refl) })
answers labels bytes (found.One t) ts left n good has e lead = subst (λ (us : List (Tree ℕ)). HasTrees labels (lines_of bytes) us × Each IsSmall us) e has
answers labels bytes (found.Second m) ts left n good has e lead = inr (record { good = good; kind = refl; line = inr lead })

pub ended : (old labels : List (List ℕ)) (now : TreesRead) (n at : ℕ) (bytes : List ℕ) → at ≡ length bytes → IsUnderway old labels now n at bytes → IsAnswer labels bytes now
ended old labels now n at bytes end u =
    let r = file_ended old labels u.trees n at bytes end u.so_far in
    answers labels bytes now u.trees (lines_of (drop at bytes)) n (file_good bytes r.0 r.1) ((texts_exact labels bytes u.trees).0 r) u.keeps u.leads

-- the table grew by the labels of the one tree
pub one_added : (old labels : List (List ℕ)) (t : Tree ℕ) (n at : ℕ) (bytes : List ℕ) → IsUnderway old labels (found.One t) n at bytes → AddsAll old (label_texts labels (t ∷ [])) labels
one_added old labels t n at bytes u =
    let all : AddsAll old (label_texts labels u.trees) labels = subst (λ (xs : List (List ℕ)). AddsAll old xs labels) (sym (trees_texts labels u.trees u.so_far.done u.so_far.trees_are)) u.so_far.added in
    subst (λ (ts : List (Tree ℕ)). AddsAll old (label_texts labels ts) labels) u.keeps all

-- a line with a fault
line_failed :
    (labels : List (List ℕ)) (n : ℕ) (before now : TreesRead) (ts : List (Tree ℕ)) (error : LineError) (wanted : Result (Option (List Item)) FaultKind) → CountsLine labels n before now (Err error) wanted →
    AddsLine labels ts ts (Err error) wanted
line_failed labels n before now ts (line_errors.Fault kind) wanted h = h
line_failed labels n before now ts line_errors.OutOfMemory wanted h = tt

file_told : (labels : List (List ℕ)) (bytes : List ℕ) (r : ReadError) → IsFile labels (Err r) (trees_of bytes) → ReadsOneTree labels bytes (Err r)
file_told labels bytes (errors.Fault fault) e = inl ((faults_exact bytes fault).0 e)
file_told labels bytes errors.OutOfMemory e = tt

pub failed :
    (old a b : List (List ℕ)) (before now : TreesRead) (n at : ℕ) (line : Line) (bytes : List ℕ) (error : LineError) (r : ReadError) → IsNextLine bytes n at line → r ≡ file_error_of line.number error →
    CountsLine b n before now (Err error) (tree_line (slice_range bytes line.start line.end)) → IsUnderway old a before n at bytes → ReadsOneTree b bytes (Err r)
failed old a b before now n at line bytes error r is e h u =
    file_told b bytes r
    (file_failed old a b u.trees u.trees n at line bytes error r is e (line_failed b n before now u.trees error (tree_line (slice_range bytes line.start line.end)) h) u.so_far)
