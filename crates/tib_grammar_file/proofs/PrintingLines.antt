-- Lines printed one after another, however they are written.
use Rattle.std.proofs.Common.{◌≡◌, ℕ, ◌+◌, ◌<◌, ◌≤◌, List, [], ◌∷◌, ◌++◌, length, get_or, drop, refl, ap, sym, ◌∙◌, arith, append-nil, append_assoc, suc}
use Rattle.std.specs.Prelude.{Result, Ok, Err}
use Rattle.std.proofs.lemmas.List.{drop_all}
use Rattle.std.proofs.Math.Seq.{drop-cons}
use Rattle.tib_io.specs.declared.files.Failed.{Failed}
use Rattle.tib_grammar_file.specs.FileText.{lines_text}
use Rattle.tib_io.specs.Writes.{SinkSeen}
use Rattle.tib_io.specs.Wrote.{Wrote}
use Rattle.tib_grammar_file.proofs.Printing.{prints_nothing, prints_as, seq, cut}

-- some rules were printed, and others are left
pub record HalfLines {X R : Type 0} (seen : X → SinkSeen) (old now : X) (show : R → List ℕ) (rules : List R) (k : ℕ) : Type 0 where
  pub done : List ℕ
  pub text : done ++ lines_text show (drop k rules) ≡ lines_text show rules
  pub prints : let r : Result (Unit {0}) Failed = Ok tt in Wrote (seen old) (seen now) done r

module _ {X R : Type 0} (seen : X → SinkSeen) (old now : X) (show : R → List ℕ) (rules : List R) (k : ℕ) where
  rules_go : (half : HalfLines seen old now show rules k) (rule : R) → k < length rules → rule ≡ get_or rules k rule → (half.done ++ show rule) ++ lines_text show (drop (k + 1) rules) ≡ lines_text show rules
  rules_go half rule h is =
      let m : suc k ≡ k + 1 = omega arith in
      let cons : drop k rules ≡ rule ∷ drop (k + 1) rules = drop-cons rules k rule h ∙ ap (λ (r : R). r ∷ drop (suc k) rules) (sym is) ∙ ap (λ (i : ℕ). rule ∷ drop i rules) m in
      append_assoc half.done (show rule) (lines_text show (drop (k + 1) rules))
      ∙ ap (λ (rs : List R). half.done ++ lines_text show rs) (sym cons)
      ∙ half.text

  pub rule_failed : (x : X) (half : HalfLines seen old now show rules k) (rule : R) (e : Failed) → k < length rules → rule ≡ get_or rules k rule → (let r : Result (Unit {0}) Failed = Err e in Wrote (seen now) (seen x) (show rule) r) → (let r : Result (Unit {0}) Failed = Err e in Wrote (seen old) (seen x) (lines_text show rules) r)
  rule_failed x half rule e h is p =
      cut (Unit {0}) (Unit {0}) Failed seen old x (half.done ++ show rule) (lines_text show (drop (k + 1) rules)) (lines_text show rules) e (rules_go half rule h is)
      (seq (Unit {0}) (Unit {0}) Failed seen old now x half.done (show rule) (half.done ++ show rule) tt (Err e) refl half.prints p)

  pub rule_more : (x : X) (half : HalfLines seen old now show rules k) (rule : R) → k < length rules → rule ≡ get_or rules k rule → (let r : Result (Unit {0}) Failed = Ok tt in Wrote (seen now) (seen x) (show rule) r) → HalfLines seen old x show rules (k + 1)
  rule_more x half rule h is p = record {
    done = half.done ++ show rule;
    text = rules_go half rule h is;
    prints = seq (Unit {0}) (Unit {0}) Failed seen old now x half.done (show rule) (half.done ++ show rule) tt (Ok tt) refl half.prints p;
  }

  pub rules_done : (half : HalfLines seen old now show rules k) → length rules ≤ k → (let r : Result (Unit {0}) Failed = Ok tt in Wrote (seen old) (seen now) (lines_text show rules) r)
  rules_done half h =
      let all : half.done ≡ lines_text show rules = sym (append-nil half.done) ∙ ap (λ (rs : List R). half.done ++ lines_text show rs) (sym (drop_all k rules h)) ∙ half.text in
      prints_as (Unit {0}) (Unit {0}) Failed (seen old) (seen now) half.done (lines_text show rules) tt tt all half.prints

pub no_rules : {X R : Type 0} (seen : X → SinkSeen) (a : X) (show : R → List ℕ) (rules : List R) → HalfLines seen a a show rules 0
no_rules seen a show rules = record { done = []; text = refl; prints = prints_nothing (Unit {0}) Failed (seen a) tt }
