-- A text cut at its line feeds.
use Rattle.std.proofs.Common.{◌≡◌, ℕ, ◌+◌, ◌<◌, List, [], ◌∷◌, ◌++◌, length, map, take, drop, true, false, cond, refl, ap, sym, ◌∙◌, subst, arith, zero, suc, append_assoc, append-nil, length-append, inl, inr, true≢false}
use Rattle.std.specs.Prelude.{◌==◌}
use Rattle.std.specs.List.{prefix_len, list_all}
use Rattle.std.proofs.lemmas.Bool.Decides.{eqb_tells}
use Rattle.std.proofs.lemmas.List.{map-append, take-append-le}
use Rattle.std.proofs.Math.Seq.{take-length, drop-append_seam}
use Rattle.tib_lex.specs.Lines.{not_feed, HasNoFeed}
use Rattle.tib_lex.specs.Lists.{Each}
use Rattle.tib_lex.proofs.Members.{each_more}
use Rattle.tib_lex.proofs.Spelled.{and_true}
use Rattle.tib_transducer.specs.declared.TransducerRule.{TransducerRule}
use Rattle.tib_canon.specs.declared.lines.Line.{Line}
use Rattle.tib_canon.specs.TransducerLines.{fed, AreLinesOf, IsMoveLine, up_to}

one_more : (m n : ℕ) → m ≡ n → 1 + m ≡ suc n
one_more m n e = omega (arith, e)

-- the first line feed is after the first line
prefix_feed : (line rest : List ℕ) → HasNoFeed line → prefix_len not_feed (line ++ 10 ∷ rest) ≡ length line
prefix_feed [] rest h = refl
prefix_feed (b ∷ line) rest h =
    let t = and_true (not_feed b) (list_all not_feed line) h in
    ap (λ c. cond c (1 + prefix_len not_feed (line ++ 10 ∷ rest)) 0) t.0 ∙ one_more (prefix_len not_feed (line ++ 10 ∷ rest)) (length line) (prefix_feed line rest t.1)

pub record Goes (lines done : List (List ℕ)) (rest : List ℕ) : Type 0 where
  pub more : List (List ℕ)
  pub are : lines ≡ done ++ more
  pub rest_is : AreLinesOf rest more

no_bytes : (rest : List ℕ) → rest ≡ [] → length rest ≡ 0
no_bytes rest e = ap length e

-- the first line, and what comes after its line feed
pub record IsFirst (rest : List ℕ) (end : ℕ) (lines done : List (List ℕ)) : Type 0 where
  pub within : end < length rest
  pub goes : Goes lines (done ++ take end rest ∷ []) (drop (end + 1) rest)

pub first_line : (lines done : List (List ℕ)) (rest : List ℕ) (end : ℕ) → Goes lines done rest → 0 < length rest → end ≡ prefix_len not_feed rest → IsFirst rest end lines done
first_line lines done rest end g some e = by g.more g.are g.rest_is.is g.rest_is.free
  where
    by : (more : List (List ℕ)) → lines ≡ done ++ more → rest ≡ fed more → Each HasNoFeed more → IsFirst rest end lines done
    by [] a r f = absurd (omega (arith, some, no_bytes rest r))
    by (l ∷ ls) a r f =
        let long : end ≡ length l = e ∙ ap (prefix_len not_feed) r ∙ prefix_feed l (fed ls) f.0 in
        let line : take end rest ≡ l =
        ap (λ n. take n rest) long ∙ ap (take (length l)) r ∙ take-append-le (length l) l (10 ∷ fed ls) (omega arith) ∙ take-length l in
        let seam : drop (length l + 1) (l ++ 10 ∷ fed ls) ≡ fed ls =
        ap (λ xs. drop (length l + 1) xs) (sym (append_assoc l (10 ∷ []) (fed ls)))
        ∙ ap (λ n. drop n ((l ++ 10 ∷ []) ++ fed ls)) (sym (length-append l (10 ∷ [])))
        ∙ drop-append_seam (l ++ 10 ∷ []) (fed ls) in
        record {
          within = omega (arith, long, ap length r, length-append l (10 ∷ fed ls));
          goes = record {
            more = ls;
            are = a ∙ ap (λ x. done ++ x ∷ ls) (sym line) ∙ sym (append_assoc done (take end rest ∷ []) ls);
            rest_is = record { is = ap (λ n. drop (n + 1) rest) long ∙ ap (drop (length l + 1)) r ∙ seam; free = f.1 };
          };
        }

pub all_cut : (lines done : List (List ℕ)) (rest : List ℕ) → Goes lines done rest → length rest ≡ 0 → done ≡ lines
all_cut lines done rest g none = by g.more g.are g.rest_is.is
  where
    by : (more : List (List ℕ)) → lines ≡ done ++ more → rest ≡ fed more → done ≡ lines
    by [] a r = sym (a ∙ append-nil done)
    by (l ∷ ls) a r = absurd (omega (arith, none, ap length r, length-append l (10 ∷ fed ls)))

pub is_nothing : (n : ℕ) → (n == 0) ≡ true → n ≡ 0
is_nothing n e = elim (eqb_tells n 0) [ inl h ↦ h.1 | inr h ↦ cc ]

pub is_something : (n : ℕ) → (n == 0) ≡ false → 0 < n
is_something zero e = absurd (true≢false e)
is_something (suc n) e = omega arith

-- one more line is cut off
pub goes_on :
    {B : Type 0} (v : B → List ℕ) (lines : List (List ℕ)) (done now : List B) (b : B) (rest next : List ℕ) (end : ℕ) → Goes lines (map v done) rest → 0 < length rest → end ≡ prefix_len not_feed rest → v b ≡ take end rest → now ≡ done ++ b ∷ [] →
    next ≡ drop (end + 1) rest → Goes lines (map v now) next
goes_on v lines done now b rest next end g some e line n is =
    subst (Goes lines (map v now)) (sym is)
    (subst (λ ls. Goes lines ls (drop (end + 1) rest)) (sym (ap (map v) n ∙ map-append v done (b ∷ []) ∙ ap (λ l. map v done ++ l ∷ []) line)) (first_line lines (map v done) rest end g some e).goes)

-- the lines of rules, one more

pub up_more : (n : ℕ) → up_to n ++ n ∷ [] ≡ up_to (n + 1)
up_more n = let e : suc n ≡ n + 1 = omega arith in ap up_to e

pub line_more :
    (rules : List (TransducerRule ℕ)) (texts : List (List ℕ)) (n : ℕ) (lines now : List Line) (line : Line) → IsMoveLine rules texts line → line.position ≡ n → Each (IsMoveLine rules texts) lines →
    map (λ (l : Line). l.position) lines ≡ up_to n → now ≡ lines ++ line ∷ [] → Each (IsMoveLine rules texts) now × (map (λ (l : Line). l.position) now ≡ up_to (n + 1))
line_more rules texts n lines now line is at each places e = (
  subst (Each (IsMoveLine rules texts)) (sym e) (each_more (IsMoveLine rules texts) lines line each is),
  ap (map (λ (l : Line). l.position)) e ∙ map-append (λ (l : Line). l.position) lines (line ∷ []) ∙ ap (λ ps. ps ++ line.position ∷ []) places ∙ ap (λ p. up_to n ++ p ∷ []) at ∙ up_more n,
)
