-- What `union` writes: one text, and that there is none cannot be where the normal form of the sum
-- is within the limit.
use Rattle.tib_cost.specs.declared.Scale.{Scale}
use Rattle.std.proofs.Common.{◌≡◌, ℕ, ◌<◌, ◌≤◌, ◌+◌, Bool, List, length, refl, sym, ◌∙◌, subst, arith}
use Rattle.tib_lex.specs.Lists.{Distinct}
use Rattle.tib_cost.specs.Semiring.{ProductLaws}
use Rattle.tib_grammar.specs.GrammarOf.{GrammarOf}
use Rattle.tib_grammar.specs.Range.{AreInRange}
use Rattle.tib_grammar.specs.Series.{HaveSameSeries}
use Rattle.tib_grammar.specs.declared.Rule.{Rule}
use Rattle.tib_grammar_file.specs.ByText.{AgreeByText}
use Rattle.tib_grammar_file.specs.Printable.{ArePrintable}
use Rattle.tib_canon.proofs.CanonicalByText.{one_canonical_text}
use Rattle.tib_canon.proofs.StateNames.{length-names_of, are_state_names}
use Rattle.tib_union.specs.Sum.{sum_rules, sum_grammar, HasLesserSeries}
use Rattle.tib_union.proofs.Summed.{sum_range, sum_series}
use Rattle.tib_union.proofs.SumTexts.{sum_leaves, sum_printable, sum_by_text}
use Rattle.tib_operations.specs.Normal.{IsNormalText}
use Rattle.tib_operations.specs.Union.{HasUnionText, IsUnionText, union_makes}
use Rattle.tib_operations.proofs.FormsByText.{within_by_text}
use Rattle.tib_operations.proofs.MadeParts.{IsEither, form_either}
use Rattle.tib_operations.proofs.OfNormal.{normal_there}
use Rattle.tib_operations.proofs.ReadSound.{IsSound}

pub union_once :
    (scale : Scale) (product : ℕ → ℕ → ℕ) (limit : ℕ) (labels others : List (List ℕ)) (f g p q : GrammarOf) (text other : List ℕ) → Distinct labels → Distinct others → AgreeByText labels others f p →
    AgreeByText labels others g q → HasUnionText scale product limit labels f g text → HasUnionText scale product limit others p q other → text ≡ other
union_once scale product limit labels others f g p q text other apart different left right a b =
    a.are
    ∙ one_canonical_text product scale labels others (sum_grammar f g) (sum_grammar p q) a.canonical.normal b.canonical.normal a.h b.h apart different (sum_by_text labels others f g p q left right) a.canonical.form
    b.canonical.form a.canonical.canonical b.canonical.canonical
    ∙ sym b.are

-- what is made

-- the normal form of the sum is within the limit, or has more parts
pub union_either : (product : ℕ → ℕ → ℕ) (limit : ℕ) (f g : GrammarOf) → IsEither (union_makes product limit f g)
union_either product limit f g = form_either product limit (sum_grammar f g)

-- it is within the limit over each table of labels
pub union_by_text :
    (product : ℕ → ℕ → ℕ) (limit : ℕ) (labels others : List (List ℕ)) → Distinct labels → Distinct others → (f g p q : GrammarOf) → AgreeByText labels others f p → AgreeByText labels others g q →
    (union_makes product limit f g).within → (union_makes product limit p q).within
union_by_text product limit labels others apart different f g p q a b w =
    within_by_text product limit labels others apart different (sum_grammar f g) (sum_grammar p q) (sum_by_text labels others f g p q a b) w

-- the series

-- what has the series of rules with the lesser series has the lesser series
pub lesser_on :
    (product : ℕ → ℕ → ℕ) (one two sum rules : List (Rule ℕ)) → HasLesserSeries product one two sum → HaveSameSeries product sum rules → HasLesserSeries product one two rules
lesser_on product one two sum rules lesser same t a b v x y = (λ s. (lesser t a b v x y).0 ((same t v).1 s), λ e. (same t v).0 ((lesser t a b v x y).1 e))

of_sum :
    (scale : Scale) (product : ℕ → ℕ → ℕ) (limit : ℕ) (labels : List (List ℕ)) (f g h : GrammarOf) (text : List ℕ) → HasLesserSeries product f.rules g.rules (sum_grammar f g).rules →
    IsNormalText scale product limit labels (sum_grammar f g) text h → IsUnionText scale product limit labels f g text h
of_sum scale product limit labels f g h text lesser is = (
  record {
    h = is.0.h;
    canonical = is.0.canonical;
    series = lesser_on product f.rules g.rules (sum_grammar f g).rules is.0.h.rules lesser is.0.series;
    are = is.0.are;
    read = is.0.read;
  },
  is.1,
)

-- the text of the canonical form of the sum's normal form is that of the union
pub union_text :
    (scale : Scale) (product : ℕ → ℕ → ℕ) (limit : ℕ) (labels : List (List ℕ)) (f g sum h : GrammarOf) (text : List ℕ) → sum ≡ sum_grammar f g → HasLesserSeries product f.rules g.rules sum.rules →
    IsNormalText scale product limit labels sum text h → IsUnionText scale product limit labels f g text h
union_text scale product limit labels f g sum h text same lesser is =
    of_sum scale product limit labels f g h text (subst (λ (n : GrammarOf). HasLesserSeries product f.rules g.rules n.rules) same lesser)
    (subst (λ (n : GrammarOf). IsNormalText scale product limit labels n text h) same is)

-- where what is made is within the limit

-- the sum of two grammars that were read, of not too many states, has a start and distinct state
-- names, its states are in range, and nothing is below a state
pub sum_sound : (f g : GrammarOf) → 1 + length f.names + length g.names ≤ 4294967296 → IsSound f → IsSound g → IsSound (sum_grammar f g)
sum_sound f g few s t =
    let many : length (sum_grammar f g).names ≡ 1 + length f.names + length g.names = length-names_of (1 + length f.names + length g.names) in
    record {
      start = omega (arith, many);
      names = are_state_names (1 + length f.names + length g.names) few;
      range =
          subst (λ (n : ℕ). AreInRange n (sum_rules (length f.names) f.rules g.rules)) (sym many)
          (sum_range (length f.names) (length g.names) f.rules g.rules s.start t.start s.range t.range);
      leaves = sum_leaves (length f.names) f.rules g.rules s.leaves t.leaves;
    }

module _ {levelled weighed : Bool} {product : ℕ → ℕ → ℕ} (laws : ProductLaws levelled weighed product) where
  pub union_there :
      (scale : Scale) (limit : ℕ) → limit < 4294967296 → (labels : List (List ℕ)) → Distinct labels → (f g : GrammarOf) → IsSound f → IsSound g → ArePrintable scale labels f.rules →
      ArePrintable scale labels g.rules → (union_makes product limit f g).within → ((text : List ℕ) → HasUnionText scale product limit labels f g text → ⊥) → ⊥
  union_there scale limit low labels apart f g s t p q w never =
      let few : 1 + length f.names + length g.names ≤ 4294967296 = omega (arith, low, w.within, w.form.counted, length-names_of (1 + length f.names + length g.names)) in
      normal_there laws scale limit low labels apart (sum_grammar f g) (sum_sound f g few s t) (sum_printable scale labels (length f.names) f.rules g.rules p q) w (λ text has.
      never text (of_sum scale product limit labels f g has.h text (sum_series laws f g s.start s.range t.start t.range) (has, refl)).0)
