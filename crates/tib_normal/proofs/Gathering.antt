-- How the rows of one side are gathered while it spreads.
use Rattle.std.specs.Prelude.{◌≡◌, ℕ, ◌+◌, ◌<◌, ◌≤◌, ◌⊎◌, List, [], ◌∷◌, ◌++◌, length, Option, None, Some, Contains, Bool, refl, slice_set, sum_by, ◌*◌}
use Rattle.std.proofs.Common.{get_or, arith, ap, sym, ◌∙◌, subst, inl, inr}
use Rattle.std.proofs.lemmas.List.{get_or-set_same, get_or-set_other, length-set}
use Rattle.std.proofs.lemmas.List.Sums.{sum_by-set}
use Rattle.tib_lex.specs.Lists.{Has, total}
use Rattle.tib_grammar.specs.Range.{AreInRange, AreBelow}
use Rattle.tib_grammar.specs.declared.Rule.{Rule}
use Rattle.tib_grammar.proofs.Members.{has_left, has_right, has_either}
use Rattle.tib_cost.specs.Semiring.{ProductLaws, most}
use Rattle.tib_cost.specs.Least.{IsLeast, AtMost}
use Rattle.tib_normal.specs.NormalForm.{rule_parts}
use Rattle.tib_normal.specs.Offers.{IsOffer}
use Rattle.tib_normal.specs.Closure.{IsClosing, Skips, Settles, AreListed}
use Rattle.tib_normal.specs.Entries.{TakesLeast, unset}
use Rattle.tib_normal.specs.Links.{no_key}
use Rattle.tib_normal.specs.Ways.{AreEnds}
use Rattle.tib_normal.specs.Gathered.{AreOther, AreLeastRows, AreGathered, HaveMoreParts, row_parts, rule_of}
use Rattle.tib_normal.specs.declared.row.Row.{Row}
use Rattle.tib_normal.specs.declared.spread.Spread.{Spread}
use Rattle.tib_normal.proofs.Forming.{joined}
use Rattle.tib_normal.proofs.Closing.{unset_one, fewer-left, listed-more, below-more, offer-below, popped, skipped, settled, ended}
use Rattle.tib_lex.proofs.Lists.{total_append}
use Rattle.tib_lex.proofs.Numbers.{same_or_other}

same_or_more : (t s : ℕ) → s ≤ t → (t ≡ s) ⊎ (s < t)
same_or_more t s h = grind arith

-- the row of a state, a side and a cost
abbrev pub row : ℕ → ℕ → ℕ → Row
row q s c = record { state = q; side = s; cost = c }

-- the rows of the sides after s, and those of s for the states that have their costs
pub record IsGathering (product : ℕ → ℕ → ℕ) (rules : List (Rule ℕ)) (numbers : List ℕ) (s sides states : ℕ) (costs : ℕ → Option ℕ) (rows : List Row) : Type 0 where
  pub are : AreLeastRows product rules numbers sides states rows
  pub told : (r d : ℕ) → costs r ≡ Some d → Has rows (row r s d)
  pub own : (x : Row) → Has rows x → (s < x.side) ⊎ ((x.side ≡ s) × (costs x.state ≡ Some x.cost))
  pub whole :
      (q t c : ℕ) → s < t → t < sides → IsOffer product rules numbers q t c → c ≤ most →
      (d : ℕ) × Has rows (row q t d)

module _ {levelled weighted : Bool} {product : ℕ → ℕ → ℕ} (laws : ProductLaws levelled weighted product) (rules : List (Rule ℕ)) (numbers : List ℕ) (s sides states : ℕ) where
  pub gathering-start :
      (costs : ℕ → Option ℕ) (rows : List Row) → ((r : ℕ) → costs r ≡ None) → AreGathered product rules numbers (s + 1) sides states rows →
      IsGathering product rules numbers s sides states costs rows
  gathering-start costs rows clear gathered = record {
    are = gathered.are;
    told = λ r d e. let v : None ≡ Some d = sym (clear r) ∙ e in absurd (cc v);
    own = λ x h. inl (omega (arith, gathered.from x h));
    whole = λ q t c h b o k. gathered.whole q t c (omega (arith, h)) b o k;
  }

  -- all states that get the side have it
  pub gathering-end :
      (costs : ℕ → Option ℕ) (rows : List Row) → IsClosing product rules numbers s costs [] → IsGathering product rules numbers s sides states costs rows →
      AreGathered product rules numbers s sides states rows
  gathering-end costs rows closing gathering = record {
    are = gathering.are;
    from = λ x h. elim (gathering.own x h) [ inl k ↦ omega (arith, k) | inr k ↦ omega (arith, k.0) ];
    whole = λ q t c h b o k. whole q t c b o k (same_or_more t s h);
  }
    where
      known : (q c : ℕ) (v : Option ℕ) → costs q ≡ v → AtMost v c → (d : ℕ) × Has rows (row q s d)
      known q c None e a = absurd a
      known q c (Some d) e a = (d, gathering.told q d e)

      whole : (q t c : ℕ) → t < sides → IsOffer product rules numbers q t c → c ≤ most → (t ≡ s) ⊎ (s < t) → (d : ℕ) × Has rows (row q t d)
      whole q t c b o k (inr l) = gathering.whole q t c l b o k
      whole q t c b o k (inl e) =
          let here : IsOffer product rules numbers q s c = subst (λ z. IsOffer product rules numbers q z c) e o in
          subst (λ z. (d : ℕ) × Has rows (row q z d)) (sym e) (known q c (costs q) refl ((ended laws rules numbers s costs closing q).lower c here k))

  -- one more row, of a state that had no cost
  rows-more :
      (costs : ℕ → Option ℕ) (rows : List Row) (q c : ℕ) → IsGathering product rules numbers s sides states costs rows → costs q ≡ None → q < states → s < sides →
      IsLeast (IsOffer product rules numbers q s) (Some c) → AreLeastRows product rules numbers sides states (rows ++ row q s c ∷ [])
  rows-more costs rows q c gathering unknown below side_below least = record {
    least = λ x h. in_least x (has_either rows (row q s c ∷ []) x h);
    state_below = λ x h. in_state x (has_either rows (row q s c ∷ []) x h);
    side_below = λ x h. in_side x (has_either rows (row q s c ∷ []) x h);
    apart = joined AreOther rows (row q s c ∷ []) gathering.are.apart (tt, tt) apart;
  }
    where
      one : (x : Row) → Has (row q s c ∷ []) x → row q s c ≡ x
      one x (inl e) = e
      one x (inr a) = absurd a

      in_least : (x : Row) → Has rows x ⊎ Has (row q s c ∷ []) x → IsLeast (IsOffer product rules numbers x.state x.side) (Some x.cost)
      in_least x (inl h) = gathering.are.least x h
      in_least x (inr h) = subst (λ (y : Row). IsLeast (IsOffer product rules numbers y.state y.side) (Some y.cost)) (one x h) least

      in_state : (x : Row) → Has rows x ⊎ Has (row q s c ∷ []) x → x.state < states
      in_state x (inl h) = gathering.are.state_below x h
      in_state x (inr h) = subst (λ (y : Row). y.state < states) (one x h) below

      in_side : (x : Row) → Has rows x ⊎ Has (row q s c ∷ []) x → x.side < sides
      in_side x (inl h) = gathering.are.side_below x h
      in_side x (inr h) = subst (λ (y : Row). y.side < sides) (one x h) side_below

      apart : (x y : Row) → Has rows x → Has (row q s c ∷ []) y → x.state ≡ y.state → x.side ≡ y.side → ⊥
      apart x y h k e d =
          let state : x.state ≡ q = e ∙ sym (ap (λ (z : Row). z.state) (one y k)) in
          let side : x.side ≡ s = d ∙ sym (ap (λ (z : Row). z.side) (one y k)) in
          elim (gathering.own x h) [
            | inl l ↦ omega (arith, l, side)
            | inr l ↦ let v : None ≡ Some x.cost = sym unknown ∙ ap costs (sym state) ∙ l.1 in absurd (cc v)
          ]

  gathering-more :
      (costs after : ℕ → Option ℕ) (rows : List Row) (q c : ℕ) → IsGathering product rules numbers s sides states costs rows → costs q ≡ None → q < states → s < sides →
      IsLeast (IsOffer product rules numbers q s) (Some c) → after q ≡ Some c → ((r : ℕ) → (r ≡ q → ⊥) → after r ≡ costs r) →
      IsGathering product rules numbers s sides states after (rows ++ row q s c ∷ [])
  gathering-more costs after rows q c gathering unknown below side_below least here others = record {
    are = rows-more costs rows q c gathering unknown below side_below least;
    told = λ r d e. told r d e (same_or_other r q);
    own = λ x h. own x (has_either rows (row q s c ∷ []) x h);
    whole = λ p t m h b o k. let found = gathering.whole p t m h b o k in (found.0, has_left rows (row q s c ∷ []) (row p t found.0) found.1);
  }
    where
      told : (r d : ℕ) → after r ≡ Some d → (r ≡ q) ⊎ (r ≡ q → ⊥) → Has (rows ++ row q s c ∷ []) (row r s d)
      told r d e (inl k) =
          let v : Some c ≡ Some d = sym here ∙ ap after (sym k) ∙ e in
          let same : c ≡ d = cc v in
          has_right rows (row q s c ∷ []) (row r s d) (inl (rw (k, same) refl))
      told r d e (inr k) = has_left rows (row q s c ∷ []) (row r s d) (gathering.told r d (sym (others r k) ∙ e))

      kept : (x : Row) → costs x.state ≡ Some x.cost → (x.state ≡ q) ⊎ (x.state ≡ q → ⊥) → after x.state ≡ Some x.cost
      kept x e (inl k) = let v : None ≡ Some x.cost = sym unknown ∙ ap costs (sym k) ∙ e in absurd (cc v)
      kept x e (inr k) = others x.state k ∙ e

      own : (x : Row) → Has rows x ⊎ Has (row q s c ∷ []) x → (s < x.side) ⊎ ((x.side ≡ s) × (after x.state ≡ Some x.cost))
      own x (inl h) = elim (gathering.own x h) [ inl k ↦ inl k | inr k ↦ inr (k.0, kept x k.1 (same_or_other x.state q)) ]
      own x (inr (inl e)) =
          subst (λ (y : Row). (s < y.side) ⊎ ((y.side ≡ s) × (after y.state ≡ Some y.cost))) e (inr (refl, here))
      own x (inr (inr a)) = absurd a

  -- the entries that a step leaves, and the rows and their parts, which were `parts` at first for
  -- the old rows
  pub record IsFollowing (table : List (List ℕ)) (first : List Row) (at_first : ℕ) (spread : Spread) (rows : List Row) (parts : ℕ) : Type 0 where
    pub closing : IsClosing product rules numbers s (λ r. get_or spread.costs.items r None) spread.agenda
    pub gathering : IsGathering product rules numbers s sides states (λ r. get_or spread.costs.items r None) rows
    pub listed : AreListed spread.costs.items spread.reached.items
    pub below : AreBelow states spread.reached.items
    pub long : length spread.costs.items ≡ states
    pub sum : parts + total (row_parts table) first ≡ at_first + total (row_parts table) rows

  -- a state that waits is in range
  pub entry-below :
      (table : List (List ℕ)) (first : List Row) (at_first : ℕ) (at : Spread) (rows : List Row) (parts : ℕ) → AreInRange states rules → IsFollowing table first at_first at rows parts →
      (e : ℕ × ℕ) → Contains at.agenda e → e.1 < states
  entry-below table first at_first at rows parts range f e h = offer-below product rules numbers states e.1 s e.0 range (f.closing.offers e h).0

  -- the first entries
  pub following-start :
      (table : List (List ℕ)) (rows : List Row) (parts : ℕ) (spread : Spread) → ((r : ℕ) → get_or spread.costs.items r None ≡ None) → spread.reached.items ≡ [] → length spread.costs.items ≡ states →
      IsClosing product rules numbers s (λ r. get_or spread.costs.items r None) spread.agenda → AreGathered product rules numbers (s + 1) sides states rows → IsFollowing table rows parts spread rows parts
  following-start table rows parts spread clear none long closing gathered = record {
    closing = closing;
    gathering = gathering-start (λ r. get_or spread.costs.items r None) rows clear gathered;
    listed = λ r d e. let v : None ≡ Some d = sym (clear r) ∙ e in absurd (cc v);
    below = λ i h. absurd (omega (arith, h, ap length none));
    long = long;
    sum = refl;
  }

  -- after a visit, and how the entries and the states without a cost grow less
  pub record Followed (table : List (List ℕ)) (first : List Row) (at_first : ℕ) (at new : Spread) (rows : List Row) (parts : ℕ) : Type 0 where
    pub following : IsFollowing table first at_first new rows parts
    pub smaller : length new.agenda + sum_by unset new.costs.items * (length rules + 1) < length at.agenda + sum_by unset at.costs.items * (length rules + 1)

  module _
      (table : List (List ℕ)) (first : List Row) (at_first more : ℕ) (its_parts : rule_parts (rule_of table (row 0 s 0)) ≡ more) (few : states ≤ no_key) (side_below : s < sides)
      (ends : List ℕ) (are : AreEnds rules ends) (at new : Spread) (e : ℕ × ℕ) (rest : List (ℕ × ℕ)) (taken : TakesLeast at.agenda e rest) (below : e.1 < states) (rows now : List Row) (parts sum : ℕ)
      (f : IsFollowing table first at_first at rows parts) where
    here_parts : row_parts table (row e.1 s e.0) ≡ more
    here_parts = its_parts

    skip : Skips (row e.1 s e.0) (record { agenda = rest; costs = at.costs; reached = at.reached }) new rows now parts sum → Followed table first at_first at new now sum
    skip k = record {
      following = record {
        closing =
            subst (λ xs. IsClosing product rules numbers s (λ r. get_or xs r None) new.agenda) (sym k.same)
            (subst (λ es. IsClosing product rules numbers s (λ r. get_or at.costs.items r None) es) (sym k.waiting)
            (skipped laws rules numbers s (λ r. get_or at.costs.items r None) at.agenda f.closing e rest k.cost taken k.known));
        gathering =
            subst (λ xs. IsGathering product rules numbers s sides states (λ r. get_or xs r None) now) (sym k.same)
            (subst (λ xs. IsGathering product rules numbers s sides states (λ r. get_or at.costs.items r None) xs) (sym k.rows_same) f.gathering);
        listed = subst (λ xs. AreListed xs new.reached.items) (sym k.same) (subst (λ xs. AreListed at.costs.items xs) (sym k.list) f.listed);
        below = subst (λ xs. AreBelow states xs) (sym k.list) f.below;
        long = ap length k.same ∙ f.long;
        sum = omega (arith, k.sum_same, f.sum, ap (total (row_parts table)) k.rows_same);
      };
      smaller = omega (arith, taken.long, ap length k.waiting, ap (λ xs. sum_by unset xs * (length rules + 1)) k.same);
    }

    settle : Settles product rules ends (row e.1 s e.0) more (record { agenda = rest; costs = at.costs; reached = at.reached }) new rows now parts sum → Followed table first at_first at new now sum
    settle k =
        let within : e.1 < length at.costs.items = omega (arith, below, f.long) in
        let here : get_or (slice_set at.costs.items e.1 (Some e.0)) e.1 None ≡ Some e.0 = get_or-set_same at.costs.items e.1 (Some e.0) None within in
        let one : unset (get_or at.costs.items e.1 None) ≡ 1 = unset_one (get_or at.costs.items e.1 None) k.unknown in
        let sums : sum_by unset (slice_set at.costs.items e.1 (Some e.0)) + unset (get_or at.costs.items e.1 None) ≡ sum_by unset at.costs.items + 0 = sum_by-set unset at.costs.items e.1 (Some e.0) None within in
        let fewer : sum_by unset new.costs.items + 1 ≡ sum_by unset at.costs.items = omega (arith, ap (sum_by unset) k.set, one, sums) in
        record {
          following = record {
            closing =
                subst (λ xs. IsClosing product rules numbers s (λ r. get_or xs r None) new.agenda) (sym k.set)
                (settled laws rules numbers s (λ r. get_or at.costs.items r None) at.agenda f.closing ends e rest new.agenda (λ r. get_or (slice_set at.costs.items e.1 (Some e.0)) r None) are (omega (arith, below, few)) taken k.unknown k.spreads here
                (λ r z. get_or-set_other at.costs.items e.1 r (Some e.0) None z));
            gathering =
                subst (λ xs. IsGathering product rules numbers s sides states (λ r. get_or xs r None) now) (sym k.set)
                (subst (λ xs. IsGathering product rules numbers s sides states (λ r. get_or (slice_set at.costs.items e.1 (Some e.0)) r None) xs) (sym k.rows_more)
                (gathering-more (λ r. get_or at.costs.items r None) (λ r. get_or (slice_set at.costs.items e.1 (Some e.0)) r None) rows e.1 e.0 f.gathering k.unknown below side_below
                (popped laws rules numbers s (λ r. get_or at.costs.items r None) at.agenda f.closing e rest taken k.unknown) here (λ r z. get_or-set_other at.costs.items e.1 r (Some e.0) None z)));
            listed = subst (λ xs. AreListed xs new.reached.items) (sym k.set) (subst (λ xs. AreListed (slice_set at.costs.items e.1 (Some e.0)) xs) (sym k.list) (listed-more at.costs.items at.reached.items e.1 e.0 f.listed));
            below = subst (λ xs. AreBelow states xs) (sym k.list) (below-more states at.reached.items e.1 below f.below);
            long = ap length k.set ∙ length-set at.costs.items e.1 (Some e.0) ∙ f.long;
            sum = omega (arith, k.sum_more, f.sum, here_parts, ap (total (row_parts table)) k.rows_more, total_append (row_parts table) rows (row e.1 s e.0 ∷ []));
          };
          smaller = fewer-left (sum_by unset new.costs.items) (sum_by unset at.costs.items) (length rules) (length new.agenda) (length rest) (length at.agenda) fewer k.spreads.long taken.long;
        }

    pub followed :
        Skips (row e.1 s e.0) (record { agenda = rest; costs = at.costs; reached = at.reached }) new rows now parts sum
        ⊎ Settles product rules ends (row e.1 s e.0) more (record { agenda = rest; costs = at.costs; reached = at.reached }) new rows now parts sum →
        Followed table first at_first at new now sum
    followed (inl k) = skip k
    followed (inr k) = settle k

    -- where the next row is one too many
    pub followed-many : (limit : ℕ) → get_or at.costs.items e.1 None ≡ None → limit < parts + more → HaveMoreParts product rules numbers sides states table first at_first limit
    followed-many limit unknown many = record {
      rows = rows ++ row e.1 s e.0 ∷ [];
      are =
          rows-more (λ r. get_or at.costs.items r None) rows e.1 e.0 f.gathering unknown below side_below
          (popped laws rules numbers s (λ r. get_or at.costs.items r None) at.agenda f.closing e rest taken unknown);
      more = omega (arith, f.sum, here_parts, many, total_append (row_parts table) rows (row e.1 s e.0 ∷ []));
    }

-- no rows, where no sides are left
pub gathered-none :
    (product : ℕ → ℕ → ℕ) (rules : List (Rule ℕ)) (numbers : List ℕ) (n sides states : ℕ) (rows : List Row) → rows ≡ [] → sides ≤ n →
    AreGathered product rules numbers n sides states rows
gathered-none product rules numbers n sides states rows empty h = subst (λ xs. AreGathered product rules numbers n sides states xs) (sym empty) record {
  are = record { least = λ x k. absurd k; state_below = λ x k. absurd k; side_below = λ x k. absurd k; apart = tt };
  from = λ x k. absurd k;
  whole = λ q s c a b o k. absurd (omega (arith, a, b, h));
}

-- too many parts, counted from the first row on
pub more-in-all :
    (product : ℕ → ℕ → ℕ) (rules : List (Rule ℕ)) (numbers : List ℕ) (sides states : ℕ) (table : List (List ℕ)) (old : List Row) (start parts limit : ℕ) →
    parts ≡ start + total (row_parts table) old → HaveMoreParts product rules numbers sides states table old parts limit → HaveMoreParts product rules numbers sides states table [] start limit
more-in-all product rules numbers sides states table old start parts limit sum many = record { rows = many.rows; are = many.are; more = omega (arith, many.more, sum) }
