-- How what is kept of the rules changes as states get their costs.
use Rattle.std.specs.Prelude.{◌≡◌, ℕ, ◌+◌, ◌<◌, ◌≤◌, ◌⊎◌, List, [], ◌∷◌, ◌++◌, length, drop, Bool, Option, None, Some, Contains, refl, slice_set, sum_by, ◌*◌, true, false}
use Rattle.std.specs.Option.{is_some}
use Rattle.std.proofs.Common.{suc, arith, ap, sym, ◌∙◌, subst, inl, inr, get_or, add-one}
use Rattle.std.proofs.lemmas.List.{get_or_append_left, get_or_push, length_push}
use Rattle.std.proofs.lemmas.List.Sums.{sum_by-set}
use Rattle.std.proofs.Math.Nat.{suc-mul}
use Rattle.tib_grammar.specs.Sides.{holes_of}
use Rattle.tib_grammar.specs.Range.{AllBelow, AreInRange}
use Rattle.tib_grammar.specs.Run.{rule_at}
use Rattle.tib_grammar.specs.declared.Rule.{Rule}
use Rattle.tib_cost.specs.Semiring.{ProductLaws, most}
use Rattle.tib_cost.specs.Least.{times}
use Rattle.tib_inside.specs.Inside.{IsRunCost, IsInside, AreInsides}
use Rattle.tib_inside.specs.Settling.{costs_in, rule_total, Waits, HasOrWaits, AreSound, no_pending, missing_among, known_total, scaled, IsPending, IsSettlingUpTo, IsSettling, Offers, Touches, IsTaken, left_over}
use Rattle.tib_inside.specs.declared.pending.Pending.{Pending}
use Rattle.tib_inside.proofs.Totals.{total_known, total_missing, none_missing, none_known, scaled_total, missing_less}
use Rattle.tib_inside.proofs.Knuth.{popped, ended, rule_total_run}
use Rattle.tib_inside.proofs.Occurring.{one_apart, one_same, below_at, first_occurs}
use Rattle.tib_lex.proofs.Numbers.{same_or_other, nat_eq_cases}
use Rattle.tib_normal.proofs.Closing.{unset_one}
use Rattle.tib_lex.specs.Lists.{occurrences}
use Rattle.tib_normal.specs.Entries.{TakesLeast, AddsEntry, unset}

grows : (costs : ℕ → Option ℕ) (before after : List (ℕ × ℕ)) (q c : ℕ) → ((e : ℕ × ℕ) → Contains before e → Contains after e) → HasOrWaits costs before q c → HasOrWaits costs after q c
grows costs before after q c kept (inl k) = inl k
grows costs before after q c kept (inr w) = inr (record { cost = w.cost; held = kept (w.cost, q) w.held; small = w.small })

-- a state that waited still does, or it was the one that was taken
waits_on : (entries rest : List (ℕ × ℕ)) (e : ℕ × ℕ) → TakesLeast entries e rest → (q c : ℕ) → Waits entries q c → (q ≡ e.1) ⊎ Waits rest q c
waits_on entries rest e t q c w = elim (t.kept (w.cost, q) w.held) [
  | inl k ↦ inl (ap (λ z. z.1) k)
  | inr k ↦ inr (record { cost = w.cost; held = k; small = w.small })
]

-- where no state of a rule is missing, its product is its cost with theirs
complete : (product : ℕ → ℕ → ℕ) (costs : ℕ → Option ℕ) (c more : ℕ) (r : Rule ℕ) (p : Pending) → IsPending product costs c more r p → p.missing ≡ 0 → p.product ≡ rule_total product costs r
complete product costs c more r p is z =
    let settled : missing_among costs (holes_of r.right) ≡ 0 = omega (arith, is.missing) in
    let all : more ≡ 0 = omega (arith, is.missing) in
    subst (λ k. scaled product c p.product k ≡ known_total product costs r) all is.known ∙ ap (times product (Some r.cost)) (total_known product costs (holes_of r.right) settled)

-- where the states in the right side of a rule have costs, so has its left state, or a cost waits
-- for it
pub covered :
    (product : ℕ → ℕ → ℕ) (rules : List (Rule ℕ)) (costs : ℕ → Option ℕ) (c : ℕ) (pending : List Pending) (entries : List (ℕ × ℕ)) → IsSettling product rules costs c [] pending entries →
    (n d : ℕ) → n < length rules → rule_total product costs (rule_at rules n) ≡ Some d → HasOrWaits costs entries (rule_at rules n).left d
covered product rules costs c pending entries s n d b e =
    let is = s.each n b in
    let settled : missing_among costs (holes_of (rule_at rules n).right) ≡ 0 = none_missing product costs (Some (rule_at rules n).cost) (holes_of (rule_at rules n).right) d e in
    let all : (get_or pending n no_pending).missing ≡ 0 = omega (arith, is.missing) in
    subst (λ q. HasOrWaits costs entries q d) is.left (s.offered n d b all (complete product costs c 0 (rule_at rules n) (get_or pending n no_pending) is all ∙ e))

-- an entry of a state that has its cost is dropped
pub dropped :
    (product : ℕ → ℕ → ℕ) (rules : List (Rule ℕ)) (costs : ℕ → Option ℕ) (pending : List Pending) (e : ℕ × ℕ) (rest : List (ℕ × ℕ)) (d : ℕ) →
    IsTaken product rules costs pending e rest → costs e.1 ≡ Some d → IsSettling product rules costs 0 [] pending rest
dropped product rules costs pending e rest d taken known = record {
  sound = record {
    exact = taken.settling.sound.exact;
    runs = λ x h. taken.settling.sound.runs x (taken.takes.only x h);
    within = λ x h. taken.settling.sound.within x (taken.takes.only x h);
  };
  long = taken.settling.long;
  each = taken.settling.each;
  offered = λ m c b z t. has (get_or pending m no_pending).left c (taken.settling.offered m c b z t);
}
  where
    after : (q c : ℕ) → (q ≡ e.1) ⊎ Waits rest q c → HasOrWaits costs rest q c
    after q c (inl k) = inl (d, ap costs k ∙ known)
    after q c (inr w) = inr w

    has : (q c : ℕ) → HasOrWaits costs taken.entries q c → HasOrWaits costs rest q c
    has q c (inl k) = inl k
    has q c (inr w) = after q c (waits_on taken.entries rest e taken.takes q c w)

-- a rule that is listed may have a hole filled
pub may_touch :
    (product : ℕ → ℕ → ℕ) (rules : List (Rule ℕ)) (costs : ℕ → Option ℕ) (count c i : ℕ) (listed : List ℕ) (pending : List Pending) (entries : List (ℕ × ℕ)) → AreInRange count rules → AllBelow (length rules) listed →
    i < length listed → IsSettling product rules costs c (drop i listed) pending entries →
    (get_or listed i 0 < length rules) × (0 < (get_or pending (get_or listed i 0) no_pending).missing) × ((get_or pending (get_or listed i 0) no_pending).left < count)
may_touch product rules costs count c i listed pending entries range below h s =
    let n : ℕ = get_or listed i 0 in
    let b : n < length rules = below_at (length rules) listed i 0 below h in
    let is = s.each n b in
    (b, omega (arith, is.missing, first_occurs n listed i n h refl, one_same n n refl), omega (arith, is.left, (range n b).0))

module _ {levelled weighted : Bool} {product : ℕ → ℕ → ℕ} (laws : ProductLaws levelled weighted product) (rules : List (Rule ℕ)) where
  -- the state of the least entry gets its cost, and its holes in the rules in whose right sides it
  -- occurs are still to be filled
  pub settled :
      (costs after : ℕ → Option ℕ) (pending : List Pending) (e : ℕ × ℕ) (rest : List (ℕ × ℕ)) (listed : List ℕ) → IsTaken product rules costs pending e rest → costs e.1 ≡ None → after e.1 ≡ Some e.0 →
      ((q : ℕ) → (q ≡ e.1 → ⊥) → after q ≡ costs q) → ((n : ℕ) → n < length rules → occurrences n listed ≡ occurrences e.1 (holes_of (rule_at rules n).right)) →
      IsSettling product rules after e.0 listed pending rest
  settled costs after pending e rest listed taken unknown here others as_often = record {
    sound = record {
      exact = λ q d h. exact q d h (same_or_other q e.1);
      runs = λ x h. taken.settling.sound.runs x (taken.takes.only x h);
      within = λ x h. taken.settling.sound.within x (taken.takes.only x h);
    };
    long = taken.settling.long;
    each = λ n b.
        let is = taken.settling.each n b in
        let qs = holes_of (rule_at rules n).right in
        record {
          left = is.left;
          missing = omega (arith, is.missing, as_often n b, missing_less costs after e.1 e.0 unknown here others qs);
          known = subst (λ k. scaled product e.0 (get_or pending n no_pending).product k ≡ known_total product after (rule_at rules n)) (sym (as_often n b))
              (ap (λ v. scaled product e.0 v (occurrences e.1 qs)) is.known ∙ scaled_total laws costs after e.1 e.0 unknown here others (Some (rule_at rules n).cost) qs);
        };
    offered = λ n d b z t. has (get_or pending n no_pending).left d (taken.settling.offered n d b z t);
  }
    where
      exact : (q d : ℕ) → after q ≡ Some d → (q ≡ e.1) ⊎ (q ≡ e.1 → ⊥) → IsInside product rules q (Some d)
      exact q d h (inl k) =
          let v : Some e.0 ≡ Some d = sym here ∙ ap after (sym k) ∙ h in
          subst (λ z. IsInside product rules z (Some d)) (sym k)
          (subst (λ o. IsInside product rules e.1 o) v (popped laws rules costs taken.settling.sound.exact taken.entries (covered product rules costs 0 pending taken.entries taken.settling) e rest taken.settling.sound taken.takes unknown))
      exact q d h (inr k) = taken.settling.sound.exact q d (sym (others q k) ∙ h)

      last : (q c : ℕ) → (q ≡ e.1) ⊎ Waits rest q c → HasOrWaits after rest q c
      last q c (inl k) = inl (e.0, ap after k ∙ here)
      last q c (inr w) = inr w

      still : (q d : ℕ) → costs q ≡ Some d → (q ≡ e.1) ⊎ (q ≡ e.1 → ⊥) → (m : ℕ) × (after q ≡ Some m)
      still q d h (inl k) = (e.0, ap after k ∙ here)
      still q d h (inr k) = (d, others q k ∙ h)

      has : (q c : ℕ) → HasOrWaits costs taken.entries q c → HasOrWaits after rest q c
      has q c (inl k) = inl (still q k.0 k.1 (same_or_other q e.1))
      has q c (inr w) = last q c (waits_on taken.entries rest e taken.takes q c w)

  -- what a rule offers is the cost of a run
  sound_on :
      (costs : ℕ → Option ℕ) (c more n : ℕ) (p : Pending) (before after : List (ℕ × ℕ)) → n < length rules → IsPending product costs c more (rule_at rules n) p →
      AreSound product rules costs before → Offers costs p before after → AreSound product rules costs after
  sound_on costs c more n p before after b is sound offers = record {
    exact = sound.exact;
    runs = λ e h. elim (offers.only e h) [
      | inl k ↦ sound.runs e k
      | inr k ↦ subst (λ q. IsRunCost product rules (q ∷ []) e.0) (sym is.left ∙ k.2) (run e k.0 k.1).0
    ];
    within = λ e h. elim (offers.only e h) [
      | inl k ↦ sound.within e k
      | inr k ↦ (run e k.0 k.1).1
    ];
  }
    where
      run : (e : ℕ × ℕ) → p.missing ≡ 0 → p.product ≡ Some e.0 → IsRunCost product rules ((rule_at rules n).left ∷ []) e.0 × (e.0 ≤ most)
      run e z t =
          rule_total_run laws rules costs sound.exact n e.0 b (sym (complete product costs c more (rule_at rules n) p is z) ∙ t)

  -- one hole of one rule is filled
  pub touched :
      (costs : ℕ → Option ℕ) (c n : ℕ) (listed : List ℕ) (old new : List Pending) (before after : List (ℕ × ℕ)) → n < length rules →
      IsSettling product rules costs c (n ∷ listed) old before → Touches product costs c n old new before after → IsSettling product rules costs c listed new after
  touched costs c n listed old new before after b s t = record {
    sound = sound_on costs c (occurrences n listed) n (get_or new n no_pending) before after b own s.sound t.offers;
    long = t.long ∙ s.long;
    each = λ m h. elim (nat_eq_cases m n) [
      | inl k ↦ subst (λ i. IsPending product costs c (occurrences i listed) (rule_at rules i) (get_or new i no_pending)) (sym k.0) own
      | inr k ↦
          let is = s.each m h in
          let more : occurrences m (n ∷ listed) ≡ occurrences m listed = omega (arith, one_apart m n k.1) in
          subst (λ p. IsPending product costs c (occurrences m listed) (rule_at rules m) p) (sym (t.others m k.0))
          (subst (λ u. IsPending product costs c u (rule_at rules m) (get_or old m no_pending)) more is)
    ];
    offered = λ m d h z e. elim (same_or_other m n) [
      | inl k ↦
          subst (λ i. HasOrWaits costs after (get_or new i no_pending).left d) (sym k)
          (t.offers.offered (ap (λ i. (get_or new i no_pending).missing) (sym k) ∙ z) d (ap (λ i. (get_or new i no_pending).product) (sym k) ∙ e))
      | inr k ↦
          let same = t.others m k in
          subst (λ p. HasOrWaits costs after p.left d) (sym same)
          (grows costs before after (get_or old m no_pending).left d t.offers.kept (s.offered m d h (ap (λ p. p.missing) (sym same) ∙ z) (ap (λ p. p.product) (sym same) ∙ e)))
    ];
  }
    where
      own : IsPending product costs c (occurrences n listed) (rule_at rules n) (get_or new n no_pending)
      own =
          let more : occurrences n (n ∷ listed) ≡ suc (occurrences n listed) = omega (arith, one_same n n refl) in
          let is = subst (λ u. IsPending product costs c u (rule_at rules n) (get_or old n no_pending)) more (s.each n b) in
          record {
            left = t.left ∙ is.left;
            missing = omega (arith, t.missing, is.missing);
            known = ap (λ v. scaled product c v (occurrences n listed)) t.known ∙ is.known;
          }

  -- one more rule begins
  pub begun :
      (costs : ℕ → Option ℕ) (n : ℕ) (p : Pending) (old new : List Pending) (before after : List (ℕ × ℕ)) → n < length rules → ((q : ℕ) → costs q ≡ None) →
      p.left ≡ (rule_at rules n).left → p.missing ≡ length (holes_of (rule_at rules n).right) → p.product ≡ times product (Some (rule_at rules n).cost) (Some 0) →
      IsSettlingUpTo product rules n costs 0 [] old before → Offers costs p before after → new ≡ old ++ p ∷ [] → IsSettlingUpTo product rules (n + 1) costs 0 [] new after
  begun costs n p old new before after b unknown left missing known s offers pushed = subst (λ ps. IsSettlingUpTo product rules (n + 1) costs 0 [] ps after) (sym pushed) record {
    sound = sound_on costs 0 0 n p before after b own s.sound offers;
    long = omega (arith, length_push old p, s.long);
    each = λ m h. elim (same_or_other m n) [
      | inl k ↦
          subst (λ x. IsPending product costs 0 0 (rule_at rules m) x) (sym (get_or_push old p no_pending m (s.long ∙ sym k)))
          (subst (λ i. IsPending product costs 0 0 (rule_at rules i) p) (sym k) own)
      | inr k ↦ subst (λ x. IsPending product costs 0 0 (rule_at rules m) x) (sym (get_or_append_left old (p ∷ []) no_pending m (omega (arith, s.long, earlier m h k)))) (s.each m (earlier m h k))
    ];
    offered = λ m d h z e. elim (same_or_other m n) [
      | inl k ↦
          let at = get_or_push old p no_pending m (s.long ∙ sym k) in
          subst (λ x. HasOrWaits costs after x.left d) (sym at) (offers.offered (ap (λ x. x.missing) (sym at) ∙ z) d (ap (λ x. x.product) (sym at) ∙ e))
      | inr k ↦
          let at = get_or_append_left old (p ∷ []) no_pending m (omega (arith, s.long, earlier m h k)) in
          subst (λ x. HasOrWaits costs after x.left d) (sym at)
          (grows costs before after (get_or old m no_pending).left d offers.kept (s.offered m d (earlier m h k) (ap (λ x. x.missing) (sym at) ∙ z) (ap (λ x. x.product) (sym at) ∙ e)))
    ];
  }
    where
      earlier : (m : ℕ) → m < n + 1 → (m ≡ n → ⊥) → m < n
      earlier m h k = grind arith

      own : IsPending product costs 0 0 (rule_at rules n) p
      own = record {
        left = left;
        missing = omega (arith, missing, total_missing costs unknown (holes_of (rule_at rules n).right));
        known = known ∙ ap (times product (Some (rule_at rules n).cost)) (sym (none_known laws costs unknown (holes_of (rule_at rules n).right)));
      }

  -- in the end each state has its inside cost
  pub finished : (costs : List (Option ℕ)) (pending : List Pending) (entries : List (ℕ × ℕ)) → entries ≡ [] → IsSettling product rules (costs_in costs) 0 [] pending entries → AreInsides product rules costs
  finished costs pending entries empty s q h = ended laws rules (costs_in costs) s.sound.exact entries (covered product rules (costs_in costs) 0 pending entries s) empty q

-- what is offered where nothing new waits, and where the rule's cost does
pub offered_nothing : (costs : ℕ → Option ℕ) (p : Pending) (entries : List (ℕ × ℕ)) → (p.missing ≡ 0 → (d : ℕ) → p.product ≡ Some d → HasOrWaits costs entries p.left d) → Offers costs p entries entries
offered_nothing costs p entries had = record { kept = λ e h. h; offered = had; only = λ e h. inl h; more = omega arith }

pub offered_more : (costs : ℕ → Option ℕ) (p : Pending) (c : ℕ) (before after : List (ℕ × ℕ)) → p.missing ≡ 0 → p.product ≡ Some c → AddsEntry before (c, p.left) after → Offers costs p before after
offered_more costs p c before after z t adds = record {
  kept = adds.kept;
  offered = λ k d e. let v : Some c ≡ Some d = sym t ∙ e in let same : c ≡ d = cc v in inr (record { cost = c; held = adds.new_one; small = omega (arith, same) });
  only = λ e h. elim (adds.only e h) [
    | inl k ↦ inr (z, t ∙ ap Some (sym (ap (λ x. x.0) k)), sym (ap (λ x. x.1) k))
    | inr k ↦ inl k
  ];
  more = omega (arith, adds.long);
}

-- what a test of a cost says
pub has_some : (v : Option ℕ) → is_some v ≡ true → (d : ℕ) × (v ≡ Some d)
has_some None e = absurd (cc)
has_some (Some d) e = (d, refl)

pub has_none : (v : Option ℕ) → is_some v ≡ false → v ≡ None
has_none None e = refl
has_none (Some d) e = absurd (cc)

-- a state that gets its cost leaves less to do
pub settled_less :
    (places : ℕ) (costs : List (Option ℕ)) (q c : ℕ) (before after : List (ℕ × ℕ)) → q < length costs → get_or costs q None ≡ None → length after ≤ length before + places →
    left_over places (slice_set costs q (Some c)) after ≤ left_over places costs before
settled_less places costs q c before after b unknown more =
    let one : unset (get_or costs q None) ≡ 1 = unset_one (get_or costs q None) unknown in
    let sums : sum_by unset (slice_set costs q (Some c)) + unset (get_or costs q None) ≡ sum_by unset costs + 0 = sum_by-set unset costs q (Some c) None b in
    less (sum_by unset (slice_set costs q (Some c))) (sum_by unset costs) places (length after) (length before) (omega arith) more
  where
    less : (u v n a l : ℕ) → u + 1 ≡ v → a ≤ l + n → a + u * (n + 1) ≤ l + v * (n + 1)
    less u v n a l e b =
        let more : v * (n + 1) ≡ u * (n + 1) + (n + 1) = ap (λ z. z * (n + 1)) (sym e ∙ add-one u) ∙ suc-mul u (n + 1) in
        far (u * (n + 1)) (v * (n + 1)) n a l more b
      where
        far : (x y n a l : ℕ) → y ≡ x + (n + 1) → a ≤ l + n → a + x ≤ l + y
        far x y n a l m b = omega arith
