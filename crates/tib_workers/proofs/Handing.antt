-- What a worker holds after each step.
use Rattle.std.proofs.Common.{◌≡◌, ℕ, suc, ◌+◌, ◌-◌, ◌*◌, ◌≤◌, Bool, true, false, true≢false, List, [], ◌∷◌, ◌++◌, sym, ap, ◌∙◌, subst, arith}
use Rattle.std.proofs.Math.Nat.{mul-suc}
use Rattle.std.proofs.lemmas.List.Elements.{All-append, All-push, All-nil}
use Rattle.tib_lex.specs.Limits.{most_parts}
use Rattle.tib_table.specs.Known.{TableOf, Knowledge, GoOn}
use Rattle.tib_table.proofs.Closing.{names_kept}
use Rattle.tib_workers.specs.Claims.{Counter, Claimed}
use Rattle.tib_workers.specs.Rows.{IsRowOf}
use Rattle.tib_workers.specs.Hands.{IsHand as Hand, MaySplit}
use Rattle.tib_workers.specs.declared.row.Row.{Row}
use Rattle.tib_workers.proofs.Rowing.{parts_append, rows_stay}

module _ {D K T : Type 0} (gives : D → ℕ → List K → T → ℕ → Type 0) (count_of : D → ℕ) (is_ready : D → Type 0) (d : D) (table : TableOf D) (counter : Counter) where
  abbrev IsHand : ℕ → List (Row T) → ℕ → Bool → Claimed → Knowledge D K → Type 0
  IsHand = Hand gives count_of is_ready d table counter

  -- nothing is drawn yet
  pub begins : (share : ℕ) (going : Bool) (seat : Claimed) (seats : Knowledge D K) (rows : List (Row T)) → rows ≡ [] → seat.counter ≡ counter → seat.drawn ≡ [] → seat.nones ≡ 0 → seats.table ≡ table → table.about ≡ d → is_ready d → counter.count ≡ count_of d → IsHand share rows share going seat seats
  begins share going seat seats rows e a b c f g r h = subst (λ (l : List (Row T)). IsHand share l share going seat seats) (sym e) (record {
    at_counter = a;
    at_table = f;
    about = g;
    ready = r;
    counted = h;
    made = All-nil (IsRowOf gives count_of d seats.known);
    parts = omega arith;
    still = λ _. c;
  })

  module _ (share : ℕ) (rows : List (Row T)) (left : ℕ) (going : Bool) (seat : Claimed) (seats : Knowledge D K) (h : IsHand share rows left going seat seats) where
    -- a share of the counter was given away
    pub hand_split : (seat' : Claimed) (seats' : Knowledge D K) → seat' ≡ record seat { shares = seat.shares - 1 } → seats' ≡ seats → IsHand share rows left going seat' seats'
    hand_split seat' seats' e f = subst (λ (s : Knowledge D K). IsHand share rows left going seat' s) (sym f) (record {
      at_counter = ap (λ (s : Claimed). s.counter) e ∙ h.at_counter;
      at_table = h.at_table;
      about = h.about;
      ready = h.ready;
      counted = h.counted;
      made = h.made;
      parts = h.parts;
      still = λ t. ap (λ (s : Claimed). s.nones) e ∙ h.still t;
    })

    -- all were drawn
    pub hand_none : (seat' : Claimed) → seat' ≡ record seat { nones = 1 } → IsHand share rows left false seat' seats
    hand_none seat' e = record {
      at_counter = ap (λ (s : Claimed). s.counter) e ∙ h.at_counter;
      at_table = h.at_table;
      about = h.about;
      ready = h.ready;
      counted = h.counted;
      made = h.made;
      parts = h.parts;
      still = λ f. absurd (true≢false (sym f));
    }

    module _ (seat' : Claimed) (n : ℕ) (e : seat' ≡ record seat { drawn = seat.drawn ++ n ∷ [] })
        (seats' : Knowledge D K) (same : seats'.table ≡ table) (more : GoOn seats.known seats'.known) where
      -- an item was drawn, and has no row
      pub hand_less : IsHand share rows left going seat' seats'
      hand_less = record {
        at_counter = ap (λ (s : Claimed). s.counter) e ∙ h.at_counter;
        at_table = same;
        about = h.about;
        ready = h.ready;
        counted = h.counted;
        made = rows_stay gives count_of d seats.known seats'.known (names_kept seats.known seats'.known more) rows h.made;
        parts = h.parts;
        still = λ f. ap (λ (s : Claimed). s.nones) e ∙ h.still f;
      }

      -- an item was drawn, and has a row
      pub hand_more : (row : Row T) → IsRowOf gives count_of d seats'.known row → row.parts ≤ left → (rows' : List (Row T)) → rows' ≡ rows ++ row ∷ [] → IsHand share rows' (left - row.parts) going seat' seats'
      hand_more row is within rows' e' = subst (λ (l : List (Row T)). IsHand share l (left - row.parts) going seat' seats') (sym e') (record {
        at_counter = ap (λ (s : Claimed). s.counter) e ∙ h.at_counter;
        at_table = same;
        about = h.about;
        ready = h.ready;
        counted = h.counted;
        made = All-push (IsRowOf gives count_of d seats'.known) rows row hand_less.made is;
        parts = let p = h.parts in let s = parts_append rows (row ∷ []) in omega arith;
        still = λ f. ap (λ (s : Claimed). s.nones) e ∙ h.still f;
      })

  -- what two workers held
  pub hand_both : (others share : ℕ) (rows more rows' : List (Row T)) (left left' : ℕ) (going going' both : Bool) (seat seat' seat'' : Claimed) (seats seats' seats'' : Knowledge D K)
      → IsHand others rows left going seat seats → IsHand share more left' going' seat' seats' → rows' ≡ rows ++ more
      → seat'' ≡ record { counter = counter; shares = seat.shares + seat'.shares; nones = seat.nones + seat'.nones; drawn = seat.drawn ++ seat'.drawn }
      → seats''.table ≡ table → GoOn seats.known seats''.known → GoOn seats'.known seats''.known
      → (both ≡ true → going ≡ true) → (both ≡ true → going' ≡ true) → IsHand (others + share) rows' (left + left') both seat'' seats''
  hand_both others share rows more rows' left left' going going' both seat seat' seat'' seats seats' seats'' a b e j at this that one two = subst (λ (l : List (Row T)). IsHand (others + share) l (left + left') both seat'' seats'') (sym e) (record {
    at_counter = ap (λ (s : Claimed). s.counter) j;
    at_table = at;
    about = a.about;
    ready = a.ready;
    counted = a.counted;
    made = All-append (IsRowOf gives count_of d seats''.known) rows more
        (rows_stay gives count_of d seats.known seats''.known (names_kept seats.known seats''.known this) rows a.made)
        (rows_stay gives count_of d seats'.known seats''.known (names_kept seats'.known seats''.known that) more b.made);
    parts = let p = a.parts in let q = b.parts in let s = parts_append rows more in omega arith;
    still = λ f. let p = a.still (one f) in let q = b.still (two f) in let n = ap (λ (s : Claimed). s.nones) j in omega arith;
  })

-- one is split off
pub split_small : (others shares share count : ℕ) (going : Bool) → MaySplit others shares share count going → share ≤ most_parts
split_small others shares share count going m = let e = m.small in let f = mul-suc share others in let g : others + 1 ≡ suc others = omega arith in let h = ap (λ (n : ℕ). share * n) g in omega arith

pub split_more : (others shares share count : ℕ) (going : Bool) → MaySplit others shares share count going → (others ≡ 0 → ⊥) → (shares' share' : ℕ) (going' : Bool) → going' ≡ true → shares' + 1 ≡ shares → share' ≡ share → MaySplit (others - 1) shares' share' count going'
split_more others shares share count going m some shares' share' going' still less same = record {
  still = still;
  enough = let e = m.enough in omega arith;
  small =
      let e = m.small in
      let f = mul-suc share ((others - 1) + 1) in
      let z : suc ((others - 1) + 1) ≡ others + 1 = omega arith in
      let h = ap (λ (n : ℕ). share * n) z in
      let i = ap (λ (n : ℕ). n * ((others - 1) + 1)) same in
      omega arith;
  few = m.few;
}

-- the shares of one and of the others
pub shares_are : (others share : ℕ) → (others ≡ 0 → ⊥) → share * ((others - 1) + 1) + share ≡ share * (others + 1)
shares_are others share some =
    let f = mul-suc share ((others - 1) + 1) in
    let z : suc ((others - 1) + 1) ≡ others + 1 = omega arith in
    let h = ap (λ (n : ℕ). share * n) z in
    omega arith
