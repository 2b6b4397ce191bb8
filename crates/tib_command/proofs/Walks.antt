-- The whole walk over the words: clap takes them exactly where they are taken here.
use Rattle.std.proofs.Common.{◌≡◌, ◌∙◌, Bool, codes, true, false, refl, sym, ap, subst, List, [], ◌∷◌, Option, Some, None, true≢false}
use Rattle.std.specs.Prelude.{fold}
use Rattle.std.specs.Str.{IsUtf8}
use Rattle.clap.specs.Walk.{Held, next, Row, Waiting, Walk, walked, idle, positional, option, settled, plain_word, word_met, value, Step, after_step, subcommand_or_other}
use Rattle.clap.specs.Kinds.{Kinds, or_else}
use Rattle.clap.specs.declared.error.kind.ErrorKind.{ErrorKind}
use Rattle.clap.specs.Faults.{use_fault, walk_fault, turn_fault, word_fault, step_fault, other_fault, option_fault}
use Rattle.tib_command.specs.Command.{id_of, takes, then_takes}
use Rattle.tib_command.specs.Words.{Text, Part, mode, depth, workers, limit, beam, place, Said, said, Item, and_item, places}
use Rattle.tib_command.proofs.Setting.{top, rules, held_at, rule_at, used_with, run, quiet}
use Rattle.tib_command.proofs.Pending.{settles_one, settled_one, fails_empty, left_none}
use Rattle.tib_command.proofs.Places.{at, no_subcommand, placed, place_fault, place_walk}
use Rattle.tib_command.proofs.Views.{says_of, is_option, View, plain_view, ends_view, option_view, refused_view, view}

abbrev pub end_of : Walk → List Text → Walk
end_of w words = fold (walked rules []) w words

-- what the walk, and what is then pending, fail by
abbrev pub total : Walk → List Text → Kinds
total w words = or_else (walk_fault top [] w words) (quiet (end_of w words).held)

abbrev pub last_rows : Walk → List Text → List Row
last_rows w words = (settled rules (end_of w words).held).rows

abbrev pub Agrees : Option (List Item) → List Row → Kinds → List Row → Type 0
Agrees None start kinds end = kinds ≡ [] → ⊥
Agrees (Some items) start kinds end = (kinds ≡ []) × (end ≡ run start items)

abbrev pub AllUtf8 : List Text → Type 0
AllUtf8 [] = Unit {0}
AllUtf8 (w ∷ ws) = IsUtf8 w × AllUtf8 ws

pub step_ok : (w after : Walk) (word : Text) (rest : List Text) → turn_fault top [] w word ≡ [] → walked rules [] w word ≡ after → total w (word ∷ rest) ≡ total after rest
unfolding walk_fault
step_ok w after word rest e is =
    (λ i. or_else (or_else (e i) (walk_fault top [] (walked rules [] w word) rest)) (quiet (end_of (walked rules [] w word) rest).held)) ∙ ap (λ x. total x rest) is

pub step_bad : (w : Walk) (word : Text) (rest : List Text) → (turn_fault top [] w word ≡ [] → ⊥) → total w (word ∷ rest) ≡ [] → ⊥
unfolding walk_fault
step_bad w word rest bad e = bad (left_none _ _ (left_none _ _ e))

pub total_none : (w : Walk) → total w [] ≡ quiet w.held
unfolding walk_fault
total_none w = refl

-- after `--`

pub trails : (words : List Text) (wt : Waiting) (rows : List Row) (pending : Option (Text × List Text)) → quiet (held_at rows pending) ≡ []
    → (total (at wt true (held_at rows pending)) words ≡ []) × (last_rows (at wt true (held_at rows pending)) words ≡ run (settled rules (held_at rows pending)).rows (places words))
trails [] wt rows pending q = (total_none (at wt true (held_at rows pending)) ∙ q, refl)
trails (w ∷ rest) wt rows pending q =
    let next = trails rest positional (settled rules (held_at rows pending)).rows (Some (codes "places", w ∷ [])) refl in
    let moved : walked rules [] (at wt true (held_at rows pending)) w ≡ at positional true (placed w rows pending) = place_walk w rows pending true wt refl in (
      step_ok (at wt true (held_at rows pending)) _ w rest (place_fault w rows pending true wt refl refl q) moved ∙ next.0,
      ap (λ x. last_rows x rest) moved ∙ next.1,
    )

-- an option that waits for its value at `--` has none
pub trails_bad : (words : List Text) (wt : Waiting) (rows : List Row) (p : Part) → total (at wt true (held_at rows (Some (id_of p, [])))) words ≡ [] → ⊥
trails_bad [] wt rows p e = fails_empty p rows (sym (total_none (at wt true (held_at rows (Some (id_of p, []))))) ∙ e)
trails_bad (w ∷ rest) wt rows p e = step_bad (at wt true (held_at rows (Some (id_of p, [])))) w rest (λ t. fails_empty p rows (sym (clear p) ∙ t)) e
  where
    clear : (p : Part) → turn_fault top [] (at wt true (held_at rows (Some (id_of p, [])))) w ≡ quiet (held_at rows (Some (id_of p, [])))
    clear mode = refl
    clear depth = refl
    clear workers = refl
    clear limit = refl
    clear beam = refl
    clear place = refl

-- before it

abbrev pub resting : Bool → Waiting
resting true = positional
resting false = idle

abbrev pub Claim : Option Part → List Text → Type 0
Claim None words = (b : Bool) (rows : List Row) (pending : Option (Text × List Text)) → quiet (held_at rows pending) ≡ []
    → Agrees (takes words None) (settled rules (held_at rows pending)).rows (total (at (resting b) false (held_at rows pending)) words) (last_rows (at (resting b) false (held_at rows pending)) words)
Claim (Some p) words = (rows : List Row)
    → Agrees (takes words (Some p)) rows (total (at (option (id_of p)) false (held_at rows (Some (id_of p, [])))) words) (last_rows (at (option (id_of p)) false (held_at rows (Some (id_of p, [])))) words)

-- a result carried to equal ones
pub carried : (o o' : Option (List Item)) (start start' : List Row) (k k' : Kinds) (end end' : List Row) → o ≡ o' → start ≡ start' → k ≡ k' → end ≡ end' → Agrees o' start' k' end' → Agrees o start k end
carried o o' start start' k k' end end' a b c d h = subst (λ x. x) (λ i. Agrees (sym a i) (sym b i) (sym c i) (sym d i)) h

pub with_item : (o : Option (List Item)) (p : Part) (v : Text) (start : List Row) (k : Kinds) (end : List Row) → Agrees o (used_with p v start) k end → Agrees (and_item p v o) start k end
with_item None p v start k end h = h
with_item (Some items) p v start k end h = h

abbrev pub turn_of : Kinds → Held × Step → Kinds
turn_of k met = or_else k (step_fault top 1 met.0 met.1)

pub turn_is : (wt : Waiting) (rows : List Row) (pending : Option (Text × List Text)) (word : Text) (k : Kinds) (met : Held × Step)
    → other_fault top None word (held_at rows pending) ≡ k → subcommand_or_other rules None wt 1 word (held_at rows pending) ≡ met
    → turn_fault top [] (at wt false (held_at rows pending)) word ≡ turn_of k met
turn_is wt rows pending word k met fault is =
    (λ i. turn_of (other_fault top (no_subcommand wt word i) word (held_at rows pending)) (subcommand_or_other rules (no_subcommand wt word i) wt 1 word (held_at rows pending)))
    ∙ (λ i. turn_of (fault i) (is i))

pub turn_bad : (wt : Waiting) (rows : List Row) (pending : Option (Text × List Text)) (word : Text) (k : ErrorKind)
    → other_fault top None word (held_at rows pending) ≡ k ∷ [] → turn_fault top [] (at wt false (held_at rows pending)) word ≡ [] → ⊥
turn_bad wt rows pending word k fault none =
    let e = turn_is wt rows pending word (k ∷ []) (subcommand_or_other rules None wt 1 word (held_at rows pending)) fault refl in cc

pub walk_is : (wt : Waiting) (rows : List Row) (pending : Option (Text × List Text)) (word : Text) (met : Held × Step)
    → subcommand_or_other rules None wt 1 word (held_at rows pending) ≡ met
    → walked rules [] (at wt false (held_at rows pending)) word ≡ after_step rules word (at wt false (held_at rows pending)) met.0 met.1
unfolding walked
walk_is wt rows pending word met is =
    (λ i. after_step rules word (at wt false (held_at rows pending)) (subcommand_or_other rules (no_subcommand wt word i) wt 1 word (held_at rows pending)).0 (subcommand_or_other rules (no_subcommand wt word i) wt 1 word (held_at rows pending)).1)
    ∙ ap (λ (m : Held × Step). after_step rules word (at wt false (held_at rows pending)) m.0 m.1) is

pub rests_plain : (b : Bool) (word : Text) (h : Held) → plain_word rules (resting b) word h ≡ (h, value)
rests_plain true word h = refl
rests_plain false word h = refl

pub takes_next : (w : Text) (rest : List Text) (waiting : Option Part) (s : Said) → said w ≡ s → takes (w ∷ rest) waiting ≡ then_takes waiting s rest (takes rest)
unfolding takes
takes_next w rest waiting s e = ap (λ x. then_takes waiting x rest (takes rest)) e

pub rule_id : (p : Part) → (rule_at p).id ≡ id_of p
rule_id mode = refl
rule_id depth = refl
rule_id workers = refl
rule_id limit = refl
rule_id beam = refl
rule_id place = refl

pub use_one : (p : Part) (v : Text) (rows : List Row) → use_fault false (rule_at p) (v ∷ []) rows ≡ []
use_one mode v rows = refl
use_one depth v rows = refl
use_one workers v rows = refl
use_one limit v rows = refl
use_one beam v rows = refl
use_one place v rows = refl

pub waited : (p : Part) (word : Text) (rows : List Row) → plain_word rules (option (id_of p)) word (held_at rows (Some (id_of p, []))) ≡ (held_at rows (Some (id_of p, word ∷ [])), next idle)
waited mode word rows = refl
waited depth word rows = refl
waited workers word rows = refl
waited limit word rows = refl
waited beam word rows = refl
waited place word rows = refl

pub option_asks : (q : Part) (o : Option Text) (h : Held) → option_fault rules false (rule_at q) o h ≡ [] → quiet h ≡ []
option_asks q None h e = e
option_asks q (Some v) h e = left_none _ _ e

pub not_waited : (p q : Part) (o : Option Text) (rest : List Text) (more : Option Part → Option (List Item)) → is_option q ≡ true → then_takes (Some p) (says_of q o) rest more ≡ None
not_waited p mode None rest more e = refl
not_waited p mode (Some v) rest more e = refl
not_waited p depth None rest more e = refl
not_waited p depth (Some v) rest more e = refl
not_waited p workers None rest more e = refl
not_waited p workers (Some v) rest more e = refl
not_waited p limit None rest more e = refl
not_waited p limit (Some v) rest more e = refl
not_waited p beam None rest more e = refl
not_waited p beam (Some v) rest more e = refl
not_waited p place o rest more e = absurd (true≢false (sym e))

module _ (w : Text) (rest : List Text) (ahead : (m : Option Part) → Claim m rest) where
  module _ (b : Bool) (rows : List Row) (pending : Option (Text × List Text)) (q : quiet (held_at rows pending) ≡ []) where
    abbrev now : Held
    now = held_at rows pending

    abbrev before : Walk
    before = at (resting b) false now

    abbrev Here : Type 0
    Here = Agrees (takes (w ∷ rest) None) (settled rules now).rows (total before (w ∷ rest)) (last_rows before (w ∷ rest))

    goes_to : (after : Walk) (o : Option (List Item)) → takes (w ∷ rest) None ≡ o → turn_fault top [] before w ≡ [] → walked rules [] before w ≡ after
        → Agrees o (settled rules now).rows (total after rest) (last_rows after rest) → Here
    goes_to after o same turn moved h = carried _ _ _ _ _ _ _ _ same refl (step_ok before after w rest turn moved) (ap (λ x. last_rows x rest) moved) h

    from_view : View w → Here
    from_view (plain_view s h f m) =
        let met : word_met rules [] false (resting b) 1 w now ≡ (now, value) = ap (λ o. subcommand_or_other rules o (resting b) 1 w now) (no_subcommand (resting b) w) ∙ m (resting b) rows pending ∙ rests_plain b w now in
        let wf : word_fault top [] false (resting b) w now ≡ [] = ap (λ o. other_fault top o w now) (no_subcommand (resting b) w) ∙ f rows pending in
        goes_to _ _ (takes_next w rest None _ s) (place_fault w rows pending false (resting b) wf met q) (place_walk w rows pending false (resting b) met)
        (with_item (takes rest None) place w _ _ _ (ahead None true (settled rules now).rows (Some (codes "places", w ∷ [])) refl))
    from_view (ends_view s h f m) =
        let t = trails rest (resting b) rows pending q in
        goes_to _ _ (takes_next w rest None _ s) (turn_is (resting b) rows pending w _ _ (f rows pending) (m (resting b) rows pending)) (walk_is (resting b) rows pending w _ (m (resting b) rows pending)) t
    from_view (option_view p None o s h f m) =
        goes_to (at (option (id_of p)) false (held_at (settled rules now).rows (Some (id_of p, [])))) (takes rest (Some p)) (takes_next w rest None _ s)
        (turn_is (resting b) rows pending w _ _ (f rows pending) (m (resting b) rows pending) ∙ ap (λ k. or_else k []) q)
        (walk_is (resting b) rows pending w _ (m (resting b) rows pending) ∙ ap (λ i. at (option i) false (held_at (settled rules now).rows (Some (i, [])))) (rule_id p))
        (ahead (Some p) (settled rules now).rows)
    from_view (option_view p (Some v) o s h f m) =
        goes_to (at idle false (held_at (used_with p v (settled rules now).rows) None)) (and_item p v (takes rest None)) (takes_next w rest None _ s)
        (turn_is (resting b) rows pending w _ _ (f rows pending) (m (resting b) rows pending) ∙ (λ i. or_else (or_else (q i) (use_one p v (settled rules now).rows i)) []))
        (walk_is (resting b) rows pending w _ (m (resting b) rows pending))
        (with_item (takes rest None) p v _ _ _ (ahead None false (used_with p v (settled rules now).rows) None refl))
    from_view (refused_view s h f) =
        carried _ _ _ _ _ _ _ _ (takes_next w rest None _ s) refl refl refl (step_bad before w rest (turn_bad (resting b) rows pending w _ (f rows pending)))

  module _ (p : Part) (rows : List Row) where
    abbrev held : Held
    held = held_at rows (Some (id_of p, []))

    abbrev wanting : Walk
    wanting = at (option (id_of p)) false held

    abbrev There : Type 0
    There = Agrees (takes (w ∷ rest) (Some p)) rows (total wanting (w ∷ rest)) (last_rows wanting (w ∷ rest))

    wait_view : View w → There
    wait_view (plain_view s h f m) =
        let met = m (option (id_of p)) rows (Some (id_of p, [])) ∙ waited p w rows in
        let moved = walk_is (option (id_of p)) rows (Some (id_of p, [])) w _ met in
        let start : (settled rules (held_at rows (Some (id_of p, w ∷ [])))).rows ≡ used_with p w rows = settled_one p w rows in
        carried _ _ _ _ _ _ _ _ (takes_next w rest (Some p) _ s) refl
        (step_ok wanting _ w rest (turn_is (option (id_of p)) rows (Some (id_of p, [])) w _ _ (f rows (Some (id_of p, []))) met) moved)
        (ap (λ x. last_rows x rest) moved)
        (with_item (takes rest None) p w _ _ _
        (carried _ _ _ _ _ _ _ _ refl (sym start) refl refl (ahead None false rows (Some (id_of p, w ∷ [])) (settles_one p w rows))))
    wait_view (ends_view s h f m) =
        let met = m (option (id_of p)) rows (Some (id_of p, [])) in
        let moved = walk_is (option (id_of p)) rows (Some (id_of p, [])) w _ met in
        carried _ _ _ _ _ _ _ _ (takes_next w rest (Some p) _ s) refl
        (step_ok wanting _ w rest (turn_is (option (id_of p)) rows (Some (id_of p, [])) w _ _ (f rows (Some (id_of p, []))) met) moved)
        (ap (λ x. last_rows x rest) moved)
        (trails_bad rest (option (id_of p)) rows p)
    wait_view (option_view r o isopt s h f m) =
        carried _ _ _ _ _ _ _ _ (takes_next w rest (Some p) _ s ∙ not_waited p r o rest (takes rest) isopt) refl refl refl
        (step_bad wanting w rest (λ t. fails_empty p rows (option_asks r o held (left_none _ _ (sym (turn_is (option (id_of p)) rows (Some (id_of p, [])) w _ _ (f rows (Some (id_of p, []))) (m (option (id_of p)) rows (Some (id_of p, [])))) ∙ t)))))
    wait_view (refused_view s h f) =
        carried _ _ _ _ _ _ _ _ (takes_next w rest (Some p) _ s) refl refl refl (step_bad wanting w rest (turn_bad (option (id_of p)) rows (Some (id_of p, [])) w _ (f rows (Some (id_of p, [])))))

pub agree : (words : List Text) → AllUtf8 words → (m : Option Part) → Claim m words
unfolding takes
agree [] u None = λ b rows pending q. (total_none (at (resting b) false (held_at rows pending)) ∙ q, refl)
agree [] u (Some p) = λ rows e. fails_empty p rows (sym (total_none (at (option (id_of p)) false (held_at rows (Some (id_of p, []))))) ∙ e)
agree (w ∷ rest) u None = λ b rows pending q. from_view w rest (agree rest u.1) b rows pending q (view w u.0)
agree (w ∷ rest) u (Some p) = λ rows. wait_view w rest (agree rest u.1) p rows (view w u.0)
