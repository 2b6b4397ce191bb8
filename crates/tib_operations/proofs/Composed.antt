-- What `compose` writes, from the pairs that are reached.
use Rattle.tib_cost.specs.declared.Scale.{Scale}
use Rattle.std.proofs.Common.{◌≡◌, ℕ, ◌<◌, ◌≤◌, Bool, List, length, refl, sym, subst, arith}
use Rattle.tib_lex.specs.Lists.{Distinct}
use Rattle.tib_cost.specs.Semiring.{ProductLaws}
use Rattle.tib_lex.specs.PairOrder.{pair_cmp}
use Rattle.tib_expand.specs.Reached.{IsReachedSet, parts_of}
use Rattle.tib_transducer.specs.Range.{AreWithin}
use Rattle.tib_transducer.specs.TransducerOf.{TransducerOf}
use Rattle.tib_transducer.specs.declared.TransducerRule.{TransducerRule}
use Rattle.tib_transducer_file.specs.ByName.{ReadsBack}
use Rattle.tib_transducer_file.specs.Printed.{transducer_text}
use Rattle.tib_transducer.specs.Outside.{AllMeet}
use Rattle.tib_canon.proofs.ReachedOnce.{order_once}
use Rattle.tib_key_edges.specs.Plain.{ArePlain}
use Rattle.tib_key_edges.specs.Composition.{composition}
use Rattle.tib_key_edges.proofs.Exact.{composition_laws}
use Rattle.tib_canon.specs.Composing.{composing}
use Rattle.tib_canon.specs.TransducerConstructions.{moves_over, IsCanonicalTransducerOf}
use Rattle.tib_canon.specs.TransducerKeys.{IsCanonicalTransducer, AreMovesOver}
use Rattle.tib_canon.proofs.Compose.{compose_plain, compose_series, read_composes}
use Rattle.tib_canon.proofs.TransducerConstruct.{found_moves, found_stand}
use Rattle.tib_canon.proofs.TransducerTexts.{transducer_read}
use Rattle.tib_operations.specs.Compose.{plain, HasComposeSeries, IsComposeText}

pub are_plain : (rules : List (TransducerRule ℕ)) → AllMeet plain rules → ArePlain rules
are_plain rules met n h =
    let m = met n h in
    record { linear = m.linear refl; nondeleting = m.nondeleting refl; one_label = m.one_label refl; unlabelled = m.unlabelled refl }

module _
    {levelled weighed : Bool} {product : ℕ → ℕ → ℕ} (laws : ProductLaws levelled weighed product) (scale : Scale) (labels : List (List ℕ)) (t u : TransducerOf) (m : AreMovesOver scale labels (length t.names) t.rules)
    (n : AreMovesOver scale labels (length u.names) u.rules) (order : List (ℕ × ℕ)) (rules : List (TransducerRule ℕ)) (reached : IsReachedSet (composition product t.rules u.rules) order (moves_over (0, 0) order rules))
    (range : AreWithin (length order) rules) where
  pub keys_once : Distinct order
  keys_once = order_once (composition product t.rules u.rules) (composition_laws product t.rules u.rules) reached.0.0 reached.0.1 order reached.0.2

  pub some_keys : 0 < length order
  some_keys = (compose_plain product (laws.neutral 0) scale labels t u m n).some order reached.0

  pub moves_found : AreMovesOver scale labels (length order) rules
  moves_found = found_moves scale labels (composing product t u) (compose_plain product (laws.neutral 0) scale labels t u m n) order rules reached range

  pub composed_text :
      (limit : ℕ) → limit ≤ 4294967296 → AllMeet plain u.rules → parts_of (composition product t.rules u.rules) order (moves_over (0, 0) order rules) ≤ limit → length order ≤ limit → (h : TransducerOf) →
      IsCanonicalTransducer scale labels pair_cmp order rules 0 h → (text : List ℕ) → text ≡ transducer_text scale labels h → IsComposeText scale product limit labels t u text h
  composed_text limit low met within few h canonical text e =
      let c : IsCanonicalTransducerOf scale labels limit (composing product t u) h = record { order = order; rules = rules; reached = reached; within = within; over = moves_found; canonical = canonical } in
      let read = transducer_read pair_cmp scale labels order rules 0 h canonical (found_stand scale labels (composing product t u) (compose_plain product (laws.neutral 0) scale labels t u m n) order rules reached range) (omega (arith, few, low)) moves_found in
      let series : HasComposeSeries product t.rules u.rules h.rules = compose_series laws scale labels limit t u h n.shaped (are_plain u.rules met) c in (
        record {
          h = h;
          canonical = c;
          series = series;
          are = e;
          read = read.0;
          reads = subst (λ (bytes : List ℕ). ReadsBack scale labels bytes h read.0) (sym e) read.1;
          read_series = read_composes product scale labels limit t u h read.0 (transducer_text scale labels h) c (omega (arith, few, low)) read.1 series;
        },
        refl,
      )
