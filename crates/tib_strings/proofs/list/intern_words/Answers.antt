use Rattle.std.proofs.Common.{arith}
use Rattle.tib_tree.proofs.Adding.{one_longer}
use Rattle.tib_tree.proofs.Growing.{grows_twice}
use Rattle.tib_strings.proofs.Steps.{named_more, added_more}
use Rattle.tib_strings.proofs.list.intern_words.Goals as goal

pub loop-token-preserved : goal.loop-token-preserved
loop-token-preserved c =
    let i = c.loop-token.invariant in
    let k = c.loop-token-test.true in
    record {
      words = named_more c.args.line.now c.args.tokens.now c.loop-token.token-index _ c.loop-token.labels c.intern_token.new.labels c.loop-token.words.items c.push.new.self.items c.in_ok-word.word k c.intern_token.ensures.grows c.in_ok-word.ensures.named c.in_ok-push.ensures.items i.words;
      adds = added_more c.args.line.now c.args.tokens.now c.loop-token.token-index _ c.args.labels.now c.loop-token.labels c.intern_token.new.labels k c.in_ok-word.ensures.added i.adds;
      grows = grows_twice _ _ _ i.grows c.intern_token.ensures.grows;
      few = omega (arith, i.few, one_longer _ _ _ c.in_ok-word.ensures.added);
    }
