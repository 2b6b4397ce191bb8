use Rattle.std.proofs.Common.{arith, ap, length}
use Rattle.tib_transducer_file.proofs.Printing.{transducer_within, transducer_same}
use Rattle.tib_transducer_file.proofs.print.print_transducer.Goals as goal

pub put_file-requires : goal.put_file-requires
put_file-requires g c = record {
  start = omega (arith, c.is_sound.ensures.start, ap length c.names.ensures);
  within = transducer_within c.names.result.now c.args.labels.now c.args.transducer.now.names c.rule_list.result.now c.args.transducer.now.rules c.names.ensures c.rule_list.ensures c.is_sound.ensures.range c.is_sound.ensures.leaves c.requires;
}

pub returns : goal.returns
returns g c =
    transducer_same c.SCALE.result g.S.Semiring.SCALE c.args.labels.now c.names.result.now c.rule_list.result.now c.args.transducer.now c.SCALE.ensures c.names.ensures c.rule_list.ensures c.put_file.ensures
