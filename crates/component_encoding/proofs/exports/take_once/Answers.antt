use Rattle.std.proofs.Common.{refl}
use Rattle.component_encoding.specs.Growing.{export_item}
use Rattle.component_encoding.proofs.exports.take_once.Goals as goal

pub returns-in_ok-index-in_default-clause-takes : goal.returns-in_ok-index-in_default-clause-takes
returns-in_ok-index-in_default-clause-takes c = λ main es m at offered before. (
  refl,
  record {
    name = c.args.name.now;
    there = at;
    is = (export_item c.args.instance c.args.name.now offered.0, c.in_ok-index-in_default.ensures.takes main offered.0 m offered.1, refl);
  },
)
