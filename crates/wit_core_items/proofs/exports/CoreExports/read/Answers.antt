use Rattle.std.specs.Cow.{cow_str_bytes}
use Rattle.std.specs.declared.borrow.CowStr.TheVariants.{Borrowed}
use Rattle.std.proofs.Common.{ℕ}
use Rattle.wit_core_items.specs.Growing.{Name, name_eq}
use Rattle.wit_core_items.specs.World.{ExportStandsFor}
use Rattle.wit_core_items.proofs.Growing.{reads_read}
use Rattle.wit_core_items.proofs.exports.CoreExports.read.Goals as goal

pub returns : goal.returns
returns c k w legacy reader =
    reads_read name_eq (λ (q : Name) (i : ℕ). ExportStandsFor k w legacy (cow_str_bytes q) i) c.args.self.now.names (Borrowed c.args.name) c.get.result reader.names c.get.ensures.read
