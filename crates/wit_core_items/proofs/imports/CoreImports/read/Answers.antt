use Rattle.std.specs.Cow.{cow_str_bytes}
use Rattle.std.specs.declared.borrow.CowStr.TheVariants.{Borrowed}
use Rattle.std.proofs.Common.{ℕ}
use Rattle.wit_core_items.specs.Growing.{Pair, pair_eq}
use Rattle.wit_core_items.specs.World.{ImportStandsFor}
use Rattle.wit_core_items.proofs.Growing.{reads_read}
use Rattle.wit_core_items.proofs.imports.CoreImports.read.Goals as goal

pub returns : goal.returns
returns c k w legacy reader =
    reads_read pair_eq (λ (q : Pair) (i : ℕ). ImportStandsFor k w legacy (cow_str_bytes q.0) (cow_str_bytes q.1) i) c.args.self.now.names (Borrowed c.args.«module», Borrowed c.args.name) c.get.result reader.names c.get.ensures.read
