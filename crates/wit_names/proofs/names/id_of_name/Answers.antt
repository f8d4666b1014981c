use Rattle.std.proofs.Common.{◌≡◌, Some, string_bytes}
use Rattle.std.proofs.lemmas.Result.{IfOk-weaker}
use Rattle.std.specs.Prelude.{slice_get}
use Rattle.wit_types.specs.declared.«package».Package.{Package}
use Rattle.wit_types.specs.Package.{interface_text}
use Rattle.wit_names.proofs.names.id_of_name.Goals as goal

pub returns : goal.returns
returns c =
    IfOk-weaker c.interface_id.result (λ s. string_bytes s ≡ interface_text c.get.result.now.name c.args.interface.now)
    (λ s. (p : Package) × (slice_get c.args.packages.now c.args.package ≡ Some p) × (string_bytes s ≡ interface_text p.name c.args.interface.now)) (λ s e. (c.get.result.now, c.get.ensures, e)) c.interface_id.ensures
