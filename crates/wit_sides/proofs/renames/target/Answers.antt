use Rattle.std.proofs.Common.{sym, ap, ◌∙◌}
use Rattle.std.specs.Prelude.{string_bytes}
use Rattle.wit_types.specs.declared.world.IncludeName.{IncludeName}
use Rattle.wit_rules.proofs.Places.{read_at}
use Rattle.wit_sides.proofs.renames.target.Goals as goal

pub returns : goal.returns
returns c = (
  c.index-names-place.result,
  read_at c.args.names.now c.args.place c.index-names-place.result c.requires c.index-names-place.is,
  c.as_str.ensures.value ∙ ap (λ (n : IncludeName). string_bytes n.as_) (sym c.index-names-place.is),
)
