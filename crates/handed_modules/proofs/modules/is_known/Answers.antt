use Rattle.std.proofs.Common.{sym, ◌∙◌, Some}
use Rattle.handed_modules.specs.Modules.{ModuleInput, module_input, owner, same_owner}
use Rattle.handed_modules.proofs.Lists.{any_map}
use Rattle.handed_modules.proofs.modules.is_known.Goals as goal

pub returns-else-has_name : goal.returns-else-has_name
returns-else-has_name c =
    let other = sym c.has_name.ensures ∙ c.if-has_name.false in
    rw other (c.is_among.ensures ∙ sym (any_map (λ (n : ModuleInput). same_owner (Some c.args.name.now) (owner n)) module_input c.args.modules.now))
