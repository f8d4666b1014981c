use Rattle.std.proofs.Common.{sym, ap, ◌∙◌, not}
use Rattle.std.specs.List.{list_any}
use Rattle.handed_modules.specs.Modules.{ModuleInput, module_input, is_main, has_others}
use Rattle.handed_modules.proofs.Lists.{any_map}
use Rattle.handed_modules.proofs.modules.HandedModules.has_others.Goals as goal

pub returns : goal.returns
returns c =
    c.has_others.ensures ∙ ap (list_any (λ n. not (is_main (module_input n)))) c.deref.ensures.value
    ∙ sym (any_map (λ (m : ModuleInput). not (is_main m)) module_input c.self.inside.modules.items) ∙ ap has_others c.self.view_is
