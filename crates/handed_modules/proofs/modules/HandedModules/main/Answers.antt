use Rattle.std.proofs.Common.{sym, ap, ◌∙◌, option_map}
use Rattle.std.specs.List.{find}
use Rattle.handed_modules.specs.Modules.{module_input, is_main, main_module}
use Rattle.handed_modules.proofs.Lists.{find_map, option_map_twice}
use Rattle.handed_modules.proofs.modules.HandedModules.main.Goals as goal

pub returns : goal.returns
returns c =
    sym (option_map_twice (λ m. m.now) module_input c.main_of.result) ∙ ap (option_map module_input) (c.main_of.ensures ∙ ap (find (λ n. is_main (module_input n))) c.deref.ensures.value)
    ∙ sym (find_map is_main module_input c.self.inside.modules.items) ∙ ap main_module c.self.view_is
