use Rattle.std.proofs.Common.{◌≡◌, Some, refl, sym, ap, subst, ◌∙◌}
use Rattle.std.specs.Prelude.{option_map}
use Rattle.handed_modules.specs.Modules.{module_input, main_module}
use Rattle.component_session.specs.Input.{main_in}
use Rattle.component_session.specs.Refusals.{IsInputCause}
use Rattle.component_session.proofs.Handing.{module_cause_is}
use Rattle.component_session.proofs.session.Session.main_module.Goals as goal

pub returns-in-Ok-clause-found : goal.returns-in-Ok-clause-found
returns-in-Ok-clause-found c = record {
  alone = c.requires;
  handed = module_input c.in-Some.handed.now;
  hands = sym (ap main_module c.modules.ensures) ∙ sym c.main.ensures ∙ ap (option_map (λ m. module_input m.now)) c.in-Some.is;
  bytes_are = refl;
  encoding_is = refl;
  reads = c.in-Ok.ensures.found;
}

pub returns-in-Err-clause-cause : goal.returns-in-Err-clause-cause
returns-in-Err-clause-cause c =
    let hands : main_in c.args.self.now ≡ Some (module_input c.in-Some.handed.now) = sym (ap main_module c.modules.ensures) ∙ sym c.main.ensures ∙ ap (option_map (λ m. module_input m.now)) c.in-Some.is in
    subst (IsInputCause c.args.self.now) (sym c.module_refusal.ensures) (module_cause_is c.args.self.now (module_input c.in-Some.handed.now) c.in-Err.fault hands c.in-Err.ensures.fault)
