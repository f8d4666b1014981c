use Rattle.std.proofs.Common.{◌<◌, length, sym, ap, subst, ◌∙◌}
use Rattle.std.specs.Prelude.{slice_get}
use Rattle.handed_modules.specs.Modules.{module_input}
use Rattle.component_session.specs.Input.{worlds_of}
use Rattle.component_session.proofs.Exporting.{lacking, others, supplied}
use Rattle.component_session.proofs.session.Session.check_exports.Goals as goal

pub get-handed-requires : goal.get-handed-requires
get-handed-requires c =
    let worlds = sym (c.worlds-worlds.ensures ∙ ap worlds_of c.resolve.ensures) in
    let has = c.law_modules_are_kept.ensures.one c.args.self.now.modules (module_input c.args.main.now) c.requires.main in
    subst (λ ws. c.args.main.now.world < length ws) worlds (c.law_module_worlds_are_there.ensures (module_input c.args.main.now) has.0)

pub returns-then-not-exports_all-clause-cause : goal.returns-then-not-exports_all-clause-cause
returns-then-not-exports_all-clause-cause c =
    let worlds = sym (c.worlds-worlds.ensures ∙ ap worlds_of c.resolve.ensures) in
    lacking c.args.self.now c.args.world (module_input c.args.main.now) c.get-chosen.result.now c.get-handed.result.now c.requires.single c.requires.chosen c.requires.main
    (ap (λ ws. slice_get ws c.args.world) worlds ∙ c.get-chosen.ensures) (ap (λ ws. slice_get ws c.args.main.now.world) worlds ∙ c.get-handed.ensures)
    (c.exports_all.ensures.no c.if-not-exports_all.true)

pub returns-then-not-exports_all-2-clause-cause : goal.returns-then-not-exports_all-2-clause-cause
returns-then-not-exports_all-2-clause-cause c =
    let worlds = sym (c.worlds-worlds.ensures ∙ ap worlds_of c.resolve.ensures) in
    others c.args.self.now c.args.world (module_input c.args.main.now) c.get-chosen.result.now c.get-handed.result.now c.requires.single c.requires.chosen c.requires.main
    (ap (λ ws. slice_get ws c.args.world) worlds ∙ c.get-chosen.ensures) (ap (λ ws. slice_get ws c.args.main.now.world) worlds ∙ c.get-handed.ensures)
    (c.exports_all-2.ensures.no c.if-not-exports_all-2.true)

pub returns-clause-ok : goal.returns-clause-ok
returns-clause-ok c =
    let worlds = sym (c.worlds-worlds.ensures ∙ ap worlds_of c.resolve.ensures) in
    supplied c.args.self.now c.args.world (module_input c.args.main.now) c.get-chosen.result.now c.get-handed.result.now c.requires.single c.requires.chosen c.requires.main
    (ap (λ ws. slice_get ws c.args.world) worlds ∙ c.get-chosen.ensures) (ap (λ ws. slice_get ws c.args.main.now.world) worlds ∙ c.get-handed.ensures)
    (c.exports_all.ensures.yes c.if-not-exports_all.false) (c.exports_all-2.ensures.yes c.if-not-exports_all-2.false)
