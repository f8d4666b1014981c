use Rattle.std.proofs.Common.{◌≡◌, None, Some, sym, ap, ◌∙◌}
use Rattle.std.specs.Prelude.{option_map, option_and_then, slice_get}
use Rattle.plain_worlds.specs.World.{plain_world, world_meaning}
use Rattle.wasm_format.specs.Module.{module_value}
use Rattle.component_session.specs.Refusals.{IsWide}
use Rattle.component_session.specs.Input.{world_at, worlds_of}
use Rattle.component_session.proofs.Linked.{none_plain, no_imports, imports_beyond, not_wide}
use Rattle.component_session.proofs.session.Session.plain_functions.Goals as goal

pub returns-in_default-clause-wide : goal.returns-in_default-clause-wide
returns-in_default-clause-wide c = λ _.
    (let at = ap (λ ws. slice_get ws c.args.world) (sym (c.worlds.ensures ∙ ap worlds_of c.resolve.ensures)) ∙ c.get.ensures in
    let none : world_at c.args.self.now c.args.world ≡ None = ap (option_and_then plain_world) at ∙ sym c.in_ok-plain.ensures ∙ ap (option_map world_meaning) (none_plain c.in_ok-plain.field-0 c.in_default.not-Some) in
    IsWide.by_world c.args.world c.requires.chosen none)

pub returns-then-branch-clause-plain : goal.returns-then-branch-clause-plain
returns-then-branch-clause-plain c =
    let plain = world_meaning c.in-Some.plain in
    let main = c.requires.main in
    let at = ap (λ ws. slice_get ws c.args.world) (sym (c.worlds.ensures ∙ ap worlds_of c.resolve.ensures)) ∙ c.get.ensures in
    let world : world_at c.args.self.now c.args.world ≡ Some plain = ap (option_and_then plain_world) at ∙ sym c.in_ok-plain.ensures ∙ ap (option_map world_meaning) c.in-Some.is in
    record {
      chosen = (c.args.world, c.requires.chosen, world);
      here = not_wide c.args.self.now c.args.world plain main.handed (module_value c.args.main.now.core) c.requires.chosen world
          (no_imports c.args.self.now c.args.world plain main.handed (module_value c.args.main.now.core) c.requires.chosen world main.hands main.reads (c.in_ok-imports_fit.ensures.yes c.if-branch.true));
    }

pub returns-clause-wide : goal.returns-clause-wide
returns-clause-wide c = λ _.
    (let plain = world_meaning c.in-Some.plain in
    let main = c.requires.main in
    let at = ap (λ ws. slice_get ws c.args.world) (sym (c.worlds.ensures ∙ ap worlds_of c.resolve.ensures)) ∙ c.get.ensures in
    let world : world_at c.args.self.now c.args.world ≡ Some plain = ap (option_and_then plain_world) at ∙ sym c.in_ok-plain.ensures ∙ ap (option_map world_meaning) c.in-Some.is in
    let other = c.in_ok-imports_fit.ensures.no c.if-branch.false in
    IsWide.by_import (imports_beyond c.args.self.now c.args.world plain main.handed (module_value c.args.main.now.core) other.0 c.requires.chosen world main.hands main.reads other.1 other.2))
