use Rattle.std.proofs.Common.{sym, ap, ◌∙◌, ◌++◌, ◌∷◌, [], inl, inr}
use Rattle.std.proofs.lemmas.List.{append-nil}
use Rattle.std.proofs.lemmas.Result.{IfOk-weaker, IfErr-weaker, on_err_weaker, err_from_is_err_and}
use Rattle.component_value_types.specs.Types.{function, function_type_value}
use Rattle.component_definitions.specs.declared.externs.Description.TheVariants as descriptions
use Rattle.component_sections.specs.Passed.component_instances-Declarators.{declared_type, declared_export}
use Rattle.distinct_names.specs.Names.{is_new}
use Rattle.type_sinks.specs.Inside.{exported_names}
use Rattle.type_sinks.specs.Views.{inside, inside_names, inside_setting, IsSameInside}
use Rattle.type_writing.proofs.Standing.{in_either}
use Rattle.type_writing.proofs.Placing.{function_placed}
use Rattle.type_writing.proofs.Refusals.{cause_weaker}
use Rattle.type_sinks.proofs.Rooted.{ok_always}
use Rattle.type_sinks.proofs.Declared.{leaves_here, leaves_on, same_leaves, type_leaves, item_leaves, function_has, function_keeps, setting_same, names_after}
use Rattle.type_sinks.proofs.PlacedInside.{declared_type_placed, export_function_placed, type_is_there, same_inside_placed}
use Rattle.type_sinks.proofs.inside.InterfaceTypes.export_function.Goals as goal

pub returns-in_err-function-clause-begins : goal.returns-in_err-function-clause-begins
returns-in_err-function-clause-begins c = (leaves_here c.args.self.now).begins

pub returns-in_err-function-clause-cause : goal.returns-in_err-function-clause-cause
returns-in_err-function-clause-cause c =
    let moved = err_from_is_err_and c.from_residual.result c.from_residual.ensures.1 in
    rw (moved.1, moved.2)
    (cause_weaker inl (λ h. absurd h) c.in_err-function.field-0.0 c.in_err-function.ensures.cause)

pub returns-in_err-ty-clause-setting : goal.returns-in_err-ty-clause-setting
returns-in_err-ty-clause-setting c = let a = same_leaves c.args.self.now c.add.new.self c.in_err-ty.ensures.err in setting_same c.args.self.now c.add.new.self a.root a.interface

pub returns-in_err-ty-clause-begins : goal.returns-in_err-ty-clause-begins
returns-in_err-ty-clause-begins c = (same_leaves c.args.self.now c.add.new.self c.in_err-ty.ensures.err).begins

pub returns-in_err-ty-clause-good : goal.returns-in_err-ty-clause-good
returns-in_err-ty-clause-good c = (same_leaves c.args.self.now c.add.new.self c.in_err-ty.ensures.err).good

pub returns-in_err-ty-clause-keeps : goal.returns-in_err-ty-clause-keeps
returns-in_err-ty-clause-keeps c = λ types other params answer. function_keeps c.args.self.now c.add.new.self types other params answer (same_leaves c.args.self.now c.add.new.self c.in_err-ty.ensures.err)

pub returns-in_err-ty-clause-placed : goal.returns-in_err-ty-clause-placed
returns-in_err-ty-clause-placed c = λ types g apart. same_inside_placed c.args.self.now c.add.new.self c.in_err-ty.ensures.err

pub returns-in_err-ty-clause-cause : goal.returns-in_err-ty-clause-cause
returns-in_err-ty-clause-cause c =
    let moved = err_from_is_err_and c.from_residual-in_err-ty.result c.from_residual-in_err-ty.ensures.1 in
    rw (moved.1, moved.2)
    (cause_weaker (λ h. absurd h) inl c.in_err-ty.field-0.0 c.in_err-ty.ensures.cause)

pub returns : goal.returns
returns c =
    let old = c.args.self.now in
    let mid = c.add.new.self in
    let new = c.export_item.new.self in
    let d = function (function_type_value c.in_ok-function.function) in
    let n = c.args.name.now in
    let i = c.in_ok-ty.ty in
    let ty = c.in_ok-ty.ensures.ok in
    let r = c.export_item.result in
    let item = c.export_item.ensures in
    let same = names_after old mid (declared_type d) old.exports.items ty.1 ∙ append-nil (inside_names old) in
    let a = leaves_on old mid new (type_leaves old mid d ty.1) (in_either r _ (λ u h. item_leaves mid new n i h.0 h.1) (same_leaves mid new) item.ok item.err) in
    record {
      setting = setting_same old new a.root a.interface;
      root = a.root;
      table = in_either r _ (λ u h. h.1.known) (λ s. s.known) item.ok item.err ∙ c.in_ok-ty.ensures.known;
      exports = in_either r _ (λ u h. h.1.exports) (λ s. s.exports) item.ok item.err ∙ c.in_ok-ty.ensures.exports;
      names = ok_always r _ (λ u h. names_after mid new (declared_export n (descriptions.Function i)) mid.exports.items h.1 ∙ ap (λ l. l ++ n ∷ []) same) item.ok;
      err = on_err_weaker r (λ (s : IsSameInside mid new). ap exported_names s.declarators ∙ same) item.err;
      begins = a.begins;
      good = a.good;
      placed = λ types g apart p.
          let may = function_placed (inside_setting old).label types (inside old).types c.args.params.now c.args.answer.now d (c.in_ok-function.ensures.function types g) apart in
          let before = declared_type_placed old mid d old.exports.items may ty.1 p in
          in_either r _ (λ u h. export_function_placed mid new n i mid.exports.items h.0 (type_is_there old mid d i ty.0 ty.1) h.1 before) (λ s. same_inside_placed mid new s before) item.ok item.err;
      has = IfOk-weaker r _ _ (λ u h types g. function_has old mid new types c.args.params.now c.args.answer.now n d i ty.0 (c.in_ok-function.ensures.function types g) h.0 ty.1 h.1) item.ok;
      keeps = λ types other params answer. function_keeps old new types other params answer a;
      cause = IfErr-weaker r _ _ (cause_weaker (λ h. inr (ap (λ l. is_new l n) (sym same) ∙ h)) (λ h. absurd h)) item.cause;
    }
