use Rattle.std.proofs.Common.{refl, ap, ◌∙◌, inl}
use Rattle.std.proofs.lemmas.List.{append-nil}
use Rattle.std.proofs.lemmas.Result.{IfOk-weaker, IfErr-weaker, on_err_weaker}
use Rattle.component_value_types.specs.Types.{defined_type_value}
use Rattle.component_sections.specs.Passed.component_instances-Declarators.{declared_type}
use Rattle.type_writing.proofs.Standing.{in_either}
use Rattle.type_writing.proofs.Refusals.{cause_weaker}
use Rattle.type_sinks.specs.Kept.{index_of}
use Rattle.type_sinks.specs.Views.{root_scope, declarator_values, inside, inside_names}
use Rattle.type_sinks.proofs.Insides.{type_stays, unnamed_distinct}
use Rattle.type_sinks.proofs.Declared.{inside_stays, types_after, setting_after, names_after, index_after, stepped, given_same, root_stays_outside}
use Rattle.type_sinks.proofs.PlacedInside.{declared_type_placed, same_inside_placed}
use Rattle.type_sinks.proofs.inside.InterfaceTypesValtypeEncoder.define.Goals as goal

pub returns : goal.returns
returns c =
    let old = c.args.self.now in
    let new = c.add.new.self in
    let ty = defined_type_value c.args.ty in
    let d = declared_type ty in
    let ids = old.exports.items in
    let r = c.add.result in
    let a = c.add.ensures in
    let stays = inside_stays old new in
    record {
      setting = in_either r _ (λ i h. setting_after old new d ids h.1) (λ s. (stays s).setting) a.ok a.err;
      outside = root_stays_outside old new (in_either r _ (λ i h. h.1.root) (λ s. s.root) a.ok a.err);
      table = ap index_of a.known;
      names = in_either r _ (λ i h. names_after old new d ids h.1 ∙ append-nil (inside_names old)) (λ s. (stays s).names) a.ok a.err;
      keeps = λ k g. given_same old new k a.exports g;
      good = in_either r _ (λ i h types. stepped old new d types h.1 (unnamed_distinct (declarator_values old) (declarator_values new) d h.1.declarators refl) (type_stays (root_scope old.root).types (inside old) ty)) (λ s. (stays s).good) a.ok a.err;
      placed = λ may p. in_either r _ (λ i h. declared_type_placed old new ty ids may h.1 p) (λ s. same_inside_placed old new s p) a.ok a.err;
      ok = IfOk-weaker r _ _ (λ i h. (index_after old i h.0, types_after old new d ids h.1)) a.ok;
      err = on_err_weaker r (λ s. (stays s).types) a.err;
      cause = IfErr-weaker r _ _ (cause_weaker (λ h. h) (λ h. inl h)) a.cause;
    }
